-- The token that is read is the longest.
use Rattle.std.proofs.Common.{◌≡◌, ℕ, ◌≤◌, List, [], ◌++◌, length, take, drop, Option, Some, None, refl, sym, ap, subst, ◌∙◌, arith}
use Rattle.std.proofs.lemmas.List.{length-append}
use Rattle.mt_tokens.specs.Tokens.{Tok}
use Rattle.mt_tokens.specs.Lexis.{token_at}
use Rattle.mt_tokens.specs.Writing.{IsWritten, IsLongest}
use Rattle.mt_tokens.proofs.WrittenTokens.{Leaves, take_all_front, drop_all_front, written_leaves, written_is_read}
use Rattle.mt_tokens.proofs.ReadTokens.{IsRead, token_is_read}

two_fronts : (a b x y : List ℕ) → a ++ x ≡ b ++ y → length a ≡ length b → (a ≡ b) × (x ≡ y)
two_fronts a b x y e n = (
  sym (take_all_front a x) ∙ ap (take (length a)) e ∙ ap (λ (k : ℕ). take k (b ++ y)) n ∙ take_all_front b y,
  sym (drop_all_front a x) ∙ ap (drop (length a)) e ∙ ap (λ (k : ℕ). drop k (b ++ y)) n ∙ drop_all_front b y,
)

no_longer : (text : List ℕ) (token : Tok) (bytes rest : List ℕ) → token_at text ≡ Some (token, rest) → text ≡ bytes ++ rest
    → (other : Tok) (others after : List ℕ) → IsWritten other others → text ≡ others ++ after → length others ≤ length bytes
no_longer text token bytes rest e begins other others after is also =
    let leaves : Leaves (length after) (token_at text) = rw also (written_leaves other others after is) in
    let P : Option (Tok × List ℕ) → Type 0 = λ o. Leaves (length after) o in
    let fewer : length rest ≤ length after = subst P e leaves in
    omega (arith, fewer, ap length begins ∙ length-append bytes rest, ap length also ∙ length-append others after)

pub read_is_longest : (text : List ℕ) (token : Tok) (rest : List ℕ) → token_at text ≡ Some (token, rest) → IsLongest text token rest
read_is_longest text token rest e =
    let P : Option (Tok × List ℕ) → Type 0 = λ o. IsRead text o in
    let r : (bytes : List ℕ) × (IsWritten token bytes) × (text ≡ bytes ++ rest) = subst P e (token_is_read text) in
    record { bytes = r.0; is_written = r.1; begins = r.2; longest = no_longer text token r.0 rest e r.2 }

module _ (text : List ℕ) (token : Tok) (rest : List ℕ) (l : IsLongest text token rest) where
  same_token : (other : Tok) (others : List ℕ) → IsWritten other others → l.bytes ≡ others → other ≡ token
  same_token other others is same =
      let both : (let o : Option (Tok × List ℕ) = Some (other, []) in o) ≡ Some (token, []) = sym (written_is_read other others is) ∙ ap token_at (sym same) ∙ written_is_read token l.bytes l.is_written in
      let pair : (let p : Tok × List ℕ = (other, []) in p) ≡ (token, []) = cc in
      ap (λ (p : Tok × List ℕ). p.0) pair

  read_of : (o : Option (Tok × List ℕ)) → token_at text ≡ o → Leaves (length rest) o → IsRead text o → o ≡ Some (token, rest)
  read_of None e leaves r = absurd leaves
  read_of (Some x) e leaves r =
      let below = l.longest x.0 r.0 x.1 r.1 r.2 in
      let one = ap length l.begins ∙ length-append l.bytes rest in
      let two = ap length r.2 ∙ length-append r.0 x.1 in
      let n : length l.bytes ≡ length r.0 = omega (arith, below, leaves, one, two) in
      let same = two_fronts l.bytes r.0 rest x.1 (sym l.begins ∙ r.2) n in
      let is : x.0 ≡ token = same_token x.0 r.0 r.1 same.0 in
      ap (λ (t : Tok). let o : Option (Tok × List ℕ) = Some (t, x.1) in o) is ∙ ap (λ (t : List ℕ). let o : Option (Tok × List ℕ) = Some (token, t) in o) (sym same.1)

  pub longest_is_read : token_at text ≡ Some (token, rest)
  longest_is_read =
      let leaves : Leaves (length rest) (token_at text) = rw l.begins (written_leaves token l.bytes rest l.is_written) in
      read_of (token_at text) refl leaves (token_is_read text)
