-- A text up to its quote, byte by byte, and without its escapes, run by run.
use Rattle.std.proofs.Common.{◌≡◌, ℕ, suc, ◌+◌, Bool, true, false, not, eqb, List, [], ◌∷◌, ◌++◌, take, drop, Option, Some, None, refl, sym, ap, ◌∙◌, append_assoc, arith, inl, inr}
use Rattle.std.specs.List.{prefix_len}
use Rattle.std.proofs.lemmas.Bool.{cases_Bool, eq-eqb, ne_eqb}
use Rattle.std.proofs.lemmas.List.{append-nil}
use Rattle.mt_tokens.specs.declared.ascii.TheConstants.{QUOTE, BACKSLASH}
use Rattle.mt_tokens.specs.Texts.{is_escape, byte_of, plus, text_len, escape_len, unescaped, after_backslash}

-- ---- where a text ends

plus_plus : (a b : ℕ) (o : Option ℕ) → plus a (plus b o) ≡ plus (a + b) o
plus_plus a b None = refl
plus_plus a b (Some n) = ap (λ (k : ℕ). let o : Option ℕ = Some k in o) (omega arith)

module _ (count : ℕ) (bytes : List ℕ) (c : ℕ) (rest : List ℕ) (whole : Option ℕ) (here : bytes ≡ c ∷ rest) (so_far : plus count (text_len bytes) ≡ whole) where
  pub text_ends : c ≡ QUOTE → Some count ≡ whole
  unfolding text_len
  text_ends is =
      let one : text_len bytes ≡ Some 0 = ap text_len here ∙ rw (eq-eqb c QUOTE is) refl in
      ap (λ (k : ℕ). let o : Option ℕ = Some k in o) (omega arith) ∙ sym (ap (plus count) one) ∙ so_far

  module _ (no_quote : c ≡ QUOTE → ⊥) where
    pub text_goes_on : (c ≡ BACKSLASH → ⊥) → plus (count + 1) (text_len rest) ≡ whole
    unfolding text_len
    text_goes_on no_backslash =
        let one : text_len bytes ≡ plus 1 (text_len rest) = ap text_len here ∙ rw (ne_eqb c QUOTE no_quote, ne_eqb c BACKSLASH no_backslash) refl in
        sym (plus_plus count 1 (text_len rest)) ∙ sym (ap (plus count) one) ∙ so_far

    module _ (is : c ≡ BACKSLASH) where
      escapes : text_len bytes ≡ escape_len rest
      unfolding text_len
      escapes = ap text_len here ∙ rw (ne_eqb c QUOTE no_quote, eq-eqb c BACKSLASH is) refl

      pub escape_is_cut : rest ≡ [] → None ≡ whole
      unfolding escape_len
      escape_is_cut none = sym (ap (plus count) (escapes ∙ ap escape_len none)) ∙ so_far

      module _ (letter : ℕ) (behind : List ℕ) (next : rest ≡ letter ∷ behind) where
        pub escape_is_bad : is_escape letter ≡ false → None ≡ whole
        unfolding escape_len
        escape_is_bad bad =
            let one : escape_len rest ≡ None = ap escape_len next ∙ rw bad refl in
            sym (ap (plus count) (escapes ∙ one)) ∙ so_far

        pub escape_goes_on : is_escape letter ≡ true → plus (count + 2) (text_len behind) ≡ whole
        unfolding escape_len
        escape_goes_on good =
            let one : escape_len rest ≡ plus 2 (text_len behind) = ap escape_len next ∙ rw good refl in
            sym (plus_plus count 2 (text_len behind)) ∙ sym (ap (plus count) (escapes ∙ one)) ∙ so_far

pub text_is_open : (count : ℕ) (bytes : List ℕ) (whole : Option ℕ) → bytes ≡ [] → plus count (text_len bytes) ≡ whole → None ≡ whole
unfolding text_len
text_is_open count bytes whole none so_far = sym (ap (plus count) (ap text_len none)) ∙ so_far

-- ---- what a text stands for

-- a byte that stands for itself
abbrev pub is_itself : ℕ → Bool
is_itself c = not (eqb c BACKSLASH)

abbrev pub run : List ℕ → List ℕ
run bytes = take (prefix_len is_itself bytes) bytes

abbrev pub behind_run : List ℕ → List ℕ
behind_run bytes = drop (prefix_len is_itself bytes) bytes

pub unescaped_run : (bytes : List ℕ) → unescaped bytes ≡ run bytes ++ unescaped (behind_run bytes)
unfolding unescaped
unescaped_run [] = refl
unescaped_run (c ∷ rest) =
    let k : 1 + prefix_len is_itself rest ≡ suc (prefix_len is_itself rest) = omega arith in
    elim (cases_Bool (eqb c BACKSLASH)) [
      | inl is ↦ rw (is, is) refl
      | inr other ↦ rw (other, k, unescaped_run rest) refl
    ]

pub begins_with_backslash : (bytes : List ℕ) (c : ℕ) (rest : List ℕ) → behind_run bytes ≡ c ∷ rest → eqb c BACKSLASH ≡ true
begins_with_backslash [] c rest e = absurd cc
begins_with_backslash (d ∷ bytes) c rest e =
    let k : 1 + prefix_len is_itself bytes ≡ suc (prefix_len is_itself bytes) = omega arith in
    elim (cases_Bool (eqb d BACKSLASH)) [
      | inl is ↦ let here : d ∷ bytes ≡ c ∷ rest = rw is at e in let same : d ≡ c = cc in rw (← same) is
      | inr other ↦ begins_with_backslash bytes c rest (rw (other, k) at e)
    ]

module _ (before bytes : List ℕ) (whole : List ℕ) (so_far : before ++ unescaped bytes ≡ whole) where
  up_to_run : (before ++ run bytes) ++ unescaped (behind_run bytes) ≡ whole
  up_to_run = append_assoc before (run bytes) (unescaped (behind_run bytes)) ∙ sym (ap (λ (t : List ℕ). before ++ t) (unescaped_run bytes)) ∙ so_far

  pub unescaped_ends : behind_run bytes ≡ [] → before ++ run bytes ≡ whole
  unfolding unescaped
  unescaped_ends none = sym (append-nil (before ++ run bytes)) ∙ ap (λ (t : List ℕ). (before ++ run bytes) ++ unescaped t) (sym none) ∙ up_to_run

  module _ (c : ℕ) (rest : List ℕ) (here : behind_run bytes ≡ c ∷ rest) where
    from_backslash : (before ++ run bytes) ++ after_backslash rest ≡ whole
    unfolding unescaped
    from_backslash =
        let one : unescaped (behind_run bytes) ≡ after_backslash rest = ap unescaped here ∙ rw (begins_with_backslash bytes c rest here) refl in
        ap (λ (t : List ℕ). (before ++ run bytes) ++ t) (sym one) ∙ up_to_run

    pub unescaped_is_cut : rest ≡ [] → before ++ run bytes ≡ whole
    unfolding after_backslash
    unescaped_is_cut none = sym (append-nil (before ++ run bytes)) ∙ ap (λ (t : List ℕ). (before ++ run bytes) ++ after_backslash t) (sym none) ∙ from_backslash

    pub unescaped_goes_on : (letter : ℕ) (after : List ℕ) → rest ≡ letter ∷ after → ((before ++ run bytes) ++ byte_of letter ∷ []) ++ unescaped after ≡ whole
    unfolding after_backslash
    unescaped_goes_on letter after next =
        append_assoc (before ++ run bytes) (byte_of letter ∷ []) (unescaped after) ∙ ap (λ (t : List ℕ). (before ++ run bytes) ++ after_backslash t) (sym next) ∙ from_backslash
