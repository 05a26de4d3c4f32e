-- Splitting at the first separator, by its position and as lines.
use Rattle.std.proofs.Common.{◌≡◌, ℕ, ◌+◌, ◌<◌, ◌≤◌, Bool, ltb, eqb, List, [], ◌∷◌, length, take, drop, suc, Option, Some, None, refl, ap, ◌∙◌, arith, inl, inr}
use Rattle.std.specs.Prelude.{position, option_map}
use Rattle.std.specs.List.{slice_split, position_or_len, onto_first as onto_part}
use Rattle.std.proofs.lemmas.Bool.{cases_Bool, ltb-true, ltb-false}
use Rattle.std.proofs.lemmas.Option.{cond_some}
use Rattle.std.proofs.lemmas.List.Splits.{slice_split-cons_yes, slice_split-cons_no}
use Rattle.mt_facts.proofs.Splits.{chosen_none}
use Rattle.mt_meta.specs.Splitting.{onto_before, split_once}

abbrev pub at_byte : ℕ → ℕ → Bool
at_byte separator byte = eqb byte separator

-- ---- by the position

none_within : (separator : ℕ) (bytes : List ℕ) → length bytes ≤ position_or_len (at_byte separator) bytes → split_once separator bytes ≡ None
none_within separator [] h = refl
none_within separator (byte ∷ bytes) h =
    elim (cases_Bool (eqb byte separator)) [
      | inl is ↦ absurd (let k = rw is at h in omega (arith, k))
      | inr not ↦ rw not (ap (option_map (onto_before byte)) (none_within separator bytes (let k = rw not at h in omega (arith, k))))
    ]

one_later : (byte : ℕ) (bytes : List ℕ) (n k : ℕ) → k ≡ n + 1
    → (let o : Option (List ℕ × List ℕ) = Some (byte ∷ take n bytes, drop (n + 1) bytes) in o) ≡ Some (take k (byte ∷ bytes), drop (k + 1) (byte ∷ bytes))
one_later byte bytes n k e =
    let one : k ≡ suc n = omega (arith, e) in
    let two : k + 1 ≡ suc (n + 1) = omega (arith, e) in
    rw (two, one) refl

some_within : (separator : ℕ) (bytes : List ℕ) → position_or_len (at_byte separator) bytes < length bytes
    → split_once separator bytes ≡ Some (take (position_or_len (at_byte separator) bytes) bytes, drop (position_or_len (at_byte separator) bytes + 1) bytes)
some_within separator [] h = absurd (omega arith)
some_within separator (byte ∷ bytes) h =
    elim (cases_Bool (eqb byte separator)) [
      | inl is ↦ rw is refl
      | inr not ↦ rw not (ap (option_map (onto_before byte)) (some_within separator bytes (let k = rw not at h in omega (arith, k)))
          ∙ one_later byte bytes (position_or_len (at_byte separator) bytes) _ (omega arith))
    ]

pub once_none : (separator : ℕ) (bytes : List ℕ) → position (at_byte separator) bytes ≡ None → split_once separator bytes ≡ None
once_none separator bytes e =
    none_within separator bytes (ltb-false (position_or_len (at_byte separator) bytes) (length bytes) (chosen_none (ltb (position_or_len (at_byte separator) bytes) (length bytes)) (position_or_len (at_byte separator) bytes) e))

pub once_some : (separator : ℕ) (bytes : List ℕ) (i : ℕ) → position (at_byte separator) bytes ≡ Some i → split_once separator bytes ≡ Some (take i bytes, drop (i + 1) bytes)
once_some separator bytes i e =
    let s = cond_some (ltb (position_or_len (at_byte separator) bytes) (length bytes)) (position_or_len (at_byte separator) bytes) i e in
    rw (← s.1) (some_within separator bytes (ltb-true (position_or_len (at_byte separator) bytes) (length bytes) s.0))

-- ---- as lines

pub lines_end : (separator : ℕ) (bytes : List ℕ) → split_once separator bytes ≡ None → slice_split (at_byte separator) bytes ≡ bytes ∷ []
lines_end separator [] e = refl
lines_end separator (byte ∷ bytes) e =
    elim (cases_Bool (eqb byte separator)) [
      | inl is ↦ absurd (let k = rw is at e in cc)
      | inr not ↦ let k = rw not at e in slice_split-cons_no (at_byte separator) byte bytes not ∙ ap (onto_part byte) (lines_end separator bytes (inner_none _ _ k))
    ]
  where
    inner_none : (byte : ℕ) (o : Option (List ℕ × List ℕ)) → option_map (onto_before byte) o ≡ None → o ≡ None
    inner_none byte None e = refl
    inner_none byte (Some x) e = cc

pub lines_more : (separator : ℕ) (bytes before after : List ℕ) → split_once separator bytes ≡ Some (before, after) → slice_split (at_byte separator) bytes ≡ before ∷ slice_split (at_byte separator) after
lines_more separator [] before after e = cc
lines_more separator (byte ∷ bytes) before after e =
    elim (cases_Bool (eqb byte separator)) [
      | inl is ↦ let k = rw is at e in slice_split-cons_yes (at_byte separator) byte bytes is ∙ here k
      | inr not ↦ let k = rw not at e in slice_split-cons_no (at_byte separator) byte bytes not ∙ later (split_once separator bytes) refl (lines_more separator bytes) k
    ]
  where
    here : (let o : Option (List ℕ × List ℕ) = Some ([], bytes) in o) ≡ Some (before, after) → [] ∷ slice_split (at_byte separator) bytes ≡ before ∷ slice_split (at_byte separator) after
    here k = let one : (let p : List ℕ × List ℕ = ([], bytes) in p) ≡ (before, after) = cc in ap (λ (p : List ℕ × List ℕ). p.0 ∷ slice_split (at_byte separator) p.1) one

    later : (o : Option (List ℕ × List ℕ)) → split_once separator bytes ≡ o
        → ((before after : List ℕ) → split_once separator bytes ≡ Some (before, after) → slice_split (at_byte separator) bytes ≡ before ∷ slice_split (at_byte separator) after)
        → option_map (onto_before byte) o ≡ Some (before, after) → onto_part byte (slice_split (at_byte separator) bytes) ≡ before ∷ slice_split (at_byte separator) after
    later None is more k = cc
    later (Some (first, rest)) is more k =
        let one : (let p : List ℕ × List ℕ = (byte ∷ first, rest) in p) ≡ (before, after) = cc in
        ap (onto_part byte) (more first rest is) ∙ ap (λ (p : List ℕ × List ℕ). p.0 ∷ slice_split (at_byte separator) p.1) one
