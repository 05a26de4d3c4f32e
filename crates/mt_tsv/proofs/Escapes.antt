-- A text, run by run between its backslashes.
use Rattle.std.proofs.Common.{◌≡◌, ℕ, List, [], ◌∷◌, ◌++◌, Option, Some, None, Result, Ok, Err, refl, sym, ap, ◌∙◌, eqb, true, false, inl, inr}
use Rattle.std.specs.List.{slice_split, onto_first}
use Rattle.std.proofs.lemmas.Bool.{cases_Bool}
use Rattle.std.proofs.lemmas.List.{append-nil}
use Rattle.std.proofs.lemmas.List.Splits.{slice_split-cons_yes, slice_split-cons_no, join_with_byte-slice_split}
use Rattle.std.specs.List.{join_with_byte}
use Rattle.mt_facts.proofs.Splits.{split_cons}
use Rattle.mt_tsv.specs.declared.ascii.TheConstants.{BACKSLASH}
use Rattle.mt_tsv.specs.declared.fault.RowWhy.{RowWhy}
use Rattle.mt_tsv.specs.declared.fault.RowWhy.TheVariants.{Escape}
use Rattle.mt_types.specs.Steps.{onto}
use Rattle.mt_tsv.specs.Reading.{parts}
use Rattle.mt_tsv.specs.Texts.{escaped_byte, text_of, text_after_backslash}
use Rattle.mt_tsv.proofs.Prefixes.{with_prefix, with_prefix-onto, with_prefix-nil, with_prefix-append, onto_prefix}

-- what is read from a backslash on, if there is one
abbrev pub text_from : Option (List ℕ) → Result (List ℕ) RowWhy
text_from (Some rest) = text_after_backslash rest
text_from None = Ok []

abbrev Cut : List ℕ → List ℕ → Option (List ℕ) → Type 0
Cut bytes run rest = slice_split (λ b. eqb b BACKSLASH) bytes ≡ run ∷ parts BACKSLASH rest

at_backslash : (x : ℕ) (bytes run : List ℕ) (rest : Option (List ℕ)) → eqb x BACKSLASH ≡ true → Cut (x ∷ bytes) run rest → text_of (x ∷ bytes) ≡ with_prefix run (text_from rest)
unfolding text_of
at_backslash x bytes run None is cut =
    let s = slice_split-cons_yes (λ b. eqb b BACKSLASH) x bytes is in
    let more = split_cons (λ b. eqb b BACKSLASH) bytes in
    absurd (let e : [] ∷ (more.0 ∷ more.1) ≡ run ∷ [] = ap (λ (t : List (List ℕ)). [] ∷ t) (sym more.2) ∙ sym s ∙ cut in cc)
at_backslash x bytes run (Some rest) is cut =
    let s = slice_split-cons_yes (λ b. eqb b BACKSLASH) x bytes is in
    let e : [] ∷ slice_split (λ b. eqb b BACKSLASH) bytes ≡ run ∷ slice_split (λ b. eqb b BACKSLASH) rest = sym s ∙ cut in
    let empty : run ≡ [] = cc in
    let same : slice_split (λ b. eqb b BACKSLASH) bytes ≡ slice_split (λ b. eqb b BACKSLASH) rest = cc in
    let here : bytes ≡ rest = sym (join_with_byte-slice_split BACKSLASH bytes) ∙ ap (join_with_byte BACKSLASH) same ∙ join_with_byte-slice_split BACKSLASH rest in
    rw (is, empty, here) (sym (with_prefix-nil (text_after_backslash rest)))

before_backslash : (x : ℕ) (bytes part : List ℕ) (more : List (List ℕ)) (run : List ℕ) (rest : Option (List ℕ)) → eqb x BACKSLASH ≡ false → slice_split (λ b. eqb b BACKSLASH) bytes ≡ part ∷ more
    → Cut (x ∷ bytes) run rest → (run ≡ x ∷ part) × Cut bytes part rest
before_backslash x bytes part more run rest not here cut =
    let e : (x ∷ part) ∷ more ≡ run ∷ parts BACKSLASH rest = sym (ap (onto_first x) here) ∙ sym (slice_split-cons_no (λ b. eqb b BACKSLASH) x bytes not) ∙ cut in
    let first : run ≡ x ∷ part = cc in
    let others : more ≡ parts BACKSLASH rest = cc in
    (first, here ∙ ap (λ (t : List (List ℕ)). part ∷ t) others)

pub text_run : (bytes run : List ℕ) (rest : Option (List ℕ)) → Cut bytes run rest → text_of bytes ≡ with_prefix run (text_from rest)
unfolding text_of
text_run [] run None cut = let empty : run ≡ [] = cc in rw empty refl
text_run [] run (Some rest) cut =
    let more = split_cons (λ b. eqb b BACKSLASH) rest in
    absurd (let e : [] ∷ [] ≡ run ∷ (more.0 ∷ more.1) = cut ∙ ap (λ (t : List (List ℕ)). run ∷ t) more.2 in cc)
text_run (x ∷ bytes) run rest cut =
    elim (cases_Bool (eqb x BACKSLASH)) [
      | inl is ↦ at_backslash x bytes run rest is cut
      | inr not ↦
          let part = split_cons (λ b. eqb b BACKSLASH) bytes in
          let b = before_backslash x bytes part.0 part.1 run rest not part.2 cut in
          let more = text_run bytes part.0 rest b.1 in
          rw (not, b.0, more) (onto_prefix x part.0 (text_from rest))
    ]

pub escape_more : (prefix bytes run rest : List ℕ) (letter : ℕ) (after : List ℕ) (x : ℕ) (whole : Result (List ℕ) RowWhy) → Cut bytes run (Some rest) → rest ≡ letter ∷ after → escaped_byte letter ≡ Some x
    → with_prefix prefix (text_of bytes) ≡ whole → with_prefix ((prefix ++ run) ++ x ∷ []) (text_of after) ≡ whole
unfolding text_after_backslash
escape_more prefix bytes run rest letter after x whole cut f g h =
    let one : text_after_backslash rest ≡ onto x (text_of after) = ap text_after_backslash f ∙ rw g refl in
    sym (with_prefix-onto (prefix ++ run) x (text_of after)) ∙ ap (with_prefix (prefix ++ run)) (sym one) ∙ sym (with_prefix-append prefix run (text_after_backslash rest)) ∙ ap (with_prefix prefix) (sym (text_run bytes run (Some rest) cut)) ∙ h

pub escape_cut : (prefix bytes run rest : List ℕ) (whole : Result (List ℕ) RowWhy) → Cut bytes run (Some rest) → rest ≡ [] → with_prefix prefix (text_of bytes) ≡ whole → whole ≡ Err Escape
unfolding text_after_backslash
escape_cut prefix bytes run rest whole cut f h =
    let one : text_after_backslash rest ≡ Err Escape = ap text_after_backslash f in
    sym h ∙ ap (with_prefix prefix) (text_run bytes run (Some rest) cut ∙ ap (with_prefix run) one)

pub escape_bad : (prefix bytes run rest : List ℕ) (letter : ℕ) (after : List ℕ) (whole : Result (List ℕ) RowWhy) → Cut bytes run (Some rest) → rest ≡ letter ∷ after → escaped_byte letter ≡ None
    → with_prefix prefix (text_of bytes) ≡ whole → whole ≡ Err Escape
unfolding text_after_backslash
escape_bad prefix bytes run rest letter after whole cut f g h =
    let one : text_after_backslash rest ≡ Err Escape = ap text_after_backslash f ∙ rw g refl in
    sym h ∙ ap (with_prefix prefix) (text_run bytes run (Some rest) cut ∙ ap (with_prefix run) one)

pub text_done : (prefix bytes run : List ℕ) (whole : Result (List ℕ) RowWhy) → Cut bytes run None → with_prefix prefix (text_of bytes) ≡ whole → whole ≡ Ok (prefix ++ run)
text_done prefix bytes run whole cut h =
    sym h ∙ ap (with_prefix prefix) (text_run bytes run None cut) ∙ ap (λ (t : List ℕ). let r : Result (List ℕ) RowWhy = Ok (prefix ++ t) in r) (append-nil run)
