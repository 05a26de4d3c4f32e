-- Column lines, one after the other.
use Rattle.std.proofs.Common.{◌≡◌, ℕ, ◌+◌, Bool, true, false, List, [], ◌∷◌, length, Option, Some, None, refl, sym, ap, ◌∙◌, arith}
use denote.Ref.{Bor}
use Rattle.std.specs.Prelude.{option_map, option_and_then, ◌&&◌}
use Rattle.std.specs.Str.{bytes_eq}
use Rattle.std.specs.List.{slice_split}
use Rattle.std.proofs.lemmas.Bool.{eq-eqb, ne_eqb}
use Rattle.mt_facts.proofs.Splits.{split_cons}
use Rattle.mt_meta.specs.declared.ascii.TheConstants.{LINE_END}
use Rattle.mt_meta.specs.Splitting.{split_once}
use Rattle.mt_meta.specs.ColumnsReading.{is_column_line, column_lines, version_line, count_line, if_headed, listed_lines, listing}
use Rattle.mt_meta.specs.Results.{GivesListing}
use Rattle.mt_meta.proofs.SplitLemmas.{at_byte, lines_end, lines_more}

-- the first line is a column line, and others follow it
pub lines_step : (lines : List (List ℕ)) (line after : List ℕ) (p : ℕ → Bool) → lines ≡ line ∷ slice_split p after → is_column_line line ≡ true
    → column_lines lines ≡ option_map (λ later. line ∷ later) (column_lines (slice_split p after))
unfolding column_lines
lines_step lines line after p e is = let s = split_cons p after in ap column_lines e ∙ rw (s.2, is) refl

pub lines_bad : (lines : List (List ℕ)) (line after : List ℕ) (p : ℕ → Bool) → lines ≡ line ∷ slice_split p after → is_column_line line ≡ false → column_lines lines ≡ None
unfolding column_lines
lines_bad lines line after p e not = let s = split_cons p after in ap column_lines e ∙ rw (s.2, not) refl

pub lines_ended : (lines : List (List ℕ)) (rest : List ℕ) → lines ≡ rest ∷ [] → length rest ≡ 0 → column_lines lines ≡ Some []
unfolding column_lines
lines_ended lines rest e z = rw (e, eq-eqb (length rest) 0 z) refl

pub lines_cut : (lines : List (List ℕ)) (rest : List ℕ) → lines ≡ rest ∷ [] → (length rest ≡ 0 → ⊥) → column_lines lines ≡ None
unfolding column_lines
lines_cut lines rest e z = rw (e, ne_eqb (length rest) 0 z) refl

-- ---- how many they are, after some

abbrev pub counted : ℕ → Option (List (List ℕ)) → Option ℕ
counted before lines = option_map (λ count. before + count) (option_map length lines)

counted_zero : (lines : Option (List (List ℕ))) → counted 0 lines ≡ option_map length lines
counted_zero None = refl
counted_zero (Some lines) = ap (λ (n : ℕ). let o : Option ℕ = Some n in o) (omega arith)

counted_onto : (before : ℕ) (line : List ℕ) (lines : Option (List (List ℕ))) → counted before (option_map (λ later. line ∷ later) lines) ≡ counted (before + 1) lines
counted_onto before line None = refl
counted_onto before line (Some lines) = ap (λ (n : ℕ). let o : Option ℕ = Some n in o) (omega arith)

pub counted_start : (lines : List (List ℕ)) → counted 0 (column_lines lines) ≡ option_map length (column_lines lines)
counted_start lines = counted_zero (column_lines lines)

pub counted_more : (before : ℕ) (lines : List (List ℕ)) (line after : List ℕ) (p : ℕ → Bool) (whole : Option ℕ) → lines ≡ line ∷ slice_split p after → is_column_line line ≡ true
    → counted before (column_lines lines) ≡ whole → counted (before + 1) (column_lines (slice_split p after)) ≡ whole
counted_more before lines line after p whole e is h =
    sym (counted_onto before line (column_lines (slice_split p after))) ∙ ap (counted before) (sym (lines_step lines line after p e is)) ∙ h

pub counted_none : (before : ℕ) (lines : List (List ℕ)) (whole : Option ℕ) → column_lines lines ≡ None → counted before (column_lines lines) ≡ whole → whole ≡ None
counted_none before lines whole none h = sym h ∙ ap (counted before) none

pub counted_end : (before : ℕ) (lines : List (List ℕ)) (whole : Option ℕ) → column_lines lines ≡ Some [] → counted before (column_lines lines) ≡ whole → whole ≡ Some before
counted_end before lines whole done h = sym h ∙ ap (counted before) done ∙ ap (λ (n : ℕ). let o : Option ℕ = Some n in o) (omega arith)

-- ---- the listing of a text

abbrev pub split : List ℕ → List (List ℕ)
split text = slice_split (at_byte LINE_END) text

pub listing_first : (text : List ℕ) → split_once LINE_END text ≡ None → listing text ≡ None
listing_first text e = ap listed_lines (lines_end LINE_END text e)

pub listing_second : (text version rest : List ℕ) → split_once LINE_END text ≡ Some (version, rest) → split_once LINE_END rest ≡ None → listing text ≡ None
unfolding column_lines
listing_second text version rest e f = ap listed_lines (lines_more LINE_END text version rest e ∙ ap (λ (lines : List (List ℕ)). version ∷ lines) (lines_end LINE_END rest f))

pub listing_is : (text version rest count lines : List ℕ) → split_once LINE_END text ≡ Some (version, rest) → split_once LINE_END rest ≡ Some (count, lines)
    → listing text ≡ option_and_then (if_headed version count) (column_lines (split lines))
listing_is text version rest count lines e f =
    ap listed_lines (lines_more LINE_END text version rest e ∙ ap (λ (lines : List (List ℕ)). version ∷ lines) (lines_more LINE_END rest count lines f))

none_of : (lines : Option (List (List ℕ))) → None ≡ option_map length lines → lines ≡ None
none_of None e = refl
none_of (Some lines) e = cc

some_of : (n : ℕ) (lines : Option (List (List ℕ))) → Some n ≡ option_map length lines → (found : List (List ℕ)) × (lines ≡ Some found) × (n ≡ length found)
some_of n None e = cc
some_of n (Some lines) e = (lines, refl, cc)

-- the lines are no column lines
pub listing_none : (text version count lines : List ℕ) → listing text ≡ option_and_then (if_headed version count) (column_lines (split lines))
    → None ≡ option_map length (column_lines (split lines)) → listing text ≡ None
listing_none text version count lines e f = e ∙ ap (option_and_then (if_headed version count)) (none_of _ f)

-- they are, so many: then the two lines before them decide
pub listing_unless : (text version count lines : List ℕ) (n : ℕ) (headed : Bool) → listing text ≡ option_and_then (if_headed version count) (column_lines (split lines))
    → Some n ≡ option_map length (column_lines (split lines)) → headed ≡ false → (bytes_eq version version_line && bytes_eq count (count_line n)) ≡ headed → listing text ≡ None
listing_unless text version count lines n headed e f bad is =
    let s = some_of n (column_lines (split lines)) f in
    let no : (bytes_eq version version_line && bytes_eq count (count_line (length s.0))) ≡ false = rw (← s.2) (is ∙ bad) in
    e ∙ ap (option_and_then (if_headed version count)) s.1 ∙ rw no refl

pub listing_found : (text version count : List ℕ) (lines : Bor (List ℕ)) (n : ℕ) → listing text ≡ option_and_then (if_headed version count) (column_lines (split lines.now))
    → Some n ≡ option_map length (column_lines (split lines.now)) → bytes_eq version version_line ≡ true → bytes_eq count (count_line n) ≡ true → GivesListing (Some (lines, n)) (listing text)
listing_found text version count lines n e f first second =
    let s = some_of n (column_lines (split lines.now)) f in
    let all : (bytes_eq version version_line && bytes_eq count (count_line (length s.0))) ≡ true = rw (← s.2, first) second in
    (s.0, e ∙ ap (option_and_then (if_headed version count)) s.1 ∙ rw all refl, s.1, s.2)
