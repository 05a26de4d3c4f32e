-- A text that is read lists columns that it may list.
use Rattle.std.proofs.Common.{◌≡◌, ℕ, ◌<◌, Bool, true, false, List, [], ◌∷◌, ◌++◌, length, get_or, map, Option, Some, None, Ok, refl, sym, ap, ◌∙◌, arith, append_assoc}
use Rattle.std.specs.Prelude.{option_map, option_and_then, if◌then◌else◌, ◌&&◌, position}
use Rattle.std.specs.Str.{bytes_eq}
use Rattle.std.specs.List.{slice_split, join_with_byte, flat_map}
use Rattle.std.proofs.lemmas.Slice.Eq.{bytes_eq-Decides}
use Rattle.std.proofs.lemmas.List.{length-map, get_or-map}
use Rattle.std.proofs.lemmas.List.Splits.{join_with_byte-slice_split}
use Rattle.std.proofs.lemmas.List.Quantifiers.{position-Some}
use Rattle.mt_fault.specs.declared.fault.Why.{Why}
use Rattle.mt_fault.specs.declared.fault.Why.TheVariants.{Syntax, Columns}
use Rattle.mt_table.specs.declared.column.Column.{Column}
use Rattle.mt_defs.specs.Metadata.{column_at, column_line, columns_text, may_list, no_column}
use Rattle.mt_types.specs.Steps.{◌>>=◌, ok_or}
use Rattle.mt_meta.specs.declared.ascii.TheConstants.{LINE_END}
use Rattle.mt_meta.specs.ColumnsReading.{is_column_line, column_lines, version_line, count_line, if_headed, listed_lines, listing, is_line, order_of, if_listed, columns_reading, Lists}
use Rattle.mt_meta.proofs.SplitLemmas.{at_byte}
use Rattle.mt_meta.proofs.ListingLemmas.{lines_cut}
use Rattle.mt_types.proofs.StepLemmas.{both_true as both}
use Rattle.mt_meta.proofs.ColumnsLemmas.{order_step, order_none, order_length}

-- a line with its end
abbrev pub ended : List ℕ → List ℕ
ended line = line ++ LINE_END ∷ []

-- ---- the text of its lines

step_is : (ok : Bool) (line : List ℕ) (rest : Option (List (List ℕ))) (lines : List (List ℕ)) → (if ok then option_map (λ later. line ∷ later) rest else None) ≡ Some lines
    → (later : List (List ℕ)) × (rest ≡ Some later) × (lines ≡ line ∷ later)
step_is true line None lines e = cc
step_is true line (Some later) lines e = (later, refl, cc)
step_is false line rest lines e = cc

pub not_some : {A : Type 0} (x : A) → (let o : Option A = None in o) ≡ Some x → ⊥
not_some x e = cc

last_is : (rest : List ℕ) (lines : List (List ℕ)) → column_lines (rest ∷ []) ≡ Some lines → rest ≡ flat_map ended lines
unfolding column_lines
last_is [] lines e = let none : [] ≡ lines = cc in ap (flat_map ended) none
last_is (byte ∷ rest) lines e = absurd (not_some lines (sym (lines_cut ((byte ∷ rest) ∷ []) (byte ∷ rest) refl (λ z. omega arith)) ∙ e))

joined_lines : (parts lines : List (List ℕ)) → column_lines parts ≡ Some lines → join_with_byte LINE_END parts ≡ flat_map ended lines
unfolding column_lines
joined_lines [] lines e = cc
joined_lines (rest ∷ []) lines e = last_is rest lines e
joined_lines (line ∷ next ∷ more) lines e =
    let s = step_is (is_column_line line) line (column_lines (next ∷ more)) lines e in
    ap (λ (text : List ℕ). line ++ (LINE_END ∷ text)) (joined_lines (next ∷ more) s.0 s.1) ∙ sym (append_assoc line (LINE_END ∷ []) (flat_map ended s.0)) ∙ ap (flat_map ended) (sym s.2)

-- the text of column lines, after the two lines before them
abbrev text_of : List (List ℕ) → List ℕ
text_of lines = version_line ++ (LINE_END ∷ (count_line (length lines) ++ (LINE_END ∷ flat_map ended lines)))

found_is : (version count : List ℕ) (found : Option (List (List ℕ))) (lines : List (List ℕ)) → option_and_then (if_headed version count) found ≡ Some lines
    → (found ≡ Some lines) × (version ≡ version_line) × (count ≡ count_line (length lines))
found_is version count None lines e = cc
found_is version count (Some found) lines e = headed (bytes_eq version version_line && bytes_eq count (count_line (length found))) refl e
  where
    headed : (ok : Bool) → (bytes_eq version version_line && bytes_eq count (count_line (length found))) ≡ ok → (if ok then Some found else None) ≡ Some lines
        → (Some found ≡ Some lines) × (version ≡ version_line) × (count ≡ count_line (length lines))
    headed false is e = cc
    headed true is e =
        let same : found ≡ lines = cc in
        let parts = both (bytes_eq version version_line) (bytes_eq count (count_line (length found))) is in
        (e, (bytes_eq-Decides version version_line).0 parts.0, (bytes_eq-Decides count (count_line (length found))).0 parts.1 ∙ ap (λ (l : List (List ℕ)). count_line (length l)) same)

joined_is : (parts lines : List (List ℕ)) → listed_lines parts ≡ Some lines → join_with_byte LINE_END parts ≡ text_of lines
unfolding column_lines
joined_is [] lines e = cc
joined_is (version ∷ []) lines e = cc
joined_is (version ∷ count ∷ []) lines e = cc
joined_is (version ∷ count ∷ first ∷ more) lines e =
    let f = found_is version count (column_lines (first ∷ more)) lines e in
    ap (λ (text : List ℕ). version ++ (LINE_END ∷ (count ++ (LINE_END ∷ text)))) (joined_lines (first ∷ more) lines f.0) ∙ rw (f.1, f.2) refl

text_is : (text : List ℕ) (lines : List (List ℕ)) → listing text ≡ Some lines → text ≡ text_of lines
text_is text lines e = sym (join_with_byte-slice_split LINE_END text) ∙ joined_is (slice_split (at_byte LINE_END) text) lines e

-- ---- the lines are the columns'

line_is : (columns : List Column) (line : List ℕ) (i : ℕ) → position (is_line line) (map column_line columns) ≡ Some i → ended line ≡ column_line (column_at columns i)
line_is columns line i e =
    let p = position-Some (is_line line) (map column_line columns) i [] e in
    let within : i < length columns = omega (arith, p.0, length-map columns column_line) in
    sym ((bytes_eq-Decides (get_or (map column_line columns) i []) (ended line)).0 p.1) ∙ get_or-map column_line columns i no_column [] within

lines_are : (columns : List Column) (lines : List (List ℕ)) (order : List ℕ) → order_of (map column_line columns) lines ≡ Some order
    → flat_map ended lines ≡ flat_map column_line (map (column_at columns) order)
lines_are columns [] order e = ap (λ (order : List ℕ). flat_map column_line (map (column_at columns) order)) (sym (order_none (map column_line columns) order e))
lines_are columns (line ∷ lines) order e =
    let s = order_step (map column_line columns) line lines order e in
    ap (λ (text : List ℕ). text ++ flat_map ended lines) (line_is columns line s.0 s.2)
    ∙ ap (λ (text : List ℕ). column_line (column_at columns s.0) ++ text) (lines_are columns lines s.1 s.3)
    ∙ ap (λ (order : List ℕ). flat_map column_line (map (column_at columns) order)) (sym s.4)

-- ---- all together

chosen_is : (columns : List Column) (must : List ℕ) (found : Option (List ℕ)) (order : List ℕ) → option_and_then (if_listed columns must) found ≡ Some order → (found ≡ Some order) × (may_list columns must order ≡ true)
chosen_is columns must None order e = cc
chosen_is columns must (Some found) order e = may (may_list columns must found) refl e
  where
    may : (ok : Bool) → may_list columns must found ≡ ok → (if ok then Some found else None) ≡ Some order → (Some found ≡ Some order) × (may_list columns must order ≡ true)
    may false is e = cc
    may true is e = let same : found ≡ order = cc in (e, ap (may_list columns must) (sym same) ∙ is)

text_same : (lines : List (List ℕ)) (columns : List Column) → length lines ≡ length columns → flat_map ended lines ≡ flat_map column_line columns → text_of lines ≡ columns_text columns
text_same lines columns long same = rw (long, same) (simp append_assoc)

ok_is : (why : Why) (found : Option (List ℕ)) (order : List ℕ) → ok_or why found ≡ Ok order → found ≡ Some order
ok_is why None order e = cc
ok_is why (Some found) order e = cc

reading_of : (columns : List Column) (must : List ℕ) (found : Option (List (List ℕ))) (order : List ℕ)
    → (ok_or Syntax found >>= λ lines. ok_or Columns (option_and_then (if_listed columns must) (order_of (map column_line columns) lines))) ≡ Ok order
    → (lines : List (List ℕ)) × (found ≡ Some lines) × (option_and_then (if_listed columns must) (order_of (map column_line columns) lines) ≡ Some order)
reading_of columns must None order e = cc
reading_of columns must (Some lines) order e = (lines, refl, ok_is Columns _ order e)

pub read_lists : (columns : List Column) (must order text : List ℕ) → columns_reading columns must text ≡ Ok order → Lists columns must order text
unfolding columns_reading
read_lists columns must order text e =
    let r = reading_of columns must (listing text) order e in
    let c = chosen_is columns must (order_of (map column_line columns) r.0) order r.2 in
    let long : length r.0 ≡ length (map (column_at columns) order) = sym (order_length (map column_line columns) r.0 order c.0) ∙ sym (length-map order (column_at columns)) in
    record {
      may = c.1;
      listed = text_is text r.0 r.1 ∙ text_same r.0 (map (column_at columns) order) long (lines_are columns r.0 order c.0);
    }
