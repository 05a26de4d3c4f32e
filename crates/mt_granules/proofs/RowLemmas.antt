-- Rows that gain a column.
use Rattle.std.proofs.Common.{◌≡◌, ℕ, zero, suc, ◌+◌, ◌-◌, ◌<◌, ◌≤◌, List, [], ◌∷◌, ◌++◌, length, map, take, drop, get_or, set, refl, ap, sym, ◌∙◌, arith, length-append, append-nil, append_assoc}
use Rattle.std.specs.Prelude.{replicate, slice_index_or}
use Rattle.std.specs.List.{sum}
use Rattle.std.specs.List.{range_with_len}
use Rattle.std.proofs.lemmas.List.{map-append, length-map, drop_more, take_all, length-take-le, length-drop, get_or-append_right, set-append_right, take-append-drop}
use Rattle.std.proofs.lemmas.List.Concat.{flat_map-append}
use Rattle.std.proofs.lemmas.List.FromFn.{length-range_with_len}
use Rattle.mt_facts.proofs.Numbers.{sum_cons}
use Rattle.mt_types.specs.declared.value.Value.{Value}
use Rattle.mt_types.specs.declared.value.Value.TheVariants.{Null}
use Rattle.mt_defs.specs.Rows.{Row}
use Rattle.mt_granules.specs.ColumnRows.{all_values, row_at, rows_of, with_column}

pub length-with_column : (rows : List Row) (values : List Value) → length (with_column rows values) ≡ length rows
length-with_column [] values = refl
length-with_column (row ∷ rows) [] = refl
length-with_column (row ∷ rows) (v ∷ values) = ap suc (length-with_column rows values)

pub none_added : (rows : List Row) → with_column rows [] ≡ rows
none_added [] = refl
none_added (row ∷ rows) = refl

-- values after those that were added
pub more_added : (rows : List Row) (xs ys : List Value) → length xs ≤ length rows
    → take (length xs) (with_column rows xs) ++ with_column (drop (length xs) (with_column rows xs)) ys ≡ with_column rows (xs ++ ys)
more_added rows [] ys h = ap (λ (l : List Row). with_column l ys) (none_added rows)
more_added [] (x ∷ xs) ys h = absurd (omega arith)
more_added (row ∷ rows) (x ∷ xs) ys h = ap (λ (l : List Row). (row ++ x ∷ []) ∷ l) (more_added rows xs ys (omega arith))

-- one value more
set_added : (rows : List Row) (ys : List Value) (v : Value) (row new : Row) → length ys < length rows → row ≡ get_or (with_column rows ys) (length ys) row → new ≡ row ++ v ∷ []
    → set (with_column rows ys) (length ys) new ≡ with_column rows (ys ++ v ∷ [])
set_added [] ys v row new h at is = absurd (omega arith)
set_added (r ∷ rows) [] v row new h at is = ap (λ (x : Row). x ∷ rows) (is ∙ ap (λ (x : Row). x ++ v ∷ []) at) ∙ ap (λ (l : List Row). (r ++ v ∷ []) ∷ l) (sym (none_added rows))
set_added (r ∷ rows) (y ∷ ys) v row new h at is = ap (λ (l : List Row). (r ++ y ∷ []) ∷ l) (set_added rows ys v row new (omega arith) at is)

-- the same of rows that others stand before
pub value_appended : (first at : ℕ) (old now : List Row) (ys : List Value) (v : Value) (row new : Row) → at ≡ first + length ys → first + (length ys + 1) ≤ length old
    → now ≡ take first old ++ with_column (drop first old) ys → row ≡ get_or now at row → new ≡ row ++ v ∷ [] → set now at new ≡ take first old ++ with_column (drop first old) (ys ++ v ∷ [])
value_appended first at old now ys v row new at_is room now_is row_is new_is =
    let before : length (take first old) ≡ first = length-take-le first old (omega arith) in
    let behind : length (drop first old) ≡ length old - first = length-drop first old in
    let W : List Row = with_column (drop first old) ys in
    let index : at - first ≡ length ys = omega arith in
    let there : row ≡ get_or W (length ys) row = row_is ∙ ap (λ (l : List Row). get_or l at row) now_is ∙ get_or-append_right (take first old) W first at row before (omega arith) ∙ ap (λ (k : ℕ). get_or W k row) index in
    ap (λ (l : List Row). set l at new) now_is ∙ set-append_right (take first old) W first at new before (omega arith)
    ∙ ap (λ (k : ℕ). take first old ++ set W k new) index
    ∙ ap (λ (l : List Row). take first old ++ l) (set_added (drop first old) ys v row new (omega (arith, behind)) there new_is)

-- there is a row for the next value
pub row_there : (first at : ℕ) (old now : List Row) (values ys : List Value) (v : Value) (all left rest : List Value) → first + length values ≤ length old → all ≡ values → all ≡ ys ++ rest → rest ≡ v ∷ left
    → at ≡ first + length ys → now ≡ take first old ++ with_column (drop first old) ys → (first + (length ys + 1) ≤ length old) × (at < length now)
row_there first at old now values ys v all left rest room all_is whole next at_is now_is =
    let long = ap (λ (l : List Value). length l) (sym all_is ∙ whole ∙ ap (λ (l : List Value). ys ++ l) next) in
    let count = length-append ys (v ∷ left) in
    let size = ap (λ (l : List Row). length l) now_is in
    let parts = length-append (take first old) (with_column (drop first old) ys) in
    (omega (arith, room, long, count), omega (arith, room, long, count, size, parts, length-take-le first old (omega (arith, room)), length-with_column (drop first old) ys, length-drop first old))

pub no_value_yet : (first : ℕ) (old : List Row) → old ≡ take first old ++ with_column (drop first old) []
no_value_yet first old = sym (ap (λ (l : List Row). take first old ++ l) (none_added (drop first old)) ∙ take-append-drop first old)

-- ---- the values of a column, granule after granule

pub values_more : (granules : List (List Value)) (here : List Value) → all_values (granules ++ here ∷ []) ≡ all_values granules ++ here
values_more granules here = flat_map-append (λ (vs : List Value). vs) granules (here ∷ []) ∙ ap (λ (l : List Value). all_values granules ++ l) (append-nil here)

pub length-values_more : (granules : List (List Value)) (here : List Value) → length (all_values (granules ++ here ∷ [])) ≡ length (all_values granules) + length here
length-values_more granules here = ap (λ (l : List Value). length l) (values_more granules here) ∙ length-append (all_values granules) here

pub values_within : (values granules rest : List (List Value)) (here : List Value) → values ≡ granules ++ (here ∷ rest) → length (all_values granules) + length here ≤ length (all_values values)
values_within values granules rest here is =
    let parts = flat_map-append (λ (vs : List Value). vs) granules (here ∷ rest) in
    omega (arith, ap (λ (l : List (List Value)). length (all_values l)) is, ap (λ (l : List Value). length l) parts, length-append (all_values granules) (here ++ all_values rest), length-append here (all_values rest))

-- there are rows for the next granule
pub granule_there : (old now : List Row) (values granules : List (List Value)) (here : List Value) (all left rest : List (List Value)) (first : ℕ) → length (all_values values) ≤ length old → all ≡ values → all ≡ granules ++ rest → rest ≡ here ∷ left
    → first ≡ length (all_values granules) → now ≡ with_column old (all_values granules) → first + length here ≤ length now
granule_there old now values granules here all left rest first room all_is whole next first_is now_is =
    let within = values_within values granules left here (sym all_is ∙ whole ∙ ap (λ (l : List (List Value)). granules ++ l) next) in
    omega (arith, within, room, first_is, ap (λ (l : List Row). length l) now_is, length-with_column old (all_values granules))

pub granule_appended : (old now new : List Row) (granules : List (List Value)) (here : List Value) (first : ℕ) → first ≡ length (all_values granules) → first ≤ length old → now ≡ with_column old (all_values granules)
    → new ≡ take first now ++ with_column (drop first now) here → new ≡ with_column old (all_values (granules ++ here ∷ []))
granule_appended old now new granules here first first_is room now_is new_is =
    new_is ∙ ap (λ (l : List Row). take first l ++ with_column (drop first l) here) now_is
    ∙ ap (λ (k : ℕ). take k (with_column old (all_values granules)) ++ with_column (drop k (with_column old (all_values granules))) here) first_is
    ∙ more_added old (all_values granules) here (omega arith) ∙ ap (with_column old) (sym (values_more granules here))

-- ---- the rows of some columns

abbrev rows_from : ℕ → ℕ → List (List Value) → List Row
rows_from first count columns = map (row_at columns) (range_with_len first count)

row_more : (columns : List (List Value)) (values : List Value) (row : ℕ) → row_at (columns ++ values ∷ []) row ≡ row_at columns row ++ slice_index_or values row Null ∷ []
row_more columns values row = map-append (λ (vs : List Value). slice_index_or vs row Null) columns (values ∷ [])

-- a column more is a value more in each row
added_from : (columns : List (List Value)) (values : List Value) (first count : ℕ) → first + count ≤ length values
    → rows_from first count (columns ++ values ∷ []) ≡ with_column (rows_from first count columns) (take count (drop first values))
added_from columns values first zero h = refl
added_from columns values first (suc count) h =
    let rest : drop first values ≡ get_or values first Null ∷ drop (first + 1) values = drop_more values first Null (omega arith) in
    let here : List Row → List Row = λ more. (row_at columns first ++ get_or values first Null ∷ []) ∷ more in
    ap (λ (row : Row). row ∷ rows_from (first + 1) count (columns ++ values ∷ [])) (row_more columns values first)
    ∙ ap here (added_from columns values (first + 1) count (omega arith))
    ∙ ap (λ (vs : List Value). with_column (rows_from first (suc count) columns) (take (suc count) vs)) (sym rest)

pub column_added : (count : ℕ) (columns : List (List Value)) (values : List Value) → length values ≡ count → rows_of count (columns ++ values ∷ []) ≡ with_column (rows_of count columns) values
column_added count columns values many =
    added_from columns values 0 count (omega arith) ∙ ap (with_column (rows_of count columns)) (take_all count values (omega arith))

-- rows without a value
rows_none : (first count : ℕ) → rows_from first count [] ≡ replicate count []
rows_none first zero = refl
rows_none first (suc count) = ap (λ (l : List Row). [] ∷ l) (rows_none (first + 1) count)

pub empty_rows : (count : ℕ) → replicate count [] ≡ rows_of count []
empty_rows count = sym (rows_none 0 count)

pub all_empty : (count i : ℕ) (rows : List Row) → count ≤ i → i ≤ count → rows ≡ replicate i [] → rows ≡ rows_of count []
all_empty count i rows from to is = is ∙ ap (λ (k : ℕ). let l : List Row = replicate k [] in l) (let z : i ≡ count = omega arith in z) ∙ empty_rows count

-- what is left of the values
pub left_over : {X : Type 0} (all before : List X) (x : X) (old left : List X) → all ≡ before ++ old → old ≡ x ∷ left → all ≡ (before ++ x ∷ []) ++ left
left_over {X} all before x old left is next = is ∙ ap (λ (l : List X). before ++ l) next ∙ sym (append_assoc before (x ∷ []) left)

pub length-rows_of : (count : ℕ) (columns : List (List Value)) → length (rows_of count columns) ≡ count
length-rows_of count columns = length-map (range_with_len 0 count) (row_at columns) ∙ length-range_with_len 0 count

-- a column's values are as many as the rows of its granules
pub length-all_values : (values : List (List Value)) → length (all_values values) ≡ sum (map (λ here. length here) values)
length-all_values [] = refl
length-all_values (here ∷ values) = length-append here (all_values values) ∙ omega (arith, length-all_values values, sum_cons (length here) (map (λ (h : List Value). length h) values))
