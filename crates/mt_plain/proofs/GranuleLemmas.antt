-- The granules of rows of two columns of numbers.
use Rattle.std.proofs.Common.{◌≡◌, ℕ, ◌+◌, ◌<◌, ◌≤◌, Bool, true, false, List, [], ◌∷◌, ◌++◌, length, map, take, drop, get_or, refl, ap, sym, ◌∙◌, arith, append_assoc}
use Rattle.std.specs.Prelude.{nat_le, ◌||◌, if◌then◌else◌, sum}
use Rattle.std.proofs.lemmas.List.{drop_all, drop_more, take_all, take_more, length-append, length-take-le}
use Rattle.mt_facts.proofs.Truth.{same_choice}
use Rattle.mt_facts.proofs.Numbers.{sum_single}
use Rattle.mt_types.specs.declared.ty.Width.TheVariants.{W64}
use Rattle.mt_table.specs.declared.definition.Table.{Table}
use Rattle.mt_table.specs.Form.{IsNumbersTable, uint64_column}
use Rattle.mt_defs.specs.Rows.{Row, column_values}
use Rattle.mt_defs.specs.WrittenGranules.{granules_from, last_granule, is_full, column_size, payload_size, written_granules}
use Rattle.mt_defs.proofs.Numbers.{written_streams_UInt}
use Rattle.mt_plain.specs.NumberRows.{IsFirstGranule, items_of_column, rows_payload}
use Rattle.mt_plain.proofs.ItemLemmas.{columns_are}

-- ---- the bytes of some rows

sum_pair : (m n : ℕ) → sum (m ∷ n ∷ []) ≡ m + n
sum_pair m n = omega arith

column_size_is : (name : List ℕ) (k : ℕ) (rows : List Row) → column_size rows (k, uint64_column name) ≡ length (items_of_column k rows)
column_size_is name k rows = ap (λ streams. sum (map length streams)) (written_streams_UInt W64 (column_values k rows)) ∙ sum_single (length (items_of_column k rows))

payload_size_is : (first second : List ℕ) (rows : List Row) → payload_size (uint64_column first ∷ uint64_column second ∷ []) rows ≡ length (rows_payload rows)
payload_size_is first second rows =
    ap (λ n. sum (n ∷ column_size rows (1, uint64_column second) ∷ [])) (column_size_is first 0 rows)
    ∙ ap (λ n. sum (length (items_of_column 0 rows) ∷ n ∷ [])) (column_size_is second 1 rows)
    ∙ sum_pair (length (items_of_column 0 rows)) (length (items_of_column 1 rows)) ∙ sym (length-append (items_of_column 0 rows) (items_of_column 1 rows))

-- the test of the code is the definition's
pub full_is : (table : Table) (rows : List Row) (count bytes : ℕ) (payload : List ℕ) → IsNumbersTable table → count ≡ length rows → bytes ≡ length payload → payload ≡ rows_payload rows
    → (nat_le table.settings.granule_rows count || nat_le table.settings.granule_bytes bytes) ≡ is_full table.settings table.columns rows
full_is table rows count bytes payload form counted sized is =
    let size : bytes ≡ payload_size table.columns rows =
    sized ∙ ap length is ∙ sym (payload_size_is form.first form.second rows) ∙ sym (ap (λ columns. payload_size columns rows) (columns_are table form)) in
    ap (λ n. nat_le table.settings.granule_rows n || nat_le table.settings.granule_bytes bytes) counted
    ∙ ap (λ n. nat_le table.settings.granule_rows (length rows) || nat_le table.settings.granule_bytes n) size

-- ---- the first granule

-- one row more joins
joins : (full : List Row → Bool) (rows : List Row) (before count : ℕ) → before + 1 ≡ count → count ≤ length rows
    → granules_from full (take before rows) (drop before rows)
    ≡ (if full (take count rows) then count ∷ granules_from full [] (drop count rows) else granules_from full (take count rows) (drop count rows))
joins full rows before count next within =
    let inside : before < length rows = omega (arith, next, within) in
    let more : take (before + 1) rows ≡ take before rows ++ get_or rows before [] ∷ [] = take_more rows before [] inside in
    let size : length (take (before + 1) rows) ≡ before + 1 = length-take-le (before + 1) rows (omega (arith, next, within)) in
    ap (λ rest. granules_from full (take before rows) rest) (drop_more rows before [] inside)
    ∙ ap (λ begun. if full begun then length begun ∷ granules_from full [] (drop (before + 1) rows) else granules_from full begun (drop (before + 1) rows)) (sym more)
    ∙ ap (λ n. if full (take (before + 1) rows) then n ∷ granules_from full [] (drop (before + 1) rows) else granules_from full (take (before + 1) rows) (drop (before + 1) rows)) size
    ∙ ap (λ n. if full (take n rows) then n ∷ granules_from full [] (drop n rows) else granules_from full (take n rows) (drop n rows)) next

-- these rows don't fill it
pub goes_on : (full : List Row → Bool) (rows begun : List Row) (before count now : ℕ) (all : List ℕ) → before + 1 ≡ count → now ≡ count → count ≤ length rows → begun ≡ take count rows → full begun ≡ false
    → all ≡ granules_from full (take before rows) (drop before rows) → all ≡ granules_from full (take now rows) (drop now rows)
goes_on full rows begun before count now all next same within is off ahead =
    ahead ∙ joins full rows before count next within ∙ same_choice (full (take count rows)) false _ _ (ap full (sym is) ∙ off)
    ∙ ap (λ n. granules_from full (take n rows) (drop n rows)) (sym same)

-- these rows fill it
pub ends_here : (full : List Row → Bool) (rows begun : List Row) (before count : ℕ) (all : List ℕ) → before + 1 ≡ count → count ≤ length rows → begun ≡ take count rows → full begun ≡ true
    → all ≡ granules_from full (take before rows) (drop before rows) → all ≡ count ∷ granules_from full [] (drop count rows)
ends_here full rows begun before count all next within is on ahead =
    ahead ∙ joins full rows before count next within ∙ same_choice (full (take count rows)) true _ _ (ap full (sym is) ∙ on)

some_left : (rows : List Row) → 1 ≤ length rows → last_granule rows ≡ length rows ∷ []
some_left [] some = absurd (omega (arith, some))
some_left (row ∷ rows) some = refl

-- all of the rows are a granule, whether they fill it or not
all_rows : (full : List Row → Bool) (rows : List Row) (filled : Bool) → 1 ≤ length rows
    → (if filled then length rows ∷ granules_from full [] (drop (length rows) rows) else granules_from full (take (length rows) rows) (drop (length rows) rows))
    ≡ length rows ∷ granules_from full [] (drop (length rows) rows)
all_rows full rows true some = refl
all_rows full rows false some =
    let none : drop (length rows) rows ≡ [] = drop_all (length rows) rows (omega arith) in
    ap (λ rest. granules_from full (take (length rows) rows) rest) none ∙ ap last_granule (take_all (length rows) rows (omega arith)) ∙ some_left rows some
    ∙ ap (λ rest. length rows ∷ granules_from full [] rest) (sym none)

-- all rows but the last don't fill it
pub ends_last : (full : List Row → Bool) (rows : List Row) (before : ℕ) (all : List ℕ) → before + 1 ≡ length rows
    → all ≡ granules_from full (take before rows) (drop before rows) → all ≡ length rows ∷ granules_from full [] (drop (length rows) rows)
ends_last full rows before all next ahead =
    ahead ∙ joins full rows before (length rows) next (omega arith) ∙ all_rows full rows (full (take (length rows) rows)) (omega (arith, next))

-- ---- all granules

-- a granule more
pub granule_step : (table : Table) (rest after : List Row) (granules more all : List ℕ) (count : ℕ) → IsFirstGranule table rest count → after ≡ drop count rest → more ≡ granules ++ count ∷ []
    → granules ++ written_granules table.settings table.columns rest ≡ all → more ++ written_granules table.settings table.columns after ≡ all
granule_step table rest after granules more all count is back push ahead =
    ap (λ l. l ++ written_granules table.settings table.columns after) push
    ∙ append_assoc granules (count ∷ []) (written_granules table.settings table.columns after)
    ∙ ap (λ rows. granules ++ count ∷ written_granules table.settings table.columns rows) back
    ∙ ap (λ l. granules ++ l) (sym is.cut) ∙ ahead
