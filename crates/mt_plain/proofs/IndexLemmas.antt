-- The primary index of rows of numbers, whose key is one column.
use Rattle.std.proofs.Common.{◌≡◌, ℕ, zero, suc, ◌<◌, min, List, [], ◌∷◌, ◌++◌, length, take, drop, refl, ap, sym, ◌∙◌, arith, append_assoc}
use Rattle.std.proofs.Math.Nat.{min_comm}
use Rattle.std.specs.List.{flat_map}
use Rattle.std.proofs.lemmas.List.{append-nil, take_min}
use Rattle.mt_types.specs.declared.ty.Ty.TheVariants.{UInt}
use Rattle.mt_types.specs.declared.ty.Width.TheVariants.{W64}
use Rattle.mt_types.specs.Items.{item_bytes}
use Rattle.mt_table.specs.declared.definition.Table.{Table}
use Rattle.mt_table.specs.Form.{IsNumbersTable, uint64_column}
use Rattle.mt_defs.specs.Rows.{Row, cell}
use Rattle.mt_defs.specs.Granules.{granule_rows}
use Rattle.mt_defs.specs.PrimaryIndex.{key_bytes, index_rows, primary_index_of}
use Rattle.mt_defs.specs.Projections.{base_of}
use Rattle.mt_plain.specs.NumberRows.{AreNumberRows, HasNumbers, items_of_column}
use Rattle.mt_plain.proofs.ItemLemmas.{first_numbers, second_numbers, items_append}

-- ---- the first row of each granule

abbrev pub first_rows : List ℕ → List Row → List Row
first_rows granules rows = flat_map (take 1) (granule_rows granules rows)

pub first_step : (k : ℕ) (bytes new all granules later : List ℕ) (count n : ℕ) (rest granule first after : List Row) → granules ≡ count ∷ later → granule ≡ take count rest → after ≡ drop count rest
    → n ≡ min (length granule) 1 → first ≡ take n granule → new ≡ bytes ++ items_of_column k first
    → bytes ++ items_of_column k (first_rows granules rest) ≡ all → new ++ items_of_column k (first_rows later after) ≡ all
first_step k bytes new all granules later count n rest granule first after here front back least one push ahead =
    let head : first ≡ take 1 (take count rest) = one ∙ ap (λ m. take m granule) (least ∙ min_comm (length granule) 1) ∙ take_min 1 granule ∙ ap (take 1) front in
    ap (λ l. l ++ items_of_column k (first_rows later after)) (push ∙ ap (λ f. bytes ++ items_of_column k f) head)
    ∙ append_assoc bytes (items_of_column k (take 1 (take count rest))) (items_of_column k (first_rows later after))
    ∙ ap (λ a. bytes ++ (items_of_column k (take 1 (take count rest)) ++ items_of_column k (first_rows later a))) back
    ∙ ap (λ l. bytes ++ l) (sym (items_append k (take 1 (take count rest)) (first_rows later (drop count rest))))
    ∙ ap (λ g. bytes ++ items_of_column k (first_rows g rest)) (sym here) ∙ ahead

-- ---- the definition's keys

key_is : (first second : List ℕ) (place : ℕ) (row : Row) → place < 2 → key_bytes (uint64_column first ∷ uint64_column second ∷ []) (place ∷ []) row ≡ item_bytes (UInt W64) (cell row place)
key_is first second zero row inside = append-nil (item_bytes (UInt W64) (cell row 0))
key_is first second (suc zero) row inside = append-nil (item_bytes (UInt W64) (cell row 1))
key_is first second (suc (suc place)) row inside = absurd (omega (arith, inside))

keys_are : (first second : List ℕ) (place : ℕ) (rows : List Row) → place < 2 → flat_map (key_bytes (uint64_column first ∷ uint64_column second ∷ []) (place ∷ [])) rows ≡ items_of_column place rows
keys_are first second place [] inside = refl
keys_are first second place (row ∷ rows) inside =
    ap (λ l. l ++ flat_map (key_bytes (uint64_column first ∷ uint64_column second ∷ []) (place ∷ [])) rows) (key_is first second place row inside)
    ∙ ap (λ l. item_bytes (UInt W64) (cell row place) ++ l) (keys_are first second place rows inside)

one_key : (k place : ℕ) → (let some : List ℕ = place ∷ [] in some) ≡ k ∷ [] → place ≡ k
one_key k place e = cc

pub key_place : (table : Table) (form : IsNumbersTable table) (k : ℕ) → table.sort ≡ k ∷ [] → form.place ≡ k
key_place table form k sorted = one_key k form.place (sym (ap (λ t. t.sort) form.is) ∙ sorted)

-- the keys of the index are the definition's
pub primary_is : (table : Table) (k : ℕ) (rows : List Row) (granules : List ℕ) → IsNumbersTable table → table.sort ≡ k ∷ [] → items_of_column k (index_rows rows granules) ≡ primary_index_of (base_of table) rows granules
primary_is table k rows granules form sorted =
    ap (λ i. items_of_column i (index_rows rows granules)) (sym (key_place table form k sorted))
    ∙ sym (keys_are form.first form.second form.place (index_rows rows granules) form.in_columns)
    ∙ sym (ap (λ t. primary_index_of (base_of t) rows granules) form.is)

numbers_within : (place : ℕ) (rows : List Row) → place < 2 → HasNumbers 0 rows → HasNumbers 1 rows → HasNumbers place rows
numbers_within zero rows inside one two = one
numbers_within (suc zero) rows inside one two = two
numbers_within (suc (suc place)) rows inside one two = absurd (omega (arith, inside))

-- the key column has numbers
pub key_numbers : (table : Table) (k : ℕ) (rows : List Row) → AreNumberRows table rows → table.sort ≡ k ∷ [] → HasNumbers k rows
key_numbers table k rows are sorted =
    numbers_within k rows (omega (arith, are.form.in_columns, key_place table are.form k sorted)) (first_numbers table rows are) (second_numbers table rows are)
