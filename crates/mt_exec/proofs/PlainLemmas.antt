-- What references to rows show, filtered, sorted and cut, is the answer of a query without groups.
use Rattle.std.proofs.Common.{◌≡◌, ℕ, ◌++◌, false, cond, List, [], ◌∷◌, map, refl, ap, sym, ◌∙◌, Option, Some, None}
use Rattle.std.specs.Borrow.{Bor}
use Rattle.std.specs.List.{flat_map}
use Rattle.std.proofs.lemmas.List.{take-map}
use Rattle.mt_types.specs.Order.{values_cmp}
use Rattle.mt_table.specs.declared.column.Column.{Column}
use Rattle.mt_table.specs.declared.definition.Table.{Table}
use Rattle.mt_defs.specs.Rows.{Row}
use Rattle.mt_defs.specs.Sorting.{sorted_by}
use Rattle.mt_sort.specs.References.{rows_in}
use Rattle.mt_sort.proofs.SortedLemmas.{map-sorted_by}
use Rattle.mt_tsv.specs.Printing.{row_text, rows_text}
use Rattle.mt_query.specs.declared.query.Item.{Item}
use Rattle.mt_query.specs.declared.query.Query.{Query}
use Rattle.mt_fold.specs.Answer.{answer_text, group_keys, group_row, is_grouped, item_columns, kept_rows, limited, ordered, plain_item}
use Rattle.mt_exec.specs.Plain.{items_cmp}

limited-map : (f : Row → Row) (limit : Option ℕ) (xs : List Row) → limited limit (map f xs) ≡ map f (limited limit xs)
limited-map f None xs = refl
limited-map f (Some n) xs = take-map f n xs

-- a row's values of the items
abbrev values_of : List Item → Row → Row
values_of items row = map (plain_item row) items

seen_lines : (columns : List Column) (items : List Item) (rows : List (Bor Row)) → flat_map (λ (row : Bor Row). row_text columns (values_of items row.now)) rows ≡ rows_text columns (map (values_of items) (rows_in rows))
seen_lines columns items [] = refl
seen_lines columns items (row ∷ rows) = ap (λ text. row_text columns (values_of items row.now) ++ text) (seen_lines columns items rows)

pub plain_answers : (t : Table) (q : Query) (R : List Row) (columns : List Column) (items : List Item) (kept sorted first : List (Bor Row)) → is_grouped q ≡ false → items ≡ q.items → columns ≡ item_columns t items
    → rows_in kept ≡ kept_rows q R → rows_in sorted ≡ sorted_by (items_cmp items) (rows_in kept) → rows_in first ≡ limited q.limit (rows_in sorted)
    → flat_map (λ (row : Bor Row). row_text columns (values_of items row.now)) first ≡ answer_text t q R
unfolding answer_text
plain_answers t q R columns items kept sorted first plain items-is columns-is kept-is sorted-is first-is =
    let rows = kept_rows q R in
    let f : Row → Row = values_of items in
    let made : map f (rows_in first) ≡ limited q.limit (ordered (map f rows)) =
    ap (map f) (first-is ∙ ap (limited q.limit) (sorted-is ∙ ap (sorted_by (items_cmp items)) kept-is))
    ∙ sym (limited-map f q.limit (sorted_by (items_cmp items) rows))
    ∙ ap (limited q.limit) (map-sorted_by f values_cmp rows) in
    seen_lines columns items first ∙ ap (rows_text columns) made
    ∙ ap (λ cs. rows_text cs (limited q.limit (ordered (map f rows)))) columns-is
    ∙ ap (λ its. rows_text (item_columns t its) (limited q.limit (ordered (map (values_of its) rows)))) items-is
    ∙ ap (λ b. rows_text (item_columns t q.items) (limited q.limit (ordered (cond b (map (group_row t q rows) (group_keys q.keys rows)) (map (values_of q.items) rows))))) (sym plain)
