-- States with one row more, item by item; and result rows of states that are folds.
use Rattle.std.proofs.Common.{◌≡◌, ℕ, suc, ◌+◌, ◌<◌, ◌≤◌, List, [], ◌∷◌, ◌++◌, length, take, drop, get_or, map, refl, ap, sym, ◌∙◌, arith, append_assoc, add-one}
use Rattle.std.proofs.Math.ListN.{set}
use Rattle.std.proofs.Math.Seq.{drop-cons, take-suc-set}
use Rattle.std.proofs.lemmas.List.{drop-set-lt, drop_all, map-append}
use Rattle.mt_types.specs.declared.value.AggState.{AggState}
use Rattle.mt_types.specs.declared.value.Value.{Value}
use Rattle.mt_table.specs.declared.projection.Aggregate.{Aggregate}
use Rattle.mt_table.specs.declared.projection.Aggregate.TheVariants as aggregate
use Rattle.mt_table.specs.declared.definition.Table.{Table}
use Rattle.mt_table.specs.Stored.{index_in}
use Rattle.mt_defs.specs.Rows.{Row, cell}
use Rattle.mt_defs.specs.Folds.{fold_of, number_taken, state_of}
use Rattle.mt_agg.specs.States.{state_with}
use Rattle.mt_agg.proofs.FoldLemmas.{withs}
use Rattle.mt_query.specs.declared.query.Item.{Item}
use Rattle.mt_query.specs.declared.query.Item.TheVariants as item
use Rattle.mt_fold.specs.Answer.{aggregates, item_aggregates, group_item, state_value}
use Rattle.mt_fold.specs.Gathered.{folds_of}
use Rattle.mt_fold.specs.Steps.{each_with, row_of_states}

-- the aggregates of the items from this place on
abbrev pub Left : List Item → ℕ → List Aggregate
Left items i = aggregates (drop i items)

-- the aggregates left, when the next item has none, or one
left_none : (items : List Item) (i : ℕ) (one : Item) → drop i items ≡ one ∷ drop (i + 1) items → item_aggregates one ≡ [] → Left items i ≡ Left items (i + 1)
left_none items i one at none = ap aggregates at ∙ ap (λ aggs. aggs ++ Left items (i + 1)) none

left_some : (items : List Item) (i : ℕ) (one : Item) (a : Aggregate) → drop i items ≡ one ∷ drop (i + 1) items → item_aggregates one ≡ a ∷ [] → Left items i ≡ a ∷ Left items (i + 1)
left_some items i one a at is = ap aggregates at ∙ ap (λ aggs. aggs ++ Left items (i + 1)) is

-- no states stay none
none_with : (aggs : List Aggregate) (row : Row) → each_with aggs row [] ≡ []
none_with [] row = refl
none_with (a ∷ aggs) row = refl

pub at_place : {A : Type 0} (d : A) (xs : List A) (i : ℕ) → i < length xs → drop i xs ≡ get_or xs i d ∷ drop (i + 1) xs
at_place d xs i h = rw add-one (drop-cons xs i d h)

pub step_none : (items : List Item) (states : List AggState) (i j : ℕ) (one : Item) (row : Row) → drop i items ≡ one ∷ drop (i + 1) items → item_aggregates one ≡ []
    → take j states ++ each_with (Left items i) row (drop j states) ≡ take j states ++ each_with (Left items (i + 1)) row (drop j states)
step_none items states i j one row at none = ap (λ aggs. take j states ++ each_with aggs row (drop j states)) (left_none items i one at none)

pub step_full : (items : List Item) (states : List AggState) (i j : ℕ) (row : Row) → length states ≤ j
    → take j states ++ each_with (Left items i) row (drop j states) ≡ take j states ++ each_with (Left items (i + 1)) row (drop j states)
step_full items states i j row all = ap (λ ss. take j states ++ ss)
    (ap (each_with (Left items i) row) (drop_all j states all) ∙ none_with (Left items i) row ∙ sym (ap (each_with (Left items (i + 1)) row) (drop_all j states all) ∙ none_with (Left items (i + 1)) row))

pub step_some : (items : List Item) (states : List AggState) (i j : ℕ) (one : Item) (a : Aggregate) (d v : AggState) (row : Row) → drop i items ≡ one ∷ drop (i + 1) items → item_aggregates one ≡ a ∷ [] → j < length states → v ≡ state_with (get_or states j d) (number_taken a row)
    → take j states ++ each_with (Left items i) row (drop j states)
    ≡ take (j + 1) (set states j v) ++ each_with (Left items (i + 1)) row (drop (j + 1) (set states j v))
step_some items states i j one a d v row at has within is =
    let rest = each_with (Left items (i + 1)) row (drop (j + 1) states) in
    let front : take (j + 1) (set states j v) ≡ take j states ++ v ∷ [] = rw add-one (take-suc-set states j v within) in
    let back : drop (j + 1) (set states j v) ≡ drop (j + 1) states = drop-set-lt (j + 1) states j v (omega arith) in
    ap (λ aggs. take j states ++ each_with aggs row (drop j states)) (left_some items i one a at has)
    ∙ ap (λ ss. take j states ++ each_with (a ∷ Left items (i + 1)) row ss) (at_place d states j within)
    ∙ ap (λ u. take j states ++ u ∷ rest) (sym is)
    ∙ sym (append_assoc (take j states) (v ∷ []) rest)
    ∙ ap (λ ss. ss ++ rest) (sym front)
    ∙ ap (λ ss. take (j + 1) (set states j v) ++ each_with (Left items (i + 1)) row ss) (sym back)

-- folds with one row more
pub folds_more : (aggs : List Aggregate) (rows : List Row) (row : Row) → folds_of aggs (rows ++ row ∷ []) ≡ each_with aggs row (folds_of aggs rows)
folds_more [] rows row = refl
folds_more (a ∷ aggs) rows row =
    let first : fold_of (rows ++ row ∷ []) a ≡ state_with (fold_of rows a) (number_taken a row) = ap (state_of a) (map-append (number_taken a) rows (row ∷ [])) ∙ sym (withs a (map (number_taken a) rows) (number_taken a row)) in
    ap (λ s. s ∷ folds_of aggs (rows ++ row ∷ [])) first ∙ ap (λ ss. state_with (fold_of rows a) (number_taken a row) ∷ ss) (folds_more aggs rows row)

-- the result row of states that are the folds over a group's rows is the group's
pub folds_row : (t : Table) (keys : List ℕ) (key : List Value) (rows : List Row) (items : List Item) → row_of_states t keys key items (folds_of (aggregates items) rows) ≡ map (group_item t keys key rows) items
folds_row t keys key rows [] = refl
folds_row t keys key rows (item.Column i ∷ items) = ap (λ made. cell key (index_in keys i) ∷ made) (folds_row t keys key rows items)
folds_row t keys key rows (item.Count ∷ items) = ap (λ made. state_value t aggregate.Count (fold_of rows aggregate.Count) ∷ made) (folds_row t keys key rows items)
folds_row t keys key rows (item.Of agg i ∷ items) = ap (λ made. state_value t (aggregate.Of agg i) (fold_of rows (aggregate.Of agg i)) ∷ made) (folds_row t keys key rows items)

-- each row of states has a value per item
pub length-row_of_states : (t : Table) (keys : List ℕ) (key : List Value) (items : List Item) (states : List AggState) → length (row_of_states t keys key items states) ≡ length items
length-row_of_states t keys key [] states = refl
length-row_of_states t keys key (item.Column i ∷ items) states = ap suc (length-row_of_states t keys key items states)
length-row_of_states t keys key (item.Count ∷ items) [] = ap suc (length-row_of_states t keys key items [])
length-row_of_states t keys key (item.Count ∷ items) (s ∷ states) = ap suc (length-row_of_states t keys key items states)
length-row_of_states t keys key (item.Of agg i ∷ items) [] = ap suc (length-row_of_states t keys key items [])
length-row_of_states t keys key (item.Of agg i ∷ items) (s ∷ states) = ap suc (length-row_of_states t keys key items states)
