-- Stored rows one by one: what is shown of one, and what is merged with one more.
use Rattle.std.proofs.Common.{◌≡◌, ℕ, zero, suc, ◌+◌, ◌<◌, ◌≤◌, Bool, true, false, cond, ◌&&◌, ◌||◌, List, [], ◌∷◌, ◌++◌, length, take, drop, get_or, map, refl, ap, sym, ◌∙◌, subst, Some, arith, append_assoc, add-one}
use Rattle.std.specs.Prelude.{filter, unwrap_or}
use Rattle.std.specs.List.{list_all, IsDistinct}
use Rattle.std.specs.Map.{lookup, keys_of}
use Rattle.std.proofs.Math.ListN.{set}
use Rattle.std.proofs.Math.Seq.{take-suc-set}
use Rattle.std.proofs.lemmas.List.{drop-set-lt, drop_all, get_or-map, map-append}
use Rattle.std.proofs.lemmas.List.Elements.{filter-append}
use Rattle.std.proofs.lemmas.List.Folds.{list_all-append}
use Rattle.std.proofs.lemmas.Bool.{and_parts}
use Rattle.mt_types.specs.declared.value.AggState.{AggState}
use Rattle.mt_types.specs.declared.value.Value.{Value}
use Rattle.mt_table.specs.declared.projection.Aggregate.{Aggregate}
use Rattle.mt_table.specs.Stored.{index_in}
use Rattle.mt_defs.specs.Rows.{Row, cell, key_of}
use Rattle.mt_defs.specs.Folds.{states_join}
use Rattle.mt_defs.specs.Projections.{is_same_key}
use Rattle.mt_look.specs.Seen.{row_by_index}
use Rattle.mt_query.specs.declared.query.Item.{Item}
use Rattle.mt_query.specs.declared.query.Query.{Query}
use Rattle.mt_fold.specs.Answer.{aggregates, item_aggregates, keeps}
use Rattle.mt_fold.specs.Gathered.{Group, folds_of}
use Rattle.mt_fold.specs.declared.partial.Partial.{Partial}
use Rattle.mt_fold.proofs.StateLemmas.{at_place, Left}
use Rattle.mt_stored.specs.Placed.{as_row, is_stored_column}
use Rattle.mt_stored.specs.Merged.{join_each, AreMerged, given_state, stored_group, stored_groups, Merges}
use Rattle.mt_stored.proofs.SeenLemmas.{as_row_at}
use Rattle.mt_stored.proofs.MergedLemmas.{merged_more}
use Rattle.mt_stored.proofs.LawLemmas.{none_stored}

-- ---- what is shown

pub row_shown : (places : List ℕ) (width : ℕ) (rows : List Row) (i : ℕ) → i < length rows → row_by_index (map (as_row places width) rows) i ≡ as_row places width (row_by_index rows i)
row_shown places width rows i there = get_or-map (as_row places width) rows i [] [] there

pub cell_shown : (places : List ℕ) (width : ℕ) (rows : List Row) (i column : ℕ) (more : Bool) → i < length rows → (is_stored_column places width column && more) ≡ true
    → cell (row_by_index rows i) (index_in places column) ≡ cell (row_by_index (map (as_row places width) rows) i) column
cell_shown places width rows i column more there shown =
    sym (ap (λ row. cell row column) (row_shown places width rows i there) ∙ as_row_at places width (row_by_index rows i) column (and_parts (is_stored_column places width column) more shown).0)

-- ---- states joined item by item

pub joined_with : (old s t made : AggState) → made ≡ unwrap_or (states_join old s) old → s ≡ t → made ≡ unwrap_or (states_join old t) old
joined_with old s t made is same = is ∙ ap (λ u. unwrap_or (states_join old u) old) same

none_joined : (others : List AggState) → join_each [] others ≡ []
none_joined [] = refl
none_joined (other ∷ others) = refl

module _ (given : Aggregate → AggState) (items : List Item) (states : List AggState) (i j : ℕ) where
  abbrev before : List AggState
  before = take j states ++ join_each (drop j states) (map given (Left items i))

  pub join_none : (one : Item) → drop i items ≡ one ∷ drop (i + 1) items → item_aggregates one ≡ [] → before ≡ take j states ++ join_each (drop j states) (map given (Left items (i + 1)))
  join_none one at none = ap (λ aggs. take j states ++ join_each (drop j states) (map given aggs)) (ap aggregates at ∙ ap (λ aggs. aggs ++ Left items (i + 1)) none)

  pub join_full : length states ≤ j → before ≡ take j states ++ join_each (drop j states) (map given (Left items (i + 1)))
  join_full all =
      let nothing : (aggs : List Aggregate) → join_each (drop j states) (map given aggs) ≡ [] = λ aggs. ap (λ l. join_each l (map given aggs)) (drop_all j states all) ∙ none_joined (map given aggs) in
      ap (λ l. take j states ++ l) (nothing (Left items i) ∙ sym (nothing (Left items (i + 1))))

  pub join_some : (one : Item) (a : Aggregate) (d v : AggState) → drop i items ≡ one ∷ drop (i + 1) items → item_aggregates one ≡ a ∷ [] → j < length states
      → v ≡ unwrap_or (states_join (get_or states j d) (given a)) (get_or states j d)
      → before ≡ take (j + 1) (set states j v) ++ join_each (drop (j + 1) (set states j v)) (map given (Left items (i + 1)))
  join_some one a d v at has within is =
      let rest = join_each (drop (j + 1) states) (map given (Left items (i + 1))) in
      let front : take (j + 1) (set states j v) ≡ take j states ++ v ∷ [] = rw add-one (take-suc-set states j v within) in
      let back : drop (j + 1) (set states j v) ≡ drop (j + 1) states = drop-set-lt (j + 1) states j v (omega arith) in
      ap (λ aggs. take j states ++ join_each (drop j states) (map given aggs)) (ap aggregates at ∙ ap (λ aggs. aggs ++ Left items (i + 1)) has)
      ∙ ap (λ l. take j states ++ join_each l (given a ∷ map given (Left items (i + 1)))) (at_place d states j within)
      ∙ ap (λ u. take j states ++ u ∷ rest) (sym is)
      ∙ sym (append_assoc (take j states) (v ∷ []) rest)
      ∙ ap (λ l. l ++ rest) (sym front)
      ∙ ap (λ l. take (j + 1) (set states j v) ++ join_each l (map given (Left items (i + 1)))) (sym back)

-- what all items' aggregates pass, an item's aggregate passes
pub one_passes : (p : Aggregate → Bool) (items : List Item) (i : ℕ) (d : Item) (a : Aggregate) → i < length items → list_all p (aggregates items) ≡ true → item_aggregates (get_or items i d) ≡ a ∷ [] → p a ≡ true
one_passes p [] i d a l all is = let no : i < 0 = l in absurd (omega arith)
one_passes p (item ∷ items) zero d a l all is =
    let parts = and_parts (list_all p (item_aggregates item)) (list_all p (aggregates items)) (sym (list_all-append p (item_aggregates item) (aggregates items)) ∙ all) in
    (and_parts (p a) true (sym (ap (list_all p) is) ∙ parts.0)).0
one_passes p (item ∷ items) (suc i) d a l all is =
    let parts = and_parts (list_all p (item_aggregates item)) (list_all p (aggregates items)) (sym (list_all-append p (item_aggregates item) (aggregates items)) ∙ all) in
    one_passes p items i d a (omega arith) parts.1 is

-- ---- one stored row more

module _ (keys : List ℕ) (aggs : List Aggregate) (width : ℕ) (q : Query) (before partial made : Partial) (stored : List Row) (row : Row) where
  abbrev seen : Row
  seen = as_row keys width row

  pub merges_out : keeps q.cond seen ≡ false → Merges keys aggs width q before stored partial → Merges keys aggs width q before (stored ++ row ∷ []) partial
  merges_out off merges = none_stored keys aggs width q before partial stored (row ∷ []) (ap (λ b. b || false) off) merges

  groups_in : keeps q.cond seen ≡ true → stored_groups keys aggs width q (stored ++ row ∷ []) ≡ stored_groups keys aggs width q stored ++ stored_group keys aggs width q row ∷ []
  groups_in on =
      let kept : Row → Bool = λ r. keeps q.cond (as_row keys width r) in
      ap (map (stored_group keys aggs width q)) (filter-append kept stored (row ∷ []) ∙ ap (λ b. filter kept stored ++ cond b (row ∷ []) []) on)
      ∙ map-append (stored_group keys aggs width q) (filter kept stored) (row ∷ [])

  pub merges_in : (key : List Value) → keeps q.cond seen ≡ true → key ≡ key_of q.keys seen → made.rows ≡ partial.rows → IsDistinct is_same_key (keys_of made.groups.entries)
      → ((k : List Value) → lookup (is_same_key k) made.groups.entries
      ≡ cond (is_same_key key k) (Some (join_each (unwrap_or (lookup (is_same_key key) partial.groups.entries) (folds_of (aggregates q.items) [])) (map (given_state keys aggs row) (aggregates q.items)))) (lookup (is_same_key k) partial.groups.entries))
      → Merges keys aggs width q before stored partial → Merges keys aggs width q before (stored ++ row ∷ []) made
  merges_in key on is rows once now merges =
      let group : Group = stored_group keys aggs width q row in
      let so_far = before.groups.entries ++ stored_groups keys aggs width q stored in
      let now_at : (k : List Value) → lookup (is_same_key k) made.groups.entries
      ≡ cond (is_same_key group.0 k) (Some (join_each (unwrap_or (lookup (is_same_key group.0) partial.groups.entries) (folds_of (aggregates q.items) [])) group.1)) (lookup (is_same_key k) partial.groups.entries) = λ k.
      now k ∙ ap (λ (j : List Value). cond (is_same_key j k) (Some (join_each (unwrap_or (lookup (is_same_key j) partial.groups.entries) (folds_of (aggregates q.items) [])) group.1)) (lookup (is_same_key k) partial.groups.entries)) is in
      let all : so_far ++ group ∷ [] ≡ before.groups.entries ++ stored_groups keys aggs width q (stored ++ row ∷ []) =
      append_assoc before.groups.entries (stored_groups keys aggs width q stored) (group ∷ []) ∙ ap (λ G. before.groups.entries ++ G) (sym (groups_in on)) in
      let merged : AreMerged q (so_far ++ group ∷ []) made.groups.entries = record {
        once = once;
        each = merged_more q so_far group (λ k. lookup (is_same_key k) partial.groups.entries) (λ k. lookup (is_same_key k) made.groups.entries) merges.groups.each now_at;
      } in
      record { rows = rows ∙ merges.rows; groups = subst (λ G. AreMerged q G made.groups.entries) all merged }
