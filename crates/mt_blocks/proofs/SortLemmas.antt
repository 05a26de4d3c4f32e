-- Rows by rank and then by key are in key order.
use Rattle.std.proofs.Common.{◌≡◌, ℕ, ◌+◌, ◌<◌, Bool, true, false, cond, List, [], ◌∷◌, ◌++◌, map, get_or, refl, ap, ap₂, sym, ◌∙◌, subst, arith, inl, inr}
use Rattle.std.specs.Prelude.{◌==◌, if◌then◌else◌}
use Rattle.std.specs.Borrow.{Bor}
use Rattle.std.specs.Cmp.{IsTotalOrder, ranked}
use Rattle.std.specs.Ordering.{ordering_then, ordering_reverse, nat_cmp}
use Rattle.std.specs.List.{All}
use Rattle.std.specs.List.Sorted.{IsSorted, IsStable}
use Rattle.std.specs.declared.cmp.Ordering.{Ordering}
use Rattle.std.specs.declared.cmp.Ordering.TheVariants.{Less, Equal, Greater}
use Rattle.std.proofs.lemmas.Bool.{cases_Bool, eqb-true, not-true}
use Rattle.std.proofs.lemmas.Cmp.{nat_cmp_total, then_total, on_total}
use Rattle.std.proofs.lemmas.List.Elements.{All-head, All-tail}
use Rattle.std.proofs.lemmas.List.FromFn.{map-range_with_len_more, get_or-range_with_len, length-range_with_len}
use Rattle.mt_types.specs.declared.ty.Width.TheVariants.{W8, W16, W32, W64, W128}
use Rattle.mt_types.specs.declared.value.Value.{out-Value}
use Rattle.mt_types.specs.declared.value.Value.TheVariants.{Null}
use Rattle.mt_types.specs.Order.{value_cmp, values_cmp}
use Rattle.mt_types.specs.Ordered.{values_total}
use Rattle.mt_defs.specs.Sorting.{sorted_by}
use Rattle.mt_defs.proofs.Sorted.{All-sorted_by}
use Rattle.mt_cells.specs.declared.kind.Kind.TheVariants as kind
use Rattle.mt_cells.specs.Items.{ItemKind, OfCells, OfStates, OfTexts, huge_at, is_narrow_kind}
use Rattle.mt_columns.specs.Nesting.{Columned}
use Rattle.mt_blocks.specs.declared.rank.Scale.{Scale}
use Rattle.mt_blocks.specs.declared.rank.Scale.TheVariants.{Numbers, Wide, Texts}
use Rattle.mt_blocks.specs.declared.sort.Place.{Place}
use Rattle.mt_blocks.specs.declared.sort.Scales.{Scales}
use Rattle.mt_blocks.specs.Ranks.{IsRanked, is_decided, kind_scale, rank_in, scale_of, value_rank}
use Rattle.mt_blocks.specs.Rows.{indexes}
use Rattle.mt_blocks.specs.Sorting.{key_at, index_cmp, first_rank, second_rank, place_at, place_cmp, first_scale, scales_of, tied_cmp, untold, untold_behind, untold_key}
use Rattle.mt_blocks.proofs.RankLemmas.{values_rise, values_tie}
use Rattle.mt_sort.proofs.SortedLemmas.{map-sorted_by}
use Rattle.mt_blocks.proofs.SortedLemmas.{sorted_same}
use Rattle.mt_sort.proofs.StableLemmas.{the_one}

keys_total : (columns : List (Bor Columned)) → IsTotalOrder (index_cmp columns)
keys_total columns = on_total (key_at columns) values_total

-- ---- one column

-- a rank where there are arrays, or none
flat_rank : (column : Columned) (i : ℕ) → (column.depth == 0) ≡ true → rank_in column i ≡ value_rank (scale_of column) (get_or column.values i Null)
flat_rank column i flat = ap (λ (b : Bool). if b then value_rank (scale_of column) (get_or column.values i Null) else 0) flat

array_rank : (column : Columned) (i : ℕ) → (column.depth == 0) ≡ false → rank_in column i ≡ 0
array_rank column i deep = ap (λ (b : Bool). if b then value_rank (scale_of column) (get_or column.values i Null) else 0) deep

-- a value of lower rank is below
column_rise : (column : Columned) (a b : ℕ) → rank_in column a < rank_in column b → value_cmp (get_or column.values a Null) (get_or column.values b Null) ≡ Less
column_rise column a b h = elim (cases_Bool (column.depth == 0)) [
  | inl flat ↦ values_rise (scale_of column) (get_or column.values a Null) (get_or column.values b Null) (omega (arith, h, flat_rank column a flat, flat_rank column b flat))
  | inr deep ↦ absurd (omega (arith, h, array_rank column a deep, array_rank column b deep))
]

-- ranks are decided of narrow numbers alone
decided_narrow : (k : ItemKind) (rank : ℕ) → is_decided (kind_scale k) rank ≡ true → is_narrow_kind k ≡ true
decided_narrow (OfCells (kind.Unsigned W8)) rank e = refl
decided_narrow (OfCells (kind.Unsigned W16)) rank e = refl
decided_narrow (OfCells (kind.Unsigned W32)) rank e = refl
decided_narrow (OfCells (kind.Unsigned W64)) rank e = refl
decided_narrow (OfCells (kind.Unsigned W128)) rank e = cc
decided_narrow (OfCells (kind.Signed W8)) rank e = refl
decided_narrow (OfCells (kind.Signed W16)) rank e = refl
decided_narrow (OfCells (kind.Signed W32)) rank e = refl
decided_narrow (OfCells (kind.Signed W64)) rank e = refl
decided_narrow (OfCells (kind.Signed W128)) rank e = cc
decided_narrow (OfCells (kind.Text size)) rank e = cc
decided_narrow OfTexts rank e = cc
decided_narrow OfStates rank e = cc

zero_undecided : (scale : Scale) → is_decided scale 0 ≡ false
zero_undecided (Numbers origin) = refl
zero_undecided (Wide origin) = refl
zero_undecided Texts = refl

-- values of one decided rank are the same
column_tie : (column : Columned) (a b : ℕ) → IsRanked column → is_decided (scale_of column) (rank_in column a) ≡ true → rank_in column a ≡ rank_in column b → value_cmp (get_or column.values a Null) (get_or column.values b Null) ≡ Equal
column_tie column a b known d e = elim (cases_Bool (column.depth == 0)) [
  | inl flat ↦
      (let v = get_or column.values a Null in
      let w = get_or column.values b Null in
      let decided : is_decided (scale_of column) (value_rank (scale_of column) v) ≡ true = ap (is_decided (scale_of column)) (sym (flat_rank column a flat)) ∙ d in
      let real = known (eqb-true column.depth 0 flat) (decided_narrow column.kind (value_rank (scale_of column) v) decided) in
      values_tie (scale_of column) v w (not-true (huge_at (out-Value v)) (real a)) (not-true (huge_at (out-Value w)) (real b)) decided (sym (flat_rank column a flat) ∙ e ∙ flat_rank column b flat))
  | inr deep ↦ (let bad : false ≡ true = sym (ap (is_decided (scale_of column)) (array_rank column a deep) ∙ zero_undecided (scale_of column)) ∙ d in cc)
]

-- ---- rows

-- a row of lower rank is below
rows_rise : (columns : List (Bor Columned)) (a b : ℕ) → nat_cmp (first_rank columns a) (first_rank columns b) ≡ Less → index_cmp columns a b ≡ Less
rows_rise [] a b e = let less : 0 < 0 = ranked 0 0 Less (sym e) in absurd (omega arith)
rows_rise (column ∷ columns) a b e =
    let less : rank_in column.now a < rank_in column.now b = ranked (rank_in column.now a) (rank_in column.now b) Less (sym e) in
    ap (λ o. ordering_then o (values_cmp (key_at columns a) (key_at columns b))) (column_rise column.now a b less)

rows_fall : (columns : List (Bor Columned)) (a b : ℕ) → nat_cmp (first_rank columns a) (first_rank columns b) ≡ Greater → index_cmp columns a b ≡ Greater
rows_fall columns a b e =
    let turned : nat_cmp (first_rank columns b) (first_rank columns a) ≡ Less = nat_cmp_total.antisymm (first_rank columns b) (first_rank columns a) ∙ ap ordering_reverse e in
    (keys_total columns).antisymm a b ∙ ap ordering_reverse (rows_rise columns b a turned)

-- second ranks of rows whose first ranks tie
seconds : (d : Bool) (x y : ℕ) (o whole : Ordering) → (d ≡ true → whole ≡ o) → (nat_cmp x y ≡ Less → o ≡ Less) → nat_cmp (cond d x 0) (cond d y 0) ≡ Less → whole ≡ Less
seconds true x y o whole same rise e = same refl ∙ rise e
seconds false x y o whole same rise e = let less : 0 < 0 = ranked 0 0 Less (sym e) in absurd (omega arith)

second_rise : (columns : List (Bor Columned)) (a b : ℕ) → All (λ (c : Bor Columned). IsRanked c.now) columns → first_rank columns a ≡ first_rank columns b → nat_cmp (second_rank columns (first_rank columns a) a) (second_rank columns (first_rank columns b) b) ≡ Less
    → index_cmp columns a b ≡ Less
second_rise [] a b known same e = let less : 0 < 0 = ranked 0 0 Less (sym e) in absurd (omega arith)
second_rise (column ∷ columns) a b known same e =
    let rank = rank_in column.now a in
    seconds (is_decided (scale_of column.now) rank) (first_rank columns a) (first_rank columns b) (index_cmp columns a b) (index_cmp (column ∷ columns) a b)
    (λ d. ap (λ o. ordering_then o (values_cmp (key_at columns a) (key_at columns b))) (column_tie column.now a b (All-head (λ (c : Bor Columned). IsRanked c.now) column columns known) d same)) (rows_rise columns a b)
    (ap (λ (r : ℕ). nat_cmp (second_rank (column ∷ columns) rank a) (second_rank (column ∷ columns) r b)) same ∙ e)

second_fall : (columns : List (Bor Columned)) (a b : ℕ) → All (λ (c : Bor Columned). IsRanked c.now) columns → first_rank columns a ≡ first_rank columns b → nat_cmp (second_rank columns (first_rank columns a) a) (second_rank columns (first_rank columns b) b) ≡ Greater
    → index_cmp columns a b ≡ Greater
second_fall columns a b known same e =
    let x = second_rank columns (first_rank columns a) a in
    let y = second_rank columns (first_rank columns b) b in
    let turned : nat_cmp y x ≡ Less = nat_cmp_total.antisymm y x ∙ ap ordering_reverse e in
    (keys_total columns).antisymm a b ∙ ap ordering_reverse (second_rise columns b a known (sym same) turned)

-- a comparison of ranks, and what goes before the whole where they tie
then_tied : (r rest whole : Ordering) → (r ≡ Less → whole ≡ Less) → (r ≡ Greater → whole ≡ Greater) → (r ≡ Equal → rest ≡ whole) → ordering_then r rest ≡ whole
then_tied Less rest whole less greater equal = sym (less refl)
then_tied Equal rest whole less greater equal = equal refl
then_tied Greater rest whole less greater equal = sym (greater refl)

-- ---- what ranks that tie don't tell

-- rows of one decided rank compare as without the column
first_ties : (column : Bor Columned) (columns : List (Bor Columned)) (a b : ℕ) → IsRanked column.now → is_decided (scale_of column.now) (rank_in column.now a) ≡ true → rank_in column.now a ≡ rank_in column.now b
    → index_cmp (column ∷ columns) a b ≡ index_cmp columns a b
first_ties column columns a b known d same = ap (λ o. ordering_then o (values_cmp (key_at columns a) (key_at columns b))) (column_tie column.now a b known d same)

second_untold : (columns : List (Bor Columned)) (a b : ℕ) → All (λ (c : Bor Columned). IsRanked c.now) columns → first_rank columns a ≡ first_rank columns b
    → index_cmp (untold_behind columns (first_scale columns) (first_rank columns a)) a b ≡ index_cmp columns a b
second_untold [] a b known same = refl
second_untold (column ∷ columns) a b known same =
    let behind : Bool → Ordering = λ d. index_cmp (cond d columns (column ∷ columns)) a b in
    elim (cases_Bool (is_decided (scale_of column.now) (rank_in column.now a))) [
      | inl one ↦ ap behind one ∙ sym (first_ties column columns a b (All-head (λ (c : Bor Columned). IsRanked c.now) column columns known) one same)
      | inr many ↦ ap behind many
    ]

-- what the ranks of one row don't tell decides, where those of another tie
untold_whole : (columns : List (Bor Columned)) (a b : ℕ) → All (λ (c : Bor Columned). IsRanked c.now) columns → first_rank columns a ≡ first_rank columns b → second_rank columns (first_rank columns a) a ≡ second_rank columns (first_rank columns b) b
    → index_cmp (untold columns (scales_of columns) (first_rank columns a) (second_rank columns (first_rank columns a) a)) a b ≡ index_cmp columns a b
untold_whole [] a b known same e = refl
untold_whole (column ∷ columns) a b known same e =
    let decided : ℕ → Bool = is_decided (scale_of column.now) in
    let x = first_rank columns a in
    let y = first_rank columns b in
    let behind : Bool → Ordering = λ d. index_cmp (cond d (untold_behind columns (first_scale columns) (cond d x 0)) (column ∷ columns)) a b in
    elim (cases_Bool (decided (rank_in column.now a))) [
      | inl one ↦
          (let next : x ≡ y = sym (ap (λ (d : Bool). cond d x 0) one) ∙ e ∙ ap (λ (d : Bool). cond d y 0) (ap decided (sym same) ∙ one) in
          ap behind one ∙ second_untold columns a b (All-tail (λ (c : Bor Columned). IsRanked c.now) column columns known) next
          ∙ sym (first_ties column columns a b (All-head (λ (c : Bor Columned). IsRanked c.now) column columns known) one same))
      | inr many ↦ ap behind many
    ]

-- it is compared on either side by the ranks of that side
pub untold_both : (columns : List (Bor Columned)) (scales : Scales) (a b : Place) → a.rank ≡ b.rank → a.second ≡ b.second
    → index_cmp (untold columns scales a.rank a.second) a.index b.index ≡ values_cmp (untold_key columns scales a) (untold_key columns scales b)
untold_both columns scales a b ranks seconds =
    ap₂ (λ (r s : ℕ). values_cmp (untold_key columns scales a) (key_at (untold columns scales r s) b.index)) ranks seconds

module _ (columns : List (Bor Columned)) (known : All (λ (c : Bor Columned). IsRanked c.now) columns) (scales : Scales) (are : scales ≡ scales_of columns) where
  pub places_total : IsTotalOrder (place_cmp columns scales)
  places_total = then_total (on_total (λ (p : Place). p.rank) nat_cmp_total) (then_total (on_total (λ (p : Place). p.second) nat_cmp_total) (on_total (untold_key columns scales) values_total))

  tied_agree : (a b : ℕ) → first_rank columns a ≡ first_rank columns b → tied_cmp columns (scales_of columns) (place_at columns a) (place_at columns b) ≡ index_cmp columns a b
  tied_agree a b same =
      let s = second_rank columns (first_rank columns a) a in
      let t = second_rank columns (first_rank columns b) b in
      let p = place_at columns a in
      let q = place_at columns b in
      then_tied (nat_cmp s t) (values_cmp (untold_key columns (scales_of columns) p) (untold_key columns (scales_of columns) q)) (index_cmp columns a b) (second_rise columns a b known same) (second_fall columns a b known same) (λ e.
      let seconds : s ≡ t = ranked s t Equal (sym e) in
      sym (untold_both columns (scales_of columns) p q same seconds) ∙ untold_whole columns a b known same seconds)

  places_agree : (a b : ℕ) → place_cmp columns scales (place_at columns a) (place_at columns b) ≡ index_cmp columns a b
  places_agree a b =
      let x = first_rank columns a in
      let y = first_rank columns b in
      ap (λ (both : Scales). place_cmp columns both (place_at columns a) (place_at columns b)) are
      ∙ then_tied (nat_cmp x y) (tied_cmp columns (scales_of columns) (place_at columns a) (place_at columns b)) (index_cmp columns a b) (rows_rise columns a b) (rows_fall columns a b) (λ e. tied_agree a b (ranked x y Equal (sym e)))

  back : (order : List ℕ) → map (λ (p : Place). p.index) (map (place_at columns) order) ≡ order
  back [] = refl
  back (i ∷ order) = ap (λ l. i ∷ l) (back order)

  -- what a stable sort of places gives, without the ranks
  pub sorted_places : (order : List ℕ) (before after : List Place) → before ≡ map (place_at columns) order → IsSorted (place_cmp columns scales) after → IsStable (place_cmp columns scales) before after
      → map (λ (p : Place). p.index) after ≡ sorted_by (index_cmp columns) order
  sorted_places order before after made up stable =
      let R = place_cmp columns scales in
      let f = place_at columns in
      let bare : List Place → List ℕ = map (λ (p : Place). p.index) in
      ap bare (the_one R places_total before after up stable ∙ ap (sorted_by R) made ∙ sym (map-sorted_by f R order) ∙ ap (map f) (sorted_same (λ a b. R (f a) (f b)) (index_cmp columns) places_agree order))
      ∙ back (sorted_by (index_cmp columns) order)

-- ---- the places of so many rows

pub places_none : (columns : List (Bor Columned)) (places : List Place) → places ≡ [] → places ≡ map (place_at columns) (indexes 0)
places_none columns places e = e

pub places_more : (columns : List (Bor Columned)) (count rank second : ℕ) (now new : List Place) → now ≡ map (place_at columns) (indexes count) → new ≡ now ++ (let p : Place = record { rank = rank; second = second; index = count } in p) ∷ []
    → rank ≡ first_rank columns count → second ≡ second_rank columns rank count → new ≡ map (place_at columns) (indexes (count + 1))
places_more columns count rank second now new was step is is_second =
    let zero_more : 0 + count ≡ count = omega arith in
    step ∙ ap (λ (ps : List Place). ps ++ (let p : Place = record { rank = rank; second = second; index = count } in p) ∷ []) was
    ∙ ap (λ (s : ℕ). map (place_at columns) (indexes count) ++ (let p : Place = record { rank = rank; second = s; index = count } in p) ∷ []) is_second
    ∙ ap (λ (r : ℕ). map (place_at columns) (indexes count) ++ (let p : Place = record { rank = r; second = second_rank columns r count; index = count } in p) ∷ []) is
    ∙ sym (map-range_with_len_more (place_at columns) 0 count count zero_more)

all_indexes : (count : ℕ) → All (λ i. i < count) (indexes count)
all_indexes count k d h =
    let inside : k < count = omega (arith, h, length-range_with_len 0 count) in
    omega (arith, inside, get_or-range_with_len 0 count k d inside)

pub all_in_order : (columns : List (Bor Columned)) (count : ℕ) (order : List ℕ) → order ≡ sorted_by (index_cmp columns) (indexes count) → All (λ i. i < count) order
all_in_order columns count order e =
    ap_all (sym e) (All-sorted_by (index_cmp columns) (λ i. i < count) (indexes count) (all_indexes count))
  where
    ap_all : {xs ys : List ℕ} → xs ≡ ys → All (λ i. i < count) xs → All (λ i. i < count) ys
    ap_all same all = subst (λ zs. All (λ i. i < count) zs) same all
