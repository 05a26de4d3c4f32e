-- Partition values and their bytes.
use Rattle.std.proofs.Common.{◌≡◌, ℕ, ◌+◌, ◌^◌, ◌<◌, pos, Bool, true, false, not, ◌||◌, cond, List, [], ◌∷◌, ◌++◌, length, take, drop, map, get_or, refl, sym, ap, ◌∙◌, subst, arith}
use Rattle.std.specs.Prelude.{All, filter, IsTrue, ◌==◌, ◌↔◌}
use Rattle.std.specs.declared.cmp.Ordering.{Ordering}
use Rattle.std.specs.declared.cmp.Ordering.TheVariants.{Less, Equal, Greater}
use Rattle.std.specs.Ordering.{ordering_index}
use Rattle.std.specs.Cmp.{tied_itself}
use Rattle.std.specs.Int.{w32, to_le_bytes, from_le_bytes}
use Rattle.std.specs.List.{flat_map, list_any}
use Rattle.std.proofs.lemmas.Bool.{eqb-true, ne_eqb, or_parts}
use Rattle.std.proofs.lemmas.Bool.Decides.{nat_tests}
use Rattle.std.proofs.lemmas.Nat.{from_le_bytes-to_le_bytes_4}
use Rattle.std.proofs.lemmas.List.{append-nil, map-append, take_more}
use Rattle.std.proofs.lemmas.List.Elements.{All-nil, All-cons, All-head, All-tail, All-filter, All-weaker, All-map, All-contains, filter-append}
use Rattle.mt_types.specs.declared.ty.Ty.{Ty}
use Rattle.mt_types.specs.declared.ty.Ty.TheVariants.{Date, outs-Date}
use Rattle.mt_types.specs.declared.value.Value.{Value, out-Value}
use Rattle.mt_types.specs.declared.value.Value.TheVariants.{Num, outs-Num}
use Rattle.mt_types.specs.Fits.{fits_of}
use Rattle.mt_types.specs.Items.{item_bytes}
use Rattle.mt_types.specs.Order.{value_cmp}
use Rattle.mt_types.specs.Ordered.{value_total}
use Rattle.mt_types.specs.Ties.{exact_values}
use Rattle.mt_table.specs.declared.column.Column.{Column}
use Rattle.mt_table.specs.declared.partition.PartExpr.{PartExpr}
use Rattle.mt_table.specs.declared.partition.PartExpr.TheVariants.{Plain, Month}
use Rattle.mt_table.proofs.PointwiseLemmas.{Pointwise-length}
use Rattle.mt_defs.specs.Lists.{distinct_by}
use Rattle.mt_defs.specs.Metadata.{column_at, no_column}
use Rattle.mt_defs.specs.Partition.{month_of, month_at, expression_bytes, expression_column}
use Rattle.mt_defs.specs.Rows.{Row, RowFits, cell, column_values}
use Rattle.mt_defs.proofs.RowLemmas.{cell_fits}
use Rattle.mt_item.specs.ItemTypes.{is_scalar, is_scalar_at}
use Rattle.mt_meta.specs.Keys.{AreKeys}
use Rattle.mt_meta.specs.PartitionKeys.{IsKeyExpression, ArePartitionKeys, HasValue, HasValueOf, HaveSameValue}
use Rattle.mt_meta.specs.Minmax.{least_of, greatest_of}
use Rattle.mt_meta.proofs.BestLemmas.{least_is, greatest_is}
use Rattle.mt_meta.proofs.ItemFacts.{day_is, item_unique}

-- ---- a row has the values

pub has_cell : (columns : List Column) (row : Row) (i : ℕ) → RowFits columns row → i < length columns → i < length row
has_cell columns row i fits lt = omega (arith, lt, Pointwise-length (λ column value. IsTrue (fits_of column.ty value)) columns row fits)

pub has_value : (columns : List Column) (row : Row) (e : PartExpr) → IsKeyExpression columns e → RowFits columns row → HasValue row e
has_value columns row (Plain i) is fits = has_cell columns row i fits is.0
has_value columns row (Month i) is fits = (has_cell columns row i fits is.0, subst (λ ty. IsTrue (fits_of ty (cell row i))) is.1 (cell_fits columns row i no_column fits is.0))

-- ---- months as bytes

month_small : (day : ℕ) → day < 65536 → month_of day < 2 ^ 32
month_small day lt = grind (arith, nat_tests)

pub month_at_is : (v : Value) (n : ℕ) → v ≡ Num (pos n) → month_at (out-Value v) ≡ month_of n
month_at_is v n e = ap (λ w. month_at (out-Value w)) e ∙ ap month_at (outs-Num (pos n))

month_at_small : (v : Value) → IsTrue (fits_of Date v) → month_at (out-Value v) < 2 ^ 32
month_at_small v f = let day = day_is v f in subst (λ m. m < 2 ^ 32) (sym (month_at_is v day.0 day.1)) (month_small day.0 day.2)

four_bytes : (m n : ℕ) (x y : List ℕ) → m < 2 ^ 32 → n < 2 ^ 32 → to_le_bytes w32 m ++ x ≡ to_le_bytes w32 n ++ y → (m ≡ n) × (x ≡ y)
four_bytes m n x y a b e = (sym (from_le_bytes-to_le_bytes_4 m a) ∙ ap (λ t. from_le_bytes w32 (take 4 t)) e ∙ from_le_bytes-to_le_bytes_4 n b, ap (drop 4) e)

-- ---- the same value, the same bytes

-- what a comparison says
equal_is : (o : Ordering) → (ordering_index o == 1) ≡ true → o ≡ Equal
equal_is Less e = cc
equal_is Equal e = refl
equal_is Greater e = cc

pub tie_is : (v w : Value) (o : Ordering) → o ≡ value_cmp v w → ((ordering_index o == 1) ≡ true) ↔ (v ≡ w)
tie_is v w o e = (λ is. exact_values v w (sym e ∙ equal_is o is), λ same. ap (λ o. ordering_index o == 1) (e ∙ ap (value_cmp v) (sym same) ∙ tied_itself value_total v))

same_bytes : (columns : List Column) (a b : Row) (e : PartExpr) → HaveSameValue a b e → expression_bytes columns a e ≡ expression_bytes columns b e
same_bytes columns a b (Plain i) same = ap (item_bytes (column_at columns i).ty) same
same_bytes columns a b (Month i) same = ap (to_le_bytes w32) same

pub all_same_bytes : (columns : List Column) (a b : Row) (partition : List PartExpr) → All (HaveSameValue a b) partition → flat_map (expression_bytes columns a) partition ≡ flat_map (expression_bytes columns b) partition
all_same_bytes columns a b [] same = refl
all_same_bytes columns a b (e ∷ es) same =
    ap (λ (t : List ℕ). t ++ flat_map (expression_bytes columns a) es) (same_bytes columns a b e (All-head (HaveSameValue a b) e es same))
    ∙ ap (λ (t : List ℕ). expression_bytes columns b e ++ t) (all_same_bytes columns a b es (All-tail (HaveSameValue a b) e es same))

same_value : (columns : List Column) (a b : Row) (e : PartExpr) (x y : List ℕ) → IsKeyExpression columns e → RowFits columns a → RowFits columns b → expression_bytes columns a e ++ x ≡ expression_bytes columns b e ++ y
    → HaveSameValue a b e × (x ≡ y)
same_value columns a b (Plain i) x y is f g e =
    item_unique (column_at columns i).ty is.1 (cell a i) (cell b i) x y (cell_fits columns a i no_column f is.0) (cell_fits columns b i no_column g is.0) e
same_value columns a b (Month i) x y is f g e =
    four_bytes (month_at (out-Value (cell a i))) (month_at (out-Value (cell b i))) x y (month_at_small (cell a i) (has_value columns a (Month i) is f).1) (month_at_small (cell b i) (has_value columns b (Month i) is g).1) e

pub all_same_values : (columns : List Column) (a b : Row) (partition : List PartExpr) → ArePartitionKeys columns partition → RowFits columns a → RowFits columns b
    → flat_map (expression_bytes columns a) partition ≡ flat_map (expression_bytes columns b) partition → All (HaveSameValue a b) partition
all_same_values columns a b [] are f g e = All-nil (HaveSameValue a b)
all_same_values columns a b (x ∷ xs) are f g e =
    let s = same_value columns a b x (flat_map (expression_bytes columns a) xs) (flat_map (expression_bytes columns b) xs) (All-head (IsKeyExpression columns) x xs are) f g e in
    All-cons (HaveSameValue a b) x xs s.0 (all_same_values columns a b xs (All-tail (IsKeyExpression columns) x xs are) f g s.1)

-- ---- the columns of a partition key

abbrev pub distinct : List ℕ → List ℕ
distinct xs = distinct_by (λ i j. i == j) xs

-- the test that passes on every other number
abbrev pub others : ℕ → ℕ → Bool
others x y = not (x == y)

pub distinct_push : (xs : List ℕ) (x : ℕ) → list_any (λ i. i == x) xs ≡ false → distinct (xs ++ x ∷ []) ≡ distinct xs ++ x ∷ []
distinct_push [] x none = refl
distinct_push (y ∷ ys) x none =
    let parts = or_parts (y == x) (list_any (λ i. i == x) ys) none in
    let last : filter (others y) (x ∷ []) ≡ x ∷ [] = rw parts.0 refl in
    ap (λ zs. y ∷ filter (others y) zs) (distinct_push ys x parts.1) ∙ ap (λ zs. y ∷ zs) (filter-append (others y) (distinct ys) (x ∷ []) ∙ ap (λ zs. filter (others y) (distinct ys) ++ zs) last)

kept_by : (y x : ℕ) (ys : List ℕ) (p q : Bool) → (y == x) ≡ p → list_any (λ i. i == x) ys ≡ q → (p || q) ≡ true → (q ≡ true → distinct (ys ++ x ∷ []) ≡ distinct ys) → filter (others y) (distinct (ys ++ x ∷ [])) ≡ filter (others y) (distinct ys)
kept_by y x ys p true e f some again = ap (filter (others y)) (again refl)
kept_by y x ys true false e f some again =
    let last : filter (others y) (x ∷ []) ≡ [] = rw e refl in
    ap (filter (others y)) (distinct_push ys x f) ∙ filter-append (others y) (distinct ys) (x ∷ []) ∙ ap (λ zs. filter (others y) (distinct ys) ++ zs) last ∙ append-nil (filter (others y) (distinct ys))
kept_by y x ys false false e f some again = cc

pub distinct_kept : (xs : List ℕ) (x : ℕ) → list_any (λ i. i == x) xs ≡ true → distinct (xs ++ x ∷ []) ≡ distinct xs
distinct_kept [] x some = cc
distinct_kept (y ∷ ys) x some = ap (λ zs. y ∷ zs) (kept_by y x ys (y == x) (list_any (λ i. i == x) ys) refl refl some (distinct_kept ys x))

other_by : (y x z : ℕ) (zs : List ℕ) → (y == x) ≡ false → (b : Bool) → (y == z) ≡ b → list_any (λ i. i == x) (filter (others y) zs) ≡ list_any (λ i. i == x) zs
    → list_any (λ i. i == x) (cond (not b) (z ∷ filter (others y) zs) (filter (others y) zs)) ≡ ((z == x) || list_any (λ i. i == x) zs)
other_by y x z zs ne true e again = again ∙ ap (λ b. b || list_any (λ i. i == x) zs) (sym ne ∙ ap (λ k. k == x) (eqb-true y z e))
other_by y x z zs ne false e again = ap (λ b. (z == x) || b) again

any_other : (y x : ℕ) → (y == x) ≡ false → (zs : List ℕ) → list_any (λ i. i == x) (filter (others y) zs) ≡ list_any (λ i. i == x) zs
any_other y x ne [] = refl
any_other y x ne (z ∷ zs) = other_by y x z zs ne (y == z) refl (any_other y x ne zs)

any_by : (y x : ℕ) (ys : List ℕ) (b : Bool) → (y == x) ≡ b → list_any (λ i. i == x) (distinct ys) ≡ list_any (λ i. i == x) ys
    → ((y == x) || list_any (λ i. i == x) (filter (others y) (distinct ys))) ≡ ((y == x) || list_any (λ i. i == x) ys)
any_by y x ys true e again = rw e refl
any_by y x ys false e again = ap (λ b. (y == x) || b) (any_other y x e (distinct ys) ∙ again)

pub distinct_any : (xs : List ℕ) (x : ℕ) → list_any (λ i. i == x) (distinct xs) ≡ list_any (λ i. i == x) xs
distinct_any [] x = refl
distinct_any (y ∷ ys) x = any_by y x ys (y == x) refl (distinct_any ys x)

-- the columns of one more expression
one_more : (partition : List PartExpr) (i : ℕ) (d : PartExpr) (x : ℕ) → i < length partition → x ≡ expression_column (get_or partition i d) → map expression_column (take (i + 1) partition) ≡ map expression_column (take i partition) ++ x ∷ []
one_more partition i d x lt is = ap (map expression_column) (take_more partition i d lt) ∙ map-append expression_column (take i partition) (get_or partition i d ∷ []) ∙ ap (λ k. map expression_column (take i partition) ++ k ∷ []) (sym is)

has_same : (partition : List PartExpr) (i x : ℕ) (columns : List ℕ) (b : Bool) → columns ≡ distinct (map expression_column (take i partition)) → list_any (λ k. k == x) columns ≡ b → list_any (λ k. k == x) (map expression_column (take i partition)) ≡ b
has_same partition i x columns b e has = sym (distinct_any (map expression_column (take i partition)) x) ∙ ap (list_any (λ k. k == x)) (sym e) ∙ has

pub key_pushed : (partition : List PartExpr) (i : ℕ) (d : PartExpr) (x : ℕ) (columns new : List ℕ) → i < length partition → x ≡ expression_column (get_or partition i d) → columns ≡ distinct (map expression_column (take i partition))
    → list_any (λ k. k == x) columns ≡ false → new ≡ columns ++ x ∷ [] → new ≡ distinct (map expression_column (take (i + 1) partition))
key_pushed partition i d x columns new lt is e none push =
    push ∙ ap (λ l. l ++ x ∷ []) e ∙ sym (distinct_push (map expression_column (take i partition)) x (has_same partition i x columns false e none)) ∙ ap distinct (sym (one_more partition i d x lt is))

pub key_kept : (partition : List PartExpr) (i : ℕ) (d : PartExpr) (x : ℕ) (columns : List ℕ) → i < length partition → x ≡ expression_column (get_or partition i d) → columns ≡ distinct (map expression_column (take i partition))
    → list_any (λ k. k == x) columns ≡ true → columns ≡ distinct (map expression_column (take (i + 1) partition))
key_kept partition i d x columns lt is e some =
    e ∙ sym (distinct_kept (map expression_column (take i partition)) x (has_same partition i x columns true e some)) ∙ ap distinct (sym (one_more partition i d x lt is))

-- distinct columns of a key are columns of a key
pub distinct_all : (P : ℕ → Type 0) (xs : List ℕ) → All P xs → All P (distinct xs)
distinct_all P [] h = All-nil P
distinct_all P (x ∷ xs) h = All-cons P x (filter (others x) (distinct xs)) (All-head P x xs h) (All-filter (others x) P (distinct xs) (distinct_all P xs (All-tail P x xs h)))

pub expression_known : (columns : List Column) (e : PartExpr) → IsKeyExpression columns e → expression_column e < length columns
expression_known columns (Plain i) is = is.0
expression_known columns (Month i) is = is.0

date_scalar : is_scalar Date ≡ true
date_scalar = ap is_scalar_at outs-Date

expression_scalar : (columns : List Column) (e : PartExpr) → IsKeyExpression columns e → is_scalar (column_at columns (expression_column e)).ty ≡ true
expression_scalar columns (Plain i) is = is.1
expression_scalar columns (Month i) is = ap is_scalar is.1 ∙ date_scalar

pub key_columns_are : (columns : List Column) (partition : List PartExpr) → ArePartitionKeys columns partition → AreKeys columns (distinct (map expression_column partition))
key_columns_are columns partition are = record {
  known = distinct_all (λ i. i < length columns) (map expression_column partition) (All-map (λ i. i < length columns) expression_column partition (All-weaker (IsKeyExpression columns) (λ e. expression_column e < length columns) (expression_known columns) partition are));
  scalar = distinct_all (λ i. is_scalar (column_at columns i).ty ≡ true) (map expression_column partition)
      (All-map (λ i. is_scalar (column_at columns i).ty ≡ true) expression_column partition (All-weaker (IsKeyExpression columns) (λ e. is_scalar (column_at columns (expression_column e)).ty ≡ true) (expression_scalar columns) partition are));
}

-- ---- values of rows

-- a fact of each element, at an index of the same list
pub at_index : {X : Type 0} (P : X → Type 0) (xs ys : List X) (i : ℕ) (d : X) → ys ≡ xs → All P xs → i < length ys → P (get_or ys i d)
at_index P xs ys i d e all lt = subst (All P) (sym e) all i d lt

pub rows_have : (columns : List Column) (i : ℕ) (column : Column) (rows : List Row) → i < length columns → All (RowFits columns) rows → All (HasValueOf (get_or columns i column).ty i) rows
rows_have columns i column rows lt fit = All-weaker (RowFits columns) (HasValueOf (get_or columns i column).ty i) (λ row fits. (has_cell columns row i fits lt, cell_fits columns row i column fits lt)) rows fit

values_fit : (ty : Ty) (i : ℕ) (rows : List Row) → All (HasValueOf ty i) rows → All (λ v. IsTrue (fits_of ty v)) (column_values i rows)
values_fit ty i rows has = All-map (λ v. IsTrue (fits_of ty v)) (λ row. cell row i) rows (All-weaker (HasValueOf ty i) (λ row. IsTrue (fits_of ty (cell row i))) (λ row h. h.1) rows has)

pub rows_long : (ty : Ty) (i : ℕ) (rows : List Row) → All (HasValueOf ty i) rows → All (λ (row : Row). i < length row) rows
rows_long ty i rows has = All-weaker (HasValueOf ty i) (λ row. i < length row) (λ row h. h.0) rows has

pub least_fits : (ty : Ty) (i : ℕ) (rows : List Row) (v : Value) → All (HasValueOf ty i) rows → least_of (column_values i rows) ≡ v ∷ [] → IsTrue (fits_of ty v)
least_fits ty i rows v has e = All-contains (λ v. IsTrue (fits_of ty v)) (column_values i rows) v (values_fit ty i rows has) (least_is (column_values i rows) v e).among

pub greatest_fits : (ty : Ty) (i : ℕ) (rows : List Row) (v : Value) → All (HasValueOf ty i) rows → greatest_of (column_values i rows) ≡ v ∷ [] → IsTrue (fits_of ty v)
greatest_fits ty i rows v has e = All-contains (λ v. IsTrue (fits_of ty v)) (column_values i rows) v (values_fit ty i rows has) (greatest_is (column_values i rows) v e).among

-- ---- the files

pub first_row : (f : Row → List ℕ) (rows : List Row) (row : Row) → (rows ≡ [] → ⊥) → row ≡ get_or rows 0 row → f row ≡ flat_map f (take 1 rows)
first_row f [] row some is = absurd (some refl)
first_row f (x ∷ xs) row some is = ap f is ∙ sym (append-nil (f x))

pub one_more_file : {X Y : Type 0} (f : X → Y) (first item : Y) (files new : List Y) (xs : List X) (i : ℕ) (d : X) → i < length xs → new ≡ files ++ item ∷ [] → item ≡ f (get_or xs i d) → files ≡ first ∷ map f (take i xs)
    → new ≡ first ∷ map f (take (i + 1) xs)
one_more_file f first item files new xs i d lt push is e =
    push ∙ ap (λ l. l ++ item ∷ []) e
    ∙ ap (λ l. first ∷ l) (ap (λ y. map f (take i xs) ++ y ∷ []) is ∙ sym (map-append f (take i xs) (get_or xs i d ∷ [])) ∙ ap (map f) (sym (take_more xs i d lt)))

pub not_empty : {X : Type 0} (xs : List X) (b : Bool) → b ≡ false → (xs ≡ [] → b ≡ true) → (length xs == 0) ≡ false
not_empty [] b e h = let yes = h refl in cc
not_empty (x ∷ xs) b e h = ne_eqb (length (x ∷ xs)) 0 (λ e. absurd (omega (arith, e)))
