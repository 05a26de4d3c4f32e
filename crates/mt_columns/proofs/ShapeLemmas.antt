-- A value of a type is one of its column's.
use Rattle.std.proofs.Common.{◌≡◌, ℕ, Bool, true, false, List, [], ◌∷◌, refl, ap, sym, subst, ◌∙◌}
use Rattle.std.specs.Prelude.{◌&&◌, ◌||◌}
use Rattle.std.specs.List.{list_all}
use Rattle.std.proofs.lemmas.Bool.{and_parts}
use Rattle.mt_types.specs.declared.ty.Ty.{Ty, map-Ty, out-Ty}
use Rattle.mt_types.specs.declared.ty.Ty.TheOpen.{Ty-F}
use Rattle.mt_types.specs.declared.ty.Ty.{roll-Ty}
use Rattle.mt_types.specs.declared.ty.Ty.TheViews.{out-roll-Ty}
use Rattle.mt_types.specs.declared.ty.Ty.TheFolds.{fold_out-Ty, ind-Ty}
use Rattle.mt_types.specs.declared.ty.Agg.{Agg}
use Rattle.mt_types.specs.declared.ty.Agg.TheVariants.{Sum, Min, Max}
use Rattle.mt_types.specs.declared.ty.Width.TheVariants.{W16, W32}
use Rattle.mt_types.specs.declared.value.AggState.{AggState}
use Rattle.mt_types.specs.Profile.{Kind, Whole, Day, Plain, Optional, Nested, Stored, Unknown, array_kind, is_known, is_profile, kind_of, optional_kind, state_kind}
use Rattle.mt_types.proofs.Levels.{kind_at}
use Rattle.mt_types.specs.declared.limits.TheConstants.{MAX_ARRAY_DEPTH}
use Rattle.std.specs.Prelude.{nat_lt, ◌+◌, if◌then◌else◌}
use Rattle.mt_cells.specs.declared.kind.Kind.{Kind as CellKind}
use Rattle.mt_cells.specs.declared.kind.Kind.TheVariants as kind
use Rattle.mt_cells.specs.Items.{OfCells, fits_items}
use Rattle.mt_columns.specs.Shapes.{plain_shape}
use Rattle.mt_cells.proofs.FitLemmas.{fits_level, level_fits, str_level, no_fit}
use Rattle.mt_types.specs.Fits.{null_at, state_at}
use Rattle.mt_types.specs.declared.value.Value.{Value, out-Value}
use Rattle.mt_types.specs.declared.value.Value.TheOpen.{Value-F}
use Rattle.mt_types.specs.Fits.{Level, fits_of, fits_step, list_at}
use Rattle.mt_item.proofs.ItemLemmas.{test_at}
use Rattle.mt_columns.specs.Leaves.{leaf_fits}
use Rattle.mt_columns.specs.Nesting.{Columned, fits_column, fits_depth}
use Rattle.mt_columns.specs.Shapes.{IsOfType, Shape, shape_of, shape_step}

-- the shape of a type of this level
pub shape_at : (t : Ty) (level : Ty-F Ty) → out-Ty t ≡ level → shape_of t ≡ shape_step (map-Ty Ty Shape shape_of level)
shape_at t level is = fold_out-Ty Shape shape_step t ∙ ap (λ l. shape_step (map-Ty Ty Shape shape_of l)) is

-- whether a value is one of the shape's
abbrev pub fits_shape : Shape → Value → Bool
fits_shape shape v = fits_depth (leaf_fits shape.nullable shape.kind) shape.depth v

all_weaker : (p q : Value → Bool) → ((v : Value) → p v ≡ true → q v ≡ true) → (vs : List Value) → list_all p vs ≡ true → list_all q vs ≡ true
all_weaker p q weaker [] h = refl
all_weaker p q weaker (v ∷ vs) h =
    let parts = and_parts (p v) (list_all p vs) h in
    ap (λ b. b && list_all q vs) (weaker v parts.0) ∙ all_weaker p q weaker vs parts.1

lists_weaker : (p q : Value → Bool) (bound : List Value → Bool) → ((v : Value) → p v ≡ true → q v ≡ true) → (l : Level) → list_at (λ vs. bound vs && list_all p vs) l ≡ true → list_at (list_all q) l ≡ true
lists_weaker p q bound weaker (Value-F.List vs) h = all_weaker p q weaker vs (and_parts (bound vs) (list_all p vs) h).1
lists_weaker p q bound weaker (Value-F.Num n) h = cc
lists_weaker p q bound weaker (Value-F.Huge n) h = cc
lists_weaker p q bound weaker (Value-F.Text t) h = cc
lists_weaker p q bound weaker (Value-F.State s) h = cc
lists_weaker p q bound weaker Value-F.Null h = cc

-- an array's values, where those of the type inside are known
pub array_fits : (t u : Ty) → out-Ty t ≡ Ty-F.Array u → ((v : Value) → fits_of u v ≡ true → fits_shape (shape_of u) v ≡ true) → (v : Value) → fits_of t v ≡ true → fits_shape (shape_of t) v ≡ true
array_fits t u is inner v h =
    let fits : fits_of t v ≡ fits_step (map-Ty Ty (Value → Bool) fits_of (Ty-F.Array u)) v = ap (λ f. f v) (fold_out-Ty (Value → Bool) fits_step t ∙ ap (λ l. fits_step (map-Ty Ty (Value → Bool) fits_of l)) is) in
    ap (λ (s : Shape). fits_shape s v) (shape_at t (Ty-F.Array u) is) ∙ lists_weaker (fits_of u) (fits_shape (shape_of u)) _ inner (out-Value v) (sym fits ∙ h)

-- ---- scalars

-- kinds of which Nullable may be
abbrev is_simple : Kind → Bool
is_simple Whole = true
is_simple Day = true
is_simple Plain = true
is_simple _ = false

only_simple : (k : Kind) → is_known (optional_kind k) ≡ true → is_simple k ≡ true
only_simple Whole e = refl
only_simple Day e = refl
only_simple Plain e = refl
only_simple Optional e = cc
only_simple (Nested d) e = cc
only_simple Stored e = cc
only_simple Unknown e = cc

no_optional : (k : Kind) → is_simple (optional_kind k) ≡ false
no_optional Whole = refl
no_optional Day = refl
no_optional Plain = refl
no_optional _ = refl

nested_or : (b : Bool) (d : ℕ) → is_simple (if b then Nested d else Unknown) ≡ false
nested_or true d = refl
nested_or false d = refl

no_array : (k : Kind) → is_simple (array_kind k) ≡ false
no_array Stored = refl
no_array Unknown = refl
no_array (Nested d) = nested_or (nat_lt d MAX_ARRAY_DEPTH) (d + 1)
no_array Whole = refl
no_array Day = refl
no_array Plain = refl
no_array Optional = refl

no_state : (agg : Agg) (k : Kind) → is_simple (state_kind agg k) ≡ false
no_state agg Whole = refl
no_state Sum Day = refl
no_state Min Day = refl
no_state Max Day = refl
no_state agg Plain = refl
no_state agg Optional = refl
no_state agg (Nested d) = refl
no_state agg Stored = refl
no_state agg Unknown = refl

-- a scalar's column has no arrays and no NULL
pub record IsPlain (s : Shape) : Type 0 where
  pub flat : s.depth ≡ 0
  pub never : s.nullable ≡ false

plain_at : (u : Ty) (level : Ty-F Ty) → out-Ty u ≡ level → is_simple (kind_of u) ≡ true → IsPlain (shape_of u)
plain_at u (Ty-F.UInt w) is e = subst IsPlain (sym (shape_at u (Ty-F.UInt w) is)) (record { flat = refl; never = refl })
plain_at u (Ty-F.Int w) is e = subst IsPlain (sym (shape_at u (Ty-F.Int w) is)) (record { flat = refl; never = refl })
plain_at u (Ty-F.FixedString n) is e = subst IsPlain (sym (shape_at u (Ty-F.FixedString n) is)) (record { flat = refl; never = refl })
plain_at u Ty-F.Str is e = subst IsPlain (sym (shape_at u Ty-F.Str is)) (record { flat = refl; never = refl })
plain_at u Ty-F.Date is e = subst IsPlain (sym (shape_at u Ty-F.Date is)) (record { flat = refl; never = refl })
plain_at u Ty-F.Moment is e = subst IsPlain (sym (shape_at u Ty-F.Moment is)) (record { flat = refl; never = refl })
plain_at u (Ty-F.Nullable w) is e = no_fit (is_simple (kind_of u)) (ap is_simple (kind_at u (Ty-F.Nullable w) is) ∙ no_optional (kind_of w)) e
plain_at u (Ty-F.Array w) is e = no_fit (is_simple (kind_of u)) (ap is_simple (kind_at u (Ty-F.Array w) is) ∙ no_array (kind_of w)) e
plain_at u (Ty-F.State agg w) is e = no_fit (is_simple (kind_of u)) (ap is_simple (kind_at u (Ty-F.State agg w) is) ∙ no_state agg (kind_of w)) e
plain_at u Ty-F.CountState is e = no_fit (is_simple (kind_of u)) (ap is_simple (kind_at u Ty-F.CountState is)) e

any_state : (p : AggState → Bool) (l : Level) → state_at p l ≡ true → state_at (λ s. true) l ≡ true
any_state p (Value-F.State s) h = refl
any_state p (Value-F.Num n) h = cc
any_state p (Value-F.Huge n) h = cc
any_state p (Value-F.Text t) h = cc
any_state p (Value-F.List vs) h = cc
any_state p Value-F.Null h = cc

null_or : (n f g : Bool) → (n || f) ≡ true → (f ≡ true → g ≡ true) → ((true && n) || g) ≡ true
null_or true f g h weaker = refl
null_or false f g h weaker = weaker h

-- the values of a shape without arrays
flat_values : (s : Shape) (v : Value) → IsPlain s → fits_shape s v ≡ fits_items s.kind v
flat_values s v plain = ap (λ (d : ℕ). fits_depth (leaf_fits s.nullable s.kind) d v) plain.flat ∙ ap (λ b. leaf_fits b s.kind v) plain.never

null_fits_shape : (s : Shape) (v : Value) (f : Bool) → IsPlain s → (null_at (out-Value v) || f) ≡ true → (f ≡ true → fits_shape s v ≡ true) → fits_shape (record s { nullable = true }) v ≡ true
null_fits_shape s v f plain h weaker =
    ap (λ (d : ℕ). fits_depth (leaf_fits true s.kind) d v) plain.flat ∙ null_or (null_at (out-Value v)) f (fits_items s.kind v) h (λ e. sym (flat_values s v plain) ∙ weaker e)

-- ---- every type

abbrev pub IsHeld : Ty → Type 0
IsHeld t = is_profile t ≡ true → (v : Value) → fits_of t v ≡ true → fits_shape (shape_of t) v ≡ true

cells_held : (t : Ty) (level : Ty-F Ty) (k : CellKind) → out-Ty t ≡ level → shape_of t ≡ plain_shape (OfCells k) → ((v : Value) → fits_of t v ≡ level_fits k (out-Value v)) → IsHeld t
cells_held t level k is shape test profile v h = ap (λ (s : Shape). fits_shape s v) shape ∙ fits_level k v ∙ sym (test v) ∙ h

-- the types inside a type are of the profile
known_array : (k : Kind) → is_known (array_kind k) ≡ true → is_known k ≡ true
known_array Stored e = cc
known_array Unknown e = cc
known_array (Nested d) e = refl
known_array Whole e = refl
known_array Day e = refl
known_array Plain e = refl
known_array Optional e = refl

known_simple : (k : Kind) → is_simple k ≡ true → is_known k ≡ true
known_simple Whole e = refl
known_simple Day e = refl
known_simple Plain e = refl
known_simple Optional e = cc
known_simple (Nested d) e = cc
known_simple Stored e = cc
known_simple Unknown e = cc

held_at : (t : Ty) (level : Ty-F ((u : Ty) × IsHeld u)) → out-Ty t ≡ map-Ty ((u : Ty) × IsHeld u) Ty (λ e. e.0) level → IsHeld t
held_at t (Ty-F.UInt w) is = cells_held t (Ty-F.UInt w) (kind.Unsigned w) is (shape_at t (Ty-F.UInt w) is) (λ v. test_at t (Ty-F.UInt w) v is)
held_at t (Ty-F.Int w) is = cells_held t (Ty-F.Int w) (kind.Signed w) is (shape_at t (Ty-F.Int w) is) (λ v. test_at t (Ty-F.Int w) v is)
held_at t (Ty-F.FixedString n) is = cells_held t (Ty-F.FixedString n) (kind.Text n) is (shape_at t (Ty-F.FixedString n) is) (λ v. test_at t (Ty-F.FixedString n) v is)
held_at t Ty-F.Date is = cells_held t Ty-F.Date (kind.Unsigned W16) is (shape_at t Ty-F.Date is) (λ v. test_at t Ty-F.Date v is)
held_at t Ty-F.Moment is = cells_held t Ty-F.Moment (kind.Unsigned W32) is (shape_at t Ty-F.Moment is) (λ v. test_at t Ty-F.Moment v is)
held_at t Ty-F.Str is = λ profile v h. ap (λ (s : Shape). fits_shape s v) (shape_at t Ty-F.Str is) ∙ str_level v ∙ sym (test_at t Ty-F.Str v is) ∙ h
held_at t Ty-F.CountState is = λ profile v h. ap (λ (s : Shape). fits_shape s v) (shape_at t Ty-F.CountState is) ∙ any_state _ (out-Value v) (sym (test_at t Ty-F.CountState v is) ∙ h)
held_at t (Ty-F.State agg u) is = λ profile v h. ap (λ (s : Shape). fits_shape s v) (shape_at t (Ty-F.State agg u.0) is) ∙ any_state _ (out-Value v) (sym (test_at t (Ty-F.State agg u.0) v is) ∙ h)
held_at t (Ty-F.Nullable u) is = λ profile v h.
    let simple = only_simple (kind_of u.0) (sym (ap is_known (kind_at t (Ty-F.Nullable u.0) is)) ∙ profile) in
    ap (λ (s : Shape). fits_shape s v) (shape_at t (Ty-F.Nullable u.0) is)
    ∙ null_fits_shape (shape_of u.0) v (fits_of u.0 v) (plain_at u.0 (out-Ty u.0) refl simple) (sym (test_at t (Ty-F.Nullable u.0) v is) ∙ h) (u.1 (known_simple (kind_of u.0) simple) v)
held_at t (Ty-F.Array u) is = λ profile. array_fits t u.0 is (u.1 (known_array (kind_of u.0) (sym (ap is_known (kind_at t (Ty-F.Array u.0) is)) ∙ profile)))

-- a value of a type of the profile is one of its column's
pub shape_fits : (t : Ty) → IsHeld t
shape_fits = ind-Ty IsHeld (λ x y is. held_at (roll-Ty x) y (out-roll-Ty x ∙ sym is))

-- so it may be pushed to a column of the type
pub column_fits : (t : Ty) (column : Columned) (v : Value) → is_profile t ≡ true → IsOfType t column → fits_of t v ≡ true → fits_column column v ≡ true
column_fits t column v profile is h = ap (λ (s : Shape). fits_shape s v) is ∙ shape_fits t profile v h
