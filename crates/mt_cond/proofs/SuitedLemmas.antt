-- A value of a column is of the kind of the literals that suit the column.
use Rattle.std.proofs.Common.{◌≡◌, ℕ, ℤ, zero, suc, ◌==◌, Bool, true, false, ◌||◌, List, [], ◌∷◌, length, refl, ap, sym, subst, ◌∙◌}
use Rattle.std.specs.Prelude.{nat_le, ◌&&◌}
use Rattle.std.specs.List.{list_all}
use Rattle.mt_types.specs.declared.ty.Ty.{Ty, roll-Ty, map-Ty}
use Rattle.mt_types.specs.declared.ty.Ty.TheOpen.{Ty-F}
use Rattle.mt_types.specs.declared.ty.Ty.TheFolds.{fold-roll-Ty, ind-Ty}
use Rattle.mt_types.specs.declared.value.Value.{Value, out-Value}
use Rattle.mt_types.specs.declared.value.Value.TheVariants.{outs-Null}
use Rattle.mt_types.specs.declared.value.Value.TheOpen.{Value-F}
use Rattle.mt_types.specs.Bytes.{is_byte}
use Rattle.mt_types.specs.declared.limits.TheConstants.{MAX_TEXT}
use Rattle.mt_types.specs.declared.ty.Width.{Width}
use Rattle.mt_types.specs.declared.ty.Width.TheVariants.{W8, W16, W32, W64, W128}
use Rattle.mt_types.specs.Fits.{Level, bits, is_unsigned, is_signed, natural_at, num_at, wide_at, text_at, null_at, fits_of, fits_step}
use Rattle.mt_table.specs.declared.column.Column.{Column}
use Rattle.mt_table.specs.Stored.{column_at}
use Rattle.mt_defs.specs.Rows.{Row, RowFits, cell}
use Rattle.mt_query.specs.Suits.{literal_step, is_number_level, takes_literal, prefix_step, takes_prefix}

-- two numbers, two texts, or nothing to compare
abbrev pub alike : Level → Level → Bool
alike (Value-F.Num m) b = is_number_level b
alike (Value-F.Huge m) b = is_number_level b
alike (Value-F.Text a) (Value-F.Text b) = true
alike Value-F.Null b = true
alike a b = false

abbrev pub is_bytes : Level → Bool
is_bytes (Value-F.Text a) = true
is_bytes Value-F.Null = true
is_bytes a = false

-- the value is of the kind of the literals that suit the type
abbrev pub Suited : Ty → Value → Type 0
Suited t v = ((w : Value) → takes_literal t w ≡ true → alike (out-Value v) (out-Value w) ≡ true) × ((p : List ℕ) → takes_prefix t p ≡ true → is_bytes (out-Value v) ≡ true)

-- ---- one level

numbers_alike : (a b : Level) → is_number_level a ≡ true → is_number_level b ≡ true → alike a b ≡ true
numbers_alike (Value-F.Num m) b h g = g
numbers_alike (Value-F.Huge m) b h g = g
numbers_alike a b h g = absurd cc

num_number : (p : ℤ → Bool) (a : Level) → num_at p a ≡ true → is_number_level a ≡ true
num_number p (Value-F.Num m) h = refl
num_number p a h = absurd cc

wide_number : (a : Level) → wide_at a ≡ true → is_number_level a ≡ true
wide_number (Value-F.Huge m) h = refl
wide_number (Value-F.Num m) h = refl
wide_number a h = absurd cc

natural_number : (w : Width) (a : Level) → natural_at w a ≡ true → is_number_level a ≡ true
natural_number W128 a h = wide_number a h
natural_number W8 a h = num_number (is_unsigned 8) a h
natural_number W16 a h = num_number (is_unsigned 16) a h
natural_number W32 a h = num_number (is_unsigned 32) a h
natural_number W64 a h = num_number (is_unsigned 64) a h

texts_alike : (p q : List ℕ → Bool) (a b : Level) → text_at p a ≡ true → text_at q b ≡ true → alike a b ≡ true
texts_alike p q (Value-F.Text x) (Value-F.Text y) h g = refl
texts_alike p q (Value-F.Text x) b h g = absurd cc
texts_alike p q a b h g = absurd cc

text_bytes : (p : List ℕ → Bool) (a : Level) → text_at p a ≡ true → is_bytes a ≡ true
text_bytes p (Value-F.Text x) h = refl
text_bytes p a h = absurd cc

null_alike : (a b : Level) (inner : Bool) → (inner ≡ true → alike a b ≡ true) → (null_at a || inner) ≡ true → alike a b ≡ true
null_alike Value-F.Null b inner f h = refl
null_alike a b inner f h = f h

null_bytes : (a : Level) (inner : Bool) → (inner ≡ true → is_bytes a ≡ true) → (null_at a || inner) ≡ true → is_bytes a ≡ true
null_bytes Value-F.Null inner f h = refl
null_bytes a inner f h = f h

-- ---- types

abbrev Suits : Ty → Type 0
Suits t = (v : Value) → fits_of t v ≡ true → Suited t v

abbrev SuitsLevel : Ty-F Ty → Type 0
SuitsLevel x = (v : Value) → fits_step (map-Ty Ty (Value → Bool) fits_of x) v ≡ true
    → ((w : Value) → literal_step (map-Ty Ty (Value → Bool) takes_literal x) w ≡ true → alike (out-Value v) (out-Value w) ≡ true)
    × ((p : List ℕ) → prefix_step (map-Ty Ty (List ℕ → Bool) takes_prefix x) p ≡ true → is_bytes (out-Value v) ≡ true)

abbrev Below : Type 0
Below = (t : Ty) × Suits t

level_suits : (y : Ty-F Below) → SuitsLevel (map-Ty Below Ty (λ e. e.0) y)
level_suits (Ty-F.UInt n) v h = (λ w g. numbers_alike (out-Value v) (out-Value w) (natural_number n (out-Value v) h) g, λ p g. absurd cc)
level_suits (Ty-F.Int n) v h = (λ w g. numbers_alike (out-Value v) (out-Value w) (num_number (is_signed (bits n)) (out-Value v) h) g, λ p g. absurd cc)
level_suits Ty-F.Date v h = (λ w g. numbers_alike (out-Value v) (out-Value w) (num_number (is_unsigned 16) (out-Value v) h) g, λ p g. absurd cc)
level_suits Ty-F.Moment v h = (λ w g. numbers_alike (out-Value v) (out-Value w) (num_number (is_unsigned 32) (out-Value v) h) g, λ p g. absurd cc)
level_suits (Ty-F.FixedString n) v h =
    (λ w g. texts_alike (λ b. length b == n && list_all is_byte b) (λ b. length b == n) (out-Value v) (out-Value w) h g, λ p g. text_bytes (λ b. length b == n && list_all is_byte b) (out-Value v) h)
level_suits Ty-F.Str v h =
    (λ w g. texts_alike (λ b. nat_le (length b) MAX_TEXT && list_all is_byte b) (λ b. true) (out-Value v) (out-Value w) h g, λ p g. text_bytes (λ b. nat_le (length b) MAX_TEXT && list_all is_byte b) (out-Value v) h)
level_suits (Ty-F.Nullable u) v h =
    (λ w g. null_alike (out-Value v) (out-Value w) (fits_of u.0 v) (λ f. (u.1 v f).0 w g) h, λ p g. null_bytes (out-Value v) (fits_of u.0 v) (λ f. (u.1 v f).1 p g) h)
level_suits layer v h = (λ w g. absurd cc, λ p g. absurd cc)

rolled_suits : (x : Ty-F Ty) → SuitsLevel x → Suits (roll-Ty x)
rolled_suits x h v f =
    let g = h v (ap (λ (t : Value → Bool). t v) (sym (fold-roll-Ty (Value → Bool) fits_step x)) ∙ f) in (
      λ w l. g.0 w (ap (λ (t : Value → Bool). t w) (sym (fold-roll-Ty (Value → Bool) literal_step x)) ∙ l),
      λ p l. g.1 p (ap (λ (t : List ℕ → Bool). t p) (sym (fold-roll-Ty (List ℕ → Bool) prefix_step x)) ∙ l),
    )

pub suits : (t : Ty) → Suits t
suits = ind-Ty Suits (λ x y is. rolled_suits x (subst SuitsLevel is (level_suits y)))

-- ---- columns: where the row ends, it has NULL

literal_at : (cs : List Column) (vs : Row) (k : ℕ) (w : Value) → RowFits cs vs → takes_literal (column_at cs k).ty w ≡ true → alike (out-Value (cell vs k)) (out-Value w) ≡ true
literal_at [] [] k w h g = rw outs-Null refl
literal_at (c ∷ cs) (v ∷ vs) zero w h g = (suits c.ty v h.0).0 w g
literal_at (c ∷ cs) (v ∷ vs) (suc k) w h g = literal_at cs vs k w h.1 g
literal_at [] (v ∷ vs) k w h g = absurd h
literal_at (c ∷ cs) [] k w h g = absurd h

prefix_at : (cs : List Column) (vs : Row) (k : ℕ) (p : List ℕ) → RowFits cs vs → takes_prefix (column_at cs k).ty p ≡ true → is_bytes (out-Value (cell vs k)) ≡ true
prefix_at [] [] k p h g = rw outs-Null refl
prefix_at (c ∷ cs) (v ∷ vs) zero p h g = (suits c.ty v h.0).1 p g
prefix_at (c ∷ cs) (v ∷ vs) (suc k) p h g = prefix_at cs vs k p h.1 g
prefix_at [] (v ∷ vs) k p h g = absurd h
prefix_at (c ∷ cs) [] k p h g = absurd h

pub row_suits : (columns : List Column) (row : Row) → RowFits columns row → (k : ℕ) → Suited (column_at columns k).ty (cell row k)
row_suits columns row fits k = (λ w g. literal_at columns row k w fits g, λ p g. prefix_at columns row k p fits g)
