-- Which values items stand for.
use Rattle.std.proofs.Common.{◌≡◌, ℕ, ℤ, Bool, true, false, ◌<◌, List, [], ◌∷◌, length, get_or, map, refl, ap, sym, ◌∙◌, arith}
use Rattle.std.proofs.lemmas.List.{get_or-map, length-map}
use Rattle.std.specs.Prelude.{◌&&◌, ◌==◌, nat_le, not}
use Rattle.std.specs.Borrow.{Bor}
use Rattle.std.specs.List.{list_all}
use Rattle.std.proofs.lemmas.Bool.{and_from, and_parts, eqb-true}
use Rattle.mt_types.specs.Bytes.{is_byte}
use Rattle.mt_types.specs.declared.limits.TheConstants.{MAX_TEXT}
use Rattle.mt_types.specs.declared.ty.Width.{Width}
use Rattle.mt_types.specs.declared.ty.Width.TheVariants.{W8, W16, W32, W64, W128}
use Rattle.mt_types.specs.declared.ty.Ty.TheOpen.{Ty-F}
use Rattle.mt_types.specs.declared.ty.Ty.TheVariants.{UInt, Int, FixedString, Str, outs-UInt, outs-Int, outs-FixedString, outs-Str}
use Rattle.mt_types.specs.declared.value.AggState.{AggState}
use Rattle.mt_types.specs.declared.value.AggState.TheVariants.{Count}
use Rattle.mt_types.specs.declared.value.Value.{Value, out-Value}
use Rattle.mt_types.specs.declared.value.Value.TheOpen.{Value-F}
use Rattle.mt_types.specs.declared.value.Value.TheVariants.{Null, State, Text, outs-State, outs-Text}
use Rattle.mt_types.specs.Defaults.{default_of, default_at}
use Rattle.mt_types.specs.Fits.{Level, bits, fits_of, is_signed, natural_at, num_at, state_at, text_at}
use Rattle.mt_types.specs.Parts.{text_in}
use Rattle.mt_types.proofs.DefaultLemmas.{default_fits}
use Rattle.mt_types.proofs.NumberLemmas.{fits_at}
use Rattle.mt_defs.specs.Encoding.{is_null, is_null_at}
use Rattle.mt_cells.specs.declared.kind.Kind.{Kind}
use Rattle.mt_cells.specs.declared.kind.Kind.TheVariants as kind
use Rattle.mt_cells.specs.declared.seen.Seen.{Seen}
use Rattle.mt_cells.specs.declared.seen.Seen.TheVariants as seen
use Rattle.mt_cells.specs.Items.{ItemKind, OfCells, OfStates, OfTexts, default_item, fits_items, huge_at, is_item, is_narrow_kind, is_no_huge}
use Rattle.mt_cells.specs.Kinds.{type_of}
use Rattle.mt_cells.specs.Seen.{value_seen}
use Rattle.mt_cells.proofs.NumberLemmas.{IsItemOf}
use Rattle.mt_cells.proofs.SeenLemmas.{level_seen, out_seen}

-- whether one level of a value is of the kind
abbrev pub level_fits : Kind → Level → Bool
level_fits (kind.Unsigned w) level = natural_at w level
level_fits (kind.Signed w) level = num_at (is_signed (bits w)) level
level_fits (kind.Text size) level = text_at (λ bytes. length bytes == size && list_all is_byte bytes) level

pub fits_level : (k : Kind) (v : Value) → fits_of (type_of k) v ≡ level_fits k (out-Value v)
fits_level (kind.Unsigned w) v = ap (λ f. f v) (fits_at (UInt w) (Ty-F.UInt w) (outs-UInt w))
fits_level (kind.Signed w) v = ap (λ f. f v) (fits_at (Int w) (Ty-F.Int w) (outs-Int w))
fits_level (kind.Text size) v = ap (λ f. f v) (fits_at (FixedString size) (Ty-F.FixedString size) (outs-FixedString size))

abbrev short_text : List ℕ → Bool
short_text bytes = nat_le (length bytes) MAX_TEXT && list_all is_byte bytes

pub str_level : (v : Value) → fits_of Str v ≡ text_at short_text (out-Value v)
str_level v = ap (λ f. f v) (fits_at Str Ty-F.Str outs-Str)

-- ---- only numbers and texts have a fixed width

-- a number or a text
abbrev is_scalar_at : Level → Bool
is_scalar_at (Value-F.Num n) = true
is_scalar_at (Value-F.Huge n) = true
is_scalar_at (Value-F.Text bytes) = true
is_scalar_at _ = false

fixed_scalar : (k : Kind) (l : Level) → level_fits k l ≡ true → is_scalar_at l ≡ true
fixed_scalar k (Value-F.Num n) e = refl
fixed_scalar k (Value-F.Huge n) e = refl
fixed_scalar k (Value-F.Text bytes) e = refl
fixed_scalar (kind.Unsigned W8) _ e = cc
fixed_scalar (kind.Unsigned W16) _ e = cc
fixed_scalar (kind.Unsigned W32) _ e = cc
fixed_scalar (kind.Unsigned W64) _ e = cc
fixed_scalar (kind.Unsigned W128) _ e = cc
fixed_scalar (kind.Signed w) _ e = cc
fixed_scalar (kind.Text size) _ e = cc

level_of : (k : Kind) (s : Seen) → fits_of (type_of k) (value_seen s) ≡ true → level_fits k (level_seen s) ≡ true
level_of k s fits = sym (fits_level k (value_seen s) ∙ ap (level_fits k) (out_seen s)) ∙ fits

scalar_seen : (k : Kind) (s : Seen) → fits_of (type_of k) (value_seen s) ≡ true → is_scalar_at (level_seen s) ≡ true
scalar_seen k s fits = fixed_scalar k (level_seen s) (level_of k s fits)

-- so nothing else is of a kind
pub not_of_fixed : {P : Type 0} (k : Kind) (s : Seen) → ((n : ℤ) → s ≡ seen.Num n → ⊥) → ((n : ℕ) → s ≡ seen.Huge n → ⊥) → ((bytes : Bor (List ℕ)) → s ≡ seen.Text bytes → ⊥)
    → fits_of (type_of k) (value_seen s) ≡ true → P
not_of_fixed k (seen.Num n) p q r fits = absurd (p n refl)
not_of_fixed k (seen.Huge n) p q r fits = absurd (q n refl)
not_of_fixed k (seen.Text bytes) p q r fits = absurd (r bytes refl)
not_of_fixed k seen.Null p q r fits = let bad = scalar_seen k seen.Null fits in cc
not_of_fixed k (seen.List items) p q r fits = let bad = scalar_seen k (seen.List items) fits in cc
not_of_fixed k (seen.State s) p q r fits = let bad = scalar_seen k (seen.State s) fits in cc

-- a text is of a kind of texts of its size
text_only : (w : Width) (bytes : List ℕ) → natural_at w (Value-F.Text bytes) ≡ false
text_only W8 bytes = refl
text_only W16 bytes = refl
text_only W32 bytes = refl
text_only W64 bytes = refl
text_only W128 bytes = refl

text_test : (k : Kind) (bytes : List ℕ) → fits_of (type_of k) (Text bytes) ≡ level_fits k (Value-F.Text bytes)
text_test k bytes = fits_level k (Text bytes) ∙ ap (level_fits k) (outs-Text bytes)

pub no_fit : {P : Type 0} (b : Bool) → b ≡ false → b ≡ true → P
no_fit b p q = let bad : false ≡ true = sym p ∙ q in cc

pub text_cell : (k : Kind) (bytes : List ℕ) → fits_of (type_of k) (Text bytes) ≡ true → IsItemOf k (Text bytes) bytes
text_cell (kind.Unsigned w) bytes fits = no_fit (fits_of (UInt w) (Text bytes)) (text_test (kind.Unsigned w) bytes ∙ text_only w bytes) fits
text_cell (kind.Signed w) bytes fits = no_fit (fits_of (Int w) (Text bytes)) (text_test (kind.Signed w) bytes) fits
text_cell (kind.Text size) bytes fits =
    let test = sym (text_test (kind.Text size) bytes) ∙ fits in
    record { long = eqb-true (length bytes) size (and_parts (length bytes == size) (list_all is_byte bytes) test).0; value = refl }

-- ---- only texts are of String, and only states are states

text_seen : (l : Level) → text_at short_text l ≡ true → is_scalar_at l ≡ true
text_seen (Value-F.Text bytes) e = refl
text_seen _ e = cc

-- what is no text is not of String
pub not_text : {P : Type 0} (s : Seen) → ((bytes : Bor (List ℕ)) → s ≡ seen.Text bytes → ⊥) → fits_of Str (value_seen s) ≡ true → P
not_text (seen.Text bytes) q fits = absurd (q bytes refl)
not_text (seen.Num n) q fits = let bad : text_at short_text (Value-F.Num n) ≡ true = sym (str_level (value_seen (seen.Num n)) ∙ ap (text_at short_text) (out_seen (seen.Num n))) ∙ fits in cc
not_text (seen.Huge n) q fits = let bad : text_at short_text (Value-F.Huge n) ≡ true = sym (str_level (value_seen (seen.Huge n)) ∙ ap (text_at short_text) (out_seen (seen.Huge n))) ∙ fits in cc
not_text seen.Null q fits = let bad : text_at short_text Value-F.Null ≡ true = sym (str_level (value_seen seen.Null) ∙ ap (text_at short_text) (out_seen seen.Null)) ∙ fits in cc
not_text (seen.List items) q fits = let bad : text_at short_text (Value-F.List items.now) ≡ true = sym (str_level (value_seen (seen.List items)) ∙ ap (text_at short_text) (out_seen (seen.List items))) ∙ fits in cc
not_text (seen.State s) q fits = let bad : text_at short_text (Value-F.State s) ≡ true = sym (str_level (value_seen (seen.State s)) ∙ ap (text_at short_text) (out_seen (seen.State s))) ∙ fits in cc

abbrev any_state : Level → Bool
any_state level = state_at (λ s. true) level

-- what is no state is no item of states
pub not_state : {P : Type 0} (s : Seen) → ((state : AggState) → s ≡ seen.State state → ⊥) → any_state (out-Value (value_seen s)) ≡ true → P
not_state (seen.State s) q fits = absurd (q s refl)
not_state (seen.Num n) q fits = let bad : any_state (Value-F.Num n) ≡ true = sym (ap any_state (out_seen (seen.Num n))) ∙ fits in cc
not_state (seen.Huge n) q fits = let bad : any_state (Value-F.Huge n) ≡ true = sym (ap any_state (out_seen (seen.Huge n))) ∙ fits in cc
not_state (seen.Text bytes) q fits = let bad : any_state (Value-F.Text bytes.now) ≡ true = sym (ap any_state (out_seen (seen.Text bytes))) ∙ fits in cc
not_state seen.Null q fits = let bad : any_state Value-F.Null ≡ true = sym (ap any_state (out_seen seen.Null)) ∙ fits in cc
not_state (seen.List items) q fits = let bad : any_state (Value-F.List items.now) ≡ true = sym (ap any_state (out_seen (seen.List items))) ∙ fits in cc

-- ---- NULL is no item, and the default is one

scalar_not_null : (l : Level) → is_scalar_at l ≡ true → is_null_at l ≡ false
scalar_not_null Value-F.Null e = cc
scalar_not_null _ e = refl

state_not_null : (l : Level) → any_state l ≡ true → is_null_at l ≡ false
state_not_null Value-F.Null e = cc
state_not_null _ e = refl

pub not_null : (k : ItemKind) (v : Value) → fits_items k v ≡ true → is_null v ≡ false
not_null (OfCells kind) v fits = scalar_not_null (out-Value v) (fixed_scalar kind (out-Value v) (sym (fits_level kind v) ∙ fits))
not_null OfTexts v fits = scalar_not_null (out-Value v) (text_seen (out-Value v) (sym (str_level v) ∙ fits))
not_null OfStates v fits = state_not_null (out-Value v) fits

pub default_is_item : (k : ItemKind) → fits_items k (default_item k) ≡ true
default_is_item (OfCells kind) = default_fits (type_of kind)
default_is_item OfTexts = default_fits Str
default_is_item OfStates = ap any_state (outs-State (Count 0))

-- the default of String is the empty text
pub default_text : default_of Str ≡ Text []
default_text = ap default_at outs-Str

text_same : (a b : List ℕ) → Text a ≡ Text b → a ≡ b
text_same a b e = sym (ap text_in (outs-Text a)) ∙ ap (λ (v : Value). text_in (out-Value v)) e ∙ ap text_in (outs-Text b)

-- a text is the default where it is empty
pub default_text_at : (texts : List (List ℕ)) (i : ℕ) → i < length (map (λ (text : List ℕ). Text text) texts)
    → (get_or texts i [] ≡ [] → get_or (map (λ (text : List ℕ). Text text) texts) i Null ≡ default_of Str) × (get_or (map (λ (text : List ℕ). Text text) texts) i Null ≡ default_of Str → get_or texts i [] ≡ [])
default_text_at texts i h =
    let there : i < length texts = omega (arith, h, length-map texts (λ (text : List ℕ). Text text)) in
    let at = get_or-map (λ (text : List ℕ). Text text) texts i [] Null there in (
      (λ e. at ∙ ap Text e ∙ sym default_text),
      (λ e. text_same (get_or texts i []) [] (sym at ∙ e ∙ default_text)),
    )

-- ---- all items

all_items : (k : ItemKind) (vs : List Value) → list_all (fits_items k) vs ≡ true → list_all is_item vs ≡ true
all_items k [] fits = refl
all_items k (v ∷ vs) fits =
    let parts = and_parts (fits_items k v) (list_all (fits_items k) vs) fits in
    and_from (is_item v) (list_all is_item vs) (ap not (not_null k v parts.0)) (all_items k vs parts.1)

-- no item of a fixed width is NULL, and no text or state
pub cells_are_items : (k : Kind) (vs : List Value) → list_all (fits_of (type_of k)) vs ≡ true → list_all is_item vs ≡ true
cells_are_items k vs fits = all_items (OfCells k) vs fits

pub texts_are_items : (texts : List (List ℕ)) → list_all is_item (map (λ (text : List ℕ). Text text) texts) ≡ true
texts_are_items [] = refl
texts_are_items (text ∷ texts) = and_from (is_item (Text text)) _ (ap (λ l. not (is_null_at l)) (outs-Text text)) (texts_are_items texts)

pub states_are_items : (states : List AggState) → list_all is_item (map (λ (s : AggState). State s) states) ≡ true
states_are_items [] = refl
states_are_items (s ∷ states) = and_from (is_item (State s)) _ (ap (λ l. not (is_null_at l)) (outs-State s)) (states_are_items states)

no_huge_at : (k : Kind) (l : Level) → is_narrow_kind (OfCells k) ≡ true → level_fits k l ≡ true → not (huge_at l) ≡ true
no_huge_at (kind.Unsigned W8) (Value-F.Huge n) narrow e = cc
no_huge_at (kind.Unsigned W16) (Value-F.Huge n) narrow e = cc
no_huge_at (kind.Unsigned W32) (Value-F.Huge n) narrow e = cc
no_huge_at (kind.Unsigned W64) (Value-F.Huge n) narrow e = cc
no_huge_at (kind.Unsigned W128) (Value-F.Huge n) narrow e = cc
no_huge_at (kind.Signed w) (Value-F.Huge n) narrow e = cc
no_huge_at (kind.Text size) (Value-F.Huge n) narrow e = cc
no_huge_at k (Value-F.Num n) narrow e = refl
no_huge_at k (Value-F.Text bytes) narrow e = refl
no_huge_at k Value-F.Null narrow e = refl
no_huge_at k (Value-F.List items) narrow e = refl
no_huge_at k (Value-F.State s) narrow e = refl

-- numbers of at most 64 bits are no Huge
pub cells_are_narrow : (k : Kind) (vs : List Value) → list_all (fits_of (type_of k)) vs ≡ true → is_narrow_kind (OfCells k) ≡ true → list_all is_no_huge vs ≡ true
cells_are_narrow k [] fits narrow = refl
cells_are_narrow k (v ∷ vs) fits narrow =
    let parts = and_parts (fits_of (type_of k) v) (list_all (fits_of (type_of k)) vs) fits in
    and_from (is_no_huge v) (list_all is_no_huge vs) (no_huge_at k (out-Value v) narrow (sym (fits_level k v) ∙ parts.0)) (cells_are_narrow k vs parts.1 narrow)
