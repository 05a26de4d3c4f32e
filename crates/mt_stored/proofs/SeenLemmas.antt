-- What a query sees of a row depends only on the columns that it names.
use Rattle.std.proofs.Common.{◌≡◌, ℕ, ◌+◌, ◌<◌, ◌==◌, Bool, true, false, cond, ◌||◌, nat_lt, List, [], ◌∷◌, length, refl, ap, sym, ◌∙◌, subst, Option, Some, None, inl, inr, arith, add-one, ltb-true, eqb-true}
use Rattle.std.specs.List.{list_all}
use Rattle.std.proofs.lemmas.Bool.{cases_Bool, eq-eqb, and_parts}
use Rattle.std.proofs.lemmas.List.{get_or-take}
use Rattle.std.proofs.lemmas.List.FromFn.{get_or-map-range_with_len}
use Rattle.mt_types.specs.declared.value.Value.TheVariants.{Null}
use Rattle.mt_table.specs.Kept.{is_one_of}
use Rattle.mt_table.specs.Stored.{index_in}
use Rattle.mt_defs.specs.Rows.{Row, cell, key_of}
use Rattle.mt_defs.specs.Projections.{stored_key}
use Rattle.mt_query.specs.declared.cond.Cond.{Cond, roll-Cond, map-Cond}
use Rattle.mt_query.specs.declared.cond.Cond.TheOpen.{Cond-F}
use Rattle.mt_query.specs.declared.cond.Cond.TheFolds.{fold-roll-Cond, ind-Cond}
use Rattle.mt_query.specs.Named.{columns_step, cond_passes, given_cond_passes}
use Rattle.mt_query.specs.Truth.{Truth, and3, or3, not3, truth_step, truth_of}
use Rattle.mt_fold.specs.Answer.{is_true, keeps}
use Rattle.mt_stored.specs.Placed.{is_stored_column, placed_cell, as_row}

-- ---- two rows with the same values of the columns that pass

module _ (test : ℕ → Bool) (r s : Row) (same : (column : ℕ) → test column ≡ true → cell r column ≡ cell s column) where
  abbrev Agrees : Cond → Type 0
  Agrees c = cond_passes test c ≡ true → truth_of c r ≡ truth_of c s

  -- a condition of which this is known
  abbrev Known : Type 0
  Known = (c : Cond) × Agrees c

  -- a level without what is known
  abbrev plain : Cond-F Known → Cond-F Cond
  plain level = map-Cond Known Cond (λ k. k.0) level

  level_agrees : (level : Cond-F Known) → columns_step test (map-Cond Cond Bool (cond_passes test) (plain level)) ≡ true
      → truth_step (map-Cond Cond (Row → Truth) truth_of (plain level)) r ≡ truth_step (map-Cond Cond (Row → Truth) truth_of (plain level)) s
  level_agrees (Cond-F.Cmp column op literal) e = rw (same column e) refl
  level_agrees (Cond-F.OneOf column literals) e = rw (same column e) refl
  level_agrees (Cond-F.IsNull column negated) e = rw (same column e) refl
  level_agrees (Cond-F.Starts column prefix) e = rw (same column e) refl
  level_agrees (Cond-F.Has column literal) e = rw (same column e) refl
  level_agrees (Cond-F.And a b) e =
      let both = and_parts (cond_passes test a.0) (cond_passes test b.0) e in
      ap (λ t. and3 t (truth_of b.0 r)) (a.1 both.0) ∙ ap (and3 (truth_of a.0 s)) (b.1 both.1)
  level_agrees (Cond-F.Or a b) e =
      let both = and_parts (cond_passes test a.0) (cond_passes test b.0) e in
      ap (λ t. or3 t (truth_of b.0 r)) (a.1 both.0) ∙ ap (or3 (truth_of a.0 s)) (b.1 both.1)
  level_agrees (Cond-F.Not a) e = ap not3 (a.1 e)

  pub truth_agrees : (c : Cond) → Agrees c
  truth_agrees = ind-Cond Agrees (λ x level is e.
      let at : (row : Row) → truth_of (roll-Cond x) row ≡ truth_step (map-Cond Cond (Row → Truth) truth_of x) row = λ row. ap (λ (f : Row → Truth). f row) (fold-roll-Cond (Row → Truth) truth_step x) in
      let passes : columns_step test (map-Cond Cond Bool (cond_passes test) (plain level)) ≡ true = ap (λ l. columns_step test (map-Cond Cond Bool (cond_passes test) l)) is ∙ sym (fold-roll-Cond Bool (columns_step test) x) ∙ e in
      let step : truth_step (map-Cond Cond (Row → Truth) truth_of x) r ≡ truth_step (map-Cond Cond (Row → Truth) truth_of x) s =
      subst (λ l. truth_step (map-Cond Cond (Row → Truth) truth_of l) r ≡ truth_step (map-Cond Cond (Row → Truth) truth_of l) s) is (level_agrees level passes) in
      at r ∙ step ∙ sym (at s))

  pub keeps_agrees : (c : Option Cond) → given_cond_passes test c ≡ true → keeps c r ≡ keeps c s
  keeps_agrees None e = refl
  keeps_agrees (Some c) e = ap is_true (truth_agrees c e)

  pub key_agrees : (columns : List ℕ) → list_all test columns ≡ true → key_of columns r ≡ key_of columns s
  key_agrees [] e = refl
  key_agrees (column ∷ columns) e =
      let both = and_parts (test column) (list_all test columns) e in
      ap (λ v. v ∷ key_of columns r) (same column both.0) ∙ ap (λ vs. cell s column ∷ vs) (key_agrees columns both.1)

-- ---- a stored row as a row of the table

eqb-turn : (i j : ℕ) → (i == j) ≡ (j == i)
eqb-turn i j =
    elim (cases_Bool (i == j)) [
      | inl hit ↦ hit ∙ sym (eq-eqb j i (sym (eqb-true i j hit)))
      | inr miss ↦ elim (cases_Bool (j == i)) [
        | inl hit ↦ let bad : true ≡ false = sym (eq-eqb i j (sym (eqb-true j i hit))) ∙ miss in cc
        | inr other ↦ miss ∙ sym other
      ]
    ]

within_by : (i j : ℕ) (js : List ℕ) (b : Bool) → (b || is_one_of js i) ≡ true → (is_one_of js i ≡ true → index_in js i < length js) → cond b 0 (index_in js i + 1) < length (j ∷ js)
within_by i j js true e h = omega arith
within_by i j js false e h = let l = h e in omega arith

pub index_within : (places : List ℕ) (i : ℕ) → is_one_of places i ≡ true → index_in places i < length places
index_within [] i e = cc
index_within (j ∷ js) i e = within_by i j js (j == i) (ap (λ b. b || is_one_of js i) (eqb-turn j i) ∙ e) (index_within js i)

chosen_by : (r : Row) (i j : ℕ) (js : List ℕ) (b : Bool) → (j == i) ≡ b → (b || is_one_of js i) ≡ true → (is_one_of js i ≡ true → cell (key_of js r) (index_in js i) ≡ cell r i)
    → cell (cell r j ∷ key_of js r) (cond b 0 (index_in js i + 1)) ≡ cell r i
chosen_by r i j js true is e h = ap (cell r) (eqb-true j i is)
chosen_by r i j js false is e h = rw add-one (h e)

-- a column among some is found where it stands among their values
pub chosen_at : (places : List ℕ) (r : Row) (i : ℕ) → is_one_of places i ≡ true → cell (key_of places r) (index_in places i) ≡ cell r i
chosen_at [] r i e = cc
chosen_at (j ∷ js) r i e = chosen_by r i j js (j == i) refl (ap (λ b. b || is_one_of js i) (eqb-turn j i) ∙ e) (chosen_at js r i)

pub as_row_at : (places : List ℕ) (width : ℕ) (s : Row) (i : ℕ) → is_stored_column places width i ≡ true → cell (as_row places width s) i ≡ cell s (index_in places i)
as_row_at places width s i e =
    let both = and_parts (is_one_of places i) (nat_lt i width) e in
    get_or-map-range_with_len (placed_cell places s) 0 width i i Null (ltb-true i width both.1) (omega arith) ∙ ap (λ b. cond b (cell s (index_in places i)) Null) both.0

-- a stored row shows what its key shows
pub as_its_key : (keys : List ℕ) (width : ℕ) (s : Row) (i : ℕ) → is_stored_column keys width i ≡ true → cell (as_row keys width (stored_key keys s)) i ≡ cell (as_row keys width s) i
as_its_key keys width s i e =
    let both = and_parts (is_one_of keys i) (nat_lt i width) e in
    as_row_at keys width (stored_key keys s) i e ∙ get_or-take (length keys) s (index_in keys i) Null (index_within keys i both.0) ∙ sym (as_row_at keys width s i e)

-- a row's values, stored, show what the row shows
pub as_stored : (places : List ℕ) (width : ℕ) (r : Row) (i : ℕ) → is_stored_column places width i ≡ true → cell (as_row places width (key_of places r)) i ≡ cell r i
as_stored places width r i e =
    let both = and_parts (is_one_of places i) (nat_lt i width) e in
    as_row_at places width (key_of places r) i e ∙ chosen_at places r i both.0
