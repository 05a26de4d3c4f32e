-- A table that passes the test of the two-column form is of the form.
use Rattle.std.proofs.Common.{◌≡◌, ℕ, zero, suc, ◌<◌, ◌≤◌, arith, true, false, List, [], ◌∷◌, length, ap, sym, ◌∙◌, subst, refl}
use Rattle.std.specs.Prelude.{◌&&◌, ◌||◌, ◌==◌, ◌≢◌, nat_le, not}
use Rattle.std.specs.List.{list_all}
use Rattle.std.specs.Str.{bytes_eq}
use Rattle.std.proofs.Math.Bool.{Bool-set}
use Rattle.std.proofs.lemmas.Bool.Decides.{Decides-eqb}
use Rattle.std.proofs.lemmas.Slice.Eq.{bytes_eq-Decides}
use Rattle.mt_types.specs.declared.ty.Width.TheVariants.{W8, W16, W32, W64, W128}
use Rattle.mt_types.specs.declared.ty.Ty.{Ty, out-Ty}
use Rattle.mt_types.specs.declared.ty.Ty.TheOpen.{Ty-F}
use Rattle.mt_types.specs.declared.ty.Ty.TheVariants.{UInt, outs-UInt}
use Rattle.mt_types.proofs.Levels.{same_level}
use Rattle.mt_types.proofs.StepLemmas.{both_true}
use Rattle.mt_types.specs.Words.{is_name}
use Rattle.mt_table.specs.declared.column.Column.{Column}
use Rattle.mt_table.specs.declared.definition.Table.{Table}
use Rattle.mt_table.specs.declared.limits.TheConstants.{MAX_COLUMNS, MAX_KEY}
use Rattle.mt_table.specs.declared.settings.Settings.{Settings}
use Rattle.mt_table.specs.ColumnTypes.{is_column_type, is_key_type, place_has}
use Rattle.mt_table.specs.Fields.{Fields, fields}
use Rattle.mt_table.specs.Form.{IsNumbersTable, are_two_numbers, is_empty, is_numbers_form, is_uint64, is_uint64_at, numbers_fields, uint64_column, wide_settings}
use Rattle.mt_table.specs.Kept.{is_column, keeps_columns, keeps_key, keeps_rules}
use Rattle.mt_table.specs.Names.{names_differ, places_differ}
use Rattle.mt_table.specs.Tables.{fields_of_table, table_with}
use Rattle.mt_table.proofs.KeptLemmas.{each_of, primary_within}

level : (l : Ty-F Ty) → is_uint64_at l ≡ true → l ≡ Ty-F.UInt W64
level (Ty-F.UInt W64) e = refl
level (Ty-F.UInt W8) e = cc
level (Ty-F.UInt W16) e = cc
level (Ty-F.UInt W32) e = cc
level (Ty-F.UInt W128) e = cc
level (Ty-F.Int width) e = cc
level (Ty-F.FixedString size) e = cc
level Ty-F.Str e = cc
level Ty-F.Date e = cc
level Ty-F.Moment e = cc
level (Ty-F.Nullable inner) e = cc
level (Ty-F.Array inner) e = cc
level (Ty-F.State agg inner) e = cc
level Ty-F.CountState e = cc

is_uint : (ty : Ty) → is_uint64 ty ≡ true → ty ≡ UInt W64
is_uint ty e = same_level ty (UInt W64) (level (out-Ty ty) e ∙ sym (outs-UInt W64))

-- ---- lists

no_element : {A : Type 0} (xs : List A) → is_empty xs ≡ true → xs ≡ []
no_element [] e = refl
no_element (x ∷ xs) e = let none : length (x ∷ xs) ≡ 0 = (Decides-eqb (length (x ∷ xs)) 0).0 e in absurd (omega (arith, none))

pub record Two (columns : List Column) : Type 0 where
  pub first : List ℕ
  pub second : List ℕ
  pub are : columns ≡ uint64_column first ∷ uint64_column second ∷ []

two_numbers : (columns : List Column) → are_two_numbers columns ≡ true → Two columns
two_numbers [] e = cc
two_numbers (one ∷ []) e = cc
two_numbers (one ∷ other ∷ third ∷ rest) e = cc
two_numbers (one ∷ other ∷ []) e =
    let both = both_true (is_uint64 one.ty) (is_uint64 other.ty) e in
    record {
      first = one.name;
      second = other.name;
      are = ap (λ ty. record { name = one.name; ty = ty } ∷ other ∷ []) (is_uint one.ty both.0) ∙ ap (λ ty. uint64_column one.name ∷ record { name = other.name; ty = ty } ∷ []) (is_uint other.ty both.1);
    }

one_place : (sort : List ℕ) → (length sort == 1) ≡ true → (place : ℕ) × (sort ≡ place ∷ [])
one_place [] e = let none : length (let xs : List ℕ = [] in xs) ≡ 1 = (Decides-eqb 0 1).0 e in absurd (omega (arith, none))
one_place (place ∷ []) e = (place, refl)
one_place (place ∷ other ∷ rest) e = let two : length (place ∷ other ∷ rest) ≡ 1 = (Decides-eqb (length (place ∷ other ∷ rest)) 1).0 e in absurd (omega (arith, two))

-- ---- the fields

same_table : (f g : Fields) (rules : keeps_rules f ≡ true) (others : keeps_rules g ≡ true) → f ≡ g → table_with f rules ≡ table_with g others
same_table f g rules others same = subst (λ h. (o : keeps_rules h ≡ true) → table_with f rules ≡ table_with h o) same (λ o. ap (table_with f) (Bool-set (keeps_rules f) true rules o)) others

below_two : (first second : List ℕ) (place : ℕ) → place_has is_key_type (uint64_column first ∷ uint64_column second ∷ []) place ≡ true → place < 2
below_two first second zero has = omega arith
below_two first second (suc zero) has = omega arith
below_two first second (suc (suc place)) has = cc

differ_two : (first second : List ℕ) → names_differ (first ∷ second ∷ []) ≡ true → first ≢ second
differ_two first second differ same =
    let parts = both_true (not (bytes_eq first second || false)) _ differ in
    let equal : bytes_eq first second ≡ true = (bytes_eq-Decides first second).1 same in
    let wrong : false ≡ true = sym (ap (λ b. not (b || false)) equal) ∙ parts.0 in cc

only_one : (place primary : ℕ) → (1 ≤ primary) × (primary ≤ length (place ∷ [])) → primary ≡ 1
only_one place primary bounds = let low = bounds.0 in let high = bounds.1 in omega (arith, low, high)

wide : (settings : Settings) → settings.wide_bytes ≡ 0 → settings.wide_rows ≡ 0 → settings ≡ wide_settings settings.granule_rows settings.granule_bytes
wide settings bytes rows =
    ap (λ b. record { granule_rows = settings.granule_rows; granule_bytes = settings.granule_bytes; wide_bytes = b; wide_rows = settings.wide_rows }) bytes
    ∙ ap (λ r. record { granule_rows = settings.granule_rows; granule_bytes = settings.granule_bytes; wide_bytes = 0; wide_rows = r }) rows

pub numbers_form : (table : Table) → is_numbers_form (fields_of_table table) ≡ true → IsNumbersTable table
numbers_form table e =
    let f : Fields = fields_of_table table in
    let parts = both_true (are_two_numbers table.columns && (length table.sort == 1)) _ e in
    let front = both_true (are_two_numbers table.columns) (length table.sort == 1) parts.0 in
    let back = both_true (is_empty table.partition && (is_empty table.skips && is_empty table.projections)) _ parts.1 in
    let none = both_true (is_empty table.partition) _ back.0 in
    let none_two = both_true (is_empty table.skips) (is_empty table.projections) none.1 in
    let settings = both_true (table.settings.wide_bytes == 0) (table.settings.wide_rows == 0) back.1 in
    let two = two_numbers table.columns front.0 in
    let one = one_place table.sort front.1 in
    let each = each_of f table.rules in
    let bounds = primary_within table.sort table.primary each.primary in
    let primary : table.primary ≡ 1 = only_one one.0 table.primary (subst (λ sort. (1 ≤ table.primary) × (table.primary ≤ length sort)) one.1 bounds) in
    let layout = wide table.settings ((Decides-eqb table.settings.wide_bytes 0).0 settings.0) ((Decides-eqb table.settings.wide_rows 0).0 settings.1) in
    let same : f ≡ numbers_fields table.name two.first two.second one.0 table.settings.granule_rows table.settings.granule_bytes =
    ap (λ x. fields table.name x table.partition table.sort table.primary table.skips table.projections table.settings) two.are
    ∙ ap (λ x. fields table.name (uint64_column two.first ∷ uint64_column two.second ∷ []) x table.sort table.primary table.skips table.projections table.settings) (no_element table.partition none.0)
    ∙ ap (λ x. fields table.name (uint64_column two.first ∷ uint64_column two.second ∷ []) [] x table.primary table.skips table.projections table.settings) one.1
    ∙ ap (λ x. fields table.name (uint64_column two.first ∷ uint64_column two.second ∷ []) [] (one.0 ∷ []) x table.skips table.projections table.settings) primary
    ∙ ap (λ x. fields table.name (uint64_column two.first ∷ uint64_column two.second ∷ []) [] (one.0 ∷ []) 1 x table.projections table.settings) (no_element table.skips none_two.0)
    ∙ ap (λ x. fields table.name (uint64_column two.first ∷ uint64_column two.second ∷ []) [] (one.0 ∷ []) 1 [] x table.settings) (no_element table.projections none_two.1)
    ∙ ap (λ x. fields table.name (uint64_column two.first ∷ uint64_column two.second ∷ []) [] (one.0 ∷ []) 1 [] [] x) layout in
    let rules : keeps_rules (numbers_fields table.name two.first two.second one.0 table.settings.granule_rows table.settings.granule_bytes) ≡ true = ap keeps_rules (sym same) ∙ table.rules in
    let kept : keeps_columns (uint64_column two.first ∷ uint64_column two.second ∷ []) ≡ true = ap keeps_columns (sym two.are) ∙ each.columns in
    let columns = both_true (nat_le 1 2 && nat_le 2 MAX_COLUMNS) _ kept in
    let inner = both_true (list_all is_column (uint64_column two.first ∷ uint64_column two.second ∷ [])) (names_differ (two.first ∷ two.second ∷ [])) columns.1 in
    let first = both_true (is_column (uint64_column two.first)) _ inner.0 in
    let second = both_true (is_column (uint64_column two.second)) true first.1 in
    let key : keeps_key (uint64_column two.first ∷ uint64_column two.second ∷ []) (one.0 ∷ []) ≡ true = ap (λ columns. keeps_key columns (one.0 ∷ [])) (sym two.are) ∙ ap (keeps_key table.columns) (sym one.1) ∙ each.sort in
    let key_two = both_true (places_differ (one.0 ∷ [])) _ (both_true (nat_le 1 1 && nat_le 1 MAX_KEY) _ key).1 in
    let placed = both_true (place_has is_key_type (uint64_column two.first ∷ uint64_column two.second ∷ []) one.0) true key_two.1 in
    record {
      first = two.first;
      second = two.second;
      place = one.0;
      rows = table.settings.granule_rows;
      bytes = table.settings.granule_bytes;
      rules = rules;
      first_name = (both_true (is_name two.first) (is_column_type (UInt W64)) first.0).0;
      second_name = (both_true (is_name two.second) (is_column_type (UInt W64)) second.0).0;
      differ = differ_two two.first two.second inner.1;
      in_columns = below_two two.first two.second one.0 placed.0;
      is = same_table f (numbers_fields table.name two.first two.second one.0 table.settings.granule_rows table.settings.granule_bytes) table.rules rules same;
    }
