-- The names of the files of skip indexes differ.
use Rattle.std.proofs.Common.{◌≡◌, ◌≢◌, ℕ, ◌<◌, ◌≤◌, Bool, true, false, not, List, ◌∷◌, ◌++◌, length, get_or, refl, ap, sym, ◌∙◌, arith}
use Rattle.std.specs.Prelude.{All, codes, nat_le}
use Rattle.std.specs.List.{list_all, flat_map}
use Rattle.std.specs.Str.{bytes_eq}
use Rattle.std.proofs.lemmas.Bool.{and_parts, leb-true, not-true}
use Rattle.std.proofs.lemmas.List.{append_cancel_left}
use Rattle.std.proofs.lemmas.List.Concat.{flat_map-append}
use Rattle.std.proofs.lemmas.List.Elements.{All-weaker}
use Rattle.std.proofs.lemmas.Slice.Eq.{bytes_eq-Decides}
use Rattle.mt_facts.proofs.Lists.{each_passes, none_passes}
use Rattle.mt_fault.specs.declared.file.FileBytes.{FileBytes}
use Rattle.mt_table.specs.declared.column.Column.{Column}
use Rattle.mt_table.specs.declared.definition.Table.{Table}
use Rattle.mt_table.specs.declared.skip.Skip.{Skip}
use Rattle.mt_table.specs.declared.skip.SkipKind.{SkipKind}
use Rattle.mt_table.specs.declared.skip.SkipKind.TheVariants.{Minmax, Set}
use Rattle.mt_table.specs.ColumnTypes.{is_key_type, place_has}
use Rattle.mt_table.specs.Names.{are_apart, is_among, names_differ, skip_stem}
use Rattle.mt_table.specs.Kept.{keeps_skip, keeps_skips, names_of, skip_names}
use Rattle.mt_types.specs.Words.{is_name}
use Rattle.mt_defs.specs.Rows.{Row}
use Rattle.mt_defs.specs.FileNames.{file_name, file_name_byte}
use Rattle.mt_defs.specs.Part.{marks_ending}
use Rattle.mt_defs.specs.SkipIndexes.{data_ending, skip_data_name, skip_marks_name}
use Rattle.mt_defs.specs.WrittenGranules.{is_small}
use Rattle.mt_defs.specs.WrittenSkips.{skip_files}
use Rattle.mt_law_written.proofs.LookupLemmas.{AreApart, other_name}
use Rattle.mt_law_written.proofs.ListLemmas.{All-two, All-of_map}
use Rattle.mt_law_written.proofs.WideLemmas.{no_file}
use Rattle.mt_law_written.proofs.NameLemmas.{is_stem, stem_of, has_slash, stem_before_dot, stem_without_slash, no_slash_appended, stems_appended, file_name_stem, file_name_injective}
use Rattle.mt_law_written.proofs.ApartLemmas.{EachLater, later_unmapped, later_weaker, Across, apart_flat, across_labels, Labelled}
use Rattle.mt_law_written.proofs.PartitionLemmas.{begins_as_skip}
use Rattle.mt_law_written.proofs.RuleLemmas.{names_are_different, place_of}

-- ---- names

-- what the files of an index are named after, as a name of files
abbrev pub index_stem : List ℕ → List ℕ
index_stem name = codes "skp_idx_" ++ file_name name

stem_is_stem : (name : List ℕ) → is_stem (index_stem name) ≡ true
stem_is_stem name = stems_appended (codes "skp_idx_") (file_name name) refl (file_name_stem name)

-- the index's stem, escaped, is that of a column of that name
pub stem_of_column : (name : List ℕ) → file_name (skip_stem name) ≡ index_stem name
stem_of_column name = flat_map-append file_name_byte (codes "skp_idx_") name

stems_differ : (a b : List ℕ) → a ≢ b → index_stem a ≢ index_stem b
stems_differ a b other same = other (file_name_injective a b (append_cancel_left (codes "skp_idx_") (file_name a) (file_name b) same))

-- a name of an index's file
pub record IsSkipName (stem : List ℕ) (name : List ℕ) : Type 0 where
  pub stem_is : stem_of name ≡ stem
  pub no_slash : has_slash name ≡ false
  pub begins : begins_as_skip name ≡ true

abbrev pub OfIndex : Skip → FileBytes → Type 0
OfIndex skip file = IsSkipName (index_stem skip.name) file.name

ending_named : (name rest : List ℕ) → has_slash (46 ∷ rest) ≡ false → IsSkipName (index_stem name) (index_stem name ++ 46 ∷ rest)
ending_named name rest no_slash = record {
  stem_is = stem_before_dot (index_stem name) rest (stem_is_stem name);
  no_slash = no_slash_appended (index_stem name) (46 ∷ rest) (stem_without_slash (index_stem name) (stem_is_stem name)) no_slash;
  begins = refl;
}

data_named : (name : List ℕ) (kind : SkipKind) → IsSkipName (index_stem name) (index_stem name ++ data_ending kind)
data_named name Minmax = ending_named name (codes "idx2") refl
data_named name (Set n) = ending_named name (codes "idx") refl

marks_named : (name : List ℕ) (compact : Bool) → IsSkipName (index_stem name) (index_stem name ++ marks_ending compact)
marks_named name true = ending_named name (codes "mrk3") refl
marks_named name false = ending_named name (codes "mrk2") refl

pub skip_named : (table : Table) (rows : List Row) (skip : Skip) → All (OfIndex skip) (skip_files table rows skip)
skip_named table rows skip =
    let files = skip_files table rows skip in
    All-two (OfIndex skip) (get_or files 0 no_file) (get_or files 1 no_file) (data_named skip.name skip.kind) (marks_named skip.name (is_small table.settings table.columns rows))

endings_differ : (kind : SkipKind) (compact : Bool) → data_ending kind ≢ marks_ending compact
endings_differ Minmax true same = let bad : 105 ≡ 109 = ap (λ l. get_or l 1 0) same in omega (arith, bad)
endings_differ Minmax false same = let bad : 105 ≡ 109 = ap (λ l. get_or l 1 0) same in omega (arith, bad)
endings_differ (Set n) true same = let bad : 105 ≡ 109 = ap (λ l. get_or l 1 0) same in omega (arith, bad)
endings_differ (Set n) false same = let bad : 105 ≡ 109 = ap (λ l. get_or l 1 0) same in omega (arith, bad)

one_apart : (table : Table) (rows : List Row) (skip : Skip) → AreApart (skip_files table rows skip)
one_apart table rows skip =
    let compact = is_small table.settings table.columns rows in
    let differ : skip_data_name skip ≢ skip_marks_name skip (marks_ending compact) =
    λ same. endings_differ skip.kind compact (append_cancel_left (index_stem skip.name) (data_ending skip.kind) (marks_ending compact) same) in
    ((other_name (skip_data_name skip) (skip_marks_name skip (marks_ending compact)) differ, tt), (tt, tt))

pub skip_labels : (table : Table) (rows : List Row) (skip : Skip) → Labelled stem_of (index_stem skip.name) (skip_files table rows skip)
skip_labels table rows skip = All-weaker (OfIndex skip) (λ f. stem_of f.name ≡ index_stem skip.name) (λ f is. is.stem_is) (skip_files table rows skip) (skip_named table rows skip)

others_apart : (table : Table) (rows : List Row) (a b : Skip) → a.name ≢ b.name → Across (skip_files table rows a) (skip_files table rows b)
others_apart table rows a b other =
    across_labels stem_of (index_stem a.name) (index_stem b.name) (skip_files table rows a) (skip_files table rows b) (stems_differ a.name b.name other) (skip_labels table rows a) (skip_labels table rows b)

-- what the rules say of the indexes of a table
pub record IndexRules (table : Table) : Type 0 where
  pub differ : EachLater (λ a b. a.name ≢ b.name) table.skips
  pub words : All (λ skip. is_name skip.name ≡ true) table.skips
  pub known : All (λ skip. skip.column < length table.columns) table.skips
  pub coarse : All (λ skip. 1 ≤ skip.granularity) table.skips
  pub no_column : All (λ skip. All (λ column. column.name ≢ skip_stem skip.name) table.columns) table.skips

no_such_column : (columns : List Column) (name : List ℕ) → not (is_among (names_of columns) (skip_stem name)) ≡ true → All (λ column. column.name ≢ skip_stem name) columns
no_such_column columns name e =
    All-of_map (λ n. n ≢ skip_stem name) (λ column. column.name) columns
    (All-weaker (λ n. bytes_eq (skip_stem name) n ≡ false) (λ n. n ≢ skip_stem name) (λ n other same.
    (let bad : true ≡ false = sym ((bytes_eq-Decides (skip_stem name) n).1 (sym same)) ∙ other in cc)) (names_of columns) (none_passes (bytes_eq (skip_stem name)) (names_of columns) (not-true (is_among (names_of columns) (skip_stem name)) e)))

pub index_rules : (table : Table) → keeps_skips table.columns table.skips ≡ true → IndexRules table
index_rules table keeps =
    let one = and_parts _ _ keeps in
    let two = and_parts (list_all (keeps_skip table.columns) table.skips) _ one.1 in
    let three = and_parts (names_differ (skip_names table.skips)) (are_apart (names_of table.columns) (skip_names table.skips)) two.1 in
    let test : List ℕ → Bool = λ name. not (is_among (names_of table.columns) (skip_stem name)) in
    record {
      differ = later_unmapped (λ a b. a ≢ b) (λ skip. skip.name) table.skips (names_are_different (skip_names table.skips) three.0);
      words =
          All-weaker (λ skip. keeps_skip table.columns skip ≡ true) (λ skip. is_name skip.name ≡ true) (λ skip is. (and_parts (is_name skip.name) _ is).0) table.skips (each_passes (keeps_skip table.columns) table.skips two.0);
      known =
          All-weaker (λ skip. keeps_skip table.columns skip ≡ true) (λ skip. skip.column < length table.columns) (λ skip is.
          (place_of is_key_type table.columns skip.column (and_parts (place_has is_key_type table.columns skip.column) _ (and_parts (is_name skip.name) _ is).1).0).within) table.skips (each_passes (keeps_skip table.columns) table.skips two.0);
      coarse =
          All-weaker (λ skip. keeps_skip table.columns skip ≡ true) (λ skip. 1 ≤ skip.granularity) (λ skip is.
          leb-true 1 skip.granularity (and_parts (nat_le 1 skip.granularity) _ (and_parts _ _ (and_parts (is_name skip.name) _ is).1).1).0) table.skips (each_passes (keeps_skip table.columns) table.skips two.0);
      no_column =
          All-weaker (λ skip. test skip.name ≡ true) (λ skip. All (λ column. column.name ≢ skip_stem skip.name) table.columns) (λ skip is. no_such_column table.columns skip.name is) table.skips
          (All-of_map (λ name. test name ≡ true) (λ skip. skip.name) table.skips (each_passes test (skip_names table.skips) three.1));
    }

pub skips_apart : (table : Table) (rows : List Row) → IndexRules table → AreApart (flat_map (skip_files table rows) table.skips)
skips_apart table rows rules =
    apart_flat (skip_files table rows) table.skips (λ k d inside. one_apart table rows (get_or table.skips k d))
    (later_weaker (λ a b. a.name ≢ b.name) (λ a b. Across (skip_files table rows a) (skip_files table rows b)) (others_apart table rows) table.skips rules.differ)
