-- The files of a definition's rows have different names.
use Rattle.std.proofs.Common.{◌≡◌, ◌≢◌, ℕ, Bool, true, false, ◌||◌, List, [], ◌∷◌, ◌++◌, length, map, get_or, refl, ap, sym, ◌∙◌, append_assoc, arith, inl, inr, eqb}
use Rattle.std.specs.Prelude.{All, IsTrue, codes}
use Rattle.std.specs.List.{concat, enumerate_from}
use Rattle.std.specs.Fmt.{decimal}
use Rattle.std.proofs.lemmas.List.{append_cancel_left, append_cancel_right}
use Rattle.std.proofs.lemmas.List.Elements.{All-head, All-tail, All-weaker}
use Rattle.mt_types.specs.Profile.{is_profile}
use Rattle.mt_fault.specs.declared.file.FileBytes.{FileBytes}
use Rattle.mt_table.specs.declared.column.Column.{Column}
use Rattle.mt_table.specs.declared.definition.PartDef.{PartDef}
use Rattle.mt_table.specs.declared.settings.Settings.{Settings}
use Rattle.mt_defs.specs.Rows.{Row}
use Rattle.mt_defs.specs.FileNames.{file_name, data_name, marks_name, stream_names, stream_suffixes}
use Rattle.mt_defs.specs.Metadata.{columns_name, count_name, columns_text}
use Rattle.mt_defs.specs.PrimaryIndex.{index_name, primary_index_of}
use Rattle.mt_defs.specs.Granules.{granule_rows}
use Rattle.mt_defs.specs.Wide.{stream_payloads}
use Rattle.mt_defs.specs.Compact.{compact_data_name, compact_marks_name}
use Rattle.mt_defs.specs.WrittenFrames.{written_frames, written_marks_bytes}
use Rattle.mt_defs.specs.WrittenGranules.{written_granules}
use Rattle.mt_defs.specs.WrittenColumns.{file, stream_files, granule_streams, wide_column, wide_files, compact_files, compact_frames}
use Rattle.mt_defs.specs.Writer.{definition_files}
use Rattle.mt_law_written.proofs.LookupLemmas.{AreApart, last_of, last_append, other_name}
use Rattle.mt_law_written.proofs.ListLemmas.{All-two, All-three, All-to_flat_map, All-both, All-mapped}
use Rattle.mt_law_written.proofs.NameLemmas.{is_stem, stem_of, has_slash, stem_before_dot, stem_without_slash, no_slash_appended, file_name_stem, file_name_injective}
use Rattle.mt_law_written.proofs.SuffixLemmas.{IsSuffix, are_suffixes, suffixes_differ}
use Rattle.mt_law_written.proofs.ApartLemmas.{EachLater, Differ, later_weaker, later_mapped, later_numbered, All-numbered, Across, Unnamed, apart_appended, apart_flat, across_labels, Labelled, no}
use Rattle.mt_law_written.proofs.DefinitionLemmas.{data_files, listing_files, written_layout}

-- ---- names of data and marks files

-- the last byte is that of .bin, .mrk2 or .mrk3
abbrev pub ends_as_data : List ℕ → Bool
ends_as_data name = eqb (last_of name) 110 || (eqb (last_of name) 50 || eqb (last_of name) 51)

-- a name of a data or marks file
pub record IsDataName (name : List ℕ) : Type 0 where
  pub no_slash : has_slash name ≡ false
  pub ends : ends_as_data name ≡ true

-- a name of a file of a column
pub record IsColumnName (stem : List ℕ) (name : List ℕ) : Type 0 where
  pub stem_is : stem_of name ≡ stem
  pub is_data : IsDataName name
  pub wide : eqb (last_of name) 51 ≡ false

stream_stem : (stem suffix ending : List ℕ) → is_stem stem ≡ true → IsSuffix suffix → stem_of ((stem ++ suffix) ++ 46 ∷ ending) ≡ stem
stream_stem stem suffix ending is s =
    ap stem_of (append_assoc stem suffix (46 ∷ ending))
    ∙ elim s.dotted [
      | inl e ↦ ap (λ x. stem_of (stem ++ (x ++ 46 ∷ ending))) e ∙ stem_before_dot stem ending is
      | inr rest ↦ ap (λ x. stem_of (stem ++ (x ++ 46 ∷ ending))) rest.1 ∙ stem_before_dot stem (rest.0 ++ 46 ∷ ending) is
    ]

stream_no_slash : (stem suffix ending : List ℕ) → is_stem stem ≡ true → IsSuffix suffix → has_slash ending ≡ false → has_slash ((stem ++ suffix) ++ ending) ≡ false
stream_no_slash stem suffix ending is s e = no_slash_appended (stem ++ suffix) ending (no_slash_appended stem suffix (stem_without_slash stem is) s.no_slash) e

data_ends : (name : List ℕ) → last_of (data_name name) ≡ 110
data_ends name = last_append name 46 (codes "bin")

marks_ends : (name : List ℕ) → last_of (marks_name name) ≡ 50
marks_ends name = last_append name 46 (codes "mrk2")

ends_by : (name : List ℕ) (n : ℕ) → last_of name ≡ n → ends_as_data name ≡ (eqb n 110 || (eqb n 50 || eqb n 51))
ends_by name n is = ap (λ l. eqb l 110 || (eqb l 50 || eqb l 51)) is

data_named : (stem suffix : List ℕ) → is_stem stem ≡ true → IsSuffix suffix → IsColumnName stem (data_name (stem ++ suffix))
data_named stem suffix is s = record {
  stem_is = stream_stem stem suffix (codes "bin") is s;
  is_data = record { no_slash = stream_no_slash stem suffix (codes ".bin") is s refl; ends = ends_by (data_name (stem ++ suffix)) 110 (data_ends (stem ++ suffix)) };
  wide = ap (λ l. eqb l 51) (data_ends (stem ++ suffix));
}

marks_named : (stem suffix : List ℕ) → is_stem stem ≡ true → IsSuffix suffix → IsColumnName stem (marks_name (stem ++ suffix))
marks_named stem suffix is s = record {
  stem_is = stream_stem stem suffix (codes "mrk2") is s;
  is_data = record { no_slash = stream_no_slash stem suffix (codes ".mrk2") is s refl; ends = ends_by (marks_name (stem ++ suffix)) 50 (marks_ends (stem ++ suffix)) };
  wide = ap (λ l. eqb l 51) (marks_ends (stem ++ suffix));
}

-- ---- the files of a column

abbrev pub OfStem : List ℕ → FileBytes → Type 0
OfStem stem file = IsColumnName stem file.name

-- the two files of a stream
abbrev stream_data : List ℕ → List (List ℕ) → FileBytes
stream_data name payloads = file (data_name name) (concat (map written_frames payloads))

abbrev stream_marks : List ℕ → List ℕ → List (List ℕ) → FileBytes
stream_marks granules name payloads = file (marks_name name) (written_marks_bytes 1 (map (λ run. length run ∷ []) (map written_frames payloads)) granules)

of_stream : (P : FileBytes → Type 0) (granules name : List ℕ) (payloads : List (List ℕ)) → P (stream_data name payloads) → P (stream_marks granules name payloads) → All P (stream_files granules name payloads)
of_stream P granules name payloads one two = All-two P (stream_data name payloads) (stream_marks granules name payloads) one two

-- what holds of the names of a column's two files, whatever the suffix of the stream
pub of_column : (Q : List ℕ → Type 0) (rows : List Row) (granules : List ℕ) (k : ℕ) (column : Column) → is_profile column.ty ≡ true
    → ((suffix : List ℕ) → IsSuffix suffix → Q (data_name (file_name column.name ++ suffix)) × Q (marks_name (file_name column.name ++ suffix))) → All (λ f. Q f.name) (wide_column rows granules (k, column))
of_column Q rows granules k column profile names =
    let stem : List ℕ = file_name column.name in
    let payloads : ℕ → List (List ℕ) = λ i. stream_payloads i (granule_streams rows granules k column) in
    let Named : FileBytes → Type 0 = λ f. Q f.name in
    let P : List ℕ → Type 0 = λ name. (i : ℕ) → All Named (stream_files granules name (payloads i)) in
    let each : All P (stream_names column) =
    All-mapped P (λ suffix. stem ++ suffix) (stream_suffixes column.ty)
    (All-weaker IsSuffix (λ suffix. P (stem ++ suffix)) (λ suffix s i. of_stream Named granules (stem ++ suffix) (payloads i) (names suffix s).0 (names suffix s).1) (stream_suffixes column.ty) (are_suffixes column.ty profile)) in
    All-to_flat_map Named (λ (i, name). stream_files granules name (payloads i)) (enumerate_from 0 (stream_names column))
    (All-weaker (λ p. P p.1) (λ p. All Named (stream_files granules p.1 (payloads p.0))) (λ p here. here p.0) (enumerate_from 0 (stream_names column)) (All-numbered P 0 (stream_names column) each))

pub column_named : (rows : List Row) (granules : List ℕ) (k : ℕ) (column : Column) → is_profile column.ty ≡ true → All (OfStem (file_name column.name)) (wide_column rows granules (k, column))
column_named rows granules k column profile =
    let stem : List ℕ = file_name column.name in
    let is : is_stem stem ≡ true = file_name_stem column.name in
    of_column (IsColumnName stem) rows granules k column profile (λ suffix s. (data_named stem suffix is s, marks_named stem suffix is s))

-- the two files of a stream, and those of two streams
data_not_marks : (a b : List ℕ) → data_name a ≢ marks_name b
data_not_marks a b same =
    let bad : 110 ≡ 50 = sym (data_ends a) ∙ ap last_of same ∙ marks_ends b in
    omega (arith, bad)

one_stream_apart : (granules : List ℕ) (name : List ℕ) (payloads : List (List ℕ)) → AreApart (stream_files granules name payloads)
one_stream_apart granules name payloads = ((other_name (data_name name) (marks_name name) (data_not_marks name name), tt), (tt, tt))

other_streams : (granules : List ℕ) (a b : List ℕ) (p q : List (List ℕ)) → a ≢ b → Across (stream_files granules a p) (stream_files granules b q)
other_streams granules a b p q differ =
    of_stream (λ f. Unnamed f.name (stream_files granules b q)) granules a p
    (of_stream (λ g. data_name a ≢ g.name) granules b q (λ same. differ (append_cancel_right a b (codes ".bin") same)) (data_not_marks a b))
    (of_stream (λ g. marks_name a ≢ g.name) granules b q (λ same. data_not_marks b a (sym same)) (λ same. differ (append_cancel_right a b (codes ".mrk2") same)))

names_differ_in : (column : Column) → is_profile column.ty ≡ true → Differ (stream_names column)
names_differ_in column profile =
    later_mapped (λ a b. a ≢ b) (λ suffix. file_name column.name ++ suffix) (stream_suffixes column.ty)
    (later_weaker (λ a b. a ≢ b) (λ a b. file_name column.name ++ a ≢ file_name column.name ++ b) (λ a b differ same. differ (append_cancel_left (file_name column.name) a b same)) (stream_suffixes column.ty) (suffixes_differ column.ty profile))

column_apart : (rows : List Row) (granules : List ℕ) (k : ℕ) (column : Column) → is_profile column.ty ≡ true → AreApart (wide_column rows granules (k, column))
column_apart rows granules k column profile =
    let payloads : ℕ → List (List ℕ) = λ i. stream_payloads i (granule_streams rows granules k column) in
    let numbered : List (ℕ × List ℕ) = enumerate_from 0 (stream_names column) in
    apart_flat (λ (i, name). stream_files granules name (payloads i)) numbered (λ j d inside. one_stream_apart granules (get_or numbered j d).1 (payloads (get_or numbered j d).0))
    (later_weaker (λ p q. p.1 ≢ q.1) (λ p q. Across (stream_files granules p.1 (payloads p.0)) (stream_files granules q.1 (payloads q.0))) (λ p q differ. other_streams granules p.1 q.1 (payloads p.0) (payloads q.0) differ) numbered
    (later_numbered (λ a b. a ≢ b) 0 (stream_names column) (names_differ_in column profile)))

-- ---- the files of all columns

-- columns whose names differ, each of a type of the profile
pub record AreOwn (columns : List Column) : Type 0 where
  pub differ : EachLater (λ a b. a.name ≢ b.name) columns
  pub types : All (λ column. IsTrue (is_profile column.ty)) columns

pub labels_of : (stem : List ℕ) (files : List FileBytes) → All (OfStem stem) files → Labelled stem_of stem files
labels_of stem files all = All-weaker (OfStem stem) (λ f. stem_of f.name ≡ stem) (λ f is. is.stem_is) files all

other_columns : (rows : List Row) (granules : List ℕ) (k l : ℕ) (a b : Column) → is_profile a.ty ≡ true → is_profile b.ty ≡ true → a.name ≢ b.name → Across (wide_column rows granules (k, a)) (wide_column rows granules (l, b))
other_columns rows granules k l a b p q differ =
    across_labels stem_of (file_name a.name) (file_name b.name) (wide_column rows granules (k, a)) (wide_column rows granules (l, b)) (λ same. differ (file_name_injective a.name b.name same))
    (labels_of (file_name a.name) (wide_column rows granules (k, a)) (column_named rows granules k a p)) (labels_of (file_name b.name) (wide_column rows granules (l, b)) (column_named rows granules l b q))

-- a fact of each element and a relation of two
with_each : {X : Type 0} (P : X → Type 0) (R : X → X → Type 0) (xs : List X) → All P xs → EachLater R xs → EachLater (λ x y. P x × P y × R x y) xs
with_each P R [] all each = tt
with_each P R (x ∷ xs) all each =
    (All-both P (R x) (λ y. P x × P y × R x y) (λ y p r. (All-head P x xs all, p, r)) xs (All-tail P x xs all) each.0, with_each P R xs (All-tail P x xs all) each.1)

pub wide_apart : (columns : List Column) (rows : List Row) (granules : List ℕ) → AreOwn columns → AreApart (wide_files columns rows granules)
wide_apart columns rows granules own =
    let Profile : Column → Type 0 = λ column. IsTrue (is_profile column.ty) in
    let Both : Column → Column → Type 0 = λ a b. Profile a × Profile b × (a.name ≢ b.name) in
    apart_flat (wide_column rows granules) (enumerate_from 0 columns)
    (All-weaker (λ p. Profile p.1) (λ p. AreApart (wide_column rows granules p)) (λ p profile. column_apart rows granules p.0 p.1 profile) (enumerate_from 0 columns) (All-numbered Profile 0 columns own.types))
    (later_weaker (λ p q. Both p.1 q.1) (λ p q. Across (wide_column rows granules p) (wide_column rows granules q)) (λ p q both. other_columns rows granules p.0 q.0 p.1 q.1 both.0 both.1 both.2) (enumerate_from 0 columns)
    (later_numbered Both 0 columns (with_each Profile (λ a b. a.name ≢ b.name) columns own.types own.differ)))

-- ---- the files of a definition

abbrev pub IsData : FileBytes → Type 0
IsData file = IsDataName file.name

-- what holds of each column's files holds of all
pub each_column : (P : FileBytes → Type 0) (columns : List Column) (rows : List Row) (granules : List ℕ) → All (λ column. IsTrue (is_profile column.ty)) columns
    → ((column : Column) (file : FileBytes) → OfStem (file_name column.name) file → P file) → All P (wide_files columns rows granules)
each_column P columns rows granules types f =
    All-to_flat_map P (wide_column rows granules) (enumerate_from 0 columns)
    (All-weaker (λ p. IsTrue (is_profile p.1.ty)) (λ p. All P (wide_column rows granules p)) (λ p profile.
    All-weaker (OfStem (file_name p.1.name)) P (f p.1) (wide_column rows granules p) (column_named rows granules p.0 p.1 profile)) (enumerate_from 0 columns)
    (All-numbered (λ column. IsTrue (is_profile column.ty)) 0 columns types))

wide_named : (columns : List Column) (rows : List Row) (granules : List ℕ) → All (λ column. IsTrue (is_profile column.ty)) columns → All IsData (wide_files columns rows granules)
wide_named columns rows granules types = each_column IsData columns rows granules types (λ column file is. is.is_data)

abbrev compact_data : List Column → List Row → List ℕ → FileBytes
compact_data columns rows granules = file compact_data_name (concat (map concat (map (compact_frames columns) (granule_rows granules rows))))

abbrev compact_marks : List Column → List Row → List ℕ → FileBytes
compact_marks columns rows granules = file compact_marks_name (written_marks_bytes (length columns) (map (map length) (map (compact_frames columns) (granule_rows granules rows))) granules)

-- what holds of the two files of a Compact part
pub of_compact : (P : FileBytes → Type 0) (columns : List Column) (rows : List Row) (granules : List ℕ) → P (compact_data columns rows granules) → P (compact_marks columns rows granules) → All P (compact_files columns rows granules)
of_compact P columns rows granules one two = All-two P (compact_data columns rows granules) (compact_marks columns rows granules) one two

compact_named : (columns : List Column) (rows : List Row) (granules : List ℕ) → All IsData (compact_files columns rows granules)
compact_named columns rows granules = of_compact IsData columns rows granules (record { no_slash = refl; ends = refl }) (record { no_slash = refl; ends = refl })

pub compact_apart : (columns : List Column) (rows : List Row) (granules : List ℕ) → AreApart (compact_files columns rows granules)
compact_apart columns rows granules = ((refl, tt), (tt, tt))

pub data_are : (columns : List Column) (rows : List Row) (granules : List ℕ) (compact : Bool) → All (λ column. IsTrue (is_profile column.ty)) columns → All IsData (data_files columns rows granules compact)
data_are columns rows granules true types = compact_named columns rows granules
data_are columns rows granules false types = wide_named columns rows granules types

data_apart : (columns : List Column) (rows : List Row) (granules : List ℕ) (compact : Bool) → AreOwn columns → AreApart (data_files columns rows granules compact)
data_apart columns rows granules true own = compact_apart columns rows granules
data_apart columns rows granules false own = wide_apart columns rows granules own

-- what holds of the three
pub of_listing : (P : FileBytes → Type 0) (definition : PartDef) (rows : List Row) (granules : List ℕ) → P (file columns_name (columns_text definition.columns)) → P (file count_name (decimal (length rows)))
    → P (file index_name (primary_index_of definition rows granules)) → All P (listing_files definition rows granules)
of_listing P definition rows granules one two three =
    All-three P (file columns_name (columns_text definition.columns)) (file count_name (decimal (length rows))) (file index_name (primary_index_of definition rows granules)) one two three

pub listing_ends : (definition : PartDef) (rows : List Row) (granules : List ℕ) → Labelled ends_as_data false (listing_files definition rows granules)
listing_ends definition rows granules = of_listing (λ f. ends_as_data f.name ≡ false) definition rows granules refl refl refl

pub data_end : (files : List FileBytes) → All IsData files → Labelled ends_as_data true files
data_end files all = All-weaker IsData (λ f. ends_as_data f.name ≡ true) (λ f is. is.ends) files all

pub definition_apart : (settings : Settings) (definition : PartDef) (rows : List Row) → AreOwn definition.columns → AreApart (definition_files settings definition rows)
definition_apart settings definition rows own =
    let granules = written_granules settings definition.columns rows in
    let compact : Bool = written_layout settings definition rows in
    let texts = listing_files definition rows granules in
    let others = data_files definition.columns rows granules compact in
    apart_appended texts others ((refl, (refl, tt)), ((refl, tt), (tt, tt))) (data_apart definition.columns rows granules compact own)
    (across_labels ends_as_data false true texts others no (listing_ends definition rows granules) (data_end others (data_are definition.columns rows granules compact own.types)))
