-- What rows must be, for which a folder of the worked example's table stands.
use Rattle.std.proofs.Common.{◌≡◌, ℕ, zero, suc, ◌+◌, ◌-◌, ◌<◌, ◌≤◌, true, false, List, [], ◌∷◌, ◌++◌, length, map, take, drop, get_or, refl, ap, sym, ◌∙◌, subst, arith, lit<, inl, inr}
use Rattle.std.specs.Prelude.{All, IsTrue, Option, Some, None, is_some, codes, sum}
use Rattle.std.specs.List.{flat_map, concat, enumerate_from}
use Rattle.std.specs.List.Sorted.{IsSorted}
use Rattle.std.specs.Fmt.{digits}
use Rattle.std.proofs.lemmas.Option.{same_Some}
use Rattle.std.proofs.lemmas.List.{take-append-drop, map-append, length-map, length-drop}
use Rattle.std.proofs.lemmas.List.Concat.{flat_map-append}
use Rattle.std.proofs.lemmas.List.Elements.{All-head, All-tail, All-weaker}
use Rattle.std.proofs.lemmas.List.Sums.{sum_by-cons}
use Rattle.mt_types.specs.declared.ty.Ty.TheVariants.{UInt}
use Rattle.mt_types.specs.declared.ty.Width.TheVariants.{W64}
use Rattle.mt_types.specs.declared.value.Value.{Value}
use Rattle.mt_types.specs.declared.value.Value.TheVariants.{Null}
use Rattle.mt_types.specs.Fits.{fits_of}
use Rattle.mt_types.specs.Items.{item_bytes}
use Rattle.mt_table.specs.declared.column.Column.{Column}
use Rattle.mt_table.specs.Names.{places_differ}
use Rattle.mt_table.proofs.PointwiseLemmas.{Pointwise-get_or}
use Rattle.mt_defs.specs.Lists.{Pointwise}
use Rattle.mt_defs.specs.Folder.{Folder}
use Rattle.mt_defs.specs.Rows.{Row, RowFits, cell, column_values, key_of, key_cmp}
use Rattle.mt_defs.specs.Granules.{AreGranules, granule_rows}
use Rattle.mt_defs.specs.Encoding.{Encoding, Encodes}
use Rattle.mt_defs.specs.FileNames.{data_name, marks_name, stream_names}
use Rattle.mt_defs.specs.Frames.{IsFramed}
use Rattle.mt_defs.specs.Marks.{IsMarksFile}
use Rattle.mt_defs.specs.Wide.{HasColumn, HasStream, IsWide, stream_payloads}
use Rattle.mt_defs.specs.Compact.{compact_marks_name}
use Rattle.mt_defs.specs.Metadata.{column_at, columns_name, columns_text}
use Rattle.mt_defs.specs.PrimaryIndex.{index_name, primary_index_of}
use Rattle.mt_defs.specs.Projections.{base_of}
use Rattle.mt_defs.specs.Part.{StandsFor, StandsForIn, HasColumns}
use Rattle.mt_defs.specs.WorkedExample.{table, u64_column}
use Rattle.mt_defs.proofs.ListedColumns.{listed, listed_few}
use Rattle.mt_defs.proofs.Numbers.{stream_suffixes_UInt}
use Rattle.mt_defs.proofs.GranuleLemmas.{length-granule_rows}
use Rattle.mt_worked.specs.NumberColumns.{HasNumbersOfWidth}
use Rattle.mt_worked.proofs.NumberLemmas.{encoding_UInt, same_rows}

abbrev pub key_name : List ℕ
key_name = codes "k"

abbrev pub example_columns_text : List ℕ
example_columns_text = codes "columns format version: 1\n2 columns:\n`k` UInt64\n`v` UInt64\n"

-- ---- the order of the columns

abbrev text_in : List ℕ → List ℕ
text_in order = columns_text (map (column_at table.columns) order)

none_text : text_in [] ≡ example_columns_text → ⊥
unfolding digits
none_text e = let bad : 48 ≡ 50 = ap (λ bytes. get_or bytes 26 0) e in omega (arith, bad)

one_text : (a : ℕ) → text_in (a ∷ []) ≡ example_columns_text → ⊥
unfolding digits
one_text a e = let bad : 49 ≡ 50 = ap (λ bytes. get_or bytes 26 0) e in omega (arith, bad)

turned_text : text_in (1 ∷ 0 ∷ []) ≡ example_columns_text → ⊥
unfolding digits
turned_text e = let bad : 118 ≡ 107 = ap (λ bytes. get_or bytes 38 0) e in omega (arith, bad)

-- two different columns of two
both_listed : (a b : ℕ) → a < 2 → b < 2 → places_differ (a ∷ b ∷ []) ≡ true → text_in (a ∷ b ∷ []) ≡ example_columns_text → a ∷ b ∷ [] ≡ 0 ∷ 1 ∷ []
both_listed zero zero in_a in_b differ e = cc
both_listed zero (suc zero) in_a in_b differ e = refl
both_listed zero (suc (suc b)) in_a in_b differ e = absurd (omega (arith, in_b))
both_listed (suc zero) zero in_a in_b differ e = absurd (turned_text e)
both_listed (suc zero) (suc zero) in_a in_b differ e = cc
both_listed (suc zero) (suc (suc b)) in_a in_b differ e = absurd (omega (arith, in_b))
both_listed (suc (suc a)) b in_a in_b differ e = absurd (omega (arith, in_a))

listed_both : (order : List ℕ) → All (λ i. i < 2) order → places_differ order ≡ true → length order ≤ 2 → text_in order ≡ example_columns_text → order ≡ 0 ∷ 1 ∷ []
listed_both [] known differ few e = absurd (none_text e)
listed_both (a ∷ []) known differ few e = absurd (one_text a e)
listed_both (a ∷ b ∷ []) known differ few e = both_listed a b (All-head (λ i. i < 2) a (b ∷ []) known) (All-head (λ i. i < 2) b [] (All-tail (λ i. i < 2) a (b ∷ []) known)) differ e
listed_both (a ∷ b ∷ c ∷ order) known differ few e = absurd (omega (arith, few))

-- a folder with the example's columns.txt lists both columns
pub both_columns : (folder : Folder) (rows : List Row) (granules : List ℕ) → folder columns_name ≡ Some example_columns_text → (stands : StandsForIn table folder rows granules) → stands.holds.order ≡ 0 ∷ 1 ∷ []
both_columns folder rows granules text stands =
    let order = stands.holds.order in
    let must = (base_of table).must in
    let is = listed table.columns must order stands.holds.metadata.listed in
    listed_both order is.known is.once (listed_few table.columns must order stands.holds.metadata.listed) (same_Some (text_in order) example_columns_text (sym stands.holds.metadata.lists_columns ∙ text))

-- ---- what the folder says

-- the rows and granules of a folder, and the files of its key column
pub record Held (folder : Folder) (rows : List Row) : Type 0 where
  pub granules : List ℕ
  pub cut : AreGranules granules rows
  pub ordered : IsSorted (key_cmp (0 ∷ [])) rows
  pub numbers : HasNumbersOfWidth W64 0 rows
  pub key : HasColumn (u64_column key_name) 0 rows granules folder
  pub index : folder index_name ≡ Some (primary_index_of (base_of table) rows granules)

wide_of : (columns : List Column) (rows : List Row) (granules : List ℕ) (folder : Folder) → folder compact_marks_name ≡ None → HasColumns columns rows granules folder → IsWide columns rows granules folder
wide_of columns rows granules folder none (inl compact) =
    let bad : true ≡ false = sym compact.0 ∙ ap (λ (o : Option (List ℕ)). is_some o) none in
    cc
wide_of columns rows granules folder none (inr wide) = wide.1

pub held : (folder : Folder) (rows : List Row) → folder columns_name ≡ Some example_columns_text → folder compact_marks_name ≡ None → StandsFor table folder rows → Held folder rows
held folder rows text none (granules, stands) =
    let is : stands.holds.order ≡ 0 ∷ 1 ∷ [] = both_columns folder rows granules text stands in
    let fit : All (RowFits table.columns) rows = stands.holds.part_rows.fit in
    let there : HasColumns (map (column_at table.columns) (0 ∷ 1 ∷ [])) (map (key_of (0 ∷ 1 ∷ [])) rows) granules folder =
    subst (λ o. HasColumns (map (column_at table.columns) o) (map (key_of o) rows) granules folder) is stands.holds.columns in
    let wide : IsWide table.columns rows granules folder =
    subst (λ r. IsWide table.columns r granules folder) (same_rows key_name (codes "v") rows fit) (wide_of table.columns (map (key_of (0 ∷ 1 ∷ [])) rows) granules folder none there) in
    let C : ℕ × Column → Type 0 = λ (column_index, column). HasColumn column column_index rows granules folder in
    record {
      granules = granules;
      cut = wide.cut;
      ordered = stands.holds.part_rows.ordered;
      numbers =
          All-weaker (RowFits table.columns) (λ row. IsTrue (fits_of (UInt W64) (cell row 0))) (λ row fits.
          Pointwise-get_or (λ column value. IsTrue (fits_of column.ty value)) table.columns row 0 (u64_column key_name) Null fits (lit< tt)) rows fit;
      key = All-head C (0, u64_column key_name) ((1, u64_column (codes "v")) ∷ []) wide.columns_there;
      index = stands.holds.index;
    }

-- ---- the key column's files

-- a payload per granule, framed, and the marks of each
pub record HeldColumn (rows : List Row) (granules : List ℕ) (data_file marks_file : List ℕ) : Type 0 where
  pub payloads : List (List ℕ)
  pub one_each : length payloads ≡ length granules
  pub framed : IsFramed (flat_map (item_bytes (UInt W64)) (column_values 0 rows)) data_file
  pub marks : IsMarksFile 1 data_file (map (λ payload. length payload ∷ []) payloads) granules marks_file

abbrev EncodeKeys : List (List Row) → List (List (List ℕ)) → Type 0
EncodeKeys = Pointwise (λ rows streams. Encodes (UInt W64) (column_values 0 rows) streams)

as_many : (granules : List (List Row)) (streams : List (List (List ℕ))) → EncodeKeys granules streams → length streams ≡ length granules
as_many [] [] e = refl
as_many [] (s ∷ streams) e = absurd e
as_many (g ∷ granules) [] e = absurd e
as_many (g ∷ granules) (s ∷ streams) e = ap suc (as_many granules streams e.1)

one_stream : (values : List Value) (streams : List (List ℕ)) → Encodes (UInt W64) values streams → streams ≡ flat_map (item_bytes (UInt W64)) values ∷ []
one_stream values streams e = subst (λ (encoding : Encoding). encoding values streams) (encoding_UInt W64) e.encoded

all_items : (granules : List ℕ) (rows : List Row) (streams : List (List (List ℕ))) → sum granules ≡ length rows → EncodeKeys (granule_rows granules rows) streams
    → concat (stream_payloads 0 streams) ≡ flat_map (item_bytes (UInt W64)) (column_values 0 rows)
all_items [] [] [] cut e = refl
all_items [] (row ∷ rows) [] cut e = absurd (omega (arith, cut))
all_items [] rows (s ∷ streams) cut e = absurd e
all_items (count ∷ granules) rows [] cut e = absurd e
all_items (count ∷ granules) rows (s ∷ streams) cut e =
    let item = flat_map (item_bytes (UInt W64)) in
    let total : sum (count ∷ granules) ≡ count + sum granules = sum_by-cons (λ x. x) count granules in
    let left : length (drop count rows) ≡ length rows - count = length-drop count rows in
    let here : get_or s 0 [] ≡ item (column_values 0 (take count rows)) = ap (λ l. get_or l 0 []) (one_stream (column_values 0 (take count rows)) s e.0) in
    let later : concat (stream_payloads 0 streams) ≡ item (column_values 0 (drop count rows)) = all_items granules (drop count rows) streams (omega arith) e.1 in
    ap (λ l. l ++ concat (stream_payloads 0 streams)) here ∙ ap (λ l. item (column_values 0 (take count rows)) ++ l) later
    ∙ sym (flat_map-append (item_bytes (UInt W64)) (column_values 0 (take count rows)) (column_values 0 (drop count rows)))
    ∙ ap item (sym (map-append (λ row. cell row 0) (take count rows) (drop count rows))) ∙ ap (λ r. item (column_values 0 r)) (take-append-drop count rows)

pub key_stream : stream_names (u64_column key_name) ≡ key_name ∷ []
key_stream = ap (map (λ suffix. key_name ++ suffix)) (stream_suffixes_UInt W64)

pub held_column : (folder : Folder) (rows : List Row) (granules data_file marks_file : List ℕ) → HasColumn (u64_column key_name) 0 rows granules folder → AreGranules granules rows
    → folder (data_name key_name) ≡ Some data_file → folder (marks_name key_name) ≡ Some marks_file → HeldColumn rows granules data_file marks_file
held_column folder rows granules data_file marks_file column cut has_data has_marks =
    let streams = column.granule_streams in
    let P : ℕ × List ℕ → Type 0 = λ (stream_index, name). HasStream name (stream_payloads stream_index streams) granules folder in
    let all : All P (enumerate_from 0 (key_name ∷ [])) = subst (λ names. All P (enumerate_from 0 names)) key_stream column.streams in
    let one : HasStream key_name (stream_payloads 0 streams) granules folder = All-head P (0, key_name) [] all in
    let same_data : one.data_file ≡ data_file = same_Some one.data_file data_file (sym one.has_data ∙ has_data) in
    let same_marks : one.marks_file ≡ marks_file = same_Some one.marks_file marks_file (sym one.has_marks ∙ has_marks) in
    let sizes = map (λ payload. length payload ∷ []) (stream_payloads 0 streams) in
    record {
      payloads = stream_payloads 0 streams;
      one_each = length-map streams (λ s. get_or s 0 []) ∙ as_many (granule_rows granules rows) streams column.encoded ∙ length-granule_rows granules rows;
      framed = subst (λ payload. IsFramed payload data_file) (all_items granules rows streams cut.all column.encoded) (subst (IsFramed (concat (stream_payloads 0 streams))) same_data one.framed);
      marks = subst (IsMarksFile 1 data_file sizes granules) same_marks (subst (λ d. IsMarksFile 1 d sizes granules one.marks_file) same_data one.marks);
    }
