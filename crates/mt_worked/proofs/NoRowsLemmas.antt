-- Folders near the worked example that stand for no rows.
use Rattle.std.proofs.Common.{◌≡◌, ◌⊎◌, ℕ, ◌+◌, ◌-◌, ◌*◌, ◌%◌, ◌<◌, ◌≤◌, ◌^◌, min, true, false, List, [], ◌∷◌, ◌++◌, length, map, take, drop, get_or, refl, ap, sym, ◌∙◌, subst, arith, inl, inr}
use Rattle.std.specs.Prelude.{All, IsTrue, Contains, Result, Ok, codes, sum, replicate, pos}
use Rattle.std.specs.List.{flat_map, list_any}
use Rattle.std.specs.List.Sorted.{IsSorted}
use Rattle.std.specs.Int.{w64, to_le_bytes, from_le_bytes}
use Rattle.std.specs.Ordering.{is_lt}
use Rattle.std.proofs.lemmas.Nat.{from_le_bytes-to_le_bytes_8}
use Rattle.std.proofs.lemmas.Option.{same_Some}
use Rattle.std.proofs.lemmas.List.{append-nil, length-append, length-take, length-drop}
use Rattle.std.proofs.lemmas.List.Elements.{All-nil, All-append, All-head, All-tail, All-take, All-drop}
use Rattle.std.proofs.lemmas.List.Folds.{list_any_at}
use Rattle.std.proofs.lemmas.List.Sums.{sum_by-cons}
use Rattle.mt_types.specs.declared.ty.Ty.TheVariants.{UInt}
use Rattle.mt_types.specs.declared.ty.Width.TheVariants.{W64}
use Rattle.mt_types.specs.declared.value.Value.TheVariants.{Num}
use Rattle.mt_types.specs.Fits.{fits_of}
use Rattle.mt_types.specs.Items.{item_bytes}
use Rattle.mt_types.specs.Order.{values_cmp}
use Rattle.mt_defs.specs.declared.mark.Mark.{Mark}
use Rattle.mt_defs.specs.Lists.{Pointwise}
use Rattle.mt_defs.specs.Folder.{Folder, folder_of, names_agree}
use Rattle.mt_defs.specs.Rows.{Row, cell, column_values, key_cmp}
use Rattle.mt_defs.specs.Granules.{AreGranules, granule_rows}
use Rattle.mt_defs.specs.FileNames.{data_name, marks_name, stream_names}
use Rattle.mt_defs.specs.Frames.{Block, IsFileOf, IsFramed, file_of, payload_of}
use Rattle.mt_defs.specs.Marks.{MarksPosition, marks_bytes, granule_starts}
use Rattle.mt_defs.specs.Metadata.{columns_name, count_name}
use Rattle.mt_defs.specs.PrimaryIndex.{index_name, key_bytes, primary_index_of}
use Rattle.mt_defs.specs.Projections.{base_of}
use Rattle.mt_defs.specs.Part.{StandsFor, known_names, side_names}
use Rattle.mt_defs.specs.WorkedExample.{table, u64_column, eight, data_of, seven_files}
use Rattle.mt_defs.specs.WorkedExample as example
use Rattle.mt_defs.proofs.Examples.{value_order}
use Rattle.mt_defs.proofs.Numbers.{stream_suffixes_UInt}
use Rattle.mt_defs.proofs.NaturalLemmas.{fitting_is_number}
use Rattle.mt_defs.proofs.NameLemmas.{same_name}
use Rattle.mt_frame.specs.declared.fault.FrameWhy.{FrameWhy}
use Rattle.mt_frame.specs.FrameReading.{frames_reading, frames_from, frame_reading}
use Rattle.mt_frame.proofs.BlockLemmas.{frames_complete}
use Rattle.mt_worked.specs.NumberColumns.{HasNumbersOfWidth}
use Rattle.mt_worked.specs.WrongFolders.{with_stray_file, with_short_index, with_sizes_that_disagree, with_rows_out_of_order, with_mark_off_by_one, wrong_header}
use Rattle.mt_worked.proofs.ItemLemmas.{number_fits, number_item}
use Rattle.mt_worked.proofs.NumberLemmas.{items_length}
use Rattle.mt_worked.proofs.HeldLemmas.{Held, held, HeldColumn, held_column, both_columns, key_stream, key_name}

-- ---- a stray file

not_among : (names : List (List ℕ)) (name : List ℕ) → list_any (λ other. names_agree other name) names ≡ false → Contains names name → ⊥
not_among names name none among =
    let there : list_any (λ other. names_agree other name) names ≡ true = list_any_at (λ other. names_agree other name) names among.0 name among.1 (same_name _ _ among.2) in
    let bad : true ≡ false = sym there ∙ none in
    cc

value_stream : stream_names (u64_column (codes "v")) ≡ codes "v" ∷ []
value_stream = ap (map (λ suffix. codes "v" ++ suffix)) (stream_suffixes_UInt W64)

abbrev stream_files : List (List ℕ) → List (List ℕ)
stream_files = flat_map (λ stream. data_name stream ∷ marks_name stream ∷ [])

-- the names that may stand below a part of the example's table
abbrev names_with : List (List ℕ) → List (List ℕ) → List (List ℕ)
names_with some others = (columns_name ∷ count_name ∷ index_name ∷ ((stream_files some ++ (stream_files others ++ [])) ++ side_names)) ++ [] ++ [] ++ []

pub stray : (bytes : List ℕ) (rows : List Row) → StandsFor table (folder_of (with_stray_file bytes)) rows → ⊥
stray bytes rows stands =
    let P : List (List ℕ) → List (List ℕ) → Type 0 = λ some others. Contains (names_with some others) (codes "k.bak") in
    let folder : Folder = folder_of (with_stray_file bytes) in
    let known : P (stream_names (u64_column key_name)) (stream_names (u64_column (codes "v"))) =
    subst (λ order. Contains (known_names table order folder) (codes "k.bak")) (both_columns folder rows stands.0 refl stands.1) (stands.1.known (codes "k.bak") refl) in
    let listed : P (key_name ∷ []) (codes "v" ∷ []) = subst (P (key_name ∷ [])) value_stream (subst (λ names. P names (stream_names (u64_column (codes "v")))) key_stream known) in
    not_among (names_with (key_name ∷ []) (codes "v" ∷ [])) (codes "k.bak") refl listed

-- ---- the frames of a file

blocks_read : (file : List ℕ) (blocks : List Block) → IsFileOf blocks file → frames_reading file ≡ Ok blocks
blocks_read file blocks is = subst (λ bytes. frames_reading bytes ≡ Ok blocks) (sym is.bytes) (frames_complete (length (file_of blocks)) 0 blocks is.each (omega arith))

never_read : (blocks : List Block) → frames_reading (wrong_header ++ drop 25 (data_of 1 2 3)) ≡ Ok blocks → ⊥
unfolding frames_from frame_reading
never_read blocks e = cc

pub sizes_disagree : (rows : List Row) → StandsFor table (folder_of with_sizes_that_disagree) rows → ⊥
sizes_disagree rows stands =
    let folder : Folder = folder_of with_sizes_that_disagree in
    let h : Held folder rows = held folder rows refl refl stands in
    let column = held_column folder rows h.granules (wrong_header ++ drop 25 (data_of 1 2 3)) example.marks h.key h.cut refl refl in
    never_read column.framed.0 (blocks_read (wrong_header ++ drop 25 (data_of 1 2 3)) column.framed.0 column.framed.1)

-- the two frames of the example's data
abbrev first_block : ℕ → ℕ → Block
first_block a b = record { checksum = replicate 16 0; payload = eight a ++ eight b }

abbrev last_block : ℕ → Block
last_block c = record { checksum = replicate 16 0; payload = eight c }

two_blocks : (a b c : ℕ) → frames_reading (data_of a b c) ≡ Ok (first_block a b ∷ last_block c ∷ [])
unfolding frames_from frame_reading
two_blocks a b c = refl

one_reading : (some others : List Block) → (let r : Result (List Block) (ℕ × FrameWhy) = Ok some in r) ≡ Ok others → some ≡ others
one_reading some others e = cc

blocks_are : (a b c : ℕ) (blocks : List Block) → IsFileOf blocks (data_of a b c) → blocks ≡ first_block a b ∷ last_block c ∷ []
blocks_are a b c blocks is = one_reading blocks (first_block a b ∷ last_block c ∷ []) (sym (blocks_read (data_of a b c) blocks is) ∙ two_blocks a b c)

-- ---- the number of granules

-- each mark of a granule's one payload takes an entry of 24 bytes
entries_length : (file : List ℕ) (position end : ℕ) (payloads : List (List ℕ)) (counts : List ℕ) (marks : List (List Mark))
    → Pointwise (Pointwise (MarksPosition file)) marks (granule_starts position (map (λ payload. length payload ∷ []) payloads) ++ (end ∷ []) ∷ [])
    → length counts ≡ length payloads + 1 → length (marks_bytes marks counts) ≡ 24 * length counts
entries_length file position end payloads [] marks p many = absurd (omega (arith, many))
entries_length file position end [] (count ∷ []) [] p many = absurd p
entries_length file position end [] (count ∷ []) ([] ∷ marks) p many = absurd p.0
entries_length file position end [] (count ∷ []) ((m ∷ []) ∷ []) p many = refl
entries_length file position end [] (count ∷ []) ((m ∷ []) ∷ x ∷ marks) p many = absurd p.1
entries_length file position end [] (count ∷ []) ((m ∷ n ∷ more) ∷ marks) p many = absurd p.0.1
entries_length file position end [] (count ∷ d ∷ counts) marks p many = absurd (omega (arith, many))
entries_length file position end (payload ∷ payloads) (count ∷ counts) [] p many = absurd p
entries_length file position end (payload ∷ payloads) (count ∷ counts) ([] ∷ marks) p many = absurd p.0
entries_length file position end (payload ∷ payloads) (count ∷ counts) ((m ∷ []) ∷ marks) p many =
    let rest : length (marks_bytes marks counts) ≡ 24 * length counts = entries_length file (position + sum (length payload ∷ [])) end payloads counts marks p.1 (omega (arith, many)) in
    omega (arith, rest)
entries_length file position end (payload ∷ payloads) (count ∷ counts) ((m ∷ n ∷ more) ∷ marks) p many = absurd p.0.1

granules_of : (rows : List Row) (granules data_file marks_file : List ℕ) → HeldColumn rows granules data_file marks_file → length marks_file ≡ 24 * (length granules + 1)
granules_of rows granules data_file marks_file column =
    let many : length (granules ++ 0 ∷ []) ≡ length granules + 1 = length-append granules (0 ∷ []) in
    let all : length (marks_bytes column.marks.marks (granules ++ 0 ∷ [])) ≡ 24 * length (granules ++ 0 ∷ []) =
    entries_length data_file 0 _ column.payloads (granules ++ 0 ∷ []) column.marks.marks column.marks.positions (omega (arith, many, column.one_each)) in
    ap length column.marks.encoded ∙ all ∙ ap (λ n. 24 * n) many

-- ---- a short primary index

firsts_length : (granules : List ℕ) (rows : List Row) → All (λ count. 1 ≤ count) granules → sum granules ≡ length rows → length (flat_map (take 1) (granule_rows granules rows)) ≡ length granules
firsts_length [] rows some cut = refl
firsts_length (count ∷ granules) rows some cut =
    let total : sum (count ∷ granules) ≡ count + sum granules = sum_by-cons (λ x. x) count granules in
    let one : 1 ≤ count = All-head (λ count. 1 ≤ count) count granules some in
    let left : length (drop count rows) ≡ length rows - count = length-drop count rows in
    let cut_off : length (take count rows) ≡ min count (length rows) = length-take count rows in
    let first : length (take 1 (take count rows)) ≡ min 1 (length (take count rows)) = length-take 1 (take count rows) in
    let rest : length (flat_map (take 1) (granule_rows granules (drop count rows))) ≡ length granules = firsts_length granules (drop count rows) (All-tail (λ count. 1 ≤ count) count granules some) (omega arith) in
    let single : length (take 1 (take count rows)) ≡ 1 = omega arith in
    length-append (take 1 (take count rows)) (flat_map (take 1) (granule_rows granules (drop count rows))) ∙ omega arith

firsts_numbers : (granules : List ℕ) (rows : List Row) → HasNumbersOfWidth W64 0 rows → HasNumbersOfWidth W64 0 (flat_map (take 1) (granule_rows granules rows))
firsts_numbers [] rows are = All-nil (λ row. IsTrue (fits_of (UInt W64) (cell row 0)))
firsts_numbers (count ∷ granules) rows are =
    let P : Row → Type 0 = λ row. IsTrue (fits_of (UInt W64) (cell row 0)) in
    All-append P (take 1 (take count rows)) (flat_map (take 1) (granule_rows granules (drop count rows))) (All-take P 1 (take count rows) (All-take P count rows are)) (firsts_numbers granules (drop count rows) (All-drop P count rows are))

keys_are_items : (rows : List Row) → flat_map (key_bytes table.columns (0 ∷ [])) rows ≡ flat_map (item_bytes (UInt W64)) (column_values 0 rows)
keys_are_items [] = refl
keys_are_items (row ∷ rows) =
    ap (λ bytes. bytes ++ flat_map (key_bytes table.columns (0 ∷ [])) rows) (append-nil (item_bytes (UInt W64) (cell row 0)))
    ∙ ap (λ rest. item_bytes (UInt W64) (cell row 0) ++ rest) (keys_are_items rows)

index_length : (rows : List Row) (granules : List ℕ) → AreGranules granules rows → HasNumbersOfWidth W64 0 rows → 1 ≤ length granules → length (primary_index_of (base_of table) rows granules) ≡ (length granules + 1) * 8
index_length rows granules cut are some =
    let P : Row → Type 0 = λ row. IsTrue (fits_of (UInt W64) (cell row 0)) in
    let firsts = flat_map (take 1) (granule_rows granules rows) in
    let last = drop (length rows - 1) rows in
    let count : length firsts ≡ length granules = firsts_length granules rows cut.not_empty cut.all in
    let left : length last ≡ length rows - (length rows - 1) = length-drop (length rows - 1) rows in
    let filled : 1 ≤ length rows = some_rows granules cut.not_empty cut.all some in
    let together : length (firsts ++ last) ≡ length firsts + length last = length-append firsts last in
    let size : length (firsts ++ last) ≡ length granules + 1 = omega arith in
    ap length (keys_are_items (firsts ++ last)) ∙ items_length W64 0 (firsts ++ last) (All-append P firsts last (firsts_numbers granules rows are) (All-drop P (length rows - 1) rows are))
    ∙ ap (λ n. n * 8) size
  where
    some_rows : (granules : List ℕ) → All (λ count. 1 ≤ count) granules → sum granules ≡ length rows → 1 ≤ length granules → 1 ≤ length rows
    some_rows [] each all h = absurd (omega (arith, h))
    some_rows (count ∷ granules) each all h =
        let total : sum (count ∷ granules) ≡ count + sum granules = sum_by-cons (λ x. x) count granules in
        let one : 1 ≤ count = All-head (λ count. 1 ≤ count) count granules each in
        omega arith

pub short_index : (rows : List Row) → StandsFor table (folder_of with_short_index) rows → ⊥
short_index rows stands =
    let folder : Folder = folder_of with_short_index in
    let h : Held folder rows = held folder rows refl refl stands in
    let column = held_column folder rows h.granules (data_of 1 2 3) example.marks h.key h.cut refl refl in
    let entries : 72 ≡ 24 * (length h.granules + 1) = granules_of rows h.granules (data_of 1 2 3) example.marks column in
    let keys : length (primary_index_of (base_of table) rows h.granules) ≡ (length h.granules + 1) * 8 = index_length rows h.granules h.cut h.numbers (omega (arith, entries)) in
    let index : eight 1 ++ eight 3 ≡ primary_index_of (base_of table) rows h.granules = same_Some (eight 1 ++ eight 3) (primary_index_of (base_of table) rows h.granules) h.index in
    let size : 16 ≡ length (primary_index_of (base_of table) rows h.granules) = ap length index in
    omega (arith, entries, keys, size)

-- ---- rows out of order

payload_is : (a b c : ℕ) (items : List ℕ) → IsFramed items (data_of a b c) → items ≡ (eight a ++ eight b) ++ (eight c ++ [])
payload_is a b c items (blocks, is, all) = all ∙ ap payload_of (blocks_are a b c blocks is)

-- a number of a row, and its item
record Key (row : Row) : Type 0 where
  number : ℕ
  is : cell row 0 ≡ Num (pos number)
  small : number < 2 ^ 64
  item : item_bytes (UInt W64) (cell row 0) ≡ to_le_bytes w64 number

key_in : (row : Row) → IsTrue (fits_of (UInt W64) (cell row 0)) → Key row
key_in row fits =
    let number = fitting_is_number (cell row 0) fits in
    let natural = number_fits (cell row 0) number.0 number.1 fits in
    let is : cell row 0 ≡ Num (pos natural.natural) = number.1 ∙ ap Num natural.is in
    record { number = natural.natural; is = is; small = natural.fits_u64; item = number_item W64 (cell row 0) natural.natural is }

numbers_back : (m n : ℕ) → m < 2 ^ 64 → to_le_bytes w64 m ≡ eight n → n ≡ from_le_bytes w64 (eight n) → m ≡ n
numbers_back m n small e back = sym (from_le_bytes-to_le_bytes_8 m small) ∙ ap (from_le_bytes w64) e ∙ sym back

three_items : (rows : List Row) → IsSorted (key_cmp (0 ∷ [])) rows → HasNumbersOfWidth W64 0 rows → length rows ≡ 3 → flat_map (item_bytes (UInt W64)) (column_values 0 rows) ≡ (eight 2 ++ eight 1) ++ (eight 3 ++ []) → ⊥
three_items [] ordered are three e = absurd (omega (arith, three))
three_items (a ∷ []) ordered are three e = absurd (omega (arith, three))
three_items (a ∷ b ∷ rows) ordered are three e =
    let P : Row → Type 0 = λ row. IsTrue (fits_of (UInt W64) (cell row 0)) in
    let first : Key a = key_in a (All-head P a (b ∷ rows) are) in
    let second : Key b = key_in b (All-head P b rows (All-tail P a (b ∷ rows) are)) in
    let rest = flat_map (item_bytes (UInt W64)) (column_values 0 rows) in
    let bytes : to_le_bytes w64 first.number ++ (to_le_bytes w64 second.number ++ rest) ≡ (eight 2 ++ eight 1) ++ (eight 3 ++ []) =
    ap (λ item. item ++ (to_le_bytes w64 second.number ++ rest)) (sym first.item) ∙ ap (λ item. item_bytes (UInt W64) (cell a 0) ++ (item ++ rest)) (sym second.item) ∙ e in
    let is_two : first.number ≡ 2 = numbers_back first.number 2 first.small (ap (take 8) bytes) refl in
    let is_one : second.number ≡ 1 = numbers_back second.number 1 second.small (ap (λ l. take 8 (drop 8 l)) bytes) refl in
    let below : is_lt (values_cmp (cell b 0 ∷ []) (cell a 0 ∷ [])) ≡ false = ordered 0 a (omega arith) (omega arith) in
    let at_numbers : is_lt (values_cmp (Num (pos 1) ∷ []) (Num (pos 2) ∷ [])) ≡ false =
    subst (λ v. is_lt (values_cmp (Num (pos 1) ∷ []) (v ∷ [])) ≡ false) (first.is ∙ ap (λ n. Num (pos n)) is_two)
    (subst (λ v. is_lt (values_cmp (v ∷ []) (cell a 0 ∷ [])) ≡ false) (second.is ∙ ap (λ n. Num (pos n)) is_one) below) in
    falls at_numbers
  where
    falls : is_lt (values_cmp (Num (pos 1) ∷ []) (Num (pos 2) ∷ [])) ≡ false → ⊥
    falls e =
        let less : is_lt (values_cmp (Num (pos 1) ∷ []) (Num (pos 2) ∷ [])) ≡ true = simp value_order in
        let bad : true ≡ false = sym less ∙ e in
        cc

pub out_of_order : (rows : List Row) → StandsFor table (folder_of with_rows_out_of_order) rows → ⊥
out_of_order rows stands =
    let folder : Folder = folder_of with_rows_out_of_order in
    let h : Held folder rows = held folder rows refl refl stands in
    let column = held_column folder rows h.granules (data_of 2 1 3) example.marks h.key h.cut refl refl in
    let items = flat_map (item_bytes (UInt W64)) (column_values 0 rows) in
    let is : items ≡ (eight 2 ++ eight 1) ++ (eight 3 ++ []) = payload_is 2 1 3 items column.framed in
    let size : length items ≡ length rows * 8 = items_length W64 0 rows h.numbers in
    let all : length items ≡ 24 = ap length is in
    three_items rows h.ordered h.numbers (omega (arith, size, all)) is

-- ---- a mark off by one

-- a mark of the example's data is at the start of a frame or at the end
offsets : (mark : Mark) (position : ℕ) → MarksPosition (data_of 1 2 3) mark position → (mark.offset ≡ 0) ⊎ ((mark.offset ≡ 41) ⊎ (mark.offset ≡ 74))
offsets mark position (blocks, is, inr end) = inr (inr (end.at_offset ∙ ap (λ b. length (file_of b)) (blocks_are 1 2 3 blocks is)))
offsets mark position (blocks, is, inl frame) = before_is frame.before (sym (sym frame.split ∙ blocks_are 1 2 3 blocks is)) frame.at_offset
  where
    before_is : (before : List Block) → first_block 1 2 ∷ last_block 3 ∷ [] ≡ before ++ frame.here ∷ frame.after → mark.offset ≡ length (file_of before) → (mark.offset ≡ 0) ⊎ ((mark.offset ≡ 41) ⊎ (mark.offset ≡ 74))
    before_is [] split at = inl at
    before_is (x ∷ []) split at =
        let first : first_block 1 2 ≡ x = cc in
        inr (inl (at ∙ ap (λ b. length (file_of (b ∷ []))) (sym first)))
    before_is (x ∷ y ∷ before) split at =
        let size : 2 ≡ length (x ∷ y ∷ (before ++ frame.here ∷ frame.after)) = ap length split in
        let more : length (before ++ frame.here ∷ frame.after) ≡ length before + length (frame.here ∷ frame.after) = length-append before (frame.here ∷ frame.after) in
        absurd (omega arith)

second_mark : (bytes : List ℕ) (position end : ℕ) (payloads : List (List ℕ)) (granules : List ℕ) (marks : List (List Mark))
    → Pointwise (Pointwise (MarksPosition (data_of 1 2 3))) marks (granule_starts position (map (λ payload. length payload ∷ []) payloads) ++ (end ∷ []) ∷ [])
    → length payloads ≡ 2 → length granules ≡ 2 → bytes ≡ marks_bytes marks (granules ++ 0 ∷ []) → get_or bytes 24 0 ≡ 42 → ⊥
second_mark bytes position end [] granules marks p two many is e = absurd (omega (arith, two))
second_mark bytes position end (x ∷ []) granules marks p two many is e = absurd (omega (arith, two))
second_mark bytes position end (x ∷ y ∷ payloads) [] marks p two many is e = absurd (omega (arith, many))
second_mark bytes position end (x ∷ y ∷ payloads) (g ∷ []) marks p two many is e = absurd (omega (arith, many))
second_mark bytes position end (x ∷ y ∷ payloads) (g ∷ h ∷ granules) [] p two many is e = absurd p
second_mark bytes position end (x ∷ y ∷ payloads) (g ∷ h ∷ granules) ([] ∷ marks) p two many is e = absurd p.0
second_mark bytes position end (x ∷ y ∷ payloads) (g ∷ h ∷ granules) ((m ∷ k ∷ more) ∷ marks) p two many is e = absurd p.0.1
second_mark bytes position end (x ∷ y ∷ payloads) (g ∷ h ∷ granules) ((m ∷ []) ∷ []) p two many is e = absurd p.1
second_mark bytes position end (x ∷ y ∷ payloads) (g ∷ h ∷ granules) ((m ∷ []) ∷ [] ∷ marks) p two many is e = absurd p.1.0
second_mark bytes position end (x ∷ y ∷ payloads) (g ∷ h ∷ granules) ((m ∷ []) ∷ (n ∷ more) ∷ marks) p two many is e =
    let byte : get_or bytes 24 0 ≡ n.offset % 256 = ap (λ l. get_or l 24 0) is in
    elim (offsets n _ p.1.0.0) [
      | inl zero_is ↦ omega (arith, byte, e, zero_is)
      | inr (inl first_is) ↦ omega (arith, byte, e, first_is)
      | inr (inr end_is) ↦ omega (arith, byte, e, end_is)
    ]

pub mark_off : (rows : List Row) → StandsFor table (folder_of with_mark_off_by_one) rows → ⊥
mark_off rows stands =
    let folder : Folder = folder_of with_mark_off_by_one in
    let h : Held folder rows = held folder rows refl refl stands in
    let file = example.mark_entry 0 2 ++ example.mark_entry 42 1 ++ example.mark_entry 74 0 in
    let column = held_column folder rows h.granules (data_of 1 2 3) file h.key h.cut refl refl in
    let entries : 72 ≡ 24 * (length h.granules + 1) = granules_of rows h.granules (data_of 1 2 3) file column in
    second_mark file 0 _ column.payloads h.granules column.marks.marks column.marks.positions (omega (arith, entries, column.one_each)) (omega (arith, entries)) column.marks.encoded refl
