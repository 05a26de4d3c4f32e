-- Folders that agree at the names that are asked for.
use Rattle.std.proofs.Common.{◌≡◌, ℕ, zero, suc, ◌<◌, ◌≤◌, List, [], ◌∷◌, ◌++◌, length, map, refl, ap, sym, subst, ◌∙◌, get_or, arith}
use Rattle.std.specs.Prelude.{Option, Result, Ok, Err, ◌==◌, sum, option_and_then}
use Rattle.std.specs.Bool.{then_some}
use Rattle.std.specs.List.{AllByRecursion, enumerate_from, flat_map, list_all}
use Rattle.mt_types.specs.declared.value.Value.{Value}
use Rattle.mt_granules.specs.ColumnRows.{all_values, rows_of}
use Rattle.mt_types.specs.Bytes.{is_byte}
use Rattle.mt_types.specs.Steps.{◌>>=◌, onto, ok_or, require}
use Rattle.mt_fault.specs.declared.fault.Why.TheVariants as why
use Rattle.mt_table.specs.declared.column.Column.{Column}
use Rattle.mt_defs.specs.Folder.{Folder}
use Rattle.mt_defs.specs.Compact.{compact_data_name, compact_marks_name}
use Rattle.mt_defs.specs.FileNames.{stream_names, data_name, marks_name}
use Rattle.mt_defs.specs.Part.{wide_names}
use Rattle.mt_defs.specs.Rows.{Row}
use Rattle.mt_frame.specs.declared.frames.Frames.{Frames}
use Rattle.mt_fault.specs.Faults.{Judged, blame, file_fault}
use Rattle.mt_granules.specs.FileFaults.{file_at, frame_fault, in_order, marks_fault}
use Rattle.mt_granules.specs.PayloadReading.{GranulePayloads, frames_in, granules_reading, payloads_of, payloads_reading}
use Rattle.mt_marks.specs.MarkReading.{marks_reading}
use Rattle.mt_wide.specs.WideReading as wide
use Rattle.mt_wide.specs.WideReading.{first_stream, granules_check, stream_reading, wide_granules, wide_reading}
use Rattle.mt_wide.proofs.CountLemmas.{names_count}
use Rattle.mt_wide.proofs.EncodedCountLemmas.{streams_some}
use Rattle.mt_compact.specs.CompactReading as compact
use Rattle.mt_compact.specs.CompactReading.{compact_reading}

-- ---- lists

-- the folders have the same at each of some names
abbrev pub AgreeAt : Folder → Folder → List (List ℕ) → Type 0
AgreeAt f g names = AllByRecursion (λ name. f name ≡ g name) names

pub agree_split : (f g : Folder) (xs ys : List (List ℕ)) → AgreeAt f g (xs ++ ys) → AgreeAt f g xs × AgreeAt f g ys
agree_split f g [] ys all = (tt, all)
agree_split f g (x ∷ xs) ys all = let rest = agree_split f g xs ys all.1 in ((all.0, rest.0), rest.1)

-- the same at each of the names that an item has
pub agree_each : {X : Type 0} (f g : Folder) (names : X → List (List ℕ)) (xs : List X) (i : ℕ) (d : X) → AgreeAt f g (flat_map names xs) → i < length xs → AgreeAt f g (names (get_or xs i d))
agree_each f g names [] i d all inside = absurd (omega (arith, inside))
agree_each f g names (x ∷ xs) zero d all inside = (agree_split f g (names x) (flat_map names xs) all).0
agree_each f g names (x ∷ xs) (suc i) d all inside = agree_each f g names xs i d (agree_split f g (names x) (flat_map names xs) all).1 (omega (arith, inside))

pub steps_same : {A B E : Type 0} (r : Result A E) (f g : A → Result B E) → ((x : A) → r ≡ Ok x → f x ≡ g x) → (r >>= f) ≡ (r >>= g)
steps_same (Ok x) f g same = same x refl
steps_same (Err e) f g same = refl

in_order_same : {A B E : Type 0} (s t : A → Result B E) (xs : List A) → AllByRecursion (λ x. s x ≡ t x) xs → in_order s xs ≡ in_order t xs
in_order_same s t [] same = refl
in_order_same {A} {B} {E} s t (x ∷ xs) same =
    ap (λ (r : Result B E). r >>= λ y. onto y (in_order s xs)) same.0 ∙ ap (λ (ys : Result (List B) E). t x >>= λ y. onto y ys) (in_order_same s t xs same.1)

-- a file of both
pub file_same : (f g : Folder) (name : List ℕ) → f name ≡ g name → file_at f name ≡ file_at g name
file_same f g name e = ap (option_and_then (λ numbers. then_some (list_all is_byte numbers) numbers)) e

-- ---- the payloads of a file

abbrev behind_bytes : List ℕ → List ℕ → ℕ → List ℕ → Frames → List ℕ → Judged GranulePayloads
behind_bytes bin marks per file frames bytes = blame (marks_fault marks) (marks_reading per frames bytes) >>= λ found. Ok (payloads_of file frames found)

abbrev payloads_by : List ℕ → List ℕ → ℕ → Option (List ℕ) → Option (List ℕ) → Judged GranulePayloads
payloads_by bin marks per file bytes =
    ok_or (file_fault bin why.Missing) file >>= λ file. blame (frame_fault bin) (frames_in file) >>= λ frames. ok_or (file_fault marks why.Missing) bytes >>= λ bytes. behind_bytes bin marks per file frames bytes

payloads_are : (f : Folder) (bin marks : List ℕ) (per : ℕ) → payloads_reading f bin marks per ≡ payloads_by bin marks per (file_at f bin) (file_at f marks)
payloads_are f bin marks per = refl

payloads_same : (f g : Folder) (bin marks : List ℕ) (per : ℕ) → f bin ≡ g bin → f marks ≡ g marks → payloads_reading f bin marks per ≡ payloads_reading g bin marks per
payloads_same f g bin marks per d m =
    payloads_are f bin marks per ∙ ap (λ o. payloads_by bin marks per o (file_at f marks)) (file_same f g bin d) ∙ ap (payloads_by bin marks per (file_at g bin)) (file_same f g marks m)
    ∙ sym (payloads_are g bin marks per)

granules_same : (f g : Folder) (count : ℕ) (bin marks : List ℕ) (per : ℕ) → f bin ≡ g bin → f marks ≡ g marks → granules_reading f count bin marks per ≡ granules_reading g count bin marks per
granules_same f g count bin marks per d m =
    ap (λ (read : Judged GranulePayloads). read >>= λ found. require (sum found.granules == count) (file_fault marks why.Rows) >>= λ _. Ok found) (payloads_same f g bin marks per d m)

-- ---- Wide

stream_same : (f g : Folder) (granules : List ℕ) (name : List ℕ) → f (data_name name) ≡ g (data_name name) → f (marks_name name) ≡ g (marks_name name) → stream_reading f granules name ≡ stream_reading g granules name
stream_same f g granules name d m =
    ap (λ (read : Judged GranulePayloads). read >>= λ found. granules_check (marks_name name) granules found.granules >>= λ _. Ok found.payloads) (payloads_same f g (data_name name) (marks_name name) 1 d m)

abbrev two_names : List ℕ → List (List ℕ)
two_names name = data_name name ∷ marks_name name ∷ []

streams_same : (f g : Folder) (granules : List ℕ) (names : List (List ℕ)) → AgreeAt f g (flat_map two_names names) → AllByRecursion (λ name. stream_reading f granules name ≡ stream_reading g granules name) names
streams_same f g granules [] all = tt
streams_same f g granules (name ∷ names) all = (stream_same f g granules name all.0 all.1.0, streams_same f g granules names all.1.1)

columns_same : (f g : Folder) (granules : List ℕ) (columns : List Column) → AllByRecursion (λ column. AgreeAt f g (wide_names column)) columns → AllByRecursion (λ column. wide.column_reading f granules column ≡ wide.column_reading g granules column) columns
columns_same f g granules [] all = tt
columns_same f g granules (column ∷ columns) all =
    (ap (λ (streams : Judged (List (List (List ℕ)))). streams >>= λ read. in_order (wide.granule_reading column read) (enumerate_from 0 granules)) (in_order_same (stream_reading f granules) (stream_reading g granules) (stream_names column) (streams_same f g granules (stream_names column) all.0)), columns_same f g granules columns all.1)

first_same : (f g : Folder) (name : List ℕ) (names : List (List ℕ)) → AgreeAt f g (flat_map two_names names) → 1 ≤ length names → name ≡ get_or names 0 [] → (f (data_name name) ≡ g (data_name name)) × (f (marks_name name) ≡ g (marks_name name))
first_same f g name [] all some is = absurd (omega (arith, some))
first_same f g name (first ∷ names) all some is = subst (λ (n : List ℕ). (f (data_name n) ≡ g (data_name n)) × (f (marks_name n) ≡ g (marks_name n))) (sym is) (all.0, all.1.0)

names_some : (column : Column) → 1 ≤ length (stream_names column)
names_some column = let same = names_count column in let some = streams_some column.ty in omega (arith, same, some)

pub wide_same : (f g : Folder) (count : ℕ) (columns : List Column) → 1 ≤ length columns → AllByRecursion (λ column. AgreeAt f g (wide_names column)) columns → wide_reading f count columns ≡ wide_reading g count columns
wide_same f g count [] some all = absurd (omega (arith, some))
wide_same f g count (column ∷ columns) some all =
    let first = first_same f g (first_stream (column ∷ columns)) (stream_names column) all.0 (names_some column) refl in
    let name = first_stream (column ∷ columns) in
    let granules : wide_granules f count (column ∷ columns) ≡ wide_granules g count (column ∷ columns) =
    ap (λ (read : Judged GranulePayloads). read >>= λ found. let r : Judged (List ℕ) = Ok found.granules in r) (granules_same f g count (data_name name) (marks_name name) 1 first.0 first.1) in
    ap (λ (read : Judged (List ℕ)). read >>= λ found. wide.wide_rows_reading f found count (column ∷ columns) >>= λ rows. let r : Judged (List Row × List ℕ) = Ok (rows, found) in r) granules
    ∙ steps_same (wide_granules g count (column ∷ columns)) _ _ (λ found is.
    ap (λ (values : Judged (List (List (List Value)))). (values >>= λ read. let r : Judged (List Row) = Ok (rows_of count (map all_values read)) in r) >>= λ rows. let r : Judged (List Row × List ℕ) = Ok (rows, found) in r)
    (in_order_same (wide.column_reading f found) (wide.column_reading g found) (column ∷ columns) (columns_same f g found (column ∷ columns) all)))

-- ---- Compact

pub compact_same : (f g : Folder) (count : ℕ) (columns : List Column) → f compact_data_name ≡ g compact_data_name → f compact_marks_name ≡ g compact_marks_name → compact_reading f count columns ≡ compact_reading g count columns
compact_same f g count columns d m =
    ap (λ (read : Judged GranulePayloads). read >>= λ found. compact.compact_rows_reading found count columns >>= λ rows. let r : Judged (List Row × List ℕ) = Ok (rows, found.granules) in r)
    (granules_same f g count compact_data_name compact_marks_name (length columns) d m)
