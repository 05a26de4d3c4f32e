-- Reading the columns of a Wide part one after another.
use Rattle.std.proofs.Common.{◌≡◌, ℕ, ◌+◌, ◌<◌, ◌≤◌, suc, List, [], ◌∷◌, ◌++◌, length, map, take, get_or, refl, ap, sym, ◌∙◌, subst, eqb, Bor}
use Rattle.std.specs.Prelude.{Result, Ok, All, sum, slice_index_or}
use Rattle.std.proofs.lemmas.Bool.{eqb-true}
use Rattle.std.proofs.lemmas.List.{length-map, map-append}
use Rattle.std.proofs.lemmas.List.Elements.{All-append, All-cons, All-nil}
use Rattle.mt_types.specs.declared.value.Value.{Value}
use Rattle.mt_types.specs.Steps.{◌>>=◌}
use Rattle.mt_types.proofs.StepLemmas.{ok_one, ok_then, required, then_of}
use Rattle.mt_table.specs.Rows.{Pointwise}
use Rattle.mt_table.specs.declared.column.Column.{Column}
use Rattle.mt_defs.specs.Folder.{Folder}
use Rattle.mt_defs.specs.Rows.{Row}
use Rattle.mt_codec.specs.StreamOrder.{streams_of}
use Rattle.mt_codec.specs.Results.{bytes_of as slice_bytes}
use Rattle.mt_defs.specs.FileNames.{stream_names}
use Rattle.mt_granules.specs.declared.payloads.Payloads.{Payloads}
use Rattle.mt_granules.specs.declared.payloads.Payload.{Payload}
use Rattle.mt_fault.specs.declared.fault.Why.TheVariants as why
use Rattle.mt_fault.specs.Faults.{Judged, file_fault}
use Rattle.mt_granules.specs.FileFaults.{in_order}
use Rattle.mt_granules.specs.PayloadReading.{GranulePayloads, granules_reading, payloads_reading}
use Rattle.mt_granules.specs.PayloadView.{bytes_of_payload, payloads_in}
use Rattle.mt_granules.specs.ColumnRows.{all_values, rows_of, with_column}
use Rattle.mt_granules.proofs.OrderLemmas.{order_continues, order_each, order_ends, order_next}
use Rattle.mt_granules.proofs.RowLemmas.{column_added, length-rows_of}
use Rattle.mt_granules.proofs.LayoutLemmas.{values_fit}
use Rattle.mt_wide.specs.WideReading.{column_reading, payloads_at, wide_rows_reading, wide_granules, wide_reading}
use Rattle.mt_wide.specs.StreamView.{HasGranules, streams_in}
use Rattle.mt_wide.proofs.CountLemmas.{names_count}

-- ---- granules

-- granules that were read sum to the count
pub granules_sum : (folder : Folder) (count : ℕ) (data_name marks_name : List ℕ) (per_granule : ℕ) (read : GranulePayloads) → granules_reading folder count data_name marks_name per_granule ≡ Ok read → sum read.granules ≡ count
granules_sum folder count data_name marks_name per_granule read e =
    ok_then (payloads_reading folder data_name marks_name per_granule) _ read e (λ found is e.
    required (eqb (sum found.granules) count) (file_fault marks_name why.Rows) (λ _. Ok found) read e (λ all e.
    ap (λ (p : GranulePayloads). sum p.granules) (ok_one found read e) ∙ eqb-true (sum found.granules) count all))

-- ---- substreams

pub streams_more : (streams new : List Payloads) (read : Payloads) → new ≡ streams ++ read ∷ [] → streams_in streams ++ (payloads_in read).payloads ∷ [] ≡ streams_in new
streams_more streams new read is = sym (ap streams_in is ∙ map-append (λ (r : Payloads). (payloads_in r).payloads) streams (read ∷ []))

pub each_more : (granules : List ℕ) (streams new : List Payloads) (read : Payloads) → new ≡ streams ++ read ∷ [] → All (HasGranules granules) streams → HasGranules granules read → All (HasGranules granules) new
each_more granules streams new read is are has =
    subst (All (HasGranules granules)) (sym is) (All-append (HasGranules granules) streams (read ∷ []) are (All-cons (HasGranules granules) read [] has (All-nil (HasGranules granules))))

pub pointwise_long : {A B : Type 0} (R : A → B → Type 0) (xs : List A) (ys : List B) → Pointwise R xs ys → length ys ≡ length xs
pointwise_long R [] [] p = refl
pointwise_long R [] (y ∷ ys) p = absurd p
pointwise_long R (x ∷ xs) [] p = absurd p
pointwise_long R (x ∷ xs) (y ∷ ys) p = ap (λ (n : ℕ). suc n) (pointwise_long R xs ys p.1)

pub order_long : {A B E : Type 0} (step : A → Result B E) (xs : List A) (ys : List B) → in_order step xs ≡ Ok ys → length ys ≡ length xs
order_long step xs ys e = pointwise_long (λ x y. step x ≡ Ok y) xs ys (order_each step xs ys e)

pub streams_long : (names : List (List ℕ)) (streams : List Payloads) (step : List ℕ → Judged (List (List ℕ))) → in_order step names ≡ Ok (streams_in streams) → length streams ≡ length names
streams_long names streams step e = sym (length-map streams (λ (r : Payloads). (payloads_in r).payloads)) ∙ order_long step names (streams_in streams) e

-- a granule has a payload for each substream of the type
pub slices_long : (column : Column) (names : List (List ℕ)) (streams : List Payloads) (granule : ℕ) (payloads seen : List Payload) (slices given : List (Bor (List ℕ)))
    → names ≡ stream_names column → length streams ≡ length names → map bytes_of_payload payloads ≡ payloads_at granule (streams_in streams) → seen ≡ payloads → slice_bytes slices ≡ map bytes_of_payload seen → given ≡ slices → length given ≡ length (streams_of column.ty)
slices_long column names streams granule payloads seen slices given names_are complete payloads_are same slices_are given_is =
    ap (λ (l : List (Bor (List ℕ))). length l) given_is ∙ sym (length-map slices (λ (s : Bor (List ℕ)). s.now)) ∙ ap (λ (l : List (List ℕ)). length l) slices_are
    ∙ ap (λ (l : List Payload). length (map bytes_of_payload l)) same ∙ ap (λ (l : List (List ℕ)). length l) payloads_are
    ∙ length-map (streams_in streams) (λ (ps : List (List ℕ)). slice_index_or ps granule []) ∙ length-map streams (λ (r : Payloads). (payloads_in r).payloads)
    ∙ complete ∙ ap (λ (l : List (List ℕ)). length l) names_are ∙ names_count column

-- ---- columns

-- the columns before are read, and the rows have their values
pub record IsReadSoFar (folder : Folder) (granules : List ℕ) (count : ℕ) (columns : List Column) (rows : List Row) : Type 0 where
  pub values : List (List (List Value))
  pub so_far : in_order (column_reading folder granules) columns ≡ Ok values
  pub rows_are : rows ≡ rows_of count (map all_values values)

pub first_read : (folder : Folder) (granules : List ℕ) (count : ℕ) (columns others : List Column) (column : Column) (rows : List Row) (values : List (List Value)) → columns ≡ column ∷ others → column_reading folder granules column ≡ Ok values
    → rows ≡ rows_of count (all_values values ∷ []) → IsReadSoFar folder granules count (take 1 columns) rows
first_read folder granules count columns others column rows values split read is =
    let step = column_reading folder granules in
    record { values = values ∷ []; so_far = ap (λ (cs : List Column). in_order step (take 1 cs)) split ∙ order_next step column [] values [] read refl; rows_are = is }

pub rows_many : (folder : Folder) (granules : List ℕ) (count : ℕ) (columns : List Column) (rows : List Row) → IsReadSoFar folder granules count columns rows → length rows ≡ count
rows_many folder granules count columns rows had = ap (λ (l : List Row). length l) had.rows_are ∙ length-rows_of count (map all_values had.values)

pub column_read : (folder : Folder) (granules : List ℕ) (count : ℕ) (columns : List Column) (i : ℕ) (column : Column) (rows new : List Row) (values : List (List Value)) → i < length columns → column ≡ get_or columns i column
    → column_reading folder granules column ≡ Ok values → map (λ (h : List Value). length h) values ≡ granules → sum granules ≡ count → new ≡ with_column rows (all_values values)
    → IsReadSoFar folder granules count (take i columns) rows → IsReadSoFar folder granules count (take (i + 1) columns) new
column_read folder granules count columns i column rows new values h at is each all new_is had = record {
  values = had.values ++ values ∷ [];
  so_far = order_continues (column_reading folder granules) columns i column had.values values h at had.so_far is;
  rows_are = new_is ∙ ap (λ (l : List Row). with_column l (all_values values)) had.rows_are
      ∙ sym (column_added count (map all_values had.values) (all_values values) (values_fit count granules values each all))
      ∙ ap (rows_of count) (sym (map-append all_values had.values (values ∷ [])));
}

pub all_read : (folder : Folder) (granules : List ℕ) (count : ℕ) (columns : List Column) (i : ℕ) (rows : List Row) → length columns ≤ i → IsReadSoFar folder granules count (take i columns) rows → wide_rows_reading folder granules count columns ≡ Ok rows
all_read folder granules count columns i rows h had =
    then_of (in_order (column_reading folder granules) columns) had.values (λ values. Ok (rows_of count (map all_values values))) (order_ends (column_reading folder granules) columns i had.values h had.so_far)
    ∙ ap (λ (l : List Row). let r : Judged (List Row) = Ok l in r) (sym had.rows_are)

-- ---- the whole part

pub part_read : (folder given : Folder) (count : ℕ) (columns : List Column) (granules : List ℕ) (rows shown : List Row) → folder ≡ given → wide_granules folder count columns ≡ Ok granules → wide_rows_reading folder granules count columns ≡ Ok rows → shown ≡ rows
    → wide_reading given count columns ≡ Ok (shown, granules)
part_read folder given count columns granules rows shown same first read is =
    subst (λ (f : Folder). wide_reading f count columns ≡ Ok (shown, granules)) same
    (then_of (wide_granules folder count columns) granules (λ granules. wide_rows_reading folder granules count columns >>= λ rows. Ok (rows, granules)) first
    ∙ then_of (wide_rows_reading folder granules count columns) rows (λ rows. Ok (rows, granules)) read
    ∙ ap (λ (l : List Row). let r : Judged (List Row × List ℕ) = Ok (l, granules) in r) (sym is))
