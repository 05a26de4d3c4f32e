-- A column is read exactly where its files hold it.
use Rattle.std.proofs.Common.{◌≡◌, ℕ, suc, ◌+◌, ◌<◌, ◌≤◌, true, List, [], ◌∷◌, length, map, take, drop, get_or, refl, ap, sym, ◌∙◌, subst, arith}
use Rattle.std.specs.Prelude.{All, Ok, slice_index_or}
use Rattle.std.specs.List.{enumerate_from, list_all, range_with_len, sum}
use Rattle.std.proofs.Math.Path.{fun_ext}
use Rattle.std.proofs.lemmas.List.{get_or-map, length-map, length-take-le, length-drop}
use Rattle.std.proofs.lemmas.List.FromFn.{get_or-map-range_with_len, length-map-range_with_len}
use Rattle.mt_facts.proofs.Lists.{map_map}
use Rattle.mt_facts.proofs.Numbers.{sum_cons}
use Rattle.mt_types.specs.declared.value.Value.{Value}
use Rattle.mt_types.specs.Fits.{fits_of}
use Rattle.mt_types.specs.Profile.{is_profile}
use Rattle.mt_types.proofs.StepLemmas.{ok_then, then_of}
use Rattle.mt_table.specs.Rows.{Pointwise}
use Rattle.mt_table.specs.declared.column.Column.{Column}
use Rattle.mt_table.proofs.PointwiseLemmas.{Pointwise-get_or, Pointwise-length}
use Rattle.mt_defs.specs.Encoding.{Encodes}
use Rattle.mt_defs.specs.FileNames.{stream_names}
use Rattle.mt_defs.specs.Folder.{Folder}
use Rattle.mt_defs.specs.Granules.{granule_rows}
use Rattle.mt_defs.specs.Lists.{AreBytes}
use Rattle.mt_defs.specs.Rows.{Row, column_values}
use Rattle.mt_defs.specs.Wide.{HasColumn, HasStream, stream_payloads}
use Rattle.mt_codec.specs.ColumnReading.{decode_reading}
use Rattle.mt_codec.specs.StreamOrder.{streams_of}
use Rattle.mt_codec.proofs.ExactLemmas.{AreSmall}
use Rattle.mt_codec.proofs.TypeLemmas.{decoded_encodes, encoded_decodes}
use Rattle.mt_item.proofs.ExactLemmas.{small_of}
use Rattle.mt_granules.specs.ColumnRows.{all_values}
use Rattle.mt_fault.specs.Faults.{Judged, blame}
use Rattle.mt_granules.specs.FileFaults.{in_order}
use Rattle.mt_granules.proofs.IndexLemmas.{by_index, first_cut, list_all_more, numbered_all, numbered_each, pointwise_of}
use Rattle.mt_granules.proofs.OrderLemmas.{order_all, order_each}
use Rattle.mt_fault.proofs.FaultLemmas.{blame_ok}
use Rattle.mt_defs.proofs.GranuleLemmas.{length-granule_rows}
use Rattle.mt_wide.specs.WideReading.{column_reading, granule_reading, payloads_at, stream_reading, value_fault}
use Rattle.mt_wide.proofs.CountLemmas.{names_count}
use Rattle.mt_wide.proofs.EncodedCountLemmas.{encoded_count}
use Rattle.mt_wide.proofs.StreamLawLemmas.{AreHeldGranules, stream_held, stream_read}

-- ---- the substreams of a column, one after another

abbrev AreGood : ℕ → List (List (List ℕ)) → Type 0
AreGood n [] = Unit {0}
AreGood n (payloads ∷ streams) = All AreBytes payloads × (length payloads ≡ n) × AreGood n streams

streams_good : (folder : Folder) (granules : List ℕ) (names : List (List ℕ)) (streams : List (List (List ℕ))) → Pointwise (λ name payloads. stream_reading folder granules name ≡ Ok payloads) names streams → AreGood (length granules) streams
streams_good folder granules [] [] p = tt
streams_good folder granules [] (s ∷ streams) p = absurd p
streams_good folder granules (name ∷ names) [] p = absurd p
streams_good folder granules (name ∷ names) (s ∷ streams) p = let held = stream_held folder granules name s p.0 in (held.bytes, held.many, streams_good folder granules names streams p.1)

small_at : (n g : ℕ) (streams : List (List (List ℕ))) → g < n → AreGood n streams → AreSmall (payloads_at g streams)
small_at n g [] h good = tt
small_at n g (payloads ∷ streams) h good = (small_of (get_or payloads g []) (good.0 g [] (omega (arith, h, good.1))), small_at n g streams h good.2)

module _ (column : Column) (profile : is_profile column.ty ≡ true) (streams : List (List (List ℕ))) where
  -- ---- what is read of a granule is encoded

  granule_encodes : (n g count : ℕ) (values : List Value) → g < n → AreGood n streams → length streams ≡ length (streams_of column.ty) → granule_reading column streams (g, count) ≡ Ok values → (length values ≡ count) × Encodes column.ty values (payloads_at g streams)
  granule_encodes n g count values h good many e =
      decoded_encodes column.ty profile count (payloads_at g streams) values (small_at n g streams h good) (length-map streams (λ (payloads : List (List ℕ)). slice_index_or payloads g []) ∙ many)
      (blame_ok (value_fault (stream_names column) g) (decode_reading column.ty count (payloads_at g streams)) values e)

  pub lengths_from : (n g : ℕ) (granules : List ℕ) (values : List (List Value)) → g + length granules ≤ n → AreGood n streams → length streams ≡ length (streams_of column.ty)
      → Pointwise (λ p vs. granule_reading column streams p ≡ Ok vs) (enumerate_from g granules) values → (map (λ (h : List Value). length h) values ≡ granules) × (list_all (fits_of column.ty) (all_values values) ≡ true)
  lengths_from n g [] [] within good many p = (refl, refl)
  lengths_from n g [] (v ∷ values) within good many p = absurd p
  lengths_from n g (count ∷ granules) [] within good many p = absurd p
  lengths_from n g (count ∷ granules) (v ∷ values) within good many p =
      let here = granule_encodes n g count v (omega (arith, within)) good many p.0 in
      let more = lengths_from n (g + 1) granules values (omega (arith, within)) good many p.1 in (
        ap (λ (k : ℕ). k ∷ map (λ (h : List Value). length h) values) here.0 ∙ ap (λ (l : List ℕ). count ∷ l) more.0,
        list_all_more (fits_of column.ty) v (all_values values) here.1.fit more.1,
      )

  encoded_from : (n g i : ℕ) (granules : List ℕ) (values : List (List Value)) (rows : List Row) → g + length granules ≤ n → AreGood n streams → length streams ≡ length (streams_of column.ty)
      → Pointwise (λ p vs. granule_reading column streams p ≡ Ok vs) (enumerate_from g granules) values → column_values i rows ≡ all_values values
      → Pointwise (λ rows streams. Encodes column.ty (column_values i rows) streams) (granule_rows granules rows) (map (λ k. payloads_at k streams) (range_with_len g (length granules)))
  encoded_from n g i [] [] rows within good many p e = tt
  encoded_from n g i [] (v ∷ values) rows within good many p e = absurd p
  encoded_from n g i (count ∷ granules) [] rows within good many p e = absurd p
  encoded_from n g i (count ∷ granules) (v ∷ values) rows within good many p e =
      let here = granule_encodes n g count v (omega (arith, within)) good many p.0 in
      let cut = first_cut i count rows v values here.0 e in
      (subst (λ (vs : List Value). Encodes column.ty vs (payloads_at g streams)) (sym cut.0) here.1, encoded_from n (g + 1) i granules values (drop count rows) (omega (arith, within)) good many p.1 cut.1)

  -- ---- what is encoded is read

  pub read_from : (g i : ℕ) (granules : List ℕ) (rows : List Row) (encoded : List (List (List ℕ))) → Pointwise (λ rows streams. Encodes column.ty (column_values i rows) streams) (granule_rows granules rows) encoded
      → ((k : ℕ) → k < length granules → payloads_at (g + k) streams ≡ get_or encoded k []) → sum granules ≡ length rows
      → Pointwise (λ p vs. granule_reading column streams p ≡ Ok vs) (enumerate_from g granules) (map (column_values i) (granule_rows granules rows))
  read_from g i [] rows encoded p turned all = tt
  read_from g i (count ∷ granules) rows [] p turned all = absurd p
  read_from g i (count ∷ granules) rows (ss ∷ encoded) p turned all =
      let both = sum_cons count granules in
      let values = column_values i (take count rows) in
      let long : length values ≡ count = length-map (take count rows) _ ∙ length-take-le count rows (omega (arith, all, both)) in
      let here : payloads_at g streams ≡ ss = ap (λ (k : ℕ). payloads_at k streams) (let z : g ≡ g + 0 = omega arith in z) ∙ turned 0 (omega arith) in
      let decoded : decode_reading column.ty count (payloads_at g streams) ≡ Ok values = ap (decode_reading column.ty count) here ∙ encoded_decodes column.ty profile count ss values long p.0 in (
        ap (blame (value_fault (stream_names column) g)) decoded,
        read_from (g + 1) i granules (drop count rows) encoded p.1 (λ k h. ap (λ (m : ℕ). payloads_at m streams) (let z : g + 1 + k ≡ g + suc k = omega arith in z) ∙ turned (suc k) (omega (arith, h))) (omega (arith, all, both, length-drop count rows)),
      )

-- ---- stream by stream, and granule by granule

abbrev turned : ℕ → List (List (List ℕ)) → List (List (List ℕ))
turned n streams = map (λ g. payloads_at g streams) (range_with_len 0 n)

stream_back : (n k : ℕ) (streams : List (List (List ℕ))) → k < length streams → length (get_or streams k []) ≡ n → stream_payloads k (turned n streams) ≡ get_or streams k []
stream_back n k streams h long =
    map_map (λ (ss : List (List ℕ)). slice_index_or ss k []) (λ (g : ℕ). payloads_at g streams) (range_with_len 0 n)
    ∙ ap (λ (f : ℕ → List ℕ). map f (range_with_len 0 n)) (fun_ext (λ g. get_or-map (λ (payloads : List (List ℕ)). slice_index_or payloads g []) streams k [] [] h))
    ∙ by_index (get_or streams k []) n [] long

granule_back : (width g : ℕ) (granule_streams : List (List (List ℕ))) → g < length granule_streams → length (get_or granule_streams g []) ≡ width
    → payloads_at g (map (λ k. stream_payloads k granule_streams) (range_with_len 0 width)) ≡ get_or granule_streams g []
granule_back width g granule_streams h long =
    map_map (λ (payloads : List (List ℕ)). slice_index_or payloads g []) (λ (k : ℕ). stream_payloads k granule_streams) (range_with_len 0 width)
    ∙ ap (λ (f : ℕ → List ℕ). map f (range_with_len 0 width)) (fun_ext (λ k. get_or-map (λ (ss : List (List ℕ)). slice_index_or ss k []) granule_streams g [] [] h))
    ∙ by_index (get_or granule_streams g []) width [] long

-- ---- the column

pub record ColumnIsHeld (folder : Folder) (granules : List ℕ) (column : Column) (values : List (List Value)) : Type 0 where
  pub each : map (λ (h : List Value). length h) values ≡ granules
  pub fit : list_all (fits_of column.ty) (all_values values) ≡ true
  pub has : (i : ℕ) (rows : List Row) → column_values i rows ≡ all_values values → HasColumn column i rows granules folder

pub column_held : (folder : Folder) (granules : List ℕ) (column : Column) (values : List (List Value)) → is_profile column.ty ≡ true → column_reading folder granules column ≡ Ok values → ColumnIsHeld folder granules column values
column_held folder granules column values profile e =
    ok_then (in_order (stream_reading folder granules) (stream_names column)) (λ streams. in_order (granule_reading column streams) (enumerate_from 0 granules)) values e (λ streams are e.
    let names = stream_names column in
    let n = length granules in
    let streams_are = order_each (stream_reading folder granules) names streams are in
    let granules_are = order_each (granule_reading column streams) (enumerate_from 0 granules) values e in
    let good = streams_good folder granules names streams streams_are in
    let wide : length names ≡ length streams = Pointwise-length _ names streams streams_are in
    let many : length streams ≡ length (streams_of column.ty) = sym wide ∙ names_count column in
    let lengths = lengths_from column profile streams n 0 granules values (omega arith) good many granules_are in
    record {
      each = lengths.0;
      fit = lengths.1;
      has = λ i rows is. record {
        granule_streams = turned n streams;
        encoded = encoded_from column profile streams n 0 i granules values rows (omega arith) good many granules_are is;
        streams = numbered_all (λ (p : ℕ × List ℕ). HasStream p.1 (stream_payloads p.0 (turned n streams)) granules folder) names [] (λ k h.
            let held = stream_held folder granules (get_or names k []) (get_or streams k []) (Pointwise-get_or _ names streams k [] [] streams_are h) in
            subst (λ (ps : List (List ℕ)). HasStream (get_or names k []) ps granules folder) (sym (stream_back n k streams (omega (arith, h, wide)) held.many)) held.has);
      };
    })

pub column_is_read : (folder : Folder) (granules : List ℕ) (column : Column) (i : ℕ) (rows : List Row) → AreHeldGranules granules → is_profile column.ty ≡ true → sum granules ≡ length rows → HasColumn column i rows granules folder
    → column_reading folder granules column ≡ Ok (map (column_values i) (granule_rows granules rows))
column_is_read folder granules column i rows are profile all has =
    let names = stream_names column in
    let width = length names in
    let encoded = has.granule_streams in
    let streams : List (List (List ℕ)) = map (λ k. stream_payloads k encoded) (range_with_len 0 width) in
    let wide : length streams ≡ width = length-map-range_with_len (λ k. stream_payloads k encoded) 0 width in
    let count : length encoded ≡ length granules = sym (Pointwise-length _ (granule_rows granules rows) encoded has.encoded) ∙ length-granule_rows granules rows in
    let streams_are : in_order (stream_reading folder granules) names ≡ Ok streams =
    order_all (stream_reading folder granules) names streams (pointwise_of _ names streams (sym wide) (λ k a b h.
    let here = numbered_each (λ (p : ℕ × List ℕ). HasStream p.1 (stream_payloads p.0 encoded) granules folder) names a k has.streams h in
    stream_read folder granules (get_or names k a) (stream_payloads k encoded) are (length-map encoded _ ∙ count) here
    ∙ ap (λ (ps : List (List ℕ)). let r : Judged (List (List ℕ)) = Ok ps in r) (sym (get_or-map-range_with_len (λ k. stream_payloads k encoded) 0 width k k b h (omega arith))))) in
    let rows_many : length (granule_rows granules rows) ≡ length granules = length-granule_rows granules rows in
    let granules_are = read_from column profile streams 0 i granules rows encoded has.encoded (λ k h.
    let encodes = Pointwise-get_or _ (granule_rows granules rows) encoded k [] [] has.encoded (omega (arith, h, rows_many)) in
    ap (λ (m : ℕ). payloads_at m streams) (let z : 0 + k ≡ k = omega arith in z)
    ∙ granule_back width k encoded (omega (arith, h, count)) (encoded_count column.ty _ (get_or encoded k []) encodes.encoded ∙ sym (names_count column))) all in
    then_of (in_order (stream_reading folder granules) names) streams (λ streams. in_order (granule_reading column streams) (enumerate_from 0 granules)) streams_are
    ∙ order_all (granule_reading column streams) (enumerate_from 0 granules) (map (column_values i) (granule_rows granules rows)) granules_are
