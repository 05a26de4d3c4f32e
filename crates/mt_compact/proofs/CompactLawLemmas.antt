-- A Compact part is read exactly where its files are of the layout.
use Rattle.std.proofs.Common.{◌≡◌, ℕ, zero, suc, ◌+◌, ◌*◌, ◌<◌, ◌≤◌, Bool, true, List, [], ◌∷◌, ◌++◌, length, map, drop, get_or, refl, ap, sym, ◌∙◌, subst, arith, append-nil, get_or-append-add}
use Rattle.std.specs.Prelude.{All, Ok, ◌↔◌, ◌==◌}
use Rattle.std.specs.List.{concat, enumerate_from, list_all, sum}
use Rattle.std.proofs.lemmas.Bool.{eqb-true, eq-eqb}
use Rattle.std.proofs.lemmas.List.{get_or-map, get_or_default, length-map, length-take-le, length-drop}
use Rattle.std.proofs.lemmas.List.FromFn.{get_or-enumerate_from, get_or-map-range_with_len, length-enumerate_from}
use lib.ListN.{get_or-append}
use Rattle.mt_facts.proofs.Numbers.{sum_cons}
use Rattle.mt_types.specs.declared.value.Value.{Value}
use Rattle.mt_types.specs.Fits.{fits_of}
use Rattle.mt_types.specs.Profile.{is_profile}
use Rattle.mt_types.proofs.StepLemmas.{ok_pair, ok_one, ok_then, passed, required, then_of}
use Rattle.mt_fault.specs.declared.fault.Why.TheVariants as why
use Rattle.mt_table.specs.Rows.{Pointwise, RowFits}
use Rattle.mt_table.specs.declared.column.Column.{Column}
use Rattle.mt_table.specs.declared.limits.TheConstants.{MAX_COLUMNS, MAX_ROWS}
use Rattle.mt_table.proofs.PointwiseLemmas.{Pointwise-get_or, Pointwise-length}
use Rattle.mt_defs.specs.Compact.{EncodesColumns, compact_data_name, compact_marks_name}
use Rattle.mt_defs.specs.Encoding.{Encodes}
use Rattle.mt_defs.specs.Folder.{Folder}
use Rattle.mt_defs.specs.Granules.{granule_rows}
use Rattle.mt_defs.specs.Lists.{AreBytes}
use Rattle.mt_defs.specs.Metadata.{no_column}
use Rattle.mt_defs.specs.Rows.{Row, column_values}
use Rattle.mt_codec.specs.ColumnReading.{front_reading, is_empty}
use Rattle.mt_codec.proofs.TypeLemmas.{encoded_front, front_encodes}
use Rattle.mt_item.proofs.ExactLemmas.{small_of}
use Rattle.mt_granules.specs.ColumnRows.{all_values, row_at, rows_of}
use Rattle.mt_fault.specs.Faults.{Judged, blame, file_fault, granule_fault}
use Rattle.mt_granules.specs.FileFaults.{in_order}
use Rattle.mt_granules.specs.PayloadReading.{GranulePayloads, granules_reading, payloads_reading}
use Rattle.mt_granules.proofs.CutLemmas.{AreRuns, flat, length-flat}
use Rattle.mt_granules.proofs.IndexLemmas.{column_of_rows, cut_joined, first_cut, list_all_more, pointwise_of, rows_of_columns}
use Rattle.mt_granules.proofs.OrderLemmas.{order_all, order_each}
use Rattle.mt_granules.proofs.PayloadsHeldLemmas.{AreHeld, HoldsPayloads, payloads_held}
use Rattle.mt_granules.proofs.PayloadsReadLemmas.{payloads_read}
use Rattle.mt_granules.proofs.RowLemmas.{length-all_values, length-rows_of}
use Rattle.mt_fault.proofs.FaultLemmas.{blame_ok}
use Rattle.mt_granules.proofs.LayoutLemmas.{AreProfile, row_fits}
use Rattle.mt_defs.proofs.GranuleLemmas.{length-granule_rows}
use Rattle.mt_compact.specs.CompactReading.{compact_column_reading, compact_reading, compact_granule_reading, compact_payload_reading, compact_rows_reading, compact_value_fault}
use Rattle.mt_compact.specs.HeldRows.{HoldsRows}

-- ---- places of numbered things and of runs

number_at : {X : Type 0} (xs : List X) (d : X) (k : ℕ) (p : ℕ × X) → k < length xs → get_or (enumerate_from 0 xs) k p ≡ (k, get_or xs k d)
number_at {X} xs d k p h =
    get_or_default (enumerate_from 0 xs) k p (0, d) (omega (arith, h, length-enumerate_from 0 xs)) ∙ get_or-enumerate_from 0 xs k (0, d) h
    ∙ ap (λ (n : ℕ). let q : ℕ × X = (n, get_or xs k d) in q) (let z : 0 + k ≡ k = omega arith in z)

numbered_pointwise : {X B : Type 0} (R : ℕ × X → B → Type 0) (xs : List X) (ys : List B) (d : X) (b : B) → length xs ≡ length ys → ((k : ℕ) → k < length xs → R (k, get_or xs k d) (get_or ys k b)) → Pointwise R (enumerate_from 0 xs) ys
numbered_pointwise {X} {B} R xs ys d b long f =
    pointwise_of R (enumerate_from 0 xs) ys (length-enumerate_from 0 xs ∙ long) (λ k p q h.
    let within : k < length xs = omega (arith, h, length-enumerate_from 0 xs) in
    subst (λ (x : ℕ × X). R x (get_or ys k q)) (sym (number_at xs d k p within))
    (subst (λ (y : B). R (k, get_or xs k d) y) (get_or_default ys k b q (omega (arith, within, long))) (f k within)))

numbered_at : {X B : Type 0} (R : ℕ × X → B → Type 0) (xs : List X) (ys : List B) (d : X) (b : B) (k : ℕ) → Pointwise R (enumerate_from 0 xs) ys → k < length xs → R (k, get_or xs k d) (get_or ys k b)
numbered_at {X} {B} R xs ys d b k p h =
    subst (λ (x : ℕ × X). R x (get_or ys k b)) (number_at xs d k (0, d) h) (Pointwise-get_or R (enumerate_from 0 xs) ys k (0, d) b p (omega (arith, h, length-enumerate_from 0 xs)))

flat_at : {X : Type 0} (per : ℕ) (grouped : List (List X)) (g i : ℕ) (d : X) → AreRuns per grouped → i < per → g < length grouped → get_or (flat grouped) (g * per + i) d ≡ get_or (get_or grouped g []) i d
flat_at per [] g i d are h within = absurd (omega (arith, within))
flat_at per (run ∷ more) zero i d are h within =
    ap (λ (n : ℕ). get_or (run ++ flat more) n d) (let z : 0 * per + i ≡ i = omega arith in z) ∙ get_or-append run (flat more) d i (omega (arith, h, are.0))
flat_at per (run ∷ more) (suc g) i d are h within =
    ap (λ (n : ℕ). get_or (run ++ flat more) n d) (let z : suc g * per + i ≡ length run + (g * per + i) = omega (arith, are.0) in z)
    ∙ get_or-append-add run (flat more) (g * per + i) d ∙ flat_at per more g i d are.1 h (omega (arith, within))

place_below : (per g n i : ℕ) → g < n → i < per → g * per + i < n * per
place_below per g zero i h within = absurd (omega (arith, h))
place_below per zero (suc n) i h within = omega (arith, within)
place_below per (suc g) (suc n) i h within = omega (arith, place_below per g n i (omega (arith, h)) within)

granule_values : (i : ℕ) (granules : List ℕ) (values : List (List Value)) (rows : List Row) (g : ℕ) → Pointwise (λ count vs. length vs ≡ count) granules values → column_values i rows ≡ all_values values → g < length granules
    → column_values i (get_or (granule_rows granules rows) g []) ≡ get_or values g []
granule_values i [] values rows g p e h = absurd (omega (arith, h))
granule_values i (count ∷ granules) [] rows g p e h = absurd p
granule_values i (count ∷ granules) (v ∷ values) rows zero p e h = (first_cut i count rows v values p.0 e).0
granule_values i (count ∷ granules) (v ∷ values) rows (suc g) p e h = granule_values i granules values (drop count rows) g p.1 (first_cut i count rows v values p.0 e).1 (omega (arith, h))

granule_long : (granules : List ℕ) (rows : List Row) (g : ℕ) → sum granules ≡ length rows → g < length granules → length (get_or (granule_rows granules rows) g []) ≡ get_or granules g 0
granule_long [] rows g all h = absurd (omega (arith, h))
granule_long (count ∷ granules) rows zero all h = length-take-le count rows (omega (arith, all, sum_cons count granules))
granule_long (count ∷ granules) rows (suc g) all h = granule_long granules (drop count rows) g (omega (arith, all, sum_cons count granules, length-drop count rows)) (omega (arith, h))

all_fit : (p : Value → Bool) (values : List (List Value)) → ((g : ℕ) → g < length values → list_all p (get_or values g []) ≡ true) → list_all p (all_values values) ≡ true
all_fit p [] f = refl
all_fit p (v ∷ values) f = list_all_more p v (all_values values) (f 0 (omega arith)) (all_fit p values (λ g h. f (suc g) (omega (arith, h))))

lengths_are : (granules : List ℕ) (values : List (List Value)) → Pointwise (λ count vs. length vs ≡ count) granules values → map (λ (h : List Value). length h) values ≡ granules
lengths_are [] [] p = refl
lengths_are [] (v ∷ values) p = absurd p
lengths_are (count ∷ granules) [] p = absurd p
lengths_are (count ∷ granules) (v ∷ values) p = ap (λ (n : ℕ). n ∷ map (λ (h : List Value). length h) values) p.0 ∙ ap (λ (l : List ℕ). count ∷ l) (lengths_are granules values p.1)

-- ---- a column's values in a granule

-- the payload is substreams, one after another, which encode these values, so many
record IsPayload (column : Column) (count : ℕ) (payload : List ℕ) (values : List Value) : Type 0 where
  pub many : length values ≡ count
  pub streams : List (List ℕ)
  pub encodes : Encodes column.ty values streams
  pub joined : payload ≡ concat streams

none_left : (bytes : List ℕ) → is_empty bytes ≡ true → bytes ≡ []
none_left [] e = refl
none_left (byte ∷ bytes) e = cc

payload_held : (column : Column) (g count : ℕ) (payload : List ℕ) (values : List Value) → is_profile column.ty ≡ true → AreBytes payload → compact_payload_reading column g count payload ≡ Ok values → IsPayload column count payload values
payload_held column g count payload values profile bytes e =
    ok_then (blame (compact_value_fault g) (front_reading column.ty count payload)) _ values e (λ read is e.
    required (is_empty read.1) (granule_fault compact_data_name g why.Over) (λ _. Ok read.0) values e (λ empty e.
    let (streams, all, many, encodes) = front_encodes column.ty profile count payload read.0 read.1 (small_of payload bytes) (blame_ok (compact_value_fault g) (front_reading column.ty count payload) read is) in
    let same : values ≡ read.0 = ok_one _ _ e in
    record {
      many = ap (λ (l : List Value). length l) same ∙ many;
      streams = streams;
      encodes = subst (λ (vs : List Value). Encodes column.ty vs streams) (sym same) encodes;
      joined = all ∙ ap (λ (rest : List ℕ). concat streams ++ rest) (none_left read.1 empty) ∙ append-nil (concat streams);
    }))

payload_read : (column : Column) (g count : ℕ) (payload : List ℕ) (values : List Value) → is_profile column.ty ≡ true → IsPayload column count payload values → compact_payload_reading column g count payload ≡ Ok values
payload_read column g count payload values profile is =
    let front : front_reading column.ty count payload ≡ Ok (values, []) = encoded_front column.ty profile count payload values is.streams [] is.many is.encodes (is.joined ∙ sym (append-nil (concat is.streams))) in
    then_of (blame (compact_value_fault g) (front_reading column.ty count payload)) (values, []) _ (ap (blame (compact_value_fault g)) front)

-- ---- a column

record ColumnIsHeld (grouped : List (List (List ℕ))) (granules : List ℕ) (k : ℕ) (column : Column) (values : List (List Value)) : Type 0 where
  pub long : Pointwise (λ count vs. length vs ≡ count) granules values
  pub fit : list_all (fits_of column.ty) (all_values values) ≡ true
  pub each : (g : ℕ) → g < length granules → IsPayload column (get_or granules g 0) (get_or (get_or grouped g []) k []) (get_or values g [])

module _ (width : ℕ) (grouped : List (List (List ℕ))) (granules : List ℕ) (runs : AreRuns width grouped) (many : length grouped ≡ length granules) where
  column_held : (read : GranulePayloads) (k : ℕ) (column : Column) (values : List (List Value)) → read.payloads ≡ flat grouped → read.granules ≡ granules → All AreBytes (flat grouped) → k < width → is_profile column.ty ≡ true
      → compact_column_reading width read (k, column) ≡ Ok values → ColumnIsHeld grouped granules k column values
  column_held read k column values payloads_are granules_are bytes h profile e =
      let step = compact_granule_reading column k width (flat grouped) in
      let all : in_order step (enumerate_from 0 granules) ≡ Ok values =
      ap (λ (ps : List (List ℕ)). in_order (compact_granule_reading column k width ps) (enumerate_from 0 granules)) (sym payloads_are)
      ∙ ap (λ (ns : List ℕ). in_order (compact_granule_reading column k width read.payloads) (enumerate_from 0 ns)) (sym granules_are) ∙ e in
      let are = order_each step (enumerate_from 0 granules) values all in
      let count : length granules ≡ length values = sym (length-enumerate_from 0 granules) ∙ Pointwise-length _ (enumerate_from 0 granules) values are in
      let within : (g : ℕ) → g < length granules → g * width + k < length (flat grouped) = λ g below. place_within g below h in
      let each : (g : ℕ) → g < length granules → IsPayload column (get_or granules g 0) (get_or (get_or grouped g []) k []) (get_or values g []) = λ g below.
      let here = flat_at width grouped g k [] runs h (omega (arith, below, many)) in
      payload_held column g (get_or granules g 0) (get_or (get_or grouped g []) k []) (get_or values g []) profile
      (subst AreBytes here (bytes (g * width + k) [] (within g below)))
      (ap (λ (payload : List ℕ). compact_payload_reading column g (get_or granules g 0) payload) (sym here) ∙ numbered_at (λ p vs. step p ≡ Ok vs) granules values 0 [] g are below) in
      record {
        long = pointwise_of _ granules values count (λ g a b below.
            ap (λ (vs : List Value). length vs) (get_or_default values g b [] (omega (arith, below, count))) ∙ (each g below).many ∙ get_or_default granules g 0 a below);
        fit = all_fit (fits_of column.ty) values (λ g below. (each g (omega (arith, below, count))).encodes.fit);
        each = each;
      }
    where
      place_within : (g : ℕ) → g < length granules → k < width → g * width + k < length (flat grouped)
      place_within g below h = subst (λ (n : ℕ). g * width + k < n) (sym (length-flat width grouped runs ∙ ap (λ (n : ℕ). n * width) many)) (place_below width g (length granules) k below h)

  column_read : (k : ℕ) (column : Column) (rows : List Row) → k < width → is_profile column.ty ≡ true → sum granules ≡ length rows
      → ((g : ℕ) → g < length granules → IsPayload column (get_or granules g 0) (get_or (get_or grouped g []) k []) (column_values k (get_or (granule_rows granules rows) g [])))
      → compact_column_reading width (record { payloads = flat grouped; granules = granules }) (k, column) ≡ Ok (map (column_values k) (granule_rows granules rows))
  column_read k column rows h profile all each =
      let step = compact_granule_reading column k width (flat grouped) in
      let values = map (column_values k) (granule_rows granules rows) in
      let count : length granules ≡ length values = sym (length-map (granule_rows granules rows) (column_values k) ∙ length-granule_rows granules rows) in
      order_all step (enumerate_from 0 granules) values (numbered_pointwise (λ p vs. step p ≡ Ok vs) granules values 0 [] count (λ g below.
      let here = flat_at width grouped g k [] runs h (omega (arith, below, many)) in
      ap (λ (payload : List ℕ). compact_payload_reading column g (get_or granules g 0) payload) here
      ∙ payload_read column g (get_or granules g 0) (get_or (get_or grouped g []) k []) (column_values k (get_or (granule_rows granules rows) g [])) profile (each g below)
      ∙ ap (λ (vs : List Value). let r : Judged (List Value) = Ok vs in r) (sym (get_or-map (column_values k) (granule_rows granules rows) g [] [] (omega (arith, below, length-granule_rows granules rows))))))

-- ---- rows that are read are held

rows_held : (folder : Folder) (count : ℕ) (columns : List Column) (rows : List Row) (read : GranulePayloads) → AreProfile columns → AreHeld folder compact_data_name compact_marks_name (length columns) read → sum read.granules ≡ count
    → compact_rows_reading read count columns ≡ Ok rows → HoldsRows columns rows read.granules count folder
rows_held folder count columns rows read profile held all e =
    let width = length columns in
    let known = read.granules in
    let step = compact_column_reading width read in
    ok_then (in_order step (enumerate_from 0 columns)) (λ values. Ok (rows_of count (map all_values values))) rows e (λ values are e.
    let cols = map all_values values in
    let rows_are : rows ≡ rows_of count cols = ok_one _ _ e in
    let columns_are = order_each step (enumerate_from 0 columns) values are in
    let wide : width ≡ length values = sym (length-enumerate_from 0 columns) ∙ Pointwise-length _ (enumerate_from 0 columns) values columns_are in
    let bytes : All AreBytes (flat held.grouped) = subst (All AreBytes) held.payloads_are held.bytes in
    let column_is : (k : ℕ) → k < width → ColumnIsHeld held.grouped known k (get_or columns k no_column) (get_or values k []) = λ k h.
    column_held width held.grouped known held.are held.many read k (get_or columns k no_column) (get_or values k []) held.payloads_are refl bytes h (profile k no_column h)
    (numbered_at (λ p vs. step p ≡ Ok vs) columns values no_column [] k columns_are h) in
    let long : (k : ℕ) → k < width → length (all_values (get_or values k [])) ≡ count = λ k h. length-all_values (get_or values k []) ∙ ap sum (lengths_are known (get_or values k []) (column_is k h).long) ∙ all in
    let many : length rows ≡ count = ap (λ (l : List Row). length l) rows_are ∙ length-rows_of count cols in
    let column_at : (k : ℕ) → k < width → get_or cols k [] ≡ all_values (get_or values k []) = λ k h. get_or-map all_values values k [] [] (omega (arith, h, wide)) in
    let cols_wide : length cols ≡ length values = length-map values all_values in
    let values_are : (k : ℕ) → k < width → column_values k rows ≡ all_values (get_or values k []) = λ k h.
    ap (column_values k) rows_are ∙ column_of_rows count k cols (omega (arith, h, wide, cols_wide)) (ap (λ (vs : List Value). length vs) (column_at k h) ∙ long k h) ∙ column_at k h in
    let granules_many : length (granule_rows known rows) ≡ length known = length-granule_rows known rows in
    record {
      many = many;
      fit = subst (All (RowFits columns)) (sym rows_are) (λ r d h.
          let within : r < count = omega (arith, h, length-rows_of count cols) in
          subst (RowFits columns) (sym (get_or-map-range_with_len (row_at cols) 0 count r r d within (omega arith)))
          (row_fits columns cols r (pointwise_of _ columns cols (omega (arith, wide, cols_wide)) (λ k a b h.
          let same = ap (λ (c : Column). fits_of c.ty) (get_or_default columns k no_column a h) in
          let here : get_or cols k b ≡ all_values (get_or values k []) = get_or_default cols k b [] (omega (arith, h, wide, cols_wide)) ∙ column_at k h in (
            subst (λ (vs : List Value). list_all (fits_of (get_or columns k a).ty) vs ≡ true) (sym here) (subst (λ (p : Value → Bool). list_all p (all_values (get_or values k [])) ≡ true) same (column_is k h).fit),
            omega (arith, within, long k h, ap (λ (vs : List Value). length vs) here),
          )))));
      layout = record {
        cut = record { not_empty = held.some; all = all ∙ sym many };
        payloads = held.grouped;
        encoded = pointwise_of (EncodesColumns columns) (granule_rows known rows) held.grouped (granules_many ∙ sym held.many) (λ g a b h.
            let below : g < length known = omega (arith, h, granules_many) in
            subst (λ (rs : List Row). EncodesColumns columns rs (get_or held.grouped g b)) (get_or_default (granule_rows known rows) g [] a h)
            (subst (λ (run : List (List ℕ)). EncodesColumns columns (get_or (granule_rows known rows) g []) run) (get_or_default held.grouped g [] b (omega (arith, below, held.many)))
            (numbered_pointwise (λ (p : ℕ × Column) payload. (streams : List (List ℕ)) × Encodes p.1.ty (column_values p.0 (get_or (granule_rows known rows) g [])) streams × (payload ≡ concat streams)) columns (get_or held.grouped g []) no_column []
            (sym (run_long width held.grouped g held.are (omega (arith, below, held.many)))) (λ k h.
            let is = (column_is k h).each g below in (
              is.streams,
              subst (λ (vs : List Value). Encodes (get_or columns k no_column).ty vs is.streams) (sym (granule_values k known (get_or values k []) rows g (column_is k h).long (values_are k h) below)) is.encodes,
              is.joined,
            )))));
        data_file = held.holds.data_file;
        marks_file = held.holds.marks_file;
        has_data = held.holds.has_data;
        has_marks = held.holds.has_marks;
        framed = held.holds.framed;
        marks = held.holds.marks;
      };
    })
  where
    run_long : (per : ℕ) (grouped : List (List (List ℕ))) (g : ℕ) → AreRuns per grouped → g < length grouped → length (get_or grouped g []) ≡ per
    run_long per [] g are h = absurd (omega (arith, h))
    run_long per (run ∷ more) zero are h = are.0
    run_long per (run ∷ more) (suc g) are h = run_long per more g are.1 (omega (arith, h))

pub compact_held : (folder : Folder) (count : ℕ) (columns : List Column) (rows : List Row) (granules : List ℕ) → AreProfile columns → 1 ≤ length columns → compact_reading folder count columns ≡ Ok (rows, granules)
    → HoldsRows columns rows granules count folder
compact_held folder count columns rows granules profile some e =
    ok_then (granules_reading folder count compact_data_name compact_marks_name (length columns)) _ (rows, granules) e (λ read is e.
    ok_then (payloads_reading folder compact_data_name compact_marks_name (length columns)) _ read is (λ found found_is is.
    required (sum found.granules == count) (file_fault compact_marks_name why.Rows) (λ _. Ok found) read is (λ all is.
    let same : read ≡ found = ok_one _ _ is in
    let held = subst (AreHeld folder compact_data_name compact_marks_name (length columns)) (sym same) (payloads_held folder compact_data_name compact_marks_name (length columns) found some found_is) in
    let sums : sum read.granules ≡ count = ap (λ (r : GranulePayloads). sum r.granules) same ∙ eqb-true (sum found.granules) count all in
    ok_then (compact_rows_reading read count columns) _ (rows, granules) e (λ list list_is e.
    let pair = ok_pair _ _ _ _ e in
    subst (λ (g : List ℕ). HoldsRows columns rows g count folder) (sym pair.1)
    (subst (λ (l : List Row). HoldsRows columns l read.granules count folder) (sym pair.0) (rows_held folder count columns list read profile held sums list_is))))))

-- ---- rows that are held are read

runs_encoded : (columns : List Column) (cut : List (List Row)) (grouped : List (List (List ℕ))) → Pointwise (EncodesColumns columns) cut grouped → AreRuns (length columns) grouped
runs_encoded columns [] [] p = tt
runs_encoded columns [] (run ∷ more) p = absurd p
runs_encoded columns (rows ∷ cut) [] p = absurd p
runs_encoded columns (rows ∷ cut) (run ∷ more) p = (sym (Pointwise-length _ (enumerate_from 0 columns) run p.0) ∙ length-enumerate_from 0 columns, runs_encoded columns cut more p.1)

pub compact_read : (folder : Folder) (count : ℕ) (columns : List Column) (rows : List Row) (granules : List ℕ) → AreProfile columns → 1 ≤ length columns → length columns ≤ MAX_COLUMNS → 1 ≤ count → count ≤ MAX_ROWS
    → HoldsRows columns rows granules count folder → compact_reading folder count columns ≡ Ok (rows, granules)
compact_read folder count columns rows granules profile some narrow any few holds =
    let is = holds.layout in
    let width = length columns in
    let grouped = is.payloads in
    let all : sum granules ≡ count = is.cut.all ∙ holds.many in
    let runs : AreRuns width grouped = runs_encoded columns (granule_rows granules rows) grouped is.encoded in
    let rows_many : length (granule_rows granules rows) ≡ length granules = length-granule_rows granules rows in
    let many : length grouped ≡ length granules = sym (Pointwise-length _ (granule_rows granules rows) grouped is.encoded) ∙ rows_many in
    let payloads : HoldsPayloads folder compact_data_name compact_marks_name width grouped granules = record {
      data_file = is.data_file;
      marks_file = is.marks_file;
      has_data = is.has_data;
      has_marks = is.has_marks;
      framed = is.framed;
      marks = is.marks;
    } in
    let read : GranulePayloads = record { payloads = flat grouped; granules = granules } in
    let first : granules_reading folder count compact_data_name compact_marks_name width ≡ Ok read =
    then_of (payloads_reading folder compact_data_name compact_marks_name width) read _
    (payloads_read folder compact_data_name compact_marks_name width grouped granules some (omega (arith, narrow)) runs many payloads (not_none granules (omega (arith, all, any))) is.cut.not_empty (omega (arith, all, few)))
    ∙ passed (sum granules == count) (file_fault compact_marks_name why.Rows) _ (eq-eqb (sum granules) count all) in
    let numbered = enumerate_from 0 columns in
    let values : List (List (List Value)) = map (λ (i, column). map (column_values i) (granule_rows granules rows)) numbered in
    let long : length numbered ≡ length columns = length-enumerate_from 0 columns in
    let columns_are : in_order (compact_column_reading width read) numbered ≡ Ok values =
    order_all (compact_column_reading width read) numbered values (numbered_pointwise (λ (p : ℕ × Column) vs. compact_column_reading width read p ≡ Ok vs) columns values no_column [] (sym (length-map numbered _ ∙ long)) (λ k h.
    column_read width grouped granules runs many k (get_or columns k no_column) rows h (profile k no_column h) is.cut.all (λ g below.
    let here = numbered_at (λ (p : ℕ × Column) payload. (streams : List (List ℕ)) × Encodes p.1.ty (column_values p.0 (get_or (granule_rows granules rows) g [])) streams × (payload ≡ concat streams)) columns (get_or grouped g []) no_column [] k
    (Pointwise-get_or (EncodesColumns columns) (granule_rows granules rows) grouped g [] [] is.encoded (omega (arith, below, rows_many))) h in
    record {
      many = length-map (get_or (granule_rows granules rows) g []) _ ∙ granule_long granules rows g is.cut.all below;
      streams = here.0;
      encodes = here.1;
      joined = here.2;
    })
    ∙ ap (λ (vs : List (List Value)). let r : Judged (List (List Value)) = Ok vs in r)
    (sym (get_or-map (λ (p : ℕ × Column). map (column_values p.0) (granule_rows granules rows)) numbered k (0, no_column) [] (omega (arith, h, long)) ∙ ap (λ (p : ℕ × Column). map (column_values p.0) (granule_rows granules rows)) (number_at columns no_column k (0, no_column) h))))) in
    let cols_are : map all_values values ≡ map (λ (i, column). column_values i rows) numbered = each_joined numbered is.cut.all in
    let rows_are : compact_rows_reading read count columns ≡ Ok rows =
    then_of (in_order (compact_column_reading width read) numbered) values (λ values. Ok (rows_of count (map all_values values))) columns_are
    ∙ ap (λ (cols : List (List Value)). let r : Judged (List Row) = Ok (rows_of count cols) in r) cols_are
    ∙ ap (λ (l : List Row). let r : Judged (List Row) = Ok l in r) (rows_of_columns columns rows count holds.many holds.fit) in
    then_of (granules_reading folder count compact_data_name compact_marks_name width) read _ first ∙ then_of (compact_rows_reading read count columns) rows _ rows_are
  where
    not_none : (ns : List ℕ) → 1 ≤ sum ns → 1 ≤ length ns
    not_none [] h = absurd (omega arith)
    not_none (n ∷ ns) h = omega arith

    each_joined : (numbered : List (ℕ × Column)) → sum granules ≡ length rows → map all_values (map (λ (i, column). map (column_values i) (granule_rows granules rows)) numbered) ≡ map (λ (i, column). column_values i rows) numbered
    each_joined [] e = refl
    each_joined ((i, c) ∷ numbered) e =
        ap (λ (v : List Value). v ∷ map all_values (map (λ (i, column). map (column_values i) (granule_rows granules rows)) numbered)) (cut_joined i granules rows e)
        ∙ ap (λ (l : List (List Value)). column_values i rows ∷ l) (each_joined numbered e)

-- ---- both

pub compact_exactly : (folder : Folder) (count : ℕ) (columns : List Column) (rows : List Row) (granules : List ℕ) → AreProfile columns → 1 ≤ length columns → length columns ≤ MAX_COLUMNS → 1 ≤ count → count ≤ MAX_ROWS
    → (compact_reading folder count columns ≡ Ok (rows, granules)) ↔ HoldsRows columns rows granules count folder
compact_exactly folder count columns rows granules profile some narrow any few =
    (compact_held folder count columns rows granules profile some, compact_read folder count columns rows granules profile some narrow any few)

pub one_list : (folder : Folder) (count : ℕ) (columns : List Column) (rows others : List Row) (granules marked : List ℕ) → AreProfile columns → 1 ≤ length columns → length columns ≤ MAX_COLUMNS → 1 ≤ count → count ≤ MAX_ROWS
    → HoldsRows columns rows granules count folder → HoldsRows columns others marked count folder → (rows ≡ others) × (granules ≡ marked)
one_list folder count columns rows others granules marked profile some narrow any few one other =
    let pair = ok_pair rows others granules marked (sym (compact_read folder count columns rows granules profile some narrow any few one) ∙ compact_read folder count columns others marked profile some narrow any few other) in
    (sym pair.0, sym pair.1)
