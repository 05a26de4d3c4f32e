-- A Wide part is read exactly where its files are of the layout.
use Rattle.std.proofs.Common.{◌≡◌, ℕ, ◌+◌, ◌<◌, ◌≤◌, Bool, true, List, [], ◌∷◌, length, map, get_or, refl, ap, sym, ◌∙◌, subst, arith}
use Rattle.std.specs.Prelude.{All, Ok, ◌↔◌, ◌==◌}
use Rattle.std.specs.List.{enumerate_from, list_all, sum}
use Rattle.std.proofs.lemmas.Bool.{eqb-true, eq-eqb}
use Rattle.std.proofs.lemmas.List.{get_or-map, get_or_default, length-map}
use Rattle.std.proofs.lemmas.List.FromFn.{get_or-enumerate_from, get_or-map-range_with_len, length-enumerate_from}
use Rattle.mt_types.specs.declared.value.Value.{Value}
use Rattle.mt_types.specs.Fits.{fits_of}
use Rattle.mt_types.proofs.StepLemmas.{ok_pair, ok_one, ok_then, passed, required, then_of}
use Rattle.mt_fault.specs.declared.fault.Why.TheVariants as why
use Rattle.mt_table.specs.Rows.{RowFits}
use Rattle.mt_table.specs.declared.column.Column.{Column}
use Rattle.mt_table.specs.declared.limits.TheConstants.{MAX_ROWS}
use Rattle.mt_table.proofs.PointwiseLemmas.{Pointwise-get_or, Pointwise-length}
use Rattle.mt_defs.specs.FileNames.{stream_names, data_name, marks_name}
use Rattle.mt_defs.specs.Folder.{Folder}
use Rattle.mt_defs.specs.Granules.{granule_rows}
use Rattle.mt_defs.specs.Metadata.{no_column}
use Rattle.mt_defs.specs.Rows.{Row, column_values}
use Rattle.mt_defs.specs.Wide.{HasColumn, HasStream, IsWide, stream_payloads}
use Rattle.mt_granules.specs.ColumnRows.{all_values, row_at, rows_of}
use Rattle.mt_fault.specs.Faults.{Judged, file_fault}
use Rattle.mt_defs.proofs.GranuleLemmas.{length-granule_rows}
use Rattle.mt_granules.specs.FileFaults.{in_order}
use Rattle.mt_granules.specs.PayloadReading.{GranulePayloads, granules_reading, payloads_reading}
use Rattle.mt_granules.proofs.IndexLemmas.{column_of_rows, cut_joined, numbered_all, numbered_each, pointwise_of, rows_of_columns}
use Rattle.mt_granules.proofs.OrderLemmas.{order_all, order_each}
use Rattle.mt_granules.proofs.PayloadsHeldLemmas.{payloads_held}
use Rattle.mt_granules.proofs.RowLemmas.{length-all_values, length-rows_of}
use Rattle.mt_granules.proofs.LayoutLemmas.{AreProfile, row_fits}
use Rattle.mt_wide.specs.HeldRows.{HoldsRows}
use Rattle.mt_wide.specs.WideReading.{column_reading, first_stream, wide_rows_reading, wide_granules, wide_reading}
use Rattle.mt_wide.proofs.CountLemmas.{names_count}
use Rattle.mt_wide.proofs.EncodedCountLemmas.{streams_some}
use Rattle.mt_wide.proofs.ColumnLawLemmas.{ColumnIsHeld, column_held, column_is_read}
use Rattle.mt_wide.proofs.StreamLawLemmas.{AreHeldGranules, first_read}

-- ---- the granules

granules_held : (folder : Folder) (count : ℕ) (columns : List Column) (granules : List ℕ) → wide_granules folder count columns ≡ Ok granules → AreHeldGranules granules × (sum granules ≡ count)
granules_held folder count columns granules e =
    let name = first_stream columns in
    ok_then (granules_reading folder count (data_name name) (marks_name name) 1) (λ read. Ok read.granules) granules e (λ read is e.
    ok_then (payloads_reading folder (data_name name) (marks_name name) 1) _ read is (λ found found_is is.
    required (sum found.granules == count) (file_fault (marks_name name) why.Rows) (λ _. Ok found) read is (λ all is.
    let held = payloads_held folder (data_name name) (marks_name name) 1 found (omega arith) found_is in
    let same : granules ≡ found.granules = ok_one _ _ e ∙ ap (λ (r : GranulePayloads). r.granules) (ok_one _ _ is) in (
      subst AreHeldGranules (sym same) (record { some = held.some; small = held.small; not_empty = held.not_empty }),
      ap sum same ∙ eqb-true (sum found.granules) count all,
    ))))

-- ---- rows that are read are held

pub wide_held : (folder : Folder) (count : ℕ) (columns : List Column) (rows : List Row) (granules : List ℕ) → AreProfile columns → wide_reading folder count columns ≡ Ok (rows, granules) → HoldsRows columns rows granules count folder
wide_held folder count columns rows granules profile e =
    ok_then (wide_granules folder count columns) _ (rows, granules) e (λ known known_is e.
    ok_then (wide_rows_reading folder known count columns) _ (rows, granules) e (λ read read_is e.
    ok_then (in_order (column_reading folder known) columns) (λ values. Ok (rows_of count (map all_values values))) read read_is (λ values are read_is.
    let pair = ok_pair _ _ _ _ e in
    let held_granules = granules_held folder count columns known known_is in
    let cols = map all_values values in
    let rows_are : rows ≡ rows_of count cols = pair.0 ∙ ok_one _ _ read_is in
    let step = column_reading folder known in
    let columns_are = order_each step columns values are in
    let wide : length columns ≡ length values = Pointwise-length _ columns values columns_are in
    let held : (k : ℕ) → k < length columns → ColumnIsHeld folder known (get_or columns k no_column) (get_or values k []) = λ k h.
    column_held folder known (get_or columns k no_column) (get_or values k []) (profile k no_column h) (Pointwise-get_or _ columns values k no_column [] columns_are h) in
    let long : (k : ℕ) → k < length columns → length (all_values (get_or values k [])) ≡ count = λ k h. length-all_values (get_or values k []) ∙ ap sum (held k h).each ∙ held_granules.1 in
    let many : length rows ≡ count = ap (λ (l : List Row). length l) rows_are ∙ length-rows_of count cols in
    let column_at : (k : ℕ) → k < length columns → get_or cols k [] ≡ all_values (get_or values k []) = λ k h. get_or-map all_values values k [] [] (omega (arith, h, wide)) in
    let cols_wide : length cols ≡ length values = length-map values all_values in
    record {
      many = many;
      fit = subst (All (RowFits columns)) (sym rows_are) (λ r d h.
          let within : r < count = omega (arith, h, length-rows_of count cols) in
          subst (RowFits columns) (sym (get_or-map-range_with_len (row_at cols) 0 count r r d within (omega arith)))
          (row_fits columns cols r (pointwise_of _ columns cols (omega (arith, wide, cols_wide)) (λ k a b h.
          let same = ap (λ (c : Column). fits_of c.ty) (get_or_default columns k no_column a h) in
          let here : get_or cols k b ≡ all_values (get_or values k []) = get_or_default cols k b [] (omega (arith, h, wide, cols_wide)) ∙ column_at k h in (
            subst (λ (vs : List Value). list_all (fits_of (get_or columns k a).ty) vs ≡ true) (sym here) (subst (λ (p : Value → Bool). list_all p (all_values (get_or values k [])) ≡ true) same (held k h).fit),
            omega (arith, within, long k h, ap (λ (vs : List Value). length vs) here),
          )))));
      layout = record {
        cut = record {
          not_empty = subst (All (λ n. 1 ≤ n)) (sym pair.1) held_granules.0.some;
          all = ap sum pair.1 ∙ held_granules.1 ∙ sym many;
        };
        columns_there = numbered_all (λ (p : ℕ × Column). HasColumn p.1 p.0 rows granules folder) columns no_column (λ k h.
            subst (λ (g : List ℕ). HasColumn (get_or columns k no_column) k rows g folder) (sym pair.1)
            ((held k h).has k rows (ap (column_values k) rows_are ∙ column_of_rows count k cols (omega (arith, h, wide, cols_wide)) (ap (λ (vs : List Value). length vs) (column_at k h) ∙ long k h) ∙ column_at k h)));
      };
    })))

-- ---- rows that are held are read

first_has : (columns : List Column) (rows : List Row) (granules : List ℕ) (folder : Folder) → 1 ≤ length columns → IsWide columns rows granules folder → (payloads : List (List ℕ)) × HasStream (first_stream columns) payloads granules folder × (length payloads ≡ length granules)
first_has [] rows granules folder some is = absurd (omega arith)
first_has (c ∷ columns) rows granules folder some is =
    let has = numbered_each (λ (p : ℕ × Column). HasColumn p.1 p.0 rows granules folder) (c ∷ columns) no_column 0 is.columns_there (omega arith) in
    let names = stream_names c in
    let there : 0 < length names = omega (arith, names_count c, streams_some c.ty) in (
      stream_payloads 0 has.granule_streams,
      numbered_each (λ (p : ℕ × List ℕ). HasStream p.1 (stream_payloads p.0 has.granule_streams) granules folder) names [] 0 has.streams there,
      length-map has.granule_streams _ ∙ sym (Pointwise-length _ (granule_rows granules rows) has.granule_streams has.encoded) ∙ length-granule_rows granules rows,
    )

pub wide_read : (folder : Folder) (count : ℕ) (columns : List Column) (rows : List Row) (granules : List ℕ) → AreProfile columns → 1 ≤ length columns → 1 ≤ count → count ≤ MAX_ROWS → HoldsRows columns rows granules count folder
    → wide_reading folder count columns ≡ Ok (rows, granules)
wide_read folder count columns rows granules profile some any few holds =
    let is = holds.layout in
    let all : sum granules ≡ count = is.cut.all ∙ holds.many in
    let are : AreHeldGranules granules = record { some = is.cut.not_empty; small = omega (arith, all, few); not_empty = not_none granules (omega (arith, all, any)) } in
    let name = first_stream columns in
    let (payloads, has, many) = first_has columns rows granules folder some is in
    let first : wide_granules folder count columns ≡ Ok granules =
    then_of (granules_reading folder count (data_name name) (marks_name name) 1) (record { payloads = payloads; granules = granules }) (λ read. Ok read.granules)
    (then_of (payloads_reading folder (data_name name) (marks_name name) 1) (record { payloads = payloads; granules = granules }) _ (first_read folder granules name payloads are many has)
    ∙ passed (sum granules == count) (file_fault (marks_name name) why.Rows) _ (eq-eqb (sum granules) count all)) in
    let numbered = enumerate_from 0 columns in
    let values : List (List (List Value)) = map (λ (i, column). map (column_values i) (granule_rows granules rows)) numbered in
    let long : length numbered ≡ length columns = length-enumerate_from 0 columns in
    let columns_are : in_order (column_reading folder granules) columns ≡ Ok values =
    order_all (column_reading folder granules) columns values (pointwise_of _ columns values (sym (length-map numbered _ ∙ long)) (λ k a b h.
    let here = numbered_each (λ (p : ℕ × Column). HasColumn p.1 p.0 rows granules folder) columns a k is.columns_there h in
    let at : get_or numbered k (0, a) ≡ (k, get_or columns k a) = get_or-enumerate_from 0 columns k (0, a) h ∙ ap (λ n. (n, get_or columns k a)) (let z : 0 + k ≡ k = omega arith in z) in
    column_is_read folder granules (get_or columns k a) k rows are (profile k a h) is.cut.all here
    ∙ ap (λ (vs : List (List Value)). let r : Judged (List (List Value)) = Ok vs in r)
    (sym (get_or-map (λ (p : ℕ × Column). map (column_values p.0) (granule_rows granules rows)) numbered k (0, a) b (omega (arith, h, long)) ∙ ap (λ (p : ℕ × Column). map (column_values p.0) (granule_rows granules rows)) at)))) in
    let cols_are : map all_values values ≡ map (λ (i, column). column_values i rows) numbered = each_joined numbered is.cut.all in
    let rows_are : wide_rows_reading folder granules count columns ≡ Ok rows =
    then_of (in_order (column_reading folder granules) columns) values (λ values. Ok (rows_of count (map all_values values))) columns_are
    ∙ ap (λ (cols : List (List Value)). let r : Judged (List Row) = Ok (rows_of count cols) in r) cols_are
    ∙ ap (λ (l : List Row). let r : Judged (List Row) = Ok l in r) (rows_of_columns columns rows count holds.many holds.fit) in
    then_of (wide_granules folder count columns) granules _ first ∙ then_of (wide_rows_reading folder granules count columns) rows _ rows_are
  where
    not_none : (ns : List ℕ) → 1 ≤ sum ns → 1 ≤ length ns
    not_none [] h = absurd (omega arith)
    not_none (n ∷ ns) h = omega arith

    each_joined : (numbered : List (ℕ × Column)) → sum granules ≡ length rows → map all_values (map (λ (i, column). map (column_values i) (granule_rows granules rows)) numbered) ≡ map (λ (i, column). column_values i rows) numbered
    each_joined [] e = refl
    each_joined ((i, c) ∷ numbered) e =
        ap (λ (v : List Value). v ∷ map all_values (map (λ (i, column). map (column_values i) (granule_rows granules rows)) numbered)) (cut_joined i granules rows e)
        ∙ ap (λ (l : List (List Value)). column_values i rows ∷ l) (each_joined numbered e)

-- ---- both

pub wide_exactly : (folder : Folder) (count : ℕ) (columns : List Column) (rows : List Row) (granules : List ℕ) → AreProfile columns → 1 ≤ length columns → 1 ≤ count → count ≤ MAX_ROWS
    → (wide_reading folder count columns ≡ Ok (rows, granules)) ↔ HoldsRows columns rows granules count folder
wide_exactly folder count columns rows granules profile some any few = (wide_held folder count columns rows granules profile, wide_read folder count columns rows granules profile some any few)

pub one_list : (folder : Folder) (count : ℕ) (columns : List Column) (rows others : List Row) (granules marked : List ℕ) → AreProfile columns → 1 ≤ length columns → 1 ≤ count → count ≤ MAX_ROWS
    → HoldsRows columns rows granules count folder → HoldsRows columns others marked count folder → (rows ≡ others) × (granules ≡ marked)
one_list folder count columns rows others granules marked profile some any few one other =
    let pair = ok_pair rows others granules marked (sym (wide_read folder count columns rows granules profile some any few one) ∙ wide_read folder count columns others marked profile some any few other) in
    (sym pair.0, sym pair.1)
