-- Names that no file of the writer's folder has.
use Rattle.std.proofs.Common.{◌≡◌, ◌≢◌, ℕ, zero, suc, ◌<◌, Bool, true, false, List, [], ◌∷◌, ◌++◌, length, get_or, refl, ap, sym, ◌∙◌, subst, arith, inl, inr, eqb}
use Rattle.std.specs.Prelude.{All, IsTrue, None, ◌==◌, if◌then◌else◌}
use Rattle.std.proofs.lemmas.Bool.{cases_eq}
use Rattle.std.proofs.lemmas.List.{append_cancel_left, get_or_default}
use Rattle.std.proofs.lemmas.List.Elements.{All-nil, All-append, All-weaker}
use Rattle.mt_types.specs.Profile.{is_profile}
use Rattle.mt_fault.specs.declared.file.FileBytes.{FileBytes}
use Rattle.mt_table.specs.declared.column.Column.{Column}
use Rattle.mt_table.specs.declared.definition.Table.{Table}
use Rattle.mt_table.specs.declared.definition.PartDef.{PartDef}
use Rattle.mt_table.specs.declared.settings.Settings.{Settings}
use Rattle.mt_table.specs.declared.projection.Projection.{Projection}
use Rattle.mt_defs.specs.Folder.{folder_of, folder_below}
use Rattle.mt_defs.specs.Rows.{Row}
use Rattle.mt_defs.specs.Compact.{compact_marks_name}
use Rattle.mt_defs.specs.Partition.{partition_name}
use Rattle.mt_defs.specs.Projections.{base_of, inner_of, projection_name, projection_prefix}
use Rattle.mt_defs.specs.WrittenGranules.{written_granules}
use Rattle.mt_defs.specs.WrittenPartition.{partition_files}
use Rattle.mt_defs.specs.Writer.{definition_files, file_below, projection_files, projection_rows}
use Rattle.mt_law_written.proofs.LookupLemmas.{last_of}
use Rattle.mt_law_written.proofs.ListLemmas.{All-to_flat_map, All-mapped}
use Rattle.mt_law_written.proofs.NameLemmas.{is_stem, stem_of, has_slash}
use Rattle.mt_law_written.proofs.ApartLemmas.{EachLater, Labelled, no, yes}
use Rattle.mt_law_written.proofs.DefinitionLemmas.{data_files, listing_files, written_layout}
use Rattle.mt_law_written.proofs.DataNames.{data_end, each_column, ends_as_data, listing_ends}
use Rattle.mt_law_written.proofs.StoredLemmas.{base_own, inner_own}
use Rattle.mt_law_written.proofs.PartitionLemmas.{begins_as_skip, is_listing}
use Rattle.mt_law_written.proofs.ProjectionLemmas.{below_slash, below_stem, files_stem}
use Rattle.mt_law_written.proofs.FolderLemmas.{TableRules, absent, all_files, data_of, index_files, index_label, listing_label, own_data, own_files, own_listing, partition_label, plain_files, stored_files, stored_slash}

-- no file has the name
abbrev pub Absent : List ℕ → List FileBytes → Type 0
Absent name = All (λ file. file.name ≢ name)

absent_label : {L : Type 0} (label : List ℕ → L) (value : L) (name : List ℕ) (files : List FileBytes) → label name ≢ value → Labelled label value files → Absent name files
absent_label label value name files other labelled = All-weaker (λ f. label f.name ≡ value) (λ f. f.name ≢ name) (λ f is same. other (sym (ap label same) ∙ is)) files labelled

-- ---- the marks of a Compact part, in a Wide one

data_absent : (columns : List Column) (rows : List Row) (granules : List ℕ) (compact : Bool) → compact ≡ false → All (λ column. IsTrue (is_profile column.ty)) columns → Absent compact_marks_name (data_files columns rows granules compact)
data_absent columns rows granules true e types = cc
data_absent columns rows granules false e types =
    each_column (λ f. f.name ≢ compact_marks_name) columns rows granules types (λ column f is same.
    (let bad : true ≡ false = sym (ap (λ name. eqb (last_of name) 51) same) ∙ is.wide in cc))

pub definition_absent : (settings : Settings) (definition : PartDef) (rows : List Row) → All (λ column. IsTrue (is_profile column.ty)) definition.columns → written_layout settings definition rows ≡ false
    → Absent compact_marks_name (definition_files settings definition rows)
definition_absent settings definition rows types wide =
    let granules = written_granules settings definition.columns rows in
    All-append (λ f. f.name ≢ compact_marks_name) (listing_files definition rows granules) (data_files definition.columns rows granules (written_layout settings definition rows))
    (absent_label ends_as_data false compact_marks_name (listing_files definition rows granules) yes (listing_ends definition rows granules))
    (data_absent definition.columns rows granules (written_layout settings definition rows) wide types)

pub marks_absent : (table : Table) (rows : List Row) → TableRules table → written_layout table.settings (base_of table) rows ≡ false → folder_of (all_files table rows) compact_marks_name ≡ None
marks_absent table rows rules wide =
    let P : FileBytes → Type 0 = λ f. f.name ≢ compact_marks_name in
    absent (all_files table rows) compact_marks_name
    (All-append P (own_files table rows ++ partition_files table rows ++ index_files table rows) (stored_files table rows)
    (All-append P (own_files table rows ++ partition_files table rows) (index_files table rows)
    (All-append P (own_files table rows) (partition_files table rows) (definition_absent table.settings (base_of table) rows (base_own table.columns rules.columns).types wide)
    (absent_label ends_as_data false compact_marks_name (partition_files table rows) yes (partition_label ends_as_data false table rows (λ f is. is.ends))))
    (absent_label begins_as_skip true compact_marks_name (index_files table rows) no (index_label begins_as_skip true table rows (λ skip f is. is.begins))))
    (absent_label has_slash true compact_marks_name (stored_files table rows) no (stored_slash table rows)))

-- ---- the partition's file, without a partition key

no_partition : (table : Table) (rows : List Row) (none : Bool) (some : List FileBytes) → none ≡ true → Absent partition_name (if none then [] else some)
no_partition table rows true some e = All-nil _
no_partition table rows false some e = cc

pub partition_absent : (table : Table) (rows : List Row) → TableRules table → (length table.partition == 0) ≡ true → folder_of (all_files table rows) partition_name ≡ None
partition_absent table rows rules none =
    let P : FileBytes → Type 0 = λ f. f.name ≢ partition_name in
    absent (all_files table rows) partition_name
    (All-append P (own_files table rows ++ partition_files table rows ++ index_files table rows) (stored_files table rows)
    (All-append P (own_files table rows ++ partition_files table rows) (index_files table rows)
    (All-append P (own_files table rows) (partition_files table rows)
    (All-append P (own_listing table rows) (own_data table rows) (absent_label is_listing true partition_name (own_listing table rows) no (listing_label is_listing true table rows refl refl refl))
    (absent_label ends_as_data true partition_name (own_data table rows) no (data_end (own_data table rows) (data_of table rows rules)))) (no_partition table rows (length table.partition == 0) _ none))
    (absent_label begins_as_skip true partition_name (index_files table rows) no (index_label begins_as_skip true table rows (λ skip f is. is.begins))))
    (absent_label has_slash true partition_name (stored_files table rows) no (stored_slash table rows)))

-- ---- the marks of a Compact projection, in a Wide one

-- two at different indexes are related one way or the other
either_way : {X : Type 0} (R : X → X → Type 0) → ((x y : X) → R x y → R y x) → (xs : List X) → EachLater R xs → (i j : ℕ) (d e : X) → i < length xs → j < length xs → i ≢ j → R (get_or xs i d) (get_or xs j e)
either_way R turn [] each i j d e in_i in_j other = absurd (omega (arith, in_i))
either_way R turn (x ∷ xs) each zero zero d e in_i in_j other = absurd (other refl)
either_way R turn (x ∷ xs) each zero (suc j) d e in_i in_j other = each.0 j e (omega (arith, in_j))
either_way R turn (x ∷ xs) each (suc i) zero d e in_i in_j other = turn x (get_or xs i d) (each.0 i d (omega (arith, in_i)))
either_way R turn (x ∷ xs) each (suc i) (suc j) d e in_i in_j other = either_way R turn xs each.1 i j d e (omega (arith, in_i)) (omega (arith, in_j)) (λ same. other (ap suc same))

own_marks : (table : Table) (rows : List Row) (projection : Projection) → All (λ column. IsTrue (is_profile column.ty)) (inner_of table projection).columns
    → written_layout table.settings (inner_of table projection) (projection_rows table projection rows) ≡ false → Absent (projection_prefix projection ++ compact_marks_name) (projection_files table rows projection)
own_marks table rows projection types wide =
    let files = definition_files table.settings (inner_of table projection) (projection_rows table projection rows) in
    let prefix : List ℕ = projection_prefix projection in
    All-mapped (λ f. f.name ≢ prefix ++ compact_marks_name) (file_below prefix) files
    (All-weaker (λ f. f.name ≢ compact_marks_name) (λ f. prefix ++ f.name ≢ prefix ++ compact_marks_name) (λ f other same. other (append_cancel_left prefix f.name compact_marks_name same)) files
    (definition_absent table.settings (inner_of table projection) (projection_rows table projection rows) types wide))

pub below_absent : (table : Table) (rows : List Row) → TableRules table → (k : ℕ) (d : Projection) → k < length table.projections
    → let projection = get_or table.projections k d in
    written_layout table.settings (inner_of table projection) (projection_rows table projection rows) ≡ false → folder_below (folder_of (all_files table rows)) (projection_prefix projection) compact_marks_name ≡ None
below_absent table rows rules k d inside wide =
    let projection : Projection = get_or table.projections k d in
    let name : List ℕ = projection_prefix projection ++ compact_marks_name in
    let P : FileBytes → Type 0 = λ f. f.name ≢ name in
    let stem : is_stem (projection_name projection) ≡ true = rules.projections.stems k d inside in
    let types = (inner_own table projection rules.columns (rules.projections.each k d inside)).types in
    let others : (j : ℕ) (e : Projection) → j < length table.projections → Absent name (projection_files table rows (get_or table.projections j e)) =
    λ j e within. elim (cases_eq j k) [
      | inl same ↦
          let one : get_or table.projections j e ≡ projection = ap (λ i. get_or table.projections i e) same ∙ get_or_default table.projections k e d inside in
          subst (λ p. Absent name (projection_files table rows p)) (sym one) (own_marks table rows projection types wide)
      | inr other ↦
          let q : Projection = get_or table.projections j e in
          let differ : projection_name q ≢ projection_name projection =
          either_way (λ p q. projection_name p ≢ projection_name q) (λ p q different same. different (sym same)) table.projections rules.projections.differ j k e d within inside other in
          absent_label stem_of (projection_name q) name (projection_files table rows q) (λ same. differ (sym same ∙ below_stem projection compact_marks_name stem)) (files_stem table rows q (rules.projections.stems j e within))
    ] in
    absent (all_files table rows) name
    (All-append P (own_files table rows ++ partition_files table rows ++ index_files table rows) (stored_files table rows)
    (absent_label has_slash false name (own_files table rows ++ partition_files table rows ++ index_files table rows) (λ same. yes (sym (below_slash projection compact_marks_name) ∙ same)) (plain_files table rows rules))
    (All-to_flat_map P (projection_files table rows) table.projections others))
