-- Without a partition key, partition.dat is no name of a part's files.
use Rattle.std.proofs.Common.{◌≡◌, ◌≢◌, ℕ, Bool, true, false, not, ◌&&◌, List, [], ◌∷◌, ◌++◌, length, map, get_or, refl, sym, ap, ◌∙◌, subst, eqb}
use Rattle.std.specs.Prelude.{All, codes, Option, Some, None, IsSome, is_some, Contains, ◌==◌, if◌then◌else◌}
use Rattle.std.specs.List.{flat_map, list_all}
use Rattle.std.proofs.lemmas.List.Elements.{All-nil, All-append, All-contains, All-weaker}
use Rattle.mt_facts.proofs.Lists.{each_passes}
use Rattle.mt_table.specs.declared.column.Column.{Column}
use Rattle.mt_table.specs.declared.definition.Table.{Table}
use Rattle.mt_table.specs.declared.partition.PartExpr.{PartExpr}
use Rattle.mt_table.specs.declared.projection.Projection.{Projection}
use Rattle.mt_table.specs.declared.skip.Skip.{Skip}
use Rattle.mt_defs.specs.Compact.{compact_data_name, compact_marks_name}
use Rattle.mt_defs.specs.FileNames.{data_name, marks_name, stream_names}
use Rattle.mt_defs.specs.Folder.{Folder, folder_below}
use Rattle.mt_defs.specs.Metadata.{column_at, columns_name, count_name}
use Rattle.mt_defs.specs.Part.{column_names, definition_names, is_compact, known_names, partition_names, projection_names, side_names, skip_file_names, wide_names}
use Rattle.mt_defs.specs.Partition.{expression_column, minmax_name, partition_name}
use Rattle.mt_defs.specs.PrimaryIndex.{index_name}
use Rattle.mt_defs.specs.Projections.{inner_of, projection_prefix}
use Rattle.mt_law_written.proofs.ListLemmas.{All-mapped, All-to_flat_map, All-two}
use Rattle.mt_law_written.proofs.LookupLemmas.{last_append, last_of}
use Rattle.mt_law_written.proofs.NameLemmas.{has_slash}
use Rattle.mt_law_written.proofs.ProjectionLemmas.{below_slash}

-- a name of another file
abbrev IsOther : List ℕ → Type 0
IsOther name = name ≢ partition_name

yes : (let b : Bool = true in b) ≢ false
yes e = cc

no : (let b : Bool = false in b) ≢ true
no e = cc

by_label : (label : List ℕ → Bool) (value : Bool) (name : List ℕ) → label partition_name ≢ value → label name ≡ value → IsOther name
by_label label value name other is same = other (sym (ap label same) ∙ is)

-- the first two bytes are those of partition.dat
abbrev begins_so : List ℕ → Bool
begins_so name = eqb (get_or name 0 0) 112 && eqb (get_or name 1 0) 97

-- the last byte is that of a text
abbrev ends_so : List ℕ → Bool
ends_so name = eqb (last_of name) 116

begin_otherwise : (names : List (List ℕ)) → list_all (λ name. not (begins_so name)) names ≡ true → All IsOther names
begin_otherwise names e =
    All-weaker (λ name. not (begins_so name) ≡ true) IsOther (λ name is. by_label (λ name. not (begins_so name)) true name no is) names (each_passes (λ name. not (begins_so name)) names e)

-- ---- the files of a definition

wide_others : (column : Column) → All IsOther (wide_names column)
wide_others column =
    All-to_flat_map IsOther (λ name. data_name name ∷ marks_name name ∷ []) (stream_names column) (λ k d inside.
    let name = get_or (stream_names column) k d in
    All-two IsOther (data_name name) (marks_name name)
    (by_label ends_so false (data_name name) yes (ap (λ last. eqb last 116) (last_append name 46 (codes "bin"))))
    (by_label ends_so false (marks_name name) yes (ap (λ last. eqb last 116) (last_append name 46 (codes "mrk2")))))

column_others : (columns : List Column) (compact : Bool) → All IsOther (if compact then compact_data_name ∷ compact_marks_name ∷ [] else flat_map wide_names columns)
column_others columns true = begin_otherwise (compact_data_name ∷ compact_marks_name ∷ []) refl
column_others columns false = All-to_flat_map IsOther wide_names columns (λ k d inside. wide_others (get_or columns k d))

definition_others : (columns : List Column) (folder : Folder) → All IsOther (definition_names columns folder)
definition_others columns folder =
    All-append IsOther (columns_name ∷ count_name ∷ index_name ∷ []) (column_names columns folder ++ side_names) (begin_otherwise (columns_name ∷ count_name ∷ index_name ∷ []) refl)
    (All-append IsOther (column_names columns folder) side_names (column_others columns (is_compact folder)) (begin_otherwise side_names refl))

-- ---- the files of a part

skip_others : (folder : Folder) (skip : Skip) → All IsOther (skip_file_names folder skip)
skip_others folder skip = begin_otherwise (skip_file_names folder skip) refl

projection_others : (table : Table) (folder : Folder) (projection : Projection) → All IsOther (projection_names table folder projection)
projection_others table folder projection =
    let names : List (List ℕ) = definition_names (inner_of table projection).columns (folder_below folder (projection_prefix projection)) in
    All-mapped IsOther (λ name. projection_prefix projection ++ name) names
    (λ k d inside. by_label has_slash true (projection_prefix projection ++ get_or names k d) no (below_slash projection (get_or names k d)))

no_names : (table : Table) → table.partition ≡ [] → partition_names table ≡ []
no_names table none =
    ap (λ (es : List PartExpr). if length es == 0 then (let names : List (List ℕ) = [] in names) else partition_name ∷ map (λ expression. minmax_name table (expression_column expression)) es) none

known_others : (table : Table) (order : List ℕ) (folder : Folder) → table.partition ≡ [] → All IsOther (known_names table order folder)
known_others table order folder none =
    let columns : List Column = map (column_at table.columns) order in
    let own = definition_names columns folder in
    let skips = flat_map (skip_file_names folder) table.skips in
    let stored = flat_map (projection_names table folder) table.projections in
    All-append IsOther (own ++ partition_names table ++ skips) stored
    (All-append IsOther (own ++ partition_names table) skips
    (All-append IsOther own (partition_names table) (definition_others columns folder) (subst (All IsOther) (sym (no_names table none)) (All-nil IsOther)))
    (All-to_flat_map IsOther (skip_file_names folder) table.skips (λ k d inside. skip_others folder (get_or table.skips k d))))
    (All-to_flat_map IsOther (projection_names table folder) table.projections (λ k d inside. projection_others table folder (get_or table.projections k d)))

-- a folder of known names has no partition.dat
pub no_partition : (table : Table) (order : List ℕ) (folder : Folder) → ((name : List ℕ) → IsSome (folder name) → Contains (known_names table order folder) name) → table.partition ≡ [] → folder partition_name ≡ None
no_partition table order folder known none = by (folder partition_name) refl
  where
    by : (held : Option (List ℕ)) → folder partition_name ≡ held → folder partition_name ≡ None
    by None is = is
    by (Some bytes) is = absurd (All-contains IsOther (known_names table order folder) partition_name (known_others table order folder none) (known partition_name (ap (λ (o : Option (List ℕ)). is_some o) is)) refl)
