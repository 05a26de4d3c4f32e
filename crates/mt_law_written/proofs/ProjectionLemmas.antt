-- The files of projections: their names differ.
use Rattle.std.proofs.Common.{◌≡◌, ◌≢◌, ℕ, true, false, List, [], ◌∷◌, ◌++◌, map, get_or, refl, ap, sym, ◌∙◌, append_assoc}
use Rattle.std.specs.Prelude.{All, codes}
use Rattle.std.specs.List.{list_all, flat_map}
use Rattle.std.proofs.lemmas.Bool.{and_parts, and_from}
use Rattle.std.proofs.lemmas.List.{append_cancel_left}
use Rattle.std.proofs.lemmas.List.Elements.{All-head, All-tail, All-weaker}
use Rattle.mt_facts.proofs.Lists.{each_passes}
use Rattle.mt_types.specs.Words.{is_word_byte as is_name_byte, is_name}
use Rattle.mt_fault.specs.declared.file.FileBytes.{FileBytes}
use Rattle.mt_table.specs.declared.definition.Table.{Table}
use Rattle.mt_table.specs.declared.projection.Projection.{Projection}
use Rattle.mt_table.specs.declared.projection.Projection.TheVariants.{Normal, Grouped}
use Rattle.mt_table.specs.Names.{names_differ}
use Rattle.mt_table.specs.Kept.{keeps_columns, keeps_normal, keeps_grouped, keeps_projection, keeps_projections, name_of_projection}
use Rattle.mt_defs.specs.Folder.{names_agree as is_same_name}
use Rattle.mt_defs.specs.Rows.{Row}
use Rattle.mt_defs.specs.Projections.{inner_of, projection_name, projection_prefix}
use Rattle.mt_defs.specs.Writer.{definition_files, file_below, projection_files, projection_rows}
use Rattle.mt_defs.proofs.NameLemmas.{same_name}
use Rattle.mt_law_written.proofs.LookupLemmas.{Apart, AreApart, other_name}
use Rattle.mt_law_written.proofs.ListLemmas.{All-mapped}
use Rattle.mt_law_written.proofs.NameLemmas.{is_stem, is_stem_byte, stem_of, has_slash, stem_before_dot, slash_first, slash_later, stem_byte}
use Rattle.mt_law_written.proofs.ApartLemmas.{EachLater, later_unmapped, later_weaker, Across, apart_flat, across_labels, Labelled}
use Rattle.mt_law_written.proofs.DataNames.{definition_apart}
use Rattle.mt_law_written.proofs.StoredLemmas.{inner_own}
use Rattle.mt_law_written.proofs.RuleLemmas.{names_are_different, name_bytes}

-- ---- names

word_stem : (name : List ℕ) → list_all is_name_byte name ≡ true → is_stem name ≡ true
word_stem [] e = refl
word_stem (c ∷ name) e =
    let both = and_parts (is_name_byte c) (list_all is_name_byte name) e in
    and_from (is_stem_byte c) (is_stem name)
    (stem_byte c (λ is. let bad : false ≡ true = ap is_name_byte (sym is) ∙ both.0 in cc) (λ is. let bad : false ≡ true = ap is_name_byte (sym is) ∙ both.0 in cc)) (word_stem name both.1)

same_names : (projection : Projection) → name_of_projection projection ≡ projection_name projection
same_names (Normal name columns sort) = refl
same_names (Grouped name keys aggs) = refl

pub name_kept : (table : Table) (projection : Projection) → keeps_projection table.columns projection ≡ true → is_name (projection_name projection) ≡ true
name_kept table (Normal name columns sort) keeps = (and_parts (is_name name) (keeps_normal table.columns columns sort) keeps).0
name_kept table (Grouped name keys aggs) keeps = (and_parts (is_name name) (keeps_grouped table.columns keys aggs) keeps).0

-- what the rules say of the projections of a table
pub record ProjectionRules (table : Table) : Type 0 where
  pub differ : EachLater (λ p q. projection_name p ≢ projection_name q) table.projections
  pub each : All (λ projection. keeps_projection table.columns projection ≡ true) table.projections
  pub stems : All (λ projection. is_stem (projection_name projection) ≡ true) table.projections

pub projection_rules : (table : Table) → keeps_projections table.columns table.projections ≡ true → ProjectionRules table
projection_rules table keeps =
    let both = and_parts (list_all (keeps_projection table.columns) table.projections) (names_differ (map name_of_projection table.projections)) (and_parts _ _ keeps).1 in
    let each = each_passes (keeps_projection table.columns) table.projections both.0 in
    record {
      differ =
          later_weaker (λ p q. name_of_projection p ≢ name_of_projection q) (λ p q. projection_name p ≢ projection_name q) (λ p q other same. other (same_names p ∙ same ∙ sym (same_names q))) table.projections
          (later_unmapped (λ a b. a ≢ b) name_of_projection table.projections (names_are_different (map name_of_projection table.projections) both.1));
      each = each;
      stems =
          All-weaker (λ projection. keeps_projection table.columns projection ≡ true) (λ projection. is_stem (projection_name projection) ≡ true) (λ projection keeps.
          word_stem (projection_name projection) (name_bytes (projection_name projection) (name_kept table projection keeps))) table.projections each;
    }

-- a name below a projection
pub below_stem : (projection : Projection) (name : List ℕ) → is_stem (projection_name projection) ≡ true → stem_of (projection_prefix projection ++ name) ≡ projection_name projection
below_stem projection name stem =
    ap stem_of (append_assoc (projection_name projection) (codes ".proj/") name) ∙ stem_before_dot (projection_name projection) (codes "proj/" ++ name) stem

pub below_slash : (projection : Projection) (name : List ℕ) → has_slash (projection_prefix projection ++ name) ≡ true
below_slash projection name = slash_first (projection_prefix projection) name (slash_later (projection_name projection) (codes ".proj/") refl)

pub files_slash : (table : Table) (rows : List Row) (projection : Projection) → Labelled has_slash true (projection_files table rows projection)
files_slash table rows projection =
    let files = definition_files table.settings (inner_of table projection) (projection_rows table projection rows) in
    All-mapped (λ f. has_slash f.name ≡ true) (file_below (projection_prefix projection)) files (λ k d inside. below_slash projection (get_or files k d).name)

pub files_stem : (table : Table) (rows : List Row) (projection : Projection) → is_stem (projection_name projection) ≡ true → Labelled stem_of (projection_name projection) (projection_files table rows projection)
files_stem table rows projection stem =
    let files = definition_files table.settings (inner_of table projection) (projection_rows table projection rows) in
    All-mapped (λ f. stem_of f.name ≡ projection_name projection) (file_below (projection_prefix projection)) files (λ k d inside. below_stem projection (get_or files k d).name stem)

-- ---- files below a prefix

below_one : (prefix : List ℕ) (file : FileBytes) (files : List FileBytes) → Apart file files → Apart (file_below prefix file) (map (file_below prefix) files)
below_one prefix file [] apart = tt
below_one prefix file (other ∷ files) apart = (
  other_name (prefix ++ file.name) (prefix ++ other.name) (λ same.
      (let yes : is_same_name file.name other.name ≡ true = same_name file.name other.name (append_cancel_left prefix file.name other.name same) in
      let bad : true ≡ false = sym yes ∙ apart.0 in
      cc)),
  below_one prefix file files apart.1,
)

below_apart : (prefix : List ℕ) (files : List FileBytes) → AreApart files → AreApart (map (file_below prefix) files)
below_apart prefix [] apart = tt
below_apart prefix (file ∷ files) apart = (below_one prefix file files apart.0, below_apart prefix files apart.1)

one_apart : (table : Table) (rows : List Row) (projection : Projection) → keeps_columns table.columns ≡ true → keeps_projection table.columns projection ≡ true → AreApart (projection_files table rows projection)
one_apart table rows projection columns keeps =
    below_apart (projection_prefix projection) (definition_files table.settings (inner_of table projection) (projection_rows table projection rows))
    (definition_apart table.settings (inner_of table projection) (projection_rows table projection rows) (inner_own table projection columns keeps))

-- the stems of any two, each a stem
later_stems : (ps : List Projection) → All (λ p. is_stem (projection_name p) ≡ true) ps → EachLater (λ p q. projection_name p ≢ projection_name q) ps
    → EachLater (λ p q. (is_stem (projection_name p) ≡ true) × (is_stem (projection_name q) ≡ true) × (projection_name p ≢ projection_name q)) ps
later_stems [] stems differ = tt
later_stems (p ∷ ps) stems differ =
    let S : Projection → Type 0 = λ p. is_stem (projection_name p) ≡ true in
    let rest = All-tail S p ps stems in
    (λ k d inside. (All-head S p ps stems, rest k d inside, differ.0 k d inside), later_stems ps rest differ.1)

pub projections_apart : (table : Table) (rows : List Row) → keeps_columns table.columns ≡ true → ProjectionRules table → AreApart (flat_map (projection_files table rows) table.projections)
projections_apart table rows columns rules =
    apart_flat (projection_files table rows) table.projections
    (All-weaker (λ p. keeps_projection table.columns p ≡ true) (λ p. AreApart (projection_files table rows p)) (λ p keeps. one_apart table rows p columns keeps) table.projections rules.each)
    (later_weaker (λ p q. (is_stem (projection_name p) ≡ true) × (is_stem (projection_name q) ≡ true) × (projection_name p ≢ projection_name q)) (λ p q. Across (projection_files table rows p) (projection_files table rows q)) (λ p q both.
    across_labels stem_of (projection_name p) (projection_name q) (projection_files table rows p) (projection_files table rows q) both.2 (files_stem table rows p both.0) (files_stem table rows q both.1)) table.projections
    (later_stems table.projections rules.stems rules.differ))
