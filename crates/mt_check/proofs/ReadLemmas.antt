-- The files of a part that are read make a folder that is checked like the part's own.
use Rattle.std.proofs.Common.{◌≡◌, ℕ, ◌+◌, ◌<◌, Bool, true, false, ◌||◌, List, [], ◌∷◌, ◌++◌, length, map, take, refl, ap, sym, subst, ◌∙◌, get_or}
use Rattle.std.specs.Prelude.{Option, Some, None, option_map, is_some, if◌then◌else◌, All, IfSome, Result}
use Rattle.std.specs.List.{AllByRecursion, cons_option, flat_map, zip}
use Rattle.std.proofs.lemmas.List.Elements.{All-head, All-tail, filter_map-append}
use Rattle.std.proofs.lemmas.List.{map-append, take_more}
use Rattle.std.proofs.lemmas.Bool.{or_right}
use Rattle.mt_shelf.specs.Files.{Files, entries_below}
use Rattle.mt_shelf.specs.declared.file.Entry.{Entry}
use Rattle.mt_files.specs.Listings.{has_below, listed_folder}
use Rattle.mt_files.specs.PartTexts.{order_reading}
use Rattle.mt_files.proofs.ListingLemmas.{layout_listed}
use Rattle.mt_strays.specs.Strays.{is_known_name}
use Rattle.mt_fault.specs.declared.file.FileBytes.{FileBytes}
use Rattle.mt_table.specs.declared.column.Column.{Column}
use Rattle.mt_table.specs.declared.definition.Table.{Table}
use Rattle.mt_table.specs.declared.projection.Projection.{Projection}
use Rattle.mt_defs.specs.Compact.{compact_marks_name}
use Rattle.mt_defs.specs.Folder.{Folder, folder_below, folder_of, names_agree}
use Rattle.mt_defs.specs.Part.{is_compact}
use Rattle.mt_defs.specs.Projections.{base_of, inner_of, projection_prefix}
use Rattle.mt_definition.specs.declared.accepted.Accepted.{Accepted}
use Rattle.mt_types.specs.Steps.{◌>>=◌}
use Rattle.mt_fault.specs.declared.fault.Fault.{Fault}
use Rattle.mt_defs.proofs.NameLemmas.{name_is, same_name}
use Rattle.mt_meta.specs.Definitions.{IsDefinition}
use Rattle.mt_check.specs.FolderChecks.{projection_checks, files_checks, stored_checks, projection_folder_in, projection_folders, projection_is_there, projections_checks}
use Rattle.mt_files.specs.OwnNames as own
use Rattle.mt_files.specs.OwnNames.{base_names, own_names, skip_names_in}
use Rattle.mt_check.specs.PartFiles.{base_files, inner_files, part_files, read_projection_files}
use Rattle.mt_files.specs.NamedFiles.{file_names, files_named, part_folder}
use Rattle.mt_definition.proofs.AgreeLemmas.{AgreeAt}
use Rattle.mt_definition.proofs.AgreeOnData.{order_same}
use Rattle.mt_check.proofs.AgreeOnChecks.{part_same, projection_same}
use Rattle.mt_check.proofs.FolderLemmas.{as_folders}
use Rattle.mt_meta.proofs.DefinitionLemmas.{base_is}
use Rattle.mt_meta.proofs.InnerLemmas.{projections_are}

-- ---- the folder of the files of some names

-- it has those names, and no others
pub only_named : (folder : Folder) (names : List (List ℕ)) (name : List ℕ) → folder_of (files_named folder names) name ≡ (if is_known_name names name then folder name else None)
only_named folder [] name = refl
only_named folder (x ∷ names) name = by_file (folder x) refl (only_named folder names name)
  where
    by_name : (b : Bool) → names_agree x name ≡ b → folder x ≡ None → folder_of (files_named folder names) name ≡ (if is_known_name names name then folder name else None)
        → folder_of (files_named folder names) name ≡ (if b || is_known_name names name then folder name else None)
    by_name true same none later =
        let here : folder name ≡ None = ap folder (sym (name_is x name same)) ∙ none in
        later ∙ ap (λ (o : Option (List ℕ)). if is_known_name names name then o else None) here ∙ either (is_known_name names name) ∙ sym here
      where
        either : (k : Bool) → (if k then (let o : Option (List ℕ) = None in o) else None) ≡ None
        either true = refl
        either false = refl
    by_name false same none later = later

    by_found : (b : Bool) (bytes : List ℕ) → names_agree x name ≡ b → folder x ≡ Some bytes → folder_of (files_named folder names) name ≡ (if is_known_name names name then folder name else None)
        → (if b then Some bytes else folder_of (files_named folder names) name) ≡ (if b || is_known_name names name then folder name else None)
    by_found true bytes same found later = sym found ∙ ap folder (name_is x name same)
    by_found false bytes same found later = later

    by_file : (o : Option (List ℕ)) → folder x ≡ o → folder_of (files_named folder names) name ≡ (if is_known_name names name then folder name else None)
        → folder_of (cons_option (option_map (λ bytes. let file : FileBytes = record { name = x; bytes = bytes } in file) o) (files_named folder names)) name ≡ (if names_agree x name || is_known_name names name then folder name else None)
    by_file None is later = by_name (names_agree x name) refl is later
    by_file (Some bytes) is later = by_found (names_agree x name) bytes refl is later

-- what holds at each known name holds at each name
each_name : (P : List ℕ → Type 0) (names : List (List ℕ)) → ((name : List ℕ) → is_known_name names name ≡ true → P name) → AllByRecursion P names
each_name P [] at = tt
each_name P (x ∷ names) at = (at x (ap (λ b. b || is_known_name names x) (same_name x x refl)), each_name P names (λ name known. at name (or_right (names_agree x name) (is_known_name names name) known)))

pub agrees : (folder : Folder) (names : List (List ℕ)) → AgreeAt (folder_of (files_named folder names)) folder names
agrees folder names = each_name (λ name. folder_of (files_named folder names) name ≡ folder name) names (λ name known. only_named folder names name ∙ ap (λ b. if b then folder name else None) known)

-- ---- its layout

has_marks : (columns : List Column) (more : List (List ℕ)) (f g : Folder) (compact : Bool) → compact ≡ true → AgreeAt f g (own_names columns compact ++ more) → f compact_marks_name ≡ g compact_marks_name
has_marks columns more f g true is all = all.1.1.1.1.0
has_marks columns more f g false is all = cc

same_marks : (columns : List Column) (more : List (List ℕ)) (folder : Folder) → folder_of (files_named folder (own_names columns (is_compact folder) ++ more)) compact_marks_name ≡ folder compact_marks_name
same_marks columns more folder = by_marks (folder compact_marks_name) refl
  where
    names : List (List ℕ)
    names = own_names columns (is_compact folder) ++ more

    nothing : (b : Bool) (o : Option (List ℕ)) → o ≡ None → (if b then o else None) ≡ o
    nothing true o is = refl
    nothing false o is = sym is

    by_marks : (o : Option (List ℕ)) → folder compact_marks_name ≡ o → folder_of (files_named folder names) compact_marks_name ≡ folder compact_marks_name
    by_marks None is = only_named folder names compact_marks_name ∙ nothing (is_known_name names compact_marks_name) (folder compact_marks_name) is
    by_marks (Some bytes) is = has_marks columns more (folder_of (files_named folder names)) folder (is_compact folder) (ap is_some is) (agrees folder names)

same_layout : (columns : List Column) (more : List (List ℕ)) (folder : Folder) → is_compact (folder_of (files_named folder (own_names columns (is_compact folder) ++ more))) ≡ is_compact folder
same_layout columns more folder = ap is_some (same_marks columns more folder)

-- ---- projections

no_more : (names : List (List ℕ)) → names ++ [] ≡ names
no_more [] = refl
no_more (name ∷ names) = ap (λ (ns : List (List ℕ)). name ∷ ns) (no_more names)

pub inner_layout : (table : Table) (projection : Projection) (folder : Folder) → is_compact (folder_of (inner_files table projection folder)) ≡ is_compact folder
inner_layout table projection folder =
    let own = own_names (inner_of table projection).columns (is_compact folder) in
    ap (λ names. is_compact (folder_of (files_named folder names))) (sym (no_more own)) ∙ same_layout (inner_of table projection).columns [] folder

inner_same : (table : Table) (accepted : Accepted) (projection : Projection) (folder : Folder) → IsDefinition (inner_of table projection)
    → stored_checks table accepted projection (folder_of (inner_files table projection folder)) ≡ stored_checks table accepted projection folder
inner_same table accepted projection folder is =
    let kind = inner_layout table projection folder in
    projection_same (folder_of (inner_files table projection folder)) folder table accepted projection is kind
    (subst (λ b. AgreeAt (folder_of (inner_files table projection folder)) folder (own_names (inner_of table projection).columns b)) (sym kind) (agrees folder (own_names (inner_of table projection).columns (is_compact folder))))

-- one that is there is checked alike, and one that isn't not at all
one_same : (table : Table) (folder : Folder) (names : List (List ℕ)) (accepted : Accepted) (projection : Projection) → IsDefinition (inner_of table projection)
    → projection_checks table accepted projection (option_map folder_of (read_projection_files table folder names projection)) ≡ projection_checks table accepted projection (projection_folder_in folder names projection)
one_same table folder names accepted projection is = by_test (projection_is_there names projection)
  where
    below : Folder
    below = folder_below folder (projection_prefix projection)

    by_test : (b : Bool) → projection_checks table accepted projection (option_map folder_of (if b then Some (inner_files table projection below) else None)) ≡ projection_checks table accepted projection (if b then Some below else None)
    by_test true = inner_same table accepted projection below is
    by_test false = refl

projections_same : (table : Table) (folder : Folder) (names : List (List ℕ)) (accepted : Accepted) (projections : List Projection) → All (λ projection. IsDefinition (inner_of table projection)) projections
    → projections_checks table accepted (zip projections (as_folders (map (read_projection_files table folder names) projections))) ≡ projections_checks table accepted (zip projections (map (projection_folder_in folder names) projections))
projections_same table folder names accepted [] are = refl
projections_same table folder names accepted (projection ∷ projections) are =
    ap (λ (first : Result Unit Fault). first >>= λ _. projections_checks table accepted (zip projections (as_folders (map (read_projection_files table folder names) projections))))
    (one_same table folder names accepted projection (All-head (λ projection. IsDefinition (inner_of table projection)) projection projections are))
    ∙ ap (λ (later : Result Unit Fault). projection_checks table accepted projection (projection_folder_in folder names projection) >>= λ _. later)
    (projections_same table folder names accepted projections (All-tail (λ projection. IsDefinition (inner_of table projection)) projection projections are))

-- ---- the part

pub base_layout : (table : Table) (folder : Folder) → is_compact (folder_of (base_files table folder)) ≡ is_compact folder
base_layout table folder = same_layout table.columns (own.partition_file_names table ++ flat_map (skip_names_in (is_compact folder)) table.skips) folder

-- the files that are read are checked like the part
pub part_read : (table : Table) (folder : Folder) (names : List (List ℕ))
    → files_checks table (folder_of (part_files table folder names).base) (as_folders (part_files table folder names).projections) ≡ files_checks table folder (projection_folders table folder names)
part_read table folder names =
    let kind = base_layout table folder in
    part_same (folder_of (base_files table folder)) folder table (as_folders (part_files table folder names).projections) (projection_folders table folder names) (base_is table) kind
    (subst (λ b. AgreeAt (folder_of (base_files table folder)) folder (base_names table b)) (sym kind) (agrees folder (base_names table (is_compact folder))))
    (λ accepted. projections_same table folder names accepted table.projections (projections_are table))

-- and list the same columns
pub order_read : (table : Table) (folder : Folder) → order_reading (base_of table) (folder_of (base_files table folder)) ≡ order_reading (base_of table) folder
order_read table folder = order_same (base_of table) (folder_of (base_files table folder)) folder (agrees folder (base_names table (is_compact folder))).0

-- ---- the files of a folder of a part, by the listing

abbrev own_files : (Bool → List (List ℕ)) → Folder → List FileBytes
own_files own folder = files_named folder (own (is_compact folder))

pub folder_known : (part prefix target : List ℕ) (own : Bool → List (List ℕ)) (listing : List Entry) (compact : Bool) (names : List (List ℕ)) (stored : Option Files) → IfSome stored (λ files. listing ≡ entries_below part files)
    → compact ≡ is_compact (folder_below (listed_folder listing) prefix) → names ≡ own compact → prefix ≡ target → (read : List FileBytes) → IfSome stored (λ files. read ≡ files_named (folder_below (part_folder part files) prefix) names)
    → IfSome stored (λ files. read ≡ own_files own (folder_below (part_folder part files) target))
folder_known part prefix target own listing compact names None is kind are same read known = tt
folder_known part prefix target own listing compact names (Some files) is kind are same read known =
    known ∙ ap (files_named (folder_below (part_folder part files) prefix))
    (are ∙ ap own (kind ∙ ap (λ (es : List Entry). is_compact (folder_below (listed_folder es) prefix)) is ∙ layout_listed part prefix files))
    ∙ ap (λ (p : List ℕ). own_files own (folder_below (part_folder part files) p)) same

pub folder_names : (prefix target : List ℕ) (own : Bool → List (List ℕ)) (listing : List Entry) (compact : Bool) (names : List (List ℕ)) → compact ≡ is_compact (folder_below (listed_folder listing) prefix) → names ≡ own compact → prefix ≡ target
    → (read : List FileBytes) → file_names read ≡ file_names (files_named (folder_below (listed_folder listing) prefix) names) → file_names read ≡ file_names (own_files own (folder_below (listed_folder listing) target))
folder_names prefix target own listing compact names kind are same read named =
    named ∙ ap (λ (ns : List (List ℕ)). file_names (files_named (folder_below (listed_folder listing) prefix) ns)) (are ∙ ap own kind)
    ∙ ap (λ (p : List ℕ). file_names (own_files own (folder_below (listed_folder listing) p))) same

-- ---- a projection

pub projection_read : (table : Table) (names : List (List ℕ)) (projection : Projection) (prefix : List ℕ) (folder : Folder) (read : List FileBytes) → prefix ≡ projection_prefix projection → has_below names prefix ≡ true
    → read ≡ inner_files table projection (folder_below folder prefix) → Some read ≡ read_projection_files table folder names projection
projection_read table names projection prefix folder read same there is =
    ap (λ (fs : List FileBytes). let o : Option (List FileBytes) = Some fs in o) (is ∙ ap (λ (p : List ℕ). inner_files table projection (folder_below folder p)) same)
    ∙ ap (λ b. if b then Some (inner_files table projection (folder_below folder (projection_prefix projection))) else None) (sym there ∙ ap (has_below names) same)

pub projection_lacking : (table : Table) (names : List (List ℕ)) (projection : Projection) (prefix : List ℕ) (folder : Folder) → prefix ≡ projection_prefix projection → has_below names prefix ≡ false
    → None ≡ read_projection_files table folder names projection
projection_lacking table names projection prefix folder same absent =
    ap (λ b. if b then Some (inner_files table projection (folder_below folder (projection_prefix projection))) else None) (sym absent ∙ ap (has_below names) same)

pub lacking_known : (table : Table) (part : List ℕ) (names : List (List ℕ)) (projection : Projection) (prefix : List ℕ) (stored : Option Files) → prefix ≡ projection_prefix projection → has_below names prefix ≡ false
    → IfSome stored (λ files. None ≡ read_projection_files table (part_folder part files) names projection)
lacking_known table part names projection prefix None same absent = tt
lacking_known table part names projection prefix (Some files) same absent = projection_lacking table names projection prefix (part_folder part files) same absent

pub read_known : (table : Table) (part : List ℕ) (names : List (List ℕ)) (projection : Projection) (prefix : List ℕ) (read : List FileBytes) (stored : Option Files) → prefix ≡ projection_prefix projection → has_below names prefix ≡ true
    → IfSome stored (λ files. read ≡ inner_files table projection (folder_below (part_folder part files) prefix)) → IfSome stored (λ files. Some read ≡ read_projection_files table (part_folder part files) names projection)
read_known table part names projection prefix read None same there known = tt
read_known table part names projection prefix read (Some files) same there known = projection_read table names projection prefix (part_folder part files) read same there known

-- ---- one projection more

pub inner_push : {X : Type 0} (F : Files → Projection → X) (stored : Option Files) (projections : List Projection) (i : ℕ) (d : Projection) (done new : List X) (read : X) → i < length projections
    → IfSome stored (λ s. done ≡ map (F s) (take i projections)) → IfSome stored (λ s. read ≡ F s (get_or projections i d)) → new ≡ done ++ read ∷ [] → IfSome stored (λ s. new ≡ map (F s) (take (i + 1) projections))
inner_push F None projections i d done new read inside before here more = tt
inner_push {X} F (Some s) projections i d done new read inside before here more =
    more ∙ ap (λ (fs : List X). fs ++ read ∷ []) before ∙ ap (λ (r : X). map (F s) (take i projections) ++ r ∷ []) here
    ∙ sym (ap (map (F s)) (take_more projections i d inside) ∙ map-append (F s) (take i projections) (get_or projections i d ∷ []))

abbrev names_in : Option (List FileBytes) → Option (List (List ℕ))
names_in files = option_map file_names files

pub inner_names : (G : Projection → Option (List FileBytes)) (projections : List Projection) (i : ℕ) (d : Projection) (done new : List (Option (List FileBytes))) (read : Option (List FileBytes)) → i < length projections
    → map names_in done ≡ map names_in (map G (take i projections)) → names_in read ≡ names_in (G (get_or projections i d)) → new ≡ done ++ read ∷ [] → map names_in new ≡ map names_in (map G (take (i + 1) projections))
inner_names G projections i d done new read inside before here more =
    ap (map names_in) more ∙ map-append names_in done (read ∷ [])
    ∙ ap (λ (names : List (Option (List (List ℕ)))). names ++ names_in read ∷ []) before ∙ ap (λ (names : Option (List (List ℕ))). map names_in (map G (take i projections)) ++ names ∷ []) here
    ∙ sym (map-append names_in (map G (take i projections)) (G (get_or projections i d) ∷ []))
    ∙ sym (ap (λ (ps : List Projection). map names_in (map G ps)) (take_more projections i d inside) ∙ ap (map names_in) (map-append G (take i projections) (get_or projections i d ∷ [])))
