-- The sizes of projections, one after another.
use Rattle.std.proofs.Common.{◌≡◌, ℕ, ◌+◌, ◌<◌, List, [], ◌∷◌, ◌++◌, drop, get_or, length, map, sym, ap, subst, ◌∙◌}
use Rattle.std.specs.Prelude.{Option, Some, option_map}
use Rattle.std.proofs.lemmas.List.{append_assoc, drop_more, length-append}
use Rattle.mt_fault.specs.declared.file.FileBytes.{FileBytes}
use Rattle.mt_table.specs.declared.definition.Table.{Table}
use Rattle.mt_table.specs.declared.projection.Projection.{Projection}
use Rattle.mt_table.specs.Stored.{no_projection, projection_at}
use Rattle.mt_defs.specs.Folder.{Folder, folder_of}
use Rattle.mt_defs.specs.Projections.{inner_of}
use Rattle.mt_definition.specs.DefinitionReading.{definition_reading}
use Rattle.mt_show.specs.declared.shape.Size.{Size}
use Rattle.mt_show.specs.Shape.{size_of_projection, size_or_none, sizes_in}

-- the folders of projections by their files
abbrev pub folders_of : List (Option (List FileBytes)) → List (Option Folder)
folders_of = map (option_map folder_of)

-- the size of a projection that is there, by its files
pub size_is : (table : Table) (projection : Projection) (size : Size) (files : Option (List FileBytes)) (found bytes : List FileBytes) → files ≡ Some found → bytes ≡ found
    → size ≡ size_or_none (definition_reading (inner_of table projection) (folder_of bytes)) → (let it : Option Size = Some size in it) ≡ size_of_projection table projection (option_map folder_of files)
size_is table projection size files found bytes there same is =
    ap (λ (s : Size). let it : Option Size = Some s in it) (is ∙ ap (λ bs. size_or_none (definition_reading (inner_of table projection) (folder_of bs))) same)
    ∙ ap (λ (fs : Option (List FileBytes)). size_of_projection table projection (option_map folder_of fs)) (sym there)

-- the size of one projection more
pub sizes_step : (table : Table) (folders : List (Option (List FileBytes))) (i : ℕ) (files : Option (List FileBytes)) (size : Option Size) (out new whole : List (Option Size)) → length folders ≡ length table.projections → i < length folders
    → files ≡ get_or folders i files → size ≡ size_of_projection table (projection_at table i) (option_map folder_of files) → new ≡ out ++ size ∷ []
    → out ++ sizes_in table (drop i table.projections) (folders_of (drop i folders)) ≡ whole → new ++ sizes_in table (drop (i + 1) table.projections) (folders_of (drop (i + 1) folders)) ≡ whole
sizes_step table folders i files size out new whole long inside at is pushed so_far =
    let rest = sizes_in table (drop (i + 1) table.projections) (folders_of (drop (i + 1) folders)) in
    let projections : drop i table.projections ≡ projection_at table i ∷ drop (i + 1) table.projections = drop_more table.projections i no_projection (subst (λ n. i < n) long inside) in
    let left : drop i folders ≡ files ∷ drop (i + 1) folders = drop_more folders i files inside ∙ ap (λ (f : Option (List FileBytes)). f ∷ drop (i + 1) folders) (sym at) in
    let both : sizes_in table (drop i table.projections) (folders_of (drop i folders)) ≡ size ∷ rest =
    ap (λ (ps : List Projection). sizes_in table ps (folders_of (drop i folders))) projections
    ∙ ap (λ (fs : List (Option (List FileBytes))). sizes_in table (projection_at table i ∷ drop (i + 1) table.projections) (folders_of fs)) left
    ∙ ap (λ (s : Option Size). s ∷ rest) (sym is) in
    ap (λ (l : List (Option Size)). l ++ rest) pushed ∙ append_assoc out (size ∷ []) rest ∙ ap (λ (l : List (Option Size)). out ++ l) (sym both) ∙ so_far

pub one_longer : (out new : List (Option Size)) (size : Option Size) (i : ℕ) → new ≡ out ++ size ∷ [] → length out ≡ i → length new ≡ i + 1
one_longer out new size i pushed long = ap length pushed ∙ length-append out (size ∷ []) ∙ ap (λ n. n + 1) long
