-- Files of some names, one more at a time.
use Rattle.std.proofs.Common.{◌≡◌, ℕ, ◌+◌, ◌<◌, List, [], ◌∷◌, ◌++◌, length, take, refl, ap, sym, ◌∙◌, get_or}
use Rattle.std.specs.Prelude.{Option, Some, None, option_map, is_some, IfSome}
use Rattle.std.specs.List.{cons_option}
use Rattle.std.proofs.lemmas.List.Elements.{filter_map-append}
use Rattle.std.proofs.lemmas.List.{map-append, take_more}
use Rattle.mt_shelf.specs.Files.{Files}
use Rattle.mt_fault.specs.declared.file.FileBytes.{FileBytes}
use Rattle.mt_defs.specs.Folder.{Folder, folder_below}
use Rattle.mt_files.specs.NamedFiles.{file_named, file_names, files_named, part_folder}

pub named_more : (folder : Folder) (names : List (List ℕ)) (i : ℕ) (name d : List ℕ) → i < length names → name ≡ get_or names i d → files_named folder (take (i + 1) names) ≡ files_named folder (take i names) ++ cons_option (file_named folder name) []
named_more folder names i name d inside at =
    ap (files_named folder) (take_more names i d inside ∙ ap (λ (n : List ℕ). take i names ++ n ∷ []) (sym at)) ∙ filter_map-append (file_named folder) (take i names) (name ∷ [])

pub known_push : (part prefix : List ℕ) (stored : Option Files) (names : List (List ℕ)) (i : ℕ) (name d : List ℕ) (read : Option FileBytes) (files new : List FileBytes) → i < length names → name ≡ get_or names i d
    → IfSome stored (λ s. files ≡ files_named (folder_below (part_folder part s) prefix) (take i names)) → IfSome stored (λ s. read ≡ file_named (folder_below (part_folder part s) prefix) name) → new ≡ files ++ cons_option read []
    → IfSome stored (λ s. new ≡ files_named (folder_below (part_folder part s) prefix) (take (i + 1) names))
known_push part prefix None names i name d read files new inside at before here more = tt
known_push part prefix (Some s) names i name d read files new inside at before here more =
    more ∙ ap (λ (fs : List FileBytes). fs ++ cons_option read []) before ∙ ap (λ (o : Option FileBytes). files_named (folder_below (part_folder part s) prefix) (take i names) ++ cons_option o []) here
    ∙ sym (named_more (folder_below (part_folder part s) prefix) names i name d inside at)

names_push : (files : List FileBytes) (read : Option FileBytes) → file_names (files ++ cons_option read []) ≡ file_names files ++ cons_option (option_map (λ (file : FileBytes). file.name) read) []
names_push files None = map-append (λ (file : FileBytes). file.name) files []
names_push files (Some file) = map-append (λ (file : FileBytes). file.name) files (file ∷ [])

pub names_more : (folder : Folder) (names : List (List ℕ)) (i : ℕ) (name d : List ℕ) (read : Option FileBytes) (files new : List FileBytes) → i < length names → name ≡ get_or names i d
    → file_names files ≡ file_names (files_named folder (take i names)) → option_map (λ (file : FileBytes). file.name) read ≡ option_map (λ (file : FileBytes). file.name) (file_named folder name) → new ≡ files ++ cons_option read []
    → file_names new ≡ file_names (files_named folder (take (i + 1) names))
names_more folder names i name d read files new inside at before here more =
    ap file_names more ∙ names_push files read
    ∙ ap (λ (ns : List (List ℕ)). ns ++ cons_option (option_map (λ (file : FileBytes). file.name) read) []) before
    ∙ ap (λ (o : Option (List ℕ)). file_names (files_named folder (take i names)) ++ cons_option o []) here
    ∙ sym (names_push (files_named folder (take i names)) (file_named folder name))
    ∙ ap file_names (sym (named_more folder names i name d inside at))

-- a file, as far as its name is known
pub same_option : (name : List ℕ) (read : Option (List ℕ)) (size : Option ℕ) → is_some read ≡ is_some size
    → option_map (λ (file : FileBytes). file.name) (option_map (λ bytes. let file : FileBytes = record { name = name; bytes = bytes } in file) read)
    ≡ option_map (λ (file : FileBytes). file.name) (option_map (λ bytes. let file : FileBytes = record { name = name; bytes = bytes } in file) (option_map (λ _. let none : List ℕ = [] in none) size))
same_option name None None e = refl
same_option name None (Some size) e = cc
same_option name (Some bytes) None e = cc
same_option name (Some bytes) (Some size) e = refl
