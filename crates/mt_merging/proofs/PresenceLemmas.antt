-- The inputs are tried one after another.
use Rattle.std.proofs.Common.{◌≡◌, ℕ, List, [], ◌∷◌, map, Option, Some, None, IfSome, Ok, Err, false, refl, sym, ap, ◌∙◌, string_bytes, Global, String}
use Rattle.mt_shelf.specs.Files.{Files, entries_below, listing_of}
use Rattle.mt_command.specs.Status.{is_outside_fault}
use Rattle.mt_command.specs.declared.status.Status.{Status}
use Rattle.mt_merging.specs.Inputs.{are_there, some_files}

-- what is left decides
abbrev pub Decide : Option Files → List (String Global) → List (String Global) → Type 0
Decide files rest parts = IfSome files (λ f. are_there (map string_bytes rest) f ≡ are_there (map string_bytes parts) f)

pub decide_all : (files : Option Files) (parts : List (String Global)) → Decide files parts parts
decide_all None parts = tt
decide_all (Some f) parts = refl

step : (part : List ℕ) (parts : List (List ℕ)) (f : Files) → some_files part (listing_of (entries_below part f)) ≡ Ok tt → are_there parts f ≡ are_there (part ∷ parts) f
step part parts f is = rw is refl

stop : (part : List ℕ) (parts : List (List ℕ)) (f : Files) (status : Status) → some_files part (listing_of (entries_below part f)) ≡ Err status → are_there (part ∷ parts) f ≡ Err status
stop part parts f status is = rw is refl

-- a part is there
pub decide_next : (files : Option Files) (rest parts more : List (String Global)) (part : String Global) → rest ≡ part ∷ more
    → IfSome files (λ f. some_files (string_bytes part) (listing_of (entries_below (string_bytes part) f)) ≡ Ok tt) → Decide files rest parts → Decide files more parts
decide_next None rest parts more part e there before = tt
decide_next (Some f) rest parts more part e there before =
    step (string_bytes part) (map string_bytes more) f there ∙ sym (ap (λ (r : List (String Global)). are_there (map string_bytes r) f) e) ∙ before

-- a part isn't there, or the shelf failed
pub decide_refused : (files : Option Files) (rest parts more : List (String Global)) (part : String Global) (status : Status) → rest ≡ part ∷ more
    → IfSome files (λ f. is_outside_fault status ≡ false → some_files (string_bytes part) (listing_of (entries_below (string_bytes part) f)) ≡ Err status) → Decide files rest parts
    → IfSome files (λ f. is_outside_fault status ≡ false → are_there (map string_bytes parts) f ≡ Err status)
decide_refused None rest parts more part status e refused before = tt
decide_refused (Some f) rest parts more part status e refused before = λ inside.
    sym before ∙ ap (λ (r : List (String Global)). are_there (map string_bytes r) f) e ∙ stop (string_bytes part) (map string_bytes more) f status (refused inside)

-- all are there
pub decide_end : (files : Option Files) (rest parts : List (String Global)) → rest ≡ [] → Decide files rest parts → IfSome files (λ f. are_there (map string_bytes parts) f ≡ Ok tt)
decide_end None rest parts e before = tt
decide_end (Some f) rest parts e before = sym before ∙ ap (λ (r : List (String Global)). are_there (map string_bytes r) f) e
