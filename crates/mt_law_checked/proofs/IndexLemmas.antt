-- primary.idx is read exactly where it is the keys, one after another.
use Rattle.std.proofs.Common.{◌≡◌, ℕ, ◌+◌, List, [], ◌∷◌, ◌++◌, length, map, take, drop, refl, sym, ap, ◌∙◌}
use Rattle.std.specs.Prelude.{Result, Ok, ◌==◌}
use Rattle.std.specs.List.{flat_map}
use Rattle.std.specs.Str.{bytes_eq}
use Rattle.std.proofs.lemmas.List.{take-append-drop, take_at, drop_at}
use Rattle.std.proofs.lemmas.Slice.Eq.{bytes_eq-Decides}
use Rattle.mt_facts.proofs.Lists.{nil_from_test}
use Rattle.mt_fault.specs.declared.fault.Fault.{Fault}
use Rattle.mt_fault.specs.declared.fault.Why.TheVariants.{Key, Over}
use Rattle.mt_types.specs.Steps.{◌>>=◌, require}
use Rattle.mt_types.proofs.StepLemmas.{required, passed}
use Rattle.mt_defs.specs.PrimaryIndex.{index_name}
use Rattle.mt_fault.specs.Faults.{file_fault, granule_fault}
use Rattle.mt_definition.specs.RowsReading.{keys_reading}
use Rattle.mt_definition.proofs.KeyLemmas.{keys_end}
use Rattle.mt_definition.proofs.DefinitionLaw.{required_true}

abbrev behind_key : ℕ → List ℕ → List (List ℕ) → List ℕ → Unit {0} → Result Unit Fault
behind_key granule key keys bytes _ = keys_reading (granule + 1) keys (drop (length key) bytes)

keys_next : (granule : ℕ) (key : List ℕ) (keys : List (List ℕ)) (bytes : List ℕ)
    → keys_reading granule (key ∷ keys) bytes ≡ (require (bytes_eq (take (length key) bytes) key) (granule_fault index_name granule Key) >>= behind_key granule key keys bytes)
unfolding keys_reading
keys_next granule key keys bytes = refl

-- bytes that are read as keys are these keys
pub read_keys : {X : Type 0} (key : X → List ℕ) (xs : List X) (granule : ℕ) (bytes : List ℕ) → keys_reading granule (map key xs) bytes ≡ Ok tt → bytes ≡ flat_map key xs
read_keys key [] granule bytes e = nil_from_test bytes (required_true (length bytes == 0) (file_fault index_name Over) (sym (keys_end granule bytes) ∙ e))
read_keys key (x ∷ xs) granule bytes e =
    required (bytes_eq (take (length (key x)) bytes) (key x)) (granule_fault index_name granule Key) (behind_key granule (key x) (map key xs) bytes) tt (sym (keys_next granule (key x) (map key xs) bytes) ∙ e) (λ same e.
    sym (take-append-drop (length (key x)) bytes)
    ∙ ap (λ (front : List ℕ). front ++ drop (length (key x)) bytes) ((bytes_eq-Decides (take (length (key x)) bytes) (key x)).0 same)
    ∙ ap (λ (rest : List ℕ). key x ++ rest) (read_keys key xs (granule + 1) (drop (length (key x)) bytes) e))

-- and the keys are read
pub keys_read : {X : Type 0} (key : X → List ℕ) (xs : List X) (granule : ℕ) → keys_reading granule (map key xs) (flat_map key xs) ≡ Ok tt
keys_read key [] granule = keys_end granule []
keys_read key (x ∷ xs) granule =
    let bytes = key x ++ flat_map key xs in
    keys_next granule (key x) (map key xs) bytes
    ∙ passed (bytes_eq (take (length (key x)) bytes) (key x)) (granule_fault index_name granule Key) (behind_key granule (key x) (map key xs) bytes) ((bytes_eq-Decides (take (length (key x)) bytes) (key x)).1 (take_at (key x) (flat_map key xs) (length (key x)) refl))
    ∙ ap (keys_reading (granule + 1) (map key xs)) (drop_at (key x) (flat_map key xs) (length (key x)) refl)
    ∙ keys_read key xs (granule + 1)
