-- What the readers of substreams give.
use denote.Ref.{Bor}
use Rattle.std.specs.Prelude.{◌≡◌, ◌≤◌, ℕ, List, ◌++◌, length, map, drop, Result, Ok, Err}
use Rattle.std.specs.List.{flat_map}
use Rattle.mt_types.specs.declared.ty.Ty.{Ty}
use Rattle.mt_types.specs.declared.value.Value.{Value}
use Rattle.mt_defs.specs.Encoding.{Encodes}
use Rattle.mt_codec.specs.declared.fault.CodecError.{CodecError}
use Rattle.mt_codec.specs.declared.fault.CodecError.TheVariants.{At, NoMemory}
use Rattle.mt_codec.specs.ColumnReading.{Read}

-- the bytes of some slices
abbrev pub bytes_of : List (Bor (List ℕ)) → List (List ℕ)
bytes_of slices = map (λ slice. slice.now) slices

-- an error is the reading's fault, out of memory aside
abbrev pub CodecFailsAs : {A : Type 0} → CodecError → Read A → Type 0
CodecFailsAs (At stream item why) reading = reading ≡ Err (stream, (item, why))
CodecFailsAs NoMemory reading = Unit {0}

-- what is returned is what the substreams are read as
abbrev pub GivesSubstreams : {A : Type 0} → Result A CodecError → Read A → Type 0
GivesSubstreams (Ok found) reading = reading ≡ Ok found
GivesSubstreams (Err e) reading = CodecFailsAs e reading

-- the same of the values at the start of some bytes, and of how many bytes they take
abbrev pub GivesFront : List ℕ → Result (List Value × ℕ) CodecError → Read (List Value × List ℕ) → Type 0
GivesFront bytes (Ok (values, used)) reading = (used ≤ length bytes) × (reading ≡ Ok (values, drop used bytes))
GivesFront bytes (Err e) reading = CodecFailsAs e reading

-- ---- what it means

-- the substreams are the serialization of these values, and they are so many
abbrev pub AreValues : Ty → ℕ → List (List ℕ) → List Value → Type 0
AreValues ty rows streams values = (length values ≡ rows) × Encodes ty values streams

-- these values are returned, out of memory aside
abbrev pub Returns : {A : Type 0} → A → Result A CodecError → Type 0
Returns found (Ok x) = x ≡ found
Returns found (Err (At stream item why)) = ⊥
Returns found (Err NoMemory) = Unit {0}

-- the bytes begin with the serialization of these values, which are so many and take so many bytes
abbrev pub AreFirstValues : Ty → ℕ → List ℕ → List Value → ℕ → Type 0
AreFirstValues ty rows bytes values used =
    (length values ≡ rows) × ((streams : List (List ℕ)) × Encodes ty values streams × (used ≡ length (flat_map (λ s. s) streams)) × (bytes ≡ flat_map (λ s. s) streams ++ drop used bytes))
