-- The payloads of a column's substreams.
use Rattle.std.specs.Prelude.{◌≡◌, ℕ, List, map}
use Rattle.mt_codec.specs.declared.fault.CodecError.{CodecError}
use Rattle.mt_codec.specs.declared.fault.CodecError.TheVariants as codec
use Rattle.mt_fault.specs.declared.error.FileError.{FileError}
use Rattle.mt_fault.specs.declared.error.FileError.TheVariants.{NoMemory}
use Rattle.mt_granules.specs.declared.payloads.Payloads.{Payloads}
use Rattle.mt_granules.specs.PayloadReading.{granules_of}
use Rattle.mt_granules.specs.PayloadView.{payloads_in}
use Rattle.mt_fault.specs.Results.{IsFault}
use Rattle.mt_wide.specs.WideReading.{value_fault}

-- the payloads of each substream
abbrev pub streams_in : List Payloads → List (List (List ℕ))
streams_in streams = map (λ read. (payloads_in read).payloads) streams

-- the substream has these granules, with a payload in each
abbrev pub HasGranules : List ℕ → Payloads → Type 0
HasGranules granules read = (granules_of read.marks ≡ granules) × (read.marks.per_granule ≡ 1)

-- the error names the fault of a column's values in a granule
abbrev pub TellsOf : List (List ℕ) → ℕ → CodecError → FileError → Type 0
TellsOf names granule (codec.At stream item why) error = IsFault (value_fault names granule (stream, (item, why))) error
TellsOf names granule codec.NoMemory error = error ≡ NoMemory
