-- What the payloads of a data file are seen as.
use Rattle.std.specs.Prelude.{ℕ, List}
use Rattle.mt_granules.specs.declared.payloads.Payloads.{Payloads}
use Rattle.mt_granules.specs.declared.payloads.Payload.{Payload}
use Rattle.mt_granules.specs.declared.payloads.Payload.TheVariants.{InFile, Joined}
use Rattle.mt_granules.specs.PayloadReading.{GranulePayloads, payloads_of}

-- the payloads of all granules
abbrev pub payloads_in : Payloads → GranulePayloads
payloads_in payloads = payloads_of payloads.file.now payloads.frames payloads.marks

-- the bytes of a payload
abbrev pub bytes_of_payload : Payload → List ℕ
bytes_of_payload (InFile bytes) = bytes.now
bytes_of_payload (Joined bytes) = bytes
