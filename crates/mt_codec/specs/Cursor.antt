-- The substreams that are still to be read, and what the readers of one substream give.
use denote.Ref.{Bor}
use Rattle.std.specs.Prelude.{◌≡◌, ℕ, Bool, true, false, List, [], ◌∷◌, Result, Ok, Err}
use Rattle.mt_item.specs.declared.fault.ItemError.{ItemError}
use Rattle.mt_item.specs.declared.fault.ItemError.TheVariants.{Bad, NoMemory}
use Rattle.mt_codec.specs.declared.fault.CodecError.{CodecError}
use Rattle.mt_codec.specs.declared.fault.CodecError.TheVariants as error
use Rattle.mt_codec.specs.declared.streams.Streams.{Streams}
use Rattle.mt_codec.specs.declared.streams.Streams.TheVariants.{Apart, Joined}
use Rattle.mt_codec.specs.ColumnReading.{Read}
use Rattle.mt_codec.specs.Results.{CodecFailsAs, bytes_of}

-- each substream has its own bytes
abbrev pub is_apart : Streams → Bool
is_apart (Apart streams) = true
is_apart (Joined bytes) = false

-- the bytes that are left, substream by substream or all in one list
abbrev pub lists : Streams → List (List ℕ)
lists (Apart streams) = bytes_of streams.now
lists (Joined bytes) = bytes.now ∷ []

-- those behind the first
abbrev pub others : List (List ℕ) → List (List ℕ)
others [] = []
others (bytes ∷ streams) = streams

-- an item's error as that of a column
abbrev pub item_error : ℕ → ℕ → ItemError → CodecError
item_error stream item (Bad why) = error.At stream item why
item_error stream item NoMemory = error.NoMemory

-- the items of a substream, and the bytes that follow them
abbrev pub GivesItems : {A : Type 0} → Result (A × Bor (List ℕ)) CodecError → Read (A × List ℕ) → Type 0
GivesItems (Ok (items, rest)) reading = reading ≡ Ok (items, rest.now)
GivesItems (Err e) reading = CodecFailsAs e reading

-- the same, where the items are the bytes themselves
abbrev pub GivesItemBytes : Result (Bor (List ℕ) × Bor (List ℕ)) CodecError → Read (List ℕ × List ℕ) → Type 0
GivesItemBytes (Ok (items, rest)) reading = reading ≡ Ok (items.now, rest.now)
GivesItemBytes (Err e) reading = CodecFailsAs e reading

-- the substreams that are left
abbrev pub GivesLeft : Bool → Result Streams CodecError → Read (List (List ℕ)) → Type 0
GivesLeft apart (Ok left) reading = (is_apart left ≡ apart) × (reading ≡ Ok (lists left))
GivesLeft apart (Err e) reading = CodecFailsAs e reading

-- what is read, and the substreams that are left
abbrev pub GivesColumn : {A : Type 0} → Bool → Result (A × Streams) CodecError → Read (A × List (List ℕ)) → Type 0
GivesColumn apart (Ok (found, left)) reading = (is_apart left ≡ apart) × (reading ≡ Ok (found, lists left))
GivesColumn apart (Err e) reading = CodecFailsAs e reading

-- the same of a null map
abbrev pub GivesNulls : Bool → Result (Bor (List ℕ) × Streams) CodecError → Read (List ℕ × List (List ℕ)) → Type 0
GivesNulls apart (Ok (nulls, left)) reading = (is_apart left ≡ apart) × (reading ≡ Ok (nulls.now, lists left))
GivesNulls apart (Err e) reading = CodecFailsAs e reading
