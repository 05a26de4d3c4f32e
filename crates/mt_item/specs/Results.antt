-- What the readers of items give.
use denote.Ref.{Bor}
use Rattle.std.specs.Prelude.{◌≡◌, ℕ, Bool, true, IfSome, List, ◌++◌, Option, Some, None, Result, Ok, Err}
use Rattle.mt_types.specs.declared.ty.Ty.{Ty}
use Rattle.mt_types.specs.declared.value.Value.{Value}
use Rattle.mt_types.specs.Fits.{fits_of}
use Rattle.mt_types.specs.Items.{item_bytes}
use Rattle.mt_item.specs.declared.fault.CodecWhy.{CodecWhy}
use Rattle.mt_item.specs.declared.fault.CodecWhy.TheVariants.{Short}
use Rattle.mt_item.specs.declared.fault.ItemError.{ItemError}
use Rattle.mt_item.specs.declared.fault.ItemError.TheVariants.{Bad, NoMemory}
use Rattle.mt_item.specs.ItemReading.{First}

-- ---- what is read

-- what was found is what the bytes are read as; nothing, where they are too short
abbrev pub GivesFirst : {A : Type 0} → Option (A × Bor (List ℕ)) → First A → Type 0
GivesFirst (Some (found, rest)) reading = reading ≡ Ok (found, rest.now)
GivesFirst None reading = reading ≡ Err Short

-- what was returned is what the bytes are read as
abbrev pub GivesRead : {A : Type 0} → Result (A × Bor (List ℕ)) CodecWhy → First A → Type 0
GivesRead (Ok (found, rest)) reading = reading ≡ Ok (found, rest.now)
GivesRead (Err why) reading = reading ≡ Err why

-- the same of a part of the bytes
abbrev pub GivesText : Result (Bor (List ℕ) × Bor (List ℕ)) CodecWhy → First (List ℕ) → Type 0
GivesText (Ok (text, rest)) reading = reading ≡ Ok (text.now, rest.now)
GivesText (Err why) reading = reading ≡ Err why

-- what was returned is what the bytes are read as, out of memory aside
abbrev pub GivesItem : {A : Type 0} → Result (A × Bor (List ℕ)) ItemError → First A → Type 0
GivesItem (Ok (found, rest)) reading = reading ≡ Ok (found, rest.now)
GivesItem (Err (Bad why)) reading = reading ≡ Err why
GivesItem (Err NoMemory) reading = Unit {0}

-- ---- what it means

-- the one value that the bytes begin with, and what follows it; or nothing, where there is none
pub record IsFirst {V : Type 0} (fits : V → Bool) (bytes_of : V → List ℕ) (bytes : List ℕ) (read : Option (V × List ℕ)) : Type 0 where
  pub found : IfSome read (λ first. (fits first.0 ≡ true) × (bytes ≡ bytes_of first.0 ++ first.1))
  pub only : (value : V) (rest : List ℕ) → fits value ≡ true → bytes ≡ bytes_of value ++ rest → read ≡ Some (value, rest)

-- what is returned is the one value of the type whose item the bytes begin with, and what follows
-- it; the bytes are wrong where there is none; out of memory aside
abbrev pub GivesFirstItem : Ty → List ℕ → Result (Value × Bor (List ℕ)) ItemError → Type 0
GivesFirstItem ty bytes (Ok (value, rest)) = IsFirst (fits_of ty) (item_bytes ty) bytes (Some (value, rest.now))
GivesFirstItem ty bytes (Err (Bad why)) = IsFirst (fits_of ty) (item_bytes ty) bytes None
GivesFirstItem ty bytes (Err NoMemory) = Unit {0}
