-- primary.idx, read: docs/FORMAT.md, "Primary index".
pub use Rattle.mt_item.specs.Results.{IsFirst}
use Rattle.std.specs.Prelude.{◌≡◌, ◌≢◌, ℕ, ◌<◌, Bool, true, false, ◌&&◌, List, [], ◌∷◌, ◌++◌, length, map, take, Option, Some, None, option_map, Result, Ok, Err, ◌⊎◌}
use Rattle.std.specs.List.{list_all, flat_map}
use denote.Ref.{Bor}
use Rattle.mt_types.specs.declared.ty.Ty.{Ty}
use Rattle.mt_types.specs.declared.value.Value.{Value}
use Rattle.mt_types.specs.Fits.{fits_of}
use Rattle.mt_types.specs.Items.{item_bytes}
use Rattle.mt_fault.specs.declared.fault.Fault.{Fault}
use Rattle.mt_fault.specs.declared.fault.Why.TheVariants.{Key, Over}
use Rattle.mt_fault.specs.declared.error.FileError.{FileError}
use Rattle.mt_fault.specs.declared.error.FileError.TheVariants.{AtFault, NoMemory}
use Rattle.mt_table.specs.declared.column.Column.{Column}
use Rattle.mt_table.specs.declared.definition.PartDef.{PartDef}
use Rattle.mt_defs.specs.Metadata.{column_at}
use Rattle.mt_defs.specs.Rows.{Row}
use Rattle.mt_defs.specs.PrimaryIndex.{index_name}
use Rattle.mt_fault.specs.Results.{IsFault}

-- ---- keys as lists of values

-- the types of a key's columns
abbrev pub types_of_key : List Column → List ℕ → List Ty
types_of_key columns keys = map (λ i. (column_at columns i).ty) keys

-- the types of the primary key
abbrev pub key_types : PartDef → List Ty
key_types definition = types_of_key definition.columns (take definition.primary definition.sort)

-- one value of each type
abbrev pub fits_key : List Ty → Row → Bool
fits_key [] [] = true
fits_key (ty ∷ types) (value ∷ values) = fits_of ty value && fits_key types values
fits_key _ _ = false

-- the items of a key, one after another
abbrev pub key_items : List Ty → Row → List ℕ
key_items (ty ∷ types) (value ∷ values) = item_bytes ty value ++ key_items types values
key_items _ _ = []

-- the bytes are so many keys
pub record AreKeysOf (types : List Ty) (count : ℕ) (bytes : List ℕ) (keys : List Row) : Type 0 where
  pub fit : list_all (fits_key types) keys ≡ true
  pub many : length keys ≡ count
  pub items : bytes ≡ flat_map (key_items types) keys

-- ---- what some bytes begin with

-- what was read, without its references
abbrev pub read_of : {V : Type 0} → Option (V × Bor (List ℕ)) → Option (V × List ℕ)
read_of read = option_map (λ first. (first.0, first.1.now)) read

abbrev pub IsFirstItem : Ty → List ℕ → Option (Value × Bor (List ℕ)) → Type 0
IsFirstItem ty bytes read = IsFirst (fits_of ty) (item_bytes ty) bytes (read_of read)

abbrev pub IsFirstKey : List Ty → List ℕ → Option (Row × Bor (List ℕ)) → Type 0
IsFirstKey types bytes read = IsFirst (fits_key types) (key_items types) bytes (read_of read)

-- ---- faults

-- no key of the type stands where one more must stand
abbrev pub IsNoKey : List Ty → ℕ → List Row → List ℕ → Fault → Type 0
IsNoKey types count keys rest fault =
    (fault ≡ record { file = index_name; granule = Some (length keys); at = None; why = Key }) × (length keys < count)
    × ((key : Row) (more : List ℕ) → fits_key types key ≡ true → rest ≡ key_items types key ++ more → ⊥)

-- bytes follow the keys
abbrev pub IsTooLong : ℕ → List Row → List ℕ → Fault → Type 0
IsTooLong count keys rest fault =
    (fault ≡ record { file = index_name; granule = None; at = None; why = Over }) × (length keys ≡ count) × (rest ≢ [])

-- the first keys of the bytes are good, and this is wrong with what follows them
pub record IsKeyFault (types : List Ty) (count : ℕ) (bytes : List ℕ) (fault : Fault) : Type 0 where
  pub keys : List Row
  pub rest : List ℕ
  pub fit : list_all (fits_key types) keys ≡ true
  pub items : bytes ≡ flat_map (key_items types) keys ++ rest
  pub wrong : IsNoKey types count keys rest fault ⊎ IsTooLong count keys rest fault

-- what the reader gives: the keys, or the first fault
abbrev pub GivesKeys : List Ty → ℕ → List ℕ → Result (List Row) FileError → Type 0
GivesKeys types count bytes (Ok keys) = AreKeysOf types count bytes keys
GivesKeys types count bytes (Err (AtFault fault)) = IsKeyFault types count bytes fault
GivesKeys types count bytes (Err NoMemory) = Unit {0}

-- these keys are returned, out of memory aside
abbrev pub ReturnsKeys : List Row → Result (List Row) FileError → Type 0
ReturnsKeys keys (Ok found) = found ≡ keys
ReturnsKeys keys (Err (AtFault fault)) = ⊥
ReturnsKeys keys (Err NoMemory) = Unit {0}

-- all keys are read: then nothing may follow them
abbrev pub GivesAll : List Row → List ℕ → Result (List Row) FileError → Type 0
GivesAll keys rest (Ok found) = (found ≡ keys) × (rest ≡ [])
GivesAll keys rest (Err e) = IsFault (record { file = index_name; granule = None; at = None; why = Over }) e × (rest ≢ [])
