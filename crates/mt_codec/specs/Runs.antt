-- Values that stand in several runs, and what the writer puts for each of them.
use Rattle.std.specs.Prelude.{ℕ, Bool, ◌||◌, List, [], ◌∷◌, length}
use Rattle.std.specs.List.{flat_map}
use Rattle.std.specs.Borrow.{Bor}
use Rattle.std.specs.Int.{w64, to_le_bytes}
use Rattle.mt_types.specs.declared.ty.Ty.{Ty}
use Rattle.mt_types.specs.declared.value.Value.{Value, out-Value}
use Rattle.mt_types.specs.Defaults.{default_of}
use Rattle.mt_types.specs.Fits.{fits_of, null_at}
use Rattle.mt_types.specs.Items.{item_bytes}
use Rattle.mt_defs.specs.Encoding.{null_byte}
use Rattle.mt_defs.specs.WrittenStreams.{elements_at, or_default}

-- the values of some runs, one run after another
abbrev pub values_of : List (Bor (List Value)) → List Value
values_of runs = flat_map (λ run. run.now) runs

-- the size of an array
abbrev pub size_item : Value → List ℕ
size_item value = to_le_bytes w64 (length (elements_at (out-Value value)))

-- the byte of a null map
abbrev pub null_item : Value → List ℕ
null_item value = null_byte value ∷ []

-- the item of a value, the default's in the place of NULL
abbrev pub written_item : Ty → Value → List ℕ
written_item ty value = item_bytes ty (or_default (default_of ty) value)

-- the value is the type's, or NULL
abbrev pub fits_or_null : Ty → Value → Bool
fits_or_null ty value = null_at (out-Value value) || fits_of ty value
