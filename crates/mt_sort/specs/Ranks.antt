-- The rank of a value: a number that never falls along the order on values.
use Rattle.std.specs.Prelude.{ℕ, zero, suc, ◌+◌, ◌-◌, ◌*◌, ◌^◌, min, nat_lt, Bool, true, false, ◌&&◌, ℤ, pos, negsuc, List, [], ◌∷◌, if◌then◌else◌}
use Rattle.mt_types.specs.declared.ty.Ty.{Ty, out-Ty}
use Rattle.mt_types.specs.declared.ty.Ty.TheOpen.{Ty-F}
use Rattle.mt_types.specs.declared.value.Value.{Value, out-Value}
use Rattle.mt_types.specs.declared.value.Value.TheOpen.{Value-F}
use Rattle.std.specs.List.{list_any}
use Rattle.mt_types.specs.Fits.{Level}
use Rattle.mt_defs.specs.Rows.{Row, cell}
use Rattle.mt_sort.specs.declared.rank.Scale.{Scale}
use Rattle.mt_sort.specs.declared.rank.Scale.TheVariants.{Numbers, Texts}

-- the scale of one level of a type
abbrev pub scale_at : {X : Type 0} → Ty-F X → Scale
scale_at (Ty-F.Int width) = Numbers (2 ^ 63)
scale_at (Ty-F.UInt width) = Numbers 1
scale_at Ty-F.Date = Numbers 1
scale_at Ty-F.Moment = Numbers 1
scale_at _ = Texts

-- the scale of a type's values
abbrev pub scale_of : Ty → Scale
scale_of ty = scale_at (out-Ty ty)

-- the greatest rank
abbrev pub top_rank : ℕ
top_rank = 2 ^ 64 - 1

-- the rank of a number where that of 0 is given: its distance from the number of rank 0
abbrev pub number_rank : ℕ → ℤ → ℕ
number_rank origin (pos n) = min (origin + n) top_rank
number_rank origin (negsuc n) = min (origin - suc n) top_rank

-- the number that the first so many bytes spell, zeros after the last; what is no byte comes after all of them
abbrev pub prefix_rank : ℕ → List ℕ → ℕ
prefix_rank zero bytes = 0
prefix_rank (suc n) [] = 0
prefix_rank (suc n) (byte ∷ bytes) = if nat_lt byte 256 then byte * 256 ^ n + prefix_rank n bytes else 256 ^ suc n - 1

-- the rank of a text
abbrev pub text_rank : List ℕ → ℕ
text_rank bytes = prefix_rank 8 bytes

-- the rank of one level of a value
abbrev pub level_rank : Scale → Level → ℕ
level_rank (Numbers origin) (Value-F.Num n) = number_rank origin n
level_rank (Numbers origin) (Value-F.Huge n) = number_rank origin (pos n)
level_rank Texts (Value-F.Num n) = 0
level_rank Texts (Value-F.Huge n) = 0
level_rank Texts (Value-F.Text bytes) = text_rank bytes
level_rank _ _ = top_rank

-- the rank of a value on a scale
abbrev pub value_rank : Scale → Value → ℕ
value_rank scale value = level_rank scale (out-Value value)

-- whether only one value that is no Huge has this rank: a number that neither end has cut off
abbrev pub is_decided : Scale → ℕ → Bool
is_decided (Numbers origin) rank = nat_lt 0 rank && nat_lt rank top_rank
is_decided Texts rank = false

-- a Huge, which ties in rank with a Num of the same number
abbrev pub huge_at : Level → Bool
huge_at (Value-F.Huge n) = true
huge_at _ = false

-- whether a row has a Huge in one of these columns
abbrev pub has_huge : List ℕ → Row → Bool
has_huge columns row = list_any (λ column. huge_at (out-Value (cell row column))) columns
