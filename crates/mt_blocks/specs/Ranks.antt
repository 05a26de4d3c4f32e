-- The rank of a value: a number that never falls along the order on values.
use Rattle.std.specs.Prelude.{◌≡◌, ℕ, ◌^◌, ◌==◌, nat_lt, Bool, true, false, ◌&&◌, pos, if◌then◌else◌, slice_index_or}
use Rattle.mt_types.specs.declared.ty.Width.{Width}
use Rattle.mt_types.specs.declared.value.Value.{Value, out-Value}
use Rattle.mt_types.specs.declared.value.Value.TheOpen.{Value-F}
use Rattle.mt_types.specs.declared.value.Value.TheVariants.{Null}
use Rattle.mt_types.specs.Fits.{Level}
use Rattle.mt_types.specs.Numbers.{is_narrow}
use Rattle.mt_cells.specs.declared.kind.Kind.TheVariants.{Unsigned, Signed}
use Rattle.mt_cells.specs.declared.seen.Seen.{Seen}
use Rattle.mt_cells.specs.declared.seen.Seen.TheVariants as seen
use Rattle.mt_cells.specs.Items.{ItemKind, OfCells, is_narrow_kind}
use Rattle.mt_columns.specs.Leaves.{AreNotHuge}
use Rattle.mt_columns.specs.Nesting.{Columned}
use Rattle.mt_sort.specs.Ranks.{number_rank, text_rank, top_rank}
use Rattle.mt_blocks.specs.declared.rank.Scale.{Scale}
use Rattle.mt_blocks.specs.declared.rank.Scale.TheVariants.{Numbers, Wide, Texts}

-- the rank of one level of a value
abbrev pub level_rank : Scale → Level → ℕ
level_rank (Numbers origin) (Value-F.Num n) = number_rank origin n
level_rank (Numbers origin) (Value-F.Huge n) = number_rank origin (pos n)
level_rank (Wide origin) (Value-F.Num n) = number_rank origin n
level_rank (Wide origin) (Value-F.Huge n) = number_rank origin (pos n)
level_rank Texts (Value-F.Num n) = 0
level_rank Texts (Value-F.Huge n) = 0
level_rank Texts (Value-F.Text bytes) = text_rank bytes
level_rank _ _ = top_rank

-- the rank of a value on a scale
abbrev pub value_rank : Scale → Value → ℕ
value_rank scale value = level_rank scale (out-Value value)

-- the rank of a value that is seen
abbrev pub seen_rank : Scale → Seen → ℕ
seen_rank (Numbers origin) (seen.Num n) = number_rank origin n
seen_rank (Numbers origin) (seen.Huge n) = number_rank origin (pos n)
seen_rank (Wide origin) (seen.Num n) = number_rank origin n
seen_rank (Wide origin) (seen.Huge n) = number_rank origin (pos n)
seen_rank Texts (seen.Num n) = 0
seen_rank Texts (seen.Huge n) = 0
seen_rank Texts (seen.Text bytes) = text_rank bytes.now
seen_rank _ _ = top_rank

-- whether only one value that is no Huge has this rank: a number that neither end has cut off
abbrev pub is_decided : Scale → ℕ → Bool
is_decided (Numbers origin) rank = nat_lt 0 rank && nat_lt rank top_rank
is_decided _ rank = false

-- the scale of numbers of a width, where the rank of 0 is given
abbrev pub width_scale : Width → ℕ → Scale
width_scale w origin = if is_narrow w then Numbers origin else Wide origin

-- the scale of what items stand for
abbrev pub kind_scale : ItemKind → Scale
kind_scale (OfCells (Unsigned w)) = width_scale w 1
kind_scale (OfCells (Signed w)) = width_scale w (2 ^ 63)
kind_scale _ = Texts

-- the scale of a column
abbrev pub scale_of : Columned → Scale
scale_of column = kind_scale column.kind

-- the rank of a column's value at an index; all arrays have one
abbrev pub rank_in : Columned → ℕ → ℕ
rank_in column index = if column.depth == 0 then value_rank (scale_of column) (slice_index_or column.values index Null) else 0

-- what is known of a column's values: numbers of at most 64 bits are no Huge
abbrev pub IsRanked : Columned → Type 0
IsRanked column = column.depth ≡ 0 → is_narrow_kind column.kind ≡ true → AreNotHuge column.values
