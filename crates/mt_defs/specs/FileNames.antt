-- The names of a column's files: docs/FORMAT.md, "Substreams" (ClickHouse: escapeForFileName).
use Rattle.std.specs.Prelude.{ℕ, ◌+◌, ◌/◌, ◌%◌, nat_lt, nat_le, Bool, ◌&&◌, ◌||◌, ◌==◌, if◌then◌else◌, List, [], ◌∷◌, ◌++◌, map, codes}
use Rattle.std.specs.List.{flat_map}
use Rattle.std.specs.Fmt.{decimal}
use Rattle.mt_types.specs.declared.ty.Ty.{Ty}
use Rattle.mt_types.specs.declared.ty.Ty.TheOpen.{Ty-F}
use Rattle.mt_types.specs.declared.ty.Ty.TheFolds.{fold-Ty}
use Rattle.mt_types.specs.Profile.{Kind, Nested, kind_of}
use Rattle.mt_table.specs.declared.column.Column.{Column}

-- a byte from `low` to `high`
abbrev pub is_between : ℕ → ℕ → ℕ → Bool
is_between low high byte = nat_le low byte && nat_le byte high

-- a letter, a digit or `_`
abbrev pub is_word_byte : ℕ → Bool
is_word_byte byte = is_between 48 57 byte || is_between 65 90 byte || byte == 95 || is_between 97 122 byte

-- an upper-case hexadecimal digit
abbrev pub hex_digit : ℕ → ℕ
hex_digit n = if nat_lt n 10 then 48 + n else 55 + n

-- a byte of a name in a file's name: itself, or `%` and two hexadecimal digits
abbrev pub file_name_byte : ℕ → List ℕ
file_name_byte byte = if is_word_byte byte then byte ∷ [] else codes "%" ++ hex_digit (byte / 16) ∷ hex_digit (byte % 16) ∷ []

-- a column's or an index's name in the names of its files
abbrev pub file_name : List ℕ → List ℕ
file_name name = flat_map file_name_byte name

-- the suffixes of a type at a level of arrays, where those of the type inside are given
abbrev pub suffix_step : Ty-F (ℕ → List (List ℕ)) → ℕ → List (List ℕ)
suffix_step (Ty-F.Nullable inner) level = codes ".null" ∷ inner level
suffix_step (Ty-F.Array inner) level = (codes ".size" ++ decimal level) ∷ inner (level + 1)
suffix_step _ level = [] ∷ []

-- what follows the column's name in the file name of each substream, the outermost sizes at level 0
abbrev pub stream_suffixes : Ty → List (List ℕ)
stream_suffixes ty = fold-Ty (ℕ → List (List ℕ)) suffix_step ty 0

-- how many arrays a type of this kind has inside each other
abbrev pub levels_of_kind : Kind → ℕ
levels_of_kind (Nested depth) = depth
levels_of_kind _ = 0

-- how many arrays a type has inside each other
abbrev pub array_levels : Ty → ℕ
array_levels ty = levels_of_kind (kind_of ty)

-- the file names of a column's substreams, without `.bin` and `.mrk2`
abbrev pub stream_names : Column → List (List ℕ)
stream_names column = map (λ suffix. file_name column.name ++ suffix) (stream_suffixes column.ty)

-- the data file and the marks file of a substream in a Wide part
abbrev pub data_name : List ℕ → List ℕ
data_name stream_name = stream_name ++ codes ".bin"

-- the marks file of a substream in a Wide part
abbrev pub marks_name : List ℕ → List ℕ
marks_name stream_name = stream_name ++ codes ".mrk2"
