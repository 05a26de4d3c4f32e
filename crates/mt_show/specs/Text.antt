-- The text of `show`: docs/CLI.md, "show".
use Rattle.std.specs.Prelude.{ℕ, ◌+◌, ◌-◌, Bool, true, false, if◌then◌else◌, Option, Some, None, List, [], ◌∷◌, ◌++◌, length, map, take, drop, codes, decimal}
use Rattle.std.specs.List.{flat_map}
use Rattle.mt_types.specs.Names.{type_name}
use Rattle.mt_table.specs.declared.column.Column.{Column}
use Rattle.mt_table.specs.declared.definition.Table.{Table}
use Rattle.mt_table.specs.declared.projection.Projection.{Projection}
use Rattle.mt_table.specs.declared.skip.Skip.{Skip}
use Rattle.mt_table.specs.declared.skip.SkipKind.{SkipKind}
use Rattle.mt_table.specs.declared.skip.SkipKind.TheVariants.{Minmax, Set}
use Rattle.mt_defs.specs.Metadata.{column_at}
use Rattle.mt_defs.specs.Projections.{projection_name}
use Rattle.mt_defs.specs.Rows.{Row, key_of}
use Rattle.mt_tsv.specs.Printing.{row_text}
use Rattle.mt_definition.specs.declared.accepted.Accepted.{Accepted}
use Rattle.mt_show.specs.declared.key.Key.{Key}
use Rattle.mt_show.specs.declared.shape.Shape.{Shape}
use Rattle.mt_show.specs.declared.shape.Size.{Size}

-- ---- the layout

abbrev pub kind_line : (compact : Bool) → List ℕ
kind_line compact = if compact then codes "kind Compact\n" else codes "kind Wide\n"

-- how many there are of what a word names
abbrev pub shown_count : (word : List ℕ) → (count : ℕ) → List ℕ
shown_count word count = word ++ decimal count ++ codes "\n"

-- ---- columns, skip indexes and projections

abbrev pub shown_column : Column → List ℕ
shown_column column = codes "column " ++ column.name ++ codes " " ++ type_name column.ty ++ codes "\n"

-- the columns of these indexes, in this order
abbrev pub shown_columns : List Column → (order : List ℕ) → List ℕ
shown_columns columns order = flat_map (λ i. shown_column (column_at columns i)) order

-- what an index keeps; of a set the most rows of distinct values
abbrev pub kind_text : SkipKind → List ℕ
kind_text Minmax = codes "minmax "
kind_text (Set max_rows) = codes "set(" ++ decimal max_rows ++ codes ") "

-- the line of an index that is there
abbrev pub skip_line : Skip → Bool → List ℕ
skip_line skip true = codes "index " ++ skip.name ++ codes " " ++ kind_text skip.kind ++ decimal skip.granularity ++ codes "\n"
skip_line skip false = []

abbrev pub size_text : Size → List ℕ
size_text size = decimal size.rows ++ codes " rows " ++ decimal size.granules ++ codes " granules\n"

-- the line of a projection of a name
abbrev pub named_line : (name : List ℕ) → Size → List ℕ
named_line name size = codes "projection " ++ name ++ codes " " ++ size_text size

-- the line of a projection that is there
abbrev pub projection_line : Projection → Option Size → List ℕ
projection_line projection (Some size) = named_line (projection_name projection) size
projection_line projection None = []

-- the lines of two lists, pair by pair
abbrev pub pair_lines : {X Y : Type 0} → (X → Y → List ℕ) → List X → List Y → List ℕ
pair_lines line (x ∷ xs) (y ∷ ys) = line x y ++ pair_lines line xs ys
pair_lines line _ _ = []

-- ---- granules

-- the primary key of a table
abbrev pub primary_key : Table → Key
primary_key table = record { columns = map (column_at table.columns) (take table.primary table.sort); places = take table.primary table.sort }

-- a tab, and then the fields of a row's key
abbrev pub key_text : Key → Row → List ℕ
key_text key row = codes "\t" ++ row_text key.columns (key_of key.places row)

-- the same of the first of some rows
abbrev pub first_key : Key → List Row → List ℕ
first_key key rows = flat_map (key_text key) (take 1 rows)

-- each granule, counted from this one: its number, how many rows it has, and the key of its first row
abbrev pub granule_lines : Key → (granule : ℕ) → (granules : List ℕ) → List Row → List ℕ
granule_lines key granule [] rows = []
granule_lines key granule (count ∷ granules) rows =
    codes "granule " ++ decimal granule ++ codes " " ++ decimal count ++ first_key key rows ++ granule_lines key (granule + 1) granules (drop count rows)

-- the key of the last row
abbrev pub last_line : Key → List Row → List ℕ
last_line key rows = codes "last" ++ first_key key (drop (length rows - 1) rows)

-- ---- the text

-- the layout, and how much there is
abbrev pub head_lines : (compact : Bool) → Accepted → List ℕ
head_lines compact accepted = kind_line compact ++ shown_count (codes "rows ") (length accepted.rows) ++ shown_count (codes "granules ") (length accepted.granules)

-- what is stored
abbrev pub stored_lines : Table → Shape → List ℕ
stored_lines table shape = shown_columns table.columns shape.order ++ pair_lines skip_line table.skips shape.skips ++ pair_lines projection_line table.projections shape.projections

-- the granules, and the last row
abbrev pub row_lines : Key → Accepted → List ℕ
row_lines key accepted = granule_lines key 0 accepted.granules accepted.rows ++ last_line key accepted.rows

-- what show prints of an accepted part of this shape
unfoldable pub show_text : Table → Shape → Accepted → List ℕ
show_text table shape accepted = head_lines shape.compact accepted ++ stored_lines table shape ++ row_lines (primary_key table) accepted
