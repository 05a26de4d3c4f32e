-- The line that the notes get of a status: docs/CLI.md, "Notes".
use Rattle.std.specs.Prelude.{◌≡◌, ◌⊎◌, ℕ, List, [], ◌++◌, Option, None, Some, codes, decimal}
use Rattle.std.specs.Io.KnownBytes.{append_known}
use Rattle.mt_shelf.specs.Causes.{Rose}
use Rattle.mt_shelf.specs.Streams.{GrowsByPrefix}
use Rattle.mt_fault.specs.declared.fault.Fault.{Fault}
use Rattle.mt_fault.specs.declared.fault.Why.{Why}
use Rattle.mt_fault.specs.declared.fault.Why.TheVariants as why
use Rattle.mt_table_text.specs.declared.why.TableWhy.{TableWhy}
use Rattle.mt_table_text.specs.declared.why.TableWhy.TheVariants as table
use Rattle.mt_query.specs.declared.why.QueryWhy.{QueryWhy}
use Rattle.mt_query.specs.declared.why.QueryWhy.TheVariants as query
use Rattle.mt_tsv.specs.declared.fault.RowWhy.{RowWhy}
use Rattle.mt_tsv.specs.declared.fault.RowWhy.TheVariants as row
use Rattle.mt_command.specs.declared.status.What.{What}
use Rattle.mt_command.specs.declared.status.What.TheVariants as what
use Rattle.mt_command.specs.declared.status.Status.{Status}
use Rattle.mt_command.specs.declared.status.Status.TheVariants.{Done, AtFault, BadWords, NoTable, NoPart, BadTable, BadQuery, Exists, NoRows, BadRows, ManyPartitions, MixedPartitions, TooMuch, SourceFault, ShelfFault, SinkFault, NoMemory}

-- the rule of a table text, by its variant's name
abbrev pub table_why_name : TableWhy → List ℕ
table_why_name table.Syntax = codes "Syntax"
table_why_name table.NotAType = codes "NotAType"
table_why_name table.TwoNames = codes "TwoNames"
table_why_name table.NoSuchColumn = codes "NoSuchColumn"
table_why_name table.BadKey = codes "BadKey"
table_why_name table.BadPartition = codes "BadPartition"
table_why_name table.BadSkip = codes "BadSkip"
table_why_name table.BadProjection = codes "BadProjection"
table_why_name table.Codec = codes "Codec"
table_why_name table.Setting = codes "Setting"
table_why_name table.TooMany = codes "TooMany"

-- the rule of a query, by its variant's name
abbrev pub query_why_name : QueryWhy → List ℕ
query_why_name query.TooMany = codes "TooMany"
query_why_name query.Syntax = codes "Syntax"
query_why_name query.NoSuchColumn = codes "NoSuchColumn"
query_why_name query.NotGrouped = codes "NotGrouped"
query_why_name query.BadLiteral = codes "BadLiteral"
query_why_name query.BadAggregate = codes "BadAggregate"

-- what is wrong with a line, by its variant's name
abbrev pub row_why_name : RowWhy → List ℕ
row_why_name row.NoLineEnd = codes "NoLineEnd"
row_why_name row.Columns = codes "Columns"
row_why_name row.Null = codes "Null"
row_why_name row.Number = codes "Number"
row_why_name row.Range = codes "Range"
row_why_name row.TooLong = codes "TooLong"
row_why_name row.Escape = codes "Escape"
row_why_name row.Date = codes "Date"
row_why_name row.List = codes "List"

-- what is wrong with a part, by its variant's name
abbrev pub why_name : Why → List ℕ
why_name why.Missing = codes "Missing"
why_name why.Syntax = codes "Syntax"
why_name why.Columns = codes "Columns"
why_name why.Cut = codes "Cut"
why_name why.Method = codes "Method"
why_name why.Sizes = codes "Sizes"
why_name why.TooLong = codes "TooLong"
why_name why.Length = codes "Length"
why_name why.Rows = codes "Rows"
why_name why.Order = codes "Order"
why_name why.Place = codes "Place"
why_name why.Short = codes "Short"
why_name why.Over = codes "Over"
why_name why.NullByte = codes "NullByte"
why_name why.HasByte = codes "HasByte"
why_name why.Sorted = codes "Sorted"
why_name why.Key = codes "Key"
why_name why.Partition = codes "Partition"
why_name why.Value = codes "Value"
why_name why.Projection = codes "Projection"
why_name why.Stray = codes "Stray"

-- a granule, where a fault is in one
abbrev pub granule_text : Option ℕ → List ℕ
granule_text None = []
granule_text (Some granule) = codes " granule " ++ decimal granule

-- an offset, where a fault has one
abbrev pub offset_text : Option ℕ → List ℕ
offset_text None = []
offset_text (Some offset) = codes " at " ++ decimal offset

-- a fault: its file, where in it, and why
abbrev pub fault_text : Fault → List ℕ
fault_text fault = fault.file ++ granule_text fault.granule ++ offset_text fault.at ++ codes ": " ++ why_name fault.why

-- a limited quantity, by its variant's name
abbrev pub what_name : What → List ℕ
what_name what.Table = codes "Table"
what_name what.Input = codes "Input"
what_name what.Rows = codes "Rows"
what_name what.Cells = codes "Cells"
what_name what.Part = codes "Part"

-- the line of a status; Done has none
abbrev pub line_of : Status → List ℕ
line_of Done = []
line_of (AtFault part fault) = codes "mtpart: " ++ part ++ codes ": " ++ fault_text fault ++ codes "\n"
line_of BadWords = codes "mtpart: words are no command\n"
line_of NoTable = codes "mtpart: no table\n"
line_of (NoPart part) = codes "mtpart: " ++ part ++ codes ": no part\n"
line_of (BadTable why) = codes "mtpart: bad table: " ++ table_why_name why ++ codes "\n"
line_of (BadQuery why) = codes "mtpart: bad query: " ++ query_why_name why ++ codes "\n"
line_of Exists = codes "mtpart: target exists\n"
line_of NoRows = codes "mtpart: no rows\n"
line_of (BadRows line why) = codes "mtpart: line " ++ decimal line ++ codes ": " ++ row_why_name why ++ codes "\n"
line_of (ManyPartitions line) = codes "mtpart: line " ++ decimal line ++ codes ": another partition\n"
line_of (MixedPartitions input) = codes "mtpart: input " ++ decimal input ++ codes ": another partition\n"
line_of (TooMuch what limit) = codes "mtpart: too much: " ++ what_name what ++ codes " above " ++ decimal limit ++ codes "\n"
line_of SourceFault = codes "mtpart: input failed\n"
line_of ShelfFault = codes "mtpart: shelf failed\n"
line_of SinkFault = codes "mtpart: output failed\n"
line_of NoMemory = codes "mtpart: no memory\n"

-- the notes got a prefix of the status's line, and the whole line unless they failed;
-- of Done nothing, and where memory ran out a prefix of some status's line
abbrev pub Noted : Status → Option (List ℕ) → Option (List ℕ) → ℕ → ℕ → Type 0
Noted Done old new before now = new ≡ old
Noted NoMemory old new before now = (status : Status) × GrowsByPrefix (line_of status) old new
Noted status old new before now = GrowsByPrefix (line_of status) old new × (Rose before now ⊎ (new ≡ append_known old (line_of status)))

-- a status whose note finds no memory becomes NoMemory
abbrev pub IsReported : Status → Status → Type 0
IsReported status reported = (reported ≡ status) ⊎ ((reported ≡ NoMemory) × ¬ (status ≡ Done))
