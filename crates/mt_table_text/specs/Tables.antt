-- The table that a text defines.
use Rattle.std.specs.Prelude.{◌≡◌, ◌⊎◌, ℕ, List, Result, Ok, Err}
use Rattle.mt_syntax.specs.declared.tree.TableText.{TableText}
use Rattle.mt_syntax.specs.Grammar.{IsTableText}
use Rattle.mt_table.specs.declared.definition.Table.{Table}
use Rattle.mt_table.specs.Fields.{Fields}
use Rattle.mt_table.specs.Tables.{fields_of_table}
use Rattle.mt_table_text.specs.declared.why.TableWhy.{TableWhy}
use Rattle.mt_table_text.specs.declared.why.TableWhy.TheVariants.{Syntax}
use Rattle.mt_table_text.specs.declared.why.TableError.{TableError}
use Rattle.mt_table_text.specs.declared.why.TableError.TheVariants as error
use Rattle.mt_table_text.specs.Judging.{fields_judged}

-- what an answer says: the table's fields, or the rule that is broken
abbrev pub fields_answered : Result Table TableWhy → Result Fields TableWhy
fields_answered (Ok table) = Ok (fields_of_table table)
fields_answered (Err why) = Err why

-- What a text defines: the table of its sentence, or the first rule that it breaks. Syntax is broken where it is no sentence.
abbrev pub Defines : List ℕ → Result Table TableWhy → Type 0
Defines text answer =
    ((sentence : TableText) × IsTableText text sentence × (fields_judged sentence ≡ fields_answered answer))
    ⊎ (((sentence : TableText) → IsTableText text sentence → ⊥) × (answer ≡ Err Syntax))

-- a call's result is the table of these fields, or this rule is broken, out of memory aside
abbrev pub GivesFields : Result Table TableError → Result Fields TableWhy → Type 0
GivesFields (Ok table) judging = judging ≡ Ok (fields_of_table table)
GivesFields (Err (error.Bad why)) judging = judging ≡ Err why
GivesFields (Err error.NoMemory) judging = Unit {0}

-- a call's result is what its text defines, out of memory aside
abbrev pub GivesTable : Result Table TableError → Result Table TableWhy → Type 0
GivesTable (Ok table) reading = reading ≡ Ok table
GivesTable (Err (error.Bad why)) reading = reading ≡ Err why
GivesTable (Err error.NoMemory) reading = Unit {0}
