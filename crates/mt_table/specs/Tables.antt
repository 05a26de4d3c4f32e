-- Tables: their fields, and the table of fields that keep the rules.
use Rattle.std.specs.Prelude.{IsTrue}
use Rattle.mt_table.specs.declared.definition.Table.{Table}
use Rattle.mt_table.specs.Fields.{Fields, fields}
use Rattle.mt_table.specs.Kept.{keeps_rules}

-- what a table says
abbrev pub fields_of_table : Table → Fields
fields_of_table table = fields table.name table.columns table.partition table.sort table.primary table.skips table.projections table.settings

-- the table of fields that keep the rules
abbrev pub table_with : (f : Fields) → IsTrue (keeps_rules f) → Table
table_with f rules = record {
  name = f.name;
  columns = f.columns;
  partition = f.partition;
  sort = f.sort;
  primary = f.primary;
  skips = f.skips;
  projections = f.projections;
  settings = f.settings;
  rules = rules;
}
