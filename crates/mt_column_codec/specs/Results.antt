-- What the readers of columns give, as the readers of values say it.
use Rattle.std.specs.Prelude.{List, Result, Ok, Err}
use Rattle.mt_types.specs.declared.value.Value.{Value}
use Rattle.mt_columns.specs.Nesting.{Columned}
use Rattle.mt_codec.specs.declared.fault.CodecError.{CodecError}

-- what is returned beside another thing, with its values in its place
abbrev pub as_values : {A B X E : Type 0} → (A → B) → Result (A × X) E → Result (B × X) E
as_values values (Ok (found, beside)) = Ok (values found, beside)
as_values values (Err e) = Err e

-- a column that is returned, with its values in its place
abbrev pub column_values : Result Columned CodecError → Result (List Value) CodecError
column_values (Ok column) = Ok column.values
column_values (Err e) = Err e
