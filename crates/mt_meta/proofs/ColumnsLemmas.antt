-- What a columns.txt is read as, from its parts.
use Rattle.std.proofs.Common.{◌≡◌, ℕ, ◌<◌, true, List, [], ◌∷◌, length, map, Option, Some, None, Result, Err, refl, sym, ap, ◌∙◌, arith}
use Rattle.std.specs.Prelude.{option_map, option_and_then, position}
use Rattle.std.proofs.lemmas.Bool.{false_from_ne_true}
use Rattle.mt_fault.specs.declared.fault.Fault.{Fault}
use Rattle.mt_fault.specs.declared.fault.Why.TheVariants.{Syntax, Columns}
use Rattle.mt_fault.specs.declared.error.FileError.{FileError}
use Rattle.mt_fault.specs.declared.error.FileError.TheVariants.{AtFault, NoMemory}
use Rattle.mt_table.specs.declared.column.Column.{Column}
use Rattle.mt_defs.specs.Metadata.{column_line, may_list}
use Rattle.mt_defs.proofs.ListedColumns.{listed_few}
use Rattle.mt_types.specs.Steps.{ok_or}
use Rattle.mt_meta.specs.ColumnsReading.{listing, is_line, order_of, if_listed, columns_reading}
use Rattle.mt_fault.specs.Results.{FailsAs}
use Rattle.mt_fault.specs.Results.{IsFault}

pub reading_syntax : (columns : List Column) (must text : List ℕ) → listing text ≡ None → columns_reading columns must text ≡ Err Syntax
unfolding columns_reading
reading_syntax columns must text e = rw e refl

pub reading_is : (columns : List Column) (must text : List ℕ) (lines : List (List ℕ)) → listing text ≡ Some lines
    → columns_reading columns must text ≡ ok_or Columns (option_and_then (if_listed columns must) (order_of (map column_line columns) lines))
unfolding columns_reading
reading_is columns must text lines e = rw e refl

-- ---- as many indexes as lines

onto_is : (i : ℕ) (rest : Option (List ℕ)) (order : List ℕ) → option_map (λ more. i ∷ more) rest ≡ Some order → (more : List ℕ) × (rest ≡ Some more) × (order ≡ i ∷ more)
onto_is i None order e = cc
onto_is i (Some more) order e = (more, refl, cc)

first_is : (rest : Option (List ℕ)) (found : Option ℕ) (order : List ℕ) → option_and_then (λ i. option_map (λ more. i ∷ more) rest) found ≡ Some order
    → (i : ℕ) × (more : List ℕ) × (found ≡ Some i) × (rest ≡ Some more) × (order ≡ i ∷ more)
first_is rest None order e = cc
first_is rest (Some i) order e = let m = onto_is i rest order e in (i, m.0, refl, m.1, m.2)

pub order_step : (columns : List (List ℕ)) (line : List ℕ) (lines : List (List ℕ)) (order : List ℕ) → order_of columns (line ∷ lines) ≡ Some order
    → (i : ℕ) × (more : List ℕ) × (position (is_line line) columns ≡ Some i) × (order_of columns lines ≡ Some more) × (order ≡ i ∷ more)
unfolding order_of
order_step columns line lines order e = first_is (order_of columns lines) (position (is_line line) columns) order e

pub order_none : (columns : List (List ℕ)) (order : List ℕ) → order_of columns [] ≡ Some order → order ≡ []
unfolding order_of
order_none columns order e = cc

pub order_length : (columns lines : List (List ℕ)) (order : List ℕ) → order_of columns lines ≡ Some order → length order ≡ length lines
order_length columns [] order e = ap length (order_none columns order e)
order_length columns (line ∷ lines) order e =
    let s = order_step columns line lines order e in
    ap length s.4 ∙ omega (arith, order_length columns lines s.1 s.3)

if_none : (columns : List Column) (must : List ℕ) (order : Option (List ℕ)) → ((found : List ℕ) → order ≡ Some found → may_list columns must found ≡ true → ⊥) → option_and_then (if_listed columns must) order ≡ None
if_none columns must None ne = refl
if_none columns must (Some found) ne = rw (false_from_ne_true (may_list columns must found) (ne found refl)) refl

-- more lines than there are columns
pub too_many : (columns : List Column) (must : List ℕ) (lines : List (List ℕ)) → length columns < length lines → option_and_then (if_listed columns must) (order_of (map column_line columns) lines) ≡ None
too_many columns must lines more =
    if_none columns must (order_of (map column_line columns) lines) (λ found e may.
    let long = order_length (map column_line columns) lines found e in
    let few = listed_few columns must found may in
    omega (arith, more, long, few))

-- the order that was found decides
pub reading_found : (columns : List Column) (must text : List ℕ) (lines : List (List ℕ)) (found : Option (List ℕ)) → listing text ≡ Some lines
    → found ≡ option_and_then (if_listed columns must) (order_of (map column_line columns) lines) → columns_reading columns must text ≡ ok_or Columns found
reading_found columns must text lines found e is = reading_is columns must text lines e ∙ ap (ok_or Columns) (sym is)
