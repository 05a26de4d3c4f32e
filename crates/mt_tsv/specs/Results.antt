-- What code returns of a reading that may fail.
use Rattle.std.specs.Prelude.{◌≡◌, Result, Ok, Err, Bool, if◌then◌else◌}
use Rattle.mt_tsv.specs.declared.fault.RowWhy.{RowWhy}
use Rattle.mt_tsv.specs.declared.fault.FieldError.{FieldError}
use Rattle.mt_tsv.specs.declared.fault.FieldError.TheVariants as field
use Rattle.mt_tsv.specs.declared.fault.RowError.{RowError}
use Rattle.mt_tsv.specs.declared.fault.RowError.TheVariants as row

-- what follows, if the test holds
abbrev pub unless_bad : {B E : Type 0} → Bool → E → Result B E → Result B E
unless_bad ok why next = if ok then next else Err why

-- what is wrong with the field, unless memory was refused
abbrev pub FieldFails : {A : Type 0} → FieldError → Result A RowWhy → Type 0
FieldFails (field.Bad why) reading = reading ≡ Err why
FieldFails field.NoMemory reading = Unit {0}

-- what was returned of a field or a line is its reading, unless memory was refused
abbrev pub GivesField : {A : Type 0} → Result A FieldError → Result A RowWhy → Type 0
GivesField (Ok x) reading = reading ≡ Ok x
GivesField (Err e) reading = FieldFails e reading

-- what is wrong with the text, unless memory was refused
abbrev pub RowsFail : {A : Type 0} → RowError → Result A RowError → Type 0
RowsFail row.NoMemory reading = Unit {0}
RowsFail error reading = reading ≡ Err error

-- what was returned of a text is its reading, unless memory was refused
abbrev pub GivesRows : {A : Type 0} → Result A RowError → Result A RowError → Type 0
GivesRows (Ok x) reading = reading ≡ Ok x
GivesRows (Err e) reading = RowsFail e reading
