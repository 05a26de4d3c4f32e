-- What `check` and `rows` print of a part that was read, or its refusal.
use Rattle.std.proofs.Common.{◌≡◌, inl, inr, ℕ, List, Option, Some, None, IfSome, Result, Ok, Err, refl, ap}
use Rattle.mt_table.specs.declared.definition.Table.{Table}
use Rattle.mt_shelf.specs.Files.{Files}
use Rattle.mt_definition.specs.declared.accepted.Accepted.{Accepted}
use Rattle.mt_command.specs.Outcomes.{Outcomes, ReturnsOutcome, ◌>>=◌, gives}
use Rattle.mt_command.specs.Parts.{table_part_steps}
use Rattle.mt_command.specs.declared.status.Status.{Status}

-- a text of what was read
abbrev pub text_steps : (Table × Accepted → List ℕ) → List ℕ → List ℕ → Files → Outcomes (List ℕ)
text_steps text path part files = table_part_steps path part files >>= λ read. gives (Ok (text read))

-- the part isn't read
pub read_refused : (text : Table × Accepted → List ℕ) (path part : List ℕ) (status : Status) (files : Option Files) → IfSome files (λ f. ReturnsOutcome (let r : Result (Table × Accepted) Status = Err status in r) (table_part_steps path part f))
    → IfSome files (λ f. ReturnsOutcome (let r : Result (List ℕ) Status = Err status in r) (text_steps text path part f))
read_refused text path part status None gives = tt
read_refused text path part status (Some f) gives = λ inside. inr (status, gives inside, refl)

-- its text
pub text_given : (text : Table × Accepted → List ℕ) (path part : List ℕ) (read : Table × Accepted) (made : List ℕ) (files : Option Files) → IfSome files (λ f. table_part_steps path part f (Ok read)) → made ≡ text read
    → IfSome files (λ f. text_steps text path part f (Ok made))
text_given text path part read made None gives same = tt
text_given text path part read made (Some f) gives same = inl (read, gives, ap Ok same)
