-- What reading a table text gives.
use Rattle.std.proofs.Common.{◌≡◌, inl, inr, ℕ, Bool, true, false, List, refl, ap, sym, ◌∙◌}
use Rattle.std.specs.Prelude.{IfOk, Result, Ok, Err}
use Rattle.std.proofs.Math.Bool.{Bool-set}
use Rattle.mt_syntax.specs.declared.tree.TableText.{TableText}
use Rattle.mt_syntax.specs.Grammar.{IsTableText}
use Rattle.mt_syntax.proofs.SentenceLaws.{one_sentence}
use Rattle.mt_table.specs.declared.definition.Table.{Table}
use Rattle.mt_table.specs.Fields.{Fields}
use Rattle.mt_table.specs.Kept.{keeps_rules}
use Rattle.mt_table.specs.Tables.{fields_of_table, table_with}
use Rattle.mt_table_text.specs.declared.why.TableWhy.{TableWhy}
use Rattle.mt_table_text.specs.declared.why.TableWhy.TheVariants.{Syntax}
use Rattle.mt_table_text.specs.declared.why.TableError.{TableError}
use Rattle.mt_table_text.specs.declared.why.TableError.TheVariants as error
use Rattle.mt_table_text.specs.Judging.{fields_judged}
use Rattle.mt_table_text.specs.Tables.{Defines, GivesFields, GivesTable, fields_answered}
use Rattle.mt_table_text.specs.TextReading.{table_if, table_of_fields}

-- ---- tables of the same fields are one table

one_proof : (f : Fields) (p q : keeps_rules f ≡ true) → p ≡ q
one_proof f p q = Bool-set (keeps_rules f) true p q

if_kept : (f : Fields) (rules : keeps_rules f ≡ true) (b : Bool) (e : keeps_rules f ≡ b) → table_if f b e ≡ Ok (table_with f rules)
if_kept f rules true e = ap (λ r. Ok (table_with f r)) (one_proof f e rules)
if_kept f rules false e = absurd (let never : true ≡ false = sym rules ∙ e in cc)

-- the table of fields that keep the rules
pub table_kept : (f : Fields) (rules : keeps_rules f ≡ true) → table_of_fields f ≡ Ok (table_with f rules)
table_kept f rules = if_kept f rules (keeps_rules f) refl

-- a table is the table of its fields
own_table : (table : Table) → table_of_fields (fields_of_table table) ≡ Ok table
own_table table = table_kept (fields_of_table table) table.rules

same_ok : (a b : Table) → (let r : Result Table TableWhy = Ok a in r) ≡ Ok b → a ≡ b
same_ok a b e = cc

same_fields_answered : (a b : Fields) → (let r : Result Fields TableWhy = Ok a in r) ≡ Ok b → a ≡ b
same_fields_answered a b e = cc

same_table : (a b : Table) → fields_of_table a ≡ fields_of_table b → a ≡ b
same_table a b e = same_ok a b (sym (own_table a) ∙ ap table_of_fields e ∙ own_table b)

same_answer : (a b : Result Table TableWhy) → fields_answered a ≡ fields_answered b → a ≡ b
same_answer (Ok a) (Ok b) e = ap Ok (same_table a b (same_fields_answered (fields_of_table a) (fields_of_table b) e))
same_answer (Ok a) (Err why) e = cc
same_answer (Err why) (Ok b) e = cc
same_answer (Err why) (Err other) e = cc

-- what is given by these fields is this answer
gives_table : (r : Result Table TableError) (answer : Result Table TableWhy) (judging : Result Fields TableWhy) → GivesFields r judging → judging ≡ fields_answered answer → GivesTable r answer
gives_table (Ok table) answer judging gives is = same_answer answer (Ok table) (sym is ∙ gives)
gives_table (Err (error.Bad why)) answer judging gives is = same_answer answer (Err why) (sym is ∙ gives)
gives_table (Err error.NoMemory) answer judging gives is = tt

-- a text defines one thing
pub one_answer : (text : List ℕ) (a b : Result Table TableWhy) → Defines text a → Defines text b → a ≡ b
one_answer text a b (inl (sentence, is, says)) (inl (other, is_other, says_other)) =
    same_answer a b (sym says ∙ ap fields_judged (one_sentence text sentence other is is_other) ∙ says_other)
one_answer text a b (inl (sentence, is, says)) (inr none) = absurd (none.0 sentence is)
one_answer text a b (inr none) (inl (other, is_other, says)) = absurd (none.0 other is_other)
one_answer text a b (inr none) (inr none_other) = none.1 ∙ sym none_other.1

-- ---- the text is a sentence

pub found : (text : List ℕ) (sentence : TableText) (r : Result Table TableError) → IsTableText text sentence → GivesFields r (fields_judged sentence) → IfOk r (λ table. Defines text (Ok table))
found text sentence (Ok table) is gives = inl (sentence, is, gives)
found text sentence (Err e) is gives = tt

pub bad : (text : List ℕ) (sentence : TableText) (r : Result Table TableError) → IsTableText text sentence → GivesFields r (fields_judged sentence) → (why : TableWhy) → r ≡ Err (error.Bad why) → Defines text (Err why)
bad text sentence (Ok table) is gives why e = cc
bad text sentence (Err (error.Bad other)) is gives why e = let same : other ≡ why = cc in inl (sentence, is, gives ∙ ap Err same)
bad text sentence (Err error.NoMemory) is gives why e = cc

pub only : (text : List ℕ) (sentence : TableText) (r : Result Table TableError) → IsTableText text sentence → GivesFields r (fields_judged sentence) → (answer : Result Table TableWhy) → Defines text answer → GivesTable r answer
only text sentence r is gives answer (inl (other, is_other, says)) = gives_table r answer (fields_judged sentence) gives (ap fields_judged (one_sentence text sentence other is is_other) ∙ says)
only text sentence r is gives answer (inr none) = absurd (none.0 sentence is)

-- ---- the text is none

pub bad_syntax : (text : List ℕ) → ((sentence : TableText) → IsTableText text sentence → ⊥) → (why : TableWhy) → (let r : Result Table TableError = Err (error.Bad Syntax) in r) ≡ Err (error.Bad why) → Defines text (Err why)
bad_syntax text none why e = let same : why ≡ Syntax = cc in inr (none, ap Err same)

pub only_syntax : (text : List ℕ) → ((sentence : TableText) → IsTableText text sentence → ⊥) → (answer : Result Table TableWhy) → Defines text answer → answer ≡ Err Syntax
only_syntax text none answer (inl (sentence, is, says)) = absurd (none sentence is)
only_syntax text none answer (inr syntax) = syntax.1
