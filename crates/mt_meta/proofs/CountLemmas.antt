-- A count is read exactly where it is a number in decimal within the limits.
use Rattle.std.proofs.Common.{◌≡◌, ◌≢◌, ℕ, ◌*◌, ◌<◌, ◌≤◌, ◌^◌, true, false, not, List, [], ◌∷◌, get_or, zero, suc, Result, Ok, sym, ap, ◌∙◌, arith, subst, lit<}
use Rattle.std.specs.Prelude.{nat_le, ◌==◌}
use Rattle.std.specs.Fmt.{decimal}
use Rattle.std.specs.Str.{all_ascii_digits}
use Rattle.std.specs.Str.Parse.{digits_value}
use Rattle.std.proofs.lemmas.Bool.{leb-true, le-leb, eqb-false, ne_eqb, and_parts, not-true}
use Rattle.std.proofs.lemmas.Fmt.{decimal_digit, first_decimal, decimal_is_IsNumeral, decimal-digits_value, digits_value-decimal}
use Rattle.mt_facts.proofs.Digits.{decimal_model}
use Rattle.mt_table.specs.declared.limits.TheConstants.{MAX_ROWS, MAX_CELLS}
use Rattle.mt_meta.specs.declared.count.CountWhy.{CountWhy}
use Rattle.mt_meta.specs.declared.count.CountWhy.TheVariants.{Syntax, TooLong}
use Rattle.mt_meta.specs.CountReading.{is_count_text, count_reading, Counts}
use Rattle.mt_types.proofs.StepLemmas.{required, passed, ok_one}

-- a number is the decimal of its value
record IsDecimal (text : List ℕ) : Type 0 where
  is : decimal (digits_value 10 text) ≡ text
  some : 1 ≤ digits_value 10 text

decimal_of : (first : ℕ) (rest : List ℕ) → first ≢ 48 → all_ascii_digits (first ∷ rest) ≡ true → digits_value 10 (first ∷ rest) < 2 ^ 64 → IsDecimal (first ∷ rest)
decimal_of first rest ne all small =
    let is = decimal-digits_value decimal_model (first ∷ rest) all (omega arith) (λ e. absurd (ne e)) small in
    record {
      is = is;
      some = elim (digits_value 10 (first ∷ rest)) as (λ v. decimal v ≡ first ∷ rest → 1 ≤ v) [
        | zero ↦ λ e. let first_is : 48 ≡ first = ap (λ (ds : List ℕ). get_or ds 0 0) (sym (decimal_digit 0 (lit< tt)) ∙ e) in absurd (ne (sym first_is))
        | suc v ↦ λ e. omega arith
      ] is;
    }

apart : (first : ℕ) → (first == 48) ≡ false → first ≢ 48
apart first e = eqb-false first 48 e

parts_of : (columns rows : ℕ) (text : List ℕ) → is_count_text text ≡ true → digits_value 10 text ≡ rows → rows ≤ MAX_ROWS → rows * columns ≤ MAX_CELLS → Counts columns rows text
parts_of columns rows [] n is few cells = cc
parts_of columns rows (first ∷ rest) n is few cells =
    let p = and_parts (not (first == 48)) (all_ascii_digits (first ∷ rest)) n in
    let most : MAX_ROWS < 2 ^ 64 = lit< tt in
    let d = decimal_of first rest (apart first (not-true (first == 48) p.0)) p.1 (omega (arith, is, few, most)) in
    record { some = omega (arith, is, d.some); few_rows = few; few_cells = cells; decimal = sym d.is ∙ ap decimal is }

pub read_is : (columns rows : ℕ) (text : List ℕ) → count_reading columns text ≡ Ok rows → Counts columns rows text
unfolding count_reading
read_is columns rows text e =
    required (is_count_text text) Syntax _ _ e (λ n e. required (nat_le (digits_value 10 text) MAX_ROWS) TooLong _ _ e (λ few e. required (nat_le (digits_value 10 text * columns) MAX_CELLS) TooLong _ _ e (λ cells e.
    let is : digits_value 10 text ≡ rows = sym (ok_one _ _ e) in
    parts_of columns rows text n is (subst (λ r. r ≤ MAX_ROWS) is (leb-true (digits_value 10 text) MAX_ROWS few)) (subst (λ r. r * columns ≤ MAX_CELLS) is (leb-true (digits_value 10 text * columns) MAX_CELLS cells)))))

number_of : (text : List ℕ) → 48 < get_or text 0 0 → all_ascii_digits text ≡ true → is_count_text text ≡ true
number_of [] lt all = absurd (omega arith)
number_of (first ∷ rest) lt all = rw (ne_eqb first 48 (λ e. omega arith)) all

pub is_read : (columns rows : ℕ) (text : List ℕ) → Counts columns rows text → count_reading columns text ≡ Ok rows
unfolding count_reading
is_read columns rows text c =
    let most : MAX_ROWS < 2 ^ 64 = lit< tt in
    let small : rows < 2 ^ 64 = omega (arith, c.few_rows, most) in
    let value : digits_value 10 text ≡ rows = ap (digits_value 10) c.decimal ∙ digits_value-decimal decimal_model rows small in
    let first : 48 < get_or text 0 0 = subst (λ ds. 48 < get_or ds 0 0) (sym c.decimal) (first_decimal rows c.some small) in
    let all : all_ascii_digits text ≡ true = subst (λ ds. all_ascii_digits ds ≡ true) (sym c.decimal) (decimal_model.from (decimal rows) (decimal_is_IsNumeral rows small).0.1) in
    passed (is_count_text text) Syntax _ (number_of text first all)
    ∙ passed (nat_le (digits_value 10 text) MAX_ROWS) TooLong _ (subst (λ r. nat_le r MAX_ROWS ≡ true) (sym value) (le-leb rows MAX_ROWS c.few_rows))
    ∙ passed (nat_le (digits_value 10 text * columns) MAX_CELLS) TooLong _ (subst (λ r. nat_le (r * columns) MAX_CELLS ≡ true) (sym value) (le-leb (rows * columns) MAX_CELLS c.few_cells))
    ∙ ap (λ (r : ℕ). let q : Result ℕ CountWhy = Ok r in q) value
