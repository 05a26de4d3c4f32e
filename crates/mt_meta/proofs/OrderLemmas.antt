-- Which columns lines list, one line after the other.
use Rattle.std.proofs.Common.{◌≡◌, ℕ, List, [], ◌∷◌, ◌++◌, Option, Some, None, refl, sym, ap, ◌∙◌, arith, append_assoc, inl, inr}
use Rattle.std.specs.Prelude.{option_map, option_and_then, position}
use Rattle.std.proofs.lemmas.Bool.{cases_Bool}
use Rattle.std.proofs.lemmas.List.{append-nil}
use Rattle.mt_meta.specs.declared.ascii.TheConstants.{LINE_END}
use Rattle.mt_meta.specs.Splitting.{split_once}
use Rattle.mt_meta.specs.ColumnsReading.{is_column_line, column_lines, is_line, order_of}
use Rattle.mt_meta.proofs.SplitLemmas.{at_byte, lines_end, lines_more}
use Rattle.mt_meta.proofs.ListingLemmas.{split, lines_step, lines_bad, lines_cut}
use Rattle.mt_meta.proofs.ColumnsLaw.{not_some}

-- the columns so far, and those of the lines that are left
abbrev pub Reaches : List (List ℕ) → List (List ℕ) → List ℕ → List ℕ → Type 0
Reaches columns lines order rest =
    (later : List (List ℕ)) × (column_lines (split rest) ≡ Some later) × (option_map (λ more. order ++ more) (order_of columns later) ≡ order_of columns lines)

with_none : (order : Option (List ℕ)) → option_map (λ more. [] ++ more) order ≡ order
with_none None = refl
with_none (Some order) = refl

pub reaches_start : (columns lines : List (List ℕ)) (text : List ℕ) → column_lines (split text) ≡ Some lines → Reaches columns lines [] text
reaches_start columns lines text e = (lines, e, with_none (order_of columns lines))

one_more : (order : List ℕ) (i : ℕ) (rest : Option (List ℕ)) → option_map (λ more. order ++ more) (option_map (λ more. i ∷ more) rest) ≡ option_map (λ more. (order ++ i ∷ []) ++ more) rest
one_more order i None = refl
one_more order i (Some rest) = ap (λ (xs : List ℕ). let o : Option (List ℕ) = Some xs in o) (sym (append_assoc order (i ∷ []) rest))

onto_some : (line : List ℕ) (lines : Option (List (List ℕ))) (later : List (List ℕ)) → option_map (λ more. line ∷ more) lines ≡ Some later → (more : List (List ℕ)) × (lines ≡ Some more) × (later ≡ line ∷ more)
onto_some line None later e = cc
onto_some line (Some more) later e = (more, refl, cc)

-- the lines that are left begin with this line
first_line : (rest line after : List ℕ) (later : List (List ℕ)) → split_once LINE_END rest ≡ Some (line, after) → column_lines (split rest) ≡ Some later
    → (more : List (List ℕ)) × (column_lines (split after) ≡ Some more) × (later ≡ line ∷ more)
first_line rest line after later e is =
    let here = lines_more LINE_END rest line after e in
    elim (cases_Bool (is_column_line line)) [
      | inl listed ↦ onto_some line (column_lines (split after)) later (sym (lines_step (split rest) line after (at_byte LINE_END) here listed) ∙ is)
      | inr other ↦ absurd (not_some later (sym (lines_bad (split rest) line after (at_byte LINE_END) here other) ∙ is))
    ]

order_first : (columns : List (List ℕ)) (line : List ℕ) (more : List (List ℕ)) (found : Option ℕ) → found ≡ position (is_line line) columns
    → order_of columns (line ∷ more) ≡ option_and_then (λ i. option_map (λ order. i ∷ order) (order_of columns more)) found
unfolding order_of
order_first columns line more found e = rw e refl

pub reaches_more : (columns lines : List (List ℕ)) (order rest line after : List ℕ) (i : ℕ) → split_once LINE_END rest ≡ Some (line, after) → Some i ≡ position (is_line line) columns
    → Reaches columns lines order rest → Reaches columns lines (order ++ i ∷ []) after
reaches_more columns lines order rest line after i e found (later, is, so_far) =
    let f = first_line rest line after later e is in
    (f.0, f.1, sym (one_more order i (order_of columns f.0)) ∙ ap (option_map (λ more. order ++ more)) (sym (ap (order_of columns) f.2 ∙ order_first columns line f.0 (Some i) found)) ∙ so_far)

pub reaches_none : (columns lines : List (List ℕ)) (order rest line after : List ℕ) → split_once LINE_END rest ≡ Some (line, after) → None ≡ position (is_line line) columns
    → Reaches columns lines order rest → None ≡ order_of columns lines
reaches_none columns lines order rest line after e none (later, is, so_far) =
    let f = first_line rest line after later e is in
    ap (option_map (λ more. order ++ more)) (sym (ap (order_of columns) f.2 ∙ order_first columns line f.0 None none)) ∙ so_far

some_is : {A : Type 0} (x y : A) → (let o : Option A = Some x in o) ≡ Some y → y ≡ x
some_is x y e = cc

ended : (rest : List ℕ) (later : List (List ℕ)) → column_lines (rest ∷ []) ≡ Some later → later ≡ []
unfolding column_lines
ended [] later e = some_is [] later e
ended (byte ∷ rest) later e = absurd (not_some later (sym (lines_cut ((byte ∷ rest) ∷ []) (byte ∷ rest) refl (λ z. omega arith)) ∙ e))

order_end : (columns later : List (List ℕ)) → later ≡ [] → order_of columns later ≡ Some []
unfolding order_of
order_end columns later e = rw e refl

pub reaches_end : (columns lines : List (List ℕ)) (order rest : List ℕ) → split_once LINE_END rest ≡ None → Reaches columns lines order rest → Some order ≡ order_of columns lines
reaches_end columns lines order rest e (later, is, so_far) =
    let none = ended rest later (ap column_lines (sym (lines_end LINE_END rest e)) ∙ is) in
    ap (λ (xs : List ℕ). let o : Option (List ℕ) = Some xs in o) (sym (append-nil order)) ∙ ap (option_map (λ more. order ++ more)) (sym (order_end columns later none)) ∙ so_far
