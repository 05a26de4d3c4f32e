-- Walks over the bytes of an array that part no elements.
use Rattle.std.proofs.Common.{◌≡◌, ◌≢◌, ℕ, ◌+◌, ◌-◌, true, false, eqb, List, [], ◌∷◌, ◌++◌, refl, sym, ap, ◌∙◌, append_assoc, arith, inl, inr}
use Rattle.std.specs.List.{onto_first, join_with_byte, AllByRecursion}
use Rattle.std.proofs.lemmas.Bool.{cases_Bool, ne_eqb}
use Rattle.std.proofs.lemmas.List.{append-nil}
use Rattle.mt_tsv.specs.declared.ascii.TheConstants.{OPEN, CLOSE, COMMA, QUOTE}
use Rattle.mt_tsv.specs.declared.nesting.Nesting.{Nesting}
use Rattle.mt_tsv.specs.declared.nesting.Nesting.TheVariants.{Outside, InQuotes}
use Rattle.mt_tsv.specs.Nesting.{nesting_after, is_comma, elements_from, is_matched_from}
use Rattle.mt_tsv.proofs.Elements.{glued, glued-nil}

-- from one byte to another, within one element
pub record IsWalk (start : Nesting) (bytes : List ℕ) (end : Nesting) : Type 0 where
  pub elements : (rest : List ℕ) → elements_from start (bytes ++ rest) ≡ glued bytes (elements_from end rest)
  pub matched : (rest : List ℕ) → is_matched_from start (bytes ++ rest) ≡ is_matched_from end rest

one_glued : (b : ℕ) (texts : List (List ℕ)) → onto_first b texts ≡ glued (b ∷ []) texts
one_glued b [] = refl
one_glued b (text ∷ texts) = refl

glued-glued : (x y : List ℕ) (texts : List (List ℕ)) → glued x (glued y texts) ≡ glued (x ++ y) texts
glued-glued x y [] = refl
glued-glued x y (text ∷ texts) = ap (λ (t : List ℕ). t ∷ texts) (sym (append_assoc x y text))

pub walk_byte : (start end : Nesting) (b : ℕ) → nesting_after start b ≡ end → is_comma start b ≡ false → IsWalk start (b ∷ []) end
unfolding elements_from is_matched_from
walk_byte start end b e f = record { elements = λ rest. rw (f, e) (one_glued b (elements_from end rest)); matched = λ rest. ap (λ (n : Nesting). is_matched_from n rest) e }

pub walk_nil : (here : Nesting) → IsWalk here [] here
walk_nil here = record { elements = λ rest. sym (glued-nil here rest); matched = λ rest. refl }

pub walk_append : (a b c : Nesting) (x y : List ℕ) → IsWalk a x b → IsWalk b y c → IsWalk a (x ++ y) c
walk_append a b c x y h k = record {
  elements = λ rest. ap (elements_from a) (append_assoc x y rest) ∙ h.elements (y ++ rest) ∙ ap (glued x) (k.elements rest) ∙ glued-glued x y (elements_from c rest);
  matched = λ rest. ap (is_matched_from a) (append_assoc x y rest) ∙ h.matched (y ++ rest) ∙ k.matched rest;
}

pub walk_all : (here : Nesting) (bytes : List ℕ) → AllByRecursion (λ b. (nesting_after here b ≡ here) × (is_comma here b ≡ false)) bytes → IsWalk here bytes here
walk_all here [] h = walk_nil here
walk_all here (b ∷ bytes) h = walk_append here here here (b ∷ []) bytes (walk_byte here here b h.0.0 h.0.1) (walk_all here bytes h.1)

pub other_no_comma : (depth b : ℕ) → b ≢ 44 → is_comma (Outside depth) b ≡ false
other_no_comma depth b h =
    elim (cases_Bool (eqb depth 0)) [
      | inl is ↦ rw is (ne_eqb b 44 h)
      | inr not ↦ rw not refl
    ]

-- ---- quotes and brackets

pub walk_quoted : (depth : ℕ) (text : List ℕ) → IsWalk (InQuotes depth) text (InQuotes depth) → IsWalk (Outside depth) (QUOTE ∷ (text ++ QUOTE ∷ [])) (Outside depth)
walk_quoted depth text h =
    let first = walk_byte (Outside depth) (InQuotes depth) QUOTE refl (other_no_comma depth QUOTE (omega arith)) in
    let last = walk_byte (InQuotes depth) (Outside depth) QUOTE refl refl in
    walk_append (Outside depth) (InQuotes depth) (Outside depth) (QUOTE ∷ []) (text ++ QUOTE ∷ []) first (walk_append (InQuotes depth) (InQuotes depth) (Outside depth) text (QUOTE ∷ []) h last)

-- texts that are walked over at each depth
abbrev pub AreSolid : List (List ℕ) → Type 0
AreSolid texts = AllByRecursion (λ text. (depth : ℕ) → IsWalk (Outside depth) text (Outside depth)) texts

deeper_no_comma : (depth b : ℕ) → is_comma (Outside (depth + 1)) b ≡ false
deeper_no_comma depth b = let e : eqb (depth + 1) 0 ≡ false = ne_eqb (depth + 1) 0 (omega arith) in rw e refl

pub walk_joined : (depth : ℕ) (texts : List (List ℕ)) → AreSolid texts → IsWalk (Outside (depth + 1)) (join_with_byte COMMA texts) (Outside (depth + 1))
walk_joined depth [] h = walk_nil (Outside (depth + 1))
walk_joined depth (text ∷ []) h = h.0 (depth + 1)
walk_joined depth (text ∷ next ∷ texts) h =
    let here = Outside (depth + 1) in
    walk_append here here here text (COMMA ∷ join_with_byte COMMA (next ∷ texts)) (h.0 (depth + 1))
    (walk_append here here here (COMMA ∷ []) (join_with_byte COMMA (next ∷ texts)) (walk_byte here here COMMA refl (deeper_no_comma depth COMMA)) (walk_joined depth (next ∷ texts) h.1))

open_is : (depth : ℕ) → nesting_after (Outside depth) OPEN ≡ Outside (depth + 1)
open_is depth = refl

close_is : (depth : ℕ) → nesting_after (Outside (depth + 1)) CLOSE ≡ Outside depth
close_is depth =
    let e : eqb (depth + 1) 0 ≡ false = ne_eqb (depth + 1) 0 (omega arith) in
    let s : depth + 1 - 1 ≡ depth = omega arith in
    rw (e, s) refl

pub walk_array : (depth : ℕ) (texts : List (List ℕ)) → AreSolid texts → IsWalk (Outside depth) (OPEN ∷ (join_with_byte COMMA texts ++ CLOSE ∷ [])) (Outside depth)
walk_array depth texts h =
    let inner = Outside (depth + 1) in
    walk_append (Outside depth) inner (Outside depth) (OPEN ∷ []) (join_with_byte COMMA texts ++ CLOSE ∷ []) (walk_byte (Outside depth) inner OPEN (open_is depth) (other_no_comma depth OPEN (omega arith)))
    (walk_append inner inner (Outside depth) (join_with_byte COMMA texts) (CLOSE ∷ []) (walk_joined depth texts h) (walk_byte inner (Outside depth) CLOSE (close_is depth) (deeper_no_comma depth CLOSE)))

-- ---- the elements between the brackets

comma_parts : (rest : List ℕ) → elements_from (Outside 0) (COMMA ∷ rest) ≡ [] ∷ elements_from (Outside 0) rest
unfolding elements_from
comma_parts rest = refl

none_left : elements_from (Outside 0) [] ≡ [] ∷ []
unfolding elements_from
none_left = refl

pub joined_elements : (text : List ℕ) (texts : List (List ℕ)) → AreSolid (text ∷ texts) → elements_from (Outside 0) (join_with_byte COMMA (text ∷ texts)) ≡ text ∷ texts
joined_elements text [] h =
    ap (elements_from (Outside 0)) (sym (append-nil text)) ∙ (h.0 0).elements [] ∙ ap (glued text) none_left ∙ ap (λ (t : List ℕ). t ∷ []) (append-nil text)
joined_elements text (next ∷ texts) h =
    (h.0 0).elements (COMMA ∷ join_with_byte COMMA (next ∷ texts)) ∙ ap (glued text) (comma_parts (join_with_byte COMMA (next ∷ texts)) ∙ ap (λ (t : List (List ℕ)). [] ∷ t) (joined_elements next texts h.1))
    ∙ ap (λ (t : List ℕ). t ∷ next ∷ texts) (append-nil text)

comma_matched : (rest : List ℕ) → is_matched_from (Outside 0) (COMMA ∷ rest) ≡ is_matched_from (Outside 0) rest
unfolding is_matched_from
comma_matched rest = refl

none_matched : is_matched_from (Outside 0) [] ≡ true
unfolding is_matched_from
none_matched = refl

pub joined_matched : (texts : List (List ℕ)) → AreSolid texts → is_matched_from (Outside 0) (join_with_byte COMMA texts) ≡ true
joined_matched [] h = none_matched
joined_matched (text ∷ []) h = ap (is_matched_from (Outside 0)) (sym (append-nil text)) ∙ (h.0 0).matched [] ∙ none_matched
joined_matched (text ∷ next ∷ texts) h =
    (h.0 0).matched (COMMA ∷ join_with_byte COMMA (next ∷ texts)) ∙ comma_matched (join_with_byte COMMA (next ∷ texts)) ∙ joined_matched (next ∷ texts) h.1
