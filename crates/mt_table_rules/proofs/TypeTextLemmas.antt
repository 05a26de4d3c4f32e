-- Types as they are printed.
use Rattle.std.proofs.Common.{◌≡◌, ℕ, ◌-◌, ◌≤◌, arith, List, [], ◌∷◌, ◌++◌, length, map, refl, ap, sym, ◌∙◌, get_or, take, drop}
use Rattle.std.specs.Prelude.{codes}
use Rattle.std.proofs.lemmas.List.{append_assoc, drop_more, length-drop, take_all}
use Rattle.std.specs.List.{flat_map}
use Rattle.mt_element_syntax.specs.declared.tree.TypeText.{TypeText}
use Rattle.mt_element_syntax.specs.declared.tree.TypeArg.{TypeArg}
use Rattle.mt_element_syntax.specs.declared.tree.TypeArg.TheFolds.{fold_out-TypeText}
use Rattle.mt_table_rules.specs.TypeTexts.{arg_step, arg_text, behind_comma, in_parentheses, text_step, type_text}

pub type_text_is : (t : TypeText) → type_text t ≡ t.word ++ in_parentheses (map arg_text t.args)
type_text_is t = fold_out-TypeText (List ℕ) (List ℕ) arg_step text_step t

behind_all : (args : List TypeArg) → flat_map behind_comma (map arg_text args) ≡ flat_map (λ arg. behind_comma (arg_text arg)) args
behind_all [] = refl
behind_all (arg ∷ args) = ap (λ text. behind_comma (arg_text arg) ++ text) (behind_all args)

regrouped : (o w p x b q : List ℕ) → ((((o ++ w) ++ p) ++ x) ++ b) ++ q ≡ o ++ (w ++ (p ++ (x ++ (b ++ q))))
regrouped o w p x b q = simp append_assoc

-- what was appended in parts is the whole
pub parts_are : (old one two three four all : List ℕ) (t : TypeText) (first : TypeArg) (others : List TypeArg)
    → t.args ≡ first ∷ others → one ≡ old ++ t.word → two ≡ one ++ codes "(" → three ≡ two ++ arg_text first
    → four ≡ three ++ flat_map (λ arg. behind_comma (arg_text arg)) others → all ≡ four ++ codes ")" → all ≡ old ++ type_text t
parts_are old one two three four all t first others args a b c d e =
    let behind : List ℕ = flat_map (λ arg. behind_comma (arg_text arg)) others in
    e ∙ ap (λ text. text ++ codes ")") (d ∙ ap (λ text. text ++ behind) (c ∙ ap (λ text. text ++ arg_text first) (b ∙ ap (λ text. text ++ codes "(") a)))
    ∙ regrouped old t.word (codes "(") (arg_text first) behind (codes ")")
    ∙ ap (λ text. old ++ (t.word ++ (codes "(" ++ (arg_text first ++ (text ++ codes ")"))))) (sym (behind_all others))
    ∙ ap (λ list. old ++ (t.word ++ in_parentheses (map arg_text list))) (sym args) ∙ ap (λ text. old ++ text) (sym (type_text_is t))

-- the first argument and the others
pub first_and_others : (args others : List TypeArg) (first d : TypeArg) → 1 ≤ length args → first ≡ get_or args 0 d → others ≡ take (length args - 1) (drop 1 args) → args ≡ first ∷ others
first_and_others args others first d some is rest =
    let all : take (length args - 1) (drop 1 args) ≡ drop 1 args = take_all (length args - 1) (drop 1 args) (omega (arith, length-drop 1 args, some)) in
    drop_more args 0 d some ∙ ap (λ x. x ∷ drop 1 args) (sym is) ∙ ap (λ xs. first ∷ xs) (sym (rest ∙ all))

quotes_regrouped : (o p x q : List ℕ) → ((o ++ p) ++ x) ++ q ≡ o ++ (p ++ (x ++ q))
quotes_regrouped o p x q = simp append_assoc

-- bytes appended between quotes
pub quoted_is : (old bytes one two all : List ℕ) → one ≡ old ++ codes "'" → two ≡ one ++ bytes → all ≡ two ++ codes "'" → all ≡ old ++ (codes "'" ++ (bytes ++ codes "'"))
quoted_is old bytes one two all a b c =
    c ∙ ap (λ text. text ++ codes "'") (b ∙ ap (λ text. text ++ bytes) a) ∙ quotes_regrouped old (codes "'") bytes (codes "'")
