-- The grammar of conditions: docs/LANGUAGE.md, "Queries". Keywords are in any case.
--
--   cond    := conj {OR conj}      conj := unit {AND unit}      unit := NOT unit | ( cond ) | atom
--   atom    := name op literal | name IN ( literal {, literal} ) | name IS [NOT] NULL
--            | startsWith ( name , text ) | has ( name , literal )
--   op      := = | != | <> | < | <= | > | >=
--   literal := [-] digits | text
--
-- OR and AND group to the left. NOT and parentheses of conditions are at most 64 deep together.
use Rattle.std.specs.Prelude.{ℕ, zero, suc, List, [], Bool, true, false}
use Rattle.mt_tokens.specs.declared.sign.Sign.TheVariants.{Comma, Minus}
use Rattle.mt_tokens.specs.Words.{is_sign}
use Rattle.mt_phrases.specs.Phrases.{Chain, InParens, Phrase, One, ◌▹◌, ◌&◌, ◌∣◌, Made, IsText}
use Rattle.mt_phrases.specs.Terminals.{key, fixed, tree_if}
use Rattle.mt_cond_syntax.specs.declared.limits.TheConstants.{MAX_COND_DEPTH}
use Rattle.mt_cond_syntax.specs.declared.tree.Literal.{Literal}
use Rattle.mt_cond_syntax.specs.declared.tree.CondText.{CondText}
use Rattle.mt_cond_syntax.specs.declared.tree.CondText.TheVariants.{And, Or, Not}
use Rattle.mt_cond_syntax.specs.Joins.{Joined}
use Rattle.mt_phrases.specs.NameRules.{name_in}
use Rattle.mt_cond_syntax.specs.Terminals.{literal_of, negative_in, op_of}
use Rattle.mt_cond_syntax.specs.Trees.{comparison_of, one_of_of, null_test_of, starts_of, has_of}

-- a name, by its bytes: none of the twelve reserved words, unless in backquotes
abbrev pub IsUnreservedName : Phrase (List ℕ)
IsUnreservedName = One name_in

-- literal := [-] digits | text
abbrev pub IsLiteral : Phrase Literal
IsLiteral = (is_sign Minus ▹ One negative_in) ∣ One literal_of

-- ---- conditions

-- name op literal
abbrev pub IsComparison : Phrase CondText
IsComparison = Made comparison_of (IsUnreservedName & One op_of & IsLiteral)

-- name IN ( literal {, literal} )
abbrev pub IsOneOf : Phrase CondText
IsOneOf = Made one_of_of (IsUnreservedName & (key "IN" ▹ InParens (Chain IsLiteral)))

-- [NOT] NULL, and whether it is with NOT
abbrev pub IsNullOrNot : Phrase Bool
IsNullOrNot = (key "NOT" ▹ One (tree_if (key "NULL") true)) ∣ One (tree_if (key "NULL") false)

-- name IS [NOT] NULL
abbrev pub IsNullTest : Phrase CondText
IsNullTest = Made null_test_of (IsUnreservedName & (key "IS" ▹ IsNullOrNot))

-- startsWith ( name , text )
abbrev pub IsStarts : Phrase CondText
IsStarts = fixed "startsWith" ▹ InParens (Made starts_of (IsUnreservedName & (is_sign Comma ▹ IsText)))

-- has ( name , literal )
abbrev pub IsHas : Phrase CondText
IsHas = fixed "has" ▹ InParens (Made has_of (IsUnreservedName & (is_sign Comma ▹ IsLiteral)))

-- atom := startsWith .. | has .. | name IN .. | name IS .. | name op literal
abbrev pub IsAtom : Phrase CondText
IsAtom = (IsStarts ∣ IsHas) ∣ IsOneOf ∣ IsNullTest ∣ IsComparison

-- conj := unit {AND unit}
abbrev pub IsConjunction : Phrase CondText → Phrase CondText
IsConjunction P = Joined (key "AND") And P

-- cond := conj {OR conj}, of such units
abbrev pub IsDisjunction : Phrase CondText → Phrase CondText
IsDisjunction P = Joined (key "OR") Or (IsConjunction P)

-- unit := NOT unit | ( cond ) | atom, with at most so many NOTs and parentheses around one another
unfoldable pub IsUnit : (depth : ℕ) → Phrase CondText
IsUnit zero = IsAtom
IsUnit (suc depth) =
    (key "NOT" ▹ Made Not (IsUnit depth)) ∣ InParens (IsDisjunction (IsUnit depth)) ∣ IsAtom

-- cond, at most 64 deep
abbrev pub IsCond : Phrase CondText
IsCond = IsDisjunction (IsUnit MAX_COND_DEPTH)
