-- Which tokens are names, in each of the two grammars: docs/LANGUAGE.md, "Table text" and "Queries".
use Rattle.std.specs.Prelude.{ℕ, List, Option, None, Bool, ◌||◌, is_some, if◌then◌else◌}
use Rattle.mt_tokens.specs.Tokens.{Tok}
use Rattle.mt_tokens.specs.Words.{name_of}
use Rattle.mt_phrases.specs.declared.naming.NameRule.{NameRule}
use Rattle.mt_phrases.specs.declared.naming.NameRule.TheVariants.{Any, Unreserved}
use Rattle.mt_phrases.specs.Terminals.{key}

-- a word that a query's clauses begin with
abbrev pub is_clause_word : Tok → Bool
is_clause_word token =
    key "SELECT" token || (key "FROM" token || (key "WHERE" token
    || (key "GROUP" token || (key "ORDER" token || key "LIMIT" token))))

-- a word that a condition has between its names and literals
abbrev pub is_cond_word : Tok → Bool
is_cond_word token =
    key "AND" token || (key "OR" token || (key "NOT" token
    || (key "IN" token || (key "IS" token || key "NULL" token))))

-- the name that a token is: none of these words, unless in backquotes
abbrev pub name_in : Tok → Option (List ℕ)
name_in token =
    if is_clause_word token then None else if is_cond_word token then None else name_of token

-- the name that a token is, by a rule
abbrev pub name_by : NameRule → Tok → Option (List ℕ)
name_by Any = name_of
name_by Unreserved = name_in

-- a token is a name, by a rule
abbrev pub is_name_by : NameRule → Tok → Bool
is_name_by rule token = is_some (name_by rule token)
