-- The tree of a production, made of those of its parts.
use Rattle.std.specs.Prelude.{ℕ, List, [], ◌∷◌, Option, Some, None, is_none, unwrap_or, option_map, option_and_then, if◌then◌else◌}
use Rattle.std.specs.List.{list_any}
use Rattle.mt_element_syntax.specs.Trees.{is_column_element}
use Rattle.mt_element_syntax.specs.declared.tree.Element.{Element}
use Rattle.mt_syntax.specs.declared.tree.SettingValue.{SettingValue}
use Rattle.mt_syntax.specs.declared.tree.SettingText.{SettingText}
use Rattle.mt_syntax.specs.declared.tree.TableText.{TableText}
use Rattle.mt_syntax.specs.declared.clause.Clause.{Clause}
use Rattle.mt_syntax.specs.declared.clause.Clause.TheVariants as clause
use Rattle.mt_syntax.specs.declared.clause.Clauses.{Clauses}

-- a setting of its name and its value
abbrev pub setting_of : List ℕ × SettingValue → SettingText
setting_of x = record { name = x.0; value = x.1 }

-- a clause beside others, unless one of its kind is there already
abbrev pub with_clause : Clauses → Clause → Option Clauses
with_clause c (clause.Partition given) =
    if is_none c.partition then Some (record c { partition = Some given }) else None
with_clause c (clause.Primary given) =
    if is_none c.primary then Some (record c { primary = Some given }) else None
with_clause c (clause.Order given) =
    if is_none c.order then Some (record c { order = Some given }) else None
with_clause c (clause.Settings given) =
    if is_none c.settings then Some (record c { settings = Some given }) else None

-- no clause at all
abbrev pub no_clauses : Clauses
no_clauses = record { partition = None; primary = None; order = None; settings = None }

-- clauses together, none where one stands twice
abbrev pub with_clauses : Clauses → List Clause → Option Clauses
with_clauses c [] = Some c
with_clauses c (clause ∷ clauses) = option_and_then (λ d. with_clauses d clauses) (with_clause c clause)

-- what a name, elements, clauses and the names of ORDER BY say
abbrev pub ordered_sentence : List ℕ → List Element → Clauses → List (List ℕ) → TableText
ordered_sentence name elements clauses order = record {
  name = name;
  elements = elements;
  partition = unwrap_or clauses.partition [];
  primary = clauses.primary;
  order = order;
  settings = unwrap_or clauses.settings [];
}

-- what a name, elements and clauses say, where there are a column and ORDER BY
abbrev pub sentence_of : List ℕ × (List Element × Clauses) → Option TableText
sentence_of x =
    if list_any is_column_element x.1.0 then option_map (ordered_sentence x.0 x.1.0 x.1.1) x.1.1.order else None
