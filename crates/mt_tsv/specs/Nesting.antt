-- Brackets and quotes of arrays: docs/LANGUAGE.md, "Lines".
use Rattle.std.specs.Prelude.{◌≡◌, ℕ, ◌+◌, ◌-◌, List, [], ◌∷◌, length, take, drop, Option, Some, None, Bool, true, false, ◌==◌, if◌then◌else◌}
use Rattle.std.specs.List.{onto_first}
use Rattle.mt_tsv.specs.declared.ascii.TheConstants.{BACKSLASH, QUOTE, OPEN, CLOSE, COMMA}
use Rattle.mt_tsv.specs.declared.nesting.Nesting.{Nesting}
use Rattle.mt_tsv.specs.declared.nesting.Nesting.TheVariants.{Outside, InQuotes, Escaped, Unmatched}

-- how many inner brackets are open
abbrev pub depth_of : Nesting → ℕ
depth_of (Outside depth) = depth
depth_of (InQuotes depth) = depth
depth_of (Escaped depth) = depth
depth_of Unmatched = 0

-- where the byte after this one stands
abbrev pub nesting_after : Nesting → ℕ → Nesting
nesting_after (Outside depth) b =
    if b == QUOTE then InQuotes depth else if b == OPEN then Outside (depth + 1)
    else if b == CLOSE then (if depth == 0 then Unmatched else Outside (depth - 1)) else Outside depth
nesting_after (InQuotes depth) b = if b == QUOTE then Outside depth else if b == BACKSLASH then Escaped depth else InQuotes depth
nesting_after (Escaped depth) b = InQuotes depth
nesting_after Unmatched b = Unmatched

-- all quotes are closed
abbrev pub is_outside : Nesting → Bool
is_outside (Outside depth) = true
is_outside _ = false

-- all quotes and inner brackets are closed
abbrev pub is_level : Nesting → Bool
is_level (Outside depth) = depth == 0
is_level _ = false

-- a comma between two elements: outside quotes and inner brackets
abbrev pub is_comma : Nesting → ℕ → Bool
is_comma (Outside depth) b = if depth == 0 then b == COMMA else false
is_comma _ b = false

-- each quote and bracket is closed
unfoldable pub is_matched_from : Nesting → List ℕ → Bool
is_matched_from nesting [] = is_level nesting
is_matched_from nesting (b ∷ rest) = is_matched_from (nesting_after nesting b) rest

-- the same of what stands between the brackets of an array
abbrev pub is_matched : List ℕ → Bool
is_matched content = is_matched_from (Outside 0) content

-- the texts between the commas
unfoldable pub elements_from : Nesting → List ℕ → List (List ℕ)
elements_from nesting [] = [] ∷ []
elements_from nesting (b ∷ rest) =
    if is_comma nesting b then [] ∷ elements_from (Outside 0) rest else onto_first b (elements_from (nesting_after nesting b) rest)

-- the first comma between two elements, if there is one, parts the first element from the others
abbrev pub IsElementEnd : List ℕ → Option ℕ → Type 0
IsElementEnd content (Some i) = elements_from (Outside 0) content ≡ take i content ∷ elements_from (Outside 0) (drop (i + 1) content)
IsElementEnd content None = elements_from (Outside 0) content ≡ content ∷ []

-- the quotes that are open are closed by the last byte
unfoldable pub closes_last : Nesting → List ℕ → Bool
closes_last nesting [] = false
closes_last nesting (b ∷ rest) = if is_outside (nesting_after nesting b) then length rest == 0 else closes_last (nesting_after nesting b) rest

-- one text in quotes
abbrev pub is_quoted : List ℕ → Bool
is_quoted [] = false
is_quoted (b ∷ rest) = if b == QUOTE then closes_last (InQuotes 0) rest else false
