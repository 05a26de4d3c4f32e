-- Words and names, of which tables' and columns' names are made: docs/LANGUAGE.md, "Tokens".
use Rattle.std.specs.Prelude.{ℕ, Bool, false, ◌&&◌, ◌||◌, ◌==◌, nat_le, List, [], ◌∷◌, length}
use Rattle.std.specs.Char.{is_ascii_alphabetic, is_ascii_digit}
use Rattle.std.specs.List.{list_all}
use Rattle.mt_types.specs.declared.limits.TheConstants.{MAX_NAME}

-- a letter or _
abbrev pub is_word_start : ℕ → Bool
is_word_start c = is_ascii_alphabetic c || (c == 95)

-- a letter, a digit or _
abbrev pub is_word_byte : ℕ → Bool
is_word_byte c = is_word_start c || is_ascii_digit c

-- a word: a letter or _, then letters, digits and _
abbrev pub is_word_text : List ℕ → Bool
is_word_text [] = false
is_word_text (c ∷ rest) = is_word_start c && list_all is_word_byte rest

-- a name: a word of at most 64 bytes
abbrev pub is_name : List ℕ → Bool
is_name text = is_word_text text && nat_le (length text) MAX_NAME
