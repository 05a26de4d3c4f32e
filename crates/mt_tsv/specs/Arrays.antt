-- Arrays: docs/LANGUAGE.md, "Lines".
use Rattle.std.specs.Prelude.{ℕ, ◌-◌, List, [], ◌∷◌, length, map, take, drop, Result, Ok, Err, Option, Some, None, Bool, true, false, nat_le, ◌==◌, ◌&&◌, if◌then◌else◌, slice_index, slice_range}
use Rattle.std.specs.List.{list_all, prefix_len, suffix_len}
use Rattle.mt_types.specs.declared.ty.Ty.{Ty}
use Rattle.mt_types.specs.declared.ty.Ty.TheOpen.{Ty-F}
use Rattle.mt_types.specs.declared.ty.Ty.TheFolds.{fold-Ty}
use Rattle.mt_types.specs.declared.value.Value.{Value}
use Rattle.mt_types.specs.declared.value.Value.TheVariants.{Null as NullValue, List as Items}
use Rattle.mt_tsv.specs.declared.ascii.TheConstants.{OPEN, CLOSE, SPACE}
use Rattle.mt_types.specs.declared.limits.TheConstants.{MAX_ELEMENTS}
use Rattle.mt_tsv.specs.declared.nesting.Nesting.TheVariants.{Outside}
use Rattle.mt_tsv.specs.declared.fault.RowWhy.{RowWhy}
use Rattle.mt_tsv.specs.declared.fault.RowWhy.TheVariants.{Null, TooLong, List as BadList}
use Rattle.mt_types.specs.Steps.{◌>>=◌, onto}
use Rattle.mt_tsv.specs.Results.{unless_bad}
use Rattle.mt_tsv.specs.Nesting.{is_matched, elements_from, is_quoted}
use Rattle.mt_tsv.specs.Scalars.{scalar_at}

-- ---- the texts of the elements

-- byte 20
abbrev pub is_space : ℕ → Bool
is_space b = b == SPACE

-- the text from its first other byte on
abbrev pub without_first_spaces : List ℕ → List ℕ
without_first_spaces text = drop (prefix_len is_space text) text

-- the text up to its last other byte
abbrev pub without_last_spaces : List ℕ → List ℕ
without_last_spaces text = take (length text - suffix_len is_space text) text

-- a text without the spaces round it
abbrev pub trimmed : List ℕ → List ℕ
trimmed text = without_last_spaces (without_first_spaces text)

-- the elements of what follows a comma, or the opening bracket of an array that isn't empty
abbrev pub elements_after : Option (List ℕ) → List (List ℕ)
elements_after (Some rest) = map trimmed (elements_from (Outside 0) rest)
elements_after None = []

-- what stands between the brackets, if it isn't only spaces
abbrev pub unless_blank : List ℕ → Option (List ℕ)
unless_blank content = if list_all is_space content then None else Some content

-- what stands between the first and the last byte
abbrev pub middle : List ℕ → List ℕ
middle text = slice_range text 1 (length text - 1)

-- an array begins and ends with its brackets
abbrev pub is_bracketed : List ℕ → Bool
is_bracketed text =
    if nat_le 2 (length text) then (if slice_index text 0 == OPEN then slice_index text (length text - 1) == CLOSE else false)
    else false

-- ---- one level

-- NULL
abbrev pub is_null_word : List ℕ → Bool
is_null_word (a ∷ b ∷ c ∷ d ∷ []) = (a == 78) && ((b == 85) && ((c == 76) && (d == 76)))
is_null_word _ = false

-- an element of a type whose values stand in quotes
abbrev pub is_text_element : List ℕ → Bool
is_text_element text = if is_null_word text then true else is_quoted text

-- the elements have the quotes of their type
abbrev pub have_quotes : Bool → List (List ℕ) → Bool
have_quotes true texts = list_all is_text_element texts
have_quotes false texts = true

-- the texts of an array's elements, if its brackets and quotes are in form
unfoldable pub level_of : Bool → List ℕ → Result (List (List ℕ)) RowWhy
level_of in_quotes text =
    unless_bad (is_bracketed text) BadList
    (unless_bad (is_matched (middle text)) BadList
    (unless_bad (have_quotes in_quotes (elements_after (unless_blank (middle text)))) BadList
    (Ok (elements_after (unless_blank (middle text))))))

-- the values of elements, up to the first that is bad
unfoldable pub element_values : (List ℕ → Result Value RowWhy) → List (List ℕ) → Result (List Value) RowWhy
element_values read [] = Ok []
element_values read (text ∷ texts) = do
  value ← read text
  onto value (element_values read texts)

-- how elements of a type are written
pub record Element : Type 0 where
  pub in_quotes : Bool
  pub read : List ℕ → Result Value RowWhy

-- an array: first its brackets and quotes, then its elements, then their number
unfoldable pub array_of : Element → List ℕ → Result Value RowWhy
array_of element text = do
  texts ← level_of element.in_quotes text
  values ← element_values element.read texts
  unless_bad (nat_le (length values) MAX_ELEMENTS) TooLong (Ok (Items values))

-- ---- elements by type

-- texts, dates and moments stand in quotes
abbrev pub needs_quotes : {X : Type 0} → Ty-F X → Bool
needs_quotes (Ty-F.FixedString size) = true
needs_quotes Ty-F.Str = true
needs_quotes Ty-F.Date = true
needs_quotes Ty-F.Moment = true
needs_quotes _ = false

-- a value of a type that is no Nullable and no array
abbrev pub scalar_element : {X : Type 0} → Ty-F X → List ℕ → Result Value RowWhy
scalar_element ty text = if is_null_word text then Err Null else scalar_at ty (if needs_quotes ty then middle text else text)

-- how elements of a type are written, where those of the inner type are known
abbrev pub element_step : Ty-F Element → Element
element_step (Ty-F.Nullable inner) = record { in_quotes = inner.in_quotes; read = λ text. if is_null_word text then Ok NullValue else inner.read text }
element_step (Ty-F.Array inner) = record { in_quotes = false; read = λ text. if is_null_word text then Err Null else array_of inner text }
element_step ty = record { in_quotes = needs_quotes ty; read = scalar_element ty }

-- how elements of this type are written
abbrev pub element_of : Ty → Element
element_of = fold-Ty Element element_step
