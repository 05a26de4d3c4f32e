-- The grammar of a table's elements: docs/LANGUAGE.md, "Table text". Keywords are in any case.
--
--   element := INDEX name name TYPE (minmax | set ( number )) [GRANULARITY number]
--            | PROJECTION name ( SELECT (* | item {, item}) [GROUP BY list] [ORDER BY list] )
--            | name type [COMMENT text] [CODEC ( codec {, codec} )]
--   codec   := word [( number )]      type := word [( arg {, arg} )]      arg := number | type | text
--   item    := name | count ( ) | (sum | min | max) ( name )
--   list    := name {, name} | ( name {, name} )      key := name | ( name {, name} )
--
-- An element that begins with plain INDEX or PROJECTION is one.
use Rattle.std.specs.Prelude.{ℕ, zero, suc, List, [], ◌∷◌, Option, None}
use Rattle.mt_tokens.specs.Words.{name_of}
use Rattle.mt_phrases.specs.Terminals.{key, fixed, is_text, tree_if}
use Rattle.mt_phrases.specs.Selections.{IsSelected}
use Rattle.mt_phrases.specs.Phrases.{Phrase, One, ◌▹◌, ◌&◌, ◌∣◌, Maybe, Made, Perhaps, NotWith, Chain, InParens, IsNumber, IsText, singleton}
use Rattle.mt_element_syntax.specs.declared.limits.TheConstants.{MAX_TYPE_DEPTH}
use Rattle.mt_element_syntax.specs.declared.tree.TypeText.{TypeText}
use Rattle.mt_element_syntax.specs.declared.tree.TypeArg.{TypeArg}
use Rattle.mt_element_syntax.specs.declared.tree.TypeArg.TheVariants as arg
use Rattle.mt_element_syntax.specs.declared.tree.CodecText.{CodecText}
use Rattle.mt_element_syntax.specs.declared.tree.IndexKind.{IndexKind}
use Rattle.mt_element_syntax.specs.declared.tree.IndexKind.TheVariants.{Minmax, Set}
use Rattle.mt_element_syntax.specs.declared.tree.Element.{Element}
use Rattle.mt_element_syntax.specs.Terminals.{word_of}
use Rattle.mt_element_syntax.specs.Trees.{type_of, codec_of, column_element_of, index_of, projection_element_of}

-- ---- tokens

-- a name, by its bytes
abbrev pub IsName : Phrase (List ℕ)
IsName = One name_of

-- a plain word of any length
abbrev pub IsWord : Phrase (List ℕ)
IsWord = One word_of

-- ---- lists

-- list := name {, name} | ( name {, name} )
abbrev pub IsList : Phrase (List (List ℕ))
IsList = InParens (Chain IsName) ∣ Chain IsName

-- key := name | ( name {, name} )
abbrev pub IsKey : Phrase (List (List ℕ))
IsKey = InParens (Chain IsName) ∣ Made singleton IsName

-- ---- types

-- arg := number | type | text, where types are such phrases
abbrev pub IsArg : Phrase TypeText → Phrase TypeArg
IsArg P = Made arg.Number IsNumber ∣ Made arg.Text IsText ∣ Made arg.Type P

-- type := word [( arg {, arg} )], with at most so many parentheses around one another
unfoldable pub IsType : (depth : ℕ) → Phrase TypeText
IsType zero = Made (λ word. type_of (word, None)) IsWord
IsType (suc depth) = Made type_of (IsWord & Maybe (InParens (Chain (IsArg (IsType depth)))))

-- ---- columns

-- codec := word [( number )]
abbrev pub IsCodec : Phrase CodecText
IsCodec = Made codec_of (IsWord & Maybe (InParens IsNumber))

-- CODEC ( codec {, codec} )
abbrev pub IsCodecs : Phrase (List CodecText)
IsCodecs = key "CODEC" ▹ InParens (Chain IsCodec)

-- name type [COMMENT text] [CODEC ( codec {, codec} )], which begins with no plain INDEX and no
-- plain PROJECTION
abbrev pub IsColumn : Phrase Element
IsColumn =
    NotWith (key "INDEX") (NotWith (key "PROJECTION")
    (Made column_element_of (IsName & IsType MAX_TYPE_DEPTH & Perhaps (key "COMMENT" ∷ is_text ∷ []) (Maybe IsCodecs))))

-- ---- indexes

-- minmax | set ( number )
abbrev pub IsKind : Phrase IndexKind
IsKind =
    One (tree_if (fixed "minmax") Minmax)
    ∣ (fixed "set" ▹ Made Set (InParens IsNumber))

-- INDEX name name TYPE kind [GRANULARITY number]
abbrev pub IsIndex : Phrase Element
IsIndex =
    key "INDEX" ▹ Made index_of (IsName & IsName &
    (key "TYPE" ▹ (IsKind & Maybe (key "GRANULARITY" ▹ IsNumber))))

-- ---- projections

-- [GROUP BY list]
abbrev pub IsGroup : Phrase (Option (List (List ℕ)))
IsGroup = Maybe (key "GROUP" ▹ key "BY" ▹ IsList)

-- [ORDER BY list]
abbrev pub IsOrder : Phrase (Option (List (List ℕ)))
IsOrder = Maybe (key "ORDER" ▹ key "BY" ▹ IsList)

-- PROJECTION name ( SELECT (* | item {, item}) [GROUP BY list] [ORDER BY list] )
abbrev pub IsProjection : Phrase Element
IsProjection =
    key "PROJECTION" ▹ Made projection_element_of (IsName &
    InParens (key "SELECT" ▹ (IsSelected name_of & IsGroup & IsOrder)))

-- ---- elements

-- element := an index, a projection or a column
abbrev pub IsElement : Phrase Element
IsElement = IsIndex ∣ IsProjection ∣ IsColumn

-- ( element {, element} )
abbrev pub IsElements : Phrase (List Element)
IsElements = InParens (Chain IsElement)
