-- The columns of a sentence, and a column by its name.
use Rattle.std.proofs.Common.{◌≡◌, ℕ, suc, ◌+◌, ◌<◌, arith, List, [], ◌∷◌, ◌++◌, length, refl, ap, sym, ◌∙◌, get_or, drop}
use Rattle.std.specs.Prelude.{Bool, true, false, not, cond, Option, Some, None, option_map, slice_get}
use Rattle.std.specs.Borrow.{Bor}
use Rattle.std.specs.Option.{option_copied}
use Rattle.std.specs.Slice.{IsGetResult}
use Rattle.std.specs.Str.{bytes_eq}
use Rattle.std.proofs.lemmas.Bool.{ltb-true, ltb-false}
use Rattle.std.proofs.lemmas.Option.{slice_get-get_or, slice_get_past}
use Rattle.std.proofs.lemmas.List.{append_assoc, drop_more}
use Rattle.mt_types.specs.declared.ty.Ty.{Ty}
use Rattle.mt_element_syntax.specs.declared.tree.CodecText.{CodecText}
use Rattle.mt_element_syntax.specs.declared.tree.Element.{Element}
use Rattle.mt_element_syntax.specs.declared.tree.Element.TheVariants.{Column as Column', Index, Projection}
use Rattle.mt_element_syntax.specs.declared.tree.TypeText.{TypeText}
use Rattle.mt_table.specs.ColumnTypes.{column_named}
use Rattle.mt_table.specs.Kept.{names_of}
use Rattle.mt_table_names.specs.Sentence.{column_element_names, place_in}
use Rattle.mt_table_rules.specs.Columns.{columns_of, with_listed_column}
use Rattle.mt_table_rules.specs.TypeTexts.{column_type_of}
use Rattle.mt_table.specs.declared.column.Column.{Column}

-- the columns that were read, before the others
abbrev pub with_front : List Column → Option (List Column) → Option (List Column)
with_front front rest = option_map (λ columns. front ++ columns) rest

-- ---- reading

-- what is left, at its first element
at_element : (elements : List Element) (front : List Column) (i : ℕ) (element d : Element) → i < length elements → element ≡ get_or elements i d
    → with_front front (columns_of (drop i elements)) ≡ with_front front (columns_of (element ∷ drop (i + 1) elements))
at_element elements front i element d h is = ap (λ left. with_front front (columns_of left)) (drop_more elements i d h ∙ ap (λ e. e ∷ drop (i + 1) elements) (sym is))

-- a column of no type
pub no_type : (elements : List Element) (front : List Column) (i : ℕ) (element d : Element) (name : List ℕ) (text : TypeText) (codecs : Option (List CodecText)) → i < length elements → element ≡ get_or elements i d
    → element ≡ Column' name text codecs → None ≡ column_type_of text → with_front front (columns_of (drop i elements)) ≡ columns_of elements → None ≡ columns_of elements
no_type elements front i element d name text codecs h is column none read =
    sym (ap (λ ty. with_front front (with_listed_column name ty (columns_of (drop (i + 1) elements)))) (sym none))
    ∙ sym (ap (λ e. with_front front (columns_of (e ∷ drop (i + 1) elements))) column)
    ∙ sym (at_element elements front i element d h is) ∙ read

one_onto : (front : List Column) (name : List ℕ) (ty : Ty) (rest : Option (List Column)) → with_front front (with_listed_column name (Some ty) rest) ≡ with_front (front ++ record { name = name; ty = ty } ∷ []) rest
one_onto front name ty None = refl
one_onto front name ty (Some columns) = ap Some (sym (append_assoc front (record { name = name; ty = ty } ∷ []) columns))

-- a column of a type
pub one_column : (elements : List Element) (front new : List Column) (i : ℕ) (element d : Element) (name copied : List ℕ) (text : TypeText) (codecs : Option (List CodecText)) (ty : Ty) → i < length elements → element ≡ get_or elements i d
    → element ≡ Column' name text codecs → Some ty ≡ column_type_of text → copied ≡ name → new ≡ front ++ record { name = copied; ty = ty } ∷ []
    → with_front front (columns_of (drop i elements)) ≡ columns_of elements → with_front new (columns_of (drop (i + 1) elements)) ≡ columns_of elements
one_column elements front new i element d name copied text codecs ty h is column some same more read =
    let rest : Option (List Column) = columns_of (drop (i + 1) elements) in
    ap (λ columns. with_front columns rest) (more ∙ ap (λ n. front ++ record { name = n; ty = ty } ∷ []) same)
    ∙ sym (one_onto front name ty rest)
    ∙ ap (λ found. with_front front (with_listed_column name found rest)) some
    ∙ sym (ap (λ e. with_front front (columns_of (e ∷ drop (i + 1) elements))) column)
    ∙ sym (at_element elements front i element d h is) ∙ read

-- ---- a column by its name

one_more : (n : ℕ) → 1 + n ≡ suc n
one_more n = omega arith

pub named_is : (columns : List Column) (name : List ℕ) → slice_get columns (place_in (names_of columns) name) ≡ column_named columns name
named_is [] name = refl
named_is (column ∷ columns) name = by_test (bytes_eq name column.name) refl (named_is columns name)
  where
    by_test : (test : Bool) → bytes_eq name column.name ≡ test → slice_get columns (place_in (names_of columns) name) ≡ column_named columns name
        → slice_get (column ∷ columns) (cond (not (bytes_eq name column.name)) (1 + place_in (names_of columns) name) 0) ≡ cond (bytes_eq name column.name) (Some column) (column_named columns name)
    by_test true e later = ap (λ b. slice_get (column ∷ columns) (cond (not b) (1 + place_in (names_of columns) name) 0)) e ∙ sym (ap (λ b. cond b (Some column) (column_named columns name)) e)
    by_test false e later =
        ap (λ b. slice_get (column ∷ columns) (cond (not b) (1 + place_in (names_of columns) name) 0)) e
        ∙ ap (slice_get (column ∷ columns)) (one_more (place_in (names_of columns) name)) ∙ later
        ∙ sym (ap (λ b. cond b (Some column) (column_named columns name)) e)

-- ---- what is no column

not_column : (element : Element) (rest : List Element) → ((name : List ℕ) (text : TypeText) (codecs : Option (List CodecText)) → element ≡ Column' name text codecs → ⊥) → columns_of (element ∷ rest) ≡ columns_of rest
not_column (Column' name text codecs) rest other = absurd (other name text codecs refl)
not_column (Index name column kind granularity) rest other = refl
not_column (Projection name items group order) rest other = refl

-- an element that is passed over
pub passed_over : (elements : List Element) (front new : List Column) (i : ℕ) (element d : Element) → i < length elements → element ≡ get_or elements i d
    → ((name : List ℕ) (text : TypeText) (codecs : Option (List CodecText)) → element ≡ Column' name text codecs → ⊥) → new ≡ front
    → with_front front (columns_of (drop i elements)) ≡ columns_of elements → with_front new (columns_of (drop (i + 1) elements)) ≡ columns_of elements
passed_over elements front new i element d h is other same read =
    ap (λ columns. with_front columns (columns_of (drop (i + 1) elements))) same
    ∙ ap (with_front front) (sym (not_column element (drop (i + 1) elements) other))
    ∙ sym (at_element elements front i element d h is) ∙ read

-- ---- what `get` gives

pub got : {X : Type 0} (xs : List X) (i : ℕ) (r : Option (Bor X)) → IsGetResult xs i i r → option_copied r ≡ slice_get xs i
got xs i None g = sym (slice_get_past xs i (ltb-false i (length xs) (sym g.0)))
got xs i (Some x) g = ap Some g.1 ∙ sym (slice_get-get_or xs i x.now (ltb-true i (length xs) (sym g.0)))

-- ---- their names

-- the columns that were read have the names of the columns
pub read_names : (elements : List Element) (columns : List Column) → Some columns ≡ columns_of elements → column_element_names elements ≡ names_of columns
read_names [] columns read = let none : columns ≡ [] = cc in sym (ap names_of none)
read_names (Column' name text codecs ∷ elements) columns read = by_type (column_type_of text) (columns_of elements) refl read (read_names elements)
  where
    by_type : (ty : Option Ty) (rest : Option (List Column)) → columns_of elements ≡ rest → Some columns ≡ with_listed_column name ty rest → ((others : List Column) → Some others ≡ columns_of elements → column_element_names elements ≡ names_of others) → (name ∷ column_element_names elements) ≡ names_of columns
    by_type None rest is e later = cc
    by_type (Some ty) None is e later = cc
    by_type (Some ty) (Some others) is e later =
        let here : columns ≡ record { name = name; ty = ty } ∷ others = cc in ap (λ list. name ∷ list) (later others (sym is)) ∙ sym (ap names_of here)
read_names (Index name column kind granularity ∷ elements) columns read = read_names elements columns read
read_names (Projection name items group order ∷ elements) columns read = read_names elements columns read
