-- A text that lists columns that it may list is read.
use Rattle.std.proofs.Common.{◌≡◌, ◌≢◌, ℕ, ◌<◌, ◌≤◌, ◌^◌, Bool, true, false, List, [], ◌∷◌, ◌++◌, length, get_or, drop, map, Option, Some, None, Ok, refl, sym, ap, ◌∙◌, arith, append_assoc, lit<}
use Rattle.std.specs.Prelude.{codes, option_map, option_and_then, if◌then◌else◌, ◌&&◌, position}
use Rattle.std.specs.Fmt.{decimal}
use Rattle.std.specs.Str.{bytes_eq}
use Rattle.std.specs.List.{slice_split, flat_map, position_or_len, AllByRecursion}
use Rattle.std.proofs.lemmas.Slice.Eq.{bytes_eq-Decides}
use Rattle.std.proofs.lemmas.Bool.{lt-ltb, false_from_ne_true}
use Rattle.std.proofs.lemmas.List.{length-map, get_or-map}
use Rattle.std.proofs.lemmas.List.Sums.{position_or_len_is}
use Rattle.std.proofs.lemmas.List.Elements.{recursion_from_All}
use Rattle.mt_types.specs.Names.{type_name}
use Rattle.mt_table.specs.declared.column.Column.{Column}
use Rattle.mt_table.specs.declared.limits.TheConstants.{MAX_COLUMNS}
use Rattle.mt_defs.specs.Metadata.{column_at, column_line, columns_text, no_column}
use Rattle.mt_meta.specs.declared.ascii.TheConstants.{LINE_END, BACKQUOTE, BLANK}
use Rattle.mt_meta.specs.Splitting.{split_once}
use Rattle.mt_meta.specs.ColumnsReading.{is_named, has_name, is_column_line, column_lines, version_line, count_line, if_headed, listed_lines, listing, is_line, order_of, columns_reading, lacks, CanBeListed, Lists}
use Rattle.mt_meta.proofs.SplitLemmas.{at_byte}
use Rattle.mt_meta.proofs.ListingLemmas.{lines_step}
use Rattle.mt_defs.proofs.ListedColumns.{listed, listed_few}
use Rattle.mt_meta.proofs.PlainLemmas.{lacks_append, split_after, once_after, decimal_lacks, name_line}

-- a column's line without its end
abbrev pub plain_line : Column → List ℕ
plain_line column = BACKQUOTE ∷ (column.name ++ (BACKQUOTE ∷ (BLANK ∷ type_name column.ty)))

pub line_ends : (column : Column) → column_line column ≡ plain_line column ++ LINE_END ∷ []
line_ends column = simp append_assoc

-- ---- a column that can be listed

pub record Listable (column : Column) : Type 0 where
  pub form : is_column_line (plain_line column) ≡ true
  pub one_line : lacks LINE_END (plain_line column) ≡ true

named_of : (name ty : List ℕ) → name ≢ [] → ty ≢ [] → is_named name (BLANK ∷ ty) ≡ true
named_of [] ty some there = absurd (some refl)
named_of (first ∷ name) [] some there = absurd (there refl)
named_of (first ∷ name) (second ∷ ty) some there = refl

pub listable : (columns : List Column) → CanBeListed columns → (i : ℕ) → i < length columns → Listable (column_at columns i)
listable columns can i lt =
    let column = column_at columns i in
    let t = name_line column.ty (can.types i lt) in
    let name = column.name in
    record {
      form = ap has_name (once_after BACKQUOTE name (BLANK ∷ type_name column.ty) (can.unquoted i lt)) ∙ named_of name (type_name column.ty) (can.some i lt) t.1;
      one_line = lacks_append LINE_END name (BACKQUOTE ∷ (BLANK ∷ type_name column.ty)) (can.one_line i lt) t.0;
    }

unfoldable AreListable : List Column → Type 0
AreListable [] = Unit {0}
AreListable (column ∷ columns) = Listable column × AreListable columns

are_listable : (columns : List Column) → CanBeListed columns → (order : List ℕ) → AllByRecursion (λ i. i < length columns) order → AreListable (map (column_at columns) order)
unfolding AreListable
are_listable columns can [] below = tt
are_listable columns can (i ∷ order) below = (listable columns can i below.0, are_listable columns can order below.1)

-- the lines of columns are split from each other
lines_of : (columns : List Column) → AreListable columns → column_lines (slice_split (at_byte LINE_END) (flat_map column_line columns)) ≡ Some (map plain_line columns)
unfolding column_lines AreListable
lines_of [] h = refl
lines_of (column ∷ columns) h =
    let rest = flat_map column_line columns in
    let text : flat_map column_line (column ∷ columns) ≡ plain_line column ++ LINE_END ∷ rest = ap (λ (line : List ℕ). line ++ rest) (line_ends column) ∙ append_assoc (plain_line column) (LINE_END ∷ []) rest in
    lines_step (slice_split (at_byte LINE_END) (flat_map column_line (column ∷ columns))) (plain_line column) rest (at_byte LINE_END)
    (ap (slice_split (at_byte LINE_END)) text ∙ split_after LINE_END (plain_line column) rest h.0.one_line) h.0.form
    ∙ ap (option_map (λ lines. plain_line column ∷ lines)) (lines_of columns h.1)

both_hold : (a b : Bool) (lines : List (List ℕ)) → a ≡ true → b ≡ true → (if a && b then Some lines else None) ≡ Some lines
both_hold a b lines e f = rw (e, f) refl

headed_of : (lines : List (List ℕ)) → if_headed version_line (count_line (length lines)) lines ≡ Some lines
headed_of lines =
    both_hold (bytes_eq version_line version_line) (bytes_eq (count_line (length lines)) (count_line (length lines))) lines
    ((bytes_eq-Decides version_line version_line).1 refl) ((bytes_eq-Decides (count_line (length lines)) (count_line (length lines))).1 refl)

listing_text : (columns : List Column) → length columns ≤ MAX_COLUMNS → AreListable columns → listing (columns_text columns) ≡ Some (map plain_line columns)
listing_text columns few h =
    let rest = flat_map column_line columns in
    let count = count_line (length columns) in
    let most : MAX_COLUMNS < 2 ^ 64 = lit< tt in
    let text : columns_text columns ≡ version_line ++ (LINE_END ∷ (count ++ (LINE_END ∷ rest))) = simp append_assoc in
    let counted : lacks LINE_END count ≡ true = lacks_append LINE_END (decimal (length columns)) (codes " columns:") (decimal_lacks (length columns) (omega (arith, few, most))) refl in
    let parts : slice_split (at_byte LINE_END) (columns_text columns) ≡ version_line ∷ count ∷ slice_split (at_byte LINE_END) rest =
    ap (slice_split (at_byte LINE_END)) text ∙ split_after LINE_END version_line (count ++ (LINE_END ∷ rest)) refl
    ∙ ap (λ (lines : List (List ℕ)). version_line ∷ lines) (split_after LINE_END count rest counted) in
    ap listed_lines parts ∙ ap (option_and_then (if_headed version_line count)) (lines_of columns h)
    ∙ ap (λ (n : ℕ). if_headed version_line (count_line n) (map plain_line columns)) (sym (length-map columns plain_line)) ∙ headed_of (map plain_line columns)

-- ---- which columns the lines are

split_of : (column : Column) → lacks BACKQUOTE column.name ≡ true → split_once BACKQUOTE (drop 1 (column_line column)) ≡ Some (column.name, BLANK ∷ type_name column.ty ++ LINE_END ∷ [])
split_of column e =
    ap (λ (text : List ℕ). split_once BACKQUOTE (drop 1 text)) (line_ends column)
    ∙ ap (split_once BACKQUOTE) (append_assoc column.name (BACKQUOTE ∷ (BLANK ∷ type_name column.ty)) (LINE_END ∷ []))
    ∙ once_after BACKQUOTE column.name (BLANK ∷ type_name column.ty ++ LINE_END ∷ []) e

first_same : (a b x y : List ℕ) → (let o : Option (List ℕ × List ℕ) = Some (a, x) in o) ≡ Some (b, y) → a ≡ b
first_same a b x y e = let same : (let p : List ℕ × List ℕ = (a, x) in p) ≡ (b, y) = cc in ap (λ (p : List ℕ × List ℕ). p.0) same

same_names : (a b : Column) → lacks BACKQUOTE a.name ≡ true → lacks BACKQUOTE b.name ≡ true → column_line a ≡ column_line b → a.name ≡ b.name
same_names a b e f same = first_same _ _ _ _ (sym (split_of a e) ∙ ap (λ (text : List ℕ). split_once BACKQUOTE (drop 1 text)) same ∙ split_of b f)

position_of : (p : List ℕ → Bool) (xs : List (List ℕ)) (i : ℕ) → i < length xs → ((k : ℕ) → k < i → p (get_or xs k []) ≡ false) → p (get_or xs i []) ≡ true → position p xs ≡ Some i
position_of p xs i lt before here =
    let at : position_or_len p xs ≡ i = position_or_len_is p xs i [] (omega (arith, lt)) before (λ _. here) in
    rw (at, lt-ltb i (length xs) lt) refl

line_at : (columns : List Column) (i : ℕ) → i < length columns → get_or (map column_line columns) i [] ≡ column_line (column_at columns i)
line_at columns i lt = get_or-map column_line columns i no_column [] lt

found_at : (columns : List Column) → CanBeListed columns → (i : ℕ) → i < length columns → position (is_line (plain_line (column_at columns i))) (map column_line columns) ≡ Some i
found_at columns can i lt =
    let line = plain_line (column_at columns i) in
    position_of (is_line line) (map column_line columns) i (omega (arith, lt, length-map columns column_line))
    (λ k below. let within : k < length columns = omega (arith, below, lt) in
    false_from_ne_true (is_line line (get_or (map column_line columns) k [])) (λ e.
    let same : column_line (column_at columns k) ≡ column_line (column_at columns i) =
    sym (line_at columns k within) ∙ (bytes_eq-Decides (get_or (map column_line columns) k []) (line ++ LINE_END ∷ [])).0 e ∙ sym (line_ends (column_at columns i)) in
    let index = can.differ k i within lt (same_names (column_at columns k) (column_at columns i) (can.unquoted k within) (can.unquoted i lt) same) in
    omega (arith, index, below)))
    ((bytes_eq-Decides (get_or (map column_line columns) i []) (line ++ LINE_END ∷ [])).1 (line_at columns i lt ∙ line_ends (column_at columns i)))

order_is : (columns : List Column) → CanBeListed columns → (order : List ℕ) → AllByRecursion (λ i. i < length columns) order
    → order_of (map column_line columns) (map plain_line (map (column_at columns) order)) ≡ Some order
unfolding order_of
order_is columns can [] below = refl
order_is columns can (i ∷ order) below = rw (found_at columns can i below.0, order_is columns can order below.1) refl

pub lists_read : (columns : List Column) (must order text : List ℕ) → CanBeListed columns → Lists columns must order text → columns_reading columns must text ≡ Ok order
unfolding columns_reading
lists_read columns must order text can lists =
    let below = recursion_from_All (λ i. i < length columns) order (listed columns must order lists.may).known in
    let chosen = map (column_at columns) order in
    let long = length-map order (column_at columns) in
    let few = listed_few columns must order lists.may in
    let lines : listing text ≡ Some (map plain_line chosen) = ap listing lists.listed ∙ listing_text chosen (omega (arith, long, few, can.few)) (are_listable columns can order below) in
    rw (lines, order_is columns can order below, lists.may) refl
