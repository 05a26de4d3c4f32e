-- The columns that a query names are the table's.
use Rattle.std.proofs.Common.{◌≡◌, ◌+◌, ◌≤◌, ℕ, zero, suc, Bool, true, List, [], ◌∷◌, length, map, refl, sym, ap, subst, ◌∙◌, arith}
use Rattle.std.specs.Prelude.{◌&&◌, Option, Some, None, option_and_then, Result, Ok, Err, IfOk, IsTrue, nat_lt}
use Rattle.std.specs.List.{list_all, range_with_len}
use Rattle.std.specs.Str.{bytes_eq}
use Rattle.std.proofs.lemmas.Bool.{lt-ltb}
use Rattle.std.proofs.lemmas.List.Quantifiers.{position-Some}
use Rattle.mt_types.specs.declared.ty.Ty.{Ty}
use Rattle.mt_types.specs.Steps.{ok_or}
use Rattle.mt_types.proofs.OptionLemmas.{mapped_is, some_is, then_is}
use Rattle.mt_types.proofs.StepLemmas.{both_of, ok_then, ok_one, required}
use Rattle.mt_phrases.specs.declared.selection.Selected.{Selected}
use Rattle.mt_phrases.specs.declared.selection.Selected.TheVariants.{All, Items}
use Rattle.mt_phrases.specs.declared.selection.Selection.{Selection}
use Rattle.mt_phrases.specs.declared.selection.Selection.TheVariants as selection
use Rattle.mt_table.specs.declared.column.Column.{Column}
use Rattle.mt_table.specs.Stored.{column_at, no_column}
use Rattle.mt_cond_syntax.specs.declared.tree.CondText.{CondText, map-CondText, roll-CondText}
use Rattle.mt_cond_syntax.specs.declared.tree.CondText.TheOpen.{CondText-F}
use Rattle.mt_cond_syntax.specs.declared.tree.CondText.TheFolds.{fold-roll-CondText, ind-CondText}
use Rattle.mt_query_syntax.specs.declared.tree.QueryText.{QueryText}
use Rattle.mt_query.specs.declared.cond.Cond.{Cond, map-Cond, out-Cond}
use Rattle.mt_query.specs.declared.cond.Cond.TheOpen.{Cond-F}
use Rattle.mt_query.specs.declared.cond.Cond.TheFolds.{fold_out-Cond}
use Rattle.mt_query.specs.declared.cond.Cond.TheVariants.{Cmp, OneOf, IsNull, Starts, Has, And, Or, Not, outs-Cmp, outs-OneOf, outs-IsNull, outs-Starts, outs-Has, outs-And, outs-Or, outs-Not}
use Rattle.mt_query.specs.declared.query.Item.{Item}
use Rattle.mt_query.specs.declared.query.Item.TheVariants.{Column as Plain, Count, Of}
use Rattle.mt_query.specs.declared.query.Query.{Query}
use Rattle.mt_query.specs.declared.why.QueryError.{QueryError}
use Rattle.mt_query.specs.declared.why.QueryWhy.{QueryWhy}
use Rattle.mt_query.specs.declared.why.QueryWhy.TheVariants.{BadAggregate, BadLiteral, NoSuchColumn, NotGrouped}
use Rattle.mt_query.specs.Columns.{column_of, place_of}
use Rattle.mt_query.specs.Conditions.{cond_of, cond_step, given, given_cond, given_is_present, joined_conditions, null_test_on}
use Rattle.mt_query.specs.Lists.{all_of}
use Rattle.mt_query.specs.Literals.{element_value_of, prefix_of, literal_value_of}
use Rattle.mt_query.specs.Named.{columns_step, cond_passes, given_cond_passes, item_passes, query_passes}
use Rattle.mt_table.specs.Kept.{is_place}
use Rattle.mt_query.specs.Queries.{GivesQuery}
use Rattle.mt_query.specs.Rules.{are_grouped, is_over, item_of, items_of, judged_query, judged_items}

-- ---- conditions by their variants

module _ (test : ℕ → Bool) where
  passes_at : (c : Cond) (level : Cond-F Cond) → out-Cond c ≡ level → cond_passes test c ≡ columns_step test (map-Cond Cond Bool (cond_passes test) level)
  passes_at c level is = fold_out-Cond Bool (columns_step test) c ∙ ap (λ l. columns_step test (map-Cond Cond Bool (cond_passes test) l)) is

  passes-And : (a b : Cond) → cond_passes test (And a b) ≡ (cond_passes test a && cond_passes test b)
  passes-And a b = passes_at (And a b) (Cond-F.And a b) (outs-And a b)

  passes-Or : (a b : Cond) → cond_passes test (Or a b) ≡ (cond_passes test a && cond_passes test b)
  passes-Or a b = passes_at (Or a b) (Cond-F.Or a b) (outs-Or a b)

  passes-Not : (a : Cond) → cond_passes test (Not a) ≡ cond_passes test a
  passes-Not a = passes_at (Not a) (Cond-F.Not a) (outs-Not a)

-- ---- lists

pub all_pass : {A B : Type 0} (f : A → Option B) (test : B → Bool) → ((x : A) (y : B) → f x ≡ Some y → test y ≡ true) → (xs : List A) (ys : List B) → all_of f xs ≡ Some ys → list_all test ys ≡ true
all_pass f test each [] ys e = subst (λ zs. list_all test zs ≡ true) (some_is [] ys e) refl
all_pass f test each (x ∷ xs) ys e =
    let one = then_is (λ y. option_and_then (λ zs. let o : Option (List _) = Some (y ∷ zs) in o) (all_of f xs)) (f x) ys e in
    let others = then_is (λ zs. let o : Option (List _) = Some (one.0 ∷ zs) in o) (all_of f xs) ys one.2 in
    subst (λ zs. list_all test zs ≡ true) (some_is (one.0 ∷ others.0) ys others.2)
    (both_of (test one.0) (list_all test others.0) (each x one.0 one.1) (all_pass f test each xs others.0 others.1))

numbers_pass : (most a n : ℕ) → a + n ≤ most → list_all (item_passes (λ place. nat_lt place most)) (map Plain (range_with_len a n)) ≡ true
numbers_pass most a zero le = refl
numbers_pass most a (suc n) le =
    both_of (nat_lt a most) (list_all (item_passes (λ place. nat_lt place most)) (map Plain (range_with_len (a + 1) n))) (lt-ltb a most (omega arith)) (numbers_pass most (a + 1) n (omega arith))

module _ (columns : List Column) where
  -- ---- places

  place_is : (name : List ℕ) (place : ℕ) → place_of columns name ≡ Some place → is_place columns place ≡ true
  place_is name place e = lt-ltb place (length columns) (position-Some (λ column. bytes_eq column.name name) columns place no_column e).0

  column_is : (name : List ℕ) (column : ℕ × Ty) → column_of columns name ≡ Some column → is_place columns column.0 ≡ true
  column_is name column e =
      let m = mapped_is (λ (place : ℕ). (place, (column_at columns place).ty)) (place_of columns name) column e in
      subst (λ (c : ℕ × Ty). is_place columns c.0 ≡ true) (sym m.2) (place_is name m.0 m.1)

  -- ---- conditions

  abbrev Passes : Cond → Type 0
  Passes made = cond_passes (is_place columns) made ≡ true

  -- a condition of a column and of something that suits it
  suits_is : {X : Type 0} (name : List ℕ) (suit : Ty → Option X) (make : ℕ → X → Cond) → ((place : ℕ) (x : X) → cond_passes (is_place columns) (make place x) ≡ is_place columns place) → (made : Cond)
      → option_and_then (λ (column : ℕ × Ty). option_and_then (λ (x : X). let o : Option Cond = Some (make column.0 x) in o) (suit column.1)) (column_of columns name) ≡ Some made → Passes made
  suits_is {X = X} name suit make passes made e =
      let one = then_is (λ (column : ℕ × Ty). option_and_then (λ (x : X). let o : Option Cond = Some (make column.0 x) in o) (suit column.1)) (column_of columns name) made e in
      let two = then_is (λ (x : X). let o : Option Cond = Some (make one.0.0 x) in o) (suit one.0.1) made one.2 in
      subst Passes (some_is (make one.0.0 two.0) made two.2) (passes one.0.0 two.0 ∙ column_is name one.0 one.1)

  null_test_is : (name : List ℕ) (negated : Bool) (made : Cond) → null_test_on columns name negated ≡ Some made → Passes made
  null_test_is name negated made e =
      let one = then_is (λ (place : ℕ). let o : Option Cond = Some (IsNull place negated) in o) (place_of columns name) made e in
      subst Passes (some_is (IsNull one.0 negated) made one.2)
      (passes_at (is_place columns) (IsNull one.0 negated) (Cond-F.IsNull one.0 negated) (outs-IsNull one.0 negated) ∙ place_is name one.0 one.1)

  joined_is : (join : Cond → Cond → Cond) → ((a b : Cond) → cond_passes (is_place columns) (join a b) ≡ (cond_passes (is_place columns) a && cond_passes (is_place columns) b)) → (left right : Option Cond) (made : Cond)
      → joined_conditions join left right ≡ Some made → ((a : Cond) → left ≡ Some a → Passes a) → ((b : Cond) → right ≡ Some b → Passes b) → Passes made
  joined_is join passes left right made e l r =
      let one = then_is (λ (a : Cond). option_and_then (λ (b : Cond). let o : Option Cond = Some (join a b) in o) right) left made e in
      let two = then_is (λ (b : Cond). let o : Option Cond = Some (join one.0 b) in o) right made one.2 in
      subst Passes (some_is (join one.0 two.0) made two.2)
      (passes one.0 two.0 ∙ both_of (cond_passes (is_place columns) one.0) (cond_passes (is_place columns) two.0) (l one.0 one.1) (r two.0 two.1))

  -- what a condition of a sentence gives names places
  abbrev Holds : CondText → Type 0
  Holds text = (made : Cond) → cond_of columns text ≡ Some made → Passes made

  -- a condition of which this is known
  abbrev Known : Type 0
  Known = (text : CondText) × Holds text

  -- a level without what is known
  abbrev plain : CondText-F Known → CondText-F CondText
  plain level = map-CondText Known CondText (λ k. k.0) level

  level_holds : (level : CondText-F Known) (made : Cond) → cond_step columns (map-CondText CondText (Option Cond) (cond_of columns) (plain level)) ≡ Some made → Passes made
  level_holds (CondText-F.Cmp name op literal) made e =
      suits_is name (λ ty. literal_value_of ty literal) (λ place value. Cmp place op value) (λ place value. passes_at (is_place columns) (Cmp place op value) (Cond-F.Cmp place op value) (outs-Cmp place op value)) made e
  level_holds (CondText-F.OneOf name literals) made e =
      suits_is name (λ ty. all_of (literal_value_of ty) literals) OneOf (λ place values. passes_at (is_place columns) (OneOf place values) (Cond-F.OneOf place values) (outs-OneOf place values)) made e
  level_holds (CondText-F.IsNull name negated) made e = null_test_is name negated made e
  level_holds (CondText-F.Starts name prefix) made e =
      suits_is name (λ ty. prefix_of ty prefix) Starts (λ place text. passes_at (is_place columns) (Starts place text) (Cond-F.Starts place text) (outs-Starts place text)) made e
  level_holds (CondText-F.Has name literal) made e =
      suits_is name (λ ty. element_value_of ty literal) Has (λ place value. passes_at (is_place columns) (Has place value) (Cond-F.Has place value) (outs-Has place value)) made e
  level_holds (CondText-F.And a b) made e = joined_is And (passes-And (is_place columns)) (cond_of columns a.0) (cond_of columns b.0) made e a.1 b.1
  level_holds (CondText-F.Or a b) made e = joined_is Or (passes-Or (is_place columns)) (cond_of columns a.0) (cond_of columns b.0) made e a.1 b.1
  level_holds (CondText-F.Not a) made e =
      let m = mapped_is Not (cond_of columns a.0) made e in
      subst Passes (sym m.2) (passes-Not (is_place columns) m.0 ∙ a.1 m.0 m.1)

  cond_holds : (text : CondText) → Holds text
  cond_holds = ind-CondText Holds (λ x y is made e.
      let read : cond_of columns (roll-CondText x) ≡ cond_step columns (map-CondText CondText (Option Cond) (cond_of columns) (plain y)) =
      fold-roll-CondText (Option Cond) (cond_step columns) x ∙ ap (λ l. cond_step columns (map-CondText CondText (Option Cond) (cond_of columns) l)) (sym is) in
      level_holds y made (sym read ∙ e))

  given_holds : (text : Option CondText) (made : Option Cond) → given_cond columns text ≡ Some made → given_cond_passes (is_place columns) made ≡ true
  given_holds None made e = subst (λ m. given_cond_passes (is_place columns) m ≡ true) (some_is None made e) refl
  given_holds (Some text) made e = by_cond (cond_of columns text) refl e
    where
      by_cond : (cond : Option Cond) → cond_of columns text ≡ cond → given cond ≡ Some made → given_cond_passes (is_place columns) made ≡ true
      by_cond None is e = cc
      by_cond (Some cond) is e = subst (λ m. given_cond_passes (is_place columns) m ≡ true) (some_is (Some cond) made e) (cond_holds text cond is)

  -- ---- items

  item_holds : (given : Selection) (item : Item) → item_of columns given ≡ Some item → item_passes (is_place columns) item ≡ true
  item_holds (selection.Column name) item e =
      let m = mapped_is Plain (place_of columns name) item e in
      subst (λ i. item_passes (is_place columns) i ≡ true) (sym m.2) (place_is name m.0 m.1)
  item_holds selection.Count item e = subst (λ i. item_passes (is_place columns) i ≡ true) (some_is Count item e) refl
  item_holds (selection.Of agg name) item e =
      let m = mapped_is (Of agg) (place_of columns name) item e in
      subst (λ i. item_passes (is_place columns) i ≡ true) (sym m.2) (place_is name m.0 m.1)

  items_hold : (given : Selected) (items : List Item) → items_of columns given ≡ Some items → list_all (item_passes (is_place columns)) items ≡ true
  items_hold All items e = subst (λ is. list_all (item_passes (is_place columns)) is ≡ true) (some_is (map Plain (range_with_len 0 (length columns))) items e) (numbers_pass (length columns) 0 (length columns) (omega arith))
  items_hold (Items given) items e = all_pass (item_of columns) (item_passes (is_place columns)) item_holds given items e

  -- ---- queries

  pub found : {A : Type 0} (why : QueryWhy) (o : Option A) (x : A) → ok_or why o ≡ Ok x → o ≡ Some x
  found why None x e = cc
  found why (Some y) x e = let same : y ≡ x = cc in ap (λ z. let o : Option _ = Some z in o) same

  items_query_passes : (text : QueryText) (items : List Item) (keys : List ℕ) (query : Query) → list_all (item_passes (is_place columns)) items ≡ true → list_all (is_place columns) keys ≡ true
      → judged_items columns text items keys ≡ Ok query → query_passes (is_place columns) query ≡ true
  unfolding judged_items
  items_query_passes text items keys query of_items of_keys e =
      required (are_grouped items keys) NotGrouped _ query e (λ grouped e1.
      ok_then (ok_or BadLiteral (given_cond columns text.cond)) _ query e1 (λ cond is e2.
      required (list_all (is_over columns) items) BadAggregate _ query e2 (λ over e3.
      let made : Query = record { items = items; cond = cond; keys = keys; limit = text.limit } in
      subst (λ q. query_passes (is_place columns) q ≡ true) (sym (ok_one made query e3))
      (both_of (list_all (item_passes (is_place columns)) items) (given_cond_passes (is_place columns) cond && list_all (is_place columns) keys) of_items
      (both_of (given_cond_passes (is_place columns) cond) (list_all (is_place columns) keys) (given_holds text.cond cond (found BadLiteral (given_cond columns text.cond) cond is)) of_keys)))))

  judged_query_passes : (text : QueryText) (query : Query) → judged_query columns text ≡ Ok query → query_passes (is_place columns) query ≡ true
  unfolding judged_query
  judged_query_passes text query e =
      ok_then (ok_or NoSuchColumn (items_of columns text.items)) _ query e (λ items is e1.
      ok_then (ok_or NoSuchColumn (all_of (place_of columns) text.group)) _ query e1 (λ keys are e2.
      required (given_is_present columns text.cond) NoSuchColumn _ query e2 (λ present e3.
      items_query_passes text items keys query (items_hold text.items items (found NoSuchColumn (items_of columns text.items) items is))
      (all_pass (place_of columns) (is_place columns) place_is text.group keys (found NoSuchColumn (all_of (place_of columns) text.group) keys are)) e3)))

  pub query_is_within : (text : QueryText) (r : Result Query QueryError) → GivesQuery r (judged_query columns text) → IfOk r (λ query. IsTrue (query_passes (is_place columns) query))
  query_is_within text (Ok query) e = judged_query_passes text query e
  query_is_within text (Err why) e = tt
