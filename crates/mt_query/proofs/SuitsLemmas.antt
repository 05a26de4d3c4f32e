-- The literals of a query that was read suit the table's columns.
use Rattle.std.proofs.Common.{◌≡◌, ◌+◌, ◌-◌, ◌≤◌, ◌==◌, ◌^◌, ℕ, ℤ, pos, Bool, true, false, List, ◌++◌, length, refl, sym, ap, subst, ◌∙◌, arith}
use Rattle.std.specs.Prelude.{◌&&◌, Option, Some, None, option_and_then, Result, Ok, Err, IfOk, IsTrue, nat_le, nat_lt, replicate, if◌then◌else◌}
use Rattle.std.specs.List.{list_all}
use Rattle.std.proofs.lemmas.Bool.{leb-true}
use Rattle.std.proofs.lemmas.List.{length-append, length-replicate}
use Rattle.mt_types.specs.declared.ty.Ty.{Ty, out-Ty, map-Ty}
use Rattle.mt_types.specs.declared.ty.Ty.TheOpen.{Ty-F}
use Rattle.mt_types.specs.declared.ty.Ty.TheFolds.{fold_out-Ty}
use Rattle.mt_types.specs.declared.value.Value.{Value, out-Value}
use Rattle.mt_types.specs.declared.value.Value.TheVariants.{Num, Huge, Text, outs-Num, outs-Huge, outs-Text}
use Rattle.mt_types.specs.Steps.{ok_or}
use Rattle.mt_types.specs.Fits.{number_value, text_at}
use Rattle.mt_types.proofs.OptionLemmas.{mapped_is, some_is, then_is}
use Rattle.mt_types.proofs.StepLemmas.{both_of, ok_then, ok_one, required}
use Rattle.mt_table.specs.declared.column.Column.{Column}
use Rattle.mt_table.specs.Stored.{column_at}
use Rattle.mt_calendar.specs.Dates.{date_of}
use Rattle.mt_calendar.specs.Moments.{moment_of}
use Rattle.mt_cond_syntax.specs.declared.tree.CondText.{CondText, map-CondText, roll-CondText}
use Rattle.mt_cond_syntax.specs.declared.tree.CondText.TheOpen.{CondText-F}
use Rattle.mt_cond_syntax.specs.declared.tree.CondText.TheFolds.{fold-roll-CondText, ind-CondText}
use Rattle.mt_cond_syntax.specs.declared.tree.Literal.{Literal}
use Rattle.mt_cond_syntax.specs.declared.tree.Literal.TheVariants as literal
use Rattle.mt_query_syntax.specs.declared.tree.QueryText.{QueryText}
use Rattle.mt_query.specs.declared.cond.Cond.{Cond, map-Cond, out-Cond}
use Rattle.mt_query.specs.declared.cond.Cond.TheOpen.{Cond-F}
use Rattle.mt_query.specs.declared.cond.Cond.TheFolds.{fold_out-Cond}
use Rattle.mt_query.specs.declared.cond.Cond.TheVariants.{Cmp, OneOf, IsNull, Starts, Has, And, Or, Not, outs-Cmp, outs-OneOf, outs-IsNull, outs-Starts, outs-Has, outs-And, outs-Or, outs-Not}
use Rattle.mt_query.specs.declared.query.Item.{Item}
use Rattle.mt_query.specs.declared.query.Query.{Query}
use Rattle.mt_query.specs.declared.why.QueryError.{QueryError}
use Rattle.mt_query.specs.declared.why.QueryWhy.{QueryWhy}
use Rattle.mt_query.specs.declared.why.QueryWhy.TheVariants.{BadAggregate, BadLiteral, NoSuchColumn, NotGrouped}
use Rattle.mt_query.specs.Columns.{column_of, place_of}
use Rattle.mt_query.specs.Conditions.{cond_of, cond_step, given, given_cond, given_is_present, joined_conditions, null_test_on}
use Rattle.mt_query.specs.Lists.{all_of}
use Rattle.mt_query.specs.Literals.{date_literal_value, element_value_at, element_value_of, fixed_value, inside_at, integer_value, moment_value, prefix_at, prefix_of, text_value, value_at, literal_value_of}
use Rattle.mt_query.specs.Suits.{cond_suits, cond_suits_step, given_cond_suits, is_number_value, literal_step, prefix_step, takes_item_at, takes_literal, takes_prefix}
use Rattle.mt_query.specs.Queries.{GivesQuery}
use Rattle.mt_query.specs.Rules.{are_grouped, is_over, items_of, judged_query, judged_items}
use Rattle.mt_query.proofs.NamedLemmas.{all_pass}

-- ---- literals

literal_at : (ty : Ty) (level : Ty-F Ty) → out-Ty ty ≡ level → (v : Value) → takes_literal ty v ≡ literal_step (map-Ty Ty (Value → Bool) takes_literal level) v
literal_at ty level is v = ap (λ (f : Value → Bool). f v) (fold_out-Ty (Value → Bool) literal_step ty) ∙ ap (λ l. literal_step (map-Ty Ty (Value → Bool) takes_literal l) v) is

prefix_level : (ty : Ty) (level : Ty-F Ty) → out-Ty ty ≡ level → (p : List ℕ) → takes_prefix ty p ≡ prefix_step (map-Ty Ty (List ℕ → Bool) takes_prefix level) p
prefix_level ty level is p = ap (λ (f : List ℕ → Bool). f p) (fold_out-Ty (List ℕ → Bool) prefix_step ty) ∙ ap (λ l. prefix_step (map-Ty Ty (List ℕ → Bool) takes_prefix l) p) is

numbers_are : (n : ℕ) → is_number_value (number_value (pos n)) ≡ true
numbers_are n = by (nat_lt n (2 ^ 127))
  where
    by : (b : Bool) → is_number_value (if b then Num (pos n) else Huge n) ≡ true
    by true = rw (outs-Num (pos n)) refl
    by false = rw (outs-Huge n) refl

num_is_number : (n : ℤ) → is_number_value (Num n) ≡ true
num_is_number n = rw (outs-Num n) refl

an_integer : (given : Literal) (v : Value) → integer_value given ≡ Some v → is_number_value v ≡ true
an_integer (literal.Number number) v e = let m = mapped_is (λ n. number_value (pos n)) number v e in subst (λ w. is_number_value w ≡ true) (sym m.2) (numbers_are m.0)
an_integer (literal.Negative number) v e = let m = mapped_is Num number v e in subst (λ w. is_number_value w ≡ true) (sym m.2) (num_is_number m.0)
an_integer (literal.Text text) v e = cc

a_day : (given : Literal) (v : Value) → date_literal_value given ≡ Some v → is_number_value v ≡ true
a_day (literal.Text text) v e = let m = mapped_is (λ day. Num (pos day)) (date_of text) v e in subst (λ w. is_number_value w ≡ true) (sym m.2) (num_is_number (pos m.0))
a_day given v e = cc

a_second : (given : Literal) (v : Value) → moment_value given ≡ Some v → is_number_value v ≡ true
a_second (literal.Text text) v e = let m = mapped_is (λ second. Num (pos second)) (moment_of text) v e in subst (λ w. is_number_value w ≡ true) (sym m.2) (num_is_number (pos m.0))
a_second given v e = cc

a_text : (given : Literal) (v : Value) → text_value given ≡ Some v → text_at (λ bytes. true) (out-Value v) ≡ true
a_text (literal.Text text) v e = subst (λ w. text_at (λ bytes. true) (out-Value w) ≡ true) (some_is (Text text) v e) (rw (outs-Text text) refl)
a_text given v e = cc

padded_long : (size : ℕ) (text : List ℕ) → length text ≤ size → (length (text ++ replicate (size - length text) 0) == size) ≡ true
padded_long size text le = let e = length-append text (replicate (size - length text) 0) in let z = length-replicate {A = ℕ} (size - length text) 0 in grind (arith, e, z, le)

a_fixed : (size : ℕ) (given : Literal) (v : Value) → fixed_value size given ≡ Some v → text_at (λ bytes. length bytes == size) (out-Value v) ≡ true
a_fixed size (literal.Number number) v e = cc
a_fixed size (literal.Negative number) v e = cc
a_fixed size (literal.Text text) v e = by (nat_le (length text) size) refl e
  where
    full : List ℕ
    full = text ++ replicate (size - length text) 0

    by : (b : Bool) → nat_le (length text) size ≡ b → (if b then Some (Text full) else None) ≡ Some v → text_at (λ bytes. length bytes == size) (out-Value v) ≡ true
    by true le e = subst (λ w. text_at (λ bytes. length bytes == size) (out-Value w) ≡ true) (some_is (Text full) v e) (rw (outs-Text full) (padded_long size text (leb-true (length text) size le)))
    by false le e = cc

plain_suits : (level : Ty-F Ty) (given : Literal) (v : Value) → value_at level given ≡ Some v → literal_step (map-Ty Ty (Value → Bool) takes_literal level) v ≡ true
plain_suits (Ty-F.UInt width) given v e = an_integer given v e
plain_suits (Ty-F.Int width) given v e = an_integer given v e
plain_suits Ty-F.Date given v e = a_day given v e
plain_suits Ty-F.Moment given v e = a_second given v e
plain_suits Ty-F.Str given v e = a_text given v e
plain_suits (Ty-F.FixedString size) given v e = a_fixed size given v e
plain_suits level given v e = cc

value_suits : (ty : Ty) (given : Literal) (v : Value) → literal_value_of ty given ≡ Some v → takes_literal ty v ≡ true
value_suits ty given v e = by (out-Ty ty) refl e
  where
    by : (level : Ty-F Ty) → out-Ty ty ≡ level → value_at (out-Ty (inside_at ty level)) given ≡ Some v → takes_literal ty v ≡ true
    by (Ty-F.Nullable inner) is e = literal_at ty (Ty-F.Nullable inner) is v ∙ literal_at inner (out-Ty inner) refl v ∙ plain_suits (out-Ty inner) given v e
    by level is e = literal_at ty level is v ∙ plain_suits level given v (subst (λ l. value_at l given ≡ Some v) is e)

element_suits : (ty : Ty) (given : Literal) (v : Value) → element_value_of ty given ≡ Some v → takes_item_at (out-Ty ty) v ≡ true
element_suits ty given v e = by (out-Ty ty) e
  where
    by : (level : Ty-F Ty) → element_value_at level given ≡ Some v → takes_item_at level v ≡ true
    by (Ty-F.Array inner) e = value_suits inner given v e
    by level e = cc

plain_prefix : (level : Ty-F Ty) (text p : List ℕ) → prefix_at level text ≡ Some p → prefix_step (map-Ty Ty (List ℕ → Bool) takes_prefix level) p ≡ true
plain_prefix Ty-F.Str text p e = refl
plain_prefix (Ty-F.FixedString size) text p e = by (nat_le (length text) size) refl e
  where
    by : (b : Bool) → nat_le (length text) size ≡ b → (if b then Some text else None) ≡ Some p → nat_le (length p) size ≡ true
    by true le e = subst (λ q. nat_le (length q) size ≡ true) (some_is text p e) le
    by false le e = cc
plain_prefix level text p e = cc

prefix_suits : (ty : Ty) (text p : List ℕ) → prefix_of ty text ≡ Some p → takes_prefix ty p ≡ true
prefix_suits ty text p e = by (out-Ty ty) refl e
  where
    by : (level : Ty-F Ty) → out-Ty ty ≡ level → prefix_at (out-Ty (inside_at ty level)) text ≡ Some p → takes_prefix ty p ≡ true
    by (Ty-F.Nullable inner) is e = prefix_level ty (Ty-F.Nullable inner) is p ∙ prefix_level inner (out-Ty inner) refl p ∙ plain_prefix (out-Ty inner) text p e
    by level is e = prefix_level ty level is p ∙ plain_prefix level text p (subst (λ l. prefix_at l text ≡ Some p) is e)

module _ (columns : List Column) where
  -- ---- conditions by their variants

  suits_at : (c : Cond) (level : Cond-F Cond) → out-Cond c ≡ level → cond_suits columns c ≡ cond_suits_step columns (map-Cond Cond Bool (cond_suits columns) level)
  suits_at c level is = fold_out-Cond Bool (cond_suits_step columns) c ∙ ap (λ l. cond_suits_step columns (map-Cond Cond Bool (cond_suits columns) l)) is

  abbrev Suits : Cond → Type 0
  Suits made = cond_suits columns made ≡ true

  -- a condition of a column and of something that suits its type
  column_suits : {X : Type 0} (name : List ℕ) (suit : Ty → Option X) (test : Ty → X → Bool) (make : ℕ → X → Cond) → ((ty : Ty) (x : X) → suit ty ≡ Some x → test ty x ≡ true)
      → ((place : ℕ) (x : X) → cond_suits columns (make place x) ≡ test (column_at columns place).ty x) → (made : Cond)
      → option_and_then (λ (column : ℕ × Ty). option_and_then (λ (x : X). let o : Option Cond = Some (make column.0 x) in o) (suit column.1)) (column_of columns name) ≡ Some made → Suits made
  column_suits {X = X} name suit test make each means made e =
      let one = then_is (λ (column : ℕ × Ty). option_and_then (λ (x : X). let o : Option Cond = Some (make column.0 x) in o) (suit column.1)) (column_of columns name) made e in
      let two = then_is (λ (x : X). let o : Option Cond = Some (make one.0.0 x) in o) (suit one.0.1) made one.2 in
      let m = mapped_is (λ (place : ℕ). (place, (column_at columns place).ty)) (place_of columns name) one.0 one.1 in
      let of_type : test one.0.1 two.0 ≡ true = each one.0.1 two.0 two.1 in
      let fits : test (column_at columns one.0.0).ty two.0 ≡ test one.0.1 two.0 = ap (λ (c : ℕ × Ty). test (column_at columns c.0).ty two.0) m.2 ∙ ap (λ (c : ℕ × Ty). test c.1 two.0) (sym m.2) in
      subst Suits (some_is (make one.0.0 two.0) made two.2) (means one.0.0 two.0 ∙ fits ∙ of_type)

  null_suits : (name : List ℕ) (negated : Bool) (made : Cond) → null_test_on columns name negated ≡ Some made → Suits made
  null_suits name negated made e =
      let one = then_is (λ (place : ℕ). let o : Option Cond = Some (IsNull place negated) in o) (place_of columns name) made e in
      subst Suits (some_is (IsNull one.0 negated) made one.2) (suits_at (IsNull one.0 negated) (Cond-F.IsNull one.0 negated) (outs-IsNull one.0 negated))

  joined_suits : (join : Cond → Cond → Cond) → ((a b : Cond) → cond_suits columns (join a b) ≡ (cond_suits columns a && cond_suits columns b)) → (left right : Option Cond) (made : Cond)
      → joined_conditions join left right ≡ Some made → ((a : Cond) → left ≡ Some a → Suits a) → ((b : Cond) → right ≡ Some b → Suits b) → Suits made
  joined_suits join means left right made e l r =
      let one = then_is (λ (a : Cond). option_and_then (λ (b : Cond). let o : Option Cond = Some (join a b) in o) right) left made e in
      let two = then_is (λ (b : Cond). let o : Option Cond = Some (join one.0 b) in o) right made one.2 in
      subst Suits (some_is (join one.0 two.0) made two.2)
      (means one.0 two.0 ∙ both_of (cond_suits columns one.0) (cond_suits columns two.0) (l one.0 one.1) (r two.0 two.1))

  -- what a condition of a sentence gives suits the columns
  abbrev Holds : CondText → Type 0
  Holds text = (made : Cond) → cond_of columns text ≡ Some made → Suits made

  -- a condition of which this is known
  abbrev Known : Type 0
  Known = (text : CondText) × Holds text

  -- a level without what is known
  abbrev plain : CondText-F Known → CondText-F CondText
  plain level = map-CondText Known CondText (λ k. k.0) level

  level_holds : (level : CondText-F Known) (made : Cond) → cond_step columns (map-CondText CondText (Option Cond) (cond_of columns) (plain level)) ≡ Some made → Suits made
  level_holds (CondText-F.Cmp name op given) made e =
      column_suits name (λ ty. literal_value_of ty given) takes_literal (λ place value. Cmp place op value) (λ ty value. value_suits ty given value)
      (λ place value. suits_at (Cmp place op value) (Cond-F.Cmp place op value) (outs-Cmp place op value)) made e
  level_holds (CondText-F.OneOf name literals) made e =
      column_suits name (λ ty. all_of (literal_value_of ty) literals) (λ ty. list_all (takes_literal ty)) OneOf (λ ty values. all_pass (literal_value_of ty) (takes_literal ty) (value_suits ty) literals values)
      (λ place values. suits_at (OneOf place values) (Cond-F.OneOf place values) (outs-OneOf place values)) made e
  level_holds (CondText-F.IsNull name negated) made e = null_suits name negated made e
  level_holds (CondText-F.Starts name prefix) made e =
      column_suits name (λ ty. prefix_of ty prefix) takes_prefix Starts (λ ty text. prefix_suits ty prefix text)
      (λ place text. suits_at (Starts place text) (Cond-F.Starts place text) (outs-Starts place text)) made e
  level_holds (CondText-F.Has name given) made e =
      column_suits name (λ ty. element_value_of ty given) (λ ty. takes_item_at (out-Ty ty)) Has (λ ty value. element_suits ty given value)
      (λ place value. suits_at (Has place value) (Cond-F.Has place value) (outs-Has place value)) made e
  level_holds (CondText-F.And a b) made e = joined_suits And (λ l r. suits_at (And l r) (Cond-F.And l r) (outs-And l r)) (cond_of columns a.0) (cond_of columns b.0) made e a.1 b.1
  level_holds (CondText-F.Or a b) made e = joined_suits Or (λ l r. suits_at (Or l r) (Cond-F.Or l r) (outs-Or l r)) (cond_of columns a.0) (cond_of columns b.0) made e a.1 b.1
  level_holds (CondText-F.Not a) made e =
      let m = mapped_is Not (cond_of columns a.0) made e in
      subst Suits (sym m.2) (suits_at (Not m.0) (Cond-F.Not m.0) (outs-Not m.0) ∙ a.1 m.0 m.1)

  cond_holds : (text : CondText) → Holds text
  cond_holds = ind-CondText Holds (λ x y is made e.
      let read : cond_of columns (roll-CondText x) ≡ cond_step columns (map-CondText CondText (Option Cond) (cond_of columns) (plain y)) =
      fold-roll-CondText (Option Cond) (cond_step columns) x ∙ ap (λ l. cond_step columns (map-CondText CondText (Option Cond) (cond_of columns) l)) (sym is) in
      level_holds y made (sym read ∙ e))

  given_holds : (text : Option CondText) (made : Option Cond) → given_cond columns text ≡ Some made → given_cond_suits columns made ≡ true
  given_holds None made e = by made e
    where
      by : (made : Option Cond) → (let none : Option (Option Cond) = Some None in none) ≡ Some made → given_cond_suits columns made ≡ true
      by None e = refl
      by (Some cond) e = cc
  given_holds (Some text) made e = by_cond (cond_of columns text) refl e
    where
      by_cond : (cond : Option Cond) → cond_of columns text ≡ cond → given cond ≡ Some made → given_cond_suits columns made ≡ true
      by_cond None is e = cc
      by_cond (Some cond) is e = subst (λ m. given_cond_suits columns m ≡ true) (some_is (Some cond) made e) (cond_holds text cond is)

  -- ---- queries

  found : {A : Type 0} (why : QueryWhy) (o : Option A) (x : A) → ok_or why o ≡ Ok x → o ≡ Some x
  found why None x e = cc
  found why (Some y) x e = let same : y ≡ x = cc in ap (λ z. let o : Option _ = Some z in o) same

  items_query_suits : (text : QueryText) (items : List Item) (keys : List ℕ) (query : Query) → judged_items columns text items keys ≡ Ok query → given_cond_suits columns query.cond ≡ true
  unfolding judged_items
  items_query_suits text items keys query e =
      required (are_grouped items keys) NotGrouped _ query e (λ grouped e1.
      ok_then (ok_or BadLiteral (given_cond columns text.cond)) _ query e1 (λ cond is e2.
      required (list_all (is_over columns) items) BadAggregate _ query e2 (λ over e3.
      let made : Query = record { items = items; cond = cond; keys = keys; limit = text.limit } in
      subst (λ (q : Query). given_cond_suits columns q.cond ≡ true) (sym (ok_one made query e3)) (given_holds text.cond cond (found BadLiteral (given_cond columns text.cond) cond is)))))

  judged_query_suits : (text : QueryText) (query : Query) → judged_query columns text ≡ Ok query → given_cond_suits columns query.cond ≡ true
  unfolding judged_query
  judged_query_suits text query e =
      ok_then (ok_or NoSuchColumn (items_of columns text.items)) _ query e (λ items is e1.
      ok_then (ok_or NoSuchColumn (all_of (place_of columns) text.group)) _ query e1 (λ keys are e2.
      required (given_is_present columns text.cond) NoSuchColumn _ query e2 (λ present e3. items_query_suits text items keys query e3)))

  pub query_suits : (text : QueryText) (r : Result Query QueryError) → GivesQuery r (judged_query columns text) → IfOk r (λ query. IsTrue (given_cond_suits columns query.cond))
  query_suits text (Ok query) e = judged_query_suits text query e
  query_suits text (Err why) e = tt
