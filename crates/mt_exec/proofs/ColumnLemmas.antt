-- Rows in memory show every column, so also those that a query names.
use Rattle.std.proofs.Common.{◌≡◌, ℕ, Bool, true, ◌&&◌, List, [], ◌∷◌, Option, Some, None, refl, ap, sym, ◌∙◌}
use Rattle.std.specs.List.{list_all}
use Rattle.std.proofs.lemmas.Bool.{and_from}
use Rattle.mt_query.specs.declared.cond.Cond.{Cond, map-Cond}
use Rattle.mt_query.specs.declared.cond.Cond.TheOpen.{Cond-F}
use Rattle.mt_query.specs.declared.cond.Cond.TheFolds.{fold-roll-Cond, ind-Cond}
use Rattle.mt_query.specs.declared.query.Item.{Item}
use Rattle.mt_query.specs.declared.query.Item.TheVariants.{Column, Count, Of}
use Rattle.mt_query.specs.declared.query.Query.{Query}
use Rattle.mt_query.specs.Named.{columns_step, cond_passes, given_cond_passes, item_passes, query_passes}

-- a test that every column passes
abbrev any : ℕ → Bool
any i = true

abbrev Passes : Cond → Type 0
Passes c = cond_passes any c ≡ true

abbrev Known : Type 0
Known = (c : Cond) × Passes c

abbrev plain : Cond-F Known → Cond-F Cond
plain x = map-Cond Known Cond (λ e. e.0) x

level_passes : (x : Cond-F Known) → columns_step any (map-Cond Cond Bool (cond_passes any) (plain x)) ≡ true
level_passes (Cond-F.Cmp column op literal) = refl
level_passes (Cond-F.OneOf column literals) = refl
level_passes (Cond-F.IsNull column negated) = refl
level_passes (Cond-F.Starts column prefix) = refl
level_passes (Cond-F.Has column literal) = refl
level_passes (Cond-F.And a b) = and_from (cond_passes any a.0) (cond_passes any b.0) a.1 b.1
level_passes (Cond-F.Or a b) = and_from (cond_passes any a.0) (cond_passes any b.0) a.1 b.1
level_passes (Cond-F.Not a) = a.1

cond_passes_any : (c : Cond) → Passes c
cond_passes_any = ind-Cond Passes (λ x y is.
    ap (λ f. f) (fold-roll-Cond Bool (columns_step any) x) ∙ ap (λ l. columns_step any (map-Cond Cond Bool (cond_passes any) l)) (sym is) ∙ level_passes y)

pub given_passes_any : (c : Option Cond) → given_cond_passes any c ≡ true
given_passes_any None = refl
given_passes_any (Some c) = cond_passes_any c

item_passes_any : (i : Item) → item_passes any i ≡ true
item_passes_any (Column i) = refl
item_passes_any Count = refl
item_passes_any (Of agg i) = refl

items_pass_any : (is : List Item) → list_all (item_passes any) is ≡ true
items_pass_any [] = refl
items_pass_any (i ∷ is) = and_from (item_passes any i) (list_all (item_passes any) is) (item_passes_any i) (items_pass_any is)

keys_pass_any : (ks : List ℕ) → list_all any ks ≡ true
keys_pass_any [] = refl
keys_pass_any (k ∷ ks) = keys_pass_any ks

pub query_passes_any : (q : Query) → query_passes any q ≡ true
query_passes_any q =
    and_from (list_all (item_passes any) q.items) (given_cond_passes any q.cond && list_all any q.keys) (items_pass_any q.items)
    (and_from (given_cond_passes any q.cond) (list_all any q.keys) (given_passes_any q.cond) (keys_pass_any q.keys))
