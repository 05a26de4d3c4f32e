-- How values that are seen compare.
use Rattle.std.proofs.Common.{◌≡◌, refl, ap, ap₂, sym, ◌∙◌}
use Rattle.std.specs.Ordering.{ordering_then, nat_cmp}
use Rattle.std.specs.declared.cmp.Ordering.{Ordering}
use Rattle.std.specs.declared.cmp.Ordering.TheVariants.{Less, Equal, Greater}
use Rattle.mt_types.specs.declared.value.Value.{Value, out-Value, map-Value}
use Rattle.mt_types.specs.declared.value.Value.TheOpen.{Value-F}
use Rattle.mt_types.specs.declared.value.Value.TheVariants.{outs-Num, outs-Huge, outs-Text, outs-Null, outs-List, outs-State}
use Rattle.mt_types.specs.declared.value.Value.TheFolds.{fold_out-Value}
use Rattle.mt_types.specs.Order.{value_cmp, cmp_step, rank, same_kind_cmp}
use Rattle.mt_types.specs.Ordered.{items_same}
use Rattle.mt_cells.specs.declared.seen.Seen.{Seen}
use Rattle.mt_cells.specs.declared.seen.Seen.TheVariants as seen
use Rattle.mt_cells.specs.Seen.{value_seen, kind_rank, alike_cmp}

-- its one level
abbrev pub level_seen : Seen → Value-F Value
level_seen (seen.Num n) = Value-F.Num n
level_seen (seen.Huge n) = Value-F.Huge n
level_seen (seen.Text bytes) = Value-F.Text bytes.now
level_seen seen.Null = Value-F.Null
level_seen (seen.List items) = Value-F.List items.now
level_seen (seen.State s) = Value-F.State s

pub out_seen : (s : Seen) → out-Value (value_seen s) ≡ level_seen s
out_seen (seen.Num n) = outs-Num n
out_seen (seen.Huge n) = outs-Huge n
out_seen (seen.Text bytes) = outs-Text bytes.now
out_seen seen.Null = outs-Null
out_seen (seen.List items) = outs-List items.now
out_seen (seen.State s) = outs-State s

abbrev compared : Value-F Value → Value-F (Value → Ordering)
compared l = map-Value Value (Value → Ordering) value_cmp l

-- the comparison of two levels
abbrev levels_cmp : Value-F Value → Value-F Value → Ordering
levels_cmp l m = ordering_then (nat_cmp (rank (compared l)) (rank m)) (same_kind_cmp (compared l) m)

both_levels : (v w : Value) → value_cmp v w ≡ levels_cmp (out-Value v) (out-Value w)
both_levels v w = ap (λ (f : Value → Ordering). f w) (fold_out-Value (Value → Ordering) cmp_step v)

rank_seen : (s : Seen) → rank (compared (level_seen s)) ≡ kind_rank s
rank_seen (seen.Num n) = refl
rank_seen (seen.Huge n) = refl
rank_seen (seen.Text bytes) = refl
rank_seen seen.Null = refl
rank_seen (seen.List items) = refl
rank_seen (seen.State s) = refl

rank_level : (s : Seen) → rank (level_seen s) ≡ kind_rank s
rank_level (seen.Num n) = refl
rank_level (seen.Huge n) = refl
rank_level (seen.Text bytes) = refl
rank_level seen.Null = refl
rank_level (seen.List items) = refl
rank_level (seen.State s) = refl

alike_seen : (a b : Seen) → same_kind_cmp (compared (level_seen a)) (level_seen b) ≡ alike_cmp a b
alike_seen (seen.Num m) (seen.Num n) = refl
alike_seen (seen.Num m) (seen.Huge n) = refl
alike_seen (seen.Huge m) (seen.Num n) = refl
alike_seen (seen.Huge m) (seen.Huge n) = refl
alike_seen (seen.Text a) (seen.Text b) = refl
alike_seen (seen.List a) (seen.List b) = items_same a.now b.now
alike_seen (seen.State a) (seen.State b) = refl
alike_seen _ _ = refl

-- values compare by kind, and then within it
pub seen_cmp : (a b : Seen) → value_cmp (value_seen a) (value_seen b) ≡ ordering_then (nat_cmp (kind_rank a) (kind_rank b)) (alike_cmp a b)
seen_cmp a b =
    both_levels (value_seen a) (value_seen b)
    ∙ ap₂ levels_cmp (out_seen a) (out_seen b)
    ∙ ap₂ ordering_then (ap₂ nat_cmp (rank_seen a) (rank_level b)) (alike_seen a b)

pub first_decides : (r rest : Ordering) → (r ≡ Equal → ⊥) → ordering_then r rest ≡ r
first_decides Less rest e = refl
first_decides Equal rest e = absurd (e refl)
first_decides Greater rest e = refl

-- of one kind
pub tied : (a b : Seen) (r : Ordering) → r ≡ Equal → r ≡ nat_cmp (kind_rank a) (kind_rank b) → value_cmp (value_seen a) (value_seen b) ≡ alike_cmp a b
tied a b r equal is = seen_cmp a b ∙ ap (λ o. ordering_then o (alike_cmp a b)) (sym is ∙ equal)

-- of two kinds
pub decided : (a b : Seen) (r : Ordering) → (r ≡ Equal → ⊥) → r ≡ nat_cmp (kind_rank a) (kind_rank b) → value_cmp (value_seen a) (value_seen b) ≡ r
decided a b r other is = seen_cmp a b ∙ ap (λ o. ordering_then o (alike_cmp a b)) (sym is) ∙ first_decides r (alike_cmp a b) other
