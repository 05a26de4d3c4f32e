-- Values as keys of sets: the same where they tie, and then they feed the same to a hash.
use Rattle.std.specs.Prelude.{◌≡◌, Bool, true}
use Rattle.std.specs.Hash.{HashWrites}
use Rattle.std.specs.Ordering.{is_eq}
use Rattle.std.specs.Cmp.{IsEquivalence}
use Rattle.std.specs.declared.cmp.Ordering.{Ordering}
use Rattle.std.specs.declared.cmp.Ordering.TheVariants.{Less, Equal, Greater}
use Rattle.std.proofs.Common.{ap, refl}
use Rattle.std.proofs.lemmas.Cmp.{eq_by_cmp_equiv, on_total}
use Rattle.mt_types.specs.Hashed.{value_writes}
use Rattle.mt_types.specs.Order.{value_cmp}
use Rattle.mt_types.specs.Ordered.{value_total}
use Rattle.mt_types.specs.Ties.{exact_values}
use Rattle.mt_skip.specs.declared.seen.Seen.{Seen}

-- the same value
abbrev pub is_same_seen : Seen → Seen → Bool
is_same_seen a b = is_eq (value_cmp a.value.now b.value.now)

pub seen_equiv : IsEquivalence is_same_seen
seen_equiv = eq_by_cmp_equiv (on_total (λ (seen : Seen). seen.value.now) value_total)

-- what a value feeds to a hash
abbrev pub seen_writes : Seen → HashWrites
seen_writes seen = value_writes seen.value.now

equal_if : (o : Ordering) → is_eq o ≡ true → o ≡ Equal
equal_if Less e = cc
equal_if Equal e = refl
equal_if Greater e = cc

pub seen_writes_respects_eq : (a b : Seen) → is_same_seen a b ≡ true → seen_writes a ≡ seen_writes b
seen_writes_respects_eq a b e = ap value_writes (exact_values a.value.now b.value.now (equal_if (value_cmp a.value.now b.value.now) e))
