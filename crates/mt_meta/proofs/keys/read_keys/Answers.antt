use Rattle.std.proofs.Common.{◌+◌, List, Some, None, length, take, ap, sym, subst, ◌∙◌, arith}
use Rattle.std.proofs.lemmas.List.{length_push}
use Rattle.mt_types.specs.declared.ty.Ty.{Ty}
use Rattle.mt_table.specs.declared.column.Column.{Column}
use Rattle.mt_defs.specs.Rows.{Row}
use Rattle.mt_meta.specs.KeyReading.{types_of_key, key_types, fits_key, key_items, IsFirst}
use Rattle.mt_meta.proofs.KeyReadingLemmas.{KeysGoOn, keys_start, keys_more, keys_taken, no_key, all_keys}
use Rattle.mt_meta.proofs.keys.read_keys.Goals as goal

pub granules-init : goal.granules-init
granules-init c =
    let columns = c.as_slice-columns.ensures in
    let key = c.split_at.ensures.front ∙ ap (take c.args.def.now.primary) c.as_slice.ensures in
    record {
      goes = subst (λ (keys : List Row). KeysGoOn (key_types c.args.def.now) c.args.bytes.now keys c.args.bytes.now) (sym c.new-keys.ensures) (keys_start (key_types c.args.def.now) c.args.bytes.now);
      few = rw c.new-keys.ensures (omega arith);
      same = ap (λ (cs : List Column). types_of_key cs c.split_at.result.0.now) columns ∙ ap (types_of_key c.args.def.now.columns) key;
      scalar = rw (columns, key) (keys_taken c.args.def.now.columns c.args.def.now.sort c.args.def.now.primary c.requires.keys);
    }

pub granules-preserved : goal.granules-preserved
granules-preserved c =
    let types = key_types c.args.def.now in
    let here = rw c.in-Some.is at c.in-Ok.ensures in
    let first = subst (λ (ts : List Ty). IsFirst (fits_key ts) (key_items ts) c.granules.rest.now (Some (c.in-Some.row, c.in-Some.after.now))) c.granules.invariant.same here in
    let goes = keys_more types c.args.bytes.now c.granules.keys c.in-Some.row c.granules.rest.now c.in-Some.after.now first c.granules.invariant.goes in
    let long = ap length c.in-Ok-push.ensures.ok ∙ length_push c.granules.keys c.in-Some.row in
    record {
      goes = subst (λ (keys : List Row). KeysGoOn types c.args.bytes.now keys c.in-Some.after.now) (sym c.in-Ok-push.ensures.ok) goes;
      few = omega (arith, long, c.granules.invariant.few, c.len-granule.ensures, c.if-granule-granules.false);
      same = c.granules.invariant.same;
      scalar = c.granules.invariant.scalar;
    }

pub returns-in_default-read : goal.returns-in_default-read
returns-in_default-read c =
    let types = key_types c.args.def.now in
    let here = rw c.in_default-read.is at c.in-Ok.ensures in
    let first = subst (λ (ts : List Ty). IsFirst (fits_key ts) (key_items ts) c.granules.rest.now None) c.granules.invariant.same here in
    let returned = no_key types (c.args.granules + 1) c.args.bytes.now c.granules.keys c.granules.rest.now c.granule_fault.result first c.granules.invariant.goes (omega (arith, c.granules.invariant.few)) (rw c.len-granule.ensures at c.granule_fault.ensures) in
    record { gives = returned.0; only = returned.1 }

pub returns-then-granule-granules : goal.returns-then-granule-granules
returns-then-granule-granules c =
    let types = key_types c.args.def.now in
    let here = rw c.in-Some.is at c.in-Ok.ensures in
    let first = subst (λ (ts : List Ty). IsFirst (fits_key ts) (key_items ts) c.granules.rest.now (Some (c.in-Some.row, c.in-Some.after.now))) c.granules.invariant.same here in
    let goes = keys_more types c.args.bytes.now c.granules.keys c.in-Some.row c.granules.rest.now c.in-Some.after.now first c.granules.invariant.goes in
    let pushed = subst (λ (keys : List Row). KeysGoOn types c.args.bytes.now keys c.in-Some.after.now) (sym c.in-Ok-push.ensures.ok) goes in
    let long = ap length c.in-Ok-push.ensures.ok ∙ length_push c.granules.keys c.in-Some.row in
    let returned = all_keys types (c.args.granules + 1) c.args.bytes.now c.push.new.self c.in-Some.after.now c.all_read.result pushed (omega (arith, long, c.len-granule.ensures, c.if-granule-granules.true)) c.all_read.ensures in
    record { gives = returned.0; only = returned.1 }
