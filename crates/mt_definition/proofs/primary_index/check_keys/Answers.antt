use Rattle.std.proofs.Common.{sym, ◌∙◌}
use Rattle.mt_defs.specs.PrimaryIndex.{key_bytes}
use Rattle.mt_definition.proofs.KeyLemmas.{keys_differ, keys_same, keys_done, keys_left, row_fits}
use Rattle.mt_definition.proofs.primary_index.check_keys.Goals as goal

pub key_of-requires-clause-fits : goal.key_of-requires-clause-fits
key_of-requires-clause-fits c = row_fits c.args.columns.now c.args.rows.now c.loop-granule.granule c.index-rows-granule.result c.requires.fit c.loop-granule-test.true c.index-rows-granule.is

pub returns-in_default-strip_prefix : goal.returns-in_default-strip_prefix
returns-in_default-strip_prefix c =
    keys_differ (key_bytes c.args.columns.now c.args.key.now) c.args.rows.now c.loop-granule.granule c.index-rows-granule.result c.loop-granule.rest.now c.as_slice.result.now _ c.granule_fault.result c.loop-granule.invariant c.loop-granule-test.true
    c.index-rows-granule.is (c.as_slice.ensures ∙ c.in-Ok.ensures) c.in_default-strip_prefix.ensures.cases c.granule_fault.ensures

pub loop-granule-preserved : goal.loop-granule-preserved
loop-granule-preserved c =
    keys_same (key_bytes c.args.columns.now c.args.key.now) c.args.rows.now c.loop-granule.granule c.index-rows-granule.result c.loop-granule.rest.now c.as_slice.result.now c.in-Some.after.now _ c.loop-granule.invariant c.loop-granule-test.true
    c.index-rows-granule.is (c.as_slice.ensures ∙ c.in-Ok.ensures) c.in-Some.ensures.cases.0 c.in-Some.ensures.cases.1

pub returns-then-is_empty : goal.returns-then-is_empty
returns-then-is_empty c =
    keys_done (key_bytes c.args.columns.now c.args.key.now) c.args.rows.now c.loop-granule.granule c.loop-granule.rest.now _ c.loop-granule.invariant c.loop-granule-test.false (sym c.is_empty.ensures ∙ c.if-is_empty.true)

pub returns-else-is_empty : goal.returns-else-is_empty
returns-else-is_empty c =
    keys_left (key_bytes c.args.columns.now c.args.key.now) c.args.rows.now c.loop-granule.granule c.loop-granule.rest.now _ c.file_fault.result c.loop-granule.invariant c.loop-granule-test.false (sym c.is_empty.ensures ∙ c.if-is_empty.false) c.file_fault.ensures
