use Rattle.std.proofs.Common.{◌≡◌, map, drop}
use Rattle.mt_defs.specs.PrimaryIndex.{key_bytes}
use Rattle.mt_definition.specs.RowRefs.{rows_in}
use Rattle.mt_definition.specs.RowsReading.{keys_reading}
use Rattle.mt_definition.proofs.primary_index.check_keys.Given as goal

-- what is left decides
abbrev pub invariant-loop-granule : goal.invariant-loop-granule
invariant-loop-granule l =
    keys_reading l.granule (map (key_bytes l.columns l.key) (rows_in (drop l.granule l.rows))) l.rest ≡ keys_reading 0 (map (key_bytes l.columns l.key) (rows_in l.rows)) l.bytes
