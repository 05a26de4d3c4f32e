use Rattle.std.proofs.Common.{drop}
use Rattle.mt_meta.specs.KeyReading.{types_of_key}
use Rattle.mt_meta.proofs.KeyReadingLemmas.{KeyGoesOn}
use Rattle.mt_meta.proofs.keys.read_key.Given as goal

abbrev pub invariant-loop-column_index : goal.invariant-loop-column_index
invariant-loop-column_index l = KeyGoesOn (types_of_key l.columns l.keys) l.fn.bytes (types_of_key l.columns (drop l.column_index-index l.keys)) l.key l.rest
