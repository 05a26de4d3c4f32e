use Rattle.std.proofs.Common.{◌≡◌, ◌≤◌, ◌-◌, length}
use Rattle.mt_meta.specs.KeyReading.{types_of_key, key_types}
use Rattle.mt_meta.specs.Keys.{AreKeys}
use Rattle.mt_meta.proofs.KeyReadingLemmas.{KeysGoOn}
use Rattle.mt_meta.proofs.keys.read_keys.Given as goal

abbrev pub invariant-granules : goal.invariant-granules
invariant-granules l = record {
  goes : KeysGoOn (key_types l.fn.def) l.fn.bytes l.keys l.rest;
  few : length l.keys ≤ l.granules;
  same : types_of_key l.columns l.key ≡ key_types l.fn.def;
  scalar : AreKeys l.columns l.key;
}

abbrev pub decreases-granules : goal.decreases-granules
decreases-granules l = l.granules - length l.keys
