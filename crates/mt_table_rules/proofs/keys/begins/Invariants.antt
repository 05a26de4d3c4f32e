use Rattle.std.proofs.Common.{◌≡◌, drop}
use Rattle.mt_table.specs.Names.{begins}
use Rattle.mt_table_rules.proofs.keys.begins.Given as goal

abbrev pub invariant-loop-place : goal.invariant-loop-place
invariant-loop-place l = begins (drop l.place l.first) (drop l.place l.names) ≡ begins l.first l.names
