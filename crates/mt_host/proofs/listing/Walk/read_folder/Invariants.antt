use Rattle.std.specs.Prelude.{◌≤◌, ◌+◌, vec_len}
use Rattle.mt_host.proofs.listing.Walk.read_folder.Given as goal

abbrev pub invariant-loop-found : goal.invariant-loop-found
invariant-loop-found g l = vec_len l.self.folders + l.self.names ≤ vec_len l.fn.self.folders + l.fn.self.names
