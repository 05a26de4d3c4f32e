-- The number of workers of a command.
use Rattle.std.specs.Prelude.{ℕ, nat_le, ◌&&◌, Option, Some, None, if◌then◌else◌}
use Rattle.mt_workers.specs.declared.TheConstants.{MAX_WORKERS}

-- that many, if a command may have them
abbrev pub workers_of : ℕ → Option ℕ
workers_of count = if nat_le 1 count && nat_le count MAX_WORKERS then Some count else None
