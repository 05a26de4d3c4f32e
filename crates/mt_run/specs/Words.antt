-- The words of a call, and the command that they are: docs/CLI.md.
use Rattle.std.specs.Prelude.{ℕ, ◌+◌, ◌-◌, ◌*◌, nat_le, Bool, ◌&&◌, List, [], ◌∷◌, length, Option, None, Some, is_some, if◌then◌else◌, codes}
use Rattle.std.specs.List.{list_all}
use Rattle.std.specs.Str.{bytes_eq}
use Rattle.mt_shelf.specs.Paths.{is_path}
use Rattle.mt_command.specs.declared.limits.TheConstants.{MAX_INPUTS}
use Rattle.mt_workers.specs.Workers.{workers_of}
use Rattle.mt_trial.specs.Words.{number_in_word, row_count_in}
use Rattle.mt_run.specs.Commands.{Command, Write, Check, Rows, Show, Select, Merge, Trial}

-- a digit from 1 to 9, in ASCII
abbrev pub is_first_digit : ℕ → Bool
is_first_digit byte = nat_le 49 byte && nat_le byte 57

-- a digit from 0 to 9
abbrev pub is_digit : ℕ → Bool
is_digit byte = nat_le 48 byte && nat_le byte 57

-- decimal, from 1 to 64, without sign and leading zeros
abbrev pub workers_in : List ℕ → Option ℕ
workers_in (a ∷ []) = if is_first_digit a then workers_of (a - 48) else None
workers_in (a ∷ b ∷ []) = if is_first_digit a && is_digit b then workers_of (10 * (a - 48) + (b - 48)) else None
workers_in word = None

-- both are paths
abbrev pub are_paths : List ℕ → List ℕ → Bool
are_paths table part = is_path table && is_path part

-- write TABLE PART WORKERS
abbrev pub write_command : List (List ℕ) → Option Command
write_command (table ∷ part ∷ workers ∷ []) = if are_paths table part && is_some (workers_in workers) then Some (Write table part) else None
write_command operands = None

-- check TABLE PART WORKERS
abbrev pub check_command : List (List ℕ) → Option Command
check_command (table ∷ part ∷ workers ∷ []) = if are_paths table part && is_some (workers_in workers) then Some (Check table part) else None
check_command operands = None

-- rows TABLE PART
abbrev pub rows_command : List (List ℕ) → Option Command
rows_command (table ∷ part ∷ []) = if are_paths table part then Some (Rows table part) else None
rows_command operands = None

-- show TABLE PART
abbrev pub show_command : List (List ℕ) → Option Command
show_command (table ∷ part ∷ []) = if are_paths table part then Some (Show table part) else None
show_command operands = None

-- select TABLE PART QUERY
abbrev pub select_command : List (List ℕ) → Option Command
select_command (table ∷ part ∷ query ∷ []) = if are_paths table part then Some (Select table part query) else None
select_command operands = None

-- from 1 to 64 paths
abbrev pub are_inputs : List (List ℕ) → Bool
are_inputs inputs = nat_le 1 (length inputs) && nat_le (length inputs) MAX_INPUTS && list_all is_path inputs

-- merge TABLE WORKERS OUT IN ..
abbrev pub merge_command : List (List ℕ) → Option Command
merge_command (table ∷ workers ∷ target ∷ inputs) =
    if are_paths table target && is_some (workers_in workers) && are_inputs inputs then Some (Merge table target inputs) else None
merge_command operands = None

-- a trial, where both numbers are
abbrev pub trial_of : Option ℕ → Option ℕ → Option Command
trial_of (Some number) (Some rows) = Some (Trial number rows)
trial_of number rows = None

-- trial NUMBER ROWS WORKERS
abbrev pub trial_command : List (List ℕ) → Option Command
trial_command (number ∷ rows ∷ workers ∷ []) = if is_some (workers_in workers) then trial_of (number_in_word number) (row_count_in rows) else None
trial_command operands = None

-- the command of a name, where the words after it have its form
abbrev pub command_named : List ℕ → List (List ℕ) → Option Command
command_named name operands =
    if bytes_eq name (codes "write") then write_command operands
    else if bytes_eq name (codes "check") then check_command operands
    else if bytes_eq name (codes "rows") then rows_command operands
    else if bytes_eq name (codes "show") then show_command operands
    else if bytes_eq name (codes "select") then select_command operands
    else if bytes_eq name (codes "merge") then merge_command operands
    else if bytes_eq name (codes "trial") then trial_command operands else None

-- the command that the words are, if they are one
abbrev pub command_of : List (List ℕ) → Option Command
command_of (name ∷ operands) = command_named name operands
command_of [] = None
