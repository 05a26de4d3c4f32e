use Rattle.std.proofs.Common.{◌≡◌, ◌<◌, ◌^◌, take}
use Rattle.std.specs.Str.Parse.{digits_value}
use Rattle.mt_tokens.proofs.digits.number_in.Given as goal

abbrev pub invariant-loop-c : goal.invariant-loop-c
invariant-loop-c l = record {
  so_far : l.number ≡ digits_value 10 (take l.c-index l.digits);
  below : l.number < 2 ^ 128;
}
