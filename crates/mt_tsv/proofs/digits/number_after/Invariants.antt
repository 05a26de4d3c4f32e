use Rattle.std.proofs.Common.{◌≡◌, ◌<◌, ◌^◌, drop, true}
use Rattle.std.specs.Str.{all_ascii_digits}
use Rattle.std.specs.Str.Parse.{digits_value_after}
use Rattle.mt_tsv.proofs.digits.number_after.Given as goal

abbrev pub invariant-loop-c : goal.invariant-loop-c
invariant-loop-c l = record {
  ahead : digits_value_after 10 l.number (drop l.c-index l.text) ≡ digits_value_after 10 l.fn.first l.text;
  digits : all_ascii_digits (drop l.c-index l.text) ≡ true;
  below : l.number < 2 ^ 128;
}
