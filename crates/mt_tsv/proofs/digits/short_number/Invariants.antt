use Rattle.std.proofs.Common.{◌≡◌, ◌<◌, ◌^◌, drop}
use Rattle.mt_tsv.proofs.DigitRuns.{number_reading}
use Rattle.mt_tsv.proofs.digits.short_number.Given as goal

abbrev pub invariant-loop-c : goal.invariant-loop-c
invariant-loop-c l = record {
  ahead : number_reading l.number (drop l.c-index l.text) ≡ number_reading 0 l.text;
  below : l.number < 10 ^ l.c-index;
}
