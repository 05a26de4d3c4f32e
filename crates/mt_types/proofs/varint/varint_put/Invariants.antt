use Rattle.std.proofs.Common.{◌≡◌, ◌++◌, ◌*◌, ◌^◌, ◌≤◌, take, drop}
use Rattle.mt_types.specs.Leb128.{leb128}
use Rattle.mt_types.proofs.varint.varint_put.Given as goal

-- the bytes so far and the encoding of what is left are the number's
abbrev pub invariant-loop-i : goal.invariant-loop-i
invariant-loop-i l = record {
  encoded : leb128 l.fn.value ≡ take l.i l.into ++ leb128 l.rest;
  kept : drop l.i l.into ≡ drop l.i l.initial.into;
  room : l.rest * 128 ^ l.i ≤ l.fn.value;
}
