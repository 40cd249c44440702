use Rattle.std.proofs.Common.{◌≡◌, ◌^◌, ◌<◌, true, drop}
use Rattle.fields.specs.Numbers.{digits_only, value_after}
use Rattle.fields.proofs.numbers.number.Given as goal

abbrev pub invariant-loop-byte : goal.invariant-loop-byte
invariant-loop-byte l = record {
  fits : l.value < 2 ^ 32;
  value : value_after 0 l.text ≡ value_after l.value (drop l.byte-index l.text);
  digits : digits_only (drop l.byte-index l.text) ≡ true;
}
