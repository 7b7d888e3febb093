-- What the digits so far and the rest spell, and that each digit makes the number ten times greater at most.
use Rattle.std.proofs.Common.{◌≡◌, ◌<◌, ◌^◌, drop}
use Rattle.ms_text.specs.Scaffolding.Words.{digits_after}
use Rattle.ms_text.proofs.words.decimal.Given as goal

abbrev pub invariant-loop-byte : goal.invariant-loop-byte
invariant-loop-byte l = record {
  spells : digits_after l.value (drop l.byte-index l.word) ≡ digits_after 0 l.word;
  small : l.value < 10 ^ l.byte-index;
}
