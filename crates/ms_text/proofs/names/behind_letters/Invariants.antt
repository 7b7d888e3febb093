-- Letters so far.
use Rattle.std.proofs.Common.{◌≡◌, ◌-◌, ◌≤◌, true, length, take, drop, is_some}
use Rattle.std.specs.List.{list_all}
use Rattle.def_text.specs.Token.{is_word_byte}
use Rattle.def_text.specs.Scaffolding.Reader.{letters_of}
use Rattle.ms_text.specs.Scaffolding.Place.{IsPlace}
use Rattle.ms_text.proofs.names.behind_letters.Given as goal

abbrev pub invariant-loop-end : goal.invariant-loop-end
invariant-loop-end l = record {
  after : l.at ≤ l.end;
  place : IsPlace l.text l.end;
  word : list_all is_word_byte (take (l.end - l.at) (drop l.at l.text)) ≡ true;
  letters : is_some (letters_of (take (l.end - l.at) (drop l.at l.text))) ≡ true;
}

abbrev pub decreases-loop-end : goal.decreases-loop-end
decreases-loop-end l = length l.text - l.end
