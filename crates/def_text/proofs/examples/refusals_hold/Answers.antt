-- The machine's answer to each text, computed.
use Rattle.std.proofs.Common.{refl, lit<}
use Rattle.hex.proofs.OnLiterals.{hex_on_literals}
use Rattle.def_text.proofs.ByMachine.{syntax_at, deep_at, read_as}
use Rattle.def_text.proofs.examples.refusals_hold.Goals as goal

pub returns : goal.returns
unfolding hex_on_literals
returns c = record {
  nothing = syntax_at _ _ refl refl refl;
  no_name = syntax_at _ _ refl refl refl;
  short_key = syntax_at _ _ refl refl refl;
  leading_zero = syntax_at _ _ refl refl refl;
  space = syntax_at _ _ refl refl refl;
  open_parenthesis = syntax_at _ _ refl refl refl;
  second_parenthesis = syntax_at _ _ refl refl refl;
  letters = (_, read_as _ _ _ refl refl refl);
  deep_name = deep_at _ _ refl refl refl;
  deep_run = deep_at _ _ refl refl refl;
  lone_run = deep_at _ _ refl refl refl;
  nested = deep_at _ _ refl refl refl;
  depth_first = deep_at _ _ refl refl refl;
  syntax_first = syntax_at _ _ refl refl refl;
  run_as_number = syntax_at _ _ refl refl refl;
  no_name_behind_letters = syntax_at _ _ refl refl refl;
  long = lit< tt;
}
