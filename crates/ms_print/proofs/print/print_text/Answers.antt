use Rattle.std.proofs.Common.{rules, List, ℕ, ◌≡◌, sym, subst}
use Rattle.std.specs.String.{string_bytes}
use Rattle.def_script.specs.Bytes.{Bytes}
use Rattle.def_text.specs.Print.{printed}
use Rattle.def_text.specs.Spells.{SpellsText}
use Rattle.def_text.specs.Token.{tokens}
use Rattle.def_text.proofs.PrintedSpells.{printed_is_spelled}
use Rattle.ms_tree.specs.Shape.{shape}
use Rattle.ms_print.proofs.print.print_text.Goals as goal

pub returns-clause-spells : goal.returns-clause-spells
returns-clause-spells c =
    let is : string_bytes c.print_tree.new.out ≡ printed (shape c.args.tree.now) = search rules in
    let Spelled : Bytes → Type 0 = λ text. (os : List ℕ) × SpellsText (tokens text) (shape c.args.tree.now) os in
    subst Spelled (sym is) (printed_is_spelled (shape c.args.tree.now) c.requires.writable)
