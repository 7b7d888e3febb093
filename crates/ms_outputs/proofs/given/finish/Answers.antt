-- The program, the output and its address.
use Rattle.std.proofs.Common.{List, ap, ◌∙◌, sym, subst}
use Rattle.def_tree.specs.Tree.{Key}
use Rattle.def_address.specs.declared.Network.{Network}
use Rattle.def_address.specs.Address.{address_of}
use Rattle.def_descriptor.specs.Gives.{output_of}
use Rattle.ms_descriptor.specs.Bodies.{body_at}
use Rattle.ms_outputs.specs.Given.{HasAddress, IsProgramBy}
use Rattle.ms_outputs.proofs.Addressed.{has_address}
use Rattle.ms_outputs.proofs.Together.{program_is, asked_is}
use Rattle.ms_outputs.proofs.given.finish.Goals as goal

pub address_in-requires : goal.address_in-requires
address_in-requires c =
    let g = c.requires.spelled in
    let found = c.args.descriptor.now in
    let keys = c.args.spelled.keys.items in
    let by = subst (λ (z : List Key). IsProgramBy c.args.script z c.in_ok-program.program.items) c.deref.ensures.value c.in_ok-program.ensures in
    subst (HasAddress c.unwrap_or-asked.result)
    (sym (c.deref-3.ensures.value ∙ (c.in_ok-output.ensures ∙ ap (output_of found.under) c.deref-2.ensures.value)))
    (has_address c.unwrap_or-asked.result found.under (body_at g.0 found.body) keys c.args.script c.in_ok-program.program.items
    (program_is g.0 c.args.spelled.text.items found.body keys c.args.script c.in_ok-program.program.items c.requires.script by g.3.text))

pub returns-clause-given : goal.returns-clause-given
returns-clause-given c text branch index g =
    let found = c.args.descriptor.now in
    let keys = c.args.spelled.keys.items in
    let by = subst (λ (z : List Key). IsProgramBy c.args.script z c.in_ok-program.program.items) c.deref.ensures.value c.in_ok-program.ensures in
    record {
      keys = g.keys;
      text = g.text;
      program = program_is text c.args.spelled.text.items found.body keys c.args.script c.in_ok-program.program.items c.requires.script by g.text;
      output = c.in_ok-output.ensures ∙ ap (output_of found.under) c.deref-2.ensures.value;
      address =
          ap (λ (z : Network). address_of z c.in_ok-output.output.items)
          (sym (asked_is c.args.network text found.body c.network_of.result c.unwrap_or-asked.result c.unwrap_or-asked.ensures c.network_of.ensures))
          ∙ (ap (address_of c.unwrap_or-asked.result) (sym c.deref-3.ensures.value) ∙ c.in_ok-address.ensures);
    }
