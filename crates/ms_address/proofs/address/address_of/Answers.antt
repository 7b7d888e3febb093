-- The output of a program, that of a hash, and another one.
use Rattle.std.proofs.Common.{◌≡◌, ◌-◌, ℕ, List, length, take, drop, true, false, sym, ap, ◌∙◌, Some}
use Rattle.std.proofs.lemmas.List.{take_rest}
use Rattle.def_address.specs.Bech32.{program_address}
use Rattle.def_address.specs.Address.{human_of}
use Rattle.ms_address.proofs.Outputs.{program_test, hash_test, address_program, address_hash, address_none}
use Rattle.ms_address.proofs.address.address_of.Goals as goal

pub returns-then-is_program_output : goal.returns-then-is_program_output
returns-then-is_program_output c =
    let test : program_test c.args.script.now ≡ true = cc in
    let script = c.args.script.now in
    let text : c.in_ok-text.text.items ≡ program_address (human_of c.args.network) (drop 2 script) =
    c.in_ok-text.ensures ∙ (ap (λ (z : List ℕ). program_address z (take (length script - 2) (drop 2 script))) c.human_of.ensures
    ∙ ap (program_address (human_of c.args.network)) (take_rest script 2)) in
    address_program c.args.network script test ∙ ap Some (sym text)

pub returns-then-is_hash_output : goal.returns-then-is_hash_output
returns-then-is_hash_output c =
    let first : program_test c.args.script.now ≡ false = cc in
    let test : hash_test c.args.script.now ≡ true = cc in
    address_hash c.args.network c.args.script.now first test ∙ ap Some (sym c.in_ok-text-2.ensures)

pub returns : goal.returns
returns c =
    let first : program_test c.args.script.now ≡ false = cc in
    let second : hash_test c.args.script.now ≡ false = cc in
    address_none c.args.network c.args.script.now first second
