-- Five bytes more, and what is left.
use Rattle.std.proofs.Common.{◌≡◌, ◌++◌, ◌<◌, ◌≤◌, ℕ, List, length, OnOk, subst, sym, ap, ◌∙◌, arith}
use Rattle.def_script.specs.Bytes.{IsBytes}
use Rattle.def_address.specs.Bech32.{in_fives}
use Rattle.ms_address.proofs.Programs.{chunk_more, last_is, bytes_behind}
use Rattle.ms_address.proofs.bech32.push_fives.Goals as goal

pub chunks-preserved : goal.chunks-preserved
chunks-preserved c =
    let rest = c.chunks.rest.now in
    let long : 5 ≤ length rest = omega arith in
    let more = chunk_more c.chunks.values.items rest long c.chunks.invariant.bytes in
    let before = c.chunks.invariant.all in
    let P : List ℕ → Type 0 = λ z. IsBytes z in
    record {
      all = cc (c.in_ok-push_values.ensures, c.number_of.ensures.number, c.split_at.ensures.front, c.split_at.ensures.back, more, before);
      bytes = subst P (sym c.split_at.ensures.back) (bytes_behind rest 5 c.chunks.invariant.bytes);
    }

pub returns : goal.returns
returns c =
    let rest = c.chunks.rest.now in
    let short : length rest < 5 = omega arith in
    let last = last_is c.number_of-2.result rest short c.number_of-2.ensures.number c.number_of-2.ensures.below in
    let whole : c.chunks.values.items ++ in_fives rest ≡ c.args.values.now.items ++ in_fives c.args.bytes.now = c.chunks.invariant.all in
    let P : List ℕ → Type 0 = λ z. OnOk c.push_values-2.result (c.push_values-2.new.values.items ≡ z) in
    subst P (ap (λ (z : List ℕ). c.chunks.values.items ++ z) last ∙ whole) c.push_values-2.ensures
