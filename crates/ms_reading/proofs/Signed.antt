-- All keys of a `multi` were read.
use Rattle.std.proofs.Common.{◌≡◌, ℕ, ◌+◌, ◌≤◌, true, List, length, Some, ap, sym, ◌∙◌, arith}
use Rattle.std.proofs.lemmas.Bool.{le-leb}
use Rattle.def_script.specs.Bytes.{Bytes}
use Rattle.def_script.specs.Instruction.{Instruction, push}
use Rattle.def_tree.specs.Tree as tree
use Rattle.def_tree.specs.Tree.{Tree, Key}
use Rattle.ms_decode_laws.specs.Scaffolding.Frame.{Frame}
use Rattle.ms_decode_laws.specs.Scaffolding.Reader.{fits, natural_of, settle, built, signed_by, keys_step}

few_fit : (k : ℕ) (ks : List Key) → length ks ≤ 20 → fits (tree.multi k ks) ≡ true
unfolding fits
few_fit k ks few = let within : length ks + 1 ≤ 131072 = omega (arith, few) in rw (le-leb (length ks + 1) 131072 within)

pub keys_done : (n k : ℕ) (ks : List Key) (fs : List Frame) (bytes : Bytes) (i : Instruction) (x : Tree) → n ≡ 0 → i ≡ push bytes → Some k ≡ natural_of bytes
    → x ≡ tree.multi k ks → length ks ≤ 20 → keys_step n ks fs i ≡ settle x fs
keys_done n k ks fs bytes i x none is read same few =
    let a : keys_step n ks fs i ≡ keys_step 0 ks fs (push bytes) = rw (none, is) in
    let b : signed_by ks fs (natural_of bytes) ≡ signed_by ks fs (Some k) = ap (signed_by ks fs) (sym read) in
    let d : built (tree.multi k ks) fs ≡ settle (tree.multi k ks) fs = rw (few_fit k ks few) in
    a ∙ b ∙ d ∙ ap (λ t. settle t fs) (sym same)
