-- Without a DUP no key is looked for.
use Rattle.std.proofs.Common.{◌≡◌, Bool, true, false, ◌||◌, List, [], ◌∷◌, map, reverse, Option, Some, None, if◌then◌else◌, refl, sym, ap, ◌∙◌}
use Rattle.std.specs.List.{list_any}
use Rattle.std.proofs.lemmas.List.Sorted.{list_any-IsPermutation, IsPermutation-reverse}
use Rattle.def_script.specs.declared.Op.TheVariants as op
use Rattle.def_script.specs.Bytes.{Bytes}
use Rattle.def_script.specs.Instruction.{Instruction, push, code}
use Rattle.def_tree.specs.Tree.{Key}
use Rattle.def_decode.specs.Decoded.{first_with}
use Rattle.ms_decode_laws.specs.Scaffolding.Frame.{Frame}
use Rattle.ms_decode_laws.specs.Scaffolding.Want as want
use Rattle.ms_decode_laws.specs.Scaffolding.Reader.{State, at, hash160_step, step, run, start, finish, read}
use Rattle.ms_reading.specs.declared.codes.Code.{Code}
use Rattle.ms_reading.specs.Scaffolding.Dups.{is_dup, has_dup}
use Rattle.ms_reading.specs.Scaffolding.States.{instruction_of, backwards}

hash160_same : (find find' : Bytes → Option Key) (bytes : Bytes) (fs : List Frame) (i : Instruction) → is_dup i ≡ false →
    hash160_step find bytes fs i ≡ hash160_step find' bytes fs i
hash160_same find find' bytes fs (push other) e = refl
hash160_same find find' bytes fs (code op.Dup) e = absurd cc
hash160_same find find' bytes fs (code other) e = refl

step_same : (find find' : Bytes → Option Key) (s : State) (i : Instruction) → is_dup i ≡ false → step find s i ≡ step find' s i
step_same find find' (at (want.hash160_of bytes) fs) i e = hash160_same find find' bytes fs i e
step_same find find' (at other fs) i e = refl

neither : (a b : Bool) → (a || b) ≡ false → (a ≡ false) × (b ≡ false)
neither true b e = absurd cc
neither false b e = (refl, e)

run_same : (find find' : Bytes → Option Key) (s : Option State) (is : List Instruction) → list_any is_dup is ≡ false → run find s is ≡ run find' s is
run_same find find' s [] e = refl
run_same find find' None (i ∷ is) e = refl
run_same find find' (Some s) (i ∷ is) e =
    let parts = neither (is_dup i) (list_any is_dup is) e in
    run_same find find' (step find s i) is parts.1 ∙ ap (λ (t : Option State). run find' t is) (step_same find find' s i parts.0)

any-map : (codes : List Code) → list_any is_dup (map instruction_of codes) ≡ has_dup codes
any-map [] = refl
any-map (c ∷ codes) = ap (λ (b : Bool). is_dup (instruction_of c) || b) (any-map codes)

none_backwards : (codes : List Code) → has_dup codes ≡ false → list_any is_dup (backwards codes) ≡ false
none_backwards codes e =
    sym (list_any-IsPermutation is_dup (map instruction_of codes) (reverse (map instruction_of codes)) (IsPermutation-reverse (map instruction_of codes)))
    ∙ any-map codes ∙ e

-- the reader finds the same with the keys that are wanted
pub read_same : (keys : List Key) (codes : List Code) →
    read (first_with (if has_dup codes then keys else [])) (backwards codes) ≡ read (first_with keys) (backwards codes)
read_same keys codes = go (has_dup codes) refl
  where
    go : (b : Bool) → has_dup codes ≡ b → read (first_with (if b then keys else [])) (backwards codes) ≡ read (first_with keys) (backwards codes)
    go true e = refl
    go false e = ap finish (run_same (first_with []) (first_with keys) (Some start) (backwards codes) (none_backwards codes e))
