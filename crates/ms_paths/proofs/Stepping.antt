-- The steps of paths, case by case.
use Rattle.std.proofs.Common.{◌≡◌, ℕ, zero, suc, ◌+◌, ◌<◌, true, false, Bool, List, [], ◌∷◌, ◌++◌, length, drop, ap, ◌∙◌, refl, sym, Option, Some, Ok, Err, arith}
use Rattle.std.specs.Prelude.{codes}
use Rattle.std.proofs.lemmas.Bool.{cond-true, cond-false}
use Rattle.std.proofs.lemmas.List.{append-nil, append_assoc}
use Rattle.def_script.specs.Bytes.{Bytes}
use Rattle.def_descriptor.specs.declared.DescriptorFault.{DescriptorFault}
use Rattle.def_descriptor.specs.declared.DescriptorFault.TheVariants as fault
use Rattle.def_descriptor.specs.Token.{Token, token, starts, place, Read, and_then}
use Rattle.def_descriptor.specs.Steps.{Step, step_of, marked, read_step, numbered, read_steps, plain, read_plain}
use Rattle.ms_paths.specs.Places.{tokens_at, behind}
use Rattle.ms_paths.proofs.Places.{behind_some}
use Rattle.ms_paths.specs.Paths.{fault_of, step_over}
use Rattle.ms_paths.proofs.Reading.{then_ok, then_err}

-- ---- one step

pub step_bytes : (w : Bytes) (step : Step) → step_of w ≡ Some step → 0 < length w
step_bytes [] step h = absurd (cc)
step_bytes (b ∷ w) step h = omega arith

pub step_by : (ts later : List Token) (at : ℕ) (w : Bytes) (found : Option Step) → ts ≡ token at w ∷ later → step_of w ≡ found → read_step ts ≡ marked at found later
step_by ts later at w found e h = ap read_step e ∙ ap (λ (z : Option Step). marked at z later) h

pub marked_by : (at n : ℕ) (later : List Token) → starts (codes "'") later ≡ true → marked at (Some (n, false)) later ≡ Ok ((n, true), drop 1 later)
marked_by at n later h = cond-true (starts (codes "'") later) _ _ h

pub unmarked : (at n : ℕ) (later : List Token) → starts (codes "'") later ≡ false → marked at (Some (n, false)) later ≡ Ok ((n, false), later)
unmarked at n later h = cond-false (starts (codes "'") later) _ _ h

module _ (text w : Bytes) (at n : ℕ) (h : Bool) (e : tokens_at text at ≡ token at w ∷ behind text at w) (f : step_of w ≡ Some (n, h)) where
  there : behind text at w ≡ tokens_at text (at + length w)
  there = behind_some text at w (step_bytes w (n, h) f)

  pub step_hard : h ≡ true → read_step (tokens_at text at) ≡ Ok ((n, h), tokens_at text (at + length w))
  step_hard p =
      step_by (tokens_at text at) (behind text at w) at w (Some (n, true)) e (f ∙ ap (λ (z : Bool). Some (n, z)) p)
      ∙ (ap (λ (z : List Token). Ok ((n, true), z)) there ∙ ap (λ (z : Bool). Ok ((n, z), tokens_at text (at + length w))) (sym p))

  plainly : h ≡ false → read_step (tokens_at text at) ≡ marked at (Some (n, false)) (tokens_at text (at + length w))
  plainly p =
      step_by (tokens_at text at) (behind text at w) at w (Some (n, false)) e (f ∙ ap (λ (z : Bool). Some (n, z)) p)
      ∙ ap (marked at (Some (n, false))) there

  pub step_plain : h ≡ false → starts (codes "'") (tokens_at text (at + length w)) ≡ false → read_step (tokens_at text at) ≡ Ok ((n, h), tokens_at text (at + length w))
  step_plain p none =
      plainly p
      ∙ (unmarked at n (tokens_at text (at + length w)) none
      ∙ ap (λ (z : Bool). Ok ((n, z), tokens_at text (at + length w))) (sym p))

  pub step_marked : (end : ℕ) → h ≡ false → starts (codes "'") (tokens_at text (at + length w)) ≡ true
      → drop 1 (tokens_at text (at + length w)) ≡ tokens_at text end → read_step (tokens_at text at) ≡ Ok ((n, true), tokens_at text end)
  step_marked end p mark last =
      plainly p ∙ (marked_by at n (tokens_at text (at + length w)) mark ∙ ap (λ (z : List Token). Ok ((n, true), z)) last)

-- a step that may not be hardened
pub plain_hard : (ts rest : List Token) (at n : ℕ) (h : Bool) → read_step ts ≡ Ok ((n, h), rest) → place ts ≡ at → h ≡ true → read_plain ts ≡ Err (fault.Hardened at)
plain_hard ts rest at n h e there p =
    then_ok (read_step ts) (plain (place ts)) (n, h) rest e
    ∙ (ap (λ (z : Bool). plain (place ts) (n, z) rest) p
    ∙ ap (λ (z : ℕ). Err (fault.Hardened z)) there)

pub plain_is : (ts rest : List Token) (n : ℕ) (h : Bool) → read_step ts ≡ Ok ((n, h), rest) → h ≡ false → read_plain ts ≡ Ok (n, rest)
plain_is ts rest n h e p =
    then_ok (read_step ts) (plain (place ts)) (n, h) rest e ∙ ap (λ (z : Bool). plain (place ts) (n, z) rest) p

-- ---- the steps of an origin

-- numbers before those that are read
abbrev pub before : List ℕ → Read (List ℕ) → Read (List ℕ)
before steps r = and_then r (λ more end. Ok (steps ++ more, end))

pub before_none : (r : Read (List ℕ)) → r ≡ before [] r
before_none (Ok (more, end)) = refl
before_none (Err why) = refl

before_one : (steps : List ℕ) (n : ℕ) (r : Read (List ℕ)) → before steps (and_then r (λ more end. Ok (n ∷ more, end))) ≡ before (steps ++ n ∷ []) r
before_one steps n (Ok (more, end)) = ap (λ (z : List ℕ). Ok (z, end)) (sym (append_assoc steps (n ∷ []) more))
before_one steps n (Err why) = refl

-- no `/`
pub steps_end : (most : ℕ) (steps : List ℕ) (ts : List Token) → starts (codes "/") ts ≡ false → before steps (read_steps most ts) ≡ Ok (steps, ts)
unfolding read_steps
steps_end zero steps ts h =
    ap (before steps) (cond-false (starts (codes "/") ts) _ _ h) ∙ ap (λ (z : List ℕ). Ok (z, ts)) (append-nil steps)
steps_end (suc most) steps ts h =
    ap (before steps) (cond-false (starts (codes "/") ts) _ _ h) ∙ ap (λ (z : List ℕ). Ok (z, ts)) (append-nil steps)

module _ (steps : List ℕ) (ts : List Token) (h : starts (codes "/") ts ≡ true) where
  pub steps_more : (most : ℕ) (step : Step) (rest : List Token) → read_step (drop 1 ts) ≡ Ok (step, rest)
      → before steps (read_steps (suc most) ts) ≡ before (steps ++ numbered step ∷ []) (read_steps most rest)
  unfolding read_steps
  steps_more most step rest e =
      ap (before steps) (cond-true (starts (codes "/") ts) _ _ h ∙ then_ok (read_step (drop 1 ts)) _ step rest e)
      ∙ before_one steps (numbered step) (read_steps most rest)

  pub steps_wrong : (most : ℕ) (why : DescriptorFault) → read_step (drop 1 ts) ≡ Err why → before steps (read_steps (suc most) ts) ≡ Err why
  unfolding read_steps
  steps_wrong most why e = ap (before steps) (cond-true (starts (codes "/") ts) _ _ h ∙ then_err (read_step (drop 1 ts)) _ why e)

  lost : (r : Read Step) (why : DescriptorFault) → before steps (and_then r (λ step rest. Err why)) ≡ Err (fault_of r why)
  lost (Ok (step, rest)) why = refl
  lost (Err other) why = refl

  pub steps_over : before steps (read_steps zero ts) ≡ Err (step_over (drop 1 ts))
  unfolding read_steps
  steps_over = ap (before steps) (cond-true (starts (codes "/") ts) _ _ h) ∙ lost (read_step (drop 1 ts)) (fault.Depth (place (drop 1 ts)))

-- ---- by places

module _ (text : Bytes) (end next : ℕ) (steps : List ℕ) (h : starts (codes "/") (tokens_at text end) ≡ true)
    (there : drop 1 (tokens_at text end) ≡ tokens_at text next) where
  pub steps_beyond : (left : ℕ) → left ≡ zero → before steps (read_steps left (tokens_at text end)) ≡ Err (step_over (tokens_at text next))
  steps_beyond left none =
      ap (λ (z : ℕ). before steps (read_steps z (tokens_at text end))) none
      ∙ (steps_over steps (tokens_at text end) h
      ∙ ap (λ (z : List Token). Err (step_over z)) there)

  module _ (left most : ℕ) (one : left ≡ suc most) where
    less : before steps (read_steps left (tokens_at text end)) ≡ before steps (read_steps (suc most) (tokens_at text end))
    less = ap (λ (z : ℕ). before steps (read_steps z (tokens_at text end))) one

    pub steps_stop : (why : DescriptorFault) → read_step (tokens_at text next) ≡ Err why → before steps (read_steps left (tokens_at text end)) ≡ Err why
    steps_stop why e = less ∙ steps_wrong steps (tokens_at text end) h most why (ap read_step there ∙ e)

    pub steps_goes : (step : Step) (rest : List Token) → read_step (tokens_at text next) ≡ Ok (step, rest)
        → before steps (read_steps left (tokens_at text end)) ≡ before (steps ++ numbered step ∷ []) (read_steps most rest)
    steps_goes step rest e = less ∙ steps_more steps (tokens_at text end) h most step rest (ap read_step there ∙ e)
