-- How many elements both stacks hold while the machine without limits carries out instructions.
use Rattle.std.proofs.Common.{◌≡◌, ℕ, ◌+◌, ◌≤◌, List, [], ◌∷◌, ◌++◌, Ok, refl, sym, ◌∙◌, ap, subst, arith}
use Rattle.def_script.specs.declared.Op.TheVariants as op
use Rattle.def_script.specs.Instruction.{Instruction, push, code}
use Rattle.def_script.specs.Verify.{verified, verified_last}
use Rattle.def_machine.specs.Faults.{OrFault, ◌>>=◌}
use Rattle.def_machine.specs.Machine.{Given, State, height}
use Rattle.ms_acceptance_laws.proofs.ScriptRise.{rises}
use Rattle.ms_acceptance_laws.proofs.UnlimitedMachine.{free_step, free_steps}
use Rattle.ms_acceptance_laws.proofs.StepRises.{step_climbs}
use Rattle.ms_row_laws.proofs.Outcomes.{bind_split, same_ok}

-- from a state on, both stacks hold at most so many elements, before each instruction and at the end
abbrev pub IsLow : Given → List Instruction → State → ℕ → Type 0
IsLow given [] s n = height s ≤ n
IsLow given (i ∷ c) s n = (height s ≤ n) × ((t : State) → free_step given i s ≡ Ok t → IsLow given c t n)

pub low_start : (given : Given) (c : List Instruction) (s : State) (n : ℕ) → IsLow given c s n → height s ≤ n
low_start given [] s n x = x
low_start given (i ∷ c) s n x = x.0

pub low_end : (given : Given) (c : List Instruction) (s t : State) (n : ℕ) → IsLow given c s n → free_steps given c s ≡ Ok t → height t ≤ n
low_end given [] s t n x h = omega (arith, x, ap height (same_ok s t h))
low_end given (i ∷ c) s t n x h =
    let u = bind_split (free_step given i s) (free_steps given c) t h in
    low_end given c u.0 t n (x.1 u.0 u.1) u.2

-- instructions behind others
pub low_append : (given : Given) (c d : List Instruction) (s : State) (n : ℕ) → IsLow given c s n → ((t : State) → free_steps given c s ≡ Ok t → IsLow given d t n) → IsLow given (c ++ d) s n
low_append given [] d s n x y = y s refl
low_append given (i ∷ c) d s n x y =
    (x.0, λ u e. low_append given c d u n (x.1 u e) (λ t h. y t (ap (λ (r : OrFault State). r >>= free_steps given c) e ∙ h)))

-- the former of them, and the latter from where the former end
pub low_first : (given : Given) (c d : List Instruction) (s : State) (n : ℕ) → IsLow given (c ++ d) s n → IsLow given c s n
low_first given [] d s n x = low_start given d s n x
low_first given (i ∷ c) d s n x = (x.0, λ t e. low_first given c d t n (x.1 t e))

pub low_second : (given : Given) (c d : List Instruction) (s t : State) (n : ℕ) → IsLow given (c ++ d) s n → free_steps given c s ≡ Ok t → IsLow given d t n
low_second given [] d s t n x h = subst (λ (u : State). IsLow given d u n) (same_ok s t h) x
low_second given (i ∷ c) d s t n x h =
    let u = bind_split (free_step given i s) (free_steps given c) t h in
    low_second given c d u.0 t n (x.1 u.0 u.1) u.2

-- behind a step that is known
pub low_next : (given : Given) (i : Instruction) (c : List Instruction) (s u : State) (n : ℕ) → height s ≤ n → free_step given i s ≡ Ok u → IsLow given c u n → IsLow given (i ∷ c) s n
low_next given i c s u n low e x = (low, λ t f. subst (λ (v : State). IsLow given c v n) (same_ok u t (sym e ∙ f)) x)

-- by how much the instructions can raise the stacks
pub low_rises : (given : Given) (c : List Instruction) (s : State) (n : ℕ) → height s + rises c ≤ n → IsLow given c s n
low_rises given [] s n h = omega (arith, h)
low_rises given (i ∷ c) s n h =
    (omega (arith, h), λ t e. low_rises given c t n (let x = step_climbs given i s t e in omega (arith, h, x.high)))

-- instructions that raise nothing, behind others
pub low_behind : (given : Given) (c d : List Instruction) (s : State) (n : ℕ) → rises d ≡ 0 → IsLow given c s n → IsLow given (c ++ d) s n
low_behind given c d s n flat x =
    low_append given c d s n x (λ t h. low_rises given d t n (omega (arith, flat, low_end given c s t n x h)))

-- VERIFY, by itself or by the last opcode, raises nothing
last_low : (given : Given) (i : Instruction) (s : State) (n : ℕ) → IsLow given (i ∷ []) s n → IsLow given (verified_last i) s n
last_low given (push bytes) s n x = low_behind given (push bytes ∷ []) (code op.Verify ∷ []) s n refl x
last_low given (code op.Equal) s n x = low_rises given (code op.EqualVerify ∷ []) s n (omega (arith, x.0))
last_low given (code op.CheckSig) s n x = low_rises given (code op.CheckSigVerify ∷ []) s n (omega (arith, x.0))
last_low given (code op.CheckMultiSig) s n x = low_rises given (code op.CheckMultiSigVerify ∷ []) s n (omega (arith, x.0))
last_low given (code other) s n x = low_behind given (code other ∷ []) (code op.Verify ∷ []) s n refl x

pub low_verified : (given : Given) (c : List Instruction) (s : State) (n : ℕ) → IsLow given c s n → IsLow given (verified c) s n
low_verified given [] s n x = low_rises given (code op.Verify ∷ []) s n (omega (arith, x))
low_verified given (last ∷ []) s n x = last_low given last s n x
low_verified given (first ∷ second ∷ rest) s n x = (x.0, λ t e. low_verified given (second ∷ rest) t n (x.1 t e))

-- and hides nothing
last_unverified : (given : Given) (i : Instruction) (s : State) (n : ℕ) → IsLow given (verified_last i) s n → IsLow given (i ∷ []) s n
last_unverified given (push bytes) s n x = low_first given (push bytes ∷ []) (code op.Verify ∷ []) s n x
last_unverified given (code op.Equal) s n x = low_rises given (code op.Equal ∷ []) s n (omega (arith, x.0))
last_unverified given (code op.CheckSig) s n x = low_rises given (code op.CheckSig ∷ []) s n (omega (arith, x.0))
last_unverified given (code op.CheckMultiSig) s n x = low_rises given (code op.CheckMultiSig ∷ []) s n (omega (arith, x.0))
last_unverified given (code other) s n x = low_first given (code other ∷ []) (code op.Verify ∷ []) s n x

pub low_unverified : (given : Given) (c : List Instruction) (s : State) (n : ℕ) → IsLow given (verified c) s n → IsLow given c s n
low_unverified given [] s n x = x.0
low_unverified given (last ∷ []) s n x = last_unverified given last s n x
low_unverified given (first ∷ second ∷ rest) s n x = (x.0, λ t e. low_unverified given (second ∷ rest) t n (x.1 t e))
