-- What the main stack was where the Script of a miniscript went on: it ended in a satisfaction or a dissatisfaction.
use Rattle.std.proofs.Common.{◌≡◌, ◌≢◌, ◌==◌, Bool, true, false, IsTrue, [], ◌∷◌, ◌++◌, Ok, refl, sym, ◌∙◌, ap, subst, ◌⊎◌, inl, inr}
use Rattle.std.proofs.lemmas.Bool.{eqb-true, cases_Bool}
use Rattle.std.proofs.lemmas.List.{append_assoc}
use Rattle.def_script.specs.Bytes.{Bytes}
use Rattle.def_machine.specs.Faults.{OrFault}
use Rattle.def_machine.specs.Stacks.{Stack, Checker}
use Rattle.def_script.specs.Key.{is_key}
use Rattle.def_machine.specs.Effects.{condition}
use Rattle.def_machine.specs.MultiSig.{is_good}
use Rattle.def_tree.specs.Tree.{Tree}
use Rattle.def_types.specs.declared.Base.{Base}
use Rattle.def_types.specs.declared.Base.TheVariants.{B, V, K, W}
use Rattle.def_satisfaction.specs.Setting.{Setting}
use Rattle.def_satisfaction.specs.Rows.{EMPTY, ONE, row}
use Rattle.ms_acceptance_laws.proofs.StackEffects.{Effect, behind, both, on_left, plain, silent, choose, left}
use Rattle.ms_row_laws.proofs.RowLogs.{check_log, sat_log, dsat_log}
use Rattle.ms_acceptance_laws.proofs.StackValues.{Value}
use Rattle.ms_acceptance_laws.proofs.ForwardBases.{Beside, weaker}
use Rattle.ms_row_laws.proofs.RunLog.{Log, quiet, then_log, then_log_assoc}
use Rattle.ms_row_laws.proofs.Outcomes.{same_ok, no_fault, bind_split}

-- the stacks that satisfy and dissatisfy, each with what is logged
pub record Logged : Type 1 where
  pub dsat : Stack → Log → Type 0
  pub sat : Stack → Log → Type 0

abbrev pub logged : Setting → Tree → Logged
logged s t = record {
  dsat = λ w l. (r : (row s t).dsat w) × (dsat_log s t w r ≡ l);
  sat = λ w l. (r : (row s t).sat w) × (sat_log s t w r ≡ l);
}

abbrev pub Took : Logged → (b : Bool) → Stack → Log → Type 0
Took R true w l = R.sat w l
Took R false w l = R.dsat w l

abbrev pub BackB : (u : Bool) → Logged → (m end : Stack) → Log → Type 0
BackB u R m end l =
    (b : Bool) × (w : Stack) × (s : Stack) × (v : Bytes) × (m ≡ w ++ s) × (end ≡ v ∷ s) × Value u b v × Took R b w l

abbrev pub BackV : Logged → (m end : Stack) → Log → Type 0
BackV R m end l = (w : Stack) × (m ≡ w ++ end) × R.sat w l

-- where a signature stands below the key
abbrev pub TakesSig : Checker → Logged → (m : Stack) → Log → (key sig : Bytes) → (s : Stack) → Type 0
TakesSig checker R m l key sig s =
    (w : Stack) × (m ≡ w ++ s) ×
    (IsTrue (is_good checker key sig) → R.sat w (then_log l (check_log key sig))) × (sig ≡ [] → R.dsat w l)

abbrev pub BackK : Checker → Logged → (m end : Stack) → Log → Type 0
BackK checker R m end l =
    (key : Bytes) × (below : Stack) × (end ≡ key ∷ below) ×
    ((sig : Bytes) (s : Stack) → below ≡ sig ∷ s → IsTrue (is_key key) → TakesSig checker R m l key sig s)

abbrev pub BackW : (u : Bool) → Logged → (m end : Stack) → Log → Type 0
BackW u R m end l =
    (b : Bool) × (x : Bytes) × (w : Stack) × (s : Stack) × (v : Bytes) × (m ≡ x ∷ (w ++ s)) × Beside x v s end × Value u b v × Took R b w l

abbrev pub Back : Checker → Base → (u : Bool) → Logged → (m end : Stack) → Log → Type 0
Back checker B u R m end l = BackB u R m end l
Back checker V u R m end l = BackV R m end l
Back checker K u R m end l = BackK checker R m end l
Back checker W u R m end l = BackW u R m end l

pub weaken_back : (checker : Checker) (c : Base) (u t : Bool) (R : Logged) (m end : Stack) (l : Log) → (t ≡ true → u ≡ true) → Back checker c u R m end l → Back checker c t R m end l
weaken_back checker B u t R m end l h r = (r.0, r.1, r.2, r.3, r.4, r.5, weaker u t r.0 r.3 h r.6, r.7)
weaken_back checker V u t R m end l h r = r
weaken_back checker K u t R m end l h r = r
weaken_back checker W u t R m end l h r = (r.0, r.1, r.2, r.3, r.4, r.5, r.6, weaker u t r.0 r.4 h r.7, r.8)

-- a log that begins with what was logged before
pub record Keeps (k : Log → Log) : Type 0 where
  pub keeps : (a b : Log) → k (then_log a b) ≡ then_log (k a) b

pub keeps_same : Keeps (λ l. l)
keeps_same = record { keeps = λ a b. refl }

pub keeps_behind : (l : Log) → Keeps (then_log l)
keeps_behind l = record { keeps = λ a b. sym (then_log_assoc l a b) }

pub onto : (m above s w rest : Stack) → m ≡ above ++ s → s ≡ w ++ rest → m ≡ (above ++ w) ++ rest
onto m above s w rest e i = e ∙ ap (λ v. above ++ v) i ∙ sym (append_assoc above w rest)

-- from a stack below which the part `above` was taken before
pub prepend : (checker : Checker) (c : Base) (u : Bool) (R S : Logged) (k : Log → Log) (m above s end : Stack) (l : Log) → (c ≢ W) → Keeps k → m ≡ above ++ s
    → ((b : Bool) (w : Stack) (n : Log) → Took S b w n → Took R b (above ++ w) (k n)) → Back checker c u S s end l → Back checker c u R m end (k l)
prepend checker B u R S k m above s end l n keeps e take r =
    (r.0, above ++ r.1, r.2, r.3, onto m above s r.1 r.2 e r.4, r.5, r.6, take r.0 r.1 l r.7)
prepend checker V u R S k m above s end l n keeps e take r =
    (above ++ r.0, onto m above s r.0 end e r.1, take true r.0 l r.2)
prepend checker K u R S k m above s end l n keeps e take r = (
  r.0,
  r.1,
  r.2,
  λ sig rest i form. (let t = r.3 sig rest i form in (
    above ++ t.0,
    onto m above s t.0 rest e t.1,
    λ good. subst (R.sat (above ++ t.0)) (keeps.keeps l (check_log r.0 sig)) (take true t.0 (then_log l (check_log r.0 sig)) (t.2 good)),
    λ none. take false t.0 l (t.3 none),
  )),
)
prepend checker W u R S k m above s end l n keeps e take r = absurd (n refl)

-- one effect after the other went on: both did
pub record Between (f g : Effect) (m end : Stack) (l : Log) : Type 0 where
  pub mid : Stack
  pub first : Log
  pub second : Log
  pub before : f m ≡ Ok (left mid first)
  pub after : g mid ≡ Ok (left end second)
  pub log : l ≡ then_log first second

pub between : (f g : Effect) (m end : Stack) (l : Log) → both f g m ≡ Ok (left end l) → Between f g m end l
between f g m end l e =
    let x = bind_split (f m) (on_left g) (left end l) e in
    let y = bind_split (g x.0.main) _ (left end l) x.2 in
    let same = same_ok (behind x.0.log y.0) (left end l) y.2 in
    record {
      mid = x.0.main;
      first = x.0.log;
      second = y.0.log;
      before = x.1;
      after = y.1 ∙ ap (λ v. Ok (left v y.0.log)) (ap (λ z. z.main) same);
      log = sym (ap (λ z. z.log) same);
    }

-- an effect with nothing to log
pub plainly : (op : Stack → OrFault Stack) (m end : Stack) (l : Log) → plain op m ≡ Ok (left end l) → (op m ≡ Ok end) × (l ≡ quiet)
plainly op m end l e =
    let x = bind_split (op m) silent (left end l) e in
    let same = same_ok (left x.0 quiet) (left end l) x.2 in
    (x.1 ∙ ap Ok (ap (λ z. z.main) same), sym (ap (λ z. z.log) same))

pub silently : (m end : Stack) (l : Log) → silent m ≡ Ok (left end l) → (end ≡ m) × (l ≡ quiet)
silently m end l e =
    let same = same_ok (left m quiet) (left end l) e in
    (sym (ap (λ z. z.main) same), sym (ap (λ z. z.log) same))

-- a branch went on: on the one side, or on the other
abbrev pub Branched : Effect → Effect → (m end : Stack) → Log → Type 0
Branched f g m end l =
    ((s : Stack) × (m ≡ ONE ∷ s) × (f s ≡ Ok (left end l))) ⊎
    ((s : Stack) × (m ≡ EMPTY ∷ s) × (g s ≡ Ok (left end l)))

pub branched : (f g : Effect) (m end : Stack) (l : Log) → choose f g m ≡ Ok (left end l) → Branched f g m end l
unfolding condition
branched f g [] end l e = absurd (no_fault _ (left end l) e)
branched f g ([] ∷ s) end l e = inr (s, refl, e)
branched f g ((b ∷ []) ∷ s) end l e =
    elim (cases_Bool (b == 1)) [
      | inl one ↦ inl (s, ap (λ c. (c ∷ []) ∷ s) (eqb-true b 1 one), rw one at e)
      | inr other ↦ absurd (no_fault _ (left end l) (rw other at e))
    ]
branched f g ((b ∷ c ∷ bytes) ∷ s) end l e = absurd (no_fault _ (left end l) e)
