-- How the Script of a miniscript goes on from a stack that ends in a satisfaction or a dissatisfaction of it, by its
-- base type.
use Rattle.std.proofs.Common.{◌≡◌, ◌≢◌, ℕ, zero, suc, ◌^◌, ◌<◌, ◌≤◌, Bool, true, false, IsTrue, [], ◌∷◌, ◌++◌, length, Ok, refl, sym, ◌∙◌, ap, ◌⊎◌, arith}
use Rattle.std.specs.Prelude.{⊤, pos}
use Rattle.std.proofs.lemmas.List.{append_assoc}
use Rattle.def_script.specs.Bytes.{Bytes}
use Rattle.def_script.specs.Numbers.{natural_bytes}
use Rattle.def_script.specs.Decode.{is_nonzero}
use Rattle.def_machine.specs.Faults.{OrFault}
use Rattle.def_machine.specs.Stacks.{Stack, Checker, bool_bytes}
use Rattle.def_script.specs.Key.{is_key}
use Rattle.def_machine.specs.Effects.{condition}
use Rattle.def_machine.specs.MultiSig.{is_good}
use Rattle.def_types.specs.declared.Base.{Base}
use Rattle.def_types.specs.declared.Base.TheVariants.{B, V, K, W}
use Rattle.def_satisfaction.specs.Rows.{EMPTY, ONE}
use Rattle.ms_acceptance_laws.proofs.StackEffects.{Left, Effect, both, choose, left}
use Rattle.ms_row_laws.proofs.RowLogs.{check_log}
use Rattle.ms_acceptance_laws.proofs.StackValues.{Value}
use Rattle.ms_row_laws.proofs.RunLog.{Log, then_log, then_log_assoc}

-- the items are short enough for SIZE to give a number
abbrev pub Short : Stack → Type 0
Short [] = ⊤
Short (x ∷ w) = (length x < 2 ^ 31) × Short w

pub short_above : (above below : Stack) → Short (above ++ below) → Short above
short_above [] below h = tt
short_above (x ∷ above) below h = (h.0, short_above above below h.1)

pub short_below : (above below : Stack) → Short (above ++ below) → Short below
short_below [] below h = h
short_below (x ∷ above) below h = short_below above below h.1

-- a value and a string that stood on the stack before it, in one order or the other
abbrev pub Beside : (x v : Bytes) → (s r : Stack) → Type 0
Beside x v s r = (r ≡ x ∷ v ∷ s) ⊎ (r ≡ v ∷ x ∷ s)

-- a key with its signature, or with the empty string; l is the log with the check of both
abbrev pub Checked : Checker → (b : Bool) → (key sig : Bytes) → (m l : Log) → Type 0
Checked checker true key sig m l = IsTrue (is_good checker key sig) × (l ≡ then_log m (check_log key sig))
Checked checker false key sig m l = (sig ≡ []) × (l ≡ m)

abbrev pub EndsB : (u b : Bool) → Effect → (w s : Stack) → Log → Type 0
EndsB u b f w s l = (v : Bytes) × Value u b v × (f (w ++ s) ≡ Ok (left (v ∷ s) l))

abbrev pub EndsV : (b : Bool) → Effect → (w s : Stack) → Log → Type 0
EndsV b f w s l = (b ≡ true) × (f (w ++ s) ≡ Ok (left s l))

abbrev pub EndsK : Checker → (b : Bool) → Effect → (w s : Stack) → Log → Type 0
EndsK checker b f w s l =
    (key : Bytes) × (sig : Bytes) × (m : Log) × IsTrue (is_key key) ×
    (f (w ++ s) ≡ Ok (left (key ∷ sig ∷ s) m)) × Checked checker b key sig m l

abbrev pub EndsW : (u b : Bool) → Effect → (w s : Stack) → Log → Type 0
EndsW u b f w s l =
    (x : Bytes) → (v : Bytes) × (r : Stack) × Value u b v × Beside x v s r × (f (x ∷ (w ++ s)) ≡ Ok (left r l))

-- from the stack w on top of s, with u of the type; b is true for a satisfaction
abbrev pub Ends : Checker → Base → (u b : Bool) → Effect → (w s : Stack) → Log → Type 0
Ends checker B u b f w s l = EndsB u b f w s l
Ends checker V u b f w s l = EndsV b f w s l
Ends checker K u b f w s l = EndsK checker b f w s l
Ends checker W u b f w s l = EndsW u b f w s l

-- a value that need be u no more
pub weaker : (u t b : Bool) (v : Bytes) → (t ≡ true → u ≡ true) → Value u b v → Value t b v
weaker u t b v h value = record {
  number = value.number;
  is = value.is;
  small = value.small;
  truth = value.truth;
  unit = λ e. value.unit (h e);
}

pub weaken : (checker : Checker) (c : Base) (u t b : Bool) (f : Effect) (w s : Stack) (l : Log) → (t ≡ true → u ≡ true) → Ends checker c u b f w s l → Ends checker c t b f w s l
weaken checker B u t b f w s l h e = (e.0, weaker u t b e.0 h e.1, e.2)
weaken checker V u t b f w s l h e = e
weaken checker K u t b f w s l h e = e
weaken checker W u t b f w s l h e = λ x. (let i = e x in (i.0, i.1, weaker u t b i.0 h i.2, i.3, i.4))

-- one effect after the other
pub both_ok : (f g : Effect) (main mid end : Stack) (l m : Log) → f main ≡ Ok (left mid l) → g mid ≡ Ok (left end m) → both f g main ≡ Ok (left end (then_log l m))
both_ok f g main mid end l m e i = rw (e, i) refl

pub split : (w above below rest : Stack) → w ≡ above ++ below → w ++ rest ≡ above ++ (below ++ rest)
split w above below rest e = ap (λ v. v ++ rest) e ∙ append_assoc above below rest

pub joined : (f g : Effect) (w above below rest mid end : Stack) (l m : Log) → w ≡ above ++ below → f (above ++ (below ++ rest)) ≡ Ok (left mid l) → g mid
    ≡ Ok (left end m) → both f g (w ++ rest) ≡ Ok (left end (then_log l m))
joined f g w above below rest mid end l m e i j =
    both_ok f g (w ++ rest) mid end l m (ap f (split w above below rest e) ∙ i) j

-- with another log
pub relog : (r : OrFault Left) (end : Stack) (k l : Log) → k ≡ l → r ≡ Ok (left end k) → r ≡ Ok (left end l)
relog r end k l i e = e ∙ ap (λ m. Ok (left end m)) i

checked_behind : (checker : Checker) (b : Bool) (key sig : Bytes) (l m n : Log) → Checked checker b key sig m n → Checked checker b key sig (then_log l m) (then_log l n)
checked_behind checker true key sig l m n h = (h.0, ap (then_log l) h.1 ∙ sym (then_log_assoc l m (check_log key sig)))
checked_behind checker false key sig l m n h = (h.0, ap (then_log l) h.1)

-- a first part leaves the stack on which the second goes on
pub after : (checker : Checker) (c : Base) (u b : Bool) (f k g : Effect) (w above below rest mid : Stack) (l m : Log) → (c ≢ W) → w ≡ above ++ below
    → f (above ++ (below ++ rest)) ≡ Ok (left mid l) → k mid ≡ g (below ++ rest) → Ends checker c u b g below rest m
    → Ends checker c u b (both f k) w rest (then_log l m)
after checker B u b f k g w above below rest mid l m n e i same h =
    (h.0, h.1, joined f k w above below rest mid (h.0 ∷ rest) l m e i (same ∙ h.2))
after checker V u b f k g w above below rest mid l m n e i same h =
    (h.0, joined f k w above below rest mid rest l m e i (same ∙ h.1))
after checker K u b f k g w above below rest mid l m n e i same h =
    (h.0, h.1, then_log l h.2, h.3, joined f k w above below rest mid (h.0 ∷ h.1 ∷ rest) l h.2 e i (same ∙ h.4), checked_behind checker b h.0 h.1 l h.2 m h.5)
after checker W u b f k g w above below rest mid l m n e i same h = absurd (n refl)

-- the same effect from another stack
pub instead : (checker : Checker) (c : Base) (u b : Bool) (k g : Effect) (w below rest : Stack) (l : Log) → (c ≢ W) → k (w ++ rest) ≡ g (below ++ rest)
    → Ends checker c u b g below rest l → Ends checker c u b k w rest l
instead checker B u b k g w below rest l n same h = (h.0, h.1, same ∙ h.2)
instead checker V u b k g w below rest l n same h = (h.0, same ∙ h.1)
instead checker K u b k g w below rest l n same h = (h.0, h.1, h.2, h.3, same ∙ h.4, h.5)
instead checker W u b k g w below rest l n same h = absurd (n refl)

-- a branch
pub choose_one : (f g : Effect) (m : Stack) → choose f g (ONE ∷ m) ≡ f m
unfolding condition
choose_one f g m = refl

pub choose_empty : (f g : Effect) (m : Stack) → choose f g (EMPTY ∷ m) ≡ g m
unfolding condition
choose_empty f g m = refl

-- a value with u is the byte 1 or the empty string
pub unit_value : (b : Bool) (v : Bytes) → Value true b v → v ≡ bool_bytes b
unit_value b v value = value.is ∙ go value.number (value.unit refl) value.truth
  where
    go : (n : ℕ) → n ≤ 1 → is_nonzero (pos n) ≡ b → natural_bytes n ≡ bool_bytes b
    go zero low e = ap bool_bytes e
    go (suc zero) low e = ap bool_bytes e
    go (suc (suc n)) low e = absurd (omega arith)

-- the values that opcodes push
pub bool_value : (u b : Bool) → Value u b (bool_bytes b)
bool_value u true = record { number = 1; is = refl; small = omega arith; truth = refl; unit = λ e. omega arith }
bool_value u false = record { number = 0; is = refl; small = omega arith; truth = refl; unit = λ e. omega arith }
