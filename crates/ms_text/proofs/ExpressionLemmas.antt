-- What the machine makes of the word at which an expression begins.
use Rattle.std.proofs.Common.{◌≡◌, ℕ, ◌+◌, ◌<◌, ◌≤◌, Bool, true, false, List, [], ◌∷◌, length, nat_lt, refl, ap, ◌∙◌, arith}
use Rattle.def_script.specs.Bytes.{Bytes}
use Rattle.def_text.specs.Token.{Token, word, offset}
use Rattle.def_text.specs.Letter.{Letter}
use Rattle.def_text.specs.Refusal.{MOST_WRITTEN_DEPTH}
use Rattle.def_text.specs.Scaffolding.Reader.{Frame, Form, Head, named, run, head_of, expression, colon_next, begin, begin_form, run_frames, run_offsets, is_deep_head, syntax_outcome, deep_outcome, next_outcome, outcome}
use Rattle.ms_text.specs.Scaffolding.Place.{machine_from, machine_behind, is_word, FirstWord}

other_token : (fs : List Frame) (os : List ℕ) (t : Token) (ts : List Token) → is_word t ≡ false → outcome (expression, fs, os) (t ∷ ts) ≡ syntax_outcome (offset t)
other_token fs os (word a w) ts h = absurd (cc)
other_token fs os t ts h = refl

above : (n : ℕ) → 256 < n → nat_lt MOST_WRITTEN_DEPTH n ≡ true
above n h = grind arith

not_above : (n : ℕ) → n ≤ 256 → nat_lt MOST_WRITTEN_DEPTH n ≡ false
not_above n h = grind arith

module _ (text : Bytes) (at : ℕ) (w : Bytes) (fs : List Frame) (os : List ℕ) (first : FirstWord text at w) where
  begun : machine_from (expression, fs, os) text at
      ≡ next_outcome (is_deep_head (head_of w) (length fs)) at (begin (head_of w) at fs os) (λ n. machine_from n text (at + length w))
  begun = begun_by w first
    where
      begun_by : (v : Bytes) → FirstWord text at v → machine_from (expression, fs, os) text at
          ≡ next_outcome (is_deep_head (head_of v) (length fs)) at (begin (head_of v) at fs os) (λ n. machine_from n text (at + length v))
      begun_by [] n = ap (outcome (expression, fs, os)) n.is ∙ (other_token fs os n.token n.later n.other ∙ ap syntax_outcome n.there)
      begun_by (b ∷ v) h = ap (outcome (expression, fs, os)) h

  begun_with : (head : Head) → head_of w ≡ head → machine_from (expression, fs, os) text at
      ≡ next_outcome (is_deep_head head (length fs)) at (begin head at fs os) (λ n. machine_from n text (at + length w))
  begun_with head e = begun ∙ ap (λ h. next_outcome (is_deep_head h (length fs)) at (begin h at fs os) (λ n. machine_from n text (at + length w))) e

  deep_by : (b : Bool) (head : Head) → is_deep_head head (length fs) ≡ b → head_of w ≡ head → machine_from (expression, fs, os) text at
      ≡ next_outcome b at (begin head at fs os) (λ n. machine_from n text (at + length w))
  deep_by b head d e = begun_with head e ∙ ap (λ c. next_outcome c at (begin head at fs os) (λ n. machine_from n text (at + length w))) d

  pub name_begins : (form : Form) (depth : ℕ) → head_of w ≡ named form → length fs ≡ depth → depth < 256 →
      machine_from (expression, fs, os) text at ≡ machine_behind (begin_form form at fs os) at text (at + length w)
  name_begins form depth e d h = deep_by false (named form) (not_above (length fs + 1) (omega arith)) e

  pub run_too_deep : (l : Letter) (ls : List Letter) (depth : ℕ) → head_of w ≡ run l ls → length (l ∷ ls) ≡ length w → length fs ≡ depth → 256 < depth + length w →
      machine_from (expression, fs, os) text at ≡ deep_outcome at
  run_too_deep l ls depth e n d h = deep_by true (run l ls) (above (length fs + length (l ∷ ls)) (omega (arith, n, d, h))) e

  pub run_begins : (l : Letter) (ls : List Letter) (depth : ℕ) → head_of w ≡ run l ls → length (l ∷ ls) ≡ length w → length fs ≡ depth → depth + length w ≤ 256 →
      machine_from (expression, fs, os) text at ≡ machine_from (colon_next, run_frames at (l ∷ ls) fs, run_offsets at (l ∷ ls) os) text (at + length w)
  run_begins l ls depth e n d h = deep_by false (run l ls) (not_above (length fs + length (l ∷ ls)) (omega (arith, n, d, h))) e
