-- How what is read in steps is joined.
use Rattle.std.proofs.Common.{◌≡◌, ℕ, ◌+◌, List, [], ◌∷◌, ◌++◌, Result, sym, subst, ◌∙◌}
use Rattle.std.specs.Result.{IsErrAnd}
use Rattle.std.proofs.lemmas.Result.{err_from_is_err_and}
use Rattle.def_script.specs.Bytes.{Bytes}
use Rattle.def_tree.specs.Tree.{Key}
use Rattle.def_text.specs.Word.{key_of}
use Rattle.def_text.specs.declared.TextFault.{TextFault}
use Rattle.def_text.specs.Scaffolding.Reader.{Outcome, State, Frame, multi_comma, multi_key, multi_next}
use Rattle.ms_text.specs.declared.tokens.Separator.{Separator}
use Rattle.ms_text.specs.Scaffolding.Marks.{separator_read}
use Rattle.ms_text.proofs.StateLemmas.{takes_multi_key, takes_multi_next, key_next}
use Rattle.ms_text.specs.Scaffolding.Place.{Refused, Answers, Takes, word_read, machine_from}

-- a fault that is handed on
pub refused : {A : Type 0} (o : Outcome) (r : Result A TextFault) (e : TextFault) (next : A → Outcome) → IsErrAnd r (λ y. y ≡ e) → Refused o e → Answers o r next
refused o r e next h is = let p = err_from_is_err_and r h in rw (p.1, p.2) is

-- a fault behind what was read
pub along : (o p : Outcome) (e : TextFault) → o ≡ p → Refused p e → Refused o e
along o p e h is = subst (λ q. Refused q e) (sym h) is

-- ---- keys

module _ (text : Bytes) (from at end : ℕ) (keys : List Key) (key : Key) (k : ℕ) (fs : List Frame) (os : List ℕ) where
  pub key_read : machine_from (multi_comma k, fs, os) text from ≡ machine_from (multi_key k keys, fs, os) text at →
      ((s : State) (next : List ℕ → State) → Takes (word_read key_of) s next → machine_from s text at ≡ machine_from (next key) text end) →
      machine_from (multi_comma k, fs, os) text from ≡ machine_from (multi_next k (keys ++ key ∷ []), fs, os) text end
  key_read before reads =
      before ∙ reads (multi_key k keys, fs, os) (λ more. (multi_next k (keys ++ more ∷ []), fs, os)) (takes_multi_key k keys fs os)

  pub key_behind : (found : Separator) → machine_from (multi_comma k, fs, os) text from ≡ machine_from (multi_key k keys, fs, os) text at →
      ((s : State) (next : List ℕ → State) → Takes (word_read key_of) s next → machine_from s text at ≡ machine_from (next key) text end) →
      ((s : State) (next : Separator → State) → Takes separator_read s next → machine_from s text end ≡ machine_from (next found) text (end + 1)) →
      machine_from (multi_comma k, fs, os) text from ≡ machine_from (key_next k (keys ++ key ∷ []) fs os found) text (end + 1)
  key_behind found before reads finds =
      key_read before reads
      ∙ finds (multi_next k (keys ++ key ∷ []), fs, os) (key_next k (keys ++ key ∷ []) fs os) (takes_multi_next k (keys ++ key ∷ []) fs os)

-- what is answered behind what was read
pub answers_along : {A : Type 0} (o p : Outcome) (r : Result A TextFault) (next : A → Outcome) → o ≡ p → Answers p r next → Answers o r next
answers_along o p r next h is = subst (λ q. Answers q r next) (sym h) is
