-- What the machine answers to a text is what the definitions say of it.
use Rattle.std.proofs.Common.{◌≡◌, Bool, true, false, List, [], ◌∷◌, ◌++◌, length, length-append, arith, Option, Some, None, refl, sym, ap, ◌∙◌, subst, append_assoc, append-nil}
use Rattle.std.specs.Option.{option_and_then}
use Rattle.std.specs.Str.{IsUtf8}
use Rattle.def_script.specs.Bytes.{Bytes}
use Rattle.def_text.specs.Token.{Token, offset, tokens}
use Rattle.def_text.specs.Spells.{SpellsText}
use Rattle.def_text.specs.Refusal.{IsDeep, NoneDeep, SyntaxAt, DeepAt}
use Rattle.def_text.specs.Scaffolding.Reader.{State, START, step, behind, is_deep, Outcome, tree_outcome, syntax_outcome, deep_outcome, last_outcome, next_outcome, outcome}
use Rattle.def_text.proofs.Cut.{nothing_behind}
use Rattle.def_text.proofs.Completion.{is_finished}
use Rattle.def_text.proofs.Viable.{behind-append, viable_goes}
use Rattle.def_text.proofs.Ends.{LastEnd, tokens_end, finishes, whole_is_spelled, front_viable}
use Rattle.def_text.proofs.Deep.{DeepWord, deep_token, machine_deep, deep_machine}

-- ---- what no token is

-- of two splits of one list, which one comes first
pub data Order (xs : List Token) (x : Token) (ys : List Token) (y : Token) : Type 0 where
  same_place : xs ≡ ys → x ≡ y → Order xs x ys y
  earlier : (later : List Token) → ys ≡ xs ++ x ∷ later → Order xs x ys y
  later : (later : List Token) → xs ≡ ys ++ y ∷ later → Order xs x ys y

pub order : (xs : List Token) (x : Token) (xs' : List Token) (ys : List Token) (y : Token) (ys' : List Token) →
    xs ++ x ∷ xs' ≡ ys ++ y ∷ ys' → Order xs x ys y
order [] x xs' [] y ys' h = same_place refl (cc)
order [] x xs' (v ∷ ys) y ys' h = earlier ys (cc)
order (u ∷ xs) x xs' [] y ys' h = later xs (cc)
order (u ∷ xs) x xs' (v ∷ ys) y ys' h = elim (order xs x xs' ys y ys' (cc)) [
  | same_place i k ↦ same_place (cc) k
  | earlier rest i ↦ earlier rest (cc)
  | later rest i ↦ later rest (cc)
]

-- one more token that isn't too deep
none_deep-behind : (us : List Token) (t : Token) → NoneDeep us → ¬ IsDeep us t → NoneDeep (us ++ t ∷ [])
none_deep-behind us t none last before u after h = go (order us t [] before u after h)
  where
    go : Order us t before u → ¬ IsDeep before u
    go (same_place e k) = λ deep. last (subst (λ r. IsDeep r t) (sym e) (subst (IsDeep before) (sym k) deep))
    go (earlier rest e) = absurd (omega (arith, simp length-append at (ap length h), simp length-append at (ap length e)))
    go (later rest e) = none before u rest e

none_deep-nil : NoneDeep []
none_deep-nil before t after h = absurd (nothing_behind before t after h)

-- ---- the report

-- what an outcome says of a text
abbrev pub Reports : (text : Bytes) → Outcome → Type 0
Reports text (tree_outcome x os) = SpellsText (tokens text) x os × NoneDeep (tokens text)
Reports text (syntax_outcome at) = SyntaxAt text at
Reports text (deep_outcome at) = DeepAt text at

module _ (text : Bytes) (utf8 : IsUtf8 text) where
  report_end : (us : List Token) (s : State) → tokens text ≡ us ++ [] → behind START us ≡ Some s → NoneDeep us →
      Reports text (last_outcome s.0 s.2)
  report_end us s split goes none =
      let all : tokens text ≡ us = split ∙ append-nil us in
      let last : is_finished s.0 ≡ true = finishes us START s (subst LastEnd all (tokens_end text 0)) goes in
      let (x, e, h) = whole_is_spelled text s (ap (behind START) all ∙ goes) last in
      subst (λ want. Reports text (last_outcome want s.2)) (sym e) (h, subst NoneDeep (sym all) none)

  -- one more token
  go_on : (us : List Token) (s : State) (o : Option State) (t : Token) → behind START us ≡ Some s → step s t ≡ o →
      behind START (us ++ t ∷ []) ≡ option_and_then (λ m. Some m) o
  go_on us s o t goes steps =
      behind-append us (t ∷ []) START ∙ (ap (λ o. option_and_then (λ m. behind m (t ∷ [])) o) goes
      ∙ ap (λ o. option_and_then (λ m. Some m) o) steps)

  one_more : (us : List Token) (t : Token) (ts : List Token) → tokens text ≡ us ++ t ∷ ts → tokens text ≡ (us ++ t ∷ []) ++ ts
  one_more us t ts split = split ∙ sym (append_assoc us (t ∷ []) ts)

  report_deep : (us : List Token) (s : State) (t : Token) (ts : List Token) → tokens text ≡ us ++ t ∷ ts →
      behind START us ≡ Some s → NoneDeep us →
      DeepWord s t → DeepAt text (offset t)
  report_deep us s t ts split goes none d = record {
    place = record { before = us; token = t; after = ts; split = split; there = refl };
    begins = front_viable text (us ++ t ∷ []) ts d.next utf8 (one_more us t ts split) (go_on us s (Some d.next) t goes d.steps);
    deep = machine_deep text us t ts s utf8 split goes d;
    none_deep = none;
  }

  report_syntax : (us : List Token) (s : State) (t : Token) (ts : List Token) → tokens text ≡ us ++ t ∷ ts →
      behind START us ≡ Some s → NoneDeep us →
      step s t ≡ None → SyntaxAt text (offset t)
  report_syntax us s t ts split goes none stops = record {
    place = record { before = us; token = t; after = ts; split = split; there = refl };
    begins = front_viable text us (t ∷ ts) s utf8 split goes;
    ends = λ v. let (n, e) = viable_goes v in cc (go_on us s None t goes stops);
    none_deep = none;
  }

  report_next : (us : List Token) (s : State) (t : Token) (ts : List Token) → tokens text ≡ us ++ t ∷ ts →
      behind START us ≡ Some s → NoneDeep us →
      ((vs : List Token) (n : State) → tokens text ≡ vs ++ ts → behind START vs ≡ Some n → NoneDeep vs →
      Reports text (outcome n ts)) →
      (b : Bool) (o : Option State) → is_deep s t ≡ b → step s t ≡ o →
      Reports text (next_outcome b (offset t) o (λ n. outcome n ts))
  report_next us s t ts split goes none others true o f e = report_deep us s t ts split goes none (deep_token s t f)
  report_next us s t ts split goes none others false None f e = report_syntax us s t ts split goes none e
  report_next us s t ts split goes none others false (Some n) f e =
      others (us ++ t ∷ []) n (one_more us t ts split) (go_on us s (Some n) t goes e) (none_deep-behind us t none (λ deep. cc (deep_machine us t s goes deep)))

  report_from : (ts us : List Token) (s : State) → tokens text ≡ us ++ ts → behind START us ≡ Some s → NoneDeep us →
      Reports text (outcome s ts)
  report_from [] us s split goes none = report_end us s split goes none
  report_from (t ∷ ts) us s split goes none =
      report_next us s t ts split goes none (report_from ts) (is_deep s t) (step s t) refl refl

-- what the machine answers to a text
pub report : (text : Bytes) → IsUtf8 text → Reports text (outcome START (tokens text))
report text utf8 = report_from text utf8 (tokens text) [] START refl refl none_deep-nil
