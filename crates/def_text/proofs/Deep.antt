-- A token is too deep exactly where the machine finds it so.
use Rattle.std.proofs.Common.{◌≡◌, ℕ, ◌+◌, ◌<◌, true, ◌||◌, List, ◌∷◌, ◌++◌, length, Some, refl, sym, ap, ◌∙◌, subst, arith}
use Rattle.std.specs.Str.{IsUtf8}
use Rattle.std.proofs.lemmas.Bool.{ltb-true, lt-ltb}
use Rattle.def_script.specs.Bytes.{Bytes}
use Rattle.def_text.specs.Token.{Token, word, tokens}
use Rattle.def_text.specs.Word.{is_fragment_name}
use Rattle.def_text.specs.Refusal.{MOST_WRITTEN_DEPTH, MayBegin, is_run, levels_of, enclosing, IsDeep}
use Rattle.def_text.specs.Scaffolding.Reader.{form_0, Head, named, run, neither, head_of, begin, expression, Frame, State, START, step, behind, is_deep_head, is_deep_word, is_deep}
use Rattle.def_text.proofs.Levels.{HeadSays, head_says}
use Rattle.def_text.proofs.Viable.{may_begin, begins_expression}
use Rattle.def_text.proofs.Counted.{enclosing_is}

-- ---- depth

deep_says : (w : Bytes) (head : Head) (n : ℕ) → HeadSays w head → is_deep_head head n ≡ true →
    ((is_fragment_name w || is_run w) ≡ true) × (MOST_WRITTEN_DEPTH < n + levels_of w)
deep_says w head n = grind (arith, ltb-true)

says_deep : (w : Bytes) (head : Head) (n : ℕ) → HeadSays w head → (is_fragment_name w || is_run w) ≡ true →
    MOST_WRITTEN_DEPTH < n + levels_of w →
    is_deep_head head n ≡ true
says_deep w head n = grind (arith, lt-ltb)

head_steps : (head : Head) (a : ℕ) (fs : List Frame) (os : List ℕ) → is_deep_head head (length fs) ≡ true →
    (n : State) × (begin head a fs os ≡ Some n)
head_steps (named form_0) a fs os h = (_, refl)
head_steps (named form) a fs os h = (_, refl)
head_steps (run l ls) a fs os h = (_, refl)
head_steps neither a fs os h = absurd (cc)

-- a token that the machine finds too deep: an expression is wanted, a word stands there, and the machine takes it
pub record DeepWord (s : State) (t : Token) : Type 0 where
  a : ℕ
  w : Bytes
  is : t ≡ word a w
  wanted : s.0 ≡ expression
  deep : is_deep_head (head_of w) (length s.1) ≡ true
  pub next : State
  pub steps : step s t ≡ Some next

pub deep_token : (s : State) (t : Token) → is_deep s t ≡ true → DeepWord s t
deep_token (expression, fs, os) (word b v) h =
    let (n, e) = head_steps (head_of v) b fs os h in
    record { a = b; w = v; is = refl; wanted = refl; deep = h; next = n; steps = e }
deep_token s (word b v) h = absurd (cc)
deep_token s t h = absurd (cc)

wanted_behind : (us : List Token) (s : State) → s.0 ≡ expression → behind START us ≡ Some s →
    behind START us ≡ Some (expression, s.1, s.2)
wanted_behind us s e h = h ∙ ap (λ want. Some (want, s.1, s.2)) e

-- a token that the machine finds too deep is so
pub machine_deep : (text : Bytes) (us : List Token) (t : Token) (after : List Token) (s : State) → IsUtf8 text →
    tokens text ≡ us ++ t ∷ after →
    behind START us ≡ Some s → DeepWord s t → IsDeep us t
machine_deep text us t after s utf8 split goes d =
    let here : behind START us ≡ Some (expression, s.1, s.2) = wanted_behind us s d.wanted goes in
    let split' : tokens text ≡ us ++ word d.a d.w ∷ after = split ∙ ap (λ r. us ++ r ∷ after) d.is in
    let begins : MayBegin us d.a = may_begin text us (word d.a d.w) after s.1 s.2 utf8 split' here in
    let (named_or_run, over) = deep_says d.w (head_of d.w) (length s.1) (head_says d.w) d.deep in
    let depth : enclosing us ≡ length s.1 = enclosing_is us s.1 s.2 here in
    subst (IsDeep us) (sym d.is) (begins, named_or_run, subst (λ n. MOST_WRITTEN_DEPTH < n + levels_of d.w) (sym depth) over)

-- and the machine finds each token that is too deep
pub deep_machine : (us : List Token) (t : Token) (s : State) → behind START us ≡ Some s → IsDeep us t → is_deep s t ≡ true
deep_machine us (word a w) s goes (begins, named_or_run, over) =
    let e : s.0 ≡ expression = begins_expression us a s goes begins in
    let depth : enclosing us ≡ length s.1 = enclosing_is us s.1 s.2 (wanted_behind us s e goes) in
    ap (λ want. is_deep_word want w s.1) e
    ∙ says_deep w (head_of w) (length s.1) (head_says w) named_or_run
    (subst (λ n. MOST_WRITTEN_DEPTH < n + levels_of w) depth over)
deep_machine us t s goes h = absurd h
