-- What stands before a descriptor's body, and behind it.
use Rattle.std.proofs.Common.{◌≡◌, ℕ, ◌+◌, ◌<◌, true, false, Bool, List, [], ◌∷◌, length, drop, ap, ◌∙◌, subst, sym, arith, Some, Result, Ok, Err, suc}
use Rattle.std.specs.Prelude.{codes}
use Rattle.std.specs.Result.{IsErrAnd}
use Rattle.std.specs.Str.{bytes_eq}
use Rattle.std.proofs.lemmas.Bool.{cond-true, cond-false}
use Rattle.std.proofs.lemmas.Result.{err_from_is_err_and}
use Rattle.def_script.specs.Bytes.{Bytes}
use Rattle.def_descriptor.specs.declared.Form.{Form}
use Rattle.def_descriptor.specs.declared.Form.TheVariants.{Wsh, Wpkh}
use Rattle.def_descriptor.specs.declared.DescriptorFault.{DescriptorFault}
use Rattle.def_descriptor.specs.declared.DescriptorFault.TheVariants as fault
use Rattle.def_descriptor.specs.Token.{Token, token, tokens, starts, Read, and_then, behind, mapped}
use Rattle.def_descriptor.specs.Parts.{Found, read_form, read_head, read_sum, read_tail, read_body, read_parts}
use Rattle.ms_paths.specs.Places.{tokens_at, behind as tokens_behind, Refuses, Says}
use Rattle.ms_paths.proofs.Places.{place_is, behind_some}
use Rattle.ms_paths.proofs.Reading.{then_ok, then_err, behind_not, behind_is}
use Rattle.ms_descriptor.specs.Bodies.{FormOf}

pub said : {A B : Type 0} (r : Result A DescriptorFault) (f : B → A) (result : Result B DescriptorFault) (why : DescriptorFault)
    → IsErrAnd result (λ y. y ≡ why) → Refuses r why → Says r f result
said r f result why h is = let p = err_from_is_err_and result h in rw (p.1, p.2) is

pub says_along : {A B : Type 0} (r s : Result A DescriptorFault) (f : B → A) (result : Result B DescriptorFault) → r ≡ s → Says s f result → Says r f result
says_along {A} r s f result e h = subst (λ (z : Result A DescriptorFault). Says z f result) (sym e) h

-- `(` or `)` is wanting at a place
unmarked : {B : Type 0} (m : Bytes) (text : Bytes) (at : ℕ) (next : List Token → Result B DescriptorFault) → starts m (tokens_at text at) ≡ false
    → behind m (tokens_at text at) next ≡ Err (fault.Syntax at)
unmarked m text at next none = behind_not m (tokens_at text at) next none ∙ ap (λ (z : ℕ). Err (fault.Syntax z)) (place_is text at)

marked : {B : Type 0} (m : Bytes) (text : Bytes) (at end : ℕ) (next : List Token → Result B DescriptorFault) → starts m (tokens_at text at) ≡ true
    → drop 1 (tokens_at text at) ≡ tokens_at text end → behind m (tokens_at text at) next ≡ next (tokens_at text end)
marked m text at end next mark there = behind_is m (tokens_at text at) next mark ∙ ap next there

-- ---- before the body

form_bytes : (w : Bytes) (form : Form) → FormOf w (Some form) → 0 < length w
form_bytes [] Wsh f = absurd (cc)
form_bytes [] Wpkh f = let no = f.1 in absurd (cc)
form_bytes (b ∷ w) form f = omega arith

pub form_open : (text w : Bytes) (at : ℕ) (form : Form) → tokens_at text at ≡ token at w ∷ tokens_behind text at w → FormOf w (Some form)
    → starts (codes "(") (tokens_at text (at + length w)) ≡ false → read_form (tokens_at text at) ≡ Err (fault.Syntax (at + length w))
form_open text w at Wsh e f none =
    let next : List Token → Read Form = λ rest. Ok (Wsh, rest) in
    ap read_form e
    ∙ (cond-true (bytes_eq w (codes "wsh")) _ _ f
    ∙ (ap (λ (z : List Token). behind (codes "(") z next) (behind_some text at w (form_bytes w Wsh f))
    ∙ unmarked (codes "(") text (at + length w) next none))
form_open text w at Wpkh e f none =
    let next : List Token → Read Form = λ rest. Ok (Wpkh, rest) in
    ap read_form e
    ∙ (cond-false (bytes_eq w (codes "wsh")) _ _ f.0
    ∙ (cond-true (bytes_eq w (codes "wpkh")) _ _ f.1
    ∙ (ap (λ (z : List Token). behind (codes "(") z next) (behind_some text at w (form_bytes w Wpkh f))
    ∙ unmarked (codes "(") text (at + length w) next none)))

abbrev under_form : List Token → Read (Bool × Form)
under_form rest = and_then (read_form rest) (λ form end. Ok ((true, form), end))

module _ (text : Bytes) (end : ℕ) (h : starts (codes "sh") (tokens_at text 0) ≡ true) (there : drop 1 (tokens_at text 0) ≡ tokens_at text end) where
  in_sh : read_head (tokens_at text 0) ≡ behind (codes "(") (tokens_at text end) under_form
  in_sh = cond-true (starts (codes "sh") (tokens_at text 0)) _ _ h ∙ ap (λ (z : List Token). behind (codes "(") z under_form) there

  pub head_open : starts (codes "(") (tokens_at text end) ≡ false → read_head (tokens_at text 0) ≡ Err (fault.Syntax end)
  head_open none = in_sh ∙ unmarked (codes "(") text end under_form none

  module _ (open_end : ℕ) (mark : starts (codes "(") (tokens_at text end) ≡ true) (next : drop 1 (tokens_at text end) ≡ tokens_at text open_end) where
    pub head_wrong : (why : DescriptorFault) → read_form (tokens_at text open_end) ≡ Err why → read_head (tokens_at text 0) ≡ Err why
    head_wrong why e = in_sh ∙ (marked (codes "(") text end open_end under_form mark next ∙ then_err (read_form (tokens_at text open_end)) _ why e)

    pub head_is : (form : Form) (rest : List Token) → read_form (tokens_at text open_end) ≡ Ok (form, rest) → read_head (tokens_at text 0) ≡ Ok ((true, form), rest)
    head_is form rest e = in_sh ∙ (marked (codes "(") text end open_end under_form mark next ∙ then_ok (read_form (tokens_at text open_end)) _ form rest e)

-- ---- behind the body

pub tail_open : (text : Bytes) (under : Bool) (at : ℕ) → starts (codes ")") (tokens_at text at) ≡ false → read_tail text under (tokens_at text at) ≡ Err (fault.Syntax at)
unfolding read_tail
tail_open text false at none = unmarked (codes ")") text at (read_sum text) none
tail_open text true at none = unmarked (codes ")") text at (λ rest. behind (codes ")") rest (read_sum text)) none

module _ (text : Bytes) (at end : ℕ) (mark : starts (codes ")") (tokens_at text at) ≡ true) (there : drop 1 (tokens_at text at) ≡ tokens_at text end) where
  alone_is : read_tail text false (tokens_at text at) ≡ read_sum text (tokens_at text end)
  unfolding read_tail
  alone_is = marked (codes ")") text at end (read_sum text) mark there

  tail_under : read_tail text true (tokens_at text at) ≡ behind (codes ")") (tokens_at text end) (read_sum text)
  unfolding read_tail
  tail_under = marked (codes ")") text at end (λ rest. behind (codes ")") rest (read_sum text)) mark there

  pub tail_alone : (under : Bool) → under ≡ false → read_tail text under (tokens_at text at) ≡ read_sum text (tokens_at text end)
  tail_alone under e = ap (λ (z : Bool). read_tail text z (tokens_at text at)) e ∙ alone_is

  pub tail_second : (under : Bool) → under ≡ true → starts (codes ")") (tokens_at text end) ≡ false → read_tail text under (tokens_at text at) ≡ Err (fault.Syntax end)
  tail_second under e none =
      ap (λ (z : Bool). read_tail text z (tokens_at text at)) e ∙ (tail_under ∙ unmarked (codes ")") text end (read_sum text) none)

  pub tail_both : (under : Bool) (last : ℕ) → under ≡ true → starts (codes ")") (tokens_at text end) ≡ true → drop 1 (tokens_at text end) ≡ tokens_at text last
      → read_tail text under (tokens_at text at) ≡ read_sum text (tokens_at text last)
  tail_both under last e again next =
      ap (λ (z : Bool). read_tail text z (tokens_at text at)) e ∙ (tail_under ∙ marked (codes ")") text end last (read_sum text) again next)

-- ---- all parts

body_of : (head : Bool × Form) (r : Result Found DescriptorFault) (found : Found) → r ≡ Ok found → mapped {B = Bool × Found} (λ (z : Found). (head.0, z)) r ≡ Ok (head.0, found)
body_of head r found e = ap (λ (z : Result Found DescriptorFault). mapped {B = Bool × Found} (λ (y : Found). (head.0, y)) z) e

body_wrong : (head : Bool × Form) (r : Result Found DescriptorFault) (why : DescriptorFault) → r ≡ Err why → mapped {B = Bool × Found} (λ (z : Found). (head.0, z)) r ≡ Err why
body_wrong head r why e = ap (λ (z : Result Found DescriptorFault). mapped {B = Bool × Found} (λ (y : Found). (head.0, y)) z) e

pub no_head : (text : Bytes) (why : DescriptorFault) → read_head (tokens_at text 0) ≡ Err why → read_parts text ≡ Err why
unfolding read_parts tokens_at
no_head text why e = then_err (read_head (tokens text)) _ why e

module _ (text : Bytes) (head : Bool × Form) (rest : List Token) (e : read_head (tokens_at text 0) ≡ Ok (head, rest)) where
  pub no_body : (why : DescriptorFault) → read_body (suc (length text)) head.1 rest ≡ Err why → read_parts text ≡ Err why
  unfolding read_parts tokens_at
  no_body why f = then_ok (read_head (tokens text)) _ head rest e ∙ body_wrong head (read_body (suc (length text)) head.1 rest) why f

  pub all_parts : (found : Found) → read_body (suc (length text)) head.1 rest ≡ Ok found → read_parts text ≡ Ok (head.0, found)
  unfolding read_parts tokens_at
  all_parts found f = then_ok (read_head (tokens text)) _ head rest e ∙ body_of head (read_body (suc (length text)) head.1 rest) found f
