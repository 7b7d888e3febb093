-- What a text answers, by its parts, by the text of its miniscript, and by what stands behind them.
use Rattle.std.proofs.Common.{◌≡◌, ℕ, ◌≤◌, ◌==◌, Bool, true, false, List, [], ◌++◌, length, ap, ◌∙◌, refl, sym, subst, cond, Option, Some, None, Result, Ok, Err, IfErr, is_some, eq-eqb, ne_eqb}
use Rattle.std.specs.Prelude.{IsUtf8}
use Rattle.std.specs.Option.{unwrap_or}
use Rattle.std.specs.Result.{IsErrAnd}
use Rattle.std.proofs.lemmas.Bool.{cond-true, cond-false}
use Rattle.std.proofs.lemmas.Result.{err_from_is_err_and}
use Rattle.def_script.specs.Bytes.{Bytes}
use Rattle.def_text.specs.declared.TextFault.TheVariants as text_fault
use Rattle.def_text.specs.Refusal.{MOST_BYTES}
use Rattle.def_descriptor.specs.declared.DescriptorFault.{DescriptorFault}
use Rattle.def_descriptor.specs.declared.DescriptorFault.TheVariants as fault
use Rattle.def_descriptor.specs.Token.{Token, place, mapped}
use Rattle.def_descriptor.specs.Pieces.{Piece, place_of}
use Rattle.def_descriptor.specs.Parts.{Body, miniscript, sorted, single, Found, read_parts, read_tail}
use Rattle.def_descriptor.specs.Gives.{pieces_in}
use Rattle.def_descriptor.specs.Answer.{Descriptor, sample, stop, refusal_of, pieces_of, IsRead, Answers, wrong_miniscript, right_parts}
use Rattle.def_descriptor.proofs.Pieces.{PiecesUtf8, pieces_utf8, sample_utf8}
use Rattle.ms_paths.specs.Places.{tokens_at}
use Rattle.ms_descriptor.specs.Miniscripts.{rest_at, end_at}
use Rattle.ms_descriptor.specs.Bodies.{IsUnread}
use Rattle.ms_descriptor.proofs.Sampling.{end_is}

-- ---- why a body is refused, by why its text is

module _ (ps : List Piece) (found : Found) (at : ℕ) where
  abbrev own_fault : DescriptorFault
  own_fault = fault.Syntax (place_of (place found.rest) ps at)

  by_test : Bool → DescriptorFault
  by_test t = cond t (unwrap_or found.refused own_fault) own_fault

  pub no_key : found.refused ≡ None → refusal_of ps found (text_fault.Syntax at) ≡ own_fault
  unfolding by_test
  no_key h = go (at == length (sample ps))
    where
      go : (t : Bool) → by_test t ≡ own_fault
      go true = ap (λ (z : Option DescriptorFault). unwrap_or z own_fault) h
      go false = refl

  pub key_there : (why : DescriptorFault) → at ≡ length (sample ps) → found.refused ≡ Some why → refusal_of ps found (text_fault.Syntax at) ≡ why
  key_there why e h =
      cond-true (at == length (sample ps)) (unwrap_or found.refused own_fault) own_fault (eq-eqb at (length (sample ps)) e)
      ∙ ap (λ (z : Option DescriptorFault). unwrap_or z own_fault) h

  pub before_key : (at ≡ length (sample ps) → ⊥) → refusal_of ps found (text_fault.Syntax at) ≡ own_fault
  before_key n = cond-false (at == length (sample ps)) (unwrap_or found.refused own_fault) own_fault (ne_eqb at (length (sample ps)) n)

-- a place, by the place at which the body ends
pub place_there : (text : Bytes) (refused : Option DescriptorFault) (rest : ℕ) (ps : List Piece) (at n : ℕ) → n ≡ place_of (end_at refused rest) ps at
    → place_of (place (rest_at text refused rest)) ps at ≡ n
place_there text refused rest ps at n h = ap (λ (z : ℕ). place_of z ps at) (end_is text refused rest) ∙ sym h

-- ---- what stands behind a body

pub open_rest : (text : Bytes) (refused : Option DescriptorFault) (at : ℕ) → is_some refused ≡ false → rest_at text refused at ≡ tokens_at text at
open_rest text None at h = refl
open_rest text (Some why) at h = absurd (cc)

pub no_rest : (text : Bytes) (refused : Option DescriptorFault) (at : ℕ) → is_some refused ≡ true → rest_at text refused at ≡ []
no_rest text None at h = absurd (cc)
no_rest text (Some why) at h = refl

pub no_tail : (text : Bytes) (under : Bool) → read_tail text under [] ≡ Err (fault.Syntax 0)
unfolding read_tail
no_tail text false = refl
no_tail text true = refl

-- ---- the text of a body is in UTF-8

pub body_utf8 : (text : Bytes) (under : Bool) (found : Found) → IsUtf8 text → read_parts text ≡ Ok (under, found)
    → IsUtf8 (sample (pieces_in found.body) ++ stop found.refused)
body_utf8 text under found utf8 parts =
    sample_utf8 (pieces_in found.body) found.refused (go found.body (λ ps h. pieces_utf8 text under found ps utf8 parts h))
  where
    go : (body : Body) → ((ps : List Piece) → pieces_of body ≡ Some ps → PiecesUtf8 ps) → PiecesUtf8 (pieces_in body)
    go (miniscript ps) h = h ps refl
    go (sorted ps) h = h ps refl
    go (single expression) h = tt

-- ---- the answers

module _ (text : Bytes) (under : Bool) (found : Found) (short : length text ≤ MOST_BYTES) (parts : read_parts text ≡ Ok (under, found)) where
  pub unread : (ps : List Piece) (why : DescriptorFault) → pieces_of found.body ≡ Some ps → IsUnread ps found why → Answers text (Err why)
  unread ps why pieces h = subst (λ (z : DescriptorFault). Answers text (Err z)) h.2 (wrong_miniscript h.0 short parts pieces h.1)

  module _ (read : IsRead (pieces_of found.body) found) (ts : List Token) (there : found.rest ≡ ts) where
    with_tail : (r : Result ℕ DescriptorFault) → read_tail text under ts ≡ r
        → Answers text (mapped (λ count. record { under = under; body = found.body; length = count }) r)
    with_tail r h =
        let whole : ℕ → Descriptor = λ count. record { under = under; body = found.body; length = count } in
        subst (λ (z : Result ℕ DescriptorFault). Answers text (mapped whole z)) (ap (read_tail text under) there ∙ h) (right_parts short parts read)

    pub right : (count : ℕ) → read_tail text under ts ≡ Ok count → Answers text (Ok (record { under = under; body = found.body; length = count }))
    right count h = with_tail (Ok count) h

    pub wrong_behind : (why : DescriptorFault) → read_tail text under ts ≡ Err why → Answers text (Err why)
    wrong_behind why h = with_tail (Err why) h

-- a refusal is handed on
pub handed_on : {A : Type 0} (result : Result A DescriptorFault) (why : DescriptorFault) (P : DescriptorFault → Type 0) → IsErrAnd result (λ y. y ≡ why) → P why
    → IfErr result P
handed_on result why P h p = let q = err_from_is_err_and result h in rw (q.1, q.2) p
