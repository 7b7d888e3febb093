-- Each text has exactly one answer.
use Rattle.std.proofs.Common.{◌≡◌, inl, inr, ◌≤◌, Bool, false, List, [], ◌++◌, length, refl, sym, ap, subst, ◌∙◌, arith, Option, Some, None, Result, Ok, Err}
use Rattle.std.specs.Prelude.{IsUtf8}
use Rattle.std.proofs.lemmas.Bool.{cases_lt}
use Rattle.def_script.specs.Bytes.{Bytes}
use Rattle.def_text.specs.declared.TextFault.{TextFault}
use Rattle.def_text.specs.Refusal.{MOST_BYTES, TextRefusal}
use Rattle.def_text.proofs.OneAnswer.{one_refusal, none_beside_tree, some_answer}
use Rattle.def_descriptor.specs.declared.DescriptorFault.{DescriptorFault}
use Rattle.def_descriptor.specs.declared.DescriptorFault.TheVariants as fault
use Rattle.def_descriptor.specs.Token.{mapped}
use Rattle.def_descriptor.specs.Pieces.{Piece}
use Rattle.def_descriptor.specs.Parts.{miniscript, Found, read_parts, read_tail}
use Rattle.def_descriptor.specs.Answer.{Descriptor, sample, stop, refusal_of, pieces_of, IsRead, Answers, too_long, wrong_parts, wrong_miniscript, right_parts}
use Rattle.def_descriptor.proofs.Pieces.{pieces_utf8, sample_utf8}

abbrev Parts : Type 0
Parts = Result (Bool × Found) DescriptorFault

-- ---- a text has one reading of its parts

abbrev under_of : Parts → Bool
under_of (Ok x) = x.0
under_of (Err why) = false

abbrev found_of : Parts → Found
found_of (Ok x) = x.1
found_of (Err why) = record { body = miniscript []; refused = None; rest = [] }

same_pieces : (o : Option (List Piece)) (ps qs : List Piece) → o ≡ Some ps → o ≡ Some qs → ps ≡ qs
same_pieces o ps qs e f = cc

same_fault : (r : Parts) (why other : DescriptorFault) → r ≡ Err why → r ≡ Err other → why ≡ other
same_fault r why other e f = cc

not_both : (r : Parts) (why : DescriptorFault) (x : Bool × Found) → r ≡ Err why → r ≡ Ok x → ⊥
not_both r why x e f = absurd (cc)

module _ (text : Bytes) (utf8 : IsUtf8 text) (under under' : Bool) (found found' : Found)
    (parts : read_parts text ≡ Ok (under, found)) (parts' : read_parts text ≡ Ok (under', found')) where
  same_found : found ≡ found'
  same_found = ap found_of (sym parts ∙ parts')

  same_under : under ≡ under'
  same_under = ap under_of (sym parts ∙ parts')

  pieces_there : (ps : List Piece) → pieces_of found.body ≡ Some ps → pieces_of found'.body ≡ Some ps
  pieces_there ps e = ap (λ (z : Found). pieces_of z.body) (sym same_found) ∙ e

  refusal_there : (ps : List Piece) (why : TextFault) → TextRefusal (sample ps ++ stop found.refused) why → TextRefusal (sample ps ++ stop found'.refused) why
  refusal_there ps why h = subst (λ (z : Found). TextRefusal (sample ps ++ stop z.refused) why) same_found h

  wrong_one : (ps ps' : List Piece) (why why' : TextFault) → pieces_of found.body ≡ Some ps → pieces_of found'.body ≡ Some ps'
      → TextRefusal (sample ps ++ stop found.refused) why → TextRefusal (sample ps' ++ stop found'.refused) why'
      → refusal_of ps found why ≡ refusal_of ps' found' why'
  wrong_one ps ps' why why' e e' h h' =
      let same : ps ≡ ps' = same_pieces (pieces_of found'.body) ps ps' (pieces_there ps e) e' in
      let moved : TextRefusal (sample ps' ++ stop found'.refused) why =
      subst (λ (z : List Piece). TextRefusal (sample z ++ stop found'.refused) why) same (refusal_there ps why h) in
      let reason : why ≡ why' = one_refusal (sample ps' ++ stop found'.refused) why why' moved h' in
      ap (λ (z : List Piece). refusal_of z found why) same ∙ (ap (λ (z : Found). refusal_of ps' z why) same_found ∙ ap (refusal_of ps' found') reason)

  not_wrong_and_right : (ps : List Piece) (why : TextFault) → pieces_of found.body ≡ Some ps → TextRefusal (sample ps ++ stop found.refused) why
      → IsRead (pieces_of found'.body) found' → ⊥
  not_wrong_and_right ps why e h read =
      let own : IsRead (Some ps) found' = subst (λ (z : Option (List Piece)). IsRead z found') (pieces_there ps e) read in
      none_beside_tree (sample ps ++ stop found'.refused) own.0 own.1 why (sample_utf8 ps found'.refused (pieces_utf8 text under found ps utf8 parts e)) own.2
      (refusal_there ps why h)

  right_one : mapped {B = Descriptor} (λ count. record { under = under; body = found.body; length = count }) (read_tail text under found.rest)
      ≡ mapped (λ count. record { under = under'; body = found'.body; length = count }) (read_tail text under' found'.rest)
  right_one =
      ap (λ (z : Bool). mapped {B = Descriptor} (λ count. record { under = z; body = found.body; length = count }) (read_tail text z found.rest)) same_under
      ∙ ap (λ (z : Found). mapped {B = Descriptor} (λ count. record { under = under'; body = z.body; length = count }) (read_tail text under' z.rest)) same_found

pub one : (text : Bytes) {a b : Result Descriptor DescriptorFault} → IsUtf8 text → Answers text a → Answers text b → a ≡ b
one text utf8 (too_long h) (too_long k) = refl
one text utf8 (too_long h) (wrong_parts short e) = absurd (omega (arith, h, short))
one text utf8 (too_long h) (wrong_miniscript why short e p r) = absurd (omega (arith, h, short))
one text utf8 (too_long h) (right_parts short e r) = absurd (omega (arith, h, short))
one text utf8 (wrong_parts short e) (too_long h) = absurd (omega (arith, h, short))
one text utf8 (wrong_parts {why} short e) (wrong_parts {why = other} again f) = ap (λ (z : DescriptorFault). Err z) (same_fault (read_parts text) why other e f)
one text utf8 (wrong_parts {why} short e) (wrong_miniscript {under} {found} reason again f p r) = absurd (not_both (read_parts text) why (under, found) e f)
one text utf8 (wrong_parts {why} short e) (right_parts {under} {found} again f r) = absurd (not_both (read_parts text) why (under, found) e f)
one text utf8 (wrong_miniscript why short e p r) (too_long h) = absurd (omega (arith, h, short))
one text utf8 (wrong_miniscript {under} {found} reason short e p r) (wrong_parts {why} again f) = absurd (not_both (read_parts text) why (under, found) f e)
one text utf8 (wrong_miniscript {under} {found} {ps} why short e p r) (wrong_miniscript {under = under'} {found = found'} {ps = ps'} why' again f q s) =
    ap (λ (z : DescriptorFault). Err z) (wrong_one text utf8 under under' found found' e f ps ps' why why' p q r s)
one text utf8 (wrong_miniscript {under} {found} {ps} why short e p r) (right_parts {under = under'} {found = found'} again f s) =
    absurd (not_wrong_and_right text utf8 under under' found found' e f ps why p r s)
one text utf8 (right_parts short e r) (too_long h) = absurd (omega (arith, h, short))
one text utf8 (right_parts {under} {found} short e r) (wrong_parts {why} again f) = absurd (not_both (read_parts text) why (under, found) f e)
one text utf8 (right_parts {under} {found} short e r) (wrong_miniscript {under = under'} {found = found'} {ps = ps} why again f q s) =
    absurd (not_wrong_and_right text utf8 under' under found' found f e ps why q s r)
one text utf8 (right_parts {under} {found} short e r) (right_parts {under = under'} {found = found'} again f s) = right_one text utf8 under under' found found' e f

-- ---- some answer

abbrev pub HasAnswer : (text : Bytes) → Type 0
HasAnswer text = (a : Result Descriptor DescriptorFault) × Answers text a

by_pieces : (text : Bytes) → IsUtf8 text → length text ≤ MOST_BYTES → (under : Bool) (found : Found) → read_parts text ≡ Ok (under, found)
    → (o : Option (List Piece)) → pieces_of found.body ≡ o → HasAnswer text
by_pieces text utf8 short under found e None p = (_, right_parts short e (subst (λ (z : Option (List Piece)). IsRead z found) (sym p) tt))
by_pieces text utf8 short under found e (Some ps) p =
    elim (some_answer (sample ps ++ stop found.refused) (sample_utf8 ps found.refused (pieces_utf8 text under found ps utf8 e p))) [
      | inl r ↦ (_, right_parts short e (subst (λ (z : Option (List Piece)). IsRead z found) (sym p) (r.0, r.1, r.2)))
      | inr r ↦ (_, wrong_miniscript r.0 short e p r.1)
    ]

by_result : (text : Bytes) → IsUtf8 text → length text ≤ MOST_BYTES → (r : Parts) → read_parts text ≡ r → HasAnswer text
by_result text utf8 short (Err why) e = (Err why, wrong_parts short e)
by_result text utf8 short (Ok (under, found)) e = by_pieces text utf8 short under found e (pieces_of found.body) refl

pub some : (text : Bytes) → IsUtf8 text → HasAnswer text
some text utf8 = elim (cases_lt MOST_BYTES (length text)) [
  | inl long ↦ (Err fault.TooLong, too_long long)
  | inr short ↦ by_result text utf8 short (read_parts text) refl
]
