-- Different policies print differently: what is printed of a policy can be told from the bytes behind it.
use Rattle.std.proofs.Common.{◌≡◌, false, [], ◌++◌, codes, decimal, refl, sym, ap, ◌∙◌, append_assoc, append-nil, arith}
use Rattle.std.proofs.lemmas.Bool.{false≢true}
use Rattle.std.proofs.lemmas.Fmt.{decimal_injective}
use Rattle.hex.specs.Hex.{encode_lower}
use Rattle.def_script.specs.Bytes.{Bytes}
use Rattle.def_text.proofs.PrintedWords.{digits_are_word}
use Rattle.def_policy.specs.Policy.{Policy, Policies, never, always, key, older, after, hash, all, any, thresh, none, more}
use Rattle.def_policy.specs.Print.{printed, printed_parts}
use Rattle.ms_print_laws.specs.Laws.{IsPrintable, ArePrintable, PrintedApart}
use Rattle.ms_print_laws.proofs.Words.{begins_word, first, behind, same_word, same_closed, decimal_is_word, same_bytes}
use Rattle.ms_print_laws.proofs.Names.{name, arguments, same_name, printed_begins, same_kind, same_place}

-- parts behind commas, the closing parenthesis, and what follows
abbrev others : Policies → Bytes → Bytes
others parts x = printed_parts (codes ",") parts ++ codes ")" ++ x

no_word : (parts : Policies) (x : Bytes) → begins_word (others parts x) ≡ false
no_word none x = refl
no_word (more p parts) x = refl

-- what stands before parts
before_parts : (a : Bytes) (parts : Policies) (x : Bytes) →
    a ++ printed_parts (codes ",") parts ++ codes ")" ++ x ≡ a ++ others parts x
before_parts a parts x =
    ap (λ w. w ++ x) (append_assoc a (printed_parts (codes ",") parts) (codes ")"))
    ∙ append_assoc a (printed_parts (codes ",") parts ++ codes ")") x

-- a part, where it and the parts behind it can be told from what follows
same_more : (p q : Policy) (ps qs : Policies) (x y : Bytes) →
    ((u v : Bytes) → name p ≡ name q → arguments p ++ u ≡ arguments q ++ v → (p ≡ q) × (u ≡ v)) →
    (others ps x ≡ others qs y → (ps ≡ qs) × (x ≡ y)) →
    printed p ++ printed_parts (codes ",") ps ++ codes ")" ++ x ≡ printed q ++ printed_parts (codes ",") qs ++ codes ")" ++ y →
    (more p ps ≡ more q qs) × (x ≡ y)
same_more p q ps qs x y one rest e =
    let s = same_name p q (others ps x) (others qs y) (no_word ps x) (no_word qs y)
    (sym (before_parts (printed p) ps x) ∙ e ∙ before_parts (printed q) qs y) in
    let here = one (others ps x) (others qs y) s.0 s.1 in
    let there = rest here.1 in
    (ap (λ r. more r ps) here.0 ∙ ap (more q) there.0, there.1)

mutual
  same_policy : (p q : Policy) → IsPrintable p → IsPrintable q → (x y : Bytes) →
      name p ≡ name q → arguments p ++ x ≡ arguments q ++ y → (p ≡ q) × (x ≡ y)
  same_policy never never h i x y n e = (refl, e)
  same_policy always always h i x y n e = (refl, e)
  same_policy (key k) (key l) h i x y n e =
      let s = same_closed (encode_lower k) (encode_lower l) x y (digits_are_word k h) (digits_are_word l i) e in
      (ap key (same_bytes k l h i s.0), s.1)
  same_policy (older k) (older l) h i x y n e =
      let s = same_closed (decimal k) (decimal l) x y (decimal_is_word k h) (decimal_is_word l i) e in
      (ap older (decimal_injective k l h i s.0), s.1)
  same_policy (after k) (after l) h i x y n e =
      let s = same_closed (decimal k) (decimal l) x y (decimal_is_word k h) (decimal_is_word l i) e in
      (ap after (decimal_injective k l h i s.0), s.1)
  same_policy (hash kind value) (hash other v) h i x y n e =
      let s = same_closed (encode_lower value) (encode_lower v) x y (digits_are_word value h) (digits_are_word v i) e in
      (ap (λ k. hash k value) (same_kind kind other n) ∙ ap (hash other) (same_bytes value v h i s.0), s.1)
  same_policy (all ps) (all qs) h i x y n e =
      let s = same_first ps qs h i x y (ap behind e) in
      (ap all s.0, s.1)
  same_policy (any ps) (any qs) h i x y n e =
      let s = same_first ps qs h i x y (ap behind e) in
      (ap any s.0, s.1)
  same_policy (thresh k ps) (thresh l qs) h i x y n e =
      let s = same_word (decimal k) (decimal l) (others ps x) (others qs y) (decimal_is_word k h.0) (decimal_is_word l i.0)
      (no_word ps x) (no_word qs y) (sym (before_parts (decimal k) ps x) ∙ ap behind e ∙ before_parts (decimal l) qs y) in
      let r = same_others ps qs h.1 i.1 x y s.1 in
      (ap (λ m. thresh m ps) (decimal_injective k l h.0 i.0 s.0) ∙ ap (thresh l) r.0, r.1)
  same_policy p q h i x y n e = let same = same_place p q n in absurd (omega (arith, same))

  -- the first behind the parenthesis
  same_first : (ps qs : Policies) → ArePrintable ps → ArePrintable qs → (x y : Bytes) →
      printed_parts [] ps ++ codes ")" ++ x ≡ printed_parts [] qs ++ codes ")" ++ y → (ps ≡ qs) × (x ≡ y)
  same_first none none h i x y e = (refl, ap behind e)
  same_first none (more q qs) h i x y e =
      absurd (false≢true (ap begins_word (e ∙ before_parts (printed q) qs y) ∙ printed_begins q (others qs y)))
  same_first (more p ps) none h i x y e =
      absurd (false≢true (ap begins_word (sym e ∙ before_parts (printed p) ps x) ∙ printed_begins p (others ps x)))
  same_first (more p ps) (more q qs) h i x y e =
      same_more p q ps qs x y (same_policy p q h.0 i.0) (same_others ps qs h.1 i.1 x y) e

  -- each behind a comma
  same_others : (ps qs : Policies) → ArePrintable ps → ArePrintable qs → (x y : Bytes) →
      others ps x ≡ others qs y → (ps ≡ qs) × (x ≡ y)
  same_others none none h i x y e = (refl, ap behind e)
  same_others none (more q qs) h i x y e = let same = ap first e in absurd (omega (arith, same))
  same_others (more p ps) none h i x y e = let same = ap first e in absurd (omega (arith, same))
  same_others (more p ps) (more q qs) h i x y e =
      same_more p q ps qs x y (same_policy p q h.0 i.0) (same_others ps qs h.1 i.1 x y) (ap behind e)

pub printed_apart : PrintedApart
printed_apart p q h i e =
    let s = same_name p q [] [] refl refl (append-nil (printed p) ∙ e ∙ sym (append-nil (printed q))) in
    (same_policy p q h i [] [] s.0 s.1).0
