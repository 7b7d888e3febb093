-- A text has at most one answer: the places of two answers are compared.
use Rattle.std.proofs.Common.{◌≡◌, ◌⊎◌, inl, inr, ℕ, ◌≤◌, List, [], ◌∷◌, ◌++◌, length, refl, sym, ap, ◌∙◌, subst, append_assoc, arith}
use Rattle.std.specs.Str.{IsUtf8}
use Rattle.std.proofs.lemmas.Bool.{cases_lt}
use Rattle.def_script.specs.Bytes.{Bytes}
use Rattle.def_tree.specs.Tree.{Tree}
use Rattle.def_text.specs.declared.TextFault.{TextFault}
use Rattle.def_text.specs.declared.TextFault.TheVariants.{TooLong, Syntax, TooDeep, Memory}
use Rattle.def_text.specs.Token.{Token, offset, tokens}
use Rattle.def_text.specs.Refusal.{MOST_BYTES, IsViable, Place, SyntaxAt, DeepAt, TextRefusal, TextReads}
use Rattle.def_text.specs.Scaffolding.Reader.{START, Outcome, tree_outcome, syntax_outcome, deep_outcome, outcome}
use Rattle.def_text.proofs.Report.{Order, same_place, earlier, later, order, Reports, report}

places : {text : Bytes} {p q : ℕ} (a : Place text p) (b : Place text q) → Order a.before a.token b.before b.token
places a b = order a.before a.token a.after b.before b.token b.after (sym a.split ∙ b.split)

same_offset : {text : Bytes} {p q : ℕ} (a : Place text p) (b : Place text q) → a.token ≡ b.token → p ≡ q
same_offset a b e = sym a.there ∙ (ap offset e ∙ b.there)

-- what begins a spelled text has fronts that do
viable_front : (us vs : List Token) → IsViable (us ++ vs) → IsViable us
viable_front us vs v = record {
  text = v.text;
  after = vs ++ v.after;
  tree = v.tree;
  offsets = v.offsets;
  utf8 = v.utf8;
  split = v.split ∙ append_assoc us vs v.after;
  spelled = v.spelled;
}

viable_up_to : (us : List Token) (t : Token) (vs : List Token) → IsViable (us ++ t ∷ vs) → IsViable (us ++ t ∷ [])
viable_up_to us t vs v = viable_front (us ++ t ∷ []) vs (subst IsViable (sym (append_assoc us (t ∷ []) vs)) v)

-- ---- two refusals

module _ {text : Bytes} {p q : ℕ} where
  syntax_order : (a : SyntaxAt text p) (b : SyntaxAt text q) →
      Order a.place.before a.place.token b.place.before b.place.token → p ≡ q
  syntax_order a b (same_place h k) = same_offset a.place b.place k
  syntax_order a b (earlier rest h) = absurd (a.ends (viable_up_to a.place.before a.place.token rest (subst IsViable h b.begins)))
  syntax_order a b (later rest h) = absurd (b.ends (viable_up_to b.place.before b.place.token rest (subst IsViable h a.begins)))

  deep_order : (a : DeepAt text p) (b : DeepAt text q) → Order a.place.before a.place.token b.place.before b.place.token → p ≡ q
  deep_order a b (same_place h k) = same_offset a.place b.place k
  deep_order a b (earlier rest h) = absurd (b.none_deep a.place.before a.place.token rest h a.deep)
  deep_order a b (later rest h) = absurd (a.none_deep b.place.before b.place.token rest h b.deep)

  mixed_order : (a : SyntaxAt text p) (b : DeepAt text q) → Order a.place.before a.place.token b.place.before b.place.token → ⊥
  mixed_order a b (same_place h k) =
      a.ends (subst (λ r. IsViable (r ++ a.place.token ∷ [])) (sym h)
      (subst (λ r. IsViable (b.place.before ++ r ∷ [])) (sym k) b.begins))
  mixed_order a b (earlier rest h) =
      a.ends (viable_up_to a.place.before a.place.token rest
      (viable_front (a.place.before ++ a.place.token ∷ rest) (b.place.token ∷ [])
      (subst (λ r. IsViable (r ++ b.place.token ∷ [])) h b.begins)))
  mixed_order a b (later rest h) = a.none_deep b.place.before b.place.token rest h b.deep

pub one_refusal : (text : Bytes) (d e : TextFault) → TextRefusal text d → TextRefusal text e → d ≡ e
one_refusal text TooLong TooLong a b = refl
one_refusal text (Syntax p) (Syntax q) (short, a) (same, b) = ap Syntax (syntax_order a b (places a.place b.place))
one_refusal text (Syntax p) (TooDeep q) (short, a) (same, b) = absurd (mixed_order a b (places a.place b.place))
one_refusal text (TooDeep p) (Syntax q) (short, a) (same, b) = absurd (mixed_order b a (places b.place a.place))
one_refusal text (TooDeep p) (TooDeep q) (short, a) (same, b) = ap TooDeep (deep_order a b (places a.place b.place))
one_refusal text Memory e a b = absurd a
one_refusal text d Memory a b = absurd b
one_refusal text d e a b = absurd (omega arith)

-- ---- a refusal beside a tree

whole_is_viable : (text : Bytes) (x : Tree) (os : List ℕ) {p : ℕ} (a : Place text p) → IsUtf8 text → TextReads text x os →
    IsViable (a.before ++ a.token ∷ [])
whole_is_viable text x os a utf8 reads = record {
  text = text;
  after = a.after;
  tree = x;
  offsets = os;
  utf8 = utf8;
  split = a.split ∙ sym (append_assoc a.before (a.token ∷ []) a.after);
  spelled = reads.spelled;
}

pub none_beside_tree : (text : Bytes) (x : Tree) (os : List ℕ) (e : TextFault) → IsUtf8 text → TextReads text x os →
    ¬ TextRefusal text e
none_beside_tree text x os TooLong utf8 reads over = let short : length text ≤ MOST_BYTES = reads.short in omega arith
none_beside_tree text x os (Syntax p) utf8 reads (short, a) = a.ends (whole_is_viable text x os a.place utf8 reads)
none_beside_tree text x os (TooDeep p) utf8 reads (short, a) =
    reads.none_deep a.place.before a.place.token a.place.after a.place.split a.deep
none_beside_tree text x os Memory utf8 reads a = a

-- ---- some answer

abbrev pub Answers : Bytes → Type 0
Answers text = ((x : Tree) × (os : List ℕ) × TextReads text x os) ⊎ ((e : TextFault) × TextRefusal text e)

by_outcome : (text : Bytes) (o : Outcome) → length text ≤ MOST_BYTES → Reports text o → Answers text
by_outcome text (tree_outcome x os) short h = inl (x, os, record { short = short; spelled = h.0; none_deep = h.1 })
by_outcome text (syntax_outcome p) short h = inr (Syntax p, (short, h))
by_outcome text (deep_outcome p) short h = inr (TooDeep p, (short, h))

pub some_answer : (text : Bytes) → IsUtf8 text → Answers text
some_answer text utf8 = elim (cases_lt MOST_BYTES (length text)) [
  | inl long ↦ inr (TooLong, long)
  | inr short ↦ by_outcome text (outcome START (tokens text)) short (report text utf8)
]
