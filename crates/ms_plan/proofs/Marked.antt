-- Signatures that are marked: each has its entry's length, and a mark of its own.
use Rattle.std.proofs.Common.{◌≡◌, ℕ, ◌+◌, ◌<◌, [], ◌∷◌, ◌++◌, length, replicate, take, drop, ◌≤◌, get_or, append_assoc, sym, ◌∙◌, ap, subst}
use Rattle.std.proofs.lemmas.List.{drop_more, take-replicate}
use Rattle.def_script.specs.Bytes.{Bytes}
use Rattle.def_script.specs.Signature.{MAX_SIGNATURE_SIZE}
use Rattle.def_tree.specs.Tree.{Key}
use Rattle.def_machine.specs.Stacks.{Pairs}
use Rattle.def_plan.specs.Lengths.{Lengths}
use Rattle.ms_plan.specs.declared.marks.Marks.{Marks}
use Rattle.ms_plan.specs.Scaffolding.Marks.{mark_of, marked}

-- a signature is cut to its length
pub cut : (old : Pairs) (key : Key) (n mark : ℕ) (entry : Key × ℕ) → (key, n) ≡ entry → entry.1 ≤ MAX_SIGNATURE_SIZE →
    old ++ (key, take n (replicate 73 mark)) ∷ [] ≡ old ++ (entry.0, replicate entry.1 mark) ∷ []
cut old key n mark entry e short =
    let few : n ≤ MAX_SIGNATURE_SIZE = subst (λ m. m ≤ MAX_SIGNATURE_SIZE) (sym (ap (λ x. x.1) e)) short in
    ap (λ sig. old ++ (key, sig) ∷ []) (take-replicate n 73 mark few) ∙
    ap (λ x. old ++ (x.0, replicate x.1 mark) ∷ []) e

-- a further one is added
pub added : (marks : Marks) (table : Lengths) (place : ℕ) (entry : Key × ℕ) (old new whole : Pairs) (sig : Bytes) → place < length table → entry ≡ get_or table place entry →
    sig ≡ replicate entry.1 (mark_of marks place) → new ≡ old ++ (entry.0, sig) ∷ [] → old ++ marked marks place (drop place table) ≡ whole →
    new ++ marked marks (place + 1) (drop (place + 1) table) ≡ whole
added marks table place entry old new whole sig below is long e h =
    let more : drop place table ≡ entry ∷ drop (place + 1) table = drop_more table place entry below ∙ ap (λ x. x ∷ drop (place + 1) table) (sym is) in
    let k = subst (λ t. old ++ marked marks place t ≡ whole) more h in
    rw (e, long, append_assoc) k
