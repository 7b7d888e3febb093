-- What is kept of instructions one after the other, and of VERIFY behind them.
use Rattle.std.proofs.Common.{◌≡◌, ℕ, ◌+◌, ◌<◌, ◌≤◌, Option, Some, None, Result, Ok, Err, OnOk, List, [], ◌∷◌, ◌++◌, length, get_or, drop, map, refl, sym, ◌∙◌, ap, append_assoc, drop-cons, add-one}
use Rattle.std.proofs.lemmas.List.{append-nil, drop_all}
use Rattle.def_emit.specs.Emit.{push_number}
use Rattle.def_emit.proofs.Behind.{has_first}
use Rattle.def_script.specs.declared.Op.{Op}
use Rattle.def_script.specs.declared.Op.TheVariants as op
use Rattle.def_script.specs.Bytes.{Bytes}
use Rattle.def_script.specs.Instruction.{Instruction, push, code}
use Rattle.def_trace.specs.Writers.{Attributed, by, with_verify, form_of, verified_by, attributed, attributed_sum, attributed_added}
use Rattle.def_trace.proofs.Writing.{writers_of_script}
use Rattle.def_tree.specs.Size.{nodes, nodes_of}
use Rattle.def_tree.specs.declared.Wrapper.TheVariants as wrapper
use Rattle.def_tree.specs.Tree.{Tree, Trees, multi, thresh, wrap}
use Rattle.ms_tree.specs.declared.tree.Tree as code_tree
use Rattle.ms_tree.specs.Shape.{shape, shapes}
use Rattle.ms_writers.specs.Scaffolding.Wrote.{Wrote, wrote, wrote_push, wrote_verify, wrote_all}

-- one list after the other
pub written_behind : (w : Wrote) (front back : List Attributed) → wrote_all w (front ++ back) ≡ wrote_all (wrote_all w front) back
written_behind w [] back = refl
written_behind w (a ∷ front) back = written_behind (wrote w a) front back

-- all writers are kept, in order
pub writers_kept : (w : Wrote) (ws : List Attributed) → (wrote_all w ws).nodes ≡ w.nodes ++ map (λ (a : Attributed). a.writer) ws
writers_kept w [] = sym (append-nil w.nodes)
writers_kept w (a ∷ ws) = writers_kept (wrote w a) ws ∙ append_assoc w.nodes (a.writer ∷ []) (map (λ (b : Attributed). b.writer) ws)

-- ---- VERIFY

-- the form of an opcode that there may be
abbrev form_of_some : Option Op → Option Op
form_of_some None = None
form_of_some (Some o) = form_of (code o)

-- a form that does VERIFY too has none itself
form_of_form : (i : Instruction) (form : Op) → form_of i ≡ Some form → form_of (code form) ≡ None
form_of_form (push bytes) form is = absurd cc
form_of_form (code op.Equal) form is = ap (λ (o : Option Op). form_of_some o) (sym is)
form_of_form (code op.CheckSig) form is = ap (λ (o : Option Op). form_of_some o) (sym is)
form_of_form (code op.CheckMultiSig) form is = ap (λ (o : Option Op). form_of_some o) (sym is)
form_of_form (code other) form is = absurd cc

-- VERIFY behind an instruction
with_form : (w : Wrote) (node : ℕ) (a : Attributed) (form : Option Op) → form_of a.instruction ≡ form
    → wrote_all w (with_verify node a form) ≡ wrote_verify node (wrote w a)
with_form w node a None is = rw is refl
with_form w node a (Some form) is = rw (is, form_of_form a.instruction form is) refl

-- VERIFY behind instructions of which there is one at least
verify_last : (w : Wrote) (node : ℕ) (a : Attributed) (ws : List Attributed)
    → wrote_all w (verified_by node (a ∷ ws)) ≡ wrote_verify node (wrote_all w (a ∷ ws))
verify_last w node a [] = with_form w node a (form_of a.instruction) refl
verify_last w node a (b ∷ ws) = verify_last (wrote w a) node b ws

verify_some : (w : Wrote) (node : ℕ) (ws : List Attributed) (i : Instruction) (is : List Instruction)
    → map (λ (a : Attributed). a.instruction) ws ≡ i ∷ is → wrote_all w (verified_by node ws) ≡ wrote_verify node (wrote_all w ws)
verify_some w node [] i is some = absurd cc
verify_some w node (a ∷ ws) i is some = verify_last w node a ws

-- VERIFY behind a tree's instructions
pub verify_behind : (w : Wrote) (first : ℕ) (t : Tree)
    → wrote_all w (verified_by (first + nodes t) (attributed first t)) ≡ wrote_verify (first + nodes t) (wrote_all w (attributed first t))
verify_behind w first t =
    let h = has_first t in
    verify_some w (first + nodes t) (attributed first t) h.first h.rest (writers_of_script first t ∙ h.whole)

-- ---- the child of a threshold that a loop is at, and those after it

rest-cons : (xs : List code_tree.Tree) (i : ℕ) (d : code_tree.Tree) → i < length xs → drop i xs ≡ get_or xs i d ∷ drop (i + 1) xs
rest-cons xs i d there = rw add-one (drop-cons xs i d there)

pub others_left : (w : Wrote) (next own : ℕ) (xs : List code_tree.Tree) (i : ℕ) (x : code_tree.Tree) → i < length xs → x ≡ get_or xs i x
    → wrote_all (wrote (wrote_all w (attributed next (shape x))) (by own (code op.Add))) (attributed_added (next + nodes (shape x)) own (shapes (drop (i + 1) xs)))
    ≡ wrote_all w (attributed_added next own (shapes (drop i xs)))
others_left w next own xs i x below at =
    rw (rest-cons xs i x below, ← at)
    (sym (written_behind w (attributed next (shape x)) (by own (code op.Add) ∷ attributed_added (next + nodes (shape x)) own (shapes (drop (i + 1) xs)))))

pub nodes_left : (xs : List code_tree.Tree) (i : ℕ) (x : code_tree.Tree) → i < length xs → x ≡ get_or xs i x
    → nodes_of (shapes (drop i xs)) ≡ nodes (shape x) + nodes_of (shapes (drop (i + 1) xs))
nodes_left xs i x below at = rw (rest-cons xs i x below, ← at) refl

-- ---- what a step that took memory comes to, where memory wasn't wanting

pub on_ok : {T E P Q : Type 0} (r : Result T E) → (P → Q) → OnOk r P → OnOk r Q
on_ok (Ok x) then holds = then holds
on_ok (Err e) then holds = holds

-- the number and EQUAL behind the children of a threshold
pub thresh_done : (w sum pushed done : Wrote) (first own k : ℕ) (xs : Trees) → own ≡ first + nodes_of xs
    → sum ≡ wrote_all w (attributed_sum first own xs) → pushed ≡ wrote_push own sum → done ≡ wrote pushed (by own (code op.Equal))
    → done ≡ wrote_all w (attributed first (thresh k xs))
thresh_done w sum pushed done first own k xs at sum-is pushed-is done-is =
    rw (done-is, pushed-is, sum-is, at)
    (sym (written_behind w (attributed_sum first (first + nodes_of xs) xs)
    (by (first + nodes_of xs) (push_number k) ∷ by (first + nodes_of xs) (code op.Equal) ∷ [])))

-- VERIFY behind what `v` is put on
pub verify_done : (w below done : Wrote) (first own : ℕ) (t : Tree) → own ≡ first + nodes t
    → below ≡ wrote_all w (attributed first t) → done ≡ wrote_verify own below → done ≡ wrote_all w (attributed first (wrap wrapper.V t))
verify_done w below done first own t at below-is done-is = rw (done-is, below-is, at) (sym (verify_behind w first t))

-- a further child of a threshold and ADD, and those that are left
pub added_done : (w child added : Wrote) (next own size : ℕ) (xs : List code_tree.Tree) (i : ℕ) (x : code_tree.Tree) → i < length xs → x ≡ get_or xs i x
    → size ≡ nodes (shape x) → child ≡ wrote_all w (attributed next (shape x)) → added ≡ wrote child (by own (code op.Add))
    → wrote_all added (attributed_added (next + size) own (shapes (drop (i + 1) xs))) ≡ wrote_all w (attributed_added next own (shapes (drop i xs)))
added_done w child added next own size xs i x below at size-is child-is added-is =
    rw (added-is, child-is, size-is) (others_left w next own xs i x below at)

-- a push for each key, their number and CHECKMULTISIG, behind the number of signatures
pub multi_done : (w counted pushed number done : Wrote) (node k i : ℕ) (keys : List Bytes) → length keys ≤ i → counted ≡ wrote_push node w
    → wrote_all pushed (map (λ key. by node (push key)) (drop i keys)) ≡ wrote_all counted (map (λ key. by node (push key)) keys)
    → number ≡ wrote_push node pushed → done ≡ wrote number (by node (code op.CheckMultiSig)) → done ≡ wrote_all w (attributed node (multi k keys))
multi_done w counted pushed number done node k i keys past counted-is pushed-is number-is done-is =
    let all : pushed ≡ wrote_all counted (map (λ key. by node (push key)) keys) = rw (drop_all i keys past) at pushed-is in
    rw (done-is, number-is, all, counted-is)
    (sym (written_behind (wrote_push node w) (map (λ key. by node (push key)) keys)
    (by node (push_number (length keys)) ∷ by node (code op.CheckMultiSig) ∷ [])))
