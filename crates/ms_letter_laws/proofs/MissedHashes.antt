-- A miniscript with the letter d has a dissatisfaction without a signature, of bytes, where its hashes can be missed by
-- bytes.
use Rattle.std.proofs.Common.{◌≡◌, ◌+◌, true, List, [], ◌∷◌, ◌++◌, replicate, All, Contains, refl, inl, inr, arith, IsTrue}
use Rattle.std.proofs.lemmas.Bool.{or_cases, false≢true, and_parts}
use Rattle.std.proofs.lemmas.List.Elements.{All-nil, All-cons, All-append, All-replicate, Contains-append_left, Contains-append_right}
use Rattle.def_hash.specs.declared.HashKind.{HashKind}
use Rattle.def_script.specs.Bytes.{Bytes, IsBytes}
use Rattle.def_machine.specs.Stacks.{Stack}
use Rattle.def_tree.specs.declared.Two.TheVariants as kind
use Rattle.def_tree.specs.declared.Wrapper.TheVariants as wrapper
use Rattle.def_tree.specs.Tree.{Tree, Trees, just_0, pk_k, pk_h, hash, and_or, two, thresh, multi, wrap, none, more}
use Rattle.def_tree.specs.Range.{IsWritable, AreWritable}
use Rattle.def_types.specs.Typed.{type_of, IsTyped, AreTyped}
use Rattle.def_types.proofs.Rows.{correctness_rows}
use Rattle.def_types.proofs.Facts.{typed-and_or, typed-or_b, typed-or_d, typed-thresh, typed-thresh_none, OthersFit}
use Rattle.def_tree.specs.Nodes.{all_nodes, nodes_of_all}
use Rattle.def_satisfaction.specs.StackSet.{StackSet, Is, Both}
use Rattle.def_satisfaction.specs.Setting.{Setting}
use Rattle.def_satisfaction.specs.Rows.{EMPTY, ONE, IsNoPreimageOf, row, parts}
use Rattle.def_satisfaction.proofs.OfBytes.{empty_bytes, one_bytes, one_item}
use Rattle.ms_row_laws.proofs.NeededSignatures.{counts_itself}

-- of each hash among the nodes some 32 bytes don't hash to the value
abbrev pub AreMissed : List Tree → Type 0
AreMissed nodes =
    (kind : HashKind) (value : Bytes) → Contains nodes (hash kind value) → (bytes : Bytes) × IsBytes bytes × IsNoPreimageOf kind value bytes

-- there is a stack of the set that consists of bytes
abbrev pub HasBytes : StackSet → Type 0
HasBytes P = (stack : Stack) × All IsBytes stack × P stack

bytes_both : (P Q : StackSet) → HasBytes P → HasBytes Q → HasBytes (Both P Q)
bytes_both P Q p q = (q.0 ++ p.0, All-append IsBytes q.0 p.0 q.1 p.1, (p.0, q.0, p.2, q.2, refl))

missed_left : (a b : List Tree) → AreMissed (a ++ b) → AreMissed a
missed_left a b h kind value i = h kind value (Contains-append_left a b (hash kind value) i)

missed_right : (a b : List Tree) → AreMissed (a ++ b) → AreMissed b
missed_right a b h kind value i = h kind value (Contains-append_right a b (hash kind value) i)

module _ (s : Setting) (all : IsTrue s.all_rows) where
  mutual
    unfolding correctness_rows

    pub missed_dsat : (t : Tree) → IsWritable t → IsTyped t → (type_of t).d ≡ true → AreMissed (all_nodes t) → HasBytes (row s t).dsat
    missed_dsat just_0 k typed e h = ([], All-nil IsBytes, refl)
    missed_dsat (pk_k key) k typed e h = (EMPTY ∷ [], one_item EMPTY empty_bytes, refl)
    missed_dsat (pk_h key) k typed e h = (
      key ∷ EMPTY ∷ [],
      All-cons IsBytes key (EMPTY ∷ []) k.bytes (one_item EMPTY empty_bytes),
      (key, k.form, refl, counts_itself s.mode key, (EMPTY ∷ [], key ∷ [], refl, refl, refl)),
    )
    missed_dsat (hash kind value) k typed e h = let m = h kind value (0, omega arith, refl) in (m.0 ∷ [], one_item m.0 m.1, inr (all, (m.0, m.2, refl)))
    missed_dsat (and_or x y z) k typed e h =
        let p = typed-and_or x y z typed in
        let h_all = missed_left (all_nodes x ++ all_nodes y ++ all_nodes z) (and_or x y z ∷ []) h in
        let h_xy = missed_left (all_nodes x ++ all_nodes y) (all_nodes z) h_all in
        let one = bytes_both _ _
        (missed_dsat z k.2 p.2 e (missed_right (all_nodes x ++ all_nodes y) (all_nodes z) h_all))
        (missed_dsat x k.0 p.0 p.4 (missed_left (all_nodes x) (all_nodes y) h_xy)) in
        (one.0, one.1, inl one.2)
    missed_dsat (two kind.AndB x y) k typed e h =
        let p = and_parts (type_of x).d (type_of y).d e in
        let h_all = missed_left (all_nodes x ++ all_nodes y) (two kind.AndB x y ∷ []) h in
        let one = bytes_both _ _
        (missed_dsat y k.1 typed.1 p.1 (missed_right (all_nodes x) (all_nodes y) h_all))
        (missed_dsat x k.0 typed.0 p.0 (missed_left (all_nodes x) (all_nodes y) h_all)) in
        (one.0, one.1, inl one.2)
    missed_dsat (two kind.OrB x z) k typed e h =
        let p = typed-or_b x z typed in
        let h_all = missed_left (all_nodes x ++ all_nodes z) (two kind.OrB x z ∷ []) h in
        bytes_both _ _
        (missed_dsat z k.1 p.1 p.5 (missed_right (all_nodes x) (all_nodes z) h_all))
        (missed_dsat x k.0 p.0 p.3 (missed_left (all_nodes x) (all_nodes z) h_all))
    missed_dsat (two kind.OrD x z) k typed e h =
        let p = typed-or_d x z typed in
        let h_all = missed_left (all_nodes x ++ all_nodes z) (two kind.OrD x z ∷ []) h in
        bytes_both _ _
        (missed_dsat z k.1 p.1 e (missed_right (all_nodes x) (all_nodes z) h_all))
        (missed_dsat x k.0 p.0 p.3 (missed_left (all_nodes x) (all_nodes z) h_all))
    missed_dsat (two kind.OrI x z) k typed e h =
        let h_all = missed_left (all_nodes x ++ all_nodes z) (two kind.OrI x z ∷ []) h in
        elim (or_cases (type_of x).d (type_of z).d e) [
          | inl d ↦
              let one = bytes_both _ (Is ONE) (missed_dsat x k.0 typed.0 d (missed_left (all_nodes x) (all_nodes z) h_all)) (ONE ∷ [], one_item ONE one_bytes, refl) in
              (one.0, one.1, inl one.2)
          | inr d ↦
              let one = bytes_both _ (Is EMPTY) (missed_dsat z k.1 typed.1 d (missed_right (all_nodes x) (all_nodes z) h_all)) (EMPTY ∷ [], one_item EMPTY empty_bytes, refl) in
              (one.0, one.1, inr one.2)
        ]
    missed_dsat (thresh k none) writable typed e h = absurd (typed-thresh_none k typed)
    missed_dsat (thresh k (more x xs)) writable typed e h =
        let p = typed-thresh k x xs typed in
        let h_all = missed_left (all_nodes x ++ nodes_of_all xs) (thresh k (more x xs) ∷ []) h in
        let one = bytes_both _ _
        (missed_none xs writable.2.1 p.1 p.7 (missed_right (all_nodes x) (nodes_of_all xs) h_all))
        (missed_dsat x writable.2.0 p.0 p.5 (missed_left (all_nodes x) (nodes_of_all xs) h_all)) in
        (one.0, one.1, inl (inr one.2))
    missed_dsat (multi k own) writable typed e h = (replicate (k + 1) EMPTY, All-replicate IsBytes (k + 1) EMPTY empty_bytes, refl)
    missed_dsat (wrap wrapper.D x) k typed e h = (EMPTY ∷ [], one_item EMPTY empty_bytes, refl)
    missed_dsat (wrap wrapper.J x) k typed e h = (EMPTY ∷ [], one_item EMPTY empty_bytes, inl refl)
    missed_dsat (wrap wrapper.V x) k typed e h = absurd (false≢true e)
    missed_dsat (wrap letter x) k typed e h = missed_dsat x k typed.0 e (missed_left (all_nodes x) (wrap letter x ∷ []) h)
    missed_dsat tree k typed e h = absurd (false≢true e)

    -- all children of a threshold behind the first dissatisfied
    missed_none : (xs : Trees) → AreWritable xs → AreTyped xs → OthersFit xs → AreMissed (nodes_of_all xs) → HasBytes (parts s xs 0)
    missed_none none k typed fit h = ([], All-nil IsBytes, (refl, refl))
    missed_none (more x xs) k typed fit h =
        let one = bytes_both _ _
        (missed_none xs k.1 typed.1 fit.3 (missed_right (all_nodes x) (nodes_of_all xs) h))
        (missed_dsat x k.0 typed.0 fit.1 (missed_left (all_nodes x) (nodes_of_all xs) h)) in
        (one.0, one.1, inr one.2)
