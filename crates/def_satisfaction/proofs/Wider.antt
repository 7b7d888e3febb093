-- Where more counts, more stacks satisfy and dissatisfy a miniscript.
use Rattle.std.proofs.Common.{ℕ, List, [], ◌∷◌, reverse, inl, inr, IsTrue}
use Rattle.def_hash.specs.declared.HashKind.{HashKind}
use Rattle.def_script.specs.Bytes.{Bytes}
use Rattle.def_machine.specs.Stacks.{Stack}
use Rattle.def_machine.specs.MultiSig.{is_good}
use Rattle.def_machine.specs.Locks.{older_holds, after_holds}
use Rattle.def_tree.specs.declared.Two.{Two}
use Rattle.def_tree.specs.declared.Two.TheVariants as kind
use Rattle.def_tree.specs.declared.Wrapper.TheVariants as wrapper
use Rattle.def_tree.specs.Tree.{Tree, Trees, Key, pk_k, pk_h, older, after, hash, and_or, two, thresh, multi, wrap, none, more}
use Rattle.def_satisfaction.specs.StackSet.{StackSet, Is, Both, Either}
use Rattle.def_satisfaction.specs.Setting.{Setting, CountsAsPreimage, CountsAsKey}
use Rattle.def_satisfaction.specs.Rows.{Row, NotCanonical, Signature, PartsOf, AreSignatures, pk_h_row, hash_row, thresh_row, multi_row, row, parts}

-- all stacks of P are stacks of Q
abbrev pub Within : StackSet → StackSet → Type 0
Within P Q = (stack : Stack) → P stack → Q stack

pub record IsWithin (x y : Row) : Type 0 where
  pub dsat : Within x.dsat y.dsat
  pub sat : Within x.sat y.sat

-- what counts in the setting s counts in t
pub record IsWider (s t : Setting) : Type 0 where
  pub signatures : (key sig : Bytes) → IsTrue (is_good s.given.checker key sig) → IsTrue (is_good t.given.checker key sig)
  pub older : (n : ℕ) → IsTrue (older_holds n s.given.locks) → IsTrue (older_holds n t.given.locks)
  pub after : (n : ℕ) → IsTrue (after_holds n s.given.locks) → IsTrue (after_holds n t.given.locks)
  pub preimages : (kind : HashKind) (value preimage : Bytes) → CountsAsPreimage s.mode kind value preimage → CountsAsPreimage t.mode kind value preimage
  pub keys : (key other : Key) → CountsAsKey s.mode key other → CountsAsKey t.mode key other
  pub rows : IsTrue s.all_rows → IsTrue t.all_rows

pub both_within : (P P' Q Q' : StackSet) → Within P P' → Within Q Q' → Within (Both P Q) (Both P' Q')
both_within P P' Q Q' p q stack h = (h.0, h.1, p h.0 h.2, q h.1 h.3, h.4)

pub either_within : (P P' Q Q' : StackSet) → Within P P' → Within Q Q' → Within (Either P Q) (Either P' Q')
either_within P P' Q Q' p q stack (inl h) = inl (p stack h)
either_within P P' Q Q' p q stack (inr h) = inr (q stack h)

pub same : (P : StackSet) → Within P P
same P stack h = h

pub parts_of_within : (x y : Row) (P Q : ℕ → StackSet) → IsWithin x y → ((n : ℕ) → Within (P n) (Q n)) → (n : ℕ) → Within (PartsOf x P n) (PartsOf y Q n)
parts_of_within x y P Q i j n stack (inl h) = inl (h.0, h.1, both_within (P h.0) (Q h.0) x.sat y.sat (j h.0) i.sat stack h.2)
parts_of_within x y P Q i j n stack (inr h) = inr (both_within (P n) (Q n) x.dsat y.dsat (j n) i.dsat stack h)

module _ (s t : Setting) (wider : IsWider s t) where
  extra_within : (P P' : StackSet) → Within P P' → Within (NotCanonical s P) (NotCanonical t P')
  extra_within P P' p stack h = (wider.rows h.0, p stack h.1)

  signature_within : (key : Key) → Within (Signature s key) (Signature t key)
  signature_within key stack h = (h.0, wider.signatures key h.0 h.1, h.2)

  are_signatures_within : (keys : List Key) (sigs : Stack) → AreSignatures s.given.checker keys sigs → AreSignatures t.given.checker keys sigs
  are_signatures_within keys [] h = h
  are_signatures_within [] (sig ∷ sigs) h = h
  are_signatures_within (key ∷ keys) (sig ∷ sigs) (inl h) = inl (wider.signatures key sig h.0, are_signatures_within keys sigs h.1)
  are_signatures_within (key ∷ keys) (sig ∷ sigs) (inr h) = inr (are_signatures_within keys (sig ∷ sigs) h)

  pk_h_within : (key : Key) → IsWithin (pk_h_row s key) (pk_h_row t key)
  pk_h_within key = record {
    dsat = λ stack h. (h.0, h.1, h.2, wider.keys key h.0 h.3, h.4);
    sat = λ stack h. (h.0, h.1, h.2, wider.keys key h.0 h.3, both_within (Signature s h.0) (Signature t h.0) (Is h.0) (Is h.0) (signature_within h.0) (same (Is h.0)) stack h.4);
  }

  hash_within : (kind : HashKind) (value : Bytes) → IsWithin (hash_row s kind value) (hash_row t kind value)
  hash_within kind value = record {
    dsat = either_within _ _ _ _ (same _) (extra_within _ _ (same _));
    sat = λ stack h. (h.0, (h.1.0, wider.preimages kind value h.0 h.1.1), h.2);
  }

  multi_within : (k : ℕ) (keys : List Key) → IsWithin (multi_row s k keys) (multi_row t k keys)
  multi_within k keys = record {
    dsat = same _;
    sat = both_within _ _ _ _ (same _) (λ sigs h. (h.0, are_signatures_within (reverse keys) sigs h.1));
  }

  thresh_within : (k : ℕ) (P Q : ℕ → StackSet) → ((n : ℕ) → Within (P n) (Q n)) → IsWithin (thresh_row s k P) (thresh_row t k Q)
  thresh_within k P Q j = record {
    dsat = either_within _ _ _ _ (j 0) (extra_within _ _ (λ stack h. (h.0, h.1, h.2, j h.0 stack h.3)));
    sat = j k;
  }

  two_within : (which : Two) (x y : Tree) → IsWithin (row s x) (row t x) → IsWithin (row s y) (row t y) → IsWithin (row s (two which x y)) (row t (two which x y))
  two_within kind.AndV x y i j = record { dsat = extra_within _ _ (both_within _ _ _ _ j.dsat i.sat); sat = both_within _ _ _ _ j.sat i.sat }
  two_within kind.AndB x y i j = record {
    dsat = either_within _ _ _ _ (both_within _ _ _ _ j.dsat i.dsat) (extra_within _ _ (either_within _ _ _ _ (both_within _ _ _ _ j.sat i.dsat) (both_within _ _ _ _ j.dsat i.sat)));
    sat = both_within _ _ _ _ j.sat i.sat;
  }
  two_within kind.OrB x z i k = record {
    dsat = both_within _ _ _ _ k.dsat i.dsat;
    sat = either_within _ _ _ _ (both_within _ _ _ _ k.dsat i.sat) (either_within _ _ _ _ (both_within _ _ _ _ k.sat i.dsat) (extra_within _ _ (both_within _ _ _ _ k.sat i.sat)));
  }
  two_within kind.OrC x z i k = record { dsat = same _; sat = either_within _ _ _ _ i.sat (both_within _ _ _ _ k.sat i.dsat) }
  two_within kind.OrD x z i k = record { dsat = both_within _ _ _ _ k.dsat i.dsat; sat = either_within _ _ _ _ i.sat (both_within _ _ _ _ k.sat i.dsat) }
  two_within kind.OrI x z i k = record {
    dsat = either_within _ _ _ _ (both_within _ _ _ _ i.dsat (same _)) (both_within _ _ _ _ k.dsat (same _));
    sat = either_within _ _ _ _ (both_within _ _ _ _ i.sat (same _)) (both_within _ _ _ _ k.sat (same _));
  }

  mutual
    pub row_within : (tree : Tree) → IsWithin (row s tree) (row t tree)
    row_within (pk_k key) = record { dsat = same _; sat = signature_within key }
    row_within (pk_h key) = pk_h_within key
    row_within (older n) = record { dsat = same _; sat = λ stack h. (wider.older n h.0, h.1) }
    row_within (after n) = record { dsat = same _; sat = λ stack h. (wider.after n h.0, h.1) }
    row_within (hash kind value) = hash_within kind value
    row_within (and_or x y z) =
        let i = row_within x in
        let j = row_within y in
        let k = row_within z in
        record {
          dsat = either_within _ _ _ _ (both_within _ _ _ _ k.dsat i.dsat) (extra_within _ _ (both_within _ _ _ _ j.dsat i.sat));
          sat = either_within _ _ _ _ (both_within _ _ _ _ j.sat i.sat) (both_within _ _ _ _ k.sat i.dsat);
        }
    row_within (two which x y) = two_within which x y (row_within x) (row_within y)
    row_within (thresh k xs) = thresh_within k _ _ (parts_within xs)
    row_within (multi k keys) = multi_within k keys
    row_within (wrap wrapper.D x) = let i = row_within x in record { dsat = same _; sat = both_within _ _ _ _ i.sat (same _) }
    row_within (wrap wrapper.V x) = let i = row_within x in record { dsat = same _; sat = i.sat }
    row_within (wrap wrapper.J x) =
        let i = row_within x in
        record { dsat = either_within _ _ _ _ (same _) (extra_within _ _ (λ stack h. (h.0, i.dsat stack h.1))); sat = i.sat }
    row_within (wrap letter x) = row_within x
    row_within tree = record { dsat = same _; sat = same _ }

    pub parts_within : (xs : Trees) (n : ℕ) → Within (parts s xs n) (parts t xs n)
    parts_within none n = same _
    parts_within (more x xs) n = parts_of_within _ _ _ _ (row_within x) (parts_within xs) n
