-- The entries of a tree's nodes, and of trees in a row.
use Rattle.std.proofs.Common.{◌≡◌, ℕ, suc, ◌+◌, ◌-◌, ◌≤◌, List, [], ◌∷◌, ◌++◌, length, get_or, take, drop, refl, sym, ◌∙◌, ap, subst, arith, length-append, length-drop, append_assoc}
use Rattle.std.proofs.lemmas.List.{append-nil}
use lib.Seq.{take_all}
use Rattle.def_tree.specs.Tree.{Tree, just_0, just_1, pk_k, pk_h, older, after, hash, and_or, two, thresh, multi, wrap}
use Rattle.def_tree.specs.Size.{nodes}
use Rattle.def_assets.specs.Assets.{Assets}
use Rattle.def_tree.specs.Nodes.{all_nodes}
use Rattle.def_tree.proofs.NodeLists.{nodes_are_all}
use Rattle.def_choice.specs.declared.choice.Choice.{Choice as Rule}
use Rattle.ms_chosen.specs.declared.table.Entry.{Entry}
use Rattle.ms_chosen.specs.Scaffolding.Table.{IsEntry, AreEntries, Adds, below}

-- the root stands behind the nodes below it
pub root_last : (t : Tree) → all_nodes t ≡ below t ++ t ∷ []
root_last just_0 = refl
root_last just_1 = refl
root_last (pk_k key) = refl
root_last (pk_h key) = refl
root_last (older n) = refl
root_last (after n) = refl
root_last (hash kind value) = refl
root_last (and_or x y z) = refl
root_last (two kind x z) = refl
root_last (thresh k xs) = refl
root_last (multi k keys) = refl
root_last (wrap wrapper x) = refl

module _ (rule : Rule) (assets : Assets) where
  pub entries_append : (ts us : List Tree) (es fs : List Entry) → AreEntries rule assets ts es → AreEntries rule assets us fs → AreEntries rule assets (ts ++ us) (es ++ fs)
  entries_append [] us [] fs h k = k
  entries_append [] us (e ∷ es) fs h k = absurd h
  entries_append (t ∷ ts) us [] fs h k = absurd h
  entries_append (t ∷ ts) us (e ∷ es) fs h k = (h.0, entries_append ts us es fs h.1 k)

  pub entries_length : (ts : List Tree) (es : List Entry) → AreEntries rule assets ts es → length es ≡ length ts
  entries_length [] [] h = refl
  entries_length [] (e ∷ es) h = absurd h
  entries_length (t ∷ ts) [] h = absurd h
  entries_length (t ∷ ts) (e ∷ es) h = ap suc (entries_length ts es h.1)

  pub entries_front : (ts us : List Tree) (es : List Entry) → AreEntries rule assets (ts ++ us) es → AreEntries rule assets ts (take (length ts) es)
  entries_front [] us es h = tt
  entries_front (t ∷ ts) us [] h = absurd h
  entries_front (t ∷ ts) us (e ∷ es) h = (h.0, entries_front ts us es h.1)

  pub entries_back : (ts us : List Tree) (es : List Entry) → AreEntries rule assets (ts ++ us) es → AreEntries rule assets us (drop (length ts) es)
  entries_back [] us es h = h
  entries_back (t ∷ ts) us [] h = absurd h
  entries_back (t ∷ ts) us (e ∷ es) h = entries_back ts us es h.1

  entry_behind : (ts : List Tree) (t : Tree) (es : List Entry) (d : Entry) → AreEntries rule assets (ts ++ t ∷ []) es → IsEntry rule assets t (get_or es (length ts) d)
  entry_behind [] t [] d h = absurd h
  entry_behind [] t (e ∷ es) d h = h.0
  entry_behind (s ∷ ts) t [] d h = absurd h
  entry_behind (s ∷ ts) t (e ∷ es) d h = entry_behind ts t es d h.1

  -- behind the entries of other nodes those of a tree end with its own
  pub entries_root : (ts : List Tree) (t : Tree) (es : List Entry) → AreEntries rule assets (ts ++ all_nodes t) es → AreEntries rule assets ((ts ++ below t) ++ t ∷ []) es
  entries_root ts t es h =
      subst (λ us. AreEntries rule assets us es) (ap (λ us. ts ++ us) (root_last t) ∙ sym (append_assoc ts (below t) (t ∷ []))) h

  pub some_entries : (ts : List Tree) (t : Tree) (es : List Entry) → AreEntries rule assets (ts ++ all_nodes t) es → length es ≡ length (ts ++ below t) + 1
  some_entries ts t es h =
      let l = entries_length ((ts ++ below t) ++ t ∷ []) es (entries_root ts t es h) in
      omega (arith, l, length-append (ts ++ below t) (t ∷ []))

  pub last_entry : (ts : List Tree) (t : Tree) (es : List Entry) (d : Entry) → AreEntries rule assets (ts ++ all_nodes t) es → IsEntry rule assets t (get_or es (length es - 1) d)
  last_entry ts t es d h =
      let l = some_entries ts t es h in
      let is : length (ts ++ below t) ≡ length es - 1 = omega (arith, l) in
      subst (λ n. IsEntry rule assets t (get_or es n d)) is (entry_behind (ts ++ below t) t es d (entries_root ts t es h))

  pub entries_below : (t : Tree) (es : List Entry) → AreEntries rule assets (all_nodes t) es → AreEntries rule assets (below t) (take (length es - 1) es)
  entries_below t es h =
      let l = some_entries [] t es h in
      let is : length (below t) ≡ length es - 1 = omega (arith, l) in
      subst (λ n. AreEntries rule assets (below t) (take n es)) is (entries_front (below t) (t ∷ []) es (entries_root [] t es h))

  -- how many entries stand before those of the last tree
  pub entries_before : (ts : List Tree) (t : Tree) (es : List Entry) (n : ℕ) → AreEntries rule assets (ts ++ all_nodes t) es → n ≡ nodes t → length es ≡ length ts + n
  entries_before ts t es n h is =
      let l = entries_length (ts ++ all_nodes t) es h in
      omega (arith, l, is, nodes_are_all t, length-append ts (all_nodes t))

  pub last_fits : (ts : List Tree) (t : Tree) (es : List Entry) (d : Entry) → AreEntries rule assets (ts ++ all_nodes t) es → (get_or es (length es - 1) d).nodes ≤ length es
  last_fits ts t es d h =
      let l = entries_before ts t es (get_or es (length es - 1) d).nodes h (last_entry ts t es d h).nodes in
      omega (arith, l)

  pub split_front : (ts : List Tree) (t : Tree) (es : List Entry) (n : ℕ) → AreEntries rule assets (ts ++ all_nodes t) es → n ≡ nodes t → AreEntries rule assets ts (take (length es - n) es)
  split_front ts t es n h is =
      let l = entries_before ts t es n h is in
      let at : length ts ≡ length es - n = omega (arith, l) in
      subst (λ m. AreEntries rule assets ts (take m es)) at (entries_front ts (all_nodes t) es h)

  pub split_back : (ts : List Tree) (t : Tree) (es : List Entry) (n : ℕ) → AreEntries rule assets (ts ++ all_nodes t) es → n ≡ nodes t → AreEntries rule assets (all_nodes t) (drop (length es - n) es)
  split_back ts t es n h is =
      let l = entries_before ts t es n h is in
      let at : length ts ≡ length es - n = omega (arith, l) in
      subst (λ m. AreEntries rule assets (all_nodes t) (drop m es)) at (entries_back ts (all_nodes t) es h)

  -- ---- what was added

  pub adds_none : (es : List Entry) → Adds rule assets [] es es
  adds_none es = record { added = []; behind = sym (append-nil es); entries = tt }

  pub adds_both : (ts us : List Tree) (es fs gs : List Entry) → Adds rule assets ts es fs → Adds rule assets us fs gs → Adds rule assets (ts ++ us) es gs
  adds_both ts us es fs gs a b = record {
    added = a.added ++ b.added;
    behind = b.behind ∙ ap (λ l. l ++ b.added) a.behind ∙ append_assoc es a.added b.added;
    entries = entries_append ts us a.added b.added a.entries b.entries;
  }

  -- the entries that were added since the table was so long
  pub added_since : (ts : List Tree) (es fs : List Entry) (n : ℕ) → Adds rule assets ts es fs → n ≡ length es → AreEntries rule assets ts (drop n fs)
  added_since ts es fs n a is =
      subst (AreEntries rule assets ts) (sym (go es a.added) ∙ ap (λ l. drop (length es) l) (sym a.behind) ∙ ap (λ m. drop m fs) (sym is)) a.entries
    where
      go : (xs ys : List Entry) → drop (length xs) (xs ++ ys) ≡ ys
      go [] ys = refl
      go (x ∷ xs) ys = go xs ys

  pub added_length : (ts : List Tree) (es fs : List Entry) → Adds rule assets ts es fs → length fs ≡ length es + length ts
  added_length ts es fs a =
      let l = entries_length ts a.added a.entries in
      omega (arith, ap length a.behind, length-append es a.added, l)

  -- the same of a slice of the table
  pub added_slice : (ts : List Tree) (es fs slice : List Entry) (n : ℕ) → Adds rule assets ts es fs → slice ≡ fs → n ≡ length es → AreEntries rule assets ts (take (length slice - n) (drop n slice))
  added_slice ts es fs slice n a same is =
      let whole : take (length slice - n) (drop n slice) ≡ drop n slice = take_all (length slice - n) (drop n slice) (omega (arith, length-drop n slice)) in
      subst (AreEntries rule assets ts) (sym whole) (subst (λ l. AreEntries rule assets ts (drop n l)) (sym same) (added_since ts es fs n a is))

  -- a node more
  pub adds_entry : (ts : List Tree) (t : Tree) (es fs gs : List Entry) (e : Entry) → Adds rule assets ts es fs → gs ≡ fs ++ e ∷ [] → IsEntry rule assets t e → Adds rule assets (ts ++ t ∷ []) es gs
  adds_entry ts t es fs gs e a is h = adds_both ts (t ∷ []) es fs gs a (record { added = e ∷ []; behind = is; entries = (h, tt) })
