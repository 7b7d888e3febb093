-- Trees that were read, and how large they are.
use Rattle.std.proofs.Common.{◌≡◌, ℕ, ◌+◌, ◌<◌, ◌≤◌, List, [], ◌∷◌, ◌++◌, Result, Ok, Err, IfOk, refl, ap, sym, subst, arith}
use Rattle.def_tree.specs.Tree as model
use Rattle.def_tree.specs.InRange.{measure, measure_of, depth, depth_of}
use Rattle.def_tree.specs.Range.{IsWritable, AreWritable, count}
use Rattle.def_text.specs.declared.TextFault.{TextFault}
use Rattle.def_text.specs.Refusal.{MOST_WRITTEN_DEPTH}
use Rattle.def_text.specs.Scaffolding.Reader.{joined, Pair, pair_two, pair_and_n, pair_tree}
use Rattle.def_script.specs.Bytes.{Bytes}
use Rattle.ms_tree.specs.declared.tree.Tree.{Tree}
use Rattle.ms_tree.specs.declared.tree.Leaf.{Leaf}
use Rattle.ms_tree.specs.Shape.{leaf_shape, shape, shapes}
use Rattle.ms_text.specs.declared.forms.Part.{Part}
use Rattle.ms_text.specs.declared.names.LeafName.{LeafName}
use Rattle.ms_text.specs.declared.names.LeafName.TheVariants as name
use Rattle.ms_text.specs.Scaffolding.Leaves.{leaf_tree}
use Rattle.ms_text.specs.Scaffolding.Place.{IsPlace}
use Rattle.ms_text.specs.Scaffolding.Room.{IsPart}
use Rattle.ms_text.proofs.RunLemmas.{some_depth}

-- a part that may stand at any depth stands at one
pub part_at : (text : Bytes) (name d : ℕ) (r : Result Part TextFault) → IfOk r (λ p. (e : ℕ) → e < MOST_WRITTEN_DEPTH → IsPart text name e (shape p.tree) p.end) →
    d < MOST_WRITTEN_DEPTH →
    IfOk r (λ p. IsPart text name d (shape p.tree) p.end)
part_at text name d (Ok p) h l = h d l
part_at text name d (Err e) h l = tt

-- ---- one more child

pub one_more : (ts : List Tree) (x : Tree) → shapes (ts ++ x ∷ []) ≡ joined (shapes ts) (model.more (shape x) model.none)
one_more [] x = refl
one_more (t ∷ ts) x = ap (model.more (shape t)) (one_more ts x)

pub joined_count : (xs : model.Trees) (x : model.Tree) → 1 ≤ count (joined xs (model.more x model.none))
joined_count model.none x = omega arith
joined_count (model.more y ys) x = omega (arith, joined_count ys x)

pub joined_measure : (xs : model.Trees) (x : model.Tree) → measure_of (joined xs (model.more x model.none)) ≡ measure_of xs + measure x
joined_measure model.none x = omega arith
joined_measure (model.more y ys) x = omega (arith, joined_measure ys x)

pub joined_depth : (xs : model.Trees) (x : model.Tree) (n m : ℕ) → depth_of xs + n ≤ m → depth x + n ≤ m → depth_of (joined xs (model.more x model.none)) + n ≤ m
joined_depth model.none x n m h k = omega (arith, h, k)
joined_depth (model.more y ys) x n m h k = omega (arith, h, joined_depth ys x n m (omega (arith, h)) k)

pub joined_writable : (xs : model.Trees) (x : model.Tree) → AreWritable xs → IsWritable x → AreWritable (joined xs (model.more x model.none))
joined_writable model.none x h k = (k, tt)
joined_writable (model.more y ys) x h k = (h.0, joined_writable ys x h.1 k)

-- ---- a fragment of one word

leaf_measure : (v : Leaf) → measure (leaf_shape v) ≡ 1
leaf_measure v = grind arith

leaf_depth : (v : Leaf) → depth (leaf_shape v) ≡ 1
leaf_depth v = grind arith

-- it is its leaf, or a wrapper on it
record IsSmall (x y : model.Tree) : Type 0 where
  pub measure : measure y ≤ measure x + 1
  pub depth : depth y ≤ depth x + 1
  pub writable : IsWritable x → IsWritable y

same_small : (x : model.Tree) → IsSmall x x
same_small x = record { measure = omega arith; depth = omega arith; writable = λ h. h }

leaf_small : (n : LeafName) (v : Leaf) → IsSmall (leaf_shape v) (leaf_tree n v)
leaf_small name.Pk v = record { measure = omega arith; depth = omega arith; writable = λ h. h }
leaf_small name.Pkh v = record { measure = omega arith; depth = omega arith; writable = λ h. h }
leaf_small n v = same_small (leaf_shape v)

pub leaf_part : (text : Bytes) (from at end : ℕ) (n : LeafName) (v : Leaf) (t : model.Tree) → t ≡ leaf_tree n v
    → from < at → at + 2 ≤ end → IsPlace text end → IsWritable (leaf_shape v)
    → (d : ℕ) → d < MOST_WRITTEN_DEPTH → IsPart text from d t end
leaf_part text from at end n v t is l m place writable d h =
    let s = leaf_small n v in
    subst (λ x. IsPart text from d x end) (sym is) (record {
      after = omega (arith, l, m);
      place = place;
      measure = omega (arith, s.measure, leaf_measure v, l, m);
      depth = omega (arith, s.depth, leaf_depth v, h);
      writable = s.writable writable;
    })

-- ---- a form whose children are read, of trees that stand behind one another

module _ (text : Bytes) (from d : ℕ) (r : Result Part TextFault) where
  -- what is known of a part makes it one that was read from this place
  pub part_with : (P Q R : Part → Type 0) → IfOk r P → IfOk r Q → IfOk r R
      → ((p : Part) → P p → Q p → R p → IsPart text from d (shape p.tree) p.end) → IfOk r (λ p. IsPart text from d (shape p.tree) p.end)
  part_with P Q R a b c f = by_result r a b c
    where
      by_result : (q : Result Part TextFault) → IfOk q P → IfOk q Q → IfOk q R → IfOk q (λ p. IsPart text from d (shape p.tree) p.end)
      by_result (Ok p) a b c = f p a b c
      by_result (Err e) a b c = tt

pub and_or_part : (text : Bytes) (from at i j k d end : ℕ) (x y z t : model.Tree) → t ≡ model.and_or x y z → end ≡ k + 1 → IsPlace text end → from < at
    → IsPart text (at + 1) (d + 1) x i → IsPart text (i + 1) (d + 1) y j → IsPart text (j + 1) (d + 1) z k → IsPart text from d t end
and_or_part text from at i j k d end x y z t is ends place l a b c =
    subst (λ u. IsPart text from d u end) (sym is) (record {
      after = omega (arith, l, ends, a.after, b.after, c.after);
      place = place;
      measure = omega (arith, l, ends, a.measure, b.measure, c.measure);
      depth = omega (arith, a.depth, b.depth, c.depth);
      writable = (a.writable, b.writable, c.writable);
    })

pub pair_part : (text : Bytes) (from at i j d end : ℕ) (pair : Pair) (x y t : model.Tree) → t ≡ pair_tree pair x y → end ≡ j + 1 → IsPlace text end → from < at
    → IsPart text (at + 1) (d + 1) x i → IsPart text (i + 1) (d + 1) y j → IsPart text from d t end
pair_part text from at i j d end pair x y t is ends place l a b = subst (λ u. IsPart text from d u end) (sym is) (by_pair pair)
  where
    by_pair : (p : Pair) → IsPart text from d (pair_tree p x y) end
    by_pair (pair_two kind) = record {
      after = omega (arith, l, ends, a.after, b.after);
      place = place;
      measure = omega (arith, l, ends, a.measure, b.measure);
      depth = omega (arith, a.depth, b.depth);
      writable = (a.writable, b.writable);
    }
    by_pair pair_and_n = record {
      after = omega (arith, l, ends, a.after, b.after);
      place = place;
      measure = omega (arith, l, ends, a.measure, b.measure);
      depth = omega (arith, some_depth x, a.depth, b.depth);
      writable = (a.writable, b.writable, tt);
    }
