-- The policy of every miniscript can be printed.
use Rattle.std.proofs.Common.{ℕ, ◌-◌, ◌<◌, ◌^◌, not, ◌||◌, List, [], ◌∷◌, ◌++◌, length, filter, flat_map, map, arith}
use Rattle.std.specs.Prelude.{All}
use Rattle.std.proofs.lemmas.List.Elements.{All-head, All-tail}
use Rattle.def_tree.specs.Tree as tree
use Rattle.def_tree.specs.Tree.{Tree, Trees, Key}
use Rattle.def_tree.specs.Range.{IsKey, IsWritable, AreWritable}
use Rattle.def_policy.specs.declared.Join.{Join}
use Rattle.def_policy.specs.declared.Join.TheVariants as join
use Rattle.def_policy.specs.Policy.{Policy, Policies, never, always, key, all, any, thresh, none, more, list_of, policies_of, joining}
use Rattle.def_policy.specs.Plain.{join_of, plain, plain_each}
use Rattle.def_policy.specs.Simple.{decisive, opened, gathered, joined, is_always, is_never, chosen, threshold, simple, simple_each}
use Rattle.def_policy.proofs.Forms.{Each}
use Rattle.def_policy.proofs.Joins.{joined_cases, chosen_cases}
use Rattle.ms_print_laws.specs.Laws.{IsPrintable, ArePrintable, PolicyIsPrintable, PoliciesApart}
use Rattle.ms_print_laws.proofs.Apart.{printed_apart}

-- ---- of a miniscript

joined_printable : (how : Join) (parts : Policies) → ArePrintable parts → IsPrintable (joining how parts)
joined_printable join.All parts h = h
joined_printable join.Any parts h = h

keys_printable : (keys : List Key) → All IsKey keys → ArePrintable (policies_of (map key keys))
keys_printable [] h = tt
keys_printable (k ∷ keys) h = ((All-head IsKey k keys h).bytes, keys_printable keys (All-tail IsKey k keys h))

mutual
  plain_printable : (t : Tree) → IsWritable t → IsPrintable (plain t)
  plain_printable tree.just_0 h = tt
  plain_printable tree.just_1 h = tt
  plain_printable (tree.pk_k k) h = h.bytes
  plain_printable (tree.pk_h k) h = h.bytes
  plain_printable (tree.older n) h = omega (arith, h)
  plain_printable (tree.after n) h = omega (arith, h)
  plain_printable (tree.hash kind value) h = h.bytes
  plain_printable (tree.and_or x y z) h = ((plain_printable x h.0, (plain_printable y h.1, tt)), (plain_printable z h.2, tt))
  plain_printable (tree.two kind x y) h =
      joined_printable (join_of kind) (more (plain x) (more (plain y) none)) (plain_printable x h.0, (plain_printable y h.1, tt))
  plain_printable (tree.thresh k xs) h = (let small = h.0 in omega (arith, small), each_printable xs h.2)
  plain_printable (tree.multi k keys) h = (let small = h.0 in omega (arith, small), keys_printable keys h.2)
  plain_printable (tree.wrap wrapper x) h = plain_printable x h

  each_printable : (ts : Trees) → AreWritable ts → ArePrintable (plain_each ts)
  each_printable tree.none h = tt
  each_printable (tree.more x xs) h = (plain_printable x h.0, each_printable xs h.1)

-- ---- made simple

these : (parts : List Policy) → Each IsPrintable parts → ArePrintable (policies_of parts)
these [] h = tt
these (x ∷ xs) h = (h.0, these xs h.1)

before : (parts : Policies) (xs : List Policy) → ArePrintable parts → Each IsPrintable xs → Each IsPrintable (list_of parts ++ xs)
before none xs h i = i
before (more x parts) xs h i = (h.0, before parts xs h.1 i)

opened_printable : (how : Join) (xs : List Policy) → Each IsPrintable xs → Each IsPrintable (flat_map (opened how) xs)
opened_printable how [] h = tt
opened_printable join.All (always ∷ xs) h = opened_printable join.All xs h.1
opened_printable join.All (all parts ∷ xs) h = before parts (flat_map (opened join.All) xs) h.0 (opened_printable join.All xs h.1)
opened_printable join.All (x ∷ xs) h = (h.0, opened_printable join.All xs h.1)
opened_printable join.Any (never ∷ xs) h = opened_printable join.Any xs h.1
opened_printable join.Any (any parts ∷ xs) h = before parts (flat_map (opened join.Any) xs) h.0 (opened_printable join.Any xs h.1)
opened_printable join.Any (x ∷ xs) h = (h.0, opened_printable join.Any xs h.1)

gathered_printable : (how : Join) (xs : List Policy) → Each IsPrintable xs → IsPrintable (gathered how xs)
gathered_printable join.All [] h = tt
gathered_printable join.Any [] h = tt
gathered_printable how (x ∷ []) h = h.0
gathered_printable how (x ∷ y ∷ xs) h = joined_printable how (policies_of (x ∷ y ∷ xs)) (these (x ∷ y ∷ xs) h)

decisive_printable : (how : Join) → IsPrintable (decisive how)
decisive_printable join.All = tt
decisive_printable join.Any = tt

parts_printable : (how : Join) (xs : List Policy) → Each IsPrintable xs → IsPrintable (joined how xs)
parts_printable how xs h =
    joined_cases IsPrintable how xs (λ e. decisive_printable how)
    (λ e. gathered_printable how (flat_map (opened how) xs) (opened_printable how xs h))

left_printable : (xs : List Policy) → Each IsPrintable xs →
    Each IsPrintable (filter (λ part. not (is_always part || is_never part)) xs)
left_printable [] h = tt
left_printable (never ∷ xs) h = left_printable xs h.1
left_printable (always ∷ xs) h = left_printable xs h.1
left_printable (x ∷ xs) h = (h.0, left_printable xs h.1)

chosen_printable : (k : ℕ) (xs : List Policy) → k < 2 ^ 64 → Each IsPrintable xs → IsPrintable (chosen k xs)
chosen_printable k xs small h =
    chosen_cases IsPrintable k xs (λ e. tt) (λ e. tt) (λ e. parts_printable join.Any xs h) (λ e. parts_printable join.All xs h) (small, these xs h)

threshold_printable : (k : ℕ) (xs : List Policy) → k < 2 ^ 64 → Each IsPrintable xs → IsPrintable (threshold k xs)
threshold_printable k xs small h =
    chosen_printable (k - length (filter is_always xs)) (filter (λ part. not (is_always part || is_never part)) xs)
    (omega (arith, small)) (left_printable xs h)

mutual
  simple_printable : (p : Policy) → IsPrintable p → IsPrintable (simple p)
  simple_printable (all parts) h = parts_printable join.All (simple_each parts) (simple_each_printable parts h)
  simple_printable (any parts) h = parts_printable join.Any (simple_each parts) (simple_each_printable parts h)
  simple_printable (thresh k parts) h = threshold_printable k (simple_each parts) h.0 (simple_each_printable parts h.1)
  simple_printable p h = h

  simple_each_printable : (parts : Policies) → ArePrintable parts → Each IsPrintable (simple_each parts)
  simple_each_printable none h = tt
  simple_each_printable (more x xs) h = (simple_printable x h.0, simple_each_printable xs h.1)

pub policy_is_printable : PolicyIsPrintable
policy_is_printable t h = simple_printable (plain t) (plain_printable t h)

pub policies_apart : PoliciesApart
policies_apart t u h i = printed_apart (simple (plain t)) (simple (plain u)) (policy_is_printable t h) (policy_is_printable u i)
