-- A walk over a miniscript and a stack. What a fragment does with the top of the stack decides how it is satisfied or
-- dissatisfied, so nothing is searched for. The top stands first.
use Rattle.std.specs.Prelude.{ℕ, suc, ◌+◌, ◌==◌, ◌&&◌, not, Bool, true, false, List, [], ◌∷◌, ◌++◌, length, reverse, take, drop, Option, Some, None, if◌then◌else◌}
use Rattle.std.specs.List.{list_all}
use Rattle.std.specs.Str.{bytes_eq}
use Rattle.def_hash.specs.declared.HashKind.{HashKind}
use Rattle.def_hash.specs.Hash.{digest_of, hash160}
use Rattle.def_script.specs.Bytes.{Bytes}
use Rattle.def_machine.specs.Stacks.{Stack, Checker, is_empty}
use Rattle.def_script.specs.Key.{is_key}
use Rattle.def_machine.specs.Locks.{older_holds, after_holds}
use Rattle.def_machine.specs.Machine.{Given}
use Rattle.def_machine.specs.MultiSig.{is_good}
use Rattle.def_tree.specs.declared.Two.TheVariants as kind
use Rattle.def_tree.specs.declared.Wrapper.TheVariants as wrapper
use Rattle.def_tree.specs.Size.{nodes, nodes_of}
use Rattle.def_tree.specs.Tree.{Tree, Trees, Key, just_0, just_1, pk_k, pk_h, older, after, hash, and_or, two, thresh, multi, wrap, none, more}
use Rattle.def_satisfaction.specs.Rows.{ONE, ZEROS}
use Rattle.def_audit.specs.declared.Step.{Step}

-- what a walk over a node finds: whether the node is satisfied, its steps, and the stack below
pub record Found : Type 0 where
  pub sat : Bool
  pub steps : List Step
  pub rest : Stack

abbrev pub Walker : Type 0
Walker = Stack → Option Found

-- whether a node is satisfied, and whether by a row that isn't canonical; none where no row takes the stack
abbrev pub Verdict : Type 0
Verdict = Option (Bool × Bool)

-- the node's own step behind those of its children
abbrev pub with_step : (node : ℕ) → Verdict → List Step → Stack → Option Found
with_step node None steps rest = None
with_step node (Some v) steps rest =
    Some (record { sat = v.0; steps = steps ++ record { node = node; sat = v.0; extra = v.1 } ∷ []; rest = rest })

-- what follows where something was found
abbrev pub next : {A : Type 0} → Option A → (A → Option Found) → Option Found
next None go = None
next (Some found) go = go found

-- what follows a child: nothing more, or another child
pub data Next : Type 0 where
  ends : Verdict → Next
  goes : Walker → (Bool → Verdict) → Next

abbrev pub go_on : (node : ℕ) → Next → Found → Option Found
go_on node (ends verdict) first = with_step node verdict first.steps first.rest
go_on node (goes walker verdict) first =
    next (walker first.rest) (λ second. with_step node (verdict second.sat) (first.steps ++ second.steps) second.rest)

-- a child, and what follows it
abbrev pub walk_child : (node : ℕ) → Walker → (Bool → Next) → Walker
walk_child node walker follow stack = next (walker stack) (λ first. go_on node (follow first.sat) first)

-- a signature that is good, or empty
abbrev pub sig_verdict : (good empty : Bool) → Verdict
sig_verdict true empty = Some (true, false)
sig_verdict false true = Some (false, false)
sig_verdict false false = None

-- `pk_k(key)`
abbrev pub walk_pk_k : Given → (node : ℕ) → Key → Walker
walk_pk_k given node key [] = None
walk_pk_k given node key (top ∷ rest) = with_step node (sig_verdict (is_good given.checker key top) (is_empty top)) [] rest

-- a key with the hash, which may be the fragment's own
abbrev pub key_verdict : (fits own good empty : Bool) → Verdict
key_verdict false own good empty = None
key_verdict true own true empty = Some (true, not own)
key_verdict true own false true = Some (false, not own)
key_verdict true own false false = None

-- `pk_h(key)`
abbrev pub walk_pk_h : Given → (node : ℕ) → Key → Walker
walk_pk_h given node key [] = None
walk_pk_h given node key (other ∷ []) = None
walk_pk_h given node key (other ∷ sig ∷ rest) =
    with_step node
    (key_verdict (is_key other && bytes_eq (hash160 other) (hash160 key)) (bytes_eq other key) (is_good given.checker other sig) (is_empty sig)) []
    rest

-- what has no dissatisfaction
abbrev pub forced : Bool → Verdict
forced true = Some (true, false)
forced false = None

-- 32 bytes that hash to the value or don't
abbrev pub hash_verdict : (long met zeros : Bool) → Verdict
hash_verdict false met zeros = None
hash_verdict true true zeros = Some (true, false)
hash_verdict true false zeros = Some (false, not zeros)

-- `sha256(value)`, `hash256(value)`, `ripemd160(value)` and `hash160(value)`
abbrev pub walk_hash : (node : ℕ) → HashKind → Bytes → Walker
walk_hash node kind value [] = None
walk_hash node kind value (top ∷ rest) =
    with_step node (hash_verdict (length top == 32) (bytes_eq (digest_of kind top) value) (bytes_eq top ZEROS)) [] rest

-- each signature is that of the first key left that takes it
abbrev pub are_found : Checker → List Key → List Bytes → Bool
are_found checker keys [] = true
are_found checker [] (sig ∷ sigs) = false
are_found checker (key ∷ keys) (sig ∷ sigs) =
    if is_good checker key sig then are_found checker keys sigs else are_found checker keys (sig ∷ sigs)

abbrev pub multi_verdict : (dummy found empty : Bool) → Verdict
multi_verdict false found empty = None
multi_verdict true true empty = Some (true, false)
multi_verdict true false true = Some (false, false)
multi_verdict true false false = None

-- `multi(k,key1,..,keyn)`, from the signatures and what is below them
abbrev pub walk_multi_off : Given → (node : ℕ) → List Key → (sigs : Stack) → Walker
walk_multi_off given node keys sigs [] = None
walk_multi_off given node keys sigs (dummy ∷ rest) =
    with_step node (multi_verdict (is_empty dummy) (are_found given.checker (reverse keys) sigs) (list_all is_empty sigs)) [] rest

abbrev pub walk_multi : Given → (node : ℕ) → (k : ℕ) → List Key → Walker
walk_multi given node k keys stack = walk_multi_off given node keys (take k stack) (drop k stack)

-- as many children satisfied as there must be, or none
abbrev pub count_verdict : (met no_child : Bool) → Verdict
count_verdict true no_child = Some (true, false)
count_verdict false no_child = Some (false, not no_child)

-- the children of a threshold: how many are satisfied, the steps, and the stack below
pub record Counted : Type 0 where
  pub count : ℕ
  pub steps : List Step
  pub rest : Stack

abbrev pub count_behind : Found → Option Counted → Option Counted
count_behind first None = None
count_behind first (Some others) =
    Some (record { count = if first.sat then suc others.count else others.count; steps = first.steps ++ others.steps; rest = others.rest })

abbrev pub count_on : (others : Stack → Option Counted) → Option Found → Option Counted
count_on others None = None
count_on others (Some first) = count_behind first (others first.rest)

abbrev pub count_child : Walker → (others : Stack → Option Counted) → Stack → Option Counted
count_child first others stack = count_on others (first stack)

-- a selector: the byte 1 is for the first child, and the empty string for the other
abbrev pub selected : (one empty : Bool) → {A : Type 0} → A → A → A → A
selected true empty first other neither = first
selected false true first other neither = other
selected false false first other neither = neither

-- a child below a selector
abbrev pub by_selector : (first other : Walker) → Walker
by_selector first other [] = None
by_selector first other (top ∷ rest) = selected (bytes_eq top ONE) (is_empty top) (first rest) (other rest) None

-- a child whose verdict is its parent's, by a canonical row
abbrev pub passed : Bool → Next
passed sat = ends (Some (sat, false))

-- an empty top, or a child
abbrev pub unless_empty : (node : ℕ) → Walker → Walker
unless_empty node walker [] = None
unless_empty node walker (top ∷ rest) =
    if is_empty top then with_step node (Some (false, false)) [] rest else walker (top ∷ rest)

-- `thresh(k,X1,..,Xn)`, from its children
abbrev pub walk_thresh : (node : ℕ) → (k : ℕ) → (Stack → Option Counted) → Walker
walk_thresh node k children stack =
    next (children stack) (λ c. with_step node (count_verdict (c.count == k) (c.count == 0)) c.steps c.rest)

-- what follows the first child of `andor(X,Y,Z)`
abbrev pub after_and_or : (y z : Walker) → Bool → Next
after_and_or y z true = goes y (λ sat. Some (sat, not sat))
after_and_or y z false = goes z (λ sat. Some (sat, false))

-- of `and_v(X,Y)`
abbrev pub after_and_v : (y : Walker) → Bool → Next
after_and_v y true = goes y (λ sat. Some (sat, not sat))
after_and_v y false = ends None

-- of `and_b(X,Y)`
abbrev pub after_and_b : (y : Walker) → Bool → Next
after_and_b y true = goes y (λ sat. Some (sat, not sat))
after_and_b y false = goes y (λ sat. Some (false, sat))

-- of `or_b(X,Z)`
abbrev pub after_or_b : (z : Walker) → Bool → Next
after_or_b z true = goes z (λ sat. Some (true, sat))
after_or_b z false = goes z (λ sat. Some (sat, false))

-- of `or_c(X,Z)`
abbrev pub after_or_c : (z : Walker) → Bool → Next
after_or_c z true = ends (Some (true, false))
after_or_c z false = goes z forced

-- of `or_d(X,Z)`
abbrev pub after_or_d : (z : Walker) → Bool → Next
after_or_d z true = ends (Some (true, false))
after_or_d z false = goes z (λ sat. Some (sat, false))

-- the walk over each fragment, whose nodes have the numbers from `first` on
abbrev mutual
  pub walk : Given → (first : ℕ) → Tree → Walker
  walk given first just_0 = with_step first (Some (false, false)) []
  walk given first just_1 = with_step first (Some (true, false)) []
  walk given first (pk_k key) = walk_pk_k given first key
  walk given first (pk_h key) = walk_pk_h given first key
  walk given first (older n) = with_step first (forced (older_holds n given.locks)) []
  walk given first (after n) = with_step first (forced (after_holds n given.locks)) []
  walk given first (hash kind value) = walk_hash first kind value
  walk given first (and_or x y z) =
      walk_child (first + nodes x + nodes y + nodes z) (walk given first x)
      (after_and_or (walk given (first + nodes x) y) (walk given (first + nodes x + nodes y) z))
  walk given first (two kind.AndV x y) = walk_child (first + nodes x + nodes y) (walk given first x) (after_and_v (walk given (first + nodes x) y))
  walk given first (two kind.AndB x y) = walk_child (first + nodes x + nodes y) (walk given first x) (after_and_b (walk given (first + nodes x) y))
  walk given first (two kind.OrB x z) = walk_child (first + nodes x + nodes z) (walk given first x) (after_or_b (walk given (first + nodes x) z))
  walk given first (two kind.OrC x z) = walk_child (first + nodes x + nodes z) (walk given first x) (after_or_c (walk given (first + nodes x) z))
  walk given first (two kind.OrD x z) = walk_child (first + nodes x + nodes z) (walk given first x) (after_or_d (walk given (first + nodes x) z))
  walk given first (two kind.OrI x z) =
      by_selector (walk_child (first + nodes x + nodes z) (walk given first x) passed)
      (walk_child (first + nodes x + nodes z) (walk given (first + nodes x) z) passed)
  walk given first (thresh k xs) = walk_thresh (first + nodes_of xs) k (walk_all given first xs)
  walk given first (multi k keys) = walk_multi given first k keys
  walk given first (wrap wrapper.A x) = walk_child (first + nodes x) (walk given first x) passed
  walk given first (wrap wrapper.S x) = walk_child (first + nodes x) (walk given first x) passed
  walk given first (wrap wrapper.C x) = walk_child (first + nodes x) (walk given first x) passed
  walk given first (wrap wrapper.D x) =
      by_selector (walk_child (first + nodes x) (walk given first x) (λ sat. ends (forced sat)))
      (with_step (first + nodes x) (Some (false, false)) [])
  walk given first (wrap wrapper.V x) = walk_child (first + nodes x) (walk given first x) (λ sat. ends (forced sat))
  walk given first (wrap wrapper.J x) =
      unless_empty (first + nodes x) (walk_child (first + nodes x) (walk given first x) (λ sat. ends (Some (sat, not sat))))
  walk given first (wrap wrapper.N x) = walk_child (first + nodes x) (walk given first x) passed

  pub walk_all : Given → (first : ℕ) → Trees → Stack → Option Counted
  walk_all given first none stack = Some (record { count = 0; steps = []; rest = stack })
  walk_all given first (more x xs) stack = count_child (walk given first x) (walk_all given (first + nodes x) xs) stack

-- nothing is left
abbrev pub is_taken : Stack → Bool
is_taken [] = true
is_taken (item ∷ stack) = false

-- the whole stack is taken, and the root is satisfied
abbrev pub whole : Option Found → Option (List Step)
whole None = None
whole (Some found) = if found.sat && is_taken found.rest then Some found.steps else None

-- the steps of a satisfaction, bottom first, if it is one
abbrev pub trail_of : Tree → Given → (stack : List Bytes) → Option (List Step)
trail_of tree given stack = whole (walk given 0 tree (reverse stack))
