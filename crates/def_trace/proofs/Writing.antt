-- The instructions that have writers are those of the Script.
use Rattle.std.proofs.Common.{◌≡◌, ℕ, ◌+◌, ◌<◌, ◌≤◌, All, Option, Some, None, List, [], ◌∷◌, ◌++◌, map, arith, refl, ◌∙◌, ap}
use Rattle.std.proofs.lemmas.List.{map-append}
use Rattle.std.proofs.lemmas.List.Elements.{All-cons, All-append, All-head, All-tail}
use Rattle.def_script.specs.declared.Op.{Op}
use Rattle.def_script.specs.Bytes.{Bytes}
use Rattle.def_script.specs.Instruction.{Instruction, push, code}
use Rattle.def_script.specs.Verify.{verify_form, verified_op, verified}
use Rattle.def_tree.specs.declared.Two.TheVariants as kind
use Rattle.def_tree.specs.declared.Wrapper.TheVariants as wrapper
use Rattle.def_tree.specs.Size.{nodes, nodes_of}
use Rattle.def_tree.specs.Tree.{Tree, Trees, just_0, just_1, pk_k, pk_h, older, after, hash, and_or, two, thresh, multi, wrap, none, more}
use Rattle.def_emit.specs.Emit.{emit, emit_sum, emit_added}
use Rattle.def_trace.specs.Writers.{Attributed, by, with_verify, form_of, verified_by, attributed, attributed_sum, attributed_added}
use Rattle.def_trace.specs.Laws.{WritersOfScript, WritersAreNodes}

-- the instructions alone
abbrev bare : List Attributed → List Instruction
bare ws = map (λ (a : Attributed). a.instruction) ws

-- the instructions that are written
record Writes (ws : List Attributed) (is : List Instruction) : Type 0 where
  pub same : bare ws ≡ is

nothing : Writes [] []
nothing = record { same = refl }

joined : {ws us : List Attributed} {is js : List Instruction} → Writes ws is → Writes us js → Writes (ws ++ us) (is ++ js)
joined {ws = ws} {us = us} {is = is} first second =
    record { same = map-append (λ (a : Attributed). a.instruction) ws us ∙ ap (λ l. l ++ bare us) first.same ∙ ap (λ l. is ++ l) second.same }

behind : {a : Attributed} {ws : List Attributed} {is : List Instruction} → Writes ws is → Writes (a ∷ ws) (a.instruction ∷ is)
behind {a = a} rest = record { same = ap (λ l. a.instruction ∷ l) rest.same }

one : {a : Attributed} → Writes (a ∷ []) (a.instruction ∷ [])
one = behind nothing

pushes : (node : ℕ) (keys : List Bytes) → Writes (map (λ key. by node (push key)) keys) (map push keys)
pushes node [] = nothing
pushes node (key ∷ keys) = behind (pushes node keys)

with_form : (node : ℕ) (last : Op) (writer : ℕ) (form : Option Op) → bare (with_verify node (by writer (code last)) form) ≡ verified_op last form
with_form node last writer None = refl
with_form node last writer (Some form) = refl

verified_alike : (node : ℕ) (ws : List Attributed) → bare (verified_by node ws) ≡ verified (bare ws)
verified_alike node [] = refl
verified_alike node (a ∷ []) = by_last a.instruction a.writer where
  by_last : (i : Instruction) (writer : ℕ) → bare (with_verify node (by writer i) (form_of i)) ≡ verified (i ∷ [])
  by_last (push bytes) writer = refl
  by_last (code last) writer = with_form node last writer (verify_form last)
verified_alike node (a ∷ b ∷ ws) = ap (λ l. a.instruction ∷ l) (verified_alike node (b ∷ ws))

mutual
  of_script : (first : ℕ) (tree : Tree) → Writes (attributed first tree) (emit tree)
  of_script first just_0 = one
  of_script first just_1 = one
  of_script first (pk_k key) = one
  of_script first (pk_h key) = behind (behind (behind one))
  of_script first (older n) = behind one
  of_script first (after n) = behind one
  of_script first (hash kind value) = behind (behind (behind (behind (behind one))))
  of_script first (and_or x y z) =
      joined
      (joined (joined (of_script first x) (behind (of_script (first + nodes x + nodes y) z))) (behind (of_script (first + nodes x) y)))
      one
  of_script first (two kind.AndV x y) = joined (of_script first x) (of_script (first + nodes x) y)
  of_script first (two kind.AndB x y) = joined (joined (of_script first x) (of_script (first + nodes x) y)) one
  of_script first (two kind.OrB x y) = joined (joined (of_script first x) (of_script (first + nodes x) y)) one
  of_script first (two kind.OrC x y) = joined (joined (of_script first x) (behind (of_script (first + nodes x) y))) one
  of_script first (two kind.OrD x y) = joined (joined (of_script first x) (behind (behind (of_script (first + nodes x) y)))) one
  of_script first (two kind.OrI x y) = joined (joined (behind (of_script first x)) (behind (of_script (first + nodes x) y))) one
  of_script first (thresh k xs) = joined (of_sum first (first + nodes_of xs) xs) (behind one)
  of_script first (multi k keys) = joined (behind (pushes first keys)) (behind one)
  of_script first (wrap wrapper.A x) = joined (behind (of_script first x)) one
  of_script first (wrap wrapper.S x) = behind (of_script first x)
  of_script first (wrap wrapper.C x) = joined (of_script first x) one
  of_script first (wrap wrapper.D x) = joined (behind (behind (of_script first x))) one
  of_script first (wrap wrapper.V x) =
      record { same = verified_alike (first + nodes x) (attributed first x) ∙ ap verified (of_script first x).same }
  of_script first (wrap wrapper.J x) = joined (behind (behind (behind (of_script first x)))) one
  of_script first (wrap wrapper.N x) = joined (of_script first x) one

  of_sum : (first node : ℕ) (xs : Trees) → Writes (attributed_sum first node xs) (emit_sum xs)
  of_sum first node none = nothing
  of_sum first node (more x xs) = joined (of_script first x) (of_added (first + nodes x) node xs)

  of_added : (first node : ℕ) (xs : Trees) → Writes (attributed_added first node xs) (emit_added xs)
  of_added first node none = nothing
  of_added first node (more x xs) = joined (of_script first x) (behind (of_added (first + nodes x) node xs))

pub writers_of_script : WritersOfScript
writers_of_script first tree = (of_script first tree).same

-- ---- each writer is a node

-- all writers are below a number
record Below (n : ℕ) (ws : List Attributed) : Type 0 where
  pub all : All (λ (a : Attributed). a.writer < n) ws

no_writer : {n : ℕ} → Below n []
no_writer = record { all = λ k d inside. absurd (omega arith) }

also : {n : ℕ} {a : Attributed} {ws : List Attributed} → a.writer < n → Below n ws → Below n (a ∷ ws)
also {n = n} {a = a} {ws = ws} low rest = record { all = All-cons (λ (a : Attributed). a.writer < n) a ws low rest.all }

both : {n : ℕ} {ws us : List Attributed} → Below n ws → Below n us → Below n (ws ++ us)
both {n = n} {ws = ws} {us = us} first second =
    record { all = All-append (λ (a : Attributed). a.writer < n) ws us first.all second.all }

last : {n : ℕ} {a : Attributed} → a.writer < n → Below n (a ∷ [])
last low = also low no_writer

pushes_below : (n node : ℕ) (keys : List Bytes) → node < n → Below n (map (λ key. by node (push key)) keys)
pushes_below n node [] low = no_writer
pushes_below n node (key ∷ keys) low = also low (pushes_below n node keys low)

form_below : (n node : ℕ) (a : Attributed) (form : Option Op) → node < n → a.writer < n → Below n (with_verify node a form)
form_below n node a None low there = also there (last low)
form_below n node a (Some form) low there = last there

verified_below : (n node : ℕ) (ws : List Attributed) → node < n → Below n ws → Below n (verified_by node ws)
verified_below n node [] low all = last low
verified_below n node (a ∷ []) low all =
    form_below n node a (form_of a.instruction) low (All-head (λ (a : Attributed). a.writer < n) a [] all.all)
verified_below n node (a ∷ b ∷ ws) low all =
    also (All-head (λ (a : Attributed). a.writer < n) a (b ∷ ws) all.all)
    (verified_below n node (b ∷ ws) low (record { all = All-tail (λ (a : Attributed). a.writer < n) a (b ∷ ws) all.all }))

mutual
  within : (n first : ℕ) (tree : Tree) → first + nodes tree ≤ n → Below n (attributed first tree)
  within n first just_0 fits = last (omega arith)
  within n first just_1 fits = last (omega arith)
  within n first (pk_k key) fits = last (omega arith)
  within n first (pk_h key) fits = let low : first < n = omega arith in also low (also low (also low (last low)))
  within n first (older m) fits = let low : first < n = omega arith in also low (last low)
  within n first (after m) fits = let low : first < n = omega arith in also low (last low)
  within n first (hash kind value) fits =
      let low : first < n = omega arith in
      also low (also low (also low (also low (also low (last low)))))
  within n first (and_or x y z) fits =
      let low : first + nodes x + nodes y + nodes z < n = omega arith in
      both
      (both (both (within n first x (omega arith)) (also low (within n (first + nodes x + nodes y) z (omega arith))))
      (also low (within n (first + nodes x) y (omega arith))))
      (last low)
  within n first (two kind.AndV x y) fits = both (within n first x (omega arith)) (within n (first + nodes x) y (omega arith))
  within n first (two kind.AndB x y) fits =
      let low : first + nodes x + nodes y < n = omega arith in
      both (both (within n first x (omega arith)) (within n (first + nodes x) y (omega arith))) (last low)
  within n first (two kind.OrB x y) fits =
      let low : first + nodes x + nodes y < n = omega arith in
      both (both (within n first x (omega arith)) (within n (first + nodes x) y (omega arith))) (last low)
  within n first (two kind.OrC x y) fits =
      let low : first + nodes x + nodes y < n = omega arith in
      both (both (within n first x (omega arith)) (also low (within n (first + nodes x) y (omega arith)))) (last low)
  within n first (two kind.OrD x y) fits =
      let low : first + nodes x + nodes y < n = omega arith in
      both (both (within n first x (omega arith)) (also low (also low (within n (first + nodes x) y (omega arith))))) (last low)
  within n first (two kind.OrI x y) fits =
      let low : first + nodes x + nodes y < n = omega arith in
      both (both (also low (within n first x (omega arith))) (also low (within n (first + nodes x) y (omega arith)))) (last low)
  within n first (thresh k xs) fits =
      let low : first + nodes_of xs < n = omega arith in
      both (sum_within n first (first + nodes_of xs) xs (omega arith) low) (also low (last low))
  within n first (multi k keys) fits =
      let low : first < n = omega arith in
      both (also low (pushes_below n first keys low)) (also low (last low))
  within n first (wrap wrapper.A x) fits =
      let low : first + nodes x < n = omega arith in
      both (also low (within n first x (omega arith))) (last low)
  within n first (wrap wrapper.S x) fits = also (omega arith) (within n first x (omega arith))
  within n first (wrap wrapper.C x) fits = both (within n first x (omega arith)) (last (omega arith))
  within n first (wrap wrapper.D x) fits =
      let low : first + nodes x < n = omega arith in
      both (also low (also low (within n first x (omega arith)))) (last low)
  within n first (wrap wrapper.V x) fits =
      verified_below n (first + nodes x) (attributed first x) (omega arith) (within n first x (omega arith))
  within n first (wrap wrapper.J x) fits =
      let low : first + nodes x < n = omega arith in
      both (also low (also low (also low (within n first x (omega arith))))) (last low)
  within n first (wrap wrapper.N x) fits = both (within n first x (omega arith)) (last (omega arith))

  sum_within : (n first node : ℕ) (xs : Trees) → first + nodes_of xs ≤ n → node < n → Below n (attributed_sum first node xs)
  sum_within n first node none fits low = no_writer
  sum_within n first node (more x xs) fits low =
      both (within n first x (omega arith)) (added_within n (first + nodes x) node xs (omega arith) low)

  added_within : (n first node : ℕ) (xs : Trees) → first + nodes_of xs ≤ n → node < n → Below n (attributed_added first node xs)
  added_within n first node none fits low = no_writer
  added_within n first node (more x xs) fits low =
      both (within n first x (omega arith)) (also low (added_within n (first + nodes x) node xs (omega arith) low))

pub writers_are_nodes : WritersAreNodes
writers_are_nodes tree = (within (nodes tree) 0 tree (omega arith)).all
