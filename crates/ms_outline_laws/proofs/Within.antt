-- Nodes of a tree by the number of the first node below them, and a letter before one of a node's children.
use Rattle.std.proofs.Common.{◌≡◌, ℕ, zero, suc, ◌+◌, ◌-◌, ◌<◌, ◌≤◌, Bool, true, false, List, [], ◌∷◌, ◌++◌, map, length, slice_get, Option, Some, find, cond, refl, sym, ap, ◌∙◌, subst, arith, length-append}
use Rattle.std.specs.Prelude.{⊤}
use Rattle.def_tree.specs.Nodes.{all_nodes, nodes_of_all}
use Rattle.def_tree.specs.Size.{nodes, nodes_of}
use Rattle.def_tree.specs.Tree.{Tree, Trees, just_0, just_1, pk_k, pk_h, older, after, hash, and_or, two, thresh, multi, wrap, none, more}
use Rattle.def_tree.proofs.NodeLists.{nodes_are_all, trees_are_all}
use Rattle.def_text.specs.Letter.{Letter, letter_tree}
use Rattle.def_outline.specs.Fits.{Trial, tried_letters, trial, behind, trials}

-- ---- a node

mutual
  -- the nodes of `node` have the numbers from `first` on in a tree
  pub data Within (node : Tree) : (first : ℕ) → Tree → Type 0 where
    itself : {x : Tree} → node ≡ x → Within node 0 x
    within_x : {n : ℕ} {x y z : Tree} → Within node n x → Within node n (and_or x y z)
    within_y : {n : ℕ} {x y z : Tree} → Within node n y → Within node (nodes x + n) (and_or x y z)
    within_z : {n : ℕ} {x y z : Tree} → Within node n z → Within node (nodes x + nodes y + n) (and_or x y z)
    within_left : {n : ℕ} {x y : Tree} (kind : _) → Within node n x → Within node n (two kind x y)
    within_right : {n : ℕ} {x y : Tree} (kind : _) → Within node n y → Within node (nodes x + n) (two kind x y)
    within_child : {n : ℕ} {xs : Trees} (k : ℕ) → Among node n xs → Within node n (thresh k xs)
    within_wrap : {n : ℕ} {x : Tree} (wrapper : _) → Within node n x → Within node n (wrap wrapper x)

  pub data Among (node : Tree) : (first : ℕ) → Trees → Type 0 where
    in_first : {n : ℕ} {x : Tree} {xs : Trees} → Within node n x → Among node n (more x xs)
    in_later : {n : ℕ} {x : Tree} {xs : Trees} → Among node n xs → Among node (nodes x + n) (more x xs)

pub some_node : (x : Tree) → 1 ≤ nodes x
some_node just_0 = omega arith
some_node x = omega arith

mutual
  pub room : {node : Tree} {n : ℕ} {x : Tree} → Within node n x → n + nodes node ≤ nodes x
  room (itself e) = omega (arith, ap nodes e)
  room (within_x h) = omega (arith, room h)
  room (within_y h) = omega (arith, room h)
  room (within_z h) = omega (arith, room h)
  room (within_left kind h) = omega (arith, room h)
  room (within_right kind h) = omega (arith, room h)
  room (within_child k h) = omega (arith, rooms h)
  room (within_wrap w h) = omega (arith, room h)

  pub rooms : {node : Tree} {n : ℕ} {xs : Trees} → Among node n xs → n + nodes node ≤ nodes_of xs
  rooms (in_first h) = omega (arith, room h)
  rooms (in_later h) = omega (arith, rooms h)

-- ---- the list of nodes

data Split {A : Type 0} (xs ys : List A) (i : ℕ) (a : A) : Type 0 where
  in_front : i < length xs → slice_get xs i ≡ Some a → Split xs ys i a
  in_back : (k : ℕ) → i ≡ length xs + k → slice_get ys k ≡ Some a → Split xs ys i a

split : {A : Type 0} (xs ys : List A) (i : ℕ) (a : A) → slice_get (xs ++ ys) i ≡ Some a → Split xs ys i a
split [] ys i a h = in_back i (omega arith) h
split (x ∷ xs) ys zero a h = in_front (omega arith) h
split (x ∷ xs) ys (suc i) a h = elim (split xs ys i a h) [
  | in_front l e ↦ in_front (omega (arith, l)) e
  | in_back k l e ↦ in_back k (omega (arith, l)) e
]

one_got : {A : Type 0} (x : A) (i : ℕ) (a : A) → slice_get (x ∷ []) i ≡ Some a → (i ≡ 0) × (x ≡ a)
one_got x zero a h = (refl, cc h)
one_got x (suc i) a h = absurd (cc h)

pub get_front : {A : Type 0} (xs ys : List A) (i : ℕ) (a : A) → slice_get xs i ≡ Some a → slice_get (xs ++ ys) i ≡ Some a
get_front [] ys i a h = absurd (cc h)
get_front (x ∷ xs) ys zero a h = h
get_front (x ∷ xs) ys (suc i) a h = get_front xs ys i a h

pub get_back : {A : Type 0} (xs ys : List A) (i k : ℕ) (a : A) → i ≡ length xs + k → slice_get ys k ≡ Some a → slice_get (xs ++ ys) i ≡ Some a
get_back [] ys i k a e h = let same : i ≡ k = omega (arith, e) in ap (slice_get ys) same ∙ h
get_back (x ∷ xs) ys zero k a e h = absurd (omega (arith, e))
get_back (x ∷ xs) ys (suc i) k a e h = get_back xs ys i k a (omega (arith, e)) h

-- a node by its number, and back
abbrev pub Found : (node : Tree) → ℕ → Tree → Type 0
Found node i x = (n : ℕ) × Within node n x × (i + 1 ≡ n + nodes node)

abbrev pub FoundAmong : (node : Tree) → ℕ → Trees → Type 0
FoundAmong node i xs = (n : ℕ) × Among node n xs × (i + 1 ≡ n + nodes node)

leaf_found : (x node : Tree) (i : ℕ) → nodes x ≡ 1 → slice_get (x ∷ []) i ≡ Some node → Found node i x
leaf_found x node i one h =
    let (e, same) = one_got x i node h in
    (0, itself (sym same), omega (arith, e, ap nodes same, one))

mutual
  pub found : (x : Tree) (i : ℕ) (node : Tree) → slice_get (all_nodes x) i ≡ Some node → Found node i x
  found (and_or x y z) i node h = elim (split (all_nodes x ++ all_nodes y ++ all_nodes z) (and_or x y z ∷ []) i node h) [
    | in_front l e ↦ elim (split (all_nodes x ++ all_nodes y) (all_nodes z) i node e) [
      | in_front l e ↦ elim (split (all_nodes x) (all_nodes y) i node e) [
        | in_front l e ↦ let (n, w, s) = found x i node e in (n, within_x w, s)
        | in_back k l e ↦ let (n, w, s) = found y k node e in (nodes x + n, within_y w, omega (arith, s, l, nodes_are_all x))
      ]
      | in_back k l e ↦
          let (n, w, s) = found z k node e in
          (nodes x + nodes y + n, within_z w, omega (arith, s, l, nodes_are_all x, nodes_are_all y, length-append (all_nodes x) (all_nodes y)))
    ]
    | in_back k l e ↦
        let (zero_k, same) = one_got (and_or x y z) k node e in (
          0,
          itself (sym same),
          omega (
            arith,
            l,
            zero_k,
            ap nodes same,
            nodes_are_all x,
            nodes_are_all y,
            nodes_are_all z,
            length-append (all_nodes x ++ all_nodes y) (all_nodes z),
            length-append (all_nodes x) (all_nodes y),
          ),
        )
  ]
  found (two kind x y) i node h = elim (split (all_nodes x ++ all_nodes y) (two kind x y ∷ []) i node h) [
    | in_front l e ↦ elim (split (all_nodes x) (all_nodes y) i node e) [
      | in_front l e ↦ let (n, w, s) = found x i node e in (n, within_left kind w, s)
      | in_back k l e ↦ let (n, w, s) = found y k node e in (nodes x + n, within_right kind w, omega (arith, s, l, nodes_are_all x))
    ]
    | in_back k l e ↦
        let (zero_k, same) = one_got (two kind x y) k node e in
        (0, itself (sym same), omega (arith, l, zero_k, ap nodes same, nodes_are_all x, nodes_are_all y, length-append (all_nodes x) (all_nodes y)))
  ]
  found (thresh m xs) i node h = elim (split (nodes_of_all xs) (thresh m xs ∷ []) i node h) [
    | in_front l e ↦ let (n, w, s) = found_among xs i node e in (n, within_child m w, s)
    | in_back k l e ↦
        let (zero_k, same) = one_got (thresh m xs) k node e in
        (0, itself (sym same), omega (arith, l, zero_k, ap nodes same, trees_are_all xs))
  ]
  found (wrap w x) i node h = elim (split (all_nodes x) (wrap w x ∷ []) i node h) [
    | in_front l e ↦ let (n, v, s) = found x i node e in (n, within_wrap w v, s)
    | in_back k l e ↦
        let (zero_k, same) = one_got (wrap w x) k node e in
        (0, itself (sym same), omega (arith, l, zero_k, ap nodes same, nodes_are_all x))
  ]
  found just_0 i node h = leaf_found just_0 node i refl h
  found just_1 i node h = leaf_found just_1 node i refl h
  found (pk_k key) i node h = leaf_found (pk_k key) node i refl h
  found (pk_h key) i node h = leaf_found (pk_h key) node i refl h
  found (older m) i node h = leaf_found (older m) node i refl h
  found (after m) i node h = leaf_found (after m) node i refl h
  found (hash kind value) i node h = leaf_found (hash kind value) node i refl h
  found (multi k keys) i node h = leaf_found (multi k keys) node i refl h

  pub found_among : (xs : Trees) (i : ℕ) (node : Tree) → slice_get (nodes_of_all xs) i ≡ Some node → FoundAmong node i xs
  found_among none i node h = absurd (cc h)
  found_among (more x xs) i node h = elim (split (all_nodes x) (nodes_of_all xs) i node h) [
    | in_front l e ↦ let (n, w, s) = found x i node e in (n, in_first w, s)
    | in_back k l e ↦ let (n, w, s) = found_among xs k node e in (nodes x + n, in_later w, omega (arith, s, l, nodes_are_all x))
  ]

root_got : (x : Tree) (i : ℕ) → i + 1 ≡ nodes x → slice_get (all_nodes x) i ≡ Some x
root_got (and_or x y z) i e = get_back (all_nodes x ++ all_nodes y ++ all_nodes z) (and_or x y z ∷ []) i 0 (and_or x y z)
    (omega (arith, e, nodes_are_all x, nodes_are_all y, nodes_are_all z, length-append (all_nodes x ++ all_nodes y) (all_nodes z), length-append (all_nodes x) (all_nodes y))) refl
root_got (two kind x y) i e = get_back (all_nodes x ++ all_nodes y) (two kind x y ∷ []) i 0 (two kind x y)
    (omega (arith, e, nodes_are_all x, nodes_are_all y, length-append (all_nodes x) (all_nodes y))) refl
root_got (thresh k xs) i e = get_back (nodes_of_all xs) (thresh k xs ∷ []) i 0 (thresh k xs) (omega (arith, e, trees_are_all xs)) refl
root_got (wrap w x) i e = get_back (all_nodes x) (wrap w x ∷ []) i 0 (wrap w x) (omega (arith, e, nodes_are_all x)) refl
root_got just_0 i e = let z : i ≡ 0 = omega (arith, e) in ap (slice_get (all_nodes just_0)) z
root_got just_1 i e = let z : i ≡ 0 = omega (arith, e) in ap (slice_get (all_nodes just_1)) z
root_got (pk_k key) i e = let z : i ≡ 0 = omega (arith, e) in ap (slice_get (all_nodes (pk_k key))) z
root_got (pk_h key) i e = let z : i ≡ 0 = omega (arith, e) in ap (slice_get (all_nodes (pk_h key))) z
root_got (older n) i e = let z : i ≡ 0 = omega (arith, e) in ap (slice_get (all_nodes (older n))) z
root_got (after n) i e = let z : i ≡ 0 = omega (arith, e) in ap (slice_get (all_nodes (after n))) z
root_got (hash kind value) i e = let z : i ≡ 0 = omega (arith, e) in ap (slice_get (all_nodes (hash kind value))) z
root_got (multi k keys) i e = let z : i ≡ 0 = omega (arith, e) in ap (slice_get (all_nodes (multi k keys))) z

-- a part's number, where as many nodes stand before the part
pub part : (i b n size : ℕ) → 1 ≤ size → i + 1 ≡ (b + n) + size → (k : ℕ) × (i ≡ b + k) × (k + 1 ≡ n + size)
part i b n size some e = (n + size - 1, omega (arith, some, e), omega (arith, some))

mutual
  pub got : {node : Tree} {n : ℕ} {x : Tree} → Within node n x → (i : ℕ) → i + 1 ≡ n + nodes node → slice_get (all_nodes x) i ≡ Some node
  got {node = node} (itself {x = x} e) i s = root_got x i (omega (arith, s, ap nodes e)) ∙ ap Some (sym e)
  got {node = node} (within_x {x = x} {y = y} {z = z} h) i s =
      get_front (all_nodes x ++ all_nodes y ++ all_nodes z) (and_or x y z ∷ []) i node
      (get_front (all_nodes x ++ all_nodes y) (all_nodes z) i node (get_front (all_nodes x) (all_nodes y) i node (got h i s)))
  got {node = node} (within_y {n = n} {x = x} {y = y} {z = z} h) i s =
      let (k, e, t) = part i (nodes x) n (nodes node) (some_node node) s in
      get_front (all_nodes x ++ all_nodes y ++ all_nodes z) (and_or x y z ∷ []) i node
      (get_front (all_nodes x ++ all_nodes y) (all_nodes z) i node (get_back (all_nodes x) (all_nodes y) i k node (omega (arith, e, nodes_are_all x)) (got h k t)))
  got {node = node} (within_z {n = n} {x = x} {y = y} {z = z} h) i s =
      let (k, e, t) = part i (nodes x + nodes y) n (nodes node) (some_node node) s in
      get_front (all_nodes x ++ all_nodes y ++ all_nodes z) (and_or x y z ∷ []) i node
      (get_back (all_nodes x ++ all_nodes y) (all_nodes z) i k node (omega (arith, e, nodes_are_all x, nodes_are_all y, length-append (all_nodes x) (all_nodes y))) (got h k t))
  got {node = node} (within_left {x = x} {y = y} kind h) i s =
      get_front (all_nodes x ++ all_nodes y) (two kind x y ∷ []) i node (get_front (all_nodes x) (all_nodes y) i node (got h i s))
  got {node = node} (within_right {n = n} {x = x} {y = y} kind h) i s =
      let (k, e, t) = part i (nodes x) n (nodes node) (some_node node) s in
      get_front (all_nodes x ++ all_nodes y) (two kind x y ∷ []) i node (get_back (all_nodes x) (all_nodes y) i k node (omega (arith, e, nodes_are_all x)) (got h k t))
  got {node = node} (within_child {xs = xs} m h) i s = get_front (nodes_of_all xs) (thresh m xs ∷ []) i node (got_among h i s)
  got {node = node} (within_wrap {x = x} w h) i s = get_front (all_nodes x) (wrap w x ∷ []) i node (got h i s)

  pub got_among : {node : Tree} {n : ℕ} {xs : Trees} → Among node n xs → (i : ℕ) → i + 1 ≡ n + nodes node → slice_get (nodes_of_all xs) i ≡ Some node
  got_among {node = node} (in_first {x = x} {xs = xs} h) i s = get_front (all_nodes x) (nodes_of_all xs) i node (got h i s)
  got_among {node = node} (in_later {n = n} {x = x} {xs = xs} h) i s =
      let (k, e, t) = part i (nodes x) n (nodes node) (some_node node) s in
      get_back (all_nodes x) (nodes_of_all xs) i k node (omega (arith, e, nodes_are_all x)) (got_among h k t)

-- ---- a letter before a child

-- of trees side by side one, with so many nodes before it, has the letter before it
pub data Lettered (L : Letter) : Trees → (before : ℕ) → Tree → Trees → Type 0 where
  first_lettered : {y : Tree} {ys : Trees} → Lettered L (more y ys) 0 y (more (letter_tree L y) ys)
  later_lettered : {b : ℕ} {x y : Tree} {ys zs : Trees} → Lettered L ys b y zs → Lettered L (more x ys) (nodes x + b) y (more x zs)

pub lettered_room : {L : Letter} {ys zs : Trees} {b : ℕ} {y : Tree} → Lettered L ys b y zs → b + nodes y ≤ nodes_of ys
lettered_room first_lettered = omega arith
lettered_room (later_lettered h) = omega (arith, lettered_room h)

-- what a trial says
abbrev pub Tries : (first : ℕ) → Trees → Trial → Type 0
Tries first xs t = (b : ℕ) × (y : Tree) × Lettered t.letter xs b y t.children × (t.child + 1 ≡ first + b + nodes y)

abbrev Each : (Trial → Type 0) → List Trial → Type 0
Each P [] = ⊤
Each P (t ∷ ts) = P t × Each P ts

each_both : (P : Trial → Type 0) (ts us : List Trial) → Each P ts → Each P us → Each P (ts ++ us)
each_both P [] us h k = k
each_both P (t ∷ ts) us h k = (h.0, each_both P ts us h.1 k)

here_tried : (first : ℕ) (x : Tree) (xs : Trees) (ls : List Letter) → Each (Tries first (more x xs)) (map (trial (first + nodes x - 1) x xs) ls)
here_tried first x xs [] = tt
here_tried first x xs (l ∷ ls) = ((0, x, first_lettered, omega (arith, some_node x)), here_tried first x xs ls)

later_tried : (first : ℕ) (x : Tree) (xs : Trees) (ts : List Trial) → Each (Tries (first + nodes x) xs) ts → Each (Tries first (more x xs)) (map (behind x) ts)
later_tried first x xs [] h = tt
later_tried first x xs (t ∷ ts) h =
    let (b, y, l, e) = h.0 in
    ((nodes x + b, y, later_lettered l, omega (arith, e)), later_tried first x xs ts h.1)

all_tried : (first : ℕ) (xs : Trees) → Each (Tries first xs) (trials first xs)
all_tried first none = tt
all_tried first (more x xs) =
    each_both (Tries first (more x xs)) (map (trial (first + nodes x - 1) x xs) tried_letters) (map (behind x) (trials (first + nodes x) xs))
    (here_tried first x xs tried_letters) (later_tried first x xs (trials (first + nodes x) xs) (all_tried (first + nodes x) xs))

find_in : (P : Trial → Type 0) (test : Trial → Bool) (u : Trial) (o : Option Trial) (b : Bool) (t : Trial) → P u → (o ≡ Some t → (test t ≡ true) × P t) →
    test u ≡ b → cond b (Some u) o ≡ Some t → (test t ≡ true) × P t
find_in P test u o true t h later e k = let same : u ≡ t = cc k in (subst (λ v. test v ≡ true) same e, subst P same h)
find_in P test u o false t h later e k = later k

find_one : (P : Trial → Type 0) (test : Trial → Bool) (ts : List Trial) (t : Trial) → Each P ts → find test ts ≡ Some t → (test t ≡ true) × P t
find_one P test [] t all h = absurd (cc h)
find_one P test (u ∷ ts) t all h = find_in P test u (find test ts) (test u) t all.0 (find_one P test ts t all.1) refl h

pub tried : (first : ℕ) (xs : Trees) (test : Trial → Bool) (t : Trial) → find test (trials first xs) ≡ Some t → (test t ≡ true) × Tries first xs t
tried first xs test t h = find_one (Tries first xs) test (trials first xs) t (all_tried first xs) h
