-- A letter before a child that stands at another place than its parent: the tokens spell the tree with it.
use Rattle.std.proofs.Common.{◌≡◌, ℕ, ◌+◌, ◌<◌, ◌≤◌, List, [], ◌∷◌, ◌++◌, codes, length, length-append, slice_index, refl, sym, ap, ◌∙◌, subst, arith}
use Rattle.def_tree.specs.declared.Two.{Two}
use Rattle.def_tree.specs.declared.Two.TheVariants.{AndV, OrI}
use Rattle.def_tree.specs.Children.{children}
use Rattle.def_tree.specs.Size.{nodes, nodes_of}
use Rattle.def_tree.specs.Tree.{Tree, Trees, just_0, just_1, pk_k, pk_h, older, after, hash, and_or, two, thresh, multi, wrap, none, more}
use Rattle.def_text.specs.Token.{Token, comma}
use Rattle.def_text.specs.Word.{two_name}
use Rattle.def_text.specs.Letter.{Letter, letter_of_wrapper, letter_t, letter_l, letter_u, letter_tree, letter_offsets}
use Rattle.def_text.specs.Spells.{call, Spells, text_thresh, SpellsChildren, last_child, next_child}
use Rattle.def_text.proofs.OffsetCount.{count_text}
use Rattle.def_text.specs.Spells.{text_whole}
use Rattle.def_outline.specs.Fits.{over}
use Rattle.ms_outline_laws.proofs.Moved.{SpellsTree, SpellsTrees}
use Rattle.ms_outline_laws.proofs.Holes.{Hole}
use Rattle.ms_outline_laws.proofs.Within.{Within, itself, within_left, within_right, within_wrap, some_node, room, part, Lettered, first_lettered, later_lettered, lettered_room}
use Rattle.ms_outline_laws.proofs.Contexts.{place_front, place_back, count, root_hole, in_left, in_right, in_n_left, in_n_right, in_x, in_y, in_z, in_last, in_this, in_next}

-- a node's child with a letter before it: the numbers of both are counted from the first node below the node
pub record Child (L : Letter) (node : Tree) (others : Trees) (d r : ℕ) : Type 0 where
  pub before : ℕ
  pub child : Tree
  pub lettered : Lettered L (children node) before child others
  pub number : d + 1 ≡ before + nodes child
  pub own : r + 1 ≡ nodes node

pub childless : {L : Letter} {xs zs : Trees} {b : ℕ} {y : Tree} → Lettered L xs b y zs → xs ≡ none → ⊥
childless first_lettered e = absurd (cc e)
childless (later_lettered h) e = absurd (cc e)

children_room : (x : Tree) → nodes_of (children x) + 1 ≡ nodes x
children_room (and_or x y z) = omega arith
children_room (two kind x y) = omega arith
children_room (thresh k xs) = refl
children_room (wrap w x) = omega arith
children_room just_0 = refl
children_room just_1 = refl
children_room (pk_k key) = refl
children_room (pk_h key) = refl
children_room (older n) = refl
children_room (after n) = refl
children_room (hash kind value) = refl
children_room (multi k keys) = refl

pub child_below : {L : Letter} {node : Tree} {others : Trees} {d r : ℕ} → Child L node others d r → d < r
child_below {node = node} c = omega (arith, c.number, c.own, lettered_room c.lettered, children_room node)

pub count_children : {ts : List Token} {xs : Trees} {os : List ℕ} → SpellsChildren ts xs os → length os ≡ nodes_of xs
count_children {os = os} h =
    let all : length (os ++ 0 ∷ []) ≡ _ = count_text (text_whole 0 (text_thresh {a = 0} {b = 0} {c = 0} 0 {w = codes "0"} {k = 0} refl h)) in
    omega (arith, all, length-append os (0 ∷ []))

-- some numbers stand within others
pub within_list : (before inner behind : List ℕ) (i k : ℕ) → i ≡ length before + k → k < length inner → slice_index (before ++ inner ++ behind) i ≡ slice_index inner k
within_list before inner behind i k e l =
    place_front (before ++ inner) behind i (omega (arith, e, l, length-append before inner)) ∙ place_back before inner i k e

pub moved_hole : {L : Letter} {ts : List Token} {a b : ℕ} {P : List Token → Type 0} → a ≡ b → Hole L ts b P → Hole L ts a P
moved_hole {L = L} {ts = ts} {P = P} e h = subst (λ at. Hole L ts at P) (sym e) h

pub at_zero : (all : List ℕ) (k : ℕ) → slice_index all (0 + k) ≡ slice_index all k
at_zero all k = let on : 0 + k ≡ k = omega arith in ap (slice_index all) on

pub apart_zero : (all : List ℕ) (d r : ℕ) → ¬ (slice_index all (0 + d) ≡ slice_index all (0 + r)) → ¬ (slice_index all d ≡ slice_index all r)
apart_zero all d r apart same = apart (at_zero all d ∙ (same ∙ sym (at_zero all r)))

-- ---- the letter before a child of the root

module _ {L : Letter} {a b : ℕ} {xs ys zs : List Token} {x y z : Tree} {os ps qs : List ℕ} (c d e : ℕ) (hx : Spells xs x os) (hy : Spells ys y ps) (hz : Spells zs z qs) where
  pub andor_root : {others : Trees} {n : ℕ} {w : Tree} → Lettered L (more x (more y (more z none))) n w others → (k : ℕ) → k + 1 ≡ n + nodes w →
      Hole L (call a (codes "andor") b (xs ++ comma c ∷ ys ++ comma d ∷ zs) e) (slice_index (os ++ ps ++ qs ++ a ∷ []) k) (SpellsTree (over (and_or x y z) others))
  andor_root first_lettered k s =
      moved_hole (place_front (os ++ ps ++ qs) (a ∷ []) k (omega (arith, s, count hx, length-append (os ++ ps) qs, length-append os ps))
      ∙ (place_front (os ++ ps) qs k (omega (arith, s, count hx, length-append os ps)) ∙ place_front os ps k (omega (arith, s, count hx))))
      (in_x c d e hy hz (root_hole L hx k (omega (arith, s))))
  andor_root (later_lettered first_lettered) k s =
      let (j, e1, t) = part k (nodes x) 0 (nodes y) (some_node y) s in
      moved_hole (place_front (os ++ ps ++ qs) (a ∷ []) k (omega (arith, e1, t, count hx, count hy, length-append (os ++ ps) qs, length-append os ps))
      ∙ within_list os ps qs k j (omega (arith, e1, count hx)) (omega (arith, t, count hy)))
      (in_y c d e hx hz (root_hole L hy j (omega (arith, t))))
  andor_root (later_lettered (later_lettered first_lettered)) k s =
      let (j, e1, t) = part k (nodes x + nodes y) 0 (nodes z) (some_node z) (omega (arith, s)) in
      moved_hole (within_list (os ++ ps) qs (a ∷ []) k j (omega (arith, e1, count hx, count hy, length-append os ps)) (omega (arith, t, count hz)))
      (in_z c d e hx hy (root_hole L hz j (omega (arith, t))))
  andor_root (later_lettered (later_lettered (later_lettered h))) k s = absurd (childless h refl)

module _ {L : Letter} {a b : ℕ} {xs ys : List Token} {x y : Tree} {os ps : List ℕ} (c d : ℕ) (hx : Spells xs x os) (hy : Spells ys y ps) where
  pub two_root : (kind : Two) {others : Trees} {n : ℕ} {w : Tree} → Lettered L (more x (more y none)) n w others → (k : ℕ) → k + 1 ≡ n + nodes w →
      Hole L (call a (two_name kind) b (xs ++ comma c ∷ ys) d) (slice_index (os ++ ps ++ a ∷ []) k) (SpellsTree (over (two kind x y) others))
  two_root kind first_lettered k s =
      moved_hole (place_front (os ++ ps) (a ∷ []) k (omega (arith, s, count hx, length-append os ps)) ∙ place_front os ps k (omega (arith, s, count hx)))
      (in_left kind c d hy (root_hole L hx k (omega (arith, s))))
  two_root kind (later_lettered first_lettered) k s =
      let (j, e1, t) = part k (nodes x) 0 (nodes y) (some_node y) s in
      moved_hole (within_list os ps (a ∷ []) k j (omega (arith, e1, count hx)) (omega (arith, t, count hy)))
      (in_right kind c d hx (root_hole L hy j (omega (arith, t))))
  two_root kind (later_lettered (later_lettered h)) k s = absurd (childless h refl)

  -- the third child of `and_n` stands at its own place
  pub and_n_root : {others : Trees} {n : ℕ} {w : Tree} → Lettered L (more x (more y (more just_0 none))) n w others → (k r : ℕ) → k + 1 ≡ n + nodes w → r + 1 ≡ nodes (and_or x y just_0) →
      ¬ (slice_index (os ++ ps ++ a ∷ a ∷ []) k ≡ slice_index (os ++ ps ++ a ∷ a ∷ []) r) →
      Hole L (call a (codes "and_n") b (xs ++ comma c ∷ ys) d) (slice_index (os ++ ps ++ a ∷ a ∷ []) k) (SpellsTree (over (and_or x y just_0) others))
  and_n_root first_lettered k r s own apart =
      moved_hole (place_front (os ++ ps) (a ∷ a ∷ []) k (omega (arith, s, count hx, length-append os ps)) ∙ place_front os ps k (omega (arith, s, count hx)))
      (in_n_left c d hy (root_hole L hx k (omega (arith, s))))
  and_n_root (later_lettered first_lettered) k r s own apart =
      let (j, e1, t) = part k (nodes x) 0 (nodes y) (some_node y) s in
      moved_hole (within_list os ps (a ∷ a ∷ []) k j (omega (arith, e1, count hx)) (omega (arith, t, count hy)))
      (in_n_right c d hx (root_hole L hy j (omega (arith, t))))
  and_n_root (later_lettered (later_lettered first_lettered)) k r s own apart =
      absurd (apart (place_back (os ++ ps) (a ∷ a ∷ []) k 0 (omega (arith, s, count hx, count hy, length-append os ps))
      ∙ sym (place_back (os ++ ps) (a ∷ a ∷ []) r 1 (omega (arith, own, count hx, count hy, length-append os ps)))))
  and_n_root (later_lettered (later_lettered (later_lettered h))) k r s own apart = absurd (childless h refl)

pub children_root : {L : Letter} {ts : List Token} {xs : Trees} {os : List ℕ} → SpellsChildren ts xs os →
    {others : Trees} {n : ℕ} {w : Tree} → Lettered L xs n w others → (k : ℕ) → k + 1 ≡ n + nodes w →
    Hole L ts (slice_index os k) (SpellsTrees others)
children_root {L = L} (last_child hx) first_lettered k s = in_last (root_hole L hx k (omega (arith, s)))
children_root (last_child hx) (later_lettered h) k s = absurd (childless h refl)
children_root {L = L} (next_child {os = os} {ps = ps} hx hy) first_lettered k s =
    moved_hole (place_front os ps k (omega (arith, s, count hx))) (in_this hy (root_hole L hx k (omega (arith, s))))
children_root (next_child {x = x} {os = os} {ps = ps} hx hy) (later_lettered {b = b} {y = w} h) k s =
    let (j, e, t) = part k (nodes x) b (nodes w) (some_node w) s in
    moved_hole (place_back os ps k j (omega (arith, e, count hx))) (in_next hx hy (children_root hy h j t))

-- of `pk(key)` and `pkh(key)` both nodes stand at one place
pub same_place : {L : Letter} {x : Tree} {others : Trees} {n : ℕ} {w : Tree} (a : ℕ) → nodes x ≡ 1 → Lettered L (more x none) n w others → (k r : ℕ) → k + 1 ≡ n + nodes w → r + 1 ≡ nodes x + 1 →
    ¬ (slice_index (a ∷ a ∷ []) k ≡ slice_index (a ∷ a ∷ []) r) → ⊥
same_place a one first_lettered k r s own apart =
    let zero_k : k ≡ 0 = omega (arith, s, one) in
    let one_r : r ≡ 1 = omega (arith, own, one) in
    apart (ap (slice_index (a ∷ a ∷ [])) zero_k ∙ sym (ap (slice_index (a ∷ a ∷ [])) one_r))
same_place a one (later_lettered h) k r s own apart = childless h refl

-- ---- a letter and its expression

-- where a node is that has a letter before its child: it is the letter's, and the child the expression, or it stands in the expression
pub data LetterStep (L : Letter) (node : Tree) (others : Trees) (d r : ℕ) (l : Letter) (t : Tree) (os : List ℕ) (n at : ℕ) : Type 0 where
  at_letter : n ≡ 0 → (k : ℕ) → k + 1 ≡ nodes t → at ≡ slice_index os k → over node others ≡ letter_tree l (letter_tree L t) → LetterStep L node others d r l t os n at
  in_expression : (m : ℕ) → Within node m t → ¬ (slice_index os (m + d) ≡ slice_index os (m + r)) → at ≡ slice_index os (m + d) →
      ((u : Tree) → Within (over node others) m u → Within (over node others) n (letter_tree l u)) → LetterStep L node others d r l t os n at

module _ {L : Letter} {d r : ℕ} (a : ℕ) (os : List ℕ) (t : Tree) (long : length os ≡ nodes t) where
  wrap_root : (w : _) {others : Trees} {n : ℕ} {v : Tree} → Lettered L (more t none) n v others → d + 1 ≡ n + nodes v →
      LetterStep L (wrap w t) others d r (letter_of_wrapper w) t os 0 (slice_index (os ++ a ∷ []) d)
  wrap_root w first_lettered s = at_letter refl d (omega (arith, s)) (place_front os (a ∷ []) d (omega (arith, s, long))) refl
  wrap_root w (later_lettered h) s = absurd (childless h refl)

  -- sugar with its other child behind the expression
  behind_root : (l : Letter) (kind : Two) (leaf : Tree) → nodes leaf ≡ 1 → ((u : Tree) → letter_tree l u ≡ two kind u leaf) →
      {others : Trees} {n : ℕ} {v : Tree} → Lettered L (more t (more leaf none)) n v others → d + 1 ≡ n + nodes v → r + 1 ≡ nodes (two kind t leaf) →
      ¬ (slice_index (os ++ a ∷ a ∷ []) d ≡ slice_index (os ++ a ∷ a ∷ []) r) →
      LetterStep L (two kind t leaf) others d r l t os 0 (slice_index (os ++ a ∷ a ∷ []) d)
  behind_root l kind leaf one is first_lettered s own apart =
      at_letter refl d (omega (arith, s)) (place_front os (a ∷ a ∷ []) d (omega (arith, s, long))) (sym (is (letter_tree L t)))
  behind_root l kind leaf one is (later_lettered first_lettered) s own apart =
      absurd (apart (place_back os (a ∷ a ∷ []) d 0 (omega (arith, s, one, long)) ∙ sym (place_back os (a ∷ a ∷ []) r 1 (omega (arith, own, one, long)))))
  behind_root l kind leaf one is (later_lettered (later_lettered h)) s own apart = absurd (childless h refl)

  before_root_of : {others : Trees} {n : ℕ} {v : Tree} → Lettered L (more just_0 (more t none)) n v others → d + 1 ≡ n + nodes v → r + 1 ≡ nodes (two OrI just_0 t) →
      ¬ (slice_index (a ∷ (os ++ a ∷ [])) d ≡ slice_index (a ∷ (os ++ a ∷ [])) r) →
      LetterStep L (two OrI just_0 t) others d r letter_l t os 0 (slice_index (a ∷ (os ++ a ∷ [])) d)
  before_root_of first_lettered s own apart =
      let zero_d : d ≡ 0 = omega (arith, s) in
      absurd (apart (ap (slice_index (a ∷ (os ++ a ∷ []))) zero_d ∙ sym (place_back (a ∷ os) (a ∷ []) r 0 (omega (arith, own, long)))))
  before_root_of (later_lettered first_lettered) s own apart =
      let (j, e, u) = part d 1 0 (nodes t) (some_node t) s in
      at_letter refl j (omega (arith, u)) (place_back (a ∷ []) (os ++ a ∷ []) d j (omega (arith, e)) ∙ place_front os (a ∷ []) j (omega (arith, u, long))) refl
  before_root_of (later_lettered (later_lettered h)) s own apart = absurd (childless h refl)

  module _ {node : Tree} {others : Trees} (c : Child L node others d r) where
    place_in : (before behind : List ℕ) (n m : ℕ) → n ≡ length before + m → Within node m t → (k : ℕ) → k ≤ r → slice_index (before ++ os ++ behind) (n + k) ≡ slice_index os (m + k)
    place_in before behind n m e w k l = within_list before os behind (n + k) (m + k) (omega (arith, e)) (omega (arith, room w, long, l, c.own))

    step_in : (l : Letter) (before behind : List ℕ) (n m : ℕ) → n ≡ length before + m → Within node m t →
        ¬ (slice_index (before ++ os ++ behind) (n + d) ≡ slice_index (before ++ os ++ behind) (n + r)) →
        ((u : Tree) → Within (over node others) m u → Within (over node others) n (letter_tree l u)) →
        LetterStep L node others d r l t os n (slice_index (before ++ os ++ behind) (n + d))
    step_in l before behind n m e w apart goes =
        let at_d = place_in before behind n m e w d (omega (arith, child_below c)) in
        let at_r = place_in before behind n m e w r (omega arith) in
        in_expression m w (λ same. apart (at_d ∙ (same ∙ sym at_r))) at_d goes

    root_step : (l : Letter) (v : Tree) (all : List ℕ) → node ≡ v → LetterStep L v others d r l t os 0 (slice_index all d) → LetterStep L node others d r l t os 0 (slice_index all (0 + d))
    root_step l v all e s =
        subst (λ u. LetterStep L u others d r l t os 0 (slice_index all (0 + d))) (sym e) (subst (λ at. LetterStep L v others d r l t os 0 at) (sym (at_zero all d)) s)

    child_of : (v : Tree) → node ≡ v → Child L v others d r
    child_of v e = subst (λ u. Child L u others d r) e c

    pub letter_step : (l : Letter) {n : ℕ} → Within node n (letter_tree l t) →
        ¬ (slice_index (letter_offsets a l os) (n + d) ≡ slice_index (letter_offsets a l os) (n + r)) →
        LetterStep L node others d r l t os n (slice_index (letter_offsets a l os) (n + d))
    letter_step (letter_of_wrapper w) (itself e) apart =
        let k = child_of (wrap w t) e in root_step (letter_of_wrapper w) (wrap w t) (os ++ a ∷ []) e (wrap_root w k.lettered k.number)
    letter_step (letter_of_wrapper w) (within_wrap {n = n} _ h) apart = step_in (letter_of_wrapper w) [] (a ∷ []) n n (omega arith) h apart (λ u g. within_wrap w g)
    letter_step letter_t (itself e) apart =
        let k = child_of (two AndV t just_1) e in
        root_step letter_t (two AndV t just_1) (os ++ a ∷ a ∷ []) e
        (behind_root letter_t AndV just_1 refl (λ u. refl) k.lettered k.number k.own (apart_zero (os ++ a ∷ a ∷ []) d r apart))
    letter_step letter_t (within_left {n = n} _ h) apart = step_in letter_t [] (a ∷ a ∷ []) n n (omega arith) h apart (λ u g. within_left AndV g)
    letter_step letter_t (within_right _ (itself e)) apart = let k = child_of just_1 e in absurd (childless k.lettered refl)
    letter_step letter_l (itself e) apart =
        let k = child_of (two OrI just_0 t) e in
        root_step letter_l (two OrI just_0 t) (a ∷ (os ++ a ∷ [])) e
        (before_root_of k.lettered k.number k.own (apart_zero (a ∷ (os ++ a ∷ [])) d r apart))
    letter_step letter_l (within_left _ (itself e)) apart = let k = child_of just_0 e in absurd (childless k.lettered refl)
    letter_step letter_l (within_right {n = m} _ h) apart = step_in letter_l (a ∷ []) (a ∷ []) (1 + m) m refl h apart (λ u g. within_right OrI g)
    letter_step letter_u (itself e) apart =
        let k = child_of (two OrI t just_0) e in
        root_step letter_u (two OrI t just_0) (os ++ a ∷ a ∷ []) e
        (behind_root letter_u OrI just_0 refl (λ u. refl) k.lettered k.number k.own (apart_zero (os ++ a ∷ a ∷ []) d r apart))
    letter_step letter_u (within_left {n = n} _ h) apart = step_in letter_u [] (a ∷ a ∷ []) n n (omega arith) h apart (λ u g. within_left OrI g)
    letter_step letter_u (within_right _ (itself e)) apart = let k = child_of just_0 e in absurd (childless k.lettered refl)
