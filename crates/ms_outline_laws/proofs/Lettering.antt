-- A letter before a child that stands at another place than its parent: the tokens with it spell the tree with it.
use Rattle.std.proofs.Common.{◌≡◌, ℕ, ◌+◌, ◌≤◌, List, [], ◌∷◌, ◌++◌, length, length-append, slice_index, refl, sym, ap, ◌∙◌, subst, arith}
use Rattle.std.proofs.lemmas.List.{append_assoc, append-nil}
use Rattle.def_tree.specs.Children.{children}
use Rattle.def_tree.specs.Size.{nodes}
use Rattle.def_tree.specs.Tree.{Tree, Trees, just_0, and_or, two, thresh, none, more}
use Rattle.def_text.specs.Token.{Token, word, colon}
use Rattle.def_text.specs.Letter.{Letter, letter_word, letter_tree, letter_offsets, letters_tree, letters_offsets}
use Rattle.def_text.specs.Spells.{Spells, text_0, text_1, text_pk_k, text_pk_h, text_pk, text_pkh, text_older, text_after, text_hash, text_andor, text_two, text_and_n, text_thresh, text_multi, text_letters, SpellsChildren, last_child, next_child}
use Rattle.def_outline.specs.Fits.{over}
use Rattle.ms_outline_laws.proofs.Moved.{SpellsTree, SpellsTrees}
use Rattle.ms_outline_laws.proofs.Holes.{Hole, between, letter_last}
use Rattle.ms_outline_laws.proofs.Within.{Within, itself, within_x, within_y, within_z, within_left, within_right, within_child, within_wrap, Among, in_first, in_later, room, rooms}
use Rattle.ms_outline_laws.proofs.Contexts.{place_front, place_back, count, root_hole, in_left, in_right, in_n_left, in_n_right, in_x, in_y, in_z, in_last, in_this, in_next, in_thresh, in_letters}
use Rattle.ms_outline_laws.proofs.Putting.{Child, childless, child_below, count_children, within_list, moved_hole, andor_root, two_root, and_n_root, children_root, same_place, at_zero, apart_zero, LetterStep, at_letter, in_expression, letter_step}

-- ---- letters before a colon

-- the letter stands in the expression behind a run of letters, or in the midst of the run
data RunHole (L : Letter) (node : Tree) (others : Trees) (xs : List Token) (x : Tree) (ls : List Letter) (a n at : ℕ) : Type 0 where
  run_inside : (y : Tree) → Hole L xs at (SpellsTree y) → Within (over node others) n (letters_tree ls y) → RunHole L node others xs x ls a n at
  run_cut : (l : Letter) (front : List Letter) (m : Letter) (back : List Letter) → ls ≡ (l ∷ front) ++ m ∷ back → at ≡ a + length (l ∷ front) →
      Within (over node others) n (letters_tree (l ∷ front) (letter_tree L (letters_tree (m ∷ back) x))) → RunHole L node others xs x ls a n at

last_place : (a : ℕ) (l : Letter) (os : List ℕ) (k : ℕ) → k + 1 ≡ length (letter_offsets a l os) → slice_index (letter_offsets a l os) k ≡ a
last_place a l os k s =
    let (init, e) = letter_last a l os in
    ap (λ r. slice_index r k) e ∙ place_back init (a ∷ []) k 0 (omega (arith, s, ap length e, length-append init (a ∷ [])))

run_long : {xs : List Token} {x : Tree} {os : List ℕ} → Spells xs x os → (ls : List Letter) (a : ℕ) → length (letters_offsets a ls os) ≡ nodes (letters_tree ls x)
run_long h [] a = count h
run_long h (l ∷ ls) a = count (text_letters {a = a} {b = 0} l ls h)

module _ {L : Letter} {node : Tree} {others : Trees} {d r : ℕ} {xs : List Token} {x : Tree} {os : List ℕ} (hx : Spells xs x os) (a : ℕ) (l : Letter) where
  run_step : {n at : ℕ} (ls : List Letter) → LetterStep L node others d r l (letters_tree ls x) (letters_offsets (a + 1) ls os) n at →
      ((m : ℕ) → Within node m (letters_tree ls x) → ¬ (slice_index (letters_offsets (a + 1) ls os) (m + d) ≡ slice_index (letters_offsets (a + 1) ls os) (m + r)) →
      RunHole L node others xs x ls (a + 1) m (slice_index (letters_offsets (a + 1) ls os) (m + d))) → RunHole L node others xs x (l ∷ ls) a n at
  run_step {n = n} [] (at_letter zero_n k s at_is is) inner =
      run_inside (letter_tree L x) (moved_hole at_is (root_hole L hx k s))
      (subst (λ m. Within (over node others) m (letter_tree l (letter_tree L x))) (sym zero_n) (itself is))
  run_step (m ∷ ms) (at_letter zero_n k s at_is is) inner =
      run_cut l [] m ms refl (at_is ∙ last_place (a + 1) m (letters_offsets (a + 1 + 1) ms os) k (s ∙ sym (run_long hx (m ∷ ms) (a + 1))))
      (subst (λ n. Within (over node others) n (letter_tree l (letter_tree L (letters_tree (m ∷ ms) x)))) (sym zero_n) (itself is))
  run_step {at = at} ls (in_expression m w apart at_is goes) inner = elim (inner m w apart) [
    | run_inside y h v ↦ run_inside y (moved_hole at_is h) (goes (letters_tree ls y) v)
    | run_cut k front b back e at_b v ↦
        run_cut l (k ∷ front) b back (ap (λ r. l ∷ r) e) (omega (arith, at_is, at_b)) (goes (letters_tree (k ∷ front) (letter_tree L (letters_tree (b ∷ back) x))) v)
  ]

-- ---- all fragments

pub record Result (L : Letter) (node : Tree) (others : Trees) (ts : List Token) (n at : ℕ) : Type 0 where
  pub new : Tree
  pub hole : Hole L ts at (SpellsTree new)
  pub inside : Within (over node others) n new

pub record ResultAmong (L : Letter) (node : Tree) (others : Trees) (ts : List Token) (n at : ℕ) : Type 0 where
  pub new : Trees
  pub hole : Hole L ts at (SpellsTrees new)
  pub inside : Among (over node others) n new

module _ {L : Letter} {node : Tree} {others : Trees} {d r : ℕ} (child : Child L node others d r) where
  abbrev Apart : List ℕ → ℕ → Type 0
  Apart os n = ¬ (slice_index os (n + d) ≡ slice_index os (n + r))

  run_found : {xs : List Token} {x : Tree} {os : List ℕ} → Spells xs x os →
      ((n : ℕ) → Within node n x → Apart os n → Result L node others xs n (slice_index os (n + d))) →
      (ls : List Letter) (a n : ℕ) → Within node n (letters_tree ls x) → Apart (letters_offsets a ls os) n → RunHole L node others xs x ls a n (slice_index (letters_offsets a ls os) (n + d))
  run_found hx inner [] a n w apart = let res = inner n w apart in run_inside res.new res.hole res.inside
  run_found {x = x} {os = os} hx inner (l ∷ ls) a n w apart =
      run_step hx a l ls (letter_step a (letters_offsets (a + 1) ls os) (letters_tree ls x) (run_long hx ls (a + 1)) child l w apart)
      (λ m v k. run_found hx inner ls (a + 1) m v k)

  from_run : {xs : List Token} {x : Tree} {os : List ℕ} {a n at : ℕ} (b : ℕ) (l : Letter) (ls : List Letter) → Spells xs x os → RunHole L node others xs x (l ∷ ls) a n at →
      Result L node others (word a (letter_word (l ∷ ls)) ∷ colon b ∷ xs) n at
  from_run b l ls hx (run_inside y h w) = record { new = letters_tree (l ∷ ls) y; hole = in_letters l ls h; inside = w }
  from_run {xs = xs} {x = x} {a = a} {at = at} b l ls hx (run_cut k front m back e at_is w) = record {
    new = letters_tree (k ∷ front) (letter_tree L (letters_tree (m ∷ back) x));
    hole = subst (λ ks. Hole L (word a (letter_word ks) ∷ colon b ∷ xs) at (SpellsTree (letters_tree (k ∷ front) (letter_tree L (letters_tree (m ∷ back) x))))) (sym e)
        (between L k front m back a b at at_is hx);
    inside = w;
  }

  -- what stands in a part
  record Inner (all inner : List ℕ) (m n : ℕ) : Type 0 where
    pub apart : Apart inner n
    pub place : slice_index all (m + d) ≡ slice_index inner (n + d)

  inner_part : {all inner : List ℕ} (before behind : List ℕ) {m n : ℕ} → all ≡ before ++ inner ++ behind → m ≡ length before + n → n + nodes node ≤ length inner → Apart all m → Inner all inner m n
  inner_part {all = all} {inner = inner} before behind {m = m} {n = n} e s room apart =
      let at_d = ap (λ l. slice_index l (m + d)) e ∙ within_list before inner behind (m + d) (n + d) (omega (arith, s)) (omega (arith, room, child_below child, child.own)) in
      let at_r = ap (λ l. slice_index l (m + r)) e ∙ within_list before inner behind (m + r) (n + r) (omega (arith, s)) (omega (arith, room, child.own)) in
      record { apart = λ same. apart (at_d ∙ (same ∙ sym at_r)); place = at_d }

  no_child : {A : Type 0} {x : Tree} → node ≡ x → children x ≡ none → A
  no_child e s = absurd (childless child.lettered (ap children e ∙ s))

  as_root : {ts : List Token} {x : Tree} (all : List ℕ) → node ≡ x → Hole L ts (slice_index all d) (SpellsTree (over x others)) → Result L node others ts 0 (slice_index all (0 + d))
  as_root {x = x} all e h = record { new = over x others; hole = moved_hole (at_zero all d) h; inside = itself (ap (λ t. over t others) e) }

  moved_child : {x : Tree} → node ≡ x → Child L x others d r
  moved_child e = subst (λ t. Child L t others d r) e child

  mutual
    pub letter_found : {ts : List Token} {x : Tree} {os : List ℕ} → Spells ts x os → (n : ℕ) → Within node n x → Apart os n → Result L node others ts n (slice_index os (n + d))
    letter_found text_0 _ (itself e) apart = no_child e refl
    letter_found text_1 _ (itself e) apart = no_child e refl
    letter_found (text_pk_k h) _ (itself e) apart = no_child e refl
    letter_found (text_pk_h h) _ (itself e) apart = no_child e refl
    letter_found (text_pk {a = a} h) _ (itself e) apart = let c = moved_child e in absurd (same_place a refl c.lettered d r c.number c.own (apart_zero (a ∷ a ∷ []) d r apart))
    letter_found (text_pk h) _ (within_wrap w (itself e)) apart = no_child e refl
    letter_found (text_pkh {a = a} h) _ (itself e) apart = let c = moved_child e in absurd (same_place a refl c.lettered d r c.number c.own (apart_zero (a ∷ a ∷ []) d r apart))
    letter_found (text_pkh h) _ (within_wrap w (itself e)) apart = no_child e refl
    letter_found (text_older h) _ (itself e) apart = no_child e refl
    letter_found (text_after h) _ (itself e) apart = no_child e refl
    letter_found (text_hash kind h) _ (itself e) apart = no_child e refl
    letter_found (text_multi f h hk) _ (itself e) apart = no_child e refl
    letter_found (text_andor {a = a} f g h {os = os} {ps = ps} {qs = qs} hx hy hz) _ (itself e) apart =
        let c = moved_child e in as_root (os ++ ps ++ qs ++ a ∷ []) e (andor_root f g h hx hy hz c.lettered d c.number)
    letter_found (text_andor {a = a} f g h {y = y} {z = z} {os = os} {ps = ps} {qs = qs} hx hy hz) _ (within_x {n = n} w) apart =
        let i = inner_part [] (ps ++ (qs ++ a ∷ [])) (append_assoc (os ++ ps) qs (a ∷ []) ∙ append_assoc os ps (qs ++ a ∷ [])) (omega arith) (omega (arith, room w, count hx)) apart in
        let res = letter_found hx n w i.apart in
        record { new = and_or res.new y z; hole = moved_hole i.place (in_x f g h hy hz res.hole); inside = within_x res.inside }
    letter_found (text_andor {a = a} f g h {x = x} {z = z} {os = os} {ps = ps} {qs = qs} hx hy hz) _ (within_y {n = n} w) apart =
        let i = inner_part os (qs ++ a ∷ []) (append_assoc (os ++ ps) qs (a ∷ [])) (omega (arith, count hx)) (omega (arith, room w, count hy)) apart in
        let res = letter_found hy n w i.apart in
        record { new = and_or x res.new z; hole = moved_hole i.place (in_y f g h hx hz res.hole); inside = within_y res.inside }
    letter_found (text_andor {a = a} f g h {x = x} {y = y} {os = os} {ps = ps} {qs = qs} hx hy hz) _ (within_z {n = n} w) apart =
        let i = inner_part (os ++ ps) (a ∷ []) refl (omega (arith, count hx, count hy, length-append os ps)) (omega (arith, room w, count hz)) apart in
        let res = letter_found hz n w i.apart in
        record { new = and_or x y res.new; hole = moved_hole i.place (in_z f g h hx hy res.hole); inside = within_z res.inside }
    letter_found (text_two {a = a} kind f g {os = os} {ps = ps} hx hy) _ (itself e) apart =
        let c = moved_child e in as_root (os ++ ps ++ a ∷ []) e (two_root f g hx hy kind c.lettered d c.number)
    letter_found (text_two {a = a} kind f g {y = y} {os = os} {ps = ps} hx hy) _ (within_left {n = n} _ w) apart =
        let i = inner_part [] (ps ++ a ∷ []) (append_assoc os ps (a ∷ [])) (omega arith) (omega (arith, room w, count hx)) apart in
        let res = letter_found hx n w i.apart in
        record { new = two kind res.new y; hole = moved_hole i.place (in_left kind f g hy res.hole); inside = within_left kind res.inside }
    letter_found (text_two {a = a} kind f g {x = x} {os = os} {ps = ps} hx hy) _ (within_right {n = n} _ w) apart =
        let i = inner_part os (a ∷ []) refl (omega (arith, count hx)) (omega (arith, room w, count hy)) apart in
        let res = letter_found hy n w i.apart in
        record { new = two kind x res.new; hole = moved_hole i.place (in_right kind f g hx res.hole); inside = within_right kind res.inside }
    letter_found (text_and_n {a = a} f g {os = os} {ps = ps} hx hy) _ (itself e) apart =
        let c = moved_child e in as_root (os ++ ps ++ a ∷ a ∷ []) e (and_n_root f g hx hy c.lettered d r c.number c.own (apart_zero (os ++ ps ++ a ∷ a ∷ []) d r apart))
    letter_found (text_and_n {a = a} f g {y = y} {os = os} {ps = ps} hx hy) _ (within_x {n = n} w) apart =
        let i = inner_part [] (ps ++ a ∷ a ∷ []) (append_assoc os ps (a ∷ a ∷ [])) (omega arith) (omega (arith, room w, count hx)) apart in
        let res = letter_found hx n w i.apart in
        record { new = and_or res.new y just_0; hole = moved_hole i.place (in_n_left f g hy res.hole); inside = within_x res.inside }
    letter_found (text_and_n {a = a} f g {x = x} {os = os} {ps = ps} hx hy) _ (within_y {n = n} w) apart =
        let i = inner_part os (a ∷ a ∷ []) refl (omega (arith, count hx)) (omega (arith, room w, count hy)) apart in
        let res = letter_found hy n w i.apart in
        record { new = and_or x res.new just_0; hole = moved_hole i.place (in_n_right f g hx res.hole); inside = within_y res.inside }
    letter_found (text_and_n f g hx hy) _ (within_z (itself e)) apart = no_child e refl
    letter_found (text_thresh {a = a} f {k = k} {os = os} m hx) _ (itself e) apart =
        let c = moved_child e in
        as_root (os ++ a ∷ []) e (moved_hole (place_front os (a ∷ []) d (omega (arith, count_children hx, child_below c, c.own))) (in_thresh f m hx (children_root hx c.lettered d c.number)))
    letter_found (text_thresh {a = a} f {k = k} {os = os} m hx) _ (within_child {n = n} _ w) apart =
        let i = inner_part [] (a ∷ []) refl (omega arith) (omega (arith, rooms w, count_children hx)) apart in
        let res = letter_among hx n w i.apart in
        record { new = thresh k res.new; hole = moved_hole i.place (in_thresh f m hx res.hole); inside = within_child k res.inside }
    letter_found (text_letters {a = a} {b = b} l ls hx) n w apart =
        from_run b l ls hx (run_found hx (λ m v k. letter_found hx m v k) (l ∷ ls) a n w apart)

    pub letter_among : {ts : List Token} {xs : Trees} {os : List ℕ} → SpellsChildren ts xs os → (n : ℕ) → Among node n xs → Apart os n → ResultAmong L node others ts n (slice_index os (n + d))
    letter_among (last_child hx) _ (in_first {n = n} w) apart =
        let res = letter_found hx n w apart in record { new = more res.new none; hole = in_last res.hole; inside = in_first res.inside }
    letter_among (last_child hx) _ (in_later w) apart = elim w [ ]
    letter_among (next_child {xs = xs} {os = os} {ps = ps} hx hy) _ (in_first {n = n} w) apart =
        let i = inner_part [] ps refl (omega arith) (omega (arith, room w, count hx)) apart in
        let res = letter_found hx n w i.apart in
        record { new = more res.new xs; hole = moved_hole i.place (in_this hy res.hole); inside = in_first res.inside }
    letter_among (next_child {x = x} {os = os} {ps = ps} hx hy) _ (in_later {n = n} w) apart =
        let i = inner_part os [] (sym (append-nil (os ++ ps))) (omega (arith, count hx)) (omega (arith, rooms w, count_children hy)) apart in
        let res = letter_among hy n w i.apart in
        record { new = more x res.new; hole = moved_hole i.place (in_next hx hy res.hole); inside = in_later res.inside }
