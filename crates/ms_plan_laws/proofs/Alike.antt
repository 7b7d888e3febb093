-- Signatures of the same lengths: the strict choice takes the same keys, and its stacks differ in their signatures alone.
use Rattle.std.proofs.Common.{◌≡◌, Bool, true, false, List, [], ◌∷◌, ◌++◌, length, map, filter, Contains, Option, Some, None, is_some, refl, sym, ◌∙◌, ap, subst, ◌⊎◌, inl, inr, arith, if◌then◌else◌}
use Rattle.std.specs.Option.{option_map}
use Rattle.std.proofs.lemmas.Option.{none-some, same_Some}
use Rattle.std.proofs.lemmas.Bool.Decides.{nat_tests}
use Rattle.std.proofs.lemmas.List.{length-append}
use Rattle.std.proofs.lemmas.List.Elements.{Contains-append_left, Contains-append_right, Contains-append_cases}
use Rattle.def_script.specs.Bytes.{Bytes}
use Rattle.def_machine.specs.Stacks.{Stack, Pairs}
use Rattle.def_tree.specs.declared.Two.TheVariants as kind
use Rattle.def_tree.specs.declared.Wrapper.TheVariants as wrapper
use Rattle.def_tree.specs.Tree.{Tree, Trees, Key, just_0, just_1, pk_k, pk_h, and_or, two, thresh, multi, wrap, none, more}
use Rattle.def_tree.specs.Range.{count}
use Rattle.def_assets.specs.Assets.{Assets, sig_of}
use Rattle.def_script.specs.Witness.{weight}
use Rattle.def_satisfaction.specs.Rows.{EMPTY, ONE}
use Rattle.def_choice.specs.Sets.{sets}
use Rattle.def_choice.specs.Least.{item, both, lighter, least}
use Rattle.def_choice.specs.Cheapest.{stack_of, signatures_of, signatures}
use Rattle.def_choice.specs.Dissatisfaction.{dissatisfaction}
use Rattle.def_choice.specs.Strict.{free_first, free_children, has_all, strict_of, strict_children}
use Rattle.def_choice.specs.Free.{free}
use Rattle.def_choice.proofs.Best.{lighter-none}
use Rattle.def_choice.proofs.Weights.{weight-append}
use Rattle.ms_row_laws.proofs.KeyLists.{first_in, later_in, no_element}
use Rattle.def_plan.specs.Taken.{is_former, takes_former, set_taken, children_taken, signers_taken, keys_of_set, taken, taken_of_children}
use Rattle.ms_plan_laws.proofs.Moved.{with_pairs}
use Rattle.ms_plan_laws.proofs.Order.{first_or_other}

-- at one place the one stack has this item, and the other that one
abbrev pub BothHave : (w v : Stack) → (a b : Bytes) → Type 0
BothHave [] v a b = ⊥
BothHave (x ∷ w) [] a b = ⊥
BothHave (x ∷ w) (y ∷ v) a b = ((x ≡ a) × (y ≡ b)) ⊎ BothHave w v a b

pub have_cases : (w v w' v' : Stack) (a b : Bytes) → length w ≡ length v → BothHave (w ++ w') (v ++ v') a b → BothHave w v a b ⊎ BothHave w' v' a b
have_cases [] [] w' v' a b e h = inr h
have_cases (x ∷ w) (y ∷ v) w' v' a b e (inl h) = inl (inl h)
have_cases (x ∷ w) (y ∷ v) w' v' a b e (inr h) = elim (have_cases w v w' v' a b (omega (arith, e)) h) [ inl i ↦ inl (inr i) | inr i ↦ inr i ]
have_cases w v w' v' a b e h = absurd (omega (arith, e))

pub have_left : (w v w' v' : Stack) (a b : Bytes) → BothHave w v a b → BothHave (w ++ w') (v ++ v') a b
have_left [] v w' v' a b h = absurd h
have_left (x ∷ w) [] w' v' a b h = absurd h
have_left (x ∷ w) (y ∷ v) w' v' a b (inl h) = inl h
have_left (x ∷ w) (y ∷ v) w' v' a b (inr h) = inr (have_left w v w' v' a b h)

pub have_right : (w v w' v' : Stack) (a b : Bytes) → length w ≡ length v → BothHave w' v' a b → BothHave (w ++ w') (v ++ v') a b
have_right [] [] w' v' a b e h = h
have_right (x ∷ w) (y ∷ v) w' v' a b e h = inr (have_right w v w' v' a b (omega (arith, e)) h)
have_right w v w' v' a b e h = absurd (omega (arith, e))

have_same : (w : Stack) (a b : Bytes) → BothHave w w a b → a ≡ b
have_same [] a b h = absurd h
have_same (x ∷ w) a b (inl h) = sym h.0 ∙ h.1
have_same (x ∷ w) a b (inr h) = have_same w a b h

-- the keys of two lists
record Union (all below above : List Key) : Type 0 where
  cases : (k : Key) → Contains all k → Contains above k ⊎ Contains below k
  of_below : (k : Key) → Contains below k → Contains all k
  of_above : (k : Key) → Contains above k → Contains all k

union-append : (above below : List Key) → Union (above ++ below) below above
union-append above below = record {
  cases = Contains-append_cases above below;
  of_below = Contains-append_right above below;
  of_above = Contains-append_left above below;
}

union-above : (above : List Key) → Union above [] above
union-above above = record { cases = λ k i. inl i; of_below = λ k i. absurd (no_element k i); of_above = λ k i. i }

union-cons : (key : Key) (keys : List Key) → Union (key ∷ keys) (key ∷ []) keys
union-cons key keys = record {
  cases = λ k i. elim (first_or_other key keys k i) [ inl e ↦ inr (subst (Contains (key ∷ [])) (sym e) (first_in key [])) | inr j ↦ inl j ];
  of_below = λ k i. elim (first_or_other key [] k i) [ inl e ↦ subst (Contains (key ∷ keys)) (sym e) (first_in key keys) | inr j ↦ absurd (no_element k j) ];
  of_above = later_in key keys;
}

-- the same choice
if_same : {A : Type 0} (s t : Bool) (a b c d : A) → s ≡ t → a ≡ c → b ≡ d → (if s then a else b) ≡ (if t then c else d)
if_same s t a b c d e f g = rw (e, f, g) refl

module _ (assets : Assets) (pairs : Pairs) where
  abbrev there : Assets
  there = with_pairs assets pairs

  -- two stacks that differ in the signatures of these keys alone
  pub record Marks (keys : List Key) (w v : Stack) : Type 0 where
    pub size : length w ≡ length v
    pub light : weight w ≡ weight v
    pub sound : (a b : Bytes) → BothHave w v a b → (a ≡ b) ⊎ ((k : Key) × Contains keys k × (sig_of assets k ≡ Some a))
    pub full : (k : Key) → Contains keys k → (a : Bytes) × (b : Bytes) × BothHave w v a b × (sig_of assets k ≡ Some a) × (sig_of there k ≡ Some b)

  abbrev pub Same : List Key → (m n : Option Stack) → Type 0
  Same keys None None = Unit {0}
  Same keys None (Some v) = ⊥
  Same keys (Some w) None = ⊥
  Same keys (Some w) (Some v) = Marks keys w v

  same_plain : (m : Option Stack) → Same [] m m
  same_plain None = tt
  same_plain (Some w) = record {
    size = refl;
    light = refl;
    sound = λ a b h. inl (have_same w a b h);
    full = λ k i. absurd (no_element k i);
  }

  marks_both : (all below above : List Key) (w v w' v' : Stack) → Union all below above → Marks below w v → Marks above w' v' → Marks all (w' ++ w) (v' ++ v)
  marks_both all below above w v w' v' u p q = record {
    size = let a = p.size in let b = q.size in omega (arith, a, b, length-append w' w, length-append v' v);
    light = let a = p.light in let b = q.light in omega (arith, a, b, weight-append w' w, weight-append v' v);
    sound = λ a b h. elim (have_cases w' v' w v a b q.size h) [
      | inl i ↦ elim (q.sound a b i) [ inl e ↦ inl e | inr k ↦ inr (k.0, u.of_above k.0 k.1, k.2) ]
      | inr i ↦ elim (p.sound a b i) [ inl e ↦ inl e | inr k ↦ inr (k.0, u.of_below k.0 k.1, k.2) ]
    ];
    full = λ k i. elim (u.cases k i) [
      | inl j ↦ (let f = q.full k j in (f.0, f.1, have_left w' v' w v f.0 f.1 f.2, f.3, f.4))
      | inr j ↦ (let f = p.full k j in (f.0, f.1, have_right w' v' w v f.0 f.1 q.size f.2, f.3, f.4))
    ];
  }

  same_both : (all below above : List Key) (a b a' b' : Option Stack) → Union all below above → Same below a a' → Same above b b' → Same all (both a b) (both a' b')
  same_both all below above a b a' b' u p q = grind (arith, λ (w v w' v' : Stack). marks_both all below above w v w' v' u)

  same_former : (ka kb : List Key) (a b a' b' : Option Stack) → Same ka a a' → Same kb b b' → is_former a b ≡ is_former a' b'
  same_former ka kb a b a' b' p q = grind (arith, nat_tests)

  same_lighter : (ka kb : List Key) (a b a' b' : Option Stack) → Same ka a a' → Same kb b b' → Same (if is_former a b then ka else kb) (lighter a b) (lighter a' b')
  same_lighter ka kb a b a' b' p q = grind (arith, nat_tests)

  same_takes : (ka kb : List Key) (f g a b a' b' : Option Stack) → Same ka a a' → Same kb b b' → takes_former f g a b ≡ takes_former f g a' b'
  same_takes ka kb f g a b a' b' p q = grind (arith, same_former ka kb a b a' b' p q)

  same_first : (ka kb : List Key) (f g a b a' b' : Option Stack) → Same ka a a' → Same kb b b' → Same (if takes_former f g a b then ka else kb) (free_first f g a b) (free_first f g a' b')
  same_first ka kb f g a b a' b' p q = grind (arith, lighter-none b, lighter-none b', same_lighter ka kb a b a' b' p q)

  -- of sets
  same_sets : (keys : List Bool → List Key) (f g : List Bool → Option Stack) → ((set : List Bool) → Same (keys set) (f set) (g set)) → (xs : List (List Bool)) →
      (set_taken f xs ≡ set_taken g xs) × Same (keys (set_taken f xs)) (least (map f xs)) (least (map g xs))
  same_sets keys f g same [] = (refl, tt)
  same_sets keys f g same (x ∷ xs) =
      let r = same_sets keys f g same xs in (
        if_same _ _ x (set_taken f xs) x (set_taken g xs) (same_former (keys x) (keys (set_taken f xs)) (f x) (least (map f xs)) (g x) (least (map g xs)) (same x) r.1) refl r.0,
        pulled (is_former (f x) (least (map f xs))) (same_lighter (keys x) (keys (set_taken f xs)) (f x) (least (map f xs)) (g x) (least (map g xs)) (same x) r.1),
      )
    where
      pulled : (test : Bool) → Same (if test then keys x else keys (set_taken f xs)) (least (map f (x ∷ xs))) (least (map g (x ∷ xs))) →
          Same (keys (if test then x else set_taken f xs)) (least (map f (x ∷ xs))) (least (map g (x ∷ xs)))
      pulled test h = grind arith

  free_same : (xs : Trees) → free_children assets xs ≡ free_children there xs
  free_same none = refl
  free_same (more x xs) = ap (λ l. is_some (free assets x) ∷ l) (free_same xs)

  module _ (lengths : (key : Key) → option_map length (sig_of assets key) ≡ option_map length (sig_of there key)) where
    same_item : (key : Key) → Same (key ∷ []) (item (sig_of assets key)) (item (sig_of there key))
    same_item key = go (sig_of assets key) (sig_of there key) refl refl (lengths key)
      where
        long : (a b : Bytes) → Some (length a) ≡ Some (length b) → length a ≡ length b
        long a b h = same_Some (length a) (length b) h

        go : (m n : Option Bytes) → sig_of assets key ≡ m → sig_of there key ≡ n → option_map length m ≡ option_map length n → Same (key ∷ []) (item m) (item n)
        go None None e f h = tt
        go None (Some b) e f h = absurd (none-some (length b) h)
        go (Some a) None e f h = absurd (none-some (length a) (sym h))
        go (Some a) (Some b) e f h =
            let l = long a b h in
            record {
              size = refl;
              light = omega (arith, l);
              sound = λ x y i. inr (key, first_in key [], e ∙ ap Some (first x y i));
              full = λ k i. elim (first_or_other key [] k i) [
                | inl same ↦ (a, b, inl (refl, refl), ap (sig_of assets) same ∙ e, ap (sig_of there) same ∙ f)
                | inr j ↦ absurd (no_element k j)
              ];
            }
          where
            first : (x y : Bytes) → BothHave (a ∷ []) (b ∷ []) x y → a ≡ x
            first x y (inl i) = i.0
            first x y (inr i) = absurd i

    same_signers : (own : List Key) (set : List Bool) → Same (keys_of_set own set) (signatures_of assets own set) (signatures_of there own set)
    same_signers [] [] = same_plain (Some [])
    same_signers [] (b ∷ set) = tt
    same_signers (key ∷ own) [] = tt
    same_signers (key ∷ own) (true ∷ set) =
        same_both _ (key ∷ []) (keys_of_set own set) (item (sig_of assets key)) (signatures_of assets own set) (item (sig_of there key)) (signatures_of there own set)
        (union-cons key (keys_of_set own set)) (same_item key) (same_signers own set)
    same_signers (key ∷ own) (false ∷ set) = same_signers own set

    -- the same keys, and stacks that differ in their signatures alone
    record Part (one other : List Key) (m n : Option Stack) : Type 0 where
      keys : one ≡ other
      same : Same one m n

    abbrev Alike : Tree → Type 0
    Alike t = Part (taken assets t) (taken there t) (strict_of assets t) (strict_of there t)

    plain : (d : Option Stack) → Part [] [] d d
    plain d = record { keys = refl; same = same_plain d }

    -- one stack on top of another
    on_top : {kb lb ka la : List Key} {b b' a a' : Option Stack} → Part kb lb b b' → Part ka la a a' → Part (ka ++ kb) (la ++ lb) (both b a) (both b' a')
    on_top {kb} {lb} {ka} {la} {b} {b'} {a} {a'} p q = record {
      keys = ap (λ l. l ++ kb) q.keys ∙ ap (λ l. la ++ l) p.keys;
      same = same_both _ kb ka b a b' a' (union-append ka kb) p.same q.same;
    }

    -- one of two options
    one_taken : {kx kz lx lz : List Key} {a b a' b' : Option Stack} (f g : Option Stack) → Part kx lx a a' → Part kz lz b b' →
        Part (if takes_former f g a b then kx else kz) (if takes_former f g a' b' then lx else lz) (free_first f g a b) (free_first f g a' b')
    one_taken {kx} {kz} {lx} {lz} {a} {b} {a'} {b'} f g p q = record {
      keys = if_same _ _ kx kz lx lz (same_takes kx kz f g a b a' b' p.same q.same) p.keys q.keys;
      same = same_first kx kz f g a b a' b' p.same q.same;
    }

    mutual
      alike : (t : Tree) → Alike t
      alike just_0 = record { keys = refl; same = tt }
      alike just_1 = record { keys = refl; same = same_plain (Some []) }
      alike (pk_k key) = record { keys = refl; same = same_item key }
      alike (pk_h key) = on_top (record { keys = refl; same = same_item key }) (plain (Some (key ∷ [])))
      alike (and_or x y z) =
          one_taken (both (free assets y) (free assets x)) (both (free assets z) (dissatisfaction x))
          (on_top (alike y) (alike x)) (on_top (alike z) (plain (dissatisfaction x)))
      alike (two kind.AndV x y) = on_top (alike y) (alike x)
      alike (two kind.AndB x y) = on_top (alike y) (alike x)
      alike (two kind.OrB x z) =
          one_taken (both (dissatisfaction z) (free assets x)) (both (free assets z) (dissatisfaction x))
          (on_top (plain (dissatisfaction z)) (alike x)) (on_top (alike z) (plain (dissatisfaction x)))
      alike (two kind.OrI x z) =
          one_taken (both (free assets x) (Some (ONE ∷ []))) (both (free assets z) (Some (EMPTY ∷ [])))
          (on_top (alike x) (plain (Some (ONE ∷ [])))) (on_top (alike z) (plain (Some (EMPTY ∷ []))))
      alike (two which x z) = one_taken (free assets x) (both (free assets z) (dissatisfaction x)) (alike x) (on_top (alike z) (plain (dissatisfaction x)))
      alike (thresh k xs) =
          let listed = filter (has_all (free_children assets xs)) (sets (count xs) k) in
          let s = same_sets (taken_of_children assets xs) (stack_of (strict_children assets xs)) (stack_of (strict_children there xs)) (λ set. (children xs set).same) listed in
          let e : listed ≡ filter (has_all (free_children there xs)) (sets (count xs) k) = ap (λ l. filter (has_all l) (sets (count xs) k)) (free_same xs) in
          record {
            keys = (children xs (children_taken assets k xs)).keys ∙
                ap (taken_of_children there xs) (s.0 ∙ ap (set_taken (stack_of (strict_children there xs))) e);
            same = subst (λ l. Same (taken assets (thresh k xs)) (strict_of assets (thresh k xs)) (least (map (stack_of (strict_children there xs)) l))) e s.1;
          }
      alike (multi k own) =
          let s = same_sets (keys_of_set own) (signatures_of assets own) (signatures_of there own) (same_signers own) (sets (length own) k) in
          record {
            keys = ap (keys_of_set own) s.0;
            same =
                same_both _ [] (keys_of_set own (signers_taken assets k own)) (Some (EMPTY ∷ [])) (signatures assets k own) (Some (EMPTY ∷ [])) (signatures there k own)
                (union-above (keys_of_set own (signers_taken assets k own))) (same_plain (Some (EMPTY ∷ []))) s.1;
          }
      alike (wrap wrapper.D x) = on_top (alike x) (plain (Some (ONE ∷ [])))
      alike (wrap letter x) = alike x
      alike tree = plain _

      children : (xs : Trees) (set : List Bool) → Part (taken_of_children assets xs set) (taken_of_children there xs set) (stack_of (strict_children assets xs) set)
          (stack_of (strict_children there xs) set)
      children none [] = plain (Some [])
      children none (b ∷ set) = plain None
      children (more x xs) [] = plain None
      children (more x xs) (true ∷ set) = on_top (children xs set) (alike x)
      children (more x xs) (false ∷ set) = on_top (children xs set) (plain (dissatisfaction x))

    pub same_strict : (t : Tree) → (taken assets t ≡ taken there t) × Same (taken assets t) (strict_of assets t) (strict_of there t)
    same_strict t = ((alike t).keys, (alike t).same)
