-- A tree that is nested to the right has the malleability properties, the timelocks and the keys of the tree before.
use Rattle.std.proofs.Common.{inl, inr, ◌≡◌, ◌↔◌, ℕ, ◌+◌, Bool, true, false, ◌&&◌, ◌||◌, nat_le, List, [], ◌∷◌, ◌++◌, None, refl, sym, ◌∙◌, ap, subst, append_assoc, arith}
use Rattle.std.specs.Prelude.{⊤}
use Rattle.std.specs.List.{position_from}
use Rattle.std.proofs.lemmas.Bool.{cases_Bool}
use Rattle.def_tree.specs.declared.Two.{Two}
use Rattle.def_tree.specs.declared.Two.TheVariants as kind
use Rattle.def_tree.specs.declared.Wrapper.{Wrapper}
use Rattle.def_tree.specs.declared.Wrapper.TheVariants as wrapper
use Rattle.def_tree.specs.Tree.{Tree, Trees, Key, pk_h, and_or, two, thresh, wrap, none, more}
use Rattle.def_tree.specs.Nodes.{all_nodes, nodes_of_all}
use Rattle.def_types.specs.Row.{Need, AllHold}
use Rattle.def_types.specs.Malleable.{and_or_row, two_row, thresh_row, wrap_row}
use Rattle.def_types.specs.Typed.{properties_of, all_properties_of, IsMalleabilityTyped, AreMalleabilityTyped}
use Rattle.def_types.proofs.Rows.{malleability_rows}
use Rattle.def_sane.specs.Locks.{Kinds, union, kinds, kinds_of_all, conflict, kinds_of_each, some_conflict, mixes, mix}
use Rattle.def_sane.specs.Keys.{keys, keys_of_all}
use Rattle.def_decode.specs.Nested.{EachHashed, EachHashedOf}
use Rattle.ms_decode_laws.proofs.Moves.{out}
use Rattle.ms_decode_laws.proofs.Nest.{nest, nest_each}

-- ---- kinds that don't conflict

or_assoc : (a b c : Bool) → (a || (b || c)) ≡ ((a || b) || c)
or_assoc a b c = grind arith

union_assoc : (a b c : Kinds) → union a (union b c) ≡ union (union a b) c
union_assoc a b c = λ i. record {
  relative_time = or_assoc a.relative_time b.relative_time c.relative_time i;
  relative_height = or_assoc a.relative_height b.relative_height c.relative_height i;
  absolute_time = or_assoc a.absolute_time b.absolute_time c.absolute_time i;
  absolute_height = or_assoc a.absolute_height b.absolute_height c.absolute_height i;
}

spread_left : (p q r : Bool) → ((p || q) && r) ≡ ((p && r) || (q && r))
spread_left p q r = grind arith

spread_right : (p q r : Bool) → (r && (p || q)) ≡ ((r && p) || (r && q))
spread_right p q r = grind arith

four_pairs : (p q r s t u v w : Bool) → ((p || t) || (q || u) || (r || v) || (s || w)) ≡ ((p || q || r || s) || (t || u || v || w))
four_pairs p q r s t u v w = grind arith

neither : (p q r : Bool) → p ≡ (q || r) → (p ≡ false) ↔ ((q ≡ false) × (r ≡ false))
neither p q r e = (λ h. (grind arith, grind arith), λ h. grind arith)

union_left : (a b c : Kinds) → (conflict (union a b) c ≡ false) ↔ ((conflict a c ≡ false) × (conflict b c ≡ false))
union_left a b c = neither (conflict (union a b) c) (conflict a c) (conflict b c) (simp (spread_left, four_pairs))

union_right : (a b c : Kinds) → (conflict a (union b c) ≡ false) ↔ ((conflict a b ≡ false) × (conflict a c ≡ false))
union_right a b c = neither (conflict a (union b c)) (conflict a b) (conflict a c) (simp (spread_right, four_pairs))

-- ---- trees in which no node mixes

abbrev mutual
  NoMix : Tree → Type 0
  NoMix (and_or x y z) = NoMix x × NoMix y × NoMix z × (conflict (kinds x) (kinds y) ≡ false)
  NoMix (two kind x y) = NoMix x × NoMix y × (mixes (two kind x y) ≡ false)
  NoMix (thresh k xs) = AreNoMix xs × (mixes (thresh k xs) ≡ false)
  NoMix (wrap wrapper x) = NoMix x
  NoMix leaf = ⊤

  AreNoMix : Trees → Type 0
  AreNoMix none = ⊤
  AreNoMix (more x xs) = NoMix x × AreNoMix xs

-- no node of a list mixes
abbrev NoneMixes : List Tree → Type 0
NoneMixes [] = ⊤
NoneMixes (t ∷ ts) = (mixes t ≡ false) × NoneMixes ts

none_mixes-append : (ts us : List Tree) → NoneMixes (ts ++ us) ↔ (NoneMixes ts × NoneMixes us)
none_mixes-append [] us = (λ h. (tt, h), λ h. h.1)
none_mixes-append (t ∷ ts) us =
    let rest = none_mixes-append ts us in
    (λ h. ((h.0, (rest.0 h.1).0), (rest.0 h.1).1), λ h. (h.0.0, rest.1 (h.0.1, h.1)))

none_from_first : (first : ℕ) (ts : List Tree) → position_from mixes first ts ≡ None → NoneMixes ts
none_from_first first [] e = tt
none_from_first first (t ∷ ts) e = elim (cases_Bool (mixes t)) [
  | inl q ↦ (let f = rw q at e in cc)
  | inr q ↦ (q, none_from_first (first + 1) ts (rw q at e))
]

first_from_none : (first : ℕ) (ts : List Tree) → NoneMixes ts → position_from mixes first ts ≡ None
first_from_none first [] h = refl
first_from_none first (t ∷ ts) h = rw h.0 (first_from_none (first + 1) ts h.1)

mutual
  no_mix : (t : Tree) → NoneMixes (all_nodes t) ↔ NoMix t
  no_mix (and_or x y z) =
      simp (none_mixes-append, no_mix x, no_mix y, no_mix z)
      (λ h. (h.0.0.0, h.0.0.1, h.0.1, h.1.0), λ h. (((h.0, h.1), h.2), (h.3, tt)))
  no_mix (two kind x y) = simp (none_mixes-append, no_mix x, no_mix y) (λ h. (h.0.0, h.0.1, h.1.0), λ h. ((h.0, h.1), (h.2, tt)))
  no_mix (thresh k xs) = simp (none_mixes-append, no_mixes xs) (λ h. (h.0, h.1.0), λ h. (h.0, (h.1, tt)))
  no_mix (wrap wrapper x) = simp (none_mixes-append, no_mix x) (λ h. h.0, λ h. (h, (refl, tt)))
  no_mix leaf = (λ h. tt, λ h. (refl, tt))

  no_mixes : (xs : Trees) → NoneMixes (nodes_of_all xs) ↔ AreNoMix xs
  no_mixes none = (λ h. tt, λ h. tt)
  no_mixes (more x xs) = simp (none_mixes-append, no_mix x, no_mixes xs) (λ h. h, λ h. h)

mix_is_none : (t : Tree) → (mix t ≡ None) ↔ NoMix t
mix_is_none t = (λ e. (no_mix t).0 (none_from_first 0 (all_nodes t) e), λ h. first_from_none 0 (all_nodes t) ((no_mix t).1 h))

-- ---- what two trees have in common

record Same (t n : Tree) : Type 0 where
  properties : properties_of n ≡ properties_of t
  typed : IsMalleabilityTyped n ↔ IsMalleabilityTyped t
  locks : kinds n ≡ kinds t
  unmixed : NoMix n ↔ NoMix t

record AreSame (ts ns : Trees) : Type 0 where
  properties : all_properties_of ns ≡ all_properties_of ts
  typed : AreMalleabilityTyped ns ↔ AreMalleabilityTyped ts
  locks : kinds_of_all ns ≡ kinds_of_all ts
  each : kinds_of_each ns ≡ kinds_of_each ts
  unmixed : AreNoMix ns ↔ AreNoMix ts

itself : (t : Tree) → Same t t
itself t = record { properties = refl; typed = (λ h. h, λ h. h); locks = refl; unmixed = (λ h. h, λ h. h) }

through : (t m n : Tree) → Same t m → Same m n → Same t n
through t m n a b = record {
  properties = b.properties ∙ a.properties;
  typed = (λ h. a.typed.0 (b.typed.0 h), λ h. b.typed.1 (a.typed.1 h));
  locks = b.locks ∙ a.locks;
  unmixed = (λ h. a.unmixed.0 (b.unmixed.0 h), λ h. b.unmixed.1 (a.unmixed.1 h));
}

needed : (a b : List Need) → a ≡ b → AllHold a ↔ AllHold b
needed a b e = (λ h. subst AllHold e h, λ h. subst AllHold (sym e) h)

as_false : (a b : Bool) → a ≡ b → (a ≡ false) ↔ (b ≡ false)
as_false a b e = (λ h. sym e ∙ h, λ h. e ∙ h)

-- the fragments over children that are the same
same_and_or : (x y z n m o : Tree) → Same x n → Same y m → Same z o → Same (and_or x y z) (and_or n m o)
same_and_or x y z n m o a b c =
    let q = needed _ _ (λ k. (and_or_row (a.properties k) (b.properties k) (c.properties k)).needs) in
    let f = as_false _ _ (λ k. conflict (a.locks k) (b.locks k)) in
    record {
      properties = λ k. (and_or_row (a.properties k) (b.properties k) (c.properties k)).gives;
      typed = (λ h. (a.typed.0 h.0, b.typed.0 h.1, c.typed.0 h.2, q.0 h.3), λ h. (a.typed.1 h.0, b.typed.1 h.1, c.typed.1 h.2, q.1 h.3));
      locks = λ k. union (a.locks k) (union (b.locks k) (c.locks k));
      unmixed = (λ h. (a.unmixed.0 h.0, b.unmixed.0 h.1, c.unmixed.0 h.2, f.0 h.3), λ h. (a.unmixed.1 h.0, b.unmixed.1 h.1, c.unmixed.1 h.2, f.1 h.3));
    }

same_mixes : (b : Two) (x y n m : Tree) → kinds n ≡ kinds x → kinds m ≡ kinds y → mixes (two b n m) ≡ mixes (two b x y)
same_mixes kind.AndV x y n m e f = λ k. conflict (e k) (f k)
same_mixes kind.AndB x y n m e f = λ k. conflict (e k) (f k)
same_mixes b x y n m e f = refl

same_two : (b : Two) (x y n m : Tree) → Same x n → Same y m → Same (two b x y) (two b n m)
same_two b x y n m i j =
    let q = needed _ _ (λ k. (two_row b (i.properties k) (j.properties k)).needs) in
    let f = as_false _ _ (same_mixes b x y n m i.locks j.locks) in
    record {
      properties = λ k. (two_row b (i.properties k) (j.properties k)).gives;
      typed = (λ h. (i.typed.0 h.0, j.typed.0 h.1, q.0 h.2), λ h. (i.typed.1 h.0, j.typed.1 h.1, q.1 h.2));
      locks = λ k. union (i.locks k) (j.locks k);
      unmixed = (λ h. (i.unmixed.0 h.0, j.unmixed.0 h.1, f.0 h.2), λ h. (i.unmixed.1 h.0, j.unmixed.1 h.1, f.1 h.2));
    }

same_thresh : (n : ℕ) (ts ns : Trees) → AreSame ts ns → Same (thresh n ts) (thresh n ns)
same_thresh n ts ns i =
    let q = needed _ _ (λ k. (thresh_row n (i.properties k)).needs) in
    let f = as_false _ _ (λ k. nat_le 2 n && some_conflict (i.each k)) in
    record {
      properties = λ k. (thresh_row n (i.properties k)).gives;
      typed = (λ h. (i.typed.0 h.0, q.0 h.1), λ h. (i.typed.1 h.0, q.1 h.1));
      locks = i.locks;
      unmixed = (λ h. (i.unmixed.0 h.0, f.0 h.1), λ h. (i.unmixed.1 h.0, f.1 h.1));
    }

same_wrap : (w : Wrapper) (x n : Tree) → Same x n → Same (wrap w x) (wrap w n)
same_wrap w x n i =
    let q = needed _ _ (λ k. (wrap_row w (i.properties k)).needs) in
    record {
      properties = λ k. (wrap_row w (i.properties k)).gives;
      typed = (λ h. (i.typed.0 h.0, q.0 h.1), λ h. (i.typed.1 h.0, q.1 h.1));
      locks = i.locks;
      unmixed = i.unmixed;
    }

-- ---- an `and_v` moved outwards

-- f puts something around a tree, and can be moved into an `and_v`
abbrev Turns : (Tree → Tree) → Type 0
Turns f = (x y : Tree) → Same (f (two kind.AndV x y)) (two kind.AndV x (f y))

-- so it can be put around the last part of a chain
turned : (f : Tree → Tree) → Turns f → (t : Tree) → Same (f t) (out f t)
turned f moves (two kind.AndV x y) =
    through (f (two kind.AndV x y)) (two kind.AndV x (f y)) (two kind.AndV x (out f y)) (moves x y)
    (same_two kind.AndV x (f y) x (out f y) (itself x) (turned f moves y))
turned f moves t = itself (f t)

or_true : (a : Bool) → (a || true) ≡ true
or_true a = grind arith

c_turns : Turns (λ t. wrap wrapper.C t)
unfolding malleability_rows
c_turns x y = record {
  properties = λ k. record { s = or_true (properties_of x).s k; f = (properties_of x).s || (properties_of y).f; e = false };
  typed = (λ h. ((h.0, h.1.0, tt), tt), λ h. (h.0.0, (h.0.1, tt), tt));
  locks = refl;
  unmixed = (λ h. h, λ h. h);
}

v_turns : Turns (λ t. wrap wrapper.V t)
unfolding malleability_rows
v_turns x y = record {
  properties = λ k. record { s = (properties_of x).s || (properties_of y).s; f = or_true (properties_of x).s k; e = false };
  typed = (λ h. ((h.0, h.1.0, tt), tt), λ h. (h.0.0, (h.0.1, tt), tt));
  locks = refl;
  unmixed = (λ h. h, λ h. h);
}

n_turns : Turns (λ t. wrap wrapper.N t)
unfolding malleability_rows
n_turns x y = record {
  properties = refl;
  typed = (λ h. ((h.0, h.1.0, tt), tt), λ h. (h.0.0, (h.0.1, tt), tt));
  locks = refl;
  unmixed = (λ h. h, λ h. h);
}

-- the locks of three expressions that are asked for at once
mixed_three : (a b c : Kinds) →
    ((conflict b c ≡ false) × (conflict a (union b c) ≡ false)) ↔ ((conflict a b ≡ false) × (conflict (union a b) c ≡ false))
mixed_three a b c =
    let right = union_right a b c in
    let left = union_left a b c in (
      λ h. let p = right.0 h.1 in (p.0, left.1 (p.1, h.0)),
      λ h. let p = left.0 h.1 in (p.1, right.1 (h.0, p.0)),
    )

and_b_forced : (xs yf ys wf ws : Bool) → (xs || ((yf && wf) || (ys && yf) || (ws && wf))) ≡ (((xs || yf) && wf) || ((xs || ys) && (xs || yf)) || (ws && wf))
and_b_forced xs yf ys wf ws = grind arith

and_v_turns : (w : Tree) → Turns (λ t. two kind.AndV t w)
unfolding malleability_rows
and_v_turns w x y =
    let three = mixed_three (kinds x) (kinds y) (kinds w) in
    record {
      properties = λ k. record {
        s = or_assoc (properties_of x).s (properties_of y).s (properties_of w).s k;
        f = or_assoc (properties_of x).s (properties_of y).s (properties_of w).f k;
        e = false;
      };
      typed = (λ h. ((h.0, h.1.0, tt), h.1.1, tt), λ h. (h.0.0, (h.0.1, h.1, tt), tt));
      locks = union_assoc (kinds x) (kinds y) (kinds w);
      unmixed = (
        λ h. let p = three.0 (h.1.2, h.2) in ((h.0, h.1.0, p.0), h.1.1, p.1),
        λ h. let p = three.1 (h.0.2, h.2) in (h.0.0, (h.0.1, h.1, p.0), p.1),
      );
    }

and_b_turns : (w : Tree) → Turns (λ t. two kind.AndB t w)
unfolding malleability_rows
and_b_turns w x y =
    let three = mixed_three (kinds x) (kinds y) (kinds w) in
    record {
      properties = λ k. record {
        s = or_assoc (properties_of x).s (properties_of y).s (properties_of w).s k;
        f = and_b_forced (properties_of x).s (properties_of y).f (properties_of y).s (properties_of w).f (properties_of w).s k;
        e = false;
      };
      typed = (λ h. ((h.0, h.1.0, tt), h.1.1, tt), λ h. (h.0.0, (h.0.1, h.1, tt), tt));
      locks = union_assoc (kinds x) (kinds y) (kinds w);
      unmixed = (
        λ h. let p = three.0 (h.1.2, h.2) in ((h.0, h.1.0, p.0), h.1.1, p.1),
        λ h. let p = three.1 (h.0.2, h.2) in (h.0.0, (h.0.1, h.1, p.0), p.1),
      );
    }

-- ---- the nested tree

module _ (g : Key → Key) where
  around : (w : Wrapper) → Turns (λ t. wrap w t) → (x : Tree) → Same x (nest g x) → Same (wrap w x) (out (λ t. wrap w t) (nest g x))
  around w moves x i = through (wrap w x) (wrap w (nest g x)) _ (same_wrap w x (nest g x) i) (turned (λ t. wrap w t) moves (nest g x))

  beside : (b : Two) (x y : Tree) → Turns (λ t. two b t (nest g y)) → Same x (nest g x) → Same y (nest g y) → Same (two b x y) (out (λ t. two b t (nest g y)) (nest g x))
  beside b x y moves i j =
      through (two b x y) (two b (nest g x) (nest g y)) _ (same_two b x y (nest g x) (nest g y) i j) (turned (λ t. two b t (nest g y)) moves (nest g x))

  mutual
    same_nest : (t : Tree) → Same t (nest g t)
    same_nest (pk_h key) = record { properties = refl; typed = (λ h. h, λ h. h); locks = refl; unmixed = (λ h. h, λ h. h) }
    same_nest (and_or x y z) = same_and_or x y z (nest g x) (nest g y) (nest g z) (same_nest x) (same_nest y) (same_nest z)
    same_nest (two kind.AndV x y) = beside kind.AndV x y (and_v_turns (nest g y)) (same_nest x) (same_nest y)
    same_nest (two kind.AndB x y) = beside kind.AndB x y (and_b_turns (nest g y)) (same_nest x) (same_nest y)
    same_nest (two b x z) = same_two b x z (nest g x) (nest g z) (same_nest x) (same_nest z)
    same_nest (thresh n xs) = same_thresh n xs (nest_each g xs) (same_nests xs)
    same_nest (wrap wrapper.C x) = around wrapper.C c_turns x (same_nest x)
    same_nest (wrap wrapper.V x) = around wrapper.V v_turns x (same_nest x)
    same_nest (wrap wrapper.N x) = around wrapper.N n_turns x (same_nest x)
    same_nest (wrap w x) = same_wrap w x (nest g x) (same_nest x)
    same_nest leaf = itself leaf

    same_nests : (ts : Trees) → AreSame ts (nest_each g ts)
    same_nests none = record { properties = refl; typed = (λ h. h, λ h. h); locks = refl; each = refl; unmixed = (λ h. h, λ h. h) }
    same_nests (more x xs) =
        let i = same_nest x in
        let j = same_nests xs in
        record {
          properties = λ k. i.properties k ∷ j.properties k;
          typed = (λ h. (i.typed.0 h.0, j.typed.0 h.1), λ h. (i.typed.1 h.0, j.typed.1 h.1));
          locks = λ k. union (i.locks k) (j.locks k);
          each = λ k. i.locks k ∷ j.each k;
          unmixed = (λ h. (i.unmixed.0 h.0, j.unmixed.0 h.1), λ h. (i.unmixed.1 h.0, j.unmixed.1 h.1));
        }

  -- the malleability properties, and that no node mixes
  pub nest_properties : (t : Tree) → properties_of (nest g t) ≡ properties_of t
  nest_properties t = (same_nest t).properties

  pub nest_typed : (t : Tree) → IsMalleabilityTyped (nest g t) ↔ IsMalleabilityTyped t
  nest_typed t = (same_nest t).typed

  pub nest_mix : (t : Tree) → (mix (nest g t) ≡ None) ↔ (mix t ≡ None)
  nest_mix t =
      let a = mix_is_none (nest g t) in
      let b = mix_is_none t in
      let u = (same_nest t).unmixed in
      (λ e. b.1 (u.0 (a.0 e)), λ e. a.1 (u.1 (b.0 e)))

  -- what is put around a tree holds further keys behind it
  keys_out : (f : Tree → Tree) (own : List Key) → ((t : Tree) → keys (f t) ≡ keys t ++ own) → (t : Tree) → keys (out f t) ≡ keys t ++ own
  keys_out f own is (two kind.AndV x y) = ap (λ l. keys x ++ l) (keys_out f own is y) ∙ sym (append_assoc (keys x) (keys y) own)
  keys_out f own is t = is t

  -- or none
  keys_kept : (f : Tree → Tree) → ((t : Tree) → keys (f t) ≡ keys t) → (t : Tree) → keys (out f t) ≡ keys t
  keys_kept f is (two kind.AndV x y) = ap (λ l. keys x ++ l) (keys_kept f is y)
  keys_kept f is t = is t

  mutual
    -- the keys, where g leaves those of each `pk_h` as they are
    pub nest_keys : (t : Tree) → EachHashed (λ key. g key ≡ key) t → keys (nest g t) ≡ keys t
    nest_keys (pk_h key) h = λ k. h k ∷ []
    nest_keys (and_or x y z) h = λ k. nest_keys x h.0 k ++ nest_keys y h.1 k ++ nest_keys z h.2 k
    nest_keys (two kind.AndV x y) h =
        keys_out (λ t. two kind.AndV t (nest g y)) (keys (nest g y)) (λ t. refl) (nest g x) ∙ (λ k. nest_keys x h.0 k ++ nest_keys y h.1 k)
    nest_keys (two kind.AndB x y) h =
        keys_out (λ t. two kind.AndB t (nest g y)) (keys (nest g y)) (λ t. refl) (nest g x) ∙ (λ k. nest_keys x h.0 k ++ nest_keys y h.1 k)
    nest_keys (two b x z) h = λ k. nest_keys x h.0 k ++ nest_keys z h.1 k
    nest_keys (thresh n xs) h = nest_all_keys xs h
    nest_keys (wrap wrapper.C x) h = keys_kept (λ t. wrap wrapper.C t) (λ t. refl) (nest g x) ∙ nest_keys x h
    nest_keys (wrap wrapper.V x) h = keys_kept (λ t. wrap wrapper.V t) (λ t. refl) (nest g x) ∙ nest_keys x h
    nest_keys (wrap wrapper.N x) h = keys_kept (λ t. wrap wrapper.N t) (λ t. refl) (nest g x) ∙ nest_keys x h
    nest_keys (wrap w x) h = nest_keys x h
    nest_keys leaf h = refl

    nest_all_keys : (ts : Trees) → EachHashedOf (λ key. g key ≡ key) ts → keys_of_all (nest_each g ts) ≡ keys_of_all ts
    nest_all_keys none h = refl
    nest_all_keys (more x xs) h = λ k. nest_keys x h.0 k ++ nest_all_keys xs h.1 k
