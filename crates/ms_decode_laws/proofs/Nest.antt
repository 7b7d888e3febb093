-- Each tree has one that is nested to the right, with the same Script, type and formal satisfactions.
use Rattle.std.proofs.Common.{◌≡◌, ℕ, ◌+◌, ◌≤◌, List, ◌∷◌, length, refl, sym, ◌∙◌, ap, subst}
use Rattle.def_hash.specs.Hash.{hash160}
use Rattle.def_script.specs.declared.Op.TheVariants as op
use Rattle.def_script.specs.Instruction.{Instruction, push, code}
use Rattle.def_tree.specs.declared.Two.{Two}
use Rattle.def_tree.specs.declared.Two.TheVariants as kind
use Rattle.def_tree.specs.declared.Wrapper.{Wrapper}
use Rattle.def_tree.specs.declared.Wrapper.TheVariants as wrapper
use Rattle.def_tree.specs.Tree.{Tree, Trees, Key, pk_h, and_or, two, thresh, wrap, none, more}
use Rattle.def_tree.specs.Range.{IsKey, IsWritable, AreWritable, count}
use Rattle.def_types.specs.declared.CorrectnessType.{CorrectnessType}
use Rattle.def_types.specs.Row.{Row, AllHold}
use Rattle.def_types.specs.Correctness.{and_or_row, two_row, thresh_row, wrap_row}
use Rattle.def_types.specs.Typed.{type_of, types_of, IsTyped, AreTyped}
use Rattle.def_emit.specs.Emit.{push_number}
use Rattle.def_script.specs.Signature.{MAX_SIGNATURE_SIZE}
use Rattle.def_limits.specs.Formal.{item, plus, empty, one}
use Rattle.def_limits.specs.Scaffolding.Most.{both, either, counted, most_sat, most_dsat, most_parts}
use Rattle.std.specs.Prelude.{Some}
use Rattle.def_decode.specs.Nested.{RightNested, AreRightNested, EachHashed, EachHashedOf}
use Rattle.ms_decode_laws.proofs.Onto.{fused, onto, onto_sum, onto_added}
use Rattle.ms_decode_laws.proofs.Moves.{Moves, out, moved, c_moves, v_moves, n_moves, and_b_moves, and_v_moves}
use Rattle.def_script.proofs.KeyLemmas.{key_length}

-- every `and_v` moved outwards, and `g` of each `pk_h` key
abbrev mutual
  pub nest : (Key → Key) → Tree → Tree
  nest g (pk_h key) = pk_h (g key)
  nest g (and_or x y z) = and_or (nest g x) (nest g y) (nest g z)
  nest g (two kind.AndV x y) = out (λ t. two kind.AndV t (nest g y)) (nest g x)
  nest g (two kind.AndB x y) = out (λ t. two kind.AndB t (nest g y)) (nest g x)
  nest g (two b x z) = two b (nest g x) (nest g z)
  nest g (thresh k xs) = thresh k (nest_each g xs)
  nest g (wrap wrapper.C x) = out (λ t. wrap wrapper.C t) (nest g x)
  nest g (wrap wrapper.V x) = out (λ t. wrap wrapper.V t) (nest g x)
  nest g (wrap wrapper.N x) = out (λ t. wrap wrapper.N t) (nest g x)
  nest g (wrap w x) = wrap w (nest g x)
  nest g leaf = leaf

  pub nest_each : (Key → Key) → Trees → Trees
  nest_each g none = none
  nest_each g (more x xs) = more (nest g x) (nest_each g xs)

-- what stays, and what holds of the nested tree
pub record IsNest (P : Key → Type 0) (t n : Tree) : Type 0 where
  pub type : type_of n ≡ type_of t
  pub typed : IsTyped n
  pub nested : RightNested n
  pub writable : IsWritable n
  pub hashed : EachHashed P n
  pub sat : most_sat n ≡ most_sat t
  pub dsat : most_dsat n ≡ most_dsat t
  pub order : (l : List Instruction) → onto n l ≡ onto t l

pub record AreNest (P : Key → Type 0) (ts ns : Trees) : Type 0 where
  pub types : types_of ns ≡ types_of ts
  pub typed : AreTyped ns
  pub nested : AreRightNested ns
  pub writable : AreWritable ns
  pub same_count : count ns ≡ count ts
  pub hashed : EachHashedOf P ns
  pub parts : most_parts ns ≡ most_parts ts
  pub added : (l : List Instruction) → onto_added ns l ≡ onto_added ts l
  pub sum : (l : List Instruction) → onto_sum ns l ≡ onto_sum ts l

-- g gives a key with the same HASH160
module _ (P : Key → Type 0) (g : Key → Key) (same_hash : (k : Key) → hash160 (g k) ≡ hash160 k) where
  -- of a `pk_h` key
  abbrev Found : Key → Type 0
  Found k = P (g k) × IsKey (g k)

  -- what is put around a tree that is nested already is moved outwards
  around : (f : Tree → Tree) (row : CorrectnessType → Row CorrectnessType) (t x n : Tree) → Moves P f row → IsNest P x n → AllHold (row (type_of x)).needs
      → (row (type_of x)).gives ≡ type_of t → most_sat (f n) ≡ most_sat t → most_dsat (f n) ≡ most_dsat t
      → ((l : List Instruction) → onto (f n) l ≡ onto t l) → IsNest P t (out f n)
  around f row t x n moves i needs type sat dsat order =
      let m = moved P f row moves n i.typed (subst (λ (ty : CorrectnessType). AllHold (row ty).needs) (sym i.type) needs) i.nested i.writable i.hashed in
      record {
        type = m.type ∙ ap (λ (ty : CorrectnessType). (row ty).gives) i.type ∙ type;
        typed = m.typed;
        nested = m.nested;
        writable = m.writable;
        hashed = m.hashed;
        sat = m.sat ∙ sat;
        dsat = m.dsat ∙ dsat;
        order = λ l. m.order l ∙ order l;
      }

  -- a wrapper that stays where it is
  kept : (w : Wrapper) (x n : Tree) → IsNest P x n → AllHold (wrap_row w (type_of x)).needs → RightNested (wrap w n) → most_sat (wrap w n)
      ≡ most_sat (wrap w x) → most_dsat (wrap w n) ≡ most_dsat (wrap w x) → ((l : List Instruction) → onto (wrap w n) l ≡ onto (wrap w x) l)
      → IsNest P (wrap w x) (wrap w n)
  kept w x n i needs nested sat dsat order = record {
    type = ap (λ (ty : CorrectnessType). (wrap_row w ty).gives) i.type;
    typed = (i.typed, subst (λ (ty : CorrectnessType). AllHold (wrap_row w ty).needs) (sym i.type) needs);
    nested = nested;
    writable = i.writable;
    hashed = i.hashed;
    sat = sat;
    dsat = dsat;
    order = order;
  }

  -- two children that stay where they are
  beside : (b : Two) (x y n m : Tree) → IsNest P x n → IsNest P y m → AllHold (two_row b (type_of x) (type_of y)).needs → RightNested (two b n m)
      → most_sat (two b n m) ≡ most_sat (two b x y) → most_dsat (two b n m) ≡ most_dsat (two b x y)
      → ((l : List Instruction) → onto (two b n m) l ≡ onto (two b x y) l) → IsNest P (two b x y) (two b n m)
  beside b x y n m i j needs nested sat dsat order = record {
    type = λ k. (two_row b (i.type k) (j.type k)).gives;
    typed = (
      i.typed,
      j.typed,
      subst (λ (ty : CorrectnessType). AllHold (two_row b ty (type_of m)).needs) (sym i.type) (subst (λ (ty : CorrectnessType). AllHold (two_row b
          (type_of x) ty).needs) (sym j.type) needs),
    );
    nested = nested;
    writable = (i.writable, j.writable);
    hashed = (i.hashed, j.hashed);
    sat = sat;
    dsat = dsat;
    order = order;
  }

  mutual
    pub is_nest : (t : Tree) → IsTyped t → IsWritable t → EachHashed Found t → IsNest P t (nest g t)
    is_nest (pk_h key) h w e =
        let same : length (g key) ≡ length key = key_length (g key) e.1.form ∙ sym (key_length key w.form) in
        record {
          type = refl;
          typed = h;
          nested = tt;
          writable = e.1;
          hashed = e.0;
          sat = λ k. Some (plus (item MAX_SIGNATURE_SIZE) (item (same k)));
          dsat = λ k. Some (plus empty (item (same k)));
          order = λ l. λ k. code op.EqualVerify ∷ push (same_hash key k) ∷ code op.Hash160 ∷ code op.Dup ∷ l;
        }
    is_nest (and_or x y z) h w e =
        let a = is_nest x h.0 w.0 e.0 in
        let b = is_nest y h.1 w.1 e.1 in
        let c = is_nest z h.2 w.2 e.2 in
        record {
          type = λ k. (and_or_row (a.type k) (b.type k) (c.type k)).gives;
          typed = (
            a.typed,
            b.typed,
            c.typed,
            subst (λ (ty : CorrectnessType). AllHold (and_or_row ty (type_of (nest g y)) (type_of (nest g z))).needs) (sym a.type)
                (subst (λ (ty : CorrectnessType). AllHold (and_or_row (type_of x) ty (type_of (nest g z))).needs) (sym b.type)
                (subst (λ (ty : CorrectnessType). AllHold (and_or_row (type_of x) (type_of y) ty).needs) (sym c.type) h.3)),
          );
          nested = (a.nested, b.nested, c.nested);
          writable = (a.writable, b.writable, c.writable);
          hashed = (a.hashed, b.hashed, c.hashed);
          sat = λ k. either (both (b.sat k) (a.sat k)) (both (c.sat k) (a.dsat k));
          dsat = λ k. both (c.dsat k) (a.dsat k);
          order = λ l.
              ap (λ m. code op.EndIf ∷ m)
              (b.order (code op.Else ∷ onto (nest g z) (code op.NotIf ∷ onto (nest g x) l))
              ∙ ap (λ m. onto y (code op.Else ∷ m)) (c.order (code op.NotIf ∷ onto (nest g x) l) ∙ ap (λ m. onto z (code op.NotIf ∷ m)) (a.order l)));
        }
    is_nest (two kind.AndV x y) h w e =
        let i = is_nest x h.0 w.0 e.0 in
        let j = is_nest y h.1 w.1 e.1 in
        around (λ (t : Tree). two kind.AndV t (nest g y)) (λ (ty : CorrectnessType). two_row kind.AndV ty (type_of (nest g y))) (two kind.AndV x y) x (nest g x)
        (and_v_moves P (nest g y) j.typed j.nested j.writable j.hashed) i
        (subst (λ (ty : CorrectnessType). AllHold (two_row kind.AndV (type_of x) ty).needs) (sym j.type) h.2)
        (λ k. (two_row kind.AndV (type_of x) (j.type k)).gives) (λ k. both (j.sat k) (i.sat k)) refl
        (λ l. j.order (onto (nest g x) l) ∙ ap (onto y) (i.order l))
    is_nest (two kind.AndB x y) h w e =
        let i = is_nest x h.0 w.0 e.0 in
        let j = is_nest y h.1 w.1 e.1 in
        around (λ (t : Tree). two kind.AndB t (nest g y)) (λ (ty : CorrectnessType). two_row kind.AndB ty (type_of (nest g y))) (two kind.AndB x y) x (nest g x)
        (and_b_moves P (nest g y) j.typed j.nested j.writable j.hashed) i
        (subst (λ (ty : CorrectnessType). AllHold (two_row kind.AndB (type_of x) ty).needs) (sym j.type) h.2)
        (λ k. (two_row kind.AndB (type_of x) (j.type k)).gives) (λ k. both (j.sat k) (i.sat k)) (λ k. both (j.dsat k) (i.dsat k))
        (λ l. ap (λ o. code op.BoolAnd ∷ o) (j.order (onto (nest g x) l) ∙ ap (onto y) (i.order l)))
    is_nest (two kind.OrB x z) h w e =
        let i = is_nest x h.0 w.0 e.0 in
        let j = is_nest z h.1 w.1 e.1 in
        beside kind.OrB x z (nest g x) (nest g z) i j h.2 (i.nested, j.nested)
        (λ k. either (both (j.dsat k) (i.sat k)) (both (j.sat k) (i.dsat k)))
        (λ k. both (j.dsat k) (i.dsat k))
        (λ l. ap (λ o. code op.BoolOr ∷ o) (j.order (onto (nest g x) l) ∙ ap (onto z) (i.order l)))
    is_nest (two kind.OrC x z) h w e =
        let i = is_nest x h.0 w.0 e.0 in
        let j = is_nest z h.1 w.1 e.1 in
        beside kind.OrC x z (nest g x) (nest g z) i j h.2 (i.nested, j.nested)
        (λ k. either (i.sat k) (both (j.sat k) (i.dsat k)))
        refl
        (λ l. ap (λ o. code op.EndIf ∷ o) (j.order (code op.NotIf ∷ onto (nest g x) l) ∙ ap (λ o. onto z (code op.NotIf ∷ o)) (i.order l)))
    is_nest (two kind.OrD x z) h w e =
        let i = is_nest x h.0 w.0 e.0 in
        let j = is_nest z h.1 w.1 e.1 in
        beside kind.OrD x z (nest g x) (nest g z) i j h.2 (i.nested, j.nested)
        (λ k. either (i.sat k) (both (j.sat k) (i.dsat k)))
        (λ k. both (j.dsat k) (i.dsat k))
        (λ l. ap (λ o. code op.EndIf ∷ o) (j.order (code op.NotIf ∷ code op.IfDup ∷ onto (nest g x) l) ∙ ap (λ o. onto z (code op.NotIf ∷ code op.IfDup ∷ o)) (i.order l)))
    is_nest (two kind.OrI x z) h w e =
        let i = is_nest x h.0 w.0 e.0 in
        let j = is_nest z h.1 w.1 e.1 in
        beside kind.OrI x z (nest g x) (nest g z) i j h.2 (i.nested, j.nested)
        (λ k. either (both (i.sat k) (Some one)) (both (j.sat k) (Some empty)))
        (λ k. either (both (i.dsat k) (Some one)) (both (j.dsat k) (Some empty)))
        (λ l. ap (λ o. code op.EndIf ∷ o) (j.order (code op.Else ∷ onto (nest g x) (code op.If ∷ l)) ∙ ap (λ o. onto z (code op.Else ∷ o)) (i.order (code op.If ∷ l))))
    is_nest (thresh n xs) h w e =
        let i = are_nest xs h.0 w.2 e in
        record {
          type = ap (λ (tys : List CorrectnessType). (thresh_row n tys).gives) i.types;
          typed = (i.typed, subst (λ (tys : List CorrectnessType). AllHold (thresh_row n tys).needs) (sym i.types) h.1);
          nested = i.nested;
          writable = (w.0, subst (λ (c : ℕ). 1 ≤ c) (sym i.same_count) w.1, i.writable);
          hashed = i.hashed;
          sat = λ k. i.parts k n;
          dsat = λ k. i.parts k 0;
          order = λ l. ap (λ o. code op.Equal ∷ push_number n ∷ o) (i.sum l);
        }
    is_nest (wrap wrapper.A x) h w e =
        let i = is_nest x h.0 w e in
        kept wrapper.A x (nest g x) i h.1 i.nested i.sat i.dsat (λ l. ap (λ o. code op.FromAltStack ∷ o) (i.order (code op.ToAltStack ∷ l)))
    is_nest (wrap wrapper.S x) h w e =
        let i = is_nest x h.0 w e in
        kept wrapper.S x (nest g x) i h.1 i.nested i.sat i.dsat (λ l. i.order (code op.Swap ∷ l))
    is_nest (wrap wrapper.C x) h w e =
        let i = is_nest x h.0 w e in
        around (λ (t : Tree). wrap wrapper.C t) (wrap_row wrapper.C) (wrap wrapper.C x) x (nest g x) (c_moves P) i h.1 refl i.sat i.dsat
        (λ l. ap (λ o. code op.CheckSig ∷ o) (i.order l))
    is_nest (wrap wrapper.D x) h w e =
        let i = is_nest x h.0 w e in
        kept wrapper.D x (nest g x) i h.1 i.nested (λ k. both (i.sat k) (Some one)) refl (λ l. ap (λ o. code op.EndIf ∷ o) (i.order (code op.If ∷ code op.Dup ∷ l)))
    is_nest (wrap wrapper.V x) h w e =
        let i = is_nest x h.0 w e in
        around (λ (t : Tree). wrap wrapper.V t) (wrap_row wrapper.V) (wrap wrapper.V x) x (nest g x) (v_moves P) i h.1 refl i.sat refl
        (λ l. ap fused (i.order l))
    is_nest (wrap wrapper.J x) h w e =
        let i = is_nest x h.0 w e in
        kept wrapper.J x (nest g x) i h.1 i.nested i.sat refl (λ l. ap (λ o. code op.EndIf ∷ o) (i.order (code op.If ∷ code op.ZeroNotEqual ∷ code op.Size ∷ l)))
    is_nest (wrap wrapper.N x) h w e =
        let i = is_nest x h.0 w e in
        around (λ (t : Tree). wrap wrapper.N t) (wrap_row wrapper.N) (wrap wrapper.N x) x (nest g x) (n_moves P) i h.1 refl i.sat i.dsat
        (λ l. ap (λ o. code op.ZeroNotEqual ∷ o) (i.order l))
    is_nest leaf h w e = record { type = refl; typed = h; nested = tt; writable = w; hashed = tt; sat = refl; dsat = refl; order = λ l. refl }

    are_nest : (ts : Trees) → AreTyped ts → AreWritable ts → EachHashedOf Found ts → AreNest P ts (nest_each g ts)
    are_nest none h w e = record { types = refl; typed = tt; nested = tt; writable = tt; same_count = refl; hashed = tt; parts = refl; added = λ l. refl; sum = λ l. refl }
    are_nest (more x xs) h w e =
        let i = is_nest x h.0 w.0 e.0 in
        let j = are_nest xs h.1 w.1 e.1 in
        record {
          types = λ k. i.type k ∷ j.types k;
          typed = (i.typed, j.typed);
          nested = (i.nested, j.nested);
          writable = (i.writable, j.writable);
          same_count = ap (λ (c : ℕ). c + 1) j.same_count;
          hashed = (i.hashed, j.hashed);
          parts = λ k. counted (i.sat k) (i.dsat k) (j.parts k);
          added = λ l. j.added (code op.Add ∷ onto (nest g x) l) ∙ ap (λ o. onto_added xs (code op.Add ∷ o)) (i.order l);
          sum = λ l. j.added (onto (nest g x) l) ∙ ap (onto_added xs) (i.order l);
        }
