-- An `and_v` is moved outwards: what stands around it is put around its second child.
use Rattle.std.proofs.Common.{◌≡◌, Bool, true, false, ◌&&◌, ◌||◌, IsTrue, List, Option, None, refl, sym, ◌∙◌, ap, subst, arith}
use Rattle.def_script.specs.Instruction.{Instruction}
use Rattle.def_tree.specs.declared.Two.TheVariants as kind
use Rattle.def_tree.specs.declared.Wrapper.TheVariants as wrapper
use Rattle.def_tree.specs.Tree.{Tree, Key, pk_k, pk_h, and_or, two, wrap}
use Rattle.def_tree.specs.Range.{IsWritable}
use Rattle.def_types.specs.declared.Base.{Base}
use Rattle.def_types.specs.declared.Base.TheVariants.{B}
use Rattle.def_types.specs.declared.CorrectnessType.{CorrectnessType}
use Rattle.def_types.specs.Row.{Row, AllHold}
use Rattle.def_types.specs.Correctness.{is_b, is_v, is_k, two_row, wrap_row}
use Rattle.def_types.specs.Typed.{type_of, IsTyped}
use Rattle.def_types.proofs.Rows.{correctness_rows}
use Rattle.def_limits.specs.Formal.{Takes}
use Rattle.def_limits.specs.Scaffolding.Most.{both, most_sat, most_dsat}
use Rattle.def_decode.specs.Nested.{is_and_v, RightNested, EachHashed}
use Rattle.ms_decode_laws.proofs.Onto.{onto}

-- the second child of an `and_v` is no W
abbrev IsPart : Base → Type 0
IsPart b = IsTrue (is_b b || is_k b || is_v b)

-- f puts something around a tree, and can be moved into an `and_v`
pub record Moves (P : Key → Type 0) (f : Tree → Tree) (row : CorrectnessType → Row CorrectnessType) : Type 0 where
  pub type : (t : Tree) → type_of (f t) ≡ (row (type_of t)).gives
  pub typed : (t : Tree) → IsTyped t → AllHold (row (type_of t)).needs → IsTyped (f t)
  pub nested : (t : Tree) → is_and_v t ≡ false → RightNested t → RightNested (f t)
  pub writable : (t : Tree) → IsWritable t → IsWritable (f t)
  pub hashed : (t : Tree) → EachHashed P t → EachHashed P (f t)
  pub needs : (x y : Tree) → AllHold (row (type_of (two kind.AndV x y))).needs → AllHold (row (type_of y)).needs × IsPart (row (type_of y)).gives.base
  pub same : (x y : Tree) → IsTyped y → AllHold (row (type_of (two kind.AndV x y))).needs → (two_row kind.AndV (type_of x) (row (type_of y)).gives).gives ≡ (row (type_of (two kind.AndV x y))).gives
  pub sat : (x y : Tree) → both (most_sat (f y)) (most_sat x) ≡ most_sat (f (two kind.AndV x y))
  pub dsat : (x y : Tree) → None ≡ most_dsat (f (two kind.AndV x y))
  pub order : (x y : Tree) (l : List Instruction) → onto (f y) (onto x l) ≡ onto (f (two kind.AndV x y)) l

-- f around the last part of a chain of `and_v`
abbrev pub out : (Tree → Tree) → Tree → Tree
out f (two kind.AndV x y) = two kind.AndV x (out f y)
out f t = f t

pub record Moved (P : Key → Type 0) (f : Tree → Tree) (row : CorrectnessType → Row CorrectnessType) (t : Tree) : Type 0 where
  pub type : type_of (out f t) ≡ (row (type_of t)).gives
  pub typed : IsTyped (out f t)
  pub nested : RightNested (out f t)
  pub writable : IsWritable (out f t)
  pub hashed : EachHashed P (out f t)
  pub sat : most_sat (out f t) ≡ most_sat (f t)
  pub dsat : most_dsat (out f t) ≡ most_dsat (f t)
  pub order : (l : List Instruction) → onto (out f t) l ≡ onto (f t) l

module _ (P : Key → Type 0) (f : Tree → Tree) (row : CorrectnessType → Row CorrectnessType) (m : Moves P f row) where
  pub moved : (t : Tree) → IsTyped t → AllHold (row (type_of t)).needs → RightNested t → IsWritable t → EachHashed P t → Moved P f row t
  unfolding correctness_rows
  moved (two kind.AndV x y) typed needs nested writable hashed =
      let below = m.needs x y needs in
      let i = moved y typed.1 below.0 nested.2 writable.1 hashed.1 in
      record {
        type = ap (λ (ty : CorrectnessType). (two_row kind.AndV (type_of x) ty).gives) i.type ∙ m.same x y typed.1 needs;
        typed = (typed.0, i.typed, (typed.2.0, (subst (λ (ty : CorrectnessType). IsPart ty.base) (sym i.type) below.1, tt)));
        nested = (nested.0, nested.1, i.nested);
        writable = (writable.0, i.writable);
        hashed = (hashed.0, i.hashed);
        sat = ap (λ (o : Option Takes). both o (most_sat x)) i.sat ∙ m.sat x y;
        dsat = m.dsat x y;
        order = λ l. i.order (onto x l) ∙ m.order x y l;
      }
  moved t typed needs nested writable hashed = record {
    type = m.type t;
    typed = m.typed t typed needs;
    nested = m.nested t refl nested;
    writable = m.writable t writable;
    hashed = m.hashed t hashed;
    sat = refl;
    dsat = refl;
    order = λ l. refl;
  }

-- a K isn't z
mid_false : (a b c : Bool) → b ≡ false → (a && b && c) ≡ false
mid_false a b c e = grind arith

right_false : (a b : Bool) → b ≡ false → (a && b) ≡ false
right_false a b e = grind arith

k_not_z : (t : Tree) → is_k (type_of t).base ≡ true → IsTyped t → (type_of t).z ≡ false
unfolding correctness_rows
k_not_z (pk_k key) k h = refl
k_not_z (pk_h key) k h = refl
k_not_z (and_or x y z) k h = mid_false (type_of x).z (type_of y).z (type_of z).z (k_not_z y k h.1)
k_not_z (two kind.AndV x y) k h = right_false (type_of x).z (type_of y).z (k_not_z y k h.1)
k_not_z (two kind.OrI x y) k h = refl
k_not_z (wrap wrapper.A x) k h = cc
k_not_z other k h = cc

-- three expressions one after the other: z, o and n
and_assoc : (a b c : Bool) → (a && (b && c)) ≡ ((a && b) && c)
and_assoc a b c = grind arith

o_same : (xz xo yz yo wz wo : Bool) → ((xz && ((yz && wo) || (wz && yo))) || ((yz && wz) && xo)) ≡ (((xz && yz) && wo) || (wz && ((xz && yo) || (yz && xo))))
o_same xz xo yz yo wz wo = grind arith

n_same : (xn xz yn yz wn : Bool) → (xn || (xz && (yn || (yz && wn)))) ≡ ((xn || (xz && yn)) || ((xz && yz) && wn))
n_same xn xz yn yz wn = grind arith

-- what three take
both_assoc : (a b c : Option Takes) → both (both a b) c ≡ both a (both b c)
both_assoc a b c = grind arith

both_none : (a : Option Takes) → None ≡ both a None
both_none a = grind arith

-- the five moves
module _ (P : Key → Type 0) where
  c_same : (x y : CorrectnessType) → y.z ≡ false → (two_row kind.AndV x (wrap_row wrapper.C y).gives).gives ≡ (wrap_row wrapper.C (two_row kind.AndV x y).gives).gives
  unfolding correctness_rows
  c_same x y no_z = λ i. record {
    base = B;
    z = right_false x.z false refl i;
    o = (x.z && y.o) || (sym no_z i && x.o);
    n = x.n || (x.z && y.n);
    d = false;
    u = true;
  }

  pub c_moves : Moves P (λ t. wrap wrapper.C t) (wrap_row wrapper.C)
  unfolding correctness_rows
  c_moves = record {
    type = λ t. refl;
    typed = λ t h n. (h, n);
    nested = λ t e h. (e, h);
    writable = λ t h. h;
    hashed = λ t h. h;
    needs = λ x y h. (h, refl);
    same = λ x y h n. c_same (type_of x) (type_of y) (k_not_z y n.0 h);
    sat = λ x y. refl;
    dsat = λ x y. refl;
    order = λ x y l. refl;
  }

  pub v_moves : Moves P (λ t. wrap wrapper.V t) (wrap_row wrapper.V)
  unfolding correctness_rows
  v_moves = record {
    type = λ t. refl;
    typed = λ t h n. (h, n);
    nested = λ t e h. (e, h);
    writable = λ t h. h;
    hashed = λ t h. h;
    needs = λ x y h. (h, refl);
    same = λ x y h n. refl;
    sat = λ x y. refl;
    dsat = λ x y. refl;
    order = λ x y l. refl;
  }

  pub n_moves : Moves P (λ t. wrap wrapper.N t) (wrap_row wrapper.N)
  unfolding correctness_rows
  n_moves = record {
    type = λ t. refl;
    typed = λ t h n. (h, n);
    nested = λ t e h. (e, h);
    writable = λ t h. h;
    hashed = λ t h. h;
    needs = λ x y h. (h, refl);
    same = λ x y h n. refl;
    sat = λ x y. refl;
    dsat = λ x y. refl;
    order = λ x y l. refl;
  }

  module _ (w : Tree) (w_typed : IsTyped w) (w_nested : RightNested w) (w_writable : IsWritable w) (w_hashed : EachHashed P w) where
    pub and_b_moves : Moves P (λ t. two kind.AndB t w) (λ ty. two_row kind.AndB ty (type_of w))
    unfolding correctness_rows
    and_b_moves = record {
      type = λ t. refl;
      typed = λ t h n. (h, w_typed, n);
      nested = λ t e h. (e, h, w_nested);
      writable = λ t h. (h, w_writable);
      hashed = λ t h. (h, w_hashed);
      needs = λ x y h. (h, refl);
      same = λ x y h n. λ i. record {
        base = B;
        z = and_assoc (type_of x).z (type_of y).z (type_of w).z i;
        o = o_same (type_of x).z (type_of x).o (type_of y).z (type_of y).o (type_of w).z (type_of w).o i;
        n = n_same (type_of x).n (type_of x).z (type_of y).n (type_of y).z (type_of w).n i;
        d = false;
        u = true;
      };
      sat = λ x y. both_assoc (most_sat w) (most_sat y) (most_sat x);
      dsat = λ x y. both_none (most_dsat w);
      order = λ x y l. refl;
    }

    pub and_v_moves : Moves P (λ t. two kind.AndV t w) (λ ty. two_row kind.AndV ty (type_of w))
    unfolding correctness_rows
    and_v_moves = record {
      type = λ t. refl;
      typed = λ t h n. (h, w_typed, n);
      nested = λ t e h. (e, h, w_nested);
      writable = λ t h. (h, w_writable);
      hashed = λ t h. (h, w_hashed);
      needs = λ x y h. (h, h.1.0);
      same = λ x y h n. λ i. record {
        base = (type_of w).base;
        z = and_assoc (type_of x).z (type_of y).z (type_of w).z i;
        o = o_same (type_of x).z (type_of x).o (type_of y).z (type_of y).o (type_of w).z (type_of w).o i;
        n = n_same (type_of x).n (type_of x).z (type_of y).n (type_of y).z (type_of w).n i;
        d = false;
        u = (type_of w).u;
      };
      sat = λ x y. both_assoc (most_sat w) (most_sat y) (most_sat x);
      dsat = λ x y. refl;
      order = λ x y l. refl;
    }
