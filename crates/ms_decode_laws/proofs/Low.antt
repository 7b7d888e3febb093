-- A tree that is nested to the right is hardly deeper than its Script has opcodes.
use Rattle.std.proofs.Common.{◌≡◌, ◌≢◌, ℕ, ◌+◌, ◌≤◌, Bool, true, false, ◌&&◌, ◌||◌, List, [], ◌∷◌, map, if◌then◌else◌, refl, sym, ◌∙◌, ap, arith}
use Rattle.std.proofs.lemmas.Bool.{or_right, or_left, and_parts}
use Rattle.def_script.specs.declared.Op.TheVariants as op
use Rattle.def_script.specs.Instruction.{Instruction, push, code, opcode_count}
use Rattle.def_tree.specs.declared.Two.TheVariants as kind
use Rattle.def_tree.specs.declared.Wrapper.TheVariants as wrapper
use Rattle.def_tree.specs.Tree.{Tree, Trees, Key, just_0, just_1, pk_k, pk_h, older, after, hash, and_or, two, thresh, multi, wrap, none, more}
use Rattle.def_tree.specs.InRange.{depth, depth_of}
use Rattle.def_types.specs.declared.Base.{Base}
use Rattle.def_types.specs.declared.Base.TheVariants.{B, V, K, W}
use Rattle.def_types.specs.Correctness.{all_z, all_z_but_one}
use Rattle.def_types.specs.Typed.{type_of, types_of, IsTyped, AreTyped}
use Rattle.def_types.proofs.Rows.{correctness_rows}
use Rattle.def_types.proofs.Facts.{OthersFit, typed-and_or, typed-and_v, typed-and_b, typed-or_b, typed-or_c, typed-or_d, typed-or_i, typed-thresh, typed-thresh_none, typed-wrap_a, typed-wrap_s, typed-wrap_c, typed-wrap_d, typed-wrap_v, typed-wrap_j, typed-wrap_n}
use Rattle.def_emit.specs.Emit.{push_number}
use Rattle.def_decode.specs.Nested.{is_and_v, RightNested, AreRightNested}
use Rattle.ms_decode_laws.proofs.Onto.{back, fused, onto, onto_sum, onto_added}

-- VERIFY behind the expression is fused
abbrev pub fuses : Tree → Bool
fuses (hash kind value) = true
fuses (thresh k xs) = true
fuses (multi k keys) = true
fuses (wrap wrapper.C x) = true
fuses other = false

-- the opcodes of the Script
abbrev mutual
  pub ops : Tree → ℕ
  ops just_0 = 0
  ops just_1 = 0
  ops (pk_k key) = 0
  ops (pk_h key) = 3
  ops (older n) = 1
  ops (after n) = 1
  ops (hash kind value) = 4
  ops (and_or x y z) = ops x + ops y + ops z + 3
  ops (two kind.AndV x y) = ops x + ops y
  ops (two kind.AndB x y) = ops x + ops y + 1
  ops (two kind.OrB x z) = ops x + ops z + 1
  ops (two kind.OrC x z) = ops x + ops z + 2
  ops (two kind.OrD x z) = ops x + ops z + 3
  ops (two kind.OrI x z) = ops x + ops z + 3
  ops (thresh k xs) = ops_sum xs + 1
  ops (multi k keys) = 1
  ops (wrap wrapper.A x) = ops x + 2
  ops (wrap wrapper.S x) = ops x + 1
  ops (wrap wrapper.C x) = ops x + 1
  ops (wrap wrapper.D x) = ops x + 3
  ops (wrap wrapper.V x) = ops x + (if fuses x then 0 else 1)
  ops (wrap wrapper.J x) = ops x + 4
  ops (wrap wrapper.N x) = ops x + 1

  pub ops_sum : Trees → ℕ
  ops_sum none = 0
  ops_sum (more x xs) = ops x + ops_added xs

  pub ops_added : Trees → ℕ
  ops_added none = 0
  ops_added (more x xs) = ops x + 1 + ops_added xs

-- the first instruction is one with which VERIFY is fused
abbrev pub head_fuses : List Instruction → Bool
head_fuses (code op.Equal ∷ l) = true
head_fuses (code op.CheckSig ∷ l) = true
head_fuses (code op.CheckMultiSig ∷ l) = true
head_fuses l = false

count_fused : (l : List Instruction) → opcode_count (fused l) ≡ opcode_count l + (if head_fuses l then 0 else 1)
count_fused l = grind arith

head_of : (t : Tree) → is_and_v t ≡ false → (type_of t).base ≡ B → (l : List Instruction) → head_fuses (onto t l) ≡ fuses t
unfolding correctness_rows
head_of (two kind.AndV x y) n b l = cc
head_of (wrap wrapper.S x) n b l = cc
head_of (wrap wrapper.V x) n b l = cc
head_of other n b l = refl

count_pushes : (keys : List Key) (l : List Instruction) → opcode_count (back (map push keys) l) ≡ opcode_count l
count_pushes [] l = refl
count_pushes (key ∷ keys) l = count_pushes keys (push key ∷ l)

mutual
  pub ops-onto : (t : Tree) → IsTyped t → RightNested t → (l : List Instruction) → opcode_count (onto t l) ≡ ops t + opcode_count l
  ops-onto (and_or x y z) h n l =
      omega (arith, ops-onto x h.0 n.0 l, ops-onto z h.2 n.2 (code op.NotIf ∷ onto x l), ops-onto y h.1 n.1 (code op.Else ∷ onto z (code op.NotIf ∷ onto x l)))
  ops-onto (two kind.OrB x y) h n l = omega (arith, ops-onto x h.0 n.0 l, ops-onto y h.1 n.1 (onto x l))
  ops-onto (two kind.OrC x y) h n l = omega (arith, ops-onto x h.0 n.0 l, ops-onto y h.1 n.1 (code op.NotIf ∷ onto x l))
  ops-onto (two kind.OrD x y) h n l = omega (arith, ops-onto x h.0 n.0 l, ops-onto y h.1 n.1 (code op.NotIf ∷ code op.IfDup ∷ onto x l))
  ops-onto (two kind.OrI x y) h n l = omega (arith, ops-onto x h.0 n.0 (code op.If ∷ l), ops-onto y h.1 n.1 (code op.Else ∷ onto x (code op.If ∷ l)))
  ops-onto (two b x y) h n l = omega (arith, ops-onto x h.0 n.1 l, ops-onto y h.1 n.2 (onto x l))
  ops-onto (thresh k xs) h n l = omega (arith, ops_sum-onto xs h.0 n l)
  ops-onto (multi k keys) h n l = omega (arith, count_pushes keys (push_number k ∷ l))
  ops-onto (wrap wrapper.A x) h n l = omega (arith, ops-onto x h.0 n (code op.ToAltStack ∷ l))
  ops-onto (wrap wrapper.S x) h n l = omega (arith, ops-onto x h.0 n (code op.Swap ∷ l))
  ops-onto (wrap wrapper.D x) h n l = omega (arith, ops-onto x h.0 n (code op.If ∷ code op.Dup ∷ l))
  ops-onto (wrap wrapper.V x) h n l =
      let f = typed-wrap_v x h in
      let a : opcode_count (onto x l) ≡ ops x + opcode_count l = ops-onto x h.0 n.1 l in
      let b : opcode_count (fused (onto x l)) ≡ opcode_count (onto x l) + (if fuses x then 0 else 1) =
      count_fused (onto x l) ∙ ap (λ (q : Bool). opcode_count (onto x l) + (if q then 0 else 1)) (head_of x n.0 f.1 l) in
      moved_sum (opcode_count (fused (onto x l))) (opcode_count (onto x l)) (ops x) (opcode_count l) (if fuses x then 0 else 1) b a
    where
      moved_sum : (f o p q r : ℕ) → f ≡ o + r → o ≡ p + q → f ≡ p + r + q
      moved_sum f o p q r e d = omega arith
  ops-onto (wrap wrapper.J x) h n l = omega (arith, ops-onto x h.0 n (code op.If ∷ code op.ZeroNotEqual ∷ code op.Size ∷ l))
  ops-onto (wrap w x) h n l = omega (arith, ops-onto x h.0 n.1 l)
  ops-onto leaf h n l = omega arith

  ops_sum-onto : (xs : Trees) → AreTyped xs → AreRightNested xs → (l : List Instruction) → opcode_count (onto_sum xs l) ≡ ops_sum xs + opcode_count l
  ops_sum-onto none h n l = omega arith
  ops_sum-onto (more x xs) h n l = omega (arith, ops-onto x h.0 n.0 l, ops_added-onto xs h.1 n.1 (onto x l))

  ops_added-onto : (xs : Trees) → AreTyped xs → AreRightNested xs → (l : List Instruction) → opcode_count (onto_added xs l) ≡ ops_added xs + opcode_count l
  ops_added-onto none h n l = omega arith
  ops_added-onto (more x xs) h n l = omega (arith, ops-onto x h.0 n.0 l, ops_added-onto xs h.1 n.1 (code op.Add ∷ onto x l))

-- it takes no argument or one
abbrev small : Tree → Bool
small t = (type_of t).z || (type_of t).o

-- how much deeper it is
pub record Low (t : Tree) : Type 0 where
  pub four : depth t ≤ ops t + 4
  four_small : small t ≡ true → depth t ≤ ops t + 3
  three : is_and_v t ≡ false → depth t ≤ ops t + 3
  three_small : is_and_v t ≡ false → small t ≡ true → depth t ≤ ops t + 2
  two_k : is_and_v t ≡ false → (type_of t).base ≡ K → depth t ≤ ops t + 2
  two_d : (type_of t).d ≡ true → depth t ≤ ops t + 2
  two_fused : fuses t ≡ true → depth t ≤ ops t + 2
  one : is_and_v t ≡ false → (type_of t).base ≢ V → small t ≡ true → depth t ≤ ops t + 1
  v_op : (type_of t).base ≡ V → 1 ≤ ops t
  w_op : (type_of t).base ≡ W → 1 ≤ ops t
  w_big : (type_of t).base ≡ W → small t ≡ false

low_one : (t : Tree) → depth t ≤ ops t + 1 → ((type_of t).base ≡ V → 1 ≤ ops t) → ((type_of t).base ≢ W) → Low t
low_one t d v w = grind arith

low_two : (t : Tree) → depth t ≤ ops t + 2 → (small t ≡ true → depth t ≤ ops t + 1) → 1 ≤ ops t → ((type_of t).base ≢ W) → Low t
low_two t d s v w = grind arith

-- a type V
low_v : (t : Tree) → (type_of t).base ≡ V → (type_of t).d ≡ false → fuses t ≡ false → depth t ≤ ops t + 3 → (small t ≡ true → depth t ≤ ops t + 2) → 1 ≤ ops t → Low t
low_v t b no_d no_f d s v = grind arith

-- a type W
low_w : (t : Tree) → (type_of t).base ≡ W → small t ≡ false → fuses t ≡ false → depth t ≤ ops t + 3 → ((type_of t).d ≡ true → depth t ≤ ops t + 2) → 1 ≤ ops t → Low t
low_w t b no_s no_f d e v = grind arith

-- a type B on which no VERIFY is fused
low_b : (t : Tree) → (type_of t).base ≡ B → fuses t ≡ false → depth t ≤ ops t + 3 → (small t ≡ true → depth t ≤ ops t + 1) → ((type_of t).d ≡ true → depth t ≤ ops t + 2) → Low t
low_b t b no_f d s e = grind arith

-- which parts take no argument or one
and_or_small : (xz xo yz yo zz zo : Bool) → ((xz && yz && zz) || ((xz && yo && zo) || (xo && yz && zz))) ≡ true → ((yz || yo) ≡ true) × ((zz || zo) ≡ true)
and_or_small xz xo yz yo zz zo e = (grind arith, grind arith)

pair_small : (xz xo yz yo : Bool) → ((xz && yz) || ((xz && yo) || (yz && xo))) ≡ true → ((xz || xo) ≡ true) × ((yz || yo) ≡ true)
pair_small xz xo yz yo e = (grind arith, grind arith)

else_small : (xz xo zz zo : Bool) → ((xz && zz) || (xo && zz)) ≡ true → (zz || zo) ≡ true
else_small xz xo zz zo e = grind arith

alone_small : (xz xo : Bool) → ((xz && true) || ((xo && true) || (xz && false))) ≡ true → (xz || xo) ≡ true
alone_small xz xo e = grind arith

many_small : (xz xo yz yo r s : Bool) → ((xz && (yz && r)) || ((xo && (yz && r)) || (xz && ((yo && r) || (yz && s))))) ≡ true → (yz || yo) ≡ true
many_small xz xo yz yo r s e = grind arith

-- a dissatisfiable one is no `and_v`, and a W is none
pub d_no_and_v : (t : Tree) → (type_of t).d ≡ true → is_and_v t ≡ false
unfolding correctness_rows
d_no_and_v (two kind.AndV x y) e = cc
d_no_and_v other e = refl

pub w_no_and_v : (t : Tree) → IsTyped t → (type_of t).base ≡ W → is_and_v t ≡ false
unfolding correctness_rows
w_no_and_v (two kind.AndV x y) h e = absurd ((typed-and_v x y h).3 e)
w_no_and_v other h e = refl

fuses_op : (t : Tree) → fuses t ≡ true → 1 ≤ ops t
fuses_op t e = grind arith

-- VERIFY behind one
v_three : (b : Bool) (d o : ℕ) → (b ≡ true → d ≤ o + 2) → d ≤ o + 3 → d + 1 ≤ o + (if b then 0 else 1) + 3
v_three b d o f h = grind arith

v_two : (b : Bool) (d o : ℕ) → d ≤ o + 1 → d + 1 ≤ o + (if b then 0 else 1) + 2
v_two b d o h = grind arith

v_one : (b : Bool) (o : ℕ) → (b ≡ true → 1 ≤ o) → 1 ≤ o + (if b then 0 else 1)
v_one b o f = grind arith

pub not_w : (b c : Base) → b ≡ c → c ≢ W → b ≢ W
not_w b c e n = λ h. n (sym e ∙ h)

mutual
  unfolding correctness_rows

  pub low : (t : Tree) → IsTyped t → RightNested t → Low t
  low (and_or x y z) h n =
      let f = typed-and_or x y z h in
      let a = low x f.0 n.0 in
      let b = low y f.1 n.1 in
      let c = low z f.2 n.2 in
      let p : depth x ≤ ops x + 2 = a.two_d f.4 in
      low_two (and_or x y z) (omega arith)
      (λ s.
      let i = and_or_small (type_of x).z (type_of x).o (type_of y).z (type_of y).o (type_of z).z (type_of z).o s in
      omega (arith, b.four_small i.0, c.four_small i.1))
      (omega arith) f.7
  low (two kind.AndV x y) h n =
      let f = typed-and_v x y h in
      let a = low x f.0 n.1 in
      let b = low y f.1 n.2 in
      let p : depth x ≤ ops x + 3 = a.three n.0 in
      let o : 1 ≤ ops x = a.v_op f.2 in
      record {
        four = omega arith;
        four_small = λ s.
            let i = pair_small (type_of x).z (type_of x).o (type_of y).z (type_of y).o s in
            omega (arith, a.three_small n.0 i.0, b.four_small i.1);
        three = λ e. cc;
        three_small = λ e s. cc;
        two_k = λ e k. cc;
        two_d = λ e. cc;
        two_fused = λ e. cc;
        one = λ e k s. cc;
        v_op = λ e. omega arith;
        w_op = λ e. omega arith;
        w_big = λ e. absurd (f.3 e);
      }
  low (two kind.AndB x y) h n =
      let f = typed-and_b x y h in
      let a = low x f.0 n.1 in
      let b = low y f.1 n.2 in
      let p : depth x ≤ ops x + 3 = a.three n.0 in
      let q : depth y ≤ ops y + 3 = b.three (w_no_and_v y f.1 f.3) in
      let big : small y ≡ false = b.w_big f.3 in
      low_b (two kind.AndB x y) refl refl (omega arith)
      (λ s. let i : small y ≡ true = (pair_small (type_of x).z (type_of x).o (type_of y).z (type_of y).o s).1 in cc)
      (λ d.
      let i = and_parts (type_of x).d (type_of y).d d in
      omega (arith, a.two_d i.0, b.two_d i.1))
  low (two kind.OrB x y) h n =
      let f = typed-or_b x y h in
      let a = low x f.0 n.0 in
      let b = low y f.1 n.1 in
      let p : depth x ≤ ops x + 2 = a.two_d f.3 in
      let q : depth y ≤ ops y + 2 = b.two_d f.5 in
      let big : small y ≡ false = b.w_big f.4 in
      low_two (two kind.OrB x y) (omega arith)
      (λ s. let i : small y ≡ true = (pair_small (type_of x).z (type_of x).o (type_of y).z (type_of y).o s).1 in cc)
      (omega arith) (λ e. cc)
  low (two kind.OrC x y) h n =
      let f = typed-or_c x y h in
      let a = low x f.0 n.0 in
      let b = low y f.1 n.1 in
      let p : depth x ≤ ops x + 2 = a.two_d f.3 in
      low_v (two kind.OrC x y) refl refl refl (omega arith)
      (λ s.
      let i = else_small (type_of x).z (type_of x).o (type_of y).z (type_of y).o s in
      omega (arith, b.four_small i))
      (omega arith)
  low (two kind.OrD x y) h n =
      let f = typed-or_d x y h in
      let a = low x f.0 n.0 in
      let b = low y f.1 n.1 in
      let p : depth x ≤ ops x + 2 = a.two_d f.3 in
      low_two (two kind.OrD x y) (omega arith)
      (λ s.
      let i = else_small (type_of x).z (type_of x).o (type_of y).z (type_of y).o s in
      omega (arith, b.four_small i))
      (omega arith) (λ e. cc)
  low (two kind.OrI x y) h n =
      let f = typed-or_i x y h in
      let a = low x f.0 n.0 in
      let b = low y f.1 n.1 in
      low_two (two kind.OrI x y) (omega arith)
      (λ s.
      let i = and_parts (type_of x).z (type_of y).z s in
      omega (arith, a.four_small (or_left (type_of x).z (type_of x).o i.0), b.four_small (or_left (type_of y).z (type_of y).o i.1)))
      (omega arith) f.3
  low (thresh k none) h n = absurd (typed-thresh_none k h)
  low (thresh k (more x none)) h n =
      let f = typed-thresh k x none h in
      let a = low x f.0 n.0 in
      let p : depth x ≤ ops x + 2 = a.two_d f.5 in
      low_two (thresh k (more x none)) (omega arith)
      (λ s.
      let i : small x ≡ true = alone_small (type_of x).z (type_of x).o s in
      omega (arith, a.one (d_no_and_v x f.5) (λ e. let b = f.4 in cc) i))
      (omega arith) (λ e. cc)
  low (thresh k (more x (more y ys))) h n =
      let f = typed-thresh k x (more y ys) h in
      let a = low x f.0 n.0 in
      let b = low y f.1.0 n.1.0 in
      let p : depth x ≤ ops x + 2 = a.two_d f.5 in
      let q : depth_of (more y ys) ≤ ops_added (more y ys) + 1 = low_others (more y ys) f.1 n.1 f.7 in
      let big : small y ≡ false = b.w_big f.7.0 in
      low_two (thresh k (more x (more y ys))) (omega arith)
      (λ s. let i : small y ≡ true = many_small (type_of x).z (type_of x).o (type_of y).z (type_of y).o (all_z (types_of ys)) (all_z_but_one (types_of ys)) s in cc)
      (omega arith) (λ e. cc)
  low (wrap wrapper.A x) h n =
      let f = typed-wrap_a x h in
      let a = low x f.0 n in
      low_w (wrap wrapper.A x) refl refl refl (omega arith) (λ d. omega (arith, a.two_d d)) (omega arith)
  low (wrap wrapper.S x) h n =
      let f = typed-wrap_s x h in
      let a = low x f.0 n in
      let p : depth x ≤ ops x + 3 = a.four_small (or_right (type_of x).z (type_of x).o f.2) in
      low_w (wrap wrapper.S x) refl refl refl (omega arith) (λ d. omega (arith, a.two_d d)) (omega arith)
  low (wrap wrapper.C x) h n =
      let f = typed-wrap_c x h in
      let a = low x f.0 n.1 in
      let p : depth x ≤ ops x + 2 = a.two_k n.0 f.1 in
      low_two (wrap wrapper.C x) (omega arith)
      (λ s. omega (arith, a.one n.0 (λ e. let b = f.1 in cc) (or_right (type_of x).z (type_of x).o s)))
      (omega arith) (λ e. cc)
  low (wrap wrapper.D x) h n =
      let f = typed-wrap_d x h in
      let a = low x f.0 n in
      let p : depth x ≤ ops x + 3 = a.four_small (or_left (type_of x).z (type_of x).o f.2) in
      low_one (wrap wrapper.D x) (omega arith) (λ e. cc) (λ e. cc)
  low (wrap wrapper.V x) h n =
      let f = typed-wrap_v x h in
      let a = low x f.0 n.1 in
      low_v (wrap wrapper.V x) refl refl refl
      (v_three (fuses x) (depth x) (ops x) a.two_fused (a.three n.0))
      (λ s. v_two (fuses x) (depth x) (ops x) (a.one n.0 (λ e. let b = f.1 in cc) s))
      (v_one (fuses x) (ops x) (fuses_op x))
  low (wrap wrapper.J x) h n =
      let f = typed-wrap_j x h in
      let a = low x f.0 n in
      low_one (wrap wrapper.J x) (omega arith) (λ e. cc) (λ e. cc)
  low (wrap wrapper.N x) h n =
      let f = typed-wrap_n x h in
      let a = low x f.0 n.1 in
      let p : depth x ≤ ops x + 3 = a.three n.0 in
      low_b (wrap wrapper.N x) refl refl (omega arith)
      (λ s. omega (arith, a.one n.0 (λ e. let b = f.1 in cc) s))
      (λ d. omega (arith, a.two_d d))
  low leaf h n = low_one leaf (omega arith) (λ e. cc) (λ e. cc)

  low_others : (xs : Trees) → AreTyped xs → AreRightNested xs → OthersFit xs → depth_of xs ≤ ops_added xs + 1
  low_others none h n o = omega arith
  low_others (more x xs) h n o =
      let a = low x h.0 n.0 in
      let p : depth x ≤ ops x + 2 = a.two_d o.1 in
      let q : depth_of xs ≤ ops_added xs + 1 = low_others xs h.1 n.1 o.3 in
      omega arith
