-- Each `pk_h` key of what the reader reads is one that was found.
use Rattle.std.proofs.Common.{◌≡◌, ℕ, zero, suc, ◌==◌, ◌&&◌, nat_le, Bool, true, false, List, [], ◌∷◌, length, Option, Some, None, if◌then◌else◌, refl, subst}
use Rattle.std.specs.Prelude.{⊤}
use Rattle.std.specs.Str.{bytes_eq}
use Rattle.def_hash.specs.declared.HashKind.{HashKind}
use Rattle.def_hash.specs.declared.HashKind.TheVariants as hash_kind
use Rattle.def_hash.specs.Hash.{digest_length}
use Rattle.def_script.specs.declared.Op.{Op}
use Rattle.def_script.specs.declared.Op.TheVariants as op
use Rattle.def_script.specs.Bytes.{Bytes}
use Rattle.def_script.specs.Instruction.{Instruction, push, code}
use Rattle.def_tree.specs.declared.Two.TheVariants as kind
use Rattle.def_tree.specs.declared.Wrapper.TheVariants as wrapper
use Rattle.def_tree.specs.Tree as tree
use Rattle.def_tree.specs.Tree.{Tree, Trees, Key, none, more}
use Rattle.def_decode.specs.Nested.{EachHashed, EachHashedOf}
use Rattle.ms_decode_laws.specs.Scaffolding.Frame.{Frame}
use Rattle.ms_decode_laws.specs.Scaffolding.Frame as frame
use Rattle.ms_decode_laws.specs.Scaffolding.Want.{Want}
use Rattle.ms_decode_laws.specs.Scaffolding.Want as want
use Rattle.ms_decode_laws.specs.Scaffolding.Reader.{State, at, fits, natural_of, settle, settle_side, built, pushed, begin_op, begin, begin_side, before_ended, before_else, before_alt_stack, before_swapped, closed, before_part, after_step, numbered, relative_step, absolute_step, target_step, next_step, threshold_step, hashed, given_step, keyed, key_hash, hash160_step, compared_step, sized_step, measured_step, key_count, count_step, signed_by, keys_step, if_step, not_if_step, step, run, finish, read, start}
use Rattle.def_script.specs.Key.{is_key}

module _ (P : Key → Type 0) where
  -- the trees of a state have such keys alone
  abbrev WantHas : Want → Type 0
  WantHas (want.after x) = EachHashed P x
  WantHas (want.compared x) = EachHashed P x
  WantHas (want.sized x) = EachHashed P x
  WantHas (want.measured x) = EachHashed P x
  WantHas (want.next k ys) = EachHashedOf P ys
  WantHas (want.if_seen x) = EachHashed P x
  WantHas (want.not_if_seen x) = EachHashed P x
  WantHas other = ⊤

  abbrev FrameHas : Frame → Type 0
  FrameHas (frame.first_of kind y) = EachHashed P y
  FrameHas (frame.else_seen y) = EachHashed P y
  FrameHas (frame.condition y z) = EachHashed P y × EachHashed P z
  FrameHas (frame.further k ys) = EachHashedOf P ys
  FrameHas (frame.first k ys) = EachHashedOf P ys
  FrameHas other = ⊤

  abbrev FramesHave : List Frame → Type 0
  FramesHave [] = ⊤
  FramesHave (f ∷ fs) = FrameHas f × FramesHave fs

  abbrev StateHas : Option State → Type 0
  StateHas None = ⊤
  StateHas (Some (at w fs)) = WantHas w × FramesHave fs

  where_has : (b : Bool) (s : Option State) → StateHas s → StateHas (if b then s else None)
  where_has true s h = h
  where_has false s h = tt

  settle_has : (x : Tree) (fs : List Frame) → EachHashed P x → FramesHave fs → StateHas (settle x fs)
  settle_has x [] h g = tt
  settle_has x (frame.under w ∷ fs) h g = where_has (fits (tree.wrap w x)) (settle (tree.wrap w x) fs) (settle_has (tree.wrap w x) fs h g.1)
  settle_has x (frame.chain ∷ fs) h g = (h, g)
  settle_has x (frame.first_of kind y ∷ fs) h g = where_has (fits (tree.two kind x y)) (settle (tree.two kind x y) fs) (settle_has (tree.two kind x y) fs (h, g.0) g.1)
  settle_has x (frame.second_of kind ∷ fs) h g = tt
  settle_has x (frame.ended ∷ fs) h g = tt
  settle_has x (frame.else_seen y ∷ fs) h g = tt
  settle_has x (frame.condition y z ∷ fs) h g = where_has (fits (tree.and_or x y z)) (settle (tree.and_or x y z) fs) (settle_has (tree.and_or x y z) fs (h, g.0.0, g.0.1) g.1)
  settle_has x (frame.alt_stack ∷ fs) h g = tt
  settle_has x (frame.swapped ∷ fs) h g = tt
  settle_has x (frame.further k ys ∷ fs) h g = tt
  settle_has x (frame.first k ys ∷ fs) h g = where_has (fits (tree.thresh k (more x ys))) (settle (tree.thresh k (more x ys)) fs) (settle_has (tree.thresh k (more x ys)) fs (h, g.0) g.1)

  side_has : (x : Tree) (fs : List Frame) → EachHashed P x → FramesHave fs → StateHas (settle_side x fs)
  side_has x (frame.second_of kind ∷ fs) h g = (tt, (h, g.1))
  side_has x (frame.further k ys ∷ fs) h g = ((h, g.0), g.1)
  side_has x fs h g = tt

  built_has : (x : Tree) (fs : List Frame) → EachHashed P x → FramesHave fs → StateHas (built x fs)
  built_has x fs h g = where_has (fits x) (settle x fs) (settle_has x fs h g)

  pushed_has : (fs : List Frame) (bytes : Bytes) → FramesHave fs → StateHas (pushed fs bytes)
  pushed_has fs bytes g = go (is_key bytes) (bytes_eq bytes []) (bytes_eq bytes (1 ∷ []))
    where
      go : (a b c : Bool) → StateHas (if a then settle (tree.pk_k bytes) fs else if b then settle tree.just_0 fs else if c then settle tree.just_1 fs else None)
      go true b c = settle_has (tree.pk_k bytes) fs tt g
      go false true c = settle_has tree.just_0 fs tt g
      go false false true = settle_has tree.just_1 fs tt g
      go false false false = tt

  begin_op_has : (fs : List Frame) (o : Op) → FramesHave fs → StateHas (begin_op fs o)
  begin_op_has fs op.CheckSequenceVerify g = (tt, g)
  begin_op_has fs op.CheckLockTimeVerify g = (tt, g)
  begin_op_has fs op.Equal g = (tt, g)
  begin_op_has fs op.EqualVerify g = (tt, (tt, g))
  begin_op_has fs op.CheckSig g = (tt, (tt, g))
  begin_op_has fs op.CheckSigVerify g = (tt, (tt, (tt, g)))
  begin_op_has fs op.CheckMultiSig g = (tt, g)
  begin_op_has fs op.CheckMultiSigVerify g = (tt, (tt, g))
  begin_op_has fs op.Verify g = (tt, (tt, g))
  begin_op_has fs op.ZeroNotEqual g = (tt, (tt, g))
  begin_op_has fs op.BoolAnd g = (tt, (tt, g))
  begin_op_has fs op.BoolOr g = (tt, (tt, g))
  begin_op_has fs op.EndIf g = (tt, (tt, (tt, g)))
  begin_op_has fs other g = tt

  begin_has : (fs : List Frame) (i : Instruction) → FramesHave fs → StateHas (begin fs i)
  begin_has fs (push bytes) g = pushed_has fs bytes g
  begin_has fs (code o) g = begin_op_has fs o g

  begin_side_has : (fs : List Frame) (i : Instruction) → FramesHave fs → StateHas (begin_side fs i)
  begin_side_has fs (code op.FromAltStack) g = (tt, (tt, (tt, g)))
  begin_side_has fs other g = begin_has (frame.chain ∷ frame.swapped ∷ fs) other (tt, (tt, g))

  before_ended_has : (x : Tree) (fs : List Frame) (o : Op) → EachHashed P x → FramesHave fs → StateHas (before_ended x fs o)
  before_ended_has x fs op.If h g = (h, g)
  before_ended_has x fs op.NotIf h g = (h, g)
  before_ended_has x fs op.Else h g = (tt, (tt, (h, g)))
  before_ended_has x fs other h g = tt

  before_else_has : (x y : Tree) (fs : List Frame) (o : Op) → EachHashed P x → EachHashed P y → FramesHave fs → StateHas (before_else x y fs o)
  before_else_has x y fs op.If h i g = built_has (tree.two kind.OrI x y) fs (h, i) g
  before_else_has x y fs op.NotIf h i g = (tt, ((i, h), g))
  before_else_has x y fs other h i g = tt

  before_alt_stack_has : (x : Tree) (fs : List Frame) (o : Op) → EachHashed P x → FramesHave fs → StateHas (before_alt_stack x fs o)
  before_alt_stack_has x fs op.ToAltStack h g = where_has (fits (tree.wrap wrapper.A x)) (settle_side (tree.wrap wrapper.A x) fs) (side_has (tree.wrap wrapper.A x) fs h g)
  before_alt_stack_has x fs other h g = tt

  before_swapped_has : (x : Tree) (fs : List Frame) (o : Op) → EachHashed P x → FramesHave fs → StateHas (before_swapped x fs o)
  before_swapped_has x fs op.Swap h g = where_has (fits (tree.wrap wrapper.S x)) (settle_side (tree.wrap wrapper.S x) fs) (side_has (tree.wrap wrapper.S x) fs h g)
  before_swapped_has x fs other h g = tt

  closed_has : (x : Tree) (fs : List Frame) (o : Op) → EachHashed P x → FramesHave fs → StateHas (closed x fs o)
  closed_has x (frame.ended ∷ fs) o h g = before_ended_has x fs o h g.1
  closed_has x (frame.else_seen y ∷ fs) o h g = before_else_has x y fs o h g.0 g.1
  closed_has x (frame.alt_stack ∷ fs) o h g = before_alt_stack_has x fs o h g.1
  closed_has x (frame.swapped ∷ fs) o h g = before_swapped_has x fs o h g.1
  closed_has x fs o h g = tt

  before_part_has : (x : Tree) (fs : List Frame) (i : Instruction) → EachHashed P x → FramesHave fs → StateHas (before_part x fs i)
  before_part_has x fs (code op.If) h g = closed_has x fs op.If h g
  before_part_has x fs (code op.NotIf) h g = closed_has x fs op.NotIf h g
  before_part_has x fs (code op.Else) h g = closed_has x fs op.Else h g
  before_part_has x fs (code op.ToAltStack) h g = closed_has x fs op.ToAltStack h g
  before_part_has x fs (code op.Swap) h g = closed_has x fs op.Swap h g
  before_part_has x fs other h g = begin_has (frame.first_of kind.AndV x ∷ frame.chain ∷ fs) other (h, (tt, g))

  after_has : (x : Tree) (fs : List Frame) (i : Instruction) → EachHashed P x → FramesHave fs → StateHas (after_step x fs i)
  after_has x (frame.chain ∷ fs) i h g = before_part_has x fs i h g.1
  after_has x fs i h g = tt

  relative_has : (fs : List Frame) (i : Instruction) → FramesHave fs → StateHas (relative_step fs i)
  relative_has fs (push bytes) g = go (natural_of bytes)
    where
      go : (o : Option ℕ) → StateHas (numbered tree.older fs o)
      go None = tt
      go (Some n) = settle_has (tree.older n) fs tt g
  relative_has fs (code o) g = tt

  absolute_has : (fs : List Frame) (i : Instruction) → FramesHave fs → StateHas (absolute_step fs i)
  absolute_has fs (push bytes) g = go (natural_of bytes)
    where
      go : (o : Option ℕ) → StateHas (numbered tree.after fs o)
      go None = tt
      go (Some n) = settle_has (tree.after n) fs tt g
  absolute_has fs (code o) g = tt

  target_has : (fs : List Frame) (i : Instruction) → FramesHave fs → StateHas (target_step fs i)
  target_has fs (push bytes) g = (tt, g)
  target_has fs (code o) g = tt

  next_has : (k : ℕ) (ys : Trees) (fs : List Frame) (i : Instruction) → EachHashedOf P ys → FramesHave fs → StateHas (next_step k ys fs i)
  next_has k ys fs (code op.Add) h g = (tt, (h, g))
  next_has k ys fs other h g = begin_has (frame.first k ys ∷ fs) other (h, g)

  counted_has : (o : Option ℕ) (fs : List Frame) (i : Instruction) → FramesHave fs → StateHas (threshold_step o fs i)
  counted_has None fs i g = tt
  counted_has (Some k) fs i g = next_has k none fs i tt g

  hashed_has : (kind : HashKind) (bytes : Bytes) (fs : List Frame) → FramesHave fs → StateHas (hashed kind bytes fs)
  hashed_has kind bytes fs g = where_has (length bytes == digest_length kind) (Some (at (want.compared (tree.hash kind bytes)) fs)) (tt, g)

  given_has : (bytes : Bytes) (fs : List Frame) (i : Instruction) → FramesHave fs → StateHas (given_step bytes fs i)
  given_has bytes fs (code op.Sha256) g = hashed_has hash_kind.Sha256 bytes fs g
  given_has bytes fs (code op.Hash256) g = hashed_has hash_kind.Hash256 bytes fs g
  given_has bytes fs (code op.Ripemd160) g = hashed_has hash_kind.Ripemd160 bytes fs g
  given_has bytes fs (code op.Hash160) g = (tt, g)
  given_has bytes fs other g = counted_has (natural_of bytes) fs other g

  keyed_has : (o : Option Key) (fs : List Frame) → ((k : Key) → o ≡ Some k → P k) → FramesHave fs → StateHas (keyed o fs)
  keyed_has None fs h g = tt
  keyed_has (Some k) fs h g = settle_has (tree.pk_h k) fs (h k refl) g

  key_hash_has : (o : Option Key) (fs : List Frame) → ((k : Key) → o ≡ Some k → P k) → FramesHave fs → StateHas (key_hash o fs)
  key_hash_has o (frame.under wrapper.V ∷ fs) h g = keyed_has o fs h g.1
  key_hash_has o fs h g = tt

  compared_has : (x : Tree) (fs : List Frame) (i : Instruction) → EachHashed P x → FramesHave fs → StateHas (compared_step x fs i)
  compared_has x fs (code op.EqualVerify) h g = (h, g)
  compared_has x fs other h g = tt

  sized_has : (x : Tree) (fs : List Frame) (i : Instruction) → EachHashed P x → FramesHave fs → StateHas (sized_step x fs i)
  sized_has x fs (push bytes) h g = (h, g)
  sized_has x fs (code o) h g = tt

  measured_has : (x : Tree) (fs : List Frame) (i : Instruction) → EachHashed P x → FramesHave fs → StateHas (measured_step x fs i)
  measured_has x fs (code op.Size) h g = settle_has x fs h g
  measured_has x fs other h g = tt

  count_has : (fs : List Frame) (i : Instruction) → FramesHave fs → StateHas (count_step fs i)
  count_has fs (push bytes) g = go (natural_of bytes)
    where
      go : (o : Option ℕ) → StateHas (key_count fs o)
      go None = tt
      go (Some n) = where_has (nat_le 1 n && nat_le n 20) (Some (at (want.keys n []) fs)) (tt, g)
  count_has fs (code o) g = tt

  keys_has : (n : ℕ) (ks : List Key) (fs : List Frame) (i : Instruction) → FramesHave fs → StateHas (keys_step n ks fs i)
  keys_has n ks fs (code o) g = tt
  keys_has zero ks fs (push bytes) g = go (natural_of bytes)
    where
      go : (o : Option ℕ) → StateHas (signed_by ks fs o)
      go None = tt
      go (Some k) = built_has (tree.multi k ks) fs tt g
  keys_has (suc n) ks fs (push bytes) g = where_has (is_key bytes) (Some (at (want.keys n (bytes ∷ ks)) fs)) (tt, g)

  if_has : (x : Tree) (fs : List Frame) (i : Instruction) → EachHashed P x → FramesHave fs → StateHas (if_step x fs i)
  if_has x fs (code op.Dup) h g = built_has (tree.wrap wrapper.D x) fs h g
  if_has x fs (code op.ZeroNotEqual) h g = where_has (fits (tree.wrap wrapper.J x)) (Some (at (want.measured (tree.wrap wrapper.J x)) fs)) (h, g)
  if_has x fs other h g = tt

  not_if_has : (x : Tree) (fs : List Frame) (i : Instruction) → EachHashed P x → FramesHave fs → StateHas (not_if_step x fs i)
  not_if_has x fs (code op.IfDup) h g = (tt, (h, g))
  not_if_has x fs other h g = begin_has (frame.first_of kind.OrC x ∷ fs) other (h, g)

  module _ (find : Bytes → Option Key) (found : (v : Bytes) (k : Key) → find v ≡ Some k → P k) where
    hash160_has : (bytes : Bytes) (fs : List Frame) (i : Instruction) → FramesHave fs → StateHas (hash160_step find bytes fs i)
    hash160_has bytes fs (code op.Dup) g = key_hash_has (find bytes) fs (found bytes) g
    hash160_has bytes fs (code op.EqualVerify) g = where_has (length bytes == digest_length hash_kind.Hash160) (Some (at (want.sized (tree.hash hash_kind.Hash160 bytes)) fs)) (tt, g)
    hash160_has bytes fs other g = tt

    step_has : (w : Want) (fs : List Frame) (i : Instruction) → WantHas w → FramesHave fs → StateHas (step find (at w fs) i)
    step_has want.single fs i h g = begin_has fs i g
    step_has want.side fs i h g = begin_side_has fs i g
    step_has (want.after x) fs i h g = after_has x fs i h g
    step_has want.relative fs i h g = relative_has fs i g
    step_has want.absolute fs i h g = absolute_has fs i g
    step_has want.target fs i h g = target_has fs i g
    step_has (want.given bytes) fs i h g = given_has bytes fs i g
    step_has (want.hash160_of bytes) fs i h g = hash160_has bytes fs i g
    step_has (want.compared x) fs i h g = compared_has x fs i h g
    step_has (want.sized x) fs i h g = sized_has x fs i h g
    step_has (want.measured x) fs i h g = measured_has x fs i h g
    step_has (want.next k ys) fs i h g = next_has k ys fs i h g
    step_has want.count fs i h g = count_has fs i g
    step_has (want.keys n ks) fs i h g = keys_has n ks fs i g
    step_has (want.if_seen x) fs i h g = if_has x fs i h g
    step_has (want.not_if_seen x) fs i h g = not_if_has x fs i h g

    run_has : (s : Option State) (is : List Instruction) → StateHas s → StateHas (run find s is)
    run_has s [] h = h
    run_has None (i ∷ is) h = tt
    run_has (Some (at w fs)) (i ∷ is) h = run_has (step find (at w fs) i) is (step_has w fs i h.0 h.1)

    finish_has : (s : Option State) (t : Tree) → StateHas s → finish s ≡ Some t → EachHashed P t
    finish_has (Some (at (want.after x) (frame.chain ∷ []))) t h e = let same : x ≡ t = cc in subst (EachHashed P) same h.0
    finish_has other t h e = cc

    pub read_has : (is : List Instruction) (t : Tree) → read find is ≡ Some t → EachHashed P t
    read_has is t e = finish_has (run find (Some start) is) t (run_has (Some start) is (tt, (tt, tt))) e
