-- A reader of Scripts, from the last instruction to the first (Bitcoin Core: `DecodeScript`). It looks at one instruction
-- at a time, and at no type, so it reads more than valid miniscripts.
use Rattle.std.specs.Prelude.{ℕ, zero, suc, ◌==◌, ◌&&◌, nat_lt, nat_le, ℤ, pos, negsuc, Bool, List, [], ◌∷◌, length, if◌then◌else◌, Option, Some, None, Result, Ok, Err}
use Rattle.std.specs.Str.{bytes_eq}
use Rattle.def_hash.specs.declared.HashKind.{HashKind}
use Rattle.def_hash.specs.declared.HashKind.TheVariants as hash_kind
use Rattle.def_hash.specs.Hash.{digest_length}
use Rattle.def_script.specs.declared.Op.{Op}
use Rattle.def_script.specs.declared.Op.TheVariants as op
use Rattle.def_script.specs.declared.NumFault.{NumFault}
use Rattle.def_script.specs.Bytes.{Bytes}
use Rattle.def_script.specs.Key.{is_key}
use Rattle.def_script.specs.Instruction.{Instruction, push, code}
use Rattle.def_script.specs.Decode.{num_decode}
use Rattle.def_tree.specs.declared.Two.TheVariants as kind
use Rattle.def_tree.specs.declared.Wrapper.TheVariants as wrapper
use Rattle.def_tree.specs.Tree as tree
use Rattle.def_tree.specs.Tree.{Tree, Trees, Key, none, more}
use Rattle.def_tree.specs.InRange.{measure, depth, MOST_MEASURE, MOST_DEPTH}
use Rattle.def_tree.specs.Range.{TEN_DIGITS}
use Rattle.ms_decode_laws.specs.Scaffolding.Frame.{Frame}
use Rattle.ms_decode_laws.specs.Scaffolding.Frame as frame
use Rattle.ms_decode_laws.specs.Scaffolding.Want.{Want}
use Rattle.ms_decode_laws.specs.Scaffolding.Want as want

-- what comes next, and what is still to close, the innermost first
pub data State : Type 0 where
  at : (want : Want) → (frames : List Frame) → State

-- a number that Script holds, of at most ten digits
abbrev pub natural : Result ℤ NumFault → Option ℕ
natural (Ok (pos n)) = if nat_lt n TEN_DIGITS then Some n else None
natural (Ok (negsuc n)) = None
natural (Err fault) = None

unfoldable pub natural_of : Bytes → Option ℕ
natural_of bytes = natural (num_decode 5 bytes)

-- the tree isn't too deep or too large for the calls
unfoldable pub fits : Tree → Bool
fits x = nat_le (depth x) MOST_DEPTH && nat_le (measure x) MOST_MEASURE

-- a state that has this tree, where it fits
abbrev pub grown : Tree → Option State → Option State
grown x state = if fits x then state else None

-- an expression is read: the frames that it closes are closed
abbrev pub settle : Tree → List Frame → Option State
settle x [] = None
settle x (frame.under w ∷ fs) = grown (tree.wrap w x) (settle (tree.wrap w x) fs)
settle x (frame.chain ∷ fs) = Some (at (want.after x) (frame.chain ∷ fs))
settle x (frame.first_of kind y ∷ fs) = grown (tree.two kind x y) (settle (tree.two kind x y) fs)
settle x (frame.second_of kind ∷ fs) = None
settle x (frame.ended ∷ fs) = None
settle x (frame.else_seen y ∷ fs) = None
settle x (frame.condition y z ∷ fs) = grown (tree.and_or x y z) (settle (tree.and_or x y z) fs)
settle x (frame.alt_stack ∷ fs) = None
settle x (frame.swapped ∷ fs) = None
settle x (frame.further k ys ∷ fs) = None
settle x (frame.first k ys ∷ fs) = grown (tree.thresh k (more x ys)) (settle (tree.thresh k (more x ys)) fs)

-- an expression of type W is read
abbrev pub settle_side : Tree → List Frame → Option State
settle_side x (frame.second_of kind ∷ fs) = Some (at want.single (frame.first_of kind x ∷ fs))
settle_side x (frame.further k ys ∷ fs) = Some (at (want.next k (more x ys)) fs)
settle_side x fs = None

-- an expression is made that has others in it
abbrev pub built : Tree → List Frame → Option State
built x fs = grown x (settle x fs)

-- a push alone: a key, `0` or `1`
abbrev pub pushed : List Frame → Bytes → Option State
pushed fs bytes =
    if is_key bytes then settle (tree.pk_k bytes) fs
    else if bytes_eq bytes [] then settle tree.just_0 fs
    else if bytes_eq bytes (1 ∷ []) then settle tree.just_1 fs
    else None

-- the last instruction of an expression that is no `and_v`
abbrev pub begin_op : List Frame → Op → Option State
begin_op fs op.CheckSequenceVerify = Some (at want.relative fs)
begin_op fs op.CheckLockTimeVerify = Some (at want.absolute fs)
begin_op fs op.Equal = Some (at want.target fs)
begin_op fs op.EqualVerify = Some (at want.target (frame.under wrapper.V ∷ fs))
begin_op fs op.CheckSig = Some (at want.single (frame.under wrapper.C ∷ fs))
begin_op fs op.CheckSigVerify = Some (at want.single (frame.under wrapper.C ∷ frame.under wrapper.V ∷ fs))
begin_op fs op.CheckMultiSig = Some (at want.count fs)
begin_op fs op.CheckMultiSigVerify = Some (at want.count (frame.under wrapper.V ∷ fs))
begin_op fs op.Verify = Some (at want.single (frame.under wrapper.V ∷ fs))
begin_op fs op.ZeroNotEqual = Some (at want.single (frame.under wrapper.N ∷ fs))
begin_op fs op.BoolAnd = Some (at want.side (frame.second_of kind.AndB ∷ fs))
begin_op fs op.BoolOr = Some (at want.side (frame.second_of kind.OrB ∷ fs))
begin_op fs op.EndIf = Some (at want.single (frame.chain ∷ frame.ended ∷ fs))
begin_op fs other = None

abbrev pub begin : List Frame → Instruction → Option State
begin fs (push bytes) = pushed fs bytes
begin fs (code op) = begin_op fs op

-- a W: `a` ends in FROMALTSTACK, and `s` as what it is put on
abbrev pub begin_side : List Frame → Instruction → Option State
begin_side fs (code op.FromAltStack) = Some (at want.single (frame.chain ∷ frame.alt_stack ∷ fs))
begin_side fs other = begin (frame.chain ∷ frame.swapped ∷ fs) other

-- before a part of a chain of `and_v` the chain begins, or another part ends
abbrev pub before_ended : Tree → List Frame → Op → Option State
before_ended x fs op.If = Some (at (want.if_seen x) fs)
before_ended x fs op.NotIf = Some (at (want.not_if_seen x) fs)
before_ended x fs op.Else = Some (at want.single (frame.chain ∷ frame.else_seen x ∷ fs))
before_ended x fs other = None

abbrev pub before_else : Tree → Tree → List Frame → Op → Option State
before_else x y fs op.If = built (tree.two kind.OrI x y) fs
before_else x y fs op.NotIf = Some (at want.single (frame.condition y x ∷ fs))
before_else x y fs other = None

abbrev pub before_alt_stack : Tree → List Frame → Op → Option State
before_alt_stack x fs op.ToAltStack = grown (tree.wrap wrapper.A x) (settle_side (tree.wrap wrapper.A x) fs)
before_alt_stack x fs other = None

abbrev pub before_swapped : Tree → List Frame → Op → Option State
before_swapped x fs op.Swap = grown (tree.wrap wrapper.S x) (settle_side (tree.wrap wrapper.S x) fs)
before_swapped x fs other = None

abbrev pub closed : Tree → List Frame → Op → Option State
closed x (frame.ended ∷ fs) op = before_ended x fs op
closed x (frame.else_seen y ∷ fs) op = before_else x y fs op
closed x (frame.alt_stack ∷ fs) op = before_alt_stack x fs op
closed x (frame.swapped ∷ fs) op = before_swapped x fs op
closed x fs op = None

-- the frames behind the chain are given
abbrev pub before_part : Tree → List Frame → Instruction → Option State
before_part x fs (code op.If) = closed x fs op.If
before_part x fs (code op.NotIf) = closed x fs op.NotIf
before_part x fs (code op.Else) = closed x fs op.Else
before_part x fs (code op.ToAltStack) = closed x fs op.ToAltStack
before_part x fs (code op.Swap) = closed x fs op.Swap
before_part x fs other = begin (frame.first_of kind.AndV x ∷ frame.chain ∷ fs) other

abbrev pub after_step : Tree → List Frame → Instruction → Option State
after_step x (frame.chain ∷ fs) i = before_part x fs i
after_step x fs i = None

-- the numbers of locks
abbrev pub numbered : (ℕ → Tree) → List Frame → Option ℕ → Option State
numbered make fs None = None
numbered make fs (Some n) = settle (make n) fs

abbrev pub relative_step : List Frame → Instruction → Option State
relative_step fs (push bytes) = numbered tree.older fs (natural_of bytes)
relative_step fs (code op) = None

abbrev pub absolute_step : List Frame → Instruction → Option State
absolute_step fs (push bytes) = numbered tree.after fs (natural_of bytes)
absolute_step fs (code op) = None

-- what stands before EQUAL
abbrev pub target_step : List Frame → Instruction → Option State
target_step fs (push bytes) = Some (at (want.given bytes) fs)
target_step fs (code op) = None

-- a further child of a threshold, or the first one
abbrev pub next_step : ℕ → Trees → List Frame → Instruction → Option State
next_step k ys fs (code op.Add) = Some (at want.side (frame.further k ys ∷ fs))
next_step k ys fs other = begin (frame.first k ys ∷ fs) other

abbrev pub threshold_step : Option ℕ → List Frame → Instruction → Option State
threshold_step None fs i = None
threshold_step (Some k) fs i = next_step k none fs i

-- a hash value of the right length
abbrev pub hashed : HashKind → Bytes → List Frame → Option State
hashed kind bytes fs = if length bytes == digest_length kind then Some (at (want.compared (tree.hash kind bytes)) fs) else None

abbrev pub given_step : Bytes → List Frame → Instruction → Option State
given_step bytes fs (code op.Sha256) = hashed hash_kind.Sha256 bytes fs
given_step bytes fs (code op.Hash256) = hashed hash_kind.Hash256 bytes fs
given_step bytes fs (code op.Ripemd160) = hashed hash_kind.Ripemd160 bytes fs
given_step bytes fs (code op.Hash160) = Some (at (want.hash160_of bytes) fs)
given_step bytes fs other = threshold_step (natural_of bytes) fs other

-- DUP HASH160 value EQUALVERIFY was taken as VERIFY behind EQUAL
abbrev pub keyed : Option Key → List Frame → Option State
keyed None fs = None
keyed (Some key) fs = settle (tree.pk_h key) fs

abbrev pub key_hash : Option Key → List Frame → Option State
key_hash key (frame.under wrapper.V ∷ fs) = keyed key fs
key_hash key fs = None

abbrev pub hash160_step : (Bytes → Option Key) → Bytes → List Frame → Instruction → Option State
hash160_step find bytes fs (code op.Dup) = key_hash (find bytes) fs
hash160_step find bytes fs (code op.EqualVerify) =
    if length bytes == digest_length hash_kind.Hash160 then Some (at (want.sized (tree.hash hash_kind.Hash160 bytes)) fs) else None
hash160_step find bytes fs other = None

abbrev pub compared_step : Tree → List Frame → Instruction → Option State
compared_step x fs (code op.EqualVerify) = Some (at (want.sized x) fs)
compared_step x fs other = None

abbrev pub sized_step : Tree → List Frame → Instruction → Option State
sized_step x fs (push bytes) = Some (at (want.measured x) fs)
sized_step x fs (code op) = None

abbrev pub measured_step : Tree → List Frame → Instruction → Option State
measured_step x fs (code op.Size) = settle x fs
measured_step x fs other = None

-- `multi`
abbrev pub key_count : List Frame → Option ℕ → Option State
key_count fs None = None
key_count fs (Some n) = if nat_le 1 n && nat_le n 20 then Some (at (want.keys n []) fs) else None

abbrev pub count_step : List Frame → Instruction → Option State
count_step fs (push bytes) = key_count fs (natural_of bytes)
count_step fs (code op) = None

abbrev pub signed_by : List Key → List Frame → Option ℕ → Option State
signed_by ks fs None = None
signed_by ks fs (Some k) = built (tree.multi k ks) fs

abbrev pub keys_step : ℕ → List Key → List Frame → Instruction → Option State
keys_step n ks fs (code op) = None
keys_step zero ks fs (push bytes) = signed_by ks fs (natural_of bytes)
keys_step (suc n) ks fs (push bytes) = if is_key bytes then Some (at (want.keys n (bytes ∷ ks)) fs) else None

-- before IF and NOTIF
abbrev pub if_step : Tree → List Frame → Instruction → Option State
if_step x fs (code op.Dup) = built (tree.wrap wrapper.D x) fs
if_step x fs (code op.ZeroNotEqual) = grown (tree.wrap wrapper.J x) (Some (at (want.measured (tree.wrap wrapper.J x)) fs))
if_step x fs other = None

abbrev pub not_if_step : Tree → List Frame → Instruction → Option State
not_if_step x fs (code op.IfDup) = Some (at want.single (frame.first_of kind.OrD x ∷ fs))
not_if_step x fs other = begin (frame.first_of kind.OrC x ∷ fs) other

-- one instruction; a key is found by its HASH160
abbrev pub step : (Bytes → Option Key) → State → Instruction → Option State
step find (at want.single fs) i = begin fs i
step find (at want.side fs) i = begin_side fs i
step find (at (want.after x) fs) i = after_step x fs i
step find (at want.relative fs) i = relative_step fs i
step find (at want.absolute fs) i = absolute_step fs i
step find (at want.target fs) i = target_step fs i
step find (at (want.given bytes) fs) i = given_step bytes fs i
step find (at (want.hash160_of bytes) fs) i = hash160_step find bytes fs i
step find (at (want.compared x) fs) i = compared_step x fs i
step find (at (want.sized x) fs) i = sized_step x fs i
step find (at (want.measured x) fs) i = measured_step x fs i
step find (at (want.next k ys) fs) i = next_step k ys fs i
step find (at want.count fs) i = count_step fs i
step find (at (want.keys n ks) fs) i = keys_step n ks fs i
step find (at (want.if_seen x) fs) i = if_step x fs i
step find (at (want.not_if_seen x) fs) i = not_if_step x fs i

-- all instructions, the last one first
abbrev pub run : (Bytes → Option Key) → Option State → List Instruction → Option State
run find state [] = state
run find None (i ∷ is) = None
run find (Some state) (i ∷ is) = run find (step find state i) is

abbrev pub start : State
start = at want.single (frame.chain ∷ [])

-- the whole Script is one chain of `and_v`
abbrev pub finish : Option State → Option Tree
finish (Some (at (want.after x) (frame.chain ∷ []))) = Some x
finish other = None

abbrev pub read : (Bytes → Option Key) → List Instruction → Option Tree
read find instructions = finish (run find (Some start) instructions)
