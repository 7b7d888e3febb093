-- The reader reads each such tree back.
use Rattle.std.proofs.Common.{◌≡◌, ℕ, suc, ◌+◌, ◌==◌, ◌&&◌, nat_le, Bool, true, false, List, [], ◌∷◌, ◌++◌, length, map, Option, Some, None, if◌then◌else◌, refl, sym, ◌∙◌, ap, arith, append-nil}
use Rattle.def_hash.specs.declared.HashKind.{HashKind}
use Rattle.def_hash.specs.declared.HashKind.TheVariants as hash_kind
use Rattle.def_hash.specs.Hash.{digest_length}
use Rattle.def_script.specs.declared.Op.{Op}
use Rattle.def_script.specs.declared.Op.TheVariants as op
use Rattle.def_script.specs.Bytes.{Bytes}
use Rattle.def_script.specs.Numbers.{natural_bytes}
use Rattle.def_script.specs.Instruction.{Instruction, push, code}
use Rattle.def_tree.specs.declared.Two.TheVariants as kind
use Rattle.def_tree.specs.declared.Wrapper.TheVariants as wrapper
use Rattle.def_tree.specs.Tree as tree
use Rattle.def_tree.specs.Tree.{Tree, Trees, Key, none, more}
use Rattle.def_emit.specs.Emit.{push_number}
use Rattle.ms_decode_laws.specs.Scaffolding.Frame.{Frame}
use Rattle.ms_decode_laws.specs.Scaffolding.Frame as frame
use Rattle.ms_decode_laws.specs.Scaffolding.Want as want
use Rattle.ms_decode_laws.specs.Scaffolding.Reader.{State, at, natural_of, fits, grown, settle, settle_side, pushed, numbered, hashed, keyed, key_count, signed_by, begin, begin_side, before_part, given_step, next_step, not_if_step, step, run, finish, read}
use Rattle.def_script.specs.Key.{is_key}
use Rattle.ms_decode_laws.proofs.Onto.{back, fused, onto, onto_added}
use Rattle.ms_decode_laws.proofs.Parsed.{AreKeys, no_key, a_key, One, zero_one, one_one, pk_k_one, pk_h_one, older_one, after_one, hash_one, and_or_one, and_b_one, or_b_one, or_c_one, or_d_one, or_i_one, thresh_one, multi_one, c_one, d_one, v_one, j_one, n_one, Row, last_row, and_v_row, Side, a_side, s_side, Sides, no_side, more_sides}

-- an instruction that ends an expression which is no W
abbrev is_end_op : Op → Bool
is_end_op op.If = false
is_end_op op.NotIf = false
is_end_op op.Else = false
is_end_op op.ToAltStack = false
is_end_op op.FromAltStack = false
is_end_op op.IfDup = false
is_end_op op.Dup = false
is_end_op op.Swap = false
is_end_op op.Size = false
is_end_op op.Add = false
is_end_op op.Ripemd160 = false
is_end_op op.Sha256 = false
is_end_op op.Hash160 = false
is_end_op op.Hash256 = false
is_end_op other = true

abbrev is_end : Instruction → Bool
is_end (push bytes) = true
is_end (code op) = is_end_op op

-- or ADD, which ends what stands before the children of a threshold
abbrev is_next : Instruction → Bool
is_next (push bytes) = true
is_next (code op.Add) = true
is_next (code op) = is_end_op op

-- the instructions begin with such a one
record Starts (P : Instruction → Bool) (l : List Instruction) : Type 0 where
  first : Instruction
  rest : List Instruction
  whole : l ≡ first ∷ rest
  is : P first ≡ true

starts_with : (P : Instruction → Bool) (i : Instruction) (l : List Instruction) → P i ≡ true → Starts P (i ∷ l)
starts_with P i l e = record { first = i; rest = l; whole = refl; is = e }

end_is_next : (i : Instruction) → is_end i ≡ true → is_next i ≡ true
end_is_next i e = grind arith

next_from_end : (l : List Instruction) → Starts is_end l → Starts is_next l
next_from_end l h = record { first = h.first; rest = h.rest; whole = h.whole; is = end_is_next h.first h.is }

fused_starts : (l : List Instruction) → Starts is_end (fused l)
fused_starts (code op.Equal ∷ l) = starts_with _ _ _ refl
fused_starts (code op.CheckSig ∷ l) = starts_with _ _ _ refl
fused_starts (code op.CheckMultiSig ∷ l) = starts_with _ _ _ refl
fused_starts l = starts_with _ _ _ refl

one_starts : (find : Bytes → Option Key) (t : Tree) → One find t → (l : List Instruction) → Starts is_end (onto t l)
one_starts find t (v_one x p e) l = fused_starts (onto x l)
one_starts find t p l = starts_with _ _ _ refl

row_starts : (find : Bytes → Option Key) (t : Tree) → Row find t → (l : List Instruction) → Starts is_end (onto t l)
row_starts find t (last_row x p) l = one_starts find x p l
row_starts find t (and_v_row x y p q e) l = row_starts find y q (onto x l)

added_starts : (xs : Trees) (l : List Instruction) → Starts is_next l → Starts is_next (onto_added xs l)
added_starts none l h = h
added_starts (more x xs) l h = added_starts xs (code op.Add ∷ onto x l) (starts_with _ _ _ refl)

-- before such a one another part of a chain begins, and so on
part_begins : (x : Tree) (fs : List Frame) (i : Instruction) → is_end i ≡ true → before_part x fs i ≡ begin (frame.first_of kind.AndV x ∷ frame.chain ∷ fs) i
part_begins x fs i e = grind arith

side_begins : (fs : List Frame) (i : Instruction) → is_end i ≡ true → begin_side fs i ≡ begin (frame.chain ∷ frame.swapped ∷ fs) i
side_begins fs i e = grind arith

first_begins : (k : ℕ) (ys : Trees) (fs : List Frame) (i : Instruction) → is_end i ≡ true → next_step k ys fs i ≡ begin (frame.first k ys ∷ fs) i
first_begins k ys fs i e = grind arith

or_c_begins : (x : Tree) (fs : List Frame) (i : Instruction) → is_end i ≡ true → not_if_step x fs i ≡ begin (frame.first_of kind.OrC x ∷ fs) i
or_c_begins x fs i e = grind arith

children_begin : (bytes : Bytes) (k : ℕ) (fs : List Frame) (i : Instruction) → natural_of bytes ≡ Some k → is_next i ≡ true → given_step bytes fs i ≡ next_step k none fs i
children_begin bytes k fs i n e = grind arith

-- what stands in for one state before such instructions
module _ (find : Bytes → Option Key) where
  stands_for : (P : Instruction → Bool) (s v : State) (l : List Instruction) → Starts P l → ((i : Instruction) → P i ≡ true → step find s i ≡ step find v i) → run find (Some s) l ≡ run find (Some v) l
  stands_for P s v l h same =
      ap (run find (Some s)) h.whole ∙ ap (λ st. run find st h.rest) (same h.first h.is) ∙ sym (ap (run find (Some v)) h.whole)

  -- VERIFY is taken as `v`
  fused_reads : (fs : List Frame) (l : List Instruction) → run find (Some (at want.single fs)) (fused l) ≡ run find (Some (at want.single (frame.under wrapper.V ∷ fs))) l
  fused_reads fs l = grind arith

  grown_fits : (x : Tree) (s : Option State) (l : List Instruction) → fits x ≡ true → run find (grown x s) l ≡ run find s l
  grown_fits x s l e = rw e refl

  -- keys, hash values and counts
  key_pushed : (fs : List Frame) (key : Key) → is_key key ≡ true → pushed fs key ≡ settle (tree.pk_k key) fs
  key_pushed fs key e = rw e refl

  abbrev sized_rest : List Instruction → List Instruction
  sized_rest l = code op.EqualVerify ∷ push_number 32 ∷ code op.Size ∷ l

  hash_seen : (h : HashKind) (value : Bytes) (fs : List Frame) → (length value == digest_length h) ≡ true → hashed h value fs ≡ Some (at (want.compared (tree.hash h value)) fs)
  hash_seen h value fs e = rw e refl

  count_read : (fs : List Frame) (bytes : Bytes) (n : ℕ) → natural_of bytes ≡ Some n → (nat_le 1 n && nat_le n 20) ≡ true → key_count fs (natural_of bytes) ≡ Some (at (want.keys n []) fs)
  count_read fs bytes n e r = rw (e, r) refl

  -- the children of a threshold behind others
  abbrev joined : Trees → Trees → Trees
  joined none ys = ys
  joined (more x xs) ys = more x (joined xs ys)

  joined_none : (xs : Trees) → joined xs none ≡ xs
  joined_none none = refl
  joined_none (more x xs) = ap (λ ys. more x ys) (joined_none xs)

  keys_read : (ks : List Key) → AreKeys ks → (m : ℕ) (others : List Key) (fs : List Frame) (l : List Instruction)
      → run find (Some (at (want.keys (m + length ks) others) fs)) (back (map push ks) l) ≡ run find (Some (at (want.keys m (ks ++ others)) fs)) l
  keys_read ks no_key m others fs l = let e : m + 0 ≡ m = omega arith in rw e refl
  keys_read ks (a_key key rest e h) m others fs l =
      let n : m + suc (length rest) ≡ suc m + length rest = omega arith in
      rw n (keys_read rest h (suc m) others fs (push key ∷ l) ∙ rw e refl)

  mutual
    pub one_reads : (t : Tree) → One find t → (fs : List Frame) (l : List Instruction) → run find (Some (at want.single fs)) (onto t l) ≡ run find (settle t fs) l
    one_reads t zero_one fs l = refl
    one_reads t one_one fs l = refl
    one_reads t (pk_k_one key e) fs l = ap (λ (s : Option State). run find s l) (key_pushed fs key e)
    one_reads t (pk_h_one key e) fs l = ap (λ (o : Option Key). run find (keyed o fs) l) e
    one_reads t (older_one n e) fs l = ap (λ (o : Option ℕ). run find (numbered tree.older fs o) l) e
    one_reads t (after_one n e) fs l = ap (λ (o : Option ℕ). run find (numbered tree.after fs o) l) e
    one_reads t (hash_one hash_kind.Hash160 value e) fs l =
        ap (λ (b : Bool). run find (if b then Some (at (want.sized (tree.hash hash_kind.Hash160 value)) fs) else None) (push_number 32 ∷ code op.Size ∷ l)) e
    one_reads t (hash_one kind value e) fs l = ap (λ (s : Option State). run find s (sized_rest l)) (hash_seen kind value fs e)
    one_reads t (and_or_one x y z p q r e) fs l =
        row_reads y q (frame.ended ∷ fs) _ ∙ row_reads z r (frame.else_seen y ∷ fs) _ ∙ one_reads x p (frame.condition y z ∷ fs) l ∙ grown_fits _ _ l e
    one_reads t (and_b_one x y p q e) fs l =
        side_reads y q (frame.second_of kind.AndB ∷ fs) _ ∙ one_reads x p (frame.first_of kind.AndB y ∷ fs) l ∙ grown_fits _ _ l e
    one_reads t (or_b_one x y p q e) fs l =
        side_reads y q (frame.second_of kind.OrB ∷ fs) _ ∙ one_reads x p (frame.first_of kind.OrB y ∷ fs) l ∙ grown_fits _ _ l e
    one_reads t (or_c_one x y p q e) fs l =
        row_reads y q (frame.ended ∷ fs) _
        ∙ stands_for is_end (at (want.not_if_seen y) fs) (at want.single (frame.first_of kind.OrC y ∷ fs)) (onto x l) (one_starts find x p l) (or_c_begins y fs)
        ∙ one_reads x p (frame.first_of kind.OrC y ∷ fs) l ∙ grown_fits _ _ l e
    one_reads t (or_d_one x y p q e) fs l =
        row_reads y q (frame.ended ∷ fs) _ ∙ one_reads x p (frame.first_of kind.OrD y ∷ fs) l ∙ grown_fits _ _ l e
    one_reads t (or_i_one x y p q e) fs l =
        row_reads y q (frame.ended ∷ fs) _ ∙ row_reads x p (frame.else_seen y ∷ fs) _ ∙ grown_fits _ _ l e
    one_reads t (thresh_one k x xs n p q e) fs l =
        stands_for is_next (at (want.given (natural_bytes k)) fs) (at (want.next k none) fs) (onto_added xs (onto x l))
        (added_starts xs (onto x l) (next_from_end (onto x l) (one_starts find x p l))) (λ i h. children_begin (natural_bytes k) k fs i n h)
        ∙ sides_read xs q k none fs (onto x l)
        ∙ ap (λ ys. run find (Some (at (want.next k ys) fs)) (onto x l)) (joined_none xs)
        ∙ stands_for is_end (at (want.next k xs) fs) (at want.single (frame.first k xs ∷ fs)) (onto x l) (one_starts find x p l) (first_begins k xs fs)
        ∙ one_reads x p (frame.first k xs ∷ fs) l ∙ grown_fits _ _ l e
    one_reads t (multi_one k ks n m s a e) fs l =
        let none_more : length ks ≡ 0 + length ks = omega arith in
        ap (λ (st : Option State). run find st (back (map push ks) (push_number k ∷ l))) (count_read fs (natural_bytes (length ks)) (length ks) m s)
        ∙ ap (λ (n : ℕ). run find (Some (at (want.keys n []) fs)) (back (map push ks) (push_number k ∷ l))) none_more
        ∙ keys_read ks a 0 [] fs (push_number k ∷ l)
        ∙ ap (λ (others : List Key). run find (Some (at (want.keys 0 others) fs)) (push_number k ∷ l)) (append-nil ks)
        ∙ ap (λ (o : Option ℕ). run find (signed_by ks fs o) l) n
        ∙ grown_fits (tree.multi k ks) (settle (tree.multi k ks) fs) l e
    one_reads t (c_one x p e) fs l = one_reads x p (frame.under wrapper.C ∷ fs) l ∙ grown_fits _ _ l e
    one_reads t (d_one x p e) fs l = row_reads x p (frame.ended ∷ fs) _ ∙ grown_fits _ _ l e
    one_reads t (v_one x p e) fs l = fused_reads fs (onto x l) ∙ one_reads x p (frame.under wrapper.V ∷ fs) l ∙ grown_fits _ _ l e
    one_reads t (j_one x p e) fs l = row_reads x p (frame.ended ∷ fs) _ ∙ grown_fits _ _ (code op.Size ∷ l) e
    one_reads t (n_one x p e) fs l = one_reads x p (frame.under wrapper.N ∷ fs) l ∙ grown_fits _ _ l e

    pub row_reads : (t : Tree) → Row find t → (fs : List Frame) (l : List Instruction) → run find (Some (at want.single (frame.chain ∷ fs))) (onto t l)
        ≡ run find (Some (at (want.after t) (frame.chain ∷ fs))) l
    row_reads t (last_row x p) fs l = one_reads x p (frame.chain ∷ fs) l
    row_reads t (and_v_row x y p q e) fs l =
        row_reads y q fs (onto x l)
        ∙ stands_for is_end (at (want.after y) (frame.chain ∷ fs)) (at want.single (frame.first_of kind.AndV y ∷ frame.chain ∷ fs)) (onto x l) (one_starts find x p l) (part_begins y fs)
        ∙ one_reads x p (frame.first_of kind.AndV y ∷ frame.chain ∷ fs) l ∙ grown_fits _ _ l e

    side_reads : (t : Tree) → Side find t → (fs : List Frame) (l : List Instruction) → run find (Some (at want.side fs)) (onto t l) ≡ run find (settle_side t fs) l
    side_reads t (a_side x p e) fs l = row_reads x p (frame.alt_stack ∷ fs) _ ∙ grown_fits _ _ l e
    side_reads t (s_side x p e) fs l =
        stands_for is_end (at want.side fs) (at want.single (frame.chain ∷ frame.swapped ∷ fs)) (onto x (code op.Swap ∷ l)) (row_starts find x p _) (side_begins fs)
        ∙ row_reads x p (frame.swapped ∷ fs) _ ∙ grown_fits _ _ l e

    sides_read : (xs : Trees) → Sides find xs → (k : ℕ) (ys : Trees) (fs : List Frame) (l : List Instruction)
        → run find (Some (at (want.next k ys) fs)) (onto_added xs l) ≡ run find (Some (at (want.next k (joined xs ys)) fs)) l
    sides_read xs no_side k ys fs l = refl
    sides_read ts (more_sides x xs p q) k ys fs l =
        sides_read xs q k ys fs (code op.Add ∷ onto x l) ∙ side_reads x p (frame.further k (joined xs ys) ∷ fs) l

-- a whole tree is read back
pub tree_reads : (find : Bytes → Option Key) (t : Tree) → Row find t → read find (onto t []) ≡ Some t
tree_reads find t p = ap finish (row_reads find t p [] [])
