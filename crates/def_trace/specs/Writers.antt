-- Which node of a tree writes each instruction of its Script: the node in whose row of the translation table (BIP 379,
-- translation table) the instruction stands.
use Rattle.std.specs.Prelude.{ℕ, ◌+◌, Option, Some, None, List, [], ◌∷◌, ◌++◌, length, map, slice_index}
use Rattle.def_hash.specs.Hash.{hash160}
use Rattle.def_script.specs.declared.Op.{Op}
use Rattle.def_script.specs.declared.Op.TheVariants as op
use Rattle.def_script.specs.Instruction.{Instruction, push, code}
use Rattle.def_script.specs.Verify.{verify_form}
use Rattle.def_tree.specs.declared.Two.TheVariants as kind
use Rattle.def_tree.specs.declared.Wrapper.TheVariants as wrapper
use Rattle.def_tree.specs.Size.{nodes, nodes_of}
use Rattle.def_tree.specs.Tree.{Tree, Trees, just_0, just_1, pk_k, pk_h, older, after, hash, and_or, two, thresh, multi, wrap, none, more}
use Rattle.def_emit.specs.Emit.{push_number, hash_opcode}

-- an instruction, with the number of the node that writes it
pub record Attributed : Type 0 where
  pub instruction : Instruction
  pub writer : ℕ

-- a node writes an opcode, or a push
abbrev pub by : (node : ℕ) → Instruction → Attributed
by node instruction = record { instruction = instruction; writer = node }

-- `v` behind a last instruction: a form that does VERIFY too belongs to who wrote the last one; else `v` writes VERIFY
abbrev pub with_verify : (node : ℕ) → (last : Attributed) → (form : Option Op) → List Attributed
with_verify node last None = last ∷ by node (code op.Verify) ∷ []
with_verify node last (Some form) = by last.writer (code form) ∷ []

abbrev pub form_of : Instruction → Option Op
form_of (push bytes) = None
form_of (code last) = verify_form last

abbrev pub verified_by : (node : ℕ) → List Attributed → List Attributed
verified_by node [] = by node (code op.Verify) ∷ []
verified_by node (last ∷ []) = with_verify node last (form_of last.instruction)
verified_by node (first ∷ second ∷ rest) = first ∷ verified_by node (second ∷ rest)

-- `andor`, `or_c`, `or_d` and `or_i`, by what their children write
abbrev pub and_or_by : (node : ℕ) → (x y z : List Attributed) → List Attributed
and_or_by node x y z = x ++ by node (code op.NotIf) ∷ z ++ by node (code op.Else) ∷ y ++ by node (code op.EndIf) ∷ []

abbrev pub or_c_by : (node : ℕ) → (x y : List Attributed) → List Attributed
or_c_by node x y = x ++ by node (code op.NotIf) ∷ y ++ by node (code op.EndIf) ∷ []

abbrev pub or_d_by : (node : ℕ) → (x y : List Attributed) → List Attributed
or_d_by node x y = x ++ by node (code op.IfDup) ∷ by node (code op.NotIf) ∷ y ++ by node (code op.EndIf) ∷ []

abbrev pub or_i_by : (node : ℕ) → (x y : List Attributed) → List Attributed
or_i_by node x y = by node (code op.If) ∷ x ++ by node (code op.Else) ∷ y ++ by node (code op.EndIf) ∷ []

-- the instructions of a tree with their writers; its nodes have the numbers from `first` on
abbrev mutual
  pub attributed : (first : ℕ) → Tree → List Attributed
  attributed first just_0 = by first (push_number 0) ∷ []
  attributed first just_1 = by first (push_number 1) ∷ []
  attributed first (pk_k key) = by first (push key) ∷ []
  attributed first (pk_h key) =
      by first (code op.Dup) ∷ by first (code op.Hash160) ∷ by first (push (hash160 key)) ∷ by first (code op.EqualVerify) ∷ []
  attributed first (older n) = by first (push_number n) ∷ by first (code op.CheckSequenceVerify) ∷ []
  attributed first (after n) = by first (push_number n) ∷ by first (code op.CheckLockTimeVerify) ∷ []
  attributed first (hash kind value) =
      by first (code op.Size) ∷ by first (push_number 32) ∷ by first (code op.EqualVerify)
      ∷ by first (code (hash_opcode kind)) ∷ by first (push value) ∷ by first (code op.Equal) ∷ []
  attributed first (and_or x y z) =
      and_or_by (first + nodes x + nodes y + nodes z) (attributed first x) (attributed (first + nodes x) y)
      (attributed (first + nodes x + nodes y) z)
  attributed first (two kind.AndV x y) = attributed first x ++ attributed (first + nodes x) y
  attributed first (two kind.AndB x y) =
      attributed first x ++ attributed (first + nodes x) y ++ by (first + nodes x + nodes y) (code op.BoolAnd) ∷ []
  attributed first (two kind.OrB x y) =
      attributed first x ++ attributed (first + nodes x) y ++ by (first + nodes x + nodes y) (code op.BoolOr) ∷ []
  attributed first (two kind.OrC x y) = or_c_by (first + nodes x + nodes y) (attributed first x) (attributed (first + nodes x) y)
  attributed first (two kind.OrD x y) = or_d_by (first + nodes x + nodes y) (attributed first x) (attributed (first + nodes x) y)
  attributed first (two kind.OrI x y) = or_i_by (first + nodes x + nodes y) (attributed first x) (attributed (first + nodes x) y)
  attributed first (thresh k xs) =
      attributed_sum first (first + nodes_of xs) xs
      ++ by (first + nodes_of xs) (push_number k) ∷ by (first + nodes_of xs) (code op.Equal) ∷ []
  attributed first (multi k keys) =
      by first (push_number k) ∷ map (λ key. by first (push key)) keys
      ++ by first (push_number (length keys)) ∷ by first (code op.CheckMultiSig) ∷ []
  attributed first (wrap wrapper.A x) =
      by (first + nodes x) (code op.ToAltStack) ∷ attributed first x ++ by (first + nodes x) (code op.FromAltStack) ∷ []
  attributed first (wrap wrapper.S x) = by (first + nodes x) (code op.Swap) ∷ attributed first x
  attributed first (wrap wrapper.C x) = attributed first x ++ by (first + nodes x) (code op.CheckSig) ∷ []
  attributed first (wrap wrapper.D x) =
      by (first + nodes x) (code op.Dup) ∷ by (first + nodes x) (code op.If)
      ∷ attributed first x ++ by (first + nodes x) (code op.EndIf) ∷ []
  attributed first (wrap wrapper.V x) = verified_by (first + nodes x) (attributed first x)
  attributed first (wrap wrapper.J x) =
      by (first + nodes x) (code op.Size) ∷ by (first + nodes x) (code op.ZeroNotEqual) ∷ by (first + nodes x) (code op.If)
      ∷ attributed first x ++ by (first + nodes x) (code op.EndIf) ∷ []
  attributed first (wrap wrapper.N x) = attributed first x ++ by (first + nodes x) (code op.ZeroNotEqual) ∷ []

  -- the children of a threshold, which has the number `node` and writes ADD behind each but the first
  pub attributed_sum : (first node : ℕ) → Trees → List Attributed
  attributed_sum first node none = []
  attributed_sum first node (more x xs) = attributed first x ++ attributed_added (first + nodes x) node xs

  pub attributed_added : (first node : ℕ) → Trees → List Attributed
  attributed_added first node none = []
  attributed_added first node (more x xs) =
      attributed first x ++ by node (code op.Add) ∷ attributed_added (first + nodes x) node xs

-- the places of the writers in a text whose nodes have these offsets, for each instruction in order
abbrev pub places_of : (offsets : List ℕ) → Tree → List ℕ
places_of offsets tree = map (λ instruction. slice_index offsets instruction.writer) (attributed 0 tree)
