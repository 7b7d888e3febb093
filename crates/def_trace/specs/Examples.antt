-- Traces of some runs, as they are written, and who writes the instructions of some texts.
use Rattle.std.specs.Prelude.{◌≡◌, List, [], ◌∷◌, ◌++◌, codes, map, replicate, true}
use Rattle.def_hash.specs.Hex.{from_hex}
use Rattle.def_hash.specs.declared.HashKind.TheVariants.{Sha256}
use Rattle.def_script.specs.Bytes.{Bytes}
use Rattle.def_machine.specs.Machine.{Given}
use Rattle.def_machine.specs.Samples.{key_a, key_b, key_c, sig_a, sig_b, sig_c, push_key, nothing, with_table}
use Rattle.def_tree.specs.declared.Two.TheVariants as kind
use Rattle.def_tree.specs.declared.Wrapper.TheVariants as wrapper
use Rattle.def_tree.specs.Tree.{Tree, Key, just_0, just_1, pk_k, older, hash, two, thresh, multi, wrap, none, more}
use Rattle.def_emit.specs.Emit.{script_of}
use Rattle.def_trace.specs.Seen.{at_first}
use Rattle.def_trace.specs.Trace.{trace}
use Rattle.def_trace.specs.Reader.{read_lines}
use Rattle.def_trace.specs.Written.{digits, written}
use Rattle.def_trace.specs.Writers.{Attributed, attributed, places_of}
use Rattle.def_trace.specs.Placed.{placed}
use Rattle.def_trace.specs.Listing.{listing}

-- the text of a trace without places
abbrev pub text_of : Given → (script : Bytes) → (stack : List Bytes) → Bytes
text_of given script stack = written [] (trace given script stack)

-- ---- runs

-- branches inside one that isn't taken are opened, turned and closed; what else stands there is passed over
abbrev pub BranchesInside : Type 0
BranchesInside = text_of nothing (from_hex "6351635267536869675168") ([] ∷ [])
    ≡ codes "step 0 OP_IF pop 1 open no\nskip 1 push 01\nstep 2 OP_IF open no\nskip 3 push 02\nstep 4 OP_ELSE turn\n"
    ++ codes "skip 5 push 03\nstep 6 OP_ENDIF close\nskip 7 OP_VERIFY\nstep 8 OP_ELSE turn\nstep 9 push 01\nstep 10 OP_ENDIF close\n"

-- the empty string and pushes in every spelling, of which one that isn't minimal may be passed over
abbrev pub PassedPushes : Type 0
PassedPushes = text_of nothing (from_hex "6301014c004e02000000abcd675168") ([] ∷ [])
    ≡ codes "step 0 OP_IF pop 1 open no\nskip 1 push 01\nskip 3 push -\nskip 5 push abcd\nstep 12 OP_ELSE turn\nstep 13 push 01\n"
    ++ codes "step 14 OP_ENDIF close\n"

-- what each opcode takes from the stacks and puts on them; the stack is the byte 7
abbrev pub BothStacks : Type 0
BothStacks = text_of nothing (from_hex "766b738269696c7c697c") ((7 ∷ []) ∷ [])
    ≡ codes "step 0 OP_DUP push 07\nstep 1 OP_TOALTSTACK pop 1 altpush 07\nstep 2 OP_IFDUP push 07\nstep 3 OP_SIZE push 01\n"
    ++ codes "step 4 OP_VERIFY pop 1\nstep 5 OP_VERIFY pop 1\nstep 6 OP_FROMALTSTACK push 07 altpop\n"
    ++ codes "step 7 OP_SWAP pop 2 push 07 push 07\nstep 8 OP_VERIFY pop 1\nstop 9 OP_SWAP\n"

-- an opcode that pushes nothing, and one that changes nothing
abbrev pub NothingChanged : Type 0
NothingChanged = text_of nothing (from_hex "0073925193529a009b") []
    ≡ codes "step 0 push -\nstep 1 OP_IFDUP\nstep 2 OP_0NOTEQUAL pop 1 push -\nstep 3 push 01\nstep 4 OP_ADD pop 2 push 01\n"
    ++ codes "step 5 push 02\nstep 6 OP_BOOLAND pop 2 push 01\nstep 7 push -\nstep 8 OP_BOOLOR pop 2 push 01\n"

-- the signatures that were found good, the last key's first
abbrev pub GoodSignatures : Type 0
GoodSignatures =
    text_of (with_table ((key_a, sig_a) ∷ (key_c, sig_c) ∷ [])) (from_hex "52" ++ push_key key_a ++ push_key key_b ++ push_key key_c ++ from_hex "53ae")
    ([] ∷ sig_a ∷ sig_c ∷ [])
    ≡ codes "step 0 push 02\nstep 1 push " ++ digits key_a ++ codes "\nstep 35 push " ++ digits key_b ++ codes "\nstep 69 push " ++ digits key_c
    ++ codes "\nstep 103 push 03\nstep 104 OP_CHECKMULTISIG pop 8 push 01 check " ++ digits key_c ++ codes " " ++ digits sig_c
    ++ codes " check " ++ digits key_a ++ codes " " ++ digits sig_a ++ codes "\n"

-- a fault ends the trace, and what was found good before it isn't told
abbrev pub StoppedByVerify : Type 0
StoppedByVerify = text_of nothing (from_hex "515288") [] ≡ codes "step 0 push 01\nstep 1 push 02\nstop 2 OP_EQUALVERIFY\n"

abbrev pub StoppedBehindGood : Type 0
StoppedBehindGood =
    text_of (with_table ((key_a, sig_a) ∷ [])) (from_hex "51" ++ push_key key_a ++ from_hex "51ae") (from_hex "01" ∷ sig_a ∷ [])
    ≡ codes "step 0 push 01\nstep 1 push " ++ digits key_a ++ codes "\nstep 35 push 01\nstop 36 OP_CHECKMULTISIG\n"

-- an instruction that can't be read, also in a branch that isn't taken
abbrev pub Unread : Type 0
Unread =
    (text_of nothing (from_hex "5175") [] ≡ codes "step 0 push 01\nstop 1 byte 75\n")
    × (text_of nothing (from_hex "514c050102") [] ≡ codes "step 0 push 01\nstop 1 byte 4c\n")
    × (text_of nothing (from_hex "00636a68") [] ≡ codes "step 0 push -\nstep 1 OP_IF pop 1 open no\nstop 2 byte 6a\n")

-- no line: the script is empty, or an element given is too long
abbrev pub NoLine : Type 0
NoLine =
    (trace nothing [] ((1 ∷ []) ∷ []) ≡ [])
    × (trace nothing (from_hex "51") (replicate 521 0xff ∷ []) ≡ [])

-- a reader's state behind a whole trace
abbrev pub ReadBack : Type 0
ReadBack =
    read_lines (at_first ([] ∷ (7 ∷ []) ∷ [])) (trace nothing (from_hex "6b76635167") ([] ∷ (7 ∷ []) ∷ []))
    ≡ record { main = [] ∷ []; alt = (7 ∷ []) ∷ []; branches = true ∷ []; checks = [] }

-- ---- writers

abbrev pub pk : Key → Tree
pk key = wrap wrapper.C (pk_k key)

abbrev pub v : Tree → Tree
v x = wrap wrapper.V x

-- `or_i(or_i(pk(A),0),pk(B))`: the nodes have the numbers from A's key to the outer `or_i`
abbrev pub Choices : Type 0
Choices =
    map (λ (a : Attributed). a.writer) (attributed 0 (two kind.OrI (two kind.OrI (pk key_a) just_0) (pk key_b)))
    ≡ 6 ∷ 3 ∷ 0 ∷ 1 ∷ 3 ∷ 2 ∷ 3 ∷ 6 ∷ 4 ∷ 5 ∷ 6 ∷ []

-- `and_v(v:multi(1,A),and_v(v:pk(B),and_v(v:sha256(h),and_v(v:older(3),1))))`, by the places in that text: a form that
-- does VERIFY too is not of the `v`
abbrev pub VerifyForms : Type 0
VerifyForms =
    places_of (8 ∷ 6 ∷ 92 ∷ 92 ∷ 90 ∷ 171 ∷ 169 ∷ 252 ∷ 250 ∷ 261 ∷ 244 ∷ 163 ∷ 84 ∷ 0 ∷ [])
    (two kind.AndV (v (multi 1 (key_a ∷ [])))
    (two kind.AndV (v (pk key_b)) (two kind.AndV (v (hash Sha256 (replicate 32 7))) (two kind.AndV (v (older 3)) just_1))))
    ≡ 8 ∷ 8 ∷ 8 ∷ 8 ∷ 92 ∷ 92 ∷ 171 ∷ 171 ∷ 171 ∷ 171 ∷ 171 ∷ 171 ∷ 252 ∷ 252 ∷ 250 ∷ 261 ∷ []

-- `v:thresh(2,pk(A),s:pk(B),s:pk(C))`: ADD, the number and EQUALVERIFY are the threshold's
abbrev pub Threshold : Type 0
Threshold =
    map (λ (a : Attributed). a.writer)
    (attributed 0 (v (thresh 2 (more (pk key_a) (more (wrap wrapper.S (pk key_b)) (more (wrap wrapper.S (pk key_c)) none))))))
    ≡ 0 ∷ 1 ∷ 4 ∷ 2 ∷ 3 ∷ 8 ∷ 7 ∷ 5 ∷ 6 ∷ 8 ∷ 8 ∷ 8 ∷ []

-- the places stand behind the lines
abbrev pub WithPlaces : Type 0
WithPlaces =
    written (places_of (10 ∷ 10 ∷ 81 ∷ 5 ∷ 84 ∷ 84 ∷ 0 ∷ []) (two kind.OrI (two kind.OrI (pk key_a) just_0) (pk key_b)))
    (trace (with_table ((key_b, sig_b) ∷ []))
    (from_hex "6363" ++ push_key key_a ++ from_hex "ac67006867" ++ push_key key_b ++ from_hex "ac68") (sig_b ∷ [] ∷ []))
    ≡ codes "step 0 OP_IF pop 1 open no node 0\nstep 1 OP_IF open no node 5\nskip 2 push " ++ digits key_a
    ++ codes " node 10\nskip 36 OP_CHECKSIG node 10\nstep 37 OP_ELSE turn node 5\nskip 38 push - node 81\nstep 39 OP_ENDIF close node 5\n"
    ++ codes "step 40 OP_ELSE turn node 0\nstep 41 push " ++ digits key_b ++ codes " node 84\nstep 75 OP_CHECKSIG pop 2 push 01 check "
    ++ digits key_b ++ codes " " ++ digits sig_b ++ codes " node 84\nstep 76 OP_ENDIF close node 0\n"

-- the instructions of `v:older(3)` alone: the offset of the second is behind the one byte of the first
abbrev pub Listed : Type 0
Listed =
    listing (places_of (2 ∷ 0 ∷ []) (v (older 3))) (placed (script_of (v (older 3))))
    ≡ codes "at 0 push 03 node 2\nat 1 OP_CHECKSEQUENCEVERIFY node 2\nat 2 OP_VERIFY node 0\n"
