-- What is signed, by the bytes of a transaction's inputs and outputs.
use Rattle.std.proofs.Common.{◌≡◌, ℕ, ◌+◌, ◌/◌, [], ◌∷◌, ◌++◌, All, length, take, drop, slice_get, Option, Some, None, if◌then◌else◌, refl, sym, ◌∙◌, ap, subst, arith}
use Rattle.std.specs.Borrow.{Bor}
use Rattle.std.specs.Int.{w32, w64, to_le_bytes}
use Rattle.std.specs.List.{flat_map}
use Rattle.std.proofs.lemmas.List.{append_assoc, append-nil, length-append}
use Rattle.std.proofs.Math.Seq.{take-append_seam, drop-append-add}
use Rattle.def_hash.specs.Hash.{hash256}
use Rattle.def_script.specs.Bytes.{Bytes}
use Rattle.def_script.specs.Sizes.{size_bytes}
use Rattle.def_script.specs.Witness.{sized}
use Rattle.def_psbt.specs.Transaction.{TransactionInput, TransactionOutput, Transaction, outpoint_text, input_text}
use Rattle.def_spend.specs.declared.SignedOutputs.{SignedOutputs}
use Rattle.def_spend.specs.declared.SignedOutputs.TheVariants as outputs
use Rattle.def_spend.specs.declared.HashType.{HashType}
use Rattle.def_spend.specs.HashTypes.{number_of}
use Rattle.def_spend.specs.SignatureHash.{NO_HASH, hash_prevouts, signed_prevouts, signed_sequences, signed_outputs, signed_text}
use Rattle.def_spend.specs.SignatureHash as whole
use Rattle.def_spend.specs.Hashes.{spent_amount}
use Rattle.def_spend.specs.Input.{Spend}
use Rattle.def_verify.specs.ConsensusHash.{outputs_by, type_by, consensus_hash}
use Rattle.ms_sighash.specs.Pieces.{pieces}
use Rattle.ms_sighash.specs.Shared.{Shared, shared_of, IsUnsigned, AreParts, AreSigned, IsOutputText, sequences_by, sequences_from, outputs_from, outputs_with, hash_of_output, text_by, text_from, byte_hash}
use Rattle.ms_sighash.proofs.PiecesLemmas.{HasPiece, pieces-flat_map, length-flat_map}

-- ---- an input without a scriptSig

unsigned_text : (x : TransactionInput) → IsUnsigned x
    → input_text x ≡ outpoint_text x.outpoint ++ 0x00 ∷ to_le_bytes w32 x.sequence
unfolding size_bytes
unsigned_text x u = ap (λ s. outpoint_text x.outpoint ++ (sized s ++ to_le_bytes w32 x.sequence)) u.script_sig

length-outpoint : (x : TransactionInput) → IsUnsigned x → length (outpoint_text x.outpoint) ≡ 36
length-outpoint x u =
    let sum = length-append x.outpoint.id (to_le_bytes w32 x.outpoint.index) in
    omega (arith, sum, u.id)

length-unsigned : (x : TransactionInput) → IsUnsigned x → length (input_text x) ≡ 41
length-unsigned x u =
    let sum = length-append (outpoint_text x.outpoint) (0x00 ∷ to_le_bytes w32 x.sequence) in
    let front = length-outpoint x u in
    ap length (unsigned_text x u) ∙ omega (arith, sum, front)

-- with what stands behind it
with_rest : (x : TransactionInput) (rest : Bytes) → IsUnsigned x
    → input_text x ++ rest ≡ outpoint_text x.outpoint ++ 0x00 ∷ (to_le_bytes w32 x.sequence ++ rest)
with_rest x rest u =
    ap (λ l. l ++ rest) (unsigned_text x u) ∙ append_assoc (outpoint_text x.outpoint) (0x00 ∷ to_le_bytes w32 x.sequence) rest

pub has_outpoint : (x : TransactionInput) → IsUnsigned x → HasPiece 0 36 (input_text x) (outpoint_text x.outpoint)
has_outpoint x u = (length-unsigned x u, λ rest. ap (take 36) (with_rest x rest u) ∙ front (0x00 ∷ (to_le_bytes w32 x.sequence ++ rest)))
  where
    front : (tail : Bytes) → take 36 (outpoint_text x.outpoint ++ tail) ≡ outpoint_text x.outpoint
    front tail = subst (λ n. take n (outpoint_text x.outpoint ++ tail) ≡ outpoint_text x.outpoint) (length-outpoint x u) (take-append_seam (outpoint_text x.outpoint) tail)

pub has_sequence : (x : TransactionInput) → IsUnsigned x → HasPiece 37 4 (input_text x) (to_le_bytes w32 x.sequence)
has_sequence x u = (length-unsigned x u, λ rest. ap (λ l. take 4 (drop 37 l)) (with_rest x rest u) ∙ ap (take 4) (behind rest))
  where
    behind : (rest : Bytes) → drop 37 (outpoint_text x.outpoint ++ 0x00 ∷ (to_le_bytes w32 x.sequence ++ rest)) ≡ to_le_bytes w32 x.sequence ++ rest
    behind rest =
        let at : length (outpoint_text x.outpoint) + 1 ≡ 37 = omega (arith, length-outpoint x u) in
        subst (λ n. drop n (outpoint_text x.outpoint ++ 0x00 ∷ (to_le_bytes w32 x.sequence ++ rest)) ≡ to_le_bytes w32 x.sequence ++ rest)
        at (drop-append-add (outpoint_text x.outpoint) (0x00 ∷ (to_le_bytes w32 x.sequence ++ rest)) 1)

-- ---- what is shared

all_pieces : (from size : ℕ) (piece : TransactionInput → Bytes) (transaction : Transaction) (inputs : Bytes)
    → inputs ≡ flat_map input_text transaction.inputs → All (λ x. HasPiece from size (input_text x) (piece x)) transaction.inputs
    → pieces from size (length inputs / 41) inputs ≡ flat_map piece transaction.inputs
all_pieces from size piece transaction inputs same h =
    let size_is = ap length same ∙ length-flat_map from size input_text piece transaction.inputs h in
    let count : length inputs / 41 ≡ length transaction.inputs = omega (arith, size_is) in
    ap (λ n. pieces from size n inputs) count
    ∙ ap (λ l. pieces from size (length transaction.inputs) l) same
    ∙ pieces-flat_map from size input_text piece transaction.inputs h

abbrev pub shared_from : (version : ℕ) → (inputs outputs : Bytes) → (lock_time : ℕ) → Shared
shared_from version inputs outputs lock_time = record {
  version = version;
  prevouts = hash256 (pieces 0 36 (length inputs / 41) inputs);
  sequences = hash256 (pieces 37 4 (length inputs / 41) inputs);
  outputs = hash256 outputs;
  lock_time = lock_time;
}

pub shared_is : (transaction : Transaction) (version : ℕ) (inputs outputs : Bytes) (lock_time : ℕ)
    → AreParts transaction version inputs outputs lock_time → shared_from version inputs outputs lock_time ≡ shared_of transaction
shared_is transaction version inputs outputs lock_time h =
    let prevouts = all_pieces 0 36 (λ x. outpoint_text x.outpoint) transaction inputs h.input_bytes (λ k d lt. has_outpoint _ (h.unsigned k d lt)) in
    let sequences = all_pieces 37 4 (λ x. to_le_bytes w32 x.sequence) transaction inputs h.input_bytes (λ k d lt. has_sequence _ (h.unsigned k d lt)) in
    ap (λ v. record (shared_from version inputs outputs lock_time) { version = v }) h.same_version
    ∙ ap (λ l. record (shared_from transaction.version inputs outputs lock_time) { prevouts = hash256 l }) prevouts
    ∙ ap (λ l. record (record (shared_from transaction.version inputs outputs lock_time) { prevouts = hash_prevouts transaction }) { sequences = hash256 l }) sequences
    ∙ ap (λ l. record (shared_of transaction) { outputs = hash256 l; lock_time = lock_time }) h.output_bytes
    ∙ ap (λ n. record (shared_of transaction) { lock_time = n }) h.same_lock_time

-- ---- what is signed

sequences_are : (signed : SignedOutputs) (transaction : Transaction) → sequences_by signed (shared_of transaction) ≡ whole.sequences_by signed transaction
sequences_are outputs.All transaction = refl
sequences_are outputs.None transaction = refl
sequences_are outputs.Single transaction = refl

output_is : (signed : SignedOutputs) (transaction : Transaction) (number : ℕ) (output : Option (Bor Bytes))
    → IsOutputText (slice_get transaction.outputs number) output
    → outputs_from signed (shared_of transaction) output ≡ signed_outputs signed transaction number
output_is outputs.All transaction number output h = refl
output_is outputs.None transaction number output h = refl
output_is outputs.Single transaction number output h = go (slice_get transaction.outputs number) output h
  where
    go : (o : Option TransactionOutput) (output : Option (Bor Bytes)) → IsOutputText o output
        → outputs_from outputs.Single (shared_of transaction) output ≡ whole.hash_output o
    go None None h = refl
    go None (Some bytes) h = absurd h
    go (Some o) None h = absurd h
    go (Some o) (Some bytes) h = ap hash256 h

-- a piece of the bytes of an input
piece_of : (from size : ℕ) (text piece input : Bytes) → HasPiece from size text piece → input ≡ text → take size (drop from input) ≡ piece
piece_of from size text piece input h same = ap (λ l. take size (drop from l)) (same ∙ sym (append-nil text)) ∙ h.1 []

-- the fields, with the parts that are made of bytes
abbrev pub text_with : HashType → (byte : ℕ) → Transaction → (sequences outpoint sequence outputs script : Bytes) → (amount : ℕ) → Bytes
text_with type byte transaction sequences outpoint sequence outputs script amount =
    to_le_bytes w32 transaction.version
    ++ signed_prevouts type transaction
    ++ sequences
    ++ outpoint
    ++ sized script
    ++ to_le_bytes w64 amount
    ++ sequence
    ++ outputs
    ++ to_le_bytes w32 transaction.lock_time
    ++ to_le_bytes w32 byte

-- whatever the number of the type is
pub text_by_is : (type : HashType) (byte : ℕ) (transaction : Transaction) (number : ℕ) (signed : TransactionInput) (input : Bytes) (output : Option (Bor Bytes)) (outputs script : Bytes) (amount : ℕ)
    → AreSigned transaction number signed input output → outputs ≡ signed_outputs type.outputs transaction number
    → text_by type byte (shared_of transaction) input outputs script amount
    ≡ text_with type byte transaction (signed_sequences type transaction) (outpoint_text signed.outpoint) (to_le_bytes w32 signed.sequence)
    (signed_outputs type.outputs transaction number) script amount
text_by_is type byte transaction number signed input output outputs script amount h same =
    let outpoint = piece_of 0 36 (input_text signed) (outpoint_text signed.outpoint) input (has_outpoint signed h.unsigned) h.input_bytes in
    let sequence = piece_of 37 4 (input_text signed) (to_le_bytes w32 signed.sequence) input (has_sequence signed h.unsigned) h.input_bytes in
    let sequences = ap (λ l. if type.anyone_can_pay then NO_HASH else l) (sequences_are type.outputs transaction) in
    let front = to_le_bytes w32 transaction.version ++ signed_prevouts type transaction ++ sequences_from type (shared_of transaction) ++ take 36 input in
    ap (λ l. l ++ to_le_bytes w64 amount ++ take 4 (drop 37 input) ++ outputs
    ++ to_le_bytes w32 transaction.lock_time ++ to_le_bytes w32 byte)
    (append_assoc front (size_bytes (length script)) script)
    ∙ ap (λ l. text_with type byte transaction l (take 36 input) (take 4 (drop 37 input)) outputs script amount) sequences
    ∙ ap (λ l. text_with type byte transaction (signed_sequences type transaction) l (take 4 (drop 37 input)) outputs script amount) outpoint
    ∙ ap (λ l. text_with type byte transaction (signed_sequences type transaction) (outpoint_text signed.outpoint) l outputs script amount) sequence
    ∙ ap (λ l. text_with type byte transaction (signed_sequences type transaction) (outpoint_text signed.outpoint) (to_le_bytes w32 signed.sequence) l script amount) same

pub text_is : (type : HashType) (transaction : Transaction) (number : ℕ) (signed : TransactionInput) (input : Bytes) (output : Option (Bor Bytes)) (script : Bytes) (amount : ℕ)
    → AreSigned transaction number signed input output
    → text_from type (shared_of transaction) input output script amount ≡ signed_text type transaction number signed script amount
text_is type transaction number signed input output script amount h =
    text_by_is type (number_of type) transaction number signed input output (outputs_from type.outputs (shared_of transaction) output) script amount h
    (output_is type.outputs transaction number output h.output_bytes)

-- ---- what consensus has signed

single_is : (signed : SignedOutputs) (transaction : Transaction) (number : ℕ) (output : Option (Bor Bytes))
    → outputs_with signed (shared_of transaction) (hash_of_output output) ≡ outputs_from signed (shared_of transaction) output
single_is outputs.All transaction number output = refl
single_is outputs.None transaction number output = refl
single_is outputs.Single transaction number output = refl

-- what is hashed of the parts of a spend is the definition's
pub byte_hash_is : (byte : ℕ) (spend : Spend) (input : Bytes) (output : Option (Bor Bytes)) (script : Bytes)
    → AreSigned spend.transaction spend.number spend.input input output
    → byte_hash byte (shared_of spend.transaction) input (hash_of_output output) script (spent_amount spend) ≡ consensus_hash byte spend script
byte_hash_is byte spend input output script h =
    ap hash256
    (text_by_is (type_by byte) byte spend.transaction spend.number spend.input input output
    (outputs_with (outputs_by byte) (shared_of spend.transaction) (hash_of_output output)) script (spent_amount spend) h
    (single_is (outputs_by byte) spend.transaction spend.number output
    ∙ output_is (outputs_by byte) spend.transaction spend.number output h.output_bytes))

-- fields, one behind the other
abbrev pub joined : (front outpoint size script amount sequence outputs lock_time type : Bytes) → Bytes
joined front outpoint size script amount sequence outputs lock_time type =
    front ++ outpoint ++ size ++ script ++ amount ++ sequence ++ outputs ++ lock_time ++ type

pub joined_same : (front script : Bytes) {outpoint outpoint' size size' amount amount' sequence sequence' outputs outputs' lock_time lock_time' type type' : Bytes}
    → outpoint ≡ outpoint' → size ≡ size' → amount ≡ amount' → sequence ≡ sequence' → outputs ≡ outputs' → lock_time ≡ lock_time' → type ≡ type'
    → joined front outpoint size script amount sequence outputs lock_time type ≡ joined front outpoint' size' script amount' sequence' outputs' lock_time' type'
joined_same front script {outpoint} {outpoint'} {size} {size'} {amount} {amount'} {sequence} {sequence'} {outputs} {outputs'} {lock_time} {lock_time'} {type} {type'} o n a q u l t =
    ap (λ x. joined front x size script amount sequence outputs lock_time type) o
    ∙ ap (λ x. joined front outpoint' x script amount sequence outputs lock_time type) n
    ∙ ap (λ x. joined front outpoint' size' script x sequence outputs lock_time type) a
    ∙ ap (λ x. joined front outpoint' size' script amount' x outputs lock_time type) q
    ∙ ap (λ x. joined front outpoint' size' script amount' sequence' x lock_time type) u
    ∙ ap (λ x. joined front outpoint' size' script amount' sequence' outputs' x type) l
    ∙ ap (λ x. joined front outpoint' size' script amount' sequence' outputs' lock_time' x) t
