-- What a transaction that was read from bytes has consists of bytes.
use Rattle.std.proofs.Common.{ℕ, zero, suc, ◌≡◌, ◌==◌, ◌&&◌, nat_le, nat_lt, Bool, true, false, List, [], ◌∷◌, length, map, take, drop, All, Option, Some, None, Ok, Err, cond, sym, subst, if◌then◌else◌}
use Rattle.std.specs.Prelude.{⊤, find, slice_index, option_map, unwrap_or}
use Rattle.std.specs.Int.{Width, w32, w64, byte_len}
use Rattle.def_script.specs.Bytes.{Bytes, IsBytes}
use Rattle.def_script.specs.Sizes.{SizeReading, read_size}
use Rattle.def_psbt.specs.declared.PsbtVersion.{PsbtVersion}
use Rattle.def_psbt.specs.declared.PsbtVersion.TheVariants as version
use Rattle.def_psbt.specs.Transaction.{Outpoint, TransactionInput, TransactionOutput, Transaction}
use Rattle.def_psbt.specs.Part.{Part, ◌>>=◌, first_bytes, first_number, size_part, first_size, first_string, first_many, first_list, whole}
use Rattle.def_psbt.specs.TransactionReading.{first_outpoint, first_input, first_output, first_sides, transaction_of, first_witness, witnessed_transaction_of, network_transaction_of}
use Rattle.def_psbt.specs.Forms.{output_of, witness_of}
use Rattle.def_psbt.specs.Map.{Pair, Map, Psbt, pair_of_type}
use Rattle.def_psbt.specs.Types.{GLOBAL_UNSIGNED_TX, IN_PREVIOUS_TXID, OUT_SCRIPT}
use Rattle.def_psbt.specs.Fields.{value_in, input_of}
use Rattle.def_psbt.specs.Fields as fields
use Rattle.def_psbt.specs.Reading.{Outline, given, counted, transaction_in_pair, transaction_in, outline_in, transaction_by}
use Rattle.def_lines.proofs.Lists.{Every, from_all}
use Rattle.ms_line_laws.proofs.Scripts.{no_bytes}
use Rattle.ms_line_laws.proofs.Machine.{taken_bytes, dropped_bytes}
use Rattle.ms_given_laws.specs.Given.{IsMapOfBytes, IsWhole}

pub record IsInputOfBytes (input : TransactionInput) : Type 0 where
  pub id : IsBytes input.outpoint.id
  pub script_sig : IsBytes input.script_sig

pub record IsOutputOfBytes (output : TransactionOutput) : Type 0 where
  pub script : IsBytes output.script

pub record IsOfBytes (transaction : Transaction) : Type 0 where
  pub inputs : Every IsInputOfBytes transaction.inputs
  pub outputs : Every IsOutputOfBytes transaction.outputs

abbrev pub IfAny : {A : Type 0} → (A → Type 0) → Option A → Type 0
IfAny P None = ⊤
IfAny P (Some x) = P x

-- ---- parts

-- what is read has a property, and what is behind it consists of bytes
abbrev Gives : {A : Type 0} → (A → Type 0) → Part A → Type 0
Gives P None = ⊤
Gives P (Some read) = P read.0 × IsBytes read.1

abbrev EachPart : {A : Type 0} → (A → Type 0) → (Bytes → Part A) → Type 0
EachPart P first = (bytes : Bytes) → IsBytes bytes → Gives P (first bytes)

abbrev Any : ℕ → Type 0
Any n = ⊤

then_gives : {A B : Type 0} (P : A → Type 0) (Q : B → Type 0) (part : Part A) (next : A × Bytes → Part B) → Gives P part
    → ((read : A × Bytes) → P read.0 → IsBytes read.1 → Gives Q (next read)) → Gives Q (part >>= next)
then_gives P Q None next h on = tt
then_gives P Q (Some read) next h on = on read h.0 h.1

tested : {A : Type 0} (P : A → Type 0) (b : Bool) (x y : Part A) → Gives P x → Gives P y → Gives P (if b then x else y)
tested P true x y p q = p
tested P false x y p q = q

bytes_first : (count : ℕ) → EachPart IsBytes (first_bytes count)
unfolding first_bytes
bytes_first count bytes h =
    tested IsBytes (nat_le count (length bytes)) (Some (take count bytes, drop count bytes)) None (taken_bytes count bytes h, dropped_bytes count bytes h) tt

number_first : (width : Width) → EachPart Any (first_number width)
unfolding first_number
number_first width bytes h = then_gives IsBytes Any (first_bytes (byte_len width) bytes) _ (bytes_first (byte_len width) bytes h) (λ part p rest. (tt, rest))

size_first : EachPart Any first_size
unfolding first_size
size_first bytes h = by (read_size bytes)
  where
    by : (reading : SizeReading) → Gives Any (size_part bytes reading)
    by (Ok read) = (tt, dropped_bytes read.1 bytes h)
    by (Err fault) = tt

string_first : EachPart IsBytes first_string
unfolding first_string
string_first bytes h = then_gives Any IsBytes (first_size bytes) _ (size_first bytes h) (λ size s rest. bytes_first size.0 size.1 rest)

many_first : {A : Type 0} (P : A → Type 0) (first : Bytes → Part A) → EachPart P first → (count : ℕ) → EachPart (Every P) (first_many first count)
unfolding first_many
many_first P first each zero bytes h = (tt, h)
many_first P first each (suc count) bytes h =
    then_gives P (Every P) (first bytes) _ (each bytes h)
    (λ part p rest. then_gives (Every P) (Every P) (first_many first count part.1) _ (many_first P first each count part.1 rest) (λ parts ps after. ((p, ps), after)))

list_first : {A : Type 0} (P : A → Type 0) (first : Bytes → Part A) → EachPart P first → EachPart (Every P) (first_list first)
unfolding first_list
list_first P first each bytes h = then_gives Any (Every P) (first_size bytes) _ (size_first bytes h) (λ count c rest. many_first P first each count.0 count.1 rest)

-- ---- transactions

abbrev IsOutpoint : Outpoint → Type 0
IsOutpoint outpoint = IsBytes outpoint.id

outpoint_first : EachPart IsOutpoint first_outpoint
unfolding first_outpoint
outpoint_first bytes h =
    then_gives IsBytes IsOutpoint (first_bytes 32 bytes) _ (bytes_first 32 bytes h)
    (λ id is rest. then_gives Any IsOutpoint (first_number w32 id.1) _ (number_first w32 id.1 rest) (λ index i after. (is, after)))

input_first : EachPart IsInputOfBytes first_input
unfolding first_input
input_first bytes h =
    then_gives IsOutpoint IsInputOfBytes (first_outpoint bytes) _ (outpoint_first bytes h)
    (λ outpoint is rest. then_gives IsBytes IsInputOfBytes (first_string outpoint.1) _ (string_first outpoint.1 rest)
    (λ script_sig s after. then_gives Any IsInputOfBytes (first_number w32 script_sig.1) _ (number_first w32 script_sig.1 after)
    (λ sequence n last. (record { id = is; script_sig = s }, last))))

output_first : EachPart IsOutputOfBytes first_output
unfolding first_output
output_first bytes h =
    then_gives Any IsOutputOfBytes (first_number w64 bytes) _ (number_first w64 bytes h)
    (λ amount a rest. then_gives IsBytes IsOutputOfBytes (first_string amount.1) _ (string_first amount.1 rest) (λ script s after. (record { script = s }, after)))

abbrev AreSides : List TransactionInput × List TransactionOutput → Type 0
AreSides sides = Every IsInputOfBytes sides.0 × Every IsOutputOfBytes sides.1

sides_first : EachPart AreSides first_sides
unfolding first_sides
sides_first bytes h =
    then_gives (Every IsInputOfBytes) AreSides (first_list first_input bytes) _ (list_first IsInputOfBytes first_input input_first bytes h)
    (λ inputs i rest. then_gives (Every IsOutputOfBytes) AreSides (first_list first_output inputs.1) _ (list_first IsOutputOfBytes first_output output_first inputs.1 rest)
    (λ outputs o after. ((i, o), after)))

witness_first : EachPart (Every IsBytes) first_witness
witness_first bytes h = list_first IsBytes first_string string_first bytes h

-- behind a part of which nothing more has to be known, a part that is all of the bytes
behind : {A B : Type 0} (P : A → Type 0) (Q : B → Type 0) (part : Part A) (next : A × Bytes → Option B) → Gives P part
    → ((read : A × Bytes) → P read.0 → IsBytes read.1 → IfAny Q (next read)) → IfAny Q (part >>= next)
behind P Q None next h on = tt
behind P Q (Some read) next h on = on read h.0 h.1

if_tested : {A : Type 0} (P : A → Type 0) (b : Bool) (x y : Option A) → IfAny P x → IfAny P y → IfAny P (if b then x else y)
if_tested P true x y p q = p
if_tested P false x y p q = q

whole_is : {A : Type 0} (P : A → Type 0) (part : Part A) → Gives P part → IfAny P (whole part)
unfolding whole
whole_is P None h = tt
whole_is P (Some part) h = if_tested P (nat_le (length part.1) 0) (Some part.0) None h.0 tt

pub transaction_read : (bytes : Bytes) → IsBytes bytes → IfAny IsOfBytes (transaction_of bytes)
unfolding transaction_of
transaction_read bytes h =
    behind Any IsOfBytes (first_number w32 bytes) _ (number_first w32 bytes h)
    (λ version v rest. behind AreSides IsOfBytes (first_sides version.1) _ (sides_first version.1 rest)
    (λ sides s after. behind Any IsOfBytes (first_number w32 sides.1) _ (number_first w32 sides.1 after)
    (λ lock_time l last. whole_is IsOfBytes (Some (record { version = version.0; inputs = sides.0.0; outputs = sides.0.1; lock_time = lock_time.0 }, lock_time.1))
    (record { inputs = s.0; outputs = s.1 }, last))))

witnessed_read : (bytes : Bytes) → IsBytes bytes → IfAny IsOfBytes (witnessed_transaction_of bytes)
unfolding witnessed_transaction_of
witnessed_read bytes h =
    behind Any IsOfBytes (first_number w32 bytes) _ (number_first w32 bytes h)
    (λ version v rest. behind IsBytes IsOfBytes (first_bytes 2 version.1) _ (bytes_first 2 version.1 rest)
    (λ marker m behind_marker. behind AreSides IsOfBytes (first_sides marker.1) _ (sides_first marker.1 behind_marker)
    (λ sides s after. behind (Every (Every IsBytes)) IsOfBytes (first_many first_witness (length sides.0.0) sides.1) _
    (many_first (Every IsBytes) first_witness witness_first (length sides.0.0) sides.1 after)
    (λ witnesses w left. behind Any IsOfBytes (first_number w32 witnesses.1) _ (number_first w32 witnesses.1 left)
    (λ lock_time l last.
    let it : Transaction = record { version = version.0; inputs = sides.0.0; outputs = sides.0.1; lock_time = lock_time.0 } in
    if_tested IsOfBytes ((slice_index marker.0 1 == 1) && nat_lt 0 (length sides.0.0)) (whole (Some (it, lock_time.1))) None
    (whole_is IsOfBytes (Some (it, lock_time.1)) (record { inputs = s.0; outputs = s.1 }, last)) tt)))))

pub network_read : (bytes : Bytes) → IsBytes bytes → IfAny IsOfBytes (network_transaction_of bytes)
unfolding network_transaction_of
network_read bytes h =
    if_tested IsOfBytes (nat_lt 4 (length bytes) && (slice_index bytes 4 == 0)) (witnessed_transaction_of bytes) (transaction_of bytes) (witnessed_read bytes h) (transaction_read bytes h)

pub output_read : (bytes : Bytes) → IsBytes bytes → IfAny IsOutputOfBytes (output_of bytes)
output_read bytes h = whole_is IsOutputOfBytes (first_output bytes) (output_first bytes h)

pub witness_read : (bytes : Bytes) → IsBytes bytes → IfAny (Every IsBytes) (witness_of bytes)
witness_read bytes h = whole_is (Every IsBytes) (first_witness bytes) (witness_first bytes h)

-- ---- maps

abbrev pub IsPair : Pair → Type 0
IsPair pair = IsBytes pair.key × IsBytes pair.value

pub found_is : (test : Pair → Bool) (pairs : Map) → Every IsPair pairs → IfAny IsPair (find test pairs)
found_is test [] h = tt
found_is test (pair ∷ pairs) h = by (test pair) (found_is test pairs h.1)
  where
    by : (b : Bool) → IfAny IsPair (find test pairs) → IfAny IsPair (cond b (Some pair) (find test pairs))
    by true rest = h.0
    by false rest = rest

pub value_is : (o : Option Pair) → IfAny IsPair o → IfAny IsBytes (option_map (λ (pair : Pair). pair.value) o)
value_is None h = tt
value_is (Some pair) h = h.1

pub or_nothing : (o : Option Bytes) → IfAny IsBytes o → IsBytes (unwrap_or o [])
or_nothing None h = no_bytes
or_nothing (Some bytes) h = h

value_in_is : (type : ℕ) (pairs : Map) → Every IsPair pairs → IsBytes (value_in type pairs)
value_in_is type pairs h = or_nothing _ (value_is (pair_of_type type pairs) (found_is _ pairs h))

-- ---- the transaction of a PSBT

abbrev IsOutline : Outline → Type 0
IsOutline (given transaction) = IsOfBytes transaction
IsOutline (counted inputs outputs) = ⊤

pair_read : (o : Option Pair) → IfAny IsPair o → IfAny IsOfBytes (transaction_in_pair o)
pair_read None h = tt
pair_read (Some pair) h = transaction_read pair.value h.1

given_is : (o : Option Transaction) → IfAny IsOfBytes o → IfAny IsOutline (option_map given o)
given_is None h = tt
given_is (Some transaction) h = h

outline_is : (v : PsbtVersion) (global : Map) → Every IsPair global → IfAny IsOutline (outline_in v global)
outline_is version.Zero global h = given_is (transaction_in global) (pair_read (pair_of_type GLOBAL_UNSIGNED_TX global) (found_is _ global h))
outline_is version.Two global h = if_tested IsOutline _ (Some _) None tt tt

inputs_of : (maps : List Map) → Every (Every IsPair) maps → Every IsInputOfBytes (map input_of maps)
inputs_of [] h = tt
inputs_of (m ∷ maps) h = (record { id = value_in_is IN_PREVIOUS_TXID m h.0; script_sig = no_bytes }, inputs_of maps h.1)

outputs_of : (maps : List Map) → Every (Every IsPair) maps → Every IsOutputOfBytes (map fields.output_of maps)
outputs_of [] h = tt
outputs_of (m ∷ maps) h = (record { script = value_in_is OUT_SCRIPT m h.0 }, outputs_of maps h.1)

by_outline : (outline : Outline) (global : Map) (inputs outputs : List Map) → IsOutline outline → Every (Every IsPair) inputs → Every (Every IsPair) outputs
    → IsOfBytes (transaction_by outline global inputs outputs)
by_outline (given transaction) global inputs outputs o i p = o
by_outline (counted input_number output_number) global inputs outputs o i p = record { inputs = inputs_of inputs i; outputs = outputs_of outputs p }

taken_outline : (o : Option Outline) (outline : Outline) → IfAny IsOutline o → o ≡ Some outline → IsOutline outline
taken_outline o outline h e = subst (IfAny IsOutline) e h

each_map : (maps : List Map) → Every IsMapOfBytes maps → Every (Every IsPair) maps
each_map [] h = tt
each_map (m ∷ maps) h = (from_all IsPair m h.0, each_map maps h.1)

maps_are : (maps : List Map) → All IsMapOfBytes maps → Every (Every IsPair) maps
maps_are maps h = each_map maps (from_all IsMapOfBytes maps h)

pub psbt_maps : (psbt : Psbt) → IsWhole psbt → Every (Every IsPair) psbt.inputs
psbt_maps psbt whole = maps_are psbt.inputs whole.inputs

pub transaction_is : (psbt : Psbt) → IsWhole psbt → IsOfBytes psbt.transaction
transaction_is psbt whole =
    let sound = whole.sound in
    let outline = taken_outline _ sound.outline (outline_is _ psbt.global (from_all IsPair psbt.global whole.global)) sound.said in
    subst IsOfBytes (sym sound.transaction)
    (by_outline sound.outline psbt.global psbt.inputs psbt.outputs outline (maps_are psbt.inputs whole.inputs) (maps_are psbt.outputs whole.outputs))
