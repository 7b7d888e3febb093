-- The maps of a PSBT, one after the other, come to what its bytes give.
use Rattle.std.proofs.Common.{◌≡◌, ℕ, suc, ◌+◌, ◌^◌, ◌<◌, ◌≤◌, true, List, [], ◌∷◌, ◌++◌, length, Option, Some, None, Result, Ok, Err, refl, sym, ap, subst, ◌∙◌, arith}
use Rattle.def_script.specs.Bytes.{Bytes, IsBytes}
use Rattle.def_psbt.specs.declared.PsbtFault.TheVariants.{Trailing}
use Rattle.def_psbt.specs.declared.PsbtVersion.{PsbtVersion}
use Rattle.def_psbt.specs.declared.Refusal.{Refusal}
use Rattle.def_psbt.specs.declared.Refusal.TheVariants.{At}
use Rattle.def_psbt.specs.Map.{Map, Psbt, map_text, psbt_text}
use Rattle.def_psbt.specs.Forms.{is_unsigned}
use Rattle.def_psbt.specs.Laws.{IsSound}
use Rattle.def_psbt.specs.Source.{MAX_SOURCE_SIZE, has_magic}
use Rattle.def_psbt.specs.Transaction.{Transaction}
use Rattle.def_psbt.specs.TransactionReading.{transaction_of}
use Rattle.def_psbt.proofs.Reading.{pairs_from, read_is_written}
use Rattle.def_psbt.specs.Fields.{version_of}
use Rattle.def_psbt.specs.Listed.{global_form}
use Rattle.def_psbt.specs.Reading.{map_at, input_rules, output_rules, maps_at, unless, misplaced, outline_in, outline_or, input_count, output_count, transaction_by, unjoined, read_psbt}
use Rattle.def_psbt.specs.Reading.{Outline as TheOutline}
use Rattle.ms_psbt.specs.declared.outline.Outlined.{Outlined}
use Rattle.ms_psbt.specs.declared.outline.Outline.{Outline}
use Rattle.ms_psbt.specs.declared.psbt.TransactionBytes.{TransactionBytes}
use Rattle.ms_psbt.specs.declared.stop.ReadStop.{ReadStop}
use Rattle.ms_psbt.specs.declared.stop.ReadStop.TheVariants as stop
use Rattle.ms_psbt.specs.Seen.{ReadsOr}
use Rattle.ms_psbt.specs.Whole.{read_or, psbt_seen}
use Rattle.ms_psbt.specs.Scaffolding.Kept.{places_of, IsRead, bytes_of}
use Rattle.ms_psbt.specs.Scaffolding.Maps.{Placed}
use Rattle.ms_psbt.specs.Scaffolding.Outlines.{IsOutline, IsOutlined, OutlineReads}
use Rattle.ms_psbt.specs.Scaffolding.Walks.{end_of, starts_from}
use Rattle.ms_psbt.proofs.Joining.{next_is, before_is, before_none, by_unsigned}
use Rattle.ms_psbt.proofs.Placing.{ends_behind, places_are, maps_placed, maps_count}
use Rattle.ms_psbt.proofs.Walking.{ended_at}

-- ---- the global map

-- what the global map says, and where it ends
pub record Global (bytes : Bytes) (after : ℕ) (version : PsbtVersion) (outlined : Outlined) : Type 0 where
  pub global : Map
  pub read : map_at global_form bytes 5 ≡ Ok (global, after)
  pub version_is : version ≡ version_of global
  pub outline : TheOutline
  pub said : unless (misplaced (version_of global) global) (outline_or (outline_in (version_of global) global) after) ≡ Ok outline
  pub is : IsOutlined outlined outline

pub global_found : (bytes : Bytes) (after : ℕ) (version : PsbtVersion) (outlined : Outlined) → end_of (map_at global_form bytes 5) ≡ Ok after
    → ((map : Map × ℕ) → map_at global_form bytes 5 ≡ Ok map → version ≡ version_of map.0)
    → ((map : Map × ℕ) → map_at global_form bytes 5 ≡ Ok map → OutlineReads (Ok outlined) (unless (misplaced version map.0) (outline_or (outline_in version map.0) after)))
    → Global bytes after version outlined
global_found bytes after version outlined e v o =
    let g = ended_at (map_at global_form bytes 5) after e in
    let is = v (g.0, after) g.1 in
    let said = o (g.0, after) g.1 in
    record {
      global = g.0;
      read = g.1;
      version_is = is;
      outline = said.0;
      said = ap (λ (x : PsbtVersion). unless (misplaced x g.0) (outline_or (outline_in x g.0) after)) (sym is) ∙ said.1;
      is = said.2;
    }

pub global_refused : (bytes : Bytes) (after : ℕ) (version : PsbtVersion) (refusal : Refusal) → end_of (map_at global_form bytes 5) ≡ Ok after
    → ((map : Map × ℕ) → map_at global_form bytes 5 ≡ Ok map → version ≡ version_of map.0)
    → ((map : Map × ℕ) → map_at global_form bytes 5 ≡ Ok map → OutlineReads (Err refusal) (unless (misplaced version map.0) (outline_or (outline_in version map.0) after)))
    → read_psbt bytes ≡ Err refusal
unfolding read_psbt
global_refused bytes after version refusal e v o =
    let g = ended_at (map_at global_form bytes 5) after e in
    let is = v (g.0, after) g.1 in
    let said : unless (misplaced (version_of g.0) g.0) (outline_or (outline_in (version_of g.0) g.0) after) ≡ Err refusal =
    ap (λ (x : PsbtVersion). unless (misplaced x g.0) (outline_or (outline_in x g.0) after)) (sym is) ∙ o (g.0, after) g.1 in
    let read = g.1 in
    rw (read, said) refl

pub global_stop : (bytes : Bytes) (why : ReadStop) → ReadsOr (λ (end : ℕ). end) (Err why) (end_of (map_at global_form bytes 5)) → ReadsOr (λ (psbt : Psbt). psbt) (Err why) (read_psbt bytes)
unfolding read_psbt
global_stop bytes why h = grind arith

-- as many inputs and outputs as the outline says
counts_are : (outlined : Outlined) (said : TheOutline) → IsOutlined outlined said → (input_count said ≡ outlined.inputs) × (output_count said ≡ outlined.outputs)
counts_are outlined said is = grind arith

-- ---- what is kept

-- what the making of the transaction answers
abbrev pub Makes : (psbt : Bytes) → Outline → (ins outs : List ℕ) → Result TransactionBytes ReadStop → Type 0
Makes psbt outline ins outs result = (global : Map × ℕ) (said : TheOutline) (input_number output_number middle : ℕ) (inputs outputs : List Map) → map_at global_form psbt 5 ≡ Ok global
    → outline_in (version_of global.0) global.0 ≡ Some said → IsOutline outline input_number output_number said
    → Placed (input_rules (version_of global.0)) psbt global.1 ins inputs → length inputs ≡ input_count said
    → Placed (output_rules (version_of global.0)) psbt middle outs outputs → length outputs ≡ output_count said
    → ReadsOr (λ (made : TransactionBytes). transaction_of (bytes_of made)) result (unless (unjoined (version_of global.0) global.1 inputs) (Ok (Some (transaction_by said global.0 inputs outputs))))

told_of : (o : Option Refusal) (found : Option TheOutline) (after : ℕ) (said : TheOutline) → unless o (outline_or found after) ≡ Ok said → found ≡ Some said
told_of None (Some found) after said e = cc
told_of None None after said e = absurd cc
told_of (Some refusal) found after said e = absurd cc

stopped : (o : Option Refusal) (x : Option Transaction) (psbt : Psbt) (why : ReadStop) → ReadsOr (λ (made : TransactionBytes). transaction_of (bytes_of made)) (Err why) (unless o (Ok x))
    → (read : Result Psbt Refusal) → read ≡ unless o (Ok psbt) → ReadsOr (λ (p : Psbt). p) (Err why) read
stopped o x psbt (stop.Refused refusal) told read is = is ∙ before_is o x psbt refusal told
stopped o x psbt stop.Memory told read is = tt

kept_is : (bytes value : Bytes) (places : List ℕ) (p : Psbt) → read_psbt bytes ≡ Ok p → IsSound p → bytes ≡ psbt_text p.global p.inputs p.outputs → transaction_of value ≡ Some p.transaction
    → is_unsigned (Some p.transaction) ≡ true → places ≡ places_of (5 + length (map_text p.global)) p.inputs → IsRead bytes value places
kept_is bytes value places p e sound text value_is unsigned are =
    let seen : psbt_seen bytes ≡ p = ap (read_or (record { global = []; transaction = record { version = 0; inputs = []; outputs = []; lock_time = 0 }; inputs = []; outputs = [] })) e in
    record {
      read = subst (λ (q : Psbt). read_psbt bytes ≡ Ok q) (sym seen) e;
      sound = subst IsSound (sym seen) sound;
      text = subst (λ (q : Psbt). bytes ≡ psbt_text q.global q.inputs q.outputs) (sym seen) text;
      value = subst (λ (q : Psbt). transaction_of value ≡ Some q.transaction) (sym seen) value_is;
      unsigned = subst (λ (q : Psbt). is_unsigned (Some q.transaction) ≡ true) (sym seen) unsigned;
      places_are = subst (λ (q : Psbt). places ≡ places_of (5 + length (map_text q.global)) q.inputs) (sym seen) are;
    }

-- ---- the maps of inputs and of outputs

module _ {bytes : Bytes} {after : ℕ} {version : PsbtVersion} {outlined : Outlined} (g : Global bytes after version outlined) where
  inputs_count : input_count g.outline ≡ outlined.inputs
  inputs_count = (counts_are outlined g.outline g.is).0

  outputs_count : output_count g.outline ≡ outlined.outputs
  outputs_count = (counts_are outlined g.outline g.is).1

  pub inputs_stop : (why : ReadStop) → ReadsOr (λ (end : ℕ). end) (Err why) (end_of (maps_at (input_rules version) bytes outlined.inputs after))
      → ReadsOr (λ (psbt : Psbt). psbt) (Err why) (read_psbt bytes)
  unfolding read_psbt
  inputs_stop why h =
      let read = g.read in
      let said = g.said in
      rw (read, said) (rw (inputs_count, ← g.version_is) (grind arith))

  module _ {middle : ℕ} (inputs_end : end_of (maps_at (input_rules version) bytes outlined.inputs after) ≡ Ok middle) where
    pub inputs_read : (inputs : List Map) × (maps_at (input_rules (version_of g.global)) bytes (input_count g.outline) after ≡ Ok (inputs, middle))
    inputs_read = rw (inputs_count, ← g.version_is) (ended_at (maps_at (input_rules version) bytes outlined.inputs after) middle inputs_end)

    pub outputs_stop : (why : ReadStop) → ReadsOr (λ (end : ℕ). end) (Err why) (end_of (maps_at (output_rules version) bytes outlined.outputs middle))
        → ReadsOr (λ (psbt : Psbt). psbt) (Err why) (read_psbt bytes)
    unfolding read_psbt
    outputs_stop why h =
        let read = g.read in
        let said = g.said in
        let inputs = inputs_read.1 in
        rw (read, said, inputs) (rw (outputs_count, ← g.version_is) (grind arith))

    module _ {last : ℕ} (outputs_end : end_of (maps_at (output_rules version) bytes outlined.outputs middle) ≡ Ok last) where
      pub outputs_read : (outputs : List Map) × (maps_at (output_rules (version_of g.global)) bytes (output_count g.outline) middle ≡ Ok (outputs, last))
      outputs_read = rw (outputs_count, ← g.version_is) (ended_at (maps_at (output_rules version) bytes outlined.outputs middle) last outputs_end)

      pub trails : last < length bytes → read_psbt bytes ≡ Err (At Trailing last)
      unfolding read_psbt
      trails more = grind (arith, g.read, g.said, inputs_read.1, outputs_read.1)

      pub held : Psbt
      held = record { global = g.global; transaction = transaction_by g.outline g.global inputs_read.0 outputs_read.0; inputs = inputs_read.0; outputs = outputs_read.0 }

      pub whole : length bytes ≤ last → read_psbt bytes ≡ unless (unjoined (version_of g.global) after inputs_read.0) (Ok held)
      unfolding read_psbt held
      whole none = grind (arith, g.read, g.said, inputs_read.1, outputs_read.1)

      pub said_is : outline_in (version_of g.global) g.global ≡ Some g.outline
      said_is = told_of (misplaced (version_of g.global) g.global) (outline_in (version_of g.global) g.global) after g.outline g.said

      -- ---- the transaction

      module _ (fits : IsBytes bytes) (small : length bytes < 2 ^ 64) {ins outs : List ℕ} (ins_are : ins ≡ starts_from (input_rules version) bytes outlined.inputs after)
          (outs_are : outs ≡ starts_from (output_rules version) bytes outlined.outputs middle) where
        ins_placed : Placed (input_rules (version_of g.global)) bytes after ins inputs_read.0
        ins_placed =
            let placed = maps_placed (input_rules (version_of g.global)) bytes fits small (input_count g.outline) after (inputs_read.0, middle) inputs_read.1 in
            let same : starts_from (input_rules (version_of g.global)) bytes (input_count g.outline) after ≡ ins =
            ap (λ (n : ℕ). starts_from (input_rules (version_of g.global)) bytes n after) inputs_count
            ∙ ap (λ (v : PsbtVersion). starts_from (input_rules v) bytes outlined.inputs after) (sym g.version_is) ∙ sym ins_are in
            subst (λ (places : List ℕ). Placed (input_rules (version_of g.global)) bytes after places inputs_read.0) same placed

        outs_placed : Placed (output_rules (version_of g.global)) bytes middle outs outputs_read.0
        outs_placed =
            let placed = maps_placed (output_rules (version_of g.global)) bytes fits small (output_count g.outline) middle (outputs_read.0, last) outputs_read.1 in
            let same : starts_from (output_rules (version_of g.global)) bytes (output_count g.outline) middle ≡ outs =
            ap (λ (n : ℕ). starts_from (output_rules (version_of g.global)) bytes n middle) outputs_count
            ∙ ap (λ (v : PsbtVersion). starts_from (output_rules v) bytes outlined.outputs middle) (sym g.version_is) ∙ sym outs_are in
            subst (λ (places : List ℕ). Placed (output_rules (version_of g.global)) bytes middle places outputs_read.0) same placed

        pub told : (result : Result TransactionBytes ReadStop) → Makes bytes outlined.outline ins outs result
            → ReadsOr (λ (made : TransactionBytes). transaction_of (bytes_of made)) result
            (unless (unjoined (version_of g.global) after inputs_read.0) (Ok (Some (transaction_by g.outline g.global inputs_read.0 outputs_read.0))))
        told result makes =
            makes (g.global, after) g.outline outlined.inputs outlined.outputs middle inputs_read.0 outputs_read.0 g.read said_is g.is
            ins_placed (maps_count (input_rules (version_of g.global)) bytes fits small (input_count g.outline) after (inputs_read.0, middle) inputs_read.1)
            outs_placed (maps_count (output_rules (version_of g.global)) bytes fits small (output_count g.outline) middle (outputs_read.0, last) outputs_read.1)

        pub transaction_stop : (why : ReadStop) → Makes bytes outlined.outline ins outs (Err why) → length bytes ≤ last → ReadsOr (λ (psbt : Psbt). psbt) (Err why) (read_psbt bytes)
        transaction_stop why makes none =
            stopped (unjoined (version_of g.global) after inputs_read.0) (Some (transaction_by g.outline g.global inputs_read.0 outputs_read.0)) held why
            (told (Err why) makes) (read_psbt bytes) (whole none)

        pub is_read : (made : TransactionBytes) (places : List ℕ) → Makes bytes outlined.outline ins outs (Ok made) → length bytes ≤ MAX_SOURCE_SIZE → has_magic bytes ≡ true → length bytes ≤ last
            → places ≡ ins ++ middle ∷ [] → IsRead bytes (bytes_of made) places
        unfolding held
        is_read made places makes short begins none p =
            let both = before_none (unjoined (version_of g.global) after inputs_read.0) (Some (transaction_by g.outline g.global inputs_read.0 outputs_read.0))
            (transaction_of (bytes_of made)) (told (Ok made) makes) in
            let e : read_psbt bytes ≡ Ok held = whole none ∙ next_is (unjoined (version_of g.global) after inputs_read.0) held both.0 in
            let written = read_is_written bytes held fits short begins e in
            let global_is : after ≡ 5 + length (map_text g.global) =
            ends_behind bytes 5 g.global after (pairs_from global_form bytes (suc (length bytes)) [] 5 (g.global, after) fits small g.read).0 in
            let are : starts_from (input_rules (version_of g.global)) bytes (input_count g.outline) after ++ middle ∷ [] ≡ places_of after inputs_read.0 =
            places_are (input_rules (version_of g.global)) bytes fits small (input_count g.outline) after (inputs_read.0, middle) inputs_read.1 in
            let same : ins ≡ starts_from (input_rules (version_of g.global)) bytes (input_count g.outline) after =
            ins_are ∙ ap (λ (v : PsbtVersion). starts_from (input_rules v) bytes outlined.inputs after) g.version_is
            ∙ ap (λ (n : ℕ). starts_from (input_rules (version_of g.global)) bytes n after) (sym inputs_count) in
            kept_is bytes (bytes_of made) places held e written.0 written.1 (sym both.1)
            (by_unsigned bytes fits small (g.global, after) g.outline ins inputs_read.0 outputs_read.0 g.read (version_of g.global) said_is ins_placed both.0)
            (p ∙ ap (λ (starts : List ℕ). starts ++ middle ∷ []) same ∙ are ∙ ap (λ (n : ℕ). places_of n inputs_read.0) global_is)
