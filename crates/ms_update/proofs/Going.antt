-- Maps with what belongs to them, one after the other.
use Rattle.std.proofs.Common.{◌≡◌, ℕ, zero, suc, ◌+◌, ◌<◌, ◌≤◌, ◌||◌, Bool, true, false, List, [], ◌∷◌, ◌++◌, length, length-append, drop, map, Option, Some, None, Ok, Err, refl, sym, ap, subst, ◌∙◌, append_assoc, arith}
use Rattle.std.proofs.lemmas.List.{append-nil, drop_more, drop_at}
use Rattle.std.proofs.lemmas.Option.{slice_get_within, get_or_from_slice_get}
use Rattle.std.specs.List.{AllByRecursion, flat_map, list_any}
use Rattle.std.specs.Prelude.{slice_get, is_some}
use Rattle.def_script.specs.Bytes.{Bytes}
use Rattle.def_psbt.specs.Map.{Map, map_text}
use Rattle.def_psbt.specs.Reading.{or_else}
use Rattle.def_psbt.specs.Transaction.{TransactionInput, TransactionOutput}
use Rattle.def_combine.specs.Joined.{joined_map, joined_maps}
use Rattle.def_update.specs.Known.{Known, OUTPUT, pairs_by}
use Rattle.def_update.specs.Updated.{conflict_in, conflict_among, each_input, known_of_input, known_of_output, input_pairs}
use Rattle.ms_psbt.specs.Pairs.{pairs_in}
use Rattle.ms_psbt.specs.Scaffolding.Pairs.{IsSpelled, IsMapText}
use Rattle.ms_psbt.proofs.Pairing.{pairs_of_text}
use Rattle.ms_update.specs.declared.updating.UpdateStop.{UpdateStop}
use Rattle.ms_update.specs.declared.updating.UpdateStop.TheVariants as stop
use Rattle.ms_update.specs.Scaffolding.Fronts.{BeginsWithMap}
use Rattle.ms_update.specs.Scaffolding.Puts.{PutsMap, PutsMaps, PutsInput, PutsInputs}
use Rattle.ms_update.proofs.Fronts.{front_pairs}

-- the maps that are left come to the same as all of them: the place of the first conflict, the bytes, and the place behind them
pub record Left (owns maps : List Map) (at : ℕ) (out : Bytes) (first : Option ℕ) (whole : Bytes) (last : ℕ) : Type 0 where
  pub conflict : conflict_among owns at maps ≡ first
  pub text : out ++ flat_map map_text (joined_maps maps owns) ≡ whole
  pub end : at + length (flat_map map_text maps) ≡ last

-- ---- one more

pub left_next : (own : Map) (owns : List Map) (map : Map) (maps : List Map) (at next : ℕ) (out new : Bytes) (first : Option ℕ) (whole : Bytes) (last : ℕ)
    → Left (own ∷ owns) (map ∷ maps) at out first whole last → conflict_in own at map ≡ None → new ≡ out ++ map_text (joined_map map own) → next ≡ at + length (map_text map)
    → Left owns maps next new first whole last
left_next own owns map maps at next out new first whole last h free e n =
    let end = h.end in
    let long = length-append (map_text map) (flat_map map_text maps) in
    record {
      conflict = ap (λ (k : ℕ). conflict_among owns k maps) n
          ∙ (ap (λ (o : Option ℕ). or_else o (conflict_among owns (at + length (map_text map)) maps)) (sym free) ∙ h.conflict);
      text = ap (λ (x : Bytes). x ++ flat_map map_text (joined_maps maps owns)) e
          ∙ (append_assoc out (map_text (joined_map map own)) (flat_map map_text (joined_maps maps owns)) ∙ h.text);
      end = omega (arith, end, long, n);
    }

pub left_stop : (own : Map) (owns : List Map) (map : Map) (maps : List Map) (at place : ℕ) (out : Bytes) (first : Option ℕ) (whole : Bytes) (last : ℕ)
    → Left (own ∷ owns) (map ∷ maps) at out first whole last → conflict_in own at map ≡ Some place → first ≡ Some place
left_stop own owns map maps at place out first whole last h bars =
    sym h.conflict ∙ ap (λ (o : Option ℕ). or_else o (conflict_among owns (at + length (map_text map)) maps)) bars

pub left_done : (owns : List Map) (at : ℕ) (out : Bytes) (first : Option ℕ) (whole : Bytes) (last : ℕ) → Left owns [] at out first whole last → (first ≡ None) × (out ≡ whole)
left_done owns at out first whole last h = (sym h.conflict, sym (append-nil out) ∙ h.text)

-- a map is within what is left
pub left_within : (owns : List Map) (map : Map) (maps : List Map) (at : ℕ) (out : Bytes) (first : Option ℕ) (whole : Bytes) (last limit : ℕ)
    → Left owns (map ∷ maps) at out first whole last → last < limit → at + length (map_text map) < limit
left_within owns map maps at out first whole last limit h few =
    let end = h.end in
    let long = length-append (map_text map) (flat_map map_text maps) in
    omega (arith, end, long, few)

-- ---- the maps of inputs from a number on

here : {A : Type 0} (xs : List A) (k : ℕ) (x : A) → slice_get xs k ≡ Some x → drop k xs ≡ x ∷ drop (k + 1) xs
here xs k x e = drop_more xs k x (slice_get_within xs k x e) ∙ ap (λ y. y ∷ drop (k + 1) xs) (get_or_from_slice_get xs k x x e)

-- what holds of the inputs and of their maps, of a step
pub each_here : {B : Type 0} (of : TransactionInput → Map → B) (inputs : List TransactionInput) (maps : List Map) (k : ℕ) (input : TransactionInput) (fields : Map)
    → slice_get inputs k ≡ Some input → slice_get maps k ≡ Some fields → each_input of (drop k inputs) (drop k maps) ≡ of input fields ∷ each_input of (drop (k + 1) inputs) (drop (k + 1) maps)
each_here of inputs maps k input fields i m =
    ap (λ (xs : List TransactionInput). each_input of xs (drop k maps)) (here inputs k input i) ∙ ap (each_input of (input ∷ drop (k + 1) inputs)) (here maps k fields m)

abbrev pub owns_of : List Known → List TransactionInput → List Map → List Map
owns_of known inputs maps = each_input (input_pairs known) inputs maps

pub opened : (known : List Known) (inputs : List TransactionInput) (maps : List Map) (k : ℕ) (input : TransactionInput) (fields : Map) (at : ℕ) (out : Bytes) (first : Option ℕ)
    (whole : Bytes) (last : ℕ)
    → slice_get inputs k ≡ Some input → slice_get maps k ≡ Some fields → Left (owns_of known (drop k inputs) (drop k maps)) (drop k maps) at out first whole last
    → Left (input_pairs known input fields ∷ owns_of known (drop (k + 1) inputs) (drop (k + 1) maps)) (fields ∷ drop (k + 1) maps) at out first whole last
opened known inputs maps k input fields at out first whole last i m h =
    subst (λ (ms : List Map). Left (input_pairs known input fields ∷ owns_of known (drop (k + 1) inputs) (drop (k + 1) maps)) ms at out first whole last) (here maps k fields m)
    (subst (λ (os : List Map). Left os (drop k maps) at out first whole last) (each_here (input_pairs known) inputs maps k input fields i m) h)

pub some_at : {A : Type 0} (xs : List A) (k : ℕ) → k < length xs → (x : A) × (slice_get xs k ≡ Some x)
some_at [] k inside = absurd (omega arith)
some_at (x ∷ xs) zero inside = (x, refl)
some_at (x ∷ xs) (suc k) inside = some_at xs k (omega arith)

-- the map of an input is within what is left
pub input_within : (owns maps : List Map) (k : ℕ) (fields : Map) (at : ℕ) (out : Bytes) (first : Option ℕ) (whole : Bytes) (last limit : ℕ) → slice_get maps k ≡ Some fields
    → Left owns (drop k maps) at out first whole last → last < limit → at + length (map_text fields) < limit
input_within owns maps k fields at out first whole last limit m h few =
    left_within owns fields (drop (k + 1) maps) at out first whole last limit (subst (λ (ms : List Map). Left owns ms at out first whole last) (here maps k fields m) h) few

-- it is put, and the next one follows
pub input_next : (known : List Known) (inputs : List TransactionInput) (maps : List Map) (k : ℕ) (input : TransactionInput) (fields : Map) (at next : ℕ) (out new : Bytes) (first : Option ℕ)
    (whole : Bytes) (last : ℕ) (found : Bool)
    → slice_get inputs k ≡ Some input → slice_get maps k ≡ Some fields → Left (owns_of known (drop k inputs) (drop k maps)) (drop k maps) at out first whole last
    → PutsInput known input fields at out new (Ok found) → next ≡ at + length (map_text fields)
    → Left (owns_of known (drop (k + 1) inputs) (drop (k + 1) maps)) (drop (k + 1) maps) next new first whole last
input_next known inputs maps k input fields at next out new first whole last found i m h put n =
    left_next (input_pairs known input fields) (owns_of known (drop (k + 1) inputs) (drop (k + 1) maps)) fields (drop (k + 1) maps) at next out new first whole last
    (opened known inputs maps k input fields at out first whole last i m h) put.0 put.1 n

-- a conflict in it is the first of all
pub input_stop : (known : List Known) (inputs : List TransactionInput) (maps : List Map) (k : ℕ) (input : TransactionInput) (fields : Map) (at begin start : ℕ)
    (out new before after whole : Bytes) (last : ℕ) (why : UpdateStop)
    → slice_get inputs k ≡ Some input → slice_get maps k ≡ Some fields → begin ≡ start
    → Left (owns_of known (drop k inputs) (drop k maps)) (drop k maps) at out (conflict_among (owns_of known inputs maps) begin maps) whole last
    → PutsInput known input fields at out new (Err why) → PutsInputs known inputs maps start before after (Err why)
input_stop known inputs maps k input fields at begin start out new before after whole last (stop.Conflict place) i m b h put =
    ap (λ (n : ℕ). conflict_among (owns_of known inputs maps) n maps) (sym b)
    ∙ left_stop (input_pairs known input fields) (owns_of known (drop (k + 1) inputs) (drop (k + 1) maps)) fields (drop (k + 1) maps) at place out
    (conflict_among (owns_of known inputs maps) begin maps) whole last
    (opened known inputs maps k input fields at out (conflict_among (owns_of known inputs maps) begin maps) whole last i m h) put
input_stop known inputs maps k input fields at begin start out new before after whole last stop.Memory i m b h put = tt

-- whether something is known of those before, or of one that is left
pub known_next : (known : List Known) (inputs : List TransactionInput) (maps : List Map) (k : ℕ) (input : TransactionInput) (fields : Map) (has found new total : Bool)
    → slice_get inputs k ≡ Some input → slice_get maps k ≡ Some fields → found ≡ is_some (known_of_input known input fields) → new ≡ has || found
    → (has || list_any (λ one. is_some one) (each_input (known_of_input known) (drop k inputs) (drop k maps))) ≡ total
    → (new || list_any (λ one. is_some one) (each_input (known_of_input known) (drop (k + 1) inputs) (drop (k + 1) maps))) ≡ total
known_next known inputs maps k input fields has found new total i m f n held =
    let step : list_any (λ (one : Option Known). is_some one) (each_input (known_of_input known) (drop k inputs) (drop k maps))
    ≡ (is_some (known_of_input known input fields) || list_any (λ (one : Option Known). is_some one) (each_input (known_of_input known) (drop (k + 1) inputs) (drop (k + 1) maps)))
    = ap (list_any (λ (one : Option Known). is_some one)) (each_here (known_of_input known) inputs maps k input fields i m) in
    ap (λ (b : Bool). b || list_any (λ (one : Option Known). is_some one) (each_input (known_of_input known) (drop (k + 1) inputs) (drop (k + 1) maps))) n
    ∙ (assoc has found (list_any (λ (one : Option Known). is_some one) (each_input (known_of_input known) (drop (k + 1) inputs) (drop (k + 1) maps)))
    ∙ (ap (λ (b : Bool). has || (b || list_any (λ (one : Option Known). is_some one) (each_input (known_of_input known) (drop (k + 1) inputs) (drop (k + 1) maps)))) f
    ∙ (ap (λ (b : Bool). has || b) (sym step) ∙ held)))
  where
    assoc : (a b c : Bool) → ((a || b) || c) ≡ (a || (b || c))
    assoc true b c = refl
    assoc false b c = refl

pub none_known : (has total : Bool) → (has || false) ≡ total → has ≡ total
none_known true total h = h
none_known false total h = h

-- ---- the maps of outputs, of which the bytes are left

abbrev pub own_of_output : List Known → TransactionOutput → Map
own_of_output known output = pairs_by OUTPUT (known_of_output known output)

abbrev pub owns_of_outputs : List Known → List TransactionOutput → List Map
owns_of_outputs known outputs = map (own_of_output known) outputs

pub record OutputsLeft (known : List Known) (outputs : List TransactionOutput) (rest : Bytes) (at : ℕ) (out : Bytes) (first : Option ℕ) (whole : Bytes) (last : ℕ) : Type 0 where
  pub maps : List Map
  pub text : rest ≡ flat_map map_text maps
  pub spelled : AllByRecursion (λ (map : Map). AllByRecursion IsSpelled map) maps
  pub count : length maps ≡ length outputs
  pub left : Left (owns_of_outputs known outputs) maps at out first whole last

-- the map of the output that is next
pub record Opened (known : List Known) (output : TransactionOutput) (outputs : List TransactionOutput) (rest : Bytes) (at : ℕ) (out : Bytes) (first : Option ℕ) (whole : Bytes) (last : ℕ) :
    Type 0 where
  pub map : Map
  pub maps : List Map
  pub text : rest ≡ map_text map ++ flat_map map_text maps
  pub spelled : AllByRecursion IsSpelled map
  pub others : AllByRecursion (λ (map : Map). AllByRecursion IsSpelled map) maps
  pub count : length maps ≡ length outputs
  pub left : Left (own_of_output known output ∷ owns_of_outputs known outputs) (map ∷ maps) at out first whole last

pub open_output : (known : List Known) (output : TransactionOutput) (outputs : List TransactionOutput) (rest : Bytes) (at : ℕ) (out : Bytes) (first : Option ℕ) (whole : Bytes) (last : ℕ)
    → OutputsLeft known (output ∷ outputs) rest at out first whole last → Opened known output outputs rest at out first whole last
open_output known output outputs rest at out first whole last h = go h.maps h.text h.spelled h.count h.left
  where
    go : (ms : List Map) → rest ≡ flat_map map_text ms → AllByRecursion (λ (m : Map). AllByRecursion IsSpelled m) ms → length ms ≡ suc (length outputs)
        → Left (owns_of_outputs known (output ∷ outputs)) ms at out first whole last → Opened known output outputs rest at out first whole last
    go [] text all count left = absurd (omega arith)
    go (m ∷ ms) text all count left = record { map = m; maps = ms; text = text; spelled = all.0; others = all.1; count = omega (arith, count); left = left }

pub front_of : (known : List Known) (output : TransactionOutput) (outputs : List TransactionOutput) (rest : Bytes) (at : ℕ) (out : Bytes) (first : Option ℕ) (whole : Bytes) (last : ℕ)
    → Opened known output outputs rest at out first whole last → BeginsWithMap rest
front_of known output outputs rest at out first whole last o = record { map = o.map; rest = flat_map map_text o.maps; text = o.text; spelled = o.spelled }

-- these are the bytes of its map
pub record IsFront (map : Map) (bytes : Bytes) : Type 0 where
  pub text : bytes ≡ map_text map
  pub pairs : pairs_in bytes ≡ map
  pub is_text : IsMapText bytes

pub front_is : (known : List Known) (output : TransactionOutput) (outputs : List TransactionOutput) (rest : Bytes) (at : ℕ) (out : Bytes) (first : Option ℕ) (whole : Bytes) (last : ℕ) (bytes : Bytes)
    → (o : Opened known output outputs rest at out first whole last) → bytes ≡ map_text (pairs_in rest) → IsFront o.map bytes
front_is known output outputs rest at out first whole last bytes o e =
    let is : bytes ≡ map_text o.map = e ∙ ap map_text (front_pairs rest o.map (flat_map map_text o.maps) o.text o.spelled) in
    record { text = is; pairs = pairs_of_text bytes o.map is o.spelled; is_text = record { map = o.map; text = is; spelled = o.spelled } }

-- it is put, and the next one follows
pub output_next : (known : List Known) (output : TransactionOutput) (outputs : List TransactionOutput) (rest : Bytes) (at next : ℕ) (out new : Bytes) (first : Option ℕ) (whole : Bytes)
    (last : ℕ) (bytes behind : Bytes) (own : Map)
    → OutputsLeft known (output ∷ outputs) rest at out first whole last → bytes ≡ map_text (pairs_in rest) → own ≡ own_of_output known output → conflict_in own at (pairs_in bytes) ≡ None
    → new ≡ out ++ map_text (joined_map (pairs_in bytes) own) → next ≡ at + length bytes → behind ≡ drop (length bytes) rest → OutputsLeft known outputs behind next new first whole last
output_next known output outputs rest at next out new first whole last bytes behind own h e is free put n b =
    let o = open_output known output outputs rest at out first whole last h in
    let front = front_is known output outputs rest at out first whole last bytes o e in
    let size : length (map_text o.map) ≡ length bytes = ap length (sym front.text) in
    record {
      maps = o.maps;
      text = b ∙ (ap (drop (length bytes)) o.text ∙ drop_at (map_text o.map) (flat_map map_text o.maps) (length bytes) size);
      spelled = o.others;
      count = o.count;
      left = left_next (own_of_output known output) (owns_of_outputs known outputs) o.map o.maps at next out new first whole last o.left
          (ap (λ (m : Map). conflict_in (own_of_output known output) at m) (sym front.pairs) ∙ (ap (λ (w : Map). conflict_in w at (pairs_in bytes)) (sym is) ∙ free))
          (put ∙ (ap (λ (m : Map). out ++ map_text (joined_map m own)) front.pairs ∙ ap (λ (w : Map). out ++ map_text (joined_map o.map w)) is))
          (n ∙ ap (λ (x : Bytes). at + length x) front.text);
    }

pub output_stop : (known : List Known) (output : TransactionOutput) (outputs : List TransactionOutput) (rest : Bytes) (at place : ℕ) (out : Bytes) (first : Option ℕ) (whole : Bytes)
    (last : ℕ) (bytes : Bytes) (own : Map)
    → OutputsLeft known (output ∷ outputs) rest at out first whole last → bytes ≡ map_text (pairs_in rest) → own ≡ own_of_output known output → conflict_in own at (pairs_in bytes) ≡ Some place
    → first ≡ Some place
output_stop known output outputs rest at place out first whole last bytes own h e is bars =
    let o = open_output known output outputs rest at out first whole last h in
    let front = front_is known output outputs rest at out first whole last bytes o e in
    left_stop (own_of_output known output) (owns_of_outputs known outputs) o.map o.maps at place out first whole last o.left
    (ap (λ (m : Map). conflict_in (own_of_output known output) at m) (sym front.pairs) ∙ (ap (λ (w : Map). conflict_in w at (pairs_in bytes)) (sym is) ∙ bars))

pub outputs_done : (known : List Known) (rest : Bytes) (at : ℕ) (out : Bytes) (first : Option ℕ) (whole : Bytes) (last : ℕ) → OutputsLeft known [] rest at out first whole last
    → (first ≡ None) × (out ≡ whole)
outputs_done known rest at out first whole last h = go h.maps h.count h.left
  where
    go : (ms : List Map) → length ms ≡ 0 → Left [] ms at out first whole last → (first ≡ None) × (out ≡ whole)
    go [] count left = left_done [] at out first whole last left
    go (m ∷ ms) count left = absurd (omega arith)

-- its bytes are within what is left
pub output_fits : (known : List Known) (output : TransactionOutput) (outputs : List TransactionOutput) (rest : Bytes) (at : ℕ) (out : Bytes) (first : Option ℕ) (whole : Bytes) (last : ℕ)
    (bytes : Bytes)
    → OutputsLeft known (output ∷ outputs) rest at out first whole last → bytes ≡ map_text (pairs_in rest) → length bytes ≤ length rest
output_fits known output outputs rest at out first whole last bytes h e =
    let o = open_output known output outputs rest at out first whole last h in
    let front = front_is known output outputs rest at out first whole last bytes o e in
    let size = ap length front.text in
    let long = ap length o.text in
    let both = length-append (map_text o.map) (flat_map map_text o.maps) in
    omega (arith, long, both, size)

pub output_barred : (known : List Known) (output : TransactionOutput) (outputs : List TransactionOutput) (all : List TransactionOutput) (rest : Bytes) (at begin start : ℕ)
    (out new before after whole : Bytes) (last : ℕ)
    (bytes : Bytes) (own : Map) (maps : List Map) (why : UpdateStop) → begin ≡ start → OutputsLeft known (output ∷ outputs) rest at out
    (conflict_among (owns_of_outputs known all) begin maps) whole last
    → bytes ≡ map_text (pairs_in rest) → own ≡ own_of_output known output → PutsMap own at (pairs_in bytes) out new (Err why) → PutsMaps (owns_of_outputs known all) start maps before after (Err why)
output_barred known output outputs all rest at begin start out new before after whole last bytes own maps (stop.Conflict place) b h e is put =
    ap (λ (n : ℕ). conflict_among (owns_of_outputs known all) n maps) (sym b)
    ∙ output_stop known output outputs rest at place out (conflict_among (owns_of_outputs known all) begin maps) whole last bytes own h e is put
output_barred known output outputs all rest at begin start out new before after whole last bytes own maps stop.Memory b h e is put = tt

-- the first output is taken from those that are left
pub after_next : (known : List Known) (all : List TransactionOutput) (output : TransactionOutput) (outputs : List TransactionOutput) (rest : Bytes) (at : ℕ) (out : Bytes) (first : Option ℕ)
    (whole : Bytes) (last : ℕ)
    → all ≡ output ∷ outputs → OutputsLeft known all rest at out first whole last → OutputsLeft known (output ∷ outputs) rest at out first whole last
after_next known all output outputs rest at out first whole last e h = subst (λ (os : List TransactionOutput). OutputsLeft known os rest at out first whole last) e h

pub outputs_end : (known : List Known) (all items : List TransactionOutput) (maps : List Map) (rest : Bytes) (at begin start : ℕ) (before out : Bytes) (last : ℕ) → begin ≡ start → items ≡ []
    → OutputsLeft known items rest at out (conflict_among (owns_of_outputs known all) begin maps) (before ++ flat_map map_text (joined_maps maps (owns_of_outputs known all))) last
    → (conflict_among (owns_of_outputs known all) start maps ≡ None) × (out ≡ before ++ flat_map map_text (joined_maps maps (owns_of_outputs known all)))
outputs_end known all items maps rest at begin start before out last b e h =
    let done = outputs_done known rest at out (conflict_among (owns_of_outputs known all) begin maps) (before ++ flat_map map_text (joined_maps maps (owns_of_outputs known all))) last
    (subst (λ (os : List TransactionOutput). OutputsLeft known os rest at out (conflict_among (owns_of_outputs known all) begin maps)
    (before ++ flat_map map_text (joined_maps maps (owns_of_outputs known all))) last) e h) in
    (ap (λ (n : ℕ). conflict_among (owns_of_outputs known all) n maps) (sym b) ∙ done.0, done.1)
