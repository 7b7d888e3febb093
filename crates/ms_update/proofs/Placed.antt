-- The map of an input with what belongs to it.
use Rattle.std.proofs.Common.{◌≡◌, ℕ, Bool, List, [], ◌++◌, if◌then◌else◌, Option, Some, None, Ok, Err, option_map, refl, sym, ap, ◌∙◌}
use Rattle.std.specs.Prelude.{slice_get, is_some}
use Rattle.def_script.specs.Bytes.{Bytes}
use Rattle.def_psbt.specs.Listed.{Form}
use Rattle.def_psbt.specs.Laws.{IsSoundMap}
use Rattle.def_psbt.specs.Map.{Map, map_text}
use Rattle.def_psbt.specs.Transaction.{TransactionInput}
use Rattle.def_spend.specs.Reading.{has_final}
use Rattle.def_update.specs.Known.{Known, INPUT, pairs_by}
use Rattle.def_combine.specs.Joined.{joined_map}
use Rattle.def_update.specs.Updated.{conflict_in, known_of_input, input_pairs}
use Rattle.ms_psbt.specs.Pairs.{pairs_in}
use Rattle.ms_psbt.proofs.Pairing.{pairs_of_text, sound_spelled}
use Rattle.ms_update.specs.declared.updating.UpdateStop.{UpdateStop}
use Rattle.ms_update.specs.declared.updating.UpdateStop.TheVariants as stop
use Rattle.ms_update.specs.Scaffolding.Puts.{PutsMap, PutsInput}

some_is : {A : Type 0} (x y : A) → ◌≡◌ {A = Option A} (Some x) (Some y) → x ≡ y
some_is x y e = cc

-- the one that stands at a place
pub one_at : {A : Type 0} (xs : List A) (k : ℕ) (x y : A) → slice_get xs k ≡ Some x → slice_get xs k ≡ Some y → x ≡ y
one_at xs k x y e f = some_is x y (sym e ∙ f)

pub own_is : (known : List Known) (input : TransactionInput) (fields : Map) (own : Map) (final : Bool) (found : Option Known)
    → own ≡ (if final then [] else pairs_by INPUT found) → final ≡ has_final fields → found ≡ known_of_input known input fields → own ≡ input_pairs known input fields
own_is known input fields own final found e f k =
    e
    ∙ (ap (λ (b : Bool). if b then [] else pairs_by INPUT found) f
    ∙ ap (λ (o : Option Known). if has_final fields then [] else pairs_by INPUT o) k)

pub fields_are : (forms : ℕ → Form) (bytes : Bytes) (fields : Map) → bytes ≡ map_text fields → IsSoundMap forms [] fields → pairs_in bytes ≡ fields
fields_are forms bytes fields e sound = pairs_of_text bytes fields e (sound_spelled forms [] fields sound)

pub some_of : {A B : Type 0} (f : A → B) (o : Option A) → is_some o ≡ is_some (option_map f o)
some_of f (Some x) = refl
some_of f None = refl

-- what was put of these pairs was put of the input's

pub input_put : (known : List Known) (input : TransactionInput) (fields own pairs : Map) (at : ℕ) (before after : Bytes) (has : Bool) → PutsMap own at pairs before after (Ok tt)
    → own ≡ input_pairs known input fields → pairs ≡ fields → has ≡ is_some (known_of_input known input fields) → PutsInput known input fields at before after (Ok has)
input_put known input fields own pairs at before after has put o p h = (
  sym (ap (λ (w : Map). conflict_in w at fields) o) ∙ (sym (ap (λ (m : Map). conflict_in own at m) p) ∙ put.0),
  put.1 ∙ (ap (λ (m : Map). before ++ map_text (joined_map m own)) p ∙ ap (λ (w : Map). before ++ map_text (joined_map fields w)) o),
  h,
)

pub input_barred : (known : List Known) (input : TransactionInput) (fields own pairs : Map) (at : ℕ) (before after : Bytes) (why : UpdateStop) → PutsMap own at pairs before after (Err why)
    → own ≡ input_pairs known input fields → pairs ≡ fields → PutsInput known input fields at before after (Err why)
input_barred known input fields own pairs at before after (stop.Conflict place) put o p =
    sym (ap (λ (w : Map). conflict_in w at fields) o) ∙ (sym (ap (λ (m : Map). conflict_in own at m) p) ∙ put)
input_barred known input fields own pairs at before after stop.Memory put o p = tt
