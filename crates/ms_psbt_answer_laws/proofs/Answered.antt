-- The answer, computed: each witness script is read by the reader of Scripts.
use Rattle.std.proofs.Common.{◌≡◌, zero, suc, Bool, true, List, [], ◌∷◌, map, All, Option, Some, None, Result, Ok, Err, refl, sym, ap, arith}
use Rattle.std.specs.Bool.{Decides}
use Rattle.std.specs.List.{list_all}
use Rattle.std.proofs.lemmas.Bool.Decides.{Decides-by_and}
use Rattle.def_script.specs.Bytes.{Bytes}
use Rattle.def_tree.specs.Tree.{Key, Tree}
use Rattle.def_tree.specs.Range.{IsKey}
use Rattle.def_combine.specs.Combine.{combined_of}
use Rattle.def_psbt.specs.declared.Refusal.{Refusal}
use Rattle.def_psbt.specs.Map.{Psbt}
use Rattle.def_psbt.specs.Source.{psbt_of}
use Rattle.def_spend.specs.declared.State.{State}
use Rattle.def_spend.specs.declared.Verification.{Verification}
use Rattle.def_spend.specs.Fields.{keys_in}
use Rattle.def_spend.specs.Input.{Spend, spends_of}
use Rattle.def_spend.specs.Reading.{Input, script_code, ReadsAs, HasReading, AreInputs}
use Rattle.ms_answer_laws.proofs.Decided.{decided, decided_is, decided_not, is_key_bytes, keys_tell}
use Rattle.def_psbt_answer.specs.declared.status.Status.{Status}
use Rattle.def_psbt_answer.specs.declared.words.Command.{Command}
use Rattle.def_psbt_answer.specs.declared.words.Request.{Request}
use Rattle.def_psbt_answer.specs.declared.words.Request.TheVariants as request
use Rattle.def_psbt_answer.specs.Words.{request_of}
use Rattle.def_psbt_answer.specs.declared.words.Form.{Form}
use Rattle.def_psbt_answer.specs.Reply.{Reply, reply, usage_reply, refusal_reply, form_of, command_reply, combine_reply}
use Rattle.def_psbt_answer.specs.Answer.{verification_of, RepliesToSource, RepliesToWords, Answer}

-- ---- the inputs of a PSBT

-- the tree that a witness script is read as
abbrev pub tree_found : (keys : List Key) → Result Bytes State → Option Tree
tree_found keys (Ok script) = decided keys script
tree_found keys (Err state) = None

reads_found : (keys : List Key) (script : Result Bytes State) → All IsKey keys → ReadsAs keys script (tree_found keys script)
reads_found keys (Err state) all = refl
reads_found keys (Ok script) all = go (decided keys script) refl
  where
    go : (o : Option Tree) → decided keys script ≡ o → ReadsAs keys (Ok script) o
    go (Some tree) e = decided_is keys script tree all e
    go None e = λ tree. decided_not keys script tree all e

abbrev pub input_found : Spend → Input
input_found spend = record { spend = spend; tree = tree_found (keys_in spend.fields) (script_code spend) }

abbrev pub inputs_found : Verification → Psbt → List Input
inputs_found verification psbt = map input_found (spends_of verification psbt)

abbrev pub HasKeys : Spend → Type 0
HasKeys spend = All IsKey (keys_in spend.fields)

spends_stay : (spends : List Spend) → map (λ input. input.spend) (map input_found spends) ≡ spends
spends_stay [] = refl
spends_stay (spend ∷ spends) = ap (λ rest. spend ∷ rest) (spends_stay spends)

all_read : (spends : List Spend) → All HasKeys spends → All HasReading (map input_found spends)
all_read [] h k d lt = absurd (omega (arith, lt))
all_read (spend ∷ spends) h zero d lt = reads_found (keys_in spend.fields) (script_code spend) (h 0 spend (omega arith))
all_read (spend ∷ spends) h (suc k) d lt = all_read spends (λ i e below. h (suc i) e (omega arith)) k d (omega arith)

pub are_inputs : (verification : Verification) (psbt : Psbt) → All HasKeys (spends_of verification psbt)
    → AreInputs verification psbt (inputs_found verification psbt)
are_inputs verification psbt h =
    record { spends = spends_stay (spends_of verification psbt); read = all_read (spends_of verification psbt) h }

-- ---- the answer

abbrev pub source_reply : Command → Form → Result Psbt Refusal → Reply
source_reply command form (Ok psbt) = command_reply command form psbt (inputs_found (verification_of command) psbt)
source_reply command form (Err refusal) = refusal_reply refusal

abbrev pub request_reply : Request → (source : Bytes) → Reply
request_reply (request.One command) source = source_reply command (form_of source) (psbt_of source)
request_reply request.Combine source = combine_reply (combined_of source)

abbrev pub words_reply : Option Request → (source : Bytes) → Reply
words_reply (Some request) source = request_reply request source
words_reply None source = usage_reply

-- ---- keys of literals

abbrev pub has_keys : Spend → Bool
has_keys spend = list_all is_key_bytes (keys_in spend.fields)

spends_tell : (spends : List Spend) → Decides (list_all has_keys spends) (All HasKeys spends)
spends_tell spends = Decides-by_and has_keys HasKeys (list_all has_keys) (λ spend. keys_tell (keys_in spend.fields)) refl (λ x xs. refl) spends

abbrev pub source_has_keys : Verification → Result Psbt Refusal → Bool
source_has_keys verification (Ok psbt) = list_all has_keys (spends_of verification psbt)
source_has_keys verification (Err refusal) = true

abbrev pub request_has_keys : Option Request → (source : Bytes) → Bool
request_has_keys None source = true
request_has_keys (Some request.Combine) source = true
request_has_keys (Some (request.One command)) source = source_has_keys (verification_of command) (psbt_of source)

replies : (request : Option Request) (source : Bytes) (r : Reply) → request_has_keys request source ≡ true → words_reply request source ≡ r
    → RepliesToWords request source r
replies None source r keys e = sym e
replies (Some request.Combine) source r keys e = sym e
replies (Some (request.One command)) source r keys e = go (psbt_of source) keys e
  where
    go : (o : Result Psbt Refusal) → source_has_keys (verification_of command) o ≡ true → source_reply command (form_of source) o ≡ r
        → RepliesToSource command (form_of source) o r
    go (Ok psbt) keys e =
        let counted = verification_of command in
        (inputs_found counted psbt, are_inputs counted psbt ((spends_tell (spends_of counted psbt)).0 keys), sym e)
    go (Err refusal) keys e = sym e

-- the answer to words and a source whose keys consist of bytes
pub answered : {words : List Bytes} {source : Bytes} {status : Status} {report : Bytes}
    → request_has_keys (request_of words) source ≡ true → words_reply (request_of words) source ≡ reply status report → Answer words source status report
answered {words} {source} {status} {report} keys e = record { replies = replies (request_of words) source (reply status report) keys e }
