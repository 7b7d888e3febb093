-- Words and a source have at most one answer.
use Rattle.std.proofs.Common.{◌≡◌, ℕ, zero, suc, slice_get, List, [], ◌∷◌, map, All, Option, Some, None, Result, Ok, Err, refl, sym, ◌∙◌, ap, subst, arith}
use Rattle.def_script.specs.Bytes.{Bytes}
use Rattle.def_tree.specs.Tree.{Key, Tree}
use Rattle.ms_decode_laws.proofs.Decoding.{one_is_decoded}
use Rattle.def_psbt.specs.declared.Refusal.{Refusal}
use Rattle.def_psbt.specs.Map.{Psbt}
use Rattle.def_psbt.specs.Source.{psbt_of}
use Rattle.def_spend.specs.declared.State.{State}
use Rattle.def_spend.specs.declared.Verification.{Verification}
use Rattle.def_spend.specs.Fields.{keys_in}
use Rattle.def_spend.specs.Input.{Spend, spends_of}
use Rattle.def_spend.specs.Reading.{Input, script_code, IsReadAs, ReadsAs, HasReading, AreInputs}
use Rattle.def_psbt_answer.specs.declared.words.Command.{Command}
use Rattle.def_psbt_answer.specs.declared.words.Request.{Request}
use Rattle.def_psbt_answer.specs.declared.words.Request.TheVariants as request
use Rattle.def_psbt_answer.specs.Words.{request_of}
use Rattle.def_psbt_answer.specs.declared.words.Form.{Form}
use Rattle.def_psbt_answer.specs.Reply.{Reply, form_of, command_reply}
use Rattle.def_psbt_answer.specs.Answer.{verification_of, RepliesToSource, RepliesToWords}
use Rattle.ms_psbt_answer_laws.specs.Laws.{OneAnswer, OneReading}

one_script : (keys : List Key) (script : Bytes) (a b : Option Tree) → IsReadAs keys script a → IsReadAs keys script b → a ≡ b
one_script keys script (Some t) (Some v) h k = ap Some (one_is_decoded keys script t v h k)
one_script keys script (Some t) None h k = absurd (k t h.reading)
one_script keys script None (Some v) h k = absurd (h v k.reading)
one_script keys script None None h k = refl

one_tree : (keys : List Key) (script : Result Bytes State) (a b : Option Tree) → ReadsAs keys script a → ReadsAs keys script b → a ≡ b
one_tree keys (Ok script) a b h k = one_script keys script a b h k
one_tree keys (Err state) a b h k = h ∙ sym k

pub one_reading : OneReading
one_reading input other h k same =
    let moved = subst (λ spend. ReadsAs (keys_in spend.fields) (script_code spend) other.tree) (sym same) k in
    let trees = one_tree (keys_in input.spend.fields) (script_code input.spend) input.tree other.tree h moved in
    ap (λ spend. record input { spend = spend }) same ∙ ap (λ tree. record other { tree = tree }) trees

-- ---- the inputs of a PSBT

one_list : (a b : List Input) → map (λ input. input.spend) a ≡ map (λ input. input.spend) b → All HasReading a → All HasReading b → a ≡ b
one_list [] [] e h k = refl
one_list (x ∷ xs) (y ∷ ys) e h k =
    let head : x.spend ≡ y.spend = cc in
    let tail : map (λ input. input.spend) xs ≡ map (λ input. input.spend) ys = cc in
    let first = one_reading x y (h 0 x (omega arith)) (k 0 y (omega arith)) head in
    let rest = one_list xs ys tail (λ i d lt. h (suc i) d (omega arith)) (λ i d lt. k (suc i) d (omega arith)) in
    ap (λ z. z ∷ xs) first ∙ ap (λ zs. y ∷ zs) rest
one_list a b e h k = cc

pub one_inputs : (verification : Verification) (psbt : Psbt) (a b : List Input) → AreInputs verification psbt a → AreInputs verification psbt b → a ≡ b
one_inputs verification psbt a b h k = one_list a b (h.spends ∙ sym k.spends) h.read k.read

-- the input with a number, once it is read
read_at : (inputs : List Input) (spends : List Spend) (number : ℕ) (input : Input) → map (λ input. input.spend) inputs ≡ spends → All HasReading inputs
    → slice_get spends number ≡ Some input.spend → HasReading input → slice_get inputs number ≡ Some input
read_at (x ∷ xs) (spend ∷ spends) zero input e h is read =
    let same : x.spend ≡ input.spend = cc in
    ap Some (one_reading x input (h 0 x (omega arith)) read same)
read_at (x ∷ xs) (spend ∷ spends) (suc number) input e h is read =
    let rest : map (λ input. input.spend) xs ≡ spends = cc in
    read_at xs spends number input rest (λ i d lt. h (suc i) d (omega arith)) is read
read_at inputs spends number input e h is read = absurd cc

pub input_at : (verification : Verification) (psbt : Psbt) (inputs : List Input) (number : ℕ) (input : Input) → AreInputs verification psbt inputs
    → slice_get (spends_of verification psbt) number ≡ Some input.spend → HasReading input → slice_get inputs number ≡ Some input
input_at verification psbt inputs number input are is read = read_at inputs (spends_of verification psbt) number input are.spends are.read is read

-- ---- the answer

one_source : (command : Command) (form : Form) (o : Result Psbt Refusal) (a b : Reply) → RepliesToSource command form o a → RepliesToSource command form o b → a ≡ b
one_source command form (Ok psbt) a b (xs, h, e) (ys, k, f) = e ∙ ap (command_reply command form psbt) (one_inputs (verification_of command) psbt xs ys h k) ∙ sym f
one_source command form (Err refusal) a b e f = e ∙ sym f

one_reply : (request : Option Request) (source : Bytes) (a b : Reply) → RepliesToWords request source a → RepliesToWords request source b → a ≡ b
one_reply (Some request.Combine) source a b e f = e ∙ sym f
one_reply (Some (request.One command)) source a b h k = one_source command (form_of source) (psbt_of source) a b h k
one_reply None source a b e f = e ∙ sym f

pub one_answer : OneAnswer
one_answer words source s t p q h k =
    let same = one_reply (request_of words) source _ _ h.replies k.replies in
    (ap (λ r. r.status) same, ap (λ r. r.report) same)
