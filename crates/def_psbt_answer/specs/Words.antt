-- The words that `msat-psbt` takes: one, which names what is asked, and behind three of them the option `--unverified`.
use Rattle.std.specs.Prelude.{List, [], ◌∷◌, codes, find, if◌then◌else◌, Option, None}
use Rattle.std.specs.Str.{bytes_eq}
use Rattle.def_script.specs.Bytes.{Bytes}
use Rattle.def_spend.specs.declared.Verification.TheVariants.{Verified, Unverified}
use Rattle.def_psbt_answer.specs.declared.words.Command.TheVariants as command
use Rattle.def_psbt_answer.specs.declared.words.Request.{Request}
use Rattle.def_psbt_answer.specs.declared.words.Request.TheVariants as request

-- the word that names what is asked
abbrev pub name_of : Request → Bytes
name_of (request.One (command.Finalize verification)) = codes "finalize"
name_of (request.One (command.Inspect verification)) = codes "inspect"
name_of (request.One command.Extract) = codes "extract"
name_of (request.One (command.Hashes verification)) = codes "hashes"
name_of (request.One command.Verify) = codes "verify"
name_of request.Combine = codes "combine"

-- what is asked by a word alone: signatures are verified
abbrev pub plain_requests : List Request
plain_requests =
    request.One (command.Finalize Verified) ∷ request.One (command.Inspect Verified) ∷ request.One command.Extract
    ∷ request.One (command.Hashes Verified) ∷ request.One command.Verify ∷ request.Combine ∷ []

-- and by one with the option behind it
abbrev pub unverified_requests : List Request
unverified_requests =
    request.One (command.Finalize Unverified) ∷ request.One (command.Inspect Unverified) ∷ request.One (command.Hashes Unverified) ∷ []

abbrev pub request_in : List Request → (word : Bytes) → Option Request
request_in requests word = find (λ request. bytes_eq (name_of request) word) requests

abbrev pub OPTION : Bytes
OPTION = codes "--unverified"

-- what a list of words asks, where it has this form
abbrev pub request_of : (words : List Bytes) → Option Request
request_of [] = None
request_of (word ∷ []) = request_in plain_requests word
request_of (word ∷ option ∷ []) = if bytes_eq OPTION option then request_in unverified_requests word else None
request_of (word ∷ option ∷ other ∷ words) = None
