-- What is given together: the keys, the text, the Script, the program and the network.
use Rattle.std.proofs.Common.{◌≡◌, ℕ, List, [], ◌∷◌, ap, ◌∙◌, refl, sym, subst, Option, Some, None, Result, Ok, IfErr}
use Rattle.std.specs.Option.{unwrap_or}
use Rattle.std.specs.Result.{IsErrAnd}
use Rattle.std.proofs.lemmas.Result.{err_from_is_err_and}
use Rattle.def_script.specs.Bytes.{Bytes}
use Rattle.def_machine.specs.Program.{program_of}
use Rattle.def_tree.specs.Tree.{Key}
use Rattle.def_text.specs.Refusal.{TextReads}
use Rattle.def_address.specs.declared.Network.{Network}
use Rattle.def_descriptor.specs.Gives.{with_key, keys_at, expressions_of, text_of, network_by, asked}
use Rattle.ms_descriptor.specs.declared.expression.Expression.{Expression}
use Rattle.ms_descriptor.specs.declared.parts.Body.{Body}
use Rattle.ms_descriptor.specs.declared.parts.Body.TheVariants as body
use Rattle.ms_descriptor.specs.Bodies.{body_at}
use Rattle.ms_key_laws.specs.Laws.{HasSomeTree}
use Rattle.ms_outputs.specs.declared.given.GivenFault.{GivenFault}
use Rattle.ms_outputs.specs.declared.given.GivenFault.TheVariants.{NoKey, Memory}
use Rattle.ms_outputs.specs.Keys.{expressions_of_body, first_version, TellsNoKey}
use Rattle.ms_outputs.specs.Given.{IsReadableOf, HasScript, HasKeyFor, IsProgram, IsProgramBy, IsScripted, IsNotGiven}
use Rattle.ms_outputs.proofs.Finding.{expressions_are}
use Rattle.ms_outputs.proofs.Versions.{network_is}

-- a refusal that is handed on
pub handed_on : {A : Type 0} (result : Result A GivenFault) (why : GivenFault) (P : GivenFault → Type 0) → IsErrAnd result (λ y. y ≡ why) → P why → IfErr result P
handed_on result why P is h = let p = err_from_is_err_and result is in rw (p.1, p.2) h

-- ---- the Script, and the program

pub scripted : (text script : Bytes) (own : Body) → ((expression : Expression) → own ≡ body.Single expression → ⊥) → HasScript text script
    → IsScripted own text (Some script)
scripted text script (body.Miniscript pieces) other h = h
scripted text script (body.Sorted at pieces) other h = h
scripted text script (body.Single expression) other h = absurd (other expression refl)

pub program_is : (whole text : Bytes) (own : Body) (keys : List Key) (script : Option Bytes) (program : Bytes) → IsScripted own text script
    → IsProgramBy script keys program → text ≡ text_of (body_at whole own) keys → IsProgram (body_at whole own) keys script program
program_is whole text (body.Miniscript pieces) keys None program s h e = absurd s
program_is whole text (body.Miniscript pieces) keys (Some script) program s h e =
    (s.tree, _, (s.offsets, subst (λ (z : Bytes). TextReads z s.tree s.offsets) e s.reads, refl), ap Some s.is, h ∙ ap program_of s.is)
program_is whole text (body.Sorted at pieces) keys None program s h e = absurd s
program_is whole text (body.Sorted at pieces) keys (Some script) program s h e =
    (s.tree, _, (s.offsets, subst (λ (z : Bytes). TextReads z s.tree s.offsets) e s.reads, refl), ap Some s.is, h ∙ ap program_of s.is)
program_is whole text (body.Single expression) keys script program s h e =
    let one = subst (λ (z : Option Bytes). IsProgramBy z keys program) s h in (one.0, one.1, s, one.2)

-- ---- the keys

one_of : (at : ℕ) (found : Option Key) (keys : List Key) → with_key at found (Ok []) ≡ Ok keys → (key : Key) × (keys ≡ key ∷ [])
one_of at None keys h = absurd (cc)
one_of at (Some key) keys h = (key, cc)

pub has_key : (whole text : Bytes) (own : Body) (branch i : ℕ) (keys : List Key) (script : Option Bytes)
    → keys_at branch i (expressions_of (body_at whole own)) ≡ Ok keys → IsScripted own text script → HasKeyFor script keys
has_key whole text (body.Miniscript pieces) branch i keys None h s = absurd s
has_key whole text (body.Miniscript pieces) branch i keys (Some script) h s = tt
has_key whole text (body.Sorted at pieces) branch i keys None h s = absurd s
has_key whole text (body.Sorted at pieces) branch i keys (Some script) h s = tt
has_key whole text (body.Single expression) branch i keys script h s =
    subst (λ (z : Option Bytes). HasKeyFor z keys) (sym s) (one_of expression.at _ keys h)

module _ (text : Bytes) (own : Body) (branch i : ℕ) where
  pub keys_are : (keys : List Key) → keys_at branch i (expressions_of_body own) ≡ Ok keys → keys_at branch i (expressions_of (body_at text own)) ≡ Ok keys
  keys_are keys h = ap (keys_at branch i) (expressions_are text own) ∙ h

  pub not_by_keys : (why : GivenFault) → TellsNoKey (keys_at branch i (expressions_of_body own)) why → IsNotGiven (body_at text own) branch i why
  not_by_keys (NoKey at) h = ap (keys_at branch i) (expressions_are text own) ∙ h
  not_by_keys Memory h = tt

-- ---- the text, and the network

-- the text with the keys at a place is read
pub readable_is : (text written : Bytes) (own : Body) (keys : List Key) → written ≡ text_of (body_at text own) keys → HasSomeTree (body_at text own) keys → IsReadableOf own written
readable_is text written (body.Miniscript pieces) keys e h = (h.0, h.2.0, subst (λ (z : Bytes). TextReads z h.0 h.2.0) (sym e) h.2.1)
readable_is text written (body.Sorted at pieces) keys e h = (h.0, h.2.0, subst (λ (z : Bytes). TextReads z h.0 h.2.0) (sym e) h.2.1)
readable_is text written (body.Single expression) keys e h = tt

pub text_is : (text other : Bytes) (own : Body) (keys same : List Key) (written : Bytes) → other ≡ text → same ≡ keys
    → written ≡ text_of (body_at other own) same → written ≡ text_of (body_at text own) keys
text_is text other own keys same written e k h =
    h ∙ (ap (λ (z : Bytes). text_of (body_at z own) same) e ∙ ap (text_of (body_at text own)) k)

pub asked_is : (network : Option Network) (text : Bytes) (own : Body) (by result : Network) → result ≡ unwrap_or network by
    → by ≡ network_by (first_version (expressions_of_body own)) → result ≡ asked network (body_at text own)
asked_is None text own by result e h = e ∙ (h ∙ sym (network_is text own))
asked_is (Some network) text own by result e h = e
