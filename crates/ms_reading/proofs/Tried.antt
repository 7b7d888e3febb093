-- A tree that was found is tried.
use Rattle.std.proofs.Common.{◌≡◌, ◌<◌, List, length, map, reverse, All, Option, Some, None, sym, ◌∙◌, ap, subst, arith}
use Rattle.std.specs.List.{Contains}
use Rattle.std.specs.Str.{bytes_eq}
use Rattle.def_hash.specs.Hash.{hash160}
use Rattle.def_script.specs.Bytes.{Bytes}
use Rattle.def_script.specs.Items.{items}
use Rattle.def_tree.specs.Tree.{Tree, Key}
use Rattle.def_tree.specs.Range.{IsKey, IsWritable}
use Rattle.def_emit.specs.Emit.{emit}
use Rattle.def_emit.proofs.Short.{items-script_of}
use Rattle.def_sane.specs.Unfit.{MOST_SIZE}
use Rattle.def_sane.proofs.Meanings.{valid_means}
use Rattle.def_decode.specs.Alike.{IsLikeEach}
use Rattle.def_decode.specs.Decoded.{first_with, IsReading, IsDecoded}
use Rattle.ms_decode_laws.specs.Scaffolding.Reader.{read}
use Rattle.ms_decode_laws.proofs.Decoding.{found_in, reading_is_found, found_is_decoded, decoded_is_alike}
use Rattle.ms_reading.specs.declared.codes.Code.{Code}
use Rattle.ms_reading.specs.Scaffolding.States.{instruction_of, backwards}
use Rattle.ms_reading.specs.Scaffolding.Codes.{AreCodes, HasNoCodes}
use Rattle.ms_reading.specs.Candidates.{IsScriptOf, IsOnly}
use Rattle.ms_reading.specs.Scaffolding.Decoding.{IsCandidate, MayBe}
use Rattle.ms_reading.proofs.Listed.{read_has}

-- bytes that aren't the spelling of instructions
pub no_codes : (keys : List Key) (script : Bytes) → HasNoCodes script → (t : Tree) → IsReading keys script t → ⊥
no_codes keys script none t h = none (emit t) (ap items (sym h.same) ∙ items-script_of t h.writable)

-- what the reader finds in these instructions
pub may_be : (keys : List Key) (script : Bytes) (codes : List Code) (o : Option Tree) → All IsKey keys → AreCodes script codes → o ≡ read (first_with keys) (backwards codes) → MayBe keys script o
may_be keys script codes (Some t) all are e = record {
  are_keys = all;
  instructions = map instruction_of codes;
  spelled = are;
  found = sym e;
}
may_be keys script codes None all are e = λ t h.
    let d = reading_is_found keys script (map instruction_of codes) t all are h in
    let both : None ≡ Some d.tree = e ∙ d.found in
    cc

-- the tree is valid and has that Script
tried_some : (keys : List Key) (script : Bytes) (t : Tree) → IsCandidate keys script t → IsWritable t → IsScriptOf t script → IsDecoded keys script t
tried_some keys script t m w s =
    found_is_decoded keys script m.instructions t m.are_keys m.spelled m.found (record {
      valid = s.0;
      writable = w;
      listed = read_has (λ k. Contains keys k) (first_with keys) (λ v k e. found_in Key (λ key. bytes_eq (hash160 key) v) keys k e) (reverse m.instructions) t m.found;
      same = s.1;
    })

-- which is like every tree with it
tried_alike : (keys : List Key) (script : Bytes) (t : Tree) → IsCandidate keys script t → IsWritable t → IsScriptOf t script → IsLikeEach keys script t
tried_alike keys script t m w s = decoded_is_alike keys script t m.are_keys (tried_some keys script t m w s)

-- or it isn't so
tried_none : (keys : List Key) (script : Bytes) (t : Tree) → IsCandidate keys script t → (IsScriptOf t script → ⊥) → (v : Tree) → IsReading keys script v → ⊥
tried_none keys script t m not v h =
    let d = reading_is_found keys script m.instructions v m.are_keys m.spelled h in
    let both : Some d.tree ≡ Some t = sym d.found ∙ m.found in
    let same : d.tree ≡ t = cc in
    let r : IsReading keys script t = subst (IsReading keys script) same d.decoded.reading in
    not (r.valid, r.same)

-- so it is the only one
pub only : (keys : List Key) (script : Bytes) (t : Tree) → IsCandidate keys script t → IsWritable t → IsOnly keys script t
only keys script t m w = record {
  decoded = tried_some keys script t m w;
  alike = tried_alike keys script t m w;
  none = tried_none keys script t m;
}

-- nor is there any of more bytes than are relayed
pub too_large : (keys : List Key) (script : Bytes) → MOST_SIZE < length script → (t : Tree) → IsReading keys script t → ⊥
too_large keys script over t h =
    let few = ((valid_means t).0 h.valid).2 in
    let same = ap length h.same in
    omega (arith, over, few, same)
