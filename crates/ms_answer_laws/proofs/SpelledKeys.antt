-- The keys that words spell.
use Rattle.std.proofs.Common.{◌≡◌, true, List, [], ◌∷◌, Ok, All, map, arith}
use Rattle.std.specs.Prelude.{IsSome}
use Rattle.std.proofs.lemmas.List.Elements.{All-nil, All-cons, All-head, All-tail}
use Rattle.hex.specs.Hex.{decode_of}
use Rattle.hex.proofs.HexLemmas.{decode_of-ok}
use Rattle.def_script.specs.Bytes.{Bytes}
use Rattle.def_tree.specs.Range.{IsKey}
use Rattle.def_text.specs.Word.{key_of}
use Rattle.def_script.specs.Key.{is_key}
use Rattle.def_answer.specs.Answer.{bytes_of}

-- bytes that pass the test, and that a word spells
key_from : (word bytes : Bytes) → decode_of word ≡ Ok bytes → is_key bytes ≡ true → IsKey bytes
key_from word bytes e passed = record { form = passed; bytes = (decode_of-ok word bytes e).3 }

spelled_key : (word : Bytes) → IsSome (key_of word) → IsKey (bytes_of word)
spelled_key word h = grind (arith, key_from word)

pub are_keys : (words : List Bytes) → All (λ word. IsSome (key_of word)) words → All IsKey (map bytes_of words)
are_keys [] h = All-nil IsKey
are_keys (word ∷ words) h =
    All-cons IsKey (bytes_of word) (map bytes_of words) (spelled_key word (All-head (λ word. IsSome (key_of word)) word words h))
    (are_keys words (All-tail (λ word. IsSome (key_of word)) word words h))
