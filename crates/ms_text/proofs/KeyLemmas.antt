-- Words that are keys, read before it is known where they end.
use Rattle.std.proofs.Common.{◌≡◌, ℕ, zero, suc, ◌+◌, ◌-◌, ◌<◌, ◌≤◌, Bool, true, false, List, [], ◌∷◌, length, get_or, drop, take, Option, Some, None, Result, Ok, refl, sym, ap, subst, ◌∙◌, arith, drop-cons, length-drop}
use Rattle.std.specs.Option.{option_map, option_and_then}
use Rattle.std.specs.Result.{result_ok}
use Rattle.std.specs.Prelude.{if◌then◌else◌, min}
use Rattle.std.specs.List.{list_all}
use Rattle.std.proofs.lemmas.Bool.{and_parts}
use Rattle.std.proofs.lemmas.List.{length-take}
use Rattle.std.proofs.lemmas.List.Sums.{list_all-from_AllPass}
use Rattle.hex.specs.Hex.{decode_of, is_hex_digit}
use Rattle.hex.specs.declared.error.FromHexError.{FromHexError}
use Rattle.hex.proofs.HexLemmas.{decode_of-ok}
use Rattle.def_script.specs.Bytes.{Bytes}
use Rattle.def_tree.specs.Tree.{Key, Tree}
use Rattle.def_text.specs.Token.{Token, word, is_word_byte}
use Rattle.def_text.specs.Word.{key_of}
use Rattle.def_script.specs.Key.{is_key}
use Rattle.def_text.specs.Scaffolding.Reader.{State, leaf_of as spelled_by, syntax_outcome}
use Rattle.ms_text.specs.declared.names.LeafName.{LeafName}
use Rattle.ms_text.specs.declared.names.LeafName.TheVariants as name
use Rattle.ms_text.specs.Scaffolding.Leaves.{leaf_tree, takes_key, leaf_of_key}
use Rattle.ms_text.specs.Scaffolding.Marks.{starts_word}
use Rattle.ms_text.specs.Scaffolding.Names.{leaf_of}
use Rattle.ms_text.specs.Scaffolding.Place.{IsPlace, FirstWord, Takes, word_read, machine_from}
use Rattle.ms_text.proofs.NameLemmas.{no_empty_key}
use Rattle.ms_text.proofs.PlaceLemmas.{starts_at, word_is_ascii, place_behind, word_length, word_found, word_more, word_place_more, word_goes, word_stops}
use Rattle.def_script.proofs.KeyLemmas.{key_length}

-- ---- a key is a word of 66 digits

hex_is_word : (b : ℕ) → is_hex_digit b ≡ true → is_word_byte b ≡ true
hex_is_word b h = grind arith

all_word : (w : Bytes) → list_all is_hex_digit w ≡ true → list_all is_word_byte w ≡ true
all_word [] h = refl
all_word (b ∷ w) h =
    let (first, others) = and_parts (is_hex_digit b) (list_all is_hex_digit w) h in
    rw (hex_is_word b first, all_word w others) refl

-- what a word of hexadecimal digits spells was decoded, and is a key
decoded : (r : Result (List ℕ) FromHexError) (key : Key) → option_and_then (λ (v : Bytes). if is_key v then Some v else None) (result_ok r) ≡ Some key →
    (r ≡ Ok key) × (is_key key ≡ true)
decoded r key = grind arith

pub key_word : (w : Bytes) (key : Key) → key_of w ≡ Some key → (length w ≡ 66) × (list_all is_word_byte w ≡ true)
key_word w key h =
    let (e, is) = decoded (decode_of w) key h in
    let all = decode_of-ok w key e in
    let n = key_length key is in
    (omega (arith, all.2, n), all_word w (list_all-from_AllPass is_hex_digit w all.1))

-- ---- where it ends

behind_word : (n : ℕ) (text : Bytes) (at : ℕ) → IsPlace text at → n ≤ length (drop at text) → list_all is_word_byte (take n (drop at text)) ≡ true → IsPlace text (at + n)
behind_word zero text at p long all = let here : at ≡ at + 0 = omega arith in subst (IsPlace text) here p
behind_word (suc n) text at p long all =
    let m : length (drop at text) ≡ length text - at = length-drop at text in
    let l : at < length text = omega arith in
    let up : suc at ≡ at + 1 = omega arith in
    let cons : drop at text ≡ get_or text at 0 ∷ drop (at + 1) text = drop-cons text at 0 l ∙ ap (λ k. get_or text at 0 ∷ drop k text) up in
    let (first, others) = and_parts (is_word_byte (get_or text at 0)) (list_all is_word_byte (take n (drop (at + 1) text))) (ap (λ r. list_all is_word_byte (take (suc n) r)) (sym cons) ∙ all) in
    let next : at + 1 + n ≡ at + suc n = omega arith in
    let fewer : n ≤ length (drop (at + 1) text) = simp length-drop (omega arith) in
    subst (IsPlace text) next (behind_word n text (at + 1) (place_behind text at p l (word_is_ascii (get_or text at 0) first)) fewer others)

-- a word, as it stands in a text
record WordAt (text : Bytes) (at : ℕ) : Type 0 where
  pub bytes : Bytes
  pub first : FirstWord text at bytes
  pub is : bytes ≡ take (length bytes) (drop at text)
  pub whole : starts_word (drop (at + length bytes) text) ≡ false

word_ended : (text : Bytes) (at stop : ℕ) → at ≤ stop → IsPlace text stop → list_all is_word_byte (take (stop - at) (drop at text)) ≡ true → (b : Bool) →
    starts_word (drop stop text) ≡ b → (starts_word (drop stop text) ≡ true → WordAt text at) → WordAt text at
word_ended text at stop after p all true e longer = longer e
word_ended text at stop after p all false e longer =
    let long : at + length (take (stop - at) (drop at text)) ≡ stop = word_length text at stop after p in
    let same : stop - at ≡ length (take (stop - at) (drop at text)) = omega (arith, long) in
    record {
      bytes = take (stop - at) (drop at text);
      first = word_found text at stop after p all e;
      is = ap (λ k. take k (drop at text)) same;
      whole = ap (λ k. starts_word (drop k text)) long ∙ e;
    }

word_ends : (n : ℕ) (text : Bytes) (at stop : ℕ) → length text ≤ stop + n → at ≤ stop → IsPlace text stop → list_all is_word_byte (take (stop - at) (drop at text)) ≡ true → WordAt text at
word_ends zero text at stop few after p all =
    word_ended text at stop after p all (starts_word (drop stop text)) refl (λ more. let (l, _) = starts_at text stop more in absurd (omega (arith, l, few)))
word_ends (suc n) text at stop few after p all =
    word_ended text at stop after p all (starts_word (drop stop text)) refl
    (λ more. word_ends n text at (stop + 1) (omega (arith, few)) (omega (arith, after)) (word_place_more text stop p more) (word_more text at stop after all more))

word_there : (text : Bytes) (at : ℕ) → IsPlace text at → WordAt text at
word_there text at p = word_ends (length text) text at at (omega arith) (omega arith) p (ap (λ k. list_all is_word_byte (take k (drop at text))) none)
  where
    none : at - at ≡ 0
    none = omega arith

module _ (text digits : Bytes) (at : ℕ) (p : IsPlace text at) (is : digits ≡ take 66 (drop at text)) where
  -- they are as many as a key has, and no text goes on before them
  key_long : (key : Key) → key_of digits ≡ Some key → (length digits ≡ 66) × (66 ≤ length (drop at text))
  key_long key h =
      let (long, _) = key_word digits key h in
      let few : length digits ≡ min 66 (length (drop at text)) = ap length is ∙ length-take 66 (drop at text) in
      (long, omega (arith, long, few))

  pub key_place : (key : Key) → key_of digits ≡ Some key → IsPlace text (at + length digits)
  key_place key h =
      let (_, all) = key_word digits key h in
      let (long, within) = key_long key h in
      rw long (behind_word 66 text at p within (ap (list_all is_word_byte) (sym is) ∙ all))

  pub key_goes : (key : Key) (s : State) (next : List ℕ → State) → key_of digits ≡ Some key → starts_word (drop (at + length digits) text) ≡ false →
      Takes (word_read key_of) s next → machine_from s text at ≡ machine_from (next key) text (at + length digits)
  key_goes key s next h none t =
      let (_, all) = key_word digits key h in
      let (long, within) = key_long key h in
      let n : at + length digits - at ≡ 66 = omega (arith, long) in
      let same : take (at + length digits - at) (drop at text) ≡ digits = ap (λ k. take k (drop at text)) n ∙ sym is in
      let first : FirstWord text at digits =
      subst (FirstWord text at) same
      (word_found text at (at + length digits) (omega arith) (key_place key h) (ap (list_all is_word_byte) same ∙ all) none) in
      word_goes key_of text at digits s next key no_empty_key first h t

  pub key_stops : (s : State) (next : List ℕ → State) → ((key : Key) → key_of digits ≡ Some key → starts_word (drop (at + length digits) text) ≡ true) →
      Takes (word_read key_of) s next → machine_from s text at ≡ syntax_outcome at
  key_stops s next bad t = by_word (word_there text at p) (key_of (word_there text at p).bytes) refl
    where
      by_word : (w : WordAt text at) (o : Option Key) → key_of w.bytes ≡ o → machine_from s text at ≡ syntax_outcome at
      by_word w None e = word_stops key_of text at w.bytes s next w.first e t
      by_word w (Some key) e =
          let (long, _) = key_word w.bytes key e in
          let same : w.bytes ≡ digits = w.is ∙ (ap (λ k. take k (drop at text)) long ∙ sym is) in
          let whole : starts_word (drop (at + length digits) text) ≡ false = ap (λ v. starts_word (drop (at + length v) text)) (sym same) ∙ w.whole in
          absurd (cc (bad key (ap key_of (sym same) ∙ e)))

-- ---- fragments of a key

takes_map : {A B : Type 0} (value : Bytes → Option A) (f : A → B) (s : State) (next : B → State) → Takes (word_read (λ w. option_map f (value w))) s next →
    Takes (word_read value) s (λ x. next (f x))
takes_map {A = A} value f s next t = record { shallow = t.shallow; steps = λ token. t.steps token ∙ mapped token }
  where
    twice : (o : Option A) → option_map next (option_map f o) ≡ option_map (λ x. next (f x)) o
    twice o = grind arith

    mapped : (token : Token) → option_map next (word_read (λ w. option_map f (value w)) token) ≡ option_map (λ x. next (f x)) (word_read value token)
    mapped (word a w) = twice (value w)
    mapped token = refl

pub takes_of_key : (n : LeafName) (s : State) (next : Tree → State) → takes_key n ≡ true → Takes (word_read (spelled_by (leaf_of n))) s next →
    Takes (word_read key_of) s (λ key. next (leaf_tree n (leaf_of_key n key)))
takes_of_key name.PkK s next h t = takes_map key_of _ s next t
takes_of_key name.PkH s next h t = takes_map key_of _ s next t
takes_of_key name.Pk s next h t = takes_map key_of _ s next t
takes_of_key name.Pkh s next h t = takes_map key_of _ s next t
takes_of_key n s next h t = absurd (cc)
