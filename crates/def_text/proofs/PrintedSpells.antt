-- The printed form of a tree spells it.
use Rattle.std.proofs.Common.{◌≡◌, ℕ, ◌+◌, ◌<◌, ◌≤◌, ◌^◌, true, List, [], ◌∷◌, ◌++◌, length, codes, decimal, refl, sym, ap, ◌∙◌, subst, append_assoc, append-nil, arith}
use Rattle.std.specs.Prelude.{All}
use Rattle.std.specs.List.{list_all}
use Rattle.std.proofs.lemmas.List.Elements.{All-head, All-tail}
use Rattle.hex.specs.Hex.{encode_lower}
use Rattle.def_script.specs.Bytes.{Bytes}
use Rattle.def_hash.specs.declared.HashKind.{HashKind}
use Rattle.def_hash.specs.declared.HashKind.TheVariants.{Sha256}
use Rattle.def_tree.specs.declared.Wrapper.{Wrapper}
use Rattle.def_tree.specs.declared.Two.{Two}
use Rattle.def_tree.specs.declared.Two.TheVariants.{AndV}
use Rattle.def_tree.specs.Tree.{Key, Tree, Trees, just_0, just_1, pk_k, pk_h, older, after, hash, and_or, two, thresh, multi, wrap, none, more}
use Rattle.def_tree.specs.Range.{IsKey, IsDigest, IsWritable, AreWritable, count}
use Rattle.def_text.specs.Token.{Token, word, opening, closing, comma, colon, end, tokens, tokens_from, word_before, is_word_byte}
use Rattle.def_text.specs.Word.{two_name, hash_name, is_digest}
use Rattle.def_script.specs.Key.{is_key}
use Rattle.def_text.specs.Letter.{Letter, letter_of_wrapper, wrapper_byte, letter_word, letters_tree, letters_offsets}
use Rattle.def_text.specs.Spells.{call, Spells, text_0, text_1, text_pk_k, text_pk_h, text_older, text_after, text_hash, text_andor, text_two, text_thresh, text_multi, text_letters, SpellsChildren, last_child, next_child, SpellsKeys, last_key, next_key, SpellsText, text_whole}
use Rattle.def_text.specs.Print.{printed, printed_behind, printed_children, printed_keys}
use Rattle.def_text.proofs.PrintedWords.{NoWord, word_byte, one_token, closed_word, number_is_spelled, number_is_word, digits_are_spelled, digits_are_word, digits_are_some, hash_passes, key_has_digits, hash_is_some}

-- the printed form of a tree, before bytes that begin no word, spells it
abbrev PrintsAt : Tree → ℕ → Bytes → Type 0
PrintsAt x at rest =
    (ts : List Token) × (os : List ℕ) × (n : ℕ) × (tokens_from at (printed_behind [] x ++ rest) ≡ ts ++ tokens_from n rest) × Spells ts x os

abbrev Prints : Tree → Type 0
Prints x = (at : ℕ) (rest : Bytes) → NoWord rest → PrintsAt x at rest

-- tokens behind a word of letters, if there are some
abbrev behind_letters : ℕ → List Letter → List Token → List Token
behind_letters at [] ts = ts
behind_letters at (l ∷ ls) ts = word at (letter_word (l ∷ ls)) ∷ ts

-- the same behind letters: more letters, a colon and an expression
abbrev PrintsBehind : Tree → Type 0
PrintsBehind x =
    (at : ℕ) (rest : Bytes) → NoWord rest →
    (ls : List Letter) × (y : Tree) × (c : ℕ) × (ts : List Token) × (os : List ℕ) × (n : ℕ)
    × (letters_tree ls y ≡ x)
    × (tokens_from at (printed_behind (codes ":") x ++ rest) ≡ behind_letters at ls (colon c ∷ (ts ++ tokens_from n rest)))
    × Spells ts y os

-- ---- letters

wrapper_is_word : (w : Wrapper) → is_word_byte (wrapper_byte w) ≡ true
wrapper_is_word w = grind arith

joins_letters : (at b next : ℕ) (ls : List Letter) (c : ℕ) (ts : List Token) →
    word_before at b (behind_letters next ls (colon c ∷ ts)) ≡ word at (b ∷ letter_word ls) ∷ colon c ∷ ts
joins_letters at b next ls c ts = grind arith

letter_tokens : (w : Wrapper) (x : Tree) (at : ℕ) (rest : Bytes) (ls : List Letter) (c : ℕ) (ts : List Token) →
    tokens_from (at + 1) (printed_behind (codes ":") x ++ rest) ≡ behind_letters (at + 1) ls (colon c ∷ ts) →
    tokens_from at (printed_behind [] (wrap w x) ++ rest) ≡ word at (letter_word (letter_of_wrapper w ∷ ls)) ∷ colon c ∷ ts
letter_tokens w x at rest ls c ts e =
    word_byte at (wrapper_byte w) (tokens_from (at + 1) (printed_behind (codes ":") x ++ rest)) (wrapper_is_word w)
    ∙ (ap (word_before at (wrapper_byte w)) e ∙ joins_letters at (wrapper_byte w) (at + 1) ls c ts)

prints_wrap : (w : Wrapper) (x : Tree) → PrintsBehind x → Prints (wrap w x)
prints_wrap w x h at rest apart =
    let (ls, y, c, ts, os, n, same, e, spells) = h (at + 1) rest apart in (
      word at (letter_word (letter_of_wrapper w ∷ ls)) ∷ colon c ∷ ts,
      letters_offsets at (letter_of_wrapper w ∷ ls) os,
      n,
      letter_tokens w x at rest ls c (ts ++ tokens_from n rest) e,
      subst
          (λ r. Spells (word at (letter_word (letter_of_wrapper w ∷ ls)) ∷ colon c ∷ ts) r (letters_offsets at (letter_of_wrapper w ∷ ls) os))
          (ap (wrap w) same) (text_letters (letter_of_wrapper w) ls spells),
    )

behind_wrap : (w : Wrapper) (x : Tree) → PrintsBehind x → PrintsBehind (wrap w x)
behind_wrap w x h at rest apart =
    let (ls, y, c, ts, os, n, same, e, spells) = h (at + 1) rest apart in
    (letter_of_wrapper w ∷ ls, y, c, ts, os, n, ap (wrap w) same, letter_tokens w x at rest ls c (ts ++ tokens_from n rest) e, spells)

-- behind letters stands a colon and a fragment
behind_colon : (x : Tree) → printed_behind (codes ":") x ≡ 58 ∷ printed_behind [] x → Prints x → PrintsBehind x
behind_colon x same h at rest apart =
    let (ts, os, n, e, spells) = h (at + 1) rest apart in
    ([], x, at, ts, os, n, refl, ap (λ bs. tokens_from at (bs ++ rest)) same ∙ ap (λ r. colon at ∷ r) e, spells)

-- ---- leaves

prints_0 : Prints just_0
prints_0 at rest apart =
    let (n, e) = one_token (codes "0") at rest refl (omega arith) apart in
    (word at (codes "0") ∷ [], at ∷ [], n, e, text_0)

prints_1 : Prints just_1
prints_1 at rest apart =
    let (n, e) = one_token (codes "1") at rest refl (omega arith) apart in
    (word at (codes "1") ∷ [], at ∷ [], n, e, text_1)

-- a fragment whose argument is one word
prints_leaf : (x : Tree) (name w : Bytes) (at q : ℕ) (rest : Bytes) →
    tokens_from at (printed_behind [] x ++ rest) ≡ word at name ∷ opening q ∷ tokens_from (q + 1) ((w ++ codes ")") ++ rest) →
    list_all is_word_byte w ≡ true → 0 < length w → ((c d : ℕ) → Spells (call at name q (word c w ∷ []) d) x (at ∷ [])) → PrintsAt x at rest
prints_leaf x name w at q rest opens is some spells =
    let (n, e) = closed_word w (q + 1) rest is some in
    (call at name q (word (q + 1) w ∷ []) n, at ∷ [], n + 1, opens ∙ ap (λ r. word at name ∷ opening q ∷ r) e, spells (q + 1) n)

prints_pk_k : (key : Key) → IsKey key → Prints (pk_k key)
prints_pk_k key h at rest apart =
    prints_leaf (pk_k key) (codes "pk_k") (encode_lower key) at _ rest refl (digits_are_word key h.bytes) (key_has_digits key h)
    (λ c d. text_pk_k (digits_are_spelled is_key key h.form h.bytes))

prints_pk_h : (key : Key) → IsKey key → Prints (pk_h key)
prints_pk_h key h at rest apart =
    prints_leaf (pk_h key) (codes "pk_h") (encode_lower key) at _ rest refl (digits_are_word key h.bytes) (key_has_digits key h)
    (λ c d. text_pk_h (digits_are_spelled is_key key h.form h.bytes))

prints_older : (m : ℕ) → m < 10 ^ 10 → Prints (older m)
prints_older m h at rest apart =
    let (is, some) = number_is_word m h in
    prints_leaf (older m) (codes "older") (decimal m) at _ rest refl is some (λ c d. text_older (number_is_spelled m h))

prints_after : (m : ℕ) → m < 10 ^ 10 → Prints (after m)
prints_after m h at rest apart =
    let (is, some) = number_is_word m h in
    prints_leaf (after m) (codes "after") (decimal m) at _ rest refl is some (λ c d. text_after (number_is_spelled m h))

-- a name and the `(` behind it
hash_opens : (kind : HashKind) (at : ℕ) (bs : Bytes) →
    (q : ℕ) × (tokens_from at (hash_name kind ++ (codes "(" ++ bs)) ≡ word at (hash_name kind) ∷ opening q ∷ tokens_from (q + 1) bs)
hash_opens Sha256 at bs = (_, refl)
hash_opens kind at bs = (_, refl)

two_opens : (kind : Two) (at : ℕ) (bs : Bytes) →
    (q : ℕ) × (tokens_from at (two_name kind ++ (codes "(" ++ bs)) ≡ word at (two_name kind) ∷ opening q ∷ tokens_from (q + 1) bs)
two_opens AndV at bs = (_, refl)
two_opens kind at bs = (_, refl)

prints_hash : (kind : HashKind) (value : Bytes) → IsDigest kind value → Prints (hash kind value)
prints_hash kind value h at rest apart =
    let (q, opens) = hash_opens kind at ((encode_lower value ++ codes ")") ++ rest) in
    prints_leaf (hash kind value) (hash_name kind) (encode_lower value) at q rest
    (simp append_assoc (simp append_assoc at opens)) (digits_are_word value h.bytes) (digits_are_some value (hash_is_some kind value h.length))
    (λ c d. text_hash kind (digits_are_spelled (is_digest kind) value (hash_passes kind value h) h.bytes))

-- ---- children

-- two expressions with a comma between them and the `)` behind them
abbrev PrintsTwo : Tree → Tree → Type 0
PrintsTwo x y =
    (at : ℕ) (rest : Bytes) →
    (c d : ℕ) × (xs ys : List Token) × (os ps : List ℕ) × (n : ℕ)
    × (tokens_from at (printed_behind [] x ++ (codes "," ++ (printed_behind [] y ++ (codes ")" ++ rest))))
    ≡ xs ++ comma c ∷ (ys ++ closing d ∷ tokens_from n rest))
    × Spells xs x os × Spells ys y ps

prints_two : (x y : Tree) → Prints x → Prints y → PrintsTwo x y
prints_two x y hx hy at rest =
    let (xs, os, c, e, sx) = hx at (codes "," ++ (printed_behind [] y ++ (codes ")" ++ rest))) (λ n. refl) in
    let (ys, ps, d, f, sy) = hy (c + 1) (codes ")" ++ rest) (λ n. refl) in
    (c, d, xs, ys, os, ps, d + 1, e ∙ ap (λ r. xs ++ comma c ∷ r) f, sx, sy)

prints_pair : (kind : Two) (x y : Tree) → Prints x → Prints y → Prints (two kind x y)
prints_pair kind x y hx hy at rest apart =
    let (q, opens) = two_opens kind at (printed_behind [] x ++ (codes "," ++ (printed_behind [] y ++ (codes ")" ++ rest)))) in
    let (c, d, xs, ys, os, ps, n, e, sx, sy) = prints_two x y hx hy (q + 1) rest in (
      call at (two_name kind) q (xs ++ comma c ∷ ys) d,
      os ++ ps ++ at ∷ [],
      n,
      simp (append_assoc, opens, e),
      text_two kind c d sx sy,
    )

triple_parts : (a b c d e f rest : Bytes) →
    (((((a ++ b) ++ c) ++ d) ++ e) ++ f) ++ rest ≡ a ++ (b ++ (c ++ (d ++ (e ++ (f ++ rest)))))
triple_parts a b c d e f rest = simp append_assoc

three_split : (xs ys zs rest : List Token) (c d e : ℕ) →
    xs ++ comma c ∷ (ys ++ comma d ∷ (zs ++ closing e ∷ rest)) ≡ (xs ++ comma c ∷ ys ++ comma d ∷ zs ++ closing e ∷ []) ++ rest
three_split xs ys zs rest c d e = simp append_assoc

prints_andor : (x y z : Tree) → Prints x → Prints y → Prints z → Prints (and_or x y z)
prints_andor x y z hx hy hz at rest apart =
    let q : ℕ = at + 1 + 1 + 1 + 1 + 1 in
    let others : Bytes = codes "," ++ (printed_behind [] y ++ (codes "," ++ (printed_behind [] z ++ (codes ")" ++ rest)))) in
    let (xs, os, c, e, sx) = hx (q + 1) others (λ n. refl) in
    let (d, f, ys, zs, ps, qs, n, g, sy, sz) = prints_two y z hy hz (c + 1) rest in (
      call at (codes "andor") q (xs ++ comma c ∷ ys ++ comma d ∷ zs) f,
      os ++ ps ++ qs ++ at ∷ [],
      n,
      ap (λ bs. word at (codes "andor") ∷ opening q ∷ tokens_from (q + 1) bs)
          (triple_parts (printed_behind [] x) (codes ",") (printed_behind [] y) (codes ",") (printed_behind [] z) (codes ")") rest)
          ∙ ap (λ r. word at (codes "andor") ∷ opening q ∷ r)
          (e ∙ (ap (λ r. xs ++ comma c ∷ r) g ∙ three_split xs ys zs (tokens_from n rest) c d f)),
      text_andor c d f sx sy sz,
    )

-- ---- lists

-- keys, each behind a comma
abbrev PrintsKeys : List Key → Type 0
PrintsKeys keys =
    (at : ℕ) (rest : Bytes) → NoWord rest →
    (ts : List Token) × (n : ℕ) × (tokens_from at (printed_keys keys ++ rest) ≡ ts ++ tokens_from n rest) × SpellsKeys ts keys

-- a key before bytes that begin no word
key_before : (key : Key) (at : ℕ) (others rest : Bytes) → IsKey key → NoWord (others ++ rest) →
    (n : ℕ) × (tokens_from at ((encode_lower key ++ others) ++ rest) ≡ word at (encode_lower key) ∷ tokens_from n (others ++ rest))
key_before key at others rest h apart =
    let some : 0 < length (encode_lower key) = key_has_digits key h in
    let (n, e) = one_token (encode_lower key) at (others ++ rest) (digits_are_word key h.bytes) some apart in
    (n, rw append_assoc e)

prints_keys : (key : Key) (keys : List Key) → All IsKey (key ∷ keys) → PrintsKeys (key ∷ keys)
prints_keys key [] h at rest apart =
    let is : IsKey key = All-head IsKey key [] h in
    let (n, e) = key_before key (at + 1) [] rest is apart in
    (comma at ∷ word (at + 1) (encode_lower key) ∷ [], n, ap (λ r. comma at ∷ r) e, last_key (digits_are_spelled is_key key is.form is.bytes))
prints_keys key (next ∷ keys) h at rest apart =
    let is : IsKey key = All-head IsKey key (next ∷ keys) h in
    let (n, e) = key_before key (at + 1) (printed_keys (next ∷ keys)) rest is (λ m. refl) in
    let (ts, m, f, others) = prints_keys next keys (All-tail IsKey key (next ∷ keys) h) n rest apart in (
      comma at ∷ word (at + 1) (encode_lower key) ∷ ts,
      m,
      simp (e, f),
      next_key (digits_are_spelled is_key key is.form is.bytes) others,
    )

-- a number before bytes that begin no word
number_before : (k : ℕ) (at : ℕ) (others rest : Bytes) → k < 10 ^ 10 → NoWord (others ++ (codes ")" ++ rest)) →
    (n : ℕ)
    × (tokens_from at (((decimal k ++ others) ++ codes ")") ++ rest) ≡ word at (decimal k) ∷ tokens_from n (others ++ (codes ")" ++ rest)))
number_before k at others rest h apart =
    let (n, e) = one_token (decimal k) at (others ++ (codes ")" ++ rest)) (number_is_word k h).0 (number_is_word k h).1 apart in
    (n, simp append_assoc e)

prints_multi : (k : ℕ) (key : Key) (keys : List Key) → k < 10 ^ 10 → All IsKey (key ∷ keys) → Prints (multi k (key ∷ keys))
prints_multi k key keys small h at rest apart =
    let q : ℕ = at + 1 + 1 + 1 + 1 + 1 in
    let (n, e) = number_before k (q + 1) (printed_keys (key ∷ keys)) rest small (λ m. refl) in
    let (ts, m, f, spells) = prints_keys key keys h n (codes ")" ++ rest) (λ j. refl) in (
      word at (codes "multi") ∷ opening q ∷ word (q + 1) (decimal k) ∷ (ts ++ closing m ∷ []),
      at ∷ [],
      m + 1,
      simp (append_assoc, e, f),
      text_multi m (number_is_spelled k small) spells,
    )

-- expressions, each behind a comma
abbrev PrintsChildren : Trees → Type 0
PrintsChildren xs =
    (at : ℕ) (rest : Bytes) → NoWord rest →
    (ts : List Token) × (os : List ℕ) × (n : ℕ)
    × (tokens_from at (printed_children xs ++ rest) ≡ ts ++ tokens_from n rest) × SpellsChildren ts xs os

last_prints : (x : Tree) → Prints x → PrintsChildren (more x none)
last_prints x h at rest apart =
    let (ts, os, n, e, spells) = h (at + 1) rest apart in (
      comma at ∷ ts,
      os,
      n,
      ap (λ bs. comma at ∷ tokens_from (at + 1) bs) (append_assoc (printed_behind [] x) [] rest) ∙ ap (λ r. comma at ∷ r) e,
      last_child spells,
    )

next_prints : (x y : Tree) (ys : Trees) → Prints x → PrintsChildren (more y ys) → PrintsChildren (more x (more y ys))
next_prints x y ys h later at rest apart =
    let (ts, os, n, e, spells) = h (at + 1) (printed_children (more y ys) ++ rest) (λ m. refl) in
    let (us, ps, m, f, others) = later n rest apart in (
      comma at ∷ (ts ++ us),
      os ++ ps,
      m,
      ap (λ bs. comma at ∷ tokens_from (at + 1) bs) (append_assoc (printed_behind [] x) (printed_children (more y ys)) rest)
          ∙ ap (λ r. comma at ∷ r) (e ∙ (ap (λ r. ts ++ r) f ∙ sym (append_assoc ts us (tokens_from m rest)))),
      next_child spells others,
    )

prints_thresh : (k : ℕ) (x : Tree) (xs : Trees) → k < 10 ^ 10 → PrintsChildren (more x xs) → Prints (thresh k (more x xs))
prints_thresh k x xs small h at rest apart =
    let q : ℕ = at + 1 + 1 + 1 + 1 + 1 + 1 in
    let (n, e) = number_before k (q + 1) (printed_children (more x xs)) rest small (λ m. refl) in
    let (ts, os, m, f, spells) = h n (codes ")" ++ rest) (λ j. refl) in (
      word at (codes "thresh") ∷ opening q ∷ word (q + 1) (decimal k) ∷ (ts ++ closing m ∷ []),
      os ++ at ∷ [],
      m + 1,
      simp (append_assoc, e, f),
      text_thresh m (number_is_spelled k small) spells,
    )

-- ---- every tree

abbrev Both : Tree → Type 0
Both x = Prints x × PrintsBehind x

with_colon : (x : Tree) → printed_behind (codes ":") x ≡ 58 ∷ printed_behind [] x → Prints x → Both x
with_colon x same h = (h, behind_colon x same h)

mutual
  prints : (x : Tree) → IsWritable x → Both x
  prints just_0 r = with_colon just_0 refl prints_0
  prints just_1 r = with_colon just_1 refl prints_1
  prints (pk_k key) r = with_colon (pk_k key) refl (prints_pk_k key r)
  prints (pk_h key) r = with_colon (pk_h key) refl (prints_pk_h key r)
  prints (older n) r = with_colon (older n) refl (prints_older n r)
  prints (after n) r = with_colon (after n) refl (prints_after n r)
  prints (hash kind value) r = with_colon (hash kind value) refl (prints_hash kind value r)
  prints (and_or x y z) r =
      with_colon (and_or x y z) refl (prints_andor x y z (prints x r.0).0 (prints y r.1).0 (prints z r.2).0)
  prints (two kind x y) r = with_colon (two kind x y) refl (prints_pair kind x y (prints x r.0).0 (prints y r.1).0)
  prints (thresh k none) r = absurd (omega arith)
  prints (thresh k (more x xs)) r =
      with_colon (thresh k (more x xs)) refl (prints_thresh k x xs r.0 (children_print (more x xs) r.2 r.1))
  prints (multi k []) r = absurd (omega arith)
  prints (multi k (key ∷ keys)) r = with_colon (multi k (key ∷ keys)) refl (prints_multi k key keys r.0 r.2)
  prints (wrap wrapper x) r = let h = prints x r in (prints_wrap wrapper x h.1, behind_wrap wrapper x h.1)

  children_print : (xs : Trees) → AreWritable xs → 1 ≤ count xs → PrintsChildren xs
  children_print none r some = absurd (omega arith)
  children_print (more x none) r some = last_prints x (prints x r.0).0
  children_print (more x (more y ys)) r some =
      next_prints x y ys (prints x r.0).0 (children_print (more y ys) r.1 (omega arith))

pub printed_is_spelled : (x : Tree) → IsWritable x → (os : List ℕ) × SpellsText (tokens (printed x)) x os
printed_is_spelled x r =
    let (ts, os, n, e, spells) = (prints x r).0 0 [] (λ m. refl) in
    let same : tokens (printed x) ≡ ts ++ end n ∷ [] = ap tokens (sym (append-nil (printed x))) ∙ e in
    (os, subst (λ r. SpellsText r x os) (sym same) (text_whole n spells))
