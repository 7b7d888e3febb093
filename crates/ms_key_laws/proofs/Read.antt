-- The text of a descriptor with its keys at a place is read.
use Rattle.std.proofs.Common.{◌≡◌, ℕ, suc, Bool, true, false, cond, List, [], ◌∷◌, length, map, replicate, refl, sym, ap, ◌∙◌, subst, append-nil, Some, None, Result, Ok, Err}
use Rattle.std.specs.Prelude.{All, IsUtf8, nat_lt}
use Rattle.std.proofs.lemmas.List.Elements.{All-cons, All-head, All-tail}
use Rattle.std.proofs.lemmas.List.{length-map, length-replicate}
use Rattle.std.proofs.lemmas.Str.{IsUtf8-nil}
use Rattle.hex.specs.Hex.{encode_lower}
use Rattle.def_script.specs.Bytes.{Bytes}
use Rattle.def_tree.specs.Tree.{Key, Tree}
use Rattle.def_tree.specs.Range.{IsKey}
use Rattle.def_text.specs.Refusal.{TextReads}
use Rattle.def_text.proofs.Complete.{one_tree}
use Rattle.def_curve.specs.Key.{number_of}
use Rattle.def_descriptor.specs.declared.DescriptorFault.{DescriptorFault}
use Rattle.def_descriptor.specs.Token.{mapped}
use Rattle.def_descriptor.specs.Expression.{Expression}
use Rattle.def_descriptor.specs.Pieces.{Piece, expressions, text_with, place_of}
use Rattle.def_descriptor.specs.Parts.{Body, miniscript, sorted, single, Found, read_parts, read_tail}
use Rattle.def_descriptor.specs.Answer.{Descriptor, ANY_KEY, sample, pieces_of, IsRead, Answers, too_long, wrong_parts, wrong_miniscript, right_parts}
use Rattle.def_descriptor.specs.Gives.{expressions_of, keys_at, with_sorted, in_order, text_of, HasTree}
use Rattle.def_descriptor.proofs.Pieces.{PiecesUtf8, pieces_utf8, sample_utf8}
use Rattle.ms_key_laws.specs.WithoutKeys.{without_keys}
use Rattle.ms_key_laws.specs.Public.{IsPublic}
use Rattle.ms_key_laws.specs.Laws.{HasSomeTree}
use Rattle.ms_key_laws.proofs.Alike.{ReadsAs, reads_alike}
use Rattle.ms_key_laws.proofs.Forms.{AreKeys, keys_are}
use Rattle.ms_key_laws.proofs.Named.{AllNamed, found_named, all_public, all_forms}
use Rattle.ms_key_laws.proofs.Texts.{AllKeys, all_keys, all_any, texts_alike, same_size, sample_is}
use Rattle.ms_key_laws.proofs.Stop.{sample_reads}
use Rattle.ms_key_laws.proofs.Utf8.{with_utf8}

-- ---- texts of the same pieces

words_alike : (ps : List Piece) (words others : List Bytes) (tree : Tree) (offsets : List ℕ) → AllKeys words → AllKeys others → length words ≡ length others
    → IsUtf8 (text_with words ps) → IsUtf8 (text_with others ps) → TextReads (text_with words ps) tree offsets → ReadsAs (text_with others ps) tree offsets
words_alike ps words others tree offsets h g e utf8 other_utf8 reads =
    reads_alike (text_with words ps) (text_with others ps) tree offsets utf8 other_utf8 (same_size ps others words g h (sym e)) (texts_alike ps others words 0 g h (sym e)) reads

pub texts_read_alike : (ps : List Piece) (keys others : List Key) (tree : Tree) (offsets : List ℕ) → All IsKey keys → All IsKey others → length keys ≡ length others
    → IsUtf8 (text_with (map encode_lower keys) ps) → IsUtf8 (text_with (map encode_lower others) ps) → TextReads (text_with (map encode_lower keys) ps) tree offsets
    → ReadsAs (text_with (map encode_lower others) ps) tree offsets
texts_read_alike ps keys others tree offsets h g e =
    words_alike ps (map encode_lower keys) (map encode_lower others) tree offsets (all_keys keys h) (all_keys others g)
    (length-map keys encode_lower ∙ (e ∙ sym (length-map others encode_lower)))

-- with its keys, as with the one of the sample
with_keys : (ps : List Piece) (keys : List Key) (tree : Tree) (offsets : List ℕ) → PiecesUtf8 ps → AreKeys (length (expressions ps)) keys
    → TextReads (sample ps) tree offsets → ReadsAs (text_with (map encode_lower keys) ps) tree offsets
with_keys ps keys tree offsets utf8 are reads =
    let any : List Bytes = replicate (length keys) ANY_KEY in
    let is : text_with any ps ≡ sample ps = sample_is ps (length keys) are.size in
    let long : length any ≡ length (map encode_lower keys) = length-replicate (length keys) ANY_KEY ∙ sym (length-map keys encode_lower) in
    words_alike ps any (map encode_lower keys) tree offsets (all_any (length keys)) (all_keys keys are.forms) long
    (subst IsUtf8 (sym is) (subst IsUtf8 (append-nil (sample ps)) (sample_utf8 ps None utf8))) (with_utf8 keys ps utf8)
    (subst (λ z. TextReads z tree offsets) (sym is) reads)

-- ---- keys in order

sorted_long : (own : Key) (keys : List Key) → length (with_sorted own keys) ≡ suc (length keys)
sorted_long own [] = refl
sorted_long own (first ∷ keys) = go (nat_lt (number_of first) (number_of own)) (sorted_long own keys)
  where
    go : (b : Bool) → length (with_sorted own keys) ≡ suc (length keys)
        → length (cond b (first ∷ with_sorted own keys) (own ∷ first ∷ keys)) ≡ suc (length (first ∷ keys))
    go true h = ap suc h
    go false h = refl

sorted_forms : (own : Key) (keys : List Key) → IsKey own → All IsKey keys → All IsKey (with_sorted own keys)
sorted_forms own [] h all = All-cons IsKey own [] h all
sorted_forms own (first ∷ keys) h all = go (nat_lt (number_of first) (number_of own)) (sorted_forms own keys h (All-tail IsKey first keys all))
  where
    go : (b : Bool) → All IsKey (with_sorted own keys) → All IsKey (cond b (first ∷ with_sorted own keys) (own ∷ first ∷ keys))
    go true rest = All-cons IsKey first (with_sorted own keys) (All-head IsKey first keys all) rest
    go false rest = All-cons IsKey own (first ∷ keys) h all

order_long : (keys : List Key) → length (in_order keys) ≡ length keys
order_long [] = refl
order_long (own ∷ keys) = sorted_long own (in_order keys) ∙ ap suc (order_long keys)

order_forms : (keys : List Key) → All IsKey keys → All IsKey (in_order keys)
order_forms [] all = all
order_forms (own ∷ keys) all = sorted_forms own (in_order keys) (All-head IsKey own keys all) (order_forms keys (All-tail IsKey own keys all))

pub ordered : (count : ℕ) (keys : List Key) → AreKeys count keys → AreKeys count (in_order keys)
ordered count keys h = record { size = order_long keys ∙ h.size; forms = order_forms keys h.forms }

-- ---- what was read of a descriptor

pub record IsReadAs (text : Bytes) (own : Descriptor) : Type 0 where
  pub under : Bool
  pub found : Found
  pub parts : read_parts text ≡ Ok (under, found)
  pub body : found.body ≡ own.body
  pub read : IsRead (pieces_of found.body) found
  pub tail : read_tail text under found.rest ≡ Ok own.length
  pub same : under ≡ own.under

body_in : Body → Result Descriptor DescriptorFault → Body
body_in other (Ok own) = own.body
body_in other (Err why) = other

body_is : (under : Bool) (body : Body) (r : Result ℕ DescriptorFault) (own : Descriptor)
    → mapped (λ count. record { under = under; body = body; length = count }) r ≡ Ok own → body ≡ own.body
unfolding body_in
body_is under body (Ok count) own h = ap (body_in body) h
body_is under body (Err why) own h = absurd (cc)

under_in : Bool → Result Descriptor DescriptorFault → Bool
under_in other (Ok own) = own.under
under_in other (Err why) = other

under_is : (under : Bool) (body : Body) (r : Result ℕ DescriptorFault) (own : Descriptor)
    → mapped (λ count. record { under = under; body = body; length = count }) r ≡ Ok own → under ≡ own.under
unfolding under_in
under_is under body (Ok count) own h = ap (under_in under) h
under_is under body (Err why) own h = absurd (cc)

length_in : ℕ → Result Descriptor DescriptorFault → ℕ
length_in other (Ok own) = own.length
length_in other (Err why) = other

length_is : (under : Bool) (body : Body) (r : Result ℕ DescriptorFault) (own : Descriptor)
    → mapped (λ count. record { under = under; body = body; length = count }) r ≡ Ok own → r ≡ Ok own.length
unfolding length_in
length_is under body (Ok count) own h = ap Ok (ap (length_in count) h)
length_is under body (Err why) own h = absurd (cc)

read_as : (text : Bytes) (r : Result Descriptor DescriptorFault) → Answers text r → (own : Descriptor) → r ≡ Ok own → IsReadAs text own
read_as text _ (too_long h) own e = absurd (cc)
read_as text _ (wrong_parts short h) own e = absurd (cc)
read_as text _ (wrong_miniscript why short h k l) own e = absurd (cc)
read_as text _ (right_parts {under = under} {found = found} short parts read) own e =
    record {
      under = under;
      found = found;
      parts = parts;
      body = body_is under found.body (read_tail text under found.rest) own e;
      read = read;
      tail = length_is under found.body (read_tail text under found.rest) own e;
      same = under_is under found.body (read_tail text under found.rest) own e;
    }

pub descriptor_read : (text : Bytes) (own : Descriptor) → Answers text (Ok own) → IsReadAs text own
descriptor_read text own h = read_as text (Ok own) h own refl

-- each key expression names a public key
pub descriptor_named : (text : Bytes) (own : Descriptor) → Answers text (Ok own) → AllNamed (expressions_of own.body)
descriptor_named text own h =
    let d = descriptor_read text own h in
    subst (λ (z : Body). AllNamed (expressions_of z)) d.body (found_named text d.under d.found d.parts)

pub descriptor_public : (text : Bytes) (own : Descriptor) → Answers text (Ok own) → All (λ (e : Expression). IsPublic e.named) (expressions_of own.body)
descriptor_public text own h = all_public (expressions_of own.body) (descriptor_named text own h)

-- each key has the form of one, and there are as many as expressions
pub descriptor_keys : (text : Bytes) (own : Descriptor) (branch i : ℕ) (keys : List Key) → Answers text (Ok own) → keys_at branch i (expressions_of own.body) ≡ Ok keys
    → AreKeys (length (expressions_of own.body)) keys
descriptor_keys text own branch i keys h e =
    keys_are branch i (expressions_of own.body) keys (all_forms (expressions_of own.body) (descriptor_named text own h)) e

-- the pieces of a body that was read
pub record PiecesRead (ps : List Piece) : Type 0 where
  pub tree : Tree
  pub offsets : List ℕ
  pub reads : TextReads (sample ps) tree offsets
  pub utf8 : PiecesUtf8 ps

pub pieces_read : (text : Bytes) (own : Descriptor) (ps : List Piece) → IsUtf8 text → Answers text (Ok own) → pieces_of own.body ≡ Some ps → PiecesRead ps
pieces_read text own ps utf8 h e =
    let d = descriptor_read text own h in
    let same : pieces_of d.found.body ≡ Some ps = ap pieces_of d.body ∙ e in
    let read : IsRead (Some ps) d.found = subst (λ z. IsRead z d.found) same d.read in
    record {
      tree = read.0;
      offsets = read.1;
      reads = sample_reads ps d.found.refused read.0 read.1 read.2;
      utf8 = pieces_utf8 text d.under d.found ps utf8 d.parts same;
    }

-- ---- the text of a body

body_utf8 : (body : Body) (keys : List Key) → ((ps : List Piece) → pieces_of body ≡ Some ps → PiecesUtf8 ps) → IsUtf8 (text_of body keys)
body_utf8 (miniscript ps) keys h = with_utf8 keys ps (h ps refl)
body_utf8 (sorted ps) keys h = with_utf8 (in_order keys) ps (h ps refl)
body_utf8 (single expression) keys h = IsUtf8-nil

pub text_utf8 : (text : Bytes) (own : Descriptor) (keys : List Key) → IsUtf8 text → Answers text (Ok own) → IsUtf8 (text_of own.body keys)
text_utf8 text own keys utf8 h = body_utf8 own.body keys (λ ps e. (pieces_read text own ps utf8 h e).utf8)

tree_of : (ps : List Piece) (keys : List Key) (all : List Piece) → PiecesRead ps → AreKeys (length (expressions ps)) keys
    → (tree : Tree) × (offsets : List ℕ) × ((own : List ℕ) × TextReads (text_with (map encode_lower keys) ps) tree own × (offsets ≡ map (place_of 0 all) own))
tree_of ps keys all p are =
    let r = with_keys ps keys p.tree p.offsets p.utf8 are p.reads in
    (r.tree, map (place_of 0 all) p.offsets, (p.offsets, r.reads, refl))

body_tree : (body : Body) (keys : List Key) → AreKeys (length (expressions_of body)) keys → ((ps : List Piece) → pieces_of body ≡ Some ps → PiecesRead ps)
    → HasSomeTree body keys
body_tree (miniscript ps) keys are h = tree_of ps keys ps (h ps refl) are
body_tree (sorted ps) keys are h = tree_of ps (in_order keys) ps (h ps refl) (ordered (length (expressions ps)) keys are)
body_tree (single expression) keys are h = tt

pub text_read : (text : Bytes) (own : Descriptor) (branch i : ℕ) (keys : List Key) → IsUtf8 text → Answers text (Ok own)
    → keys_at branch i (expressions_of own.body) ≡ Ok keys → HasSomeTree own.body keys
text_read text own branch i keys utf8 h e =
    body_tree own.body keys (descriptor_keys text own branch i keys h e) (λ ps e. pieces_read text own ps utf8 h e)

-- ---- the trees of two places

-- a text of pieces has the tree of the sample, but for keys
as_sample : (ps : List Piece) (keys : List Key) (p : PiecesRead ps) (tree : Tree) (own : List ℕ) → AreKeys (length (expressions ps)) keys
    → TextReads (text_with (map encode_lower keys) ps) tree own → (without_keys tree ≡ without_keys p.tree) × (own ≡ p.offsets)
as_sample ps keys p tree own are reads =
    let r = with_keys ps keys p.tree p.offsets p.utf8 are p.reads in
    let (same, places) = one_tree reads.spelled r.reads.spelled in
    (ap without_keys same ∙ r.same, places)

body_trees : (body : Body) (keys others : List Key) (tree other : Tree) (offsets places : List ℕ) → AreKeys (length (expressions_of body)) keys
    → AreKeys (length (expressions_of body)) others → ((ps : List Piece) → pieces_of body ≡ Some ps → PiecesRead ps)
    → HasTree body keys tree offsets → HasTree body others other places → (without_keys tree ≡ without_keys other) × (offsets ≡ places)
body_trees (miniscript ps) keys others tree other offsets places are too h first second =
    let p = h ps refl in
    let a = as_sample ps keys p tree first.0 are first.1 in
    let b = as_sample ps others p other second.0 too second.1 in
    (a.0 ∙ sym b.0, first.2 ∙ (ap (map (place_of 0 ps)) (a.1 ∙ sym b.1) ∙ sym second.2))
body_trees (sorted ps) keys others tree other offsets places are too h first second =
    let p = h ps refl in
    let a = as_sample ps (in_order keys) p tree first.0 (ordered (length (expressions ps)) keys are) first.1 in
    let b = as_sample ps (in_order others) p other second.0 (ordered (length (expressions ps)) others too) second.1 in
    (a.0 ∙ sym b.0, first.2 ∙ (ap (map (place_of 0 ps)) (a.1 ∙ sym b.1) ∙ sym second.2))
body_trees (single expression) keys others tree other offsets places are too h first second =
    let (same, own) = one_tree first.1.spelled second.1.spelled in
    (ap without_keys same, first.2 ∙ (ap (map (place_of 0 [])) own ∙ sym second.2))

pub trees_differ : (text : Bytes) (own : Descriptor) (branch i other_branch j : ℕ) (keys others : List Key) (tree other : Tree) (offsets places : List ℕ)
    → IsUtf8 text → Answers text (Ok own) → keys_at branch i (expressions_of own.body) ≡ Ok keys → keys_at other_branch j (expressions_of own.body) ≡ Ok others
    → HasTree own.body keys tree offsets → HasTree own.body others other places → (without_keys tree ≡ without_keys other) × (offsets ≡ places)
trees_differ text own branch i other_branch j keys others tree other offsets places utf8 h e f first second =
    body_trees own.body keys others tree other offsets places (descriptor_keys text own branch i keys h e)
    (descriptor_keys text own other_branch j others h f) (λ ps e. pieces_read text own ps utf8 h e) first second
