-- What a descriptor says of its outputs.
use Rattle.std.proofs.Common.{◌≡◌, ℕ, zero, suc, ◌+◌, ◌*◌, ◌/◌, ◌%◌, ◌^◌, ◌<◌, ◌≤◌, Bool, true, false, List, [], ◌∷◌, length, map, Option, Some, None, Result, Ok, Err, refl, ap, subst, arith}
use Rattle.std.specs.Prelude.{All, ⊤, IfSome, if◌then◌else◌}
use Rattle.std.specs.List.{AllByRecursion, IsDistinct}
use Rattle.std.specs.Str.{bytes_eq}
use Rattle.std.proofs.lemmas.List.Elements.{All-nil, All-cons, All-head, All-tail}
use Rattle.hex.specs.Hex.{encode_lower}
use Rattle.def_hash.specs.declared.HashKind.TheVariants as hash_kind
use Rattle.def_hash.specs.Hash.{hash160, sha256}
use Rattle.def_hash.proofs.Lengths.{digest_has_its_length}
use Rattle.def_script.specs.Bytes.{Bytes}
use Rattle.def_tree.specs.Tree.{Key, Tree}
use Rattle.def_tree.specs.Range.{IsKey}
use Rattle.def_emit.specs.Emit.{script_of}
use Rattle.def_text.specs.Refusal.{TextReads}
use Rattle.def_sane.specs.declared.Rules.TheVariants.{Policy}
use Rattle.def_sane.specs.declared.Unfit.{Unfit}
use Rattle.def_sane.specs.Keys.{keys}
use Rattle.def_sane.specs.Unfit.{size_limit, first_unfit, IsSane}
use Rattle.def_sane.specs.Laws.{IsValidWithin}
use Rattle.def_sane.proofs.Meanings.{valid_means_within, sane_means}
use Rattle.def_limits.proofs.Greatest.{limits_are_computed}
use Rattle.def_limits.specs.Scaffolding.Most.{limits_of}
use Rattle.def_descriptor.specs.Expression.{Origin, Expression}
use Rattle.def_descriptor.specs.Pieces.{Piece, expressions, text_with}
use Rattle.def_descriptor.specs.Parts.{Body, miniscript, sorted, single}
use Rattle.def_descriptor.specs.Answer.{Descriptor, Answers}
use Rattle.def_descriptor.specs.Gives.{expressions_of, branch_count, keys_at, in_order, HasTree, origin_at, key_program, tree_program}
use Rattle.def_descriptor_answer.specs.Places.{Place, of_key, of_tree, nothing, judged, IsTreeOf, IsWithKeys, IsByKeys, IsAt}
use Rattle.def_descriptor_answer.specs.Update.{with_origins, known_at, known_before, KnowsPlace, KnowsFrom, index_count, Knows}
use Rattle.def_update.specs.Known.{Known}
use Rattle.ms_key_laws.proofs.Forms.{AreKeys}
use Rattle.ms_key_laws.proofs.Read.{descriptor_keys, ordered}
use Rattle.ms_update_laws.specs.Updated.{IsKnownKey, same_key, IsKnown}
use Rattle.ms_known_laws.proofs.Read.{expressions_are}
use Rattle.ms_known_laws.proofs.Origins.{IsShort, key_is, origin_print, origin_steps}
use Rattle.ms_known_laws.proofs.Parts.{part_of_part, part_once, once}
use Rattle.ms_known_laws.proofs.Spelled.{text_is}
use Rattle.ms_known_laws.proofs.Held.{text_holds, held_part}
use Rattle.ms_known_laws.proofs.Sorted.{once_ordered}

-- ---- keys with their origins

keys_known : (branch i : ℕ) (all : List Expression) (own : List Key) → AllByRecursion IsShort all → All IsKey own → All IsKnownKey (with_origins branch i all own)
keys_known branch i [] own short h = All-nil IsKnownKey
keys_known branch i (e ∷ all) [] short h = All-nil IsKnownKey
keys_known branch i (e ∷ all) (key ∷ own) short h =
    All-cons IsKnownKey (key, origin_at branch i e) (with_origins branch i all own)
    (record { form = (All-head IsKey key own h).form; print = origin_print branch i e short.0; steps = origin_steps branch i e short.0 })
    (keys_known branch i all own short.1 (All-tail IsKey key own h))

all_first : (P : Key → Type 0) (branch i : ℕ) (all : List Expression) (own : List Key) → AllByRecursion P own
    → AllByRecursion (λ (known : Key × Origin). P known.0) (with_origins branch i all own)
all_first P branch i [] own h = tt
all_first P branch i (e ∷ all) [] h = tt
all_first P branch i (e ∷ all) (key ∷ own) h = (h.0, all_first P branch i all own h.1)

keys_once : (branch i : ℕ) (all : List Expression) (own : List Key) → IsDistinct bytes_eq own → IsDistinct same_key (with_origins branch i all own)
unfolding IsDistinct
keys_once branch i [] own h = tt
keys_once branch i (e ∷ all) [] h = tt
keys_once branch i (e ∷ all) (key ∷ own) h = (all_first (λ other. bytes_eq key other ≡ false) branch i all own h.0, keys_once branch i all own h.1)

-- ---- no key of a sane tree stands twice

tree_once : (ps : List Piece) (own : List Key) (tree : Tree) (offsets : List ℕ) → All IsKey own → length own ≡ length (expressions ps)
    → TextReads (text_with (map encode_lower own) ps) tree offsets → IsSane tree → IsDistinct bytes_eq own
tree_once ps own tree offsets h e reads sane =
    let are = text_is reads.spelled in
    part_once (part_of_part (held_part (text_holds ps own 0 h e) are.short) are.part) (once (keys tree) ((sane_means tree).0 sane).4)

-- a miniscript, in whichever order its keys are
abbrev IsTreeBody : Body → Type 0
IsTreeBody (miniscript ps) = ⊤
IsTreeBody (sorted ps) = ⊤
IsTreeBody (single expression) = ⊥

body_once : (body : Body) (own : List Key) (tree : Tree) (offsets : List ℕ) → AreKeys (length (expressions_of body)) own → HasTree body own tree offsets → IsSane tree
    → IsTreeBody body → IsDistinct bytes_eq own
body_once (miniscript ps) own tree offsets are h sane b = tree_once ps own tree h.0 are.forms are.size h.1 sane
body_once (sorted ps) own tree offsets are h sane b =
    let in_turn = ordered (length (expressions ps)) own are in
    once_ordered own (tree_once ps (in_order own) tree h.0 in_turn.forms in_turn.size h.1 sane)
body_once (single expression) own tree offsets are h sane b = absurd b

-- ---- Scripts

script_short : (tree : Tree) → IsSane tree → length (script_of tree) < 2 ^ 64
script_short tree sane =
    let valid : IsValidWithin Policy tree (limits_of tree) = (valid_means_within Policy tree (limits_of tree) (limits_are_computed tree)).0 ((sane_means tree).0 sane).0 in
    let size : (limits_of tree).size ≡ length (script_of tree) = (limits_are_computed tree).size in
    let most : (limits_of tree).size ≤ size_limit Policy = valid.2 in
    omega (arith, size, most)

key_program_short : (key : Key) → length (key_program key) < 2 ^ 64
key_program_short key = let long : length (hash160 key) ≡ 20 = digest_has_its_length hash_kind.Hash160 key in omega arith

tree_program_short : (tree : Tree) → length (tree_program tree) < 2 ^ 64
tree_program_short tree = let long : length (sha256 (script_of tree)) ≡ 32 = digest_has_its_length hash_kind.Sha256 (script_of tree) in omega arith

under_short : (under : Bool) (program : Bytes) → length program < 2 ^ 64 → IfSome (if under then Some program else None) (λ script. length script < 2 ^ 64)
under_short true program h = h
under_short false program h = tt

-- ---- what there is at a place

-- a body has so many keys at a branch and an index
abbrev HasKeys : Body → (branch i : ℕ) → List Key → Type 0
HasKeys body branch i own = keys_at branch i (expressions_of body) ≡ Ok own

no_judged : (own : List Key) (tree : Tree) (offsets : List ℕ) (key : Key) (o : Option Unfit) → of_key key ≡ judged own tree offsets o → ⊥
no_judged own tree offsets key None e = cc e
no_judged own tree offsets key (Some why) e = cc e

one_key : (body : Body) (key : Key) (own : List Key) → IsWithKeys body own (of_key key) → own ≡ key ∷ []
one_key (miniscript ps) key own h = absurd (no_judged own h.0 h.1 key (first_unfit h.0) h.3)
one_key (sorted ps) key own h = absurd (no_judged own h.0 h.1 key (first_unfit h.0) h.3)
one_key (single expression) key own h = cc (h.1, h.2)

key_there : (body : Body) (branch i : ℕ) (key : Key) → IsAt body branch i (of_key key) → HasKeys body branch i (key ∷ [])
key_there body branch i key h = go (keys_at branch i (expressions_of body)) h
  where
    go : (r : Result (List Key) ℕ) → IsByKeys body r (of_key key) → r ≡ Ok (key ∷ [])
    go (Err at) k = absurd (cc k)
    go (Ok own) k = ap Ok (one_key body key own k)

-- a sane tree, and its keys
record HasSane (body : Body) (own : List Key) (tree : Tree) : Type 0 where
  tree_body : IsTreeBody body
  offsets : List ℕ
  has_tree : HasTree body own tree offsets
  sane : IsSane tree

judged_is : (own found : List Key) (tree other : Tree) (offsets : List ℕ) (o : Option Unfit) → of_tree own tree ≡ judged found other offsets o
    → (found ≡ own) × (other ≡ tree) × (o ≡ None)
judged_is own found tree other offsets None e = (cc e, cc e, refl)
judged_is own found tree other offsets (Some why) e = absurd (cc e)

same_sane : (body : Body) (own found : List Key) (tree other : Tree) (offsets : List ℕ) → IsTreeBody body → HasTree body found other offsets → found ≡ own → other ≡ tree
    → first_unfit other ≡ None → (found ≡ own) × HasSane body own tree
same_sane body own found tree other offsets b h e f g = (
  e,
  record {
    tree_body = b;
    offsets = offsets;
    has_tree = subst (λ z. HasTree body z tree offsets) e (subst (λ z. HasTree body found z offsets) f h);
    sane = subst (λ z. first_unfit z ≡ None) f g;
  },
)

tree_by : (body : Body) (own found : List Key) (tree : Tree) → IsTreeBody body → IsTreeOf body found (of_tree own tree) → (found ≡ own) × HasSane body own tree
tree_by body own found tree b h =
    let is = judged_is own found tree h.0 h.1 (first_unfit h.0) h.3 in
    same_sane body own found tree h.0 h.1 b h.2 is.0 is.1 is.2

sane_tree : (body : Body) (own found : List Key) (tree : Tree) → IsWithKeys body found (of_tree own tree) → (found ≡ own) × HasSane body own tree
sane_tree (miniscript ps) own found tree h = tree_by (miniscript ps) own found tree tt h
sane_tree (sorted ps) own found tree h = tree_by (sorted ps) own found tree tt h
sane_tree (single expression) own found tree h = absurd (cc h.2)

tree_there : (body : Body) (branch i : ℕ) (own : List Key) (tree : Tree) → IsAt body branch i (of_tree own tree) → HasKeys body branch i own × HasSane body own tree
tree_there body branch i own tree h = go (keys_at branch i (expressions_of body)) h
  where
    go : (r : Result (List Key) ℕ) → IsByKeys body r (of_tree own tree) → (r ≡ Ok own) × HasSane body own tree
    go (Err at) k = absurd (cc k)
    go (Ok found) k = let is = sane_tree body own found tree k in (ap Ok is.0, is.1)

-- ---- what is known

known_first : (known : List Known) (first : Known) (later : Result (List Known) Bytes) → IsKnown first → ((found : List Known) → later ≡ Ok found → All IsKnown found)
    → Ok known ≡ known_before first later → All IsKnown known
known_first known first (Err line) h go e = absurd (cc e)
known_first known first (Ok found) h go e =
    let same : first ∷ found ≡ known = cc e in subst (All IsKnown) same (All-cons IsKnown first found h (go found refl))

module _ (text : Bytes) (own : Descriptor) (answers : Answers text (Ok own)) where
  all_short : AllByRecursion IsShort (expressions_of own.body)
  all_short = expressions_are IsShort key_is text own answers

  known_is : (branch i : ℕ) (program : Bytes) (witness : Option Bytes) (found : List Key) → HasKeys own.body branch i found → length program < 2 ^ 64
      → IfSome witness (λ script. length script < 2 ^ 64) → IsDistinct bytes_eq found → IsKnown (known_at own branch i program witness found)
  known_is branch i program witness found there short script distinct = record {
    redeem = under_short own.under program short;
    witness = script;
    keys = keys_known branch i (expressions_of own.body) found all_short (descriptor_keys text own branch i found answers there).forms;
    once = keys_once branch i (expressions_of own.body) found distinct;
  }

  one_once : (key : Key) → IsDistinct bytes_eq (key ∷ [])
  unfolding IsDistinct
  one_once key = (tt, tt)

  key_known : (branch i : ℕ) (key : Key) → IsAt own.body branch i (of_key key) → IsKnown (known_at own branch i (key_program key) None (key ∷ []))
  key_known branch i key h = known_is branch i (key_program key) None (key ∷ []) (key_there own.body branch i key h) (key_program_short key) tt (one_once key)

  tree_known : (branch i : ℕ) (found : List Key) (tree : Tree) → IsAt own.body branch i (of_tree found tree)
      → IsKnown (known_at own branch i (tree_program tree) (Some (script_of tree)) found)
  tree_known branch i found tree h =
      let (there, s) = tree_there own.body branch i found tree h in
      known_is branch i (tree_program tree) (Some (script_of tree)) found there (tree_program_short tree) (script_short tree s.sane)
      (body_once own.body found tree s.offsets (descriptor_keys text own branch i found answers there) s.has_tree s.sane s.tree_body)

  place_known : (branch i : ℕ) (place : Place) (Later : Result (List Known) Bytes → Type 0) (known : List Known)
      → ((r : Result (List Known) Bytes) → Later r → (found : List Known) → r ≡ Ok found → All IsKnown found)
      → IsAt own.body branch i place → KnowsPlace own branch i place Later (Ok known) → All IsKnown known
  place_known branch i (of_key key) Later known go h k =
      known_first known (known_at own branch i (key_program key) None (key ∷ [])) k.0 (key_known branch i key h) (go k.0 k.1) k.2
  place_known branch i (of_tree found tree) Later known go h k =
      known_first known (known_at own branch i (tree_program tree) (Some (script_of tree)) found) k.0 (tree_known branch i found tree h) (go k.0 k.1) k.2
  place_known branch i (nothing reason) Later known go h k = absurd (cc k)

  known_from : (of_branch count from : ℕ) (r : Result (List Known) Bytes) → KnowsFrom own of_branch count from r → (known : List Known) → r ≡ Ok known → All IsKnown known
  known_from of_branch zero from r h known e = let same : [] ≡ known = cc (h, e) in subst (All IsKnown) same (All-nil IsKnown)
  known_from of_branch (suc count) from r h known e =
      let k = subst (KnowsPlace own (from / of_branch) (from % of_branch) h.0 (KnowsFrom own of_branch count (from + 1))) e h.2 in
      place_known (from / of_branch) (from % of_branch) h.0 (KnowsFrom own of_branch count (from + 1)) known (known_from of_branch count (from + 1)) h.1 k

pub knows_known : (text : Bytes) (own : Descriptor) (count : ℕ) (known : List Known) → Answers text (Ok own) → Knows own count (Ok known) → All IsKnown known
knows_known text own count known answers h = known_from text own answers (index_count own count) (branch_count own.body * index_count own count) 0 (Ok known) h known refl
