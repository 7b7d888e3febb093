-- Canonical satisfactions and dissatisfactions consist of bytes.
use Rattle.std.proofs.Common.{◌≡◌, ℕ, zero, suc, List, [], ◌∷◌, ◌++◌, reverse, replicate, All, sym, subst, inl, inr, arith, IsTrue}
use Rattle.std.proofs.lemmas.Bool.{false≢true}
use Rattle.std.proofs.lemmas.List.{reverse-reverse, reverse-append}
use Rattle.std.proofs.lemmas.List.Elements.{All-nil, All-cons, All-head, All-tail, All-same, All-append, All-replicate}
use Rattle.def_script.specs.Bytes.{Bytes, IsBytes}
use Rattle.def_machine.specs.Stacks.{Stack, member}
use Rattle.def_machine.specs.MultiSig.{is_good}
use Rattle.def_tree.specs.declared.Two.TheVariants as kind
use Rattle.def_tree.specs.declared.Wrapper.TheVariants as wrapper
use Rattle.def_tree.specs.Tree.{Tree, Trees, Key, just_0, just_1, pk_k, pk_h, hash, and_or, two, thresh, multi, wrap, none, more}
use Rattle.def_tree.specs.Range.{IsWritable, AreWritable}
use Rattle.def_assets.specs.Assets.{Assets, AreAssets}
use Rattle.def_satisfaction.specs.StackSet.{StackSet, Is, If, Both, Either}
use Rattle.def_satisfaction.specs.Rows.{Row, EMPTY, ONE, ZEROS, NotCanonical, Signature, AreSignatures, PartsOf, row, parts}
use Rattle.def_satisfaction.specs.Satisfaction.{canonical}
use Rattle.def_satisfaction.specs.Laws.{SatIsOfBytes, DsatIsOfBytes}
use Rattle.def_satisfaction.proofs.Wider.{Within}
use Rattle.def_satisfaction.proofs.Held.{good_is_signature, known_is_preimage}

-- the items of the table

pub empty_bytes : IsBytes EMPTY
empty_bytes i = omega arith

pub one_bytes : IsBytes ONE
one_bytes zero = omega arith
one_bytes (suc i) = omega arith

replicate_bytes : (n : ℕ) → IsBytes (replicate n 0x00)
replicate_bytes zero i = omega arith
replicate_bytes (suc n) zero = omega arith
replicate_bytes (suc n) (suc i) = replicate_bytes n i

pub zeros_bytes : IsBytes ZEROS
zeros_bytes = replicate_bytes 32

-- each stack of the set consists of bytes
abbrev pub OfBytes : StackSet → Type 0
OfBytes P = Within P (All IsBytes)

pub one_item : (x : Bytes) → IsBytes x → All IsBytes (x ∷ [])
one_item x b = All-cons IsBytes x [] b (All-nil IsBytes)

is_bytes : (x : Bytes) → IsBytes x → OfBytes (Is x)
is_bytes x b stack e = All-same IsBytes stack (x ∷ []) e (one_item x b)

nothing_bytes : OfBytes (λ stack. stack ≡ [])
nothing_bytes stack e = All-same IsBytes stack [] e (All-nil IsBytes)

never_bytes : OfBytes (λ stack. ⊥)
never_bytes stack h = absurd h

both_bytes : (P Q : StackSet) → OfBytes P → OfBytes Q → OfBytes (Both P Q)
both_bytes P Q p q stack (below, above, i, j, e) = All-same IsBytes stack (above ++ below) e (All-append IsBytes above below (q above j) (p below i))

either_bytes : (P Q : StackSet) → OfBytes P → OfBytes Q → OfBytes (Either P Q)
either_bytes P Q p q stack (inl h) = p stack h
either_bytes P Q p q stack (inr h) = q stack h

if_bytes : (fact : Type 0) (P : StackSet) → OfBytes P → OfBytes (If fact P)
if_bytes fact P p stack h = p stack h.1

-- dissatisfactions, which need no assets
module _ (assets : Assets) where
  extra_bytes : (P : StackSet) → OfBytes (NotCanonical (canonical assets) P)
  extra_bytes P stack h = absurd (false≢true h.0)

  mutual
    pub dsat_bytes : (tree : Tree) → IsWritable tree → OfBytes (row (canonical assets) tree).dsat
    dsat_bytes just_0 w = nothing_bytes
    dsat_bytes (pk_k key) w = is_bytes EMPTY empty_bytes
    dsat_bytes (pk_h key) w = λ stack h.
        both_bytes _ _ (is_bytes EMPTY empty_bytes) (is_bytes h.0 (subst IsBytes (sym h.3) w.bytes)) stack h.4
    dsat_bytes (hash kind value) w = either_bytes _ _ (if_bytes _ _ (is_bytes ZEROS zeros_bytes)) (extra_bytes _)
    dsat_bytes (and_or x y z) w = either_bytes _ _ (both_bytes _ _ (dsat_bytes z w.2) (dsat_bytes x w.0)) (extra_bytes _)
    dsat_bytes (two kind.AndV x y) w = extra_bytes _
    dsat_bytes (two kind.AndB x y) w = either_bytes _ _ (both_bytes _ _ (dsat_bytes y w.1) (dsat_bytes x w.0)) (extra_bytes _)
    dsat_bytes (two kind.OrC x z) w = never_bytes
    dsat_bytes (two kind.OrI x z) w =
        either_bytes _ _ (both_bytes _ _ (dsat_bytes x w.0) (is_bytes ONE one_bytes)) (both_bytes _ _ (dsat_bytes z w.1) (is_bytes EMPTY empty_bytes))
    dsat_bytes (two which x z) w = both_bytes _ _ (dsat_bytes z w.1) (dsat_bytes x w.0)
    dsat_bytes (thresh k xs) w = either_bytes _ _ (none_bytes xs w.2) (extra_bytes _)
    dsat_bytes (multi k keys) w = λ stack e. All-same IsBytes stack _ e (All-replicate IsBytes _ EMPTY empty_bytes)
    dsat_bytes (wrap wrapper.D x) w = is_bytes EMPTY empty_bytes
    dsat_bytes (wrap wrapper.V x) w = never_bytes
    dsat_bytes (wrap wrapper.J x) w = either_bytes _ _ (is_bytes EMPTY empty_bytes) (extra_bytes _)
    dsat_bytes (wrap letter x) w = dsat_bytes x w
    dsat_bytes tree w = never_bytes

    -- all children dissatisfied
    none_bytes : (xs : Trees) → AreWritable xs → OfBytes (parts (canonical assets) xs 0)
    none_bytes none w = if_bytes _ _ nothing_bytes
    none_bytes (more x xs) w = either_bytes _ _ (λ stack h. absurd (omega (arith, h.1))) (both_bytes _ _ (none_bytes xs w.1) (dsat_bytes x w.0))

module _ (assets : Assets) (are : AreAssets assets) where
  good_bytes : (key sig : Bytes) → IsTrue (is_good (member assets.pairs) key sig) → IsBytes sig
  good_bytes key sig h = let is = good_is_signature assets are key sig h in is.bytes

  signature_bytes : (key : Key) → OfBytes (Signature (canonical assets) key)
  signature_bytes key stack h = is_bytes h.0 (good_bytes key h.0 h.1) stack h.2

  signatures_bytes : (keys : List Key) (sigs : Stack) → AreSignatures (member assets.pairs) keys sigs → All IsBytes sigs
  signatures_bytes keys [] h = All-nil IsBytes
  signatures_bytes [] (sig ∷ sigs) h = absurd h
  signatures_bytes (key ∷ keys) (sig ∷ sigs) (inl h) = All-cons IsBytes sig sigs (good_bytes key sig h.0) (signatures_bytes keys sigs h.1)
  signatures_bytes (key ∷ keys) (sig ∷ sigs) (inr h) = signatures_bytes keys (sig ∷ sigs) h

  parts_of_bytes : (x : Row) (others : ℕ → StackSet) → OfBytes x.sat → OfBytes x.dsat → ((n : ℕ) → OfBytes (others n)) → (n : ℕ) → OfBytes (PartsOf x others n)
  parts_of_bytes x others sat dsat o n =
      either_bytes _ _ (λ stack h. both_bytes _ _ (o h.0) sat stack h.2) (both_bytes _ _ (o n) dsat)

  mutual
    pub sat_bytes : (tree : Tree) → IsWritable tree → OfBytes (row (canonical assets) tree).sat
    sat_bytes just_0 w = never_bytes
    sat_bytes just_1 w = nothing_bytes
    sat_bytes (pk_k key) w = signature_bytes key
    sat_bytes (pk_h key) w = λ stack h.
        both_bytes _ _ (signature_bytes h.0) (is_bytes h.0 (subst IsBytes (sym h.3) w.bytes)) stack h.4
    sat_bytes (hash kind value) w = λ stack h. is_bytes h.0 (let is = known_is_preimage assets are kind value h.0 h.1.1 in is.0.bytes) stack h.2
    sat_bytes (and_or x y z) w =
        either_bytes _ _ (both_bytes _ _ (sat_bytes y w.1) (sat_bytes x w.0)) (both_bytes _ _ (sat_bytes z w.2) (dsat_bytes assets x w.0))
    sat_bytes (two kind.OrB x z) w =
        either_bytes _ _ (both_bytes _ _ (dsat_bytes assets z w.1) (sat_bytes x w.0))
        (either_bytes _ _ (both_bytes _ _ (sat_bytes z w.1) (dsat_bytes assets x w.0)) (extra_bytes assets _))
    sat_bytes (two kind.OrC x z) w = either_bytes _ _ (sat_bytes x w.0) (both_bytes _ _ (sat_bytes z w.1) (dsat_bytes assets x w.0))
    sat_bytes (two kind.OrD x z) w = either_bytes _ _ (sat_bytes x w.0) (both_bytes _ _ (sat_bytes z w.1) (dsat_bytes assets x w.0))
    sat_bytes (two kind.OrI x z) w =
        either_bytes _ _ (both_bytes _ _ (sat_bytes x w.0) (is_bytes ONE one_bytes)) (both_bytes _ _ (sat_bytes z w.1) (is_bytes EMPTY empty_bytes))
    sat_bytes (two which x y) w = both_bytes _ _ (sat_bytes y w.1) (sat_bytes x w.0)
    sat_bytes (thresh k xs) w = parts_bytes xs w.2 k
    sat_bytes (multi k keys) w = both_bytes _ _ (is_bytes EMPTY empty_bytes) (λ sigs h. signatures_bytes (reverse keys) sigs h.1)
    sat_bytes (wrap wrapper.D x) w = both_bytes _ _ (sat_bytes x w) (is_bytes ONE one_bytes)
    sat_bytes (wrap letter x) w = sat_bytes x w
    sat_bytes tree w = if_bytes _ _ nothing_bytes

    parts_bytes : (xs : Trees) → AreWritable xs → (n : ℕ) → OfBytes (parts (canonical assets) xs n)
    parts_bytes none w n = if_bytes _ _ nothing_bytes
    parts_bytes (more x xs) w n = parts_of_bytes _ _ (sat_bytes x w.0) (dsat_bytes assets x w.0) (parts_bytes xs w.1) n

-- a stack that is turned round

pub turned_bytes : (stack : List Bytes) → All IsBytes stack → All IsBytes (reverse stack)
turned_bytes [] h = h
turned_bytes (x ∷ stack) h =
    All-same IsBytes (reverse (x ∷ stack)) (reverse stack ++ x ∷ []) (reverse-append (x ∷ []) stack)
    (All-append IsBytes (reverse stack) (x ∷ []) (turned_bytes stack (All-tail IsBytes x stack h)) (one_item x (All-head IsBytes x stack h)))

pub reversed_bytes : (stack : List Bytes) → All IsBytes (reverse stack) → All IsBytes stack
reversed_bytes stack h = subst (All IsBytes) (reverse-reverse stack) (turned_bytes (reverse stack) h)

pub sat_is_of_bytes : SatIsOfBytes
sat_is_of_bytes tree assets stack writable are sat = reversed_bytes stack (sat_bytes assets are tree writable (reverse stack) sat)

pub dsat_is_of_bytes : DsatIsOfBytes
dsat_is_of_bytes tree assets stack writable dsat = reversed_bytes stack (dsat_bytes assets tree writable (reverse stack) dsat)
