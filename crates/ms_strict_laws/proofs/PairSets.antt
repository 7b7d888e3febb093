-- Lists of pairs of a key and a signature, compared as sets.
use Rattle.std.proofs.Common.{◌≡◌, true, ◌&&◌, List, [], ◌∷◌, ◌++◌, Contains, refl, sym, ◌⊎◌, ◌∙◌, ap, inl, inr, IsTrue, arith}
use Rattle.std.proofs.lemmas.Bool.{or_cases, or_left, or_right, false≢true, and_parts}
use Rattle.std.specs.Str.{bytes_eq}
use Rattle.std.proofs.lemmas.List.Folds.{list_any-append}
use Rattle.std.proofs.lemmas.List.Elements.{Contains-append_left, Contains-append_right}
use Rattle.std.proofs.lemmas.Slice.Eq.{bytes_eq-Decides}
use Rattle.def_script.specs.Bytes.{Bytes}
use Rattle.def_machine.specs.Stacks.{Pairs, member}
use Rattle.def_tree.specs.Tree.{Key}
use Rattle.def_choice.specs.NonMalleable.{HasNewPair}
use Rattle.ms_row_laws.proofs.KeyLists.{Disjoint}

-- a pair is in the list
abbrev pub Has : Pairs → (key sig : Bytes) → Type 0
Has pairs key sig = IsTrue (member pairs key sig)

-- there is a pair
abbrev pub HasPair : Pairs → Type 0
HasPair pairs = (key : Bytes) × (sig : Bytes) × Has pairs key sig

-- these have no pair that those don't have
abbrev pub IsWithin : (these those : Pairs) → Type 0
IsWithin these those = (key sig : Bytes) → Has these key sig → Has those key sig

-- and those have one that these don't have
abbrev pub Fewer : (these those : Pairs) → Type 0
Fewer these those = HasNewPair those these × IsWithin these those

-- they share no pair
abbrev pub Apart : (these those : Pairs) → Type 0
Apart these those = (key sig : Bytes) → Has these key sig → Has those key sig → ⊥

pub has_one : (key sig : Bytes) → Has ((key, sig) ∷ []) key sig
has_one key sig = rw ((bytes_eq-Decides key key).1 refl, (bytes_eq-Decides sig sig).1 refl) refl

pub first_or_later : (key sig : Bytes) (rest : Pairs) (k g : Bytes) → member ((key, sig) ∷ rest) k g ≡ true → ((key ≡ k) × (sig ≡ g)) ⊎ (member rest k g ≡ true)
first_or_later key sig rest k g h =
    elim (or_cases (bytes_eq key k && bytes_eq sig g) (member rest k g) h) [
      | inl a ↦ let p = and_parts (bytes_eq key k) (bytes_eq sig g) a in inl ((bytes_eq-Decides key k).0 p.0, (bytes_eq-Decides sig g).0 p.1)
      | inr a ↦ inr a
    ]

pub in_none : (p : Pairs) (key sig : Bytes) → p ≡ [] → member p key sig ≡ true → ⊥
in_none p key sig e h = false≢true (sym (ap (λ q. member q key sig) e) ∙ h)

pub has_cases : (a b : Pairs) (key sig : Bytes) → Has (a ++ b) key sig → Has a key sig ⊎ Has b key sig
has_cases a b key sig h =
    or_cases (member a key sig) (member b key sig) (sym (list_any-append (λ pair. bytes_eq pair.0 key && bytes_eq pair.1 sig) a b) ∙ h)

pub has_left : (a b : Pairs) (key sig : Bytes) → Has a key sig → Has (a ++ b) key sig
has_left a b key sig h =
    list_any-append (λ pair. bytes_eq pair.0 key && bytes_eq pair.1 sig) a b ∙ or_left (member a key sig) (member b key sig) h

pub has_right : (a b : Pairs) (key sig : Bytes) → Has b key sig → Has (a ++ b) key sig
has_right a b key sig h =
    list_any-append (λ pair. bytes_eq pair.0 key && bytes_eq pair.1 sig) a b ∙ or_right (member a key sig) (member b key sig) h

pub pair_left : (a b : Pairs) → HasPair a → HasPair (a ++ b)
pair_left a b h = (h.0, h.1, has_left a b h.0 h.1 h.2)

pub pair_right : (a b : Pairs) → HasPair b → HasPair (a ++ b)
pair_right a b h = (h.0, h.1, has_right a b h.0 h.1 h.2)

pub both_none : (a b : Pairs) → a ≡ [] → b ≡ [] → a ++ b ≡ []
both_none a b e f = ap (λ c. c ++ b) e ∙ f

-- the keys of the pairs are among these
abbrev pub Inside : Pairs → List Key → Type 0
Inside checks keys = (key sig : Bytes) → IsTrue (member checks key sig) → Contains keys key

pub inside_both : (a b : List Key) (p q : Pairs) → Inside p a → Inside q b → Inside (p ++ q) (a ++ b)
inside_both a b p q i j key sig h =
    elim (has_cases p q key sig h) [ inl k ↦ Contains-append_left a b key (i key sig k) | inr k ↦ Contains-append_right a b key (j key sig k) ]

-- keys beside others
pub second_inside : (a b : Pairs) (ls : List Key) → a ≡ [] → Inside b ls → Inside (a ++ b) ls
second_inside a b ls e g k s h = elim (has_cases a b k s h) [ inl i ↦ absurd (in_none a k s e i) | inr i ↦ g k s i ]

pub first_inside : (a b : Pairs) (ls : List Key) → b ≡ [] → Inside a ls → Inside (a ++ b) ls
first_inside a b ls e g k s h = elim (has_cases a b k s h) [ inl i ↦ g k s i | inr i ↦ absurd (in_none b k s e i) ]

pub own_inside : (key sig : Bytes) → Inside ((key, sig) ∷ []) (key ∷ [])
own_inside key sig k s h =
    elim (first_or_later key sig [] k s h) [ inl p ↦ (0, omega arith, p.0) | inr i ↦ absurd (false≢true i) ]

pub none_inside : (ks : List Key) → Inside [] ks
none_inside ks k s h = absurd (false≢true h)

-- lists that share no pair: one is empty, or their keys differ
pub apart_none : (a b : Pairs) → a ≡ [] → Apart a b
apart_none a b e key sig h i = in_none a key sig e h

pub apart_turned : (a b : Pairs) → Apart a b → Apart b a
apart_turned a b f key sig h i = f key sig i h

pub apart_inside : (a b : Pairs) (ks ls : List Key) → Inside a ks → Inside b ls → Disjoint ks ls → Apart a b
apart_inside a b ks ls f g none key sig h i = none key (f key sig h) (g key sig i)

-- none is fewer than some
pub fewer_none : (a b : Pairs) → a ≡ [] → HasPair b → Fewer a b
fewer_none a b e h = ((h.0, h.1, h.2, in_none a h.0 h.1 e), λ key sig i. absurd (in_none a key sig e i))

pub fewer_within : (a b c : Pairs) → Fewer a b → IsWithin b c → Fewer a c
fewer_within a b c f g =
    let n = f.0 in
    ((n.0, n.1, g n.0 n.1 n.2, n.3), λ key sig h. g key sig (f.1 key sig h))

-- beside others
pub within_left : (a b c : Pairs) → IsWithin a b → IsWithin (a ++ c) (b ++ c)
within_left a b c f key sig h =
    elim (has_cases a c key sig h) [ inl i ↦ has_left b c key sig (f key sig i) | inr i ↦ has_right b c key sig i ]

pub within_right : (a b c : Pairs) → IsWithin b c → IsWithin (a ++ b) (a ++ c)
within_right a b c f key sig h =
    elim (has_cases a b key sig h) [ inl i ↦ has_left a c key sig i | inr i ↦ has_right a c key sig (f key sig i) ]

pub fewer_left : (a b c : Pairs) → Fewer a b → Apart b c → Fewer (a ++ c) (b ++ c)
fewer_left a b c f apart =
    let n = f.0 in (
      (n.0, n.1, has_left b c n.0 n.1 n.2, λ h. elim (has_cases a c n.0 n.1 h) [ inl i ↦ n.3 i | inr i ↦ apart n.0 n.1 n.2 i ]),
      within_left a b c f.1,
    )

pub fewer_right : (a b c : Pairs) → Fewer b c → Apart a c → Fewer (a ++ b) (a ++ c)
fewer_right a b c f apart =
    let n = f.0 in (
      (n.0, n.1, has_right a c n.0 n.1 n.2, λ h. elim (has_cases a b n.0 n.1 h) [ inl i ↦ apart n.0 n.1 i n.2 | inr i ↦ n.3 i ]),
      within_right a b c f.1,
    )
