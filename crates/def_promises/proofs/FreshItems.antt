-- A fresh stack has a preimage that isn't known, or another key.
use Rattle.std.proofs.Common.{◌≡◌, ◌≢◌, ℕ, Bool, true, false, List, [], ◌∷◌, ◌++◌, reverse, Contains, Option, Some, None, refl, sym, ◌∙◌, ap, subst, ◌⊎◌, inl, inr, IsTrue, arith}
use Rattle.std.specs.Str.{bytes_eq}
use Rattle.std.proofs.lemmas.Slice.Eq.{bytes_eq-Decides}
use Rattle.std.proofs.lemmas.List.Elements.{Contains-append_left, Contains-append_right}
use Rattle.std.proofs.lemmas.Option.{none-some, same_Some}
use Rattle.std.proofs.lemmas.Bool.{false≢true}
use Rattle.def_hash.specs.declared.HashKind.{HashKind}
use Rattle.def_hash.specs.Hash.{hash160}
use Rattle.def_script.specs.Bytes.{Bytes}
use Rattle.def_machine.specs.Stacks.{Stack}
use Rattle.def_script.specs.Key.{is_key}
use Rattle.def_machine.specs.Machine.{Given}
use Rattle.def_tree.specs.declared.Two.{Two}
use Rattle.def_tree.specs.declared.Two.TheVariants as kind
use Rattle.def_tree.specs.declared.Wrapper.{Wrapper}
use Rattle.def_tree.specs.declared.Wrapper.TheVariants as wrapper
use Rattle.def_tree.specs.Tree.{Tree, Trees, Key, pk_h, hash, and_or, two, thresh, wrap, none, more}
use Rattle.def_assets.specs.Assets.{Assets, known}
use Rattle.def_tree.specs.Nodes.{all_nodes, nodes_of_all}
use Rattle.def_satisfaction.specs.StackSet.{StackSet, Is, Both, Either}
use Rattle.def_satisfaction.specs.Setting.{Setting, any, only}
use Rattle.def_satisfaction.specs.Rows.{Row, NotCanonical, Signature, WithHashOf, IsPreimageOf, PartsOf, thresh_row, row, parts, EMPTY}
use Rattle.def_satisfaction.specs.Satisfaction.{full}
use Rattle.def_satisfaction.proofs.Wider.{Within}
use Rattle.def_choice.specs.NonMalleable.{given_with}
use Rattle.def_choice.proofs.Weights.{contains-reverse}
use Rattle.def_promises.specs.Promises.{FreshHasItem}
use Rattle.def_promises.specs.Accepted.{HasUnknownPreimage, HasOtherKey}

-- an item of a stack by a fragment of a list
record Unknown (assets : Assets) (nodes : List Tree) (stack : Stack) : Type 0 where
  kind : HashKind
  value : Bytes
  preimage : Bytes
  fragment : Contains nodes (hash kind value)
  item : Contains stack preimage
  preimage_of : IsPreimageOf kind value preimage
  unknown : known assets kind value ≢ Some preimage

record Other (nodes : List Tree) (stack : Stack) : Type 0 where
  key : Key
  other : Key
  fragment : Contains nodes (pk_h key)
  item : Contains stack other
  form : IsTrue (is_key other)
  hash : hash160 other ≡ hash160 key
  differs : other ≢ key

differ : (x y : Bytes) → bytes_eq x y ≡ false → x ≡ y → ⊥
differ x y h e = false≢true (sym h ∙ (bytes_eq-Decides x y).1 e)

alone : (x : Bytes) (stack : Stack) → stack ≡ x ∷ [] → Contains stack x
alone x stack e = subst (λ v. Contains v x) (sym e) (0, omega arith, refl)

module _ (assets : Assets) (given : Given) (nodes : List Tree) where
  abbrev Odd : StackSet
  Odd stack = Unknown assets nodes stack ⊎ Other nodes stack

  odd_in : (w v : Stack) → ((x : Bytes) → Contains w x → Contains v x) → Odd w → Odd v
  odd_in w v keep (inl u) = inl (record {
    kind = u.kind;
    value = u.value;
    preimage = u.preimage;
    fragment = u.fragment;
    item =
        keep u.preimage u.item;
    preimage_of = u.preimage_of;
    unknown = u.unknown;
  })
  odd_in w v keep (inr o) = inr (record { key = o.key; other = o.other; fragment = o.fragment; item = keep o.other o.item; form = o.form; hash = o.hash; differs = o.differs })

  odd_below : (below above stack : Stack) → stack ≡ above ++ below → Odd below → Odd stack
  odd_below below above stack e odd = odd_in below stack (λ x h. subst (λ v. Contains v x) (sym e) (Contains-append_right above below x h)) odd

  odd_above : (below above stack : Stack) → stack ≡ above ++ below → Odd above → Odd stack
  odd_above below above stack e odd = odd_in above stack (λ x h. subst (λ v. Contains v x) (sym e) (Contains-append_left above below x h)) odd

  -- each stack of P is one of Q, or odd
  abbrev Or : (P Q : StackSet) → Type 0
  Or P Q = Within P (Either Q Odd)

  plain : (P : StackSet) → Or P P
  plain P stack h = inl h

  both_or : {P P' Q Q' : StackSet} → Or P P' → Or Q Q' → Or (Both P Q) (Both P' Q')
  both_or {P' = P'} {Q' = Q'} p q stack (below, above, i, j, e) = go (p below i) (q above j)
    where
      go : Either P' Odd below → Either Q' Odd above → Either (Both P' Q') Odd stack
      go (inl k) (inl l) = inl (below, above, k, l, e)
      go (inr k) l = inr (odd_below below above stack e k)
      go (inl k) (inr l) = inr (odd_above below above stack e l)

  either_or : {P P' Q Q' : StackSet} → Or P P' → Or Q Q' → Or (Either P Q) (Either P' Q')
  either_or p q stack (inl i) = elim (p stack i) [ inl k ↦ inl (inl k) | inr k ↦ inr k ]
  either_or p q stack (inr i) = elim (q stack i) [ inl k ↦ inl (inr k) | inr k ↦ inr k ]

  abbrev anyone : Setting
  anyone = full given any

  abbrev knower : Setting
  knower = full given (only (known assets))

  extra_or : {P P' : StackSet} → Or P P' → Or (NotCanonical anyone P) (NotCanonical knower P')
  extra_or p stack h = elim (p stack h.1) [ inl k ↦ inl (h.0, k) | inr k ↦ inr k ]

  record Splits (x y : Row) : Type 0 where
    dsat : Or x.dsat y.dsat
    sat : Or x.sat y.sat

  hash_or : (kind : HashKind) (value : Bytes) → Contains nodes (hash kind value) → Splits (row anyone (hash kind value)) (row knower (hash kind value))
  hash_or kind value here = record {
    dsat = plain _;
    sat = λ stack h. go stack h.0 h.1.0 h.2 (known assets kind value) refl;
  }
    where
      unknown : (stack : Stack) (x : Bytes) → IsPreimageOf kind value x → stack ≡ x ∷ [] → (known assets kind value ≡ Some x → ⊥) → Odd stack
      unknown stack x p e no_one = inl (record { kind = kind; value = value; preimage = x; fragment = here; item = alone x stack e; preimage_of = p; unknown = no_one })

      same_or : (stack : Stack) (x y : Bytes) → IsPreimageOf kind value x → stack ≡ x ∷ [] → known assets kind value ≡ Some y → (test : Bool) → bytes_eq y x
          ≡ test → Either (row knower (hash kind value)).sat Odd stack
      same_or stack x y p e h true t = inl (x, (p, h ∙ ap Some ((bytes_eq-Decides y x).0 t)), e)
      same_or stack x y p e h false t = inr (unknown stack x p e (λ q. differ y x t (same_Some y x (sym h ∙ q))))

      go : (stack : Stack) (x : Bytes) → IsPreimageOf kind value x → stack ≡ x ∷ [] → (held : Option Bytes) → known assets kind value ≡ held → Either (row knower (hash kind value)).sat Odd stack
      go stack x p e None h = inr (unknown stack x p e (λ q. none-some x (sym h ∙ q)))
      go stack x p e (Some y) h = same_or stack x y p e h (bytes_eq y x) refl

  key_or : (key : Key) → Contains nodes (pk_h key) → (P : Key → StackSet) → Or (WithHashOf anyone key (λ other. Both (P other) (Is other))) (WithHashOf knower key (λ other. Both (P other) (Is other)))
  key_or key here P stack (other, form, same_hash, any_key, (below, above, i, j, e)) = go (bytes_eq other key) refl
    where
      go : (test : Bool) → bytes_eq other key ≡ test → Either (WithHashOf knower key (λ k. Both (P k) (Is k))) Odd stack
      go true t = inl (other, form, same_hash, (bytes_eq-Decides other key).0 t, (below, above, i, j, e))
      go false t =
          inr (odd_above below above stack e
          (inr (record { key = key; other = other; fragment = here; item = alone other above j; form = form; hash = same_hash; differs = differ other key t })))

  pk_h_or : (key : Key) → Contains nodes (pk_h key) → Splits (row anyone (pk_h key)) (row knower (pk_h key))
  pk_h_or key here = record { dsat = key_or key here (λ other. Is EMPTY); sat = key_or key here (λ other. Signature anyone other) }

  counted_or : (x y : Row) (P Q : ℕ → StackSet) → Splits x y → ((n : ℕ) → Or (P n) (Q n)) → (n : ℕ) → Or (PartsOf x P n) (PartsOf y Q n)
  counted_or x y P Q i j n stack (inl h) = elim (both_or (j h.0) i.sat stack h.2) [ inl k ↦ inl (inl (h.0, h.1, k)) | inr k ↦ inr k ]
  counted_or x y P Q i j n stack (inr h) = elim (both_or (j n) i.dsat stack h) [ inl k ↦ inl (inr k) | inr k ↦ inr k ]

  thresh_or : (k : ℕ) (P Q : ℕ → StackSet) → ((n : ℕ) → Or (P n) (Q n)) → Splits (thresh_row anyone k P) (thresh_row knower k Q)
  thresh_or k P Q j = record {
    dsat = either_or (j 0) (extra_or (λ stack h. elim (j h.0 stack h.3) [ inl i ↦ inl (h.0, h.1, h.2, i) | inr i ↦ inr i ]));
    sat = j k;
  }

  -- the nodes of a part are among those of the whole
  abbrev In : List Tree → Type 0
  In part = (t : Tree) → Contains part t → Contains nodes t

  left : (xs ys : List Tree) → In (xs ++ ys) → In xs
  left xs ys h t c = h t (Contains-append_left xs ys t c)

  right : (xs ys : List Tree) → In (xs ++ ys) → In ys
  right xs ys h t c = h t (Contains-append_right xs ys t c)

  two_x : (kind : Two) (x y : Tree) → In (all_nodes (two kind x y)) → In (all_nodes x)
  two_x kind x y h = left (all_nodes x) (all_nodes y) (left (all_nodes x ++ all_nodes y) (two kind x y ∷ []) h)

  two_y : (kind : Two) (x y : Tree) → In (all_nodes (two kind x y)) → In (all_nodes y)
  two_y kind x y h = right (all_nodes x) (all_nodes y) (left (all_nodes x ++ all_nodes y) (two kind x y ∷ []) h)

  three : (x y z : Tree) → In (all_nodes (and_or x y z)) → In (all_nodes x ++ all_nodes y ++ all_nodes z)
  three x y z h = left (all_nodes x ++ all_nodes y ++ all_nodes z) (and_or x y z ∷ []) h

  two_of_three : (x y z : Tree) → In (all_nodes (and_or x y z)) → In (all_nodes x ++ all_nodes y)
  two_of_three x y z h = left (all_nodes x ++ all_nodes y) (all_nodes z) (three x y z h)

  wrapped : (wrapper : Wrapper) (x : Tree) → In (all_nodes (wrap wrapper x)) → In (all_nodes x)
  wrapped wrapper x h = left (all_nodes x) (wrap wrapper x ∷ []) h

  two_or : (which : Two) (x y : Tree) → Splits (row anyone x) (row knower x) → Splits (row anyone y) (row knower y) → Splits (row anyone (two which x y)) (row knower (two which x y))
  two_or kind.AndV x y i j = record { dsat = extra_or (both_or j.dsat i.sat); sat = both_or j.sat i.sat }
  two_or kind.AndB x y i j = record {
    dsat = either_or (both_or j.dsat i.dsat) (extra_or (either_or (both_or j.sat i.dsat) (both_or j.dsat i.sat)));
    sat = both_or j.sat i.sat;
  }
  two_or kind.OrB x z i k = record {
    dsat = both_or k.dsat i.dsat;
    sat = either_or (both_or k.dsat i.sat) (either_or (both_or k.sat i.dsat) (extra_or (both_or k.sat i.sat)));
  }
  two_or kind.OrC x z i k = record { dsat = plain _; sat = either_or i.sat (both_or k.sat i.dsat) }
  two_or kind.OrD x z i k = record { dsat = both_or k.dsat i.dsat; sat = either_or i.sat (both_or k.sat i.dsat) }
  two_or kind.OrI x z i k = record {
    dsat = either_or (both_or i.dsat (plain _)) (both_or k.dsat (plain _));
    sat = either_or (both_or i.sat (plain _)) (both_or k.sat (plain _));
  }

  mutual
    splits : (tree : Tree) → In (all_nodes tree) → Splits (row anyone tree) (row knower tree)
    splits (pk_h key) h = pk_h_or key (h (pk_h key) (0, omega arith, refl))
    splits (hash kind value) h = hash_or kind value (h (hash kind value) (0, omega arith, refl))
    splits (and_or x y z) h =
        let i = splits x (left (all_nodes x) (all_nodes y) (two_of_three x y z h)) in
        let j = splits y (right (all_nodes x) (all_nodes y) (two_of_three x y z h)) in
        let k = splits z (right (all_nodes x ++ all_nodes y) (all_nodes z) (three x y z h)) in
        record {
          dsat = either_or (both_or k.dsat i.dsat) (extra_or (both_or j.dsat i.sat));
          sat = either_or (both_or j.sat i.sat) (both_or k.sat i.dsat);
        }
    splits (two which x y) h = two_or which x y (splits x (two_x which x y h)) (splits y (two_y which x y h))
    splits (thresh k xs) h = thresh_or k _ _ (parts_or xs (left (nodes_of_all xs) (thresh k xs ∷ []) h))
    splits (wrap wrapper.D x) h = let i = splits x (wrapped wrapper.D x h) in record { dsat = plain _; sat = both_or i.sat (plain _) }
    splits (wrap wrapper.V x) h = let i = splits x (wrapped wrapper.V x h) in record { dsat = plain _; sat = i.sat }
    splits (wrap wrapper.J x) h =
        let i = splits x (wrapped wrapper.J x h) in
        record {
          dsat = either_or (plain _) (extra_or (λ stack g. elim (i.dsat stack g.1) [ inl k ↦ inl (g.0, k) | inr k ↦ inr k ]));
          sat = i.sat;
        }
    splits (wrap letter x) h = splits x (wrapped letter x h)
    splits tree h = record { dsat = plain _; sat = plain _ }

    parts_or : (xs : Trees) → In (nodes_of_all xs) → (n : ℕ) → Or (parts anyone xs n) (parts knower xs n)
    parts_or none h n = plain _
    parts_or (more x xs) h n = counted_or _ _ _ _ (splits x (left (all_nodes x) (nodes_of_all xs) h)) (parts_or xs (right (all_nodes x) (nodes_of_all xs) h)) n

shown : (tree : Tree) (assets : Assets) (given : Given) (stack : List Bytes) → Odd assets given (all_nodes tree) (reverse stack) → HasUnknownPreimage tree assets stack ⊎ HasOtherKey tree stack
shown tree assets given stack (inl u) = inl (record {
  kind = u.kind;
  value = u.value;
  preimage = u.preimage;
  fragment = u.fragment;
  item = contains-reverse stack u.preimage u.item;
  preimage_of = u.preimage_of;
  unknown = u.unknown;
})
shown tree assets given stack (inr o) = inr (record {
  key = o.key;
  other = o.other;
  fragment = o.fragment;
  item = contains-reverse stack o.other o.item;
  form = o.form;
  hash = o.hash;
  differs = o.differs;
})

pub fresh_has_item : FreshHasItem
fresh_has_item tree assets checker stack fresh =
    let given = given_with assets checker in
    elim ((splits assets given (all_nodes tree) tree (λ t h. h)).sat (reverse stack) fresh.0) [ inl i ↦ absurd (fresh.1 i) | inr i ↦ shown tree assets given stack i ]
