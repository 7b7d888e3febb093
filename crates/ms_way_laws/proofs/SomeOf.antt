-- Lists of some of the secrets of a list, in its order.
use Rattle.std.proofs.Common.{◌≡◌, inl, inr, Bool, true, false, not, List, [], ◌∷◌, map, filter, refl, sym, ◌∙◌, ap, subst, arith}
use Rattle.std.proofs.lemmas.Bool.{cases_Bool, false≢true}
use Rattle.def_ways.specs.Secret.{Secret, same, firsts}
use Rattle.def_ways.specs.Offer.{AreSomeOf, has}
use Rattle.def_ways.specs.Tried.{choices}
use Rattle.ms_way_laws.specs.Listed.{In, AreOnce}
use Rattle.ms_way_laws.proofs.Listed.{in_left, in_right, in_either, once_joined}
use Rattle.ms_way_laws.proofs.Lists.{in_filter, of_filter, filter_step, once_filter, any_of, one_of, in_map, of_map, once_map}
use Rattle.ms_way_laws.proofs.SameTruth.{same_is, same_own}

pub has_in : (s : Secret) (xs : List Secret) → has xs s ≡ true → In s xs
has_in s xs e = let o = one_of (same s) xs e in subst (λ t. In t xs) (sym (same_is s o.one o.passes)) o.listed

pub in_has : (s : Secret) (xs : List Secret) → In s xs → has xs s ≡ true
in_has s xs h = any_of (same s) s xs h (same_own s)

pub agree : (a b : Bool) → (a ≡ true → b ≡ true) → (b ≡ true → a ≡ true) → a ≡ b
agree a b f g = grind arith

pub refused : (a : Bool) → (a ≡ true → ⊥) → a ≡ false
refused true f = absurd (f refl)
refused false f = refl

-- ---- some of a list

pub in_all : (some all : List Secret) → AreSomeOf some all → (s : Secret) → In s some → In s all
in_all [] all are s h = absurd h
in_all (x ∷ some) [] are s h = absurd are
in_all (x ∷ some) (y ∷ all) (inl a) s (inl e) = inl (e ∙ a.0)
in_all (x ∷ some) (y ∷ all) (inl a) s (inr h) = inr (in_all some all a.1 s h)
in_all (x ∷ some) (y ∷ all) (inr a) s h = inr (in_all (x ∷ some) all a s h)

pub some_later : (some all : List Secret) (y : Secret) → AreSomeOf some all → AreSomeOf some (y ∷ all)
some_later [] all y are = tt
some_later (x ∷ some) all y are = inr are

pub filter_some : (test : Secret → Bool) (all : List Secret) → AreSomeOf (filter test all) all
filter_some test [] = tt
filter_some test (x ∷ all) = elim (cases_Bool (test x)) [
  | inl t ↦ subst (λ ys. AreSomeOf ys (x ∷ all)) (sym (filter_step test x all true t)) (inl (refl, filter_some test all))
  | inr f ↦ subst (λ ys. AreSomeOf ys (x ∷ all)) (sym (filter_step test x all false f)) (some_later (filter test all) all x (filter_some test all))
]

-- of a list in which each stands once, two that have the same are the same
pub same_some : (all some others : List Secret) → AreOnce all → AreSomeOf some all → AreSomeOf others all →
    ((s : Secret) → In s some → In s others) → ((s : Secret) → In s others → In s some) → some ≡ others
same_some all [] [] o are be f g = refl
same_some all [] (y ∷ others) o are be f g = absurd (g y (inl refl))
same_some all (x ∷ some) [] o are be f g = absurd (f x (inl refl))
same_some [] (x ∷ some) (y ∷ others) o are be f g = absurd are
same_some (z ∷ all) (x ∷ some) (y ∷ others) o (inl a) (inl b) f g =
    ap (λ w. w ∷ some) (a.0 ∙ sym b.0)
    ∙ ap (λ ws. y ∷ ws) (same_some all some others o.1 a.1 b.1
    (λ s h. rest s y others (λ e. o.0 (subst (λ w. In w all) (e ∙ b.0) (in_all some all a.1 s h))) (f s (inr h)))
    (λ s h. rest s x some (λ e. o.0 (subst (λ w. In w all) (e ∙ a.0) (in_all others all b.1 s h))) (g s (inr h))))
  where
    rest : (s w : Secret) (ws : List Secret) → (s ≡ w → ⊥) → In s (w ∷ ws) → In s ws
    rest s w ws differs (inl e) = absurd (differs e)
    rest s w ws differs (inr h) = h
same_some (z ∷ all) (x ∷ some) (y ∷ others) o (inl a) (inr b) f g =
    absurd (o.0 (in_all (y ∷ others) all b z (subst (λ w. In w (y ∷ others)) a.0 (f x (inl refl)))))
same_some (z ∷ all) (x ∷ some) (y ∷ others) o (inr a) (inl b) f g =
    absurd (o.0 (in_all (x ∷ some) all a z (subst (λ w. In w (x ∷ some)) b.0 (g y (inl refl)))))
same_some (z ∷ all) (x ∷ some) (y ∷ others) o (inr a) (inr b) f g = same_some all (x ∷ some) (y ∷ others) o.1 a b f g

-- ---- each choice

pub some_chosen : (some all : List Secret) → AreSomeOf some all → In some (choices all)
some_chosen [] [] are = inl refl
some_chosen [] (y ∷ all) are = in_right [] (map (λ some. y ∷ some) (choices all)) (choices all) (some_chosen [] all tt)
some_chosen (x ∷ some) [] are = absurd are
some_chosen (x ∷ some) (y ∷ all) (inl a) =
    in_left (x ∷ some) (map (λ some. y ∷ some) (choices all)) (choices all)
    (subst (λ z. In (z ∷ some) (map (λ some. y ∷ some) (choices all))) (sym a.0) (in_map (λ some. y ∷ some) some (choices all) (some_chosen some all a.1)))
some_chosen (x ∷ some) (y ∷ all) (inr a) =
    in_right (x ∷ some) (map (λ some. y ∷ some) (choices all)) (choices all) (some_chosen (x ∷ some) all a)

pub chosen_some : (some all : List Secret) → In some (choices all) → AreSomeOf some all
chosen_some some [] (inl e) = subst (λ ss. AreSomeOf ss []) (sym e) tt
chosen_some some [] (inr h) = absurd h
chosen_some some (y ∷ all) h = elim (in_either some (map (λ some. y ∷ some) (choices all)) (choices all) h) [
  | inl l ↦
      let s = of_map (λ some. y ∷ some) some (choices all) l in
      subst (λ ss. AreSomeOf ss (y ∷ all)) (sym s.is) (inl (refl, chosen_some s.source all s.listed))
  | inr r ↦ some_later some all y (chosen_some some all r)
]

abbrev tail_of : List Secret → List Secret
tail_of [] = []
tail_of (x ∷ xs) = xs

pub once_chosen : (all : List Secret) → AreOnce all → AreOnce (choices all)
once_chosen [] o = ((λ h. h), tt)
once_chosen (y ∷ all) o =
    once_joined (map (λ some. y ∷ some) (choices all)) (choices all)
    (once_map (λ some. y ∷ some) (choices all) (λ a b i j e. ap tail_of e) (once_chosen all o.1)) (once_chosen all o.1)
    (λ some l r.
    let s = of_map (λ some. y ∷ some) some (choices all) l in
    o.0 (in_all some all (chosen_some some all r) y (subst (λ ss. In y ss) (sym s.is) (inl refl))))

-- ---- each where it stands first

pub once_firsts : (xs : List Secret) → AreOnce (firsts xs)
once_firsts [] = tt
once_firsts (x ∷ xs) = (
  (λ h. let f = of_filter (λ other. not (same x other)) x (firsts xs) h in other x (same_own x) f.1),
  once_filter (λ other. not (same x other)) (firsts xs) (once_firsts xs),
)
  where
    other : (x : Secret) → same x x ≡ true → not (same x x) ≡ true → ⊥
    other x e f = false≢true (sym (ap not e) ∙ f)

pub in_firsts : (s : Secret) (xs : List Secret) → In s xs → In s (firsts xs)
in_firsts s [] h = absurd h
in_firsts s (x ∷ xs) h = elim (cases_Bool (same x s)) [
  | inl e ↦ inl (sym (same_is x s e))
  | inr f ↦ inr (in_filter (λ other. not (same x other)) s (firsts xs) (in_firsts s xs (rest h f)) (ap not f))
]
  where
    rest : In s (x ∷ xs) → same x s ≡ false → In s xs
    rest (inl e) f = absurd (false≢true (sym f ∙ subst (λ t. same x t ≡ true) (sym e) (same_own x)))
    rest (inr h) f = h

pub of_firsts : (s : Secret) (xs : List Secret) → In s (firsts xs) → In s xs
of_firsts s [] h = absurd h
of_firsts s (x ∷ xs) (inl e) = inl e
of_firsts s (x ∷ xs) (inr h) = inr (of_firsts s xs (of_filter (λ other. not (same x other)) s (firsts xs) h).0)
