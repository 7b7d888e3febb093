-- The kinds of a threshold's children, one after the other.
use Rattle.std.proofs.Common.{◌≡◌, Bool, true, false, ◌&&◌, ◌||◌, List, [], ◌∷◌, ◌++◌, refl, sym, ◌∙◌, ap}
use Rattle.std.specs.List.{list_any}
use Rattle.std.proofs.lemmas.List.Folds.{list_any-append}
use Rattle.std.proofs.Math.Bool.{or_assoc, or-false}
use Rattle.def_sane.specs.Locks.{Kinds, no_kinds, union, conflict, some_conflict}
use Rattle.ms_mixing.specs.declared.kinds.Together.{Together}
use Rattle.ms_mixing.specs.Scaffolding.Mixing.{union_all, together}

exchange : (a b c d : Bool) → ((a || b) || (c || d)) ≡ ((a || c) || (b || d))
exchange true b c d = refl
exchange false true true d = refl
exchange false true false d = refl
exchange false false c d = refl

either_and : (a b x : Bool) → ((a || b) && x) ≡ ((a && x) || (b && x))
either_and true true true = refl
either_and true true false = refl
either_and true false true = refl
either_and true false false = refl
either_and false b x = refl

exchanged : (a b c d e f g h : Bool) → ((((a || b) || (c || d)) || (e || f)) || (g || h)) ≡ ((((a || c) || e) || g) || (((b || d) || f) || h))
exchanged a b c d e f g h =
    rw (exchange a b c d)
    (rw (exchange (a || c) (b || d) e f)
    (exchange ((a || c) || e) ((b || d) || f) g h))

-- what conflicts with a union conflicts with one of its parts
conflict-union : (a b x : Kinds) → conflict (union a b) x ≡ (conflict a x || conflict b x)
conflict-union a b x =
    rw (either_and a.relative_time b.relative_time x.relative_height)
    (rw (either_and a.relative_height b.relative_height x.relative_time)
    (rw (either_and a.absolute_time b.absolute_time x.absolute_height)
    (rw (either_and a.absolute_height b.absolute_height x.absolute_time)
    (exchanged
    (a.relative_time && x.relative_height) (b.relative_time && x.relative_height)
    (a.relative_height && x.relative_time) (b.relative_height && x.relative_time)
    (a.absolute_time && x.absolute_height) (b.absolute_time && x.absolute_height)
    (a.absolute_height && x.absolute_time) (b.absolute_height && x.absolute_time)))))

union-union : (a b c : Kinds) → union (union a b) c ≡ union a (union b c)
union-union a b c = simp or_assoc

union-no_kinds : (a : Kinds) → union a no_kinds ≡ a
union-no_kinds a = simp or-false

union_all_snoc : (xs : List Kinds) (x : Kinds) → union_all (xs ++ x ∷ []) ≡ union (union_all xs) x
union_all_snoc [] x = union-no_kinds x
union_all_snoc (y ∷ xs) x = ap (union y) (union_all_snoc xs x) ∙ sym (union-union y (union_all xs) x)

some_conflict_snoc : (xs : List Kinds) (x : Kinds) → some_conflict (xs ++ x ∷ []) ≡ (some_conflict xs || conflict (union_all xs) x)
some_conflict_snoc [] x = refl
some_conflict_snoc (y ∷ xs) x =
    rw (list_any-append (conflict y) xs (x ∷ []))
    (rw (some_conflict_snoc xs x)
    (rw (or-false (conflict y x))
    (rw (conflict-union y (union_all xs) x)
    (exchange (list_any (conflict y) xs) (conflict y x) (some_conflict xs) (conflict (union_all xs) x)))))

-- so each child is compared with the union of those before it
pub one_more : (t : Together) (each : List Kinds) (x : Kinds) (kinds : Kinds) (is_mixed : Bool) → t ≡ together each → kinds ≡ union t.kinds x → is_mixed ≡ (t.is_mixed || conflict t.kinds x)
    → record { kinds = kinds; is_mixed = is_mixed } ≡ together (each ++ x ∷ [])
one_more t each x kinds is_mixed is kinds_is mixed_is =
    rw kinds_is (rw mixed_is (rw is (rw (union_all_snoc each x) (rw (some_conflict_snoc each x) refl))))
