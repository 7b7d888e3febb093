-- The locks of one transaction are enough for the policy of a sane miniscript.
use Rattle.std.proofs.Common.{◌≡◌, ℕ, zero, suc, ◌+◌, ◌<◌, ◌≤◌, nat_le, Bool, true, false, not, ◌&&◌, ◌||◌, ◌⊎◌, List, [], ◌∷◌, ◌++◌, map, Option, Some, None, refl, sym, ◌∙◌, ap, inl, inr, arith, lit<, ◌^◌, if◌then◌else◌}
use Rattle.std.specs.Prelude.{unwrap_or}
use Rattle.std.specs.List.{list_any, position_from}
use Rattle.std.proofs.lemmas.Bool.{false≢true, cases_Bool, or_parts, leb-true, le-leb}
use Rattle.std.proofs.lemmas.Bool.Decides.{nat_tests}
use Rattle.std.proofs.lemmas.Option.{none-some}
use Rattle.std.proofs.lemmas.List.Folds.{list_any-append}
use Rattle.def_machine.specs.Locks.{older_holds, after_holds}
use Rattle.def_tree.specs.declared.Two.{Two}
use Rattle.def_tree.specs.declared.Two.TheVariants as kind
use Rattle.def_tree.specs.Tree.{Tree, Trees, Key, just_0, just_1, pk_k, pk_h, older, after, hash, and_or, two, thresh, multi, wrap, none, more}
use Rattle.def_tree.specs.Nodes.{all_nodes, nodes_of_all}
use Rattle.def_types.specs.Typed.{IsTyped, AreTyped}
use Rattle.def_types.proofs.Facts.{typed-after}
use Rattle.def_sane.specs.Locks.{kinds, kinds_of_all, kinds_of_each, conflict, some_conflict, mixes, is_relative_time, is_absolute_time}
use Rattle.def_sane.proofs.Meanings.{valid_means, sane_means}
use Rattle.def_policy.specs.Policy as policy
use Rattle.def_policy.specs.Policy.{policies_of}
use Rattle.def_policy.specs.Plain.{plain, plain_each}
use Rattle.def_policy.specs.Truth.{Facts, how_many, is_true, truths, with_keys}
use Rattle.def_policy.proofs.Truths.{simple_keeps_truth}
use Rattle.ms_policy_laws.specs.Locks.{with_locks, OneTransactionMeets}
use Rattle.ms_policy_laws.proofs.LockKinds.{Fits, Used, Chosen, chosen_none, chosen_wider, chosen_both, below_left, below_right, below_first_two, below_last, agree, agree_all}
use Rattle.ms_policy_laws.proofs.Says.{both_true, either_left, either_right}
use Rattle.ms_policy_laws.proofs.LocksHeld.{latest, older_held, after_held}

-- nothing of a list passes a test
none_passes : (test : Tree → Bool) (i : ℕ) (xs : List Tree) → position_from test i xs ≡ None → list_any test xs ≡ false
none_passes test i [] e = refl
none_passes test i (x ∷ xs) e = elim (cases_Bool (test x)) [
  | inl t ↦ absurd (none-some i (sym (rw t at e)))
  | inr f ↦ rw f (none_passes test (i + 1) xs (rw f at e))
]

-- nor of two that follow one another
abbrev NoMix : List Tree → Type 0
NoMix xs = list_any mixes xs ≡ false

split : (xs ys : List Tree) → NoMix (xs ++ ys) → NoMix xs × NoMix ys
split xs ys e = or_parts (list_any mixes xs) (list_any mixes ys) (sym (list_any-append mixes xs ys) ∙ e)

last : (x : Tree) → NoMix (x ∷ []) → mixes x ≡ false
last x e = (or_parts (mixes x) false e).0

module _ (signers : List Key) where
  abbrev every : Facts
  every = with_keys signers

  abbrev one : Bool → Bool → Facts
  one x y = with_locks signers (latest x y)

  abbrev Met : Tree → Bool → Bool → Type 0
  Met t x y = is_true (one x y) (plain t) ≡ true

  all_two : (a b : Bool) → (a && (b && true)) ≡ true → (a ≡ true) × (b ≡ true)
  all_two a b e = grind arith

  any_two : (a b : Bool) → (a || (b || false)) ≡ true → (a ≡ true) ⊎ (b ≡ true)
  any_two a b e = grind arith

  -- keys sign alike
  keys_alike : (x y : Bool) (keys : List Key) → truths (one x y) (policies_of (map policy.key keys)) ≡ truths every (policies_of (map policy.key keys))
  keys_alike x y [] = refl
  keys_alike x y (key ∷ keys) = ap (λ bs. every.signs key ∷ bs) (keys_alike x y keys)

  more_true : (b c : Bool) (m n : ℕ) → (b ≡ true → c ≡ true) → m ≤ n → (if b then 1 else 0) + m ≤ (if c then 1 else 0) + n
  more_true b c m n f h = grind arith

  one_true : (b : Bool) (m : ℕ) → b ≡ true → 1 ≤ (if b then 1 else 0) + m
  one_true b m e = grind arith

  still_one : (b : Bool) (m : ℕ) → 1 ≤ m → 1 ≤ (if b then 1 else 0) + m
  still_one b m h = grind arith

  of_others : (b : Bool) (m : ℕ) → b ≡ false → 1 ≤ (if b then 1 else 0) + m → 1 ≤ m
  of_others b m e h = grind arith

  used_own : (b : Bool) → Used (Some b) b (not b)
  used_own b = grind arith

  -- so many children are met
  abbrev AsMany : Trees → Bool → Bool → Type 0
  AsMany xs a b = how_many (truths every (plain_each xs)) ≤ how_many (truths (one a b) (plain_each xs))

  abbrev Some_of : Trees → Bool → Bool → Type 0
  Some_of xs a b = 1 ≤ how_many (truths (one a b) (plain_each xs))

  abbrev Many : Trees → ℕ → Bool → Bool → Type 0
  Many xs k a b = nat_le k (how_many (truths (one a b) (plain_each xs))) ≡ true

  same_kinds : (xs : Trees) (P Q : Bool → Bool → Type 0) → ((a b : Bool) → P a b → Q a b) → Chosen (kinds_of_all xs) P → Chosen (kinds_of_all xs) Q
  same_kinds xs P Q f c = chosen_wider (kinds_of_all xs) (kinds_of_all xs) P Q (record { rt = λ e. e; rh = λ e. e; at = λ e. e; ah = λ e. e }) f c

  either_first : (k : Two) (x y : Tree) → ((a b : Bool) → Met x a b → Met (two k x y) a b) → Chosen (kinds x) (Met x) → Chosen (kinds (two k x y)) (Met (two k x y))
  either_first k x y f c = chosen_wider (kinds x) (kinds (two k x y)) (Met x) (Met (two k x y)) (below_left (kinds x) (kinds y)) f c

  either_second : (k : Two) (x y : Tree) → ((a b : Bool) → Met y a b → Met (two k x y) a b) → Chosen (kinds y) (Met y) → Chosen (kinds (two k x y)) (Met (two k x y))
  either_second k x y f c = chosen_wider (kinds y) (kinds (two k x y)) (Met y) (Met (two k x y)) (below_right (kinds x) (kinds y)) f c

  -- none or one
  at_most_one : (xs : Trees) (k : ℕ) → nat_le 2 k ≡ false → nat_le k (how_many (truths every (plain_each xs))) ≡ true
      → (1 ≤ how_many (truths every (plain_each xs)) → Chosen (kinds_of_all xs) (Some_of xs)) → Chosen (kinds_of_all xs) (Many xs k)
  at_most_one xs zero few e pick = chosen_none (kinds_of_all xs) (Many xs 0) (λ a b. le-leb 0 _ (omega arith))
  at_most_one xs (suc k) few e pick =
      let h = leb-true (suc k) _ e in
      let l : suc k ≤ 1 = grind (arith, nat_tests) in
      same_kinds xs (Some_of xs) (Many xs (suc k)) (λ a b m. le-leb (suc k) _ (omega (arith, l, m))) (pick (omega (arith, h)))

  mutual
    choose : (t : Tree) → IsTyped t → NoMix (all_nodes t) → is_true every (plain t) ≡ true → Chosen (kinds t) (Met t)
    choose just_0 typed n e = absurd (false≢true e)
    choose just_1 typed n e = chosen_none (kinds just_1) (Met just_1) (λ x y. refl)
    choose (pk_k key) typed n e = chosen_none (kinds (pk_k key)) (Met (pk_k key)) (λ x y. e)
    choose (pk_h key) typed n e = chosen_none (kinds (pk_h key)) (Met (pk_h key)) (λ x y. e)
    choose (older m) typed n e = record {
      r = Some (is_relative_time m);
      a = None;
      r_used = used_own (is_relative_time m);
      a_used = tt;
      holds = λ x y f g. ap (λ b. older_holds m (latest b y)) f ∙ older_held m y;
    }
    choose (after m) typed n e = record {
      r = None;
      a = Some (is_absolute_time m);
      r_used = tt;
      a_used = used_own (is_absolute_time m);
      holds = λ x y f g. ap (λ b. after_holds m (latest x b)) g ∙ after_held m x (typed-after m typed).1;
    }
    choose (hash how value) typed n e = chosen_none (kinds (hash how value)) (Met (hash how value)) (λ x y. refl)
    choose (and_or x y z) typed n e =
        let s = split (all_nodes x ++ all_nodes y ++ all_nodes z) (and_or x y z ∷ []) n in
        let r = split (all_nodes x ++ all_nodes y) (all_nodes z) s.0 in
        let q = split (all_nodes x) (all_nodes y) r.0 in
        elim (any_two (is_true every (plain x) && (is_true every (plain y) && true)) (is_true every (plain z)) e) [
          | inl h ↦
              let p = all_two (is_true every (plain x)) (is_true every (plain y)) h in
              chosen_wider _ (kinds (and_or x y z)) (λ a b. Met x a b × Met y a b) (Met (and_or x y z)) (below_first_two (kinds x) (kinds y) (kinds z))
              (λ a b both. either_left _ (is_true (one a b) (plain z)) (both_true (is_true (one a b) (plain x)) (is_true (one a b) (plain y)) both.0 both.1))
              (chosen_both (kinds x) (kinds y) (Met x) (Met y) (λ a b. Met x a b × Met y a b) (agree (kinds x) (kinds y) (last (and_or x y z) s.1)) (λ a b f g. (f, g))
              (choose x typed.0 q.0 p.0) (choose y typed.1 q.1 p.1))
          | inr h ↦
              chosen_wider (kinds z) (kinds (and_or x y z)) (Met z) (Met (and_or x y z)) (below_last (kinds x) (kinds y) (kinds z))
              (λ a b f. either_right _ (is_true (one a b) (plain z)) f) (choose z typed.2 r.1 h)
        ]
    choose (two kind.AndV x y) typed n e =
        let s = split (all_nodes x ++ all_nodes y) (two kind.AndV x y ∷ []) n in
        let q = split (all_nodes x) (all_nodes y) s.0 in
        let p = all_two (is_true every (plain x)) (is_true every (plain y)) e in
        chosen_both (kinds x) (kinds y) (Met x) (Met y) (Met (two kind.AndV x y)) (agree (kinds x) (kinds y) (last (two kind.AndV x y) s.1))
        (λ a b f g. both_true (is_true (one a b) (plain x)) (is_true (one a b) (plain y)) f g) (choose x typed.0 q.0 p.0) (choose y typed.1 q.1 p.1)
    choose (two kind.AndB x y) typed n e =
        let s = split (all_nodes x ++ all_nodes y) (two kind.AndB x y ∷ []) n in
        let q = split (all_nodes x) (all_nodes y) s.0 in
        let p = all_two (is_true every (plain x)) (is_true every (plain y)) e in
        chosen_both (kinds x) (kinds y) (Met x) (Met y) (Met (two kind.AndB x y)) (agree (kinds x) (kinds y) (last (two kind.AndB x y) s.1))
        (λ a b f g. both_true (is_true (one a b) (plain x)) (is_true (one a b) (plain y)) f g) (choose x typed.0 q.0 p.0) (choose y typed.1 q.1 p.1)
    choose (two k x y) typed n e =
        let q = split (all_nodes x) (all_nodes y) (split (all_nodes x ++ all_nodes y) (two k x y ∷ []) n).0 in
        elim (any_two (is_true every (plain x)) (is_true every (plain y)) e) [
          | inl h ↦ either_first k x y (λ a b f. either_left (is_true (one a b) (plain x)) (is_true (one a b) (plain y)) f) (choose x typed.0 q.0 h)
          | inr h ↦ either_second k x y (λ a b f. either_right (is_true (one a b) (plain x)) (is_true (one a b) (plain y)) f) (choose y typed.1 q.1 h)
        ]
    choose (thresh k xs) typed n e =
        let s = split (nodes_of_all xs) (thresh k xs ∷ []) n in
        elim (cases_Bool (nat_le 2 k)) [
          | inl several ↦
              let h = leb-true k _ e in
              same_kinds xs (AsMany xs) (Many xs k) (λ a b m. le-leb k _ (omega (arith, h, m)))
              (each xs typed.0 s.0 (rw several at (last (thresh k xs) s.1)))
          | inr few ↦ at_most_one xs k few e (pick xs typed.0 s.0)
        ]
    choose (multi k keys) typed n e =
        chosen_none (kinds (multi k keys)) (Met (multi k keys)) (λ x y. ap (λ bs. nat_le k (how_many bs)) (keys_alike x y keys) ∙ e)
    choose (wrap kind x) typed n e = choose x typed.0 (split (all_nodes x) (wrap kind x ∷ []) n).0 e

    each : (xs : Trees) → AreTyped xs → NoMix (nodes_of_all xs) → some_conflict (kinds_of_each xs) ≡ false → Chosen (kinds_of_all xs) (AsMany xs)
    each none typed n c = chosen_none (kinds_of_all none) (AsMany none) (λ x y. omega arith)
    each (more x xs) typed n c =
        let s = split (all_nodes x) (nodes_of_all xs) n in
        let p = or_parts (list_any (conflict (kinds x)) (kinds_of_each xs)) (some_conflict (kinds_of_each xs)) c in
        elim (cases_Bool (is_true every (plain x))) [
          | inl t ↦
              chosen_both (kinds x) (kinds_of_all xs) (Met x) (AsMany xs) (AsMany (more x xs)) (agree_all (kinds x) xs p.0)
              (λ a b h m. more_true (is_true every (plain x)) (is_true (one a b) (plain x)) _ _ (λ f. h) m) (choose x typed.0 s.0 t) (each xs typed.1 s.1 p.1)
          | inr f ↦
              chosen_wider (kinds_of_all xs) (kinds_of_all (more x xs)) (AsMany xs) (AsMany (more x xs)) (below_right (kinds x) (kinds_of_all xs))
              (λ a b m. more_true (is_true every (plain x)) (is_true (one a b) (plain x)) _ _ (λ t. absurd (false≢true (sym f ∙ t))) m) (each xs typed.1 s.1 p.1)
        ]

    pick : (xs : Trees) → AreTyped xs → NoMix (nodes_of_all xs) → 1 ≤ how_many (truths every (plain_each xs)) → Chosen (kinds_of_all xs) (Some_of xs)
    pick none typed n h = absurd (omega (arith, h))
    pick (more x xs) typed n h =
        let s = split (all_nodes x) (nodes_of_all xs) n in
        elim (cases_Bool (is_true every (plain x))) [
          | inl t ↦
              chosen_wider (kinds x) (kinds_of_all (more x xs)) (Met x) (Some_of (more x xs)) (below_left (kinds x) (kinds_of_all xs))
              (λ a b f. one_true (is_true (one a b) (plain x)) _ f) (choose x typed.0 s.0 t)
          | inr f ↦
              chosen_wider (kinds_of_all xs) (kinds_of_all (more x xs)) (Some_of xs) (Some_of (more x xs)) (below_right (kinds x) (kinds_of_all xs))
              (λ a b m. still_one (is_true (one a b) (plain x)) _ m) (pick xs typed.1 s.1 (of_others (is_true every (plain x)) _ f h))
        ]

fits_wanted : (o : Option Bool) → Fits o (unwrap_or o false)
fits_wanted o = grind arith

sequence_fits : (x y : Bool) → (latest x y).sequence < 2 ^ 32
sequence_fits x y = grind arith

locktime_fits : (x y : Bool) → (latest x y).locktime < 2 ^ 32
locktime_fits x y = grind arith

pub one_transaction_meets : OneTransactionMeets
one_transaction_meets tree signers writable sane e =
    let m = (sane_means tree).0 sane in
    let v = (valid_means tree).0 m.0 in
    let c = choose signers tree v.0 (none_passes mixes 0 (all_nodes tree) m.3) (sym (simple_keeps_truth (with_keys signers) (plain tree)) ∙ e) in
    let x = unwrap_or c.r false in
    let y = unwrap_or c.a false in
    record {
      locks = latest x y;
      version = lit< tt;
      sequence = sequence_fits x y;
      locktime = locktime_fits x y;
      met = simple_keeps_truth (with_locks signers (latest x y)) (plain tree) ∙ c.holds x y (fits_wanted c.r) (fits_wanted c.a);
    }
