-- The ways that rows of the satisfaction table take, and the courses that the Scripts of fragments keep within on them,
-- over any children that do so.
use Rattle.std.proofs.Common.{◌≡◌, ◌≢◌, ℕ, ◌+◌, Bool, true, List, [], ◌∷◌, ◌++◌, length, refl, sym, ap, subst, inl, inr, append_assoc, arith}
use Rattle.std.proofs.lemmas.List.{length-append}
use Rattle.def_script.specs.Bytes.{Bytes}
use Rattle.def_script.specs.Instruction.{Instruction}
use Rattle.def_script.specs.Verify.{verified}
use Rattle.def_machine.specs.Stacks.{Stack, bool_bytes}
use Rattle.def_machine.specs.Machine.{Given}
use Rattle.def_types.specs.declared.Base.{Base}
use Rattle.def_types.specs.declared.Base.TheVariants.{B, V, K, W}
use Rattle.def_height.specs.Course.{down, Course, rise}
use Rattle.def_height.specs.Formal.{Way, then}
use Rattle.def_height.proofs.Courses.{ups, downs}
use Rattle.def_height.proofs.Heights.{left_of}
use Rattle.ms_acceptance_laws.proofs.RowWays.{is, followed}
use Rattle.ms_acceptance_laws.proofs.ScriptRise.{rises}
use Rattle.ms_acceptance_laws.proofs.StackEffects.{Effect}
use Rattle.ms_acceptance_laws.proofs.StackValues.{Value}
use Rattle.ms_acceptance_laws.proofs.ForwardBases.{Ends, Beside, split, unit_value}
use Rattle.ms_acceptance_laws.proofs.InstructionEffects.{Does}
use Rattle.ms_acceptance_laws.proofs.WithinCourse.{Keeps, Follows, does_follow, keeps_from, then_keeps, keeps_behind, keeps_verified}
use Rattle.ms_row_laws.proofs.RunLog.{Log}

-- from these items, on top of anything, the instructions of a fragment keep within a course
abbrev pub KeepsOn : Base → Given → List Instruction → Course → (w : Stack) → Type 0
KeepsOn W given c course w = (x : Bytes) (rest : Stack) → Keeps given c course (x ∷ (w ++ rest))
KeepsOn base given c course w = (rest : Stack) → Keeps given c course (w ++ rest)

-- and they lead to what its base type leaves
abbrev pub FollowsOn : Base → (u b : Bool) → Given → List Instruction → Course → (w : Stack) → Type 0
FollowsOn B u b given c course w = (rest : Stack) → (v : Bytes) × (u ≡ true → v ≡ bool_bytes b) × Follows given c course (w ++ rest) (v ∷ rest)
FollowsOn V u b given c course w = (rest : Stack) → Follows given c course (w ++ rest) rest
FollowsOn K u b given c course w = (rest : Stack) → (key : Bytes) × (sig : Bytes) × Follows given c course (w ++ rest) (key ∷ sig ∷ rest)
FollowsOn W u b given c course w = (x : Bytes) (rest : Stack) → (v : Bytes) × (r : Stack) × Beside x v rest r × Follows given c course (x ∷ (w ++ rest)) r

-- a way takes as many items as there are, and its course is kept
pub record Path (given : Given) (base : Base) (c : List Instruction) (v : Way) (w : Stack) : Type 0 where
  pub items : length w ≡ v.items
  pub keeps : KeepsOn base given c v.course w

pub record Child (given : Given) (base : Base) (u b : Bool) (c : List Instruction) (v : Way) (w : Stack) : Type 0 where
  pub items : length w ≡ v.items
  pub follows : FollowsOn base u b given c v.course w

beside_length : (x v : Bytes) (s r : Stack) → Beside x v s r → length r ≡ length s + 2
beside_length x v s r (inl e) = omega (arith, ap length e)
beside_length x v s r (inr e) = omega (arith, ap length e)

-- from what a fragment leaves
pub child_of : (given : Given) (base : Base) (u b : Bool) (c : List Instruction) (f : Effect) (v : Way) (w : Stack) (log : Log) → Does given c f →
    ((rest : Stack) → Ends given.checker base u b f w rest log) → v.items + ups v.course ≡ left_of base + downs v.course →
    Path given base c v w → Child given base u b c v w
child_of given B u b c f v w log does ends leaves p = record {
  items = p.items;
  follows = λ rest. (
    (ends rest).0,
    λ i. unit_value b (ends rest).0 (subst (λ (u : Bool). Value u b (ends rest).0) i (ends rest).1),
    does_follow given c f v.course (w ++ rest) ((ends rest).0 ∷ rest) log does (ends rest).2 (omega (arith, leaves, p.items, length-append w rest))
        (p.keeps rest),
  );
}
child_of given V u b c f v w log does ends leaves p = record {
  items = p.items;
  follows =
      λ rest. does_follow given c f v.course (w ++ rest) rest log does (ends rest).1 (omega (arith, leaves, p.items, length-append w rest)) (p.keeps rest);
}
child_of given K u b c f v w log does ends leaves p = record {
  items = p.items;
  follows = λ rest. (
    (ends rest).0,
    (ends rest).1,
    does_follow given c f v.course (w ++ rest) ((ends rest).0 ∷ (ends rest).1 ∷ rest) (ends rest).2 does (ends rest).4
        (omega (arith, leaves, p.items, length-append w rest)) (p.keeps rest),
  );
}
child_of given W u b c f v w log does ends leaves p = record {
  items = p.items;
  follows = λ x rest. (
    (ends rest x).0,
    (ends rest x).1,
    (ends rest x).3,
    does_follow given c f v.course (x ∷ (w ++ rest)) (ends rest x).1 log does (ends rest x).4
        (omega (arith, leaves, p.items, length-append w rest, beside_length x (ends rest x).0 rest (ends rest x).1 (ends rest x).3)) (p.keeps x rest),
  );
}

pub v_not_w : V ≢ W
v_not_w e = cc

pub b_not_w : B ≢ W
b_not_w e = cc

pub k_not_w : K ≢ W
k_not_w e = cc

-- base types but W
pub keeps_on : (base : Base) (given : Given) (c : List Instruction) (course : Course) (w : Stack) → (base ≢ W) → ((rest : Stack) → Keeps given c course (w ++ rest)) → KeepsOn base given c course w
keeps_on W given c course w n x = absurd (n refl)
keeps_on base given c course w n x = x

pub on_follows : {given : Given} {base : Base} {u b : Bool} {c : List Instruction} {v : Way} {w : Stack} → (base ≢ W)
    → Child given base u b c v w → (rest : Stack) → (to : Stack) × Follows given c v.course (w ++ rest) to
on_follows {base = B} n x rest = ((x.follows rest).0 ∷ rest, (x.follows rest).2)
on_follows {base = V} n x rest = (rest, x.follows rest)
on_follows {base = K} n x rest = ((x.follows rest).0 ∷ (x.follows rest).1 ∷ rest, (x.follows rest).2)
on_follows {base = W} n x rest = absurd (n refl)

-- a value with u
pub unit_follows : {given : Given} {b : Bool} {c : List Instruction} {v : Way} {w : Stack} → (x : Child given B true b c v w) → (rest : Stack)
    → Follows given c v.course (w ++ rest) (bool_bytes b ∷ rest)
unit_follows {given} {b} {c} {v} {w} x rest =
    let y = x.follows rest in
    subst (λ (z : Bytes). Follows given c v.course (w ++ rest) (z ∷ rest)) (y.1 refl) y.2

-- the same path by another name of the Script
pub path_script : {given : Given} {base : Base} {c : List Instruction} {v : Way} {w : Stack} → (d : List Instruction) → c ≡ d → Path given base c v w
    → Path given base d v w
path_script {given} {base} {c} {v} {w} d e p = subst (λ (z : List Instruction). Path given base z v w) e p

-- the items of two
pub both_items : (w above below : Stack) (m n k : ℕ) → w ≡ above ++ below → length above ≡ m → length below ≡ n → k ≡ m + n → length w ≡ k
both_items w above below m n k e i j sum = omega (arith, ap length e, length-append above below, i, j, sum)

pub path_keeps : {given : Given} {base : Base} {c : List Instruction} {v : Way} {w : Stack} → (base ≢ W) → (p : Path given base c v w)
    → (rest : Stack) → Keeps given c v.course (w ++ rest)
path_keeps {base = W} n p = absurd (n refl)
path_keeps {base = base} n p = p.keeps

-- a way, and then another
then_path : {given : Given} (base : Base) (x y : Way) (w above below : Stack) (c : List Instruction) → (base ≢ W) → w ≡ above ++ below →
    length above ≡ x.items → length below ≡ y.items → ((rest : Stack) → Keeps given c (x.course ++ y.course) (above ++ (below ++ rest))) → Path given base c
    (then x y) w
then_path {given} base x y w above below c n e i j keeps = record {
  items = both_items w above below x.items y.items (x.items + y.items) e i j refl;
  keeps = keeps_on base given c (x.course ++ y.course) w n (λ rest. keeps_from (split w above below rest e) (keeps rest));
}

-- and these steps behind a way
pub followed_path : {given : Given} (base : Base) (v : Way) (w : Stack) (steps : Course) (c : List Instruction) → (base ≢ W) → length w ≡ v.items →
    ((rest : Stack) → Keeps given c (v.course ++ steps) (w ++ rest)) → Path given base c (followed v steps) w
followed_path {given} base v w steps c n i keeps = record { items = omega (arith, i); keeps = keeps_on base given c (v.course ++ steps) w n keeps }

-- `and_v`
pub and_v_path : {given : Given} {base : Base} {t : Bool} {cx cy : List Instruction} {x y : Way} {above below : Stack} → (w : Stack) → (base ≢ W)
    → w ≡ above ++ below →
    Child given V t true cx x above → Path given base cy y below → Path given base (cx ++ cy) (then x y) w
and_v_path {base = base} {x = x} {y = y} {above = above} {below = below} w n e p q =
    then_path base x y w above below _ n e p.items q.items (λ rest. then_keeps (p.follows (below ++ rest)) (path_keeps n q rest))

-- a child with u, and then instructions from its truth value
pub unit_then : {given : Given} {b : Bool} {cx : List Instruction} {x : Way} {above : Stack} → (base : Base) (w below : Stack) → (base ≢ W)
    → w ≡ above ++ below →
    Child given B true b cx x above → (steps : Course) (y : Way) → length below ≡ y.items → (k : List Instruction) →
    ((rest : Stack) → Keeps given k (steps ++ y.course) (bool_bytes b ∷ (below ++ rest))) → Path given base (cx ++ k) (then (followed x steps) y) w
unit_then {given} {b} {cx} {x} {above} base w below n e p steps y items k keeps =
    then_path base (followed x steps) y w above below (cx ++ k) n e (omega (arith, p.items)) items
    (λ rest. subst (λ (course : Course). Keeps given (cx ++ k) course (above ++ (below ++ rest))) (sym (append_assoc x.course steps y.course))
    (then_keeps (unit_follows p (below ++ rest)) (keeps rest)))

-- and nothing more
pub unit_end : {given : Given} {b : Bool} {cx : List Instruction} {x : Way} {w : Stack} → (base : Base) → (base ≢ W) → Child given B true b cx x w
    → (steps : Course) (k : List Instruction) →
    ((rest : Stack) → Keeps given k steps (bool_bytes b ∷ rest)) → Path given base (cx ++ k) (followed x steps) w
unit_end {x = x} {w = w} base n p steps k keeps = followed_path base x w steps _ n p.items (λ rest. then_keeps (unit_follows p rest) (keeps rest))

-- an item that is taken first, and then those of a way
pub begun_path : {given : Given} (base : Base) (w above below : Stack) (item : Bytes) → (base ≢ W) → w ≡ above ++ below → above ≡ item ∷ [] →
    (steps : Course) (y : Way) → length below ≡ y.items → (k : List Instruction) →
    ((rest : Stack) → Keeps given k (steps ++ y.course) (item ∷ (below ++ rest))) → Path given base k (then (is 1 steps) y) w
begun_path base w above below item n e i steps y items k keeps =
    then_path base (is 1 steps) y w above below k n e (ap length i) items (λ rest. keeps_from (ap (λ (v : Stack). v ++ (below ++ rest)) i) (keeps rest))

-- steps that take no item, and then a way
pub led_path : {given : Given} (base : Base) (w : Stack) → (base ≢ W) → (steps : Course) (y : Way) → length w ≡ y.items → (k : List Instruction) →
    ((rest : Stack) → Keeps given k (steps ++ y.course) (w ++ rest)) → Path given base k (then (is 0 steps) y) w
led_path base w n steps y items k keeps = then_path base (is 0 steps) y w [] w k n refl refl items keeps

-- the items of the row alone
pub is_path : {given : Given} (base : Base) (items : ℕ) (course : Course) (w : Stack) → (base ≢ W) → length w ≡ items → (k : List Instruction) →
    ((rest : Stack) → Keeps given k course (w ++ rest)) → Path given base k (is items course) w
is_path {given} base items course w n long k keeps = record { items = long; keeps = keeps_on base given k course w n keeps }

-- instructions behind a child that raise nothing
pub behind_path : {given : Given} {base : Base} {c : List Instruction} {v : Way} {w : Stack} → (other : Base) → (base ≢ W) → (other ≢ W)
    → (steps : Course) (d : List Instruction) → rises d ≡ 0 → rise steps ≡ 0 →
    Path given base c v w → Path given other (c ++ d) (followed v steps) w
behind_path {given} {base} {c} {v} {w} other m n steps d flat level p =
    followed_path other v w steps (c ++ d) n p.items (λ rest. keeps_behind given c d v.course steps (w ++ rest) flat level (path_keeps m p rest))

-- `v:X`
pub wrap_v_path : {given : Given} {c : List Instruction} {v : Way} {w : Stack} → Path given B c v w → Path given V (verified c) (followed v (down 1 ∷ [])) w
wrap_v_path {given} {c} {v} {w} p =
    followed_path V v w (down 1 ∷ []) (verified c) v_not_w p.items (λ rest. keeps_verified given c v.course (down 1 ∷ []) (w ++ rest) refl (p.keeps rest))

-- `and_b`, `or_b`
pub two_path : {given : Given} {u b : Bool} {cx cy : List Instruction} {x y : Way} {above below : Stack} → (w : Stack) (d : List Instruction)
    → w ≡ above ++ below → rises d ≡ 0 →
    Child given B u b cx x above → Path given W cy y below → Path given B ((cx ++ cy) ++ d) (followed (then x y) (down 1 ∷ [])) w
two_path {given} {u} {b} {cx} {cy} {x} {y} {above} {below} w d e flat p q =
    followed_path B (then x y) w (down 1 ∷ []) ((cx ++ cy) ++ d) b_not_w (both_items w above below x.items y.items (x.items + y.items) e p.items q.items refl)
    (λ rest.
    keeps_behind given (cx ++ cy) d (x.course ++ y.course) (down 1 ∷ []) (w ++ rest) flat refl
    (keeps_from (split w above below rest e) (then_keeps (p.follows (below ++ rest)).2 (q.keeps (p.follows (below ++ rest)).0 rest))))
