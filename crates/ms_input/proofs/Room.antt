-- Nothing is against what assets may hold, one after the other.
use Rattle.std.proofs.Common.{◌≡◌, ℕ, zero, suc, ◌<◌, ◌≤◌, ◌&&◌, Bool, true, false, [], ◌∷◌, length, get_or, take, filter, None, Result, Ok, Err, OnOk, if◌then◌else◌, refl, sym, ap, subst, ◌∙◌, arith}
use Rattle.std.specs.Prelude.{⊤}
use Rattle.std.specs.List.{IsDistinct}
use Rattle.std.specs.Str.{bytes_eq}
use Rattle.std.proofs.lemmas.Bool.{or_parts, le-leb, lt-leb}
use Rattle.std.proofs.lemmas.List.{length-take-le}
use Rattle.std.proofs.lemmas.List.Elements.{All-get_or, All-from_recursion}
use Rattle.def_script.specs.Bytes.{Bytes}
use Rattle.def_machine.specs.Stacks.{Pairs, member}
use Rattle.def_assets.specs.Assets.{Assets, IsSignature, same_pair}
use Rattle.def_files.specs.Laws.{AreFewAssets}
use Rattle.ms_held.specs.declared.assets.AddStop.{AddStop}
use Rattle.ms_held.specs.Adding.{another_stop, preimage_stop, Answers}

-- what was added, where nothing but want of memory kept it out
pub on_added : {E F : Type 0} (P : Type 0) (p : Result ⊤ F) (r : Result ⊤ E) → OnOk p P → OnOk r (p ≡ Ok tt) → OnOk r P
on_added P p (Err e) h known = tt
on_added P p (Ok x) h known = subst (λ (o : Result ⊤ _). OnOk o P) known h

-- ---- preimages

pub preimage_room : (assets : Assets) (most : ℕ) (r : Result ⊤ AddStop) → length assets.preimages < most → most ≤ 256 → Answers (preimage_stop assets) r → Answers None r
preimage_room assets most r more few answer =
    let room = lt-leb 256 (length assets.preimages) (omega (arith, more, few)) in
    let none : preimage_stop assets ≡ None = rw room refl in
    subst (λ stop. Answers stop r) none answer

-- ---- signatures

-- of distinct pairs one isn't among those before
absent : (pairs : Pairs) (i : ℕ) (pair : Bytes × Bytes) → IsDistinct same_pair pairs → i < length pairs → pair ≡ get_or pairs i pair
    → member (take i pairs) pair.0 pair.1 ≡ false
unfolding IsDistinct
absent [] i pair distinct below at = absurd (omega (arith, below))
absent (x ∷ xs) zero pair distinct below at = refl
absent (x ∷ xs) (suc i) pair distinct below at =
    let P : Bytes × Bytes → Type 0 = λ y. same_pair x y ≡ false in
    let first : same_pair x pair ≡ false = subst P (sym at) (All-get_or P xs i pair (omega (arith, below)) (All-from_recursion P xs distinct.0)) in
    rw (first, absent xs i pair distinct.1 (omega (arith, below)) at) refl

-- nor among some of these
absent_of_some : (keep : Bytes × Bytes → Bool) (key sig : Bytes) (pairs : Pairs) → member pairs key sig ≡ false → member (filter keep pairs) key sig ≡ false
absent_of_some keep key sig [] h = refl
absent_of_some keep key sig (x ∷ xs) h =
    let parts = or_parts (bytes_eq x.0 key && bytes_eq x.1 sig) (member xs key sig) h in go (keep x) parts.0 (absent_of_some keep key sig xs parts.1)
  where
    go : (b : Bool) → (bytes_eq x.0 key && bytes_eq x.1 sig) ≡ false → member (filter keep xs) key sig ≡ false
        → member (if b then x ∷ filter keep xs else filter keep xs) key sig ≡ false
    go true first rest = rw (first, rest) refl
    go false first rest = rest

few_of_some : (keep : Bytes × Bytes → Bool) (pairs : Pairs) → length (filter keep pairs) ≤ length pairs
few_of_some keep [] = omega arith
few_of_some keep (x ∷ xs) = go (keep x) (few_of_some keep xs)
  where
    go : (b : Bool) → length (filter keep xs) ≤ length xs → length (if b then x ∷ filter keep xs else filter keep xs) ≤ length (x ∷ xs)
    go true few = omega (arith, few)
    go false few = omega (arith, few)

no_stop : (assets : Assets) (key sig : Bytes) → IsSignature sig → length assets.pairs < 256 → member assets.pairs key sig ≡ false → another_stop assets key sig ≡ None
no_stop assets key sig is more new =
    let some = le-leb 1 (length sig) is.some in
    let short = le-leb (length sig) 73 is.few in
    let room = lt-leb 256 (length assets.pairs) more in
    rw (some, short, room, new) refl

-- a pair of few assets may be added to those before it, of which some were kept out
pub pair_room : (all assets : Assets) (keep : Bytes × Bytes → Bool) (i : ℕ) (pair : Bytes × Bytes) → AreFewAssets all → i < length all.pairs → pair ≡ get_or all.pairs i pair
    → assets.pairs ≡ filter keep (take i all.pairs) → another_stop assets pair.0 pair.1 ≡ None
pair_room all assets keep i pair few below at is =
    let own : IsSignature pair.1 = subst (λ (p : Bytes × Bytes). IsSignature p.1) (sym at) (All-get_or (λ (p : Bytes × Bytes). IsSignature p.1) all.pairs i pair below few.held.signatures) in
    let long : length (take i all.pairs) ≡ i = length-take-le i all.pairs (omega (arith, below)) in
    let at_most : length (filter keep (take i all.pairs)) ≤ length (take i all.pairs) = few_of_some keep (take i all.pairs) in
    let same : length assets.pairs ≡ length (filter keep (take i all.pairs)) = ap (λ (l : Pairs). length l) is in
    no_stop assets pair.0 pair.1 own (omega (arith, same, at_most, long, below, few.signatures))
    (ap (λ (l : Pairs). member l pair.0 pair.1) is ∙ absent_of_some keep pair.0 pair.1 (take i all.pairs) (absent all.pairs i pair few.held.distinct below at))

keep_all : (pairs : Pairs) → pairs ≡ filter (λ pair. true) pairs
keep_all [] = refl
keep_all (x ∷ xs) = ap (λ (l : Pairs). x ∷ l) (keep_all xs)

pub next_room : (all assets : Assets) (i : ℕ) (pair : Bytes × Bytes) → AreFewAssets all → i < length all.pairs → pair ≡ get_or all.pairs i pair
    → assets.pairs ≡ take i all.pairs → another_stop assets pair.0 pair.1 ≡ None
next_room all assets i pair few below at is = pair_room all assets (λ p. true) i pair few below at (is ∙ keep_all (take i all.pairs))
