-- The bytes of a point have the form of a key, and each key of an expression has it.
use Rattle.std.proofs.Common.{◌≡◌, ℕ, zero, suc, ◌+◌, ◌%◌, ◌<◌, ◌==◌, Bool, true, false, List, [], ◌∷◌, length, map, take, drop, ◌-◌, ap, refl, subst, arith, eq-eqb, Option, Some, None, Result, Ok, Err, option_and_then}
use Rattle.std.specs.Prelude.{All, ◌&&◌, ◌||◌, IsTrue, ⊤, nat_lt, if◌then◌else◌, ◌^◌, ◌*◌}
use Rattle.std.specs.Option.{option_map}
use Rattle.std.specs.Int.{byte_at, bytes_high_first}
use Rattle.std.proofs.lemmas.List.Elements.{All-nil, All-cons}
use Rattle.def_script.specs.Bytes.{Bytes, IsBytes}
use Rattle.def_script.specs.Key.{is_key}
use Rattle.def_tree.specs.Tree.{Key}
use Rattle.def_tree.specs.Range.{IsKey}
use Rattle.def_curve.specs.Modular.{minus}
use Rattle.def_curve.specs.Curve.{p, n}
use Rattle.def_curve.specs.Point.{Point, infinity, affine, ◌⊕◌, times, generator}
use Rattle.def_curve.specs.Key.{number_of, root, point_of, lift}
use Rattle.def_curve.specs.Encoding.{coordinate, compressed}
use Rattle.def_derive.specs.Child.{Node, finite, child_by, halves, child, descendant}
use Rattle.def_descriptor.specs.Expression.{Named, point, extended, Expression}
use Rattle.def_descriptor.specs.Gives.{number_at, key_at, with_key, keys_at}

-- ---- the bytes of a point

long_bytes : (k n : ℕ) → length (bytes_high_first k n) ≡ k
long_bytes zero n = refl
long_bytes (suc k) n = let rest = long_bytes k n in omega arith

parity_is : (y : ℕ) → (2 + y % 2 == 2 || 2 + y % 2 == 3) ≡ true
parity_is y = go (y % 2) (omega arith)
  where
    go : (z : ℕ) → z < 2 → (2 + z == 2 || 2 + z == 3) ≡ true
    go zero h = refl
    go (suc zero) h = refl
    go (suc (suc z)) h = absurd (omega arith)

key_form : (x y : ℕ) → IsTrue (is_key (compressed (affine x y)))
key_form x y =
    let long : length (coordinate x) ≡ 32 = long_bytes 32 x in
    both (length (compressed (affine x y)) == 33) _ (eq-eqb (length (compressed (affine x y))) 33 (omega arith)) (parity_is y)
  where
    both : (b c : Bool) → b ≡ true → c ≡ true → (b && c) ≡ true
    both true c h k = k
    both false c h k = h

bytes_cons : (b : ℕ) (bytes : Bytes) → b < 256 → IsBytes bytes → IsBytes (b ∷ bytes)
bytes_cons b bytes h rest zero = h
bytes_cons b bytes h rest (suc i) = rest i

byte_small : (k n : ℕ) → byte_at k n < 256
byte_small zero n = omega arith
byte_small (suc k) n = omega arith

bytes_high : (k n : ℕ) → IsBytes (bytes_high_first k n)
bytes_high zero n = λ i. omega arith
bytes_high (suc k) n = bytes_cons (byte_at k n) (bytes_high_first k n) (byte_small k n) (bytes_high k n)

key_bytes : (x y : ℕ) → IsBytes (compressed (affine x y))
key_bytes x y = bytes_cons (2 + y % 2) (coordinate x) (omega arith) (bytes_high 32 x)

pub point_key : (x y : ℕ) → IsKey (compressed (affine x y))
point_key x y = record { form = key_form x y; bytes = key_bytes x y }

-- ---- points with coordinates

abbrev IsFinite : Point → Type 0
IsFinite infinity = ⊥
IsFinite (affine x y) = ⊤

abbrev IsFiniteNode : Option Node → Type 0
IsFiniteNode None = ⊤
IsFiniteNode (Some node) = IsFinite node.point

node_if : (b : Bool) (o : Option Node) → IsFiniteNode o → IsFiniteNode (if b then o else None)
node_if true o h = h
node_if false o h = tt

finite_is : (chain_code : Bytes) (own : Point) → IsFiniteNode (finite chain_code own)
finite_is chain_code infinity = tt
finite_is chain_code (affine x y) = tt

by_halves : (left : ℕ) (right : Bytes) (parent : Point) → IsFiniteNode (child_by left right parent)
unfolding child_by
by_halves left right parent =
    node_if (nat_lt left n) (finite right (times left generator ⊕ parent)) (finite_is right (times left generator ⊕ parent))

child_is : (number : ℕ) (parent : Node) → IsFiniteNode (child number parent)
unfolding child
child_is number parent =
    let digest = halves number parent in
    node_if (nat_lt number (2 ^ 31)) (child_by (number_of (take 32 digest)) (drop 32 digest) parent.point)
    (by_halves (number_of (take 32 digest)) (drop 32 digest) parent.point)

finite_behind : (next : Node → Option Node) (o : Option Node) → ((node : Node) → IsFinite node.point → IsFiniteNode (next node)) → IsFiniteNode o
    → IsFiniteNode (option_and_then next o)
finite_behind next None h k = tt
finite_behind next (Some node) h k = h node k

descendant_is : (numbers : List ℕ) (node : Node) → IsFinite node.point → IsFiniteNode (descendant numbers node)
unfolding descendant
descendant_is [] node h = h
descendant_is (number ∷ numbers) node h = finite_behind (descendant numbers) (child number node) (descendant_is numbers) (child_is number node)

abbrev IsFinitePoint : Option Point → Type 0
IsFinitePoint None = ⊤
IsFinitePoint (Some own) = IsFinite own

point_if : (b : Bool) (o : Option Point) → IsFinitePoint o → IsFinitePoint (if b then o else None)
point_if true o h = h
point_if false o h = tt

lift_is : (x parity : ℕ) → IsFinitePoint (lift x parity)
unfolding lift
lift_is x parity =
    let w = (x * x * x + 7) % p in
    let y = root w in
    point_if (nat_lt x p && (y * y % p == w)) (Some (affine x (if y % 2 == parity then y else minus p 0 y))) tt

point_is : (key : Bytes) → IsFinitePoint (point_of key)
point_is [] = tt
point_is (first ∷ rest) =
    point_if ((length rest == 32) && ((first == 2) || (first == 3))) (lift (number_of rest) (first - 2)) (lift_is (number_of rest) (first - 2))

-- ---- the key of an expression

-- a key that stands in the text has the form of one
abbrev pub IsNamedKey : Named → Type 0
IsNamedKey (point key) = IsKey key
IsNamedKey (extended key ways) = ⊤

abbrev IsSomeKey : Option Key → Type 0
IsSomeKey None = ⊤
IsSomeKey (Some key) = IsKey key

of_point : (own : Point) → IsFinite own → IsKey (compressed own)
of_point infinity h = absurd h
of_point (affine x y) h = point_key x y

of_node : (o : Option Node) → IsFiniteNode o → IsSomeKey (option_map (λ node. compressed node.point) o)
of_node None h = tt
of_node (Some node) h = of_point node.point h

first_node : (numbers : List ℕ) (chain_code : Bytes) (o : Option Point) → IsFinitePoint o
    → IsFiniteNode (option_and_then (descendant numbers) (option_map (λ own. record { point = own; chain_code = chain_code }) o))
first_node numbers chain_code None h = tt
first_node numbers chain_code (Some own) h = descendant_is numbers (record { point = own; chain_code = chain_code }) h

key_is : (branch i : ℕ) (named : Named) → IsNamedKey named → IsSomeKey (key_at branch i named)
key_is branch i (point key) h = h
key_is branch i (extended key ways) h = of_node _ (first_node (map (number_at branch i) ways) key.chain_code (point_of key.key) (point_is key.key))

-- ---- the keys of expressions

abbrev pub AllForms : List Expression → Type 0
AllForms [] = ⊤
AllForms (expression ∷ rest) = IsNamedKey expression.named × AllForms rest

-- there are as many keys as expressions, and each has the form of a key
pub record AreKeys (count : ℕ) (keys : List Key) : Type 0 where
  pub size : length keys ≡ count
  pub forms : All IsKey keys

one_more : (at count : ℕ) (o : Option Key) (r : Result (List Key) ℕ) (keys : List Key) → IsSomeKey o → ((found : List Key) → r ≡ Ok found → AreKeys count found)
    → with_key at o r ≡ Ok keys → AreKeys (suc count) keys
one_more at count None r keys h others e = absurd (cc)
one_more at count (Some key) (Err later) keys h others e = absurd (cc)
one_more at count (Some key) (Ok found) keys h others e =
    let rest = others found refl in
    let same : key ∷ found ≡ keys = cc in
    subst (AreKeys (suc count)) same (record { size = ap suc rest.size; forms = All-cons IsKey key found h rest.forms })

pub keys_are : (branch i : ℕ) (all : List Expression) (keys : List Key) → AllForms all → keys_at branch i all ≡ Ok keys → AreKeys (length all) keys
keys_are branch i [] keys h e = let same : [] ≡ keys = cc in subst (AreKeys 0) same (record { size = refl; forms = All-nil IsKey })
keys_are branch i (expression ∷ rest) keys h e =
    one_more expression.at (length rest) (key_at branch i expression.named) (keys_at branch i rest) keys (key_is branch i expression.named h.0)
    (λ found. keys_are branch i rest found h.1) e
