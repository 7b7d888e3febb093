-- What parts of a satisfaction weigh at most.
use Rattle.std.proofs.Common.{◌≡◌, ℕ, zero, suc, ◌+◌, ◌*◌, ◌^◌, ◌<◌, ◌≤◌, nat_lt, Bool, true, false, List, [], ◌∷◌, map, reverse, replicate, Option, Some, None, length, All, refl, sym, ◌∙◌, ap, subst, arith, if◌then◌else◌}
use Rattle.std.specs.Prelude.{⊤}
use Rattle.std.specs.List.{find}
use Rattle.std.specs.Option.{option_map}
use Rattle.std.proofs.lemmas.List.Elements.{All-head, All-tail}
use Rattle.def_script.specs.Bytes.{Bytes}
use Rattle.def_machine.specs.Stacks.{Stack}
use Rattle.def_hash.specs.declared.HashKind.{HashKind}
use Rattle.def_hash.specs.Hash.{digest_of}
use Rattle.std.specs.Str.{bytes_eq}
use Rattle.def_tree.specs.Tree.{Key, Trees, none, more}
use Rattle.def_tree.specs.Range.{count}
use Rattle.def_tree.specs.InRange.{MOST_MEASURE}
use Rattle.def_assets.proofs.Shortest.{found_is_held}
use Rattle.def_assets.specs.Assets.{Assets, AreAssets, IsSignature, IsPreimage, sig_of, known}
use Rattle.def_script.specs.Witness.{weight}
use Rattle.def_satisfaction.specs.Rows.{EMPTY}
use Rattle.def_choice.specs.Sets.{sets}
use Rattle.def_choice.specs.Least.{item, both, lighter, least}
use Rattle.def_choice.specs.Cheapest.{cheapest_children, signatures, stack_of}
use Rattle.def_choice.proofs.Weights.{weight-append, weight-reverse}
use Rattle.def_choice.proofs.Counted.{counted}
use Rattle.ms_chosen.specs.Scaffolding.Costs.{weight_of}
use Rattle.ms_choice.specs.Numbers.{IsLightOption}
use Rattle.ms_chosen.specs.Scaffolding.Children.{children_of_keys}
use Rattle.ms_chosen.proofs.Chosen.{choose, chosen_is}
use Rattle.ms_chosen.proofs.Keys.{signatures_are}

abbrev pub Within : ℕ → Option Stack → Type 0
Within n None = ⊤
Within n (Some v) = weight v ≤ n

pub weaker : (m n : ℕ) (o : Option Stack) → m ≤ n → Within m o → Within n o
weaker m n None le h = tt
weaker m n (Some v) le h = omega (arith, h)

pub within_both : (m n : ℕ) (o p : Option Stack) → Within m o → Within n p → Within (m + n) (both o p)
within_both m n None p a b = tt
within_both m n (Some v) None a b = tt
within_both m n (Some v) (Some w) a b = omega (arith, a, b, weight-append w v)

within_lighter : (n : ℕ) (o p : Option Stack) → Within n o → Within n p → Within n (lighter o p)
within_lighter n None p a b = b
within_lighter n (Some v) None a b = a
within_lighter n (Some v) (Some w) a b = go (nat_lt (weight w) (weight v))
  where
    go : (test : Bool) → Within n (if test then Some w else Some v)
    go true = b
    go false = a

-- the first of two options
pub within_two : (n : ℕ) (o p : Option Stack) → Within n o → Within n p → Within n (least (o ∷ p ∷ []))
within_two n o p a b = within_lighter n o (lighter p None) a (within_lighter n p None b tt)

pub within_counted : (m n : ℕ) (sat dsat : Option Stack) (others : ℕ → Option Stack) (k : ℕ) → Within m sat → Within m dsat → ((j : ℕ) → Within n (others j))
    → Within (n + m) (counted sat dsat others k)
within_counted m n sat dsat others zero s d o = within_both n m (others zero) dsat (o zero) d
within_counted m n sat dsat others (suc k) s d o =
    within_lighter (n + m) (both (others k) sat) (both (others (suc k)) dsat) (within_both n m (others k) sat (o k) s) (within_both n m (others (suc k)) dsat (o (suc k)) d)

within_turned : (n : ℕ) (o : Option Stack) → Within n o → Within n (option_map reverse o)
within_turned n None h = tt
within_turned n (Some v) h = omega (arith, h, weight-reverse v)

-- what is found is one of those that were looked through
module _ {X : Type 0} (P : X → Type 0) where
  abbrev Found : Option X → Type 0
  Found None = ⊤
  Found (Some x) = P x

  found : (test : X → Bool) (xs : List X) → All P xs → Found (find test xs)
  found test [] all = tt
  found test (x ∷ xs) all = go (test x) (found test xs (All-tail P x xs all))
    where
      go : (b : Bool) → Found (find test xs) → Found (if b then Some x else find test xs)
      go true rest = All-head P x xs all
      go false rest = rest

-- a held signature, and a known preimage
pub sig_within : (assets : Assets) → AreAssets assets → (key : Key) → Within 74 (item (sig_of assets key))
sig_within assets are key = go (sig_of assets key) refl
  where
    go : (o : Option Bytes) → sig_of assets key ≡ o → Within 74 (item o)
    go None e = tt
    go (Some sig) e =
        let held = found_is_held assets.pairs key sig e in
        let fits : IsSignature sig = subst (λ pair. IsSignature pair.1) held.2 (are.signatures held.0 (key, sig) held.1) in
        let f = fits.few in
        omega (arith, f)

pub known_within : (assets : Assets) → AreAssets assets → (kind : HashKind) (value : Bytes) → Within 33 (item (known assets kind value))
known_within assets are kind value = go (known assets kind value) (found IsPreimage (λ preimage. bytes_eq (digest_of kind preimage) value) assets.preimages are.preimages)
  where
    go : (o : Option Bytes) → Found IsPreimage o → Within 33 (item o)
    go None h = tt
    go (Some preimage) h = let f = h.length in omega (arith, f)

pub within_if : (n : ℕ) (test : Bool) (o p : Option Stack) → Within n o → Within n p → Within n (if test then o else p)
within_if n true o p a b = a
within_if n false o p a b = b

pub weight-replicate : (n : ℕ) → weight (replicate n EMPTY) ≡ n
weight-replicate zero = refl
weight-replicate (suc n) = let h = weight-replicate n in omega (arith, h)

keys_within : (assets : Assets) → AreAssets assets → (keys : List Key) (k : ℕ) → Within (74 * length keys) (choose (children_of_keys assets keys) k)
keys_within assets are [] zero = omega arith
keys_within assets are [] (suc k) = tt
keys_within assets are (key ∷ keys) k =
    weaker (74 * length keys + 74) (74 * length (key ∷ keys)) _ (omega arith)
    (within_counted 74 (74 * length keys) (item (sig_of assets key)) (Some []) (choose (children_of_keys assets keys)) k
    (sig_within assets are key) (omega arith) (keys_within assets are keys))

pub signatures_within : (assets : Assets) → AreAssets assets → (k : ℕ) (keys : List Key) → Within (74 * length keys) (signatures assets k keys)
signatures_within assets are k keys =
    let same : option_map reverse (choose (children_of_keys assets keys) k) ≡ signatures assets k keys =
    ap (option_map reverse) (sym (chosen_is (children_of_keys assets keys) k)) ∙ sym (signatures_are assets k keys)
    in
    subst (Within (74 * length keys)) same (within_turned (74 * length keys) _ (keys_within assets are keys k))

count_is : (assets : Assets) (xs : Trees) → count xs ≡ length (cheapest_children assets xs)
count_is assets none = refl
count_is assets (more x xs) = let h = count_is assets xs in omega (arith, h)

-- the choice of a threshold, by the recursion over its children
pub thresh_choose : (assets : Assets) (xs : Trees) (k : ℕ) → least (map (stack_of (cheapest_children assets xs)) (sets (count xs) k)) ≡ choose (cheapest_children assets xs) k
thresh_choose assets xs k =
    ap (λ n. least (map (stack_of (cheapest_children assets xs)) (sets n k))) (count_is assets xs) ∙ chosen_is (cheapest_children assets xs) k

pub light_option : (n : ℕ) (o : Option ℕ) (p : Option Stack) → n < 2 ^ 32 → o ≡ weight_of p → Within n p → IsLightOption o
light_option n None p small is h = tt
light_option n (Some v) None small is h = absurd (let never : ⊥ = cc in never)
light_option n (Some v) (Some w) small is h = let e : v ≡ weight w = cc in omega (arith, e, h, small)

-- so the weight of a key's signature is below 2^32
pub sig_light : (assets : Assets) → AreAssets assets → (key : Key) (o : Option ℕ) → o ≡ weight_of (item (sig_of assets key)) → IsLightOption o
sig_light assets are key o is = light_option 74 o (item (sig_of assets key)) (omega arith) is (sig_within assets are key)

-- and of its length
pub length_light : (assets : Assets) → AreAssets assets → (key : Key) (o : Option ℕ) → o ≡ option_map length (sig_of assets key) → IsLightOption o
length_light assets are key o is = subst IsLightOption (sym is) (go (sig_of assets key) (sig_within assets are key))
  where
    go : (sig : Option Bytes) → Within 74 (item sig) → IsLightOption (option_map length sig)
    go None h = tt
    go (Some bytes) h = omega (arith, h)

-- and of the signatures of a `multi`
pub signatures_light : (assets : Assets) → AreAssets assets → (k : ℕ) (keys : List Key) (o : Option ℕ) → length keys ≤ MOST_MEASURE → o ≡ weight_of (signatures assets k keys) → IsLightOption o
signatures_light assets are k keys o few is = light_option (74 * length keys) o (signatures assets k keys) (omega (arith, few)) is (signatures_within assets are k keys)
