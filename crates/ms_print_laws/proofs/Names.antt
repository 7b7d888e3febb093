-- A printed policy is a name and, but for `never` and `always`, arguments in parentheses behind it.
use Rattle.std.proofs.Common.{◌≡◌, ℕ, true, false, [], ◌++◌, codes, decimal, refl, sym, ap, ◌∙◌, if◌then◌else◌, arith}
use Rattle.std.specs.Str.{bytes_eq}
use Rattle.hex.specs.Hex.{encode_lower}
use Rattle.def_hash.specs.declared.HashKind.{HashKind}
use Rattle.def_hash.specs.declared.HashKind.TheVariants.{Sha256}
use Rattle.def_script.specs.Bytes.{Bytes}
use Rattle.def_text.specs.Word.{hash_name}
use Rattle.def_policy.specs.Policy.{Policy, never, always, key, older, after, hash, all, any, thresh}
use Rattle.def_policy.specs.Print.{printed, printed_parts}
use Rattle.ms_print_laws.proofs.Words.{begins_word, IsWord, same_word}

abbrev pub name : Policy → Bytes
name never = codes "never"
name always = codes "always"
name (key k) = codes "key"
name (older n) = codes "older"
name (after n) = codes "after"
name (hash kind value) = hash_name kind
name (all parts) = codes "all"
name (any parts) = codes "any"
name (thresh k parts) = codes "thresh"

abbrev pub arguments : Policy → Bytes
arguments never = []
arguments always = []
arguments (key k) = codes "(" ++ encode_lower k ++ codes ")"
arguments (older n) = codes "(" ++ decimal n ++ codes ")"
arguments (after n) = codes "(" ++ decimal n ++ codes ")"
arguments (hash kind value) = codes "(" ++ encode_lower value ++ codes ")"
arguments (all parts) = codes "(" ++ printed_parts [] parts ++ codes ")"
arguments (any parts) = codes "(" ++ printed_parts [] parts ++ codes ")"
arguments (thresh k parts) = codes "(" ++ decimal k ++ printed_parts (codes ",") parts ++ codes ")"

hash_named : (kind : HashKind) (value x : Bytes) → printed (hash kind value) ++ x ≡ hash_name kind ++ (arguments (hash kind value) ++ x)
hash_named Sha256 value x = refl
hash_named kind value x = refl

named : (p : Policy) (x : Bytes) → printed p ++ x ≡ name p ++ (arguments p ++ x)
named never x = refl
named (hash kind value) x = hash_named kind value x
named p x = refl

hash_name_is_word : (kind : HashKind) → IsWord (hash_name kind)
hash_name_is_word Sha256 = refl
hash_name_is_word kind = refl

name_is_word : (p : Policy) → IsWord (name p)
name_is_word never = refl
name_is_word (hash kind value) = hash_name_is_word kind
name_is_word p = refl

ends_name : (p : Policy) (x : Bytes) → begins_word x ≡ false → begins_word (arguments p ++ x) ≡ false
ends_name p x h = grind arith

-- equal bytes that begin with printed policies have the same name and the same bytes behind it
pub same_name : (p q : Policy) (x y : Bytes) → begins_word x ≡ false → begins_word y ≡ false →
    printed p ++ x ≡ printed q ++ y → (name p ≡ name q) × (arguments p ++ x ≡ arguments q ++ y)
same_name p q x y hx hy e =
    same_word (name p) (name q) (arguments p ++ x) (arguments q ++ y) (name_is_word p) (name_is_word q)
    (ends_name p x hx) (ends_name q y hy) (sym (named p x) ∙ e ∙ named q y)

-- a printed policy begins with a letter
hash_begins : (kind : HashKind) (value x : Bytes) → begins_word (printed (hash kind value) ++ x) ≡ true
hash_begins Sha256 value x = refl
hash_begins kind value x = refl

pub printed_begins : (p : Policy) (x : Bytes) → begins_word (printed p ++ x) ≡ true
printed_begins never x = refl
printed_begins (hash kind value) x = hash_begins kind value x
printed_begins p x = refl

-- ---- names tell hash functions and kinds of policies apart

pub same_kind : (kind other : HashKind) → hash_name kind ≡ hash_name other → kind ≡ other
same_kind kind other e = grind arith

-- a number for each kind of policy
abbrev pub place : Policy → ℕ
place never = 1
place always = 2
place (key k) = 3
place (older n) = 4
place (after n) = 5
place (hash kind value) = 0
place (all parts) = 6
place (any parts) = 7
place (thresh k parts) = 8

abbrev place_of : Bytes → ℕ
place_of w =
    if bytes_eq w (codes "never") then 1
    else if bytes_eq w (codes "always") then 2
    else if bytes_eq w (codes "key") then 3
    else if bytes_eq w (codes "older") then 4
    else if bytes_eq w (codes "after") then 5
    else if bytes_eq w (codes "all") then 6
    else if bytes_eq w (codes "any") then 7
    else if bytes_eq w (codes "thresh") then 8
    else 0

place_of-name : (p : Policy) → place_of (name p) ≡ place p
place_of-name p = grind arith

pub same_place : (p q : Policy) → name p ≡ name q → place p ≡ place q
same_place p q e = sym (place_of-name p) ∙ ap place_of e ∙ place_of-name q
