-- The characters of printed trees and of `check` and `decode`.
use Rattle.std.proofs.Common.{Bool, true, false, List, [], ◌∷◌, ◌++◌, suc, refl, arith}
use Rattle.std.specs.Prelude.{codes, decimal, All}
use Rattle.hex.specs.Hex.{encode_lower}
use Rattle.def_hash.specs.declared.HashKind.{HashKind}
use Rattle.def_hash.specs.declared.HashKind.TheVariants as hash_kind
use Rattle.def_script.specs.Bytes.{Bytes}
use Rattle.def_tree.specs.declared.Two.{Two}
use Rattle.def_tree.specs.declared.Two.TheVariants as kind
use Rattle.def_tree.specs.declared.Wrapper.{Wrapper}
use Rattle.def_tree.specs.declared.Wrapper.TheVariants as wrapper
use Rattle.def_tree.specs.Tree.{Key, Tree, Trees, just_0, just_1, pk_k, pk_h, older, after, hash, and_or, two, thresh, multi, wrap, none, more}
use Rattle.def_tree.specs.Range.{IsKey, IsWritable, AreWritable}
use Rattle.def_text.specs.Word.{hash_name, two_name}
use Rattle.def_text.specs.Letter.{wrapper_byte}
use Rattle.def_text.specs.Print.{printed, printed_behind, printed_children, printed_keys}
use Rattle.def_types.specs.declared.Base.{Base}
use Rattle.def_types.specs.declared.Base.TheVariants as base
use Rattle.def_types.specs.declared.CorrectnessType.{CorrectnessType}
use Rattle.def_types.specs.declared.MalleabilityProperties.{MalleabilityProperties}
use Rattle.def_answer.specs.Check.{base_letter, letter, type_letters}
use Rattle.def_answer.specs.Decode.{decode_report}
use Rattle.ms_line_laws.proofs.Plainly.{AreReported, reported, decimal_reported, hex_reported}
use Rattle.ms_line_laws.proofs.Reported.{line_reported}

pub hash_name_reported : (k : HashKind) → AreReported (hash_name k)
hash_name_reported hash_kind.Sha256 = refl
hash_name_reported hash_kind.Hash256 = refl
hash_name_reported hash_kind.Ripemd160 = refl
hash_name_reported hash_kind.Hash160 = refl

pub two_name_reported : (k : Two) → AreReported (two_name k)
two_name_reported kind.AndV = refl
two_name_reported kind.AndB = refl
two_name_reported kind.OrB = refl
two_name_reported kind.OrC = refl
two_name_reported kind.OrD = refl
two_name_reported kind.OrI = refl

pub wrapper_reported : (w : Wrapper) → AreReported (wrapper_byte w ∷ [])
wrapper_reported wrapper.A = refl
wrapper_reported wrapper.S = refl
wrapper_reported wrapper.C = refl
wrapper_reported wrapper.D = refl
wrapper_reported wrapper.V = refl
wrapper_reported wrapper.J = refl
wrapper_reported wrapper.N = refl

keys_reported : (keys : List Key) → All IsKey keys → AreReported (printed_keys keys)
keys_reported [] all = refl
keys_reported (key ∷ keys) all =
    let here = all 0 key (omega arith) in
    reported (codes "," ++ encode_lower key) (printed_keys keys) (reported (codes ",") (encode_lower key) refl (hex_reported key here.bytes))
    (keys_reported keys (λ k d l. all (suc k) d (omega (arith, l))))

-- a name, its argument, and the bracket behind it
argued : (colon name inner : Bytes) → AreReported colon → AreReported name → AreReported inner → AreReported (colon ++ name ++ inner ++ codes ")")
argued colon name inner p q r = reported (colon ++ name ++ inner) (codes ")") (reported (colon ++ name) inner (reported colon name p q) r) refl

mutual
  behind_reported : (colon : Bytes) → AreReported colon → (t : Tree) → IsWritable t → AreReported (printed_behind colon t)
  behind_reported colon p just_0 w = reported colon (codes "0") p refl
  behind_reported colon p just_1 w = reported colon (codes "1") p refl
  behind_reported colon p (pk_k key) w = argued colon (codes "pk_k(") (encode_lower key) p refl (hex_reported key w.bytes)
  behind_reported colon p (pk_h key) w = argued colon (codes "pk_h(") (encode_lower key) p refl (hex_reported key w.bytes)
  behind_reported colon p (older n) w = argued colon (codes "older(") (decimal n) p refl (decimal_reported n)
  behind_reported colon p (after n) w = argued colon (codes "after(") (decimal n) p refl (decimal_reported n)
  behind_reported colon p (hash kind value) w =
      argued (colon ++ hash_name kind) (codes "(") (encode_lower value) (reported colon (hash_name kind) p (hash_name_reported kind)) refl (hex_reported value w.bytes)
  behind_reported colon p (and_or x y z) w =
      let one = printed_behind [] x in
      let two = printed_behind [] y in
      let three = printed_behind [] z in
      reported (colon ++ codes "andor(" ++ one ++ codes "," ++ two ++ codes "," ++ three) (codes ")")
      (reported (colon ++ codes "andor(" ++ one ++ codes "," ++ two ++ codes ",") three
      (reported (colon ++ codes "andor(" ++ one ++ codes "," ++ two) (codes ",")
      (reported (colon ++ codes "andor(" ++ one ++ codes ",") two
      (reported (colon ++ codes "andor(" ++ one) (codes ",")
      (reported (colon ++ codes "andor(") one (reported colon (codes "andor(") p refl) (behind_reported [] refl x w.0)) refl)
      (behind_reported [] refl y w.1)) refl)
      (behind_reported [] refl z w.2)) refl
  behind_reported colon p (two kind x y) w =
      let one = printed_behind [] x in
      let two = printed_behind [] y in
      reported (colon ++ two_name kind ++ codes "(" ++ one ++ codes "," ++ two) (codes ")")
      (reported (colon ++ two_name kind ++ codes "(" ++ one ++ codes ",") two
      (reported (colon ++ two_name kind ++ codes "(" ++ one) (codes ",")
      (reported (colon ++ two_name kind ++ codes "(") one
      (reported (colon ++ two_name kind) (codes "(") (reported colon (two_name kind) p (two_name_reported kind)) refl)
      (behind_reported [] refl x w.0)) refl)
      (behind_reported [] refl y w.1)) refl
  behind_reported colon p (thresh k xs) w =
      reported (colon ++ codes "thresh(" ++ decimal k ++ printed_children xs) (codes ")")
      (reported (colon ++ codes "thresh(" ++ decimal k) (printed_children xs)
      (reported (colon ++ codes "thresh(") (decimal k) (reported colon (codes "thresh(") p refl) (decimal_reported k))
      (children_reported xs w.2)) refl
  behind_reported colon p (multi k keys) w =
      reported (colon ++ codes "multi(" ++ decimal k ++ printed_keys keys) (codes ")")
      (reported (colon ++ codes "multi(" ++ decimal k) (printed_keys keys)
      (reported (colon ++ codes "multi(") (decimal k) (reported colon (codes "multi(") p refl) (decimal_reported k))
      (keys_reported keys w.2)) refl
  behind_reported colon p (wrap wr x) w = reported (wrapper_byte wr ∷ []) (printed_behind (codes ":") x) (wrapper_reported wr) (behind_reported (codes ":") refl x w)

  children_reported : (xs : Trees) → AreWritable xs → AreReported (printed_children xs)
  children_reported none w = refl
  children_reported (more x xs) w =
      reported (codes "," ++ printed_behind [] x) (printed_children xs) (reported (codes ",") (printed_behind [] x) refl (behind_reported [] refl x w.0))
      (children_reported xs w.1)

pub printed_reported : (t : Tree) → IsWritable t → AreReported (printed t)
printed_reported t w = behind_reported [] refl t w

pub decode_reported : (t : Tree) → IsWritable t → AreReported (decode_report t)
unfolding decode_report
decode_reported t w = line_reported (codes "text " ++ printed t) (reported (codes "text ") (printed t) refl (printed_reported t w))

base_reported : (b : Base) → AreReported (base_letter b)
base_reported base.B = refl
base_reported base.V = refl
base_reported base.K = refl
base_reported base.W = refl

letter_reported : (front : Bytes) (b : Bool) (name : Bytes) → AreReported front → AreReported name → AreReported (front ++ letter b name)
letter_reported front true name p q = reported front name p q
letter_reported front false name p q = reported front [] p refl

pub type_reported : (ty : CorrectnessType) (m : MalleabilityProperties) → AreReported (type_letters ty m)
type_reported ty m =
    let a = base_letter ty.base in
    let b = a ++ letter ty.z (codes "z") in
    let c = b ++ letter ty.o (codes "o") in
    let d = c ++ letter ty.n (codes "n") in
    let e = d ++ letter ty.d (codes "d") in
    let f = e ++ letter ty.u (codes "u") in
    let g = f ++ letter m.s (codes "s") in
    let h = g ++ letter m.f (codes "f") in
    letter_reported h m.e (codes "e")
    (letter_reported g m.f (codes "f")
    (letter_reported f m.s (codes "s")
    (letter_reported e ty.u (codes "u")
    (letter_reported d ty.d (codes "d")
    (letter_reported c ty.n (codes "n")
    (letter_reported b ty.o (codes "o") (letter_reported a ty.z (codes "z") (base_reported ty.base) refl) refl) refl) refl) refl) refl) refl) refl
