-- The characters of outlines: of the lines of nodes, and of the letter that fits.
use Rattle.std.proofs.Common.{ℕ, false, List, [], ◌∷◌, ◌++◌, suc, Option, Some, None, Result, Ok, Err, refl, arith}
use Rattle.std.specs.Prelude.{◌+◌, codes, decimal, flat_map, slice_index, All}
use Rattle.hex.specs.Hex.{encode_lower}
use Rattle.def_script.specs.Bytes.{Bytes, IsBytes}
use Rattle.def_tree.specs.Tree.{Key, Tree, Trees, just_0, just_1, pk_k, pk_h, older, after, hash, and_or, two, thresh, multi, wrap, none, more}
use Rattle.def_tree.specs.Size.{nodes}
use Rattle.def_tree.specs.Range.{IsKey, IsWritable, AreWritable}
use Rattle.def_text.specs.Letter.{Letter, letter_of_wrapper, letter_t, letter_l, letter_u, letter_byte}
use Rattle.def_text.specs.Word.{hash_name}
use Rattle.def_types.specs.declared.CorrectnessType.{CorrectnessType}
use Rattle.def_types.specs.declared.MalleabilityProperties.{MalleabilityProperties}
use Rattle.def_types.specs.declared.rule.RuleAt.{RuleAt}
use Rattle.def_types.specs.Correctness.{correctness_of}
use Rattle.def_types.specs.Malleable.{malleability_of}
use Rattle.def_sane.specs.declared.Unfit.{Unfit}
use Rattle.def_sane.specs.declared.Unfit.TheVariants as unfit
use Rattle.def_outline.specs.Outline.{Node, outline, outlines}
use Rattle.def_outline.specs.Fits.{Trial, fit}
use Rattle.def_answer.specs.Lines.{unfit_line}
use Rattle.def_answer.specs.Outline.{correctness_letters, part_type, key_text, head_text, node_line, outline_report, trial_line, fits_line, unfit_report}
use Rattle.def_lines.proofs.Lists.{Every, every_joined}
use Rattle.ms_line_laws.proofs.Plainly.{AreReported, reported, each_reported, hex_reported}
use Rattle.ms_line_laws.proofs.Reported.{line_reported, unfit_line_reported}
use Rattle.ms_line_laws.proofs.Reports.{counted, one_count}
use Rattle.ms_line_laws.proofs.Printed.{hash_name_reported, two_name_reported, wrapper_reported, type_reported}

-- a text behind a space
spaced : (front text : Bytes) → AreReported front → AreReported text → AreReported (front ++ codes " " ++ text)
spaced front text p q = reported (front ++ codes " ") text (reported front (codes " ") p refl) q

-- ---- types

correctness_reported : (ty : CorrectnessType) → AreReported (correctness_letters ty)
correctness_reported ty = type_reported ty (record { s = false; f = false; e = false })

part_type_reported : (ty : Result CorrectnessType RuleAt) (m : Result MalleabilityProperties RuleAt) → AreReported (part_type ty m)
part_type_reported (Err at) m = refl
part_type_reported (Ok ty) (Err at) = reported (correctness_letters ty) (codes "?") (correctness_reported ty) refl
part_type_reported (Ok ty) (Ok m) = type_reported ty m

-- ---- nodes

key_reported : (key : Key) → IsBytes key → AreReported (key_text key)
key_reported key h = reported (codes " ") (encode_lower key) refl (hex_reported key h)

keys_reported : (keys : List Key) → All IsKey keys → AreReported (flat_map key_text keys)
keys_reported [] all = refl
keys_reported (key ∷ keys) all =
    let here = all 0 key (omega arith) in
    reported (key_text key) (flat_map key_text keys) (key_reported key here.bytes) (keys_reported keys (λ k d l. all (suc k) d (omega (arith, l))))

head_reported : (t : Tree) → IsWritable t → AreReported (head_text t)
head_reported just_0 w = refl
head_reported just_1 w = refl
head_reported (pk_k key) w = reported (codes "pk_k") (key_text key) refl (key_reported key w.bytes)
head_reported (pk_h key) w = reported (codes "pk_h") (key_text key) refl (key_reported key w.bytes)
head_reported (older n) w = one_count (codes "older ") n refl
head_reported (after n) w = one_count (codes "after ") n refl
head_reported (hash kind value) w = spaced (hash_name kind) (encode_lower value) (hash_name_reported kind) (hex_reported value w.bytes)
head_reported (and_or x y z) w = refl
head_reported (two kind x y) w = two_name_reported kind
head_reported (thresh k xs) w = one_count (codes "thresh ") k refl
head_reported (multi k keys) w =
    reported (codes "multi " ++ decimal k) (flat_map key_text keys) (one_count (codes "multi ") k refl) (keys_reported keys w.2)
head_reported (wrap wrapper x) w = wrapper_reported wrapper

node_reported : (offsets : List ℕ) (n : Node) → IsWritable n.tree → AreReported (node_line offsets n)
node_reported offsets n w =
    let place = slice_index offsets n.number in
    let type = part_type (correctness_of n.tree) (malleability_of n.tree) in
    let a = codes "node " ++ decimal place in
    let b = a ++ codes " " ++ decimal n.depth in
    let c = b ++ codes " " ++ type in
    line_reported (c ++ codes " " ++ head_text n.tree)
    (spaced c (head_text n.tree)
    (spaced b type (counted a (codes " ") n.depth (one_count (codes "node ") place refl) refl) (part_type_reported (correctness_of n.tree) (malleability_of n.tree)))
    (head_reported n.tree w))

abbrev HasWritable : Node → Type 0
HasWritable n = IsWritable n.tree

-- each node of a tree that can be written can be written
mutual
  outline_writable : (first depth : ℕ) (t : Tree) → IsWritable t → Every HasWritable (outline first depth t)
  outline_writable first depth (and_or x y z) w =
      let one = outline first (depth + 1) x in
      let two = outline (first + nodes x) (depth + 1) y in
      let three = outline (first + nodes x + nodes y) (depth + 1) z in (
        w,
        every_joined HasWritable (one ++ two) three
            (every_joined HasWritable one two (outline_writable first (depth + 1) x w.0) (outline_writable (first + nodes x) (depth + 1) y w.1))
            (outline_writable (first + nodes x + nodes y) (depth + 1) z w.2),
      )
  outline_writable first depth (two kind x y) w = (
    w,
    every_joined HasWritable (outline first (depth + 1) x) (outline (first + nodes x) (depth + 1) y)
        (outline_writable first (depth + 1) x w.0) (outline_writable (first + nodes x) (depth + 1) y w.1),
  )
  outline_writable first depth (thresh k xs) w = (w, outlines_writable first (depth + 1) xs w.2)
  outline_writable first depth (wrap wrapper x) w = (w, outline_writable first (depth + 1) x w)
  outline_writable first depth leaf w = (w, tt)

  outlines_writable : (first depth : ℕ) (xs : Trees) → AreWritable xs → Every HasWritable (outlines first depth xs)
  outlines_writable first depth none w = tt
  outlines_writable first depth (more x xs) w =
      every_joined HasWritable (outline first depth x) (outlines (first + nodes x) depth xs)
      (outline_writable first depth x w.0) (outlines_writable (first + nodes x) depth xs w.1)

pub outline_reported : (offsets : List ℕ) (t : Tree) → IsWritable t → AreReported (outline_report offsets t)
unfolding outline_report
outline_reported offsets t w =
    each_reported (node_line offsets) HasWritable (node_reported offsets) (outline 0 0 t) (outline_writable 0 0 t w)

-- ---- what fits

letter_reported : (letter : Letter) → AreReported (letter_byte letter ∷ [])
letter_reported (letter_of_wrapper wrapper) = wrapper_reported wrapper
letter_reported letter_t = refl
letter_reported letter_l = refl
letter_reported letter_u = refl

trial_reported : (offsets : List ℕ) (found : Option Trial) → AreReported (trial_line offsets found)
trial_reported offsets None = refl
trial_reported offsets (Some t) =
    let letter = letter_byte t.letter ∷ [] in
    let place = slice_index offsets t.child in
    line_reported (codes "fits " ++ letter ++ codes " at " ++ decimal place)
    (counted (codes "fits " ++ letter) (codes " at ") place (reported (codes "fits ") letter refl (letter_reported t.letter)) refl)

fits_reported : (offsets : List ℕ) (t : Tree) (reason : Unfit) → AreReported (fits_line offsets t reason)
fits_reported offsets t (unfit.Rule at) = trial_reported offsets (fit offsets t at)
fits_reported offsets t other = refl

pub unfit_report_reported : (offsets : List ℕ) (t : Tree) (reason : Unfit) → IsWritable t → AreReported (unfit_report offsets t reason)
unfolding unfit_report
unfit_report_reported offsets t reason w =
    reported (outline_report offsets t ++ unfit_line offsets reason) (fits_line offsets t reason)
    (reported (outline_report offsets t) (unfit_line offsets reason) (outline_reported offsets t w) (unfit_line_reported offsets reason))
    (fits_reported offsets t reason)
