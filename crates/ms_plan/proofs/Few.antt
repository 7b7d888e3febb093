-- Assets with marked signatures are few and have their form.
use Rattle.std.proofs.Common.{◌≡◌, ℕ, zero, suc, ◌+◌, ◌<◌, ◌≤◌, [], ◌∷◌, length, replicate, All, refl, ap, arith}
use Rattle.std.proofs.lemmas.List.{length-replicate}
use Rattle.std.proofs.lemmas.List.Elements.{All-nil, All-cons, All-head, All-tail}
use Rattle.def_script.specs.Bytes.{IsBytes}
use Rattle.def_script.specs.Signature.{MAX_SIGNATURE_SIZE}
use Rattle.def_tree.specs.Range.{IsKey}
use Rattle.def_assets.specs.Assets.{Assets, IsSignature}
use Rattle.def_assets.proofs.Distinct.{distinct_pairs}
use Rattle.def_files.specs.Laws.{AreFewAssets}
use Rattle.def_plan.specs.Lengths.{Lengths, AreLengths}
use Rattle.ms_plan.specs.declared.marks.Marks.{Marks}
use Rattle.ms_plan.specs.declared.marks.Marks.TheVariants as marks
use Rattle.ms_plan.specs.Scaffolding.Marks.{mark_of, marked}
use Rattle.ms_plan.proofs.Told.{marked_distinct}

-- a mark is a byte, and so are the bytes of a marked signature
mark_small : (m : Marks) (place : ℕ) → place < 256 → mark_of m place < 256
mark_small marks.Rising place small = small
mark_small marks.Falling place small = omega arith

all_bytes : (n mark : ℕ) → mark < 256 → IsBytes (replicate n mark)
all_bytes zero mark small i = omega arith
all_bytes (suc n) mark small zero = small
all_bytes (suc n) mark small (suc i) = all_bytes n mark small i

is_signature : (n mark : ℕ) → mark < 256 → 1 ≤ n → n ≤ MAX_SIGNATURE_SIZE → IsSignature (replicate n mark)
is_signature n mark small some few = record {
  some = rw (length-replicate {A = ℕ} n mark) some;
  few = rw (length-replicate {A = ℕ} n mark) few;
  bytes = all_bytes n mark small;
}

module _ (m : Marks) where
  keys : (first : ℕ) (table : Lengths) → All (λ entry. IsKey entry.0) table → All (λ pair. IsKey pair.0) (marked m first table)
  keys first [] h = All-nil (λ pair. IsKey pair.0)
  keys first (entry ∷ table) h =
      All-cons (λ pair. IsKey pair.0) (entry.0, replicate entry.1 (mark_of m first)) (marked m (first + 1) table) (All-head (λ e. IsKey e.0) entry table h)
      (keys (first + 1) table (All-tail (λ e. IsKey e.0) entry table h))

  signatures : (first : ℕ) (table : Lengths) → first + length table ≤ 256 → All (λ entry. 1 ≤ entry.1) table → All (λ entry. entry.1 ≤ MAX_SIGNATURE_SIZE) table →
      All (λ pair. IsSignature pair.1) (marked m first table)
  signatures first [] room some short = All-nil (λ pair. IsSignature pair.1)
  signatures first (entry ∷ table) room some short =
      All-cons (λ pair. IsSignature pair.1) (entry.0, replicate entry.1 (mark_of m first)) (marked m (first + 1) table)
      (is_signature entry.1 (mark_of m first) (mark_small m first (omega (arith, room))) (All-head (λ e. 1 ≤ e.1) entry table some)
      (All-head (λ e. e.1 ≤ MAX_SIGNATURE_SIZE) entry table short))
      (signatures (first + 1) table (omega (arith, room)) (All-tail (λ e. 1 ≤ e.1) entry table some) (All-tail (λ e. e.1 ≤ MAX_SIGNATURE_SIZE) entry table short))

  as_many : (first : ℕ) (table : Lengths) → length (marked m first table) ≡ length table
  as_many first [] = refl
  as_many first (entry ∷ table) = ap suc (as_many (first + 1) table)

  pub marked_few : (assets : Assets) (table : Lengths) → AreFewAssets assets → AreLengths table → AreFewAssets (record assets { pairs = marked m 0 table })
  marked_few assets table few lengths = record {
    held = record {
      keys = keys 0 table lengths.keys;
      signatures = signatures 0 table (omega (arith, lengths.few)) lengths.some lengths.short;
      distinct = distinct_pairs (marked m 0 table) (marked_distinct m 0 table lengths.distinct);
      preimages = few.held.preimages;
      version = few.held.version;
      sequence = few.held.sequence;
      locktime = few.held.locktime;
    };
    signatures = rw (as_many 0 table) lengths.few;
    preimages = few.preimages;
  }
