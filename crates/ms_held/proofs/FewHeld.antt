-- That assets are few, and what they hold of its form.
use Rattle.std.proofs.Common.{◌≡◌, ◌^◌, ◌<◌, nat_le, true, false, [], ◌∷◌, ◌++◌, None, length, length-append, arith}
use Rattle.std.specs.List.{list_any, IsDistinct}
use Rattle.std.proofs.lemmas.Bool.{leb-true, and_parts}
use Rattle.std.proofs.lemmas.Bool.Decides.{nat_tests}
use Rattle.std.proofs.lemmas.List.Elements.{All-push}
use Rattle.std.proofs.lemmas.Map.Keys.{IsDistinct-push}
use Rattle.def_script.specs.Bytes.{Bytes, IsBytes}
use Rattle.def_machine.specs.declared.Locks.{Locks}
use Rattle.def_tree.specs.Range.{IsKey}
use Rattle.def_assets.specs.Assets.{Assets, IsSignature, same_pair, unsigned}
use Rattle.def_files.specs.AssetFile.{is_signature}
use Rattle.def_files.specs.Laws.{AreFewAssets}
use Rattle.ms_held.specs.Adding.{size_stop}
use Rattle.ms_held.proofs.SamePairs.{same_pair-laws}

pub none_few : (locks : Locks) → locks.version < 2 ^ 32 → locks.sequence < 2 ^ 32 → locks.locktime < 2 ^ 32 → AreFewAssets (record { locks = locks; pairs = []; preimages = [] })
unfolding IsDistinct
none_few locks version sequence locktime = record {
  held = record {
    keys = λ k d h. absurd (omega arith);
    signatures = λ k d h. absurd (omega arith);
    distinct = tt;
    preimages = λ k d h. absurd (omega arith);
    version = version;
    sequence = sequence;
    locktime = locktime;
  };
  signatures = omega arith;
  preimages = omega arith;
}

-- without signatures
pub unsigned_few : (assets : Assets) → AreFewAssets assets → AreFewAssets (unsigned assets)
unfolding IsDistinct
unsigned_few assets few = record {
  held = record {
    keys = λ k d h. absurd (omega arith);
    signatures = λ k d h. absurd (omega arith);
    distinct = tt;
    preimages = few.held.preimages;
    version = few.held.version;
    sequence = few.held.sequence;
    locktime = few.held.locktime;
  };
  signatures = omega arith;
  preimages = few.preimages;
}

-- with one more signature, which isn't held with its key
pub added_few : (assets : Assets) (key sig : Bytes) → AreFewAssets assets → IsKey key → IsSignature sig → list_any (same_pair (key, sig)) assets.pairs ≡ false → length assets.pairs < 256
    → AreFewAssets (record assets { pairs = assets.pairs ++ (key, sig) ∷ [] })
added_few assets key sig few is_key is_sig new room =
    record {
      held = record {
        keys = All-push (λ pair. IsKey pair.0) assets.pairs (key, sig) few.held.keys is_key;
        signatures = All-push (λ pair. IsSignature pair.1) assets.pairs (key, sig) few.held.signatures is_sig;
        distinct = IsDistinct-push same_pair-laws assets.pairs (key, sig) few.held.distinct new;
        preimages = few.held.preimages;
        version = few.held.version;
        sequence = few.held.sequence;
        locktime = few.held.locktime;
      };
      signatures = let e = length-append assets.pairs ((key, sig) ∷ []) in omega arith;
      preimages = few.preimages;
    }

-- no reason of its length stops a signature
size_passes : (assets : Assets) (sig : Bytes) → size_stop assets sig ≡ None → (is_signature sig ≡ true) × (nat_le 256 (length assets.pairs) ≡ false)
size_passes assets sig passes = grind arith

pub sized_few : (assets : Assets) (key sig : Bytes) → AreFewAssets assets → IsKey key → IsBytes sig → size_stop assets sig ≡ None → list_any (same_pair (key, sig)) assets.pairs ≡ false
    → AreFewAssets (record assets { pairs = assets.pairs ++ (key, sig) ∷ [] })
sized_few assets key sig few is_key bytes passes new =
    let p = size_passes assets sig passes in
    let parts = and_parts (nat_le 1 (length sig)) (nat_le (length sig) 73) p.0 in
    let fits : IsSignature sig = record { some = leb-true 1 (length sig) parts.0; few = leb-true (length sig) 73 parts.1; bytes = bytes } in
    added_few assets key sig few is_key fits new (let not_full = p.1 in grind (arith, nat_tests))
