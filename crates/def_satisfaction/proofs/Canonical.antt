-- The laws of canonical rows and of settings.
use Rattle.std.proofs.Common.{◌&&◌, not, Bool, true, false, reverse, Option, refl, IsTrue}
use Rattle.std.proofs.lemmas.Bool.{false≢true}
use Rattle.def_hash.specs.declared.HashKind.{HashKind}
use Rattle.def_script.specs.Bytes.{Bytes}
use Rattle.def_machine.specs.Stacks.{Checker, is_empty, member}
use Rattle.def_machine.specs.Machine.{Given}
use Rattle.def_machine.specs.MultiSig.{is_good}
use Rattle.def_assets.specs.Assets.{Assets, known, unsigned}
use Rattle.def_satisfaction.specs.Setting.{any, only}
use Rattle.def_satisfaction.specs.Satisfaction.{canonical, full, Holds}
use Rattle.def_satisfaction.specs.Laws.{SatIsFullSat, DsatIsFullDsat, OnlyIsAny, DsatNeedsNoSignature}
use Rattle.def_satisfaction.proofs.Wider.{IsWider, row_within}
use Rattle.def_satisfaction.proofs.Bare.{dsat_within}

-- a signature that isn't empty
is_good-of : (full : Bool) (here there : Bool) → (IsTrue here → IsTrue there) → IsTrue (not full && here) → IsTrue (not full && there)
is_good-of true here there more h = h
is_good-of false here there more h = more h

pub held : (assets : Assets) (checker : Checker) → Holds checker assets → (key sig : Bytes) → IsTrue (is_good (member assets.pairs) key sig) → IsTrue (is_good checker key sig)
held assets checker holds key sig h = is_good-of (is_empty sig) (member assets.pairs key sig) (checker key sig) (holds key sig) h

sat_is_wider : (assets : Assets) (checker : Checker) → Holds checker assets → IsWider (canonical assets) (full (record { checker = checker; locks = assets.locks }) (only (known assets)))
sat_is_wider assets checker holds = record {
  signatures = held assets checker holds;
  older = λ n h. h;
  after = λ n h. h;
  preimages = λ kind value preimage h. h;
  keys = λ key other h. h;
  rows = λ h. refl;
}

pub sat_is_full_sat : SatIsFullSat
sat_is_full_sat tree assets checker stack holds sat =
    (row_within _ _ (sat_is_wider assets checker holds) tree).sat (reverse stack) sat

only_is_any_wider : (given : Given) (known : HashKind → Bytes → Option Bytes) → IsWider (full given (only known)) (full given any)
only_is_any_wider given known = record {
  signatures = λ key sig h. h;
  older = λ n h. h;
  after = λ n h. h;
  preimages = λ kind value preimage h. tt;
  keys = λ key other h. tt;
  rows = λ h. h;
}

pub only_is_any : OnlyIsAny
only_is_any tree given known stack =
    let w = row_within _ _ (only_is_any_wider given known) tree in
    (w.sat (reverse stack), w.dsat (reverse stack))

pub dsat_is_full_dsat : DsatIsFullDsat
dsat_is_full_dsat tree assets checker stack dsat =
    dsat_within (canonical assets) (full (record { checker = checker; locks = assets.locks }) (only (known assets))) false≢true (λ key other h. h) tree (reverse stack) dsat

pub dsat_needs_no_signature : DsatNeedsNoSignature
dsat_needs_no_signature tree assets stack = (
  λ h. dsat_within (canonical assets) (canonical (unsigned assets)) false≢true (λ key other k. k) tree (reverse stack) h,
  λ h. dsat_within (canonical (unsigned assets)) (canonical assets) false≢true (λ key other k. k) tree (reverse stack) h,
)
