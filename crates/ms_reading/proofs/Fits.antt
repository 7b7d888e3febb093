-- Which trees fit.
use Rattle.std.proofs.Common.{◌≡◌, ℕ, ◌&&◌, ◌<◌, ◌≤◌, nat_le, Bool, true, false, Some, None, refl}
use Rattle.std.proofs.lemmas.Bool.{le-leb, lt-leb}
use Rattle.def_tree.specs.Tree.{Tree}
use Rattle.def_tree.specs.InRange.{measure, depth, MOST_MEASURE, MOST_DEPTH}
use Rattle.ms_decode_laws.specs.Scaffolding.Reader.{fits}
use Rattle.ms_reading.specs.Scaffolding.Parts.{fitting}

-- by the two numbers of a tree
fits_by : (t : Tree) (d m : ℕ) (b : Bool) → d ≡ depth t → m ≡ measure t → b ≡ (nat_le d MOST_DEPTH && nat_le m MOST_MEASURE) → fits t ≡ b
unfolding fits
fits_by t d m b e f is = rw (is, e, f)

pub fitting_none : (t : Tree) (d m : ℕ) (b : Bool) → d ≡ depth t → m ≡ measure t → b ≡ (nat_le d MOST_DEPTH && nat_le m MOST_MEASURE) → b ≡ false → None ≡ fitting t
fitting_none t d m b e f is out = rw (fits_by t d m b e f is, out)

pub fitting_some : (t v : Tree) (d m : ℕ) (b : Bool) → d ≡ depth t → m ≡ measure t → b ≡ (nat_le d MOST_DEPTH && nat_le m MOST_MEASURE) → b ≡ true → v ≡ t → Some v ≡ fitting t
fitting_some t v d m b e f is within same = rw (fits_by t d m b e f is, within, same)

-- by orders
pub fitting_too_deep : (t : Tree) → MOST_DEPTH < depth t → None ≡ fitting t
fitting_too_deep t h = rw (fits_by t (depth t) (measure t) false refl refl (rw (lt-leb (depth t) MOST_DEPTH h)))

pub fitting_too_large : (t : Tree) → MOST_MEASURE < measure t → None ≡ fitting t
fitting_too_large t h = rw (fits_by t (depth t) (measure t) false refl refl (large_on (nat_le (depth t) MOST_DEPTH)))
  where
    large_on : (b : Bool) → false ≡ (b && nat_le (measure t) MOST_MEASURE)
    large_on true = rw (lt-leb (measure t) MOST_MEASURE h)
    large_on false = refl

pub fitting_small : (t v : Tree) → depth t ≤ MOST_DEPTH → measure t ≤ MOST_MEASURE → v ≡ t → Some v ≡ fitting t
fitting_small t v d m same =
    rw (fits_by t (depth t) (measure t) true refl refl (rw (le-leb (depth t) MOST_DEPTH d, le-leb (measure t) MOST_MEASURE m)), same)
