-- What a source held of which a front was read.
use Rattle.std.proofs.Common.{ℕ, ◌<◌, List, [], ◌++◌, length, length-append, append-nil, Some, None, refl, sym, ◌∙◌, ap, subst, arith}
use Rattle.std.specs.declared.option.Option.{Option}
use Rattle.std.specs.Io.KnownBytes.{Consumes, IsAtEnd, Keeps}
use Rattle.ms_io.specs.Moves.{GivesAll, GivesOver}
use Rattle.ms_io.specs.Sides.{Side}
use Rattle.ms_io.specs.Reads.{AreTold, Held, ReadsFront}

-- nothing was read, or written
pub none_read : (told : Option (List ℕ)) → ReadsFront told told
none_read None = ([], tt)
none_read (Some bytes) = ([], refl)

pub keeps : (bytes : Option (List ℕ)) → Keeps bytes bytes
keeps None = tt
keeps (Some bytes) = refl

-- all that it held was read
all_told : (old new : Option (List ℕ)) (bytes : List ℕ) → Consumes old new bytes → IsAtEnd new → AreTold old bytes
all_told None new bytes given end = tt
all_told (Some told) None bytes given end = absurd given
all_told (Some told) (Some rest) bytes given end = given ∙ ap (λ r. bytes ++ r) end ∙ append-nil bytes

pub all_held : (limit : ℕ) (source : Side) (bytes : List ℕ) → GivesAll source.old source.new bytes → Held limit source bytes
all_held limit source bytes gives = record { told = all_told source.old source.new bytes gives.given gives.end; end = λ few. gives.end }

-- more was read than a limit
over_told : (limit : ℕ) (old new : Option (List ℕ)) (front : List ℕ) → limit < length front → Consumes old new front
    → (bytes : List ℕ) × AreTold old bytes × (limit < length bytes)
over_told limit None new front over given = (front, tt, over)
over_told limit (Some told) None front over given = absurd given
over_told limit (Some told) (Some rest) front over given =
    (told, refl, subst (λ (b : List ℕ). limit < length b) (sym given) (omega (arith, over, length-append front rest)))

pub over_held : (limit : ℕ) (source : Side) → GivesOver source.old source.new limit → (bytes : List ℕ) × Held limit source bytes × (limit < length bytes)
over_held limit source gives =
    let found = over_told limit source.old source.new gives.bytes gives.over gives.given in
    (found.0, record { told = found.1; end = λ few. absurd (omega (arith, few, found.2)) }, found.2)
