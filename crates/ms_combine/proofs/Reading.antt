-- The PSBTs of lines, read one after the other.
use Rattle.std.proofs.Common.{◌≡◌, ℕ, List, [], ◌∷◌, ◌++◌, Option, None, Ok, Err, Result, refl, sym, ap, ◌∙◌, append_assoc}
use Rattle.std.proofs.lemmas.List.{append-nil}
use Rattle.base64.specs.Engines.{standard}
use Rattle.base64.specs.GeneralPurpose.{decode_of}
use Rattle.def_script.specs.Bytes.{Bytes}
use Rattle.def_psbt.specs.declared.Refusal.{Refusal}
use Rattle.def_psbt.specs.Map.{Psbt}
use Rattle.def_psbt.specs.Reading as reading
use Rattle.def_psbt.specs.Reading.{read_psbt}
use Rattle.def_psbt.specs.Source.{decoded}
use Rattle.def_combine.specs.declared.LineFault.{LineFault}
use Rattle.def_combine.specs.declared.CombineRefusal.{CombineRefusal}
use Rattle.def_combine.specs.Combine.{◌>>=◌, Line, at_line, line_psbt, other_fault, beside, other_psbt, other_psbts, Parts, line_parts}
use Rattle.ms_combine.specs.Outcome.{CombinesOr}
use Rattle.ms_combine.specs.declared.parts.Parts as held
use Rattle.ms_combine.specs.declared.stop.CombineStop.{CombineStop}
use Rattle.ms_combine.specs.declared.stop.CombineStop.TheVariants as stop
use Rattle.ms_combine.specs.Scaffolding.Kept.{AreKept, parts_with}

-- ---- the PSBT of a line

pub line_given : (number : ℕ) (text bytes : Bytes) (psbt : Psbt) → decoded (decode_of standard text) ≡ Ok bytes → read_psbt bytes ≡ Ok psbt
    → line_psbt (record { number = number; text = text }) ≡ Ok psbt
line_given number text bytes psbt e f = ap (λ (r : Result Bytes Refusal). at_line number (reading.◌>>=◌ r read_psbt)) e ∙ ap (at_line number) f

pub other_is : (first : Psbt) (line : Line) (other : Psbt) → line_psbt line ≡ Ok other → other_fault first other ≡ None → other_psbt first line ≡ Ok other
other_is first line other e f =
    ap (λ (r : Result Psbt CombineRefusal). r >>= λ psbt. beside (other_fault first psbt) line.number psbt) e ∙ ap (λ (why : Option LineFault). beside why line.number other) f

pub first_given : (line : Line) (lines : List Line) (first : Psbt) → line_psbt line ≡ Ok first → line_parts (line ∷ lines) ≡ parts_with first [] lines
first_given line lines first e = ap (λ (r : Result Psbt CombineRefusal). r >>= λ one. other_psbts one lines >>= λ others. Ok (record { first = one; others = others })) e

pub first_refused : (line : Line) (lines : List Line) (why : CombineRefusal) → line_psbt line ≡ Err why → line_parts (line ∷ lines) ≡ Err why
first_refused line lines why e = ap (λ (r : Result Psbt CombineRefusal). r >>= λ one. other_psbts one lines >>= λ others. Ok (record { first = one; others = others })) e

abbrev put : Psbt → Result (List Psbt) CombineRefusal → Result (List Psbt) CombineRefusal
put other r = r >>= λ more. Ok (other ∷ more)

abbrev after : (first : Psbt) → (others : List Psbt) → Result (List Psbt) CombineRefusal → Result Parts CombineRefusal
after first others r = r >>= λ more. Ok (record { first = first; others = others ++ more })

other_given : (first : Psbt) (others : List Psbt) (line : Line) (lines : List Line) (other : Psbt) → other_psbt first line ≡ Ok other
    → parts_with first others (line ∷ lines) ≡ parts_with first (others ++ other ∷ []) lines
unfolding other_psbts
other_given first others line lines other e =
    ap (λ (r : Result Psbt CombineRefusal). after first others (r >>= λ one. put one (other_psbts first lines))) e ∙ go (other_psbts first lines)
  where
    go : (r : Result (List Psbt) CombineRefusal) → after first others (put other r) ≡ after first (others ++ other ∷ []) r
    go (Ok more) = ap (λ (l : List Psbt). Ok (record { first = first; others = l })) (sym (append_assoc others (other ∷ []) more))
    go (Err why) = refl

other_refused : (first : Psbt) (others : List Psbt) (line : Line) (lines : List Line) (why : CombineRefusal) → other_psbt first line ≡ Err why
    → parts_with first others (line ∷ lines) ≡ Err why
unfolding other_psbts
other_refused first others line lines why e = ap (λ (r : Result Psbt CombineRefusal). after first others (r >>= λ one. put one (other_psbts first lines))) e

all_given : (first : Psbt) (others : List Psbt) → parts_with first others [] ≡ Ok (record { first = first; others = others })
unfolding other_psbts
all_given first others = ap (λ (l : List Psbt). Ok (record { first = first; others = l })) (append-nil others)

-- what was read of all lines, and what is left
pub record SoFar (parts : held.Parts) (all : Result Parts CombineRefusal) (left : List Line) : Type 0 where
  pub first : Psbt
  pub others : List Psbt
  pub kept : AreKept parts first others
  pub same : all ≡ parts_with first others left

pub step_on : (parts new : held.Parts) (all : Result Parts CombineRefusal) (line : Line) (lines : List Line) → SoFar parts all (line ∷ lines)
    → ((first : Psbt) (others : List Psbt) → AreKept parts first others → (other : Psbt) × (other_psbt first line ≡ Ok other) × AreKept new first (others ++ other ∷ [])) → SoFar new all lines
step_on parts new all line lines h given =
    let one = given h.first h.others h.kept in
    record { first = h.first; others = h.others ++ one.0 ∷ []; kept = one.2; same = h.same ∙ other_given h.first h.others line lines one.0 one.1 }

pub step_stops : {U V : Type 0} (P : (first : Psbt) (others : List Psbt) → U → Psbt → Type 0) (Q : V → Parts → Type 0) (why : CombineStop) (parts : held.Parts)
    (all : Result Parts CombineRefusal) (line : Line) (lines : List Line) → SoFar parts all (line ∷ lines)
    → ((first : Psbt) (others : List Psbt) → AreKept parts first others → CombinesOr (P first others) (Err why) (other_psbt first line)) → CombinesOr Q (Err why) all
step_stops P Q (stop.Refused refusal) parts all line lines h refused = h.same ∙ other_refused h.first h.others line lines refusal (refused h.first h.others h.kept)
step_stops P Q stop.Memory parts all line lines h refused = tt

pub all_read : (parts : held.Parts) (all : Result Parts CombineRefusal) → SoFar parts all [] → (x : Parts) × (all ≡ Ok x) × AreKept parts x.first x.others
all_read parts all h = (record { first = h.first; others = h.others }, h.same ∙ all_given h.first h.others, h.kept)

pub first_stops : {U V : Type 0} (P : U → Psbt → Type 0) (Q : V → Parts → Type 0) (why : CombineStop) (line : Line) (lines : List Line)
    → CombinesOr P (Err why) (line_psbt line) → CombinesOr Q (Err why) (line_parts (line ∷ lines))
first_stops P Q (stop.Refused refusal) line lines h = first_refused line lines refusal h
first_stops P Q stop.Memory line lines h = tt

pub same_stop : {U V : Type 0} (P : U → Parts → Type 0) (Q : V → Parts → Type 0) (why : CombineStop) (reading all : Result Parts CombineRefusal) → all ≡ reading
    → CombinesOr P (Err why) reading → CombinesOr Q (Err why) all
same_stop P Q (stop.Refused refusal) reading all e h = e ∙ h
same_stop P Q stop.Memory reading all e h = tt
