-- Bytes that go through a buffer one after the other.
use Rattle.std.proofs.Common.{Bool, false, Option, Result, Ok, Err, refl, ◌≡◌, inl, inr, ℕ, ◌+◌, ◌≤◌, List, [], ◌++◌, length, take, drop, sym, ap, subst, ◌∙◌, append_assoc, append-nil, length-append, arith}
use Rattle.std.proofs.Math.Seq.{take-append_seam}
use Rattle.std.proofs.lemmas.List.{take-append-drop}
use Rattle.std.proofs.KnownBytes.{Appends-nil, Appends-trans}
use Rattle.std.specs.Prelude.{MatchResult, if◌then◌else◌}
use Rattle.std.specs.Io.KnownBytes.{Appends}
use Rattle.ms_io.specs.Sides.{Rose}
use Rattle.ms_io.specs.Faults.{HasCause}
use Rattle.ms_io.specs.Moves.{AppendsPrefix}
use Rattle.ms_io.specs.Sides.{Side}
use Rattle.ms_lines.specs.Through.{Passes, PassesOrFails}

abbrev Known : Type 0
Known = Option (List ℕ)

-- ---- prefixes

pub prefix_of : (old new : Known) (bytes front rest : List ℕ) → bytes ≡ front ++ rest → Appends old new front → AppendsPrefix old new bytes
prefix_of old new bytes front rest e appended = record {
  count = length front;
  at_most = let l : length bytes ≡ length front + length rest = ap length e ∙ length-append front rest in omega (arith, l);
  appended = subst (λ (taken : List ℕ). Appends old new taken) (sym (ap (take (length front)) e ∙ take-append_seam front rest)) appended;
}

-- a prefix of more bytes
pub prefix_more : (old new : Known) (bytes more whole : List ℕ) → whole ≡ bytes ++ more → AppendsPrefix old new bytes → AppendsPrefix old new whole
prefix_more old new bytes more whole e p =
    prefix_of old new whole (take p.count bytes) (drop p.count bytes ++ more)
    (e ∙ ap (λ b. b ++ more) (sym (take-append-drop p.count bytes)) ∙ append_assoc (take p.count bytes) (drop p.count bytes) more) p.appended

-- a prefix behind what was written
pub prefix_behind : (old mid new : Known) (front bytes whole : List ℕ) → whole ≡ front ++ bytes → Appends old mid front → AppendsPrefix mid new bytes
    → AppendsPrefix old new whole
prefix_behind old mid new front bytes whole e before p =
    prefix_of old new whole (front ++ take p.count bytes) (drop p.count bytes)
    (e ∙ ap (λ b. front ++ b) (sym (take-append-drop p.count bytes)) ∙ sym (append_assoc front (take p.count bytes) (drop p.count bytes)))
    (Appends-trans old mid new front (take p.count bytes) before p.appended)

-- ---- through the buffer

-- what was done to a sink by one call and then by another
abbrev pub joined : (first second : Side) → Side
joined first second = record { old = first.old; new = second.new; before = first.before; now = second.now }

-- bytes weren't held
pub not_held : (held : Bool) (old new bytes : List ℕ) → new ≡ (if held then old ++ bytes else old) → held ≡ false → new ≡ old
not_held held old new bytes e none = e ∙ ap (λ b. if b then old ++ bytes else old) none

-- all was held
pub held_more : (old : Known) (held rest bytes : List ℕ) → rest ≡ held ++ bytes → Passes old old held rest bytes
held_more old held rest bytes e = record { front = []; written = Appends-nil old; whole = e }

-- all was written
pub written_all : (old new : Known) (held rest bytes : List ℕ) → rest ≡ [] → Appends old new (held ++ bytes) → Passes old new held rest bytes
written_all old new held rest bytes none appended =
    record { front = held ++ bytes; written = appended; whole = ap (λ r. (held ++ bytes) ++ r) none ∙ append-nil (held ++ bytes) }

-- nothing was held before
put_at_once : {F : Type 0} (sink : Side) (kept bytes : List ℕ) (r : Result Unit F) → kept ≡ []
    → MatchResult r (λ _. Appends sink.old sink.new bytes) (λ _. AppendsPrefix sink.old sink.new bytes)
    → MatchResult r (λ _. Passes sink.old sink.new kept kept bytes) (λ _. AppendsPrefix sink.old sink.new (kept ++ bytes))
put_at_once sink kept bytes (Ok x) none b =
    subst (λ (k : List ℕ). Passes sink.old sink.new k k bytes) (sym none) (record { front = bytes; written = b; whole = append-nil bytes })
put_at_once sink kept bytes (Err x) none b = subst (λ (k : List ℕ). AppendsPrefix sink.old sink.new (k ++ bytes)) (sym none) b

-- one after the other
pub passes_then : (old mid new : Known) (held kept rest one two : List ℕ) → Passes old mid held kept one → Passes mid new kept rest two
    → Passes old new held rest (one ++ two)
passes_then old mid new held kept rest one two a b = record {
  front = a.front ++ b.front;
  written = Appends-trans old mid new a.front b.front a.written b.written;
  whole =
      append_assoc a.front b.front rest ∙ ap (λ l. a.front ++ l) b.whole ∙ sym (append_assoc a.front kept two)
      ∙ ap (λ l. l ++ two) a.whole ∙ append_assoc held one two;
}

fails_then : (old mid new : Known) (held kept one two : List ℕ) → Passes old mid held kept one → AppendsPrefix mid new (kept ++ two)
    → AppendsPrefix old new (held ++ (one ++ two))
fails_then old mid new held kept one two a p =
    prefix_behind old mid new a.front (kept ++ two) (held ++ (one ++ two))
    (sym (append_assoc held one two) ∙ ap (λ l. l ++ two) (sym a.whole) ∙ append_assoc a.front kept two) a.written p

pub rose_later : (a b c : ℕ) → a ≤ b → Rose b c → Rose a c
rose_later a b c few (inl up) = inl (omega (arith, few, up))
rose_later a b c few (inr last) = inr last

-- a call that passed, and then another one
pub through_then : {E F : Type 0} (first second : Side) (held kept rest one two whole : List ℕ) (r : Result Unit F)
    → first.new ≡ second.old → first.now ≡ second.before → whole ≡ one ++ two
    → PassesOrFails {E = E} first held kept one (Ok tt) → PassesOrFails second kept rest two r
    → PassesOrFails (joined first second) held rest whole r
through_then first second held kept rest one two whole (Ok x) joins counted e a b = (
  subst (Passes first.old second.new held rest) (sym e)
      (passes_then first.old second.old second.new held kept rest one two
      (subst (λ (mid : Known). Passes first.old mid held kept one) joins a.0) b.0),
  record { later = let f = a.1.later in let s = b.1.later in omega (arith, f, s, counted); failed = tt },
)
through_then first second held kept rest one two whole (Err x) joins counted e a b = (
  subst (λ (bytes : List ℕ). AppendsPrefix first.old second.new (held ++ bytes)) (sym e)
      (fails_then first.old second.old second.new held kept one two
      (subst (λ (mid : Known). Passes first.old mid held kept one) joins a.0) b.0),
  record {
    later = let f = a.1.later in let s = b.1.later in omega (arith, f, s, counted);
    failed = rose_later first.before second.before second.now (let f = a.1.later in omega (arith, f, counted)) b.1.failed;
  },
)

-- what was held was written, and then this
pub written_behind : {E F : Type 0} (first second : Side) (held bytes : List ℕ) (r : Result Unit F) (kept : List ℕ) → first.new ≡ second.old → first.now ≡ second.before
    → kept ≡ [] → PassesOrFails {E = E} first held kept [] (Ok tt) → MatchResult r (λ _. Appends second.old second.new bytes) (λ _. AppendsPrefix second.old second.new bytes)
    → HasCause second.before second.now r → PassesOrFails (joined first second) held kept bytes r
written_behind {E} {F} first second held bytes r kept joins counted none a b cause =
    through_then {E = E} {F = F} first second held kept kept [] bytes bytes r joins counted refl a (put_at_once second kept bytes r none b, cause)

-- a call that failed, after which no other came
pub through_short : {E F : Type 0} (sink : Side) (held kept rest bytes more whole : List ℕ) (x : E) (y : F) → whole ≡ bytes ++ more
    → PassesOrFails sink held kept bytes (Err x) → PassesOrFails sink held rest whole (Err y)
through_short sink held kept rest bytes more whole x y e a = (
  prefix_more sink.old sink.new (held ++ bytes) more (held ++ whole) (ap (λ l. held ++ l) e ∙ sym (append_assoc held bytes more)) a.0,
  record { later = a.1.later; failed = a.1.failed },
)

-- a call that passed, and then one that failed, after which no other came
pub through_stop : {E F : Type 0} (first second : Side) (held mid kept rest one two more whole : List ℕ) (x : E) (y : F)
    → first.new ≡ second.old → first.now ≡ second.before → whole ≡ (one ++ two) ++ more
    → PassesOrFails {E = E} first held mid one (Ok tt) → PassesOrFails second mid kept two (Err x)
    → PassesOrFails (joined first second) held rest whole (Err y)
through_stop {E} {F} first second held mid kept rest one two more whole x y joins counted e a b =
    through_short (joined first second) held kept rest (one ++ two) more whole x y e
    (through_then {E = E} {F = E} first second held mid kept one two (one ++ two) (Err x) joins counted refl a b)
