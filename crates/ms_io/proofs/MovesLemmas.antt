-- Moves of bytes that follow one another.
use Rattle.std.proofs.Common.{ℕ, ◌≡◌, ◌-◌, ◌+◌, ◌<◌, ◌≤◌, List, ◌++◌, length, take, drop, sym, ◌∙◌, ap, subst, append_assoc, length-append, length-take, arith}
use Rattle.std.proofs.lemmas.List.{take-append-drop, take_rest}
use Rattle.std.proofs.Math.Seq.{take-append_seam}
use Rattle.std.proofs.KnownBytes.{Appends-trans, Appends-kept, Consumes-trans}
use Rattle.std.specs.declared.option.Option.{Option}
use Rattle.std.specs.Io.KnownBytes.{Appends, Consumes, Keeps}
use Rattle.ms_io.specs.Calls.{Offers, one_call, Gives, one_read}
use Rattle.ms_io.specs.Moves.{AppendsPrefix, GivesWithin, GivesOver}
use Rattle.ms_io.specs.Scaffolding.Writing.{WritesSoFar}

-- one more piece was taken
pub writes_more : (old now new : Option (List ℕ)) (bytes rest : List ℕ) (n : ℕ) → WritesSoFar old now bytes rest → Appends now new (take n rest)
    → WritesSoFar old new bytes (take (length rest - n) (drop n rest))
writes_more old now new bytes rest n so_far taken = record {
  done = so_far.done ++ take n rest;
  whole =
      so_far.whole ∙ ap (λ r. so_far.done ++ r) (sym (take-append-drop n rest) ∙ ap (λ r. take n rest ++ r) (sym (take_rest rest n)))
      ∙ sym (append_assoc so_far.done (take n rest) (take (length rest - n) (drop n rest)));
  appended = Appends-trans old now new so_far.done (take n rest) so_far.appended taken;
}

-- one more piece was taken by a call that was offered all that was left
pub offers_more : {Sink : Type 0} (takes : Sink → List ℕ → ℕ → Sink → Type 0) (old now next : Sink) (bytes rest : List ℕ) (n : ℕ)
    → Offers takes old bytes now rest → 0 < length rest → takes now rest n next
    → Offers takes old bytes next (take (length rest - n) (drop n rest))
offers_more takes old now next bytes rest n offered left taken =
    subst (Offers takes old bytes next) (sym (take_rest rest n)) (one_call now next rest n offered left taken)

-- nothing more was taken: what was written is a prefix
pub writes_stop : (old now new : Option (List ℕ)) (bytes rest : List ℕ) → WritesSoFar old now bytes rest → Keeps now new → AppendsPrefix old new bytes
writes_stop old now new bytes rest so_far kept = record {
  count = length so_far.done;
  at_most = let e : length bytes ≡ length so_far.done + length rest = ap length so_far.whole ∙ length-append so_far.done rest in omega (arith, e);
  appended =
      let front : take (length so_far.done) bytes ≡ so_far.done = ap (take (length so_far.done)) so_far.whole ∙ take-append_seam so_far.done rest in
      let P : List ℕ → Type 0 = λ taken. Appends old new taken in
      subst P (sym front) (Appends-kept old now new so_far.done so_far.appended kept);
}

-- with one more piece, more was given than a limit
pub gives_over : (old now new : Option (List ℕ)) (done more : List ℕ) (limit : ℕ) → Consumes old now done → Consumes now new more → limit < length done + length more → GivesOver old new limit
gives_over old now new done more limit before then over = record {
  bytes = done ++ more;
  over = omega (arith, length-append done more);
  given = Consumes-trans old now new done more before then;
}

-- with one more piece, no more was given than a limit
pub gives_within : (old now new : Option (List ℕ)) (done more : List ℕ) (limit : ℕ) → Consumes old now done → Consumes now new more → length done + length more ≤ limit → GivesWithin old new limit
gives_within old now new done more limit before then within = record {
  bytes = done ++ more;
  within = omega (arith, length-append done more);
  given = Consumes-trans old now new done more before then;
}

-- with one more piece, all of both was given
pub consumes_more : (old now new : Option (List ℕ)) (done more items : List ℕ) → Consumes old now done → Consumes now new more → items ≡ done ++ more → Consumes old new items
consumes_more old now new done more items before then e = subst (Consumes old new) (sym e) (Consumes-trans old now new done more before then)

-- one more piece was given by a call
pub gives_more : {Source : Type 0} (gives : Source → ℕ → List ℕ → Source → Type 0) (old now next : Source) (bytes buffer items : List ℕ) (room n : ℕ)
    → Gives gives old now bytes → 0 < n → n ≤ length buffer
    → gives now room (take n buffer) next → items ≡ bytes ++ take n buffer → Gives gives old next items
gives_more gives old now next bytes buffer items room n given more short last e =
    subst (Gives gives old next) (sym e) (one_read now next bytes (take n buffer) room given (omega (arith, more, short, length-take n buffer)) last)
