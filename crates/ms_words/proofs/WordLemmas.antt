-- Numbers that are written in decimal.
use Rattle.std.proofs.Common.{◌≡◌, ◌≢◌, ℕ, Ok, Err, decimal, arith, sym, ◌∙◌, subst}
use Rattle.std.specs.Prelude.{Result}
use Rattle.std.specs.Str.Parse.{ParsesUnsigned}
use Rattle.std.proofs.lemmas.Fmt.{parse-decimal}
use Rattle.def_script.specs.Bytes.{Bytes}
use Rattle.def_answer.specs.Words.{IsCommand, gen}

-- the decimal form of a number of `gen` is read as that number
read_as : {E : Type 0} (word : Bytes) (m : ℕ) (r : Result ℕ E) → IsCommand (gen m) → word ≡ decimal m → ParsesUnsigned 32 10 word r → r ≡ Ok m
read_as word m r in_range is parses = parse-decimal 32 m word r (omega (arith, in_range.1)) (omega (arith, in_range.1)) is parses

-- a word that isn't read is the decimal form of none
pub none_unread : {E : Type 0} (word : Bytes) (e : E) (m : ℕ) (r : Result ℕ E) → r ≡ Err e → IsCommand (gen m) → ParsesUnsigned 32 10 word r
    → word ≢ decimal m
none_unread word e m r unread in_range parses is = cc (sym unread ∙ read_as word m r in_range is parses)

one_number : {E : Type 0} (word : Bytes) (n m : ℕ) (r : Result ℕ E) → r ≡ Ok n → IsCommand (gen m) → ParsesUnsigned 32 10 word r → word ≡ decimal m
    → n ≡ m
one_number word n m r read in_range parses is = cc (sym read ∙ read_as word m r in_range is parses)

-- nor is one that is read as another number
pub none_outside : {E : Type 0} (word : Bytes) (n m : ℕ) (r : Result ℕ E) → r ≡ Ok n → ¬ IsCommand (gen n) → IsCommand (gen m)
    → ParsesUnsigned 32 10 word r → word ≢ decimal m
none_outside word n m r read outside in_range parses is =
    outside (subst (λ k. IsCommand (gen k)) (sym (one_number word n m r read in_range parses is)) in_range)

-- nor one that is written otherwise
pub none_otherwise : {E : Type 0} (word : Bytes) (n m : ℕ) (r : Result ℕ E) → r ≡ Ok n → word ≢ decimal n → IsCommand (gen m)
    → ParsesUnsigned 32 10 word r → word ≢ decimal m
none_otherwise word n m r read other in_range parses is =
    other (subst (λ k. word ≡ decimal k) (sym (one_number word n m r read in_range parses is)) is)
