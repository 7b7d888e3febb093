-- What a text answers, by what is computed of it.
use Rattle.std.proofs.Common.{◌≡◌, ℕ, Bool, true, List, ◌++◌, length, sym, subst, Option, Some, None, Result, Ok, Err}
use Rattle.std.specs.Prelude.{nat_le}
use Rattle.std.specs.Char.{is_ascii}
use Rattle.std.specs.List.{list_all}
use Rattle.std.proofs.lemmas.Bool.{leb-true}
use Rattle.def_script.specs.Bytes.{Bytes}
use Rattle.def_tree.specs.Tree.{Tree}
use Rattle.def_text.specs.declared.TextFault.TheVariants as text_fault
use Rattle.def_text.specs.Token.{tokens}
use Rattle.def_text.specs.Refusal.{MOST_BYTES, TextReads}
use Rattle.def_text.specs.Scaffolding.Reader.{START, tree_outcome, syntax_outcome, deep_outcome, outcome}
use Rattle.def_text.proofs.ByMachine.{syntax_at, deep_at, read_as}
use Rattle.def_descriptor.specs.declared.DescriptorFault.{DescriptorFault}
use Rattle.def_descriptor.specs.Token.{mapped}
use Rattle.def_descriptor.specs.Pieces.{Piece}
use Rattle.def_descriptor.specs.Parts.{Found, read_parts, read_tail}
use Rattle.def_descriptor.specs.Answer.{Descriptor, sample, stop, refusal_of, pieces_of, IsRead, Answers, wrong_parts, wrong_miniscript, right_parts}

pub refused : (text : Bytes) (why : DescriptorFault) → nat_le (length text) MOST_BYTES ≡ true → read_parts text ≡ Err why → Answers text (Err why)
refused text why short h = wrong_parts (leb-true (length text) MOST_BYTES short) h

pub refused_within : (text : Bytes) (under : Bool) (found : Found) (ps : List Piece) (at : ℕ) (why : DescriptorFault) →
    nat_le (length text) MOST_BYTES ≡ true → read_parts text ≡ Ok (under, found) → pieces_of found.body ≡ Some ps →
    list_all is_ascii (sample ps ++ stop found.refused) ≡ true → nat_le (length (sample ps ++ stop found.refused)) MOST_BYTES ≡ true →
    outcome START (tokens (sample ps ++ stop found.refused)) ≡ syntax_outcome at → refusal_of ps found (text_fault.Syntax at) ≡ why → Answers text (Err why)
refused_within text under found ps at why short parts pieces ascii small h e =
    subst (λ (z : DescriptorFault). Answers text (Err z)) e
    (wrong_miniscript (text_fault.Syntax at) (leb-true (length text) MOST_BYTES short) parts pieces (syntax_at (sample ps ++ stop found.refused) at ascii small h))

pub deep_within : (text : Bytes) (under : Bool) (found : Found) (ps : List Piece) (at : ℕ) (why : DescriptorFault) →
    nat_le (length text) MOST_BYTES ≡ true → read_parts text ≡ Ok (under, found) → pieces_of found.body ≡ Some ps →
    list_all is_ascii (sample ps ++ stop found.refused) ≡ true → nat_le (length (sample ps ++ stop found.refused)) MOST_BYTES ≡ true →
    outcome START (tokens (sample ps ++ stop found.refused)) ≡ deep_outcome at → refusal_of ps found (text_fault.TooDeep at) ≡ why → Answers text (Err why)
deep_within text under found ps at why short parts pieces ascii small h e =
    subst (λ (z : DescriptorFault). Answers text (Err z)) e
    (wrong_miniscript (text_fault.TooDeep at) (leb-true (length text) MOST_BYTES short) parts pieces (deep_at (sample ps ++ stop found.refused) at ascii small h))

-- the parts are right, and so is what stands behind them
right : (text : Bytes) (under : Bool) (found : Found) (count : ℕ) → nat_le (length text) MOST_BYTES ≡ true → read_parts text ≡ Ok (under, found) →
    IsRead (pieces_of found.body) found → read_tail text under found.rest ≡ Ok count →
    Answers text (Ok (record { under = under; body = found.body; length = count }))
right text under found count short parts read tail =
    let whole : ℕ → Descriptor = λ count. record { under = under; body = found.body; length = count } in
    subst (λ (z : Result ℕ DescriptorFault). Answers text (mapped whole z)) tail (right_parts (leb-true (length text) MOST_BYTES short) parts read)

pub right_key : (text : Bytes) (under : Bool) (found : Found) (count : ℕ) → nat_le (length text) MOST_BYTES ≡ true → read_parts text ≡ Ok (under, found) →
    pieces_of found.body ≡ None → read_tail text under found.rest ≡ Ok count →
    Answers text (Ok (record { under = under; body = found.body; length = count }))
right_key text under found count short parts none tail =
    right text under found count short parts (subst (λ (z : Option (List Piece)). IsRead z found) (sym none) tt) tail

pub right_text : (text : Bytes) (under : Bool) (found : Found) (ps : List Piece) (tree : Tree) (offsets : List ℕ) (count : ℕ) →
    nat_le (length text) MOST_BYTES ≡ true → read_parts text ≡ Ok (under, found) → pieces_of found.body ≡ Some ps →
    list_all is_ascii (sample ps ++ stop found.refused) ≡ true → nat_le (length (sample ps ++ stop found.refused)) MOST_BYTES ≡ true →
    outcome START (tokens (sample ps ++ stop found.refused)) ≡ tree_outcome tree offsets → read_tail text under found.rest ≡ Ok count →
    Answers text (Ok (record { under = under; body = found.body; length = count }))
right_text text under found ps tree offsets count short parts pieces ascii small h tail =
    let read : TextReads (sample ps ++ stop found.refused) tree offsets = read_as (sample ps ++ stop found.refused) tree offsets ascii small h in
    right text under found count short parts (subst (λ (z : Option (List Piece)). IsRead z found) (sym pieces) (tree, offsets, read)) tail

-- what stands behind a single key is refused
pub refused_behind : (text : Bytes) (under : Bool) (found : Found) (why : DescriptorFault) → nat_le (length text) MOST_BYTES ≡ true →
    read_parts text ≡ Ok (under, found) → pieces_of found.body ≡ None → read_tail text under found.rest ≡ Err why → Answers text (Err why)
refused_behind text under found why short parts none tail =
    let whole : ℕ → Descriptor = λ count. record { under = under; body = found.body; length = count } in
    let read : IsRead (pieces_of found.body) found = subst (λ (z : Option (List Piece)). IsRead z found) (sym none) tt in
    subst (λ (z : Result ℕ DescriptorFault). Answers text (mapped whole z)) tail (right_parts (leb-true (length text) MOST_BYTES short) parts read)
