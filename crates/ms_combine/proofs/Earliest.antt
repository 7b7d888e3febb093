-- What is found of a place says whether it is the first with its key.
use Rattle.std.proofs.Common.{◌≡◌, ℕ, not, nat_lt, Bool, true, false, List, get_or, sym, ap, arith}
use Rattle.std.specs.List.Sorted.{IsPermutation}
use Rattle.std.specs.Str.{bytes_eq}
use Rattle.std.proofs.lemmas.Bool.{and_parts, and_from, lt-ltb, ltb-true, false_from_ne_true}
use Rattle.std.proofs.lemmas.List.Folds.{list_any_at, list_any_none}
use Rattle.std.proofs.lemmas.List.Sorted.{list_any-IsPermutation}
use Rattle.std.proofs.lemmas.Slice.Eq.{bytes_eq-Decides}
use Rattle.def_script.specs.Bytes.{Bytes}
use Rattle.ms_combine.specs.declared.keys.Marked.{Marked}
use Rattle.ms_combine.specs.Scaffolding.Places.{key_at}
use Rattle.ms_combine.specs.Scaffolding.Earliest.{is_earlier, is_earliest}
use Rattle.ms_combine.specs.Scaffolding.Order.{IsFirst}

pub earliest_is : (bytes : Bytes) (order : List Marked) (place : ℕ) (b : Bool) → IsFirst bytes order place b → is_earliest bytes order place ≡ b
earliest_is bytes order place true first =
    ap not (list_any_none (is_earlier bytes place) order (λ k d inside. false_from_ne_true (is_earlier bytes place (get_or order k d)) (λ is.
    let both = and_parts (nat_lt (get_or order k d).place place) (bytes_eq (key_at bytes place) (key_at bytes (get_or order k d).place)) is in
    let less = ltb-true (get_or order k d).place place both.0 in
    let least = first k d inside (sym ((bytes_eq-Decides (key_at bytes place) (key_at bytes (get_or order k d).place)).0 both.1)) in
    omega (arith, less, least))))
earliest_is bytes order place false found =
    let d : Marked = record { mark = 0; place = 0 } in
    ap not (list_any_at (is_earlier bytes place) order found.at d found.inside
    (and_from (nat_lt (get_or order found.at d).place place) (bytes_eq (key_at bytes place) (key_at bytes (get_or order found.at d).place))
    (lt-ltb (get_or order found.at d).place place (found.earlier d))
    ((bytes_eq-Decides (key_at bytes place) (key_at bytes (get_or order found.at d).place)).1 (sym (found.same d)))))

-- the order of places tells nothing
pub same_earliest : (bytes : Bytes) (before order : List Marked) (place : ℕ) → IsPermutation before order → is_earliest bytes order place ≡ is_earliest bytes before place
same_earliest bytes before order place same = ap not (sym (list_any-IsPermutation (is_earlier bytes place) before order same))
