-- The entries of the tables are in range.
use Rattle.std.proofs.Common.{ℕ, ◌<◌, nat_lt, slice_index, refl}
use Rattle.std.proofs.lemmas.Bool.{ltb-true}
use Rattle.std.proofs.lemmas.List.Sums.{AllPass-from_list_all}
use Rattle.def_hash.specs.Ripemd.{left_words, right_words}

pub left_word_below : (j : ℕ) → j < 80 → slice_index left_words j < 16
left_word_below j low = ltb-true _ 16 (AllPass-from_list_all (λ x. nat_lt x 16) left_words refl j 0 low)

pub right_word_below : (j : ℕ) → j < 80 → slice_index right_words j < 16
right_word_below j low = ltb-true _ 16 (AllPass-from_list_all (λ x. nat_lt x 16) right_words refl j 0 low)
