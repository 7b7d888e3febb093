-- How each text is spelled.
use Rattle.std.proofs.Common.{[], ◌∷◌, refl}
use Rattle.hex.proofs.OnLiterals.{hex_on_literals}
use Rattle.def_tree.specs.declared.Two.TheVariants.{AndV, OrD}
use Rattle.def_tree.specs.declared.Wrapper.TheVariants.{V}
use Rattle.def_text.specs.Letter.{letter_of_wrapper, letter_t, letter_l}
use Rattle.def_text.specs.Spells.{text_1, text_pk, text_pkh, text_older, text_two, text_letters, text_whole}
use Rattle.def_text.proofs.examples.trees_hold.Goals as goal

pub returns : goal.returns
unfolding hex_on_literals
returns c = record {
  pk = text_whole 70 (text_pk refl);
  or_d = text_whole 168
      (text_two OrD 75 167 (text_pk refl)
      (text_two AndV 155 166 (text_letters (letter_of_wrapper V) [] (text_pkh refl)) (text_older refl)));
  sugar = text_whole 5 (text_letters letter_l [] (text_letters letter_t [] text_1));
  group = text_whole 4 (text_letters letter_l (letter_t ∷ []) text_1);
}
