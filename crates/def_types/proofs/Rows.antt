-- `unfolding correctness_rows` opens every row of the correctness types, `unfolding malleability_rows` those of the
-- malleability properties.
use Rattle.def_types.specs.Correctness as correctness_of
use Rattle.def_types.specs.Malleable as malleability_of

unfoldable pub correctness_rows : Unit {0}
unfolding correctness_of.just_0_row correctness_of.just_1_row correctness_of.pk_k_row correctness_of.pk_h_row correctness_of.older_row correctness_of.after_row
    correctness_of.hash_row correctness_of.and_or_row correctness_of.and_v_row correctness_of.and_b_row
    correctness_of.or_b_row correctness_of.or_c_row correctness_of.or_d_row correctness_of.or_i_row correctness_of.two_row correctness_of.thresh_row
    correctness_of.multi_row correctness_of.wrap_a_row correctness_of.wrap_s_row correctness_of.wrap_c_row
    correctness_of.wrap_d_row correctness_of.wrap_v_row correctness_of.wrap_j_row correctness_of.wrap_n_row correctness_of.wrap_row
correctness_rows = tt

unfoldable pub malleability_rows : Unit {0}
unfolding malleability_of.just_0_row malleability_of.just_1_row malleability_of.key_row malleability_of.lock_row malleability_of.hash_row
    malleability_of.and_or_row malleability_of.and_v_row malleability_of.and_b_row malleability_of.or_b_row malleability_of.or_c_row
    malleability_of.or_d_row malleability_of.or_i_row malleability_of.two_row malleability_of.thresh_row malleability_of.wrap_c_row malleability_of.wrap_d_row
    malleability_of.wrap_v_row malleability_of.wrap_j_row malleability_of.wrap_row
malleability_rows = tt
