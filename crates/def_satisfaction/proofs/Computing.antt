-- What a proof unfolds so that runs, digests and locks compute.
use Rattle.def_hash.proofs.Computing.{decode_pairs, sha256, sha_words, sha_schedule, sha_rounds, sha_compress, sha_hash_after, sha_digest_bytes, ripemd160, ripemd_words, ripemd_step, left_line, right_line, combined, ripemd_compress, ripemd_hash_after, ripemd_digest_bytes, hash160}
use Rattle.def_script.specs.Items.{first_item, items_after}
use Rattle.def_script.specs.Sizes.{size_bytes}
use Rattle.def_machine.specs.Locks.{after_holds, older_holds}
use Rattle.def_machine.specs.Effects.{condition, verify, to_alt_stack, from_alt_stack, if_dup, dup, swap, size, equal, operand, one_number, two_numbers, zero_not_equal, add, bool_and, bool_or, hash, check_sig, lock}
use Rattle.def_machine.specs.MultiSig.{count, some_off, one_off, within_op_limit, tries, verdict, null_dummy, check_multi_sig}
use Rattle.def_machine.specs.Machine.{open_branch, turned, closed, act, pushed, carry_out, settle, step}
use Rattle.def_machine.specs.Run.{start, steps, finish, run}

unfoldable pub computing : Unit {0}
unfolding run start steps step settle carry_out act pushed within_op_limit open_branch turned closed condition verify to_alt_stack from_alt_stack if_dup dup
    swap size equal operand one_number two_numbers zero_not_equal add bool_and bool_or hash check_sig lock count some_off one_off tries verdict null_dummy
    check_multi_sig after_holds older_holds finish first_item items_after decode_pairs sha256 sha_words sha_schedule sha_rounds sha_compress sha_hash_after
    sha_digest_bytes ripemd160 ripemd_words ripemd_step left_line right_line combined ripemd_compress ripemd_hash_after ripemd_digest_bytes hash160 size_bytes
computing = tt
