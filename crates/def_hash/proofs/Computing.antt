-- What a proof unfolds so that a digest or a text of digits computes, passed on from one place. Declares nothing.
unfoldable pub use Rattle.hex.specs.Hex.{decode_pairs}
unfoldable pub use Rattle.sha2.specs.Sha256.{
  sha256,
  first_words as sha_words,
  schedule as sha_schedule,
  rounds as sha_rounds,
  compress as sha_compress,
  hash_after as sha_hash_after,
  digest_bytes as sha_digest_bytes,
}
unfoldable pub use Rattle.def_hash.specs.Ripemd.{
  ripemd160,
  block_words as ripemd_words,
  step as ripemd_step,
  left_line,
  right_line,
  combined,
  compress as ripemd_compress,
  hash_after as ripemd_hash_after,
  digest_bytes as ripemd_digest_bytes,
}
unfoldable pub use Rattle.def_hash.specs.Hash.{hash160, hash256}
