-- What a proof unfolds so that children of keys compute, passed on from one place. Declares nothing.
unfoldable pub use Rattle.hex.specs.Hex.{decode_pairs}
unfoldable pub use Rattle.sha2.specs.Sha512.{
  sha512,
  first_words as words512,
  schedule as schedule512,
  rounds as rounds512,
  compress as compress512,
  hash_after as hash_after512,
  digest_bytes as digest_bytes512,
}
unfoldable pub use Rattle.def_hash.proofs.Computing.{
  sha256,
  sha_words,
  sha_schedule,
  sha_rounds,
  sha_compress,
  sha_hash_after,
  sha_digest_bytes,
  ripemd160,
  ripemd_words,
  ripemd_step,
  left_line,
  right_line,
  combined,
  ripemd_compress,
  ripemd_hash_after,
  ripemd_digest_bytes,
  hash160,
  hash256,
}
unfoldable pub use Rattle.def_curve.proofs.Computing.{power, on_line, double, chord, ◌⊕◌, multiple, lift}
unfoldable pub use Rattle.def_address.proofs.Computing.{shortest_digits, base58_check, read_base58_check}
unfoldable pub use Rattle.def_derive.specs.Hmac.{hmac_sha512}
unfoldable pub use Rattle.def_derive.specs.Extended.{read_extended, extended_text, extended_of}
unfoldable pub use Rattle.def_derive.specs.Child.{child_by, child, descendant, extended_child}
