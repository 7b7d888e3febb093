-- What a proof unfolds so that an address or a checksum computes, passed on from one place. Declares nothing.
unfoldable pub use Rattle.hex.specs.Hex.{decode_pairs}
unfoldable pub use Rattle.def_hash.proofs.Computing.{sha256, sha_words, sha_schedule, sha_rounds, sha_compress, sha_hash_after, sha_digest_bytes, hash256}
unfoldable pub use Rattle.def_address.specs.Digits.{shortest_digits, fixed_digits}
unfoldable pub use Rattle.def_address.specs.Base58.{base58_check, read_base58_check}
unfoldable pub use Rattle.def_address.specs.Bech32.{program_address, read_program}
unfoldable pub use Rattle.def_address.specs.DescriptorSum.{descriptor_sum}
unfoldable pub use Rattle.def_address.specs.Address.{address_of, script_at}
