-- What a proof unfolds so that points, keys and signatures compute, passed on from one place. Declares nothing.
unfoldable pub use Rattle.hex.specs.Hex.{decode_pairs}
unfoldable pub use Rattle.def_psbt.specs.Part.{first_bytes}
unfoldable pub use Rattle.def_psbt.specs.Forms.{first_der_number, is_signature}
unfoldable pub use Rattle.def_curve.specs.Modular.{power}
unfoldable pub use Rattle.def_curve.specs.Point.{on_line, double, chord, ◌⊕◌, multiple}
unfoldable pub use Rattle.def_curve.specs.Key.{lift}
unfoldable pub use Rattle.def_curve.specs.Ecdsa.{sum_of, is_signature_by}
unfoldable pub use Rattle.def_curve.specs.Judgement.{judge}
