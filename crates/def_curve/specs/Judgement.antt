-- What consensus and policy say of a signature (BIP 66: strict DER; BIP 146: low s; Bitcoin Core: `CheckECDSASignature`, `IsLowDERSignature`).
use Rattle.std.specs.Prelude.{ℕ, ◌*◌, ◌==◌, nat_lt, if◌then◌else◌, drop, length, Option, Some, None}
use Rattle.def_script.specs.Bytes.{Bytes}
use Rattle.def_psbt.specs.Forms.{is_signature, two_numbers}
use Rattle.def_curve.specs.declared.Judgement.{Judgement}
use Rattle.def_curve.specs.declared.Judgement.TheVariants.{Bad, High, Good}
use Rattle.def_curve.specs.Curve.{n}
use Rattle.def_curve.specs.Point.{Point}
use Rattle.def_curve.specs.Key.{number_of, point_of}
use Rattle.def_curve.specs.Ecdsa.{is_signature_by}

-- both numbers of a signature in strict DER with its hash type behind
abbrev pub numbers_of : Bytes → Option (Bytes × Bytes)
numbers_of signature = if is_signature signature then two_numbers (drop 2 signature) else None

-- what the numbers r and s are, by a key and of the number e of a hash
abbrev pub judged : (key : Point) (e r s : ℕ) → Judgement
judged key e r s =
    let relayed = (if nat_lt n (2 * s) then High else Good) in
    if is_signature_by key e r s then relayed else Bad

abbrev pub judged_by : (hash : Bytes) → (key : Option Point) (numbers : Option (Bytes × Bytes)) → Judgement
judged_by hash (Some key) (Some numbers) = if length hash == 32 then judged key (number_of hash) (number_of numbers.0) (number_of numbers.1) else Bad
judged_by hash key numbers = Bad

-- the judgement of a signature with its hash type behind, by a key and for a hash
unfoldable pub judge : (key hash signature : Bytes) → Judgement
judge key hash signature = judged_by hash (point_of key) (numbers_of signature)
