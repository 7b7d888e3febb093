-- Key expressions (BIP 380, "Key Expressions"; BIP 389).
use Rattle.std.specs.Prelude.{ℕ, List, Option}
use Rattle.def_script.specs.Bytes.{Bytes}
use Rattle.def_derive.specs.Extended.{Extended}

-- where a key comes from: a fingerprint, and the numbers of the steps from there
pub record Origin : Type 0 where
  pub print : Bytes
  pub steps : List ℕ

-- a step behind an extended key: a number, the number of the branch (`<..;..>`), or the index (`*`)
pub data Way : Type 0 where
  number : (n : ℕ) → Way
  branches : (numbers : List ℕ) → Way
  index : Way

-- a compressed key, or an extended one with the steps behind it
pub data Named : Type 0 where
  point : (key : Bytes) → Named
  extended : (key : Extended) → (ways : List Way) → Named

-- a key expression, with its offset in the text
pub record Expression : Type 0 where
  pub at : ℕ
  pub origin : Option Origin
  pub named : Named
