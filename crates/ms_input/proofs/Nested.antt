-- The redeem script of a P2SH output of a known kind is short, and the scriptSig is that of the kind.
use Rattle.std.proofs.Common.{◌≡◌, ◌⊎◌, ℕ, ◌<◌, ◌==◌, ◌&&◌, Bool, true, false, [], length, slice_index, Option, Some, None, Ok, Err, inl, inr, if◌then◌else◌, refl, ap, ◌∙◌, arith}
use Rattle.std.specs.Prelude.{unwrap_or}
use Rattle.std.specs.Str.{bytes_eq}
use Rattle.std.proofs.lemmas.Bool.{and_parts, eqb-true}
use Rattle.def_script.specs.Bytes.{Bytes}
use Rattle.def_spend.specs.declared.Kind.{Kind}
use Rattle.def_spend.specs.declared.Kind.TheVariants as kind
use Rattle.def_spend.specs.declared.State.TheVariants as state
use Rattle.def_psbt.specs.Types.{IN_REDEEM_SCRIPT}
use Rattle.def_spend.specs.Fields.{field}
use Rattle.def_spend.specs.Utxo.{Utxo}
use Rattle.def_spend.specs.Utxo as utxo
use Rattle.def_spend.specs.Input.{Spend}
use Rattle.def_spend.specs.Kinds.{is_p2sh, p2sh_of, redeemed, program_in, program_of_utxo, is_nested, is_script_hash, is_key_hash, kind_by, kind_with, spent_utxo, kind_of, script_sig_by, open_script_sig}

abbrev bytes_in : Option Bytes → Bytes
bytes_in o = unwrap_or o []

-- a kind in P2SH tells that its redeem script is short
abbrev IsShort : Kind → Option Bytes → Type 0
IsShort one o = (one ≡ kind.P2shP2wsh) ⊎ (one ≡ kind.P2shP2wpkh) → length (bytes_in o) < 76

-- a program with such first bytes has a length
abbrev IsLong : ℕ → ℕ → Bytes → Bool
IsLong n second program = (length program == n) && (slice_index program 0 == 0x00) && (slice_index program 1 == second)

long_is : (n second : ℕ) (program : Bytes) → IsLong n second program ≡ true → length program ≡ n
long_is n second program e =
    let both = and_parts ((length program == n) && (slice_index program 0 == 0x00)) (slice_index program 1 == second) e in
    let parts = and_parts (length program == n) (slice_index program 0 == 0x00) both.0 in
    eqb-true (length program) n parts.0

short_program : (program : Bytes) → IsShort (kind_by true program) (Some program)
short_program program = go (is_script_hash program) (is_key_hash program) refl refl
  where
    go : (b k : Bool) → is_script_hash program ≡ b → is_key_hash program ≡ k
        → IsShort (if b then kind.P2shP2wsh else if k then kind.P2shP2wpkh else kind.Other) (Some program)
    go true k e f is = let long = long_is 34 0x20 program e in omega (arith, long)
    go false true e f is = let long = long_is 22 0x14 program f in omega (arith, long)
    go false false e f (inl is) = absurd cc
    go false false e f (inr is) = absurd cc

short_alone : (program : Bytes) (o : Option Bytes) → IsShort (kind_by false program) o
short_alone program o = go (is_script_hash program) (is_key_hash program)
  where
    go : (b k : Bool) → IsShort (if b then kind.P2wsh else if k then kind.P2wpkh else kind.Other) o
    go true k (inl is) = absurd cc
    go true k (inr is) = absurd cc
    go false true (inl is) = absurd cc
    go false true (inr is) = absurd cc
    go false false (inl is) = absurd cc
    go false false (inr is) = absurd cc

-- no kind in P2SH is another one
short_other : (o : Option Bytes) → IsShort kind.Other o
short_other o (inl is) = absurd cc
short_other o (inr is) = absurd cc

short_redeemed : (spent : Bytes) (o : Option Bytes) → IsShort (kind_with true (redeemed spent o)) o
short_redeemed spent None = short_other None
short_redeemed spent (Some redeem) = go (bytes_eq spent (p2sh_of redeem))
  where
    go : (b : Bool) → IsShort (kind_with true (if b then Ok redeem else Err state.WrongScript)) (Some redeem)
    go true is = short_program redeem is
    go false is = short_other (Some redeem) is

short_output : (spent : Bytes) (o : Option Bytes) → IsShort (kind_with (is_p2sh spent) (program_in spent o)) o
short_output spent o = go (is_p2sh spent)
  where
    go : (b : Bool) → IsShort (kind_with b (if b then redeemed spent o else Ok spent)) o
    go true = short_redeemed spent o
    go false = short_alone spent o

short_utxo : (u : Utxo) (o : Option Bytes) → IsShort (kind_with (is_nested u) (program_of_utxo u o)) o
short_utxo utxo.none o = short_other o
short_utxo utxo.wrong o = short_other o
short_utxo (utxo.proved output) o = short_output output.script o
short_utxo (utxo.claimed output) o = short_output output.script o

pub redeem_is_short : (spend : Spend) → (kind_of spend ≡ kind.P2shP2wsh) ⊎ (kind_of spend ≡ kind.P2shP2wpkh)
    → length (unwrap_or (field IN_REDEEM_SCRIPT spend.fields) []) < 76
redeem_is_short spend is = short_utxo (spent_utxo spend) (field IN_REDEEM_SCRIPT spend.fields) is

pub open_is : (spend : Spend) (one : Kind) (redeem : Bytes) → one ≡ kind_of spend → redeem ≡ unwrap_or (field IN_REDEEM_SCRIPT spend.fields) []
    → script_sig_by one redeem ≡ open_script_sig spend
open_is spend one redeem same held = ap (script_sig_by one) held ∙ ap (λ k. script_sig_by k (bytes_in (field IN_REDEEM_SCRIPT spend.fields))) same
