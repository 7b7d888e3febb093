-- What is so of each key expression as it is read is so of all that stand in a descriptor.
use Rattle.std.proofs.Common.{ℕ, zero, suc, Bool, true, false, cond, List, [], ◌∷◌, subst, Option, Some, None, Result, Ok, Err}
use Rattle.std.specs.Prelude.{⊤, ◌&&◌, codes}
use Rattle.std.specs.List.{AllByRecursion}
use Rattle.std.specs.Str.{bytes_eq}
use Rattle.def_script.specs.Bytes.{Bytes}
use Rattle.def_curve.specs.Point.{Point}
use Rattle.def_descriptor.specs.declared.Form.{Form}
use Rattle.def_descriptor.specs.declared.Form.TheVariants.{Wsh, Wpkh}
use Rattle.def_descriptor.specs.declared.DescriptorFault.{DescriptorFault}
use Rattle.def_descriptor.specs.declared.DescriptorFault.TheVariants.{Syntax}
use Rattle.def_descriptor.specs.Token.{Token, token, tokens, is_word, starts, Read, and_then, behind, mapped}
use Rattle.def_descriptor.specs.Expression.{Expression}
use Rattle.def_descriptor.specs.ReadKey.{Seen, NOTHING_SEEN, seen_with, with_point, read_key}
use Rattle.def_descriptor.specs.Pieces.{expressions, Spot, takes_key, spot_behind, spot_behind_key, follows_key, Gathered, opened, ends_at, with_key, elsewhere, multi_name, gather}
use Rattle.def_descriptor.specs.Parts.{read_head, single, Found, read_body, read_parts}
use Rattle.def_descriptor.specs.Answer.{Descriptor, Answers}
use Rattle.def_descriptor.specs.Gives.{expressions_of}
use Rattle.ms_key_laws.proofs.Read.{descriptor_read}

-- ---- what is read

abbrev pub IfRead : {A : Type 0} → (A → Type 0) → Read A → Type 0
IfRead P (Ok (x, rest)) = P x
IfRead P (Err fault) = ⊤

pub read_if : {A : Type 0} (P : A → Type 0) (b : Bool) (r s : Read A) → IfRead P r → IfRead P s → IfRead P (cond b r s)
read_if P true r s h k = h
read_if P false r s h k = k

-- with what is so of what is read first, or with nothing
pub read_then : {A B : Type 0} (P : A → Type 0) (Q : B → Type 0) (r : Read A) (next : A → List Token → Read B) → IfRead P r
    → ((x : A) (rest : List Token) → P x → IfRead Q (next x rest)) → IfRead Q (and_then r next)
read_then P Q (Ok (x, rest)) next h go = go x rest h
read_then P Q (Err fault) next h go = tt

pub read_after : {A B : Type 0} (Q : B → Type 0) (r : Read A) (next : A → List Token → Read B) → ((x : A) (rest : List Token) → IfRead Q (next x rest)) → IfRead Q (and_then r next)
read_after Q (Ok (x, rest)) next go = go x rest
read_after Q (Err fault) next go = tt

pub read_behind : {B : Type 0} (Q : B → Type 0) (bytes : Bytes) (ts : List Token) (next : List Token → Read B) → ((rest : List Token) → IfRead Q (next rest))
    → IfRead Q (behind bytes ts next)
read_behind Q bytes [] next go = tt
read_behind Q bytes (token at own ∷ ts) next go = read_if Q (bytes_eq own bytes) (next ts) (Err (Syntax at)) (go ts) tt

pub read_point : {A : Type 0} (P : A → Type 0) (at : ℕ) (o : Option Point) (r : Read A) → IfRead P r → IfRead P (with_point at o r)
read_point P at None r h = tt
read_point P at (Some own) r h = h

-- ---- all expressions

module _ (P : Expression → Type 0) (key_is : (seen : Seen) (ts : List Token) → IfRead P (read_key seen ts)) where
  pieces_if : (b : Bool) (g h : Gathered) → AllByRecursion P (expressions g.pieces) → AllByRecursion P (expressions h.pieces)
      → AllByRecursion P (expressions (cond b g h).pieces)
  pieces_if true g h a b = a
  pieces_if false g h a b = b

  by_key : (seen : Seen) (r : Read Expression) (more : Seen → List Token → Gathered) → IfRead P r
      → ((seen : Seen) (ts : List Token) → AllByRecursion P (expressions (more seen ts).pieces)) → AllByRecursion P (expressions (with_key seen r more).pieces)
  by_key seen (Err fault) more h go = tt
  by_key seen (Ok (expression, rest)) more h go = (h, go (seen_with seen expression) rest)

  gathered : (most : ℕ) (spot : Spot) (level : ℕ) (seen : Seen) (ts : List Token) → AllByRecursion P (expressions (gather most spot level seen ts).pieces)
  unfolding gather
  gathered zero spot level seen ts = tt
  gathered (suc most) spot level seen [] = tt
  gathered (suc most) spot level seen (token at bytes ∷ ts) =
      pieces_if (takes_key spot) _ _
      (by_key seen (read_key seen (token at bytes ∷ ts)) (gather most (spot_behind_key spot) level) (key_is seen (token at bytes ∷ ts))
      (λ later rest. gathered most (spot_behind_key spot) level later rest))
      (pieces_if (follows_key spot && is_word bytes) _ _ tt (pieces_if (ends_at level bytes) _ _ tt (gathered most (spot_behind spot bytes) (opened level bytes) seen ts)))

  found_if : (b : Bool) (f g : Found) → AllByRecursion P (expressions_of f.body) → AllByRecursion P (expressions_of g.body)
      → AllByRecursion P (expressions_of (cond b f g).body)
  found_if true f g h k = h
  found_if false f g h k = k

  abbrev PartsAre : Result (Bool × Found) DescriptorFault → Type 0
  PartsAre (Ok (under, found)) = AllByRecursion P (expressions_of found.body)
  PartsAre (Err fault) = ⊤

  single_is : (under : Bool) (r : Read Expression) → IfRead P r
      → PartsAre (mapped (λ found. (under, found)) (and_then r (λ expression rest. Ok (record { body = single expression; refused = None; rest = rest }))))
  single_is under (Ok (expression, rest)) h = (h, tt)
  single_is under (Err fault) h = tt

  body_is : (most : ℕ) (under : Bool) (form : Form) (ts : List Token) → PartsAre (mapped (λ found. (under, found)) (read_body most form ts))
  body_is most under Wsh ts = found_if (starts (codes "sortedmulti") ts) _ _ (gathered most multi_name 0 NOTHING_SEEN _) (gathered most elsewhere 0 NOTHING_SEEN ts)
  body_is most under Wpkh ts = single_is under (read_key NOTHING_SEEN ts) (key_is NOTHING_SEEN ts)

  head_is : (most : ℕ) (r : Read (Bool × Form)) → PartsAre (and_then r (λ head rest. mapped (λ found. (head.0, found)) (read_body most head.1 rest)))
  head_is most (Ok ((under, form), rest)) = body_is most under form rest
  head_is most (Err fault) = tt

  parts_are : (text : Bytes) → PartsAre (read_parts text)
  unfolding read_parts
  parts_are text = head_is _ (read_head (tokens text))

  pub expressions_are : (text : Bytes) (own : Descriptor) → Answers text (Ok own) → AllByRecursion P (expressions_of own.body)
  expressions_are text own h =
      let d = descriptor_read text own h in
      let found : PartsAre (Ok (d.under, d.found)) = subst PartsAre d.parts (parts_are text) in
      subst (λ z. AllByRecursion P (expressions_of z)) d.body found
