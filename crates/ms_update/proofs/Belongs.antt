-- What belongs to a map, piece by piece.
use Rattle.std.proofs.Common.{◌≡◌, ℕ, ◌+◌, ◌-◌, None, [], ◌∷◌, ◌++◌, length, take, map, refl, sym, ap, ◌∙◌, append_assoc, length-append, arith}
use Rattle.std.specs.Prelude.{filter}
use Rattle.std.specs.List.{flat_map}
use Rattle.std.proofs.lemmas.List.{take_at, append-nil}
use Rattle.std.proofs.lemmas.List.Concat.{flat_map-append}
use Rattle.def_script.specs.Bytes.{Bytes}
use Rattle.def_psbt.specs.Map.{Map, pair_text, map_text}
use Rattle.def_combine.specs.Joined.{is_new, joined_map}
use Rattle.def_update.specs.Updated.{conflict_in}
use Rattle.def_update.specs.Known.{Known, Types, script_pairs, derivation_pair, belonging}
use Rattle.ms_psbt.specs.Pairs.{pairs_in}
use Rattle.ms_psbt.specs.Scaffolding.Pairs.{IsMapText}
use Rattle.ms_psbt.proofs.Pairing.{text_is}

pub belonging_is : (types : Types) (known : Known) (r w d : ℕ) (p0 p1 p2 p3 : Map) → r ≡ types.redeem_script → w ≡ types.witness_script → d ≡ types.bip32_derivation → p0 ≡ []
    → p1 ≡ p0 ++ script_pairs r known.redeem → p2 ≡ p1 ++ script_pairs w known.witness → p3 ≡ p2 ++ map (derivation_pair d) known.keys → p3 ≡ belonging types known
belonging_is types known r w d p0 p1 p2 p3 er ew ed e0 e1 e2 e3 =
    let one : p1 ≡ script_pairs types.redeem_script known.redeem = e1 ∙ (ap (λ (x : Map). x ++ script_pairs r known.redeem) e0 ∙ ap (λ (n : ℕ). script_pairs n known.redeem) er) in
    let two : p2 ≡ script_pairs types.redeem_script known.redeem ++ script_pairs types.witness_script known.witness =
    e2 ∙ (ap (λ (x : Map). x ++ script_pairs w known.witness) one ∙ ap (λ (n : ℕ). script_pairs types.redeem_script known.redeem ++ script_pairs n known.witness) ew) in
    e3
    ∙ (ap (λ (x : Map). x ++ map (derivation_pair d) known.keys) two
    ∙ (ap (λ (n : ℕ). (script_pairs types.redeem_script known.redeem ++ script_pairs types.witness_script known.witness) ++ map (derivation_pair n) known.keys) ed
    ∙ append_assoc (script_pairs types.redeem_script known.redeem) (script_pairs types.witness_script known.witness) (map (derivation_pair types.bip32_derivation) known.keys)))

-- a map without the byte that ends it
front : (bytes : Bytes) → IsMapText bytes → take (length bytes - 1) bytes ≡ flat_map pair_text (pairs_in bytes)
front bytes h =
    let text = text_is bytes h in
    let long = ap length text ∙ length-append (flat_map pair_text (pairs_in bytes)) (0x00 ∷ []) in
    let size : length (flat_map pair_text (pairs_in bytes)) ≡ length bytes - 1 = omega (arith, long) in
    ap (take (length bytes - 1)) text ∙ take_at (flat_map pair_text (pairs_in bytes)) (0x00 ∷ []) (length bytes - 1) size

pub joined_is : (before bytes a b after : Bytes) (own : Map) → IsMapText bytes → a ≡ before ++ take (length bytes - 1) bytes → b ≡ a ++ flat_map pair_text (filter (is_new (pairs_in bytes)) own)
    → after ≡ b ++ 0x00 ∷ [] → after ≡ before ++ map_text (joined_map (pairs_in bytes) own)
joined_is before bytes a b after own h e1 e2 e3 =
    let new : Map = filter (is_new (pairs_in bytes)) own in
    let f : Bytes = flat_map pair_text (pairs_in bytes) in
    let g : Bytes = flat_map pair_text (filter (is_new (pairs_in bytes)) own) in
    e3
    ∙ (ap (λ (x : Bytes). x ++ 0x00 ∷ []) (e2 ∙ ap (λ (x : Bytes). x ++ flat_map pair_text (filter (is_new (pairs_in bytes)) own)) (e1 ∙ ap (λ (x : Bytes). before ++ x) (front bytes h)))
    ∙ (append_assoc (before ++ f) g (0x00 ∷ [])
    ∙ (append_assoc before f (g ++ 0x00 ∷ [])
    ∙ (ap (λ (x : Bytes). before ++ x) (sym (append_assoc f g (0x00 ∷ [])))
    ∙ ap (λ (x : Bytes). before ++ (x ++ 0x00 ∷ [])) (sym (flat_map-append pair_text (pairs_in bytes) (filter (is_new (pairs_in bytes)) own)))))))

-- ---- nothing belongs to a map

free : (at : ℕ) (map : Map) → conflict_in [] at map ≡ None
free at [] = refl
free at (pair ∷ map) = free (at + length (pair_text pair)) map

pub nothing_belongs : (own : Map) (at : ℕ) (bytes before after : Bytes) → own ≡ [] → IsMapText bytes → after ≡ before ++ bytes
    → (conflict_in own at (pairs_in bytes) ≡ None) × (after ≡ before ++ map_text (joined_map (pairs_in bytes) own))
nothing_belongs own at bytes before after none h e = (
  ap (λ (x : Map). conflict_in x at (pairs_in bytes)) none ∙ free at (pairs_in bytes),
  e ∙ ap (λ (x : Bytes). before ++ x) (text_is bytes h ∙ (ap map_text (sym (append-nil (pairs_in bytes))) ∙ ap (λ (x : Map). map_text (joined_map (pairs_in bytes) x)) (sym none))),
)
