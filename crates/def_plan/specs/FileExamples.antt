-- Examples of plan files: what they give, and why they are refused.
use Rattle.std.specs.Prelude.{◌≡◌, [], ◌∷◌, ◌++◌, codes, replicate, Ok, Err}
use Rattle.hex.specs.Hex.{encode_lower}
use Rattle.def_script.specs.Bytes.{Bytes}
use Rattle.def_machine.specs.Samples.{key_a, key_b, sig_a}
use Rattle.def_files.specs.Examples.{default_locks, no_assets}
use Rattle.def_plan.specs.declared.PlanMember.TheVariants as member
use Rattle.def_plan.specs.declared.PlanFault.{PlanFault}
use Rattle.def_plan.specs.declared.PlanFault.TheVariants as fault
use Rattle.def_plan.specs.PlanFile.{plan_file_of}

-- a key with its length, and a file with two of them
abbrev pub estimate_text : (key length : Bytes) → Bytes
estimate_text key length = codes "{\"key\":\"" ++ encode_lower key ++ codes "\",\"length\":" ++ length ++ codes "}"

abbrev pub with_both : (one two : Bytes) → Bytes
with_both one two = codes "{\"keys\":[" ++ one ++ codes "," ++ two ++ codes "]}"

abbrev pub Refuses : Bytes → PlanFault → Type 0
Refuses bytes why = plan_file_of bytes ≡ Err why

-- all that is missing has its default; and a file with all members
abbrev pub Gives : Type 0
Gives =
    (plan_file_of (codes "{}") ≡ Ok (record { assets = no_assets; table = [] })) ×
    (plan_file_of (codes "{\"sequence\": 32, \"preimages\": [\"" ++ encode_lower (replicate 32 0x11) ++ codes "\"], \"keys\": ["
    ++ estimate_text key_b (codes "72") ++ codes "," ++ estimate_text key_a (codes "1") ++ codes "]}\n")
    ≡ Ok (record {
      assets = record { locks = record default_locks { sequence = 32 }; pairs = []; preimages = replicate 32 0x11 ∷ [] };
      table = (key_b, 72) ∷ (key_a, 1) ∷ [];
    }))

-- no JSON; a list; an element without a length, with a text for it, and with a fraction; preimages that are none
abbrev pub Shapes : Type 0
Shapes =
    Refuses (codes "{") fault.NotJson ×
    Refuses (codes "[]") (fault.Shape member.Whole) ×
    Refuses (codes "{\"keys\":[{\"key\":\"\"}]}") (fault.Shape member.Keys) ×
    Refuses (codes "{\"keys\":[{\"key\":\"\",\"length\":\"71\"}]}") (fault.Shape member.Keys) ×
    Refuses (codes "{\"keys\":[{\"key\":\"\",\"length\":71.0}]}") (fault.Shape member.Keys) ×
    Refuses (codes "{\"preimages\":[0]}") (fault.Shape member.Preimages)

-- a number that is none; digits that are none
abbrev pub Parts : Type 0
Parts =
    Refuses (codes "{\"version\":-1}") (fault.Number member.Version) ×
    Refuses (codes "{\"keys\":[{\"key\":\"0\",\"length\":71}]}") (fault.Hex member.Keys 0) ×
    Refuses (codes "{\"preimages\":[\"00\",\"x\"]}") (fault.Hex member.Preimages 1)

-- a length of 74 at position 1, and of 0; a key of another form; a short preimage
abbrev pub Values : Type 0
Values =
    Refuses (with_both (estimate_text key_a (codes "71")) (estimate_text key_b (codes "74"))) (fault.Length 1) ×
    Refuses (with_both (estimate_text key_a (codes "0")) (estimate_text key_b (codes "74"))) (fault.Length 0) ×
    Refuses (with_both (estimate_text key_a (codes "74")) (estimate_text sig_a (codes "71"))) (fault.KeyForm 1) ×
    Refuses (codes "{\"preimages\":[\"00\"]}") (fault.PreimageLength 0)

-- a key twice, also with another length; a length before that
abbrev pub Repeats : Type 0
Repeats =
    Refuses (with_both (estimate_text key_a (codes "71")) (estimate_text key_a (codes "71"))) (fault.RepeatedKey 1) ×
    Refuses (with_both (estimate_text key_a (codes "71")) (estimate_text key_a (codes "72"))) (fault.RepeatedKey 1) ×
    Refuses (with_both (estimate_text key_a (codes "71")) (estimate_text key_a (codes "74"))) (fault.Length 1)
