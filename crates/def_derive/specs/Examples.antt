-- Published values: RFC 4231's of HMAC-SHA512, and test vectors 1, 2 and 5 of BIP 32.
use Rattle.std.specs.Prelude.{◌≡◌, ℕ, replicate, codes, Option, Some, None}
use Rattle.std.specs.Option.{option_map, option_and_then}
use Rattle.def_hash.specs.Hex.{from_hex}
use Rattle.def_script.specs.Bytes.{Bytes}
use Rattle.def_derive.specs.Hmac.{hmac_sha512}
use Rattle.def_derive.specs.Extended.{extended_text, extended_of}
use Rattle.def_derive.specs.Child.{extended_child}

-- RFC 4231, 4.2, 4.3 and 4.7: of a key of 131 bytes
abbrev pub HmacOfHiThere : Type 0
HmacOfHiThere = hmac_sha512 (replicate 20 0x0b) (codes "Hi There")
    ≡ from_hex "87aa7cdea5ef619d4ff0b4241a1d6cb02379f4e2ce4ec2787ad0b30545e17cdedaa833b7d6b8a702038b274eaea3f4e4be9d914eeb61f1702e696c203a126854"

abbrev pub HmacOfQuestion : Type 0
HmacOfQuestion = hmac_sha512 (codes "Jefe") (codes "what do ya want for nothing?")
    ≡ from_hex "164b7a7bfcf819e2e395fbe73b56e0a387bd64222e831fd610270cd7ea2505549758bf75c05a994a6d034f65f8f0e6fdcaeab1a34d4a6b4b636e070a38bce737"

abbrev pub HmacOfLongKey : Type 0
HmacOfLongKey = hmac_sha512 (replicate 131 0xaa) (codes "Test Using Larger Than Block-Size Key - Hash Key First")
    ≡ from_hex "80b24263c7c1a3ebb71493c1dd7be8b49b46d1f41b4aeec1121b013783f8f3526b56d037e05f2598bd0fd2215d6a1e5295e64f73f63f0aec8b915a985d786598"

-- the text of a child of the key of a text
abbrev pub child_text : (number : ℕ) (text : Bytes) → Option Bytes
child_text number text = option_map extended_text (option_and_then (extended_child number) (extended_of text))

-- BIP 32, test vector 1: m/0h and m/0h/1
abbrev pub ChildOfFirstVector : Type 0
ChildOfFirstVector = child_text 1 (codes "xpub68Gmy5EdvgibQVfPdqkBBCHxA5htiqg55crXYuXoQRKfDBFA1WEjWgP6LHhwBZeNK1VTsfTFUHCdrfp1bgwQ9xv5ski8PX9rL2dZXvgGDnw")
    ≡ Some (codes "xpub6ASuArnXKPbfEwhqN6e3mwBcDTgzisQN1wXN9BJcM47sSikHjJf3UFHKkNAWbWMiGj7Wf5uMash7SyYq527Hqck2AxYysAA7xmALppuCkwQ")

-- test vector 2: m and m/0
abbrev pub ChildOfSecondVector : Type 0
ChildOfSecondVector = child_text 0 (codes "xpub661MyMwAqRbcFW31YEwpkMuc5THy2PSt5bDMsktWQcFF8syAmRUapSCGu8ED9W6oDMSgv6Zz8idoc4a6mr8BDzTJY47LJhkJ8UB7WEGuduB")
    ≡ Some (codes "xpub69H7F5d8KSRgmmdJg2KhpAK8SR3DjMwAdkxj3ZuxV27CprR9LgpeyGmXUbC6wb7ERfvrnKZjXoUmmDznezpbZb7ap6r1D3tgFxHmwMkQTPH")

-- a hardened number: 2 ^ 31
abbrev pub NoHardenedChild : Type 0
NoHardenedChild = child_text 2147483648 (codes "xpub661MyMwAqRbcFW31YEwpkMuc5THy2PSt5bDMsktWQcFF8syAmRUapSCGu8ED9W6oDMSgv6Zz8idoc4a6mr8BDzTJY47LJhkJ8UB7WEGuduB") ≡ None

-- test vector 5: at depth 0 a parent's fingerprint, or a number
abbrev pub NoKeyWithParent : Type 0
NoKeyWithParent = extended_of (codes "xpub661no6RGEX3uJkY4bNnPcw4URcQTrSibUZ4NqJEw5eBkv7ovTwgiT91XX27VbEXGENhYRCf7hyEbWrR3FewATdCEebj6znwMfQkhRYHRLpJ") ≡ None

abbrev pub NoKeyWithNumber : Type 0
NoKeyWithNumber = extended_of (codes "xpub661MyMwAuDcm6CRQ5N4qiHKrJ39Xe1R1NyfouMKTTWcguwVcfrZJaNvhpebzGerh7gucBvzEQWRugZDuDXjNDRmXzSZe4c7mnTK97pTvGS8") ≡ None
