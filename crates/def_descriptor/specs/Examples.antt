-- Examples of the definitions: texts that are refused, and what others give. Keys, outputs and addresses are those of BIPs 32, 49, 67, 84 and 173.
use Rattle.std.specs.Prelude.{◌≡◌, ℕ, List, [], ◌∷◌, ◌++◌, codes, replicate, Option, Some, None, Ok, Err}
use Rattle.std.specs.Str.{byte}
use Rattle.def_hash.specs.Hex.{from_hex}
use Rattle.def_script.specs.Bytes.{Bytes}
use Rattle.def_tree.specs.Tree.{Key, Tree}
use Rattle.def_emit.specs.Emit.{script_of}
use Rattle.def_address.specs.declared.Network.{Network}
use Rattle.def_address.specs.declared.Network.TheVariants.{Test}
use Rattle.def_descriptor.specs.declared.DescriptorFault.{DescriptorFault}
use Rattle.def_descriptor.specs.declared.DescriptorFault.TheVariants.{TooLong, Syntax, TooDeep, Other, Private, Key as NoKey, Point, Network as OtherNetwork, Depth, Hardened, Multipath, Checksum}
use Rattle.def_descriptor.specs.Answer.{Descriptor, Answers}
use Rattle.def_descriptor.specs.Gives.{expressions_of, keys_at, key_program, tree_program, output_of, text_of, HasTree, address_at}

abbrev pub IsRefused : (text : Bytes) → DescriptorFault → Type 0
IsRefused text why = Answers text (Err why)

-- the roots of BIP 32's test vectors 1 and 2
abbrev pub XPUB_1 : Bytes
XPUB_1 = codes "xpub661MyMwAqRbcFtXgS5sYJABqqG9YLmC4Q1Rdap9gSE8NqtwybGhePY2gZ29ESFjqJoCu1Rupje8YtGqsefD265TMg7usUDFdp6W1EGMcet8"

abbrev pub XPUB_2 : Bytes
XPUB_2 = codes "xpub661MyMwAqRbcFW31YEwpkMuc5THy2PSt5bDMsktWQcFF8syAmRUapSCGu8ED9W6oDMSgv6Zz8idoc4a6mr8BDzTJY47LJhkJ8UB7WEGuduB"

-- ---- single keys that are refused

-- the checksum of another text
abbrev pub SumOfAnotherText : Type 0
SumOfAnotherText = IsRefused (codes "wpkh(" ++ XPUB_1 ++ codes "/*)#88pnld4q") (Checksum 119)

-- a key at depth 254, and two steps
abbrev pub StepTooDeep : Type 0
StepTooDeep =
    IsRefused (codes "wpkh(xpubELL48dBvbmpyWAjKKVVUH4iJnQeWNXon619VuTYVFYWMt8LLyWE3nKwgQRoYUsztuPC9ZwUE4uph3aHxGG9p46nzAkmMKhCRXhUCh8Gyhwi/0/*)") (Depth 119)

abbrev pub HardenedStep : Type 0
HardenedStep = IsRefused (codes "wpkh(" ++ XPUB_1 ++ codes "/0/1'/*)") (Hardened 119)

abbrev pub HardenedIndex : Type 0
HardenedIndex = IsRefused (codes "wpkh(" ++ XPUB_1 ++ codes "/*h)") (Hardened 117)

-- one letter in another case
abbrev pub KeyMistyped : Type 0
KeyMistyped =
    IsRefused (codes "wpkh(xpub661MyMwAqRbcFtXgS5sYJABqqG9yLmC4Q1Rdap9gSE8NqtwybGhePY2gZ29ESFjqJoCu1Rupje8YtGqsefD265TMg7usUDFdp6W1EGMcet8)") (NoKey 5)

-- SLIP-132
abbrev pub KeyOfAnotherVersion : Type 0
KeyOfAnotherVersion =
    IsRefused (codes "wpkh(zpub6rFR7y4Q2AijBEqTUquhVz398htDFrtymD9xYYfG1m4wAcvPhXNfE3EfH1r1ADqtfSdVCToUG868RvUUkgDKf31mGDtKsAYz2oz2AGutZYs)") (NoKey 5)

abbrev pub NumberTwice : Type 0
NumberTwice = IsRefused (codes "wpkh(" ++ XPUB_1 ++ codes "/<0;1;0>)") (Multipath 122)

abbrev pub SecondMultipath : Type 0
SecondMultipath = IsRefused (codes "wpkh(" ++ XPUB_1 ++ codes "/<0;1>/<2;3>)") (Multipath 123)

-- BIP 32, test vector 5: a key that is no point
abbrev pub KeyWithoutPoint : Type 0
KeyWithoutPoint =
    IsRefused (codes "wpkh(xpub661MyMwAqRbcEYS8w7XLSVeEsBXy79zSzH1J8vCdxAZningWLdN3zgtU6Q5JXayek4PRsn35jii4veMimro1xefsM58PgBMrvdYre8QyULY/*)") (Point 5)

-- test vector 1's private key, behind an origin
abbrev pub PrivateKey : Type 0
PrivateKey =
    IsRefused
    (codes "wpkh([d34db33f]xprv9s21ZrQH143K3QTDL4LXw2F7HEK3wJUD2nW2nRk4stbPy6cq3jPPqjiChkVvvNKmPGJxWUtg6LnF5kejMRNNU3TGtRBeJgk33yuGBxrMPHi/0h)")
    (Private 15)

abbrev pub NoClosing : Type 0
NoClosing = IsRefused (codes "wpkh(" ++ XPUB_1) (Syntax 116)

abbrev pub StepTooLarge : Type 0
StepTooLarge = IsRefused (codes "wpkh(" ++ XPUB_1 ++ codes "/2147483648)") (Syntax 117)

abbrev pub MarkInUpperCase : Type 0
MarkInUpperCase = IsRefused (codes "wpkh([d34db33f/84H]" ++ XPUB_1 ++ codes ")") (Syntax 15)

-- ---- other texts that are refused

abbrev pub OtherKind : Type 0
OtherKind =
    IsRefused (codes "pkh(xprv9s21ZrQH143K3QTDL4LXw2F7HEK3wJUD2nW2nRk4stbPy6cq3jPPqjiChkVvvNKmPGJxWUtg6LnF5kejMRNNU3TGtRBeJgk33yuGBxrMPHi)") (Other 0)

abbrev pub OtherKindUnder : Type 0
OtherKindUnder = IsRefused (codes "sh(multi(1,0279be667ef9dcbbac55a06295ce870b07029bfcdb2dce28d959f2815b16f81798))") (Other 3)

-- 65,537 bytes
abbrev pub LongText : Type 0
LongText = IsRefused (codes "wsh(" ++ replicate 65533 (byte "a")) TooLong

-- 256 letters before `0`
abbrev pub DeepMiniscript : Type 0
DeepMiniscript = IsRefused (codes "wsh(" ++ replicate 256 (byte "n") ++ codes ":0)") (TooDeep 261)

-- a private key in Base58Check
abbrev pub PrivateKeyInMiniscript : Type 0
PrivateKeyInMiniscript = IsRefused (codes "wsh(pk(KwDiBf89QgGbjEhKnhXJuH7LrciVrZi3qYjgd9M7rFU73sVHnoWn))") (Private 7)

-- a wrong token of the miniscript before a key that is none
abbrev pub SyntaxBeforeKey : Type 0
SyntaxBeforeKey = IsRefused (codes "wsh(or_d(pk(" ++ XPUB_1 ++ codes "/0),older(pk(2))))") (Syntax 133)

-- a word right behind an index
abbrev pub WordBehindIndex : Type 0
WordBehindIndex = IsRefused (codes "wsh(pk(" ++ XPUB_1 ++ codes "/*x))") (Syntax 120)

abbrev pub LengthsApart : Type 0
LengthsApart = IsRefused (codes "wsh(multi(1," ++ XPUB_1 ++ codes "/<0;1>," ++ XPUB_2 ++ codes "/<0;1;2>))") (Multipath 242)

abbrev pub NetworksApart : Type 0
NetworksApart =
    IsRefused
    (codes "wsh(multi(1," ++ XPUB_1 ++ codes ",tpubD6NzVbkrYhZ4XJDrzRvuxHEyQaPd1mwwdDofEJwekX18tAdsqeKfxss79AJzg1431FybXg5rfpTrJF4iAhyR7RubberdzEQXiRmXGADH2eA))")
    (OtherNetwork 124)

-- ---- what others give

-- a text is a descriptor, whose keys, the program and the address at a branch and an index are these
abbrev pub GivesKey : (text : Bytes) (branch i : ℕ) (network : Option Network) (key : Key) (address : Bytes) → Type 0
GivesKey text branch i network key address =
    (d : Descriptor) × Answers text (Ok d) × (keys_at branch i (expressions_of d.body) ≡ Ok (key ∷ [])) ×
    (address_at network d.body (output_of d.under (key_program key)) ≡ Some address)

-- of a miniscript also the text, whose tree has this Script
abbrev pub GivesScript : (text : Bytes) (branch i : ℕ) (keys : List Key) (own script address : Bytes) → Type 0
GivesScript text branch i keys own script address =
    (d : Descriptor) × Answers text (Ok d) × (keys_at branch i (expressions_of d.body) ≡ Ok keys) × (text_of d.body keys ≡ own) ×
    ((tree : Tree) × (offsets : List ℕ) × HasTree d.body keys tree offsets × (script_of tree ≡ script) ×
    (address_at None d.body (output_of d.under (tree_program tree)) ≡ Some address))

-- BIP 84: the first address for change
abbrev pub Bip84 : Type 0
Bip84 =
    GivesKey
    (codes "wpkh([73c5da0a/84'/0'/0']xpub6CatWdiZiodmUeTDp8LT5or8nmbKNcuyvz7WyksVFkKB4RHwCD3XyuvPEbvqAQY3rAPshWcMLoP2fMFMKHPJ4ZeZXYVUhLv1VMrjPC7PW6V/<0;1>/*)")
    1 0 None (from_hex "03025324888e429ab8e3dbaf1f7802648b9cd01e9b418485c5fa4c1b9b5700e1a6") (codes "bc1q8c6fshw2dlwun7ekn9qwf37cu2rn755upcp6el")

-- BIP 49, on a test network
abbrev pub Bip49 : Type 0
Bip49 =
    GivesKey (codes "sh(wpkh([d34db33f/49h/1h/0h/0/0]03a1af804ac108a8a51782198c2d034b28bf90c8803f5a53f76276fa69a4eae77f))")
    0 0 (Some Test) (from_hex "03a1af804ac108a8a51782198c2d034b28bf90c8803f5a53f76276fa69a4eae77f") (codes "2Mww8dCYPUpKHofjgcXcBCEGmniw9CoaiD2")

-- BIP 173
abbrev pub Bip173 : Type 0
Bip173 =
    GivesScript (codes "wsh(pk(0279BE667ef9dcbbac55a06295ce870b07029bfcdb2dce28d959f2815b16f81798))") 0 0
    (from_hex "0279be667ef9dcbbac55a06295ce870b07029bfcdb2dce28d959f2815b16f81798" ∷ [])
    (codes "pk(0279be667ef9dcbbac55a06295ce870b07029bfcdb2dce28d959f2815b16f81798)")
    (from_hex "210279be667ef9dcbbac55a06295ce870b07029bfcdb2dce28d959f2815b16f81798ac")
    (codes "bc1qrp33g0q5c5txsp9arysrx4k6zdkfs4nce4xj0gdcccefvpysxf3qccfmv3")

-- BIP 67
abbrev pub Bip67 : Type 0
Bip67 =
    GivesScript
    (codes "wsh(sortedmulti(2,02ff12471208c14bd580709cb2358d98975247d8765f92bc25eab3b2763ed605f8,02fe6f0a5a297eb38c391581c4413e084773ea23954d93f7753db7dc0adc188b2f))")
    0 0
    (from_hex "02ff12471208c14bd580709cb2358d98975247d8765f92bc25eab3b2763ed605f8"
    ∷ from_hex "02fe6f0a5a297eb38c391581c4413e084773ea23954d93f7753db7dc0adc188b2f" ∷ [])
    (codes "multi(2,02fe6f0a5a297eb38c391581c4413e084773ea23954d93f7753db7dc0adc188b2f,02ff12471208c14bd580709cb2358d98975247d8765f92bc25eab3b2763ed605f8)")
    (from_hex
    "522102fe6f0a5a297eb38c391581c4413e084773ea23954d93f7753db7dc0adc188b2f2102ff12471208c14bd580709cb2358d98975247d8765f92bc25eab3b2763ed605f852ae")
    (codes "bc1qknwt9mhqpd7hrjrvpqz57zjqk28xlp2h90te6v22en0m3uctnams3pq5ce")
