-- The printed form of a tree (BIP 379): no sugar, all wrapper letters before one colon, digits in lower case.
use Rattle.std.specs.Prelude.{List, [], ◌∷◌, ◌++◌, codes, decimal}
use Rattle.hex.specs.Hex.{encode_lower}
use Rattle.def_script.specs.Bytes.{Bytes}
use Rattle.def_tree.specs.Tree.{Key, Tree, Trees, just_0, just_1, pk_k, pk_h, older, after, hash, and_or, two, thresh, multi, wrap, none, more}
use Rattle.def_text.specs.Word.{hash_name, two_name}
use Rattle.def_text.specs.Letter.{wrapper_byte}

-- keys, each behind a comma
abbrev pub printed_keys : List Key → Bytes
printed_keys [] = []
printed_keys (key ∷ keys) = codes "," ++ encode_lower key ++ printed_keys keys

-- the printed form of an expression behind a colon where letters stand before it, or else behind nothing
abbrev mutual
  pub printed_behind : (colon : Bytes) → Tree → Bytes
  printed_behind colon just_0 = colon ++ codes "0"
  printed_behind colon just_1 = colon ++ codes "1"
  printed_behind colon (pk_k key) = colon ++ codes "pk_k(" ++ encode_lower key ++ codes ")"
  printed_behind colon (pk_h key) = colon ++ codes "pk_h(" ++ encode_lower key ++ codes ")"
  printed_behind colon (older n) = colon ++ codes "older(" ++ decimal n ++ codes ")"
  printed_behind colon (after n) = colon ++ codes "after(" ++ decimal n ++ codes ")"
  printed_behind colon (hash kind value) = colon ++ hash_name kind ++ codes "(" ++ encode_lower value ++ codes ")"
  printed_behind colon (and_or x y z) =
      colon ++ codes "andor(" ++ printed_behind [] x ++ codes "," ++ printed_behind [] y
      ++ codes "," ++ printed_behind [] z ++ codes ")"
  printed_behind colon (two kind x y) =
      colon ++ two_name kind ++ codes "(" ++ printed_behind [] x ++ codes "," ++ printed_behind [] y ++ codes ")"
  printed_behind colon (thresh k xs) = colon ++ codes "thresh(" ++ decimal k ++ printed_children xs ++ codes ")"
  printed_behind colon (multi k keys) = colon ++ codes "multi(" ++ decimal k ++ printed_keys keys ++ codes ")"
  printed_behind colon (wrap wrapper x) = wrapper_byte wrapper ∷ printed_behind (codes ":") x

  -- expressions, each behind a comma
  pub printed_children : Trees → Bytes
  printed_children none = []
  printed_children (more x xs) = codes "," ++ printed_behind [] x ++ printed_children xs

-- the printed form of a tree
abbrev pub printed : Tree → Bytes
printed = printed_behind []
