-- The printed form of a policy: names, and parts in parentheses with commas and no spaces. Keys and hash values are
-- written in hexadecimal digits, in lower case.
use Rattle.std.specs.Prelude.{[], ◌++◌, codes, decimal}
use Rattle.hex.specs.Hex.{encode_lower}
use Rattle.def_script.specs.Bytes.{Bytes}
use Rattle.def_text.specs.Word.{hash_name}
use Rattle.def_policy.specs.Policy.{Policy, Policies, never, always, key, older, after, hash, all, any, thresh, none, more}

abbrev mutual
  pub printed : Policy → Bytes
  printed never = codes "never"
  printed always = codes "always"
  printed (key k) = codes "key(" ++ encode_lower k ++ codes ")"
  printed (older n) = codes "older(" ++ decimal n ++ codes ")"
  printed (after n) = codes "after(" ++ decimal n ++ codes ")"
  printed (hash kind value) = hash_name kind ++ codes "(" ++ encode_lower value ++ codes ")"
  printed (all parts) = codes "all(" ++ printed_parts [] parts ++ codes ")"
  printed (any parts) = codes "any(" ++ printed_parts [] parts ++ codes ")"
  printed (thresh k parts) = codes "thresh(" ++ decimal k ++ printed_parts (codes ",") parts ++ codes ")"

  -- parts, the first behind a mark and each other one behind a comma
  pub printed_parts : (mark : Bytes) → Policies → Bytes
  printed_parts mark none = []
  printed_parts mark (more x xs) = mark ++ printed x ++ printed_parts (codes ",") xs
