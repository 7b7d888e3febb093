-- The length of the signature of a key. No public clause cites it, so it need not be believed.
use Rattle.std.specs.Prelude.{ℕ}
use Rattle.def_tree.specs.Tree.{Key}
use Rattle.def_assets.specs.Assets.{Assets, sig_of}
use Rattle.def_spend.specs.Asking.{length_by}

-- a key with the length of the signature that it has, or the greatest where it has none
abbrev pub entry_of : Assets → Key → Key × ℕ
entry_of assets key = (key, length_by (sig_of assets key))
