-- When a policy is true.
use Rattle.std.specs.Prelude.{ℕ, ◌+◌, nat_le, Bool, true, false, List, [], ◌∷◌, if◌then◌else◌}
use Rattle.std.specs.List.{list_any, list_all}
use Rattle.std.specs.Option.{is_some}
use Rattle.std.specs.Str.{bytes_eq}
use Rattle.def_hash.specs.declared.HashKind.{HashKind}
use Rattle.def_script.specs.Bytes.{Bytes}
use Rattle.def_machine.specs.Locks.{older_holds, after_holds}
use Rattle.def_tree.specs.Tree.{Key}
use Rattle.def_assets.specs.Assets.{Assets, sig_of, known}
use Rattle.def_policy.specs.Policy.{Policy, Policies, never, always, key, older, after, hash, all, any, thresh, none, more}

-- which atoms are true
pub record Facts : Type 0 where
  pub signs : Key → Bool
  pub older : ℕ → Bool
  pub after : ℕ → Bool
  pub knows : HashKind → Bytes → Bool

-- how many are true
abbrev pub how_many : List Bool → ℕ
how_many [] = 0
how_many (b ∷ bs) = (if b then 1 else 0) + how_many bs

abbrev mutual
  pub is_true : Facts → Policy → Bool
  is_true facts never = false
  is_true facts always = true
  is_true facts (key k) = facts.signs k
  is_true facts (older n) = facts.older n
  is_true facts (after n) = facts.after n
  is_true facts (hash kind value) = facts.knows kind value
  is_true facts (all parts) = list_all (λ b. b) (truths facts parts)
  is_true facts (any parts) = list_any (λ b. b) (truths facts parts)
  is_true facts (thresh k parts) = nat_le k (how_many (truths facts parts))

  pub truths : Facts → Policies → List Bool
  truths facts none = []
  truths facts (more x xs) = is_true facts x ∷ truths facts xs

-- what assets hold: a pair of the key, the known preimage of the value, and locks as BIP 112 and BIP 65 test them
abbrev pub facts_of : Assets → Facts
facts_of assets = record {
  signs = λ key. is_some (sig_of assets key);
  older = λ n. older_holds n assets.locks;
  after = λ n. after_holds n assets.locks;
  knows = λ kind value. is_some (known assets kind value);
}

-- these keys sign, and every hash and lock is met
abbrev pub with_keys : List Key → Facts
with_keys keys = record {
  signs = λ key. list_any (bytes_eq key) keys;
  older = λ n. true;
  after = λ n. true;
  knows = λ kind value. true;
}
