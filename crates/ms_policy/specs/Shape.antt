-- What contracts see of a policy: a policy of the definitions.
use Rattle.def_policy.specs.Policy as model
use Rattle.def_policy.specs.Policy.{policies_of}
use Rattle.ms_hash.specs.Value.{kind_of, bytes_of}
use Rattle.ms_policy.specs.declared.policy.Policy.{Policy, fold-Policy}
use Rattle.ms_policy.specs.declared.policy.Policy.TheOpen.{Policy-F}

-- a policy whose parts are seen
abbrev pub root_shape : Policy-F model.Policy → model.Policy
root_shape Policy-F.Never = model.never
root_shape Policy-F.Always = model.always
root_shape (Policy-F.Key key) = model.key key
root_shape (Policy-F.Older n) = model.older n
root_shape (Policy-F.After n) = model.after n
root_shape (Policy-F.Hash value) = model.hash (kind_of value) (bytes_of value)
root_shape (Policy-F.All parts) = model.all (policies_of parts.items)
root_shape (Policy-F.Any parts) = model.any (policies_of parts.items)
root_shape (Policy-F.Thresh k parts) = model.thresh k (policies_of parts.items)

-- a policy, from its atoms up
abbrev pub policy_shape : Policy → model.Policy
policy_shape = fold-Policy model.Policy root_shape
