-- What nobody can change, of bytes or not, nobody can change by bytes.
use Rattle.std.proofs.Common.{inl, inr}
use Rattle.def_promises.specs.Promises.{UnchangeableIsNonMalleable}
use Rattle.def_machine.specs.Stacks.{member}

pub unchangeable_is_non_malleable : UnchangeableIsNonMalleable
unchangeable_is_non_malleable tree assets stack unchangeable table bytes holds =
    let u = unchangeable (member table) holds in (
      u.0,
      u.1,
      λ other others of_bytes is differs. elim (u.2 other others is differs) [ inl new ↦ inl new | inr fresh ↦ inr fresh.0 ],
    )
