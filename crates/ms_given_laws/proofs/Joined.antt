-- Sound pairs behind a sound map make a sound map.
use Rattle.std.proofs.Common.{ℕ, [], ◌∷◌, ◌++◌, sym, subst, append_assoc}
use Rattle.std.proofs.lemmas.List.{append-nil}
use Rattle.def_psbt.specs.Map.{Map}
use Rattle.def_psbt.specs.Listed.{Form}
use Rattle.def_psbt.specs.Laws.{IsSoundMap}

pub sound_joins : (forms : ℕ → Form) (before map added : Map) → IsSoundMap forms before map → IsSoundMap forms (before ++ map) added → IsSoundMap forms before (map ++ added)
sound_joins forms before [] added h k = subst (λ (l : Map). IsSoundMap forms l added) (append-nil before) k
sound_joins forms before (pair ∷ map) added h k =
    (h.0, sound_joins forms (before ++ pair ∷ []) map added h.1 (subst (λ (l : Map). IsSoundMap forms l added) (sym (append_assoc before (pair ∷ []) map)) k))
