-- The Script of a tree isn't empty, so VERIFY behind it changes nothing before it.
use Rattle.std.proofs.Common.{◌≡◌, List, [], ◌∷◌, ◌++◌, Option, Some, None, refl, sym, ◌∙◌, ap, subst}
use Rattle.def_script.specs.declared.Op.{Op}
use Rattle.def_script.specs.Instruction.{Instruction, push, code}
use Rattle.def_script.specs.Verify.{verify_form, verified_op, verified}
use Rattle.def_script.proofs.VerifyLemmas.{verified-append}
use Rattle.def_tree.specs.declared.Two.TheVariants as kind
use Rattle.def_tree.specs.declared.Wrapper.TheVariants as wrapper
use Rattle.def_tree.specs.Tree.{Tree, Trees, and_or, two, thresh, wrap, none, more}
use Rattle.def_emit.specs.Emit.{emit, emit_sum}

-- these instructions have a first one
pub record HasFirst (instructions : List Instruction) : Type 0 where
  pub first : Instruction
  pub rest : List Instruction
  pub whole : instructions ≡ first ∷ rest

here : (first : Instruction) (rest : List Instruction) → HasFirst (first ∷ rest)
here first rest = record { first = first; rest = rest; whole = refl }

before : (xs ys : List Instruction) → HasFirst xs → HasFirst (xs ++ ys)
before xs ys h = record { first = h.first; rest = h.rest ++ ys; whole = ap (λ l. l ++ ys) h.whole }

first_of_op : (op : Op) (form : Option Op) → HasFirst (verified_op op form)
first_of_op op None = here _ _
first_of_op op (Some form) = here _ _

first_of_verified : (x : Instruction) (xs : List Instruction) → HasFirst (verified (x ∷ xs))
first_of_verified (push bytes) [] = here _ _
first_of_verified (code op) [] = first_of_op op (verify_form op)
first_of_verified x (y ∷ ys) = here _ _

mutual
  pub has_first : (t : Tree) → HasFirst (emit t)
  has_first (and_or x y z) = before _ _ (before _ _ (before _ _ (has_first x)))
  has_first (two kind.AndV x y) = before _ _ (has_first x)
  has_first (two kind.AndB x y) = before _ _ (before _ _ (has_first x))
  has_first (two kind.OrB x y) = before _ _ (before _ _ (has_first x))
  has_first (two kind.OrC x y) = before _ _ (before _ _ (has_first x))
  has_first (two kind.OrD x y) = before _ _ (before _ _ (has_first x))
  has_first (thresh k xs) = first_of_sum xs _ _
  has_first (wrap wrapper.C x) = before _ _ (has_first x)
  has_first (wrap wrapper.V x) =
      let h = has_first x in
      let P : List Instruction → Type 0 = λ l. HasFirst (verified l) in
      subst P (sym h.whole) (first_of_verified h.first h.rest)
  has_first (wrap wrapper.N x) = before _ _ (has_first x)
  has_first other = here _ _

  first_of_sum : (xs : Trees) (last : Instruction) (rest : List Instruction) → HasFirst (emit_sum xs ++ last ∷ rest)
  first_of_sum none last rest = here _ _
  first_of_sum (more x xs) last rest = before _ _ (before _ _ (has_first x))

-- VERIFY behind a tree's Script, whatever stands before it
pub verified-emit : (xs : List Instruction) (t : Tree) → verified (xs ++ emit t) ≡ xs ++ verified (emit t)
verified-emit xs t =
    let h = has_first t in
    ap (λ l. verified (xs ++ l)) h.whole ∙ verified-append xs h.first h.rest ∙ ap (λ l. xs ++ verified l) (sym h.whole)
