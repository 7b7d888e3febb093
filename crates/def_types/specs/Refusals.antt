-- A refusal by each rule, with its node. The nodes are counted by hand: children before parents, left to right.
use Rattle.std.specs.Prelude.{◌≡◌, ℕ, [], ◌∷◌, Err, replicate}
use Rattle.def_tree.specs.declared.Wrapper.TheVariants as wrapper
use Rattle.def_tree.specs.Tree.{Tree, just_1, pk_k, older, after, and_or, thresh, multi, wrap}
use Rattle.def_types.specs.declared.rule.Rule.{Rule}
use Rattle.def_types.specs.declared.rule.Rule.TheVariants as rule
use Rattle.def_types.specs.Correctness.{correctness_of}
use Rattle.def_types.specs.Malleable.{malleability_of}
use Rattle.def_types.specs.Samples.{KEY_A, KEY_B, KEY_C, hash_value, pk, pkh, sha256, a, s, d, v, j, n, and_v, and_b, or_b, or_c, or_d, or_i, trees}

-- the first requirement of correctness that is false is this one, at this node
abbrev pub BreaksAt : Tree → (node : ℕ) → Rule → Type 0
BreaksAt tree node rule = correctness_of tree ≡ Err (record { node = node; rule = rule })

-- the same of malleability
abbrev pub IsMalleableAt : Tree → (node : ℕ) → Rule → Type 0
IsMalleableAt tree node rule = malleability_of tree ≡ Err (record { node = node; rule = rule })

-- `older` and `after` take 1 to 2^31 - 1, `multi` 1 to n keys of at most 20, `thresh` 1 to n children
abbrev pub NumberRanges : Type 0
NumberRanges =
    BreaksAt (older 0) 0 rule.OlderRange ×
    BreaksAt (older 2147483648) 0 rule.OlderRange ×
    BreaksAt (after 0) 0 rule.AfterRange ×
    BreaksAt (after 2147483648) 0 rule.AfterRange ×
    BreaksAt (multi 0 (KEY_A ∷ [])) 0 rule.MultiRange ×
    BreaksAt (multi 2 (KEY_A ∷ [])) 0 rule.MultiRange ×
    BreaksAt (multi 1 (replicate 21 KEY_A)) 0 rule.MultiRange ×
    BreaksAt (thresh 0 (trees (pk KEY_A ∷ []))) 2 rule.ThreshRange ×
    BreaksAt (thresh 3 (trees (pk KEY_A ∷ s (pk KEY_B) ∷ []))) 5 rule.ThreshRange

-- X of `andor` has to be B d u: here it is V, not d, not u; Y and Z the same of B, K, V
abbrev pub AndOrRules : Type 0
AndOrRules =
    BreaksAt (and_or (v (pk KEY_A)) (pk KEY_B) (pk KEY_C)) 7 rule.AndOrX ×
    BreaksAt (and_or just_1 (pk KEY_A) (pk KEY_B)) 5 rule.AndOrX ×
    BreaksAt (and_or (d (v (older 1))) (pk KEY_A) (pk KEY_B)) 7 rule.AndOrX ×
    BreaksAt (and_or (pk KEY_A) (pk KEY_B) (v (pk KEY_C))) 7 rule.AndOrYZ ×
    BreaksAt (and_or (pk KEY_A) (a (pk KEY_B)) (a (pk KEY_C))) 8 rule.AndOrYZ

-- refusals in Y and in Z of `andor`: the one in Y comes first, and both before those of `andor`
abbrev pub AndOrChildren : Type 0
AndOrChildren =
    BreaksAt (and_or just_1 (older 0) (after 0)) 1 rule.OlderRange ×
    BreaksAt (and_or just_1 (older 1) (after 0)) 2 rule.AfterRange ×
    BreaksAt (and_or (after 0) (older 0) (older 0)) 0 rule.AfterRange

-- `and_v`: X is V, Y is B, K or V; `and_b`: X is B, Y is W
abbrev pub AndRules : Type 0
AndRules =
    BreaksAt (and_v (pk KEY_A) (pk KEY_B)) 4 rule.AndVX ×
    BreaksAt (and_v (v (pk KEY_A)) (a (pk KEY_B))) 6 rule.AndVY ×
    BreaksAt (and_b (v (pk KEY_A)) (s (pk KEY_B))) 6 rule.AndBX ×
    BreaksAt (and_b (pk KEY_A) (pk KEY_B)) 4 rule.AndBY

-- `or_b`: X is B d, Z is W d; `or_c` and `or_d`: X is B d u, Z is V and B; `or_i`: X and Z are the same of B, K, V
abbrev pub OrRules : Type 0
OrRules =
    BreaksAt (or_b just_1 (s (pk KEY_A))) 4 rule.OrBX ×
    BreaksAt (or_b (pk KEY_A) (pk KEY_B)) 4 rule.OrBZ ×
    BreaksAt (or_b (pk KEY_A) (a just_1)) 4 rule.OrBZ ×
    BreaksAt (or_c just_1 (v (pk KEY_A))) 4 rule.OrCX ×
    BreaksAt (or_c (d (v (older 1))) (v (pk KEY_A))) 6 rule.OrCX ×
    BreaksAt (or_c (pk KEY_A) (pk KEY_B)) 4 rule.OrCZ ×
    BreaksAt (or_d just_1 (pk KEY_A)) 3 rule.OrDX ×
    BreaksAt (or_d (d (v (older 1))) (pk KEY_A)) 5 rule.OrDX ×
    BreaksAt (or_d (pk KEY_A) (v (pk KEY_B))) 5 rule.OrDZ ×
    BreaksAt (or_i (pk KEY_A) (v (pk KEY_B))) 5 rule.OrIXZ ×
    BreaksAt (or_i (a (pk KEY_A)) (a (pk KEY_B))) 6 rule.OrIXZ

-- the first child of `thresh` is B d u: here it is not d, not u, W; the others are W d u: B, not d, not u
abbrev pub ThresholdRules : Type 0
ThresholdRules =
    BreaksAt (thresh 1 (trees (just_1 ∷ []))) 1 rule.ThreshFirst ×
    BreaksAt (thresh 1 (trees (d (v (older 1)) ∷ s (pk KEY_A) ∷ []))) 6 rule.ThreshFirst ×
    BreaksAt (thresh 1 (trees (s (pk KEY_A) ∷ []))) 3 rule.ThreshFirst ×
    BreaksAt (thresh 1 (trees (pk KEY_A ∷ pk KEY_B ∷ []))) 4 rule.ThreshOther ×
    BreaksAt (thresh 1 (trees (pk KEY_A ∷ a just_1 ∷ []))) 4 rule.ThreshOther ×
    BreaksAt (thresh 1 (trees (pk KEY_A ∷ a (d (v (older 1))) ∷ []))) 6 rule.ThreshOther

-- `a`, `v` and `n` take B, `s` takes B o, `c` takes K, `d` takes V z, `j` takes B n
abbrev pub WrapperRules : Type 0
WrapperRules =
    BreaksAt (a (pk_k KEY_A)) 1 rule.WrapA ×
    BreaksAt (s (pk_k KEY_A)) 1 rule.WrapS ×
    BreaksAt (s (pkh KEY_A)) 2 rule.WrapS ×
    BreaksAt (wrap wrapper.C just_1) 1 rule.WrapC ×
    BreaksAt (d just_1) 1 rule.WrapD ×
    BreaksAt (d (v (pk KEY_A))) 3 rule.WrapD ×
    BreaksAt (v (pk_k KEY_A)) 1 rule.WrapV ×
    BreaksAt (j (pk_k KEY_A)) 1 rule.WrapJ ×
    BreaksAt (j (older 1)) 1 rule.WrapJ ×
    BreaksAt (n (v (pk KEY_A))) 3 rule.WrapN

-- a child's requirement comes before both of its parent's, and of the two the one on X
abbrev pub RuleOrder : Type 0
RuleOrder =
    BreaksAt (or_b (after 1) (older 0)) 1 rule.OlderRange ×
    BreaksAt (or_b (after 1) (older 1)) 2 rule.OrBX

-- X of `andor` is e, and one of its children s; a refusal in Y comes before one in Z
abbrev pub MalleableAndOr : Type 0
MalleableAndOr =
    IsMalleableAt (and_or (sha256 (hash_value 0x11)) (pk KEY_A) (pk KEY_B)) 5 rule.AndOrE ×
    IsMalleableAt (and_or (d (v (older 1))) (older 1) (older 2)) 5 rule.AndOrS ×
    IsMalleableAt (and_or (pk KEY_A) (or_i (older 1) (older 2)) (or_d (sha256 (hash_value 0x11)) (older 3))) 4 rule.OrIS ×
    IsMalleableAt (and_or (pk KEY_A) (pk KEY_B) (or_d (sha256 (hash_value 0x11)) (older 3))) 6 rule.OrDE

-- both children of `or_b` are e, X of `or_c` and of `or_d`; of these and of `or_i` one child is s
abbrev pub MalleableOr : Type 0
MalleableOr =
    IsMalleableAt (or_b (sha256 (hash_value 0x11)) (s (pk KEY_A))) 4 rule.OrBE ×
    IsMalleableAt (or_b (pk KEY_A) (a (sha256 (hash_value 0x11)))) 4 rule.OrBE ×
    IsMalleableAt (or_b (d (v (older 1))) (a (d (v (older 2))))) 7 rule.OrBS ×
    IsMalleableAt (or_c (sha256 (hash_value 0x11)) (v (pk KEY_A))) 4 rule.OrCE ×
    IsMalleableAt (or_c (d (v (older 1))) (v (older 2))) 5 rule.OrCS ×
    IsMalleableAt (or_d (sha256 (hash_value 0x11)) (pk KEY_A)) 3 rule.OrDE ×
    IsMalleableAt (or_d (d (v (older 1))) (older 2)) 4 rule.OrDS ×
    IsMalleableAt (or_i (older 1) (older 2)) 2 rule.OrIS

-- all children of `thresh` are e, and at most k aren't s
abbrev pub MalleableThreshold : Type 0
MalleableThreshold =
    IsMalleableAt (thresh 1 (trees (sha256 (hash_value 0x11) ∷ s (pk KEY_A) ∷ []))) 4 rule.ThreshE ×
    IsMalleableAt (thresh 1 (trees (pk KEY_A ∷ a (sha256 (hash_value 0x11)) ∷ []))) 4 rule.ThreshE ×
    IsMalleableAt (thresh 1 (trees (d (v (older 1)) ∷ a (d (v (older 2))) ∷ []))) 7 rule.ThreshS

-- of two requirements of a node the one on e comes first
abbrev pub MalleableOrder : Type 0
MalleableOrder =
    IsMalleableAt (or_d (sha256 (hash_value 0x11)) (older 1)) 2 rule.OrDE ×
    IsMalleableAt (and_or (sha256 (hash_value 0x11)) (older 1) (older 2)) 3 rule.AndOrE
