-- What a line tells of a step is all that the step changed.
use Rattle.std.proofs.Common.{◌≡◌, ℕ, zero, suc, ◌+◌, ◌-◌, ◌==◌, false, List, [], ◌∷◌, ◌++◌, length, map, take, drop, reverse, arith, refl, sym, ◌∙◌, ap, length-append}
use Rattle.std.proofs.lemmas.List.{append-nil, append_assoc, reverse-append, reverse-reverse}
use Rattle.std.proofs.lemmas.Bool.{ne_eqb}
use Rattle.std.proofs.Math.Seq.{take-append_seam, drop-append_seam}
use Rattle.def_script.specs.declared.Op.{Op}
use Rattle.def_script.specs.Bytes.{Bytes}
use Rattle.def_script.specs.Item as item
use Rattle.def_machine.specs.Stacks.{Stack, Pairs}
use Rattle.def_trace.specs.Seen.{Seen}
use Rattle.def_trace.specs.Changes.{Change, pushed, checked, opcode_puts, pops, main_changes, alt_changes, branch_changes, check_changes, changes}
use Rattle.def_trace.specs.Reader.{changed, changed_by}

-- ---- changes, one after the other

pub changed_by-append : (v : Seen) (one two : List Change) → changed_by v (one ++ two) ≡ changed_by (changed_by v one) two
changed_by-append v [] two = refl
changed_by-append v (c ∷ one) two = changed_by-append (changed v c) one two

changed_by-pushed : (v : Seen) (elements : List Bytes) → changed_by v (map pushed elements) ≡ record v { main = reverse elements ++ v.main }
changed_by-pushed v [] = refl
changed_by-pushed v (x ∷ elements) =
    changed_by-pushed (changed v (pushed x)) elements
    ∙ ap (λ (main : Stack). record v { main = main })
    (sym (ap (λ (xs : Stack). xs ++ v.main) (reverse-append (x ∷ []) elements) ∙ append_assoc (reverse elements) (x ∷ []) v.main))

changed_by-checked : (v : Seen) (pairs : Pairs) → changed_by v (map checked pairs) ≡ record v { checks = v.checks ++ pairs }
changed_by-checked v [] = ap (λ (checks : Pairs). record v { checks = checks }) (sym (append-nil v.checks))
changed_by-checked v (pair ∷ pairs) =
    changed_by-checked (changed v (checked pair)) pairs
    ∙ ap (λ (checks : Pairs). record v { checks = checks }) (append_assoc v.checks (pair ∷ []) pairs)

-- none left, or so many
changed_by-pops : (v : Seen) (count : ℕ) → changed_by v (pops count) ≡ record v { main = drop count v.main }
changed_by-pops v zero = refl
changed_by-pops v (suc count) = let some : (suc count == 0) ≡ false = ne_eqb _ _ (λ e. omega arith) in rw some refl

-- ---- the main stack

-- some elements left the top, and so many were put there
pub record Trades (puts : ℕ) (before after : Stack) : Type 0 where
  pub up : Stack
  pub gone : Stack
  pub rest : Stack
  pub now : after ≡ up ++ rest
  pub was : before ≡ gone ++ rest
  pub put : length up ≡ puts

pub main_told : (puts : ℕ) (v w : Seen) → Trades puts v.main w.main → changed_by v (main_changes puts (length v.main) w.main) ≡ record v { main = w.main }
main_told puts v w t =
    let after = ap (λ (main : Stack). length main) t.now ∙ length-append t.up t.rest in
    let before = ap (λ (main : Stack). length main) t.was ∙ length-append t.gone t.rest in
    let put = t.put in
    let count : length v.main + puts - length w.main ≡ length t.gone = omega (arith, after, before, put) in
    let below : drop (length v.main + puts - length w.main) v.main ≡ t.rest =
    rw (count, t.was) (drop-append_seam t.gone t.rest)
    in
    let above : take puts w.main ≡ t.up = rw (← put, t.now) (take-append_seam t.up t.rest) in
    changed_by-append v (pops (length v.main + puts - length w.main)) (map pushed (reverse (take puts w.main)))
    ∙ ap (λ (u : Seen). changed_by u (map pushed (reverse (take puts w.main)))) (changed_by-pops v (length v.main + puts - length w.main))
    ∙ changed_by-pushed (record v { main = drop (length v.main + puts - length w.main) v.main }) (reverse (take puts w.main))
    ∙ ap (λ (main : Stack). record v { main = main })
    (ap (λ (xs : Stack). xs ++ drop (length v.main + puts - length w.main) v.main) (reverse-reverse (take puts w.main))
    ∙ ap (λ (xs : Stack). xs ++ drop (length v.main + puts - length w.main) v.main) above
    ∙ ap (λ (xs : Stack). t.up ++ xs) below ∙ sym t.now)

checks_told : (v w : Seen) (found : Pairs) → w.checks ≡ v.checks ++ found → changed_by v (check_changes (length v.checks) w.checks) ≡ record v { checks = w.checks }
checks_told v w found now =
    let behind : drop (length v.checks) w.checks ≡ found = rw now (drop-append_seam v.checks found) in
    changed_by-checked v (drop (length v.checks) w.checks)
    ∙ ap (λ (checks : Pairs). record v { checks = checks }) (ap (λ (pairs : Pairs). v.checks ++ pairs) behind ∙ sym now)

-- ---- a step

-- what an opcode changed of what is seen, part by part
pub record Tells (o : Op) (v w : Seen) : Type 0 where
  pub main : Trades (opcode_puts o (length v.main) (length w.main)) v.main w.main
  pub alt : (u : Seen) → u.alt ≡ v.alt → changed_by u (alt_changes o w.alt) ≡ record u { alt = w.alt }
  pub branches : (u : Seen) → u.branches ≡ v.branches → changed_by u (branch_changes o w.branches) ≡ record u { branches = w.branches }
  pub found : Pairs
  pub checks : w.checks ≡ v.checks ++ found

-- so its changes are all that changed
pub told : (o : Op) (v w : Seen) → Tells o v w → changed_by v (changes (item.code o) v w) ≡ w
unfolding changes
told o v w t =
    let v1 : Seen = record v { main = w.main } in
    let v2 : Seen = record v1 { alt = w.alt } in
    let v3 : Seen = record v2 { branches = w.branches } in
    let puts = opcode_puts o (length v.main) (length w.main) in
    let m = main_changes puts (length v.main) w.main in
    let a = alt_changes o w.alt in
    let b = branch_changes o w.branches in
    let c = check_changes (length v.checks) w.checks in
    let one : changed_by v m ≡ v1 = main_told puts v w t.main in
    let two : changed_by v (m ++ a) ≡ v2 = changed_by-append v m a ∙ ap (λ (u : Seen). changed_by u a) one ∙ t.alt v1 refl in
    let three : changed_by v ((m ++ a) ++ b) ≡ v3 =
    changed_by-append v (m ++ a) b ∙ ap (λ (u : Seen). changed_by u b) two ∙ t.branches v2 refl
    in
    changed_by-append v ((m ++ a) ++ b) c ∙ ap (λ (u : Seen). changed_by u c) three ∙ checks_told v3 w t.found t.checks
