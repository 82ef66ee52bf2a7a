-- What rows of symbols tell, by computation.
use Rattle.std.proofs.Common.{◌≡◌, List, true, ltb, ap, subst, arith, ltb-true}
use Rattle.ms_parse_stack.specs.declared.grammar.Grammar.{Ghosts}
use Rattle.ms_parse_stack.specs.inner.Machine.{State, within, done, stopped, shortest}
use Rattle.ms_parse_stack.proofs.Readings.{Reading, Recognises}

abbrev pub IsNotDone : {Prefix Binary Place Formula : Type 0} → State Prefix Binary Place Formula → Type 0
IsNotDone (within frames p) = Unit {0}
IsNotDone (done f) = ⊥
IsNotDone stopped = Unit {0}

module _ {Grammar Tree Prefix Binary : Type 0} {g : Ghosts Grammar Tree Prefix Binary} {Symbol : Type 0} {r : Reading g Symbol} (t : Recognises r) where
  -- where the machine has not come to the end, the symbols read as no formula
  pub none_by_trial : (all : List Symbol) → IsNotDone (r.reached all) → r.Reads all → ⊥
  none_by_trial all h reads = subst IsNotDone (t.whole all reads).is h

  pub too_deep_by_trial : (front : List Symbol) → ltb 300 (g.depth (shortest g.machine (r.reached front))) ≡ true → r.CanFollow front → ⊥
  too_deep_by_trial front deep any = omega (arith, t.is_shallow front any, ltb-true 300 (g.depth (shortest g.machine (r.reached front))) deep)

  -- where the formula that it comes to is too deep, they read as none
  pub too_deep_at_the_end : (all : List Symbol) → ltb 300 (g.depth (shortest g.machine (r.reached all))) ≡ true → r.Reads all → ⊥
  too_deep_at_the_end all deep reads =
      let end = t.whole all reads in
      let same = ap (λ s. g.depth (shortest g.machine s)) end.is in
      omega (arith, same, end.shallow, ltb-true 300 (g.depth (shortest g.machine (r.reached all))) deep)
