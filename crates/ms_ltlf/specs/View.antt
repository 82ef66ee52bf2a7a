-- The mathematical tree that a tree of the code stands for, and what a trace of the code promises.
use Rattle.std.specs.Prelude.{◌≢◌, ◌≤◌, List, [], ◌∷◌, length, AllPairs}
use Rattle.ms_ltlf.specs.declared.trace.Ltl.{Ltl}
use Rattle.ms_ltlf.specs.declared.trace.Ltl.TheOpen.{Ltl-F}
use Rattle.ms_ltlf.specs.declared.trace.Ltl.TheFolds.{fold-Ltl}
use Rattle.ms_ltlf.specs.declared.trace.Trace.{Trace}
use Rattle.ms_ltlf.specs.Tree.{Temporal, truth, falsity, proposition, brackets, negation, conjunction, disjunction, implication, equivalence, next, weak_next, eventually, always, until, release, Temporals, no_temporals, more_temporals, depth, IsOver}

abbrev pub temporals : List Temporal → Temporals
temporals [] = no_temporals
temporals (f ∷ fs) = more_temporals f (temporals fs)

-- one level of a formula
abbrev pub temporal_at : Ltl-F Temporal → Temporal
temporal_at Ltl-F.True = truth
temporal_at Ltl-F.False = falsity
temporal_at (Ltl-F.Prop p) = proposition p
temporal_at (Ltl-F.Paren f) = brackets f
temporal_at (Ltl-F.Not f) = negation f
temporal_at (Ltl-F.Next f) = next f
temporal_at (Ltl-F.WeakNext f) = weak_next f
temporal_at (Ltl-F.Eventually f) = eventually f
temporal_at (Ltl-F.Always f) = always f
temporal_at (Ltl-F.And fs) = conjunction (temporals fs)
temporal_at (Ltl-F.Or fs) = disjunction (temporals fs)
temporal_at (Ltl-F.Implies f g) = implication f g
temporal_at (Ltl-F.Iff f g) = equivalence f g
temporal_at (Ltl-F.Until f g) = until f g
temporal_at (Ltl-F.Release f g) = release f g

-- the formula that a tree of the code stands for
abbrev pub temporal_of : Ltl → Temporal
temporal_of f = fold-Ltl Temporal temporal_at f

-- the names are all different and at most 67,108,864, each proposition of the formula has one of them, and the depth is at
-- most 300
pub record IsWellFormed (trace : Trace) : Type 0 where
  pub different : AllPairs (λ one other. one ≢ other) trace.names
  pub few : length trace.names ≤ 67108864
  pub named : IsOver (length trace.names) (temporal_of trace.formula)
  pub shallow : depth (temporal_of trace.formula) ≤ 300
