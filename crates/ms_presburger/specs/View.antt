-- The mathematical tree that a tree of the code stands for, and what a problem of the code promises.
use Rattle.std.specs.Prelude.{◌≡◌, ◌≤◌, List, [], ◌∷◌}
use Rattle.ms_presburger.specs.declared.linear.Linear.{Linear}
use Rattle.ms_presburger.specs.declared.linear.Linear.TheOpen.{Linear-F}
use Rattle.ms_presburger.specs.declared.linear.Linear.TheFolds.{fold-Linear}
use Rattle.ms_presburger.specs.declared.linear.Problem.{Problem}
use Rattle.ms_presburger.specs.Tree.{Arithmetic, truth, falsity, comparison, brackets, negation, conjunction, disjunction, implication, equivalence, quantified, Arithmetics, no_arithmetics, more_arithmetics, depth, extent, free_names}

abbrev pub arithmetics : List Arithmetic → Arithmetics
arithmetics [] = no_arithmetics
arithmetics (f ∷ fs) = more_arithmetics f (arithmetics fs)

-- one level of a formula
abbrev pub arithmetic_at : Linear-F Arithmetic → Arithmetic
arithmetic_at Linear-F.True = truth
arithmetic_at Linear-F.False = falsity
arithmetic_at (Linear-F.Compare r left right) = comparison r left right
arithmetic_at (Linear-F.Paren f) = brackets f
arithmetic_at (Linear-F.Not f) = negation f
arithmetic_at (Linear-F.And fs) = conjunction (arithmetics fs)
arithmetic_at (Linear-F.Or fs) = disjunction (arithmetics fs)
arithmetic_at (Linear-F.Implies f g) = implication f g
arithmetic_at (Linear-F.Iff f g) = equivalence f g
arithmetic_at (Linear-F.Bind q names f) = quantified q names f

-- the formula that a tree of the code stands for
abbrev pub arithmetic_of : Linear → Arithmetic
arithmetic_of f = fold-Linear Arithmetic arithmetic_at f

-- The names are the free names of the formula, each once, by their first free places; the parts of sums and the bound names are
-- together at most 67,108,864; and the depth is at most 300.
pub record IsWellFormed (problem : Problem) : Type 0 where
  pub names : problem.names ≡ free_names (arithmetic_of problem.formula)
  pub few : extent (arithmetic_of problem.formula) ≤ 67108864
  pub shallow : depth (arithmetic_of problem.formula) ≤ 300
