-- The steps of a core formula itself.
use Rattle.std.specs.Prelude.{List, [], ◌∷◌}
use Rattle.ms_logic_core.specs.CoreForm.{CoreForm, truth, falsity, basic, negation, conjunction, disjunction, implication, equivalence, restrict, imported, quantified, no_forms, more_forms}
use Rattle.ms_logic_core.specs.Operands.{variable}
use Rattle.ms_logic_measures.specs.Steps.{Step, constant, of_one, relation, connective, binding, import_at, steps_of_list}

-- the steps of a core formula itself, without those of its operands, its body and its restriction. A connective of one operand is that
-- operand, so its own steps are those of the operand.
abbrev pub own_steps : CoreForm → List Step
own_steps truth = constant truth ∷ []
own_steps falsity = constant falsity ∷ []
own_steps (basic b) = relation b ∷ []
own_steps (negation f) = of_one (negation f) f ∷ []
own_steps (conjunction (more_forms only no_forms)) = own_steps only
own_steps (conjunction fs) = steps_of_list conjunction [] fs
own_steps (disjunction (more_forms only no_forms)) = own_steps only
own_steps (disjunction fs) = steps_of_list disjunction [] fs
own_steps (implication f g) = connective f g ∷ []
own_steps (equivalence f g) = connective f g ∷ []
own_steps (restrict f) = of_one (restrict f) f ∷ []
own_steps (imported i xs) = import_at i xs ∷ []
own_steps (quantified q o x d f) = binding (variable x o) d f ∷ []
