-- Core formulas and sources for the worked examples of the spread.
use Rattle.std.specs.Prelude.{ℕ, [], ◌∷◌}
use Rattle.ms_logic.specs.declared.mode.Mode.TheVariants.{Ws1s}
use Rattle.ms_logic.specs.declared.mode.Order.TheVariants.{Zero, One, Two}
use Rattle.ms_logic.specs.declared.mode.Quant.TheVariants.{Ex, All}
use Rattle.ms_logic_core.specs.declared.core_formula.Basic.TheVariants.{Member, Plus}
use Rattle.ms_logic_core.specs.CoreForm.{CoreForm, basic, conjunction, disjunction, implication, quantified, unrestricted, restricted, core_forms}
use Rattle.ms_logic.specs.inner.Examples as source
use Rattle.ms_logic_core.specs.Spread.{spread, own_names}
use Rattle.ms_logic.specs.Tree.{Form, Forms, no_forms, more_forms, Term, numeral, SetTerm, set_variable, Declaration, Predicate}
use Rattle.ms_logic.specs.Tree as tree
use Rattle.ms_logic.specs.Truth.{Given}
use Rattle.ms_logic.specs.Verdict.{Problem}

-- the spread of a formula without predicates over the variables below a number, which keep their numbers
abbrev pub spread_over : ℕ → Form → CoreForm
spread_over count f = spread source.nothing_given f own_names count

-- core formulas

abbrev pub ex1_where : ℕ → CoreForm → CoreForm → CoreForm
ex1_where x d f = quantified Ex One x (restricted d) f

abbrev pub ex2_where : ℕ → CoreForm → CoreForm → CoreForm
ex2_where x d f = quantified Ex Two x (restricted d) f

abbrev pub ex0 : ℕ → CoreForm → CoreForm
ex0 x f = quantified Ex Zero x unrestricted f

abbrev pub ex1 : ℕ → CoreForm → CoreForm
ex1 x f = quantified Ex One x unrestricted f

abbrev pub all1 : ℕ → CoreForm → CoreForm
all1 x f = quantified All One x unrestricted f

abbrev pub and : CoreForm → CoreForm → CoreForm
and f g = conjunction (core_forms (f ∷ g ∷ []))

abbrev pub or : CoreForm → CoreForm → CoreForm
or f g = disjunction (core_forms (f ∷ g ∷ []))

-- x in S & all1 z: z in S => z = x
abbrev pub only_member : ℕ → ℕ → ℕ → CoreForm
only_member x s z = and (basic (Member x s)) (all1 z (implication (basic (Member z s)) (basic (Plus z x 0))))

-- parts of sources

abbrev pub set_R : SetTerm
set_R = set_variable 2

-- pred before(var0 a, var1 x) = a => 0 < x
abbrev pub before_given : Given
before_given = record {
  predicates =
      record {
        parameters =
            record { variable = source.variable 2 Zero; restriction = tree.unrestricted }
            ∷ source.number_global 3 tree.unrestricted
            ∷ [];
        body = tree.implication (tree.truth_variable 2) (source.less (numeral 0) (tree.number_variable 3));
      }
      ∷ [];
  imports = [];
}

abbrev pub two_forms : Form → Form → Forms
two_forms f g = more_forms f (more_forms g no_forms)

-- var1 x where x = 0; var2 P; x in P; empty(P)
abbrev pub number_and_set : Problem
number_and_set =
    source.problem Ws1s
    (source.number_global 0 (tree.restricted (source.equal source.var_x (numeral 0))) ∷ source.set_global 1 tree.unrestricted ∷ [])
    (two_forms (source.is_in source.var_x source.set_Q) (tree.emptiness source.set_Q))

-- var2 P, Q; P sub Q
abbrev pub subset_source : Problem
subset_source =
    source.problem Ws1s
    (source.set_global 0 tree.unrestricted ∷ source.set_global 1 tree.unrestricted ∷ [])
    (source.one_form (source.subset source.set_P source.set_Q))

-- var1 x; ex1 y: export(.., y < x)
abbrev pub export_source : Problem
export_source =
    source.problem Ws1s (source.number_global 0 tree.unrestricted ∷ [])
    (source.one_form (source.ex1_y (tree.exported 0 (source.less source.var_y source.var_x))))
