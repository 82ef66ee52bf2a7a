-- Formulas, traces and sources for worked examples.
use Rattle.std.specs.Prelude.{ℕ, ◌==◌, true, false, List, [], ◌∷◌, map, Some, if◌then◌else◌}
use Rattle.ms_logic.specs.declared.mode.Mode.TheVariants.{M2lStr}
use Rattle.ms_logic.specs.declared.mode.Order.TheVariants.{One, Two}
use Rattle.ms_logic.specs.declared.mode.Quant.TheVariants.{Ex}
use Rattle.ms_logic.specs.declared.mode.Rel.TheVariants.{Equal}
use Rattle.ms_logic.specs.Assignment.{Env}
use Rattle.ms_logic.specs.Tree.{Form, Forms, comparison, membership, number_variable, numeral, quantified, restrict, set_variable, unrestricted}
use Rattle.ms_logic.specs.Verdict.{Problem}
use Rattle.ms_ltlf.specs.declared.trace.Ltl.{Ltl}
use Rattle.ms_ltlf.specs.declared.trace.Trace.{Trace}
use Rattle.ms_ltlf.specs.Trace.{FiniteTrace}
use Rattle.ms_ltlf.specs.Tree.{Temporal, proposition, conjunction, no_temporals, more_temporals}

-- the first two propositions
abbrev pub p : Temporal
p = proposition 0

abbrev pub q : Temporal
q = proposition 1

abbrev pub both : Temporal → Temporal → Temporal
both f g = conjunction (more_temporals f (more_temporals g no_temporals))

-- the trace of a length in which the first proposition and the second hold at these positions
abbrev pub trace : ℕ → List ℕ → List ℕ → FiniteTrace
trace size first second = record { length = size; positions = λ proposition. if proposition == 0 then first else second }

-- an assignment of these two sets on a string of a length
abbrev pub sets_on : ℕ → List ℕ → List ℕ → Env
sets_on size first second = record {
  universe = Some size;
  truth = λ x. false;
  number = λ x. 0;
  set = λ x. if x == 0 then first else second;
}

-- a formula over names of one character
abbrev pub formula_over : List ℕ → Ltl → Trace
formula_over characters f = record { names = map (λ c. c ∷ []) characters; formula = f }

-- a source of these formulas over one set p
abbrev pub source_with : Forms → Problem
source_with fs = record {
  mode = M2lStr;
  globals = record { variable = record { name = 0; order = Two }; restriction = unrestricted } ∷ [];
  given = record { predicates = []; imports = [] };
  formulas = fs;
}

-- restrict(ex1 x: x = x)
abbrev pub not_empty : Form
not_empty = restrict (quantified Ex One 1 unrestricted (comparison Equal (number_variable 1) (number_variable 1)))

-- 0 in p
abbrev pub starts_in_p : Form
starts_in_p = membership true (numeral 0) (set_variable 0)
