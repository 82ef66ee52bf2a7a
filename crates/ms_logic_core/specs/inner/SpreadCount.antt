-- How many subformulas and variables the spread of a source has.
use Rattle.std.specs.Prelude.{ℕ, ◌+◌, List, [], ◌∷◌, length}
use Rattle.ms_logic_core.specs.CoreForm.{CoreForm, truth, falsity, basic, negation, conjunction, disjunction, implication, equivalence, restrict, imported, quantified, CoreForms, no_forms, more_forms, CoreRestriction, unrestricted, restricted}
use Rattle.ms_logic_core.specs.Roots.{Export, main_root, exports_among}
use Rattle.ms_logic_core.specs.Spread.{spread, own_names}
use Rattle.ms_logic.specs.Truth.{Given}
use Rattle.ms_logic.specs.Verdict.{Problem}

-- subformulas, and quantified variables; a restriction counts with its subformulas
pub record Count : Type 0 where
  pub subformulas : ℕ
  pub variables : ℕ

abbrev pub no_count : Count
no_count = record { subformulas = 0; variables = 0 }

abbrev pub with_count : Count → Count → Count
with_count one other = record { subformulas = one.subformulas + other.subformulas; variables = one.variables + other.variables }

-- one more subformula
abbrev pub counted_above : Count → Count
counted_above parts = record { subformulas = 1 + parts.subformulas; variables = parts.variables }

abbrev mutual
  pub count_of : CoreForm → Count
  count_of truth = counted_above no_count
  count_of falsity = counted_above no_count
  count_of (basic b) = counted_above no_count
  count_of (negation f) = counted_above (count_of f)
  count_of (conjunction fs) = counted_above (count_of_each fs)
  count_of (disjunction fs) = counted_above (count_of_each fs)
  count_of (implication f g) = counted_above (with_count (count_of f) (count_of g))
  count_of (equivalence f g) = counted_above (with_count (count_of f) (count_of g))
  count_of (restrict f) = counted_above (count_of f)
  count_of (imported i xs) = counted_above no_count
  count_of (quantified q o x d f) = record {
    subformulas = 1 + ((count_of_restriction d).subformulas + (count_of f).subformulas);
    variables = 1 + ((count_of_restriction d).variables + (count_of f).variables);
  }

  pub count_of_each : CoreForms → Count
  count_of_each no_forms = no_count
  count_of_each (more_forms f fs) = with_count (count_of f) (count_of_each fs)

  pub count_of_restriction : CoreRestriction → Count
  count_of_restriction unrestricted = no_count
  count_of_restriction (restricted d) = count_of d

-- the formulas of the exports; no count depends on the numbers of the variables
abbrev pub count_of_exports : Given → List Export → Count
count_of_exports given [] = no_count
count_of_exports given (first ∷ more) = with_count (count_of (spread given first.formula own_names 0)) (count_of_exports given more)

abbrev pub count_of_roots : Problem → Count
count_of_roots problem =
    with_count (count_of (main_root problem).formula) (count_of_exports problem.given (exports_among problem.formulas))

-- the subformulas, roots, globals and quantified variables of the spread of a source
abbrev pub spread_count : Problem → ℕ
spread_count problem =
    (count_of_roots problem).subformulas + (1 + length (exports_among problem.formulas))
    + length problem.globals + (count_of_roots problem).variables
