-- Calls in core formulas. A call of a predicate may stand in a core formula as an import behind those of the source: it has the number
-- of the predicate behind those of the imports, and names the variables of its parameters and then the first number that is free
-- there. So the core formula of a source grows with the source, and not with what its calls become.
use Rattle.std.specs.Prelude.{ℕ, ◌+◌, ◌==◌, if◌then◌else◌, List, [], ◌∷◌, ◌++◌, map}
use Rattle.ms_logic_core.specs.CoreForm.{CoreForm, truth, falsity, basic, negation, conjunction, disjunction, implication, equivalence, restrict, imported, quantified, CoreForms, no_forms, more_forms, CoreRestriction, unrestricted, restricted}
use Rattle.ms_logic_core.specs.Spread.{Callees, default_names, spread_under}
use Rattle.ms_logic.specs.Tree.{Predicate}

-- the core formula that an import stands for, by its number and its variables
abbrev pub Calls : Type 0
Calls = ℕ → List ℕ → CoreForm

-- the core formula with what its imports stand for in their places
abbrev mutual
  pub filled : Calls → CoreForm → CoreForm
  filled calls truth = truth
  filled calls falsity = falsity
  filled calls (basic b) = basic b
  filled calls (negation f) = negation (filled calls f)
  filled calls (conjunction fs) = conjunction (filled_each calls fs)
  filled calls (disjunction fs) = disjunction (filled_each calls fs)
  filled calls (implication f g) = implication (filled calls f) (filled calls g)
  filled calls (equivalence f g) = equivalence (filled calls f) (filled calls g)
  filled calls (restrict f) = restrict (filled calls f)
  filled calls (imported i xs) = calls i xs
  filled calls (quantified q o x d f) = quantified q o x (filled_in calls d) (filled calls f)

  pub filled_each : Calls → CoreForms → CoreForms
  filled_each calls no_forms = no_forms
  filled_each calls (more_forms f fs) = more_forms (filled calls f) (filled_each calls fs)

  pub filled_in : Calls → CoreRestriction → CoreRestriction
  filled_in calls unrestricted = unrestricted
  filled_in calls (restricted d) = restricted (filled calls d)

-- one more predicate, of which a call stands as an import behind so many; a default restriction is put in place
abbrev pub calling_with : ℕ → Callees → ℕ → Predicate → Callees
calling_with imports c number predicate = record {
  parameters = λ p. if p == number then map (λ declared. declared.variable.name) predicate.parameters else c.parameters p;
  body = λ p.
      if p == number
      then (λ names free. imported (imports + number) (map (λ declared. names declared.variable.order declared.variable.name) predicate.parameters ++ free ∷ []))
      else c.body p;
  default = λ p.
      if p == number then (λ x names free. spread_under c predicate.body (default_names predicate.parameters x names) free) else c.default p;
  imported = c.imported;
}

-- with these predicates, whose numbers go on from a count
abbrev pub calling_with_all : ℕ → Callees → ℕ → List Predicate → Callees
calling_with_all imports c count [] = c
calling_with_all imports c count (first ∷ later) = calling_with_all imports (calling_with imports c count first) (count + 1) later
