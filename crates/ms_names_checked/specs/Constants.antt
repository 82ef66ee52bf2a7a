-- The constants and relations in a checked source, and `$`.
use Rattle.std.specs.Prelude.{◌≤◌, map}
use Rattle.ms_logic.specs.declared.checked.Checked.{Checked}
use Rattle.ms_logic.specs.declared.mode.Mode.{Mode}
use Rattle.ms_logic.specs.declared.mode.Mode.TheVariants.{Ws1s, M2lStr}
use Rattle.ms_logic.specs.declared.mode.Rel.{Rel}
use Rattle.ms_logic.specs.declared.mode.Rel.TheVariants.{Equal, Differs, Less, AtMost, Greater, AtLeast, Member, NotMember, Sub}
use Rattle.ms_logic.specs.Tree.{Term, number_variable, numeral, plus, minus, minimum, maximum, SetTerm, set_variable, empty_set, whole, literal, pconst, union, intersection, difference, shift_up, shift_down, Terms, no_terms, more_terms}
use Rattle.ms_logic.specs.Tree.{Form, truth, falsity, truth_variable, negation, conjunction, disjunction, implication, equivalence, comparison, set_comparison, membership, emptiness, quantified, where_let, call, restrict, imported, exported, default_at, Forms, no_forms, more_forms, Restriction, unrestricted, restricted, Argument, truth_argument, number_argument, set_argument, Arguments, no_arguments, more_arguments, Declaration, Predicate}
use Rattle.ms_logic.specs.View.{formula_of, globals_from, predicate_of}
use Rattle.ms_names_rules.specs.Constant.{greatest_in_terms}
use Rattle.ms_logic.specs.Lists.{Each}

-- `$` stands in M2L-Str alone
abbrev pub HasWhole : Mode → Type 0
HasWhole Ws1s = ⊥
HasWhole M2lStr = Unit {0}

-- the relation is one of numbers
abbrev pub RelatesNumbers : Rel → Type 0
RelatesNumbers Equal = Unit {0}
RelatesNumbers Differs = Unit {0}
RelatesNumbers Less = Unit {0}
RelatesNumbers AtMost = Unit {0}
RelatesNumbers Greater = Unit {0}
RelatesNumbers AtLeast = Unit {0}
RelatesNumbers Member = ⊥
RelatesNumbers NotMember = ⊥
RelatesNumbers Sub = ⊥

-- the relation is one of sets
abbrev pub RelatesSets : Rel → Type 0
RelatesSets Equal = Unit {0}
RelatesSets Differs = Unit {0}
RelatesSets Sub = Unit {0}
RelatesSets Less = ⊥
RelatesSets AtMost = ⊥
RelatesSets Greater = ⊥
RelatesSets AtLeast = ⊥
RelatesSets Member = ⊥
RelatesSets NotMember = ⊥

-- numbers and offsets in a term are within the range of terms; the number of `pconst`, which is read bit by bit, may be greater
abbrev mutual
  pub IsTermInRange : Mode → Term → Type 0
  IsTermInRange mode (number_variable x) = Unit {0}
  IsTermInRange mode (numeral n) = n ≤ greatest_in_terms
  IsTermInRange mode (plus t n) = IsTermInRange mode t × (n ≤ greatest_in_terms)
  IsTermInRange mode (minus t n) = IsTermInRange mode t × (n ≤ greatest_in_terms)
  IsTermInRange mode (minimum s) = IsSetInRange mode s
  IsTermInRange mode (maximum s) = IsSetInRange mode s

  pub IsSetInRange : Mode → SetTerm → Type 0
  IsSetInRange mode (set_variable x) = Unit {0}
  IsSetInRange mode empty_set = Unit {0}
  IsSetInRange mode whole = HasWhole mode
  IsSetInRange mode (literal ts) = AreTermsInRange mode ts
  IsSetInRange mode (pconst n) = Unit {0}
  IsSetInRange mode (union s t) = IsSetInRange mode s × IsSetInRange mode t
  IsSetInRange mode (intersection s t) = IsSetInRange mode s × IsSetInRange mode t
  IsSetInRange mode (difference s t) = IsSetInRange mode s × IsSetInRange mode t
  IsSetInRange mode (shift_up s n) = IsSetInRange mode s × (n ≤ greatest_in_terms)
  IsSetInRange mode (shift_down s n) = IsSetInRange mode s × (n ≤ greatest_in_terms)

  pub AreTermsInRange : Mode → Terms → Type 0
  AreTermsInRange mode no_terms = Unit {0}
  AreTermsInRange mode (more_terms t ts) = IsTermInRange mode t × AreTermsInRange mode ts

-- the terms in a formula are in range, and each relation is one of what stands on its sides
abbrev mutual
  pub IsInRange : Mode → Form → Type 0
  IsInRange mode truth = Unit {0}
  IsInRange mode falsity = Unit {0}
  IsInRange mode (truth_variable x) = Unit {0}
  IsInRange mode (negation f) = IsInRange mode f
  IsInRange mode (conjunction fs) = AreInRange mode fs
  IsInRange mode (disjunction fs) = AreInRange mode fs
  IsInRange mode (implication f g) = IsInRange mode f × IsInRange mode g
  IsInRange mode (equivalence f g) = IsInRange mode f × IsInRange mode g
  IsInRange mode (comparison r t u) = RelatesNumbers r × IsTermInRange mode t × IsTermInRange mode u
  IsInRange mode (set_comparison r s t) = RelatesSets r × IsSetInRange mode s × IsSetInRange mode t
  IsInRange mode (membership positive t s) = IsTermInRange mode t × IsSetInRange mode s
  IsInRange mode (emptiness s) = IsSetInRange mode s
  IsInRange mode (quantified q o x d f) = IsRestrictionInRange mode d × IsInRange mode f
  IsInRange mode (where_let xs sides f) = AreArgumentsInRange mode sides × IsInRange mode f
  IsInRange mode (call p given) = AreArgumentsInRange mode given
  IsInRange mode (restrict f) = IsInRange mode f
  IsInRange mode (imported i) = Unit {0}
  IsInRange mode (exported i f) = IsInRange mode f
  IsInRange mode (default_at p x) = Unit {0}

  pub AreInRange : Mode → Forms → Type 0
  AreInRange mode no_forms = Unit {0}
  AreInRange mode (more_forms f fs) = IsInRange mode f × AreInRange mode fs

  pub IsRestrictionInRange : Mode → Restriction → Type 0
  IsRestrictionInRange mode unrestricted = Unit {0}
  IsRestrictionInRange mode (restricted d) = IsInRange mode d

  pub IsArgumentInRange : Mode → Argument → Type 0
  IsArgumentInRange mode (truth_argument f) = IsInRange mode f
  IsArgumentInRange mode (number_argument t) = IsTermInRange mode t
  IsArgumentInRange mode (set_argument s) = IsSetInRange mode s

  pub AreArgumentsInRange : Mode → Arguments → Type 0
  AreArgumentsInRange mode no_arguments = Unit {0}
  AreArgumentsInRange mode (more_arguments a more) = IsArgumentInRange mode a × AreArgumentsInRange mode more

abbrev pub IsDeclarationInRange : Mode → Declaration → Type 0
IsDeclarationInRange mode d = IsRestrictionInRange mode d.restriction

abbrev pub IsPredicateInRange : Mode → Predicate → Type 0
IsPredicateInRange mode p = Each (IsDeclarationInRange mode) p.parameters × IsInRange mode p.body

-- all terms and relations of a source are in range
pub record HasConstantsInRange (checked : Checked) : Type 0 where
  pub globals : Each (IsDeclarationInRange checked.mode) (globals_from 0 checked.globals)
  pub predicates : Each (IsPredicateInRange checked.mode) (map predicate_of checked.predicates)
  pub formulas : Each (λ placed. IsInRange checked.mode (formula_of placed.formula)) checked.formulas
