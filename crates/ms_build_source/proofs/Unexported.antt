-- A source whose numbers are in order and that exports nothing lists its variables.
use Rattle.std.proofs.Common.{◌≡◌, ℕ, ◌+◌, ◌≤◌, List, [], ◌∷◌, ◌++◌, flat_map, length, map, slice_get, refl, sym, ap, subst, ◌∙◌, arith}
use Rattle.std.proofs.lemmas.Option.{none-some}
use Rattle.ms_logic.specs.declared.checked.ExportUse.{ExportUse}
use Rattle.ms_logic.specs.declared.checked.Placed.{Placed}
use Rattle.ms_logic.specs.Assignment.{Variable}
use Rattle.ms_logic_core.specs.Roots as roots
use Rattle.ms_logic.specs.Tree.{Form, truth, falsity, truth_variable, negation, conjunction, disjunction, implication, equivalence, comparison, set_comparison, membership, emptiness, quantified, where_let, call, restrict, imported, exported, default_at, Forms, no_forms, more_forms}
use Rattle.ms_logic.specs.Truth.{Given}
use Rattle.ms_logic.specs.View.{formula_of, forms, problem_of}
use Rattle.ms_lower.specs.Lowered.{ExportsFit, ExportsFitEach}
use Rattle.ms_names_rules.specs.Numbers as numbers
use Rattle.ms_names_rules.specs.Numbers.{AreNumbered, CountUp, IsNumbered, IsNumberedRestriction, IsWellNumbered, globals_seen, tables_of}
use Rattle.ms_logic_spread.proofs.Questions.{whole_asked}
use Rattle.ms_build_source.specs.inner.HandoverLaws.{SourcesWithoutExportsListVariables}
use Rattle.ms_build_source.proofs.Questions.{reads_globals}

-- lists that are empty together are empty
both_empty : {X : Type 0} (xs ys : List X) → xs ++ ys ≡ [] → (xs ≡ []) × (ys ≡ [])
both_empty [] ys none = (refl, none)
both_empty (x ∷ xs) ys none = absurd (none-some x (ap (λ list. slice_get list 0) (sym none)))

joined_none : {X : Type 0} (xs ys : List X) → xs ≡ [] → ys ≡ [] → xs ++ ys ≡ []
joined_none xs ys first second = ap (λ list. list ++ ys) first ∙ second

never_empty : {X : Type 0} (x : X) (xs : List X) → x ∷ xs ≡ [] → ⊥
never_empty x xs none = none-some x (ap (λ list. slice_get list 0) (sym none))

-- what counts up ends no earlier than it begins
ends_later : (n : ℕ) (xs : List ℕ) (m : ℕ) → CountUp n xs m → n ≤ m
ends_later n [] m is = omega (arith, is)
ends_later n (x ∷ xs) m is = let later = ends_later (n + 1) xs m is.1 in omega (arith, later)

counts_none : (xs : List ℕ) → CountUp 0 xs 0 → xs ≡ []
counts_none [] is = refl
counts_none (x ∷ xs) is = let later = ends_later 1 xs 0 is.1 in absurd (omega (arith, later))

-- where no number of an export stands, no export does
mutual
  none_in : (f : Form) → numbers.exports_in f ≡ [] → roots.exports_in f ≡ []
  none_in truth none = refl
  none_in falsity none = refl
  none_in (truth_variable x) none = refl
  none_in (negation f) none = none_in f none
  none_in (conjunction fs) none = none_among fs none
  none_in (disjunction fs) none = none_among fs none
  none_in (implication f g) none =
      let both = both_empty (numbers.exports_in f) (numbers.exports_in g) none in
      joined_none (roots.exports_in f) (roots.exports_in g) (none_in f both.0) (none_in g both.1)
  none_in (equivalence f g) none =
      let both = both_empty (numbers.exports_in f) (numbers.exports_in g) none in
      joined_none (roots.exports_in f) (roots.exports_in g) (none_in f both.0) (none_in g both.1)
  none_in (comparison r t u) none = refl
  none_in (set_comparison r s t) none = refl
  none_in (membership positive t s) none = refl
  none_in (emptiness s) none = refl
  none_in (quantified q o x d f) none = none_in f (both_empty (numbers.exports_in_restriction d) (numbers.exports_in f) none).1
  none_in (where_let xs right_sides f) none = refl
  none_in (call p values) none = refl
  none_in (restrict f) none = none_in f none
  none_in (imported i) none = refl
  none_in (exported i f) none = absurd (never_empty i (numbers.exports_in f) none)
  none_in (default_at p x) none = refl

  none_among : (fs : Forms) → numbers.exports_in_all fs ≡ [] → roots.exports_among fs ≡ []
  none_among no_forms none = refl
  none_among (more_forms f fs) none =
      let both = both_empty (numbers.exports_in f) (numbers.exports_in_all fs) none in
      joined_none (roots.exports_in f) (roots.exports_among fs) (none_in f both.0) (none_among fs both.1)

-- and so each fits
module _ (given : Given) (exports : List ExportUse) where
  mutual
    fits_in : (f : Form) (seen : List Variable) → numbers.exports_in f ≡ [] → ExportsFit given exports seen f
    fits_in truth seen none = tt
    fits_in falsity seen none = tt
    fits_in (truth_variable x) seen none = tt
    fits_in (negation f) seen none = fits_in f seen none
    fits_in (conjunction fs) seen none = fits_among fs seen none
    fits_in (disjunction fs) seen none = fits_among fs seen none
    fits_in (implication f g) seen none =
        let both = both_empty (numbers.exports_in f) (numbers.exports_in g) none in (fits_in f seen both.0, fits_in g seen both.1)
    fits_in (equivalence f g) seen none =
        let both = both_empty (numbers.exports_in f) (numbers.exports_in g) none in (fits_in f seen both.0, fits_in g seen both.1)
    fits_in (comparison r t u) seen none = tt
    fits_in (set_comparison r s t) seen none = tt
    fits_in (membership positive t s) seen none = tt
    fits_in (emptiness s) seen none = tt
    fits_in (quantified q o x d f) seen none =
        fits_in f (record { name = x; order = o } ∷ seen) (both_empty (numbers.exports_in_restriction d) (numbers.exports_in f) none).1
    fits_in (where_let xs right_sides f) seen none = tt
    fits_in (call p values) seen none = tt
    fits_in (restrict f) seen none = fits_in f seen none
    fits_in (imported i) seen none = tt
    fits_in (exported i f) seen none = absurd (never_empty i (numbers.exports_in f) none)
    fits_in (default_at p x) seen none = tt

    fits_among : (fs : Forms) (seen : List Variable) → numbers.exports_in_all fs ≡ [] → ExportsFitEach given exports seen fs
    fits_among no_forms seen none = tt
    fits_among (more_forms f fs) seen none =
        let both = both_empty (numbers.exports_in f) (numbers.exports_in_all fs) none in (fits_in f seen both.0, fits_among fs seen both.1)

-- the formulas of a source, in one list of trees
none_placed : (placed : List Placed) → flat_map (λ p. numbers.exports_in (formula_of p.formula)) placed ≡ [] → numbers.exports_in_all (forms (map (λ p. formula_of p.formula) placed)) ≡ []
none_placed [] none = refl
none_placed (p ∷ placed) none =
    let both = both_empty (numbers.exports_in (formula_of p.formula)) (flat_map (λ q. numbers.exports_in (formula_of q.formula)) placed) none in
    ap (λ list. list ++ numbers.exports_in_all (forms (map (λ q. formula_of q.formula) placed))) both.0 ∙ none_placed placed both.1

pub lists_variables : SourcesWithoutExportsListVariables
lists_variables checked answers well unexported =
    let none = none_placed checked.formulas (counts_none _ (subst (CountUp 0 _) unexported well.exports)) in
    let reads = reads_globals checked answers well checked.formulas (whole_asked checked) in
    record {
      restrictions = reads.restrictions;
      formulas = reads.formulas;
      numbers = subst (λ list. CountUp 0 (map (λ e. e.number) list) (length checked.exports)) (sym (none_among (problem_of checked answers).formulas none)) (sym unexported);
      fit = fits_among (problem_of checked answers).given checked.exports (problem_of checked answers).formulas _ none;
    }
