-- Steps have measures where their formulas are over the variables of their full contents.
use Rattle.std.proofs.Common.{ℕ, ◌<◌, ◌≤◌, List, [], length, refl, arith}
use Rattle.ms_logic.specs.Assignment.{Variable}
use Rattle.ms_logic.specs.FiniteSet.{numbers_below}
use Rattle.ms_logic.specs.Truth.{Answer, Import}
use Rattle.ms_logic.specs.declared.mode.Mode.{Mode}
use Rattle.ms_logic_core.specs.CoreForm.{CoreForm, truth, basic, imported, CoreRestriction, unrestricted, restricted}
use Rattle.ms_logic_core.specs.Operands.{at_places}
use Rattle.ms_logic_core.specs.declared.core_formula.Basic.{Basic}
use Rattle.ms_logic_readers.specs.Scoped.{AreDistinct, IsOver}
use Rattle.ms_logic_contents.proofs.FullContents.{full_contents_exist}
use Rattle.ms_logic_counts.proofs.CallLemmas.{combines_are_measured, free_projects_are_measured, projects_are_measured, renames_are_measured, widenings_are_paired}
use Rattle.ms_logic_counts.proofs.Doubts.{and-then, not-refuted}
use Rattle.ms_logic_measures.specs.Budgets.{AreContentsOfImports, IsBindingMeasure, IsMeasureOf, IsOwnContent, IsWideningMeasure, pair_variables, variables_inside}
use Rattle.ms_logic_measures.specs.CallMeasures.{place_variables}
use Rattle.ms_logic_measures.specs.FullContent.{HasPartCount, IsFullContent, part_count}
use Rattle.ms_logic_measures.specs.Steps.{constant, of_one, relation, connective, import_at, free_variables}
use Rattle.ms_logic_words.specs.Content.{Content}
use Rattle.ms_logic_words.specs.declared.sign.Sign.{Sign}
use Rattle.ms_source_steps.proofs.Places.{import_over, pair_variables_distinct, place_variables_distinct, relation_over}

-- what is at most a limit is not above it
pub not_above : (least limit : ℕ) → least ≤ limit → limit < least → ⊥
not_above least limit within above = omega (arith, within, above)

-- the formula is over the variables, which have different numbers
abbrev pub IsScoped : List Import → List Variable → CoreForm → Type 0
IsScoped imports variables f = AreDistinct variables × IsOver imports variables f

-- a restriction is over its free variables
abbrev pub IsScopedRestriction : List Import → CoreRestriction → Type 0
IsScopedRestriction imports unrestricted = Unit {0}
IsScopedRestriction imports (restricted d) = IsScoped imports (free_variables imports d) d

module _ (imports : List Import) (mode : Mode) (files : List (Content Answer)) (tied : AreContentsOfImports mode imports files) where
  full : (variables : List Variable) (f : CoreForm) → IsScoped imports variables f → (content : Content Sign) × IsFullContent imports mode variables f content
  full variables f scoped = full_contents_exist imports mode files variables f tied scoped.0 scoped.1

  own : (f : CoreForm) → IsScoped imports (free_variables imports f) f → (content : Content Sign) × IsOwnContent imports mode f content
  own f scoped = full (free_variables imports f) f scoped

  counted : (f : CoreForm) → IsScoped imports (free_variables imports f) f → (n : ℕ) × HasPartCount imports mode (free_variables imports f) f n
  counted f scoped = let made = own f scoped in (part_count made.0, (made.0, made.1, refl))

  -- the widening of a formula to a list of variables
  pub widening_measured : (f : CoreForm) (variables : List Variable) → IsScoped imports (free_variables imports f) f → AreDistinct variables
      → ¬ ¬ ((m r : ℕ) × IsWideningMeasure imports mode f variables m r)
  widening_measured f variables scoped distinct =
      let content = own f scoped in
      let encodings = full variables truth (distinct, tt) in
      widenings_are_paired imports mode f variables content.0 encodings.0 content.1 encodings.1

  -- a restriction and a body that is over its variables inside
  pub binding_measured : (x : Variable) (d : CoreRestriction) (f : CoreForm) → IsScoped imports (variables_inside imports mode x d f) f → IsScopedRestriction imports d
      → ¬ ¬ ((m r : ℕ) × IsBindingMeasure imports mode x d f m r)
  binding_measured x unrestricted f scoped range =
      let body = full (variables_inside imports mode x unrestricted f) f scoped in
      and-then (free_projects_are_measured body.0 mode x body.1.canonical.rules) (λ found. not-refuted (found.0, found.1, (body.0, body.1, found.2)))
  binding_measured x (restricted d) f scoped range =
      let body = full (variables_inside imports mode x (restricted d) f) f scoped in
      let domain = own d range in
      and-then (projects_are_measured body.0 domain.0 x body.1.canonical.rules domain.1.canonical.rules)
      (λ found. not-refuted (found.0, found.1, (body.0, domain.0, body.1, domain.1, found.2)))

  module _ (others : List (Content Answer)) where
    pub constant_measured : (f : CoreForm) → IsScoped imports (free_variables imports f) f → ¬ ¬ ((m r : ℕ) × IsMeasureOf imports mode others (constant f) m r)
    constant_measured f scoped = let made = counted f scoped in not-refuted (made.0, 0, (made.1, refl))

    pub of_one_measured : (f operand : CoreForm) → IsScoped imports (free_variables imports f) f → IsScoped imports (free_variables imports operand) operand
        → ¬ ¬ ((m r : ℕ) × IsMeasureOf imports mode others (of_one f operand) m r)
    of_one_measured f operand scoped inner =
        let made = counted f scoped in
        let read = counted operand inner in
        not-refuted (made.0, read.0, (made.1, read.1))

    pub relation_measured : (b : Basic) → ¬ ¬ ((m r : ℕ) × IsMeasureOf imports mode others (relation b) m r)
    relation_measured b =
        let made = full_contents_exist [] mode [] (place_variables b) (basic (at_places b)) tt (place_variables_distinct b) (relation_over [] b) in
        not-refuted (part_count made.0, 0, record { made = (made.0, made.1, refl); read = refl })

    pub connective_measured : (f g : CoreForm) → IsScoped imports (free_variables imports f) f → IsScoped imports (free_variables imports g) g
        → ¬ ¬ ((m r : ℕ) × IsMeasureOf imports mode others (connective f g) m r)
    connective_measured f g first second =
        let left = own f first in
        let right = own g second in
        and-then (combines_are_measured left.0 right.0 left.1.canonical.rules right.1.canonical.rules)
        (λ found. not-refuted (found.0, found.1, (left.0, right.0, left.1, right.1, found.2)))

    pub import_measured : (i : ℕ) (xs : List ℕ) → ¬ ¬ ((m r : ℕ) × IsMeasureOf imports mode others (import_at i xs) m r)
    import_measured i xs =
        let made = full (pair_variables imports i) (imported i (numbers_below (length (pair_variables imports i)))) (pair_variables_distinct imports i, import_over imports i) in
        and-then (renames_are_measured made.0 xs made.1.canonical.rules) (λ found. not-refuted (found.0, found.1, (made.0, made.1, found.2)))
