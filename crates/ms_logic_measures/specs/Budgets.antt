-- The budgets of the steps of a source, and when a limit on the nodes of a step is enough.
use Rattle.std.specs.Prelude.{◌≡◌, ℕ, ◌+◌, ◌*◌, ◌^◌, ◌≤◌, ◌⊎◌, ◌↔◌, false, List, [], ◌∷◌, map, length, slice_get, unwrap_or, Some, Contains}
use Rattle.ms_logic_words.specs.declared.sign.Sign.{Sign}
use Rattle.ms_logic.specs.declared.mode.Mode.{Mode}
use Rattle.ms_logic.specs.declared.assignment.Value.{Value}
use Rattle.ms_logic.specs.declared.assignment.Value.TheVariants.{Truth}
use Rattle.ms_logic.specs.Assignment.{Universe, Variable, AreValuesOf, IsUniverseOf}
use Rattle.ms_logic_measures.specs.CallMeasures.{LeadToPairs, IsBasicMeasure, IsCombineMeasure, IsProjectMeasure, IsRenameMeasure, IsAdoptMeasure, no_restriction}
use Rattle.ms_logic_words.specs.Content.{Content, answer_of, variables_by_place}
use Rattle.ms_logic_core.specs.CoreForm.{CoreForm, truth, imported, CoreRestriction, unrestricted, restricted}
use Rattle.ms_logic.specs.FiniteSet.{numbers_below}
use Rattle.ms_logic_measures.specs.FullContent.{IsFullContent, HasPartCount, part_count}
use Rattle.ms_logic_core.specs.Spread.{variables_of_import}
use Rattle.ms_logic_measures.specs.Steps.{Step, constant, of_one, relation, connective, binding, import_at, import_of_source, root, joined, free_variables, free_variables_in, IsStepOf}
use Rattle.ms_logic.specs.Truth.{Answer, Import}
use Rattle.ms_logic.specs.Verdict.{Problem}

-- the answer of a file's content whose variables go by the places of their pairs: value j goes to the variable with the number j,
-- in whatever order the content has them
abbrev pub answer_by_places : Content Answer → Universe → List Value → Answer
answer_by_places file universe values =
    answer_of (λ said. said) file universe (map (λ v. unwrap_or (slice_get values v.name) (Truth false)) file.variables)

-- the content is that of the file of an import: of the same mode, with one variable for each pair, and at values of the orders of the
-- pairs the import answers as it does
pub record IsContentOfImport (mode : Mode) (found : Import) (file : Content Answer) : Type 0 where
  pub same_mode : file.mode ≡ mode
  pub variables : (v : Variable) → Contains file.variables v ↔ Contains (variables_by_place (map (λ w. w.order) found.variables)) v
  pub count : length file.variables ≡ length found.variables
  pub answers :
      (universe : Universe) (values : List Value) → IsUniverseOf mode universe → AreValuesOf universe (map (λ w. w.order) found.variables) values
      → found.answer universe values ≡ answer_by_places file universe values

-- the contents are those of the files of the imports, one for each
abbrev pub AreContentsOfImports : Mode → List Import → List (Content Answer) → Type 0
AreContentsOfImports mode [] [] = Unit {0}
AreContentsOfImports mode [] (file ∷ files) = ⊥
AreContentsOfImports mode (found ∷ imports) [] = ⊥
AreContentsOfImports mode (found ∷ imports) (file ∷ files) = IsContentOfImport mode found file × AreContentsOfImports mode imports files

-- a source with the contents of its imported files
pub record Measured : Type 0 where
  pub problem : Problem
  pub files : List (Content Answer)
  pub tied : AreContentsOfImports problem.mode problem.given.imports files

-- one variable for each pair of an import, in the order of the pairs
abbrev pub pair_variables : List Import → ℕ → List Variable
pair_variables imports i = variables_by_place (map (λ v. v.order) (variables_of_import (slice_get imports i)))

module _ (imports : List Import) (mode : Mode) where
  -- the content is the full content of the formula over its free variables alone
  abbrev pub IsOwnContent : CoreForm → Content Sign → Type 0
  IsOwnContent f content = IsFullContent imports mode (free_variables imports f) f content

  -- the widening of a formula to a list of variables: the pairs of references to which starts over them lead the full content of the
  -- formula and that of `true` over these variables
  pub record IsWideningMeasure (f : CoreForm) (variables : List Variable) (m r : ℕ) : Type 0 where
    pub content : Content Sign
    pub encodings : Content Sign
    pub of_formula : IsOwnContent f content
    pub of_true : IsFullContent imports mode variables truth encodings
    pub made : LeadToPairs content encodings variables m
    pub read : r ≡ part_count content + part_count encodings

  -- x and the free variables of a quantifier's restriction and body
  abbrev pub variables_inside : Variable → CoreRestriction → CoreForm → List Variable
  variables_inside x d f = joined (x ∷ []) (joined (free_variables_in imports d) (free_variables imports f))

  -- the restriction and the widened body of a quantifier
  abbrev pub IsBindingMeasure : Variable → CoreRestriction → CoreForm → ℕ → ℕ → Type 0
  IsBindingMeasure x unrestricted f m r =
      (body : Content Sign) × IsFullContent imports mode (variables_inside x unrestricted f) f body
      × IsProjectMeasure body (no_restriction mode) x m r
  IsBindingMeasure x (restricted d) f m r =
      (body domain : Content Sign) × IsFullContent imports mode (variables_inside x (restricted d) f) f body × IsOwnContent d domain
      × IsProjectMeasure body domain x m r

  -- a step that is no import of the source has the measure m and r
  abbrev pub IsMeasureOf : List (Content Answer) → Step → ℕ → ℕ → Type 0
  IsMeasureOf files (constant f) m r = HasPartCount imports mode (free_variables imports f) f m × (r ≡ 0)
  IsMeasureOf files (of_one f operand) m r =
      HasPartCount imports mode (free_variables imports f) f m × HasPartCount imports mode (free_variables imports operand) operand r
  IsMeasureOf files (relation b) m r = IsBasicMeasure mode b m r
  IsMeasureOf files (connective f g) m r =
      (left right : Content Sign) × IsOwnContent f left × IsOwnContent g right × IsCombineMeasure left right m r
  -- the body is widened, and then the quantifier is applied
  IsMeasureOf files (binding x d f) m r = IsWideningMeasure f (variables_inside x d f) m r ⊎ IsBindingMeasure x d f m r
  IsMeasureOf files (import_at i xs) m r =
      (content : Content Sign)
      × IsFullContent imports mode (pair_variables imports i) (imported i (numbers_below (length (pair_variables imports i)))) content
      × IsRenameMeasure content xs m r
  IsMeasureOf files (import_of_source i) m r =
      (file : Content Answer) × (encodings : Content Sign) × (slice_get files i ≡ Some file)
      × IsFullContent imports mode (pair_variables imports i) truth encodings × IsAdoptMeasure file encodings m r
  IsMeasureOf files (root whole) m r = IsWideningMeasure whole.formula whole.variables m r

abbrev pub IsMeasure : Measured → Step → ℕ → ℕ → Type 0
IsMeasure source step m r = IsMeasureOf source.problem.given.imports source.problem.mode source.files step m r

-- the budget of a step with this measure
abbrev pub budget : ℕ → ℕ → ℕ
budget m r = (m + r + 2) * (m + r + 2) * 2 ^ 8

-- the limit is at least every budget of every step
abbrev pub IsEnough : Measured → ℕ → Type 0
IsEnough source limit = (step : Step) → IsStepOf source.problem step → (m r : ℕ) → IsMeasure source step m r → budget m r ≤ limit
