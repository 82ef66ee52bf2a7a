-- The problem that a loaded source becomes is one, and asks the same, whichever typed tree of the code stands for it.
use Rattle.std.proofs.Common.{◌≡◌, ℕ, ◌+◌, Bool, true, false, cond, List, [], ◌∷◌, filter, map, zip, Option, Some, None, refl, sym, ap, ◌∙◌}
use Rattle.std.specs.Option.{is_none, is_some}
use Rattle.ms_logic.specs.declared.checked.Checked.{Checked}
use Rattle.ms_logic.specs.declared.checked.Global.{Global}
use Rattle.ms_logic.specs.declared.checked.ImportUse.{ImportUse}
use Rattle.ms_logic.specs.declared.checked.Placed as code
use Rattle.ms_logic.specs.declared.mode.Mode.{Mode}
use Rattle.ms_logic.specs.declared.source.Loaded.{Loaded}
use Rattle.ms_logic.specs.Tree.{Declaration, Form, Predicate}
use Rattle.ms_logic.specs.Verdict.{Problem}
use Rattle.ms_logic.specs.View.{formula_of, forms, globals_from, import_of, predicate_of, problem_of, question_of, main_question, goal_question, declared_in, goals_in, Answers}
use Rattle.ms_names_rules.specs.TypedSource.{IsTyped, TypedFormula, TypedGlobal, global_of, placed_formula_of}
use Rattle.ms_include_laws.specs.inner.loads.Checks.{goals_asked}

-- what is there of some values

somes : {A : Type 0} → List (Option A) → List A
somes [] = []
somes (None ∷ more) = somes more
somes (Some x ∷ more) = x ∷ somes more

all_some : {A B : Type 0} (f : A → B) (xs : List A) → somes (map (λ x. Some (f x)) xs) ≡ map f xs
unfolding somes
all_some f [] = refl
all_some f (x ∷ xs) = ap (λ ys. f x ∷ ys) (all_some f xs)

same_parts : {A B : Type 0} (f : A → B) (xs ys : List A) → map (λ x. Some (f x)) xs ≡ map (λ y. Some (f y)) ys → map f xs ≡ map f ys
same_parts f xs ys same = sym (all_some f xs) ∙ (ap somes same ∙ all_some f ys)

-- the problem by the parts of the typed tree

abbrev declarations_from : ℕ → List TypedGlobal → List Declaration
declarations_from count [] = []
declarations_from count (g ∷ more) = record { variable = record { name = count; order = g.order }; restriction = g.restriction } ∷ declarations_from (count + 1) more

same_globals : (count : ℕ) (globals : List Global) → globals_from count globals ≡ declarations_from count (map global_of globals)
same_globals count [] = refl
same_globals count (g ∷ more) = ap (λ ds. (let first : Declaration = record { variable = record { name = count; order = g.order }; restriction = (global_of g).restriction } in first) ∷ ds) (same_globals (count + 1) more)

abbrev problem_by : Answers → Mode → List Declaration → List Predicate → List ImportUse → List Form → Problem
problem_by answers mode globals predicates imports formulas = record {
  mode = mode;
  globals = globals;
  given = record { predicates = predicates; imports = map (λ p. import_of p.0 p.1) (zip imports answers) };
  formulas = forms formulas;
}

-- what formulas ask in a source
abbrev asks : Checked → Answers → List Form → Problem
asks checked answers formulas = problem_by answers checked.mode (globals_from 0 checked.globals) (map predicate_of checked.predicates) checked.imports formulas

same_formulas : (formulas : List code.Placed) → map (λ (f : code.Placed). formula_of f.formula) formulas ≡ map (λ (f : TypedFormula). f.formula) (map placed_formula_of formulas)
same_formulas [] = refl
same_formulas (f ∷ more) = ap (λ fs. formula_of f.formula ∷ fs) (same_formulas more)

-- what goals ask, each under its title
abbrev goals_by : (List Form → Problem) → List TypedFormula → List (Option (List ℕ) × Problem)
goals_by ask goals = map (λ (goal : TypedFormula). (goal.title, ask (goal.formula ∷ []))) goals

same_goals : (checked : Checked) (answers : Answers) (goals : List code.Placed) →
    map (λ (goal : code.Placed). (goal.title, goal_question checked answers goal)) goals ≡ goals_by (asks checked answers) (map placed_formula_of goals)
same_goals checked answers [] = refl
same_goals checked answers (goal ∷ more) = ap (λ others. (goal.title, goal_question checked answers goal) ∷ others) (same_goals checked answers more)

-- a test of what is made from values picks the same values

picked : {A B : Type 0} (f : A → B) (passes : Bool) (x : A) (more : List A) → map f (cond passes (x ∷ more) more) ≡ cond passes (f x ∷ map f more) (map f more)
picked f true x more = refl
picked f false x more = refl

same_picked : {A B : Type 0} (f : A → B) (test : B → Bool) (xs : List A) → map f (filter (λ x. test (f x)) xs) ≡ filter test (map f xs)
same_picked f test [] = refl
same_picked f test (x ∷ xs) =
    picked f (test (f x)) x (filter (λ y. test (f y)) xs) ∙ ap (λ ys. cond (test (f x)) (f x ∷ ys) ys) (same_picked f test xs)

-- their globals are the same, but for the trees of the code
pub one_globals : (loaded : Loaded) (one other : Checked) → IsTyped loaded one → IsTyped loaded other → map global_of one.globals ≡ map global_of other.globals
one_globals loaded one other is is' = same_parts global_of one.globals other.globals (is.globals_are ∙ sym is'.globals_are)

module _ (loaded : Loaded) (one other : Checked) (answers : Answers) (is : IsTyped loaded one) (is' : IsTyped loaded other) where
  -- formulas ask the same in both
  ask_the_same : asks one answers ≡ asks other answers
  ask_the_same =
      let globals : globals_from 0 one.globals ≡ globals_from 0 other.globals =
      same_globals 0 one.globals
      ∙ (ap (declarations_from 0) (one_globals loaded one other is is') ∙ sym (same_globals 0 other.globals)) in
      let predicates = same_parts predicate_of one.predicates other.predicates (is.predicates_are ∙ sym is'.predicates_are) in
      ap (λ m. problem_by answers m (globals_from 0 one.globals) (map predicate_of one.predicates) one.imports) (is.mode ∙ sym is'.mode)
      ∙ (ap (λ gs. problem_by answers other.mode gs (map predicate_of one.predicates) one.imports) globals
      ∙ (ap (λ ps. problem_by answers other.mode (globals_from 0 other.globals) ps one.imports) predicates
      ∙ ap (λ used. problem_by answers other.mode (globals_from 0 other.globals) (map predicate_of other.predicates) used) (is.imports_are ∙ sym is'.imports_are)))

  -- their formulas are the same, but for the trees of the code, and so are those that a test picks
  one_formulas : map placed_formula_of one.formulas ≡ map placed_formula_of other.formulas
  one_formulas = same_parts placed_formula_of one.formulas other.formulas (is.formulas_are ∙ sym is'.formulas_are)

  one_picked : (test : TypedFormula → Bool) →
      map placed_formula_of (filter (λ f. test (placed_formula_of f)) one.formulas) ≡ map placed_formula_of (filter (λ f. test (placed_formula_of f)) other.formulas)
  one_picked test = same_picked placed_formula_of test one.formulas ∙ (ap (filter test) one_formulas ∙ sym (same_picked placed_formula_of test other.formulas))

  one_question : (asked asked' : List code.Placed) → map placed_formula_of asked ≡ map placed_formula_of asked' → question_of one answers asked ≡ question_of other answers asked'
  one_question asked asked' same =
      ap (λ ask. ask (map (λ (f : code.Placed). formula_of f.formula) asked)) ask_the_same
      ∙ ap (asks other answers) (same_formulas asked ∙ (ap (map (λ (f : TypedFormula). f.formula)) same ∙ sym (same_formulas asked')))

  -- typed trees of one loaded source are one problem
  pub one_problem : problem_of one answers ≡ problem_of other answers
  one_problem = one_question one.formulas other.formulas one_formulas

  -- their main questions are one
  pub one_main_question : main_question one answers ≡ main_question other answers
  one_main_question = one_question (declared_in one) (declared_in other) (one_picked (λ f. is_none f.title))

  -- their goals ask the same
  pub same_goals_asked : goals_asked one answers ≡ goals_asked other answers
  same_goals_asked =
      same_goals one answers (goals_in one)
      ∙ (ap (λ ask. goals_by ask (map placed_formula_of (goals_in one))) ask_the_same
      ∙ (ap (goals_by (asks other answers)) (one_picked (λ f. is_some f.title)) ∙ sym (same_goals other answers (goals_in other))))
