-- What a source over sets asks: the question of its formulas, and no goals.
use Rattle.std.proofs.Common.{◌≡◌, ℕ, cond, List, [], ◌∷◌, None, filter, map, refl, sym, ◌∙◌, ap}
use Rattle.std.specs.List.{zip}
use Rattle.std.specs.Option.{is_none, is_some}
use Rattle.ms_logic.specs.declared.checked.Checked.{Checked}
use Rattle.ms_logic.specs.declared.checked.Global.{Global}
use Rattle.ms_logic.specs.declared.checked.Placed.{Placed}
use Rattle.ms_logic.specs.declared.mode.Mode.{Mode}
use Rattle.ms_logic.specs.Tree.{Form}
use Rattle.ms_logic.specs.Truth.{Given, Meanings, meanings_of}
use Rattle.ms_logic.specs.View.{Answers, forms, globals_from, goals_in, import_of, main_question, predicate_of, problem_of, question_of}
use Rattle.ms_logic.proofs.Consistent.{IsConsistent, consistent_given}
use Rattle.ms_translation.specs.Source.{IsSourceOver, problem_over}
use Rattle.ms_translation.proofs.Globals.{names-of-globals}

-- no predicate and no import
abbrev pub nothing : Given
nothing = record { predicates = []; imports = [] }

abbrev pub meanings : Meanings
meanings = meanings_of nothing

pub consistent : IsConsistent meanings
consistent = consistent_given nothing

-- formulas without titles are no goals
all-declared : (fs : List Form) (made : List Placed) → map (λ (placed : Placed). placed.title) made ≡ map (λ f. None) fs → filter (λ (placed : Placed). is_none placed.title) made ≡ made
all-declared [] [] titles = refl
all-declared [] (placed ∷ more) titles = absurd (cc)
all-declared (f ∷ fs) [] titles = absurd (cc)
all-declared (f ∷ fs) (placed ∷ more) titles =
    let rest = filter (λ (one : Placed). is_none one.title) more in
    let first : placed.title ≡ None = cc in
    ap (λ title. cond (is_none title) (placed ∷ rest) rest) first ∙ ap (λ (l : List Placed). placed ∷ l) (all-declared fs more cc)

none-titled : (fs : List Form) (made : List Placed) → map (λ (placed : Placed). placed.title) made ≡ map (λ f. None) fs → filter (λ (placed : Placed). is_some placed.title) made ≡ []
none-titled [] [] titles = refl
none-titled [] (placed ∷ more) titles = absurd (cc)
none-titled (f ∷ fs) [] titles = absurd (cc)
none-titled (f ∷ fs) (placed ∷ more) titles =
    let rest = filter (λ (one : Placed). is_some one.title) more in
    let first : placed.title ≡ None = cc in ap (λ title. cond (is_some title) (placed ∷ rest) rest) first ∙ none-titled fs more cc

module _ (mode : Mode) (names : List (List ℕ)) (fs : List Form) (made : Checked) (is : IsSourceOver mode names fs made) where
  pub no-goals : goals_in made ≡ []
  no-goals = none-titled fs made.formulas is.titles

  -- whatever its imports answer, since it has none
  pub problem-same : (answers : Answers) → problem_over mode names fs ≡ problem_of made answers
  problem-same answers =
      let modes = ap (λ (m : Mode). record (problem_over mode names fs) { mode = m }) (sym is.mode) in
      let globals = ap (λ (gs : List Global). record (problem_over mode names fs) { mode = made.mode; globals = globals_from 0 gs }) (sym is.globals) in
      let predicates = ap (λ ps. record (problem_over mode names fs) { mode = made.mode; globals = globals_from 0 made.globals; given = record { predicates = map predicate_of ps; imports = [] } }) (sym is.predicates) in
      let imports = ap (λ used. record (problem_over mode names fs) { mode = made.mode; globals = globals_from 0 made.globals; given = record { predicates = map predicate_of made.predicates; imports = map (λ p. import_of p.0 p.1) (zip used answers) } }) (sym is.imports) in
      let formulas = ap (λ (gs : List Form). record (problem_of made answers) { formulas = forms gs }) (sym is.formulas) in
      modes ∙ (globals ∙ (predicates ∙ (imports ∙ formulas)))

  -- its main question is asked by all its formulas
  pub main-same : (answers : Answers) → problem_over mode names fs ≡ main_question made answers
  main-same answers = problem-same answers ∙ ap (λ gs. question_of made answers gs) (sym (all-declared fs made.formulas is.titles))

  pub names-kept : map (λ (g : Global). g.name) made.globals ≡ names
  names-kept = ap (map (λ (g : Global). g.name)) is.globals ∙ names-of-globals names
