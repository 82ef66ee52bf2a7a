-- Roots that are the same up to the numbers of their bound variables have one value.
use Rattle.std.proofs.Common.{◌≡◌, ℕ, ◌+◌, ◌<◌, Bool, true, false, MatchBool, ◌⊎◌, inl, inr, ⊎_elim, List, [], ◌∷◌, length, map, refl, sym, ◌∙◌, ap, subst, arith}
use Rattle.std.proofs.lemmas.Bool.{false≢true}
use Rattle.ms_logic.specs.declared.assignment.Value.{Value}
use Rattle.ms_logic.specs.declared.checked.Global.{Global}
use Rattle.ms_logic.specs.declared.mode.Mode.{Mode}
use Rattle.ms_logic.specs.declared.mode.Order.{Order}
use Rattle.ms_logic.specs.Assignment.{Universe, Env, Variable, assign, value_at, IsValueOf, GivesEach, IsUniverseOf, IsAssignment}
use Rattle.ms_logic.specs.FreeVariables.{IsListed}
use Rattle.ms_logic_core.specs.Roots.{main_root}
use Rattle.ms_logic_core.specs.SameUpToBound.{SameVariable, AnswerToEachOther, pairs_of, SameUnder}
use Rattle.ms_logic_core.specs.Spread.{is_order}
use Rattle.ms_logic.specs.Verdict.{variables_of}
use Rattle.ms_logic.specs.View.{globals_from, problem_of, question_of}
use Rattle.ms_logic.proofs.Agreement.{order_of_value, universe-assign_all}
use Rattle.ms_logic.proofs.FreeVariables.{order_of_value_of}
use Rattle.ms_logic.proofs.AssignedValues.{value_at-assign, value_at-assign_other}
use Rattle.ms_logic_core.proofs.SpreadKeeps.{value_at-assign_not}
use Rattle.ms_logic_spread.specs.inner.SameRootLaws.{with_values_of, SameFormulasHaveOneValue, SameRootsHaveOneValue, SameMainRootKeepsValue, SameRootsKeepValues}
use Rattle.ms_logic_spread.proofs.Equivalences.{iff_then, swapped}
use Rattle.ms_logic_spread.proofs.Places.{is_order-of, is_order-itself, same_variable}
use Rattle.ms_logic_spread.proofs.Roots.{questions_keep_values, roots_keep_values}
use Rattle.ms_logic_spread.proofs.SameValues.{of_two, same_value}

-- the order of a value that is one of its order
not_of_order : (o p : Order) (u : Universe) (v : Value) → IsValueOf o u v → is_order o p ≡ false → p ≡ order_of_value v → ⊥
not_of_order o p u v valid failed same =
    let is : p ≡ o = same ∙ order_of_value_of o u v valid in false≢true (sym failed ∙ (ap (is_order o) is ∙ is_order-itself o))

module _ (globals : ℕ) (e : Env) where
  -- the two variables of a pair have one value
  pair_values : (vs ws : List Variable) → AnswerToEachOther globals vs ws → GivesEach vs e → (o : Order) (x y : ℕ) → SameVariable (pairs_of vs ws) o x y →
      value_at o x e ≡ value_at o y (with_values_of vs ws e)
  pair_values [] [] answer gives o x y same = ap (λ k. value_at o k e) same
  pair_values [] (w ∷ ws) answer gives o x y same = absurd answer
  pair_values (v ∷ vs) [] answer gives o x y same = absurd answer
  pair_values (v ∷ vs) (w ∷ ws) answer gives o x y same = by_test (is_order v.order o) refl (pair_values vs ws answer.2 gives.1 o x y) same
    where
      by_test : (b : Bool) → is_order v.order o ≡ b → (SameVariable (pairs_of vs ws) o x y → value_at o x e ≡ value_at o y (with_values_of vs ws e)) →
          MatchBool b (((x ≡ v.name) × (y ≡ w.name)) ⊎ ((x ≡ v.name → ⊥) × (y ≡ w.name → ⊥) × SameVariable (pairs_of vs ws) o x y)) (SameVariable (pairs_of vs ws) o x y) →
          value_at o x e ≡ value_at o y (assign w.name (value_at v.order v.name e) (with_values_of vs ws e))
      by_test true passed others same =
          let is = is_order-of v.order o passed in
          let of_order : IsValueOf o e.universe (value_at v.order v.name e) = subst (λ p. IsValueOf p e.universe (value_at v.order v.name e)) is gives.0 in
          ⊎_elim
          (λ both.
          ap (λ k. value_at o k e) both.0 ∙ (ap (λ p. value_at p v.name e) (sym is)
          ∙ (sym (value_at-assign o w.name (value_at v.order v.name e) (with_values_of vs ws e) e.universe of_order) ∙ ap (λ k. value_at o k (assign w.name (value_at v.order v.name e) (with_values_of vs ws e))) (sym both.1))))
          (λ neither. others neither.2 ∙ sym (value_at-assign_other o w.name (value_at v.order v.name e) y (with_values_of vs ws e) neither.1)) same
      by_test false failed others same =
          others same ∙ sym (value_at-assign_not o w.name (value_at v.order v.name e) y (with_values_of vs ws e) (λ both. not_of_order v.order o e.universe (value_at v.order v.name e) gives.0 failed both.1))

  -- the variables of the second list have values of their orders
  moved_valid : (vs ws : List Variable) → AnswerToEachOther globals vs ws → GivesEach vs e → (u : Variable) → IsListed ws u →
      IsValueOf u.order e.universe (value_at u.order u.name (with_values_of vs ws e))
  moved_valid vs [] answer gives u listed = absurd listed
  moved_valid [] (w ∷ ws) answer gives u listed = absurd answer
  moved_valid (v ∷ vs) (w ∷ ws) answer gives u listed =
      let value = value_at v.order v.name e in
      let rest = with_values_of vs ws e in
      ⊎_elim
      (λ is.
      let of_order : IsValueOf u.order e.universe value = subst (λ p. IsValueOf p e.universe value) (sym is.2) gives.0 in
      let there : value_at u.order u.name (assign w.name value rest) ≡ value = ap (λ k. value_at u.order k (assign w.name value rest)) is.1 ∙ value_at-assign u.order w.name value rest e.universe of_order in
      subst (λ z. IsValueOf u.order e.universe z) (sym there) of_order)
      (λ other. ⊎_elim
      (λ is. absurd (other.1 (is.0, is.1 ∙ sym answer.0)))
      (λ later.
      let there : value_at u.order u.name (assign w.name value rest) ≡ value_at u.order u.name rest = value_at-assign_not u.order w.name value u.name rest (λ both. other.1 (both.0, both.1 ∙ order_of_value_of v.order e.universe value gives.0)) in
      subst (λ z. IsValueOf u.order e.universe z) (sym there) (moved_valid vs ws answer.2 gives.1 u later)) listed)
      (same_variable v.order w.name u.order u.name)

gives_each : (ws : List Variable) (d : Env) → ((u : Variable) → IsListed ws u → IsValueOf u.order d.universe (value_at u.order u.name d)) → GivesEach ws d
gives_each [] d valid = tt
gives_each (w ∷ ws) d valid = (valid w (inl (refl, refl)), gives_each ws d (λ u later. valid u (inr later)))

pub same_formulas_have_one_value : SameFormulasHaveOneValue
same_formulas_have_one_value imports f g e same =
    same_value imports f g [] e e same (record { universe = refl; values = λ o x y is. ap (λ k. value_at o k e) is })

-- variables that answer to each other do so either way
answer_swapped : (n : ℕ) (vs ws : List Variable) → AnswerToEachOther n vs ws → AnswerToEachOther n ws vs
answer_swapped n [] [] answer = tt
answer_swapped n [] (w ∷ ws) answer = absurd answer
answer_swapped n (v ∷ vs) [] answer = absurd answer
answer_swapped n (v ∷ vs) (w ∷ ws) answer =
    (sym answer.0, ⊎_elim (λ same. inl (sym same)) (λ high. inr (high.1, high.0)) answer.1, answer_swapped n vs ws answer.2)

pairs_swapped : (n : ℕ) (vs ws : List Variable) → AnswerToEachOther n vs ws → (o : Order) (x y : ℕ) → SameVariable (pairs_of vs ws) o x y → SameVariable (pairs_of ws vs) o y x
pairs_swapped n [] [] answer o x y same = sym same
pairs_swapped n [] (w ∷ ws) answer o x y same = absurd answer
pairs_swapped n (v ∷ vs) [] answer o x y same = absurd answer
pairs_swapped n (v ∷ vs) (w ∷ ws) answer o x y same =
    subst (λ b. MatchBool b (((y ≡ w.name) × (x ≡ v.name)) ⊎ ((y ≡ w.name → ⊥) × (x ≡ v.name → ⊥) × SameVariable (pairs_of ws vs) o y x)) (SameVariable (pairs_of ws vs) o y x)) (ap (λ p. is_order p o) answer.0)
    (by_test (is_order v.order o) (pairs_swapped n vs ws answer.2 o x y) same)
  where
    by_test : (b : Bool) → (SameVariable (pairs_of vs ws) o x y → SameVariable (pairs_of ws vs) o y x) →
        MatchBool b (((x ≡ v.name) × (y ≡ w.name)) ⊎ ((x ≡ v.name → ⊥) × (y ≡ w.name → ⊥) × SameVariable (pairs_of vs ws) o x y)) (SameVariable (pairs_of vs ws) o x y) →
        MatchBool b (((y ≡ w.name) × (x ≡ v.name)) ⊎ ((y ≡ w.name → ⊥) × (x ≡ v.name → ⊥) × SameVariable (pairs_of ws vs) o y x)) (SameVariable (pairs_of ws vs) o y x)
    by_test true others same = ⊎_elim (λ both. inl (both.1, both.0)) (λ neither. inr (neither.1, neither.0, others neither.2)) same
    by_test false others same = others same

-- the second list of variables has values of its orders
moved_assignment : (globals : ℕ) (mode : Mode) (vs ws : List Variable) (e : Env) → AnswerToEachOther globals vs ws → IsAssignment mode vs e → IsAssignment mode ws (with_values_of vs ws e)
moved_assignment globals mode vs ws e answer assigned =
    let d = with_values_of vs ws e in
    let universe : d.universe ≡ e.universe = universe-assign_all (map (λ w. w.name) ws) (map (λ v. value_at v.order v.name e) vs) e in record {
      universe = subst (λ u. IsUniverseOf mode u) (sym universe) assigned.universe;
      values = gives_each ws d (λ u listed. subst (λ w. IsValueOf u.order w (value_at u.order u.name d)) (sym universe) (moved_valid globals e vs ws answer assigned.values u listed));
    }

pub same_roots_have_one_value : SameRootsHaveOneValue
same_roots_have_one_value imports globals mode left right e same =
    let vs = left.variables in
    let ws = right.variables in (
      λ assigned. (
        moved_assignment globals mode vs ws e same.variables assigned,
        same_value imports left.formula right.formula (pairs_of vs ws) e (with_values_of vs ws e) same.formulas
            (record { universe = sym (universe-assign_all (map (λ w. w.name) ws) (map (λ v. value_at v.order v.name e) vs) e); values = pair_values globals e vs ws same.variables assigned.values }),
      ),
      λ assigned.
          let back = answer_swapped globals vs ws same.variables in (
            moved_assignment globals mode ws vs e back assigned,
            same_value imports left.formula right.formula (pairs_of vs ws) (with_values_of ws vs e) e same.formulas
                (record { universe = universe-assign_all (map (λ w. w.name) vs) (map (λ v. value_at v.order v.name e) ws) e; values = λ o x y pair. sym (pair_values globals e ws vs back assigned.values o y x (pairs_swapped globals vs ws same.variables o x y pair)) }),
          ),
    )

pub same_roots_keep_values : SameRootsKeepValues
same_roots_keep_values checked answers i left right e well is same assigned =
    let problem = problem_of checked answers in
    let there = (same_roots_have_one_value problem.given.imports (length checked.globals) checked.mode left right e same).1 assigned in
    let kept = roots_keep_values checked answers i right well is e assigned in
    (iff_then kept.0 (swapped there.1.0), iff_then kept.1 (swapped there.1.1))

-- where both lists are one, the two variables of a pair are one
own_pairs : (vs : List Variable) (o : Order) (x y : ℕ) → SameVariable (pairs_of vs vs) o x y → x ≡ y
own_pairs [] o x y same = same
own_pairs (v ∷ vs) o x y same = by_test (is_order v.order o) (own_pairs vs o x y) same
  where
    by_test : (b : Bool) → (SameVariable (pairs_of vs vs) o x y → x ≡ y) →
        MatchBool b (((x ≡ v.name) × (y ≡ v.name)) ⊎ ((x ≡ v.name → ⊥) × (y ≡ v.name → ⊥) × SameVariable (pairs_of vs vs) o x y)) (SameVariable (pairs_of vs vs) o x y) → x ≡ y
    by_test true others same = ⊎_elim (λ both. both.0 ∙ sym both.1) (λ neither. others neither.2) same
    by_test false others same = others same

-- variables that answer to globals are these
answer_globals : (n : ℕ) (vs ws : List Variable) → AnswerToEachOther n vs ws → ((u : Variable) → IsListed ws u → u.name < n) → vs ≡ ws
answer_globals n [] [] answer below = refl
answer_globals n [] (w ∷ ws) answer below = absurd answer
answer_globals n (v ∷ vs) [] answer below = absurd answer
answer_globals n (v ∷ vs) (w ∷ ws) answer below =
    let low = below w (inl (refl, refl)) in
    let name : v.name ≡ w.name = ⊎_elim (λ same. same) (λ high. absurd (let least = high.1 in omega arith)) answer.1 in
    let first : v ≡ w = of_two (λ x o. record { name = x; order = o }) name answer.0 in
    of_two (λ u us. u ∷ us) first (answer_globals n vs ws answer.2 (λ u later. below u (inr later)))

globals_below : (gs : List Global) (count bound : ℕ) → bound ≡ count + length gs → (u : Variable) → IsListed (variables_of (globals_from count gs)) u → u.name < bound
globals_below [] count bound is u listed = absurd listed
globals_below (g ∷ gs) count bound is u listed =
    ⊎_elim (λ here. let name = here.0 in omega (arith, is)) (λ later. globals_below gs (count + 1) bound (omega (arith, is)) u later) listed

pub same_main_root_keeps_value : SameMainRootKeepsValue
same_main_root_keeps_value checked answers asked root well among same =
    let question = question_of checked answers asked in
    let globals = variables_of question.globals in
    let are : root.variables ≡ globals = answer_globals (length checked.globals) root.variables globals (answer_swapped (length checked.globals) globals root.variables same.variables) (globals_below checked.globals 0 (length checked.globals) (omega arith)) in (
      are,
      λ e assigned.
          let kept = questions_keep_values checked answers asked well among e (subst (λ vs. IsAssignment checked.mode vs e) are assigned) in
          let P : List Variable → Type 0 = λ vs. SameUnder question.given.imports (pairs_of globals vs) (main_root question).formula root.formula in
          let here = same_value question.given.imports (main_root question).formula root.formula (pairs_of globals globals) e e (subst P are same.formulas)
          (record { universe = refl; values = λ o x y pair. ap (λ k. value_at o k e) (own_pairs globals o x y pair) }) in
          (iff_then kept.0 here.0, iff_then kept.1 here.1),
    )
