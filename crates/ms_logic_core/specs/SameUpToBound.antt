-- Two core formulas are the same up to the numbers of their bound variables.
use Rattle.std.specs.Prelude.{◌≡◌, ◌≢◌, ℕ, ◌≤◌, MatchBool, ◌⊎◌, List, [], ◌∷◌, length, map, slice_get}
use Rattle.std.specs.List.{zip}
use Rattle.ms_logic.specs.declared.mode.Order.{Order}
use Rattle.ms_logic.specs.Assignment.{Variable}
use Rattle.ms_logic_core.specs.Operands.{at_places, variables_of_basic, variables_at}
use Rattle.ms_logic_core.specs.CoreForm.{CoreForm, truth, falsity, basic, negation, conjunction, disjunction, implication, equivalence, restrict, imported, quantified, CoreForms, no_forms, more_forms, CoreRestriction, unrestricted, restricted}
use Rattle.ms_logic_core.specs.Roots.{Root}
use Rattle.ms_logic_core.specs.Spread.{is_order, variables_of_import}
use Rattle.ms_logic.specs.Truth.{Import}

-- a variable that both formulas bind, with its number in the one and in the other
pub record BoundPair : Type 0 where
  pub order : Order
  pub left : ℕ
  pub right : ℕ

-- two numbers stand for the same variable of an order, below these binders, innermost first: both for the variable of one binder, or
-- both for the same free variable
abbrev pub SameVariable : List BoundPair → Order → ℕ → ℕ → Type 0
SameVariable [] order x y = x ≡ y
SameVariable (pair ∷ outer) order x y =
    MatchBool (is_order pair.order order)
    (((x ≡ pair.left) × (y ≡ pair.right)) ⊎ ((x ≢ pair.left) × (y ≢ pair.right) × SameVariable outer order x y))
    (SameVariable outer order x y)

abbrev pub SameVariables : List BoundPair → List Variable → List Variable → Type 0
SameVariables pairs [] [] = Unit {0}
SameVariables pairs [] (w ∷ ws) = ⊥
SameVariables pairs (v ∷ vs) [] = ⊥
SameVariables pairs (v ∷ vs) (w ∷ ws) = (v.order ≡ w.order) × SameVariable pairs v.order v.name w.name × SameVariables pairs vs ws

abbrev mutual
  -- below these binders the two formulas are the same
  pub SameUnder : List Import → List BoundPair → CoreForm → CoreForm → Type 0
  SameUnder imports pairs truth truth = Unit {0}
  SameUnder imports pairs falsity falsity = Unit {0}
  -- the same relation with the same offset, between the same variables
  SameUnder imports pairs (basic b) (basic c) = (at_places b ≡ at_places c) × SameVariables pairs (variables_of_basic b) (variables_of_basic c)
  SameUnder imports pairs (negation f) (negation g) = SameUnder imports pairs f g
  SameUnder imports pairs (conjunction fs) (conjunction gs) = SameEach imports pairs fs gs
  SameUnder imports pairs (disjunction fs) (disjunction gs) = SameEach imports pairs fs gs
  SameUnder imports pairs (implication f other_f) (implication g other_g) =
      SameUnder imports pairs f g × SameUnder imports pairs other_f other_g
  SameUnder imports pairs (equivalence f other_f) (equivalence g other_g) =
      SameUnder imports pairs f g × SameUnder imports pairs other_f other_g
  SameUnder imports pairs (restrict f) (restrict g) = SameUnder imports pairs f g
  SameUnder imports pairs (imported i xs) (imported j ys) =
      (i ≡ j) × (length xs ≡ length ys)
      × SameVariables pairs (variables_at xs (variables_of_import (slice_get imports i))) (variables_at ys (variables_of_import (slice_get imports i)))
  SameUnder imports pairs (quantified q o x d f) (quantified r p y e g) =
      (q ≡ r) × (o ≡ p)
      × SameRestriction imports (record { order = o; left = x; right = y } ∷ pairs) d e
      × SameUnder imports (record { order = o; left = x; right = y } ∷ pairs) f g
  SameUnder imports pairs f g = ⊥

  pub SameEach : List Import → List BoundPair → CoreForms → CoreForms → Type 0
  SameEach imports pairs no_forms no_forms = Unit {0}
  SameEach imports pairs no_forms (more_forms g gs) = ⊥
  SameEach imports pairs (more_forms f fs) no_forms = ⊥
  SameEach imports pairs (more_forms f fs) (more_forms g gs) = SameUnder imports pairs f g × SameEach imports pairs fs gs

  pub SameRestriction : List Import → List BoundPair → CoreRestriction → CoreRestriction → Type 0
  SameRestriction imports pairs unrestricted unrestricted = Unit {0}
  SameRestriction imports pairs unrestricted (restricted e) = ⊥
  SameRestriction imports pairs (restricted d) unrestricted = ⊥
  SameRestriction imports pairs (restricted d) (restricted e) = SameUnder imports pairs d e

-- the formulas are the same, and their free variables have the same numbers
abbrev pub SameUpToBound : List Import → CoreForm → CoreForm → Type 0
SameUpToBound imports f g = SameUnder imports [] f g

-- the variables of two roots answer to one another: in their orders, and in their numbers where they are globals, which have the
-- numbers below a count
abbrev pub AnswerToEachOther : ℕ → List Variable → List Variable → Type 0
AnswerToEachOther globals [] [] = Unit {0}
AnswerToEachOther globals [] (w ∷ ws) = ⊥
AnswerToEachOther globals (v ∷ vs) [] = ⊥
AnswerToEachOther globals (v ∷ vs) (w ∷ ws) =
    (v.order ≡ w.order) × ((v.name ≡ w.name) ⊎ ((globals ≤ v.name) × (globals ≤ w.name))) × AnswerToEachOther globals vs ws

abbrev pub pairs_of : List Variable → List Variable → List BoundPair
pairs_of vs ws = map (λ p. record { order = p.0.order; left = p.0.name; right = p.1.name }) (zip vs ws)

-- two roots are the same up to the numbers of bound variables; a variable of a root that is no global counts as bound
pub record SameRoot (imports : List Import) (globals : ℕ) (left right : Root) : Type 0 where
  pub variables : AnswerToEachOther globals left.variables right.variables
  pub formulas : SameUnder imports (pairs_of left.variables right.variables) left.formula right.formula
