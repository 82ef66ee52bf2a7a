-- Some number is n less than x exactly where x is at least n.
use Rattle.std.proofs.Common.{◌≡◌, ℕ, ◌+◌, ◌-◌, ◌<◌, ◌≤◌, ◌⊎◌, inl, inr, ⊎_elim, List, [], ◌∷◌, length, Option, Some, None, Result, Ok, Err, IfOk, sym, ap, subst, ◌∙◌, refl, arith}
use Rattle.std.proofs.lemmas.Bool.{cases_lt}
use Rattle.ms_dag.specs.declared.node.Child.{Child}
use Rattle.ms_dag.specs.declared.node.DagNode.{DagNode}
use Rattle.ms_dag.specs.declared.node.DagNode.TheVariants.{Basic}
use Rattle.ms_dag.specs.declared.node.Entry.{Entry}
use Rattle.ms_dag.specs.Unfolds.{node_at}
use Rattle.ms_dag.specs.Values.{IsMetBy, NoAt, NodeYes, NoBelow, YesAt, YesBelow, read_through}
use Rattle.ms_dfa.specs.Automaton.{IsAutomaton, variable_of}
use Rattle.ms_dfa.specs.Values.{HasValues, Meaning, own_meaning}
use Rattle.ms_dfa.proofs.ValuesLemmas.{IsMeaning-by}
use Rattle.ms_list.specs.declared.fault.StepFault.{StepFault}
use Rattle.ms_logic.specs.Assignment.{Env, IsAssignment, IsWithin, Universe, Variable, assign}
use Rattle.ms_logic.specs.Lists.{IsAmong, without}
use Rattle.ms_logic.specs.Truth.{Import}
use Rattle.ms_logic.specs.declared.assignment.Value.{Value}
use Rattle.ms_logic.specs.declared.assignment.Value.TheVariants.{Truth, Number, Set}
use Rattle.ms_logic.specs.declared.mode.Mode.{Mode}
use Rattle.ms_logic.specs.declared.mode.Order.{Order}
use Rattle.ms_logic.specs.declared.mode.Quant.{Quant}
use Rattle.ms_logic.specs.declared.mode.Quant.TheVariants.{Ex}
use Rattle.ms_logic_core.specs.CoreForm.{Holds}
use Rattle.ms_logic_core.specs.declared.core_formula.Basic.TheVariants as relation
use Rattle.ms_logic_words.specs.Content.{Content, variables_by_place}
use Rattle.ms_logic_words.specs.declared.sign.Sign.{Sign}
use Rattle.ms_logic_words.specs.declared.sign.Sign.TheVariants.{Yes}
use Rattle.ms_project.proofs.AlwaysLemmas.{sign_moves}
use Rattle.ms_project.specs.Quantified.{BodyAt, QuantifiedNo, QuantifiedYes, RangeOf, quantified}
use Rattle.ms_project.specs.Quantified.{IsMetBy as IsMetByOwn}
use Rattle.ms_project.specs.declared.quantifier.Quantifier.{Quantifier}
use Rattle.ms_product.specs.Combined.{changed, with_signs}
use Rattle.ms_product.specs.Signs.{negated}
use Rattle.ms_build.specs.Built.{ChildNo, ChildYes, IsOver, IsQuantifiedOf, child_meaning, entries_of, imports_for, relation_meaning}
use Rattle.ms_build.specs.declared.plan.Plan.{Plan}
use Rattle.ms_build.specs.inner.AtLeast.{LooksBelow, at_least, first, not_below, second}
use Rattle.ms_build.proofs.MeaningLemmas.{HasValues-to, negated-to, own_means}
use Rattle.ms_build.proofs.QuantifiedLemmas.{HasValues-meant, means_own}

-- a number within a universe has all lesser ones there, and it is decided whether a number is there
within-below : (universe : Universe) (a b : ℕ) → b ≤ a → IsWithin universe a → IsWithin universe b
within-below None a b less inside = tt
within-below (Some size) a b less inside = omega (arith, less, inside)

within-or : (universe : Universe) (n : ℕ) → IsWithin universe n ⊎ (¬ IsWithin universe n)
within-or None n = inl tt
within-or (Some size) n = ⊎_elim inl (λ beyond. inr (λ inside. omega (arith, beyond, inside))) (cases_lt n size)

module _ (imports : List Import) (entries : List Entry) (body : Child) (n : ℕ) (map : body.map ≡ 0 ∷ 1 ∷ []) (sum : node_at entries body.node ≡ Some (Basic (relation.Plus 0 1 n))) where
  -- the body says of numbers that one is n more than the other
  sum_yes : (e : Env) → e.number 0 ≡ e.number 1 + n → ChildYes imports entries body e
  sum_yes e is =
      subst (λ (node : Option DagNode). YesAt imports (λ j there. YesBelow imports entries body.node j there) (λ j there. NoBelow imports entries body.node j there) node (read_through body.map e)) (sym sum)
      (subst (λ (places : List ℕ). Holds (relation.Plus 0 1 n) (read_through places e)) (sym map) is)

  yes_sum : (e : Env) → ChildYes imports entries body e → e.number 0 ≡ e.number 1 + n
  yes_sum e is =
      subst (λ (places : List ℕ). Holds (relation.Plus 0 1 n) (read_through places e)) map
      (subst (λ (node : Option DagNode). YesAt imports (λ j there. YesBelow imports entries body.node j there) (λ j there. NoBelow imports entries body.node j there) node (read_through body.map e)) sum is)

  no_sum : (e : Env) → ¬ (e.number 0 ≡ e.number 1 + n) → ChildNo imports entries body e
  no_sum e never =
      subst (λ (node : Option DagNode). NoAt imports (λ j there. YesBelow imports entries body.node j there) (λ j there. NoBelow imports entries body.node j there) node (read_through body.map e)) (sym sum)
      (λ holds. never (subst (λ (places : List ℕ). Holds (relation.Plus 0 1 n) (read_through places e)) map holds))

  module _ (e : Env) (inside : IsWithin e.universe (e.number 0)) where
    abbrev IsN : Env → Type 0
    IsN there = there.number 1 ≡ n

    abbrev Anything : Env → Type 0
    Anything there = IsMetBy (NodeYes imports entries) None there

    abbrev Sum : Meaning
    Sum = child_meaning imports entries body

    -- x is at least n where some number is n less
    least-of_sum : (v : Value) → RangeOf second Anything e v → BodyAt Sum second e Yes v → n ≤ e.number 0
    least-of_sum (Truth b) range holds = absurd range.0
    least-of_sum (Number k) range holds = let is = yes_sum (assign 1 (Number k) e) holds in omega (arith, is)
    least-of_sum (Set members) range holds = absurd range.0

    least-of_number : (v : Value) → RangeOf second IsN e v → BodyAt not_below second e Yes v → n ≤ e.number 0
    least-of_number (Truth b) range holds = absurd range.0
    least-of_number (Number k) range holds = let is : k ≡ n = range.1 in ⊎_elim (λ less. absurd (holds (omega (arith, is, less)))) (λ least. least) (cases_lt (e.number 0) n)
    least-of_number (Set members) range holds = absurd range.0

    sum-of_least : n ≤ e.number 0 → QuantifiedYes Ex second Anything Sum e
    sum-of_least least = (
      Number (e.number 0 - n),
      (within-below e.universe (e.number 0) (e.number 0 - n) (omega arith) inside, tt),
      sum_yes (assign 1 (Number (e.number 0 - n)) e) (omega (arith, least)),
    )

    number-of_least : n ≤ e.number 0 → QuantifiedYes Ex second IsN not_below e
    number-of_least least = (
      Number n,
      (within-below e.universe (e.number 0) n least inside, refl),
      (λ less. omega (arith, least, less)),
    )

    -- where it is below n, both are No
    sum-of_less : e.number 0 < n → QuantifiedNo Ex second Anything Sum e
    sum-of_less less = (
      (λ v range holds. let least = least-of_sum v range holds in omega (arith, less, least)),
      inl (Number (e.number 0), (inside, tt), no_sum (assign 1 (Number (e.number 0)) e) (λ is. omega (arith, less, is))),
    )

    no_number : e.number 0 < n → ¬ IsWithin e.universe n → (v : Value) → ¬ RangeOf second IsN e v
    no_number less beyond (Truth b) range = range.0
    no_number less beyond (Number k) range = beyond (subst (IsWithin e.universe) range.1 range.0)
    no_number less beyond (Set members) range = range.0

    number-of_less : e.number 0 < n → QuantifiedNo Ex second IsN not_below e
    number-of_less less = (
      (λ v range holds. let least = least-of_number v range holds in omega (arith, less, least)),
      ⊎_elim (λ there. inl (Number n, (there, refl), less)) (λ beyond. inr (no_number less beyond)) (within-or e.universe n),
    )

    less-of_none : ¬ QuantifiedYes Ex second IsN not_below e → e.number 0 < n
    less-of_none none = ⊎_elim (λ less. less) (λ least. absurd (none (number-of_least least))) (cases_lt (e.number 0) n)

    less-of_no_sum : ¬ QuantifiedYes Ex second Anything Sum e → e.number 0 < n
    less-of_no_sum none = ⊎_elim (λ less. less) (λ least. absurd (none (sum-of_least least))) (cases_lt (e.number 0) n)

    pub at_least-sum : (sign : Sign) → at_least n e sign → quantified Ex second Anything Sum e sign
    at_least-sum sign =
        sign_moves (QuantifiedYes Ex second IsN not_below) (QuantifiedNo Ex second IsN not_below) (QuantifiedYes Ex second Anything Sum) (QuantifiedNo Ex second Anything Sum) e
        (λ yes. sum-of_least (least-of_number yes.0 yes.1 yes.2)) (λ no. sum-of_less (less-of_none (λ yes. no.0 yes.0 yes.1 yes.2)))
        (λ yes. number-of_least (least-of_sum yes.0 yes.1 yes.2)) (λ no. number-of_less (less-of_no_sum (λ yes. no.0 yes.0 yes.1 yes.2))) sign

module _ (plan : Plan) (body : Child) where
  abbrev Anywhere : Env → Type 0
  Anywhere there = IsMetBy (NodeYes (imports_for plan) (entries_of plan)) None there

  abbrev Says : Meaning
  Says = child_meaning (imports_for plan) (entries_of plan) body

  -- so an automaton that says that x is at least n is one of the quantifier
  pub looked_for : (orders : List Order) (quantifier : Quantifier) (n : ℕ) → quantifier.track.variable ≡ length orders → LooksBelow plan orders quantifier body n → (made : Content Sign)
      → IsOver plan.mode (first ∷ []) (at_least n) made → IsQuantifiedOf plan orders quantifier None body made
  looked_for orders quantifier n bound looks made is = record {
    mode_is = is.mode_is;
    variables_are = is.variables_are ∙ ap variables_by_place (sym looks.one);
    values = subst (λ (q : Quant). HasValues (quantified q (variable_of quantifier.track) Anywhere Says) made) (sym looks.some)
        (subst (λ (own : Variable). HasValues (quantified Ex own Anywhere Says) made) (sym own)
        (HasValues-to (at_least n) (quantified Ex second Anywhere Says) made
        (λ word e sign assigned encodes right.
        let here = subst (λ vs. IsAssignment made.mode vs e) is.variables_are assigned in
        at_least-sum (imports_for plan) (entries_of plan) body n looks.map looks.sum e here.values.0 sign right) is.values));
  }
    where
      own : variable_of quantifier.track ≡ second
      own = let name : quantifier.track.variable ≡ 1 = bound ∙ ap (λ (os : List Order). length os) looks.one in let order = looks.number in cc

module _ (mode : Mode) (below turned number : Content Sign) (below_is : IsAutomaton below) (turned_is : IsAutomaton turned) (number_is : IsAutomaton number) (n : ℕ)
    (below_over : IsOver mode (first ∷ second ∷ []) (relation_meaning (relation.Less 0 1)) below) (same : turned ≡ with_signs negated below) (turned_values : HasValues (changed negated (own_meaning below)) turned)
    (number_over : IsOver mode (second ∷ []) (relation_meaning (relation.Number 1 n)) number) where
  pub mode_same : turned.mode ≡ mode
  mode_same = ap (λ (c : Content Sign). c.mode) same ∙ below_over.mode_is

  pub variables_same : turned.variables ≡ first ∷ second ∷ []
  variables_same = ap (λ (c : Content Sign). c.variables) same ∙ below_over.variables_are

  assigned_below : (e : Env) → IsAssignment turned.mode turned.variables e → IsAssignment below.mode below.variables e
  assigned_below e assigned = subst (λ m. IsAssignment m below.variables e) (ap (λ (c : Content Sign). c.mode) same) (subst (λ vs. IsAssignment turned.mode vs e) (ap (λ (c : Content Sign). c.variables) same) assigned)

  -- what is turned says that the first is not below the second
  turned_means : HasValues not_below turned
  turned_means =
      HasValues-to (changed negated (own_meaning below)) not_below turned
      (λ word e sign assigned encodes is.
      negated-to (λ there. there.number 0 < there.number 1) (λ there. ¬ (there.number 0 < there.number 1)) e sign
      (is.0, own_means (relation_meaning (relation.Less 0 1)) below below_is below_over.values e (assigned_below e assigned) is.0 is.1, is.2)) turned_values

  assigned_number : (e : Env) → IsAssignment turned.mode turned.variables e → IsAssignment number.mode number.variables e
  assigned_number e assigned =
      let here = subst (λ m. IsAssignment m (first ∷ second ∷ []) e) mode_same (subst (λ vs. IsAssignment turned.mode vs e) variables_same assigned) in
      subst (λ m. IsAssignment m number.variables e) (sym number_over.mode_is) (subst (λ vs. IsAssignment mode vs e) (sym number_over.variables_are) (record { universe = here.universe; values = (here.values.1.0, tt) }))

  among_second : IsAmong turned.variables second
  among_second = subst (λ vs. IsAmong vs second) (sym variables_same) (inr (inl refl))

  -- so what is left of it behind the number is that the first is at least n
  pub at_least_over : (made : Content Sign) → made.mode ≡ turned.mode → (variables_are : made.variables ≡ without 1 turned.variables)
      → HasValues (quantified Ex second (IsMetByOwn (Some number)) (own_meaning turned)) made → IsOver mode (first ∷ []) (at_least n) made
  at_least_over made mode_is variables_are values = record {
    mode_is = mode_is ∙ mode_same;
    variables_are = variables_are ∙ ap (without 1) variables_same;
    values = HasValues-meant not_below (λ there. there.number 1 ≡ n) turned made turned_is turned_means
        (IsMeaning-by turned.mode turned.variables (λ e. ¬ (e.number 0 < e.number 1)) (λ e. e.number 0 < e.number 1) (λ e assigned holds fails. holds fails)) second among_second mode_is variables_are
        (IsMetByOwn (Some number))
        (λ g assigned met. own_means (relation_meaning (relation.Number 1 n)) number number_is number_over.values g (assigned_number g assigned) Yes met)
        (λ g assigned met. means_own (relation_meaning (relation.Number 1 n)) number number_is number_over.values
        (IsMeaning-by number.mode number.variables (λ e. e.number 1 ≡ n) (λ e. ¬ (e.number 1 ≡ n)) (λ e assigned holds fails. fails holds)) g (assigned_number g assigned) Yes met) Ex values;
  }

  pub at_least_by : (result : Result (Content Sign) StepFault) → IfOk result (λ made. made.mode ≡ turned.mode) → IfOk result (λ made. made.variables ≡ without 1 turned.variables)
      → IfOk result (HasValues (quantified Ex second (IsMetByOwn (Some number)) (own_meaning turned))) → IfOk result (IsOver mode (first ∷ []) (at_least n))
  at_least_by (Ok made) mode_is variables_are values = at_least_over made mode_is variables_are values
  at_least_by (Err fault) mode_is variables_are values = tt
