-- The quantified body of a node.
use Rattle.std.proofs.Common.{◌≡◌, ℕ, ◌+◌, not, false, if◌then◌else◌, nat_eq, ⊎_elim, Result, Ok, Err, IfOk, List, [], ◌∷◌, ◌++◌, length, slice_get, Some, None, sym, ap, subst, ◌∙◌, arith}
use Rattle.std.proofs.lemmas.Bool.{cases_Bool, eqb-true, eq-eqb}
use Rattle.ms_arena.proofs.Lists.{slice_get-push}
use Rattle.ms_dag.specs.declared.node.Child.{Child}
use Rattle.ms_dag.specs.declared.node.Entry.{Entry}
use Rattle.ms_dag.specs.Values.{IsMetBy, NodeYes}
use Rattle.ms_dfa.specs.Automaton.{IsAutomaton}
use Rattle.ms_list.specs.declared.fault.StepFault.{StepFault}
use Rattle.ms_logic.specs.Lists.{IsAmong, without}
use Rattle.ms_logic.specs.declared.mode.Mode.{Mode}
use Rattle.ms_logic.specs.declared.mode.Order.{Order}
use Rattle.ms_logic.specs.declared.mode.Quant.{Quant}
use Rattle.ms_logic_words.specs.declared.sign.Sign.{Sign}
use Rattle.ms_logic_words.specs.declared.sign.Sign.TheVariants.{Yes}
use Rattle.ms_logic.specs.Assignment.{Env, Variable, IsAssignment}
use Rattle.ms_logic_words.specs.Content.{Content, variables_from, variables_by_place}
use Rattle.ms_logic.specs.Truth.{Import}
use Rattle.ms_project.specs.Paired.{IsDomainFor}
use Rattle.ms_project.specs.Quantified.{quantified}
use Rattle.ms_project.specs.Quantified.{IsMetBy as IsMetByOwn}
use Rattle.ms_dfa.specs.Values.{HasValues, own_meaning}
use Rattle.ms_build.specs.Built.{IsOver, IsPart, child_meaning}
use Rattle.ms_build.specs.inner.Ranges.{IsLast}
use Rattle.ms_build.proofs.MeaningLemmas.{own_means}
use Rattle.ms_build.proofs.NodeLemmas.{IsMeaning-child}
use Rattle.ms_build.proofs.PlaceLemmas.{IsAssignment-among, among-own}
use Rattle.ms_build.proofs.QuantifiedLemmas.{HasValues-meant, means_own}

-- the variables by their places, without the one behind them
without-last : (base : ℕ) (orders : List Order) (o : Order) (name : ℕ) → name ≡ base + length orders → without name (variables_from base (orders ++ o ∷ [])) ≡ variables_from base orders
without-last base [] o name is =
    ap (λ test. if not test then record { name = base; order = o } ∷ [] else []) (eq-eqb base name (omega (arith, is)))
without-last base (first ∷ orders) o name is =
    ap (λ test. if not test then record { name = base; order = first } ∷ without name (variables_from (base + 1) (orders ++ o ∷ [])) else without name (variables_from (base + 1) (orders ++ o ∷ []))) (differs)
    ∙ ap (λ vs. record { name = base; order = first } ∷ vs) (without-last (base + 1) orders o name (omega (arith, is)))
  where
    differs : nat_eq base name ≡ false
    differs = ⊎_elim (λ same. let equal = eqb-true base name same in absurd (omega (arith, is, equal))) (λ other. other) (cases_Bool (nat_eq base name))

with-last : (base : ℕ) (orders : List Order) (o : Order) (name : ℕ) → name ≡ base + length orders → variables_from base orders ++ record { name = name; order = o } ∷ [] ≡ variables_from base (orders ++ o ∷ [])
with-last base [] o name is = let same : name ≡ base = omega (arith, is) in ap (λ (n : ℕ). record { name = n; order = o } ∷ []) same
with-last base (first ∷ orders) o name is = ap (λ vs. record { name = base; order = first } ∷ vs) (with-last (base + 1) orders o name (omega (arith, is)))

module _ (imports : List Import) (entries : List Entry) (mode : Mode) (orders : List Order) (own : Variable) (bound : own.name ≡ length orders) (body : Child) (whole : Content Sign) (automaton : IsAutomaton whole)
    (is : IsOver mode (variables_by_place (orders ++ own.order ∷ [])) (child_meaning imports entries body) whole) where
  -- the bound variable is one of the body's
  pub bound_among : IsAmong whole.variables own
  bound_among =
      subst (λ vs. IsAmong vs own) (sym is.variables_are)
      (among-own (orders ++ own.order ∷ []) own (ap (slice_get (orders ++ own.order ∷ [])) bound ∙ slice_get-push orders own.order))

  -- and the last of them
  pub bound_last : IsLast whole.variables own
  bound_last =
      subst (λ vs. IsLast vs own) (sym is.variables_are)
      (ap (λ vs. vs ++ own ∷ []) (without-last 0 orders own.order own.name (omega (arith, bound))) ∙ with-last 0 orders own.order own.name (omega (arith, bound)))

  module _ (quant : Quant) (made : Content Sign) (mode_is : made.mode ≡ whole.mode) (variables_are : made.variables ≡ without own.name whole.variables) where
    over_node : made.variables ≡ variables_by_place orders
    over_node = variables_are ∙ ap (without own.name) is.variables_are ∙ without-last 0 orders own.order own.name (omega (arith, bound))

    over : (MetAt IsMet : Env → Type 0) → ((g : Env) → IsAssignment whole.mode whole.variables g → IsMet g → MetAt g) → ((g : Env) → IsAssignment whole.mode whole.variables g → MetAt g → IsMet g)
        → HasValues (quantified quant own IsMet (own_meaning whole)) made → IsOver mode (variables_by_place orders) (quantified quant own MetAt (child_meaning imports entries body)) made
    over MetAt IsMet to from values = record {
      mode_is = mode_is ∙ is.mode_is;
      variables_are = over_node;
      values = HasValues-meant (child_meaning imports entries body) MetAt whole made automaton is.values (IsMeaning-child imports entries whole.mode whole.variables body) own bound_among mode_is
          variables_are IsMet to from quant values;
    }

    pub over_all_values : HasValues (quantified quant own (IsMetByOwn None) (own_meaning whole)) made
        → IsOver mode (variables_by_place orders) (quantified quant own (λ there. IsMetBy (NodeYes imports entries) None there) (child_meaning imports entries body)) made
    over_all_values values = over (λ there. IsMetBy (NodeYes imports entries) None there) (IsMetByOwn None) (λ g assigned met. met) (λ g assigned met. met) values

    module _ (domain : Child) (restriction : Content Sign) (restriction_is : IsAutomaton restriction) (part : IsPart mode (orders ++ own.order ∷ []) domain.map (child_meaning imports entries domain) restriction) where
      domain_assigned : (g : Env) → IsAssignment whole.mode whole.variables g → IsAssignment restriction.mode restriction.variables g
      domain_assigned g assigned =
          IsAssignment-among restriction.mode restriction.variables whole.variables g (λ v there. subst (λ vs. IsAmong vs v) (sym is.variables_are) (part.among v there))
          (subst (λ m. IsAssignment m whole.variables g) (is.mode_is ∙ sym part.mode_is) assigned)

      pub within_values : HasValues (quantified quant own (IsMetByOwn (Some restriction)) (own_meaning whole)) made
          → IsOver mode (variables_by_place orders) (quantified quant own (λ there. IsMetBy (NodeYes imports entries) (Some domain) there) (child_meaning imports entries body)) made
      within_values values = over (λ there. IsMetBy (NodeYes imports entries) (Some domain) there) (IsMetByOwn (Some restriction))
          (λ g assigned met. own_means (child_meaning imports entries domain) restriction restriction_is part.values g (domain_assigned g assigned) Yes met)
          (λ g assigned met. means_own (child_meaning imports entries domain) restriction restriction_is part.values (IsMeaning-child imports entries restriction.mode restriction.variables domain) g
          (domain_assigned g assigned) Yes met) values

  -- the restriction is one for the body
  pub IsDomainFor-part : (domain : Child) (restriction : Content Sign) → IsPart mode (orders ++ own.order ∷ []) domain.map (child_meaning imports entries domain) restriction → IsDomainFor whole restriction
  IsDomainFor-part domain restriction part = record {
    mode = is.mode_is ∙ sym part.mode_is;
    among = λ v there. subst (λ vs. IsAmong vs v) (sym is.variables_are) (part.among v there);
  }

  -- the same where the quantifier may be refused
  pub over_all_by : (quant : Quant) (result : Result (Content Sign) StepFault) → IfOk result (λ made. made.mode ≡ whole.mode) → IfOk result (λ made. made.variables ≡ without own.name whole.variables)
      → IfOk result (HasValues (quantified quant own (IsMetByOwn None) (own_meaning whole)))
      → IfOk result (IsOver mode (variables_by_place orders) (quantified quant own (λ there. IsMetBy (NodeYes imports entries) None there) (child_meaning imports entries body)))
  over_all_by quant (Ok made) mode_is variables_are values = over_all_values quant made mode_is variables_are values
  over_all_by quant (Err fault) mode_is variables_are values = tt

  pub within_by : (quant : Quant) (domain : Child) (restriction : Content Sign) → IsAutomaton restriction → IsPart mode (orders ++ own.order ∷ []) domain.map (child_meaning imports entries domain) restriction
      → (result : Result (Content Sign) StepFault) → IfOk result (λ made. made.mode ≡ whole.mode) → IfOk result (λ made. made.variables ≡ without own.name whole.variables)
      → IfOk result (HasValues (quantified quant own (IsMetByOwn (Some restriction)) (own_meaning whole)))
      → IfOk result (IsOver mode (variables_by_place orders) (quantified quant own (λ there. IsMetBy (NodeYes imports entries) (Some domain) there) (child_meaning imports entries body)))
  within_by quant domain restriction restriction_is part (Ok made) mode_is variables_are values = within_values quant made mode_is variables_are domain restriction restriction_is part values
  within_by quant domain restriction restriction_is part (Err fault) mode_is variables_are values = tt
