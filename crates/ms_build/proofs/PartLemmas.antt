-- Connectives of automata over parts of the variables of a node.
use Rattle.std.proofs.Common.{◌≡◌, ℕ, ⊎_elim, Result, Ok, Err, IfOk, List, ◌++◌, slice_get, sym, ap, subst, ◌∙◌}
use Rattle.std.proofs.lemmas.Option.{same_Some}
use Rattle.std.proofs.lemmas.List.Elements.{Contains-append_cases}
use Rattle.ms_dfa.specs.Automaton.{IsAutomaton}
use Rattle.ms_list.specs.declared.fault.StepFault.{StepFault}
use Rattle.ms_dfa_explore.specs.Tracks.{merged}
use Rattle.ms_logic.specs.Lists.{IsAmong}
use Rattle.ms_dfa_explore.proofs.AmongLemmas.{merged-either}
use Rattle.ms_dfa_explore.proofs.TracksLemmas.{merged-left, merged-right}
use Rattle.ms_logic.specs.declared.mode.Mode.{Mode}
use Rattle.ms_logic.specs.declared.mode.Order.{Order}
use Rattle.ms_logic_words.specs.declared.sign.Sign.{Sign}
use Rattle.ms_logic.specs.Assignment.{Env, Variable, IsAssignment}
use Rattle.ms_logic_words.specs.Content.{Content, variables_by_place}
use Rattle.ms_product.specs.declared.op.Op.{Op}
use Rattle.ms_product.specs.Combined.{HaveEqualOrders, combined}
use Rattle.ms_dfa.specs.Values.{HasValues, meaning_by, own_meaning}
use Rattle.ms_dag.specs.declared.node.Child.{Child}
use Rattle.ms_build.specs.declared.plan.Plan.{Plan}
use Rattle.ms_build.specs.Built.{IsPairOf, IsPart, IsReadAt, entries_of, imports_for, pair_meaning}
use Rattle.ms_build.specs.Connectives.{NoOf, YesOf}
use Rattle.ms_build.proofs.ChildLemmas.{same_variable}
use Rattle.ms_build.proofs.MeaningLemmas.{HasValues-to, combined-to, own_means}
use Rattle.ms_build.proofs.PlaceLemmas.{IsAssignment-among, own-among}

-- variables of these orders by their places, with one number, are one
pub one_by_place : (orders : List Order) (left right : List Variable) → ((v : Variable) → IsAmong left v → IsAmong (variables_by_place orders) v)
    → ((v : Variable) → IsAmong right v → IsAmong (variables_by_place orders) v) → HaveEqualOrders left right
one_by_place orders left right left_among right_among v w is also same =
    let first = own-among orders v (left_among v is) in
    let second = own-among orders w (right_among w also) in
    same_variable v w same (same_Some v.order w.order (sym first ∙ ap (slice_get orders) same ∙ second))

module _ (mode : Mode) (orders : List Order) (left_covered right_covered : List ℕ) (LeftYes LeftNo RightYes RightNo : Env → Type 0) (left right : Content Sign)
    (left_is : IsAutomaton left) (right_is : IsAutomaton right) (left_part : IsPart mode orders left_covered (meaning_by LeftYes LeftNo) left)
    (right_part : IsPart mode orders right_covered (meaning_by RightYes RightNo) right) where
  pub equal_orders : HaveEqualOrders left.variables right.variables
  equal_orders = one_by_place orders left.variables right.variables left_part.among right_part.among

  module _ (made : Content Sign) (mode_is : made.mode ≡ left.mode) (variables_are : made.variables ≡ merged left.variables right.variables) where
    left_there : (v : Variable) → IsAmong left.variables v → IsAmong made.variables v
    left_there v among = subst (λ vs. IsAmong vs v) (sym variables_are) (merged-left left.variables right.variables v among)

    right_there : (v : Variable) → IsAmong right.variables v → IsAmong made.variables v
    right_there v among =
        subst (λ vs. IsAmong vs v) (sym variables_are) (merged-right left.variables right.variables v (λ u there same. equal_orders u v there among same) among)

    pub IsPart-combined : (op : Op) → HasValues (combined op (own_meaning left) (own_meaning right)) made
        → IsPart mode orders (left_covered ++ right_covered) (meaning_by (YesOf LeftYes LeftNo RightYes RightNo op) (NoOf LeftYes LeftNo RightYes RightNo op)) made
    IsPart-combined op values = record {
      mode_is = mode_is ∙ left_part.mode_is;
      among = λ v is. ⊎_elim (λ there. left_part.among v there) (λ there. right_part.among v there) (merged-either left.variables right.variables v (subst (λ vs. IsAmong vs v) variables_are is));
      covers = λ j o covered there. ⊎_elim (λ first. left_there _ (left_part.covers j o first there)) (λ second. right_there _ (right_part.covers j o second there))
          (Contains-append_cases left_covered right_covered j covered);
      values = HasValues-to (combined op (own_meaning left) (own_meaning right)) (meaning_by (YesOf LeftYes LeftNo RightYes RightNo op) (NoOf LeftYes LeftNo RightYes RightNo op)) made
          (λ word e sign assigned encodes is.
          let left_assigned = IsAssignment-among left.mode left.variables made.variables e left_there (subst (λ m. IsAssignment m made.variables e) mode_is assigned) in
          let right_assigned = IsAssignment-among right.mode right.variables made.variables e right_there
          (subst (λ m. IsAssignment m made.variables e) (mode_is ∙ left_part.mode_is ∙ sym right_part.mode_is) assigned) in
          combined-to LeftYes LeftNo RightYes RightNo op e sign (
            is.0,
            is.1,
            own_means (meaning_by LeftYes LeftNo) left left_is left_part.values e left_assigned is.0 is.2,
            own_means (meaning_by RightYes RightNo) right right_is right_part.values e right_assigned is.1 is.3,
            is.4,
          )) values;
    }

-- the same where a connective may be refused
pub combined_by : (mode : Mode) (orders : List Order) (left_covered right_covered : List ℕ) (LeftYes LeftNo RightYes RightNo : Env → Type 0) (left right : Content Sign) → IsAutomaton left → IsAutomaton right
    → IsPart mode orders left_covered (meaning_by LeftYes LeftNo) left → IsPart mode orders right_covered (meaning_by RightYes RightNo) right → (op : Op) (result : Result (Content Sign) StepFault)
    → IfOk result (λ made. made.mode ≡ left.mode) → IfOk result (λ made. made.variables ≡ merged left.variables right.variables)
    → IfOk result (HasValues (combined op (own_meaning left) (own_meaning right)))
    → IfOk result (IsPart mode orders (left_covered ++ right_covered) (meaning_by (YesOf LeftYes LeftNo RightYes RightNo op) (NoOf LeftYes LeftNo RightYes RightNo op)))
combined_by mode orders left_covered right_covered LeftYes LeftNo RightYes RightNo left right left_is right_is left_part right_part op (Ok made) mode_is variables_are values =
    IsPart-combined mode orders left_covered right_covered LeftYes LeftNo RightYes RightNo left right left_is right_is left_part right_part made mode_is variables_are op values
combined_by mode orders left_covered right_covered LeftYes LeftNo RightYes RightNo left right left_is right_is left_part right_part op (Err fault) mode_is variables_are values = tt

-- and wherever the operands are read
pub pair_by : (plan : Plan) (op : Op) (left right : Child) (result : Result (Content Sign) StepFault)
    → ((orders : List Order) → IsReadAt (entries_of plan) orders left → IsReadAt (entries_of plan) orders right
    → IfOk result (IsPart plan.mode orders (left.map ++ right.map) (pair_meaning op (imports_for plan) (entries_of plan) left right)))
    → IfOk result (IsPairOf plan op left right)
pair_by plan op left right (Ok made) each = each
pair_by plan op left right (Err fault) each = tt
