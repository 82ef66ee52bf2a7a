-- The steps of a product: what its exploration found, said of the operands with which it began.
use Rattle.std.proofs.Common.{◌≡◌, ℕ, List, Result, ap, subst, ◌∙◌}
use Rattle.ms_list.specs.declared.fault.StepFault.{StepFault}
use Rattle.ms_arena.specs.declared.node.Ref.{Ref}
use Rattle.ms_diagram.specs.Numbering.{IsNumbering}
use Rattle.ms_diagram.specs.Store.{Contents}
use Rattle.ms_dfa.specs.declared.state.State.{State}
use Rattle.ms_dfa.specs.declared.track.Track.{Track}
use Rattle.ms_dfa.specs.Automaton.{variables_of}
use Rattle.ms_logic.specs.Assignment.{Variable}
use Rattle.ms_logic_words.specs.declared.sign.Sign.{Sign}
use Rattle.ms_logic_words.specs.Content.{Content}
use Rattle.ms_dfa_explore.specs.Explored.{Explores}
use Rattle.ms_dfa_explore.specs.Tracks.{merged, places_among}
use Rattle.ms_product.specs.declared.op.Op.{Op}
use Rattle.ms_product.specs.Pairing.{Operands, Pairing, IsLaterPairing, operands_over, product_findings, AreReachedPairs, AreStates}

module _ (op : Op) (operands : Operands) (initial inside seen : Pairing) (op_is : initial.op ≡ op) (operands_are : initial.operands ≡ operands) (later : IsLaterPairing initial seen)
    (view_is : inside ≡ seen) where
  seen_op : seen.op ≡ op
  seen_op = ap (λ (p : Pairing). p.op) later.same ∙ op_is

  seen_operands : seen.operands ≡ operands
  seen_operands = ap (λ (p : Pairing). p.operands) later.same ∙ operands_are

  pub Explores-seen : (old new : Contents) (states : List State) (result : Result Ref StepFault) → Explores old new (product_findings seen.op seen.operands seen.pairs) states result
      → Explores old new (product_findings op operands seen.pairs) states result
  Explores-seen old new states result explores =
      subst (λ o. Explores old new (product_findings op o seen.pairs) states result) seen_operands
      (subst (λ c. Explores old new (product_findings c seen.operands seen.pairs) states result) seen_op explores)

  pub AreStates-seen : AreStates inside.operands inside.pairs → AreStates operands seen.pairs
  AreStates-seen are =
      subst (λ o. AreStates o seen.pairs) seen_operands (subst (λ (p : Pairing). AreStates p.operands p.pairs) view_is are)

  pub AreReached-seen : AreReachedPairs inside.operands inside.pairs → AreReachedPairs operands seen.pairs
  AreReached-seen reached =
      subst (λ o. AreReachedPairs o seen.pairs) seen_operands (subst (λ (p : Pairing). AreReachedPairs p.operands p.pairs) view_is reached)

  pub IsNumbering-seen : IsNumbering inside.pairs → IsNumbering seen.pairs
  IsNumbering-seen numbering = subst (λ (p : Pairing). IsNumbering p.pairs) view_is numbering

-- the variables of the tracks that were merged
pub variables_joined : (sliced tracks left right : List Track) (a b : Content Sign) → sliced ≡ tracks → variables_of tracks ≡ merged (variables_of left) (variables_of right)
    → variables_of left ≡ a.variables → variables_of right ≡ b.variables → variables_of sliced ≡ merged a.variables b.variables
variables_joined sliced tracks left right a b same merge left_is right_is = ap variables_of same ∙ merge ∙ (λ i. merged (left_is i) (right_is i))

-- the operands of the product
pub operands_as : (a b left right : Content Sign) (left_map right_map : List ℕ) (wide one other : List Variable) → left ≡ a → left_map ≡ places_among a.variables one → one ≡ wide
    → right ≡ b → right_map ≡ places_among b.variables other → other ≡ wide → record { left = left; left_map = left_map; right = right; right_map = right_map } ≡ operands_over a b wide
operands_as a b left right left_map right_map wide one other left_is left_map_is one_is right_is right_map_is other_is =
    let first = left_map_is ∙ ap (places_among a.variables) one_is in
    let second = right_map_is ∙ ap (places_among b.variables) other_is in
    λ i. record { left = left_is i; left_map = first i; right = right_is i; right_map = second i }
