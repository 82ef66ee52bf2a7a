-- The product of a body and truth is the body itself.
use Rattle.std.proofs.Common.{◌≡◌, ℕ, ◌<◌, Bool, List, length, slice_get, slice_index, Some, IfSome, refl, sym, ap, subst, ◌∙◌, arith}
use Rattle.std.specs.Option.{option_map}
use Rattle.std.proofs.lemmas.Option.{slice_get_within}
use Rattle.ms_arena.specs.declared.node.Ref.{Ref}
use Rattle.ms_arena.specs.Diagram.{Bits, leaf_of}
use Rattle.ms_arena.proofs.ReachLemmas.{leaf_of-tested}
use Rattle.ms_diagram.specs.Bring.{read_through}
use Rattle.ms_diagram.specs.Numbering.{IsNumbering, AreOwnPairs}
use Rattle.ms_dfa.specs.Automaton.{IsAutomaton, state_of, states_of}
use Rattle.ms_dfa.specs.declared.state.State.{State}
use Rattle.ms_dfa.proofs.States.{state_in}
use Rattle.ms_logic.specs.Assignment.{Variable}
use Rattle.ms_logic.specs.declared.mode.Order.{Order}
use Rattle.ms_logic_words.specs.declared.sign.Sign.{Sign}
use Rattle.ms_logic_words.specs.declared.sign.Sign.TheVariants.{Yes, No, Undefined, Outside}
use Rattle.ms_logic_words.specs.Content.{Content, IsClosed, IsFollowed, StateOf, is_in_letters, is_truth_value}
use Rattle.ms_dfa_explore.specs.Explored.{Leads}
use Rattle.ms_dfa_explore.specs.Tracks.{places_among}
use Rattle.ms_dfa_explore.proofs.AmongLemmas.{leads_to, one_place}
use Rattle.ms_dfa_explore.proofs.RunLemmas.{length-states_of}
use Rattle.ms_product.specs.declared.op.Op.TheVariants.{And}
use Rattle.ms_product.specs.Pairing.{behind_pair, sign_of_number, AreStates, IsPairedIn}
use Rattle.ms_product.specs.Signs.{strict}
use Rattle.ms_product.specs.Widened.{behind_through, first_through, next_through, sign_in}
use Rattle.ms_product.proofs.WidenedLemmas.{first_below, followed, next_below, sign_in-is}
use Rattle.ms_project.specs.Paired.{IsTruth, operands_for}

-- the conjunction of a sign and Yes is the sign
strict-yes : (sign : Sign) → sign ≡ strict And sign Yes
strict-yes Yes = refl
strict-yes No = refl
strict-yes Undefined = refl
strict-yes Outside = refl

module _ (body domain : Content Sign) (body_is : IsAutomaton body) (closed : IsClosed domain) (truth : IsTruth domain) (pairs : List (ℕ × ℕ)) (numbering : IsNumbering pairs) (own : AreOwnPairs (length body.states) pairs) where
  abbrev pub left_map : List ℕ
  left_map = places_among body.variables body.variables

  abbrev pub right_map : List ℕ
  right_map = places_among domain.variables body.variables

  -- truth leads to its one state
  only : (state : ℕ) → state < length domain.states → 0 ≡ state
  only state less = let one = truth.one in omega (arith, one, less)

  own_first : (bits : Bits) (state : ℕ) → state < length body.states → slice_get pairs state ≡ Some (state, first_through domain right_map bits)
  own_first bits state less = own.own state less ∙ ap (λ other. Some (state, other)) (only (first_through domain right_map bits) (first_below domain right_map closed bits))

  own_next : (bits : Bits) (state : ℕ) → state < length body.states → slice_get pairs state ≡ Some (state, next_through domain right_map 0 bits)
  own_next bits state less =
      let one = truth.one in
      own.own state less ∙ ap (λ other. Some (state, other)) (only (next_through domain right_map 0 bits) (next_below domain right_map closed 0 (omega (arith, one)) bits))

  are_states : AreStates (operands_for body domain) pairs
  are_states number pair held =
      let long = own.long in
      let within = slice_get_within pairs number pair held in
      let state : number < length body.states = omega (arith, within, long) in
      let one = truth.one in
      let zero : 0 < length domain.states = omega (arith, one) in
      subst (λ found. IfSome found (λ (p : ℕ × ℕ). (p.0 < length body.states) × (p.1 < length domain.states))) held
      (subst (λ found. IfSome found (λ (p : ℕ × ℕ). (p.0 < length body.states) × (p.1 < length domain.states))) (sym (own.own number state)) (state, zero))

  -- the bits of its own variables are those at their places
  own_place : (place : ℕ) (v : Variable) → slice_get body.variables place ≡ Some v → slice_index left_map place ≡ place
  own_place place v held =
      one_place body.variables body_is.rising (slice_index left_map place) place v (leads_to body.variables body.variables body_is.rising body_is.rising (λ w among. among) place v held) held

  own_read : (has_value : Order → Bool) (root : Ref) → IsFollowed body has_value root → (bits : Bits) → leaf_of body.nodes root bits ≡ leaf_of body.nodes root (read_through left_map bits)
  own_read has_value root is bits =
      leaf_of-tested body.nodes body_is.ordered root bits (read_through left_map bits) is.valid
      (λ var tested. let at = is.tests var tested in ap bits (sym (own_place var at.0 at.1)))

  module _ (states : List State) (states_are : states_of states ≡ body.states) where
    held_own : (number : ℕ) (state : State) → slice_get states number ≡ Some state → slice_get body.states number ≡ Some (state_of state)
    held_own number state held = ap (λ list. slice_get list number) (sym states_are) ∙ state_in states number state held

    follows_at : (number : ℕ) (state : State) → slice_get body.states number ≡ Some (state_of state)
        → Leads body.nodes (behind_pair (operands_for body domain) pairs (Some (number, 0))) state.next × (state.sign ≡ sign_of_number And (operands_for body domain) (Some (number, 0)))
    follows_at number state there =
        let is = followed body left_map body_is.closed number (state_of state) there in
        let less = slice_get_within body.states number (state_of state) there in
        let sign : sign_in body number ≡ state.sign = sign_in-is body number state.sign (ap (option_map (λ (s : StateOf Sign). s.sign)) there) in (
          record {
            valid = is.valid;
            meets = λ bits.
                ap (slice_get pairs) (own_read is_in_letters state.next is bits ∙ sym (ap (λ found. behind_through body left_map found bits) there))
                ∙ own_next bits (next_through body left_map number bits) (next_below body left_map body_is.closed number less bits);
          },
          sym sign ∙ strict-yes (sign_in body number) ∙ ap (strict And (sign_in body number)) (sym truth.yes),
        )

    pub alone_in : IsPairedIn body.nodes And (operands_for body domain) pairs body.start states
    alone_in = record {
      starts = record {
        valid = body_is.closed.start.valid;
        meets = λ bits.
            ap (slice_get pairs) (own_read is_truth_value body.start body_is.closed.start bits)
            ∙ own_first bits (first_through body left_map bits) (first_below body left_map body_is.closed bits);
      };
      all = sym (length-states_of states) ∙ ap length states_are ∙ sym own.long;
      follows = λ number state held.
          let there = held_own number state held in
          let less = slice_get_within body.states number (state_of state) there in
          subst (λ found. Leads body.nodes (behind_pair (operands_for body domain) pairs found) state.next × (state.sign ≡ sign_of_number And (operands_for body domain) found)) (sym (own.own number less))
          (follows_at number state there);
      numbering = numbering;
      are = are_states;
    }
