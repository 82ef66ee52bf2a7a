-- A quantifier over automata with the values of meanings has the value of the quantifier over these.
use Rattle.std.proofs.Common.{◌≡◌, List, Some, ap, subst, ◌∙◌}
use Rattle.ms_list.specs.declared.word.Word.{Word}
use Rattle.ms_dfa.specs.Automaton.{IsAutomaton}
use Rattle.ms_logic.specs.declared.mode.Quant.{Quant}
use Rattle.ms_logic.specs.declared.mode.Quant.TheVariants.{Ex, All}
use Rattle.ms_logic_words.specs.declared.sign.Sign.{Sign}
use Rattle.ms_logic_words.specs.declared.sign.Sign.TheVariants.{Yes, No}
use Rattle.ms_logic.specs.declared.assignment.Value.{Value}
use Rattle.ms_logic.specs.Assignment.{Env, Variable, IsAssignment, IsValueOf, assign}
use Rattle.ms_logic_words.specs.Content.{Content, shortest_word}
use Rattle.ms_logic_words.specs.Word.{Encodes}
use Rattle.ms_dfa.specs.Values.{HasValues, IsMeaning, Meaning, own_meaning}
use Rattle.ms_dfa.proofs.EncodingLemmas.{shortest}
use Rattle.ms_dfa_explore.specs.Tracks.{places_among}
use Rattle.ms_logic.specs.Lists.{IsAmong, without}
use Rattle.ms_project.specs.Paired.{places_left}
use Rattle.ms_project.specs.Quantified.{RangeOf, BodyAt, QuantifiedYes, QuantifiedNo, quantified}
use Rattle.ms_project.proofs.AlwaysLemmas.{some_yes, some_no, none_yes, none_no, yes_or_empty, no_or_empty, sign_moves}
use Rattle.ms_project.proofs.LeaveLemmas.{bound, own_there, IsLeftOut-rest, without-rising, without-names}
use Rattle.ms_project.proofs.ValueLemmas.{there_assigned}
use Rattle.ms_build.proofs.MeaningLemmas.{own_means}

-- a sign that is right is the automaton's own
pub means_own : (meaning : Meaning) (content : Content Sign) → IsAutomaton content → HasValues meaning content → IsMeaning content.mode content.variables meaning
    → (e : Env) → IsAssignment content.mode content.variables e → (sign : Sign) → meaning e sign → own_meaning content e sign
means_own meaning content automaton values is_meaning e assigned sign right =
    let found = values.right (shortest_word content.variables e) e assigned (shortest content automaton e assigned) in
    found.1 ∙ ap Some (is_meaning.one e found.0 sign assigned found.2 right)

-- a value of the bound variable gives the body an assignment
pub assigned_bound : (body : Content Sign) → IsAutomaton body → (own : Variable) → IsAmong body.variables own → (word : Word) (e : Env) → IsAssignment body.mode (without own.name body.variables) e
    → Encodes (without own.name body.variables) word e → (v : Value) → IsValueOf own.order e.universe v → IsAssignment body.mode body.variables (assign own.name v e)
assigned_bound body body_is own own_among word e assigned encodes v is =
    there_assigned body.mode body.variables (without own.name body.variables) body_is.rising (without-rising own.name body.variables body_is.rising) (bound body.variables body_is.rising own own_among)
    (places_among (without own.name body.variables) body.variables) (places_left own.name 0 body.variables) (IsLeftOut-rest body.variables body_is.rising own own_among) own
    (own_there body.variables body_is.rising own own_among) (without-names own.name body.variables) e assigned word encodes v is

module _ (meaning : Meaning) (MetAt : Env → Type 0) (body made : Content Sign) (body_is : IsAutomaton body) (body_values : HasValues meaning body)
    (is_meaning : IsMeaning body.mode body.variables meaning) (own : Variable) (own_among : IsAmong body.variables own) (made_mode : made.mode ≡ body.mode)
    (made_variables : made.variables ≡ without own.name body.variables) (IsMet : Env → Type 0)
    (met_to : (g : Env) → IsAssignment body.mode body.variables g → IsMet g → MetAt g) (met_from : (g : Env) → IsAssignment body.mode body.variables g → MetAt g → IsMet g) where
  module _ (word : Word) (e : Env) (assigned : IsAssignment body.mode (without own.name body.variables) e) (encodes : Encodes (without own.name body.variables) word e) where
    assigned_at : (v : Value) → IsValueOf own.order e.universe v → IsAssignment body.mode body.variables (assign own.name v e)
    assigned_at = assigned_bound body body_is own own_among word e assigned encodes

    abbrev Here : Value → Type 0
    Here = RangeOf own IsMet e

    abbrev There : Value → Type 0
    There = RangeOf own MetAt e

    to : (v : Value) → Here v → There v
    to v is = (is.0, met_to (assign own.name v e) (assigned_at v is.0) is.1)

    from : (v : Value) → There v → Here v
    from v is = (is.0, met_from (assign own.name v e) (assigned_at v is.0) is.1)

    abbrev At : Sign → Value → Type 0
    At = BodyAt (own_meaning body) own e

    abbrev MeantAt : Sign → Value → Type 0
    MeantAt = BodyAt meaning own e

    at_to : (sign : Sign) (v : Value) → Here v → At sign v → MeantAt sign v
    at_to sign v is at = own_means meaning body body_is body_values (assign own.name v e) (assigned_at v is.0) sign at

    at_from : (sign : Sign) (v : Value) → There v → MeantAt sign v → At sign v
    at_from sign v is at = means_own meaning body body_is body_values is_meaning (assign own.name v e) (assigned_at v is.0) sign at

    meant_sign : (q : Quant) (sign : Sign) → quantified q own IsMet (own_meaning body) e sign → quantified q own MetAt meaning e sign
    meant_sign Ex = sign_moves (QuantifiedYes Ex own IsMet (own_meaning body)) (QuantifiedNo Ex own IsMet (own_meaning body)) (QuantifiedYes Ex own MetAt meaning) (QuantifiedNo Ex own MetAt meaning) e
        (some_yes Here There (At Yes) (At No) (MeantAt Yes) (MeantAt No) to from (at_to Yes) (at_to No) (at_from Yes) (at_from No))
        (λ is. (
          none_yes Here There (At Yes) (At No) (MeantAt Yes) (MeantAt No) to from (at_to Yes) (at_to No) (at_from Yes) (at_from No) is.0,
          no_or_empty Here There (At Yes) (At No) (MeantAt Yes) (MeantAt No) to from (at_to Yes) (at_to No) (at_from Yes) (at_from No) is.1,
        ))
        (some_yes There Here (MeantAt Yes) (MeantAt No) (At Yes) (At No) from to (at_from Yes) (at_from No) (at_to Yes) (at_to No))
        (λ is. (
          none_yes There Here (MeantAt Yes) (MeantAt No) (At Yes) (At No) from to (at_from Yes) (at_from No) (at_to Yes) (at_to No) is.0,
          no_or_empty There Here (MeantAt Yes) (MeantAt No) (At Yes) (At No) from to (at_from Yes) (at_from No) (at_to Yes) (at_to No) is.1,
        ))
    meant_sign All = sign_moves (QuantifiedYes All own IsMet (own_meaning body)) (QuantifiedNo All own IsMet (own_meaning body)) (QuantifiedYes All own MetAt meaning) (QuantifiedNo All own MetAt meaning) e
        (λ is. (
          none_no Here There (At Yes) (At No) (MeantAt Yes) (MeantAt No) to from (at_to Yes) (at_to No) (at_from Yes) (at_from No) is.0,
          yes_or_empty Here There (At Yes) (At No) (MeantAt Yes) (MeantAt No) to from (at_to Yes) (at_to No) (at_from Yes) (at_from No) is.1,
        ))
        (some_no Here There (At Yes) (At No) (MeantAt Yes) (MeantAt No) to from (at_to Yes) (at_to No) (at_from Yes) (at_from No))
        (λ is. (
          none_no There Here (MeantAt Yes) (MeantAt No) (At Yes) (At No) from to (at_from Yes) (at_from No) (at_to Yes) (at_to No) is.0,
          yes_or_empty There Here (MeantAt Yes) (MeantAt No) (At Yes) (At No) from to (at_from Yes) (at_from No) (at_to Yes) (at_to No) is.1,
        ))
        (some_no There Here (MeantAt Yes) (MeantAt No) (At Yes) (At No) from to (at_from Yes) (at_from No) (at_to Yes) (at_to No))

  pub HasValues-meant : (q : Quant) → HasValues (quantified q own IsMet (own_meaning body)) made → HasValues (quantified q own MetAt meaning) made
  HasValues-meant q values = record {
    right = λ word e assigned encodes.
        let found = values.right word e assigned encodes in
        let own_assigned = subst (λ mode. IsAssignment mode (without own.name body.variables) e) made_mode (subst (λ (vs : List Variable). IsAssignment made.mode vs e) made_variables assigned) in
        (found.0, found.1, meant_sign word e own_assigned (subst (λ (vs : List Variable). Encodes vs word e) made_variables encodes) q found.0 found.2);
    outside = values.outside;
  }
