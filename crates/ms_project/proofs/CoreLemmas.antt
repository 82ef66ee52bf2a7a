-- Over a body and a domain with the values of core formulas, a quantifier has the value of the quantified core formula.
use Rattle.std.proofs.Common.{◌≡◌, ◌↔◌, List, Some, sym, ap, subst, ◌∙◌}
use Rattle.std.proofs.lemmas.Option.{same_Some}
use Rattle.ms_list.specs.declared.word.Word.{Word}
use Rattle.ms_dfa.specs.Automaton.{IsAutomaton}
use Rattle.ms_logic.specs.declared.mode.Quant.{Quant}
use Rattle.ms_logic.specs.declared.mode.Quant.TheVariants.{Ex, All}
use Rattle.ms_logic_words.specs.declared.sign.Sign.{Sign}
use Rattle.ms_logic_words.specs.declared.sign.Sign.TheVariants.{Yes, No}
use Rattle.ms_logic.specs.declared.assignment.Value.{Value}
use Rattle.ms_logic.specs.Assignment.{Env, Variable, IsAssignment, IsValueOf, assign}
use Rattle.ms_logic_words.specs.Content.{Content, shortest_word}
use Rattle.ms_logic_core.specs.CoreForm.{CoreForm, CoreRestriction, CoreYes, CoreNo, IsCoreMet, unrestricted, restricted, quantified as core_quantified}
use Rattle.ms_logic.specs.Truth.{Import, InRange}
use Rattle.ms_logic_words.specs.Word.{Encodes}
use Rattle.ms_dfa.specs.Values.{HasValues, core_meaning, own_meaning}
use Rattle.ms_dfa.proofs.EncodingLemmas.{shortest}
use Rattle.ms_dfa.proofs.NarrowLemmas.{narrowed_assigned}
use Rattle.ms_dfa.proofs.ValuesLemmas.{IsMeaning-core}
use Rattle.ms_dfa_explore.specs.Tracks.{places_among}
use Rattle.ms_logic.specs.Lists.{IsAmong, without}
use Rattle.ms_dfa_explore.proofs.AmongLemmas.{reads_through_places}
use Rattle.ms_project.specs.Paired.{IsDomainFor, places_left}
use Rattle.ms_project.specs.Quantified.{IsMetBy, RangeOf, BodyAt, QuantifiedYes, QuantifiedNo, quantified}
use Rattle.ms_project.proofs.AlwaysLemmas.{some_yes, some_no, none_yes, none_no, yes_or_empty, no_or_empty, sign_moves}
use Rattle.ms_project.proofs.LeaveLemmas.{bound, own_there, IsLeftOut-rest, without-rising, without-names}
use Rattle.ms_project.proofs.ValueLemmas.{there_assigned}

-- an automaton with the values of a core formula has its value as its own sign
same_sign : (imports : List Import) (f : CoreForm) (content : Content Sign) → IsAutomaton content → HasValues (core_meaning imports f) content → (g : Env) → IsAssignment content.mode content.variables g → (sign : Sign)
    → own_meaning content g sign ↔ core_meaning imports f g sign
same_sign imports f content is values g assigned sign =
    let found = values.right (shortest_word content.variables g) g assigned (shortest content is g assigned) in (
      λ own. subst (core_meaning imports f g) (same_Some found.0 sign (sym found.1 ∙ own)) found.2,
      λ core. found.1 ∙ ap Some ((IsMeaning-core content.mode content.variables imports f).one g found.0 sign assigned found.2 core),
    )

module _ (imports : List Import) (f : CoreForm) (r : CoreRestriction) (body made : Content Sign) (body_is : IsAutomaton body) (body_values : HasValues (core_meaning imports f) body) (own : Variable)
    (own_among : IsAmong body.variables own) (made_mode : made.mode ≡ body.mode) (made_variables : made.variables ≡ without own.name body.variables) (IsMet : Env → Type 0)
    (met_to : (g : Env) → IsAssignment body.mode body.variables g → IsMet g → IsCoreMet imports r g) (met_from : (g : Env) → IsAssignment body.mode body.variables g → IsCoreMet imports r g → IsMet g) where
  module _ (word : Word) (e : Env) (assigned : IsAssignment body.mode (without own.name body.variables) e) (encodes : Encodes (without own.name body.variables) word e) where
    assigned_at : (v : Value) → IsValueOf own.order e.universe v → IsAssignment body.mode body.variables (assign own.name v e)
    assigned_at v is =
        there_assigned body.mode body.variables (without own.name body.variables) body_is.rising (without-rising own.name body.variables body_is.rising) (bound body.variables body_is.rising own own_among)
        (places_among (without own.name body.variables) body.variables) (places_left own.name 0 body.variables) (IsLeftOut-rest body.variables body_is.rising own own_among) own
        (own_there body.variables body_is.rising own own_among) (without-names own.name body.variables) e assigned word encodes v is

    abbrev Here : Value → Type 0
    Here = RangeOf own IsMet e

    abbrev There : Value → Type 0
    There = InRange own.order own.name (λ there. IsCoreMet imports r there) e

    to : (v : Value) → Here v → There v
    to v is = (is.0, met_to (assign own.name v e) (assigned_at v is.0) is.1)

    from : (v : Value) → There v → Here v
    from v is = (is.0, met_from (assign own.name v e) (assigned_at v is.0) is.1)

    abbrev At : Sign → Value → Type 0
    At = BodyAt (own_meaning body) own e

    abbrev CoreAt : Sign → Value → Type 0
    CoreAt sign v = core_meaning imports f (assign own.name v e) sign

    at_to : (sign : Sign) (v : Value) → Here v → At sign v → CoreAt sign v
    at_to sign v is at = (same_sign imports f body body_is body_values (assign own.name v e) (assigned_at v is.0) sign).0 at

    at_from : (sign : Sign) (v : Value) → There v → CoreAt sign v → At sign v
    at_from sign v is at = (same_sign imports f body body_is body_values (assign own.name v e) (assigned_at v is.0) sign).1 at

    core_sign : (q : Quant) (sign : Sign) → quantified q own IsMet (own_meaning body) e sign → core_meaning imports (core_quantified q own.order own.name r f) e sign
    core_sign Ex = sign_moves (QuantifiedYes Ex own IsMet (own_meaning body)) (QuantifiedNo Ex own IsMet (own_meaning body)) (CoreYes imports (core_quantified Ex own.order own.name r f)) (CoreNo imports (core_quantified Ex own.order own.name r f)) e
        (some_yes Here There (At Yes) (At No) (CoreAt Yes) (CoreAt No) to from (at_to Yes) (at_to No) (at_from Yes) (at_from No))
        (λ is. (
          none_yes Here There (At Yes) (At No) (CoreAt Yes) (CoreAt No) to from (at_to Yes) (at_to No) (at_from Yes) (at_from No) is.0,
          no_or_empty Here There (At Yes) (At No) (CoreAt Yes) (CoreAt No) to from (at_to Yes) (at_to No) (at_from Yes) (at_from No) is.1,
        ))
        (some_yes There Here (CoreAt Yes) (CoreAt No) (At Yes) (At No) from to (at_from Yes) (at_from No) (at_to Yes) (at_to No))
        (λ is. (
          none_yes There Here (CoreAt Yes) (CoreAt No) (At Yes) (At No) from to (at_from Yes) (at_from No) (at_to Yes) (at_to No) is.0,
          no_or_empty There Here (CoreAt Yes) (CoreAt No) (At Yes) (At No) from to (at_from Yes) (at_from No) (at_to Yes) (at_to No) is.1,
        ))
    core_sign All = sign_moves (QuantifiedYes All own IsMet (own_meaning body)) (QuantifiedNo All own IsMet (own_meaning body)) (CoreYes imports (core_quantified All own.order own.name r f)) (CoreNo imports (core_quantified All own.order own.name r f)) e
        (λ is. (
          none_no Here There (At Yes) (At No) (CoreAt Yes) (CoreAt No) to from (at_to Yes) (at_to No) (at_from Yes) (at_from No) is.0,
          yes_or_empty Here There (At Yes) (At No) (CoreAt Yes) (CoreAt No) to from (at_to Yes) (at_to No) (at_from Yes) (at_from No) is.1,
        ))
        (some_no Here There (At Yes) (At No) (CoreAt Yes) (CoreAt No) to from (at_to Yes) (at_to No) (at_from Yes) (at_from No))
        (λ is. (
          none_no There Here (CoreAt Yes) (CoreAt No) (At Yes) (At No) from to (at_from Yes) (at_from No) (at_to Yes) (at_to No) is.0,
          yes_or_empty There Here (CoreAt Yes) (CoreAt No) (At Yes) (At No) from to (at_from Yes) (at_from No) (at_to Yes) (at_to No) is.1,
        ))
        (some_no There Here (CoreAt Yes) (CoreAt No) (At Yes) (At No) from to (at_from Yes) (at_from No) (at_to Yes) (at_to No))

  HasValues-core : (q : Quant) → HasValues (quantified q own IsMet (own_meaning body)) made → HasValues (core_meaning imports (core_quantified q own.order own.name r f)) made
  HasValues-core q values = record {
    right = λ word e assigned encodes.
        let found = values.right word e assigned encodes in
        let own_assigned = subst (λ mode. IsAssignment mode (without own.name body.variables) e) made_mode (subst (λ (vs : List Variable). IsAssignment made.mode vs e) made_variables assigned) in
        (found.0, found.1, core_sign word e own_assigned (subst (λ (vs : List Variable). Encodes vs word e) made_variables encodes) q found.0 found.2);
    outside = values.outside;
  }

-- without a domain
pub HasValues-unrestricted : (imports : List Import) (f : CoreForm) (body made : Content Sign) → IsAutomaton body → HasValues (core_meaning imports f) body → (own : Variable) → IsAmong body.variables own → made.mode ≡ body.mode
    → made.variables ≡ without own.name body.variables → (q : Quant) → HasValues (quantified q own (λ e. Unit {0}) (own_meaning body)) made
    → HasValues (core_meaning imports (core_quantified q own.order own.name unrestricted f)) made
HasValues-unrestricted imports f body made body_is body_values own own_among made_mode made_variables q values =
    HasValues-core imports f unrestricted body made body_is body_values own own_among made_mode made_variables (λ e. Unit {0}) (λ g assigned met. met) (λ g assigned met. met) q values

-- and with one
pub HasValues-restricted : (imports : List Import) (f d : CoreForm) (body domain made : Content Sign) → IsAutomaton body → IsAutomaton domain → IsDomainFor body domain → HasValues (core_meaning imports f) body
    → HasValues (core_meaning imports d) domain → (own : Variable) → IsAmong body.variables own → made.mode ≡ body.mode → made.variables ≡ without own.name body.variables → (q : Quant)
    → HasValues (quantified q own (IsMetBy (Some domain)) (own_meaning body)) made → HasValues (core_meaning imports (core_quantified q own.order own.name (restricted d) f)) made
HasValues-restricted imports f d body domain made body_is domain_is is_domain body_values domain_values own own_among made_mode made_variables q values =
    HasValues-core imports f (restricted d) body made body_is body_values own own_among made_mode made_variables (IsMetBy (Some domain))
    (λ g assigned met. (same_sign imports d domain domain_is domain_values g (domain_assigned g assigned) Yes).0 met)
    (λ g assigned met. (same_sign imports d domain domain_is domain_values g (domain_assigned g assigned) Yes).1 met) q values
  where
    domain_assigned : (g : Env) → IsAssignment body.mode body.variables g → IsAssignment domain.mode domain.variables g
    domain_assigned g assigned =
        subst (λ mode. IsAssignment mode domain.variables g) is_domain.mode
        (narrowed_assigned (places_among domain.variables body.variables) domain.variables body.variables g g (reads_through_places domain.variables body.variables domain_is.rising body_is.rising is_domain.among g) body.mode assigned)
