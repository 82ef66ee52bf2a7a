-- The states of an automaton, one after the other.
use Rattle.std.proofs.Common.{◌≡◌, ℕ, ◌+◌, ◌<◌, List, [], ◌∷◌, ◌++◌, length, take, slice_get, Some, IfSome, sym, ap, subst, ◌∙◌}
use Rattle.std.specs.Option.{option_map}
use Rattle.std.proofs.lemmas.List.{map_push, take_more}
use Rattle.std.proofs.lemmas.Option.{get_or_from_slice_get, same_Some}
use Rattle.ms_arena.specs.declared.node.Ref.{Ref}
use Rattle.ms_arena.proofs.Lists.{slice_get-held}
use Rattle.ms_dfa.specs.declared.state.State.{State}
use Rattle.ms_dfa.specs.Automaton.{state_of, states_of}
use Rattle.ms_logic_words.specs.declared.sign.Sign.{Sign}
use Rattle.ms_logic_words.specs.Content.{StateOf, Content, sign_at}

-- one state more, as it is
pub same_states-more : (content : Content Sign) (made : List State) (place : ℕ) (sign : Sign) (next : Ref) → states_of made ≡ take place content.states → place < length content.states
    → sign_at content place ≡ Some sign → IfSome (slice_get content.states place) (λ (found : StateOf Sign). next ≡ found.next)
    → states_of (made ++ record { sign = sign; next = next } ∷ []) ≡ take (place + 1) content.states
same_states-more content made place sign next was within is_sign is_next =
    let held = slice_get-held content.states place within in
    let own : sign ≡ held.0.sign = same_Some sign held.0.sign (sym is_sign ∙ ap (option_map (λ (found : StateOf Sign). found.sign)) held.1) in
    let next_is : next ≡ held.0.next = subst (λ found. IfSome found (λ (s : StateOf Sign). next ≡ s.next)) held.1 is_next in
    let state_is : state_of (record { sign = sign; next = next }) ≡ held.0 = λ i. record { sign = own i; next = next_is i } in
    map_push state_of made (record { sign = sign; next = next })
    ∙ ap (λ (s : StateOf Sign). states_of made ++ s ∷ []) state_is
    ∙ ap (λ list. list ++ held.0 ∷ []) was
    ∙ sym (take_more content.states place held.0 within ∙ ap (λ (s : StateOf Sign). take place content.states ++ s ∷ []) (get_or_from_slice_get content.states place held.0 held.0 held.1))
