-- Two canonical contents with the same signs are equal.
use Rattle.std.proofs.Common.{◌≡◌, ℕ, [], slice_get, Some, sym, ap, subst, ◌∙◌}
use Rattle.std.proofs.lemmas.Option.{slice_get_within, same_Some}
use Rattle.std.specs.Option.{option_map}
use Rattle.ms_logic_words.specs.Canonical.{IsCanonical}
use Rattle.ms_logic_words.specs.Content.{StateOf, Content}
use Rattle.ms_logic_words.specs.Residual.{HaveEqualSigns}
use Rattle.ms_minim_canonical.specs.Laws.{CanonicalContentsAreEqual}
use Rattle.ms_minim_canonical.proofs.ContentLemmas.{sharing, sharing-same}
use Rattle.ms_minim_canonical.proofs.Paired.{lists_equal}
use Rattle.ms_minim_canonical.proofs.StateLemmas.{agree, as_many_states}
use Rattle.ms_minim_canonical.proofs.NodeLemmas.{as_many_nodes, next_equal, nodes_at, starts_equal}

module _ {Sign : Type 0} (one rest : Content Sign) (canonical : IsCanonical one) (canonical_too : IsCanonical (sharing one rest)) (signs : HaveEqualSigns one (sharing one rest)) where
  states_at : (place : ℕ) (state state_too : StateOf Sign) → slice_get one.states place ≡ Some state → slice_get rest.states place ≡ Some state_too → state ≡ state_too
  states_at place state state_too held held_too =
      let residual = agree one rest canonical canonical_too signs place (slice_get_within one.states place state held) in
      let sign : state.sign ≡ state_too.sign
      = same_Some state.sign state_too.sign
      (sym (ap (option_map (λ (found : StateOf Sign). found.sign)) held) ∙ residual.signs [] tt ∙ ap (option_map (λ (found : StateOf Sign). found.sign)) held_too) in
      let next = next_equal one rest canonical canonical_too signs place state state_too held held_too in
      λ i. record { sign = sign i; next = next i }

  same_parts : one ≡ sharing one rest
  same_parts =
      let start = starts_equal one rest canonical canonical_too signs in
      let states = lists_equal one.states rest.states (as_many_states one rest canonical canonical_too signs) states_at in
      let nodes = lists_equal one.nodes rest.nodes (as_many_nodes one rest canonical canonical_too signs) (nodes_at one rest canonical canonical_too signs) in
      λ i. record { mode = one.mode; variables = one.variables; start = start i; states = states i; nodes = nodes i }

pub canonical_equal : (Sign : Type 0) → CanonicalContentsAreEqual Sign
canonical_equal Sign one other canonical canonical_too mode variables signs =
    let same = sharing-same one other mode variables in
    same_parts one other canonical (subst IsCanonical (sym same) canonical_too) (subst (HaveEqualSigns one) (sym same) signs) ∙ same
