-- An automaton reads each of its variables at its own place.
use Rattle.std.proofs.Common.{◌≡◌, ℕ, Bool, List, slice_get, slice_index, Some, ap}
use Rattle.ms_arena.specs.declared.node.Ref.{Ref}
use Rattle.ms_arena.specs.Diagram.{Bits, leaf_of}
use Rattle.ms_arena.proofs.ReachLemmas.{leaf_of-tested}
use Rattle.ms_diagram.specs.Bring.{read_through}
use Rattle.ms_dfa.specs.Automaton.{IsAutomaton}
use Rattle.ms_logic.specs.declared.mode.Order.{Order}
use Rattle.ms_logic_words.specs.declared.sign.Sign.{Sign}
use Rattle.ms_logic.specs.Assignment.{Variable}
use Rattle.ms_logic_words.specs.Content.{Content, IsFollowed}
use Rattle.ms_dfa_explore.specs.Tracks.{places_among}
use Rattle.ms_dfa_explore.proofs.AmongLemmas.{leads_to, one_place}

module _ (content : Content Sign) (automaton : IsAutomaton content) where
  abbrev own : List ℕ
  own = places_among content.variables content.variables

  leads : (place : ℕ) (v : Variable) → slice_get content.variables place ≡ Some v → slice_get content.variables (slice_index own place) ≡ Some v
  leads = leads_to content.variables content.variables automaton.rising automaton.rising (λ v among. among)

  -- each variable is read at its own place
  place_is : (place : ℕ) (v : Variable) → slice_get content.variables place ≡ Some v → slice_index own place ≡ place
  place_is place v held = one_place content.variables automaton.rising (slice_index own place) place v (leads place v held) held

  pub read_same : (has_value : Order → Bool) (root : Ref) → IsFollowed content has_value root → (bits : Bits) → leaf_of content.nodes root (read_through own bits) ≡ leaf_of content.nodes root bits
  read_same has_value root is bits =
      leaf_of-tested content.nodes automaton.ordered root (read_through own bits) bits is.valid (λ var tested. let at = is.tests var tested in ap bits (place_is var at.0 at.1))
