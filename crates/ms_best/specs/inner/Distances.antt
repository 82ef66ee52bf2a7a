-- What is kept of the distances of an automaton.
use Rattle.std.specs.Prelude.{◌≡◌, length}
use Rattle.ms_logic_words.specs.Content.{Content}
use Rattle.ms_logic_words.specs.declared.sign.Sign.{Sign}
use Rattle.ms_best.specs.declared.distances.Distances.{Distances}
use Rattle.ms_best.specs.inner.Automaton.{AreDistancesFrom}

-- the distances are those of an automaton's parts from a sign
pub record HoldsDistances (content : Content Sign) (sign : Sign) (kept : Distances) : Type 0 where
  pub states : kept.states ≡ length content.states
  pub nodes : kept.nodes ≡ length content.nodes
  pub right : AreDistancesFrom content sign kept.values.items
