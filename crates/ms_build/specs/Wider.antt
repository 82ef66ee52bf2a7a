-- Automata over more variables.
use Rattle.std.specs.Prelude.{◌≡◌, ◌↔◌, ◌⊎◌, List}
use Rattle.ms_logic_words.specs.declared.sign.Sign.{Sign}
use Rattle.ms_logic.specs.Assignment.{Variable}
use Rattle.ms_logic_words.specs.Content.{Content}
use Rattle.ms_dfa.specs.Values.{HasValues, own_meaning}
use Rattle.ms_logic.specs.Lists.{IsAmong}

-- the values of a content, over its variables and these
pub record IsWider (content : Content Sign) (more : List Variable) (made : Content Sign) : Type 0 where
  pub mode_is : made.mode ≡ content.mode
  pub variables : (v : Variable) → IsAmong made.variables v ↔ (IsAmong content.variables v ⊎ IsAmong more v)
  pub values : HasValues (own_meaning content) made
