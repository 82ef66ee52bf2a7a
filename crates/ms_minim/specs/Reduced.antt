-- What is left of a content where its states are reached and no two of them have equal residuals (Myhill, 1957; Nerode, 1958).
use Rattle.std.specs.Prelude.{◌≤◌, List, length}
use Rattle.ms_arena.specs.declared.node.Node.{Node}
use Rattle.ms_arena.specs.declared.node.Ref.{Ref}
use Rattle.ms_arena.specs.Diagram.{IsOrdered, IsReduced}
use Rattle.ms_dfa.specs.Automaton.{states_of}
use Rattle.ms_dfa.specs.declared.state.State.{State}
use Rattle.ms_logic_words.specs.declared.sign.Sign.{Sign}
use Rattle.ms_logic_words.specs.Content.{Content, IsClosed}
use Rattle.ms_logic_words.specs.Residual.{AreReached, HaveDifferentResiduals, HaveEqualSigns, HasFewestStates}

-- a content over the variables of another
abbrev pub content_over : Content Sign → List Node → Ref → List State → Content Sign
content_over content nodes start states = record { mode = content.mode; variables = content.variables; start = start; states = states_of states; nodes = nodes }

pub record IsReducedOf (content made : Content Sign) : Type 0 where
  pub ordered : IsOrdered made.nodes
  pub reduced : IsReduced made.nodes
  pub closed : IsClosed made
  pub few_states : length made.states ≤ 4294967295
  pub signs : HaveEqualSigns content made
  pub fewest : HasFewestStates made
  pub reached : AreReached made
  pub differ : HaveDifferentResiduals made
  pub no_more_nodes : length made.nodes ≤ length content.nodes
