-- What holds at each assignment of some variables.
use Rattle.std.specs.Prelude.{◌≡◌, ◌≢◌, ℕ, ◌≤◌, ◌+◌, List, length}
use Rattle.ms_logic.specs.declared.mode.Order.TheVariants.{One}
use Rattle.ms_logic_words.specs.declared.sign.Sign.{Sign}
use Rattle.ms_logic_words.specs.declared.sign.Sign.TheVariants.{Yes}
use Rattle.ms_logic.specs.Assignment.{Variable}
use Rattle.ms_logic_words.specs.Content.{Content}
use Rattle.ms_dfa.specs.Automaton.{IsAutomaton}
use Rattle.ms_dfa.specs.Values.{Meaning, HasValues}
use Rattle.ms_logic.specs.Lists.{IsAmong}
use Rattle.ms_product.specs.Pairing.{ReachedAreAtLeast, operands_of}
use Rattle.ms_product.specs.declared.op.Op.TheVariants.{And}

-- Yes is right everywhere
abbrev pub always : Meaning
always e sign = sign ≡ Yes

-- the content is Yes at each assignment of the variables
pub record IsWhole (vs : List Variable) (content : Content Sign) : Type 0 where
  pub variables : content.variables ≡ vs
  pub values : HasValues always content

-- so is an automaton of few nodes and states
pub record IsSmallWhole (vs : List Variable) (content : Content Sign) : Type 0 where
  pub automaton : IsAutomaton content
  pub whole : IsWhole vs content
  pub few : length content.nodes + length content.states ≤ 32

-- none of the variables is a number
abbrev pub HasNoNumber : List Variable → Type 0
HasNoNumber vs = (v : Variable) → IsAmong vs v → v.order ≢ One

-- beside such an automaton over these variables the content needs, of pairs of states that are reached, at least so many states and nodes
abbrev pub ReachedBesideWhole : ℕ → List Variable → Content Sign → Type 0
ReachedBesideWhole count vs content = (other : Content Sign) × IsSmallWhole vs other × ReachedAreAtLeast count And (operands_of content other)
