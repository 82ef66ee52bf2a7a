-- The configurations of the automaton that the code's configurations stand for.
use Rattle.std.specs.Prelude.{◌≡◌, ℕ, List, Result, Ok, Err}
use Rattle.ms_text.specs.TokenList.{Lexed}
use Rattle.ms_parse_steps.specs.declared.context.Context.{Context}
use Rattle.ms_parse_steps.specs.declared.context.Signature.{Signature}
use Rattle.ms_parse_steps.specs.declared.context.Context.TheVariants as contexts
use Rattle.ms_parse_steps.specs.declared.parser.Parser.{Parser}
use Rattle.ms_parse_steps.specs.declared.configuration.Configuration.{Configuration}
use Rattle.ms_parse_steps.specs.declared.configuration.Configuration.TheVariants as states
use Rattle.ms_parse_steps.specs.declared.stop.Stop.{Stop}
use Rattle.ms_parse_steps.specs.inner.Machine as machine
use Rattle.ms_parse_steps.specs.inner.Machine.{Move, took}
use Rattle.ms_parse_steps.specs.inner.Outcomes.{outcome_of, StopsAs}
use Rattle.ms_parse_steps.specs.inner.Terminals.{behind}
use Rattle.ms_parse_steps.specs.inner.Stack.{stack_of}
use Rattle.ms_parse_grammar.specs.Tree.{Document}
use Rattle.ms_parse_grammar.specs.View.{variables_of, document_of}

abbrev pub head_of : Signature → machine.Head
head_of s = machine.head_with s.at s.is_pred s.at_name s.name

abbrev pub context_of : Document → Context → machine.Context
context_of d (contexts.Formula at) = machine.in_formula d at
context_of d (contexts.Global g v) = machine.in_global d g.at g.order (variables_of g.list) v.at v.name
context_of d (contexts.Parameter p) = machine.in_parameter d (head_of p.signature) (variables_of p.signature.parameters) p.order p.variable.at p.variable.name
context_of d (contexts.Predicate s) = machine.in_predicate d (head_of s) (variables_of s.parameters)
context_of d (contexts.Default at o n) = machine.in_default d at o n
context_of d (contexts.Goal at at_title title) = machine.in_goal d at at_title title

abbrev pub configuration_of : Document → List machine.Frame → Configuration → machine.Configuration
configuration_of d st states.Outside = machine.outside d
configuration_of d st (states.Expression c o) = outcome_of (context_of d c) st o
configuration_of d st (states.Global g) = machine.global_wanted d g.at g.order (variables_of g.list)
configuration_of d st (states.Parameter s) = machine.parameter_wanted d (head_of s) (variables_of s.parameters)
configuration_of d st (states.Summand k) = machine.summand_wanted d k.at k.at_name k.name k.sum

-- the step is taken, with what the parser holds then and from the token with this number on; or it is stuck
abbrev pub StepsAs : ℕ → Lexed → Move → Parser → Result (Configuration × ℕ) Stop → Type 0
StepsAs file lexed step parser (Ok (s, i)) = step ≡ took (configuration_of (document_of parser.source) (stack_of parser.stack.items) s) (behind file lexed i)
StepsAs file lexed step parser (Err stop) = StopsAs file lexed step stop
