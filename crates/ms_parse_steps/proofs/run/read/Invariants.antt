use Rattle.std.proofs.Common.{length}
use Rattle.ms_parse_grammar.specs.Symbol.{symbols}
use Rattle.ms_parse_grammar.specs.View.{document_of}
use Rattle.ms_parse_steps.specs.inner.Terminals.{behind}
use Rattle.ms_parse_steps.specs.inner.Stack.{stack_of}
use Rattle.ms_parse_steps.specs.inner.Configurations.{configuration_of}
use Rattle.ms_parse_steps.proofs.Stopping.{Comes}
use Rattle.ms_parse_steps.proofs.run.read.Given as goal

-- the automaton has come here, and reads from here what it reads from the beginning
abbrev pub invariant-steps : goal.invariant-steps
invariant-steps l = Comes (symbols l.file l.tokens) (configuration_of (document_of l.parser.source) (stack_of l.parser.stack.items) l.state) (behind l.file l.tokens l.i)

abbrev pub decreases-steps : goal.decreases-steps
decreases-steps l = length (behind l.file l.tokens l.i)
