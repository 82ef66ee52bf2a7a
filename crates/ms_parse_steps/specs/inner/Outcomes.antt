-- The configurations of the automaton that the code's outcomes stand for, and when the code does what the automaton does.
use Rattle.std.specs.Prelude.{◌≡◌, ℕ, List, Result}
use Rattle.std.specs.Prelude.{Ok, Err}
use Rattle.ms_text.specs.TokenList.{Lexed}
use Rattle.ms_parse_grammar.specs.Symbol.{Placed}
use Rattle.ms_parse_steps.specs.declared.frame.Frame.{Frame}
use Rattle.ms_parse_steps.specs.declared.outcome.Outcome.{Outcome}
use Rattle.ms_parse_steps.specs.declared.outcome.Outcome.TheVariants as outcomes
use Rattle.ms_parse_steps.specs.declared.stop.Stop.{Stop}
use Rattle.ms_parse_steps.specs.declared.stop.Stop.TheVariants.{Memory, Refused, TooDeep}
use Rattle.ms_parse_steps.specs.inner.Machine as machine
use Rattle.ms_parse_steps.specs.inner.Machine.{Move, took, misplaced, too_deep}
use Rattle.ms_parse_steps.specs.inner.Terminals.{behind}
use Rattle.ms_parse_steps.specs.inner.Stack.{stack_of}
use Rattle.ms_parse_grammar.specs.View.{expression_of, variables_of, parts_of}

abbrev pub outcome_of : machine.Context → List machine.Frame → Outcome → machine.Configuration
outcome_of c st outcomes.Wanted = machine.wanted c st
outcome_of c st (outcomes.Holding operand) = machine.holding c (expression_of operand.expr) st
outcome_of c st (outcomes.Variable b) = machine.variable_wanted c st b.at b.quant b.order (variables_of b.bounds.list)
outcome_of c st (outcomes.Part l) = machine.part_wanted c st l.at l.order (parts_of l.parts.list)
outcome_of c st (outcomes.Pair at file pairs) = machine.pair_wanted c st at file pairs

-- the step is stuck, at the token with this number, or memory is wanting
abbrev pub StopsAs : ℕ → Lexed → Move → Stop → Type 0
StopsAs file lexed step Memory = Unit {0}
StopsAs file lexed step (Refused i) = step ≡ misplaced (behind file lexed i)
StopsAs file lexed step (TooDeep i) = step ≡ too_deep (behind file lexed i)

-- the step is taken, with this stack and from the token with this number on; or it is stuck
abbrev pub ActsAs : machine.Context → ℕ → Lexed → Move → List Frame → Result (Outcome × ℕ) Stop → Type 0
ActsAs c file lexed step frames (Ok (o, i)) = step ≡ took (outcome_of c (stack_of frames) o) (behind file lexed i)
ActsAs c file lexed step frames (Err stop) = StopsAs file lexed step stop

-- the step goes on with what has been read, from the token with this number on; or it is stuck
abbrev pub Continues : {X : Type 0} → ℕ → Lexed → Move → (X → List Placed → Move) → Result (X × ℕ) Stop → Type 0
Continues file lexed step further (Ok (x, i)) = step ≡ further x (behind file lexed i)
Continues file lexed step further (Err stop) = StopsAs file lexed step stop

-- the step goes on from the token with this number on; or it is stuck
abbrev pub GoesOn : ℕ → Lexed → Move → (List Placed → Move) → Result ℕ Stop → Type 0
GoesOn file lexed step further (Ok i) = step ≡ further (behind file lexed i)
GoesOn file lexed step further (Err stop) = StopsAs file lexed step stop
