-- The machine that reads symbols from left to right: what operators make, the places in the innermost formula, and what each symbol does.
use Rattle.std.specs.Prelude.{ℕ, List, Option, Some, None}
use Rattle.ms_ltlf.specs.Tree.{Temporal, truth, falsity, proposition, brackets, negation, conjunction, disjunction, implication, equivalence, next, weak_next, eventually, always, until, release}
use Rattle.ms_ltlf.specs.View.{temporals}
use Rattle.ms_parse_stack.specs.inner.Frames as frames
use Rattle.ms_parse_stack.specs.inner.Frames.{Operators, in_brackets, behind_prefix}
use Rattle.ms_parse_stack.specs.inner.Machine as machines
use Rattle.ms_parse_stack.specs.inner.Machine.{Machine, moves, enters, follows, stops}
use Rattle.ms_parse_stack.specs.declared.sign.Sign.TheVariants as signs
use Rattle.ms_ltlf_parse.specs.Grammar.{binary_level, left_level, right_level, junction_level, prefix_level}
use Rattle.ms_ltlf_parse.specs.Symbol.{Symbol, name, word_true, word_false, prefix_operator, infix_operator, joining, open_bracket, close_bracket, semicolon, other}
use Rattle.ms_ltlf_parse.specs.declared.operator.Binary.{Binary}
use Rattle.ms_ltlf_parse.specs.declared.operator.Binary.TheVariants.{Equivalence, Implication, Until, Release}
use Rattle.ms_parse_stack.specs.declared.junction.Junction.{Junction}
use Rattle.ms_parse_stack.specs.declared.junction.Junction.TheVariants.{Conjunction, Disjunction}
use Rattle.ms_ltlf_parse.specs.declared.operator.Prefix.{Prefix}
use Rattle.ms_ltlf_parse.specs.declared.operator.Prefix.TheVariants.{Negation, Next, WeakNext, Eventually, Always}

-- what an operator before its operand makes
abbrev pub prefixed : Prefix → Temporal → Temporal
prefixed Negation f = negation f
prefixed Next f = next f
prefixed WeakNext f = weak_next f
prefixed Eventually f = eventually f
prefixed Always f = always f

-- what an operator between two operands makes
abbrev pub binary : Binary → Temporal → Temporal → Temporal
binary Equivalence f g = equivalence f g
binary Implication f g = implication f g
binary Until f g = until f g
binary Release f g = release f g

-- what `&` and `|` make of their operands
abbrev pub joined : Junction → List Temporal → Temporal
joined Conjunction fs = conjunction (temporals fs)
joined Disjunction fs = disjunction (temporals fs)

-- the operators, with their levels
abbrev pub operators : Operators Prefix Binary Temporal
operators = record {
  brackets = brackets;
  prefixed = prefixed;
  binary = binary;
  joined = joined;
  highest_level = 6;
  prefix_level = prefix_level;
  prefix_operand = λ op. prefix_level;
  binary_level = binary_level;
  left_level = left_level;
  right_level = right_level;
  junction_level = junction_level;
}

-- where the machine stands in the innermost formula
pub data Place : Type 0 where
  -- an operand is wanted
  wanted : Place
  -- an operand has been read
  holding : (f : Temporal) → Place

-- a formula that has been begun, up to the operand that follows
abbrev pub Frame : Type 0
Frame = frames.Frame Prefix Binary Temporal

-- a state of the machine
abbrev pub State : Type 0
State = machines.State Prefix Binary Place Temporal

-- what a symbol can do
abbrev pub Action : Type 0
Action = machines.Action Prefix Binary Place Temporal

-- the formula that has been read
abbrev pub operand : Place → Option Temporal
operand wanted = None
operand (holding f) = Some f

-- the shortest formula that goes on so, with `true` for an operand that is wanted
abbrev pub completed : Place → Temporal
completed wanted = truth
completed (holding f) = f

-- the operators and the places
abbrev pub machine : Machine Prefix Binary Place Temporal
machine = record { operators = operators; wanted = wanted; holding = holding; operand = operand; completed = completed }

-- an operand of one symbol
abbrev pub leaf : Temporal → Place → Option Place
leaf f wanted = Some (holding f)
leaf f (holding g) = None

-- the frame that a symbol begins where an operand is wanted
abbrev pub opened : Frame → Place → Option Frame
opened frame wanted = Some frame
opened frame (holding g) = None

-- what a symbol does, where each name has a number
abbrev pub action : (List ℕ → ℕ) → Symbol → Action
action number (name n) = moves (leaf (proposition (number n)))
action number word_true = moves (leaf truth)
action number word_false = moves (leaf falsity)
action number (prefix_operator op) = enters (opened (behind_prefix op))
action number (infix_operator op) = follows (signs.Infix op)
action number (joining op) = follows (signs.Joining op)
action number open_bracket = enters (opened in_brackets)
action number close_bracket = follows signs.Close
action number semicolon = follows signs.End
action number other = stops

-- the state behind one symbol more
abbrev pub step : (List ℕ → ℕ) → State → Symbol → State
step number s x = machines.performed machine (action number x) s

-- the state behind some symbols more
abbrev pub run : (List ℕ → ℕ) → State → List Symbol → State
run number s xs = machines.run machine (action number) s xs

-- the state before the first symbol
abbrev pub start : State
start = machines.start machine

-- the formula of the shortest row of symbols that begins so
abbrev pub shortest : State → Temporal
shortest s = machines.shortest machine s
