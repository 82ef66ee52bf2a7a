-- A small grammar for worked examples: formulas of one letter, `~` before one, `>` between two, and lists with `&` and with `|`.
use Rattle.std.proofs.Common.{lit≤, refl}
use Rattle.std.specs.Prelude.{ℕ, suc, max, ◌≤◌, Bool, true, false, List, [], ◌∷◌, ◌++◌, length, Option, Some, None, codes, flat_map}
use Rattle.ms_text.specs.TokenList.{Lexed, token_at}
use Rattle.ms_text.specs.declared.mark.Mark.TheVariants.{OpenParenthesis}
use Rattle.ms_text.specs.declared.token.Kind.{Kind}
use Rattle.ms_text.specs.declared.token.Kind.TheVariants as kinds
use Rattle.ms_parse_stack.specs.declared.begun.Begun.{Begun}
use Rattle.ms_parse_stack.specs.declared.frame.Frame.TheVariants as code
use Rattle.ms_parse_stack.specs.declared.grammar.Grammar.{Ghosts}
use Rattle.ms_parse_stack.specs.declared.junction.Junction.{Junction}
use Rattle.ms_parse_stack.specs.declared.junction.Junction.TheVariants.{Conjunction, Disjunction}
use Rattle.ms_parse_stack.specs.declared.link.Link.{Link}
use Rattle.ms_parse_stack.specs.declared.link.Link.TheVariants as links
use Rattle.ms_parse_stack.specs.declared.operand.Operand as operands
use Rattle.ms_parse_stack.specs.declared.operand.Operands as operands_of
use Rattle.ms_parse_stack.specs.declared.outcome.Outcome as outcome
use Rattle.ms_parse_stack.specs.declared.outcome.Outcome.TheVariants as outcomes
use Rattle.ms_parse_stack.specs.declared.sign.Sign.TheVariants as signs
use Rattle.ms_parse_stack.specs.inner.Examples.{behind_brackets}
use Rattle.ms_parse_stack.specs.inner.Frames as frames
use Rattle.ms_parse_stack.specs.inner.Frames.{Operators, depth_of_each, in_brackets, behind_prefix}
use Rattle.ms_parse_stack.specs.inner.Machine as machines
use Rattle.ms_parse_stack.specs.inner.Machine.{Machine, moves, enters, follows}
use Rattle.ms_parse_stack.specs.inner.States.{CodeFrame}

pub data Prefix : Type 0 where
  tilde : Prefix

pub data Binary : Type 0 where
  arrow : Binary

-- the text of a formula, in which square brackets stand around what each operator makes, and its depth
pub record Formula : Type 0 where
  pub text : List ℕ
  pub depth : ℕ

abbrev pub formula : List ℕ → ℕ → Formula
formula text depth = record { text = text; depth = depth }

abbrev pub letter : Formula
letter = formula (codes "a") 1

abbrev pub sign_of : Junction → List ℕ
sign_of Conjunction = codes "&"
sign_of Disjunction = codes "|"

abbrev pub text_between : Junction → List Formula → List ℕ
text_between op [] = []
text_between op (f ∷ fs) = f.text ++ flat_map (λ g. sign_of op ++ g.text) fs

-- the levels: 1 `>`, which groups to the right, 2 `|`, 3 `&`, 4 `~`, 5 letters and brackets
abbrev pub junction_level : Junction → ℕ
junction_level Disjunction = 2
junction_level Conjunction = 3

abbrev pub operators : Operators Prefix Binary Formula
operators = record {
  brackets = λ f. formula (codes "(" ++ f.text ++ codes ")") (suc f.depth);
  prefixed = λ op f. formula (codes "[~" ++ f.text ++ codes "]") (suc f.depth);
  binary = λ op f g. formula (codes "[" ++ f.text ++ codes ">" ++ g.text ++ codes "]") (suc (max f.depth g.depth));
  joined = λ op fs. formula (codes "[" ++ text_between op fs ++ codes "]") (suc (depth_of_each (λ f. f.depth) fs));
  highest_level = 5;
  prefix_level = 4;
  prefix_operand = λ op. 4;
  binary_level = λ op. 1;
  left_level = λ op. 2;
  right_level = λ op. 1;
  junction_level = junction_level;
}

abbrev pub Frame : Type 0
Frame = frames.Frame Prefix Binary Formula

-- a place holds the operand that has been read, if none is wanted
abbrev pub Place : Type 0
Place = Option Formula

abbrev pub or_letter : Place → Formula
or_letter None = letter
or_letter (Some f) = f

abbrev pub sample : Machine Prefix Binary Place Formula
sample = record { operators = operators; wanted = None; holding = λ f. Some f; operand = λ p. p; completed = or_letter }

abbrev pub State : Type 0
State = machines.State Prefix Binary Place Formula

abbrev pub Action : Type 0
Action = machines.Action Prefix Binary Place Formula

-- where an operand is wanted

abbrev pub with_letter : Place → Option Place
with_letter None = Some (Some letter)
with_letter (Some f) = None

abbrev pub opening : Frame → Place → Option Frame
opening frame None = Some frame
opening frame (Some f) = None

-- what symbols do, as they are written

abbrev pub a : Action
a = moves with_letter

abbrev pub negated : Action
negated = enters (opening (behind_prefix tilde))

abbrev pub implies : Action
implies = follows (signs.Infix arrow)

abbrev pub and : Action
and = follows (signs.Joining Conjunction)

abbrev pub or : Action
or = follows (signs.Joining Disjunction)

abbrev pub open_bracket : Action
open_bracket = enters (opening in_brackets)

abbrev pub close_bracket : Action
close_bracket = follows signs.Close

abbrev pub semicolon : Action
semicolon = follows signs.End

-- the state behind a row
abbrev pub behind : List Action → State
behind row = machines.run sample (λ x. x) (machines.start sample) row

-- the grammar of that machine, whose formulas are these
abbrev pub grammar : Ghosts Formula Formula Prefix Binary
grammar = record { Tree = Formula; tree_of = λ f. f; depth = λ f. f.depth; Place = Place; machine = sample }

-- what the code holds of that grammar

abbrev pub Operand : Type 0
Operand = operands.Operand Formula Formula Prefix Binary grammar

abbrev pub read_letter : Operand
read_letter = record { formula = letter; height = 1; measured = refl; bounded = lit≤ tt }

abbrev pub one_operand : operands_of.Operands Formula Formula Prefix Binary grammar
one_operand = record { list = letter ∷ []; height = 1; measured = refl; bounded = lit≤ tt }

abbrev pub Outcome : Type 0
Outcome = outcome.Outcome Formula Formula Prefix Binary grammar

abbrev pub wanted : Outcome
wanted = outcomes.Wanted

abbrev pub holding : Outcome
holding = outcomes.Holding read_letter

abbrev pub finished : Outcome
finished = outcomes.Done read_letter

-- `a >` has been begun, with this depth
abbrev pub begun_with : ℕ → Begun (CodeFrame grammar)
begun_with deepest = record { frames = code.Infix arrow read_letter ∷ []; deepest = deepest }

abbrev pub further : Link Formula Formula Prefix Binary grammar
further = links.Further one_operand

abbrev pub other : Link Formula Formula Prefix Binary grammar
other = links.Other code.Brackets

-- Rows of brackets, which stand in one another up to a depth of two: `true` is a bracket that opens.

abbrev pub opens : Kind → List ℕ → Bool
opens (kinds.Mark OpenParenthesis) slice = true
opens _ slice = false

-- `(a`
abbrev pub bracket_a : Lexed
bracket_a = behind_brackets 1 (codes "a") (token_at kinds.Name 1 1 ∷ [])

abbrev pub AreOpen : List Bool → Type 0
AreOpen [] = Unit {0}
AreOpen (true ∷ row) = AreOpen row
AreOpen (false ∷ row) = ⊥

abbrev pub AreFew : List Bool → Type 0
AreFew row = AreOpen row × (length row ≤ 2)
