-- The machine that reads symbols from left to right: what operators make, where it stands in the innermost formula, and what each symbol
-- does.
use Rattle.std.specs.Prelude.{ℕ, if◌then◌else◌, List, [], ◌∷◌, ◌++◌, Option, Some, None, codes}
use Rattle.ms_logic.specs.declared.mode.Quant.{Quant}
use Rattle.ms_logic.specs.declared.mode.Rel.{Rel}
use Rattle.ms_logic.specs.declared.mode.Rel.TheVariants.{Equal}
use Rattle.ms_presburger.specs.declared.linear.Part.{Part}
use Rattle.ms_presburger.specs.declared.linear.Part.TheVariants.{Number, Var, Times}
use Rattle.ms_presburger.specs.Tree.{Arithmetic, truth, falsity, comparison, brackets, negation, conjunction, disjunction, implication, equivalence, quantified}
use Rattle.ms_presburger.specs.View.{arithmetics}
use Rattle.ms_parse_stack.specs.inner.Frames as frames
use Rattle.ms_parse_stack.specs.inner.Frames.{Operators, in_brackets, behind_prefix}
use Rattle.ms_parse_stack.specs.inner.Machine as machines
use Rattle.ms_parse_stack.specs.inner.Machine.{Machine, moves, enters, follows, stops}
use Rattle.ms_parse_stack.specs.declared.sign.Sign.TheVariants as signs
use Rattle.ms_presburger_parse.specs.Grammar.{binary_level, left_level, right_level, junction_level, prefix_level, compares}
use Rattle.ms_presburger_parse.specs.Symbol.{Symbol, name, number, word_true, word_false, quantifier, negation_sign, infix_operator, joining, relation, plus, comma, colon, open_bracket, close_bracket, semicolon, other}
use Rattle.ms_presburger_parse.specs.declared.operator.Binary.{Binary}
use Rattle.ms_presburger_parse.specs.declared.operator.Binary.TheVariants.{Equivalence, Implication}
use Rattle.ms_presburger_parse.specs.declared.operator.Prefix.{Prefix}
use Rattle.ms_presburger_parse.specs.declared.operator.Prefix.TheVariants.{Negation, Quantifier}
use Rattle.ms_parse_stack.specs.declared.junction.Junction.{Junction}
use Rattle.ms_parse_stack.specs.declared.junction.Junction.TheVariants.{Conjunction, Disjunction}

-- what an operator before its operand makes
abbrev pub prefixed : Prefix → Arithmetic → Arithmetic
prefixed Negation f = negation f
prefixed (Quantifier q xs) f = quantified q xs f

-- the body of a quantifier is any formula
abbrev pub prefix_operand : Prefix → ℕ
prefix_operand Negation = prefix_level
prefix_operand (Quantifier q xs) = 0

-- what an operator between two operands makes
abbrev pub binary : Binary → Arithmetic → Arithmetic → Arithmetic
binary Equivalence f g = equivalence f g
binary Implication f g = implication f g

-- what `&` and `|` make of their operands
abbrev pub joined : Junction → List Arithmetic → Arithmetic
joined Conjunction fs = conjunction (arithmetics fs)
joined Disjunction fs = disjunction (arithmetics fs)

-- the operators, with their levels
abbrev pub operators : Operators Prefix Binary Arithmetic
operators = record {
  brackets = brackets;
  prefixed = prefixed;
  binary = binary;
  joined = joined;
  highest_level = 6;
  prefix_level = prefix_level;
  prefix_operand = prefix_operand;
  binary_level = binary_level;
  left_level = left_level;
  right_level = right_level;
  junction_level = junction_level;
}

-- a formula that has been begun, up to the operand that follows
abbrev pub Frame : Type 0
Frame = frames.Frame Prefix Binary Arithmetic

-- which sum of a comparison is read
pub data Side : Type 0 where
  on_left : Side
  -- the left sum, and the relation behind it
  on_right : (r : Rel) (left : List Part) → Side

-- where the machine stands in the innermost formula
pub data Place : Type 0 where
  -- a formula is wanted
  wanted : Place
  -- a name is wanted behind a quantifier and these names
  naming : (q : Quant) (xs : List (List ℕ)) → Place
  -- a name has been read behind a quantifier, the last of these
  named : (q : Quant) (xs : List (List ℕ)) → Place
  -- a part of a sum is wanted, behind these
  adding : (side : Side) (parts : List Part) → Place
  -- a part of a sum has been read, the last one
  added : (side : Side) (before : List Part) (last : Part) → Place
  -- a formula has been read
  holding : (f : Arithmetic) → Place

-- the formula that has been read, if it may end here
abbrev pub operand : Place → Option Arithmetic
operand (added (on_right r left) before last) = Some (comparison r left (before ++ last ∷ []))
operand (holding f) = Some f
operand _ = None

-- what single symbols do within the innermost formula

abbrev pub with_number : ℕ → Place → Option Place
with_number n wanted = Some (added on_left [] (Number n))
with_number n (adding side parts) = Some (added side parts (Number n))
with_number n _ = None

-- a name behind a number is multiplied with it
abbrev pub times : Side → List Part → List ℕ → Part → Option Place
times side before x (Number n) = Some (added side before (Times n x))
times side before x (Var y) = None
times side before x (Times n y) = None

abbrev pub with_name : List ℕ → Place → Option Place
with_name x wanted = Some (added on_left [] (Var x))
with_name x (naming q xs) = Some (named q (xs ++ x ∷ []))
with_name x (adding side parts) = Some (added side parts (Var x))
with_name x (added side before last) = times side before x last
with_name x _ = None

abbrev pub with_plus : Place → Option Place
with_plus (added side before last) = Some (adding side (before ++ last ∷ []))
with_plus _ = None

abbrev pub with_relation : Rel → Place → Option Place
with_relation r (added on_left before last) = if compares r then Some (adding (on_right r (before ++ last ∷ [])) []) else None
with_relation r _ = None

abbrev pub with_quantifier : Quant → Place → Option Place
with_quantifier q wanted = Some (naming q [])
with_quantifier q _ = None

abbrev pub with_comma : Place → Option Place
with_comma (named q xs) = Some (naming q xs)
with_comma _ = None

-- a formula of one symbol
abbrev pub with_leaf : Arithmetic → Place → Option Place
with_leaf f wanted = Some (holding f)
with_leaf f _ = None

-- what begins a frame

abbrev pub opening : Frame → Place → Option Frame
opening frame wanted = Some frame
opening frame _ = None

abbrev pub body : Place → Option Frame
body (named q xs) = Some (behind_prefix (Quantifier q xs))
body _ = None

-- What the shortest row of symbols makes of the innermost formula that goes on so: with `true` for a formula that is wanted, `x`
-- for a name, 0 for a part of a sum, and `= 0` behind a left sum.

abbrev pub compared : Side → List Part → Arithmetic
compared on_left parts = comparison Equal parts (Number 0 ∷ [])
compared (on_right r left) parts = comparison r left parts

abbrev pub completed : Place → Arithmetic
completed wanted = truth
completed (naming q xs) = quantified q (xs ++ codes "x" ∷ []) truth
completed (named q xs) = quantified q xs truth
completed (adding side parts) = compared side (parts ++ Number 0 ∷ [])
completed (added side before last) = compared side (before ++ last ∷ [])
completed (holding f) = f

-- a state of the machine
abbrev pub State : Type 0
State = machines.State Prefix Binary Place Arithmetic

-- what a symbol can do
abbrev pub Action : Type 0
Action = machines.Action Prefix Binary Place Arithmetic

-- the operators and the places
abbrev pub machine : Machine Prefix Binary Place Arithmetic
machine = record { operators = operators; wanted = wanted; holding = holding; operand = operand; completed = completed }

-- what a symbol does
abbrev pub action : Symbol → Action
action (name x) = moves (with_name x)
action (number n) = moves (with_number n)
action word_true = moves (with_leaf truth)
action word_false = moves (with_leaf falsity)
action (quantifier q) = moves (with_quantifier q)
action negation_sign = enters (opening (behind_prefix Negation))
action (infix_operator op) = follows (signs.Infix op)
action (joining op) = follows (signs.Joining op)
action (relation r) = moves (with_relation r)
action plus = moves with_plus
action comma = moves with_comma
action colon = enters body
action open_bracket = enters (opening in_brackets)
action close_bracket = follows signs.Close
action semicolon = follows signs.End
action other = stops

-- the state behind one symbol more
abbrev pub step : State → Symbol → State
step s x = machines.performed machine (action x) s

-- the state behind some symbols more
abbrev pub run : State → List Symbol → State
run s xs = machines.run machine action s xs

-- the state before the first symbol
abbrev pub start : State
start = machines.start machine

-- the formula of the shortest row of symbols that begins so
abbrev pub shortest : State → Arithmetic
shortest s = machines.shortest machine s
