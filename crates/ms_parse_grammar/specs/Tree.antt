-- Expressions as mathematical trees. Forms that are written alike stand together: an operator before its operand,
-- between two operands, or between several; brackets around one expression, or around a list.
use Rattle.std.specs.Prelude.{ℕ, Bool, List, Option}
use Rattle.ms_list.specs.declared.at.At.{At}
use Rattle.ms_logic.specs.declared.mode.Mode.{Mode}
use Rattle.ms_logic.specs.declared.mode.Order.{Order}
use Rattle.ms_logic.specs.declared.mode.Quant.{Quant}
use Rattle.ms_logic.specs.declared.source.PlacedInt.{PlacedInt}
use Rattle.ms_logic.specs.declared.source.Rename.{Rename}
pub use Rattle.ms_parse_grammar.specs.declared.operator.Prefix.{Prefix}
pub use Rattle.ms_parse_grammar.specs.declared.operator.Prefix.TheVariants.{Negation, Minimum, Maximum}
pub use Rattle.ms_parse_grammar.specs.declared.operator.Binary.{Binary}
pub use Rattle.ms_parse_grammar.specs.declared.operator.Binary.TheVariants.{Implication, Equivalence, Relation, Union, Intersection, Difference}
pub use Rattle.ms_parse_grammar.specs.declared.operator.Junction.{Junction}
pub use Rattle.ms_parse_grammar.specs.declared.operator.Junction.TheVariants.{Conjunction, Disjunction}
pub use Rattle.ms_parse_grammar.specs.declared.operator.Bracket.{Bracket}
pub use Rattle.ms_parse_grammar.specs.declared.operator.Bracket.TheVariants.{Parentheses, Emptiness, Restriction, Export}
pub use Rattle.ms_parse_grammar.specs.declared.operator.Listing.{Listing}
pub use Rattle.ms_parse_grammar.specs.declared.operator.Listing.TheVariants.{Literal, Call}

-- an expression that holds no other
pub data Atom : Type 0 where
  truth : Atom
  falsity : Atom
  -- `$`
  whole : Atom
  empty_set : Atom
  named : (n : List ℕ) → Atom
  numeral : (n : ℕ) → Atom
  pconst : (n : PlacedInt) → Atom
  imported : (file : List ℕ) (pairs : List Rename) → Atom

-- Each list is read from the left: what stands before its last entry, and that entry.
mutual
  pub data Expression : Type 0 where
    atom : (at : At) (a : Atom) → Expression
    prefixed : (at : At) (op : Prefix) (e : Expression) → Expression
    binary : (at : At) (op : Binary) (l r : Expression) → Expression
    joined : (at : At) (op : Junction) (es : Expressions) → Expression
    -- `t + n` and `t - n`
    shifted : (at : At) (e : Expression) (n : PlacedInt) → Expression
    enclosed : (at : At) (b : Bracket) (e : Expression) → Expression
    listed : (at : At) (l : Listing) (es : Expressions) → Expression
    quantified : (at : At) (q : Quant) (o : Order) (vs : Variables) (body : Expression) → Expression
    let_in : (at : At) (o : Order) (parts : Parts) (body : Expression) → Expression

  pub data Expressions : Type 0 where
    no_expressions : Expressions
    and_expression : (before : Expressions) (last : Expression) → Expressions

  -- variables where they are declared or bound
  pub data Variables : Type 0 where
    no_variables : Variables
    and_variable : (before : Variables) (at : At) (o : Order) (n : List ℕ) (d : Domain) → Variables

  pub data Domain : Type 0 where
    unrestricted : Domain
    restricted : (d : Expression) → Domain

  -- the names of a `let` with their right sides
  pub data Parts : Type 0 where
    no_parts : Parts
    and_part : (before : Parts) (at : At) (n : List ℕ) (value : Expression) → Parts

pub data Declaration : Type 0 where
  variables : (vs : Variables) → Declaration
  constant : (at : At) (n : List ℕ) (sum : List PlacedInt) → Declaration
  -- `pred`, or where `is_pred` is false `macro`
  predicate : (is_pred : Bool) (at : At) (n : List ℕ) (parameters : Variables) (body : Expression) → Declaration
  included : (at : At) (file : List ℕ) → Declaration
  default_restriction : (o : Order) (n : List ℕ) (body : Expression) → Declaration
  formula : (e : Expression) → Declaration
  -- a formula under a title, with the place of the title's text
  goal : (at : At) (title : List ℕ) (e : Expression) → Declaration

-- a declaration, with the place of its first symbol
pub record Declared : Type 0 where
  pub at : At
  pub declaration : Declaration

-- a source: its header, if it has one, and its declarations
pub record Document : Type 0 where
  pub header : Option (At × Mode)
  pub declarations : List Declared
