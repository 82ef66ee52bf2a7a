-- What is tested of an expression, one level after the other: its symbols can be said, it is grammatical, it is no deeper
-- than there is room for, and where `in` is not free to stand, it stands only inside brackets.
use Rattle.std.specs.Prelude.{◌≡◌, ℕ, suc, ◌-◌, ◌<◌, ◌≤◌, Bool, true, false, not, ◌||◌, IsTrue}
use Rattle.ms_logic.specs.declared.source.Bound.{Bound}
use Rattle.ms_logic.specs.declared.source.LetPart.{LetPart}
use Rattle.ms_parse_grammar.specs.View.{variable_of, part_of}
use Rattle.ms_parse_grammar.specs.Symbol.{name}
use Rattle.ms_parse_grammar.specs.Reads.{int_symbol}
use Rattle.ms_parse_grammar.specs.Grammar.{left_level, right_level, operand_level, junction_level, level, ends_open, last_ends_open, is_in, IsVariableList, IsPartList, HasTwo, AreOfOrder}
use Rattle.ms_parse_grammar.specs.Tree.{Expression, atom, prefixed, binary, joined, shifted, enclosed, listed, quantified, let_in, Expressions, no_expressions, and_expression, Variables, no_variables, and_variable, Domain, unrestricted, restricted, Parts, no_parts, and_part}
use Rattle.ms_parse_print.specs.inner.Printed.{IsSpellable, AreSpellable, single, printed_atom, printed_opening, printed_list_opening}

abbrev mutual
  pub Passes : ℕ → Bool → Expression → Type 0
  Passes room free (atom at a) = (0 < room) × AreSpellable (printed_atom single a)
  Passes room free (prefixed at op e) = (0 < room) × (operand_level op ≤ level e) × Passes (room - 1) free e
  Passes room free (binary at op l r) =
      (0 < room) × IsTrue (not (is_in op) || free) × (left_level op ≤ level l) × (ends_open l ≡ false) × (right_level op ≤ level r)
      × Passes (room - 1) free l × Passes (room - 1) free r
  Passes room free (joined at op es) = (0 < room) × HasTwo es × OperandsPass (room - 1) free (suc (junction_level op)) es
  Passes room free (shifted at e n) = (0 < room) × (9 ≤ level e) × (ends_open e ≡ false) × IsSpellable (int_symbol n.value) × Passes (room - 1) free e
  Passes room free (enclosed at b e) = (0 < room) × AreSpellable (printed_opening single b) × Passes (room - 1) true e
  Passes room free (listed at l es) = (0 < room) × AreSpellable (printed_list_opening single l) × AllPass (room - 1) es
  Passes room free (quantified at q o vs body) = (0 < room) × IsVariableList vs × AreOfOrder o vs × VariablesPass (room - 1) free vs × Passes (room - 1) free body
  Passes room free (let_in at o parts body) = (0 < room) × IsPartList parts × PartsPass (room - 1) parts × Passes (room - 1) free body

  -- operands of `&` or `|`
  pub OperandsPass : ℕ → Bool → ℕ → Expressions → Type 0
  OperandsPass room free least no_expressions = Unit {0}
  OperandsPass room free least (and_expression before e) = OperandsPass room free least before × (last_ends_open before ≡ false) × (least ≤ level e) × Passes room free e

  -- entries of a list in brackets
  pub AllPass : ℕ → Expressions → Type 0
  AllPass room no_expressions = Unit {0}
  AllPass room (and_expression before e) = AllPass room before × Passes room true e

  pub DomainPasses : ℕ → Bool → Domain → Type 0
  DomainPasses room free unrestricted = Unit {0}
  DomainPasses room free (restricted d) = Passes room free d

  pub VariablesPass : ℕ → Bool → Variables → Type 0
  VariablesPass room free no_variables = Unit {0}
  VariablesPass room free (and_variable before at o n d) = VariablesPass room free before × IsSpellable (name n) × DomainPasses room free d

  pub PartsPass : ℕ → Parts → Type 0
  PartsPass room no_parts = Unit {0}
  PartsPass room (and_part before at n value) = PartsPass room before × IsSpellable (name n) × Passes room false value

-- a variable's name can be said, and its restriction passes
abbrev pub VariablePasses : ℕ → Bool → Bound → Type 0
VariablePasses room free bound = IsSpellable (name (variable_of bound).name) × DomainPasses room free (variable_of bound).domain

-- a part's name can be said, and its right side passes
abbrev pub PartPasses : ℕ → LetPart → Type 0
PartPasses room part = IsSpellable (name (part_of part).name) × Passes room false (part_of part).value
