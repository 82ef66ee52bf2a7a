-- The levels of the operators, and how deep the formulas are that they make.
use Rattle.std.proofs.Common.{◌≡◌, ℕ, suc, ◌≤◌, ◌⊎◌, refl, inl, inr, arith}
use Rattle.std.specs.Prelude.{nat_eq, if◌then◌else◌}
use Rattle.ms_presburger.specs.Tree.{depth}
use Rattle.ms_parse_stack.specs.declared.junction.Junction.{Junction}
use Rattle.ms_parse_stack.specs.declared.junction.Junction.TheVariants.{Conjunction}
use Rattle.ms_parse_stack.specs.inner.Frames.{filled}
use Rattle.ms_parse_stack.proofs.Depths as stacks
use Rattle.ms_parse_stack.proofs.Depths.{Depths}
use Rattle.ms_parse_stack.proofs.Fitting.{AreLevelled, Grouping, to_left, to_right, in_lists, left_of, right_of}
use Rattle.ms_presburger_parse.specs.Grammar.{binary_level, left_level, right_level, junction_level, prefix_level}
use Rattle.ms_presburger_parse.specs.declared.operator.Binary.{Binary}
use Rattle.ms_presburger_parse.specs.declared.operator.Binary.TheVariants.{Equivalence, Implication}
use Rattle.ms_presburger_parse.specs.declared.operator.Prefix.{Prefix}
use Rattle.ms_presburger_parse.specs.declared.operator.Prefix.TheVariants.{Negation, Quantifier}
use Rattle.ms_presburger_parse.specs.inner.Deep.{operators_deep}
use Rattle.ms_presburger_parse.specs.inner.Machine.{operators, prefix_operand}

-- 1 `<=>`, 2 `=>`, 3 `|`, 4 `&`
abbrev grouping : ℕ → Grouping
grouping n = if nat_eq n 1 then to_left else if nat_eq n 2 then to_right else in_lists

-- how an operator groups, and that it binds more loosely than one before its operand
infixes : (op : Binary) → (left_level op ≡ left_of (grouping (binary_level op)) (binary_level op)) × (right_level op ≡ right_of (grouping (binary_level op)) (binary_level op))
    × (grouping (binary_level op) ≡ in_lists → ⊥) × (suc (binary_level op) ≤ prefix_level)
infixes Equivalence = (refl, refl, λ same. cc, omega arith)
infixes _ = (refl, refl, λ same. cc, omega arith)

junctions : (op : Junction) → (grouping (junction_level op) ≡ in_lists) × (suc (junction_level op) ≤ prefix_level)
junctions Conjunction = (refl, omega arith)
junctions _ = (refl, omega arith)

infix_some : (op : Binary) → 1 ≤ binary_level op
infix_some Equivalence = omega arith
infix_some Implication = omega arith

prefix_operands : (p : Prefix) → (prefix_operand p ≡ prefix_level) ⊎ ((prefix_operand p ≡ 0) × ((op : Binary) → 1 ≤ binary_level op))
prefix_operands Negation = inl refl
prefix_operands (Quantifier q xs) = inr (refl, infix_some)

pub levelled : AreLevelled operators
levelled = record {
  grouping = grouping;
  left = λ op. (infixes op).0;
  right = λ op. (infixes op).1;
  single = λ op. (infixes op).2;
  lists = λ op. (junctions op).0;
  differ = λ same. omega (arith, same);
  prefix_operands = prefix_operands;
  infix_small = λ op. (infixes op).3;
  junction_small = λ op. (junctions op).1;
  prefix_small = omega arith;
}

-- an operator wants a left operand that does not end in an open body
pub left_some : (op : Binary) → 1 ≤ left_level op
left_some Equivalence = omega arith
left_some Implication = omega arith

-- the depths of this machine's formulas
abbrev pub depths : Depths (filled operators)
depths = stacks.depths operators depth operators_deep
