-- The levels of the operators, and how deep the formulas are that they make.
use Rattle.std.proofs.Common.{◌≡◌, ℕ, suc, ◌≤◌, List, refl, inl, arith}
use Rattle.std.specs.Prelude.{nat_eq, if◌then◌else◌}
use Rattle.ms_ltlf.specs.Tree.{Temporal, depth}
use Rattle.ms_parse_stack.specs.declared.junction.Junction.{Junction}
use Rattle.ms_parse_stack.specs.declared.junction.Junction.TheVariants.{Conjunction, Disjunction}
use Rattle.ms_parse_stack.specs.inner.Frames.{filled}
use Rattle.ms_parse_stack.proofs.Depths as stacks
use Rattle.ms_parse_stack.proofs.Depths.{Depths}
use Rattle.ms_parse_stack.proofs.Fitting.{AreLevelled, Grouping, to_left, to_right, in_lists, left_of, right_of}
use Rattle.ms_ltlf_parse.specs.Grammar.{binary_level, left_level, right_level, junction_level, prefix_level, level}
use Rattle.ms_ltlf_parse.specs.declared.operator.Binary.{Binary}
use Rattle.ms_ltlf_parse.specs.declared.operator.Binary.TheVariants.{Equivalence}
use Rattle.ms_ltlf_parse.specs.declared.operator.Prefix.{Prefix}
use Rattle.ms_ltlf_parse.specs.declared.operator.Prefix.TheVariants.{Negation}
use Rattle.ms_ltlf_parse.specs.inner.Deep.{operators_deep}
use Rattle.ms_ltlf_parse.specs.inner.Machine.{operators, prefixed, binary, joined}

-- 0 `<=>`, 1 `=>`, 2 `|`, 3 `&`, 4 `U` and `R`
abbrev grouping : ℕ → Grouping
grouping n = if nat_eq n 0 then to_left else if nat_eq n 2 then in_lists else if nat_eq n 3 then in_lists else to_right

-- how an operator groups, and that it binds more loosely than one before its operand
infixes : (op : Binary) → (left_level op ≡ left_of (grouping (binary_level op)) (binary_level op)) × (right_level op ≡ right_of (grouping (binary_level op)) (binary_level op))
    × (grouping (binary_level op) ≡ in_lists → ⊥) × (suc (binary_level op) ≤ prefix_level)
infixes Equivalence = (refl, refl, λ same. cc, omega arith)
infixes _ = (refl, refl, λ same. cc, omega arith)

junctions : (op : Junction) → (grouping (junction_level op) ≡ in_lists) × (suc (junction_level op) ≤ prefix_level)
junctions Conjunction = (refl, omega arith)
junctions _ = (refl, omega arith)

pub levelled : AreLevelled operators
levelled = record {
  grouping = grouping;
  left = λ op. (infixes op).0;
  right = λ op. (infixes op).1;
  single = λ op. (infixes op).2;
  lists = λ op. (junctions op).0;
  differ = λ same. omega (arith, same);
  prefix_operands = λ p. inl refl;
  infix_small = λ op. (infixes op).3;
  junction_small = λ op. (junctions op).1;
  prefix_small = omega arith;
}

pub level-prefixed : (op : Prefix) (f : Temporal) → level (prefixed op f) ≡ prefix_level
level-prefixed Negation f = refl
level-prefixed _ f = refl

pub level-binary : (op : Binary) (f g : Temporal) → level (binary op f g) ≡ binary_level op
level-binary Equivalence f g = refl
level-binary _ f g = refl

pub level-joined : (op : Junction) (fs : List Temporal) → level (joined op fs) ≡ junction_level op
level-joined Conjunction fs = refl
level-joined Disjunction fs = refl

-- the depths of this machine's formulas
abbrev pub depths : Depths (filled operators)
depths = stacks.depths operators depth operators_deep
