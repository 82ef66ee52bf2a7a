-- How deep the formulas are that operators make.
use Rattle.std.proofs.Common.{◌≡◌, suc, max, List, [], ◌∷◌, refl, ap, IfSome}
use Rattle.ms_presburger.specs.Tree.{Arithmetic, depth, depth_of_all}
use Rattle.ms_presburger.specs.View.{arithmetics}
use Rattle.ms_parse_stack.specs.declared.junction.Junction.{Junction}
use Rattle.ms_parse_stack.specs.declared.junction.Junction.TheVariants.{Conjunction, Disjunction}
use Rattle.ms_parse_stack.specs.inner.Frames.{AreDeep, depth_of_each}
use Rattle.ms_parse_stack.specs.inner.Machine.{IsDepth}
use Rattle.ms_presburger_parse.specs.declared.operator.Binary.{Binary}
use Rattle.ms_presburger_parse.specs.declared.operator.Binary.TheVariants.{Equivalence, Implication}
use Rattle.ms_presburger_parse.specs.declared.operator.Prefix.{Prefix}
use Rattle.ms_presburger_parse.specs.declared.operator.Prefix.TheVariants.{Negation, Quantifier}
use Rattle.ms_presburger_parse.specs.inner.Machine.{operators, machine, prefixed, binary, joined, operand, completed, Place, on_right, added, holding}

depth-prefixed : (op : Prefix) (f : Arithmetic) → depth (prefixed op f) ≡ suc (depth f)
depth-prefixed Negation f = refl
depth-prefixed (Quantifier q xs) f = refl

depth-binary : (op : Binary) (f g : Arithmetic) → depth (binary op f g) ≡ suc (max (depth f) (depth g))
depth-binary Equivalence f g = refl
depth-binary Implication f g = refl

depth-all : (fs : List Arithmetic) → depth_of_all (arithmetics fs) ≡ depth_of_each depth fs
depth-all [] = refl
depth-all (f ∷ fs) = ap (max (depth f)) (depth-all fs)

pub depth-joined : (op : Junction) (fs : List Arithmetic) → depth (joined op fs) ≡ suc (depth_of_each depth fs)
depth-joined Conjunction fs = ap suc (depth-all fs)
depth-joined Disjunction fs = ap suc (depth-all fs)

pub operators_deep : AreDeep operators depth
operators_deep = record { brackets_deep = λ f. refl; prefixed_deep = depth-prefixed; binary_deep = depth-binary; joined_deep = depth-joined }

-- a formula that may end is the shortest one
operand_deep : (p : Place) → IfSome (operand p) (λ f. completed p ≡ f)
operand_deep (added (on_right r left) before last) = refl
operand_deep (holding f) = refl
operand_deep _ = tt

pub deep : IsDepth machine depth
deep = record { operators_deep = operators_deep; wanted_deep = refl; holding_deep = λ f. refl; operand_deep = operand_deep }
