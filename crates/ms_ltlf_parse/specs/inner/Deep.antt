-- How deep the formulas are that operators make.
use Rattle.std.proofs.Common.{◌≡◌, suc, max, List, [], ◌∷◌, refl, ap, IfSome}
use Rattle.ms_ltlf.specs.Tree.{Temporal, depth, depth_of_all}
use Rattle.ms_ltlf.specs.View.{temporals}
use Rattle.ms_parse_stack.specs.declared.junction.Junction.{Junction}
use Rattle.ms_parse_stack.specs.declared.junction.Junction.TheVariants.{Conjunction, Disjunction}
use Rattle.ms_parse_stack.specs.inner.Frames.{AreDeep, depth_of_each}
use Rattle.ms_parse_stack.specs.inner.Machine.{IsDepth}
use Rattle.ms_ltlf_parse.specs.declared.operator.Binary.{Binary}
use Rattle.ms_ltlf_parse.specs.declared.operator.Binary.TheVariants.{Equivalence}
use Rattle.ms_ltlf_parse.specs.declared.operator.Prefix.{Prefix}
use Rattle.ms_ltlf_parse.specs.declared.operator.Prefix.TheVariants.{Negation}
use Rattle.ms_ltlf_parse.specs.inner.Machine.{operators, machine, prefixed, binary, joined, operand, completed, Place, wanted, holding}

depth-prefixed : (op : Prefix) (f : Temporal) → depth (prefixed op f) ≡ suc (depth f)
depth-prefixed Negation f = refl
depth-prefixed _ f = refl

pub depth-binary : (op : Binary) (f g : Temporal) → depth (binary op f g) ≡ suc (max (depth f) (depth g))
depth-binary Equivalence f g = refl
depth-binary _ f g = refl

depth-all : (fs : List Temporal) → depth_of_all (temporals fs) ≡ depth_of_each depth fs
depth-all [] = refl
depth-all (f ∷ fs) = ap (max (depth f)) (depth-all fs)

pub depth-joined : (op : Junction) (fs : List Temporal) → depth (joined op fs) ≡ suc (depth_of_each depth fs)
depth-joined Conjunction fs = ap suc (depth-all fs)
depth-joined Disjunction fs = ap suc (depth-all fs)

pub operators_deep : AreDeep operators depth
operators_deep = record { brackets_deep = λ f. refl; prefixed_deep = depth-prefixed; binary_deep = depth-binary; joined_deep = depth-joined }

operand_deep : (p : Place) → IfSome (operand p) (λ f. completed p ≡ f)
operand_deep wanted = tt
operand_deep (holding f) = refl

pub deep : IsDepth machine depth
deep = record { operators_deep = operators_deep; wanted_deep = refl; holding_deep = λ f. refl; operand_deep = operand_deep }
