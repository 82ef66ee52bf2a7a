-- How tightly a formula binds for what stands behind it: not at all where it ends with the body of a quantifier.
use Rattle.std.proofs.Common.{◌≡◌, ℕ, suc, ◌≤◌, min, false, List, [], ◌∷◌, ◌++◌, refl, arith}
use Rattle.ms_presburger.specs.Tree.{Arithmetic, truth, falsity, comparison, brackets, negation, conjunction, disjunction, implication, equivalence, quantified, Arithmetics, no_arithmetics, more_arithmetics}
use Rattle.ms_presburger_parse.specs.Grammar.{binary_level, junction_level, prefix_level, level, ends_open, last_ends_open, IsGrammatical, AreOperands}
use Rattle.ms_presburger_parse.specs.declared.operator.Binary.{Binary}
use Rattle.ms_presburger_parse.specs.declared.operator.Binary.TheVariants.{Equivalence, Implication}
use Rattle.ms_parse_stack.specs.declared.junction.Junction.{Junction}
use Rattle.ms_parse_stack.specs.declared.junction.Junction.TheVariants.{Conjunction, Disjunction}
use Rattle.ms_presburger.specs.View.{arithmetics}
use Rattle.ms_presburger_parse.specs.declared.operator.Prefix.{Prefix}
use Rattle.ms_presburger_parse.specs.declared.operator.Prefix.TheVariants.{Negation, Quantifier}
use Rattle.ms_presburger_parse.specs.inner.Machine.{prefixed, prefix_operand, binary, joined}

-- a symbol that wants a left operand of a level takes the whole formula where its strength is that level
abbrev mutual
  pub strength : Arithmetic → ℕ
  strength truth = 6
  strength falsity = 6
  strength (comparison r left right) = 6
  strength (brackets f) = 6
  strength (negation f) = min prefix_level (strength f)
  strength (conjunction fs) = min (junction_level Conjunction) (strength_of_last fs)
  strength (disjunction fs) = min (junction_level Disjunction) (strength_of_last fs)
  strength (implication f g) = min (binary_level Implication) (strength g)
  strength (equivalence f g) = min (binary_level Equivalence) (strength g)
  strength (quantified q xs f) = 0

  pub strength_of_last : Arithmetics → ℕ
  strength_of_last no_arithmetics = 6
  strength_of_last (more_arithmetics f no_arithmetics) = strength f
  strength_of_last (more_arithmetics f (more_arithmetics g fs)) = strength_of_last (more_arithmetics g fs)

pub strength_level : (f : Arithmetic) → strength f ≤ level f
strength_level truth = omega arith
strength_level falsity = omega arith
strength_level (comparison r left right) = omega arith
strength_level (brackets f) = omega arith
strength_level (negation f) = omega arith
strength_level (conjunction fs) = omega arith
strength_level (disjunction fs) = omega arith
strength_level (implication f g) = omega arith
strength_level (equivalence f g) = omega arith
strength_level (quantified q xs f) = omega arith

mutual
  pub strength_closed : (f : Arithmetic) → 1 ≤ strength f → ends_open f ≡ false
  strength_closed truth h = refl
  strength_closed falsity h = refl
  strength_closed (comparison r left right) h = refl
  strength_closed (brackets f) h = refl
  strength_closed (negation f) h = strength_closed f (omega arith)
  strength_closed (conjunction fs) h = last_closed fs (omega arith)
  strength_closed (disjunction fs) h = last_closed fs (omega arith)
  strength_closed (implication f g) h = strength_closed g (omega arith)
  strength_closed (equivalence f g) h = strength_closed g (omega arith)
  strength_closed (quantified q xs f) h = absurd (omega arith)

  last_closed : (fs : Arithmetics) → 1 ≤ strength_of_last fs → last_ends_open fs ≡ false
  last_closed no_arithmetics h = refl
  last_closed (more_arithmetics f no_arithmetics) h = strength_closed f h
  last_closed (more_arithmetics f (more_arithmetics g fs)) h = last_closed (more_arithmetics g fs) h

mutual
  pub closed_strength : (f : Arithmetic) → IsGrammatical f → ends_open f ≡ false → level f ≤ strength f
  closed_strength truth good h = omega arith
  closed_strength falsity good h = omega arith
  closed_strength (comparison r left right) good h = omega arith
  closed_strength (brackets f) good h = omega arith
  closed_strength (negation f) good h = omega (arith, good.0, closed_strength f good.1 h)
  closed_strength (conjunction fs) good h = omega (arith, closed_last (suc (junction_level Conjunction)) fs (omega arith) good.1 h)
  closed_strength (disjunction fs) good h = omega (arith, closed_last (suc (junction_level Disjunction)) fs (omega arith) good.1 h)
  closed_strength (implication f g) good h = omega (arith, good.3, closed_strength g good.4 h)
  closed_strength (equivalence f g) good h = omega (arith, good.3, closed_strength g good.4 h)
  closed_strength (quantified q xs f) good h = absurd cc

  closed_last : (least : ℕ) (fs : Arithmetics) → least ≤ 6 → AreOperands least fs → last_ends_open fs ≡ false → least ≤ strength_of_last fs
  closed_last least no_arithmetics small good h = small
  closed_last least (more_arithmetics f no_arithmetics) small good h = omega (arith, good.0, closed_strength f good.2 h)
  closed_last least (more_arithmetics f (more_arithmetics g fs)) small good h = closed_last least (more_arithmetics g fs) small good.3 h

pub strength-prefixed : (op : Prefix) (f : Arithmetic) → strength (prefixed op f) ≡ min (prefix_operand op) (strength f)
strength-prefixed Negation f = refl
strength-prefixed (Quantifier q xs) f = omega arith

pub strength-binary : (op : Binary) (f g : Arithmetic) → strength (binary op f g) ≡ min (binary_level op) (strength g)
strength-binary Equivalence f g = refl
strength-binary Implication f g = refl

strength-last : (fs : List Arithmetic) (g : Arithmetic) → strength_of_last (arithmetics (fs ++ g ∷ [])) ≡ strength g
strength-last [] g = refl
strength-last (f ∷ []) g = refl
strength-last (f ∷ f' ∷ fs) g = strength-last (f' ∷ fs) g

pub strength-joined : (op : Junction) (fs : List Arithmetic) (g : Arithmetic) → strength (joined op (fs ++ g ∷ [])) ≡ min (junction_level op) (strength g)
strength-joined Conjunction fs g = omega (arith, strength-last fs g)
strength-joined Disjunction fs g = omega (arith, strength-last fs g)
