-- The operands of a connective.
use Rattle.std.proofs.Common.{◌≡◌, ℕ, ◌<◌, ◌≤◌, zero, suc, List, [], ◌∷◌, length, get_or, map, refl, sym, ◌∙◌, ap, arith}
use Rattle.ms_logic.specs.Tree.{Form, more_forms}
use Rattle.ms_logic.specs.Tree as string
use Rattle.ms_logic.specs.View.{forms}
use Rattle.ms_ltlf.specs.declared.trace.Ltl.{Ltl}
use Rattle.ms_ltlf.specs.declared.trace.Ltl.TheVariants.{And, Or}
use Rattle.ms_ltlf.specs.Tree.{Temporal, depth, depth_of_all}
use Rattle.ms_ltlf.specs.View.{temporal_of, temporals}
use Rattle.ms_ltlf.specs.Strings.{string_form, string_forms}
use Rattle.ms_ltlf.proofs.Views.{temporal_of-And, temporal_of-Or}

-- each is translated by itself
forms-translated : (operands : List Ltl) (x : ℕ) → forms (map (λ operand. string_form (temporal_of operand) x) operands) ≡ string_forms (temporals (map temporal_of operands)) x
forms-translated [] x = refl
forms-translated (f ∷ fs) x = ap (more_forms (string_form (temporal_of f) x)) (forms-translated fs x)

pub all-translated : (operands : List Ltl) (f : Ltl) (x : ℕ) → f ≡ And operands →
    string.conjunction (forms (map (λ operand. string_form (temporal_of operand) x) operands)) ≡ string_form (temporal_of f) x
all-translated operands f x is =
    ap string.conjunction (forms-translated operands x) ∙ ap (λ (g : Temporal). string_form g x) (sym (ap temporal_of is ∙ temporal_of-And operands))

pub some-translated : (operands : List Ltl) (f : Ltl) (x : ℕ) → f ≡ Or operands →
    string.disjunction (forms (map (λ operand. string_form (temporal_of operand) x) operands)) ≡ string_form (temporal_of f) x
some-translated operands f x is =
    ap string.disjunction (forms-translated operands x) ∙ ap (λ (g : Temporal). string_form g x) (sym (ap temporal_of is ∙ temporal_of-Or operands))

-- none is deeper than the list
pub depth-operand : (operands : List Ltl) (i : ℕ) (f : Ltl) → i < length operands → f ≡ get_or operands i f → depth (temporal_of f) ≤ depth_of_all (temporals (map temporal_of operands))
depth-operand [] i f within is = absurd (omega (arith, within))
depth-operand (g ∷ gs) zero f within is = omega (arith, ap (λ h. depth (temporal_of h)) is)
depth-operand (g ∷ gs) (suc i) f within is = omega (arith, depth-operand gs i f (omega (arith, within)) is)
