-- A formula of strings beside the demand for a position.
use Rattle.std.proofs.Common.{◌≡◌, ℕ, ◌<◌, ◌↔◌, inl, inr, ⊎_elim, Some, refl, arith}
use Rattle.ms_logic.specs.declared.assignment.Value.TheVariants.{Number}
use Rattle.ms_logic.specs.declared.mode.Order.TheVariants.{One}
use Rattle.ms_logic.specs.declared.mode.Rel.TheVariants.{Equal}
use Rattle.ms_logic.specs.Assignment.{Env, IsValueOf, assign}
use Rattle.ms_logic.specs.Tree.{Form, number_variable, comparison}
use Rattle.ms_logic.specs.Tree as string
use Rattle.ms_logic.specs.Truth.{YesUnder, NoUnder}
use Rattle.ms_logic.proofs.Consistent.{never_both}
use Rattle.ms_logic.proofs.Values.{each_value}
use Rattle.ms_ltlf.specs.Strings.{some_position}
use Rattle.ms_ltlf.proofs.Positions.{stands-bound, value-variable, agrees-equal}
use Rattle.ms_ltlf.proofs.Quantifiers.{agrees-exists, below-string}
use Rattle.ms_translation.specs.Parts.{two}
use Rattle.ms_translation.proofs.Agreeing.{Agrees}
use Rattle.ms_translation.proofs.Asked.{consistent, meanings}

-- restrict(ex1 x: x = x) is Yes where there is a position
has-position : (n x : ℕ) (e : Env) → e.universe ≡ Some n → 0 < n → YesUnder meanings (some_position x) e
has-position n x e universe positive =
    let same : Form = comparison Equal (number_variable x) (number_variable x) in
    ⊎_elim (λ yes. yes.1) (λ no. absurd (no.0 (0, positive, refl)))
    (agrees-exists meanings consistent same n x e (λ j. j ≡ j) universe positive
    (λ j below. let there : Env = assign x (Number j) e in let value = value-variable there n x j (stands-bound e n x j universe below) in
    agrees-equal meanings (number_variable x) (number_variable x) there j j value value))

-- and else Undefined
lacks-position : (x : ℕ) (e : Env) → e.universe ≡ Some 0 → YesUnder meanings (some_position x) e → ⊥
lacks-position x e universe held =
    each_value (λ v. IsValueOf One e.universe v → ⊥) (λ b in_range. in_range) (λ j in_range. omega (arith, below-string e.universe 0 j universe in_range)) (λ s in_range. in_range) held.0 held.1.0

-- where there is a position, both are Yes where the formula agrees with a fact that holds
pub guarded-yes : (x : ℕ) (f : Form) (n : ℕ) (e : Env) (P : Type 0) → e.universe ≡ Some n → 0 < n → Agrees meanings f e P →
    YesUnder meanings (string.conjunction (two (some_position x) f)) e ↔ P
guarded-yes x f n e P universe positive agrees = (
  (λ main. ⊎_elim (λ yes. yes.0) (λ no. absurd (never_both meanings consistent f e main.1.0 no.1)) agrees),
  (λ held. ⊎_elim (λ yes. (has-position n x e universe positive, (yes.1, tt))) (λ no. absurd (no.0 held)) agrees),
)

-- and one is No where it does not
pub guarded-no : (x : ℕ) (f : Form) (n : ℕ) (e : Env) (P : Type 0) → e.universe ≡ Some n → 0 < n → Agrees meanings f e P →
    NoUnder meanings (string.conjunction (two (some_position x) f)) e ↔ (¬ P)
guarded-no x f n e P universe positive agrees = (
  (λ main. ⊎_elim (λ yes. absurd (⊎_elim (λ never. never) (λ later. ⊎_elim (λ no. never_both meanings consistent f e yes.1 no) (λ never. never) later) main.1)) (λ no. no.0) agrees),
  (λ fails. ⊎_elim (λ yes. absurd (fails yes.0)) (λ no. ((inl (has-position n x e universe positive), (inr no.1, tt)), inr (inl no.1))) agrees),
)

-- on the empty string they are neither Yes nor No
pub guarded-never : (x : ℕ) (f : Form) (e : Env) → e.universe ≡ Some 0 →
    (¬ YesUnder meanings (string.conjunction (two (some_position x) f)) e) × (¬ NoUnder meanings (string.conjunction (two (some_position x) f)) e)
guarded-never x f e universe =
    ((λ main. lacks-position x e universe main.0), (λ main. ⊎_elim (lacks-position x e universe) (λ never. never) main.0.0))
