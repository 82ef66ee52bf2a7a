-- Core formulas: formulas whose atoms are basic relations between variables. A reference to an import names its
-- variables itself.
use Rattle.std.specs.Prelude.{◌≡◌, ℕ, ◌+◌, ◌<◌, true, ◌⊎◌, List, [], ◌∷◌, map, slice_get, Option, Some, None}
use Rattle.std.specs.List.{zip}
use Rattle.ms_logic.specs.declared.mode.Order.{Order}
use Rattle.ms_logic.specs.declared.mode.Quant.{Quant}
use Rattle.ms_logic.specs.declared.mode.Quant.TheVariants.{Ex, All}
use Rattle.ms_logic_core.specs.declared.core_formula.Basic.{Basic}
use Rattle.ms_logic_core.specs.declared.core_formula.Basic.TheVariants.{Truth, Number, Plus, Less, Member, Sub, Union, Inter, Diff, Up, Down, Min, Max, Bits}
use Rattle.ms_logic_core.specs.declared.core_formula.Core.{Core}
use Rattle.ms_logic_core.specs.declared.core_formula.Core.TheOpen.{Core-F}
use Rattle.ms_logic_core.specs.declared.core_formula.Core.TheFolds.{fold-Core}
use Rattle.ms_logic.specs.Assignment.{Env, assign, value_at}
use Rattle.ms_logic.specs.FiniteSet.{IsMember, IsSubset, union_of, intersection_of, difference_of, least, greatest, moved_up, moved_down, one_bits}
use Rattle.ms_logic.specs.Terms.{part_within}
use Rattle.ms_logic.specs.Truth.{Answer, answer_yes, answer_no, answer_undefined, Import, InRange, SomeInRange, NoneInRange, IsEmptyRange}

mutual
  pub data CoreForm : Type 0 where
    truth : CoreForm
    falsity : CoreForm
    basic : (b : Basic) → CoreForm
    negation : (f : CoreForm) → CoreForm
    conjunction : (fs : CoreForms) → CoreForm
    disjunction : (fs : CoreForms) → CoreForm
    implication : (f g : CoreForm) → CoreForm
    equivalence : (f g : CoreForm) → CoreForm
    restrict : (f : CoreForm) → CoreForm
    -- the import with number i, at these variables for those of its file
    imported : (i : ℕ) (xs : List ℕ) → CoreForm
    quantified : (q : Quant) (o : Order) (x : ℕ) (d : CoreRestriction) (f : CoreForm) → CoreForm

  pub data CoreForms : Type 0 where
    no_forms : CoreForms
    more_forms : (f : CoreForm) (fs : CoreForms) → CoreForms

  pub data CoreRestriction : Type 0 where
    unrestricted : CoreRestriction
    restricted : (d : CoreForm) → CoreRestriction

abbrev pub core_forms : List CoreForm → CoreForms
core_forms [] = no_forms
core_forms (f ∷ fs) = more_forms f (core_forms fs)

abbrev pub core_restriction : Option CoreForm → CoreRestriction
core_restriction None = unrestricted
core_restriction (Some d) = restricted d

-- one level of a core formula
abbrev pub core_form_at : Core-F CoreForm → CoreForm
core_form_at Core-F.True = truth
core_form_at Core-F.False = falsity
core_form_at (Core-F.Basic b) = basic b
core_form_at (Core-F.Not f) = negation f
core_form_at (Core-F.And fs) = conjunction (core_forms fs)
core_form_at (Core-F.Or fs) = disjunction (core_forms fs)
core_form_at (Core-F.Implies f g) = implication f g
core_form_at (Core-F.Iff f g) = equivalence f g
core_form_at (Core-F.Restrict f) = restrict f
core_form_at (Core-F.Import i xs) = imported i xs
core_form_at (Core-F.Bind q o x d f) = quantified q o x (core_restriction d) f

-- the core formula that a tree of the code stands for
abbrev pub core_form_of : Core → CoreForm
core_form_of f = fold-Core CoreForm core_form_at f

-- the basic relation holds of the values of its variables
abbrev pub Holds : Basic → Env → Type 0
Holds (Truth a) e = e.truth a ≡ true
Holds (Number x n) e = e.number x ≡ n
Holds (Plus x y n) e = e.number x ≡ e.number y + n
Holds (Less x y) e = e.number x < e.number y
Holds (Member x s) e = IsMember (e.number x) (e.set s)
Holds (Sub s t) e = IsSubset (e.set s) (e.set t)
Holds (Union s t u) e = e.set s ≡ union_of (e.set t) (e.set u)
Holds (Inter s t u) e = e.set s ≡ intersection_of (e.set t) (e.set u)
Holds (Diff s t u) e = e.set s ≡ difference_of (e.set t) (e.set u)
Holds (Up s t n) e = e.set s ≡ part_within e.universe (moved_up n (e.set t))
Holds (Down s t n) e = e.set s ≡ moved_down n (e.set t)
Holds (Min x s) e = e.number x ≡ least (e.set s)
Holds (Max x s) e = e.number x ≡ greatest (e.set s)
Holds (Bits s n) e = e.set s ≡ part_within e.universe (one_bits n)

-- the answer of an import at the values of these variables
abbrev pub answer_over : Option Import → List ℕ → Env → Answer
answer_over None xs e = answer_undefined
answer_over (Some found) xs e = found.answer e.universe (map (λ p. value_at p.1.order p.0 e) (zip xs found.variables))

-- Yes and No, as of other formulas
abbrev mutual
  pub CoreYes : List Import → CoreForm → Env → Type 0
  CoreYes imports truth e = Unit {0}
  CoreYes imports falsity e = ⊥
  CoreYes imports (basic b) e = Holds b e
  CoreYes imports (negation f) e = CoreNo imports f e
  CoreYes imports (conjunction fs) e = AllCoreYes imports fs e
  CoreYes imports (disjunction fs) e = AllCoreDefined imports fs e × SomeCoreYes imports fs e
  CoreYes imports (implication f g) e =
      (CoreYes imports f e ⊎ CoreNo imports f e) × (CoreYes imports g e ⊎ CoreNo imports g e) × (CoreNo imports f e ⊎ CoreYes imports g e)
  CoreYes imports (equivalence f g) e = (CoreYes imports f e × CoreYes imports g e) ⊎ (CoreNo imports f e × CoreNo imports g e)
  CoreYes imports (restrict f) e = CoreYes imports f e
  CoreYes imports (imported i xs) e = answer_over (slice_get imports i) xs e ≡ answer_yes
  CoreYes imports (quantified Ex o x d f) e =
      SomeInRange (InRange o x (λ there. IsCoreMet imports d there) e) (λ v. CoreYes imports f (assign x v e))
  CoreYes imports (quantified All o x d f) e =
      NoneInRange (InRange o x (λ there. IsCoreMet imports d there) e) (λ v. CoreNo imports f (assign x v e))
      × (SomeInRange (InRange o x (λ there. IsCoreMet imports d there) e) (λ v. CoreYes imports f (assign x v e)) ⊎ IsEmptyRange (InRange o x (λ there. IsCoreMet imports d there) e))

  pub CoreNo : List Import → CoreForm → Env → Type 0
  CoreNo imports truth e = ⊥
  CoreNo imports falsity e = Unit {0}
  CoreNo imports (basic b) e = ¬ Holds b e
  CoreNo imports (negation f) e = CoreYes imports f e
  CoreNo imports (conjunction fs) e = AllCoreDefined imports fs e × SomeCoreNo imports fs e
  CoreNo imports (disjunction fs) e = AllCoreNo imports fs e
  CoreNo imports (implication f g) e = CoreYes imports f e × CoreNo imports g e
  CoreNo imports (equivalence f g) e = (CoreYes imports f e × CoreNo imports g e) ⊎ (CoreNo imports f e × CoreYes imports g e)
  CoreNo imports (restrict f) e = ⊥
  CoreNo imports (imported i xs) e = answer_over (slice_get imports i) xs e ≡ answer_no
  CoreNo imports (quantified Ex o x d f) e =
      NoneInRange (InRange o x (λ there. IsCoreMet imports d there) e) (λ v. CoreYes imports f (assign x v e))
      × (SomeInRange (InRange o x (λ there. IsCoreMet imports d there) e) (λ v. CoreNo imports f (assign x v e)) ⊎ IsEmptyRange (InRange o x (λ there. IsCoreMet imports d there) e))
  CoreNo imports (quantified All o x d f) e =
      SomeInRange (InRange o x (λ there. IsCoreMet imports d there) e) (λ v. CoreNo imports f (assign x v e))

  pub AllCoreYes : List Import → CoreForms → Env → Type 0
  AllCoreYes imports no_forms e = Unit {0}
  AllCoreYes imports (more_forms f fs) e = CoreYes imports f e × AllCoreYes imports fs e

  pub AllCoreNo : List Import → CoreForms → Env → Type 0
  AllCoreNo imports no_forms e = Unit {0}
  AllCoreNo imports (more_forms f fs) e = CoreNo imports f e × AllCoreNo imports fs e

  pub AllCoreDefined : List Import → CoreForms → Env → Type 0
  AllCoreDefined imports no_forms e = Unit {0}
  AllCoreDefined imports (more_forms f fs) e = (CoreYes imports f e ⊎ CoreNo imports f e) × AllCoreDefined imports fs e

  pub SomeCoreYes : List Import → CoreForms → Env → Type 0
  SomeCoreYes imports no_forms e = ⊥
  SomeCoreYes imports (more_forms f fs) e = CoreYes imports f e ⊎ SomeCoreYes imports fs e

  pub SomeCoreNo : List Import → CoreForms → Env → Type 0
  SomeCoreNo imports no_forms e = ⊥
  SomeCoreNo imports (more_forms f fs) e = CoreNo imports f e ⊎ SomeCoreNo imports fs e

  pub IsCoreMet : List Import → CoreRestriction → Env → Type 0
  IsCoreMet imports unrestricted e = Unit {0}
  IsCoreMet imports (restricted d) e = CoreYes imports d e
