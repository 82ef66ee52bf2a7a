-- Subformulas of core formulas, and the formulas right below them.
use Rattle.std.proofs.Common.{◌≡◌, ◌⊎◌, [], ◌∷◌, Contains, refl, sym, subst, inl, inr, ⊎_elim}
use Rattle.std.proofs.lemmas.List.Elements.{Contains-append_cases, Contains-append_left, Contains-append_right}
use Rattle.ms_diagram.proofs.ListLemmas.{Contains-cases, Contains-first, Contains-none, Contains-rest}
use Rattle.ms_logic_core.specs.CoreForm.{CoreForm, truth, falsity, basic, negation, conjunction, disjunction, implication, equivalence, restrict, imported, quantified, CoreForms, no_forms, more_forms, CoreRestriction, unrestricted, restricted}
use Rattle.ms_dag_steps.specs.Subformulas.{IsSubformula, IsSubformulaOfOne, IsSubformulaOfRestriction}
use Rattle.ms_dag_steps.specs.inner.Parts.{forms_of, parts_of, restrictions_of}

pub itself : (f : CoreForm) → IsSubformula f f
itself truth = refl
itself falsity = refl
itself (basic b) = refl
itself (negation f) = inl refl
itself (conjunction fs) = inl refl
itself (disjunction fs) = inl refl
itself (implication f g) = inl refl
itself (equivalence f g) = inl refl
itself (restrict f) = inl refl
itself (imported i xs) = refl
itself (quantified q o x d f) = inl refl

-- a member of a list of one is that one, and of a list of two one of them
module _ {X : Type 0} where
  pub only : (x y : X) → Contains (y ∷ []) x → x ≡ y
  only x y there = ⊎_elim (λ same. same) (λ later. absurd (Contains-none x later)) (Contains-cases y [] x there)

  pub one_of_two : (x y z : X) → Contains (y ∷ z ∷ []) x → (x ≡ y) ⊎ (x ≡ z)
  one_of_two x y z there = ⊎_elim (λ same. inl same) (λ later. inr (only x z later)) (Contains-cases y (z ∷ []) x there)

-- what is a subformula of an operand is one of the list
of_one : (gs : CoreForms) (g f : CoreForm) → Contains (forms_of gs) g → IsSubformula f g → IsSubformulaOfOne f gs
of_one no_forms g f there inside = Contains-none g there
of_one (more_forms h hs) g f there inside = ⊎_elim (λ same. inl (subst (IsSubformula f) same inside)) (λ later. inr (of_one hs g f later inside)) (Contains-cases h (forms_of hs) g there)

of_restriction : (d : CoreRestriction) (g f : CoreForm) → Contains (restrictions_of d) g → IsSubformula f g → IsSubformulaOfRestriction f d
of_restriction unrestricted g f there inside = Contains-none g there
of_restriction (restricted d) g f there inside = subst (IsSubformula f) (only g d there) inside

-- what is a subformula of a part is one of the whole
pub of_part : (h g f : CoreForm) → Contains (parts_of h) g → IsSubformula f g → IsSubformula f h
of_part truth g f there inside = absurd (Contains-none g there)
of_part falsity g f there inside = absurd (Contains-none g there)
of_part (basic b) g f there inside = absurd (Contains-none g there)
of_part (negation h) g f there inside = inr (subst (IsSubformula f) (only g h there) inside)
of_part (conjunction hs) g f there inside = inr (of_one hs g f there inside)
of_part (disjunction hs) g f there inside = inr (of_one hs g f there inside)
of_part (implication h k) g f there inside = inr (⊎_elim (λ same. inl (subst (IsSubformula f) same inside)) (λ same. inr (subst (IsSubformula f) same inside)) (one_of_two g h k there))
of_part (equivalence h k) g f there inside = inr (⊎_elim (λ same. inl (subst (IsSubformula f) same inside)) (λ same. inr (subst (IsSubformula f) same inside)) (one_of_two g h k there))
of_part (restrict h) g f there inside = inr (subst (IsSubformula f) (only g h there) inside)
of_part (imported i xs) g f there inside = absurd (Contains-none g there)
of_part (quantified q o x d h) g f there inside = inr
    (⊎_elim (λ above. inl (of_restriction d g f above inside)) (λ below. inr (subst (IsSubformula f) (only g h below) inside)) (Contains-append_cases (restrictions_of d) (h ∷ []) g there))

-- what holds of a formula, and of each part of a formula of which it holds, holds of its subformulas
module _ (P : CoreForm → Type 0) (down : (h g : CoreForm) → P h → Contains (parts_of h) g → P g) where
  mutual
    pub goes_down : (h f : CoreForm) → P h → IsSubformula f h → P f
    goes_down truth f at is = subst P (sym is) at
    goes_down falsity f at is = subst P (sym is) at
    goes_down (basic b) f at is = subst P (sym is) at
    goes_down (negation h) f at is = ⊎_elim (λ same. subst P (sym same) at) (λ below. goes_down h f (down (negation h) h at (Contains-first h [])) below) is
    goes_down (conjunction hs) f at is = ⊎_elim (λ same. subst P (sym same) at) (λ below. goes_down_one hs f (λ g there. down (conjunction hs) g at there) below) is
    goes_down (disjunction hs) f at is = ⊎_elim (λ same. subst P (sym same) at) (λ below. goes_down_one hs f (λ g there. down (disjunction hs) g at there) below) is
    goes_down (implication h k) f at is = ⊎_elim (λ same. subst P (sym same) at)
        (λ below. ⊎_elim (λ left. goes_down h f (down (implication h k) h at (Contains-first h (k ∷ []))) left)
        (λ right. goes_down k f (down (implication h k) k at (Contains-rest h (k ∷ []) k (Contains-first k []))) right) below) is
    goes_down (equivalence h k) f at is = ⊎_elim (λ same. subst P (sym same) at)
        (λ below. ⊎_elim (λ left. goes_down h f (down (equivalence h k) h at (Contains-first h (k ∷ []))) left)
        (λ right. goes_down k f (down (equivalence h k) k at (Contains-rest h (k ∷ []) k (Contains-first k []))) right) below) is
    goes_down (restrict h) f at is = ⊎_elim (λ same. subst P (sym same) at) (λ below. goes_down h f (down (restrict h) h at (Contains-first h [])) below) is
    goes_down (imported i xs) f at is = subst P (sym is) at
    goes_down (quantified q o x d h) f at is = ⊎_elim (λ same. subst P (sym same) at)
        (λ below. ⊎_elim (λ left. goes_down_restriction d f (λ g there. down (quantified q o x d h) g at (Contains-append_left (restrictions_of d) (h ∷ []) g there)) left)
        (λ right. goes_down h f (down (quantified q o x d h) h at (Contains-append_right (restrictions_of d) (h ∷ []) h (Contains-first h []))) right) below) is

    goes_down_one : (hs : CoreForms) (f : CoreForm) → ((g : CoreForm) → Contains (forms_of hs) g → P g) → IsSubformulaOfOne f hs → P f
    goes_down_one no_forms f at is = absurd is
    goes_down_one (more_forms h hs) f at is =
        ⊎_elim (λ first. goes_down h f (at h (Contains-first h (forms_of hs))) first) (λ later. goes_down_one hs f (λ g there. at g (Contains-rest h (forms_of hs) g there)) later) is

    goes_down_restriction : (d : CoreRestriction) (f : CoreForm) → ((g : CoreForm) → Contains (restrictions_of d) g → P g) → IsSubformulaOfRestriction f d → P f
    goes_down_restriction unrestricted f at is = absurd is
    goes_down_restriction (restricted h) f at is = goes_down h f (at h (Contains-first h [])) is

-- a subformula of a subformula is one
pub subformula_below : (h g f : CoreForm) → IsSubformula g h → IsSubformula f g → IsSubformula f h
subformula_below h g f upper lower =
    goes_down (λ k. IsSubformula f k → IsSubformula f h) (λ k part is there inside. is (of_part k part f there inside)) h g (λ inside. inside) upper lower

-- a part of a subformula is one
pub part_below : (h g f : CoreForm) → IsSubformula g h → Contains (parts_of g) f → IsSubformula f h
part_below h g f upper there = subformula_below h g f upper (of_part g f f there (itself f))
