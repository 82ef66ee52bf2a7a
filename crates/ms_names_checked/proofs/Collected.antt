-- What holds of all that the declarations of a source without a fault give.
use Rattle.std.proofs.Common.{◌≡◌, ℕ, ◌+◌, true, false, if◌then◌else◌, List, [], ◌∷◌, map, Option, Some, None, refl}
use Rattle.ms_list.specs.declared.at.At.{At as Place}
use Rattle.ms_logic.specs.Tree.{Form}
use Rattle.ms_names_rules.specs.Scope.{Bytes}
use Rattle.ms_names_rules.specs.declared.fault.Fault.{Fault}
use Rattle.ms_names_rules.specs.Declarations.{Known, after_declaration, faults_in, first_fault_from, or_later}
use Rattle.ms_names_rules.specs.Fault.{comes_before, first_fault, first_with}
use Rattle.ms_logic.specs.Lists.{Each}
use Rattle.ms_parse_grammar.specs.Tree.{Declaration, Declared, Expression, variables, constant, predicate, included, default_restriction, formula, goal}
use Rattle.ms_names_rules.specs.Typed.{formula_in, typed}
use Rattle.ms_names_rules.specs.TypedSource.{TypedFormula, collected, formulas_of}
use Rattle.ms_names_rules.proofs.Fitting.{If, each-append, if-one}
use Rattle.ms_names_checked.specs.inner.Examples.{holds}

-- where there is no first fault there is none

first-some : (f : Fault) (fs : List Fault) → first_with (Some f) fs ≡ None → ⊥
first-some f [] e = cc
first-some f (g ∷ fs) e =
    elim (comes_before g f) as (λ b. first_with (if b then Some g else Some f) fs ≡ None → ⊥) [ true ↦ first-some g fs | false ↦ first-some f fs ] e

pub no-fault : (fs : List Fault) → first_fault fs ≡ None → fs ≡ []
no-fault [] e = refl
no-fault (f ∷ fs) e = absurd (first-some f fs e)

or-later-both : (o later : Option Fault) → or_later o later ≡ None → (o ≡ None) × (later ≡ None)
or-later-both None later e = (refl, e)
or-later-both (Some f) later e = absurd (cc)

-- there is no fault here and none further on
pub right-both : (k : Known) (d : Declared) (ds : List Declared) → first_fault_from k (d ∷ ds) ≡ None →
    (first_fault (faults_in k d.declaration) ≡ None) × (first_fault_from (after_declaration k d.declaration) ds ≡ None)
right-both k d ds right = or-later-both (first_fault (faults_in k d.declaration)) (first_fault_from (after_declaration k d.declaration) ds) right

-- P holds of what each declaration gives that has no fault, where I holds before it
pub each-collected : {A : Type 0} (given : Known → ℕ → Declared → List A) (P : A → Type 0) (I : Known → Type 0) →
    ((k : Known) (d : Declaration) → I k → I (after_declaration k d)) →
    ((k : Known) (item : ℕ) (d : Declared) → I k → first_fault (faults_in k d.declaration) ≡ None → Each P (given k item d)) →
    (k : Known) (item : ℕ) (ds : List Declared) → I k → first_fault_from k ds ≡ None → Each P (collected given k item ds)
each-collected given P I next holds k item [] is right = tt
each-collected given P I next holds k item (d ∷ ds) is right =
    let both = right-both k d ds right in
    each-append P (given k item d) (collected given (after_declaration k d.declaration) (item + 1) ds) (holds k item d is both.0)
    (each-collected given P I next holds (after_declaration k d.declaration) (item + 1) ds (next k d.declaration is) both.1)

-- what is there
pub each-kept : {A B : Type 0} (P : B → Type 0) (f : A → B) (xs : List A) → Each (If P) (map (λ x. Some (f x)) xs) → Each (λ x. P (f x)) xs
each-kept P f [] h = tt
each-kept P f (x ∷ xs) h = (h.0, each-kept P f xs h.1)

pub each-mapped : {A B : Type 0} (P : B → Type 0) (f : A → B) (xs : List A) → Each (λ x. P (f x)) xs → Each P (map f xs)
each-mapped P f [] h = tt
each-mapped P f (x ∷ xs) h = (h.0, each-mapped P f xs h.1)

-- P holds of the formulas that a declaration gives, where it holds of what those expressions become that stand in it as formulas or goals
pub each-formula : (P : Form → Type 0) (Knows : Declaration → Type 0) (k : Known) →
    ((e : Expression) → Knows (formula e) → If P (formula_in (typed k.scope k.before e))) →
    ((name_at : Place) (title : Bytes) (e : Expression) → Knows (goal name_at title e) → If P (formula_in (typed k.scope k.before e))) →
    (at : Place) (item : ℕ) (d : Declaration) → Knows d → Each (If (λ (f : TypedFormula). P f.formula)) (formulas_of k at item d)
each-formula P Knows k of_formula of_goal at item (variables vs) h = tt
each-formula P Knows k of_formula of_goal at item (constant name_at n is) h = tt
each-formula P Knows k of_formula of_goal at item (predicate is_pred name_at n vs e) h = tt
each-formula P Knows k of_formula of_goal at item (included text_at file) h = tt
each-formula P Knows k of_formula of_goal at item (default_restriction o n e) h = tt
each-formula P Knows k of_formula of_goal at item (formula e) h =
    (if-one P (λ (f : TypedFormula). P f.formula) (λ form. record { at = at; item = item; title = None; formula = form }) (formula_in (typed k.scope k.before e)) (λ f held. held) (of_formula e h), tt)
each-formula P Knows k of_formula of_goal at item (goal name_at title e) h =
    (if-one P (λ (f : TypedFormula). P f.formula) (λ form. record { at = at; item = item; title = Some title; formula = form }) (formula_in (typed k.scope k.before e)) (λ f held. held) (of_goal name_at title e h), tt)
