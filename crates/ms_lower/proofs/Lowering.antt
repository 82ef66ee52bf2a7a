-- What a formula becomes, by what its parts became.
use Rattle.std.proofs.Common.{◌≡◌, ℕ, ◌+◌, List, [], ◌∷◌, ◌++◌, map, Option, Some, refl, sym, ap, subst, ◌∙◌}
use Rattle.std.proofs.lemmas.List.{map-append}
use Rattle.std.specs.Option.{option_map}
use Rattle.ms_logic_core.specs.declared.core_formula.Core.{Core}
use Rattle.ms_logic.specs.declared.formula.Arg.{Arg}
use Rattle.ms_logic.specs.declared.formula.Arg.TheVariants as arg
use Rattle.ms_logic.specs.declared.formula.Formula.{Formula}
use Rattle.ms_logic.specs.declared.formula.Formula.TheVariants as form
use Rattle.ms_logic.specs.declared.mode.Order.{Order}
use Rattle.ms_logic.specs.declared.mode.Order.TheVariants.{Zero, One, Two}
use Rattle.ms_logic.specs.declared.mode.Quant.{Quant}
use Rattle.ms_logic.specs.declared.mode.Rel.{Rel}
use Rattle.ms_logic.specs.declared.mode.Rel.TheVariants.{Equal, Differs, Less, AtMost, Greater, AtLeast, Member, NotMember, Sub}
use Rattle.ms_logic_core.specs.CoreForm as core
use Rattle.ms_logic_core.specs.CoreForm.{CoreForm, CoreRestriction, core_form_of, core_forms, conjunction, disjunction}
use Rattle.ms_logic_core.specs.Spread.{Callees, Names, TermSpread, conjunction_of, default_names, named, numbers_relate, sets_relate, restrictions_of, spread_each, spread_restriction, spread_under, truth_value, variable_of_form}
use Rattle.ms_logic.specs.Tree.{Declaration, Form, Predicate, quantified}
use Rattle.ms_logic.specs.View.{argument_of, formula_of, forms, restriction}
use Rattle.ms_logic.proofs.Views.{argument_of-Zero, formula_of-And, formula_of-Or}
use Rattle.ms_lower.specs.declared.defined.Defined.{Defined}
use Rattle.ms_lower.specs.Callees.{disjunction_over}
use Rattle.ms_lower.specs.inner.Defined.{IsDefined, below}
use Rattle.ms_lower.specs.inner.Given.{IsGiven, IsTruth}
use Rattle.ms_lower.specs.Numbering.{Numbering, renumbered, renumbered_each, renumbered_in}
use Rattle.ms_lower.proofs.Callees.{IsCallee}

pub each_renumbered : (n : Numbering) (fs : List CoreForm) → renumbered_each n (core_forms fs) ≡ core_forms (map (renumbered n) fs)
each_renumbered n [] = refl
each_renumbered n (f ∷ fs) = ap (λ gs. core.more_forms (renumbered n f) gs) (each_renumbered n fs)

pub conjunction_renumbered : (n : Numbering) (fs : List CoreForm) → renumbered n (conjunction_of fs) ≡ conjunction_of (map (renumbered n) fs)
conjunction_renumbered n [] = refl
conjunction_renumbered n (f ∷ []) = refl
conjunction_renumbered n (f ∷ g ∷ fs) = ap conjunction (each_renumbered n (f ∷ g ∷ fs))

pub relation_renumbered : (n : Numbering) (rel : Rel) (x y : ℕ)
    → (renumbered n (numbers_relate rel x y) ≡ numbers_relate rel (n.number One x) (n.number One y)) × (renumbered n (sets_relate rel x y) ≡ sets_relate rel (n.number Two x) (n.number Two y))
relation_renumbered n Equal x y = (refl, refl)
relation_renumbered n Differs x y = (refl, refl)
relation_renumbered n Less x y = (refl, refl)
relation_renumbered n AtMost x y = (refl, refl)
relation_renumbered n Greater x y = (refl, refl)
relation_renumbered n AtLeast x y = (refl, refl)
relation_renumbered n Member x y = (refl, refl)
relation_renumbered n NotMember x y = (refl, refl)
relation_renumbered n Sub x y = (refl, refl)

-- a relation of two terms, below the binders of what they are
pub relation_lowered : (n : Numbering) (o p : Order) (S T : TermSpread) (free : ℕ) (Rel : ℕ → ℕ → CoreForm) (first second : Defined) (made body : CoreForm) → ((x y : ℕ) → renumbered n (Rel x y) ≡ Rel (n.number o x) (n.number p y)) →
    IsDefined n o S free first → IsDefined n p T first.next second → body ≡ Rel first.number second.number → made ≡ below first (below second body) → made ≡ renumbered n (S free (λ free x. T free (λ free y. Rel x y)))
relation_lowered n o p S T free Rel first second made body renumbers one two body_is made_is =
    made_is ∙ ap (λ f. below first (below second f)) (body_is ∙ ap (λ x. Rel x second.number) one.number_is ∙ ap (Rel (n.number o first.name)) two.number_is ∙ sym (renumbers first.name second.name))
    ∙ (ap (below first) (sym (two.says (λ free y. Rel first.name y))) ∙ sym (one.says (λ free x. T free (λ free y. Rel x y))))

module _ (n : Numbering) (c : Callees) (names : Names) (free : ℕ) (source : Formula) where
  pub and_lowered : (fs all : List Formula) (cores : List Core) → source ≡ form.And fs → all ≡ fs → map core_form_of cores ≡ map (renumbered n) (spread_each c (forms (map formula_of all)) names free) →
      conjunction_of (map core_form_of cores) ≡ renumbered n (spread_under c (formula_of source) names free)
  and_lowered fs all cores is same made =
      ap conjunction_of made
      ∙ (sym (conjunction_renumbered n (spread_each c (forms (map formula_of all)) names free))
      ∙ (ap (λ l. renumbered n (conjunction_of (spread_each c (forms (map formula_of l)) names free))) same
      ∙ ap (λ f. renumbered n (spread_under c f names free)) (sym (ap formula_of is ∙ formula_of-And fs))))

  pub or_lowered : (fs all : List Formula) (cores : List Core) → source ≡ form.Or fs → all ≡ fs → map core_form_of cores ≡ map (renumbered n) (spread_each c (forms (map formula_of all)) names free) →
      disjunction_over (map core_form_of cores) ≡ renumbered n (spread_under c (formula_of source) names free)
  or_lowered fs all cores is same made =
      ap disjunction_over made
      ∙ (ap disjunction (sym (each_renumbered n (spread_each c (forms (map formula_of all)) names free)))
      ∙ (ap (λ l. renumbered n (disjunction_over (spread_each c (forms (map formula_of l)) names free))) same
      ∙ ap (λ f. renumbered n (spread_under c f names free)) (sym (ap formula_of is ∙ formula_of-Or fs))))

module _ (n : Numbering) (c : Callees) (names : Names) (free : ℕ) where
  pub bind_lowered : (q : Quant) (o : Order) (x : ℕ) (d : Option Formula) (f : Formula) (inner deeper : Names) (number : ℕ) (domain : CoreRestriction) (body : CoreForm) →
      inner ≡ named o x free names → deeper ≡ inner → number ≡ n.number o free → domain ≡ renumbered_in n (spread_restriction c (restriction (option_map formula_of d)) inner (free + 1)) →
      body ≡ renumbered n (spread_under c (formula_of f) deeper (free + 1)) →
      core.quantified q o number domain body ≡ renumbered n (spread_under c (quantified q o x (restriction (option_map formula_of d)) (formula_of f)) names free)
  bind_lowered q o x d f inner deeper number domain body named_is same number_is domain_is body_is =
      ap (λ k. core.quantified q o k domain body) number_is
      ∙ (ap (λ e. core.quantified q o (n.number o free) e body) (domain_is ∙ ap (λ m. renumbered_in n (spread_restriction c (restriction (option_map formula_of d)) m (free + 1))) named_is)
      ∙ ap (core.quantified q o (n.number o free) (renumbered_in n (spread_restriction c (restriction (option_map formula_of d)) (named o x free names) (free + 1)))) (body_is ∙ ap (λ m. renumbered n (spread_under c (formula_of f) m (free + 1))) (same ∙ named_is)))

-- the restrictions and the body of a predicate
pub body_lowered : (n m : Numbering) (own before : Callees) (ds : List Declaration) (f : Form) (names inner : Names) (free : ℕ) (cores made : List Core) (body : Core) → own ≡ before → m ≡ n → inner ≡ names →
    map core_form_of cores ≡ map (renumbered m) (restrictions_of own ds inner free) → core_form_of body ≡ renumbered m (spread_under own f inner free) → made ≡ cores ++ body ∷ [] →
    conjunction_of (map core_form_of made) ≡ renumbered n (conjunction_of (restrictions_of before ds names free ++ spread_under before f names free ∷ []))
body_lowered n m own before ds f names inner free cores made body same numbers inner_is cores_are body_is made_is =
    ap (λ l. conjunction_of (map core_form_of l)) made_is
    ∙ (ap conjunction_of (map-append core_form_of cores (body ∷ []) ∙ (ap (λ l. l ++ core_form_of body ∷ []) cores_are ∙ ap (λ b. map (renumbered m) (restrictions_of own ds inner free) ++ b ∷ []) body_is))
    ∙ (ap conjunction_of (sym (map-append (renumbered m) (restrictions_of own ds inner free) (spread_under own f inner free ∷ [])))
    ∙ (sym (conjunction_renumbered m (restrictions_of own ds inner free ++ spread_under own f inner free ∷ []))
    ∙ (ap (λ k. renumbered k (conjunction_of (restrictions_of own ds inner free ++ spread_under own f inner free ∷ []))) numbers
    ∙ (ap (λ k. renumbered n (conjunction_of (restrictions_of k ds inner free ++ spread_under k f inner free ∷ []))) same
    ∙ ap (λ ns. renumbered n (conjunction_of (restrictions_of before ds ns free ++ spread_under before f ns free ∷ []))) inner_is)))))

-- a truth value that is a variable
pub truth_lowered : (n : Numbering) (c : Callees) (value : Arg) (f : Formula) (names : Names) (free x : ℕ) (made : Defined) → value ≡ arg.Zero f → Some x ≡ variable_of_form (formula_of f) →
    IsGiven n Zero (truth_value (Some (names Zero x)) (spread_under c (formula_of f) names)) free made → IsTruth n c (argument_of value) names free (Some made)
truth_lowered n c value f names free x made is variable given =
    subst (λ a. IsTruth n c a names free (Some made)) (sym (ap argument_of is ∙ argument_of-Zero f))
    (made, refl, subst (λ o. IsGiven n Zero (truth_value (option_map (names Zero) o) (spread_under c (formula_of f) names)) free made) variable given)

-- a default restriction at a variable
pub default_lowered : (imports : ℕ) (n m : Numbering) (c before own : Callees) (number : ℕ) (q : Predicate) (x : ℕ) (names inner : Names) (free : ℕ) (core : CoreForm) → IsCallee imports c before number q → own ≡ before → m ≡ n →
    inner ≡ default_names q.parameters x names → core ≡ renumbered m (spread_under own q.body inner free) → core ≡ renumbered n (c.default number x names free)
default_lowered imports n m c before own number q x names inner free core callee same numbers inner_is core_is =
    core_is
    ∙ (ap (λ k. renumbered k (spread_under own q.body inner free)) numbers
    ∙ (ap (λ k. renumbered n (spread_under k q.body inner free)) same
    ∙ (ap (λ k. renumbered n (spread_under before q.body k free)) inner_is
    ∙ ap (λ b. renumbered n (b x names free)) (sym callee.default))))
