use Rattle.std.proofs.Common.{◌≡◌, ◌∷◌, ◌<◌, ℕ, [], zero, suc, inl, inr, ⊎_elim, Some, refl, ◌∙◌, ap, arith}
use Rattle.ms_logic.specs.declared.assignment.Value.TheVariants.{Number}
use Rattle.ms_logic.specs.Assignment.{Env}
use Rattle.ms_logic.specs.FiniteSet.{IsMember, IsRising}
use Rattle.ms_logic.specs.Lists.{Each}
use Rattle.ms_logic.specs.Tree.{numeral}
use Rattle.ms_ltlf.specs.Meaning.{length_of}
use Rattle.ms_ltlf.specs.inner.Examples.{sets_on, starts_in_p, trace}
use Rattle.ms_ltlf.specs.Trace.{IsTrace}
use Rattle.ms_ltlf.proofs.Guarded.{guarded-yes, guarded-no, guarded-never}
use Rattle.ms_ltlf.proofs.Positions.{agrees-member, value-zero}
use Rattle.ms_ltlf.proofs.Sources.{some-length}
use Rattle.ms_translation.proofs.Agreeing.{Agrees}
use Rattle.ms_translation.proofs.Asked.{meanings}
use Rattle.ms_ltlf.proofs.examples.worked_sources.Goals as goal

empty-rises : (p : ℕ) → p < 1 → IsRising ((trace 1 [] []).positions p)
empty-rises zero below = tt
empty-rises (suc p) below = absurd (omega (arith, below))

empty-within : (p : ℕ) → p < 1 → Each (λ i. i < 1) ((trace 1 [] []).positions p)
empty-within zero below = tt
empty-within (suc p) below = absurd (omega (arith, below))

starts : (e : Env) (n : ℕ) → e.universe ≡ Some n → 0 < n → Agrees meanings starts_in_p e (IsMember 0 (e.set 0))
starts e n universe positive = agrees-member meanings (numeral 0) e 0 0 (value-zero e n universe positive)

pub returns-clause-tells : goal.returns-clause-tells
returns-clause-tells c = record {
  yes = λ e assigned positive.
      let universe = some-length e.universe assigned.universe in
      let same = guarded-yes 1 starts_in_p (length_of e.universe) e (IsMember 0 (e.set 0)) universe positive (starts e (length_of e.universe) universe positive) in
      ((λ main. same.0 main.1), (λ held. ((tt, tt), same.1 held)));
  no = λ e assigned positive.
      let universe = some-length e.universe assigned.universe in
      let same = guarded-no 1 starts_in_p (length_of e.universe) e (IsMember 0 (e.set 0)) universe positive (starts e (length_of e.universe) universe positive) in
      ((λ main. same.0 main.1), (λ fails. ((tt, tt), same.1 fails)));
  empty = λ e assigned none.
      let never = guarded-never 1 starts_in_p e (some-length e.universe assigned.universe ∙ ap (λ k. Some k) none) in
      ((λ main. never.0 main.1), (λ main. never.1 main.1));
}

-- 0 has no value on the empty string, so it is No that it is in a set
pub returns-clause-empty_string : goal.returns-clause-empty_string
returns-clause-empty_string c = λ tells.
    (tells.empty (sets_on 0 [] []) (record { universe = refl; values = ((tt, tt), tt) }) refl).1 ((tt, tt), ((inr (λ held. held), tt), inl (λ held. held)))

-- a string of one position at which p is not
pub returns-clause-too_weak : goal.returns-clause-too_weak
returns-clause-too_weak c = λ tells.
    let held = (tells.yes (sets_on 1 [] []) (record { universe = refl; values = ((tt, tt), tt) }) (omega arith)).0 ((tt, tt), ((Number 0, (omega arith, tt), refl), tt)) in cc

-- p fails on a trace, and the source has no formula that could be No there
pub returns-clause-no_counterexample : goal.returns-clause-no_counterexample
returns-clause-no_counterexample c = λ tells.
    let none : IsTrace 1 (trace 1 [] []) = record { has_position = omega arith; sets = λ proposition below. empty-rises proposition below; within = λ proposition below. empty-within proposition below } in
    let found = tells.counterexample.1 (trace 1 [] [], none, λ held. cc) in ⊎_elim (λ never. never) (λ never. never) found.2.1.1

pub returns-clause-one_set : goal.returns-clause-one_set
returns-clause-one_set c = λ over.
    let is = over.each_assignment (sets_on 1 [] (5 ∷ [])) (record { universe = refl; values = ((tt, tt), tt) }) (omega arith) in
    omega (arith, (is.within 1 (omega arith)).0)
