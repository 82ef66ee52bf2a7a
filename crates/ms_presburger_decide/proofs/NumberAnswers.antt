-- An answer that is true of a source of sets is true of its formula.
use Rattle.std.proofs.Common.{◌≡◌, ℕ, ◌↔◌, ⊎_elim, List, [], ◌∷◌, length, map, Option, None, Some, refl, sym, ap, ap₂, subst, ◌∙◌}
use Rattle.std.specs.List.{range_with_len}
use Rattle.ms_app_answer.specs.Answer.{IsAnswer, IsVerdict, ShowsFirst}
use Rattle.ms_logic.specs.declared.assignment.Assignment.{Assignment}
use Rattle.ms_logic.specs.declared.assignment.Value.{Value}
use Rattle.ms_logic.specs.declared.assignment.Value.TheVariants.{Set}
use Rattle.ms_logic.specs.declared.mode.Mode.TheVariants.{Ws1s}
use Rattle.ms_logic.specs.Assignment.{Env, GivesEach, IsUniverseOf, Variable}
use Rattle.ms_logic.specs.FiniteSet.{IsRising}
use Rattle.ms_logic.specs.First.{IsBefore, assignment_of}
use Rattle.ms_logic.specs.Lists.{Each}
use Rattle.ms_logic.specs.Verdict.{Assigns, MainNo, MainYes, Problem, variables_of}
use Rattle.ms_presburger.specs.Digits.{number_of}
use Rattle.ms_presburger.specs.Meaning.{IsOverNumbers, TellsTruth, TellsVerdict, numbers_of}
use Rattle.ms_presburger.specs.Numbers.{Holds, Valuation}
use Rattle.ms_presburger.specs.Tree.{Arithmetic, free_names, free_places}
use Rattle.ms_presburger.proofs.Deciding.{truth-is-decided}
use Rattle.ms_presburger.proofs.Free.{truth-is-of-free-names}
use Rattle.ms_presburger.proofs.Named.{each-weaker, once-differ}
use Rattle.ms_presburger_decide.specs.Answer.{ComesBefore, FailsAt, IsFirstValuation, IsNumberAnswer, IsVerdictOn, ShowsFirstNumbers, most_digits, shown_of}
use Rattle.ms_presburger_decide.proofs.Names.{by-places, same-numbers}
use Rattle.ms_presburger_decide.proofs.Orders.{before, long, numbers_of_sets}
use Rattle.ms_presburger_decide.proofs.SetDigits.{same-number}
use Rattle.ms_app_solved.proofs.SetVariables.{sets, values-are}
use Rattle.ms_report.specs.declared.found.Answer.{Answer}
use Rattle.ms_report.specs.declared.found.Verdict.{Verdict}
use Rattle.ms_report.specs.declared.found.Verdict.TheVariants.{Valid, Unsatisfiable, Contingent, Vacuous}
use Rattle.ms_report.specs.Numbers.{AreSets, members_of, number_answer_of, number_of_set, numbers_in}

-- the numbers of sets that are shown
numbers-shown : (ps : List ℕ) (e : Env) → map (λ value. number_of_set (members_of value)) (map (λ p. Set (e.set p)) ps) ≡ numbers_of_sets ps e
numbers-shown [] e = refl
numbers-shown (p ∷ ps) e = ap₂ (λ (n : ℕ) more. n ∷ more) (same-number (e.set p)) (numbers-shown ps e)

rising-shown : (ps : List ℕ) (e : Env) → GivesEach (sets ps) e → Each (λ value. IsRising (members_of value)) (map (λ p. Set (e.set p)) ps)
rising-shown [] e given = tt
rising-shown (p ∷ ps) e given = (given.0.0, rising-shown ps e given.1)

module _ (f : Arithmetic) (problem : Problem) (over : IsOverNumbers (free_names f) problem) (mode : problem.mode ≡ Ws1s)
    (variables : variables_of problem.globals ≡ sets (range_with_len 0 (length (free_names f)))) where
  abbrev names : List (List ℕ)
  names = free_names f

  abbrev places : List ℕ
  places = range_with_len 0 (length names)

  natural : (e : Env) → Assigns problem e → e.universe ≡ None
  natural e assigned = subst (λ m. IsUniverseOf m e.universe) mode assigned.universe

  given : (e : Env) → Assigns problem e → GivesEach (sets places) e
  given e assigned = subst (λ vs. GivesEach vs e) variables assigned.values

  numbers-are : (e : Env) → map (numbers_of names e) names ≡ numbers_of_sets places e
  numbers-are e = by-places names (once-differ (free_places f)) (λ p. number_of (e.set p))

  module _ (HasValue : Env → Type 0) (Has : Valuation → Type 0) (same : (e : Env) → Assigns problem e → HasValue e ↔ Has (numbers_of names e))
      (of-names : (v w : Valuation) → Each (λ name. v name ≡ w name) names → Has v → Has w) where
    -- an assignment of the numbers of a valuation with the property has the value
    valued : (v : Valuation) → Has v → (e : Env) × Assigns problem e × (numbers_of_sets places e ≡ map v names) × HasValue e
    valued v has =
        let one = over v in
        let turned = each-weaker (λ name. numbers_of names one.0 name ≡ v name) (λ name. v name ≡ numbers_of names one.0 name) (λ name is. sym is) names one.2 in
        (one.0, one.1, sym (numbers-are one.0) ∙ same-numbers names (numbers_of names one.0) v one.2, (same one.0 one.1).1 (of-names v (numbers_of names one.0) turned has))

    first-before : (e g : Env) (w : Valuation) → Assigns problem e → Assigns problem g → numbers_of_sets places g ≡ map w names → ComesBefore (map w names) (map (numbers_of names e) names)
        → IsBefore (variables_of problem.globals) g e
    first-before e g w assigned assigned_g is order =
        let P : List ℕ → Type 0 = λ left. ComesBefore left (map (numbers_of names e) names) in
        let Q : List ℕ → Type 0 = λ right. ComesBefore (numbers_of_sets places g) right in
        let ordered = subst Q (numbers-are e) (subst P (sym is) order) in
        subst (λ vs. IsBefore vs g e) (sym variables) (before places g e (natural g assigned_g) (natural e assigned) (given g assigned_g) (given e assigned) ordered)

    shown-is : (e : Env) (found : Assignment) → Assigns problem e → found ≡ assignment_of (sets places) e
        → numbers_in (Some found) ≡ Some (shown_of names (numbers_of names e))
    shown-is e found assigned is =
        ap (λ (a : Assignment). numbers_in (Some a)) is
        ∙ ap₂ (λ (n : ℕ) (values : List Value). numbers_in (Some (record { length = n; values = values }))) (long places e (natural e assigned) (given e assigned)) (values-are places e)
        ∙ ap (λ (ns : List ℕ). Some (record { digits = most_digits (numbers_of_sets places e); numbers = ns })) (numbers-shown places e)
        ∙ ap (λ (ns : List ℕ). Some (record { digits = most_digits ns; numbers = ns })) (sym (numbers-are e))

    pub first-numbers : (found : Option Assignment) → ShowsFirst problem HasValue found → ShowsFirstNumbers names Has (numbers_in found)
    first-numbers None none = λ v has. let one = valued v has in none one.0 one.1 one.3
    first-numbers (Some found) (e, first, is) =
        let assigned = first.assignment in
        let V : List Variable → Type 0 = λ vs. found ≡ assignment_of vs e in
        let shown : (v : Valuation) × IsFirstValuation names Has v × (shown_of names (numbers_of names e) ≡ shown_of names v) = (
          numbers_of names e,
          record {
            has = (same e assigned).0 first.holds;
            none_before = λ w order has. let one = valued w has in first.none_before one.0 one.1 (first-before e one.0 w assigned one.1 one.2 order) one.3;
          },
          refl,
        ) in
        subst (ShowsFirstNumbers names Has) (sym (shown-is e found assigned (subst V variables is))) shown

    pub are-sets : (found : Option Assignment) → ShowsFirst problem HasValue found → AreSets found
    are-sets None none = tt
    are-sets (Some found) (e, first, is) =
        let V : List Variable → Type 0 = λ vs. found ≡ assignment_of vs e in
        let values = ap (λ (a : Assignment). a.values) (subst V variables is) ∙ values-are places e in
        let P : List Value → Type 0 = λ vs. Each (λ value. IsRising (members_of value)) vs in
        subst P (sym values) (rising-shown places e (given e first.assignment))

  module _ (truth : TellsTruth names f problem) (tells : TellsVerdict f problem) where
    verdict-on : (verdict : Verdict) → IsVerdict problem verdict → IsVerdictOn f verdict
    verdict-on Valid is = λ v. ⊎_elim (λ holds. holds) (λ fails. absurd (is.1 (tells.counterexample.1 (v, fails)))) (truth-is-decided f v)
    verdict-on Unsatisfiable is = λ v holds. is.0 (tells.example.1 (v, holds))
    verdict-on Contingent is = (tells.example.0 is.0, tells.counterexample.0 is.1)
    verdict-on Vacuous is =
        let zeros : Valuation = λ name. 0 in
        ⊎_elim (λ holds. is.0 (tells.example.1 (zeros, holds))) (λ fails. is.1 (tells.counterexample.1 (zeros, fails))) (truth-is-decided f zeros)

    fails-of-names : (v w : Valuation) → Each (λ name. v name ≡ w name) names → FailsAt f v → FailsAt f w
    fails-of-names v w same fails = λ holds. fails (truth-is-of-free-names f w v (each-weaker (λ name. v name ≡ w name) (λ name. w name ≡ v name) (λ name is. sym is) names same) holds)

    pub number-answer : (answer : Answer) → IsAnswer problem answer → IsNumberAnswer f (number_answer_of answer)
    number-answer answer is = record {
      verdict = verdict-on answer.verdict is.verdict;
      example = first-numbers (MainYes problem) (Holds f) truth.yes (truth-is-of-free-names f) answer.example is.example;
      counterexample = first-numbers (MainNo problem) (FailsAt f) truth.no fails-of-names answer.counterexample is.counterexample;
    }

    pub shows-sets : (answer : Answer) → IsAnswer problem answer → AreSets answer.example × AreSets answer.counterexample
    shows-sets answer is = (
      are-sets (MainYes problem) (Holds f) truth.yes (truth-is-of-free-names f) answer.example is.example,
      are-sets (MainNo problem) (FailsAt f) truth.no fails-of-names answer.counterexample is.counterexample,
    )
