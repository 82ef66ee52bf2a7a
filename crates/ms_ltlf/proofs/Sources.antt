-- The source of strings for a formula tells of each trace whether the formula holds.
use Rattle.std.proofs.Common.{◌≡◌, ℕ, ◌<◌, false, ◌↔◌, ⊎_elim, List, [], ◌∷◌, length, map, Some, None, IsSome, refl, sym, ◌∙◌, ap, subst, arith}
use Rattle.std.proofs.lemmas.Bool.{cases_lt}
use Rattle.ms_logic.specs.declared.assignment.Value.TheVariants.{Number}
use Rattle.ms_logic.specs.declared.checked.Checked.{Checked}
use Rattle.ms_logic.specs.declared.mode.Mode.TheVariants.{M2lStr}
use Rattle.ms_logic.specs.declared.mode.Rel.TheVariants.{Equal}
use Rattle.ms_logic.specs.Assignment.{Universe, Env, AllWithin, assign}
use Rattle.ms_logic.specs.Lists.{Each}
use Rattle.ms_logic.specs.Tree.{Form, number_variable, numeral, comparison}
use Rattle.ms_logic.specs.Tree as string
use Rattle.ms_logic.specs.Truth.{AllMet}
use Rattle.ms_logic.specs.Verdict.{Assigns, MainYes, MainNo}
use Rattle.ms_logic.specs.View.{Answers, globals_from, main_question, problem_of}
use Rattle.ms_ltlf.specs.Tree.{Temporal}
use Rattle.ms_ltlf.specs.Trace.{FiniteTrace, HoldsAt}
use Rattle.ms_ltlf.specs.Meaning.{length_of, trace_of, TellsTruth, IsOverTraces, TellsVerdict}
use Rattle.ms_ltlf.specs.Source.{IsStringSource, string_formulas, string_problem}
use Rattle.ms_ltlf.specs.Strings.{string_form, at_the_start}
use Rattle.ms_ltlf.proofs.Guarded.{guarded-yes, guarded-no, guarded-never}
use Rattle.ms_ltlf.proofs.Positions.{StandsAt, stands-bound, value-variable, value-zero, agrees-equal}
use Rattle.ms_ltlf.proofs.Quantifiers.{agrees-exists}
use Rattle.ms_ltlf.proofs.Translated.{translated}
use Rattle.ms_translation.specs.Parts.{two}
use Rattle.ms_translation.specs.Source.{global_of}
use Rattle.ms_translation.proofs.Agreeing.{Agrees, along, agrees-two}
use Rattle.ms_translation.proofs.Asked.{consistent, main-same, meanings}
use Rattle.ms_translation.proofs.Asked as asked
use Rattle.ms_translation.proofs.Globals.{all-met, gives-sets, sets-given}

-- whatever its imports answer, since it has none
pub problem-same : (names : List (List ℕ)) (f : Temporal) (made : Checked) (answers : Answers) → IsStringSource names f made → string_problem names f ≡ problem_of made answers
problem-same names f made answers is = asked.problem-same M2lStr names (string_formulas (length names) f) made is answers

-- the universe of an assignment is a string
pub some-length : (u : Universe) → IsSome u → u ≡ Some (length_of u)
some-length None given = absurd cc
some-length (Some n) given = refl

-- ex1 x: x = 0 & S(f, x)
start-agrees : (f : Temporal) (n x : ℕ) (e : Env) → e.universe ≡ Some n → 0 < n → Agrees meanings (at_the_start x (string_form f x)) e (HoldsAt (record { length = n; positions = e.set }) f 0)
start-agrees f n x e universe positive =
    let t : FiniteTrace = record { length = n; positions = e.set } in
    let Holds : ℕ → Type 0 = HoldsAt t f in
    let first : Form = comparison Equal (number_variable x) (numeral 0) in
    along meanings (at_the_start x (string_form f x)) e ((j : ℕ) × (j < n) × ((j ≡ 0) × Holds j)) (Holds 0)
    ((λ some. subst Holds some.2.0 some.2.1), (λ held. (0, positive, (refl, held))))
    (agrees-exists meanings consistent (string.conjunction (two first (string_form f x))) n x e (λ j. (j ≡ 0) × Holds j) universe positive
    (λ j below. let there : Env = assign x (Number j) e in let stands : StandsAt there n x j = stands-bound e n x j universe below in
    agrees-two meanings first (string_form f x) there (j ≡ 0) (Holds j)
    (agrees-equal meanings (number_variable x) (numeral 0) there j 0 (value-variable there n x j stands) (value-zero there n universe positive))
    (translated meanings consistent f n x j there stands)))

module _ (names : List (List ℕ)) (f : Temporal) where
  abbrev count : ℕ
  count = length names

  module _ (e : Env) (assigned : Assigns (string_problem names f) e) where
    abbrev size : ℕ
    size = length_of e.universe

    of-size : e.universe ≡ Some size
    of-size = some-length e.universe assigned.universe

    main-agrees : 0 < size → Agrees meanings (at_the_start count (string_form f count)) e (HoldsAt (trace_of e) f 0)
    main-agrees positive = start-agrees f size count e of-size positive

    met : AllMet meanings (globals_from 0 (map global_of names)) e
    met = all-met meanings names 0 e

    main-yes : 0 < size → MainYes (string_problem names f) e ↔ HoldsAt (trace_of e) f 0
    main-yes positive =
        let same = guarded-yes count (at_the_start count (string_form f count)) size e (HoldsAt (trace_of e) f 0) of-size positive (main-agrees positive) in
        ((λ main. same.0 main.1), (λ held. (met, same.1 held)))

    main-no : 0 < size → MainNo (string_problem names f) e ↔ (¬ HoldsAt (trace_of e) f 0)
    main-no positive =
        let same = guarded-no count (at_the_start count (string_form f count)) size e (HoldsAt (trace_of e) f 0) of-size positive (main-agrees positive) in
        ((λ main. same.0 main.1), (λ fails. (met, same.1 fails)))

    main-empty : size ≡ 0 → (¬ MainYes (string_problem names f) e) × (¬ MainNo (string_problem names f) e)
    main-empty none =
        let never = guarded-never count (at_the_start count (string_form f count)) e (of-size ∙ ap (λ k. Some k) none) in
        ((λ main. never.0 main.1), (λ main. never.1 main.1))

  truth-told : TellsTruth f (string_problem names f)
  truth-told = record { yes = main-yes; no = main-no; empty = main-empty }

all-below : (n : ℕ) (members : List ℕ) → AllWithin (Some n) members → Each (λ i. i < n) members
all-below n [] within = tt
all-below n (i ∷ more) within = (within.0, all-below n more within.1)

each-within : (n : ℕ) (members : List ℕ) → Each (λ i. i < n) members → AllWithin (Some n) members
each-within n [] below = tt
each-within n (i ∷ more) below = (below.0, each-within n more below.1)

traces-assigned : (names : List (List ℕ)) (f : Temporal) → IsOverTraces (length names) (string_problem names f)
traces-assigned names f = record {
  each_assignment = λ e assigned positive.
      let sets = λ (p : ℕ) (below : p < length names). sets-given names 0 e assigned.values p (omega arith) (omega (arith, below)) in
      let of-size = some-length e.universe assigned.universe in
      record {
        has_position = positive;
        sets = λ p below. (sets p below).0;
        within = λ p below. all-below (length_of e.universe) (e.set p) (let P : Universe → Type 0 = λ u. AllWithin u (e.set p) in subst P of-size (sets p below).1);
      };
  each_trace = λ t is.
      let e : Env = record { universe = Some t.length; truth = λ x. false; number = λ x. 0; set = t.positions } in (
        e,
        record {
          universe = refl;
          values = gives-sets names 0 e (λ p from below. (is.sets p (omega (arith, below)), each-within t.length (t.positions p) (is.within p (omega (arith, below)))));
        },
        refl,
      );
}

verdict-told : (names : List (List ℕ)) (f : Temporal) → TellsVerdict (length names) f (string_problem names f)
verdict-told names f =
    let problem = string_problem names f in
    let truth = truth-told names f in
    let traces = traces-assigned names f in
    record {
      example = (
        (λ found. ⊎_elim (λ positive. (trace_of found.0, traces.each_assignment found.0 found.1 positive, (truth.yes found.0 found.1 positive).0 found.2)) (λ none. absurd ((truth.empty found.0 found.1 (omega (arith, none))).0 found.2)) (cases_lt 0 (trace_of found.0).length)),
        (λ found. let given = traces.each_trace found.0 found.1 in
            let positive : 0 < (trace_of given.0).length = let P : FiniteTrace → Type 0 = λ t. 0 < t.length in subst P (sym given.2) found.1.has_position in
            (given.0, given.1, (truth.yes given.0 given.1 positive).1 (let P : FiniteTrace → Type 0 = λ t. HoldsAt t f 0 in subst P (sym given.2) found.2))),
      );
      counterexample = (
        (λ found. ⊎_elim (λ positive. (trace_of found.0, traces.each_assignment found.0 found.1 positive, (truth.no found.0 found.1 positive).0 found.2)) (λ none. absurd ((truth.empty found.0 found.1 (omega (arith, none))).1 found.2)) (cases_lt 0 (trace_of found.0).length)),
        (λ found. let given = traces.each_trace found.0 found.1 in
            let positive : 0 < (trace_of given.0).length = let P : FiniteTrace → Type 0 = λ t. 0 < t.length in subst P (sym given.2) found.1.has_position in
            (given.0, given.1, (truth.no given.0 given.1 positive).1 (let P : FiniteTrace → Type 0 = λ t. ¬ HoldsAt t f 0 in subst P (sym given.2) found.2))),
      );
    }

-- for whatever is made as the source says

pub tells-truth : (names : List (List ℕ)) (f : Temporal) (made : Checked) (answers : Answers) → IsStringSource names f made → TellsTruth f (main_question made answers)
tells-truth names f made answers is = subst (TellsTruth f) (main-same M2lStr names (string_formulas (length names) f) made is answers) (truth-told names f)

pub is-over-traces : (names : List (List ℕ)) (f : Temporal) (made : Checked) (answers : Answers) → IsStringSource names f made → IsOverTraces (length names) (main_question made answers)
is-over-traces names f made answers is = subst (IsOverTraces (length names)) (main-same M2lStr names (string_formulas (length names) f) made is answers) (traces-assigned names f)

pub tells-verdict : (names : List (List ℕ)) (f : Temporal) (made : Checked) (answers : Answers) → IsStringSource names f made → TellsVerdict (length names) f (main_question made answers)
tells-verdict names f made answers is = subst (TellsVerdict (length names) f) (main-same M2lStr names (string_formulas (length names) f) made is answers) (verdict-told names f)
