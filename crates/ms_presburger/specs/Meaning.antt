-- What a source of WS1S tells of numbers.
use Rattle.std.specs.Prelude.{◌≡◌, ℕ, ◌↔◌, List}
use Rattle.ms_logic.specs.Assignment.{Env}
use Rattle.ms_logic.specs.Lists.{Each}
use Rattle.ms_logic.specs.Verdict.{Problem, Assigns, MainYes, MainNo, HasExample, HasCounterexample}
use Rattle.ms_presburger.specs.Digits.{number_of}
use Rattle.ms_presburger.specs.Numbers.{Valuation, Holds}
use Rattle.ms_presburger.specs.Source.{place_of}
use Rattle.ms_presburger.specs.Tree.{Arithmetic}

-- the numbers that an assignment of sets gives to names: each that of the set of the name's variable
abbrev pub numbers_of : List (List ℕ) → Env → Valuation
numbers_of names e = λ name. number_of (e.set (place_of names name))

-- The main value of a source at an assignment of sets is Yes where a formula holds of their numbers, and No where it does not.
pub record TellsTruth (names : List (List ℕ)) (f : Arithmetic) (problem : Problem) : Type 0 where
  pub yes : (e : Env) → Assigns problem e → MainYes problem e ↔ Holds f (numbers_of names e)
  pub no : (e : Env) → Assigns problem e → MainNo problem e ↔ (¬ Holds f (numbers_of names e))

-- each valuation is, at these names, that of an assignment of sets
abbrev pub IsOverNumbers : List (List ℕ) → Problem → Type 0
IsOverNumbers names problem = (v : Valuation) → (e : Env) × Assigns problem e × Each (λ name. numbers_of names e name ≡ v name) names

-- A source has an example exactly where a formula holds at some valuation, and a counterexample exactly where it fails at one.
pub record TellsVerdict (f : Arithmetic) (problem : Problem) : Type 0 where
  pub example : HasExample problem ↔ ((v : Valuation) × Holds f v)
  pub counterexample : HasCounterexample problem ↔ ((v : Valuation) × ¬ Holds f v)
