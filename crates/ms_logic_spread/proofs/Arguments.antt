-- Arguments, put in place of variables.
use Rattle.std.proofs.Common.{◌≡◌, ℕ, ◌≤◌, ◌⊎◌, inl, inr, ⊎_elim, List, [], ◌∷◌, Option, Some, None, IsNone, IsSomeAnd, arith}
use Rattle.ms_logic.specs.declared.mode.Order.{Order}
use Rattle.ms_logic.specs.declared.mode.Order.TheVariants.{Zero, One, Two}
use Rattle.ms_logic.specs.declared.assignment.Value.{Value}
use Rattle.ms_logic.specs.Assignment.{Env, Variable, assign_all}
use Rattle.ms_logic_core.specs.CoreForm.{CoreForm}
use Rattle.ms_logic.specs.FreeVariables.{Reads, IsBound, orders_of, FreeInArguments}
use Rattle.ms_logic_core.specs.Spread.{Names, Callees, numbers_and_sets, truth_values}
use Rattle.ms_logic.specs.Terms.{number_value, set_value}
use Rattle.ms_logic.specs.Tree.{truth_argument, number_argument, set_argument, Arguments, no_arguments, more_arguments}
use Rattle.ms_logic.specs.Truth.{Meanings, HaveValues, LacksValue, Import}
use Rattle.ms_logic_core.proofs.Saying.{Extends, extends-further, Reading, reading-extends}
use Rattle.ms_logic_spread.proofs.Equivalences.{iff_then, swapped}
use Rattle.ms_logic_spread.proofs.Keeping.{TruthsKept, truths_later}
use Rattle.ms_logic_spread.proofs.Numbers.{AreSaid, IsLacking, numbers_said}
use Rattle.ms_logic_spread.proofs.Places.{Places, places_along, places_after, reading_placed}
use Rattle.ms_logic_spread.proofs.Truths.{SaidAt, SomeValues, truths_said}

some_not_none : {A : Type 0} (P : A → Type 0) (o : Option A) → IsSomeAnd o P → IsNone o → ⊥
some_not_none P None held lacking = held
some_not_none P (Some x) held lacking = cc

-- arguments that have values lack none
lacks_none : (m : Meanings) (given : Arguments) (e : Env) (vs : List Value) → HaveValues m given e vs → LacksValue given e → ⊥
lacks_none m no_arguments e vs held lacking = lacking
lacks_none m (more_arguments a more) e [] held lacking = held
lacks_none m (more_arguments (truth_argument f) more) e (v ∷ vs) held lacking = lacks_none m more e vs held.1 lacking
lacks_none m (more_arguments (number_argument t) more) e (v ∷ vs) held lacking =
    ⊎_elim (some_not_none _ (number_value t e) held.0) (lacks_none m more e vs held.1) lacking
lacks_none m (more_arguments (set_argument s) more) e (v ∷ vs) held lacking =
    ⊎_elim (some_not_none _ (set_value s e) held.0) (lacks_none m more e vs held.1) lacking

module _ (m : Meanings) (k : Callees) (imports : List Import) where
  -- the variables of every order are in place, once the truth values are
  all_places : (xs : List ℕ) (given : Arguments) (names : Names) (free : ℕ) (e c : Env) (said : AreSaid m imports xs given names free e c) (vs : List Value) (place : Names → Names) (next : ℕ) (d : Env) →
      HaveValues m given e vs → said.next ≤ next → Extends said.next said.inner d → Places Zero xs (orders_of given) vs place next d →
      ((o : Order) (inner : Names) (z : ℕ) → (o ≡ Zero → ⊥) → place inner o z ≡ inner o z) →
      (o : Order) → Places o xs (orders_of given) vs (λ outer. place (said.place outer)) next d
  all_places xs given names free e c said vs place next d have later extends places others Zero =
      places_after Zero xs (orders_of given) vs place said.place next d said.others places
  all_places xs given names free e c said vs place next d have later extends places others One =
      places_along One xs (orders_of given) vs said.place (λ outer. place (said.place outer)) said.next next said.inner d later extends
      (λ outer z. others One (said.place outer) z (λ same. cc)) (said.places One (λ same. cc) vs have)
  all_places xs given names free e c said vs place next d have later extends places others Two =
      places_along Two xs (orders_of given) vs said.place (λ outer. place (said.place outer)) said.next next said.inner d later extends
      (λ outer z. others Two (said.place outer) z (λ same. cc)) (said.places Two (λ same. cc) vs have)

  -- one thing is said of some values of arguments, and another of some values or where a number or set has none
  abbrev Kept : List ℕ → Arguments → Names → ℕ → Env → Env → (Names → ℕ → CoreForm) → (List Value → Type 0) → (List Value → Type 0) → Type 0
  Kept xs given names free e c Said Y N =
      SaidAt m k imports (SomeValues m k imports given e Y) (LacksValue given e ⊎ SomeValues m k imports given e N)
      (numbers_and_sets xs given names names free (λ inner next. truth_values k xs given names inner next Said)) c

  -- something is said with names in which variables have the values of arguments
  pub arguments_said : (r : Reads) (Outside InScope : Variable → Type 0) (xs : List ℕ) (given : Arguments) (names : Names) (free : ℕ) (e c : Env) (Said : Names → ℕ → CoreForm) (Y N : List Value → Type 0) →
      Reading (FreeInArguments r given) names free e c → Reading Outside names free e c → ((w : Variable) → InScope w → (IsBound xs (orders_of given) w → ⊥) → Outside w) →
      TruthsKept m k imports given names free e c →
      ((vs : List Value) (inner : Names) (next : ℕ) (d : Env) → Reading InScope inner next (assign_all xs vs e) d → SaidAt m k imports (Y vs) (N vs) (Said inner next) d) →
      Kept xs given names free e c Said Y N
  arguments_said r Outside InScope xs given names free e c Said Y N reading outer_reading outer kept means =
      ⊎_elim there lacking (numbers_said m imports r xs given names free e c reading)
    where
      lacking : IsLacking m imports xs given names free e c → Kept xs given names free e c Said Y N
      lacking none = (
        (λ some. absurd (lacks_none m given e some.0 some.1 none.lacks), λ holds. absurd (none.not_yes names (λ inner next. truth_values k xs given names inner next Said) holds)),
        (λ either. none.no names (λ inner next. truth_values k xs given names inner next Said), λ fails. inl none.lacks),
      )

      there : AreSaid m imports xs given names free e c → Kept xs given names free e c Said Y N
      there said =
          let truths = truths_said m k imports r xs given names (said.place names) said.next e said.inner Said Y N said.there
          (reading-extends _ names free said.next e c said.inner said.later said.extends reading) (truths_later m k imports given names free said.next e c said.inner said.later said.extends kept)
          (λ vs place next d have later extends places others.
          means vs (place (said.place names)) next d
          (reading_placed Outside InScope xs (orders_of given) vs (λ inner. place (said.place inner)) names free next e c d (let first = said.later in omega arith)
          (extends-further free said.next c said.inner d said.later said.extends extends)
          (all_places xs given names free e c said vs place next d have later extends places others) outer outer_reading)) in (
            iff_then truths.0 (swapped (said.yes names (λ inner next. truth_values k xs given names inner next Said))),
            iff_then (λ either. ⊎_elim (λ lacks. absurd (said.there lacks)) (λ some. some) either, λ some. inr some) (iff_then truths.1 (swapped (said.no names (λ inner next. truth_values k xs given names inner next Said)))),
          )
