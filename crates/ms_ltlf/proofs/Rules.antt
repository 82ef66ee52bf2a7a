-- The source of strings is well numbered and meets the rules of checked sources.
use Rattle.std.proofs.Common.{◌≢◌, ℕ, ◌+◌, ◌-◌, ◌*◌, ◌<◌, ◌≤◌, zero, suc, List, [], ◌∷◌, length, refl, arith}
use Rattle.std.specs.Prelude.{AllPairs}
use Rattle.ms_logic.specs.declared.checked.Checked.{Checked}
use Rattle.ms_logic.specs.declared.mode.Mode.{Mode}
use Rattle.ms_logic.specs.declared.mode.Mode.TheVariants.{M2lStr}
use Rattle.ms_logic.specs.declared.mode.Order.{Order}
use Rattle.ms_logic.specs.declared.mode.Order.TheVariants.{One}
use Rattle.ms_logic.specs.Lists.{Each}
use Rattle.ms_names_rules.specs.Numbers.{IsWellNumbered}
use Rattle.ms_names_checked.specs.Checked.{MeetsRules}
use Rattle.ms_names_checked.specs.Constants.{AreInRange, IsInRange}
use Rattle.ms_names_checked.specs.Exports.{ListsFreeVariables}
use Rattle.ms_names_checked.specs.Orders.{BindsInOrder, EachBindsInOrder, HasOrder}
use Rattle.ms_ltlf.specs.Tree.{Temporal, truth, falsity, proposition, brackets, negation, conjunction, disjunction, implication, equivalence, next, weak_next, eventually, always, until, release, Temporals, no_temporals, more_temporals, depth, depth_of_all, IsOver}
use Rattle.ms_ltlf.specs.Source.{IsStringSource, string_formulas}
use Rattle.ms_ltlf.specs.Strings.{string_form, string_forms}
use Rattle.ms_ltlf.proofs.Exports.{none-exported}
use Rattle.ms_ltlf.proofs.Seen.{source-numbered}
use Rattle.ms_translation.proofs.Rules.{behind-sets, sets_then}
use Rattle.ms_translation.proofs.Rules as rules

-- constants

module _ (mode : Mode) where
  mutual
    in-range : (f : Temporal) (x : ℕ) → IsInRange mode (string_form f x)
    in-range truth x = tt
    in-range falsity x = tt
    in-range (proposition p) x = (tt, tt)
    in-range (brackets f) x = in-range f x
    in-range (negation f) x = in-range f x
    in-range (conjunction fs) x = all-in-range fs x
    in-range (disjunction fs) x = all-in-range fs x
    in-range (implication f g) x = (in-range f x, in-range g x)
    in-range (equivalence f g) x = (in-range f x, in-range g x)
    in-range (next f) x = (tt, ((tt, tt, (tt, omega arith)), (in-range f (x + 1), tt)))
    in-range (weak_next f) x = (tt, ((tt, tt, (tt, omega arith)), in-range f (x + 1)))
    in-range (eventually f) x = (tt, ((tt, tt, tt), (in-range f (x + 1), tt)))
    in-range (always f) x = (tt, ((tt, tt, tt), in-range f (x + 1)))
    in-range (until f g) x = (tt, ((tt, tt, tt), (in-range g (x + 1), ((tt, (((tt, tt, tt), ((tt, tt, tt), tt)), in-range f (x + 2))), tt))))
    in-range (release f g) x = (tt, ((tt, tt, tt), (in-range g (x + 1), ((tt, ((tt, tt, tt), ((tt, tt, tt), (in-range f (x + 2), tt)))), tt))))

    all-in-range : (fs : Temporals) (x : ℕ) → AreInRange mode (string_forms fs x)
    all-in-range no_temporals x = tt
    all-in-range (more_temporals f fs) x = (in-range f x, all-in-range fs x)

-- orders: sets up to a number, and numbers behind it

ones : ℕ → List Order
ones zero = []
ones (suc many) = One ∷ ones many

one-there : (many x : ℕ) → x < many → HasOrder (ones many) x One
unfolding ones
one-there zero x below = absurd (omega (arith, below))
one-there (suc many) zero below = refl
one-there (suc many) (suc x) below = one-there many x (omega (arith, below))

number-there : (count many x : ℕ) → count ≤ x → x < count + many → HasOrder (sets_then count (ones many)) x One
number-there count many x above below = behind-sets count (ones many) (x - count) x One (omega (arith, above)) (one-there many (x - count) (omega (arith, above, below)))

module _ (count many : ℕ) where
  mutual
    in-order : (f : Temporal) (x : ℕ) → count ≤ x → x + 2 * depth f < count + many → BindsInOrder (sets_then count (ones many)) (string_form f x)
    in-order truth x above below = tt
    in-order falsity x above below = tt
    in-order (proposition p) x above below = tt
    in-order (brackets f) x above below = in-order f x above (omega (arith, below))
    in-order (negation f) x above below = in-order f x above (omega (arith, below))
    in-order (conjunction fs) x above below = all-in-order fs x above (omega (arith, below))
    in-order (disjunction fs) x above below = all-in-order fs x above (omega (arith, below))
    in-order (implication f g) x above below = (in-order f x above (omega (arith, below)), in-order g x above (omega (arith, below)))
    in-order (equivalence f g) x above below = (in-order f x above (omega (arith, below)), in-order g x above (omega (arith, below)))
    in-order (next f) x above below =
        (number-there count many (x + 1) (omega (arith, above)) (omega (arith, below)), tt, (tt, (in-order f (x + 1) (omega (arith, above)) (omega (arith, below)), tt)))
    in-order (weak_next f) x above below =
        (number-there count many (x + 1) (omega (arith, above)) (omega (arith, below)), tt, (tt, in-order f (x + 1) (omega (arith, above)) (omega (arith, below))))
    in-order (eventually f) x above below =
        (number-there count many (x + 1) (omega (arith, above)) (omega (arith, below)), tt, (tt, (in-order f (x + 1) (omega (arith, above)) (omega (arith, below)), tt)))
    in-order (always f) x above below =
        (number-there count many (x + 1) (omega (arith, above)) (omega (arith, below)), tt, (tt, in-order f (x + 1) (omega (arith, above)) (omega (arith, below))))
    in-order (until f g) x above below = (
      number-there count many (x + 1) (omega (arith, above)) (omega (arith, below)),
      tt,
      (
        tt,
        (
          in-order g (x + 1) (omega (arith, above)) (omega (arith, below)),
          ((number-there count many (x + 2) (omega (arith, above)) (omega (arith, below)), tt, ((tt, (tt, tt)), in-order f (x + 2) (omega (arith, above)) (omega (arith, below)))), tt),
        ),
      ),
    )
    in-order (release f g) x above below = (
      number-there count many (x + 1) (omega (arith, above)) (omega (arith, below)),
      tt,
      (
        tt,
        (
          in-order g (x + 1) (omega (arith, above)) (omega (arith, below)),
          ((number-there count many (x + 2) (omega (arith, above)) (omega (arith, below)), tt, (tt, (tt, (in-order f (x + 2) (omega (arith, above)) (omega (arith, below)), tt)))), tt),
        ),
      ),
    )

    all-in-order : (fs : Temporals) (x : ℕ) → count ≤ x → x + 2 * depth_of_all fs < count + many → EachBindsInOrder (sets_then count (ones many)) (string_forms fs x)
    all-in-order no_temporals x above below = tt
    all-in-order (more_temporals f fs) x above below = (in-order f x above (omega (arith, below)), all-in-order fs x above (omega (arith, below)))

-- the source

module _ (names : List (List ℕ)) (f : Temporal) where
  abbrev count : ℕ
  count = length names

  abbrev many : ℕ
  many = 2 * depth f + 1

  source-in-order : Each (BindsInOrder (sets_then count (ones many))) (string_formulas count f)
  source-in-order =
      let first = number-there count many count (omega arith) (omega arith) in
      ((first, tt, tt), ((first, tt, (tt, (in-order count many f count (omega arith) (omega arith), tt))), tt))

  source-in-range : Each (IsInRange M2lStr) (string_formulas count f)
  source-in-range = ((tt, (tt, tt, tt)), ((tt, ((tt, tt, omega arith), (in-range M2lStr f count, tt))), tt))

  module _ (made : Checked) (is : IsStringSource names f made) where
    pub is-well-numbered : IsOver count f → IsWellNumbered made
    is-well-numbered over = rules.is-well-numbered M2lStr names (string_formulas count f) made is (λ tables. source-numbered tables 0 names f over) (none-exported f count)

    pub lists-free-variables : ListsFreeVariables made
    lists-free-variables = rules.lists-free-variables M2lStr names (string_formulas count f) made is (none-exported f count)

    pub meets-rules : AllPairs (λ one other. one ≢ other) names → MeetsRules made
    meets-rules different = rules.meets-rules M2lStr names (string_formulas count f) made is different (none-exported f count) (ones many) source-in-order source-in-range
