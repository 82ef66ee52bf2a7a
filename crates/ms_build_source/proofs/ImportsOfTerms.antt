-- The spread of a term adds no import.
use Rattle.std.proofs.Common.{ℕ, zero, suc, ◌+◌, ◌/◌, List, [], ◌∷◌, length, take, drop}
use Rattle.ms_logic_core.specs.declared.core_formula.Basic.TheVariants as Basic
use Rattle.ms_logic.specs.declared.mode.Order.TheVariants.{One, Two}
use Rattle.ms_logic_core.specs.CoreForm.{basic}
use Rattle.ms_logic_core.specs.Spread.{Names, Saying, TermSpread, first_half, second_half, is_minus, is_only_member, set_of_elements, spread_elements, spread_number, spread_set}
use Rattle.ms_logic.specs.Tree.{Term, number_variable, numeral, plus, minus, minimum, maximum, SetTerm, set_variable, empty_set, whole, literal, pconst, union, intersection, difference, shift_up, shift_down, Terms, no_terms, more_terms}
use Rattle.ms_dag.specs.Imports.{ImportsBelow}

module _ (count : ℕ) where
  -- the imports of what is said are below the count
  abbrev pub Says : Saying → Type 0
  Says Said = (free y : ℕ) → ImportsBelow count (Said free y)

  abbrev pub AddsNone : TermSpread → Type 0
  AddsNone T = (free : ℕ) (Said : Saying) → Says Said → ImportsBelow count (T free Said)

  abbrev AllAddNone : List TermSpread → Type 0
  AllAddNone [] = Unit {0}
  AllAddNone (T ∷ Ts) = AddsNone T × AllAddNone Ts

  first_add : (k : ℕ) (Ts : List TermSpread) → AllAddNone Ts → AllAddNone (take k Ts)
  first_add zero Ts all = tt
  first_add (suc k) [] all = tt
  first_add (suc k) (T ∷ Ts) all = (all.0, first_add k Ts all.1)

  later_add : (k : ℕ) (Ts : List TermSpread) → AllAddNone Ts → AllAddNone (drop k Ts)
  later_add zero Ts all = all
  later_add (suc k) [] all = tt
  later_add (suc k) (T ∷ Ts) all = later_add k Ts all.1

  only_member : (y : ℕ) → Says (is_only_member y)
  only_member y free x = (tt, ((tt, (tt, tt)), tt))

  difference_of : (y n : ℕ) → Says (is_minus y n)
  difference_of y n free x = (tt, ((tt, ((tt, tt), tt)), tt))

  elements_add : (rounds : ℕ) (Ts : List TermSpread) → AllAddNone Ts → AddsNone (set_of_elements rounds Ts)
  elements_add rounds [] all free Said said = (tt, said (free + 1) free)
  elements_add zero (T ∷ []) all free Said said = (all.0 (free + 1) (is_only_member free) (only_member free), said (free + 1) free)
  elements_add (suc rounds) (T ∷ []) all free Said said = (all.0 (free + 1) (is_only_member free) (only_member free), said (free + 1) free)
  elements_add zero (T ∷ U ∷ Ts) all free Said said = (tt, said (free + 1) free)
  elements_add (suc rounds) (T ∷ U ∷ Ts) all free Said said =
      let items = T ∷ U ∷ Ts in
      let half = (length items + 1) / 2 in (
        elements_add rounds (first_half items) (first_add half items all) (free + 1)
            (λ inner s. set_of_elements rounds (second_half items) inner (λ next t. basic (Basic.Union free s t)))
            (λ inner s. elements_add rounds (second_half items) (later_add half items all) inner (λ next t. basic (Basic.Union free s t)) (λ next t. tt)),
        said (free + 1) free,
      )

  mutual
    pub number_adds : (t : Term) (names : Names) → AddsNone (spread_number t names)
    number_adds (number_variable x) names free Said said = said free (names One x)
    number_adds (numeral n) names free Said said = (tt, said (free + 1) free)
    number_adds (plus t n) names free Said said = (number_adds t names (free + 1) (λ next x. basic (Basic.Plus free x n)) (λ next x. tt), said (free + 1) free)
    number_adds (minus t n) names free Said said = (number_adds t names (free + 1) (is_minus free n) (difference_of free n), said (free + 1) free)
    number_adds (minimum s) names free Said said = (set_adds s names (free + 1) (λ next x. basic (Basic.Min free x)) (λ next x. tt), said (free + 1) free)
    number_adds (maximum s) names free Said said = (set_adds s names (free + 1) (λ next x. basic (Basic.Max free x)) (λ next x. tt), said (free + 1) free)

    pub set_adds : (s : SetTerm) (names : Names) → AddsNone (spread_set s names)
    set_adds (set_variable x) names free Said said = said free (names Two x)
    set_adds empty_set names free Said said = (tt, said (free + 1) free)
    set_adds whole names free Said said = ((tt, tt), said (free + 1) free)
    set_adds (literal ts) names free Said said = elements_add (length (spread_elements ts names)) (spread_elements ts names) (each_adds ts names) free Said said
    set_adds (pconst n) names free Said said = (tt, said (free + 1) free)
    set_adds (union s t) names free Said said = (
      set_adds s names (free + 1) (λ next u. spread_set t names next (λ last v. basic (Basic.Union free u v)))
          (λ next u. set_adds t names next (λ last v. basic (Basic.Union free u v)) (λ last v. tt)),
      said (free + 1) free,
    )
    set_adds (intersection s t) names free Said said = (
      set_adds s names (free + 1) (λ next u. spread_set t names next (λ last v. basic (Basic.Inter free u v)))
          (λ next u. set_adds t names next (λ last v. basic (Basic.Inter free u v)) (λ last v. tt)),
      said (free + 1) free,
    )
    set_adds (difference s t) names free Said said = (
      set_adds s names (free + 1) (λ next u. spread_set t names next (λ last v. basic (Basic.Diff free u v)))
          (λ next u. set_adds t names next (λ last v. basic (Basic.Diff free u v)) (λ last v. tt)),
      said (free + 1) free,
    )
    set_adds (shift_up s n) names free Said said = (set_adds s names (free + 1) (λ next x. basic (Basic.Up free x n)) (λ next x. tt), said (free + 1) free)
    set_adds (shift_down s n) names free Said said = (set_adds s names (free + 1) (λ next x. basic (Basic.Down free x n)) (λ next x. tt), said (free + 1) free)

    each_adds : (ts : Terms) (names : Names) → AllAddNone (spread_elements ts names)
    each_adds no_terms names = tt
    each_adds (more_terms t ts) names = (number_adds t names, each_adds ts names)
