-- Truth over numbers is decided (Presburger, 1929), since each formula has a machine.
use Rattle.std.proofs.Common.{◌≡◌, ℕ, ◌<◌, ◌≤◌, ◌⊎◌, ◌↔◌, inl, inr, ⊎_elim, List, [], ◌∷◌, arith}
use Rattle.std.proofs.lemmas.Bool.{cases_lt}
use Rattle.ms_logic.specs.declared.mode.Quant.TheVariants.{Ex, All}
use Rattle.ms_logic.specs.declared.mode.Rel.{Rel}
use Rattle.ms_logic.specs.declared.mode.Rel.TheVariants.{Equal, Differs, Less, AtMost, Greater, AtLeast, Member, NotMember, Sub}
use Rattle.ms_logic.specs.Truth.{NumbersRelate}
use Rattle.ms_presburger.specs.declared.linear.Part.{Part}
use Rattle.ms_presburger.specs.Numbers.{Valuation, with_number, value_of_sum, AtSome, AtAll, Holds, EachHolds, SomeHolds}
use Rattle.ms_presburger.specs.Tree.{Arithmetic, truth, falsity, comparison, brackets, negation, conjunction, disjunction, implication, equivalence, quantified, Arithmetics, no_arithmetics, more_arithmetics}
use Rattle.ms_presburger.specs.inner.Laws.{TruthIsDecided}
use Rattle.ms_presburger.proofs.Comparisons.{at-most-machine}
use Rattle.ms_presburger.proofs.Machines.{Machine, IsConnective, machine-along, machine-decides, opposite-machine, both-machines, some-machine}

both : IsConnective (λ A B. A × B)
both = record {
  respects = λ A B A' B' one other held. (one.0 held.0, other.0 held.1);
  decides = λ A B one other. ⊎_elim (λ a. ⊎_elim (λ b. inl (a, b)) (λ fails. inr (λ held. fails held.1)) other) (λ fails. inr (λ held. fails held.0)) one;
}

either : IsConnective (λ A B. A ⊎ B)
either = record {
  respects = λ A B A' B' one other held. ⊎_elim (λ a. inl (one.0 a)) (λ b. inr (other.0 b)) held;
  decides = λ A B one other. ⊎_elim (λ a. inl (inl a)) (λ fails. ⊎_elim (λ b. inl (inr b)) (λ fails'. inr (λ held. ⊎_elim fails fails' held)) other) one;
}

leads : IsConnective (λ A B. A → B)
leads = record {
  respects = λ A B A' B' one other held a. other.0 (held (one.1 a));
  decides = λ A B one other. ⊎_elim (λ b. inl (λ a. b)) (λ fails. ⊎_elim (λ a. inr (λ held. fails (held a))) (λ never. inl (λ a. absurd (never a))) one) other;
}

same : IsConnective (λ A B. A ↔ B)
same = record {
  respects = λ A B A' B' one other held. ((λ a. other.0 (held.0 (one.1 a))), (λ b. one.0 (held.1 (other.1 b))));
  decides = λ A B one other.
      ⊎_elim (λ a. ⊎_elim (λ b. inl ((λ _. b), (λ _. a))) (λ fails. inr (λ held. fails (held.0 a))) other)
      (λ fails. ⊎_elim (λ b. inr (λ held. fails (held.1 b))) (λ fails'. inl ((λ a. absurd (fails a)), (λ b. absurd (fails' b)))) other) one;
}

truth-machine : Machine (λ v. Unit {0})
truth-machine = machine-along (λ v. value_of_sum [] v ≤ value_of_sum [] v) (λ v. Unit {0}) (λ v. ((λ _. tt), (λ _. omega arith))) (at-most-machine [] [])

falsity-machine : Machine (λ v. ⊥)
falsity-machine = machine-along (λ v. ¬ Unit {0}) (λ v. ⊥) (λ v. ((λ fails. fails tt), (λ never _. never))) (opposite-machine (λ v. Unit {0}) truth-machine)

below-is : (a b : ℕ) → (¬ (b ≤ a)) ↔ (a < b)
below-is a b = ((λ fails. ⊎_elim (λ less. less) (λ above. absurd (fails above)) (cases_lt a b)), (λ less above. omega (arith, less, above)))

module _ (left right : List Part) where
  at-most : Machine (λ v. value_of_sum left v ≤ value_of_sum right v)
  at-most = at-most-machine left right

  at-least : Machine (λ v. value_of_sum right v ≤ value_of_sum left v)
  at-least = at-most-machine right left

  equal : Machine (λ v. value_of_sum left v ≡ value_of_sum right v)
  equal =
      machine-along (λ v. (value_of_sum left v ≤ value_of_sum right v) × (value_of_sum right v ≤ value_of_sum left v)) (λ v. value_of_sum left v ≡ value_of_sum right v)
      (λ v. ((λ held. omega (arith, held.0, held.1)), (λ is. (omega (arith, is), omega (arith, is)))))
      (both-machines (λ A B. A × B) both (λ v. value_of_sum left v ≤ value_of_sum right v) (λ v. value_of_sum right v ≤ value_of_sum left v) at-most at-least)

  compared : (r : Rel) → Machine (λ v. NumbersRelate r (value_of_sum left v) (value_of_sum right v))
  compared Equal = equal
  compared Differs = opposite-machine (λ v. value_of_sum left v ≡ value_of_sum right v) equal
  compared Less =
      machine-along (λ v. ¬ (value_of_sum right v ≤ value_of_sum left v)) (λ v. value_of_sum left v < value_of_sum right v) (λ v. below-is (value_of_sum left v) (value_of_sum right v))
      (opposite-machine (λ v. value_of_sum right v ≤ value_of_sum left v) at-least)
  compared AtMost = at-most
  compared Greater =
      machine-along (λ v. ¬ (value_of_sum left v ≤ value_of_sum right v)) (λ v. value_of_sum right v < value_of_sum left v) (λ v. below-is (value_of_sum right v) (value_of_sum left v))
      (opposite-machine (λ v. value_of_sum left v ≤ value_of_sum right v) at-most)
  compared AtLeast = at-least
  compared Member = falsity-machine
  compared NotMember = falsity-machine
  compared Sub = falsity-machine

module _ (P : Valuation → Type 0) (m : Machine P) where
  some : (names : List (List ℕ)) → Machine (λ v. AtSome names P v)
  some [] = m
  some (x ∷ names) = some-machine x (λ v. AtSome names P v) (some names)

  all : (names : List (List ℕ)) → Machine (λ v. AtAll names P v)
  all [] = m
  all (x ∷ names) =
      let Inner : Valuation → Type 0 = λ v. AtAll names P v in
      machine-along (λ v. ¬ ((n : ℕ) × ¬ Inner (with_number x n v))) (λ v. (n : ℕ) → Inner (with_number x n v))
      (λ v. (
        (λ none n. ⊎_elim (λ held. held) (λ fails. absurd (none (n, fails))) (machine-decides Inner (all names) (with_number x n v))),
        (λ each found. found.1 (each found.0)),
      ))
      (opposite-machine (λ v. (n : ℕ) × ¬ Inner (with_number x n v)) (some-machine x (λ v. ¬ Inner v) (opposite-machine Inner (all names))))

mutual
  machine : (f : Arithmetic) → Machine (Holds f)
  machine truth = truth-machine
  machine falsity = falsity-machine
  machine (comparison r left right) = compared left right r
  machine (brackets f) = machine f
  machine (negation f) = opposite-machine (Holds f) (machine f)
  machine (conjunction fs) = each-machine fs
  machine (disjunction fs) = any-machine fs
  machine (implication f g) = both-machines (λ A B. A → B) leads (Holds f) (Holds g) (machine f) (machine g)
  machine (equivalence f g) = both-machines (λ A B. A ↔ B) same (Holds f) (Holds g) (machine f) (machine g)
  machine (quantified Ex names f) = some (Holds f) (machine f) names
  machine (quantified All names f) = all (Holds f) (machine f) names

  each-machine : (fs : Arithmetics) → Machine (EachHolds fs)
  each-machine no_arithmetics = truth-machine
  each-machine (more_arithmetics f fs) = both-machines (λ A B. A × B) both (Holds f) (EachHolds fs) (machine f) (each-machine fs)

  any-machine : (fs : Arithmetics) → Machine (SomeHolds fs)
  any-machine no_arithmetics = falsity-machine
  any-machine (more_arithmetics f fs) = both-machines (λ A B. A ⊎ B) either (Holds f) (SomeHolds fs) (machine f) (any-machine fs)

pub truth-is-decided : TruthIsDecided
truth-is-decided f v = machine-decides (Holds f) (machine f) v
