use Rattle.std.proofs.Common.{◌≡◌, ◌+◌, None, refl, sym, subst, inl, inr, ⊎_elim, arith, rules}
use Rattle.ms_logic.specs.declared.assignment.Value.{Value}
use Rattle.ms_logic.specs.declared.assignment.Value.TheVariants.{Truth, Number, Set}
use Rattle.ms_logic.specs.declared.mode.Order.TheVariants.{One}
use Rattle.ms_logic.specs.declared.mode.Quant.TheVariants.{Ex}
use Rattle.ms_logic.specs.declared.mode.Rel.TheVariants.{Less}
use Rattle.ms_logic.specs.Assignment.{Universe, Env, IsWithin, IsValueOf, assign}
use Rattle.ms_logic.specs.inner.Examples.{naturals, string, nothing_given}
use Rattle.ms_logic.specs.Tree.{number_variable, comparison, quantified, unrestricted}
use Rattle.ms_logic.specs.Truth.{No}
use Rattle.ms_logic.proofs.Values.{each_value}
use Rattle.ms_logic.proofs.Within.{if_within-of}
use Rattle.ms_logic.proofs.examples.verdicts.worked_verdicts.Goals as goal

-- in WS1S each number has a greater one
greater_number : (e : Env) → e.universe ≡ None → (v : Value) → IsValueOf One e.universe v →
    No nothing_given (quantified Ex One 1 unrestricted (comparison Less (number_variable 0) (number_variable 1))) (assign 0 v e) → ⊥
greater_number e natural (Truth b) in_range fails = in_range
greater_number e natural (Set members) in_range fails = in_range
greater_number e natural (Number n) in_range fails =
    let P : Universe → Type 0 = λ u. IsWithin u (n + 1) in
    let within : IsWithin e.universe (n + 1) = subst P (sym natural) tt in
    fails.0 (Number (n + 1)) (within, tt) (rw (if_within-of e.universe n in_range, if_within-of e.universe (n + 1) within) (omega arith))

pub returns-clause-empty_source : goal.returns-clause-empty_source
returns-clause-empty_source c = ((naturals, record { universe = refl; values = tt }, (tt, tt)), λ found. found.2.1.1)

pub returns-clause-no_last_number : goal.returns-clause-no_last_number
returns-clause-no_last_number c =
    ((naturals, record { universe = refl; values = tt }, (tt, ((each_value _ (λ b in_range. absurd in_range.0) (λ n in_range none. none.0 (Number (n + 1)) (tt, tt) (omega arith)) (λ s in_range. absurd in_range.0), inl (Number 0, (tt, tt), (Number 1, (tt, tt), search rules))), tt))), λ found. ⊎_elim (λ fails. greater_number found.0 found.1.universe fails.0 fails.1.0 fails.2) (λ impossible. impossible) found.2.1.1)

pub returns-clause-all_of_empty_range : goal.returns-clause-all_of_empty_range
returns-clause-all_of_empty_range c =
    ((naturals, record { universe = refl; values = tt }, (tt, ((λ v in_range fails. in_range.1, inr (λ v in_range. in_range.1)), tt))), λ found. ⊎_elim (λ fails. fails.1.1) (λ impossible. impossible) found.2.1.1)

pub returns-clause-some_of_empty_range : goal.returns-clause-some_of_empty_range
returns-clause-some_of_empty_range c =
    (λ found. found.2.1.0.2, (naturals, record { universe = refl; values = tt }, (tt, ((inr (λ v in_range holds. in_range.1, inr (λ v in_range. in_range.1)), tt), inl (λ v in_range holds. in_range.1, inr (λ v in_range. in_range.1))))))

pub returns-clause-some_position : goal.returns-clause-some_position
returns-clause-some_position c =
    ((string 1, record { universe = search rules; values = tt }, (tt, ((Number 0, (omega arith, tt), tt), tt))), (string 0, record { universe = search rules; values = tt }, (tt, ((inr (each_value _ (λ b in_range. absurd in_range.0) (λ n in_range holds. omega (arith, in_range.0)) (λ s in_range. absurd in_range.0), inr (each_value _ (λ b in_range. absurd in_range.0) (λ n in_range. omega (arith, in_range.0)) (λ s in_range. absurd in_range.0))), tt), inl (each_value _ (λ b in_range. absurd in_range.0) (λ n in_range holds. omega (arith, in_range.0)) (λ s in_range. absurd in_range.0), inr (each_value _ (λ b in_range. absurd in_range.0) (λ n in_range. omega (arith, in_range.0)) (λ s in_range. absurd in_range.0)))))))
