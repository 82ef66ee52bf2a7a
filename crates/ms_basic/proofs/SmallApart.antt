-- No two states of the machines of fixed size are alike.
use Rattle.std.proofs.Common.{◌≡◌, ◌≢◌, ℕ, zero, suc, ◌<◌, Bool, true, false, refl, subst, sym, arith}
use Rattle.ms_logic_words.specs.declared.sign.Sign.{Sign}
use Rattle.ms_logic_words.specs.declared.sign.Sign.TheVariants.{Outside}
use Rattle.ms_dfa_explore.specs.Small.{TransitionTable}
use Rattle.ms_basic.specs.Verdict.{sign_by_verdict}
use Rattle.ms_basic.specs.inner.Apart.{AreApart, HasStatesApart}
use Rattle.ms_basic.specs.inner.Greatest.{greatest_table}
use Rattle.ms_basic.specs.inner.Least.{least_table}
use Rattle.ms_basic.specs.inner.Less.{less_table}
use Rattle.ms_basic.specs.inner.Member.{member_table}
use Rattle.ms_basic.specs.inner.Repeated.{one_number_table, sign_of_constant}
use Rattle.ms_basic.proofs.ApartLemmas.{by_letter, now, of_one, of_two, one_bit, two_bits}

-- told apart by one letter
by : (table : TransitionTable) (x s : Bool) (one other : ℕ) → table.sign (table.step one (two_bits x s)) ≢ table.sign (table.step other (two_bits x s)) → AreApart 2 table one other
by table x s one other differ =
    by_letter 2 table (two_bits x s) (of_two x s) one other (table.step one (two_bits x s)) (table.step other (two_bits x s)) refl refl
    (now 2 table (table.step one (two_bits x s)) (table.step other (two_bits x s)) differ)

-- where the states 1 and 2 alone have signs of their own, and all others are Outside, others are left to be told apart
pub apart_by_verdict : (count : ℕ) (table : TransitionTable) → table.sign ≡ sign_by_verdict
    → ((other : ℕ) → suc (suc (suc other)) < table.states → AreApart count table 0 (suc (suc (suc other))))
    → ((one other : ℕ) → one < other → suc (suc (suc other)) < table.states → AreApart count table (suc (suc (suc one))) (suc (suc (suc other)))) → HasStatesApart count table
apart_by_verdict count table signs lost others = by_state
  where
    differ : (one other : ℕ) → sign_by_verdict one ≢ sign_by_verdict other → AreApart count table one other
    differ one other never = now count table one other (subst (λ (sign : ℕ → Sign). sign one ≢ sign other) (sym signs) never)

    by_state : (one other : ℕ) → one < other → other < table.states → AreApart count table one other
    by_state one zero less below = absurd (omega (arith, less))
    by_state zero (suc zero) less below = differ 0 1 (λ same. cc)
    by_state (suc one) (suc zero) less below = absurd (omega (arith, less))
    by_state zero (suc (suc zero)) less below = differ 0 2 (λ same. cc)
    by_state (suc zero) (suc (suc zero)) less below = differ 1 2 (λ same. cc)
    by_state (suc (suc one)) (suc (suc zero)) less below = absurd (omega (arith, less))
    by_state zero (suc (suc (suc other))) less below = lost other below
    by_state (suc zero) (suc (suc (suc other))) less below = differ 1 (suc (suc (suc other))) (λ same. cc)
    by_state (suc (suc zero)) (suc (suc (suc other))) less below = differ 2 (suc (suc (suc other))) (λ same. cc)
    by_state (suc (suc (suc one))) (suc (suc (suc other))) less below = others one other (omega (arith, less)) below

pub member_apart : HasStatesApart 2 member_table
member_apart = apart_by_verdict 2 member_table refl lost (λ one other less below. absurd (omega (arith, less, below)))
  where
    lost : (other : ℕ) → suc (suc (suc other)) < 4 → AreApart 2 member_table 0 (suc (suc (suc other)))
    lost zero below = by member_table true true 0 3 (λ same. cc)
    lost (suc other) below = absurd (omega (arith, below))

pub less_apart : HasStatesApart 2 less_table
less_apart = apart_by_verdict 2 less_table refl lost others
  where
    lost : (other : ℕ) → suc (suc (suc other)) < 6 → AreApart 2 less_table 0 (suc (suc (suc other)))
    lost zero below = by less_table true true 0 3 (λ same. cc)
    lost (suc zero) below = by less_table false true 0 4 (λ same. cc)
    lost (suc (suc zero)) below = by less_table true false 0 5 (λ same. cc)
    lost (suc (suc (suc other))) below = absurd (omega (arith, below))

    others : (one other : ℕ) → one < other → suc (suc (suc other)) < 6 → AreApart 2 less_table (suc (suc (suc one))) (suc (suc (suc other)))
    others one zero less below = absurd (omega (arith, less))
    others zero (suc zero) less below = by less_table true true 3 4 (λ same. cc)
    others zero (suc (suc zero)) less below = by less_table true true 3 5 (λ same. cc)
    others (suc zero) (suc (suc zero)) less below = by less_table false true 4 5 (λ same. cc)
    others (suc one) (suc zero) less below = absurd (omega (arith, less))
    others (suc (suc one)) (suc (suc zero)) less below = absurd (omega (arith, less))
    others one (suc (suc (suc other))) less below = absurd (omega (arith, below))

pub greatest_apart : HasStatesApart 2 greatest_table
greatest_apart = apart_by_verdict 2 greatest_table refl lost others
  where
    lost : (other : ℕ) → suc (suc (suc other)) < 5 → AreApart 2 greatest_table 0 (suc (suc (suc other)))
    lost zero below = by greatest_table true true 0 3 (λ same. cc)
    lost (suc zero) below = by greatest_table true true 0 4 (λ same. cc)
    lost (suc (suc other)) below = absurd (omega (arith, below))

    others : (one other : ℕ) → one < other → suc (suc (suc other)) < 5 → AreApart 2 greatest_table (suc (suc (suc one))) (suc (suc (suc other)))
    others one zero less below = absurd (omega (arith, less))
    others zero (suc zero) less below = by greatest_table true false 3 4 (λ same. cc)
    others (suc one) (suc zero) less below = absurd (omega (arith, less))
    others one (suc (suc other)) less below = absurd (omega (arith, below))

pub least_apart : HasStatesApart 2 least_table
least_apart = by_state
  where
    by_state : (one other : ℕ) → one < other → other < 7 → AreApart 2 least_table one other
    by_state one zero less below = absurd (omega (arith, less))
    by_state zero (suc zero) less below = now 2 least_table 0 1 (λ same. cc)
    by_state zero (suc (suc zero)) less below = now 2 least_table 0 2 (λ same. cc)
    by_state zero (suc (suc (suc zero))) less below = now 2 least_table 0 3 (λ same. cc)
    by_state zero (suc (suc (suc (suc zero)))) less below = by least_table true true 0 4 (λ same. cc)
    by_state zero (suc (suc (suc (suc (suc zero))))) less below = by least_table true true 0 5 (λ same. cc)
    by_state zero (suc (suc (suc (suc (suc (suc zero)))))) less below = by least_table true true 0 6 (λ same. cc)
    by_state (suc zero) (suc (suc zero)) less below = now 2 least_table 1 2 (λ same. cc)
    by_state (suc zero) (suc (suc (suc zero))) less below = by least_table false true 1 3 (λ same. cc)
    by_state (suc zero) (suc (suc (suc (suc other)))) less below = now 2 least_table 1 (suc (suc (suc (suc other)))) (λ same. cc)
    by_state (suc (suc zero)) (suc (suc (suc zero))) less below = now 2 least_table 2 3 (λ same. cc)
    by_state (suc (suc zero)) (suc (suc (suc (suc other)))) less below = now 2 least_table 2 (suc (suc (suc (suc other)))) (λ same. cc)
    by_state (suc (suc (suc zero))) (suc (suc (suc (suc other)))) less below = now 2 least_table 3 (suc (suc (suc (suc other)))) (λ same. cc)
    by_state (suc (suc (suc (suc zero)))) (suc (suc (suc (suc (suc zero))))) less below = by least_table true false 4 5 (λ same. cc)
    by_state (suc (suc (suc (suc zero)))) (suc (suc (suc (suc (suc (suc zero)))))) less below = by least_table true true 4 6 (λ same. cc)
    by_state (suc (suc (suc (suc (suc zero))))) (suc (suc (suc (suc (suc (suc zero)))))) less below = by least_table true true 5 6 (λ same. cc)
    by_state (suc one) (suc zero) less below = absurd (omega (arith, less))
    by_state (suc (suc one)) (suc (suc zero)) less below = absurd (omega (arith, less))
    by_state (suc (suc (suc one))) (suc (suc (suc zero))) less below = absurd (omega (arith, less))
    by_state (suc (suc (suc (suc one)))) (suc (suc (suc (suc zero)))) less below = absurd (omega (arith, less))
    by_state (suc (suc (suc (suc (suc one))))) (suc (suc (suc (suc (suc zero))))) less below = absurd (omega (arith, less))
    by_state (suc (suc (suc (suc (suc (suc one)))))) (suc (suc (suc (suc (suc (suc zero)))))) less below = absurd (omega (arith, less))
    by_state one (suc (suc (suc (suc (suc (suc (suc other))))))) less below = absurd (omega (arith, below))

pub one_number_apart : (holds : Bool) → HasStatesApart 1 (one_number_table holds)
one_number_apart holds = by_state
  where
    never_outside : (h : Bool) → Outside ≢ sign_of_constant h
    never_outside true = λ same. cc
    never_outside false = λ same. cc

    by_state : (one other : ℕ) → one < other → other < 3 → AreApart 1 (one_number_table holds) one other
    by_state one zero less below = absurd (omega (arith, less))
    by_state zero (suc zero) less below = now 1 (one_number_table holds) 0 1 (never_outside holds)
    by_state (suc one) (suc zero) less below = absurd (omega (arith, less))
    by_state zero (suc (suc zero)) less below =
        by_letter 1 (one_number_table holds) (one_bit true) (of_one true) 0 2 0 1 refl refl (now 1 (one_number_table holds) 0 1 (never_outside holds))
    by_state (suc zero) (suc (suc zero)) less below = now 1 (one_number_table holds) 1 2 (λ same. never_outside holds (sym same))
    by_state (suc (suc one)) (suc (suc zero)) less below = absurd (omega (arith, less))
    by_state one (suc (suc (suc other))) less below = absurd (omega (arith, below))
