-- The report on a formula of linear arithmetic (docs/FORMATS.md, "Report"): the verdict, and numbers at which it holds and at which it does
-- not, in binary. An answer has each number as the set of the places of its one bits, the least place being 0.
use Rattle.std.specs.Prelude.{ℕ, zero, suc, ◌+◌, ◌^◌, nat_lt, if◌then◌else◌, List, [], ◌∷◌, ◌++◌, map, codes, Option, Some, None}
use Rattle.std.specs.List.{sum_by}
use Rattle.std.specs.Fmt.{decimal}
use Rattle.std.specs.Int.Digits.{digits_of}
use Rattle.ms_logic.specs.declared.assignment.Assignment.{Assignment}
use Rattle.ms_logic.specs.declared.assignment.Value.{Value}
use Rattle.ms_logic.specs.declared.assignment.Value.TheVariants.{Truth, Number, Set}
use Rattle.ms_logic.specs.FiniteSet.{IsRising}
use Rattle.ms_logic.specs.Lists.{Each}
use Rattle.ms_report.specs.declared.found.Answer.{Answer}
use Rattle.ms_report.specs.declared.found.Verdict.{Verdict}
use Rattle.ms_report.specs.Report.{lines_text, verdict_text}

-- the number of a set: the sum of 2 ^ i over its members i
abbrev pub number_of_set : List ℕ → ℕ
number_of_set members = sum_by (λ i. 2 ^ i) members

-- the digits in binary, the highest first; 0 has one here
abbrev pub binary : ℕ → List ℕ
binary zero = codes "0"
binary (suc n) = map (λ digit. 48 + digit) (digits_of 2 (suc n))

-- the decimal spelling behind them, for a number below 2 ^ 128
abbrev pub also_decimal : ℕ → List ℕ
also_decimal n = if nat_lt n (2 ^ 128) then codes " = " ++ decimal n else []

-- `0b1011 = 11`
abbrev pub number_text : ℕ → List ℕ
number_text n = codes "0b" ++ binary n ++ also_decimal n

-- `NAME = 0b1011 = 11`
abbrev pub number_line_of : List ℕ → ℕ → List ℕ
number_line_of name n = name ++ codes " = " ++ number_text n

-- numbers, one for each name, and how many binary digits the largest has, 0 having none
pub record ShownNumbers : Type 0 where
  pub digits : ℕ
  pub numbers : List ℕ

-- the verdict on a formula, numbers at which it holds, and numbers at which it does not
pub record NumberAnswer : Type 0 where
  pub verdict : Verdict
  pub example : Option ShownNumbers
  pub counterexample : Option ShownNumbers

-- the example or the counterexample, by the word for it
abbrev pub numbers_text : List ℕ → List (List ℕ) → Option ShownNumbers → List ℕ
numbers_text word names None = codes "no " ++ word ++ 10 ∷ []
numbers_text word names (Some shown) =
    word ++ codes " digits " ++ decimal shown.digits ++ 10 ∷ [] ++ lines_text number_text names shown.numbers

-- over the names of the numbers
abbrev pub number_report_of : List (List ℕ) → NumberAnswer → List ℕ
number_report_of names answer =
    verdict_text answer.verdict ++ 10 ∷ []
    ++ numbers_text (codes "example") names answer.example
    ++ numbers_text (codes "counterexample") names answer.counterexample

-- the members of a set; a value of another order has none
abbrev pub members_of : Value → List ℕ
members_of (Truth value) = []
members_of (Number n) = []
members_of (Set members) = members

-- the numbers of the sets of an assignment, whose length is how many digits they have at most
abbrev pub numbers_in : Option Assignment → Option ShownNumbers
numbers_in None = None
numbers_in (Some found) = Some (record { digits = found.length; numbers = map (λ value. number_of_set (members_of value)) found.values })

abbrev pub number_answer_of : Answer → NumberAnswer
number_answer_of answer =
    record { verdict = answer.verdict; example = numbers_in answer.example; counterexample = numbers_in answer.counterexample }

-- the members of each set rise
abbrev pub AreSets : Option Assignment → Type 0
AreSets None = Unit {0}
AreSets (Some found) = Each (λ value. IsRising (members_of value)) found.values
