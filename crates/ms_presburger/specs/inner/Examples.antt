-- Formulas, valuations and sources for worked examples.
use Rattle.std.specs.Prelude.{ℕ, false, if◌then◌else◌, List, [], ◌∷◌, None}
use Rattle.std.specs.Str.{bytes_eq}
use Rattle.ms_logic.specs.declared.mode.Mode.TheVariants.{Ws1s}
use Rattle.ms_logic.specs.declared.mode.Order.TheVariants.{Two}
use Rattle.ms_logic.specs.declared.mode.Quant.TheVariants.{Ex, All}
use Rattle.ms_logic.specs.declared.mode.Rel.TheVariants.{Equal, Less}
use Rattle.ms_logic.specs.Assignment.{Env}
use Rattle.ms_logic.specs.Tree.{Forms, unrestricted}
use Rattle.ms_logic.specs.Verdict.{Problem}
use Rattle.ms_presburger.specs.declared.linear.Part.TheVariants.{Number, Var, Times}
use Rattle.ms_presburger.specs.Numbers.{Valuation}
use Rattle.ms_presburger.specs.Tree.{Arithmetic, comparison, conjunction, disjunction, quantified, no_arithmetics, more_arithmetics}

-- two names
abbrev pub x : List ℕ
x = 120 ∷ []

abbrev pub y : List ℕ
y = 121 ∷ []

-- the numbers for x and for all other names
abbrev pub at : ℕ → ℕ → Valuation
at first second = λ name. if bytes_eq x name then first else second

abbrev pub both : Arithmetic → Arithmetic → Arithmetic
both f g = conjunction (more_arithmetics f (more_arithmetics g no_arithmetics))

abbrev pub either : Arithmetic → Arithmetic → Arithmetic
either f g = disjunction (more_arithmetics f (more_arithmetics g no_arithmetics))

-- the name stands for the number
abbrev pub is : List ℕ → ℕ → Arithmetic
is name n = comparison Equal (Var name ∷ []) (Number n ∷ [])

-- x + y = 3 & x < y
abbrev pub three_in_order : Arithmetic
three_in_order = both (comparison Equal (Var x ∷ Var y ∷ []) (Number 3 ∷ [])) (comparison Less (Var x ∷ []) (Var y ∷ []))

-- x = 2 y
abbrev pub is_twice : Arithmetic
is_twice = comparison Equal (Var x ∷ []) (Times 2 y ∷ [])

-- all x: ex y: x = 2 y
abbrev pub all_even : Arithmetic
all_even = quantified All (x ∷ []) (quantified Ex (y ∷ []) is_twice)

-- all x: ex y: x = 2 y | x = 2 y + 1
abbrev pub even_or_odd : Arithmetic
even_or_odd =
    quantified All (x ∷ []) (quantified Ex (y ∷ []) (either is_twice (comparison Equal (Var x ∷ []) (Times 2 y ∷ Number 1 ∷ []))))

-- ex x: 6 x = 10 y + 4
abbrev pub six_and_ten : Arithmetic
six_and_ten = quantified Ex (x ∷ []) (comparison Equal (Times 6 x ∷ []) (Times 10 y ∷ Number 4 ∷ []))

-- ex x: x = n
abbrev pub some_is : ℕ → Arithmetic
some_is n = quantified Ex (x ∷ []) (is x n)

-- an assignment of a set to the first variable
abbrev pub set_at : List ℕ → Env
set_at members = record { universe = None; truth = λ k. false; number = λ k. 0; set = λ k. members }

-- a source of these formulas over one set
abbrev pub source_with : Forms → Problem
source_with fs = record {
  mode = Ws1s;
  globals = record { variable = record { name = 0; order = Two }; restriction = unrestricted } ∷ [];
  given = record { predicates = []; imports = [] };
  formulas = fs;
}
