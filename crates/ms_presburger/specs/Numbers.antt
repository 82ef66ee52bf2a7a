-- When a formula of linear arithmetic holds of natural numbers (Presburger, 1929).
use Rattle.std.specs.Prelude.{ℕ, ◌+◌, ◌*◌, ◌⊎◌, ◌↔◌, if◌then◌else◌, List, [], ◌∷◌}
use Rattle.std.specs.Str.{bytes_eq}
use Rattle.ms_logic.specs.declared.mode.Quant.TheVariants.{Ex, All}
use Rattle.ms_logic.specs.Truth.{NumbersRelate}
use Rattle.ms_presburger.specs.declared.linear.Part.{Part}
use Rattle.ms_presburger.specs.declared.linear.Part.TheVariants.{Number, Var, Times}
use Rattle.ms_presburger.specs.Tree.{Arithmetic, truth, falsity, comparison, brackets, negation, conjunction, disjunction, implication, equivalence, quantified, Arithmetics, no_arithmetics, more_arithmetics}

-- a natural number for each name
abbrev pub Valuation : Type 0
Valuation = List ℕ → ℕ

-- v[x := n]: v with the number at the name
abbrev pub with_number : List ℕ → ℕ → Valuation → Valuation
with_number x n v = λ y. if bytes_eq x y then n else v y

abbrev pub value_of_part : Part → Valuation → ℕ
value_of_part (Number n) v = n
value_of_part (Var x) v = v x
value_of_part (Times n x) v = n * v x

-- the sum of the values of its parts
abbrev pub value_of_sum : List Part → Valuation → ℕ
value_of_sum [] v = 0
value_of_sum (part ∷ more) v = value_of_part part v + value_of_sum more v

-- it holds at some numbers for the names, the last of which binds where one is named twice
abbrev pub AtSome : List (List ℕ) → (Valuation → Type 0) → Valuation → Type 0
AtSome [] P v = P v
AtSome (x ∷ xs) P v = (n : ℕ) × AtSome xs P (with_number x n v)

-- it holds at all numbers for the names
abbrev pub AtAll : List (List ℕ) → (Valuation → Type 0) → Valuation → Type 0
AtAll [] P v = P v
AtAll (x ∷ xs) P v = (n : ℕ) → AtAll xs P (with_number x n v)

-- v ⊨ f: the formula holds at a valuation
abbrev mutual
  pub Holds : Arithmetic → Valuation → Type 0
  Holds truth v = Unit {0}
  Holds falsity v = ⊥
  Holds (comparison r left right) v = NumbersRelate r (value_of_sum left v) (value_of_sum right v)
  Holds (brackets f) v = Holds f v
  Holds (negation f) v = ¬ Holds f v
  Holds (conjunction fs) v = EachHolds fs v
  Holds (disjunction fs) v = SomeHolds fs v
  Holds (implication f g) v = Holds f v → Holds g v
  Holds (equivalence f g) v = Holds f v ↔ Holds g v
  Holds (quantified Ex xs f) v = AtSome xs (λ w. Holds f w) v
  Holds (quantified All xs f) v = AtAll xs (λ w. Holds f w) v

  pub EachHolds : Arithmetics → Valuation → Type 0
  EachHolds no_arithmetics v = Unit {0}
  EachHolds (more_arithmetics f fs) v = Holds f v × EachHolds fs v

  pub SomeHolds : Arithmetics → Valuation → Type 0
  SomeHolds no_arithmetics v = ⊥
  SomeHolds (more_arithmetics f fs) v = Holds f v ⊎ SomeHolds fs v
