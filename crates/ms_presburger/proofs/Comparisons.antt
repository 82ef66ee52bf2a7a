-- A finite machine decides whether one sum is at most another: it keeps the two carries, and whether the rest has to be less.
use Rattle.std.proofs.Common.{◌≡◌, ℕ, ◌+◌, ◌*◌, ◌/◌, ◌%◌, ◌<◌, ◌≤◌, zero, suc, Bool, true, false, nat_lt, nat_le, ◌↔◌, inl, inr, ⊎_elim, List, [], ◌∷◌, ◌++◌, refl, sym, ap, subst, arith}
use Rattle.std.proofs.lemmas.Bool.{cases_lt}
use Rattle.std.proofs.lemmas.Bool.Decides.{nat_tests}
use Rattle.ms_presburger.specs.declared.linear.Part.{Part}
use Rattle.ms_presburger.specs.declared.linear.Part.TheVariants.{Number, Var, Times}
use Rattle.ms_presburger.specs.Numbers.{Valuation, value_of_sum}
use Rattle.ms_presburger.specs.Tree.{names_in_sum}
use Rattle.ms_logic_machines.proofs.Choices.{Decided, Among, pairs, among-pairs, pairs-among, pairs-tested}
use Rattle.ms_logic_machines.specs.Machine.{IsTested}
use Rattle.ms_presburger.proofs.Machines.{Machine, Letter, digit, shifted_in, zeros, AreSameAt}
use Rattle.ms_presburger.proofs.Scopes.{each-left, each-right}
use Rattle.ms_presburger.proofs.Search.{equal-or}

-- the numbers of a sum, and the rest of it

abbrev constants : List Part → ℕ
constants [] = 0
constants (Number n ∷ more) = n + constants more
constants (Var x ∷ more) = constants more
constants (Times n x ∷ more) = constants more

abbrev varying : List Part → Valuation → ℕ
varying [] v = 0
varying (Number n ∷ more) v = varying more v
varying (Var x ∷ more) v = v x + varying more v
varying (Times n x ∷ more) v = n * v x + varying more v

value-parts : (parts : List Part) (v : Valuation) → value_of_sum parts v ≡ constants parts + varying parts v
value-parts [] v = refl
value-parts (Number n ∷ more) v = omega (arith, value-parts more v)
value-parts (Var x ∷ more) v = omega (arith, value-parts more v)
value-parts (Times n x ∷ more) v = omega (arith, value-parts more v)

abbrev digits : Letter → Valuation
digits b = λ x. digit (b x)

varying-shifted : (parts : List Part) (b : Letter) (v : Valuation) → varying parts (shifted_in b v) ≡ 2 * varying parts v + varying parts (digits b)
varying-shifted [] b v = refl
varying-shifted (Number n ∷ more) b v = varying-shifted more b v
varying-shifted (Var x ∷ more) b v = omega (arith, varying-shifted more b v)
varying-shifted (Times n x ∷ more) b v = omega (arith, varying-shifted more b v)

ones : Valuation
ones = λ x. 1

digit-le : (n : ℕ) (d : Bool) → n * digit d ≤ n
digit-le n true = omega arith
digit-le n false = omega arith

abbrev most : List Part → ℕ
most [] = 0
most (Number n ∷ more) = most more
most (Var x ∷ more) = 1 + most more
most (Times n x ∷ more) = n + most more

varying-le : (parts : List Part) (b : Letter) → varying parts (digits b) ≤ most parts
varying-le [] b = omega arith
varying-le (Number n ∷ more) b = varying-le more b
varying-le (Var x ∷ more) b = omega (arith, digit-le 1 (b x), varying-le more b)
varying-le (Times n x ∷ more) b = omega (arith, digit-le n (b x), varying-le more b)

varying-zeros : (parts : List Part) (v w : Valuation) → AreSameAt (names_in_sum parts) v w → varying parts v ≡ varying parts w
varying-zeros [] v w same = refl
varying-zeros (Number n ∷ more) v w same = varying-zeros more v w same
varying-zeros (Var x ∷ more) v w same = omega (arith, same.0, varying-zeros more v w same.1)
varying-zeros (Times n x ∷ more) v w same = omega (arith, ap (λ k. n * k) same.0, varying-zeros more v w same.1)

-- less, or at most

abbrev Below : Bool → ℕ → ℕ → Type 0
Below true a b = a < b
Below false a b = a ≤ b

below-or : (strict : Bool) (a b : ℕ) → Decided (Below strict a b)
below-or true a b = ⊎_elim (λ less. inl less) (λ above. inr (λ less. omega (arith, above, less))) (cases_lt a b)
below-or false a b = ⊎_elim (λ less. inr (λ above. omega (arith, above, less))) (λ above. inl above) (cases_lt b a)

-- whether the rest has to be less, by the last digits
abbrev behind : Bool → ℕ → ℕ → Bool
behind true r s = nat_le s r
behind false r s = nat_lt s r

module _ (a b r s : ℕ) (small : r < 2) (small' : s < 2) where
  by-last : (strict : Bool) → Below strict (2 * a + r) (2 * b + s) ↔ Below (behind strict r s) a b
  by-last true =
      ⊎_elim (λ less. let is : nat_le s r ≡ false = grind (arith, nat_tests) in
      let P : Bool → Type 0 = λ t. (2 * a + r < 2 * b + s) ↔ Below t a b in subst P (sym is) ((λ h. omega (arith, h, less, small, small')), (λ h. omega (arith, h, less, small, small'))))
      (λ above. let is : nat_le s r ≡ true = grind (arith, nat_tests) in
      let P : Bool → Type 0 = λ t. (2 * a + r < 2 * b + s) ↔ Below t a b in subst P (sym is) ((λ h. omega (arith, h, above, small, small')), (λ h. omega (arith, h, above, small, small')))) (cases_lt r s)
  by-last false =
      ⊎_elim (λ less. let is : nat_lt s r ≡ true = grind (arith, nat_tests) in
      let P : Bool → Type 0 = λ t. (2 * a + r ≤ 2 * b + s) ↔ Below t a b in subst P (sym is) ((λ h. omega (arith, h, less, small, small')), (λ h. omega (arith, h, less, small, small'))))
      (λ above. let is : nat_lt s r ≡ false = grind (arith, nat_tests) in
      let P : Bool → Type 0 = λ t. (2 * a + r ≤ 2 * b + s) ↔ Below t a b in subst P (sym is) ((λ h. omega (arith, h, above, small, small')), (λ h. omega (arith, h, above, small, small')))) (cases_lt s r)

-- finitely many carries

numbers : ℕ → List ℕ
numbers zero = []
numbers (suc n) = n ∷ numbers n

among-numbers : (n i : ℕ) → i < n → Among i (numbers n)
unfolding numbers
among-numbers zero i below = absurd (omega (arith, below))
among-numbers (suc n) i below = ⊎_elim (λ lower. inr (among-numbers n i lower)) (λ above. inl (omega (arith, above, below))) (cases_lt i n)

numbers-among : (n i : ℕ) → Among i (numbers n) → i < n
unfolding numbers
numbers-among zero i among = absurd among
numbers-among (suc n) i among = ⊎_elim (λ same. omega (arith, same)) (λ later. omega (arith, numbers-among n i later)) among

truths : List Bool
truths = true ∷ false ∷ []

among-truths : (b : Bool) → Among b truths
unfolding truths
among-truths true = inl refl
among-truths false = inr (inl refl)

truths-tested : IsTested Bool
truths-tested true true = inl refl
truths-tested false false = inl refl
truths-tested true false = inr (λ same. cc)
truths-tested false true = inr (λ same. cc)

module _ (left right : List Part) where
  abbrev Carries : Type 0
  Carries = Bool × (ℕ × ℕ)

  abbrev At : Carries → Valuation → Type 0
  At s v = Below s.0 (s.1.0 + varying left v) (s.1.1 + varying right v)

  abbrev next : Carries → Letter → Carries
  next s b = (
    behind s.0 ((s.1.0 + varying left (digits b)) % 2) ((s.1.1 + varying right (digits b)) % 2),
    ((s.1.0 + varying left (digits b)) / 2, (s.1.1 + varying right (digits b)) / 2),
  )

  goes-on : (s : Carries) (b : Letter) (v : Valuation) → At s (shifted_in b v) ↔ At (next s b) v
  goes-on s b v =
      let l = s.1.0 + varying left (digits b) in
      let r = s.1.1 + varying right (digits b) in
      let on-left : s.1.0 + varying left (shifted_in b v) ≡ 2 * (l / 2 + varying left v) + l % 2 = omega (arith, varying-shifted left b v) in
      let on-right : s.1.1 + varying right (shifted_in b v) ≡ 2 * (r / 2 + varying right v) + r % 2 = omega (arith, varying-shifted right b v) in
      let P : ℕ → Type 0 = λ n. Below s.0 n (s.1.1 + varying right (shifted_in b v)) ↔ At (next s b) v in
      let Q : ℕ → Type 0 = λ n. Below s.0 (2 * (l / 2 + varying left v) + l % 2) n ↔ At (next s b) v in
      subst P (sym on-left) (subst Q (sym on-right) (by-last (l / 2 + varying left v) (r / 2 + varying right v) (l % 2) (r % 2) (omega arith) (omega arith) s.0))

  abbrev states : List Carries
  states = pairs truths (pairs (numbers (constants left + most left + 1)) (numbers (constants right + most right + 1)))

  next-among : (s : Carries) (b : Letter) → Among s states → Among (next s b) states
  next-among s b among =
      let l = constants left + most left + 1 in
      let r = constants right + most right + 1 in
      let carries = (pairs-among s truths (pairs (numbers l) (numbers r)) among).1 in
      let both = pairs-among s.1 (numbers l) (numbers r) carries in
      let one = numbers-among l s.1.0 both.0 in
      let other = numbers-among r s.1.1 both.1 in
      let here = next s b in
      among-pairs here.0 here.1 truths (pairs (numbers l) (numbers r)) (among-truths here.0)
      (among-pairs here.1.0 here.1.1 (numbers l) (numbers r) (among-numbers l here.1.0 (omega (arith, one, varying-le left b))) (among-numbers r here.1.1 (omega (arith, other, varying-le right b))))

  start-among : Among (false, (constants left, constants right)) states
  start-among =
      let l = constants left + most left + 1 in
      let r = constants right + most right + 1 in
      among-pairs false (constants left, constants right) truths (pairs (numbers l) (numbers r)) (among-truths false)
      (among-pairs (constants left) (constants right) (numbers l) (numbers r) (among-numbers l (constants left) (omega arith)) (among-numbers r (constants right) (omega arith)))

  starts-with : (v : Valuation) → (value_of_sum left v ≤ value_of_sum right v) ↔ At (false, (constants left, constants right)) v
  starts-with v = ((λ h. omega (arith, h, value-parts left v, value-parts right v)), (λ h. omega (arith, h, value-parts left v, value-parts right v)))

  depends-on : (s : Carries) (v w : Valuation) → AreSameAt (names_in_sum left ++ names_in_sum right) v w → At s v → At s w
  depends-on s v w same at =
      let one = varying-zeros left v w (each-left (λ x. v x ≡ w x) (names_in_sum left) (names_in_sum right) same) in
      let other = varying-zeros right v w (each-right (λ x. v x ≡ w x) (names_in_sum left) (names_in_sum right) same) in
      let P : ℕ → Type 0 = λ n. Below s.0 (s.1.0 + n) (s.1.1 + varying right v) in
      let Q : ℕ → Type 0 = λ n. Below s.0 (s.1.0 + varying left w) (s.1.1 + n) in subst Q other (subst P one at)

  pub at-most-machine : Machine (λ v. value_of_sum left v ≤ value_of_sum right v)
  at-most-machine = record {
    State = Carries;
    test = pairs-tested truths-tested (pairs-tested equal-or equal-or);
    states = states;
    start = (false, (constants left, constants right));
    next = next;
    At = At;
    names = names_in_sum left ++ names_in_sum right;
    start_among = start-among;
    next_among = next-among;
    starts = starts-with;
    goes = goes-on;
    ends = λ s. below-or s.0 (s.1.0 + varying left zeros) (s.1.1 + varying right zeros);
    depends = depends-on;
  }
