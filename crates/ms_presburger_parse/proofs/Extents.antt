-- A formula has no more parts and bound names than symbols.
use Rattle.std.proofs.Common.{ℕ, ◌≤◌, List, [], ◌∷◌, length, arith, length-append}
use Rattle.std.specs.Prelude.{flat_map}
use Rattle.ms_presburger.specs.declared.linear.Part.{Part}
use Rattle.ms_presburger.specs.declared.linear.Part.TheVariants.{Number, Var, Times}
use Rattle.ms_presburger.specs.Tree.{Arithmetic, truth, falsity, comparison, brackets, negation, conjunction, disjunction, implication, equivalence, quantified, Arithmetics, no_arithmetics, more_arithmetics, extent, extent_of_all}
use Rattle.ms_presburger_parse.specs.Grammar.{separated, spelled, spelled_between, spelled_behind, spelled_part, spelled_sum, spelled_names}
use Rattle.ms_presburger_parse.specs.Symbol.{Symbol, name, infix_operator, relation, plus, comma, colon, close_bracket}
use Rattle.ms_presburger_parse.specs.declared.operator.Binary.TheVariants.{Equivalence, Implication}
use Rattle.ms_parse_stack.specs.declared.junction.Junction.{Junction}
use Rattle.ms_parse_stack.specs.declared.junction.Junction.TheVariants.{Conjunction, Disjunction}

module _ {A : Type 0} (sign : Symbol) (said : A → List Symbol) (some : (x : A) → 1 ≤ length (said x)) where
  long_behind : (xs : List A) → length xs ≤ length (flat_map (λ y. sign ∷ said y) xs)
  long_behind [] = omega arith
  long_behind (x ∷ xs) = omega (arith, long_behind xs, length-append (said x) (flat_map (λ y. sign ∷ said y) xs))

  long_list : (xs : List A) → length xs ≤ length (separated sign said xs)
  long_list [] = omega arith
  long_list (x ∷ xs) = omega (arith, some x, long_behind xs, length-append (said x) (flat_map (λ y. sign ∷ said y) xs))

some_part : (p : Part) → 1 ≤ length (spelled_part p)
some_part (Number n) = omega arith
some_part (Var x) = omega arith
some_part (Times n x) = omega arith

long_sum : (parts : List Part) → length parts ≤ length (spelled_sum parts)
long_sum parts = long_list plus spelled_part some_part parts

some_name : (x : List ℕ) → 1 ≤ length (name x ∷ [])
some_name x = omega arith

long_names : (xs : List (List ℕ)) → length xs ≤ length (spelled_names xs)
long_names xs = long_list comma (λ x. name x ∷ []) some_name xs

mutual
  pub extent_spelled : (f : Arithmetic) → extent f ≤ length (spelled f)
  extent_spelled truth = omega arith
  extent_spelled falsity = omega arith
  extent_spelled (comparison r left right) = omega (arith, long_sum left, long_sum right, length-append (spelled_sum left) (relation r ∷ spelled_sum right))
  extent_spelled (brackets f) = omega (arith, extent_spelled f, length-append (spelled f) (close_bracket ∷ []))
  extent_spelled (negation f) = omega (arith, extent_spelled f)
  extent_spelled (conjunction fs) = extent_between Conjunction fs
  extent_spelled (disjunction fs) = extent_between Disjunction fs
  extent_spelled (implication f g) = omega (arith, extent_spelled f, extent_spelled g, length-append (spelled f) (infix_operator Implication ∷ spelled g))
  extent_spelled (equivalence f g) = omega (arith, extent_spelled f, extent_spelled g, length-append (spelled f) (infix_operator Equivalence ∷ spelled g))
  extent_spelled (quantified q xs f) = omega (arith, long_names xs, extent_spelled f, length-append (spelled_names xs) (colon ∷ spelled f))

  extent_between : (op : Junction) (fs : Arithmetics) → extent_of_all fs ≤ length (spelled_between op fs)
  extent_between op no_arithmetics = omega arith
  extent_between op (more_arithmetics f fs) = omega (arith, extent_spelled f, extent_behind op fs, length-append (spelled f) (spelled_behind op fs))

  extent_behind : (op : Junction) (fs : Arithmetics) → extent_of_all fs ≤ length (spelled_behind op fs)
  extent_behind op no_arithmetics = omega arith
  extent_behind op (more_arithmetics f fs) = omega (arith, extent_spelled f, extent_behind op fs, length-append (spelled f) (spelled_behind op fs))
