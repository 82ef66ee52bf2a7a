-- How large and how deep the checked source is.
use Rattle.std.proofs.Common.{◌≡◌, ◌≤◌, ℕ, zero, suc, ◌+◌, ◌*◌, List, [], ◌∷◌, ◌++◌, length, map, refl, sym, ap, ◌∙◌, subst, arith, lit≤}
use Rattle.std.proofs.Math.Nat.{le-max_left, le-max_right, max-le}
use Rattle.ms_list.specs.declared.at.At.{At}
use Rattle.ms_logic_core.specs.Size.{depth_of_source, extent_under, extents_of_each, extents_of_restrictions, greatest_depth, no_extents, size_of_source, total_size}
use Rattle.ms_logic.specs.Tree.{Form, Forms, no_forms, more_forms}
use Rattle.ms_logic.specs.View.{forms, globals_from, problem_of}
use Rattle.ms_names_rules.specs.Scope.{Bytes}
use Rattle.ms_gen.proofs.Becoming.{antecedent_form, chain_form, chain_parts, free_form, inclusion}
use Rattle.ms_gen.proofs.Known.{length-set_names, set_names}
use Rattle.ms_gen.proofs.Pieces.{at}
use Rattle.ms_gen.proofs.Reading.{sets_start}
use Rattle.ms_gen.proofs.Typing.{chain-is, checked, free-made-is, global_made, x_number}

restrictions-none : (there : At) (x : ℕ) (vs : List (At × Bytes)) → extents_of_restrictions no_extents (globals_from x (map (global_made there) vs)) ≡ []
restrictions-none there x [] = refl
restrictions-none there x (v ∷ vs) = restrictions-none there (x + 1) vs

globals-counted : (there : At) (x : ℕ) (vs : List (At × Bytes)) → length (globals_from x (map (global_made there) vs)) ≡ length vs
globals-counted there x [] = refl
globals-counted there x (v ∷ vs) = ap suc (globals-counted there (x + 1) vs)

size-push : (fs : List Form) (f : Form) → total_size (extents_of_each no_extents (forms (fs ++ f ∷ []))) ≡ total_size (extents_of_each no_extents (forms fs)) + (extent_under no_extents f).size
size-push [] f = omega arith
size-push (g ∷ fs) f = omega (arith, size-push fs f)

depth-push : (fs : List Form) (f : Form) (k : ℕ) → greatest_depth (extents_of_each no_extents (forms fs)) ≤ k → (extent_under no_extents f).depth ≤ k
    → greatest_depth (extents_of_each no_extents (forms (fs ++ f ∷ []))) ≤ k
depth-push [] f k h l = max-le l (omega arith)
depth-push (g ∷ fs) f k h l =
    let front : (extent_under no_extents g).depth ≤ k = omega (arith, h, le-max_left (extent_under no_extents g).depth (greatest_depth (extents_of_each no_extents (forms fs)))) in
    let back : greatest_depth (extents_of_each no_extents (forms fs)) ≤ k = omega (arith, h, le-max_right (extent_under no_extents g).depth (greatest_depth (extents_of_each no_extents (forms fs)))) in
    max-le front (depth-push fs f k back l)

parts-size : (n : ℕ) → total_size (extents_of_each no_extents (forms (chain_parts n))) ≡ 1 + 3 * n
parts-size zero = refl
parts-size (suc n) = omega (arith, size-push (chain_parts n) (inclusion n (n + 1)), parts-size n)

parts-depth : (n : ℕ) → greatest_depth (extents_of_each no_extents (forms (chain_parts n))) ≤ 2
parts-depth zero = lit≤ tt
parts-depth (suc n) = depth-push (chain_parts n) (inclusion n (n + 1)) 2 (parts-depth n) (lit≤ tt)

antecedent-size : (n : ℕ) → (extent_under no_extents (antecedent_form n)).size ≤ 2 + 3 * n
antecedent-size zero = omega arith
antecedent-size (suc n) = omega (arith, parts-size (suc n))

antecedent-depth : (n : ℕ) → (extent_under no_extents (antecedent_form n)).depth ≤ 3
antecedent-depth zero = lit≤ tt
antecedent-depth (suc n) = omega (arith, parts-depth (suc n))

deeper : {m n : ℕ} → m ≤ n → 1 + m ≤ 1 + n
deeper h = omega (arith, h)

module _ (last : ℕ) (name : List ℕ) where
  abbrev pub formulas : Forms
  formulas = more_forms (chain_form last) (more_forms (free_form (x_number last) last) no_forms)

  pub formulas-are : (problem_of (checked last name) []).formulas ≡ formulas
  formulas-are = λ i. more_forms (chain-is last i) (more_forms (free-made-is (x_number last) last i) no_forms)

  pub size-is : size_of_source (problem_of (checked last name) []) ≤ 17 + 4 * last
  size-is =
      let vs = set_names sets_start last in
      let none = restrictions-none (at 6) 0 vs in
      let counted = globals-counted (at 6) 0 vs in
      let all : size_of_source (problem_of (checked last name) []) ≡ 1 + total_size (extents_of_each no_extents formulas) + (last + 1) =
      (λ i. 1 + total_size (none i ++ extents_of_each no_extents (formulas-are i)) + (counted ∙ length-set_names sets_start last) i)
      in
      let sum : total_size (extents_of_each no_extents formulas) ≡ (extent_under no_extents (antecedent_form last)).size + 13 = omega arith in
      subst (λ n. n ≤ 17 + 4 * last) (sym all) (omega (arith, sum, antecedent-size last))

  pub depth-is : depth_of_source (problem_of (checked last name) []) ≤ 6
  depth-is =
      let none = restrictions-none (at 6) 0 (set_names sets_start last) in
      let all : depth_of_source (problem_of (checked last name) []) ≡ 1 + greatest_depth (extents_of_each no_extents formulas) =
      (λ i. 1 + greatest_depth (none i ++ extents_of_each no_extents (formulas-are i)))
      in
      let chain : (extent_under no_extents (chain_form last)).depth ≤ 5 = deeper {n = 4} (max-le (omega (arith, antecedent-depth last)) (lit≤ tt)) in
      let both : greatest_depth (extents_of_each no_extents formulas) ≤ 5 = max-le chain (lit≤ tt) in
      subst (λ n. n ≤ 6) (sym all) (deeper {n = 5} both)
