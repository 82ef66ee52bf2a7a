-- The source of strings is at most 5 times as deep as a formula and 14 times as large, and a little more.
use Rattle.std.proofs.Common.{ℕ, ◌+◌, ◌*◌, ◌≤◌, List, ◌++◌, length, ap, subst, arith}
use Rattle.ms_logic.specs.declared.checked.Checked.{Checked}
use Rattle.ms_logic.specs.Verdict.{Problem}
use Rattle.ms_logic.specs.View.{Answers, problem_of}
use Rattle.ms_logic_core.specs.Size.{Extents, depth_of_source, extent_under, extents_of_each, greatest_depth, no_extents, size_of_source, total_size}
use Rattle.ms_ltlf.specs.Tree.{Temporal, truth, falsity, proposition, brackets, negation, conjunction, disjunction, implication, equivalence, next, weak_next, eventually, always, until, release, Temporals, no_temporals, more_temporals, depth, depth_of_all, size, size_of_all}
use Rattle.ms_ltlf.specs.Source.{IsStringSource, string_problem}
use Rattle.ms_ltlf.specs.Strings.{string_form, string_forms}
use Rattle.ms_ltlf.proofs.Sources.{problem-same}
use Rattle.ms_translation.proofs.Globals.{count-globals, restrictions-have-no-parts}

depth-positive : (f : Temporal) → 1 ≤ depth f
depth-positive truth = omega arith
depth-positive _ = omega arith

module _ (E : Extents) where
  mutual
    bounds : (f : Temporal) (x : ℕ) → ((extent_under E (string_form f x)).depth ≤ 5 * depth f) × ((extent_under E (string_form f x)).size ≤ 14 * size f)
    bounds truth x = (omega arith, omega arith)
    bounds falsity x = (omega arith, omega arith)
    bounds (proposition p) x = (omega arith, omega arith)
    bounds (brackets f) x = let (deep, large) = bounds f x in (omega (arith, deep), omega (arith, large))
    bounds (negation f) x = let (deep, large) = bounds f x in (omega (arith, deep), omega (arith, large))
    bounds (conjunction fs) x = let (deep, large) = all-bounds fs x in (omega (arith, deep), omega (arith, large))
    bounds (disjunction fs) x = let (deep, large) = all-bounds fs x in (omega (arith, deep), omega (arith, large))
    bounds (implication f g) x = let (deep, large) = bounds f x in let (deep', large') = bounds g x in (omega (arith, deep, deep'), omega (arith, large, large'))
    bounds (equivalence f g) x = let (deep, large) = bounds f x in let (deep', large') = bounds g x in (omega (arith, deep, deep'), omega (arith, large, large'))
    bounds (next f) x = let (deep, large) = bounds f (x + 1) in (omega (arith, deep, depth-positive f), omega (arith, large))
    bounds (weak_next f) x = let (deep, large) = bounds f (x + 1) in (omega (arith, deep, depth-positive f), omega (arith, large))
    bounds (eventually f) x = let (deep, large) = bounds f (x + 1) in (omega (arith, deep, depth-positive f), omega (arith, large))
    bounds (always f) x = let (deep, large) = bounds f (x + 1) in (omega (arith, deep, depth-positive f), omega (arith, large))
    bounds (until f g) x = let (deep, large) = bounds f (x + 2) in let (deep', large') = bounds g (x + 1) in (omega (arith, deep, deep', depth-positive f), omega (arith, large, large'))
    bounds (release f g) x = let (deep, large) = bounds f (x + 2) in let (deep', large') = bounds g (x + 1) in (omega (arith, deep, deep', depth-positive f), omega (arith, large, large'))

    all-bounds : (fs : Temporals) (x : ℕ) → (greatest_depth (extents_of_each E (string_forms fs x)) ≤ 5 * depth_of_all fs) × (total_size (extents_of_each E (string_forms fs x)) ≤ 14 * size_of_all fs)
    all-bounds no_temporals x = (omega arith, omega arith)
    all-bounds (more_temporals f fs) x = let (deep, large) = bounds f x in let (deep', large') = all-bounds fs x in (omega (arith, deep, deep'), omega (arith, large, large'))

module _ (names : List (List ℕ)) (f : Temporal) where
  source-deep : depth_of_source (string_problem names f) ≤ 5 * depth f + 3
  source-deep =
      omega (arith, ap (λ es. greatest_depth (es ++ extents_of_each no_extents (string_problem names f).formulas)) (restrictions-have-no-parts no_extents names 0), (bounds no_extents f (length names)).0, depth-positive f)

  source-large : size_of_source (string_problem names f) ≤ 14 * size f + length names + 11
  source-large =
      omega (arith, ap (λ es. total_size (es ++ extents_of_each no_extents (string_problem names f).formulas)) (restrictions-have-no-parts no_extents names 0), (bounds no_extents f (length names)).1, count-globals names 0)

-- for whatever is made as the source says

pub is-deep : (names : List (List ℕ)) (f : Temporal) (made : Checked) (answers : Answers) → IsStringSource names f made → depth_of_source (problem_of made answers) ≤ 5 * depth f + 3
is-deep names f made answers is =
    let P : Problem → Type 0 = λ problem. depth_of_source problem ≤ 5 * depth f + 3 in subst P (problem-same names f made answers is) (source-deep names f)

pub is-large : (names : List (List ℕ)) (f : Temporal) (made : Checked) (answers : Answers) → IsStringSource names f made → size_of_source (problem_of made answers) ≤ 14 * size f + length names + 11
is-large names f made answers is =
    let P : Problem → Type 0 = λ problem. size_of_source problem ≤ 14 * size f + length names + 11 in subst P (problem-same names f made answers is) (source-large names f)
