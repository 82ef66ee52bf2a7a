-- How deep and how large the source of sets is.
use Rattle.std.proofs.Common.{◌≡◌, ℕ, ◌+◌, ◌*◌, ◌-◌, ◌^◌, ◌<◌, ◌≤◌, zero, suc, List, [], ◌∷◌, ◌++◌, length, take, drop, refl, ap, subst, arith}
use Rattle.ms_logic.specs.declared.checked.Checked.{Checked}
use Rattle.ms_logic.specs.declared.mode.Quant.{Quant}
use Rattle.ms_logic.specs.declared.mode.Rel.{Rel}
use Rattle.ms_logic.specs.declared.mode.Rel.TheVariants.{Equal, Differs, Less, AtMost, Greater, AtLeast, Member, NotMember, Sub}
use Rattle.ms_logic.specs.Tree.{Form}
use Rattle.ms_logic.specs.Verdict.{Problem}
use Rattle.ms_logic.specs.View.{Answers, problem_of}
use Rattle.ms_logic_core.specs.Size.{Extents, depth_of_source, extent_under, extents_of_each, greatest_depth, no_extents, size_of_source, total_size}
use Rattle.ms_presburger.specs.declared.summand.Summand.{Summand}
use Rattle.ms_presburger.specs.declared.summand.Summand.TheVariants.{Constant, Shifted}
use Rattle.ms_presburger.specs.Sets.{Scope, with_variable, half, sum_is, related, compared, over_sets, set_form, set_forms, summands_of}
use Rattle.ms_presburger.specs.Source.{IsSetSource, place_of, set_problem}
use Rattle.ms_presburger.specs.Tree.{Arithmetic, truth, falsity, comparison, brackets, negation, conjunction, disjunction, implication, equivalence, quantified, Arithmetics, no_arithmetics, more_arithmetics, extent, extent_of_all, reach, reach_of_all, size, size_of_all}
use Rattle.ms_presburger.specs.inner.Scopes.{AreAllFactorsSmall, AreFactorsSmall}
use Rattle.ms_presburger.proofs.Halves.{halved, length-front, length-rest}
use Rattle.ms_presburger.proofs.Operands.{few-summands}
use Rattle.ms_presburger.proofs.Sources.{problem-same}
use Rattle.ms_translation.proofs.Globals.{count-globals, restrictions-have-no-parts}

-- the halves of a list of two and more
length-parts : (n : ℕ) (terms : List Summand) → n ≤ length terms → (length (take n terms) ≡ n) × (length (drop n terms) + n ≡ length terms)
length-parts zero terms within = (refl, omega arith)
length-parts (suc n) [] within = absurd (omega (arith, within))
length-parts (suc n) (t ∷ more) within = let others = length-parts n more (omega (arith, within)) in (omega (arith, others.0), omega (arith, others.1))

module _ (E : Extents) where
  abbrev depth_of : Form → ℕ
  depth_of f = (extent_under E f).depth

  abbrev size_of : Form → ℕ
  size_of f = (extent_under E f).size

  -- summands

  deep-sum : (limit levels : ℕ) (terms : List Summand) (y x : ℕ) → length terms ≤ 2 ^ levels → depth_of (sum_is limit terms y x) ≤ 9 + 2 * levels
  deep-sum zero levels [] y x few = omega arith
  deep-sum (suc limit) levels [] y x few = omega arith
  deep-sum zero levels (Constant n ∷ []) y x few = omega arith
  deep-sum (suc limit) levels (Constant n ∷ []) y x few = omega arith
  deep-sum zero levels (Shifted z j ∷ []) y x few = omega arith
  deep-sum (suc limit) levels (Shifted z j ∷ []) y x few = omega arith
  deep-sum zero levels (t ∷ (s ∷ more)) y x few = omega arith
  deep-sum (suc limit) levels (t ∷ (s ∷ more)) y x few =
      let terms : List Summand = t ∷ (s ∷ more) in
      let n = half terms in
      let fits = halved levels (length terms) few (omega arith) in
      let front : length (take n terms) ≤ 2 ^ (levels - 1) = omega (arith, length-front n terms, fits.1) in
      let rest : length (drop n terms) ≤ 2 ^ (levels - 1) = length-rest n (2 ^ (levels - 1)) terms (omega (arith, fits.2)) in
      omega (arith, fits.0, deep-sum limit (levels - 1) (take n terms) x (x + 2) front, deep-sum limit (levels - 1) (drop n terms) (x + 2) (x + 4) rest)

  large-sum : (limit : ℕ) (t : Summand) (terms : List Summand) (y x : ℕ) → size_of (sum_is limit (t ∷ terms) y x) + 51 ≤ 55 * length (t ∷ terms)
  large-sum zero (Constant n) [] y x = omega arith
  large-sum (suc limit) (Constant n) [] y x = omega arith
  large-sum zero (Shifted z j) [] y x = omega arith
  large-sum (suc limit) (Shifted z j) [] y x = omega arith
  large-sum zero t (s ∷ more) y x = omega arith
  large-sum (suc limit) t (s ∷ more) y x =
      let terms : List Summand = t ∷ (s ∷ more) in
      let n = half terms in
      let parts = length-parts n terms (omega arith) in
      let front = by-first (take n terms) (omega (arith, parts.0)) (λ u us. large-sum limit u us x (x + 2)) in
      let rest = by-first' (drop n terms) (omega (arith, parts.1)) (λ u us. large-sum limit u us (x + 2) (x + 4)) in
      omega (arith, parts.0, parts.1, front, rest)
    where
      by-first : (l : List Summand) → 0 < length l → ((u : Summand) (us : List Summand) → size_of (sum_is limit (u ∷ us) x (x + 2)) + 51 ≤ 55 * length (u ∷ us)) → size_of (sum_is limit l x (x + 2)) + 51 ≤ 55 * length l
      by-first [] some each = absurd (omega (arith, some))
      by-first (u ∷ us) some each = each u us

      by-first' : (l : List Summand) → 0 < length l → ((u : Summand) (us : List Summand) → size_of (sum_is limit (u ∷ us) (x + 2) (x + 4)) + 51 ≤ 55 * length (u ∷ us)) → size_of (sum_is limit l (x + 2) (x + 4)) + 51 ≤ 55 * length l
      by-first' [] some each = absurd (omega (arith, some))
      by-first' (u ∷ us) some each = each u us

  large-terms : (limit : ℕ) (terms : List Summand) (y x : ℕ) → size_of (sum_is limit terms y x) ≤ 55 * length terms + 2
  large-terms zero [] y x = omega arith
  large-terms (suc limit) [] y x = omega arith
  large-terms limit (t ∷ terms) y x = omega (arith, large-sum limit t terms y x)

  related-bounds : (r : Rel) (u v x : ℕ) → (depth_of (related r u v x) ≤ 8) × (size_of (related r u v x) ≤ 21)
  related-bounds Equal u v x = (omega arith, omega arith)
  related-bounds _ u v x = (omega arith, omega arith)

  deep-compared : (r : Rel) (levels : ℕ) (left right : List Summand) (x : ℕ) → length left ≤ 2 ^ levels → length right ≤ 2 ^ levels → depth_of (compared r left right x) ≤ 2 * levels + 11
  deep-compared r levels left right x few few' =
      omega (arith, deep-sum (length left) levels left x (x + 2) few, deep-sum (length right) levels right (x + 2) (x + 4) few', (related-bounds r x (x + 2) (x + 4)).0)

  large-compared : (r : Rel) (left right : List Summand) (x : ℕ) → size_of (compared r left right x) ≤ 55 * (length left + length right) + 27
  large-compared r left right x =
      omega (arith, large-terms (length left) left x (x + 2), large-terms (length right) right (x + 2) (x + 4), (related-bounds r x (x + 2) (x + 4)).1)

  -- quantifiers

  deep-over : (q : Quant) (names : List (List ℕ)) (f : Scope → ℕ → Form) (bound : ℕ) → ((scope : Scope) (x : ℕ) → depth_of (f scope x) ≤ bound) → (scope : Scope) (x : ℕ) → depth_of (over_sets q names f scope x) ≤ length names + bound
  deep-over q [] f bound each scope x = omega (arith, each scope x)
  deep-over q (name ∷ names) f bound each scope x = omega (arith, deep-over q names f bound each (with_variable name x scope) (x + 2))

  large-over : (q : Quant) (names : List (List ℕ)) (f : Scope → ℕ → Form) (bound : ℕ) → ((scope : Scope) (x : ℕ) → size_of (f scope x) ≤ bound) → (scope : Scope) (x : ℕ) → size_of (over_sets q names f scope x) ≤ length names + bound
  large-over q [] f bound each scope x = omega (arith, each scope x)
  large-over q (name ∷ names) f bound each scope x = omega (arith, large-over q names f bound each (with_variable name x scope) (x + 2))

  -- formulas

  mutual
    deep : (f : Arithmetic) (levels : ℕ) → 64 * extent f ≤ 2 ^ levels → AreFactorsSmall f → (scope : Scope) (x : ℕ) → depth_of (set_form f scope x) ≤ reach f + (2 * levels + 11)
    deep truth levels few small scope x = omega arith
    deep falsity levels few small scope x = omega arith
    deep (comparison r left right) levels few small scope x =
        omega (arith, deep-compared r levels (summands_of scope left) (summands_of scope right) x (omega (arith, few, few-summands scope left small.0)) (omega (arith, few, few-summands scope right small.1)))
    deep (brackets f) levels few small scope x = deep f levels few small scope x
    deep (negation f) levels few small scope x = omega (arith, deep f levels few small scope x)
    deep (conjunction fs) levels few small scope x = omega (arith, all-deep fs levels few small scope x)
    deep (disjunction fs) levels few small scope x = omega (arith, all-deep fs levels few small scope x)
    deep (implication f g) levels few small scope x = omega (arith, deep f levels (omega (arith, few)) small.0 scope x, deep g levels (omega (arith, few)) small.1 scope x)
    deep (equivalence f g) levels few small scope x = omega (arith, deep f levels (omega (arith, few)) small.0 scope x, deep g levels (omega (arith, few)) small.1 scope x)
    deep (quantified q names f) levels few small scope x =
        let over = deep-over q names (λ inner y. set_form f inner y) (reach f + (2 * levels + 11)) (λ inner y. deep f levels (omega (arith, few)) small inner y) scope x in omega (arith, over)

    all-deep : (fs : Arithmetics) (levels : ℕ) → 64 * extent_of_all fs ≤ 2 ^ levels → AreAllFactorsSmall fs → (scope : Scope) (x : ℕ) → greatest_depth (extents_of_each E (set_forms fs scope x)) ≤ reach_of_all fs + (2 * levels + 11)
    all-deep no_arithmetics levels few small scope x = omega arith
    all-deep (more_arithmetics f fs) levels few small scope x = omega (arith, deep f levels (omega (arith, few)) small.0 scope x, all-deep fs levels (omega (arith, few)) small.1 scope x)

  mutual
    large : (f : Arithmetic) → AreFactorsSmall f → (scope : Scope) (x : ℕ) → size_of (set_form f scope x) ≤ 27 * size f + 3520 * extent f
    large truth small scope x = omega arith
    large falsity small scope x = omega arith
    large (comparison r left right) small scope x =
        omega (arith, large-compared r (summands_of scope left) (summands_of scope right) x, few-summands scope left small.0, few-summands scope right small.1)
    large (brackets f) small scope x = omega (arith, large f small scope x)
    large (negation f) small scope x = omega (arith, large f small scope x)
    large (conjunction fs) small scope x = omega (arith, all-large fs small scope x)
    large (disjunction fs) small scope x = omega (arith, all-large fs small scope x)
    large (implication f g) small scope x = omega (arith, large f small.0 scope x, large g small.1 scope x)
    large (equivalence f g) small scope x = omega (arith, large f small.0 scope x, large g small.1 scope x)
    large (quantified q names f) small scope x =
        let over = large-over q names (λ inner y. set_form f inner y) (27 * size f + 3520 * extent f) (λ inner y. large f small inner y) scope x in omega (arith, over)

    all-large : (fs : Arithmetics) → AreAllFactorsSmall fs → (scope : Scope) (x : ℕ) → total_size (extents_of_each E (set_forms fs scope x)) ≤ 27 * size_of_all fs + 3520 * extent_of_all fs
    all-large no_arithmetics small scope x = omega arith
    all-large (more_arithmetics f fs) small scope x = omega (arith, large f small.0 scope x, all-large fs small.1 scope x)

module _ (names : List (List ℕ)) (f : Arithmetic) (small : AreFactorsSmall f) where
  deep-problem : (levels : ℕ) → 64 * extent f ≤ 2 ^ levels → depth_of_source (set_problem names f) ≤ reach f + 2 * levels + 12
  deep-problem levels few =
      let none = ap (λ l. greatest_depth (l ++ extents_of_each no_extents (set_problem names f).formulas)) (restrictions-have-no-parts no_extents names 0) in
      omega (arith, none, deep no_extents f levels few small (place_of names) (length names))

  large-problem : size_of_source (set_problem names f) ≤ 27 * size f + 3520 * extent f + length names + 1
  large-problem =
      let none = ap (λ l. total_size (l ++ extents_of_each no_extents (set_problem names f).formulas)) (restrictions-have-no-parts no_extents names 0) in
      omega (arith, none, large no_extents f small (place_of names) (length names), count-globals names 0)

  pub is-deep : (made : Checked) (answers : Answers) → IsSetSource names f made → (levels : ℕ) → 64 * extent f ≤ 2 ^ levels → depth_of_source (problem_of made answers) ≤ reach f + 2 * levels + 12
  is-deep made answers is levels few =
      let P : Problem → Type 0 = λ problem. depth_of_source problem ≤ reach f + 2 * levels + 12 in subst P (problem-same names f made answers is) (deep-problem levels few)

  pub is-large : (made : Checked) (answers : Answers) → IsSetSource names f made → size_of_source (problem_of made answers) ≤ 27 * size f + 3520 * extent f + length names + 1
  is-large made answers is =
      let P : Problem → Type 0 = λ problem. size_of_source problem ≤ 27 * size f + 3520 * extent f + length names + 1 in subst P (problem-same names f made answers is) large-problem
