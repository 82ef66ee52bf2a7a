-- Numbers that are changed twice, and the numbers of the answer in the spread.
use mathlib.Core.Path.{fun_ext}
use Rattle.std.proofs.Common.{◌≡◌, ℕ, ◌+◌, ◌-◌, ◌*◌, ◌/◌, ◌<◌, ◌≤◌, nat_lt, cond, max, List, [], ◌∷◌, map, inl, inr, refl, sym, ap, ap₂, ◌∙◌, arith}
use Rattle.std.proofs.lemmas.Bool.{cases_lt, lt-ltb, le-ltb}
use Rattle.std.specs.List.{zip}
use Rattle.ms_logic_core.specs.declared.core_formula.Basic.{Basic}
use Rattle.ms_logic_core.specs.declared.core_formula.Basic.TheVariants.{Truth, Number, Plus, Less, Member, Sub, Union, Inter, Diff, Up, Down, Min, Max, Bits}
use Rattle.ms_logic.specs.declared.mode.Order.{Order}
use Rattle.ms_logic.specs.declared.mode.Order.TheVariants.{Zero, One, Two}
use Rattle.ms_logic.specs.Assignment.{Variable}
use Rattle.ms_logic_core.specs.CoreForm.{CoreForm, truth, falsity, basic, negation, conjunction, disjunction, implication, equivalence, restrict, imported, quantified, CoreForms, no_forms, more_forms, CoreRestriction, unrestricted, restricted}
use Rattle.ms_lower.specs.Numbering.{Numbering, number_at, rank, renumbered, renumbered_basic, renumbered_each, renumbered_in}
use Rattle.ms_lower.specs.Calling.{spread_number_of}

-- numbers, with these variables of imports
abbrev pub numbers_with : (ℕ → List Variable) → (Order → ℕ → ℕ) → Numbering
numbers_with known number = record { number = number; imported = known }

-- the second map of numbers behind the first
abbrev pub after : (Order → ℕ → ℕ) → (Order → ℕ → ℕ) → Order → ℕ → ℕ
after second first o x = second o (first o x)

module _ (known : ℕ → List Variable) (m n : Order → ℕ → ℕ) where
  basic_twice : (b : Basic) → renumbered_basic (numbers_with known m) (renumbered_basic (numbers_with known n) b) ≡ renumbered_basic (numbers_with known (after m n)) b
  basic_twice (Truth a) = refl
  basic_twice (Number x k) = refl
  basic_twice (Plus x y k) = refl
  basic_twice (Less x y) = refl
  basic_twice (Member x s) = refl
  basic_twice (Sub s t) = refl
  basic_twice (Union s t u) = refl
  basic_twice (Inter s t u) = refl
  basic_twice (Diff s t u) = refl
  basic_twice (Up s t k) = refl
  basic_twice (Down s t k) = refl
  basic_twice (Min x s) = refl
  basic_twice (Max x s) = refl
  basic_twice (Bits s k) = refl

  -- the variables that stand for those of an import
  variables_twice : (xs : List ℕ) (vs : List Variable) → map (λ p. m p.1.order p.0) (zip (map (λ p. n p.1.order p.0) (zip xs vs)) vs) ≡ map (λ p. after m n p.1.order p.0) (zip xs vs)
  variables_twice [] vs = refl
  variables_twice (x ∷ xs) [] = refl
  variables_twice (x ∷ xs) (v ∷ vs) = ap (λ ys. m v.order (n v.order x) ∷ ys) (variables_twice xs vs)

  mutual
    pub twice : (f : CoreForm) → renumbered (numbers_with known m) (renumbered (numbers_with known n) f) ≡ renumbered (numbers_with known (after m n)) f
    twice truth = refl
    twice falsity = refl
    twice (basic b) = ap (λ c. basic c) (basic_twice b)
    twice (negation f) = ap (λ g. negation g) (twice f)
    twice (conjunction fs) = ap (λ gs. conjunction gs) (each_twice fs)
    twice (disjunction fs) = ap (λ gs. disjunction gs) (each_twice fs)
    twice (implication f g) = ap₂ (λ a b. implication a b) (twice f) (twice g)
    twice (equivalence f g) = ap₂ (λ a b. equivalence a b) (twice f) (twice g)
    twice (restrict f) = ap (λ g. restrict g) (twice f)
    twice (imported i xs) = ap (λ ys. imported i ys) (variables_twice xs (known i))
    twice (quantified q o x d f) = ap₂ (λ e g. quantified q o (m o (n o x)) e g) (within_twice d) (twice f)

    each_twice : (fs : CoreForms) → renumbered_each (numbers_with known m) (renumbered_each (numbers_with known n) fs) ≡ renumbered_each (numbers_with known (after m n)) fs
    each_twice no_forms = refl
    each_twice (more_forms f fs) = ap₂ (λ g gs. more_forms g gs) (twice f) (each_twice fs)

    within_twice : (d : CoreRestriction) → renumbered_in (numbers_with known m) (renumbered_in (numbers_with known n) d) ≡ renumbered_in (numbers_with known (after m n)) d
    within_twice unrestricted = refl
    within_twice (restricted d) = ap (λ e. restricted e) (twice d)

-- two changes of numbers are one
pub twice_is : (known : ℕ → List Variable) (m n k : Order → ℕ → ℕ) → ((o : Order) (x : ℕ) → m o (n o x) ≡ k o x) → (f : CoreForm) →
    renumbered (numbers_with known m) (renumbered (numbers_with known n) f) ≡ renumbered (numbers_with known k) f
twice_is known m n k same f = twice known m n f ∙ ap (λ l. renumbered (numbers_with known l) f) (fun_ext (λ o. fun_ext (λ x. same o x)))

-- the number of a kept variable stays, and those behind are moved to those behind the globals
abbrev pub moved : ℕ → ℕ → Order → ℕ → ℕ
moved kept globals o x = cond (nat_lt x kept) x (globals + (x - kept))

module _ (kept globals : ℕ) (within : kept ≤ globals) where
  kept_number : (o : Order) (x : ℕ) → x < kept → number_at kept globals o x ≡ x
  kept_number o x below = ap (λ b. cond b x (globals + (3 * (x - kept) + rank o))) (lt-ltb x kept below)

  later_number : (o : Order) (x : ℕ) → kept ≤ x → number_at kept globals o x ≡ globals + (3 * (x - kept) + rank o)
  later_number o x above = ap (λ b. cond b x (globals + (3 * (x - kept) + rank o))) (le-ltb x kept above)

  pub kept_moves : (o : Order) (x : ℕ) → x < kept → moved kept globals o x ≡ x
  kept_moves o x below = ap (λ b. cond b x (globals + (x - kept))) (lt-ltb x kept below)

  pub later_moves : (o : Order) (x : ℕ) → kept ≤ x → moved kept globals o x ≡ globals + (x - kept)
  later_moves o x above = ap (λ b. cond b x (globals + (x - kept))) (le-ltb x kept above)

  third_of : (o : Order) (k : ℕ) → (3 * k + rank o) / 3 ≡ k
  third_of Zero k = omega arith
  third_of One k = omega arith
  third_of Two k = omega arith

  low_spread : (y : ℕ) → y < globals → spread_number_of globals y ≡ y
  low_spread y below = ap (λ b. cond b y (globals + (y - globals) / 3)) (lt-ltb y globals below)

  high_spread : (k : ℕ) → spread_number_of globals (globals + k) ≡ globals + k / 3
  high_spread k =
      let difference : globals + k - globals ≡ k = omega arith in
      ap (λ b. cond b (globals + k) (globals + (globals + k - globals) / 3)) (le-ltb (globals + k) globals (omega arith)) ∙ ap (λ j. globals + j / 3) difference

  -- the number of the answer tells that of the spread
  pub spread_moves : (o : Order) (x : ℕ) → spread_number_of globals (number_at kept globals o x) ≡ moved kept globals o x
  spread_moves o x =
      elim (cases_lt x kept) [
        | inl below ↦ ap (spread_number_of globals) (kept_number o x below) ∙ (low_spread x (omega (arith, below, within)) ∙ sym (kept_moves o x below))
        | inr above ↦
            ap (spread_number_of globals) (later_number o x above)
            ∙ (high_spread (3 * (x - kept) + rank o) ∙ (ap (λ k. globals + k) (third_of o (x - kept)) ∙ sym (later_moves o x above)))
      ]

  -- the number of the answer is that of the moved number, where all globals are kept
  pub moved_number : (o : Order) (x : ℕ) → number_at globals globals o (moved kept globals o x) ≡ number_at kept globals o x
  moved_number o x =
      elim (cases_lt x kept) [
        | inl below ↦
            ap (number_at globals globals o) (kept_moves o x below)
            ∙ (ap (λ b. cond b x (globals + (3 * (x - globals) + rank o))) (lt-ltb x globals (omega (arith, below, within))) ∙ sym (kept_number o x below))
        | inr above ↦
            let difference : globals + (x - kept) - globals ≡ x - kept = omega arith in
            ap (number_at globals globals o) (later_moves o x above)
            ∙ (ap (λ b. cond b (globals + (x - kept)) (globals + (3 * (globals + (x - kept) - globals) + rank o))) (le-ltb (globals + (x - kept)) globals (omega arith))
            ∙ (ap (λ k. globals + (3 * k + rank o)) difference ∙ sym (later_number o x above)))
      ]

  -- the numbers that are free stay free
  pub moves_free : (free : ℕ) → kept ≤ free → (o : Order) (k : ℕ) → moved kept globals o (free + k) ≡ moved kept globals Zero free + k
  moves_free free above o k =
      let sums : globals + (free + k - kept) ≡ globals + (free - kept) + k = omega (arith, above) in
      later_moves o (free + k) (omega (arith, above)) ∙ (sums ∙ ap (λ j. j + k) (sym (later_moves Zero free above)))

  -- the first number that is free is no global's
  pub free_above : (free : ℕ) → kept ≤ free → max globals (moved kept globals Zero free) ≡ moved kept globals Zero free
  free_above free above = let is = later_moves Zero free above in omega (arith, is)
