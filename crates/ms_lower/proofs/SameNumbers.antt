-- A root with the numbers of the answer is the same up to the numbers of bound variables.
use Rattle.std.proofs.Common.{◌≡◌, ◌≢◌, ℕ, ◌+◌, ◌-◌, ◌*◌, ◌<◌, ◌≤◌, ◌⊎◌, Bool, true, false, cond, max, min, MatchBool, List, [], ◌∷◌, length, map, slice_get, suc, inl, inr, refl, sym, ap, subst, ◌∙◌, arith}
use Rattle.std.proofs.lemmas.Bool.{le-ltb, lt-ltb, cases_lt}
use Rattle.std.specs.List.{zip}
use Rattle.ms_logic_core.specs.declared.core_formula.Basic.{Basic}
use Rattle.ms_logic_core.specs.declared.core_formula.Basic.TheVariants.{Truth, Number, Plus, Less, Member, Sub, Union, Inter, Diff, Up, Down, Min, Max, Bits}
use Rattle.ms_logic.specs.declared.mode.Order.{Order}
use Rattle.ms_logic.specs.declared.mode.Order.TheVariants.{Zero, One, Two}
use Rattle.ms_logic.specs.Assignment.{Variable}
use Rattle.ms_logic_core.specs.Operands.{at_places, variables_at, variables_of_basic}
use Rattle.ms_logic_core.specs.CoreForm.{CoreForm, truth, falsity, basic, negation, conjunction, disjunction, implication, equivalence, restrict, imported, quantified, CoreForms, no_forms, more_forms, CoreRestriction, unrestricted, restricted}
use Rattle.ms_logic.specs.Lists.{AreRising, IsBelowFirst, Each, IsAmong}
use Rattle.ms_logic_core.specs.Roots.{Root, first_free}
use Rattle.ms_logic_core.specs.SameUpToBound.{AnswerToEachOther, BoundPair, SameEach, SameRestriction, SameRoot, SameUnder, SameVariable, SameVariables, pairs_of}
use Rattle.ms_logic_core.specs.Spread.{is_order, variables_of_import}
use Rattle.ms_logic.specs.Truth.{Import}
use Rattle.ms_lower.specs.Numbering.{Numbering, number_at, rank, renumbered, renumbered_basic, renumbered_each, renumbered_in, renumbered_variable, with_new_numbers}
use Rattle.ms_lower.specs.NumberLaws.{numbering_in}
use Rattle.ms_logic_core.specs.Stands.{EachStands, RestrictionStands, Stands}

rank_small : (o : Order) → rank o < 3
rank_small Zero = omega arith
rank_small One = omega arith
rank_small Two = omega arith

-- greater numbers become greater numbers, whatever their orders
pub numbers_rise : (kept globals : ℕ) (p o : Order) (x y : ℕ) → kept ≤ globals → x < y → number_at kept globals p x < number_at kept globals o y
numbers_rise kept globals p o x y within below =
    let small = rank_small p in
    elim (cases_lt y kept) [
      | inl inside ↦
          let first = ap (λ b. cond b x (globals + (3 * (x - kept) + rank p))) (lt-ltb x kept (omega arith)) in
          let second = ap (λ b. cond b y (globals + (3 * (y - kept) + rank o))) (lt-ltb y kept inside) in
          omega (arith, first, second)
      | inr beyond ↦
          let second = ap (λ b. cond b y (globals + (3 * (y - kept) + rank o))) (le-ltb y kept beyond) in
          elim (cases_lt x kept) [
            | inl inside ↦ let first = ap (λ b. cond b x (globals + (3 * (x - kept) + rank p))) (lt-ltb x kept inside) in omega (arith, first, second)
            | inr outside ↦ let first = ap (λ b. cond b x (globals + (3 * (x - kept) + rank p))) (le-ltb x kept outside) in omega (arith, first, second, small)
          ]
    ]

same_order : (o : Order) → is_order o o ≡ true
same_order Zero = refl
same_order One = refl
same_order Two = refl

-- greater numbers become greater numbers
unfoldable pub Rises : Numbering → Type 0
Rises n = (p o : Order) (x y : ℕ) → x < y → n.number p x < n.number o y

-- each variable in scope and its number of the answer are the same variable below these binders
pub Agrees : Numbering → List BoundPair → List Variable → Type 0
Agrees n pairs scope = (v : Variable) → IsAmong scope v → SameVariable pairs v.order v.name (n.number v.order v.name)

each_among : (P : Variable → Type 0) (scope : List Variable) (v : Variable) → Each P scope → IsAmong scope v → P v
each_among P [] v all here = absurd here
each_among P (w ∷ scope) v all (inl here) = subst P here all.0
each_among P (w ∷ scope) v all (inr later) = each_among P scope v all.1 later

module _ (n : Numbering) (rises : Rises n) where
  -- one binder more
  under : (pair : BoundPair) (outer : List BoundPair) (v : Variable) (b : Bool) → is_order pair.order v.order ≡ b → v.name ≢ pair.left → n.number v.order v.name ≢ pair.right → SameVariable outer v.order v.name (n.number v.order v.name) →
      SameVariable (pair ∷ outer) v.order v.name (n.number v.order v.name)
  under pair outer v true is left right same =
      subst (λ b. MatchBool b (((v.name ≡ pair.left) × (n.number v.order v.name ≡ pair.right)) ⊎ ((v.name ≢ pair.left) × (n.number v.order v.name ≢ pair.right) × SameVariable outer v.order v.name (n.number v.order v.name))) (SameVariable outer v.order v.name (n.number v.order v.name))) (sym is) (inr (left, right, same))
  under pair outer v false is left right same =
      subst (λ b. MatchBool b (((v.name ≡ pair.left) × (n.number v.order v.name ≡ pair.right)) ⊎ ((v.name ≢ pair.left) × (n.number v.order v.name ≢ pair.right) × SameVariable outer v.order v.name (n.number v.order v.name))) (SameVariable outer v.order v.name (n.number v.order v.name))) (sym is) same

  at_binder : (o : Order) (x : ℕ) (outer : List BoundPair) → SameVariable (record { order = o; left = x; right = n.number o x } ∷ outer) o x (n.number o x)
  at_binder o x outer =
      subst (λ b. MatchBool b (((x ≡ x) × (n.number o x ≡ n.number o x)) ⊎ ((x ≢ x) × (n.number o x ≢ n.number o x) × SameVariable outer o x (n.number o x))) (SameVariable outer o x (n.number o x))) (sym (same_order o)) (inl (refl, refl))

  pub agrees_under : (pairs : List BoundPair) (scope : List Variable) (o : Order) (x : ℕ) → Agrees n pairs scope → Each (λ v. v.name < x) scope →
      Agrees n (record { order = o; left = x; right = n.number o x } ∷ pairs) (record { name = x; order = o } ∷ scope)
  unfolding Rises Agrees
  agrees_under pairs scope o x agrees below v (inl here) =
      subst (λ w. SameVariable (record { order = o; left = x; right = n.number o x } ∷ pairs) w.order w.name (n.number w.order w.name)) here (at_binder o x pairs)
  agrees_under pairs scope o x agrees below v (inr later) =
      let smaller = each_among (λ w. w.name < x) scope v below later in
      let lower = rises v.order o v.name x smaller in
      under (record { order = o; left = x; right = n.number o x }) pairs v (is_order o v.order) refl (λ e. omega (arith, smaller, e)) (λ e. omega (arith, lower, e)) (agrees v later)

  same_variables : (pairs : List BoundPair) (scope vs : List Variable) → Agrees n pairs scope → Each (IsAmong scope) vs → SameVariables pairs vs (map (renumbered_variable n) vs)
  unfolding Agrees
  same_variables pairs scope [] agrees all = tt
  same_variables pairs scope (v ∷ vs) agrees all = (refl, agrees v all.0, same_variables pairs scope vs agrees all.1)

  -- renumbering maps the variables of a basic relation, and keeps whether it speaks of places
  pub basic_renumbered : (b : Basic) → (variables_of_basic (renumbered_basic n b) ≡ map (renumbered_variable n) (variables_of_basic b)) × (at_places b ≡ at_places (renumbered_basic n b))
  basic_renumbered (Truth a) = (refl, refl)
  basic_renumbered (Number x k) = (refl, refl)
  basic_renumbered (Plus x y k) = (refl, refl)
  basic_renumbered (Less x y) = (refl, refl)
  basic_renumbered (Member x s) = (refl, refl)
  basic_renumbered (Sub s t) = (refl, refl)
  basic_renumbered (Union s t u) = (refl, refl)
  basic_renumbered (Inter s t u) = (refl, refl)
  basic_renumbered (Diff s t u) = (refl, refl)
  basic_renumbered (Up s t k) = (refl, refl)
  basic_renumbered (Down s t k) = (refl, refl)
  basic_renumbered (Min x s) = (refl, refl)
  basic_renumbered (Max x s) = (refl, refl)
  basic_renumbered (Bits s k) = (refl, refl)

  pub import_variables : (xs : List ℕ) (vs : List Variable) → variables_at (map (λ p. n.number p.1.order p.0) (zip xs vs)) vs ≡ map (renumbered_variable n) (variables_at xs vs)
  import_variables [] vs = refl
  import_variables (x ∷ xs) [] = refl
  import_variables (x ∷ xs) (v ∷ vs) = ap (λ l. renumbered_variable n (record { name = x; order = v.order }) ∷ l) (import_variables xs vs)

  pub import_length : (xs : List ℕ) (vs : List Variable) → length xs ≡ length vs → length xs ≡ length (map (λ p. n.number p.1.order p.0) (zip xs vs))
  import_length [] vs same = refl
  import_length (x ∷ xs) [] same = absurd (omega (arith, same))
  import_length (x ∷ xs) (v ∷ vs) same = ap (λ k. suc k) (import_length xs vs (omega (arith, same)))

  mutual
    pub same_renumbered : (imports : List Import) (pairs : List BoundPair) (scope : List Variable) (f : CoreForm) → ((i : ℕ) → n.imported i ≡ variables_of_import (slice_get imports i)) → Agrees n pairs scope → Stands imports scope f →
        SameUnder imports pairs f (renumbered n f)
    same_renumbered imports pairs scope truth known agrees stands = tt
    same_renumbered imports pairs scope falsity known agrees stands = tt
    same_renumbered imports pairs scope (basic b) known agrees stands =
        ((basic_renumbered b).1, subst (SameVariables pairs (variables_of_basic b)) (sym (basic_renumbered b).0) (same_variables pairs scope (variables_of_basic b) agrees stands))
    same_renumbered imports pairs scope (negation f) known agrees stands = same_renumbered imports pairs scope f known agrees stands
    same_renumbered imports pairs scope (conjunction fs) known agrees stands = each_renumbered imports pairs scope fs known agrees stands
    same_renumbered imports pairs scope (disjunction fs) known agrees stands = each_renumbered imports pairs scope fs known agrees stands
    same_renumbered imports pairs scope (implication f g) known agrees stands = (same_renumbered imports pairs scope f known agrees stands.0, same_renumbered imports pairs scope g known agrees stands.1)
    same_renumbered imports pairs scope (equivalence f g) known agrees stands = (same_renumbered imports pairs scope f known agrees stands.0, same_renumbered imports pairs scope g known agrees stands.1)
    same_renumbered imports pairs scope (restrict f) known agrees stands = same_renumbered imports pairs scope f known agrees stands
    same_renumbered imports pairs scope (imported i xs) known agrees stands =
        let vs = variables_of_import (slice_get imports i) in (
          refl,
          import_length xs vs stands.0 ∙ ap (λ l. length (map (λ p. n.number p.1.order p.0) (zip xs l))) (sym (known i)),
          subst (SameVariables pairs (variables_at xs vs)) (sym (ap (λ l. variables_at (map (λ p. n.number p.1.order p.0) (zip xs l)) vs) (known i) ∙ import_variables xs vs)) (same_variables pairs scope (variables_at xs vs) agrees stands.1),
        )
    same_renumbered imports pairs scope (quantified q o x d f) known agrees stands = (
      refl,
      refl,
      restriction_renumbered imports (record { order = o; left = x; right = n.number o x } ∷ pairs) (record { name = x; order = o } ∷ scope) d known (agrees_under pairs scope o x agrees stands.0) stands.1,
      same_renumbered imports (record { order = o; left = x; right = n.number o x } ∷ pairs) (record { name = x; order = o } ∷ scope) f known (agrees_under pairs scope o x agrees stands.0) stands.2,
    )

    each_renumbered : (imports : List Import) (pairs : List BoundPair) (scope : List Variable) (fs : CoreForms) → ((i : ℕ) → n.imported i ≡ variables_of_import (slice_get imports i)) → Agrees n pairs scope → EachStands imports scope fs →
        SameEach imports pairs fs (renumbered_each n fs)
    each_renumbered imports pairs scope no_forms known agrees stands = tt
    each_renumbered imports pairs scope (more_forms f fs) known agrees stands = (same_renumbered imports pairs scope f known agrees stands.0, each_renumbered imports pairs scope fs known agrees stands.1)

    restriction_renumbered : (imports : List Import) (pairs : List BoundPair) (scope : List Variable) (d : CoreRestriction) → ((i : ℕ) → n.imported i ≡ variables_of_import (slice_get imports i)) → Agrees n pairs scope → RestrictionStands imports scope d →
        SameRestriction imports pairs d (renumbered_in n d)
    restriction_renumbered imports pairs scope unrestricted known agrees stands = tt
    restriction_renumbered imports pairs scope (restricted d) known agrees stands = same_renumbered imports pairs scope d known agrees stands

-- the variables of a root below its own binders

pairs : Numbering → List Variable → List BoundPair
pairs n vs = pairs_of vs (map (renumbered_variable n) vs)

each_above : (y x : ℕ) (vs : List Variable) → x < y → Each (λ v. y < v.name) vs → Each (λ v. x < v.name) vs
each_above y x [] below above = tt
each_above y x (v ∷ vs) below above = ((let a = above.0 in omega arith), each_above y x vs below above.1)

each_below : (x y : ℕ) (vs : List Variable) → x ≤ y → Each (λ v. v.name < x) vs → Each (λ v. v.name < y) vs
each_below x y [] within below = tt
each_below x y (v ∷ vs) within below = ((let b = below.0 in omega arith), each_below x y vs within below.1)

first_below : (x : ℕ) (vs : List Variable) → IsBelowFirst x vs → AreRising vs → Each (λ v. x < v.name) vs
first_below x [] below rising = tt
first_below x (v ∷ vs) below rising = (below, each_above v.name x vs below (first_below v.name vs rising.0 rising.1))

agrees_at_root : (n : Numbering) → Rises n → (vs : List Variable) → AreRising vs → Agrees n (pairs n vs) vs
unfolding Rises Agrees pairs
agrees_at_root n rises [] rising v here = absurd here
agrees_at_root n rises (w ∷ vs) rising v (inl here) =
    subst (λ u. SameVariable (pairs n (w ∷ vs)) u.order u.name (n.number u.order u.name)) here (at_binder n rises w.order w.name (pairs n vs))
agrees_at_root n rises (w ∷ vs) rising v (inr later) =
    let above = each_among (λ u. w.name < u.name) vs v (first_below w.name vs rising.0 rising.1) later in
    let higher = rises w.order v.order w.name v.name above in
    under n rises (record { order = w.order; left = w.name; right = n.number w.order w.name }) (pairs n vs) v (is_order w.order v.order) refl (λ e. omega (arith, above, e)) (λ e. omega (arith, higher, e))
    (agrees_at_root n rises vs rising.1 v later)

pub below_first_free : (vs : List Variable) → Each (λ v. v.name < first_free vs) vs
below_first_free [] = tt
below_first_free (v ∷ vs) = (omega arith, each_below (first_free vs) (max (v.name + 1) (first_free vs)) vs (omega arith) (below_first_free vs))

answer : (globals limit : ℕ) (known : ℕ → List Variable) (vs : List Variable) → Each (λ v. v.name < limit) vs →
    (let n : Numbering = record { number = number_at (min globals limit) globals; imported = known } in AnswerToEachOther globals vs (map (renumbered_variable n) vs))
answer globals limit known [] below = tt
answer globals limit known (v ∷ vs) below = (
  refl,
  elim (cases_lt v.name (min globals limit)) [
    | inl inside ↦ inl (sym (ap (λ b. cond b v.name (globals + (3 * (v.name - min globals limit) + rank v.order))) (lt-ltb v.name (min globals limit) inside)))
    | inr beyond ↦
        let number = ap (λ b. cond b v.name (globals + (3 * (v.name - min globals limit) + rank v.order))) (le-ltb v.name (min globals limit) beyond) in
        let low = below.0 in
        inr (omega (arith, beyond, low), omega (arith, number))
  ],
  answer globals limit known vs below.1,
)

pub keep_roots : (globals : ℕ) (imports : List Import) (root : Root) → AreRising root.variables → Stands imports root.variables root.formula →
    SameRoot imports globals root (with_new_numbers (numbering_in globals imports root) root)
unfolding Agrees Rises pairs
keep_roots globals imports root rising stands =
    let n = numbering_in globals imports root in
    let rises : Rises n = λ p o x y below. numbers_rise (min globals (first_free root.variables)) globals p o x y (omega arith) below in
    record {
      variables = answer globals (first_free root.variables) (λ i. variables_of_import (slice_get imports i)) root.variables (below_first_free root.variables);
      formulas = same_renumbered n rises imports (pairs_of root.variables (map (renumbered_variable n) root.variables)) root.variables root.formula (λ i. refl) (agrees_at_root n rises root.variables rising) stands;
    }
