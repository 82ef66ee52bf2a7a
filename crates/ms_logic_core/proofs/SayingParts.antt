-- When the restrictions of new variables that are more than one basic relation are Yes.
use Rattle.std.proofs.Common.{◌≡◌, ℕ, ◌+◌, ◌-◌, ◌<◌, ◌≤◌, ◌==◌, Bool, true, false, ◌↔◌, inl, inr, ⊎_elim, List, [], ◌∷◌, Some, None, IsSomeAnd, refl, sym, ◌∙◌, ap, subst, arith}
use Rattle.std.proofs.lemmas.Bool.{false≢true, cases_lt, cases_eq}
use Rattle.std.proofs.lemmas.Bool.Decides.{nat_tests}
use Rattle.ms_logic.specs.declared.mode.Order.TheVariants.{One, Two}
use Rattle.ms_logic.specs.declared.mode.Quant.TheVariants.{Ex}
use Rattle.ms_logic_core.specs.declared.core_formula.Basic.TheVariants as Basic
use Rattle.ms_logic.specs.declared.assignment.Value.TheVariants.{Number, Set}
use Rattle.ms_logic.specs.Assignment.{Universe, Env, assign, IsValueOf, IsWithin}
use Rattle.ms_logic_core.specs.CoreForm.{CoreForm, basic, negation, quantified, unrestricted, CoreYes, CoreNo}
use Rattle.ms_logic.specs.FiniteSet.{IsMember, is_member, numbers_below}
use Rattle.ms_logic_core.specs.Spread.{both_of, is_minus, is_only_member, is_whole}
use Rattle.ms_logic.specs.Terms.{all_positions}
use Rattle.ms_logic.specs.Truth.{Import}
use Rattle.ms_logic.specs.Letters.{bound_of_set}
use Rattle.ms_logic.proofs.Members.{IsRising-range, either_true}
use Rattle.ms_logic.proofs.AssignedValues.{value_at-assign, value_at-assign_other}
use Rattle.ms_logic_core.proofs.SayingTerms.{number_in, member_within, valid_along}
use Rattle.ms_logic.proofs.SetLaws.{sets_are_their_members, numbers_below_law}
use Rattle.ms_logic.proofs.Values.{each_value}

-- a number below one within the universe is within it
within_lower : (u : Universe) (a b : ℕ) → a ≤ b → IsWithin u b → IsWithin u a
within_lower None a b lower within = tt
within_lower (Some size) a b lower within = omega (arith, within, lower)

-- a member is below the bound of its set
below_bound : (n : ℕ) (members : List ℕ) → IsMember n members → n < bound_of_set members
below_bound n [] member = absurd (false≢true member)
below_bound n (first ∷ more) member =
    ⊎_elim (λ here. let same : first ≡ n = grind (arith, nat_tests) in omega (arith, same)) (λ later. let below = below_bound n more later in omega (arith, below)) ((either_true (first == n) (is_member n more)).0 member)

-- the one member of a set of one
member_of_one : (n m : ℕ) → m ≡ n → IsMember n (m ∷ [])
member_of_one n m same = grind (arith, nat_tests)

only_of_one : (n m : ℕ) → IsMember n (m ∷ []) → m ≡ n
only_of_one n m member = grind (arith, nat_tests)

-- the variable of a new quantifier
number_next : (next v : ℕ) (inner : Env) → (assign next (Number v) inner).number next ≡ v
number_next next v inner = ap number_in (value_at-assign One next (Number v) inner None tt)

number_before : (x next v : ℕ) (inner : Env) → x < next → (assign next (Number v) inner).number x ≡ inner.number x
number_before x next v inner below = ap number_in (value_at-assign_other One next (Number v) x inner (λ same. omega (arith, same)))

module _ (imports : List Import) where
  module _ (y n next x : ℕ) (inner : Env) (k m : ℕ) (y_below : y < next) (x_below : x < next) (is_k : inner.number y ≡ k) (is_m : inner.number x ≡ m) (within : IsWithin inner.universe m) where
    abbrev some_more : CoreForm
    some_more = quantified Ex One next unrestricted (basic (Basic.Plus x next n))

    more_at : (v : ℕ) → CoreYes imports (basic (Basic.Plus x next n)) (assign next (Number v) inner) ↔ (m ≡ v + n)
    more_at v =
        let at_x = number_before x next v inner x_below ∙ is_m in
        let at_next = number_next next v inner in
        (λ holds. sym at_x ∙ (holds ∙ ap (λ t. t + n) at_next), λ same. at_x ∙ (same ∙ sym (ap (λ t. t + n) at_next)))

    more_yes : n ≤ m → CoreYes imports some_more inner
    more_yes at_least = (Number (m - n), (within_lower inner.universe (m - n) m (omega arith) within, tt), (more_at (m - n)).1 (omega arith))

    more_no : m < n → CoreNo imports some_more inner
    more_no below = (
      each_value _ (λ b in_range holds. absurd in_range.0) (λ v in_range holds. let same = (more_at v).0 holds in omega (arith, same)) (λ s in_range holds. absurd in_range.0),
      inl (Number m, (within, tt), λ holds. let same = (more_at m).0 holds in omega (arith, same)),
    )

    pub minus_means : CoreYes imports (is_minus y n next x) inner ↔ (k ≡ m - n)
    minus_means = (
      λ holds. ⊎_elim (λ sum. let same : inner.number x ≡ inner.number y + n = sum in omega (arith, same, is_k, is_m))
          (λ more. ⊎_elim
          (λ both. let is_zero : inner.number y ≡ 0 = both.0 in
          ⊎_elim (λ below. omega (arith, below, is_zero, is_k)) (λ at_least. absurd (both.1.0.0 (Number (m - n)) (within_lower inner.universe (m - n) m (omega arith) within, tt) ((more_at (m - n)).1 (omega arith)))) (cases_lt m n))
          (λ impossible. absurd impossible) more) holds.1,
      λ same. ⊎_elim
          (λ below. let is_zero : inner.number y ≡ 0 = omega (arith, below, same, is_k) in
          ((inr (λ sum. let equal : inner.number x ≡ inner.number y + n = sum in omega (arith, equal, is_k, is_m, below)), (inl (is_zero, (more_no below, tt)), tt)), inr (inl (is_zero, (more_no below, tt)))))
          (λ at_least. let sum : inner.number x ≡ inner.number y + n = omega (arith, at_least, same, is_k, is_m) in
          let not_q : CoreNo imports (both_of (basic (Basic.Number y 0)) (negation some_more)) inner = ((cases_eq (inner.number y) 0, (inr (more_yes at_least), tt)), inr (inl (more_yes at_least))) in
          ((inl sum, (inr not_q, tt)), inl sum))
          (cases_lt m n),
    )

  module _ (y next x : ℕ) (inner : Env) (s : List ℕ) (m : ℕ) (y_below : y < next) (x_below : x < next) (is_s : inner.set y ≡ s) (is_m : inner.number x ≡ m) (valid : IsValueOf Two inner.universe (Set s)) (within : IsWithin inner.universe m) where
    in_set : (v : ℕ) → IsMember ((assign next (Number v) inner).number next) ((assign next (Number v) inner).set y) ↔ IsMember v s
    in_set v =
        let moved = ap (λ z. is_member z (inner.set y)) (number_next next v inner) ∙ ap (is_member v) is_s in
        (λ there. sym moved ∙ there, λ there. moved ∙ there)

    is_x : (v : ℕ) → ((assign next (Number v) inner).number next ≡ (assign next (Number v) inner).number x + 0) ↔ (v ≡ m)
    is_x v =
        let at_x = number_before x next v inner x_below ∙ is_m in
        let at_next = number_next next v inner in
        (λ same. sym at_next ∙ (same ∙ (ap (λ t. t + 0) at_x ∙ omega arith)), λ same. at_next ∙ (same ∙ (omega arith ∙ sym (ap (λ t. t + 0) at_x))))

    pub only_means : CoreYes imports (is_only_member y next x) inner ↔ (s ≡ m ∷ [])
    only_means =
        let at_m = ap (λ z. is_member z (inner.set y)) is_m ∙ ap (is_member m) is_s in (
          λ holds. sets_are_their_members s (m ∷ []) valid.0 (tt, tt) (λ n. (
            λ member. ⊎_elim (λ same. member_of_one n m (sym same)) (λ other. absurd (holds.1.0.0 (Number n) (member_within inner.universe s valid.1 n member, tt) ((in_set n).1 member, λ same. other ((is_x n).0 same)))) (cases_eq n m),
            λ member. subst (λ k. IsMember k s) (only_of_one n m member) (sym at_m ∙ holds.0),
          )),
          λ same. let has : IsMember m s = subst (λ l. IsMember m l) (sym same) (member_of_one m m refl) in (
            at_m ∙ has,
            (
              (
                each_value _ (λ b in_range fails. absurd in_range.0) (λ v in_range fails. fails.1 ((is_x v).1 (sym (only_of_one v m (subst (λ l. IsMember v l) same ((in_set v).0 fails.0)))))) (λ t in_range fails. absurd in_range.0),
                inl (Number m, (within, tt), (inl ((in_set m).1 has), inl ((is_x m).1 refl), inr ((is_x m).1 refl))),
              ),
              tt,
            ),
          ),
        )

  module _ (y next : ℕ) (inner : Env) (s : List ℕ) (y_below : y < next) (is_s : inner.set y ≡ s) (valid : IsValueOf Two inner.universe (Set s)) where
    in_whole : (v : ℕ) → IsMember ((assign next (Number v) inner).number next) ((assign next (Number v) inner).set y) ↔ IsMember v s
    in_whole v =
        let moved = ap (λ z. is_member z (inner.set y)) (number_next next v inner) ∙ ap (is_member v) is_s in
        (λ there. sym moved ∙ there, λ there. moved ∙ there)

    -- a member that is not lacking is there
    not_lacking : (b : Bool) → ((b ≡ true → ⊥) → ⊥) → b ≡ true
    not_lacking true some = refl
    not_lacking false some = absurd (some false≢true)

    whole_by : (u : Universe) → inner.universe ≡ u → CoreYes imports (is_whole next y) inner ↔ IsSomeAnd (all_positions u) (λ t. s ≡ t)
    whole_by None is = (
      λ holds. holds.0 (Number (bound_of_set s)) (valid_along One None inner.universe (Number (bound_of_set s)) (sym is) tt, tt) (λ member. let below = below_bound (bound_of_set s) s ((in_whole (bound_of_set s)).0 member) in omega (arith, below)),
      λ impossible. absurd impossible,
    )
    whole_by (Some size) is = (
      λ holds. sets_are_their_members s (numbers_below size) valid.0 (IsRising-range 0 size) (λ n. (
        λ member. ((numbers_below_law size).exactly n).1 (valid_along One inner.universe (Some size) (Number n) is (member_within inner.universe s valid.1 n member)),
        λ member. not_lacking (is_member n s) (λ lacking. holds.0 (Number n) (valid_along One (Some size) inner.universe (Number n) (sym is) (((numbers_below_law size).exactly n).0 member), tt) (λ there. lacking ((in_whole n).0 there))),
      )),
      λ same.
          let has : (n : ℕ) → n < size → IsMember n s = λ n below. subst (λ l. IsMember n l) (sym same) (((numbers_below_law size).exactly n).1 below) in (
            each_value _ (λ b in_range fails. absurd in_range.0) (λ n in_range fails. fails ((in_whole n).1 (has n (valid_along One inner.universe (Some size) (Number n) is in_range.0)))) (λ t in_range fails. absurd in_range.0),
            ⊎_elim
                (λ some. inl (Number 0, (valid_along One (Some size) inner.universe (Number 0) (sym is) some, tt), (in_whole 0).1 (has 0 some)))
                (λ none. inr (each_value _ (λ b in_range. absurd in_range.0) (λ n in_range. let below : n < size = valid_along One inner.universe (Some size) (Number n) is in_range.0 in omega (arith, below, none)) (λ t in_range. absurd in_range.0)))
                (cases_lt 0 size),
          ),
    )

    pub whole_means : CoreYes imports (is_whole next y) inner ↔ IsSomeAnd (all_positions inner.universe) (λ t. s ≡ t)
    whole_means = whole_by inner.universe refl
