-- What is said of a term is said of its value.
use Rattle.std.proofs.Common.{◌≡◌, ℕ, ◌+◌, ◌-◌, inl, inr, ⊎_elim, List, [], ◌∷◌, length, Option, Some, None, IsSomeAnd, refl, sym, ◌∙◌, ap, subst, arith}
use Rattle.std.specs.Option.{option_and_then}
use Rattle.ms_logic.specs.declared.mode.Order.TheVariants.{One, Two}
use Rattle.ms_logic_core.specs.declared.core_formula.Basic.TheVariants as Basic
use Rattle.ms_logic.specs.declared.assignment.Value.TheVariants.{Number, Set}
use Rattle.ms_logic.specs.Assignment.{Universe, Env, assign, IsValueOf, IsWithin}
use Rattle.ms_logic_core.specs.CoreForm.{basic}
use Rattle.ms_logic.specs.FiniteSet.{IsRising, set_of, union_of, intersection_of, difference_of, least, greatest, moved_up, moved_down, one_bits, numbers_below}
use Rattle.ms_logic.specs.FreeVariables.{TermReads, SetTermReads, TermsRead}
use Rattle.ms_logic_core.specs.Spread.{Names, spread_number, spread_set, spread_elements, is_minus, is_whole, new_variable, the_variable, TermSpread}
use Rattle.ms_logic.specs.Terms.{number_value, set_value, number_values, if_within, part_within, all_positions, of_value, of_both}
use Rattle.ms_logic.specs.Tree.{Term, number_variable, numeral, plus, minus, minimum, maximum, SetTerm, set_variable, empty_set, whole, literal, pconst, union, intersection, difference, shift_up, shift_down, Terms, no_terms, more_terms}
use Rattle.ms_logic.specs.Truth.{Import}
use Rattle.ms_logic.proofs.Agreement.{named}
use Rattle.ms_logic_core.proofs.Saying.{Reading, reading-extends, reading-weaker, Denotes, denotes_variable}
use Rattle.ms_logic.proofs.AssignedValues.{value_at-assign}
use Rattle.ms_logic_core.proofs.SayingLiterals.{collected, AllDenote, no_elements, more_elements, elements_denote}
use Rattle.ms_logic_core.proofs.SayingParts.{minus_means, whole_means}
use Rattle.ms_logic_core.proofs.SayingTerms.{number_in, set_in, new_number, new_set, number_from, set_from, set_from_two, all_within-of, member_within}
use Rattle.ms_logic.proofs.SetLaws.{union_law, intersection_law, difference_law, moved_up_law, moved_down_law, part_within_law, one_bits_law, numbers_below_law}
use Rattle.ms_logic.proofs.Members.{all_natural}
use Rattle.ms_logic.proofs.Within.{if_within-of}

-- the values of the elements of a literal
abbrev values_of : Terms → Env → List (Option ℕ)
values_of no_terms e = []
values_of (more_terms t ts) e = number_value t e ∷ values_of ts e

values_collected : (ts : Terms) (e : Env) → collected (values_of ts e) ≡ number_values ts e
unfolding collected
values_collected no_terms e = refl
values_collected (more_terms t ts) e = ap (of_both (λ n ns. n ∷ ns) (number_value t e)) (values_collected ts e)

-- the part of a set that is within the universe
part_valid : (u : Universe) (members : List ℕ) → IsRising members → IsValueOf Two u (Set (part_within u members))
part_valid u members rises =
    ((part_within_law u members rises).rising, all_within-of u (part_within u members) (λ n member. (((part_within_law u members rises).exactly n).0 member).1))

-- what is within the universe with more added is within it
lower_within : (u : Universe) (k n : ℕ) → IsWithin u (k + n) → IsWithin u k
lower_within None k n within = tt
lower_within (Some size) k n within = omega (arith, within)

module _ (imports : List Import) where
  -- a number that is made of one value, in the universe of the formula
  number_along : (T : TermSpread) (free : ℕ) (c : Env) {A : Type 0} (f : A → ℕ) (o : Option A) (u w : Universe) → u ≡ w →
      Denotes imports One Number T free c (option_and_then (λ a. if_within u (f a)) o) → Denotes imports One Number T free c (option_and_then (λ a. if_within w (f a)) o)
  number_along T free c f o u w same denotes =
      subst (λ universe. Denotes imports One Number T free c (option_and_then (λ a. if_within universe (f a)) o)) same denotes

  mutual
    pub number_denotes : (t : Term) (names : Names) (free : ℕ) (e c : Env) → Reading (TermReads t) names free e c →
        Denotes imports One Number (spread_number t names) free c (number_value t e)
    number_denotes (number_variable x) names free e c reading =
        let v = named x One in
        subst (λ o. Denotes imports One Number (the_variable (names One x)) free c o) (sym (if_within-of e.universe (e.number x) (reading.valid v (refl, refl))))
        (denotes_variable imports One Number free (names One x) c (e.number x) (reading.below v (refl, refl)) (reading.values v (refl, refl)) (subst (λ u. IsWithin u (e.number x)) (sym reading.universe) (reading.valid v (refl, refl))))
    number_denotes (numeral n) names free e c reading =
        subst (λ u. Denotes imports One Number (spread_number (numeral n) names) free c (if_within u n)) reading.universe
        (new_number imports (λ next y. basic (Basic.Number y n)) free c (λ k. k) (Some n) (λ k within.
        let is : (assign free (Number k) c).number free ≡ k = ap number_in (value_at-assign One free (Number k) c None tt) in
        (λ holds. sym is ∙ holds, λ same. is ∙ same)))
    number_denotes (plus t n) names free e c reading =
        number_along (spread_number (plus t n) names) free c (λ m. m + n) (number_value t e) c.universe e.universe reading.universe
        (number_from imports One Number (spread_number t names) (λ y next x. basic (Basic.Plus y x n)) (λ m. m + n) free c (number_value t e)
        (λ next d later extends. number_denotes t names next e d (reading-extends (TermReads t) names free next e c d later extends reading))
        (λ k next x inner m free_below x_below universe is_k is_m within valid.
        let is_x : inner.number x ≡ m = ap number_in is_m in
        (λ holds. sym is_k ∙ (holds ∙ ap (λ z. z + n) is_x), λ same. is_k ∙ (same ∙ ap (λ z. z + n) (sym is_x)))))
    number_denotes (minus t n) names free e c reading =
        number_along (spread_number (minus t n) names) free c (λ m. m - n) (number_value t e) c.universe e.universe reading.universe
        (number_from imports One Number (spread_number t names) (λ y. is_minus y n) (λ m. m - n) free c (number_value t e)
        (λ next d later extends. number_denotes t names next e d (reading-extends (TermReads t) names free next e c d later extends reading))
        (λ k next x inner m free_below x_below universe is_k is_m within valid.
        minus_means imports free n next x inner k m free_below x_below is_k (ap number_in is_m) (subst (λ u. IsWithin u m) (sym universe) valid)))
    number_denotes (minimum s) names free e c reading =
        number_along (spread_number (minimum s) names) free c least (set_value s e) c.universe e.universe reading.universe
        (number_from imports Two Set (spread_set s names) (λ y next x. basic (Basic.Min y x)) least free c (set_value s e)
        (λ next d later extends. set_denotes s names next e d (reading-extends (SetTermReads s) names free next e c d later extends reading))
        (λ k next x inner t free_below x_below universe is_k is_t within valid.
        let is_x : inner.set x ≡ t = ap set_in is_t in
        (λ holds. sym is_k ∙ (holds ∙ ap least is_x), λ same. is_k ∙ (same ∙ ap least (sym is_x)))))
    number_denotes (maximum s) names free e c reading =
        number_along (spread_number (maximum s) names) free c greatest (set_value s e) c.universe e.universe reading.universe
        (number_from imports Two Set (spread_set s names) (λ y next x. basic (Basic.Max y x)) greatest free c (set_value s e)
        (λ next d later extends. set_denotes s names next e d (reading-extends (SetTermReads s) names free next e c d later extends reading))
        (λ k next x inner t free_below x_below universe is_k is_t within valid.
        let is_x : inner.set x ≡ t = ap set_in is_t in
        (λ holds. sym is_k ∙ (holds ∙ ap greatest is_x), λ same. is_k ∙ (same ∙ ap greatest (sym is_x)))))

    pub set_denotes : (s : SetTerm) (names : Names) (free : ℕ) (e c : Env) → Reading (SetTermReads s) names free e c →
        Denotes imports Two Set (spread_set s names) free c (set_value s e)
    set_denotes (set_variable x) names free e c reading =
        let v = named x Two in
        denotes_variable imports Two Set free (names Two x) c (e.set x) (reading.below v (refl, refl)) (reading.values v (refl, refl)) (subst (λ u. IsValueOf Two u (Set (e.set x))) (sym reading.universe) (reading.valid v (refl, refl)))
    set_denotes empty_set names free e c reading =
        new_set imports (λ next y. basic (Basic.Bits y 0)) free c (Some []) (λ s same. subst (λ t. IsValueOf Two c.universe (Set t)) (sym same) (tt, tt)) (λ s valid.
        let is : (assign free (Set s) c).set free ≡ s = ap set_in (value_at-assign Two free (Set s) c None (valid.0, all_natural s)) in
        (λ holds. sym is ∙ holds, λ same. is ∙ same))
    set_denotes whole names free e c reading =
        subst (λ u. Denotes imports Two Set (new_variable Two is_whole) free c (all_positions u)) reading.universe
        (new_set imports is_whole free c (all_positions c.universe) (positions_valid c.universe) (λ s valid.
        whole_means imports free (free + 1) (assign free (Set s) c) s (omega arith) (ap set_in (value_at-assign Two free (Set s) c None (valid.0, all_natural s))) valid))
      where
        positions_valid : (u : Universe) (s : List ℕ) → IsSomeAnd (all_positions u) (λ t. s ≡ t) → IsValueOf Two u (Set s)
        positions_valid None s there = absurd there
        positions_valid (Some size) s there =
            subst (λ t. IsValueOf Two (Some size) (Set t)) (sym there) ((numbers_below_law size).rising, all_within-of (Some size) (numbers_below size) (λ n member. ((numbers_below_law size).exactly n).0 member))
    set_denotes (literal ts) names free e c reading =
        subst (λ o. Denotes imports Two Set (spread_set (literal ts) names) free c (of_value set_of o)) (values_collected ts e)
        (elements_denote imports (length (spread_elements ts names)) (spread_elements ts names) (values_of ts e) free c (omega arith) (each_denotes ts names free e c reading))
    set_denotes (pconst n) names free e c reading =
        subst (λ u. Denotes imports Two Set (new_variable Two (λ next y. basic (Basic.Bits y n))) free c (Some (part_within u (one_bits n)))) reading.universe
        (new_set imports (λ next y. basic (Basic.Bits y n)) free c (Some (part_within c.universe (one_bits n)))
        (λ s same. subst (λ t. IsValueOf Two c.universe (Set t)) (sym same) (part_valid c.universe (one_bits n) (one_bits_law n).rising))
        (λ s valid.
        let is : (assign free (Set s) c).set free ≡ s = ap set_in (value_at-assign Two free (Set s) c None (valid.0, all_natural s)) in
        (λ holds. sym is ∙ holds, λ same. is ∙ same)))
    set_denotes (union s t) names free e c reading =
        set_from_two imports (spread_set s names) (spread_set t names) (λ y u v. Basic.Union y u v) union_of free c (set_value s e) (set_value t e)
        (λ next d later extends. set_denotes s names next e d (reading-weaker _ _ names next e d (λ w there. inl there) (reading-extends _ names free next e c d later extends reading)))
        (λ next d later extends. set_denotes t names next e d (reading-weaker _ _ names next e d (λ w there. inr there) (reading-extends _ names free next e c d later extends reading)))
        (λ a b valid_a valid_b. ((union_law a b).rising, all_within-of c.universe (union_of a b) (λ k member. ⊎_elim (member_within c.universe a valid_a.1 k) (member_within c.universe b valid_b.1 k) (((union_law a b).exactly k).0 member))))
        (λ inner y u v. (λ h. h, λ h. h))
    set_denotes (intersection s t) names free e c reading =
        set_from_two imports (spread_set s names) (spread_set t names) (λ y u v. Basic.Inter y u v) intersection_of free c (set_value s e) (set_value t e)
        (λ next d later extends. set_denotes s names next e d (reading-weaker _ _ names next e d (λ w there. inl there) (reading-extends _ names free next e c d later extends reading)))
        (λ next d later extends. set_denotes t names next e d (reading-weaker _ _ names next e d (λ w there. inr there) (reading-extends _ names free next e c d later extends reading)))
        (λ a b valid_a valid_b. ((intersection_law a b valid_a.0).rising, all_within-of c.universe (intersection_of a b) (λ k member. member_within c.universe a valid_a.1 k (((intersection_law a b valid_a.0).exactly k).0 member).0)))
        (λ inner y u v. (λ h. h, λ h. h))
    set_denotes (difference s t) names free e c reading =
        set_from_two imports (spread_set s names) (spread_set t names) (λ y u v. Basic.Diff y u v) difference_of free c (set_value s e) (set_value t e)
        (λ next d later extends. set_denotes s names next e d (reading-weaker _ _ names next e d (λ w there. inl there) (reading-extends _ names free next e c d later extends reading)))
        (λ next d later extends. set_denotes t names next e d (reading-weaker _ _ names next e d (λ w there. inr there) (reading-extends _ names free next e c d later extends reading)))
        (λ a b valid_a valid_b. ((difference_law a b valid_a.0).rising, all_within-of c.universe (difference_of a b) (λ k member. member_within c.universe a valid_a.1 k (((difference_law a b valid_a.0).exactly k).0 member).0)))
        (λ inner y u v. (λ h. h, λ h. h))
    set_denotes (shift_up s n) names free e c reading =
        subst (λ u. Denotes imports Two Set (spread_set (shift_up s n) names) free c (of_value (λ members. part_within u (moved_up n members)) (set_value s e))) reading.universe
        (set_from imports Two Set (spread_set s names) (λ y next x. basic (Basic.Up y x n)) (λ members. part_within c.universe (moved_up n members)) free c (set_value s e)
        (λ next d later extends. set_denotes s names next e d (reading-extends (SetTermReads s) names free next e c d later extends reading))
        (λ a valid. part_valid c.universe (moved_up n a) (moved_up_law n a valid.0).rising)
        (λ l next x inner a free_below x_below universe is_l is_a valid_l valid_a.
        let is_x : inner.set x ≡ a = ap set_in is_a in
        let both : part_within inner.universe (moved_up n (inner.set x)) ≡ part_within c.universe (moved_up n a) = ap (λ u. part_within u (moved_up n (inner.set x))) universe ∙ ap (λ z. part_within c.universe (moved_up n z)) is_x in
        (λ holds. sym is_l ∙ (holds ∙ both), λ same. is_l ∙ (same ∙ sym both))))
    set_denotes (shift_down s n) names free e c reading =
        set_from imports Two Set (spread_set s names) (λ y next x. basic (Basic.Down y x n)) (moved_down n) free c (set_value s e)
        (λ next d later extends. set_denotes s names next e d (reading-extends (SetTermReads s) names free next e c d later extends reading))
        (λ a valid. ((moved_down_law n a valid.0).rising, all_within-of c.universe (moved_down n a) (λ k member. lower_within c.universe k n (member_within c.universe a valid.1 (k + n) (((moved_down_law n a valid.0).exactly k).0 member)))))
        (λ l next x inner a free_below x_below universe is_l is_a valid_l valid_a.
        let is_x : inner.set x ≡ a = ap set_in is_a in
        (λ holds. sym is_l ∙ (holds ∙ ap (moved_down n) is_x), λ same. is_l ∙ (same ∙ ap (moved_down n) (sym is_x))))

    each_denotes : (ts : Terms) (names : Names) (free : ℕ) (e c : Env) → Reading (TermsRead ts) names free e c →
        AllDenote imports (spread_elements ts names) (values_of ts e) free c
    each_denotes no_terms names free e c reading = no_elements imports free c
    each_denotes (more_terms t ts) names free e c reading =
        more_elements imports (spread_number t names) (number_value t e) (spread_elements ts names) (values_of ts e) free c
        (λ next d later extends. number_denotes t names next e d (reading-weaker _ _ names next e d (λ w there. inl there) (reading-extends _ names free next e c d later extends reading)))
        (each_denotes ts names free e c (reading-weaker _ _ names free e c (λ w there. inr there) reading))
