-- What is said of the set of some elements.
use Rattle.std.proofs.Common.{◌≡◌, ℕ, zero, suc, ◌+◌, ◌/◌, ◌≤◌, ◌==◌, ◌||◌, ⊎_elim, List, [], ◌∷◌, ◌++◌, length, take, drop, Option, Some, None, refl, sym, ◌∙◌, ap, subst, arith}
use Rattle.std.proofs.lemmas.List.{take-append-drop, length-take, length-drop}
use Rattle.std.proofs.lemmas.List.Folds.{list_any-append}
use Rattle.ms_logic.specs.declared.mode.Order.TheVariants.{One, Two}
use Rattle.ms_logic_core.specs.declared.core_formula.Basic.TheVariants as Basic
use Rattle.ms_logic.specs.declared.assignment.Value.TheVariants.{Number, Set}
use Rattle.ms_logic.specs.Assignment.{Env, assign, IsValueOf, IsWithin}
use Rattle.ms_logic_core.specs.CoreForm.{basic}
use Rattle.ms_logic.specs.FiniteSet.{is_member, set_of, union_of}
use Rattle.ms_logic_core.specs.Spread.{TermSpread, set_of_elements, first_half, second_half, is_only_member}
use Rattle.ms_logic.specs.Terms.{of_both, of_value}
use Rattle.ms_logic.specs.Truth.{Import}
use Rattle.ms_logic.proofs.Members.{is_member-set_of, is_member-union_of, IsRising-set_of, all_natural}
use Rattle.ms_logic_core.proofs.Saying.{Extends, extends-further, Denotes}
use Rattle.ms_logic.proofs.AssignedValues.{value_at-assign}
use Rattle.ms_logic_core.proofs.SayingParts.{only_means}
use Rattle.ms_logic_core.proofs.SayingTerms.{number_in, set_in, DenotesFrom, new_set, set_from, set_from_two, all_within-of, member_within}
use Rattle.ms_logic.proofs.SetLaws.{sets_are_their_members, union_law}

-- the values of a list of terms, where each has one
unfoldable pub collected : List (Option ℕ) → Option (List ℕ)
collected [] = Some []
collected (o ∷ os) = of_both (λ n ns. n ∷ ns) o (collected os)

of_both_append : (o : Option ℕ) (a b : Option (List ℕ)) → of_both (λ n ns. n ∷ ns) o (of_both (λ x y. x ++ y) a b) ≡ of_both (λ x y. x ++ y) (of_both (λ n ns. n ∷ ns) o a) b
of_both_append None a b = refl
of_both_append (Some n) None b = refl
of_both_append (Some n) (Some x) None = refl
of_both_append (Some n) (Some x) (Some y) = refl

of_both_nothing : (b : Option (List ℕ)) → b ≡ of_both (λ x y. x ++ y) (Some []) b
of_both_nothing None = refl
of_both_nothing (Some y) = refl

collected-append : (os ps : List (Option ℕ)) → collected (os ++ ps) ≡ of_both (λ x y. x ++ y) (collected os) (collected ps)
unfolding collected
collected-append [] ps = of_both_nothing (collected ps)
collected-append (o ∷ os) ps = ap (of_both (λ n ns. n ∷ ns) o) (collected-append os ps) ∙ of_both_append o (collected os) (collected ps)

-- the set of two lists is the union of their sets
set_of-append : (left right : List ℕ) → union_of (set_of left) (set_of right) ≡ set_of (left ++ right)
set_of-append left right =
    sets_are_their_members (union_of (set_of left) (set_of right)) (set_of (left ++ right)) (IsRising-set_of (set_of left ++ set_of right)) (IsRising-set_of (left ++ right)) (λ n.
    (λ member. sym (same n) ∙ member, λ member. same n ∙ member))
  where
    same : (n : ℕ) → is_member n (union_of (set_of left) (set_of right)) ≡ is_member n (set_of (left ++ right))
    same n =
        is_member-union_of n (set_of left) (set_of right)
        ∙ (ap (λ b. b || is_member n (set_of right)) (is_member-set_of n left)
        ∙ (ap (λ b. is_member n left || b) (is_member-set_of n right)
        ∙ (sym (list_any-append (λ m. m == n) left right) ∙ sym (is_member-set_of n (left ++ right)))))

of_both_sets : (a b : Option (List ℕ)) → of_both union_of (of_value set_of a) (of_value set_of b) ≡ of_value set_of (of_both (λ x y. x ++ y) a b)
of_both_sets None b = refl
of_both_sets (Some x) None = refl
of_both_sets (Some x) (Some y) = ap Some (set_of-append x y)

-- the set of a list is that of its two parts
of_parts : (n : ℕ) (os : List (Option ℕ)) →
    of_both union_of (of_value set_of (collected (take n os))) (of_value set_of (collected (drop n os))) ≡ of_value set_of (collected os)
of_parts n os =
    of_both_sets (collected (take n os)) (collected (drop n os))
    ∙ (ap (of_value set_of) (sym (collected-append (take n os) (drop n os))) ∙ ap (λ l. of_value set_of (collected l)) (take-append-drop n os))

of_one : (o : Option ℕ) → of_value (λ m. m ∷ []) o ≡ of_value set_of (collected (o ∷ []))
unfolding collected
of_one None = refl
of_one (Some m) = refl

module _ (imports : List Import) where
  -- each term has its value, wherever more variables are in scope
  pub AllDenote : List TermSpread → List (Option ℕ) → ℕ → Env → Type 0
  AllDenote [] [] free c = Unit {0}
  AllDenote [] (o ∷ os) free c = ⊥
  AllDenote (T ∷ Ts) [] free c = ⊥
  AllDenote (T ∷ Ts) (o ∷ os) free c = DenotesFrom imports One Number T free c o × AllDenote Ts os free c

  pub no_elements : (free : ℕ) (c : Env) → AllDenote [] [] free c
  unfolding AllDenote
  no_elements free c = tt

  pub more_elements : (T : TermSpread) (o : Option ℕ) (Ts : List TermSpread) (os : List (Option ℕ)) (free : ℕ) (c : Env) →
      DenotesFrom imports One Number T free c o → AllDenote Ts os free c → AllDenote (T ∷ Ts) (o ∷ os) free c
  unfolding AllDenote
  more_elements T o Ts os free c first others = (first, others)

  all-extends : (Ts : List TermSpread) (os : List (Option ℕ)) (free next : ℕ) (c d : Env) → free ≤ next → Extends free c d → AllDenote Ts os free c → AllDenote Ts os next d
  unfolding AllDenote
  all-extends [] [] free next c d later extends all = tt
  all-extends [] (o ∷ os) free next c d later extends all = all
  all-extends (T ∷ Ts) [] free next c d later extends all = all
  all-extends (T ∷ Ts) (o ∷ os) free next c d later extends all =
      (λ last e further more. all.0 last e (omega arith) (extends-further free next c d e later extends more), all-extends Ts os free next c d later extends all.1)

  all-take : (n : ℕ) (Ts : List TermSpread) (os : List (Option ℕ)) (free : ℕ) (c : Env) → AllDenote Ts os free c → AllDenote (take n Ts) (take n os) free c
  unfolding AllDenote
  all-take zero Ts os free c all = tt
  all-take (suc n) [] [] free c all = tt
  all-take (suc n) [] (o ∷ os) free c all = absurd all
  all-take (suc n) (T ∷ Ts) [] free c all = absurd all
  all-take (suc n) (T ∷ Ts) (o ∷ os) free c all = (all.0, all-take n Ts os free c all.1)

  all-drop : (n : ℕ) (Ts : List TermSpread) (os : List (Option ℕ)) (free : ℕ) (c : Env) → AllDenote Ts os free c → AllDenote (drop n Ts) (drop n os) free c
  unfolding AllDenote
  all-drop zero Ts os free c all = all
  all-drop (suc n) [] [] free c all = tt
  all-drop (suc n) [] (o ∷ os) free c all = absurd all
  all-drop (suc n) (T ∷ Ts) [] free c all = absurd all
  all-drop (suc n) (T ∷ Ts) (o ∷ os) free c all = all-drop n Ts os free c all.1

  same_length : (Ts : List TermSpread) (os : List (Option ℕ)) (free : ℕ) (c : Env) → AllDenote Ts os free c → length Ts ≡ length os
  unfolding AllDenote
  same_length [] [] free c all = refl
  same_length [] (o ∷ os) free c all = absurd all
  same_length (T ∷ Ts) [] free c all = absurd all
  same_length (T ∷ Ts) (o ∷ os) free c all = ap suc (same_length Ts os free c all.1)

  denotes_same : (T : TermSpread) (free : ℕ) (c : Env) (a b : Option (List ℕ)) → a ≡ b → Denotes imports Two Set T free c a → Denotes imports Two Set T free c b
  denotes_same T free c a b same denotes = subst (λ o. Denotes imports Two Set T free c o) same denotes

  -- the set of the elements
  pub elements_denote : (rounds : ℕ) (Ts : List TermSpread) (os : List (Option ℕ)) (free : ℕ) (c : Env) → length Ts ≤ rounds → AllDenote Ts os free c →
      Denotes imports Two Set (set_of_elements rounds Ts) free c (of_value set_of (collected os))
  unfolding AllDenote collected
  elements_denote rounds [] (o ∷ os) free c enough all = absurd all
  elements_denote rounds [] [] free c enough all =
      new_set imports (λ next y. basic (Basic.Bits y 0)) free c (Some []) (λ s same. subst (λ t. IsValueOf Two c.universe (Set t)) (sym same) (tt, tt)) (λ s valid.
      let is : (assign free (Set s) c).set free ≡ s = ap set_in (value_at-assign Two free (Set s) c None (valid.0, all_natural s)) in
      (λ holds. sym is ∙ holds, λ same. is ∙ same))
  elements_denote rounds (T ∷ []) [] free c enough all = absurd all
  elements_denote rounds (T ∷ []) (o ∷ p ∷ os) free c enough all = absurd all.1
  elements_denote rounds (T ∷ []) (o ∷ []) free c enough all =
      denotes_same (set_of_elements rounds (T ∷ [])) free c (of_value (λ m. m ∷ []) o) (of_value set_of (collected (o ∷ []))) (of_one o)
      (set_from imports One Number T is_only_member (λ m. m ∷ []) free c o all.0 (λ m within. ((tt, tt), (within, tt)))
      (λ s next x inner m free_below x_below universe is_s is_m valid within.
      only_means imports free next x inner s m free_below x_below is_s (ap number_in is_m) (subst (λ u. IsValueOf Two u (Set s)) (sym universe) valid) (subst (λ u. IsWithin u m) (sym universe) within)))
  elements_denote rounds (T ∷ U ∷ Ts) [] free c enough all = absurd all
  elements_denote rounds (T ∷ U ∷ Ts) (o ∷ []) free c enough all = absurd all.1
  elements_denote zero (T ∷ U ∷ Ts) (o ∷ p ∷ os) free c enough all = absurd (omega (arith, enough))
  elements_denote (suc rounds) (T ∷ U ∷ Ts) (o ∷ p ∷ os) free c enough all =
      let terms : List TermSpread = T ∷ U ∷ Ts in
      let values : List (Option ℕ) = o ∷ p ∷ os in
      let n = (length terms + 1) / 2 in
      let first_short : length (take n terms) ≤ rounds = omega (arith, length-take n terms, enough) in
      let second_short : length (drop n terms) ≤ rounds = omega (arith, length-drop n terms, enough) in
      denotes_same (set_of_elements (suc rounds) terms) free c
      (of_both union_of (of_value set_of (collected (take n values))) (of_value set_of (collected (drop n values)))) (of_value set_of (collected values)) (of_parts n values)
      (set_from_two imports (set_of_elements rounds (first_half terms)) (set_of_elements rounds (second_half terms)) (λ y u v. Basic.Union y u v) union_of free c
      (of_value set_of (collected (take n values))) (of_value set_of (collected (drop n values)))
      (λ next d later extends. elements_denote rounds (take n terms) (take n values) next d first_short (all-take n terms values next d (all-extends terms values free next c d later extends all)))
      (λ next d later extends. elements_denote rounds (drop n terms) (drop n values) next d second_short (all-drop n terms values next d (all-extends terms values free next c d later extends all)))
      (λ s t valid_s valid_t. (IsRising-set_of (s ++ t), all_within-of c.universe (union_of s t) (λ k member. ⊎_elim (member_within c.universe s valid_s.1 k) (member_within c.universe t valid_t.1 k) (((union_law s t).exactly k).0 member))))
      (λ inner y u v. (λ h. h, λ h. h)))
