-- With the numbers of the answer each variable stands in its scope.
use Rattle.std.proofs.Common.{◌≡◌, ℕ, ◌+◌, ◌-◌, ◌*◌, ◌%◌, ◌<◌, ◌≤◌, cond, min, List, [], ◌∷◌, length, map, slice_get, inl, inr, refl, sym, ap, subst, ◌∙◌, arith}
use Rattle.std.proofs.lemmas.Bool.{le-ltb}
use Rattle.std.specs.List.{zip}
use Rattle.ms_logic.specs.declared.mode.Order.{Order}
use Rattle.ms_logic.specs.declared.mode.Order.TheVariants.{Zero, One, Two}
use Rattle.ms_logic.specs.Assignment.{Variable}
use Rattle.ms_logic_core.specs.CoreForm.{CoreForm, truth, falsity, basic, negation, conjunction, disjunction, implication, equivalence, restrict, imported, quantified, CoreForms, no_forms, more_forms, CoreRestriction, unrestricted, restricted}
use Rattle.ms_logic_core.specs.Roots.{Root, first_free}
use Rattle.ms_logic_core.specs.Spread.{variables_of_import}
use Rattle.ms_logic_core.specs.Operands.{variables_at, variables_of_basic}
use Rattle.ms_logic.specs.Truth.{Import}
use Rattle.ms_logic.specs.Lists.{Each, IsAmong}
use Rattle.ms_lower.specs.NumberLaws.{numbering_in}
use Rattle.ms_lower.specs.Numbering.{Numbering, number_at, rank, renumbered, renumbered_each, renumbered_in, renumbered_variable, with_new_numbers}
use Rattle.ms_logic_core.specs.Orders.{order_of_rank}
use Rattle.ms_logic_core.specs.Stands.{EachStands, RestrictionStands, Stands}
use Rattle.ms_lower.proofs.SameNumbers.{Rises, basic_renumbered, import_length, import_variables, numbers_rise}

among_renumbered : (n : Numbering) (scope : List Variable) (v : Variable) → IsAmong scope v → IsAmong (map (renumbered_variable n) scope) (renumbered_variable n v)
among_renumbered n [] v here = absurd here
among_renumbered n (w ∷ scope) v (inl here) = inl (ap (renumbered_variable n) here)
among_renumbered n (w ∷ scope) v (inr later) = inr (among_renumbered n scope v later)

each_among_renumbered : (n : Numbering) (scope vs : List Variable) → Each (IsAmong scope) vs → Each (IsAmong (map (renumbered_variable n) scope)) (map (renumbered_variable n) vs)
each_among_renumbered n scope [] all = tt
each_among_renumbered n scope (v ∷ vs) all = (among_renumbered n scope v all.0, each_among_renumbered n scope vs all.1)

module _ (n : Numbering) (rises : Rises n) where
  below_renumbered : (scope : List Variable) (o : Order) (x : ℕ) → Each (λ v. v.name < x) scope → Each (λ v. v.name < n.number o x) (map (renumbered_variable n) scope)
  unfolding Rises
  below_renumbered [] o x below = tt
  below_renumbered (v ∷ scope) o x below = (rises v.order o v.name x below.0, below_renumbered scope o x below.1)

  mutual
    stands_renumbered : (imports : List Import) (scope : List Variable) (f : CoreForm) → ((i : ℕ) → n.imported i ≡ variables_of_import (slice_get imports i)) → Stands imports scope f → Stands imports (map (renumbered_variable n) scope) (renumbered n f)
    stands_renumbered imports scope truth known stands = tt
    stands_renumbered imports scope falsity known stands = tt
    stands_renumbered imports scope (basic b) known stands =
        subst (Each (IsAmong (map (renumbered_variable n) scope))) (sym (basic_renumbered n rises b).0) (each_among_renumbered n scope (variables_of_basic b) stands)
    stands_renumbered imports scope (negation f) known stands = stands_renumbered imports scope f known stands
    stands_renumbered imports scope (conjunction fs) known stands = all_renumbered imports scope fs known stands
    stands_renumbered imports scope (disjunction fs) known stands = all_renumbered imports scope fs known stands
    stands_renumbered imports scope (implication f g) known stands = (stands_renumbered imports scope f known stands.0, stands_renumbered imports scope g known stands.1)
    stands_renumbered imports scope (equivalence f g) known stands = (stands_renumbered imports scope f known stands.0, stands_renumbered imports scope g known stands.1)
    stands_renumbered imports scope (restrict f) known stands = stands_renumbered imports scope f known stands
    stands_renumbered imports scope (imported i xs) known stands =
        let vs = variables_of_import (slice_get imports i) in
        let same : map (λ p. n.number p.1.order p.0) (zip xs (n.imported i)) ≡ map (λ p. n.number p.1.order p.0) (zip xs vs) = ap (λ l. map (λ p. n.number p.1.order p.0) (zip xs l)) (known i) in (
          ap (λ l. length l) same ∙ (sym (import_length n rises xs vs stands.0) ∙ stands.0),
          subst (Each (IsAmong (map (renumbered_variable n) scope))) (sym (ap (λ l. variables_at l vs) same ∙ import_variables n rises xs vs)) (each_among_renumbered n scope (variables_at xs vs) stands.1),
        )
    stands_renumbered imports scope (quantified q o x d f) known stands = (
      below_renumbered scope o x stands.0,
      restriction_stands imports (record { name = x; order = o } ∷ scope) d known stands.1,
      stands_renumbered imports (record { name = x; order = o } ∷ scope) f known stands.2,
    )

    all_renumbered : (imports : List Import) (scope : List Variable) (fs : CoreForms) → ((i : ℕ) → n.imported i ≡ variables_of_import (slice_get imports i)) → EachStands imports scope fs → EachStands imports (map (renumbered_variable n) scope) (renumbered_each n fs)
    all_renumbered imports scope no_forms known stands = tt
    all_renumbered imports scope (more_forms f fs) known stands = (stands_renumbered imports scope f known stands.0, all_renumbered imports scope fs known stands.1)

    restriction_stands : (imports : List Import) (scope : List Variable) (d : CoreRestriction) → ((i : ℕ) → n.imported i ≡ variables_of_import (slice_get imports i)) → RestrictionStands imports scope d → RestrictionStands imports (map (renumbered_variable n) scope) (renumbered_in n d)
    restriction_stands imports scope unrestricted known stands = tt
    restriction_stands imports scope (restricted d) known stands = stands_renumbered imports scope d known stands

pub keep_scopes : (globals : ℕ) (imports : List Import) (root : Root) → Stands imports root.variables root.formula →
    Stands imports (with_new_numbers (numbering_in globals imports root) root).variables (with_new_numbers (numbering_in globals imports root) root).formula
unfolding Rises
keep_scopes globals imports root stands =
    stands_renumbered (numbering_in globals imports root) (λ p o x y below. numbers_rise (min globals (first_free root.variables)) globals p o x y (omega arith) below) imports root.variables root.formula (λ i. refl) stands

rank_order : (o : Order) → order_of_rank (rank o) ≡ o
rank_order Zero = refl
rank_order One = refl
rank_order Two = refl

rank_small : (o : Order) → rank o < 3
rank_small Zero = omega arith
rank_small One = omega arith
rank_small Two = omega arith

pub have_orders : (kept globals : ℕ) (o : Order) (x : ℕ) → kept ≤ x → (globals ≤ number_at kept globals o x) × (order_of_rank ((number_at kept globals o x - globals) % 3) ≡ o)
have_orders kept globals o x beyond =
    let number = ap (λ b. cond b x (globals + (3 * (x - kept) + rank o))) (le-ltb x kept beyond) in
    let small = rank_small o in
    let rest : (number_at kept globals o x - globals) % 3 ≡ rank o = omega (arith, number, small) in
    (omega (arith, number), ap order_of_rank rest ∙ rank_order o)
