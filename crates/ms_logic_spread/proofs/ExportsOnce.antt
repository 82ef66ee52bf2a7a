-- Each number of an export stands for one formula.
use Rattle.std.proofs.Common.{◌≡◌, ℕ, zero, suc, ◌+◌, ◌<◌, ◌≤◌, ◌⊎◌, inl, inr, ⊎_elim, List, [], ◌∷◌, ◌++◌, length, map, flat_map, get_or, refl, sym, ◌∙◌, ap, subst, arith}
use Rattle.ms_logic.specs.declared.checked.Placed.{Placed}
use Rattle.ms_logic_core.specs.Roots.{Export, exports_in, exports_among}
use Rattle.ms_logic.specs.Tree.{Form, truth, falsity, truth_variable, negation, conjunction, disjunction, implication, equivalence, comparison, set_comparison, membership, emptiness, quantified, where_let, call, restrict, imported, exported, default_at, Forms, no_forms, more_forms}
use Rattle.ms_logic.specs.View.{formula_of, forms}
use Rattle.ms_names_rules.specs.Numbers as numbers
use Rattle.ms_names_rules.specs.Numbers.{CountUp, exports_in_restriction, exports_in_all}
use Rattle.ms_logic_spread.specs.RootLaws.{ExportsStandOnce}

-- the numbers of some exports stand in a list of numbers, in their order
Part : List Export → List ℕ → Type 0
Part [] ns = Unit {0}
Part (e ∷ es) [] = ⊥
Part (e ∷ es) (n ∷ ns) = ((e.number ≡ n) × Part es ns) ⊎ Part (e ∷ es) ns

part_later : (es : List Export) (n : ℕ) (ns : List ℕ) → Part es ns → Part es (n ∷ ns)
unfolding Part
part_later [] n ns part = tt
part_later (e ∷ es) n ns part = inr part

part_append : (es bs : List Export) (ns ms : List ℕ) → Part es ns → Part bs ms → Part (es ++ bs) (ns ++ ms)
unfolding Part
part_append [] bs [] ms first second = second
part_append (a ∷ es) bs [] ms first second = absurd first
part_append [] bs (n ∷ ns) ms first second = part_later bs n (ns ++ ms) (part_append [] bs ns ms tt second)
part_append (a ∷ es) bs (n ∷ ns) ms first second =
    ⊎_elim (λ here. inl (here.0, part_append es bs ns ms here.1 second)) (λ later. inr (part_append (a ∷ es) bs ns ms later second)) first

mutual
  unfolding Part

  exports_part : (f : Form) → Part (exports_in f) (numbers.exports_in f)
  exports_part truth = tt
  exports_part falsity = tt
  exports_part (truth_variable x) = tt
  exports_part (negation f) = exports_part f
  exports_part (conjunction fs) = all_part fs
  exports_part (disjunction fs) = all_part fs
  exports_part (implication f g) = part_append (exports_in f) (exports_in g) (numbers.exports_in f) (numbers.exports_in g) (exports_part f) (exports_part g)
  exports_part (equivalence f g) = part_append (exports_in f) (exports_in g) (numbers.exports_in f) (numbers.exports_in g) (exports_part f) (exports_part g)
  exports_part (comparison rel t u) = tt
  exports_part (set_comparison rel s t) = tt
  exports_part (membership positive t s) = tt
  exports_part (emptiness s) = tt
  exports_part (quantified q o x d f) = part_append [] (exports_in f) (exports_in_restriction d) (numbers.exports_in f) tt (exports_part f)
  exports_part (where_let xs sides f) = tt
  exports_part (call p given) = tt
  exports_part (restrict f) = exports_part f
  exports_part (imported i) = tt
  exports_part (exported i f) = inl (refl, exports_part f)
  exports_part (default_at p x) = tt

  all_part : (fs : Forms) → Part (exports_among fs) (exports_in_all fs)
  all_part no_forms = tt
  all_part (more_forms f fs) = part_append (exports_in f) (exports_among fs) (numbers.exports_in f) (exports_in_all fs) (exports_part f) (all_part fs)

formulas_part : (placed : List Placed) → Part (exports_among (forms (map (λ p. formula_of p.formula) placed))) (flat_map (λ p. numbers.exports_in (formula_of p.formula)) placed)
unfolding Part
formulas_part [] = tt
formulas_part (p ∷ placed) =
    part_append (exports_in (formula_of p.formula)) (exports_among (forms (map (λ p. formula_of p.formula) placed))) (numbers.exports_in (formula_of p.formula)) (flat_map (λ p. numbers.exports_in (formula_of p.formula)) placed)
    (exports_part (formula_of p.formula)) (formulas_part placed)

-- the numbers of exports rise, from one on
Rise : ℕ → List Export → Type 0
Rise low [] = Unit {0}
Rise low (e ∷ es) = (low ≤ e.number) × Rise (e.number + 1) es

rise_lower : (low other : ℕ) (es : List Export) → other ≤ low → Rise low es → Rise other es
unfolding Rise
rise_lower low other [] lower rise = tt
rise_lower low other (e ∷ es) lower rise = (let first = rise.0 in omega arith, rise.1)

rise_counted : (ns : List ℕ) (n m : ℕ) (es : List Export) → CountUp n ns m → Part es ns → Rise n es
unfolding Part Rise
rise_counted [] n m [] count part = tt
rise_counted [] n m (e ∷ es) count part = absurd part
rise_counted (x ∷ ns) n m [] count part = tt
rise_counted (x ∷ ns) n m (e ∷ es) count part =
    ⊎_elim (λ here. here_rises here.0 (rise_counted ns (n + 1) m es count.1 here.1)) (λ later. rise_lower (n + 1) n (e ∷ es) (omega arith) (rise_counted ns (n + 1) m (e ∷ es) count.1 later)) part
  where
    here_rises : e.number ≡ x → Rise (n + 1) es → (n ≤ e.number) × Rise (e.number + 1) es
    here_rises same rise =
        let is = count.0 in let moved : n + 1 ≡ e.number + 1 = omega arith in (omega arith, subst (λ low. Rise low es) moved rise)

-- an export of a list whose numbers rise
low_number : (low : ℕ) (es : List Export) (k : ℕ) (a : Export) → Rise low es → k < length es → get_or es k a ≡ a → low ≤ a.number
unfolding Rise
low_number low [] k a rise below is = absurd (omega arith)
low_number low (e ∷ es) zero a rise below is = let same = ap (λ (x : Export). x.number) is in let first = rise.0 in omega arith
low_number low (e ∷ es) (suc k) a rise below is =
    let later = low_number (e.number + 1) es k a rise.1 (omega (arith, below)) is in let first = rise.0 in omega arith

one_export : (low : ℕ) (es : List Export) (k j : ℕ) (a b : Export) → Rise low es → k < length es → j < length es → get_or es k a ≡ a → get_or es j b ≡ b → a.number ≡ b.number → a ≡ b
unfolding Rise
one_export low [] k j a b rise k_below j_below is_a is_b same = absurd (omega (arith, k_below))
one_export low (e ∷ es) zero zero a b rise k_below j_below is_a is_b same = sym is_a ∙ is_b
one_export low (e ∷ es) zero (suc j) a b rise k_below j_below is_a is_b same =
    let first = ap (λ (x : Export). x.number) is_a in let above = low_number (e.number + 1) es j b rise.1 (omega (arith, j_below)) is_b in absurd (omega arith)
one_export low (e ∷ es) (suc k) zero a b rise k_below j_below is_a is_b same =
    let first = ap (λ (x : Export). x.number) is_b in let above = low_number (e.number + 1) es k a rise.1 (omega (arith, k_below)) is_a in absurd (omega arith)
one_export low (e ∷ es) (suc k) (suc j) a b rise k_below j_below is_a is_b same =
    one_export (e.number + 1) es k j a b rise.1 (omega (arith, k_below)) (omega (arith, j_below)) is_a is_b same

pub exports_stand_once : ExportsStandOnce
exports_stand_once checked answers i f g well first second =
    let rise = rise_counted (flat_map (λ p. numbers.exports_in (formula_of p.formula)) checked.formulas) 0 (length checked.exports) (exports_among (forms (map (λ p. formula_of p.formula) checked.formulas))) well.exports (formulas_part checked.formulas) in
    ap (λ (x : Export). x.formula)
    (one_export 0 (exports_among (forms (map (λ p. formula_of p.formula) checked.formulas))) first.0 second.0 (record { number = i; formula = f }) (record { number = i; formula = g }) rise first.1 second.1 first.2 second.2 refl)
