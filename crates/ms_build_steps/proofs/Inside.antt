-- The variables inside a quantifier that occurs are its own and behind them the bound one.
use Rattle.std.proofs.Common.{◌≡◌, ℕ, ⊎_elim, List, [], ◌∷◌, ◌++◌, Contains, length, map, refl, sym, ap, ap₂, subst, ◌∙◌, arith}
use Rattle.std.proofs.lemmas.Bool.{cases_eq}
use Rattle.std.proofs.lemmas.List.{map_push}
use Rattle.std.proofs.lemmas.List.Elements.{Contains-append_cases, Contains-append_left, Contains-append_right}
use Rattle.std.specs.List.Sorted.{IsStrictlyIncreasing}
use Rattle.ms_dag.specs.Laws.{HasOrder, HaveTheirOrders, RestrictionHasItsOrders}
use Rattle.ms_dag.specs.Places.{AreBelow}
use Rattle.ms_dag.proofs.BinderLemmas.{rising_push}
use Rattle.ms_dag_steps.specs.Occurrences.{variables_named}
use Rattle.ms_dag_steps.proofs.FreeLemmas.{free_ordered, free_rise}
use Rattle.ms_dag_steps.proofs.JoinedLemmas.{IsNamed, joined_left, joined_right, joined_rise, joined_there, named, rise_increasing, without_named, without_there}
use Rattle.ms_dag_steps.proofs.SubformulaLemmas.{only}
use Rattle.ms_diagram.proofs.ListLemmas.{Contains-first, Contains-none, Contains-rest, same_rising}
use Rattle.ms_diagram.proofs.RootLemmas.{Contains-from_mapped}
use Rattle.ms_logic.specs.Assignment.{Variable}
use Rattle.ms_logic.specs.Truth.{Import}
use Rattle.ms_logic.specs.declared.mode.Mode.{Mode}
use Rattle.ms_logic.specs.declared.mode.Order.{Order}
use Rattle.ms_logic.specs.declared.mode.Quant.{Quant}
use Rattle.ms_logic_core.specs.CoreForm.{CoreForm, quantified, CoreRestriction, unrestricted, restricted}
use Rattle.ms_logic_core.specs.Operands.{variable}
use Rattle.ms_logic_core.specs.Orders.{order_at}
use Rattle.ms_logic_measures.specs.Budgets.{variables_inside}
use Rattle.ms_logic_measures.specs.Steps.{free_variables, free_variables_in, joined}

abbrev names_of : List Variable → List ℕ
names_of vs = map (λ (v : Variable). v.name) vs

-- variables that have their orders are the same where their numbers are
pub same_variables : (globals : List Order) (vs ws : List Variable) → ((v : Variable) → Contains vs v → HasOrder globals v) → ((w : Variable) → Contains ws w → HasOrder globals w) → names_of vs ≡ names_of ws → vs ≡ ws
same_variables globals [] [] have also same = refl
same_variables globals [] (w ∷ ws) have also same = let never : ⊥ = cc in absurd never
same_variables globals (v ∷ vs) [] have also same = let never : ⊥ = cc in absurd never
same_variables globals (v ∷ vs) (w ∷ ws) have also same =
    let first : v.name ≡ w.name = cc in
    let more : names_of vs ≡ names_of ws = cc in
    let order : v.order ≡ w.order = sym (have v (Contains-first v vs)) ∙ ap (order_at globals) first ∙ also w (Contains-first w ws) in
    let one : v ≡ w = λ i. variable (first i) (order i) in
    ap₂ (λ (u : Variable) (us : List Variable). u ∷ us) one
    (same_variables globals vs ws (λ u there. have u (Contains-rest v vs u there)) (λ u there. also u (Contains-rest w ws u there)) more)

-- the names of variables under names, and one variable more
pub named_names : (names : List ℕ) (os : List Order) → length names ≡ length os → names_of (variables_named names os) ≡ names
named_names [] [] long = refl
named_names [] (o ∷ os) long = absurd (omega (arith, long))
named_names (x ∷ names) [] long = absurd (omega (arith, long))
named_names (x ∷ names) (o ∷ os) long = ap (λ (xs : List ℕ). x ∷ xs) (named_names names os (omega (arith, long)))

pub named_push : (names : List ℕ) (os : List Order) (x : ℕ) (o : Order) → length names ≡ length os → variables_named (names ++ x ∷ []) (os ++ o ∷ []) ≡ variables_named names os ++ variable x o ∷ []
named_push [] [] x o long = refl
named_push [] (p ∷ os) x o long = absurd (omega (arith, long))
named_push (y ∷ names) [] x o long = absurd (omega (arith, long))
named_push (y ∷ names) (p ∷ os) x o long = ap (λ (vs : List Variable). variable y p ∷ vs) (named_push names os x o (omega (arith, long)))

module _ (imports : List Import) (mode : Mode) (globals : List Order) (q : Quant) (o : Order) (x : ℕ) (r : CoreRestriction) (f : CoreForm) (have : HaveTheirOrders imports globals (quantified q o x r f))
    (names : List ℕ) (os : List Order) (long : length names ≡ length os) (rising : IsStrictlyIncreasing names) (above : AreBelow x names)
    (free : free_variables imports (quantified q o x r f) ≡ variables_named names os) where
  abbrev bound : Variable
  bound = variable x o

  -- those of the restriction and the body
  abbrev both : List Variable
  both = joined (free_variables_in imports r) (free_variables imports f)

  abbrev inside : List Variable
  inside = variables_inside imports mode bound r f

  restriction_ordered : (d : CoreRestriction) → RestrictionHasItsOrders imports globals d → (u : Variable) → Contains (free_variables_in imports d) u → HasOrder globals u
  restriction_ordered unrestricted has u there = absurd (Contains-none u there)
  restriction_ordered (restricted d) has u there = free_ordered imports globals d has u there

  both_ordered : (u : Variable) → Contains both u → HasOrder globals u
  both_ordered u there = ⊎_elim (λ left. restriction_ordered r have.1 u left) (λ right. free_ordered imports globals f have.2 u right) (joined_there (free_variables_in imports r) (free_variables imports f) u there)

  inside_ordered : (u : Variable) → Contains inside u → HasOrder globals u
  inside_ordered u there = ⊎_elim (λ first. subst (HasOrder globals) (sym (only u bound first)) have.0) (λ other. both_ordered u other) (joined_there (bound ∷ []) both u there)

  named_ordered : (u : Variable) → Contains (variables_named names os ++ bound ∷ []) u → HasOrder globals u
  named_ordered u there = ⊎_elim (λ own. free_ordered imports globals (quantified q o x r f) have u (subst (λ vs. Contains vs u) (sym free) own))
      (λ last. subst (HasOrder globals) (sym (only u bound last)) have.0)
      (Contains-append_cases (variables_named names os) (bound ∷ []) u there)

  -- the numbers of its own
  own_names : names_of (free_variables imports (quantified q o x r f)) ≡ names
  own_names = ap (λ (vs : List Variable). names_of vs) free ∙ named_names names os long

  to_names : (n : ℕ) → Contains (names_of inside) n → Contains (names ++ x ∷ []) n
  to_names n there =
      let found = Contains-from_mapped (λ (v : Variable). v.name) inside n there in
      let u = found.0 in
      subst (Contains (names ++ x ∷ [])) found.2 (⊎_elim
      (λ same. Contains-append_right names (x ∷ []) u.name (subst (Contains (x ∷ [])) (sym same) (Contains-first x [])))
      (λ differs. ⊎_elim
      (λ first. absurd (differs (ap (λ (v : Variable). v.name) (only u bound first))))
      (λ other. Contains-append_left names (x ∷ []) u.name (subst (λ xs. Contains xs u.name) own_names (without_named x both u.name (named both u other) differs)))
      (joined_there (bound ∷ []) both u found.1))
      (cases_eq u.name x))

  from_names : (n : ℕ) → Contains (names ++ x ∷ []) n → Contains (names_of inside) n
  from_names n there = ⊎_elim
      (λ own.
      let found = Contains-from_mapped (λ (v : Variable). v.name) (free_variables imports (quantified q o x r f)) n (subst (λ xs. Contains xs n) (sym own_names) own) in
      subst (IsNamed inside) found.2 (joined_right (bound ∷ []) both (found.0).name (named both found.0 (without_there x both found.0 found.1).0)))
      (λ last. subst (IsNamed inside) (sym (only n x last)) (joined_left (bound ∷ []) both x (named (bound ∷ []) bound (Contains-first bound []))))
      (Contains-append_cases names (x ∷ []) n there)

  same_names : names_of inside ≡ names_of (variables_named names os ++ bound ∷ [])
  same_names =
      same_rising (names_of inside) (names ++ x ∷ []) (rise_increasing inside (joined_rise (bound ∷ []) both (joined_rise (free_variables_in imports r) (free_variables imports f) (free_rise imports f))))
      (rising_push names x rising above) to_names from_names
      ∙ sym (map_push (λ (v : Variable). v.name) (variables_named names os) bound ∙ ap (λ (xs : List ℕ). xs ++ x ∷ []) (named_names names os long))

  pub inside_are : inside ≡ variables_named (names ++ x ∷ []) (os ++ o ∷ [])
  inside_are = same_variables globals inside (variables_named names os ++ bound ∷ []) inside_ordered named_ordered same_names ∙ sym (named_push names os x o long)
