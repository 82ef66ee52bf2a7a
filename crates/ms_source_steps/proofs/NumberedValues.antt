-- A formula with other numbers has the values of the formula, where its variables are given what those of the formula are given.
use Rattle.std.proofs.Common.{◌≡◌, ◌≢◌, ◌⊎◌, ℕ, ◌==◌, inl, inr, ⊎_elim, Bool, true, false, MatchBool, if◌then◌else◌, List, [], ◌∷◌, length, map, slice_get, refl, sym, ap, subst, ◌∙◌, arith}
use Rattle.std.specs.List.{zip}
use Rattle.std.proofs.lemmas.Bool.{cases_eq, cases_lt, eq-eqb, ne_eqb}
use Rattle.ms_build_steps.proofs.SameValues.{HaveSameValues}
use Rattle.ms_logic.specs.Assignment.{Env, Variable, value_at}
use Rattle.ms_logic.specs.Lists.{Each, IsAmong}
use Rattle.ms_logic.specs.Truth.{Import}
use Rattle.ms_logic.specs.declared.assignment.Value.TheVariants as values
use Rattle.ms_logic.specs.declared.mode.Order.{Order}
use Rattle.ms_logic.specs.declared.mode.Order.TheVariants.{Zero, One, Two}
use Rattle.ms_logic_core.specs.CoreForm.{CoreForm, truth, falsity, basic, negation, conjunction, disjunction, implication, equivalence, restrict, imported, quantified, CoreForms, no_forms, more_forms, CoreRestriction, unrestricted, restricted}
use Rattle.ms_logic_core.specs.Operands.{variable, variables_at, variables_of_basic}
use Rattle.ms_logic_core.specs.SameUpToBound.{BoundPair, SameEach, SameRestriction, SameUnder, SameVariable, SameVariables}
use Rattle.ms_logic_core.specs.Spread.{is_order, variables_of_import}
use Rattle.ms_logic_core.specs.Stands.{EachStands, RestrictionStands, Stands}
use Rattle.ms_logic_spread.proofs.SameValues.{AgreeAlong, HaveSameValue, same_value}
use Rattle.ms_lower.specs.Numbering.{Numbering, renumbered, renumbered_each, renumbered_in}
use Rattle.ms_source_steps.proofs.Numbers.{KnowsImports, NumbersRise, moved_all, moved_basic, moved_import, moved_places}
use Rattle.ms_source_steps.proofs.Scopes.{AreApart, apart_push}

is_itself : (o : Order) → is_order o o ≡ true
is_itself Zero = refl
is_itself One = refl
is_itself Two = refl

module _ (n : Numbering) where
  -- each variable in scope beside its new number
  abbrev pub pairs_in : List Variable → List BoundPair
  pairs_in [] = []
  pairs_in (v ∷ vs) = record { order = v.order; left = v.name; right = n.number v.order v.name } ∷ pairs_in vs

  -- the number of the variable of an order that has a new number
  abbrev pub back : Order → List Variable → ℕ → ℕ
  back o [] y = y
  back o (v ∷ vs) y = if is_order v.order o then (if n.number v.order v.name == y then v.name else back o vs y) else back o vs y

  -- the variables in scope are given what they had, by their new numbers
  abbrev pub given_by : List Variable → Env → Env
  given_by scope e = record {
    universe = e.universe;
    truth = λ y. e.truth (back Zero scope y);
    number = λ y. e.number (back One scope y);
    set = λ y. e.set (back Two scope y);
  }

  back_is : (o : Order) (scope : List Variable) (x y : ℕ) → SameVariable (pairs_in scope) o x y → back o scope y ≡ x
  back_is o [] x y same = sym same
  back_is o (v ∷ vs) x y same = by_order (is_order v.order o) (λ inner. back_is o vs x y inner) same
    where
      by_order : (b : Bool) → (SameVariable (pairs_in vs) o x y → back o vs y ≡ x)
          → MatchBool b (((x ≡ v.name) × (y ≡ n.number v.order v.name)) ⊎ ((x ≢ v.name) × (y ≢ n.number v.order v.name) × SameVariable (pairs_in vs) o x y)) (SameVariable (pairs_in vs) o x y)
          → (if b then (if n.number v.order v.name == y then v.name else back o vs y) else back o vs y) ≡ x
      by_order true later (inl is) = ap (λ (t : Bool). if t then v.name else back o vs y) (eq-eqb (n.number v.order v.name) y (sym is.1)) ∙ sym is.0
      by_order true later (inr is) = ap (λ (t : Bool). if t then v.name else back o vs y) (ne_eqb (n.number v.order v.name) y (λ equal. is.1 (sym equal))) ∙ later is.2
      by_order false later inner = later inner

  value_back : (o : Order) (scope : List Variable) (e : Env) (x y : ℕ) → SameVariable (pairs_in scope) o x y → value_at o x e ≡ value_at o y (given_by scope e)
  value_back Zero scope e x y same = ap (λ z. values.Truth (e.truth z)) (sym (back_is Zero scope x y same))
  value_back One scope e x y same = ap (λ z. values.Number (e.number z)) (sym (back_is One scope x y same))
  value_back Two scope e x y same = ap (λ z. values.Set (e.set z)) (sym (back_is Two scope x y same))

  agree_along : (scope : List Variable) (e : Env) → AgreeAlong (pairs_in scope) e (given_by scope e)
  agree_along scope e = record { universe = refl; values = λ o x y same. value_back o scope e x y same }

  -- the other way round, any environment is read by the new numbers
  abbrev pub read_moved : Env → Env
  read_moved c = record {
    universe = c.universe;
    truth = λ x. c.truth (n.number Zero x);
    number = λ x. c.number (n.number One x);
    set = λ x. c.set (n.number Two x);
  }

  value_read : (o : Order) (x : ℕ) (c : Env) → value_at o x (read_moved c) ≡ value_at o (n.number o x) c
  value_read Zero x c = refl
  value_read One x c = refl
  value_read Two x c = refl

  pub same_read : (c : Env) (vs : List Variable) → HaveSameValues vs (moved_all n vs) (read_moved c) c
  same_read c [] = tt
  same_read c (v ∷ vs) = (refl, value_read v.order v.name c, same_read c vs)

module _ (n : Numbering) (rise : NumbersRise n) where
  numbers_differ : (v w : Variable) → v.name ≢ w.name → n.number v.order v.name ≢ n.number w.order w.name
  numbers_differ v w differ same = ⊎_elim
      (λ less. let above = rise v.order w.order v.name w.name less in omega (arith, above, same))
      (λ at_least. ⊎_elim
      (λ more. let above = rise w.order v.order w.name v.name more in omega (arith, above, same))
      (λ at_most. differ (omega (arith, at_least, at_most)))
      (cases_lt w.name v.name))
      (cases_lt v.name w.name)

  -- a variable in scope and itself with its new number are one variable
  same_in : (scope : List Variable) → AreApart scope → (v : Variable) → IsAmong scope v → SameVariable (pairs_in n scope) v.order v.name (n.number v.order v.name)
  same_in [] apart v among = absurd among
  same_in (w ∷ ws) apart v among =
      let tail : AreApart ws = λ t u first second equal. apart t u (inr first) (inr second) equal in
      ⊎_elim
      (λ same. subst Here (apart w v (inl refl) among (sym same)) at_head)
      (λ differ.
      let there : IsAmong ws v = ⊎_elim (λ first. absurd (differ (ap (λ (u : Variable). u.name) (sym first)))) (λ later. later) among in
      by_order (is_order w.order v.order) differ (same_in ws tail v there))
      (cases_eq v.name w.name)
    where
      Here : Variable → Type 0
      Here u = SameVariable (pairs_in n (w ∷ ws)) u.order u.name (n.number u.order u.name)

      at_head : SameVariable (pairs_in n (w ∷ ws)) w.order w.name (n.number w.order w.name)
      at_head = subst (λ b. MatchBool b (((w.name ≡ w.name) × (n.number w.order w.name ≡ n.number w.order w.name)) ⊎ ((w.name ≢ w.name) × (n.number w.order w.name ≢ n.number w.order w.name) × SameVariable (pairs_in n ws) w.order w.name (n.number w.order w.name))) (SameVariable (pairs_in n ws) w.order w.name (n.number w.order w.name))) (sym (is_itself w.order)) (inl (refl, refl))

      by_order : (b : Bool) → v.name ≢ w.name → SameVariable (pairs_in n ws) v.order v.name (n.number v.order v.name)
          → MatchBool b (((v.name ≡ w.name) × (n.number v.order v.name ≡ n.number w.order w.name)) ⊎ ((v.name ≢ w.name) × (n.number v.order v.name ≢ n.number w.order w.name) × SameVariable (pairs_in n ws) v.order v.name (n.number v.order v.name))) (SameVariable (pairs_in n ws) v.order v.name (n.number v.order v.name))
      by_order true differ later = inr (differ, numbers_differ v w differ, later)
      by_order false differ later = later

  same_list : (scope : List Variable) → AreApart scope → (vs : List Variable) → Each (IsAmong scope) vs → SameVariables (pairs_in n scope) vs (moved_all n vs)
  same_list scope apart [] each = tt
  same_list scope apart (v ∷ vs) each = (refl, same_in scope apart v each.0, same_list scope apart vs each.1)

  pub same_given : (scope : List Variable) → AreApart scope → (e : Env) (vs : List Variable) → Each (IsAmong scope) vs → HaveSameValues (moved_all n vs) vs (given_by n scope e) e
  same_given scope apart e [] each = tt
  same_given scope apart e (v ∷ vs) each =
      (refl, sym (value_back n v.order scope e v.name (n.number v.order v.name) (same_in scope apart v each.0)), same_given scope apart e vs each.1)

  as_many : (xs : List ℕ) (vs : List Variable) → length xs ≡ length vs → length xs ≡ length (map (λ p. n.number p.1.order p.0) (zip xs vs))
  as_many [] vs same = refl
  as_many (x ∷ xs) [] same = absurd (omega (arith, same))
  as_many (x ∷ xs) (v ∷ vs) same = let later = as_many xs vs (omega (arith, same)) in omega (arith, later)

  module _ (imports : List Import) (known : KnowsImports imports n) where
    mutual
      same_under : (f : CoreForm) (scope : List Variable) → AreApart scope → Stands imports scope f → SameUnder imports (pairs_in n scope) f (renumbered n f)
      same_under truth scope apart stands = tt
      same_under falsity scope apart stands = tt
      same_under (basic b) scope apart stands =
          (moved_places n b, subst (SameVariables (pairs_in n scope) (variables_of_basic b)) (sym (moved_basic n b)) (same_list scope apart (variables_of_basic b) stands))
      same_under (negation f) scope apart stands = same_under f scope apart stands
      same_under (conjunction fs) scope apart stands = same_each fs scope apart stands
      same_under (disjunction fs) scope apart stands = same_each fs scope apart stands
      same_under (implication f g) scope apart stands = (same_under f scope apart stands.0, same_under g scope apart stands.1)
      same_under (equivalence f g) scope apart stands = (same_under f scope apart stands.0, same_under g scope apart stands.1)
      same_under (restrict f) scope apart stands = same_under f scope apart stands
      same_under (imported i xs) scope apart stands =
          let own = variables_of_import (slice_get imports i) in (
            refl,
            as_many xs own stands.0 ∙ ap (λ us. length (map (λ p. n.number p.1.order p.0) (zip xs us))) (sym (known i)),
            subst (SameVariables (pairs_in n scope) (variables_at xs own)) (sym (ap (λ us. variables_at (map (λ p. n.number p.1.order p.0) (zip xs us)) own) (known i) ∙ moved_import n xs own))
                (same_list scope apart (variables_at xs own) stands.1),
          )
      same_under (quantified q o x d f) scope apart stands =
          let wider = apart_push scope x o apart stands.0 in
          (refl, refl, same_range d (variable x o ∷ scope) wider stands.1, same_under f (variable x o ∷ scope) wider stands.2)

      same_each : (fs : CoreForms) (scope : List Variable) → AreApart scope → EachStands imports scope fs → SameEach imports (pairs_in n scope) fs (renumbered_each n fs)
      same_each no_forms scope apart stands = tt
      same_each (more_forms f fs) scope apart stands = (same_under f scope apart stands.0, same_each fs scope apart stands.1)

      same_range : (d : CoreRestriction) (scope : List Variable) → AreApart scope → RestrictionStands imports scope d → SameRestriction imports (pairs_in n scope) d (renumbered_in n d)
      same_range unrestricted scope apart stands = tt
      same_range (restricted d) scope apart stands = same_under d scope apart stands

    pub value_moved : (f : CoreForm) (scope : List Variable) → AreApart scope → Stands imports scope f → (e : Env) → HaveSameValue imports f e (renumbered n f) (given_by n scope e)
    value_moved f scope apart stands e = same_value imports f (renumbered n f) (pairs_in n scope) e (given_by n scope e) (same_under f scope apart stands) (agree_along n scope e)
