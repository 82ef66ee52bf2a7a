-- Variables of one number have one order in a checked source.
use Rattle.std.proofs.Common.{◌≡◌, ℕ, ◌+◌, List, [], ◌∷◌, ◌++◌, length, length-append, map, None, refl, sym, ap, subst, arith}
use Rattle.ms_list.specs.declared.at.At.{At as Place}
use Rattle.ms_logic.specs.declared.checked.Global.{Global}
use Rattle.ms_logic.specs.declared.mode.Order.{Order}
use Rattle.ms_logic.specs.Tree as tree
use Rattle.ms_logic.specs.View.{globals_from, predicate_of}
use Rattle.ms_logic.specs.declared.checked.Checked.{Checked}
use Rattle.ms_logic.specs.declared.source.Loaded.{Loaded}
use Rattle.ms_names_rules.specs.declared.meaning.Meaning.TheVariants as meaning
use Rattle.ms_parse_grammar.specs.Tree.{Expression, Variables, no_variables, and_variable, Domain, unrestricted, restricted, Declaration, variables, constant, predicate, included, default_restriction, formula, goal, Declared}
use Rattle.ms_names_rules.specs.Declarations.{Known, after_declaration, at_the_beginning, before_after, count_of_globals, globals_in, orders_of_bounds, first_fault_of}
use Rattle.ms_names_rules.specs.Before.{Before, with_names, after_bounds}
use Rattle.ms_names_rules.specs.inner.Binder.{predicate_with, restricted_variable}
use Rattle.ms_logic.specs.Lists.{Each}
use Rattle.ms_names_rules.specs.Scope.{Scope, bind, count_of_bounds, under_bounds}
use Rattle.ms_names_rules.specs.Typed.{formula_in, typed, typed_domain}
use Rattle.ms_names_rules.specs.TypedSource.{IsTyped, TypedFormula, TypedGlobal, collected, formulas_of, global_of, globals_of, globals_of_bounds, parameters_of_bounds, placed_formula_of, predicates_of, restriction_of_parameter, typed_predicate}
use Rattle.ms_parse_grammar.specs.View.{declared_of}
use Rattle.ms_names_rules.proofs.Fitting.{If, each-append, if-one}
use Rattle.ms_names_rules.proofs.Numbering.{Stand, if-two}
use Rattle.ms_names_rules.proofs.Standing.{stand-all, stand-front}
use Rattle.ms_names_checked.specs.Orders.{BindsInOrder, DeclaresInOrder, HasOneOrder, PredicateBindsInOrder, RestrictionBindsInOrder}
use Rattle.ms_names_checked.proofs.Globals.{globals-picked, orders_of_globals, picked_in, picked_of_bounds}
use Rattle.ms_names_checked.proofs.Collected.{each-formula, each-kept, each-mapped}
use Rattle.ms_names_checked.proofs.InOrder.{domain-in-order, formula-in-order, in-order, stand-next}
use Rattle.ms_names_checked.proofs.OrdersInText.{bounds-long, orders-long, orders_in, orders_in_bounds, orders_in_domain, restrictions-long}

-- the orders of what a declaration binds, and of its globals

abbrev orders_in_declaration : Declaration → List Order
orders_in_declaration (variables vs) = orders_in_bounds vs
orders_in_declaration (constant at n is) = []
orders_in_declaration (predicate is_pred at n vs e) = orders_of_bounds vs ++ (orders_in_bounds vs ++ orders_in e)
orders_in_declaration (included text_at file) = []
orders_in_declaration (default_restriction o n e) = o ∷ orders_in e
orders_in_declaration (formula e) = orders_in e
orders_in_declaration (goal name_at title e) = orders_in e

abbrev orders_in_source : List Declared → List Order
orders_in_source [] = []
orders_in_source (d ∷ ds) = orders_in_declaration d.declaration ++ orders_in_source ds

declaration-long : (b : Before) (d : Declaration) → (before_after b d).next ≡ b.next + length (orders_in_declaration d)
declaration-long b (variables vs) = restrictions-long b vs
declaration-long b (constant at n is) = omega arith
declaration-long b (predicate is_pred at n vs e) =
    let here = with_names b (count_of_bounds vs) in
    let end = after_bounds here vs in
    let many = bounds-long vs in
    let first = restrictions-long here vs in
    let second = orders-long end e in
    let inner = length-append (orders_in_bounds vs) (orders_in e) in
    let outer = length-append (orders_of_bounds vs) (orders_in_bounds vs ++ orders_in e) in
    omega (arith, many, first, second, inner, outer)
declaration-long b (included text_at file) = omega arith
declaration-long b (default_restriction o n e) = let rest = orders-long (with_names b 1) e in omega (arith, rest)
declaration-long b (formula e) = orders-long b e
declaration-long b (goal name_at title e) = orders-long b e

own-orders : (vs : Variables) → count_of_bounds vs ≡ length (picked_of_bounds (λ o n. o) vs)
own-orders no_variables = refl
own-orders (and_variable vs at o n d) =
    let rest = own-orders vs in
    let all = length-append (picked_of_bounds (λ p m. p) vs) (o ∷ []) in
    omega (arith, rest, all)

own-long : (d : Declaration) → globals_in d ≡ length (picked_in (λ o n. o) d)
own-long (variables vs) = own-orders vs
own-long (constant at n is) = refl
own-long (predicate is_pred at n vs e) = refl
own-long (included text_at file) = refl
own-long (default_restriction o n e) = refl
own-long (formula e) = refl
own-long (goal name_at title e) = refl

globals-long : (ds : List Declared) → count_of_globals ds ≡ length (orders_of_globals ds)
globals-long [] = refl
globals-long (d ∷ ds) =
    let here = own-long d.declaration in
    let rest = globals-long ds in
    let all = length-append (picked_in (λ o n. o) d.declaration) (orders_of_globals ds) in
    omega (arith, here, rest, all)

module _ (T : List Order) where
  abbrev GlobalInOrder : TypedGlobal → Type 0
  GlobalInOrder g = RestrictionBindsInOrder T g.restriction

  abbrev FormulaInOrder : TypedFormula → Type 0
  FormulaInOrder f = BindsInOrder T f.formula

  kept-globals : (n : ℕ) (gs : List Global) → Stand T n (map (λ (g : Global). g.order) gs) → Each (λ (g : Global). GlobalInOrder (global_of g)) gs → Each (DeclaresInOrder T) (globals_from n gs)
  kept-globals n [] stand h = tt
  kept-globals n (g ∷ gs) stand h = ((stand.0, h.0), kept-globals (n + 1) gs stand.1 h.1)

  -- what each declaration gives

  bounds-in-order : (at : Place) (item : ℕ) (s : Scope) (x : ℕ) (b : Before) (vs : Variables) → Stand T b.next (orders_in_bounds vs) →
      Each (If GlobalInOrder) (globals_of_bounds at item s x b vs)
  bounds-in-order at item s x b no_variables h = tt
  bounds-in-order at item s x b (and_variable vs name_at o n d) h =
      let y = x + count_of_bounds vs in
      let begin = after_bounds b vs in
      let inner = under_bounds s x (and_variable vs name_at o n d) in
      each-append (If GlobalInOrder) (globals_of_bounds at item s x b vs) _ (bounds-in-order at item s x b vs (stand-front T b.next (orders_in_bounds vs) (orders_in_domain d) h)) (
        if-one (RestrictionBindsInOrder T) GlobalInOrder (λ restriction. record { at = at; item = item; order = o; name = n; restriction = restriction })
            (typed_domain inner begin o y d) (λ r k. k)
            (domain-in-order T inner begin o y d (stand-next T b.next begin.next (orders_in_bounds vs) (orders_in_domain d) (restrictions-long b vs) h)),
        tt,
      )

  globals-in-order : (k : Known) (at : Place) (item : ℕ) (d : Declaration) → Stand T k.before.next (orders_in_declaration d) → Each (If GlobalInOrder) (globals_of k at item d)
  globals-in-order k at item (variables vs) h = bounds-in-order at item k.scope k.globals k.before vs h
  globals-in-order k at item (constant name_at n is) h = tt
  globals-in-order k at item (predicate is_pred name_at n vs e) h = tt
  globals-in-order k at item (included text_at file) h = tt
  globals-in-order k at item (default_restriction o n e) h = tt
  globals-in-order k at item (formula e) h = tt
  globals-in-order k at item (goal name_at title e) h = tt

  parameter-in-order : (s : Scope) (b : Before) (d : Domain) → Stand T b.next (orders_in_domain d) → If (RestrictionBindsInOrder T) (restriction_of_parameter s b d)
  parameter-in-order s b unrestricted h = tt
  parameter-in-order s b (restricted e) h =
      if-one (BindsInOrder T) (RestrictionBindsInOrder T) (λ f. tree.restricted f) (formula_in (typed s b e)) (λ f k. k) (formula-in-order T (typed s b e) (in-order T s b e h))

  parameters-in-order : (s : Scope) (x : ℕ) (b : Before) (vs : Variables) → Stand T x (orders_of_bounds vs) → Stand T b.next (orders_in_bounds vs) →
      If (Each (DeclaresInOrder T)) (parameters_of_bounds s x b vs)
  parameters-in-order s x b no_variables own h = tt
  parameters-in-order s x b (and_variable vs at o n d) own h =
      let y = x + count_of_bounds vs in
      let begin = after_bounds b vs in
      let inner = under_bounds s x (and_variable vs at o n d) in
      let last = stand-next T x y (orders_of_bounds vs) (o ∷ []) (ap (λ k. x + k) (sym (bounds-long vs))) own in
      if-two (Each (DeclaresInOrder T)) (RestrictionBindsInOrder T) (Each (DeclaresInOrder T)) (λ earlier r. earlier ++ restricted_variable y o r ∷ [])
      (parameters_of_bounds s x b vs) (restriction_of_parameter inner begin d)
      (λ earlier r i j. each-append (DeclaresInOrder T) earlier (restricted_variable y o r ∷ []) i ((last.0, j), tt))
      (parameters-in-order s x b vs (stand-front T x (orders_of_bounds vs) (o ∷ []) own) (stand-front T b.next (orders_in_bounds vs) (orders_in_domain d) h))
      (parameter-in-order inner begin d (stand-next T b.next begin.next (orders_in_bounds vs) (orders_in_domain d) (restrictions-long b vs) h))

  predicate-in-order : (s : Scope) (b : Before) (vs : Variables) (e : Expression) → Stand T b.next (orders_of_bounds vs ++ (orders_in_bounds vs ++ orders_in e)) →
      If (PredicateBindsInOrder T) (typed_predicate s b vs e)
  predicate-in-order s b vs e h =
      let here = with_names b (count_of_bounds vs) in
      let end = after_bounds here vs in
      let inner = under_bounds s b.next vs in
      let many = bounds-long vs in
      let rest = stand-next T b.next here.next (orders_of_bounds vs) (orders_in_bounds vs ++ orders_in e) (ap (λ n. b.next + n) (sym many)) h in
      if-two (Each (DeclaresInOrder T)) (BindsInOrder T) (PredicateBindsInOrder T) predicate_with (parameters_of_bounds s b.next here vs) (formula_in (typed inner end e)) (λ ps f i j. (i, j))
      (parameters-in-order s b.next here vs (stand-front T b.next (orders_of_bounds vs) (orders_in_bounds vs ++ orders_in e) h) (stand-front T here.next (orders_in_bounds vs) (orders_in e) rest))
      (formula-in-order T (typed inner end e) (in-order T inner end e (stand-next T here.next end.next (orders_in_bounds vs) (orders_in e) (restrictions-long here vs) rest)))

  predicates-in-order : (k : Known) (d : Declaration) → Stand T k.before.next (orders_in_declaration d) → Each (If (PredicateBindsInOrder T)) (predicates_of k d)
  predicates-in-order k (variables vs) h = tt
  predicates-in-order k (constant at n is) h = tt
  predicates-in-order k (predicate is_pred at n vs e) h = (predicate-in-order k.scope k.before vs e h, tt)
  predicates-in-order k (included text_at file) h = tt
  predicates-in-order k (default_restriction o n e) h =
      let b = k.before in
      let inner = bind n (meaning.Variable b.next o) k.scope in
      let here = with_names b 1 in (
        if-one (BindsInOrder T) (PredicateBindsInOrder T) (predicate_with (restricted_variable b.next o tree.unrestricted ∷ [])) (formula_in (typed inner here e)) (λ f i. (((h.0, tt), tt), i))
            (formula-in-order T (typed inner here e) (in-order T inner here e h.1)),
        tt,
      )
  predicates-in-order k (formula e) h = tt
  predicates-in-order k (goal name_at title e) h = tt

  formulas-in-order : (k : Known) (at : Place) (item : ℕ) (d : Declaration) → Stand T k.before.next (orders_in_declaration d) → Each (If FormulaInOrder) (formulas_of k at item d)
  formulas-in-order k at item d h = each-formula (BindsInOrder T) (λ d. Stand T k.before.next (orders_in_declaration d)) k held (λ name_at title. held) at item d h
    where
      held : (e : Expression) → Stand T k.before.next (orders_in e) → If (BindsInOrder T) (formula_in (typed k.scope k.before e))
      held e stand = formula-in-order T (typed k.scope k.before e) (in-order T k.scope k.before e stand)

-- all that the next declarations give
record AllInOrder (T : List Order) (k : Known) (item : ℕ) (ds : List Declared) : Type 0 where
  globals : Each (If (GlobalInOrder T)) (collected (λ k item d. globals_of k d.at item d.declaration) k item ds)
  predicates : Each (If (PredicateBindsInOrder T)) (collected (λ k item d. predicates_of k d.declaration) k item ds)
  formulas : Each (If (FormulaInOrder T)) (collected (λ k item d. formulas_of k d.at item d.declaration) k item ds)

all-in-order : (T : List Order) (k : Known) (item : ℕ) (ds : List Declared) → Stand T k.before.next (orders_in_source ds) → AllInOrder T k item ds
all-in-order T k item [] h = record { globals = tt; predicates = tt; formulas = tt }
all-in-order T k item (d ∷ ds) h =
    let own = orders_in_declaration d.declaration in
    let here = stand-front T k.before.next own (orders_in_source ds) h in
    let next = after_declaration k d.declaration in
    let rest = all-in-order T next (item + 1) ds (stand-next T k.before.next next.before.next own (orders_in_source ds) (declaration-long k.before d.declaration) h) in
    record {
      globals = each-append (If (GlobalInOrder T)) (globals_of k d.at item d.declaration) (collected (λ k item d. globals_of k d.at item d.declaration) next (item + 1) ds)
          (globals-in-order T k d.at item d.declaration here) rest.globals;
      predicates = each-append (If (PredicateBindsInOrder T)) (predicates_of k d.declaration) (collected (λ k item d. predicates_of k d.declaration) next (item + 1) ds)
          (predicates-in-order T k d.declaration here) rest.predicates;
      formulas = each-append (If (FormulaInOrder T)) (formulas_of k d.at item d.declaration) (collected (λ k item d. formulas_of k d.at item d.declaration) next (item + 1) ds)
          (formulas-in-order T k d.at item d.declaration here) rest.formulas;
    }

pub one-order : (loaded : Loaded) (checked : Checked) → IsTyped loaded checked → first_fault_of loaded.mode (map declared_of loaded.items) ≡ None → HasOneOrder checked
one-order loaded checked typed right =
    let ds = map declared_of loaded.items in
    let k = at_the_beginning loaded.mode ds in
    let own = orders_of_globals ds in
    let T = own ++ orders_in_source ds in
    let stand = stand-all T in
    let many = globals-long ds in
    let all = all-in-order T k 0 ds (stand-next T 0 (count_of_globals ds) own (orders_in_source ds) (omega (arith, many)) stand) in (
      T,
      record {
        globals = kept-globals T 0 checked.globals
            (subst (λ os. Stand T 0 os) (sym (globals-picked (λ o n. o) k 0 ds checked.globals typed.globals_are)) (stand-front T 0 own (orders_in_source ds) stand))
            (each-kept (GlobalInOrder T) global_of checked.globals (subst (λ gs. Each (If (GlobalInOrder T)) gs) (sym typed.globals_are) all.globals));
        predicates = each-mapped (PredicateBindsInOrder T) predicate_of checked.predicates
            (each-kept (PredicateBindsInOrder T) predicate_of checked.predicates (subst (λ ps. Each (If (PredicateBindsInOrder T)) ps) (sym typed.predicates_are) all.predicates));
        formulas = each-kept (FormulaInOrder T) placed_formula_of checked.formulas (subst (λ fs. Each (If (FormulaInOrder T)) fs) (sym typed.formulas_are) all.formulas);
      },
    )
