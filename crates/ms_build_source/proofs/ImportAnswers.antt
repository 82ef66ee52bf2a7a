-- What is lent for the imports of a source answers as the imports of the source do, and has variables of their orders.
use Rattle.std.proofs.Common.{◌≡◌, ℕ, zero, suc, ◌<◌, List, [], ◌∷◌, length, map, slice_get, All, Some, refl, sym, ap, ap₂, subst, ◌∙◌, arith}
use Rattle.std.specs.List.{zip}
use Rattle.std.proofs.lemmas.Option.{none-some, same_Some}
use Rattle.ms_build.specs.Built.{AreImportsOf, import_of as automaton_of, imports_of}
use Rattle.ms_dfa.proofs.OrdersLemmas.{orders-by_place}
use Rattle.ms_logic_core.specs.Calls.{Calls}
use Rattle.ms_dag.specs.declared.dag.Dag.{Dag}
use Rattle.ms_dag.specs.declared.node.DagNode.TheVariants.{Import}
use Rattle.ms_dag.specs.declared.node.Entry.{Entry}
use Rattle.ms_dag.specs.Laws.{EachHasItsOrders, HasOrder, HaveTheirOrders, RestrictionHasItsOrders}
use Rattle.ms_dag.specs.Lowered.{IsLowered}
use Rattle.ms_dag.specs.Places.{AreAt}
use Rattle.ms_dag.specs.Share.{IsDagOf}
use Rattle.ms_logic.specs.declared.assignment.Value.{Value}
use Rattle.ms_logic.specs.declared.checked.Checked.{Checked}
use Rattle.ms_logic.specs.declared.checked.ImportUse.{ImportUse}
use Rattle.ms_logic.specs.declared.checked.MapPair.{MapPair}
use Rattle.ms_logic_core.specs.declared.core_formula.Lowered.{Lowered}
use Rattle.ms_logic.specs.declared.mode.Mode.{Mode}
use Rattle.ms_logic.specs.declared.mode.Order.{Order}
use Rattle.ms_logic_words.specs.declared.sign.Sign.{Sign}
use Rattle.ms_logic.specs.Assignment.{Env, AreValuesOf, Universe, Variable, IsUniverseOf, value_at}
use Rattle.ms_logic_words.specs.Content.{Content}
use Rattle.ms_logic_core.specs.CoreForm.{CoreForm, truth, falsity, basic, negation, conjunction, disjunction, implication, equivalence, restrict, imported, quantified, CoreForms, no_forms, more_forms, CoreRestriction, unrestricted, restricted, answer_over}
use Rattle.ms_logic_core.specs.Spread.{variables_of_import}
use Rattle.ms_logic_core.specs.Operands.{variables_at}
use Rattle.ms_logic.specs.Truth.{Answer, Import as Imported}
use Rattle.ms_logic.specs.View.{import_of, problem_of, Answers}
use Rattle.ms_logic.specs.Lists.{Each}
use Rattle.ms_build_source.specs.inner.Asked.{AnswerAlike, HasValueIn}
use Rattle.ms_build_source.specs.Imported.{AreAnswersOf, AreLentFor, IsAnswerOf, IsLentFor, orders_of_pairs}
use Rattle.ms_dag.proofs.ImportOrders.{imports_have_orders}

abbrev orders_of : List Variable → List Order
orders_of variables = map (λ v. v.order) variables

-- variables matter to the values of a list by their orders alone
values_by_orders : (xs : List ℕ) (vs ws : List Variable) (e : Env) → orders_of vs ≡ orders_of ws → map (λ p. value_at p.1.order p.0 e) (zip xs vs) ≡ map (λ p. value_at p.1.order p.0 e) (zip xs ws)
values_by_orders [] vs ws e same = refl
values_by_orders (x ∷ xs) [] [] e same = refl
values_by_orders (x ∷ xs) [] (w ∷ ws) e same = absurd (let none = ap length same in omega (arith, none))
values_by_orders (x ∷ xs) (v ∷ vs) [] e same = absurd (let none = ap length same in omega (arith, none))
values_by_orders (x ∷ xs) (v ∷ vs) (w ∷ ws) e same =
    let first : v.order ≡ w.order = cc in
    let others : orders_of vs ≡ orders_of ws = cc in
    ap₂ (λ y ys. y ∷ ys) (ap (λ o. value_at o x e) first) (values_by_orders xs vs ws e others)

variables_by_orders : (xs : List ℕ) (vs ws : List Variable) → orders_of vs ≡ orders_of ws → variables_at xs vs ≡ variables_at xs ws
variables_by_orders [] vs ws same = refl
variables_by_orders (x ∷ xs) [] [] same = refl
variables_by_orders (x ∷ xs) [] (w ∷ ws) same = absurd (let none = ap length same in omega (arith, none))
variables_by_orders (x ∷ xs) (v ∷ vs) [] same = absurd (let none = ap length same in omega (arith, none))
variables_by_orders (x ∷ xs) (v ∷ vs) (w ∷ ws) same =
    let first : v.order ≡ w.order = cc in
    let others : orders_of vs ≡ orders_of ws = cc in
    ap₂ (λ (o : Order) (us : List Variable). record { name = x; order = o } ∷ us) first (variables_by_orders xs vs ws others)

-- what variables have values of their orders, these are
are_values : (xs : List ℕ) (vs : List Variable) (e : Env) → length xs ≡ length vs → Each (HasValueIn e) (variables_at xs vs) → AreValuesOf e.universe (orders_of vs) (map (λ p. value_at p.1.order p.0 e) (zip xs vs))
are_values [] [] e long have = tt
are_values [] (v ∷ vs) e long have = absurd (omega (arith, long))
are_values (x ∷ xs) [] e long have = absurd (omega (arith, long))
are_values (x ∷ xs) (v ∷ vs) e long have = (have.0, are_values xs vs e (omega (arith, long)) have.1)

pair_orders : (pairs : List MapPair) → orders_of (map (λ p. record { name = p.variable; order = p.order }) pairs) ≡ map (λ p. p.order) pairs
pair_orders [] = refl
pair_orders (p ∷ pairs) = ap (λ os. p.order ∷ os) (pair_orders pairs)

-- the imports of a source, with these answers
abbrev pub given_by : List ImportUse → Answers → List Imported
given_by uses answers = map (λ p. import_of p.0 p.1) (zip uses answers)

-- an import of the source and what is lent for it
module _ (mode : Mode) (used : ImportUse) (answer : Universe → List Value → Answer) (content : Content Sign) (lent : IsLentFor mode used content) where
  same_orders : orders_of (import_of used answer).variables ≡ orders_of (automaton_of content).variables
  same_orders = pair_orders used.pairs ∙ sym (orders-by_place (orders_of_pairs used)) ∙ ap orders_of (sym lent.variables)

  one_alike : IsAnswerOf mode used answer content → (xs : List ℕ) (e : Env) → IsUniverseOf mode e.universe → length xs ≡ length (import_of used answer).variables
      → Each (HasValueIn e) (variables_at xs (import_of used answer).variables) → answer_over (Some (import_of used answer)) xs e ≡ answer_over (Some (automaton_of content)) xs e
  one_alike is xs e universe long have =
      let variables = (import_of used answer).variables in
      let values = map (λ p. value_at p.1.order p.0 e) (zip xs variables) in
      let valid : AreValuesOf e.universe (orders_of_pairs used) values = subst (λ os. AreValuesOf e.universe os values) (pair_orders used.pairs) (are_values xs variables e long have) in
      is e.universe values universe valid ∙ ap (λ vs. (automaton_of content).answer e.universe vs) (values_by_orders xs variables content.variables e same_orders)

module _ (mode : Mode) where
  pub answers_alike : (uses : List ImportUse) (answers : Answers) (contents : List (Content Sign)) → AreLentFor mode uses contents → AreAnswersOf mode uses answers contents
      → AnswerAlike mode (given_by uses answers) (imports_of contents)
  answers_alike [] [] [] lent are i xs e universe long have = refl
  answers_alike [] [] (content ∷ contents) lent are i xs e universe long have = absurd lent
  answers_alike [] (answer ∷ answers) contents lent are i xs e universe long have = absurd are
  answers_alike (used ∷ uses) [] contents lent are i xs e universe long have = absurd are
  answers_alike (used ∷ uses) (answer ∷ answers) [] lent are i xs e universe long have = absurd lent
  answers_alike (used ∷ uses) (answer ∷ answers) (content ∷ contents) lent are zero xs e universe long have = one_alike mode used answer content lent.0 are.0 xs e universe long have
  answers_alike (used ∷ uses) (answer ∷ answers) (content ∷ contents) lent are (suc i) xs e universe long have = answers_alike uses answers contents lent.1 are.1 i xs e universe long have

  -- their variables have the same orders
  pub variables_alike : (uses : List ImportUse) (answers : Answers) (contents : List (Content Sign)) → AreLentFor mode uses contents → length answers ≡ length uses → (i : ℕ)
      → orders_of (variables_of_import (slice_get (given_by uses answers) i)) ≡ orders_of (variables_of_import (slice_get (imports_of contents) i))
  variables_alike [] [] [] lent long i = refl
  variables_alike [] [] (content ∷ contents) lent long i = absurd lent
  variables_alike [] (answer ∷ answers) contents lent long i = absurd (omega (arith, long))
  variables_alike (used ∷ uses) [] contents lent long i = absurd (omega (arith, long))
  variables_alike (used ∷ uses) (answer ∷ answers) [] lent long i = absurd lent
  variables_alike (used ∷ uses) (answer ∷ answers) (content ∷ contents) lent long zero = same_orders mode used answer content lent.0
  variables_alike (used ∷ uses) (answer ∷ answers) (content ∷ contents) lent long (suc i) = variables_alike uses answers contents lent.1 (omega (arith, long)) i

  -- what is lent for an import
  lent_at : (uses : List ImportUse) (contents : List (Content Sign)) → AreLentFor mode uses contents → (i : ℕ) → i < length uses
      → (used : ImportUse) × (content : Content Sign) × (slice_get uses i ≡ Some used) × (slice_get contents i ≡ Some content) × IsLentFor mode used content
  lent_at [] contents lent i less = absurd (omega (arith, less))
  lent_at (used ∷ uses) [] lent i less = absurd lent
  lent_at (used ∷ uses) (content ∷ contents) lent zero less = (used, content, refl, refl, lent.0)
  lent_at (used ∷ uses) (content ∷ contents) lent (suc i) less = lent_at uses contents lent.1 i (omega (arith, less))

given_at : (uses : List ImportUse) (answers : Answers) (i : ℕ) (used : ImportUse) → length answers ≡ length uses → slice_get uses i ≡ Some used
    → orders_of (variables_of_import (slice_get (given_by uses answers) i)) ≡ orders_of_pairs used
given_at [] answers i used long held = absurd (none-some used held)
given_at (first ∷ uses) [] i used long held = absurd (omega (arith, long))
given_at (first ∷ uses) (answer ∷ answers) zero used long held = pair_orders first.pairs ∙ ap orders_of_pairs (same_Some first used held)
given_at (first ∷ uses) (answer ∷ answers) (suc i) used long held = given_at uses answers i used (omega (arith, long)) held

-- the nodes of the graph have automata for what they import
pub lent_to_nodes : (checked : Checked) (answers : Answers) (contents : List (Content Sign)) (calls : Calls) (lowered : Lowered) (dag : Dag) → length answers ≡ length checked.imports
    → AreLentFor checked.mode checked.imports contents → IsLowered (problem_of checked answers).given.imports calls lowered → IsDagOf calls lowered dag
    → ((place : ℕ) (entry : Entry) (i : ℕ) (xs : List ℕ) → slice_get dag.entries place ≡ Some entry → entry.node ≡ Import i xs → i < length checked.imports)
    → AreImportsOf contents checked.mode dag.entries
lent_to_nodes checked answers contents calls lowered dag long lent is_lowered is below place entry i xs held import =
    let found = lent_at checked.mode checked.imports contents lent i (below place entry i xs held import) in
    let at = imports_have_orders (problem_of checked answers).given.imports calls lowered dag is_lowered is place entry i xs held import in
    (found.1, found.3, found.4.mode_is, (orders_of_pairs found.0, found.4.variables, subst (AreAt entry.orders xs) (given_at checked.imports answers i found.0 long found.2) at))

-- a formula's variables have their orders whichever of two lists of imports is read, if these have the same orders
module _ (orders : List Order) (first second : List Imported)
    (alike : (i : ℕ) → orders_of (variables_of_import (slice_get first i)) ≡ orders_of (variables_of_import (slice_get second i))) where
  mutual
    pub orders_alike : (f : CoreForm) → HaveTheirOrders first orders f → HaveTheirOrders second orders f
    orders_alike truth have = tt
    orders_alike falsity have = tt
    orders_alike (basic b) have = have
    orders_alike (negation f) have = orders_alike f have
    orders_alike (conjunction fs) have = each_alike fs have
    orders_alike (disjunction fs) have = each_alike fs have
    orders_alike (implication f g) have = (orders_alike f have.0, orders_alike g have.1)
    orders_alike (equivalence f g) have = (orders_alike f have.0, orders_alike g have.1)
    orders_alike (restrict f) have = orders_alike f have
    orders_alike (imported i xs) have = subst (All (HasOrder orders)) (variables_by_orders xs (variables_of_import (slice_get first i)) (variables_of_import (slice_get second i)) (alike i)) have
    orders_alike (quantified q o x d f) have = (have.0, range_alike d have.1, orders_alike f have.2)

    each_alike : (fs : CoreForms) → EachHasItsOrders first orders fs → EachHasItsOrders second orders fs
    each_alike no_forms have = tt
    each_alike (more_forms f fs) have = (orders_alike f have.0, each_alike fs have.1)

    range_alike : (d : CoreRestriction) → RestrictionHasItsOrders first orders d → RestrictionHasItsOrders second orders d
    range_alike unrestricted have = tt
    range_alike (restricted d) have = orders_alike d have
