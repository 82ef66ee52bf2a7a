-- What lowering gives for a source is what sharing asks.
use Rattle.std.proofs.Common.{◌≡◌, ℕ, zero, suc, ◌+◌, ◌-◌, ◌%◌, ◌<◌, ◌≤◌, inl, inr, ⊎_elim, All, min, List, [], ◌∷◌, length, map, slice_get, Some, refl, sym, ap, subst, ◌∙◌, arith}
use Rattle.std.proofs.lemmas.Bool.{cases_lt}
use Rattle.std.proofs.lemmas.List.{length-map}
use Rattle.std.proofs.lemmas.List.Elements.{All-cons, All-contains, All-nil}
use Rattle.std.proofs.lemmas.Option.{slice_get-map}
use Rattle.std.specs.List.Sorted.{IsStrictlyIncreasing}
use Rattle.std.specs.Option.{option_map}
use Rattle.ms_logic_core.specs.Calls.{filled}
use Rattle.ms_logic_core.specs.Orders.{order_of_rank, order_or}
use Rattle.ms_logic_core.specs.Stands.{Stands}
use Rattle.ms_dag.specs.Laws.{HasOrder}
use Rattle.ms_dag.specs.Lowered.{IsLoweredRoot}
use Rattle.ms_logic.specs.declared.checked.Checked.{Checked}
use Rattle.ms_logic.specs.declared.checked.Global.{Global}
use Rattle.ms_logic.specs.declared.checked.Placed.{Placed}
use Rattle.ms_logic_core.specs.declared.core_formula.Root as code
use Rattle.ms_logic.specs.declared.mode.Order.{Order}
use Rattle.ms_logic.specs.Assignment.{Variable}
use Rattle.ms_logic_core.specs.CoreForm.{core_form_of}
use Rattle.ms_logic.specs.FreeVariables.{FreeUnder, IsListed}
use Rattle.ms_logic_core.specs.Roots.{Export, IsRoot, Root, exports_among, exports_in, first_free}
use Rattle.ms_logic.specs.Tree.{Form, truth, falsity, truth_variable, negation, conjunction, disjunction, implication, equivalence, comparison, set_comparison, membership, emptiness, quantified, where_let, call, restrict, imported, exported, default_at, Forms, no_forms, more_forms}
use Rattle.ms_logic.specs.Truth.{Given}
use Rattle.ms_logic.specs.Verdict.{Problem}
use Rattle.ms_logic.specs.View.{globals_from, question_of, Answers}
use Rattle.ms_lower.specs.Calling.{calls_of}
use Rattle.ms_lower.specs.Lowered.{IsRootFor, reads_of}
use Rattle.ms_lower.specs.NumberLaws.{numbering_in}
use Rattle.ms_lower.specs.Numbering.{number_at, renumbered}
use Rattle.ms_lower.specs.inner.Orders.{BoundHaveOrders}
use Rattle.ms_lower.proofs.BoundOrders.{behind_has_order, root_orders}
use Rattle.ms_lower.proofs.MainRoot.{global-number}
use Rattle.ms_lower.proofs.RootScopes.{root_scopes}
use Rattle.ms_lower.proofs.SameNumbers.{numbers_rise}
use Rattle.ms_names_rules.specs.Numbers.{AreNumbered, IsNew, IsNumbered, IsWellNumbered, Tables, globals_seen, tables_of}
use Rattle.ms_logic.specs.Lists.{Each}
use Rattle.ms_names_rules.proofs.Fitting.{each-append}
use Rattle.ms_logic_spread.specs.RootLaws.{AreFormulasOf}
use Rattle.ms_logic_spread.proofs.Questions.{asked_numbered}
use Rattle.ms_logic_spread.proofs.Seen.{IsWithin, ReadSeen, free_seen}
use Rattle.ms_logic_spread.proofs.SeenPredicates.{all_seen}
use Rattle.ms_build_source.specs.inner.HandoverLaws.{SourcesAreShared}
use Rattle.ms_build_source.proofs.Exported.{listed_below}
use Rattle.ms_build_source.proofs.Shared.{all_ordered, each_by, renumbered_rise}
use Rattle.ms_build_source.proofs.Questions.{asked_by, reads_globals}

-- the free variables of exports that have numbers of globals are globals

module _ (tables : Tables) (given : Given) (bound : ℕ) (globals : List Variable) (reads : ReadSeen tables (reads_of given) bound globals) (count : ℕ)
    (all : (x : ℕ) → x < count → (o : Order) × IsListed globals (record { name = x; order = o })) where
  -- of what is seen, what has a number of a global is one
  abbrev Keeps : List Variable → Type 0
  Keeps seen = (w : Variable) → IsListed seen w → w.name < count → IsListed globals w

  abbrev FreeKeeps : Export → Type 0
  FreeKeeps e = (w : Variable) → FreeUnder (reads_of given) e.formula w → w.name < count → IsListed globals w

  keeps_bind : (seen : List Variable) (x : ℕ) (o : Order) → IsWithin globals seen → IsNew seen x → Keeps seen → Keeps (record { name = x; order = o } ∷ seen)
  keeps_bind seen x o within new keeps = λ w listed less.
      ⊎_elim
      (λ is.
      let same = is.0 in
      let there = all x (omega (arith, same, less)) in
      let below = listed_below seen x (record { name = x; order = there.0 }) new (within (record { name = x; order = there.0 }) there.1) in absurd (omega (arith, below)))
      (λ later. keeps w later less) listed

  mutual
    exports_keep : (f : Form) (seen : List Variable) → IsWithin globals seen → IsNumbered tables bound seen f → Keeps seen → Each FreeKeeps (exports_in f)
    exports_keep truth seen within numbered keeps = tt
    exports_keep falsity seen within numbered keeps = tt
    exports_keep (truth_variable x) seen within numbered keeps = tt
    exports_keep (negation f) seen within numbered keeps = exports_keep f seen within numbered keeps
    exports_keep (conjunction fs) seen within numbered keeps = each_keeps fs seen within numbered keeps
    exports_keep (disjunction fs) seen within numbered keeps = each_keeps fs seen within numbered keeps
    exports_keep (implication f g) seen within numbered keeps =
        each-append FreeKeeps (exports_in f) (exports_in g) (exports_keep f seen within numbered.0 keeps) (exports_keep g seen within numbered.1 keeps)
    exports_keep (equivalence f g) seen within numbered keeps =
        each-append FreeKeeps (exports_in f) (exports_in g) (exports_keep f seen within numbered.0 keeps) (exports_keep g seen within numbered.1 keeps)
    exports_keep (comparison r t u) seen within numbered keeps = tt
    exports_keep (set_comparison r s t) seen within numbered keeps = tt
    exports_keep (membership positive t s) seen within numbered keeps = tt
    exports_keep (emptiness s) seen within numbered keeps = tt
    exports_keep (quantified q o x d f) seen within numbered keeps =
        exports_keep f (record { name = x; order = o } ∷ seen) (λ w listed. inr (within w listed)) numbered.2 (keeps_bind seen x o within numbered.0 keeps)
    exports_keep (where_let xs sides f) seen within numbered keeps = tt
    exports_keep (call p values) seen within numbered keeps = tt
    exports_keep (restrict f) seen within numbered keeps = exports_keep f seen within numbered keeps
    exports_keep (imported i) seen within numbered keeps = tt
    exports_keep (exported i f) seen within numbered keeps = (
      λ w free less. keeps w (free_seen tables (reads_of given) bound globals reads f seen within numbered.1 w free) less,
      exports_keep f seen within numbered.1 keeps,
    )
    exports_keep (default_at p x) seen within numbered keeps = tt

    each_keeps : (fs : Forms) (seen : List Variable) → IsWithin globals seen → AreNumbered tables bound seen fs → Keeps seen → Each FreeKeeps (exports_among fs)
    each_keeps no_forms seen within numbered keeps = tt
    each_keeps (more_forms f fs) seen within numbered keeps =
        each-append FreeKeeps (exports_in f) (exports_among fs) (exports_keep f seen within numbered.0 keeps) (each_keeps fs seen within numbered.1 keeps)

-- globals by their numbers

global_listed : (n : ℕ) (gs : List Global) (x : ℕ) → n ≤ x → x < n + length gs → (o : Order) × IsListed (map (λ d. d.variable) (globals_from n gs)) (record { name = x; order = o })
global_listed n [] x from less = absurd (omega (arith, from, less))
global_listed n (g ∷ gs) x from less =
    ⊎_elim (λ later. let rest = global_listed (n + 1) gs x (omega (arith, later)) (omega (arith, less)) in (rest.0, inr rest.1))
    (λ here. (g.order, inl (omega (arith, from, here), refl))) (cases_lt n x)

listed_global : (n : ℕ) (gs : List Global) (w : Variable) → IsListed (map (λ d. d.variable) (globals_from n gs)) w →
    (k : ℕ) × (g : Global) × (w.name ≡ n + k) × (slice_get gs k ≡ Some g) × (w.order ≡ g.order)
listed_global n [] w listed = absurd listed
listed_global n (g ∷ gs) w listed =
    ⊎_elim (λ is. (0, g, is.0 ∙ omega arith, refl, is.1))
    (λ later. let rest = listed_global (n + 1) gs w later in let same = rest.2 in (suc rest.0, rest.1, omega (arith, same), rest.3, rest.4)) listed

pub each_all : {A : Type 0} (P : A → Type 0) (xs : List A) → Each P xs → All P xs
each_all P [] h = All-nil P
each_all P (x ∷ xs) h = All-cons P x xs h.0 (each_all P xs h.1)

module _ (checked : Checked) (orders : List Order) (are : orders ≡ map (λ g. g.order) checked.globals) where
  as_many : length orders ≡ length checked.globals
  as_many = ap length are ∙ length-map checked.globals (λ g. g.order)

  -- a variable of the answer has the order of its number
  has_order : (kept : ℕ) (v : Variable) → (v.name < kept → IsListed (globals_seen checked) v) → HasOrder orders (record { name = number_at kept (length checked.globals) v.order v.name; order = v.order })
  has_order kept v is_global =
      ⊎_elim
      (λ inside.
      let found = listed_global 0 checked.globals v (is_global inside) in
      let there = found.2 in
      let number : number_at kept (length checked.globals) v.order v.name ≡ found.0 = global-number kept (length checked.globals) v.order v.name inside ∙ omega (arith, there) in
      let held : slice_get orders (number_at kept (length checked.globals) v.order v.name) ≡ Some found.1.order =
      ap (slice_get orders) number ∙ (ap (λ list. slice_get list found.0) are ∙ (slice_get-map (λ g. g.order) checked.globals found.0 ∙ ap (option_map (λ (g : Global). g.order)) found.3)) in
      ap (λ o. order_or o (order_of_rank ((number_at kept (length checked.globals) v.order v.name - length orders) % 3))) held ∙ sym found.4)
      (λ beyond. subst (λ count. HasOrder orders (record { name = number_at kept count v.order v.name; order = v.order })) as_many (behind_has_order orders kept v.order v.name beyond))
      (cases_lt v.name kept)

  have_orders : (kept : ℕ) (vs : List Variable) → ((v : Variable) → IsListed vs v → v.name < kept → IsListed (globals_seen checked) v) →
      Each (HasOrder orders) (map (λ v. record { name = number_at kept (length checked.globals) v.order v.name; order = v.order }) vs)
  have_orders kept [] are_globals = tt
  have_orders kept (v ∷ vs) are_globals =
      (has_order kept v (λ inside. are_globals v (inl (refl, refl)) inside), have_orders kept vs (λ w listed inside. are_globals w (inr listed) inside))

  module _ (answers : Answers) (well : IsWellNumbered checked) (asked : List Placed) (among : AreFormulasOf checked asked) where
    abbrev question : Problem
    question = question_of checked answers asked

    -- a variable of a root that has the number of a global is one
    are_globals : (k : ℕ) (own : Root) → IsRoot question k own → (v : Variable) → IsListed own.variables v → v.name < min (length checked.globals) (first_free own.variables) → IsListed (globals_seen checked) v
    are_globals zero own is v listed inside = subst (λ (s : Root). IsListed s.variables v) is listed
    are_globals (suc i) own is v listed inside =
        let tables = tables_of checked in
        let globals = length checked.globals in
        let seen = globals_seen checked in
        let all : (x : ℕ) → x < globals → (o : Order) × IsListed seen (record { name = x; order = o }) = λ x less. global_listed 0 checked.globals x (omega arith) (omega (arith, less)) in
        let reads = all_seen tables seen answers well.predicates in
        let keeps = each_keeps tables question.given (length tables.predicates) seen reads globals all question.formulas seen (λ w there. there)
        (asked_numbered checked well asked among) (λ w there less. there) in
        let here = All-contains (FreeKeeps tables question.given (length tables.predicates) seen reads globals all) (exports_among question.formulas) (record { number = i; formula = is.0 })
        (each_all (FreeKeeps tables question.given (length tables.predicates) seen reads globals all) (exports_among question.formulas) keeps) is.2 in
        let own_variables : own.variables ≡ is.1 = ap (λ (s : Root). s.variables) is.4 in
        here v ((is.3.free v).0 (subst (λ vs. IsListed vs v) own_variables listed)) (omega (arith, inside))

    -- the variables of a root have their orders
    pub root_listed : (k : ℕ) (root : code.Root) (r : IsRootFor checked question k root) → Each (HasOrder orders) r.made.variables
    root_listed k root r =
        subst (λ (s : Root). Each (HasOrder orders) s.variables) (sym r.numbers)
        (have_orders (min (length checked.globals) (first_free r.own.variables)) r.own.variables (are_globals k r.own r.is_root))

    root_lowered : (k : ℕ) (root : code.Root) → IsRootFor checked question k root →
        IsLoweredRoot question.given.imports (calls_of (length checked.globals) question.given) orders root
    root_lowered k root r =
        let given = question.given in
        let globals = length checked.globals in
        let known = root_scopes checked answers asked k r.own r.is_root (reads_globals checked answers well asked among) in
        let n = numbering_in globals given.imports r.own in
        let kept = min globals (first_free r.own.variables) in
        let listed = root_listed k root r in
        let form = filled (calls_of globals given) (core_form_of root.core) in
        let stands = subst (Stands given.imports r.made.variables) r.formula r.stands in
        let made : renumbered n r.own.formula ≡ form = sym (ap (λ (s : Root). s.formula) r.numbers) ∙ r.formula in
        let bound : BoundHaveOrders orders form =
        subst (BoundHaveOrders orders) made (subst (λ count. BoundHaveOrders orders (renumbered (numbering_in count given.imports r.own) r.own.formula)) as_many (root_orders orders given.imports r.own known.1)) in
        record {
          rising =
              subst (λ (list : List ℕ). IsStrictlyIncreasing list) r.variables
              (subst (λ (s : Root). IsStrictlyIncreasing (map (λ v. v.name) s.variables)) (sym r.numbers) (renumbered_rise n (λ p o x y below. numbers_rise kept globals p o x y (omega arith) below) r.own.variables known.0));
          own = r.made.variables;
          variables = r.variables;
          listed = listed;
          stands = stands;
          orders_of_all = all_ordered given.imports orders r.made.variables form listed stands bound;
        }

pub sources_are_shared : SourcesAreShared
sources_are_shared checked answers lowered well has are = record {
  roots = each_by _ lowered.roots (λ k root is.
      let r = asked_by (IsRootFor checked) checked answers lowered.roots has k root is in root_lowered checked lowered.orders are answers well r.0 r.1 r.2.0 root r.2.1);
}
