-- The roots that are made are those of the questions of the mathematical source.
use Rattle.std.proofs.Common.{◌≡◌, ℕ, zero, suc, ◌+◌, List, [], ◌∷◌, ◌++◌, length, map, slice_get, Some, Contains, refl, sym, ap, subst, ◌∙◌, arith}
use Rattle.std.proofs.lemmas.Option.{none-some, same_Some}
use Rattle.std.proofs.lemmas.List.{length-append, length-map}
use Rattle.ms_logic.specs.declared.checked.Checked.{Checked}
use Rattle.ms_logic.specs.declared.checked.ExportUse.{ExportUse}
use Rattle.ms_logic.specs.declared.checked.Placed.{Placed}
use Rattle.ms_logic_core.specs.declared.core_formula.Root as code
use Rattle.ms_logic.specs.Assignment.{Variable}
use Rattle.ms_logic_core.specs.Roots.{AreFreeVariables, Export, Root, exports_among, exports_in, first_free}
use Rattle.ms_logic_core.specs.Spread.{conjunction_of, own_names, restrictions_of, spread_each, spread_under}
use Rattle.ms_lower.specs.Calling.{calling}
use Rattle.ms_logic.specs.Tree as tree
use Rattle.ms_logic.specs.Tree.{Form, Forms, no_forms, more_forms, truth, falsity as false_form, truth_variable, negation, conjunction, disjunction, implication, equivalence, comparison, set_comparison, membership, emptiness, quantified, where_let, call, imported, exported, default_at}
use Rattle.ms_logic.specs.Truth.{Given}
use Rattle.ms_logic.specs.Verdict.{variables_of}
use Rattle.ms_logic.specs.View.{declared_in, formula_of, forms, globals_from, goals_in, problem_of, question_of, Answers}
use Rattle.ms_names_rules.specs.Numbers.{CountUp}
use Rattle.ms_lower.specs.declared.tables.Tables.{Tables}
use Rattle.ms_lower.specs.Callees.{IsTablesOf, callees_in}
use Rattle.ms_lower.specs.Lowered.{ExportsFit, ExportsFitEach, HasCallingRoots, IsCallingRootFor, IsRootOver, ListsVariables, export_root_over, main_root_over}
use Rattle.ms_lower.specs.NumberedRoots.{all_roots, export_roots, globals_over, goal_roots, main_over, renumbered_root, root_of, root_over, roots_among, roots_in, variables_of_export, with_orders}
use Rattle.ms_lower.proofs.Parts.{slice_get-behind, slice_get-front}
use Rattle.ms_lower.proofs.SourceTables.{callees_same, numbers_same}
use Rattle.ms_lower.specs.Numbering.{Numbering, renumbered}
use Rattle.ms_logic.proofs.Items.{contains_at}

-- each export has its root
Match : Given → List Export → List Root → Type 0
Match given [] [] = Unit {0}
Match given [] (r ∷ rs) = ⊥
Match given (e ∷ es) [] = ⊥
Match given (e ∷ es) (r ∷ rs) = ((vs : List Variable) × AreFreeVariables given e.formula vs × (r ≡ export_root_over (calling given) vs e.formula)) × Match given es rs

match-append : (given : Given) (es ds : List Export) (rs ss : List Root) → Match given es rs → Match given ds ss → Match given (es ++ ds) (rs ++ ss)
unfolding Match
match-append given [] ds [] ss one other = other
match-append given [] ds (r ∷ rs) ss one other = absurd one
match-append given (e ∷ es) ds [] ss one other = absurd one
match-append given (e ∷ es) ds (r ∷ rs) ss one other = (one.0, match-append given es ds rs ss one.1 other)

module _ (given : Given) (tables : Tables) (exports : List ExportUse) (same : callees_in tables ≡ calling given) where
  root_is : (f : Form) (vs : List Variable) → root_over tables f vs ≡ export_root_over (calling given) vs f
  root_is f vs = ap (λ c. let r : Root = record { variables = vs; formula = spread_under c f own_names (first_free vs) } in r) same

  mutual
    unfolding Match

    matched : (f : Form) (seen : List Variable) → ExportsFit given exports seen f → Match given (exports_in f) (roots_in tables exports seen f)
    matched truth seen fit = tt
    matched false_form seen fit = tt
    matched (truth_variable x) seen fit = tt
    matched (negation f) seen fit = matched f seen fit
    matched (conjunction fs) seen fit = all_matched fs seen fit
    matched (disjunction fs) seen fit = all_matched fs seen fit
    matched (implication f g) seen fit = match-append given (exports_in f) (exports_in g) (roots_in tables exports seen f) (roots_in tables exports seen g) (matched f seen fit.0) (matched g seen fit.1)
    matched (equivalence f g) seen fit = match-append given (exports_in f) (exports_in g) (roots_in tables exports seen f) (roots_in tables exports seen g) (matched f seen fit.0) (matched g seen fit.1)
    matched (comparison r t u) seen fit = tt
    matched (set_comparison r s t) seen fit = tt
    matched (membership positive t s) seen fit = tt
    matched (emptiness s) seen fit = tt
    matched (quantified q o x d f) seen fit = matched f (record { name = x; order = o } ∷ seen) fit
    matched (where_let xs sides f) seen fit = tt
    matched (call p as_given) seen fit = tt
    matched (tree.restrict f) seen fit = matched f seen fit
    matched (imported i) seen fit = tt
    matched (exported i f) seen fit =
        ((with_orders seen (variables_of_export (slice_get exports i)), fit.0, root_is f (with_orders seen (variables_of_export (slice_get exports i)))), matched f seen fit.1)
    matched (default_at p x) seen fit = tt

    all_matched : (fs : Forms) (seen : List Variable) → ExportsFitEach given exports seen fs → Match given (exports_among fs) (roots_among tables exports seen fs)
    all_matched no_forms seen fit = tt
    all_matched (more_forms f fs) seen fit = match-append given (exports_in f) (exports_among fs) (roots_in tables exports seen f) (roots_among tables exports seen fs) (matched f seen fit.0) (all_matched fs seen fit.1)

-- the root at a place
match_at : (given : Given) (es : List Export) (rs : List Root) (k : ℕ) (r : Root) → Match given es rs → slice_get rs k ≡ Some r →
    (e : Export) × (slice_get es k ≡ Some e) × ((vs : List Variable) × AreFreeVariables given e.formula vs × (r ≡ export_root_over (calling given) vs e.formula))
unfolding Match
match_at given [] [] k r found is = absurd (none-some r is)
match_at given [] (s ∷ rs) k r found is = absurd found
match_at given (e ∷ es) [] k r found is = absurd found
match_at given (e ∷ es) (s ∷ rs) zero r found is = (e, refl, (found.0.0, found.0.1, sym (same_Some s r is) ∙ found.0.2))
match_at given (e ∷ es) (s ∷ rs) (suc k) r found is = match_at given es rs k r found.1 is

match_length : (given : Given) (es : List Export) (rs : List Root) → Match given es rs → length rs ≡ length es
unfolding Match
match_length given [] [] found = refl
match_length given [] (s ∷ rs) found = absurd found
match_length given (e ∷ es) [] found = absurd found
match_length given (e ∷ es) (s ∷ rs) found = ap suc (match_length given es rs found.1)

-- numbers one after the other

counted_at : (n m : ℕ) (es : List Export) (k : ℕ) (e : Export) → CountUp n (map (λ d. d.number) es) m → slice_get es k ≡ Some e → e.number ≡ n + k
counted_at n m [] k e counted is = absurd (none-some e is)
counted_at n m (d ∷ es) zero e counted is = ap (λ x. x.number) (sym (same_Some d e is)) ∙ (counted.0 ∙ omega arith)
counted_at n m (d ∷ es) (suc k) e counted is = counted_at (n + 1) m es k e counted.1 is ∙ omega arith

counted_length : (n m : ℕ) (es : List Export) → CountUp n (map (λ d. d.number) es) m → n + length es ≡ m
counted_length n m [] counted = omega (arith, counted)
counted_length n m (d ∷ es) counted = let k = counted_length (n + 1) m es counted.1 in omega (arith, k)

-- an item of a list that was mapped
unmapped : {A B : Type 0} (f : A → B) (xs : List A) (k : ℕ) (y : B) → slice_get (map f xs) k ≡ Some y → (x : A) × (slice_get xs k ≡ Some x) × (f x ≡ y)
unmapped f [] k y is = absurd (none-some y is)
unmapped f (x ∷ xs) zero y is = (x, refl, same_Some (f x) y is)
unmapped f (x ∷ xs) (suc k) y is = unmapped f xs k y is

mapped : {A B : Type 0} (f : A → B) (xs : List A) (k : ℕ) (x : A) → slice_get xs k ≡ Some x → slice_get (map f xs) k ≡ Some (f x)
mapped f [] k x is = absurd (none-some x is)
mapped f (y ∷ xs) zero x is = ap (λ z. Some (f z)) (same_Some y x is)
mapped f (y ∷ xs) (suc k) x is = mapped f xs k x is

module _ (checked : Checked) (answers : Answers) (tables : Tables) (are : IsTablesOf checked tables) (same : length answers ≡ length checked.imports) (has : ListsVariables checked (problem_of checked answers)) where
  abbrev given : Given
  given = (problem_of checked answers).given

  callees : callees_in tables ≡ calling given
  callees = callees_same checked answers tables are same

  -- the main root of a question
  main_is : (asked : List Placed) → main_over tables checked.globals asked ≡ main_root_over (calling given) (question_of checked answers asked)
  main_is asked =
      let vs = variables_of (globals_from 0 checked.globals) in
      ap (λ c.
      let r : Root = record {
        variables = vs;
        formula =
            conjunction_of
            (restrictions_of c (globals_from 0 checked.globals) own_names (first_free vs) ++ spread_each c (forms (map (λ placed. formula_of placed.formula) asked)) own_names (first_free vs));
      } in r) callees

  -- the roots of the exports
  matching : Match given (exports_among (problem_of checked answers).formulas) (export_roots tables checked)
  matching = all_matched given tables checked.exports callees (problem_of checked answers).formulas (globals_over 0 [] checked.globals) has.fit

  exports_counted : length (export_roots tables checked) ≡ length checked.exports
  exports_counted =
      let found = match_length given (exports_among (problem_of checked answers).formulas) (export_roots tables checked) matching in
      let count = counted_length 0 (length checked.exports) (exports_among (problem_of checked answers).formulas) has.numbers in
      omega (arith, found, count)

  export_is : (i : ℕ) (r : Root) → slice_get (export_roots tables checked) i ≡ Some r → IsRootOver (calling given) (problem_of checked answers) (suc i) r
  export_is i r is =
      let exports = exports_among (problem_of checked answers).formulas in
      let there = match_at given exports (export_roots tables checked) i r matching is in
      let number : there.0.number ≡ i = counted_at 0 (length checked.exports) exports i there.0 has.numbers there.1 ∙ omega arith in (
        there.0.formula,
        there.2.0,
        subst (Contains exports) (ap (λ m. let e : Export = record { number = m; formula = there.0.formula } in e) number) (contains_at exports i there.0 there.1),
        there.2.1,
        there.2.2,
      )

  module _ (roots : List code.Root) (made : map root_of roots ≡ map (renumbered_root tables) (all_roots tables checked)) where
    -- a root of the answer, by what the root is that it is made of
    calling_root : (asked : List Placed) (i k : ℕ) (root : code.Root) → slice_get roots k ≡ Some root →
        ((own : Root) → slice_get (all_roots tables checked) k ≡ Some own → IsRootOver (calling given) (question_of checked answers asked) i own) → IsCallingRootFor checked (question_of checked answers asked) i root
    calling_root asked i k root is own_is =
        let there = unmapped (renumbered_root tables) (all_roots tables checked) k (root_of root) (ap (λ l. slice_get l k) (sym made) ∙ mapped root_of roots k root is) in
        let n = numbers_same checked answers tables are same there.0.variables in
        record {
          own = there.0;
          is_root = own_is there.0 there.1;
          variables = ap (λ (m : Numbering). map (λ (v : Variable). m.number v.order v.name) there.0.variables) (sym n) ∙ ap (λ r. r.variables) there.2;
          formula = ap (λ m. renumbered m there.0.formula) (sym n) ∙ ap (λ r. r.formula) there.2;
        }

    pub roots_for : HasCallingRoots checked answers roots
    roots_for =
        let exported = export_roots tables checked in
        let goals = goal_roots tables checked in
        record {
          count =
              let all = sym (length-map roots root_of) ∙ (ap length made ∙ length-map (all_roots tables checked) (renumbered_root tables)) in
              let both = length-append exported goals in
              let asked = length-map (goals_in checked) (λ goal. main_over tables checked.globals (goal ∷ [])) in
              omega (arith, all, both, asked, exports_counted);
          main = λ root is. calling_root (declared_in checked) 0 0 root is (λ own at. sym (same_Some (main_over tables checked.globals (declared_in checked)) own at) ∙ main_is (declared_in checked));
          exports = λ i root within is. calling_root checked.formulas (suc i) (suc i) root is (λ own at. export_is i own (sym (slice_get-front exported goals i (omega (arith, within, exports_counted))) ∙ at));
          goals = λ j goal root held is.
              calling_root (goal ∷ []) 0 (suc (length checked.exports + j)) root is (λ own at.
              let there = mapped (λ g. main_over tables checked.globals (g ∷ [])) (goals_in checked) j goal held in
              sym (same_Some (main_over tables checked.globals (goal ∷ [])) own (sym there ∙ (sym (slice_get-behind exported goals (length checked.exports + j) j (omega (arith, exports_counted))) ∙ at))) ∙ main_is (goal ∷ []));
        }
