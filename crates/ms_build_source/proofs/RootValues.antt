-- The automata of the roots of a source have the values that these stand for.
use Rattle.std.proofs.Common.{◌≡◌, ℕ, zero, suc, ◌+◌, ◌<◌, ⊎_elim, List, [], ◌∷◌, length, map, slice_get, Some, refl, sym, ap, ap₂, subst, ◌∙◌}
use Rattle.std.proofs.lemmas.Option.{none-some, same_Some}
use Rattle.ms_build.specs.Built.{IsLeastOf, child_meaning, imports_of}
use Rattle.ms_build.specs.Roots.{named}
use Rattle.ms_build.proofs.LawLemmas.{child_has_value}
use Rattle.ms_build.proofs.MeaningLemmas.{HasValues-to}
use Rattle.ms_logic_core.specs.Calls.{Calls, filled}
use Rattle.ms_dag.specs.declared.dag.Dag.{Dag}
use Rattle.ms_dag.specs.declared.dag.SharedRoot.{SharedRoot}
use Rattle.ms_dag.specs.declared.node.Entry.{Entry}
use Rattle.ms_dag.specs.Laws.{HasOrder}
use Rattle.ms_dag.specs.Lowered.{IsLoweredRoot}
use Rattle.ms_dag.specs.Share.{AreRootsOf, IsRootOf}
use Rattle.ms_build_source.proofs.SharedRoots.{root_listed}
use Rattle.ms_logic.specs.declared.checked.Checked.{Checked}
use Rattle.ms_logic.specs.declared.checked.Placed.{Placed}
use Rattle.ms_logic_core.specs.declared.core_formula.Root as code
use Rattle.ms_logic.specs.declared.mode.Order.{Order}
use Rattle.ms_logic_words.specs.declared.sign.Sign.{Sign}
use Rattle.ms_logic_words.specs.declared.sign.Sign.TheVariants.{Yes, No, Undefined, Outside}
use Rattle.ms_logic.specs.Assignment.{Env, Variable, GivesEach, IsAssignment}
use Rattle.ms_logic_words.specs.Content.{Content}
use Rattle.ms_logic_core.specs.CoreForm.{CoreNo, CoreYes, core_form_of}
use Rattle.ms_logic_core.specs.Roots.{AreFreeVariables, Root}
use Rattle.ms_logic.specs.Lists.{AreRising, Each, IsAmong}
use Rattle.ms_logic_core.specs.SameUpToBound.{AnswerToEachOther, SameRoot}
use Rattle.ms_logic.specs.Tree.{Form}
use Rattle.ms_logic.specs.Truth as truth
use Rattle.ms_logic.specs.Verdict.{Problem, variables_of}
use Rattle.ms_logic.specs.View.{declared_in, goal_question, goals_in, main_question, problem_of, question_of, Answers}
use Rattle.ms_logic_words.specs.Word.{Encodes}
use Rattle.ms_dfa.proofs.OrdersLemmas.{orders_of, over-same}
use Rattle.ms_dfa.specs.Automaton.{IsAutomaton}
use Rattle.ms_lower.specs.Lowered.{IsRootFor}
use Rattle.ms_project.proofs.AlwaysLemmas.{sign_moves}
use Rattle.ms_names_rules.specs.Numbers.{IsWellNumbered}
use Rattle.ms_logic_spread.specs.RootLaws.{AreFormulasOf, IsExported, RootNo, RootYes}
use Rattle.ms_logic_spread.proofs.ExportsOnce.{exports_stand_once}
use Rattle.ms_logic_spread.proofs.Questions.{declared_asked, goal_asked, whole_asked}
use Rattle.ms_logic_spread.proofs.Roots.{roots_keep_values}
use Rattle.ms_logic_spread.proofs.SameRoots.{same_main_root_keeps_value, same_roots_have_one_value}
use Rattle.ms_dfa.specs.Values.{HasValues, core_meaning, main_meaning, meaning_by}
use Rattle.ms_build_source.specs.inner.Asked.{HasValueIn}
use Rattle.ms_build_source.specs.Graph.{IsGraphOf, calls_in}
use Rattle.ms_build_source.specs.Imported.{AreAnswersOf, AreLentFor}
use Rattle.ms_build_source.specs.Values.{HasMainValue, form_meaning}
use Rattle.ms_build_source.proofs.AgreeingImports.{IsIn, one_value}
use Rattle.ms_build_source.proofs.ImportAnswers.{answers_alike, orders_alike, variables_alike}
use Rattle.ms_build_source.specs.Moved.{HaveSameOrders, moved}
use Rattle.ms_build_source.proofs.MovedWords.{moved_encoding}
use Rattle.ms_build_source.proofs.SignOver.{sign-over}

-- the root with a number, beside that of the graph
pub root_beside : (calls : Calls) (orders : List Order) (entries : List Entry) (roots : List code.Root) (shared : List SharedRoot) → AreRootsOf calls orders entries roots shared → (k : ℕ) (s : SharedRoot) → slice_get shared k ≡ Some s
    → (root : code.Root) × (slice_get roots k ≡ Some root) × IsRootOf calls orders entries root s
root_beside calls orders entries [] [] are k s held = absurd (none-some s held)
root_beside calls orders entries [] (other ∷ more) are k s held = absurd are
root_beside calls orders entries (root ∷ roots) [] are k s held = absurd are
root_beside calls orders entries (root ∷ roots) (other ∷ more) are zero s held = (root, refl, subst (IsRootOf calls orders entries root) (same_Some other s held) are.0)
root_beside calls orders entries (root ∷ roots) (other ∷ more) are (suc k) s held = root_beside calls orders entries roots more are.1 k s held

pub roots_counted : (calls : Calls) (orders : List Order) (entries : List Entry) (roots : List code.Root) (shared : List SharedRoot) → AreRootsOf calls orders entries roots shared → length roots ≡ length shared
roots_counted calls orders entries [] [] are = refl
roots_counted calls orders entries [] (other ∷ more) are = absurd are
roots_counted calls orders entries (root ∷ roots) [] are = absurd are
roots_counted calls orders entries (root ∷ roots) (other ∷ more) are = ap suc (roots_counted calls orders entries roots more are.1)

each_at : {X : Type 0} (P : X → Type 0) (items : List X) → Each P items → (k : ℕ) (x : X) → slice_get items k ≡ Some x → P x
each_at P [] each k x held = absurd (none-some x held)
each_at P (y ∷ items) each zero x held = subst P (same_Some y x held) each.0
each_at P (y ∷ items) each (suc k) x held = each_at P items each.1 k x held

-- variables by their numbers, with their orders
named_again : (orders : List Order) (vs : List Variable) → Each (HasOrder orders) vs → named orders (map (λ v. v.name) vs) ≡ vs
named_again orders [] each = refl
named_again orders (v ∷ vs) each = ap₂ (λ (u : Variable) us. u ∷ us) (ap (λ o. record { name = v.name; order = o }) each.0) (named_again orders vs each.1)

-- each variable of an assignment has a value
value_among : (vs : List Variable) (e : Env) → GivesEach vs e → (v : Variable) → IsAmong vs v → HasValueIn e v
value_among [] e gives v among = absurd among
value_among (w ∷ vs) e gives v among = ⊎_elim (λ here. subst (HasValueIn e) here gives.0) (λ later. value_among vs e gives.1 v later) among

-- a sign that is right moves with the values
sign_across : (PY PN QY QN : Env → Type 0) (d e : Env) → (PY d → QY e) → (PN d → QN e) → (QY e → PY d) → (QN e → PN d) → (sign : Sign) → meaning_by PY PN d sign → meaning_by QY QN e sign
sign_across PY PN QY QN d e yes_to no_to yes_from no_from Yes is = yes_to is
sign_across PY PN QY QN d e yes_to no_to yes_from no_from No is = no_to is
sign_across PY PN QY QN d e yes_to no_to yes_from no_from Undefined is = ((λ holds. is.0 (yes_from holds)), (λ holds. is.1 (no_from holds)))
sign_across PY PN QY QN d e yes_to no_to yes_from no_from Outside is = is

-- variables that answer to each other have one order
pub answer_orders : (n : ℕ) (vs ws : List Variable) → AnswerToEachOther n vs ws → HaveSameOrders vs ws
answer_orders n [] [] answer = tt
answer_orders n [] (w ∷ ws) answer = absurd answer
answer_orders n (v ∷ vs) [] answer = absurd answer
answer_orders n (v ∷ vs) (w ∷ ws) answer = (answer.0, answer_orders n vs ws answer.2)

orders_back : (vs ws : List Variable) → HaveSameOrders vs ws → HaveSameOrders ws vs
orders_back [] [] same = tt
orders_back [] (w ∷ ws) same = absurd same
orders_back (v ∷ vs) [] same = absurd same
orders_back (v ∷ vs) (w ∷ ws) same = (sym same.0, orders_back vs ws same.1)

same_orders_of : (vs ws : List Variable) → HaveSameOrders vs ws → orders_of vs ≡ orders_of ws
same_orders_of [] [] same = refl
same_orders_of [] (w ∷ ws) same = absurd same
same_orders_of (v ∷ vs) [] same = absurd same
same_orders_of (v ∷ vs) (w ∷ ws) same = ap₂ (λ o os. o ∷ os) same.0 (same_orders_of vs ws same.1)

module _ (checked : Checked) (answers : Answers) (contents : List (Content Sign)) (lent : AreLentFor checked.mode checked.imports contents) (long : length answers ≡ length checked.imports)
    (are : AreAnswersOf checked.mode checked.imports answers contents) (well : IsWellNumbered checked) (dag : Dag) (graph : IsGraphOf checked answers dag) where
  abbrev problem : Problem
  problem = problem_of checked answers

  -- the root of the graph with a number, and what it is made of
  module _ (k : ℕ) (s : SharedRoot) (held : slice_get dag.roots k ≡ Some s) (content : Content Sign)
      (least : IsLeastOf checked.mode (named dag.orders s.variables) (child_meaning (imports_of contents) dag.entries s.child) content) where
    abbrev beside : (root : code.Root) × (slice_get graph.lowered.roots k ≡ Some root) × IsRootOf (calls_in checked answers) graph.lowered.orders dag.entries root s
    beside = root_beside (calls_in checked answers) graph.lowered.orders dag.entries graph.lowered.roots dag.roots graph.is_dag.roots k s held

    -- it is a root of a question
    module _ (asked : List Placed) (among : AreFormulasOf checked asked) (i : ℕ) (root : IsRootFor checked (question_of checked answers asked) i beside.0) where
      over : content.variables ≡ root.made.variables
      over =
          least.variables_are ∙ ap (λ orders. named orders s.variables) graph.is_dag.orders_are
          ∙ ap (named graph.lowered.orders) (beside.2.variables ∙ sym root.variables)
          ∙ named_again graph.lowered.orders root.made.variables (root_listed checked graph.lowered.orders graph.orders answers well asked among i beside.0 root)

      core_values : HasValues (core_meaning problem.given.imports root.made.formula) content
      core_values = HasValues-to (child_meaning (imports_of contents) dag.entries s.child) (core_meaning problem.given.imports root.made.formula) content
          (λ word e sign assigned encodes means.
          let first = problem.given.imports in
          let second = imports_of contents in
          let f = filled (calls_in checked answers) (core_form_of (beside.0).core) in
          let of_lowered = each_at (IsLoweredRoot first (calls_in checked answers) graph.lowered.orders) graph.lowered.roots graph.is_lowered.roots k beside.0 beside.1 in
          let have = orders_alike graph.lowered.orders first second (variables_alike checked.mode checked.imports answers contents lent long) f of_lowered.orders_of_all in
          let core = (child_has_value second dag.entries graph.lowered.orders f s.child e sign have beside.2.unfolds).0 means in
          let made = subst (λ g. core_meaning second g e sign) (sym root.formula) core in
          let here : IsAssignment checked.mode root.made.variables e = subst (λ vs. IsAssignment checked.mode vs e) over (subst (λ mode. IsAssignment mode content.variables e) least.mode_is assigned) in
          let inside : IsIn checked.mode root.made.variables e = record { universe = here.universe; values = value_among root.made.variables e here.values } in
          let one = one_value checked.mode first second (answers_alike checked.mode checked.imports answers contents lent are) root.made.formula root.made.variables e root.stands inside in
          sign_moves (CoreYes second root.made.formula) (CoreNo second root.made.formula) (CoreYes first root.made.formula) (CoreNo first root.made.formula) e one.0.1 one.1.1 one.0.0 one.1.0 sign made)
          least.values

    -- the automaton of the main root of a question has its value
    question_value_of : (asked : List Placed) → AreFormulasOf checked asked → IsRootFor checked (question_of checked answers asked) 0 beside.0
        → HasMainValue (question_of checked answers asked) content
    question_value_of asked among r =
        let question = question_of checked answers asked in
        let same = subst (λ main. SameRoot problem.given.imports (length checked.globals) main r.made) r.is_root r.same in
        let keeps = same_main_root_keeps_value checked answers asked r.made well among same in
        let variables : content.variables ≡ variables_of problem.globals = over asked among 0 r ∙ keeps.0 in
        record {
          mode = least.mode_is;
          variables = variables;
          values = HasValues-to (core_meaning problem.given.imports r.made.formula) (main_meaning question) content
              (λ word e sign assigned encodes means.
              let here = subst (λ vs. IsAssignment checked.mode vs e) (variables ∙ sym keeps.0) (subst (λ mode. IsAssignment mode content.variables e) least.mode_is assigned) in
              let value = keeps.1 e here in
              sign_moves (CoreYes problem.given.imports r.made.formula) (CoreNo problem.given.imports r.made.formula) (RootYes question 0) (RootNo question 0) e
              value.0.1 value.1.1 value.0.0 value.1.0 sign means)
              (core_values asked among 0 r);
        }

  -- so does that of the main root of the source, and that of the root of a goal

  pub main_value_of : (s : SharedRoot) → slice_get dag.roots 0 ≡ Some s → (content : Content Sign)
      → IsLeastOf checked.mode (named dag.orders s.variables) (child_meaning (imports_of contents) dag.entries s.child) content
      → HasMainValue (main_question checked answers) content
  main_value_of s held content least =
      let root = beside 0 s held content least in question_value_of 0 s held content least (declared_in checked) (declared_asked checked) (graph.roots.main root.0 root.1)

  pub goal_value_of : (j : ℕ) (goal : Placed) → slice_get (goals_in checked) j ≡ Some goal
      → (s : SharedRoot) → slice_get dag.roots (suc (length checked.exports + j)) ≡ Some s → (content : Content Sign)
      → IsLeastOf checked.mode (named dag.orders s.variables) (child_meaning (imports_of contents) dag.entries s.child) content
      → HasMainValue (goal_question checked answers goal) content
  goal_value_of j goal there s held content least =
      let root = beside (suc (length checked.exports + j)) s held content least in
      question_value_of (suc (length checked.exports + j)) s held content least (goal ∷ []) (goal_asked checked j goal there) (graph.roots.goals j goal root.0 there root.1)

  -- and that of the root of an export the value of what is exported
  module _ (i : ℕ) (less : i < length checked.exports) (s : SharedRoot) (held : slice_get dag.roots (suc i) ≡ Some s) (content : Content Sign)
      (least : IsLeastOf checked.mode (named dag.orders s.variables) (child_meaning (imports_of contents) dag.entries s.child) content) where
    abbrev r : IsRootFor checked problem (suc i) (beside (suc i) s held content least).0
    r = let root = beside (suc i) s held content least in graph.roots.exports i root.0 less root.1

    abbrev pub own : List Variable
    own = r.own.variables

    abbrev pub formula : Form
    formula = r.is_root.0

    pub exported : IsExported problem i formula
    exported = r.is_root.2

    over_made : content.variables ≡ r.made.variables
    over_made = over (suc i) s held content least checked.formulas (whole_asked checked) (suc i) r

    same_orders : HaveSameOrders own r.made.variables
    same_orders = answer_orders (length checked.globals) own r.made.variables r.same.variables

    pub own_orders : orders_of own ≡ orders_of content.variables
    own_orders = same_orders_of own r.made.variables same_orders ∙ ap orders_of (sym over_made)

    -- the root's value at an assignment of the export's variables
    export_right : (e : Env) (sign : Sign) → IsAssignment checked.mode own e → core_meaning problem.given.imports r.made.formula (moved own r.made.variables e) sign → form_meaning problem.given formula e sign
    export_right e sign assigned means =
        let imports = problem.given.imports in
        let there = ((same_roots_have_one_value imports (length checked.globals) checked.mode r.own r.made e r.same).0 assigned).1 in
        let kept = roots_keep_values checked answers (suc i) r.own well r.is_root e assigned in
        let yes_to : CoreYes imports r.made.formula (moved own r.made.variables e) → truth.Yes problem.given formula e =
        λ h. let found = kept.0.1 (there.0.1 h) in subst (λ f. truth.Yes problem.given f e) (exports_stand_once checked answers i found.0 formula well found.1 exported) found.2 in
        let no_to : CoreNo imports r.made.formula (moved own r.made.variables e) → truth.No problem.given formula e =
        λ h. let found = kept.1.1 (there.1.1 h) in subst (λ f. truth.No problem.given f e) (exports_stand_once checked answers i found.0 formula well found.1 exported) found.2 in
        let yes_from : truth.Yes problem.given formula e → CoreYes imports r.made.formula (moved own r.made.variables e) = λ h. there.0.0 (kept.0.0 (formula, exported, h)) in
        let no_from : truth.No problem.given formula e → CoreNo imports r.made.formula (moved own r.made.variables e) = λ h. there.1.0 (kept.1.0 (formula, exported, h)) in
        sign_across (CoreYes imports r.made.formula) (CoreNo imports r.made.formula) (truth.Yes problem.given formula) (truth.No problem.given formula) (moved own r.made.variables e) e yes_to no_to yes_from no_from
        sign means

    own_listed : own ≡ r.is_root.1
    own_listed = ap (λ (root : Root). root.variables) r.is_root.4

    pub export_free : AreFreeVariables problem.given formula own
    export_free = subst (AreFreeVariables problem.given formula) (sym own_listed) r.is_root.3

    -- so over the export's variables the automaton has the value of what is exported
    pub export_values : IsAutomaton content → HasValues (form_meaning problem.given formula) (record content { variables = own })
    export_values automaton =
        let values = core_values (suc i) s held content least checked.formulas (whole_asked checked) (suc i) r in
        let globals = length checked.globals in
        let imports = problem.given.imports in
        let made = r.made.variables in
        let rising : AreRising made = subst AreRising over_made automaton.rising in
        let orders = own_orders in
        record {
          right = λ word e assigned encodes.
              let here : IsAssignment checked.mode own e = subst (λ mode. IsAssignment mode own e) least.mode_is assigned in
              let d = moved own made e in
              let there : IsAssignment checked.mode made d = ((same_roots_have_one_value imports globals checked.mode r.own r.made e r.same).0 here).0 in
              let code = moved_encoding own made e word same_orders rising here.values encodes in
              let found = values.right word d (subst (λ mode. IsAssignment mode content.variables d) (sym least.mode_is) (subst (λ vs. IsAssignment checked.mode vs d) (sym over_made) there)) (subst (λ vs. Encodes vs word d) (sym over_made) code) in
              (found.0, sign-over content own orders word ∙ found.1, export_right e found.0 here found.2);
          outside = λ word over_own out.
              sign-over content own orders word
              ∙ values.outside word (over-same own content.variables orders word over_own)
              (λ encoding.
              let d = encoding.0 in
              let there : IsAssignment checked.mode made d = subst (λ vs. IsAssignment checked.mode vs d) over_made (subst (λ mode. IsAssignment mode content.variables d) least.mode_is encoding.1) in
              let back : IsAssignment checked.mode own (moved made own d) = ((same_roots_have_one_value imports globals checked.mode r.own r.made d r.same).1 there).0 in
              let code = moved_encoding made own d word (orders_back own made same_orders) export_free.rising there.values (subst (λ vs. Encodes vs word d) over_made encoding.2) in
              out (moved made own d, subst (λ mode. IsAssignment mode own (moved made own d)) (sym least.mode_is) back, code));
        }
