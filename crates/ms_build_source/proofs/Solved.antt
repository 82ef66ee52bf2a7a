-- What the graph of a source gives where it is built for lent automata.
use Rattle.std.proofs.Common.{◌≡◌, ◌⊎◌, inl, inr, ℕ, suc, ◌+◌, Option, Some, None, ◌<◌, ◌≤◌, List, [], ◌∷◌, length, map, refl, sym, ap, subst, ◌∙◌, arith}
use Rattle.std.proofs.lemmas.List.{length-map}
use Rattle.std.specs.List.{AllZip}
use Rattle.ms_build.specs.declared.built.Built.{Built}
use Rattle.ms_build.specs.Built.{AreImportsOf, IsBuiltOver, IsLimit, IsWithin}
use Rattle.ms_build.specs.Short.{IsPlanOf, IsStepRefused, IsUnbuilt, NodeLacks, RootLacks}
use Rattle.ms_build.specs.declared.plan.Plan.{Plan}
use Rattle.ms_build.specs.Roots.{AreRootsRead, IsRootAt}
use Rattle.ms_build.proofs.RootLemmas.{roots_read}
use Rattle.ms_names_checked.specs.Exports.{ListsFreeVariables}
use Rattle.ms_dag.specs.declared.dag.Dag.{Dag}
use Rattle.ms_dag.specs.declared.dag.SharedRoot.{SharedRoot}
use Rattle.ms_dag.specs.Dag.{AreNodes}
use Rattle.ms_dag.proofs.ImportLemmas.{nodes_import_as_roots_do}
use Rattle.ms_dfa.specs.declared.plain.FileVersion.{FileVersion}
use Rattle.ms_dfa.specs.declared.plain.Plain.{Plain}
use Rattle.ms_edge.specs.declared.refusal.Refusal.{Refusal}
use Rattle.ms_edge.specs.declared.refusal.Refusal.TheVariants.{Memory, Nodes}
use Rattle.ms_build_source.proofs.ImportsOfExports.{all_roots_import}
use Rattle.ms_logic.specs.declared.checked.Checked.{Checked}
use Rattle.ms_logic.specs.declared.checked.ExportUse.{ExportUse}
use Rattle.ms_logic.specs.declared.checked.Placed.{Placed}
use Rattle.ms_logic.specs.declared.checked.ImportUse.{ImportUse}
use Rattle.ms_logic.specs.declared.mode.Mode.{Mode}
use Rattle.ms_logic_words.specs.declared.sign.Sign.{Sign}
use Rattle.ms_logic_words.specs.Content.{Content, answer_of}
use Rattle.ms_logic_words.specs.Signs.{answer_for}
use Rattle.ms_logic_core.specs.Size.{depth_of_source, size_of_source}
use Rattle.ms_logic.specs.View.{goal_question, goals_in, main_question, problem_of, Answers}
use Rattle.ms_logic.specs.Lists.{Each}
use Rattle.ms_names_rules.specs.Numbers.{IsWellNumbered}
use Rattle.ms_build_source.specs.CallsOfSources.{silent_answers}
use Rattle.ms_build_source.proofs.CallLemmas.{silent_counted}
use Rattle.ms_build_source.specs.inner.Copies.{AreAskedCopies, AreRootsFrom, HaveRoots, IsReady, IsRootRefused}
use Rattle.ms_build_source.specs.Graph.{IsGraphOf, calls_in}
use Rattle.ms_build_source.specs.Imported.{AreAnswersOf, AreLentFor}
use Rattle.ms_build_source.specs.Limits.{IsUnsolved, IsWithinLimits, lacks_nodes}
use Rattle.ms_build_source.specs.Solution.{HasExports, IsSpellable}
use Rattle.ms_build_source.specs.Values.{HasMainValue}
use Rattle.ms_build_source.proofs.ExportFiles.{all_exports, all_spellable, goal_root_value, main_root_value}
use Rattle.ms_build_source.proofs.GoalRoots.{zip_by}
use Rattle.ms_build_source.proofs.Graphs.{graph_within}
use Rattle.ms_build_source.proofs.ImportAnswers.{lent_to_nodes}
use Rattle.ms_build_source.proofs.RootNames.{all_have_roots, count_of_roots}
use Rattle.ms_build_source.proofs.Shared.{each_by}

-- there are as many answers as imports
pub answers_counted : (mode : Mode) (uses : List ImportUse) (answers : Answers) (contents : List (Content Sign)) → AreAnswersOf mode uses answers contents → length answers ≡ length uses
answers_counted mode [] [] [] are = refl
answers_counted mode [] [] (content ∷ contents) are = absurd are
answers_counted mode [] (answer ∷ answers) contents are = absurd are
answers_counted mode (used ∷ uses) [] contents are = absurd are
answers_counted mode (used ∷ uses) (answer ∷ answers) [] are = absurd are
answers_counted mode (used ∷ uses) (answer ∷ answers) (content ∷ contents) are = ap suc (answers_counted mode uses answers contents are.1)

-- automata give answers of their own
abbrev pub own_answers : List (Content Sign) → Answers
own_answers contents = map (λ content. answer_of answer_for content) contents

pub are_own_answers : (mode : Mode) (uses : List ImportUse) (contents : List (Content Sign)) → AreLentFor mode uses contents → AreAnswersOf mode uses (own_answers contents) contents
are_own_answers mode [] [] lent = tt
are_own_answers mode [] (content ∷ contents) lent = absurd lent
are_own_answers mode (used ∷ uses) [] lent = absurd lent
are_own_answers mode (used ∷ uses) (content ∷ contents) lent = (λ universe values is are. refl, are_own_answers mode uses contents lent.1)

-- memory was refused, or a step of a graph lacks nodes
abbrev pub Lacks : List (Content Sign) → Mode → Dag → ℕ → Refusal → Type 0
Lacks contents mode dag limit refusal =
    (refusal ≡ Memory)
    ⊎ ((step : ℕ) × (refusal ≡ Nodes step limit)
    × ((plan : Plan) × IsPlanOf contents mode dag limit plan × (NodeLacks plan step ⊎ ((root : ℕ) × (step ≡ length dag.entries + root) × RootLacks plan root))))

-- work on a node is a step
node_refused : (contents : List (Content Sign)) (mode : Mode) (dag : Dag) (limit : ℕ) (plan : Plan) (refusal : Refusal) → IsPlanOf contents mode dag limit plan → IsStepRefused plan refusal
    → Lacks contents mode dag limit refusal
node_refused contents mode dag limit plan (Nodes step named) is refused = inr (step, ap (Nodes step) (refused.0 ∙ is.limit_is), (plan, is, inl refused.1))
node_refused contents mode dag limit plan Memory is refused = inl refl
node_refused contents mode dag limit plan refusal is refused = absurd refused

pub step_of_node : (contents : List (Content Sign)) (mode : Mode) (dag : Dag) (limit : ℕ) (refusal : Refusal) → IsUnbuilt contents mode dag limit refusal → Lacks contents mode dag limit refusal
step_of_node contents mode dag limit refusal (plan, is, refused) = node_refused contents mode dag limit plan refusal is refused

module _ (checked : Checked) (well : IsWellNumbered checked) (exports : ListsFreeVariables checked) (contents : List (Content Sign)) (lent : AreLentFor checked.mode checked.imports contents) (dag : Dag)
    (graphs : (answers : Answers) → length answers ≡ length checked.imports → IsGraphOf checked answers dag) where
  abbrev answers : Answers
  answers = silent_answers checked

  abbrev long : length answers ≡ length checked.imports
  long = silent_counted checked

  abbrev graph : IsGraphOf checked answers dag
  graph = graphs answers long

  pub are_nodes : AreNodes dag.entries
  are_nodes = graph.is_dag.graph.nodes

  pub few_nodes : length dag.entries ≤ 4294967295
  few_nodes = let small = graph.is_dag.graph.small in omega (arith, small)

  pub few_roots : length dag.roots ≤ 4294967295
  few_roots = let small = graph.is_dag.graph.small in let roots = length-map dag.roots (λ (root : SharedRoot). root.child) in omega (arith, small, roots)

  pub exports_before : length checked.exports < length dag.roots
  exports_before = let count = count_of_roots checked answers long well exports dag graph in omega (arith, count)

  pub nodes_lent : AreImportsOf contents checked.mode dag.entries
  nodes_lent =
      lent_to_nodes checked answers contents (calls_in checked answers) graph.lowered dag long lent graph.is_lowered graph.is_dag
      (nodes_import_as_roots_do (calls_in checked answers) graph.lowered dag (length checked.imports) graph.is_dag (all_roots_import checked answers graph.lowered well graph.roots))

  module _ (limit : ℕ) (is_limit : IsLimit limit) (built : Built) (over : IsBuiltOver contents checked.mode dag built) (limited : built.plan.limit ≡ limit) where
    pub is_ready : IsReady limit built
    is_ready = record {
      limit_is = limited;
      is_limit = is_limit;
      built_for = over.each;
      all = over.all ∙ ap (λ (d : Dag). length d.entries) (sym over.dag_is);
      few =
          let small = graph.is_dag.graph.small in
          let roots = length-map dag.roots (λ (root : SharedRoot). root.child) in
          subst (λ (d : Dag). length d.entries + length d.roots ≤ 4294967295) (sym over.dag_is) (omega (arith, small, roots));
      read = subst AreRootsRead (sym over.dag_is) (roots_read (problem_of checked answers).given.imports (calls_in checked answers) graph.lowered dag graph.is_lowered graph.is_dag);
    }

    pub have_roots : HaveRoots built.plan 1 checked.exports
    have_roots = all_have_roots checked answers long well exports dag graph contents checked.mode built over

module _ (checked : Checked) (answers : Answers) (contents : List (Content Sign)) (lent : AreLentFor checked.mode checked.imports contents) (are : AreAnswersOf checked.mode checked.imports answers contents)
    (well : IsWellNumbered checked) (exports : ListsFreeVariables checked) (dag : Dag) (graph : IsGraphOf checked answers dag) (built : Built) (over : IsBuiltOver contents checked.mode dag built) where
  abbrev counted : length answers ≡ length checked.imports
  counted = answers_counted checked.mode checked.imports answers contents are

  pub value_of_main : (content : Content Sign) → IsRootAt built.plan 0 content → HasMainValue (main_question checked answers) content
  value_of_main = main_root_value checked answers contents lent counted are well exports dag graph built over

  pub values_of_goals : (limit : ℕ) (uses : List ExportUse) → uses ≡ checked.exports → (goals : List (Content Sign)) → AreRootsFrom limit built.plan (length uses + 1) goals
      → AllZip (λ (goal : Placed) (content : Content Sign). HasMainValue (goal_question checked answers goal) content) (goals_in checked) goals
  values_of_goals limit uses same goals roots =
      let count = count_of_roots checked answers counted well exports dag graph in
      let all = roots.all ∙ ap (λ (d : Dag). length d.roots) over.dag_is in
      let long = ap (λ (l : List ExportUse). length l) same in
      zip_by (λ (goal : Placed) (content : Content Sign). HasMainValue (goal_question checked answers goal) content) (goals_in checked) goals (omega (arith, count, all, long))
      (λ j goal content held there.
      let place : length uses + 1 + j ≡ suc (length checked.exports + j) = omega (arith, long) in
      goal_root_value checked answers contents lent counted are well exports dag graph built over j goal held content
      (subst (λ r. IsRootAt built.plan r content) place (roots.each j content there).0))

  pub exports_asked : (asked : Option FileVersion) (plains : List Plain) → AreAskedCopies asked built.plan checked.exports plains → HasExports asked (problem_of checked answers) checked.exports plains
  exports_asked None plains copies = copies
  exports_asked (Some version) plains copies = all_exports checked answers contents lent counted are well exports dag graph built over version plains copies

pub goals_within : (limit : ℕ) (plan : Plan) (first : ℕ) (goals : List (Content Sign)) → AreRootsFrom limit plan first goals → Each (IsWithin limit) goals
goals_within limit plan first goals roots = each_by (IsWithin limit) goals (λ k content held. (roots.each k content held).1)

pub spellable_asked : (asked : Option FileVersion) (plan : Plan) (uses : List ExportUse) (plains : List Plain) → AreAskedCopies asked plan uses plains → Each IsSpellable plains
spellable_asked None plan uses plains none = subst (Each IsSpellable) (sym none) tt
spellable_asked (Some version) plan uses plains copies = all_spellable version plan 1 uses plains copies

-- what is built is built by the plan
built_by_plan : (contents : List (Content Sign)) (mode : Mode) (dag : Dag) (limit : ℕ) (built : Built) → IsBuiltOver contents mode dag built → built.plan.limit ≡ limit → IsPlanOf contents mode dag limit built.plan
built_by_plan contents mode dag limit built over limited = record { imports_are = over.imports_are; mode_is = over.mode_is; dag_is = over.dag_is; limit_is = limited }

-- work on a root is a step
pub step_of_root : (contents : List (Content Sign)) (mode : Mode) (dag : Dag) (limit : ℕ) (built : Built) (root : ℕ) (refusal : Refusal) → IsBuiltOver contents mode dag built → built.plan.limit ≡ limit
    → IsRootRefused built root limit refusal → Lacks contents mode dag limit refusal
step_of_root contents mode dag limit built root refusal over limited (inl memory) = inl memory
step_of_root contents mode dag limit built root refusal over limited (inr (is, lacks)) =
    inr (length built.automata + root, is, (built.plan, built_by_plan contents mode dag limit built over limited, inr (root, ap (λ n. n + root) over.all, lacks)))

-- after the graph was made, what is refused is a step that lacks nodes
pub unsolved : (checked : Checked) (dag : Dag) → ((answers : Answers) → length answers ≡ length checked.imports → IsGraphOf checked answers dag) → (contents : List (Content Sign)) (limit : ℕ) (refusal : Refusal)
    → Lacks contents checked.mode dag limit refusal → (answers : Answers) → length answers ≡ length checked.imports → (refusal ≡ Memory) ⊎ IsUnsolved checked answers contents limit refusal
unsolved checked dag graphs contents limit refusal (inl memory) answers long = inl memory
unsolved checked dag graphs contents limit refusal (inr (step, is, (plan, is_plan, lacks))) answers long =
    inr (lacks_nodes (graph_within checked answers dag (graphs answers long)) step (record { dag = dag; is_graph = graphs answers long; plan = plan; is_plan = is_plan; lacks = lacks }) is)

-- the size and the depth of a source are within the limits, whatever its imports answer
pub all_within : (checked : Checked) (dag : Dag) → ((answers : Answers) → length answers ≡ length checked.imports → IsGraphOf checked answers dag) → (size depth : ℕ)
    → ((answers : Answers) → size ≡ size_of_source (problem_of checked answers)) → ((answers : Answers) → depth ≡ depth_of_source (problem_of checked answers))
    → (answers : Answers) → IsWithinLimits (problem_of checked answers)
all_within checked dag graphs size depth size_is depth_is answers =
    let within = graph_within checked (silent_answers checked) dag (graphs (silent_answers checked) (silent_counted checked)) in
    let small = within.size in
    let flat = within.depth in
    let size_here = size_is answers in
    let size_there = size_is (silent_answers checked) in
    let depth_here = depth_is answers in
    let depth_there = depth_is (silent_answers checked) in
    record { depth = omega (arith, flat, depth_here, depth_there); size = omega (arith, small, size_here, size_there) }
