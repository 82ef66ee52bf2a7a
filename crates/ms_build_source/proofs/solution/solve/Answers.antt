use Rattle.std.proofs.Common.{◌≡◌, ◌+◌, ap, sym, subst, map, List, length, ◌∙◌, arith}
use Rattle.ms_logic.specs.Assignment.{Variable}
use Rattle.ms_logic_words.specs.Content.{Content, variables_by_place}
use Rattle.ms_logic.specs.declared.checked.ExportUse.{ExportUse}
use Rattle.ms_logic.specs.declared.checked.Placed.{Placed}
use Rattle.ms_logic.specs.View.{goal_question, goals_in}
use Rattle.ms_logic_words.specs.declared.sign.Sign.{Sign}
use Rattle.ms_dag.specs.declared.dag.Dag.{Dag}
use Rattle.ms_build_source.specs.inner.Copies.{AreAskedCopies, HaveRoots}
use Rattle.ms_build_source.specs.Values.{HasMainValue}
use Rattle.ms_build_source.proofs.GoalRoots.{each_zipped}
use Rattle.ms_build_source.proofs.GlobalLemmas.{globals_by_place, globals_counted, orders_by_place}
use Rattle.ms_build_source.proofs.Solved.{all_within, answers_counted, are_nodes, are_own_answers, exports_asked, exports_before, few_nodes, few_roots, goals_within, have_roots, is_ready, nodes_lent, own_answers, spellable_asked, step_of_node, step_of_root, unsolved, value_of_main, values_of_goals}
use Rattle.ms_build_source.proofs.solution.solve.Goals as goal

pub build-requires-clause-nodes : goal.build-requires-clause-nodes
build-requires-clause-nodes c = are_nodes c.args.checked.now c.requires.numbered c.requires.exports c.args.imports.now c.requires.imports c.in_ok-graph.graph.dag c.in_ok-graph.ensures.graph

pub build-requires-clause-few : goal.build-requires-clause-few
build-requires-clause-few c = few_nodes c.args.checked.now c.requires.numbered c.requires.exports c.args.imports.now c.requires.imports c.in_ok-graph.graph.dag c.in_ok-graph.ensures.graph

pub build-requires-clause-imports : goal.build-requires-clause-imports
build-requires-clause-imports c = nodes_lent c.args.checked.now c.requires.numbered c.requires.exports c.args.imports.now c.requires.imports c.in_ok-graph.graph.dag c.in_ok-graph.ensures.graph

pub returns-in-Err-clause-refused : goal.returns-in-Err-clause-refused
returns-in-Err-clause-refused c =
    let checked = c.args.checked.now in
    let dag = c.in_ok-graph.graph.dag in
    unsolved checked dag c.in_ok-graph.ensures.graph c.args.imports.now c.args.limit c.in-Err.refusal
    (step_of_node c.args.imports.now checked.mode dag c.args.limit c.in-Err.refusal c.in-Err.ensures.refused)

pub roots-requires : goal.roots-requires
roots-requires c =
    few_roots c.args.checked.now c.requires.numbered c.requires.exports c.args.imports.now c.requires.imports c.in_ok-graph.graph.dag c.in_ok-graph.ensures.graph

pub root_automata-requires-clause-ready : goal.root_automata-requires-clause-ready
root_automata-requires-clause-ready c =
    let made = c.in-Ok-build.ensures in
    is_ready c.args.checked.now c.requires.numbered c.requires.exports c.args.imports.now c.requires.imports c.in_ok-graph.graph.dag c.in_ok-graph.ensures.graph
    c.args.limit c.requires.limit c.in-Ok-build.built made.built made.limit

pub root_automata-requires-clause-roots : goal.root_automata-requires-clause-roots
root_automata-requires-clause-roots c =
    let made = c.in-Ok-build.ensures in
    subst (HaveRoots c.in-Ok-build.built.plan 1) (sym c.slice-2.ensures)
    (have_roots c.args.checked.now c.requires.numbered c.requires.exports c.args.imports.now c.requires.imports c.in_ok-graph.graph.dag c.in_ok-graph.ensures.graph
    c.args.limit c.requires.limit c.in-Ok-build.built made.built made.limit)

pub root_automata-requires-clause-exports : goal.root_automata-requires-clause-exports
root_automata-requires-clause-exports c =
    let before =
    exports_before c.args.checked.now c.requires.numbered c.requires.exports c.args.imports.now c.requires.imports c.in_ok-graph.graph.dag c.in_ok-graph.ensures.graph in
    let uses = ap (λ (l : List ExportUse). length l) c.slice-2.ensures in
    omega (arith, before, uses, c.roots.ensures)

pub root_automata-requires-clause-count : goal.root_automata-requires-clause-count
root_automata-requires-clause-count c = c.roots.ensures ∙ ap (λ (d : Dag). length d.roots) (sym c.in-Ok-build.ensures.built.dag_is)

pub returns-in-Err-root_automata-clause-refused : goal.returns-in-Err-root_automata-clause-refused
returns-in-Err-root_automata-clause-refused c =
    let checked = c.args.checked.now in
    let dag = c.in_ok-graph.graph.dag in
    let made = c.in-Ok-build.ensures in
    let refused = c.in-Err-root_automata.ensures.refused in
    unsolved checked dag c.in_ok-graph.ensures.graph c.args.imports.now c.args.limit c.in-Err-root_automata.refusal
    (step_of_root c.args.imports.now checked.mode dag c.args.limit c.in-Ok-build.built refused.0 c.in-Err-root_automata.refusal made.built made.limit refused.1)

pub returns-clause-solution : goal.returns-clause-solution
returns-clause-solution c = λ answers are.
    let checked = c.args.checked.now in
    let imports = c.args.imports.now in
    let dag = c.in_ok-graph.graph.dag in
    let made = c.in_ok-graph.ensures in
    let long = answers_counted checked.mode checked.imports answers imports are in
    record {
      value =
          value_of_main checked answers imports c.requires.imports are c.requires.numbered c.requires.exports dag (made.graph answers long) c.in-Ok-build.built c.in-Ok-build.ensures.built
          c.in-Ok-root_automata.made.automaton c.in-Ok-root_automata.ensures.main;
      goals =
          values_of_goals checked answers imports c.requires.imports are c.requires.numbered c.requires.exports dag (made.graph answers long) c.in-Ok-build.built
          c.in-Ok-build.ensures.built c.args.limit c.slice-2.result.now c.slice-2.ensures c.in-Ok-root_automata.made.goals c.in-Ok-root_automata.ensures.goals;
      names_are = c.in-Ok.ensures ∙ ap (map (λ g. g.name)) c.slice.ensures;
      size = made.size answers;
      depth = made.depth answers;
    }

pub returns-clause-exports : goal.returns-clause-exports
returns-clause-exports c = λ answers are.
    let checked = c.args.checked.now in
    let imports = c.args.imports.now in
    let dag = c.in_ok-graph.graph.dag in
    let long = answers_counted checked.mode checked.imports answers imports are in
    exports_asked checked answers imports c.requires.imports are c.requires.numbered c.requires.exports dag (c.in_ok-graph.ensures.graph answers long) c.in-Ok-build.built c.in-Ok-build.ensures.built
    c.args.exports c.in-Ok-root_automata.made.copies
    (subst (λ uses. AreAskedCopies c.args.exports c.in-Ok-build.built.plan uses c.in-Ok-root_automata.made.copies) c.slice-2.ensures c.in-Ok-root_automata.ensures.copies)

pub returns-clause-spellable : goal.returns-clause-spellable
returns-clause-spellable c = spellable_asked c.args.exports c.in-Ok-build.built.plan c.slice-2.result.now c.in-Ok-root_automata.made.copies c.in-Ok-root_automata.ensures.copies

pub returns-clause-goals_fit : goal.returns-clause-goals_fit
returns-clause-goals_fit c =
    goals_within c.args.limit c.in-Ok-build.built.plan (length c.slice-2.result.now + 1) c.in-Ok-root_automata.made.goals c.in-Ok-root_automata.ensures.goals

pub returns-clause-named : goal.returns-clause-named
returns-clause-named c =
    let checked = c.args.checked.now in
    let globals = checked.globals in
    let imports = c.args.imports.now in
    let answers = own_answers imports in
    let are = are_own_answers checked.mode checked.imports imports c.requires.imports in
    let long = answers_counted checked.mode checked.imports answers imports are in
    let value =
    value_of_main checked answers imports c.requires.imports are c.requires.numbered c.requires.exports c.in_ok-graph.graph.dag (c.in_ok-graph.ensures.graph answers long) c.in-Ok-build.built
    c.in-Ok-build.ensures.built c.in-Ok-root_automata.made.automaton c.in-Ok-root_automata.ensures.main in
    let variables = value.variables in
    let goals =
    values_of_goals checked answers imports c.requires.imports are c.requires.numbered c.requires.exports c.in_ok-graph.graph.dag (c.in_ok-graph.ensures.graph answers long)
    c.in-Ok-build.built c.in-Ok-build.ensures.built c.args.limit c.slice-2.result.now c.slice-2.ensures c.in-Ok-root_automata.made.goals c.in-Ok-root_automata.ensures.goals in
    record {
      one_each = ap length c.in-Ok.ensures ∙ ap (λ gs. length (map (λ g. g.name) gs)) c.slice.ensures ∙ globals_counted 0 globals ∙ ap length (sym variables);
      goals =
          each_zipped (λ (goal : Placed) (content : Content Sign). HasMainValue (goal_question checked answers goal) content)
          (λ (content : Content Sign). content.variables ≡ c.in-Ok-root_automata.made.automaton.variables)
          (goals_in checked) c.in-Ok-root_automata.made.goals (λ goal content has. has.variables ∙ sym variables) goals;
      by_place = variables ∙ globals_by_place 0 globals ∙ ap variables_by_place (sym (orders_by_place 0 globals)) ∙ ap (λ (vs : List Variable). variables_by_place (map (λ v. v.order) vs)) (sym variables);
    }

pub returns-clause-within : goal.returns-clause-within
returns-clause-within c =
    let made = c.in_ok-graph.ensures in all_within c.args.checked.now c.in_ok-graph.graph.dag made.graph c.in_ok-graph.graph.size c.in_ok-graph.graph.depth made.size made.depth
