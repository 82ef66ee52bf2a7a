use Rattle.std.proofs.Common.{◌≡◌, length, Some, ap, sym, subst, ◌∙◌}
use Rattle.std.proofs.lemmas.Option.{slice_get-get_or}
use Rattle.std.specs.List.Sorted.{IsStrictlyIncreasing}
use Rattle.ms_basic.specs.Operands.{HaveOneOrder}
use Rattle.ms_dfa_explore.specs.Tracks.{distinct}
use Rattle.ms_rename.specs.Renamed.{renamed}
use Rattle.ms_build.specs.Built.{entries_of, imports_for, roots_of}
use Rattle.ms_build.proofs.ChildLemmas.{as_long, brought_by, one_order, only_by, variables_of_child, within_parts}
use Rattle.ms_build.proofs.children.brought.Goals as goal

pub rename-requires-clause-long : goal.rename-requires-clause-long
rename-requires-clause-long c =
    let read = c.requires.read in
    let content = c.index-built-child.result in
    let variables = variables_of_child c.args.plan.now.limit (imports_for c.args.plan.now) c.args.plan.now.mode (entries_of c.args.plan.now) (roots_of c.args.plan.now) c.args.built.now c.requires.built c.args.child.now c.index-built-child.result (slice_get-get_or c.args.built.now c.args.child.now.node c.index-built-child.result c.requires.there.0 ∙ ap Some (sym c.index-built-child.is)) c.requires.there.1 c.states.ensures.automaton read.0 read.1 in
    ap length c.slice.ensures ∙ as_long read.0 c.args.child.now.map read.1.0.orders read.1.2 content variables

pub rename-requires-clause-orders : goal.rename-requires-clause-orders
rename-requires-clause-orders c =
    let read = c.requires.read in
    let content = c.index-built-child.result in
    let variables = variables_of_child c.args.plan.now.limit (imports_for c.args.plan.now) c.args.plan.now.mode (entries_of c.args.plan.now) (roots_of c.args.plan.now) c.args.built.now c.requires.built c.args.child.now c.index-built-child.result (slice_get-get_or c.args.built.now c.args.child.now.node c.index-built-child.result c.requires.there.0 ∙ ap Some (sym c.index-built-child.is)) c.requires.there.1 c.states.ensures.automaton read.0 read.1 in
    subst (λ map. HaveOneOrder (renamed map content.variables)) (sym c.slice.ensures) (one_order read.0 c.args.child.now.map read.1.0.orders read.1.2 content variables)

pub returns-in-Ok-clause-part : goal.returns-in-Ok-clause-part
returns-in-Ok-clause-part c =
    brought_by c.args.plan.now.limit (imports_for c.args.plan.now) c.args.plan.now.mode (entries_of c.args.plan.now) (roots_of c.args.plan.now) c.args.built.now c.requires.built c.args.child.now c.index-built-child.result (slice_get-get_or c.args.built.now c.args.child.now.node c.index-built-child.result c.requires.there.0 ∙ ap Some (sym c.index-built-child.is)) c.requires.there.1 c.states.ensures.automaton
    c.slice.result.now c.slice.ensures c.in-Ok.made c.in-Ok.ensures.mode c.in-Ok.ensures.variables c.in-Ok.ensures.values

pub returns-in-Ok-clause-only : goal.returns-in-Ok-clause-only
returns-in-Ok-clause-only c = only_by c.args.child.now.map c.slice.result.now c.slice.ensures c.index-built-child.result.variables c.in-Ok.made c.in-Ok.ensures.variables

pub returns-in-Ok-clause-operand : goal.returns-in-Ok-clause-operand
returns-in-Ok-clause-operand c = record {
  automaton = c.states-in-Ok.ensures.automaton;
  least = c.index-built-child.result;
  is_least = c.requires.built c.args.child.now.node c.index-built-child.result (slice_get-get_or c.args.built.now c.args.child.now.node c.index-built-child.result c.requires.there.0 ∙ ap Some (sym c.index-built-child.is)) c.requires.there.1;
  parts = c.in-Ok.ensures.same (subst IsStrictlyIncreasing (sym c.slice.ensures) c.requires.rising);
  variables = subst (λ map. c.in-Ok.made.variables ≡ distinct (renamed map c.index-built-child.result.variables)) c.slice.ensures c.in-Ok.ensures.variables;
  brought = returns-in-Ok-clause-part c;
}

pub returns-in-Ok-clause-within : goal.returns-in-Ok-clause-within
returns-in-Ok-clause-within c =
    let is = c.requires.built c.args.child.now.node c.index-built-child.result (slice_get-get_or c.args.built.now c.args.child.now.node c.index-built-child.result c.requires.there.0 ∙ ap Some (sym c.index-built-child.is)) c.requires.there.1 in
    within_parts c.args.plan.now.limit c.index-built-child.result c.in-Ok.made (c.in-Ok.ensures.same (subst IsStrictlyIncreasing (sym c.slice.ensures) c.requires.rising)) is.3

pub returns-in-Ok-clause-least : goal.returns-in-Ok-clause-least
returns-in-Ok-clause-least c =
    let is = c.requires.built c.args.child.now.node c.index-built-child.result (slice_get-get_or c.args.built.now c.args.child.now.node c.index-built-child.result c.requires.there.0 ∙ ap Some (sym c.index-built-child.is)) c.requires.there.1 in
    c.in-Ok.ensures.least (subst IsStrictlyIncreasing (sym c.slice.ensures) c.requires.rising) (record { fewest = is.2.fewest; reached = is.2.reached; differ = is.2.differ })
