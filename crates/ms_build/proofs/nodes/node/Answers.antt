use Rattle.std.proofs.Common.{IfOk, sym, ◌≡◌, ◌<◌, ◌+◌, inl, inr, length, slice_get, Some, refl, subst, rules}
use Rattle.ms_dag.specs.Dag.{HasOwnOrders}
use Rattle.ms_dag.specs.declared.node.DagNode.TheVariants.{Basic, Import}
use Rattle.ms_build.specs.Built.{IsImportOf, IsPart, entries_of, import_meaning, imports_for}
use Rattle.ms_build.proofs.FormLemmas.{IsOver-node, built_as_made, node_by, operands_one_order, too_small}
use Rattle.ms_build.specs.Short.{FormLacks, ImportLacks, NodeLacks}
use Rattle.ms_build.proofs.RefusalLemmas.{fault_more, refused_more}
use Rattle.ms_rename.specs.Renamed.{Rises}
use Rattle.ms_build.proofs.nodes.node.Goals as goal
use Rattle.ms_logic_words.specs.Content.{Content}
use Rattle.ms_logic_words.specs.declared.sign.Sign.{Sign}

pub relation-requires-clause-orders : goal.relation-requires-clause-orders
relation-requires-clause-orders c =
    let entry = c.entry-entry.result.now in
    let node = c.requires.nodes.nodes (length c.args.built.now) entry c.entry-entry.ensures in
    operands_one_order entry.orders c.in-Basic.form (subst (λ n. HasOwnOrders n entry.orders) c.in-Basic.is node.own)

pub returns-in-Basic-clause-built : goal.returns-in-Basic-clause-built
returns-in-Basic-clause-built c =
    let is = c.relation.ensures in
    built_as_made c.args.plan.now c.requires.nodes (length c.args.built.now) c.entry-entry.result.now c.entry-entry.ensures (Basic c.in-Basic.form) c.in-Basic.is c.relation.result
    is.relation is.automaton is.least is.within

pub imported-requires-clause-import : goal.imported-requires-clause-import
imported-requires-clause-import c =
    subst (λ orders. IsImportOf c.args.plan.now.imports.now c.args.plan.now.mode orders c.in-Import.number c.in-Import.variables) (sym c.slice-then-rises.ensures)
    (c.requires.imports (length c.args.built.now) c.entry-entry.result.now c.in-Import.number c.in-Import.variables c.entry-entry.ensures c.in-Import.is)

pub returns-then-rises-clause-built : goal.returns-then-rises-clause-built
returns-then-rises-clause-built c =
    let plan = c.args.plan.now in
    let entry = c.entry-entry.result.now in
    let is = c.imported.ensures in
    built_as_made plan c.requires.nodes (length c.args.built.now) entry c.entry-entry.ensures (Import c.in-Import.number c.in-Import.variables) c.in-Import.is c.imported.result
    (subst (λ orders. IfOk c.imported.result (IsPart plan.mode orders c.in-Import.variables (import_meaning (imports_for plan) c.in-Import.number c.in-Import.variables))) c.slice-then-rises.ensures is.import)
    is.automaton (is.least (subst Rises c.slice.ensures (c.rises.ensures.0 c.if-rises.true))) is.within

pub returns-then-rises-clause-nodes : goal.returns-then-rises-clause-nodes
returns-then-rises-clause-nodes c =
    let plan = c.args.plan.now in
    let entry = c.entry-entry.result.now in
    refused_more (λ refused. ImportLacks plan c.in-Import.number c.in-Import.variables) (λ refused. NodeLacks plan (length c.args.built.now)) c.imported.result
    (λ refused short. (entry, c.entry-entry.ensures, inr (subst (FormLacks plan entry.orders) (sym c.in-Import.is) short))) c.imported.ensures.nodes

pub of_form-requires-clause-node : goal.of_form-requires-clause-node
of_form-requires-clause-node c =
    let plan = c.args.plan.now in
    let entry = c.entry-entry.result.now in
    c.requires.nodes.nodes (length c.args.built.now) entry c.entry-entry.ensures

pub of_form-requires-clause-held : goal.of_form-requires-clause-held
of_form-requires-clause-held c = c.entry-entry.ensures

pub of_form-requires-clause-imports : goal.of_form-requires-clause-imports
of_form-requires-clause-imports c i xs same =
    let plan = c.args.plan.now in
    c.requires.imports (length c.args.built.now) c.entry-entry.result.now i xs c.entry-entry.ensures same

pub returns-clause-built : goal.returns-clause-built
returns-clause-built c =
    let plan = c.args.plan.now in
    let entry = c.entry-entry.result.now in
    let part = c.in_ok-part.part in
    let held : slice_get (entries_of plan) (length c.args.built.now) ≡ Some entry = c.entry-entry.ensures in
    let over = IsOver-node plan c.requires.nodes (length c.args.built.now) entry held part c.states.ensures.automaton entry.node refl c.in_ok-part.ensures.made in
    let made = c.minimise.ensures in
    node_by plan (length c.args.built.now) entry held part over c.minimise.result made.mode made.variables made.signs made.fewest made.reached made.differ made.within

pub returns-in_err-part-clause-nodes : goal.returns-in_err-part-clause-nodes
returns-in_err-part-clause-nodes c =
    let plan = c.args.plan.now in
    let entry = c.entry-entry.result.now in
    fault_more (Content Sign) (λ refused. FormLacks plan entry.orders entry.node) (λ refused. NodeLacks plan (length c.args.built.now)) c.in_err-part.field-0.0 c.from_residual.result (search rules)
    (λ refused short. (entry, c.entry-entry.ensures, inr short)) c.in_err-part.ensures.nodes

pub returns-clause-nodes : goal.returns-clause-nodes
returns-clause-nodes c =
    let plan = c.args.plan.now in
    let part = c.in_ok-part.part in
    refused_more (λ refused. (refused ≡ plan.limit) × (plan.limit < length part.nodes + length part.states)) (λ refused. NodeLacks plan (length c.args.built.now)) c.minimise.result
    (λ refused why. (c.entry-entry.result.now, c.entry-entry.ensures, inl (too_small plan.limit part c.in_ok-part.ensures.within why.1))) c.minimise.ensures.nodes
