use Rattle.std.proofs.Common.{List, sym, subst}
use Rattle.ms_arena.specs.declared.node.Node.{Node}
use Rattle.ms_diagram.specs.Table.{AreBrought}
use Rattle.ms_diagram.proofs.TableGrowth.{AreBrought-grow, AreRelabelled-grow}
use Rattle.ms_minim.proofs.LeadLemmas.{Renames-root, Meets-led}
use Rattle.ms_minim.proofs.classes.lead.Goals as goal

pub bring_with-requires-clause-renames : goal.bring_with-requires-clause-renames
bring_with-requires-clause-renames c =
    Renames-root c.args.plan.now.automaton.now c.states.ensures.automaton.ordered c.args.root c.requires.root c.args.plan.now.places.now c.requires.places c.store-from.result.now.nodes c.store-from.ensures

pub bring_with-requires-clause-table : goal.bring_with-requires-clause-table
bring_with-requires-clause-table c =
    subst (λ (list : List Node). AreBrought list c.args.plan.now.places.now c.args.scratch.now.nodes c.args.tables.now.brought) (sym c.store-from.ensures) c.requires.tables.brought

pub relabel_with-requires-clause-table : goal.relabel_with-requires-clause-table
relabel_with-requires-clause-table c =
    AreRelabelled-grow c.args.scratch.now.nodes c.bring_with.new.self.nodes c.len.ensures.store.ordered c.in-Ok.ensures.builds.grows.extends c.args.classes.now c.args.tables.now.led c.requires.tables.led

pub returns-in-Ok-relabel_with-clause-leads : goal.returns-in-Ok-relabel_with-clause-leads
returns-in-Ok-relabel_with-clause-leads c =
    Meets-led c.args.plan.now.automaton.now c.states.ensures.automaton.ordered c.args.root c.requires.root c.args.plan.now.places.now c.requires.places c.store-from.result.now.nodes c.store-from.ensures c.args.classes.now
    c.bring_with.new.self.nodes c.in-Ok.states c.in-Ok.ensures.builds.function c.relabel_with.new.self.nodes c.in-Ok-relabel_with.made c.in-Ok-relabel_with.ensures.builds.function

pub returns-in-Ok-relabel_with-clause-tables : goal.returns-in-Ok-relabel_with-clause-tables
returns-in-Ok-relabel_with-clause-tables c =
    let two = c.bring_with.new.self.nodes in
    let three = c.relabel_with.new.self.nodes in
    record {
      brought = subst (λ (list : List Node). AreBrought list c.args.plan.now.places.now three c.bring_with.new.table) c.store-from.ensures
          (AreBrought-grow two three c.in-Ok.ensures.builds.grows.store.ordered c.in-Ok-relabel_with.ensures.builds.grows.extends c.store-from.result.now.nodes c.args.plan.now.places.now
          c.bring_with.new.table c.in-Ok.ensures.table);
      led = c.in-Ok-relabel_with.ensures.table;
    }
