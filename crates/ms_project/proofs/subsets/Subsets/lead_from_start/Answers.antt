use Rattle.ms_project.proofs.SubsetSteps.{noted_later, start_builds, start_later, start_read, view_noted, view_order}
use Rattle.ms_project.proofs.subsets.Subsets.lead_from_start.Goals as goal

pub collect-requires-clause-order : goal.collect-requires-clause-order
collect-requires-clause-order c = view_order _ _ c.self.view_is c.requires.ready c.slice.result.now c.slice.ensures

pub collect-requires-clause-read : goal.collect-requires-clause-read
collect-requires-clause-read c = start_read _ _ c.self.view_is c.requires.ready c.slice.result.now c.slice.ensures

pub collect-requires-clause-table : goal.collect-requires-clause-table
collect-requires-clause-table c = view_noted _ _ c.self.view_is c.requires.ready c.slice.result.now c.slice.ensures c.args.store.now.nodes c.args.lists.now c.requires.lists

pub returns-clause-later : goal.returns-clause-later
returns-clause-later c =
    start_later _ _ c.self.view_is c.requires.ready c.slice.result.now c.slice.ensures c.collect.new.sets c.collect.ensures.sets c.collect.ensures.added

pub returns-clause-ready : goal.returns-clause-ready
returns-clause-ready c = (returns-clause-later c).ready c.requires.ready

pub returns-clause-builds : goal.returns-clause-builds
returns-clause-builds c =
    start_builds _ _ c.self.view_is c.requires.ready c.slice.result.now c.slice.ensures c.collect.new.sets c.collect.ensures.sets c.collect.ensures.added
    c.args.store.now c.collect.new.self c.collect.result c.collect.ensures.builds

pub returns-clause-lists : goal.returns-clause-lists
returns-clause-lists c =
    noted_later _ _ c.self.view_is c.requires.ready c.slice.result.now c.slice.ensures c.collect.new.sets c.collect.new.self.nodes c.collect.new.table c.collect.ensures.table
