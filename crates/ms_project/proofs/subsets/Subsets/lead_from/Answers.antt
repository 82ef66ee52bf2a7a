use Rattle.std.proofs.Common.{◌∙◌, ap, refl, sym, subst, length, ◌<◌, List}
use Rattle.std.specs.Prelude.{map as map_list}
use Rattle.ms_dfa.specs.Automaton.{states_of}
use Rattle.ms_dfa.specs.declared.state.State.{State}
use Rattle.ms_project.specs.Subsets.{next_in}
use Rattle.ms_project.specs.inner.Later.{subsetting_later_itself}
use Rattle.ms_project.proofs.SubsetSteps.{memory_builds, next_builds, next_later, next_members, next_read, noted_later, view_noted, view_order}
use Rattle.ms_project.proofs.subsets.Subsets.lead_from.Goals as goal

pub roots_of-requires : goal.roots_of-requires
roots_of-requires c member there =
    subst (λ (states : List State). member < length states) (sym c.slice.ensures)
    (next_members _ _ c.self.view_is c.requires.ready _ refl c.args.state c.get.result.now c.get.ensures.set member there)

pub returns-in_default-clause-later : goal.returns-in_default-clause-later
returns-in_default-clause-later c = subsetting_later_itself c.args.self.now

pub returns-in_default-clause-builds : goal.returns-in_default-clause-builds
returns-in_default-clause-builds c =
    memory_builds _ _ c.self.view_is c.requires.ready _ refl c.args.state c.get.result.now c.get.ensures.set c.args.store.now c.len.ensures.store

pub collect-requires-clause-order : goal.collect-requires-clause-order
collect-requires-clause-order c = view_order _ _ c.self.view_is c.requires.ready c.slice-2.result.now c.slice-2.ensures

pub collect-requires-clause-read : goal.collect-requires-clause-read
collect-requires-clause-read c =
    next_read _ _ c.self.view_is c.requires.ready c.slice-2.result.now c.slice-2.ensures c.args.state c.get.result.now c.get.ensures.set c.slice-3.result.now
    (c.slice-3.ensures ∙ c.in-Ok.ensures ∙ ap (λ (states : List State). map_list (next_in (states_of states)) c.get.result.now) c.slice.ensures)

pub collect-requires-clause-table : goal.collect-requires-clause-table
collect-requires-clause-table c = view_noted _ _ c.self.view_is c.requires.ready c.slice-2.result.now c.slice-2.ensures c.args.store.now.nodes c.args.lists.now c.requires.lists

pub returns-clause-later : goal.returns-clause-later
returns-clause-later c =
    next_later _ _ c.self.view_is c.requires.ready c.slice-2.result.now c.slice-2.ensures c.args.state c.get.result.now c.get.ensures.set c.slice-3.result.now
    (c.slice-3.ensures ∙ c.in-Ok.ensures ∙ ap (λ (states : List State). map_list (next_in (states_of states)) c.get.result.now) c.slice.ensures)
    c.collect.new.sets c.collect.ensures.sets c.collect.ensures.added

pub returns-clause-ready : goal.returns-clause-ready
returns-clause-ready c = (returns-clause-later c).ready c.requires.ready

pub returns-clause-builds : goal.returns-clause-builds
returns-clause-builds c =
    next_builds _ _ c.self.view_is c.requires.ready c.slice-2.result.now c.slice-2.ensures c.args.state c.get.result.now c.get.ensures.set c.slice-3.result.now
    (c.slice-3.ensures ∙ c.in-Ok.ensures ∙ ap (λ (states : List State). map_list (next_in (states_of states)) c.get.result.now) c.slice.ensures)
    c.collect.new.sets c.collect.ensures.sets c.collect.ensures.added c.args.store.now c.collect.new.self c.collect.result c.collect.ensures.builds

pub returns-clause-lists : goal.returns-clause-lists
returns-clause-lists c =
    noted_later _ _ c.self.view_is c.requires.ready c.slice-2.result.now c.slice-2.ensures c.collect.new.sets c.collect.new.self.nodes c.collect.new.table c.collect.ensures.table
