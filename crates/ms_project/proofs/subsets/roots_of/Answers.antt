use Rattle.std.proofs.Common.{◌∷◌, ◌++◌, [], get_or, sym, ap, ◌∙◌}
use Rattle.std.proofs.lemmas.List.{map_more}
use Rattle.ms_dfa.specs.Automaton.{states_of}
use Rattle.ms_project.specs.Subsets.{next_in}
use Rattle.ms_project.proofs.SubsetLemmas.{item_within, next_in-is}
use Rattle.ms_project.proofs.subsets.roots_of.Goals as goal

pub bounds-states-member : goal.bounds-states-member
bounds-states-member c = item_within c.args.states.now c.args.set.now c.loop-member.member-index c.requires c.loop-member-test.true

pub loop-member-preserved : goal.loop-member-preserved
loop-member-preserved c =
    let states = c.args.states.now in
    let set = c.args.set.now in
    let i = c.loop-member.member-index in
    c.in_ok-push.ensures.ok
    ∙ ap (λ root. c.loop-member.roots ++ root ∷ []) (next_in-is states (get_or set i 0) _ (item_within states set i c.requires c.loop-member-test.true))
    ∙ ap (λ roots. roots ++ next_in (states_of states) (get_or set i 0) ∷ []) c.loop-member.invariant
    ∙ sym (map_more (next_in (states_of states)) set i 0 c.loop-member-test.true)
