use Rattle.std.proofs.Common.{sym, subst, ◌∙◌, arith}
use Rattle.ms_dfa.specs.Automaton.{IsAutomaton, variables_of}
use Rattle.ms_rename.specs.Whole.{IsSmallWhole}
use Rattle.ms_rename.proofs.WholeLemmas.{IsAutomaton-free, IsWhole-free, free_is}
use Rattle.ms_rename.proofs.whole.free.Goals as goal

pub make-requires : goal.make-requires
make-requires c =
    let tracks = c.args.tracks.now in
    let same = free_is c.new-store.result.nodes c.args.mode tracks c.in_ok-tracks.tracks c.new-states.result c.push.new.list c.new-store.ensures.empty c.in_ok-tracks.ensures c.new-states.ensures c.in_ok-push.ensures.ok in
    subst IsAutomaton (sym same) (IsAutomaton-free c.args.mode (variables_of tracks) c.requires.rising c.requires.numbers)

pub returns-clause-whole : goal.returns-clause-whole
returns-clause-whole c =
    let tracks = c.args.tracks.now in
    let same = free_is c.new-store.result.nodes c.args.mode tracks c.in_ok-tracks.tracks c.new-states.result c.push.new.list c.new-store.ensures.empty c.in_ok-tracks.ensures c.new-states.ensures c.in_ok-push.ensures.ok in
    subst (IsSmallWhole (variables_of tracks)) (sym (c.make.ensures ∙ same)) (record {
      automaton = IsAutomaton-free c.args.mode (variables_of tracks) c.requires.rising c.requires.numbers;
      whole = IsWhole-free c.args.mode (variables_of tracks) c.requires.rising c.requires.numbers;
      few = omega arith;
    })
