use Rattle.std.proofs.Common.{◌+◌, ◌∷◌, [], length, length-append, sym, ap, subst, ◌∙◌, arith}
use Rattle.ms_dfa_explore.specs.Explored.{Findings, Follows}
use Rattle.ms_dfa_explore.proofs.ExploredLemmas.{Follows-none}
use Rattle.ms_minim.specs.inner.Quotient.{quotient_findings}
use Rattle.ms_minim.proofs.SettledLemmas.{Follows-more}
use Rattle.ms_minim.proofs.settled.own_states.Goals as goal

pub loop-number-init : goal.loop-number-init
loop-number-init c =
    let findings : Findings = quotient_findings c.args.source.now.automaton.now c.args.source.now.partition.classes c.args.source.now.partition.members c.args.pairs.now in
    (ap length c.new-states.ensures, Follows-none c.args.tables.now.images.store.nodes findings c.new-states.result c.new-states.ensures)

pub loop-number-preserved : goal.loop-number-preserved
loop-number-preserved c =
    let findings : Findings = quotient_findings c.args.source.now.automaton.now c.args.source.now.partition.classes c.args.source.now.partition.members c.args.pairs.now in
    let nodes = c.args.tables.now.images.store.nodes in
    let was = c.loop-number.invariant in
    let pushed = c.in_ok-push.ensures.ok in (
      ap length pushed ∙ length-append c.loop-number.states (c.own_state-state.result ∷ []) ∙ ap (λ n. n + 1) was.0,
      subst (Follows nodes findings) (sym pushed)
          (Follows-more nodes findings c.loop-number.states c.own_state-state.result c.loop-number.number was.0 c.own_state-state.ensures.leads c.own_state-state.ensures.sign was.1),
    )

pub returns-clause-all : goal.returns-clause-all
returns-clause-all c =
    let count = c.loop-number.invariant.0 in
    let past = c.loop-number-test.false in
    let end = c.loop-number.auto.number-end in
    let len = c.len-number-end.ensures.len in
    omega (arith, count, past, end, len)

pub returns-clause-follows : goal.returns-clause-follows
returns-clause-follows c = c.loop-number.invariant.1
