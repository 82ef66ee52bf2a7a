use Rattle.std.proofs.Common.{IfNone, Option, slice_index_or, subst, arith}
use Rattle.std.proofs.lemmas.Option.{slice_get-get_or}
use Rattle.ms_dfa.specs.Files.{content_of_file}
use Rattle.ms_cert.specs.declared.splitter.Splitter.{Splitter}
use Rattle.ms_cert.specs.inner.Refinement.{AreAlike}
use Rattle.ms_cert.proofs.RefinementLemmas.{alike-all, alike-more}
use Rattle.ms_cert.proofs.refinement.difference_among.Goals as goal

pub loop-state-preserved : goal.loop-state-preserved
loop-state-preserved c =
    let states = c.args.states.now in
    let place = c.loop-state.state-index in
    let content = content_of_file c.args.round.now.file.now.plain.now in
    let classes = c.args.round.now.classes.now in
    alike-more (content_of_file c.args.round.now.file.now.plain.now) c.args.round.now.classes.now states (slice_index_or states 0 0) place (slice_index_or states place 0) (slice_get-get_or states place 0 c.loop-state-test.true) c.loop-state.invariant
    (subst (λ (found : Option Splitter). IfNone found (AreAlike content classes (slice_index_or states 0 0) (slice_index_or states place 0))) c.in-None.is c.in_ok-found.ensures.none)

pub returns-clause-none : goal.returns-clause-none
returns-clause-none c =
    let states = c.args.states.now in
    let past = c.loop-state-test.false in
    alike-all (content_of_file c.args.round.now.file.now.plain.now) c.args.round.now.classes.now states (slice_index_or states 0 0)
    (λ place state less held. c.loop-state.invariant place state (omega (arith, less, past)) held)
