use Rattle.std.proofs.Common.{◌<◌, arith}
use Rattle.ms_cert.proofs.StemLemmas.{part-first, part-second, second-falls, way-begins, way-first, way-second}
use Rattle.ms_cert.proofs.partition.parting.Goals as goal

pub loop-first-init : goal.loop-first-init
loop-first-init c = way-begins c.args.parents.now c.args.one c.args.other c.requires.one c.requires.other

pub loop-first-preserved-then-first-second : goal.loop-first-preserved-then-first-second
loop-first-preserved-then-first-second c =
    let above : c.loop-first.second < c.loop-first.first = omega (arith, c.if-first-second.true) in
    way-first c.args.parents.now c.args.one c.args.other c.loop-first.first c.loop-first.second c.requires.earlier c.loop-first.invariant above c.if-parent-second.false

pub returns-then-parent-second-clause-parting : goal.returns-then-parent-second-clause-parting
returns-then-parent-second-clause-parting c _ =
    let above : c.loop-first.second < c.loop-first.first = omega (arith, c.if-first-second.true) in
    part-first c.args.parents.now c.args.one c.args.other c.loop-first.first c.loop-first.second c.requires.earlier c.loop-first.invariant above c.if-parent-second.true

pub returns-then-parent-first-clause-parting : goal.returns-then-parent-first-clause-parting
returns-then-parent-first-clause-parting c _ =
    let above : c.loop-first.first < c.loop-first.second = omega (arith, c.if-first-second.false, c.loop-first-test.true) in
    part-second c.args.parents.now c.args.one c.args.other c.loop-first.first c.loop-first.second c.requires.earlier c.loop-first.invariant above c.if-parent-first.true

pub loop-first-smaller : goal.loop-first-smaller
loop-first-smaller c =
    let above : c.loop-first.first < c.loop-first.second = omega (arith, c.if-first-second.false, c.loop-first-test.true) in
    let falls = second-falls c.args.parents.now c.args.one c.args.other c.loop-first.first c.loop-first.second c.requires.earlier c.loop-first.invariant above in
    omega (arith, falls)

pub loop-first-preserved : goal.loop-first-preserved
loop-first-preserved c =
    let above : c.loop-first.first < c.loop-first.second = omega (arith, c.if-first-second.false, c.loop-first-test.true) in
    way-second c.args.parents.now c.args.one c.args.other c.loop-first.first c.loop-first.second c.requires.earlier c.loop-first.invariant above c.if-parent-first.false
