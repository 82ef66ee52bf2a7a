use Rattle.std.proofs.Common.{sym, subst, arith}
use Rattle.ms_dfa.specs.Files.{content_of_file}
use Rattle.ms_dfafile_outside.proofs.FileLemmas.{length-states}
use Rattle.ms_cert.specs.inner.Partition.{IsPartition, classes_of}
use Rattle.ms_cert.proofs.PartitionLemmas.{count-classes, one-partition}
use Rattle.ms_cert.proofs.RefinementLemmas.{settled-discrete}
use Rattle.ms_cert.proofs.refinement.refine.Goals as goal

pub rounds-init : goal.rounds-init
rounds-init c =
    let content = content_of_file c.args.file.now.plain.now in
    subst (IsPartition content) (sym c.in_ok-partition.ensures) (one-partition content c.requires.canonical.rules.some_state)

pub returns-then-len-before-clause-discrete : goal.returns-then-len-before-clause-discrete
returns-then-len-before-clause-discrete c =
    let content = content_of_file c.args.file.now.plain.now in
    let after = c.in_ok-refine_once.ensures in
    settled-discrete content c.requires.canonical c.refine_once.new.partition.classes.items after.partition.states_count (after.settled (omega (arith, c.if-len-before.true, c.len.ensures, c.len-before.ensures, c.refine_once.new.partition.members.ok.0, c.rounds.partition.members.ok.0)))

pub rounds-smaller : goal.rounds-smaller
rounds-smaller c =
    let plain = c.args.file.now.plain.now in
    let content = content_of_file plain in
    let after = c.in_ok-refine_once.ensures in
    let most = count-classes content (classes_of c.refine_once.new.partition) after.partition in
    let longer = after.longer in
    let differ = c.if-len-before.false in
    omega (arith, most, longer, differ, c.len.ensures, c.len-before.ensures, c.refine_once.new.partition.members.ok.0, c.rounds.partition.members.ok.0, length-states plain)
