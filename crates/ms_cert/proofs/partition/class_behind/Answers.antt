use Rattle.std.proofs.Common.{◌≡◌, ℕ, slice_get, Some, subst, arith}
use Rattle.ms_dfa.specs.Files.{content_of_file}
use Rattle.ms_dfafile_outside.proofs.FileLemmas.{length-states}
use Rattle.ms_cert.specs.inner.Partition.{classes_of}
use Rattle.ms_cert.proofs.ListLemmas.{get-item}
use Rattle.ms_cert.proofs.PartitionLemmas.{class-within}
use Rattle.ms_cert.proofs.partition.class_behind.Goals as goal

pub index-requires : goal.index-requires
index-requires c =
    let plain = c.args.file.now.plain.now in
    let count = c.requires.partition.states_count in
    let less = c.step-next.ensures.state in
    omega (arith, less, count, length-states plain, c.args.partition.now.classes.ok.0)

pub returns : goal.returns
returns c =
    let plain = c.args.file.now.plain.now in
    let content = content_of_file plain in
    let parts = classes_of c.args.partition.now in
    let count = c.requires.partition.states_count in
    let less = c.step-next.ensures.state in
    let held = get-item parts.classes c.step-next.result c.index.result.now (omega (arith, less, count, length-states plain)) c.index.ensures in
    record {
      class = subst (λ (n : ℕ). slice_get parts.classes n ≡ Some c.index.result.now) c.step-next.ensures.next held;
      within = class-within content parts c.requires.partition c.step-next.result c.index.result.now held;
    }
