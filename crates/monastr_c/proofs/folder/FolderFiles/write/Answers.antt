use Rattle.monastr_c.specs.Buffers.{files_in}
use Rattle.monastr_c.proofs.Logs.{held_under-written, held_under-unwritten}
use Rattle.monastr_c.proofs.folder.FolderFiles.write.Goals as goal

pub returns-in-Ok-clause-written : goal.returns-in-Ok-clause-written
returns-in-Ok-clause-written c =
    let folder = c.args.self.now in
    held_under-written (files_in folder.given.now folder.given_lengths.now) (files_in folder.written.items folder.written_lengths.items)
    (files_in c.append.new.bytes.items c.append.new.lengths.items) c.args.name.now c.args.bytes.now
    (rw c.as_bytes.ensures.value at c.in-Ok.ensures.ok)

pub returns-in-Ok-clause-others : goal.returns-in-Ok-clause-others
returns-in-Ok-clause-others c = λ other differs.
    let folder = c.args.self.now in
    held_under-unwritten (files_in folder.given.now folder.given_lengths.now) (files_in folder.written.items folder.written_lengths.items)
    (files_in c.append.new.bytes.items c.append.new.lengths.items) c.args.name.now c.args.bytes.now other
    (rw c.as_bytes.ensures.value at c.in-Ok.ensures.ok) differs
