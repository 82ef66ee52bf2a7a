use Rattle.std.proofs.Common.{ap, ◌∙◌}
use Rattle.ms_edge.specs.FilesInMemory.{FilesInMemory, held_under}
use Rattle.ms_edge.specs.Span.{entries_in}
use Rattle.ms_edge.proofs.Holding.{held_under-named, held_under-other}
use Rattle.ms_edge.proofs.mem_files.MemFilesFiles.write.Goals as goal

pub returns-clause-written : goal.returns-clause-written
returns-clause-written c =
    rw (c.append.ensures.entries, c.as_bytes.ensures.value)
    (held_under-named (entries_in c.self.inside.buffer.items c.self.inside.spans.items) c.args.name.now c.args.bytes.now)

pub returns-clause-others : goal.returns-clause-others
returns-clause-others c = λ other differs.
    rw (c.append.ensures.entries, c.as_bytes.ensures.value)
    (held_under-other (entries_in c.self.inside.buffer.items c.self.inside.spans.items) c.args.name.now c.args.bytes.now other differs
    ∙ ap (λ (files : FilesInMemory). held_under files.entries other) c.self.view_is)
