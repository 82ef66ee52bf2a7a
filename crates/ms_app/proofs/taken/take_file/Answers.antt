use Rattle.std.proofs.Common.{◌≡◌, ◌⊎◌, length, subst}
use Rattle.ms_edge.specs.Files.{between}
use Rattle.ms_edge.specs.declared.refusal.Refusal.TheVariants.{Memory}
use Rattle.ms_app.specs.Source.{AreOutsFree, IsOutTaken, file_of}
use Rattle.ms_app.proofs.Taking.{import_refused, is_taken, out_refused, unaccepted_refused}
use Rattle.ms_app.proofs.taken.take_file.Goals as goal

pub returns-in-Err-clause-refused : goal.returns-in-Err-clause-refused
returns-in-Err-clause-refused g c =
    let origin = file_of (between (g.F.Files.told c.args.files.now) (g.F.Files.told c.accept_file.new.files)) (length c.args.names.now) c.args.name.now in
    unaccepted_refused origin c.args.wanted.outs.now c.args.wanted.max_nodes c.args.names.now c.accept_file.new.names c.in-Err.refusal c.in-Err.ensures.refused

pub returns-in-Err-free-clause-refused : goal.returns-in-Err-free-clause-refused
returns-in-Err-free-clause-refused g c =
    let out = c.args.wanted.outs.now in
    let origin = file_of (between (g.F.Files.told c.args.files.now) (g.F.Files.told c.accept_file.new.files)) (length c.args.names.now) c.args.name.now in
    let made = c.in-Ok.ensures.accepted in
    let refusal = c.in-Err-free.refusal in
    out_refused origin out c.args.wanted.max_nodes c.args.names.now c.accept_file.new.names refusal made.0 c.in-Ok.source.checked made.1 made.4
    (subst (λ exports. (refusal ≡ Memory) ⊎ IsOutTaken out exports refusal) c.slice.ensures c.in-Err-free.ensures.refused)

pub returns-in-Err-imports-clause-refused : goal.returns-in-Err-imports-clause-refused
returns-in-Err-imports-clause-refused g c =
    let out = c.args.wanted.outs.now in
    let made = c.in-Ok.ensures.accepted in
    import_refused (g.F.Files.told c.args.files.now) (g.F.Files.told c.accept_file.new.files) (g.F.Files.told c.imports.new.files) c.in-Ok.ensures.only_read c.args.names.now c.accept_file.new.names
    c.args.name.now made.0 c.in-Ok.source.checked made.1 made.4 out (subst (AreOutsFree out) c.slice.ensures c.in-Ok-free.ensures.free) c.args.wanted.max_nodes c.in-Err-imports.refusal
    c.in-Err-imports.ensures.refused

pub returns-in-Ok-imports-clause-taken : goal.returns-in-Ok-imports-clause-taken
returns-in-Ok-imports-clause-taken g c =
    let made = c.in-Ok.ensures.accepted in
    let got = c.in-Ok-imports.ensures.imported in
    let outs = c.args.wanted.outs.now in
    let free = subst (AreOutsFree outs) c.slice.ensures c.in-Ok-free.ensures.free in
    let taken = is_taken (g.F.Files.told c.args.files.now) (g.F.Files.told c.accept_file.new.files) (g.F.Files.told c.imports.new.files) c.in-Ok.ensures.only_read c.args.names.now c.accept_file.new.names
    c.args.name.now made.0 c.in-Ok.source.checked made.1 made.4 outs free got.0 got.1 in
    (made.0, got.0, taken, got.2, made.2, made.3, made.4)
