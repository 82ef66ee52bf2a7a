use Rattle.std.proofs.Common.{refl, ap, ◌∙◌, length, drop}
use Rattle.ms_include.proofs.Bounds.{loaded-within}
use Rattle.ms_include.proofs.Main.{main-loaded, main-unopened, main-stopped, renamed-refused, renamed-loaded}
use Rattle.ms_include.proofs.Opening.{grown-more}
use Rattle.ms_edge.specs.Files.{between}
use Rattle.ms_include.proofs.Parts.{later-read, second-part, whole}
use Rattle.ms_include.proofs.source.load.Goals as goal

pub returns-in-Err-clause-refused : goal.returns-in-Err-clause-refused
returns-in-Err-clause-refused g c =
    let request = (between (g.F.Files.told c.args.files.now) (g.F.Files.told c.open.new.files)) in
    renamed-refused request (length c.args.names.now) c.in-Ok.main c.args.name.now c.args.names.now c.open.new.names c.in-Err.refusal c.in-Ok.ensures
    (main-unopened request c.len-base.result c.len-base.result c.args.names.now c.open.new.names c.in-Ok.main c.in-Err.refusal c.len-base.ensures refl
    (c.in-Err.ensures.refused request (whole (g.F.Files.told c.args.files.now) (g.F.Files.told c.open.new.files) c.in-Err.ensures.only_read)))

pub returns-in-Err-put_all-clause-refused : goal.returns-in-Err-put_all-clause-refused
returns-in-Err-put_all-clause-refused g c =
    let request = (between (g.F.Files.told c.args.files.now) (g.F.Files.told c.put_all.new.files)) in
    let added = grown-more c.args.names.now c.open.new.names c.put_all.new.names c.in-Ok-open.ensures.grown c.in-Err-put_all.ensures.grown in
    renamed-refused request (length c.args.names.now) c.in-Ok.main c.args.name.now c.args.names.now c.put_all.new.names c.in-Err-put_all.refusal c.in-Ok.ensures
    (main-stopped request c.len-base.result c.begin.new.self.base c.len-base.result c.new-2.result.items c.begin.new.self.chain.items c.args.names.now c.open.new.names c.put_all.new.names added.0 c.in-Ok.main c.in-Ok-open.parsed c.in-Err-put_all.refusal
    c.len-base.ensures c.in_ok-begin.ensures.base refl c.new-2.ensures.items c.in_ok-begin.ensures.chain c.in-Ok-open.ensures.noted added.1 c.in-Ok-open.ensures.read
    (c.in-Err-put_all.ensures.refused request (second-part (g.F.Files.told c.args.files.now) (g.F.Files.told c.open.new.files) (g.F.Files.told c.put_all.new.files) request (whole (g.F.Files.told c.args.files.now) (g.F.Files.told c.put_all.new.files) (later-read (g.F.Files.told c.args.files.now) (g.F.Files.told c.open.new.files) (g.F.Files.told c.put_all.new.files) c.in-Ok-open.ensures.only_read c.in-Err-put_all.ensures.only_read)) c.in-Ok-open.ensures.only_read c.in-Err-put_all.ensures.only_read)))

pub returns-clause-loaded : goal.returns-clause-loaded
returns-clause-loaded g c =
    let request = (between (g.F.Files.told c.args.files.now) (g.F.Files.told c.put_all.new.files)) in
    let put = c.in_default-put_all.ensures.put request (second-part (g.F.Files.told c.args.files.now) (g.F.Files.told c.open.new.files) (g.F.Files.told c.put_all.new.files) request (whole (g.F.Files.told c.args.files.now) (g.F.Files.told c.put_all.new.files) (later-read (g.F.Files.told c.args.files.now) (g.F.Files.told c.open.new.files) (g.F.Files.told c.put_all.new.files) c.in-Ok-open.ensures.only_read c.in_default-put_all.ensures.only_read)) c.in-Ok-open.ensures.only_read c.in_default-put_all.ensures.only_read) in
    renamed-loaded request (length c.args.names.now) c.in-Ok.main c.args.name.now (record { mode = c.mode.result; items = c.from.result; files = c.in_ok-read.read }) c.in-Ok.ensures
    (main-loaded request c.len-base.result c.begin.new.self.base c.len-base.result c.new-2.result.items c.begin.new.self.chain.items c.args.names.now c.open.new.names c.put_all.new.names (drop c.len-base.result c.put_all.new.names) c.in-Ok.main c.in-Ok-open.parsed
    (record { mode = c.mode.result; items = c.from.result; files = c.in_ok-read.read }) c.begin.new.self.items.items c.put_all.new.self.items.items put.0
    c.len-base.ensures c.in_ok-begin.ensures.base refl c.new-2.ensures.items c.in_ok-begin.ensures.chain c.in-Ok-open.ensures.noted c.in-Ok-open.ensures.read c.mode.ensures
    (c.in_ok-read.ensures.ok ∙ ap (drop c.len-base.result) c.slice.ensures) c.from.ensures (c.in_ok-begin.ensures.items ∙ c.new-3.ensures.items) put.1 put.2)

pub returns-clause-bounded : goal.returns-clause-bounded
returns-clause-bounded g c =
    loaded-within (between (g.F.Files.told c.args.files.now) (g.F.Files.told c.put_all.new.files)) (length c.args.names.now) c.args.name.now (record { mode = c.mode.result; items = c.from.result; files = c.in_ok-read.read }) (returns-clause-loaded g c)
