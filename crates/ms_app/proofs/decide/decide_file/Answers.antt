use Rattle.std.proofs.Common.{length}
use Rattle.std.proofs.lemmas.Result.{IfErr-weaker, IfOk-weaker}
use Rattle.std.specs.Option.{option_copied}
use Rattle.ms_edge.specs.Files.{between}
use Rattle.ms_app.specs.inner.Files.{pairs_of}
use Rattle.ms_app.specs.Source.{file_of}
use Rattle.ms_app.proofs.Adopted.{are_lent}
use Rattle.ms_app.proofs.Comparisons.{first_refused}
use Rattle.ms_app.proofs.Decisions.{decided_of, first_decided, own_names_of, unsolved_of}
use Rattle.ms_app.proofs.Results.{if_ok_both}
use Rattle.ms_app.proofs.decide.decide_file.Goals as goal

pub returns-in-Err-clause-refused : goal.returns-in-Err-clause-refused
returns-in-Err-clause-refused g c =
    let seen = between (g.F.Files.told c.args.files.now) (g.F.Files.told c.take_file.new.files) in
    first_refused c.args.name.now c.args.options.outs.now c.args.options.max_nodes seen c.args.names.now c.take_file.new.names c.in-Err.refusal c.requires.first c.in-Err.ensures.refused

pub decide-requires-clause-imports : goal.decide-requires-clause-imports
decide-requires-clause-imports g c =
    let made = c.in-Ok.ensures.taken in
    let checked = c.in-Ok.taken.source.checked in
    are_lent c.args.options.max_nodes checked.mode checked.imports made.1 c.in-Ok.taken.imports made.3

pub returns-clause-refused : goal.returns-clause-refused
returns-clause-refused g c =
    let seen = between (g.F.Files.told c.args.files.now) (g.F.Files.told c.take_file.new.files) in
    let name = c.args.name.now in
    let outs = c.args.options.outs.now in
    let limit = c.args.options.max_nodes in
    let old = c.args.names.now in
    let new = c.take_file.new.names in
    let made = c.in-Ok.ensures.taken in
    IfErr-weaker c.decide.result _ _
    (λ refusal why.
    first_refused name outs limit seen old new refusal c.requires.first
    (unsolved_of c.in-Ok.taken.source.checked limit made.1 c.in-Ok.taken.imports made.3 (file_of seen (length old) name) outs made.0 made.2 c.in-Ok.ensures.right refusal old new made.6 why))
    c.decide.ensures.refused

pub returns-clause-decided : goal.returns-clause-decided
returns-clause-decided g c =
    let seen = between (g.F.Files.told c.args.files.now) (g.F.Files.told c.take_file.new.files) in
    let name = c.args.name.now in
    let outs = c.args.options.outs.now in
    let out = option_copied c.args.options.out in
    let stats = c.args.options.stats in
    let format = c.args.options.format in
    let old = c.args.names.now in
    let made = c.in-Ok.ensures.taken in
    IfOk-weaker c.decide.result _ _
    (λ decided both.
    first_decided seen name outs out stats format decided.found (pairs_of decided.files) old c.requires.first
    (decided_of c.in-Ok.taken.source.checked c.args.options.max_nodes made.1 c.in-Ok.taken.imports made.3 (file_of seen (length old) name) outs made.0 made.2 out stats format c.in-Ok.taken.source.files made.4
    decided.found (pairs_of decided.files) both.0 both.1))
    (if_ok_both c.decide.result _ _ c.decide.ensures.found c.decide.ensures.within)

pub returns-clause-own_names : goal.returns-clause-own_names
returns-clause-own_names g c =
    let seen = between (g.F.Files.told c.args.files.now) (g.F.Files.told c.take_file.new.files) in
    let name = c.args.name.now in
    let outs = c.args.options.outs.now in
    let out = option_copied c.args.options.out in
    let old = c.args.names.now in
    let made = c.in-Ok.ensures.taken in
    IfOk-weaker c.decide.result _ _
    (λ decided found.
    own_names_of c.in-Ok.taken.source.checked c.args.options.max_nodes made.1 c.in-Ok.taken.imports made.3 (file_of seen (length old) name) outs made.0 made.2 c.in-Ok.ensures.right out c.requires.among
    c.args.options.stats c.args.options.format c.in-Ok.taken.source.files decided.found (pairs_of decided.files) found)
    c.decide.ensures.found
