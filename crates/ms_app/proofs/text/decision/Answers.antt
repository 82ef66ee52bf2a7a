use Rattle.std.proofs.Common.{sym, subst}
use Rattle.std.specs.Option.{option_copied}
use Rattle.ms_edge.specs.Files.{between}
use Rattle.ms_app.specs.Decision.{IsDecided}
use Rattle.ms_app.specs.Source.{IsRefused, file_of}
use Rattle.ms_app.specs.inner.Files.{IsAmongNames, pairs_of}
use Rattle.ms_app.proofs.Outs.{named_among}
use Rattle.ms_app.proofs.text.decision.Goals as goal

pub decide_file-requires-clause-among : goal.decide_file-requires-clause-among
decide_file-requires-clause-among g c =
    let out = option_copied c.args.options.out in
    subst (IsAmongNames out) (sym c.requires.named) (named_among out)

pub returns-in-Err-clause-refused : goal.returns-in-Err-clause-refused
returns-in-Err-clause-refused g c =
    let seen = between (g.F.Files.told c.args.files.now) (g.F.Files.told c.decide_file.new.files) in
    subst (λ outs. IsRefused (file_of seen 0 c.args.name.now) outs c.args.options.max_nodes c.in-Err.refusal c.decide_file.new.names) c.requires.named c.in-Err.ensures.refused

pub returns-in-Ok-report-clause-given : goal.returns-in-Ok-report-clause-given
returns-in-Ok-report-clause-given g c =
    let seen = between (g.F.Files.told c.args.files.now) (g.F.Files.told c.decide_file.new.files) in
    let out = option_copied c.args.options.out in
    let decided = c.in-Ok.decided in (
      decided.found,
      subst (λ outs. IsDecided (file_of seen 0 c.args.name.now) outs out c.args.options.stats c.args.options.format decided.found (pairs_of decided.files)) c.requires.named c.in-Ok.ensures.decided,
      c.in-Ok-report.ensures,
    )
