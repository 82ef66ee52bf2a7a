use Rattle.std.proofs.Common.{◌≡◌, ap, ◌∙◌}
use Rattle.ms_list.specs.declared.at.At.{At}
use Rattle.ms_parse.proofs.refuse.end_at.Goals as goal

pub returns : goal.returns
returns c =
    let end : c.at_of.result ≡ record { file = c.args.file; place = c.end.result } = c.at_of.ensures in
    end ∙ ap (λ n. let at : At = record { file = c.args.file; place = n } in at) c.end.ensures.end
