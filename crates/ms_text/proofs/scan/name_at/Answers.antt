use Rattle.ms_text.proofs.Fronts.{identifier_front, identifier_token}
use Rattle.ms_text.proofs.scan.name_at.Goals as goal

pub identifier_kind-requires : goal.identifier_kind-requires
identifier_kind-requires c = identifier_front c.args.rest.now _ c.requires.nonempty c.requires.start c.name_length-length.ensures.run

pub returns-clause-token : goal.returns-clause-token
returns-clause-token c =
    identifier_token c.identifier_kind.result c.args.rest.now c.name_length-length.result
    (identifier_front c.args.rest.now _ c.requires.nonempty c.requires.start c.name_length-length.ensures.run)
    c.name_length-length.ensures.run c.identifier_kind.ensures.spelled c.identifier_kind.ensures.accepted
