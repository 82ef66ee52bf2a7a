use Rattle.std.proofs.Common.{◌≡◌, ◌++◌, ◌∷◌, [], ap, ◌∙◌}
use Rattle.ms_parse_grammar.specs.Tree.{no_parts, and_part}
use Rattle.ms_parse_grammar.specs.View.{Part, expression_of, parts_of, part_of}
use Rattle.ms_parse_steps.proofs.Pushes.{on_ok, parts_push}
use Rattle.ms_parse_steps.proofs.lists.push_part.Goals as goal

pub returns-clause-ok : goal.returns-clause-ok
returns-clause-ok c =
    on_ok c.push.result (c.push.new.list ≡ c.args.list.now ++ c.part-one.result ∷ []) (parts_of c.push.new.list ≡ and_part (parts_of c.args.list.now) c.args.at c.args.name (expression_of c.args.value))
    (λ same. ap parts_of same ∙ parts_push part_of no_parts c.args.list.now c.part-one.result ∙ ap (λ (x : Part). and_part (parts_of c.args.list.now) x.at x.name x.value) c.part-one.ensures) c.push.ensures.ok
