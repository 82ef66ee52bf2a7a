use Rattle.std.proofs.Common.{◌<◌, ◌⊎◌, ◌≡◌, ◌∷◌, [], ◌+◌, length}
use Rattle.ms_dfa.specs.Automaton.{variable_of}
use Rattle.ms_dfa.specs.Values.{own_meaning}
use Rattle.ms_logic_words.specs.Content.{Content}
use Rattle.ms_logic_words.specs.declared.sign.Sign.{Sign}
use Rattle.ms_product.specs.Pairing.{AreAtLeast, operands_of}
use Rattle.ms_product.specs.declared.op.Op.{Op}
use Rattle.ms_rename.specs.Whole.{IsSmallWhole}
use Rattle.ms_rename.proofs.RenamedLemmas.{values_same}
use Rattle.ms_dfafile_adopt.proofs.ShortLemmas.{all_least, not_refused}
use Rattle.ms_dfafile_adopt.proofs.numbers.with_track.Goals as goal

pub returns-clause-values : goal.returns-clause-values
returns-clause-values c =
    values_same (own_meaning c.args.content.now) c.in-Ok.wide c.minimise.result c.minimise.ensures.mode c.minimise.ensures.variables c.minimise.ensures.signs c.in-Ok.ensures.values

pub returns-clause-least : goal.returns-clause-least
returns-clause-least c = all_least c.minimise.result c.minimise.ensures.fewest c.minimise.ensures.reached c.minimise.ensures.differ

pub returns-clause-nodes : goal.returns-clause-nodes
returns-clause-nodes c =
    let limit = c.args.limit in
    let wide = c.in-Ok.wide in
    not_refused
    (λ refused. (refused ≡ limit)
    × ((limit < 32) ⊎ ((other : Content Sign) × IsSmallWhole (variable_of c.args.track ∷ []) other × AreAtLeast limit Op.And (operands_of c.args.content.now other))))
    limit (length wide.nodes + length wide.states) c.minimise.result c.in-Ok.ensures.within c.minimise.ensures.nodes
