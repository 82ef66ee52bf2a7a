use Rattle.std.proofs.Common.{◌<◌, length, subst, sym}
use Rattle.ms_diagram.specs.Numbering.{Numbers}
use Rattle.ms_diagram.proofs.Keys.{numbered_key}
use Rattle.ms_diagram.proofs.NumberingLemmas.{IsNumbering-numbers}
use Rattle.ms_diagram.proofs.PairLemmas.{numbers_eq, same_numbers, numbers_itself}
use Rattle.ms_diagram.proofs.pairs.Pairs.number.Goals as goal

pub invariant_of-self-2 : goal.invariant_of-self-2
invariant_of-self-2 c =
    IsNumbering-numbers c.self.inside.pairs.keys c.insert_full.new.self.keys (c.args.left, c.args.right) c.self.invariant
    (subst (λ list. length list < 4294967295) (sym c.self.view_is) c.requires)
    (numbered_key numbers_eq same_numbers numbers_itself (c.args.left, c.args.right) c.self.inside.pairs.keys c.insert_full.new.self.keys c.in-Ok.ensures.keys)

pub returns-clause-numbers : goal.returns-clause-numbers
returns-clause-numbers c =
    subst (λ list. Numbers list c.insert_full.new.self.keys (c.args.left, c.args.right)) c.self.view_is
    (numbered_key numbers_eq same_numbers numbers_itself (c.args.left, c.args.right) c.self.inside.pairs.keys c.insert_full.new.self.keys c.in-Ok.ensures.keys)

pub returns-clause-numbering : goal.returns-clause-numbering
returns-clause-numbering c = invariant_of-self-2 c
