use Rattle.std.proofs.Common.{is_some, sym, ap, ◌∙◌}
use Rattle.ms_diagram.proofs.Keys.{key_found, key_not_found}
use Rattle.ms_diagram.proofs.PairLemmas.{numbers_eq, same_numbers, numbers_itself}
use Rattle.ms_diagram.proofs.pairs.Pairs.find.Goals as goal

pub returns-in_default : goal.returns-in_default
returns-in_default c =
    rw (← c.self.view_is) (key_not_found numbers_eq same_numbers numbers_itself (c.args.left, c.args.right) c.self.inside.pairs.keys
    (sym (ap is_some c.in_default.is) ∙ c.get_index_of.ensures.found))

pub returns : goal.returns
returns c =
    rw (← c.self.view_is) (key_found numbers_eq same_numbers numbers_itself (c.args.left, c.args.right) c.self.inside.pairs.keys c.in-Some.number
    (sym c.in-Some.is ∙ c.get_index_of.ensures.index))
