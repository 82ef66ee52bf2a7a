use Rattle.std.proofs.Common.{nat_eq, is_some, sym, ap, ◌∙◌}
use Rattle.std.specs.Cmp.Lexicographic.{pointwise}
use Rattle.ms_diagram.proofs.Keys.{found_at, not_found}
use Rattle.ms_diagram.proofs.ListLemmas.{same_set, set_itself}
use Rattle.ms_diagram.proofs.sets.Sets.find.Goals as goal

pub returns-in_default-clause-found : goal.returns-in_default-clause-found
returns-in_default-clause-found c =
    rw (← c.self.view_is) (not_found (λ set. set.items) (λ key. pointwise nat_eq c.args.set.now key.items) c.args.set.now
    (λ key same. sym (same_set c.args.set.now key.items same)) (λ key is. ap (pointwise nat_eq c.args.set.now) is ∙ set_itself c.args.set.now)
    c.self.inside.sets.keys (sym (ap is_some c.in_default.is) ∙ c.get_index_of.ensures.found))

pub returns-clause-found : goal.returns-clause-found
returns-clause-found c =
    rw (← c.self.view_is) (found_at (λ set. set.items) (λ key. pointwise nat_eq c.args.set.now key.items) c.args.set.now
    (λ key same. sym (same_set c.args.set.now key.items same)) (λ key is. ap (pointwise nat_eq c.args.set.now) is ∙ set_itself c.args.set.now)
    c.self.inside.sets.keys c.in-Some.number (sym c.in-Some.is ∙ c.get_index_of.ensures.index))
