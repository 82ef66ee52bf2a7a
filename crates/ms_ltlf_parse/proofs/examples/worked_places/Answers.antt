use Rattle.std.proofs.Common.{ℕ, Option, subst, IfSome}
use Rattle.std.specs.Prelude.{codes}
use Rattle.ms_ltlf_parse.proofs.examples.worked_places.Goals as goal

pub returns-clause-nothing_held : goal.returns-clause-nothing_held
returns-clause-nothing_held c table = subst (λ (held : Option ℕ). IfSome held (λ place. ⊥)) (table (codes "a")) tt
