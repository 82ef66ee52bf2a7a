use Rattle.std.proofs.Common.{is_some, nat_eq, Some, refl, sym, ap, ◌∙◌}
use Rattle.std.proofs.lemmas.Bool.{eqb-true, eq-eqb}
use Rattle.ms_diagram.proofs.Keys.{key_found, key_not_found}
use Rattle.ms_minim_canonical.proofs.renumber.place_of.Goals as goal

pub returns-in_default : goal.returns-in_default
returns-in_default c at there =
    absurd (key_not_found nat_eq eqb-true (λ n. eq-eqb n n refl) c.args.number c.args.seen.now.keys (sym (ap is_some c.in_default.is) ∙ c.get_index_of.ensures.found) at there)

pub returns-in-Ok : goal.returns-in-Ok
returns-in-Ok c at there =
    key_found nat_eq eqb-true (λ n. eq-eqb n n refl) c.args.number c.args.seen.now.keys c.in-Ok.place (ap Some c.in-Ok.ensures.1 ∙ sym c.in-Some.is ∙ c.get_index_of.ensures.index)
