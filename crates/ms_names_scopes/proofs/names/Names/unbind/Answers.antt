use Rattle.ms_names_scopes.proofs.Tables.{IsTable-named, IsTable-less}
use Rattle.ms_names_scopes.proofs.names.Names.unbind.Goals as goal

pub invariant_of-self : goal.invariant_of-self
invariant_of-self c =
    absurd (IsTable-named _ _ _ _ c.in-Some.entry c.self.invariant c.in-Some.ensures.items c.in_default-set_place.ensures.err)

pub invariant_of-self-in-Ok : goal.invariant_of-self-in-Ok
invariant_of-self-in-Ok c =
    IsTable-less _ _ _ _ _ _ c.in-Some.entry c.self.invariant c.in-Some.ensures.items c.in-Ok.ensures.ok c.pop-in-Some.ensures

pub invariant_of-self-in-Ok-2 : goal.invariant_of-self-in-Ok-2
invariant_of-self-in-Ok-2 c =
    IsTable-less _ _ _ _ _ _ c.in-Some.entry c.self.invariant c.in-Some.ensures.items c.in-Ok.ensures.ok c.pop-in-Some.ensures
