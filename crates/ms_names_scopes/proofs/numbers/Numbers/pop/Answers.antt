use Rattle.ms_names_scopes.proofs.Places.{IsLinked-held, IsLinked-less, IsLinked-less_plain}
use Rattle.ms_names_scopes.proofs.numbers.Numbers.pop.Goals as goal

pub invariant_of-self : goal.invariant_of-self
invariant_of-self c =
    IsLinked-less _ _ _ _ c.in-Some.place c.in-Some-number.x c.self.invariant c.in-Some.ensures.items c.in-Some-number.is c.in-Ok.ensures.ok

pub invariant_of-self-in_default-set_last : goal.invariant_of-self-in_default-set_last
invariant_of-self-in_default-set_last c =
    absurd
    (IsLinked-held _ _ _ c.in-Some.place c.in-Some-number.x c.self.invariant c.in-Some.ensures.items c.in-Some-number.is
    c.in_default-set_last.ensures.absent)

pub invariant_of-self-in-Some : goal.invariant_of-self-in-Some
invariant_of-self-in-Some c = IsLinked-less_plain _ _ _ c.in-Some.place c.self.invariant c.in-Some.ensures.items c.in_default-number.is
