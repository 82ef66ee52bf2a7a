use Rattle.std.proofs.Common.{◌≡◌, length, refl, arith}
use Rattle.ms_names_scopes.proofs.Places.{IsLinked-more, IsLinked-more_plain}
use Rattle.ms_names_scopes.proofs.numbers.Numbers.push.Goals as goal

pub invariant_of-self-in_default : goal.invariant_of-self-in_default
invariant_of-self-in_default c = IsLinked-more_plain _ _ _ _ c.self.invariant c.in_ok-add.ensures.ok c.in_default.is

pub invariant_of-self-in-Ok : goal.invariant_of-self-in-Ok
invariant_of-self-in-Ok c =
    let at_end : c.in_ok-last.last ≡ length c.self.inside.places.items = omega (arith, c.in_ok-last.ensures, c.len.ensures) in
    IsLinked-more _ _ _ _ _ c.in-Some.x c.in_ok-last.last c.self.invariant c.in_ok-add-2.ensures.ok refl c.last_of.ensures at_end c.in-Ok.ensures.ok
