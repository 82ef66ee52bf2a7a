use Rattle.std.proofs.Common.{◌++◌, subst}
use Rattle.ms_names_rules.specs.inner.Free.{Readings}
use Rattle.ms_names_scopes.specs.inner.Read.{Tells}
use Rattle.ms_names_scopes.proofs.FreeVariables.{Reached-next, Reached-last}
use Rattle.ms_names_scopes.proofs.free.Read.through.Goals as goal

pub loop-p-preserved : goal.loop-p-preserved
loop-p-preserved c =
    let P : Readings → Type 0 = λ more. (rs : Readings) → Tells c.next_predicate.new.self rs → Tells c.add_all-in-Some.new.self (rs ++ more) in
    Reached-next _ _ _ _ c.in-Some.p c.index-predicates-p.result _ c.index-predicates-p.is c.in-Some.ensures.last c.in-Some.ensures.tells c.in-Some.ensures.left
    (subst P c.slice.ensures c.in_ok-add_all-2.ensures.tells) c.in_ok-add_all-2.ensures.left c.loop-p.invariant

pub returns : goal.returns
returns c = Reached-last _ _ _ _ c.in_default.ensures.tells c.in_default.ensures.none c.loop-p.invariant
