use Rattle.std.proofs.Common.{map, ap, ◌∙◌, arith}
use Rattle.ms_names_rules.specs.inner.Free.{read_among}
use Rattle.ms_names_rules.specs.Scope.{variables_among}
use Rattle.ms_names_scopes.proofs.NamesRead.{Noted-below, Noted-next, Noted-last}
use Rattle.ms_names_scopes.proofs.names.Names.variables_read.Goals as goal

pub index-requires : goal.index-requires
index-requires c =
    let below = Noted-below _ _ _ _ _ c.in-Some.place c.loop-place.invariant c.in-Some.ensures.member in
    omega (arith, below)

pub loop-place-preserved : goal.loop-place-preserved
loop-place-preserved c =
    Noted-next _ _ _ _ _ _ _ _ c.in-Some.place c.index.result.now c.loop-place.invariant c.index.ensures
    c.in-Some.ensures.member c.in-Some.ensures.least c.in-Some.ensures.rest c.in_ok-note_entry.ensures.numbers c.in_ok-note_entry.ensures.names

pub returns : goal.returns
returns c = λ rs tells.
    let all = Noted-last _ _ _ _ _ rs c.loop-place.invariant c.in_default.ensures.none tells in
    let here = ap (λ names. read_among rs (variables_among names)) c.self.view_is in
    (all.0 ∙ ap (map (λ v. v.number)) here, all.1 ∙ ap (map (λ v. v.name)) here)
