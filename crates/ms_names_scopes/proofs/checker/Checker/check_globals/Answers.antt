use Rattle.std.proofs.Common.{◌++◌, ◌∷◌, ap, ◌∙◌, arith, refl}
use Rattle.ms_logic.specs.declared.source.Bound.{out-Bound}
use Rattle.ms_names_rules.specs.Declarations.{declared_names}
use Rattle.ms_names_rules.specs.Rules.{faults_of_bounds}
use Rattle.ms_parse_grammar.specs.View.{variables_of}
use Rattle.ms_names_scopes.specs.inner.Found.{Found, with_faults}
use Rattle.ms_names_scopes.proofs.Repeats.{bounds-seen}
use Rattle.ms_names_scopes.proofs.checker.Checker.check_globals.Goals as goal
use Rattle.std.proofs.lemmas.List.{take_all}

pub loop-bound-init : goal.loop-bound-init
loop-bound-init c = record { state = refl; seen_is = ap (λ names. names ++ declared_names c.args.self.now.scope) c.new-seen.ensures }

pub loop-bound-preserved : goal.loop-bound-preserved
loop-bound-preserved c =
    let s = c.args.self.now in
    let t = c.loop-bound.self in
    let u = c.check_global.new.self in
    bounds-seen s t u (declared_names s.scope) (c.loop-bound.seen ++ declared_names t.scope) (c.check_global.new.seen ++ declared_names u.scope) c.args.bounds.now c.loop-bound.bound-index c.bound-item.result (omega arith) c.bound-item.is
    c.loop-bound.invariant c.in_ok-check_global.ensures.state
    (ap (λ names. names ++ declared_names u.scope) c.in_ok-check_global.ensures.seen
    ∙ ap (λ (there : Found). ((out-Bound c.bound-item.result).name ∷ c.loop-bound.seen) ++ declared_names there.scope) c.in_ok-check_global.ensures.state)

pub returns : goal.returns
returns c =
    let s = c.args.self.now in
    c.loop-bound.invariant.state
    ∙ ap (λ vs. with_faults s (faults_of_bounds (declared_names s.scope) (variables_of vs))) (take_all c.loop-bound.bound-index c.args.bounds.now (omega arith))
