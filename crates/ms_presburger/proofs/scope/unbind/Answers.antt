use Rattle.std.proofs.Common.{◌≡◌, ℕ, suc, ◌-◌, ◌<◌, List, length, take, get_or, sym, ap, subst, arith}
use Rattle.ms_presburger.specs.inner.Scopes.{IsAsIn, bound_in}
use Rattle.ms_presburger.proofs.Lookups.{unbind-next}
use Rattle.ms_presburger.proofs.scope.unbind.Goals as goal

pub loop-left-preserved : goal.loop-left-preserved
loop-left-preserved c =
    let names = c.args.names.now in
    let i = c.loop-left.left - 1 in
    let more = c.loop-left-test.true in
    let within = c.loop-left.invariant.within in
    let below : i < length names = omega (arith, more, within) in
    let before : suc i ≡ c.loop-left.left = omega (arith, more) in
    record {
      within = omega (arith, within);
      scope = λ x scope is known.
          let there : IsAsIn (bound_in x scope (take (suc i) names)) c.loop-left.bindings =
          (let P : ℕ → Type 0 = λ n. IsAsIn (bound_in x scope (take n names)) c.loop-left.bindings in subst P (sym before) (c.loop-left.invariant.scope x scope is known)) in
          unbind-next x scope names i c.index-names-left.result (get_or c.args.hidden.now i 0) 0 c.loop-left.bindings c.set.new.bindings below c.index-names-left.is
          (ap (λ (l : List ℕ). get_or l i 0) is) there c.in_ok-set.ensures;
    }

pub returns : goal.returns
returns c = λ x scope is known.
    let none : c.loop-left.left ≡ 0 = omega (arith, c.loop-left-test.false) in
    let P : ℕ → Type 0 = λ n. IsAsIn (bound_in x scope (take n c.args.names.now)) c.loop-left.bindings in subst P none (c.loop-left.invariant.scope x scope is known)
