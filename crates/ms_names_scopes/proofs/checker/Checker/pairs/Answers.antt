use Rattle.std.proofs.Common.{◌≡◌, ◌+◌, drop, ◌∷◌, ◌++◌, [], refl, sym, subst, ap, ◌∙◌, arith}
use Rattle.std.proofs.lemmas.List.{drop_all, append-nil}
use Rattle.ms_names_rules.specs.Reads.{readings_of_renames, readings_of_variable}
use Rattle.ms_names_rules.specs.Rules.{faults_of_renames, faults_of_repeat, faults_of_variable}
use Rattle.ms_names_rules.specs.Scope.{Scope, meaning_of}
use Rattle.ms_names_rules.specs.Uses.{pairs_of}
use Rattle.ms_names_scopes.specs.inner.Found.{noted, with_faults}
use Rattle.ms_names_scopes.proofs.Repeats.{noted-none, pairs-next, renames-next}
use Rattle.ms_names_scopes.proofs.checker.Checker.pairs.Goals as goal

pub loop-rename-init : goal.loop-rename-init
loop-rename-init c =
    let s = c.args.self.now in
    let rs = c.args.renames.now in
    record {
      scope = refl;
      state =
          ap (λ lefts. noted s (faults_of_renames s.scope lefts c.new-rights.result rs) (readings_of_renames s.scope rs)) c.new-lefts.ensures
          ∙ ap (λ rights. noted s (faults_of_renames s.scope [] rights rs) (readings_of_renames s.scope rs)) c.new-rights.ensures;
      value = ap (λ pairs. pairs ++ pairs_of s.scope rs) c.new-pairs.ensures;
    }

pub loop-rename-preserved : goal.loop-rename-preserved
loop-rename-preserved c =
    let a : Scope = c.args.self.now.scope in
    let s = c.loop-rename.self in
    let v = c.pair.new.self in
    let lefts = c.loop-rename.lefts in
    let rights = c.loop-rename.rights in
    let rs = c.args.renames.now in
    let i = c.loop-rename.rename-index in
    let r = c.rename-item.result in
    let m = meaning_of s.scope r.right in
    let rest = drop (i + 1) rs in
    let t = with_faults s (faults_of_repeat r.at r.left lefts) in
    let u = noted t (faults_of_variable r.at_right r.right m) (readings_of_variable m) in
    let Left : Scope → Type 0 = λ there.
    noted v (faults_of_renames there (r.left ∷ lefts) (r.right ∷ rights) rest) (readings_of_renames there rest)
    ≡ noted s (faults_of_renames there lefts rights (drop i rs)) (readings_of_renames there (drop i rs)) in
    record {
      scope = ap (λ there. there.scope) c.in_ok-pair.ensures.state ∙ c.loop-rename.invariant.scope;
      state =
          ap (λ names. noted v (faults_of_renames a names c.pair.new.rights rest) (readings_of_renames a rest)) c.in_ok-pair.ensures.lefts
          ∙ (ap (λ names. noted v (faults_of_renames a (r.left ∷ lefts) names rest) (readings_of_renames a rest)) c.in_ok-pair.ensures.rights
          ∙ (subst Left c.loop-rename.invariant.scope
          (renames-next s t u v lefts rights rs i r (omega arith) c.rename-item.is refl refl c.in_ok-pair.ensures.state)
          ∙ c.loop-rename.invariant.state));
      value =
          pairs-next a s c.loop-rename.pairs c.pair.new.pairs rs i r (omega arith) c.rename-item.is c.loop-rename.invariant.scope c.in_ok-pair.ensures.pairs
          ∙ c.loop-rename.invariant.value;
    }

pub returns-clause-state : goal.returns-clause-state
returns-clause-state c =
    let a = c.args.self.now.scope in
    let none = drop_all c.loop-rename.rename-index c.args.renames.now (omega arith) in
    noted-none c.loop-rename.self
    ∙ (ap (λ rest. noted c.loop-rename.self (faults_of_renames a c.loop-rename.lefts c.loop-rename.rights rest) (readings_of_renames a rest)) (sym none)
    ∙ c.loop-rename.invariant.state)

pub returns-clause-value : goal.returns-clause-value
returns-clause-value c =
    let a = c.args.self.now.scope in
    let none = drop_all c.loop-rename.rename-index c.args.renames.now (omega arith) in
    sym (append-nil c.loop-rename.pairs)
    ∙ (ap (λ rest. c.loop-rename.pairs ++ pairs_of a rest) (sym none) ∙ c.loop-rename.invariant.value)
