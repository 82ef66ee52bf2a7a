use Rattle.std.proofs.Common.{◌++◌, ◌∷◌, [], refl, sym, subst}
use Rattle.ms_names_rules.specs.declared.meaning.Reading.{Reading}
use Rattle.ms_names_scopes.specs.inner.Read.{Tells}
use Rattle.ms_names_scopes.proofs.FreeVariables.{Tells-variable, Tells-waiting, Tells-passed}
use Rattle.ms_names_scopes.proofs.free.Read.add.Goals as goal

pub returns-in_ok-note-in-Variable-clause-tells : goal.returns-in_ok-note-in-Variable-clause-tells
returns-in_ok-note-in-Variable-clause-tells c = λ rs tells.
    let new = record c.args.self.now { variables = c.note.new.numbers } in
    let P : Reading → Type 0 = λ r. Tells new (rs ++ r ∷ []) in
    subst P (sym c.in-Variable.is)
    (Tells-variable c.args.self.now new c.in-Variable.x rs c.in_ok-note-in-Variable.ensures (λ k. refl) refl tells)

pub returns-then-p-self-clause-tells : goal.returns-then-p-self-clause-tells
returns-then-p-self-clause-tells c = λ rs tells.
    let new = record c.args.self.now { waiting = c.insert.new.numbers } in
    let P : Reading → Type 0 = λ r. Tells new (rs ++ r ∷ []) in
    subst P (sym c.in-Predicate.is)
    (Tells-waiting c.args.self.now new c.in-Predicate.p rs c.if-p-self.true (λ k. refl) c.in_ok-insert-in-Predicate.ensures refl tells)

pub returns-else-p-self-clause-tells : goal.returns-else-p-self-clause-tells
returns-else-p-self-clause-tells c = λ rs tells.
    let P : Reading → Type 0 = λ r. Tells c.args.self.now (rs ++ r ∷ []) in
    subst P (sym c.in-Predicate.is) (Tells-passed c.args.self.now c.in-Predicate.p rs c.if-p-self.false tells)
