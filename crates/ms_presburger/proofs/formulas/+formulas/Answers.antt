use Rattle.std.proofs.Common.{◌≡◌, ℕ, ◌+◌, ◌*◌, rules, length, map, List, refl, sym, ap, ◌∙◌, subst, arith}
use Rattle.std.proofs.lemmas.Grind.{common_steps}
use Rattle.std.specs.Prelude.{OnOk}
use Rattle.ms_logic.specs.Tree.{Form}
use Rattle.ms_logic.specs.Tree as sets
use Rattle.ms_presburger.specs.declared.linear.Linear.{Linear, the_lemmas}
use Rattle.ms_presburger.specs.declared.linear.Linear.TheVariants.{Not, And, Or, Bind}
use Rattle.ms_presburger.specs.Sets.{Scope, set_form}
use Rattle.ms_presburger.specs.Tree.{Arithmetic}
use Rattle.ms_presburger.specs.View.{arithmetic_of, arithmetics}
use Rattle.ms_translation.specs.Made.{Gives}
use Rattle.ms_presburger.specs.inner.Scopes.{AreAllFactorsSmall, AreFactorsSmall, IsAsIn, bound_in, hidden_by, variable_in, wrapped}
use Rattle.ms_presburger.proofs.Operands.{all-translated, some-translated, bound-translated, extent-operand, small-more}
use Rattle.ms_presburger.proofs.Kept.{both-made, done-then, gives-both, gives-then, kept, kept-all, kept-both, kept-then, then-both, where-made, wrapped-apart}
use Rattle.ms_presburger.proofs.Lookups.{as-in-both, length-hidden}
use Rattle.ms_presburger.proofs.Views.{arithmetic_of-Not, arithmetic_of-And, arithmetic_of-Or, arithmetic_of-Bind, implication_of, equivalence_of}
use Rattle.ms_presburger.proofs.formulas.+formulas.Goals as goal

pub formula_at-returns-in-And-clause-made : goal.formula_at-returns-in-And-clause-made
formula_at-returns-in-And-clause-made t c = λ scope known.
    let operands = c.slice-in-And.result.now in
    let x = c.args.x in
    let P : Form → Type 0 = λ f. Gives c.conjunction.result f in
    let whole = all-translated operands c.args.formula.now scope x cc in
    subst P whole (c.conjunction.ensures (map (λ operand. set_form (arithmetic_of operand) scope x) operands) (c.formulas_at.ensures.made scope known))

pub formula_at-returns-in-Or-clause-made : goal.formula_at-returns-in-Or-clause-made
formula_at-returns-in-Or-clause-made t c = λ scope known.
    let operands = c.slice-in-Or.result.now in
    let x = c.args.x in
    let P : Form → Type 0 = λ f. Gives c.disjunction.result f in
    let whole = some-translated operands c.args.formula.now scope x cc in
    subst P whole (c.disjunction.ensures (map (λ operand. set_form (arithmetic_of operand) scope x) operands) (c.formulas_at-in-Or.ensures.made scope known))

pub formulas_at-formula_at-requires : goal.formulas_at-formula_at-requires
formulas_at-formula_at-requires t c =
    let few = extent-operand c.args.operands.now c.loop-operand.operand-index c.operand-item.result c.loop-operand-test.true c.operand-item.is in
    (search (rules, the_lemmas), (omega (arith, few, c.requires.room), omega (arith, few, c.requires.few)))

pub formula_at-returns-in-Not-clause-small : goal.formula_at-returns-in-Not-clause-small
formula_at-returns-in-Not-clause-small t c =
    let body = c.get-in-Not.result.now in
    let is = sym (ap arithmetic_of (c.in-Not.is ∙ ap (λ (b : Linear). Not b) (sym c.get-in-Not.ensures)) ∙ arithmetic_of-Not body) in
    let P : Arithmetic → Type 0 = λ g. OnOk c.negation.result (AreFactorsSmall g) in
    subst P is (kept c.formula_at-in-Not.result c.negation.result (λ f. sets.negation f) (λ same. cc) c.negation.ensures (AreFactorsSmall (arithmetic_of body)) c.formula_at-in-Not.ensures.small)

pub formula_at-returns-in-And-clause-small : goal.formula_at-returns-in-And-clause-small
formula_at-returns-in-And-clause-small t c =
    let operands = c.slice-in-And.result.now in
    let is = sym (ap arithmetic_of (c.in-And.is ∙ ap (λ (l : List Linear). And l) (sym c.slice-in-And.ensures)) ∙ arithmetic_of-And operands) in
    let P : Arithmetic → Type 0 = λ g. OnOk c.conjunction.result (AreFactorsSmall g) in
    subst P is (kept-all c.formulas_at.result c.conjunction.result (λ fs. sets.conjunction fs) (λ same. cc) c.conjunction.ensures (AreAllFactorsSmall (arithmetics (map arithmetic_of operands))) c.formulas_at.ensures.small)

pub formula_at-returns-in-Or-clause-small : goal.formula_at-returns-in-Or-clause-small
formula_at-returns-in-Or-clause-small t c =
    let operands = c.slice-in-Or.result.now in
    let is = sym (ap arithmetic_of (c.in-Or.is ∙ ap (λ (l : List Linear). Or l) (sym c.slice-in-Or.ensures)) ∙ arithmetic_of-Or operands) in
    let P : Arithmetic → Type 0 = λ g. OnOk c.disjunction.result (AreFactorsSmall g) in
    subst P is (kept-all c.formulas_at-in-Or.result c.disjunction.result (λ fs. sets.disjunction fs) (λ same. cc) c.disjunction.ensures (AreAllFactorsSmall (arithmetics (map arithmetic_of operands))) c.formulas_at-in-Or.ensures.small)

pub formula_at-returns-in-Implies-clause-small : goal.formula_at-returns-in-Implies-clause-small
formula_at-returns-in-Implies-clause-small t c =
    let left = c.get-in-Implies.result.now in
    let right = c.get-in-Implies-2.result.now in
    let is = sym (implication_of c.in-Implies.is c.get-in-Implies.ensures c.get-in-Implies-2.ensures) in
    let P : Arithmetic → Type 0 = λ g. OnOk c.implication.result (AreFactorsSmall g) in
    subst P is (kept-both c.formula_at-left.result c.formula_at-in-Implies.result c.implication.result (λ f g. sets.implication f g) (λ g same. cc) (λ f same. cc) c.implication.ensures (AreFactorsSmall (arithmetic_of left)) (AreFactorsSmall (arithmetic_of right))
    c.formula_at-left.ensures.small c.formula_at-in-Implies.ensures.small)

pub formula_at-returns-in-Iff-clause-small : goal.formula_at-returns-in-Iff-clause-small
formula_at-returns-in-Iff-clause-small t c =
    let left = c.get-in-Iff.result.now in
    let right = c.get-in-Iff-2.result.now in
    let is = sym (equivalence_of c.in-Iff.is c.get-in-Iff.ensures c.get-in-Iff-2.ensures) in
    let P : Arithmetic → Type 0 = λ g. OnOk c.equivalence.result (AreFactorsSmall g) in
    subst P is (kept-both c.formula_at-left-in-Iff.result c.formula_at-in-Iff.result c.equivalence.result (λ f g. sets.equivalence f g) (λ g same. cc) (λ f same. cc) c.equivalence.ensures (AreFactorsSmall (arithmetic_of left)) (AreFactorsSmall (arithmetic_of right))
    c.formula_at-left-in-Iff.ensures.small c.formula_at-in-Iff.ensures.small)

pub formula_at-returns-in-Implies-clause-made : goal.formula_at-returns-in-Implies-clause-made
formula_at-returns-in-Implies-clause-made t c = λ scope known.
    let left = c.get-in-Implies.result.now in
    let right = c.get-in-Implies-2.result.now in
    let before = c.args.bindings.now in
    let middle = c.formula_at-left.new.bindings in
    let is = sym (implication_of c.in-Implies.is c.get-in-Implies.ensures c.get-in-Implies-2.ensures) in
    let f = set_form (arithmetic_of left) scope c.args.x in
    let g = set_form (arithmetic_of right) scope c.args.x in
    let P : Arithmetic → Type 0 = λ h. Gives c.implication.result (set_form h scope c.args.x) in
    subst P is (gives-both c.formula_at-left.result c.formula_at-in-Implies.result c.implication.result (λ f g. sets.implication f g) (λ g same. cc) (λ f same. cc) c.implication.ensures f g (c.formula_at-left.ensures.made scope known)
    (where-made c.formula_at-left.result (IsAsIn (variable_in before) middle) (Gives c.formula_at-in-Implies.result g) (λ same. c.formula_at-in-Implies.ensures.made scope (as-in-both scope before middle known same)) c.formula_at-left.ensures.kept))

pub formula_at-returns-in-Implies-clause-kept : goal.formula_at-returns-in-Implies-clause-kept
formula_at-returns-in-Implies-clause-kept t c =
    let before = c.args.bindings.now in
    let middle = c.formula_at-left.new.bindings in
    let after = c.formula_at-in-Implies.new.bindings in
    then-both c.formula_at-left.result c.formula_at-in-Implies.result c.implication.result (λ f g. sets.implication f g) (λ g same. cc) (λ f same. cc) c.implication.ensures (IsAsIn (variable_in before) middle) (IsAsIn (variable_in middle) after) (IsAsIn (variable_in before) after)
    c.formula_at-left.ensures.kept c.formula_at-in-Implies.ensures.kept (λ one two. as-in-both (variable_in before) middle after one two)

pub formula_at-returns-in-Iff-clause-made : goal.formula_at-returns-in-Iff-clause-made
formula_at-returns-in-Iff-clause-made t c = λ scope known.
    let left = c.get-in-Iff.result.now in
    let right = c.get-in-Iff-2.result.now in
    let before = c.args.bindings.now in
    let middle = c.formula_at-left-in-Iff.new.bindings in
    let is = sym (equivalence_of c.in-Iff.is c.get-in-Iff.ensures c.get-in-Iff-2.ensures) in
    let f = set_form (arithmetic_of left) scope c.args.x in
    let g = set_form (arithmetic_of right) scope c.args.x in
    let P : Arithmetic → Type 0 = λ h. Gives c.equivalence.result (set_form h scope c.args.x) in
    subst P is (gives-both c.formula_at-left-in-Iff.result c.formula_at-in-Iff.result c.equivalence.result (λ f g. sets.equivalence f g) (λ g same. cc) (λ f same. cc) c.equivalence.ensures f g (c.formula_at-left-in-Iff.ensures.made scope known)
    (where-made c.formula_at-left-in-Iff.result (IsAsIn (variable_in before) middle) (Gives c.formula_at-in-Iff.result g) (λ same. c.formula_at-in-Iff.ensures.made scope (as-in-both scope before middle known same)) c.formula_at-left-in-Iff.ensures.kept))

pub formula_at-returns-in-Iff-clause-kept : goal.formula_at-returns-in-Iff-clause-kept
formula_at-returns-in-Iff-clause-kept t c =
    let before = c.args.bindings.now in
    let middle = c.formula_at-left-in-Iff.new.bindings in
    let after = c.formula_at-in-Iff.new.bindings in
    then-both c.formula_at-left-in-Iff.result c.formula_at-in-Iff.result c.equivalence.result (λ f g. sets.equivalence f g) (λ g same. cc) (λ f same. cc) c.equivalence.ensures (IsAsIn (variable_in before) middle) (IsAsIn (variable_in middle) after) (IsAsIn (variable_in before) after)
    c.formula_at-left-in-Iff.ensures.kept c.formula_at-in-Iff.ensures.kept (λ one two. as-in-both (variable_in before) middle after one two)

pub formula_at-returns-in-Not-clause-kept : goal.formula_at-returns-in-Not-clause-kept
formula_at-returns-in-Not-clause-kept t c =
    kept c.formula_at-in-Not.result c.negation.result (λ f. sets.negation f) (λ same. cc) c.negation.ensures (IsAsIn (variable_in c.args.bindings.now) c.formula_at-in-Not.new.bindings) c.formula_at-in-Not.ensures.kept

pub formula_at-returns-in-And-clause-kept : goal.formula_at-returns-in-And-clause-kept
formula_at-returns-in-And-clause-kept t c =
    kept-all c.formulas_at.result c.conjunction.result (λ fs. sets.conjunction fs) (λ same. cc) c.conjunction.ensures (IsAsIn (variable_in c.args.bindings.now) c.formulas_at.new.bindings) c.formulas_at.ensures.kept

pub formula_at-returns-in-Or-clause-kept : goal.formula_at-returns-in-Or-clause-kept
formula_at-returns-in-Or-clause-kept t c =
    kept-all c.formulas_at-in-Or.result c.disjunction.result (λ fs. sets.disjunction fs) (λ same. cc) c.disjunction.ensures (IsAsIn (variable_in c.args.bindings.now) c.formulas_at-in-Or.new.bindings) c.formulas_at-in-Or.ensures.kept

pub formula_at-returns-in-Compare-clause-made : goal.formula_at-returns-in-Compare-clause-made
formula_at-returns-in-Compare-clause-made t c = λ scope known. (let made = c.relation.ensures.made scope known in search (rules, the_lemmas, made))

pub formula_at-unbind-unbound-requires : goal.formula_at-unbind-unbound-requires
formula_at-unbind-unbound-requires t c =
    let names = c.slice-in-Bind.result.now in
    let scope = variable_in c.args.bindings.now in
    ap (λ (l : List ℕ). length l) (c.slice-in-Bind-3.ensures ∙ c.in_ok-hidden-in-Bind.ensures.hidden scope (λ name. refl))
    ∙ (length-hidden c.args.x scope names ∙ ap (λ (l : List (List ℕ)). length l) (c.slice-in-Bind.ensures ∙ sym c.slice-in-Bind-2.ensures))

pub formula_at-returns-in_ok-hidden-in-Bind-clause-made : goal.formula_at-returns-in_ok-hidden-in-Bind-clause-made
formula_at-returns-in_ok-hidden-in-Bind-clause-made t c = λ scope known.
    let x = c.args.x in
    let quant = c.in-Bind.quant in
    let names = c.in-Bind.names in
    let body = c.get-in-Bind.result.now in
    let is : c.args.formula.now ≡ Bind quant names body = c.in-Bind.is ∙ ap (λ (b : Linear). Bind quant names b) (sym c.get-in-Bind.ensures) in
    let Known : List (List ℕ) → Type 0 = λ l. IsAsIn (bound_in x scope l) c.bind.new.bindings in
    let there = subst Known c.slice-in-Bind.ensures (c.in_ok-hidden-in-Bind.ensures.scope scope known) in
    let count : c.len-count.result ≡ length names = c.len-count.ensures in
    let made = c.formula_at-body.ensures.made (bound_in x scope names) there in
    let Body : ℕ → Type 0 = λ n. Gives c.formula_at-body.result (set_form (arithmetic_of body) (bound_in x scope names) (x + 2 * n)) in
    let f = set_form (arithmetic_of body) (bound_in x scope names) (x + 2 * length names) in
    let inner = gives-then c.formula_at-body.result c.and_then.result c.and_then.ensures.made f (subst Body count made) in
    let Whole : ℕ → Type 0 = λ n. Gives c.wrapped.result (wrapped quant n x f) in
    let P : Form → Type 0 = λ g. Gives c.wrapped.result g in
    subst P (bound-translated quant names body c.args.formula.now scope x is) (subst Whole count (c.wrapped.ensures f inner))

pub formula_at-returns-in_ok-hidden-in-Bind-clause-kept : goal.formula_at-returns-in_ok-hidden-in-Bind-clause-kept
formula_at-returns-in_ok-hidden-in-Bind-clause-kept t c =
    let x = c.args.x in
    let before = c.args.bindings.now in
    let scope = variable_in before in
    let names = c.slice-in-Bind-2.result.now in
    let same : c.slice-in-Bind.result.now ≡ names = c.slice-in-Bind.ensures ∙ sym c.slice-in-Bind-2.ensures in
    let Known : List (List ℕ) → Type 0 = λ l. IsAsIn (bound_in x scope l) c.bind.new.bindings in
    let bound = subst Known same (c.in_ok-hidden-in-Bind.ensures.scope scope (λ name. refl)) in
    let hidden : c.slice-in-Bind-3.result.now ≡ hidden_by x scope names =
    c.slice-in-Bind-3.ensures ∙ (c.in_ok-hidden-in-Bind.ensures.hidden scope (λ name. refl) ∙ ap (hidden_by x scope) same) in
    let Inside : Type 0 = IsAsIn (variable_in c.bind.new.bindings) c.formula_at-body.new.bindings in
    let Unbinds : Type 0 = (y : ℕ) (s : Scope) → c.slice-in-Bind-3.result.now ≡ hidden_by y s names → IsAsIn (bound_in y s names) c.formula_at-body.new.bindings → IsAsIn s c.unbind-unbound.new.bindings in
    let Q : Type 0 = Inside × Unbinds in
    let inside = kept-then c.formula_at-body.result c.and_then.result c.and_then.ensures.made Inside c.formula_at-body.ensures.kept in
    let unbinds = done-then c.and_then.result c.unbind-unbound.result c.and_then.ensures.done Unbinds c.unbind-unbound.ensures in
    let whole = c.wrapped.ensures in
    let count = c.len-count.result in
    where-made c.wrapped.result Q (IsAsIn scope c.unbind-unbound.new.bindings)
    (λ done. done.1 x scope hidden (as-in-both (bound_in x scope names) c.bind.new.bindings c.formula_at-body.new.bindings bound done.0))
    (kept c.and_then.result c.wrapped.result (λ f. wrapped c.in-Bind.quant count x f) (wrapped-apart c.in-Bind.quant count x) c.wrapped.ensures Q (both-made c.and_then.result Inside Unbinds inside unbinds))

pub formula_at-returns-in_ok-hidden-in-Bind-clause-small : goal.formula_at-returns-in_ok-hidden-in-Bind-clause-small
formula_at-returns-in_ok-hidden-in-Bind-clause-small t c =
    let quant = c.in-Bind.quant in
    let names = c.in-Bind.names in
    let body = c.get-in-Bind.result.now in
    let count = c.len-count.result in
    let is = sym (ap arithmetic_of (c.in-Bind.is ∙ ap (λ (b : Linear). Bind quant names b) (sym c.get-in-Bind.ensures)) ∙ arithmetic_of-Bind quant names body) in
    let Small : Type 0 = AreFactorsSmall (arithmetic_of body) in
    let inner = kept-then c.formula_at-body.result c.and_then.result c.and_then.ensures.made Small c.formula_at-body.ensures.small in
    let P : Arithmetic → Type 0 = λ g. OnOk c.wrapped.result (AreFactorsSmall g) in
    subst P is (kept c.and_then.result c.wrapped.result (λ f. wrapped quant count c.args.x f) (wrapped-apart quant count c.args.x) c.wrapped.ensures Small inner)

pub formulas_at-loop-operand-preserved : goal.formulas_at-loop-operand-preserved
formulas_at-loop-operand-preserved t c =
    let before = c.args.bindings.now in
    let middle = c.loop-operand.bindings in
    let after = c.formula_at.new.bindings in
    record {
      made = λ scope known.
          let so_far = c.loop-operand.invariant.made scope known in
          let next = c.in_ok-formula_at.ensures.made scope (as-in-both scope before middle known c.loop-operand.invariant.kept) in
          grind (arith, common_steps);
      kept = as-in-both (variable_in before) middle after c.loop-operand.invariant.kept c.in_ok-formula_at.ensures.kept;
      small = small-more c.args.operands.now c.loop-operand.operand-index c.operand-item.result c.loop-operand-test.true c.loop-operand.invariant.small c.operand-item.is c.in_ok-formula_at.ensures.small;
    }

pub formulas_at-returns-clause-made : goal.formulas_at-returns-clause-made
formulas_at-returns-clause-made t c = λ scope known. (let made = c.loop-operand.invariant.made scope known in grind (arith, common_steps))
