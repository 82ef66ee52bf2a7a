use Rattle.std.proofs.Common.{◌≡◌, ℕ, ◌-◌, rules, List, take, sym, ap, ◌∙◌, subst, arith}
use Rattle.ms_presburger.specs.declared.linear.Linear.{Linear, the_lemmas}
use Rattle.ms_presburger.specs.declared.linear.Linear.TheVariants.{Compare, Bind}
use Rattle.ms_presburger.specs.declared.linear.Part.{Part}
use Rattle.ms_presburger.specs.Tree.{Arithmetic, free_places, names_in_sum}
use Rattle.ms_presburger.specs.View.{arithmetic_of}
use Rattle.ms_presburger.proofs.Operands.{extent-operand, extent-Bind}
use Rattle.ms_presburger.proofs.Views.{arithmetic_of-Bind, implication_of, equivalence_of}
use Rattle.ms_presburger_parse.specs.inner.Gathering.{Binds, Gathers, bound_in, count_of}
use Rattle.ms_presburger_parse.proofs.Gatherings.{count_of-most, gathers_append, gathers_both, gathers_bound, places-next, places_of}
use Rattle.std.proofs.lemmas.Result.{on_ok_weaker}
use Rattle.ms_presburger_parse.proofs.Trees.{arithmetic_of-Compare}
use Rattle.ms_presburger_parse.proofs.free.+gathering.Goals as goal

pub gather-returns-in_ok-mention_sum-in-Compare : goal.gather-returns-in_ok-mention_sum-in-Compare
gather-returns-in_ok-mention_sum-in-Compare t c =
    let left = c.slice.result.now in
    let right = c.slice-in-Compare.result.now in
    let r = c.in-Compare.field-0 in
    let parts = ap (λ (l : List Part). Compare r l c.in-Compare.right) (sym c.slice.ensures) ∙ ap (λ (l : List Part). Compare r left l) (sym c.slice-in-Compare.ensures) in
    let is = ap arithmetic_of (c.in-Compare.is ∙ parts) ∙ arithmetic_of-Compare r left right in
    gathers_both (arithmetic_of c.args.formula.now) c.args.gathered.now c.mention_sum.new.gathered c.mention_sum-in-Compare.new.gathered (names_in_sum left) (names_in_sum right) c.mention_sum-in-Compare.result (ap free_places is) c.in_ok-mention_sum-in-Compare.ensures c.mention_sum-in-Compare.ensures

pub gather-returns-in_ok-gather-in-Implies : goal.gather-returns-in_ok-gather-in-Implies
gather-returns-in_ok-gather-in-Implies t c =
    let is = implication_of c.in-Implies.is c.get-in-Implies.ensures c.get-in-Implies-2.ensures in
    gathers_both (arithmetic_of c.args.formula.now) c.args.gathered.now c.gather-in-Implies.new.gathered c.gather-in-Implies-2.new.gathered _ _ c.gather-in-Implies-2.result (ap free_places is) c.in_ok-gather-in-Implies.ensures c.gather-in-Implies-2.ensures

pub gather-returns-in_ok-gather-in-Iff : goal.gather-returns-in_ok-gather-in-Iff
gather-returns-in_ok-gather-in-Iff t c =
    let is = equivalence_of c.in-Iff.is c.get-in-Iff.ensures c.get-in-Iff-2.ensures in
    gathers_both (arithmetic_of c.args.formula.now) c.args.gathered.now c.gather-in-Iff.new.gathered c.gather-in-Iff-2.new.gathered _ _ c.gather-in-Iff-2.result (ap free_places is) c.in_ok-gather-in-Iff.ensures c.gather-in-Iff-2.ensures

pub gather-gather-requires-in-Bind : goal.gather-gather-requires-in-Bind
gather-gather-requires-in-Bind t c =
    let names = c.slice-in-Bind.result.now in
    let body = c.get-in-Bind.result.now in
    let binds = c.in_ok-bind-in-Bind.ensures in
    let is : c.args.formula.now ≡ Bind c.in-Bind.field-0 names body =
    c.in-Bind.is ∙ ap (λ (l : List (List ℕ)). Bind c.in-Bind.field-0 l c.in-Bind.body) (sym c.slice-in-Bind.ensures) ∙ ap (λ (b : Linear). Bind c.in-Bind.field-0 names b) (sym c.get-in-Bind.ensures) in
    (search (rules, the_lemmas), (binds.marked, λ x. omega (arith, binds.bound x, count_of-most names x, c.requires.room x, extent-Bind c.in-Bind.field-0 names body c.args.formula.now is)))

pub gather-returns-in_ok-gather-in-Bind : goal.gather-returns-in_ok-gather-in-Bind
gather-returns-in_ok-gather-in-Bind t c =
    let before = c.args.gathered.now in
    let bound = c.bind.new.gathered in
    let middle = c.gather-in-Bind.new.gathered in
    let after = c.unbind.new.gathered in
    let names = c.slice-in-Bind.result.now in
    let body = c.get-in-Bind.result.now in
    let q = c.in-Bind.field-0 in
    let parts = ap (λ (l : List (List ℕ)). Bind q l c.in-Bind.body) (sym c.slice-in-Bind.ensures) ∙ ap (λ (b : Linear). Bind q names b) (sym c.get-in-Bind.ensures) in
    let is = ap arithmetic_of (c.in-Bind.is ∙ parts) ∙ arithmetic_of-Bind q names body in
    let again : c.slice-in-Bind-2.result.now ≡ names = c.slice-in-Bind-2.ensures ∙ sym c.slice-in-Bind.ensures in
    let P : Arithmetic → Type 0 = λ f. Gathers before after (free_places f) in
    let Unbinds : List (List ℕ) → Type 0 = λ xs. Binds middle after (λ x. bound_in middle x - count_of xs x) in
    on_ok_weaker {P = Unbinds c.slice-in-Bind-2.result.now} {Q = P (arithmetic_of c.args.formula.now)} c.unbind.result
    (λ unbinds. subst P (sym is) (gathers_bound before bound middle after names (free_places (arithmetic_of body)) c.in_ok-bind-in-Bind.ensures c.in_ok-gather-in-Bind.ensures (subst Unbinds again unbinds))) c.unbind.ensures

pub gather_all-gather-requires : goal.gather_all-gather-requires
gather_all-gather-requires t c =
    let few = extent-operand c.args.operands.now c.loop-operand.operand-index c.operand-item.result c.loop-operand-test.true c.operand-item.is in
    (search (rules, the_lemmas), (c.loop-operand.invariant.marked, λ x. omega (arith, few, c.loop-operand.invariant.bound x, c.requires.room x)))

pub gather_all-loop-operand-preserved : goal.gather_all-loop-operand-preserved
gather_all-loop-operand-preserved t c =
    let operands = c.args.operands.now in
    let i = c.loop-operand.operand-index in
    let f = c.operand-item.result in
    let next = places-next operands i f c.loop-operand-test.true c.operand-item.is in
    subst (Gathers c.args.gathered.now c.gather.new.gathered) (sym next)
    (gathers_append c.args.gathered.now c.loop-operand.gathered c.gather.new.gathered (places_of (take i operands)) (free_places (arithmetic_of f)) c.loop-operand.invariant c.in_ok-gather.ensures)
