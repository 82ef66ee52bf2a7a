use Rattle.std.proofs.Common.{◌≡◌, ◌+◌, ◌*◌, ◌++◌, [], ◌∷◌, List, ℕ, length, map, slice_get, Some, sym, ap, subst, ◌∙◌, arith}
use Rattle.std.specs.Option.{option_map}
use Rattle.std.proofs.lemmas.Bool.{false≢true}
use Rattle.std.proofs.lemmas.List.{length-map}
use Rattle.std.proofs.lemmas.Option.{slice_get-map, slice_get_read}
use Rattle.ms_logic.specs.declared.mode.Order.{Order}
use Rattle.ms_logic.specs.declared.mode.Order.TheVariants.{One}
use Rattle.ms_dfa.specs.declared.plain.FileVar.{FileVar}
use Rattle.ms_dfafile_outside.proofs.SetsLemmas.{AreSetsSoFar, sets-all, sets-many, sets-none, sets-number, sets-other}
use Rattle.ms_dfafile_outside.proofs.numbers.sets_before.Goals as goal
use Rattle.ms_dfafile_outside.proofs.numbers.sets_before.Goals.{then-is_number+else-before-ge-MOST, else-is_number}

pub loop-variable-init : goal.loop-variable-init
loop-variable-init c =
    let orders = map (λ v. v.order) c.args.variables.now in
    subst (λ (list : List ℕ). AreSetsSoFar orders list 0 0) (sym (c.in_ok-push.ensures.ok ∙ ap (λ (list : List ℕ). list ++ 0 ∷ []) c.new-sets.ensures)) (sets-none orders)

-- the order of the variable at a place
order-there : (variables : List FileVar) (place : ℕ) (v : FileVar) → slice_get variables place ≡ Some v → slice_get (map (λ v. v.order) variables) place ≡ Some v.order
order-there variables place v held = slice_get-map (λ (v : FileVar). v.order) variables place ∙ ap (option_map (λ (v : FileVar). v.order)) held

pub returns-then-before-ge-MOST : goal.returns-then-before-ge-MOST
returns-then-before-ge-MOST c =
    let orders = map (λ v. v.order) c.args.variables.now in
    let item = c.variable-item.result in
    let place = c.loop-variable.variable-index in
    let held = slice_get_read c.args.variables.now (length c.args.variables.now) place item (omega arith) (omega arith) c.variable-item.is in
    let number : slice_get orders place ≡ Some One = order-there c.args.variables.now place item held ∙ ap (λ (o : Order). Some o) (c.is_number.ensures.0 c.if-is_number.true) in
    sets-many orders c.loop-variable.sets place c.loop-variable.before c.loop-variable.invariant number c.if-before-ge-MOST.true

pub loop-variable-preserved : goal.loop-variable-preserved
loop-variable-preserved c =
    let orders = map (λ v. v.order) c.args.variables.now in
    let item = c.variable-item.result in
    let place = c.loop-variable.variable-index in
    let held = order-there c.args.variables.now place item (slice_get_read c.args.variables.now (length c.args.variables.now) place item (omega arith) (omega arith) c.variable-item.is) in
    let before = c.loop-variable.before in
    let pushed = c.in_ok-push-2.ensures.ok in
    elim c.if-is_number.branch [
      | then-is_number+else-before-ge-MOST w ↦
          let number : slice_get orders place ≡ Some One = held ∙ ap (λ (o : Order). Some o) (c.is_number.ensures.0 w.if-is_number.true) in
          let next : ℕ = 2 * before + 1 in
          let are = sets-number orders c.loop-variable.sets place before c.loop-variable.invariant number w.if-before-ge-MOST.false in
          subst (λ (list : List ℕ). AreSetsSoFar orders list (place + 1) c.if-is_number.before) (sym pushed)
          (subst (λ (b : ℕ). AreSetsSoFar orders (c.loop-variable.sets ++ b ∷ []) (place + 1) b) (sym w.before-is) are)
      | else-is_number w ↦
          let are = sets-other orders c.loop-variable.sets place before item.order c.loop-variable.invariant held (λ is. false≢true (sym w.if-is_number.false ∙ c.is_number.ensures.1 is)) in
          subst (λ (list : List ℕ). AreSetsSoFar orders list (place + 1) c.if-is_number.before) (sym pushed)
          (subst (λ (b : ℕ). AreSetsSoFar orders (c.loop-variable.sets ++ b ∷ []) (place + 1) b) (sym w.before-is) are)
    ]

pub returns : goal.returns
returns c =
    let orders = map (λ v. v.order) c.args.variables.now in
    let long : c.loop-variable.variable-index ≡ length orders = omega (arith, length-map c.args.variables.now (λ v. v.order)) in
    sets-all orders c.loop-variable.sets c.loop-variable.before (subst (λ n. AreSetsSoFar orders c.loop-variable.sets n c.loop-variable.before) long c.loop-variable.invariant)
