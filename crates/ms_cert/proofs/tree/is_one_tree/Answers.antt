use Rattle.std.proofs.Common.{◌≡◌, ℕ, suc, ◌+◌, ◌-◌, ◌∷◌, drop, sym, subst, arith}
use Rattle.std.proofs.lemmas.Bool.Decides.{nat_tests}
use Rattle.ms_cert.specs.declared.cert.TreeLine.{TreeLine}
use Rattle.ms_cert.specs.declared.cert.TreeLine.TheVariants.{At, By}
use Rattle.ms_cert.specs.inner.Separation.{SpellTrees}
use Rattle.ms_cert.proofs.ListLemmas.{drop-item, drop-past}
use Rattle.ms_cert.proofs.TreesLemmas.{branch-from, branch-to, leaf-from, leaf-to, no-tree}
use Rattle.ms_cert.proofs.tree.is_one_tree.Goals as goal
use Rattle.ms_cert.proofs.tree.is_one_tree.Goals.{in-At, in-By}

pub loop-line-preserved : goal.loop-line-preserved
loop-line-preserved c =
    let lines = c.args.lines.now in
    let place = c.loop-line.line-index in
    let rest = drop (place + 1) lines in
    let front = drop-item lines place c.line-item.result c.loop-line-test.true c.line-item.is in
    let count = c.loop-line.open in
    let some : count ≡ suc (count - 1) = omega (arith, c.if-open-eq0.false) in
    elim c.match-line.branch [
      | in-At w ↦ (
          let Spell = λ (n : ℕ) (l : TreeLine). SpellTrees n (l ∷ rest) in
          let less : count - 1 ≡ c.match-line.open = sym w.open-is in
          record {
            to = λ all. subst (λ (n : ℕ). SpellTrees n rest) less (leaf-to (count - 1) w.in-At.field-0 rest (subst (λ (n : ℕ). Spell n (At w.in-At.field-0)) some (subst (Spell count) w.in-At.is (subst (SpellTrees count) front (c.loop-line.invariant.to all)))));
            from = λ left. c.loop-line.invariant.from (subst (SpellTrees count) (sym front) (subst (Spell count) (sym w.in-At.is) (subst (λ (n : ℕ). Spell n (At w.in-At.field-0)) (sym some) (leaf-from (count - 1) w.in-At.field-0 rest (subst (λ (n : ℕ). SpellTrees n rest) (sym less) left)))));
            few = omega (arith, c.loop-line.invariant.few, less);
          })
      | in-By w ↦ (
          let Spell = λ (n : ℕ) (l : TreeLine). SpellTrees n (l ∷ rest) in
          let own = By w.in-By.field-0 w.in-By.field-1 in
          let more : suc (suc (count - 1)) ≡ c.match-line.open = omega (arith, w.open-is, some) in
          record {
            to = λ all. subst (λ (n : ℕ). SpellTrees n rest) more (branch-to (count - 1) w.in-By.field-0 w.in-By.field-1 rest (subst (λ (n : ℕ). Spell n own) some (subst (Spell count) w.in-By.is (subst (SpellTrees count) front (c.loop-line.invariant.to all)))));
            from = λ left. c.loop-line.invariant.from (subst (SpellTrees count) (sym front) (subst (Spell count) (sym w.in-By.is) (subst (λ (n : ℕ). Spell n own) (sym some) (branch-from (count - 1) w.in-By.field-0 w.in-By.field-1 rest (subst (λ (n : ℕ). SpellTrees n rest) (sym more) left)))));
            few = omega (arith, c.loop-line.invariant.few, more);
          })
    ]

pub returns : goal.returns
returns c =
    let count = c.loop-line.open in
    let none = drop-past c.args.lines.now c.loop-line.line-index c.loop-line-test.false in (
      λ yes. c.loop-line.invariant.from (let closed : count ≡ 0 = grind (arith, nat_tests) in subst (λ (n : ℕ). SpellTrees n (drop c.loop-line.line-index c.args.lines.now)) (sym closed) none),
      λ one. let closed = no-tree count (subst (SpellTrees count) none (c.loop-line.invariant.to one)) in grind (arith, nat_tests),
    )
