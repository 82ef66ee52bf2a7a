use Rattle.std.proofs.Common.{◌≡◌, ◌+◌, [], ◌∷◌, List, length, length-append, slice_get, Some, ap, subst, ◌∙◌, arith}
use Rattle.ms_logic_words.specs.declared.sign.Sign.{Sign}
use Rattle.ms_logic_words.specs.Content.{Content}
use Rattle.ms_build_source.proofs.GoalRoots.{more_roots}
use Rattle.ms_build_source.proofs.roots.goal_automata.Goals as goal

pub loop-root-preserved : goal.loop-root-preserved
loop-root-preserved c =
    let inv = c.loop-root.invariant in
    let contents = c.loop-root.automata in
    let content = c.in_ok-automaton.automaton in
    let plan = c.args.built.now.plan in
    let made = c.in_ok-automaton.ensures in
    let pushed = c.in-Ok.ensures.ok in
    record {
      all = let more = ap (λ (l : List (Content Sign)). length l) pushed ∙ length-append contents (content ∷ []) in omega (arith, more, inv.all);
      each = λ place other held.
          more_roots c.args.limit plan (c.args.exports + 1) c.loop-root.root contents content inv.all inv.each made.root made.within place other
          (subst (λ (l : List (Content Sign)). slice_get l place ≡ Some other) pushed held);
    }

pub returns-clause-roots : goal.returns-clause-roots
returns-clause-roots c = record { all = omega (arith, c.loop-root.invariant.all, c.requires.count); each = c.loop-root.invariant.each }
