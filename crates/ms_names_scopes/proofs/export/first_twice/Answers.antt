use Rattle.std.proofs.Common.{◌-◌, ◌<◌, length, if◌then◌else◌, Some, sym, ap, ◌∙◌, arith}
use Rattle.std.specs.Option.{option_copied}
use Rattle.ms_names_rules.proofs.Repeats.{behind-next, found-next}
use Rattle.ms_names_scopes.proofs.export.first_twice.Goals as goal
use Rattle.ms_names_scopes.proofs.export.first_twice.Goals.{then-contains, else-contains}

pub loop-left-preserved : goal.loop-left-preserved
loop-left-preserved c =
    let names = c.args.names.now in
    let left = c.loop-left.left in
    let n = c.index-names-left.result in
    let below : left - 1 < length names = omega (arith, c.loop-left.invariant.left, c.loop-left-test.true) in
    let found =
    found-next names c.loop-left.behind (option_copied c.loop-left.found) left n c.contains.result
    c.loop-left-test.true below c.index-names-left.is c.loop-left.invariant.behind c.loop-left.invariant.found c.contains.ensures in
    record {
      left = omega (arith, c.loop-left.invariant.left);
      behind =
          behind-next names c.loop-left.behind c.add.new.self left n c.loop-left-test.true below c.index-names-left.is
          c.loop-left.invariant.behind c.in_ok-add.ensures;
      found =
          elim c.if-contains.branch [
            | then-contains w ↦ ap option_copied w.found-is ∙ (ap (λ b. if b then Some n else option_copied c.loop-left.found) (sym w.if-contains.true) ∙ found)
            | else-contains w ↦ ap option_copied w.found-is ∙ (ap (λ b. if b then Some n else option_copied c.loop-left.found) (sym w.if-contains.false) ∙ found)
          ];
    }
