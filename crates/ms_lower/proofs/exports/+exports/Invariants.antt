use Rattle.std.proofs.Common.{◌≡◌, [], map, take}
use Rattle.ms_logic.specs.View.{formula_of, forms}
use Rattle.ms_lower.specs.NumberedRoots.{renumbered_root, root_of, roots_among, seen_over}
use Rattle.ms_lower.proofs.exports.+exports.Given as goal

abbrev pub invariant-roots_of_each-loop-operand : goal.invariant-roots_of_each-loop-operand
invariant-roots_of_each-loop-operand l = record {
  roots :
      map root_of l.all
      ≡ map (renumbered_root l.tables) (roots_among l.tables l.exports (seen_over [] l.initial.seen) (forms (map formula_of (take l.operand-index l.operands))));
  seen : l.seen ≡ l.initial.seen;
}
