use Rattle.std.proofs.Common.{◌≡◌, [], map, take}
use Rattle.ms_logic.specs.View.{formula_of, forms}
use Rattle.ms_lower.specs.NumberedRoots.{globals_over, renumbered_root, root_of, roots_among, seen_over}
use Rattle.ms_lower.proofs.all_roots.export_roots.Given as goal

abbrev pub invariant-loop-placed : goal.invariant-loop-placed
invariant-loop-placed l = record {
  roots :
      map root_of l.all
      ≡ map (renumbered_root l.tables)
      (roots_among l.tables l.checked.exports (globals_over 0 [] l.checked.globals) (forms (map (λ placed. formula_of placed.formula) (take l.placed-index l.checked.formulas))));
  seen : seen_over [] l.seen ≡ globals_over 0 [] l.checked.globals;
}
