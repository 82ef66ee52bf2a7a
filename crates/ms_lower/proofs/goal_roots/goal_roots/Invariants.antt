use Rattle.std.proofs.Common.{◌≡◌, [], ◌∷◌, map, take}
use Rattle.std.specs.Option.{is_some}
use Rattle.std.specs.Prelude.{filter}
use Rattle.ms_lower.specs.NumberedRoots.{main_over, renumbered_root, root_of}
use Rattle.ms_lower.proofs.goal_roots.goal_roots.Given as goal

abbrev pub invariant-loop-placed : goal.invariant-loop-placed
invariant-loop-placed l =
    map root_of l.roots
    ≡ map (renumbered_root l.tables)
    (map (λ goal. main_over l.tables l.globals (goal ∷ [])) (filter (λ placed. is_some placed.title) (take l.placed-index l.formulas)))
