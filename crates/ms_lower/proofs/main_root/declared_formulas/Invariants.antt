use Rattle.std.proofs.Common.{◌≡◌, [], map, take}
use Rattle.std.specs.Option.{is_none}
use Rattle.std.specs.Prelude.{filter}
use Rattle.ms_logic_core.specs.CoreForm.{core_form_of}
use Rattle.ms_logic_core.specs.Spread.{own_names, spread_each}
use Rattle.ms_logic.specs.View.{formula_of, forms}
use Rattle.ms_lower.specs.Callees.{callees_in}
use Rattle.ms_lower.specs.Numbering.{numbering_of, renumbered}
use Rattle.ms_lower.proofs.main_root.declared_formulas.Given as goal

abbrev pub invariant-loop-placed : goal.invariant-loop-placed
invariant-loop-placed l = record {
  cores :
      map core_form_of l.cores
      ≡ map (renumbered (numbering_of l.tables))
      (spread_each (callees_in l.tables) (forms (map (λ placed. formula_of placed.formula) (filter (λ placed. is_none placed.title) (take l.placed-index l.formulas)))) own_names l.free);
  scope : l.scope ≡ [];
}
