use Rattle.std.proofs.Common.{◌<◌, length, sym, subst}
use Rattle.ms_logic.specs.declared.mode.Mode.TheVariants.{Ws1s}
use Rattle.ms_dag.specs.declared.dag.Dag.{Dag}
use Rattle.ms_build.specs.Built.{AreImportsOf}
use Rattle.ms_build.specs.Roots.{AreRootsRead}
use Rattle.try_built.proofs.Samples.{nothing_imported, read, some_root}
use Rattle.try_built.proofs.graphs.states_of_root.Goals as goal

pub build-requires-clause-imports : goal.build-requires-clause-imports
build-requires-clause-imports c = subst (λ contents. AreImportsOf contents Ws1s c.args.dag.now.entries) (sym c.new-imports.ensures) (nothing_imported c.args.dag.now c.requires)

pub root-requires-clause-root : goal.root-requires-clause-root
root-requires-clause-root c = subst (λ (d : Dag). 0 < length d.roots) (sym c.in-Ok.ensures.built.dag_is) (some_root c.args.dag.now c.requires)

pub root-requires-clause-read : goal.root-requires-clause-read
root-requires-clause-read c = subst AreRootsRead (sym c.in-Ok.ensures.built.dag_is) (read c.args.dag.now c.requires)
