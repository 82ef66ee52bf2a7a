use Rattle.std.proofs.Common.{ap, ◌∙◌}
use Rattle.ms_logic_core.specs.CoreForm.{core_form_of, imported}
use Rattle.ms_logic_core.proofs.CoreViews.{core_form_of-Import}
use Rattle.ms_lower.specs.Callees.{callees_in}
use Rattle.ms_lower.specs.inner.Scope.{names_in}
use Rattle.ms_lower.proofs.Callees.{import_numbered, imported_in}
use Rattle.ms_lower.proofs.relations.import.Goals as goal

pub returns : goal.returns
returns c =
    let tables = c.args.tables.now in
    let names = names_in c.args.scope.now in
    ap core_form_of c.in_ok-on_heap.ensures
    ∙ (core_form_of-Import c.args.import c.in_ok-numbers.numbers
    ∙ ap (imported c.args.import) (c.in_ok-numbers.ensures ∙ import_numbered tables c.args.import names c.pairs_of.result.now ((callees_in tables).imported c.args.import) c.pairs_of.ensures (imported_in tables c.args.import)))
