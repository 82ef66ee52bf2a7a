use Rattle.std.proofs.Common.{◌≡◌, [], min, refl, ap, ◌∙◌}
use Rattle.ms_logic.specs.View.{formula_of}
use Rattle.ms_logic_core.specs.CoreForm.{core_form_of}
use Rattle.ms_lower.specs.declared.tables.Tables.{Tables}
use Rattle.ms_lower.specs.NumberedRoots.{seen_over, with_orders}
use Rattle.ms_lower.proofs.SeenVariables.{first_free_above, root_made}
use Rattle.ms_lower.proofs.exports.export_root.Goals as goal

pub returns : goal.returns
returns c =
    let seen = seen_over [] c.args.seen.now in
    let T = c.args.tables.now in
    let own : Tables = record { alloc = T.alloc; kept = c.min.result; globals = T.globals; callable = T.callable; predicates = T.predicates; imports = T.imports } in
    let first : c.in-Ok.first ≡ c.first_above-free.result = c.in-Ok.ensures.1 in
    root_made T own (formula_of c.args.source.now) (with_orders seen c.args.variables.now) c.in_ok-numbers.numbers c.into_inner.result c.new-scope.result c.first_above-free.result
    refl refl refl refl (c.min.ensures ∙ ap (min T.globals) first)
    c.in_ok-numbers.ensures (ap core_form_of c.into_inner.ensures ∙ c.in_ok-core.ensures.core) c.new-scope.ensures (c.first_above-free.ensures ∙ first_free_above seen c.args.variables.now)
