use Rattle.std.proofs.Common.{rules, ◌≡◌, map, None, arith}
use Rattle.std.proofs.lemmas.Grind.{common_steps}
use Rattle.ms_names_checked.proofs.CheckedSource.{meets-rules}
use Rattle.ms_names_rules.specs.Declarations.{first_fault_of}
use Rattle.ms_names_rules.specs.TypedSource.{IsTyped}
use Rattle.ms_parse_grammar.specs.View.{declared_of}
use Rattle.ms_names_rules.proofs.NumberedChecked.{well-numbered}
use Rattle.ms_names.proofs.source.check.Goals as goal

pub returns-clause-numbered : goal.returns-clause-numbered
returns-clause-numbered c =
    let is_typed : IsTyped c.args.loaded.now c.checked.result = first_of (search rules, grind (arith, common_steps)) in
    let right : first_fault_of c.args.loaded.now.mode (map declared_of c.args.loaded.now.items) ≡ None = first_of (search rules, grind (arith, common_steps)) in
    well-numbered c.args.loaded.now c.checked.result is_typed right

pub returns-clause-meets_rules : goal.returns-clause-meets_rules
returns-clause-meets_rules c =
    let is_typed : IsTyped c.args.loaded.now c.checked.result = first_of (search rules, grind (arith, common_steps)) in
    let right : first_fault_of c.args.loaded.now.mode (map declared_of c.args.loaded.now.items) ≡ None = first_of (search rules, grind (arith, common_steps)) in
    meets-rules c.args.loaded.now c.checked.result is_typed right
