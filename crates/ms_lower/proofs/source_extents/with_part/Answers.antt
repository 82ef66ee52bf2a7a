use Rattle.std.proofs.Common.{sym, subst, ◌∙◌, arith}
use Rattle.ms_lower.specs.TooDeep.{IsFound}
use Rattle.ms_lower.proofs.Parts.{found_counted, found_deep, found_before, found_earlier, found_still}
use Rattle.ms_lower.proofs.source_extents.with_part.Goals as goal

pub returns-in-Ok-Some : goal.returns-in-Ok-Some
returns-in-Ok-Some c = λ parts extents found one.
    found_counted parts (record { item = c.args.declared.item; at = c.args.declared.at; extents = extents }) c.in-Ok-Some.found c.in-Ok-Some.count c.sum.result
    (subst (IsFound parts) c.in-Ok-Some.is-0 found) (sym c.in-Ok-Some.is-1 ∙ one) c.sum.ensures

pub returns-in-Ok-None : goal.returns-in-Ok-None
returns-in-Ok-None c = λ parts extents found one.
    found_deep parts (record { item = c.args.declared.item; at = c.args.declared.at; extents = extents }) c.in-Ok-None.field-0-0
    (subst (IsFound parts) c.in-Ok-None.is-0 found) (sym c.in-Ok-None.is-1 ∙ one)

pub returns-in-Err-Some : goal.returns-in-Err-Some
returns-in-Err-Some c = λ parts extents found one.
    found_still parts (record { item = c.args.declared.item; at = c.args.declared.at; extents = extents }) c.in-Err-Some.deep c.in-Err-Some.field-0-1
    (subst (IsFound parts) c.in-Err-Some.is-0 found) (sym c.in-Err-Some.is-1 ∙ one)

pub returns-then-deep-declared : goal.returns-then-deep-declared
returns-then-deep-declared c = λ parts extents found one.
    found_before parts (record { item = c.args.declared.item; at = c.args.declared.at; extents = extents }) c.in-Err-None.deep
    (subst (IsFound parts) c.in-Err-None.is-0 found) (λ deep. c.if-deep-declared.true)

pub returns-else-deep-declared : goal.returns-else-deep-declared
returns-else-deep-declared c = λ parts extents found one.
    found_earlier parts (record { item = c.args.declared.item; at = c.args.declared.at; extents = extents }) c.in-Err-None.deep
    (subst (IsFound parts) c.in-Err-None.is-0 found) (sym c.in-Err-None.is-1 ∙ one) (omega arith)
