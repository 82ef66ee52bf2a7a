use Rattle.std.proofs.Common.{sym, ap, subst, ◌∙◌}
use Rattle.ms_diagram.specs.Numbering.{AddsOnly}
use Rattle.ms_minim.specs.inner.Origin.{IsSeen}
use Rattle.ms_minim.specs.inner.Quotient.{IsClassBehind, Quotienting}
use Rattle.ms_minim.proofs.QuotientLemmas.{IsQuotient-start}
use Rattle.ms_minim.proofs.quotient.Quotient.lead_from_start.Goals as goal

pub invariant_of-self : goal.invariant_of-self
invariant_of-self c =
    let added = c.lead_to_numbers.ensures.added in
    IsQuotient-start _ _ _ _ _ c.self.invariant c.lead_to_numbers.new.pairs c.lead_to_numbers.ensures.pairs c.lead_to_numbers.ensures.numbering
    (subst (λ root. AddsOnly (IsClassBehind c.self.inside.source.automaton.now c.self.inside.source.partition.classes root) c.self.inside.pairs c.lead_to_numbers.new.pairs) c.start_ref-root.ensures.start added)

pub lead_to_numbers-requires-clause-seen : goal.lead_to_numbers-requires-clause-seen
lead_to_numbers-requires-clause-seen c =
    subst (IsSeen c.args.tables.now.origins) (ap (λ (q : Quotienting). q.content.start) (sym c.self.view_is) ∙ sym c.start_ref-root.ensures.start) c.requires.tables.origins.start
