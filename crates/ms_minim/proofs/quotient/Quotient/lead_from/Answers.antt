use Rattle.std.proofs.Common.{sym, subst}
use Rattle.ms_minim.specs.inner.Origin.{AreOrigins}
use Rattle.ms_minim.specs.inner.Quotient.{Quotienting}
use Rattle.ms_minim.proofs.OriginLemmas.{seen_next}
use Rattle.ms_minim.proofs.QuotientLemmas.{class_within, state_within, IsQuotient-next, Builds-leads_on}
use Rattle.ms_minim.proofs.quotient.Quotient.lead_from.Goals as goal

pub get-member-requires : goal.get-member-requires
get-member-requires c = class_within _ _ _ _ _ c.self.invariant c.args.state c.get-class.result c.get-class.ensures

pub next_ref-root-requires : goal.next_ref-root-requires
next_ref-root-requires c = state_within _ _ _ _ _ c.self.invariant c.get-class.result.0 c.get-member.result.now c.get-member.ensures

pub invariant_of-self : goal.invariant_of-self
invariant_of-self c =
    IsQuotient-next _ _ _ _ _ c.self.invariant c.lead_to_numbers.new.pairs c.lead_to_numbers.ensures.pairs c.lead_to_numbers.ensures.numbering c.args.state c.get-class.result c.get-class.ensures
    c.get-member.result.now c.get-member.ensures c.next_ref-root.result c.next_ref-root.ensures.next c.lead_to_numbers.ensures.added

pub returns-clause-builds : goal.returns-clause-builds
returns-clause-builds c =
    Builds-leads_on _ _ _ _ _ c.self.invariant c.lead_to_numbers.new.pairs c.lead_to_numbers.ensures.pairs c.lead_to_numbers.ensures.numbering c.args.state c.get-class.result c.get-class.ensures
    c.get-member.result.now c.get-member.ensures c.next_ref-root.result c.next_ref-root.ensures.next c.args.store.now c.lead_to_numbers.new.store c.lead_to_numbers.result c.lead_to_numbers.ensures.builds

pub lead_to_numbers-requires-clause-seen : goal.lead_to_numbers-requires-clause-seen
lead_to_numbers-requires-clause-seen c =
    let content = c.self.inside.source.automaton.now in
    let are = subst (λ (q : Quotienting). AreOrigins q.content c.args.tables.now.origins) (sym c.self.view_is) c.requires.tables.origins in
    seen_next content c.args.tables.now.origins are c.get-member.result.now
    (state_within _ _ _ _ _ c.self.invariant c.get-class.result.0 c.get-member.result.now c.get-member.ensures) c.next_ref-root.result c.next_ref-root.ensures.next
