use Rattle.std.proofs.Common.{◌≡◌, Bool, true, false, List, length, length-set, slice_set, sym, ap, subst, ◌∙◌, arith}
use Rattle.std.proofs.lemmas.List.{length-replicate}
use Rattle.ms_arena.specs.declared.node.Ref.{Ref}
use Rattle.ms_arena.specs.Halves.{half_of, size_of}
use Rattle.ms_cert.specs.inner.Difference.{LeadApart}
use Rattle.ms_cert.proofs.DifferenceLemmas.{apart-first, apart-half, apart-leaves, first-below, halves-smaller}
use Rattle.ms_cert.proofs.difference.bits_apart.Goals as goal

pub loop-var-init : goal.loop-var-init
loop-var-init c = record {
  long = ap length c.in_ok-bits.ensures ∙ length-replicate c.args.count false;
  apart = apart-first c.args.store.now.nodes c.args.one c.args.other c.in_ok-bits.bits.items c.requires.one c.requires.other c.requires.differ;
}

pub first_of_both-requires-clause-one : goal.first_of_both-requires-clause-one
first_of_both-requires-clause-one c = c.loop-var.invariant.apart.one_leads.valid

pub first_of_both-requires-clause-other : goal.first_of_both-requires-clause-other
first_of_both-requires-clause-other c = c.loop-var.invariant.apart.other_leads.valid

pub half-low_first-requires : goal.half-low_first-requires
half-low_first-requires c = c.loop-var.invariant.apart.one_leads.valid

pub half-low_second-requires : goal.half-low_second-requires
half-low_second-requires c = c.loop-var.invariant.apart.other_leads.valid

pub put-requires : goal.put-requires
put-requires c =
    let first = c.in-Some.ensures.some in
    let less = first-below c.args.store.now.nodes c.loop-var.first c.loop-var.second c.in-Some.var first c.args.count c.requires.below in
    let long = c.loop-var.invariant.long in
    omega (arith, less, long)

pub half-first-requires : goal.half-first-requires
half-first-requires c = c.loop-var.invariant.apart.one_leads.valid

pub half-second-requires : goal.half-second-requires
half-second-requires c = c.loop-var.invariant.apart.other_leads.valid

pub loop-var-smaller : goal.loop-var-smaller
loop-var-smaller c =
    let first = c.in-Some.ensures.some in
    let leads = c.loop-var.invariant.apart in
    let less = halves-smaller c.args.store.now.nodes c.loop-var.first c.loop-var.second c.in-Some.var first c.len.ensures.store.ordered leads.one_leads.valid leads.other_leads.valid c.same-bit.result in
    let one = ap size_of c.half-first.ensures.half in
    let other = ap size_of c.half-second.ensures.half in
    omega (arith, less, one, other)

pub loop-var-preserved : goal.loop-var-preserved
loop-var-preserved c =
    let nodes = c.args.store.now.nodes in
    let first = c.in-Some.ensures.some in
    let was = c.loop-var.invariant in
    let store = c.len.ensures.store in
    let var = c.in-Some.var in
    let bit = c.same-bit.result in
    let less = first-below nodes c.loop-var.first c.loop-var.second var first c.args.count c.requires.below in
    let long = was.long in
    let written = c.put.ensures in
    let next = apart-half nodes c.args.one c.args.other c.loop-var.bits.items c.loop-var.first c.loop-var.second var bit store.ordered store.reduced (omega (arith, less, long)) first
    (λ yes. sym c.half-low_first.ensures.half ∙ c.same-bit.ensures.equal.0 yes ∙ c.half-low_second.ensures.half)
    (λ no same.
    let yes = c.same-bit.ensures.equal.1 (c.half-low_first.ensures.half ∙ same ∙ sym c.half-low_second.ensures.half) in
    let clash : true ≡ false = sym yes ∙ no in
    cc)
    was.apart in
    record {
      long = ap length written ∙ length-set c.loop-var.bits.items var bit ∙ long;
      apart = subst (λ (b : List Bool). LeadApart nodes b c.args.one c.args.other c.half-first.result c.half-second.result) (sym written)
          (subst (λ (r : Ref). LeadApart nodes (slice_set c.loop-var.bits.items var bit) c.args.one c.args.other r c.half-second.result) (sym c.half-first.ensures.half)
          (subst (λ (r : Ref). LeadApart nodes (slice_set c.loop-var.bits.items var bit) c.args.one c.args.other (half_of nodes var bit c.loop-var.first) r) (sym c.half-second.ensures.half) next));
    }

pub returns-clause-long : goal.returns-clause-long
returns-clause-long c = c.loop-var.invariant.long

pub returns-clause-apart : goal.returns-clause-apart
returns-clause-apart c =
    let none = c.in_default.ensures.none in
    apart-leaves c.args.store.now.nodes c.args.one c.args.other c.loop-var.bits.items c.loop-var.first c.loop-var.second none.0 none.1 c.loop-var.invariant.apart
