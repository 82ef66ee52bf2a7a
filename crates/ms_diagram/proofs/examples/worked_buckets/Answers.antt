use Rattle.std.proofs.Common.{◌≡◌, [], refl, sym, ◌∙◌, inl, inr, ⊎_elim, arith}
use Rattle.ms_cache.proofs.Among.{Contains-head, Contains-nil}
use Rattle.ms_diagram.specs.inner.Computed.{place_of}
use Rattle.ms_diagram.proofs.examples.worked_buckets.Goals as goal

pub returns-clause-bucket : goal.returns-clause-bucket
unfolding place_of
returns-clause-bucket c = refl

pub returns-clause-few_buckets : goal.returns-clause-few_buckets
unfolding place_of
returns-clause-few_buckets c = refl

pub returns-clause-beside : goal.returns-clause-beside
unfolding place_of
returns-clause-beside c = refl

bucket : place_of 16 (6, 7) ≡ 13
unfolding place_of
bucket = refl

pub returns-clause-own_place : goal.returns-clause-own_place
returns-clause-own_place c full = inl bucket

pub returns-clause-other_place : goal.returns-clause-other_place
returns-clause-other_place c placed =
    ⊎_elim (λ is. let same : 13 ≡ 14 = sym bucket ∙ is in omega (arith, same)) (λ between. omega (arith, between.1)) (placed (λ is. omega (arith, is)))

pub returns-clause-waits : goal.returns-clause-waits
returns-clause-waits c full = inr (omega arith, omega arith)

pub returns-clause-waits_no_more : goal.returns-clause-waits_no_more
returns-clause-waits_no_more c placed =
    ⊎_elim (λ is. let same : 13 ≡ 14 = sym bucket ∙ is in omega (arith, same)) (λ between. omega (arith, between.0)) (placed (λ is. omega (arith, is)))

pub returns-clause-moved : goal.returns-clause-moved
unfolding place_of
returns-clause-moved c = record {
  room = omega arith;
  placed = ((λ full. inl refl), (λ full. absurd (full refl)), tt);
  only = λ entry among. among;
}

pub returns-clause-added : goal.returns-clause-added
returns-clause-added c moved = Contains-nil ((6, 7), 2) (moved.only ((6, 7), 2) (Contains-head ((6, 7), 2) []))
