use Rattle.std.proofs.Common.{length, subst, ◌∙◌}
use Rattle.ms_minim.specs.inner.Discrete.{AreOwnImages}
use Rattle.ms_minim.specs.inner.Partition.{IsIdentity}
use Rattle.ms_minim.proofs.DiscreteLemmas.{AreNerodeClasses-own, AreImages-own}
use Rattle.ms_minim.proofs.refinement.own_residuals.Goals as goal

pub returns-clause-classes : goal.returns-clause-classes
returns-clause-classes c =
    let content = c.args.automaton.now in
    let old = c.args.partition.now in
    let made = c.in_ok-partition.partition in
    AreNerodeClasses-own content old.classes old.members made.classes made.members c.requires.partition c.requires.own
    (subst (λ count. IsIdentity count made.classes) c.states.ensures.states c.in_ok-partition.ensures.classes)
    (subst (λ count. IsIdentity count made.members) c.states.ensures.states c.in_ok-partition.ensures.members)

pub returns-clause-images : goal.returns-clause-images
returns-clause-images c =
    let content = c.args.automaton.now in
    let made = c.in_ok-partition.partition in
    let images = c.in_ok-images.images in
    let same = c.in_ok-images.ensures.store ∙ c.store.ensures in
    AreImages-own content c.states.ensures.automaton c.args.origins.now c.requires.origins made.classes
    (subst (λ count. IsIdentity count made.classes) c.states.ensures.states c.in_ok-partition.ensures.classes)
    images c.len.ensures.store same
    (subst (λ nodes. AreOwnImages (length nodes) images.list) c.store.ensures c.in_ok-images.ensures.list)
