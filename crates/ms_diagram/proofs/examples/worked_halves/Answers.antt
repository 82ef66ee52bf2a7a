use Rattle.std.proofs.Common.{◌≡◌, ◌<◌, [], ◌∷◌, slice_index, refl, sym, ap, subst, ◌∙◌, inl, inr, ⊎_elim, arith}
use Rattle.ms_arena.specs.declared.node.Node.{Node}
use Rattle.ms_arena.specs.declared.node.Ref.TheVariants.{Leaf, Inner}
use Rattle.ms_arena.specs.Diagram.{leaf_number}
use Rattle.ms_arena.specs.Halves.{size_of}
use Rattle.ms_arena.proofs.ReachLemmas.{IsTested-own}
use Rattle.ms_diagram.specs.inner.Examples.{own_bit}
use Rattle.ms_diagram.proofs.BothSides.{own_node, tests_first}
use Rattle.ms_diagram.proofs.examples.worked_halves.Goals as goal

pub returns-clause-low_end : goal.returns-clause-low_end
returns-clause-low_end c = inl (record { place = 0; node = record { var = 0; low = Leaf 0; high = Leaf 1 }; is = refl; held = refl; read = refl; end = refl })

pub returns-clause-high_end : goal.returns-clause-high_end
returns-clause-high_end c = inl (record { place = 0; node = record { var = 0; low = Leaf 0; high = Leaf 1 }; is = refl; held = refl; read = refl; end = refl })

pub returns-clause-other_end : goal.returns-clause-other_end
returns-clause-other_end c = ⊎_elim
    (λ end.
    let same : 0 ≡ 1 = ap leaf_number (end.end ∙ sym (ap (λ (n : Node). n.high) (own_node end.place end.node end.held))) in
    omega (arith, same))
    (λ later. let same : 0 ≡ 1 = ap size_of later.same in omega (arith, same))

pub returns-clause-as_it_is : goal.returns-clause-as_it_is
returns-clause-as_it_is c = inr (record {
  same = refl;
  above = λ tested at. subst (λ var. 0 < slice_index (1 ∷ []) var) (sym (tests_first (Inner 0) tested at)) (omega arith);
})

pub returns-clause-too_late : goal.returns-clause-too_late
returns-clause-too_late c = ⊎_elim
    (λ end.
    let same : 1 ≡ 0 = ap size_of (end.end ∙ sym (ap (λ (n : Node). n.high) (own_node end.place end.node end.held))) in
    omega (arith, same))
    (λ later. let above = later.above 0 (IsTested-own own_bit 0 (record { var = 0; low = Leaf 0; high = Leaf 1 }) refl) in omega (arith, above))
