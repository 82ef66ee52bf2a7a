use Rattle.std.proofs.Common.{sym, subst}
use Rattle.ms_arena.specs.declared.node.Ref.{Ref}
use Rattle.ms_diagram.specs.declared.sides.Sides.{Sides}
use Rattle.ms_diagram.specs.Across.{AreOn, HasLeavesAcross}
use Rattle.ms_diagram.specs.Numbering.{AddsOnly}
use Rattle.ms_logic_words.specs.Content.{is_truth_value}
use Rattle.ms_product.specs.Pairing.{Operands, Pairing, HaveRisingMaps, from_starts}
use Rattle.ms_product.proofs.ProductLemmas.{AreOn-followed, AreReached-added, AreStates-added, first_leads}
use Rattle.ms_product.proofs.product.Product.lead_from_start.Goals as goal

pub apply_across-requires-clause-on : goal.apply_across-requires-clause-on
apply_across-requires-clause-on c =
    let operands : Operands = record { left = c.self.inside.left.automaton.now; left_map = c.self.inside.left.map; right = c.self.inside.right.automaton.now; right_map = c.self.inside.right.map } in
    let roots : Ref × Ref = (c.start_ref-left.result, c.start_ref-right.result) in
    subst (λ (s : Sides). AreOn s roots) (sym c.sides-sides.ensures)
    (AreOn-followed operands roots (subst (λ (p : Pairing). HaveRisingMaps p.operands) (sym c.self.view_is) c.requires.maps) is_truth_value c.start_ref-left.ensures.followed
    c.start_ref-right.ensures.followed)

pub invariant_of-self : goal.invariant_of-self
invariant_of-self c =
    let operands : Operands = record { left = c.self.inside.left.automaton.now; left_map = c.self.inside.left.map; right = c.self.inside.right.automaton.now; right_map = c.self.inside.right.map } in
    let roots : Ref × Ref = (c.start_ref-left.result, c.start_ref-right.result) in
    let added = subst (λ (s : Sides). AddsOnly (HasLeavesAcross s roots) c.self.inside.pairs c.apply_across.new.pairs) c.sides-sides.ensures c.apply_across.ensures.added in (
      AreStates-added operands roots is_truth_value c.start_ref-left.ensures.followed c.start_ref-right.ensures.followed c.self.inside.pairs c.apply_across.new.pairs c.self.invariant.0
          c.apply_across.ensures.pairs added,
      AreReached-added operands roots (λ bits. from_starts bits (first_leads operands roots c.start_ref-left.ensures.start c.start_ref-right.ensures.start bits)) c.self.inside.pairs
          c.apply_across.new.pairs c.self.invariant.1 c.apply_across.ensures.pairs added,
    )
