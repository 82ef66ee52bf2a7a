use Rattle.std.proofs.Common.{sym, subst}
use Rattle.ms_arena.specs.declared.node.Ref.{Ref}
use Rattle.ms_diagram.specs.declared.sides.Sides.{Sides}
use Rattle.ms_diagram.specs.Across.{AreOn, HasLeavesAcross, NumberAcross, LacksAcross}
use Rattle.ms_diagram.specs.Growth.{Builds}
use Rattle.ms_diagram.specs.Numbering.{AddsOnly}
use Rattle.ms_logic_words.specs.Content.{is_in_letters}
use Rattle.ms_product.specs.Pairing.{Operands, Pairing, HaveRisingMaps, from_pair}
use Rattle.ms_product.proofs.ProductLemmas.{AreOn-followed, AreReached-added, AreStates-added, Builds-next_pair, next_leads}
use Rattle.ms_product.proofs.product.Product.lead_from.Goals as goal

pub apply_across-requires-clause-on : goal.apply_across-requires-clause-on
apply_across-requires-clause-on c =
    let operands : Operands = record { left = c.self.inside.left.automaton.now; left_map = c.self.inside.left.map; right = c.self.inside.right.automaton.now; right_map = c.self.inside.right.map } in
    let roots : Ref × Ref = (c.next_ref-left.result, c.next_ref-right.result) in
    subst (λ (s : Sides). AreOn s roots) (sym c.sides-sides.ensures)
    (AreOn-followed operands roots (subst (λ (p : Pairing). HaveRisingMaps p.operands) (sym c.self.view_is) c.requires.maps) is_in_letters c.next_ref-left.ensures.followed
    c.next_ref-right.ensures.followed)

pub invariant_of-self : goal.invariant_of-self
invariant_of-self c =
    let operands : Operands = record { left = c.self.inside.left.automaton.now; left_map = c.self.inside.left.map; right = c.self.inside.right.automaton.now; right_map = c.self.inside.right.map } in
    let roots : Ref × Ref = (c.next_ref-left.result, c.next_ref-right.result) in
    let pair = c.get-left_state.result in
    let within = c.self.invariant.0 c.args.state pair c.get-left_state.ensures in
    let before = c.self.invariant.1 c.args.state pair c.get-left_state.ensures in
    let leads = next_leads operands pair roots within.0 within.1 c.next_ref-left.ensures.next c.next_ref-right.ensures.next in
    let added = subst (λ (s : Sides). AddsOnly (HasLeavesAcross s roots) c.self.inside.pairs c.apply_across.new.pairs) c.sides-sides.ensures c.apply_across.ensures.added in (
      AreStates-added operands roots is_in_letters c.next_ref-left.ensures.followed c.next_ref-right.ensures.followed c.self.inside.pairs c.apply_across.new.pairs c.self.invariant.0
          c.apply_across.ensures.pairs added,
      AreReached-added operands roots (λ bits. from_pair pair bits before (sym (leads bits))) c.self.inside.pairs c.apply_across.new.pairs c.self.invariant.1 c.apply_across.ensures.pairs added,
    )

pub returns-clause-builds : goal.returns-clause-builds
returns-clause-builds c =
    let operands : Operands = record { left = c.self.inside.left.automaton.now; left_map = c.self.inside.left.map; right = c.self.inside.right.automaton.now; right_map = c.self.inside.right.map } in
    let roots : Ref × Ref = (c.next_ref-left.result, c.next_ref-right.result) in
    let pairs = c.apply_across.new.pairs in
    let pair = c.get-left_state.result in
    let within = c.self.invariant.0 c.args.state pair c.get-left_state.ensures in
    Builds-next_pair operands c.self.inside.pairs pairs c.apply_across.ensures.pairs c.args.state pair c.get-left_state.ensures roots
    (next_leads operands pair roots within.0 within.1 c.next_ref-left.ensures.next c.next_ref-right.ensures.next) c.args.store.now c.apply_across.new.self c.apply_across.result
    (subst (λ (s : Sides). Builds c.args.store.now c.apply_across.new.self (NumberAcross s pairs roots) (LacksAcross s pairs roots) c.apply_across.result) c.sides-sides.ensures c.apply_across.ensures.builds)
