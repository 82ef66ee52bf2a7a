-- A missing restriction has the rules of a content.
use Rattle.std.proofs.Common.{◌<◌, [], arith}
use Rattle.ms_arena.specs.Reach.{TestsOnly}
use Rattle.ms_logic.specs.declared.mode.Mode.{Mode}
use Rattle.ms_logic_words.specs.Content.{IsContent, NamesPart, HasValueAt, is_in_letters}
use Rattle.ms_logic_words.proofs.SubsetContent.{leaf_reaches}
use Rattle.ms_logic_measures.specs.CallMeasures.{no_restriction}
use Rattle.ms_logic_measures.proofs.Counting.{at_place}
use Rattle.ms_logic_measures.proofs.ShortContents.{ordered_by_place}

pub no_restriction-rules : (mode : Mode) → IsContent (no_restriction mode)
no_restriction-rules mode = record {
  some_state = omega arith;
  ordered = ordered_by_place [] tt;
  start_named = omega arith;
  next_named = at_place (λ i state. NamesPart (no_restriction mode) state.next) (no_restriction mode).states (omega arith, tt);
  low_named = at_place (λ place node. NamesPart (no_restriction mode) node.low) [] tt;
  high_named = at_place (λ place node. NamesPart (no_restriction mode) node.high) [] tt;
  variables = at_place (λ place node. node.var < 0) [] tt;
  start_tests = λ var tested. absurd (leaf_reaches [] 0 tested.0 tested.2);
  next_tests =
      at_place (λ i state. TestsOnly [] (HasValueAt [] is_in_letters) state.next) (no_restriction mode).states
      ((λ var tested. absurd (leaf_reaches [] 0 tested.0 tested.2)), tt);
}
