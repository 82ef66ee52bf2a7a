-- An automaton with the parts of one that is measured is measured itself.
use Rattle.std.proofs.Common.{sym, ◌∙◌}
use Rattle.ms_build_parts.specs.Laws.{IsMeasuredBy}
use Rattle.ms_build_parts.proofs.Matching.{over_same}
use Rattle.ms_build_steps.proofs.Sides.{IsSide}
use Rattle.ms_dfa.specs.Automaton.{IsAutomaton}
use Rattle.ms_logic_starts.proofs.RisingLemmas.{rising_distinct}
use Rattle.ms_logic_words.specs.Content.{Content}
use Rattle.ms_logic_words.specs.declared.sign.Sign.{Sign}
use Rattle.ms_rename.proofs.LeastLemmas.{parts_differ, parts_reached, parts_sign}

pub side_measured : (one measure : Content Sign) → IsSide one measure → IsAutomaton one → IsMeasuredBy one measure
side_measured one measure side automaton = record {
  ordered = automaton.ordered;
  closed = automaton.closed;
  own = rising_distinct one.variables automaton.rising;
  reached = parts_reached one side.least side.parts side.orders side.measured.reached;
  differ = parts_differ one side.least side.parts side.orders side.measured.differ;
  is_canonical = side.measured.is_canonical;
  distinct = side.measured.distinct;
  same = record {
    orders = side.measured.same.orders ∙ sym side.orders;
    signs = λ word is_over.
        side.measured.same.signs word (over_same one.variables side.least.variables word (sym side.orders) is_over)
        ∙ sym (parts_sign one side.least side.parts side.orders word);
  };
}
