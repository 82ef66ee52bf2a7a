use Rattle.std.proofs.Common.{◌≡◌, length, ap, ◌∙◌, arith}
use Rattle.ms_logic_words.specs.Content.{is_truth_value, first_state}
use Rattle.ms_best.specs.inner.Automaton.{distance_of}
use Rattle.ms_best.specs.inner.Least.{least_values, least_truth, least_letters}
use Rattle.ms_best.proofs.LeastValues.{length-least_values}
use Rattle.ms_best.proofs.Nearness.{kept_distance}
use Rattle.ms_best.proofs.FirstWords.{is_first, none_has}
use Rattle.ms_best.proofs.first_word.first.Goals as goal

pub returns-then-length-states-clause-none : goal.returns-then-length-states-clause-none
returns-then-length-states-clause-none c =
    let held = c.in_ok-distances.ensures in
    let far = kept_distance c.args.automaton.now c.in_ok-distances.distances.values.items c.in_ok-distances.distances.states c.in_ok-distances.distances.nodes c.start_ref-start.result c.of-length.result
    held.states held.nodes c.of-length.ensures
    ∙ ap (distance_of c.args.automaton.now c.in_ok-distances.distances.values.items) c.start_ref-start.ensures.start in
    none_has c.args.automaton.now c.args.sign c.in_ok-distances.distances.values.items held.right c.states.ensures.automaton (omega (arith, far, c.states.ensures.states, c.if-length-states.true))

pub start-state-requires : goal.start-state-requires
start-state-requires c =
    let held = c.in_ok-distances.ensures in
    ap length (c.slice.ensures ∙ c.in_ok-truth.ensures)
    ∙ length-least_values c.args.automaton.now c.in_ok-distances.distances.values.items is_truth_value 0 c.args.automaton.now.variables c.start_ref-start.result

pub returns-clause-first : goal.returns-clause-first
returns-clause-first c =
    let held = c.in_ok-distances.ensures in
    let far = kept_distance c.args.automaton.now c.in_ok-distances.distances.values.items c.in_ok-distances.distances.states c.in_ok-distances.distances.nodes c.start_ref-start.result c.of-length.result
    held.states held.nodes c.of-length.ensures
    ∙ ap (distance_of c.args.automaton.now c.in_ok-distances.distances.values.items) c.start_ref-start.ensures.start in
    let d = c.in_ok-distances.distances.values.items in
    let content = c.args.automaton.now in
    let truth : c.in_ok-truth.truth ≡ least_truth content d = c.in_ok-truth.ensures ∙ ap (least_values content d is_truth_value 0 content.variables) c.start_ref-start.ensures.start in
    let state : c.start-state.result ≡ first_state content (least_truth content d) = c.start-state.ensures.state ∙ ap (first_state content) (c.slice.ensures ∙ truth) in
    let letters : c.in_ok-letters.letters ≡ least_letters content d (distance_of content d content.start) (first_state content (least_truth content d))
    = c.in_ok-letters.ensures ∙ ap (λ n. least_letters content d n c.start-state.result) far ∙ ap (least_letters content d (distance_of content d content.start)) state in
    rw (truth, letters) (is_first content c.args.sign d held.right c.states.ensures.automaton (omega (arith, far, c.states.ensures.states, c.if-length-states.false)))
