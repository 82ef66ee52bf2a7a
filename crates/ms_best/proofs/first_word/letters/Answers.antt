use Rattle.std.proofs.Common.{◌≡◌, ◌<◌, ◌+◌, ◌-◌, ◌++◌, ◌∷◌, [], suc, length, length-append, ap, sym, ◌∙◌, arith}
use Rattle.std.proofs.lemmas.Option.{MatchOption-at_some}
use Rattle.ms_arena.proofs.Lists.{slice_get-held}
use Rattle.ms_logic_words.specs.Content.{next_state, is_in_letters}
use Rattle.ms_best.specs.inner.Least.{next_of, least_values, least_letter, least_letters}
use Rattle.ms_best.proofs.LeastValues.{length-least_values}
use Rattle.ms_best.proofs.FirstWords.{letters_more}
use Rattle.ms_best.proofs.first_word.letters.Goals as goal

pub step-state-requires-clause-letter : goal.step-state-requires-clause-letter
step-state-requires-clause-letter c =
    ap length (c.slice.ensures ∙ c.in_ok-letter.ensures)
    ∙ length-least_values c.args.automaton.now c.args.distances.now.values.items is_in_letters 0 c.args.automaton.now.variables c.next_ref-next.result

pub reading-preserved : goal.reading-preserved
reading-preserved c =
    let d = c.args.distances.now.values.items in
    let content = c.args.automaton.now in
    let held = slice_get-held content.states c.reading.state c.reading.invariant.state in
    let next : c.next_ref-next.result ≡ held.0.next = MatchOption-at_some _ _ held.0 held.1 c.next_ref-next.ensures.next in
    let letter : c.in_ok-letter.letter ≡ least_letter content d c.reading.state
    = c.in_ok-letter.ensures ∙ ap (least_values content d is_in_letters 0 content.variables) (next ∙ ap next_of (sym held.1)) in
    let state : c.step-state.result ≡ next_state content c.reading.state (least_letter content d c.reading.state)
    = c.step-state.ensures.state ∙ ap (next_state content c.reading.state) (c.slice.ensures ∙ letter) in
    let pushed : c.push.new.self ≡ c.reading.letters ++ least_letter content d c.reading.state ∷ [] = c.in-Ok.ensures.ok ∙ ap (λ l. c.reading.letters ++ l ∷ []) letter in
    let long : length c.push.new.self ≡ length c.reading.letters + 1 = ap length pushed ∙ length-append c.reading.letters (least_letter content d c.reading.state ∷ []) in
    let below : length c.reading.letters < c.args.count = omega (arith, c.reading-test.true, c.len.ensures) in
    let left : c.args.count - length c.reading.letters ≡ suc (c.args.count - length c.push.new.self) = omega (arith, long, below) in
    record {
      state = c.step-state.ensures.within;
      few = omega (arith, long, below);
      sofar =
          ap (λ l. l ++ least_letters content d (c.args.count - length c.push.new.self) c.step-state.result) pushed
          ∙ ap (λ s. (c.reading.letters ++ least_letter content d c.reading.state ∷ []) ++ least_letters content d (c.args.count - length c.push.new.self) s) state
          ∙ letters_more content d (c.args.count - length c.push.new.self) (c.args.count - length c.reading.letters) c.reading.state c.reading.letters _ left c.reading.invariant.sofar;
    }
