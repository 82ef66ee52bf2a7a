use Rattle.std.proofs.Common.{◌≡◌, length, map, refl, ap, ◌∙◌, arith}
use Rattle.ms_logic.specs.Assignment.{value_at}
use Rattle.ms_logic.specs.First.{length_of}
use Rattle.ms_dfa.specs.Automaton.{variables_of}
use Rattle.ms_logic_words.specs.inner.Decoding.{bound_of_values, decoded_length}
use Rattle.ms_logic_words.proofs.DecodingLemmas.{values_are, bound_is, decoded_length_is}
use Rattle.ms_best.proofs.decoding.assignment.Goals as goal

pub length-length-requires : goal.length-length-requires
length-length-requires c =
    let encoded = c.requires in
    let bound = bound_is c.args.mode c.args.word.now (variables_of c.args.tracks.now) encoded.0 c.slice.result.now encoded.1 encoded.2 (c.slice.ensures ∙ c.in_ok-values.ensures) in
    omega (arith, bound, encoded.2.room, c.len.ensures)

pub returns : goal.returns
returns c = λ e is_assignment encodes.
    let vs = variables_of c.args.tracks.now in
    let bound = bound_is c.args.mode c.args.word.now vs e c.slice.result.now is_assignment encodes (c.slice.ensures ∙ c.in_ok-values.ensures) in
    let long : c.length-length.result ≡ length_of vs e
    = c.length-length.ensures
    ∙ ap (λ n. decoded_length c.args.mode n (bound_of_values c.slice.result.now)) c.len.ensures
    ∙ ap (decoded_length c.args.mode (length c.args.word.now.letters)) bound
    ∙ decoded_length_is c.args.mode c.args.word.now vs e is_assignment encodes in
    let values : c.in_ok-values.values ≡ map (λ v. value_at v.order v.name e) vs = values_are c.args.mode c.args.word.now vs e c.in_ok-values.values is_assignment encodes c.in_ok-values.ensures in
    rw (long, values) refl
