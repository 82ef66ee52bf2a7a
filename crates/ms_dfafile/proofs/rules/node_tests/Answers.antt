use Rattle.std.proofs.Common.{length, arith}
use Rattle.std.proofs.lemmas.Option.{slice_get_within}
use Rattle.ms_logic_words.specs.Content.{is_in_letters, is_truth_value}
use Rattle.ms_dfa.specs.Files.{content_of_file}
use Rattle.ms_dfafile.proofs.RulesLemmas.{length-placed, node-tests, valid-named}
use Rattle.ms_dfafile.proofs.rules.node_tests.Goals as goal

pub returns-then-var-len : goal.returns-then-var-len
returns-then-var-len c = λ placed. let long = length-placed c.args.plain.now.variables in let here = placed.variable in absurd (omega (arith, c.len.ensures, c.if-var-len.true))

pub is_above-requires : goal.is_above-requires
is_above-requires c =
    let within = slice_get_within c.args.plain.now.nodes (length c.args.known.now) c.args.node c.requires.next in
    valid-named (content_of_file c.args.plain.now) (length c.args.known.now) c.args.node.low (omega arith) c.in_ok-low.ensures.0

pub is_above-requires-else-not-is_above : goal.is_above-requires-else-not-is_above
is_above-requires-else-not-is_above c =
    let within = slice_get_within c.args.plain.now.nodes (length c.args.known.now) c.args.node c.requires.next in
    valid-named (content_of_file c.args.plain.now) (length c.args.known.now) c.args.node.high (omega arith) c.in_ok-high.ensures.0

pub returns : goal.returns
returns c =
    let plain = c.args.plain.now in
    let place = length c.args.known.now in
    let node = c.args.node in
    let long = length-placed plain.variables in (
      record {
        variable = omega (arith, c.len.ensures, c.if-var-len.false);
        low = c.in_ok-low.ensures.0;
        high = c.in_ok-high.ensures.0;
        rising_low = c.is_above.ensures.0 c.if-not-is_above.false;
        rising_high = c.is_above-else-not-is_above.ensures.0 c.if-not-is_above-2.false;
      },
      record {
        truth_values = node-tests plain.nodes plain.variables is_truth_value place node c.get.result.now _ _ _ _ _ c.requires.next c.get.ensures c.of_order-own.ensures.truth_values
            c.in_ok-low.ensures.1.truth_values c.in_ok-high.ensures.1.truth_values c.with.ensures.truth_values c.with-2.ensures.truth_values;
        letters = node-tests plain.nodes plain.variables is_in_letters place node c.get.result.now _ _ _ _ _ c.requires.next c.get.ensures c.of_order-own.ensures.letters
            c.in_ok-low.ensures.1.letters c.in_ok-high.ensures.1.letters c.with.ensures.letters c.with-2.ensures.letters;
      },
    )
