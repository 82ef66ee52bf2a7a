use Rattle.std.proofs.Common.{refl, ◌∷◌, []}
use Rattle.std.specs.List.{flat_map}
use Rattle.ms_parse_grammar.specs.Symbol.{close_round}
use Rattle.ms_parse_print.specs.inner.Printed.{printed_pair, single}
use Rattle.ms_parse_print.proofs.Sources.{spellable_both, spellable_split}
use Rattle.ms_parse_print.proofs.said.can_import.Goals as goal

pub returns-then-can_quote : goal.returns-then-can_quote
returns-then-can_quote c =
    let pairs = flat_map (printed_pair single) c.args.pairs.now in (
      λ holds. (tt, (tt, (c.if-can_quote.ensures.0 refl, spellable_both pairs (close_round ∷ []) (c.can_say_all.ensures.0 holds) (tt, tt)))),
      λ all. c.can_say_all.ensures.1 (spellable_split pairs (close_round ∷ []) all.1.1.1).0,
    )
