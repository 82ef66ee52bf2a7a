use Rattle.std.proofs.Common.{rules, List, ◌≡◌, ◌++◌, ◌∷◌, [], true, false, sym, ap, ◌∙◌}
use Rattle.ms_parse_grammar.specs.Reads.{int_symbol, Starts}
use Rattle.ms_logic.specs.declared.source.PlacedInt.{PlacedInt}
use Rattle.ms_parse_grammar.specs.Symbol.{name, Placed}
use Rattle.ms_parse_grammar.specs.View.{document_of}
use Rattle.ms_parse_steps.specs.inner.Machine.{Move, summand_wanted, took}
use Rattle.ms_parse_steps.specs.inner.Terminals.{behind, IsNext, NoInt}
use Rattle.ms_parse_steps.proofs.Taking.{one_more, int_found, int_missing}
use Rattle.ms_parse_steps.proofs.input.Input.begin_constant.Goals as goal

pub returns : goal.returns
returns c parser =
    let names : IsNext c.args.self.file c.args.self.tokens.now c.args.i (name c.in-Some.name) c.in-Some.at_name = search rules in
    let further : PlacedInt → List Placed → Move = λ k. took (summand_wanted (document_of parser.source) c.args.at c.in-Some.at_name c.in-Some.name (k ∷ [])) in
    let from = behind c.args.self.file c.args.self.tokens.now c.in-Some-behind_mark.from in
    let number = c.in-Some-2.number in
    let rest = behind c.args.self.file c.args.self.tokens.now c.in-Some-2.next in
    let starts : Starts true (int_symbol number.value) number.at from rest = search rules in
    let plus : number.minus ≡ false = search rules in
    rw (names, one_more c.args.self.file c.args.self.tokens.now c.args.i, c.in-Some-behind_mark.ensures.some.1) (int_found false further number from rest starts plus
    ∙ ap (λ xs. took (summand_wanted (document_of parser.source) c.args.at c.in-Some.at_name c.in-Some.name xs) rest) (sym (c.in_ok-push.ensures.ok ∙ ap (λ xs. xs ++ number ∷ []) c.new-sum.ensures)))

pub returns-in_default-2 : goal.returns-in_default-2
returns-in_default-2 c parser =
    let names : IsNext c.args.self.file c.args.self.tokens.now c.args.i (name c.in-Some.name) c.in-Some.at_name = search rules in
    let further : PlacedInt → List Placed → Move = λ k. took (summand_wanted (document_of parser.source) c.args.at c.in-Some.at_name c.in-Some.name (k ∷ [])) in
    let none : NoInt (behind c.args.self.file c.args.self.tokens.now c.in-Some-behind_mark.from) = search rules in
    rw (names, one_more c.args.self.file c.args.self.tokens.now c.args.i, c.in-Some-behind_mark.ensures.some.1) (int_missing false further _ none)
