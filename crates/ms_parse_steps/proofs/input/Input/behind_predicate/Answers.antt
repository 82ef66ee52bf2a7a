use Rattle.std.proofs.Common.{[], List, ap, sym, ◌∙◌}
use Rattle.ms_parse_grammar.specs.Symbol.{open_round, close_round, Placed}
use Rattle.ms_parse_grammar.specs.Tree.{no_variables}
use Rattle.ms_parse_grammar.specs.View.{document_of, variables_of}
use Rattle.ms_parse_steps.specs.declared.punctuation.Punctuation.TheVariants as marks
use Rattle.ms_parse_steps.specs.inner.Machine.{body_of, in_predicate, parameter_wanted, wanted, Move, took, either_mark, mark_then}
use Rattle.ms_parse_steps.specs.inner.Configurations.{head_of}
use Rattle.ms_parse_steps.specs.inner.Terminals.{behind}
use Rattle.ms_parse_steps.proofs.Taking.{mark_missing}
use Rattle.ms_parse_steps.proofs.input.Input.behind_predicate.Goals as goal

pub returns-in-Some : goal.returns-in-Some
returns-in-Some c = rw c.in-Some.ensures.some.1 (rw c.requires at (c.begin_expression.ensures c.args.self.file c.args.self.tokens.now))

pub returns-in-Some-behind_mark-2 : goal.returns-in-Some-behind_mark-2
returns-in-Some-behind_mark-2 c =
    let file = c.args.self.file in
    let lexed = c.args.self.tokens.now in
    let s = c.args.signature in
    let d = document_of c.args.parser.now.source in
    let inside : List Placed → Move = either_mark close_round (body_of d (head_of s) no_variables) (took (parameter_wanted d (head_of s) no_variables)) in
    rw (mark_missing marks.Equal (took (wanted (in_predicate d (head_of s) no_variables) [])) (mark_then open_round inside) (behind file lexed c.args.i) c.in_default.ensures.none
    ∙ ap (mark_then open_round inside) c.in-Some-behind_mark.ensures.some.1 ∙ ap inside c.in-Some-behind_mark-2.ensures.some.1
    ∙ ap (λ vs. body_of d (head_of s) vs (behind file lexed c.in-Some-behind_mark-2.next)) (sym (ap variables_of c.requires)))
    c.body_of.ensures

pub returns : goal.returns
returns c =
    let file = c.args.self.file in
    let lexed = c.args.self.tokens.now in
    let s = c.args.signature in
    let d = document_of c.args.parser.now.source in
    let body = body_of d (head_of s) no_variables in
    let parameters : List Placed → Move = took (parameter_wanted d (head_of s) no_variables) in
    let inside = either_mark close_round body parameters in
    mark_missing marks.Equal (took (wanted (in_predicate d (head_of s) no_variables) [])) (mark_then open_round inside) (behind file lexed c.args.i) c.in_default.ensures.none
    ∙ ap (mark_then open_round inside) c.in-Some-behind_mark.ensures.some.1
    ∙ mark_missing marks.CloseRound body parameters (behind file lexed c.in-Some-behind_mark.inside) c.in_default-behind_mark-2.ensures.none
    ∙ ap (λ vs. took (parameter_wanted d (head_of s) vs) (behind file lexed c.in-Some-behind_mark.inside)) (sym (ap variables_of c.requires))
