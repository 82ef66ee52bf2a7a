use Rattle.std.proofs.Common.{rules, ◌≡◌, ◌+◌, ◌++◌, ◌∷◌, ℕ, List, [], true, sym, ap, ◌∙◌}
use Rattle.ms_parse_grammar.specs.Reads.{int_symbol, Starts}
use Rattle.ms_parse_steps.specs.inner.Machine.{summand, summand_wanted, took}
use Rattle.ms_parse_grammar.specs.View.{document_of}
use Rattle.ms_parse_steps.specs.inner.Terminals.{behind, symbol_with, IsNext, NoInt}
use Rattle.ms_parse_steps.proofs.Taking.{int_found, int_missing, symbol_found}
use Rattle.ms_parse_steps.proofs.input.Input.next_summand.Goals as goal

pub returns-in-Semicolon : goal.returns-in-Semicolon
returns-in-Semicolon c =
    let file = c.args.self.file in
    let lexed = c.args.self.tokens.now in
    let i = c.args.i in
    let k = c.args.constant in
    let further = summand (document_of c.args.parser.now.source) k.at k.at_name k.name k.sum in
    let next : (bytes : List ℕ) × IsNext file lexed i (symbol_with c.in-Some.terminal bytes) c.in-Some.field-0-1 = search rules in
    rw (symbol_found (λ a. further) file lexed i (symbol_with c.in-Some.terminal next.0) c.in-Some.field-0-1 next.1
    ∙ ap (λ s. further (symbol_with s next.0) (behind file lexed i) (behind file lexed (i + 1))) c.in-Semicolon.is)
    (c.declared.ensures file lexed)

pub returns-in_ok-push-in-Shift : goal.returns-in_ok-push-in-Shift
returns-in_ok-push-in-Shift c =
    let file = c.args.self.file in
    let lexed = c.args.self.tokens.now in
    let i = c.args.i in
    let k = c.args.constant in
    let d = document_of c.args.parser.now.source in
    let number = c.in-Some-2.number in
    let rest = behind file lexed c.in-Some-2.next in
    let further = summand d k.at k.at_name k.name k.sum in
    let next : (bytes : List ℕ) × IsNext file lexed i (symbol_with c.in-Some.terminal bytes) c.in-Some.field-0-1 = search rules in
    let starts : Starts true (int_symbol number.value) number.at (behind file lexed (i + 1)) rest = search rules in
    let is : number.minus ≡ c.in-Shift.minus = search rules in
    symbol_found (λ a. further) file lexed i (symbol_with c.in-Some.terminal next.0) c.in-Some.field-0-1 next.1
    ∙ ap (λ s. further (symbol_with s next.0) (behind file lexed i) (behind file lexed (i + 1))) c.in-Shift.is
    ∙ int_found c.in-Shift.minus (λ x. took (summand_wanted d k.at k.at_name k.name (k.sum ++ x ∷ []))) number (behind file lexed (i + 1)) rest starts is
    ∙ ap (λ xs. took (summand_wanted d k.at k.at_name k.name xs) rest) (sym c.in_ok-push-in-Shift.ensures.ok)

pub returns-in_default-2 : goal.returns-in_default-2
returns-in_default-2 c =
    let file = c.args.self.file in
    let lexed = c.args.self.tokens.now in
    let i = c.args.i in
    let k = c.args.constant in
    let d = document_of c.args.parser.now.source in
    let further = summand d k.at k.at_name k.name k.sum in
    let next : (bytes : List ℕ) × IsNext file lexed i (symbol_with c.in-Some.terminal bytes) c.in-Some.field-0-1 = search rules in
    let none : NoInt (behind file lexed (i + 1)) = search rules in
    symbol_found (λ a. further) file lexed i (symbol_with c.in-Some.terminal next.0) c.in-Some.field-0-1 next.1
    ∙ ap (λ s. further (symbol_with s next.0) (behind file lexed i) (behind file lexed (i + 1))) c.in-Shift.is
    ∙ int_missing c.in-Shift.minus (λ x. took (summand_wanted d k.at k.at_name k.name (k.sum ++ x ∷ []))) (behind file lexed (i + 1)) none
