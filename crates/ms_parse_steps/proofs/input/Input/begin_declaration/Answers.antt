use Rattle.std.proofs.Common.{rules, ◌≡◌, ◌+◌, suc, List, ℕ, subst}
use Rattle.ms_parse_grammar.specs.Grammar.{greatest_depth}
use Rattle.ms_parse_grammar.specs.View.{document_of}
use Rattle.ms_parse_steps.specs.declared.terminal.Terminal.{Terminal}
use Rattle.ms_parse_steps.specs.declared.terminal.Terminal.TheVariants as terminals
use Rattle.ms_parse_steps.specs.inner.Machine.{begin_declaration, outside, step}
use Rattle.ms_parse_steps.specs.inner.Terminals.{behind, symbol_with, IsNext}
use Rattle.ms_parse_steps.proofs.Declaring.{other_word, formula_begun, word_begun}
use Rattle.ms_parse_steps.proofs.input.Input.begin_declaration.Goals as goal
use Rattle.ms_parse_steps.proofs.input.Input.begin_declaration.Goals.{In-Some}

next : (c : In-Some) → (bytes : List ℕ) × IsNext c.args.self.file c.args.self.tokens.now c.args.i (symbol_with c.in-Some.terminal bytes) c.in-Some.at
next c = search rules

-- the declaration begins with this word
begun : (c : In-Some) (is : Terminal) → c.in-Some.terminal ≡ is
    → step greatest_depth (outside (document_of c.args.parser.now.source)) (behind c.args.self.file c.args.self.tokens.now c.args.i)
    ≡ begin_declaration greatest_depth (document_of c.args.parser.now.source) c.in-Some.at (symbol_with is (next c).0) (behind c.args.self.file c.args.self.tokens.now c.args.i) (behind c.args.self.file c.args.self.tokens.now (c.args.i + 1))
begun c is same = word_begun greatest_depth (document_of c.args.parser.now.source) c.in-Some.at c.in-Some.terminal is (next c).0 c.args.self.file c.args.self.tokens.now c.args.i same (next c).1

pub returns-in-Variables : goal.returns-in-Variables
returns-in-Variables c = rw (begun (goal.at.returns-in-Variables c).In-Some (terminals.Variables c.in-Variables.order) c.in-Variables.is) (c.begin_globals.ensures c.args.self.file c.args.self.tokens.now c.args.parser.now)

pub returns-in-Const : goal.returns-in-Const
returns-in-Const c = rw (begun (goal.at.returns-in-Const c).In-Some terminals.Const c.in-Const.is) (c.begin_constant.ensures c.args.parser.now)

pub returns-in-Predicate : goal.returns-in-Predicate
returns-in-Predicate c = rw (begun (goal.at.returns-in-Predicate c).In-Some (terminals.Predicate c.in-Predicate.is_pred) c.in-Predicate.is) c.begin_predicate.ensures

pub returns-in-Include : goal.returns-in-Include
returns-in-Include c = rw (begun (goal.at.returns-in-Include c).In-Some terminals.Include c.in-Include.is) c.begin_include.ensures

pub returns-in-Default : goal.returns-in-Default
returns-in-Default c = rw (begun (goal.at.returns-in-Default c).In-Some (terminals.Default c.in-Default.order) c.in-Default.is) c.begin_default.ensures

pub returns-in-Name : goal.returns-in-Name
returns-in-Name c =
    let symbol = next (goal.at.returns-in-Name c).In-Some in
    c.begin_named.ensures symbol.0 (subst (λ s. IsNext c.args.self.file c.args.self.tokens.now c.args.i (symbol_with s symbol.0) c.in-Some.at) c.in-Name.is symbol.1)

pub returns-in_default-terminal : goal.returns-in_default-terminal
returns-in_default-terminal c =
    let file = c.args.self.file in
    let lexed = c.args.self.tokens.now in
    let symbol = next (goal.at.returns-in_default-terminal c).In-Some in
    let other = other_word c.in-Some.terminal c.in_default-terminal.not-Variables c.in_default-terminal.not-Const c.in_default-terminal.not-Predicate c.in_default-terminal.not-Include c.in_default-terminal.not-Default c.in_default-terminal.not-Name in
    rw (formula_begun greatest_depth (document_of c.args.parser.now.source) c.in-Some.at c.in-Some.terminal symbol.0 (behind file lexed c.args.i) (behind file lexed (suc c.args.i)) other symbol.1) c.begin_formula.ensures
