use Rattle.std.proofs.Common.{◌≡◌, true, suc, refl, sym, ◌∙◌}
use Rattle.std.proofs.lemmas.Slice.Eq.{bytes_eq-Decides}
use Rattle.ms_list.specs.declared.at.At.{At}
use Rattle.ms_parse_grammar.specs.Symbol.{name}
use Rattle.ms_parse_steps.specs.inner.Terminals.{behind, IsNext}
use Rattle.ms_parse_steps.proofs.Tokens.{name_apart, not_named, not_this}
use Rattle.ms_parse_steps.proofs.Inputs.{name_symbol, no_name, terminal_next}
use Rattle.ms_parse_steps.proofs.input.name_with.Goals as goal

pub returns-then-not-is_name-clause-none : goal.returns-then-not-is_name-clause-none
returns-then-not-is_name-clause-none c =
    not_named c.args.bytes.now (behind c.args.file c.args.tokens.now c.args.i)
    (no_name c.args.file c.args.tokens.now c.args.i c.get-token.result c.get-token.ensures.token
    (λ is. let yes : c.is_name.result ≡ true = c.is_name.ensures.1 is in let never : ⊥ = cc in never))

pub returns-then-eq-clause-some : goal.returns-then-eq-clause-some
returns-then-eq-clause-some c =
    let same : c.slice.result.now ≡ c.args.bytes.now = (bytes_eq-Decides c.slice.result.now c.args.bytes.now).0 (sym c.eq.ensures ∙ c.if-eq.true) in
    terminal_next c.args.file c.args.tokens.now c.args.i c.get-token.result (name c.args.bytes.now) c.at_of.result c.get-token.ensures.token
    (name_symbol c.args.tokens.now c.args.i c.get-token.result c.slice.result.now c.args.bytes.now c.get-token.ensures.token (c.is_name.ensures.0 c.if-not-is_name.false) c.slice.ensures.slice (sym same))
    c.at_of.ensures

pub returns-else-eq-clause-none : goal.returns-else-eq-clause-none
returns-else-eq-clause-none c =
    let file = c.args.file in
    let lexed = c.args.tokens.now in
    let at : At = record { file = file; place = c.get-token.result.place } in
    let next : IsNext file lexed c.args.i (name c.slice.result.now) at =
    terminal_next file lexed c.args.i c.get-token.result (name c.slice.result.now) at c.get-token.ensures.token
    (name_symbol lexed c.args.i c.get-token.result c.slice.result.now c.slice.result.now c.get-token.ensures.token (c.is_name.ensures.0 c.if-not-is_name.false) c.slice.ensures.slice refl) refl in
    not_this (name c.slice.result.now) (name c.args.bytes.now) at (behind file lexed c.args.i) (behind file lexed (suc c.args.i)) next
    (name_apart c.slice.result.now c.args.bytes.now (sym c.eq.ensures ∙ c.if-eq.false))
