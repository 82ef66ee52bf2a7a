use Rattle.std.proofs.Common.{◌≡◌, None, Some, sym, ap, subst, ◌∙◌}
use Rattle.std.specs.Map.{lookup}
use Rattle.ms_diagram.proofs.PairLemmas.{numbers_eq}
use Rattle.ms_diagram.proofs.ShortLemmas.{ref_of_found, lookup-short, lookup-long}
use Rattle.ms_diagram.proofs.pair_table.ask_short.Goals as goal

pub returns-in_err-codes : goal.returns-in_err-codes
returns-in_err-codes c = c.from_residual.ensures ∙ sym (lookup-long c.args.key.now c.args.short.now c.requires c.in_err-codes.ensures)

pub returns-in_err-made : goal.returns-in_err-made
returns-in_err-made c =
    let found : lookup (numbers_eq c.in_ok-codes.codes) c.args.short.now ≡ None = sym c.ask.ensures ∙ c.in_err-made.was in
    c.from_residual-in_err-made.ensures
    ∙ sym (lookup-short c.args.key.now c.args.short.now ∙ ap ref_of_found (subst (λ codes. lookup (numbers_eq codes) c.args.short.now ≡ None) c.in_ok-codes.ensures.0 found))

pub returns : goal.returns
returns c =
    let found : lookup (numbers_eq c.in_ok-codes.codes) c.args.short.now ≡ Some c.in_ok-made.made = sym c.ask.ensures ∙ c.in_ok-made.was in
    ap (λ (made : _). Some made) c.reference.ensures
    ∙ sym (lookup-short c.args.key.now c.args.short.now ∙ ap ref_of_found (subst (λ codes. lookup (numbers_eq codes) c.args.short.now ≡ Some c.in_ok-made.made) c.in_ok-codes.ensures.0 found))
