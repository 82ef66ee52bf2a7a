use Rattle.std.proofs.Common.{[], ◌∷◌, inl, sym, ap, length, ◌∙◌}
use Rattle.std.proofs.lemmas.Bool.{false≢true}
use Rattle.std.proofs.lemmas.Bool.Decides.{Decides-eqb}
use Rattle.std.proofs.lemmas.Slice.Eq.{starts_is}
use Rattle.ms_text.proofs.Fronts.{mark_token, open_comment, stray_byte}
use Rattle.ms_text.proofs.scan.sign_at.Goals as goal

pub returns-then-starts_with-clause-fault : goal.returns-then-starts_with-clause-fault
returns-then-starts_with-clause-fault c =
    inl (open_comment c.args.rest.now ((starts_is Decides-eqb c.args.rest.now (47 ∷ 42 ∷ []) c.starts_with.result c.starts_with.ensures.value).0 c.if-starts_with.true) c.requires.no_gap)

pub returns-in-Some-clause-token : goal.returns-in-Some-clause-token
returns-in-Some-clause-token c =
    mark_token c.args.rest.now c.in-Some.mark _ c.in-Some.ensures.mark c.in-Some.ensures.longest (ap length (sym c.spelling.ensures))

pub returns-in-None-clause-fault : goal.returns-in-None-clause-fault
returns-in-None-clause-fault c =
    inl (stray_byte c.args.rest.now c.requires.nonempty c.requires.no_gap c.requires.no_name c.requires.no_digit c.requires.no_quote
    (λ body e. false≢true (sym c.if-starts_with.false ∙ (starts_is Decides-eqb c.args.rest.now (47 ∷ 42 ∷ []) c.starts_with.result c.starts_with.ensures.value).1 body e))
    c.in-None.ensures.no_mark)
