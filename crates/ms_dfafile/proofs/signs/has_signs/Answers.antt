use Rattle.std.proofs.Common.{◌↔◌, IsTrue, sym, subst}
use Rattle.std.proofs.lemmas.Result.{IfOk-weaker}
use Rattle.ms_dfa.specs.Files.{HasSignsOf, content_of_file}
use Rattle.ms_dfafile.proofs.SignsLemmas.{AreOthers, no_outside-from, no_outside-to}
use Rattle.ms_dfafile.proofs.signs.has_signs.Goals as goal

pub returns-in-One : goal.returns-in-One
returns-in-One c =
    let plain = c.args.plain.now in
    subst (λ version. IsTrue c.has_no_outside.result ↔ HasSignsOf version (content_of_file plain)) (sym c.in-One.is) (
      λ is. no_outside-from plain (subst AreOthers c.slice.ensures (c.has_no_outside.ensures.0 is)),
      λ none. c.has_no_outside.ensures.1 (subst AreOthers (sym c.slice.ensures) (no_outside-to plain none)),
    )

pub returns-in-Two : goal.returns-in-Two
returns-in-Two c =
    let plain = c.args.plain.now in
    IfOk-weaker c.marks_outside.result _ _
    (λ marks both. subst (λ version. IsTrue marks ↔ HasSignsOf version (content_of_file plain)) (sym c.in-Two.is) both) c.marks_outside.ensures
