use Rattle.std.proofs.Common.{sym, subst, ◌∙◌}
use Rattle.std.proofs.lemmas.Bool.{false≢true}
use Rattle.ms_dfafile.specs.inner.Rules.{MeetsRules}
use Rattle.ms_dfafile.proofs.FileLemmas.{file-from, no_content, same_content}
use Rattle.ms_dfafile.proofs.PartsLemmas.{content_text-spelled}
use Rattle.ms_dfafile.proofs.reading.read.Goals as goal

pub meets_rules-requires : goal.meets_rules-requires
meets_rules-requires c = c.in-Ok.ensures.0.1.1.0.0

pub returns-in-Err-clause-none : goal.returns-in-Err-clause-none
returns-in-Err-clause-none c = λ is_text. no_content c.args.bytes.now c.in-Err.fault c.in-Err.ensures cc

pub returns-in-Ok-true-clause-file : goal.returns-in-Ok-true-clause-file
returns-in-Ok-true-clause-file c =
    let plain = c.in-Ok.plain in
    let meets = c.in-Ok-true.ensures.0 c.in-Ok-true.field-0-test in
    record { text = c.in-Ok.ensures.1 ∙ content_text-spelled plain; rules = file-from plain c.in-Ok.ensures.0 meets }

pub returns-in-Ok-false-clause-none : goal.returns-in-Ok-false-clause-none
returns-in-Ok-false-clause-none c =
    λ is_text plain is.
    let same = same_content c.args.bytes.now c.in-Ok.plain plain c.in-Ok.ensures.0 c.in-Ok.ensures.1 is in
    let rules : MeetsRules plain = record { different = is.rules.different; content = is.rules.content; signs = is.rules.signs } in
    let meets = c.in-Ok-false.ensures.1 (subst MeetsRules (sym same) rules) in
    false≢true (sym c.in-Ok-false.field-0-test ∙ meets)
