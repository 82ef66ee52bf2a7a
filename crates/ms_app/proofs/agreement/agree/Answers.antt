use Rattle.std.proofs.Common.{map, sym, ◌∙◌}
use Rattle.ms_build.proofs.WholeLemmas.{rising-by_place}
use Rattle.ms_dfa.specs.Files.{content_of_file}
use Rattle.ms_app.proofs.AgreementLemmas.{agree_equal, equal_agree}
use Rattle.ms_app.proofs.ContentLemmas.{contents_equal, parts_equal}
use Rattle.ms_app.proofs.agreement.agree.Goals as goal

pub returns-in-Ok-canonical_of-clause-agree : goal.returns-in-Ok-canonical_of-clause-agree
returns-in-Ok-canonical_of-clause-agree c = λ one two is_left is_right mode variables.
    let p = c.in-Ok.content in
    let q = c.in-Ok-canonical_of.other in
    let left = content_of_file p in
    let right = content_of_file q in
    let of_left = c.in-Ok.ensures.content one is_left in
    let of_right = c.in-Ok-canonical_of.ensures.content two is_right in
    let same_mode = of_left.mode ∙ mode ∙ sym of_right.mode in
    let same_variables = of_left.variables ∙ variables ∙ sym of_right.variables in
    let rising = rising-by_place 0 (map (λ v. v.order) p.variables) in (
      λ yes. equal_agree one two left right of_left of_right same_mode same_variables (contents_equal p q same_mode same_variables (c.is_same_content.ensures.0 yes)),
      λ agree. c.is_same_content.ensures.1 (parts_equal p q (agree_equal one two left right of_left of_right same_mode same_variables rising agree)),
    )
