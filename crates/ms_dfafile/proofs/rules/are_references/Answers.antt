use Rattle.std.proofs.Common.{arith}
use Rattle.ms_dfa.specs.Files.{content_of_file}
use Rattle.ms_dfafile.proofs.RulesLemmas.{content-from, length-states, next-in_file, next-of, next-of_file, nonempty}
use Rattle.ms_dfafile.proofs.rules.are_references.Goals as goal

pub returns : goal.returns
returns c =
    let plain = c.args.plain.now in
    let content = content_of_file plain in
    let some = nonempty plain.states c.is_empty.result c.if-is_empty.false c.is_empty.ensures.1 in (
      λ yes. content-from content (omega (arith, length-states plain)) c.requires.placed (c.is_start.ensures.0 c.if-not-is_start.false) (next-of_file plain (c.are_next.ensures.0 yes)),
      λ rules. c.are_next.ensures.1 (next-in_file plain (next-of content rules)),
    )
