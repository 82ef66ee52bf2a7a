use Rattle.std.proofs.Common.{sym, subst}
use Rattle.std.proofs.lemmas.Bool.{false≢true}
use Rattle.ms_dfa.specs.Files.{content_of_file}
use Rattle.ms_dfafile.specs.inner.Rules.{FindsAllTests, KnowsTests}
use Rattle.ms_dfafile.proofs.RulesLemmas.{nodes-of}
use Rattle.ms_dfafile.proofs.rules.is_content.Goals as goal

pub are_references-requires-clause-tests : goal.are_references-requires-clause-tests
are_references-requires-clause-tests c =
    let content = content_of_file c.args.plain.now in
    subst (KnowsTests content) (sym c.slice.ensures) (subst (FindsAllTests content) c.in-Some.is c.in_ok-known.ensures).2

pub returns-in-None : goal.returns-in-None
returns-in-None c =
    let content = content_of_file c.args.plain.now in
    (λ no. absurd (false≢true no), λ rules. absurd (subst (FindsAllTests content) c.in-None.is c.in_ok-known.ensures (nodes-of content rules)))
