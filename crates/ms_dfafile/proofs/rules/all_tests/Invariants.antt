use Rattle.ms_dfa.specs.Files.{content_of_file}
use Rattle.ms_dfafile.proofs.RulesLemmas.{HasTested}
use Rattle.ms_dfafile.proofs.rules.all_tests.Given as goal

-- the nodes so far may stand where they do, and what they test is known
abbrev pub invariant-loop-node : goal.invariant-loop-node
invariant-loop-node l = HasTested (content_of_file l.plain) l.known l.node-index
