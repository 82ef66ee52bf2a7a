use Rattle.ms_dfa.specs.Automaton.{variables_of}
use Rattle.ms_dfafile_adopt.proofs.OverNumbersLemmas.{checked_by}
use Rattle.ms_dfafile_adopt.proofs.over_strings.with_numbers.Goals as goal

pub returns-clause-checked : goal.returns-clause-checked
returns-clause-checked c =
    checked_by c.args.said.now (variables_of c.args.tracks) c.in-Ok-over_numbers.made c.in-Ok-over_numbers.ensures.checked c.minimise.result c.minimise.ensures.mode c.minimise.ensures.variables
    c.minimise.ensures.signs
