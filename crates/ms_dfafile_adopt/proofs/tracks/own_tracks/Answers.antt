use Rattle.std.proofs.Common.{ap, ◌∙◌, arith}
use Rattle.ms_dfa.specs.Automaton.{variables_of}
use Rattle.ms_dfafile_adopt.proofs.ListLemmas.{tracks_more}
use Rattle.ms_dfafile_adopt.proofs.tracks.own_tracks.Goals as goal

pub loop-file_variable-preserved : goal.loop-file_variable-preserved
loop-file_variable-preserved c = (
  ap variables_of c.in_ok-push.ensures.ok
      ∙ tracks_more c.args.variables.now c.loop-file_variable.made c.loop-file_variable.file_variable-index c.loop-file_variable.place c.file_variable-item.result c.loop-file_variable-test.true
      c.file_variable-item.is c.loop-file_variable.invariant.1 c.loop-file_variable.invariant.0,
  (let place = c.loop-file_variable.invariant.1 in omega (arith, place)),
)
