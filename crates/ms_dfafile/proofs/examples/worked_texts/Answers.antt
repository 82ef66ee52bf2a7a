use Rattle.ms_dfafile.proofs.ExampleLemmas as lemmas
use Rattle.ms_dfafile.proofs.examples.worked_texts.Goals as goal

pub returns : goal.returns
returns c = record {
  emptiness = lemmas.emptiness-spelled;
  zero_before = lemmas.zero_before-no_file;
  line_behind = lemmas.line_behind-no_file;
}
