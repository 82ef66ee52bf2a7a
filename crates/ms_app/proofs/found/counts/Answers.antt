use Rattle.std.proofs.Common.{refl, arith}
use Rattle.std.proofs.lemmas.List.{length-map}
use Rattle.ms_dfa.specs.declared.plain.FileSign.{FileSign}
use Rattle.ms_logic_words.specs.Content.{StateOf}
use Rattle.ms_dfa.specs.Files.{content_of_file}
use Rattle.ms_app.proofs.found.counts.Goals as goal

pub returns : goal.returns
returns c = λ checked answers is canonical. record {
  files_are = refl;
  size = is.size;
  depth = is.depth;
  content = content_of_file c.args.content.now;
  is = canonical;
  states = let counted = c.len.ensures in let mapped = length-map {B = StateOf FileSign} c.args.content.now.states (λ s. record { sign = s.sign; next = s.next }) in omega (arith, counted, mapped);
  nodes = c.len-2.ensures;
}
