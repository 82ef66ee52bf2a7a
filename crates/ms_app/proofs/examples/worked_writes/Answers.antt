use Rattle.ms_app.proofs.ExampleFiles as written
use Rattle.ms_app.proofs.examples.worked_writes.Goals as goal

pub returns : goal.returns
returns c = record {
  written = written.written;
  other_bytes = written.other_bytes;
  first_stands = written.first_stands;
  first_lacks = written.first_lacks;
  in_part = written.in_part;
  another = written.another;
  none_left = written.none_left;
}
