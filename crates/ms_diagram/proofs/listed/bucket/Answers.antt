use Rattle.std.proofs.Common.{refl}
use Rattle.ms_diagram.specs.inner.Listed.{bucket_of}
use Rattle.ms_diagram.proofs.listed.bucket.Goals as goal

pub returns-clause-value : goal.returns-clause-value
unfolding bucket_of
returns-clause-value c = refl
