use Rattle.std.proofs.Common.{rules}
use Rattle.ms_arena.specs.inner.Bucket.{hash_of}
use Rattle.ms_arena.proofs.hash.hash.Goals as goal

pub returns : goal.returns
unfolding hash_of
returns c = search rules
