use Rattle.std.proofs.Common.{◌-◌, bit_and, ap}
use Rattle.ms_arena.specs.inner.Bucket.{bucket_of}
use Rattle.ms_arena.proofs.hash.bucket.Goals as goal

pub returns-clause-value : goal.returns-clause-value
unfolding bucket_of
returns-clause-value c = ap (λ hash. bit_and hash (c.args.buckets - 1)) c.hash.ensures
