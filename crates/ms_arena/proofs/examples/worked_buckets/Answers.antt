use Rattle.std.proofs.Common.{refl}
use Rattle.ms_arena.specs.inner.Bucket.{bucket_of, hash_of}
use Rattle.ms_arena.proofs.examples.worked_buckets.Goals as goal

pub returns-clause-node : goal.returns-clause-node
unfolding bucket_of hash_of
returns-clause-node c = refl

pub returns-clause-neighbour : goal.returns-clause-neighbour
unfolding bucket_of hash_of
returns-clause-neighbour c = refl

pub returns-clause-few_buckets : goal.returns-clause-few_buckets
unfolding bucket_of hash_of
returns-clause-few_buckets c = refl
