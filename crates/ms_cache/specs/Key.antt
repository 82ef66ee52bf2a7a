-- The keys of a memo.
use Rattle.std.specs.Prelude.{Bool}
use Rattle.ms_cache.specs.declared.key.Key.{Key}
use Rattle.ms_cache.specs.contracts.key.KeyPartialEq.TheImpl as of_key

-- whether two keys are equal
abbrev pub is_key : Key → Key → Bool
is_key = of_key.eq-value.it
