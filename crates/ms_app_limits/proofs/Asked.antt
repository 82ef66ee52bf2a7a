-- The words that ask to decide the inclusion under its limit.
use Rattle.std.proofs.Common.{codes, false, None, refl, arith}
use Rattle.clap.proofs.OnLiterals.{clap_on_literals}
use Rattle.ms_app_words.specs.Command.{IsCommand, IsLimitIn, IsNumberIn}
use Rattle.ms_app_words.specs.declared.command.Command.TheVariants.{Decide}
use Rattle.ms_dfa.specs.declared.plain.FileVersion.TheVariants.{Two}
use Rattle.ms_app_limits.specs.inner.Inclusion.{inclusion_words}

is_number : IsNumberIn (codes "30976") 30976
is_number = record { numeral = (omega arith, (omega arith, (omega arith, (omega arith, (omega arith, (omega arith, tt)))))); is = refl }

is_limit : IsLimitIn (codes "30976") 30976
is_limit = record { number = is_number; some = omega arith; small = omega arith }

pub asked : IsCommand inclusion_words (Decide (codes "a") None 30976 false Two)
unfolding clap_on_literals
asked = record { verb = refl; taken = refl; asked = (refl, refl, is_limit, refl, refl) }
