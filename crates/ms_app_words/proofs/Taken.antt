-- `clap` says of each command what it takes and what it makes of the words.
use Rattle.std.proofs.Common.{◌≡◌, true, refl}
use Rattle.clap.proofs.OnLiterals.{clap_on_literals}
use Rattle.clap.specs.Words.{is_simple, is_simple_and_free}
use Rattle.ms_app_words.specs.Command.{app_for}
use Rattle.ms_app_words.specs.declared.command.Verb.{Verb}
use Rattle.ms_app_words.specs.declared.command.Verb.TheVariants.{Decide, Same, Gen, Ltl, Presburger, Check, Certify}

pub app_is_taken : (verb : Verb) → (is_simple (app_for verb) ≡ true) × (is_simple_and_free (app_for verb) ≡ true)
unfolding clap_on_literals
app_is_taken Decide = (refl, refl)
app_is_taken Same = (refl, refl)
app_is_taken Gen = (refl, refl)
app_is_taken Ltl = (refl, refl)
app_is_taken Presburger = (refl, refl)
app_is_taken Check = (refl, refl)
app_is_taken Certify = (refl, refl)
