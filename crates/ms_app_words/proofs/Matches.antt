-- What matches ask for, by the values that they have.
use Rattle.std.proofs.Common.{◌≡◌, ℕ, codes, None, sym, subst, ◌∙◌}
use Rattle.std.proofs.lemmas.Option.{none-some}
use Rattle.std.specs.Prelude.{List}
use Rattle.clap.specs.Words.{Row, Text, first_of}
use Rattle.ms_dfa.specs.declared.plain.FileVersion.{FileVersion}
use Rattle.ms_app_words.specs.declared.command.Command.{Command}
use Rattle.ms_app_words.specs.declared.command.Verb.{Verb}
use Rattle.ms_app_words.specs.declared.command.Verb.TheVariants as verb
use Rattle.ms_app_words.specs.Command.{Asks, AsksBy, AsksOfFile, HasFormat, HasLimit, HasNumber}
use Rattle.ms_app_words.proofs.Verbs.{Values, made, made_by}

module _ (rows : List Row) where
  -- where no values of a verb are asked for, no command with this verb is
  no_values : (verb : Verb) → ((values : Values verb) → ¬ Asks rows (made verb values)) → (command : Command) → ¬ AsksBy verb rows command
  no_values verb none command asked =
      let of = made_by verb command asked.0 in
      none of.0 (subst (Asks rows) of.1 asked.1)

  -- so where one of them is lacking, nothing asks for the command
  pub no_file_to_decide : ((file : Text) (limit : ℕ) → ¬ AsksOfFile rows file limit) → (command : Command) → ¬ AsksBy verb.Decide rows command
  no_file_to_decide none = no_values verb.Decide (λ values asked. none values.0 values.2 (asked.0, asked.2))

  pub no_format : ((version : FileVersion) → ¬ HasFormat (first_of (codes "format") rows) version) → (command : Command) → ¬ AsksBy verb.Decide rows command
  no_format none = no_values verb.Decide (λ values asked. none values.4 asked.4)

  pub no_left : first_of (codes "LEFT") rows ≡ None → (command : Command) → ¬ AsksBy verb.Same rows command
  no_left none = no_values verb.Same (λ values asked. none-some values.0 (sym none ∙ asked.0))

  pub no_right : first_of (codes "RIGHT") rows ≡ None → (command : Command) → ¬ AsksBy verb.Same rows command
  no_right none = no_values verb.Same (λ values asked. none-some values.1 (sym none ∙ asked.1))

  pub no_limit_to_compare : ((limit : ℕ) → ¬ HasLimit (first_of (codes "max-nodes") rows) limit) → (command : Command) → ¬ AsksBy verb.Same rows command
  no_limit_to_compare none = no_values verb.Same (λ values asked. none values.2 asked.2)

  pub no_number : ((number : ℕ) → ¬ HasNumber (first_of (codes "K") rows) number) → (command : Command) → ¬ AsksBy verb.Gen rows command
  no_number none = no_values verb.Gen (λ values asked. none values.0 asked.0)

  pub no_formula : ((file : Text) (limit : ℕ) → ¬ AsksOfFile rows file limit) → (command : Command) → ¬ AsksBy verb.Ltl rows command
  no_formula none = no_values verb.Ltl (λ values asked. none values.0 values.1 asked)

  pub no_problem : ((file : Text) (limit : ℕ) → ¬ AsksOfFile rows file limit) → (command : Command) → ¬ AsksBy verb.Presburger rows command
  no_problem none = no_values verb.Presburger (λ values asked. none values.0 values.1 asked)

  pub no_name : first_of (codes "NAME") rows ≡ None → (command : Command) → ¬ AsksBy verb.Check rows command
  no_name none = no_values verb.Check (λ name asked. none-some name (sym none ∙ asked))

  pub no_file_to_certify : ((file : Text) (limit : ℕ) → ¬ AsksOfFile rows file limit) → (command : Command) → ¬ AsksBy verb.Certify rows command
  no_file_to_certify none = no_values verb.Certify (λ values asked. none values.0 values.2 asked.0)

  pub no_name_to_certify : first_of (codes "NAME") rows ≡ None → (command : Command) → ¬ AsksBy verb.Certify rows command
  no_name_to_certify none = no_values verb.Certify (λ values asked. none-some values.1 (sym none ∙ asked.1))

  -- where no file is named, or no limit, none of both
  pub no_limited_file : first_of (codes "FILE") rows ≡ None → (file : Text) (limit : ℕ) → ¬ AsksOfFile rows file limit
  no_limited_file none file limit asked = none-some file (sym none ∙ asked.0)

  pub no_file_limit : ((limit : ℕ) → ¬ HasLimit (first_of (codes "max-nodes") rows) limit) → (file : Text) (limit : ℕ) → ¬ AsksOfFile rows file limit
  no_file_limit none file limit asked = none limit asked.1
