-- A command is made of the values that its verb asks for.
use Rattle.std.proofs.Common.{◌≡◌, ℕ, Bool, Option, refl, subst}
use Rattle.clap.specs.Words.{Text}
use Rattle.ms_app_words.specs.Command.{verb_of}
use Rattle.ms_app_words.specs.declared.command.Command.{Command}
use Rattle.ms_app_words.specs.declared.command.Command.TheVariants.{Decide, Same, Gen, Ltl, Presburger, Check, Certify}
use Rattle.ms_app_words.specs.declared.command.Verb.{Verb}
use Rattle.ms_app_words.specs.declared.command.Verb.TheVariants as verb
use Rattle.ms_dfa.specs.declared.plain.FileVersion.{FileVersion}

-- the values that a command with this verb has
abbrev pub Values : Verb → Type 0
Values verb.Decide = Text × Option Text × ℕ × Bool × FileVersion
Values verb.Same = Text × Text × ℕ
Values verb.Gen = ℕ × Bool
Values verb.Ltl = Text × ℕ
Values verb.Presburger = Text × ℕ
Values verb.Check = Text
Values verb.Certify = Text × Text × ℕ

-- the command with these values
abbrev pub made : (verb : Verb) → Values verb → Command
made verb.Decide values = Decide values.0 values.1 values.2 values.3 values.4
made verb.Same values = Same values.0 values.1 values.2
made verb.Gen values = Gen values.0 values.1
made verb.Ltl values = Ltl values.0 values.1
made verb.Presburger values = Presburger values.0 values.1
made verb.Check name = Check name
made verb.Certify values = Certify values.0 values.1 values.2

made_of : (command : Command) → (values : Values (verb_of command)) × (command ≡ made (verb_of command) values)
made_of (Decide file out max_nodes stats format) = ((file, out, max_nodes, stats, format), refl)
made_of (Same left right max_nodes) = ((left, right, max_nodes), refl)
made_of (Gen number decide) = ((number, decide), refl)
made_of (Ltl file max_nodes) = ((file, max_nodes), refl)
made_of (Presburger file max_nodes) = ((file, max_nodes), refl)
made_of (Check name) = (name, refl)
made_of (Certify file name max_nodes) = ((file, name, max_nodes), refl)

-- a command with a verb is made of values of that verb
pub made_by : (verb : Verb) (command : Command) → verb_of command ≡ verb → (values : Values verb) × (command ≡ made verb values)
made_by verb command is = subst (λ v. (values : Values v) × (command ≡ made v values)) is (made_of command)
