-- Words are one command at most.
use Rattle.std.proofs.Common.{◌≡◌, ℕ, List, [], Option, Some, None, refl, sym, ap, ◌∙◌, subst, arith}
use Rattle.clap.specs.Words.{Row, Text, fault_of, matches_of}
use Rattle.ms_app_words.specs.Command.{Asks, AsksBy, AsksOfFile, HasFormat, HasLimit, HasNumber, IsCommand, app_for, first_verb, verb_of}
use Rattle.ms_dfa.specs.declared.plain.FileVersion.{FileVersion}
use Rattle.ms_dfa.specs.declared.plain.FileVersion.TheVariants.{One, Two}
use Rattle.ms_app_words.specs.declared.command.Command.{Command}
use Rattle.ms_app_words.specs.declared.command.Command.TheVariants.{Decide, Same, Gen, Ltl, Presburger, Check, Certify}
use Rattle.ms_app_words.specs.declared.command.Verb.{Verb}
use Rattle.ms_app_words.specs.declared.command.Verb.TheVariants as verb
use Rattle.ms_app_words.proofs.Verbs.{Values, made, made_by}

same_verb : (one other : Verb) → Some one ≡ Some other → one ≡ other
same_verb one other same = cc

same_text : (found : Option Text) (one other : Text) → found ≡ Some one → found ≡ Some other → one ≡ other
same_text found one other is is' = let same : Some one ≡ Some other = sym is ∙ is' in cc

same_limit : (found : Option Text) (one other : ℕ) → HasLimit found one → HasLimit found other → one ≡ other
same_limit None one other is is' = is ∙ sym is'
same_limit (Some text) one other is is' = is.number.is ∙ sym is'.number.is

same_format : (found : Option Text) (one other : FileVersion) → HasFormat found one → HasFormat found other → one ≡ other
same_format None one other is is' = is ∙ sym is'
same_format (Some text) One One is is' = refl
same_format (Some text) One Two is is' = absurd (omega (arith, is.is, is'.is))
same_format (Some text) Two One is is' = absurd (omega (arith, is.is, is'.is))
same_format (Some text) Two Two is is' = refl

same_number : (found : Option Text) (one other : ℕ) → HasNumber found one → HasNumber found other → one ≡ other
same_number None one other is is' = absurd is
same_number (Some text) one other is is' = is.0.is ∙ sym is'.0.is

module _ (rows : List Row) where
  same_of_file : (file file' : Text) (limit limit' : ℕ) → AsksOfFile rows file limit → AsksOfFile rows file' limit' → (file ≡ file') × (limit ≡ limit')
  same_of_file file file' limit limit' asks asks' = (same_text _ file file' asks.0 asks'.0, same_limit _ limit limit' asks.1 asks'.1)

  same_values : (verb : Verb) (one other : Values verb) → Asks rows (made verb one) → Asks rows (made verb other) → made verb one ≡ made verb other
  same_values verb.Decide one other asks others =
      let file = same_of_file one.0 other.0 one.2 other.2 (asks.0, asks.2) (others.0, others.2) in
      let out = asks.1 ∙ sym others.1 in
      let stats = asks.3 ∙ sym others.3 in
      let format = same_format _ one.4 other.4 asks.4 others.4 in
      λ i. Decide (file.0 i) (out i) (file.1 i) (stats i) (format i)
  same_values verb.Same one other asks others =
      let left = same_text _ one.0 other.0 asks.0 others.0 in
      let right = same_text _ one.1 other.1 asks.1 others.1 in
      let limit = same_limit _ one.2 other.2 asks.2 others.2 in
      λ i. Same (left i) (right i) (limit i)
  same_values verb.Gen one other asks others =
      let number = same_number _ one.0 other.0 asks.0 others.0 in
      let decide = asks.1 ∙ sym others.1 in
      λ i. Gen (number i) (decide i)
  same_values verb.Ltl one other asks others =
      let file = same_of_file one.0 other.0 one.1 other.1 asks others in
      λ i. Ltl (file.0 i) (file.1 i)
  same_values verb.Presburger one other asks others =
      let file = same_of_file one.0 other.0 one.1 other.1 asks others in
      λ i. Presburger (file.0 i) (file.1 i)
  same_values verb.Check one other asks others = ap Check (same_text _ one other asks others)
  same_values verb.Certify one other asks others =
      let file = same_of_file one.0 other.0 one.2 other.2 asks.0 others.0 in
      let name = same_text _ one.1 other.1 asks.1 others.1 in
      λ i. Certify (file.0 i) (name i) (file.1 i)

  same_asked : (verb : Verb) (one other : Command) → AsksBy verb rows one → AsksBy verb rows other → one ≡ other
  same_asked verb one other asked others =
      let of = made_by verb one asked.0 in
      let of' = made_by verb other others.0 in
      of.1 ∙ same_values verb of.0 of'.0 (subst (Asks rows) of.1 asked.1) (subst (Asks rows) of'.1 others.1) ∙ sym of'.1

pub one_command : (words : List Text) (one other : Command) → IsCommand words one → IsCommand words other → one ≡ other
one_command words one other is is' =
    let same : verb_of one ≡ verb_of other = same_verb (verb_of one) (verb_of other) (sym is.verb ∙ is'.verb) in
    same_asked (matches_of (app_for (verb_of other)) words) (verb_of other) one other (same, subst (λ v. Asks (matches_of (app_for v) words) one) same is.asked) (refl, is'.asked)

-- words that ask for a command after their first word are this command
pub command_by : (words : List Text) (verb : Verb) (command : Command) → first_verb words ≡ Some verb → fault_of (app_for verb) words ≡ [] → AsksBy verb (matches_of (app_for verb) words) command → IsCommand words command
command_by words verb command first taken asked =
    let same : verb ≡ verb_of command = sym asked.0 in
    record {
      verb = first ∙ ap Some same;
      taken = subst (λ v. fault_of (app_for v) words ≡ []) same taken;
      asked = subst (λ v. Asks (matches_of (app_for v) words) command) same asked.1;
    }
