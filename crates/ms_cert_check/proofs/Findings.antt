-- What a check finds: the states of a certified automaton are the fewest.
use Rattle.std.proofs.Common.{◌≡◌, ◌≤◌, length, Option, Some, None, IfSome, IfNone, sym, subst, ◌∙◌}
use Rattle.std.proofs.lemmas.List.{length-map}
use Rattle.ms_cert.specs.Certificate.{IsCertified}
use Rattle.ms_cert.specs.Proven.{IsProven}
use Rattle.ms_cert.specs.declared.cert.Cert.{Cert}
use Rattle.ms_cert.specs.declared.cert.Proven.{Proven}
use Rattle.ms_cert.proofs.FewestLemmas.{fewest-states}
use Rattle.ms_dfa.specs.Files.{content_of_file}
use Rattle.ms_dfa.specs.declared.plain.FileSign.{FileSign}
use Rattle.ms_dfa.specs.declared.plain.FileState.{FileState}
use Rattle.ms_dfa.specs.declared.plain.Plain.{Plain}
use Rattle.ms_logic_words.specs.Content.{StateOf}
use Rattle.ms_cert_check.specs.Check.{AreFewestStates, IsFinding}

module _ (plain : Plain) (cert : Cert) where
  as_many : length (content_of_file plain).states ≡ length plain.states
  as_many = length-map {B = StateOf FileSign} plain.states (λ (state : FileState). record { sign = state.sign; next = state.next })

  fewest : (proven : Proven) → IsCertified plain cert → IsProven (content_of_file plain) proven → AreFewestStates plain proven.states
  fewest proven certified is other rules same =
      subst (λ n. n ≤ length other.states) (sym (is.states ∙ as_many)) (fewest-states plain cert other certified rules same)

  pub finding : (found : Option Proven) → IfSome found (λ _. IsCertified plain cert) → IfSome found (IsProven (content_of_file plain))
      → IfNone found (IsCertified plain cert → ⊥) → IsFinding plain cert found
  finding None certified is none = none
  finding (Some proven) certified is none = (certified, is, fewest proven certified is)
