-- The negation of an automaton over parts of the variables of a node, and the automaton as a restriction.
use Rattle.std.proofs.Common.{◌≡◌, ℕ, List, sym, ap, subst, ◌∙◌}
use Rattle.ms_dfa.specs.Automaton.{IsAutomaton}
use Rattle.ms_logic.specs.Lists.{IsAmong}
use Rattle.ms_logic.specs.declared.mode.Mode.{Mode}
use Rattle.ms_logic.specs.declared.mode.Order.{Order}
use Rattle.ms_logic_words.specs.declared.sign.Sign.{Sign}
use Rattle.ms_logic.specs.Assignment.{Env, IsAssignment}
use Rattle.ms_logic_words.specs.Content.{Content}
use Rattle.ms_product.specs.Combined.{changed, with_signs}
use Rattle.ms_product.specs.Signs.{negated, restricted}
use Rattle.ms_dfa.specs.Values.{HasValues, Meaning, meaning_by, own_meaning}
use Rattle.ms_build.specs.Built.{IsPart}
use Rattle.ms_build.proofs.MeaningLemmas.{HasValues-to, negated-to, own_means, restricted-to}

-- with other signs, over the same variables
IsPart-changed : (mode : Mode) (orders : List Order) (covered : List ℕ) (meaning other : Meaning) (content : Content Sign) → IsPart mode orders covered meaning content → (made : Content Sign)
    → made.mode ≡ content.mode → made.variables ≡ content.variables → HasValues other made → IsPart mode orders covered other made
IsPart-changed mode orders covered meaning other content part made mode_is same values = record {
  mode_is = mode_is ∙ part.mode_is;
  among = λ v there. part.among v (subst (λ vs. IsAmong vs v) same there);
  covers = λ j o is there. subst (λ vs. IsAmong vs (record { name = j; order = o })) (sym same) (part.covers j o is there);
  values = values;
}

module _ (mode : Mode) (orders : List Order) (covered : List ℕ) (HoldsYes HoldsNo : Env → Type 0) (content : Content Sign) (automaton : IsAutomaton content)
    (part : IsPart mode orders covered (meaning_by HoldsYes HoldsNo) content) (made : Content Sign) where
  module _ (change : Sign → Sign) (same : made ≡ with_signs change content) where
    mode_same : made.mode ≡ content.mode
    mode_same = ap (λ (c : Content Sign). c.mode) same

    variables_same : made.variables ≡ content.variables
    variables_same = ap (λ (c : Content Sign). c.variables) same

    own_signs : (e : Env) → IsAssignment made.mode made.variables e → (sign : Sign) → changed change (own_meaning content) e sign → changed change (meaning_by HoldsYes HoldsNo) e sign
    own_signs e assigned sign is =
        let here = subst (λ m. IsAssignment m content.variables e) mode_same (subst (λ vs. IsAssignment made.mode vs e) variables_same assigned) in
        (is.0, own_means (meaning_by HoldsYes HoldsNo) content automaton part.values e here is.0 is.1, is.2)

  pub IsPart-negated : made ≡ with_signs negated content → HasValues (changed negated (own_meaning content)) made → IsPart mode orders covered (meaning_by HoldsNo HoldsYes) made
  IsPart-negated same values =
      IsPart-changed mode orders covered (meaning_by HoldsYes HoldsNo) (meaning_by HoldsNo HoldsYes) content part made (mode_same negated same) (variables_same negated same)
      (HasValues-to (changed negated (own_meaning content)) (meaning_by HoldsNo HoldsYes) made
      (λ word e sign assigned encodes is. negated-to HoldsYes HoldsNo e sign (own_signs negated same e assigned sign is)) values)

  pub IsPart-restricted : made ≡ with_signs restricted content → HasValues (changed restricted (own_meaning content)) made → ((e : Env) → HoldsYes e → HoldsNo e → ⊥)
      → IsPart mode orders covered (meaning_by HoldsYes (λ there. ⊥)) made
  IsPart-restricted same values never =
      IsPart-changed mode orders covered (meaning_by HoldsYes HoldsNo) (meaning_by HoldsYes (λ there. ⊥)) content part made (mode_same restricted same) (variables_same restricted same)
      (HasValues-to (changed restricted (own_meaning content)) (meaning_by HoldsYes (λ there. ⊥)) made
      (λ word e sign assigned encodes is. restricted-to HoldsYes HoldsNo never e sign (own_signs restricted same e assigned sign is)) values)
