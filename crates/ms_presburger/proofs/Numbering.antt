-- The source of sets is well numbered, exports nothing, and meets the rules of checked sources.
use Rattle.std.proofs.Common.{◌≡◌, ◌≢◌, ℕ, List, [], ◌∷◌, length, sym, subst, arith}
use Rattle.std.specs.Prelude.{AllPairs}
use Rattle.ms_logic.specs.declared.checked.Checked.{Checked}
use Rattle.ms_logic.specs.declared.mode.Mode.TheVariants.{Ws1s}
use Rattle.ms_logic.specs.Lists.{Each}
use Rattle.ms_names_rules.specs.Numbers.{IsWellNumbered}
use Rattle.ms_names_checked.specs.Checked.{MeetsRules}
use Rattle.ms_names_checked.specs.Exports.{ListsFreeVariables}
use Rattle.ms_presburger.specs.Source.{IsSetSource, main_form, place_of}
use Rattle.ms_presburger.specs.Tree.{Arithmetic, free_names, free_places}
use Rattle.ms_presburger.specs.inner.Scopes.{AreFactorsSmall}
use Rattle.ms_presburger.proofs.Named.{IsNamed, once-covers, once-differ}
use Rattle.ms_presburger.proofs.Rules.{exports-nothing, in-range, in-turn, top, turns}
use Rattle.ms_presburger.proofs.Seen.{main-numbered}
use Rattle.ms_translation.proofs.Exports.{ExportsNothing}
use Rattle.ms_translation.proofs.Rules as rules

module _ (names : List (List ℕ)) (f : Arithmetic) (made : Checked) (free : names ≡ free_names f) (small : AreFactorsSmall f) (is : IsSetSource names f made) where
  covered : Each (IsNamed names) (free_places f)
  covered = let P : List (List ℕ) → Type 0 = λ ns. Each (IsNamed ns) (free_places f) in subst P (sym free) (once-covers (free_places f))

  different : AllPairs (λ one other. one ≢ other) names
  different = let P : List (List ℕ) → Type 0 = AllPairs (λ one other. one ≢ other) in subst P (sym free) (once-differ (free_places f))

  none-exported : Each ExportsNothing (main_form names f ∷ [])
  none-exported = (exports-nothing f (place_of names) (length names), tt)

  pub is-well-numbered : IsWellNumbered made
  is-well-numbered = rules.is-well-numbered Ws1s names (main_form names f ∷ []) made is (λ tables. (main-numbered tables 0 names f covered, tt)) none-exported

  pub lists-free-variables : ListsFreeVariables made
  lists-free-variables = rules.lists-free-variables Ws1s names (main_form names f ∷ []) made is none-exported

  pub meets-rules : MeetsRules made
  meets-rules =
      let many = top (main_form names f) in
      rules.meets-rules Ws1s names (main_form names f ∷ []) made is different none-exported (turns many) (in-turn (length names) f (place_of names) many (omega arith), tt) (in-range Ws1s f small (place_of names) (length names), tt)
