-- A source that imports nothing is solved with nothing lent.
use Rattle.std.proofs.Common.{◌≡◌, ℕ, ◌⊎◌, ⊎_elim, inl, inr, List, [], refl, sym, subst, ◌∙◌, arith}
use Rattle.ms_app_solved.specs.Alone.{IsUnsolvedAlone}
use Rattle.ms_build.specs.Built.{IsWithin}
use Rattle.ms_build_source.proofs.SharedRoots.{each_all}
use Rattle.ms_build_source.specs.Imported.{AreAnswersOf, AreLentFor}
use Rattle.ms_build_source.specs.Limits.{IsUnsolved, IsWithinLimits, lacks_nodes, not_made, too_deep, too_large}
use Rattle.ms_edge.specs.declared.refusal.Refusal.{Refusal}
use Rattle.ms_edge.specs.declared.refusal.Refusal.TheVariants.{CoreSize, Depth, Memory, Nodes}
use Rattle.ms_logic.specs.declared.checked.Checked.{Checked}
use Rattle.ms_logic.specs.declared.checked.ImportUse.{ImportUse}
use Rattle.ms_logic.specs.View.{problem_of}
use Rattle.ms_logic_words.specs.Content.{Content}
use Rattle.ms_logic_words.specs.declared.sign.Sign.{Sign}
use Rattle.ms_names_rules.specs.Numbers.{IsWellNumbered}
use Rattle.ms_source_steps.proofs.EnoughLaws.{enough_is_not_below}
use Rattle.ms_source_steps.specs.Laws.{IsBelowNumbered, IsBelowSource}
use Rattle.ms_source_steps.proofs.OwnSteps.{lacking_steps_are_below_their_budgets, numbered_steps_are_steps_of_source}

module _ (source : Checked) (alone : source.imports ≡ []) where
  -- nothing is lent, and nothing answered
  pub nothing-lent : (contents : List (Content Sign)) → contents ≡ [] → AreLentFor source.mode source.imports contents
  nothing-lent contents none =
      let P : List ImportUse → Type 0 = λ uses. AreLentFor source.mode uses contents in
      subst P (sym alone) (subst (λ (lent : List (Content Sign)). AreLentFor source.mode [] lent) (sym none) tt)

  pub nothing-answered : (contents : List (Content Sign)) → contents ≡ [] → AreAnswersOf source.mode source.imports [] contents
  nothing-answered contents none =
      let P : List ImportUse → Type 0 = λ uses. AreAnswersOf source.mode uses [] contents in
      subst P (sym alone) (subst (λ (lent : List (Content Sign)). AreAnswersOf source.mode [] [] lent) (sym none) tt)

  module _ (numbered : IsWellNumbered source) (limit : ℕ) (refusal : Refusal) where
    below : IsUnsolved source [] [] limit refusal → (step : ℕ) → refusal ≡ Nodes step limit → IsBelowNumbered source [] limit step
    below (not_made (too_deep deep)) step same = absurd (let never : Depth deep.at ≡ Nodes step limit = sym deep.is ∙ same in cc)
    below (not_made (too_large large)) step same = absurd (let never : CoreSize ≡ Nodes step limit = sym large.is ∙ same in cc)
    below (lacks_nodes within there why nodes) step same =
        let one : there ≡ step = let named = sym nodes ∙ same in cc in
        subst (λ (number : ℕ). IsBelowNumbered source [] limit number) one
        (lacking_steps_are_below_their_budgets source [] [] limit there numbered (nothing-lent [] refl) (nothing-answered [] refl) (each_all (IsWithin limit) [] tt) why)

    of_source : IsUnsolved source [] [] limit refusal → (step : ℕ) → refusal ≡ Nodes step limit → IsBelowSource source [] limit
    of_source unsolved step same = numbered_steps_are_steps_of_source source [] limit step numbered (below unsolved step same)

    pub refused-for : (contents : List (Content Sign)) → contents ≡ [] → (refusal ≡ Memory) ⊎ IsUnsolved source [] contents limit refusal → (refusal ≡ Memory) ⊎ IsUnsolvedAlone source limit refusal
    refused-for contents none why =
        ⊎_elim (λ memory. inl memory)
        (λ unsolved.
        let unlent = subst (λ (lent : List (Content Sign)). IsUnsolved source [] lent limit refusal) none unsolved in
        inr (record {
          why = unlent;
          numbered = below unlent;
          below = of_source unlent;
          short = λ step same enough. enough_is_not_below source [] [] [] limit numbered (nothing-lent [] refl) (nothing-answered [] refl) enough (of_source unlent step same);
        }))
        why

-- a source within the limits is refused for want of memory or of nodes alone
pub wanted : (source : Checked) (limit : ℕ) (refusal : Refusal) → IsWithinLimits (problem_of source []) → IsUnsolved source [] [] limit refusal → (refusal ≡ Memory) ⊎ ((step : ℕ) × (refusal ≡ Nodes step limit))
wanted source limit refusal within (not_made (too_deep deep)) = absurd (omega (arith, within.depth, deep.too_deep))
wanted source limit refusal within (not_made (too_large large)) = absurd (omega (arith, within.size, large.too_large))
wanted source limit refusal within (lacks_nodes still step why nodes) = inr (step, nodes)
