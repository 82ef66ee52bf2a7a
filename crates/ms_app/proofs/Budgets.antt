-- A source that lacks nodes is refused under a limit below the budgets of the step that is told, which is not enough for it.
use Rattle.std.proofs.Common.{◌≡◌, ℕ, ◌+◌, ◌≤◌, List, [], ◌∷◌, length, sym, subst, ◌∙◌}
use Rattle.ms_build.specs.Built.{IsWithin}
use Rattle.ms_build_source.proofs.SharedRoots.{each_all}
use Rattle.ms_build_source.specs.Limits.{IsUnsolved, lacks_nodes, not_made, too_deep, too_large}
use Rattle.ms_dfa.specs.declared.plain.Plain.{Plain}
use Rattle.ms_dfafile_imports.specs.Adopted.{AreAdopted}
use Rattle.ms_dfafile_imports.specs.Imports.{answers_by}
use Rattle.ms_edge.specs.declared.refusal.Refusal.{Refusal}
use Rattle.ms_edge.specs.declared.refusal.Refusal.TheVariants.{CoreSize, Depth, Nodes}
use Rattle.ms_list.specs.declared.at.At.{At}
use Rattle.ms_logic.specs.declared.checked.Checked.{Checked}
use Rattle.ms_logic.specs.declared.checked.ImportUse.{ImportUse}
use Rattle.ms_logic.specs.declared.mode.Mode.{Mode}
use Rattle.ms_logic.specs.Lists.{Each}
use Rattle.ms_logic_words.specs.Content.{Content}
use Rattle.ms_logic_words.specs.declared.sign.Sign.{Sign}
use Rattle.ms_names_rules.specs.Numbers.{IsWellNumbered}
use Rattle.ms_dfafile_imports.specs.Enough.{contents_of}
use Rattle.ms_source_steps.proofs.EnoughLaws.{enough_is_not_below}
use Rattle.ms_source_steps.proofs.OwnSteps.{lacking_steps_are_below_their_budgets, numbered_steps_are_steps_of_source}
use Rattle.ms_source_steps.specs.Laws.{IsBelowNumbered}
use Rattle.ms_app.specs.Source.{IsBelowBudgets}
use Rattle.ms_app.proofs.Adopted.{are_answers, are_lent}

no_depth : (at : At) (step limit : ℕ) → Depth at ≡ Nodes step limit → ⊥
no_depth at step limit same = cc

no_size : (step limit : ℕ) → CoreSize ≡ Nodes step limit → ⊥
no_size step limit same = cc

-- adopted automata are within the limit
all_within : (limit : ℕ) (mode : Mode) (uses : List ImportUse) (plains : List Plain) (contents : List (Content Sign)) → AreAdopted limit mode uses plains contents → Each (IsWithin limit) contents
all_within limit mode [] [] [] are = tt
all_within limit mode [] [] (content ∷ contents) are = absurd are
all_within limit mode [] (plain ∷ plains) contents are = absurd are
all_within limit mode (used ∷ uses) [] contents are = absurd are
all_within limit mode (used ∷ uses) (plain ∷ plains) [] are = absurd are
all_within limit mode (used ∷ uses) (plain ∷ plains) (content ∷ contents) are = (are.0.within, all_within limit mode uses plains contents are.1)

pub below_budgets : (limit : ℕ) (checked : Checked) (plains : List Plain) (contents : List (Content Sign)) → IsWellNumbered checked
    → AreAdopted limit checked.mode checked.imports plains contents → (refusal : Refusal) → IsUnsolved checked (answers_by checked.imports plains) contents limit refusal
    → IsBelowBudgets checked plains limit refusal
below_budgets limit checked plains contents numbered adopted refusal (not_made (too_deep deep)) step is = absurd (no_depth deep.at step limit (sym deep.is ∙ is))
below_budgets limit checked plains contents numbered adopted refusal (not_made (too_large large)) step is = absurd (no_size step limit (sym large.is ∙ is))
below_budgets limit checked plains contents numbered adopted refusal (lacks_nodes within there why nodes) step is =
    let answers = answers_by checked.imports plains in
    let lent = are_lent limit checked.mode checked.imports plains contents adopted in
    let answered = are_answers limit checked.mode checked.imports plains contents adopted in
    let same : there ≡ step = let one = sym nodes ∙ is in cc in
    let numbered_below = lacking_steps_are_below_their_budgets checked answers contents limit there numbered lent answered
    (each_all (IsWithin limit) contents (all_within limit checked.mode checked.imports plains contents adopted)) why in
    let below = numbered_steps_are_steps_of_source checked answers limit there numbered numbered_below in (
      subst (λ (number : ℕ). IsBelowNumbered checked answers limit number) same numbered_below,
      below,
      λ enough. enough_is_not_below checked answers contents (contents_of checked.imports plains) limit numbered lent answered enough below,
    )
