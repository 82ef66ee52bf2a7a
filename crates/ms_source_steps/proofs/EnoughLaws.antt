-- A limit that is enough for a source is below no step of it, whose imports are those of automata that are lent.
use Rattle.std.proofs.Common.{ℕ, List, map}
use Rattle.ms_build_source.specs.Imported.{AreAnswersOf, AreLentFor}
use Rattle.ms_logic.specs.Truth.{Answer}
use Rattle.ms_logic.specs.View.{Answers}
use Rattle.ms_logic.specs.declared.checked.Checked.{Checked}
use Rattle.ms_logic_words.specs.Content.{Content}
use Rattle.ms_logic_words.specs.declared.sign.Sign.{Sign}
use Rattle.ms_names_rules.specs.Numbers.{IsWellNumbered}
use Rattle.ms_source_steps.specs.Laws.{IsBelowSource}
use Rattle.ms_source_steps.specs.Enough.{IsEnoughFor}
use Rattle.ms_source_steps.proofs.Lent.{answering, lent_contents}
use Rattle.ms_source_steps.proofs.EnoughSteps.{enough_is_not_below_tied}

pub enough_is_not_below : (checked : Checked) (answers : Answers) (contents : List (Content Sign)) (files : List (Content Answer)) (limit : ℕ)
    → IsWellNumbered checked → AreLentFor checked.mode checked.imports contents → AreAnswersOf checked.mode checked.imports answers contents
    → IsEnoughFor checked answers files limit → IsBelowSource checked answers limit → ⊥
enough_is_not_below checked answers contents files limit numbered lent answered =
    enough_is_not_below_tied checked answers (map answering contents) files limit numbered (lent_contents checked.mode checked.imports answers contents lent answered)
