-- Contents over Q alone for the worked examples.
use Rattle.std.specs.Prelude.{[], ◌∷◌}
use Rattle.ms_logic.specs.declared.mode.Order.TheVariants.{Two}
use Rattle.ms_logic.specs.inner.Examples.{variable}
use Rattle.ms_logic_words.specs.Content.{Content}
use Rattle.ms_logic_words.specs.declared.sign.Sign.{Sign}
use Rattle.ms_logic_words.specs.inner.ContentExamples.{full_subset_content}

-- over the second set
abbrev pub over_Q : Content Sign
over_Q = record full_subset_content { variables = variable 1 Two ∷ [] }

-- and over sets with other numbers
abbrev pub over_seventh : Content Sign
over_seventh = record full_subset_content { variables = variable 7 Two ∷ [] }

abbrev pub over_third : Content Sign
over_third = record full_subset_content { variables = variable 3 Two ∷ [] }
