-- Contents for the worked examples.
use Rattle.std.specs.Prelude.{[], ◌∷◌}
use Rattle.ms_logic.specs.declared.mode.Order.TheVariants.{One, Two}
use Rattle.ms_logic.specs.inner.Examples.{variable}
use Rattle.ms_logic_words.specs.Content.{Content}
use Rattle.ms_logic_words.specs.declared.sign.Sign.{Sign}
use Rattle.ms_logic_words.specs.inner.ContentExamples.{full_subset_content}

-- the states and nodes of P sub Q over two other sets
abbrev pub subset_elsewhere : Content Sign
subset_elsewhere = record full_subset_content { variables = variable 3 Two ∷ variable 7 Two ∷ [] }

-- and over two numbers
abbrev pub subset_of_numbers : Content Sign
subset_of_numbers = record full_subset_content { variables = variable 0 One ∷ variable 1 One ∷ [] }
