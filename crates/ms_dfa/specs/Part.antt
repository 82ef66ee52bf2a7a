-- The two parts of a word.
use Rattle.std.specs.Prelude.{Bool}
use Rattle.ms_logic.specs.declared.mode.Order.{Order}
use Rattle.ms_logic_words.specs.Content.{is_truth_value, is_in_letters}
use Rattle.ms_dfa.specs.declared.part.Part.{Part}
use Rattle.ms_dfa.specs.declared.part.Part.TheVariants.{Truth, Letters}

-- whether a variable of the order has a value in the part
abbrev pub has_value : Part → Order → Bool
has_value Truth order = is_truth_value order
has_value Letters order = is_in_letters order
