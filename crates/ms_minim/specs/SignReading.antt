-- An automaton with its signs read in some way: each as it is, or Undefined and Outside as one, as in files of version 1.
use Rattle.std.specs.Prelude.{◌≤◌, length, map}
use Rattle.ms_arena.specs.Diagram.{IsOrdered, IsReduced}
use Rattle.ms_logic_words.specs.declared.sign.Sign.{Sign}
use Rattle.ms_logic_words.specs.declared.sign.Sign.TheVariants.{Yes, No, Undefined, Outside}
use Rattle.ms_logic_words.specs.Content.{StateOf, Content, IsClosed}
use Rattle.ms_logic.specs.Lists.{AreRising}
use Rattle.ms_minim.specs.declared.reading.SignReading.{SignReading}
use Rattle.ms_minim.specs.declared.reading.SignReading.TheVariants.{AsTheyAre, UndefinedAsOutside}

abbrev pub without_undefined : Sign → Sign
without_undefined Yes = Yes
without_undefined No = No
without_undefined Undefined = Outside
without_undefined Outside = Outside

abbrev pub read_sign : SignReading → Sign → Sign
read_sign AsTheyAre sign = sign
read_sign UndefinedAsOutside sign = without_undefined sign

abbrev pub read_state : SignReading → StateOf Sign → StateOf Sign
read_state reading state = record { sign = read_sign reading state.sign; next = state.next }

abbrev pub read_content : SignReading → Content Sign → Content Sign
read_content reading content =
    record { mode = content.mode; variables = content.variables; start = content.start; states = map (read_state reading) content.states; nodes = content.nodes }

-- what is true of an automaton however its signs are read
pub record IsRead (content : Content Sign) : Type 0 where
  pub ordered : IsOrdered content.nodes
  pub reduced : IsReduced content.nodes
  pub closed : IsClosed content
  pub rising : AreRising content.variables
  pub few_states : length content.states ≤ 4294967295
