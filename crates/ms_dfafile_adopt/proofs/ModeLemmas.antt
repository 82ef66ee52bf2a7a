-- Whether a word encodes an assignment does not depend on the mode.
use Rattle.std.proofs.Common.{List}
use Rattle.ms_list.specs.declared.word.Word.{Word}
use Rattle.ms_logic.specs.declared.mode.Mode.{Mode}
use Rattle.ms_logic.specs.Assignment.{Variable}
use Rattle.ms_logic.specs.Lists.{AreRising}
use Rattle.ms_logic_words.specs.Word.{IsEncoding}
use Rattle.ms_logic_words.proofs.DecodedWords.{encodings_are}

pub encoding_in : (one other : Mode) (vs : List Variable) (word : Word) → AreRising vs → IsEncoding one vs word → IsEncoding other vs word
encoding_in one other vs word rising encoding = (encodings_are other vs word rising).1 ((encodings_are one vs word rising).0 encoding)
