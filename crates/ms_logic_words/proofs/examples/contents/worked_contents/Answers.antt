use Rattle.std.proofs.Common.{◌≡◌, [], refl, arith}
use Rattle.std.proofs.lemmas.Option.{same_Some}
use Rattle.ms_arena.specs.Diagram.{leaf_of}
use Rattle.ms_logic.specs.inner.Examples.{naturals}
use Rattle.ms_logic_words.specs.inner.ContentExamples.{word}
use Rattle.ms_logic.specs.Truth.{answer_yes, answer_no}
use Rattle.ms_logic_words.proofs.SubsetContent.{subset_content_canonical}
use Rattle.ms_logic_words.proofs.examples.contents.worked_contents.Goals as goal

answers_differ : answer_yes ≡ answer_no → ⊥
answers_differ same = grind arith

pub returns-clause-canonical : goal.returns-clause-canonical
returns-clause-canonical c = subset_content_canonical answer_yes answer_no answers_differ

pub returns-clause-open : goal.returns-clause-open
unfolding leaf_of
returns-clause-open c = record {
  numbers = refl;
  e = naturals;
  word = word [] [];
  assignment = record { universe = refl; values = ((tt, tt), tt) };
  encodes = record { truth = refl; letters = refl; room = omega arith; string = tt };
  changes = λ same. answers_differ (same_Some answer_yes answer_no same);
}
