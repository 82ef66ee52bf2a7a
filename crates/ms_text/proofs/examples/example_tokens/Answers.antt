use Rattle.std.proofs.Common.{[], ◌∷◌, codes, refl, lit<}
use lib.Utf8.{encode}
use Rattle.ms_text.specs.declared.keyword.Keyword.TheVariants as words
use Rattle.ms_text.specs.declared.keyword.LeftOutWord.TheVariants as others
use Rattle.ms_text.specs.declared.mark.Mark.TheVariants as marks
use Rattle.ms_text.specs.Gap.{blank, line_comment, block_comment}
use Rattle.ms_text.proofs.Fronts.{text_token}
use Rattle.ms_text.proofs.Here.{begins_here, name_here, word_here, left_out_here, number_here, mark_here, short_never_closes}
use Rattle.ms_text.proofs.examples.example_tokens.Goals as goal

pub returns-clause-header : goal.returns-clause-header
returns-clause-header c = (
  codes "-str;",
  begins_here 0 (name_here (codes "m2l") (codes "-str;") refl refl refl refl),
  (
    codes "str;",
    begins_here 3 (mark_here marks.Minus (codes "str;") refl),
    (
      codes ";",
      begins_here 4 (name_here (codes "str") (codes ";") refl refl refl refl),
      ([], begins_here 7 (mark_here marks.Semicolon [] refl), ([], tt, refl)),
    ),
  ),
)

pub returns-clause-primed : goal.returns-clause-primed
returns-clause-primed c = ([], begins_here 0 (name_here (codes "x'") [] refl refl refl tt), ([], tt, refl))

pub returns-clause-word : goal.returns-clause-word
returns-clause-word c = ([], begins_here 0 (word_here words.In [] tt), ([], tt, refl))

pub returns-clause-left_out : goal.returns-clause-left_out
returns-clause-left_out c = ([], begins_here 0 (left_out_here others.Tree [] tt), ([], tt, refl))

pub returns-clause-zeros : goal.returns-clause-zeros
returns-clause-zeros c = ([], begins_here 0 (number_here (codes "007") [] (lit< tt) refl (lit< tt) tt), ([], tt, refl))

pub returns-clause-digit_first : goal.returns-clause-digit_first
returns-clause-digit_first c = (
  codes "a",
  begins_here 0 (number_here (codes "1") (codes "a") (lit< tt) refl (lit< tt) refl),
  ([], begins_here 1 (name_here (codes "a") [] refl refl refl tt), ([], tt, refl)),
)

pub returns-clause-longest : goal.returns-clause-longest
returns-clause-longest c = ([], begins_here 0 (mark_here marks.Equivalence [] refl), ([], tt, refl))

pub returns-clause-text : goal.returns-clause-text
unfolding encode
returns-clause-text c =
    ([], begins_here 0 (text_token (34 ∷ 35 ∷ 34 ∷ []) (35 ∷ 34 ∷ []) 1 refl (lit< tt) refl (35 ∷ [], (refl, refl))), ([], tt, refl))

pub returns-clause-comments : goal.returns-clause-comments
returns-clause-comments c =
    (block_comment [] ∷ blank 32 ∷ line_comment [] ∷ [], (short_never_closes [] (lit< tt), (refl, ((refl, tt), tt))), refl)
