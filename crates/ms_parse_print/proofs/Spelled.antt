-- Each symbol that a token can say is said by the token that is written for it, where a blank stands behind.
use Rattle.std.proofs.Common.{◌≡◌, ℕ, ◌-◌, ◌<◌, ◌^◌, Bool, true, false, not, List, [], ◌∷◌, length, IsUtf8, IsTrue, refl, sym, ap, ◌∙◌, subst, arith, length-append}
use Rattle.std.specs.Char.{is_ascii_digit}
use Rattle.std.specs.Fmt.{decimal}
use Rattle.std.specs.List.{list_all}
use Rattle.std.proofs.lemmas.Bool.Decides.{nat_tests}
use Rattle.std.proofs.lemmas.Fmt.{decimal_nonempty, digits_decimal, digits_value-decimal}
use Rattle.std.proofs.lemmas.List.{take_at}
use Rattle.ms_text.specs.declared.keyword.Keyword.{Keyword}
use Rattle.ms_text.specs.declared.keyword.Keyword.TheVariants as words
use Rattle.ms_text.specs.declared.keyword.LeftOutWord.TheVariants as others
use Rattle.ms_text.specs.declared.mark.Mark.{Mark}
use Rattle.ms_text.specs.declared.mark.Mark.TheVariants as marks
use Rattle.ms_text.specs.declared.token.Kind.{Kind}
use Rattle.ms_text.specs.declared.token.Kind.TheVariants as kinds
use Rattle.ms_text.specs.Gap.{is_blank}
use Rattle.ms_text.specs.Spelling.{is_name_byte, is_identifier, is_text_byte, quoted, word_spelling, mark_spelling, IsLeftOut, Spells, IsToken}
use Rattle.ms_text.proofs.Bytes.{longest_run}
use Rattle.ms_text.proofs.Fronts.{digit_texts, one_quoted}
use Rattle.ms_text.proofs.Longest.{longest_identifier, longest_number, longest_text, longest_sign}
use Rattle.ms_text.proofs.Starts.{word_is_identifier, left_out_is_identifier}
use Rattle.ms_logic.specs.declared.mode.Order.TheVariants.{Zero, One, Two}
use Rattle.ms_logic.specs.declared.mode.Quant.TheVariants.{Ex, All}
use Rattle.ms_logic.specs.declared.mode.Rel.TheVariants.{Equal, Differs, Less, AtMost, Greater, AtLeast, Member, NotMember, Sub}
use Rattle.ms_parse_grammar.specs.declared.operator.Prefix.TheVariants.{Negation, Minimum, Maximum}
use Rattle.ms_parse_grammar.specs.declared.operator.Binary.TheVariants.{Implication, Equivalence, Relation, Union, Intersection, Difference}
use Rattle.ms_parse_grammar.specs.declared.operator.Junction.TheVariants.{Conjunction, Disjunction}
use Rattle.ms_parse_grammar.specs.Symbol.{Symbol, name, number, text, left_out, prefix_operator, infix_operator, joining, sign, quantifier, let_word, kind, predicate_word, default_word, word_true, word_false, dollar, word_empty, word_pconst, word_import, word_export, word_restrict, word_where, word_const, word_include, word_ws1s, open_round, close_round, open_curly, close_curly, comma, colon, semicolon, arrow, symbol_of, word_symbol, mark_symbol, between_quotes}
use Rattle.ms_parse_print.specs.inner.Printed.{kind_of, spelling_by, spelling, blank_behind, IsSpellable}

-- A blank ends every token.

abbrev no_blank : ℕ → Bool
no_blank b = not (is_blank b)

mark_bytes : (mark : Mark) → list_all no_blank (mark_spelling mark) ≡ true
mark_bytes marks.Semicolon = refl
mark_bytes _ = refl

blank_no_name : (b : ℕ) → is_blank b ≡ true → is_name_byte b ≡ false
blank_no_name b blank = grind (arith, nat_tests)

blank_no_digit : (b : ℕ) → is_blank b ≡ true → is_ascii_digit b ≡ false
blank_no_digit b blank = grind (arith, nat_tests)

word_token : (word : Keyword) (b : ℕ) (behind : List ℕ) → is_blank b ≡ true → IsToken (kinds.Word word) (word_spelling word) (b ∷ behind)
word_token word b behind blank = record {
  spelled = refl;
  longest = longest_identifier (word_spelling word) (b ∷ behind) (word_is_identifier word) (blank_no_name b blank);
  accepted = tt;
}

mark_token : (mark : Mark) (b : ℕ) (behind : List ℕ) → is_blank b ≡ true → IsToken (kinds.Mark mark) (mark_spelling mark) (b ∷ behind)
mark_token mark b behind blank = record {
  spelled = refl;
  longest = longest_sign mark (b ∷ behind) (λ longer more e. longest_run no_blank (mark_spelling longer) more (mark_spelling mark) (b ∷ behind) (mark_bytes longer) (ap not blank) (sym e));
  accepted = tt;
}

name_token : (n : List ℕ) (b : ℕ) (behind : List ℕ) → is_blank b ≡ true → Spells kinds.Name n → IsToken kinds.Name n (b ∷ behind)
name_token n b behind blank spelled = record {
  spelled = spelled;
  longest = longest_identifier n (b ∷ behind) spelled.0 (blank_no_name b blank);
  accepted = tt;
}

left_out_token : (n : List ℕ) (b : ℕ) (behind : List ℕ) → is_blank b ≡ true → IsLeftOut n → IsToken kinds.LeftOut n (b ∷ behind)
left_out_token n b behind blank spelled = record {
  spelled = spelled;
  longest = longest_identifier n (b ∷ behind) (ap is_identifier spelled.1 ∙ left_out_is_identifier spelled.0) (blank_no_name b blank);
  accepted = tt;
}

number_token : (n b : ℕ) (behind : List ℕ) → is_blank b ≡ true → n < 2 ^ 64 → IsToken (kinds.Number n) (decimal n) (b ∷ behind)
number_token n b behind blank small =
    let digits = digits_decimal digit_texts n small in
    record {
      spelled = (decimal_nonempty n small, digits, sym (digits_value-decimal digit_texts n small));
      longest = longest_number (decimal n) (b ∷ behind) (decimal_nonempty n small) digits (blank_no_digit b blank);
      accepted = small;
    }

text_token : (content : List ℕ) (b : ℕ) (behind : List ℕ) → list_all is_text_byte content ≡ true → IsUtf8 content → IsToken kinds.Text (quoted content) (b ∷ behind)
text_token content b behind passes utf8 = record {
  spelled = (content, refl, passes);
  longest = longest_text content (b ∷ behind) passes;
  accepted = λ other same. subst IsUtf8 (one_quoted content other same) utf8;
}

pub unquoted : (content : List ℕ) → between_quotes (quoted content) ≡ content
unquoted content = take_at content (34 ∷ []) (length (quoted content) - 2) (omega (arith, length-append content (34 ∷ [])))

-- what is known of a symbol's token
pub record Says (s : Symbol) : Type 0 where
  pub is_token : (b : ℕ) (behind : List ℕ) → is_blank b ≡ true → IsToken (kind_of s) (spelling s) (b ∷ behind)
  pub said : symbol_of (kind_of s) (spelling s) ≡ s

by_word : (s : Symbol) (word : Keyword) → kind_of s ≡ kinds.Word word → word_symbol word ≡ s → Says s
by_word s word is same = record {
  is_token = λ b behind blank. subst (λ k. IsToken k (spelling_by k s) (b ∷ behind)) (sym is) (word_token word b behind blank);
  said = ap (λ k. symbol_of k (spelling_by k s)) is ∙ same;
}

by_mark : (s : Symbol) (mark : Mark) → kind_of s ≡ kinds.Mark mark → mark_symbol mark ≡ s → Says s
by_mark s mark is same = record {
  is_token = λ b behind blank. subst (λ k. IsToken k (spelling_by k s) (b ∷ behind)) (sym is) (mark_token mark b behind blank);
  said = ap (λ k. symbol_of k (spelling_by k s)) is ∙ same;
}

pub says : (s : Symbol) → IsSpellable s → Says s
says (name n) spelled = record { is_token = λ b behind blank. name_token n b behind blank spelled; said = refl }
says (number n) small = record { is_token = λ b behind blank. number_token n b behind blank small; said = refl }
says (text content) good = record { is_token = λ b behind blank. text_token content b behind good.0 good.1; said = ap text (unquoted content) }
says (left_out bytes) spelled = record { is_token = λ b behind blank. left_out_token bytes b behind blank spelled; said = refl }
says (prefix_operator Minimum) any = by_word (prefix_operator Minimum) words.Min refl refl
says (prefix_operator Maximum) any = by_word (prefix_operator Maximum) words.Max refl refl
says (infix_operator (Relation Member)) any = by_word (infix_operator (Relation Member)) words.In refl refl
says (infix_operator (Relation NotMember)) any = by_word (infix_operator (Relation NotMember)) words.NotIn refl refl
says (infix_operator (Relation Sub)) any = by_word (infix_operator (Relation Sub)) words.Sub refl refl
says (infix_operator Union) any = by_word (infix_operator Union) words.Union refl refl
says (infix_operator Intersection) any = by_word (infix_operator Intersection) words.Inter refl refl
says (quantifier Ex Zero) any = by_word (quantifier Ex Zero) words.Ex0 refl refl
says (quantifier Ex One) any = by_word (quantifier Ex One) words.Ex1 refl refl
says (quantifier Ex Two) any = by_word (quantifier Ex Two) words.Ex2 refl refl
says (quantifier All Zero) any = by_word (quantifier All Zero) words.All0 refl refl
says (quantifier All One) any = by_word (quantifier All One) words.All1 refl refl
says (quantifier All Two) any = by_word (quantifier All Two) words.All2 refl refl
says (let_word Zero) any = by_word (let_word Zero) words.Let0 refl refl
says (let_word One) any = by_word (let_word One) words.Let1 refl refl
says (let_word Two) any = by_word (let_word Two) words.Let2 refl refl
says (kind Zero) any = by_word (kind Zero) words.Var0 refl refl
says (kind One) any = by_word (kind One) words.Var1 refl refl
says (kind Two) any = by_word (kind Two) words.Var2 refl refl
says (predicate_word true) any = by_word (predicate_word true) words.Pred refl refl
says (predicate_word false) any = by_word (predicate_word false) words.Macro refl refl
says (default_word One) any = by_word (default_word One) words.DefaultWhere1 refl refl
says (default_word Two) any = by_word (default_word Two) words.DefaultWhere2 refl refl
says word_true any = by_word word_true words.True refl refl
says word_false any = by_word word_false words.False refl refl
says word_empty any = by_word word_empty words.Empty refl refl
says word_pconst any = by_word word_pconst words.PConst refl refl
says word_import any = by_word word_import words.Import refl refl
says word_export any = by_word word_export words.Export refl refl
says word_restrict any = by_word word_restrict words.Restrict refl refl
says word_where any = by_word word_where words.Where refl refl
says word_const any = by_word word_const words.Const refl refl
says word_include any = by_word word_include words.Include refl refl
says word_ws1s any = by_word word_ws1s words.Ws1s refl refl
says (prefix_operator Negation) any = by_mark (prefix_operator Negation) marks.Not refl refl
says (infix_operator Implication) any = by_mark (infix_operator Implication) marks.Implication refl refl
says (infix_operator Equivalence) any = by_mark (infix_operator Equivalence) marks.Equivalence refl refl
says (infix_operator (Relation Equal)) any = by_mark (infix_operator (Relation Equal)) marks.Equal refl refl
says (infix_operator (Relation Differs)) any = by_mark (infix_operator (Relation Differs)) marks.NotEqual refl refl
says (infix_operator (Relation Less)) any = by_mark (infix_operator (Relation Less)) marks.Less refl refl
says (infix_operator (Relation AtMost)) any = by_mark (infix_operator (Relation AtMost)) marks.LessEqual refl refl
says (infix_operator (Relation Greater)) any = by_mark (infix_operator (Relation Greater)) marks.Greater refl refl
says (infix_operator (Relation AtLeast)) any = by_mark (infix_operator (Relation AtLeast)) marks.GreaterEqual refl refl
says (infix_operator Difference) any = by_mark (infix_operator Difference) marks.Backslash refl refl
says (joining Conjunction) any = by_mark (joining Conjunction) marks.And refl refl
says (joining Disjunction) any = by_mark (joining Disjunction) marks.Or refl refl
says (sign false) any = by_mark (sign false) marks.Plus refl refl
says (sign true) any = by_mark (sign true) marks.Minus refl refl
says dollar any = by_mark dollar marks.Dollar refl refl
says open_round any = by_mark open_round marks.OpenParenthesis refl refl
says close_round any = by_mark close_round marks.CloseParenthesis refl refl
says open_curly any = by_mark open_curly marks.OpenBrace refl refl
says close_curly any = by_mark close_curly marks.CloseBrace refl refl
says comma any = by_mark comma marks.Comma refl refl
says colon any = by_mark colon marks.Colon refl refl
says semicolon any = by_mark semicolon marks.Semicolon refl refl
says arrow any = by_mark arrow marks.Arrow refl refl
says (default_word Zero) never = absurd never

-- What a token says can be said.

word_said : (word : Keyword) → IsSpellable (word_symbol word)
word_said words.Ws1s = tt
word_said _ = tt

mark_said : (mark : Mark) → IsSpellable (mark_symbol mark)
mark_said marks.Semicolon = tt
mark_said _ = tt

pub said_is_spellable : (k : Kind) (slice behind : List ℕ) → IsToken k slice behind → IsSpellable (symbol_of k slice)
said_is_spellable kinds.Name slice behind token = token.spelled
said_is_spellable (kinds.Word word) slice behind token = word_said word
said_is_spellable kinds.LeftOut slice behind token = token.spelled
said_is_spellable (kinds.Number n) slice behind token = token.accepted
said_is_spellable kinds.Text slice behind token =
    let content : between_quotes slice ≡ token.spelled.0 = ap between_quotes token.spelled.1 ∙ unquoted token.spelled.0 in
    subst (λ c. IsTrue (list_all is_text_byte c) × IsUtf8 c) (sym content) (token.spelled.2, token.accepted token.spelled.0 token.spelled.1)
said_is_spellable (kinds.Mark mark) slice behind token = mark_said mark

-- no left-out word is empty
pub nothing_left_out : ¬ (IsLeftOut [])
nothing_left_out (others.Ws2s, same) = cc
nothing_left_out (_, same) = cc

-- a line feed or a blank
pub blank_is_blank : (s : Symbol) → is_blank (blank_behind s) ≡ true
blank_is_blank semicolon = refl
blank_is_blank _ = refl
