-- Which bytes spell a token (MONA Version 1.4 User Manual, Klarlund and Møller 2001, on names, numbers and marks).
use Rattle.std.specs.Prelude.{◌≡◌, ℕ, ◌<◌, ◌≤◌, ◌^◌, Bool, false, ◌&&◌, ◌||◌, not, ◌==◌, List, [], ◌∷◌, ◌++◌, length, take, drop, codes, IsTrue, IsUtf8}
use Rattle.std.specs.Char.{is_ascii_alphabetic, is_ascii_digit}
use Rattle.std.specs.List.{list_all}
use Rattle.std.specs.Str.{byte}
use Rattle.std.specs.Str.Parse.{digits_value}
use Rattle.ms_text.specs.declared.keyword.Keyword.{Keyword}
use Rattle.ms_text.specs.declared.keyword.Keyword.TheVariants as words
use Rattle.ms_text.specs.declared.keyword.LeftOutWord.{LeftOutWord}
use Rattle.ms_text.specs.declared.keyword.LeftOutWord.TheVariants as others
use Rattle.ms_text.specs.declared.mark.Mark.{Mark}
use Rattle.ms_text.specs.declared.mark.Mark.TheVariants as marks
use Rattle.ms_text.specs.declared.token.Kind.{Kind}
use Rattle.ms_text.specs.declared.token.Kind.TheVariants as kinds

-- a letter or `_`
abbrev pub is_name_start : ℕ → Bool
is_name_start b = is_ascii_alphabetic b || b == byte "_"

-- a letter, a digit, `_` or `'`
abbrev pub is_name_byte : ℕ → Bool
is_name_byte b = is_name_start b || is_ascii_digit b || b == byte "'"

-- a letter or `_`, and then letters, digits, `_` and `'`: what names and words are made of
abbrev pub is_identifier : List ℕ → Bool
is_identifier [] = false
is_identifier (b ∷ bs) = is_name_start b && list_all is_name_byte bs

-- a byte that may stand in a text: no quote and no line feed
abbrev pub is_text_byte : ℕ → Bool
is_text_byte b = not (b == byte "\"") && not (b == 10)

-- the bytes between quotes
abbrev pub quoted : List ℕ → List ℕ
quoted content = codes "\"" ++ content ++ codes "\""

-- the spelling of each word
abbrev pub word_spelling : Keyword → List ℕ
word_spelling words.Ws1s = codes "ws1s"
word_spelling words.Var0 = codes "var0"
word_spelling words.Var1 = codes "var1"
word_spelling words.Var2 = codes "var2"
word_spelling words.Const = codes "const"
word_spelling words.Pred = codes "pred"
word_spelling words.Macro = codes "macro"
word_spelling words.Include = codes "include"
word_spelling words.DefaultWhere1 = codes "defaultwhere1"
word_spelling words.DefaultWhere2 = codes "defaultwhere2"
word_spelling words.Where = codes "where"
word_spelling words.True = codes "true"
word_spelling words.False = codes "false"
word_spelling words.Ex0 = codes "ex0"
word_spelling words.Ex1 = codes "ex1"
word_spelling words.Ex2 = codes "ex2"
word_spelling words.All0 = codes "all0"
word_spelling words.All1 = codes "all1"
word_spelling words.All2 = codes "all2"
word_spelling words.Let0 = codes "let0"
word_spelling words.Let1 = codes "let1"
word_spelling words.Let2 = codes "let2"
word_spelling words.In = codes "in"
word_spelling words.NotIn = codes "notin"
word_spelling words.Sub = codes "sub"
word_spelling words.Empty = codes "empty"
word_spelling words.Min = codes "min"
word_spelling words.Max = codes "max"
word_spelling words.Union = codes "union"
word_spelling words.Inter = codes "inter"
word_spelling words.Restrict = codes "restrict"
word_spelling words.Import = codes "import"
word_spelling words.Export = codes "export"
word_spelling words.PConst = codes "pconst"

-- the spelling of each mark
abbrev pub mark_spelling : Mark → List ℕ
mark_spelling marks.Semicolon = codes ";"
mark_spelling marks.Comma = codes ","
mark_spelling marks.Colon = codes ":"
mark_spelling marks.OpenParenthesis = codes "("
mark_spelling marks.CloseParenthesis = codes ")"
mark_spelling marks.OpenBrace = codes "{"
mark_spelling marks.CloseBrace = codes "}"
mark_spelling marks.Equal = codes "="
mark_spelling marks.NotEqual = codes "~="
mark_spelling marks.Less = codes "<"
mark_spelling marks.LessEqual = codes "<="
mark_spelling marks.Equivalence = codes "<=>"
mark_spelling marks.Greater = codes ">"
mark_spelling marks.GreaterEqual = codes ">="
mark_spelling marks.Implication = codes "=>"
mark_spelling marks.And = codes "&"
mark_spelling marks.Or = codes "|"
mark_spelling marks.Not = codes "~"
mark_spelling marks.Plus = codes "+"
mark_spelling marks.Minus = codes "-"
mark_spelling marks.Arrow = codes "->"
mark_spelling marks.Backslash = codes "\\"
mark_spelling marks.Dollar = codes "$"

-- the spelling of each word of MONA that this language leaves out
abbrev pub left_out_spelling : LeftOutWord → List ℕ
left_out_spelling others.Ws2s = codes "ws2s"
left_out_spelling others.Tree = codes "tree"
left_out_spelling others.Guide = codes "guide"
left_out_spelling others.Universe = codes "universe"
left_out_spelling others.Type = codes "type"
left_out_spelling others.Assert = codes "assert"
left_out_spelling others.Verify = codes "verify"
left_out_spelling others.Execute = codes "execute"
left_out_spelling others.Prefix = codes "prefix"
left_out_spelling others.AllPos = codes "allpos"
left_out_spelling others.LastPos = codes "lastpos"

-- a word of the language
abbrev pub IsWord : List ℕ → Type 0
IsWord slice = (word : Keyword) × (slice ≡ word_spelling word)

-- a word that is left out
abbrev pub IsLeftOut : List ℕ → Type 0
IsLeftOut slice = (word : LeftOutWord) × (slice ≡ left_out_spelling word)

-- These bytes spell a token of this kind. A number may be of any size here, and a text of any bytes, so that
-- what is refused for its size or its bytes is cut off as a whole.
abbrev pub Spells : Kind → List ℕ → Type 0
Spells kinds.Name slice = IsTrue (is_identifier slice) × ¬ (IsWord slice) × ¬ (IsLeftOut slice)
Spells (kinds.Word word) slice = slice ≡ word_spelling word
Spells kinds.LeftOut slice = IsLeftOut slice
Spells (kinds.Number value) slice =
    (0 < length slice) × IsTrue (list_all is_ascii_digit slice) × (value ≡ digits_value 10 slice)
Spells kinds.Text slice = (content : List ℕ) × (slice ≡ quoted content) × IsTrue (list_all is_text_byte content)
Spells (kinds.Mark mark) slice = slice ≡ mark_spelling mark

-- the number is below 2^64, and the content of the text is UTF-8
abbrev pub IsAccepted : Kind → List ℕ → Type 0
IsAccepted kinds.Name slice = Unit {0}
IsAccepted (kinds.Word word) slice = Unit {0}
IsAccepted kinds.LeftOut slice = Unit {0}
IsAccepted (kinds.Number value) slice = value < 2 ^ 64
IsAccepted kinds.Text slice = (content : List ℕ) → slice ≡ quoted content → IsUtf8 content
IsAccepted (kinds.Mark mark) slice = Unit {0}

-- of the bytes that begin with the slice, no longer front spells a token
abbrev pub IsLongest : List ℕ → List ℕ → Type 0
IsLongest slice behind =
    (kind : Kind) (front more : List ℕ) → front ++ more ≡ slice ++ behind → Spells kind front → length front ≤ length slice

-- the slice is a token of this kind where these bytes stand behind it
pub record IsToken (kind : Kind) (slice behind : List ℕ) : Type 0 where
  pub spelled : Spells kind slice
  pub longest : IsLongest slice behind
  pub accepted : IsAccepted kind slice

-- the first bytes of these, so many, are a token of this kind
abbrev pub BeginsWithToken : List ℕ → Kind → ℕ → Type 0
BeginsWithToken bytes kind n = IsToken kind (take n bytes) (drop n bytes)
