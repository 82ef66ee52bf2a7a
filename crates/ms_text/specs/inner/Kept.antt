-- Tokens as they are kept: a number by its digits, which stand in the text.
use Rattle.std.specs.Prelude.{ℕ, ◌+◌, List, map, slice_range}
use Rattle.std.specs.Str.Parse.{digits_value}
use Rattle.ms_text.specs.declared.kept.Kept.{Kept}
use Rattle.ms_text.specs.declared.kept.KeptKind.{KeptKind}
use Rattle.ms_text.specs.declared.kept.KeptKind.TheVariants as kept
use Rattle.ms_text.specs.declared.token.Kind.{Kind}
use Rattle.ms_text.specs.declared.token.Kind.TheVariants as kinds
use Rattle.ms_text.specs.declared.token.Token.{Token}

-- what a token is whose bytes these are
abbrev pub kind_with : KeptKind → List ℕ → Kind
kind_with kept.Name slice = kinds.Name
kind_with (kept.Word word) slice = kinds.Word word
kind_with kept.LeftOut slice = kinds.LeftOut
kind_with kept.Number slice = kinds.Number (digits_value 10 slice)
kind_with kept.Text slice = kinds.Text
kind_with (kept.Mark mark) slice = kinds.Mark mark

-- the token of a text
abbrev pub token_in : List ℕ → Kept → Token
token_in bytes one = record {
  kind = kind_with one.kind (slice_range bytes one.place (one.place + one.length));
  place = one.place;
  length = one.length;
}

-- the tokens of a text
abbrev pub tokens_in : List ℕ → List Kept → List Token
tokens_in bytes all = map (token_in bytes) all

-- what is kept of a kind
abbrev pub kept_kind : Kind → KeptKind
kept_kind kinds.Name = kept.Name
kept_kind (kinds.Word word) = kept.Word word
kept_kind kinds.LeftOut = kept.LeftOut
kept_kind (kinds.Number value) = kept.Number
kept_kind kinds.Text = kept.Text
kept_kind (kinds.Mark mark) = kept.Mark mark

-- what is kept of a token
abbrev pub kept_of : Token → Kept
kept_of token = record { kind = kept_kind token.kind; place = token.place; length = token.length }
