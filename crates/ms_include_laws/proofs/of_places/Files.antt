-- The places of one file are in it.
use Rattle.std.proofs.Common.{◌≡◌, inl, inr, ℕ, List, [], ◌∷◌, map, sym, subst}
use Rattle.ms_list.specs.declared.at.At.{At}
use Rattle.ms_edge.specs.declared.refusal.Refusal.{Refusal}
use Rattle.ms_edge.specs.declared.refusal.Refusal.TheVariants as refusals
use Rattle.ms_text.specs.declared.token.Token.{Token}
use Rattle.ms_text.specs.Fault.{IsCause}
use Rattle.ms_text.specs.TokenList.{Lexed}
use Rattle.ms_logic.specs.declared.source.Source.{Source}
use Rattle.ms_parse_grammar.specs.Symbol.{Placed, placed, placed_symbol, symbols, Symbol}
use Rattle.ms_parse_grammar.specs.View.{document_of}
use Rattle.ms_parse.specs.Refused.{NamesFault, StandsBehind}
use Rattle.ms_include.specs.File.{ReadAs, ReadAsNone}
use Rattle.ms_logic.specs.Lists.{Each}
use Rattle.ms_names_rules.proofs.Fitting.{each-back}
use Rattle.ms_include_laws.specs.inner.places.Places.{EachPlaceInItem}
use Rattle.ms_include_laws.proofs.of_places.Reading.{HeaderAt, SymbolAt, SymbolsAt, document-at}
use Rattle.ms_include_laws.proofs.of_places.Refused.{IsToldAt}
use Rattle.ms_include_laws.proofs.of_places.Declarations.{items-placed}

-- P holds of each place in the file with this number
module _ (P : At → Type 0) (number : ℕ) (here : (place : ℕ) → P (record { file = number; place = place })) where
  tokens-at : (lexed : Lexed) (tokens : List Token) → SymbolsAt P (map (placed_symbol number lexed) tokens)
  tokens-at lexed [] = tt
  tokens-at lexed (token ∷ tokens) = (here token.place, tokens-at lexed tokens)

  symbols-at : (lexed : Lexed) → SymbolsAt P (symbols number lexed)
  symbols-at lexed = tokens-at lexed lexed.tokens

  -- a place in the file
  in-file : (at : At) → at.file ≡ number → P at
  in-file at same = subst (λ n. P (record { file = n; place = at.place })) (sym same) (here at.place)

  -- what the file reads as

  pub header-placed : (bytes : List ℕ) (source : Source) → ReadAs number bytes source → HeaderAt P source.header
  header-placed bytes source h = (document-at P (document_of source) _ h.reads.read (symbols-at _)).0

  pub source-placed : (bytes : List ℕ) (source : Source) → ReadAs number bytes source → Each (EachPlaceInItem P) source.items
  source-placed bytes source h = items-placed P source.items (document-at P (document_of source) _ h.reads.read (symbols-at _)).1

  -- why it reads as nothing

  stands-at : (lexed : Lexed) (before : List Placed) (s : Symbol) (at : At) → StandsBehind number lexed before s at → P at
  stands-at lexed before s at (after, is) = (each-back (SymbolAt P) before (placed s at ∷ after) (subst (SymbolsAt P) is (symbols-at lexed))).0

  cause-told : (bytes : List ℕ) (refusal : Refusal) → IsCause number bytes refusal → IsToldAt P refusal
  cause-told bytes (refusals.Word at b) h = (tt, in-file at h.0)
  cause-told bytes (refusals.NumberTooLarge at) h = (tt, in-file at h.0)
  cause-told bytes (refusals.Unclosed at) h = (tt, in-file at h.0)
  cause-told bytes refusals.Memory h = (tt, tt)
  cause-told bytes refusal h = absurd h

  fault-told : (lexed : Lexed) (refusal : Refusal) → NamesFault number lexed refusal → IsToldAt P refusal
  fault-told lexed (refusals.Grammar at) (inl early) = (tt, subst P (sym early.is_end) (here _))
  fault-told lexed (refusals.Grammar at) (inr (s, misplaced, language)) = (tt, stands-at lexed misplaced.before s at misplaced.stands)
  fault-told lexed (refusals.LeftOut at word) h = (tt, stands-at lexed h.before _ at h.stands)
  fault-told lexed (refusals.Depth at) (s, deep) = (tt, stands-at lexed deep.before s at deep.stands)
  fault-told lexed refusal h = absurd h

  pub none-told : (bytes : List ℕ) (refusal : Refusal) → ReadAsNone number bytes refusal → IsToldAt P refusal
  none-told bytes refusal (inl cause) = cause-told bytes refusal cause
  none-told bytes refusal (inr (tokens, are, fault)) = fault-told _ refusal fault.names
