-- How many parts the declarations of a source have that spans files.
use Rattle.std.proofs.Common.{◌≡◌, ℕ, zero, suc, ◌+◌, ◌*◌, ◌≤◌, inl, inr, true, List, [], ◌∷◌, ◌++◌, length, map, Option, Some, None, ap, ◌∙◌, arith}
use Rattle.std.proofs.lemmas.List.{length-append, map-append}
use Rattle.std.proofs.Math.ListN.{length-map}
use Rattle.ms_edge.specs.Files.{Holding, Seen}
use Rattle.ms_list.specs.declared.at.At.{At}
use Rattle.ms_text.specs.declared.token.Token.{Token}
use Rattle.ms_text.specs.TokenList.{Lexed, IsTokenList, place_behind}
use Rattle.ms_text.proofs.Starts.{spelled_nonempty}
use Rattle.ms_logic.specs.declared.source.Item.{Item}
use Rattle.ms_logic.specs.declared.source.Loaded.{Loaded}
use Rattle.ms_logic.specs.declared.source.Source.{Source}
use Rattle.ms_parse_grammar.specs.Size.{size_of_declarations, size_of_items}
use Rattle.ms_parse_grammar.specs.Symbol.{placed_symbol}
use Rattle.ms_parse_grammar.specs.Tree.{Declared}
use Rattle.ms_parse_grammar.specs.View.{declared_of, document_of}
use Rattle.ms_parse_grammar.proofs.Sizes.{document_fits}
use Rattle.ms_include.specs.declared.begun.Begun.{Begun}
use Rattle.ms_include.specs.File.{IsSource, ReadAs, source_limit}
use Rattle.ms_include.specs.Include.{Loading, Becomes, AllBecome, Loads, and_next, include_of, greatest_depth, most_files}
use Rattle.ms_include.specs.Load.{files_of, IsLoaded}

-- a text has no more tokens than bytes
tokens-within : (place : ℕ) (bytes : List ℕ) (tokens : List Token) → IsTokenList place bytes tokens → length tokens ≤ length bytes
tokens-within place bytes [] gap = omega arith
tokens-within place bytes (token ∷ tokens) (rest, begins, more) =
    omega (
      arith,
      ap length begins.made_up,
      length-append begins.gap (begins.slice ++ rest),
      length-append begins.slice rest,
      spelled_nonempty token.kind begins.slice begins.is_token.spelled,
      tokens-within (place_behind token) rest tokens more,
    )

-- bytes have no more parts than there are bytes
pub read-within : (number : ℕ) (bytes : List ℕ) (source : Source) → ReadAs number bytes source → size_of_items source.items ≤ length bytes
read-within number bytes source read =
    let lexed : Lexed = record { bytes = bytes; tokens = read.tokens } in
    omega (arith, document_fits true (map (placed_symbol number lexed) read.tokens) (document_of source) read.reads, length-map read.tokens (placed_symbol number lexed), tokens-within 0 bytes read.tokens read.are_tokens)

-- a file has no more parts than a file may have bytes
source-within : (held : Option Holding) (number : ℕ) (name : List ℕ) (source : Source) → IsSource held number name source → size_of_items source.items ≤ source_limit
source-within held number name source (bytes, are_bytes, read) = omega (arith, read-within number bytes source read, are_bytes.within)

sizes-add : (ds es : List Declared) → size_of_declarations (ds ++ es) ≡ size_of_declarations ds + size_of_declarations es
sizes-add [] es = omega arith
sizes-add (d ∷ ds) es = omega (arith, sizes-add ds es)

items-add : (xs ys : List Item) → size_of_items (xs ++ ys) ≡ size_of_items xs + size_of_items ys
items-add xs ys = ap size_of_declarations (map-append declared_of xs ys) ∙ sizes-add (map declared_of xs) (map declared_of ys)

-- parts added for each file that was read, and no more files than there may be
abbrev IsWithin : List (List ℕ) → List (List ℕ) → List Item → ℕ → Type 0
IsWithin read after items own =
    (size_of_items items + source_limit * length read ≤ own + source_limit * length after) × (length read ≤ most_files → length after ≤ most_files)

one-within : (L : Loading) → ((chain : List Begun) (read : List (List ℕ)) (name : List ℕ) (after : List (List ℕ)) (items : List Item) → L chain read name after items → IsWithin read after items 0) →
    (chain : List Begun) (read : List (List ℕ)) (x : Item) (named : Option (At × List ℕ)) (after : List (List ℕ)) (items : List Item) → Becomes L chain read x named after items → IsWithin read after items (size_of_items (x ∷ []))
one-within L bounded chain read x None after items (same, one) =
    (omega (arith, ap length same, ap size_of_items one), λ few. omega (arith, few, ap length same))
one-within L bounded chain read x (Some (at, name)) after items (inl (ended, same, none)) =
    (omega (arith, ap length same, ap size_of_items none), λ few. omega (arith, few, ap length same))
one-within L bounded chain read x (Some (at, name)) after items (inr (new, loads)) =
    let inner = bounded chain read name after items loads in
    (omega (arith, inner.0), inner.1)

all-within : (L : Loading) → ((chain : List Begun) (read : List (List ℕ)) (name : List ℕ) (after : List (List ℕ)) (items : List Item) → L chain read name after items → IsWithin read after items 0) →
    (chain : List Begun) (read : List (List ℕ)) (xs : List Item) (after : List (List ℕ)) (items : List Item) → AllBecome L chain read xs after items → IsWithin read after items (size_of_items xs)
all-within L bounded chain read [] after items (same, none) =
    (omega (arith, ap length same, ap size_of_items none), λ few. omega (arith, few, ap length same))
all-within L bounded chain read (x ∷ xs) after items (between, one, rest, becomes, all, is) =
    let first = one-within L bounded chain read x (include_of x.decl) between one becomes in
    let others = all-within L bounded chain between xs after rest all in
    (omega (arith, first.0, others.0, ap size_of_items is, items-add one rest, items-add (x ∷ []) xs), λ few. others.1 (first.1 few))

loads-within : (request : Seen) (base room : ℕ) (chain : List Begun) (read : List (List ℕ)) (name : List ℕ) (after : List (List ℕ)) (items : List Item) →
    Loads (files_of request base) room chain read name after items → IsWithin read after items 0
loads-within request base zero chain read name after items loads = absurd loads
loads-within request base (suc deeper) chain read name after items (source, few, is, header, become) =
    let inner = all-within (Loads (files_of request base) deeper) (λ c r n a i. loads-within request base deeper c r n a i) (and_next (files_of request base) chain read name) (read ++ name ∷ []) source.items after items become in
    let longer : length (read ++ name ∷ []) ≡ length read + 1 = length-append read (name ∷ []) in
    (omega (arith, inner.0, longer, source-within request.before.held (base + length read) name source is), λ all. inner.1 (omega (arith, few, longer)))

pub loaded-within : (request : Seen) (base : ℕ) (name : List ℕ) (loaded : Loaded) → IsLoaded (files_of request base) name loaded → size_of_items loaded.items ≤ 67108864
loaded-within request base name loaded is =
    let inner = all-within (Loads (files_of request base) greatest_depth) (λ c r n a i. loads-within request base greatest_depth c r n a i) (and_next (files_of request base) [] [] name) (name ∷ []) is.source.items loaded.files loaded.items is.items in
    omega (arith, inner.0, inner.1 (omega arith), source-within request.before.held base name is.source is.is)
