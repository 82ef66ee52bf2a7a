-- A generated source as pieces.
use Rattle.std.proofs.Common.{◌≡◌, ◌<◌, ◌≤◌, ◌++◌, ℕ, zero, suc, ◌+◌, List, [], ◌∷◌, codes, ap, sym, subst, refl, arith, ◌∙◌, append_assoc}
use Rattle.std.specs.Fmt.{digits}
use Rattle.ms_gen.specs.Generated.{chain_line, free_line, links_text, name_of, names_text, source_text}
use Rattle.ms_text.specs.declared.keyword.Keyword.{Keyword}
use Rattle.ms_text.specs.declared.keyword.Keyword.TheVariants as words
use Rattle.ms_text.specs.declared.mark.Mark.{Mark}
use Rattle.ms_text.specs.declared.mark.Mark.TheVariants as marks
use Rattle.ms_text.specs.declared.token.Kind.TheVariants as kinds
use Rattle.ms_text.specs.Spelling.{is_name_byte, word_spelling, mark_spelling}
use Rattle.ms_text.proofs.Bytes.{Stops}
use Rattle.ms_text.proofs.Here.{name_here, word_here, mark_here}
use Rattle.ms_gen.proofs.Names.{name_token}
use Rattle.ms_gen.proofs.Pieces.{Piece, text_of, ArePieces}

-- a word, a mark and a name behind blanks

abbrev pub word : List ℕ → Keyword → Piece
word gap w = record { gap = gap; kind = kinds.Word w; slice = word_spelling w }

abbrev pub mark : List ℕ → Mark → Piece
mark gap m = record { gap = gap; kind = kinds.Mark m; slice = mark_spelling m }

abbrev pub name_piece : List ℕ → Piece
name_piece n = record { gap = 32 ∷ []; kind = kinds.Name; slice = n }

-- P0, P1, .. up to a set, and more behind
abbrev pub names_then : ℕ → List Piece → List Piece
names_then zero more = name_piece (name_of 0) ∷ more
names_then (suc n) more = names_then n (mark [] marks.Comma ∷ name_piece (name_of (n + 1)) ∷ more)

-- & P0 sub P1 .. up to a set, and more behind
abbrev pub links_then : ℕ → List Piece → List Piece
links_then zero more = more
links_then (suc n) more = links_then n (mark (32 ∷ []) marks.And ∷ name_piece (name_of n) ∷ word (32 ∷ []) words.Sub ∷ name_piece (name_of (n + 1)) ∷ more)

abbrev pub free_pieces : ℕ → List Piece
free_pieces last =
    word (10 ∷ []) words.All1 ∷ name_piece (codes "x") ∷ mark [] marks.Colon
    ∷ word (32 ∷ []) words.Ex1 ∷ name_piece (codes "y") ∷ mark [] marks.Colon
    ∷ name_piece (codes "x") ∷ mark (32 ∷ []) marks.Less ∷ name_piece (codes "y")
    ∷ mark (32 ∷ []) marks.And ∷ name_piece (codes "y") ∷ word (32 ∷ []) words.NotIn ∷ name_piece (name_of last)
    ∷ mark [] marks.Semicolon ∷ []

abbrev pub conclusion_pieces : ℕ → List Piece
conclusion_pieces last =
    mark (32 ∷ []) marks.Implication ∷ name_piece (name_of 0) ∷ word (32 ∷ []) words.Sub ∷ name_piece (name_of last)
    ∷ mark [] marks.Semicolon ∷ free_pieces last

abbrev pub chain_pieces : ℕ → List Piece
chain_pieces last = word (10 ∷ []) words.True ∷ links_then last (conclusion_pieces last)

abbrev pub sets_pieces : ℕ → List Piece
sets_pieces last = word (10 ∷ []) words.Var2 ∷ names_then last (mark [] marks.Semicolon ∷ chain_pieces last)

abbrev pub pieces : ℕ → List Piece
pieces last = word [] words.Ws1s ∷ mark [] marks.Semicolon ∷ sets_pieces last

-- their text

text_of_names : (n : ℕ) (more : List Piece) → text_of (names_then n more) ≡ 32 ∷ (names_text n ++ text_of more)
text_of_names zero more = refl
text_of_names (suc n) more =
    text_of_names n (mark [] marks.Comma ∷ name_piece (name_of (n + 1)) ∷ more)
    ∙ ap (λ (t : List ℕ). 32 ∷ t) (sym (append_assoc (names_text n ++ codes ", ") (name_of (n + 1)) (text_of more) ∙ append_assoc (names_text n) (codes ", ") (name_of (n + 1) ++ text_of more)))

text_of_links : (n : ℕ) (more : List Piece) → text_of (links_then n more) ≡ links_text n ++ text_of more
text_of_links zero more = refl
text_of_links (suc n) more =
    let before = links_text n in
    let rest = text_of more in
    text_of_links n (mark (32 ∷ []) marks.And ∷ name_piece (name_of n) ∷ word (32 ∷ []) words.Sub ∷ name_piece (name_of (n + 1)) ∷ more)
    ∙ sym (
    append_assoc (before ++ codes " & " ++ name_of n ++ codes " sub ") (name_of (n + 1)) rest
    ∙ append_assoc (before ++ codes " & " ++ name_of n) (codes " sub ") (name_of (n + 1) ++ rest)
    ∙ append_assoc (before ++ codes " & ") (name_of n) (codes " sub " ++ (name_of (n + 1) ++ rest))
    ∙ append_assoc before (codes " & ") (name_of n ++ (codes " sub " ++ (name_of (n + 1) ++ rest))))

-- a line feed ends a line of the text, and stands before the next
text_of_free : (last : ℕ) → text_of (free_pieces last) ≡ 10 ∷ free_line last
text_of_free last = ap (λ (t : List ℕ). codes "\nall1 x: ex1 y: x < y & y notin " ++ t) (sym (append_assoc (name_of last) (codes ";") (10 ∷ [])))

text_of_conclusion : (last : ℕ) → text_of (conclusion_pieces last) ≡ codes " => P0 sub " ++ (name_of last ++ (59 ∷ 10 ∷ free_line last))
unfolding digits
text_of_conclusion last = ap (λ (t : List ℕ). codes " => P0 sub " ++ (name_of last ++ (59 ∷ t))) (text_of_free last)

text_of_chain : (last : ℕ) → text_of (chain_pieces last) ≡ 10 ∷ (chain_line last ++ free_line last)
text_of_chain last =
    let links = links_text last in
    let n = name_of last in
    let free = free_line last in
    let implies = codes " => P0 sub " in
    ap (λ (t : List ℕ). codes "\ntrue" ++ t) (
    text_of_links last (conclusion_pieces last) ∙ ap (λ (t : List ℕ). links ++ t) (text_of_conclusion last)
    ∙ sym (
    append_assoc (links ++ implies ++ n ++ codes ";") (10 ∷ []) free
    ∙ append_assoc (links ++ implies ++ n) (codes ";") (10 ∷ free)
    ∙ append_assoc (links ++ implies) n (59 ∷ 10 ∷ free)
    ∙ append_assoc links implies (n ++ (59 ∷ 10 ∷ free))))

pub text_of_pieces : (last : ℕ) → text_of (pieces last) ≡ source_text last
text_of_pieces last =
    let names = names_text last in
    let chain = chain_line last in
    let free = free_line last in
    ap (λ (t : List ℕ). codes "ws1s;\nvar2" ++ t) (
    text_of_names last (mark [] marks.Semicolon ∷ chain_pieces last)
    ∙ ap (λ (t : List ℕ). 32 ∷ (names ++ (59 ∷ t))) (text_of_chain last)
    ∙ ap (λ (t : List ℕ). 32 ∷ t) (sym (
    append_assoc (names ++ codes ";" ++ 10 ∷ []) chain free
    ∙ append_assoc (names ++ codes ";") (10 ∷ []) (chain ++ free)
    ∙ append_assoc names (codes ";") (10 ∷ (chain ++ free)))))

-- each is a token

names_are : (n : ℕ) (more : List Piece) → n ≤ 2000 → ArePieces more → Stops is_name_byte (text_of more) → ArePieces (names_then n more)
names_are zero more small are stops = (refl, name_token 0 (text_of more) small stops, are)
names_are (suc n) more small are stops =
    names_are n (mark [] marks.Comma ∷ name_piece (name_of (n + 1)) ∷ more) (omega (arith, small))
    (refl, mark_here marks.Comma (32 ∷ (name_of (n + 1) ++ text_of more)) refl, (refl, name_token (n + 1) (text_of more) (omega (arith, small)) stops, are)) refl

names_stop : (n : ℕ) (more : List Piece) → Stops is_name_byte (text_of (names_then n more))
names_stop n more = subst (Stops is_name_byte) (sym (text_of_names n more)) refl

links_stop : (n : ℕ) (more : List Piece) → Stops is_name_byte (text_of more) → Stops is_name_byte (text_of (links_then n more))
links_stop zero more stops = stops
links_stop (suc n) more stops = links_stop n (mark (32 ∷ []) marks.And ∷ name_piece (name_of n) ∷ word (32 ∷ []) words.Sub ∷ name_piece (name_of (n + 1)) ∷ more) refl

links_are : (n : ℕ) (more : List Piece) → n ≤ 2000 → ArePieces more → Stops is_name_byte (text_of more) → ArePieces (links_then n more)
links_are zero more small are stops = are
links_are (suc n) more small are stops =
    let right = name_of (n + 1) ++ text_of more in
    let left = name_of n ++ (codes " sub " ++ right) in
    links_are n (mark (32 ∷ []) marks.And ∷ name_piece (name_of n) ∷ word (32 ∷ []) words.Sub ∷ name_piece (name_of (n + 1)) ∷ more) (omega (arith, small))
    (refl, mark_here marks.And (32 ∷ left) refl, (refl, name_token n (codes " sub " ++ right) (omega (arith, small)) refl, (refl, word_here words.Sub (32 ∷ right) refl, (refl, name_token (n + 1) (text_of more) (omega (arith, small)) stops, are)))) refl

module _ (last : ℕ) (small : last < 2000) where
  free_are : ArePieces (free_pieces last)
  free_are =
      let p = name_of last ++ (59 ∷ 10 ∷ []) in
      let six = codes " notin " ++ p in
      let five = codes " y" ++ six in
      let four = codes " & y" ++ six in
      let three = codes " < y" ++ four in
      let two = codes " x" ++ three in
      let one = codes " ex1 y:" ++ two in (
        refl,
        word_here words.All1 (codes " x:" ++ one) refl,
        (
          refl,
          name_here (codes "x") (58 ∷ one) refl refl refl refl,
          (
            refl,
            mark_here marks.Colon one refl,
            (
              refl,
              word_here words.Ex1 (codes " y:" ++ two) refl,
              (
                refl,
                name_here (codes "y") (58 ∷ two) refl refl refl refl,
                (
                  refl,
                  mark_here marks.Colon two refl,
                  (
                    refl,
                    name_here (codes "x") three refl refl refl refl,
                    (
                      refl,
                      mark_here marks.Less (codes " y" ++ four) refl,
                      (
                        refl,
                        name_here (codes "y") four refl refl refl refl,
                        (
                          refl,
                          mark_here marks.And five refl,
                          (
                            refl,
                            name_here (codes "y") six refl refl refl refl,
                            (
                              refl,
                              word_here words.NotIn (32 ∷ p) refl,
                              (
                                refl,
                                name_token last (59 ∷ 10 ∷ []) (omega (arith, small)) refl,
                                (
                                  refl,
                                  mark_here marks.Semicolon (10 ∷ []) refl,
                                  tt,
                                ),
                              ),
                            ),
                          ),
                        ),
                      ),
                    ),
                  ),
                ),
              ),
            ),
          ),
        ),
      )

  conclusion_are : ArePieces (conclusion_pieces last)
  conclusion_are =
      let three = text_of (free_pieces last) in
      let two = 32 ∷ (name_of last ++ (59 ∷ three)) in
      let one = codes " sub" ++ two in (
        refl,
        mark_here marks.Implication (32 ∷ (name_of 0 ++ one)) refl,
        (
          refl,
          name_token 0 one (omega arith) refl,
          (
            refl,
            word_here words.Sub two refl,
            (
              refl,
              name_token last (59 ∷ three) (omega (arith, small)) refl,
              (
                refl,
                mark_here marks.Semicolon three refl,
                free_are,
              ),
            ),
          ),
        ),
      )

  chain_are : ArePieces (chain_pieces last)
  chain_are =
      let all = links_then last (conclusion_pieces last) in
      (refl, word_here words.True (text_of all) (links_stop last (conclusion_pieces last) refl), links_are last (conclusion_pieces last) (omega (arith, small)) conclusion_are refl)

  pub pieces_are : ArePieces (pieces last)
  pieces_are =
      let chain = text_of (chain_pieces last) in
      let names = names_then last (mark [] marks.Semicolon ∷ chain_pieces last) in (
        refl,
        word_here words.Ws1s (59 ∷ (10 ∷ (codes "var2" ++ text_of names))) refl,
        (
          refl,
          mark_here marks.Semicolon (10 ∷ (codes "var2" ++ text_of names)) refl,
          (
            refl,
            word_here words.Var2 (text_of names) (names_stop last (mark [] marks.Semicolon ∷ chain_pieces last)),
            names_are last (mark [] marks.Semicolon ∷ chain_pieces last) (omega (arith, small)) (refl, mark_here marks.Semicolon chain refl, chain_are) refl,
          ),
        ),
      )
