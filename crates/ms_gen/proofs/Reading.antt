-- A generated source as a tree of the grammar, and how its symbols read as it.
use Rattle.std.proofs.Common.{◌≡◌, ◌≤◌, ℕ, zero, suc, ◌+◌, max, true, false, List, [], ◌∷◌, codes, Some, refl, arith, lit≤}
use Rattle.std.proofs.Math.Nat.{max-le}
use Rattle.ms_gen.specs.Generated.{name_of}
use Rattle.ms_list.specs.declared.at.At.{At}
use Rattle.ms_text.specs.declared.keyword.Keyword.TheVariants as words
use Rattle.ms_text.specs.declared.mark.Mark.TheVariants as marks
use Rattle.ms_logic.specs.declared.mode.Mode.TheVariants.{Ws1s}
use Rattle.ms_logic.specs.declared.mode.Order.TheVariants.{One, Two}
use Rattle.ms_logic.specs.declared.mode.Quant.TheVariants.{Ex, All}
use Rattle.ms_logic.specs.declared.mode.Rel.TheVariants.{Less, NotMember, Sub}
use Rattle.ms_parse_grammar.specs.Symbol.{Placed, name, joining, comma}
use Rattle.ms_parse_grammar.specs.declared.operator.Binary.TheVariants.{Implication, Relation}
use Rattle.ms_parse_grammar.specs.declared.operator.Junction.TheVariants.{Conjunction}
use Rattle.ms_parse_grammar.specs.Tree.{truth, named, Expression, atom, binary, joined, quantified, Expressions, no_expressions, and_expression, Variables, no_variables, and_variable, unrestricted, variables, formula, Document}
use Rattle.ms_parse_grammar.specs.Grammar.{AreOfOrder, AreOperands, HasTwo, IsExpression, IsGrammatical, IsVariableList, depth, depth_of_all, ends_open, last_ends_open, level}
use Rattle.ms_parse_grammar.specs.Reads.{FirstIsAt, Follows, ReadsExpression, ReadsSeparated, ReadsVariables, Starts, place}
use Rattle.ms_parse_grammar.specs.Declarations.{AreDomains, Reads, ReadsDeclarations}
use Rattle.ms_gen.proofs.Pieces.{Piece, at, behind, symbols_from}
use Rattle.ms_gen.proofs.Spelling.{chain_pieces, conclusion_pieces, free_pieces, links_then, mark, name_piece, names_then, pieces, sets_pieces, word}

-- a name whose blank stands at a place
abbrev pub name_at : ℕ → List ℕ → Expression
name_at start n = atom (at (start + 1)) (named n)

abbrev pub behind_name : ℕ → List ℕ → ℕ
behind_name start n = behind start (name_piece n)

-- behind a comma, and behind a word or mark with a blank before it

abbrev pub behind_mark : ℕ → ℕ
behind_mark start = start + 0 + 1

abbrev pub behind_joining : ℕ → ℕ
behind_joining start = start + 1 + 1

abbrev pub behind_sub : ℕ → ℕ
behind_sub start = start + 1 + 3

-- the sets, whose text begins at a place

abbrev pub names_end : ℕ → ℕ → ℕ
names_end start zero = behind_name start (name_of 0)
names_end start (suc n) = behind_name (behind_mark (names_end start n)) (name_of (n + 1))

-- where the text of a set begins
abbrev pub set_start : ℕ → ℕ → ℕ
set_start start zero = start
set_start start (suc n) = behind_mark (names_end start n)

abbrev pub sets : ℕ → ℕ → Variables
sets start zero = and_variable no_variables (at (start + 1)) Two (name_of 0) unrestricted
sets start (suc n) = and_variable (sets start n) (at (set_start start (suc n) + 1)) Two (name_of (n + 1)) unrestricted

-- the inclusions, whose text begins at a place

abbrev pub left_start : ℕ → ℕ
left_start start = behind_joining start

abbrev pub right_start : ℕ → ℕ → ℕ
right_start start n = behind_sub (behind_name (left_start start) (name_of n))

abbrev pub link_end : ℕ → ℕ → ℕ
link_end start n = behind_name (right_start start n) (name_of (n + 1))

abbrev pub links_end : ℕ → ℕ → ℕ
links_end start zero = start
links_end start (suc n) = link_end (links_end start n) n

abbrev pub within : ℕ → List ℕ → ℕ → List ℕ → Expression
within left m right n = binary (at (left + 1)) (Relation Sub) (name_at left m) (name_at right n)

abbrev pub link : ℕ → ℕ → Expression
link start n = within (left_start start) (name_of n) (right_start start n) (name_of (n + 1))

abbrev pub operands : ℕ → ℕ → ℕ → Expressions
operands true_at start zero = and_expression no_expressions (atom (at true_at) truth)
operands true_at start (suc n) = and_expression (operands true_at start n) (link (links_end start n) n)

abbrev pub antecedent : ℕ → ℕ → ℕ → Expression
antecedent true_at start zero = atom (at true_at) truth
antecedent true_at start (suc n) = joined (at true_at) Conjunction (operands true_at start (suc n))

-- that the first set is within the last

abbrev pub first_start : ℕ → ℕ
first_start start = start + 1 + 2

abbrev pub last_start : ℕ → ℕ
last_start start = behind_sub (behind_name (first_start start) (name_of 0))

abbrev pub chain_end : ℕ → ℕ → ℕ
chain_end start last = behind_mark (behind_name (last_start start) (name_of last))

abbrev pub conclusion : ℕ → ℕ → Expression
conclusion start last = within (first_start start) (name_of 0) (last_start start) (name_of last)

-- the declarations

abbrev pub sets_start : ℕ
sets_start = 10

abbrev pub chain_start : ℕ → ℕ
chain_start last = behind_mark (names_end sets_start last)

abbrev pub links_start : ℕ → ℕ
links_start last = chain_start last + 1 + 4

abbrev pub conclusion_start : ℕ → ℕ
conclusion_start last = links_end (links_start last) last

abbrev pub free_start : ℕ → ℕ
free_start last = chain_end (conclusion_start last) last

abbrev pub chain : ℕ → Expression
chain last =
    binary (at (chain_start last + 1)) Implication (antecedent (chain_start last + 1) (links_start last) last) (conclusion (conclusion_start last) last)

-- x < y & y notin P, whose text begins at a place
abbrev pub outside : ℕ → ℕ → Expression
outside start last =
    let less = behind_name start (codes "x") in
    let joins = behind_name (behind_joining less) (codes "y") in
    let next = behind_joining joins in
    joined (at (start + 1)) Conjunction (and_expression (and_expression no_expressions
    (binary (at (start + 1)) (Relation Less) (name_at start (codes "x")) (name_at (behind_joining less) (codes "y"))))
    (binary (at (next + 1)) (Relation NotMember) (name_at next (codes "y")) (name_at (behind_name next (codes "y") + 1 + 5) (name_of last))))

abbrev pub free : ℕ → ℕ → Expression
free start last =
    let x = start + 1 + 4 in
    let exists = behind_mark (behind_name x (codes "x")) in
    let y = exists + 1 + 3 in
    quantified (at (start + 1)) All One (and_variable no_variables (at (x + 1)) One (codes "x") unrestricted)
    (quantified (at (exists + 1)) Ex One (and_variable no_variables (at (y + 1)) One (codes "y") unrestricted)
    (outside (behind_mark (behind_name y (codes "y"))) last))

abbrev pub document : ℕ → Document
document last = record {
  header = Some (at 0, Ws1s);
  declarations = record { at = at 6; declaration = variables (sets sets_start last) }
      ∷ record { at = at (chain_start last + 1); declaration = formula (chain last) }
      ∷ record { at = at (free_start last + 1); declaration = formula (free (free_start last) last) }
      ∷ [];
}

-- the symbols read so

name_reads : (start : ℕ) (n : List ℕ) (more : List Piece) → ReadsExpression true (name_at start n) (symbols_from start (name_piece n ∷ more)) (symbols_from (behind_name start n) more)
name_reads start n more = (at (start + 1), refl, refl)

more_variables : (before : Variables) (o : _) (there : At) (n : List ℕ) (from f1 f2 f3 : List Placed) → IsVariableList before → ReadsVariables true before from f1 → Follows comma f1 f2 → Starts true (name n) there f2 f3
    → ReadsVariables true (and_variable before there o n unrestricted) from f3
more_variables no_variables o there n from f1 f2 f3 some before joins starts = absurd some
more_variables (and_variable b t p m d) o there n from f1 f2 f3 some before joins starts = (f1, f2, f3, before, joins, starts, refl)

sets_some : (start n : ℕ) → IsVariableList (sets start n)
sets_some start zero = tt
sets_some start (suc n) = tt

sets_read : (start n : ℕ) (more : List Piece) → ReadsVariables true (sets start n) (symbols_from start (names_then n more)) (symbols_from (names_end start n) more)
sets_read start zero more = (symbols_from (names_end start 0) more, (at (start + 1), refl, refl), refl)
sets_read start (suc n) more =
    let further = name_piece (name_of (n + 1)) ∷ more in
    let place = behind_mark (names_end start n) in
    more_variables (sets start n) Two (at (place + 1)) (name_of (n + 1)) (symbols_from start (names_then (suc n) more))
    (symbols_from (names_end start n) (mark [] marks.Comma ∷ further)) (symbols_from place further) (symbols_from (names_end start (suc n)) more)
    (sets_some start n) (sets_read start n (mark [] marks.Comma ∷ further)) (at (names_end start n + 0), refl) (at (place + 1), refl, refl)

more_operands : (before : Expressions) (e : Expression) (from f1 f2 f3 : List Placed) → (last_ends_open before ≡ false) → ReadsSeparated true (joining Conjunction) before from f1 → Follows (joining Conjunction) f1 f2 → ReadsExpression true e f2 f3
    → ReadsSeparated true (joining Conjunction) (and_expression before e) from f3
more_operands no_expressions e from f1 f2 f3 closed before joins reads = absurd before
more_operands (and_expression b d) e from f1 f2 f3 closed before joins reads = (f1, f2, before, joins, reads)

within_reads : (start : ℕ) (m n : List ℕ) (more : List Piece)
    → ReadsExpression true (within start m (behind_sub (behind_name start m)) n) (symbols_from start (name_piece m ∷ word (32 ∷ []) words.Sub ∷ name_piece n ∷ more)) (symbols_from (behind_name (behind_sub (behind_name start m)) n) more)
within_reads start m n more =
    let sub = behind_name start m in
    let right = behind_sub sub in
    let further = name_piece n ∷ more in
    (symbols_from sub (word (32 ∷ []) words.Sub ∷ further), symbols_from right further, refl, name_reads start m (word (32 ∷ []) words.Sub ∷ further), (at (sub + 1), refl), name_reads right n more)

operands_closed : (true_at start n : ℕ) → last_ends_open (operands true_at start n) ≡ false
operands_closed true_at start zero = refl
operands_closed true_at start (suc n) = refl

operands_read : (place n : ℕ) (more : List Piece) → ReadsSeparated true (joining Conjunction) (operands (place + 1) (place + 1 + 4) n) (symbols_from place (word (10 ∷ []) words.True ∷ links_then n more)) (symbols_from (links_end (place + 1 + 4) n) more)
operands_read place zero more = (at (place + 1), refl, refl)
operands_read place (suc n) more =
    let start = links_end (place + 1 + 4) n in
    let further = name_piece (name_of n) ∷ word (32 ∷ []) words.Sub ∷ name_piece (name_of (n + 1)) ∷ more in
    more_operands (operands (place + 1) (place + 1 + 4) n) (link start n) (symbols_from place (word (10 ∷ []) words.True ∷ links_then (suc n) more))
    (symbols_from start (mark (32 ∷ []) marks.And ∷ further)) (symbols_from (left_start start) further) (symbols_from (links_end (place + 1 + 4) (suc n)) more)
    (operands_closed (place + 1) (place + 1 + 4) n) (operands_read place n (mark (32 ∷ []) marks.And ∷ further)) (at (start + 1), refl) (within_reads (left_start start) (name_of n) (name_of (n + 1)) more)

first_more : (there : At) (before : Expressions) (e : Expression) → FirstIsAt true there before → FirstIsAt true there (and_expression before e)
first_more there no_expressions e first = absurd first
first_more there (and_expression b d) e first = first

operands_first : (true_at start n : ℕ) → FirstIsAt true (at true_at) (operands true_at start n)
operands_first true_at start zero = refl
operands_first true_at start (suc n) = first_more (at true_at) (operands true_at start n) (link (links_end start n) n) (operands_first true_at start n)

antecedent_reads : (start n : ℕ) (more : List Piece) → ReadsExpression true (antecedent (start + 1) (start + 1 + 4) n) (symbols_from start (word (10 ∷ []) words.True ∷ links_then n more)) (symbols_from (links_end (start + 1 + 4) n) more)
antecedent_reads start zero more = (at (start + 1), refl, refl)
antecedent_reads start (suc n) more = (operands_first (start + 1) (start + 1 + 4) (suc n), operands_read start (suc n) more)

antecedent_place : (true_at start n : ℕ) → at true_at ≡ place (antecedent true_at start n)
antecedent_place true_at start zero = refl
antecedent_place true_at start (suc n) = refl

chain_reads : (last : ℕ) → ReadsExpression true (chain last) (symbols_from (chain_start last) (chain_pieces last)) (symbols_from (behind_name (last_start (conclusion_start last)) (name_of last)) (mark [] marks.Semicolon ∷ free_pieces last))
chain_reads last =
    let start = conclusion_start last in
    let left = first_start start in
    let more = mark [] marks.Semicolon ∷ free_pieces last in (
      symbols_from start (conclusion_pieces last),
      symbols_from left (name_piece (name_of 0) ∷ word (32 ∷ []) words.Sub ∷ name_piece (name_of last) ∷ more),
      antecedent_place (chain_start last + 1) (links_start last) last,
      antecedent_reads (chain_start last) last (conclusion_pieces last),
      (at (start + 1), refl),
      within_reads left (name_of 0) (name_of last) more,
    )

-- and the tree has the form that the grammar asks for

sets_of_order : (start n : ℕ) → AreOfOrder Two (sets start n)
sets_of_order start zero = (tt, refl)
sets_of_order start (suc n) = (sets_of_order start n, refl)

sets_open : (start n : ℕ) → AreDomains (sets start n)
sets_open start zero = tt
sets_open start (suc n) = sets_open start n

operands_two : (true_at start n : ℕ) → HasTwo (operands true_at start (suc n))
operands_two true_at start zero = tt
operands_two true_at start (suc n) = tt

operands_grammatical : (true_at start n : ℕ) → AreOperands 4 (operands true_at start n)
operands_grammatical true_at start zero = (tt, refl, lit≤ tt, tt)
operands_grammatical true_at start (suc n) = (operands_grammatical true_at start n, operands_closed true_at start n, lit≤ tt, (lit≤ tt, refl, tt, lit≤ tt, tt))

operands_shallow : (true_at start n : ℕ) → depth_of_all (operands true_at start n) ≤ 2
operands_shallow true_at start zero = lit≤ tt
operands_shallow true_at start (suc n) = max-le (operands_shallow true_at start n) (lit≤ tt)

antecedent_level : (true_at start n : ℕ) → 2 ≤ level (antecedent true_at start n)
antecedent_level true_at start zero = lit≤ tt
antecedent_level true_at start (suc n) = lit≤ tt

antecedent_closed : (true_at start n : ℕ) → ends_open (antecedent true_at start n) ≡ false
antecedent_closed true_at start zero = refl
antecedent_closed true_at start (suc n) = refl

antecedent_grammatical : (true_at start n : ℕ) → IsGrammatical (antecedent true_at start n)
antecedent_grammatical true_at start zero = tt
antecedent_grammatical true_at start (suc n) = (operands_two true_at start n, operands_grammatical true_at start (suc n))

antecedent_shallow : (true_at start n : ℕ) → depth (antecedent true_at start n) ≤ 3
antecedent_shallow true_at start zero = lit≤ tt
antecedent_shallow true_at start (suc n) = omega (arith, operands_shallow true_at start (suc n))

chain_is_expression : (last : ℕ) → IsExpression (chain last)
chain_is_expression last =
    let true_at = chain_start last + 1 in
    let start = links_start last in
    let shallow : max (depth (antecedent true_at start last)) 2 ≤ 3 = max-le (antecedent_shallow true_at start last) (lit≤ tt) in
    record {
      grammatical = (antecedent_level true_at start last, antecedent_closed true_at start last, antecedent_grammatical true_at start last, lit≤ tt, (lit≤ tt, refl, tt, lit≤ tt, tt));
      shallow = omega (arith, shallow);
    }

free_is_expression : (last : ℕ) → IsExpression (free (free_start last) last)
free_is_expression last = record {
  grammatical = (tt, (tt, refl), tt, (tt, (tt, refl), tt, (tt, ((tt, refl, lit≤ tt, (lit≤ tt, refl, tt, lit≤ tt, tt)), refl, lit≤ tt, (lit≤ tt, refl, tt, lit≤ tt, tt)))));
  shallow = lit≤ tt;
}

module _ (last : ℕ) where
  abbrev free_end : List Placed
  free_end = symbols_from (behind_name (behind_name (behind_joining (behind_name (behind_joining (behind_name (behind_mark (behind_name (behind_mark (behind_name (free_start last + 1 + 4) (codes "x")) + 1 + 3) (codes "y"))) (codes "x"))) (codes "y"))) (codes "y") + 1 + 5) (name_of last)) (mark [] marks.Semicolon ∷ [])

  outside_reads : (start : ℕ) (more : List Piece)
      → ReadsExpression true (outside start last)
      (symbols_from start (name_piece (codes "x") ∷ mark (32 ∷ []) marks.Less ∷ name_piece (codes "y") ∷ mark (32 ∷ []) marks.And ∷ name_piece (codes "y") ∷ word (32 ∷ []) words.NotIn ∷ name_piece (name_of last) ∷ more))
      (symbols_from (behind_name (behind_name (behind_joining (behind_name (behind_joining (behind_name start (codes "x"))) (codes "y"))) (codes "y") + 1 + 5) (name_of last)) more)
  outside_reads start more =
      let less = behind_name start (codes "x") in
      let y = behind_joining less in
      let joins = behind_name y (codes "y") in
      let next = behind_joining joins in
      let notin = behind_name next (codes "y") in
      let e = name_piece (name_of last) ∷ more in
      let d = name_piece (codes "y") ∷ word (32 ∷ []) words.NotIn ∷ e in
      let c = mark (32 ∷ []) marks.And ∷ d in
      let b = name_piece (codes "y") ∷ c in
      let a = mark (32 ∷ []) marks.Less ∷ b in (
        refl,
        (
          symbols_from joins c,
          symbols_from next d,
          (symbols_from less a, symbols_from y b, refl, name_reads start (codes "x") a, (at (less + 1), refl), name_reads y (codes "y") c),
          (at (joins + 1), refl),
          (symbols_from notin (word (32 ∷ []) words.NotIn ∷ e), symbols_from (notin + 1 + 5) e, refl, name_reads next (codes "y") (word (32 ∷ []) words.NotIn ∷ e), (at (notin + 1), refl), name_reads (notin + 1 + 5) (name_of last) more),
        ),
      )

  free_reads : ReadsExpression true (free (free_start last) last) (symbols_from (free_start last) (free_pieces last)) free_end
  free_reads =
      let start = free_start last in
      let x = start + 1 + 4 in
      let colon = behind_name x (codes "x") in
      let exists = behind_mark colon in
      let y = exists + 1 + 3 in
      let second = behind_name y (codes "y") in
      let body = behind_mark second in
      let e = mark [] marks.Semicolon ∷ [] in
      let d = name_piece (codes "x") ∷ mark (32 ∷ []) marks.Less ∷ name_piece (codes "y") ∷ mark (32 ∷ []) marks.And ∷ name_piece (codes "y") ∷ word (32 ∷ []) words.NotIn ∷ name_piece (name_of last) ∷ e in
      let c = mark [] marks.Colon ∷ d in
      let b = name_piece (codes "y") ∷ c in
      let a = word (32 ∷ []) words.Ex1 ∷ b in (
        symbols_from x (name_piece (codes "x") ∷ mark [] marks.Colon ∷ a),
        symbols_from colon (mark [] marks.Colon ∷ a),
        symbols_from exists a,
        (at (start + 1), refl, refl),
        (symbols_from colon (mark [] marks.Colon ∷ a), (at (x + 1), refl, refl), refl),
        (at (colon + 0), refl),
        (
          symbols_from y b,
          symbols_from second c,
          symbols_from body d,
          (at (exists + 1), refl, refl),
          (symbols_from second c, (at (y + 1), refl, refl), refl),
          (at (second + 0), refl),
          outside_reads body e,
        ),
      )

  declarations_read : ReadsDeclarations true (document last).declarations (symbols_from 5 (sets_pieces last)) []
  declarations_read =
      let names = names_then last (mark [] marks.Semicolon ∷ chain_pieces last) in
      let sets_end = symbols_from (names_end sets_start last) (mark [] marks.Semicolon ∷ chain_pieces last) in
      let chain_ends = symbols_from (behind_name (last_start (conclusion_start last)) (name_of last)) (mark [] marks.Semicolon ∷ free_pieces last) in (
        sets_end,
        symbols_from (chain_start last) (chain_pieces last),
        refl,
        (Two, symbols_from sets_start names, (at 6, refl), sets_of_order sets_start last, sets_read sets_start last (mark [] marks.Semicolon ∷ chain_pieces last)),
        (at (names_end sets_start last + 0), refl),
        (
          chain_ends,
          symbols_from (free_start last) (free_pieces last),
          refl,
          chain_reads last,
          (at (behind_name (last_start (conclusion_start last)) (name_of last) + 0), refl),
          (free_end, [], refl, free_reads, (_, refl), refl),
        ),
      )

  pub document_reads : Reads true (symbols_from 0 (pieces last)) (document last)
  document_reads = record {
    read = (symbols_from 5 (sets_pieces last), (symbols_from 4 (mark [] marks.Semicolon ∷ sets_pieces last), (at 0, refl, refl), (at 4, refl)), declarations_read);
    declarations = (sets_open sets_start last, (chain_is_expression last, (free_is_expression last, tt)));
  }
