-- The symbols that an expression is read from are those that are printed for it.
use Rattle.std.proofs.Common.{◌≡◌, Bool, cond, List, [], ◌∷◌, ◌++◌, sym, ap, append_assoc}
use Rattle.std.specs.List.{flat_map}
use Rattle.ms_list.specs.declared.at.At.{At}
use Rattle.ms_logic.specs.declared.mode.Rel.TheVariants.{Equal, Member}
use Rattle.ms_logic.specs.declared.source.Rename.{Rename}
use Rattle.ms_parse_grammar.specs.declared.operator.Binary.TheVariants.{Relation}
use Rattle.ms_parse_grammar.specs.declared.operator.Bracket.{Bracket}
use Rattle.ms_parse_grammar.specs.declared.operator.Bracket.TheVariants.{Parentheses, Emptiness, Restriction, Export}
use Rattle.ms_parse_grammar.specs.declared.operator.Listing.{Listing}
use Rattle.ms_parse_grammar.specs.declared.operator.Listing.TheVariants.{Literal, Call}
use Rattle.ms_parse_grammar.specs.Symbol.{Symbol, name, number, text, left_out, prefix_operator, infix_operator, joining, sign, quantifier, let_word, word_true, word_false, dollar, word_empty, word_pconst, word_import, word_export, word_restrict, word_where, open_round, close_round, open_curly, comma, colon, arrow, Placed}
use Rattle.ms_parse_grammar.specs.Tree.{Atom, truth, falsity, whole, empty_set, named, numeral, pconst, imported}
use Rattle.ms_parse_grammar.specs.Tree.{Expression, atom, prefixed, binary, joined, shifted, enclosed, listed, quantified, let_in, Expressions, no_expressions, and_expression, Variables, no_variables, and_variable, Domain, unrestricted, restricted, Parts, no_parts, and_part}
use Rattle.ms_parse_grammar.specs.Reads.{int_symbol, Starts, Follows, ReadsPairs, ReadsAtom, ReadsOpening, ReadsListOpening, closing, ReadsExpression, ReadsSeparated, ReadsList, ReadsDomain, ReadsVariables, ReadsParts}
use Rattle.ms_parse_print.specs.inner.Printed.{single, printed, printed_all, printed_atom, printed_domain, printed_pair, printed_opening, printed_list_opening, printed_variables, printed_parts}
use Rattle.ms_parse_print.proofs.Tokens.{unplaced}

pub follows_said : (s : Symbol) (from behind : List Placed) → Follows s from behind → unplaced from ≡ s ∷ unplaced behind
follows_said s from behind follow = ap unplaced follow.1

pub starts_said : (exact : Bool) (s : Symbol) (at : At) (from behind : List Placed) → Starts exact s at from behind → unplaced from ≡ s ∷ unplaced behind
starts_said exact s at from behind starts = ap unplaced starts.1

pairs_said : (exact : Bool) (pairs : List Rename) (from behind : List Placed) → ReadsPairs exact pairs from behind → unplaced from ≡ flat_map (printed_pair single) pairs ++ unplaced behind
pairs_said exact [] from behind same = ap unplaced same
pairs_said exact (p ∷ ps) from behind (f1, f2, f3, f4, comma_is, left, arrow_is, right, further) =
    let e1 = follows_said comma from f1 comma_is in
    let e2 = starts_said exact (name p.left) p.at f1 f2 left in
    let e3 = follows_said arrow f2 f3 arrow_is in
    let e4 = starts_said exact (name p.right) p.at_right f3 f4 right in
    rw (e1, e2, e3, e4, pairs_said exact ps f4 behind further)

atom_said : (exact : Bool) (a : Atom) (at : At) (from behind : List Placed) → ReadsAtom exact a at from behind → unplaced from ≡ printed_atom single a ++ unplaced behind
atom_said exact truth at from behind starts = starts_said exact word_true at from behind starts
atom_said exact falsity at from behind starts = starts_said exact word_false at from behind starts
atom_said exact whole at from behind starts = starts_said exact dollar at from behind starts
atom_said exact empty_set at from behind starts = starts_said exact word_empty at from behind starts
atom_said exact (named n) at from behind starts = starts_said exact (name n) at from behind starts
atom_said exact (numeral n) at from behind starts = starts_said exact (number n) at from behind starts
atom_said exact (pconst n) at from behind (f1, f2, f3, plus, starts, opens, int_is, closes) =
    let e1 = starts_said exact word_pconst at from f1 starts in
    let e2 = follows_said open_round f1 f2 opens in
    let e3 = starts_said exact (int_symbol n.value) n.at f2 f3 int_is in
    let e4 = follows_said close_round f3 behind closes in
    rw (e1, e2, e3, e4) (ap (λ m. word_pconst ∷ open_round ∷ cond m (left_out []) (int_symbol n.value) ∷ close_round ∷ unplaced behind) (sym plus))
atom_said exact (imported file pairs) at from behind (f1, f2, f3, f4, starts, opens, text_is, pairs_are, closes) =
    let e1 = starts_said exact word_import at from f1 starts in
    let e2 = follows_said open_round f1 f2 opens in
    let e3 = follows_said (text file) f2 f3 text_is in
    let e4 = pairs_said exact pairs f3 f4 pairs_are in
    let e5 = follows_said close_round f4 behind closes in
    rw (e1, e2, e3, e4, e5) (simp append_assoc)

opening_said : (exact : Bool) (b : Bracket) (at : At) (from behind : List Placed) → ReadsOpening exact b at from behind → unplaced from ≡ printed_opening single b ++ unplaced behind
opening_said exact Parentheses at from behind starts = starts_said exact open_round at from behind starts
opening_said exact Emptiness at from behind (f1, starts, opens) = let e1 = starts_said exact word_empty at from f1 starts in let e2 = follows_said open_round f1 behind opens in rw (e1, e2)
opening_said exact Restriction at from behind (f1, starts, opens) = let e1 = starts_said exact word_restrict at from f1 starts in let e2 = follows_said open_round f1 behind opens in rw (e1, e2)
opening_said exact (Export at_text file) at from behind (f1, f2, f3, starts, opens, text_is, comma_is) =
    let e1 = starts_said exact word_export at from f1 starts in
    let e2 = follows_said open_round f1 f2 opens in
    let e3 = starts_said exact (text file) at_text f2 f3 text_is in
    let e4 = follows_said comma f3 behind comma_is in
    rw (e1, e2, e3, e4)

list_opening_said : (exact : Bool) (l : Listing) (at : At) (from behind : List Placed) → ReadsListOpening exact l at from behind → unplaced from ≡ printed_list_opening single l ++ unplaced behind
list_opening_said exact Literal at from behind starts = starts_said exact open_curly at from behind starts
list_opening_said exact (Call p) at from behind (f1, starts, opens) = let e1 = starts_said exact (name p) at from f1 starts in let e2 = follows_said open_round f1 behind opens in rw (e1, e2)

mutual
  pub said : (exact : Bool) (e : Expression) (from behind : List Placed) → ReadsExpression exact e from behind → unplaced from ≡ printed single e ++ unplaced behind
  said exact (atom at a) from behind reads = atom_said exact a at from behind reads
  said exact (prefixed at op e) from behind (f1, starts, operand) =
      let e1 = starts_said exact (prefix_operator op) at from f1 starts in rw (e1, said exact e f1 behind operand)
  said exact (binary at op l r) from behind (f1, f2, here, left, follow, right) =
      let e1 = said exact l from f1 left in
      let e2 = follows_said (infix_operator op) f1 f2 follow in
      rw (e1, e2, said exact r f2 behind right) (simp append_assoc)
  said exact (joined at op es) from behind (first, operands) = separated_said exact (joining op) es from behind operands
  said exact (shifted at e n) from behind (f1, f2, here, operand, sign_is, int_is) =
      let e1 = said exact e from f1 operand in
      let e2 = follows_said (sign n.minus) f1 f2 sign_is in
      let e3 = starts_said exact (int_symbol n.value) n.at f2 behind int_is in
      rw (e1, e2, e3) (simp append_assoc)
  said exact (enclosed at b e) from behind (f1, f2, opens, inner, closes) =
      let e1 = opening_said exact b at from f1 opens in
      let e2 = said exact e f1 f2 inner in
      let e3 = follows_said close_round f2 behind closes in
      rw (e1, e2, e3) (simp append_assoc)
  said exact (listed at l es) from behind (f1, f2, opens, entries, closes) =
      let e1 = list_opening_said exact l at from f1 opens in
      let e2 = list_said exact es f1 f2 entries in
      let e3 = follows_said (closing l) f2 behind closes in
      rw (e1, e2, e3) (simp append_assoc)
  said exact (quantified at q o vs body) from behind (f1, f2, f3, starts, bound, colon_is, inner) =
      let e1 = starts_said exact (quantifier q o) at from f1 starts in
      let e2 = variables_said exact vs f1 f2 bound in
      let e3 = follows_said colon f2 f3 colon_is in
      rw (e1, e2, e3, said exact body f3 behind inner) (simp append_assoc)
  said exact (let_in at o parts body) from behind (f1, f2, f3, starts, named_parts, in_is, inner) =
      let e1 = starts_said exact (let_word o) at from f1 starts in
      let e2 = parts_said exact parts f1 f2 named_parts in
      let e3 = follows_said (infix_operator (Relation Member)) f2 f3 in_is in
      rw (e1, e2, e3, said exact body f3 behind inner) (simp append_assoc)

  separated_said : (exact : Bool) (s : Symbol) (es : Expressions) (from behind : List Placed) → ReadsSeparated exact s es from behind → unplaced from ≡ printed_all single s es ++ unplaced behind
  separated_said exact s no_expressions from behind never = absurd never
  separated_said exact s (and_expression no_expressions e) from behind reads = said exact e from behind reads
  separated_said exact s (and_expression (and_expression before d) e) from behind (f1, f2, others, follow, last) =
      let e1 = separated_said exact s (and_expression before d) from f1 others in
      let e2 = follows_said s f1 f2 follow in
      rw (e1, e2, said exact e f2 behind last) (simp append_assoc)

  list_said : (exact : Bool) (es : Expressions) (from behind : List Placed) → ReadsList exact es from behind → unplaced from ≡ printed_all single comma es ++ unplaced behind
  list_said exact no_expressions from behind same = ap unplaced same
  list_said exact (and_expression no_expressions e) from behind reads = said exact e from behind reads
  list_said exact (and_expression (and_expression before d) e) from behind (f1, f2, others, follow, last) =
      let e1 = list_said exact (and_expression before d) from f1 others in
      let e2 = follows_said comma f1 f2 follow in
      rw (e1, e2, said exact e f2 behind last) (simp append_assoc)

  pub domain_said : (exact : Bool) (d : Domain) (from behind : List Placed) → ReadsDomain exact d from behind → unplaced from ≡ printed_domain single d ++ unplaced behind
  domain_said exact unrestricted from behind same = ap unplaced same
  domain_said exact (restricted d) from behind (f1, where_is, inner) = let e1 = follows_said word_where from f1 where_is in rw (e1, said exact d f1 behind inner)

  pub variables_said : (exact : Bool) (vs : Variables) (from behind : List Placed) → ReadsVariables exact vs from behind → unplaced from ≡ printed_variables single vs ++ unplaced behind
  variables_said exact no_variables from behind never = absurd never
  variables_said exact (and_variable no_variables at o n d) from behind (f1, starts, domain_is) =
      let e1 = starts_said exact (name n) at from f1 starts in rw (e1, domain_said exact d f1 behind domain_is)
  variables_said exact (and_variable (and_variable before at' o' n' d') at o n d) from behind (f1, f2, f3, others, follow, starts, domain_is) =
      let e1 = variables_said exact (and_variable before at' o' n' d') from f1 others in
      let e2 = follows_said comma f1 f2 follow in
      let e3 = starts_said exact (name n) at f2 f3 starts in
      rw (e1, e2, e3, domain_said exact d f3 behind domain_is) (simp append_assoc)

  parts_said : (exact : Bool) (parts : Parts) (from behind : List Placed) → ReadsParts exact parts from behind → unplaced from ≡ printed_parts single parts ++ unplaced behind
  parts_said exact no_parts from behind never = absurd never
  parts_said exact (and_part no_parts at n value) from behind (f1, f2, starts, equal_is, inner) =
      let e1 = starts_said exact (name n) at from f1 starts in
      let e2 = follows_said (infix_operator (Relation Equal)) f1 f2 equal_is in
      rw (e1, e2, said exact value f2 behind inner)
  parts_said exact (and_part (and_part before at' n' value') at n value) from behind (f1, f2, f3, f4, others, follow, starts, equal_is, inner) =
      let e1 = parts_said exact (and_part before at' n' value') from f1 others in
      let e2 = follows_said comma f1 f2 follow in
      let e3 = starts_said exact (name n) at f2 f3 starts in
      let e4 = follows_said (infix_operator (Relation Equal)) f3 f4 equal_is in
      rw (e1, e2, e3, e4, said exact value f4 behind inner) (simp append_assoc)
