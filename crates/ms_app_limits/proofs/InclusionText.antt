-- The tokens of the inclusion, the source that they read as, and its typed tree.
use Rattle.std.proofs.Common.{rules, ◌≡◌, ℕ, true, List, [], ◌∷◌, codes, map, Some, None, refl, sym, ap, ◌∙◌, subst, lit≤}
use Rattle.ms_list.specs.declared.at.At.{At}
use Rattle.ms_logic.specs.declared.checked.Checked.{Checked}
use Rattle.ms_logic.specs.declared.formula.Formula.{Formula}
use Rattle.ms_logic.specs.declared.formula.Formula.TheVariants as code
use Rattle.ms_logic.specs.declared.mode.Mode.TheVariants.{Ws1s}
use Rattle.ms_logic.specs.declared.mode.Order.TheVariants.{Two}
use Rattle.ms_logic.specs.declared.mode.Rel.TheVariants.{Sub}
use Rattle.ms_logic.specs.declared.source.Bound.{Bound, roll-Bound}
use Rattle.ms_logic.specs.declared.source.Decl.TheVariants.{Vars, Formula as Stated}
use Rattle.ms_logic.specs.declared.source.Expr.{Expr}
use Rattle.ms_logic.specs.declared.source.Form.{the_lemmas}
use Rattle.ms_logic.specs.declared.source.Form.TheVariants as form
use Rattle.ms_logic.specs.declared.source.Loaded.{Loaded}
use Rattle.ms_logic.specs.declared.source.Source.{Source}
use Rattle.ms_logic.specs.declared.term.Term2.TheVariants as set
use Rattle.ms_logic.specs.Tree as tree
use Rattle.ms_logic.specs.View.{formula_of}
use Rattle.ms_logic.proofs.Views.{formula_of-CompareSets, set_term_of-Var}
use Rattle.ms_text.specs.declared.keyword.Keyword.TheVariants as words
use Rattle.ms_text.specs.declared.mark.Mark.TheVariants as marks
use Rattle.ms_text.specs.declared.token.Kind.TheVariants as kinds
use Rattle.ms_text.specs.TokenList.{IsTokenList, Lexed}
use Rattle.ms_text.proofs.Here.{name_here, word_here, mark_here}
use Rattle.ms_parse_grammar.specs.declared.operator.Binary.TheVariants.{Relation}
use Rattle.ms_parse_grammar.specs.Declarations.{Reads}
use Rattle.ms_parse_grammar.specs.Symbol.{symbols}
use Rattle.ms_parse_grammar.specs.Tree.{Document, Variables, named, atom, binary, no_variables, and_variable, unrestricted, variables, formula}
use Rattle.ms_parse_grammar.specs.View.{Variable, declared_of, document_of, expression_of, variable_of}
use Rattle.ms_include.specs.File.{ReadAs}
use Rattle.ms_names_rules.specs.TypedSource.{IsTyped, exports_of_source, formulas_of_source, globals_of_source, imports_of_source, predicates_of_source}
use Rattle.ms_gen.proofs.Pieces.{Piece, ArePieces, at, symbols_from, symbols_listed, tokens_from, tokens_listed}
use Rattle.ms_gen.proofs.Spelling.{mark, name_piece, word}
use Rattle.ms_app_limits.specs.inner.Inclusion.{inclusion_text}

-- the tokens, with the blanks before each

abbrev stated : List Piece
stated =
    record { gap = 10 ∷ []; kind = kinds.Name; slice = codes "P" } ∷ word (32 ∷ []) words.Sub ∷ name_piece (codes "Q")
    ∷ mark [] marks.Semicolon ∷ []

abbrev sets : List Piece
sets = name_piece (codes "P") ∷ mark [] marks.Comma ∷ name_piece (codes "Q") ∷ mark [] marks.Semicolon ∷ stated

abbrev declared : List Piece
declared = word (10 ∷ []) words.Var2 ∷ sets

abbrev pieces : List Piece
pieces = word [] words.Ws1s ∷ mark [] marks.Semicolon ∷ declared

stated_are : ArePieces stated
stated_are = (
  refl,
  name_here (codes "P") (codes " sub Q;\n") refl refl refl refl,
  (
    refl,
    word_here words.Sub (codes " Q;\n") refl,
    (refl, name_here (codes "Q") (codes ";\n") refl refl refl refl, (refl, mark_here marks.Semicolon (codes "\n") refl, tt)),
  ),
)

sets_are : ArePieces sets
sets_are = (
  refl,
  name_here (codes "P") (codes ", Q;\nP sub Q;\n") refl refl refl refl,
  (
    refl,
    mark_here marks.Comma (codes " Q;\nP sub Q;\n") refl,
    (
      refl,
      name_here (codes "Q") (codes ";\nP sub Q;\n") refl refl refl refl,
      (refl, mark_here marks.Semicolon (codes "\nP sub Q;\n") refl, stated_are),
    ),
  ),
)

pieces_are : ArePieces pieces
pieces_are = (
  refl,
  word_here words.Ws1s (codes ";\nvar2 P, Q;\nP sub Q;\n") refl,
  (
    refl,
    mark_here marks.Semicolon (codes "\nvar2 P, Q;\nP sub Q;\n") refl,
    (refl, word_here words.Var2 (codes " P, Q;\nP sub Q;\n") refl, sets_are),
  ),
)

tokens_are : IsTokenList 0 inclusion_text (tokens_from 0 pieces)
tokens_are = tokens_listed 0 pieces pieces_are

-- the tree of the grammar, and that its symbols read as it

abbrev both : Variables
both = and_variable (and_variable no_variables (at 11) Two (codes "P") unrestricted) (at 14) Two (codes "Q") unrestricted

abbrev document : Document
document = record {
  header = Some (at 0, Ws1s);
  declarations = record { at = at 6; declaration = variables both }
      ∷ record { at = at 17; declaration = formula (binary (at 17) (Relation Sub) (atom (at 17) (named (codes "P"))) (atom (at 23) (named (codes "Q")))) } ∷ [];
}

document_reads : Reads true (symbols_from 0 pieces) document
document_reads =
    let semicolon = mark [] marks.Semicolon ∷ stated in
    let second = name_piece (codes "Q") ∷ semicolon in
    let comma = mark [] marks.Comma ∷ second in
    let right = name_piece (codes "Q") ∷ mark [] marks.Semicolon ∷ [] in
    let sub = word (32 ∷ []) words.Sub ∷ right in
    record {
      read = (
        symbols_from 5 declared,
        (symbols_from 4 (mark [] marks.Semicolon ∷ declared), (at 0, refl, refl), (at 4, refl)),
        (
          symbols_from 15 semicolon,
          symbols_from 16 stated,
          refl,
          (
            Two,
            symbols_from 10 sets,
            (at 6, refl),
            ((tt, refl), refl),
            (
              symbols_from 12 comma,
              symbols_from 13 second,
              symbols_from 15 semicolon,
              (symbols_from 12 comma, (at 11, refl, refl), refl),
              (at 12, refl),
              (at 14, refl, refl),
              refl,
            ),
          ),
          (at 15, refl),
          (
            symbols_from 24 (mark [] marks.Semicolon ∷ []),
            [],
            refl,
            (symbols_from 18 sub, symbols_from 22 right, refl, (at 17, refl, refl), (at 19, refl), (at 23, refl, refl)),
            (at 24, refl),
            refl,
          ),
        ),
      );
      declarations = (tt, (record { grammatical = (lit≤ tt, refl, tt, lit≤ tt, tt); shallow = lit≤ tt }, tt));
    }

-- the tree of the code, and that it stands for this

abbrev name_code : ℕ → List ℕ → Expr
name_code place n = record { at = at place; form = form.Name n }

abbrev bound_code : ℕ → List ℕ → Bound
bound_code place n = roll-Bound (record { at = at place; order = Two; name = n; domain = None })

abbrev inclusion_code : Expr
inclusion_code = record { at = at 17; form = form.Relation Sub (name_code 17 (codes "P")) (name_code 23 (codes "Q")) }

abbrev pub inclusion_source : Source
inclusion_source = record {
  header = Some (at 0, Ws1s);
  items = record { at = at 6; decl = Vars (bound_code 11 (codes "P") ∷ bound_code 14 (codes "Q") ∷ []) }
      ∷ record { at = at 17; decl = Stated inclusion_code } ∷ [];
}

name-viewed : (there : At) (n : List ℕ) → expression_of (record { at = there; form = form.Name n }) ≡ atom there (named n)
name-viewed there n = search (rules, the_lemmas)

relation-viewed : (there : At) (l e : Expr)
    → expression_of (record { at = there; form = form.Relation Sub l e }) ≡ binary there (Relation Sub) (expression_of l) (expression_of e)
relation-viewed there l e = search (rules, the_lemmas)

bound-viewed : (place : ℕ) (n : List ℕ) → variable_of (bound_code place n) ≡ record { at = at place; order = Two; name = n; domain = unrestricted }
bound-viewed place n = search (rules, the_lemmas)

inclusion-viewed : expression_of inclusion_code ≡ binary (at 17) (Relation Sub) (atom (at 17) (named (codes "P"))) (atom (at 23) (named (codes "Q")))
inclusion-viewed =
    relation-viewed (at 17) (name_code 17 (codes "P")) (name_code 23 (codes "Q"))
    ∙ (λ i. binary (at 17) (Relation Sub) (name-viewed (at 17) (codes "P") i) (name-viewed (at 23) (codes "Q") i))

abbrev with_both : Variable → Variable → Variables
with_both v w = and_variable (and_variable no_variables v.at v.order v.name v.domain) w.at w.order w.name w.domain

source-viewed : document_of inclusion_source ≡ document
source-viewed = λ i. record {
  header = Some (at 0, Ws1s);
  declarations = record { at = at 6; declaration = variables (with_both (bound-viewed 11 (codes "P") i) (bound-viewed 14 (codes "Q") i)) }
      ∷ record { at = at 17; declaration = formula (inclusion-viewed i) } ∷ [];
}

abbrev lexed : Lexed
lexed = record { bytes = inclusion_text; tokens = tokens_from 0 pieces }

pub read_as : ReadAs 0 inclusion_text inclusion_source
read_as =
    let said = symbols_listed lexed [] 0 pieces refl refl in
    record {
      tokens = tokens_from 0 pieces;
      are_tokens = tokens_are;
      reads = subst (Reads true (symbols 0 lexed)) (sym source-viewed) (subst (λ all. Reads true all document) (sym said) document_reads);
    }

-- its declarations stand for those of the document
pub items-viewed : map declared_of inclusion_source.items ≡ document.declarations
items-viewed = ap (λ (d : Document). d.declarations) source-viewed

-- its typed tree

abbrev pub inclusion_loaded : Loaded
inclusion_loaded = record { mode = Ws1s; items = inclusion_source.items; files = codes "a" ∷ [] }

abbrev inclusion_made : Formula
inclusion_made = code.CompareSets Sub (set.Var 0) (set.Var 1)

pub inclusion-is : formula_of inclusion_made ≡ tree.set_comparison Sub (tree.set_variable 0) (tree.set_variable 1)
inclusion-is = formula_of-CompareSets Sub (set.Var 0) (set.Var 1) ∙ (λ i. tree.set_comparison Sub (set_term_of-Var 0 i) (set_term_of-Var 1 i))

abbrev pub inclusion_checked : Checked
inclusion_checked = record {
  mode = Ws1s;
  globals = record { at = at 6; item = 0; order = Two; name = codes "P"; domain = None } ∷ record { at = at 6; item = 0; order = Two; name = codes "Q"; domain = None } ∷ [];
  predicates = [];
  imports = [];
  exports = [];
  formulas = record { at = at 17; item = 1; title = None; formula = inclusion_made } ∷ [];
  files = codes "a" ∷ [];
}

pub is_typed : IsTyped inclusion_loaded inclusion_checked
is_typed =
    let same = sym items-viewed in
    record {
      mode = refl;
      globals_are = ap (globals_of_source Ws1s) same;
      predicates_are = ap (predicates_of_source Ws1s) same;
      imports_are = ap (imports_of_source Ws1s) same;
      exports_are = ap (exports_of_source Ws1s) same;
      formulas_are = (λ i. Some (record { at = at 17; item = 1; title = None; formula = inclusion-is i }) ∷ []) ∙ ap (formulas_of_source Ws1s) same;
      files = refl;
    }
