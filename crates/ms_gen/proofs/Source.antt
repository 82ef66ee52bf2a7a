-- The source that a generated text reads as.
use Rattle.std.proofs.Common.{rules, ◌≡◌, ℕ, zero, suc, ◌+◌, List, [], ◌∷◌, ◌++◌, codes, map, Some, None, ap, ◌∙◌}
use Rattle.std.proofs.lemmas.List.{map-append}
use Rattle.ms_gen.specs.Generated.{name_of}
use Rattle.ms_list.specs.declared.at.At.{At}
use Rattle.ms_logic.specs.declared.mode.Mode.TheVariants.{Ws1s}
use Rattle.ms_logic.specs.declared.mode.Order.{Order}
use Rattle.ms_logic.specs.declared.mode.Order.TheVariants.{One, Two}
use Rattle.ms_logic.specs.declared.mode.Quant.{Quant}
use Rattle.ms_logic.specs.declared.mode.Quant.TheVariants.{Ex, All}
use Rattle.ms_logic.specs.declared.mode.Rel.{Rel}
use Rattle.ms_logic.specs.declared.mode.Rel.TheVariants.{Less, NotMember, Sub}
use Rattle.ms_logic.specs.declared.source.Bound.{Bound, roll-Bound}
use Rattle.ms_logic.specs.declared.source.Decl.TheVariants.{Vars, Formula}
use Rattle.ms_logic.specs.declared.source.Expr.{Expr}
use Rattle.ms_logic.specs.declared.source.Form.{the_lemmas}
use Rattle.ms_logic.specs.declared.source.Form.TheVariants as form
use Rattle.ms_logic.specs.declared.source.Source.{Source}
use Rattle.ms_parse_grammar.specs.declared.operator.Binary.TheVariants.{Implication, Relation}
use Rattle.ms_parse_grammar.specs.declared.operator.Junction.TheVariants.{Conjunction}
use Rattle.ms_parse_grammar.specs.Tree.{truth, named, atom, binary, joined, quantified, no_expressions, and_expression, Variables, no_variables, and_variable, unrestricted, variables, formula, Document}
use Rattle.ms_parse_grammar.specs.View.{Variable, declared_of, document_of, expression_of, expressions_behind, expressions_of, variable_of, variables_behind, variables_of}
use Rattle.ms_parse_print.proofs.Lists.{expressions_push, variables_push}
use Rattle.ms_gen.proofs.Pieces.{at}
use Rattle.ms_gen.proofs.Reading.{antecedent, behind_joining, behind_mark, behind_name, chain, chain_start, conclusion_start, document, first_start, free, free_start, last_start, left_start, links_end, links_start, name_at, operands, outside, right_start, set_start, sets, sets_start}

-- one expression of the code, and the tree that it stands for

name-viewed : (there : At) (n : List ℕ) → expression_of (record { at = there; form = form.Name n }) ≡ atom there (named n)
name-viewed there n = search (rules, the_lemmas)

truth-viewed : (there : At) → expression_of (record { at = there; form = form.True }) ≡ atom there truth
truth-viewed there = search (rules, the_lemmas)

relation-viewed : (there : At) (r : Rel) (l e : Expr) → expression_of (record { at = there; form = form.Relation r l e }) ≡ binary there (Relation r) (expression_of l) (expression_of e)
relation-viewed there r l e = search (rules, the_lemmas)

implication-viewed : (there : At) (l e : Expr) → expression_of (record { at = there; form = form.Implies l e }) ≡ binary there Implication (expression_of l) (expression_of e)
implication-viewed there l e = search (rules, the_lemmas)

conjunction-viewed : (there : At) (es : List Expr) → expression_of (record { at = there; form = form.And es }) ≡ joined there Conjunction (expressions_of es)
conjunction-viewed there es = search (rules, the_lemmas)

binder-viewed : (there : At) (q : Quant) (o : Order) (vs : List Bound) (e : Expr) → expression_of (record { at = there; form = form.Bind q o vs e }) ≡ quantified there q o (variables_of vs) (expression_of e)
binder-viewed there q o vs e = search (rules, the_lemmas)

abbrev pub bound : At → Order → List ℕ → Bound
bound there o n = roll-Bound (record { at = there; order = o; name = n; domain = None })

bound-viewed : (there : At) (o : Order) (n : List ℕ) → variable_of (bound there o n) ≡ record { at = there; order = o; name = n; domain = unrestricted }
bound-viewed there o n = search (rules, the_lemmas)

-- the source

abbrev pub name_code : ℕ → List ℕ → Expr
name_code start n = record { at = at (start + 1); form = form.Name n }

abbrev pub sets_code : ℕ → ℕ → List Bound
sets_code start zero = bound (at (start + 1)) Two (name_of 0) ∷ []
sets_code start (suc n) = sets_code start n ++ bound (at (set_start start (suc n) + 1)) Two (name_of (n + 1)) ∷ []

abbrev pub within_code : ℕ → List ℕ → ℕ → List ℕ → Expr
within_code left m right n = record { at = at (left + 1); form = form.Relation Sub (name_code left m) (name_code right n) }

abbrev pub link_code : ℕ → ℕ → Expr
link_code start n = within_code (left_start start) (name_of n) (right_start start n) (name_of (n + 1))

abbrev pub operands_code : ℕ → ℕ → ℕ → List Expr
operands_code true_at start zero = record { at = at true_at; form = form.True } ∷ []
operands_code true_at start (suc n) = operands_code true_at start n ++ link_code (links_end start n) n ∷ []

abbrev pub antecedent_code : ℕ → ℕ → ℕ → Expr
antecedent_code true_at start zero = record { at = at true_at; form = form.True }
antecedent_code true_at start (suc n) = record { at = at true_at; form = form.And (operands_code true_at start (suc n)) }

abbrev pub conclusion_code : ℕ → ℕ → Expr
conclusion_code start last = within_code (first_start start) (name_of 0) (last_start start) (name_of last)

abbrev pub chain_code : ℕ → Expr
chain_code last = record {
  at = at (chain_start last + 1);
  form = form.Implies (antecedent_code (chain_start last + 1) (links_start last) last) (conclusion_code (conclusion_start last) last);
}

abbrev pub outside_code : ℕ → ℕ → Expr
outside_code start last =
    let less = behind_name start (codes "x") in
    let joins = behind_name (behind_joining less) (codes "y") in
    let next = behind_joining joins in
    record {
      at = at (start + 1);
      form = form.And (record { at = at (start + 1); form = form.Relation Less (name_code start (codes "x")) (name_code (behind_joining less) (codes "y")) }
          ∷ record { at = at (next + 1); form = form.Relation NotMember (name_code next (codes "y")) (name_code (behind_name next (codes "y") + 1 + 5) (name_of last)) } ∷ []);
    }

abbrev pub free_code : ℕ → ℕ → Expr
free_code start last =
    let x = start + 1 + 4 in
    let exists = behind_mark (behind_name x (codes "x")) in
    let y = exists + 1 + 3 in
    record {
      at = at (start + 1);
      form = form.Bind All One (bound (at (x + 1)) One (codes "x") ∷ [])
          (record { at = at (exists + 1); form = form.Bind Ex One (bound (at (y + 1)) One (codes "y") ∷ []) (outside_code (behind_mark (behind_name y (codes "y"))) last) });
    }

abbrev pub source : ℕ → Source
source last = record {
  header = Some (at 0, Ws1s);
  items = record { at = at 6; decl = Vars (sets_code sets_start last) }
      ∷ record { at = at (chain_start last + 1); decl = Formula (chain_code last) }
      ∷ record { at = at (free_start last + 1); decl = Formula (free_code (free_start last) last) }
      ∷ [];
}

-- it stands for the document

one-variable : (there : At) (o : Order) (n : List ℕ) → variables_of (bound there o n ∷ []) ≡ and_variable no_variables there o n unrestricted
one-variable there o n = ap (λ (v : Variable). and_variable no_variables v.at v.order v.name v.domain) (bound-viewed there o n)

sets-viewed : (start n : ℕ) → variables_of (sets_code start n) ≡ sets start n
sets-viewed start zero = one-variable (at (start + 1)) Two (name_of 0)
sets-viewed start (suc n) =
    let b = bound (at (set_start start (suc n) + 1)) Two (name_of (n + 1)) in
    ap (variables_behind no_variables) (map-append variable_of (sets_code start n) (b ∷ []))
    ∙ variables_push no_variables (map variable_of (sets_code start n)) (variable_of b)
    ∙ ap (λ (v : Variable). and_variable (variables_of (sets_code start n)) v.at v.order v.name v.domain) (bound-viewed (at (set_start start (suc n) + 1)) Two (name_of (n + 1)))
    ∙ ap (λ (vs : Variables). and_variable vs (at (set_start start (suc n) + 1)) Two (name_of (n + 1)) unrestricted) (sets-viewed start n)

related-viewed : (there : At) (r : Rel) (left : ℕ) (m : List ℕ) (right : ℕ) (n : List ℕ)
    → expression_of (record { at = there; form = form.Relation r (name_code left m) (name_code right n) }) ≡ binary there (Relation r) (name_at left m) (name_at right n)
related-viewed there r left m right n =
    relation-viewed there r (name_code left m) (name_code right n)
    ∙ (λ i. binary there (Relation r) (name-viewed (at (left + 1)) m i) (name-viewed (at (right + 1)) n i))

operands-viewed : (true_at start n : ℕ) → expressions_of (operands_code true_at start n) ≡ operands true_at start n
operands-viewed true_at start zero = ap (and_expression no_expressions) (truth-viewed (at true_at))
operands-viewed true_at start (suc n) =
    let from = links_end start n in
    let e = link_code from n in
    ap (expressions_behind no_expressions) (map-append expression_of (operands_code true_at start n) (e ∷ []))
    ∙ expressions_push no_expressions (map expression_of (operands_code true_at start n)) (expression_of e)
    ∙ (λ i. and_expression (operands-viewed true_at start n i) (related-viewed (at (left_start from + 1)) Sub (left_start from) (name_of n) (right_start from n) (name_of (n + 1)) i))

antecedent-viewed : (true_at start n : ℕ) → expression_of (antecedent_code true_at start n) ≡ antecedent true_at start n
antecedent-viewed true_at start zero = truth-viewed (at true_at)
antecedent-viewed true_at start (suc n) =
    conjunction-viewed (at true_at) (operands_code true_at start (suc n)) ∙ ap (joined (at true_at) Conjunction) (operands-viewed true_at start (suc n))

module _ (last : ℕ) where
  chain-viewed : expression_of (chain_code last) ≡ chain last
  chain-viewed =
      let there = at (chain_start last + 1) in
      let true_at = chain_start last + 1 in
      let start = conclusion_start last in
      implication-viewed there (antecedent_code true_at (links_start last) last) (conclusion_code start last)
      ∙ (λ i. binary there Implication (antecedent-viewed true_at (links_start last) last i)
      (related-viewed (at (first_start start + 1)) Sub (first_start start) (name_of 0) (last_start start) (name_of last) i))

  outside-viewed : (start : ℕ) → expression_of (outside_code start last) ≡ outside start last
  outside-viewed start =
      let less = behind_name start (codes "x") in
      let y = behind_joining less in
      let next = behind_joining (behind_name y (codes "y")) in
      let set = behind_name next (codes "y") + 1 + 5 in
      let first : Expr = record { at = at (start + 1); form = form.Relation Less (name_code start (codes "x")) (name_code y (codes "y")) } in
      let second : Expr = record { at = at (next + 1); form = form.Relation NotMember (name_code next (codes "y")) (name_code set (name_of last)) } in
      conjunction-viewed (at (start + 1)) (first ∷ second ∷ [])
      ∙ (λ i. joined (at (start + 1)) Conjunction (and_expression (and_expression no_expressions (related-viewed (at (start + 1)) Less start (codes "x") y (codes "y") i))
      (related-viewed (at (next + 1)) NotMember next (codes "y") set (name_of last) i)))

  free-viewed : (start : ℕ) → expression_of (free_code start last) ≡ free start last
  free-viewed start =
      let x = start + 1 + 4 in
      let exists = behind_mark (behind_name x (codes "x")) in
      let y = exists + 1 + 3 in
      let body = behind_mark (behind_name y (codes "y")) in
      let inner : Expr = record { at = at (exists + 1); form = form.Bind Ex One (bound (at (y + 1)) One (codes "y") ∷ []) (outside_code body last) } in
      let inside : expression_of inner ≡ quantified (at (exists + 1)) Ex One (and_variable no_variables (at (y + 1)) One (codes "y") unrestricted) (outside body last) =
      binder-viewed (at (exists + 1)) Ex One (bound (at (y + 1)) One (codes "y") ∷ []) (outside_code body last)
      ∙ (λ i. quantified (at (exists + 1)) Ex One (one-variable (at (y + 1)) One (codes "y") i) (outside-viewed body i))
      in
      binder-viewed (at (start + 1)) All One (bound (at (x + 1)) One (codes "x") ∷ []) inner
      ∙ (λ i. quantified (at (start + 1)) All One (one-variable (at (x + 1)) One (codes "x") i) (inside i))

  pub source-viewed : document_of (source last) ≡ document last
  source-viewed = λ i. record {
    header = Some (at 0, Ws1s);
    declarations = record { at = at 6; declaration = variables (sets-viewed sets_start last i) }
        ∷ record { at = at (chain_start last + 1); declaration = formula (chain-viewed i) }
        ∷ record { at = at (free_start last + 1); declaration = formula (free-viewed (free_start last) i) }
        ∷ [];
  }

  -- and its declarations for those of the document
  pub items-viewed : map declared_of (source last).items ≡ (document last).declarations
  items-viewed = ap (λ (d : Document). d.declarations) source-viewed
