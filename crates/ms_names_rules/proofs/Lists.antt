-- Lists that are gone through item by item: what is found so far, and with one more item.
use Rattle.std.proofs.Common.{◌≡◌, ℕ, ◌+◌, Bool, true, false, List, [], ◌∷◌, ◌++◌, length, map, Option, Some, None, refl, sym, ap, ◌∙◌, arith, add-zero}
use Rattle.std.specs.Option.{option_map, option_and_then}
use Rattle.std.proofs.lemmas.List.{append-nil}
use Rattle.ms_list.specs.declared.at.At.{At}
use Rattle.ms_logic.specs.declared.formula.Arg.{Arg}
use Rattle.ms_logic.specs.declared.formula.Binding.{Binding}
use Rattle.ms_logic.specs.declared.mode.Order.{Order}
use Rattle.ms_logic.specs.declared.mode.Order.TheVariants.{Zero, One, Two}
use Rattle.ms_logic.specs.declared.mode.Quant.{Quant}
use Rattle.ms_logic.specs.declared.source.Bound.{Bound}
use Rattle.ms_logic.specs.declared.source.Expr.{Expr}
use Rattle.ms_logic.specs.declared.source.LetPart.{LetPart}
use Rattle.ms_logic.specs.Tree as tree
use Rattle.ms_logic.specs.Tree.{Form, Restriction, Argument, Arguments, more_arguments}
use Rattle.ms_logic.specs.View.{arguments, argument_of, binding_of}
use Rattle.ms_names_rules.specs.Scope.{Bytes, Scope, count_of_bounds, count_of_parts, count, under_bounds}
use Rattle.ms_parse_grammar.specs.Tree.{Expression, Expressions, no_expressions, and_expression, Variables, no_variables, and_variable, Domain, unrestricted, restricted, and_part, Parts, no_parts}
use Rattle.ms_names_rules.specs.Before.{Before, after_bounds}
use Rattle.ms_names_rules.specs.inner.Binder.{default_for, quantified_over, restricted_variable, restricted_variables, restriction_in, sides_of}
use Rattle.ms_names_rules.specs.inner.Lists.{arguments_of}
use Rattle.ms_names_rules.specs.Reads.{readings_of_bounds, readings_of_default}
use Rattle.ms_names_rules.specs.Typed.{both, formula_in, number_in, set_in, of_order, quantifier, typed, typed_domain, typed_quantifiers, typed_restriction, argument_behind}
use Rattle.ms_names_rules.specs.TypedSource.{parameters_of_bounds, restriction_of_parameter}
use Rattle.ms_parse_grammar.specs.View.{variable_of, variables_of, expression_of, part_of, parts_of, expressions_of, expressions_behind, parts_behind, variables_behind}
use Rattle.ms_names_rules.proofs.Operands.{arguments-more}

-- lengths

count-behind : (before : Expressions) (es : List Expr) → count (expressions_behind before (map expression_of es)) ≡ count before + length es
count-behind before [] = sym (add-zero (count before))
count-behind before (e ∷ es) = let rest = count-behind (and_expression before (expression_of e)) es in omega (arith, rest)

pub count-length : (es : List Expr) → count (expressions_of es) ≡ length es
count-length es = let all = count-behind no_expressions es in omega (arith, all)

bounds-behind : (before : Variables) (vs : List Bound) → count_of_bounds (variables_behind before (map variable_of vs)) ≡ count_of_bounds before + length vs
bounds-behind before [] = sym (add-zero (count_of_bounds before))
bounds-behind before (v ∷ vs) =
    let rest = bounds-behind (and_variable before (variable_of v).at (variable_of v).order (variable_of v).name (variable_of v).domain) vs in
    omega (arith, rest)

pub count_of_bounds-length : (vs : List Bound) → count_of_bounds (variables_of vs) ≡ length vs
count_of_bounds-length vs = let all = bounds-behind no_variables vs in omega (arith, all)

parts-count-behind : (before : Parts) (ps : List LetPart) → count_of_parts (parts_behind before (map part_of ps)) ≡ count_of_parts before + length ps
parts-count-behind before [] = sym (add-zero (count_of_parts before))
parts-count-behind before (p ∷ ps) =
    let rest = parts-count-behind (and_part before (part_of p).at (part_of p).name (part_of p).value) ps in
    omega (arith, rest)

pub count_of_parts-length : (ps : List LetPart) → count_of_parts (parts_of ps) ≡ length ps
count_of_parts-length ps = let all = parts-count-behind no_parts ps in omega (arith, all)

-- arguments

pub pushed-arguments : (found : Option (List Argument)) (a : Option Argument) →
    option_map (λ front. arguments front) (both (λ front b. front ++ b ∷ []) found a) ≡ both argument_behind (option_map (λ front. arguments front) found) a
pushed-arguments None a = refl
pushed-arguments (Some front) None = refl
pushed-arguments (Some front) (Some a) = ap Some (arguments-more front a)

pub made-arguments : (made : Option (List Arg)) →
    option_map (λ front. arguments front) (option_map (map argument_of) made) ≡ option_map arguments_of made
made-arguments None = refl
made-arguments (Some given) = refl

-- the right sides of a `let`

-- numbers and arguments apart
abbrev pub apart : List (ℕ × Argument) → List ℕ × Arguments
apart found = (map (λ p. p.0) found, arguments (map (λ p. p.1) found))

apart-more : (front : List (ℕ × Argument)) (x : ℕ) (a : Argument) → apart (front ++ (x, a) ∷ []) ≡ ((apart front).0 ++ x ∷ [], argument_behind (apart front).1 a)
apart-more [] x a = refl
apart-more (p ∷ front) x a = ap (λ sides. (p.0 ∷ sides.0, more_arguments p.1 sides.1)) (apart-more front x a)

pub pushed-sides : (found : Option (List (ℕ × Argument))) (x : ℕ) (a : Option Argument) (ns : List ℕ) (sides : Option Arguments) →
    option_map apart found ≡ option_map (λ there. (ns, there)) sides →
    option_map apart (both (λ front b. front ++ (x, b) ∷ []) found a) ≡ option_map (λ there. (ns ++ x ∷ [], there)) (both argument_behind sides a)
pushed-sides None x a ns None h = refl
pushed-sides None x a ns (Some sides) h = absurd (cc)
pushed-sides (Some front) x a ns None h = absurd (cc)
pushed-sides (Some front) x None ns (Some sides) h = refl
pushed-sides (Some front) x (Some a) ns (Some sides) h =
    let same : apart front ≡ (ns, sides) = cc in
    ap Some (apart-more front x a ∙ ap (λ there. (there.0 ++ x ∷ [], argument_behind there.1 a)) same)

pub made-sides : (made : Option (List Binding)) → option_map apart (option_map (map binding_of) made) ≡ option_map sides_of made
made-sides None = refl
made-sides (Some bindings) = refl

-- variables with their restrictions

pub pushed-variable : (found : Option (List tree.Declaration)) (x : ℕ) (o : Order) (r : Option Restriction) →
    both (λ front v. front ++ v ∷ []) found (option_map (restricted_variable x o) r) ≡ both (λ earlier there. earlier ++ restricted_variable x o there ∷ []) found r
pushed-variable None x o r = refl
pushed-variable (Some front) x o None = refl
pushed-variable (Some front) x o (Some r) = refl

pub restriction-own : (takes_defaults : Bool) (s : Scope) (b : Before) (o : Order) (x : ℕ) (e : Expression) →
    typed_restriction (typed s b e) ≡ restriction_in takes_defaults s b o x (restricted e)
restriction-own true s b o x e = refl
restriction-own false s b o x e = refl

-- the readings of defaults
pub default-readings : (s : Scope) (at : At) (o : Order) (n : Bytes) (d : Domain) (vs : Variables) →
    readings_of_bounds s vs ++ readings_of_default (default_for s o d) ≡ readings_of_bounds s (and_variable vs at o n d)
default-readings s at o n unrestricted vs = refl
default-readings s at o n (restricted e) vs = append-nil (readings_of_bounds s vs)

-- quantifiers

pub quantified_over-more : (q : Quant) (vs : List tree.Declaration) (v : tree.Declaration) (f : Form) →
    quantified_over q vs (quantified_over q (v ∷ []) f) ≡ quantified_over q (vs ++ v ∷ []) f
quantified_over-more q [] v f = refl
quantified_over-more q (first ∷ vs) v f =
    ap (tree.quantified q first.variable.order first.variable.name first.restriction) (quantified_over-more q vs v f)

quantifier-all : (q : Quant) (x : ℕ) (o : Order) (r : Option Restriction) (vs : Option (List tree.Declaration)) (f : Option Form) →
    both (quantified_over q) vs (quantifier q o x r f) ≡ both (quantified_over q) (both (λ earlier there. earlier ++ restricted_variable x o there ∷ []) vs r) f
quantifier-all q x o r None f = refl
quantifier-all q x o None (Some vs) f = refl
quantifier-all q x o (Some r) (Some vs) None = refl
quantifier-all q x o (Some r) (Some vs) (Some f) = ap Some (quantified_over-more q vs (restricted_variable x o r) f)

none-quantified : (q : Quant) (f : Option Form) → f ≡ both (quantified_over q) (Some []) f
none-quantified q None = refl
none-quantified q (Some f) = refl

pub quantifiers-all : (s : Scope) (x : ℕ) (b : Before) (q : Quant) (vs : Variables) (f : Option Form) →
    typed_quantifiers s x b q vs f ≡ both (quantified_over q) (restricted_variables true s x b vs) f
quantifiers-all s x b q no_variables f = none-quantified q f
quantifiers-all s x b q (and_variable vs at o n d) f =
    let y = x + count_of_bounds vs in
    let r = typed_domain (under_bounds s x (and_variable vs at o n d)) (after_bounds b vs) o y d in
    quantifiers-all s x b q vs (quantifier q o y r f) ∙ quantifier-all q y o r (restricted_variables true s x b vs) f

-- parameters take no defaults
pub parameters-all : (s : Scope) (x : ℕ) (b : Before) (vs : Variables) → parameters_of_bounds s x b vs ≡ restricted_variables false s x b vs
parameters-all s x b no_variables = refl
parameters-all s x b (and_variable vs at o n d) =
    let r = restriction_of_parameter (under_bounds s x (and_variable vs at o n d)) (after_bounds b vs) d in
    ap (λ earlier. both (λ there p. there ++ restricted_variable (x + count_of_bounds vs) o p ∷ []) earlier r) (parameters-all s x b vs)

-- what is of an order

pub of_order-zero : (a : Option Argument) → option_map (λ f. tree.truth_argument f) (formula_in a) ≡ option_and_then (of_order Zero) a
of_order-zero None = refl
of_order-zero (Some (tree.truth_argument f)) = refl
of_order-zero (Some (tree.number_argument t)) = refl
of_order-zero (Some (tree.set_argument s)) = refl

pub of_order-one : (a : Option Argument) → option_map (λ t. tree.number_argument t) (number_in a) ≡ option_and_then (of_order One) a
of_order-one None = refl
of_order-one (Some (tree.truth_argument f)) = refl
of_order-one (Some (tree.number_argument t)) = refl
of_order-one (Some (tree.set_argument s)) = refl

pub of_order-two : (a : Option Argument) → option_map (λ s. tree.set_argument s) (set_in a) ≡ option_and_then (of_order Two) a
of_order-two None = refl
of_order-two (Some (tree.truth_argument f)) = refl
of_order-two (Some (tree.number_argument t)) = refl
of_order-two (Some (tree.set_argument s)) = refl
