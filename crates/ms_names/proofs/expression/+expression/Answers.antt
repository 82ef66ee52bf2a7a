use Rattle.std.proofs.Common.{rules, ◌≡◌, ℕ, ◌++◌, ◌∷◌, [], List, length, map, Option, Some, refl, sym, subst, ap, ◌∙◌, arith, IfOk}
use Rattle.std.specs.Option.{option_map}
use Rattle.std.proofs.lemmas.List.{take_all}
use Rattle.std.proofs.lemmas.Result.{on_ok_weaker}
use Rattle.ms_logic.specs.declared.source.Bound.{Bound, out-Bound}
use Rattle.ms_logic.specs.declared.source.Expr.{Expr, out-Expr}
use Rattle.ms_logic.specs.declared.source.Form.{the_lemmas}
use Rattle.ms_logic.specs.declared.source.LetPart.{LetPart}
use Rattle.ms_logic.specs.Tree as tree
use Rattle.ms_logic.specs.View.{argument_of, declaration_of}
use Rattle.ms_names_rules.specs.declared.wanted.Wanted.{Wanted}
use Rattle.ms_parse_grammar.specs.Tree.{pconst, atom, prefixed, binary, joined, shifted, enclosed, listed, quantified, let_in, restricted}
use Rattle.ms_parse_grammar.specs.declared.operator.Prefix.TheVariants.{Negation, Minimum, Maximum}
use Rattle.ms_parse_grammar.specs.declared.operator.Binary.TheVariants.{Implication, Equivalence, Relation, Union, Intersection, Difference}
use Rattle.ms_parse_grammar.specs.declared.operator.Junction.TheVariants.{Conjunction, Disjunction}
use Rattle.ms_parse_grammar.specs.declared.operator.Bracket.TheVariants.{Emptiness, Restriction}
use Rattle.ms_parse_grammar.specs.declared.operator.Listing.TheVariants.{Literal, Call}
use Rattle.ms_names_rules.specs.Before.{after, after_all, after_parts}
use Rattle.ms_names_rules.specs.inner.Binder.{quantified_over, restricted_variables, sides_of, typed_sides}
use Rattle.ms_names_rules.specs.inner.Lists.{arguments_of, forms_of, terms_of}
use Rattle.ms_names_rules.specs.Order.{formula_wanted, number_wanted, order_of, wanted_on_the_left, wanted_on_the_right}
use Rattle.ms_names_rules.specs.Occurrence.{occurrences, inside_arguments, inside_parts}
use Rattle.ms_names_rules.specs.Reads.{readings_of_bounds, readings_of_call}
use Rattle.ms_names_rules.specs.Rules.{faults_of_bounds, faults_of_call, faults_of_parts}
use Rattle.ms_names_rules.specs.Scope.{meaning_of, count}
use Rattle.ms_names_rules.specs.Typed.{both, formula_behind, formula_in, number_behind, number_in, typed, typed_arguments, typed_formulas, typed_numbers}
use Rattle.ms_parse_grammar.specs.View.{variable_of, variables_of, expression_of, parts_of, expressions_of}
use Rattle.ms_names_rules.proofs.Lists.{count_of_bounds-length, count_of_parts-length, count-length}
use Rattle.ms_names_scopes.specs.inner.Found.{after_restrictions, passed}
use Rattle.ms_names.proofs.Lists.{arguments-next, arguments-typed, parts-passed, parts-typed, restrictions-next, restrictions-typed}
use Rattle.ms_names.proofs.Operands.{read-all, read-more, read-none}
use Rattle.ms_names_scopes.proofs.Findings.{passed-none, two-passed}
use Rattle.ms_names.proofs.Values.{call-value, let-value, quantified-value, restriction-value}
use Rattle.ms_names.proofs.Operations.{all-formed, all-typed, two-formed}
use Rattle.ms_names.proofs.Walk.{call-formed, formed-passed, handed_on, let-formed, on_ok, quantified-formed, same_expression}
use Rattle.ms_names.proofs.expression.+expression.Goals as goal
use Rattle.ms_names.proofs.FewParameters.{arguments-end, arguments-short}

pub expression-returns-clause-state : goal.expression-returns-clause-state
expression-returns-clause-state t c =
    on_ok_weaker c.form.result
    (formed-passed c.args.checker.now c.check_order.new.self c.form.new.checker c.args.wanted (expression_of c.args.e.now) c.check_order.ensures)
    c.form.ensures.state

-- operands

pub of_all-loop-operand-init : goal.of_all-loop-operand-init
of_all-loop-operand-init t c = read-none c.args.checker.now formula_wanted typed_formulas _ (ap (λ made. option_map forms_of (Some made)) c.new.ensures)

pub of_all-loop-operand-preserved : goal.of_all-loop-operand-preserved
of_all-loop-operand-preserved t c =
    read-more typed_formulas formula_behind formula_in (λ s b es e. refl) c.args.checker.now c.loop-operand.checker c.expression.new.checker formula_wanted c.args.operands.now c.loop-operand.operand-index c.operand-item.result
    (option_map forms_of c.loop-operand.made) (option_map forms_of c.in_ok-made.made) (option_map argument_of c.in_ok-value.value) (omega arith) c.operand-item.is c.loop-operand.invariant c.in_ok-value.ensures.state c.in_ok-value.ensures.value c.in_ok-made.ensures

pub of_all-returns-clause-state : goal.of_all-returns-clause-state
of_all-returns-clause-state t c =
    let all = read-all c.args.checker.now formula_wanted typed_formulas c.args.operands.now c.loop-operand.operand-index c.loop-operand.checker (option_map forms_of c.loop-operand.made) (omega arith) c.loop-operand.invariant in
    λ at. all-formed c.args.checker.now c.loop-operand.checker c.args.operation at (expressions_of c.args.operands.now) all.state

pub of_all-returns-clause-value : goal.of_all-returns-clause-value
of_all-returns-clause-value t c =
    let s = c.args.checker.now in
    let all = read-all s formula_wanted typed_formulas c.args.operands.now c.loop-operand.operand-index c.loop-operand.checker (option_map forms_of c.loop-operand.made) (omega arith) c.loop-operand.invariant in
    λ at. c.made.ensures ∙ all-typed s.scope s.before c.args.operation at (expressions_of c.args.operands.now) (option_map forms_of c.loop-operand.made) all.value

pub literal_of-loop-element-init : goal.literal_of-loop-element-init
literal_of-loop-element-init t c = read-none c.args.checker.now number_wanted typed_numbers _ (ap (λ made. option_map terms_of (Some made)) c.new.ensures)

pub literal_of-loop-element-preserved : goal.literal_of-loop-element-preserved
literal_of-loop-element-preserved t c =
    read-more typed_numbers number_behind number_in (λ s b es e. refl) c.args.checker.now c.loop-element.checker c.expression.new.checker number_wanted c.args.elements.now c.loop-element.element-index c.element-item.result
    (option_map terms_of c.loop-element.made) (option_map terms_of c.in_ok-made.made) (option_map argument_of c.in_ok-value.value) (omega arith) c.element-item.is c.loop-element.invariant c.in_ok-value.ensures.state c.in_ok-value.ensures.value c.in_ok-made.ensures

pub literal_of-returns-clause-state : goal.literal_of-returns-clause-state
literal_of-returns-clause-state t c = λ at.
    (read-all c.args.checker.now number_wanted typed_numbers c.args.elements.now c.loop-element.element-index c.loop-element.checker (option_map terms_of c.loop-element.made) (omega arith) c.loop-element.invariant).state

pub literal_of-returns-clause-value : goal.literal_of-returns-clause-value
literal_of-returns-clause-value t c =
    let all = read-all c.args.checker.now number_wanted typed_numbers c.args.elements.now c.loop-element.element-index c.loop-element.checker (option_map terms_of c.loop-element.made) (omega arith) c.loop-element.invariant in
    λ at. c.literal.ensures ∙ ap (option_map (λ ts. tree.set_argument (tree.literal ts))) all.value

-- arguments

pub arguments_for-loop-i-init : goal.arguments_for-loop-i-init
arguments_for-loop-i-init t c = record {
  state = passed-none c.args.checker.now;
  value = ap (λ made. option_map arguments_of (Some made)) c.new.ensures;
}

pub arguments_for-loop-i-preserved : goal.arguments_for-loop-i-preserved
arguments_for-loop-i-preserved t c =
    let s = c.args.checker.now in
    let t = c.loop-i.checker in
    let u = c.expression.new.checker in
    let i = c.loop-i.i in
    let ps = c.args.parameters.now in
    let es = c.args.arguments.now in
    let e = c.index-arguments-i.result in
    let o = c.parameter_at-order.result in
    let P : Wanted → Type 0 = λ w. u ≡ passed t (occurrences t.scope t.before w (expression_of e)) (after t.before (expression_of e)) in
    record {
      state =
          arguments-next s t u ps es i e o (omega arith) c.index-arguments-i.is c.parameter_at-order.ensures
          c.loop-i.invariant.state (subst P c.by_parameter.ensures c.in_ok-value.ensures.state);
      value =
          arguments-typed s t ps es i e o c.loop-i.made c.in_ok-made.made (option_map argument_of c.in_ok-value.value) (omega arith) c.index-arguments-i.is c.parameter_at-order.ensures
          c.loop-i.invariant.state c.loop-i.invariant.value c.in_ok-value.ensures.value c.in_ok-made.ensures;
    }

pub arguments_for-returns-then-arguments-parameters-clause-state : goal.arguments_for-returns-then-arguments-parameters-clause-state
arguments_for-returns-then-arguments-parameters-clause-state t c =
    let s = c.args.checker.now in
    let all = ap expressions_of (take_all c.loop-i.i c.args.arguments.now (omega arith)) in
    c.loop-i.invariant.state ∙ ap (λ es. passed s (inside_arguments s.scope s.before c.args.parameters.now es) (after_all s.before es)) all

pub arguments_for-returns-then-arguments-parameters-clause-value : goal.arguments_for-returns-then-arguments-parameters-clause-value
arguments_for-returns-then-arguments-parameters-clause-value t c =
    let s = c.args.checker.now in
    let es = c.args.arguments.now in
    let counted = count-length es in
    arguments-short (count (expressions_of es)) c.args.parameters.now (typed_arguments s.scope s.before c.args.parameters.now (expressions_of es)) (omega (arith, counted))

pub arguments_for-returns-clause-state : goal.arguments_for-returns-clause-state
arguments_for-returns-clause-state t c =
    let s = c.args.checker.now in
    let all = ap expressions_of (take_all c.loop-i.i c.args.arguments.now (omega arith)) in
    c.loop-i.invariant.state ∙ ap (λ es. passed s (inside_arguments s.scope s.before c.args.parameters.now es) (after_all s.before es)) all

pub arguments_for-returns-clause-value : goal.arguments_for-returns-clause-value
arguments_for-returns-clause-value t c =
    let s = c.args.checker.now in
    let es = c.args.arguments.now in
    let ps = c.args.parameters.now in
    let counted = count-length es in
    c.loop-i.invariant.value
    ∙ (ap (typed_arguments s.scope s.before ps) (ap expressions_of (take_all c.loop-i.i es (omega arith)))
    ∙ arguments-end s.scope s.before ps (expressions_of es) (omega (arith, counted)))

-- variables with their restrictions

pub variables-loop-bound-init : goal.variables-loop-bound-init
variables-loop-bound-init t c = record {
  state = passed-none c.args.checker.now;
  value = ap (λ items. Some (map declaration_of items)) c.new.ensures.items;
  number = omega arith;
}

pub variables-loop-bound-preserved : goal.variables-loop-bound-preserved
variables-loop-bound-preserved t c =
    let s = c.args.checker.now in
    let t = c.loop-bound.checker in
    let x = c.loop-bound.x in
    let i = c.loop-bound.bound-index in
    let vs = c.args.bounds.now in
    let v = c.bound-item.result in
    let number = c.loop-bound.invariant.number in
    record {
      state =
          restrictions-next s t c.one_variable.new.checker c.args.first x vs i v (omega arith) c.bound-item.is number
          c.loop-bound.invariant.state c.in_ok-made.ensures.state;
      value =
          restrictions-typed s t c.args.takes_defaults c.args.first x vs i v (option_map (λ ps. map declaration_of ps.items) c.loop-bound.made)
          (option_map (λ ps. map declaration_of ps.items) c.in_ok-made.made) (omega arith) c.bound-item.is number
          c.loop-bound.invariant.state c.loop-bound.invariant.value c.in_ok-made.ensures.value;
      number = omega (arith, number);
    }

pub variables-returns-clause-state : goal.variables-returns-clause-state
variables-returns-clause-state t c =
    c.loop-bound.invariant.state
    ∙ ap (λ vs. after_restrictions c.args.checker.now c.args.first (variables_of vs)) (take_all c.loop-bound.bound-index c.args.bounds.now (omega arith))

pub variables-returns-clause-value : goal.variables-returns-clause-value
variables-returns-clause-value t c =
    let s = c.args.checker.now in
    c.loop-bound.invariant.value
    ∙ ap (λ vs. restricted_variables c.args.takes_defaults s.scope c.args.first s.before (variables_of vs)) (take_all c.loop-bound.bound-index c.args.bounds.now (omega arith))

pub one_variable-returns-in_ok-value-in-Some-clause-value : goal.one_variable-returns-in_ok-value-in-Some-clause-value
one_variable-returns-in_ok-value-in-Some-clause-value t c =
    let v = c.args.bound.now in
    let e = expression_of c.get.result.now in
    let order : (out-Bound v).order ≡ (variable_of v).order = search (rules, the_lemmas) in
    let named : (out-Bound v).name ≡ (variable_of v).name = search (rules, the_lemmas) in
    let own : restricted e ≡ (variable_of v).domain = search (rules, the_lemmas) in
    let P : Option tree.Declaration → Type 0 = λ there.
    IfOk c.with_restricted.result (λ more. option_map (λ ps. map declaration_of ps.items) more
    ≡ both (λ front w. front ++ w ∷ []) (option_map (λ ps. map declaration_of ps.items) c.args.made) there) in
    subst P
    (restriction-value c.args.checker.now c.bind.new.self c.forbid_exports-allowed.new.self c.args.takes_defaults c.args.x (out-Bound v).order (variable_of v).order
    (out-Bound v).name (variable_of v).name e (variable_of v).domain (option_map argument_of c.in_ok-value-in-Some.value)
    order named own c.in_ok-bind.ensures c.forbid_exports-allowed.ensures.state c.in_ok-value-in-Some.ensures.value)
    c.with_restricted.ensures

-- the right sides of a `let`

pub right_sides-loop-part-init : goal.right_sides-loop-part-init
right_sides-loop-part-init t c = record {
  state = passed-none c.args.checker.now;
  value = ap (λ made. option_map sides_of (Some made)) c.new.ensures;
  number = omega arith;
}

pub right_sides-loop-part-preserved : goal.right_sides-loop-part-preserved
right_sides-loop-part-preserved t c =
    let s = c.args.checker.now in
    let t = c.loop-part.checker in
    let x = c.loop-part.x in
    let i = c.loop-part.part-index in
    let o = c.args.order in
    let ps = c.args.parts.now in
    let p = c.part-item.result in
    let number = c.loop-part.invariant.number in
    record {
      state =
          parts-passed s t c.expression.new.checker o ps i p (omega arith) c.part-item.is
          c.loop-part.invariant.state c.in_ok-value.ensures.state;
      value =
          parts-typed s t c.args.first x o ps i p c.loop-part.made c.in_ok-made.made (option_map argument_of c.in_ok-value.value) (omega arith) c.part-item.is number
          c.loop-part.invariant.state c.loop-part.invariant.value c.in_ok-value.ensures.value c.in_ok-made.ensures;
      number = omega (arith, number);
    }

pub right_sides-returns-clause-state : goal.right_sides-returns-clause-state
right_sides-returns-clause-state t c =
    let s = c.args.checker.now in
    c.loop-part.invariant.state
    ∙ ap (λ ps. passed s (inside_parts s.scope s.before c.args.order (parts_of ps)) (after_parts s.before (parts_of ps))) (take_all c.loop-part.part-index c.args.parts.now (omega arith))

pub right_sides-returns-clause-value : goal.right_sides-returns-clause-value
right_sides-returns-clause-value t c =
    let s = c.args.checker.now in
    c.loop-part.invariant.value
    ∙ ap (λ ps. typed_sides s.scope c.args.first s.before c.args.order (parts_of ps)) (take_all c.loop-part.part-index c.args.parts.now (omega arith))

-- the forms of expressions

pub of_two-returns-clause-state : goal.of_two-returns-clause-state
of_two-returns-clause-state t c =
    let s = c.args.checker.now in
    let r = c.expression.new.checker in
    let u = c.expression-2.new.checker in
    let e = expression_of c.args.left.now in
    let f = expression_of c.args.right.now in
    let L : Wanted → Type 0 = λ w. r ≡ passed s (occurrences s.scope s.before w e) (after s.before e) in
    let R : Wanted → Type 0 = λ w. u ≡ passed r (occurrences r.scope r.before w f) (after r.before f) in
    λ at. on_ok c.made.result (two-formed s r u c.args.operation at e f
    (subst L c.wanted.ensures c.in_ok-left.ensures.state) (subst R c.wanted-2.ensures c.in_ok-right.ensures.state))

pub related-returns-clause-state : goal.related-returns-clause-state
related-returns-clause-state t c =
    let s = c.args.checker.now in
    let r = c.expression.new.checker in
    let u = c.expression-2.new.checker in
    let rel = c.args.rel in
    let e = expression_of c.args.left.now in
    let f = expression_of c.args.right.now in
    let L : Wanted → Type 0 = λ w. r ≡ passed s (occurrences s.scope s.before w e) (after s.before e) in
    let R : Wanted → Type 0 = λ w. u ≡ passed r (occurrences r.scope r.before w f) (after r.before f) in
    λ at. two-passed s r u (wanted_on_the_left rel) (wanted_on_the_right rel (order_of s.scope e)) e f
    (subst L c.on_the_left.ensures c.in_ok-first.ensures.state)
    (subst R (c.on_the_right.ensures ∙ ap (wanted_on_the_right rel) c.order-order.ensures) c.in_ok-second.ensures.state)

pub call_of-returns-clause-state : goal.call_of-returns-clause-state
call_of-returns-clause-state t c =
    let s = c.args.checker.now in
    let es = c.args.arguments.now in
    call-formed s c.begin_call.new.self c.forbid_exports-allowed.new.self c.arguments_for.new.checker c.allow_exports.new.self c.args.at c.args.name.now (expressions_of es)
    (length es) c.slice.result.now c.forbid_exports-allowed.result
    (sym (count-length es)) (c.slice.ensures ∙ c.in_ok-parameters.ensures.parameters)
    c.in_ok-parameters.ensures.state c.forbid_exports-allowed.ensures.was c.forbid_exports-allowed.ensures.state
    c.in_ok-made.ensures.state c.allow_exports.ensures

pub call_of-returns-clause-value : goal.call_of-returns-clause-value
call_of-returns-clause-value t c =
    let s = c.args.checker.now in
    let n = c.args.name.now in
    let es = c.args.arguments.now in
    let q = c.forbid_exports-allowed.new.self in
    let ps = c.slice.result.now in
    call-value s c.begin_call.new.self q c.arguments_for.new.checker c.allow_exports.new.self
    (faults_of_call c.args.at n (length es) (meaning_of s.scope n)) (readings_of_call (meaning_of s.scope n))
    (inside_arguments q.scope q.before ps (expressions_of es)) (after_all q.before (expressions_of es))
    c.args.at n (expressions_of es) (length es) ps c.forbid_exports-allowed.result (option_map arguments_of c.in_ok-made.made) (option_map argument_of c.called.result)
    (sym (count-length es)) (c.slice.ensures ∙ c.in_ok-parameters.ensures.parameters)
    c.in_ok-parameters.ensures.state c.forbid_exports-allowed.ensures.state c.in_ok-made.ensures.state c.allow_exports.ensures
    c.in_ok-made.ensures.value c.called.ensures

pub binder-returns-clause-state : goal.binder-returns-clause-state
binder-returns-clause-state t c =
    let s = c.args.checker.now in
    let vs = c.args.bounds.now in
    let e = expression_of c.args.body.now in
    λ at o. on_ok_weaker c.under_variables.result
    (quantified-formed s c.begin_bounds.new.self c.variables.new.checker c.under_variables.new.checker at c.args.quant o (variables_of vs) e c.in_ok-first.first (length vs)
    c.in_ok-first.ensures.first (sym (count_of_bounds-length vs)) c.in_ok-first.ensures.state c.in_ok-made.ensures.state)
    c.under_variables.ensures.state

pub binder-returns-clause-value : goal.binder-returns-clause-value
binder-returns-clause-value t c =
    let s = c.args.checker.now in
    let vs = c.args.bounds.now in
    let e = expression_of c.args.body.now in
    let made = option_map (λ ps. map declaration_of ps.items) c.in_ok-made.made in
    let t = c.variables.new.checker in
    λ at o. handed_on c.under_variables.result (option_map (λ f. tree.truth_argument f) (both (quantified_over c.args.quant) made (formula_in (typed t.scope t.before e))))
    (typed s.scope s.before (quantified at c.args.quant o (variables_of vs) e)) c.under_variables.ensures.value
    (quantified-value s c.begin_bounds.new.self t (faults_of_bounds [] (variables_of vs)) (readings_of_bounds s.scope (variables_of vs)) at c.args.quant o
    (variables_of vs) e c.in_ok-first.first made c.in_ok-first.ensures.first c.in_ok-first.ensures.state c.in_ok-made.ensures.state c.in_ok-made.ensures.value)

pub let_in-returns-clause-state : goal.let_in-returns-clause-state
let_in-returns-clause-state t c =
    let s = c.args.checker.now in
    let ps = c.args.parts.now in
    let e = expression_of c.args.body.now in
    λ at. on_ok_weaker c.under_names.result
    (let-formed s c.check_parts.new.self c.number_names.new.self c.forbid_exports-allowed.new.self c.right_sides.new.checker c.bind_parts.new.self c.under_names.new.checker
    at c.args.order (parts_of ps) e c.in_ok-first.first (length ps) c.forbid_exports-allowed.result
    c.in_ok-first.ensures.first (sym (count_of_parts-length ps)) c.in_ok-check_parts.ensures c.in_ok-first.ensures.state
    c.forbid_exports-allowed.ensures.was c.forbid_exports-allowed.ensures.state c.in_ok-made.ensures.state c.in_ok-bind_parts.ensures)
    c.under_names.ensures.state

pub let_in-returns-clause-value : goal.let_in-returns-clause-value
let_in-returns-clause-value t c =
    let s = c.args.checker.now in
    let q = c.forbid_exports-allowed.new.self in
    let o = c.args.order in
    let ps = c.args.parts.now in
    let e = expression_of c.args.body.now in
    let sides = option_map sides_of c.in_ok-made.made in
    let w = c.bind_parts.new.self in
    λ at. handed_on c.under_names.result
    (both (λ (there : List ℕ × tree.Arguments) (f : tree.Form). tree.truth_argument (tree.where_let there.0 there.1 f)) sides (formula_in (typed w.scope w.before e)))
    (typed s.scope s.before (let_in at o (parts_of ps) e)) c.under_names.ensures.value
    (let-value s c.check_parts.new.self c.number_names.new.self q c.right_sides.new.checker w (faults_of_parts [] (parts_of ps))
    (inside_parts q.scope q.before o (parts_of ps)) at o (parts_of ps) e c.in_ok-first.first (length ps) sides
    c.in_ok-first.ensures.first (sym (count_of_parts-length ps)) c.in_ok-check_parts.ensures c.in_ok-first.ensures.state
    c.forbid_exports-allowed.ensures.state c.in_ok-made.ensures.state c.in_ok-bind_parts.ensures c.in_ok-made.ensures.value)

-- an expression by its form

pub form-returns-in-Pconst : goal.form-returns-in-Pconst
form-returns-in-Pconst t c =
    let at = (out-Expr c.args.e.now).at in
    same_expression c.lone_pconst.result c.args.checker.now c.lone_pconst.new.checker (atom at (pconst c.in-Pconst.int)) (expression_of c.args.e.now)
    (search (rules, the_lemmas)) (c.lone_pconst.ensures.state at) (c.lone_pconst.ensures.value at)

pub form-returns-in-Literal : goal.form-returns-in-Literal
form-returns-in-Literal t c =
    let at = (out-Expr c.args.e.now).at in
    let own : listed at Literal (expressions_of c.in-Literal.elements) ≡ expression_of c.args.e.now = search (rules, the_lemmas) in
    same_expression c.literal_of.result c.args.checker.now c.literal_of.new.checker (listed at Literal (expressions_of c.slice.result.now)) (expression_of c.args.e.now)
    (ap (λ (there : List Expr). listed at Literal (expressions_of there)) c.slice.ensures ∙ own) (c.literal_of.ensures.state at) (c.literal_of.ensures.value at)

pub form-returns-in-Call : goal.form-returns-in-Call
form-returns-in-Call t c =
    let at = (out-Expr c.args.e.now).at in
    let own : listed at (Call c.in-Call.name) (expressions_of c.in-Call.arguments) ≡ expression_of c.args.e.now = search (rules, the_lemmas) in
    same_expression c.call_of.result c.args.checker.now c.call_of.new.checker (listed at (Call c.in-Call.name) (expressions_of c.slice-in-Call.result.now)) (expression_of c.args.e.now)
    (ap (λ (there : List Expr). listed at (Call c.in-Call.name) (expressions_of there)) c.slice-in-Call.ensures ∙ own) c.call_of.ensures.state c.call_of.ensures.value

pub form-returns-in-Not : goal.form-returns-in-Not
form-returns-in-Not t c =
    let at = (out-Expr c.args.e.now).at in
    same_expression c.of_one.result c.args.checker.now c.of_one.new.checker (prefixed at Negation (expression_of c.get-in-Not.result.now)) (expression_of c.args.e.now)
    (search (rules, the_lemmas)) (c.of_one.ensures.state at) (c.of_one.ensures.value at)

pub form-returns-in-And : goal.form-returns-in-And
form-returns-in-And t c =
    let at = (out-Expr c.args.e.now).at in
    let own : joined at Conjunction (expressions_of c.in-And.operands) ≡ expression_of c.args.e.now = search (rules, the_lemmas) in
    same_expression c.of_all.result c.args.checker.now c.of_all.new.checker (joined at Conjunction (expressions_of c.slice-in-And.result.now)) (expression_of c.args.e.now)
    (ap (λ (there : List Expr). joined at Conjunction (expressions_of there)) c.slice-in-And.ensures ∙ own) (c.of_all.ensures.state at) (c.of_all.ensures.value at)

pub form-returns-in-Or : goal.form-returns-in-Or
form-returns-in-Or t c =
    let at = (out-Expr c.args.e.now).at in
    let own : joined at Disjunction (expressions_of c.in-Or.operands) ≡ expression_of c.args.e.now = search (rules, the_lemmas) in
    same_expression c.of_all-in-Or.result c.args.checker.now c.of_all-in-Or.new.checker (joined at Disjunction (expressions_of c.slice-in-Or.result.now)) (expression_of c.args.e.now)
    (ap (λ (there : List Expr). joined at Disjunction (expressions_of there)) c.slice-in-Or.ensures ∙ own) (c.of_all-in-Or.ensures.state at) (c.of_all-in-Or.ensures.value at)

pub form-returns-in-Implies : goal.form-returns-in-Implies
form-returns-in-Implies t c =
    let at = (out-Expr c.args.e.now).at in
    same_expression c.of_two.result c.args.checker.now c.of_two.new.checker (binary at Implication (expression_of c.get-in-Implies.result.now) (expression_of c.get-in-Implies-2.result.now)) (expression_of c.args.e.now)
    (search (rules, the_lemmas)) (c.of_two.ensures.state at) (c.of_two.ensures.value at)

pub form-returns-in-Iff : goal.form-returns-in-Iff
form-returns-in-Iff t c =
    let at = (out-Expr c.args.e.now).at in
    same_expression c.of_two-in-Iff.result c.args.checker.now c.of_two-in-Iff.new.checker (binary at Equivalence (expression_of c.get-in-Iff.result.now) (expression_of c.get-in-Iff-2.result.now)) (expression_of c.args.e.now)
    (search (rules, the_lemmas)) (c.of_two-in-Iff.ensures.state at) (c.of_two-in-Iff.ensures.value at)

pub form-returns-in-Relation : goal.form-returns-in-Relation
form-returns-in-Relation t c =
    let at = (out-Expr c.args.e.now).at in
    same_expression c.related.result c.args.checker.now c.related.new.checker (binary at (Relation c.in-Relation.rel) (expression_of c.get-in-Relation.result.now) (expression_of c.get-in-Relation-2.result.now)) (expression_of c.args.e.now)
    (search (rules, the_lemmas)) (c.related.ensures.state at) (c.related.ensures.value at)

pub form-returns-in-IsEmpty : goal.form-returns-in-IsEmpty
form-returns-in-IsEmpty t c =
    let at = (out-Expr c.args.e.now).at in
    same_expression c.of_one-in-IsEmpty.result c.args.checker.now c.of_one-in-IsEmpty.new.checker (enclosed at Emptiness (expression_of c.get-in-IsEmpty.result.now)) (expression_of c.args.e.now)
    (search (rules, the_lemmas)) (c.of_one-in-IsEmpty.ensures.state at) (c.of_one-in-IsEmpty.ensures.value at)

pub form-returns-in-Union : goal.form-returns-in-Union
form-returns-in-Union t c =
    let at = (out-Expr c.args.e.now).at in
    same_expression c.of_two-in-Union.result c.args.checker.now c.of_two-in-Union.new.checker (binary at Union (expression_of c.get-in-Union.result.now) (expression_of c.get-in-Union-2.result.now)) (expression_of c.args.e.now)
    (search (rules, the_lemmas)) (c.of_two-in-Union.ensures.state at) (c.of_two-in-Union.ensures.value at)

pub form-returns-in-Inter : goal.form-returns-in-Inter
form-returns-in-Inter t c =
    let at = (out-Expr c.args.e.now).at in
    same_expression c.of_two-in-Inter.result c.args.checker.now c.of_two-in-Inter.new.checker (binary at Intersection (expression_of c.get-in-Inter.result.now) (expression_of c.get-in-Inter-2.result.now)) (expression_of c.args.e.now)
    (search (rules, the_lemmas)) (c.of_two-in-Inter.ensures.state at) (c.of_two-in-Inter.ensures.value at)

pub form-returns-in-Minus : goal.form-returns-in-Minus
form-returns-in-Minus t c =
    let at = (out-Expr c.args.e.now).at in
    same_expression c.of_two-in-Minus.result c.args.checker.now c.of_two-in-Minus.new.checker (binary at Difference (expression_of c.get-in-Minus.result.now) (expression_of c.get-in-Minus-2.result.now)) (expression_of c.args.e.now)
    (search (rules, the_lemmas)) (c.of_two-in-Minus.ensures.state at) (c.of_two-in-Minus.ensures.value at)

pub form-returns-in-Shift : goal.form-returns-in-Shift
form-returns-in-Shift t c =
    let at = (out-Expr c.args.e.now).at in
    same_expression c.shifted.result c.args.checker.now c.shifted.new.checker (shifted at (expression_of c.get-in-Shift.result.now) c.in-Shift.int) (expression_of c.args.e.now)
    (search (rules, the_lemmas)) (c.shifted.ensures.state at) (c.shifted.ensures.value at)

pub form-returns-in-Min : goal.form-returns-in-Min
form-returns-in-Min t c =
    let at = (out-Expr c.args.e.now).at in
    same_expression c.of_one-in-Min.result c.args.checker.now c.of_one-in-Min.new.checker (prefixed at Minimum (expression_of c.get-in-Min.result.now)) (expression_of c.args.e.now)
    (search (rules, the_lemmas)) (c.of_one-in-Min.ensures.state at) (c.of_one-in-Min.ensures.value at)

pub form-returns-in-Max : goal.form-returns-in-Max
form-returns-in-Max t c =
    let at = (out-Expr c.args.e.now).at in
    same_expression c.of_one-in-Max.result c.args.checker.now c.of_one-in-Max.new.checker (prefixed at Maximum (expression_of c.get-in-Max.result.now)) (expression_of c.args.e.now)
    (search (rules, the_lemmas)) (c.of_one-in-Max.ensures.state at) (c.of_one-in-Max.ensures.value at)

pub form-returns-in-Bind : goal.form-returns-in-Bind
form-returns-in-Bind t c =
    let at = (out-Expr c.args.e.now).at in
    let own : quantified at c.in-Bind.quant c.in-Bind.field-1 (variables_of c.in-Bind.bounds) (expression_of c.get-in-Bind.result.now) ≡ expression_of c.args.e.now = search (rules, the_lemmas) in
    same_expression c.binder.result c.args.checker.now c.binder.new.checker (quantified at c.in-Bind.quant c.in-Bind.field-1 (variables_of c.slice-in-Bind.result.now) (expression_of c.get-in-Bind.result.now)) (expression_of c.args.e.now)
    (ap (λ (there : List Bound). quantified at c.in-Bind.quant c.in-Bind.field-1 (variables_of there) (expression_of c.get-in-Bind.result.now)) c.slice-in-Bind.ensures ∙ own) (c.binder.ensures.state at c.in-Bind.field-1) (c.binder.ensures.value at c.in-Bind.field-1)

pub form-returns-in-Let : goal.form-returns-in-Let
form-returns-in-Let t c =
    let at = (out-Expr c.args.e.now).at in
    let own : let_in at c.in-Let.order (parts_of c.in-Let.parts) (expression_of c.get-in-Let.result.now) ≡ expression_of c.args.e.now = search (rules, the_lemmas) in
    same_expression c.let_in.result c.args.checker.now c.let_in.new.checker (let_in at c.in-Let.order (parts_of c.slice-in-Let.result.now) (expression_of c.get-in-Let.result.now)) (expression_of c.args.e.now)
    (ap (λ (there : List LetPart). let_in at c.in-Let.order (parts_of there) (expression_of c.get-in-Let.result.now)) c.slice-in-Let.ensures ∙ own) (c.let_in.ensures.state at) (c.let_in.ensures.value at)

pub form-returns-in-Restrict : goal.form-returns-in-Restrict
form-returns-in-Restrict t c =
    let at = (out-Expr c.args.e.now).at in
    same_expression c.of_one-in-Restrict.result c.args.checker.now c.of_one-in-Restrict.new.checker (enclosed at Restriction (expression_of c.get-in-Restrict.result.now)) (expression_of c.args.e.now)
    (search (rules, the_lemmas)) (c.of_one-in-Restrict.ensures.state at) (c.of_one-in-Restrict.ensures.value at)
