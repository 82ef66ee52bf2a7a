-- Lists that are gone through item by item: what is found so far, and with one more item.
use Rattle.std.proofs.Common.{rules, ◌≡◌, ℕ, ◌+◌, Bool, List, [], ◌∷◌, ◌++◌, Option, ap, ◌∙◌, arith, get_or, length, map, slice_get, subst, sym, take, ◌<◌}
use Rattle.std.specs.Option.{option_map, option_and_then}
use Rattle.ms_logic.specs.declared.mode.Order.{Order}
use Rattle.ms_logic.specs.Tree as tree
use Rattle.ms_logic.specs.Tree.{Argument}
use Rattle.ms_names_rules.specs.declared.meaning.Meaning.TheVariants.{Variable}
use Rattle.ms_names_rules.specs.declared.wanted.Wanted.{Wanted}
use Rattle.ms_names_rules.specs.declared.wanted.Wanted.TheVariants.{Exactly}
use Rattle.ms_names_rules.specs.Scope.{bind, under_bounds, without_exports, Scope, count, count_of_bounds, count_of_parts}
use Rattle.ms_parse_grammar.specs.Tree.{Expression}
use Rattle.ms_names_rules.specs.Before.{after, after_all, after_bounds, after_domain, after_parts, Before}
use Rattle.ms_names_rules.specs.inner.Binder.{restricted_variable, restricted_variables, restriction_in, sides_of, typed_sides}
use Rattle.ms_names_rules.specs.Occurrence.{occurrences, inside_arguments, inside_bounds, inside_domain, inside_parts, Occurrence}
use Rattle.ms_names_rules.specs.Order.{wanted_by}
use Rattle.ms_names_rules.specs.Typed.{both, numbers_of_parts, of_order, typed, typed_arguments, typed_parts, argument_for, argument_behind}
use Rattle.ms_names_scopes.specs.inner.Found.{after_restriction, after_restrictions, Found, passed}
use Rattle.ms_names_scopes.proofs.Findings.{passed-passed}
use Rattle.ms_names_rules.proofs.Operands.{parts-more, taken-more, variables-more}
use Rattle.ms_parse_grammar.specs.View.{expression_of, expressions_of, part_of, parts_of, variable_of, variables_of}
use Rattle.ms_logic.specs.View.{argument_of, arguments, binding_of}
use Rattle.ms_names_rules.proofs.Lists.{apart, count-length, count_of_bounds-length, count_of_parts-length, made-arguments, made-sides, pushed-arguments, pushed-sides, pushed-variable}
use Rattle.ms_logic.specs.declared.source.LetPart.{LetPart, out-LetPart}
use Rattle.ms_logic.specs.declared.source.Expr.{Expr}
use Rattle.ms_logic.specs.declared.source.Form.{the_lemmas}
use Rattle.ms_names_rules.specs.inner.Lists.{arguments_of}
use Rattle.ms_names_rules.proofs.Exports.{both-same}
use Rattle.ms_logic.specs.declared.source.Bound.{Bound}
use Rattle.ms_logic.specs.declared.formula.Binding.{Binding}
use Rattle.std.proofs.lemmas.List.{length-take}
use Rattle.ms_logic.specs.declared.formula.Arg.{Arg}

count-taken : (es : List Expr) (i : ℕ) → i < length es → i ≡ count (expressions_of (take i es))
count-taken es i below =
    let counted = count-length (take i es) in
    let taken = length-take i es in
    omega (arith, counted, taken, below)

-- after some expressions and one more
pub passed-then : (s t u : Found) (os : List Occurrence) (b : Before) (w : Wanted) (e : Expression) → t ≡ passed s os b →
    u ≡ passed t (occurrences t.scope t.before w e) (after t.before e) → u ≡ passed s (os ++ occurrences s.scope b w e) (after b e)
passed-then s t u os b w e first second =
    let P : Found → Type 0 = λ there. u ≡ passed there (occurrences there.scope there.before w e) (after there.before e) in
    subst P first second ∙ passed-passed s os (occurrences s.scope b w e) b (after b e)

-- what stands behind some expressions becomes the same there
pub typed-then : (s t : Found) (os : List Occurrence) (b : Before) (e : Expression) (value : Option Argument) → t ≡ passed s os b →
    value ≡ typed t.scope t.before e → value ≡ typed s.scope b e
typed-then s t os b e value first here = here ∙ ap (λ (there : Found). typed there.scope there.before e) first

-- arguments

pub arguments-next : (s t u : Found) (ps : List Order) (es : List Expr) (i : ℕ) (e : Expr) (o : Option Order) → i < length es → e ≡ get_or es i e →
    o ≡ slice_get ps i →
    t ≡ passed s (inside_arguments s.scope s.before ps (expressions_of (take i es))) (after_all s.before (expressions_of (take i es))) →
    u ≡ passed t (occurrences t.scope t.before (wanted_by o) (expression_of e)) (after t.before (expression_of e)) →
    u ≡ passed s (inside_arguments s.scope s.before ps (expressions_of (take (i + 1) es))) (after_all s.before (expressions_of (take (i + 1) es)))
arguments-next s t u ps es i e o below is parameter before here =
    let E = expressions_of (take i es) in
    let os = inside_arguments s.scope s.before ps E in
    let b = after_all s.before E in
    passed-then s t u os b (wanted_by o) (expression_of e) before here
    ∙ (ap (λ p. passed s (os ++ occurrences s.scope b (wanted_by p) (expression_of e)) (after b (expression_of e))) (parameter ∙ ap (slice_get ps) (count-taken es i below))
    ∙ ap (λ all. passed s (inside_arguments s.scope s.before ps all) (after_all s.before all)) (taken-more es i e below is))

pub arguments-typed : (s t : Found) (ps : List Order) (es : List Expr) (i : ℕ) (e : Expr) (o : Option Order) (made more : Option (List Arg)) (value : Option Argument) →
    i < length es → e ≡ get_or es i e → o ≡ slice_get ps i →
    t ≡ passed s (inside_arguments s.scope s.before ps (expressions_of (take i es))) (after_all s.before (expressions_of (take i es))) →
    option_map arguments_of made ≡ typed_arguments s.scope s.before ps (expressions_of (take i es)) →
    value ≡ typed t.scope t.before (expression_of e) →
    option_map (map argument_of) more ≡ both (λ front a. front ++ a ∷ []) (option_map (map argument_of) made) (argument_for o value) →
    option_map arguments_of more ≡ typed_arguments s.scope s.before ps (expressions_of (take (i + 1) es))
arguments-typed s t ps es i e o made more value below is parameter before so_far here added =
    let E = expressions_of (take i es) in
    let b = after_all s.before E in
    let value_is = typed-then s t (inside_arguments s.scope s.before ps E) b (expression_of e) value before here in
    sym (made-arguments more)
    ∙ (ap (option_map (λ front. arguments front)) added
    ∙ (pushed-arguments (option_map (map argument_of) made) (argument_for o value)
    ∙ (both-same argument_behind (made-arguments made ∙ so_far)
    (ap (argument_for o) value_is ∙ ap (λ p. argument_for p (typed s.scope b (expression_of e))) (parameter ∙ ap (slice_get ps) (count-taken es i below)))
    ∙ ap (typed_arguments s.scope s.before ps) (taken-more es i e below is))))

-- the right sides of a `let`

part_value-out : (p : LetPart) → (part_of p).value ≡ expression_of (out-LetPart p).value
part_value-out p = search (rules, the_lemmas)

pub parts-passed : (s t u : Found) (o : Order) (ps : List LetPart) (i : ℕ) (p : LetPart) → i < length ps → p ≡ get_or ps i p →
    t ≡ passed s (inside_parts s.scope s.before o (parts_of (take i ps))) (after_parts s.before (parts_of (take i ps))) →
    u ≡ passed t (occurrences t.scope t.before (Exactly o) (expression_of (out-LetPart p).value)) (after t.before (expression_of (out-LetPart p).value)) →
    u ≡ passed s (inside_parts s.scope s.before o (parts_of (take (i + 1) ps))) (after_parts s.before (parts_of (take (i + 1) ps)))
parts-passed s t u o ps i p below is before here =
    let P = parts_of (take i ps) in
    let os = inside_parts s.scope s.before o P in
    let b = after_parts s.before P in
    passed-then s t u os b (Exactly o) (expression_of (out-LetPart p).value) before here
    ∙ (ap (λ e. passed s (os ++ occurrences s.scope b (Exactly o) e) (after b e)) (sym (part_value-out p))
    ∙ ap (λ all. passed s (inside_parts s.scope s.before o all) (after_parts s.before all)) (parts-more ps i p below is))

pub parts-typed : (s t : Found) (first x : ℕ) (o : Order) (ps : List LetPart) (i : ℕ) (p : LetPart) (made more : Option (List Binding)) (value : Option Argument) →
    i < length ps → p ≡ get_or ps i p → x ≡ first + i →
    t ≡ passed s (inside_parts s.scope s.before o (parts_of (take i ps))) (after_parts s.before (parts_of (take i ps))) →
    option_map sides_of made ≡ typed_sides s.scope first s.before o (parts_of (take i ps)) →
    value ≡ typed t.scope t.before (expression_of (out-LetPart p).value) →
    option_map (map binding_of) more ≡ both (λ front a. front ++ (x, a) ∷ []) (option_map (map binding_of) made) (option_and_then (of_order o) value) →
    option_map sides_of more ≡ typed_sides s.scope first s.before o (parts_of (take (i + 1) ps))
parts-typed s t first x o ps i p made more value below is number before so_far here added =
    let P = parts_of (take i ps) in
    let b = after_parts s.before P in
    let e = expression_of (out-LetPart p).value in
    let ns = numbers_of_parts first P in
    let value_is = typed-then s t (inside_parts s.scope s.before o P) b e value before here ∙ ap (typed s.scope b) (sym (part_value-out p)) in
    let counted = count_of_parts-length (take i ps) in
    let taken = length-take i ps in
    let last : x ≡ first + count_of_parts P = omega (arith, number, counted, taken, below) in
    sym (made-sides more)
    ∙ (ap (option_map apart) added
    ∙ (pushed-sides (option_map (map binding_of) made) x (option_and_then (of_order o) value) ns (typed_parts s.scope s.before o P) (made-sides made ∙ so_far)
    ∙ (ap (λ a. option_map (λ there. (ns ++ x ∷ [], there)) (both argument_behind (typed_parts s.scope s.before o P) (option_and_then (of_order o) a))) value_is
    ∙ (ap (λ y. option_map (λ there. (ns ++ y ∷ [], there)) (both argument_behind (typed_parts s.scope s.before o P) (option_and_then (of_order o) (typed s.scope b (part_of p).value)))) last
    ∙ ap (typed_sides s.scope first s.before o) (parts-more ps i p below is)))))

-- variables with their restrictions

bounds-taken : (vs : List Bound) (i first x : ℕ) → i < length vs → x ≡ first + i → x ≡ first + count_of_bounds (variables_of (take i vs))
bounds-taken vs i first x below number =
    let counted = count_of_bounds-length (take i vs) in
    let taken = length-take i vs in
    omega (arith, number, counted, taken, below)

pub restrictions-next : (s t u : Found) (first x : ℕ) (vs : List Bound) (i : ℕ) (v : Bound) → i < length vs → v ≡ get_or vs i v → x ≡ first + i →
    t ≡ after_restrictions s first (variables_of (take i vs)) →
    u ≡ after_restriction t x (variable_of v).order (variable_of v).name (variable_of v).domain →
    u ≡ after_restrictions s first (variables_of (take (i + 1) vs))
restrictions-next s t u first x vs i v below is number before here =
    let V = variables_of (take i vs) in
    let o = (variable_of v).order in
    let n = (variable_of v).name in
    let d = (variable_of v).domain in
    let inner = under_bounds s.scope first V in
    let os = inside_bounds s.scope first s.before V in
    let b = after_bounds s.before V in
    let wide : ℕ → Scope = λ y. bind n (Variable y o) inner in
    let F : ℕ → Found → Found = λ y there. record there { scope = wide y } in
    here
    ∙ (ap (λ there. after_restriction there x o n d) before
    ∙ (ap (F x) (passed-passed s os (inside_domain (without_exports (wide x)) b d) b (after_domain b d))
    ∙ (ap (λ y. record (passed s (os ++ inside_domain (without_exports (wide y)) b d) (after_domain b d)) { scope = wide y }) (bounds-taken vs i first x below number)
    ∙ ap (after_restrictions s first) (variables-more vs i v below is))))

pub restrictions-typed : (s t : Found) (takes_defaults : Bool) (first x : ℕ) (vs : List Bound) (i : ℕ) (v : Bound) (found more : Option (List tree.Declaration)) →
    i < length vs → v ≡ get_or vs i v → x ≡ first + i →
    t ≡ after_restrictions s first (variables_of (take i vs)) →
    found ≡ restricted_variables takes_defaults s.scope first s.before (variables_of (take i vs)) →
    more ≡ both (λ front w. front ++ w ∷ []) found
    (option_map (restricted_variable x (variable_of v).order)
    (restriction_in takes_defaults (bind (variable_of v).name (Variable x (variable_of v).order) t.scope) t.before (variable_of v).order x (variable_of v).domain)) →
    more ≡ restricted_variables takes_defaults s.scope first s.before (variables_of (take (i + 1) vs))
restrictions-typed s t takes_defaults first x vs i v found more below is number before so_far added =
    let V = variables_of (take i vs) in
    let o = (variable_of v).order in
    let n = (variable_of v).name in
    let d = (variable_of v).domain in
    let inner = under_bounds s.scope first V in
    let b = after_bounds s.before V in
    let all = restricted_variables takes_defaults s.scope first s.before V in
    let M : Option (List tree.Declaration) → ℕ → Found → Option (List tree.Declaration) =
    λ front y there. both (λ earlier r. earlier ++ restricted_variable y o r ∷ []) front (restriction_in takes_defaults (bind n (Variable y o) there.scope) there.before o y d) in
    added
    ∙ (pushed-variable found x o (restriction_in takes_defaults (bind n (Variable x o) t.scope) t.before o x d)
    ∙ (ap (λ front. M front x t) so_far
    ∙ (ap (M all x) before
    ∙ (ap (λ y. M all y (after_restrictions s first V)) (bounds-taken vs i first x below number)
    ∙ ap (restricted_variables takes_defaults s.scope first s.before) (variables-more vs i v below is)))))
