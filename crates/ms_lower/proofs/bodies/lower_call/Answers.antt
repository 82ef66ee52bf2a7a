use Rattle.std.proofs.Common.{ℕ, List, ◌++◌, ◌∷◌, [], map, refl, sym, ap, ◌∙◌}
use Rattle.std.proofs.lemmas.Result.{IfOk-weaker}
use Rattle.ms_logic_core.specs.CoreForm.{CoreForm, core_form_of, restrict}
use Rattle.ms_logic_core.specs.Spread.{conjunction_of, own_names, restrictions_of, spread_under}
use Rattle.ms_logic.specs.View.{declaration_of, formula_of}
use Rattle.ms_logic.specs.declared.checked.Predicate.{Predicate}
use Rattle.ms_lower.specs.declared.tables.Tables.{Tables}
use Rattle.ms_lower.specs.Bodies.{body_in, callees_before}
use Rattle.ms_lower.specs.Callees.{callees_in, spread_in}
use Rattle.ms_lower.specs.Calling.{free_at, names_at}
use Rattle.ms_lower.specs.Numbering.{numbering_of, renumbered}
use Rattle.ms_lower.specs.inner.Scope.{all_named, names_in}
use Rattle.ms_lower.proofs.Callees.{before_same, numbering_same}
use Rattle.ms_lower.proofs.Lowering.{body_lowered}
use Rattle.ms_lower.proofs.NamedParams.{named_names}
use Rattle.ms_lower.proofs.bodies.lower_call.Goals as goal

-- the restrictions and the body, where so many numbers are not free
abbrev whole : Tables → ℕ → Predicate → List ℕ → ℕ → CoreForm
whole tables p known ys free =
    conjunction_of
    (restrictions_of (callees_before tables p) (map declaration_of known.params) (names_at tables.globals (map declaration_of known.params) ys) free
    ++ spread_under (callees_before tables p) (formula_of known.body) (names_at tables.globals (map declaration_of known.params) ys) free ∷ [])

pub returns-in_default : goal.returns-in_default
returns-in_default c =
    IfOk-weaker c.restricted.result _ _ (λ core is. is ∙ (ap restrict c.in_ok-constant.ensures ∙ ap (λ o. body_in c.args.tables.now c.args.predicate o c.args.variables.now) (sym c.in_default.ensures.none))) c.restricted.ensures

-- without restrictions the body stands alone
pub returns-then-is_empty : goal.returns-then-is_empty
returns-then-is_empty c =
    let T = c.args.tables.now in
    let B = c.before-before.result in
    let same = c.before-before.ensures in
    let known = c.in-Some.known.now in
    let body = c.in_ok-body.body in
    let none = c.is_empty.ensures.0 c.if-is_empty.true in
    let params = c.slice-params.ensures in
    let names = c.in_ok-enter_named.ensures.names ∙ (ap (λ s. all_named c.slice.result.now (names_in s)) c.new-scope.ensures ∙ (ap (λ l. all_named l own_names) (c.slice.ensures ∙ c.in_ok-named.ensures) ∙ (named_names T.globals c.slice-params.result.now c.args.variables.now ∙ ap (λ ps. names_at T.globals (map declaration_of ps) c.args.variables.now) params))) in
    ap (λ l. conjunction_of (map core_form_of (l ++ body ∷ []))) (sym none)
    ∙ (body_lowered (numbering_of T) (numbering_of B) (callees_in B) (callees_before T c.args.predicate) (map declaration_of known.params) (formula_of known.body) _ (names_in c.enter_named.new.scope) c.free_at-free.result c.in_ok-cores.cores (c.in_ok-cores.cores ++ body ∷ []) body
    (before_same T B c.args.predicate same.callable same.predicates same.imports) (numbering_same T B same.kept same.globals same.predicates same.imports) names
    (c.in_ok-cores.ensures.cores ∙ ap (λ ps. map (renumbered (numbering_of B)) (restrictions_of (callees_in B) (map declaration_of ps) (names_in c.enter_named.new.scope) c.free_at-free.result)) params)
    (c.in_ok-body.ensures.core ∙ ap (λ s. spread_in B (formula_of known.body) (names_in s) c.free_at-free.result) c.in_ok-cores.ensures.scope) refl
    ∙ (ap (λ k. renumbered (numbering_of T) (whole T c.args.predicate known c.args.variables.now k)) (c.free_at-free.ensures ∙ ap (λ ps. free_at T.globals (map declaration_of ps) c.args.variables.now) params)
    ∙ ap (λ o. body_in T c.args.predicate o c.args.variables.now) (sym c.in-Some.ensures.some.0)))

pub returns : goal.returns
returns c =
    let T = c.args.tables.now in
    let B = c.before-before.result in
    let same = c.before-before.ensures in
    let known = c.in-Some.known.now in
    let params = c.slice-params.ensures in
    let names = c.in_ok-enter_named.ensures.names ∙ (ap (λ s. all_named c.slice.result.now (names_in s)) c.new-scope.ensures ∙ (ap (λ l. all_named l own_names) (c.slice.ensures ∙ c.in_ok-named.ensures) ∙ (named_names T.globals c.slice-params.result.now c.args.variables.now ∙ ap (λ ps. names_at T.globals (map declaration_of ps) c.args.variables.now) params))) in
    IfOk-weaker c.conjunction.result _ _ (λ core is. is
    ∙ (body_lowered (numbering_of T) (numbering_of B) (callees_in B) (callees_before T c.args.predicate) (map declaration_of known.params) (formula_of known.body) _ (names_in c.enter_named.new.scope) c.free_at-free.result c.in_ok-cores.cores c.push.new.list c.in_ok-body.body
    (before_same T B c.args.predicate same.callable same.predicates same.imports) (numbering_same T B same.kept same.globals same.predicates same.imports) names
    (c.in_ok-cores.ensures.cores ∙ ap (λ ps. map (renumbered (numbering_of B)) (restrictions_of (callees_in B) (map declaration_of ps) (names_in c.enter_named.new.scope) c.free_at-free.result)) params)
    (c.in_ok-body.ensures.core ∙ ap (λ s. spread_in B (formula_of known.body) (names_in s) c.free_at-free.result) c.in_ok-cores.ensures.scope)
    (c.in_ok-push.ensures.ok ∙ ap (λ k. c.in_ok-cores.cores ++ k ∷ []) c.into_inner.ensures)
    ∙ (ap (λ k. renumbered (numbering_of T) (whole T c.args.predicate known c.args.variables.now k)) (c.free_at-free.ensures ∙ ap (λ ps. free_at T.globals (map declaration_of ps) c.args.variables.now) params)
    ∙ ap (λ o. body_in T c.args.predicate o c.args.variables.now) (sym c.in-Some.ensures.some.0)))) c.conjunction.ensures
