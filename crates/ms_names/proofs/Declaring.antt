-- Declarations: constants, names of globals, predicates and default restrictions.
use Rattle.std.proofs.Common.{◌≡◌, ℕ, Bool, false, List, [], ◌∷◌, ◌++◌, drop, Option, refl, sym, ap, ◌∙◌}
use Rattle.std.specs.Option.{option_map}
use Rattle.ms_logic.specs.declared.mode.Order.{Order}
use Rattle.ms_logic.specs.Tree as tree
use Rattle.ms_logic.specs.Tree.{Argument}
use Rattle.ms_names_rules.specs.declared.meaning.Meaning.TheVariants.{Variable}
use Rattle.ms_names_rules.specs.Scope.{Bytes, Scope, bind, count_of_bounds, under_bounds, without_exports}
use Rattle.ms_parse_grammar.specs.Tree.{Expression, Variables}
use Rattle.ms_names_rules.specs.Before.{after, after_bounds, with_names}
use Rattle.ms_names_rules.specs.inner.Binder.{restricted_variable, restricted_variables, predicate_with}
use Rattle.ms_names_rules.specs.Declarations.{occurrences_in_default, occurrences_in_predicate}
use Rattle.ms_names_rules.specs.Order.{formula_wanted}
use Rattle.ms_names_rules.specs.Occurrence.{occurrences, inside_bounds}
use Rattle.ms_names_rules.specs.Typed.{both, formula_in, typed}
use Rattle.ms_names_rules.specs.TypedSource.{parameters_of_bounds, typed_default, typed_predicate}
use Rattle.ms_names_rules.proofs.Exports.{typed-same, under_bounds-same}
use Rattle.ms_names_rules.proofs.Lists.{parameters-all}
use Rattle.ms_names_rules.proofs.Declaring.{restricted-same}
use Rattle.ms_names_scopes.specs.inner.Found.{after_restrictions, unbound, Found, passed}
use Rattle.ms_names_scopes.proofs.Findings.{passed-passed}
use Rattle.ms_names.proofs.Walk.{unbound-bounds}
use Rattle.ms_names_rules.proofs.Standing.{counted}
use Rattle.ms_names_rules.specs.inner.Examples.{without}

pub predicate-passed : (s r q t u v w : Found) (vs : Variables) (e : Expression) (x n m : ℕ) (allowed : Bool) →
    x ≡ s.before.next → n ≡ count_of_bounds vs → m ≡ count_of_bounds vs →
    r ≡ record s { before = with_names s.before n } →
    allowed ≡ r.scope.exports_allowed →
    q ≡ record r { scope = without_exports r.scope } →
    t ≡ after_restrictions q x vs →
    u ≡ passed t (occurrences t.scope t.before formula_wanted e) (after t.before e) →
    v ≡ unbound m u →
    w ≡ record v { scope = record v.scope { exports_allowed = allowed } } →
    w ≡ passed s (occurrences_in_predicate s.scope s.before vs e) (after (after_bounds (with_names s.before (count_of_bounds vs)) vs) e)
predicate-passed s r q t u v w vs e x n m allowed first counted counted_again numbered was without restricted_are within unnamed last =
    let here = with_names s.before (count_of_bounds vs) in
    let outer = without_exports s.scope in
    let before = inside_bounds outer s.before.next here vs in
    let inner = under_bounds outer s.before.next vs in
    let os = occurrences inner (after_bounds here vs) formula_wanted e in
    let end = after (after_bounds here vs) e in
    let G : Found → Found = λ there. passed there (occurrences there.scope there.before formula_wanted e) (after there.before e) in
    let numbered_at : r ≡ record s { before = here } = numbered ∙ ap (λ k. record s { before = with_names s.before k }) counted in
    let start = record s { before = here; scope = outer } in
    let begun : q ≡ start = without ∙ ap (λ (there : Found). record there { scope = without_exports there.scope }) numbered_at in
    let known : t ≡ after_restrictions start s.before.next vs =
    restricted_are ∙ (ap (λ y. after_restrictions q y vs) first ∙ ap (λ there. after_restrictions there s.before.next vs) begun) in
    let was_is : allowed ≡ s.scope.exports_allowed = was ∙ ap (λ (there : Found). there.scope.exports_allowed) numbered_at in
    last
    ∙ (ap (λ (there : Found). record there { scope = record there.scope { exports_allowed = allowed } })
    (unnamed ∙ (ap (λ k. unbound k u) counted_again
    ∙ (ap (unbound (count_of_bounds vs)) (within ∙ ap G known)
    ∙ (ap (λ (found : Found). record found { scope = record inner { names = drop (count_of_bounds vs) inner.names } }) (passed-passed s before os (after_bounds here vs) end)
    ∙ ap (λ (there : Scope). record (passed s (before ++ os) end) { scope = there }) (unbound-bounds outer s.before.next vs)))))
    ∙ ap (λ (can : Bool). record (passed s (before ++ os) end) { scope = record outer { exports_allowed = can } }) was_is)

pub predicate-typed : (s r q t : Found) (vs : Variables) (e : Expression) (x n : ℕ) (made : Option (List tree.Declaration)) (body : Option Argument) →
    x ≡ s.before.next → n ≡ count_of_bounds vs →
    r ≡ record s { before = with_names s.before n } →
    q ≡ record r { scope = without_exports r.scope } →
    t ≡ after_restrictions q x vs →
    made ≡ restricted_variables false q.scope x q.before vs →
    body ≡ typed t.scope t.before e →
    both predicate_with made (formula_in body) ≡ typed_predicate s.scope s.before vs e
predicate-typed s r q t vs e x n made body first counted numbered without restricted_are made_are is =
    let here = with_names s.before (count_of_bounds vs) in
    let outer = without_exports s.scope in
    let y = s.before.next in
    let inside = typed (under_bounds s.scope y vs) (after_bounds here vs) e in
    let numbered_at : r ≡ record s { before = here } = numbered ∙ ap (λ k. record s { before = with_names s.before k }) counted in
    let begun : q ≡ record s { before = here; scope = outer } = without ∙ ap (λ (there : Found). record there { scope = without_exports there.scope }) numbered_at in
    let all : made ≡ restricted_variables false s.scope y here vs =
    made_are ∙ (ap (λ (there : Found). restricted_variables false there.scope x there.before vs) begun
    ∙ (ap (λ z. restricted_variables false outer z here vs) first ∙ restricted-same false outer s.scope y here vs refl)) in
    let body_is : body ≡ inside =
    is ∙ (ap (λ (there : Found). typed there.scope there.before e) restricted_are
    ∙ (ap (λ (there : Found). typed (under_bounds there.scope x vs) (after_bounds there.before vs) e) begun
    ∙ (ap (λ z. typed (under_bounds outer z vs) (after_bounds here vs) e) first
    ∙ typed-same (under_bounds outer y vs) (under_bounds s.scope y vs) (after_bounds here vs) e (under_bounds-same outer s.scope y vs refl)))) in
    ap (λ there. both predicate_with there (formula_in body)) (all ∙ sym (parameters-all s.scope y here vs))
    ∙ ap (λ a. both predicate_with (parameters_of_bounds s.scope y here vs) (formula_in a)) body_is

-- default restrictions

pub default-passed : (s r q p u v w : Found) (o : Order) (n : Bytes) (e : Expression) (x : ℕ) (allowed : Bool) →
    x ≡ s.before.next →
    r ≡ record s { before = with_names s.before 1 } →
    allowed ≡ r.scope.exports_allowed →
    q ≡ record r { scope = without_exports r.scope } →
    p ≡ record q { scope = bind n (Variable x o) q.scope } →
    u ≡ passed p (occurrences p.scope p.before formula_wanted e) (after p.before e) →
    v ≡ unbound 1 u →
    w ≡ record v { scope = record v.scope { exports_allowed = allowed } } →
    w ≡ passed s (occurrences_in_default s.scope s.before o n e) (after (with_names s.before 1) e)
default-passed s r q p u v w o n e x allowed first numbered was without named within unnamed last =
    let here = with_names s.before 1 in
    let outer = without_exports s.scope in
    let inner = bind n (Variable s.before.next o) outer in
    let os = occurrences inner here formula_wanted e in
    let end = after here e in
    let G : Found → Found = λ there. passed there (occurrences there.scope there.before formula_wanted e) (after there.before e) in
    let start = record s { before = here; scope = outer } in
    let begun : q ≡ start = without ∙ ap (λ (there : Found). record there { scope = without_exports there.scope }) numbered in
    let known : p ≡ record s { before = here; scope = inner } =
    named ∙ (ap (λ y. record q { scope = bind n (Variable y o) q.scope }) first ∙ ap (λ (there : Found). record there { scope = bind n (Variable s.before.next o) there.scope }) begun) in
    let was_is : allowed ≡ s.scope.exports_allowed = was ∙ ap (λ (there : Found). there.scope.exports_allowed) numbered in
    last
    ∙ (ap (λ (there : Found). record there { scope = record there.scope { exports_allowed = allowed } }) (unnamed ∙ ap (unbound 1) (within ∙ ap G known))
    ∙ ap (λ (can : Bool). record (passed s os end) { scope = record outer { exports_allowed = can } }) was_is)

pub default-typed : (s r q p : Found) (o : Order) (n : Bytes) (e : Expression) (x : ℕ) (body : Option Argument) →
    x ≡ s.before.next →
    r ≡ record s { before = with_names s.before 1 } →
    q ≡ record r { scope = without_exports r.scope } →
    p ≡ record q { scope = bind n (Variable x o) q.scope } →
    body ≡ typed p.scope p.before e →
    option_map (predicate_with (restricted_variable x o tree.unrestricted ∷ [])) (formula_in body) ≡ typed_default s.scope s.before o n e
default-typed s r q p o n e x body first numbered without named is =
    let here = with_names s.before 1 in
    let outer = without_exports s.scope in
    let y = s.before.next in
    let begun : q ≡ record s { before = here; scope = outer } = without ∙ ap (λ (there : Found). record there { scope = without_exports there.scope }) numbered in
    let body_is : body ≡ typed (bind n (Variable y o) s.scope) here e =
    is ∙ (ap (λ (there : Found). typed there.scope there.before e) named
    ∙ (ap (λ (there : Found). typed (bind n (Variable x o) there.scope) there.before e) begun
    ∙ (ap (λ z. typed (bind n (Variable z o) outer) here e) first
    ∙ typed-same (bind n (Variable y o) outer) (bind n (Variable y o) s.scope) here e refl))) in
    ap (λ z. option_map (predicate_with (restricted_variable z o tree.unrestricted ∷ [])) (formula_in body)) first
    ∙ ap (λ a. option_map (predicate_with (restricted_variable y o tree.unrestricted ∷ [])) (formula_in a)) body_is
