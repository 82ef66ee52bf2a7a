-- What an expression becomes, by what is inside it.
use Rattle.std.proofs.Common.{◌≡◌, ℕ, ◌+◌, Bool, true, List, take, Option, Some, None, refl, sym, ap, ◌∙◌, arith}
use Rattle.std.specs.Option.{option_map}
use Rattle.ms_list.specs.declared.at.At.{At}
use Rattle.ms_logic.specs.declared.mode.Order.{Order}
use Rattle.ms_logic.specs.declared.mode.Quant.{Quant}
use Rattle.ms_logic.specs.Tree as tree
use Rattle.ms_logic.specs.Tree.{Form, Argument, Arguments}
use Rattle.ms_names_rules.specs.declared.fault.Fault.{Fault}
use Rattle.ms_names_rules.specs.declared.meaning.Meaning.TheVariants.{Variable}
use Rattle.ms_names_rules.specs.declared.meaning.Reading.{Reading}
use Rattle.ms_parse_grammar.specs.declared.operator.Listing.TheVariants.{Call}
use Rattle.ms_names_rules.specs.Scope.{Bytes, bind, count_of_bounds, count_of_parts, meaning_of, under_bounds, under_parts, without_exports, count}
use Rattle.ms_parse_grammar.specs.Tree.{Expression, listed, quantified, let_in, Expressions, Variables, Domain, restricted, Parts}
use Rattle.ms_names_rules.specs.Before.{Before, after_bounds, after_parts, with_names}
use Rattle.ms_names_rules.specs.inner.Binder.{quantified_over, restricted_variable, restricted_variables, restriction_in, typed_sides}
use Rattle.ms_names_rules.specs.Occurrence.{Occurrence}
use Rattle.ms_names_rules.specs.Order.{parameters_of}
use Rattle.ms_names_rules.specs.Typed.{both, formula_in, numbers_of_parts, typed, typed_arguments, typed_call, typed_parts, typed_restriction, as_many}
use Rattle.ms_names_rules.proofs.Exports.{arguments-same, parts-same, typed-same, under_parts-same}
use Rattle.ms_names_rules.proofs.Lists.{quantifiers-all, restriction-own}
use Rattle.ms_names_scopes.specs.inner.Found.{after_restrictions, Found, with_faults, passed, noted}
use Rattle.ms_names_rules.proofs.Standing.{counted}
use Rattle.ms_names.specs.inner.Progress.{known}
use Rattle.ms_names_rules.specs.inner.Examples.{without}
use Rattle.ms_names.proofs.FewParameters.{call-few}

pub call-value : (s r q u v : Found) (fs : List Fault) (rs : List Reading) (os : List Occurrence) (b : Before) (at : At) (n : Bytes) (es : Expressions)
    (given : ℕ) (parameters : List Order) (allowed : Bool) (made : Option Arguments) (value : Option Argument) →
    given ≡ count es → parameters ≡ take (given + 1) (parameters_of (meaning_of s.scope n)) →
    r ≡ noted s fs rs → q ≡ record r { scope = without_exports r.scope } → u ≡ passed q os b →
    v ≡ record u { scope = record u.scope { exports_allowed = allowed } } →
    made ≡ as_many (count es) parameters (typed_arguments q.scope q.before parameters es) →
    value ≡ typed_call (meaning_of v.scope n) made →
    value ≡ typed s.scope s.before (listed at (Call n) es)
call-value s r q u v fs rs os b at n es given parameters allowed made value counted known named without within last typed_so called =
    let outer = without_exports s.scope in
    let m = meaning_of s.scope n in
    let meant : meaning_of v.scope n ≡ m =
    ap (λ (there : Found). meaning_of there.scope n) last ∙ (ap (λ (there : Found). meaning_of there.scope n) within
    ∙ (ap (λ (there : Found). meaning_of there.scope n) without ∙ ap (λ (there : Found). meaning_of there.scope n) named)) in
    let ps = parameters_of m in
    let G : List Order → Found → Option Arguments = λ orders there. as_many (count es) orders (typed_arguments there.scope there.before orders es) in
    let few : given + 1 ≡ count es + 1 = omega (arith, counted) in
    let given_is : made ≡ as_many (count es) ps (typed_arguments s.scope s.before ps es) =
    typed_so ∙ (ap (G parameters) without
    ∙ (ap (λ (there : Found). G parameters (record there { scope = without_exports there.scope })) named
    ∙ (ap (λ orders. as_many (count es) orders (typed_arguments outer s.before orders es)) (known ∙ ap (λ k. take k ps) few)
    ∙ (call-few outer s.before ps es
    ∙ ap (as_many (count es) ps) (arguments-same outer s.scope s.before ps es refl))))) in
    called ∙ (ap (λ there. typed_call there made) meant ∙ ap (typed_call m) given_is)

-- a variable with the restriction of its own
pub restriction-value : (s r q : Found) (takes_defaults : Bool) (x : ℕ) (o p : Order) (n m : Bytes) (e : Expression) (d : Domain) (value : Option Argument) →
    o ≡ p → n ≡ m → restricted e ≡ d →
    r ≡ record s { scope = bind n (Variable x o) s.scope } →
    q ≡ record r { scope = without_exports r.scope } →
    value ≡ typed q.scope q.before e →
    option_map (restricted_variable x o) (typed_restriction value)
    ≡ option_map (restricted_variable x p) (restriction_in takes_defaults (bind m (Variable x p) s.scope) s.before p x d)
restriction-value s r q takes_defaults x o p n m e d value order named own bound without is =
    let here = bind n (Variable x o) s.scope in
    let value_is : value ≡ typed here s.before e =
    is ∙ (ap (λ (there : Found). typed there.scope there.before e) without
    ∙ (ap (λ (there : Found). typed (without_exports there.scope) there.before e) bound
    ∙ typed-same (without_exports here) here s.before e refl)) in
    ap (λ a. option_map (restricted_variable x o) (typed_restriction a)) value_is
    ∙ (ap (option_map (restricted_variable x o)) (restriction-own takes_defaults here s.before o x e)
    ∙ (ap (λ there. option_map (restricted_variable x o) (restriction_in takes_defaults here s.before o x there)) own
    ∙ (ap (λ there. option_map (restricted_variable x o) (restriction_in takes_defaults (bind there (Variable x o) s.scope) s.before o x d)) named
    ∙ ap (λ there. option_map (restricted_variable x there) (restriction_in takes_defaults (bind m (Variable x there) s.scope) s.before there x d)) order)))

pub quantified-value : (s r t : Found) (fs : List Fault) (rs : List Reading) (at : At) (q : Quant) (o : Order) (vs : Variables) (e : Expression) (x : ℕ)
    (made : Option (List tree.Declaration)) →
    x ≡ s.before.next →
    r ≡ record (noted s fs rs) { before = with_names s.before (count_of_bounds vs) } →
    t ≡ after_restrictions r x vs →
    made ≡ restricted_variables true r.scope x r.before vs →
    option_map (λ f. tree.truth_argument f) (both (quantified_over q) made (formula_in (typed t.scope t.before e))) ≡ typed s.scope s.before (quantified at q o vs e)
quantified-value s r t fs rs at q o vs e x made first begun restricted_are made_are =
    let here = with_names s.before (count_of_bounds vs) in
    let body = typed t.scope t.before e in
    let inside = typed (under_bounds s.scope s.before.next vs) (after_bounds here vs) e in
    let all : made ≡ restricted_variables true s.scope s.before.next here vs =
    made_are ∙ (ap (λ (there : Found). restricted_variables true there.scope x there.before vs) begun ∙ ap (λ y. restricted_variables true s.scope y here vs) first) in
    let body_is : body ≡ inside =
    ap (λ (there : Found). typed there.scope there.before e) restricted_are
    ∙ (ap (λ (there : Found). typed (under_bounds there.scope x vs) (after_bounds there.before vs) e) begun
    ∙ ap (λ y. typed (under_bounds s.scope y vs) (after_bounds here vs) e) first) in
    ap (λ there. option_map (λ f. tree.truth_argument f) (both (quantified_over q) there (formula_in body))) all
    ∙ (ap (λ there. option_map (λ f. tree.truth_argument f) (both (quantified_over q) (restricted_variables true s.scope s.before.next here vs) (formula_in there))) body_is
    ∙ ap (option_map (λ f. tree.truth_argument f)) (sym (quantifiers-all s.scope s.before.next here q vs (formula_in inside))))

let-sides : (ns : List ℕ) (sides : Option Arguments) (f : Option Form) →
    both (λ (there : List ℕ × Arguments) (g : Form). tree.truth_argument (tree.where_let there.0 there.1 g)) (option_map (λ there. (ns, there)) sides) f
    ≡ both (λ there g. tree.truth_argument (tree.where_let ns there g)) sides f
let-sides ns None f = refl
let-sides ns (Some sides) None = refl
let-sides ns (Some sides) (Some f) = refl

pub let-value : (s r p q t w : Found) (fs : List Fault) (os : List Occurrence) (at : At) (o : Order) (ps : Parts) (e : Expression) (x n : ℕ)
    (made : Option (List ℕ × Arguments)) →
    x ≡ r.before.next → n ≡ count_of_parts ps →
    r ≡ with_faults s fs →
    p ≡ record r { before = with_names r.before n } →
    q ≡ record p { scope = without_exports p.scope } →
    t ≡ passed q os (after_parts q.before ps) →
    w ≡ record t { scope = under_parts t.scope x o ps } →
    made ≡ typed_sides q.scope x q.before o ps →
    both (λ (there : List ℕ × Arguments) (g : Form). tree.truth_argument (tree.where_let there.0 there.1 g)) made (formula_in (typed w.scope w.before e))
    ≡ typed s.scope s.before (let_in at o ps e)
let-value s r p q t w fs os at o ps e x n made first counted checked numbered without right_sides named made_are =
    let here = with_names s.before (count_of_parts ps) in
    let body = typed w.scope w.before e in
    let outer = without_exports s.scope in
    let y = s.before.next in
    let begun : p ≡ record (with_faults s fs) { before = here } =
    numbered ∙ (ap (λ k. record r { before = with_names r.before k }) counted ∙ ap (λ (there : Found). record there { before = with_names there.before (count_of_parts ps) }) checked) in
    let start : q ≡ record (with_faults s fs) { before = here; scope = outer } = without ∙ ap (λ (there : Found). record there { scope = without_exports there.scope }) begun in
    let first_is : x ≡ y = first ∙ ap (λ (there : Found). there.before.next) checked in
    let sides_are : made ≡ option_map (λ there. (numbers_of_parts y ps, there)) (typed_parts s.scope here o ps) =
    made_are ∙ (ap (λ (there : Found). typed_sides there.scope x there.before o ps) start
    ∙ (ap (λ z. typed_sides outer z here o ps) first_is
    ∙ ap (option_map (λ there. (numbers_of_parts y ps, there))) (parts-same outer s.scope here o ps refl))) in
    let body_is : body ≡ typed (under_parts s.scope y o ps) (after_parts here ps) e =
    ap (λ (there : Found). typed there.scope there.before e) named
    ∙ (ap (λ (there : Found). typed (under_parts there.scope x o ps) there.before e) right_sides
    ∙ (ap (λ (there : Found). typed (under_parts there.scope x o ps) (after_parts there.before ps) e) start
    ∙ (ap (λ z. typed (under_parts outer z o ps) (after_parts here ps) e) first_is
    ∙ typed-same (under_parts outer y o ps) (under_parts s.scope y o ps) (after_parts here ps) e (under_parts-same outer s.scope y o ps refl)))) in
    ap (λ there. both (λ (sides : List ℕ × Arguments) (g : Form). tree.truth_argument (tree.where_let sides.0 sides.1 g)) there (formula_in body)) sides_are
    ∙ (let-sides (numbers_of_parts y ps) (typed_parts s.scope here o ps) (formula_in body)
    ∙ ap (λ there. both (λ sides g. tree.truth_argument (tree.where_let (numbers_of_parts y ps) sides g)) (typed_parts s.scope here o ps) (formula_in there)) body_is)
