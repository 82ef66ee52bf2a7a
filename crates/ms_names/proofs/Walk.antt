-- An expression after what is inside it.
use Rattle.std.proofs.Common.{◌≡◌, ℕ, ◌+◌, Bool, List, [], ◌∷◌, ◌++◌, append_assoc, length, drop, Option, Result, Ok, Err, IfOk, OnOk, take, refl, sym, subst, ap, ◌∙◌, arith}
use Rattle.std.specs.Prelude.{flat_map, not}
use Rattle.std.specs.Option.{option_map}
use Rattle.std.specs.List.{insert}
use Rattle.std.proofs.lemmas.List.{drop-drop}
use Rattle.std.proofs.Math.Seq.{drop-append_seam, take-append_seam}
use Rattle.ms_list.specs.declared.at.At.{At}
use Rattle.ms_logic.specs.declared.formula.Arg.{Arg}
use Rattle.ms_logic.specs.declared.mode.Order.{Order}
use Rattle.ms_logic.specs.declared.mode.Quant.{Quant}
use Rattle.ms_logic.specs.Tree.{Argument}
use Rattle.ms_logic.specs.View.{argument_of}
use Rattle.ms_names_rules.specs.declared.fault.Fault.{Fault}
use Rattle.ms_names_rules.specs.declared.fault.Fault.TheVariants.{NotHere}
use Rattle.ms_names_rules.specs.declared.meaning.Reading.{Reading}
use Rattle.ms_names_rules.specs.declared.wanted.Wanted.{Wanted}
use Rattle.ms_parse_grammar.specs.declared.operator.Bracket.TheVariants.{Export}
use Rattle.ms_parse_grammar.specs.declared.operator.Listing.TheVariants.{Call}
use Rattle.ms_names_rules.specs.Scope.{Bytes, Scope, count_of_bounds, count_of_parts, meaning_of, under_bounds, under_parts, without_exports, count}
use Rattle.ms_parse_grammar.specs.Tree.{Expression, enclosed, listed, quantified, let_in, Expressions, Variables, no_variables, and_variable, Parts, no_parts, and_part}
use Rattle.ms_names_rules.specs.Before.{Before, after, after_all, after_bounds, after_parts, with_names, with_export}
use Rattle.ms_names_rules.specs.Fault.{first_with}
use Rattle.ms_names_rules.specs.inner.Free.{export_use}
use Rattle.ms_names_rules.specs.Order.{formula_wanted, parameters_of}
use Rattle.ms_names_rules.specs.Occurrence.{Occurrence, occurrences, inside, inside_arguments, inside_bounds, inside_parts}
use Rattle.ms_names_rules.specs.Reads.{readings_at, readings_of_bounds, readings_of_call, variables_read}
use Rattle.ms_names_rules.specs.Rules.{faults_at, faults_of_bounds, faults_of_call, faults_of_form, faults_of_order, faults_of_parts, in_case}
use Rattle.ms_names_rules.specs.Typed.{typed}
use Rattle.ms_names_rules.specs.Uses.{import_at, export_at}
use Rattle.ms_names_scopes.specs.inner.Found.{after_restrictions, unbound, Found, with_faults, passed, noted, formed}
use Rattle.ms_names.proofs.FewParameters.{arguments-inside-few}
use Rattle.ms_names_scopes.proofs.Findings.{first_with-append, passed-passed}
use Rattle.ms_names_rules.proofs.Standing.{counted}
use Rattle.ms_names_rules.proofs.Orders.{ordered}
use Rattle.ms_names_rules.specs.inner.Examples.{without}

-- after some faults and readings, and then some expressions
abbrev pub with_inside : Found → List Fault → List Reading → List Occurrence → Before → Found
with_inside s fs rs os b = record {
  scope = s.scope;
  before = b;
  first = first_with s.first (fs ++ flat_map faults_at os);
  reads = s.reads ++ (rs ++ flat_map readings_at os);
  imports = s.imports ++ flat_map import_at os;
  exports = s.exports ++ flat_map export_at os;
}

-- an expression after the fault of its order and then by its form
pub formed-passed : (s r u : Found) (w : Wanted) (e : Expression) →
    r ≡ with_faults s (faults_of_order s.scope w e) → u ≡ formed r e →
    u ≡ passed s (occurrences s.scope s.before w e) (after s.before e)
formed-passed s r u w e ordered within =
    let fs = faults_of_order s.scope w e in
    let gs = faults_of_form s.scope e in
    let hs = flat_map faults_at (inside s.scope s.before e) in
    within ∙ (ap (λ there. formed there e) ordered
    ∙ ap (λ known. record (passed s (occurrences s.scope s.before w e) (after s.before e)) { first = known })
    (sym (first_with-append s.first fs (gs ++ hs)) ∙ ap (first_with s.first) (sym (append_assoc fs gs hs))))

-- faults and readings, and then what is inside
pub noted-passed : (s : Found) (fs : List Fault) (rs : List Reading) (os : List Occurrence) (b : Before) →
    passed (noted s fs rs) os b ≡ with_inside s fs rs os b
noted-passed s fs rs os b = λ i. record {
  scope = s.scope;
  before = b;
  first = sym (first_with-append s.first fs (flat_map faults_at os)) i;
  reads = append_assoc s.reads rs (flat_map readings_at os) i;
  imports = s.imports ++ flat_map import_at os;
  exports = s.exports ++ flat_map export_at os;
}

pub faults-passed : (s : Found) (fs : List Fault) (os : List Occurrence) (b : Before) →
    passed (with_faults s fs) os b ≡ with_inside s fs [] os b
faults-passed s fs os b =
    ap (λ known. record (passed s os b) { first = known }) (sym (first_with-append s.first fs (flat_map faults_at os)))

pub call-formed : (s r t u v : Found) (at : At) (n : Bytes) (es : Expressions) (given : ℕ) (parameters : List Order) (allowed : Bool) →
    given ≡ count es → parameters ≡ take (given + 1) (parameters_of (meaning_of s.scope n)) →
    r ≡ noted s (faults_of_call at n given (meaning_of s.scope n)) (readings_of_call (meaning_of s.scope n)) →
    allowed ≡ r.scope.exports_allowed →
    t ≡ record r { scope = without_exports r.scope } →
    u ≡ passed t (inside_arguments t.scope t.before parameters es) (after_all t.before es) →
    v ≡ record u { scope = record u.scope { exports_allowed = allowed } } →
    v ≡ formed s (listed at (Call n) es)
call-formed s r t u v at n es given parameters allowed counted known named was without within last =
    let m = meaning_of s.scope n in
    let F : Found → Found = λ there. passed (record there { scope = without_exports there.scope })
    (inside_arguments (without_exports there.scope) there.before parameters es) (after_all there.before es) in
    let P : Found → Type 0 = λ there. u ≡ passed there (inside_arguments there.scope there.before parameters es) (after_all there.before es) in
    let inner : u ≡ F r = subst P without within in
    last
    ∙ (ap (λ (there : Found). record there { scope = record there.scope { exports_allowed = allowed } }) inner
    ∙ (ap (λ was_allowed. record (F r) { scope = record r.scope { exports_allowed = was_allowed } }) was
    ∙ (ap (λ (there : Found). record (F there) { scope = there.scope }) named
    ∙ (ap (λ orders. passed (noted s (faults_of_call at n given m) (readings_of_call m)) (inside_arguments (without_exports s.scope) s.before orders es) (after_all s.before es)) known
    ∙ (ap (λ os. passed (noted s (faults_of_call at n given m) (readings_of_call m)) os (after_all s.before es))
    (arguments-inside-few (without_exports s.scope) s.before (parameters_of m) es (given + 1) (omega (arith, counted)))
    ∙ (ap (λ k. passed (noted s (faults_of_call at n k m) (readings_of_call m)) (inside_arguments (without_exports s.scope) s.before (parameters_of m) es) (after_all s.before es)) counted
    ∙ noted-passed s (faults_of_call at n (count es) m) (readings_of_call m) (inside_arguments (without_exports s.scope) s.before (parameters_of m) es) (after_all s.before es)))))))

without-last : {A : Type 0} (n : ℕ) (xs : List A) → drop (n + 1) xs ≡ drop n (drop 1 xs)
without-last n xs =
    let turned : n + 1 ≡ 1 + n = omega arith in
    ap (λ k. drop k xs) turned ∙ sym (drop-drop n 1 xs)

-- without the variables of a list
pub unbound-bounds : (s : Scope) (x : ℕ) (vs : Variables) →
    record (under_bounds s x vs) { names = drop (count_of_bounds vs) (under_bounds s x vs).names } ≡ s
unbound-bounds s x no_variables = refl
unbound-bounds s x (and_variable vs at o n d) =
    let names = (under_bounds s x (and_variable vs at o n d)).names in
    ap (λ rest. record (under_bounds s x vs) { names = rest }) (without-last (count_of_bounds vs) names) ∙ unbound-bounds s x vs

pub unbound-parts : (s : Scope) (x : ℕ) (o : Order) (ps : Parts) →
    record (under_parts s x o ps) { names = drop (count_of_parts ps) (under_parts s x o ps).names } ≡ s
unbound-parts s x o no_parts = refl
unbound-parts s x o (and_part ps at n e) =
    let names = (under_parts s x o (and_part ps at n e)).names in
    ap (λ rest. record (under_parts s x o ps) { names = rest }) (without-last (count_of_parts ps) names) ∙ unbound-parts s x o ps

pub quantified-formed : (s r t v : Found) (at : At) (q : Quant) (o : Order) (vs : Variables) (e : Expression) (x n : ℕ) →
    x ≡ s.before.next → n ≡ count_of_bounds vs →
    r ≡ record (noted s (faults_of_bounds [] vs) (readings_of_bounds s.scope vs)) { before = with_names s.before (count_of_bounds vs) } →
    t ≡ after_restrictions r x vs →
    v ≡ unbound n (passed t (occurrences t.scope t.before formula_wanted e) (after t.before e)) →
    v ≡ formed s (quantified at q o vs e)
quantified-formed s r t v at q o vs e x n first counted begun restricted last =
    let here = with_names s.before (count_of_bounds vs) in
    let fs = faults_of_bounds [] vs in
    let rs = readings_of_bounds s.scope vs in
    let before = inside_bounds s.scope s.before.next here vs in
    let inner = under_bounds s.scope s.before.next vs in
    let os = occurrences inner (after_bounds here vs) formula_wanted e in
    let end = after (after_bounds here vs) e in
    let G : Found → Found = λ there. passed there (occurrences there.scope there.before formula_wanted e) (after there.before e) in
    let begun_at = record (noted s fs rs) { before = here } in
    let known : t ≡ after_restrictions begun_at s.before.next vs =
    restricted ∙ (ap (λ y. after_restrictions r y vs) first ∙ ap (λ there. after_restrictions there s.before.next vs) begun) in
    last
    ∙ (ap (λ k. unbound k (G t)) counted
    ∙ (ap (λ there. unbound (count_of_bounds vs) (G there)) known
    ∙ (ap (λ (found : Found). record found { scope = record inner { names = drop (count_of_bounds vs) inner.names } }) (passed-passed (noted s fs rs) before os (after_bounds here vs) end)
    ∙ (ap (λ (there : Scope). record (passed (noted s fs rs) (before ++ os) end) { scope = there }) (unbound-bounds s.scope s.before.next vs)
    ∙ noted-passed s fs rs (before ++ os) end))))

pub let-formed : (s r p q t w l : Found) (at : At) (o : Order) (ps : Parts) (e : Expression) (x n : ℕ) (allowed : Bool) →
    x ≡ r.before.next → n ≡ count_of_parts ps →
    r ≡ with_faults s (faults_of_parts [] ps) →
    p ≡ record r { before = with_names r.before n } →
    allowed ≡ p.scope.exports_allowed →
    q ≡ record p { scope = without_exports p.scope } →
    t ≡ passed q (inside_parts q.scope q.before o ps) (after_parts q.before ps) →
    w ≡ record t { scope = under_parts t.scope x o ps } →
    (let v = unbound n (passed w (occurrences w.scope w.before formula_wanted e) (after w.before e)) in l ≡ record v { scope = record v.scope { exports_allowed = allowed } }) →
    l ≡ formed s (let_in at o ps e)
let-formed s r p q t w l at o ps e x n allowed first counted checked numbered was without right_sides named last =
    let here = with_names s.before (count_of_parts ps) in
    let fs = faults_of_parts [] ps in
    let outer = without_exports s.scope in
    let before = inside_parts outer here o ps in
    let inner = under_parts outer s.before.next o ps in
    let os = occurrences inner (after_parts here ps) formula_wanted e in
    let end = after (after_parts here ps) e in
    let G : Found → Found = λ there. passed there (occurrences there.scope there.before formula_wanted e) (after there.before e) in
    let H : Found → Found = λ there. passed there (inside_parts there.scope there.before o ps) (after_parts there.before ps) in
    let numbered_at : p ≡ record (with_faults s fs) { before = here } =
    numbered ∙ (ap (λ k. record r { before = with_names r.before k }) counted ∙ ap (λ (there : Found). record there { before = with_names there.before (count_of_parts ps) }) checked) in
    let start = record (with_faults s fs) { before = here; scope = outer } in
    let begun : q ≡ start = without ∙ ap (λ (there : Found). record there { scope = without_exports there.scope }) numbered_at in
    let first_is : x ≡ s.before.next = first ∙ ap (λ (there : Found). there.before.next) checked in
    let known : w ≡ record (H start) { scope = inner } =
    named ∙ (ap (λ y. record t { scope = under_parts t.scope y o ps }) first_is
    ∙ ap (λ (there : Found). record there { scope = under_parts there.scope s.before.next o ps }) (right_sides ∙ ap H begun)) in
    let was_is : allowed ≡ s.scope.exports_allowed = was ∙ ap (λ (there : Found). there.scope.exports_allowed) numbered_at in
    last
    ∙ (ap (λ (there : Found). record there { scope = record there.scope { exports_allowed = allowed } })
    (ap (λ k. unbound k (G w)) counted
    ∙ (ap (λ there. unbound (count_of_parts ps) (G there)) known
    ∙ (ap (λ (found : Found). record found { scope = record inner { names = drop (count_of_parts ps) inner.names } }) (passed-passed (with_faults s fs) before os (after_parts here ps) end)
    ∙ ap (λ (there : Scope). record (passed (with_faults s fs) (before ++ os) end) { scope = there }) (unbound-parts outer s.before.next o ps))))
    ∙ (ap (λ can. record (passed (with_faults s fs) (before ++ os) end) { scope = record outer { exports_allowed = can } }) was_is
    ∙ faults-passed s fs (before ++ os) end))

pub insert-behind : {A : Type 0} (xs ys : List A) (x : A) → insert (xs ++ ys) (length xs) x ≡ xs ++ (x ∷ ys)
insert-behind xs ys x =
    ap (λ before. before ++ x ∷ drop (length xs) (xs ++ ys)) (take-append_seam xs ys) ∙ ap (λ behind. xs ++ x ∷ behind) (drop-append_seam xs ys)

pub export-formed : (s r t u : Found) (at text_at : At) (file : Bytes) (e : Expression) (entry from : ℕ) →
    r ≡ record (with_faults s (in_case (not s.scope.exports_allowed) (NotHere at))) { before = with_export s.before } →
    t ≡ passed r (occurrences r.scope r.before formula_wanted e) (after r.before e) →
    entry ≡ length s.exports → from ≡ length s.reads →
    u ≡ record t { exports = insert t.exports entry (export_use text_at file (variables_read t.scope (drop from t.reads))) } →
    u ≡ formed s (enclosed at (Export text_at file) e)
export-formed s r t u at text_at file e entry from begun within entry_is from_is last =
    let fs = in_case (not s.scope.exports_allowed) (NotHere at) in
    let os = occurrences s.scope (with_export s.before) formula_wanted e in
    let end = after (with_export s.before) e in
    let G : Found → Found = λ there. passed there (occurrences there.scope there.before formula_wanted e) (after there.before e) in
    let found : t ≡ with_inside s fs [] os end = within ∙ (ap G begun ∙ faults-passed s fs os end) in
    let rs = flat_map readings_at os in
    let xs = flat_map export_at os in
    let N : Found → ℕ → ℕ → Found = λ there i j. record there { exports = insert there.exports i (export_use text_at file (variables_read there.scope (drop j there.reads))) } in
    last
    ∙ (ap (λ there. N there entry from) found
    ∙ (ap (λ i. N (with_inside s fs [] os end) i from) entry_is
    ∙ (ap (λ j. N (with_inside s fs [] os end) (length s.exports) j) from_is
    ∙ (ap (λ read. record (with_inside s fs [] os end) { exports = insert (s.exports ++ xs) (length s.exports) (export_use text_at file (variables_read s.scope read)) }) (drop-append_seam s.reads rs)
    ∙ ap (λ uses. record (with_inside s fs [] os end) { exports = uses }) (insert-behind s.exports xs (export_use text_at file (variables_read s.scope rs)))))))

-- a fact at a last call, whose answer is handed on
pub on_ok : {T E P : Type 0} (r : Result T E) → P → OnOk r P
on_ok (Ok value) here = here
on_ok (Err e) here = tt

-- what is handed on is the answer for the same expression
pub same_expression : {E : Type 0} (r : Result (Option Arg) E) (s u : Found) (e f : Expression) → e ≡ f →
    OnOk r (u ≡ formed s e) → IfOk r (λ value. option_map argument_of value ≡ typed s.scope s.before e)
    → record { state : OnOk r (u ≡ formed s f); value : IfOk r (λ value. option_map argument_of value ≡ typed s.scope s.before f) }
same_expression r s u e f same state value = record {
  state = subst (λ there. OnOk r (u ≡ formed s there)) same state;
  value = subst (λ there. IfOk r (λ value. option_map argument_of value ≡ typed s.scope s.before there)) same value;
}

-- what an answer that is handed on became
pub handed_on : {E : Type 0} (r : Result (Option Arg) E) (a b : Option Argument) →
    IfOk r (λ value. option_map argument_of value ≡ a) → a ≡ b → IfOk r (λ value. option_map argument_of value ≡ b)
handed_on r a b known same = subst (λ there. IfOk r (λ value. option_map argument_of value ≡ there)) same known
