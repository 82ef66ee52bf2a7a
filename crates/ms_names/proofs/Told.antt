-- A check after a declaration but for its exports.
use Rattle.std.proofs.Common.{◌≡◌, ℕ, List, [], ◌∷◌, ◌++◌, append_assoc, ◌≤◌, length, length-append, arith, drop, None, refl, sym, subst, ap, ◌∙◌, Bool}
use Rattle.std.specs.Prelude.{flat_map}
use Rattle.std.proofs.lemmas.List.{append-nil}
use Rattle.std.proofs.Math.Seq.{drop-append_seam}
use Rattle.ms_list.specs.declared.at.At.{At}
use Rattle.ms_logic.specs.declared.mode.Order.{Order}
use Rattle.ms_logic.specs.declared.source.PlacedInt.{PlacedInt}
use Rattle.ms_names_rules.specs.declared.fault.Fault.{Fault}
use Rattle.ms_names_rules.specs.declared.meaning.Meaning.TheVariants.{Constant, Predicate}
use Rattle.ms_names_rules.specs.declared.meaning.Reading.{Reading}
use Rattle.ms_names_rules.specs.Scope.{Bytes, bind, count_of_bounds, under_bounds, with_default}
use Rattle.ms_parse_grammar.specs.Tree.{Expression, Variables, Declaration, variables, constant, predicate, default_restriction, formula}
use Rattle.ms_names_rules.specs.Declarations.{Known, after_declaration, declared_names, exports_in, faults_of_declaration, faults_of_sum, faults_of_title, next_predicate, occurrences_in, occurrences_in_default, occurrences_in_predicate, orders_of_bounds, title_in}
use Rattle.ms_names_rules.specs.Before.{after, after_bounds, with_names}
use Rattle.ms_names_rules.specs.Constant.{sum_from, value_of_sum}
use Rattle.ms_names_rules.specs.Fault.{first_with}
use Rattle.ms_names_rules.specs.Order.{formula_wanted}
use Rattle.ms_names_rules.specs.Occurrence.{occurrences, inside_bounds}
use Rattle.ms_names_rules.specs.Reads.{readings_at}
use Rattle.ms_names_rules.specs.Rules.{faults_at, faults_of_bounds, faults_of_exports, faults_of_placed, faults_of_repeat}
use Rattle.ms_names_rules.specs.Uses.{import_at, export_at, with_files}
use Rattle.ms_names_scopes.specs.declared.taken.Taken.{Taken}
use Rattle.ms_names_scopes.specs.inner.Found.{after_restrictions, Found, with_faults, passed}
use Rattle.ms_names_scopes.specs.inner.Declaration.{known_at, read_through, told}
use Rattle.ms_names.specs.inner.Outcome.{declared_in}
use Rattle.ms_names_scopes.proofs.Findings.{first_with-append}
use Rattle.ms_names_rules.proofs.Orders.{ordered}

-- what is told of a declaration is told of the same one
pub told-same : (s u : Found) (k : Known) {d e : Declaration} → d ≡ e → u ≡ told s k d u.reads → u ≡ told s k e u.reads
told-same s u k same is = is ∙ ap (λ there. told s k there u.reads) same

kept-reads : (u v : Found) → u ≡ v → u ≡ record v { reads = u.reads }
kept-reads u v same = let P : Found → Type 0 = λ there. u ≡ record there { reads = u.reads } in subst P same refl

pub formula-told : (s u : Found) (count : ℕ) (taken : Taken) (e : Expression) →
    u ≡ passed s (occurrences s.scope s.before formula_wanted e) (after s.before e) →
    u ≡ told s (known_at s count taken) (formula e) u.reads
formula-told s u count taken e within = kept-reads u (passed s (occurrences s.scope s.before formula_wanted e) (after s.before e)) within

pub globals-told : (s r u : Found) (first : ℕ) (taken : Taken) (vs : Variables) →
    r ≡ with_faults s (faults_of_bounds (declared_names s.scope) vs) →
    u ≡ after_restrictions r first vs →
    u ≡ told s (known_at s first taken) (variables vs) u.reads
globals-told s r u first taken vs checked restricted_are =
    let fs = faults_of_bounds (declared_names s.scope) vs in
    let os = inside_bounds s.scope first s.before vs in
    let end : Found = record (passed s os (after_bounds s.before vs)) { scope = under_bounds s.scope first vs } in
    kept-reads u (record end { first = first_with s.first (fs ++ flat_map faults_at os) })
    (restricted_are ∙ (ap (λ (there : Found). after_restrictions there first vs) checked
    ∙ ap (λ known. record end { first = known }) (sym (first_with-append s.first fs (flat_map faults_at os)))))

pub constant-told : (s r u : Found) (count : ℕ) (taken : Taken) (at : At) (n : Bytes) (is : List PlacedInt) (value : ℕ) →
    r ≡ with_faults s (faults_of_repeat at n (declared_names s.scope) ++ (faults_of_sum at (sum_from s.scope 0 is) ++ flat_map (faults_of_placed s.scope) is)) →
    value ≡ value_of_sum (sum_from s.scope 0 is) →
    u ≡ record r { scope = bind n (Constant value) r.scope } →
    u ≡ told s (known_at s count taken) (constant at n is) u.reads
constant-told s r u count taken at n is value checked valued bound =
    let fs = faults_of_repeat at n (declared_names s.scope) ++ (faults_of_sum at (sum_from s.scope 0 is) ++ flat_map (faults_of_placed s.scope) is) in
    let m = Constant (value_of_sum (sum_from s.scope 0 is)) in
    let plain : Found = record (with_faults s fs) { scope = bind n m s.scope } in
    let all : Found = record {
      scope = bind n m s.scope;
      before = s.before;
      first = first_with s.first (fs ++ []);
      reads = s.reads;
      imports = s.imports ++ [];
      exports = s.exports ++ [];
    } in
    let padded : plain ≡ all = λ i. record {
      scope = bind n m s.scope;
      before = s.before;
      first = first_with s.first (sym (append-nil fs) i);
      reads = s.reads;
      imports = sym (append-nil s.imports) i;
      exports = sym (append-nil s.exports) i;
    } in
    kept-reads u all
    (bound ∙ (ap (λ v. record r { scope = bind n (Constant v) r.scope }) valued
    ∙ (ap (λ (there : Found). record there { scope = bind n m there.scope }) checked ∙ padded)))

pub predicate-told : (s r p t u v : Found) (count : ℕ) (taken : Taken) (is_pred : Bool) (at : At) (n : Bytes) (vs : Variables) (e : Expression) (number : ℕ) (orders : List Order) →
    s.reads ≡ [] →
    r ≡ with_faults s (faults_of_repeat at n (declared_names s.scope)) →
    p ≡ with_faults r (faults_of_bounds [] vs) →
    t ≡ passed p (occurrences_in_predicate p.scope p.before vs e) (after (after_bounds (with_names p.before (count_of_bounds vs)) vs) e) →
    number ≡ next_predicate t.scope → u ≡ read_through t →
    orders ≡ orders_of_bounds vs →
    v ≡ record u { scope = bind n (Predicate number orders) u.scope } →
    v ≡ told s (known_at s count taken) (predicate is_pred at n vs e) v.reads
predicate-told s r p t u v count taken is_pred at n vs e number orders empty declared_once different within numbered noted_as ordered bound =
    let fs = faults_of_repeat at n (declared_names s.scope) in
    let gs = faults_of_bounds [] vs in
    let os = occurrences_in_predicate s.scope s.before vs e in
    let end = after (after_bounds (with_names s.before (count_of_bounds vs)) vs) e in
    let G : Found → Found = λ there. passed there (occurrences_in_predicate there.scope there.before vs e) (after (after_bounds (with_names there.before (count_of_bounds vs)) vs) e) in
    let known : p ≡ record s { first = first_with (first_with s.first fs) gs } = different ∙ ap (λ there. with_faults there gs) declared_once in
    let N : Found → Found = λ there. record (read_through there) { scope = bind n (Predicate (next_predicate there.scope) (orders_of_bounds vs)) (read_through there).scope } in
    let begun = record s { first = first_with (first_with s.first fs) gs } in
    let F : List Reading → List Fault → Found = λ reads found. record {
      scope = bind n (Predicate (length s.scope.readings) (orders_of_bounds vs)) (record s.scope { readings = (reads ++ flat_map readings_at os) ∷ s.scope.readings });
      before = end;
      first = first_with s.first found;
      reads = [];
      imports = s.imports ++ flat_map import_at os;
      exports = s.exports ++ flat_map export_at os;
    } in
    let found : first_with (first_with (first_with s.first fs) gs) (flat_map faults_at os) ≡ first_with s.first ((fs ++ gs) ++ flat_map faults_at os) =
    ap (λ known. first_with known (flat_map faults_at os)) (sym (first_with-append s.first fs gs)) ∙ sym (first_with-append s.first (fs ++ gs) (flat_map faults_at os)) in
    kept-reads v (F [] ((fs ++ gs) ++ flat_map faults_at os))
    (bound
    ∙ (ap (λ (there : Found). record there { scope = bind n (Predicate number orders) there.scope }) noted_as
    ∙ (ap (λ k. record (read_through t) { scope = bind n (Predicate k orders) (read_through t).scope }) numbered
    ∙ (ap (λ qs. record (read_through t) { scope = bind n (Predicate (next_predicate t.scope) qs) (read_through t).scope }) ordered
    ∙ (ap N (within ∙ ap G known)
    ∙ (ap (λ first. record (N (passed begun os end)) { first = first }) found
    ∙ ap (λ reads. F reads ((fs ++ gs) ++ flat_map faults_at os)) empty))))))

pub default-told : (s t u v : Found) (count : ℕ) (taken : Taken) (o : Order) (n : Bytes) (e : Expression) (number : ℕ) →
    s.reads ≡ [] →
    t ≡ passed s (occurrences_in_default s.scope s.before o n e) (after (with_names s.before 1) e) →
    number ≡ next_predicate t.scope → u ≡ read_through t →
    v ≡ record u { scope = with_default o number u.scope } →
    v ≡ told s (known_at s count taken) (default_restriction o n e) v.reads
default-told s t u v count taken o n e number empty within numbered noted_as held =
    let os = occurrences_in_default s.scope s.before o n e in
    let end = after (with_names s.before 1) e in
    let F : List Reading → Found = λ reads. record {
      scope = with_default o (length s.scope.readings) (record s.scope { readings = (reads ++ flat_map readings_at os) ∷ s.scope.readings });
      before = end;
      first = first_with s.first (flat_map faults_at os);
      reads = [];
      imports = s.imports ++ flat_map import_at os;
      exports = s.exports ++ flat_map export_at os;
    } in
    let N : Found → Found = λ there. record (read_through there) { scope = with_default o (next_predicate there.scope) (read_through there).scope } in
    kept-reads v (F [])
    (held
    ∙ (ap (λ (there : Found). record there { scope = with_default o number there.scope }) noted_as
    ∙ (ap (λ k. record (read_through t) { scope = with_default o k (read_through t).scope }) numbered
    ∙ (ap N within ∙ ap F empty))))

-- a declaration with its exports

exports-here : (s t : Found) (k : Known) (d : Declaration) (from : ℕ) (reads : List Reading) →
    t ≡ told s k d reads → from ≡ length s.exports → drop from t.exports ≡ exports_in k d
exports-here s t k d from reads found from_is =
    ap (λ (there : Found). drop from there.exports) found
    ∙ (ap (λ n. drop n (s.exports ++ exports_in k d)) from_is ∙ drop-append_seam s.exports (exports_in k d))

pub declared-files : (s r q t : Found) (count : ℕ) (taken : Taken) (more : List Bytes) (d : Declaration) (from : ℕ) →
    r ≡ record s { first = None; reads = [] } →
    q ≡ with_faults r (faults_of_title taken.titles (title_in d)) →
    from ≡ length q.exports →
    t ≡ told q (known_at q count taken) d t.reads →
    more ≡ with_files taken.files (drop from t.exports) →
    more ≡ (after_declaration (known_at s count taken) d).files
declared-files s r q t count taken more d from begun titled from_is found checked =
    let files : Found → List Bytes = λ there. with_files taken.files (exports_in (known_at there count taken) d) in
    checked ∙ (ap (with_files taken.files) (exports-here q t (known_at q count taken) d from t.reads found from_is)
    ∙ (ap files titled ∙ ap files begun))

pub declared-all : (s r q t u : Found) (count : ℕ) (taken : Taken) (d : Declaration) (from : ℕ) →
    r ≡ record s { first = None; reads = [] } →
    q ≡ with_faults r (faults_of_title taken.titles (title_in d)) →
    from ≡ length q.exports →
    t ≡ told q (known_at q count taken) d t.reads →
    u ≡ with_faults t (faults_of_exports taken.files (drop from t.exports)) →
    u ≡ declared_in s (known_at s count taken) d u.reads
declared-all s r q t u count taken d from begun titled from_is found checked =
    let k = known_at s count taken in
    let ts = faults_of_title taken.titles (title_in d) in
    let fs = faults_of_declaration k d in
    let gs = flat_map faults_at (occurrences_in k d) in
    let hs = faults_of_exports taken.files (exports_in k d) in
    let start : Found = record s { first = None; reads = [] } in
    let end : Found = told start k d t.reads in
    let F : Found → Found = λ there. with_faults (told there (known_at there count taken) d t.reads) (faults_of_exports taken.files (exports_in (known_at there count taken) d)) in
    let G : Found → Found = λ there. F (with_faults there ts) in
    let first = first_with None ts in
    kept-reads u (record end { first = first_with None (ts ++ (fs ++ (gs ++ hs))) })
    (checked
    ∙ (ap (λ xs. with_faults t (faults_of_exports taken.files xs)) (exports-here q t (known_at q count taken) d from t.reads found from_is)
    ∙ (ap (λ there. with_faults there (faults_of_exports taken.files (exports_in (known_at q count taken) d))) found
    ∙ (ap F titled
    ∙ (ap G begun
    ∙ ap (λ known. record end { first = known })
    (sym (first_with-append first (fs ++ gs) hs) ∙ (ap (first_with first) (append_assoc fs gs hs) ∙ sym (first_with-append None ts (fs ++ (gs ++ hs))))))))))

pub from-within : (s t : Found) (k : Known) (d : Declaration) (from : ℕ) (reads : List Reading) →
    t ≡ told s k d reads → from ≡ length s.exports → from ≤ length t.exports
from-within s t k d from reads found is =
    let P : Found → Type 0 = λ there. from ≤ length there.exports in
    let e = length-append s.exports (exports_in k d) in
    let within : from ≤ length (s.exports ++ exports_in k d) = omega (arith, e) in
    subst P (sym found) within
