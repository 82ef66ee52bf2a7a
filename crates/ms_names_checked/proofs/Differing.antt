-- Where nothing is wrong, names differ.
use Rattle.std.proofs.Common.{◌≡◌, ◌≢◌, ℕ, ◌+◌, All, Bool, true, false, if◌then◌else◌, List, [], ◌∷◌, ◌++◌, length, map, Option, Some, None, refl, sym, ap, subst, arith, append_assoc}
use Rattle.std.specs.Prelude.{bytes_eq, flat_map}
use Rattle.std.proofs.lemmas.Bool.Decides.{not_from_Decides}
use Rattle.std.proofs.lemmas.List.Elements.{All-cons, All-nil}
use Rattle.std.proofs.lemmas.List.Kept.{AllPairs-cons}
use Rattle.std.proofs.lemmas.Slice.Eq.{bytes_eq-Decides}
use Rattle.ms_list.specs.declared.at.At.{At as Place}
use Rattle.ms_logic.specs.declared.checked.ExportUse.{ExportUse}
use Rattle.ms_logic.specs.declared.checked.ImportUse.{ImportUse}
use Rattle.ms_logic.specs.declared.checked.MapPair.{MapPair}
use Rattle.ms_logic.specs.declared.source.Rename.{Rename}
use Rattle.ms_names_rules.specs.declared.fault.Fault.{Fault}
use Rattle.ms_names_rules.specs.declared.meaning.Meaning.{Meaning}
use Rattle.ms_names_rules.specs.declared.meaning.Meaning.TheVariants as meaning
use Rattle.ms_names_rules.specs.Declarations.{Known, after_declaration, declared_names, exports_in, faults_in, faults_of_declaration, faults_of_title, first_fault_from, occurrences_in, title_in, with_readings}
use Rattle.ms_logic.specs.Lists.{Each}
use Rattle.ms_names_rules.specs.Occurrence.{Occurrence}
use Rattle.ms_names_rules.specs.Rules.{faults_at, faults_of_bounds, faults_of_export, faults_of_exports, faults_of_form, faults_of_names, faults_of_order, faults_of_renames, faults_of_repeat, faults_of_variable, first_name_twice, in_case, is_name_among, with_names_of_bounds}
use Rattle.ms_names_rules.specs.Scope.{Scope, meaning_of, under_bounds, Bytes}
use Rattle.ms_parse_grammar.specs.Tree.{imported, Expression, atom, Variables, no_variables, and_variable, Declaration, variables, constant, predicate, included, default_restriction, formula, goal, Declared}
use Rattle.ms_names_rules.specs.TypedSource.{collected}
use Rattle.ms_names_rules.specs.Uses.{export_at, import_at, import_of_form, pair_of, pairs_of, with_files}
use Rattle.ms_names_rules.proofs.Fitting.{each-append}
use Rattle.ms_names_rules.proofs.Orders.{AreRight, back-empty, front-empty}
use Rattle.ms_names_checked.specs.Names.{AreDifferent}
use Rattle.ms_names_checked.proofs.Scopes.{default-names}
use Rattle.ms_names_checked.proofs.Globals.{names_in, names_of_bounds, names_of_globals}
use Rattle.ms_names_checked.proofs.Collected.{no-fault, right-both}

-- each name is among none of the earlier ones and none before it
abbrev pub Fresh : List Bytes → List Bytes → Type 0
Fresh earlier [] = Unit {0}
Fresh earlier (n ∷ ns) = (is_name_among n earlier ≡ false) × Fresh (n ∷ earlier) ns

-- tests

choose-false : (b c : Bool) → (if b then true else c) ≡ false → (b ≡ false) × (c ≡ false)
choose-false true c h = absurd (cc)
choose-false false c h = (refl, h)

false-both : (b c : Bool) → b ≡ false → c ≡ false → (if b then true else c) ≡ false
false-both true c h k = absurd (cc)
false-both false c h k = k

names-differ : (n m : Bytes) → bytes_eq n m ≡ false → n ≢ m
names-differ n m h = not_from_Decides (bytes_eq n m) (bytes_eq-Decides n m) h

pub not-in-case : (b : Bool) (f : Fault) → in_case b f ≡ [] → b ≡ false
not-in-case true f h = absurd (cc)
not-in-case false f h = refl

-- fewer names were there earlier
fresh-weaker : (few many ns : List Bytes) → ((m : Bytes) → is_name_among m many ≡ false → is_name_among m few ≡ false) → Fresh many ns → Fresh few ns
fresh-weaker few many [] weaker h = tt
fresh-weaker few many (n ∷ ns) weaker h = (
  weaker n h.0,
  fresh-weaker (n ∷ few) (n ∷ many) ns
      (λ m both. let split = choose-false (bytes_eq n m) (is_name_among m many) both in false-both (bytes_eq n m) (is_name_among m few) split.0 (weaker m split.1)) h.1,
)

pub fresh-later : (n : Bytes) (earlier ns : List Bytes) → Fresh (n ∷ earlier) ns → Fresh earlier ns
fresh-later n earlier ns h = fresh-weaker earlier (n ∷ earlier) ns (λ m both. (choose-false (bytes_eq n m) (is_name_among m earlier) both).1) h

-- fresh names are all different

pub none-among : (earlier ns : List Bytes) → Fresh earlier ns → Each (λ m. is_name_among m earlier ≡ false) ns
none-among earlier [] h = tt
none-among earlier (n ∷ ns) h = (h.0, none-among earlier ns (fresh-later n earlier ns h.1))

pub all-others : (n : Bytes) (earlier ns : List Bytes) → Each (λ m. is_name_among m (n ∷ earlier) ≡ false) ns → All (λ m. n ≢ m) ns
all-others n earlier [] h = All-nil (λ m. n ≢ m)
all-others n earlier (m ∷ ns) h =
    All-cons (λ k. n ≢ k) m ns (names-differ n m (choose-false (bytes_eq n m) (is_name_among m earlier) h.0).0) (all-others n earlier ns h.1)

no-pairs : AreDifferent []
no-pairs = λ i j d less within. absurd (omega arith)

pub fresh-different : (earlier ns : List Bytes) → Fresh earlier ns → AreDifferent ns
fresh-different earlier [] h = no-pairs
fresh-different earlier (n ∷ ns) h =
    AllPairs-cons (λ k m. k ≢ m) n ns (all-others n earlier ns (none-among (n ∷ earlier) ns h.1)) (fresh-different (n ∷ earlier) ns h.1)

-- globals

declared-bounds : (s : Scope) (x : ℕ) (vs : Variables) → with_names_of_bounds (declared_names s) vs ≡ declared_names (under_bounds s x vs)
declared-bounds s x no_variables = refl
declared-bounds s x (and_variable vs at o n d) = ap (λ names. n ∷ names) (declared-bounds s x vs)

fresh-bounds : (s : Scope) (x : ℕ) (vs : Variables) (ns : List Bytes) → faults_of_bounds (declared_names s) vs ≡ [] → Fresh (declared_names (under_bounds s x vs)) ns →
    Fresh (declared_names s) (names_of_bounds vs ++ ns)
fresh-bounds s x no_variables ns right h = h
fresh-bounds s x (and_variable vs at o n d) ns right h =
    let before = faults_of_bounds (declared_names s) vs in
    let last = faults_of_repeat at n (with_names_of_bounds (declared_names s) vs) in
    let here = not-in-case (is_name_among n (with_names_of_bounds (declared_names s) vs)) _ (back-empty before last right) in
    subst (Fresh (declared_names s)) (sym (append_assoc (names_of_bounds vs) (n ∷ []) ns))
    (fresh-bounds s x vs (n ∷ ns) (front-empty before last right) (subst (λ names. is_name_among n names ≡ false) (declared-bounds s x vs) here, h))

fresh-declaration : (k : Known) (d : Declaration) (ns : List Bytes) → faults_of_declaration k d ≡ [] → Fresh (declared_names (after_declaration k d).scope) ns →
    Fresh (declared_names k.scope) (names_in d ++ ns)
fresh-declaration k (variables vs) ns right h = fresh-bounds k.scope k.globals vs ns right h
fresh-declaration k (constant at n is) ns right h = fresh-later n (declared_names k.scope) ns h
fresh-declaration k (predicate is_pred at n vs e) ns right h = fresh-later n (declared_names k.scope) ns h
fresh-declaration k (included text_at file) ns right h = h
fresh-declaration k (default_restriction o n e) ns right h =
    subst (λ earlier. Fresh earlier ns) (ap (map (λ entry. entry.0)) (default-names (with_readings (occurrences_in k (default_restriction o n e)) k.scope) o (length k.scope.readings))) h
fresh-declaration k (formula e) ns right h = h
fresh-declaration k (goal name_at title e) ns right h = h

pub fresh-globals : (k : Known) (ds : List Declared) → first_fault_from k ds ≡ None → Fresh (declared_names k.scope) (names_of_globals ds)
fresh-globals k [] right = tt
fresh-globals k (d ∷ ds) right =
    let both = right-both k d ds right in
    let none = no-fault (faults_in k d.declaration) both.0 in
    fresh-declaration k d.declaration (names_of_globals ds)
    (front-empty (faults_of_declaration k d.declaration) _ (back-empty (faults_of_title k.titles (title_in d.declaration)) _ none))
    (fresh-globals (after_declaration k d.declaration) ds both.1)

-- exports

choose-empty : (b : Bool) (f : Fault) (fs : List Fault) → (if b then f ∷ [] else fs) ≡ [] → (b ≡ false) × (fs ≡ [])
choose-empty true f fs h = absurd (cc)
choose-empty false f fs h = (refl, h)

choose-none : (b : Bool) (n : Bytes) (found : Option Bytes) → (if b then Some n else found) ≡ None → (b ≡ false) × (found ≡ None)
choose-none true n found h = absurd (cc)
choose-none false n found h = (refl, h)

none-twice : (at : Place) (found : Option Bytes) → faults_of_names at found ≡ [] → found ≡ None
none-twice at None h = refl
none-twice at (Some n) h = absurd (cc)

all-later : (n : Bytes) (ns : List Bytes) → is_name_among n ns ≡ false → All (λ m. n ≢ m) ns
all-later n [] h = All-nil (λ m. n ≢ m)
all-later n (m ∷ ns) h =
    let split = choose-false (bytes_eq m n) (is_name_among n ns) h in
    All-cons (λ k. n ≢ k) m ns (λ same. names-differ m n split.0 (sym same)) (all-later n ns split.1)

once-different : (ns : List Bytes) → first_name_twice ns ≡ None → AreDifferent ns
once-different [] h = no-pairs
once-different (n ∷ ns) h =
    let split = choose-none (is_name_among n ns) n (first_name_twice ns) h in
    AllPairs-cons (λ k m. k ≢ m) n ns (all-later n ns split.0) (once-different ns split.1)

abbrev pub files_of : List ExportUse → List Bytes
files_of xs = map (λ (x : ExportUse). x.name) xs

abbrev pub HaveDifferent : List ExportUse → Type 0
HaveDifferent xs = Each (λ (x : ExportUse). AreDifferent x.names) xs

fresh-exports : (earlier : List Bytes) (xs more : List ExportUse) → faults_of_exports earlier xs ≡ [] → Fresh (with_files earlier xs) (files_of more) → HaveDifferent more →
    Fresh earlier (files_of (xs ++ more)) × HaveDifferent (xs ++ more)
fresh-exports earlier [] more right h k = (h, k)
fresh-exports earlier (x ∷ xs) more right h k =
    let here = choose-empty (is_name_among x.name earlier) _ (faults_of_names x.at (first_name_twice x.names)) (front-empty (faults_of_export earlier x) (faults_of_exports (x.name ∷ earlier) xs) right) in
    let rest = fresh-exports (x.name ∷ earlier) xs more (back-empty (faults_of_export earlier x) (faults_of_exports (x.name ∷ earlier) xs) right) h k in
    ((here.0, rest.0), (once-different x.names (none-twice x.at (first_name_twice x.names) here.1), rest.1))

pub exports-different : (k : Known) (item : ℕ) (ds : List Declared) → first_fault_from k ds ≡ None →
    Fresh k.files (files_of (collected (λ k item d. flat_map export_at (occurrences_in k d.declaration)) k item ds))
    × HaveDifferent (collected (λ k item d. flat_map export_at (occurrences_in k d.declaration)) k item ds)
exports-different k item [] right = (tt, tt)
exports-different k item (d ∷ ds) right =
    let both = right-both k d ds right in
    let none = no-fault (faults_in k d.declaration) both.0 in
    let others = flat_map faults_at (occurrences_in k d.declaration) in
    let last = faults_of_exports k.files (exports_in k d.declaration) in
    let own = faults_of_declaration k d.declaration in
    let next = after_declaration k d.declaration in
    let rest = exports-different next (item + 1) ds both.1 in
    fresh-exports k.files (exports_in k d.declaration) (collected (λ k item d. flat_map export_at (occurrences_in k d.declaration)) next (item + 1) ds)
    (back-empty others last (back-empty own (others ++ last) (back-empty (faults_of_title k.titles (title_in d.declaration)) (own ++ (others ++ last)) none))) rest.0 rest.1

-- imports

abbrev lefts_of : List MapPair → List Bytes
lefts_of pairs = map (λ (p : MapPair). p.name) pairs

fresh-pair : (lefts : List Bytes) (n : Bytes) (m : Option Meaning) (rest : List MapPair) → is_name_among n lefts ≡ false → Fresh (n ∷ lefts) (lefts_of rest) → Fresh lefts (lefts_of (pair_of n m ++ rest))
fresh-pair lefts n None rest here h = fresh-later n lefts (lefts_of rest) h
fresh-pair lefts n (Some (meaning.Variable x o)) rest here h = (here, h)
fresh-pair lefts n (Some (meaning.Constant value)) rest here h = fresh-later n lefts (lefts_of rest) h
fresh-pair lefts n (Some (meaning.Predicate p parameters)) rest here h = fresh-later n lefts (lefts_of rest) h

-- where nothing is wrong with pairs, neither name of the first stands before it, and nothing is wrong with the others
pub first-rename : (s : Scope) (lefts rights : List Bytes) (r : Rename) (rs : List Rename) → faults_of_renames s lefts rights (r ∷ rs) ≡ [] →
    (is_name_among r.left lefts ≡ false) × (is_name_among r.right rights ≡ false) × (faults_of_renames s (r.left ∷ lefts) (r.right ∷ rights) rs ≡ [])
first-rename s lefts rights r rs right =
    let first = faults_of_repeat r.at r.left lefts in
    let second = faults_of_variable r.at_right r.right (meaning_of s r.right) in
    let third = faults_of_repeat r.at_right r.right rights in
    let rest = faults_of_renames s (r.left ∷ lefts) (r.right ∷ rights) rs in
    let behind = back-empty second (third ++ rest) (back-empty first (second ++ (third ++ rest)) right) in (
      not-in-case (is_name_among r.left lefts) _ (front-empty first (second ++ (third ++ rest)) right),
      not-in-case (is_name_among r.right rights) _ (front-empty third rest behind),
      back-empty third rest behind,
    )

fresh-renames : (s : Scope) (lefts rights : List Bytes) (rs : List Rename) → faults_of_renames s lefts rights rs ≡ [] → Fresh lefts (lefts_of (pairs_of s rs))
fresh-renames s lefts rights [] right = tt
fresh-renames s lefts rights (r ∷ rs) right =
    let told = first-rename s lefts rights r rs right in
    fresh-pair lefts r.left (meaning_of s r.right) (pairs_of s rs) told.0 (fresh-renames s (r.left ∷ lefts) (r.right ∷ rights) rs told.2)

abbrev pub HasDifferentLefts : ImportUse → Type 0
HasDifferentLefts used = AreDifferent (lefts_of used.pairs)

form-different : (s : Scope) (e : Expression) → faults_of_form s e ≡ [] → Each HasDifferentLefts (import_of_form s e)
form-different s (atom at (imported file rs)) right = (fresh-different [] (lefts_of (pairs_of s rs)) (fresh-renames s [] [] rs right), tt)
form-different s _ right = tt

pub imports-different : (os : List Occurrence) → AreRight os → Each HasDifferentLefts (flat_map import_at os)
imports-different [] right = tt
imports-different (o ∷ os) right =
    let here = front-empty (faults_at o) (flat_map faults_at os) right in
    each-append HasDifferentLefts (import_at o) (flat_map import_at os)
    (form-different o.scope o.expression (back-empty (faults_of_order o.scope o.wanted o.expression) (faults_of_form o.scope o.expression) here))
    (imports-different os (back-empty (faults_at o) (flat_map faults_at os) right))
