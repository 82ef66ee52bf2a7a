-- Different names of a scope stand for different variables, and so do the right sides of an import.
use Rattle.std.proofs.Common.{◌≡◌, ◌≢◌, ◌⊎◌, ⊎_elim, inl, inr, ℕ, ◌+◌, ◌<◌, ◌≤◌, All, AllPairs, Bool, true, false, if◌then◌else◌, List, [], ◌∷◌, ◌++◌, map, Option, Some, None, refl, sym, ap, subst, ◌∙◌, arith}
use Rattle.std.specs.Prelude.{bytes_eq, flat_map}
use Rattle.std.proofs.lemmas.List.Elements.{All-cons, All-head, All-nil, All-tail}
use Rattle.std.proofs.lemmas.List.Kept.{AllPairs-cons}
use Rattle.std.proofs.lemmas.Option.{none-some, same_Some}
use Rattle.std.proofs.lemmas.Slice.Eq.{bytes_eq-Decides}
use Rattle.ms_logic.specs.declared.checked.MapPair.{MapPair}
use Rattle.ms_logic.specs.declared.mode.Order.{Order}
use Rattle.ms_logic.specs.declared.source.Rename.{Rename}
use Rattle.ms_logic.specs.Lists.{Each}
use Rattle.ms_names_rules.specs.declared.meaning.Meaning.{Meaning}
use Rattle.ms_names_rules.specs.declared.meaning.Meaning.TheVariants as meaning
use Rattle.ms_names_rules.specs.Declarations.{Known, after_declaration, count_of_globals, first_fault_from, occurrences_in}
use Rattle.ms_names_rules.specs.Occurrence.{Occurrence}
use Rattle.ms_names_rules.specs.Rules.{faults_at, faults_of_form, faults_of_order, faults_of_renames}
use Rattle.ms_names_rules.specs.Scope.{Scope, meaning_among, meaning_of, Bytes}
use Rattle.ms_parse_grammar.specs.Tree.{imported, Expression, atom, Declared}
use Rattle.ms_names_rules.specs.TypedSource.{collected}
use Rattle.ms_names_rules.specs.Uses.{import_at, import_of_form, pair_of, pairs_of}
use Rattle.ms_names_rules.proofs.Fitting.{Falls, IsBelow, each-append}
use Rattle.ms_names_rules.proofs.Makes.{right-there}
use Rattle.ms_names_rules.proofs.Orders.{AreRight, back-empty, front-empty}
use Rattle.ms_names_checked.specs.Names.{HasDifferentRights}
use Rattle.ms_names_checked.proofs.Collected.{right-both}
use Rattle.ms_names_checked.proofs.Differing.{Fresh, all-others, first-rename, none-among}
use Rattle.ms_names_checked.proofs.Falling.{AreFalling, HasFalling, declaration-falling, falling-after}
use Rattle.ms_names_checked.proofs.Scopes.{Names}
use Rattle.ms_names_checked.proofs.Stages.{declaration-grows}
use Rattle.ms_names_rules.proofs.Lists.{apart}

-- names of a scope

chosen : (b : Bool) (m : Meaning) (outer : Option Meaning) (found : Meaning) → (if b then Some m else outer) ≡ Some found → ((b ≡ true) × (m ≡ found)) ⊎ (outer ≡ Some found)
chosen true m outer found is = inl (refl, same_Some m found is)
chosen false m outer found is = inr is

falls-outer : (n : Bytes) (m : Meaning) (outer : Names) → Falls ((n, m) ∷ outer) → Falls outer
falls-outer n (meaning.Variable x o) outer h = h.1
falls-outer n (meaning.Constant value) outer h = h
falls-outer n (meaning.Predicate p parameters) outer h = h

falls-here : (n : Bytes) (m : Meaning) (x : ℕ) (o : Order) (outer : Names) → m ≡ meaning.Variable x o → Falls ((n, m) ∷ outer) → Each (IsBelow x) outer
falls-here n m x o outer is h =
    let P : Meaning → Type 0 = λ k. Falls ((n, k) ∷ outer) in
    let there : Falls ((n, meaning.Variable x o) ∷ outer) = subst P is h in there.0

declared-below : (x : ℕ) (names : Names) (n : Bytes) (y : ℕ) (o : Order) → Each (IsBelow x) names → meaning_among names n ≡ Some (meaning.Variable y o) → y < x
declared-below x [] n y o below is = absurd (none-some (meaning.Variable y o) is)
declared-below x ((e, m) ∷ outer) n y o below is =
    ⊎_elim (λ here. let P : Meaning → Type 0 = λ k. IsBelow x (e, k) in let there : IsBelow x (e, meaning.Variable y o) = subst P here.1 below.0 in there)
    (λ further. declared-below x outer n y o below.1 further) (chosen (bytes_eq e n) m (meaning_among outer n) (meaning.Variable y o) is)

-- a variable has one name
same-name : (names : Names) (n m : Bytes) (x : ℕ) (o p : Order) → Falls names → meaning_among names n ≡ Some (meaning.Variable x o) → meaning_among names m ≡ Some (meaning.Variable x p) → n ≡ m
same-name [] n m x o p falls first second = absurd (none-some (meaning.Variable x o) first)
same-name ((e, k) ∷ outer) n m x o p falls first second =
    ⊎_elim
    (λ here. ⊎_elim (λ there. sym ((bytes_eq-Decides e n).0 here.0) ∙ (bytes_eq-Decides e m).0 there.0)
    (λ further. let less = declared-below x outer m x p (falls-here e k x o outer here.1 falls) further in absurd (omega (arith, less))) (chosen (bytes_eq e m) k (meaning_among outer m) (meaning.Variable x p) second))
    (λ deeper. ⊎_elim (λ there. let less = declared-below x outer n x o (falls-here e k x p outer there.1 falls) deeper in absurd (omega (arith, less)))
    (λ further. same-name outer n m x o p (falls-outer e k outer falls) deeper further) (chosen (bytes_eq e m) k (meaning_among outer m) (meaning.Variable x p) second))
    (chosen (bytes_eq e n) k (meaning_among outer n) (meaning.Variable x o) first)

-- right sides

abbrev rights_of : List Rename → List Bytes
rights_of rs = map (λ (r : Rename). r.right) rs

abbrev numbers_of : List MapPair → List ℕ
numbers_of pairs = map (λ (p : MapPair). p.variable) pairs

fresh-rights : (s : Scope) (lefts rights : List Bytes) (rs : List Rename) → faults_of_renames s lefts rights rs ≡ [] → Fresh rights (rights_of rs)
fresh-rights s lefts rights [] right = tt
fresh-rights s lefts rights (r ∷ rs) right =
    let told = first-rename s lefts rights r rs right in (told.1, fresh-rights s (r.left ∷ lefts) (r.right ∷ rights) rs told.2)

none-different : AllPairs (λ (x : ℕ) y. x ≢ y) []
none-different = λ i j d less within. absurd (omega arith)

module _ (s : Scope) (falls : Falls s.names) where
  other-pair : (n : Bytes) (x : ℕ) (o : Order) (l m : Bytes) (found : Option Meaning) (rest : List MapPair) → meaning_of s n ≡ Some (meaning.Variable x o) → meaning_of s m ≡ found → n ≢ m
      → All (λ y. x ≢ y) (numbers_of rest) → All (λ y. x ≢ y) (numbers_of (pair_of l found ++ rest))
  other-pair n x o l m None rest is there differ others = others
  other-pair n x o l m (Some (meaning.Variable y p)) rest is there differ others =
      All-cons (λ z. x ≢ z) y (numbers_of rest) (λ same. differ (same-name s.names n m x o p falls is (there ∙ ap (λ z. Some (meaning.Variable z p)) (sym same)))) others
  other-pair n x o l m (Some (meaning.Constant value)) rest is there differ others = others
  other-pair n x o l m (Some (meaning.Predicate p parameters)) rest is there differ others = others

  others-apart : (n : Bytes) (x : ℕ) (o : Order) (rs : List Rename) → meaning_of s n ≡ Some (meaning.Variable x o) → All (λ m. n ≢ m) (rights_of rs) → All (λ y. x ≢ y) (numbers_of (pairs_of s rs))
  others-apart n x o [] is apart = All-nil (λ y. x ≢ y)
  others-apart n x o (r ∷ rs) is apart =
      other-pair n x o r.left r.right (meaning_of s r.right) (pairs_of s rs) is refl (All-head (λ m. n ≢ m) r.right (rights_of rs) apart)
      (others-apart n x o rs is (All-tail (λ m. n ≢ m) r.right (rights_of rs) apart))

  one-apart : (l n : Bytes) (found : Option Meaning) (rs : List Rename) → meaning_of s n ≡ found → All (λ m. n ≢ m) (rights_of rs) → AllPairs (λ x y. x ≢ y) (numbers_of (pairs_of s rs))
      → AllPairs (λ x y. x ≢ y) (numbers_of (pair_of l found ++ pairs_of s rs))
  one-apart l n None rs is apart rest = rest
  one-apart l n (Some (meaning.Variable x o)) rs is apart rest = AllPairs-cons (λ y z. y ≢ z) x (numbers_of (pairs_of s rs)) (others-apart n x o rs is apart) rest
  one-apart l n (Some (meaning.Constant value)) rs is apart rest = rest
  one-apart l n (Some (meaning.Predicate p parameters)) rs is apart rest = rest

  numbers-apart : (earlier : List Bytes) (rs : List Rename) → Fresh earlier (rights_of rs) → AllPairs (λ x y. x ≢ y) (numbers_of (pairs_of s rs))
  numbers-apart earlier [] h = none-different
  numbers-apart earlier (r ∷ rs) h =
      one-apart r.left r.right (meaning_of s r.right) rs refl (all-others r.right earlier (rights_of rs) (none-among (r.right ∷ earlier) (rights_of rs) h.1)) (numbers-apart (r.right ∷ earlier) rs h.1)

-- imports

form-apart : (s : Scope) (e : Expression) → Falls s.names → faults_of_form s e ≡ [] → Each HasDifferentRights (import_of_form s e)
form-apart s (atom at (imported file rs)) falls right = (numbers-apart s falls [] rs (fresh-rights s [] [] rs right), tt)
form-apart s _ falls right = tt

rights-apart : (os : List Occurrence) → Each HasFalling os → AreRight os → Each HasDifferentRights (flat_map import_at os)
rights-apart [] falls right = tt
rights-apart (o ∷ os) falls right =
    let here = front-empty (faults_at o) (flat_map faults_at os) right in
    each-append HasDifferentRights (import_at o) (flat_map import_at os)
    (form-apart o.scope o.expression falls.0 (back-empty (faults_of_order o.scope o.wanted o.expression) (faults_of_form o.scope o.expression) here))
    (rights-apart os falls.1 (back-empty (faults_at o) (flat_map faults_at os) right))

pub imports-apart : (k : Known) (item : ℕ) (ds : List Declared) → k.globals + count_of_globals ds ≤ k.before.next → AreFalling k.globals k.scope.names → first_fault_from k ds ≡ None
    → Each HasDifferentRights (collected (λ k item d. flat_map import_at (occurrences_in k d.declaration)) k item ds)
imports-apart k item [] enough falling right = tt
imports-apart k item (d ∷ ds) enough falling right =
    let both = right-both k d ds right in
    let next = after_declaration k d.declaration in
    let grown = declaration-grows k.before d.declaration in
    each-append HasDifferentRights (flat_map import_at (occurrences_in k d.declaration)) (collected (λ k item d. flat_map import_at (occurrences_in k d.declaration)) next (item + 1) ds)
    (rights-apart (occurrences_in k d.declaration) (declaration-falling k d.declaration (omega (arith, enough)) falling) (right-there k d.declaration both.0))
    (imports-apart next (item + 1) ds (omega (arith, enough, grown)) (falling-after k d.declaration falling) both.1)
