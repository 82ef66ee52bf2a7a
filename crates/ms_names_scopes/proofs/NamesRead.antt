-- The variables among names that are read, noted from the first place that is held to the last.
use Rattle.std.proofs.Common.{◌≡◌, ℕ, None, zero, suc, ◌+◌, ◌-◌, ◌<◌, ◌≤◌, Bool, true, false, if◌then◌else◌, List, [], ◌∷◌, ◌++◌, length, get_or, take, map, inl, inr, sym, refl, ap, ◌∙◌, arith}
use Rattle.std.proofs.lemmas.List.{append-nil, get_or-map, get_or_past, length-map, map-append, take_more, take_all, reverse-append}
use Rattle.std.proofs.lemmas.List.Elements.{filter-append}
use Rattle.std.proofs.lemmas.Bool.{cases_lt}
use Rattle.std.proofs.lemmas.Bool.Decides.{nat_tests}
use Rattle.std.specs.Prelude.{nat_le, nat_lt, ◌&&◌}
use Rattle.ms_names_rules.specs.declared.meaning.Meaning.{Meaning}
use Rattle.ms_names_rules.specs.declared.meaning.Meaning.TheVariants as meaning
use Rattle.ms_names_rules.specs.inner.Free.{Readings, read_among}
use Rattle.ms_names_rules.specs.Reads.{reads_variable}
use Rattle.ms_names_rules.specs.Scope.{Named, variables_among, Bytes}
use Rattle.ms_names_rules.proofs.FreeVariables.{variables-behind}
use Rattle.ms_names_scopes.specs.declared.free.Read.{Read}
use Rattle.ms_names_scopes.specs.declared.names.Entry.{Entry}
use Rattle.ms_names_scopes.specs.inner.Read.{Tells}
use Rattle.ms_names_scopes.specs.inner.Numbers.{Numbered, is_one_of, number_at}
use Rattle.ms_names_scopes.specs.inner.Table.{entry_numbers, named_meaning, names_of, number_of}
use Rattle.ms_names_rules.proofs.Growth.{past}
use Rattle.ms_names_rules.specs.inner.Examples.{least}
use Rattle.ms_names_scopes.specs.inner.Found.{noted}

names-behind : (entries : List Entry) (e : Entry) → names_of (entries ++ e ∷ []) ≡ named_meaning e ∷ names_of entries
names-behind entries e = ap (map named_meaning) (reverse-append entries (e ∷ []))

-- the variables of one entry more
variables-next : (entries : List Entry) (i : ℕ) (e : Entry) → i < length entries → e ≡ get_or entries i e →
    variables_among (names_of (take (i + 1) entries)) ≡ variables_among (names_of (take i entries)) ++ variables_among (named_meaning e ∷ [])
variables-next entries i e below is =
    ap (λ es. variables_among (names_of es)) (take_more entries i e below ∙ ap (λ d. take i entries ++ d ∷ []) (sym is))
    ∙ (ap variables_among (names-behind (take i entries) e)
    ∙ variables-behind (named_meaning e).0 (named_meaning e).1 (names_of (take i entries)))

same-variables : (b : Bool) (vs : List Named) → (if b then vs else vs) ≡ vs
same-variables true vs = refl
same-variables false vs = refl

-- the variable of an entry is among those that are read, if its number is one of those that are held
read-one : (read : Read) (rs : Readings) (n : Bytes) (m : Meaning) → Tells read rs →
    read_among rs (variables_among ((n, m) ∷ [])) ≡ (if is_one_of read.variables.keys (number_of m) then variables_among ((n, m) ∷ []) else [])
read-one read rs n (meaning.Variable x o) tells =
    ap (λ b. if b then record { number = x; order = o; name = n } ∷ [] else []) (sym (tells.variables x))
read-one read rs n (meaning.Constant value) tells = sym (same-variables (is_one_of read.variables.keys None) [])
read-one read rs n (meaning.Predicate p parameters) tells = sym (same-variables (is_one_of read.variables.keys None) [])

-- an entry stands at each place
some-entry : (entries : List Entry) (i : ℕ) → i < length entries → (e : Entry) × (e ≡ get_or entries i e)
some-entry [] i below = absurd (omega arith)
some-entry (e ∷ entries) zero below = (e, refl)
some-entry (e ∷ entries) (suc i) below = some-entry entries i (omega arith)

number_at-entry : (entries : List Entry) (i : ℕ) (e : Entry) → i < length entries → e ≡ get_or entries i e → number_at (entry_numbers entries) i ≡ number_of e.meaning
number_at-entry entries i e below is = get_or-map (λ f. number_of f.meaning) entries i e None below ∙ ap (λ f. number_of f.meaning) (sym is)

-- those that are read, with one entry more
read-next : (read : Read) (rs : Readings) (entries : List Entry) (i : ℕ) (e : Entry) → i < length entries → e ≡ get_or entries i e → Tells read rs →
    read_among rs (variables_among (names_of (take (i + 1) entries)))
    ≡ read_among rs (variables_among (names_of (take i entries)))
    ++ (if is_one_of read.variables.keys (number_at (entry_numbers entries) i) then variables_among (named_meaning e ∷ []) else [])
read-next read rs entries i e below is tells =
    let earlier = variables_among (names_of (take i entries)) in
    let here = variables_among (named_meaning e ∷ []) in
    ap (read_among rs) (variables-next entries i e below is)
    ∙ (filter-append (λ v. reads_variable v.number rs) earlier here
    ∙ ap (λ vs. read_among rs earlier ++ vs)
    (read-one read rs (named_meaning e).0 (named_meaning e).1 tells
    ∙ ap (λ n. if is_one_of read.variables.keys n then here else []) (sym (number_at-entry entries i e below is))))

-- the numbers of some entries are none of those that are held
abbrev pub NoneIsHeld : Read → List Entry → ℕ → ℕ → Type 0
NoneIsHeld read entries from end = (i : ℕ) → from ≤ i → i < end → is_one_of read.variables.keys (number_at (entry_numbers entries) i) ≡ false

-- entries that are not read add nothing
read-unread : (read : Read) (rs : Readings) (entries : List Entry) (from count end : ℕ) →
    end ≡ from + count → end ≤ length entries → NoneIsHeld read entries from end → Tells read rs →
    read_among rs (variables_among (names_of (take end entries))) ≡ read_among rs (variables_among (names_of (take from entries)))
read-unread read rs entries from zero end is within unread tells =
    let same : end ≡ from = omega arith in ap (λ n. read_among rs (variables_among (names_of (take n entries)))) same
read-unread read rs entries from (suc count) end is within unread tells =
    let i = from + count in
    let next_is : end ≡ i + 1 = omega arith in
    let below : i < length entries = omega arith in
    let here = some-entry entries i below in
    let fewer : NoneIsHeld read entries from i = λ k after before. unread k after (omega arith) in
    let before = read_among rs (variables_among (names_of (take i entries))) in
    ap (λ n. read_among rs (variables_among (names_of (take n entries)))) next_is
    ∙ (read-next read rs entries i here.0 below here.1 tells
    ∙ (ap (λ b. before ++ (if b then variables_among (named_meaning here.0 ∷ []) else [])) (unread i (omega arith) (omega arith))
    ∙ (append-nil before
    ∙ read-unread read rs entries from count i refl (omega arith) fewer tells)))

-- the variables that are read are noted as far as some entries, and the places of the others are held
pub record Noted (read : Read) (entries : List Entry) (held : ℕ → Bool) (numbers : List ℕ) (names : List Bytes) : Type 0 where
  pub passed : ℕ
  pub within : passed ≤ length entries
  pub waiting : (i : ℕ) → held i ≡ (nat_le passed i && is_one_of read.variables.keys (number_at (entry_numbers entries) i))
  pub numbers_are : (rs : Readings) → Tells read rs → numbers ≡ map (λ v. v.number) (read_among rs (variables_among (names_of (take passed entries))))
  pub names_are : (rs : Readings) → Tells read rs → names ≡ map (λ v. v.name) (read_among rs (variables_among (names_of (take passed entries))))

from-start : (test : Bool) (i : ℕ) → test ≡ (nat_le 0 i && test)
from-start true i = grind (arith, nat_tests)
from-start false i = grind (arith, nat_tests)

pub Noted-first : (read : Read) (entries : List Entry) (numbers : Numbered) (held : ℕ → Bool) → numbers ≡ entry_numbers entries →
    ((i : ℕ) → held i ≡ is_one_of read.variables.keys (number_at numbers i)) → Noted read entries held [] []
Noted-first read entries numbers held are is = record {
  passed = 0;
  within = omega arith;
  waiting = λ i.
      is i ∙ (ap (λ n. is_one_of read.variables.keys (number_at n i)) are
      ∙ from-start (is_one_of read.variables.keys (number_at (entry_numbers entries) i)) i);
  numbers_are = λ rs tells. refl;
  names_are = λ rs tells. refl;
}

held-test : (held test : Bool) (from i : ℕ) → held ≡ (nat_le from i && test) → held ≡ true → (from ≤ i) × (test ≡ true)
held-test held true from i is there = (grind (arith, nat_tests), refl)
held-test held false from i is there = (grind (arith, nat_tests), grind (arith, nat_tests))

unheld-test : (held test : Bool) (from i : ℕ) → held ≡ (nat_le from i && test) → held ≡ false → from ≤ i → test ≡ false
unheld-test held true from i is none past = grind (arith, nat_tests)
unheld-test held false from i is none past = refl

held-behind : (new old test : Bool) (from place i : ℕ) → new ≡ (nat_lt place i && old) → old ≡ (nat_le from i && test) → from ≤ place →
    new ≡ (nat_le (place + 1) i && test)
held-behind new old true from place i is_new is past = grind (arith, nat_tests)
held-behind new old false from place i is_new is past = grind (arith, nat_tests)

is_one_of-none : (xs : List ℕ) → is_one_of xs None ≡ false
is_one_of-none [] = refl
is_one_of-none (x ∷ xs) = is_one_of-none xs

-- a place that is held is one of the entries
pub Noted-below : (read : Read) (entries : List Entry) (held : ℕ → Bool) (numbers : List ℕ) (names : List Bytes) (place : ℕ) →
    Noted read entries held numbers names → held place ≡ true → place < length entries
Noted-below read entries held numbers names place noted there =
    let test = (held-test (held place) (is_one_of read.variables.keys (number_at (entry_numbers entries) place)) noted.passed place (noted.waiting place) there).1 in
    elim (cases_lt place (length entries)) [
      | inl below ↦ below
      | inr past ↦
          let none : number_at (entry_numbers entries) place ≡ None =
          get_or_past (entry_numbers entries) place None (omega (arith, length-map entries (λ e. number_of e.meaning))) in
          let never : true ≡ false = sym test ∙ (ap (is_one_of read.variables.keys) none ∙ is_one_of-none read.variables.keys) in
          cc
    ]

-- up to the first place that is held nothing is read, and then its entry is
noted-part : {A : Type 0} (part : Named → A) (read : Read) (rs : Readings) (entries : List Entry) (from place : ℕ) (e : Entry) (old new : List A) →
    from ≤ place → place < length entries → e ≡ get_or entries place e → Tells read rs →
    NoneIsHeld read entries from place → is_one_of read.variables.keys (number_at (entry_numbers entries) place) ≡ true →
    old ≡ map part (read_among rs (variables_among (names_of (take from entries)))) →
    new ≡ old ++ map part (variables_among (named_meaning e ∷ [])) →
    new ≡ map part (read_among rs (variables_among (names_of (take (place + 1) entries))))
noted-part part read rs entries from place e old new past below is tells unread here before added =
    let now = variables_among (named_meaning e ∷ []) in
    let earlier = read_among rs (variables_among (names_of (take place entries))) in
    let count : place ≡ from + (place - from) = omega arith in
    let all : read_among rs (variables_among (names_of (take (place + 1) entries))) ≡ earlier ++ now =
    read-next read rs entries place e below is tells ∙ ap (λ b. earlier ++ (if b then now else [])) here in
    let same : old ≡ map part earlier = before ∙ ap (map part) (sym (read-unread read rs entries from (place - from) place count (omega arith) unread tells)) in
    added
    ∙ (ap (λ found. found ++ map part now) same
    ∙ (sym (map-append part earlier now) ∙ ap (map part) (sym all)))

pub Noted-next : (read : Read) (entries : List Entry) (old new : ℕ → Bool) (numbers more_numbers : List ℕ) (names more_names : List Bytes) (place : ℕ) (e : Entry) →
    Noted read entries old numbers names → e ≡ get_or entries place e →
    old place ≡ true → ((i : ℕ) → i < place → old i ≡ false) → ((i : ℕ) → new i ≡ (nat_lt place i && old i)) →
    more_numbers ≡ numbers ++ map (λ v. v.number) (variables_among (named_meaning e ∷ [])) →
    more_names ≡ names ++ map (λ v. v.name) (variables_among (named_meaning e ∷ [])) →
    Noted read entries new more_numbers more_names
Noted-next read entries old new numbers more_numbers names more_names place e noted is there least rest numbers_added names_added =
    let test : ℕ → Bool = λ i. is_one_of read.variables.keys (number_at (entry_numbers entries) i) in
    let below = Noted-below read entries old numbers names place noted there in
    let here = held-test (old place) (test place) noted.passed place (noted.waiting place) there in
    let unread : NoneIsHeld read entries noted.passed place = λ i after before. unheld-test (old i) (test i) noted.passed i (noted.waiting i) (least i before) after in
    record {
      passed = place + 1;
      within = omega (arith, below);
      waiting = λ i. held-behind (new i) (old i) (test i) noted.passed place i (rest i) (noted.waiting i) here.0;
      numbers_are = λ rs tells.
          noted-part (λ v. v.number) read rs entries noted.passed place e numbers more_numbers here.0 below is tells unread here.1 (noted.numbers_are rs tells) numbers_added;
      names_are = λ rs tells.
          noted-part (λ v. v.name) read rs entries noted.passed place e names more_names here.0 below is tells unread here.1 (noted.names_are rs tells) names_added;
    }

-- no place is held
pub Noted-last : (read : Read) (entries : List Entry) (held : ℕ → Bool) (numbers : List ℕ) (names : List Bytes) (rs : Readings) →
    Noted read entries held numbers names → ((i : ℕ) → held i ≡ false) → Tells read rs →
    (numbers ≡ map (λ v. v.number) (read_among rs (variables_among (names_of entries)))) × (names ≡ map (λ v. v.name) (read_among rs (variables_among (names_of entries))))
Noted-last read entries held numbers names rs noted none tells =
    let test : ℕ → Bool = λ i. is_one_of read.variables.keys (number_at (entry_numbers entries) i) in
    let unread : NoneIsHeld read entries noted.passed (length entries) = λ i after before. unheld-test (held i) (test i) noted.passed i (noted.waiting i) (none i) after in
    let count : length entries ≡ noted.passed + (length entries - noted.passed) = omega (arith, noted.within) in
    let all : read_among rs (variables_among (names_of (take noted.passed entries))) ≡ read_among rs (variables_among (names_of entries)) =
    sym (read-unread read rs entries noted.passed (length entries - noted.passed) (length entries) count (omega arith) unread tells)
    ∙ ap (λ es. read_among rs (variables_among (names_of es))) (take_all (length entries) entries (omega arith)) in
    (noted.numbers_are rs tells ∙ ap (map (λ v. v.number)) all, noted.names_are rs tells ∙ ap (map (λ v. v.name)) all)
