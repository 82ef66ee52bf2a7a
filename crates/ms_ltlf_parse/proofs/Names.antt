-- Names in the order of first sight, and their places.
use Rattle.std.proofs.Common.{◌≡◌, ◌≢◌, ℕ, zero, suc, ◌<◌, ◌≤◌, true, false, List, [], ◌∷◌, ◌++◌, length, get_or, refl, sym, ap, ◌∙◌, subst, inl, inr, arith, append_assoc, append-nil, length-append, lt-ltb, ltb-true, ltb-false}
use Rattle.std.specs.Prelude.{AllPairs, bytes_eq, nat_lt, if◌then◌else◌}
use Rattle.std.proofs.lemmas.Bool.{cases_Bool, cases_order}
use Rattle.std.proofs.lemmas.List.{get_or_default}
use Rattle.std.proofs.lemmas.List.Quantifiers.{all_pairs_push}
use Rattle.std.proofs.lemmas.Slice.Eq.{bytes_eq-Decides}
use Rattle.ms_ltlf_parse.specs.Grammar.{Names}
use Rattle.ms_ltlf_parse.specs.Reading.{place, with_name, with_sight, with_sights, first_sights}
use Rattle.ms_ltlf_parse.specs.Symbol.{Symbol, name}
use Rattle.ms_parse_stack.specs.inner.Machine.{moved}
use Rattle.ms_parse_stack.proofs.Spellings.{AreActing}
use Rattle.ms_ltlf_parse.specs.inner.Machine.{State, machine, action, step, run, leaf}
use Rattle.ms_ltlf.specs.Tree.{proposition}
use Rattle.ms_ltlf_parse.proofs.Soundness.{IsNamed, grammar}
use Rattle.ms_ltlf_parse.proofs.Spellings.{acting, spelling}

pub place-here : (m : List ℕ) (ms : Names) (n : List ℕ) → bytes_eq n m ≡ true → place (m ∷ ms) n ≡ 0
place-here m ms n e = ap (λ b. if b then 0 else suc (place ms n)) e

pub place-further : (m : List ℕ) (ms : Names) (n : List ℕ) → bytes_eq n m ≡ false → place (m ∷ ms) n ≡ suc (place ms n)
place-further m ms n e = ap (λ b. if b then 0 else suc (place ms n)) e

-- the name at the place of a name
pub get-place : (ms : Names) (n : List ℕ) → place ms n < length ms → get_or ms (place ms n) [] ≡ n
get-place [] n h = absurd (omega arith)
get-place (m ∷ ms) n h =
    elim (cases_Bool (bytes_eq n m)) [
      | inl e ↦ ap (λ i. get_or (m ∷ ms) i []) (place-here m ms n e) ∙ sym ((bytes_eq-Decides n m).0 e)
      | inr e ↦
          let small : place ms n < length ms = omega (arith, place-further m ms n e) in
          ap (λ i. get_or (m ∷ ms) i []) (place-further m ms n e) ∙ get-place ms n small
    ]

-- names behind do not change the place of one that is there
pub place-append : (ms more : Names) (n : List ℕ) → place ms n < length ms → place (ms ++ more) n ≡ place ms n
place-append [] more n h = absurd (omega arith)
place-append (m ∷ ms) more n h =
    elim (cases_Bool (bytes_eq n m)) [
      | inl e ↦ place-here m (ms ++ more) n e ∙ sym (place-here m ms n e)
      | inr e ↦
          let small : place ms n < length ms = omega (arith, place-further m ms n e) in
          place-further m (ms ++ more) n e ∙ ap suc (place-append ms more n small) ∙ sym (place-further m ms n e)
    ]

-- the place of a name that has been put behind others
pub place-new : (ms : Names) (n : List ℕ) → length ms ≤ place ms n → place (ms ++ n ∷ []) n ≡ length ms
place-new [] n h = place-here n [] n ((bytes_eq-Decides n n).1 refl)
place-new (m ∷ ms) n h =
    elim (cases_Bool (bytes_eq n m)) [
      | inl e ↦ absurd (omega (arith, place-here m ms n e))
      | inr e ↦
          let large : length ms ≤ place ms n = omega (arith, place-further m ms n e) in
          place-further m (ms ++ n ∷ []) n e ∙ ap suc (place-new ms n large)
    ]

pub place-most : (ms : Names) (n : List ℕ) → place ms n ≤ length ms
place-most [] n = omega arith
place-most (m ∷ ms) n =
    elim (cases_Bool (bytes_eq n m)) [
      | inl e ↦ omega (arith, place-here m ms n e)
      | inr e ↦ omega (arith, place-further m ms n e, place-most ms n)
    ]

-- a name that stands somewhere has a place, no further behind
pub place-least : (ms : Names) (i : ℕ) → i < length ms → place ms (get_or ms i []) ≤ i
place-least [] i h = absurd (omega arith)
place-least (m ∷ ms) zero h = omega (arith, place-here m ms m ((bytes_eq-Decides m m).1 refl))
place-least (m ∷ ms) (suc i) h =
    let small : i < length ms = omega arith in
    let n = get_or ms i [] in
    elim (cases_Bool (bytes_eq n m)) [
      | inl e ↦ omega (arith, place-here m ms n e)
      | inr e ↦ omega (arith, place-further m ms n e, place-least ms i small)
    ]

abbrev pub AreDifferent : Names → Type 0
AreDifferent names = AllPairs (λ one other. one ≢ other) names

-- among different names each stands at its place
pub place-get : (ms : Names) → AreDifferent ms → (i : ℕ) → i < length ms → place ms (get_or ms i []) ≡ i
place-get ms different i h =
    let n = get_or ms i [] in
    let most = place-least ms i h in
    let there : place ms n < length ms = omega arith in
    elim (cases_order (place ms n) i) [
      | inl same ↦ same
      | inr (inl less) ↦ absurd (different (place ms n) i [] less h (get-place ms n there))
      | inr (inr more) ↦ absurd (omega arith)
    ]

-- one more name

with_name-there : (ms : Names) (n : List ℕ) → place ms n < length ms → with_name ms n ≡ ms
with_name-there ms n h = ap (λ b. if b then ms else ms ++ n ∷ []) (lt-ltb (place ms n) (length ms) h)

with_name-new : (ms : Names) (n : List ℕ) → nat_lt (place ms n) (length ms) ≡ false → with_name ms n ≡ ms ++ n ∷ []
with_name-new ms n e = ap (λ b. if b then ms else ms ++ n ∷ []) e

-- the names with others behind them, of which there are at most so many
pub record Goes (most : ℕ) (ms all : Names) : Type 0 where
  pub more : Names
  pub is : all ≡ ms ++ more
  pub few : length more ≤ most

goes_nowhere : (most : ℕ) (ms : Names) → Goes most ms ms
goes_nowhere most ms = record { more = []; is = sym (append-nil ms); few = omega arith }

pub name_goes : (ms : Names) (n : List ℕ) → Goes 1 ms (with_name ms n)
name_goes ms n =
    elim (cases_Bool (nat_lt (place ms n) (length ms))) [
      | inl e ↦ subst (Goes 1 ms) (sym (ap (λ b. if b then ms else ms ++ n ∷ []) e)) (goes_nowhere 1 ms)
      | inr e ↦ record { more = n ∷ []; is = with_name-new ms n e; few = omega arith }
    ]

sight_goes : (ms : Names) (x : Symbol) → Goes 1 ms (with_sight ms x)
sight_goes ms (name n) = name_goes ms n
sight_goes ms _ = goes_nowhere 1 ms

pub sights_go : (ms : Names) (xs : List Symbol) → Goes (length xs) ms (with_sights ms xs)
sights_go ms [] = goes_nowhere 0 ms
sights_go ms (x ∷ xs) =
    let one = sight_goes ms x in
    let rest = sights_go (with_sight ms x) xs in
    record {
      more = one.more ++ rest.more;
      is = rest.is ∙ ap (λ y. y ++ rest.more) one.is ∙ append_assoc ms one.more rest.more;
      few = omega (arith, length-append one.more rest.more, one.few, rest.few);
    }

-- the name is among them, and stays so

pub among_further : (most : ℕ) (ms all : Names) (n : List ℕ) → Goes most ms all → place ms n < length ms → place all n < length all
among_further most ms all n go h =
    subst (λ x. place x n < length x) (sym go.is) (omega (arith, place-append ms go.more n h, length-append ms go.more))

pub among_with_name : (ms : Names) (n : List ℕ) → place (with_name ms n) n < length (with_name ms n)
among_with_name ms n =
    elim (cases_Bool (nat_lt (place ms n) (length ms))) [
      | inl e ↦ among_further 1 ms (with_name ms n) n (name_goes ms n) (ltb-true (place ms n) (length ms) e)
      | inr e ↦
          let large : length ms ≤ place ms n = ltb-false (place ms n) (length ms) e in
          subst (λ x. place x n < length x) (sym (with_name-new ms n e)) (omega (arith, place-new ms n large, length-append ms (n ∷ [])))
    ]

-- The place of a name among the names with it.
pub place-with_name : (ms : Names) (n : List ℕ) → place (with_name ms n) n ≡ place ms n
place-with_name ms n =
    elim (cases_Bool (nat_lt (place ms n) (length ms))) [
      | inl e ↦ ap (λ x. place x n) (with_name-there ms n (ltb-true (place ms n) (length ms) e))
      | inr e ↦
          let large : length ms ≤ place ms n = ltb-false (place ms n) (length ms) e in
          ap (λ x. place x n) (with_name-new ms n e) ∙ omega (arith, place-new ms n large, place-most ms n)
    ]

-- different names stay different

not_new : (ms : Names) (n : List ℕ) → length ms ≤ place ms n → (k : ℕ) (d : List ℕ) → k < length ms → get_or ms k d ≢ n
not_new ms n large k d h same =
    let here : get_or ms k [] ≡ n = get_or_default ms k [] d h ∙ same in
    let least : place ms n ≤ k = subst (λ m. place ms m ≤ k) here (place-least ms k h) in
    omega arith

different_with_name : (ms : Names) (n : List ℕ) → AreDifferent ms → AreDifferent (with_name ms n)
different_with_name ms n different =
    elim (cases_Bool (nat_lt (place ms n) (length ms))) [
      | inl e ↦ subst AreDifferent (sym (with_name-there ms n (ltb-true (place ms n) (length ms) e))) different
      | inr e ↦
          let large : length ms ≤ place ms n = ltb-false (place ms n) (length ms) e in
          subst AreDifferent (sym (with_name-new ms n e)) (all_pairs_push (λ one other. one ≢ other) ms n different (not_new ms n large))
    ]

different_with_sight : (ms : Names) (x : Symbol) → AreDifferent ms → AreDifferent (with_sight ms x)
different_with_sight ms (name n) different = different_with_name ms n different
different_with_sight ms _ different = different

different_with_sights : (ms : Names) (xs : List Symbol) → AreDifferent ms → AreDifferent (with_sights ms xs)
different_with_sights ms [] different = different
different_with_sights ms (x ∷ xs) different = different_with_sights (with_sight ms x) xs (different_with_sight ms x different)

pub different_first_sights : (xs : List Symbol) → AreDifferent (first_sights xs)
different_first_sights xs = different_with_sights [] xs (λ i j d less h. absurd (omega arith))

pub few_first_sights : (xs : List Symbol) → length (first_sights xs) ≤ length xs
few_first_sights xs =
    let go = sights_go [] xs in
    subst (λ x. length x ≤ length xs) (sym go.is) go.few

-- the names of symbols are among those that are seen there

abbrev pub IsAmong : Names → Symbol → Type 0
IsAmong names (name n) = place names n < length names
IsAmong names _ = Unit {0}

abbrev pub AreAmong : Names → List Symbol → Type 0
AreAmong names [] = Unit {0}
AreAmong names (x ∷ xs) = IsAmong names x × AreAmong names xs

among_sight : (most : ℕ) (ms all : Names) (x : Symbol) → Goes most (with_sight ms x) all → IsAmong all x
among_sight most ms all (name n) go = among_further most (with_name ms n) all n go (among_with_name ms n)
among_sight most ms all _ go = tt

pub among_sights : (ms : Names) (xs : List Symbol) → AreAmong (with_sights ms xs) xs
among_sights ms [] = tt
among_sights ms (x ∷ xs) = (among_sight (length xs) ms (with_sights (with_sight ms x) xs) x (sights_go (with_sight ms x) xs), among_sights (with_sight ms x) xs)

is_named : (names : Names) (x : Symbol) → IsAmong names x → IsNamed names (place names) x
is_named names (name n) h = (h, get-place names n h)
is_named names _ h = tt

pub are_acting : (names : Names) (xs : List Symbol) → AreAmong names xs → AreActing machine (grammar (length names)) (spelling names) (action (place names)) xs
are_acting names [] h = tt
are_acting names (x ∷ xs) h = (acting names (place names) x (is_named names x h.0), are_acting names xs h.1)

-- names behind make no difference to a run

step-further : (most : ℕ) (ms all : Names) (s : State) (x : Symbol) → Goes most ms all → IsAmong ms x → step (place all) s x ≡ step (place ms) s x
step-further most ms all s (name n) go h = ap (λ p. moved machine (leaf (proposition p)) s) (ap (λ y. place y n) go.is ∙ place-append ms go.more n h)
step-further most ms all s _ go h = refl

pub run-further : (most : ℕ) (ms all : Names) (s : State) (xs : List Symbol) → Goes most ms all → AreAmong ms xs → run (place all) s xs ≡ run (place ms) s xs
run-further most ms all s [] go h = refl
run-further most ms all s (x ∷ xs) go h = ap (λ t. run (place all) t xs) (step-further most ms all s x go h.0) ∙ run-further most ms all (step (place ms) s x) xs go h.1

pub with_sights-append : (ms : Names) (xs ys : List Symbol) → with_sights ms (xs ++ ys) ≡ with_sights (with_sights ms xs) ys
with_sights-append ms [] ys = refl
with_sights-append ms (x ∷ xs) ys = with_sights-append (with_sight ms x) xs ys
