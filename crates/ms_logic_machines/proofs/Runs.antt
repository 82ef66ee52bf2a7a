-- The states of a machine to which words over variables lead.
use Rattle.std.proofs.Common.{◌≡◌, ℕ, suc, ◌<◌, ◌≤◌, Bool, true, eqb, List, [], ◌∷◌, ◌++◌, length, get_or, slice_get, Some, refl, sym, ap, subst, ◌∙◌, ⊎_elim, ◌||◌, arith}
use Rattle.std.specs.List.{list_any}
use Rattle.std.proofs.lemmas.Bool.{cases_Bool, eqb-true, ne_eqb}
use Rattle.std.proofs.lemmas.Map.Keys.{IsDistinct-from_apart}
use Rattle.std.proofs.lemmas.Map.Steps.{length-le_from_distinct_below}
use Rattle.std.proofs.lemmas.Option.{slice_get-get_or}
use Rattle.ms_list.specs.declared.word.Word.{Word}
use Rattle.ms_logic.specs.Assignment.{Variable}
use Rattle.ms_logic_words.specs.Content.{IsWordOver, AreLetters, count_of, is_in_letters, is_truth_value}
use Rattle.ms_logic_machines.specs.Machine.{Machine, machine_after}

-- a word over the variables leads to the state
abbrev pub IsReachedBy : {Sign : Type 0} → List Variable → Machine Sign → ℕ → Type 0
IsReachedBy variables machine state = (word : Word) × IsWordOver variables word × (machine_after machine (machine.start word.truth) word.letters ≡ state)

-- after all letters over the variables both states have one sign
abbrev pub HaveEqualSigns : {Sign : Type 0} → List Variable → Machine Sign → ℕ → ℕ → Type 0
HaveEqualSigns variables machine one other =
    (letters : List (List Bool)) → AreLetters variables letters
    → machine.sign (machine_after machine one letters) ≡ machine.sign (machine_after machine other letters)

letters-push : (variables : List Variable) (letters : List (List Bool)) (letter : List Bool) → AreLetters variables letters
    → length letter ≡ count_of is_in_letters variables
    → AreLetters variables (letters ++ letter ∷ [])
letters-push variables [] letter are long = (long, tt)
letters-push variables (first ∷ letters) letter are long = (are.0, letters-push variables letters letter are.1 long)

module _ {Sign : Type 0} (machine : Machine Sign) where
  after-push : (state : ℕ) (letters : List (List Bool)) (letter : List Bool)
      → machine_after machine state (letters ++ letter ∷ []) ≡ machine.next (machine_after machine state letters) letter
  after-push state [] letter = refl
  after-push state (first ∷ letters) letter = after-push (machine.next state first) letters letter

  pub after_below : (state : ℕ) (letters : List (List Bool)) → state < machine.count → machine_after machine state letters < machine.count
  after_below state [] below = below
  after_below state (letter ∷ letters) below = after_below (machine.next state letter) letters (machine.next_below state letter below)

  module _ (variables : List Variable) where
    pub reached_below : (state : ℕ) → IsReachedBy variables machine state → state < machine.count
    reached_below state reached =
        subst (λ n. n < machine.count) reached.2 (after_below (machine.start reached.0.truth) reached.0.letters (machine.start_below reached.0.truth))

    pub reached_start : (truth : List Bool) → length truth ≡ count_of is_truth_value variables → IsReachedBy variables machine (machine.start truth)
    reached_start truth long = (record { truth = truth; letters = [] }, record { truth = long; letters = tt }, refl)

    pub reached_next : (state : ℕ) (letter : List Bool) → length letter ≡ count_of is_in_letters variables → IsReachedBy variables machine state
        → IsReachedBy variables machine (machine.next state letter)
    reached_next state letter long reached =
        let word = reached.0 in (
          record { truth = word.truth; letters = word.letters ++ letter ∷ [] },
          record { truth = reached.1.truth; letters = letters-push variables word.letters letter reached.1.letters long },
          after-push (machine.start word.truth) word.letters letter ∙ ap (λ n. machine.next n letter) reached.2,
        )

any_place : (n : ℕ) (numbers : List ℕ) → list_any (eqb n) numbers ≡ true → (place : ℕ) × (slice_get numbers place ≡ Some n)
any_place n [] there = absurd (let never : ⊥ = cc in never)
any_place n (m ∷ numbers) there = ⊎_elim
    (λ here. (0, ap Some (sym (eqb-true n m here))))
    (λ not_here. let more = any_place n numbers (sym (ap (λ test. test || list_any (eqb n) numbers) not_here) ∙ there) in (suc more.0, more.1))
    (cases_Bool (eqb n m))

-- distinct numbers below a count are no more than it
pub few_below : (numbers : List ℕ) (count : ℕ) → ((one two n : ℕ) → slice_get numbers one ≡ Some n → slice_get numbers two ≡ Some n → one ≡ two)
    → ((place n : ℕ) → slice_get numbers place ≡ Some n → n < count) → length numbers ≤ count
few_below numbers count distinct below =
    length-le_from_distinct_below numbers count
    (IsDistinct-from_apart eqb numbers (λ i j d less within.
    ne_eqb (get_or numbers i d) (get_or numbers j d) (λ same.
    let at : i ≡ j = distinct i j (get_or numbers i d) (slice_get-get_or numbers i d (omega (arith, less, within)))
    (slice_get-get_or numbers j d within ∙ ap Some (sym same)) in
    absurd (omega (arith, at, less)))))
    (λ n among. let there = any_place n numbers among in below there.0 n there.1)
