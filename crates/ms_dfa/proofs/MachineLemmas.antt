-- Simulations relate the ends of each word, and scans give what holds at its end.
use Rattle.std.proofs.Common.{◌≡◌, ℕ, zero, suc, ◌+◌, Bool, List, [], ◌∷◌, ◌++◌, length, map, Some, refl, sym, ap, subst, ◌∙◌, arith}
use Rattle.std.specs.List.{range_with_len}
use Rattle.ms_list.specs.declared.word.Word.{Word}
use Rattle.ms_logic.specs.Assignment.{Env, Variable}
use Rattle.ms_logic_words.specs.Content.{Content, AreLetters, IsWordOver, first_state, next_state, state_after, last_state, sign_at, sign_of}
use Rattle.ms_logic_words.specs.Word.{Encodes}
use Rattle.ms_logic.specs.Letters.{truth_values_of, letter_at, letters_below}
use Rattle.ms_dfa.specs.Machine.{Machine, after, end_of, machine_of, IsSimulation, IsScan}

-- a content runs as its machine does
pub state_after-machine : {Sign : Type 0} (content : Content Sign) (state : ℕ) (letters : List (List Bool)) → state_after content state letters ≡ after (machine_of content) state letters
state_after-machine content state [] = refl
state_after-machine content state (letter ∷ letters) = state_after-machine content (next_state content state letter) letters

-- one letter more leads one step further
pub after-more : {State : Type 0} (machine : Machine State) (state : State) (letters : List (List Bool)) (letter : List Bool)
    → after machine state (letters ++ letter ∷ []) ≡ machine.step (after machine state letters) letter
after-more machine state [] letter = refl
after-more machine state (first ∷ letters) letter = after-more machine (machine.step state first) letters letter

module _ {Sign State : Type 0} (content : Content Sign) (machine : Machine State) (IsRelated : ℕ → State → Type 0) (simulation : IsSimulation content machine IsRelated) where
  -- related states are related after the same letters
  pub related_after : (place : ℕ) (state : State) (letters : List (List Bool)) → AreLetters content.variables letters → IsRelated place state
      → IsRelated (state_after content place letters) (after machine state letters)
  related_after place state [] are related = related
  related_after place state (letter ∷ letters) are related =
      related_after (next_state content place letter) (machine.step state letter) letters are.1 (simulation.next place state letter are.0 related)

  -- the states at the end of a word are related
  pub related_at_end : (word : Word) → IsWordOver content.variables word → IsRelated (last_state content word) (end_of machine word)
  related_at_end word over =
      related_after (first_state content word.truth) (machine.start word.truth) word.letters over.letters (simulation.start word.truth over.truth)

  -- so a word has the sign that the machine's state at its end has, where related states have one sign
  pub sign_by_simulation : (sign : State → Sign) → ((place : ℕ) (state : State) → IsRelated place state → sign_at content place ≡ Some (sign state))
      → (word : Word) → IsWordOver content.variables word → sign_of content word ≡ Some (sign (end_of machine word))
  sign_by_simulation sign same word over = same (last_state content word) (end_of machine word) (related_at_end word over)

module _ {State : Type 0} (machine : Machine State) (variables : List Variable) (e : Env) (count : ℕ) (Holds : ℕ → State → Type 0) (scan : IsScan machine variables e count Holds) where
  -- the letters of some positions on
  scanned_from : (position left : ℕ) (state : State) → position + left ≡ count → Holds position state
      → Holds count (after machine state (map (letter_at variables e) (range_with_len position left)))
  scanned_from position zero state all holds = subst (λ n. Holds n state) (let same : position ≡ count = omega (arith, all) in same) holds
  scanned_from position (suc left) state all holds =
      let next : Holds (suc position) (machine.step state (letter_at variables e position)) = scan.next position state (omega (arith, all)) holds in
      let same : suc position ≡ position + 1 = omega arith in
      scanned_from (position + 1) left (machine.step state (letter_at variables e position)) (omega (arith, all)) (subst (λ n. Holds n (machine.step state (letter_at variables e position))) same next)

  -- behind the last letter of a word that encodes the assignment the statement holds
  pub scanned : (word : Word) → Encodes variables word e → length word.letters ≡ count → Holds count (end_of machine word)
  scanned word encodes long =
      let truth : machine.start word.truth ≡ machine.start (truth_values_of variables e) = ap machine.start encodes.truth in
      let letters : word.letters ≡ letters_below count variables e = encodes.letters ∙ ap (λ n. letters_below n variables e) long in
      subst (λ state. Holds count (after machine state word.letters)) (sym truth)
      (subst (λ list. Holds count (after machine (machine.start (truth_values_of variables e)) list)) (sym letters)
      (scanned_from 0 count (machine.start (truth_values_of variables e)) (omega arith) scan.start))
