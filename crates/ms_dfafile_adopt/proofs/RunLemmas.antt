-- Contents that run alike.
use Rattle.std.proofs.Common.{◌≡◌, ℕ, ◌<◌, Bool, List, [], ◌∷◌, ◌++◌, length, refl, sym, ap, ◌∙◌}
use Rattle.ms_list.specs.declared.word.Word.{Word}
use Rattle.ms_logic_words.specs.Content.{Content, IsClosed, first_state, next_state, state_after, last_state, truth_bits, with_zero_letter, zero_letter}
use Rattle.ms_dfa.specs.Machine.{machine_of}
use Rattle.ms_dfa.proofs.MachineLemmas.{after-more, state_after-machine}
use Rattle.ms_dfa.proofs.OwnMeaningLemmas.{next_within}

module _ {S T : Type 0} (one : Content S) (other : Content T) (closed : IsClosed other) (first : (truth : List Bool) → first_state one truth ≡ first_state other truth)
    (next : (state : ℕ) → state < length other.states → (letter : List Bool) → next_state one state letter ≡ next_state other state letter) where
  same_after : (state : ℕ) → state < length other.states → (letters : List (List Bool)) → state_after one state letters ≡ state_after other state letters
  same_after state within [] = refl
  same_after state within (letter ∷ letters) =
      ap (λ s. state_after one s letters) (next state within letter) ∙ same_after (next_state other state letter) (next_within other closed state letter within) letters

  -- the run of a word ends in one state
  pub same_last : (word : Word) → last_state one word ≡ last_state other word
  same_last word =
      ap (λ s. state_after one s word.letters) (first word.truth) ∙ same_after (first_state other word.truth) (closed.start.states (truth_bits other.variables word.truth)) word.letters

-- one zero letter more leads one step further
pub last_state-zero : {S : Type 0} (content : Content S) (word : Word)
    → last_state content (with_zero_letter content.variables word) ≡ next_state content (last_state content word) (zero_letter content.variables)
last_state-zero content word =
    let first = first_state content word.truth in
    state_after-machine content first (word.letters ++ zero_letter content.variables ∷ [])
    ∙ after-more (machine_of content) first word.letters (zero_letter content.variables)
    ∙ ap (λ state. next_state content state (zero_letter content.variables)) (sym (state_after-machine content first word.letters))
