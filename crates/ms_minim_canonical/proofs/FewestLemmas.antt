-- A canonical content has fewest states (Myhill, 1957; Nerode, 1958).
use Rattle.std.proofs.Common.{◌≡◌, ℕ, ◌<◌, Bool, List, length, refl, sym, ap, ◌∙◌}
use Rattle.ms_list.specs.declared.word.Word.{Word}
use Rattle.ms_logic_words.specs.Canonical.{IsCanonical}
use Rattle.ms_logic_words.specs.Content.{Content, IsWordOver, AreLetters, state_after, last_state, sign_at}
use Rattle.ms_dfa.proofs.OwnMeaningLemmas.{last_within}
use Rattle.ms_minim.proofs.Pigeonhole.{counted}
use Rattle.ms_logic_words.specs.Residual.{HaveEqualSigns}
use Rattle.ms_minim_canonical.specs.Laws.{CanonicalContentsHaveFewestStates}
use Rattle.ms_minim.proofs.LettersLemmas.{over-with_letters, sign_of-with_letters, with_letters}

-- a word leads to a state in one content, and to a state in another
record EndsAt {Sign : Type 0} (content other : Content Sign) (state state_too : ℕ) : Type 0 where
  pub word : Word
  pub over : IsWordOver content.variables word
  pub ends : last_state content word ≡ state
  pub ends_too : last_state other word ≡ state_too

module _ {Sign : Type 0} (content other : Content Sign) (canonical : IsCanonical content) (signs : HaveEqualSigns content other) where
  -- what letters lead to behind a word follows from where the other content is
  behind : (word : Word) → IsWordOver content.variables word → (letters : List (List Bool)) → AreLetters content.variables letters
      → sign_at content (state_after content (last_state content word) letters) ≡ sign_at other (state_after other (last_state other word) letters)
  behind word over letters are =
      sym (sign_of-with_letters content word letters) ∙ sym (signs (with_letters word letters) (over-with_letters content.variables word letters over are))
      ∙ sign_of-with_letters other word letters

  one_state : (i j state : ℕ) → i < length content.states → j < length content.states → EndsAt content other i state → EndsAt content other j state → i ≡ j
  one_state i j state less_i less_j first second =
      canonical.states_differ i j less_i less_j (λ letters are.
      ap (λ n. sign_at content (state_after content n letters)) (sym first.ends) ∙ behind first.word first.over letters are
      ∙ ap (λ n. sign_at other (state_after other n letters)) (first.ends_too ∙ sym second.ends_too)
      ∙ sym (behind second.word second.over letters are) ∙ ap (λ n. sign_at content (state_after content n letters)) second.ends)

pub canonical_fewest : (Sign : Type 0) → CanonicalContentsHaveFewestStates Sign
canonical_fewest Sign content canonical other closed variables signs =
    counted (length content.states) (length other.states) (EndsAt content other)
    (λ state less.
    let reached = canonical.states_reached state less in (
      last_state other reached.0,
      last_within other closed reached.0,
      record { word = reached.0; over = reached.1; ends = reached.2; ends_too = refl },
    ))
    (one_state content other canonical signs)
