-- An automaton each of whose states is reached, and no two of which have equal residuals, has fewest states (Myhill, 1957; Nerode, 1958).
use Rattle.std.proofs.Common.{◌≡◌, ℕ, length, refl, sym, ap, ◌∙◌}
use Rattle.ms_list.specs.declared.word.Word.{Word}
use Rattle.ms_dfa.proofs.OwnMeaningLemmas.{last_within}
use Rattle.ms_logic_words.specs.Content.{Content, IsWordOver, last_state, sign_at, state_after}
use Rattle.ms_logic_words.specs.Residual.{AreReached, HasFewestStates, HaveDifferentResiduals, HaveEqualResiduals, HaveEqualSigns}
use Rattle.ms_logic_words.specs.declared.sign.Sign.{Sign}
use Rattle.ms_minim.proofs.LettersLemmas.{over-with_letters, sign_of-with_letters, with_letters}
use Rattle.ms_minim.proofs.Pigeonhole.{counted}

-- a word leads one content to a state, and another to a state of its own
record EndsAt (content other : Content Sign) (state its : ℕ) : Type 0 where
  pub word : Word
  pub over : IsWordOver content.variables word
  pub ends : last_state content word ≡ state
  pub also : last_state other word ≡ its

-- states to which words lead that lead another content of the same signs to one state have equal residuals
one_residual : (content other : Content Sign) → HaveEqualSigns content other → (one two its : ℕ) → EndsAt content other one its → EndsAt content other two its
    → HaveEqualResiduals content one two
one_residual content other signs one two its first second letters are =
    sym (behind one first) ∙ ap (λ state. sign_at other (state_after other state letters)) (first.also ∙ sym second.also) ∙ behind two second
  where
    behind : (state : ℕ) (at : EndsAt content other state its) → sign_at other (state_after other (last_state other at.word) letters) ≡ sign_at content (state_after content state letters)
    behind state at =
        sym (sign_of-with_letters other at.word letters)
        ∙ signs (with_letters at.word letters) (over-with_letters content.variables at.word letters at.over are)
        ∙ sign_of-with_letters content at.word letters
        ∙ ap (λ s. sign_at content (state_after content s letters)) at.ends

pub fewest_by_residuals : (content : Content Sign) → AreReached content → HaveDifferentResiduals content → HasFewestStates content
fewest_by_residuals content reached differ other closed variables signs =
    counted (length content.states) (length other.states) (EndsAt content other)
    (λ state less.
    let to = reached state less in
    (last_state other to.0, last_within other closed to.0, record { word = to.0; over = to.1; ends = to.2; also = refl }))
    (λ one two its less_one less_two first second. differ one two less_one less_two (one_residual content other signs one two its first second))
