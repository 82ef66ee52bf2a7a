-- Where a state leads by bits and by letters, and residuals behind a letter.
use Rattle.std.proofs.Common.{◌≡◌, ℕ, ◌<◌, Bool, List, ◌∷◌, length, slice_get, Option, Some, None, refl, sym, ap, subst, ◌∙◌}
use Rattle.std.proofs.lemmas.Option.{slice_get_within, get_or_from_slice_get}
use Rattle.ms_arena.proofs.Lists.{slice_get-held}
use Rattle.ms_arena.specs.Diagram.{Bits, IsOrdered}
use Rattle.ms_logic_words.specs.declared.sign.Sign.{Sign}
use Rattle.ms_logic_words.specs.Content.{StateOf, Content, IsClosed, IsFollowed, count_of, is_in_letters, next_from, next_state, state_after, sign_at, letter_bits}
use Rattle.ms_dfa.specs.Narrow.{gathered}
use Rattle.ms_dfa.proofs.GatheredLemmas.{length-gathered}
use Rattle.ms_dfa.proofs.NarrowLemmas.{leaf_of-gathered}
use Rattle.ms_logic_words.specs.Residual.{HaveEqualResiduals}
use Rattle.ms_minim.specs.inner.Partition.{behind, next_by}

-- a letter leads where its bits do
pub next_by-letter : (content : Content Sign) (state : ℕ) (letter : List Bool) → next_by content state (letter_bits content.variables letter) ≡ next_state content state letter
next_by-letter content state letter = by (slice_get content.states state)
  where
    by : (found : Option (StateOf Sign)) → behind content found (letter_bits content.variables letter) ≡ next_from content found letter
    by None = refl
    by (Some there) = refl

module _ (content : Content Sign) (ordered : IsOrdered content.nodes) (closed : IsClosed content) where
  -- the state at a place of the list leads on
  pub state_followed : (place : ℕ) (state : StateOf Sign) → slice_get content.states place ≡ Some state → IsFollowed content is_in_letters state.next
  state_followed place state held =
      subst (λ (found : StateOf Sign). IsFollowed content is_in_letters found.next) (get_or_from_slice_get content.states place state state held)
      (closed.next place state (slice_get_within content.states place state held))

  pub next_by-within : (state : ℕ) → state < length content.states → (bits : Bits) → next_by content state bits < length content.states
  next_by-within state within bits =
      let held = slice_get-held content.states state within in
      subst (λ found. behind content found bits < length content.states) (sym held.1) ((state_followed state held.0 held.1).states bits)

  -- the letter that has these bits
  abbrev pub letter_for : Bits → List Bool
  letter_for bits = gathered is_in_letters 0 content.variables bits

  pub length-letter_for : (bits : Bits) → length (letter_for bits) ≡ count_of is_in_letters content.variables
  length-letter_for bits = length-gathered is_in_letters content.variables bits 0

  pub next_state-letter_for : (state : ℕ) → state < length content.states → (bits : Bits) → next_state content state (letter_for bits) ≡ next_by content state bits
  next_state-letter_for state within bits =
      let held = slice_get-held content.states state within in
      let is = state_followed state held.0 held.1 in
      subst (λ found. next_from content found (letter_for bits) ≡ behind content found bits) (sym held.1)
      (leaf_of-gathered content.nodes is_in_letters content.variables held.0.next bits ordered is.valid is.tests)

  -- equal residuals lead to equal residuals
  pub residuals_next : (one other : ℕ) → one < length content.states → other < length content.states → HaveEqualResiduals content one other
      → (bits : Bits) → HaveEqualResiduals content (next_by content one bits) (next_by content other bits)
  residuals_next one other in_one in_other equal bits letters are =
      let both = equal (letter_for bits ∷ letters) (length-letter_for bits, are) in
      ap (λ state. sign_at content (state_after content state letters)) (sym (next_state-letter_for one in_one bits))
      ∙ both ∙ ap (λ state. sign_at content (state_after content state letters)) (next_state-letter_for other in_other bits)
