-- A content runs alike over variables of the same orders.
use Rattle.std.proofs.Common.{◌≡◌, ℕ, Bool, List, [], ◌∷◌, slice_get, Option, Some, None, refl, ap, ◌∙◌}
use Rattle.ms_arena.specs.Diagram.{leaf_of}
use Rattle.ms_dfa.proofs.OrdersLemmas.{orders_of, padded-same}
use Rattle.ms_list.specs.declared.word.Word.{Word}
use Rattle.ms_logic.specs.Assignment.{Variable}
use Rattle.ms_logic_words.specs.Content.{Content, StateOf, bits_at, first_state, is_in_letters, is_truth_value, next_from, next_state, sign_at, sign_of, state_after}

module _ {Sign : Type 0} (content : Content Sign) (variables : List Variable) (same : orders_of variables ≡ orders_of content.variables) where
  abbrev over : Content Sign
  over = record content { variables = variables }

  next-over : (state : Option (StateOf Sign)) (letter : List Bool) → next_from over state letter ≡ next_from content state letter
  next-over None letter = refl
  next-over (Some state) letter = ap (λ values. leaf_of content.nodes state.next (bits_at values)) (padded-same is_in_letters variables content.variables same letter)

  after-over : (state : ℕ) (letters : List (List Bool)) → state_after over state letters ≡ state_after content state letters
  after-over state [] = refl
  after-over state (letter ∷ letters) =
      ap (λ next. state_after over next letters) (next-over (slice_get content.states state) letter) ∙ after-over (next_state content state letter) letters

  pub sign-over : (word : Word) → sign_of over word ≡ sign_of content word
  sign-over word =
      ap (sign_at content)
      (ap (λ values. state_after over (leaf_of content.nodes content.start (bits_at values)) word.letters) (padded-same is_truth_value variables content.variables same word.truth)
      ∙ after-over (first_state content word.truth) word.letters)
