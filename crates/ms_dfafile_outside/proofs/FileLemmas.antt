-- The variables and the states of a file as its content has them.
use Rattle.std.proofs.Common.{◌≡◌, ℕ, ◌+◌, ◌<◌, List, [], ◌∷◌, length, map, slice_get, Some, sym, ap, ◌∙◌, arith}
use Rattle.std.specs.Option.{option_map}
use Rattle.std.proofs.lemmas.List.{length-map}
use Rattle.std.proofs.lemmas.Option.{slice_get-map}
use Rattle.ms_dfa.proofs.OrdersLemmas.{orders-by_place}
use Rattle.ms_dfa.specs.Files.{content_of_file}
use Rattle.ms_dfa.specs.declared.plain.FileSign.{FileSign}
use Rattle.ms_dfa.specs.declared.plain.FileState.{FileState}
use Rattle.ms_dfa.specs.declared.plain.FileVar.{FileVar}
use Rattle.ms_dfa.specs.declared.plain.Plain.{Plain}
use Rattle.ms_logic.specs.declared.mode.Order.{Order}
use Rattle.ms_logic.specs.Lists.{AreRising, IsBelowFirst}
use Rattle.ms_logic_words.specs.Content.{StateOf, variables_from}
use Rattle.ms_dfafile_outside.specs.inner.Labels.{orders_in}

below_first : (base : ℕ) (orders : List Order) (name : ℕ) → name < base → IsBelowFirst name (variables_from base orders)
below_first base [] name less = tt
below_first base (o ∷ orders) name less = less

rising_from : (base : ℕ) (orders : List Order) → AreRising (variables_from base orders)
rising_from base [] = tt
rising_from base (o ∷ orders) = (below_first (base + 1) orders base (omega arith), rising_from (base + 1) orders)

-- a state of a file in its content
abbrev pub state_of : FileState → StateOf FileSign
state_of state = record { sign = state.sign; next = state.next }

module _ (plain : Plain) where
  pub rising-file : AreRising (content_of_file plain).variables
  rising-file = rising_from 0 (map (λ v. v.order) plain.variables)

  pub orders-file : orders_in (content_of_file plain) ≡ map (λ v. v.order) plain.variables
  orders-file = orders-by_place (map (λ v. v.order) plain.variables)

  pub order-at : (place : ℕ) (v : FileVar) → slice_get plain.variables place ≡ Some v → slice_get (orders_in (content_of_file plain)) place ≡ Some v.order
  order-at place v held =
      ap (λ (orders : List Order). slice_get orders place) orders-file ∙ slice_get-map (λ v. v.order) plain.variables place ∙ ap (option_map (λ v. v.order)) held

  pub length-orders : length (orders_in (content_of_file plain)) ≡ length plain.variables
  length-orders = ap length orders-file ∙ length-map plain.variables (λ v. v.order)

  pub length-variables : length (content_of_file plain).variables ≡ length plain.variables
  length-variables = sym (length-map (content_of_file plain).variables (λ v. v.order)) ∙ length-orders

  pub length-states : length (content_of_file plain).states ≡ length plain.states
  length-states = length-map plain.states state_of

  pub state-at : (place : ℕ) (state : FileState) → slice_get plain.states place ≡ Some state → slice_get (content_of_file plain).states place ≡ Some (state_of state)
  state-at place state held = slice_get-map state_of plain.states place ∙ ap (option_map state_of) held
