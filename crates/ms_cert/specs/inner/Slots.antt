-- Where the bit of each variable stands in a word. Only the contracts and proofs inside this crate cite it.
use Rattle.std.specs.Prelude.{◌≡◌, ℕ, ◌+◌, Bool, false, if◌then◌else◌, List, [], ◌∷◌, map, slice_index, slice_index_or}
use Rattle.ms_arena.specs.Diagram.{Bits}
use Rattle.ms_dfa.specs.declared.plain.Plain.{Plain}
use Rattle.ms_logic.specs.declared.mode.Order.{Order}
use Rattle.ms_logic_words.specs.Content.{is_in_letters, is_truth_value}
use Rattle.ms_cert.specs.declared.layout.Layout.{Layout}

-- for each order how many of its kind stand before it, where so many truth values and others stand before all
abbrev pub slots_from : ℕ → ℕ → List Order → List ℕ
slots_from truth letter [] = []
slots_from truth letter (order ∷ orders) =
    if is_truth_value order then truth ∷ slots_from (truth + 1) letter orders else letter ∷ slots_from truth (letter + 1) orders

-- how many of the orders have a value
abbrev pub count_in : (Order → Bool) → List Order → ℕ
count_in has_value [] = 0
count_in has_value (order ∷ orders) = if has_value order then count_in has_value orders + 1 else count_in has_value orders

abbrev pub orders_of : Plain → List Order
orders_of plain = map (λ variable. variable.order) plain.variables

-- the slots of a file
abbrev pub slots_of : Plain → List ℕ
slots_of plain = slots_from 0 0 (orders_of plain)

-- the bit of each variable, by its slot
abbrev pub slot_bits : List ℕ → List Bool → Bits
slot_bits slots values place = slice_index_or values (slice_index slots place) false

-- the slots, and how many truth values and bits of a letter there are
pub record IsLayout (orders : List Order) (layout : Layout) : Type 0 where
  pub slots : layout.slots ≡ slots_from 0 0 orders
  pub truth : layout.truth ≡ count_in is_truth_value orders
  pub letter : layout.letter ≡ count_in is_in_letters orders
