-- Each word over truth values and sets encodes an assignment in a string.
use Rattle.std.proofs.Common.{◌≡◌, ℕ, zero, suc, Bool, IsTrue, List, [], ◌∷◌, slice_get, Some, refl, sym, ap, subst, ◌∙◌}
use Rattle.std.specs.Option.{option_map}
use Rattle.std.proofs.lemmas.Option.{none-some, same_Some, slice_get-map}
use Rattle.ms_list.specs.declared.word.Word.{Word}
use Rattle.ms_logic.specs.declared.mode.Mode.{Mode}
use Rattle.ms_logic.specs.declared.mode.Order.{Order}
use Rattle.ms_logic.specs.declared.mode.Order.TheVariants.{Zero, One, Two}
use Rattle.ms_logic.specs.Assignment.{Variable}
use Rattle.ms_logic_words.specs.Content.{HasValueAt, IsWordOver, is_truth_value, is_in_letters}
use Rattle.ms_logic_words.specs.inner.Decoding.{HasOneBit, HaveOneBit, column_after}
use Rattle.ms_logic.specs.Lists.{AreRising, IsBelowFirst}
use Rattle.ms_logic_words.specs.Word.{IsEncoding}
use Rattle.ms_logic_words.proofs.DecodedWords.{encodings_are}
use Rattle.ms_dfafile_adopt.specs.Sets.{set_order, as_set, as_sets}

-- a set has its bits where a number has
pub same_truth_value : (o : Order) → is_truth_value (set_order o) ≡ is_truth_value o
same_truth_value Zero = refl
same_truth_value One = refl
same_truth_value Two = refl

pub same_in_letters : (o : Order) → is_in_letters (set_order o) ≡ is_in_letters o
same_in_letters Zero = refl
same_in_letters One = refl
same_in_letters Two = refl

first-sets : (name : ℕ) (vs : List Variable) → IsBelowFirst name vs → IsBelowFirst name (as_sets vs)
first-sets name [] below = tt
first-sets name (v ∷ vs) below = below

pub rising-sets : (vs : List Variable) → AreRising vs → AreRising (as_sets vs)
rising-sets [] rising = tt
rising-sets (v ∷ vs) rising = (first-sets v.name vs rising.0, rising-sets vs rising.1)

one_bit-set : (letters : List (List Bool)) (o : Order) (column : ℕ) → HasOneBit letters (set_order o) column
one_bit-set letters Zero column = tt
one_bit-set letters One column = tt
one_bit-set letters Two column = tt

one_bit-sets : (letters : List (List Bool)) (column : ℕ) (vs : List Variable) → HaveOneBit letters column (as_sets vs)
one_bit-sets letters column [] = tt
one_bit-sets letters column (v ∷ vs) = (one_bit-set letters v.order column, one_bit-sets letters (column_after (set_order v.order) column) vs)

pub each_encodes : (mode : Mode) (vs : List Variable) (word : Word) → AreRising vs → IsWordOver (as_sets vs) word → IsEncoding mode (as_sets vs) word
each_encodes mode vs word rising over = (encodings_are mode (as_sets vs) word (rising-sets vs rising)).1 (over, one_bit-sets word.letters 0 vs)

module _ (has_value : Order → Bool) (same : (o : Order) → has_value (set_order o) ≡ has_value o) (vs : List Variable) (place : ℕ) where
  -- a variable with a value stands where its set does
  pub HasValueAt-set : HasValueAt vs has_value place → HasValueAt (as_sets vs) has_value place
  HasValueAt-set there = (as_set there.0, slice_get-map as_set vs place ∙ ap (option_map as_set) there.1, subst IsTrue (sym (same there.0.order)) there.2)

-- the variable that a set of the list was
was_variable : (vs : List Variable) (place : ℕ) (w : Variable) → slice_get (as_sets vs) place ≡ Some w → (v : Variable) × (slice_get vs place ≡ Some v) × (as_set v ≡ w)
was_variable [] place w held = absurd (none-some w held)
was_variable (v ∷ vs) zero w held = (v, refl, same_Some (as_set v) w held)
was_variable (v ∷ vs) (suc place) w held = was_variable vs place w held

pub HasValueAt-was : (has_value : Order → Bool) → ((o : Order) → has_value (set_order o) ≡ has_value o) → (vs : List Variable) (place : ℕ)
    → HasValueAt (as_sets vs) has_value place → HasValueAt vs has_value place
HasValueAt-was has_value same vs place there =
    let was = was_variable vs place there.0 there.1 in
    (was.0, was.1, subst IsTrue (same was.0.order) (subst (λ (w : Variable). IsTrue (has_value w.order)) (sym was.2) there.2))

-- and leads there
pub set-at : (vs : List Variable) (place : ℕ) (v : Variable) → slice_get vs place ≡ Some v → slice_get (as_sets vs) place ≡ Some (as_set v)
set-at vs place v held = slice_get-map as_set vs place ∙ ap (option_map as_set) held
