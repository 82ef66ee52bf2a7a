-- The slots of variables, and the bits that diagrams read by them.
use Rattle.std.proofs.Common.{◌≡◌, ℕ, zero, suc, ◌+◌, Bool, false, IsTrue, if◌then◌else◌, List, [], ◌∷◌, ◌++◌, drop, length, slice_index_or, refl, sym, ap, ◌∙◌, arith}
use Rattle.std.proofs.lemmas.Option.{none-some, same_Some}
use Rattle.ms_arena.specs.declared.node.Node.{Node}
use Rattle.ms_arena.specs.declared.node.Ref.{Ref}
use Rattle.ms_arena.specs.Diagram.{IsOrdered, IsValid, leaf_of}
use Rattle.ms_arena.specs.Reach.{TestsOnly}
use Rattle.ms_arena.proofs.ReachLemmas.{leaf_of-tested}
use Rattle.ms_logic.specs.declared.mode.Order.{Order}
use Rattle.ms_logic.specs.declared.mode.Order.TheVariants.{Zero, One, Two}
use Rattle.ms_logic.specs.Assignment.{Variable}
use Rattle.ms_logic_words.specs.Content.{HasValueAt, bits_at, count_of, head_bit, is_in_letters, is_truth_value, letter_bits, padded, tail_bits, truth_bits, variables_by_place, variables_from}
use Rattle.ms_cert.specs.inner.Slots.{count_in, slot_bits, slots_from}

-- as many variables have a value as orders
count_from : (has_value : Order → Bool) (orders : List Order) (place : ℕ) → count_of has_value (variables_from place orders) ≡ count_in has_value orders
count_from has_value [] place = refl
count_from has_value (o ∷ orders) place = ap (λ (n : ℕ). if has_value o then n + 1 else n) (count_from has_value orders (place + 1))

pub count-orders : (has_value : Order → Bool) (orders : List Order) → count_of has_value (variables_by_place orders) ≡ count_in has_value orders
count-orders has_value orders = count_from has_value orders 0

pub length-slots : (orders : List Order) (truth letter : ℕ) → length (slots_from truth letter orders) ≡ length orders
length-slots [] truth letter = refl
length-slots (Zero ∷ orders) truth letter = ap suc (length-slots orders (truth + 1) letter)
length-slots (One ∷ orders) truth letter = ap suc (length-slots orders truth (letter + 1))
length-slots (Two ∷ orders) truth letter = ap suc (length-slots orders truth (letter + 1))

-- the slots so far, and those of the orders that are left
pub record HasLaid (all rest : List Order) (done : List ℕ) (values bits : ℕ) : Type 0 where
  pub slots : done ++ slots_from values bits rest ≡ slots_from 0 0 all
  pub truth : values + count_in is_truth_value rest ≡ count_in is_truth_value all
  pub letter : bits + count_in is_in_letters rest ≡ count_in is_in_letters all

-- the bits of a list behind so many
head-drop : (values : List Bool) (n : ℕ) → head_bit (drop n values) ≡ slice_index_or values n false
head-drop [] zero = refl
head-drop [] (suc n) = refl
head-drop (b ∷ values) zero = refl
head-drop (b ∷ values) (suc n) = head-drop values n

tail-drop : (values : List Bool) (n : ℕ) → tail_bits (drop n values) ≡ drop (suc n) values
tail-drop [] zero = refl
tail-drop [] (suc n) = refl
tail-drop (b ∷ values) zero = refl
tail-drop (b ∷ values) (suc n) = tail-drop values n

tail-next : (values : List Bool) (n : ℕ) → tail_bits (drop n values) ≡ drop (n + 1) values
tail-next values n = let up : suc n ≡ n + 1 = omega arith in tail-drop values n ∙ ap (λ (k : ℕ). drop k values) up

-- a truth value stands at its slot, and a bit of a letter at its own
truth_slot : (orders : List Order) (values : List Bool) (from truth letter place : ℕ) → HasValueAt (variables_from from orders) is_truth_value place
    → bits_at (padded is_truth_value (variables_from from orders) (drop truth values)) place ≡ slot_bits (slots_from truth letter orders) values place
truth_slot [] values from truth letter place has = absurd (none-some has.0 has.1)
truth_slot (Zero ∷ orders) values from truth letter zero has = head-drop values truth
truth_slot (One ∷ orders) values from truth letter zero has = absurd (own_order (record { name = from; order = One }) has.0 (same_Some (record { name = from; order = One }) has.0 has.1) refl has.2)
  where
    own_order : (one other : Variable) → one ≡ other → is_truth_value one.order ≡ false → IsTrue (is_truth_value other.order) → ⊥
    own_order one other same is holds = let there : is_truth_value other.order ≡ false = ap (λ (v : Variable). is_truth_value v.order) (sym same) ∙ is in cc
truth_slot (Two ∷ orders) values from truth letter zero has = absurd (own_order (record { name = from; order = Two }) has.0 (same_Some (record { name = from; order = Two }) has.0 has.1) refl has.2)
  where
    own_order : (one other : Variable) → one ≡ other → is_truth_value one.order ≡ false → IsTrue (is_truth_value other.order) → ⊥
    own_order one other same is holds = let there : is_truth_value other.order ≡ false = ap (λ (v : Variable). is_truth_value v.order) (sym same) ∙ is in cc
truth_slot (Zero ∷ orders) values from truth letter (suc place) has =
    ap (λ (left : List Bool). bits_at (padded is_truth_value (variables_from (from + 1) orders) left) place) (tail-next values truth)
    ∙ truth_slot orders values (from + 1) (truth + 1) letter place has
truth_slot (One ∷ orders) values from truth letter (suc place) has = truth_slot orders values (from + 1) truth (letter + 1) place has
truth_slot (Two ∷ orders) values from truth letter (suc place) has = truth_slot orders values (from + 1) truth (letter + 1) place has

letter_slot : (orders : List Order) (values : List Bool) (from truth letter place : ℕ) → HasValueAt (variables_from from orders) is_in_letters place
    → bits_at (padded is_in_letters (variables_from from orders) (drop letter values)) place ≡ slot_bits (slots_from truth letter orders) values place
letter_slot [] values from truth letter place has = absurd (none-some has.0 has.1)
letter_slot (One ∷ orders) values from truth letter zero has = head-drop values letter
letter_slot (Two ∷ orders) values from truth letter zero has = head-drop values letter
letter_slot (Zero ∷ orders) values from truth letter zero has = absurd (own_order (record { name = from; order = Zero }) has.0 (same_Some (record { name = from; order = Zero }) has.0 has.1) refl has.2)
  where
    own_order : (one other : Variable) → one ≡ other → is_in_letters one.order ≡ false → IsTrue (is_in_letters other.order) → ⊥
    own_order one other same is holds = let there : is_in_letters other.order ≡ false = ap (λ (v : Variable). is_in_letters v.order) (sym same) ∙ is in cc
letter_slot (Zero ∷ orders) values from truth letter (suc place) has = letter_slot orders values (from + 1) (truth + 1) letter place has
letter_slot (One ∷ orders) values from truth letter (suc place) has =
    ap (λ (left : List Bool). bits_at (padded is_in_letters (variables_from (from + 1) orders) left) place) (tail-next values letter)
    ∙ letter_slot orders values (from + 1) truth (letter + 1) place has
letter_slot (Two ∷ orders) values from truth letter (suc place) has =
    ap (λ (left : List Bool). bits_at (padded is_in_letters (variables_from (from + 1) orders) left) place) (tail-next values letter)
    ∙ letter_slot orders values (from + 1) truth (letter + 1) place has

module _ (nodes : List Node) (ordered : IsOrdered nodes) (orders : List Order) (values : List Bool) (root : Ref) (valid : IsValid nodes root) where
  -- so both lead where the padded bits lead
  pub leaf-truth : TestsOnly nodes (HasValueAt (variables_by_place orders) is_truth_value) root
      → leaf_of nodes root (slot_bits (slots_from 0 0 orders) values) ≡ leaf_of nodes root (truth_bits (variables_by_place orders) values)
  leaf-truth tests =
      leaf_of-tested nodes ordered root (slot_bits (slots_from 0 0 orders) values) (truth_bits (variables_by_place orders) values) valid
      (λ var tested. sym (truth_slot orders values 0 0 0 var (tests var tested)))

  pub leaf-letter : TestsOnly nodes (HasValueAt (variables_by_place orders) is_in_letters) root
      → leaf_of nodes root (slot_bits (slots_from 0 0 orders) values) ≡ leaf_of nodes root (letter_bits (variables_by_place orders) values)
  leaf-letter tests =
      leaf_of-tested nodes ordered root (slot_bits (slots_from 0 0 orders) values) (letter_bits (variables_by_place orders) values) valid
      (λ var tested. sym (letter_slot orders values 0 0 0 var (tests var tested)))
