-- Words over the others, and one letter more, with the bits of the bound variable.
use Rattle.std.proofs.Common.{◌≡◌, ℕ, zero, suc, Bool, false, List, [], ◌∷◌, ◌++◌, length, map, Option, Some, None, refl, sym, ap, ◌∙◌, arith}
use Rattle.std.specs.List.{zip}
use Rattle.std.proofs.lemmas.List.{append-nil, length-append, map-append}
use Rattle.ms_list.specs.declared.word.Word.{Word}
use Rattle.ms_logic.specs.declared.mode.Order.{Order}
use Rattle.ms_logic.specs.declared.mode.Order.TheVariants.{Zero, One, Two}
use Rattle.ms_logic.specs.Assignment.{Variable}
use Rattle.ms_logic_measures.specs.CallMeasures.{bound_bits, word_with}
use Rattle.ms_logic_measures.specs.Starts.{bits_for, next_at, state_at, whole_word}
use Rattle.ms_logic_words.specs.Content.{Content, StateOf, first_state, is_in_letters, is_truth_value, letter_bits, next_from, next_state, state_after}
use Rattle.ms_minim.proofs.LettersLemmas.{state_after-append}
use Rattle.ms_project.proofs.ReachLemmas.{with_letter}
use Rattle.ms_project_parts.proofs.Given.{bit_of}

-- a list with one item more has a last one
pub record IsPushed {A : Type 0} (n : ℕ) (items : List A) : Type 0 where
  pub init : List A
  pub last : A
  pub long : length init ≡ n
  pub is : items ≡ init ++ last ∷ []

pub pushed : {A : Type 0} (n : ℕ) (items : List A) → length items ≡ suc n → IsPushed n items
pushed n [] long = absurd (omega (arith, long))
pushed zero (item ∷ []) long = record { init = []; last = item; long = refl; is = refl }
pushed (suc n) (item ∷ []) long = absurd (omega (arith, long))
pushed zero (item ∷ other ∷ items) long = absurd (omega (arith, long))
pushed (suc n) (item ∷ other ∷ items) long =
    let more = pushed n (other ∷ items) (omega (arith, long)) in
    let behind = more.long in
    record { init = item ∷ more.init; last = more.last; long = omega (arith, behind); is = ap (λ list. item ∷ list) more.is }

-- the bits of the bound variable beside a word with one letter more: a truth value stays, and the others have one bit more
abbrev pub more_bits : Order → List Bool → Bool → List Bool
more_bits Zero bits bit = bits
more_bits One bits bit = bits ++ bit ∷ []
more_bits Two bits bit = bits ++ bit ∷ []

pub length-more_bits : (order : Order) (word : Word) (letter : List Bool) (bits : List Bool) (bit : Bool) → length bits ≡ bound_bits order (whole_word word)
    → length (more_bits order bits bit) ≡ bound_bits order (whole_word (with_letter word letter))
length-more_bits Zero word letter bits bit long = long
length-more_bits One word letter bits bit long = let first = length-append bits (bit ∷ []) in let second = length-append word.letters (letter ∷ []) in omega (arith, long, first, second)
length-more_bits Two word letter bits bit long = let first = length-append bits (bit ∷ []) in let second = length-append word.letters (letter ∷ []) in omega (arith, long, first, second)

-- and all bits beside it are of this form
pub record AreMore (order : Order) (word : Word) (bits : List Bool) : Type 0 where
  pub init : List Bool
  pub bit : Bool
  pub long : length init ≡ bound_bits order (whole_word word)
  pub are : bits ≡ more_bits order init bit

last_of : (word : Word) (letter : List Bool) (bits : List Bool) → length bits ≡ length (with_letter word letter).letters → IsPushed (length word.letters) bits
last_of word letter bits long = let more = length-append word.letters (letter ∷ []) in pushed (length word.letters) bits (omega (arith, long, more))

pub are_more : (order : Order) (word : Word) (letter : List Bool) (bits : List Bool) → length bits ≡ bound_bits order (whole_word (with_letter word letter)) → AreMore order word bits
are_more Zero word letter bits long = record { init = bits; bit = false; long = long; are = refl }
are_more One word letter bits long = let split = last_of word letter bits long in record { init = split.init; bit = split.last; long = split.long; are = split.is }
are_more Two word letter bits long = let split = last_of word letter bits long in record { init = split.init; bit = split.last; long = split.long; are = split.is }

-- beside a word of no letters stands the truth value of a bound variable that is one
pub record AreFirst (order : Order) (bits : List Bool) : Type 0 where
  pub bit : Bool
  pub are : bits ≡ bit_of is_truth_value order bit

abbrev pub no_letters : List Bool → Word
no_letters truth = record { truth = truth; letters = [] }

pub are_first : (order : Order) (truth bits : List Bool) → length bits ≡ bound_bits order (whole_word (no_letters truth)) → AreFirst order bits
are_first Zero truth [] long = absurd (omega (arith, long))
are_first Zero truth (bit ∷ []) long = record { bit = bit; are = refl }
are_first Zero truth (bit ∷ other ∷ bits) long = absurd (omega (arith, long))
are_first One truth [] long = record { bit = false; are = refl }
are_first One truth (bit ∷ bits) long = absurd (omega (arith, long))
are_first Two truth [] long = record { bit = false; are = refl }
are_first Two truth (bit ∷ bits) long = absurd (omega (arith, long))

pub length-first : (order : Order) (truth : List Bool) (bit : Bool) → length (bit_of is_truth_value order bit) ≡ bound_bits order (whole_word (no_letters truth))
length-first Zero truth bit = refl
length-first One truth bit = refl
length-first Two truth bit = refl

-- letters with one bit more each
abbrev paired : List (List Bool) → List Bool → List (List Bool)
paired letters bits = map (λ p. p.0 ++ p.1 ∷ []) (zip letters bits)

paired-push : (letters : List (List Bool)) (bits letter : List Bool) (bit : Bool) → length bits ≡ length letters
    → paired (letters ++ letter ∷ []) (bits ++ bit ∷ []) ≡ paired letters bits ++ (letter ++ bit ∷ []) ∷ []
paired-push [] [] letter bit long = refl
paired-push [] (b ∷ bits) letter bit long = absurd (omega (arith, long))
paired-push (first ∷ letters) [] letter bit long = absurd (omega (arith, long))
paired-push (first ∷ letters) (b ∷ bits) letter bit long = ap (λ (list : List (List Bool)). (first ++ b ∷ []) ∷ list) (paired-push letters bits letter bit (omega (arith, long)))

-- the word with these bits has one letter more
more_letters : (order : Order) (word : Word) (letter bits : List Bool) (bit : Bool) → length bits ≡ bound_bits order (whole_word word)
    → (word_with order (more_bits order bits bit) (with_letter word letter)).letters ≡ (word_with order bits word).letters ++ (letter ++ bit_of is_in_letters order bit) ∷ []
more_letters Zero word letter bits bit long = ap (λ (own : List Bool). word.letters ++ own ∷ []) (sym (append-nil letter))
more_letters One word letter bits bit long = paired-push word.letters bits letter bit long
more_letters Two word letter bits bit long = paired-push word.letters bits letter bit long

same_truth : (order : Order) (word : Word) (letter bits : List Bool) (bit : Bool)
    → (word_with order (more_bits order bits bit) (with_letter word letter)).truth ≡ (word_with order bits word).truth
same_truth Zero word letter bits bit = refl
same_truth One word letter bits bit = refl
same_truth Two word letter bits bit = refl

module _ {Sign : Type 0} (content : Content Sign) where
  -- a letter leads where its bits lead
  pub next_is : (found : Option (StateOf Sign)) (letter : List Bool) → next_from content found letter ≡ next_at content found (letter_bits content.variables letter)
  next_is None letter = refl
  next_is (Some state) letter = refl

  module _ (all : List Variable) (order : Order) where
    -- the state after a word of no letters
    pub state_first : (truth : List Bool) (bit : Bool)
        → state_at content all (word_with order (bit_of is_truth_value order bit) (no_letters truth)) ≡ first_state content (bits_for is_truth_value all (truth ++ bit_of is_truth_value order bit) content.variables)
    state_first truth bit = by_order order
      where
        by_order : (o : Order) → state_at content all (word_with o (bit_of is_truth_value o bit) (no_letters truth)) ≡ first_state content (bits_for is_truth_value all (truth ++ bit_of is_truth_value o bit) content.variables)
        by_order Zero = refl
        by_order One = ap (λ (list : List Bool). first_state content (bits_for is_truth_value all list content.variables)) (sym (append-nil truth))
        by_order Two = ap (λ (list : List Bool). first_state content (bits_for is_truth_value all list content.variables)) (sym (append-nil truth))

    -- and behind one letter more
    pub state_more : (word : Word) (letter bits : List Bool) (bit : Bool) → length bits ≡ bound_bits order (whole_word word)
        → state_at content all (word_with order (more_bits order bits bit) (with_letter word letter))
        ≡ next_state content (state_at content all (word_with order bits word)) (bits_for is_in_letters all (letter ++ bit_of is_in_letters order bit) content.variables)
    state_more word letter bits bit long =
        let was = word_with order bits word in
        let one = letter ++ bit_of is_in_letters order bit in
        let own : List Bool → List Bool = λ list. bits_for is_in_letters all list content.variables in
        let start = first_state content (bits_for is_truth_value all was.truth content.variables) in
        ap (λ truth. state_after content (first_state content (bits_for is_truth_value all truth content.variables)) (map own (word_with order (more_bits order bits bit) (with_letter word letter)).letters)) (same_truth order word letter bits bit)
        ∙ ap (λ letters. state_after content start (map own letters)) (more_letters order word letter bits bit long)
        ∙ ap (state_after content start) (map-append own was.letters (one ∷ []))
        ∙ state_after-append content start (map own was.letters) (own one ∷ [])
