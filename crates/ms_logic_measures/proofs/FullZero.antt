-- The full contents of x = 0 and of restrict(x = 0) over x.
use Rattle.std.proofs.Common.{if◌then◌else◌, ◌≡◌, ◌≢◌, ℕ, suc, ◌+◌, ◌-◌, ◌<◌, ◌≤◌, min, Bool, true, false, cond, inr, List, [], ◌∷◌, length, slice_index_or, Option, Some, None, refl, sym, ◌∙◌, ap, ap₂, subst, arith}
use Rattle.std.specs.List.{filter, range_with_len}
use Rattle.ms_arena.specs.declared.node.Ref.{Ref}
use Rattle.ms_arena.specs.declared.node.Ref.TheVariants.{Leaf, Inner}
use Rattle.ms_arena.specs.declared.node.Node.{Node}
use Rattle.ms_arena.specs.Diagram.{leaf_of, leaf_number, IsOrdered, IsReduced}
use Rattle.ms_arena.specs.Reach.{here, TestsOnly}
use Rattle.ms_list.specs.declared.word.Word.{Word}
use Rattle.ms_logic_words.specs.declared.sign.Sign.{Sign}
use Rattle.ms_logic_words.specs.declared.sign.Sign.TheVariants as sign
use Rattle.ms_logic.specs.declared.mode.Mode.{Mode}
use Rattle.ms_logic.specs.declared.mode.Order.TheVariants.{One}
use Rattle.ms_logic_words.specs.Canonical.{IsCanonical, HaveSameSigns, IsNodeReached}
use Rattle.ms_logic_words.specs.Content.{next_state, Content, IsContent, NamesPart, IsWordOver, AreLetters, HasValueAt, is_in_letters, last_state, state_after, sign_at, sign_of}
use Rattle.ms_logic_core.specs.CoreForm.{CoreForm, restrict}
use Rattle.ms_logic_words.specs.inner.Decoding.{bit_in, positions_of, decoded}
use Rattle.ms_logic.specs.inner.Examples.{just_x, variable}
use Rattle.ms_logic_words.specs.inner.ContentExamples.{word}
use Rattle.ms_logic.specs.FiniteSet.{least}
use Rattle.ms_logic_measures.specs.FullContent.{HasValueOn, CoversCoreFormula, IsFullContent}
use Rattle.ms_logic_words.specs.WordSign.{EncodesSome, IsOutside}
use Rattle.ms_logic_words.proofs.DecodedWords.{decoded_is_encoded, encodings_are}
use Rattle.ms_logic_words.proofs.SubsetContent.{leaf_reaches}
use Rattle.ms_logic_measures.specs.inner.MeasuredContents.{zero_content}
use Rattle.ms_logic_measures.specs.inner.MeasureExamples.{is_zero}
use Rattle.ms_logic_measures.proofs.Counting.{at_place, at_number}
use Rattle.ms_logic_measures.proofs.ShortContents.{IsPlaced, ordered_by_place, reduced_by_place}

-- the positions of x, counted from a start on
ones_from : ℕ → List (List Bool) → List ℕ
ones_from start [] = []
ones_from start (letter ∷ letters) = cond (slice_index_or letter 0 false) (start ∷ ones_from (start + 1) letters) (ones_from (start + 1) letters)

filter-ones : (in_x : ℕ → Bool) (start : ℕ) (letters : List (List Bool)) → ((p : ℕ) → p < length letters → in_x (start + p) ≡ bit_in letters 0 p)
    → filter in_x (range_with_len start (length letters)) ≡ ones_from start letters
unfolding ones_from
filter-ones in_x start [] is = refl
filter-ones in_x start (letter ∷ letters) is =
    let here : start + 0 ≡ start = omega arith in
    let first : in_x start ≡ slice_index_or letter 0 false = ap in_x (sym here) ∙ is 0 (omega arith) in
    let others = filter-ones in_x (start + 1) letters
    (λ p below. let next : start + 1 + p ≡ start + (p + 1) = omega arith in let place : p + 1 ≡ suc p = omega arith in
    ap in_x next ∙ (is (p + 1) (omega (arith, below)) ∙ ap (λ k. bit_in (letter ∷ letters) 0 k) place)) in
    ap (λ b. cond b (start ∷ filter in_x (range_with_len (start + 1) (length letters))) (filter in_x (range_with_len (start + 1) (length letters)))) first
    ∙ ap (λ xs. cond (slice_index_or letter 0 false) (start ∷ xs) xs) others

positions-ones : (letters : List (List Bool)) → positions_of letters 0 ≡ ones_from 0 letters
positions-ones letters =
    filter-ones (bit_in letters 0) 0 letters (λ p below. let same : 0 + p ≡ p = omega arith in ap (bit_in letters 0) same)

-- they are not before the start
first_one : (k : ℕ) (letters : List (List Bool)) → AreLetters just_x letters → (m : ℕ) (more : List ℕ) → ones_from k letters ≡ m ∷ more → k ≤ m
unfolding ones_from
first_one k [] are m more is = absurd (cc)
first_one k ([] ∷ letters) are m more is = absurd (let short = are.0 in omega (arith, short))
first_one k ((a ∷ b ∷ rest) ∷ letters) are m more is = absurd (let long = are.0 in omega (arith, long))
first_one k ((true ∷ []) ∷ letters) are m more is = let same : k ≡ m = cc in omega (arith, same)
first_one k ((false ∷ []) ∷ letters) are m more is = let later = first_one (k + 1) letters are.1 m more is in omega (arith, later)

-- the state after more positions, once x has one, and as long as it has none
abbrev found : ℕ → List ℕ → ℕ
found s [] = s
found s (m ∷ more) = 4

abbrev waited : List ℕ → ℕ
waited [] = 1
waited (m ∷ []) = 3
waited (m ∷ n ∷ more) = 4

found-waited : (m : ℕ) (more : List ℕ) → found 3 more ≡ waited (m ∷ more)
found-waited m [] = refl
found-waited m (n ∷ more) = refl

-- the places of the nodes, by their ends
number_of : Node → ℕ
number_of node = (leaf_number node.low - 1) + min (leaf_number node.high - 2) 1

-- a state, by its signs with no letter and with the letter 1
state_by : Option Sign → Option Sign → ℕ
state_by (Some sign.Yes) other = 2
state_by (Some sign.No) other = 3
state_by (Some sign.Undefined) other = 3
state_by (Some sign.Outside) (Some sign.Yes) = 0
state_by (Some sign.Outside) (Some sign.No) = 1
state_by (Some sign.Outside) (Some sign.Undefined) = 1
state_by (Some sign.Outside) (Some sign.Outside) = 4
state_by (Some sign.Outside) None = 4
state_by None other = 4

leaves_differ : (a b : ℕ) → (a ≡ b → ⊥) → Leaf a ≡ Leaf b → ⊥
leaves_differ a b differ same = differ (ap leaf_number same)

module _ (mode : Mode) (elsewhere : Sign) where
  abbrev content : Content Sign
  content = zero_content mode elsewhere

  after_two : (letters : List (List Bool)) → AreLetters just_x letters → state_after content 4 letters ≡ 4
  unfolding leaf_of
  after_two [] are = refl
  after_two (letter ∷ letters) are = after_two letters are.1

  -- where x has one position, 0 or another
  after_found : (state k : ℕ) (letters : List (List Bool)) → ((bit : Bool) → next_state content state (bit ∷ []) ≡ (if bit then 4 else state)) → AreLetters just_x letters
      → state_after content state letters ≡ found state (ones_from k letters)
  unfolding ones_from
  after_found state k [] next are = refl
  after_found state k ([] ∷ letters) next are = absurd (let short = are.0 in omega (arith, short))
  after_found state k ((a ∷ b ∷ more) ∷ letters) next are = absurd (let long = are.0 in omega (arith, long))
  after_found state k ((true ∷ []) ∷ letters) next are = ap (λ s. state_after content s letters) (next true) ∙ after_two letters are.1
  after_found state k ((false ∷ []) ∷ letters) next are = ap (λ s. state_after content s letters) (next false) ∙ after_found state (k + 1) letters next are.1

  next_zero : (bit : Bool) → next_state content 2 (bit ∷ []) ≡ (if bit then 4 else 2)
  unfolding leaf_of
  next_zero true = refl
  next_zero false = refl

  next_other : (bit : Bool) → next_state content 3 (bit ∷ []) ≡ (if bit then 4 else 3)
  unfolding leaf_of
  next_other true = refl
  next_other false = refl

  after_none : (k : ℕ) (letters : List (List Bool)) → AreLetters just_x letters → state_after content 1 letters ≡ waited (ones_from k letters)
  unfolding leaf_of ones_from
  after_none k [] are = refl
  after_none k ([] ∷ letters) are = absurd (let short = are.0 in omega (arith, short))
  after_none k ((a ∷ b ∷ more) ∷ letters) are = absurd (let long = are.0 in omega (arith, long))
  after_none k ((true ∷ []) ∷ letters) are = after_found 3 (k + 1) letters next_other are.1 ∙ found-waited k (ones_from (k + 1) letters)
  after_none k ((false ∷ []) ∷ letters) are = after_none (k + 1) letters are.1

  ordered : IsOrdered content.nodes
  ordered =
      let leaves : (place : ℕ) (low high : ℕ) → IsPlaced content.nodes place (record { var = 0; low = Leaf low; high = Leaf high }) =
      λ place low high. record { earlier_low = tt; earlier_high = tt; rising_low = tt; rising_high = tt } in
      ordered_by_place content.nodes (leaves 0 1 2, (leaves 1 1 3, (leaves 2 2 4, (leaves 3 3 4, tt))))

  reduced : IsReduced content.nodes
  unfolding number_of
  reduced =
      reduced_by_place content.nodes number_of
      (leaves_differ 1 2 (λ same. omega (arith, same)), (leaves_differ 1 3 (λ same. omega (arith, same)), (leaves_differ 2 4 (λ same. omega (arith, same)), (leaves_differ 3 4 (λ same. omega (arith, same)), tt))))
      (refl, (refl, (refl, (refl, tt))))

  tests_x : (reference : Ref) → TestsOnly content.nodes (HasValueAt just_x is_in_letters) reference
  tests_x reference var tested =
      let P : ℕ → Node → Type 0 = λ place node. node.var ≡ var → HasValueAt just_x is_in_letters var in
      let x_tested : 0 ≡ var → HasValueAt just_x is_in_letters var = λ is. subst (HasValueAt just_x is_in_letters) is (variable 0 One, refl, refl) in
      at_place P content.nodes (x_tested, (x_tested, (x_tested, (x_tested, tt)))) tested.0 tested.1 tested.3 tested.4

  rules : IsContent content
  rules = record {
    some_state = omega arith;
    ordered = ordered;
    start_named = omega arith;
    next_named = at_place (λ i state. NamesPart content state.next) content.states (omega arith, (omega arith, (omega arith, (omega arith, (omega arith, tt)))));
    low_named = at_place (λ place node. NamesPart content node.low) content.nodes (omega arith, (omega arith, (omega arith, (omega arith, tt))));
    high_named = at_place (λ place node. NamesPart content node.high) content.nodes (omega arith, (omega arith, (omega arith, (omega arith, tt))));
    variables = at_place (λ place node. node.var < 1) content.nodes (omega arith, (omega arith, (omega arith, (omega arith, tt))));
    start_tests = λ var tested. absurd (leaf_reaches content.nodes 0 tested.0 tested.2);
    next_tests = λ i state held. tests_x state.next;
  }

  abbrev IsStateReached : ℕ → Type 0
  IsStateReached i = (w : Word) × IsWordOver just_x w × (last_state content w ≡ i)

  states_reached : (i : ℕ) → i < 5 → IsStateReached i
  unfolding leaf_of
  states_reached =
      at_number 5 IsStateReached (
        (word [] [], record { truth = refl; letters = tt }, refl),
        (
          (word [] ((false ∷ []) ∷ []), record { truth = refl; letters = (refl, tt) }, refl),
          (
            (word [] ((true ∷ []) ∷ []), record { truth = refl; letters = (refl, tt) }, refl),
            (
              (word [] ((false ∷ []) ∷ (true ∷ []) ∷ []), record { truth = refl; letters = (refl, (refl, tt)) }, refl),
              ((word [] ((true ∷ []) ∷ (true ∷ []) ∷ []), record { truth = refl; letters = (refl, (refl, tt)) }, refl), tt),
            ),
          ),
        ),
      )

  nodes_reached : (place : ℕ) → place < 4 → IsNodeReached content place
  nodes_reached =
      at_number 4 (IsNodeReached content) (
        inr (0, record { sign = sign.Outside; next = Inner 0 }, refl, here),
        (
          inr (1, record { sign = sign.Outside; next = Inner 1 }, refl, here),
          (
            inr (2, record { sign = sign.Yes; next = Inner 2 }, refl, here),
            (inr (3, record { sign = elsewhere; next = Inner 3 }, refl, here), tt),
          ),
        ),
      )

  module _ (alone : state_by (Some elsewhere) (Some sign.Outside) ≡ 3) (behind : state_by (Some sign.Outside) (Some elsewhere) ≡ 1) where
    state_by-signs : (i : ℕ) → i < 5 → state_by (sign_at content i) (sign_at content (state_after content i ((true ∷ []) ∷ []))) ≡ i
    unfolding leaf_of state_by
    state_by-signs =
        at_number 5 (λ i. state_by (sign_at content i) (sign_at content (state_after content i ((true ∷ []) ∷ []))) ≡ i)
        (refl, (behind, (refl, (alone, (refl, tt)))))

    states_differ : (one two : ℕ) → one < 5 → two < 5 → HaveSameSigns content one two → one ≡ two
    states_differ one two one_below two_below same =
        sym (state_by-signs one one_below)
        ∙ (ap₂ state_by (same [] tt) (same ((true ∷ []) ∷ []) (refl, tt)) ∙ state_by-signs two two_below)

    canonical : IsCanonical content
    canonical = record {
      rules = rules;
      states_reached = states_reached;
      states_differ = states_differ;
      reduced = reduced;
      nodes_reached = nodes_reached;
      states_numbered = refl;
      nodes_numbered = refl;
    }

    -- a formula that is Yes where x is 0, and has the other value elsewhere
    module _ (f : CoreForm) (covers : CoversCoreFormula [] just_x f)
        (at_zero : (w : Word) → EncodesSome mode just_x (λ e. e.number 0 ≡ 0) w → HasValueOn [] mode just_x f w sign.Yes)
        (at_other : (w : Word) → EncodesSome mode just_x (λ e. e.number 0 ≢ 0) w → HasValueOn [] mode just_x f w elsewhere) where
      abbrev HasItsValue : Word → Type 0
      HasItsValue w = (value : Sign) × (sign_of content w ≡ Some value) × HasValueOn [] mode just_x f w value

      -- a word whose x has one position, and one whose x has none or several
      encoded : (w : Word) → IsWordOver just_x w → (m : ℕ) → ones_from 0 w.letters ≡ m ∷ [] → EncodesSome mode just_x (λ e. e.number 0 ≡ m) w
      encoded w over m is =
          let positions : positions_of w.letters 0 ≡ m ∷ [] = positions-ones w.letters ∙ is in
          let encoding = decoded_is_encoded mode just_x w (tt, tt) over (ap length positions, tt) in
          (decoded mode just_x w, encoding.0, encoding.1, ap least positions)

      outside : (w : Word) → (length (ones_from 0 w.letters) ≡ 1 → ⊥) → IsOutside mode just_x w
      outside w several encoding =
          several (ap length (sym (positions-ones w.letters)) ∙ ((encodings_are mode just_x w (tt, tt)).0 encoding).1.0)

      -- the first letter has the bit 1
      value_at_zero : (w : Word) → IsWordOver just_x w → (more : List ℕ) → ones_from 0 w.letters ≡ 0 ∷ more → last_state content w ≡ found 2 more → HasItsValue w
      value_at_zero w over [] is last = (sign.Yes, ap (sign_at content) last, at_zero w (encoded w over 0 is))
      value_at_zero w over (m ∷ more) is last =
          (sign.Outside, ap (sign_at content) last, outside w (λ one. let two = ap length is in omega (arith, one, two)))

      -- and it has not
      value_later : (w : Word) → IsWordOver just_x w → (ones : List ℕ) → ones_from 0 w.letters ≡ ones →
          ((m : ℕ) (more : List ℕ) → ones ≡ m ∷ more → 1 ≤ m) → last_state content w ≡ waited ones → HasItsValue w
      value_later w over [] is later last =
          (sign.Outside, ap (sign_at content) last, outside w (λ one. let none = ap length is in omega (arith, one, none)))
      value_later w over (m ∷ n ∷ more) is later last =
          (sign.Outside, ap (sign_at content) last, outside w (λ one. let two = ap length is in omega (arith, one, two)))
      value_later w over (m ∷ []) is later last =
          let encoding = encoded w over m is in
          let positive = later m [] refl in
          (elsewhere, ap (sign_at content) last, at_other w (encoding.0, encoding.1, encoding.2, λ zero_there. let at = encoding.3 in omega (arith, positive, zero_there, at)))

      value_of : (truth : List Bool) (letters : List (List Bool)) → IsWordOver just_x (word truth letters) → HasItsValue (word truth letters)
      unfolding leaf_of ones_from
      value_of truth [] over = (sign.Outside, refl, outside (word truth []) (λ one. omega (arith, one)))
      value_of truth ([] ∷ letters) over = absurd (let short = over.letters.0 in omega (arith, short))
      value_of truth ((a ∷ b ∷ more) ∷ letters) over = absurd (let long = over.letters.0 in omega (arith, long))
      value_of truth ((true ∷ []) ∷ letters) over =
          value_at_zero (word truth ((true ∷ []) ∷ letters)) over (ones_from 1 letters) refl (after_found 2 1 letters next_zero over.letters.1)
      value_of truth ((false ∷ []) ∷ letters) over =
          value_later (word truth ((false ∷ []) ∷ letters)) over (ones_from 1 letters) refl (first_one 1 letters over.letters.1) (after_none 1 letters over.letters.1)

      full : IsFullContent [] mode just_x f content
      full = record {
        covers = covers;
        canonical = canonical;
        same_mode = refl;
        same_variables = refl;
        values = λ w over. value_of w.truth w.letters over;
      }

-- x = 0, which is No where x has another position
pub full_zero : (mode : Mode) → IsFullContent [] mode just_x is_zero (zero_content mode sign.No)
unfolding state_by
full_zero mode = full mode sign.No refl refl is_zero (λ w listed. listed) (λ w encoded. encoded) (λ w encoded. encoded)

-- restrict(x = 0), which is Undefined there
pub full_restricted_zero : (mode : Mode) → IsFullContent [] mode just_x (restrict is_zero) (zero_content mode sign.Undefined)
unfolding state_by
full_restricted_zero mode =
    full mode sign.Undefined refl refl (restrict is_zero) (λ w listed. listed) (λ w encoded. encoded) (λ w encoded. (encoded.0, encoded.1, encoded.2, (encoded.3, λ never. never)))
