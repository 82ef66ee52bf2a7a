-- A fooling set: words, each cut in two, on which, but for the last, a relation holds, while it fails where the second part of an earlier one stands
-- behind the first part of a later one. By Myhill and Nerode the first parts lead to different states.
use Rattle.std.proofs.Common.{◌≡◌, ℕ, suc, ◌+◌, ◌<◌, ◌≤◌, ⊎_elim, Bool, false, List, [], ◌++◌, length, map, slice_get, Option, Some, None, refl, sym, ap, ap₂, subst, ◌∙◌, arith}
use Rattle.std.specs.List.{range_with_len}
use Rattle.std.specs.Option.{option_map}
use Rattle.std.proofs.lemmas.Bool.{cases_order}
use Rattle.std.proofs.lemmas.Option.{same_Some, slice_get_within}
use Rattle.ms_list.specs.declared.word.Word.{Word}
use Rattle.ms_logic.specs.Assignment.{Env, IsAssignment, IsUniverseOf, IsWithin, Universe, Variable}
use Rattle.ms_logic.specs.Letters.{letter_at, letters_below, truth_values_of}
use Rattle.ms_logic.specs.OrderLaws.{GiveSameValues}
use Rattle.ms_logic.specs.declared.mode.Mode.{Mode}
use Rattle.ms_logic.specs.declared.mode.Mode.TheVariants.{Ws1s, M2lStr}
use Rattle.ms_logic_core.specs.CoreForm.{Holds, basic}
use Rattle.ms_logic_core.specs.declared.core_formula.Basic.{Basic}
use Rattle.ms_logic_measures.specs.FullContent.{HasValueOn, IsFullContent}
use Rattle.std_collections.proofs.IndexTableLemmas.Probe.{pigeonhole}
use Rattle.ms_logic_measures.proofs.Runs.{state_after-append}
use Rattle.ms_logic_words.specs.Content.{Content, StateOf, first_state, sign_at, sign_of, state_after}
use Rattle.ms_logic_words.specs.Word.{Encodes, HasLength}
use Rattle.ms_logic_words.specs.WordSign.{word_of}
use Rattle.ms_logic_words.specs.declared.sign.Sign.{Sign}
use Rattle.ms_logic_words.specs.declared.sign.Sign.TheVariants as sign
use Rattle.ms_logic_words.proofs.WordLaws.{encoding_exists, encoding_is_over, encoding_is_unique, length-truth_values}
use Rattle.ms_basic_parts.proofs.LetterLemmas.{AreBelow, HaveSameBits, bound_below, gives_each, letters_in_range, map-range-append, map-range-same, same_letter, same_truth_values}

-- the universe of a word of n letters
abbrev pub universe_for : Mode → ℕ → Universe
universe_for Ws1s n = None
universe_for M2lStr n = Some n

is_universe : (mode : Mode) (n : ℕ) → IsUniverseOf mode (universe_for mode n)
is_universe Ws1s n = refl
is_universe M2lStr n = refl

has_length : (mode : Mode) (n : ℕ) → HasLength (universe_for mode n) n
has_length Ws1s n = tt
has_length M2lStr n = refl

within_universe : (mode : Mode) (n k : ℕ) → k < n → IsWithin (universe_for mode n) k
within_universe Ws1s n k less = tt
within_universe M2lStr n k less = less

-- first parts and second parts by their numbers of letters, and the values of each first part with each second part
pub record Parts : Type 0 where
  pub before : ℕ → ℕ
  pub behind : ℕ → ℕ
  pub number : ℕ → ℕ → ℕ → ℕ
  pub set : ℕ → ℕ → ℕ → List ℕ

abbrev pub count_at : Parts → ℕ → ℕ → ℕ
count_at parts i j = parts.before i + parts.behind j

-- the values of the word of first part i and second part j
abbrev pub values_at : Mode → Parts → ℕ → ℕ → Env
values_at mode parts i j =
    record { universe = universe_for mode (count_at parts i j); truth = λ x. false; number = parts.number i j; set = parts.set i j }

pub record IsFoolingSet (mode : Mode) (variables : List Variable) (b : Basic) (parts : Parts) (count : ℕ) : Type 0 where
  pub below : (i j : ℕ) → i < count → j < count → AreBelow (values_at mode parts i j) (count_at parts i j)
  pub first_part :
      (i j p : ℕ) → i < count → j < count → p < parts.before i → HaveSameBits (values_at mode parts i j) (values_at mode parts i i) p p
  pub second_part :
      (i j q : ℕ) → i < count → j < count → q < parts.behind j
      → HaveSameBits (values_at mode parts i j) (values_at mode parts j j) (parts.before i + q) (parts.before j + q)
  pub holds : (i : ℕ) → suc i < count → Holds b (values_at mode parts i i)
  pub fails : (i j : ℕ) → i < j → j < count → Holds b (values_at mode parts j i) → ⊥
  -- the relation is one between the variables
  pub between : (e c : Env) → e.universe ≡ c.universe → GiveSameValues variables e c → Holds b e → Holds b c

-- no word has two values of a relation
one_value : (mode : Mode) (vs : List Variable) (b : Basic) (one other : Word) (e f : Env)
    → ((e c : Env) → e.universe ≡ c.universe → GiveSameValues vs e c → Holds b e → Holds b c)
    → IsAssignment mode vs e → Encodes vs one e → Holds b e → IsAssignment mode vs f → Encodes vs other f → (Holds b f → ⊥)
    → (value : Sign) → HasValueOn [] mode vs (basic b) one value → HasValueOn [] mode vs (basic b) other value → ⊥
one_value mode vs b one other e f between is_e encodes_e holds is_f encodes_f fails sign.Yes has has_other =
    let same = encoding_is_unique mode vs other has_other.0 f has_other.1 is_f has_other.2 encodes_f in
    fails (between has_other.0 f same.0 same.1 has_other.3)
one_value mode vs b one other e f between is_e encodes_e holds is_f encodes_f fails sign.No has has_other =
    let same = encoding_is_unique mode vs one e has.0 is_e has.1 encodes_e has.2 in has.3 (between e has.0 same.0 same.1 holds)
one_value mode vs b one other e f between is_e encodes_e holds is_f encodes_f fails sign.Undefined has has_other = has.3.1 has.3.0
one_value mode vs b one other e f between is_e encodes_e holds is_f encodes_f fails sign.Outside has has_other = has (e, is_e, encodes_e)

-- what has a sign is a state
state_by_sign : (content : Content Sign) (state : ℕ) (value : Sign) → sign_at content state ≡ Some value → state < length content.states
state_by_sign content state value is = by_state (slice_get content.states state) refl is
  where
    by_state : (found : Option (StateOf Sign)) → slice_get content.states state ≡ found → option_map (λ (there : StateOf Sign). there.sign) found ≡ Some value
        → state < length content.states
    by_state None held none = let never : ⊥ = cc in absurd never
    by_state (Some there) held has = slice_get_within content.states state there held

module _ (mode : Mode) (vs : List Variable) (b : Basic) (parts : Parts) (count : ℕ) (fooling : IsFoolingSet mode vs b parts count) (content : Content Sign)
    (full : IsFullContent [] mode vs (basic b) content) where
  abbrev first_letters : ℕ → List (List Bool)
  first_letters i = map (letter_at vs (values_at mode parts i i)) (range_with_len 0 (parts.before i))

  abbrev second_letters : ℕ → List (List Bool)
  second_letters j = map (letter_at vs (values_at mode parts j j)) (range_with_len (parts.before j) (parts.behind j))

  abbrev truth : List Bool
  truth = truth_values_of vs (values_at mode parts 0 0)

  abbrev word : ℕ → ℕ → Word
  word i j = word_of (count_at parts i j) vs (values_at mode parts i j)

  -- where a first part leads
  abbrev state_behind : ℕ → ℕ
  state_behind i = state_after content (first_state content truth) (first_letters i)

  letters_are : (i j : ℕ) → i < count → j < count → letters_below (count_at parts i j) vs (values_at mode parts i j) ≡ first_letters i ++ second_letters j
  letters_are i j less_i less_j =
      let e = values_at mode parts i j in
      let start : 0 + parts.before i ≡ parts.before i = omega arith in
      map-range-append (letter_at vs e) 0 (parts.before i) (parts.behind j)
      ∙ ap₂ (λ (one : List (List Bool)) two. one ++ two)
      (map-range-same (letter_at vs e) (letter_at vs (values_at mode parts i i)) 0 0 (parts.before i) (λ p less.
      let here : 0 + p ≡ p = omega arith in
      ap (letter_at vs e) here
      ∙ (same_letter vs e (values_at mode parts i i) p p (fooling.first_part i j p less_i less_j less)
      ∙ ap (letter_at vs (values_at mode parts i i)) (sym here))))
      (ap (λ s. map (letter_at vs e) (range_with_len s (parts.behind j))) start
      ∙ map-range-same (letter_at vs e) (letter_at vs (values_at mode parts j j)) (parts.before i) (parts.before j) (parts.behind j) (λ q less.
      same_letter vs e (values_at mode parts j j) (parts.before i + q) (parts.before j + q) (fooling.second_part i j q less_i less_j less)))

  sign_is : (i j : ℕ) → i < count → j < count → sign_of content (word i j) ≡ sign_at content (state_after content (state_behind i) (second_letters j))
  sign_is i j less_i less_j =
      ap₂ (λ bits letters. sign_at content (state_after content (first_state content bits) letters))
      (same_truth_values vs (values_at mode parts i j) (values_at mode parts 0 0) (λ x. refl)) (letters_are i j less_i less_j)
      ∙ ap (sign_at content) (state_after-append content (first_state content truth) (first_letters i) (second_letters j))

  assigned : (i j : ℕ) → i < count → j < count → IsAssignment mode vs (values_at mode parts i j)
  assigned i j less_i less_j = record {
    universe = is_universe mode (count_at parts i j);
    values =
        gives_each vs (values_at mode parts i j) (count_at parts i j) (λ n less. within_universe mode (count_at parts i j) n less) (fooling.below i j less_i less_j);
  }

  encodes : (i j : ℕ) → i < count → j < count → Encodes vs (word i j) (values_at mode parts i j)
  encodes i j less_i less_j =
      encoding_exists vs (values_at mode parts i j) (count_at parts i j) (bound_below vs (values_at mode parts i j) (count_at parts i j) (fooling.below i j less_i less_j))
      (has_length mode (count_at parts i j))

  signs_differ : (i j : ℕ) → i < j → j < count → sign_of content (word i i) ≡ sign_of content (word j i) → ⊥
  signs_differ i j less within same =
      let less_i : i < count = omega (arith, less, within) in
      let one = encodes i i less_i less_i in
      let other = encodes j i within less_i in
      let own = full.values (word i i) (encoding_is_over vs (word i i) (values_at mode parts i i) one) in
      let also = full.values (word j i) (encoding_is_over vs (word j i) (values_at mode parts j i) other) in
      let equal : also.0 ≡ own.0 = same_Some also.0 own.0 (sym also.1 ∙ (sym same ∙ own.1)) in
      one_value mode vs b (word i i) (word j i) (values_at mode parts i i) (values_at mode parts j i) fooling.between (assigned i i less_i less_i) one (fooling.holds i (omega (arith, less, within)))
      (assigned j i within less_i) other (fooling.fails i j less within) own.0 own.2 (subst (HasValueOn [] mode vs (basic b) (word j i)) equal also.2)

  never_same : (i j : ℕ) → i < j → j < count → state_behind i ≡ state_behind j → ⊥
  never_same i j less within same =
      let less_i : i < count = omega (arith, less, within) in
      signs_differ i j less within
      (sign_is i i less_i less_i ∙ (ap (λ s. sign_at content (state_after content s (second_letters i))) same ∙ sym (sign_is j i within less_i)))

  is_state : (i : ℕ) → state_behind i < length content.states
  is_state i =
      let word_before : Word = record { truth = truth; letters = first_letters i } in
      let found = full.values word_before (record {
        truth = length-truth_values vs (values_at mode parts 0 0);
        letters = letters_in_range vs (values_at mode parts i i) 0 (parts.before i);
      }) in
      state_by_sign content (state_behind i) found.0 found.1

  apart : (i j : ℕ) → i < count → j < count → state_behind i ≡ state_behind j → i ≡ j
  apart i j less_i less_j same = ⊎_elim (λ is. is)
      (λ differ. ⊎_elim (λ less. absurd (never_same i j less less_j same)) (λ more. absurd (never_same j i more less_i (sym same))) differ)
      (cases_order i j)

  -- the full content has at least as many states as the fooling set has words
  pub needs_states : count ≤ length content.states
  needs_states = pigeonhole count (length content.states) state_behind (λ i less. is_state i) apart
