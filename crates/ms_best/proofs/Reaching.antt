-- How many letters it takes from a state to a sign.
use Rattle.std.proofs.Common.{◌≡◌, ℕ, zero, suc, ◌+◌, ◌<◌, ◌≤◌, min, ◌==◌, Bool, true, false, if◌then◌else◌, inl, inr, List, [], ◌∷◌, length, map, slice_get, Option, Some, None, refl, sym, ap, subst, ◌∙◌, arith}
use Rattle.std.specs.List.{range_with_len}
use Rattle.std.specs.Option.{option_map}
use Rattle.std.proofs.lemmas.Bool.{cases_eq, cases_lt, eq-eqb}
use Rattle.std.proofs.Math.Bool.{or-true}
use Rattle.std.proofs.lemmas.List.FromFn.{length-map-range_with_len}
use Rattle.std.proofs.lemmas.Option.{none-some, same_Some, slice_get_within, get_or_from_slice_get}
use Rattle.ms_arena.specs.declared.node.Ref.TheVariants.{Leaf}
use Rattle.ms_arena.specs.Diagram.{leaf_of}
use Rattle.ms_arena.proofs.Lists.{slice_get-held}
use Rattle.ms_logic.specs.FiniteSet.{is_member}
use Rattle.ms_logic_words.specs.Content.{StateOf, Content, IsFollowed, is_in_letters, letter_bits, next_from, next_state, state_after, sign_at}
use Rattle.ms_logic_words.specs.declared.sign.Sign.{Sign}
use Rattle.ms_logic_words.specs.declared.sign.Sign.TheVariants.{Yes, No, Undefined, Outside}
use Rattle.ms_dfa.specs.Automaton.{IsAutomaton}
use Rattle.ms_best.specs.inner.Automaton.{is_sign, distance_of, AreDistancesFrom}
use Rattle.ms_best.proofs.Cover.{covered}
use Rattle.ms_best.proofs.Nearness.{distance_of-state, no_nearer}

pub is_sign-same : (sign : Sign) → is_sign sign sign ≡ true
is_sign-same Yes = refl
is_sign-same No = refl
is_sign-same Undefined = refl
is_sign-same Outside = refl

pub same_sign : (one other : Sign) → is_sign one other ≡ true → one ≡ other
same_sign Yes Yes same = refl
same_sign No No same = refl
same_sign Undefined Undefined same = refl
same_sign Outside Outside same = refl
same_sign one other same = let never : ⊥ = cc in absurd never

-- the state that has a sign
state_with : (found : Option (StateOf Sign)) (sign : Sign) → option_map (λ (state : StateOf Sign). state.sign) found ≡ Some sign
    → (state : StateOf Sign) × (found ≡ Some state) × (state.sign ≡ sign)
state_with None sign same = absurd (none-some sign same)
state_with (Some state) sign same = (state, refl, same_Some state.sign sign same)

-- a value of a function over a range is a member of its values
member_of : (f : ℕ → ℕ) (start count n value : ℕ) → start ≤ n → n < start + count → f n ≡ value → is_member value (map f (range_with_len start count)) ≡ true
member_of f start zero n value from to same = absurd (omega arith)
member_of f start (suc count) n value from to same =
    elim (cases_eq n start) [
      | inl first ↦ (let here : f start ≡ value = ap f (sym first) ∙ same in rw (eq-eqb (f start) value here) refl)
      | inr later ↦ rw (member_of f (start + 1) count n value (omega (arith, from, later)) (omega arith) same) (or-true (f start == value))
    ]

module _ (content : Content Sign) (sign : Sign) (distances : List ℕ) (right : AreDistancesFrom content sign distances) (automaton : IsAutomaton content) where
  pub followed : (state : ℕ) (found : StateOf Sign) → slice_get content.states state ≡ Some found → IsFollowed content is_in_letters found.next
  followed state found held =
      let P : StateOf Sign → Type 0 = λ s. IsFollowed content is_in_letters s.next in
      subst P (get_or_from_slice_get content.states state found found held) (automaton.closed.next state found (slice_get_within content.states state found held))

  pub next_is : (state : ℕ) (found : StateOf Sign) (letter : List Bool) → slice_get content.states state ≡ Some found
      → next_state content state letter ≡ leaf_of content.nodes found.next (letter_bits content.variables letter)
  next_is state found letter held = ap (λ s. next_from content s letter) held

  pub next_within : (state : ℕ) (letter : List Bool) → state < length content.states → next_state content state letter < length content.states
  next_within state letter within =
      let held = slice_get-held content.states state within in
      rw (next_is state held.0 letter held.1) ((followed state held.0 held.1).states (letter_bits content.variables letter))

  -- a state is one letter further than the next one at most
  pub one_letter : (state : ℕ) (letter : List Bool) → state < length content.states
      → distance_of content distances (Leaf state) ≤ distance_of content distances (Leaf (next_state content state letter)) + 1
  one_letter state letter within =
      let held = slice_get-held content.states state within in
      let lower = no_nearer content sign distances right automaton.ordered (letter_bits content.variables letter) (length content.nodes) held.0.next (omega arith) (followed state held.0 held.1).valid in
      rw (distance_of-state content sign distances right state held.0 held.1, next_is state held.0 letter held.1)
      (by_test (is_sign held.0.sign sign) (distance_of content distances held.0.next) (distance_of content distances (Leaf (leaf_of content.nodes held.0.next (letter_bits content.variables letter)))) lower)
    where
      by_test : (test : Bool) (near far : ℕ) → near ≤ far → (if test then 0 else min (length content.states) (near + 1)) ≤ far + 1
      by_test true near far lower = omega arith
      by_test false near far lower = omega (arith, lower)

  -- a state of the sign is at 0
  pub at_sign : (state : ℕ) → sign_at content state ≡ Some sign → distance_of content distances (Leaf state) ≡ 0
  at_sign state signed =
      let found = state_with (slice_get content.states state) sign signed in
      distance_of-state content sign distances right state found.0 found.1
      ∙ ap (λ test. if test then 0 else min (length content.states) (distance_of content distances found.0.next + 1)) (ap (λ s. is_sign s sign) found.2 ∙ is_sign-same sign)

  -- letters that lead to the sign are at least as many as the distance
  pub no_fewer : (letters : List (List Bool)) (state : ℕ) → state < length content.states → sign_at content (state_after content state letters) ≡ Some sign
      → distance_of content distances (Leaf state) ≤ length letters
  no_fewer [] state within signed = omega (arith, at_sign state signed)
  no_fewer (letter ∷ letters) state within signed =
      let rest = no_fewer letters (next_state content state letter) (next_within state letter within) signed in
      omega (arith, rest, one_letter state letter within)

  -- on the way each smaller distance occurs
  passed : (letters : List (List Bool)) (state : ℕ) → state < length content.states → sign_at content (state_after content state letters) ≡ Some sign
      → (j : ℕ) → j ≤ distance_of content distances (Leaf state) → (other : ℕ) × (other < length content.states) × (distance_of content distances (Leaf other) ≡ j)
  passed [] state within signed j below = (state, within, omega (arith, at_sign state signed, below))
  passed (letter ∷ letters) state within signed j below =
      elim (cases_eq j (distance_of content distances (Leaf state))) [
        | inl here ↦ (state, within, sym here)
        | inr smaller ↦ passed letters (next_state content state letter) (next_within state letter within) signed j (omega (arith, below, smaller, one_letter state letter within))
      ]

  -- the distances of the states
  abbrev pub state_distances : List ℕ
  state_distances = map (λ state. distance_of content distances (Leaf state)) (range_with_len 0 (length content.states))

  -- so a state from which letters lead to the sign is not as far as there are states
  pub not_far : (letters : List (List Bool)) (state : ℕ) → state < length content.states → sign_at content (state_after content state letters) ≡ Some sign
      → distance_of content distances (Leaf state) < length content.states
  not_far letters state within signed =
      elim (cases_lt (distance_of content distances (Leaf state)) (length content.states)) [
        | inl below ↦ below
        | inr far ↦
            (let all = covered (length content.states + 1) state_distances (λ j below.
            let found = passed letters state within signed j (omega (arith, below, far)) in
            member_of (λ s. distance_of content distances (Leaf s)) 0 (length content.states) found.0 j (omega arith) (omega (arith, found.1)) found.2) in
            absurd (omega (arith, all, length-map-range_with_len (λ s. distance_of content distances (Leaf s)) 0 (length content.states))))
      ]
