-- Pairs of parts are labels.
use Rattle.std.proofs.Common.{◌≡◌, ℕ, suc, ◌+◌, ◌*◌, ◌<◌, ◌≤◌, ⊎_elim, Bool, List, [], ◌∷◌, length, slice_get, Option, Some, None, refl, sym, ap, subst, ◌∙◌, arith}
use Rattle.std.proofs.Math.Nat.{mul-le-mul_right}
use Rattle.std.proofs.lemmas.Bool.{cases_lt}
use Rattle.ms_arena.specs.declared.node.Ref.{Ref}
use Rattle.ms_arena.specs.Bits.{below_from}
use Rattle.ms_arena.specs.Diagram.{Bits, leaf_of}
use Rattle.ms_arena.proofs.ReachLemmas.{leaf_of-tested}
use Rattle.ms_build_parts.specs.Labels.{IsLabelledBelow, IsOrigin, behind, behind_state}
use Rattle.ms_build_parts.specs.inner.Matched.{number_of_part}
use Rattle.ms_build_parts.proofs.Labels.{below_bound, closed_contents, root_of}
use Rattle.ms_build_parts.proofs.Matching.{left_named, number_below, one_part}
use Rattle.ms_build_parts.proofs.ProductParts.{products_need_few_labels}
use Rattle.ms_dfa_explore.specs.Explored.{Origin}
use Rattle.ms_logic_measures.specs.FullContent.{part_count}
use Rattle.ms_logic_starts.specs.AtLeast.{IsLabelling}
use Rattle.ms_logic_starts.specs.FirstBits.{BitsLeave}
use Rattle.ms_logic_starts.proofs.AtLeastLemmas.{at_most_labels}
use Rattle.ms_logic_starts.proofs.FirstBitsLemmas.{first_bits_leave}
use Rattle.ms_logic_words.specs.Content.{Content, NamesPart, StateOf, letter_bits, next_from, next_state, state_after, truth_bits}
use Rattle.ms_logic_words.specs.declared.sign.Sign.{Sign}
use Rattle.ms_wider_parts.specs.Fixed.{Follower, IsFixedBy, led_to}
use Rattle.ms_wider_parts.specs.Laws.{FixedProductsNeedFewParts, PairsOfPartsAreLabels}

-- pairs below a and b are numbers below a · b, and no two are one number
pair_below : (a b left right : ℕ) → left < a → right < b → left * b + right < a * b
pair_below a b left right less_left less_right =
    let rows : suc left * b ≤ a * b = mul-le-mul_right b less_left in
    let row : suc left * b ≡ left * b + b = grind arith in
    omega (arith, rows, row, less_right)

not_less : (b left right left' right' : ℕ) → right < b → left * b + right ≡ left' * b + right' → left' ≤ left
not_less b left right left' right' below same = ⊎_elim
    (λ less. let row = pair_below left' b left right less below in absurd (omega (arith, row, same)))
    (λ over. over)
    (cases_lt left left')

one_pair : (b left right left' right' : ℕ) → right < b → right' < b → left * b + right ≡ left' * b + right' → (left ≡ left') × (right ≡ right')
one_pair b left right left' right' below below' same =
    let some = not_less b left right left' right' below same in
    let more = not_less b left' right' left right below' (sym same) in
    let equal : left ≡ left' = omega (arith, some, more) in
    (equal, let rows : left * b ≡ left' * b = rw equal refl in omega (arith, rows, same))

-- the part that first bits leave of the reference of an origin
module _ (wide other : Content Sign) (follower : Follower wide other) where
  pub record IsLeftPart (origin : Origin) (is : IsOrigin wide origin) (var : ℕ) (first : Bits) : Type 0 where
    pub part : Ref
    pub named : NamesPart other part
    pub leads : (bits : Bits) → led_to wide other follower origin is (below_from var first bits) ≡ leaf_of other.nodes part (follower.read bits)

  pub left_part : (origin : Origin) (is : IsOrigin wide origin) (var : ℕ) (first : Bits) → IsLeftPart origin is var first
  left_part origin is var first =
      let root = follower.root origin is in
      let level = follower.keeps var in
      let low = follower.read first in
      let left : (reference : Ref) × BitsLeave other.nodes root level.0 low reference = first_bits_leave other.nodes follower.ordered root level.0 low (follower.valid origin is) in
      record {
        part = left.0;
        named = left_named other root level.0 low left.0 (follower.states origin is) left.1;
        leads = λ bits.
            leaf_of-tested other.nodes follower.ordered root (follower.read (below_from var first bits)) (below_from level.0 low (follower.read bits)) (follower.valid origin is)
            (λ place tested. level.1 first bits place (follower.tests origin is place tested))
            ∙ left.1.function (follower.read bits);
      }

  -- from one part the same bits lead to one state
  pub same_led : (one another : Origin) (is_one : IsOrigin wide one) (is_other : IsOrigin wide another) (var var' : ℕ) (first first' : Bits)
      → number_of_part other (left_part one is_one var first).part ≡ number_of_part other (left_part another is_other var' first').part
      → (bits : Bits) → led_to wide other follower one is_one (below_from var first bits) ≡ led_to wide other follower another is_other (below_from var' first' bits)
  same_led one another is_one is_other var var' first first' same bits =
      let here = left_part one is_one var first in
      let there = left_part another is_other var' first' in
      here.leads bits
      ∙ ap (λ (part : Ref). leaf_of other.nodes part (follower.read bits)) (one_part other here.part there.part here.named there.named same)
      ∙ sym (there.leads bits)

module _ (wide left right : Content Sign) (is : IsFixedBy wide left right) where
  abbrev a : ℕ
  a = part_count left

  abbrev b : ℕ
  b = part_count right

  -- each state is behind some origin
  abbrev IsBehindSome : ℕ → Type 0
  IsBehindSome p = (origin : Origin) × (within : IsOrigin wide origin) × (bits : Bits) × (behind wide origin bits ≡ p)

  behind_found : (found : Option (StateOf Sign)) (letter : List Bool) → behind_state wide found (letter_bits wide.variables letter) ≡ next_from wide found letter
  behind_found None letter = refl
  behind_found (Some state) letter = refl

  behind_within : (p : ℕ) → IsBehindSome p → p < length wide.states
  behind_within p some =
      let root = root_of wide is.closed some.0 some.1 in
      subst (λ n. n < length wide.states) (sym (root.leads some.2) ∙ some.3) (root.followed.states some.2)

  behind_after : (letters : List (List Bool)) (p : ℕ) → IsBehindSome p → IsBehindSome (state_after wide p letters)
  behind_after [] p some = some
  behind_after (letter ∷ letters) p some =
      behind_after letters (next_state wide p letter) (Some p, behind_within p some, letter_bits wide.variables letter, behind_found (slice_get wide.states p) letter)

  behind_some : (p : ℕ) → p < length wide.states → IsBehindSome p
  behind_some p within =
      let word = is.reached p within in
      subst IsBehindSome word.2 (behind_after word.0.letters (behind wide None (truth_bits wide.variables word.0.truth)) (None, tt, truth_bits wide.variables word.0.truth, refl))

  -- a state has the pair of states as its label to which bits lead that lead to it
  pub record HasPair (p u v : ℕ) : Type 0 where
    pub origin : Origin
    pub within : IsOrigin wide origin
    pub bits : Bits
    pub behind_is : behind wide origin bits ≡ p
    pub left_is : led_to wide left is.first origin within bits ≡ u
    pub right_is : led_to wide right is.second origin within bits ≡ v

  state_pairs : IsLabelling (λ (p q : ℕ). p ≡ q) (λ p. p < length wide.states) HasPair a b
  state_pairs = record {
    labelled = λ p within.
        let some = behind_some p within in
        let u : led_to wide left is.first some.0 some.1 some.2 < length left.states = is.first.states some.0 some.1 (is.first.read some.2) in
        let v : led_to wide right is.second some.0 some.1 some.2 < length right.states = is.second.states some.0 some.1 (is.second.read some.2) in (
          led_to wide left is.first some.0 some.1 some.2,
          led_to wide right is.second some.0 some.1 some.2,
          omega (arith, u),
          omega (arith, v),
          record { origin = some.0; within = some.1; bits = some.2; behind_is = some.3; left_is = refl; right_is = refl },
        );
    alike = λ p q is_p is_q u v one other.
        sym one.behind_is
        ∙ is.fixed one.origin other.origin one.within other.within one.bits other.bits (one.left_is ∙ sym other.left_is) (one.right_is ∙ sym other.right_is)
        ∙ other.behind_is;
  }

  abbrev first_number : (origin : Origin) → IsOrigin wide origin → ℕ → Bits → ℕ
  first_number origin within var first = number_of_part left (left_part wide left is.first origin within var first).part

  abbrev second_number : (origin : Origin) → IsOrigin wide origin → ℕ → Bits → ℕ
  second_number origin within var first = number_of_part right (left_part wide right is.second origin within var first).part

  first_less : (origin : Origin) (within : IsOrigin wide origin) (var : ℕ) (first : Bits) → first_number origin within var first < a
  first_less origin within var first = let part = left_part wide left is.first origin within var first in number_below left part.part part.named

  second_less : (origin : Origin) (within : IsOrigin wide origin) (var : ℕ) (first : Bits) → second_number origin within var first < b
  second_less origin within var first = let part = left_part wide right is.second origin within var first in number_below right part.part part.named

  pub labels : IsLabelledBelow wide (a * b)
  labels = record {
    ordered = is.ordered;
    closed = is.closed;
    label = λ origin within var first. first_number origin within var first * b + second_number origin within var first;
    below = λ origin within var first.
        pair_below a b (first_number origin within var first) (second_number origin within var first) (first_less origin within var first) (second_less origin within var first);
    alike = λ one other is_one is_other var var' first first' same bits.
        let pair = one_pair b (first_number one is_one var first) (second_number one is_one var first) (first_number other is_other var' first') (second_number other is_other var' first')
        (second_less one is_one var first) (second_less other is_other var' first') same in
        is.fixed one other is_one is_other (below_from var first bits) (below_from var' first' bits)
        (same_led wide left is.first one other is_one is_other var var' first first' pair.0 bits)
        (same_led wide right is.second one other is_one is_other var var' first first' pair.1 bits);
    states = at_most_labels (λ (p q : ℕ). p ≡ q) (λ p. p < length wide.states) HasPair a b (length wide.states) state_pairs (below_bound (length wide.states));
  }

pub pairs_are_labels : PairsOfPartsAreLabels
pairs_are_labels wide left right is = labels wide left right is

pub products_need_few : FixedProductsNeedFewParts
products_need_few op operands left right rising is ordered closed count least =
    products_need_few_labels op operands (part_count left * part_count right) (part_count operands.right) rising (labels operands.left left right is) (closed_contents operands.right ordered closed) count least
