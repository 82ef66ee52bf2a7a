-- The states of an automaton of fewest states correspond to those of a canonical content that says the same.
use Rattle.std.proofs.Common.{◌≡◌, ℕ, zero, suc, ◌<◌, Bool, false, List, [], ◌∷◌, ◌++◌, length, map, slice_get, Option, Some, None, refl, sym, ap, subst, ◌∙◌, arith}
use Rattle.std.specs.Option.{option_map}
use Rattle.std.proofs.lemmas.List.{length-map}
use Rattle.ms_list.specs.declared.word.Word.{Word}
use Rattle.ms_arena.specs.declared.node.Ref.{Ref}
use Rattle.ms_arena.specs.declared.node.Ref.TheVariants.{Leaf, Inner}
use Rattle.ms_arena.specs.Bits.{below_from}
use Rattle.ms_arena.specs.Diagram.{Bits, leaf_of}
use Rattle.ms_arena.proofs.Lists.{slice_get-held}
use Rattle.ms_arena.proofs.Paths.{leaf_of-leaf}
use Rattle.ms_dfa.proofs.OrdersLemmas.{over-same}
use Rattle.ms_logic.specs.Assignment.{Variable}
use Rattle.ms_logic.specs.declared.mode.Order.{Order}
use Rattle.ms_logic_words.specs.Content.{Content, IsClosed, IsFollowed, IsWordOver, LeadsToStates, NamesPart, StateOf, bits_at, count_of, first_state, is_in_letters, is_truth_value, last_state, next_from, next_state, padded, sign_at, state_after}
use Rattle.ms_logic_words.specs.declared.sign.Sign.{Sign}
use Rattle.ms_logic_measures.specs.FullContent.{part_count}
use Rattle.ms_logic_starts.specs.FirstBits.{BitsLeave}
use Rattle.ms_logic_starts.specs.inner.Ranks.{bits_before}
use Rattle.ms_logic_starts.proofs.FirstBitsLemmas.{first_bits_leave}
use Rattle.ms_logic_starts.proofs.LeftLemmas.{leaf_of_all}
use Rattle.ms_logic_starts.proofs.RankLemmas.{length-bits_before, rank_of_all}
use Rattle.ms_minim_canonical.proofs.ContentLemmas.{IsClosed-content}
use Rattle.ms_minim.proofs.LettersLemmas.{AreLetters-append, state_after-append}
use Rattle.ms_product.proofs.WidenedLemmas.{followed}
use Rattle.ms_build_parts.specs.Laws.{IsMeasuredBy}
use Rattle.ms_build_parts.specs.SaySame.{AreComparable}
use Rattle.ms_build_parts.specs.inner.Matched.{IsMatch, IsMatchedBy, LeadToMatches, number_of_part}

-- what is a word over one list is one over the other
pub over_same : (one other : List Variable) (word : Word) → map (λ v. v.order) other ≡ map (λ v. v.order) one → IsWordOver one word → IsWordOver other word
over_same one other word same over = over-same one other (sym same) word over

same_bits : (has_bit : Order → Bool) (level : ℕ) (one other : List Variable) (bits : Bits) → map (λ v. v.order) other ≡ map (λ v. v.order) one → bits_before has_bit level other bits ≡ bits_before has_bit level one bits
same_bits has_bit zero one other bits same = refl
same_bits has_bit (suc level) [] [] bits same = refl
same_bits has_bit (suc level) [] (w ∷ ws) bits same = cc
same_bits has_bit (suc level) (v ∷ vs) [] bits same = cc
same_bits has_bit (suc level) (v ∷ vs) (w ∷ ws) bits same =
    let first : w.order ≡ v.order = cc in
    let more : map (λ u. u.order) ws ≡ map (λ u. u.order) vs = cc in
    rw (first, same_bits has_bit level vs ws (λ other. bits (suc other)) more) refl

-- a number of a part is below the number of parts
pub number_below : (content : Content Sign) (part : Ref) → NamesPart content part → number_of_part content part < part_count content
number_below content (Inner place) named = omega (arith, named)
number_below content (Leaf state) named = omega (arith, named)

-- and one number is that of one part
pub one_part : (content : Content Sign) (part other : Ref) → NamesPart content part → NamesPart content other → number_of_part content part ≡ number_of_part content other → part ≡ other
one_part content (Inner place) (Inner another) named also same = ap Inner same
one_part content (Inner place) (Leaf state) named also same = absurd (omega (arith, named, same))
one_part content (Leaf state) (Inner place) named also same = absurd (omega (arith, also, same))
one_part content (Leaf state) (Leaf another) named also same = ap Leaf (omega (arith, same))

-- what first bits leave of a reference that leads to states is a part
pub left_named : (content : Content Sign) (root : Ref) (level : ℕ) (first : Bits) (reference : Ref) → LeadsToStates content root → BitsLeave content.nodes root level first reference → NamesPart content reference
left_named content root level first (Inner place) states leave = leave.valid
left_named content root level first (Leaf state) states leave =
    let none : Bits = λ place. false in
    subst (λ n. n < length content.states) (leave.function none ∙ leaf_of-leaf content.nodes none state) (states (below_from level first none))

-- an automaton of fewest states and the canonical content that says the same are comparable
pub comparable : (one canonical : Content Sign) → IsMeasuredBy one canonical → AreComparable one canonical
comparable one canonical is = record {
  ordered = is.ordered;
  closed = is.closed;
  own = is.own;
  reached = is.reached;
  differ = is.differ;
  other_ordered = is.is_canonical.rules.ordered;
  other_closed = IsClosed-content canonical is.is_canonical.rules;
  distinct = is.distinct;
  same = is.same;
}

module _ (one other : Content Sign) (is : AreComparable one other) where
  abbrev vs : List Variable
  vs = one.variables

  long : length other.variables ≡ length vs
  long =
      let mine = length-map vs (λ (v : Variable). v.order) in
      let its = length-map other.variables (λ (v : Variable). v.order) in
      let equal = ap length is.same.orders in
      omega (arith, mine, its, equal)

  -- the bits of all variables, one after the other
  abbrev bits_of : (Order → Bool) → Bits → List Bool
  bits_of has_bit bits = bits_before has_bit (length vs) vs bits

  as_many : (has_bit : Order → Bool) (bits : Bits) → length (bits_of has_bit bits) ≡ count_of has_bit vs
  as_many has_bit bits = length-bits_before has_bit (length vs) vs bits ∙ rank_of_all has_bit vs

  other_bits : (has_bit : Order → Bool) (bits : Bits) → bits_before has_bit (length other.variables) other.variables bits ≡ bits_of has_bit bits
  other_bits has_bit bits = ap (λ n. bits_before has_bit n other.variables bits) long ∙ same_bits has_bit (length vs) vs other.variables bits is.same.orders

  -- followed references lead by bits where they lead by the values that the bits give
  leads_one : (has_bit : Order → Bool) (root : Ref) → IsFollowed one has_bit root → (bits : Bits) → leaf_of one.nodes root (bits_at (padded has_bit vs (bits_of has_bit bits))) ≡ leaf_of one.nodes root bits
  leads_one has_bit root followed bits = leaf_of_all has_bit vs is.own one.nodes is.ordered root followed.valid followed.tests bits

  leads_other : (has_bit : Order → Bool) (root : Ref) → IsFollowed other has_bit root → (bits : Bits)
      → leaf_of other.nodes root (bits_at (padded has_bit other.variables (bits_of has_bit bits))) ≡ leaf_of other.nodes root bits
  leads_other has_bit root followed bits =
      ap (λ values. leaf_of other.nodes root (bits_at (padded has_bit other.variables values))) (sym (other_bits has_bit bits))
      ∙ leaf_of_all has_bit other.variables is.distinct other.nodes is.other_ordered root followed.valid followed.tests bits

  -- two references that are followed, from which all bits lead to states that match
  pub record AreRoots (has_bit : Order → Bool) (root canonical : Ref) : Type 0 where
    pub followed : IsFollowed one has_bit root
    pub also : IsFollowed other has_bit canonical
    pub matched : LeadToMatches one other root canonical

  pub starts : AreRoots is_truth_value one.start other.start
  starts = record {
    followed = is.closed.start;
    also = is.other_closed.start;
    matched = λ bits.
        let truth = bits_of is_truth_value bits in
        let first : first_state one truth ≡ leaf_of one.nodes one.start bits = leads_one is_truth_value one.start is.closed.start bits in
        let second : first_state other truth ≡ leaf_of other.nodes other.start bits = leads_other is_truth_value other.start is.other_closed.start bits in
        record {
          within = is.closed.start.states bits;
          signs = λ letters are.
              ap (λ state. sign_at one (state_after one state letters)) (sym first)
              ∙ sym (is.same.signs (record { truth = truth; letters = letters }) (record { truth = as_many is_truth_value bits; letters = are }))
              ∙ ap (λ state. sign_at other (state_after other state letters)) second;
        };
  }

  pub nexts : (p q : ℕ) (found also : StateOf Sign) → IsMatch one other p q → slice_get one.states p ≡ Some found → slice_get other.states q ≡ Some also → AreRoots is_in_letters found.next also.next
  nexts p q found also match held there =
      let first_followed = followed one [] is.closed p found held in
      let second_followed = followed other [] is.other_closed q also there in
      record {
        followed = first_followed;
        also = second_followed;
        matched = λ bits.
            let letter = bits_of is_in_letters bits in
            let first : next_state one p letter ≡ leaf_of one.nodes found.next bits = ap (λ state. next_from one state letter) held ∙ leads_one is_in_letters found.next first_followed bits in
            let second : next_state other q letter ≡ leaf_of other.nodes also.next bits = ap (λ state. next_from other state letter) there ∙ leads_other is_in_letters also.next second_followed bits in
            record {
              within = first_followed.states bits;
              signs = λ letters are.
                  ap (λ state. sign_at one (state_after one state letters)) (sym first)
                  ∙ match.signs (letter ∷ letters) (as_many is_in_letters bits, are)
                  ∙ ap (λ state. sign_at other (state_after other state letters)) second;
            };
      }

  -- each state matches one
  pub state_match : (p : ℕ) → p < length one.states → (q : ℕ) × IsMatch one other p q
  state_match p within =
      let word = is.reached p within in (
        last_state other word.0,
        record {
          within = within;
          signs = λ letters are.
              let longer : Word = record { truth = word.0.truth; letters = word.0.letters ++ letters } in
              let first : last_state one longer ≡ state_after one p letters = state_after-append one (first_state one word.0.truth) word.0.letters letters ∙ ap (λ state. state_after one state letters) word.2 in
              let second : last_state other longer ≡ state_after other (last_state other word.0) letters = state_after-append other (first_state other word.0.truth) word.0.letters letters in
              ap (sign_at one) (sym first)
              ∙ sym (is.same.signs longer (record { truth = word.1.truth; letters = AreLetters-append vs word.0.letters letters word.1.letters are }))
              ∙ ap (sign_at other) second;
        },
      )

  -- a state that matches is there
  pub match_held : (p q : ℕ) → IsMatch one other p q → (found : StateOf Sign) × (slice_get other.states q ≡ Some found)
  match_held p q match =
      let here = slice_get-held one.states p match.within in
      held_by (slice_get other.states q) refl (sym (match.signs [] tt) ∙ ap (option_map (λ (state : StateOf Sign). state.sign)) here.1)
    where
      held_by : {sign : Sign} (found : Option (StateOf Sign)) → slice_get other.states q ≡ found → option_map (λ (state : StateOf Sign). state.sign) (slice_get other.states q) ≡ Some sign
          → (state : StateOf Sign) × (slice_get other.states q ≡ Some state)
      held_by None none has = let never : ⊥ = cc in absurd never
      held_by (Some state) held has = (state, held)

  -- no two match one
  pub one_match : (p p' q : ℕ) → IsMatch one other p q → IsMatch one other p' q → p ≡ p'
  one_match p p' q first second = is.differ p p' first.within second.within (λ letters are. first.signs letters are ∙ sym (second.signs letters are))

  -- what first bits leave of a reference is matched by what they leave of the other, which is a part
  module _ (has_bit : Order → Bool) (root canonical : Ref) (roots : AreRoots has_bit root canonical) (level : ℕ) (first : Bits) where
    left : (reference : Ref) × BitsLeave other.nodes canonical level first reference
    left = first_bits_leave other.nodes is.other_ordered canonical level first roots.also.valid

    pub matched_part : (number : ℕ) × (number < part_count other) × IsMatchedBy one other (λ bits. leaf_of one.nodes root (below_from level first bits)) number
    matched_part =
        let named = left_named other canonical level first left.0 roots.also.states left.1 in (
          number_of_part other left.0,
          number_below other left.0 named,
          record {
            part = left.0;
            named = named;
            is = refl;
            matches = λ bits. subst (λ q. IsMatch one other (leaf_of one.nodes root (below_from level first bits)) q) (left.1.function bits) (roots.matched (below_from level first bits));
          },
        )

  -- what one part matches is one function
  pub one_function : (leads leads' : Bits → ℕ) (number : ℕ) → IsMatchedBy one other leads number → IsMatchedBy one other leads' number → (bits : Bits) → leads bits ≡ leads' bits
  one_function leads leads' number first second bits =
      let same : first.part ≡ second.part = one_part other first.part second.part first.named second.named (sym first.is ∙ second.is) in
      one_match (leads bits) (leads' bits) (leaf_of other.nodes second.part bits)
      (subst (λ (part : Ref). IsMatch one other (leads bits) (leaf_of other.nodes part bits)) same (first.matches bits)) (second.matches bits)
