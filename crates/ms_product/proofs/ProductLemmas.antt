-- The product leads from pairs to pairs of states, and runs as both automata do side by side.
use Rattle.std.proofs.Common.{◌≡◌, ℕ, ◌<◌, ⊎_elim, Bool, true, false, List, [], ◌∷◌, length, slice_get, slice_index, Some, IfSome, Result, refl, sym, ap, subst, ◌∙◌}
use Rattle.std.specs.Prelude.{map as map_list}
use Rattle.std.proofs.lemmas.Bool.{cases_lt}
use Rattle.std.proofs.lemmas.Option.{slice_get_within, same_Some}
use Rattle.ms_list.specs.declared.fault.StepFault.{StepFault}
use Rattle.ms_list.specs.declared.word.Word.{Word}
use Rattle.ms_arena.specs.declared.node.Ref.{Ref}
use Rattle.ms_arena.specs.Bits.{with_bit}
use Rattle.ms_arena.specs.Diagram.{Bits, leaf_of, IsOrdered}
use Rattle.ms_arena.specs.Target.{Extends}
use Rattle.ms_arena.proofs.Lists.{slice_get-held}
use Rattle.ms_arena.proofs.Appending.{slice_get-extends}
use Rattle.ms_diagram.specs.Across.{AreOn, leaves_across, HasLeavesAcross, NumberAcross, LacksAcross}
use Rattle.ms_diagram.specs.Bring.{read_through}
use Rattle.ms_diagram.specs.Growth.{Builds}
use Rattle.ms_diagram.specs.Numbering.{AddsOnly, IsNumbering}
use Rattle.ms_diagram.specs.Store.{Contents}
use Rattle.ms_diagram.proofs.Building.{Builds-implies}
use Rattle.ms_logic.specs.declared.mode.Order.{Order}
use Rattle.ms_logic_words.specs.declared.sign.Sign.{Sign}
use Rattle.ms_logic.specs.Assignment.{Variable}
use Rattle.ms_logic_words.specs.Content.{StateOf, Content, HasValueAt, IsClosed, IsFollowed, is_truth_value, is_in_letters, first_state, next_state, state_after, last_state, letter_bits}
use Rattle.ms_dfa.specs.Machine.{Machine, after, end_of}
use Rattle.ms_dfa.specs.Narrow.{narrowed_truth, narrowed_letter, narrowed}
use Rattle.ms_dfa_explore.specs.inner.Run.{IsOver, AreNames}
use Rattle.ms_product.specs.declared.op.Op.{Op}
use Rattle.ms_product.specs.Widened.{behind_through, next_through}
use Rattle.ms_product.specs.Pairing.{Operands, HaveRisingMaps, sides_of, first_pair, next_pair, pair_sign, behind_pair, sign_of_number, product_findings, AreReachedPairs, AreStates, IsReachedPair, from_starts, from_pair}
use Rattle.ms_product.proofs.WidenedLemmas.{Renames-followed, first_reads, next_reads, first_narrowed, next_narrowed}

-- two references of the operands' diagrams
module _ (operands : Operands) (roots : Ref × Ref) where
  -- they are read at the places of their variables
  pub AreOn-followed : HaveRisingMaps operands → (has_value : Order → Bool) → IsFollowed operands.left has_value roots.0 → IsFollowed operands.right has_value roots.1 → AreOn (sides_of operands) roots
  AreOn-followed maps has_value left right = (
    (left.valid, Renames-followed operands.left operands.left.nodes has_value operands.left_map roots.0 refl maps.left left),
    (right.valid, Renames-followed operands.right operands.right.nodes has_value operands.right_map roots.1 refl maps.right right),
  )

  module _ (wanted : Bits → ℕ × ℕ) (leads : (bits : Bits) → leaves_across (sides_of operands) roots bits ≡ wanted bits) where
    -- the numbers of the pairs of their leaves are those of the pairs to which they should lead
    pub Builds-across : (pairs : List (ℕ × ℕ)) (old new : Contents) (result : Result Ref StepFault)
        → Builds old new (NumberAcross (sides_of operands) pairs roots) (LacksAcross (sides_of operands) pairs roots) result
        → Builds old new (λ bits number. slice_get pairs number ≡ Some (wanted bits)) (length pairs ≡ 4294967295) result
    Builds-across pairs old new result =
        Builds-implies old new (NumberAcross (sides_of operands) pairs roots) (λ bits number. slice_get pairs number ≡ Some (wanted bits)) (LacksAcross (sides_of operands) pairs roots)
        (length pairs ≡ 4294967295) (λ bits number held. held ∙ ap Some (leads bits)) (λ lacks. lacks.0) result

  -- and pairs that are added are pairs of states
  pub AreStates-added : (has_value : Order → Bool) → IsFollowed operands.left has_value roots.0 → IsFollowed operands.right has_value roots.1
      → (early late : List (ℕ × ℕ)) → AreStates operands early → Extends early late → AddsOnly (HasLeavesAcross (sides_of operands) roots) early late → AreStates operands late
  AreStates-added has_value left right early late were extends added number pair held = ⊎_elim
      (λ before.
      let there = slice_get-held early number before in
      let same : there.0 ≡ pair = same_Some there.0 pair (sym (slice_get-extends early late extends number there.0 there.1) ∙ held) in
      subst (λ (p : ℕ × ℕ). (p.0 < length operands.left.states) × (p.1 < length operands.right.states)) same (were number there.0 there.1))
      (λ behind.
      let has = added number pair behind held in
      subst (λ (p : ℕ × ℕ). (p.0 < length operands.left.states) × (p.1 < length operands.right.states)) has.1
      (left.states (read_through operands.left_map has.0), right.states (read_through operands.right_map has.0)))
      (cases_lt number (length early))

  -- and of pairs that are reached, where all those behind the references are
  pub AreReached-added : ((bits : Bits) → IsReachedPair operands (leaves_across (sides_of operands) roots bits)) → (early late : List (ℕ × ℕ)) → AreReachedPairs operands early
      → Extends early late → AddsOnly (HasLeavesAcross (sides_of operands) roots) early late → AreReachedPairs operands late
  AreReached-added behind early late were extends added number pair held = ⊎_elim
      (λ before.
      let there = slice_get-held early number before in
      let same : there.0 ≡ pair = same_Some there.0 pair (sym (slice_get-extends early late extends number there.0 there.1) ∙ held) in
      subst (IsReachedPair operands) same (were number there.0 there.1))
      (λ past. let has = added number pair past held in subst (IsReachedPair operands) has.1 (behind has.0))
      (cases_lt number (length early))

-- where the bits lead from the references of both starts
pub first_leads : (operands : Operands) (roots : Ref × Ref) → roots.0 ≡ operands.left.start → roots.1 ≡ operands.right.start
    → (bits : Bits) → first_pair operands bits ≡ leaves_across (sides_of operands) roots bits
first_leads operands roots left right bits =
    let one = ap (λ (r : Ref). leaf_of operands.left.nodes r (read_through operands.left_map bits)) (sym left) in
    let other = ap (λ (r : Ref). leaf_of operands.right.nodes r (read_through operands.right_map bits)) (sym right) in
    λ i. (one i, other i)

-- what a state of an operand leads to
next_leads_one : (content : Content Sign) (map : List ℕ) (state : ℕ) (root : Ref) → state < length content.states → IfSome (slice_get content.states state) (λ (found : StateOf Sign). root ≡ found.next)
    → (bits : Bits) → leaf_of content.nodes root (read_through map bits) ≡ next_through content map state bits
next_leads_one content map state root within is bits =
    let held = slice_get-held content.states state within in
    let root_is : root ≡ held.0.next = subst (λ found. IfSome found (λ (s : StateOf Sign). root ≡ s.next)) held.1 is in
    ap (λ (r : Ref). leaf_of content.nodes r (read_through map bits)) root_is ∙ ap (λ found. behind_through content map found bits) (sym held.1)

-- and those of a pair of states
pub next_leads : (operands : Operands) (pair : ℕ × ℕ) (roots : Ref × Ref) → pair.0 < length operands.left.states → pair.1 < length operands.right.states
    → IfSome (slice_get operands.left.states pair.0) (λ (found : StateOf Sign). roots.0 ≡ found.next) → IfSome (slice_get operands.right.states pair.1) (λ (found : StateOf Sign). roots.1 ≡ found.next)
    → (bits : Bits) → leaves_across (sides_of operands) roots bits ≡ next_pair operands pair bits
next_leads operands pair roots within_left within_right left right bits =
    let one = next_leads_one operands.left operands.left_map pair.0 roots.0 within_left left bits in
    let other = next_leads_one operands.right operands.right_map pair.1 roots.1 within_right right bits in
    λ i. (one i, other i)

-- a state of the product leads where its pair does
pub Builds-next_pair : (operands : Operands) (pairs late : List (ℕ × ℕ)) → Extends pairs late → (state : ℕ) (pair : ℕ × ℕ) → slice_get pairs state ≡ Some pair → (roots : Ref × Ref)
    → ((bits : Bits) → leaves_across (sides_of operands) roots bits ≡ next_pair operands pair bits) → (old new : Contents) (result : Result Ref StepFault)
    → Builds old new (NumberAcross (sides_of operands) late roots) (LacksAcross (sides_of operands) late roots) result
    → Builds old new (behind_pair operands late (slice_get late state)) (length late ≡ 4294967295) result
Builds-next_pair operands pairs late extends state pair held roots leads old new result builds =
    subst (λ found. Builds old new (behind_pair operands late found) (length late ≡ 4294967295) result) (sym (slice_get-extends pairs late extends state pair held))
    (Builds-across operands roots (next_pair operands pair) leads late old new result builds)

-- operands that lead alike reach the same pairs
pub IsReachedPair-same : (one other : Operands) → ((bits : Bits) → first_pair one bits ≡ first_pair other bits) → ((pair : ℕ × ℕ) (bits : Bits) → next_pair one pair bits ≡ next_pair other pair bits)
    → (pair : ℕ × ℕ) → IsReachedPair one pair → IsReachedPair other pair
IsReachedPair-same one other first next pair (from_starts bits leads) = from_starts bits (sym (first bits) ∙ leads)
IsReachedPair-same one other first next pair (from_pair before bits reached leads) =
    from_pair before bits (IsReachedPair-same one other first next before reached) (sym (next before bits) ∙ leads)

-- two automata that go side by side
abbrev pub side_by_side : Operands → List Variable → Machine (ℕ × ℕ)
side_by_side operands wide = record {
  start = λ truth. (
    first_state operands.left (narrowed_truth operands.left_map operands.left.variables wide truth),
    first_state operands.right (narrowed_truth operands.right_map operands.right.variables wide truth),
  );
  step = λ pair letter. (
    next_state operands.left pair.0 (narrowed_letter operands.left_map operands.left.variables wide letter),
    next_state operands.right pair.1 (narrowed_letter operands.right_map operands.right.variables wide letter),
  );
}

side_after : (operands : Operands) (wide : List Variable) (left right : ℕ) (letters : List (List Bool))
    → after (side_by_side operands wide) (left, right) letters
    ≡ (
      state_after operands.left left (map_list (narrowed_letter operands.left_map operands.left.variables wide) letters),
      state_after operands.right right (map_list (narrowed_letter operands.right_map operands.right.variables wide) letters),
    )
side_after operands wide left right [] = refl
side_after operands wide left right (letter ∷ letters) =
    side_after operands wide (next_state operands.left left (narrowed_letter operands.left_map operands.left.variables wide letter))
    (next_state operands.right right (narrowed_letter operands.right_map operands.right.variables wide letter)) letters

-- they end in the states in which each ends on the word read over its own variables
pub end_of-side_by_side : (operands : Operands) (wide : List Variable) (word : Word) → end_of (side_by_side operands wide) word
    ≡ (last_state operands.left (narrowed operands.left_map operands.left.variables wide word), last_state operands.right (narrowed operands.right_map operands.right.variables wide word))
end_of-side_by_side operands wide word =
    side_after operands wide (first_state operands.left (narrowed_truth operands.left_map operands.left.variables wide word.truth))
    (first_state operands.right (narrowed_truth operands.right_map operands.right.variables wide word.truth)) word.letters

module _ (op : Op) (operands : Operands) (wide : List Variable) (left_ordered : IsOrdered operands.left.nodes) (left_closed : IsClosed operands.left)
    (left_leads : (place : ℕ) (v : Variable) → slice_get operands.left.variables place ≡ Some v → slice_get wide (slice_index operands.left_map place) ≡ Some v)
    (right_ordered : IsOrdered operands.right.nodes) (right_closed : IsClosed operands.right)
    (right_leads : (place : ℕ) (v : Variable) → slice_get operands.right.variables place ≡ Some v → slice_get wide (slice_index operands.right_map place) ≡ Some v) where
  -- from both starts, and from a pair of states, only variables with a value matter
  first_pair-reads : (var : ℕ) → ¬ HasValueAt wide is_truth_value var → (bits : Bits) → first_pair operands (with_bit bits var false) ≡ first_pair operands (with_bit bits var true)
  first_pair-reads var absent bits =
      let one = first_reads operands.left operands.left_map wide left_ordered left_closed left_leads var absent bits in
      let other = first_reads operands.right operands.right_map wide right_ordered right_closed right_leads var absent bits in
      λ i. (one i, other i)

  next_pair-reads : (pair : ℕ × ℕ) → pair.0 < length operands.left.states → pair.1 < length operands.right.states → (var : ℕ) → ¬ HasValueAt wide is_in_letters var → (bits : Bits)
      → next_pair operands pair (with_bit bits var false) ≡ next_pair operands pair (with_bit bits var true)
  next_pair-reads pair in_left in_right var absent bits =
      let one = next_reads operands.left operands.left_map wide left_ordered left_closed left_leads pair.0 in_left var absent bits in
      let other = next_reads operands.right operands.right_map wide right_ordered right_closed right_leads pair.1 in_right var absent bits in
      λ i. (one i, other i)

  module _ (pairs : List (ℕ × ℕ)) (numbering : IsNumbering pairs) (states : AreStates operands pairs) where
    -- two numbers of one pair are one
    one_number : (one other : ℕ) (first second : ℕ × ℕ) → slice_get pairs one ≡ Some first → slice_get pairs other ≡ Some second → first ≡ second → one ≡ other
    one_number one other first second held held_other same = numbering.no_repeats one other second (held ∙ ap Some same) held_other

    pub IsOver-product : IsOver wide (product_findings op operands pairs)
    IsOver-product = record {
      start_found = λ bits number held. slice_get_within pairs number (first_pair operands bits) held;
      next_found = λ state found bits number leads.
          let held = slice_get-held pairs state found in
          slice_get_within pairs number (next_pair operands held.0 bits) (subst (λ at. behind_pair operands pairs at bits number) held.1 leads);
      start_reads = λ var absent bits one other first second.
          one_number one other (first_pair operands (with_bit bits var false)) (first_pair operands (with_bit bits var true)) first second (first_pair-reads var absent bits);
      next_reads = λ state found var absent bits one other first second.
          let held = slice_get-held pairs state found in
          let within = states state held.0 held.1 in
          one_number one other (next_pair operands held.0 (with_bit bits var false)) (next_pair operands held.0 (with_bit bits var true))
          (subst (λ at. behind_pair operands pairs at (with_bit bits var false) one) held.1 first)
          (subst (λ at. behind_pair operands pairs at (with_bit bits var true) other) held.1 second)
          (next_pair-reads held.0 within.0 within.1 var absent bits);
    }

    -- the numbers name the pairs in which both automata are, side by side
    pub AreNames-product : AreNames wide (product_findings op operands pairs) (side_by_side operands wide) (pair_sign op operands) (λ number pair. slice_get pairs number ≡ Some pair)
    AreNames-product = record {
      start = λ truth number long held.
          let one = first_narrowed operands.left operands.left_map wide left_ordered left_closed left_leads truth in
          let other = first_narrowed operands.right operands.right_map wide right_ordered right_closed right_leads truth in
          held ∙ ap Some (λ i. (one i, other i));
      next = λ number pair letter later found named long leads.
          let within = states number pair named in
          let one = next_narrowed operands.left operands.left_map wide left_ordered left_closed left_leads pair.0 within.0 letter in
          let other = next_narrowed operands.right operands.right_map wide right_ordered right_closed right_leads pair.1 within.1 letter in
          subst (λ at. behind_pair operands pairs at (letter_bits wide letter) later) named leads ∙ ap Some (λ i. (one i, other i));
      signs = λ number pair found named. ap (sign_of_number op operands) named;
    }
