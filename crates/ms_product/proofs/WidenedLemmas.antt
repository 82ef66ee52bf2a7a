-- An automaton over more variables leads, by the bits of a word over them, where it leads by the word read over its own.
use Rattle.std.proofs.Common.{◌≡◌, ◌≢◌, ℕ, ◌<◌, Bool, true, false, List, length, slice_get, slice_index, Some, sym, ap, subst, ◌∙◌, arith}
use Rattle.std.proofs.lemmas.List.{length-map}
use Rattle.std.proofs.lemmas.Option.{slice_get_within, get_or_from_slice_get}
use Rattle.ms_arena.specs.declared.node.Ref.{Ref}
use Rattle.ms_arena.specs.declared.node.Node.{Node}
use Rattle.ms_arena.specs.Bits.{with_bit}
use Rattle.ms_arena.specs.Diagram.{Bits, leaf_of, IsOrdered}
use Rattle.ms_arena.proofs.BitsLemmas.{with_bit-other}
use Rattle.ms_arena.proofs.Lists.{slice_get-held}
use Rattle.ms_arena.proofs.ReachLemmas.{leaf_of-tested}
use Rattle.ms_diagram.specs.Bring.{read_through, Renames}
use Rattle.ms_logic.specs.Assignment.{Variable}
use Rattle.ms_logic.specs.Lists.{AreRising, IsAmong}
use Rattle.ms_logic.specs.declared.mode.Order.{Order}
use Rattle.ms_logic_words.specs.declared.sign.Sign.{Sign}
use Rattle.ms_logic_words.specs.Content.{StateOf, Content, HasValueAt, IsClosed, IsFollowed, is_truth_value, is_in_letters, first_state, next_from, next_state, sign_at, truth_bits, letter_bits}
use Rattle.ms_logic_words.specs.Signs.{sign_or_outside}
use Rattle.ms_dfa.specs.Narrow.{narrowed_truth, narrowed_letter}
use Rattle.ms_dfa.proofs.NarrowLemmas.{leaf_of-gathered}
use Rattle.ms_dfa_explore.specs.Tracks.{place_of, places_among}
use Rattle.ms_dfa_explore.proofs.AmongLemmas.{places_rise}
use Rattle.ms_product.specs.Widened.{first_through, behind_through, next_through, sign_in, IsRisingMap}

-- what a followed reference tests is read through a rising map
pub Renames-followed : (content : Content Sign) (nodes : List Node) (has_value : Order → Bool) (map : List ℕ) (root : Ref) → nodes ≡ content.nodes
    → IsRisingMap (length content.variables) map → IsFollowed content has_value root → Renames nodes map root
Renames-followed content nodes has_value map root same is followed = subst (λ list. Renames list map root) (sym same) (record {
  long = λ var tested. let within = below var (followed.tests var tested) in omega (arith, within, is.long);
  rising = λ one two first second less. is.rising one two less (below two (followed.tests two second));
})
  where
    below : (var : ℕ) → HasValueAt content.variables has_value var → var < length content.variables
    below var at = slice_get_within content.variables var at.0 at.1

-- the sign of a state
pub sign_in-is : (content : Content Sign) (state : ℕ) (sign : Sign) → sign_at content state ≡ Some sign → sign_in content state ≡ sign
sign_in-is content state sign is = ap sign_or_outside is

module _ (content : Content Sign) (map : List ℕ) (closed : IsClosed content) where
  -- a start and a state lead to states
  pub first_below : (bits : Bits) → first_through content map bits < length content.states
  first_below bits = closed.start.states (read_through map bits)

  pub followed : (state : ℕ) (found : StateOf Sign) → slice_get content.states state ≡ Some found → IsFollowed content is_in_letters found.next
  followed state found held =
      subst (λ (s : StateOf Sign). IsFollowed content is_in_letters s.next) (get_or_from_slice_get content.states state found found held)
      (closed.next state found (slice_get_within content.states state found held))

  pub next_below : (state : ℕ) → state < length content.states → (bits : Bits) → next_through content map state bits < length content.states
  next_below state within bits =
      let held = slice_get-held content.states state within in
      subst (λ found. behind_through content map found bits < length content.states) (sym held.1) ((followed state held.0 held.1).states (read_through map bits))

module _ (content : Content Sign) (map : List ℕ) (wide : List Variable) (ordered : IsOrdered content.nodes) (closed : IsClosed content)
    (leads : (place : ℕ) (v : Variable) → slice_get content.variables place ≡ Some v → slice_get wide (slice_index map place) ≡ Some v) where
  -- a bit of no wide variable with a value is not read
  not_read : (has_value : Order → Bool) (root : Ref) → IsFollowed content has_value root → (var : ℕ) → ¬ HasValueAt wide has_value var → (bits : Bits)
      → leaf_of content.nodes root (read_through map (with_bit bits var false)) ≡ leaf_of content.nodes root (read_through map (with_bit bits var true))
  not_read has_value root is var absent bits =
      leaf_of-tested content.nodes ordered root (read_through map (with_bit bits var false)) (read_through map (with_bit bits var true)) is.valid (λ own tested.
      let at = is.tests own tested in
      let apart : slice_index map own ≢ var = λ same. absent (subst (HasValueAt wide has_value) same (at.0, leads own at.0 at.1, at.2)) in
      with_bit-other bits var false (slice_index map own) apart ∙ sym (with_bit-other bits var true (slice_index map own) apart))

  pub first_reads : (var : ℕ) → ¬ HasValueAt wide is_truth_value var → (bits : Bits)
      → first_through content map (with_bit bits var false) ≡ first_through content map (with_bit bits var true)
  first_reads = not_read is_truth_value content.start closed.start

  pub next_reads : (state : ℕ) → state < length content.states → (var : ℕ) → ¬ HasValueAt wide is_in_letters var → (bits : Bits)
      → next_through content map state (with_bit bits var false) ≡ next_through content map state (with_bit bits var true)
  next_reads state within var absent bits =
      let held = slice_get-held content.states state within in
      subst (λ found. behind_through content map found (with_bit bits var false) ≡ behind_through content map found (with_bit bits var true)) (sym held.1)
      (not_read is_in_letters held.0.next (followed content map closed state held.0 held.1) var absent bits)

  -- by the bits of a word over the wide variables it goes as by the word read over its own
  pub first_narrowed : (truth : List Bool) → first_through content map (truth_bits wide truth) ≡ first_state content (narrowed_truth map content.variables wide truth)
  first_narrowed truth =
      sym (leaf_of-gathered content.nodes is_truth_value content.variables content.start (read_through map (truth_bits wide truth)) ordered closed.start.valid closed.start.tests)

  pub next_narrowed : (state : ℕ) → state < length content.states → (letter : List Bool)
      → next_through content map state (letter_bits wide letter) ≡ next_state content state (narrowed_letter map content.variables wide letter)
  next_narrowed state within letter =
      let held = slice_get-held content.states state within in
      let is = followed content map closed state held.0 held.1 in
      subst (λ found. behind_through content map found (letter_bits wide letter) ≡ next_from content found (narrowed_letter map content.variables wide letter)) (sym held.1)
      (sym (leaf_of-gathered content.nodes is_in_letters content.variables held.0.next (read_through map (letter_bits wide letter)) ordered is.valid is.tests))

-- the places of the variables of one rising list among those of another are a rising map
pub IsRisingMap-among : (narrow wide : List Variable) → AreRising narrow → AreRising wide → ((v : Variable) → IsAmong narrow v → IsAmong wide v)
    → IsRisingMap (length narrow) (places_among narrow wide)
IsRisingMap-among narrow wide rising_n rising_w among = record {
  long = length-map narrow (λ (v : Variable). place_of v.name wide);
  rising = places_rise narrow wide rising_n rising_w among;
}
