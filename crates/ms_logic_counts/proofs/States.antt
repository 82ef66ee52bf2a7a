-- Each word leads a content to one of its states.
use Rattle.std.proofs.Common.{◌≡◌, ℕ, zero, suc, ◌<◌, Bool, true, false, List, [], ◌∷◌, length, slice_get, Option, Some, None, refl, sym, subst, arith}
use Rattle.ms_list.specs.declared.word.Word.{Word}
use Rattle.ms_arena.specs.declared.node.Node.{Node}
use Rattle.ms_arena.specs.declared.node.Ref.{Ref}
use Rattle.ms_arena.specs.declared.node.Ref.TheVariants.{Leaf, Inner}
use Rattle.ms_arena.specs.Diagram.{Bits, leaf_of, IsBefore, IsValid}
use Rattle.ms_arena.proofs.Canonicity.{end_for, IsBefore-end_for}
use Rattle.ms_arena.proofs.Lists.{slice_get-held}
use Rattle.ms_arena.proofs.Paths.{IsBefore-later, leaf_of-leaf, leaf_of-node}
use Rattle.ms_logic.specs.Assignment.{Variable}
use Rattle.ms_logic_words.specs.Content.{StateOf, Content, IsContent, NamesPart, letter_bits, truth_bits, first_state, next_from, next_state, state_after, last_state}
use Rattle.ms_logic_measures.specs.Starts.{narrowed, state_at}
use Rattle.ms_logic_counts.proofs.BitLists.{below, among-below}
use Rattle.ms_logic_machines.proofs.Choices.{Among}

module _ {Sign : Type 0} (content : Content Sign) where
  -- the states
  abbrev pub states_of : List ℕ
  states_of = below (length content.states)

  valid_part : (reference : Ref) → NamesPart content reference → IsValid content.nodes reference
  valid_part (Leaf state) named = tt
  valid_part (Inner place) named = named

  module _ (rules : IsContent content) where
    named_end : (place : ℕ) (node : Node) (bit : Bool) → slice_get content.nodes place ≡ Some node → NamesPart content (end_for node bit)
    named_end place node true held = rules.high_named place node held
    named_end place node false held = rules.low_named place node held

    leaf_before : (count : ℕ) (root : Ref) → IsBefore count root → NamesPart content root → (bits : Bits)
        → leaf_of content.nodes root bits < length content.states
    leaf_before count (Leaf state) before named bits = subst (λ n. n < length content.states) (sym (leaf_of-leaf content.nodes bits state)) named
    leaf_before zero (Inner place) before named bits = absurd (omega (arith, before))
    leaf_before (suc count) (Inner place) before named bits =
        let held = slice_get-held content.nodes place named in
        let bit = bits held.0.var in
        subst (λ n. n < length content.states) (sym (leaf_of-node content.nodes rules.ordered bits place held.0 held.1))
        (leaf_before count (end_for held.0 bit)
        (IsBefore-later place count (end_for held.0 bit) (omega (arith, before)) (IsBefore-end_for content.nodes rules.ordered place held.0 bit held.1))
        (named_end place held.0 bit held.1) bits)

    leaf_within : (root : Ref) → NamesPart content root → (bits : Bits) → leaf_of content.nodes root bits < length content.states
    leaf_within root named bits = leaf_before (length content.nodes) root (valid_part root named) named bits

    next_within : (state : ℕ) (letter : List Bool) → next_state content state letter < length content.states
    next_within state letter = by_state (slice_get content.states state) refl
      where
        by_state : (found : Option (StateOf Sign)) → slice_get content.states state ≡ found → next_from content found letter < length content.states
        by_state None held = rules.some_state
        by_state (Some there) held = leaf_within there.next (rules.next_named state there held) (letter_bits content.variables letter)

    after_within : (letters : List (List Bool)) (state : ℕ) → state < length content.states → state_after content state letters < length content.states
    after_within [] state within = within
    after_within (letter ∷ letters) state within = after_within letters (next_state content state letter) (next_within state letter)

    -- a word leads to a state
    pub last_within : (word : Word) → last_state content word < length content.states
    last_within word =
        after_within word.letters (first_state content word.truth) (leaf_within content.start rules.start_named (truth_bits content.variables word.truth))

    -- so a word over any variables does
    pub state_listed : (variables : List Variable) (word : Word) → Among (state_at content variables word) states_of
    state_listed variables word =
        among-below (length content.states) (state_at content variables word) (last_within (narrowed variables word content.variables))
