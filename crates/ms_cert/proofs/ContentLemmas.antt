-- The content of a file: its parts by their places, and where its references lead.
use Rattle.std.proofs.Common.{◌≡◌, ℕ, ◌+◌, ◌<◌, Bool, List, [], ◌∷◌, drop, length, slice_get, slice_index_or, Option, Some, None, refl, sym, ap, ◌∙◌}
use Rattle.std.specs.Option.{option_map}
use Rattle.std.proofs.lemmas.Option.{none-some, same_Some, slice_get-map}
use Rattle.ms_arena.specs.declared.node.Node.{Node}
use Rattle.ms_arena.specs.declared.node.Ref.{Ref}
use Rattle.ms_arena.specs.declared.node.Ref.TheVariants.{Inner}
use Rattle.ms_arena.specs.Diagram.{Bits, leaf_of}
use Rattle.ms_arena.proofs.Canonicity.{end_for}
use Rattle.ms_arena.proofs.Paths.{leaf_of-node}
use Rattle.ms_dfafile_outside.proofs.ContentLemmas.{leads-to_state, named-end, valid-part}
use Rattle.ms_dfafile_outside.proofs.FileLemmas.{state-at, state_of}
use Rattle.ms_dfa.specs.Files.{content_of_file}
use Rattle.ms_dfa.specs.declared.plain.FileSign.{FileSign}
use Rattle.ms_dfa.specs.declared.plain.FileState.{FileState}
use Rattle.ms_dfa.specs.declared.plain.Plain.{Plain}
use Rattle.ms_logic_words.specs.Content.{Content, IsContent, NamesPart, StateOf, first_state, letter_bits, next_from, next_state, sign_at, state_after, truth_bits}
use Rattle.ms_cert.specs.inner.Slots.{orders_of, slot_bits, slots_of}
use Rattle.ms_cert.proofs.ListLemmas.{drop-item}
use Rattle.ms_cert.proofs.SlotsLemmas.{leaf-letter, leaf-truth}

module _ {Sign : Type 0} (content : Content Sign) (rules : IsContent content) where
  -- bits lead from the end of a node that they choose where they lead from the node
  pub way-more : (bits : Bits) (reference : Ref) (place : ℕ) (node : Node) (bit : Bool) → reference ≡ Inner place → slice_get content.nodes place ≡ Some node → bits node.var ≡ bit
      → NamesPart content (end_for node bit) × (leaf_of content.nodes (end_for node bit) bits ≡ leaf_of content.nodes reference bits)
  way-more bits reference place node bit is held own = (
    named-end content rules place node bit held,
    ap (λ (b : Bool). leaf_of content.nodes (end_for node b) bits) (sym own)
        ∙ sym (leaf_of-node content.nodes rules.ordered bits place node held)
        ∙ ap (λ (r : Ref). leaf_of content.nodes r bits) (sym is),
  )

  pub first-state : (truth : List Bool) → first_state content truth < length content.states
  first-state truth = leads-to_state content rules content.start rules.start_named (truth_bits content.variables truth)

  -- a letter leads from a state to one
  pub next-state : (state : ℕ) (letter : List Bool) → next_state content state letter < length content.states
  next-state state letter = by_state (slice_get content.states state) refl
    where
      by_state : (found : Option (StateOf Sign)) → slice_get content.states state ≡ found → next_from content found letter < length content.states
      by_state None is = rules.some_state
      by_state (Some s) is = leads-to_state content rules s.next (rules.next_named state s is) (letter_bits content.variables letter)

  -- and so do letters
  pub after-state : (letters : List (List Bool)) (state : ℕ) → state < length content.states → state_after content state letters < length content.states
  after-state [] state within = within
  after-state (letter ∷ letters) state within = after-state letters (next_state content state letter) (next-state state letter)

module _ (plain : Plain) where
  -- a state of the content in the file
  pub state-in : (place : ℕ) (state : StateOf FileSign) → slice_get (content_of_file plain).states place ≡ Some state → (own : FileState) × (slice_get plain.states place ≡ Some own) × (state_of own ≡ state)
  state-in place state held = mapped (slice_get plain.states place) (sym (slice_get-map state_of plain.states place) ∙ held)
    where
      mapped : (found : Option FileState) → option_map state_of found ≡ Some state → (own : FileState) × (found ≡ Some own) × (state_of own ≡ state)
      mapped None is = absurd (none-some state is)
      mapped (Some own) is = (own, refl, same_Some (state_of own) state is)

  pub sign-at : (place : ℕ) (state : FileState) → slice_get plain.states place ≡ Some state → sign_at (content_of_file plain) place ≡ Some state.sign
  sign-at place state held = ap (option_map (λ (s : StateOf FileSign). s.sign)) (state-at plain place state held)

  module _ (rules : IsContent (content_of_file plain)) where
    -- by the slots, truth values lead to the first state, and a letter from a state to the next one
    pub first-by_slots : (truth : List Bool) → leaf_of plain.nodes plain.start (slot_bits (slots_of plain) truth) ≡ first_state (content_of_file plain) truth
    first-by_slots truth =
        leaf-truth plain.nodes rules.ordered (orders_of plain) truth plain.start (valid-part (content_of_file plain) plain.start rules.start_named) rules.start_tests

    pub next-by_slots : (place : ℕ) (state : FileState) (letter : List Bool) → slice_get plain.states place ≡ Some state
        → leaf_of plain.nodes state.next (slot_bits (slots_of plain) letter) ≡ next_state (content_of_file plain) place letter
    next-by_slots place state letter held =
        let content = content_of_file plain in
        let there = state-at plain place state held in
        leaf-letter plain.nodes rules.ordered (orders_of plain) letter state.next (valid-part content state.next (rules.next_named place (state_of state) there)) (rules.next_tests place (state_of state) there)
        ∙ ap (λ (found : Option (StateOf FileSign)). next_from content found letter) (sym there)

-- a run goes on by one letter more, the first of those that are left
module _ (content : Content FileSign) (letters : List (List Bool)) (place : ℕ) (letter : List Bool) (within : place < length letters) (is : letter ≡ slice_index_or letters place letter) where
  pub run-more : (from state next : ℕ) → state_after content state (drop place letters) ≡ state_after content from letters → next ≡ next_state content state letter
      → state_after content next (drop (place + 1) letters) ≡ state_after content from letters
  run-more from state next so_far led =
      ap (λ (s : ℕ). state_after content s (drop (place + 1) letters)) led ∙ ap (λ (left : List (List Bool)). state_after content state left) (sym (drop-item letters place letter within is)) ∙ so_far
