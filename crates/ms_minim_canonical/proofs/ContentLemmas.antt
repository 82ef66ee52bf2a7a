-- A content with the rules of a file is closed; where its states lead by bits and by letters; and contents that share mode and
-- variables.
use Rattle.std.proofs.Common.{◌≡◌, ℕ, zero, suc, ◌<◌, ◌≤◌, Bool, true, false, List, length, slice_get, Some, sym, ap, subst, ◌∙◌, arith}
use Rattle.std.proofs.lemmas.Option.{get_or_from_slice_get}
use Rattle.ms_arena.specs.declared.node.Node.{Node}
use Rattle.ms_arena.specs.declared.node.Ref.{Ref}
use Rattle.ms_arena.specs.declared.node.Ref.TheVariants.{Leaf, Inner}
use Rattle.ms_arena.specs.Diagram.{Bits, leaf_of, IsBefore, IsValid}
use Rattle.ms_arena.proofs.Canonicity.{end_for}
use Rattle.ms_arena.proofs.Lists.{slice_get-held}
use Rattle.ms_arena.proofs.Paths.{IsBefore-later, IsBefore-end_at, leaf_of-leaf, leaf_of-node}
use Rattle.ms_logic_words.specs.Content.{StateOf, Content, IsContent, IsClosed, IsFollowed, NamesPart, is_in_letters, is_truth_value, first_state, next_from, next_state}
use Rattle.ms_dfa.specs.Narrow.{gathered}
use Rattle.ms_dfa.proofs.NarrowLemmas.{leaf_of-gathered}

module _ {Sign : Type 0} (content : Content Sign) where
  -- a reference to a part of the content is valid
  pub valid-named : (reference : Ref) → NamesPart content reference → IsValid content.nodes reference
  valid-named (Leaf state) named = tt
  valid-named (Inner place) named = named

  module _ (rules : IsContent content) where
    named_end : (place : ℕ) (node : Node) (bit : Bool) → slice_get content.nodes place ≡ Some node → NamesPart content (end_for node bit)
    named_end place node true held = rules.high_named place node held
    named_end place node false held = rules.low_named place node held

    -- and leads to states
    leads_before : (count : ℕ) (reference : Ref) → IsBefore count reference → count ≤ length content.nodes → NamesPart content reference → (bits : Bits)
        → leaf_of content.nodes reference bits < length content.states
    leads_before count (Leaf state) before within named bits = rw (leaf_of-leaf content.nodes bits state) named
    leads_before zero (Inner place) before within named bits = absurd (omega arith)
    leads_before (suc count) (Inner place) before within named bits =
        let held = slice_get-held content.nodes place (omega arith) in
        subst (λ leaf. leaf < length content.states) (sym (leaf_of-node content.nodes rules.ordered bits place held.0 held.1))
        (leads_before count (end_for held.0 (bits held.0.var))
        (IsBefore-later place count (end_for held.0 (bits held.0.var)) (omega arith) (IsBefore-end_at content.nodes rules.ordered place held.0 bits held.1)) (omega arith)
        (named_end place held.0 (bits held.0.var) held.1) bits)

    pub next_followed : (place : ℕ) (state : StateOf Sign) → slice_get content.states place ≡ Some state → IsFollowed content is_in_letters state.next
    next_followed place state held =
        let named = rules.next_named place state held in
        record {
          valid = valid-named state.next named;
          states = leads_before (length content.nodes) state.next (valid-named state.next named) (omega arith) named;
          tests = rules.next_tests place state held;
        }

    pub IsClosed-content : IsClosed content
    IsClosed-content = record {
      start = record {
        valid = valid-named content.start rules.start_named;
        states = leads_before (length content.nodes) content.start (valid-named content.start rules.start_named) (omega arith) rules.start_named;
        tests = rules.start_tests;
      };
      next = λ place state less.
          let held = slice_get-held content.states place less in
          subst (λ (found : StateOf Sign). IsFollowed content is_in_letters found.next) (sym (get_or_from_slice_get content.states place held.0 state held.1))
          (next_followed place held.0 held.1);
    }

    -- the truth values, and the letter, that have these bits
    abbrev pub truth_for : Bits → List Bool
    truth_for bits = gathered is_truth_value 0 content.variables bits

    abbrev pub letter_for : Bits → List Bool
    letter_for bits = gathered is_in_letters 0 content.variables bits

    -- lead where the bits do
    pub first_state-for : (bits : Bits) → first_state content (truth_for bits) ≡ leaf_of content.nodes content.start bits
    first_state-for bits =
        leaf_of-gathered content.nodes is_truth_value content.variables content.start bits rules.ordered (valid-named content.start rules.start_named) rules.start_tests

    pub next_state-for : (place : ℕ) (state : StateOf Sign) → slice_get content.states place ≡ Some state → (bits : Bits)
        → next_state content place (letter_for bits) ≡ leaf_of content.nodes state.next bits
    next_state-for place state held bits =
        ap (λ found. next_from content found (letter_for bits)) held
        ∙ leaf_of-gathered content.nodes is_in_letters content.variables state.next bits rules.ordered (valid-named state.next (rules.next_named place state held)) (rules.next_tests place state held)

-- the second content with the mode and the variables of the first
abbrev pub sharing : {Sign : Type 0} → Content Sign → Content Sign → Content Sign
sharing one other = record { mode = one.mode; variables = one.variables; start = other.start; states = other.states; nodes = other.nodes }

pub sharing-same : {Sign : Type 0} (one other : Content Sign) → one.mode ≡ other.mode → one.variables ≡ other.variables → sharing one other ≡ other
sharing-same one other mode variables = λ i. record { mode = mode i; variables = variables i; start = other.start; states = other.states; nodes = other.nodes }
