-- The automaton of a body over some more variables has its states fixed by the full content of the body's formula and by a content that
-- tells which words encode an assignment of all variables that are wanted.
use Rattle.std.proofs.Common.{◌≡◌, ◌≢◌, ℕ, ◌⊎◌, ◌↔◌, ⊎_elim, inl, Bool, List, [], ◌∷◌, Some, sym, ap, subst, ◌∙◌}
use Rattle.ms_build.specs.Wider.{IsWider}
use Rattle.ms_build_parts.proofs.Matching.{over_same}
use Rattle.ms_dfa.specs.Automaton.{IsAutomaton}
use Rattle.ms_dfa.specs.Narrow.{narrowed}
use Rattle.ms_dfa.proofs.EncodingLemmas.{sign_of_encoding}
use Rattle.ms_dfa.proofs.NarrowLemmas.{narrowed_assigned, narrowed_encodes, narrowed_over}
use Rattle.ms_dfa_explore.specs.Tracks.{places_among}
use Rattle.ms_dfa_explore.proofs.AmongLemmas.{reads_through_places}
use Rattle.ms_list.specs.declared.word.Word.{Word}
use Rattle.ms_logic.specs.Assignment.{IsAssignment, Variable}
use Rattle.ms_logic.specs.Lists.{AreRising, IsAmong}
use Rattle.ms_logic.specs.declared.mode.Mode.{Mode}
use Rattle.ms_logic_words.specs.Canonical.{IsCanonical}
use Rattle.ms_logic_words.specs.Content.{Content, IsWordOver, sign_of}
use Rattle.ms_logic_words.specs.Word.{IsEncoding}
use Rattle.ms_logic_words.specs.declared.sign.Sign.{Sign}
use Rattle.ms_logic_words.specs.declared.sign.Sign.TheVariants.{Outside}
use Rattle.ms_logic_words.specs.inner.Decoding.{HasOneBit, HaveOneBit, column_after}
use Rattle.ms_logic_words.proofs.DecodedWords.{encodings_are}
use Rattle.ms_logic_words.specs.Residual.{AreReached, HaveDifferentResiduals, IsLeast}
use Rattle.ms_minim_canonical.proofs.ContentLemmas.{IsClosed-content}
use Rattle.ms_wider_parts.specs.Fixed.{IsFixedBy}
use Rattle.ms_dfa.proofs.OrdersLemmas.{orders_of}
use Rattle.ms_rename.proofs.LeastLemmas.{closed_same, over, parts_differ, parts_reached, sign_same}
use Rattle.ms_build_steps.proofs.Sides.{IsSide, is_own}
use Rattle.ms_build_steps.proofs.WideResiduals.{IsSaidBy, said_fixes}

-- and so does whether a word encodes an assignment
one_bit_same : (letters : List (List Bool)) (column : ℕ) (one other : List Variable) → orders_of other ≡ orders_of one → HaveOneBit letters column one → HaveOneBit letters column other
one_bit_same letters column [] [] same have = tt
one_bit_same letters column [] (w ∷ ws) same have = let never : ⊥ = cc in absurd never
one_bit_same letters column (v ∷ vs) [] same have = let never : ⊥ = cc in absurd never
one_bit_same letters column (v ∷ vs) (w ∷ ws) same have =
    let first : v.order ≡ w.order = cc in
    let more : orders_of ws ≡ orders_of vs = cc in (
      subst (λ o. HasOneBit letters o column) first have.0,
      subst (λ o. HaveOneBit letters (column_after o column) ws) first (one_bit_same letters (column_after v.order column) vs ws more have.1),
    )

pub encoding_same : (mode mode' : Mode) (one other : List Variable) → orders_of other ≡ orders_of one → AreRising one → AreRising other → (word : Word)
    → IsEncoding mode one word → IsEncoding mode' other word
encoding_same mode mode' one other same rising also word encoding =
    let is = (encodings_are mode one word rising).0 encoding in
    (encodings_are mode' other word also).1 (over_same one other word same is.0, one_bit_same word.letters 0 one other same is.1)

module _ (part wide content encodings : Content Sign) (side : IsSide part content) (automaton : IsAutomaton part) (added : List Variable) (is_wide : IsWider part added wide)
    (wide_is : IsAutomaton wide) (least : (wide ≡ part) ⊎ IsLeast wide)
    (wanted : List Variable) (wanted_rising : AreRising wanted) (among : (v : Variable) → IsAmong wide.variables v → IsAmong wanted v)
    (canonical : IsCanonical encodings) (orders : orders_of wanted ≡ orders_of encodings.variables)
    (tells : (word : Word) → IsWordOver wanted word → IsEncoding wide.mode wanted word ↔ (sign_of encodings word ≢ Some Outside)) where
  abbrev us : List Variable
  us = part.variables

  abbrev vs : List Variable
  vs = wide.variables

  part_among : (v : Variable) → IsAmong us v → IsAmong vs v
  part_among v there = (is_wide.variables v).1 (inl there)

  part_reached : AreReached part
  part_reached = parts_reached part side.least side.parts side.orders side.measured.reached

  part_differ : HaveDifferentResiduals part
  part_differ = parts_differ part side.least side.parts side.orders side.measured.differ

  own_orders : orders_of us ≡ orders_of content.variables
  own_orders = side.orders ∙ sym side.measured.same.orders

  -- the content says what the part says
  part_says : (word : Word) → IsWordOver us word → sign_of part word ≡ sign_of (over content.mode us content) word
  part_says word is_over =
      ap (λ c. sign_of c word) (is_own part content side)
      ∙ sign_same side.least part.mode us side.orders word
      ∙ sym (side.measured.same.signs word (over_same us side.least.variables word (sym side.orders) is_over))
      ∙ sym (sign_same content content.mode us own_orders word)

  wide_says : (word : Word) → IsEncoding wide.mode vs word → sign_of wide word ≡ sign_of (over content.mode us content) (narrowed (places_among us vs) us vs word)
  wide_says word encoding =
      let e = encoding.0 in
      let narrow = narrowed (places_among us vs) us vs word in
      let found = is_wide.values.right word e encoding.1 encoding.2 in
      let reads = reads_through_places us vs automaton.rising wide_is.rising part_among e in
      let encodes = narrowed_encodes (places_among us vs) us vs e e reads word encoding.2 in
      let assigned = subst (λ m. IsAssignment m us e) is_wide.mode_is (narrowed_assigned (places_among us vs) us vs e e reads wide.mode encoding.1) in
      found.1
      ∙ sym found.2
      ∙ sym (sign_of_encoding part automaton e assigned narrow encodes)
      ∙ part_says narrow (narrowed_over (places_among us vs) us vs word)

  said : IsSaidBy wide (over content.mode us content) (over encodings.mode wanted encodings)
  said = record {
    automaton = wide_is;
    reached = ⊎_elim (λ same. subst AreReached (sym same) part_reached) (λ few. few.reached) least;
    differ = ⊎_elim (λ same. subst HaveDifferentResiduals (sym same) part_differ) (λ few. few.differ) least;
    left_ordered = side.measured.is_canonical.rules.ordered;
    left_closed = closed_same content content.mode us own_orders (IsClosed-content content side.measured.is_canonical.rules);
    left_rising = automaton.rising;
    left_among = part_among;
    right_ordered = canonical.rules.ordered;
    right_closed = closed_same encodings encodings.mode wanted orders (IsClosed-content encodings canonical.rules);
    right_rising = wanted_rising;
    right_among = among;
    says = wide_says;
    tells = λ word is_over. (
      λ encoding. subst (λ sign. sign ≢ Some Outside) (sym (sign_same encodings encodings.mode wanted orders word)) ((tells word is_over).0 encoding),
      λ inside. (tells word is_over).1 (subst (λ sign. sign ≢ Some Outside) (sign_same encodings encodings.mode wanted orders word) inside),
    );
  }

  -- both contents, over variables of the same orders, fix its states
  pub bodies_are_fixed : IsFixedBy wide (over content.mode us content) (over encodings.mode wanted encodings)
  bodies_are_fixed = said_fixes wide (over content.mode us content) (over encodings.mode wanted encodings) said
