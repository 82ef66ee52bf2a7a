-- Where the start has the label of no number and each label is handed on, the label of each word is that of the state to which it
-- leads, and so the signs of the labelled states decide the rule.
use Rattle.std.proofs.Common.{◌≡◌, ℕ, zero, suc, ◌+◌, ◌<◌, ◌≤◌, inl, inr, ⊎_elim, Bool, true, false, List, [], ◌∷◌, length, slice_get, Option, Some, refl, sym, ap, subst, ◌∙◌, arith}
use Rattle.std.specs.Option.{option_map}
use Rattle.std.proofs.lemmas.Bool.{cases_lt}
use Rattle.std.proofs.lemmas.Option.{same_Some}
use Rattle.ms_arena.specs.declared.node.Node.{Node}
use Rattle.ms_arena.specs.declared.node.Ref.{Ref}
use Rattle.ms_arena.specs.declared.node.Ref.TheVariants.{Leaf, Inner}
use Rattle.ms_arena.specs.Diagram.{Bits, leaf_of, IsBefore}
use Rattle.ms_arena.proofs.Canonicity.{end_for, IsBefore-end_for}
use Rattle.ms_arena.proofs.Lists.{slice_get-held}
use Rattle.ms_arena.proofs.Paths.{IsBefore-later, leaf_of-leaf, leaf_of-node}
use Rattle.ms_dfa.specs.Files.{MarksOutside}
use Rattle.ms_dfa.specs.declared.plain.FileSign.{FileSign}
use Rattle.ms_dfa.specs.declared.plain.FileSign.TheVariants as signs
use Rattle.ms_logic.specs.Lists.{AreRising}
use Rattle.ms_logic_words.specs.Content.{Content, HasValueAt, IsContent, NamesPart, StateOf, first_state, is_in_letters, is_truth_value, last_state, letter_bits, next_from, next_state, sign_of, state_after, truth_bits}
use Rattle.ms_dfafile_outside.specs.declared.label.Label.{Label}
use Rattle.ms_dfafile_outside.specs.declared.label.Label.TheVariants.{Lost, Seen}
use Rattle.ms_dfafile_outside.specs.inner.Numbers.{IsNumberAt, one_if, one_more, rank}
use Rattle.ms_dfafile_outside.specs.inner.Labels.{HasArrived, IsKnown, IsLabel, IsSettled, IsSettledNode, Stands, first_of, level_behind, ones_at, orders_in}
use Rattle.ms_dfafile_outside.proofs.ClashLemmas.{encodes}
use Rattle.ms_dfafile_outside.proofs.ComeLemmas.{count_with, count_with-here, count_with-other, from-start, level-in_letters, level-of_truth, stands-end, start-label, tests-own, truth-apart}
use Rattle.ms_dfafile_outside.proofs.LabelLemmas.{full-from, full-to, label-same, lost-more, one_more-cases}
use Rattle.ms_dfafile_outside.proofs.NumbersLemmas.{rank-gap}
use Rattle.ms_dfafile_outside.proofs.ContentLemmas.{leads-to_state, named-end, valid-part}
use Rattle.ms_dfafile_outside.proofs.WordsLemmas.{number-within}

-- what is lost stays so, whatever comes
stays-lost : (content : Content FileSign) (count : ℕ → ℕ) (place : ℕ) (more : Label) → IsLabel (orders_in content) count Lost → IsLabel (orders_in content) (one_more count place) more → more ≡ Lost
stays-lost content count place Lost lost is = refl
stays-lost content count place (Seen set) lost is =
    absurd (⊎_elim (λ here. omega (arith, here.1, lost.2, is.once lost.0 lost.1)) (λ apart. omega (arith, apart.1, lost.2, is.once lost.0 lost.1)) (one_more-cases count place lost.0))

-- the label that an end of a node gets
abbrev end_label : Label → Label → Bool → Label
end_label label more true = more
end_label label more false = label

is-end : (content : Content FileSign) (count : ℕ → ℕ) (var : ℕ) (label more : Label) (bit : Bool) → IsLabel (orders_in content) count label
    → IsLabel (orders_in content) (one_more count var) more → IsLabel (orders_in content) (count_with bit count var) (end_label label more bit)
is-end content count var label more true is also = also
is-end content count var label more false is also = is

-- counts, with the bits of the numbers from a level on
record Adds (content : Content FileSign) (count : ℕ → ℕ) (level : ℕ) (bits : Bits) (all : ℕ → ℕ) : Type 0 where
  before : (place : ℕ) → IsNumberAt (orders_in content) place → place < level → all place ≡ count place
  later : (place : ℕ) → IsNumberAt (orders_in content) place → level ≤ place → all place ≡ count place + one_if (bits place)

adds-more : (content : Content FileSign) (count : ℕ → ℕ) (level : ℕ) (bits : Bits) (all : ℕ → ℕ) → Adds content count level bits all
    → (place : ℕ) → IsNumberAt (orders_in content) place → count place ≤ all place
adds-more content count level bits all adds place number =
    ⊎_elim (λ below. omega (arith, adds.before place number below)) (λ above. omega (arith, adds.later place number above)) (cases_lt place level)

module _ (content : Content FileSign) (rules : IsContent content) (rising : AreRising content.variables) (known : List (Option Label))
    (settled : (reference : Ref) (label : Label) → NamesPart content reference → IsKnown content known reference label → IsSettled content known reference label) where
  -- a state has a label that these counts have
  record IsLabelled (state : ℕ) (all : ℕ → ℕ) : Type 0 where
    label : Label
    is_known : IsKnown content known (Leaf state) label
    is_label : IsLabel (orders_in content) all label

  arrived-end : (node : Node) (label : Label) (is : IsSettledNode content known node label) (bit : Bool) → HasArrived content known (end_for node bit) (end_label label is.more bit) (level_behind content node.var)
  arrived-end node label is true = is.high
  arrived-end node label is false = is.low

  end_lost : (node : Node) (count : ℕ → ℕ) (is : IsSettledNode content known node Lost) → IsLabel (orders_in content) count Lost → (bit : Bool) → IsKnown content known (end_for node bit) Lost
  end_lost node count is lost true = subst (λ (l : Label). IsKnown content known node.high l) (stays-lost content count node.var is.more lost (is.with_own count lost)) is.high.is_known
  end_lost node count is lost false = is.low.is_known

  lost-leaf : (steps : ℕ) (reference : Ref) (count : ℕ → ℕ) (bits : Bits) → IsBefore steps reference → steps ≤ length content.nodes → NamesPart content reference
      → IsLabel (orders_in content) count Lost → IsKnown content known reference Lost → IsKnown content known (Leaf (leaf_of content.nodes reference bits)) Lost
  lost-leaf steps (Leaf state) count bits before within named lost is = subst (λ s. IsKnown content known (Leaf s) Lost) (sym (leaf_of-leaf content.nodes bits state)) is
  lost-leaf zero (Inner place) count bits before within named lost is = absurd (omega arith)
  lost-leaf (suc steps) (Inner place) count bits before within named lost is =
      let held = slice_get-held content.nodes place named in
      let node = held.0 in
      let bit = bits node.var in
      let here = settled (Inner place) Lost named is node held.1 in
      subst (λ s. IsKnown content known (Leaf s) Lost) (sym (leaf_of-node content.nodes rules.ordered bits place node held.1))
      (lost-leaf steps (end_for node bit) count bits
      (IsBefore-later place steps (end_for node bit) (omega arith) (IsBefore-end_for content.nodes rules.ordered place node bit held.1)) (omega arith)
      (named-end content rules place node bit held.1) lost (end_lost node count here lost bit))

  -- counts from a node on
  adds-end : (place : ℕ) (node : Node) (count : ℕ → ℕ) (level : ℕ) (bits : Bits) (all : ℕ → ℕ) → slice_get content.nodes place ≡ Some node → Stands content (Inner place) level
      → rank (orders_in content) node.var ≤ rank (orders_in content) level → Adds content count level bits all → Adds content (count_with (bits node.var) count node.var) (level_behind content node.var) bits all
  adds-end place node count level bits all held stands gap adds = ⊎_elim
      (λ letters.
      let from : level ≤ node.var = letters.0 node held in
      let behind = level-in_letters content node.var (tests-own content (HasValueAt content.variables is_in_letters) place node held letters.1) in
      record {
        before = λ p number below. ⊎_elim
            (λ low. ⊎_elim
            (λ under. adds.before p number under ∙ sym (count_with-other (bits node.var) count node.var p (λ same. omega (arith, low, same))))
            (λ over. absurd (rank-gap (orders_in content) level node.var p gap number over low))
            (cases_lt p level))
            (λ high.
            let here : p ≡ node.var = omega (arith, high, below, behind) in
            adds.later p number (omega (arith, high, from)) ∙ ap (λ q. count q + one_if (bits q)) here
            ∙ sym (count_with-here (bits node.var) count node.var) ∙ ap (count_with (bits node.var) count node.var) (sym here))
            (cases_lt p node.var);
        later = λ p number above.
            let over : node.var < p = omega (arith, above, behind) in
            adds.later p number (omega (arith, over, from)) ∙ ap (λ n. n + one_if (bits p)) (sym (count_with-other (bits node.var) count node.var p (λ same. omega (arith, over, same))));
      })
      (λ truth.
      let has = tests-own content (HasValueAt content.variables is_truth_value) place node held truth.1 in
      let behind = level-of_truth content node.var has in
      record {
        before = λ p number below. adds.before p number (omega (arith, below, behind, truth.0)) ∙ sym (count_with-other (bits node.var) count node.var p (truth-apart content node.var p has number));
        later = λ p number above. absurd (omega (arith, above, behind, number-within content p number));
      })
      stands

  -- bits lead from a reference with a label to a state with the label that is due
  led-label : (steps : ℕ) (reference : Ref) (count : ℕ → ℕ) (label : Label) (level : ℕ) (bits : Bits) (all : ℕ → ℕ) → IsBefore steps reference → steps ≤ length content.nodes → NamesPart content reference
      → HasArrived content known reference label level → IsLabel (orders_in content) count label → Stands content reference level → Adds content count level bits all
      → IsLabelled (leaf_of content.nodes reference bits) all
  led-label steps (Leaf state) count label level bits all before within named arrived is stands adds =
      subst (λ s. IsLabelled s all) (sym (leaf_of-leaf content.nodes bits state)) (⊎_elim
      (λ lost. record {
        label = Lost;
        is_known = subst (IsKnown content known (Leaf state)) lost arrived.is_known;
        is_label = lost-more (orders_in content) count all (adds-more content count level bits all adds) (subst (IsLabel (orders_in content) count) lost is);
      })
      (λ gap. record {
        label = label;
        is_known = arrived.is_known;
        is_label = label-same (orders_in content) count all label
            (λ p number. ⊎_elim (λ below. sym (adds.before p number below))
            (λ above. absurd (rank-gap (orders_in content) level (length content.variables) p gap number above (number-within content p number))) (cases_lt p level))
            is;
      })
      arrived.no_gap)
  led-label zero (Inner place) count label level bits all before within named arrived is stands adds = absurd (omega arith)
  led-label (suc steps) (Inner place) count label level bits all before within named arrived is stands adds =
      let held = slice_get-held content.nodes place named in
      let node = held.0 in
      let bit = bits node.var in
      let here = settled (Inner place) label named arrived.is_known node held.1 in
      ⊎_elim
      (λ lost. record {
        label = Lost;
        is_known = lost-leaf (suc steps) (Inner place) count bits before within named (subst (IsLabel (orders_in content) count) lost is) (subst (IsKnown content known (Inner place)) lost arrived.is_known);
        is_label = lost-more (orders_in content) count all (adds-more content count level bits all adds) (subst (IsLabel (orders_in content) count) lost is);
      })
      (λ gap.
      let first : first_of (length content.variables) (slice_get content.nodes place) ≡ node.var = ap (first_of (length content.variables)) held.1 in
      let none : rank (orders_in content) node.var ≤ rank (orders_in content) level = subst (λ v. rank (orders_in content) v ≤ rank (orders_in content) level) first gap in
      subst (λ s. IsLabelled s all) (sym (leaf_of-node content.nodes rules.ordered bits place node held.1))
      (led-label steps (end_for node bit) (count_with bit count node.var) (end_label label here.more bit) (level_behind content node.var) bits all
      (IsBefore-later place steps (end_for node bit) (omega arith) (IsBefore-end_for content.nodes rules.ordered place node bit held.1)) (omega arith)
      (named-end content rules place node bit held.1) (arrived-end node label here bit) (is-end content count node.var label here.more bit is (here.with_own count is))
      (stands-end content rules place node bit level held.1 stands) (adds-end place node count level bits all held.1 stands none adds)))
      arrived.no_gap

  -- letters lead from a state with a label to one with the label that is due
  run-label : (letters : List (List Bool)) (state : ℕ) (count : ℕ → ℕ) (label : Label) (all : ℕ → ℕ) → state < length content.states → IsKnown content known (Leaf state) label → IsLabel (orders_in content) count label
      → ((place : ℕ) → IsNumberAt (orders_in content) place → all place ≡ count place + ones_at content.variables letters place) → IsLabelled (state_after content state letters) all
  run-label [] state count label all within is_known is sum = record {
    label = label;
    is_known = is_known;
    is_label = label-same (orders_in content) count all label (λ p number. let same = sum p number in omega (arith, same)) is;
  }
  run-label (letter ∷ letters) state count label all within is_known is sum =
      let held = slice_get-held content.states state within in
      let next = held.0.next in
      let bits = letter_bits content.variables letter in
      let mid : ℕ → ℕ = λ p. count p + one_if (bits p) in
      let named = rules.next_named state held.0 held.1 in
      let here = settled (Leaf state) label within is_known held.0 held.1 in
      let led = led-label (length content.nodes) next count label 0 bits mid (valid-part content next named) (omega arith) named here.next is
      (inl (from-start content 0 next refl, rules.next_tests state held.0 held.1)) (record { before = λ p number below. absurd (omega (arith, below)); later = λ p number above. refl }) in
      let leaf : leaf_of content.nodes next bits ≡ next_state content state letter = ap (λ found. next_from content found letter) (sym held.1) in
      let there = subst (λ s. IsLabelled s mid) leaf led in
      run-label letters (next_state content state letter) mid there.label all (subst (λ s. s < length content.states) leaf (leads-to_state content rules next named bits)) there.is_known there.is_label
      (λ p number. let same = sum p number in omega (arith, same))

  -- so where the start has the label of no number, the rule is met
  pub marks-closed : HasArrived content known content.start (Seen 0) (length content.variables) → MarksOutside content
  marks-closed start word over =
      let orders = orders_in content in
      let none : ℕ → ℕ = λ p. 0 in
      let bits = truth_bits content.variables word.truth in
      let first = led-label (length content.nodes) content.start none (Seen 0) (length content.variables) bits none (valid-part content content.start rules.start_named) (omega arith) rules.start_named start
      (start-label orders) (inr (refl, rules.start_tests)) (record { before = λ p number below. refl; later = λ p number above. absurd (omega (arith, above, number-within content p number)) }) in
      let first_within = leads-to_state content rules content.start rules.start_named bits in
      let counts = ones_at content.variables word.letters in
      let last = run-label word.letters (first_state content word.truth) none first.label counts first_within first.is_known first.is_label (λ p number. omega arith) in
      let within = last_within word.letters (first_state content word.truth) first_within in
      let held = slice_get-held content.states (last_state content word) within in
      let sign : sign_of content word ≡ Some held.0.sign = ap (option_map (λ (found : StateOf FileSign). found.sign)) held.1 in
      let here = settled (Leaf (last_state content word)) last.label within last.is_known held.0 held.1 in
      let encoding = encodes content rising word over in (
        λ is found. here.sign.0 (same_Some held.0.sign signs.Outside (sym sign ∙ is)) (full-from orders counts last.label last.is_label (encoding.0 found)),
        λ outside. sign ∙ ap (λ (s : FileSign). Some s) (here.sign.1 (λ full. outside (encoding.1 (full-to orders counts last.label last.is_label full)))),
      )
    where
      last_within : (letters : List (List Bool)) (state : ℕ) → state < length content.states → state_after content state letters < length content.states
      last_within [] state less = less
      last_within (letter ∷ letters) state less =
          let held = slice_get-held content.states state less in
          let leaf : leaf_of content.nodes held.0.next (letter_bits content.variables letter) ≡ next_state content state letter = ap (λ found. next_from content found letter) (sym held.1) in
          last_within letters (next_state content state letter)
          (subst (λ s. s < length content.states) leaf (leads-to_state content rules held.0.next (rules.next_named state held.0 held.1) (letter_bits content.variables letter)))
