-- The closed marks of the set that a word reaches are those of the states that are reached by words over all variables.
use Rattle.std.proofs.Common.{◌≡◌, ◌↔◌, ℕ, zero, suc, ◌<◌, inl, inr, ⊎_elim, Bool, IsTrue, List, [], ◌∷◌, Contains, length, slice_get, slice_index, Some, refl, sym, ap, subst, ◌∙◌, arith}
use Rattle.ms_list.specs.declared.word.Word.{Word}
use Rattle.ms_diagram.proofs.ListLemmas.{Contains-cases, Contains-first, Contains-rest, Contains-none}
use Rattle.ms_logic.specs.declared.mode.Mode.{Mode}
use Rattle.ms_logic.specs.declared.mode.Mode.TheVariants.{Ws1s, M2lStr}
use Rattle.ms_logic_words.specs.declared.sign.Sign.{Sign}
use Rattle.ms_logic_words.specs.Content.{Content, IsClosed, IsWordOver, first_state, next_state, last_state, zero_letter, with_zero_letter}
use Rattle.ms_dfa.specs.Narrow.{narrowed}
use Rattle.ms_dfa.proofs.EncodingLemmas.{zero_letter_over}
use Rattle.ms_dfa.proofs.OwnMeaningLemmas.{last_within}
use Rattle.ms_quotient.specs.declared.marks.Marks.{Marks}
use Rattle.ms_quotient.specs.Closure.{no_marks, marks_at, place_after, StandsOnWay, AreMarksFrom}
use Rattle.ms_quotient.specs.Way.{IsOn, union_along}
use Rattle.ms_quotient.proofs.WayLemmas.{IsSplit, union_along-stands, union_along-has}
use Rattle.ms_project.specs.Marks.{AreClosedMarks}
use Rattle.ms_project.specs.Subsets.{IsReachedSet}
use Rattle.ms_project.proofs.ReachLemmas.{state_after-more}
use Rattle.ms_project.proofs.ValueLemmas.{with_zeros, Allows}

on_contained : (item : ℕ) (items : List ℕ) → IsOn item items → Contains items item
on_contained item [] on = absurd on
on_contained item (first ∷ items) on = ⊎_elim (λ same. subst (Contains (first ∷ items)) (sym same) (Contains-first first items)) (λ later. Contains-rest first items item (on_contained item items later)) on

contained_on : (item : ℕ) (items : List ℕ) → Contains items item → IsOn item items
contained_on item [] there = absurd (Contains-none item there)
contained_on item (first ∷ items) there = ⊎_elim (λ same. inl same) (λ later. inr (contained_on item items later)) (Contains-cases first items item there)

pub zeros_over : (variables : _) (steps : ℕ) (word : Word) → IsWordOver variables word → IsWordOver variables (with_zeros variables steps word)
zeros_over variables zero word over = over
zeros_over variables (suc steps) word over = zeros_over variables steps (with_zero_letter variables word) (zero_letter_over variables word over)

module _ (mode : Mode) (made : Content Sign) (made_closed : IsClosed made) (product : Content Sign) (into : List ℕ) (sets : List (List ℕ))
    (names : (word : Word) → IsWordOver made.variables word → (set : List ℕ) × (slice_get sets (last_state made word) ≡ Some set) × IsReachedSet product made.variables into word set)
    (next : List ℕ) (long : length next ≡ length made.states) (zeros : (state : ℕ) → state < length made.states → slice_index next state ≡ next_state made state (zero_letter made.variables))
    (pair_marks set_marks closed : List Marks) (set_is : (number : ℕ) (set : List ℕ) → slice_get sets number ≡ Some set → marks_at set_marks number ≡ union_along pair_marks set no_marks)
    (closes : AreClosedMarks mode next set_marks closed) where
  after_zeros : (steps : ℕ) (word : Word) → IsWordOver made.variables word → place_after next steps (last_state made word) ≡ last_state made (with_zeros made.variables steps word)
  after_zeros zero word over = refl
  after_zeros (suc steps) word over =
      ap (place_after next steps) (zeros (last_state made word) (last_within made made_closed word)
      ∙ sym (state_after-more made (first_state made word.truth) word.letters (zero_letter made.variables)))
      ∙ after_zeros steps (with_zero_letter made.variables word) (zero_letter_over made.variables word over)

  module _ (mark : Marks → Bool) (splits : IsSplit mark next set_marks) (none : IsTrue (mark no_marks) ↔ ⊥)
      (part : (place : ℕ) (met : Marks) → AreMarksFrom next set_marks place met → IsTrue (mark met) ↔ StandsOnWay mark next set_marks place) where
    -- a state with the mark is reached by a word over all variables that is this one over the rest
    abbrev pub StandsAt : Word → Type 0
    StandsAt word = (wide_word : Word) × IsWordOver product.variables wide_word × (narrowed into made.variables product.variables wide_word ≡ word) × IsTrue (mark (marks_at pair_marks (last_state product wide_word)))

    at_word : (word : Word) → IsWordOver made.variables word → IsTrue (mark (marks_at set_marks (last_state made word))) ↔ StandsAt word
    at_word word over =
        let named = names word over in
        let is = set_is (last_state made word) named.0 named.1 in (
          λ has.
              let at = union_along-stands mark next pair_marks splits none named.0 (subst (λ met. IsTrue (mark met)) is has) in
              let reached = named.2.only at.0 (on_contained at.0 named.0 at.1) in
              (reached.0, reached.1, reached.2, subst (λ state. IsTrue (mark (marks_at pair_marks state))) (sym reached.3) at.2),
          λ stands.
              subst (λ met. IsTrue (mark met)) (sym is)
              (union_along-has mark next pair_marks splits (last_state product stands.0) named.0
              (contained_on (last_state product stands.0) named.0 (named.2.all (last_state product stands.0) (stands.0, stands.1, stands.2, refl))) stands.3),
        )

    abbrev pub StandsWithin : Mode → Word → Type 0
    StandsWithin m word = (steps : ℕ) × Allows m steps × StandsAt (with_zeros made.variables steps word)

    by_mode : (m : Mode) → AreClosedMarks m next set_marks closed → (word : Word) → IsWordOver made.variables word → IsTrue (mark (marks_at closed (last_state made word))) ↔ StandsWithin m word
    by_mode Ws1s closure word over =
        let within = last_within made made_closed word in
        let from = part (last_state made word) (marks_at closed (last_state made word)) (closure.all (last_state made word) (omega (arith, within, long))) in (
          λ has.
              let on_way = from.0 has in
              let at : IsTrue (mark (marks_at set_marks (last_state made (with_zeros made.variables on_way.0 word)))) = subst (λ place. IsTrue (mark (marks_at set_marks place))) (after_zeros on_way.0 word over) on_way.1 in
              (on_way.0, tt, (at_word (with_zeros made.variables on_way.0 word) (zeros_over made.variables on_way.0 word over)).0 at),
          λ stands. from.1 (
            stands.0,
            subst (λ place. IsTrue (mark (marks_at set_marks place))) (sym (after_zeros stands.0 word over)) ((at_word (with_zeros made.variables stands.0 word) (zeros_over made.variables stands.0 word over)).1 stands.2),
          ),
        )
    by_mode M2lStr same word over = (
      λ has. (0, refl, (at_word word over).0 (subst (λ (list : List Marks). IsTrue (mark (marks_at list (last_state made word)))) same has)),
      λ stands.
          subst (λ (list : List Marks). IsTrue (mark (marks_at list (last_state made word)))) (sym same)
          ((at_word word over).1 (subst (λ steps. StandsAt (with_zeros made.variables steps word)) stands.1 stands.2)),
    )

    pub mark_stands : (word : Word) → IsWordOver made.variables word → IsTrue (mark (marks_at closed (last_state made word))) ↔ StandsWithin mode word
    mark_stands = by_mode mode closes
