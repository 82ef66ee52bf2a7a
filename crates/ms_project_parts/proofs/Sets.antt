-- The sets of a subset construction, by the starts that lead to them.
use Rattle.std.proofs.Common.{◌≡◌, ℕ, Bool, false, List, [], ◌∷◌, ◌++◌, Contains, length, slice_get, Some, refl, sym, subst, ◌∙◌}
use Rattle.std.specs.List.Sorted.{IsStrictlyIncreasing}
use Rattle.ms_list.specs.declared.word.Word.{Word}
use Rattle.ms_arena.specs.Bits.{with_bit}
use Rattle.ms_arena.specs.Diagram.{Bits, leaf_of}
use Rattle.ms_diagram.proofs.ListLemmas.{same_rising}
use Rattle.ms_logic.specs.Assignment.{Variable}
use Rattle.ms_logic.specs.Lists.{without}
use Rattle.ms_logic_measures.specs.CallMeasures.{LeadToSameSet, bound_bits, start_with, word_with}
use Rattle.ms_logic_measures.specs.Starts.{Start, left_by, next_at, state_at, whole_word}
use Rattle.ms_logic_starts.proofs.RankLemmas.{length-bits_before, rank_of_all}
use Rattle.ms_logic_words.specs.Content.{Content, IsWordOver, is_in_letters, is_truth_value}
use Rattle.ms_logic_words.specs.declared.sign.Sign.{Sign}
use Rattle.ms_diagram.specs.Bring.{read_through}
use Rattle.ms_minim.proofs.LettersLemmas.{AreLetters-append}
use Rattle.ms_project.specs.Subsets.{next_of}
use Rattle.ms_project.specs.Subsetting.{IsReachedNumber, Subsetting, from_set, from_start, paired, sets_at, sets_at_start}
use Rattle.ms_project.proofs.ReachLemmas.{with_letter}
use Rattle.ms_project_parts.specs.inner.Matched.{IsProjected}
use Rattle.ms_project_parts.proofs.Given.{bit_of}
use Rattle.ms_project_parts.proofs.Reading.{leads_first, leads_more, of_others}
use Rattle.ms_project_parts.proofs.Words.{are_first, are_more, length-first, length-more_bits, more_bits, no_letters}

module _ {Domain : Type 0} (v : Subsetting) (body : Content Sign) (domain : Content Domain) (x : Variable) (at : ℕ → ℕ) (setting : IsProjected v body domain x at) where
  abbrev pub others : List Variable
  others = without x.name body.variables

  abbrev pub all : List Variable
  all = others ++ x ∷ []

  -- where a start leads both contents, with bits of the bound variable and free ones behind, among which one of the bound variable
  abbrev pub left : Start → List Bool → Bits → Bool → ℕ
  left start bits free bit = left_by body all (start_with x.order bits start) (with_bit free v.bound bit)

  abbrev pub right : Start → List Bool → Bits → Bool → ℕ
  right start bits free bit = left_by domain all (start_with x.order bits start) (λ place. with_bit free v.bound bit (at place))

  -- the set has a state that matches the pair for each of these bits, and no others
  pub record IsSetBy (start : Start) (free : Bits) (set : List ℕ) : Type 0 where
    pub rising : IsStrictlyIncreasing set
    pub each : (bits : List Bool) → length bits ≡ bound_bits x.order start → (bit : Bool) → (s : ℕ) × Contains set s × setting.matched.Matches s (left start bits free bit) (right start bits free bit)
    pub only : (s : ℕ) → Contains set s → (bits : List Bool) × (length bits ≡ bound_bits x.order start) × (bit : Bool) × setting.matched.Matches s (left start bits free bit) (right start bits free bit)

  pub moved : (s p p' q q' : ℕ) → p ≡ p' → q ≡ q' → setting.matched.Matches s p q → setting.matched.Matches s p' q'
  moved s p p' q q' same_left same_right is = subst (λ n. setting.matched.Matches s p' n) same_right (subst (λ n. setting.matched.Matches s n q) same_left is)

  -- each pair to which one start leads is one to which the other leads
  abbrev pub LeadsThere : Start → Bits → Start → Bits → Type 0
  LeadsThere one free other free' =
      (bits : List Bool) → length bits ≡ bound_bits x.order one
      → (other_bits : List Bool) × (length other_bits ≡ bound_bits x.order other)
      × ((bit : Bool) → (left one bits free bit ≡ left other other_bits free' bit) × (right one bits free bit ≡ right other other_bits free' bit))

  within : (one other : Start) (free free' : Bits) (set set' : List ℕ) → IsSetBy one free set → IsSetBy other free' set' → LeadsThere one free other free' → (s : ℕ) → Contains set s → Contains set' s
  within one other free free' set set' is also leads s inside =
      let by = is.only s inside in
      let to = leads by.0 by.1 in
      let same = to.2 by.2 in
      let found = also.each to.0 to.1 by.2 in
      subst (Contains set') (setting.matched.single found.0 s _ _ found.2 (moved s _ _ _ _ same.0 same.1 by.3)) found.1

  -- so the sets are the same
  pub one_set : (one other : Start) (free free' : Bits) (set set' : List ℕ) → IsSetBy one free set → IsSetBy other free' set' → LeadsThere one free other free' → LeadsThere other free' one free → set ≡ set'
  one_set one other free free' set set' is also leads back_again =
      same_rising set set' is.rising also.rising (within one other free free' set set' is also leads) (within other one free' free set' set also is back_again)

  pub same_leads : (one other : Start) (free : Bits) → LeadToSameSet body domain x one other → LeadsThere one free other free
  same_leads one other free alike bits long =
      let to = alike.0 bits long in
      (to.0, to.1, λ bit. (to.2.0 (with_bit free v.bound bit), to.2.1 (λ place. with_bit free v.bound bit (at place))))

  -- a word that leads to the set of a number
  pub record IsWordTo (number : ℕ) : Type 0 where
    pub word : Word
    pub over : IsWordOver others word
    pub set : List ℕ
    pub held : slice_get v.sets number ≡ Some set
    pub sets : (free : Bits) → IsSetBy (whole_word word) free set

  abbrev truth_of : Bits → List Bool
  truth_of whole = of_others body.variables others x v.bound v.back setting.are is_truth_value whole

  abbrev letter_of : Bits → List Bool
  letter_of whole = of_others body.variables others x v.bound v.back setting.are is_in_letters whole

  abbrev own_stands : (place : ℕ) (w : Variable) → slice_get body.variables place ≡ Some w → slice_get body.variables place ≡ Some w
  own_stands place w held = held

  body_first : (whole : Bits) (bit : Bool)
      → state_at body all (word_with x.order (bit_of is_truth_value x.order bit) (no_letters (truth_of whole))) ≡ leaf_of body.nodes body.start (with_bit whole v.bound bit)
  body_first whole bit = leads_first body.variables others x v.bound v.back setting.are body (λ place. place) own_stands setting.matched.body_read whole bit

  domain_first : (whole : Bits) (bit : Bool)
      → state_at domain all (word_with x.order (bit_of is_truth_value x.order bit) (no_letters (truth_of whole))) ≡ leaf_of domain.nodes domain.start (λ place. with_bit whole v.bound bit (at place))
  domain_first whole bit = leads_first body.variables others x v.bound v.back setting.are domain at setting.stands setting.matched.domain_read whole bit

  body_more : (word : Word) (bits : List Bool) (whole : Bits) (bit : Bool) → length bits ≡ bound_bits x.order (whole_word word)
      → state_at body all (word_with x.order (more_bits x.order bits bit) (with_letter word (letter_of whole)))
      ≡ next_at body (slice_get body.states (state_at body all (word_with x.order bits word))) (with_bit whole v.bound bit)
  body_more word bits whole bit long = leads_more body.variables others x v.bound v.back setting.are body (λ place. place) own_stands setting.matched.body_read word bits whole bit long

  domain_more : (word : Word) (bits : List Bool) (whole : Bits) (bit : Bool) → length bits ≡ bound_bits x.order (whole_word word)
      → state_at domain all (word_with x.order (more_bits x.order bits bit) (with_letter word (letter_of whole)))
      ≡ next_at domain (slice_get domain.states (state_at domain all (word_with x.order bits word))) (λ place. with_bit whole v.bound bit (at place))
  domain_more word bits whole bit long = leads_more body.variables others x v.bound v.back setting.are domain at setting.stands setting.matched.domain_read word bits whole bit long

  -- bits from the start
  first_word : (whole : Bits) (number : ℕ) → sets_at_start (paired v) v.bound v.sets whole number → IsWordTo number
  first_word whole number right_there = record {
    word = no_letters (truth_of whole);
    over = record { truth = length-bits_before is_truth_value (length others) others (read_through setting.are.into whole) ∙ rank_of_all is_truth_value others; letters = tt };
    set = right_there.0;
    held = right_there.1;
    sets = λ free. record {
      rising = right_there.2.rising;
      each = λ bits long bit.
          let are = are_first x.order (truth_of whole) bits long in
          let s = leaf_of (paired v).nodes (paired v).start (with_bit whole v.bound are.bit) in (
            s,
            right_there.2.all s (are.bit, refl),
            subst (λ list. setting.matched.Matches s (left (whole_word (no_letters (truth_of whole))) list free bit) (right (whole_word (no_letters (truth_of whole))) list free bit)) (sym are.are)
                (moved s _ _ _ _ (sym (body_first whole are.bit)) (sym (domain_first whole are.bit)) (setting.matched.first (with_bit whole v.bound are.bit))),
          );
      only = λ s inside.
          let by = right_there.2.only s inside in (
            bit_of is_truth_value x.order by.0,
            length-first x.order (truth_of whole) by.0,
            false,
            moved s _ _ _ _ (sym (body_first whole by.0)) (sym (domain_first whole by.0))
                (subst (λ n. setting.matched.Matches n (leaf_of body.nodes body.start (with_bit whole v.bound by.0)) (leaf_of domain.nodes domain.start (λ place. with_bit whole v.bound by.0 (at place)))) by.1
                (setting.matched.first (with_bit whole v.bound by.0))),
          );
    };
  }

  -- and from a set to which a word leads
  module _ (before : ℕ) (word_to : IsWordTo before) (whole : Bits) where
    abbrev longer : Word
    longer = with_letter word_to.word (letter_of whole)

    next_matches : (s : ℕ) (bits : List Bool) (bit : Bool) → length bits ≡ bound_bits x.order (whole_word word_to.word)
        → setting.matched.Matches s (state_at body all (word_with x.order bits word_to.word)) (state_at domain all (word_with x.order bits word_to.word))
        → setting.matched.Matches (leaf_of (paired v).nodes (next_of (paired v) s) (with_bit whole v.bound bit)) (state_at body all (word_with x.order (more_bits x.order bits bit) longer))
        (state_at domain all (word_with x.order (more_bits x.order bits bit) longer))
    next_matches s bits bit long is =
        moved _ _ _ _ _ (sym (body_more word_to.word bits whole bit long)) (sym (domain_more word_to.word bits whole bit long))
        (setting.matched.next s _ _ (with_bit whole v.bound bit) is)

    longer_word : (number : ℕ) → sets_at (paired v) v.bound v.sets (Some word_to.set) whole number → IsWordTo number
    longer_word number right_there = record {
      word = longer;
      over = record {
        truth = word_to.over.truth;
        letters = AreLetters-append others word_to.word.letters (letter_of whole ∷ []) word_to.over.letters
            (length-bits_before is_in_letters (length others) others (read_through setting.are.into whole) ∙ rank_of_all is_in_letters others, tt);
      };
      set = right_there.0;
      held = right_there.1;
      sets = λ free. record {
        rising = right_there.2.rising;
        each = λ bits long bit.
            let are = are_more x.order word_to.word (letter_of whole) bits long in
            let from = (word_to.sets free).each are.init are.long false in
            let s = leaf_of (paired v).nodes (next_of (paired v) from.0) (with_bit whole v.bound are.bit) in (
              s,
              right_there.2.all s (from.0, are.bit, from.1, refl),
              subst (λ list. setting.matched.Matches s (left (whole_word longer) list free bit) (right (whole_word longer) list free bit)) (sym are.are)
                  (next_matches from.0 are.init are.bit are.long from.2),
            );
        only = λ s inside.
            let by = right_there.2.only s inside in
            let from = (word_to.sets free).only by.0 by.2 in (
              more_bits x.order from.0 by.1,
              length-more_bits x.order word_to.word (letter_of whole) from.0 by.1 from.1,
              false,
              subst (λ n. setting.matched.Matches n (state_at body all (word_with x.order (more_bits x.order from.0 by.1) longer)) (state_at domain all (word_with x.order (more_bits x.order from.0 by.1) longer))) by.3
                  (next_matches by.0 from.0 by.1 from.1 from.3),
            );
      };
    }

  -- so to each number that is reached
  pub word_to_reached : (number : ℕ) → IsReachedNumber v number → IsWordTo number
  word_to_reached _ (from_start bits number right_there) = first_word bits number right_there
  word_to_reached _ (from_set before bits number was right_there) =
      let word_to = word_to_reached before was in
      longer_word before word_to bits number (subst (λ found. sets_at (paired v) v.bound v.sets found bits number) word_to.held right_there)
