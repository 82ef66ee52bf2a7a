-- Nodes that are needed for sets of a subset construction have starts that lead to them.
use Rattle.std.proofs.Common.{◌≡◌, ℕ, ◌<◌, ◌≤◌, ⊎_elim, Bool, false, IsTrue, List, [], ◌∷◌, ◌++◌, length, slice_get, slice_index, Some, refl, sym, ap, subst, ◌∙◌, arith}
use Rattle.std.proofs.lemmas.Bool.{cases_eq, cases_lt}
use Rattle.ms_list.specs.declared.word.Word.{Word}
use Rattle.ms_arena.specs.Bits.{with_bit}
use Rattle.ms_arena.specs.Diagram.{Bits, IsOrdered, IsReduced, leaf_of}
use Rattle.ms_arena.specs.declared.node.Node.{Node}
use Rattle.ms_arena.specs.declared.node.Ref.{Ref}
use Rattle.ms_arena.specs.declared.node.Ref.TheVariants.{Leaf, Inner}
use Rattle.ms_arena.proofs.BitsLemmas.{below_from-first, with_bit-other, with_bit-same}
use Rattle.ms_arena.proofs.Canonicity.{same_reference}
use Rattle.ms_arena.proofs.Paths.{leaf_of-leaf}
use Rattle.ms_diagram.specs.Collect.{IsSetNumbering}
use Rattle.ms_logic.specs.declared.mode.Order.{Order}
use Rattle.ms_logic.specs.declared.mode.Order.TheVariants.{Zero, One, Two}
use Rattle.ms_logic.specs.Assignment.{Variable}
use Rattle.ms_logic.specs.Lists.{without}
use Rattle.ms_logic_measures.specs.CallMeasures.{LeadToSameSet, bound_bits, word_with}
use Rattle.ms_logic_measures.specs.Starts.{IsStartOver, Start, next_at, part_of_letter, some_truth_values, state_at, whole_word}
use Rattle.ms_logic_starts.specs.NeededApart.{IsLedTo, LeadToOneFunction}
use Rattle.ms_logic_starts.specs.inner.Ranks.{rank}
use Rattle.ms_logic_starts.proofs.RankLemmas.{length-bits_before, rank_below_all, rank_grows}
use Rattle.ms_logic_words.specs.Content.{Content, count_of, is_in_letters, is_truth_value}
use Rattle.ms_logic_words.specs.declared.sign.Sign.{Sign}
use Rattle.ms_project.specs.Subsets.{next_of}
use Rattle.ms_project.specs.Subsetting.{IsReachedNumber, Subsetting, paired, sets_at, sets_at_start}
use Rattle.ms_project_parts.specs.inner.Matched.{IsProjected}
use Rattle.ms_project_parts.proofs.Given.{rank-more}
use Rattle.ms_project_parts.proofs.Reading.{IsPutFrom, first_of_others, leads_partly_first, leads_partly_next}
use Rattle.ms_project_parts.proofs.Sets.{IsSetBy, IsWordTo, LeadsThere, left, moved, one_set, right, same_leads, word_to_reached}

-- beside first truth values stands no bit of the bound variable, and beside first bits of a letter stand those of the whole letters
no_bits : (order : Order) (values : List Bool) → 0 ≡ bound_bits order (some_truth_values values)
no_bits Zero values = refl
no_bits One values = refl
no_bits Two values = refl

bits_of_word : (order : Order) (word : Word) (values : List Bool) → bound_bits order (part_of_letter word values) ≡ bound_bits order (whole_word word)
bits_of_word Zero word values = refl
bits_of_word One word values = refl
bits_of_word Two word values = refl

module _ {Domain : Type 0} (v : Subsetting) (body : Content Sign) (domain : Content Domain) (x : Variable) (at : ℕ → ℕ) (setting : IsProjected v body domain x at) where
  abbrev others : List Variable
  others = without x.name body.variables

  abbrev all : List Variable
  all = others ++ x ∷ []

  abbrev IsSet : Start → Bits → List ℕ → Type 0
  IsSet start free set = IsSetBy v body domain x at setting start free set

  abbrev Leads : Start → Bits → Start → Bits → Type 0
  Leads one free other free' = LeadsThere v body domain x at setting one free other free'

  abbrev left_at : Start → List Bool → Bits → Bool → ℕ
  left_at start bits free bit = left v body domain x at setting start bits free bit

  abbrev right_at : Start → List Bool → Bits → Bool → ℕ
  right_at start bits free bit = right v body domain x at setting start bits free bit

  abbrev IsPutAt : (Order → Bool) → ℕ → Bits → Bits → Bits → Type 0
  IsPutAt has_bit level first free whole = IsPutFrom body.variables others x v.bound v.back setting.are has_bit level first free whole

  -- at all bits, once they are read, the reference has the number of the set to which the start leads
  abbrev pub LeadsTo : List Node → (Bits → Bits) → Start → Ref → Type 0
  LeadsTo nodes read start reference =
      (bits : Bits) → (set : List ℕ) × (slice_get v.sets (leaf_of nodes reference bits) ≡ Some set) × IsSet start (read bits) set

  module _ (numbering : IsSetNumbering v.sets) (nodes : List Node) (read : Bits → Bits) where
    same_numbers : (one two : ℕ) (set set' : List ℕ) → slice_get v.sets one ≡ Some set → slice_get v.sets two ≡ Some set' → set ≡ set' → one ≡ two
    same_numbers one two set set' first second same = numbering.numbering.no_repeats one two set first (second ∙ ap Some (sym same))

    -- starts that lead to the same sets lead to references of one function
    pub one_function : LeadToOneFunction (LeadToSameSet body domain x) (LeadsTo nodes read) nodes
    one_function one other reference reference' alike first second bits =
        let is = first bits in
        let also = second bits in
        same_numbers (leaf_of nodes reference bits) (leaf_of nodes reference' bits) is.0 also.0 is.1 also.1
        (one_set v body domain x at setting one other (read bits) (read bits) is.0 also.0 is.2 also.2
        (same_leads v body domain x at setting one other (read bits) alike)
        (same_leads v body domain x at setting other one (read bits) (alike.1, alike.0)))

    -- a word leads to each number
    pub led_number : (number : ℕ) → IsReachedNumber v number → IsLedTo (IsStartOver others) (LeadsTo nodes read) (Leaf number)
    led_number number reached =
        let to = word_to_reached v body domain x at setting number reached in (
          whole_word to.word,
          to.over,
          λ bits. (to.set, ap (slice_get v.sets) (leaf_of-leaf nodes bits number) ∙ to.held, to.sets (read bits)),
        )

    -- first bits of the others up to a level, and behind them free bits as they are read
    module _ (has_bit : Order → Bool) (level : ℕ) (first : Bits) (whole : Bits → Bits) (few : level ≤ length others) (put : (bits : Bits) → IsPutAt has_bit level first (read bits) (whole bits)) where
      abbrev first_values : List Bool
      first_values = first_of_others body.variables others x v.bound v.back setting.are has_bit level first

      long_values : length first_values ≡ rank has_bit level others
      long_values = length-bits_before has_bit level all first ∙ rank-more has_bit level others x few

      -- where these are all, nothing is free but the bit of the bound variable
      all_given : count_of has_bit others ≤ length first_values → (bits bits' : Bits) (bit : Bool) (place : ℕ) (w : Variable) → slice_get body.variables place ≡ Some w → IsTrue (has_bit w.order)
          → with_bit (whole bits) v.bound bit place ≡ with_bit (whole bits') v.bound bit place
      all_given full bits bits' bit place w held holds = ⊎_elim
          (λ is_bound.
          ap (with_bit (whole bits) v.bound bit) is_bound ∙ with_bit-same (whole bits) v.bound bit ∙ sym (with_bit-same (whole bits') v.bound bit)
          ∙ ap (with_bit (whole bits') v.bound bit) (sym is_bound))
          (λ other. ⊎_elim
          (λ below.
          with_bit-other (whole bits) v.bound bit place other
          ∙ put bits place w held other
          ∙ below_from-first level first (λ any. read bits place) (slice_index v.back place) below
          ∙ sym (below_from-first level first (λ any. read bits' place) (slice_index v.back place) below)
          ∙ sym (put bits' place w held other)
          ∙ sym (with_bit-other (whole bits') v.bound bit place other))
          (λ above.
          let less = rank_below_all has_bit (slice_index v.back place) others w (setting.are.out.stays place w held other).0 holds in
          let past = rank_grows has_bit level (slice_index v.back place) others above in
          let long = long_values in
          absurd (omega (arith, less, past, long, full)))
          (cases_lt (slice_index v.back place) level))
          (cases_eq place v.bound)

    -- a node at which the number of a set stands that a start leads to is led to by the start, unless nothing is free
    module _ (i : ℕ) (inside : i < length nodes) (ordered : IsOrdered nodes) (reduced : IsReduced nodes) where
      never_full : (start : Start) → LeadsTo nodes read start (Inner i) → ((bits bits' : Bits) → Leads start (read bits) start (read bits')) → ⊥
      never_full start leads same =
          let none : Bits = λ place. false in
          let only = leaf_of nodes (Inner i) none in
          let one_leaf : (bits : Bits) → leaf_of nodes (Inner i) bits ≡ leaf_of nodes (Leaf only) bits = λ bits.
          let is = leads bits in
          let also = leads none in
          same_numbers (leaf_of nodes (Inner i) bits) only is.0 also.0 is.1 also.1
          (one_set v body domain x at setting start start (read bits) (read none) is.0 also.0 is.2 also.2 (same bits none) (same none bits))
          ∙ sym (leaf_of-leaf nodes bits only)
          in
          let equal : Inner i ≡ Leaf only = same_reference nodes ordered reduced (Inner i) (Leaf only) inside tt one_leaf in
          let never : ⊥ = cc in never

      led_unless : (values : List Bool) (n : ℕ) (start : Start) → (length values < n → IsStartOver others start) → LeadsTo nodes read start (Inner i)
          → (n ≤ length values → (bits bits' : Bits) → Leads start (read bits) start (read bits')) → IsLedTo (IsStartOver others) (LeadsTo nodes read) (Inner i)
      led_unless values n start over leads same = ⊎_elim
          (λ less. (start, over less, leads))
          (λ full. absurd (never_full start leads (same full)))
          (cases_lt (length values) n)

      -- first truth values
      module _ (level : ℕ) (first : Bits) (whole : Bits → Bits) (few : level ≤ length others) (put : (bits : Bits) → IsPutAt is_truth_value level first (read bits) (whole bits))
          (target : (bits : Bits) → sets_at_start (paired v) v.bound v.sets (whole bits) (leaf_of nodes (Inner i) bits)) where
        abbrev truth : List Bool
        truth = first_values is_truth_value level first whole few put

        body_truth : (bits : Bits) (bit : Bool) → left_at (some_truth_values truth) [] (read bits) bit ≡ leaf_of body.nodes body.start (with_bit (whole bits) v.bound bit)
        body_truth bits bit =
            leads_partly_first body.variables others x v.bound v.back setting.are body (λ place. place) (λ place w held. held) setting.matched.body_read level first (read bits) (whole bits) bit few (put bits)

        domain_truth : (bits : Bits) (bit : Bool) → right_at (some_truth_values truth) [] (read bits) bit ≡ leaf_of domain.nodes domain.start (λ place. with_bit (whole bits) v.bound bit (at place))
        domain_truth bits bit =
            leads_partly_first body.variables others x v.bound v.back setting.are domain at setting.stands setting.matched.domain_read level first (read bits) (whole bits) bit few (put bits)

        truth_matches : (bits : Bits) (bit : Bool)
            → setting.matched.Matches (leaf_of (paired v).nodes (paired v).start (with_bit (whole bits) v.bound bit)) (left_at (some_truth_values truth) [] (read bits) bit) (right_at (some_truth_values truth) [] (read bits) bit)
        truth_matches bits bit =
            moved v body domain x at setting _ _ _ _ _ (sym (body_truth bits bit)) (sym (domain_truth bits bit)) (setting.matched.first (with_bit (whole bits) v.bound bit))

        truth_leads : LeadsTo nodes read (some_truth_values truth) (Inner i)
        truth_leads bits =
            let here = target bits in (
              here.0,
              here.1,
              record {
                rising = here.2.rising;
                each = λ list long bit. (leaf_of (paired v).nodes (paired v).start (with_bit (whole bits) v.bound bit), here.2.all _ (bit, refl), truth_matches bits bit);
                only = λ s there. (let by = here.2.only s there in (
                  [],
                  no_bits x.order truth,
                  by.0,
                  subst (λ n. setting.matched.Matches n (left_at (some_truth_values truth) [] (read bits) by.0) (right_at (some_truth_values truth) [] (read bits) by.0)) by.1 (truth_matches bits by.0),
                ));
              },
            )

        truth_full : count_of is_truth_value others ≤ length truth → (bits bits' : Bits) → Leads (some_truth_values truth) (read bits) (some_truth_values truth) (read bits')
        truth_full full bits bits' list long = (
          list,
          long,
          λ bit. (
            body_truth bits bit
                ∙ setting.matched.body_read.start (with_bit (whole bits) v.bound bit) (with_bit (whole bits') v.bound bit) (all_given is_truth_value level first whole few put full bits bits' bit)
                ∙ sym (body_truth bits' bit),
            domain_truth bits bit
                ∙ setting.matched.domain_read.start (λ place. with_bit (whole bits) v.bound bit (at place)) (λ place. with_bit (whole bits') v.bound bit (at place))
                (λ place w held holds. all_given is_truth_value level first whole few put full bits bits' bit (at place) w (setting.stands place w held) holds)
                ∙ sym (domain_truth bits' bit),
          ),
        )

        pub led_by_truth : IsLedTo (IsStartOver others) (LeadsTo nodes read) (Inner i)
        led_by_truth = led_unless truth (count_of is_truth_value others) (some_truth_values truth) (λ less. less) truth_leads truth_full

      -- first bits of one letter more
      module _ (level : ℕ) (first : Bits) (whole : Bits → Bits) (few : level ≤ length others) (put : (bits : Bits) → IsPutAt is_in_letters level first (read bits) (whole bits))
          (number : ℕ) (reached : IsReachedNumber v number) (target : (bits : Bits) → sets_at (paired v) v.bound v.sets (slice_get v.sets number) (whole bits) (leaf_of nodes (Inner i) bits)) where
        abbrev letter : List Bool
        letter = first_values is_in_letters level first whole few put

        word_to : IsWordTo v body domain x at setting number
        word_to = word_to_reached v body domain x at setting number reached

        abbrev start : Start
        start = part_of_letter word_to.word letter

        body_letter : (list : List Bool) (bits : Bits) (bit : Bool)
            → left_at start list (read bits) bit ≡ next_at body (slice_get body.states (state_at body all (word_with x.order list word_to.word))) (with_bit (whole bits) v.bound bit)
        body_letter list bits bit =
            leads_partly_next body.variables others x v.bound v.back setting.are body (λ place. place) (λ place w held. held) setting.matched.body_read (state_at body all (word_with x.order list word_to.word)) level first (read bits)
            (whole bits) bit few (put bits)

        domain_letter : (list : List Bool) (bits : Bits) (bit : Bool)
            → right_at start list (read bits) bit ≡ next_at domain (slice_get domain.states (state_at domain all (word_with x.order list word_to.word))) (λ place. with_bit (whole bits) v.bound bit (at place))
        domain_letter list bits bit =
            leads_partly_next body.variables others x v.bound v.back setting.are domain at setting.stands setting.matched.domain_read (state_at domain all (word_with x.order list word_to.word)) level first (read bits)
            (whole bits) bit few (put bits)

        letter_matches : (s : ℕ) (list : List Bool) (bits : Bits) (bit : Bool)
            → setting.matched.Matches s (state_at body all (word_with x.order list word_to.word)) (state_at domain all (word_with x.order list word_to.word))
            → setting.matched.Matches (leaf_of (paired v).nodes (next_of (paired v) s) (with_bit (whole bits) v.bound bit)) (left_at start list (read bits) bit) (right_at start list (read bits) bit)
        letter_matches s list bits bit is =
            moved v body domain x at setting _ _ _ _ _ (sym (body_letter list bits bit)) (sym (domain_letter list bits bit)) (setting.matched.next s _ _ (with_bit (whole bits) v.bound bit) is)

        letter_leads : LeadsTo nodes read start (Inner i)
        letter_leads bits =
            let here = subst (λ found. sets_at (paired v) v.bound v.sets found (whole bits) (leaf_of nodes (Inner i) bits)) word_to.held (target bits) in (
              here.0,
              here.1,
              record {
                rising = here.2.rising;
                each = λ list long bit. (let from = (word_to.sets (read bits)).each list (long ∙ bits_of_word x.order word_to.word letter) false in (
                  leaf_of (paired v).nodes (next_of (paired v) from.0) (with_bit (whole bits) v.bound bit),
                  here.2.all _ (from.0, bit, from.1, refl),
                  letter_matches from.0 list bits bit from.2,
                ));
                only = λ s there. (let by = here.2.only s there in
                    let from = (word_to.sets (read bits)).only by.0 by.2 in (
                      from.0,
                      from.1 ∙ sym (bits_of_word x.order word_to.word letter),
                      by.1,
                      subst (λ n. setting.matched.Matches n (left_at start from.0 (read bits) by.1) (right_at start from.0 (read bits) by.1)) by.3 (letter_matches by.0 from.0 bits by.1 from.3),
                    ));
              },
            )

        letter_full : count_of is_in_letters others ≤ length letter → (bits bits' : Bits) → Leads start (read bits) start (read bits')
        letter_full full bits bits' list long = (
          list,
          long,
          λ bit. (
            body_letter list bits bit
                ∙ setting.matched.body_read.next (state_at body all (word_with x.order list word_to.word)) (with_bit (whole bits) v.bound bit) (with_bit (whole bits') v.bound bit)
                (all_given is_in_letters level first whole few put full bits bits' bit)
                ∙ sym (body_letter list bits' bit),
            domain_letter list bits bit
                ∙ setting.matched.domain_read.next (state_at domain all (word_with x.order list word_to.word)) (λ place. with_bit (whole bits) v.bound bit (at place)) (λ place. with_bit (whole bits') v.bound bit (at place))
                (λ place w held holds. all_given is_in_letters level first whole few put full bits bits' bit (at place) w (setting.stands place w held) holds)
                ∙ sym (domain_letter list bits' bit),
          ),
        )

        pub led_by_letter : IsLedTo (IsStartOver others) (LeadsTo nodes read) (Inner i)
        led_by_letter = led_unless letter (count_of is_in_letters others) start (λ less. (word_to.over, less)) letter_leads letter_full
