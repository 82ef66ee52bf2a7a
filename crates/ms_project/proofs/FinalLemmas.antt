-- The automaton of all sets, with the signs that their marks make, has the values of the quantified body.
use Rattle.std.proofs.Common.{◌≡◌, ◌↔◌, ℕ, zero, suc, ◌<◌, ⊎_elim, Bool, true, false, IsTrue, if◌then◌else◌, List, [], ◌∷◌, length, get_or, replicate, slice_get, slice_index, Some, refl, sym, ap, subst, ◌∙◌, arith}
use Rattle.std.specs.Prelude.{map as map_list}
use Rattle.std.specs.Option.{option_map}
use Rattle.std.proofs.lemmas.Bool.{cases_lt, false≢true}
use Rattle.std.proofs.lemmas.List.{length-map, length-replicate, get_or-replicate, get_or_past}
use Rattle.std.proofs.lemmas.Option.{same_Some, slice_get-map, slice_get_within, get_or_from_slice_get}
use Rattle.ms_list.specs.declared.word.Word.{Word}
use Rattle.ms_arena.specs.declared.node.Ref.{Ref}
use Rattle.ms_arena.specs.Diagram.{leaf_of}
use Rattle.ms_arena.proofs.BitsLemmas.{same_bits}
use Rattle.ms_arena.proofs.Lists.{slice_get-held}
use Rattle.ms_diagram.specs.Store.{Contents, IsStore, bits_of}
use Rattle.ms_dfa.specs.Automaton.{IsAutomaton, states_of}
use Rattle.ms_dfa.specs.declared.state.State.{State}
use Rattle.ms_dfa.proofs.States.{state_in}
use Rattle.ms_logic.specs.declared.mode.Mode.{Mode}
use Rattle.ms_logic.specs.declared.mode.Order.{Order}
use Rattle.ms_logic.specs.declared.mode.Quant.{Quant}
use Rattle.ms_logic.specs.declared.mode.Quant.TheVariants.{Ex, All}
use Rattle.ms_logic_words.specs.declared.sign.Sign.{Sign}
use Rattle.ms_logic_words.specs.declared.sign.Sign.TheVariants.{Yes}
use Rattle.ms_logic.specs.Assignment.{Variable}
use Rattle.ms_logic_words.specs.Content.{Content, StateOf, IsClosed, IsWordOver, padded, head_bit, tail_bits, count_of, is_in_letters, letter_bits, last_state, next_from, next_state, sign_of, zero_letter}
use Rattle.ms_logic.specs.Lists.{IsAmong}
use Rattle.ms_dfa.specs.Narrow.{narrowed}
use Rattle.ms_dfa.specs.Values.{HasValues, IsMeaning, own_meaning}
use Rattle.ms_dfa.proofs.MachineLemmas.{related_at_end}
use Rattle.ms_dfa.proofs.ValuesLemmas.{IsMeaning-by, IsAutomaton-by_values}
use Rattle.ms_dfa_explore.specs.Explored.{Leads, Follows}
use Rattle.ms_dfa_explore.specs.Tracks.{places_among}
use Rattle.ms_dfa_explore.proofs.AmongLemmas.{leads_to}
use Rattle.ms_dfa_explore.proofs.RunLemmas.{length-states_of, IsClosed-explored, IsSimulation-explored}
use Rattle.ms_product.specs.declared.op.Op.TheVariants.{And}
use Rattle.ms_product.specs.Pairing.{product_findings, pair_sign}
use Rattle.ms_product.specs.Widened.{sign_in}
use Rattle.ms_product.proofs.ProductLemmas.{end_of-side_by_side, side_by_side, IsOver-product, AreNames-product}
use Rattle.ms_quotient.specs.declared.marks.Marks.{Marks}
use Rattle.ms_quotient.specs.Closure.{no_marks, marks_at, StandsOnWay, AreMarksFrom}
use Rattle.ms_quotient.specs.Way.{union_along}
use Rattle.ms_quotient.proofs.WayLemmas.{IsSplit}
use Rattle.ms_project.specs.Marks.{marks_of, sign_by, can_be_empty, AreClosedMarks}
use Rattle.ms_product.specs.Pairing.{IsPairedIn}
use Rattle.ms_project.specs.Paired.{IsDomainFor, operands_for, marks_of_pair, places_left}
use Rattle.ms_project.specs.Quantified.{QuantifiedYes, QuantifiedNo, quantified}
use Rattle.ms_project.specs.Signed.{AreSigned, zero_step}
use Rattle.ms_project.specs.Subsets.{IsLeftOut, IsReachedSet}
use Rattle.ms_project.specs.Subsetting.{Subsetting, paired, subset_findings, IsReadyForSets, AreSetsFound}
use Rattle.ms_project.proofs.LeaveLemmas.{rest, bound, own_there, IsLeftOut-rest, without-rising, without-names}
use Rattle.ms_project.proofs.MarkLemmas.{mark_stands}
use Rattle.ms_project.proofs.QuantifiedLemmas.{StandsFor, HasValues-quantified}
use Rattle.ms_project.proofs.SetRunLemmas.{signed, IsOver-sets, made, names_at_end}
use Rattle.ms_project.proofs.ValueLemmas.{narrowed-own}

-- zeros are padded to zeros
padded-zeros : (has_value : Order → Bool) (vs : List Variable) (values : List Bool) → ((k : ℕ) → get_or values k false ≡ false) → (var : ℕ) → get_or (padded has_value vs values) var false ≡ false
padded-zeros has_value [] values zeros var = refl
padded-zeros has_value (v ∷ vs) values zeros var = by_test (has_value v.order) (padded-zeros has_value vs) var
  where
    head_zero : (list : List Bool) → ((k : ℕ) → get_or list k false ≡ false) → head_bit list ≡ false
    head_zero [] all = refl
    head_zero (bit ∷ list) all = all 0

    tail_zero : (list : List Bool) → ((k : ℕ) → get_or list k false ≡ false) → (k : ℕ) → get_or (tail_bits list) k false ≡ false
    tail_zero [] all k = refl
    tail_zero (bit ∷ list) all k = all (suc k)

    by_test : (test : Bool) → ((list : List Bool) → ((k : ℕ) → get_or list k false ≡ false) → (at : ℕ) → get_or (padded has_value vs list) at false ≡ false) → (at : ℕ)
        → get_or (if test then head_bit values ∷ padded has_value vs (tail_bits values) else false ∷ padded has_value vs values) at false ≡ false
    by_test true more zero = head_zero values zeros
    by_test true more (suc at) = more (tail_bits values) (tail_zero values zeros) at
    by_test false more zero = refl
    by_test false more (suc at) = more values zeros at

zeros_at : (count var : ℕ) → get_or (replicate count false) var false ≡ false
zeros_at count var = ⊎_elim (λ less. get_or-replicate count var false false less) (λ past. get_or_past (replicate count false) var false (let long = length-replicate count false in omega (arith, past, long))) (cases_lt var count)

-- the bits of a zero letter are those of zeros for all variables
zero_bits : (vs : List Variable) (count : ℕ) → bits_of (replicate count false) ≡ letter_bits vs (zero_letter vs)
zero_bits vs count = same_bits (λ var. zeros_at count var ∙ sym (padded-zeros is_in_letters vs (zero_letter vs) (zeros_at (count_of is_in_letters vs)) var))

-- the quantified body has one right sign at most
IsMeaning-quantified : (q : Quant) (own : Variable) (body domain : Content Sign) (mode : Mode) (variables : List Variable) → IsMeaning mode variables (quantified q own (λ e. own_meaning domain e Yes) (own_meaning body))
IsMeaning-quantified Ex own body domain mode variables =
    IsMeaning-by mode variables (QuantifiedYes Ex own (λ e. own_meaning domain e Yes) (own_meaning body)) (QuantifiedNo Ex own (λ e. own_meaning domain e Yes) (own_meaning body)) (λ e assigned yes_is no_is. no_is.0 yes_is.0 yes_is.1 yes_is.2)
IsMeaning-quantified All own body domain mode variables =
    IsMeaning-by mode variables (QuantifiedYes All own (λ e. own_meaning domain e Yes) (own_meaning body)) (QuantifiedNo All own (λ e. own_meaning domain e Yes) (own_meaning body)) (λ e assigned yes_is no_is. yes_is.0 no_is.0 no_is.1 no_is.2)

module _ (body domain : Content Sign) (body_is : IsAutomaton body) (domain_is : IsAutomaton domain) (is_domain : IsDomainFor body domain) (own : Variable) (own_among : IsAmong body.variables own)
    (inner : Contents) (product_start : Ref) (product_states : List State) (sets : List (List ℕ)) (pairs : List (ℕ × ℕ))
    (is_paired : IsPairedIn inner.nodes And (operands_for body domain) pairs product_start product_states) where
  -- the construction
  abbrev pub construction : Subsetting
  construction = record {
    body = body;
    inner = inner;
    start = product_start;
    states = product_states;
    bound = bound body.variables body_is.rising own own_among;
    back = places_left own.name 0 body.variables;
    sets = sets;
  }

  abbrev pub others : List Variable
  others = rest body.variables body_is.rising own own_among

  abbrev pub into : List ℕ
  into = places_among others body.variables

  abbrev pub pair_marks : List Marks
  pair_marks = map_list (marks_of_pair body domain) pairs

  body_leads : (place : ℕ) (v : Variable) → slice_get body.variables place ≡ Some v → slice_get body.variables (slice_index (places_among body.variables body.variables) place) ≡ Some v
  body_leads = leads_to body.variables body.variables body_is.rising body_is.rising (λ v among. among)

  domain_leads : (place : ℕ) (v : Variable) → slice_get domain.variables place ≡ Some v → slice_get body.variables (slice_index (places_among domain.variables body.variables) place) ≡ Some v
  domain_leads = leads_to domain.variables body.variables domain_is.rising body_is.rising is_domain.among

  module _ (ready : IsReadyForSets construction) (inner_store : IsStore inner.nodes inner.limit) where
    -- the product ends in the pair of the states in which both end
    pair_at_end : (word : Word) → IsWordOver body.variables word
        → slice_get pairs (last_state (paired construction) word)
        ≡ Some (last_state body word, last_state domain (narrowed (places_among domain.variables body.variables) domain.variables body.variables word))
    pair_at_end word over =
        let operands = operands_for body domain in
        let over_product = IsOver-product And operands body.variables body_is.ordered body_is.closed body_leads domain_is.ordered domain_is.closed domain_leads pairs is_paired.numbering is_paired.are in
        let names = AreNames-product And operands body.variables body_is.ordered body_is.closed body_leads domain_is.ordered domain_is.closed domain_leads pairs is_paired.numbering is_paired.are in
        let simulation = IsSimulation-explored inner.nodes body.mode body.variables product_start product_states (product_findings And operands pairs) inner_store.ordered inner_store.reduced over_product
        is_paired.starts is_paired.all is_paired.follows (side_by_side operands body.variables) (pair_sign And operands) (λ number pair. slice_get pairs number ≡ Some pair) names in
        let at_end = related_at_end (paired construction) (side_by_side operands body.variables) (λ number pair. (number < length pairs) × (slice_get pairs number ≡ Some pair)) simulation word over in
        at_end.1 ∙ ap Some (end_of-side_by_side operands body.variables word
        ∙ ap (λ (w : Word). (last_state body w, last_state domain (narrowed (places_among domain.variables body.variables) domain.variables body.variables word))) (narrowed-own body.variables body_is.rising word over))

    marks_at_end : (word : Word) → IsWordOver body.variables word → marks_at pair_marks (last_state (paired construction) word)
        ≡ marks_of (sign_in body (last_state body word)) (sign_in domain (last_state domain (narrowed (places_among domain.variables body.variables) domain.variables body.variables word)))
    marks_at_end word over =
        get_or_from_slice_get pair_marks (last_state (paired construction) word) _ no_marks
        (slice_get-map (marks_of_pair body domain) pairs (last_state (paired construction) word) ∙ ap (option_map (marks_of_pair body domain)) (pair_at_end word over))

    module _ (q : Quant) (outer : Contents) (start : Ref) (states : List State) (found : AreSetsFound construction outer start states) (set_marks closed : List Marks)
        (set_marks_are : set_marks ≡ map_list (λ set. union_along pair_marks set no_marks) sets) (next : List ℕ) (next_are : next ≡ map_list (zero_step outer.nodes (length others)) states)
        (closes : AreClosedMarks body.mode next set_marks closed) (signed_states : List State) (signs : AreSigned q (can_be_empty body.mode others) closed states signed_states) where
      abbrev pub sign : ℕ → Sign
      sign number = sign_by q (can_be_empty body.mode others) (marks_at closed number)

      pub left_out : IsLeftOut body.variables others (bound body.variables body_is.rising own own_among) into (places_left own.name 0 body.variables)
      left_out = IsLeftOut-rest body.variables body_is.rising own own_among

      pub all_signed : length signed_states ≡ length sets
      all_signed = signs.long ∙ found.all

      signed_at : (number : ℕ) → number < length sets → (state : State) × (slice_get states number ≡ Some state) × (slice_get signed_states number ≡ Some (record { sign = sign number; next = state.next }))
      signed_at number within =
          let held = slice_get-held states number (let all = found.all in omega (arith, within, all)) in (held.0, held.1, signs.each number held.0 held.1)

      pub follows_signed : Follows outer.nodes (signed construction ready inner_store.ordered found.numbering others into left_out sign) signed_states
      follows_signed number state held =
          let at = signed_at number (let within = slice_get_within signed_states number state held in omega (arith, within, all_signed)) in
          let same = same_Some (record { sign = sign number; next = at.0.next }) state (sym at.2 ∙ held) in (
            subst (λ (s : State). Leads outer.nodes ((subset_findings construction).steps number) s.next) same (found.follows number at.0 at.1).0,
            ap (λ (s : State). s.sign) (sym same),
          )

      -- the automaton
      abbrev pub projected : Content Sign
      projected = made construction ready inner_store.ordered found.numbering others into left_out sign outer.nodes start signed_states found.starts all_signed follows_signed

      closed_projected : IsClosed projected
      closed_projected = IsClosed-explored outer.nodes body.mode others start signed_states (signed construction ready inner_store.ordered found.numbering others into left_out sign) found.store.ordered found.store.reduced
          (IsOver-sets construction ready inner_store.ordered found.numbering others into left_out sign) found.starts all_signed follows_signed

      names : (word : Word) → IsWordOver others word → (set : List ℕ) × (slice_get sets (last_state projected word) ≡ Some set) × IsReachedSet (paired construction) others into word set
      names = names_at_end construction ready inner_store.ordered found.numbering others into left_out sign outer.nodes start signed_states found.starts all_signed follows_signed

      -- the sign of a word is that of the number in which it ends
      sign_at_end : (word : Word) → IsWordOver others word → sign_of projected word ≡ Some (sign (last_state projected word))
      sign_at_end word over =
          let named = names word over in
          let at = signed_at (last_state projected word) (slice_get_within sets (last_state projected word) named.0 named.1) in
          ap (option_map (λ (s : StateOf Sign). s.sign)) (state_in signed_states (last_state projected word) (record { sign = sign (last_state projected word); next = at.0.next }) at.2)

      -- the next set at zeros
      next_long : length next ≡ length projected.states
      next_long = ap length next_are ∙ length-map states (zero_step outer.nodes (length others)) ∙ sym signs.long ∙ sym (length-states_of signed_states)

      next_zero : (state : ℕ) → state < length projected.states → slice_index next state ≡ next_state projected state (zero_letter others)
      next_zero state within =
          let counted = length-states_of signed_states in
          let at = signed_at state (omega (arith, within, counted, all_signed)) in
          let stepped : slice_index next state ≡ zero_step outer.nodes (length others) at.0 =
          ap (λ (list : List ℕ). get_or list state 0) next_are
          ∙ get_or_from_slice_get (map_list (zero_step outer.nodes (length others)) states) state (zero_step outer.nodes (length others) at.0) 0
          (slice_get-map (zero_step outer.nodes (length others)) states state ∙ ap (option_map (zero_step outer.nodes (length others))) at.1) in
          stepped
          ∙ ap (leaf_of outer.nodes at.0.next) (zero_bits others (length others))
          ∙ sym (ap (λ found_state. next_from projected found_state (zero_letter others)) (state_in signed_states state (record { sign = sign state; next = at.0.next }) at.2))

      set_marks_at : (number : ℕ) (set : List ℕ) → slice_get sets number ≡ Some set → marks_at set_marks number ≡ union_along pair_marks set no_marks
      set_marks_at number set held =
          ap (λ (list : List Marks). marks_at list number) set_marks_are
          ∙ get_or_from_slice_get (map_list (λ (s : List ℕ). union_along pair_marks s no_marks) sets) number (union_along pair_marks set no_marks) no_marks
          (slice_get-map (λ (s : List ℕ). union_along pair_marks s no_marks) sets number ∙ ap (option_map (λ (s : List ℕ). union_along pair_marks s no_marks)) held)

      module _ (mark : Marks → Bool) (splits : IsSplit mark next set_marks) (none : IsTrue (mark no_marks) ↔ ⊥)
          (part : (place : ℕ) (met : Marks) → AreMarksFrom next set_marks place met → IsTrue (mark met) ↔ StandsOnWay mark next set_marks place) where
        stands_for : (word : Word) → IsWordOver others word
            → IsTrue (mark (marks_at closed (last_state projected word)))
            ↔ StandsFor body domain body_is domain_is is_domain.mode is_domain.among others (without-rising own.name body.variables body_is.rising) (bound body.variables body_is.rising own own_among) into
            (places_left own.name 0 body.variables) left_out own (own_there body.variables body_is.rising own own_among) (without-names own.name body.variables) mark word
        stands_for word over =
            let is = mark_stands body.mode projected closed_projected (paired construction) into sets names next next_long next_zero pair_marks set_marks closed set_marks_at closes mark splits none part word over in (
              λ has.
                  let stands = is.0 has in
                  let there = stands.2 in
                  (stands.0, stands.1, (there.0, there.1, there.2, subst (λ met. IsTrue (mark met)) (marks_at_end there.0 there.1) there.3)),
              λ stands.
                  let there = stands.2 in
                  is.1 (stands.0, stands.1, (there.0, there.1, there.2, subst (λ met. IsTrue (mark met)) (sym (marks_at_end there.0 there.1)) there.3)),
            )

      nothing : IsTrue false ↔ ⊥
      nothing = (λ has. false≢true has, λ none. absurd none)

      pub HasValues-projected : HasValues (quantified q own (λ e. own_meaning domain e Yes) (own_meaning body)) projected
      HasValues-projected =
          HasValues-quantified body domain body_is domain_is is_domain.mode is_domain.among others (without-rising own.name body.variables body_is.rising) (bound body.variables body_is.rising own own_among) into
          (places_left own.name 0 body.variables) left_out own (own_there body.variables body_is.rising own own_among) (without-names own.name body.variables) q outer.nodes start (states_of signed_states)
          (λ word. marks_at closed (last_state projected word)) sign_at_end
          (stands_for (λ m. m.yes) (λ one two. refl) nothing (λ place met from. from.yes))
          (stands_for (λ m. m.no) (λ one two. refl) nothing (λ place met from. from.no))
          (stands_for (λ m. m.undefined) (λ one two. refl) nothing (λ place met from. from.undefined))
          (stands_for (λ m. m.encoding) (λ one two. refl) nothing (λ place met from. from.encoding))

      pub IsAutomaton-projected : IsAutomaton projected
      IsAutomaton-projected =
          IsAutomaton-by_values (quantified q own (λ e. own_meaning domain e Yes) (own_meaning body)) projected (IsMeaning-quantified q own body domain body.mode others) HasValues-projected
          found.store.ordered found.store.reduced closed_projected (without-rising own.name body.variables body_is.rising)
          (let counted = length-states_of signed_states in let small = found.numbering.numbering.small in omega (arith, counted, small, all_signed))
