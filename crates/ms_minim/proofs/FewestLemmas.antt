-- The quotient by residuals gives each word the sign that the automaton gives it, is an automaton, and has fewest states
-- (Myhill, 1957; Nerode, 1958).
use Rattle.std.proofs.Common.{◌≡◌, ◌≢◌, ℕ, ◌<◌, ◌≤◌, Bool, true, false, List, length, slice_get, Some, Result, refl, sym, ap, subst, ◌∙◌, arith}
use Rattle.std.proofs.lemmas.Option.{slice_get_within, same_Some, get_or_from_slice_get}
use Rattle.ms_list.specs.declared.fault.StepFault.{StepFault}
use Rattle.ms_list.specs.declared.word.Word.{Word}
use Rattle.ms_arena.specs.declared.node.Ref.{Ref}
use Rattle.ms_arena.specs.declared.node.Node.{Node}
use Rattle.ms_arena.specs.Bits.{with_bit}
use Rattle.ms_arena.specs.Diagram.{Bits, leaf_of, IsOrdered, IsReduced}
use Rattle.ms_arena.proofs.BitsLemmas.{with_bit-other}
use Rattle.ms_arena.proofs.Lists.{slice_get-held}
use Rattle.ms_arena.proofs.ReachLemmas.{leaf_of-tested}
use Rattle.ms_diagram.specs.Store.{Contents}
use Rattle.ms_dfa.specs.Automaton.{IsAutomaton, variables_of, states_of, content_of}
use Rattle.ms_dfa.specs.declared.track.Track.{Track}
use Rattle.ms_logic.specs.declared.mode.Mode.{Mode}
use Rattle.ms_dfa.specs.declared.state.State.{State}
use Rattle.ms_logic.specs.declared.mode.Order.{Order}
use Rattle.ms_logic_words.specs.declared.sign.Sign.{Sign}
use Rattle.ms_logic_words.specs.Content.{Content, HasValueAt, AreLetters, IsWordOver, IsClosed, IsFollowed, is_in_letters, is_truth_value, first_state, state_after, last_state, sign_at, sign_of, truth_bits, letter_bits}
use Rattle.ms_logic_words.specs.Signs.{sign_or_outside}
use Rattle.ms_logic_words.proofs.WordLaws.{encoding_is_over}
use Rattle.ms_dfa.specs.Machine.{machine_of}
use Rattle.ms_dfa.specs.Values.{own_meaning}
use Rattle.ms_dfa.proofs.MachineLemmas.{related_at_end, state_after-machine}
use Rattle.ms_dfa.proofs.OwnMeaningLemmas.{next_within, last_within, word_has_sign, HasValues-own, IsMeaning-own}
use Rattle.ms_dfa.proofs.ValuesLemmas.{IsAutomaton-by_values}
use Rattle.ms_dfa_explore.specs.Explored.{Findings, Leads, Follows, Explores}
use Rattle.ms_dfa_explore.specs.inner.Run.{IsOver, AreNames}
use Rattle.ms_dfa_explore.proofs.RunLemmas.{explored, length-states_of, IsClosed-explored, IsSimulation-explored, sign_of_explored}
use Rattle.ms_logic_words.specs.Residual.{HaveEqualResiduals, HaveEqualSigns, HasFewestStates}
use Rattle.ms_minim.specs.inner.Partition.{HaveOneClass, behind, next_by}
use Rattle.ms_minim.specs.inner.Quotient.{Quotienting, IsNumberOf, IsMemberOf, IsQuotient, sign_of_number, quotient_findings}
use Rattle.ms_minim.specs.Reduced.{IsReducedOf, content_over}
use Rattle.ms_minim.proofs.LettersLemmas.{over-with_letters, sign_of-with_letters, with_letters}
use Rattle.ms_minim.proofs.Pigeonhole.{counted}
use Rattle.ms_minim.proofs.QuotientLemmas.{one_number}
use Rattle.ms_minim.proofs.ResidualLemmas.{next_by-letter, state_followed}

-- words that lead to one state of a content with the same signs lead to states with equal residuals
residuals_by : (content other : Content Sign) → HaveEqualSigns content other → (one two : Word) → IsWordOver content.variables one → IsWordOver content.variables two
    → last_state other one ≡ last_state other two → HaveEqualResiduals content (last_state content one) (last_state content two)
residuals_by content other signs one two over_one over_two same letters are =
    sym (sign_of-with_letters content one letters) ∙ sym (signs (with_letters one letters) (over-with_letters content.variables one letters over_one are))
    ∙ sign_of-with_letters other one letters ∙ ap (λ state. sign_at other (state_after other state letters)) same ∙ sym (sign_of-with_letters other two letters)
    ∙ signs (with_letters two letters) (over-with_letters content.variables two letters over_two are) ∙ sign_of-with_letters content two letters

-- a word leads to the class of a number in one content, and to a state in another
record EndsAt (content other : Content Sign) (classes : List ℕ) (pairs : List (ℕ × ℕ)) (number state : ℕ) : Type 0 where
  pub word : Word
  pub over : IsWordOver content.variables word
  pub class : ℕ
  pub class_is : slice_get classes (last_state content word) ≡ Some class
  pub number_is : slice_get pairs number ≡ Some (class, 0)
  pub ends : last_state other word ≡ state

module _ (content : Content Sign) (classes members map : List ℕ) (pairs : List (ℕ × ℕ)) (quotient : IsQuotient content classes members map pairs) where
  -- there are no more numbers than states of a closed content with the same signs
  pub few_numbers : (other : Content Sign) → IsClosed other → HaveEqualSigns content other → length pairs ≤ length other.states
  few_numbers other closed signs =
      counted (length pairs) (length other.states) (EndsAt content other classes pairs)
      (λ number less.
      let held = slice_get-held pairs number less in
      let reached = quotient.reached number held.0 held.1 in (
        last_state other reached.0.word,
        last_within other closed reached.0.word,
        record {
          word = reached.0.word;
          over = reached.0.over;
          class = held.0.0;
          class_is = reached.0.ends;
          number_is = held.1 ∙ ap (λ (n : ℕ). Some (held.0.0, n)) reached.1;
          ends = refl;
        },
      ))
      (λ one two state less_one less_two first second.
      let equal = residuals_by content other signs first.word second.word first.over second.over (first.ends ∙ sym second.ends) in
      let same = quotient.nerode.partition.kept (last_state content first.word) (last_state content second.word)
      (last_within content quotient.automaton.closed first.word) (last_within content quotient.automaton.closed second.word) equal in
      one_number classes pairs quotient.numbering (last_state content first.word) (last_state content second.word) one two
      (record { class = first.class; class_is = first.class_is; number_is = first.number_is })
      (record { class = second.class; class_is = second.class_is; number_is = second.number_is }) same)

  abbrev findings : Findings
  findings = quotient_findings content classes members pairs

  -- a bit of no variable with a value is not read
  unread : (has_value : Order → Bool) (root : Ref) → IsFollowed content has_value root → (var : ℕ) → ¬ HasValueAt content.variables has_value var → (bits : Bits)
      → leaf_of content.nodes root (with_bit bits var false) ≡ leaf_of content.nodes root (with_bit bits var true)
  unread has_value root is var absent bits =
      leaf_of-tested content.nodes quotient.automaton.ordered root (with_bit bits var false) (with_bit bits var true) is.valid (λ own tested.
      let at = is.tests own tested in
      let apart : own ≢ var = λ same. absent (subst (HasValueAt content.variables has_value) same at) in
      with_bit-other bits var false own apart ∙ sym (with_bit-other bits var true own apart))

  -- the class of a number is known by one state, which has the class
  pub one_member : (number one other : ℕ) → IsMemberOf members pairs number one → IsMemberOf members pairs number other → one ≡ other
  one_member number one other first second =
      let class_is : first.class ≡ second.class = ap (λ (p : ℕ × ℕ). p.0) (same_Some (first.class, 0) (second.class, 0) (sym first.number_is ∙ second.number_is)) in
      same_Some one other (sym first.member_is ∙ ap (slice_get members) class_is ∙ second.member_is)

  pub member_within : (number state : ℕ) → IsMemberOf members pairs number state → state < length content.states
  member_within number state is =
      let all = quotient.nerode.partition.all in
      let less = slice_get_within classes state is.class (quotient.nerode.partition.inhabited.member is.class state is.member_is) in
      omega (arith, all, less)

  next_unread : (state : ℕ) → state < length content.states → (var : ℕ) → ¬ HasValueAt content.variables is_in_letters var → (bits : Bits)
      → next_by content state (with_bit bits var false) ≡ next_by content state (with_bit bits var true)
  next_unread state within var absent bits =
      let held = slice_get-held content.states state within in
      subst (λ found. behind content found (with_bit bits var false) ≡ behind content found (with_bit bits var true)) (sym held.1)
      (unread is_in_letters held.0.next (state_followed content quotient.automaton.ordered quotient.automaton.closed state held.0 held.1) var absent bits)

  pub IsOver-quotient : IsOver content.variables findings
  IsOver-quotient = record {
    start_found = λ bits number is. slice_get_within pairs number (is.class, 0) is.number_is;
    next_found = λ state found bits number is. slice_get_within pairs number (is.leads.class, 0) is.leads.number_is;
    start_reads = λ var absent bits one other first second.
        one_number classes pairs quotient.numbering (leaf_of content.nodes content.start (with_bit bits var false)) (leaf_of content.nodes content.start (with_bit bits var true))
        one other first second (ap (slice_get classes) (unread is_truth_value content.start quotient.automaton.closed.start var absent bits));
    next_reads = λ state found var absent bits one other first second.
        let same : first.state ≡ second.state = one_member state first.state second.state first.member second.member in
        one_number classes pairs quotient.numbering (next_by content first.state (with_bit bits var false)) (next_by content second.state (with_bit bits var true))
        one other first.leads second.leads
        (ap (slice_get classes) (next_unread first.state (member_within state first.state first.member) var absent bits ∙ ap (λ s. next_by content s (with_bit bits var true)) same));
  }

  -- the number names the states of its class
  abbrev IsName : ℕ → ℕ → Type 0
  IsName number state = IsNumberOf classes pairs state number × (state < length content.states)

  abbrev sign_by : ℕ → Sign
  sign_by state = sign_or_outside (sign_at content state)

  same_class : (number state member : ℕ) → IsNumberOf classes pairs state number → IsMemberOf members pairs number member → HaveOneClass classes member state
  same_class number state member is known =
      let class_is : known.class ≡ is.class = ap (λ (p : ℕ × ℕ). p.0) (same_Some (known.class, 0) (is.class, 0) (sym known.number_is ∙ is.number_is)) in
      quotient.nerode.partition.inhabited.member known.class member known.member_is ∙ ap Some class_is ∙ sym is.class_is

  AreNames-quotient : AreNames content.variables findings (machine_of content) sign_by IsName
  AreNames-quotient = record {
    start = λ truth number long is. (is, quotient.automaton.closed.start.states (truth_bits content.variables truth));
    next = λ number state letter later found named long leads.
        let bits = letter_bits content.variables letter in
        let alike = quotient.nerode.stable leads.state state (member_within number leads.state leads.member) named.1 (same_class number state leads.state named.0 leads.member) bits in (
          record {
            class = leads.leads.class;
            class_is = ap (slice_get classes) (sym (next_by-letter content state letter)) ∙ sym alike ∙ leads.leads.class_is;
            number_is = leads.leads.number_is;
          },
          next_within content quotient.automaton.closed state letter named.1,
        );
    signs = λ number state found named.
        let class = named.0.class in
        let held = slice_get-held members class (quotient.nerode.partition.inhabited.within state class named.0.class_is) in
        let member : IsMemberOf members pairs number held.0 = record { class = class; number_is = named.0.number_is; member_is = held.1 } in
        ap (sign_of_number content members) named.0.number_is
        ∙ ap (λ s. sign_or_outside (sign_at content s)) (get_or_from_slice_get members class held.0 0 held.1)
        ∙ ap sign_or_outside (quotient.nerode.partition.signs held.0 state (member_within number held.0 member) named.1 (same_class number state held.0 named.0 member));
  }

  module _ (nodes : List Node) (start : Ref) (states : List State) (ordered : IsOrdered nodes) (reduced : IsReduced nodes) (starts : Leads nodes findings.starts start)
      (all : length states ≡ length pairs) (follows : Follows nodes findings states) where
    abbrev made : Content Sign
    made = explored nodes content.mode content.variables start states findings

    sign_of-made : (word : Word) → IsWordOver content.variables word → sign_of made word ≡ sign_of content word
    sign_of-made word over =
        let has = word_has_sign content quotient.automaton.closed word in
        sign_of_explored nodes content.mode content.variables start states findings ordered reduced IsOver-quotient starts all follows (machine_of content) sign_by IsName AreNames-quotient word over
        ∙ ap (λ state. Some (sign_by state)) (sym (state_after-machine content (first_state content word.truth) word.letters))
        ∙ ap (λ sign. Some (sign_or_outside sign)) has.1 ∙ sym has.1

    pub HasFewestStates-made : HasFewestStates made
    HasFewestStates-made other closed variables signs =
        let few = few_numbers other closed (λ word over. signs word over ∙ sign_of-made word over) in
        let counted_states = length-states_of states in
        omega (arith, counted_states, all, few)

    -- the number of a word's end is that of the class of its end
    named : (word : Word) → IsWordOver content.variables word → IsNumberOf classes pairs (last_state content word) (last_state made word)
    named word over =
        let simulation = IsSimulation-explored nodes content.mode content.variables start states findings ordered reduced IsOver-quotient starts all follows (machine_of content) sign_by IsName AreNames-quotient in
        let related = related_at_end made (machine_of content) (λ number state. (number < length pairs) × IsName number state) simulation word over in
        subst (λ state. IsNumberOf classes pairs state (last_state made word)) (sym (state_after-machine content (first_state content word.truth) word.letters)) related.1.0

    -- some word leads to each state
    reached-made : (number : ℕ) → number < length made.states → (word : Word) × IsWordOver content.variables word × (last_state made word ≡ number)
    reached-made number less =
        let counted_states = length-states_of states in
        let held = slice_get-held pairs number (omega (arith, less, counted_states, all)) in
        let reached = quotient.reached number held.0 held.1 in
        let word = reached.0.word in (
          word,
          reached.0.over,
          one_number classes pairs quotient.numbering (last_state content word) (last_state content word) (last_state made word) number (named word reached.0.over)
              (record { class = held.0.0; class_is = reached.0.ends; number_is = held.1 ∙ ap (λ (n : ℕ). Some (held.0.0, n)) reached.1 }) refl,
        )

    sign-behind : (word : Word) → IsWordOver content.variables word → (letters : List (List Bool)) → AreLetters content.variables letters
        → sign_at content (state_after content (last_state content word) letters) ≡ sign_at made (state_after made (last_state made word) letters)
    sign-behind word over letters are =
        sym (sign_of-with_letters content word letters) ∙ sym (sign_of-made (with_letters word letters) (over-with_letters content.variables word letters over are))
        ∙ sign_of-with_letters made word letters

    -- no two of them have equal residuals
    differ-made : (one other : ℕ) → one < length made.states → other < length made.states → HaveEqualResiduals made one other → one ≡ other
    differ-made one other less_one less_other same =
        let first = reached-made one less_one in
        let second = reached-made other less_other in
        let equal : HaveEqualResiduals content (last_state content first.0) (last_state content second.0) = λ letters are.
        sign-behind first.0 first.1 letters are ∙ ap (λ n. sign_at made (state_after made n letters)) first.2 ∙ same letters are
        ∙ sym (ap (λ n. sign_at made (state_after made n letters)) second.2) ∙ sym (sign-behind second.0 second.1 letters are)
        in
        let class = quotient.nerode.partition.kept (last_state content first.0) (last_state content second.0)
        (last_within content quotient.automaton.closed first.0) (last_within content quotient.automaton.closed second.0) equal in
        sym first.2
        ∙ one_number classes pairs quotient.numbering (last_state content first.0) (last_state content second.0) (last_state made first.0) (last_state made second.0)
        (named first.0 first.1) (named second.0 second.1) class
        ∙ second.2

    pub IsReducedOf-made : length nodes ≤ length content.nodes → IsReducedOf content made
    IsReducedOf-made no_more_nodes = record {
      ordered = ordered;
      reduced = reduced;
      closed = IsClosed-explored nodes content.mode content.variables start states findings ordered reduced IsOver-quotient starts all follows;
      few_states = (let counted_states = length-states_of states in let small = quotient.numbering.small in omega (arith, counted_states, all, small));
      signs = sign_of-made;
      fewest = HasFewestStates-made;
      reached = reached-made;
      differ = differ-made;
      no_more_nodes = no_more_nodes;
    }

-- what an automaton is reduced to is one, where its signs are read as they are
pub IsAutomaton-reduced : (a : Content Sign) → IsAutomaton a → (nodes : List Node) (start : Ref) (states : List State) → IsReducedOf a (content_over a nodes start states)
    → IsAutomaton (content_over a nodes start states)
IsAutomaton-reduced a automaton nodes start states is =
    IsAutomaton-by_values (own_meaning a) (content_over a nodes start states) (IsMeaning-own a automaton)
    (record {
      right = λ word e assigned encodes.
          let own = (HasValues-own a automaton).right word e assigned encodes in
          (own.0, is.signs word (encoding_is_over a.variables word e encodes) ∙ own.1, own.2);
      outside = λ word over outside. is.signs word over ∙ (HasValues-own a automaton).outside word over outside;
    })
    is.ordered is.reduced is.closed automaton.rising is.few_states

-- a quotient whose content is that of an automaton
module _ (a : Content Sign) (seen : Quotienting) (same : seen.content ≡ a) where
  pub quotient_of : (inside : Quotienting) (map : List ℕ) → inside ≡ seen → IsQuotient inside.content inside.classes inside.members map inside.pairs → IsQuotient a seen.classes seen.members map seen.pairs
  quotient_of inside map is quotient =
      subst (λ content. IsQuotient content seen.classes seen.members map seen.pairs) same
      (subst (λ (q : Quotienting). IsQuotient q.content q.classes q.members map q.pairs) is quotient)

  pub explores_of : (old new : Contents) (states : List State) (result : Result Ref StepFault) → Explores old new (quotient_findings seen.content seen.classes seen.members seen.pairs) states result
      → Explores old new (quotient_findings a seen.classes seen.members seen.pairs) states result
  explores_of old new states result explores = subst (λ content. Explores old new (quotient_findings content seen.classes seen.members seen.pairs) states result) same explores

-- a content of these parts
pub content_is : (nodes : List Node) (mode : Mode) (tracks : List Track) (start : Ref) (states : List State) (a : Content Sign) → mode ≡ a.mode → variables_of tracks ≡ a.variables
    → content_of nodes mode tracks start states ≡ record { mode = a.mode; variables = a.variables; start = start; states = states_of states; nodes = nodes }
content_is nodes mode tracks start states a same_mode same_variables = λ i. record { mode = same_mode i; variables = same_variables i; start = start; states = states_of states; nodes = nodes }
