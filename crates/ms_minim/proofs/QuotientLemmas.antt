-- The diagrams of the quotient lead to the numbers of classes, and classes that get numbers are reached.
use Rattle.std.proofs.Common.{◌≡◌, ◌≢◌, ℕ, ◌<◌, ◌≤◌, inl, inr, ⊎_elim, Bool, true, false, List, [], ◌∷◌, ◌++◌, length, slice_get, Some, Result, IfSome, refl, sym, ap, subst, ◌∙◌, arith}
use Rattle.std.proofs.lemmas.Bool.{cases_lt}
use Rattle.std.proofs.lemmas.Option.{slice_get_within, same_Some, get_or_from_slice_get}
use Rattle.ms_list.specs.declared.fault.StepFault.{StepFault}
use Rattle.ms_arena.specs.declared.node.Ref.{Ref}
use Rattle.ms_arena.specs.declared.node.Ref.TheVariants.{Leaf}
use Rattle.ms_arena.specs.declared.node.Node.{Node}
use Rattle.ms_arena.specs.Bits.{with_bit}
use Rattle.ms_arena.specs.Diagram.{Bits, leaf_of, IsOrdered, IsReduced}
use Rattle.ms_arena.specs.Target.{Extends, Meets}
use Rattle.ms_arena.proofs.Appending.{slice_get-extends}
use Rattle.ms_arena.proofs.BitsLemmas.{with_bit-other}
use Rattle.ms_arena.proofs.Lists.{slice_get-held}
use Rattle.ms_arena.proofs.Paths.{leaf_of-leaf}
use Rattle.ms_arena.proofs.ReachLemmas.{leaf_of-tested}
use Rattle.ms_diagram.specs.Apply.{HasLeaves, PairNumber}
use Rattle.ms_diagram.specs.Bring.{read_through, RenamedLeaf, Renames}
use Rattle.ms_diagram.specs.Growth.{Builds}
use Rattle.ms_diagram.specs.Numbering.{AddsOnly, IsNumbering}
use Rattle.ms_diagram.specs.Relabel.{MappedLeaf}
use Rattle.ms_diagram.specs.Store.{Contents}
use Rattle.ms_diagram.proofs.Building.{Builds-implies}
use Rattle.ms_diagram.proofs.NumberingLemmas.{AddsOnly-implies}
use Rattle.ms_logic_words.specs.declared.sign.Sign.{Sign}
use Rattle.ms_logic_words.specs.Content.{StateOf, Content, is_truth_value, first_state, state_after, last_state, sign_at}
use Rattle.ms_logic_words.specs.Signs.{sign_or_outside}
use Rattle.ms_dfa.specs.Narrow.{gathered}
use Rattle.ms_dfa.proofs.FunctionLemmas.{TestsOnly-by_function}
use Rattle.ms_dfa.proofs.GatheredLemmas.{length-gathered}
use Rattle.ms_dfa.proofs.NarrowLemmas.{leaf_of-gathered}
use Rattle.ms_dfa.proofs.OwnMeaningLemmas.{last_within}
use Rattle.ms_minim.specs.inner.Origin.{IsReachedState}
use Rattle.ms_minim.specs.inner.Partition.{IsIdentity, IsPartition, IsRoot, HaveOneClass, next_by}
use Rattle.ms_minim.specs.inner.Quotient.{Quotienting, sign_of_number, IsNumberOf, NumberBehind, HaveOwnNumbers, IsClassBehind, LeadsOn, IsReached, AreReached, IsQuotient}
use Rattle.ms_minim.proofs.LeadLemmas.{Renames-identity, tested_within, identity_leaf}
use Rattle.ms_minim.proofs.MarkLemmas.{leads_by}
use Rattle.ms_minim.proofs.LettersLemmas.{AreLetters-append, state_after-append}
use Rattle.ms_minim.proofs.ResidualLemmas.{letter_for, length-letter_for, next_state-letter_for}

-- states of one class have one number
pub one_number : (classes : List ℕ) (pairs : List (ℕ × ℕ)) → IsNumbering pairs → (state other number second : ℕ) → IsNumberOf classes pairs state number → IsNumberOf classes pairs other second
    → HaveOneClass classes state other → number ≡ second
one_number classes pairs numbering state other number second first_is second_is same =
    let class_is : first_is.class ≡ second_is.class = same_Some first_is.class second_is.class (sym first_is.class_is ∙ same ∙ second_is.class_is) in
    numbering.no_repeats number second (second_is.class, 0) (first_is.number_is ∙ ap (λ (n : ℕ). Some (n, 0)) class_is) second_is.number_is

module _ (content : Content Sign) (root : Ref) (classes : List ℕ) (first : List Node) (behind zero : Ref) (zero_is : zero ≡ Leaf 0) (leads : Meets first (MappedLeaf content.nodes classes root) behind) where
  zero_leaf : (bits : Bits) → leaf_of first zero bits ≡ 0
  zero_leaf bits = ap (λ r. leaf_of first r bits) zero_is ∙ leaf_of-leaf first bits 0

  -- classes that get numbers are led to
  pub AddsOnly-classes : (pairs late : List (ℕ × ℕ)) → AddsOnly (HasLeaves first behind zero) pairs late → AddsOnly (IsClassBehind content classes root) pairs late
  AddsOnly-classes pairs late = AddsOnly-implies (HasLeaves first behind zero) (IsClassBehind content classes root) pairs late (λ item has.
      let class_is : leaf_of first behind has.0 ≡ item.0 = ap (λ (p : ℕ × ℕ). p.0) has.1 in
      let zero_at : leaf_of first zero has.0 ≡ item.1 = ap (λ (p : ℕ × ℕ). p.1) has.1 in
      (has.0, leads has.0 ∙ ap Some class_is, sym zero_at ∙ zero_leaf has.0))

  -- the numbers of pairs with 0 are those of the classes
  pub Meets-numbered : (pairs : List (ℕ × ℕ)) (second : List Node) (numbers : Ref) → Meets second (PairNumber first pairs behind zero) numbers → Meets second (NumberBehind content classes pairs root) numbers
  Meets-numbered pairs second numbers meets bits =
      let at_zero = zero_leaf bits in
      record {
        class = leaf_of first behind bits;
        class_is = leads bits;
        number_is = meets bits ∙ ap (λ (n : ℕ). Some (leaf_of first behind bits, n)) at_zero;
      }

-- where each class has its own number, it is the class
pub Meets-own : (content : Content Sign) (root : Ref) (classes : List ℕ) (first : List Node) (behind : Ref) → Meets first (MappedLeaf content.nodes classes root) behind → (pairs : List (ℕ × ℕ))
    → HaveOwnNumbers classes pairs → Meets first (NumberBehind content classes pairs root) behind
Meets-own content root classes first behind leads pairs own bits = record {
  class = leaf_of first behind bits;
  class_is = leads bits;
  number_is = own (leaf_of content.nodes root bits) (leaf_of first behind bits) (leads bits);
}

module _ (content : Content Sign) (ordered : IsOrdered content.nodes) (root : Ref) (is : IsRoot content root) (map : List ℕ) (identity : IsIdentity (length content.variables) map)
    (classes : List ℕ) (pairs : List (ℕ × ℕ)) (numbering : IsNumbering pairs) (second : List Node) (ordered_second : IsOrdered second) (reduced_second : IsReduced second) (numbers : Ref)
    (numbered : Meets second (NumberBehind content classes pairs root) numbers) where
  -- bits past the variables matter to neither
  same_leaf : (var : ℕ) → length content.variables ≤ var → (bits : Bits) → leaf_of content.nodes root (with_bit bits var false) ≡ leaf_of content.nodes root (with_bit bits var true)
  same_leaf var past bits =
      leaf_of-tested content.nodes ordered root (with_bit bits var false) (with_bit bits var true) is.1.valid (λ own tested.
      let within = tested_within content ordered root is map identity own tested in
      let apart : own ≢ var = λ same. (let never : var < length content.variables = omega (arith, same, within) in omega (arith, never, past)) in
      with_bit-other bits var false own apart ∙ sym (with_bit-other bits var true own apart))

  pub Renames-numbers : Renames second map numbers
  Renames-numbers = Renames-identity second numbers (length content.variables) map identity
      (TestsOnly-by_function second (leaf_of second numbers) (λ var. var < length content.variables) numbers ordered_second reduced_second (λ bits. refl)
      (λ var. ⊎_elim (λ less. inl less)
      (λ past. inr (λ bits.
      one_number classes pairs numbering (leaf_of content.nodes root (with_bit bits var false)) (leaf_of content.nodes root (with_bit bits var true))
      (leaf_of second numbers (with_bit bits var false)) (leaf_of second numbers (with_bit bits var true))
      (numbered (with_bit bits var false)) (numbered (with_bit bits var true)) (ap (slice_get classes) (same_leaf var past bits))))
      (cases_lt var (length content.variables))))

  pub Builds-numbers : (old new : Contents) (result : Result Ref StepFault) → Builds old new (RenamedLeaf second map numbers) ⊥ result → Builds old new (NumberBehind content classes pairs root) ⊥ result
  Builds-numbers old new result = Builds-implies old new (RenamedLeaf second map numbers) (NumberBehind content classes pairs root) ⊥ ⊥
      (λ bits number same.
      subst (IsNumberOf classes pairs (leaf_of content.nodes root bits)) (sym same)
      (subst (λ s. IsNumberOf classes pairs s (leaf_of second numbers (read_through map bits))) (identity_leaf content ordered root is map identity bits)
      (numbered (read_through map bits))))
      (λ never. never) result

-- where words lead to all states, they lead to one of each class
pub AreReached-own : (content : Content Sign) (classes members : List ℕ) → IsPartition content classes members → ((state : ℕ) → state < length content.states → IsReachedState content state)
    → (pairs : List (ℕ × ℕ)) → length pairs ≡ length members → ((class : ℕ) → class < length members → slice_get pairs class ≡ Some (class, 0)) → AreReached content classes pairs
AreReached-own content classes members partition reached pairs count own number pair held =
    let within : number < length members = let less = slice_get_within pairs number pair held in omega (arith, less, count) in
    let pair_is : (number, 0) ≡ pair = same_Some (number, 0) pair (sym (own number within) ∙ held) in
    let member = slice_get-held members number within in
    let class_is = partition.inhabited.member number member.0 member.1 in
    let inside : member.0 < length content.states = let all = partition.all in let less = slice_get_within classes member.0 number class_is in omega (arith, all, less) in
    let word = reached member.0 inside in
    subst (λ (p : ℕ × ℕ). IsReached content classes p.0 × (p.1 ≡ 0)) pair_is
    (record { word = word.0; over = word.1; ends = ap (slice_get classes) word.2 ∙ class_is }, refl)

module _ (content : Content Sign) (classes members map : List ℕ) (pairs : List (ℕ × ℕ)) (quotient : IsQuotient content classes members map pairs) where
  -- a class behind the start is reached
  reached_first : (pair : ℕ × ℕ) → IsClassBehind content classes content.start pair → IsReached content classes pair.0
  reached_first pair behind =
      let start = quotient.automaton.closed.start in
      let truth : List Bool = gathered is_truth_value 0 content.variables behind.0 in
      let first : first_state content truth ≡ leaf_of content.nodes content.start behind.0
      = leaf_of-gathered content.nodes is_truth_value content.variables content.start behind.0 quotient.automaton.ordered start.valid start.tests in
      record {
        word = record { truth = truth; letters = [] };
        over = record { truth = length-gathered is_truth_value content.variables behind.0 0; letters = tt };
        ends = ap (slice_get classes) first ∙ behind.1;
      }

  -- and so is one behind a state of a class that is reached
  reached_next : (class state : ℕ) → IsReached content classes class → slice_get classes state ≡ Some class → (root : Ref) → IfSome (slice_get content.states state) (λ (found : StateOf Sign). root ≡ found.next)
      → (pair : ℕ × ℕ) → IsClassBehind content classes root pair → IsReached content classes pair.0
  reached_next class state reached class_is root next pair behind =
      let automaton = quotient.automaton in
      let within : state < length content.states = (let all = quotient.nerode.partition.all in let less = slice_get_within classes state class class_is in omega (arith, all, less)) in
      let last = last_state content reached.word in
      let last_in : last < length content.states = last_within content automaton.closed reached.word in
      let letter : List Bool = letter_for content automaton.ordered automaton.closed behind.0 in
      let there : state_after content (first_state content reached.word.truth) (reached.word.letters ++ letter ∷ []) ≡ next_by content last behind.0
      = state_after-append content (first_state content reached.word.truth) reached.word.letters (letter ∷ [])
      ∙ next_state-letter_for content automaton.ordered automaton.closed last last_in behind.0 in
      let alike = quotient.nerode.stable last state last_in within (reached.ends ∙ sym class_is) behind.0 in
      record {
        word = record { truth = reached.word.truth; letters = reached.word.letters ++ letter ∷ [] };
        over = record {
          truth = reached.over.truth;
          letters = AreLetters-append content.variables reached.word.letters (letter ∷ []) reached.over.letters (length-letter_for content automaton.ordered automaton.closed behind.0, tt);
        };
        ends = ap (slice_get classes) there ∙ alike ∙ ap (slice_get classes) (leads_by content classes state root within next behind.0) ∙ behind.1;
      }

  module _ (late : List (ℕ × ℕ)) (extends : Extends pairs late) (numbering : IsNumbering late) where
    with_reached : (fact : ℕ × ℕ → Type 0) → AddsOnly fact pairs late → ((pair : ℕ × ℕ) → fact pair → IsReached content classes pair.0 × (pair.1 ≡ 0)) → IsQuotient content classes members map late
    with_reached fact added reached = record {
      automaton = quotient.automaton;
      nerode = quotient.nerode;
      identity = quotient.identity;
      numbering = numbering;
      reached = λ number pair held. ⊎_elim
          (λ before.
          let was = slice_get-held pairs number before in
          let same : was.0 ≡ pair = same_Some was.0 pair (sym (slice_get-extends pairs late extends number was.0 was.1) ∙ held) in
          subst (λ (p : ℕ × ℕ). IsReached content classes p.0 × (p.1 ≡ 0)) same (quotient.reached number was.0 was.1))
          (λ past. reached pair (added number pair past held))
          (cases_lt number (length pairs));
    }

    pub IsQuotient-start : AddsOnly (IsClassBehind content classes content.start) pairs late → IsQuotient content classes members map late
    IsQuotient-start added = with_reached (IsClassBehind content classes content.start) added (λ pair behind. (reached_first pair behind, behind.2))

    module _ (number : ℕ) (pair : ℕ × ℕ) (held : slice_get pairs number ≡ Some pair) (state : ℕ) (member : slice_get members pair.0 ≡ Some state) (root : Ref)
        (next : IfSome (slice_get content.states state) (λ (found : StateOf Sign). root ≡ found.next)) where
      pub IsQuotient-next : AddsOnly (IsClassBehind content classes root) pairs late → IsQuotient content classes members map late
      IsQuotient-next added = with_reached (IsClassBehind content classes root) added (λ pair_behind behind.
          (reached_next pair.0 state (quotient.reached number pair held).0 (quotient.nerode.partition.inhabited.member pair.0 state member) root next pair_behind behind, behind.2))

      -- what is right behind the state of its class is right behind a number
      pub LeadsOn-behind : (bits : Bits) (later : ℕ) → NumberBehind content classes late root bits later → LeadsOn content classes members late number bits later
      LeadsOn-behind bits later is =
          let class_is = quotient.nerode.partition.inhabited.member pair.0 state member in
          let within : state < length content.states = (let all = quotient.nerode.partition.all in let less = slice_get_within classes state pair.0 class_is in omega (arith, all, less)) in
          let zero_is : pair.1 ≡ 0 = (quotient.reached number pair held).1 in
          record {
            state = state;
            member = record {
              class = pair.0;
              number_is = slice_get-extends pairs late extends number pair held ∙ ap (λ (n : ℕ). Some (pair.0, n)) zero_is;
              member_is = member;
            };
            leads = subst (λ s. IsNumberOf classes late s later) (sym (leads_by content classes state root within next bits)) is;
          }

      -- so a state of the quotient leads where the state of its class does
      pub Builds-leads_on : (old new : Contents) (result : Result Ref StepFault) → Builds old new (NumberBehind content classes late root) ⊥ result
          → Builds old new (LeadsOn content classes members late number) ⊥ result
      Builds-leads_on old new result = Builds-implies old new (NumberBehind content classes late root) (LeadsOn content classes members late number) ⊥ ⊥ LeadsOn-behind (λ never. never) result

  -- a number has a class, and the class a state
  pub class_within : (number : ℕ) (pair : ℕ × ℕ) → slice_get pairs number ≡ Some pair → pair.0 < length members
  class_within number pair held = let reached = (quotient.reached number pair held).0 in quotient.nerode.partition.inhabited.within (last_state content reached.word) pair.0 reached.ends

  pub state_within : (class state : ℕ) → slice_get members class ≡ Some state → state < length content.states
  state_within class state member =
      let all = quotient.nerode.partition.all in
      let less = slice_get_within classes state class (quotient.nerode.partition.inhabited.member class state member) in
      omega (arith, all, less)

-- the sign of the state by which the class of a number is known is that of the number
pub sign_seen : (inside seen : Quotienting) → inside ≡ seen → (number : ℕ) (pair : ℕ × ℕ) → slice_get inside.pairs number ≡ Some pair → (member : ℕ) → slice_get inside.members pair.0 ≡ Some member
    → (sign : Sign) → sign_at inside.content member ≡ Some sign → sign ≡ sign_of_number seen.content seen.members (slice_get seen.pairs number)
sign_seen inside seen same number pair held member member_is sign sign_is =
    subst (λ (q : Quotienting). sign ≡ sign_of_number q.content q.members (slice_get q.pairs number)) same
    (sym (ap (sign_of_number inside.content inside.members) held
    ∙ ap (λ s. sign_or_outside (sign_at inside.content s)) (get_or_from_slice_get inside.members pair.0 member 0 member_is) ∙ ap sign_or_outside sign_is))
