-- What a quotient holds is needed: the nodes that it adds to an empty store, and the classes that have numbers.
use Rattle.std.proofs.Common.{◌≡◌, ⊎_elim, inl, inr, ℕ, ◌+◌, ◌<◌, ◌≤◌, List, [], length, slice_get, Option, Some, None, Err, refl, sym, ap, subst, ◌∙◌, arith}
use Rattle.std.specs.Option.{option_map}
use Rattle.std.proofs.lemmas.Option.{same_Some}
use Rattle.ms_list.specs.declared.fault.StepFault.{StepFault}
use Rattle.ms_list.specs.declared.fault.StepFault.TheVariants.{Nodes, Memory}
use Rattle.ms_list.specs.declared.word.Word.{Word}
use Rattle.ms_arena.specs.declared.node.Node.{Node}
use Rattle.ms_arena.specs.Bits.{below_from}
use Rattle.ms_arena.specs.Diagram.{Bits, end_at, leaf_of, IsOrdered, IsReduced}
use Rattle.ms_arena.specs.Target.{IsNeeded}
use Rattle.ms_arena.proofs.Lists.{slice_get-held}
use Rattle.ms_diagram.specs.Store.{Contents}
use Rattle.ms_dfa.specs.declared.state.State.{State}
use Rattle.ms_dfa.proofs.OwnMeaningLemmas.{last_within}
use Rattle.ms_logic_words.specs.declared.sign.Sign.{Sign}
use Rattle.ms_logic_words.specs.Content.{Content, IsWordOver, StateOf, first_state, last_state}
use Rattle.ms_dfa_explore.specs.Explored.{Explores, Findings, IsFound, OnRefused, Origin, target_of}
use Rattle.ms_minim.specs.Needed.{IsNeededBehindWord, NeedsAtLeast}
use Rattle.ms_minim.specs.SignReading.{read_content, read_state}
use Rattle.ms_minim.specs.declared.reading.SignReading.{SignReading}
use Rattle.ms_minim.specs.inner.Partition.{behind, next_by}
use Rattle.ms_minim.specs.inner.Quotient.{IsNumberOf, IsQuotient, quotient_findings}
use Rattle.ms_minim.proofs.FewestLemmas.{member_within}
use Rattle.ms_minim.proofs.ReadingLemmas.{after-read, read_at}

module _ (content : Content Sign) (classes members map : List ℕ) (pairs : List (ℕ × ℕ)) (quotient : IsQuotient content classes members map pairs) where
  abbrev findings : Findings
  findings = quotient_findings content classes members pairs

  -- a word leads to a state of the class of a number
  word_to : (number : ℕ) → number < length pairs → (word : Word) × IsWordOver content.variables word × IsNumberOf classes pairs (last_state content word) number
  word_to number within =
      let pair = slice_get-held pairs number within in
      let reached = quotient.reached number pair.0 pair.1 in
      let word = reached.0.word in
      let zero = reached.1 in
      (word, reached.0.over, record { class = pair.0.0; class_is = reached.0.ends; number_is = pair.1 ∙ ap (λ (n : ℕ). Some (pair.0.0, n)) zero })

  -- states of one class have one number
  same_class : (one other number : ℕ) → slice_get classes other ≡ slice_get classes one → IsNumberOf classes pairs one number → IsNumberOf classes pairs other number
  same_class one other number same is = record { class = is.class; class_is = same ∙ is.class_is; number_is = is.number_is }

  needed_behind : (nodes : List Node) (node : Node) (origin : Origin) → IsFound findings origin → IsNeeded nodes (target_of findings origin) node
      → IsNeededBehindWord content classes pairs nodes node
  needed_behind nodes node None found needed = inl needed
  needed_behind nodes node (Some number) found needed =
      let to = word_to number found in
      let last = last_state content to.0 in
      let inside = last_within content quotient.automaton.closed to.0 in
      inr (
        to.0,
        to.1,
        (
          needed.0,
          λ bits.
              let at = below_from node.var needed.0 bits in
              let on = needed.1 bits in
              let member_in = member_within content classes members map pairs quotient number on.state on.member in
              let class_is = quotient.nerode.partition.inhabited.member on.member.class on.state on.member.member_is in
              let pair_is : (to.2.class, 0) ≡ (on.member.class, 0) = same_Some (to.2.class, 0) (on.member.class, 0) (sym to.2.number_is ∙ on.member.number_is) in
              let classes_are : to.2.class ≡ on.member.class = ap (λ (p : ℕ × ℕ). p.0) pair_is in
              let one_class = to.2.class_is ∙ ap Some classes_are ∙ sym class_is in
              same_class (next_by content on.state at) (next_by content last at) (leaf_of nodes (end_at node bits) bits) (quotient.nerode.stable last on.state inside member_in one_class at) on.leads,
        ),
      )

  module _ (nodes : List Node) (ordered : IsOrdered nodes) (reduced : IsReduced nodes)
      (needed : (place : ℕ) (node : Node) → slice_get nodes place ≡ Some node → (origin : Origin) × IsFound findings origin × IsNeeded nodes (target_of findings origin) node) where
    needs_held : (count : ℕ) → count ≤ length nodes + length pairs → NeedsAtLeast count content
    needs_held count most = record {
      classes = classes;
      numbers = pairs;
      nodes = nodes;
      numbering = quotient.numbering;
      reached = word_to;
      ordered = ordered;
      reduced = reduced;
      needed = λ place node held. (let is = needed place node held in needed_behind nodes node is.0 is.1 is.2);
      many = most;
    }

  -- a quotient that is refused needs so many as the limit
  pub refused_needs : (A : Type 0) (old new : Contents) (limit : ℕ) → old.nodes ≡ [] → old.limit ≡ limit → (states : List State) (fault : StepFault)
      → Explores old new findings states (Err fault)
      → OnRefused {A = A} (Err fault) (λ refused. NeedsAtLeast limit content)
  refused_needs A old new limit empty limit_is states Memory explores = tt
  refused_needs A old new limit empty limit_is states (Nodes refused) explores =
      let grows = explores.grows in
      let kept = grows.limit in
      let none : length old.nodes ≡ 0 = ap length empty in
      needs_held new.nodes grows.store.ordered grows.store.reduced (λ place node held. grows.needed place node (omega (arith, none)) held) limit
      (⊎_elim
      (λ full. let at_limit : length new.nodes ≡ new.limit = full.2.0 in omega (arith, at_limit, kept, limit_is))
      (⊎_elim (λ many. omega (arith, many, kept, limit_is)) (λ never. absurd never))
      explores.nodes.1)

-- what is needed does not depend on how signs are read
module _ (reading : SignReading) (content : Content Sign) where
  last-read : (word : Word) → last_state (read_content reading content) word ≡ last_state content word
  last-read word = after-read reading content (first_state content word.truth) word.letters

  next_by-read : (state : ℕ) (bits : Bits) → next_by (read_content reading content) state bits ≡ next_by content state bits
  next_by-read state bits = ap (λ found. behind (read_content reading content) found bits) (read_at reading content state) ∙ by (slice_get content.states state)
    where
      by : (found : Option (StateOf Sign)) → behind (read_content reading content) (option_map (read_state reading) found) bits ≡ behind content found bits
      by None = refl
      by (Some state) = refl

  module _ (count : ℕ) (needs : NeedsAtLeast count (read_content reading content)) where
    pub needs_unread : NeedsAtLeast count content
    needs_unread = record {
      classes = needs.classes;
      numbers = needs.numbers;
      nodes = needs.nodes;
      numbering = needs.numbering;
      reached = λ number within. (
          let to = needs.reached number within in (to.0, to.1, subst (λ s. IsNumberOf needs.classes needs.numbers s number) (last-read to.0) to.2)
          );
      ordered = needs.ordered;
      reduced = needs.reduced;
      needed = λ place node held. ⊎_elim inl
          (λ behind_word. inr (
            behind_word.0,
            behind_word.1,
            (
              behind_word.2.0,
              λ bits.
                  let at = below_from node.var behind_word.2.0 bits in
                  let end = leaf_of needs.nodes (end_at node bits) bits in
                  subst (λ s. IsNumberOf needs.classes needs.numbers (next_by content s at) end) (last-read behind_word.0)
                  (subst (λ s. IsNumberOf needs.classes needs.numbers s end) (next_by-read (last_state (read_content reading content) behind_word.0) at) (behind_word.2.1 bits)),
            ),
          ))
          (needs.needed place node held);
      many = needs.many;
    }

-- so of a refusal too
pub refused_unread : (A : Type 0) (reading : SignReading) (content : Content Sign) (limit : ℕ) (fault : StepFault)
    → OnRefused {A = Content Sign} (Err fault) (λ refused. NeedsAtLeast limit (read_content reading content))
    → OnRefused {A = A} (Err fault) (λ refused. NeedsAtLeast limit content)
refused_unread A reading content limit Memory refused = tt
refused_unread A reading content limit (Nodes most) refused = needs_unread reading content limit refused
