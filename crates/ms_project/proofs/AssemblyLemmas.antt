-- The parts of a projection make an automaton with the values of the quantified body.
use Rattle.std.proofs.Common.{◌≡◌, ℕ, ◌<◌, All, Bool, false, List, length, replicate, get_or, slice_get, Some, Result, Ok, Err, IfOk, refl, sym, ap, subst, ◌∙◌, arith}
use Rattle.std.specs.Prelude.{map as map_list}
use Rattle.std.proofs.lemmas.List.{length-map, get_or_default}
use Rattle.std.proofs.lemmas.Option.{slice_get_within, get_or_from_slice_get}
use Rattle.ms_arena.specs.declared.node.Ref.{Ref}
use Rattle.ms_arena.specs.declared.node.Node.{Node}
use Rattle.ms_arena.proofs.Lists.{slice_get-held}
use Rattle.ms_diagram.specs.Store.{Contents, bits_of}
use Rattle.ms_dfa.specs.Automaton.{IsAutomaton, content_of, state_of, states_of, variable_of, variables_of}
use Rattle.ms_dfa.specs.declared.state.State.{State}
use Rattle.ms_dfa.specs.declared.track.Track.{Track}
use Rattle.ms_dfa.proofs.States.{state_in}
use Rattle.ms_logic.specs.declared.mode.Mode.{Mode}
use Rattle.ms_logic.specs.declared.mode.Quant.{Quant}
use Rattle.ms_logic_words.specs.declared.sign.Sign.{Sign}
use Rattle.ms_logic_words.specs.declared.sign.Sign.TheVariants.{Yes, Outside}
use Rattle.ms_logic.specs.Assignment.{Variable}
use Rattle.ms_logic_words.specs.Content.{Content, StateOf, IsClosed, IsFollowed, is_in_letters}
use Rattle.ms_dfa.specs.Values.{HasValues, own_meaning}
use Rattle.ms_logic.specs.Lists.{IsAmong, without}
use Rattle.ms_dfa_explore.proofs.RunLemmas.{explored, length-states_of, IsClosed-explored}
use Rattle.ms_product.proofs.ChangeLemmas.{content_is}
use Rattle.ms_quotient.specs.declared.marks.Marks.{Marks}
use Rattle.ms_quotient.specs.Closure.{no_marks}
use Rattle.ms_quotient.specs.Way.{union_along}
use Rattle.ms_project.specs.Marks.{AreClosedMarks, can_be_empty}
use Rattle.ms_project.specs.Paired.{IsDomainFor, marks_of_pair}
use Rattle.ms_project.specs.Projection.{IsProjection, AreSignedSets}
use Rattle.ms_project.specs.Quantified.{quantified}
use Rattle.ms_project.specs.Signed.{AreSigned, TestBelow, zero_step}
use Rattle.ms_project.specs.Subsetting.{Subsetting, subset_findings, IsReadyForSets, AreSetsFound}
use Rattle.ms_project.proofs.FinalLemmas.{construction, into, projected, HasValues-projected, IsAutomaton-projected}
use Rattle.ms_project.proofs.LeaveLemmas.{IsLeftOut-rest}
use Rattle.ms_project.proofs.SetRunLemmas.{IsOver-sets}

-- a fact that follows from another holds of the value of a result too
pub IfOk-implies : {T E : Type 0} (r : Result T E) (P Q : T → Type 0) → ((x : T) → P x → Q x) → IfOk r P → IfOk r Q
IfOk-implies (Ok x) P Q implies holds = implies x holds
IfOk-implies (Err e) P Q implies holds = tt

-- the signs of all sets, by what was computed on the way
pub signed_sets : (mode : Mode) (q : Quant) (tracks : List Track) (marks given set_marks closed : List Marks) (sets read : List (List ℕ)) (nodes : List Node) (states own signed : List State) (count : ℕ) (empty : Bool)
    → given ≡ marks → read ≡ sets → own ≡ states → count ≡ length tracks → set_marks ≡ map_list (λ set. union_along given set no_marks) read
    → AreClosedMarks mode (map_list (zero_step nodes count) own) set_marks closed → empty ≡ can_be_empty mode (variables_of tracks) → AreSigned q empty closed states signed
    → AreSignedSets mode q (variables_of tracks) marks sets nodes states signed
signed_sets mode q tracks marks given set_marks closed sets read nodes states own signed count empty given_is read_is own_is count_is set_marks_are closes empty_is signs = record {
  closed = closed;
  closes =
      let counted : count ≡ length (variables_of tracks) = count_is ∙ sym (length-map tracks variable_of) in
      let marks_are : set_marks ≡ map_list (λ set. union_along marks set no_marks) sets =
      set_marks_are ∙ ap (λ (list : List Marks). map_list (λ set. union_along list set no_marks) read) given_is ∙ ap (map_list (λ (set : List ℕ). union_along marks set no_marks)) read_is in
      subst (λ (n : ℕ). AreClosedMarks mode (map_list (zero_step nodes n) states) (map_list (λ set. union_along marks set no_marks) sets) closed) counted
      (subst (λ (list : List State). AreClosedMarks mode (map_list (zero_step nodes count) list) (map_list (λ set. union_along marks set no_marks) sets) closed) own_is
      (subst (λ (list : List Marks). AreClosedMarks mode (map_list (zero_step nodes count) own) list closed) marks_are closes));
  signs = subst (λ test. AreSigned q test closed states signed) empty_is signs;
}

module _ (body domain : Content Sign) (body_is : IsAutomaton body) (domain_is : IsAutomaton domain) (is_domain : IsDomainFor body domain) (own : Variable) (own_among : IsAmong body.variables own)
    (marks : List Marks) (v : Subsetting) (held : Contents) (start : Ref) (states : List State) (p : IsProjection body domain own.name marks v held start states)
    (tracks : List Track) (tracks_are : variables_of tracks ≡ without own.name body.variables) where
  abbrev own_construction : Subsetting
  own_construction = construction body domain body_is domain_is is_domain own own_among v.inner v.start v.states v.sets p.pairs p.paired

  ready : IsReadyForSets own_construction
  ready = subst IsReadyForSets p.same p.ready

  found : AreSetsFound own_construction held start states
  found = subst (λ u. AreSetsFound u held start states) p.same p.found

  abbrev left : List Variable
  left = without own.name body.variables

  -- the members of the sets have marks
  pub members_marked : All (All (λ member. member < length marks)) v.sets
  members_marked k d within j e below =
      let set = slice_get-held v.sets k within in
      let set_is : get_or v.sets k d ≡ set.0 = get_or_from_slice_get v.sets k set.0 d set.1 in
      let less : j < length set.0 = subst (λ (s : List ℕ). j < length s) set_is below in
      let member = p.ready.members k set.0 set.1 (get_or set.0 j e) (j, less, get_or_default set.0 j (get_or set.0 j e) e less) in
      let same : get_or (get_or v.sets k d) j e ≡ get_or set.0 j e = ap (λ (s : List ℕ). get_or s j e) set_is in
      let counted : length marks ≡ length p.pairs = ap length p.marks_are ∙ length-map p.pairs (marks_of_pair body domain) in
      let all = p.paired.all in
      omega (arith, member, same, counted, all)

  closed_sets : IsClosed (explored held.nodes body.mode left start states (subset_findings own_construction))
  closed_sets =
      IsClosed-explored held.nodes body.mode left start states (subset_findings own_construction) found.store.ordered found.store.reduced
      (IsOver-sets own_construction ready found.inner.ordered found.numbering left (into body domain body_is domain_is is_domain own own_among v.inner v.start v.states v.sets p.pairs p.paired)
      (IsLeftOut-rest body.variables body_is.rising own own_among) (λ number. Outside))
      found.starts found.all found.follows

  state_followed : (place : ℕ) (state : State) → slice_get states place ≡ Some state → IsFollowed (explored held.nodes body.mode left start states (subset_findings own_construction)) is_in_letters state.next
  state_followed place state there =
      let at = state_in states place state there in
      subst (λ (s : StateOf Sign). IsFollowed (explored held.nodes body.mode left start states (subset_findings own_construction)) is_in_letters s.next)
      (get_or_from_slice_get (states_of states) place (state_of state) (state_of state) at)
      (closed_sets.next place (state_of state) (slice_get_within (states_of states) place (state_of state) at))

  counted : length tracks ≡ length left
  counted = sym (length-map tracks variable_of) ∙ ap length tracks_are

  pub states_test_below : TestBelow held.nodes (length tracks) states
  states_test_below place state there =
      let is = state_followed place state there in
      (is.valid, λ var tested. let at = is.tests var tested in let within = slice_get_within left var at.0 at.1 in omega (arith, within, counted))

  pub zeros_within : All (λ state. zero_step held.nodes (length tracks) state < length states) states
  zeros_within k d within =
      let at = slice_get-held states k within in
      let is = state_followed k at.0 at.1 in
      let below = is.states (bits_of (replicate (length tracks) false)) in
      let long = length-states_of states in
      subst (λ (s : State). zero_step held.nodes (length tracks) s < length states) (sym (get_or_from_slice_get states k at.0 d at.1)) (omega (arith, below, long))

  module _ (q : Quant) (signed : List State) (signs : AreSignedSets body.mode q (variables_of tracks) marks v.sets held.nodes states signed) where
    own_signs : AreSignedSets body.mode q left (map_list (marks_of_pair body domain) p.pairs) v.sets held.nodes states signed
    own_signs = subst (λ (list : List Marks). AreSignedSets body.mode q left list v.sets held.nodes states signed) p.marks_are
        (subst (λ (vs : List Variable). AreSignedSets body.mode q vs marks v.sets held.nodes states signed) tracks_are signs)

    abbrev outcome : Content Sign
    outcome = projected body domain body_is domain_is is_domain own own_among v.inner v.start v.states v.sets p.pairs p.paired ready found.inner q held start states found
        (map_list (λ set. union_along (map_list (marks_of_pair body domain) p.pairs) set no_marks) v.sets) own_signs.closed refl (map_list (zero_step held.nodes (length left)) states) refl own_signs.closes signed own_signs.signs

    content_same : (mode : Mode) → mode ≡ body.mode → content_of held.nodes mode tracks start signed ≡ outcome
    content_same mode mode_is = content_is held.nodes mode tracks start signed outcome refl mode_is tracks_are refl refl

    pub automaton_made : (mode : Mode) → mode ≡ body.mode → IsAutomaton (content_of held.nodes mode tracks start signed)
    automaton_made mode mode_is = subst IsAutomaton (sym (content_same mode mode_is))
        (IsAutomaton-projected body domain body_is domain_is is_domain own own_among v.inner v.start v.states v.sets p.pairs p.paired ready found.inner q held start states found
        (map_list (λ set. union_along (map_list (marks_of_pair body domain) p.pairs) set no_marks) v.sets) own_signs.closed refl (map_list (zero_step held.nodes (length left)) states) refl own_signs.closes signed own_signs.signs)

    pub values_made : (mode : Mode) → mode ≡ body.mode → (made : Content Sign) → made ≡ content_of held.nodes mode tracks start signed
        → HasValues (quantified q own (λ e. own_meaning domain e Yes) (own_meaning body)) made
    values_made mode mode_is made made_is = subst (HasValues (quantified q own (λ e. own_meaning domain e Yes) (own_meaning body))) (sym (made_is ∙ content_same mode mode_is))
        (HasValues-projected body domain body_is domain_is is_domain own own_among v.inner v.start v.states v.sets p.pairs p.paired ready found.inner q held start states found
        (map_list (λ set. union_along (map_list (marks_of_pair body domain) p.pairs) set no_marks) v.sets) own_signs.closed refl (map_list (zero_step held.nodes (length left)) states) refl own_signs.closes signed own_signs.signs)
