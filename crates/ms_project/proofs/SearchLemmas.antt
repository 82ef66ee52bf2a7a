-- A product is ready for the search for sets, and stays one while sets are found.
use Rattle.std.proofs.Common.{◌≡◌, ℕ, ⊎_elim, inl, inr, List, Result, Ok, Err, sym, ap, subst, ◌∙◌}
use Rattle.std.specs.Prelude.{map as map_list}
use Rattle.std.proofs.lemmas.Option.{none-some}
use Rattle.ms_list.specs.declared.fault.StepFault.{StepFault}
use Rattle.ms_list.specs.declared.fault.StepFault.TheVariants.{Nodes, Memory}
use Rattle.ms_arena.specs.declared.node.Ref.{Ref}
use Rattle.ms_diagram.specs.Store.{Contents, IsStore}
use Rattle.ms_dfa.specs.Automaton.{IsAutomaton}
use Rattle.ms_dfa.specs.declared.state.State.{State}
use Rattle.ms_logic_words.specs.declared.sign.Sign.{Sign}
use Rattle.ms_logic.specs.Assignment.{Variable}
use Rattle.ms_logic_words.specs.Content.{Content}
use Rattle.ms_dfa_explore.specs.Explored.{OnRefused}
use Rattle.ms_dfa_explore.specs.Tracks.{place_of}
use Rattle.ms_logic.specs.Lists.{IsAmong}
use Rattle.ms_dfa_explore.proofs.AmongLemmas.{leads_to}
use Rattle.ms_dfa_explore.proofs.RunLemmas.{IsClosed-explored}
use Rattle.ms_product.specs.declared.op.Op.TheVariants.{And}
use Rattle.ms_product.specs.Pairing.{AreReachedPairs, product_findings}
use Rattle.ms_product.proofs.ProductLemmas.{IsOver-product}
use Rattle.ms_quotient.specs.declared.marks.Marks.{Marks}
use Rattle.ms_product.specs.Pairing.{IsPairedIn, IsPairedStore}
use Rattle.ms_project.specs.Paired.{IsDomainFor, operands_for, marks_of_pair, places_left}
use Rattle.ms_project.specs.Projection.{IsProjection, NeedsAtLeast, ReachedNeedsAtLeast, begun_behind}
use Rattle.ms_project.specs.Subsetting.{Subsetting, IsReadyForSets, IsLaterSubsetting, AreSetsFound, SetsAreAtLeast, begun}
use Rattle.ms_project.proofs.LeaveLemmas.{length-places_left, places_left-rise}

module _ (body domain : Content Sign) (body_is : IsAutomaton body) (domain_is : IsAutomaton domain) (is_domain : IsDomainFor body domain) (own : Variable) (own_among : IsAmong body.variables own)
    (store : Contents) (is_store : IsStore store.nodes store.limit) (pairs : List (ℕ × ℕ)) (start : Ref) (states : List State) (is : IsPairedIn store.nodes And (operands_for body domain) pairs start states) where
  abbrev pub at_first : Subsetting
  at_first = begun body store start states (place_of own.name body.variables) (places_left own.name 0 body.variables)

  -- a product is ready for sets
  pub ready_at_first : IsReadyForSets at_first
  ready_at_first = record {
    closed =
        IsClosed-explored store.nodes body.mode body.variables start states (product_findings And (operands_for body domain) pairs) is_store.ordered is_store.reduced
        (IsOver-product And (operands_for body domain) body.variables body_is.ordered body_is.closed (leads_to body.variables body.variables body_is.rising body_is.rising (λ v among. among))
        domain_is.ordered domain_is.closed (leads_to domain.variables body.variables domain_is.rising body_is.rising is_domain.among) pairs is.numbering is.are)
        is.starts is.all is.follows;
    members = λ number set held. absurd (none-some set held);
    long = length-places_left own.name 0 body.variables;
    rising = places_left-rise body.variables body_is.rising own own_among;
  }

  -- what is found behind it is a projection
  pub projection_found : (v : Subsetting) → IsLaterSubsetting at_first v → (held : Contents) (outer_start : Ref) (outer_states : List State) → AreSetsFound v held outer_start outer_states
      → (marks : List Marks) → marks ≡ map_list (marks_of_pair body domain) pairs → IsProjection body domain own.name marks v held outer_start outer_states
  projection_found v later held outer_start outer_states found marks marks_are =
      let from : v ≡ record at_first { sets = v.sets } = later.same in
      record {
        same = from ∙ ap (λ (u : Subsetting). record { body = body; inner = u.inner; start = u.start; states = u.states; bound = place_of own.name body.variables; back = places_left own.name 0 body.variables; sets = v.sets }) (sym from);
        pairs = pairs;
        paired =
            subst (λ (u : Subsetting). IsPairedIn u.inner.nodes And (operands_for body domain) pairs u.start u.states) (sym from) is;
        marks_are = marks_are;
        ready = later.ready ready_at_first;
        found = found;
      }

-- what is refused behind a product of pairs that are reached
pub sets_refused : (A : Type 0) (body domain : Content Sign) (name : ℕ) (store : Contents) (pairs : List (ℕ × ℕ)) (start : Ref) (states : List State) → IsPairedIn store.nodes And (operands_for body domain) pairs start states
    → (limit : ℕ) → IsPairedStore store limit And (operands_for body domain) pairs → AreReachedPairs (operands_for body domain) pairs → (result : Result A StepFault)
    → OnRefused result (λ refused. (refused ≡ limit) × SetsAreAtLeast refused (begun_behind body name store start states)) → OnRefused result (λ refused. (refused ≡ limit) × ReachedNeedsAtLeast limit body domain name)
sets_refused A body domain name store pairs start states is limit needed reached (Ok made) cause = tt
sets_refused A body domain name store pairs start states is limit needed reached (Err Memory) cause = tt
sets_refused A body domain name store pairs start states is limit needed reached (Err (Nodes refused)) cause =
    let same : refused ≡ limit = cause.0 in (
      same,
      inr (record {
        sets = record { inner = store; start = start; states = states; pairs = pairs; paired = is; needed = needed; sets = subst (λ n. SetsAreAtLeast n (begun_behind body name store start states)) same cause.1 };
        reached = reached;
      }),
    )

-- the cause of a refusal, said otherwise
pub behind_refused : (A B : Type 0) (limit : ℕ) (Cause Other : ℕ → Type 0) → ((refused : ℕ) → Cause refused → Other refused) → (fault : StepFault)
    → OnRefused {A = A} (Err fault) (λ refused. (refused ≡ limit) × Cause refused) → OnRefused {A = B} (Err fault) (λ refused. (refused ≡ limit) × Other refused)
behind_refused A B limit Cause Other otherwise Memory cause = tt
behind_refused A B limit Cause Other otherwise (Nodes refused) cause = (cause.0, otherwise refused cause.1)

-- two causes of one refusal
pub both_refused : (A : Type 0) (Cause : ℕ → Type 0) (limit : ℕ) (Other : Type 0) (result : Result A StepFault) → ((refused : ℕ) → Cause refused → refused ≡ limit)
    → OnRefused result Cause → OnRefused result (λ refused. Other) → OnRefused result (λ refused. (refused ≡ limit) × Other)
both_refused A Cause limit Other (Ok made) is cause other = tt
both_refused A Cause limit Other (Err Memory) is cause other = tt
both_refused A Cause limit Other (Err (Nodes refused)) is cause other = (is refused cause, other)

-- what is needed of pairs that are reached is needed
pub needs_refused : (A : Type 0) (limit : ℕ) (body domain : Content Sign) (name : ℕ) (result : Result A StepFault) → OnRefused result (λ refused. (refused ≡ limit) × ReachedNeedsAtLeast limit body domain name)
    → OnRefused result (λ refused. (refused ≡ limit) × NeedsAtLeast limit body domain name)
needs_refused A limit body domain name (Ok made) cause = tt
needs_refused A limit body domain name (Err Memory) cause = tt
needs_refused A limit body domain name (Err (Nodes refused)) cause = (cause.0, ⊎_elim (λ pairs. inl pairs.least) (λ sets. inr sets.sets) cause.1)
