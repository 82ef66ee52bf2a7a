-- What stays true of an exploration when nodes are added and states are found.
use Rattle.std.proofs.Common.{◌≡◌, ◌⊎◌, inl, inr, ⊎_elim, ℕ, ◌+◌, ◌*◌, ◌<◌, ◌≤◌, List, ◌∷◌, [], ◌++◌, length, slice_get, Some, None, Err, refl, sym, ap, subst, ◌∙◌, arith}
use Rattle.std.proofs.Math.Nat.{add-mul, mul-le-mul_right}
use Rattle.std.proofs.lemmas.Bool.{cases_lt}
use Rattle.std.proofs.lemmas.Option.{slice_get_within, none-some}
use Rattle.ms_list.specs.declared.fault.StepFault.{StepFault}
use Rattle.ms_list.specs.declared.fault.StepFault.TheVariants.{Nodes, Memory}
use Rattle.ms_arena.specs.declared.node.Ref.{Ref}
use Rattle.ms_arena.specs.declared.node.Node.{Node}
use Rattle.ms_arena.specs.Diagram.{IsOrdered}
use Rattle.ms_arena.specs.Target.{Target, Extends}
use Rattle.ms_arena.proofs.Appending.{Extends-further, IsValid-extends}
use Rattle.ms_arena.proofs.Lists.{slice_get-append_left, slice_get-pushed}
use Rattle.ms_arena.proofs.Needs.{Implies, IsFormed-held, IsNeeded-extends, Meets-extends}
use Rattle.ms_diagram.specs.Store.{Contents}
use Rattle.ms_diagram.specs.Growth.{Grows, OnNodes, IsFull}
use Rattle.ms_dfa.specs.declared.state.State.{State}
use Rattle.ms_dfa_explore.specs.Explored.{Findings, AreMore, Origin, target_of, IsFound, GrowsForSome, Leads, Follows, OnRefused, IsFullForSome, AreTooMany, Explores}

-- a reference that leads where it should does so later
pub Leads-later : (old new : List Node) (early late : Target) (reference : Ref) → IsOrdered old → Extends old new → Implies early late → Leads old early reference → Leads new late reference
Leads-later old new early late reference ordered extends implies was = record {
  valid = IsValid-extends old new extends reference was.valid;
  meets = Meets-extends old new ordered extends early late implies reference was.valid was.meets;
}

module _ (early late : Findings) (more : AreMore early late) where
  -- what is right from an origin stays right
  origin_later : (origin : Origin) → IsFound early origin → IsFound late origin × Implies (target_of early origin) (target_of late origin)
  origin_later None found = (tt, more.starts)
  origin_later (Some state) found = (omega (arith, found, more.count), more.steps state found)

  -- a growth for some origin, and one for another behind it
  pub GrowsForSome-then : (one two three : Contents) (origin : Origin) → GrowsForSome one two early → IsFound late origin → Grows two three (target_of late origin)
      → GrowsForSome one three late
  GrowsForSome-then one two three origin first found second =
      let extends = Extends-further one.nodes two.nodes three.nodes first.extends second.extends in
      record {
        extends = extends;
        kept = λ reference valid bits. second.kept reference (IsValid-extends one.nodes two.nodes first.extends reference valid) bits ∙ first.kept reference valid bits;
        needed = λ place node behind held. ⊎_elim
            (λ within.
            let there : slice_get two.nodes place ≡ Some node = sym (slice_get-append_left two.nodes second.extends.0 place within) ∙ sym (ap (λ list. slice_get list place) second.extends.1) ∙ held in
            let was = first.needed place node behind there in
            let is = origin_later was.0 was.1 in (
              was.0,
              is.0,
              IsNeeded-extends two.nodes three.nodes first.store.ordered second.extends (target_of early was.0) (target_of late was.0) is.1 node
                  (IsFormed-held two.nodes first.store.ordered first.store.reduced place node there) was.2,
            ))
            (λ beyond. (origin, found, second.needed place node beyond held))
            (cases_lt place (length two.nodes));
        limit = second.limit ∙ first.limit;
        store = second.store;
      }

  -- the start leads where it should later too
  pub Leads-starts : (old new : List Node) (reference : Ref) → IsOrdered old → Extends old new → Leads old early.starts reference → Leads new late.starts reference
  Leads-starts old new reference ordered extends was = Leads-later old new early.starts late.starts reference ordered extends more.starts was

  -- one state more
  pub Follows-more : (old new : List Node) (states : List State) (state : State) → IsOrdered old → Extends old new → length states < early.count
      → Follows old early states → Leads new (late.steps (length states)) state.next → state.sign ≡ late.sign_of (length states) → Follows new late (states ++ state ∷ [])
  Follows-more old new states state ordered extends below was leads signed number found held = ⊎_elim
      (λ before.
      let within : number < length states = slice_get_within states number found before in
      let known : number < early.count = omega arith in
      let is = was number found before in (
        Leads-later old new (early.steps number) (late.steps number) found.next ordered extends (more.steps number known) is.0,
        is.1 ∙ sym (more.signs number known),
      ))
      (λ last.
      let leads_last = subst (λ (s : State). Leads new (late.steps (length states)) s.next) last.1 leads in
      let signed_last = subst (λ (s : State). s.sign ≡ late.sign_of (length states)) last.1 signed in (
        subst (λ place. Leads new (late.steps place) found.next) (sym last.0) leads_last,
        subst (λ place. found.sign ≡ late.sign_of place) (sym last.0) signed_last,
      ))
      (slice_get-pushed states state number found held)

-- a growth for an origin
pub GrowsForSome-one : (old new : Contents) (findings : Findings) (origin : Origin) → IsFound findings origin → Grows old new (target_of findings origin) → GrowsForSome old new findings
GrowsForSome-one old new findings origin is_found grows = record {
  extends = grows.extends;
  kept = grows.kept;
  needed = λ place node behind held. (origin, is_found, grows.needed place node behind held);
  limit = grows.limit;
  store = grows.store;
}

-- no state has been followed yet
pub Follows-none : (nodes : List Node) (findings : Findings) (states : List State) → states ≡ [] → Follows nodes findings states
Follows-none nodes findings states empty number state held = absurd (none-some state (subst (λ list. slice_get list number ≡ Some state) empty held))

-- why an exploration may be refused for want of nodes
abbrev pub IsRefusal : Contents → Contents → Findings → StepFault → Type 0
IsRefusal old new findings fault =
    OnRefused {A = Ref} (Err fault) (λ limit. (limit ≡ old.limit) × (IsFullForSome new findings ⊎ AreTooMany new findings ⊎ findings.LacksNumber))

-- the cause of a refusal of an origin is one of the exploration
pub refused_by : (old before new : Contents) (findings : Findings) (origin : Origin) (fault : StepFault) → IsFound findings origin → before.limit ≡ old.limit
    → OnNodes (Err fault) (λ limit. (limit ≡ before.limit) × (IsFull new (target_of findings origin) ⊎ findings.LacksNumber)) → IsRefusal old new findings fault
refused_by old before new findings origin Memory is_found same cause = tt
refused_by old before new findings origin (Nodes limit) is_found same cause =
    (cause.0 ∙ same, ⊎_elim (λ full. inl (origin, is_found, full)) (λ lacking. inr (inr lacking)) cause.1)

-- a state more would be one too many
pub too_many_by : (old new : Contents) (findings : Findings) (nodes limit done : ℕ) (fault : StepFault) → nodes ≡ length new.nodes → limit ≡ old.limit
    → new.limit ≡ old.limit → done < findings.count → OnRefused {A = Unit {0}} (Err fault) (λ refused. (refused ≡ limit) × (limit ≤ nodes + done)) → IsRefusal old new findings fault
too_many_by old new findings nodes limit done Memory counted same kept less cause = tt
too_many_by old new findings nodes limit done (Nodes refused) counted same kept less cause =
    let many : AreTooMany new findings = omega (arith, cause.1) in
    (cause.0 ∙ same, inr (inl many))

-- what is left of an exploration that is refused
pub Explores-refused : (old new : Contents) (findings : Findings) (states : List State) (fault : StepFault) → GrowsForSome old new findings
    → length new.nodes ≤ length old.nodes + findings.most_nodes + findings.count * findings.most_nodes → IsRefusal old new findings fault → Explores old new findings states (Err fault)
Explores-refused old new findings states fault grows few cause =
    record { grows = grows; start = tt; all = tt; follows = tt; within = tt; few = few; nodes = cause }

-- one diagram more, for a state that has been found
pub one_more : (old before new : List Node) (done count most : ℕ) → done < count → length before ≤ length old + most + done * most → length new ≤ length before + most
    → (length new ≤ length old + most + (done + 1) * most) × (length new ≤ length old + most + count * most)
one_more old before new done count most below few added =
    let next : (done + 1) * most ≡ done * most + 1 * most = add-mul done 1 most in
    let least : done + 1 ≤ count = omega (arith, below) in
    let times = mul-le-mul_right most least in
    (omega (arith, few, added, next), omega (arith, few, added, next, times))

-- findings are no fewer than themselves
pub AreMore-same : (findings : Findings) → AreMore findings findings
AreMore-same findings = record {
  count = omega arith;
  starts = λ bits number right. right;
  steps = λ state found bits number right. right;
  signs = λ state found. refl;
  most_nodes = refl;
}
