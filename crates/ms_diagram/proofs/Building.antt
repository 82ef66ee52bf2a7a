-- The scheme of each call that builds a diagram: split the target at a variable, build the two parts, and make a node.
use Rattle.std.proofs.Common.{◌≡◌, ◌≢◌, ℕ, ◌⊎◌, Bool, true, false, if◌then◌else◌, List, length, Result, Ok, Err, IfOk, OnErr, MatchResult, refl, sym, ap, subst, ◌∙◌, inl, inr, ⊎_elim}
use Rattle.std.proofs.lemmas.Result.{MatchResult-weaker}
use Rattle.ms_list.specs.declared.fault.StepFault.{StepFault}
use Rattle.ms_list.specs.declared.fault.StepFault.TheVariants.{Nodes, Memory}
use Rattle.ms_arena.specs.declared.node.Ref.{Ref}
use Rattle.ms_arena.specs.declared.node.Node.{Node}
use Rattle.ms_arena.specs.Diagram.{Bits, end_at, leaf_of, IsValid, TestsAbove}
use Rattle.ms_arena.specs.Bits.{below_from, with_bit}
use Rattle.ms_arena.specs.Target.{Target, Meets, IsNeeded, Extends, Appends, IsNew, LacksNeeded}
use Rattle.ms_arena.proofs.Appending.{Extends-same, Extends-further, Extends-from_appends, IsValid-extends, leaf_of-extends}
use Rattle.ms_arena.proofs.Needs.{Implies, IsPart, Ends, Meets-extends, AddsNeeded-none, AddsNeeded-then, AddsNeeded-part, LacksNeeded-part, AddsNeeded-ends, Meets-ends, IsFormed-ends, IsNeeded-ends, TestsAbove-low, TestsAbove-high}
use Rattle.ms_diagram.specs.Store.{Contents, IsStore}
use Rattle.ms_diagram.specs.Growth.{KeepsFunctions, Grows, IsFull, OnNodes, Builds}

-- what extends a list keeps its functions
pub KeepsFunctions-extends : (old new : List Node) (limit : ℕ) → IsStore old limit → Extends old new → KeepsFunctions old new
KeepsFunctions-extends old new limit store extends reference valid bits = leaf_of-extends old new extends store.ordered reference bits valid

-- a store that stays as it is
pub Grows-same : (store : Contents) (target : Target) → IsStore store.nodes store.limit → Grows store store target
Grows-same store target is = record {
  extends = Extends-same store.nodes;
  kept = λ reference valid bits. refl;
  needed = AddsNeeded-none store.nodes target;
  limit = refl;
  store = is;
}

-- what grows for a part grows for the whole
pub Grows-part : (old new : Contents) (whole part : Target) (var : ℕ) (bit : Bool) → IsPart whole part var bit → Grows old new part → Grows old new whole
Grows-part old new whole part var bit is grows = record {
  extends = grows.extends;
  kept = grows.kept;
  needed = AddsNeeded-part new.nodes grows.store.ordered grows.store.reduced whole part var bit is old.nodes grows.needed;
  limit = grows.limit;
  store = grows.store;
}

-- one growth after another
pub Grows-then : (one two three : Contents) (early late : Target) → IsStore one.nodes one.limit → Implies early late
    → Grows one two early → Grows two three late → Grows one three late
Grows-then one two three early late store implies first second =
    let extends = Extends-further one.nodes two.nodes three.nodes first.extends second.extends in
    record {
      extends = extends;
      kept = KeepsFunctions-extends one.nodes three.nodes one.limit store extends;
      needed = AddsNeeded-then one.nodes two.nodes three.nodes early late first.store.ordered first.store.reduced second.extends implies first.needed second.needed;
      limit = second.limit ∙ first.limit;
      store = second.store;
    }

-- a part of a target is one of what the target implies
pub IsPart-implies : (strong weak part : Target) (var : ℕ) (bit : Bool) → Implies strong weak → IsPart strong part var bit → IsPart weak part var bit
IsPart-implies strong weak part var bit implies is = record {
  fixes = λ bits number there. implies (with_bit bits var bit) number (is.fixes bits number there);
  single = is.single;
  blind = is.blind;
}

-- a target that the store cannot hold for want of a node that a part needs
pub IsFull-part : (store : Contents) (whole part : Target) (var : ℕ) (bit : Bool) → IsStore store.nodes store.limit → IsPart whole part var bit
    → IsFull store part → IsFull store whole
IsFull-part store whole part var bit is part_is full = (full.0, LacksNeeded-part store.nodes is.ordered is.reduced whole part var bit part_is full.1)

-- what `mk` promises of the node over two ends
pub record Makes (old new : Contents) (var : ℕ) (low high : Ref) (result : Result Ref StepFault) : Type 0 where
  pub valid : IfOk result (IsValid new.nodes)
  pub function : IfOk result (λ made. (bits : Bits) → leaf_of new.nodes made bits ≡ (if bits var then leaf_of old.nodes high bits else leaf_of old.nodes low bits))
  pub appends : Appends old.nodes new.nodes (record { var = var; low = low; high = high })
  pub refused : OnErr result (new.nodes ≡ old.nodes)
  pub limit : new.limit ≡ old.limit
  pub store : IsStore new.nodes new.limit
  pub only_full : OnNodes result (λ limit. (limit ≡ old.limit) × (low ≢ high)
      × IsNew old.nodes (record { var = var; low = low; high = high }) × (length old.nodes ≡ old.limit))

module _ (old new : Contents) (store : IsStore old.nodes old.limit) (whole low_part high_part : Target) (lacks : Type 0) (var : ℕ) (low high : Ref)
    (ends : Ends old.nodes whole low_part high_part var low high) where
  -- the node over the two ends is a growth for the whole
  grows_made : Extends old.nodes new.nodes → IsStore new.nodes new.limit → new.limit ≡ old.limit → Appends old.nodes new.nodes (record { var = var; low = low; high = high }) → Grows old new whole
  grows_made extends still limit appends = record {
    extends = extends;
    kept = KeepsFunctions-extends old.nodes new.nodes old.limit store extends;
    needed = AddsNeeded-ends old.nodes store.ordered store.reduced whole low_part high_part var low high ends new.nodes appends;
    limit = limit;
    store = still;
  }

  -- where it is refused for want of nodes, the store is full
  full_made : new.nodes ≡ old.nodes → new.limit ≡ old.limit → low ≢ high → IsNew old.nodes (record { var = var; low = low; high = high })
      → length old.nodes ≡ old.limit → IsFull new whole
  full_made same limit differ is_new full = (
    ap (λ list. length list) same ∙ full ∙ sym limit,
    subst (λ list. LacksNeeded list whole) (sym same) (
      record { var = var; low = low; high = high },
      IsFormed-ends old.nodes store.ordered store.reduced whole low_part high_part var low high ends differ,
      is_new,
      IsNeeded-ends old.nodes store.ordered store.reduced whole low_part high_part var low high ends,
    ),
  )

  -- so `mk` over the two ends builds a diagram for the whole
  pub Builds-made : (result : Result Ref StepFault) → Makes old new var low high result → Builds old new whole lacks result
  Builds-made result makes =
      let extends = Extends-from_appends old.nodes new.nodes (record { var = var; low = low; high = high }) makes.appends in
      record {
        grows = grows_made extends makes.store makes.limit makes.appends;
        valid = makes.valid;
        function = MatchResult-weaker result makes.function
            (λ made function. Meets-ends old.nodes store.ordered store.reduced whole low_part high_part var low high ends new.nodes made function) (λ fault _. tt);
        nodes = nodes_by result makes.refused makes.only_full makes.limit;
      }
    where
      nodes_by : (r : Result Ref StepFault) → OnErr r (new.nodes ≡ old.nodes)
          → OnNodes r (λ limit. (limit ≡ old.limit) × (low ≢ high) × IsNew old.nodes (record { var = var; low = low; high = high }) × (length old.nodes ≡ old.limit))
          → new.limit ≡ old.limit → OnNodes r (λ limit. (limit ≡ old.limit) × (IsFull new whole ⊎ lacks))
      nodes_by (Ok made) refused full limit = tt
      nodes_by (Err Memory) refused full limit = tt
      nodes_by (Err (Nodes n)) refused full limit = (full.0, inl (full_made refused limit full.1 full.2 full.3))

-- a refusal of a part is one of the whole
pub Builds-part : (old new : Contents) (whole part : Target) (lacks lacks_part : Type 0) (var : ℕ) (bit : Bool) → IsPart whole part var bit → (lacks_part → lacks)
    → (fault : StepFault) → Builds old new part lacks_part (Err fault) → Builds old new whole lacks (Err fault)
Builds-part old new whole part lacks lacks_part var bit is lift fault builds = record {
  grows = Grows-part old new whole part var bit is builds.grows;
  valid = tt;
  function = tt;
  nodes = by fault builds.nodes;
}
  where
    by : (f : StepFault) → OnNodes (Err f) (λ limit. (limit ≡ old.limit) × (IsFull new part ⊎ lacks_part)) → OnNodes (Err f) (λ limit. (limit ≡ old.limit) × (IsFull new whole ⊎ lacks))
    by Memory full = tt
    by (Nodes n) full = (full.0, ⊎_elim (λ f. inl (IsFull-part new whole part var bit builds.grows.store is f)) (λ l. inr (lift l)) full.1)

-- what is built for a target that asks for more is built for one that asks for less
pub Builds-implies : (old new : Contents) (strong weak : Target) (lacks_strong lacks : Type 0) → Implies strong weak → (lacks_strong → lacks)
    → (result : Result Ref StepFault) → Builds old new strong lacks_strong result → Builds old new weak lacks result
Builds-implies old new strong weak lacks_strong lacks implies lift result builds = record {
  grows = record {
    extends = builds.grows.extends;
    kept = builds.grows.kept;
    needed = λ place node behind held. needed_less node (builds.grows.needed place node behind held);
    limit = builds.grows.limit;
    store = builds.grows.store;
  };
  valid = builds.valid;
  function = MatchResult-weaker result builds.function
      (λ made meets bits. implies bits (leaf_of new.nodes made bits) (meets bits)) (λ fault _. tt);
  nodes = by result builds.nodes;
}
  where
    needed_less : (node : Node) → IsNeeded new.nodes strong node → IsNeeded new.nodes weak node
    needed_less node needed = (needed.0, λ bits. implies (below_from node.var needed.0 bits) (leaf_of new.nodes (end_at node bits) bits) (needed.1 bits))

    by : (r : Result Ref StepFault) → OnNodes r (λ limit. (limit ≡ old.limit) × (IsFull new strong ⊎ lacks_strong)) → OnNodes r (λ limit. (limit ≡ old.limit) × (IsFull new weak ⊎ lacks))
    by (Ok made) full = tt
    by (Err Memory) full = tt
    by (Err (Nodes n)) full = (
      full.0,
      ⊎_elim
          (λ f. inl (f.0, (f.1.0, f.1.1, f.1.2, needed_less f.1.0 f.1.3))) (λ l. inr (lift l)) full.1,
    )

-- what is built after a growth is built from its beginning
pub Builds-then : (one two three : Contents) (early late : Target) (lacks : Type 0) (result : Result Ref StepFault) → IsStore one.nodes one.limit → Implies early late
    → Grows one two early → Builds two three late lacks result → Builds one three late lacks result
Builds-then one two three early late lacks result store implies first second = record {
  grows = Grows-then one two three early late store implies first second.grows;
  valid = second.valid;
  function = second.function;
  nodes = by result second.nodes;
}
  where
    by : (r : Result Ref StepFault) → OnNodes r (λ limit. (limit ≡ two.limit) × (IsFull three late ⊎ lacks)) → OnNodes r (λ limit. (limit ≡ one.limit) × (IsFull three late ⊎ lacks))
    by (Ok made) full = tt
    by (Err Memory) full = tt
    by (Err (Nodes n)) full = (full.0 ∙ first.limit, full.1)

-- a reference that meets the target is built already
pub Builds-found : (store : Contents) (target : Target) (lacks : Type 0) (made : Ref) → IsStore store.nodes store.limit → IsValid store.nodes made → Meets store.nodes target made
    → Builds store store target lacks (Ok made)
Builds-found store target lacks made is valid meets = record {
  grows = Grows-same store target is;
  valid = valid;
  function = meets;
  nodes = tt;
}

-- where memory is refused, nothing is built
pub Builds-memory : (store : Contents) (target : Target) (lacks : Type 0) → IsStore store.nodes store.limit → Builds store store target lacks (Err Memory)
Builds-memory store target lacks is = record { grows = Grows-same store target is; valid = tt; function = tt; nodes = tt }

-- a step behind that hands the reference on, or has no memory
pub Builds-handed : (old new : Contents) (target : Target) (lacks : Type 0) (made : Ref) (result : Result Ref StepFault) → Builds old new target lacks (Ok made)
    → MatchResult result (λ handed. handed ≡ made) (λ fault. fault ≡ Memory) → Builds old new target lacks result
Builds-handed old new target lacks made (Ok handed) builds same = subst (λ r. Builds old new target lacks (Ok r)) (sym same) builds
Builds-handed old new target lacks made (Err fault) builds same =
    subst (λ f. Builds old new target lacks (Err f)) (sym same) (record { grows = builds.grows; valid = tt; function = tt; nodes = tt })

-- the whole step: the low part is built, then the high part, and then the node over both
module _ (one two three four : Contents) (early late low_early low_late high_part : Target) (lacks lacks_low lacks_high : Type 0) (var : ℕ) (low high : Ref)
    (store : IsStore one.nodes one.limit) (implies : Implies early late) (implies_low : Implies low_early low_late)
    (low_is_early : IsPart early low_early var false) (low_is : IsPart late low_late var false) (high_is : IsPart late high_part var true)
    (builds_low : Builds one two low_early lacks_low (Ok low)) where
  -- where the high part is refused
  pub Builds-high_refused : (lacks_high → lacks) → (fault : StepFault) → Builds two three high_part lacks_high (Err fault) → Builds one three late lacks (Err fault)
  Builds-high_refused lift fault builds =
      Builds-then one two three early late lacks (Err fault) store implies (Grows-part one two early low_early var false low_is_early builds_low.grows)
      (Builds-part two three late high_part lacks lacks_high var true high_is lift fault builds)

  module _ (builds_high : Builds two three high_part lacks_high (Ok high)) where
    ends_built : Ends three.nodes late low_late high_part var low high
    ends_built = record {
      low_is = low_is;
      high_is = high_is;
      valid_low = IsValid-extends two.nodes three.nodes builds_high.grows.extends low builds_low.valid;
      valid_high = builds_high.valid;
      low_meets = Meets-extends two.nodes three.nodes builds_low.grows.store.ordered builds_high.grows.extends low_early low_late implies_low low builds_low.valid builds_low.function;
      high_meets = builds_high.function;
    }

    -- the conditions of `mk`
    pub TestsAbove-low_built : TestsAbove three.nodes var low
    TestsAbove-low_built = TestsAbove-low three.nodes builds_high.grows.store.ordered builds_high.grows.store.reduced late low_late high_part var low high ends_built

    pub TestsAbove-high_built : TestsAbove three.nodes var high
    TestsAbove-high_built = TestsAbove-high three.nodes builds_high.grows.store.ordered builds_high.grows.store.reduced late low_late high_part var low high ends_built

    -- and what it gives
    pub Builds-node : (result : Result Ref StepFault) → Makes three four var low high result → Builds one four late lacks result
    Builds-node result makes =
        Builds-then one two four early late lacks result store implies (Grows-part one two early low_early var false low_is_early builds_low.grows)
        (Builds-then two three four late late lacks result builds_low.grows.store (λ bits number there. there)
        (Grows-part two three late high_part var true high_is builds_high.grows)
        (Builds-made three four builds_high.grows.store late low_late high_part lacks var low high ends_built result makes))

-- the same steps for targets that no numbering changes
module _ (one two three four : Contents) (whole low_part high_part : Target) (var : ℕ) (low high : Ref) (store : IsStore one.nodes one.limit)
    (low_is : IsPart whole low_part var false) (high_is : IsPart whole high_part var true) where
  module _ (builds_low : Builds one two low_part ⊥ (Ok low)) where
    pub fixed-high_refused : (fault : StepFault) → Builds two three high_part ⊥ (Err fault) → Builds one three whole ⊥ (Err fault)
    fixed-high_refused = Builds-high_refused one two three four whole whole low_part low_part high_part ⊥ ⊥ ⊥ var low high store
        (λ bits number there. there) (λ bits number there. there) low_is low_is high_is builds_low (λ never. never)

    module _ (builds_high : Builds two three high_part ⊥ (Ok high)) where
      pub fixed-above_low : TestsAbove three.nodes var low
      fixed-above_low = TestsAbove-low_built one two three four whole whole low_part low_part high_part ⊥ ⊥ ⊥ var low high store
          (λ bits number there. there) (λ bits number there. there) low_is low_is high_is builds_low builds_high

      pub fixed-above_high : TestsAbove three.nodes var high
      fixed-above_high = TestsAbove-high_built one two three four whole whole low_part low_part high_part ⊥ ⊥ ⊥ var low high store
          (λ bits number there. there) (λ bits number there. there) low_is low_is high_is builds_low builds_high

      pub fixed-node : (result : Result Ref StepFault) → Makes three four var low high result → Builds one four whole ⊥ result
      fixed-node = Builds-node one two three four whole whole low_part low_part high_part ⊥ ⊥ ⊥ var low high store
          (λ bits number there. there) (λ bits number there. there) low_is low_is high_is builds_low builds_high
