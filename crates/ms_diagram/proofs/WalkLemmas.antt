-- A walk from an item to its ends and back.
use Rattle.std.proofs.Common.{◌≡◌, ◌⊎◌, ℕ, Bool, true, false, List, [], ◌∷◌, ◌++◌, Result, Ok, Err, sym, subst, inl, inr, ⊎_elim}
use Rattle.ms_list.specs.declared.fault.StepFault.{StepFault}
use Rattle.ms_list.specs.declared.fault.StepFault.TheVariants.{Nodes, Memory}
use Rattle.ms_arena.specs.declared.node.Ref.{Ref}
use Rattle.ms_arena.specs.declared.node.Node.{Node}
use Rattle.ms_arena.specs.Diagram.{leaf_of, end_at, IsValid, TestsAbove}
use Rattle.ms_arena.specs.Bits.{below_from}
use Rattle.ms_arena.specs.Target.{IsFormed, IsNeeded}
use Rattle.ms_arena.proofs.Appending.{Extends-same, Extends-further, IsValid-extends}
use Rattle.ms_arena.proofs.Needs.{Ends, Implies, IsFormed-held, IsNeeded-part, Meets-extends, TestsAbove-low, TestsAbove-high}
use Rattle.ms_cache.proofs.MemoLemmas.{EachEntry-weaker}
use Rattle.ms_diagram.specs.declared.walk.Frame.{Frame}
use Rattle.ms_diagram.specs.declared.walk.Frame.TheVariants.{Low, High}
use Rattle.ms_diagram.specs.declared.walk.Turn.{Turn}
use Rattle.ms_diagram.specs.declared.walk.Turn.TheVariants.{Down, Up}
use Rattle.ms_diagram.specs.Growth.{Grows, Builds, OnNodes, IsFull}
use Rattle.ms_diagram.specs.inner.Notes.{KeepsOnly, NotesOnly}
use Rattle.ms_diagram.specs.Store.{Contents, IsStore}
use Rattle.ms_diagram.specs.Table.{EachEntry}
use Rattle.ms_diagram.specs.inner.Walk.{Rules, Follows, IsBuilt, AreParts, IsSplit, Answers, StandsFor, OnFault, AreLaws, IsWalked}
use Rattle.ms_diagram.proofs.Building.{Grows-same, Grows-then, Makes, Builds-made, Builds-then, Builds-found}
use Rattle.ms_diagram.proofs.TableLemmas.{EachEntry-kept, EachEntry-noted}
use Rattle.ms_diagram.proofs.Walking.{Leads, IsAt, IsWalking}

module _ {S I K : Type 0} (rules : Rules S I K) (equal : K → K → Bool) (laws : AreLaws rules equal) where
  -- one after another
  Follows-then : (one : S) (early : List Node) (two : S) (middle : List Node) (three : S) (late : List Node)
      → Follows rules one early two middle → Follows rules two middle three late → Follows rules one early three late
  Follows-then one early two middle three late first second = record {
    ordered_old = first.ordered_old;
    extends = Extends-further early middle late first.extends second.extends;
    later = laws.later_then one two three first.later second.later;
    ordered = second.ordered;
    reduced = second.reduced;
    right = second.right;
  }

  module _ (state : S) (nodes : List Node) (late : S) (new : List Node) (follows : Follows rules state nodes late new) where
    -- an answer stays one
    IsBuilt-later : (item : I) (made : Ref) → rules.Fits state nodes item → IsBuilt rules state nodes item made → IsBuilt rules late new item made
    IsBuilt-later item made fits built = record {
      valid = IsValid-extends nodes new follows.extends made built.valid;
      meets = Meets-extends nodes new follows.ordered_old follows.extends (rules.Wanted state nodes item) (rules.Wanted late new item)
          (laws.wanted_later state nodes late new follows item fits) made built.valid built.meets;
    }

    IsSplit-later : (whole : I) (var : ℕ) (low high : I) → IsSplit rules state nodes whole var low high → IsSplit rules late new whole var low high
    IsSplit-later whole var low high split = λ later last further. split later last (Follows-then state nodes late new later last follows further)

    StandsFor-later : (item other : I) → StandsFor rules state nodes item other → StandsFor rules late new item other
    StandsFor-later item other stands = λ later last further. stands later last (Follows-then state nodes late new later last follows further)

    -- the frames go on leading there
    Leads-later : Follows rules state nodes state nodes → (start : I) (frames : List (Frame I K)) (end : I) → Leads rules state nodes start frames end → Leads rules late new start frames end
    Leads-later same start [] end leads = StandsFor-later start end leads
    Leads-later same start (Low key var high ∷ frames) end leads = (
      leads.0,
      StandsFor-later start (rules.item_of key) leads.1,
      IsSplit-later (rules.item_of key) var leads.0 high leads.2,
      Leads-later same leads.0 frames end leads.3,
    )
    Leads-later same start (High key var made ∷ frames) end leads = (
      leads.0,
      leads.1,
      StandsFor-later start (rules.item_of key) leads.2,
      IsSplit-later (rules.item_of key) var leads.0 leads.1 leads.3,
      IsBuilt-later leads.0 made (leads.3 state nodes same).low_fits leads.4,
      Leads-later same leads.1 frames end leads.5,
    )

  module _ (state : S) (nodes : List Node) where
    -- an item stands for itself, and for what one stands for that stands for it
    StandsFor-same : (item : I) → rules.Fits state nodes item → StandsFor rules state nodes item item
    StandsFor-same item fits = λ late new follows. record {
      fits = laws.fits_later state nodes late new follows item fits;
      implies = λ bits number there. there;
      lacks = λ lacks. lacks;
      adds = λ before after adds. adds;
    }

    StandsFor-then : (one two three : I) → StandsFor rules state nodes one two → StandsFor rules state nodes two three → StandsFor rules state nodes one three
    StandsFor-then one two three first second = λ late new follows.
        let near = first late new follows in
        let far = second late new follows in
        record {
          fits = far.fits;
          implies = λ bits number there. near.implies bits number (far.implies bits number there);
          lacks = λ lacks. near.lacks (far.lacks lacks);
          adds = λ before after adds. near.adds before after (far.adds before after adds);
        }

    -- its answer is an answer
    IsBuilt-instead : (item other : I) (made : Ref) → Answers rules state nodes item other → IsBuilt rules state nodes other made → IsBuilt rules state nodes item made
    IsBuilt-instead item other made answers built = record {
      valid = built.valid;
      meets = λ bits. answers.implies bits (leaf_of nodes made bits) (built.meets bits);
    }

    -- another end, a frame more, and the last frame taken away
    Leads-instead : (start : I) (frames : List (Frame I K)) (middle end : I) → Leads rules state nodes start frames middle → StandsFor rules state nodes middle end
        → Leads rules state nodes start frames end
    Leads-instead start [] middle end leads stands = StandsFor-then start middle end leads stands
    Leads-instead start (Low key var high ∷ frames) middle end leads stands =
        (leads.0, leads.1, leads.2, Leads-instead leads.0 frames middle end leads.3 stands)
    Leads-instead start (High key var made ∷ frames) middle end leads stands =
        (leads.0, leads.1, leads.2, leads.3, leads.4, Leads-instead leads.1 frames middle end leads.5 stands)

    Leads-push : (start : I) (frames : List (Frame I K)) (middle : I) (frame : Frame I K) (end : I) → Leads rules state nodes start frames middle
        → Leads rules state nodes middle (frame ∷ []) end → Leads rules state nodes start (frames ++ frame ∷ []) end
    Leads-push start [] middle (Low key var high) end leads step = (step.0, StandsFor-then start middle (rules.item_of key) leads step.1, step.2, step.3)
    Leads-push start [] middle (High key var made) end leads step =
        (step.0, step.1, StandsFor-then start middle (rules.item_of key) leads step.2, step.3, step.4, step.5)
    Leads-push start (Low key var high ∷ frames) middle frame end leads step =
        (leads.0, leads.1, leads.2, Leads-push leads.0 frames middle frame end leads.3 step)
    Leads-push start (High key var made ∷ frames) middle frame end leads step =
        (leads.0, leads.1, leads.2, leads.3, leads.4, Leads-push leads.1 frames middle frame end leads.5 step)

    Leads-pop : Follows rules state nodes state nodes → (start : I) (frames : List (Frame I K)) (frame : Frame I K) (end : I) → rules.Fits state nodes start
        → Leads rules state nodes start (frames ++ frame ∷ []) end → (middle : I) × Leads rules state nodes start frames middle × Leads rules state nodes middle (frame ∷ []) end
    Leads-pop same start [] frame end fits leads = (start, StandsFor-same start fits, leads)
    Leads-pop same start (Low key var high ∷ frames) frame end fits leads =
        let rest = Leads-pop same leads.0 frames frame end (leads.2 state nodes same).low_fits leads.3 in
        (rest.0, (leads.0, leads.1, leads.2, rest.1), rest.2)
    Leads-pop same start (High key var made ∷ frames) frame end fits leads =
        let rest = Leads-pop same leads.1 frames frame end (leads.3 state nodes same).high_fits leads.5 in
        (rest.0, (leads.0, leads.1, leads.2, leads.3, leads.4, rest.1), rest.2)

    -- what the item asks for, the root asks for
    record IsWithin (root item : I) : Type 0 where
      fits : rules.Fits state nodes item
      needed : (node : Node) → IsFormed nodes node → IsNeeded nodes (rules.Wanted state nodes item) node → IsNeeded nodes (rules.Wanted state nodes root) node
      lacks : rules.Lacks state nodes item → rules.Lacks state nodes root
      adds : (before after : S) → rules.Adds state nodes item before after → rules.Adds state nodes root before after

    IsWithin-root : (root : I) → rules.Fits state nodes root → IsWithin root root
    IsWithin-root root fits = record { fits = fits; needed = λ node formed needed. needed; lacks = λ lacks. lacks; adds = λ before after adds. adds }

    module _ (same : Follows rules state nodes state nodes) (root : I) where
      IsWithin-low : (whole : I) (var : ℕ) (low high : I) → IsSplit rules state nodes whole var low high → IsWithin root whole → IsWithin root low
      IsWithin-low whole var low high split within =
          let parts = split state nodes same in
          record {
            fits = parts.low_fits;
            needed = λ node formed needed. within.needed node formed
                (IsNeeded-part nodes same.ordered same.reduced (rules.Wanted state nodes whole) (rules.Wanted state nodes low) var false parts.low_is node formed needed);
            lacks = λ lacks. within.lacks (parts.low_lacks lacks);
            adds = λ before after adds. within.adds before after (parts.low_adds before after adds);
          }

      IsWithin-high : (whole : I) (var : ℕ) (low high : I) → IsSplit rules state nodes whole var low high → IsWithin root whole → IsWithin root high
      IsWithin-high whole var low high split within =
          let parts = split state nodes same in
          record {
            fits = parts.high_fits;
            needed = λ node formed needed. within.needed node formed
                (IsNeeded-part nodes same.ordered same.reduced (rules.Wanted state nodes whole) (rules.Wanted state nodes high) var true parts.high_is node formed needed);
            lacks = λ lacks. within.lacks (parts.high_lacks lacks);
            adds = λ before after adds. within.adds before after (parts.high_adds before after adds);
          }

      IsWithin-instead : (item other : I) → StandsFor rules state nodes item other → IsWithin root item → IsWithin root other
      IsWithin-instead item other stands within =
          let answers = stands state nodes same in
          record {
            fits = answers.fits;
            needed = λ node formed needed. within.needed node formed
                (needed.0, λ bits. answers.implies (below_from node.var needed.0 bits) (leaf_of nodes (end_at node bits) bits) (needed.1 bits));
            lacks = λ lacks. within.lacks (answers.lacks lacks);
            adds = λ before after adds. within.adds before after (answers.adds before after adds);
          }

      Leads-within : (start : I) (frames : List (Frame I K)) (end : I) → Leads rules state nodes start frames end → IsWithin root start → IsWithin root end
      Leads-within start [] end leads within = IsWithin-instead start end leads within
      Leads-within start (Low key var high ∷ frames) end leads within =
          Leads-within leads.0 frames end leads.3 (IsWithin-low (rules.item_of key) var leads.0 high leads.2 (IsWithin-instead start (rules.item_of key) leads.1 within))
      Leads-within start (High key var made ∷ frames) end leads within =
          Leads-within leads.1 frames end leads.5 (IsWithin-high (rules.item_of key) var leads.0 leads.1 leads.3 (IsWithin-instead start (rules.item_of key) leads.2 within))

  module _ (one : Contents) (first : S) (root : I) (store : IsStore one.nodes one.limit) where
    -- a walk begins
    pub walk_begun : rules.IsRight first → rules.Fits first one.nodes root → (entries : List (K × Ref)) → EachEntry (rules.IsEntry first one.nodes) entries
        → IsWalking rules one first root one first entries [] (Down root)
    walk_begun right fits entries table = record {
      grows = Grows-same one (rules.Wanted first one.nodes root) store;
      later = laws.later_same first;
      right = right;
      fits = fits;
      added = laws.adds_same first one.nodes root first;
      table = table;
      at = StandsFor-same first one.nodes root fits;
    }

    module _ (now : Contents) (state : S) (entries : List (K × Ref)) (frames : List (Frame I K)) (turn : Turn I)
        (walking : IsWalking rules one first root now state entries frames turn) where
      as_it_is : Follows rules state now.nodes state now.nodes
      as_it_is = record {
        ordered_old = walking.grows.store.ordered;
        extends = Extends-same now.nodes;
        later = laws.later_same state;
        ordered = walking.grows.store.ordered;
        reduced = walking.grows.store.reduced;
        right = walking.right;
      }

      module _ (new : Contents) (late : S) (follows : Follows rules state now.nodes late new.nodes) (added : rules.Adds late new.nodes root state late)
          (entries_new : List (K × Ref)) (table : EachEntry (rules.IsEntry late new.nodes) entries_new) where
        added_since : rules.Adds late new.nodes root first late
        added_since = laws.adds_then late new.nodes root first state late follows.later
            (laws.adds_later state now.nodes late new.nodes follows root walking.fits first state walking.added) added

        -- it goes on
        walk_on : Grows now new (rules.Wanted late new.nodes root) → (frames_new : List (Frame I K)) (turn_new : Turn I) → IsAt rules late new.nodes root frames_new turn_new
            → IsWalking rules one first root new late entries_new frames_new turn_new
        walk_on grows frames_new turn_new at = record {
          grows = Grows-then one now new (rules.Wanted state now.nodes root) (rules.Wanted late new.nodes root) store
              (laws.wanted_later state now.nodes late new.nodes follows root walking.fits) walking.grows grows;
          later = laws.later_then first state late walking.later follows.later;
          right = follows.right;
          fits = laws.fits_later state now.nodes late new.nodes follows root walking.fits;
          added = added_since;
          table = table;
          at = at;
        }

        -- or ends
        walk_ends : (result : Result Ref StepFault) → Builds now new (rules.Wanted late new.nodes root) (rules.Lacks late new.nodes root) result
            → IsWalked rules one first root new late entries_new result
        walk_ends result builds = record {
          builds = Builds-then one now new (rules.Wanted state now.nodes root) (rules.Wanted late new.nodes root) (rules.Lacks late new.nodes root) result store
              (laws.wanted_later state now.nodes late new.nodes follows root walking.fits) walking.grows builds;
          later = laws.later_then first state late walking.later follows.later;
          right = follows.right;
          added = added_since;
          table = table;
        }

    -- down to an item
    module _ (now : Contents) (state : S) (entries : List (K × Ref)) (frames : List (Frame I K)) (item : I)
        (walking : IsWalking rules one first root now state entries frames (Down item)) where
      pub fits_down : rules.Fits state now.nodes item
      fits_down = (Leads-within state now.nodes (as_it_is now state entries frames (Down item) walking) root root frames item walking.at
          (IsWithin-root state now.nodes root walking.fits)).fits

      module _ (late : S) (later : rules.Later state late) (right : rules.IsRight late) (added : rules.Adds late now.nodes item state late)
          (entries_new : List (K × Ref)) (kept : KeepsOnly entries entries_new) where
        visit_follows : Follows rules state now.nodes late now.nodes
        visit_follows = record {
          ordered_old = walking.grows.store.ordered;
          extends = Extends-same now.nodes;
          later = later;
          ordered = walking.grows.store.ordered;
          reduced = walking.grows.store.reduced;
          right = right;
        }

        visit_same : Follows rules late now.nodes late now.nodes
        visit_same = record {
          ordered_old = walking.grows.store.ordered;
          extends = Extends-same now.nodes;
          later = laws.later_same late;
          ordered = walking.grows.store.ordered;
          reduced = walking.grows.store.reduced;
          right = right;
        }

        visit_leads : Leads rules late now.nodes root frames item
        visit_leads = Leads-later state now.nodes late now.nodes visit_follows (as_it_is now state entries frames (Down item) walking) root frames item walking.at

        visit_within : IsWithin late now.nodes root item
        visit_within = Leads-within late now.nodes visit_same root root frames item visit_leads
            (IsWithin-root late now.nodes root (laws.fits_later state now.nodes late now.nodes visit_follows root walking.fits))

        visit_table : EachEntry (rules.IsEntry late now.nodes) entries_new
        visit_table = EachEntry-kept (rules.IsEntry late now.nodes) entries entries_new kept
            (EachEntry-weaker (rules.IsEntry state now.nodes) (rules.IsEntry late now.nodes)
            (laws.entry_later state now.nodes late now.nodes visit_follows) entries walking.table)

        visit_on : (frames_new : List (Frame I K)) (turn_new : Turn I) → IsAt rules late now.nodes root frames_new turn_new
            → IsWalking rules one first root now late entries_new frames_new turn_new
        visit_on = walk_on now state entries frames (Down item) walking now late visit_follows (visit_within.adds state late added) entries_new visit_table
            (Grows-same now (rules.Wanted late now.nodes root) walking.grows.store)

        -- its answer is found
        pub visit_made : (made : Ref) → IsBuilt rules late now.nodes item made → IsWalking rules one first root now late entries_new frames (Up made)
        visit_made made built = visit_on frames (Up made) (item, visit_leads, built)

        -- or it is split
        pub visit_split : (key : K) (var : ℕ) (low high : I) → (rules.item_of key ≡ item) × IsSplit rules late now.nodes item var low high
            → IsWalking rules one first root now late entries_new (frames ++ Low key var high ∷ []) (Down low)
        visit_split key var low high split = visit_on (frames ++ Low key var high ∷ []) (Down low)
            (Leads-push late now.nodes root frames item (Low key var high) low visit_leads (
              low,
              subst (λ (other : I). StandsFor rules late now.nodes item other) (sym split.0) (StandsFor-same late now.nodes item visit_within.fits),
              subst (λ (other : I). IsSplit rules late now.nodes other var low high) (sym split.0) split.1,
              StandsFor-same late now.nodes low (split.1 late now.nodes visit_same).low_fits,
            ))

        -- or another item has its answer
        pub visit_instead : (other : I) → StandsFor rules late now.nodes item other → IsWalking rules one first root now late entries_new frames (Down other)
        visit_instead other stands = visit_on frames (Down other) (Leads-instead late now.nodes root frames item other visit_leads stands)

        -- or it is refused
        pub visit_refused : (fault : StepFault) → OnFault fault (λ limit. (limit ≡ now.limit) × rules.Lacks late now.nodes item)
            → IsWalked rules one first root now late entries_new (Err fault)
        visit_refused fault lacks = walk_ends now state entries frames (Down item) walking now late visit_follows (visit_within.adds state late added) entries_new visit_table
            (Err fault) (record {
              grows = Grows-same now (rules.Wanted late now.nodes root) walking.grows.store;
              valid = tt;
              function = tt;
              nodes = by fault lacks;
            })
          where
            by : (f : StepFault) → OnFault f (λ limit. (limit ≡ now.limit) × rules.Lacks late now.nodes item)
                → OnNodes (Err f) (λ limit. (limit ≡ now.limit) × (IsFull now (rules.Wanted late now.nodes root) ⊎ rules.Lacks late now.nodes root))
            by Memory given = tt
            by (Nodes limit) given = (given.0, inr (visit_within.lacks given.1))

    -- up with an answer, where no frame is left
    pub walk_done : (now : Contents) (state : S) (entries : List (K × Ref)) (frames : List (Frame I K)) (made : Ref)
        → IsWalking rules one first root now state entries frames (Up made) → frames ≡ [] → IsWalked rules one first root now state entries (Ok made)
    walk_done now state entries frames made walking none =
        let at = subst (λ (list : List (Frame I K)). IsAt rules state now.nodes root list (Up made)) none walking.at in
        let same = as_it_is now state entries frames (Up made) walking in
        let built = IsBuilt-instead state now.nodes root at.0 made (at.1 state now.nodes same) at.2 in
        walk_ends now state entries frames (Up made) walking now state same (laws.adds_same state now.nodes root state)
        entries walking.table (Ok made)
        (Builds-found now (rules.Wanted state now.nodes root) (rules.Lacks state now.nodes root) made walking.grows.store built.valid built.meets)

    -- where a frame waits for its low end, the high end is next
    pub walk_high : (now : Contents) (state : S) (entries : List (K × Ref)) (frames rest : List (Frame I K)) (key : K) (var : ℕ) (high : I) (made : Ref)
        → IsWalking rules one first root now state entries frames (Up made) → frames ≡ rest ++ Low key var high ∷ []
        → IsWalking rules one first root now state entries (rest ++ High key var made ∷ []) (Down high)
    walk_high now state entries frames rest key var high made walking last =
        let at = subst (λ (list : List (Frame I K)). IsAt rules state now.nodes root list (Up made)) last walking.at in
        let same = as_it_is now state entries frames (Up made) walking in
        let popped = Leads-pop state now.nodes same root rest (Low key var high) at.0 walking.fits at.1 in
        let frame = popped.2 in
        let built = IsBuilt-instead state now.nodes frame.0 at.0 made (frame.3 state now.nodes same) at.2 in
        record {
          grows = walking.grows;
          later = walking.later;
          right = walking.right;
          fits = walking.fits;
          added = walking.added;
          table = walking.table;
          at = Leads-push state now.nodes root rest popped.0 (High key var made) high popped.1
              (frame.0, high, frame.1, frame.2, built, StandsFor-same state now.nodes high (frame.2 state now.nodes same).high_fits);
        }

    -- where it waits for its high end, the node over both answers is made
    module _ (now : Contents) (state : S) (entries : List (K × Ref)) (frames rest : List (Frame I K)) (key : K) (var : ℕ) (low_end made : Ref)
        (walking : IsWalking rules one first root now state entries frames (Up made)) (last : frames ≡ rest ++ High key var low_end ∷ []) where
      same : Follows rules state now.nodes state now.nodes
      same = as_it_is now state entries frames (Up made) walking

      at_last : IsAt rules state now.nodes root (rest ++ High key var low_end ∷ []) (Up made)
      at_last = subst (λ (list : List (Frame I K)). IsAt rules state now.nodes root list (Up made)) last walking.at

      popped : (middle : I) × Leads rules state now.nodes root rest middle × Leads rules state now.nodes middle (High key var low_end ∷ []) at_last.0
      popped = Leads-pop state now.nodes same root rest (High key var low_end) at_last.0 walking.fits at_last.1

      frame : Leads rules state now.nodes popped.0 (High key var low_end ∷ []) at_last.0
      frame = popped.2

      parts : AreParts rules state now.nodes (rules.item_of key) var frame.0 frame.1
      parts = frame.3 state now.nodes same

      built : IsBuilt rules state now.nodes frame.1 made
      built = IsBuilt-instead state now.nodes frame.1 at_last.0 made (frame.5 state now.nodes same) at_last.2

      ends : Ends now.nodes (rules.Wanted state now.nodes (rules.item_of key)) (rules.Wanted state now.nodes frame.0) (rules.Wanted state now.nodes frame.1) var low_end made
      ends = record {
        low_is = parts.low_is;
        high_is = parts.high_is;
        valid_low = frame.4.valid;
        valid_high = built.valid;
        low_meets = frame.4.meets;
        high_meets = built.meets;
      }

      pub end_valid_low : IsValid now.nodes low_end
      end_valid_low = ends.valid_low

      pub end_above_low : TestsAbove now.nodes var low_end
      end_above_low = TestsAbove-low now.nodes same.ordered same.reduced (rules.Wanted state now.nodes (rules.item_of key)) (rules.Wanted state now.nodes frame.0)
          (rules.Wanted state now.nodes frame.1) var low_end made ends

      pub end_above_high : TestsAbove now.nodes var made
      end_above_high = TestsAbove-high now.nodes same.ordered same.reduced (rules.Wanted state now.nodes (rules.item_of key)) (rules.Wanted state now.nodes frame.0)
          (rules.Wanted state now.nodes frame.1) var low_end made ends

      module _ (new : Contents) (result : Result Ref StepFault) (makes : Makes now new var low_end made result) where
        node_builds : Builds now new (rules.Wanted state now.nodes (rules.item_of key)) ⊥ result
        node_builds = Builds-made now new walking.grows.store (rules.Wanted state now.nodes (rules.item_of key)) (rules.Wanted state now.nodes frame.0)
            (rules.Wanted state now.nodes frame.1) ⊥ var low_end made ends result makes

        node_follows : Follows rules state now.nodes state new.nodes
        node_follows = record {
          ordered_old = same.ordered;
          extends = node_builds.grows.extends;
          later = same.later;
          ordered = node_builds.grows.store.ordered;
          reduced = node_builds.grows.store.reduced;
          right = same.right;
        }

        node_same : Follows rules state new.nodes state new.nodes
        node_same = record {
          ordered_old = node_builds.grows.store.ordered;
          extends = Extends-same new.nodes;
          later = same.later;
          ordered = node_builds.grows.store.ordered;
          reduced = node_builds.grows.store.reduced;
          right = same.right;
        }

        node_leads : Leads rules state new.nodes root rest popped.0
        node_leads = Leads-later state now.nodes state new.nodes node_follows same root rest popped.0 popped.1

        node_stands : StandsFor rules state new.nodes popped.0 (rules.item_of key)
        node_stands = StandsFor-later state now.nodes state new.nodes node_follows popped.0 (rules.item_of key) frame.2

        node_within : IsWithin state new.nodes root (rules.item_of key)
        node_within = IsWithin-instead state new.nodes node_same root popped.0 (rules.item_of key) node_stands
            (Leads-within state new.nodes node_same root root rest popped.0 node_leads
            (IsWithin-root state new.nodes root (laws.fits_later state now.nodes state new.nodes node_follows root walking.fits)))

        node_implies : Implies (rules.Wanted state now.nodes (rules.item_of key)) (rules.Wanted state new.nodes (rules.item_of key))
        node_implies = laws.wanted_later state now.nodes state new.nodes node_follows (rules.item_of key) (frame.2 state now.nodes same).fits

        node_needed : (node : Node) → IsFormed new.nodes node → IsNeeded new.nodes (rules.Wanted state now.nodes (rules.item_of key)) node
            → IsNeeded new.nodes (rules.Wanted state new.nodes root) node
        node_needed node formed needed = node_within.needed node formed
            (needed.0, λ bits. node_implies (below_from node.var needed.0 bits) (leaf_of new.nodes (end_at node bits) bits) (needed.1 bits))

        node_grows : Grows now new (rules.Wanted state new.nodes root)
        node_grows = record {
          extends = node_builds.grows.extends;
          kept = node_builds.grows.kept;
          needed = λ place node behind held. node_needed node
              (IsFormed-held new.nodes node_builds.grows.store.ordered node_builds.grows.store.reduced place node held) (node_builds.grows.needed place node behind held);
          limit = node_builds.grows.limit;
          store = node_builds.grows.store;
        }

        node_table : EachEntry (rules.IsEntry state new.nodes) entries
        node_table = EachEntry-weaker (rules.IsEntry state now.nodes) (rules.IsEntry state new.nodes)
            (laws.entry_later state now.nodes state new.nodes node_follows) entries walking.table

      -- it is refused
      pub node_refused : (new : Contents) (fault : StepFault) → Makes now new var low_end made (Err fault) → IsWalked rules one first root new state entries (Err fault)
      node_refused new fault makes = walk_ends now state entries frames (Up made) walking new state (node_follows new (Err fault) makes)
          (laws.adds_same state new.nodes root state) entries (node_table new (Err fault) makes) (Err fault) (record {
            grows = node_grows new (Err fault) makes;
            valid = tt;
            function = tt;
            nodes = by fault (node_needed new (Err fault) makes) (node_builds new (Err fault) makes).nodes;
          })
        where
          by : (f : StepFault) → ((node : Node) → IsFormed new.nodes node → IsNeeded new.nodes (rules.Wanted state now.nodes (rules.item_of key)) node → IsNeeded new.nodes (rules.Wanted state new.nodes root) node)
              → OnNodes (Err f) (λ limit. (limit ≡ now.limit) × (IsFull new (rules.Wanted state now.nodes (rules.item_of key)) ⊎ ⊥))
              → OnNodes (Err f) (λ limit. (limit ≡ now.limit) × (IsFull new (rules.Wanted state new.nodes root) ⊎ rules.Lacks state new.nodes root))
          by Memory needed given = tt
          by (Nodes limit) needed given = (given.0, ⊎_elim (λ full. inl (full.0, (full.1.0, full.1.1, full.1.2, needed full.1.0 full.1.1 full.1.3))) (λ never. absurd never) given.1)

      module _ (new : Contents) (node : Ref) (makes : Makes now new var low_end made (Ok node)) (entries_new : List (K × Ref))
          (noted : NotesOnly equal entries entries_new key node) where
        node_built : IsBuilt rules state new.nodes (rules.item_of key) node
        node_built = record {
          valid = (node_builds new (Ok node) makes).valid;
          meets = λ bits. node_implies new (Ok node) makes bits (leaf_of new.nodes node bits) ((node_builds new (Ok node) makes).function bits);
        }

        node_entry : rules.IsEntry state new.nodes key node
        node_entry = laws.entry_built state new.nodes key node (node_within new (Ok node) makes).fits node_built

        node_remembered : EachEntry (rules.IsEntry state new.nodes) entries_new
        node_remembered = EachEntry-noted (rules.IsEntry state new.nodes) equal key node (λ other passes. laws.entry_same state new.nodes key other node passes node_entry)
            node_entry entries entries_new noted (node_table new (Ok node) makes)

        -- or it is the answer
        pub walk_node : IsWalking rules one first root new state entries_new rest (Up node)
        walk_node = walk_on now state entries frames (Up made) walking new state (node_follows new (Ok node) makes) (laws.adds_same state new.nodes root state)
            entries_new node_remembered (node_grows new (Ok node) makes) rest (Up node) (
              popped.0,
              node_leads new (Ok node) makes,
              IsBuilt-instead state new.nodes popped.0 (rules.item_of key) node (node_stands new (Ok node) makes state new.nodes (node_same new (Ok node) makes)) node_built,
            )

        -- for whose entry there is no memory
        pub node_forgotten : IsWalked rules one first root new state entries_new (Err Memory)
        node_forgotten = walk_ends now state entries frames (Up made) walking new state (node_follows new (Ok node) makes) (laws.adds_same state new.nodes root state)
            entries_new node_remembered (Err Memory) (record { grows = node_grows new (Ok node) makes; valid = tt; function = tt; nodes = tt })
