use Rattle.std.proofs.Common.{◌≡◌, ◌-◌, ◌≤◌, ◌++◌, ℕ, List, length, replicate, take, arith, sym, ap, subst, ◌∙◌}
use Rattle.std.proofs.lemmas.List.{take_all, with_items_is}
use Rattle.ms_diagram.specs.declared.computed_table.Bucket.{Bucket}
use Rattle.ms_diagram.specs.inner.Computed.{ArePlaced, HasMoved, entries_of, no_slots}
use Rattle.ms_diagram.specs.inner.Notes.{KeepsOnly}
use Rattle.ms_diagram.proofs.ComputedLemmas.{placed-longer, entries_of-longer}
use Rattle.ms_diagram.proofs.computed_table.grow.Goals as goal

-- what is made longer has empty buckets behind the old ones
longer : (old made : List Bucket) (count len : ℕ) (none : Bucket) → len ≡ length old → length old ≤ count → none ≡ no_slots
    → made ≡ take count old ++ replicate (count - len) none → made ≡ old ++ replicate (count - length old) no_slots
longer old made count len none is fits empty filled =
    filled
    ∙ ap (λ (front : List Bucket). front ++ replicate (count - len) none) (take_all count old fits)
    ∙ ap (λ (slots : Bucket). old ++ replicate (count - len) slots) empty
    ∙ ap (λ (number : ℕ). old ++ replicate (count - number) no_slots) is

pub place_again-requires-clause-placed : goal.place_again-requires-clause-placed
place_again-requires-clause-placed c =
    let old = c.args.buckets.now.items in
    let made = c.deref_mut.result.now in
    let fits : length old ≤ c.max-more.result = omega (arith, c.len-count.ensures, c.max-more.ensures, c.saturating_mul.ensures, c.args.buckets.now.ok.0) in
    let more = c.max-more.result - length old in
    let is : made ≡ old ++ replicate more no_slots =
    c.deref_mut.ensures.value ∙ longer old c.resize.new.self.items c.max-more.result _ c.empty.result c.args.buckets.now.ok.0 fits c.empty.ensures c.in-Ok.ensures.items in
    subst (λ buckets. ArePlaced (0, c.len-count.result) (length made) 0 buckets) (sym is)
    (placed-longer (length made) 0 c.len-count.result 0 old more (omega arith) (omega (arith, c.len-count.ensures, c.args.buckets.now.ok.0)))

pub returns-clause-moved : goal.returns-clause-moved
returns-clause-moved c =
    let old = c.args.buckets.now.items in
    let made = c.resize.new.self in
    let fits : length old ≤ c.max-more.result = omega (arith, c.len-count.ensures, c.max-more.ensures, c.saturating_mul.ensures, c.args.buckets.now.ok.0) in
    let is = longer old made.items c.max-more.result _ c.empty.result c.args.buckets.now.ok.0 fits c.empty.ensures c.in-Ok.ensures.items in
    let same : entries_of c.deref_mut.result.now ≡ entries_of old = ap entries_of (c.deref_mut.ensures.value ∙ is) ∙ entries_of-longer old _ in
    let placed = c.place_again.ensures in
    let moved : HasMoved old c.place_again.new.buckets = record { room = placed.room; placed = placed.placed; only = subst (λ entries. KeepsOnly entries (entries_of c.place_again.new.buckets)) same placed.only } in
    let written = with_items_is made c.place_again.new.buckets (c.place_again.auto.buckets ∙ ap length c.deref_mut.ensures.value ∙ sym made.ok.0) in
    subst (λ buckets. HasMoved old buckets) (sym written) moved
