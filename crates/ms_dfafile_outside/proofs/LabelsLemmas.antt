-- Lists of labels as they grow.
use Rattle.std.proofs.Common.{◌≡◌, ℕ, zero, suc, ◌+◌, ◌<◌, ◌≤◌, ◌⊎◌, inl, inr, ⊎_elim, Bool, true, false, List, [], ◌∷◌, ◌++◌, length, replicate, set, slice_get, Option, Some, None, refl, sym, ap, subst, ◌∙◌, arith}
use Rattle.std.proofs.lemmas.Bool.{cases_eq, cases_lt}
use Rattle.std.proofs.lemmas.List.{length-set, length-replicate}
use Rattle.std.proofs.lemmas.Option.{none-some, same_Some, slice_get_within}
use Rattle.ms_arena.specs.declared.node.Ref.{Ref}
use Rattle.ms_arena.specs.declared.node.Ref.TheVariants.{Leaf, Inner}
use Rattle.ms_arena.proofs.Lists.{slice_get-append_some, slice_get-held, slice_get-push, slice_get-pushed, slice_get-set_other, slice_get-set_same}
use Rattle.ms_dfa.specs.Files.{MarksOutside}
use Rattle.ms_dfa.specs.declared.plain.FileSign.{FileSign}
use Rattle.ms_logic.specs.Lists.{AreRising}
use Rattle.ms_logic_words.specs.Content.{Content, IsContent, NamesPart}
use Rattle.ms_dfafile_outside.specs.declared.label.Label.{Label}
use Rattle.ms_dfafile_outside.specs.declared.label.Label.TheVariants.{Seen}
use Rattle.ms_dfafile_outside.specs.inner.Labels.{AreKept, AreLabels, AreSettled, Brings, Finds, HasArrived, HasCome, HasNoGap, IsKnown, IsNoted, IsSettled, index_of}
use Rattle.ms_dfafile_outside.proofs.ClosedLemmas.{marks-closed}
use Rattle.ms_dfafile_outside.proofs.ComeLemmas.{come-agree}

slice_get-replicate-some : {X : Type 0} (n i : ℕ) (x y : X) → slice_get (replicate n x) i ≡ Some y → x ≡ y
slice_get-replicate-some zero i x y held = absurd (none-some y held)
slice_get-replicate-some (suc n) zero x y held = same_Some x y held
slice_get-replicate-some (suc n) (suc i) x y held = slice_get-replicate-some n i x y held

none-label : (found : Option (Option Label)) (label : Label) → found ≡ Some None → found ≡ Some (Some label) → ⊥
none-label found label none some = none-some label (same_Some None (Some label) (sym none ∙ some))

module _ (content : Content FileSign) where
  -- parts with one index are one
  same-part : (one two : Ref) → NamesPart content one → NamesPart content two → index_of content one ≡ index_of content two → one ≡ two
  same-part (Leaf s) (Leaf t) named also same = ap (λ (n : ℕ). Leaf n) same
  same-part (Leaf s) (Inner p) named also same = absurd (omega (arith, named, same))
  same-part (Inner p) (Leaf s) named also same = absurd (omega (arith, also, same))
  same-part (Inner p) (Inner q) named also same = let equal : p ≡ q = omega (arith, same) in ap (λ (n : ℕ). Inner n) equal

  pub index-within : (reference : Ref) (known : List (Option Label)) (work : List Ref) → AreLabels content known work → NamesPart content reference → index_of content reference < length known
  index-within (Leaf s) known work are named = omega (arith, are.long, named)
  index-within (Inner p) known work are named = omega (arith, are.long, named)

  -- no labels yet
  pub AreLabels-none : AreLabels content (replicate (length content.states + length content.nodes) None) []
  AreLabels-none = record {
    long = length-replicate (length content.states + length content.nodes) None;
    come = λ reference label named known. absurd (none-some label (slice_get-replicate-some (length content.states + length content.nodes) (index_of content reference) None (Some label) known));
    listed = λ reference label named known. absurd (none-some label (slice_get-replicate-some (length content.states + length content.nodes) (index_of content reference) None (Some label) known));
    named = λ at reference held. absurd (none-some reference held);
  }

  pub AreKept-none : (known : List (Option Label)) (work : List Ref) → AreKept known known work work
  AreKept-none known work = record { labels = λ at label held. held; listed = λ at reference held. held }

  pub AreKept-then : (one two three : List (Option Label)) (first second third : List Ref) → AreKept one two first second → AreKept two three second third → AreKept one three first third
  AreKept-then one two three first second third kept also = record {
    labels = λ at label held. also.labels at label (kept.labels at label held);
    listed = λ at reference held. also.listed at reference (kept.listed at reference held);
  }

  module _ (known : List (Option Label)) (work : List Ref) (are : AreLabels content known work) (reference : Ref) (label : Label) (named : NamesPart content reference) where
    abbrev at : ℕ
    at = index_of content reference

    abbrev more : List (Option Label)
    more = set known at (Some label)

    abbrev longer : List Ref
    longer = work ++ reference ∷ []

    kept-more : slice_get known at ≡ Some None → AreKept known more work longer
    kept-more none = record {
      labels = λ i other held. slice_get-set_other known at i (Some label)
          (λ same. none-label (slice_get known at) other none (ap (slice_get known) (sym same) ∙ held)) ∙ held;
      listed = λ i other held. slice_get-append_some work (reference ∷ []) i other held;
    }

    own : IsKnown content more reference label
    own = slice_get-set_same known at (Some label) (index-within reference known work are named)

    -- a part with a label is this one, or had it before
    was-known : (other : Ref) (its : Label) → NamesPart content other → IsKnown content more other its → ((other ≡ reference) × (its ≡ label)) ⊎ IsKnown content known other its
    was-known other its other_named held = ⊎_elim
        (λ same. inl (
          same-part other reference other_named named same,
          same_Some its label (same_Some (Some its) (Some label) (sym held ∙ ap (slice_get more) same ∙ own)),
        ))
        (λ differ. inr (sym (slice_get-set_other known at (index_of content other) (Some label) differ) ∙ held))
        (cases_eq (index_of content other) at)

    are-more : (level : ℕ) → slice_get known at ≡ Some None → HasCome content reference label level → AreLabels content more longer
    are-more level none come = record {
      long = length-set known at (Some label) ∙ are.long;
      come = λ other its other_named held. ⊎_elim
          (λ same. (level, subst (λ (r : Ref). HasCome content r its level) (sym same.0) (subst (λ (l : Label). HasCome content reference l level) (sym same.1) come)))
          (λ before. are.come other its other_named before)
          (was-known other its other_named held);
      listed = λ other its other_named held. ⊎_elim
          (λ same. (length work, slice_get-push work reference ∙ ap (λ (r : Ref). Some r) (sym same.0)))
          (λ before. let there = are.listed other its other_named before in (there.0, slice_get-append_some work (reference ∷ []) there.0 other there.1))
          (was-known other its other_named held);
      named = λ i other held. ⊎_elim
          (λ before. let there = are.named i other before in (there.0, (there.1.0, (kept-more none).labels (index_of content other) there.1.0 there.1.1)))
          (λ last. (subst (NamesPart content) last.1 named, (label, subst (λ (r : Ref). IsKnown content more r label) last.1 own)))
          (slice_get-pushed work reference i other held);
    }

    -- what a reference that got its label brings, or finds
    pub found-noted : (new : List (Option Label)) (listed : List Ref) (level : ℕ) (agrees : Bool) → IsContent content → AreRising content.variables → HasCome content reference label level → HasNoGap content reference label level
        → IsNoted known new work listed at reference label agrees → Finds content known new work listed (HasArrived content new reference label level) agrees
    found-noted new listed level false rules rising come no_gap noted =
        λ marks. let there = are.come reference noted.0 named noted.1 in
        noted.2 (come-agree content rules rising marks reference noted.0 label there.0 level there.1 come)
    found-noted new listed level true rules rising come no_gap noted = ⊎_elim
        (λ same. subst (λ (list : List Ref). Brings content known new work list (HasArrived content new reference label level)) (sym same.2)
        (subst (λ (list : List (Option Label)). Brings content known list work work (HasArrived content list reference label level)) (sym same.1)
        (record { labels = are; kept = AreKept-none known work; done = record { is_known = same.0; no_gap = no_gap } })))
        (λ added. subst (λ (list : List Ref). Brings content known new work list (HasArrived content new reference label level)) (sym added.2)
        (subst (λ (list : List (Option Label)). Brings content known list work longer (HasArrived content list reference label level)) (sym added.1)
        (record { labels = are-more level added.0 come; kept = kept-more added.0; done = record { is_known = own; no_gap = no_gap } })))
        noted

  -- what a step finds, said otherwise
  pub Finds-done : (known new : List (Option Label)) (work listed : List Ref) (Done More : Type 0) (agrees : Bool) → (Done → More) → Finds content known new work listed Done agrees → Finds content known new work listed More agrees
  Finds-done known new work listed Done More true gives found = record { labels = found.labels; kept = found.kept; done = gives found.done }
  Finds-done known new work listed Done More false gives found = found

  -- and what two steps find, one after the other
  pub Finds-then : (known new last : List (Option Label)) (work listed all : List Ref) (Done Next More : Type 0) (agrees : Bool) → Finds content known new work listed Done true
      → (AreKept new last listed all → Done → Next → More) → Finds content new last listed all Next agrees → Finds content known last work all More agrees
  Finds-then known new last work listed all Done Next More true first gives found =
      record { labels = found.labels; kept = AreKept-then known new last work listed all first.kept found.kept; done = gives found.kept first.done found.done }
  Finds-then known new last work listed all Done Next More false first gives found = found

  -- what has arrived stays so
  pub HasArrived-kept : (known new : List (Option Label)) (work listed : List Ref) (reference : Ref) (label : Label) (level : ℕ) → AreKept known new work listed
      → HasArrived content known reference label level → HasArrived content new reference label level
  HasArrived-kept known new work listed reference label level kept arrived = record { is_known = kept.labels (index_of content reference) label arrived.is_known; no_gap = arrived.no_gap }

  IsSettled-kept : (known new : List (Option Label)) (work listed : List Ref) (reference : Ref) (label : Label) → AreKept known new work listed
      → IsSettled content known reference label → IsSettled content new reference label
  IsSettled-kept known new work listed (Leaf place) label kept settled = λ state held.
      let is = settled state held in record { sign = is.sign; next = HasArrived-kept known new work listed state.next label 0 kept is.next }
  IsSettled-kept known new work listed (Inner place) label kept settled = λ node held.
      let is = settled node held in
      record {
        low = HasArrived-kept known new work listed node.low label _ kept is.low;
        more = is.more;
        with_own = is.with_own;
        high = HasArrived-kept known new work listed node.high is.more _ kept is.high;
      }

  -- one reference more is settled
  pub AreSettled-more : (known new : List (Option Label)) (work listed : List Ref) (done : ℕ) (reference : Ref) → AreLabels content known work → AreKept known new work listed → slice_get work done ≡ Some reference
      → AreSettled content known work done → ((label : Label) → IsKnown content known reference label → IsSettled content new reference label) → AreSettled content new listed (done + 1)
  AreSettled-more known new work listed done reference are kept next settled brought i other label less held known_now =
      ⊎_elim
      (λ before.
      let within = slice_get_within work done reference next in
      let there = held_before i before within in
      let same : there.0 ≡ other = same_Some there.0 other (sym (kept.listed i there.0 there.1) ∙ held) in
      let was : slice_get work i ≡ Some other = there.1 ∙ ap (λ (r : Ref). Some r) same in
      let its = (are.named i other was).1 in
      let equal : its.0 ≡ label = same_label (index_of content other) its.0 label (kept.labels (index_of content other) its.0 its.1) known_now in
      IsSettled-kept known new work listed other label kept (settled i other label before was (subst (IsKnown content known other) equal its.1)))
      (λ last.
      let here : i ≡ done = omega (arith, less, last) in
      let same : reference ≡ other = same_Some reference other (sym (kept.listed done reference next) ∙ ap (slice_get listed) (sym here) ∙ held) in
      let its = (are.named done reference next).1 in
      let now : IsKnown content new reference label = subst (λ (r : Ref). IsKnown content new r label) (sym same) known_now in
      let equal : its.0 ≡ label = same_label (index_of content reference) its.0 label (kept.labels (index_of content reference) its.0 its.1) now in
      subst (λ (r : Ref). IsSettled content new r label) same (brought label (subst (IsKnown content known reference) equal its.1)))
      (cases_lt i done)
    where
      same_label : (index : ℕ) (one two : Label) → slice_get new index ≡ Some (Some one) → slice_get new index ≡ Some (Some two) → one ≡ two
      same_label index one two first second = same_Some one two (same_Some (Some one) (Some two) (sym first ∙ second))

      held_before : (j : ℕ) → j < done → done < length work → (r : Ref) × (slice_get work j ≡ Some r)
      held_before j below within = slice_get-held work j (omega (arith, below, within))

  -- all are settled: the rule is met
  pub marks-settled : (known : List (Option Label)) (work : List Ref) (done : ℕ) → IsContent content → AreRising content.variables → AreLabels content known work → length work ≤ done → AreSettled content known work done
      → HasArrived content known content.start (Seen 0) (length content.variables) → MarksOutside content
  marks-settled known work done rules rising are all settled start =
      marks-closed content rules rising known
      (λ reference label named held.
      let there = are.listed reference label named held in
      settled there.0 reference label (omega (arith, all, slice_get_within work there.0 reference there.1)) there.1 held)
      start
