use Rattle.std.proofs.Common.{◌≡◌, ◌<◌, ℕ, List, [], ◌∷◌, ◌++◌, true, filter, length, not, slice_get, slice_index_or, Some, sym, ap, subst, ◌∙◌, arith, inl, inr}
use Rattle.std.proofs.lemmas.Bool.{false≢true}
use Rattle.std.proofs.lemmas.Option.{same_Some}
use Rattle.ms_arena.proofs.Lists.{slice_get-push}
use Rattle.ms_dfa.specs.Files.{content_of_file}
use Rattle.ms_dfa.specs.declared.plain.FileSign.{FileSign}
use Rattle.ms_logic_words.specs.Content.{Content}
use Rattle.ms_dfafile_outside.proofs.FileLemmas.{length-states}
use Rattle.ms_cert.specs.declared.cert.TreeLine.TheVariants.{By}
use Rattle.ms_cert.specs.declared.splitter.Splitter.{Splitter}
use Rattle.ms_cert.specs.declared.separation.Sides.{Sides}
use Rattle.ms_cert.specs.inner.Partition.{Classes, IsIn, IsPartition, classes_of, is_split_off, with_sides, with_split}
use Rattle.ms_cert.specs.inner.Refinement.{TellsSomeApart}
use Rattle.ms_cert.specs.inner.Separation.{AreWaiting, Takes, lists_of}
use Rattle.ms_cert.proofs.ListLemmas.{get-item}
use Rattle.ms_cert.proofs.MemberLemmas.{in-filter}
use Rattle.ms_cert.proofs.PartitionLemmas.{few-classes, member-within}
use Rattle.ms_cert.proofs.SplitLemmas.{split-partition, there}
use Rattle.ms_cert.proofs.WaitingLemmas.{members-are, part-no_side, part-takes, part-waiting, sides-tell, some-item}
use Rattle.ms_cert.proofs.separation.part.Goals as goal
use Rattle.ms_cert.proofs.separation.part.Goals.{then-is_empty-via-then-is_empty, then-is_empty-via-else-is_empty+then-is_empty-2}

pub sides_by-requires-clause-states : goal.sides_by-requires-clause-states
sides_by-requires-clause-states c =
    let parts = classes_of c.args.partition.now in
    let within = c.requires.waiting.within (length c.args.waiting.now.items) c.args.class (slice_get-push c.args.waiting.now.items c.args.class) in
    members-are c.args.file.now.plain.now parts c.requires.partition c.args.class c.slice.result.now (get-item parts.members c.args.class c.index.result.now within c.index.ensures ∙ ap Some (sym c.slice.ensures))

pub put-requires-clause-class : goal.put-requires-clause-class
put-requires-clause-class c = c.requires.waiting.within (length c.args.waiting.now.items) c.args.class (slice_get-push c.args.waiting.now.items c.args.class)

pub put-requires-clause-few : goal.put-requires-clause-few
put-requires-clause-few c =
    few-classes (content_of_file c.args.file.now.plain.now) (classes_of c.args.partition.now) c.requires.partition _ (omega (arith, c.requires.few, length-states c.args.file.now.plain.now))

pub put-requires-clause-states : goal.put-requires-clause-states
put-requires-clause-states c = λ state in_side.
    let parts = classes_of c.args.partition.now in
    let within = c.requires.waiting.within (length c.args.waiting.now.items) c.args.class (slice_get-push c.args.waiting.now.items c.args.class) in
    let held = get-item parts.members c.args.class c.index.result.now within c.index.ensures in
    let in_first = subst (λ (s : List ℕ). IsIn s state) c.in_ok-sides.ensures.first in_side in
    let in_states = (in-filter _ c.slice.result.now state in_first.0 in_first.1).0 in
    member-within (content_of_file c.args.file.now.plain.now) parts c.requires.partition c.args.class c.index.result.now held state (subst (λ (s : List ℕ). IsIn s state) c.slice.ensures in_states)

-- the states of a class
class-states : (parts : Classes) (class : ℕ) (states seen : List ℕ) → slice_get parts.members class ≡ Some (slice_index_or parts.members class []) → class < length parts.members → states ≡ slice_index_or parts.members class states → seen ≡ states
    → seen ≡ slice_index_or parts.members class []
class-states parts class states seen held within found is = is ∙ same_Some states (slice_index_or parts.members class []) (sym (get-item parts.members class states within found) ∙ held)

pub returns-then-is_empty-clause-takes : goal.returns-then-is_empty-clause-takes
returns-then-is_empty-clause-takes c =
    let content = content_of_file c.args.file.now.plain.now in
    let old = classes_of c.args.partition.now in
    let splitter = c.args.splitter in
    let front = c.args.waiting.now.items in
    let class = c.args.class in
    let test = is_split_off content splitter in
    let are = c.requires.waiting in
    let within = are.within (length front) class (slice_get-push front class) in
    let states = class-states old class c.index.result.now c.slice.result.now (there content old c.requires.partition class splitter within) within c.index.ensures c.slice.ensures in
    let after = lists_of old.members front in
    elim c.then-is_empty.branch [
      | then-is_empty-via-then-is_empty w ↦
          part-no_side content old c.requires.partition class splitter within front are after
          (inl (ap (filter test) (sym states) ∙ sym c.in_ok-sides.ensures.first ∙ c.is_empty.ensures.0 w.if-is_empty.true))
      | then-is_empty-via-else-is_empty+then-is_empty-2 w ↦
          part-no_side content old c.requires.partition class splitter within front are after
          (inr (ap (filter (λ state. not (test state))) (sym states) ∙ sym c.in_ok-sides.ensures.second ∙ w.is_empty-else-is_empty.ensures.0 w.if-is_empty-2.true))
    ]

-- the class is split
is-split : (content : Content FileSign) (old new : Classes) (class : ℕ) (splitter : Splitter) (sides : Sides) (seen : List ℕ) → seen ≡ slice_index_or old.members class [] → sides.first ≡ filter (is_split_off content splitter) seen
    → sides.second ≡ filter (λ state. not (is_split_off content splitter state)) seen → new ≡ with_sides old class splitter sides → new ≡ with_split content old class splitter
is-split content old new class splitter sides seen states is_first is_second is =
    let test = is_split_off content splitter in
    let all = slice_index_or old.members class [] in
    let first : sides.first ≡ filter test all = is_first ∙ ap (filter test) states in
    let second : sides.second ≡ filter (λ state. not (test state)) all = is_second ∙ ap (filter (λ state. not (test state))) states in
    let same : sides ≡ record { first = filter test all; second = filter (λ state. not (test state)) all } = λ i. record { first = first i; second = second i } in
    is ∙ ap (with_sides old class splitter) same

-- what the place behind both pushes knows
abbrev Splits : goal.In_ok-append-2 → Type 0
Splits c = classes_of c.put.new.partition ≡ with_split (content_of_file c.args.file.now.plain.now) (classes_of c.args.partition.now) c.args.class c.args.splitter

splits : (c : goal.In_ok-append-2) → Splits c
splits c =
    let content = content_of_file c.args.file.now.plain.now in
    let old = classes_of c.args.partition.now in
    let class = c.args.class in
    let within = c.requires.waiting.within (length c.args.waiting.now.items) class (slice_get-push c.args.waiting.now.items class) in
    let states = class-states old class c.index.result.now c.slice.result.now (there content old c.requires.partition class c.args.splitter within) within c.index.ensures c.slice.ensures in
    is-split content old (classes_of c.put.new.partition) class c.args.splitter c.in_ok-sides.sides c.slice.result.now states c.in_ok-sides.ensures.first c.in_ok-sides.ensures.second c.in_ok-put.ensures

tells : (c : goal.In_ok-append-2) → TellsSomeApart (content_of_file c.args.file.now.plain.now) (slice_index_or c.args.partition.now.members.items c.args.class []) c.args.splitter
tells c =
    let content = content_of_file c.args.file.now.plain.now in
    let old = classes_of c.args.partition.now in
    let class = c.args.class in
    let test = is_split_off content c.args.splitter in
    let within = c.requires.waiting.within (length c.args.waiting.now.items) class (slice_get-push c.args.waiting.now.items class) in
    let states = class-states old class c.index.result.now c.slice.result.now (there content old c.requires.partition class c.args.splitter within) within c.index.ensures c.slice.ensures in
    let first = some-item c.in_ok-sides.sides.first (λ none. false≢true (sym c.if-is_empty.false ∙ c.is_empty.ensures.1 none)) in
    let second = some-item c.in_ok-sides.sides.second (λ none. false≢true (sym c.if-is_empty-2.false ∙ c.is_empty-else-is_empty.ensures.1 none)) in
    sides-tell content c.args.splitter (slice_index_or old.members class [])
    (subst (λ (s : List ℕ). 0 < length s) (c.in_ok-sides.ensures.first ∙ ap (filter test) states) first)
    (subst (λ (s : List ℕ). 0 < length s) (c.in_ok-sides.ensures.second ∙ ap (filter (λ state. not (test state))) states) second)

pub returns-clause-partition : goal.returns-clause-partition
returns-clause-partition c _ =
    let content = content_of_file c.args.file.now.plain.now in
    let old = classes_of c.args.partition.now in
    let within = c.requires.waiting.within (length c.args.waiting.now.items) c.args.class (slice_get-push c.args.waiting.now.items c.args.class) in
    subst (IsPartition content) (sym (splits c)) (split-partition content old c.requires.partition c.args.class c.args.splitter within c.requires.over (tells c))

-- the number of classes
counted : (c : goal.In_ok-append-2) → c.append-2.new.items.items ≡ c.append.new.items.items ++ length c.args.partition.now.parents.items ∷ []
counted c =
    let count : c.len-count.result ≡ length c.args.partition.now.parents.items = omega (arith, c.len-count.ensures, c.args.partition.now.parents.ok.0) in
    c.in_ok-append-2.ensures ∙ ap (λ (n : ℕ). c.append.new.items.items ++ n ∷ []) count

pub returns-clause-waiting : goal.returns-clause-waiting
returns-clause-waiting c _ =
    let content = content_of_file c.args.file.now.plain.now in
    let old = classes_of c.args.partition.now in
    let front = c.args.waiting.now.items in
    let within = c.requires.waiting.within (length front) c.args.class (slice_get-push front c.args.class) in
    subst (λ (p : Classes). AreWaiting p.members c.append-2.new.items.items) (sym (splits c))
    (part-waiting content old c.requires.partition c.args.class c.args.splitter within front c.requires.waiting c.append.new.items.items c.append-2.new.items.items c.in_ok-append.ensures (counted c))

pub returns-clause-takes : goal.returns-clause-takes
returns-clause-takes c =
    let content = content_of_file c.args.file.now.plain.now in
    let old = classes_of c.args.partition.now in
    let front = c.args.waiting.now.items in
    let splitter = c.args.splitter in
    let within = c.requires.waiting.within (length front) c.args.class (slice_get-push front c.args.class) in
    subst (λ (p : Classes). Takes content (By splitter.sign splitter.letters) (lists_of old.members (front ++ c.args.class ∷ [])) (lists_of p.members c.append-2.new.items.items) true) (sym (splits c))
    (part-takes content old c.requires.partition c.args.class splitter within front c.requires.waiting c.append.new.items.items c.append-2.new.items.items c.in_ok-append.ensures (counted c))
