use Rattle.std.proofs.Common.{◌≡◌, ℕ, ◌+◌, ◌-◌, ◌<◌, ◌++◌, ◌∷◌, [], Bool, List, length, length-append, map, reverse, slice_get, slice_index, slice_index_or, Some, refl, sym, ap, subst, ◌∙◌, arith}
use Rattle.ms_arena.proofs.Lists.{slice_get-append_left, slice_get-held, slice_get-push}
use Rattle.std.proofs.lemmas.Option.{slice_get_within}
use Rattle.ms_dfa.specs.Files.{content_of_file}
use Rattle.ms_dfa.specs.declared.plain.FileSign.{FileSign}
use Rattle.ms_logic_words.specs.Content.{Content}
use Rattle.ms_dfafile_outside.proofs.FileLemmas.{length-states}
use Rattle.ms_cert.specs.declared.cert.TreeLine.{TreeLine}
use Rattle.ms_cert.specs.declared.cert.TreeLine.TheVariants.{At, By}
use Rattle.ms_cert.specs.declared.splitter.Splitter.{Splitter}
use Rattle.ms_cert.specs.inner.Growing.{AreGrown, IsGrown, Joins}
use Rattle.ms_cert.specs.inner.Partition.{Classes, IsPartition, classes_of}
use Rattle.ms_cert.proofs.GrowingLemmas.{grown-all, grown-join, grown-leaves}
use Rattle.ms_cert.proofs.ListLemmas.{get-item}
use Rattle.ms_cert.proofs.PartitionLemmas.{class-within}
use Rattle.ms_cert.proofs.growing.grow_tree.Goals as goal

pub joining-init : goal.joining-init
joining-init c =
    let plain = c.args.file.now.plain.now in
    let content = content_of_file plain in
    let parts = classes_of c.args.partition in
    let is = c.requires.partition in
    let some = c.requires.some in
    let states = is.states_count in
    let own = slice_get-held parts.classes 0 (omega (arith, some, states, length-states plain)) in
    let within = class-within content parts is 0 own.0 own.1 in
    let bound = length parts.parents - 1 in
    let long : length parts.parents ≡ bound + 1 = omega (arith, within) in
    let are = c.in_ok-trees.ensures ∙ ap (λ (members : List (List ℕ)). map (λ states. At (slice_index states 0) ∷ []) members) c.as_slice.ensures.value in
    let grown = grown-leaves content parts is c.requires.discrete bound c.in_ok-trees.trees.items long are in
    let count = grown.count in
    let same : bound ≡ length c.in_ok-trees.trees.items - 1 = omega (arith, count) in
    let splitters = is.splitters_count in
    record {
      grown = subst (λ (b : ℕ). AreGrown content parts b c.in_ok-trees.trees.items) same grown;
      splitters_count = omega (arith, splitters, count, long);
      splitters = λ class splitter held. held;
      parents = refl;
    }

-- the splitter of the last class that is left
held-last : (old new : List Splitter) (splitter : Splitter) → old ≡ new ++ splitter ∷ [] → slice_get old (length new) ≡ Some splitter
held-last old new splitter parts = ap (λ (ss : List Splitter). slice_get ss (length new)) parts ∙ slice_get-push new splitter

long-last : (old new : List Splitter) (splitter : Splitter) → old ≡ new ++ splitter ∷ [] → length old ≡ length new + 1
long-last old new splitter parts = ap length parts ∙ length-append new (splitter ∷ [])

pub index-parent-requires : goal.index-parent-requires
index-parent-requires c =
    let old = c.joining.partition.splitters.items in
    let new = c.pop.new.self.items in
    let parts = c.in-Some.ensures.items in
    let held = c.joining.invariant.splitters (length new) c.in-Some.splitter (held-last old new c.in-Some.splitter parts) in
    let within = slice_get_within c.args.partition.splitters.items (length new) c.in-Some.splitter held in
    let is = c.requires.partition in
    let splitters = is.splitters_count in
    let long = long-last old new c.in-Some.splitter parts in
    let count = c.joining.invariant.splitters_count in
    omega (arith, within, splitters, long, count, ap length c.joining.invariant.parents, c.len-in-joining.ensures, c.joining.trees.ok.0, c.joining.partition.parents.ok.0)

-- the splitter and the parent of the class that goes back
takes-back : (content : Content FileSign) (parts : Classes) (is : IsPartition content parts) (old new : List Splitter) (splitter : Splitter) (parents : List ℕ) (count at parent : ℕ) → old ≡ new ++ splitter ∷ []
    → ((class : ℕ) (own : Splitter) → slice_get old class ≡ Some own → slice_get parts.splitters class ≡ Some own) → length old ≡ count → parents ≡ parts.parents → 1 < count → at + 1 ≡ count → parent ≡ slice_index_or parents at parent
    → (bound : ℕ) × (count ≡ bound + 1 + 1) × (length new ≡ bound + 1) × (slice_get parts.parents (bound + 1) ≡ Some parent) × (slice_get parts.splitters (bound + 1) ≡ Some splitter)
takes-back content parts is old new splitter parents count at parent is_last held_all counted same some place found =
    let held = held_all (length new) splitter (held-last old new splitter is_last) in
    let within = slice_get_within parts.splitters (length new) splitter held in
    let splitters = is.splitters_count in
    let long = long-last old new splitter is_last in
    let bound = length new - 1 in
    let up : length new ≡ bound + 1 = omega (arith, long, counted, some) in
    let here : at ≡ bound + 1 = omega (arith, long, counted, some, place) in
    let item : parent ≡ slice_index_or parts.parents (bound + 1) parent =
    found ∙ ap (λ (ps : List ℕ). slice_index_or ps at parent) same ∙ ap (λ (k : ℕ). slice_index_or parts.parents k parent) here in (
      bound,
      omega (arith, long, counted, up),
      up,
      get-item parts.parents (bound + 1) parent (omega (arith, within, splitters, up)) item,
      subst (λ (k : ℕ). slice_get parts.splitters k ≡ Some splitter) up held,
    )

pub join-requires : goal.join-requires
join-requires c =
    let is = c.requires.partition in
    let was = c.joining.invariant in
    let test = c.joining-test.true in
    let count = length c.joining.trees.items in
    let at = c.len-in-joining.result - 1 in
    let some : 1 < count = omega (arith, test, c.len.ensures, c.joining.trees.ok.0) in
    let place : at + 1 ≡ count = omega (arith, some, c.len-in-joining.ensures, c.joining.trees.ok.0) in
    let back = takes-back (content_of_file c.args.file.now.plain.now) (classes_of c.args.partition) is c.joining.partition.splitters.items c.pop.new.self.items c.in-Some.splitter c.joining.partition.parents.items count at c.index-parent.result.now
    c.in-Some.ensures.items was.splitters was.splitters_count was.parents some place c.index-parent.ensures in
    let before = is.earlier (back.0 + 1) c.index-parent.result.now back.3 (omega arith) in
    let long = back.1 in
    omega (arith, before, long)

pub joining-preserved : goal.joining-preserved
joining-preserved c =
    let content = content_of_file c.args.file.now.plain.now in
    let parts = classes_of c.args.partition in
    let was = c.joining.invariant in
    let trees = c.joining.trees.items in
    let after = c.join.new.trees.items in
    let new = c.pop.new.self.items in
    let test = c.joining-test.true in
    let at = c.len-in-joining.result - 1 in
    let some : 1 < length trees = omega (arith, test, c.len.ensures, c.joining.trees.ok.0) in
    let place : at + 1 ≡ length trees = omega (arith, some, c.len-in-joining.ensures, c.joining.trees.ok.0) in
    let back = takes-back content parts c.requires.partition c.joining.partition.splitters.items new c.in-Some.splitter c.joining.partition.parents.items (length trees) at c.index-parent.result.now
    c.in-Some.ensures.items was.splitters was.splitters_count was.parents some place c.index-parent.ensures in
    let bound = back.0 in
    let long = back.1 in
    let up : length trees - 1 ≡ bound + 1 = omega (arith, long) in
    let grown = grown-join content parts c.requires.partition bound c.index-parent.result.now c.in-Some.splitter back.3 back.4 trees after (subst (λ (b : ℕ). AreGrown content parts b trees) up was.grown)
    (subst (λ (ls : List (List Bool)). Joins c.index-parent.result.now (By c.in-Some.splitter.sign ls) trees after) c.in_ok-letters.ensures c.in_ok-join.ensures) in
    let count = grown.count in
    let down : bound ≡ length after - 1 = omega (arith, count) in
    let left = back.2 in
    record {
      grown = subst (λ (b : ℕ). AreGrown content parts b after) down grown;
      splitters_count = omega (arith, left, count);
      splitters = λ class splitter held. was.splitters class splitter
          (ap (λ (ss : List Splitter). slice_get ss class) c.in-Some.ensures.items ∙ slice_get-append_left new (c.in-Some.splitter ∷ []) class (slice_get_within new class splitter held) ∙ held);
      parents = was.parents;
    }

-- at the end
all-grown : (c : goal.After-drop-partition-2) → IsGrown (content_of_file c.args.file.now.plain.now) (classes_of c.args.partition) 0 0 c.from.result
all-grown c =
    let content = content_of_file c.args.file.now.plain.now in
    let parts = classes_of c.args.partition in
    let trees = c.joining.trees.items in
    let front = c.pop-2.new.self.items in
    let grown = c.joining.invariant.grown in
    let count = grown.count in
    let test = c.joining-test.false in
    let one : length trees ≡ 1 = omega (arith, count, test, c.len.ensures, c.joining.trees.ok.0) in
    let long : length trees ≡ length front + 1 = ap length c.in-Some-pop.ensures.items ∙ length-append front (c.in-Some-pop.last ∷ []) in
    let none : length front ≡ 0 = omega (arith, one, long) in
    let bound : length trees - 1 ≡ 0 = omega (arith, one) in
    let held = subst (λ (k : ℕ). slice_get trees k ≡ Some c.in-Some-pop.last) none (ap (λ (ts : List (List TreeLine)). slice_get ts (length front)) c.in-Some-pop.ensures.items ∙ slice_get-push front c.in-Some-pop.last) in
    let last = subst (λ (b : ℕ). IsGrown content parts b 0 (reverse c.in-Some-pop.last)) bound (grown.each 0 c.in-Some-pop.last held) in
    subst (IsGrown content parts 0 0) (ap reverse (sym c.into_vec-lines.ensures) ∙ sym c.reverse.ensures.items ∙ sym c.from.ensures) last

pub returns-clause-apart : goal.returns-clause-apart
returns-clause-apart c = grown-all (content_of_file c.args.file.now.plain.now) (classes_of c.args.partition) c.requires.partition c.from.result (all-grown c)

pub returns-clause-over : goal.returns-clause-over
returns-clause-over c = (all-grown c).over
