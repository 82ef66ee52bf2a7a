use Rattle.std.proofs.Common.{◌≡◌, ◌+◌, ◌<◌, ◌≤◌, ℕ, IfNone, IfSome, List, [], Option, length, slice_get, slice_index_or, Some, sym, ap, subst, ◌∙◌, arith}
use Rattle.ms_arena.proofs.Lists.{slice_get-held}
use Rattle.ms_dfa.specs.Files.{content_of_file}
use Rattle.ms_logic_words.specs.Content.{AreLetters}
use Rattle.ms_dfafile_outside.proofs.FileLemmas.{length-states}
use Rattle.ms_cert.specs.declared.splitter.Splitter.{Splitter}
use Rattle.ms_cert.specs.inner.Partition.{Classes, IsPartition, classes_of, with_split}
use Rattle.ms_cert.specs.inner.Refinement.{AreAllAlike, AreSettledBelow, Refines, TellsSomeApart}
use Rattle.ms_cert.proofs.PartitionLemmas.{count-classes}
use Rattle.ms_cert.proofs.RefinementLemmas.{refines-own, refines-split, settled-all, settled-more, settled-split}
use Rattle.ms_cert.proofs.SplitLemmas.{split-longer, split-partition, there}
use Rattle.ms_cert.proofs.refinement.refine_once.Goals as goal

pub loop-class-init : goal.loop-class-init
loop-class-init c =
    let same : c.as_slice-3.result.now ≡ c.args.partition.now.classes.items = c.as_slice-3.ensures.value ∙ c.in-Ok.ensures.items ∙ c.as_slice.ensures.value in
    record {
      partition = c.requires.partition;
      longer = omega arith;
      same = λ _. same;
      refines = subst (Refines c.args.partition.now.classes.items) (sym same) (refines-own c.args.partition.now.classes.items);
      settled = λ class states less held. absurd (omega (arith, less));
    }

pub difference_in-requires-clause-refines : goal.difference_in-requires-clause-refines
difference_in-requires-clause-refines c = c.loop-class.invariant.refines

pub loop-class-preserved-in-Continue-branch-3 : goal.loop-class-preserved-in-Continue-branch-3
loop-class-preserved-in-Continue-branch-3 c =
    let content = content_of_file c.args.file.now.plain.now in
    let classes = c.as_slice-3.result.now in
    let old = classes_of c.loop-class.partition in
    let new = classes_of c.split_off.new.partition in
    let was = c.loop-class.invariant in
    let class = c.loop-class.class in
    let splitter = c.in-Some.splitter in
    let test = c.loop-class-test.true in
    let within : class < length old.members = omega (arith, test, c.len.ensures, c.loop-class.partition.members.ok.0) in
    let over = subst (λ (found : Option Splitter). IfSome found (λ s. AreLetters content.variables s.letters)) c.in-Some.is c.in_ok-found.ensures.over in
    let Some_apart : Splitter → Type 0 = λ s. (states : List ℕ) → slice_get old.members class ≡ Some states → TellsSomeApart content states s in
    let apart = subst (λ (found : Option Splitter). IfSome found Some_apart) c.in-Some.is c.in_ok-found.ensures.apart (slice_index_or old.members class []) (there content old was.partition class splitter within) in
    let same : new ≡ with_split content old class splitter = c.in_ok-split_off.ensures in
    let long : length new.members ≡ length old.members + 1 = ap (λ (p : Classes). length p.members) same ∙ split-longer content old was.partition class splitter within in
    let longer = was.longer in
    record {
      partition = subst (IsPartition content) (sym same) (split-partition content old was.partition class splitter within over apart);
      longer = omega (arith, longer, long);
      same = λ equal. absurd (omega (arith, longer, long, equal));
      refines = subst (λ (p : Classes). Refines p.classes classes) (sym same) (refines-split content classes old was.partition class splitter within was.refines);
      settled = subst (λ (p : Classes). AreSettledBelow content classes p.members class) (sym same) (settled-split content classes old was.partition class splitter within was.settled);
    }

pub loop-class-preserved : goal.loop-class-preserved
loop-class-preserved c =
    let content = content_of_file c.args.file.now.plain.now in
    let classes = c.as_slice-3.result.now in
    let members = c.loop-class.partition.members.items in
    let was = c.loop-class.invariant in
    let class = c.loop-class.class in
    let test = c.loop-class-test.true in
    let within : class < length members = omega (arith, test, c.len.ensures, c.loop-class.partition.members.ok.0) in
    let held = slice_get-held members class within in
    let Alike : Type 0 = (states : List ℕ) → slice_get members class ≡ Some states → AreAllAlike content classes states in
    let alike = subst (λ (found : Option Splitter). IfNone found Alike) c.in_default-found.is c.in_ok-found.ensures.none in
    record {
      partition = was.partition;
      longer = was.longer;
      same = was.same;
      refines = was.refines;
      settled = settled-more content classes members class held.0 was.settled held.1 (alike held.0 held.1);
    }

pub returns-clause-settled : goal.returns-clause-settled
returns-clause-settled c = λ equal.
    let content = content_of_file c.args.file.now.plain.now in
    let parts = classes_of c.loop-class.partition in
    let was = c.loop-class.invariant in
    let test = c.loop-class-test.false in
    let past : length parts.members ≤ c.loop-class.class = omega (arith, test, c.len.ensures, c.loop-class.partition.members.ok.0) in
    settled-all content c.as_slice-3.result.now parts was.partition c.loop-class.class past was.settled (was.same equal)

pub loop-class-smaller-in-Continue-branch-3 : goal.loop-class-smaller-in-Continue-branch-3
loop-class-smaller-in-Continue-branch-3 c =
    let plain = c.args.file.now.plain.now in
    let content = content_of_file plain in
    let old = classes_of c.loop-class.partition in
    let was = c.loop-class.invariant in
    let class = c.loop-class.class in
    let test = c.loop-class-test.true in
    let within : class < length old.members = omega (arith, test, c.len.ensures, c.loop-class.partition.members.ok.0) in
    let most = count-classes content old was.partition in
    let long : length c.split_off.new.partition.members.items ≡ length old.members + 1 = ap (λ (p : Classes). length p.members) c.in_ok-split_off.ensures ∙ split-longer content old was.partition class c.in-Some.splitter within in
    omega (arith, within, most, long, length-states plain)

pub loop-class-smaller : goal.loop-class-smaller
loop-class-smaller c =
    let plain = c.args.file.now.plain.now in
    let content = content_of_file plain in
    let old = classes_of c.loop-class.partition in
    let test = c.loop-class-test.true in
    let within : c.loop-class.class < length old.members = omega (arith, test, c.len.ensures, c.loop-class.partition.members.ok.0) in
    let most = count-classes content old c.loop-class.invariant.partition in
    omega (arith, within, most, length-states plain)
