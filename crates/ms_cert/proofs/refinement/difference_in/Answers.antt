use Rattle.std.proofs.Common.{◌≡◌, ℕ, IfNone, List, Option, slice_get, Some, sym, subst, ◌∙◌, arith}
use Rattle.std.proofs.lemmas.Option.{same_Some}
use Rattle.std.proofs.lemmas.Result.{IfOk-weaker}
use Rattle.ms_dfa.specs.Files.{content_of_file}
use Rattle.ms_dfafile_outside.proofs.FileLemmas.{length-states}
use Rattle.ms_cert.specs.declared.splitter.Splitter.{Splitter}
use Rattle.ms_cert.specs.inner.Partition.{classes_of}
use Rattle.ms_cert.specs.inner.Refinement.{AreAllAlike}
use Rattle.ms_cert.proofs.ListLemmas.{get-item}
use Rattle.ms_cert.proofs.PartitionLemmas.{member-within}
use Rattle.ms_cert.proofs.RefinementLemmas.{none-weaker}
use Rattle.ms_cert.proofs.refinement.difference_in.Goals as goal

pub difference_among-requires-clause-states : goal.difference_among-requires-clause-states
difference_among-requires-clause-states c = λ place state held.
    let plain = c.args.round.now.file.now.plain.now in
    let parts = classes_of c.args.partition.now in
    let there = get-item parts.members c.args.class c.index.result.now c.requires.class c.index.ensures in
    let less = member-within (content_of_file plain) parts c.requires.partition c.args.class c.index.result.now there state (place, subst (λ (s : List ℕ). slice_get s place ≡ Some state) c.slice.ensures held) in
    let count = c.requires.partition.states_count in
    omega (arith, less, count, length-states plain)

pub returns-clause-none : goal.returns-clause-none
returns-clause-none c =
    let content = content_of_file c.args.round.now.file.now.plain.now in
    let classes = c.args.round.now.classes.now in
    let members = c.args.partition.now.members.items in
    let there = get-item members c.args.class c.index.result.now c.requires.class c.index.ensures in
    let Alike : Type 0 = AreAllAlike content classes c.slice.result.now in
    let AllAlike : Type 0 = (states : List ℕ) → slice_get members c.args.class ≡ Some states → AreAllAlike content classes states in
    IfOk-weaker c.difference_among.result
    (λ (found : Option Splitter). IfNone found Alike)
    (λ (found : Option Splitter). IfNone found AllAlike)
    (λ found none. none-weaker found Alike AllAlike (λ alike states held. subst (AreAllAlike content classes) (c.slice.ensures ∙ same_Some c.index.result.now states (sym there ∙ held)) alike) none)
    c.difference_among.ensures.none
