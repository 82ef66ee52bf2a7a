use Rattle.std.proofs.Common.{◌≡◌, ℕ, List, [], ◌∷◌, ◌++◌, length, slice_index_or, refl, sym, ap, subst, ◌∙◌, arith}
use Rattle.ms_dfa.specs.Files.{content_of_file}
use Rattle.ms_logic.specs.FiniteSet.{numbers_below}
use Rattle.ms_cert.specs.inner.Partition.{Classes, IsPartition}
use Rattle.ms_cert.specs.inner.Separation.{AreWaiting, lists_of}
use Rattle.ms_cert.proofs.ListLemmas.{get-item}
use Rattle.ms_cert.proofs.PartitionLemmas.{one-partition}
use Rattle.ms_cert.proofs.SeparationLemmas.{none-waits, stands-all, stands-first}
use Rattle.ms_cert.proofs.WaitingLemmas.{lists-none, waiting-first}
use Rattle.ms_cert.proofs.separation.are_apart.Goals as goal

pub loop-line-init : goal.loop-line-init
loop-line-init c =
    let content = content_of_file c.args.file.now.plain.now in
    let members = c.in_ok-partition.partition.members.items in
    let all = numbers_below (length content.states) in
    let waiting : c.append.new.items.items ≡ 0 ∷ [] = c.in_ok-append.ensures ∙ ap (λ (w : List ℕ). w ++ 0 ∷ []) c.new-waiting.ensures.items in
    let lists : members ≡ all ∷ [] = ap (λ (p : Classes). p.members) c.in_ok-partition.ensures in
    let first : lists_of members c.append.new.items.items ≡ all ∷ [] = ap (lists_of members) waiting ∙ ap (λ (ms : List (List ℕ)). slice_index_or ms 0 [] ∷ []) lists in
    record {
      partition = subst (IsPartition content) (sym c.in_ok-partition.ensures) (one-partition content c.requires.content.some_state);
      waiting = subst (AreWaiting members) (sym waiting) (waiting-first members (omega (arith, ap length lists)));
      stands = stands-first content c.args.lines.now (lists_of members c.append.new.items.items) all refl first;
    }

pub take-requires-clause-over : goal.take-requires-clause-over
take-requires-clause-over c = c.requires.over c.loop-line.line-index c.line-item.result (get-item c.args.lines.now c.loop-line.line-index c.line-item.result c.loop-line-test.true c.line-item.is)

pub returns : goal.returns
returns c =
    let content = content_of_file c.args.file.now.plain.now in
    let members = c.loop-line.partition.members.items in
    let waiting = c.loop-line.waiting.items in
    let told = stands-all content c.args.lines.now c.loop-line.line-index (lists_of members waiting) c.loop-line-test.false c.loop-line.invariant.stands in
    let none = lists-none members waiting in
    let long : length waiting ≡ c.loop-line.waiting.len = omega (arith, c.loop-line.waiting.ok.0) in
    let empty = none-waits waiting c.loop-line.waiting.len c.is_empty.result long c.is_empty.ensures in
    (λ yes. told.0 (none.0 (empty.0 yes)), λ apart. empty.1 (none.1 (told.1 apart)))
