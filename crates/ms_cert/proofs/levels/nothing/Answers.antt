use Rattle.std.proofs.Common.{◌≡◌, ℕ, false, [], length, replicate, refl, sym, ap, subst, ◌∙◌, arith}
use Rattle.ms_dfa.specs.Files.{content_of_file}
use Rattle.ms_dfafile_outside.proofs.FileLemmas.{length-states}
use Rattle.ms_cert.specs.inner.Levels.{AreUpTo, IsReached, Reached}
use Rattle.ms_cert.proofs.ReachedLemmas.{none-few, none-reached, reached-same}
use Rattle.ms_cert.proofs.levels.nothing.Goals as goal

abbrev made : goal.After-new-2 → Reached
made c = record { words = c.loop.words.items; known = c.in_ok-known.known.items; seen = c.in_ok-seen.seen.items; order = c.new-2.result.items }

abbrev none : goal.After-new-2 → Reached
none c =
    let content = content_of_file c.args.plain.now in
    record { words = c.loop.words.items; known = replicate (length content.states) false; seen = replicate (length content.nodes) false; order = [] }

same : (c : goal.After-new-2) → made c ≡ none c
same c =
    reached-same (made c) (none c) refl
    (c.in_ok-known.ensures ∙ ap (λ (n : ℕ). replicate n false) (c.len.ensures ∙ sym (length-states c.args.plain.now)))
    (c.in_ok-seen.ensures ∙ ap (λ (n : ℕ). replicate n false) c.len-2.ensures)
    c.new-2.ensures.items

pub returns-clause-reached : goal.returns-clause-reached
returns-clause-reached c =
    let test = c.loop-test.false in
    let end = c.loop.auto.index-end in
    let count : length c.loop.words.items ≡ length (content_of_file c.args.plain.now).states =
    omega (arith, test, end, c.loop.invariant, ap length c.slice-items.ensures, length-states c.args.plain.now) in
    subst (IsReached (content_of_file c.args.plain.now)) (sym (same c)) (none-reached (content_of_file c.args.plain.now) c.loop.words.items count)

pub returns-clause-level : goal.returns-clause-level
returns-clause-level c =
    let content = content_of_file c.args.plain.now in
    subst (AreUpTo 0) (sym (same c)) (none-few c.loop.words.items (length content.states) (length content.nodes) 0)
