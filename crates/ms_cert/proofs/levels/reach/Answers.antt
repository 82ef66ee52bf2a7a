use Rattle.std.proofs.Common.{◌≡◌, ◌<◌, true, false, length, sym, subst, ◌∙◌, arith}
use Rattle.std.proofs.lemmas.Option.{same_Some, slice_get_within}
use Rattle.std.proofs.lemmas.Result.{on_ok_weaker}
use Rattle.ms_dfa.specs.Files.{content_of_file}
use Rattle.ms_dfafile_outside.proofs.FileLemmas.{length-states}
use Rattle.ms_cert.specs.inner.Levels.{AreUpTo, IsKept, IsKnown, IsReached, IsWordOf, Reached, level_of, reached_of}
use Rattle.ms_cert.proofs.ListLemmas.{get-item}
use Rattle.ms_cert.proofs.ReachedLemmas.{word-few, word-kept, word-known, word-reached}
use Rattle.ms_cert.proofs.levels.reach.Goals as goal

of_level : (c : goal.After-put) → IsWordOf (content_of_file c.args.source.now.plain.now) (level_of c.args.source.now.part c.args.source.now.word) c.args.state c.in_ok-word.word
of_level c = subst (IsWordOf (content_of_file c.args.source.now.plain.now) (level_of c.args.source.now.part c.args.source.now.word) c.args.state) (sym c.in_ok-word.ensures) c.requires.word

within : (c : goal.After-put) → c.args.state < length (content_of_file c.args.source.now.plain.now).states
within c = let less = c.requires.state in omega (arith, less, length-states c.args.source.now.plain.now)

unknown : (c : goal.After-put) → ¬ IsKnown (reached_of c.args.found.now) c.args.state
unknown c = λ known.
    let same : c.index.result.now ≡ true = same_Some c.index.result.now true (sym (get-item c.args.found.now.known.items c.args.state c.index.result.now (slice_get_within c.args.found.now.known.items c.args.state true known) c.index.ensures) ∙ known) in
    let no = c.if-index.false in
    let never : false ≡ true = sym no ∙ same in
    cc

pub returns-clause-reached : goal.returns-clause-reached
returns-clause-reached c =
    on_ok_weaker c.put.result
    (λ same. subst (IsReached (content_of_file c.args.source.now.plain.now)) (sym same)
    (word-reached (content_of_file c.args.source.now.plain.now) (reached_of c.args.found.now) c.requires.reached (level_of c.args.source.now.part c.args.source.now.word) c.args.state c.in_ok-word.word c.requires.level (of_level c) (within c) (unknown c)))
    c.put.ensures

pub returns-clause-level : goal.returns-clause-level
returns-clause-level c =
    on_ok_weaker c.put.result
    (λ same. subst (AreUpTo (level_of c.args.source.now.part c.args.source.now.word)) (sym same)
    (word-few (content_of_file c.args.source.now.plain.now) (reached_of c.args.found.now) c.requires.reached (level_of c.args.source.now.part c.args.source.now.word) c.args.state c.in_ok-word.word c.requires.level (of_level c) (within c) (unknown c)))
    c.put.ensures

pub returns-clause-kept : goal.returns-clause-kept
returns-clause-kept c =
    on_ok_weaker c.put.result
    (λ same. subst (IsKept (reached_of c.args.found.now)) (sym same)
    (word-kept (content_of_file c.args.source.now.plain.now) (reached_of c.args.found.now) c.requires.reached (level_of c.args.source.now.part c.args.source.now.word) c.args.state c.in_ok-word.word c.requires.level (of_level c) (within c) (unknown c)))
    c.put.ensures

pub returns-clause-known : goal.returns-clause-known
returns-clause-known c =
    on_ok_weaker c.put.result
    (λ same. subst (λ (r : Reached). IsKnown r c.args.state) (sym same)
    (word-known (content_of_file c.args.source.now.plain.now) (reached_of c.args.found.now) c.requires.reached (level_of c.args.source.now.part c.args.source.now.word) c.args.state c.in_ok-word.word c.requires.level (of_level c) (within c) (unknown c)))
    c.put.ensures
