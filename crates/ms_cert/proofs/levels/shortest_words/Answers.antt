use Rattle.std.proofs.Common.{◌≤◌, length, sym, subst, arith}
use Rattle.ms_dfa.specs.Files.{content_of_file}
use Rattle.ms_cert.specs.Certificate.{AreWordsTo, GrowByLetters}
use Rattle.ms_cert.specs.inner.Levels.{reached_of}
use Rattle.ms_cert.proofs.BegunLemmas.{begun-lengths, begun-words}
use Rattle.ms_cert.proofs.ShortestLemmas.{word-shortest}
use Rattle.ms_cert.proofs.levels.shortest_words.Goals as goal

pub returns-clause-words : goal.returns-clause-words
returns-clause-words c =
    let test = c.loop-done-test.false in
    let all : length c.loop-done.found.order.items ≤ c.loop-done.done = omega (arith, test, c.len.ensures) in
    subst (AreWordsTo (content_of_file c.args.plain.now)) (sym c.from.ensures) (begun-words (content_of_file c.args.plain.now) c.requires.canonical (reached_of c.loop-done.found) c.loop-done.done c.loop-done.invariant all)

pub returns-clause-lengths : goal.returns-clause-lengths
returns-clause-lengths c =
    let test = c.loop-done-test.false in
    let all : length c.loop-done.found.order.items ≤ c.loop-done.done = omega (arith, test, c.len.ensures) in
    subst (GrowByLetters (content_of_file c.args.plain.now)) (sym c.from.ensures) (begun-lengths (content_of_file c.args.plain.now) c.requires.canonical (reached_of c.loop-done.found) c.loop-done.done c.loop-done.invariant all)

pub returns-clause-shortest : goal.returns-clause-shortest
returns-clause-shortest c =
    let content = content_of_file c.args.plain.now in
    let words = returns-clause-words c in
    let lengths = returns-clause-lengths c in
    λ state word other held over last. word-shortest content c.requires.file.content c.from.result words lengths state word other held over last
