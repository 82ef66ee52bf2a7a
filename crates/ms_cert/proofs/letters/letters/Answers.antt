use Rattle.std.proofs.Common.{sym, subst, List, Bool}
use Rattle.ms_cert.specs.inner.Reading.{AreLettersAt}
use Rattle.ms_cert.proofs.LettersLemmas.{HasRead, read-all, read-more}
use Rattle.ms_cert.proofs.letters.letters.Goals as goal

pub reading-preserved : goal.reading-preserved
reading-preserved c =
    let found = rw c.in-Some.is at c.in_ok-after.ensures.letter in
    subst (λ (letters : List (List Bool)). HasRead c.args.bytes.now letters c.in-Some.after.now) (sym found.1) (read-more c.args.bytes.now c.reading.letters c.reading.rest.now found.0 c.in-Some.after.now c.reading.invariant found.2)

pub returns : goal.returns
returns c =
    let none = rw c.in_default.is at c.in_ok-after.ensures.letter in
    let same = rw c.in_default.is at c.in_ok-after.ensures.same in
    subst (λ (letters : List (List Bool)). AreLettersAt c.args.bytes.now letters c.reading.rest.now) (sym same) (read-all c.args.bytes.now c.reading.letters c.reading.rest.now c.reading.invariant none)
