use Rattle.std.proofs.Common.{refl, sym, ◌∙◌}
use Rattle.std.proofs.lemmas.Bool.{false≢true}
use Rattle.std.proofs.lemmas.Result.{IfErr-weaker, IfOk-weaker}
use Rattle.ms_edge.specs.Files.{between}
use Rattle.ms_dfafile_imports.specs.Imports.{answers_by}
use Rattle.ms_app.specs.Comparison.{Taken, no_memory, not_comparable, question_in}
use Rattle.ms_app.proofs.Comparisons.{both_solved, left_fails, right_fails}
use Rattle.ms_app.proofs.GlobalLemmas.{same_variables}
use Rattle.ms_app.proofs.compare.compare.Goals as goal

pub returns-in-Err-clause-refused : goal.returns-in-Err-clause-refused
returns-in-Err-clause-refused g c =
    left_fails c.args.pair.left.now c.args.pair.right.now c.args.limit (between (g.F.Files.told c.args.files.now) (g.F.Files.told c.solve_file.new.files)) c.args.names.now c.solve_file.new.names
    c.in-Err.refusal c.requires.first c.in-Err.ensures.refused

pub returns-in-Err-solve_file-clause-refused : goal.returns-in-Err-solve_file-clause-refused
returns-in-Err-solve_file-clause-refused g c =
    let left = c.in-Ok.ensures.solved in
    let one : Taken = record { checked = c.in-Ok.one.source.checked; plains = left.1 } in
    right_fails c.args.pair.left.now c.args.pair.right.now c.args.limit (g.F.Files.told c.args.files.now) (g.F.Files.told c.solve_file.new.files) (g.F.Files.told c.solve_file-2.new.files)
    c.in-Ok.ensures.only_read c.args.names.now c.solve_file.new.names c.requires.first left.0 one left.2 left.5 c.solve_file-2.new.names c.in-Err-solve_file.refusal
    c.in-Err-solve_file.ensures.refused

pub returns-then-not-have_same_globals-clause-refused : goal.returns-then-not-have_same_globals-clause-refused
returns-then-not-have_same_globals-clause-refused g c =
    let left = c.in-Ok.ensures.solved in
    let right = c.in-Ok-solve_file.ensures.solved in
    let one : Taken = record { checked = c.in-Ok.one.source.checked; plains = left.1 } in
    let two : Taken = record { checked = c.in-Ok-solve_file.two.source.checked; plains = right.1 } in
    let solved = both_solved c.args.pair.left.now c.args.pair.right.now c.args.limit (g.F.Files.told c.args.files.now) (g.F.Files.told c.solve_file.new.files) (g.F.Files.told c.solve_file-2.new.files)
    c.in-Ok.ensures.only_read c.args.names.now c.solve_file.new.names c.requires.first left.0 one left.2 left.5 two (right.0, right.2) in
    not_comparable one two solved (λ same. false≢true (sym c.if-not-have_same_globals.true ∙ c.have_same_globals.ensures.1 same)) refl

pub returns-clause-compared : goal.returns-clause-compared
returns-clause-compared g c =
    let left = c.in-Ok.ensures.solved in
    let right = c.in-Ok-solve_file.ensures.solved in
    let one : Taken = record { checked = c.in-Ok.one.source.checked; plains = left.1 } in
    let two : Taken = record { checked = c.in-Ok-solve_file.two.source.checked; plains = right.1 } in
    let solved = both_solved c.args.pair.left.now c.args.pair.right.now c.args.limit (g.F.Files.told c.args.files.now) (g.F.Files.told c.solve_file.new.files) (g.F.Files.told c.solve_file-2.new.files)
    c.in-Ok.ensures.only_read c.args.names.now c.solve_file.new.names c.requires.first left.0 one left.2 left.5 two (right.0, right.2) in
    let same = c.have_same_globals.ensures.0 c.if-not-have_same_globals.false in
    IfOk-weaker c.agree.result _ _
    (λ agree decides.
    record {
      one = one;
      two = two;
      are_solved = solved;
      same_globals = same;
      agrees = decides (question_in one) (question_in two) left.3.value right.3.value same.mode
          (same_variables one.checked two.checked (answers_by one.checked.imports one.plains) (answers_by two.checked.imports two.plains) same);
    })
    c.agree.ensures.agree

pub returns-clause-refused : goal.returns-clause-refused
returns-clause-refused g c = IfErr-weaker c.agree.result _ _ (λ refusal memory. no_memory memory) c.agree.ensures.refused
