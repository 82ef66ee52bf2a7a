use Rattle.ms_parse_grammar.specs.View.{declaration_of}
use Rattle.ms_names_scopes.specs.inner.Declaration.{known_at}
use Rattle.ms_names.proofs.Told.{declared-all, declared-files, from-within}
use Rattle.ms_names.proofs.outcome.declare.Goals as goal

pub check_exports-requires : goal.check_exports-requires
check_exports-requires c =
    let q = c.check_title.new.checker in
    from-within q c.kind.new.checker (known_at q c.args.count c.args.taken.now) (declaration_of c.args.decl.now) c.exports_so_far-from.result c.kind.new.checker.reads
    (c.in_ok-made.ensures.state c.args.taken.now) c.exports_so_far-from.ensures

pub returns-clause-state : goal.returns-clause-state
returns-clause-state c =
    declared-all c.args.checker.now c.begin.new.self c.check_title.new.checker c.kind.new.checker c.check_exports.new.self c.args.count c.args.taken.now
    (declaration_of c.args.decl.now) c.exports_so_far-from.result c.begin.ensures c.in_ok-check_title.ensures.state c.exports_so_far-from.ensures
    (c.in_ok-made.ensures.state c.args.taken.now) c.in_ok-check_exports.ensures.state

pub returns-clause-files : goal.returns-clause-files
returns-clause-files c =
    declared-files c.args.checker.now c.begin.new.self c.check_title.new.checker c.kind.new.checker c.args.count c.args.taken.now c.check_exports.new.files
    (declaration_of c.args.decl.now) c.exports_so_far-from.result c.begin.ensures c.in_ok-check_title.ensures.state c.exports_so_far-from.ensures
    (c.in_ok-made.ensures.state c.args.taken.now) c.in_ok-check_exports.ensures.files
