use Rattle.std.proofs.Common.{map}
use Rattle.std.proofs.lemmas.Result.{IfOk-weaker}
use Rattle.std.specs.Option.{is_none}
use Rattle.std.specs.Prelude.{filter}
use Rattle.ms_logic_core.specs.CoreForm.{core_form_of}
use Rattle.ms_lower.specs.NumberedRoots.{root_of}
use Rattle.ms_lower.proofs.MainRoot.{main_made}
use Rattle.ms_lower.proofs.main_root.main_root.Goals as goal

pub returns : goal.returns
returns c =
    IfOk-weaker _ _ _
    (λ root is.
    main_made c.args.tables.now c.args.globals.now (filter (λ placed. is_none placed.title) c.args.formulas.now) c.from-free.result (map core_form_of c.in_ok-front.front) (map core_form_of c.in_ok-later.later) (root_of root)
    c.requires.globals c.requires.kept c.from-free.ensures c.in_ok-front.ensures c.in_ok-later.ensures is)
    c.over_globals.ensures
