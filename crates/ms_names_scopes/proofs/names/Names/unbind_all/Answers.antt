use Rattle.std.proofs.Common.{drop, ap, ◌∙◌}
use Rattle.std.proofs.lemmas.List.{drop-drop}
use Rattle.ms_names_scopes.proofs.names.Names.unbind_all.Goals as goal

pub loop-i-preserved : goal.loop-i-preserved
loop-i-preserved c = c.unbind.ensures ∙ (ap (drop 1) c.loop-i.invariant ∙ drop-drop 1 c.loop-i._i c.args.self.now)
