use Rattle.ms_presburger.specs.View.{arithmetic_of}
use Rattle.ms_presburger_parse.proofs.Gatherings.{gathers_whole}
use Rattle.ms_presburger_parse.proofs.free.free_names.Goals as goal

pub returns : goal.returns
returns c =
    gathers_whole c.nothing_gathered-gathered.result c.gather.new.gathered (arithmetic_of c.args.formula.now) c.nothing_gathered-gathered.ensures.unbound c.nothing_gathered-gathered.ensures.none c.in_ok-gather.ensures
