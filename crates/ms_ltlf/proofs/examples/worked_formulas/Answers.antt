use Rattle.std.proofs.Common.{sym, subst, arith, rules}
use Rattle.ms_ltlf.specs.Tree.{Temporal, IsOver, depth}
use Rattle.std.proofs.Common.{◌≤◌}
use Rattle.ms_ltlf.proofs.Views.{temporal_of-Prop}
use Rattle.ms_ltlf.proofs.examples.worked_formulas.Goals as goal

pub returns-clause-well_formed : goal.returns-clause-well_formed
returns-clause-well_formed c =
    let Named : Temporal → Type 0 = IsOver 2 in
    let Shallow : Temporal → Type 0 = λ f. depth f ≤ 300 in
    record {
      different = search rules;
      few = omega arith;
      named = subst Named (sym (temporal_of-Prop 1)) (omega arith);
      shallow = subst Shallow (sym (temporal_of-Prop 1)) (omega arith);
    }

pub returns-clause-no_name : goal.returns-clause-no_name
returns-clause-no_name c = λ is. let Named : Temporal → Type 0 = IsOver 2 in omega (arith, subst Named (temporal_of-Prop 2) is.named)
