use Rattle.std.proofs.Common.{◌≤◌, drop, map}
use Rattle.ms_cert.proofs.SlotsLemmas.{HasLaid}
use Rattle.ms_cert.proofs.layout.lay_out.Given as goal

-- the slots of the variables so far
abbrev pub invariant-loop-variable : goal.invariant-loop-variable
invariant-loop-variable l = record {
  laid : HasLaid (map (λ v. v.order) l.variables) (map (λ v. v.order) (drop l.variable-index l.variables)) l.slots l.truth l.letter;
  few_truth : l.truth ≤ l.variable-index;
  few_letters : l.letter ≤ l.variable-index;
}
