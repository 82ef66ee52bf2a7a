-- What stays true of a subset construction when more sets get numbers: the laws that an exploration asks of it.
use Rattle.std.proofs.Common.{refl, ap, ◌∙◌}
use Rattle.std.proofs.Math.Nat.{le_refl, le_trans, lt_of_lt_of_le}
use Rattle.ms_arena.proofs.Appending.{Extends-same, Extends-further}
use Rattle.ms_dfa_explore.specs.Explored.{Findings, AreMore}
use Rattle.ms_project.specs.Subsetting.{Subsetting, subset_findings, IsLaterSubsetting}

AreMore-same : (findings : Findings) → AreMore findings findings
AreMore-same findings = record { count = le_refl findings.count; starts = λ bits number right. right; steps = λ state found bits number right. right; signs = λ state found. refl; most_nodes = refl }

AreMore-further : (one two three : Findings) → AreMore one two → AreMore two three → AreMore one three
AreMore-further one two three first second = record {
  count = le_trans first.count second.count;
  starts = λ bits number right. second.starts bits number (first.starts bits number right);
  steps = λ state found bits number right. second.steps state (lt_of_lt_of_le found first.count) bits number (first.steps state found bits number right);
  signs = λ state found. second.signs state (lt_of_lt_of_le found first.count) ∙ first.signs state found;
  most_nodes = second.most_nodes ∙ first.most_nodes;
}

pub subsetting_later_itself : (v : Subsetting) → IsLaterSubsetting v v
subsetting_later_itself v = record {
  same = refl;
  sets = Extends-same v.sets;
  more = AreMore-same (subset_findings v);
  ready = λ ready. ready;
  reached = λ reached. reached;
}

pub subsetting_later_later : (one two three : Subsetting) → IsLaterSubsetting one two → IsLaterSubsetting two three → IsLaterSubsetting one three
subsetting_later_later one two three first second = record {
  same = second.same ∙ ap (λ (v : Subsetting). record v { sets = three.sets }) first.same;
  sets = Extends-further one.sets two.sets three.sets first.sets second.sets;
  more = AreMore-further (subset_findings one) (subset_findings two) (subset_findings three) first.more second.more;
  ready = λ ready. second.ready (first.ready ready);
  reached = λ reached. second.reached (first.reached reached);
}

pub subsetting_later_findings : (early late : Subsetting) → IsLaterSubsetting early late → AreMore (subset_findings early) (subset_findings late)
subsetting_later_findings early late later = later.more
