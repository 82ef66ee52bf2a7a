use Rattle.ms_presburger.proofs.sums.+sum_is.Given as goal

abbrev pub decreases-sum_is : goal.decreases-sum_is
decreases-sum_is l = l.levels
