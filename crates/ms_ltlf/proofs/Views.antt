-- The mathematical tree of some forms of the code's trees.
use Rattle.std.proofs.Common.{◌≡◌, ℕ, List, map, sym, ◌∙◌, ap}
use Rattle.ms_ltlf.specs.declared.trace.Ltl.{Ltl}
use Rattle.ms_ltlf.specs.declared.trace.Ltl.TheOpen.{Ltl-F}
use Rattle.ms_ltlf.specs.declared.trace.Ltl.TheFolds.{fold-roll-Ltl}
use Rattle.ms_ltlf.specs.declared.trace.Ltl.TheVariants.{And, Or, Prop, rolls-And, rolls-Or, rolls-Prop}
use Rattle.ms_ltlf.specs.Tree.{Temporal, conjunction, disjunction, proposition}
use Rattle.ms_ltlf.specs.View.{temporal_at, temporal_of, temporals}

pub temporal_of-Prop : (p : ℕ) → temporal_of (Prop p) ≡ proposition p
temporal_of-Prop p = ap temporal_of (sym (rolls-Prop p)) ∙ fold-roll-Ltl Temporal temporal_at (Ltl-F.Prop p)

pub temporal_of-And : (operands : List Ltl) → temporal_of (And operands) ≡ conjunction (temporals (map temporal_of operands))
temporal_of-And operands = ap temporal_of (sym (rolls-And operands)) ∙ fold-roll-Ltl Temporal temporal_at (Ltl-F.And operands)

pub temporal_of-Or : (operands : List Ltl) → temporal_of (Or operands) ≡ disjunction (temporals (map temporal_of operands))
temporal_of-Or operands = ap temporal_of (sym (rolls-Or operands)) ∙ fold-roll-Ltl Temporal temporal_at (Ltl-F.Or operands)
