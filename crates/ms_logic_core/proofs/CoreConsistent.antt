-- No core formula is both Yes and No.
use Rattle.std.proofs.Common.{⊎_elim, List}
use Rattle.ms_logic.specs.declared.mode.Quant.TheVariants.{Ex, All}
use Rattle.ms_logic.specs.Assignment.{Env}
use Rattle.ms_logic_core.specs.CoreForm.{CoreForm, truth, falsity, basic, negation, conjunction, disjunction, implication, equivalence, restrict, imported, quantified, CoreForms, no_forms, more_forms, CoreYes, CoreNo, AllCoreYes, AllCoreNo, SomeCoreYes, SomeCoreNo}
use Rattle.ms_logic.specs.Truth.{Import}

module _ (imports : List Import) where
  mutual
    pub core_never_both : (f : CoreForm) (e : Env) → CoreYes imports f e → CoreNo imports f e → ⊥
    core_never_both truth e holds fails = fails
    core_never_both falsity e holds fails = holds
    core_never_both (basic b) e holds fails = fails holds
    core_never_both (negation f) e holds fails = core_never_both f e fails holds
    core_never_both (conjunction fs) e holds fails = all_yes_none_no fs e holds fails.1
    core_never_both (disjunction fs) e holds fails = all_no_none_yes fs e fails holds.1
    core_never_both (implication f g) e holds fails =
        ⊎_elim (core_never_both f e fails.0) (λ second. core_never_both g e second fails.1) holds.2
    core_never_both (equivalence f g) e holds fails =
        ⊎_elim (λ yes_both. ⊎_elim (λ no_second. core_never_both g e yes_both.1 no_second.1) (λ no_first. core_never_both f e yes_both.0 no_first.0) fails)
        (λ no_both. ⊎_elim (λ no_second. core_never_both f e no_second.0 no_both.0) (λ no_first. core_never_both g e no_first.1 no_both.1) fails) holds
    core_never_both (restrict f) e holds fails = fails
    core_never_both (imported i xs) e holds fails = cc
    core_never_both (quantified Ex o x d f) e holds fails = fails.0 holds.0 holds.1 holds.2
    core_never_both (quantified All o x d f) e holds fails = holds.0 fails.0 fails.1 fails.2

    all_yes_none_no : (fs : CoreForms) (e : Env) → AllCoreYes imports fs e → SomeCoreNo imports fs e → ⊥
    all_yes_none_no no_forms e holds fails = fails
    all_yes_none_no (more_forms f fs) e holds fails =
        ⊎_elim (core_never_both f e holds.0) (all_yes_none_no fs e holds.1) fails

    all_no_none_yes : (fs : CoreForms) (e : Env) → AllCoreNo imports fs e → SomeCoreYes imports fs e → ⊥
    all_no_none_yes no_forms e fails holds = holds
    all_no_none_yes (more_forms f fs) e fails holds =
        ⊎_elim (λ first. core_never_both f e first fails.0) (all_no_none_yes fs e fails.1) holds
