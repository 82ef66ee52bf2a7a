-- The spread keeps the value of every formula.
use Rattle.std.proofs.Common.{◌≡◌, ℕ, ◌+◌, Bool, true, false, ◌↔◌, inl, inr, List, [], ◌∷◌, map, slice_get, refl, sym, ◌∙◌, ap}
use Rattle.std.proofs.lemmas.Bool.{false≢true}
use Rattle.ms_logic.specs.declared.mode.Order.{Order}
use Rattle.ms_logic.specs.declared.mode.Order.TheVariants.{Zero, One, Two}
use Rattle.ms_logic.specs.declared.mode.Quant.{Quant}
use Rattle.ms_logic.specs.declared.mode.Quant.TheVariants.{Ex, All}
use Rattle.ms_logic_core.specs.declared.core_formula.Basic.TheVariants as Basic
use Rattle.ms_logic.specs.declared.assignment.Value.{Value}
use Rattle.ms_logic.specs.declared.assignment.Value.TheVariants.{Number, Set}
use Rattle.ms_logic.specs.Assignment.{Env, Variable, assign, assign_all, IsValueOf}
use Rattle.ms_logic_core.specs.CoreForm.{basic, core_forms, CoreYes, CoreNo, AllCoreYes, AllCoreNo, AllCoreDefined, SomeCoreYes, SomeCoreNo, IsCoreMet, answer_over}
use Rattle.ms_logic.specs.FreeVariables.{Reads, orders_of, FreeUnder, FreeInForms, FreeInRestriction, FreeInRestrictions, FreeInArguments}
use Rattle.ms_logic_core.specs.Spread.{Names, Callees, spread_under, spread_each, spread_restriction, spread_number, spread_set, conjunction_of, numbers_relate, sets_relate, is_member_or_not}
use Rattle.ms_logic_core.specs.Spread as spread
use Rattle.ms_logic.specs.Terms.{number_value, set_value}
use Rattle.ms_logic.specs.Tree.{Form, truth, falsity, truth_variable, negation, conjunction, disjunction, implication, equivalence, comparison, set_comparison, membership, emptiness, quantified, where_let, call, restrict, imported, exported, default_at, Forms, no_forms, more_forms, Restriction, unrestricted, restricted, truth_argument, number_argument, set_argument, Arguments, no_arguments, more_arguments, Declaration}
use Rattle.ms_logic.specs.Truth.{Meanings, YesUnder, NoUnder, AllYes, AllNo, AllDefined, SomeYes, SomeNo, IsMet, NumbersRelate, SetsRelate, MembershipHolds, Import}
use Rattle.ms_logic.proofs.Agreement.{named}
use Rattle.ms_logic_core.proofs.CoreConsistent.{core_never_both}
use Rattle.ms_logic_core.proofs.Saying.{Reading, reading-weaker, reading-extends, said_yes, said_no}
use Rattle.ms_logic_core.proofs.SayingTerms.{number_in, set_in, valid_along}
use Rattle.ms_logic_core.proofs.SpreadAtoms.{atom, numbers_mean, numbers_decided, sets_mean, sets_decided, member_means, member_decided}
use Rattle.ms_logic_core.proofs.SpreadKeeps.{reading-inside, truth_in}
use Rattle.ms_logic_core.proofs.SpreadTerms.{number_denotes, set_denotes}
use Rattle.ms_logic_spread.proofs.Arguments.{arguments_said}
use Rattle.ms_logic_spread.proofs.Equivalences.{iff_both, iff_three, iff_either, iff_then, swapped, kept_some, kept_none_or}
use Rattle.ms_logic_spread.proofs.Keeping.{AreKept, Keeps, TruthsKept, RestrictionsKept, conjunction_yes, conjunction_no, same_answer}

-- the two values of a truth value
not_true : (b : Bool) → (b ≡ false) ↔ (b ≡ true → ⊥)
not_true true = (λ same holds. false≢true (sym same), λ fails. absurd (fails refl))
not_true false = (λ same holds. false≢true holds, λ fails. refl)

module _ (m : Meanings) (k : Callees) (r : Reads) (imports : List Import) (body_reads : ℕ → Variable → Type 0) (kept : AreKept m k r imports body_reads) where
  -- a list of formulas keeps what is said of all and of some
  pub record EachKept (fs : Forms) (names : Names) (free : ℕ) (e c : Env) : Type 0 where
    pub all_yes : AllYes m fs e ↔ AllCoreYes imports (core_forms (spread_each k fs names free)) c
    pub all_no : AllNo m fs e ↔ AllCoreNo imports (core_forms (spread_each k fs names free)) c
    pub all_defined : AllDefined m fs e ↔ AllCoreDefined imports (core_forms (spread_each k fs names free)) c
    pub some_yes : SomeYes m fs e ↔ SomeCoreYes imports (core_forms (spread_each k fs names free)) c
    pub some_no : SomeNo m fs e ↔ SomeCoreNo imports (core_forms (spread_each k fs names free)) c

  same_import : (i : ℕ) (names : Names) (free : ℕ) (e c : Env) → Reading (FreeUnder r (imported i)) names free e c →
      m.import_answer i e ≡ answer_over (slice_get imports i) (map (λ v. names v.order v.name) (k.imported i)) c
  same_import i names free e c reading =
      kept.answers i e
      ∙ (same_answer names e c (slice_get imports i) reading.universe (λ w read. reading.values w (kept.import_reads i w read))
      ∙ ap (λ vs. answer_over (slice_get imports i) (map (λ v. names v.order v.name) vs) c) (sym (kept.variables i)))

  module _ (o : Order) (x : ℕ) (d : Restriction) (f : Form) (names : Names) (free : ℕ) (e c : Env) where
    abbrev Here : Value → Type 0
    Here v = IsValueOf o e.universe v × IsMet m d (assign x v e)

    abbrev There : Value → Type 0
    There v = IsValueOf o c.universe v × IsCoreMet imports (spread_restriction k d (spread.named o x free names) (free + 1)) (assign free v c)

    abbrev BodyYes : Value → Type 0
    BodyYes v = YesUnder m f (assign x v e)

    abbrev BodyNo : Value → Type 0
    BodyNo v = NoUnder m f (assign x v e)

    abbrev CoreBodyYes : Value → Type 0
    CoreBodyYes v = CoreYes imports (spread_under k f (spread.named o x free names) (free + 1)) (assign free v c)

    abbrev CoreBodyNo : Value → Type 0
    CoreBodyNo v = CoreNo imports (spread_under k f (spread.named o x free names) (free + 1)) (assign free v c)

    -- a quantifier is kept where its body and its restriction are, at each value
    quantifier_kept : (q : Quant) → c.universe ≡ e.universe → ((v : Value) → IsValueOf o e.universe v → Keeps m k imports f (spread.named o x free names) (free + 1) (assign x v e) (assign free v c)) →
        ((v : Value) → IsValueOf o e.universe v → IsMet m d (assign x v e) ↔ IsCoreMet imports (spread_restriction k d (spread.named o x free names) (free + 1)) (assign free v c)) →
        Keeps m k imports (quantified q o x d f) names free e c
    quantifier_kept q universe body met = by_quantifier q
      where
        ranges : (v : Value) → Here v ↔ There v
        ranges v = (
          λ here. (valid_along o e.universe c.universe v (sym universe) here.0, (met v here.0).0 here.1),
          λ there. let valid = valid_along o c.universe e.universe v universe there.0 in (valid, (met v valid).1 there.1),
        )

        by_quantifier : (q : Quant) → Keeps m k imports (quantified q o x d f) names free e c
        by_quantifier Ex =
            (kept_some Here There BodyYes CoreBodyYes ranges (λ v here. (body v here.0).0), kept_none_or Here There BodyYes BodyNo CoreBodyYes CoreBodyNo ranges (λ v here. (body v here.0).0) (λ v here. (body v here.0).1))
        by_quantifier All =
            (kept_none_or Here There BodyNo BodyYes CoreBodyNo CoreBodyYes ranges (λ v here. (body v here.0).1) (λ v here. (body v here.0).0), kept_some Here There BodyNo CoreBodyNo ranges (λ v here. (body v here.0).1))

  mutual
    unfolding TruthsKept

    pub keeps : (f : Form) → (names : Names) (free : ℕ) (e c : Env) → Reading (FreeUnder r f) names free e c → Keeps m k imports f names free e c
    keeps truth names free e c reading = ((λ h. h, λ h. h), (λ h. h, λ h. h))
    keeps falsity names free e c reading = ((λ h. h, λ h. h), (λ h. h, λ h. h))
    keeps (truth_variable x) names free e c reading =
        let same : c.truth (names Zero x) ≡ e.truth x = ap truth_in (reading.values (named x Zero) (refl, refl)) in (
          (λ holds. same ∙ holds, λ holds. sym same ∙ holds),
          (λ fails holds. (not_true (e.truth x)).0 fails (sym same ∙ holds), λ fails. (not_true (e.truth x)).1 (λ holds. fails (same ∙ holds))),
        )
    keeps (negation f) names free e c reading = let inner = keeps f names free e c reading in (inner.1, inner.0)
    keeps (conjunction fs) names free e c reading =
        let each = each_kept fs names free e c reading in (
          iff_then each.all_yes (conjunction_yes imports (spread_each k fs names free) c),
          iff_then (iff_both each.all_defined each.some_no) (conjunction_no imports (spread_each k fs names free) c),
        )
    keeps (disjunction fs) names free e c reading =
        let each = each_kept fs names free e c reading in (iff_both each.all_defined each.some_yes, each.all_no)
    keeps (implication f g) names free e c reading =
        let first = keeps f names free e c (reading-weaker _ _ names free e c (λ w there. inl there) reading) in
        let second = keeps g names free e c (reading-weaker _ _ names free e c (λ w there. inr there) reading) in
        (iff_three (iff_either first.0 first.1) (iff_either second.0 second.1) (iff_either first.1 second.0), iff_both first.0 second.1)
    keeps (equivalence f g) names free e c reading =
        let first = keeps f names free e c (reading-weaker _ _ names free e c (λ w there. inl there) reading) in
        let second = keeps g names free e c (reading-weaker _ _ names free e c (λ w there. inr there) reading) in
        (iff_either (iff_both first.0 second.0) (iff_both first.1 second.1), iff_either (iff_both first.0 second.1) (iff_both first.1 second.0))
    keeps (comparison rel t u) names free e c reading =
        atom imports One One Number Number (spread_number t names) (spread_number u names) (numbers_relate rel) (NumbersRelate rel) free c (number_value t e) (number_value u e)
        (λ next d later extends. number_denotes imports t names next e d (reading-weaker _ _ names next e d (λ w there. inl there) (reading-extends _ names free next e c d later extends reading)))
        (λ next d later extends. number_denotes imports u names next e d (reading-weaker _ _ names next e d (λ w there. inr there) (reading-extends _ names free next e c d later extends reading)))
        (λ x y inner s t universe is_s is_t valid. numbers_mean imports rel x y inner s t (ap number_in is_s) (ap number_in is_t))
        (numbers_decided imports rel)
    keeps (set_comparison rel s t) names free e c reading =
        atom imports Two Two Set Set (spread_set s names) (spread_set t names) (sets_relate rel) (SetsRelate rel) free c (set_value s e) (set_value t e)
        (λ next d later extends. set_denotes imports s names next e d (reading-weaker _ _ names next e d (λ w there. inl there) (reading-extends _ names free next e c d later extends reading)))
        (λ next d later extends. set_denotes imports t names next e d (reading-weaker _ _ names next e d (λ w there. inr there) (reading-extends _ names free next e c d later extends reading)))
        (λ x y inner a b universe is_a is_b valid. sets_mean imports rel x y inner a b (ap set_in is_a) (ap set_in is_b) valid.0)
        (sets_decided imports rel)
    keeps (membership positive t s) names free e c reading =
        atom imports One Two Number Set (spread_number t names) (spread_set s names) (is_member_or_not positive) (MembershipHolds positive) free c (number_value t e) (set_value s e)
        (λ next d later extends. number_denotes imports t names next e d (reading-weaker _ _ names next e d (λ w there. inl there) (reading-extends _ names free next e c d later extends reading)))
        (λ next d later extends. set_denotes imports s names next e d (reading-weaker _ _ names next e d (λ w there. inr there) (reading-extends _ names free next e c d later extends reading)))
        (λ x y inner n members universe is_n is_members valid. member_means imports positive x y inner n members (ap number_in is_n) (ap set_in is_members))
        (member_decided imports positive)
    keeps (emptiness s) names free e c reading =
        let denotes = set_denotes imports s names free e c reading in
        let yes = said_yes imports Two Set (spread_set s names) free c (set_value s e) denotes (λ next x. basic (Basic.Bits x 0)) (λ members. members ≡ [])
        (λ next x inner a inside. let is : inner.set x ≡ a = ap set_in inside.value in (λ holds. sym is ∙ holds, λ same. is ∙ same)) in (
          swapped yes,
          (
            λ fails. said_no imports Two Set (spread_set s names) free c (set_value s e) denotes (λ next x. basic (Basic.Bits x 0)) (λ next x inner a inside not_yes. not_yes) (λ holds. fails (yes.0 holds)),
            λ no holds. core_never_both imports (spread_under k (emptiness s) names free) c (yes.1 holds) no,
          ),
        )
    keeps (quantified q o x d f) names free e c reading =
        quantifier_kept o x d f names free e c q reading.universe
        (λ v valid. keeps f (spread.named o x free names) (free + 1) (assign x v e) (assign free v c) (reading-inside o x v (FreeUnder r (quantified q o x d f)) (FreeUnder r f) names free e c valid (λ w is other. (other, inr is)) reading))
        (λ v valid. restriction_kept d (spread.named o x free names) (free + 1) (assign x v e) (assign free v c) (reading-inside o x v (FreeUnder r (quantified q o x d f)) (FreeInRestriction r d) names free e c valid (λ w is other. (other, inl is)) reading))
    keeps (where_let xs right_sides f) names free e c reading =
        let sides = reading-weaker _ _ names free e c (λ w there. inl there) reading in
        arguments_said m k imports r (FreeUnder r (where_let xs right_sides f)) (FreeUnder r f) xs right_sides names free e c (λ inner next. spread_under k f inner next)
        (λ vs. YesUnder m f (assign_all xs vs e)) (λ vs. NoUnder m f (assign_all xs vs e)) sides reading (λ w there not_bound. inr (not_bound, there))
        (truths_kept right_sides names free e c sides) (λ vs inner next d inside. keeps f inner next (assign_all xs vs e) d inside)
    keeps (call p given) names free e c reading =
        let arguments = reading-weaker _ _ names free e c (λ w there. inl there) reading in
        arguments_said m k imports r (FreeUnder r (call p given)) (body_reads p) (k.parameters p) given names free e c (λ inner next. k.body p inner next)
        (λ vs. m.call_yes p vs e) (λ vs. m.call_no p vs e) arguments reading (λ w there not_bound. inr (kept.call_reads p (orders_of given) w there not_bound))
        (truths_kept given names free e c arguments) (λ vs inner next d inside. kept.calls p vs inner next e d inside)
    keeps (restrict f) names free e c reading = let inner = keeps f names free e c reading in (inner.0, (λ h. h, λ h. h))
    keeps (imported i) names free e c reading =
        let same = same_import i names free e c reading in ((λ h. sym same ∙ h, λ h. same ∙ h), (λ h. sym same ∙ h, λ h. same ∙ h))
    keeps (exported i f) names free e c reading = keeps f names free e c reading
    keeps (default_at p x) names free e c reading = kept.defaults p x names free e c reading

    pub each_kept : (fs : Forms) → (names : Names) (free : ℕ) (e c : Env) → Reading (FreeInForms r fs) names free e c → EachKept fs names free e c
    each_kept no_forms names free e c reading = record {
      all_yes = (λ h. h, λ h. h);
      all_no = (λ h. h, λ h. h);
      all_defined = (λ h. h, λ h. h);
      some_yes = (λ h. h, λ h. h);
      some_no = (λ h. h, λ h. h);
    }
    each_kept (more_forms f fs) names free e c reading =
        let first = keeps f names free e c (reading-weaker _ _ names free e c (λ w there. inl there) reading) in
        let others = each_kept fs names free e c (reading-weaker _ _ names free e c (λ w there. inr there) reading) in
        record {
          all_yes = iff_both first.0 others.all_yes;
          all_no = iff_both first.1 others.all_no;
          all_defined = iff_both (iff_either first.0 first.1) others.all_defined;
          some_yes = iff_either first.0 others.some_yes;
          some_no = iff_either first.1 others.some_no;
        }

    pub restriction_kept : (d : Restriction) → (names : Names) (free : ℕ) (e c : Env) → Reading (FreeInRestriction r d) names free e c →
        IsMet m d e ↔ IsCoreMet imports (spread_restriction k d names free) c
    restriction_kept unrestricted names free e c reading = (λ h. h, λ h. h)
    restriction_kept (restricted d) names free e c reading = (keeps d names free e c reading).0

    truths_kept : (given : Arguments) (names : Names) (free : ℕ) (e c : Env) → Reading (FreeInArguments r given) names free e c → TruthsKept m k imports given names free e c
    truths_kept no_arguments names free e c reading = tt
    truths_kept (more_arguments (truth_argument f) more) names free e c reading = (
      λ next d later extends. keeps f names next e d (reading-extends _ names free next e c d later extends (reading-weaker _ _ names free e c (λ w there. inl there) reading)),
      truths_kept more names free e c (reading-weaker _ _ names free e c (λ w there. inr there) reading),
    )
    truths_kept (more_arguments (number_argument t) more) names free e c reading =
        truths_kept more names free e c (reading-weaker _ _ names free e c (λ w there. inr there) reading)
    truths_kept (more_arguments (set_argument s) more) names free e c reading =
        truths_kept more names free e c (reading-weaker _ _ names free e c (λ w there. inr there) reading)

  pub restrictions_kept : (ds : List Declaration) (names : Names) (free : ℕ) (e c : Env) → Reading (FreeInRestrictions r ds) names free e c → RestrictionsKept m k imports ds names free e c
  unfolding RestrictionsKept
  restrictions_kept [] names free e c reading = tt
  restrictions_kept (declared ∷ more) names free e c reading = (
    restriction_kept declared.restriction names free e c (reading-weaker _ _ names free e c (λ w there. inl there) reading),
    restrictions_kept more names free e c (reading-weaker _ _ names free e c (λ w there. inr there) reading),
  )
