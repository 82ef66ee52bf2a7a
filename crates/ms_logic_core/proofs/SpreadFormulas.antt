-- The spread keeps the value of a formula that is written out.
use Rattle.std.proofs.Common.{◌≡◌, ℕ, ◌+◌, ◌<◌, Bool, true, false, ◌↔◌, ◌⊎◌, inl, inr, ⊎_elim, List, [], ◌∷◌, map, slice_get, Option, Some, None, refl, sym, ◌∙◌, ap, subst, arith}
use Rattle.std.specs.List.{zip}
use Rattle.std.proofs.lemmas.Bool.{false≢true}
use Rattle.ms_logic.specs.declared.mode.Order.{Order}
use Rattle.ms_logic.specs.declared.mode.Order.TheVariants.{Zero, One, Two}
use Rattle.ms_logic.specs.declared.mode.Quant.{Quant}
use Rattle.ms_logic.specs.declared.mode.Quant.TheVariants.{Ex, All}
use Rattle.ms_logic_core.specs.declared.core_formula.Basic.TheVariants as Basic
use Rattle.ms_logic.specs.declared.assignment.Value.{Value}
use Rattle.ms_logic.specs.declared.assignment.Value.TheVariants.{Number, Set}
use Rattle.ms_logic.specs.Assignment.{Env, Variable, assign, value_at, IsValueOf, GivesEach}
use Rattle.ms_logic_core.specs.CoreForm.{CoreForm, basic, core_forms, CoreYes, CoreNo, AllCoreYes, AllCoreNo, AllCoreDefined, SomeCoreYes, SomeCoreNo, IsCoreMet, answer_over}
use Rattle.ms_logic.specs.FreeVariables.{Reads, FreeUnder, FreeInForms, FreeInRestriction, IsListed, IsReadBy, reads_of_imports, reads_with_predicate, reads_with_predicates}
use Rattle.ms_logic_core.specs.Roots.{first_free}
use Rattle.ms_logic_core.specs.Spread.{Names, Callees, spread_under, spread_each, spread_restriction, spread_number, spread_set, conjunction_of, numbers_relate, sets_relate, is_member_or_not, variables_of_import, own_names, callees_of_imports, callees_with, callees_with_all, callees_of}
use Rattle.ms_logic_core.specs.Spread as spread
use Rattle.ms_logic_core.specs.inner.SpreadLaws.{IsWrittenOut, AreWrittenOut, IsWrittenOutIn, SpreadKeepsValue}
use Rattle.ms_logic.specs.Terms.{number_value, set_value}
use Rattle.ms_logic.specs.Tree.{Form, truth, falsity, truth_variable, negation, conjunction, disjunction, implication, equivalence, comparison, set_comparison, membership, emptiness, quantified, where_let, call, restrict, imported, exported, default_at, Forms, no_forms, more_forms, Restriction, unrestricted, restricted, Predicate}
use Rattle.ms_logic.specs.Truth.{Given, meanings_of_imports, with_predicate, with_predicates, meanings_of, Meanings, YesUnder, NoUnder, AllYes, AllNo, AllDefined, SomeYes, SomeNo, IsMet, NumbersRelate, SetsRelate, MembershipHolds, SomeInRange, NoneInRange, IsEmptyRange, Import, answer_at}
use Rattle.ms_logic.proofs.Agreement.{named}
use Rattle.ms_logic_core.proofs.CoreConsistent.{core_never_both}
use Rattle.ms_logic.proofs.FreeVariables.{some_moves, none_moves, some_or_empty_moves}
use Rattle.ms_logic_core.proofs.Saying.{Reading, reading-weaker, reading-extends, said_yes, said_no}
use Rattle.ms_logic_core.proofs.SayingTerms.{number_in, set_in, valid_along}
use Rattle.ms_logic_core.proofs.SpreadAtoms.{atom, numbers_mean, numbers_decided, sets_mean, sets_decided, member_means, member_decided}
use Rattle.ms_logic_core.proofs.SpreadKeeps.{reading-inside, truth_in}
use Rattle.ms_logic_core.proofs.SpreadTerms.{number_denotes, set_denotes}

-- facts that hold together
iff_both : {P P' Q Q' : Type 0} → (P ↔ P') → (Q ↔ Q') → (P × Q) ↔ (P' × Q')
iff_both first second = (λ h. (first.0 h.0, second.0 h.1), λ h. (first.1 h.0, second.1 h.1))

iff_three : {P P' Q Q' R R' : Type 0} → (P ↔ P') → (Q ↔ Q') → (R ↔ R') → (P × Q × R) ↔ (P' × Q' × R')
iff_three first second third = (λ h. (first.0 h.0, second.0 h.1, third.0 h.2), λ h. (first.1 h.0, second.1 h.1, third.1 h.2))

iff_either : {P P' Q Q' : Type 0} → (P ↔ P') → (Q ↔ Q') → (P ⊎ Q) ↔ (P' ⊎ Q')
iff_either first second =
    (λ h. ⊎_elim (λ p. inl (first.0 p)) (λ q. inr (second.0 q)) h, λ h. ⊎_elim (λ p. inl (first.1 p)) (λ q. inr (second.1 q)) h)

iff_then : {P Q R : Type 0} → (P ↔ Q) → (Q ↔ R) → P ↔ R
iff_then first second = (λ p. second.0 (first.0 p), λ r. first.1 (second.1 r))

swapped : {P Q : Type 0} → (P ↔ Q) → Q ↔ P
swapped both = (both.1, both.0)

-- the two values of a truth value
not_true : (b : Bool) → (b ≡ false) ↔ (b ≡ true → ⊥)
not_true true = (λ same holds. false≢true (sym same), λ fails. absurd (fails refl))
not_true false = (λ same holds. false≢true holds, λ fails. refl)

-- a conjunction of any list
conjunction_yes : (imports : List Import) (fs : List CoreForm) (c : Env) → AllCoreYes imports (core_forms fs) c ↔ CoreYes imports (conjunction_of fs) c
conjunction_yes imports [] c = (λ h. h, λ h. h)
conjunction_yes imports (only ∷ []) c = (λ h. h.0, λ h. (h, tt))
conjunction_yes imports (first ∷ second ∷ more) c = (λ h. h, λ h. h)

conjunction_no : (imports : List Import) (fs : List CoreForm) (c : Env) →
    (AllCoreDefined imports (core_forms fs) c × SomeCoreNo imports (core_forms fs) c) ↔ CoreNo imports (conjunction_of fs) c
conjunction_no imports [] c = (λ h. h.1, λ h. absurd h)
conjunction_no imports (only ∷ []) c = (λ h. ⊎_elim (λ no. no) (λ none. absurd none) h.1, λ h. ((inr h, tt), inl h))
conjunction_no imports (first ∷ second ∷ more) c = (λ h. h, λ h. h)

-- the values of the variables of an import
same_values : (names : Names) (e c : Env) (vs : List Variable) → ((w : Variable) → IsListed vs w → value_at w.order (names w.order w.name) c ≡ value_at w.order w.name e) →
    map (λ v. value_at v.order v.name e) vs ≡ map (λ p. value_at p.1.order p.0 c) (zip (map (λ v. names v.order v.name) vs) vs)
same_values names e c [] same = refl
same_values names e c (v ∷ vs) same =
    let first = same v (inl (refl, refl)) in let others = same_values names e c vs (λ w listed. same w (inr listed)) in
    ap (λ z. z ∷ map (λ v. value_at v.order v.name e) vs) (sym first) ∙ ap (λ zs. value_at v.order (names v.order v.name) c ∷ zs) others

same_answer : (names : Names) (e c : Env) (o : Option Import) → c.universe ≡ e.universe → ((w : Variable) → IsReadBy o w → value_at w.order (names w.order w.name) c ≡ value_at w.order w.name e) →
    answer_at o e ≡ answer_over o (map (λ v. names v.order v.name) (variables_of_import o)) c
same_answer names e c None universe same = refl
same_answer names e c (Some found) universe same =
    ap (λ u. found.answer u (map (λ v. value_at v.order v.name e) found.variables)) (sym universe) ∙ ap (found.answer c.universe) (same_values names e c found.variables same)

-- some value of a range, where each value of one range is in the other and what is said of it is kept
kept_some : (Here There Body CoreBody : Value → Type 0) → ((v : Value) → Here v ↔ There v) → ((v : Value) → Here v → Body v ↔ CoreBody v) →
    SomeInRange Here Body ↔ SomeInRange There CoreBody
kept_some Here There Body CoreBody ranges kept = (
  some_moves Here There Body CoreBody (λ v. (ranges v).0) (λ v in_range. (kept v in_range).0),
  some_moves There Here CoreBody Body (λ v. (ranges v).1) (λ v in_range. (kept v ((ranges v).1 in_range)).1),
)

-- no value of one kind, and some of another or an empty range
kept_none_or : (Here There Body Other CoreBody CoreOther : Value → Type 0) → ((v : Value) → Here v ↔ There v) → ((v : Value) → Here v → Body v ↔ CoreBody v) →
    ((v : Value) → Here v → Other v ↔ CoreOther v) →
    (NoneInRange Here Body × (SomeInRange Here Other ⊎ IsEmptyRange Here)) ↔ (NoneInRange There CoreBody × (SomeInRange There CoreOther ⊎ IsEmptyRange There))
kept_none_or Here There Body Other CoreBody CoreOther ranges kept other_kept =
    iff_both (
      none_moves Here There Body CoreBody (λ v. (ranges v).1) (λ v in_range. (kept v ((ranges v).1 in_range)).1),
      none_moves There Here CoreBody Body (λ v. (ranges v).0) (λ v in_range. (kept v in_range).0),
    ) (
      some_or_empty_moves Here There Other CoreOther (λ v. (ranges v).0) (λ v. (ranges v).1) (λ v in_range. (other_kept v in_range).0),
      some_or_empty_moves There Here CoreOther Other (λ v. (ranges v).1) (λ v. (ranges v).0) (λ v in_range. (other_kept v ((ranges v).1 in_range)).1),
    )

-- meanings, callees and what they read come from the same imports
pub record Corresponds (m : Meanings) (k : Callees) (r : Reads) (imports : List Import) : Type 0 where
  pub variables : (i : ℕ) → k.imported i ≡ variables_of_import (slice_get imports i)
  pub answers : (i : ℕ) (e : Env) → m.import_answer i e ≡ answer_at (slice_get imports i) e
  pub reads : (i : ℕ) (w : Variable) → IsReadBy (slice_get imports i) w → r.imported i w

module _ (m : Meanings) (k : Callees) (r : Reads) (imports : List Import) (corresponds : Corresponds m k r imports) where
  abbrev pub Keeps : Form → Names → ℕ → Env → Env → Type 0
  Keeps f names free e c =
      (YesUnder m f e ↔ CoreYes imports (spread_under k f names free) c) × (NoUnder m f e ↔ CoreNo imports (spread_under k f names free) c)

  record EachKept (fs : Forms) (names : Names) (free : ℕ) (e c : Env) : Type 0 where
    pub all_yes : AllYes m fs e ↔ AllCoreYes imports (core_forms (spread_each k fs names free)) c
    pub all_no : AllNo m fs e ↔ AllCoreNo imports (core_forms (spread_each k fs names free)) c
    pub all_defined : AllDefined m fs e ↔ AllCoreDefined imports (core_forms (spread_each k fs names free)) c
    pub some_yes : SomeYes m fs e ↔ SomeCoreYes imports (core_forms (spread_each k fs names free)) c
    pub some_no : SomeNo m fs e ↔ SomeCoreNo imports (core_forms (spread_each k fs names free)) c

  same_import : (i : ℕ) (names : Names) (free : ℕ) (e c : Env) → Reading (FreeUnder r (imported i)) names free e c →
      m.import_answer i e ≡ answer_over (slice_get imports i) (map (λ v. names v.order v.name) (k.imported i)) c
  same_import i names free e c reading =
      corresponds.answers i e
      ∙ (same_answer names e c (slice_get imports i) reading.universe (λ w read. reading.values w (corresponds.reads i w read))
      ∙ ap (λ vs. answer_over (slice_get imports i) (map (λ v. names v.order v.name) vs) c) (sym (corresponds.variables i)))

  module _ (o : Order) (x : ℕ) (d : Restriction) (f : Form) (names : Names) (free : ℕ) (e c : Env) where
    abbrev Here : Value → Type 0
    Here v = IsValueOf o e.universe v × IsMet m d (assign x v e)

    abbrev There : Value → Type 0
    There v = IsValueOf o c.universe v × IsCoreMet imports (spread_restriction k d (spread.named o x free names) (free + 1)) (assign free v c)

    abbrev BodyYes : Value → Type 0
    BodyYes v = YesUnder m f (assign x v e)

    abbrev BodyNo : Value → Type 0
    BodyNo v = NoUnder m f (assign x v e)

    abbrev CoreBodyYes : Value → Type 0
    CoreBodyYes v = CoreYes imports (spread_under k f (spread.named o x free names) (free + 1)) (assign free v c)

    abbrev CoreBodyNo : Value → Type 0
    CoreBodyNo v = CoreNo imports (spread_under k f (spread.named o x free names) (free + 1)) (assign free v c)

    -- a quantifier is kept where its body and its restriction are, at each value
    quantifier_kept : (q : Quant) → c.universe ≡ e.universe → ((v : Value) → IsValueOf o e.universe v → Keeps f (spread.named o x free names) (free + 1) (assign x v e) (assign free v c)) →
        ((v : Value) → IsValueOf o e.universe v → IsMet m d (assign x v e) ↔ IsCoreMet imports (spread_restriction k d (spread.named o x free names) (free + 1)) (assign free v c)) →
        Keeps (quantified q o x d f) names free e c
    quantifier_kept q universe body met = by_quantifier q
      where
        ranges : (v : Value) → Here v ↔ There v
        ranges v = (
          λ here. (valid_along o e.universe c.universe v (sym universe) here.0, (met v here.0).0 here.1),
          λ there. let valid = valid_along o c.universe e.universe v universe there.0 in (valid, (met v valid).1 there.1),
        )

        by_quantifier : (q : Quant) → Keeps (quantified q o x d f) names free e c
        by_quantifier Ex =
            (kept_some Here There BodyYes CoreBodyYes ranges (λ v here. (body v here.0).0), kept_none_or Here There BodyYes BodyNo CoreBodyYes CoreBodyNo ranges (λ v here. (body v here.0).0) (λ v here. (body v here.0).1))
        by_quantifier All =
            (kept_none_or Here There BodyNo BodyYes CoreBodyNo CoreBodyYes ranges (λ v here. (body v here.0).1) (λ v here. (body v here.0).0), kept_some Here There BodyNo CoreBodyNo ranges (λ v here. (body v here.0).1))

  mutual
    pub keeps : (f : Form) → IsWrittenOut f → (names : Names) (free : ℕ) (e c : Env) → Reading (FreeUnder r f) names free e c → Keeps f names free e c
    keeps truth written names free e c reading = ((λ h. h, λ h. h), (λ h. h, λ h. h))
    keeps falsity written names free e c reading = ((λ h. h, λ h. h), (λ h. h, λ h. h))
    keeps (truth_variable x) written names free e c reading =
        let same : c.truth (names Zero x) ≡ e.truth x = ap truth_in (reading.values (named x Zero) (refl, refl)) in (
          (λ holds. same ∙ holds, λ holds. sym same ∙ holds),
          (λ fails holds. (not_true (e.truth x)).0 fails (sym same ∙ holds), λ fails. (not_true (e.truth x)).1 (λ holds. fails (same ∙ holds))),
        )
    keeps (negation f) written names free e c reading = let inner = keeps f written names free e c reading in (inner.1, inner.0)
    keeps (conjunction fs) written names free e c reading =
        let each = each_kept fs written names free e c reading in (
          iff_then each.all_yes (conjunction_yes imports (spread_each k fs names free) c),
          iff_then (iff_both each.all_defined each.some_no) (conjunction_no imports (spread_each k fs names free) c),
        )
    keeps (disjunction fs) written names free e c reading =
        let each = each_kept fs written names free e c reading in (iff_both each.all_defined each.some_yes, each.all_no)
    keeps (implication f g) written names free e c reading =
        let first = keeps f written.0 names free e c (reading-weaker _ _ names free e c (λ w there. inl there) reading) in
        let second = keeps g written.1 names free e c (reading-weaker _ _ names free e c (λ w there. inr there) reading) in
        (iff_three (iff_either first.0 first.1) (iff_either second.0 second.1) (iff_either first.1 second.0), iff_both first.0 second.1)
    keeps (equivalence f g) written names free e c reading =
        let first = keeps f written.0 names free e c (reading-weaker _ _ names free e c (λ w there. inl there) reading) in
        let second = keeps g written.1 names free e c (reading-weaker _ _ names free e c (λ w there. inr there) reading) in
        (iff_either (iff_both first.0 second.0) (iff_both first.1 second.1), iff_either (iff_both first.0 second.1) (iff_both first.1 second.0))
    keeps (comparison rel t u) written names free e c reading =
        atom imports One One Number Number (spread_number t names) (spread_number u names) (numbers_relate rel) (NumbersRelate rel) free c (number_value t e) (number_value u e)
        (λ next d later extends. number_denotes imports t names next e d (reading-weaker _ _ names next e d (λ w there. inl there) (reading-extends _ names free next e c d later extends reading)))
        (λ next d later extends. number_denotes imports u names next e d (reading-weaker _ _ names next e d (λ w there. inr there) (reading-extends _ names free next e c d later extends reading)))
        (λ x y inner s t universe is_s is_t valid. numbers_mean imports rel x y inner s t (ap number_in is_s) (ap number_in is_t))
        (numbers_decided imports rel)
    keeps (set_comparison rel s t) written names free e c reading =
        atom imports Two Two Set Set (spread_set s names) (spread_set t names) (sets_relate rel) (SetsRelate rel) free c (set_value s e) (set_value t e)
        (λ next d later extends. set_denotes imports s names next e d (reading-weaker _ _ names next e d (λ w there. inl there) (reading-extends _ names free next e c d later extends reading)))
        (λ next d later extends. set_denotes imports t names next e d (reading-weaker _ _ names next e d (λ w there. inr there) (reading-extends _ names free next e c d later extends reading)))
        (λ x y inner a b universe is_a is_b valid. sets_mean imports rel x y inner a b (ap set_in is_a) (ap set_in is_b) valid.0)
        (sets_decided imports rel)
    keeps (membership positive t s) written names free e c reading =
        atom imports One Two Number Set (spread_number t names) (spread_set s names) (is_member_or_not positive) (MembershipHolds positive) free c (number_value t e) (set_value s e)
        (λ next d later extends. number_denotes imports t names next e d (reading-weaker _ _ names next e d (λ w there. inl there) (reading-extends _ names free next e c d later extends reading)))
        (λ next d later extends. set_denotes imports s names next e d (reading-weaker _ _ names next e d (λ w there. inr there) (reading-extends _ names free next e c d later extends reading)))
        (λ x y inner n members universe is_n is_members valid. member_means imports positive x y inner n members (ap number_in is_n) (ap set_in is_members))
        (member_decided imports positive)
    keeps (emptiness s) written names free e c reading =
        let denotes = set_denotes imports s names free e c reading in
        let yes = said_yes imports Two Set (spread_set s names) free c (set_value s e) denotes (λ next x. basic (Basic.Bits x 0)) (λ members. members ≡ [])
        (λ next x inner a inside. let is : inner.set x ≡ a = ap set_in inside.value in (λ holds. sym is ∙ holds, λ same. is ∙ same)) in (
          swapped yes,
          (
            λ fails. said_no imports Two Set (spread_set s names) free c (set_value s e) denotes (λ next x. basic (Basic.Bits x 0)) (λ next x inner a inside not_yes. not_yes) (λ holds. fails (yes.0 holds)),
            λ no holds. core_never_both imports (spread_under k (emptiness s) names free) c (yes.1 holds) no,
          ),
        )
    keeps (quantified q o x d f) written names free e c reading =
        quantifier_kept o x d f names free e c q reading.universe
        (λ v valid. keeps f written.1 (spread.named o x free names) (free + 1) (assign x v e) (assign free v c) (reading-inside o x v (FreeUnder r (quantified q o x d f)) (FreeUnder r f) names free e c valid (λ w is other. (other, inr is)) reading))
        (λ v valid. restriction_kept d written.0 (spread.named o x free names) (free + 1) (assign x v e) (assign free v c) (reading-inside o x v (FreeUnder r (quantified q o x d f)) (FreeInRestriction r d) names free e c valid (λ w is other. (other, inl is)) reading))
    keeps (where_let xs right_sides f) written names free e c reading = absurd written
    keeps (call p given) written names free e c reading = absurd written
    keeps (restrict f) written names free e c reading = let inner = keeps f written names free e c reading in (inner.0, (λ h. h, λ h. h))
    keeps (imported i) written names free e c reading =
        let same = same_import i names free e c reading in ((λ h. sym same ∙ h, λ h. same ∙ h), (λ h. sym same ∙ h, λ h. same ∙ h))
    keeps (exported i f) written names free e c reading = keeps f written names free e c reading
    keeps (default_at p x) written names free e c reading = absurd written

    each_kept : (fs : Forms) → AreWrittenOut fs → (names : Names) (free : ℕ) (e c : Env) → Reading (FreeInForms r fs) names free e c → EachKept fs names free e c
    each_kept no_forms written names free e c reading = record {
      all_yes = (λ h. h, λ h. h);
      all_no = (λ h. h, λ h. h);
      all_defined = (λ h. h, λ h. h);
      some_yes = (λ h. h, λ h. h);
      some_no = (λ h. h, λ h. h);
    }
    each_kept (more_forms f fs) written names free e c reading =
        let first = keeps f written.0 names free e c (reading-weaker _ _ names free e c (λ w there. inl there) reading) in
        let others = each_kept fs written.1 names free e c (reading-weaker _ _ names free e c (λ w there. inr there) reading) in
        record {
          all_yes = iff_both first.0 others.all_yes;
          all_no = iff_both first.1 others.all_no;
          all_defined = iff_both (iff_either first.0 first.1) others.all_defined;
          some_yes = iff_either first.0 others.some_yes;
          some_no = iff_either first.1 others.some_no;
        }

    restriction_kept : (d : Restriction) → IsWrittenOutIn d → (names : Names) (free : ℕ) (e c : Env) → Reading (FreeInRestriction r d) names free e c →
        IsMet m d e ↔ IsCoreMet imports (spread_restriction k d names free) c
    restriction_kept unrestricted written names free e c reading = (λ h. h, λ h. h)
    restriction_kept (restricted d) written names free e c reading = (keeps d written names free e c reading).0

-- what comes with predicates and imports corresponds
corresponds_with : (m : Meanings) (k : Callees) (r : Reads) (imports : List Import) (count : ℕ) (predicates : List Predicate) → Corresponds m k r imports →
    Corresponds (with_predicates m count predicates) (callees_with_all k count predicates) (reads_with_predicates r count predicates) imports
corresponds_with m k r imports count [] corresponds = corresponds
corresponds_with m k r imports count (first ∷ later) corresponds =
    corresponds_with (with_predicate m count first) (callees_with k count first) (reads_with_predicate r count first) imports (count + 1) later (record { variables = corresponds.variables; answers = corresponds.answers; reads = corresponds.reads })

corresponds_given : (given : Given) →
    Corresponds (meanings_of given) (callees_of given) (reads_with_predicates (reads_of_imports given.imports) 0 given.predicates) given.imports
corresponds_given given =
    corresponds_with (meanings_of_imports given.imports) (callees_of_imports given.imports) (reads_of_imports given.imports) given.imports 0 given.predicates (record { variables = λ i. refl; answers = λ i e. refl; reads = λ i w read. read })

-- the variables of a list are below the least number above them, and have values of their orders
listed_below : (vs : List Variable) (w : Variable) → IsListed vs w → w.name < first_free vs
listed_below [] w listed = absurd listed
listed_below (v ∷ vs) w listed =
    ⊎_elim (λ is. let same = is.0 in omega (arith, same)) (λ later. let below = listed_below vs w later in omega (arith, below)) listed

listed_valid : (vs : List Variable) (e : Env) → GivesEach vs e → (w : Variable) → IsListed vs w → IsValueOf w.order e.universe (value_at w.order w.name e)
listed_valid [] e gives w listed = absurd listed
listed_valid (v ∷ vs) e gives w listed =
    ⊎_elim (λ is. subst (λ o. IsValueOf o e.universe (value_at o w.name e)) (sym is.1) (subst (λ x. IsValueOf v.order e.universe (value_at v.order x e)) (sym is.0) gives.0)) (λ later. listed_valid vs e gives.1 w later) listed

pub spread_keeps_value : SpreadKeepsValue
spread_keeps_value given mode variables f e written assigned free =
    keeps (meanings_of given) (callees_of given) (reads_with_predicates (reads_of_imports given.imports) 0 given.predicates) given.imports (corresponds_given given) f written own_names (first_free variables) e e
    (record {
      universe = refl;
      below = λ w is_free. listed_below variables w (free w is_free);
      values = λ w is_free. refl;
      valid = λ w is_free. listed_valid variables e assigned.values w (free w is_free);
    })
