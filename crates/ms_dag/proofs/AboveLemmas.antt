-- A formula whose parts were shared last takes their places.
use Rattle.std.proofs.Common.{◌≡◌, ℕ, ◌-◌, ◌<◌, ◌≤◌, List, [], ◌∷◌, ◌++◌, length, take, drop, Option, Some, None, refl, sym, ◌∙◌, ap, subst, append-nil, append_assoc, arith}
use Rattle.std.proofs.lemmas.List.{length-append}
use Rattle.std.proofs.Math.Seq.{take-append_seam, drop-append_seam}
use Rattle.ms_logic.specs.declared.mode.Order.{Order}
use Rattle.ms_logic.specs.declared.mode.Quant.{Quant}
use Rattle.ms_logic_core.specs.declared.core_formula.Core.{Core}
use Rattle.ms_logic_core.specs.declared.core_formula.Core.TheVariants as code
use Rattle.ms_logic_core.specs.CoreForm.{CoreForm, negation, conjunction, disjunction, implication, equivalence, restrict, quantified, CoreForms, unrestricted, restricted, core_form_of}
use Rattle.ms_logic_core.specs.Operands.{variable}
use Rattle.ms_logic_core.specs.Calls.{Calls, filled, filled_each}
use Rattle.ms_dag.specs.declared.node.Child.{Child}
use Rattle.ms_dag.specs.declared.node.DagNode.TheVariants.{Not, And, Or, Implies, Iff, Restrict, Bind}
use Rattle.ms_dag.specs.declared.node.Entry.{Entry}
use Rattle.ms_dag.specs.Dag.{AreNodes}
use Rattle.ms_dag.specs.Laws.{HasOrder}
use Rattle.ms_dag.specs.inner.Scope.{forms_of}
use Rattle.ms_dag.specs.inner.Shared.{AreSharedNow, IsAbove, IsSharedNow}
use Rattle.ms_dag.specs.inner.Tasks.{AreSharedInTurn, IsMadeAbove, listed, parts_of}
use Rattle.ms_dag.proofs.ShareSteps.{form-Bind-none, form-Bind-some, step_negation, step_restrict, step_unrestricted, step_conjunction, step_disjunction, step_implication, step_equivalence, step_restricted}
use Rattle.ms_dag.proofs.TurnLemmas.{AreSharedInTurn-now, core_forms-listed}

pub length-listed : (calls : Calls) (cores : List Core) → length (listed (filled_each calls (forms_of cores))) ≡ length cores
length-listed calls [] = refl
length-listed calls (c ∷ cs) = let later = length-listed calls cs in omega (arith, later)

-- a quantified formula has parts
pub some_part : (calls : Calls) (core : Core) (q : Quant) (o : Order) (x : ℕ) (d : Option Core) (f : Core) → core ≡ code.Bind q o x d f → 0 < length (parts_of (filled calls (core_form_of core)))
some_part calls core q o x None f is = let count = ap (λ form. length (parts_of form)) (form-Bind-none calls core q o x f is) in omega (arith, count)
some_part calls core q o x (Some d) f is = let count = ap (λ form. length (parts_of form)) (form-Bind-some calls core q o x d f is) in omega (arith, count)

-- two lists that are equal have equal ends
pub snoc_same : (xs ys : List Child) (x y : Child) → xs ++ x ∷ [] ≡ ys ++ y ∷ [] → (xs ≡ ys) × (x ≡ y)
snoc_same [] [] x y same = (refl, cc)
snoc_same [] (b ∷ bs) x y same = let long = ap length same in let all = length-append bs (y ∷ []) in absurd (omega (arith, long, all))
snoc_same (a ∷ as') [] x y same = let long = ap length same in let all = length-append as' (x ∷ []) in absurd (omega (arith, long, all))
snoc_same (a ∷ as') (b ∷ bs) x y same =
    let head : a ≡ b = cc in
    let tail : as' ++ x ∷ [] ≡ bs ++ y ∷ [] = cc in
    let later = snoc_same as' bs x y tail in
    let rest : as' ≡ bs = later.0 in
    (cc, later.1)

module _ (orders : List Order) (mid : List Entry) where
  long_in_turn : (before : List Entry) (fs : List CoreForm) (own : List Child) → AreSharedInTurn orders before mid fs own → length own ≡ length fs
  long_in_turn before [] [] are = refl
  long_in_turn before [] (c ∷ cs) are = absurd are
  long_in_turn before (f ∷ fs) [] are = absurd are
  long_in_turn before (f ∷ fs) (c ∷ cs) are = let later = long_in_turn are.0 fs cs are.2 in omega (arith, later)

  -- there are as many as formulas
  pub parts_long : (before : List Entry) (fs : List CoreForm) (parts others own : List Child) → parts ≡ others ++ own → AreSharedInTurn orders before mid fs own → length fs ≤ length parts
  parts_long before fs parts others own is are =
      let long = long_in_turn before fs own are in
      let all = ap length is ∙ length-append others own in
      omega (arith, long, all)

  -- the last of them
  pub last_one : (before : List Entry) (f : CoreForm) (xs others own : List Child) (x : Child) → AreSharedInTurn orders before mid (f ∷ []) own → xs ++ x ∷ [] ≡ others ++ own → (xs ≡ others) × IsSharedNow orders before mid f x
  last_one before f xs others [] x are is = absurd are
  last_one before f xs others (c ∷ []) x are is =
      let same = snoc_same xs others x c is in
      (same.0, subst (λ one. IsSharedNow orders before mid f one) (sym same.1) (subst (λ last. IsSharedNow orders before last f c) are.2 are.1))
  last_one before f xs others (c ∷ d ∷ ds) x are is = absurd are.2

  pub last_two : (before : List Entry) (f g : CoreForm) (xs others own : List Child) (x y : Child) → AreSharedInTurn orders before mid (f ∷ g ∷ []) own → (xs ++ x ∷ []) ++ y ∷ [] ≡ others ++ own →
      (xs ≡ others) × (between : List Entry) × IsSharedNow orders before between f x × IsSharedNow orders between mid g y
  last_two before f g xs others [] x y are is = absurd are
  last_two before f g xs others (c ∷ []) x y are is = absurd are.2
  last_two before f g xs others (c ∷ d ∷ []) x y are is =
      let last = snoc_same (xs ++ x ∷ []) (others ++ c ∷ []) y d (is ∙ sym (append_assoc others (c ∷ []) (d ∷ []))) in
      let first = snoc_same xs others x c last.0 in
      let second = are.2 in
      let one : IsSharedNow orders before are.0 f x = subst (λ child. IsSharedNow orders before are.0 f child) (sym first.1) are.1 in
      let there : IsSharedNow orders are.0 mid g d = subst (λ end. IsSharedNow orders are.0 end g d) second.2 second.1 in
      let two : IsSharedNow orders are.0 mid g y = subst (λ child. IsSharedNow orders are.0 mid g child) (sym last.1) there in
      (first.0, are.0, one, two)
  last_two before f g xs others (c ∷ d ∷ e ∷ es) x y are is = absurd are.2.2

  last_each : (before : List Entry) (fs : List CoreForm) (parts others own : List Child) (n : ℕ) → parts ≡ others ++ own → AreSharedInTurn orders before mid fs own → n ≡ length fs →
      (take (length parts - n) parts ≡ others) × (drop (length parts - n) parts ≡ own)
  last_each before fs parts others own n is are count =
      let long = long_in_turn before fs own are in
      let all = ap length is ∙ length-append others own in
      let seam : length parts - n ≡ length others = omega (arith, long, all, count) in
      (ap (λ k. take k parts) seam ∙ ap (take (length others)) is ∙ take-append_seam others own, ap (λ k. drop k parts) seam ∙ ap (drop (length others)) is ∙ drop-append_seam others own)

  module _ (new : List Entry) (nodes : AreNodes mid) where
    pub made_leaf : (f : CoreForm) (child : Child) (parts : List Child) → parts_of f ≡ [] → IsSharedNow orders mid new f child → IsMadeAbove orders mid new parts parts f child
    made_leaf f child parts none now = record { step = λ before others own is are. only before others own is (subst (λ fs. AreSharedInTurn orders before mid fs own) none are) }
      where
        only : (before : List Entry) (others own : List Child) → parts ≡ others ++ own → AreSharedInTurn orders before mid [] own → (parts ≡ others) × IsSharedNow orders before new f child
        only before others [] is are = (is ∙ append-nil others, subst (λ first. IsSharedNow orders first new f child) (sym are) now)
        only before others (c ∷ cs) is are = absurd are

    -- one part
    module _ (parts left : List Child) (part : Child) (took : parts ≡ left ++ part ∷ []) (f : CoreForm) (placed child : Child) where
      pub made_negation : IsAbove orders mid new [] (part ∷ []) (Not placed) child → IsMadeAbove orders mid new parts left (negation f) child
      made_negation above = record {
        step = λ before others own is are.
            let last = last_one before f left others own part are (sym took ∙ is) in
            (last.0, step_negation orders before mid new f part placed child last.1 above);
      }

      pub made_restrict : IsAbove orders mid new [] (part ∷ []) (Restrict placed) child → IsMadeAbove orders mid new parts left (restrict f) child
      made_restrict above = record {
        step = λ before others own is are.
            let last = last_one before f left others own part are (sym took ∙ is) in
            (last.0, step_restrict orders before mid new f part placed child last.1 above);
      }

      pub made_unrestricted : (q : Quant) (o : Order) (x : ℕ) → HasOrder orders (variable x o) → IsAbove orders mid new (x ∷ []) (part ∷ []) (Bind q o (length child.map) None placed) child →
          IsMadeAbove orders mid new parts left (quantified q o x unrestricted f) child
      made_unrestricted q o x bound above = record {
        step = λ before others own is are.
            let last = last_one before f left others own part are (sym took ∙ is) in
            (last.0, step_unrestricted orders before mid new f part placed child last.1 q o x bound above);
      }

    -- two parts
    module _ (parts left : List Child) (first second : Child) (took : parts ≡ (left ++ first ∷ []) ++ second ∷ []) (f g : CoreForm) (one two child : Child) where
      pub made_implication : IsAbove orders mid new [] (first ∷ second ∷ []) (Implies one two) child → IsMadeAbove orders mid new parts left (implication f g) child
      made_implication above = record {
        step = λ before others own is are.
            let last = last_two before f g left others own first second are (sym took ∙ is) in
            (last.0, step_implication orders before last.1 mid new f g first second one two child last.2 last.3 above);
      }

      pub made_equivalence : IsAbove orders mid new [] (first ∷ second ∷ []) (Iff one two) child → IsMadeAbove orders mid new parts left (equivalence f g) child
      made_equivalence above = record {
        step = λ before others own is are.
            let last = last_two before f g left others own first second are (sym took ∙ is) in
            (last.0, step_equivalence orders before last.1 mid new f g first second one two child last.2 last.3 above);
      }

      pub made_restricted : (q : Quant) (o : Order) (x : ℕ) → HasOrder orders (variable x o) → IsAbove orders mid new (x ∷ []) (first ∷ second ∷ []) (Bind q o (length child.map) (Some one) two) child →
          IsMadeAbove orders mid new parts left (quantified q o x (restricted f) g) child
      made_restricted q o x bound above = record {
        step = λ before others own is are.
            let last = last_two before f g left others own first second are (sym took ∙ is) in
            (last.0, step_restricted orders before last.1 mid new f g first second one two child last.2 last.3 q o x bound above);
      }

    -- a list of parts
    module _ (fs : CoreForms) (parts left placed : List Child) (child : Child) (n : ℕ) (count : n ≡ length (listed fs)) (took : left ≡ take (length parts - n) parts) where
      now_each : (before : List Entry) (own : List Child) → AreSharedInTurn orders before mid (listed fs) own → AreSharedNow orders before mid fs own
      now_each before own are = subst (λ gs. AreSharedNow orders before mid gs own) (core_forms-listed fs) (AreSharedInTurn-now orders before mid (listed fs) own nodes are)

      pub made_conjunction : IsAbove orders mid new [] (drop (length parts - n) parts) (And placed) child → IsMadeAbove orders mid new parts left (conjunction fs) child
      made_conjunction above = record {
        step = λ before others own is are.
            let last = last_each before (listed fs) parts others own n is are count in
            (took ∙ last.0, step_conjunction orders before mid new fs own placed child (now_each before own are) (subst (λ list. IsAbove orders mid new [] list (And placed) child) last.1 above));
      }

      pub made_disjunction : IsAbove orders mid new [] (drop (length parts - n) parts) (Or placed) child → IsMadeAbove orders mid new parts left (disjunction fs) child
      made_disjunction above = record {
        step = λ before others own is are.
            let last = last_each before (listed fs) parts others own n is are count in
            (took ∙ last.0, step_disjunction orders before mid new fs own placed child (now_each before own are) (subst (λ list. IsAbove orders mid new [] list (Or placed) child) last.1 above));
      }
