-- What the loop over tasks keeps, and how it ends.
use Rattle.std.proofs.Common.{◌≡◌, ℕ, ◌+◌, ◌<◌, List, [], ◌∷◌, ◌++◌, refl, sym, ◌∙◌, ap, subst, append-nil, append_assoc, arith}
use Rattle.ms_logic.specs.declared.mode.Order.{Order}
use Rattle.ms_logic_core.specs.CoreForm.{CoreForm, truth, falsity, basic, negation, conjunction, disjunction, implication, equivalence, restrict, imported, quantified, CoreForms, no_forms, more_forms, unrestricted, restricted}
use Rattle.ms_logic_core.specs.Calls.{Calls, filled, filled_each}
use Rattle.ms_dag.specs.declared.node.Child.{Child}
use Rattle.ms_dag.specs.declared.node.Entry.{Entry}
use Rattle.ms_dag.specs.Dag.{AreNodes}
use Rattle.ms_dag.specs.inner.Shared.{IsSharedNow}
use Rattle.ms_dag.specs.inner.Tasks.{Todo, share, each, above, plan_of_parts, plan_of, plan_of_each, turns_of, turns_of_each, turns_of_task, turns_left, listed, parts_of, Does, LeadTo, IsNoImport, IsFit, AreFit, AreSharedInTurn, IsUnderWay, IsPutAbove}
use Rattle.ms_dag.proofs.TurnLemmas.{IsSplit, split_turns, push_turn, AreSharedInTurn-nodes}

-- how many tasks there are

pub turns_left-append : (ts us : List Todo) → turns_left (ts ++ us) ≡ turns_left ts + turns_left us
turns_left-append [] us = omega arith
turns_left-append (t ∷ ts) us = let later = turns_left-append ts us in omega (arith, later)

pub turns_of-plan : (f : CoreForm) → turns_left (plan_of f) < turns_of f
turns_of-plan truth = omega arith
turns_of-plan falsity = omega arith
turns_of-plan (basic b) = omega arith
turns_of-plan (negation f) = omega arith
turns_of-plan (conjunction fs) = omega arith
turns_of-plan (disjunction fs) = omega arith
turns_of-plan (implication f g) = omega arith
turns_of-plan (equivalence f g) = omega arith
turns_of-plan (restrict f) = omega arith
turns_of-plan (imported i xs) = omega arith
turns_of-plan (quantified q o x unrestricted f) = omega arith
turns_of-plan (quantified q o x (restricted d) f) = omega arith

pub turns_of_each-plan : (fs : CoreForms) → turns_left (plan_of_each fs) < turns_of_each fs
turns_of_each-plan no_forms = omega arith
turns_of_each-plan (more_forms f fs) = omega arith

turns_of_task-some : (t : Todo) → 0 < turns_of_task t
turns_of_task-some (share f) = let fewer = turns_of-plan f in omega (arith, fewer)
turns_of_task-some (each fs) = let fewer = turns_of_each-plan fs in omega (arith, fewer)
turns_of_task-some (above f) = omega arith

-- fewer are left after the last is done, and after it is planned
pub turns_left-done : (all ts : List Todo) (t : Todo) → all ≡ ts ++ t ∷ [] → turns_left ts < turns_left all
turns_left-done all ts t is =
    let count = ap turns_left is ∙ turns_left-append ts (t ∷ []) in
    let some = turns_of_task-some t in
    omega (arith, count, some)

pub turns_left-plan : (all next ts : List Todo) (f : CoreForm) → all ≡ ts ++ share f ∷ [] → next ≡ ts ++ plan_of f → turns_left next < turns_left all
turns_left-plan all next ts f is planned =
    let before = ap turns_left is ∙ turns_left-append ts (share f ∷ []) in
    let after = ap turns_left planned ∙ turns_left-append ts (plan_of f) in
    let fewer = turns_of-plan f in
    omega (arith, before, after, fewer)

pub turns_left-plan_each : (all next ts : List Todo) (fs : CoreForms) → all ≡ ts ++ each fs ∷ [] → next ≡ ts ++ plan_of_each fs → turns_left next < turns_left all
turns_left-plan_each all next ts fs is planned =
    let before = ap turns_left is ∙ turns_left-append ts (each fs ∷ []) in
    let after = ap turns_left planned ∙ turns_left-append ts (plan_of_each fs) in
    let fewer = turns_of_each-plan fs in
    omega (arith, before, after, fewer)

-- where they lead
module _ (calls : Calls) where
  -- one list of them after another
  LeadTo-append : (ts us : List Todo) (from mid to : List CoreForm) → LeadTo calls us from mid → LeadTo calls ts mid to → LeadTo calls (ts ++ us) from to
  LeadTo-append [] us from mid to first second = subst (λ list. LeadTo calls us from list) second first
  LeadTo-append (t ∷ ts) us from mid to first second = (second.0, LeadTo-append ts us from mid second.0 first second.1, second.2)

  -- the last is done first
  LeadTo-snoc : (ts : List Todo) (t : Todo) (from to : List CoreForm) → LeadTo calls (ts ++ t ∷ []) from to → (mid : List CoreForm) × Does calls t from mid × LeadTo calls ts mid to
  LeadTo-snoc [] t from to lead = (to, subst (λ list. Does calls t list to) (sym lead.1) lead.2, refl)
  LeadTo-snoc (s ∷ ts) t from to lead = let inner = LeadTo-snoc ts t from lead.0 lead.1 in (inner.0, inner.1, (lead.0, inner.2, lead.2))

  LeadTo-last : (all ts : List Todo) (t : Todo) (from to : List CoreForm) → all ≡ ts ++ t ∷ [] → LeadTo calls all from to → (mid : List CoreForm) × Does calls t from mid × LeadTo calls ts mid to
  LeadTo-last all ts t from to is lead = LeadTo-snoc ts t from to (subst (λ list. LeadTo calls list from to) is lead)

  -- others that lead to the same in the place of the last
  LeadTo-instead : (ts us next : List Todo) (from mid meant to : List CoreForm) → next ≡ ts ++ us → mid ≡ meant → LeadTo calls us from meant → LeadTo calls ts mid to → LeadTo calls next from to
  LeadTo-instead ts us next from mid meant to is same first second =
      subst (λ list. LeadTo calls list from to) (sym is) (LeadTo-append ts us from mid to (subst (λ list. LeadTo calls us from list) (sym same) first) second)

  pair : (from : List CoreForm) (f g : CoreForm) → from ++ f ∷ g ∷ [] ≡ (from ++ f ∷ []) ++ g ∷ []
  pair from f g = sym (append_assoc from (f ∷ []) (g ∷ []))

  LeadTo-parts : (f : CoreForm) (from : List CoreForm) → IsNoImport f → LeadTo calls (plan_of_parts f) from (from ++ parts_of (filled calls f))
  LeadTo-parts truth from plain = sym (append-nil from)
  LeadTo-parts falsity from plain = sym (append-nil from)
  LeadTo-parts (basic b) from plain = sym (append-nil from)
  LeadTo-parts (negation f) from plain = (from, refl, refl)
  LeadTo-parts (conjunction fs) from plain = (from, refl, refl)
  LeadTo-parts (disjunction fs) from plain = (from, refl, refl)
  LeadTo-parts (implication f g) from plain = (from ++ filled calls f ∷ [], (from, refl, refl), pair from (filled calls f) (filled calls g))
  LeadTo-parts (equivalence f g) from plain = (from ++ filled calls f ∷ [], (from, refl, refl), pair from (filled calls f) (filled calls g))
  LeadTo-parts (restrict f) from plain = (from, refl, refl)
  LeadTo-parts (imported i xs) from plain = absurd plain
  LeadTo-parts (quantified q o x unrestricted f) from plain = (from, refl, refl)
  LeadTo-parts (quantified q o x (restricted d) f) from plain = (from ++ filled calls d ∷ [], (from, refl, refl), pair from (filled calls d) (filled calls f))

  LeadTo-plan : (f : CoreForm) (from : List CoreForm) → IsNoImport f → LeadTo calls (plan_of f) from (from ++ filled calls f ∷ [])
  LeadTo-plan f from plain = (from ++ parts_of (filled calls f), LeadTo-parts f from plain, (from, refl, refl))

  LeadTo-plan_each : (fs : CoreForms) (from : List CoreForm) → LeadTo calls (plan_of_each fs) from (from ++ listed (filled_each calls fs))
  LeadTo-plan_each no_forms from = sym (append-nil from)
  LeadTo-plan_each (more_forms f fs) from = (from ++ filled calls f ∷ [], (from, refl, refl), sym (append_assoc from (filled calls f ∷ []) (listed (filled_each calls fs))))

  -- what they are on
  module _ (orders : List Order) (limit : ℕ) where
    AreFit-append : (ts us : List Todo) → AreFit calls orders limit ts → AreFit calls orders limit us → AreFit calls orders limit (ts ++ us)
    AreFit-append [] us first second = second
    AreFit-append (t ∷ ts) us first second = (first.0, AreFit-append ts us first.1 second)

    AreFit-instead : (ts us next : List Todo) → next ≡ ts ++ us → AreFit calls orders limit ts → AreFit calls orders limit us → AreFit calls orders limit next
    AreFit-instead ts us next is first second = subst (AreFit calls orders limit) (sym is) (AreFit-append ts us first second)

    AreFit-snoc : (ts : List Todo) (t : Todo) → AreFit calls orders limit (ts ++ t ∷ []) → AreFit calls orders limit ts × IsFit calls orders limit t
    AreFit-snoc [] t fit = (tt, fit.0)
    AreFit-snoc (s ∷ ts) t fit = let inner = AreFit-snoc ts t fit.1 in ((fit.0, inner.0), inner.1)

    AreFit-last : (all ts : List Todo) (t : Todo) → all ≡ ts ++ t ∷ [] → AreFit calls orders limit all → AreFit calls orders limit ts × IsFit calls orders limit t
    AreFit-last all ts t is fit = AreFit-snoc ts t (subst (AreFit calls orders limit) is fit)

    AreFit-plan : (f : CoreForm) → IsNoImport f → IsFit calls orders limit (share f) → AreFit calls orders limit (plan_of f)
    AreFit-plan truth plain fit = ((fit.0, plain), tt)
    AreFit-plan falsity plain fit = ((fit.0, plain), tt)
    AreFit-plan (basic b) plain fit = ((fit.0, plain), tt)
    AreFit-plan (negation f) plain fit = ((fit.0, plain), ((fit.0, fit.1), tt))
    AreFit-plan (conjunction fs) plain fit = ((fit.0, plain), ((fit.0, fit.1), tt))
    AreFit-plan (disjunction fs) plain fit = ((fit.0, plain), ((fit.0, fit.1), tt))
    AreFit-plan (implication f g) plain fit = ((fit.0, plain), (((fit.0.0, fit.0.1.1), λ small. (fit.1 small).1), (((fit.0.0, fit.0.1.0), λ small. (fit.1 small).0), tt)))
    AreFit-plan (equivalence f g) plain fit = ((fit.0, plain), (((fit.0.0, fit.0.1.1), λ small. (fit.1 small).1), (((fit.0.0, fit.0.1.0), λ small. (fit.1 small).0), tt)))
    AreFit-plan (restrict f) plain fit = ((fit.0, plain), ((fit.0, fit.1), tt))
    AreFit-plan (imported i xs) plain fit = absurd plain
    AreFit-plan (quantified q o x unrestricted f) plain fit = ((fit.0, plain), (((x ∷ fit.0.0, fit.0.1.3), λ small. (fit.1 small).1), tt))
    AreFit-plan (quantified q o x (restricted d) f) plain fit =
        ((fit.0, plain), (((x ∷ fit.0.0, fit.0.1.3), λ small. (fit.1 small).1), (((x ∷ fit.0.0, fit.0.1.2), λ small. (fit.1 small).0), tt)))

    AreFit-plan_each : (fs : CoreForms) → IsFit calls orders limit (each fs) → AreFit calls orders limit (plan_of_each fs)
    AreFit-plan_each no_forms fit = tt
    AreFit-plan_each (more_forms f fs) fit = (((fit.0.0, fit.0.1.1), λ small. (fit.1 small).1), (((fit.0.0, fit.0.1.0), λ small. (fit.1 small).0), tt))

    -- the loop
    module _ (old : List Entry) (goal : CoreForm) where
      pub ends : (new : List Entry) (parts : List Child) → IsUnderWay calls orders limit old new goal [] parts → (child : Child) × (parts ≡ child ∷ []) × IsSharedNow orders old new goal child
      ends new parts now = only parts (subst (λ forms. AreSharedInTurn orders old new forms parts) now.lead now.shared)
        where
          only : (list : List Child) → AreSharedInTurn orders old new (goal ∷ []) list → (child : Child) × (list ≡ child ∷ []) × IsSharedNow orders old new goal child
          only [] are = absurd are
          only (c ∷ []) are = (c, refl, subst (λ last. IsSharedNow orders old last goal c) are.2 are.1)
          only (c ∷ d ∷ ds) are = absurd are.2

      pub nodes_now : (new : List Entry) (ts : List Todo) (parts : List Child) → AreNodes old → IsUnderWay calls orders limit old new goal ts parts → AreNodes new
      nodes_now new ts parts nodes now = AreSharedInTurn-nodes orders old new now.forms parts nodes now.shared

      -- after the last task was taken
      module _ (mid : List Entry) (all ts : List Todo) (parts : List Child) (now : IsUnderWay calls orders limit old mid goal all parts) where
        pub task_fit : (t : Todo) → all ≡ ts ++ t ∷ [] → IsFit calls orders limit t
        task_fit t is = (AreFit-last all ts t is now.fit).1

        pub step_plan : (f : CoreForm) (next : List Todo) → all ≡ ts ++ share f ∷ [] → next ≡ ts ++ plan_of f → IsNoImport f → IsUnderWay calls orders limit old mid goal next parts
        step_plan f next is planned plain =
            let last = LeadTo-last all ts (share f) now.forms (goal ∷ []) is now.lead in
            let fit = AreFit-last all ts (share f) is now.fit in
            record {
              forms = now.forms;
              shared = now.shared;
              lead = LeadTo-instead ts (plan_of f) next now.forms last.0 (now.forms ++ filled calls f ∷ []) (goal ∷ []) planned last.1 (LeadTo-plan f now.forms plain) last.2;
              fit = AreFit-instead ts (plan_of f) next planned fit.0 (AreFit-plan f plain fit.1);
            }

        pub step_plan_each : (fs : CoreForms) (next : List Todo) → all ≡ ts ++ each fs ∷ [] → next ≡ ts ++ plan_of_each fs → IsUnderWay calls orders limit old mid goal next parts
        step_plan_each fs next is planned =
            let last = LeadTo-last all ts (each fs) now.forms (goal ∷ []) is now.lead in
            let fit = AreFit-last all ts (each fs) is now.fit in
            record {
              forms = now.forms;
              shared = now.shared;
              lead = LeadTo-instead ts (plan_of_each fs) next now.forms last.0 (now.forms ++ listed (filled_each calls fs)) (goal ∷ []) planned last.1 (LeadTo-plan_each fs now.forms) last.2;
              fit = AreFit-instead ts (plan_of_each fs) next planned fit.0 (AreFit-plan_each fs fit.1);
            }

        pub step_shared : (new : List Entry) (f : CoreForm) (child : Child) (left : List Child) → all ≡ ts ++ share f ∷ [] → left ≡ parts ++ child ∷ [] → IsSharedNow orders mid new (filled calls f) child →
            IsUnderWay calls orders limit old new goal ts left
        step_shared new f child left is put shared =
            let last = LeadTo-last all ts (share f) now.forms (goal ∷ []) is now.lead in
            record {
              forms = last.0;
              shared = push_turn orders old mid new now.forms last.0 parts left (filled calls f) child last.1 put now.shared shared;
              lead = last.2;
              fit = (AreFit-last all ts (share f) is now.fit).0;
            }

        -- the parts of a formula stand at the end
        module _ (f : CoreForm) (is : all ≡ ts ++ above f ∷ []) where
          parts_split : (others : List CoreForm) → now.forms ≡ others ++ parts_of (filled calls f) → IsSplit orders old mid others (parts_of (filled calls f)) parts
          parts_split others forms = split_turns orders old mid now.forms others (parts_of (filled calls f)) parts forms now.shared

          pub parts_shared : (before : List Entry) × (others : List Child) × (own : List Child) × (parts ≡ others ++ own) × AreSharedInTurn orders before mid (parts_of (filled calls f)) own
          parts_shared =
              let does = (LeadTo-last all ts (above f) now.forms (goal ∷ []) is now.lead).1 in
              let split = parts_split does.0 does.1 in
              (split.mid, split.others, split.own, split.is, split.second)

          pub step_above : (new : List Entry) (left : List Child) → IsPutAbove orders mid new parts left (filled calls f) → IsUnderWay calls orders limit old new goal ts left
          step_above new left put =
              let last = LeadTo-last all ts (above f) now.forms (goal ∷ []) is now.lead in
              let does = last.1 in
              let split = parts_split does.0 does.1 in
              let made = put.step split.mid split.others split.own split.is split.second in
              record {
                forms = last.0;
                shared = push_turn orders old split.mid new does.0 last.0 split.others left (filled calls f) made.0 does.2 made.1 split.first made.2;
                lead = last.2;
                fit = (AreFit-last all ts (above f) is now.fit).0;
              }
