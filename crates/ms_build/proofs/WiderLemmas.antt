-- Automata over more variables.
use Rattle.std.proofs.Common.{◌≡◌, ℕ, inl, inr, ⊎_elim, Result, Ok, Err, IfOk, List, [], ◌∷◌, ◌++◌, take, slice_get, Some, refl, sym, subst, ◌∙◌, ◌⊎◌}
use Rattle.ms_dfa.specs.Automaton.{IsAutomaton, variables_of}
use Rattle.ms_list.specs.declared.fault.StepFault.{StepFault}
use Rattle.ms_dfa_explore.specs.Tracks.{merged}
use Rattle.ms_dfa_explore.proofs.AmongLemmas.{among_at, merged-either, among_either}
use Rattle.ms_dfa_explore.proofs.TracksLemmas.{among-left, among-right, merged-left, merged-right}
use Rattle.ms_basic.specs.Operands.{HaveOneOrder}
use Rattle.ms_product.specs.Combined.{HaveEqualOrders}
use Rattle.ms_rename.proofs.OrderLemmas.{HaveOneOrder-rising}
use Rattle.ms_rename.proofs.RenamedLemmas.{HasValues-same}
use Rattle.ms_logic_words.specs.Residual.{HaveEqualSigns, IsLeast}
use Rattle.ms_logic.specs.declared.mode.Mode.{Mode}
use Rattle.ms_logic_words.specs.declared.sign.Sign.{Sign}
use Rattle.ms_logic.specs.Assignment.{Variable}
use Rattle.ms_logic_words.specs.Content.{Content}
use Rattle.ms_logic.specs.Lists.{AreRising, IsAmong}
use Rattle.ms_dfa.specs.Values.{HasValues, Meaning, own_meaning}
use Rattle.ms_dfa.proofs.OwnMeaningLemmas.{HasValues-own}
use Rattle.ms_build.specs.Built.{IsOver}
use Rattle.ms_build.specs.declared.lacked.Lacked.{Lacked}
use Rattle.ms_build.specs.inner.Lacked.{IsLacked}
use Rattle.ms_build.specs.Wider.{IsWider}
use Rattle.ms_build.proofs.VariableLemmas.{taken-among}
use Rattle.ms_build.proofs.WholeLemmas.{HasValues-more, rising_equal}
use Rattle.ms_build.specs.Short.{WideningLacks}

-- over no more variables
pub IsWider-none : (content : Content Sign) → IsAutomaton content → IsWider content [] content
IsWider-none content automaton = record {
  mode_is = refl;
  variables = λ v. (inl, λ either. ⊎_elim (λ own. own) (λ never. absurd never) either);
  values = HasValues-own content automaton;
}

-- over these variables, and then over those
pub IsWider-then : (content between made : Content Sign) (first second : List Variable) → IsAutomaton between → IsWider content first between → IsWider between second made
    → IsWider content (first ++ second) made
IsWider-then content between made first second automaton one two = record {
  mode_is = two.mode_is ∙ one.mode_is;
  variables = λ v. (
    λ there. ⊎_elim (λ before. ⊎_elim inl (λ new. inr (among-left first second v new)) ((one.variables v).0 before)) (λ last. inr (among-right first second v last)) ((two.variables v).0 there),
    λ either. (two.variables v).1 (⊎_elim (λ own. inl ((one.variables v).1 (inl own)))
        (λ more. ⊎_elim (λ new. inl ((one.variables v).1 (inr new))) inr (among_either first second v more)) either),
  );
  values = HasValues-more (own_meaning content) between made automaton two.mode_is (λ v there. (two.variables v).1 (inl there)) one.values two.values;
}

-- what was widened, once it has fewest states
pub wider_by : (content wide : Content Sign) (more : List Variable) (least : Content Sign) → HaveEqualOrders content.variables more → wide.mode ≡ content.mode
    → wide.variables ≡ merged content.variables more → HasValues (own_meaning content) wide → least.mode ≡ wide.mode → least.variables ≡ wide.variables → HaveEqualSigns wide least
    → IsWider content more least
wider_by content wide more least orders mode_is variables_are values least_mode least_variables signs = record {
  mode_is = least_mode ∙ mode_is;
  variables = λ v. (
    λ there. merged-either content.variables more v (subst (λ vs. IsAmong vs v) (least_variables ∙ variables_are) there),
    λ either. subst (λ vs. IsAmong vs v) (sym (least_variables ∙ variables_are))
        (⊎_elim (λ own. merged-left content.variables more v own) (λ new. merged-right content.variables more v (λ u there name. orders u v there new name) new) either),
  );
  values = HasValues-same (own_meaning content) wide least least_mode least_variables signs values;
}

-- over the first ones of some variables, the next one has its order
pub next_orders : (content made : Content Sign) (vs : List Variable) (i : ℕ) (v : Variable) → HaveOneOrder vs → HaveEqualOrders content.variables vs → IsWider content (take i vs) made
    → slice_get vs i ≡ Some v → HaveEqualOrders made.variables (v ∷ [])
next_orders content made vs i v one orders wider held u w is also same = ⊎_elim
    (λ here.
    let last = subst (IsAmong vs) here (among_at vs i v held) in
    ⊎_elim (λ own. orders u w own last same) (λ some. one u w (taken-among i vs u some) last same) ((wider.variables u).0 is))
    (λ never. absurd never)
    also

-- an automaton over all wanted variables, which have all of its own
module _ (content : Content Sign) (wanted : List Variable) (rising : AreRising wanted) (among : (v : Variable) → IsAmong content.variables v → IsAmong wanted v) (lacked : Lacked)
    (is : IsLacked content.variables wanted lacked) where
  abbrev free : List Variable
  free = variables_of lacked.free

  abbrev numbers : List Variable
  numbers = variables_of lacked.numbers

  one : HaveOneOrder wanted
  one = HaveOneOrder-rising wanted rising

  pub free_orders : HaveEqualOrders content.variables free
  free_orders v w own some same = one v w (among v own) (is.free w some) same

  pub one_order : HaveOneOrder numbers
  one_order v w some other same = one v w (is.numbers v some) (is.numbers w other) same

  module _ (wide : Content Sign) (first : IsWider content free wide) where
    pub number_orders : HaveEqualOrders wide.variables numbers
    number_orders v w there some same = one v w (⊎_elim (λ own. among v own) (λ new. is.free v new) ((first.variables v).0 there)) (is.numbers w some) same

    pub IsOver-lacked : (made : Content Sign) → IsAutomaton wide → IsAutomaton made → IsWider wide numbers made → IsOver content.mode wanted (own_meaning content) made
    IsOver-lacked made wide_is made_is second =
        let wider = IsWider-then content wide made free numbers wide_is first second in
        record {
          mode_is = wider.mode_is;
          variables_are = rising_equal made.variables wanted made_is.rising rising
              (λ v there. ⊎_elim (λ own. among v own) (λ new. ⊎_elim (λ some. is.free v some) (λ some. is.numbers v some) (among_either free numbers v new)) ((wider.variables v).0 there))
              (λ v there. (wider.variables v).1 (⊎_elim (λ own. inl (subst (IsAmong content.variables) (one own.0 v (among own.0 own.1) there own.2) own.1))
              (λ new. inr (⊎_elim (λ some. among-left free numbers v some) (λ some. among-right free numbers v some) new)) (is.all v there)));
          values = wider.values;
        }

-- it has the values of each meaning that the automaton has
pub over_by : (mode : Mode) (over : List Variable) (meaning : Meaning) (part : Content Sign) (tracks : List Variable) (result : Result (Content Sign) StepFault) → IsAutomaton part → part.mode ≡ mode
    → HasValues meaning part → tracks ≡ over → ((v : Variable) → IsAmong part.variables v → IsAmong over v) → IfOk result (IsOver part.mode tracks (own_meaning part))
    → IfOk result (IsOver mode over meaning)
over_by mode over meaning part tracks (Ok made) automaton mode_is values tracks_are among is = record {
  mode_is = is.mode_is ∙ mode_is;
  variables_are = is.variables_are ∙ tracks_are;
  values = HasValues-more meaning part made automaton is.mode_is (λ v there. subst (λ vs. IsAmong vs v) (sym (is.variables_are ∙ tracks_are)) (among v there)) values is.values;
}
over_by mode over meaning part tracks (Err fault) automaton mode_is values tracks_are among is = tt

-- what has fewest states still has them over more variables
pub least_still : (part : Content Sign) → IsLeast part → (result : Result (Content Sign) StepFault) → IfOk result (λ made. (made ≡ part) ⊎ IsLeast made) → IfOk result IsLeast
least_still part is (Ok made) least = ⊎_elim (λ same. subst IsLeast (sym same) is) (λ few. few) least
least_still part is (Err fault) least = tt

-- what is short of nodes once some variables were added is so from the beginning
pub widening_then : (limit : ℕ) (part wide : Content Sign) (wanted first second : List Variable) → IsAutomaton wide → IsWider part first wide → (wide ≡ part) ⊎ IsLeast wide
    → ((v : Variable) → IsAmong first v → IsAmong wanted v) → ((v : Variable) → IsAmong second v → IsAmong wanted v) → WideningLacks limit wide second → WideningLacks limit part wanted
widening_then limit part wide wanted first second automaton wider least first_among second_among lacks = record {
  wide = lacks.wide;
  automaton = lacks.automaton;
  added = first ++ lacks.added;
  is_wide = IsWider-then part wide lacks.wide first lacks.added automaton wider lacks.is_wide;
  least = ⊎_elim (λ same. ⊎_elim (λ own. inl (same ∙ own)) (λ few. inr (subst IsLeast (sym same) few)) least) inr lacks.least;
  next = lacks.next;
  among = λ v. ⊎_elim
      (λ added. ⊎_elim (first_among v) (λ later. second_among v (lacks.among v (inl later))) (among_either first lacks.added v added))
      (λ next. second_among v (lacks.among v (inr next)));
  short = lacks.short;
}
