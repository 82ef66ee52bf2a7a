-- A child that occurs in a source lacks nodes, on the way to more variables, only below each budget of the widening of its formula.
use Rattle.std.proofs.Common.{◌≡◌, ◌≢◌, ◌↔◌, ℕ, ◌<◌, All, List, [], ◌∷◌, ◌++◌, length, Option, Some, None, sym, ap, subst, ◌∙◌, arith}
use Rattle.std.specs.Option.{option_map}
use Rattle.std.proofs.lemmas.List.{length_push}
use Rattle.std.proofs.lemmas.List.Elements.{All-head, All-tail}
use Rattle.std.proofs.lemmas.Option.{same_Some}
use Rattle.ms_build.specs.Short.{ChildLacks}
use Rattle.ms_build.specs.declared.plan.Plan.{Plan}
use Rattle.ms_build.proofs.WholeLemmas.{rising-by_place}
use Rattle.ms_build_parts.proofs.Matching.{over_same}
use Rattle.ms_dag.specs.Dag.{IsChild, children_of, children_of_binder, orders_inside}
use Rattle.ms_dag.specs.declared.node.Child.{Child}
use Rattle.ms_dag.specs.declared.node.DagNode.{DagNode}
use Rattle.ms_dag.specs.declared.node.DagNode.TheVariants as nodes
use Rattle.ms_dag.specs.declared.node.Entry.{Entry}
use Rattle.ms_dag.proofs.BinderLemmas.{rising_push}
use Rattle.ms_dag_steps.specs.NodeSteps.{HasItsSteps}
use Rattle.ms_dag_steps.specs.Occurrences.{variables_named, whole_formula}
use Rattle.ms_dag_steps.proofs.StepLemmas.{nodes_have_their_steps}
use Rattle.ms_list.specs.declared.word.Word.{Word}
use Rattle.ms_logic.specs.Assignment.{Variable}
use Rattle.ms_logic.specs.Lists.{AreRising, IsAmong}
use Rattle.ms_logic.specs.Truth.{Import}
use Rattle.ms_logic.specs.declared.mode.Mode.{Mode}
use Rattle.ms_logic_core.specs.CoreForm.{CoreForm, truth}
use Rattle.ms_logic_measures.specs.Budgets.{IsOwnContent, IsWideningMeasure, budget}
use Rattle.ms_logic_measures.specs.FullContent.{HasValueOn, IsFullContent}
use Rattle.ms_logic_words.specs.Content.{Content, IsWordOver, sign_of, variables_by_place, variables_from}
use Rattle.ms_logic_words.specs.Word.{IsEncoding}
use Rattle.ms_logic_words.specs.declared.sign.Sign.{Sign}
use Rattle.ms_logic_words.specs.declared.sign.Sign.TheVariants.{Yes, No, Undefined, Outside}
use Rattle.ms_wider_parts.specs.Fixed.{IsFixedBy}
use Rattle.ms_build_steps.specs.Laws.{BodiesWidenWithinBudget, WideningsAreWithinBudget}
use Rattle.ms_build_steps.proofs.FixedWidenings.{fixed_children_are_below, wide_among}
use Rattle.ms_build_steps.proofs.Operands.{named_rising, side}
use Rattle.ms_dfa.proofs.OrdersLemmas.{orders_of}
use Rattle.ms_rename.proofs.LeastLemmas.{over}
use Rattle.ms_build_steps.proofs.Sides.{IsSide}
use Rattle.ms_build_steps.proofs.Through.{named_through, through_orders}
use Rattle.ms_build_steps.proofs.WideBodies.{bodies_are_fixed, encoding_same}

-- the full content of a formula tells which words encode an assignment, by whatever names and in whatever mode
module _ (imports : List Import) (mode : Mode) (ws : List Variable) (f : CoreForm) (content : Content Sign) (full : IsFullContent imports mode ws f content) (rising : AreRising ws) where
  inside : (word : Word) (value : Sign) → sign_of content word ≡ Some value → HasValueOn imports mode ws f word value → IsEncoding mode ws word → sign_of content word ≢ Some Outside
  inside word Yes is has encoding = λ out. let same : Some Yes ≡ Some Outside = sym is ∙ out in let never : ⊥ = cc in never
  inside word No is has encoding = λ out. let same : Some No ≡ Some Outside = sym is ∙ out in let never : ⊥ = cc in never
  inside word Undefined is has encoding = λ out. let same : Some Undefined ≡ Some Outside = sym is ∙ out in let never : ⊥ = cc in never
  inside word Outside is has encoding = absurd (has encoding)

  encoded : (word : Word) (value : Sign) → sign_of content word ≡ Some value → HasValueOn imports mode ws f word value → sign_of content word ≢ Some Outside → IsEncoding mode ws word
  encoded word Yes is has differs = (has.0, has.1, has.2)
  encoded word No is has differs = (has.0, has.1, has.2)
  encoded word Undefined is has differs = (has.0, has.1, has.2)
  encoded word Outside is has differs = absurd (differs is)

  pub full_tells : (mode' : Mode) (wanted : List Variable) → AreRising wanted → orders_of ws ≡ orders_of wanted → (word : Word) → IsWordOver wanted word
      → IsEncoding mode' wanted word ↔ (sign_of content word ≢ Some Outside)
  full_tells mode' wanted wanted_rising same word is_over =
      let found = full.values word (over_same wanted ws word same is_over) in (
        λ encoding. inside word found.0 found.1 found.2 (encoding_same mode' mode wanted ws same wanted_rising rising word encoding),
        λ differs. encoding_same mode mode' ws wanted (sym same) rising wanted_rising word (encoded word found.0 found.1 found.2 differs),
      )

-- a child whose automaton is measured by the full content of a formula lacks nodes, on the way to more variables, only below each budget
-- of the widening of the formula to variables of the same orders
pub lacking_widenings_are_below : (imports : List Import) (plan : Plan) (child : Child) (f : CoreForm) (wanted us : List Variable) → AreRising wanted → AreRising us → orders_of us ≡ orders_of wanted
    → (lacks : ChildLacks plan child wanted) → ((v : Variable) → IsAmong lacks.part.variables v → IsAmong wanted v)
    → ((content : Content Sign) → IsOwnContent imports plan.mode f content → IsSide lacks.part content)
    → (m r : ℕ) → IsWideningMeasure imports plan.mode f us m r → plan.limit < budget m r
lacking_widenings_are_below imports plan child f wanted us rising us_rise same lacks among is_side m r measure =
    fixed_children_are_below plan child wanted rising lacks among (over measure.content.mode lacks.part.variables measure.content) (over measure.encodings.mode wanted measure.encodings) fixed m r measure.read
  where
    fixed : IsFixedBy lacks.short.wide (over measure.content.mode lacks.part.variables measure.content) (over measure.encodings.mode wanted measure.encodings)
    fixed = bodies_are_fixed lacks.part lacks.short.wide measure.content measure.encodings (is_side measure.content measure.of_formula)
        lacks.is_part.automaton lacks.short.added lacks.short.is_wide lacks.short.automaton lacks.short.least wanted rising
        (wide_among plan child wanted rising lacks among) measure.of_true.canonical
        (sym same ∙ ap (λ (vs : List Variable). orders_of vs) (sym measure.of_true.same_variables))
        (full_tells imports plan.mode us truth measure.encodings measure.of_true us_rise lacks.short.wide.mode wanted rising same)

pub widenings_are_within_budget : WideningsAreWithinBudget
widenings_are_within_budget imports calls lowered plan number root names child f i outer is is_root rising long at is_child lacks =
    lacking_widenings_are_below imports plan child f (variables_by_place outer) (variables_named names outer) (rising-by_place 0 outer) (named_rising names outer rising)
    (ap (λ (vs : List Variable). orders_of vs) (named_through names outer long) ∙ through_orders names (variables_from 0 outer))
    lacks (lacks.is_part.brought outer is_child.ordered).among
    (side imports calls lowered plan is number root is_root names child f at i outer is_child lacks.part lacks.is_part)

-- the body is the last child of a quantifier
pub body_of : (P : Child → Type 0) (d : Option Child) (c : Child) → All P (children_of_binder d c) → P c
body_of P None c all = All-head P c [] all
body_of P (Some domain) c all = All-head P c [] (All-tail P domain (c ∷ []) all)

pub bodies_widen_within_budget : BodiesWidenWithinBudget
bodies_widen_within_budget imports calls lowered plan number root f names i entry q o k d c is is_root held is_bind occurs lacks =
    let node = is.graph.graph.nodes.nodes i entry held in
    let long : length names ≡ length entry.orders = same_Some _ _ (sym occurs.own ∙ ap (option_map length) (ap (option_map (λ (e : Entry). e.orders)) held)) in
    let steps : HasItsSteps (whole_formula calls root) f plan.dag.now.entries names i (nodes.Bind q o k d c)
    = subst (HasItsSteps (whole_formula calls root) f plan.dag.now.entries names i) is_bind
    (nodes_have_their_steps (whole_formula calls root) plan.dag.now.entries f names i entry is.graph.graph.nodes held occurs) in
    let children : All (IsChild plan.dag.now.entries i (entry.orders ++ o ∷ [])) (children_of_binder d c)
    = subst (λ (n : DagNode). All (IsChild plan.dag.now.entries i (orders_inside n entry.orders)) (children_of n)) is_bind node.children in
    let one_more = length_push names steps.0 in
    let orders_more = length_push entry.orders o in (
      steps.0,
      steps.1,
      steps.2,
      steps.6,
      widenings_are_within_budget imports calls lowered plan number root (names ++ steps.0 ∷ []) c steps.2 i (entry.orders ++ o ∷ []) is is_root
          (rising_push names steps.0 occurs.rising steps.3) (omega (arith, long, one_more, orders_more)) steps.5
          (body_of (IsChild plan.dag.now.entries i (entry.orders ++ o ∷ [])) d c children) lacks,
    )
