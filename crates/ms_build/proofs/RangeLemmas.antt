-- A quantifier within a range where nothing is undefined has the value of one over all values, of the one automaton of range and body.
-- It is decided whether the range has a value: a finite machine tells it.
use Rattle.std.proofs.Common.{◌≡◌, ◌⊎◌, inl, inr, ⊎_elim, ◌↔◌, ℕ, ◌==◌, not, Bool, true, false, cond, IsTrue, List, [], ◌∷◌, ◌++◌, Some, None, Result, Ok, Err, IfOk, refl, sym, ap, subst, ◌∙◌}
use Rattle.std.proofs.lemmas.Bool.{false≢true}
use Rattle.ms_list.specs.declared.fault.StepFault.{StepFault}
use Rattle.ms_list.specs.declared.word.Word.{Word}
use Rattle.ms_dfa.specs.Automaton.{IsAutomaton}
use Rattle.ms_dfa.specs.Values.{HasValues, own_meaning}
use Rattle.ms_dfa.proofs.EncodingLemmas.{shortest}
use Rattle.ms_dfa.proofs.OwnMeaningLemmas.{IsMeaning-own, word_has_sign}
use Rattle.ms_dfa_explore.specs.Tracks.{merged}
use Rattle.ms_dfa_explore.proofs.AmongLemmas.{merged-either}
use Rattle.ms_dfa_explore.proofs.TracksLemmas.{merged-right, merged-rising}
use Rattle.ms_logic.specs.Assignment.{Env, IsAssignment, IsValueOf, Variable, assign}
use Rattle.ms_logic.specs.Lists.{IsAmong, without}
use Rattle.ms_logic.specs.Truth.{IsEmptyRange, NoneInRange, SomeInRange}
use Rattle.ms_logic.specs.declared.assignment.Value.{Value}
use Rattle.ms_logic.specs.declared.mode.Mode.{Mode}
use Rattle.ms_logic.specs.declared.mode.Quant.{Quant}
use Rattle.ms_logic.specs.declared.mode.Quant.TheVariants.{Ex, All}
use Rattle.ms_logic_readers.proofs.Automata.{yes-reader}
use Rattle.ms_logic_readers.proofs.Others.{distinct-without, rising_distinct}
use Rattle.ms_logic_readers.proofs.Quantifiers.{some-value-reader}
use Rattle.ms_logic_readers.proofs.Readers.{Reader, TellsAt, read}
use Rattle.ms_logic_words.specs.Content.{Content, last_state, shortest_word, sign_of}
use Rattle.ms_logic_words.specs.Word.{Encodes}
use Rattle.ms_logic_words.specs.declared.sign.Sign.{Sign}
use Rattle.ms_logic_words.specs.declared.sign.Sign.TheVariants.{Yes, No, Undefined, Outside}
use Rattle.ms_logic_words.specs.Residual.{HaveEqualSigns}
use Rattle.ms_product.specs.Combined.{HaveEqualOrders, combined}
use Rattle.ms_product.specs.Signs.{strict}
use Rattle.ms_product.specs.declared.op.Op.{Op}
use Rattle.ms_product.specs.declared.op.Op.TheVariants.{And, Implies}
use Rattle.ms_project.specs.Paired.{IsDomainFor}
use Rattle.ms_project.proofs.AssemblyLemmas.{IfOk-implies}
use Rattle.ms_project.specs.Quantified.{IsMetBy, quantified}
use Rattle.ms_rename.proofs.OrderLemmas.{HaveOneOrder-rising}
use Rattle.ms_rename.proofs.RenamedLemmas.{HasValues-same}
use Rattle.ms_build.specs.inner.Ranges.{IsDefined, IsLast, op_within}
use Rattle.ms_build.proofs.MeaningLemmas.{HasValues-to}
use Rattle.ms_build.proofs.PlaceLemmas.{IsAssignment-among}
use Rattle.ms_build.proofs.QuantifiedLemmas.{assigned_bound}
use Rattle.ms_build.proofs.WholeLemmas.{rising_equal}

-- where no state is undefined, an assignment has Yes or No
pub yes_or_no : (content : Content Sign) → IsAutomaton content → IsDefined content → (e : Env) → IsAssignment content.mode content.variables e → own_meaning content e Yes ⊎ own_meaning content e No
yes_or_no content automaton defined e assigned = let found = word_has_sign content automaton.closed (shortest_word content.variables e) in by_sign found.0 found.1
  where
    by_sign : (sign : Sign) → sign_of content (shortest_word content.variables e) ≡ Some sign → own_meaning content e Yes ⊎ own_meaning content e No
    by_sign Yes is = inl is
    by_sign No is = inr is
    by_sign Undefined is = absurd (defined (last_state content (shortest_word content.variables e)) is)
    by_sign Outside is = absurd ((IsMeaning-own content automaton).inside e assigned is)

-- values of a variable: where the range is Yes or No (D, E), the body is what is looked for or not (F, O), and both together are
-- (P) where the range is Yes and the body is what is looked for, and are not elsewhere (Q)
module _ (Is D E F O P Q : Value → Type 0) (range_or : (v : Value) → Is v → D v ⊎ E v) (body_or : (v : Value) → Is v → F v ⊎ O v)
    (both : (v : Value) → Is v → D v → F v → P v) (no_body : (v : Value) → Is v → D v → O v → Q v) (no_range : (v : Value) → Is v → E v → F v → Q v)
    (neither : (v : Value) → Is v → E v → O v → Q v) (apart : (v : Value) → Is v → P v → Q v → ⊥) where
  abbrev Anywhere : Value → Type 0
  Anywhere v = Is v × Unit {0}

  abbrev Within : Value → Type 0
  Within v = Is v × D v

  is_or : (v : Value) → Is v → (D v × F v) ⊎ Q v
  is_or v is = ⊎_elim
      (λ met. ⊎_elim (λ holds. inl (met, holds)) (λ fails. inr (no_body v is met fails)) (body_or v is))
      (λ unmet. inr (⊎_elim (λ holds. no_range v is unmet holds) (λ fails. neither v is unmet fails) (body_or v is)))
      (range_or v is)

  some_within : SomeInRange Anywhere P → SomeInRange Within F
  some_within some =
      let is = some.1.0 in
      ⊎_elim (λ parts. (some.0, (is, parts.0), parts.1)) (λ fails. absurd (apart some.0 is some.2 fails)) (is_or some.0 is)

  none_within : ((v : Value) × Is v × D v) ⊎ ¬ ((v : Value) × Is v × D v) → NoneInRange Anywhere P → NoneInRange Within F × (SomeInRange Within O ⊎ IsEmptyRange Within)
  none_within decided none = (
    never,
    ⊎_elim
        (λ some. ⊎_elim (λ holds. absurd (never some.0 (some.1, some.2) holds)) (λ fails. inl (some.0, (some.1, some.2), fails)) (body_or some.0 some.1))
        (λ empty. inr (λ v within. empty (v, within.0, within.1)))
        decided,
  )
    where
      never : (v : Value) → Within v → ¬ F v
      never v within holds = none v (within.0, tt) (both v within.0 within.1 holds)

  not_undefined : ¬ SomeInRange Anywhere P → ¬ (NoneInRange Anywhere P × (SomeInRange Anywhere Q ⊎ IsEmptyRange Anywhere)) → ⊥
  not_undefined no_some no_none =
      no_none (
        (λ v there holds. no_some (v, there, holds)),
        inr (λ v there. ⊎_elim
            (λ parts. no_some (v, there, both v there.0 parts.0 parts.1))
            (λ fails. no_none ((λ w here holds. no_some (w, here, holds)), inl (v, there, fails)))
            (is_or v there.0)),
      )

-- a bit tells
decided : (A : Type 0) (bit : Bool) → A ↔ IsTrue bit → A ⊎ ¬ A
decided A true told = inl (told.1 refl)
decided A false told = inr (λ holds. false≢true (told.0 holds))

-- variables without one, once and twice
without-twice : (x : ℕ) (vs : List Variable) → without x (without x vs) ≡ without x vs
without-twice x [] = refl
without-twice x (v ∷ vs) = by_test (v.name == x) refl (without-twice x vs)
  where
    by_test : (t : Bool) → (v.name == x) ≡ t → without x (without x vs) ≡ without x vs → without x (cond (not t) (v ∷ without x vs) (without x vs)) ≡ cond (not t) (v ∷ without x vs) (without x vs)
    by_test true is more = more
    by_test false is more = ap (λ t. cond (not t) (v ∷ without x (without x vs)) (without x (without x vs))) is ∙ ap (λ us. v ∷ us) more

module _ (body domain : Content Sign) (body_is : IsAutomaton body) (domain_is : IsAutomaton domain) (for_body : IsDomainFor body domain) (own : Variable) (own_among : IsAmong body.variables own) where
  abbrev rest : List Variable
  rest = without own.name body.variables

  -- both are over the variables of the body
  pub domain_orders : HaveEqualOrders domain.variables body.variables
  domain_orders v w there also same = HaveOneOrder-rising body.variables body_is.rising v w (for_body.among v there) also same

  pub over_body : merged domain.variables body.variables ≡ body.variables
  over_body =
      rising_equal (merged domain.variables body.variables) body.variables (merged-rising domain.variables body.variables domain_is.rising body_is.rising) body_is.rising
      (λ v there. ⊎_elim (λ own. for_body.among v own) (λ own. own) (merged-either domain.variables body.variables v there))
      (λ v there. merged-right domain.variables body.variables v (λ w also same. domain_orders w v also there same) there)

  -- it is decided whether the range has a value
  module _ (last : IsLast body.variables own) where
    abbrev Met : Env → Type 0
    Met e = own_meaning domain e Yes

    domain_reader : Reader (TellsAt body.mode (without own.name rest ++ own ∷ []) Met)
    domain_reader =
        let wide : body.variables ≡ without own.name rest ++ own ∷ [] = sym last ∙ ap (λ vs. vs ++ own ∷ []) (sym (without-twice own.name body.variables)) in
        subst (λ (vs : List Variable). Reader (TellsAt body.mode vs Met)) wide
        (subst (λ (m : Mode). Reader (TellsAt m body.variables Met)) (sym for_body.mode) (yes-reader body.variables body_is.rising domain domain_is for_body.among))

    range_reader : Reader (TellsAt body.mode rest (λ e. (v : Value) × IsValueOf own.order e.universe v × Met (assign own.name v e)))
    range_reader = some-value-reader body.mode rest (distinct-without own.name body.variables (rising_distinct body.variables body_is.rising)) own.order own.name Met domain_reader

    range_decided : (word : Word) (e : Env) → IsAssignment body.mode rest e → Encodes rest word e
        → ((v : Value) × IsValueOf own.order e.universe v × Met (assign own.name v e)) ⊎ ¬ ((v : Value) × IsValueOf own.order e.universe v × Met (assign own.name v e))
    range_decided word e assigned encodes =
        decided ((v : Value) × IsValueOf own.order e.universe v × Met (assign own.name v e)) (range_reader.accepts (read range_reader.next (range_reader.start word.truth) word.letters))
        (range_reader.right word e assigned encodes)

    module _ (body_defined : IsDefined body) (domain_defined : IsDefined domain) (few : Content Sign) (few_is : IsAutomaton few) (few_mode : few.mode ≡ body.mode) (few_variables : few.variables ≡ body.variables) where
      module _ (word : Word) (e : Env) (assigned : IsAssignment body.mode rest e) (encodes : Encodes rest word e) where
        abbrev Is : Value → Type 0
        Is v = IsValueOf own.order e.universe v

        abbrev at : Value → Env
        at v = assign own.name v e

        abbrev BodyIs : Sign → Value → Type 0
        BodyIs sign v = own_meaning body (at v) sign

        abbrev DomainIs : Sign → Value → Type 0
        DomainIs sign v = own_meaning domain (at v) sign

        abbrev FewIs : Sign → Value → Type 0
        FewIs sign v = own_meaning few (at v) sign

        body_assigned : (v : Value) → Is v → IsAssignment body.mode body.variables (at v)
        body_assigned = assigned_bound body body_is own own_among word e assigned encodes

        domain_assigned : (v : Value) → Is v → IsAssignment domain.mode domain.variables (at v)
        domain_assigned v is =
            IsAssignment-among domain.mode domain.variables body.variables (at v) for_body.among (subst (λ m. IsAssignment m body.variables (at v)) for_body.mode (body_assigned v is))

        few_assigned : (v : Value) → Is v → IsAssignment few.mode few.variables (at v)
        few_assigned v is = subst (λ m. IsAssignment m few.variables (at v)) (sym few_mode) (subst (λ vs. IsAssignment body.mode vs (at v)) (sym few_variables) (body_assigned v is))

        body_or : (v : Value) → Is v → BodyIs Yes v ⊎ BodyIs No v
        body_or v is = yes_or_no body body_is body_defined (at v) (body_assigned v is)

        range_or : (v : Value) → Is v → DomainIs Yes v ⊎ DomainIs No v
        range_or v is = yes_or_no domain domain_is domain_defined (at v) (domain_assigned v is)

        turned : (v : Value) → BodyIs Yes v ⊎ BodyIs No v → BodyIs No v ⊎ BodyIs Yes v
        turned v = ⊎_elim inr inl

        one_sign : (v : Value) → Is v → FewIs Yes v → FewIs No v → ⊥
        one_sign v is holds fails = let same : Yes ≡ No = (IsMeaning-own few few_is).one (at v) Yes No (few_assigned v is) holds fails in cc

        -- the sign of both is the connective of theirs
        few_at : (op : Op) → HasValues (combined op (own_meaning domain) (own_meaning body)) few → (one other : Sign) → (v : Value) → Is v → DomainIs one v → BodyIs other v → FewIs (strict op one other) v
        few_at op values one other v is range holds =
            let found = values.right (shortest_word few.variables (at v)) (at v) (few_assigned v is) (shortest few few_is (at v) (few_assigned v is)) in
            let parts = found.2 in
            let first : parts.0 ≡ one = (IsMeaning-own domain domain_is).one (at v) parts.0 one (domain_assigned v is) parts.2 range in
            let second : parts.1 ≡ other = (IsMeaning-own body body_is).one (at v) parts.1 other (body_assigned v is) parts.3 holds in
            found.1 ∙ ap Some (parts.4 ∙ ap (λ s. strict op s parts.1) first ∙ ap (strict op one) second)

        abbrev Decided : Type 0
        Decided = ((v : Value) × Is v × DomainIs Yes v) ⊎ ¬ ((v : Value) × Is v × DomainIs Yes v)

        range_has : Decided
        range_has = range_decided word e assigned encodes

        module _ (values : HasValues (combined And (own_meaning domain) (own_meaning body)) few) where
          some_moves : (sign : Sign) → quantified Ex own (IsMetBy None) (own_meaning few) e sign → quantified Ex own (IsMetBy (Some domain)) (own_meaning body) e sign
          some_moves Yes is =
              some_within Is (DomainIs Yes) (DomainIs No) (BodyIs Yes) (BodyIs No) (FewIs Yes) (FewIs No) range_or body_or (few_at And values Yes Yes) (few_at And values Yes No) (few_at And values No Yes)
              (few_at And values No No) one_sign is
          some_moves No is =
              none_within Is (DomainIs Yes) (DomainIs No) (BodyIs Yes) (BodyIs No) (FewIs Yes) (FewIs No) range_or body_or (few_at And values Yes Yes) (few_at And values Yes No) (few_at And values No Yes)
              (few_at And values No No) one_sign range_has is.0
          some_moves Undefined is = absurd
              (not_undefined Is (DomainIs Yes) (DomainIs No) (BodyIs Yes) (BodyIs No) (FewIs Yes) (FewIs No) range_or body_or (few_at And values Yes Yes) (few_at And values Yes No) (few_at And values No Yes)
              (few_at And values No No) one_sign is.0 is.1)
          some_moves Outside is = is

        module _ (values : HasValues (combined Implies (own_meaning domain) (own_meaning body)) few) where
          all_moves : (sign : Sign) → quantified All own (IsMetBy None) (own_meaning few) e sign → quantified All own (IsMetBy (Some domain)) (own_meaning body) e sign
          all_moves Yes is =
              none_within Is (DomainIs Yes) (DomainIs No) (BodyIs No) (BodyIs Yes) (FewIs No) (FewIs Yes) range_or (λ v i. turned v (body_or v i)) (few_at Implies values Yes No) (few_at Implies values Yes Yes)
              (few_at Implies values No No) (few_at Implies values No Yes) (λ v i fails holds. one_sign v i holds fails) range_has is.0
          all_moves No is =
              some_within Is (DomainIs Yes) (DomainIs No) (BodyIs No) (BodyIs Yes) (FewIs No) (FewIs Yes) range_or (λ v i. turned v (body_or v i)) (few_at Implies values Yes No) (few_at Implies values Yes Yes)
              (few_at Implies values No No) (few_at Implies values No Yes) (λ v i fails holds. one_sign v i holds fails) is
          all_moves Undefined is = absurd
              (not_undefined Is (DomainIs Yes) (DomainIs No) (BodyIs No) (BodyIs Yes) (FewIs No) (FewIs Yes) range_or (λ v i. turned v (body_or v i)) (few_at Implies values Yes No) (few_at Implies values Yes Yes)
              (few_at Implies values No No) (few_at Implies values No Yes) (λ v i fails holds. one_sign v i holds fails) is.1 is.0)
          all_moves Outside is = is

        moves : (quant : Quant) → HasValues (combined (op_within quant) (own_meaning domain) (own_meaning body)) few → (sign : Sign) → quantified quant own (IsMetBy None) (own_meaning few) e sign
            → quantified quant own (IsMetBy (Some domain)) (own_meaning body) e sign
        moves Ex values = some_moves values
        moves All values = all_moves values

      -- so what quantifies over all values of both quantifies over those in the range
      pub within_range : (quant : Quant) → HasValues (combined (op_within quant) (own_meaning domain) (own_meaning body)) few → (made : Content Sign) → made.mode ≡ few.mode → made.variables ≡ without own.name few.variables
          → HasValues (quantified quant own (IsMetBy None) (own_meaning few)) made → HasValues (quantified quant own (IsMetBy (Some domain)) (own_meaning body)) made
      within_range quant values made made_mode made_variables =
          let mode : made.mode ≡ body.mode = made_mode ∙ few_mode in
          let variables : made.variables ≡ rest = made_variables ∙ ap (without own.name) few_variables in
          HasValues-to (quantified quant own (IsMetBy None) (own_meaning few)) (quantified quant own (IsMetBy (Some domain)) (own_meaning body)) made
          (λ word e sign assigned encodes is.
          moves word e (subst (λ vs. IsAssignment body.mode vs e) variables (subst (λ m. IsAssignment m made.variables e) mode assigned)) (subst (λ vs. Encodes vs word e) variables encodes) quant values sign is)

-- the same where the quantifier may be refused, and both have first been put together and then have fewest states
module _ (body domain both few : Content Sign) (body_is : IsAutomaton body) (domain_is : IsAutomaton domain) (both_is : IsAutomaton both) (few_is : IsAutomaton few) (for_body : IsDomainFor body domain) (own : Variable)
    (own_among : IsAmong body.variables own) (both_mode : both.mode ≡ domain.mode) (both_variables : both.variables ≡ merged domain.variables body.variables) (few_mode : few.mode ≡ both.mode)
    (few_variables : few.variables ≡ both.variables) where
  pub mode_of_body : few.mode ≡ body.mode
  mode_of_body = few_mode ∙ both_mode ∙ sym for_body.mode

  pub variables_of_body : few.variables ≡ body.variables
  variables_of_body = few_variables ∙ both_variables ∙ over_body body domain body_is domain_is for_body own own_among

  pub own_in_few : IsAmong few.variables own
  own_in_few = subst (λ vs. IsAmong vs own) (sym variables_of_body) own_among

  module _ (result : Result (Content Sign) StepFault) (mode_is : IfOk result (λ made. made.mode ≡ few.mode)) (variables_are : IfOk result (λ made. made.variables ≡ without own.name few.variables)) where
    pub mode_by : IfOk result (λ made. made.mode ≡ body.mode)
    mode_by = IfOk-implies result (λ made. made.mode ≡ few.mode) (λ made. made.mode ≡ body.mode) (λ made is. is ∙ mode_of_body) mode_is

    pub variables_by : IfOk result (λ made. made.variables ≡ without own.name body.variables)
    variables_by =
        IfOk-implies result (λ made. made.variables ≡ without own.name few.variables) (λ made. made.variables ≡ without own.name body.variables) (λ made are. are ∙ ap (without own.name) variables_of_body) variables_are

  pub values_by : (last : IsLast body.variables own) → IsDefined body → IsDefined domain → (quant : Quant) → HasValues (combined (op_within quant) (own_meaning domain) (own_meaning body)) both → HaveEqualSigns both few
      → (result : Result (Content Sign) StepFault) → IfOk result (λ made. made.mode ≡ few.mode) → IfOk result (λ made. made.variables ≡ without own.name few.variables)
      → IfOk result (HasValues (quantified quant own (IsMetBy None) (own_meaning few))) → IfOk result (HasValues (quantified quant own (IsMetBy (Some domain)) (own_meaning body)))
  values_by last body_defined domain_defined quant values signs (Ok made) mode_is variables_are made_values =
      within_range body domain body_is domain_is for_body own own_among last body_defined domain_defined few few_is mode_of_body variables_of_body quant
      (HasValues-same (combined (op_within quant) (own_meaning domain) (own_meaning body)) both few few_mode few_variables signs values) made mode_is variables_are made_values
  values_by last body_defined domain_defined quant values signs (Err fault) mode_is variables_are made_values = tt
