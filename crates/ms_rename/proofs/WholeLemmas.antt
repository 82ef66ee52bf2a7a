-- What holds at each assignment of some variables adds these to an automaton, and leaves its signs.
use Rattle.std.proofs.Common.{◌≡◌, ℕ, zero, suc, ◌+◌, ◌*◌, ◌<◌, ◌==◌, inl, inr, get_or, nat_lt, nat_eq, false, true, Bool, if◌then◌else◌, List, [], ◌∷◌, ◌++◌, Some, Result, Ok, Err, IfOk, refl, sym, ap, subst, ◌∙◌, arith}
use Rattle.std.proofs.lemmas.Bool.Decides.{nat_tests}
use Rattle.std.proofs.lemmas.Option.{none-some, same_Some}
use Rattle.ms_list.specs.declared.fault.StepFault.{StepFault}
use Rattle.ms_list.specs.declared.word.Word.{Word}
use Rattle.ms_arena.specs.declared.node.Node.{Node}
use Rattle.ms_arena.specs.declared.node.Ref.TheVariants.{Leaf}
use Rattle.ms_arena.proofs.Paths.{leaf_of-leaf}
use Rattle.ms_dfa.specs.Automaton.{IsAutomaton, content_of, variables_of}
use Rattle.ms_dfa.specs.declared.state.State.{State}
use Rattle.ms_dfa.specs.declared.track.Track.{Track}
use Rattle.ms_logic_core.specs.declared.core_formula.Basic.TheVariants.{Plus}
use Rattle.ms_logic.specs.declared.mode.Mode.{Mode}
use Rattle.ms_logic.specs.declared.mode.Order.{Order}
use Rattle.ms_logic.specs.declared.mode.Order.TheVariants.{Zero, One, Two}
use Rattle.ms_logic_words.specs.declared.sign.Sign.{Sign}
use Rattle.ms_logic_words.specs.declared.sign.Sign.TheVariants.{Yes, No, Undefined, Outside}
use Rattle.ms_logic.specs.Assignment.{Env, Variable, IsAssignment}
use Rattle.ms_logic_words.specs.Content.{Content, StateOf, HasValueAt, IsFollowed, IsWordOver, is_in_letters, is_truth_value, letter_bits, sign_at, sign_of, shortest_word, state_after, truth_bits, with_zero_letter}
use Rattle.ms_logic_core.specs.CoreForm.{basic}
use Rattle.ms_logic_words.specs.inner.Decoding.{HasOneBit, HaveOneBit, column_after}
use Rattle.ms_logic.specs.Lists.{AreRising, IsAmong}
use Rattle.ms_logic_words.specs.Word.{IsEncoding}
use Rattle.ms_logic_words.proofs.DecodedWords.{encodings_are}
use Rattle.ms_dfa.specs.Values.{HasValues, core_meaning, own_meaning}
use Rattle.ms_dfa.proofs.EncodingLemmas.{shortest}
use Rattle.ms_dfa.proofs.FunctionLemmas.{TestsOnly-leaf}
use Rattle.ms_dfa_explore.specs.Tracks.{distinct, merged}
use Rattle.ms_dfa_explore.proofs.TracksLemmas.{merged-right}
use Rattle.ms_basic.specs.States.{states_of}
use Rattle.ms_basic.proofs.DistinctLemmas.{IsAssignment-some}
use Rattle.ms_product.specs.declared.op.Op.TheVariants.{And}
use Rattle.ms_product.specs.Combined.{HaveEqualOrders, combined}
use Rattle.ms_product.specs.Signs.{strict}
use Rattle.ms_rename.specs.Whole.{HasNoNumber, IsWhole}

-- the column of a variable that is no number is like any other
no_number : (letters : List (List Bool)) (order : Order) (column : ℕ) → ¬ (order ≡ One) → HasOneBit letters order column
no_number letters Zero column other = tt
no_number letters One column other = absurd (other refl)
no_number letters Two column other = tt

no_numbers : (letters : List (List Bool)) (column : ℕ) (vs : List Variable) → HasNoNumber vs → HaveOneBit letters column vs
no_numbers letters column [] none = tt
no_numbers letters column (v ∷ vs) none = (no_number letters v.order column (none v (inl refl)), no_numbers letters (column_after v.order column) vs (λ w there. none w (inr there)))

-- one state, at which all words are Yes
abbrev pub free_content : Mode → List Variable → Content Sign
free_content mode vs = record { mode = mode; variables = vs; start = Leaf 0; states = record { sign = Yes; next = Leaf 0 } ∷ []; nodes = [] }

-- what is made of these parts
pub free_is : (nodes : List Node) (mode : Mode) (given tracks : List Track) (none states : List State) → nodes ≡ [] → tracks ≡ given → none ≡ [] → states ≡ none ++ record { sign = Yes; next = Leaf 0 } ∷ []
    → content_of nodes mode tracks (Leaf 0) states ≡ free_content mode (variables_of given)
free_is nodes mode given tracks none states no_nodes same empty one =
    let states_are : states ≡ record { sign = Yes; next = Leaf 0 } ∷ [] = one ∙ ap (λ (list : List State). list ++ record { sign = Yes; next = Leaf 0 } ∷ []) empty in
    λ i. content_of (no_nodes i) mode (same i) (Leaf 0) (states_are i)

-- where none of the variables is a number, it is an automaton
module _ (mode : Mode) (vs : List Variable) (rising : AreRising vs) (none : HasNoNumber vs) where
  abbrev free : Content Sign
  free = free_content mode vs

  encodes : (word : Word) → IsWordOver vs word → IsEncoding mode vs word
  encodes word over = (encodings_are mode vs word rising).1 (over, no_numbers word.letters 0 vs none)

  free-after : (letters : List (List Bool)) → state_after free 0 letters ≡ 0
  free-after [] = refl
  free-after (letter ∷ letters) = ap (λ s. state_after free s letters) (leaf_of-leaf [] (letter_bits vs letter) 0) ∙ free-after letters

  sign_of-free : (word : Word) → sign_of free word ≡ Some Yes
  sign_of-free word =
      ap (λ s. sign_at free (state_after free s word.letters)) (leaf_of-leaf [] (truth_bits vs word.truth) 0) ∙ ap (sign_at free) (free-after word.letters)

  free-followed : (has_value : Order → Bool) → IsFollowed free has_value (Leaf 0)
  free-followed has_value = record {
    valid = tt;
    states = λ bits. (let at = leaf_of-leaf [] bits 0 in omega (arith, at));
    tests = TestsOnly-leaf [] (HasValueAt vs has_value) 0;
  }

  pub IsAutomaton-free : IsAutomaton free
  IsAutomaton-free = record {
    ordered = record {
      earlier_low = λ place node held. absurd (none-some node held);
      earlier_high = λ place node held. absurd (none-some node held);
      rising_low = λ place node held. absurd (none-some node held);
      rising_high = λ place node held. absurd (none-some node held);
    };
    reduced = record {
      ends_differ = λ place node held. absurd (none-some node held);
      distinct = λ one two node first second. absurd (none-some node first);
    };
    closed = record { start = free-followed is_truth_value; next = only };
    rising = rising;
    few_states = omega arith;
    encodings = λ word over. (
      λ encoding outside. (let never : ⊥ = yes_is_not_outside (same_Some Yes Outside (sym (sign_of-free word) ∙ outside)) in never),
      λ inside. encodes word over,
    );
    settled = λ numbers word over encoding. sign_of-free (with_zero_letter vs word) ∙ sym (sign_of-free word);
  }
    where
      yes_is_not_outside : Yes ≡ Outside → ⊥
      yes_is_not_outside same = cc

      only : (k : ℕ) (d : StateOf Sign) → k < 1 → IsFollowed free is_in_letters (get_or free.states k d).next
      only zero d within = free-followed is_in_letters
      only (suc k) d within = absurd (omega (arith, within))

  -- and it is whole
  pub IsWhole-free : IsWhole vs free
  IsWhole-free = record {
    variables = refl;
    values = record {
      right = λ word e assigned encoded. (Yes, sign_of-free word, refl);
      outside = λ word over outside. absurd (outside (encodes word over));
    };
  }

-- a number is itself and nothing more
plus_right : (e : Env) (x : ℕ) (sign : Sign) → core_meaning [] (basic (Plus x x 0)) e sign → sign ≡ Yes
plus_right e x Yes right = refl
plus_right e x No right = absurd (right (let same : e.number x ≡ e.number x + 0 = omega arith in same))
plus_right e x Undefined right = absurd (right.0 (let same : e.number x ≡ e.number x + 0 = omega arith in same))
plus_right e x Outside right = absurd right

-- a variable twice is one
distinct-twice : (v : Variable) → distinct (v ∷ v ∷ []) ≡ v ∷ []
distinct-twice v =
    let not_less : nat_lt v.name v.name ≡ false = grind (arith, nat_tests) in
    let equal : nat_eq v.name v.name ≡ true = grind (arith, nat_tests) in
    (λ i. (if not_less i then v ∷ [] else []) ++ v ∷ (let rest : List Variable = (if not_less i then [] else v ∷ []) in without v.name rest))
    ∙ ap (λ test. v ∷ (if test then [] else v ∷ [])) equal
  where
    without : ℕ → List Variable → List Variable
    without name [] = []
    without name (w ∷ ws) = if nat_eq w.name name then ws else w ∷ ws

pub few_states : (x limit : ℕ) → limit < 8 * (states_of (Plus x x 0) + 1) → limit < 32
few_states x limit less =
    let same : (x == x) ≡ true = grind (arith, nat_tests) in
    subst (λ test. limit < 8 * ((if test then 3 else 6) + 1)) same less

-- beside what is always Yes a sign stays
strict-yes : (sign : Sign) → strict And sign Yes ≡ sign
strict-yes Yes = refl
strict-yes No = refl
strict-yes Undefined = refl
strict-yes Outside = refl

module _ (a other made : Content Sign) (vs : List Variable) (other_is : IsAutomaton other) (whole : IsWhole vs other) (mode_is : made.mode ≡ other.mode) (orders : HaveEqualOrders a.variables vs)
    (variables_are : made.variables ≡ merged a.variables other.variables) where
  among : (w : Variable) → IsAmong other.variables w → IsAmong made.variables w
  among w there =
      subst (λ us. IsAmong us w) (sym variables_are)
      (merged-right a.variables other.variables w (λ u u_among same. orders u w u_among (subst (λ us. IsAmong us w) whole.variables there) same) there)

  -- the conjunction with it has the values of the automaton
  pub HasValues-widened : HasValues (combined And (own_meaning a) (own_meaning other)) made → HasValues (own_meaning a) made
  HasValues-widened values = record {
    right = λ word e assigned encodes.
        let found = values.right word e assigned encodes in
        let assigned_other = subst (λ mode. IsAssignment mode other.variables e) mode_is (IsAssignment-some made.mode made.variables other.variables e among assigned) in
        let yes = whole.values.right (shortest_word other.variables e) e assigned_other (shortest other other_is e assigned_other) in
        let is_yes : found.2.1 ≡ Yes = same_Some found.2.1 Yes (sym found.2.3 ∙ yes.1 ∙ ap Some yes.2) in
        (found.2.0, found.1 ∙ ap Some (found.2.4 ∙ ap (strict And found.2.0) is_yes ∙ strict-yes found.2.0), found.2.2);
    outside = values.outside;
  }

pub values_widened : (a other : Content Sign) (vs : List Variable) (result : Result (Content Sign) StepFault) (mode : Mode) → IsAutomaton other → IsWhole vs other → mode ≡ a.mode → other.mode ≡ mode
    → HaveEqualOrders a.variables vs → IfOk result (λ made. made.mode ≡ a.mode) → IfOk result (λ made. made.variables ≡ merged a.variables other.variables)
    → IfOk result (HasValues (combined And (own_meaning a) (own_meaning other))) → IfOk result (HasValues (own_meaning a))
values_widened a other vs (Ok made) mode other_is whole mode_is other_mode orders made_mode variables_are values =
    HasValues-widened a other made vs other_is whole (made_mode ∙ sym (other_mode ∙ mode_is)) orders variables_are values
values_widened a other vs (Err fault) mode other_is whole mode_is other_mode orders made_mode variables_are values = tt
