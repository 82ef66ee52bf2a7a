-- The product of two automata has at each assignment the connective of both signs, and is an automaton.
use Rattle.std.proofs.Common.{◌≡◌, ℕ, ◌≤◌, ◌⊎◌, inl, inr, ⊎_elim, Bool, true, false, List, length, slice_get, slice_index, Some, refl, sym, ap, subst, ◌∙◌, arith}
use Rattle.std.proofs.lemmas.Option.{same_Some}
use Rattle.ms_list.specs.declared.word.Word.{Word}
use Rattle.ms_arena.specs.declared.node.Ref.{Ref}
use Rattle.ms_arena.specs.declared.node.Node.{Node}
use Rattle.ms_arena.specs.Diagram.{IsOrdered, IsReduced}
use Rattle.ms_diagram.specs.Numbering.{IsNumbering}
use Rattle.ms_dfa.specs.Automaton.{IsAutomaton}
use Rattle.ms_dfa.specs.declared.state.State.{State}
use Rattle.ms_logic.specs.declared.mode.Mode.{Mode}
use Rattle.ms_logic.specs.declared.mode.Order.TheVariants.{One}
use Rattle.ms_logic_words.specs.declared.sign.Sign.{Sign}
use Rattle.ms_logic_words.specs.declared.sign.Sign.TheVariants.{Yes, No, Undefined, Outside}
use Rattle.ms_logic.specs.Assignment.{Env, Variable, IsAssignment}
use Rattle.ms_logic_words.specs.Content.{Content, IsWordOver, last_state, sign_of}
use Rattle.ms_logic.specs.Lists.{AreRising, IsAmong}
use Rattle.ms_logic_words.specs.Word.{IsEncoding}
use Rattle.ms_logic_words.specs.WordSign.{IsOutside}
use Rattle.ms_logic_words.proofs.WordLaws.{encoding_is_over}
use Rattle.ms_dfa.specs.Narrow.{narrowed, ReadsThrough, IsCovered}
use Rattle.ms_dfa.specs.Values.{Meaning, IsMeaning, HasValues, own_meaning}
use Rattle.ms_dfa.proofs.CoveredLemmas.{covered_encodes}
use Rattle.ms_dfa.proofs.EncodingLemmas.{encoding_or_not}
use Rattle.ms_dfa.proofs.NarrowLemmas.{narrowed_encodes, narrowed_assigned, narrowed_over}
use Rattle.ms_dfa.proofs.OwnMeaningLemmas.{word_has_sign, sign_outside, HasValues-own, IsMeaning-own}
use Rattle.ms_dfa.proofs.ValuesLemmas.{IsAutomaton-by_values}
use Rattle.ms_dfa_explore.specs.Explored.{Leads, Follows}
use Rattle.ms_dfa_explore.specs.Tracks.{merged, places_among}
use Rattle.ms_dfa_explore.proofs.AmongLemmas.{among_at, held_among, merged-either, leads_to, one_place, reads_through_places}
use Rattle.ms_dfa_explore.proofs.RunLemmas.{explored, length-states_of, IsClosed-explored, sign_of_explored}
use Rattle.ms_dfa_explore.proofs.TracksLemmas.{merged-left, merged-right, merged-rising}
use Rattle.ms_product.specs.declared.op.Op.{Op}
use Rattle.ms_product.specs.Combined.{combined, HaveEqualOrders}
use Rattle.ms_product.specs.Pairing.{Operands, operands_of, pair_sign, product_findings, AreStates}
use Rattle.ms_product.specs.Signs.{connective, sign_for, strict}
use Rattle.ms_product.specs.Widened.{sign_in}
use Rattle.ms_product.proofs.ProductLemmas.{end_of-side_by_side, side_by_side, IsOver-product, AreNames-product}
use Rattle.ms_product.proofs.WidenedLemmas.{sign_in-is}

-- Outside wins
pub strict-right : (op : Op) (sign : Sign) → strict op sign Outside ≡ Outside
strict-right op Yes = refl
strict-right op No = refl
strict-right op Undefined = refl
strict-right op Outside = refl

sign_for-inside : (truth : Bool) → sign_for truth ≡ Outside → ⊥
sign_for-inside true same = cc
sign_for-inside false same = cc

-- and comes from an operand alone
strict-inside : (op : Op) (one other : Sign) → strict op one other ≡ Outside → (one ≡ Outside) ⊎ (other ≡ Outside)
strict-inside op Yes Yes same = absurd (sign_for-inside (connective op true true) same)
strict-inside op Yes No same = absurd (sign_for-inside (connective op true false) same)
strict-inside op Yes Undefined same = let never : ⊥ = cc in absurd never
strict-inside op Yes Outside same = inr refl
strict-inside op No Yes same = absurd (sign_for-inside (connective op false true) same)
strict-inside op No No same = absurd (sign_for-inside (connective op false false) same)
strict-inside op No Undefined same = let never : ⊥ = cc in absurd never
strict-inside op No Outside same = inr refl
strict-inside op Undefined Yes same = let never : ⊥ = cc in absurd never
strict-inside op Undefined No same = let never : ⊥ = cc in absurd never
strict-inside op Undefined Undefined same = let never : ⊥ = cc in absurd never
strict-inside op Undefined Outside same = inr refl
strict-inside op Outside other same = inl refl

-- the connective of two meanings is one
IsMeaning-combined : (op : Op) (mode : Mode) (variables : List Variable) (left right : Meaning)
    → ((e : Env) (first second : Sign) → IsAssignment mode variables e → left e first → left e second → first ≡ second)
    → ((e : Env) (first second : Sign) → IsAssignment mode variables e → right e first → right e second → first ≡ second)
    → ((e : Env) → IsAssignment mode variables e → ¬ left e Outside) → ((e : Env) → IsAssignment mode variables e → ¬ right e Outside)
    → IsMeaning mode variables (combined op left right)
IsMeaning-combined op mode variables left right one_left one_right inside_left inside_right = record {
  one = λ e first second assigned one two.
      let left_same = one_left e one.0 two.0 assigned one.2 two.2 in
      let right_same = one_right e one.1 two.1 assigned one.3 two.3 in
      one.4 ∙ ap (λ s. strict op s one.1) left_same ∙ ap (strict op two.0) right_same ∙ sym two.4;
  inside = λ e assigned outside. ⊎_elim
      (λ is_left. inside_left e assigned (subst (left e) is_left outside.2))
      (λ is_right. inside_right e assigned (subst (right e) is_right outside.3))
      (strict-inside op outside.0 outside.1 (sym outside.4));
}

module _ (op : Op) (left right : Content Sign) (left_is : IsAutomaton left) (right_is : IsAutomaton right) (modes : left.mode ≡ right.mode)
    (orders : HaveEqualOrders left.variables right.variables) where
  abbrev wide : List Variable
  wide = merged left.variables right.variables

  abbrev operands : Operands
  operands = operands_of left right

  pub wide-rising : AreRising wide
  wide-rising = merged-rising left.variables right.variables left_is.rising right_is.rising

  pub left_among : (v : Variable) → IsAmong left.variables v → IsAmong wide v
  left_among v among = merged-left left.variables right.variables v among

  pub right_among : (v : Variable) → IsAmong right.variables v → IsAmong wide v
  right_among v among = merged-right left.variables right.variables v (λ u there same. orders u v there among same) among

  left_leads : (place : ℕ) (v : Variable) → slice_get left.variables place ≡ Some v → slice_get wide (slice_index operands.left_map place) ≡ Some v
  left_leads = leads_to left.variables wide left_is.rising wide-rising left_among

  right_leads : (place : ℕ) (v : Variable) → slice_get right.variables place ≡ Some v → slice_get wide (slice_index operands.right_map place) ≡ Some v
  right_leads = leads_to right.variables wide right_is.rising wide-rising right_among

  left_reads : (e : Env) → ReadsThrough operands.left_map left.variables wide e e
  left_reads = reads_through_places left.variables wide left_is.rising wide-rising left_among

  right_reads : (e : Env) → ReadsThrough operands.right_map right.variables wide e e
  right_reads = reads_through_places right.variables wide right_is.rising wide-rising right_among

  -- the word read over the variables of one of them
  abbrev left_word : Word → Word
  left_word = narrowed operands.left_map left.variables wide

  abbrev right_word : Word → Word
  right_word = narrowed operands.right_map right.variables wide

  -- an assignment of all variables is one of those of each
  left_assigned : (e : Env) → IsAssignment left.mode wide e → IsAssignment left.mode left.variables e
  left_assigned e assigned = narrowed_assigned operands.left_map left.variables wide e e (left_reads e) left.mode assigned

  right_assigned : (e : Env) → IsAssignment left.mode wide e → IsAssignment right.mode right.variables e
  right_assigned e assigned =
      subst (λ mode. IsAssignment mode right.variables e) modes (narrowed_assigned operands.right_map right.variables wide e e (right_reads e) left.mode assigned)

  IsMeaning-both : IsMeaning left.mode wide (combined op (own_meaning left) (own_meaning right))
  IsMeaning-both =
      let one = IsMeaning-own left left_is in
      let other = IsMeaning-own right right_is in
      IsMeaning-combined op left.mode wide (own_meaning left) (own_meaning right)
      (λ e first second assigned. one.one e first second (left_assigned e assigned))
      (λ e first second assigned. other.one e first second (right_assigned e assigned))
      (λ e assigned. one.inside e (left_assigned e assigned))
      (λ e assigned. other.inside e (right_assigned e assigned))

  -- where both words encode assignments, the word over all variables does
  covered_by : (map : List ℕ) (narrow : List Variable) → map ≡ places_among narrow wide → AreRising narrow → ((v : Variable) → IsAmong narrow v → IsAmong wide v) → (word : Word)
      → IsEncoding left.mode narrow (narrowed map narrow wide word) → (place : ℕ) (w : Variable) → slice_get wide place ≡ Some w → w.order ≡ One → IsAmong narrow w → IsCovered left.mode wide word place
  covered_by map narrow is rising among word encoding place w there number among_w =
      let own = held_among narrow w among_w in
      let leads : slice_get wide (slice_index map own.0) ≡ Some w
      = subst (λ (m : List ℕ). slice_get wide (slice_index m own.0) ≡ Some w) (sym is) (leads_to narrow wide rising wide-rising among own.0 w own.1) in
      record {
        map = map;
        narrow = narrow;
        rising = rising;
        encoding = encoding;
        own = own.0;
        variable = w;
        there = own.1;
        number = number;
        leads = one_place wide wide-rising (slice_index map own.0) place w leads there;
      }

  both_encode : (word : Word) → IsWordOver wide word → IsEncoding left.mode left.variables (left_word word) → IsEncoding left.mode right.variables (right_word word) → IsEncoding left.mode wide word
  both_encode word over first second =
      covered_encodes left.mode wide word wide-rising over (λ place w there number. ⊎_elim
      (λ among. covered_by operands.left_map left.variables refl left_is.rising left_among word first place w there number among)
      (λ among. covered_by operands.right_map right.variables refl right_is.rising right_among word second place w there number among)
      (merged-either left.variables right.variables w (among_at wide place w there)))

  -- so where it encodes none, one of them is Outside
  outside_either : (word : Word) → IsWordOver wide word → IsOutside left.mode wide word → (one other : Sign) → sign_of left (left_word word) ≡ Some one → sign_of right (right_word word) ≡ Some other
      → strict op one other ≡ Outside
  outside_either word over outside one other left_sign right_sign = ⊎_elim
      (λ first. ⊎_elim
      (λ second. absurd (outside (both_encode word over first second)))
      (λ none.
      let right_none = subst (λ mode. IsOutside mode right.variables (right_word word)) modes none in
      let is : other ≡ Outside = same_Some other Outside (sym right_sign ∙ sign_outside right right_is (right_word word) (narrowed_over operands.right_map right.variables wide word) right_none) in
      ap (strict op one) is ∙ strict-right op one)
      (encoding_or_not left.mode right.variables (right_word word) right_is.rising (narrowed_over operands.right_map right.variables wide word)))
      (λ none.
      let is : one ≡ Outside = same_Some one Outside (sym left_sign ∙ sign_outside left left_is (left_word word) (narrowed_over operands.left_map left.variables wide word) none) in
      ap (λ s. strict op s other) is)
      (encoding_or_not left.mode left.variables (left_word word) left_is.rising (narrowed_over operands.left_map left.variables wide word))

  module _ (pairs : List (ℕ × ℕ)) (numbering : IsNumbering pairs) (are : AreStates operands pairs) (nodes : List Node) (start : Ref) (states : List State)
      (ordered : IsOrdered nodes) (reduced : IsReduced nodes) (starts : Leads nodes (product_findings op operands pairs).starts start) (all : length states ≡ length pairs)
      (follows : Follows nodes (product_findings op operands pairs) states) where
    abbrev made : Content Sign
    made = explored nodes left.mode wide start states (product_findings op operands pairs)

    -- each word has the connective of the signs of both
    sign_of-made : (word : Word) → IsWordOver wide word → (one other : Sign) → sign_of left (left_word word) ≡ Some one → sign_of right (right_word word) ≡ Some other
        → sign_of made word ≡ Some (strict op one other)
    sign_of-made word over one other left_sign right_sign =
        sign_of_explored nodes left.mode wide start states (product_findings op operands pairs) ordered reduced
        (IsOver-product op operands wide left_is.ordered left_is.closed left_leads right_is.ordered right_is.closed right_leads pairs numbering are)
        starts all follows (side_by_side operands wide) (pair_sign op operands) (λ number pair. slice_get pairs number ≡ Some pair)
        (AreNames-product op operands wide left_is.ordered left_is.closed left_leads right_is.ordered right_is.closed right_leads pairs numbering are) word over
        ∙ ap (λ pair. Some (pair_sign op operands pair)) (end_of-side_by_side operands wide word)
        ∙ ap (λ s. Some (strict op s (sign_in right (last_state right (right_word word))))) (sign_in-is left (last_state left (left_word word)) one left_sign)
        ∙ ap (λ s. Some (strict op one s)) (sign_in-is right (last_state right (right_word word)) other right_sign)

    pub HasValues-made : HasValues (combined op (own_meaning left) (own_meaning right)) made
    HasValues-made = record {
      right = λ word e assigned encodes.
          let one = (HasValues-own left left_is).right (left_word word) e (left_assigned e assigned)
          (narrowed_encodes operands.left_map left.variables wide e e (left_reads e) word encodes) in
          let other = (HasValues-own right right_is).right (right_word word) e (right_assigned e assigned)
          (narrowed_encodes operands.right_map right.variables wide e e (right_reads e) word encodes) in
          (strict op one.0 other.0, sign_of-made word (encoding_is_over wide word e encodes) one.0 other.0 one.1 other.1, (one.0, other.0, one.2, other.2, refl));
      outside = λ word over outside.
          let one = word_has_sign left left_is.closed (left_word word) in
          let other = word_has_sign right right_is.closed (right_word word) in
          sign_of-made word over one.0 other.0 one.1 other.1 ∙ ap Some (outside_either word over outside one.0 other.0 one.1 other.1);
    }

    pub IsAutomaton-made : length pairs ≤ 4294967295 → IsAutomaton made
    IsAutomaton-made few =
        IsAutomaton-by_values (combined op (own_meaning left) (own_meaning right)) made IsMeaning-both HasValues-made ordered reduced
        (IsClosed-explored nodes left.mode wide start states (product_findings op operands pairs) ordered reduced
        (IsOver-product op operands wide left_is.ordered left_is.closed left_leads right_is.ordered right_is.closed right_leads pairs numbering are) starts all follows)
        wide-rising (let counted = length-states_of states in omega (arith, few, counted, all))
