-- A content's signs, and that its states are reached and differ, depend on the orders of its variables alone: so what is renamed
-- in order has fewest states where it had fewest before.
use Rattle.std.proofs.Common.{◌≡◌, ℕ, Bool, if◌then◌else◌, List, [], ◌∷◌, length, slice_get, slice_index_or, Option, Some, None, refl, sym, ap, subst, ◌∙◌, arith}
use Rattle.ms_arena.specs.Diagram.{leaf_of}
use Rattle.ms_arena.specs.declared.node.Ref.{Ref}
use Rattle.ms_dfa.proofs.OrdersLemmas.{has_value-same, letters-same, orders_of, over-same, padded-same}
use Rattle.ms_list.specs.declared.word.Word.{Word}
use Rattle.ms_logic.specs.Assignment.{Variable}
use Rattle.ms_logic.specs.declared.mode.Mode.{Mode}
use Rattle.ms_logic.specs.declared.mode.Order.{Order}
use Rattle.ms_logic_words.specs.Content.{Content, IsClosed, IsFollowed, StateOf, bits_at, first_state, is_in_letters, is_truth_value, last_state, next_from, next_state, sign_at, sign_of, state_after}
use Rattle.ms_logic_words.specs.declared.sign.Sign.{Sign}
use Rattle.ms_logic_words.specs.Residual.{AreReached, HaveDifferentResiduals, IsLeast}
use Rattle.ms_rename.specs.Renamed.{HasPartsOf, renamed}

-- renamed variables keep their orders
pub renamed-orders : (names : List ℕ) (vs : List Variable) → length names ≡ length vs → orders_of (renamed names vs) ≡ orders_of vs
renamed-orders [] [] long = refl
renamed-orders [] (v ∷ vs) long = absurd (omega (arith, long))
renamed-orders (name ∷ names) [] long = absurd (omega (arith, long))
renamed-orders (name ∷ names) (v ∷ vs) long = ap (λ (os : List Order). v.order ∷ os) (renamed-orders names vs (omega (arith, long)))

-- the parts of a content, over other variables of the same orders
abbrev pub over : {S : Type 0} → Mode → List Variable → Content S → Content S
over mode us content = record { mode = mode; variables = us; start = content.start; states = content.states; nodes = content.nodes }

module _ {S : Type 0} (content : Content S) (mode : Mode) (us : List Variable) (same : orders_of us ≡ orders_of content.variables) where
  next_same : (found : Option (StateOf S)) (letter : List Bool) → next_from (over mode us content) found letter ≡ next_from content found letter
  next_same None letter = refl
  next_same (Some state) letter = ap (λ bits. leaf_of content.nodes state.next (bits_at bits)) (padded-same is_in_letters us content.variables same letter)

  after_same : (letters : List (List Bool)) (state : ℕ) → state_after (over mode us content) state letters ≡ state_after content state letters
  after_same [] state = refl
  after_same (letter ∷ letters) state =
      after_same letters (next_state (over mode us content) state letter)
      ∙ ap (λ s. state_after content s letters) (next_same (slice_get content.states state) letter)

  pub last_same : (word : Word) → last_state (over mode us content) word ≡ last_state content word
  last_same word =
      after_same word.letters (first_state (over mode us content) word.truth)
      ∙ ap (λ bits. state_after content (leaf_of content.nodes content.start (bits_at bits)) word.letters) (padded-same is_truth_value us content.variables same word.truth)

  pub sign_same : (word : Word) → sign_of (over mode us content) word ≡ sign_of content word
  sign_same word = ap (sign_at content) (last_same word)

  pub reached_same : AreReached content → AreReached (over mode us content)
  reached_same reached state within =
      let found = reached state within in
      (found.0, over-same content.variables us (sym same) found.0 found.1, last_same found.0 ∙ found.2)

  pub differ_same : HaveDifferentResiduals content → HaveDifferentResiduals (over mode us content)
  differ_same differ one other first second equal = differ one other first second (λ letters are.
      ap (sign_at content) (sym (after_same letters one))
      ∙ equal letters (letters-same content.variables us (sym same) letters are)
      ∙ ap (sign_at content) (after_same letters other))

  followed_same : (has_value : Order → Bool) (root : Ref) → IsFollowed content has_value root → IsFollowed (over mode us content) has_value root
  followed_same has_value root followed = record {
    valid = followed.valid;
    states = followed.states;
    tests = λ place tested. has_value-same content.variables us (sym same) has_value place (followed.tests place tested);
  }

  pub closed_same : IsClosed content → IsClosed (over mode us content)
  closed_same closed = record {
    start = followed_same is_truth_value content.start closed.start;
    next = λ place other within. followed_same is_in_letters (slice_index_or content.states place other).next (closed.next place other within);
  }

least_same : {S : Type 0} (content : Content S) (mode : Mode) (us : List Variable) → orders_of us ≡ orders_of content.variables → IsLeast content → IsLeast (over mode us content)
least_same content mode us same least = record {
  fewest = λ other closed variables signs.
      let back = sym same ∙ ap orders_of (sym variables) in
      least.fewest (over content.mode content.variables other) (closed_same other content.mode content.variables back closed) refl
      (λ word is_over.
      sign_same other content.mode content.variables back word
      ∙ signs word (over-same content.variables us (sym same) word is_over)
      ∙ sign_same content mode us same word);
  reached = reached_same content mode us same least.reached;
  differ = differ_same content mode us same least.differ;
}

-- so a content with the parts of another, over variables of the same orders, has its signs, and reached and different states
module _ (one least : Content Sign) (parts : HasPartsOf least one) (orders : orders_of one.variables ≡ orders_of least.variables) where
  is_over : one ≡ over one.mode one.variables least
  is_over = λ i. record { mode = one.mode; variables = one.variables; start = parts.start i; states = parts.states i; nodes = parts.nodes i }

  pub parts_reached : AreReached least → AreReached one
  parts_reached reached = subst AreReached (sym is_over) (reached_same least one.mode one.variables orders reached)

  pub parts_differ : HaveDifferentResiduals least → HaveDifferentResiduals one
  parts_differ differ = subst HaveDifferentResiduals (sym is_over) (differ_same least one.mode one.variables orders differ)

  pub parts_sign : (word : Word) → sign_of one word ≡ sign_of least word
  parts_sign word = ap (λ c. sign_of c word) is_over ∙ sign_same least one.mode one.variables orders word

  pub parts_least : IsLeast least → IsLeast one
  parts_least is = subst IsLeast (sym is_over) (least_same least one.mode one.variables orders is)

  pub parts_closed : IsClosed one → IsClosed least
  parts_closed closed = closed_same (over one.mode one.variables least) least.mode least.variables (sym orders) (subst IsClosed is_over closed)
