-- Finite machines that read a word letter by letter and answer with a bit, and what the bit tells.
use Rattle.std.proofs.Common.{◌≡◌, Bool, true, false, not, ◌&&◌, ◌||◌, IsTrue, ◌⊎◌, inl, inr, ⊎_elim, ◌↔◌, List, [], ◌∷◌, refl, sym, subst}
use Rattle.std.proofs.lemmas.Bool.{false≢true}
use Rattle.ms_list.specs.declared.word.Word.{Word}
use Rattle.ms_logic.specs.declared.mode.Mode.{Mode}
use Rattle.ms_logic.specs.Assignment.{Env, Variable, IsAssignment}
use Rattle.ms_logic_words.specs.Word.{Encodes}
use Rattle.ms_logic_machines.proofs.Choices.{Among, among-pairs, pairs, pairs-among, pairs-tested}
use Rattle.ms_logic_machines.specs.Machine.{IsTested}

-- the state after letters
abbrev pub read : {State : Type 0} → (State → List Bool → State) → State → List (List Bool) → State
read next s [] = s
read next s (letter ∷ letters) = read next (next s letter) letters

pub record Reader (Tells : Word → Bool → Type 0) : Type 1 where
  pub State : Type 0
  pub test : IsTested State
  pub states : List State
  pub start : List Bool → State
  pub next : State → List Bool → State
  pub accepts : State → Bool
  pub start_among : (truth : List Bool) → Among (start truth) states
  pub next_among : (s : State) (letter : List Bool) → Among s states → Among (next s letter) states
  pub right : (word : Word) → Tells word (accepts (read next (start word.truth) word.letters))

-- the bit tells whether what the word encodes has the property
abbrev pub TellsAt : Mode → List Variable → (Env → Type 0) → Word → Bool → Type 0
TellsAt mode variables P word bit = (e : Env) → IsAssignment mode variables e → Encodes variables word e → P e ↔ IsTrue bit

-- the same answer to each word
pub always : (Tells : Word → Bool → Type 0) (bit : Bool) → ((word : Word) → Tells word bit) → Reader Tells
always Tells bit told = record {
  State = Bool;
  test = tested;
  states = true ∷ [];
  start = λ truth. true;
  next = λ s letter. true;
  accepts = λ s. bit;
  start_among = λ truth. inl refl;
  next_among = λ s letter among. inl refl;
  right = told;
}
  where
    tested : IsTested Bool
    tested true true = inl refl
    tested false false = inl refl
    tested true false = inr (λ same. false≢true (sym same))
    tested false true = inr (λ same. false≢true same)

-- what follows of the answer
pub reader-of : (T U : Word → Bool → Type 0) (op : Bool → Bool) → ((word : Word) (bit : Bool) → T word bit → U word (op bit)) → Reader T → Reader U
reader-of T U op follows m = record {
  State = m.State;
  test = m.test;
  states = m.states;
  start = m.start;
  next = m.next;
  accepts = λ s. op (m.accepts s);
  start_among = m.start_among;
  next_among = m.next_among;
  right = λ word. follows word (m.accepts (read m.next (m.start word.truth) word.letters)) (m.right word);
}

-- both at once
module _ (T U V : Word → Bool → Type 0) (op : Bool → Bool → Bool) (follows : (word : Word) (one other : Bool) → T word one → U word other → V word (op one other)) (m : Reader T) (n : Reader U) where
  next-both : m.State × n.State → List Bool → m.State × n.State
  next-both s letter = (m.next s.0 letter, n.next s.1 letter)

  read-both : (s : m.State) (t : n.State) (letters : List (List Bool)) → read (λ (r : m.State × n.State) (letter : List Bool). (m.next r.0 letter, n.next r.1 letter)) (s, t) letters ≡ (read m.next s letters, read n.next t letters)
  read-both s t [] = refl
  read-both s t (letter ∷ letters) = read-both (m.next s letter) (n.next t letter) letters

  pub reader-of-two : Reader V
  reader-of-two = record {
    State = m.State × n.State;
    test = pairs-tested m.test n.test;
    states = pairs m.states n.states;
    start = λ truth. (m.start truth, n.start truth);
    next = λ s letter. (m.next s.0 letter, n.next s.1 letter);
    accepts = λ s. op (m.accepts s.0) (n.accepts s.1);
    start_among = λ truth. among-pairs (m.start truth) (n.start truth) m.states n.states (m.start_among truth) (n.start_among truth);
    next_among = λ s letter among. let parts = pairs-among s m.states n.states among in among-pairs (m.next s.0 letter) (n.next s.1 letter) m.states n.states (m.next_among s.0 letter parts.0) (n.next_among s.1 letter parts.1);
    right = λ word.
        let P : m.State × n.State → Type 0 = λ s. V word (op (m.accepts s.0) (n.accepts s.1)) in
        subst P (sym (read-both (m.start word.truth) (n.start word.truth) word.letters))
        (follows word (m.accepts (read m.next (m.start word.truth) word.letters)) (n.accepts (read n.next (n.start word.truth) word.letters)) (m.right word) (n.right word));
  }

-- connectives

both-true : (P Q : Type 0) (one other : Bool) → P ↔ IsTrue one → Q ↔ IsTrue other → (P × Q) ↔ IsTrue (one && other)
both-true P Q true other p q = ((λ both. q.0 both.1), (λ is. (p.1 refl, q.1 is)))
both-true P Q false other p q = ((λ both. p.0 both.0), (λ is. absurd (false≢true is)))

either-true : (P Q : Type 0) (one other : Bool) → P ↔ IsTrue one → Q ↔ IsTrue other → (P ⊎ Q) ↔ IsTrue (one || other)
either-true P Q true other p q = ((λ some. refl), (λ is. inl (p.1 refl)))
either-true P Q false other p q = ((λ some. ⊎_elim (λ one. absurd (false≢true (p.0 one))) q.0 some), (λ is. inr (q.1 is)))

not-true : (P : Type 0) (bit : Bool) → P ↔ IsTrue bit → (¬ P) ↔ IsTrue (not bit)
not-true P true p = ((λ fails. absurd (fails (p.1 refl))), (λ is. absurd (false≢true is)))
not-true P false p = ((λ fails. refl), (λ is holds. false≢true (p.0 holds)))

module _ (mode : Mode) (variables : List Variable) where
  pub both-readers : (P Q : Env → Type 0) → Reader (TellsAt mode variables P) → Reader (TellsAt mode variables Q) → Reader (TellsAt mode variables (λ e. P e × Q e))
  both-readers P Q =
      reader-of-two (TellsAt mode variables P) (TellsAt mode variables Q) (TellsAt mode variables (λ e. P e × Q e)) (λ one other. one && other)
      (λ word one other p q e assigned encodes. both-true (P e) (Q e) one other (p e assigned encodes) (q e assigned encodes))

  pub either-reader : (P Q : Env → Type 0) → Reader (TellsAt mode variables P) → Reader (TellsAt mode variables Q) → Reader (TellsAt mode variables (λ e. P e ⊎ Q e))
  either-reader P Q =
      reader-of-two (TellsAt mode variables P) (TellsAt mode variables Q) (TellsAt mode variables (λ e. P e ⊎ Q e)) (λ one other. one || other)
      (λ word one other p q e assigned encodes. either-true (P e) (Q e) one other (p e assigned encodes) (q e assigned encodes))

  pub opposite-reader : (P : Env → Type 0) → Reader (TellsAt mode variables P) → Reader (TellsAt mode variables (λ e. ¬ P e))
  opposite-reader P = reader-of (TellsAt mode variables P) (TellsAt mode variables (λ e. ¬ P e)) not (λ word bit p e assigned encodes. not-true (P e) bit (p e assigned encodes))

  -- the same property
  pub reader-along : (P Q : Env → Type 0) → ((e : Env) → IsAssignment mode variables e → P e ↔ Q e) → Reader (TellsAt mode variables P) → Reader (TellsAt mode variables Q)
  reader-along P Q same =
      reader-of (TellsAt mode variables P) (TellsAt mode variables Q) (λ bit. bit)
      (λ word bit p e assigned encodes. ((λ q. (p e assigned encodes).0 ((same e assigned).1 q)), (λ is. (same e assigned).0 ((p e assigned encodes).1 is))))

  pub certain-reader : (P : Env → Type 0) → ((e : Env) → P e) → Reader (TellsAt mode variables P)
  certain-reader P holds = always (TellsAt mode variables P) true (λ word e assigned encodes. ((λ p. refl), (λ is. holds e)))

  pub never-reader : (P : Env → Type 0) → ((e : Env) → ¬ P e) → Reader (TellsAt mode variables P)
  never-reader P fails = always (TellsAt mode variables P) false (λ word e assigned encodes. ((λ p. absurd (fails e p)), (λ is. absurd (false≢true is))))
