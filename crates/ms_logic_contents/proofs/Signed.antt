-- The machine of a core formula: its signs are those of the words.
use Rattle.std.proofs.Common.{◌≡◌, ℕ, zero, suc, ◌<◌, Bool, true, false, IsTrue, inl, inr, ⊎_elim, ◌↔◌, List, [], ◌∷◌, length, get_or, refl, sym, ◌∙◌, ap, subst, arith}
use Rattle.std.proofs.lemmas.Bool.{false≢true}
use Rattle.ms_list.specs.declared.word.Word.{Word}
use Rattle.ms_logic.specs.declared.mode.Mode.{Mode}
use Rattle.ms_logic.specs.Assignment.{Variable}
use Rattle.ms_logic.specs.Truth.{Answer, Import}
use Rattle.ms_logic_core.specs.CoreForm.{CoreForm, CoreNo, CoreYes}
use Rattle.ms_logic_core.proofs.CoreConsistent.{core_never_both}
use Rattle.ms_logic_measures.specs.Budgets.{AreContentsOfImports}
use Rattle.ms_logic_measures.specs.FullContent.{HasValueOn}
use Rattle.ms_logic_words.specs.Content.{Content, IsWordOver}
use Rattle.ms_logic_words.specs.Word.{IsEncoding}
use Rattle.ms_logic_words.specs.declared.sign.Sign.{Sign}
use Rattle.ms_logic_words.specs.declared.sign.Sign.TheVariants.{Yes, No, Undefined, Outside}
use Rattle.ms_logic_machines.specs.Machine.{IsTested, Machine, machine_after, machine_sign}
use Rattle.ms_logic_machines.proofs.Choices.{Among, among-pairs, pairs, pairs-among, pairs-tested}
use Rattle.ms_logic_readers.specs.Scoped.{AreDistinct, IsOver}
use Rattle.ms_logic_readers.proofs.Encodings.{TellsEncoding, encoding-reader}
use Rattle.ms_logic_readers.proofs.Formulas.{no, yes}
use Rattle.ms_logic_readers.proofs.Readers.{Reader, TellsAt, read}

-- a reader as a machine whose states are numbers

module _ {S : Type 0} (test : IsTested S) (none : S) where
  abbrev place_of : S → List S → ℕ
  place_of s [] = 0
  place_of s (t ∷ states) = ⊎_elim (λ same. 0) (λ differs. suc (place_of s states)) (test t s)

  place-within : (s : S) (states : List S) → Among s states → place_of s states < length states
  place-within s [] among = absurd among
  place-within s (t ∷ states) among =
      elim (test t s) as (λ found. ⊎_elim (λ same. 0) (λ differs. suc (place_of s states)) found < suc (length states)) [
        | inl same ↦ omega arith
        | inr differs ↦ ⊎_elim (λ same. absurd (differs same)) (λ later. omega (arith, place-within s states later)) among
      ]

  at-place : (s : S) (states : List S) → Among s states → get_or states (place_of s states) none ≡ s
  at-place s [] among = absurd among
  at-place s (t ∷ states) among =
      elim (test t s) as (λ found. get_or (t ∷ states) (⊎_elim (λ same. 0) (λ differs. suc (place_of s states)) found) none ≡ s) [
        | inl same ↦ same
        | inr differs ↦ ⊎_elim (λ same. absurd (differs same)) (λ later. at-place s states later) among
      ]

  item-among : (states : List S) (i : ℕ) → i < length states → Among (get_or states i none) states
  item-among [] i within = absurd (omega (arith, within))
  item-among (t ∷ states) zero within = inl refl
  item-among (t ∷ states) (suc i) within = inr (item-among states i (omega (arith, within)))

  module _ {Sign : Type 0} (states : List S) (start : List Bool → S) (next : S → List Bool → S) (start_among : (truth : List Bool) → Among (start truth) states)
      (next_among : (s : S) (letter : List Bool) → Among s states → Among (next s letter) states) (sign : S → Sign) where
    abbrev numbered : Machine Sign
    numbered = record {
      count = length states;
      start = λ truth. place_of (start truth) states;
      next = λ i letter. place_of (next (get_or states i none) letter) states;
      sign = λ i. sign (get_or states i none);
      start_below = λ truth. place-within (start truth) states (start_among truth);
      next_below = λ i letter within. place-within (next (get_or states i none) letter) states (next_among (get_or states i none) letter (item-among states i within));
    }

    after : (letters : List (List Bool)) (s : S) → Among s states → get_or states (machine_after numbered (place_of s states) letters) none ≡ read next s letters
    after [] s among = at-place s states among
    after (letter ∷ letters) s among =
        let here = at-place s states among in
        ap (λ (t : S). get_or states (machine_after numbered (place_of (next t letter) states) letters) none) here ∙ after letters (next s letter) (next_among s letter among)

    signs-are : (word : Word) → machine_sign numbered word ≡ sign (read next (start word.truth) word.letters)
    signs-are word = ap sign (after word.letters (start word.truth) (start_among word.truth))

-- signs

abbrev sign_by : Bool → Bool → Bool → Sign
sign_by false yes_is no_is = Outside
sign_by true true no_is = Yes
sign_by true false true = No
sign_by true false false = Undefined

module _ (imports : List Import) (mode : Mode) (files : List (Content Answer)) (tied : AreContentsOfImports mode imports files) (variables : List Variable) (distinct : AreDistinct variables) (f : CoreForm) (over : IsOver imports variables f) where
  abbrev yes_reader : Reader (TellsAt mode variables (CoreYes imports f))
  yes_reader = yes imports mode files tied f variables distinct over

  abbrev no_reader : Reader (TellsAt mode variables (CoreNo imports f))
  no_reader = no imports mode files tied f variables distinct over

  abbrev encodes_reader : Reader (TellsEncoding mode variables distinct)
  encodes_reader = encoding-reader mode variables distinct

  valued : (word : Word) (encoding yes_is no_is : Bool) → (IsEncoding mode variables word ↔ IsTrue encoding) → TellsAt mode variables (CoreYes imports f) word yes_is → TellsAt mode variables (CoreNo imports f) word no_is
      → HasValueOn imports mode variables f word (sign_by encoding yes_is no_is)
  valued word false yes_is no_is coded holds fails = λ encoding. false≢true (coded.0 encoding)
  valued word true true no_is coded holds fails = let e = coded.1 refl in (e.0, e.1, e.2, (holds e.0 e.1 e.2).1 refl)
  valued word true false true coded holds fails = let e = coded.1 refl in (e.0, e.1, e.2, (fails e.0 e.1 e.2).1 refl)
  valued word true false false coded holds fails =
      let e = coded.1 refl in
      (e.0, e.1, e.2, ((λ held. false≢true ((holds e.0 e.1 e.2).0 held)), (λ failed. false≢true ((fails e.0 e.1 e.2).0 failed))))

  -- all three at once
  abbrev Three : Type 0
  Three = encodes_reader.State × (yes_reader.State × no_reader.State)

  pub has-machine : (machine : Machine Sign) × ((word : Word) → IsWordOver variables word → HasValueOn imports mode variables f word (machine_sign machine word))
  has-machine =
      let E = encodes_reader in
      let Y = yes_reader in
      let N = no_reader in
      let inner = pairs Y.states N.states in
      let states : List Three = pairs E.states inner in
      let test : IsTested Three = pairs-tested E.test (pairs-tested Y.test N.test) in
      let start : List Bool → Three = λ truth. (E.start truth, (Y.start truth, N.start truth)) in
      let next : Three → List Bool → Three = λ s letter. (E.next s.0 letter, (Y.next s.1.0 letter, N.next s.1.1 letter)) in
      let start_among : (truth : List Bool) → Among (start truth) states = λ truth.
      among-pairs (E.start truth) (Y.start truth, N.start truth) E.states inner (E.start_among truth) (among-pairs (Y.start truth) (N.start truth) Y.states N.states (Y.start_among truth) (N.start_among truth)) in
      let next_among : (s : Three) (letter : List Bool) → Among s states → Among (next s letter) states = λ s letter among.
      let parts = pairs-among s E.states inner among in
      let pair : Y.State × N.State = s.1 in
      let more = pairs-among pair Y.states N.states parts.1 in
      among-pairs (E.next s.0 letter) (Y.next s.1.0 letter, N.next s.1.1 letter) E.states inner (E.next_among s.0 letter parts.0)
      (among-pairs (Y.next s.1.0 letter) (N.next s.1.1 letter) Y.states N.states (Y.next_among s.1.0 letter more.0) (N.next_among s.1.1 letter more.1)) in
      let sign : Three → Sign = λ s. sign_by (E.accepts s.0) (Y.accepts s.1.0) (N.accepts s.1.1) in
      let none : Three = (E.start [], (Y.start [], N.start [])) in
      let machine = numbered test none states start next start_among next_among sign in (
        machine,
        λ word over_word.
            let split = three E.next Y.next N.next (E.start word.truth) (Y.start word.truth) (N.start word.truth) word.letters in
            let P : Sign → Type 0 = λ s. HasValueOn imports mode variables f word s in
            subst P (sym (signs-are test none states start next start_among next_among sign word ∙ ap sign split))
            (valued word (E.accepts (read E.next (E.start word.truth) word.letters)) (Y.accepts (read Y.next (Y.start word.truth) word.letters)) (N.accepts (read N.next (N.start word.truth) word.letters))
            (E.right word over_word) (Y.right word) (N.right word)),
      )
    where
      three : {A B C : Type 0} (a : A → List Bool → A) (b : B → List Bool → B) (c : C → List Bool → C) (p : A) (q : B) (r : C) (letters : List (List Bool))
          → read (λ (s : A × (B × C)) (letter : List Bool). (a s.0 letter, (b s.1.0 letter, c s.1.1 letter))) (p, (q, r)) letters ≡ (read a p letters, (read b q letters, read c r letters))
      three a b c p q r [] = refl
      three a b c p q r (letter ∷ letters) = three a b c (a p letter) (b q letter) (c r letter) letters

  -- a word has one value

  is-yes : (a b c : Bool) → a ≡ true → b ≡ true → Yes ≡ sign_by a b c
  is-yes true true c one other = refl
  is-yes true false c one other = absurd (false≢true other)
  is-yes false b c one other = absurd (false≢true one)

  is-no : (a b c : Bool) → a ≡ true → (b ≡ true → ⊥) → c ≡ true → No ≡ sign_by a b c
  is-no true true c one fails other = absurd (fails refl)
  is-no true false true one fails other = refl
  is-no true false false one fails other = absurd (false≢true other)
  is-no false b c one fails other = absurd (false≢true one)

  is-undefined : (a b c : Bool) → a ≡ true → (b ≡ true → ⊥) → (c ≡ true → ⊥) → Undefined ≡ sign_by a b c
  is-undefined true true c one fails other = absurd (fails refl)
  is-undefined true false true one fails other = absurd (other refl)
  is-undefined true false false one fails other = refl
  is-undefined false b c one fails other = absurd (false≢true one)

  is-outside : (a b c : Bool) → (a ≡ true → ⊥) → Outside ≡ sign_by a b c
  is-outside true b c none = absurd (none refl)
  is-outside false b c none = refl

  module _ (word : Word) (over_word : IsWordOver variables word) where
    abbrev E_is : Bool
    E_is = encodes_reader.accepts (read encodes_reader.next (encodes_reader.start word.truth) word.letters)

    abbrev Y_is : Bool
    Y_is = yes_reader.accepts (read yes_reader.next (yes_reader.start word.truth) word.letters)

    abbrev N_is : Bool
    N_is = no_reader.accepts (read no_reader.next (no_reader.start word.truth) word.letters)

    of-value : (s : Sign) → HasValueOn imports mode variables f word s → s ≡ sign_by E_is Y_is N_is
    of-value Yes has = is-yes E_is Y_is N_is ((encodes_reader.right word over_word).0 (has.0, has.1, has.2)) ((yes_reader.right word has.0 has.1 has.2).0 has.3)
    of-value No has =
        is-no E_is Y_is N_is ((encodes_reader.right word over_word).0 (has.0, has.1, has.2)) (λ held. core_never_both imports f has.0 ((yes_reader.right word has.0 has.1 has.2).1 held) has.3)
        ((no_reader.right word has.0 has.1 has.2).0 has.3)
    of-value Undefined has =
        is-undefined E_is Y_is N_is ((encodes_reader.right word over_word).0 (has.0, has.1, has.2)) (λ held. has.3.0 ((yes_reader.right word has.0 has.1 has.2).1 held))
        (λ failed. has.3.1 ((no_reader.right word has.0 has.1 has.2).1 failed))
    of-value Outside has = is-outside E_is Y_is N_is (λ is. has ((encodes_reader.right word over_word).1 is))

    pub one-value : (one other : Sign) → HasValueOn imports mode variables f word one → HasValueOn imports mode variables f word other → one ≡ other
    one-value one other first second = of-value one first ∙ sym (of-value other second)
