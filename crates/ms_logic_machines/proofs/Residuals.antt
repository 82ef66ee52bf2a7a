-- Whether two states of a machine have the same signs after all letters is decided: whether the machine of pairs comes to different signs.
use Rattle.std.proofs.Common.{◌≡◌, ℕ, zero, suc, ◌<◌, inl, inr, ⊎_elim, Bool, true, false, List, [], ◌∷◌, ◌++◌, length, map, refl, sym, ap, subst, ◌∙◌, append-nil, arith}
use Rattle.std.proofs.lemmas.Bool.{cases_lt}
use Rattle.ms_logic.specs.Assignment.{Variable}
use Rattle.ms_logic_words.specs.Content.{AreLetters, count_of, is_in_letters}
use Rattle.ms_logic_machines.specs.Machine.{IsTested, Machine, machine_after}
use Rattle.ms_logic_machines.proofs.Choices.{Among, Decided, among-left, among-map, among-pairs, among-right, opposite, pairs, pairs-tested}
use Rattle.ms_logic_machines.proofs.Finding.{numbers-tested}
use Rattle.ms_logic_machines.proofs.Reached.{Path, reached-or}
use Rattle.ms_logic_machines.proofs.Runs.{HaveEqualSigns}

-- the numbers below a count
abbrev pub all_below : ℕ → List ℕ
all_below zero = []
all_below (suc n) = n ∷ all_below n

among-all_below : (count n : ℕ) → n < count → Among n (all_below count)
among-all_below zero n less = absurd (omega (arith, less))
among-all_below (suc count) n less = ⊎_elim (λ below. inr (among-all_below count n below)) (λ last. inl (omega (arith, less, last))) (cases_lt n count)

-- all letters of so many bits
abbrev pub all_letters : ℕ → List (List Bool)
all_letters zero = [] ∷ []
all_letters (suc n) = map (λ letter. false ∷ letter) (all_letters n) ++ map (λ letter. true ∷ letter) (all_letters n)

among-all_letters : (n : ℕ) (letter : List Bool) → length letter ≡ n → Among letter (all_letters n)
among-all_letters zero [] long = inl refl
among-all_letters zero (bit ∷ letter) long = absurd (omega (arith, long))
among-all_letters (suc n) [] long = absurd (omega (arith, long))
among-all_letters (suc n) (false ∷ letter) long =
    among-left (false ∷ letter) (map (λ letter. false ∷ letter) (all_letters n)) (map (λ letter. true ∷ letter) (all_letters n))
    (among-map (λ (letter : List Bool). false ∷ letter) letter (all_letters n) (among-all_letters n letter (omega (arith, long))))
among-all_letters (suc n) (true ∷ letter) long =
    among-right (true ∷ letter) (map (λ letter. false ∷ letter) (all_letters n)) (map (λ letter. true ∷ letter) (all_letters n))
    (among-map (λ (letter : List Bool). true ∷ letter) letter (all_letters n) (among-all_letters n letter (omega (arith, long))))

-- and each has so many
AllLong : ℕ → List (List Bool) → Type 0
AllLong n letters = (letter : List Bool) → Among letter letters → length letter ≡ n

all_long-first : (n : ℕ) (bit : Bool) (letters more : List (List Bool)) → AllLong n letters → AllLong (suc n) more
    → AllLong (suc n) (map (λ letter. bit ∷ letter) letters ++ more)
unfolding AllLong
all_long-first n bit [] more long rest letter among = rest letter among
all_long-first n bit (first ∷ letters) more long rest letter among =
    ⊎_elim (λ same. ap length (sym same) ∙ ap suc (long first (inl refl)))
    (λ later. all_long-first n bit letters more (λ other there. long other (inr there)) rest letter later) among

all_letters-long : (n : ℕ) → AllLong n (all_letters n)
unfolding AllLong
all_letters-long zero letter among = ⊎_elim (λ same. ap length (sym same)) (λ never. absurd never) among
all_letters-long (suc n) letter among =
    all_long-first n false (all_letters n) (map (λ letter. true ∷ letter) (all_letters n)) (all_letters-long n)
    (subst (AllLong (suc n)) (append-nil (map (λ letter. true ∷ letter) (all_letters n)))
    (all_long-first n true (all_letters n) [] (all_letters-long n) (λ letter never. absurd never))) letter among

module _ {Sign : Type 0} (test : IsTested Sign) (variables : List Variable) (machine : Machine Sign) where
  letters : List (List Bool)
  letters = all_letters (count_of is_in_letters variables)

  within : List (ℕ × ℕ)
  within = pairs (all_below machine.count) (all_below machine.count)

  -- a letter leads both states of a pair on
  abbrev step : ℕ × ℕ → List Bool → ℕ × ℕ
  step pair letter = (machine.next pair.0 letter, machine.next pair.1 letter)

  abbrev Differ : ℕ × ℕ → Type 0
  Differ pair = ¬ (machine.sign pair.0 ≡ machine.sign pair.1)

  differ-or : (pair : ℕ × ℕ) → Decided (Differ pair)
  differ-or pair = opposite (test (machine.sign pair.0) (machine.sign pair.1))

  abbrev PathOf : ℕ × ℕ → List (List Bool) → Type 0
  PathOf pair word = Path (pairs-tested numbers-tested numbers-tested) letters step Differ differ-or within pair word

  -- letters that lead to different signs are a path of pairs
  path-from : (word : List (List Bool)) (one other : ℕ) → one < machine.count → other < machine.count → AreLetters variables word
      → ¬ (machine.sign (machine_after machine one word) ≡ machine.sign (machine_after machine other word)) → PathOf (one, other) word
  unfolding letters within
  path-from [] one other below below_too are differ = (
    among-pairs one other (all_below machine.count) (all_below machine.count) (among-all_below machine.count one below)
        (among-all_below machine.count other below_too),
    differ,
  )
  path-from (letter ∷ word) one other below below_too are differ = (
    among-pairs one other (all_below machine.count) (all_below machine.count) (among-all_below machine.count one below)
        (among-all_below machine.count other below_too),
    among-all_letters (count_of is_in_letters variables) letter are.0,
    path-from word (machine.next one letter) (machine.next other letter) (machine.next_below one letter below)
        (machine.next_below other letter below_too) are.1 differ,
  )

  -- and so is each path
  from-path : (word : List (List Bool)) (one other : ℕ) → PathOf (one, other) word
      → AreLetters variables word × ¬ (machine.sign (machine_after machine one word) ≡ machine.sign (machine_after machine other word))
  unfolding letters within AllLong
  from-path [] one other path = (tt, path.1)
  from-path (letter ∷ word) one other path =
      let more = from-path word (machine.next one letter) (machine.next other letter) path.2 in
      ((all_letters-long (count_of is_in_letters variables) letter path.1, more.0), more.1)

  pub equal-or : (one other : ℕ) → one < machine.count → other < machine.count → Decided (HaveEqualSigns variables machine one other)
  equal-or one other below below_too = ⊎_elim
      (λ found. inr (λ same. let differ = from-path found.0 one other found.1 in differ.1 (same found.0 differ.0)))
      (λ none. inl (λ word are. ⊎_elim
      (λ same. same)
      (λ differ. absurd (none (word, path-from word one other below below_too are differ)))
      (test (machine.sign (machine_after machine one word)) (machine.sign (machine_after machine other word)))))
      (reached-or (pairs-tested numbers-tested numbers-tested) letters step Differ differ-or within (one, other))
