-- Predicates of valuations that a finite machine decides, which reads the digits of all numbers from the least on. They are closed under
-- connectives and quantifiers (Büchi, 1960).
use Rattle.std.proofs.Common.{◌≡◌, ℕ, ◌+◌, ◌*◌, ◌/◌, ◌≤◌, zero, suc, Bool, true, false, cond, if◌then◌else◌, ◌⊎◌, ◌↔◌, inl, inr, ⊎_elim, List, [], ◌∷◌, ◌++◌, refl, sym, ap, subst, arith}
use Rattle.std.specs.Str.{bytes_eq}
use Rattle.ms_logic.specs.Lists.{Each}
use Rattle.ms_presburger.specs.Numbers.{Valuation, with_number}
use Rattle.ms_logic_machines.proofs.Choices.{Decided, Among, among-or, some-or, picked, among-picked, picked-among, sublists, picked-sublist, lists-tested, pairs, among-pairs, pairs-among, pairs-tested}
use Rattle.ms_logic_machines.specs.Machine.{IsTested}
use Rattle.ms_logic_machines.proofs.Reached.{Path, Reaches, reached-or}
use Rattle.ms_presburger.proofs.Scopes.{each-left, each-right}

-- a digit for each name
abbrev pub Letter : Type 0
Letter = List ℕ → Bool

abbrev pub digit : Bool → ℕ
digit true = 1
digit false = 0

-- the numbers with these least digits
abbrev pub shifted_in : Letter → Valuation → Valuation
shifted_in b v = λ x. 2 * v x + digit (b x)

abbrev pub zeros : Valuation
zeros = λ x. 0

-- they are the same at some names
abbrev pub AreSameAt : List (List ℕ) → Valuation → Valuation → Type 0
AreSameAt names v w = Each (λ x. v x ≡ w x) names

pub record Machine (P : Valuation → Type 0) : Type 1 where
  pub State : Type 0
  pub test : IsTested State
  pub states : List State
  pub start : State
  pub next : State → Letter → State
  -- what it says from a state on
  pub At : State → Valuation → Type 0
  pub names : List (List ℕ)
  pub start_among : Among start states
  pub next_among : (s : State) (b : Letter) → Among s states → Among (next s b) states
  pub starts : (v : Valuation) → P v ↔ At start v
  pub goes : (s : State) (b : Letter) (v : Valuation) → At s (shifted_in b v) ↔ At (next s b) v
  pub ends : (s : State) → Decided (At s zeros)
  pub depends : (s : State) (v w : Valuation) → AreSameAt names v w → At s v → At s w

-- everywhere the same
pub same-at : (names : List (List ℕ)) (v w : Valuation) → ((x : List ℕ) → v x ≡ w x) → AreSameAt names v w
same-at [] v w same = tt
same-at (x ∷ names) v w same = (same x, same-at names v w same)

pub turned : (names : List (List ℕ)) (v w : Valuation) → AreSameAt names v w → AreSameAt names w v
turned [] v w same = tt
turned (x ∷ names) v w same = (sym same.0, turned names v w same.1)

-- the same predicate
pub machine-along : (P Q : Valuation → Type 0) → ((v : Valuation) → P v ↔ Q v) → Machine P → Machine Q
machine-along P Q same m = record {
  State = m.State;
  test = m.test;
  states = m.states;
  start = m.start;
  next = m.next;
  At = m.At;
  names = m.names;
  start_among = m.start_among;
  next_among = m.next_among;
  starts = λ v. ((λ q. (m.starts v).0 ((same v).1 q)), (λ at. (same v).0 ((m.starts v).1 at)));
  goes = m.goes;
  ends = m.ends;
  depends = m.depends;
}

-- decided, by reading all digits

abbrev pub odd : ℕ → Bool
odd zero = false
odd (suc zero) = true
odd (suc (suc n)) = odd n

pub odd-half : (n : ℕ) → n ≡ 2 * (n / 2) + digit (odd n)
odd-half zero = omega arith
odd-half (suc zero) = omega arith
odd-half (suc (suc n)) = omega (arith, odd-half n)

all-zero : (names : List (List ℕ)) (v : Valuation) → Each (λ x. v x ≤ 0) names → AreSameAt names v zeros
all-zero [] v small = tt
all-zero (x ∷ names) v small = (omega (arith, small.0), all-zero names v small.1)

half-small : (names : List (List ℕ)) (v : Valuation) (k : ℕ) → Each (λ x. v x ≤ suc k) names → Each (λ x. v x / 2 ≤ k) names
half-small [] v k small = tt
half-small (x ∷ names) v k small = (omega (arith, small.0), half-small names v k small.1)

small-wider : (names : List (List ℕ)) (v : Valuation) (k n : ℕ) → k ≤ n → Each (λ x. v x ≤ k) names → Each (λ x. v x ≤ n) names
small-wider [] v k n above small = tt
small-wider (x ∷ names) v k n above small = (omega (arith, above, small.0), small-wider names v k n above small.1)

bounded : (names : List (List ℕ)) (v : Valuation) → (k : ℕ) × Each (λ x. v x ≤ k) names
bounded [] v = (0, tt)
bounded (x ∷ names) v = let more = bounded names v in (v x + more.0, (omega arith, small-wider names v more.0 (v x + more.0) (omega arith) more.1))

module _ (P : Valuation → Type 0) (m : Machine P) where
  at-or : (k : ℕ) (s : m.State) (v : Valuation) → Each (λ x. v x ≤ k) m.names → Decided (m.At s v)
  at-or zero s v small =
      let same = all-zero m.names v small in
      ⊎_elim (λ at. inl (m.depends s zeros v (turned m.names v zeros same) at)) (λ fails. inr (λ at. fails (m.depends s v zeros same at))) (m.ends s)
  at-or (suc k) s v small =
      let half : Valuation = λ x. v x / 2 in
      let letter : Letter = λ x. odd (v x) in
      let same : AreSameAt m.names v (shifted_in letter half) = same-at m.names v (shifted_in letter half) (λ x. odd-half (v x)) in
      ⊎_elim (λ at. inl (m.depends s (shifted_in letter half) v (turned m.names v (shifted_in letter half) same) ((m.goes s letter half).1 at)))
      (λ fails. inr (λ at. fails ((m.goes s letter half).0 (m.depends s v (shifted_in letter half) same at)))) (at-or k (m.next s letter) half (half-small m.names v k small))

  pub machine-decides : (v : Valuation) → Decided (P v)
  machine-decides v =
      let found = bounded m.names v in
      ⊎_elim (λ at. inl ((m.starts v).1 at)) (λ fails. inr (λ p. fails ((m.starts v).0 p))) (at-or found.0 m.start v found.1)

-- connectives

pub opposite-machine : (P : Valuation → Type 0) → Machine P → Machine (λ v. ¬ P v)
opposite-machine P m = record {
  State = m.State;
  test = m.test;
  states = m.states;
  start = m.start;
  next = m.next;
  At = λ s v. ¬ m.At s v;
  names = m.names;
  start_among = m.start_among;
  next_among = m.next_among;
  starts = λ v. ((λ fails at. fails ((m.starts v).1 at)), (λ fails p. fails ((m.starts v).0 p)));
  goes = λ s b v. ((λ fails at. fails ((m.goes s b v).1 at)), (λ fails at. fails ((m.goes s b v).0 at)));
  ends = λ s. ⊎_elim (λ at. inr (λ fails. fails at)) (λ fails. inl fails) (m.ends s);
  depends = λ s v w same fails at. fails (m.depends s w v (turned m.names v w same) at);
}

-- a connective respects what is the same, and is decided of what is decided
pub record IsConnective (C : Type 0 → Type 0 → Type 0) : Type 1 where
  pub respects : (A B A' B' : Type 0) → A ↔ A' → B ↔ B' → C A B → C A' B'
  pub decides : (A B : Type 0) → Decided A → Decided B → Decided (C A B)

turn : {A B : Type 0} → A ↔ B → B ↔ A
turn same = (same.1, same.0)

module _ (C : Type 0 → Type 0 → Type 0) (connective : IsConnective C) (P Q : Valuation → Type 0) (m : Machine P) (n : Machine Q) where
  both-same : (A B A' B' : Type 0) → A ↔ A' → B ↔ B' → C A B ↔ C A' B'
  both-same A B A' B' one other = (connective.respects A B A' B' one other, connective.respects A' B' A B (turn one) (turn other))

  pub both-machines : Machine (λ v. C (P v) (Q v))
  both-machines = record {
    State = m.State × n.State;
    test = pairs-tested m.test n.test;
    states = pairs m.states n.states;
    start = (m.start, n.start);
    next = λ s b. (m.next s.0 b, n.next s.1 b);
    At = λ s v. C (m.At s.0 v) (n.At s.1 v);
    names = m.names ++ n.names;
    start_among = among-pairs m.start n.start m.states n.states m.start_among n.start_among;
    next_among = λ s b among. let parts = pairs-among s m.states n.states among in among-pairs (m.next s.0 b) (n.next s.1 b) m.states n.states (m.next_among s.0 b parts.0) (n.next_among s.1 b parts.1);
    starts = λ v. both-same (P v) (Q v) (m.At m.start v) (n.At n.start v) (m.starts v) (n.starts v);
    goes = λ s b v. both-same (m.At s.0 (shifted_in b v)) (n.At s.1 (shifted_in b v)) (m.At (m.next s.0 b) v) (n.At (n.next s.1 b) v) (m.goes s.0 b v) (n.goes s.1 b v);
    ends = λ s. connective.decides (m.At s.0 zeros) (n.At s.1 zeros) (m.ends s.0) (n.ends s.1);
    depends = λ s v w same.
        let one = each-left (λ x. v x ≡ w x) m.names n.names same in
        let other = each-right (λ x. v x ≡ w x) m.names n.names same in
        connective.respects (m.At s.0 v) (n.At s.1 v) (m.At s.0 w) (n.At s.1 w) (m.depends s.0 v w one, m.depends s.0 w v (turned m.names v w one)) (n.depends s.1 v w other, n.depends s.1 w v (turned n.names v w other));
  }

-- some number for one name

abbrev with_digit : List ℕ → Bool → Letter → Letter
with_digit x d b = λ y. if bytes_eq x y then d else b y

module _ (x : List ℕ) (P : Valuation → Type 0) (m : Machine P) where
  -- a number with its least digit
  digit-apart : (t : Bool) (n k : ℕ) (d c : Bool) → cond t (2 * n + digit d) (2 * k + digit c) ≡ 2 * cond t n k + digit (cond t d c)
  digit-apart true n k d c = refl
  digit-apart false n k d c = refl

  apart : (n : ℕ) (d : Bool) (b : Letter) (v : Valuation) → AreSameAt m.names (with_number x (2 * n + digit d) (shifted_in b v)) (shifted_in (with_digit x d b) (with_number x n v))
  apart n d b v = same-at m.names (with_number x (2 * n + digit d) (shifted_in b v)) (shifted_in (with_digit x d b) (with_number x n v)) (λ y. digit-apart (bytes_eq x y) n (v y) d (b y))

  goes-with : (s : m.State) (n : ℕ) (d : Bool) (b : Letter) (v : Valuation) → m.At s (with_number x (2 * n + digit d) (shifted_in b v)) ↔ m.At (m.next s (with_digit x d b)) (with_number x n v)
  goes-with s n d b v =
      let left = with_number x (2 * n + digit d) (shifted_in b v) in
      let right = shifted_in (with_digit x d b) (with_number x n v) in
      let same = apart n d b v in
      let on = m.goes s (with_digit x d b) (with_number x n v) in
      ((λ at. on.0 (m.depends s left right same at)), (λ at. m.depends s right left (turned m.names left right same) (on.1 at)))

  -- zeros beside it

  abbrev none : Letter
  none = λ y. false

  abbrev step : m.State → Bool → m.State
  step s d = m.next s (with_digit x d none)

  zeros-apart : (n : ℕ) (v w : Valuation) → ((y : List ℕ) → v y ≡ w y) → AreSameAt m.names (with_number x n v) (with_number x n w)
  zeros-apart n v w same = same-at m.names (with_number x n v) (with_number x n w) (λ y. ap (λ k. cond (bytes_eq x y) n k) (same y))

  step-with : (s : m.State) (n : ℕ) (d : Bool) → m.At s (with_number x (2 * n + digit d) zeros) ↔ m.At (step s d) (with_number x n zeros)
  step-with s n d =
      let same = zeros-apart (2 * n + digit d) zeros (shifted_in none zeros) (λ y. refl) in
      let on = goes-with s n d none zeros in
      let left = with_number x (2 * n + digit d) zeros in
      let right = with_number x (2 * n + digit d) (shifted_in none zeros) in
      ((λ at. on.0 (m.depends s left right same at)), (λ at. m.depends s right left (turned m.names left right same) (on.1 at)))

  all-zeros : AreSameAt m.names (with_number x 0 zeros) zeros
  all-zeros = same-at m.names (with_number x 0 zeros) zeros (λ y. both-zero (bytes_eq x y))
    where
      both-zero : (t : Bool) → cond {A = ℕ} t 0 0 ≡ 0
      both-zero true = refl
      both-zero false = refl

  abbrev both_digits : List Bool
  both_digits = true ∷ false ∷ []

  a-digit : (d : Bool) → Among d both_digits
  a-digit true = inl refl
  a-digit false = inr (inl refl)

  abbrev Final : m.State → Type 0
  Final s = m.At s zeros

  abbrev Good : m.State → Type 0
  Good s = (n : ℕ) × m.At s (with_number x n zeros)

  path-of : (k n : ℕ) (s : m.State) → n ≤ k → Among s m.states → m.At s (with_number x n zeros) → Reaches m.test both_digits step Final m.ends m.states s
  path-of zero n s small among at =
      let is : n ≡ 0 = omega (arith, small) in
      let P : ℕ → Type 0 = λ i. m.At s (with_number x i zeros) in ([], (among, m.depends s (with_number x 0 zeros) zeros all-zeros (subst P is at)))
  path-of (suc k) n s small among at =
      let d = odd n in
      let P : ℕ → Type 0 = λ i. m.At s (with_number x i zeros) in
      let on = (step-with s (n / 2) d).0 (subst P (odd-half n) at) in
      let rest = path-of k (n / 2) (step s d) (omega (arith, small)) (m.next_among s (with_digit x d none) among) on in
      (d ∷ rest.0, (among, a-digit d, rest.1))

  number-of-path : (ds : List Bool) (s : m.State) → Path m.test both_digits step Final m.ends m.states s ds → Good s
  number-of-path [] s path = (0, m.depends s zeros (with_number x 0 zeros) (turned m.names (with_number x 0 zeros) zeros all-zeros) path.1)
  number-of-path (d ∷ ds) s path =
      let rest = number-of-path ds (step s d) path.2 in (2 * rest.0 + digit d, (step-with s rest.0 d).1 rest.1)

  good-or : (s : m.State) → Among s m.states → Decided (Good s)
  good-or s among =
      ⊎_elim (λ found. inl (number-of-path found.0 s found.1)) (λ none. inr (λ good. none (path-of good.0 good.0 s (omega arith) among good.1))) (reached-or m.test both_digits step Final m.ends m.states s)

  -- a list of states says that some state of it does, at some number

  abbrev SomeAt : List m.State → Valuation → Type 0
  SomeAt within v = (s : m.State) × Among s within × Among s m.states × ((n : ℕ) × m.At s (with_number x n v))

  abbrev Leads : List m.State → Letter → m.State → Type 0
  Leads within b t = (s : m.State) × Among s m.states × (Among s within × ((m.next s (with_digit x true b) ≡ t) ⊎ (m.next s (with_digit x false b) ≡ t)))

  leads-or : (within : List m.State) (b : Letter) (t : m.State) → Decided (Leads within b t)
  leads-or within b t =
      some-or (λ s. Among s within × ((m.next s (with_digit x true b) ≡ t) ⊎ (m.next s (with_digit x false b) ≡ t)))
      (λ s. ⊎_elim (λ among. ⊎_elim (λ one. inl (among, inl one)) (λ not-one. ⊎_elim (λ other. inl (among, inr other)) (λ neither. inr (λ held. ⊎_elim not-one neither held.1)) (m.test (m.next s (with_digit x false b)) t)) (m.test (m.next s (with_digit x true b)) t))
      (λ lacks. inr (λ held. lacks held.0)) (among-or m.test s within)) m.states

  abbrev led : List m.State → Letter → List m.State
  led within b = picked (Leads within b) (leads-or within b) m.states

  either-digit : (s : m.State) (b : Letter) (d : Bool) → (m.next s (with_digit x true b) ≡ m.next s (with_digit x d b)) ⊎ (m.next s (with_digit x false b) ≡ m.next s (with_digit x d b))
  either-digit s b true = inl refl
  either-digit s b false = inr refl

  digit-found : (s t : m.State) (b : Letter) → (m.next s (with_digit x true b) ≡ t) ⊎ (m.next s (with_digit x false b) ≡ t) → (d : Bool) × (m.next s (with_digit x d b) ≡ t)
  digit-found s t b either = ⊎_elim (λ one. (true, one)) (λ other. (false, other)) either

  some-goes : (within : List m.State) (b : Letter) (v : Valuation) → SomeAt within (shifted_in b v) → SomeAt (led within b) v
  some-goes within b v found =
      let s = found.0 in
      let n = found.3.0 in
      let d = odd n in
      let P : ℕ → Type 0 = λ i. m.At s (with_number x i (shifted_in b v)) in
      let on = (goes-with s (n / 2) d b v).0 (subst P (odd-half n) found.3.1) in
      let t = m.next s (with_digit x d b) in
      let among = m.next_among s (with_digit x d b) found.2 in
      (t, picked-among (Leads within b) (leads-or within b) t m.states (s, found.2, (found.1, either-digit s b d)) among, among, (n / 2, on))

  some-came : (within : List m.State) (b : Letter) (v : Valuation) → SomeAt (led within b) v → SomeAt within (shifted_in b v)
  some-came within b v found =
      let t = found.0 in
      let leads = (among-picked (Leads within b) (leads-or within b) t m.states found.1).0 in
      let s = leads.0 in
      let step' = digit-found s t b leads.2.1 in
      let n = found.3.0 in
      let P : m.State → Type 0 = λ r. m.At r (with_number x n v) in
      (s, leads.2.0, leads.1, (2 * n + digit step'.0, (goes-with s n step'.0 b v).1 (subst P (sym step'.1) found.3.1)))

  abbrev begun : List m.State
  begun = picked (λ s. m.start ≡ s) (m.test m.start) m.states

  some-depends : (within : List m.State) (v w : Valuation) → AreSameAt m.names v w → SomeAt within v → SomeAt within w
  some-depends within v w same found = (found.0, found.1, found.2, (found.3.0, m.depends found.0 (with_number x found.3.0 v) (with_number x found.3.0 w) (kept m.names found.3.0 same) found.3.1))
    where
      kept : (names : List (List ℕ)) (n : ℕ) → AreSameAt names v w → AreSameAt names (with_number x n v) (with_number x n w)
      kept [] n same = tt
      kept (y ∷ names) n same = (ap (λ k. cond (bytes_eq x y) n k) same.0, kept names n same.1)

  some-ends : (within : List m.State) → Decided (SomeAt within zeros)
  some-ends within =
      ⊎_elim (λ found. inl (found.0, found.2.0, found.1, found.2.1)) (λ lacks. inr (λ found. lacks (found.0, found.2, (found.1, found.3))))
      (some-among m.states (λ s among. ⊎_elim (λ inside. ⊎_elim (λ good. inl (inside, good)) (λ bad. inr (λ held. bad held.1)) (good-or s among)) (λ outside. inr (λ held. outside held.0)) (among-or m.test s within)))
    where
      some-among : (states : List m.State) → ((s : m.State) → Among s states → Decided (Among s within × Good s)) → Decided ((s : m.State) × Among s states × (Among s within × Good s))
      some-among [] each = inr (λ found. found.1)
      some-among (t ∷ states) each =
          ⊎_elim (λ here. inl (t, inl refl, here))
          (λ fails. ⊎_elim (λ found. inl (found.0, inr found.1, found.2))
          (λ lacks. inr (λ found. ⊎_elim (λ same. fails (let P : m.State → Type 0 = λ s. Among s within × Good s in subst P (sym same) found.2)) (λ later. lacks (found.0, later, found.2)) found.1))
          (some-among states (λ s among. each s (inr among)))) (each t (inl refl))

  pub some-machine : Machine (λ v. (n : ℕ) × P (with_number x n v))
  some-machine = record {
    State = List m.State;
    test = lists-tested m.test;
    states = sublists m.states;
    start = begun;
    next = led;
    At = SomeAt;
    names = m.names;
    start_among = picked-sublist (λ s. m.start ≡ s) (m.test m.start) m.states;
    next_among = λ within b among. picked-sublist (Leads within b) (leads-or within b) m.states;
    starts = λ v. (
      (λ some. (m.start, picked-among (λ s. m.start ≡ s) (m.test m.start) m.start m.states refl m.start_among, m.start_among, (some.0, (m.starts (with_number x some.0 v)).0 some.1))),
      (λ found. let same = (among-picked (λ s. m.start ≡ s) (m.test m.start) found.0 m.states found.1).0 in
          let Q : m.State → Type 0 = λ s. m.At s (with_number x found.3.0 v) in (found.3.0, (m.starts (with_number x found.3.0 v)).1 (subst Q (sym same) found.3.1))),
    );
    goes = λ within b v. (some-goes within b v, some-came within b v);
    ends = some-ends;
    depends = some-depends;
  }
