-- What is reached by steps within finitely many choices is decided: no path needs to come to a choice twice.
use Rattle.std.proofs.Common.{◌≡◌, ℕ, ◌≤◌, zero, suc, ◌⊎◌, inl, inr, ⊎_elim, List, [], ◌∷◌, length, subst, arith}
use Rattle.ms_logic_machines.specs.Machine.{IsTested}
use Rattle.ms_logic_machines.proofs.Choices.{Decided, Among, among-or, among-picked, picked-among, opposite, some-or, without, shorter-without}

module _ {S D : Type 0} (test : IsTested S) (letters : List D) (step : S → D → S) (Final : S → Type 0) (final-or : (s : S) → Decided (Final s)) where
  -- a path from s within some choices, that ends where it may
  abbrev pub Path : List S → S → List D → Type 0
  Path within s [] = Among s within × Final s
  Path within s (d ∷ ds) = Among s within × Among d letters × Path within (step s d) ds

  abbrev pub Reaches : List S → S → Type 0
  Reaches within s = (ds : List D) × Path within s ds

  wider : (x : S) (within : List S) (s : S) (ds : List D) → Path (without test x within) s ds → Path within s ds
  wider x within s [] path = ((among-picked (λ y. ¬ (y ≡ x)) (λ y. opposite (test y x)) s within path.0).1, path.1)
  wider x within s (d ∷ ds) path = ((among-picked (λ y. ¬ (y ≡ x)) (λ y. opposite (test y x)) s within path.0).1, path.1, wider x within (step s d) ds path.2)

  kept : (x : S) (within : List S) (s : S) → (¬ (s ≡ x)) → Among s within → Among s (without test x within)
  kept x within s differs among = picked-among (λ y. ¬ (y ≡ x)) (λ y. opposite (test y x)) s within differs among

  -- a path does without x, or there is one from x that is no longer
  cut : (x : S) (within : List S) (s : S) (ds : List D) → Path within s ds
      → Path (without test x within) s ds ⊎ ((es : List D) × (length es ≤ length ds) × Path within x es)
  cut x within s [] path =
      ⊎_elim (λ same. inr ([], omega arith, let P : S → Type 0 = λ t. Path within t [] in subst P same path))
      (λ differs. inl (kept x within s differs path.0, path.1)) (test s x)
  cut x within s (d ∷ ds) path =
      ⊎_elim (λ same. inr (d ∷ ds, omega arith, let P : S → Type 0 = λ t. Path within t (d ∷ ds) in subst P same path))
      (λ differs. ⊎_elim (λ rest. inl (kept x within s differs path.0, path.1, rest)) (λ found. inr (found.0, omega (arith, found.1), found.2))
      (cut x within (step s d) ds path.2)) (test s x)

  -- where no step leads on without s, no path from s leads anywhere
  stuck : (within : List S) (s : S) → (¬ Final s) → ((d : D) → Among d letters → ¬ Reaches (without test s within) (step s d)) → (n : ℕ) (ds : List D)
      → length ds ≤ n → Path within s ds → ⊥
  stuck within s ends none n [] short path = ends path.1
  stuck within s ends none zero (d ∷ ds) short path = absurd (omega (arith, short))
  stuck within s ends none (suc n) (d ∷ ds) short path =
      ⊎_elim (λ rest. none d path.1 (ds, rest)) (λ found. stuck within s ends none n found.0 (omega (arith, short, found.1)) found.2)
      (cut s within (step s d) ds path.2)

  on-from : (within : List S) (s : S) (d : D) → Among s within → Among d letters → Reaches (without test s within) (step s d) → Reaches within s
  on-from within s d among letter found = (d ∷ found.0, (among, letter, wider s within (step s d) found.0 found.1))

  no-start : (within : List S) (s : S) → (¬ Among s within) → (ds : List D) → Path within s ds → ⊥
  no-start within s none [] path = none path.0
  no-start within s none (d ∷ ds) path = none path.0

  -- by what is reached without s
  from-or : (within : List S) (s : S) → Among s within → ((t : S) → Decided (Reaches (without test s within) t)) → Decided (Reaches within s)
  from-or within s among on =
      ⊎_elim (λ ends. inl ([], (among, ends)))
      (λ goes. ⊎_elim (λ found. inl (on-from within s found.0 among found.1 found.2))
      (λ none. inr (λ found. stuck within s goes (λ d letter leads. none (d, letter, leads)) (length found.0) found.0 (omega arith) found.1))
      (some-or (λ d. Reaches (without test s within) (step s d)) (λ d. on (step s d)) letters)) (final-or s)

  reaches-or : (n : ℕ) (within : List S) (s : S) → length within ≤ n → Decided (Reaches within s)
  reaches-or zero within s short =
      ⊎_elim (λ among. absurd (omega (arith, short, shorter-without test s within among))) (λ none. inr (λ found. no-start within s none found.0 found.1))
      (among-or test s within)
  reaches-or (suc n) within s short =
      ⊎_elim (λ among. from-or within s among (λ t. reaches-or n (without test s within) t (omega (arith, short, shorter-without test s within among))))
      (λ none. inr (λ found. no-start within s none found.0 found.1)) (among-or test s within)

  pub reached-or : (within : List S) (s : S) → Decided (Reaches within s)
  reached-or within s = reaches-or (length within) within s (omega arith)
