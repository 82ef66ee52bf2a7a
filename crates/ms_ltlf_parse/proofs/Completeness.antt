-- The machine reads the symbols of each grammatical formula as that formula.
use Rattle.std.proofs.Common.{◌≡◌, ℕ, suc, ◌<◌, ◌≤◌, List, [], ◌∷◌, ◌++◌, length, get_or, refl, sym, ap, subst, arith}
use Rattle.ms_ltlf.specs.Tree.{Temporal, truth, falsity, proposition, brackets, negation, conjunction, disjunction, implication, equivalence, next, weak_next, eventually, always, until, release, Temporals, no_temporals, more_temporals, IsOver, AreOver}
use Rattle.ms_ltlf.specs.View.{temporals}
use Rattle.ms_parse_stack.specs.declared.junction.Junction.{Junction}
use Rattle.ms_parse_stack.specs.declared.junction.Junction.TheVariants.{Conjunction, Disjunction}
use Rattle.ms_parse_stack.specs.inner.Machine.{done, within}
use Rattle.ms_parse_stack.proofs.Completeness as reading
use Rattle.ms_parse_stack.proofs.Completeness.{Holds, IsRead, AreRead, IsReader, IsStrongBefore}
use Rattle.ms_ltlf_parse.specs.Grammar.{Names, spelled, left_level, right_level, junction_level, prefix_level, level, IsGrammatical, AreOperands, HasTwo}
use Rattle.ms_ltlf_parse.specs.Symbol.{semicolon}
use Rattle.ms_ltlf_parse.specs.declared.operator.Binary.{Binary}
use Rattle.ms_ltlf_parse.specs.declared.operator.Binary.TheVariants.{Equivalence, Implication, Until, Release}
use Rattle.ms_ltlf_parse.specs.declared.operator.Prefix.{Prefix}
use Rattle.ms_ltlf_parse.specs.declared.operator.Prefix.TheVariants.{Negation, Next, WeakNext, Eventually, Always}
use Rattle.ms_ltlf_parse.specs.inner.Machine.{machine, prefixed, binary, joined, holding, action, run, start}
use Rattle.ms_ltlf_parse.proofs.Groupings.{level-prefixed, level-binary, level-joined, levelled}
use Rattle.ms_parse_stack.proofs.Fitting.{level_right}
use Rattle.ms_ltlf_parse.proofs.Soundness.{grammar, sound_grammar}
use Rattle.ms_ltlf_parse.proofs.Spellings.{spelling, is_spelling}

abbrev items : Temporals → List Temporal
items no_temporals = []
items (more_temporals f fs) = f ∷ items fs

temporals-items : (fs : Temporals) → temporals (items fs) ≡ fs
temporals-items no_temporals = refl
temporals-items (more_temporals f fs) = ap (more_temporals f) (temporals-items fs)

-- where each number is that of its name
module _ (names : Names) (number : List ℕ → ℕ) (numbers : (p : ℕ) → p < length names → number (get_or names p []) ≡ p) where
  reader : IsReader machine (grammar (length names)) (spelling names) (action number)
  reader = record {
    infix_acts = λ op. refl;
    joining_acts = λ op. refl;
    close_acts = refl;
    end_acts = refl;
    open_acts = λ frames. refl;
    prefix_acts = λ op frames sound. refl;
    holding_operand = λ f. refl;
    level_binary = λ op f h. omega (arith, level-binary op f h);
    level_joined = λ op fs. omega (arith, level-joined op fs);
    weak_prefixed = λ least op f part wide. (omega (arith, wide, level-prefixed op f), omega (arith, wide, level-prefixed op f, part.enough));
    weak_binary = λ least op f h part wide. (omega (arith, wide, level-binary op f h), omega (arith, wide, level-binary op f h, part.enough, level_right machine.operators levelled op));
    weak_joined = λ least op fs h part wide. (omega (arith, wide, level-joined op (fs ++ h ∷ [])), omega (arith, wide, level-joined op (fs ++ h ∷ []), part.enough));
  }

  abbrev Reads : Temporal → Type 0
  Reads f = IsRead machine (grammar (length names)) (spelling names) (action number) f

  abbrev EachRead : ℕ → List Temporal → Type 0
  EachRead least fs = AreRead machine (grammar (length names)) (spelling names) (action number) least fs

  prefixed_read : (op : Prefix) (f : Temporal) → prefix_level ≤ level f → IsGrammatical f → IsOver (length names) f → Reads f → Reads (prefixed op f)
  prefixed_read op f enough good named read =
      reading.read_prefixed machine (grammar (length names)) (spelling names) (action number) (sound_grammar (length names)) (is_spelling names) reader op f tt (record { enough = enough; grammatical = (good, named) }) read

  binary_read : (op : Binary) (f g : Temporal) → left_level op ≤ level f → right_level op ≤ level g → IsGrammatical g → IsOver (length names) g → Reads f → Reads g → Reads (binary op f g)
  binary_read op f g enough enough' good named left right =
      reading.read_binary machine (grammar (length names)) (spelling names) (action number) (sound_grammar (length names)) (is_spelling names) reader op f g enough (record { enough = enough'; grammatical = (good, named) }) left right

  joined_read : (op : Junction) (fs : Temporals) → HasTwo fs → EachRead (suc (junction_level op)) (items fs) → Reads (joined op (items fs))
  joined_read op no_temporals two read = absurd two
  joined_read op (more_temporals f no_temporals) two read = absurd two
  joined_read op (more_temporals f (more_temporals g gs)) two read =
      reading.read_joined machine (grammar (length names)) (spelling names) (action number) (sound_grammar (length names)) (is_spelling names) reader op f (g ∷ items gs) tt read

  strong_before : (least : ℕ) (fs : List Temporal) (f : Temporal) → least ≤ level f → IsStrongBefore machine (grammar (length names)) (spelling names) (action number) least fs f
  strong_before least [] f enough = tt
  strong_before least (g ∷ gs) f enough = enough

  leaf_read : (f : Temporal) → ((frames : List _) → run number (within frames machine.wanted) (spelled names f) ≡ within frames (holding f)) → Reads f
  leaf_read f is frames fits =
      subst (Holds machine (grammar (length names)) (spelling names) (action number) frames f) (sym (is frames))
      (reading.holds_itself machine (grammar (length names)) (spelling names) (action number) (sound_grammar (length names)) (is_spelling names) reader frames f)

  mutual
    pub reads : (f : Temporal) → IsGrammatical f → IsOver (length names) f → Reads f
    reads truth good named = leaf_read truth (λ frames. refl)
    reads falsity good named = leaf_read falsity (λ frames. refl)
    reads (proposition p) good named = leaf_read (proposition p) (λ frames. ap (λ q. within frames (holding (proposition q))) (numbers p named))
    reads (brackets f) good named =
        reading.read_brackets machine (grammar (length names)) (spelling names) (action number) (sound_grammar (length names)) (is_spelling names) reader f (reads f good named)
    reads (negation f) good named = prefixed_read Negation f good.0 good.1 named (reads f good.1 named)
    reads (conjunction fs) good named = subst (λ x. Reads (conjunction x)) (temporals-items fs) (joined_read Conjunction fs good.0 (reads_each (suc (junction_level Conjunction)) fs good.1 named))
    reads (disjunction fs) good named = subst (λ x. Reads (disjunction x)) (temporals-items fs) (joined_read Disjunction fs good.0 (reads_each (suc (junction_level Disjunction)) fs good.1 named))
    reads (implication f g) good named = binary_read Implication f g good.0 good.2 good.3 named.1 (reads f good.1 named.0) (reads g good.3 named.1)
    reads (equivalence f g) good named = binary_read Equivalence f g good.0 good.2 good.3 named.1 (reads f good.1 named.0) (reads g good.3 named.1)
    reads (next f) good named = prefixed_read Next f good.0 good.1 named (reads f good.1 named)
    reads (weak_next f) good named = prefixed_read WeakNext f good.0 good.1 named (reads f good.1 named)
    reads (eventually f) good named = prefixed_read Eventually f good.0 good.1 named (reads f good.1 named)
    reads (always f) good named = prefixed_read Always f good.0 good.1 named (reads f good.1 named)
    reads (until f g) good named = binary_read Until f g good.0 good.2 good.3 named.1 (reads f good.1 named.0) (reads g good.3 named.1)
    reads (release f g) good named = binary_read Release f g good.0 good.2 good.3 named.1 (reads f good.1 named.0) (reads g good.3 named.1)

    reads_each : (least : ℕ) (fs : Temporals) → AreOperands least fs → AreOver (length names) fs → EachRead least (items fs)
    reads_each least no_temporals good named = tt
    reads_each least (more_temporals f fs) good named =
        (record { enough = good.0; grammatical = (good.1, named.0) }, reads f good.1 named.0, strong_before least (items fs) f good.0, reads_each least fs good.2 named.1)

  -- the whole, with its semicolon
  pub reads_whole : (f : Temporal) → IsGrammatical f → IsOver (length names) f → run number start (spelled names f ++ semicolon ∷ []) ≡ done f
  reads_whole f good named =
      reading.reads_whole machine (grammar (length names)) (spelling names) (action number) (sound_grammar (length names)) (is_spelling names) reader f (reads f good named)
