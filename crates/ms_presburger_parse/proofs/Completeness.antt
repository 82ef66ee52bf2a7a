-- The machine reads the symbols of each grammatical formula as that formula.
use Rattle.std.proofs.Common.{◌≡◌, ℕ, suc, ◌≤◌, true, false, List, [], ◌∷◌, ◌++◌, Some, refl, ap, subst, arith, le_refl}
use Rattle.ms_logic.specs.declared.mode.Rel.{Rel}
use Rattle.ms_presburger.specs.declared.linear.Part.{Part}
use Rattle.ms_presburger.specs.Tree.{Arithmetic, truth, falsity, comparison, brackets, negation, conjunction, disjunction, implication, equivalence, quantified, Arithmetics, no_arithmetics, more_arithmetics}
use Rattle.ms_presburger.specs.View.{arithmetics}
use Rattle.ms_parse_stack.specs.declared.junction.Junction.{Junction}
use Rattle.ms_parse_stack.specs.declared.junction.Junction.TheVariants.{Conjunction, Disjunction}
use Rattle.ms_parse_stack.specs.inner.Frames.{behind_prefix}
use Rattle.ms_parse_stack.specs.inner.Machine.{done, within}
use Rattle.ms_parse_stack.proofs.Completeness as reading
use Rattle.ms_parse_stack.proofs.Completeness.{IsRead, AreRead, IsReader, IsStrongBefore}
use Rattle.ms_parse_stack.proofs.Soundness.{IsPart}
use Rattle.ms_presburger_parse.specs.Grammar.{spelled, left_level, right_level, binary_level, junction_level, level, ends_open, compares, HasOne, HasTwo, IsClosedBefore, IsGrammatical, AreOperands}
use Rattle.ms_presburger_parse.specs.Symbol.{semicolon}
use Rattle.ms_presburger_parse.specs.declared.operator.Binary.{Binary}
use Rattle.ms_presburger_parse.specs.declared.operator.Binary.TheVariants.{Equivalence, Implication}
use Rattle.ms_presburger_parse.specs.declared.operator.Prefix.{Prefix}
use Rattle.ms_presburger_parse.specs.declared.operator.Prefix.TheVariants.{Negation, Quantifier}
use Rattle.ms_presburger_parse.specs.inner.Machine.{Frame, machine, action, run, start, binary, joined, on_right, added}
use Rattle.ms_presburger_parse.proofs.Soundness.{IsSoundPrefix, grammar, sound_grammar}
use Rattle.ms_presburger_parse.proofs.Spellings.{before, spelling, is_spelling}
use Rattle.ms_presburger_parse.proofs.Strength.{strength, closed_strength, strength-prefixed, strength-binary, strength-joined}
use Rattle.ms_presburger_parse.proofs.Sums.{comparison_read, names_read}

prefix_acts : (op : Prefix) (frames : List Frame) → IsSoundPrefix op → run (within frames machine.wanted) (before op) ≡ within (behind_prefix op ∷ frames) machine.wanted
prefix_acts Negation frames sound = refl
prefix_acts (Quantifier q xs) frames sound = names_read frames q xs sound

level_binary : (op : Binary) (f h : Arithmetic) → level (binary op f h) ≤ binary_level op
level_binary Equivalence f h = le_refl _
level_binary Implication f h = le_refl _

level_joined : (op : Junction) (fs : List Arithmetic) → level (joined op fs) ≤ junction_level op
level_joined Conjunction fs = le_refl _
level_joined Disjunction fs = le_refl _

reader : IsReader machine grammar spelling action
reader = record {
  infix_acts = λ op. refl;
  joining_acts = λ op. refl;
  close_acts = refl;
  end_acts = refl;
  open_acts = λ frames. refl;
  prefix_acts = prefix_acts;
  holding_operand = λ f. refl;
  level_binary = level_binary;
  level_joined = level_joined;
  weak_prefixed = λ least op f part wide. (omega (arith, wide, strength-prefixed op f), omega (arith, wide, strength-prefixed op f));
  weak_binary = λ least op f h part wide. (omega (arith, wide, strength-binary op f h), omega (arith, wide, strength-binary op f h));
  weak_joined = λ least op fs h part wide. (omega (arith, wide, strength-joined op fs h), omega (arith, wide, strength-joined op fs h));
}

abbrev Reads : Arithmetic → Type 0
Reads f = IsRead machine grammar spelling action f

abbrev items : Arithmetics → List Arithmetic
items no_arithmetics = []
items (more_arithmetics f fs) = f ∷ items fs

arithmetics-items : (fs : Arithmetics) → arithmetics (items fs) ≡ fs
arithmetics-items no_arithmetics = refl
arithmetics-items (more_arithmetics f fs) = ap (more_arithmetics f) (arithmetics-items fs)

comparison_reads : (r : Rel) (left right : List Part) → compares r ≡ true → HasOne left → HasOne right → Reads (comparison r left right)
comparison_reads r left right good some some' frames fits =
    let h = comparison_read frames r left right good some some' in
    record {
      stack = frames;
      place = added (on_right r left) h.before h.last;
      held = comparison r left right;
      is = h.is;
      has = ap (λ x. Some (comparison r left x)) h.whole;
      settles = λ least enough. refl;
    }

-- a left operand is as strong as its operator asks
left_strong : (least : ℕ) (f : Arithmetic) → least ≤ level f → ends_open f ≡ false → IsGrammatical f → least ≤ strength f
left_strong least f enough shut good = omega (arith, closed_strength f good shut)

strong_before : (least : ℕ) (fs : Arithmetics) (f : Arithmetic) → least ≤ level f → IsClosedBefore fs f → IsGrammatical f → IsStrongBefore machine grammar spelling action least (items fs) f
strong_before least no_arithmetics f enough shut good = tt
strong_before least (more_arithmetics h hs) f enough shut good = left_strong least f enough shut good

prefixed_read : (op : Prefix) (f : Arithmetic) → IsSoundPrefix op → IsPart machine grammar (machine.operators.prefix_operand op) f → Reads f → Reads (machine.operators.prefixed op f)
prefixed_read op f sound part read = reading.read_prefixed machine grammar spelling action sound_grammar is_spelling reader op f sound part read

binary_read : (op : Binary) (f h : Arithmetic) → left_level op ≤ level f → ends_open f ≡ false → IsGrammatical f → right_level op ≤ level h → IsGrammatical h → Reads f → Reads h → Reads (binary op f h)
binary_read op f h enough shut good enough' good' left right =
    reading.read_binary machine grammar spelling action sound_grammar is_spelling reader op f h (left_strong (left_level op) f enough shut good) (record { enough = enough'; grammatical = good' }) left right

joined_read : (op : Junction) (fs : Arithmetics) → HasTwo fs → AreRead machine grammar spelling action (suc (junction_level op)) (items fs) → Reads (joined op (items fs))
joined_read op no_arithmetics two read = absurd two
joined_read op (more_arithmetics f no_arithmetics) two read = absurd two
joined_read op (more_arithmetics f (more_arithmetics h hs)) two read = reading.read_joined machine grammar spelling action sound_grammar is_spelling reader op f (h ∷ items hs) tt read

mutual
  pub reads : (f : Arithmetic) → IsGrammatical f → Reads f
  reads truth good = λ frames fits. reading.holds_itself machine grammar spelling action sound_grammar is_spelling reader frames truth
  reads falsity good = λ frames fits. reading.holds_itself machine grammar spelling action sound_grammar is_spelling reader frames falsity
  reads (comparison r left right) good = comparison_reads r left right good.0 good.1 good.2
  reads (brackets f) good = reading.read_brackets machine grammar spelling action sound_grammar is_spelling reader f (reads f good)
  reads (negation f) good = prefixed_read Negation f tt (record { enough = good.0; grammatical = good.1 }) (reads f good.1)
  reads (conjunction fs) good = subst (λ x. Reads (conjunction x)) (arithmetics-items fs) (joined_read Conjunction fs good.0 (reads_each (suc (junction_level Conjunction)) fs good.1))
  reads (disjunction fs) good = subst (λ x. Reads (disjunction x)) (arithmetics-items fs) (joined_read Disjunction fs good.0 (reads_each (suc (junction_level Disjunction)) fs good.1))
  reads (implication f h) good = binary_read Implication f h good.0 good.1 good.2 good.3 good.4 (reads f good.2) (reads h good.4)
  reads (equivalence f h) good = binary_read Equivalence f h good.0 good.1 good.2 good.3 good.4 (reads f good.2) (reads h good.4)
  reads (quantified q xs f) good = prefixed_read (Quantifier q xs) f good.0 (record { enough = omega arith; grammatical = good.1 }) (reads f good.1)

  reads_each : (least : ℕ) (fs : Arithmetics) → AreOperands least fs → AreRead machine grammar spelling action least (items fs)
  reads_each least no_arithmetics good = tt
  reads_each least (more_arithmetics f fs) good =
      (record { enough = good.0; grammatical = good.2 }, reads f good.2, strong_before least fs f good.0 good.1 good.2, reads_each least fs good.3)

-- the whole, with its semicolon
pub reads_whole : (f : Arithmetic) → IsGrammatical f → run start (spelled f ++ semicolon ∷ []) ≡ done f
reads_whole f good = reading.reads_whole machine grammar spelling action sound_grammar is_spelling reader f (reads f good)
