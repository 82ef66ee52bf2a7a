-- The worked examples: the runs of the files over P and Q, and the value that they give.
use Rattle.std.proofs.Common.{◌≡◌, ℕ, Bool, true, false, cond, List, [], ◌∷◌, length, get_or, codes, Some, refl, sym, ◌∙◌, ap, arith}
use Rattle.std.specs.List.{list_all}
use Rattle.std.proofs.lemmas.Bool.{false≢true}
use Rattle.std.proofs.lemmas.Option.{same_Some}
use Rattle.ms_arena.specs.Diagram.{leaf_of}
use Rattle.ms_dfa.specs.Files.{content_of_file, file_sign}
use Rattle.ms_dfa.specs.declared.plain.FileSign.{FileSign}
use Rattle.ms_dfa.specs.declared.plain.FileSign.TheVariants.{Plus, Minus, Zero}
use Rattle.ms_dfa.specs.declared.plain.FileVersion.{FileVersion}
use Rattle.ms_dfa.specs.declared.plain.FileVersion.TheVariants as versions
use Rattle.ms_list.specs.declared.word.Word.{Word}
use Rattle.ms_logic.specs.declared.assignment.Value.{Value}
use Rattle.ms_logic.specs.declared.assignment.Value.TheVariants.{Truth, Number, Set}
use Rattle.ms_logic.specs.declared.mode.Mode.TheVariants.{M2lStr, Ws1s}
use Rattle.ms_logic_words.specs.declared.sign.Sign.{Sign}
use Rattle.ms_logic_words.specs.declared.sign.Sign.TheVariants as sign
use Rattle.ms_logic.specs.Assignment.{Env, IsAssignment}
use Rattle.ms_logic_words.specs.Canonical.{HaveSameSigns}
use Rattle.ms_logic_words.specs.Content.{Content, AreLetters, IsWordOver, first_state, last_state, next_state, sign_at, sign_of, state_after}
use Rattle.ms_logic_words.specs.inner.Decoding.{decoded}
use Rattle.ms_logic.specs.inner.Examples.{naturals, nothing_given, set_P, set_P_and_Q, set_Q, subset, undecided}
use Rattle.ms_logic_words.specs.inner.ContentExamples.{word}
use Rattle.ms_logic.specs.FiniteSet.{is_member}
use Rattle.ms_logic.specs.Tree.{Form, negation}
use Rattle.ms_logic_words.specs.Word.{Encodes}
use Rattle.ms_logic_words.proofs.SubsetContent.{subset_content_canonical}
use Rattle.ms_logic_words.proofs.SubsetWords.{decoded_P_and_Q, decoded_within, is_within}
use Rattle.ms_logic_words.proofs.WordLaws.{encoding_is_over, encoding_is_unique}
use Rattle.ms_build_source.specs.inner.Examples.{P_and_Q, second_subset_file, subset_file, subset_file_with}
use Rattle.ms_build_source.specs.Values.{GivesValue, IsFileOf, content_over, form_meaning}

-- runs, whatever the two signs are
module _ (inside beyond : FileSign) where
  abbrev runs : Content FileSign
  runs = content_over set_P_and_Q (subset_file_with inside beyond)

  from_first : (a b : Bool) → next_state runs 0 (a ∷ b ∷ []) ≡ cond a (cond b 0 1) 0
  unfolding leaf_of
  from_first true true = refl
  from_first true false = refl
  from_first false true = refl
  from_first false false = refl

  from_second : (letter : List Bool) → next_state runs 1 letter ≡ 1
  unfolding leaf_of
  from_second letter = refl

  after_second : (letters : List (List Bool)) → state_after runs 1 letters ≡ 1
  after_second [] = refl
  after_second (letter ∷ letters) = ap (λ s. state_after runs s letters) (from_second letter) ∙ after_second letters

  after_first : (letters : List (List Bool)) → AreLetters set_P_and_Q letters → state_after runs 0 letters ≡ cond (is_within letters) 0 1
  unfolding is_within
  after_first [] are = refl
  after_first ([] ∷ letters) are = absurd (let short = are.0 in omega (arith, short))
  after_first ((a ∷ []) ∷ letters) are = absurd (let short = are.0 in omega (arith, short))
  after_first ((a ∷ b ∷ c ∷ more) ∷ letters) are = absurd (let long = are.0 in omega (arith, long))
  after_first ((true ∷ true ∷ []) ∷ letters) are = ap (λ s. state_after runs s letters) (from_first true true) ∙ after_first letters are.1
  after_first ((true ∷ false ∷ []) ∷ letters) are = ap (λ s. state_after runs s letters) (from_first true false) ∙ after_second letters
  after_first ((false ∷ true ∷ []) ∷ letters) are = ap (λ s. state_after runs s letters) (from_first false true) ∙ after_first letters are.1
  after_first ((false ∷ false ∷ []) ∷ letters) are = ap (λ s. state_after runs s letters) (from_first false false) ∙ after_first letters are.1

  at_start : (values : List Bool) → first_state runs values ≡ 0
  unfolding leaf_of
  at_start values = refl

  last_is : (w : Word) → IsWordOver set_P_and_Q w → last_state runs w ≡ cond (is_within w.letters) 0 1
  last_is w over = ap (λ s. state_after runs s w.letters) (at_start w.truth) ∙ after_first w.letters over.letters

  -- the sign of a word, by whether some letter has the bit 1 for P and 0 for Q
  sign_inside : (w : Word) → IsWordOver set_P_and_Q w → is_within w.letters ≡ true → sign_of runs w ≡ Some inside
  sign_inside w over is = ap (sign_at runs) (last_is w over ∙ ap (λ b. cond b 0 1) is)

  sign_beyond : (w : Word) → IsWordOver set_P_and_Q w → is_within w.letters ≡ false → sign_of runs w ≡ Some beyond
  sign_beyond w over is = ap (sign_at runs) (last_is w over ∙ ap (λ b. cond b 0 1) is)

members_of : Value → List ℕ
members_of (Truth b) = []
members_of (Number n) = []
members_of (Set members) = members

-- P is a subset of Q at what a word encodes where no letter has the bit 1 for P and 0 for Q
within_at : (w : Word) (e : Env) → IsAssignment Ws1s set_P_and_Q e → Encodes set_P_and_Q w e →
    list_all (λ n. is_member n (e.set 1)) (e.set 0) ≡ is_within w.letters
unfolding members_of
within_at w e is encodes =
    let known = decoded_P_and_Q w (encoding_is_over set_P_and_Q w e encodes) in
    let d = decoded Ws1s set_P_and_Q w in
    let same = (encoding_is_unique Ws1s set_P_and_Q w e d is known.0 encodes known.1).1 in
    let P : e.set 0 ≡ d.set 0 = ap members_of same.0 in
    let Q : e.set 1 ≡ d.set 1 = ap members_of same.1.0 in
    ap (λ members. list_all (λ n. is_member n (e.set 1)) members) P
    ∙ (ap (λ members. list_all (λ n. is_member n members) (d.set 0)) Q ∙ decoded_within w)

-- each word over P and Q encodes an assignment
pub none_outside : (w : Word) → IsWordOver set_P_and_Q w → ¬ ((e : Env) × IsAssignment Ws1s set_P_and_Q e × Encodes set_P_and_Q w e) → ⊥
none_outside w over out = let known = decoded_P_and_Q w over in out (decoded Ws1s set_P_and_Q w, known.0, known.1)

abbrev subset_form : Form
subset_form = subset set_P set_Q

gives_subset : (version : FileVersion) → GivesValue version (form_meaning nothing_given subset_form) (content_over set_P_and_Q subset_file)
gives_subset version = record {
  right = λ w e is encodes. by_test w e (encoding_is_over set_P_and_Q w e encodes) (within_at w e is encodes) (is_within w.letters) refl;
  outside = λ w over out. absurd (none_outside w over out);
}
  where
    by_test : (w : Word) (e : Env) → IsWordOver set_P_and_Q w → list_all (λ n. is_member n (e.set 1)) (e.set 0) ≡ is_within w.letters →
        (within : Bool) → is_within w.letters ≡ within →
        (value : Sign) × (sign_of (runs Plus Minus) w ≡ Some (file_sign version value)) × form_meaning nothing_given subset_form e value
    by_test w e over is true within = (sign.Yes, sign_inside Plus Minus w over within, is ∙ within)
    by_test w e over is false within = (sign.No, sign_beyond Plus Minus w over within, λ holds. false≢true (sym within ∙ (sym is ∙ holds)))

gives_negation : GivesValue versions.One (form_meaning nothing_given (negation subset_form)) (content_over set_P_and_Q (subset_file_with Minus Plus))
gives_negation = record {
  right = λ w e is encodes. by_test w e (encoding_is_over set_P_and_Q w e encodes) (within_at w e is encodes) (is_within w.letters) refl;
  outside = λ w over out. absurd (none_outside w over out);
}
  where
    by_test : (w : Word) (e : Env) → IsWordOver set_P_and_Q w → list_all (λ n. is_member n (e.set 1)) (e.set 0) ≡ is_within w.letters →
        (within : Bool) → is_within w.letters ≡ within →
        (value : Sign) × (sign_of (runs Minus Plus) w ≡ Some (file_sign versions.One value)) × form_meaning nothing_given (negation subset_form) e value
    by_test w e over is true within = (sign.No, sign_inside Minus Plus w over within, is ∙ within)
    by_test w e over is false within = (sign.Yes, sign_beyond Minus Plus w over within, λ holds. false≢true (sym within ∙ (sym is ∙ holds)))

plus_is_not_minus : Plus ≡ Minus → ⊥
plus_is_not_minus same = cc

minus_is_not_plus : Minus ≡ Plus → ⊥
minus_is_not_plus same = cc

pub file_of_subset : IsFileOf versions.One Ws1s set_P_and_Q P_and_Q (form_meaning nothing_given subset_form) subset_file
file_of_subset = record {
  version_is = refl;
  mode_is = refl;
  orders = refl;
  names_are = refl;
  canonical = subset_content_canonical Plus Minus plus_is_not_minus;
  value = gives_subset versions.One;
}

pub file_of_second : IsFileOf versions.Two Ws1s set_P_and_Q P_and_Q (form_meaning nothing_given subset_form) second_subset_file
file_of_second = record {
  version_is = refl;
  mode_is = refl;
  orders = refl;
  names_are = refl;
  canonical = subset_content_canonical Plus Minus plus_is_not_minus;
  value = gives_subset versions.Two;
}

pub second_as_first : ¬ IsFileOf versions.One Ws1s set_P_and_Q P_and_Q (form_meaning nothing_given subset_form) second_subset_file
second_as_first file = let same = file.version_is in cc

pub first_as_second : ¬ IsFileOf versions.Two Ws1s set_P_and_Q P_and_Q (form_meaning nothing_given subset_form) subset_file
first_as_second file = let same = file.version_is in cc

pub file_of_negation : IsFileOf versions.One Ws1s set_P_and_Q P_and_Q (form_meaning nothing_given (negation subset_form)) (subset_file_with Minus Plus)
file_of_negation = record {
  version_is = refl;
  mode_is = refl;
  orders = refl;
  names_are = refl;
  canonical = subset_content_canonical Minus Plus minus_is_not_plus;
  value = gives_negation;
}

-- the empty word encodes two empty sets
abbrev pub nothing : Word
nothing = word [] []

pub empty_sets : IsAssignment Ws1s set_P_and_Q naturals
empty_sets = record { universe = refl; values = ((tt, tt), ((tt, tt), tt)) }

pub encodes_empty_sets : Encodes set_P_and_Q nothing naturals
encodes_empty_sets = record { truth = refl; letters = refl; room = omega arith; string = tt }

-- the sign of the empty word
empty_sign : (inside beyond : FileSign) → sign_of (runs inside beyond) nothing ≡ Some inside
unfolding leaf_of
empty_sign inside beyond = refl

said_by : (inside beyond : FileSign) (value : Sign) → sign_of (runs inside beyond) nothing ≡ Some (file_sign versions.One value) → inside ≡ file_sign versions.One value
said_by inside beyond value is = same_Some inside (file_sign versions.One value) (sym (empty_sign inside beyond) ∙ is)

pub signs_of_negation : ¬ GivesValue versions.One (form_meaning nothing_given (negation subset_form)) (content_over set_P_and_Q subset_file)
signs_of_negation gives = let said = gives.right nothing naturals empty_sets encodes_empty_sets in no_value said.0 (said_by Plus Minus said.0 said.1) said.2
  where
    no_value : (value : Sign) → Plus ≡ file_sign versions.One value → form_meaning nothing_given (negation subset_form) naturals value → ⊥
    no_value sign.Yes is means = means refl
    no_value sign.No is means = cc
    no_value sign.Undefined is means = cc
    no_value sign.Outside is means = means

pub signs_of_none : ¬ GivesValue versions.One (form_meaning nothing_given subset_form) (content_over set_P_and_Q (subset_file_with Zero Zero))
signs_of_none gives = let said = gives.right nothing naturals empty_sets encodes_empty_sets in no_value said.0 (said_by Zero Zero said.0 said.1) said.2
  where
    no_value : (value : Sign) → Zero ≡ file_sign versions.One value → form_meaning nothing_given subset_form naturals value → ⊥
    no_value sign.Yes is means = cc
    no_value sign.No is means = cc
    no_value sign.Undefined is means = means.0 refl
    no_value sign.Outside is means = means

one_sign : (w : Word) → IsWordOver set_P_and_Q w → (within : Bool) → is_within w.letters ≡ within → sign_of (runs Zero Zero) w ≡ Some Zero
one_sign w over true within = sign_inside Zero Zero w over within
one_sign w over false within = sign_beyond Zero Zero w over within

pub gives_undefined : GivesValue versions.One (form_meaning nothing_given undecided) (content_over set_P_and_Q (subset_file_with Zero Zero))
gives_undefined = record {
  right = λ w e is encodes. (sign.Undefined, one_sign w (encoding_is_over set_P_and_Q w e encodes) (is_within w.letters) refl, (λ holds. holds, λ holds. holds));
  outside = λ w over out. one_sign w over (is_within w.letters) refl;
}

same_signs : HaveSameSigns (content_of_file (subset_file_with Zero Zero)) 0 1
same_signs letters are = one (is_within letters) (after_first Zero Zero letters are) ∙ sym (ap (sign_at (runs Zero Zero)) (after_second Zero Zero letters))
  where
    one : (within : Bool) → state_after (runs Zero Zero) 0 letters ≡ cond within 0 1 → sign_at (runs Zero Zero) (state_after (runs Zero Zero) 0 letters) ≡ Some Zero
    one true is = ap (sign_at (runs Zero Zero)) is
    one false is = ap (sign_at (runs Zero Zero)) is

pub states_of_one_sign : ¬ IsFileOf versions.One Ws1s set_P_and_Q P_and_Q (form_meaning nothing_given undecided) (subset_file_with Zero Zero)
states_of_one_sign file = let same : 0 ≡ 1 = file.canonical.states_differ 0 1 (omega arith) (omega arith) same_signs in omega (arith, same)

pub file_of_another_mode : ¬ IsFileOf versions.One M2lStr set_P_and_Q P_and_Q (form_meaning nothing_given subset_form) subset_file
file_of_another_mode file = let same = file.mode_is in cc

pub names_turned_round : ¬ IsFileOf versions.One Ws1s set_P_and_Q (codes "Q" ∷ codes "P" ∷ []) (form_meaning nothing_given subset_form) subset_file
names_turned_round file =
    let letters : 80 ≡ 81 = ap (λ (names : List (List ℕ)). get_or (get_or names 0 []) 0 0) file.names_are in omega (arith, letters)

pub file_without_variables : ¬ IsFileOf versions.One Ws1s [] P_and_Q (form_meaning nothing_given subset_form) subset_file
file_without_variables file = let count : 2 ≡ 0 = ap length file.orders in omega (arith, count)
