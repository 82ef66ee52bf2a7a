-- The full content of `true` over no variables, in WS1S, and the budgets that it fixes.
use Rattle.std.proofs.Common.{◌≡◌, ℕ, ◌+◌, ◌≤◌, Bool, List, [], ◌∷◌, refl, sym, ap, ap₂, subst, ◌∙◌, arith}
use Rattle.std.proofs.lemmas.List.Elements.{All-from_recursion}
use Rattle.ms_arena.specs.Diagram.{Bits, leaf_of}
use Rattle.ms_list.specs.declared.word.Word.{Word}
use Rattle.ms_logic.specs.Truth.{Answer}
use Rattle.ms_logic.specs.declared.mode.Mode.TheVariants.{Ws1s}
use Rattle.ms_logic_contents.proofs.FullContents.{full_contents_are_equal}
use Rattle.ms_logic_core.specs.CoreForm.{truth}
use Rattle.ms_logic_measures.specs.Budgets.{IsMeasureOf, IsWideningMeasure, budget}
use Rattle.ms_logic_measures.specs.CallMeasures.{LeadToPairs, LeaveSameOfBoth}
use Rattle.ms_logic_measures.specs.FullContent.{IsFullContent, part_count}
use Rattle.ms_logic_measures.specs.Starts.{IsStartOver, Start, left_by, narrowed, part_of_letter, some_truth_values, whole_word}
use Rattle.ms_logic_measures.specs.Steps.{constant}
use Rattle.ms_logic_measures.specs.inner.MeasuredContents.{number_content}
use Rattle.ms_logic_measures.proofs.Counting.{of_each_pair}
use Rattle.ms_logic_measures.proofs.FullOverNone.{full_number}
use Rattle.ms_logic_measures.proofs.Pigeonhole.{one_count}
use Rattle.ms_logic_words.specs.Content.{Content, last_state, sign_at, state_after}
use Rattle.ms_logic_words.specs.declared.sign.Sign.{Sign}
use Rattle.ms_logic_words.specs.declared.sign.Sign.TheVariants as sign
use Rattle.ms_logic_words.specs.inner.ContentExamples.{word}
use Rattle.ms_logic_words.specs.inner.Decoding.{decoded}
use Rattle.ms_logic_words.proofs.DecodedWords.{decoded_is_encoded}

-- one state, to which all words lead
after_letters : (letters : List (List Bool)) → state_after number_content 0 letters ≡ 0
unfolding leaf_of
after_letters [] = refl
after_letters (letter ∷ letters) = after_letters letters

last_of : (w : Word) → last_state number_content w ≡ 0
unfolding leaf_of
last_of w = after_letters w.letters

pub full_truth : IsFullContent [] Ws1s [] truth number_content
full_truth = record {
  covers = λ w listed. absurd (let below = listed.1 in omega (arith, below));
  canonical = full_number.canonical;
  same_mode = refl;
  same_variables = refl;
  values = λ w over.
      let encoding = decoded_is_encoded Ws1s [] w tt over tt in
      (sign.Yes, ap (sign_at number_content) (last_of w), (decoded Ws1s [] w, encoding.0, encoding.1, tt));
}

the_content : (content : Content Sign) → IsFullContent [] Ws1s [] truth content → content ≡ number_content
the_content content full = full_contents_are_equal [] Ws1s [] [] truth tt tt tt content number_content full full_truth

-- all starts lead it to one reference
leads_to_it : (start : Start) → IsStartOver [] start → (rest : Bits) → left_by number_content [] start rest ≡ 0
leads_to_it (some_truth_values values) over rest = absurd (omega (arith, over))
leads_to_it (whole_word w) over rest = last_of (narrowed [] w [])
leads_to_it (part_of_letter w bits) over rest = absurd (let below = over.1 in omega (arith, below))

alike : (one other : Start) → IsStartOver [] one → IsStartOver [] other → LeaveSameOfBoth number_content number_content [] one other
alike one other is is' =
    (λ rest. leads_to_it one is rest ∙ sym (leads_to_it other is' rest), λ rest. leads_to_it one is rest ∙ sym (leads_to_it other is' rest))

abbrev no_letters : Start
no_letters = whole_word (word [] [])

start_is_over : IsStartOver [] no_letters
start_is_over = record { truth = refl; letters = tt }

pub one_pair : LeadToPairs number_content number_content [] 1
one_pair = record {
  chosen = no_letters ∷ [];
  items = All-from_recursion (IsStartOver []) (no_letters ∷ []) (start_is_over, tt);
  different = of_each_pair (λ one other. LeaveSameOfBoth number_content number_content [] one other → ⊥) (no_letters ∷ []) (tt, tt);
  complete = λ start is. (0, no_letters, omega arith, refl, alike start no_letters is start_is_over);
  count = refl;
}

turned : (one other : Start) → LeaveSameOfBoth number_content number_content [] one other → LeaveSameOfBoth number_content number_content [] other one
turned one other same = (λ rest. sym (same.0 rest), λ rest. sym (same.1 rest))

one_like_another : (one other three : Start) → LeaveSameOfBoth number_content number_content [] one other → LeaveSameOfBoth number_content number_content [] other three
    → LeaveSameOfBoth number_content number_content [] one three
one_like_another one other three first second = (λ rest. first.0 rest ∙ second.0 rest, λ rest. first.1 rest ∙ second.1 rest)

few_pairs : (m : ℕ) → LeadToPairs number_content number_content [] m → m ≡ 1
few_pairs m pairs = one_count (LeaveSameOfBoth number_content number_content []) (IsStartOver []) turned one_like_another m 1 pairs one_pair

-- so the budget of the constant is 2,304, and that of a root 6,400
pub constant_budget : (files : List (Content Answer)) (m r : ℕ) → IsMeasureOf [] Ws1s files (constant truth) m r → budget m r ≤ 6400
constant_budget files m r measure =
    let made : m ≡ 1 = measure.0.2 ∙ ap part_count (the_content measure.0.0 measure.0.1) in
    subst (λ (n : ℕ). n ≤ 6400) (sym (ap₂ budget made measure.1)) (omega arith)

pub root_budget : (m r : ℕ) → IsWideningMeasure [] Ws1s truth [] m r → budget m r ≤ 6400
root_budget m r measure =
    let one = the_content measure.content measure.of_formula in
    let other = the_content measure.encodings measure.of_true in
    let P : Content Sign → Type 0 = λ content. LeadToPairs content measure.encodings [] m in
    let Q : Content Sign → Type 0 = λ content. LeadToPairs number_content content [] m in
    let made = few_pairs m (subst Q other (subst P one measure.made)) in
    let read : r ≡ 2 = measure.read ∙ ap₂ (λ (a : Content Sign) (b : Content Sign). part_count a + part_count b) one other in
    subst (λ (n : ℕ). n ≤ 6400) (sym (ap₂ budget made read)) (omega arith)
