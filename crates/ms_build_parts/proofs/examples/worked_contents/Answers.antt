use Rattle.std.proofs.Common.{◌≡◌, true, false, [], ◌∷◌, Some, refl, sym, ap, ◌∙◌, arith}
use Rattle.ms_arena.specs.Diagram.{leaf_of}
use Rattle.ms_logic.specs.inner.Examples.{set_P_and_Q}
use Rattle.ms_logic_measures.proofs.FullContents.{full_subset}
use Rattle.ms_logic_starts.specs.ContentStarts.{HaveDistinctNumbers}
use Rattle.ms_logic_starts.proofs.RisingLemmas.{rising_distinct}
use Rattle.ms_logic_words.specs.Content.{IsWordOver, sign_at}
use Rattle.ms_logic_words.specs.declared.sign.Sign.TheVariants.{Yes, No}
use Rattle.ms_logic_words.specs.inner.ContentExamples.{encodings_content, full_subset_content, word}
use Rattle.ms_logic_words.proofs.SubsetRuns.{last_of_subset, last_of_true}
use Rattle.ms_logic_words.proofs.SubsetWords.{is_within}
use Rattle.ms_minim_canonical.proofs.ContentLemmas.{IsClosed-content}
use Rattle.ms_build_parts.specs.SaySame.{SaySame}
use Rattle.ms_build_parts.proofs.Labels.{closed_contents}
use Rattle.ms_build_parts.proofs.examples.worked_contents.Goals as goal

pub returns-clause-other_names : goal.returns-clause-other_names
returns-clause-other_names c = record { orders = refl; signs = λ word over. refl }

pub returns-clause-other_orders : goal.returns-clause-other_orders
returns-clause-other_orders c same = (let orders = same.orders in let never : ⊥ = cc in never)

-- P is {0} and Q is empty
outside : IsWordOver set_P_and_Q (word [] ((true ∷ false ∷ []) ∷ []))
outside = record { truth = refl; letters = (refl, tt) }

no_and_yes : Some No ≡ Some Yes → ⊥
no_and_yes same = cc

says_otherwise : SaySame full_subset_content encodings_content → ⊥
unfolding is_within
says_otherwise same =
    let here = word [] ((true ∷ false ∷ []) ∷ []) in
    no_and_yes (sym (ap (sign_at full_subset_content) (last_of_subset here outside)) ∙ sym (same.signs here outside) ∙ ap (sign_at encodings_content) (last_of_true here))

pub returns-clause-other_signs : goal.returns-clause-other_signs
returns-clause-other_signs c same = says_otherwise same

distinct : HaveDistinctNumbers set_P_and_Q
distinct = rising_distinct set_P_and_Q (omega arith, (tt, tt))

pub returns-clause-measured : goal.returns-clause-measured
returns-clause-measured c =
    let canonical = full_subset.canonical in
    record {
      ordered = canonical.rules.ordered;
      closed = IsClosed-content full_subset_content canonical.rules;
      own = distinct;
      reached = canonical.states_reached;
      differ = canonical.states_differ;
      is_canonical = canonical;
      distinct = distinct;
      same = record { orders = refl; signs = λ word over. refl };
    }

pub returns-clause-not_measured : goal.returns-clause-not_measured
returns-clause-not_measured c is = says_otherwise is.same

pub returns-clause-four_labels : goal.returns-clause-four_labels
returns-clause-four_labels c = (let canonical = full_subset.canonical in closed_contents full_subset_content canonical.rules.ordered (IsClosed-content full_subset_content canonical.rules))

pub returns-clause-few_labels : goal.returns-clause-few_labels
returns-clause-few_labels c is = (let never = is.states in omega (arith, never))

pub returns-clause-behind_start : goal.returns-clause-behind_start
unfolding leaf_of
returns-clause-behind_start c = refl

pub returns-clause-behind_letter : goal.returns-clause-behind_letter
unfolding leaf_of
returns-clause-behind_letter c = refl

pub returns-clause-behind_nothing : goal.returns-clause-behind_nothing
returns-clause-behind_nothing c = refl
