-- Items with finitely many labels have an exact count: for one label after the other, an item with it is chosen if it is like none of
-- those chosen before.
use Rattle.std.proofs.Common.{◌≡◌, suc, inl, inr, ⊎_elim, List, [], ◌∷◌, length, slice_index_or, Any, All, AllPairs, refl, sym, ◌∙◌, arith}
use Rattle.std.proofs.lemmas.List.{get_or_default}
use Rattle.std.proofs.lemmas.List.Elements.{All-cons}
use Rattle.std.proofs.lemmas.List.Kept.{AllPairs-cons}
use Rattle.ms_logic_counts.specs.Counts.{AreCounted, IsTransitive, CountsExist}
use Rattle.ms_logic_machines.proofs.Choices.{Decided, Among, among-at}
use Rattle.ms_logic_counts.proofs.Doubts.{and-then, not-refuted, undecided-refuted}

module _ {A : Type 0} (AreAlike : A → A → Type 0) where
  -- an item is like one of those listed
  abbrev IsLikeOne : List A → A → Type 0
  IsLikeOne chosen item = Any (λ one. AreAlike item one) chosen

  like-later : (first : A) (chosen : List A) (item : A) → IsLikeOne chosen item → IsLikeOne (first ∷ chosen) item
  like-later first chosen item like = (suc like.0, like.1, omega (arith, like.2), like.3, like.4)

  like-first : (first : A) (chosen : List A) (item : A) → AreAlike item first → IsLikeOne (first ∷ chosen) item
  like-first first chosen item alike = (0, first, omega arith, refl, alike)

  unlike-each : (chosen : List A) (item : A) → (¬ IsLikeOne chosen item) → All (λ one. ¬ AreAlike item one) chosen
  unlike-each chosen item unlike k d within alike =
      unlike (k, slice_index_or chosen k d, within, get_or_default chosen k (slice_index_or chosen k d) d within, alike)

  module _ {Label : Type 0} (IsItem : A → Type 0) (label : A → Label) (transitive : IsTransitive AreAlike)
      (alike : (one other : A) → IsItem one → IsItem other → label one ≡ label other → AreAlike one other) where
    -- items, no two alike, such that each item with one of the labels is like one of them
    record AreChosen (labels : List Label) : Type 0 where
      chosen : List A
      items : All IsItem chosen
      different : AllPairs (λ one other. ¬ AreAlike one other) chosen
      complete : (item : A) → IsItem item → Among (label item) labels → IsLikeOne chosen item

    abbrev HasItem : Label → Type 0
    HasItem l = (item : A) × IsItem item × (label item ≡ l)

    with_none : (l : Label) (labels : List Label) → AreChosen labels → (¬ HasItem l) → AreChosen (l ∷ labels)
    with_none l labels are none = record {
      chosen = are.chosen;
      items = are.items;
      different = are.different;
      complete = λ item is. ⊎_elim (λ same. absurd (none (item, is, sym same))) (λ later. are.complete item is later);
    }

    with_item : (l : Label) (labels : List Label) (are : AreChosen labels) (has : HasItem l) → Decided (IsLikeOne are.chosen has.0) → AreChosen (l ∷ labels)
    with_item l labels are has (inl like) = record {
      chosen = are.chosen;
      items = are.items;
      different = are.different;
      complete = λ item is.
          ⊎_elim (λ same. (like.0, like.1, like.2, like.3, transitive item has.0 like.1 (alike item has.0 is has.1 (sym same ∙ sym has.2)) like.4))
          (λ later. are.complete item is later);
    }
    with_item l labels are has (inr unlike) = record {
      chosen = has.0 ∷ are.chosen;
      items = All-cons IsItem has.0 are.chosen has.1 are.items;
      different = AllPairs-cons (λ one other. ¬ AreAlike one other) has.0 are.chosen (unlike-each are.chosen has.0 unlike) are.different;
      complete = λ item is.
          ⊎_elim (λ same. like-first has.0 are.chosen item (alike item has.0 is has.1 (sym same ∙ sym has.2)))
          (λ later. like-later has.0 are.chosen item (are.complete item is later));
    }

    with_label : (l : Label) (labels : List Label) → AreChosen labels → Decided (HasItem l) → ¬ ¬ (AreChosen (l ∷ labels))
    with_label l labels are (inl has) = and-then undecided-refuted (λ like. not-refuted (with_item l labels are has like))
    with_label l labels are (inr none) = not-refuted (with_none l labels are none)

    choose : (labels : List Label) → ¬ ¬ (AreChosen labels)
    choose [] = not-refuted (record {
      chosen = [];
      items = λ k d within. absurd (omega (arith, within));
      different = λ i j d before within. absurd (omega (arith, within));
      complete = λ item is among. absurd among;
    })
    choose (l ∷ labels) = and-then (choose labels) (λ are. and-then undecided-refuted (λ has. with_label l labels are has))

    pub labels_are_counted : (labels : List Label) → ((item : A) → IsItem item → Among (label item) labels) → AreCounted AreAlike IsItem
    labels_are_counted labels listed = and-then (choose labels) (λ are. not-refuted (
      length are.chosen,
      record {
        chosen = are.chosen;
        items = are.items;
        different = are.different;
        complete = λ item is. are.complete item is (listed item is);
        count = refl;
      },
    ))

pub counts_exist : {A Label : Type 0} (AreAlike : A → A → Type 0) (IsItem : A → Type 0) → CountsExist AreAlike IsItem Label
counts_exist AreAlike IsItem transitive label labels labelling =
    labels_are_counted AreAlike IsItem label transitive labelling.alike labels
    (λ item is. among-at (label item) labels (labelling.listed item is))
