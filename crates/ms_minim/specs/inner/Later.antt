-- What stays true of a quotient when more classes get numbers: the laws that an exploration asks of it.
use Rattle.std.proofs.Common.{ℕ, ◌≤◌, List, length, refl, sym, ap, subst, ◌∙◌}
use Rattle.std.proofs.Math.Nat.{le_refl, le_trans}
use Rattle.ms_arena.specs.Target.{Extends}
use Rattle.ms_arena.proofs.Appending.{Extends-same, Extends-further, slice_get-extends}
use Rattle.ms_arena.proofs.Lists.{slice_get-held}
use Rattle.ms_arena.specs.Diagram.{leaf_of}
use Rattle.ms_logic_words.specs.declared.sign.Sign.{Sign}
use Rattle.ms_logic_words.specs.Content.{Content}
use Rattle.ms_dfa_explore.specs.Explored.{AreMore}
use Rattle.ms_minim.specs.inner.Partition.{next_by}
use Rattle.ms_minim.specs.inner.Quotient.{Quotienting, IsLaterQuotient, IsNumberOf, IsMemberOf, sign_of_number, quotient_findings}

pub quotient_later_itself : (quotient : Quotienting) → IsLaterQuotient quotient quotient
quotient_later_itself quotient = record { same = refl; pairs = Extends-same quotient.pairs; count = le_refl (length quotient.pairs) }

pub quotient_later_later : (one two three : Quotienting) → IsLaterQuotient one two → IsLaterQuotient two three → IsLaterQuotient one three
quotient_later_later one two three first second = record {
  same = second.same ∙ ap (λ (q : Quotienting). record q { pairs = three.pairs }) first.same;
  pairs = Extends-further one.pairs two.pairs three.pairs first.pairs second.pairs;
  count = le_trans first.count second.count;
}

module _ (content : Content Sign) (classes members : List ℕ) (early late : List (ℕ × ℕ)) (extends : Extends early late) where
  -- a number stays that of its class
  pub number_later : (state number : ℕ) → IsNumberOf classes early state number → IsNumberOf classes late state number
  number_later state number was = record {
    class = was.class;
    class_is = was.class_is;
    number_is = slice_get-extends early late extends number (was.class, 0) was.number_is;
  }

  member_later : (number state : ℕ) → IsMemberOf members early number state → IsMemberOf members late number state
  member_later number state was = record {
    class = was.class;
    number_is = slice_get-extends early late extends number (was.class, 0) was.number_is;
    member_is = was.member_is;
  }

  more_found : length early ≤ length late → AreMore (quotient_findings content classes members early) (quotient_findings content classes members late)
  more_found count = record {
    count = count;
    starts = λ bits number right. number_later (leaf_of content.nodes content.start bits) number right;
    steps = λ state found bits number right. record {
      state = right.state;
      member = member_later state right.state right.member;
      leads = number_later (next_by content right.state bits) number right.leads;
    };
    signs = λ state found.
        let held = slice_get-held early state found in
        ap (sign_of_number content members) (slice_get-extends early late extends state held.0 held.1 ∙ sym held.1);
    most_nodes = refl;
  }

pub quotient_later_findings : (early late : Quotienting) → IsLaterQuotient early late
    → AreMore (quotient_findings early.content early.classes early.members early.pairs) (quotient_findings late.content late.classes late.members late.pairs)
quotient_later_findings early late later =
    subst (λ (q : Quotienting). AreMore (quotient_findings early.content early.classes early.members early.pairs) (quotient_findings q.content q.classes q.members q.pairs)) (sym later.same)
    (more_found early.content early.classes early.members early.pairs late.pairs later.pairs later.count)
