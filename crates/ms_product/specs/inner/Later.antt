-- What stays true of a product when more pairs get numbers: the laws that an exploration asks of it.
use Rattle.std.proofs.Common.{◌≡◌, ℕ, ◌≤◌, List, length, slice_get, Option, Some, None, refl, sym, ap, subst, ◌∙◌}
use Rattle.std.proofs.Math.Nat.{le_refl, le_trans}
use Rattle.ms_arena.specs.Diagram.{Bits}
use Rattle.ms_arena.specs.Target.{Extends}
use Rattle.ms_arena.proofs.Appending.{Extends-same, Extends-further, slice_get-extends}
use Rattle.ms_arena.proofs.Lists.{slice_get-held}
use Rattle.ms_dfa_explore.specs.Explored.{AreMore}
use Rattle.ms_product.specs.declared.op.Op.{Op}
use Rattle.ms_product.specs.Pairing.{Operands, Pairing, IsLaterPairing, next_pair, first_pair, behind_pair, sign_of_number, product_findings}

pub pairing_later_itself : (pairing : Pairing) → IsLaterPairing pairing pairing
pairing_later_itself pairing = record { same = refl; pairs = Extends-same pairing.pairs; count = le_refl (length pairing.pairs) }

pub pairing_later_later : (one two three : Pairing) → IsLaterPairing one two → IsLaterPairing two three → IsLaterPairing one three
pairing_later_later one two three first second = record {
  same = second.same ∙ ap (λ (p : Pairing). record p { pairs = three.pairs }) first.same;
  pairs = Extends-further one.pairs two.pairs three.pairs first.pairs second.pairs;
  count = le_trans first.count second.count;
}

module _ (op : Op) (operands : Operands) (early late : List (ℕ × ℕ)) (extends : Extends early late) where
  -- where the pair of a number leads, it leads later
  step_later : (state : ℕ) (bits : Bits) (number : ℕ) (found : Option (ℕ × ℕ)) → slice_get early state ≡ found → behind_pair operands early found bits number
      → behind_pair operands late (slice_get late state) bits number
  step_later state bits number None is right = absurd right
  step_later state bits number (Some pair) is right =
      subst (λ found. behind_pair operands late found bits number) (sym (slice_get-extends early late extends state pair is))
      (slice_get-extends early late extends number (next_pair operands pair bits) right)

  more_found : length early ≤ length late → AreMore (product_findings op operands early) (product_findings op operands late)
  more_found count = record {
    count = count;
    starts = λ bits number right. slice_get-extends early late extends number (first_pair operands bits) right;
    steps = λ state found bits number right. step_later state bits number (slice_get early state) refl right;
    signs = λ state found.
        let held = slice_get-held early state found in
        ap (sign_of_number op operands) (slice_get-extends early late extends state held.0 held.1 ∙ sym held.1);
    most_nodes = refl;
  }

pub pairing_later_findings : (early late : Pairing) → IsLaterPairing early late
    → AreMore (product_findings early.op early.operands early.pairs) (product_findings late.op late.operands late.pairs)
pairing_later_findings early late later =
    subst (λ (p : Pairing). AreMore (product_findings early.op early.operands early.pairs) (product_findings p.op p.operands p.pairs)) (sym later.same)
    (more_found early.op early.operands early.pairs late.pairs later.pairs later.count)
