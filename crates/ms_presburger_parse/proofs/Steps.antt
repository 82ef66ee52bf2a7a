-- Where the code's steps lead.
use Rattle.std.proofs.Common.{◌≡◌, ℕ, suc, ◌+◌, ◌<◌, ◌≤◌, max, List, Option, Some, length, sym, ap, ◌∙◌, subst, arith}
use Rattle.std.specs.Prelude.{Result, Ok, Err, IfOk, IfErr, IfSome}
use Rattle.ms_presburger.specs.Tree.{depth}
use Rattle.ms_presburger_parse.specs.declared.state.Outcome.{Outcome}
use Rattle.ms_presburger_parse.specs.declared.state.Outcome.TheVariants.{Within}
use Rattle.ms_parse_stack.specs.declared.stop.Stop.{Stop}
use Rattle.ms_parse_stack.specs.declared.stop.Stop.TheVariants.{Memory, Misplaced, TooDeep}
use Rattle.ms_parse_stack.specs.inner.Machine.{within, plugged, stay, moved, GoesOn}
use Rattle.ms_presburger_parse.specs.inner.Machine.{Frame, Place, machine, completed, shortest}
use Rattle.ms_presburger_parse.specs.inner.States.{Begun, BecomesTwo, ComesTo, Frame as CodeFrame, IsMeasured, KeepsDepth, MovesTo, frame_of, place_of, stack_of}
use Rattle.ms_presburger_parse.specs.declared.place.Place as code
use Rattle.ms_parse_stack.proofs.Depths.{replaced, same_depth}
use Rattle.ms_presburger_parse.proofs.Groupings.{depths}

-- what stops within the innermost formula stops the step
stops_moved : (move : Place → Option Place) (frames : List Frame) (p : Place) (begun : Begun) (stop : Stop) → MovesTo (move p) (Err stop) → ComesTo (moved machine move (within frames p)) begun (Err stop)
stops_moved move frames p begun Memory moved = tt
stops_moved move frames p begun Misplaced moved = ap (stay machine frames) moved
stops_moved move frames p begun TooDeep moved = absurd moved

-- where a symbol that keeps the depth leads within the innermost formula
pub comes_moved : (move : Place → Option Place) (begun : Begun) (before : code.Place) (next : Result code.Place Stop) (r : Result Outcome Stop) → KeepsDepth move → MovesTo (move (place_of before)) next
    → IsMeasured begun (Within before) → IfOk next (λ place. r ≡ Ok (Within place)) → IfErr next (λ stop. r ≡ Err stop) → ComesTo (moved machine move (within (stack_of begun.frames) (place_of before))) begun r
comes_moved move begun before (Ok place) r keeps moved h ok err =
    let frames = stack_of begun.frames in
    let is : stay machine frames (move (place_of before)) ≡ within frames (place_of place) = ap (stay machine frames) moved in
    let same : depth (completed (place_of place)) ≡ depth (completed (place_of before)) = subst (λ o. IfSome o (λ q. depth (completed q) ≡ depth (completed (place_of before)))) moved (keeps (place_of before)) in
    let measured : IsMeasured begun (Within place) = record {
      measured = h.measured ∙ same_depth depths frames (completed (place_of before)) (completed (place_of place)) (sym same);
      shallow = h.shallow;
    } in
    subst (ComesTo (stay machine frames (move (place_of before))) begun) (sym ok) (is, measured)
comes_moved move begun before (Err stop) r keeps moved h ok err =
    let frames = stack_of begun.frames in
    subst (ComesTo (stay machine frames (move (place_of before))) begun) (sym err) (stops_moved move frames (place_of before) begun stop moved)

-- where a symbol leads that makes the innermost formula two deep

measured_two : (move : Place → Option Place) (fs : List CodeFrame) (p q : Place) (d : ℕ) → BecomesTwo move → move p ≡ Some q → d ≡ depth (plugged machine (stack_of fs) (completed p)) → depth (plugged machine (stack_of fs) (completed q)) ≡ max d (length fs + suc (max 0 1))
measured_two move fs p q d two is same =
    let both = subst (λ o. IfSome o (λ x. (depth (completed p) ≤ 2) × (depth (completed x) ≡ 2))) is (two p) in
    omega (arith, replaced depths frame_of fs (completed p) (completed q) d same (omega (arith, both.0, both.1)), both.1)

pub stops_begun : (move : Place → Option Place) (fs : List CodeFrame) (p q : Place) (d : ℕ) (begun : Begun) → BecomesTwo move → move p ≡ Some q → d ≡ depth (plugged machine (stack_of fs) (completed p)) → 300 < length fs + suc (max 0 1)
    → ComesTo (moved machine move (within (stack_of fs) p)) begun (Err TooDeep)
stops_begun move fs p q d begun two is same deep =
    let whole = measured_two move fs p q d two is same in
    subst (λ o. GoesOn (stay machine (stack_of fs) o) × (300 < depth (shortest (stay machine (stack_of fs) o)))) (sym is) (tt, omega (arith, whole, deep))

pub comes_begun : (move : Place → Option Place) (fs : List CodeFrame) (p : Place) (place : code.Place) (d : ℕ) (begun : Begun) → BecomesTwo move → move p ≡ Some (place_of place) → d ≡ depth (plugged machine (stack_of fs) (completed p))
    → begun.frames ≡ fs → begun.deepest ≡ max d (length fs + suc (max 0 1)) → begun.deepest ≤ 300 → ComesTo (moved machine move (within (stack_of fs) p)) begun (Ok (Within place))
comes_begun move fs p place d begun two is same stack kept shallow =
    let whole = measured_two move fs p (place_of place) d two is same in (
      ap (stay machine (stack_of fs)) is ∙ ap (λ x. within (stack_of x) (place_of place)) (sym stack),
      record { measured = kept ∙ sym whole ∙ ap (λ x. depth (plugged machine (stack_of x) (completed (place_of place)))) (sym stack); shallow = shallow },
    )
