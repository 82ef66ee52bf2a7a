use Rattle.std.proofs.Common.{◌≡◌, ◌+◌, ◌-◌, ◌<◌, ◌++◌, [], ◌∷◌, length, replicate, slice_index_or, string_bytes, sym, ap, ◌∙◌, arith}
use Rattle.std.proofs.lemmas.List.{append_assoc}
use Rattle.std.proofs.lemmas.Option.{get_or_from_slice_get, slice_get_within}
use Rattle.std.proofs.lemmas.Result.{on_ok_weaker}
use Rattle.ms_report.specs.Numbers.{binary, number_of_set}
use Rattle.ms_report.proofs.Digits.{above, digits-step, digits-whole, from_member, from-member-last, spelled}
use Rattle.ms_report.proofs.binary.push_digits.Goals as goal

pub loop-i-init : goal.loop-i-init
loop-i-init c =
    let set = c.args.set.now in
    let some : 0 < length set = slice_get_within set 0 c.in-Some.least.now (sym c.in-Some.ensures.value) in (
      omega (arith, some),
      c.in_ok-push_str.ensures.bytes ∙ ap (λ n. string_bytes c.args.text.now ++ spelled n) (sym (from-member-last set (length set - 1) (omega (arith, some)))),
    )

pub overflow_sub-set : goal.overflow_sub-set
overflow_sub-set c = omega (arith, above c.args.set.now (c.loop-i.i - 1) c.requires (omega (arith, c.loop-i-test.true, c.loop-i.invariant.0)))

pub overflow_sub-set-in-loop-i : goal.overflow_sub-set-in-loop-i
overflow_sub-set-in-loop-i c = omega (arith, above c.args.set.now (c.loop-i.i - 1) c.requires (omega (arith, c.loop-i-test.true, c.loop-i.invariant.0)))

pub loop-i-preserved : goal.loop-i-preserved
loop-i-preserved c =
    let set = c.args.set.now in
    let text = string_bytes c.args.text.now in
    let i = c.loop-i.i - 1 in
    let next : i + 1 ≡ c.loop-i.i = omega (arith, c.loop-i-test.true) in
    let within : i + 1 < length set = omega (arith, next, c.loop-i.invariant.0) in
    let digits = spelled (from_member set (i + 1)) in
    let zeros = replicate (slice_index_or set (i + 1) 0 - slice_index_or set i 0 - 1) 48 in (
      omega (arith, within),
      c.in_ok-push_str-2.ensures.bytes
          ∙ ap (λ t. t ++ (49 ∷ []))
          (c.in_ok-push_zeros.ensures
          ∙ ap (λ t. t ++ zeros) (c.loop-i.invariant.1 ∙ ap (λ j. text ++ spelled (from_member set j)) (sym next))
          ∙ append_assoc text digits zeros)
          ∙ append_assoc text (digits ++ zeros) (49 ∷ [])
          ∙ ap (λ t. text ++ t) (sym (digits-step set i c.requires within)),
    )

pub returns : goal.returns
returns c =
    let set = c.args.set.now in
    let text = string_bytes c.args.text.now in
    let some : 0 < length set = slice_get_within set 0 c.in-Some.least.now (sym c.in-Some.ensures.value) in
    let least : slice_index_or set 0 0 ≡ c.in-Some.least.now = get_or_from_slice_get set 0 c.in-Some.least.now 0 (sym c.in-Some.ensures.value) in
    let first : c.loop-i.i ≡ 0 = omega (arith, c.loop-i-test.false) in
    let whole : string_bytes c.loop-i.text ++ replicate c.in-Some.least.now 48 ≡ text ++ binary (number_of_set set) =
    ap (λ t. t ++ replicate c.in-Some.least.now 48) (c.loop-i.invariant.1 ∙ ap (λ j. text ++ spelled (from_member set j)) first)
    ∙ append_assoc text (spelled (from_member set 0)) (replicate c.in-Some.least.now 48)
    ∙ ap (λ n. text ++ (spelled (from_member set 0) ++ replicate n 48)) (sym least)
    ∙ ap (λ t. text ++ t) (sym (digits-whole set c.requires some))
    in
    on_ok_weaker c.push_zeros-2.result (λ zeros. zeros ∙ whole) c.push_zeros-2.ensures
