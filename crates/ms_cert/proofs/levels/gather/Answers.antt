use Rattle.std.proofs.Common.{◌≡◌, ℕ, ◌+◌, ◌++◌, Bool, List, drop, length, map, slice_get, Some, refl, sym, ap, subst, ◌∙◌, arith}
use Rattle.std.specs.Option.{option_map}
use Rattle.std.proofs.lemmas.List.{length-map}
use Rattle.std.proofs.lemmas.Option.{slice_get-map}
use Rattle.ms_dfa.specs.Narrow.{gathered}
use Rattle.ms_dfa.specs.Part.{has_value}
use Rattle.ms_dfa.specs.declared.plain.FileVar.{FileVar}
use Rattle.ms_logic_words.specs.Content.{bits_at, variables_from}
use Rattle.ms_cert.proofs.GatherLemmas.{gather-all, gather-none, gather-one}
use Rattle.ms_cert.proofs.ListLemmas.{get-item}
use Rattle.ms_cert.proofs.levels.gather.Goals as goal
use Rattle.ms_cert.proofs.levels.gather.Goals.{then-is_in+in_ok-push, else-is_in}

pub returns : goal.returns
returns c =
    let vars = c.args.plain.now.variables in
    let orders = map (λ (v : FileVar). v.order) vars in
    let bits = bits_at c.args.bits.now in
    let test = c.loop-place-test.false in
    let within = c.loop-place.auto.place-end in
    let end : c.loop-place.place ≡ length orders = omega (arith, test, within, length-map vars (λ (v : FileVar). v.order), ap length c.slice-variable-items.ensures) in
    gather-all (has_value c.args.part) orders bits c.loop-place.made (gathered (has_value c.args.part) 0 (variables_from 0 orders) bits)
    (subst (λ (n : ℕ). c.loop-place.made ++ gathered (has_value c.args.part) n (variables_from n (drop n orders)) bits ≡ gathered (has_value c.args.part) 0 (variables_from 0 orders) bits) end c.loop-place.invariant)

pub loop-place-preserved : goal.loop-place-preserved
loop-place-preserved c =
    let vars = c.args.plain.now.variables in
    let orders = map (λ (v : FileVar). v.order) vars in
    let bits = bits_at c.args.bits.now in
    let hv = has_value c.args.part in
    let order = c.variable-item.result.order in
    let all = gathered hv 0 (variables_from 0 orders) bits in
    let in_vars : slice_get vars c.loop-place.place ≡ Some c.variable-item.result =
    ap (λ (list : List FileVar). slice_get list c.loop-place.place) (sym c.slice-variable-items.ensures) ∙ get-item c.slice-variable-items.result.now c.loop-place.place c.variable-item.result c.loop-place-test.true c.variable-item.is in
    let held : slice_get orders c.loop-place.place ≡ Some order = slice_get-map (λ (v : FileVar). v.order) vars c.loop-place.place ∙ ap (option_map (λ (v : FileVar). v.order)) in_vars in
    elim c.if-is_in.branch [
      | then-is_in+in_ok-push w ↦
          let P = λ (made : List Bool). made ++ gathered hv (c.loop-place.place + 1) (variables_from (c.loop-place.place + 1) (drop (c.loop-place.place + 1) orders)) bits ≡ all in
          subst P (sym (w.made-is ∙ w.in_ok-push.ensures.ok)) (gather-one hv orders bits c.loop-place.place order c.loop-place.made all (bits c.loop-place.place) held (sym c.is_in.ensures ∙ w.if-is_in.true) refl c.loop-place.invariant)
      | else-is_in w ↦
          let P = λ (made : List Bool). made ++ gathered hv (c.loop-place.place + 1) (variables_from (c.loop-place.place + 1) (drop (c.loop-place.place + 1) orders)) bits ≡ all in
          subst P (sym w.made-is) (gather-none hv orders bits c.loop-place.place order c.loop-place.made all held (sym c.is_in.ensures ∙ w.if-is_in.false) c.loop-place.invariant)
    ]
