use Rattle.std.proofs.Common.{◌≡◌, ◌+◌, ◌<◌, [], ◌∷◌, ◌++◌, length, length-append, append-nil, slice_index, sym, ap, subst, ◌∙◌, arith}
use Rattle.std.proofs.lemmas.Option.{get_or_from_slice_get, slice_get_within}
use Rattle.ms_minim.specs.inner.Split.{AreSplit, own_keys}
use Rattle.ms_minim.proofs.PartitionLemmas.{few_classes}
use Rattle.ms_minim.proofs.SplitLemmas.{AreSplit-none, AreSplit-kept, AreSplit-more, IsMissing-own, IsSplit-all, length-own_keys}
use Rattle.ms_minim.proofs.splitting.split.Goals as goal
use Rattle.ms_minim.proofs.splitting.split.Goals.{then-marks-known, else-marks-known+in_ok-made}

pub bounds-marks-known : goal.bounds-marks-known
bounds-marks-known c =
    let class = c.get-class.result.now in
    let known = c.get-known.result.now in
    let within = slice_get_within c.args.old.now.classes known class (c.requires.inhabited.member class known c.get-known.ensures) in
    omega (arith, within, c.requires.marks)

pub loop-state-init : goal.loop-state-init
loop-state-init c =
    let classes = c.args.old.now.classes in
    let members = c.args.old.now.members in
    let marks = c.args.marks.now in
    let few = few_classes classes members c.requires.inhabited in
    let none = AreSplit-none classes members marks c.requires.inhabited c.requires.marks (omega (arith, few, c.requires.small)) in
    let keys : own_keys marks 0 members ++ c.new-keys.result ≡ own_keys marks 0 members = ap (λ list. own_keys marks 0 members ++ list) c.new-keys.ensures ∙ append-nil (own_keys marks 0 members) in (
      subst (λ list. AreSplit classes members marks list c.in_ok-members.members c.new-classes.result) (sym keys)
          (subst (λ list. AreSplit classes members marks (own_keys marks 0 members) list c.new-classes.result) (sym (c.in_ok-members.ensures ∙ c.slice.ensures))
          (subst (λ list. AreSplit classes members marks (own_keys marks 0 members) members list) (sym c.new-classes.ensures) none)),
      ap length c.new-classes.ensures,
    )

pub loop-state-preserved : goal.loop-state-preserved
loop-state-preserved c =
    let classes = c.args.old.now.classes in
    let members = c.args.old.now.members in
    let marks = c.args.marks.now in
    let front = own_keys marks 0 members in
    let state = c.loop-state.state in
    let class = c.get-class.result.now in
    let known = c.get-known.result.now in
    let within : state < length classes = let less = c.loop-state-test.true in let end = c.len-state-end.ensures in let small = c.requires.small in omega (arith, less, end, small) in
    let class_is : slice_index classes state ≡ class = get_or_from_slice_get classes state class 0 c.get-class.ensures in
    let was = c.loop-state.invariant.0 in
    let count = c.loop-state.invariant.1 in
    let split : AreSplit classes members marks (front ++ c.if-marks-known.keys) c.if-marks-known.members (c.loop-state.classes ++ c.if-marks-known.made ∷ []) = elim c.if-marks-known.branch [
      | then-marks-known w ↦
          subst (λ made. AreSplit classes members marks (front ++ c.if-marks-known.keys) c.if-marks-known.members (c.loop-state.classes ++ made ∷ [])) (sym w.made-is)
          (subst (λ keys. AreSplit classes members marks (front ++ keys) c.if-marks-known.members (c.loop-state.classes ++ class ∷ [])) (sym w.keys-is)
          (subst (λ made. AreSplit classes members marks (front ++ c.loop-state.keys) made (c.loop-state.classes ++ class ∷ [])) (sym w.members-is)
          (AreSplit-kept classes members marks c.requires.inhabited (front ++ c.loop-state.keys) c.loop-state.members c.loop-state.classes state class known was count
          c.get-class.ensures c.get-known.ensures w.if-marks-known.true)))
      | else-marks-known+in_ok-made w ↦
          let long : length front + length c.loop-state.keys ≡ length c.loop-state.members =
          (let front_long = length-own_keys marks 0 members in let all = length-append front c.loop-state.keys in let equal = was.begun.keyed.equal in omega (arith, front_long, all, equal)) in
          let missing = IsMissing-own marks members class known (slice_index marks state) c.get-known.ensures w.if-marks-known.false in
          let placed = w.in_ok-made.ensures.placed front long was.begun.keyed.numbering missing in
          subst (λ made. AreSplit classes members marks (front ++ c.if-marks-known.keys) c.if-marks-known.members (c.loop-state.classes ++ made ∷ [])) (sym w.made-is)
          (subst (λ keys. AreSplit classes members marks (front ++ keys) c.if-marks-known.members (c.loop-state.classes ++ w.in_ok-made.made ∷ [])) (sym w.keys-is)
          (subst (λ made. AreSplit classes members marks (front ++ w.place.new.keys) made (c.loop-state.classes ++ w.in_ok-made.made ∷ [])) (sym w.members-is)
          (AreSplit-more classes members marks (front ++ c.loop-state.keys) c.loop-state.members c.loop-state.classes state w.in_ok-made.made was count within
          (front ++ w.place.new.keys) w.place.new.members (class, slice_index marks state) (ap (λ n. (n, slice_index marks state)) (sym class_is)) placed)))
    ] in
    let longer = length-append c.loop-state.classes (c.if-marks-known.made ∷ []) in (
      subst (AreSplit classes members marks (front ++ c.if-marks-known.keys) c.if-marks-known.members) (sym c.in_ok-push.ensures.ok) split,
      ap length c.in_ok-push.ensures.ok ∙ omega (arith, count, longer),
    )

pub returns : goal.returns
returns c =
    IsSplit-all c.args.old.now.classes c.args.old.now.members c.args.marks.now c.requires.inhabited c.requires.marks (own_keys c.args.marks.now 0 c.args.old.now.members ++ c.loop-state.keys)
    c.loop-state.members c.loop-state.classes c.loop-state.invariant.0
    (let past = c.loop-state-test.false in let count = c.loop-state.invariant.1 in let at_most = c.loop-state.auto.state-end in let end = c.len-state-end.ensures in let small = c.requires.small in
    omega (arith, past, count, at_most, end, small))
