use Rattle.std.proofs.Common.{◌≡◌, ◌∷◌, [], List, length, length-append, slice_index_or, slice_set, sym, ap, ◌∙◌, arith}
use Rattle.ms_cert.specs.declared.cert.TreeLine.{TreeLine}
use Rattle.ms_cert.proofs.GrowingLemmas.{set-twice}
use Rattle.ms_cert.proofs.ListLemmas.{get-item}
use Rattle.ms_cert.proofs.growing.join.Goals as goal

pub returns : goal.returns
returns c =
    let front = c.pop.new.self.items in
    let first = c.in-Some.first in
    let second = c.replace-second.result in
    let parts = c.in-Some.ensures.items in
    let was = c.replace-second.ensures.value in
    let is : second ≡ slice_index_or front c.args.parent second = was ∙ c.index_mut.ensures.value ∙ ap (λ (d : List TreeLine). slice_index_or front c.args.parent d) (sym was) in
    let less = c.requires in
    record {
      front = front;
      first = first;
      second = second;
      parts = parts;
      there = get-item front c.args.parent second (omega (arith, less, ap length parts, length-append front (first ∷ []))) is;
      made = set-twice front c.args.parent c.replace-second.new.dest c.in_ok-trees.field-0 ∙ ap (slice_set front c.args.parent) c.in_ok-trees.ensures;
    }
