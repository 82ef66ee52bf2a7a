use Rattle.std.proofs.Common.{◌≡◌, ◌<◌, ℕ, Bool, true, false, List, length, length-set, slice_get, slice_set, Some, sym, ap, subst, ◌∙◌, arith}
use Rattle.std.proofs.lemmas.Result.{on_ok_weaker}
use Rattle.ms_list.specs.declared.word.Word.{Word}
use Rattle.ms_arena.specs.declared.node.Node.{Node}
use Rattle.ms_arena.specs.declared.node.Ref.{Ref}
use Rattle.ms_arena.specs.declared.node.Ref.TheVariants.{Inner}
use Rattle.ms_arena.specs.Halves.{size_of}
use Rattle.ms_arena.proofs.Canonicity.{end_for}
use Rattle.ms_arena.proofs.Ends.{end_smaller}
use Rattle.ms_dfa.specs.Files.{content_of_file}
use Rattle.ms_dfa.specs.declared.part.Part.{Part}
use Rattle.ms_dfa.specs.declared.plain.Plain.{Plain}
use Rattle.ms_logic_words.specs.Content.{IsContent, NamesPart, bits_at}
use Rattle.ms_dfafile_outside.proofs.ContentLemmas.{named-end}
use Rattle.ms_dfafile_outside.proofs.FileLemmas.{length-variables}
use Rattle.ms_cert.specs.inner.Levels.{IsReached, Leads, MakesWords, Reached, reached_of, with_node}
use Rattle.ms_cert.proofs.LevelsLemmas.{leads-kept, leads-leaf, leads-node, makes-end, makes-leaf}
use Rattle.ms_cert.proofs.ListLemmas.{get-item}
use Rattle.ms_cert.proofs.ReachedLemmas.{node-kept, node-reached, reached-same}
use Rattle.ms_cert.proofs.levels.+walk.Goals as goal

-- what holds of an end of a node, with the bit that leads there
record IsEnd (plain : Plain) (part : Part) (from : Word) (root end : Ref) (bits : List Bool) : Type 0 where
  smaller : size_of end < size_of root
  named : NamesPart (content_of_file plain) end
  makes : MakesWords (content_of_file plain) part from (bits_at bits) end
  long : length bits ≡ length plain.variables

module _ (plain : Plain) (rules : IsContent (content_of_file plain)) (place : ℕ) (node : Node) (held : slice_get plain.nodes place ≡ Some node) (bits : List Bool) (long : length bits ≡ length plain.variables) where
  tested-within : node.var < length bits
  tested-within = let less = rules.variables place node held in omega (arith, less, length-variables plain, long)

  end-of : (part : Part) (from : Word) (root : Ref) → root ≡ Inner place → MakesWords (content_of_file plain) part from (bits_at bits) root → (bit : Bool) (made : List Bool) → made ≡ slice_set bits node.var bit
      → IsEnd plain part from root (end_for node bit) made
  end-of part from root is makes bit made set =
      let content = content_of_file plain in record {
        smaller = subst (λ (r : Ref). size_of (end_for node bit) < size_of r) (sym is) (end_smaller content.nodes rules.ordered place node held bit);
        named = named-end content rules place node bit held;
        makes = subst (λ (b : List Bool). MakesWords content part from (bits_at b) (end_for node bit)) (sym set)
            (makes-end content rules place node held part from bits bit tested-within (subst (MakesWords content part from (bits_at bits)) is makes));
        long = ap length set ∙ length-set bits node.var bit ∙ long;
      }

pub reach-requires-clause-word : goal.reach-requires-clause-word
reach-requires-clause-word t c =
    let source = c.args.source.now in
    let content = content_of_file c.args.source.now.plain.now in
    makes-leaf content source.part source.word (bits_at c.args.bits.now) c.in-Leaf.state
    (subst (MakesWords content source.part source.word (bits_at c.args.bits.now)) c.in-Leaf.is c.requires.makes)

pub returns-then-index-clause-leads : goal.returns-then-index-clause-leads
returns-then-index-clause-leads t c =
    let named : c.in-Inner.place < length c.args.source.now.plain.now.nodes = subst (NamesPart (content_of_file c.args.source.now.plain.now)) c.in-Inner.is c.requires.named in
    let count = c.requires.reached.seen_count in
    subst (Leads (content_of_file c.args.source.now.plain.now) (reached_of c.args.found.now)) (sym c.in-Inner.is)
    (c.requires.reached.seen c.in-Inner.place (get-item c.args.found.now.seen.items c.in-Inner.place c.index.result.now (omega (arith, named, count)) c.index.ensures ∙ ap Some c.if-index.true))

pub with_bit-requires : goal.with_bit-requires
with_bit-requires t c = tested-within c.args.source.now.plain.now c.requires.content c.in-Inner.place c.get-node.result.now c.get-node.ensures c.args.bits.now c.requires.bits

pub walk-requires : goal.walk-requires
walk-requires t c =
    let source = c.args.source.now in
    let end = end-of source.plain.now c.requires.content c.in-Inner.place c.get-node.result.now c.get-node.ensures c.args.bits.now c.requires.bits
    source.part source.word c.args.root c.in-Inner.is c.requires.makes false c.slice.result.now (c.slice.ensures ∙ c.in_ok-low-in-Inner.ensures) in
    (omega (arith, end.smaller, c.decreases), (c.requires.content, (end.named, (end.makes, (end.long, (c.requires.reached, c.requires.level))))))

pub with_bit-requires-in-Inner : goal.with_bit-requires-in-Inner
with_bit-requires-in-Inner t c = tested-within c.args.source.now.plain.now c.requires.content c.in-Inner.place c.get-node.result.now c.get-node.ensures c.args.bits.now c.requires.bits

pub walk-requires-in-Inner : goal.walk-requires-in-Inner
walk-requires-in-Inner t c =
    let source = c.args.source.now in
    let end = end-of source.plain.now c.requires.content c.in-Inner.place c.get-node.result.now c.get-node.ensures c.args.bits.now c.requires.bits
    source.part source.word c.args.root c.in-Inner.is c.requires.makes true c.slice-in-Inner.result.now (c.slice-in-Inner.ensures ∙ c.in_ok-high-in-Inner.ensures) in
    (omega (arith, end.smaller, c.decreases), (c.requires.content, (end.named, (end.makes, (end.long, (c.in_ok-walk-in-Inner.ensures.reached, c.in_ok-walk-in-Inner.ensures.level))))))

pub returns-in-Leaf-clause-leads : goal.returns-in-Leaf-clause-leads
returns-in-Leaf-clause-leads t c =
    on_ok_weaker c.reach.result
    (λ known. subst (Leads (content_of_file c.args.source.now.plain.now) (reached_of c.reach.new.found)) (sym c.in-Leaf.is) (leads-leaf (content_of_file c.args.source.now.plain.now) (reached_of c.reach.new.found) c.in-Leaf.state known))
    c.reach.ensures.known

-- the node that is seen leads to known states, as both its ends do
leads-seen : {t : ℕ} (c : goal.After-drop-low-inside-in-Inner t) → Leads (content_of_file c.args.source.now.plain.now) (reached_of c.walk-in-Inner.new.found) (Inner c.in-Inner.place)
leads-seen c =
    let content = content_of_file c.args.source.now.plain.now in
    let was = reached_of c.walk-in-Inner.new.found in
    leads-node content c.requires.content was c.in-Inner.place c.get-node.result.now c.get-node.ensures
    (leads-kept content (reached_of c.walk.new.found) was c.get-node.result.now.low c.in_ok-walk-in-Inner-2.ensures.kept c.in_ok-walk-in-Inner.ensures.leads)
    c.in_ok-walk-in-Inner-2.ensures.leads

same-seen : {t : ℕ} (c : goal.After-drop-low-inside-in-Inner t) → reached_of c.see.new.found ≡ with_node (reached_of c.walk-in-Inner.new.found) c.in-Inner.place
same-seen c =
    reached-same (reached_of c.see.new.found) (with_node (reached_of c.walk-in-Inner.new.found) c.in-Inner.place) c.see.ensures.words c.see.ensures.known c.see.ensures.seen c.see.ensures.order

pub returns-in_ok-walk-in-Inner-2-clause-reached : goal.returns-in_ok-walk-in-Inner-2-clause-reached
returns-in_ok-walk-in-Inner-2-clause-reached t c =
    let content = content_of_file c.args.source.now.plain.now in
    subst (IsReached content) (sym (same-seen c)) (node-reached content (reached_of c.walk-in-Inner.new.found) c.in_ok-walk-in-Inner-2.ensures.reached c.in-Inner.place (leads-seen c))

pub returns-in_ok-walk-in-Inner-2-clause-leads : goal.returns-in_ok-walk-in-Inner-2-clause-leads
returns-in_ok-walk-in-Inner-2-clause-leads t c =
    let content = content_of_file c.args.source.now.plain.now in
    let was = reached_of c.walk-in-Inner.new.found in
    let kept = node-kept content was c.in_ok-walk-in-Inner-2.ensures.reached c.in-Inner.place (leads-seen c) in
    subst (Leads content (reached_of c.see.new.found)) (sym c.in-Inner.is)
    (subst (λ (r : Reached). Leads content r (Inner c.in-Inner.place)) (sym (same-seen c)) (leads-kept content was (with_node was c.in-Inner.place) (Inner c.in-Inner.place) kept (leads-seen c)))
