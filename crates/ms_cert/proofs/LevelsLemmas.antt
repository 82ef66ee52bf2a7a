-- What a search by levels has reached, and how it grows.
use Rattle.std.proofs.Common.{◌≡◌, ◌≢◌, ℕ, zero, suc, ◌<◌, ◌≤◌, Bool, true, false, List, [], ◌∷◌, length, replicate, slice_get, slice_set, Some, refl, sym, ap, subst, ◌∙◌, arith, inl, inr, ◌⊎◌, ⊎_elim}
use Rattle.std.proofs.lemmas.Bool.{cases_eq}
use Rattle.std.proofs.lemmas.Option.{none-some, same_Some, slice_get_within}
use Rattle.ms_list.specs.declared.word.Word.{Word}
use Rattle.ms_arena.specs.declared.node.Node.{Node}
use Rattle.ms_arena.specs.declared.node.Ref.{Ref}
use Rattle.ms_arena.specs.declared.node.Ref.TheVariants.{Leaf, Inner}
use Rattle.ms_arena.specs.Diagram.{Bits, TestsAbove, leaf_of}
use Rattle.ms_arena.proofs.Canonicity.{end_for, TestsAbove-end_for}
use Rattle.ms_arena.proofs.Lists.{slice_get-held, slice_get-set_other, slice_get-set_same}
use Rattle.ms_arena.proofs.Paths.{leaf_of-leaf, leaf_of-node}
use Rattle.ms_dfa.specs.declared.part.Part.{Part}
use Rattle.ms_dfa.specs.declared.plain.FileSign.{FileSign}
use Rattle.ms_logic_words.specs.Content.{Content, IsContent, NamesPart, bits_at}
use Rattle.ms_cert.specs.inner.Lengths.{letters_in, letters_to}
use Rattle.ms_cert.specs.inner.Levels.{AgreeBefore, IsKept, IsKnown, IsWordOf, Leads, MakesWords, Reached, level_of, made_word}

-- a bit that is written stands at its place, and leaves the others
pub at-set_same : (xs : List Bool) (i : ℕ) (x : Bool) → i < length xs → bits_at (slice_set xs i x) i ≡ x
at-set_same [] i x within = absurd (omega arith)
at-set_same (y ∷ xs) zero x within = refl
at-set_same (y ∷ xs) (suc i) x within = at-set_same xs i x (omega arith)

pub at-set_other : (xs : List Bool) (i j : ℕ) (x : Bool) → j ≢ i → bits_at (slice_set xs i x) j ≡ bits_at xs j
at-set_other [] i j x differ = refl
at-set_other (y ∷ xs) zero zero x differ = absurd (differ refl)
at-set_other (y ∷ xs) zero (suc j) x differ = refl
at-set_other (y ∷ xs) (suc i) zero x differ = refl
at-set_other (y ∷ xs) (suc i) (suc j) x differ = at-set_other xs i j x (λ same. differ (ap suc same))

-- no item of a list of one bit is the other
pub get-replicate : (n i : ℕ) → slice_get (replicate n false) i ≡ Some true → ⊥
get-replicate zero i is = none-some true is
get-replicate (suc n) zero is = let never : false ≡ true = same_Some false true is in cc
get-replicate (suc n) (suc i) is = get-replicate n i is

-- a bit that is written stands at one place more
pub true-set : (xs : List Bool) (i j : ℕ) → slice_get (slice_set xs i true) j ≡ Some true → (j ≡ i) ⊎ (slice_get xs j ≡ Some true)
true-set xs i j is = ⊎_elim (λ same. inl same) (λ other. inr (sym (slice_get-set_other xs i j true other) ∙ is)) (cases_eq j i)

-- and leaves the others
pub true-stays : (xs : List Bool) (i j : ℕ) → slice_get xs j ≡ Some true → slice_get (slice_set xs i true) j ≡ Some true
true-stays xs i j is = ⊎_elim
    (λ same. subst (λ (k : ℕ). slice_get (slice_set xs i true) k ≡ Some true) (sym same)
    (slice_get-set_same xs i true (subst (λ (k : ℕ). k < length xs) same (slice_get_within xs j true is))))
    (λ other. slice_get-set_other xs i j true other ∙ is)
    (cases_eq j i)

pub kept-same : (one : Reached) → IsKept one one
kept-same one = record { known = λ state is. is; words = λ state is. refl; order = λ place state is. is }

pub kept-more : (one two three : Reached) → IsKept one two → IsKept two three → IsKept one three
kept-more one two three first then = record {
  known = λ state is. then.known state (first.known state is);
  words = λ state is. then.words state (first.known state is) ∙ first.words state is;
  order = λ place state is. then.order place state (first.order place state is);
}

-- what is known keeps its letters
pub letters-kept : (one two : Reached) → IsKept one two → (state : ℕ) → IsKnown one state → letters_to two.words state ≡ letters_to one.words state
letters-kept one two kept state is = ap letters_in (kept.words state is)

module _ (content : Content FileSign) where
  pub leads-kept : (one two : Reached) (reference : Ref) → IsKept one two → Leads content one reference → Leads content two reference
  leads-kept one two reference kept leads = λ bits. kept.known (leaf_of content.nodes reference bits) (leads bits)

  -- a leaf leads to its state
  pub leads-leaf : (reached : Reached) (state : ℕ) → IsKnown reached state → Leads content reached (Leaf state)
  leads-leaf reached state is = λ bits. subst (IsKnown reached) (sym (leaf_of-leaf content.nodes bits state)) is

  module _ (rules : IsContent content) where
    -- a node leads to what its ends lead to
    pub leads-node : (reached : Reached) (place : ℕ) (node : Node) → slice_get content.nodes place ≡ Some node → Leads content reached node.low → Leads content reached node.high → Leads content reached (Inner place)
    leads-node reached place node held low high = λ bits.
        subst (IsKnown reached) (sym (leaf_of-node content.nodes rules.ordered bits place node held)) (by_bit (bits node.var) bits)
      where
        by_bit : (bit : Bool) (bits : Bits) → IsKnown reached (leaf_of content.nodes (end_for node bit) bits)
        by_bit true bits = high bits
        by_bit false bits = low bits

  -- the word of a leaf
  pub makes-leaf : (part : Part) (from : Word) (bits : Bits) (state : ℕ) → MakesWords content part from bits (Leaf state)
      → IsWordOf content (level_of part from) state (made_word part from content.variables bits)
  makes-leaf part from bits state makes =
      subst (λ (s : ℕ). IsWordOf content (level_of part from) s (made_word part from content.variables bits)) (leaf_of-leaf content.nodes bits state)
      (makes bits (λ place. refl))

  -- bits that agree above an end, with the bit of the node, agree above the node
  agree-up : (reference : Ref) (bits : List Bool) (var : ℕ) (bit : Bool) (other : Bits) → TestsAbove content.nodes var reference → ((at : ℕ) → reference ≡ Inner at → at < length content.nodes) → AgreeBefore content reference other (bits_at (slice_set bits var bit))
      → (place : ℕ) → place ≤ var → other place ≡ bits_at (slice_set bits var bit) place
  agree-up (Leaf state) bits var bit other above valid agree place less = agree place
  agree-up (Inner at) bits var bit other above valid agree place less =
      let held = slice_get-held content.nodes at (valid at refl) in
      let more = above held.0 held.1 in
      agree held.0 held.1 place (omega (arith, more, less))

  module _ (rules : IsContent content) (place : ℕ) (node : Node) (held : slice_get content.nodes place ≡ Some node) where
    -- the words of an end of a node
    pub makes-end : (part : Part) (from : Word) (bits : List Bool) (bit : Bool) → node.var < length bits → MakesWords content part from (bits_at bits) (Inner place)
        → MakesWords content part from (bits_at (slice_set bits node.var bit)) (end_for node bit)
    makes-end part from bits bit within makes = λ other agree.
        let up = agree-up (end_for node bit) bits node.var bit other (TestsAbove-end_for content.nodes rules.ordered place node bit held)
        (valid_end bit) agree in
        let own : other node.var ≡ bit = up node.var (omega arith) ∙ at-set_same bits node.var bit within in
        let led : leaf_of content.nodes (Inner place) other ≡ leaf_of content.nodes (end_for node bit) other =
        leaf_of-node content.nodes rules.ordered other place node held ∙ ap (λ (b : Bool). leaf_of content.nodes (end_for node b) other) own in
        subst (λ (s : ℕ). IsWordOf content (level_of part from) s (made_word part from content.variables other)) led
        (makes other (λ found there at less.
        let same : node ≡ found = same_Some node found (sym held ∙ there) in
        let before : at < node.var = subst (λ (n : Node). at < n.var) (sym same) less in
        let differ : at ≢ node.var = omega arith in
        up at (omega arith) ∙ at-set_other bits node.var at bit differ))
      where
        valid_end : (b : Bool) (at : ℕ) → end_for node b ≡ Inner at → at < length content.nodes
        valid_end true at is = subst (NamesPart content) is (rules.high_named place node held)
        valid_end false at is = subst (NamesPart content) is (rules.low_named place node held)
