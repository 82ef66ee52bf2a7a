-- What an automaton file says, with its numbers read as sets, is an automaton over strings: there each word encodes an
-- assignment.
use Rattle.std.proofs.Common.{◌≡◌, ◌≢◌, ℕ, ◌<◌, ◌^◌, ⊎_elim, inl, inr, Bool, true, false, if◌then◌else◌, List, [], ◌∷◌, ◌++◌, length, map, slice_get, Option, Some, None, refl, sym, ap, subst, ◌∙◌, arith}
use Rattle.std.specs.Option.{option_map}
use Rattle.std.proofs.lemmas.List.{length-map}
use Rattle.std.proofs.lemmas.Option.{slice_get-map, get_or_from_slice_get}
use Rattle.ms_list.specs.declared.word.Word.{Word}
use Rattle.ms_arena.specs.declared.node.Node.{Node}
use Rattle.ms_arena.specs.declared.node.Ref.{Ref}
use Rattle.ms_arena.specs.declared.node.Ref.TheVariants.{Leaf, Inner}
use Rattle.ms_arena.specs.Bits.{with_bit}
use Rattle.ms_arena.specs.Diagram.{Bits, leaf_of, IsBefore, IsValid, IsOrdered, IsReduced, TestsAbove}
use Rattle.ms_arena.specs.Target.{Extends}
use Rattle.ms_arena.proofs.Appending.{IsValid-extends, TestsAbove-extends}
use Rattle.ms_arena.proofs.BitsLemmas.{with_bit-other}
use Rattle.ms_arena.proofs.Lists.{slice_get-held, slice_get-pushed}
use Rattle.ms_arena.proofs.Paths.{leaf_of-leaf, leaf_of-node}
use Rattle.ms_arena.proofs.ReachLemmas.{leaf_of-tested}
use Rattle.ms_diagram.specs.Growth.{KeepsFunctions}
use Rattle.ms_logic.specs.declared.mode.Mode.TheVariants.{M2lStr}
use Rattle.ms_logic.specs.declared.mode.Order.{Order}
use Rattle.ms_logic_words.specs.declared.sign.Sign.{Sign}
use Rattle.ms_logic_words.specs.declared.sign.Sign.TheVariants.{Outside}
use Rattle.ms_logic.specs.Assignment.{Variable}
use Rattle.ms_logic_words.specs.Content.{StateOf, Content, HasValueAt, IsClosed, IsContent, IsFollowed, NamesPart, is_truth_value, is_in_letters, first_state, next_from, next_state, last_state, sign_at, sign_of, truth_bits, letter_bits}
use Rattle.ms_logic.specs.Lists.{AreRising}
use Rattle.ms_dfa.specs.Automaton.{IsAutomaton, TellsEncodings}
use Rattle.ms_dfa.specs.declared.plain.FileSign.{FileSign}
use Rattle.ms_dfa.specs.declared.plain.FileSign.TheVariants as signs
use Rattle.ms_dfa.specs.declared.plain.FileState.{FileState}
use Rattle.ms_dfa.specs.declared.plain.Plain.{Plain}
use Rattle.ms_dfa.proofs.FunctionLemmas.{TestsOnly-by_function}
use Rattle.ms_dfa.proofs.HasValueAtLemmas.{HasValueAt-or_not}
use Rattle.ms_dfa.specs.Files.{content_of_file}
use Rattle.ms_minim_canonical.proofs.ContentLemmas.{IsClosed-content, next_followed}
use Rattle.ms_rename.specs.inner.Image.{image_of}
use Rattle.ms_dfafile_adopt.specs.inner.Images.{HasBecome, HaveBecome, own_state}
use Rattle.ms_dfafile_adopt.specs.Readings.{IsOverSets, own_sign}
use Rattle.ms_dfafile_adopt.specs.Sets.{as_sets, set_order}
use Rattle.ms_dfafile_adopt.proofs.RunLemmas.{same_last}
use Rattle.ms_dfafile_adopt.proofs.SetLemmas.{HasValueAt-set, each_encodes, rising-sets, same_in_letters, same_truth_value}
use Rattle.ms_dfafile_adopt.proofs.VariableLemmas.{rising-by_place}

-- what references to earlier nodes have become
pub HasBecome-of : (new old : List Node) (images : List Ref) (reference : Ref) → HaveBecome new old images → IsBefore (length images) reference → HasBecome new old reference (image_of images reference)
HasBecome-of new old images (Leaf value) become before = record {
  valid = tt;
  leaves = λ bits. leaf_of-leaf new bits value ∙ sym (leaf_of-leaf old bits value);
  above = λ lower above. tt;
}
HasBecome-of new old images (Inner place) become before =
    let held = slice_get-held images place before in
    subst (HasBecome new old (Inner place)) (sym (get_or_from_slice_get images place held.0 (Leaf 0) held.1)) (become place held.0 held.1)

module _ (before new old : List Node) (ordered : IsOrdered old) (extends : Extends before new) (kept : KeepsFunctions before new) (images : List Ref) (become : HaveBecome before old images)
    (place : ℕ) (node : Node) (held : slice_get old place ≡ Some node) (all : length images ≡ place) where
  low_before : IsBefore (length images) node.low
  low_before = subst (λ n. IsBefore n node.low) (sym all) (ordered.earlier_low place node held)

  high_before : IsBefore (length images) node.high
  high_before = subst (λ n. IsBefore n node.high) (sym all) (ordered.earlier_high place node held)

  -- the ends of the next node
  pub low_become : HasBecome before old node.low (image_of images node.low)
  low_become = HasBecome-of before old images node.low become low_before

  pub high_become : HasBecome before old node.high (image_of images node.high)
  high_become = HasBecome-of before old images node.high become high_before

  -- an image stays one when nodes are added
  become_later : (reference image : Ref) → HasBecome before old reference image → HasBecome new old reference image
  become_later reference image was = record {
    valid = IsValid-extends before new extends image was.valid;
    leaves = λ bits. kept image was.valid bits ∙ was.leaves bits;
    above = λ lower above. TestsAbove-extends before new extends lower image was.valid (was.above lower above);
  }

  chosen : (bits : Bits) (bit : Bool)
      → (if bit then leaf_of before (image_of images node.high) bits else leaf_of before (image_of images node.low) bits) ≡ leaf_of old (if bit then node.high else node.low) bits
  chosen bits true = high_become.leaves bits
  chosen bits false = low_become.leaves bits

  -- what the next node has become
  node_become : (made : Ref) → IsValid new made
      → ((bits : Bits) → leaf_of new made bits ≡ (if bits node.var then leaf_of before (image_of images node.high) bits else leaf_of before (image_of images node.low) bits))
      → ((lower : ℕ) → lower < node.var → TestsAbove new lower made) → HasBecome new old (Inner place) made
  node_become made valid function above = record {
    valid = valid;
    leaves = λ bits. function bits ∙ chosen bits (bits node.var) ∙ sym (leaf_of-node old ordered bits place node held);
    above = λ lower tests. above lower (tests node held);
  }

  pub HaveBecome-more : (made : Ref) → IsValid new made
      → ((bits : Bits) → leaf_of new made bits ≡ (if bits node.var then leaf_of before (image_of images node.high) bits else leaf_of before (image_of images node.low) bits))
      → ((lower : ℕ) → lower < node.var → TestsAbove new lower made) → HaveBecome new old (images ++ made ∷ [])
  HaveBecome-more made valid function above i image at = ⊎_elim
      (λ there. become_later (Inner i) image (become i image there))
      (λ last. subst (λ p. HasBecome new old (Inner p) image) (sym (last.0 ∙ all)) (subst (HasBecome new old (Inner place)) last.1 (node_become made valid function above)))
      (slice_get-pushed images made i image at)

sign_inside : (sign : FileSign) → own_sign sign ≢ Outside
sign_inside signs.Plus same = cc
sign_inside signs.Minus same = cc
sign_inside signs.Zero same = cc
sign_inside signs.Outside same = cc

-- a reference to a part of the file is one to what has become of its nodes
pub named_before : (plain : Plain) (images : List Ref) → length images ≡ length plain.nodes → (reference : Ref) → NamesPart (content_of_file plain) reference → IsBefore (length images) reference
named_before plain images long (Leaf value) named = tt
named_before plain images long (Inner place) named = omega (arith, named, long)

pub states_before : (plain : Plain) → IsContent (content_of_file plain) → (images : List Ref) → length images ≡ length plain.nodes → (i : ℕ) (state : FileState) → slice_get plain.states i ≡ Some state
    → IsBefore (length images) state.next
states_before plain rules images long i state held =
    let file = content_of_file plain in
    let there : slice_get file.states i ≡ Some (record { sign = state.sign; next = state.next }) = slice_get-map _ plain.states i ∙ ap (option_map (λ (s : FileState). record { sign = s.sign; next = s.next })) held in
    named_before plain images long state.next (rules.next_named i (record { sign = state.sign; next = state.next }) there)

module _ (plain : Plain) (rules : IsContent (content_of_file plain)) (nodes : List Node) (images : List Ref) (become : HaveBecome nodes plain.nodes images) (long : length images ≡ length plain.nodes) where
  abbrev file : Content FileSign
  file = content_of_file plain

  -- the content of what has been made, over some variables
  abbrev pub said_over : List Variable → Content Sign
  said_over variables = record { mode = M2lStr; variables = variables; start = image_of images file.start; states = map (own_state images) file.states; nodes = nodes }

  become_of : (reference : Ref) → NamesPart file reference → HasBecome nodes file.nodes reference (image_of images reference)
  become_of (Leaf value) named = HasBecome-of nodes file.nodes images (Leaf value) become tt
  become_of (Inner place) named = HasBecome-of nodes file.nodes images (Inner place) become (omega (arith, named, long))

  -- it leads where the file does
  first_same : (truth : List Bool) → first_state (said_over file.variables) truth ≡ first_state file truth
  first_same truth = (become_of file.start rules.start_named).leaves (truth_bits file.variables truth)

  next_same : (state : ℕ) (letter : List Bool) → next_state (said_over file.variables) state letter ≡ next_state file state letter
  next_same state letter = ap (λ found. next_from (said_over file.variables) found letter) (slice_get-map (own_state images) file.states state) ∙ by (slice_get file.states state) refl
    where
      by : (found : Option (StateOf FileSign)) → slice_get file.states state ≡ found → next_from (said_over file.variables) (option_map (own_state images) found) letter ≡ next_from file found letter
      by None is = refl
      by (Some there) is = (become_of there.next (rules.next_named state there is)).leaves (letter_bits file.variables letter)

  signs_same : (variables : List Variable) (state : ℕ) → sign_at (said_over variables) state ≡ option_map own_sign (sign_at file state)
  signs_same variables state = ap (option_map (λ (found : StateOf Sign). found.sign)) (slice_get-map (own_state images) file.states state) ∙ by (slice_get file.states state)
    where
      by : (found : Option (StateOf FileSign)) → option_map (λ (s : StateOf Sign). s.sign) (option_map (own_state images) found) ≡ option_map own_sign (option_map (λ (s : StateOf FileSign). s.sign) found)
      by None = refl
      by (Some there) = refl

  pub IsOverSets-made : IsOverSets plain (said_over (as_sets file.variables))
  IsOverSets-made = record {
    mode_is = refl;
    variables_are = refl;
    signs = λ word.
        ap (sign_at (said_over file.variables)) (same_last (said_over file.variables) file (IsClosed-content file rules) first_same (λ state within letter. next_same state letter) word)
        ∙ signs_same file.variables (last_state file word);
  }

  -- no word is Outside
  inside : (variables : List Variable) (word : Word) → sign_of (said_over variables) word ≢ Some Outside
  inside variables word same = by (sign_at file (last_state (said_over variables) word)) (sym (signs_same variables (last_state (said_over variables) word)) ∙ same)
    where
      by : (found : Option FileSign) → option_map own_sign found ≡ Some Outside → ⊥
      by None is = let never : ⊥ = cc in never
      by (Some sign) is = sign_inside sign (let own : own_sign sign ≡ Outside = cc in own)

  module _ (ordered : IsOrdered nodes) (reduced : IsReduced nodes) where
    -- images are followed over the same variables, with sets in place of numbers
    image_followed : (has_value : Order → Bool) → ((o : Order) → has_value (set_order o) ≡ has_value o) → (reference : Ref) → NamesPart file reference → IsFollowed file has_value reference
        → IsFollowed (said_over (as_sets file.variables)) has_value (image_of images reference)
    image_followed has_value same reference named is =
        let now = become_of reference named in
        record {
          valid = now.valid;
          states = λ bits. (let below = is.states bits in let leaf = now.leaves bits in let count = length-map file.states (own_state images) in omega (arith, below, leaf, count));
          tests = TestsOnly-by_function nodes (leaf_of nodes (image_of images reference)) (HasValueAt (as_sets file.variables) has_value) (image_of images reference) ordered reduced (λ bits. refl)
              (λ var. ⊎_elim inl
              (λ absent. inr (λ bits. now.leaves (with_bit bits var false)
              ∙ leaf_of-tested file.nodes rules.ordered reference (with_bit bits var false) (with_bit bits var true) is.valid (λ own tested.
              let apart : own ≢ var = λ equal. absent (subst (HasValueAt (as_sets file.variables) has_value) equal (HasValueAt-set has_value same file.variables own (is.tests own tested))) in
              with_bit-other bits var false own apart ∙ sym (with_bit-other bits var true own apart))
              ∙ sym (now.leaves (with_bit bits var true))))
              (HasValueAt-or_not (as_sets file.variables) has_value var));
        }

    closed : IsClosed (said_over (as_sets file.variables))
    closed = record {
      start = image_followed is_truth_value same_truth_value file.start rules.start_named (IsClosed-content file rules).start;
      next = λ place other within.
          let count = length-map file.states (own_state images) in
          let held = slice_get-held file.states place (omega (arith, within, count)) in
          let there : slice_get (map (own_state images) file.states) place ≡ Some (own_state images held.0) = slice_get-map (own_state images) file.states place ∙ ap (option_map (own_state images)) held.1 in
          subst (λ (s : StateOf Sign). IsFollowed (said_over (as_sets file.variables)) is_in_letters s.next)
          (sym (get_or_from_slice_get (map (own_state images) file.states) place (own_state images held.0) other there))
          (image_followed is_in_letters same_in_letters held.0.next (rules.next_named place held.0 held.1) (next_followed file rules place held.0 held.1));
    }

    rising : AreRising file.variables
    rising = rising-by_place 0 (map (λ variable. variable.order) plain.variables)

    tells : TellsEncodings (said_over (as_sets file.variables))
    tells word over = ((λ encoding. inside (as_sets file.variables) word), (λ differs. each_encodes M2lStr file.variables word rising over))

    pub IsAutomaton-said : length plain.states < 2 ^ 32 → IsAutomaton (said_over (as_sets file.variables))
    IsAutomaton-said few = record {
      ordered = ordered;
      reduced = reduced;
      closed = closed;
      rising = rising-sets file.variables rising;
      few_states = (let count = length-map file.states (own_state images) in let own : length file.states ≡ length plain.states = length-map plain.states _ in omega (arith, count, own, few));
      encodings = tells;
      settled = λ numbers. let never : ⊥ = cc in absurd never;
    }
