-- A map whose numbers rise leaves each variable in its place.
use Rattle.std.proofs.Common.{◌≡◌, ℕ, suc, ◌+◌, ◌<◌, nat_lt, nat_eq, inl, ⊎_elim, Bool, false, if◌then◌else◌, List, [], ◌∷◌, ◌++◌, length, slice_get, slice_index, Some, refl, sym, ap, subst, ◌∙◌, arith, append_assoc}
use Rattle.std.proofs.lemmas.Bool.Decides.{nat_tests}
use Rattle.std.proofs.lemmas.List.{append-nil}
use Rattle.std.proofs.lemmas.Option.{same_Some}
use Rattle.ms_arena.specs.declared.node.Ref.{Ref}
use Rattle.ms_arena.proofs.ReachLemmas.{leaf_of-tested}
use Rattle.ms_diagram.specs.Bring.{read_through}
use Rattle.ms_dfa.specs.Automaton.{IsAutomaton}
use Rattle.ms_logic.specs.declared.mode.Order.{Order}
use Rattle.ms_logic_words.specs.declared.sign.Sign.{Sign}
use Rattle.ms_logic.specs.Assignment.{Variable}
use Rattle.ms_logic_words.specs.Content.{StateOf, Content, IsFollowed, is_truth_value, is_in_letters}
use Rattle.ms_logic.specs.Lists.{AreRising, IsBelowFirst}
use Rattle.ms_dfa_explore.specs.Tracks.{without_first, merged, gathered_with, distinct, place_of, places_among}
use Rattle.ms_dfa_explore.proofs.AmongLemmas.{leads_to, one_place}
use Rattle.ms_dfa.specs.Values.{HasValues, own_meaning}
use Rattle.ms_basic.specs.Operands.{HaveOneOrder}
use Rattle.ms_dfa_explore.proofs.TracksLemmas.{above-first, among-above, among-right, place_of-among}
use Rattle.ms_product.proofs.WidenedLemmas.{followed}
use Rattle.ms_rename.specs.inner.Image.{IsImage, IsRenamedBy}
use Rattle.ms_rename.specs.Renamed.{renamed, renamed_meaning, renamed_places, Rises}
use Rattle.ms_rename.proofs.RenamedLemmas.{renamed-at, HasValues-renamed, IsAutomaton-renamed}

-- each variable of the list has a number below this one
abbrev AllBelow : ℕ → List Variable → Type 0
AllBelow name [] = Unit {0}
AllBelow name (v ∷ vs) = (v.name < name) × AllBelow name vs

-- a variable above all is merged behind them
merged-last : (us : List Variable) (v : Variable) → AllBelow v.name us → merged us (v ∷ []) ≡ us ++ v ∷ []
merged-last [] v below = refl
merged-last (u ∷ us) v below =
    let less = below.0 in
    let not_less : nat_lt v.name u.name ≡ false = grind (arith, nat_tests, less) in
    let differs : nat_eq v.name u.name ≡ false = grind (arith, nat_tests, less) in
    (λ i. (if not_less i then v ∷ [] else []) ++ u ∷ merged us (without_first u.name (if not_less i then [] else v ∷ [])))
    ∙ (λ i. u ∷ merged us (if differs i then [] else v ∷ []))
    ∙ ap (λ list. u ∷ list) (merged-last us v below.1)

-- in a rising list what stands before a variable is below it
below-later : (us : List Variable) (v : Variable) (vs : List Variable) → AreRising (us ++ v ∷ vs) → AllBelow v.name us
below-later [] v vs rising = tt
below-later (u ∷ us) v vs rising =
    (among-above u (us ++ v ∷ vs) v (above-first u (us ++ v ∷ vs) rising) (among-right us (v ∷ vs) v (inl refl)), below-later us v vs rising.1)

gathered-same : (there vs : List Variable) → AreRising (there ++ vs) → gathered_with there vs ≡ there ++ vs
gathered-same there [] rising = sym (append-nil there)
gathered-same there (v ∷ vs) rising =
    let assoc = append_assoc there (v ∷ []) vs in
    ap (λ list. gathered_with list vs) (merged-last there v (below-later there v vs rising))
    ∙ gathered-same (there ++ v ∷ []) vs (subst AreRising (sym assoc) rising)
    ∙ assoc

-- the distinct variables of a rising list are those of the list
pub distinct-same : (vs : List Variable) → AreRising vs → distinct vs ≡ vs
distinct-same vs rising = gathered-same [] vs rising

-- variables that are renamed in order rise
pub renamed-rising : (names : List ℕ) (vs : List Variable) → Rises names → AreRising (renamed names vs)
renamed-rising [] vs rises = tt
renamed-rising (name ∷ names) [] rises = tt
renamed-rising (name ∷ names) (v ∷ vs) rises = (
  first names vs rises,
  renamed-rising names vs (λ i within.
      let next : suc i + 1 ≡ suc (i + 1) = omega arith in
      subst (λ n. slice_index (name ∷ names) (suc i) < slice_index (name ∷ names) n) next (rises (suc i) (omega (arith, within)))),
)
  where
    first : (names : List ℕ) (vs : List Variable) → Rises (name ∷ names) → IsBelowFirst name (renamed names vs)
    first [] vs rises = tt
    first (next ∷ names) [] rises = tt
    first (next ∷ names) (w ∷ vs) rises = rises 0 (omega arith)

module _ (names : List ℕ) (content : Content Sign) (automaton : IsAutomaton content) (long : length names ≡ length content.variables) (rises : Rises names) where
  abbrev wide : List Variable
  wide = renamed names content.variables

  -- each variable stays in its place
  stays : (place : ℕ) (v : Variable) → slice_get content.variables place ≡ Some v → slice_index (renamed_places names content.variables) place ≡ place
  stays place v held =
      let rising = renamed-rising names content.variables rises in
      let target : Variable = record { name = slice_index names place; order = v.order } in
      let there = renamed-at names content.variables place v long held in
      ap (λ vs. slice_index (places_among wide vs) place) (distinct-same wide rising)
      ∙ one_place wide rising (slice_index (places_among wide wide) place) place target (leads_to wide wide rising rising (λ w among. among) place target there) there

  own_image : (has_value : Order → Bool) (root : Ref) → IsFollowed content has_value root → IsImage content.nodes content.nodes (renamed_places names content.variables) root root
  own_image has_value root is = record {
    valid = is.valid;
    leaves = λ bits. leaf_of-tested content.nodes automaton.ordered root bits (read_through (renamed_places names content.variables) bits) is.valid (λ var tested.
        let at = is.tests var tested in ap bits (sym (stays var at.0 at.1)));
  }

  -- so the automaton with other names is the one that is renamed
  pub IsRenamedBy-in_order : IsRenamedBy (renamed_places names content.variables) content (record content { variables = wide })
  IsRenamedBy-in_order = record {
    start = own_image is_truth_value content.start automaton.closed.start;
    long = refl;
    states = λ number was is was_held is_held.
        let same : is ≡ was = same_state number was is was_held is_held in (
          ap (λ (s : StateOf Sign). s.sign) same,
          subst (IsImage content.nodes content.nodes (renamed_places names content.variables) was.next) (sym (ap (λ (s : StateOf Sign). s.next) same))
              (own_image is_in_letters was.next (followed content (renamed_places names content.variables) automaton.closed number was was_held)),
        );
  }
    where
      same_state : (number : ℕ) (was is : StateOf Sign) → slice_get content.states number ≡ Some was → slice_get content.states number ≡ Some is → is ≡ was
      same_state number was is was_held is_held = same_Some is was (sym is_held ∙ was_held)

  -- variables of one number are one, since the numbers rise
  one_order : HaveOneOrder wide
  one_order v w v_among w_among name =
      let rising = renamed-rising names content.variables rises in
      let first = place_of-among wide v rising v_among in
      let second = place_of-among wide w rising w_among in
      same_Some v w (sym first ∙ ap (λ n. slice_get wide (place_of n wide)) name ∙ second)

  variables_are : wide ≡ distinct wide
  variables_are = sym (distinct-same wide (renamed-rising names content.variables rises))

  pub HasValues-in_order : HasValues (renamed_meaning names content.variables (own_meaning content)) (record content { variables = wide })
  HasValues-in_order =
      HasValues-renamed names content automaton long one_order (record content { variables = wide }) refl variables_are IsRenamedBy-in_order automaton.ordered automaton.reduced

  pub IsAutomaton-in_order : IsAutomaton (record content { variables = wide })
  IsAutomaton-in_order =
      IsAutomaton-renamed names content automaton long one_order (record content { variables = wide }) refl variables_are IsRenamedBy-in_order automaton.ordered automaton.reduced

-- of variables whose numbers rise those of one number are one
pub HaveOneOrder-rising : (vs : List Variable) → AreRising vs → HaveOneOrder vs
HaveOneOrder-rising [] rising v w is also same = absurd is
HaveOneOrder-rising (u ∷ vs) rising v w is also same = ⊎_elim
    (λ here. ⊎_elim (λ also_here. sym here ∙ also_here)
    (λ there. let above = among-above u vs w (above-first u vs rising) there in let name = ap (λ (x : Variable). x.name) here in absurd (omega (arith, above, name, same))) also)
    (λ there. ⊎_elim
    (λ also_here. let above = among-above u vs v (above-first u vs rising) there in let name = ap (λ (x : Variable). x.name) also_here in absurd (omega (arith, above, name, same)))
    (λ also_there. HaveOneOrder-rising vs rising.1 v w there also_there same) also)
    is
