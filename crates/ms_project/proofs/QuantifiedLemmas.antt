-- The sign by the marks of all that words reach is right for the quantified body.
use Rattle.std.proofs.Common.{◌≡◌, ◌≢◌, ◌↔◌, ℕ, ◌⊎◌, inl, inr, ⊎_elim, Bool, true, false, if◌then◌else◌, IsTrue, List, [], ◌∷◌, slice_get, Some, None, refl, sym, ap, subst, ◌∙◌, arith}
use Rattle.std.proofs.lemmas.Bool.{false≢true}
use Rattle.std.proofs.lemmas.Option.{same_Some}
use Rattle.ms_list.specs.declared.word.Word.{Word}
use Rattle.ms_logic.specs.declared.mode.Mode.{Mode}
use Rattle.ms_logic.specs.declared.mode.Mode.TheVariants.{Ws1s, M2lStr}
use Rattle.ms_logic.specs.declared.mode.Order.{Order}
use Rattle.ms_logic.specs.declared.mode.Order.TheVariants.{Zero, One, Two}
use Rattle.ms_logic.specs.declared.mode.Quant.{Quant}
use Rattle.ms_logic.specs.declared.mode.Quant.TheVariants.{Ex, All}
use Rattle.ms_logic_words.specs.declared.sign.Sign.{Sign}
use Rattle.ms_logic_words.specs.declared.sign.Sign.TheVariants.{Yes, No, Undefined, Outside}
use Rattle.ms_logic.specs.declared.assignment.Value.{Value}
use Rattle.ms_logic.specs.declared.assignment.Value.TheVariants.{Truth, Number, Set}
use Rattle.ms_logic.specs.Assignment.{Universe, Env, Variable, IsAssignment, IsUniverseOf, IsValueOf, GivesEach, IsWithin, assign, value_at}
use Rattle.ms_logic_words.specs.Content.{Content, StateOf, IsWordOver, last_state, sign_of}
use Rattle.ms_logic_words.specs.inner.Decoding.{HaveOneBit, column_after}
use Rattle.ms_logic.specs.Lists.{AreRising, IsAmong}
use Rattle.ms_logic.specs.Truth.{SomeInRange, IsEmptyRange}
use Rattle.ms_logic_words.specs.Word.{Encodes, IsEncoding}
use Rattle.ms_logic_words.specs.WordSign.{IsOutside}
use Rattle.ms_logic_words.proofs.DecodedWords.{encodings_are}
use Rattle.ms_logic_words.proofs.WordLaws.{encoding_is_over}
use Rattle.ms_dfa.specs.Automaton.{IsAutomaton}
use Rattle.ms_arena.specs.declared.node.Ref.{Ref}
use Rattle.ms_arena.specs.declared.node.Node.{Node}
use Rattle.ms_dfa.specs.Narrow.{narrowed, ReadsThrough}
use Rattle.ms_dfa.specs.Values.{HasValues, own_meaning, sign_at_values}
use Rattle.ms_dfa.proofs.EncodingLemmas.{sign_of_encoding}
use Rattle.ms_dfa.proofs.NarrowLemmas.{narrowed_encodes, narrowed_assigned}
use Rattle.ms_dfa.proofs.OwnMeaningLemmas.{word_has_sign}
use Rattle.ms_dfa_explore.specs.Tracks.{places_among}
use Rattle.ms_dfa_explore.proofs.AmongLemmas.{reads_through_places}
use Rattle.ms_product.specs.Widened.{sign_in}
use Rattle.ms_product.proofs.WidenedLemmas.{sign_in-is}
use Rattle.ms_quotient.specs.declared.marks.Marks.{Marks}
use Rattle.ms_project.specs.Marks.{is_yes, is_number, marks_of, range_sign, empty_sign, sign_by, has_no_number, can_be_empty}
use Rattle.ms_project.specs.Quantified.{RangeOf, BodyAt, quantified}
use Rattle.ms_project.specs.Subsets.{IsLeftOut}
use Rattle.ms_project.proofs.ValueLemmas.{with_zeros, Allows, value, is_value, value_assigned, value_encoded, there_assigned, given_by, encoding-zeros}

-- which sign a mark tells of
record Tells (mark : Marks → Bool) (sign : Sign) : Type 0 where
  from : (body domain : Sign) → IsTrue (mark (marks_of body domain)) → (body ≡ sign) × (domain ≡ Yes)
  to : IsTrue (mark (marks_of sign Yes))
  inside : sign ≢ Outside

yes_only : (sign : Sign) → IsTrue (is_yes sign) → sign ≡ Yes
yes_only Yes is = refl
yes_only No is = absurd (false≢true is)
yes_only Undefined is = absurd (false≢true is)
yes_only Outside is = absurd (false≢true is)

tells_yes : Tells (λ m. m.yes) Yes
tells_yes = record { from = from_yes; to = refl; inside = (λ same. cc) }
  where
    from_yes : (body domain : Sign) → IsTrue (marks_of body domain).yes → (body ≡ Yes) × (domain ≡ Yes)
    from_yes Yes domain is = (refl, yes_only domain is)
    from_yes No domain is = absurd (false≢true is)
    from_yes Undefined domain is = absurd (false≢true is)
    from_yes Outside domain is = absurd (false≢true is)

tells_no : Tells (λ m. m.no) No
tells_no = record { from = from_no; to = refl; inside = (λ same. cc) }
  where
    from_no : (body domain : Sign) → IsTrue (marks_of body domain).no → (body ≡ No) × (domain ≡ Yes)
    from_no No domain is = (refl, yes_only domain is)
    from_no Yes domain is = absurd (false≢true is)
    from_no Undefined domain is = absurd (false≢true is)
    from_no Outside domain is = absurd (false≢true is)

tells_undefined : Tells (λ m. m.undefined) Undefined
tells_undefined = record { from = from_undefined; to = refl; inside = (λ same. cc) }
  where
    from_undefined : (body domain : Sign) → IsTrue (marks_of body domain).undefined → (body ≡ Undefined) × (domain ≡ Yes)
    from_undefined Undefined domain is = (refl, yes_only domain is)
    from_undefined Yes domain is = absurd (false≢true is)
    from_undefined No domain is = absurd (false≢true is)
    from_undefined Outside domain is = absurd (false≢true is)

encoding_inside : (body domain : Sign) → IsTrue (marks_of body domain).encoding → body ≢ Outside
encoding_inside Yes domain is same = cc
encoding_inside No domain is same = cc
encoding_inside Undefined domain is same = cc
encoding_inside Outside domain is same = false≢true is

inside_encoding : (body domain : Sign) → body ≢ Outside → IsTrue (marks_of body domain).encoding
inside_encoding Yes domain inside = refl
inside_encoding No domain inside = refl
inside_encoding Undefined domain inside = refl
inside_encoding Outside domain inside = absurd (inside refl)

-- a value of each order but that of numbers, and a number where there is one
some_value : (o : Order) (universe : Universe) → (is_number o ≡ true → IsValueOf One universe (Number 0)) → (v : Value) × IsValueOf o universe v
some_value Zero universe number = (Truth false, tt)
some_value One universe number = (Number 0, number refl)
some_value Two universe number = (Set [], (tt, tt))

-- no variable that is a number asks for a bit
none_asked : (vs : List Variable) (letters : List (List Bool)) (column : ℕ) → has_no_number vs ≡ true → HaveOneBit letters column vs
none_asked [] letters column none = tt
none_asked (v ∷ vs) letters column none = by_order v.order (none_asked vs letters) none
  where
    by_order : (o : Order) → ((behind : ℕ) → has_no_number vs ≡ true → HaveOneBit letters behind vs) → (if is_number o then false else has_no_number vs) ≡ true → HaveOneBit letters column (record v { order = o } ∷ vs)
    by_order Zero others is = (tt, others (column_after Zero column) is)
    by_order One others is = absurd (false≢true is)
    by_order Two others is = (tt, others (column_after Two column) is)

-- where a variable is a number, there is a least one
zero_within : (universe : Universe) (n : ℕ) → IsWithin universe n → IsWithin universe 0
zero_within None n within = tt
zero_within (Some size) n within = omega (arith, within)

least_within : (vs : List Variable) (e : Env) → GivesEach vs e → (has_no_number vs ≡ true → ⊥) → IsWithin e.universe 0
least_within [] e gives some = absurd (some refl)
least_within (v ∷ vs) e gives some = by_order v.order v.name (least_within vs e gives.1) gives.0 some
  where
    by_order : (o : Order) (x : ℕ) → ((has_no_number vs ≡ true → ⊥) → IsWithin e.universe 0) → IsValueOf o e.universe (value_at o x e) → ((if is_number o then false else has_no_number vs) ≡ true → ⊥) → IsWithin e.universe 0
    by_order Zero x others is has = others has
    by_order One x others is has = zero_within e.universe (e.number x) is
    by_order Two x others is has = others has

-- without encodings, and where there must be a value, the sign is Outside
outside_sign : (q : Quant) (empty : Bool) (some_yes some_no some_undefined encoding : Bool) → ¬ IsTrue empty → ¬ IsTrue encoding
    → sign_by q empty (record { yes = some_yes; no = some_no; undefined = some_undefined; encoding = encoding }) ≡ Outside
outside_sign q true some_yes some_no some_undefined encoding not_empty none = absurd (not_empty refl)
outside_sign q false some_yes some_no some_undefined true not_empty none = absurd (none refl)
outside_sign q false some_yes some_no some_undefined false not_empty none = refl

both_ways : {A B C : Type 0} → A ↔ B → B ↔ C → A ↔ C
both_ways first second = (λ a. second.0 (first.0 a), λ c. first.1 (second.1 c))

module _ (body domain : Content Sign) (body_is : IsAutomaton body) (domain_is : IsAutomaton domain) (modes : body.mode ≡ domain.mode)
    (among : (v : Variable) → IsAmong domain.variables v → IsAmong body.variables v) (rest : List Variable) (rising_rest : AreRising rest) (bound : ℕ) (into back : List ℕ)
    (out : IsLeftOut body.variables rest bound into back) (own : Variable) (own_there : slice_get body.variables bound ≡ Some own)
    (names : (place : ℕ) (v : Variable) → slice_get rest place ≡ Some v → v.name ≢ own.name) where
  abbrev domain_word : Word → Word
  domain_word = narrowed (places_among domain.variables body.variables) domain.variables body.variables

  abbrev body_sign : Word → Sign
  body_sign word = sign_in body (last_state body word)

  abbrev domain_sign : Word → Sign
  domain_sign word = sign_in domain (last_state domain (domain_word word))

  abbrev IsMet : Env → Type 0
  IsMet e = own_meaning domain e Yes

  -- a word over all variables that is this one over the rest, with zeros at its end, has the mark
  abbrev pub StandsFor : (Marks → Bool) → Word → Type 0
  StandsFor mark word =
      (steps : ℕ) × Allows body.mode steps
      × ((wide_word : Word) × IsWordOver body.variables wide_word × (narrowed into rest body.variables wide_word ≡ with_zeros rest steps word)
      × IsTrue (mark (marks_of (body_sign wide_word) (domain_sign wide_word))))

  body_signed : (word : Word) → sign_of body word ≡ Some (body_sign word)
  body_signed word = let found = word_has_sign body body_is.closed word in found.1 ∙ ap Some (sym (sign_in-is body (last_state body word) found.0 found.1))

  domain_signed : (word : Word) → sign_of domain (domain_word word) ≡ Some (domain_sign word)
  domain_signed word = let found = word_has_sign domain domain_is.closed (domain_word word) in found.1 ∙ ap Some (sym (sign_in-is domain (last_state domain (domain_word word)) found.0 found.1))

  -- the signs at an assignment of all variables
  module _ (g : Env) (assigned : IsAssignment body.mode body.variables g) (word : Word) (encodes : Encodes body.variables word g) where
    body_at : sign_at_values body g ≡ Some (body_sign word)
    body_at = sym (sign_of_encoding body body_is g assigned word encodes) ∙ body_signed word

    domain_at : sign_at_values domain g ≡ Some (domain_sign word)
    domain_at =
        let reads = reads_through_places domain.variables body.variables domain_is.rising body_is.rising among g in
        let assigned_there = subst (λ mode. IsAssignment mode domain.variables g) modes (narrowed_assigned (places_among domain.variables body.variables) domain.variables body.variables g g reads body.mode assigned) in
        sym (sign_of_encoding domain domain_is g assigned_there (domain_word word) (narrowed_encodes (places_among domain.variables body.variables) domain.variables body.variables g g reads word encodes))
        ∙ domain_signed word

    body_inside : body_sign word ≢ Outside
    body_inside same = (body_is.encodings word (encoding_is_over body.variables word g encodes)).0 (g, assigned, encodes) (body_signed word ∙ ap Some same)

  -- a word over all variables with another sign than Outside encodes an assignment
  encodes_some : (word : Word) → IsWordOver body.variables word → body_sign word ≢ Outside → IsEncoding body.mode body.variables word
  encodes_some word over inside = (body_is.encodings word over).1 (λ same. inside (same_Some (body_sign word) Outside (sym (body_signed word) ∙ same)))

  module _ (e : Env) (assigned : IsAssignment body.mode rest e) (word : Word) (encodes : Encodes rest word e) where
    -- marks tell of values in the range
    mark_tells : (mark : Marks → Bool) (sign : Sign) → Tells mark sign → StandsFor mark word ↔ SomeInRange (RangeOf own IsMet e) (BodyAt (own_meaning body) own e sign)
    mark_tells mark sign tells = (
      λ stands.
          let wide_word = stands.2.0 in
          let signs = tells.from (body_sign wide_word) (domain_sign wide_word) stands.2.3 in
          let found = encodes_some wide_word stands.2.1 (λ same. tells.inside (sym signs.0 ∙ same)) in
          let v = value body.mode body.variables rest body_is.rising rising_rest bound into back out own own_there names e assigned word encodes stands.0 stands.1 wide_word stands.2.2 found.0 found.1 found.2 in
          let g_assigned = value_assigned body.mode body.variables rest body_is.rising rising_rest bound into back out own own_there names e assigned word encodes stands.0 stands.1 wide_word stands.2.2 found.0 found.1 found.2 in
          let g_encodes = value_encoded body.mode body.variables rest body_is.rising rising_rest bound into back out own own_there names e assigned word encodes stands.0 stands.1 wide_word stands.2.2 found.0 found.1 found.2 in
          let g = assign own.name v e in (
            v,
            (
              is_value body.mode body.variables rest body_is.rising rising_rest bound into back out own own_there names e assigned word encodes stands.0 stands.1 wide_word stands.2.2 found.0 found.1 found.2,
              domain_at g g_assigned wide_word g_encodes ∙ ap Some signs.1,
            ),
            body_at g g_assigned wide_word g_encodes ∙ ap Some signs.0,
          ),
      λ some.
          let v = some.0 in
          let g_assigned = there_assigned body.mode body.variables rest body_is.rising rising_rest bound into back out own own_there names e assigned word encodes v some.1.0 in
          let given = given_by body.mode body.variables rest body_is.rising rising_rest bound into back out own own_there names e assigned word encodes v some.1.0 in
          let g = assign own.name v e in
          let body_same : body_sign given.1 ≡ sign = same_Some (body_sign given.1) sign (sym (body_at g g_assigned given.1 given.2.2) ∙ some.2) in
          let domain_same : domain_sign given.1 ≡ Yes = same_Some (domain_sign given.1) Yes (sym (domain_at g g_assigned given.1 given.2.2) ∙ some.1.1) in (
            given.0,
            given.2.0,
            (
              given.1,
              encoding_is_over body.variables given.1 g given.2.2,
              given.2.1,
              subst (λ s. IsTrue (mark (marks_of s (domain_sign given.1)))) (sym body_same) (subst (λ s. IsTrue (mark (marks_of sign s))) (sym domain_same) tells.to),
            ),
          ),
    )

    -- where there is a value, a word over all variables encodes an assignment
    value_stands : (v : Value) → IsValueOf own.order e.universe v → StandsFor (λ m. m.encoding) word
    value_stands v is =
        let g_assigned = there_assigned body.mode body.variables rest body_is.rising rising_rest bound into back out own own_there names e assigned word encodes v is in
        let given = given_by body.mode body.variables rest body_is.rising rising_rest bound into back out own own_there names e assigned word encodes v is in
        let g = assign own.name v e in (
          given.0,
          given.2.0,
          (given.1, encoding_is_over body.variables given.1 g given.2.2, given.2.1, inside_encoding (body_sign given.1) (domain_sign given.1) (body_inside g g_assigned given.1 given.2.2)),
        )

    -- each value of the range has a sign
    some_sign : (v : Value) → RangeOf own IsMet e v
        → BodyAt (own_meaning body) own e Yes v ⊎ (BodyAt (own_meaning body) own e No v ⊎ BodyAt (own_meaning body) own e Undefined v)
    some_sign v in_range =
        let g = assign own.name v e in
        let g_assigned = there_assigned body.mode body.variables rest body_is.rising rising_rest bound into back out own own_there names e assigned word encodes v in_range.0 in
        let given = given_by body.mode body.variables rest body_is.rising rising_rest bound into back out own own_there names e assigned word encodes v in_range.0 in
        by_sign (body_sign given.1) (body_at g g_assigned given.1 given.2.2) (body_inside g g_assigned given.1 given.2.2)
      where
        by_sign : (s : Sign) → sign_at_values body (assign own.name v e) ≡ Some s → s ≢ Outside
            → BodyAt (own_meaning body) own e Yes v ⊎ (BodyAt (own_meaning body) own e No v ⊎ BodyAt (own_meaning body) own e Undefined v)
        by_sign Yes is inside = inl is
        by_sign No is inside = inr (inl is)
        by_sign Undefined is inside = inr (inr is)
        by_sign Outside is inside = absurd (inside refl)

    abbrev SomeAt : Sign → Type 0
    SomeAt sign = SomeInRange (RangeOf own IsMet e) (BodyAt (own_meaning body) own e sign)

    no_value : (some_yes some_no some_undefined : Bool) → IsTrue some_yes ↔ SomeAt Yes → IsTrue some_no ↔ SomeAt No → IsTrue some_undefined ↔ SomeAt Undefined
        → some_yes ≡ false → some_no ≡ false → some_undefined ≡ false → IsEmptyRange (RangeOf own IsMet e)
    no_value some_yes some_no some_undefined yes_is no_is undefined_is not_yes not_no not_undefined v in_range = ⊎_elim
        (λ at. false≢true (sym not_yes ∙ yes_is.1 (v, in_range, at)))
        (λ other. ⊎_elim (λ at. false≢true (sym not_no ∙ no_is.1 (v, in_range, at))) (λ at. false≢true (sym not_undefined ∙ undefined_is.1 (v, in_range, at))) other)
        (some_sign v in_range)

    range_right : (q : Quant) (some_yes some_no some_undefined encoding : Bool) → IsTrue some_yes ↔ SomeAt Yes → IsTrue some_no ↔ SomeAt No → IsTrue some_undefined ↔ SomeAt Undefined
        → quantified q own IsMet (own_meaning body) e (range_sign q (record { yes = some_yes; no = some_no; undefined = some_undefined; encoding = encoding }))
    range_right Ex true some_no some_undefined encoding yes_is no_is undefined_is = yes_is.0 refl
    range_right Ex false true some_undefined encoding yes_is no_is undefined_is = ((λ v in_range at. false≢true (yes_is.1 (v, in_range, at))), inl (no_is.0 refl))
    range_right Ex false false true encoding yes_is no_is undefined_is = (
      λ some. false≢true (yes_is.1 some),
      λ is. ⊎_elim (λ some. false≢true (no_is.1 some)) (λ empty. let some = undefined_is.0 refl in empty some.0 some.1) is.1,
    )
    range_right Ex false false false encoding yes_is no_is undefined_is =
        ((λ v in_range at. false≢true (yes_is.1 (v, in_range, at))), inr (no_value false false false yes_is no_is undefined_is refl refl refl))
    range_right All some_yes true some_undefined encoding yes_is no_is undefined_is = no_is.0 refl
    range_right All true false some_undefined encoding yes_is no_is undefined_is = ((λ v in_range at. false≢true (no_is.1 (v, in_range, at))), inl (yes_is.0 refl))
    range_right All false false true encoding yes_is no_is undefined_is = (
      λ is. ⊎_elim (λ some. false≢true (yes_is.1 some)) (λ empty. let some = undefined_is.0 refl in empty some.0 some.1) is.1,
      λ some. false≢true (no_is.1 some),
    )
    range_right All false false false encoding yes_is no_is undefined_is =
        ((λ v in_range at. false≢true (no_is.1 (v, in_range, at))), inr (no_value false false false yes_is no_is undefined_is refl refl refl))

    empty_right : (q : Quant) → IsEmptyRange (RangeOf own IsMet e) → quantified q own IsMet (own_meaning body) e (empty_sign q)
    empty_right Ex empty = ((λ v in_range at. empty v in_range), inr empty)
    empty_right All empty = ((λ v in_range at. empty v in_range), inr empty)

    sign_right : (q : Quant) (empty : Bool) (some_yes some_no some_undefined encoding : Bool) → (IsTrue empty → (encoding ≡ false) → (v : Value) → ¬ IsValueOf own.order e.universe v) → (¬ IsTrue empty → IsTrue encoding)
        → IsTrue some_yes ↔ SomeAt Yes → IsTrue some_no ↔ SomeAt No → IsTrue some_undefined ↔ SomeAt Undefined
        → quantified q own IsMet (own_meaning body) e (sign_by q empty (record { yes = some_yes; no = some_no; undefined = some_undefined; encoding = encoding }))
    sign_right q empty some_yes some_no some_undefined true lacks has yes_is no_is undefined_is = range_right q some_yes some_no some_undefined true yes_is no_is undefined_is
    sign_right q true some_yes some_no some_undefined false lacks has yes_is no_is undefined_is = empty_right q (λ v in_range. lacks refl refl v in_range.0)
    sign_right q false some_yes some_no some_undefined false lacks has yes_is no_is undefined_is = absurd (false≢true (has false≢true))

  -- so an automaton with these signs has the values of the quantified body
  module _ (q : Quant) (nodes : List Node) (start : Ref) (states : List (StateOf Sign)) (met : Word → Marks) where
    abbrev pub automaton : Content Sign
    automaton = record { mode = body.mode; variables = rest; start = start; states = states; nodes = nodes }

    module _ (signed : (word : Word) → IsWordOver rest word → sign_of automaton word ≡ Some (sign_by q (can_be_empty body.mode rest) (met word)))
        (yes_stands : (word : Word) → IsWordOver rest word → IsTrue (met word).yes ↔ StandsFor (λ m. m.yes) word)
        (no_stands : (word : Word) → IsWordOver rest word → IsTrue (met word).no ↔ StandsFor (λ m. m.no) word)
        (undefined_stands : (word : Word) → IsWordOver rest word → IsTrue (met word).undefined ↔ StandsFor (λ m. m.undefined) word)
        (encoding_stands : (word : Word) → IsWordOver rest word → IsTrue (met word).encoding ↔ StandsFor (λ m. m.encoding) word) where
      number_within : (mode : Mode) → body.mode ≡ mode → (e : Env) → IsAssignment body.mode rest e → ¬ IsTrue (can_be_empty mode rest) → IsWithin e.universe 0
      number_within Ws1s is e assigned has = (let P : Universe → Type 0 = λ u. IsWithin u 0 in subst P (sym (subst (λ m. IsUniverseOf m e.universe) is assigned.universe)) tt)
      number_within M2lStr is e assigned has = least_within rest e assigned.values has

      -- a word over the rest is an encoding where one over all variables is
      encodes_rest : (word : Word) → IsWordOver rest word → StandsFor (λ m. m.encoding) word → IsEncoding body.mode rest word
      encodes_rest word over stands =
          let wide_word = stands.2.0 in
          let found = encodes_some wide_word stands.2.1 (encoding_inside (body_sign wide_word) (domain_sign wide_word) stands.2.3) in
          let reads : ReadsThrough into rest body.variables found.0 found.0 = record { universe = refl; values = λ place v there. (v, out.leads place v there, refl, refl) } in
          encoding-zeros body.mode rest rising_rest stands.0 word over (
            found.0,
            narrowed_assigned into rest body.variables found.0 found.0 reads body.mode found.1,
            subst (λ w. Encodes rest w found.0) stands.2.2 (narrowed_encodes into rest body.variables found.0 found.0 reads wide_word found.2),
          )

      -- in M2L-Str each word over a rest without numbers encodes an assignment
      never_empty : (mode : Mode) → body.mode ≡ mode → (word : Word) → IsWordOver rest word → IsOutside body.mode rest word → ¬ IsTrue (can_be_empty mode rest)
      never_empty Ws1s is word over outside empty = false≢true empty
      never_empty M2lStr is word over outside empty = outside ((encodings_are body.mode rest word rising_rest).1 (over, none_asked rest word.letters 0 empty))

      pub HasValues-quantified : HasValues (quantified q own IsMet (own_meaning body)) automaton
      HasValues-quantified = record {
        right = λ word e assigned encodes.
            let over = encoding_is_over rest word e encodes in
            let marks = met word in (
              sign_by q (can_be_empty body.mode rest) marks,
              signed word over,
              sign_right e assigned word encodes q (can_be_empty body.mode rest) marks.yes marks.no marks.undefined marks.encoding
                  (λ empty none v is. false≢true (sym none ∙ (encoding_stands word over).1 (value_stands e assigned word encodes v is)))
                  (λ must.
                  let found = some_value own.order e.universe (λ number. number_within body.mode refl e assigned must) in
                  (encoding_stands word over).1 (value_stands e assigned word encodes found.0 found.1))
                  (both_ways (yes_stands word over) (mark_tells e assigned word encodes (λ m. m.yes) Yes tells_yes))
                  (both_ways (no_stands word over) (mark_tells e assigned word encodes (λ m. m.no) No tells_no))
                  (both_ways (undefined_stands word over) (mark_tells e assigned word encodes (λ m. m.undefined) Undefined tells_undefined)),
            );
        outside = λ word over outside.
            let marks = met word in
            signed word over
            ∙ ap Some (outside_sign q (can_be_empty body.mode rest) marks.yes marks.no marks.undefined marks.encoding (never_empty body.mode refl word over outside)
            (λ encoding. outside (encodes_rest word over ((encoding_stands word over).0 encoding))));
      }
