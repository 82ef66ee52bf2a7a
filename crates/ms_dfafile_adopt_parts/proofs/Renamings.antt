-- The automaton of a file lacks nodes, once its variables are those of the pairs, only below the measure of the call, and what is made of it
-- has no more parts: starts that lead both the file and the full content of `true` to one reference lead it to one.
use Rattle.std.proofs.Common.{◌≡◌, ◌≢◌, ℕ, zero, suc, ◌+◌, ◌<◌, ◌≤◌, ◌↔◌, ⊎_elim, AllPairs, Bool, if◌then◌else◌, List, [], ◌∷◌, ◌++◌, length, map, get_or, slice_get, Some, refl, sym, ap, subst, ◌∙◌, arith}
use Rattle.std.specs.Option.{option_map}
use Rattle.std.proofs.lemmas.Bool.{cases_lt, eq-eqb, ne_eqb}
use Rattle.std.proofs.lemmas.List.{length-map, map-append}
use Rattle.std.proofs.lemmas.Option.{none-some, same_Some, slice_get-map, slice_get_within}
use Rattle.ms_arena.specs.Diagram.{Bits}
use Rattle.ms_arena.proofs.Lists.{slice_get-held}
use Rattle.ms_build_parts.specs.SaySame.{AreComparable}
use Rattle.ms_build_parts.proofs.Matching.{over_same}
use Rattle.ms_dfa.proofs.OrdersLemmas.{orders_of}
use Rattle.ms_rename.proofs.LeastLemmas.{closed_same, differ_same, over, sign_same}
use Rattle.ms_build_steps.proofs.WideBodies.{encoding_same}
use Rattle.ms_build_steps.proofs.Widenings.{full_tells}
use Rattle.ms_dfa.specs.Automaton.{IsAutomaton}
use Rattle.ms_dfa.specs.Files.{content_of_file}
use Rattle.ms_dfa.specs.declared.plain.Plain.{Plain}
use Rattle.ms_dfa.proofs.EncodingLemmas.{encoding_or_not}
use Rattle.ms_dfa.proofs.OwnMeaningLemmas.{last_within, sign_outside}
use Rattle.ms_dfa_explore.specs.Tracks.{place_of, distinct as distinct_tracks}
use Rattle.ms_dfafile.specs.File.{IsFile}
use Rattle.ms_dfafile_adopt.specs.Naming.{IsNaming}
use Rattle.ms_dfafile_adopt.specs.Readings.{AgreesWithFile, own_sign, own_variables}
use Rattle.ms_list.specs.declared.word.Word.{Word}
use Rattle.ms_logic.specs.Assignment.{Variable}
use Rattle.ms_logic.specs.Truth.{Answer, Import}
use Rattle.ms_logic.specs.declared.checked.MapPair.{MapPair}
use Rattle.ms_logic.specs.declared.mode.Mode.{Mode}
use Rattle.ms_logic.specs.declared.mode.Order.{Order}
use Rattle.ms_logic.specs.declared.mode.Mode.TheVariants.{M2lStr}
use Rattle.ms_logic_core.specs.CoreForm.{truth}
use Rattle.ms_logic_measures.specs.CallMeasures.{HasReachedParts, IsAdoptMeasure, LeadToPairs, LeadsToReferences, LeaveSame, LeaveSameOfBoth, call_measure}
use Rattle.ms_logic_measures.specs.FullContent.{IsFullContent}
use Rattle.ms_logic_measures.specs.Starts.{IsStartOver, Start, bits_for, left_by, narrowed}
use Rattle.ms_logic_starts.specs.AtLeast.{IsAtLeastNumber}
use Rattle.ms_logic_starts.specs.ContentStarts.{HaveDistinctNumbers}
use Rattle.ms_logic_starts.proofs.AtLeastLemmas.{at_most_count}
use Rattle.ms_logic_starts.proofs.RankLemmas.{bits_for_own}
use Rattle.ms_logic_starts.proofs.RisingLemmas.{rising_distinct}
use Rattle.ms_logic_words.specs.Content.{AreLetters, Content, IsClosed, IsWordOver, is_in_letters, is_truth_value, last_state, sign_at, sign_of, state_after}
use Rattle.ms_logic_words.specs.Word.{IsEncoding}
use Rattle.ms_logic_words.specs.declared.sign.Sign.{Sign}
use Rattle.ms_logic_words.specs.declared.sign.Sign.TheVariants.{Outside}
use Rattle.ms_logic_words.specs.Residual.{IsLeast}
use Rattle.ms_minim.proofs.LettersLemmas.{over-with_letters, sign_of-with_letters, state_after-append, with_letters}
use Rattle.ms_minim_canonical.proofs.ContentLemmas.{IsClosed-content}
use Rattle.ms_product.specs.Pairing.{ReachedAreAtLeast}
use Rattle.ms_product.specs.declared.op.Op.TheVariants.{And}
use Rattle.ms_rename.specs.Renamed.{HasPartsOf, NeedsAtLeast, Rises, beside_itself, renamed, renamed_places}
use Rattle.ms_rename.proofs.DiagonalLemmas.{needs_by_itself}
use Rattle.ms_rename.proofs.OrderLemmas.{distinct-same, renamed-rising}
use Rattle.ms_rename.proofs.RenamedLemmas.{renamed-at}
use Rattle.ms_rename_parts.proofs.Firsts.{length-bits_for, letters_back, letters_over}
use Rattle.ms_calls.proofs.ConnectiveLemmas.{below_measure}
use Rattle.ms_calls.proofs.Pairs.{leave_same_of_both}
use Rattle.ms_calls.proofs.Parts.{reached_parts_are_parts}
use Rattle.ms_rename_parts.proofs.RenameParts.{apart as starts_lead_apart}
use Rattle.ms_dfafile_adopt_parts.specs.Files.{content_for, paired, variables_of_pairs}
use Rattle.ms_dfafile_adopt_parts.proofs.Completed.{led, whole_of, whole_over}
use Rattle.ms_dfafile_adopt_parts.proofs.Encodings.{file_encodes}
use Rattle.ms_dfafile_adopt_parts.proofs.Filed.{measured_closed, run_alike}
use Rattle.ms_dfafile_adopt_parts.proofs.Naming.{in_pair_order, named_at, order_distinct, order_rising, same_orders, stands, vs_distinct}

-- where no two variables have one number, each stands at the place of its number
place_is : (us : List Variable) → HaveDistinctNumbers us → (i : ℕ) (v : Variable) → slice_get us i ≡ Some v → place_of v.name us ≡ i
place_is [] distinct i v held = absurd (none-some v held)
place_is (w ∷ us) distinct zero v held =
    ap (λ test. if test then 0 else suc (place_of v.name us)) (eq-eqb w.name v.name (ap (λ (u : Variable). u.name) (same_Some w v held)))
place_is (w ∷ us) distinct (suc i) v held =
    ap (λ test. if test then 0 else suc (place_of v.name us)) (ne_eqb w.name v.name (λ same. let never = distinct 0 (suc i) w v refl held same in omega (arith, never)))
    ∙ ap suc (place_is us (λ one two x y first second same. let equal = distinct (suc one) (suc two) x y first second same in omega (arith, equal)) i v held)

-- a word over variables is that word over themselves
own_letters : (vs : List Variable) → HaveDistinctNumbers vs → (letters : List (List Bool)) → AreLetters vs letters → map (λ letter. bits_for is_in_letters vs letter vs) letters ≡ letters
own_letters vs distinct [] are = refl
own_letters vs distinct (letter ∷ letters) are =
    let first = bits_for_own is_in_letters vs letter distinct are.0 in
    let more = own_letters vs distinct letters are.1 in
    λ i. first i ∷ more i

own_word : (vs : List Variable) → HaveDistinctNumbers vs → (word : Word) → IsWordOver vs word → narrowed vs word vs ≡ word
own_word vs distinct word is_over =
    let first = bits_for_own is_truth_value vs word.truth distinct is_over.truth in
    let more = own_letters vs distinct word.letters is_over.letters in
    λ i. record { truth = first i; letters = more i }

-- lists that have the same items
same_list : {X : Type 0} (xs ys : List X) → length xs ≡ length ys → ((i : ℕ) (x : X) → slice_get xs i ≡ Some x → slice_get ys i ≡ Some x) → xs ≡ ys
same_list [] [] long each = refl
same_list [] (y ∷ ys) long each = absurd (omega (arith, long))
same_list (x ∷ xs) [] long each = absurd (omega (arith, long))
same_list (x ∷ xs) (y ∷ ys) long each =
    let head = same_Some y x (each 0 x refl) in
    let tail = same_list xs ys (omega (arith, long)) (λ i. each (suc i)) in
    λ j. sym head j ∷ tail j

-- a variable at a place, and one of the same order there
order_at : (vs ws : List Variable) → orders_of vs ≡ orders_of ws → (i : ℕ) (v : Variable) → slice_get vs i ≡ Some v → (w : Variable) × (slice_get ws i ≡ Some w) × (v.order ≡ w.order)
order_at vs ws same i v held =
    let long = length-map vs (λ (u : Variable). u.order) in
    let also = length-map ws (λ (u : Variable). u.order) in
    let equal = ap length same in
    let within = slice_get_within vs i v held in
    let there = slice_get-held ws i (omega (arith, within, long, also, equal)) in
    let one = slice_get-map (λ (u : Variable). u.order) vs i ∙ ap (option_map (λ (u : Variable). u.order)) held in
    let other = slice_get-map (λ (u : Variable). u.order) ws i ∙ ap (option_map (λ (u : Variable). u.order)) there.1 in
    (there.0, there.1, same_Some v.order there.0.order (sym one ∙ ap (λ (list : List Order). slice_get list i) same ∙ other))

length-renamed : (names : List ℕ) (vs : List Variable) → length names ≡ length vs → length (renamed names vs) ≡ length vs
length-renamed [] [] long = refl
length-renamed [] (v ∷ vs) long = absurd (omega (arith, long))
length-renamed (name ∷ names) [] long = absurd (omega (arith, long))
length-renamed (name ∷ names) (v ∷ vs) long = (let others = length-renamed names vs (omega (arith, long)) in omega (arith, others))

module _ (imports : List Import) (mode : Mode) (plain : Plain) (pairs : List MapPair) (file : IsFile plain)
    (apart : AllPairs (λ one other. one ≢ other) (map (λ (pair : MapPair). pair.name) pairs))
    (encodings : Content Sign) (full : IsFullContent imports mode (variables_of_pairs pairs) truth encodings)
    (places : List ℕ) (naming : IsNaming plain pairs places) (own : Content Sign) (agrees : AgreesWithFile plain mode own) (automaton : IsAutomaton own) (least : IsLeast own) where
  abbrev order : List Variable
  order = variables_of_pairs pairs

  abbrev us : List Variable
  us = map (paired pairs) plain.variables

  abbrev measured : Content Answer
  measured = content_for pairs plain

  -- the automaton, over the variables by the places of their pairs
  abbrev moved : Content Sign
  moved = over own.mode us own

  abbrev tells : Content Sign
  tells = over encodings.mode order encodings

  orders : orders_of us ≡ orders_of own.variables
  orders = same_orders plain pairs ∙ ap (λ (vs : List Variable). orders_of vs) (sym agrees.variables_are)

  tells_orders : orders_of order ≡ orders_of encodings.variables
  tells_orders = ap (λ (vs : List Variable). orders_of vs) (sym full.same_variables)

  distinct : HaveDistinctNumbers us
  distinct = vs_distinct plain pairs file apart places naming

  moved_closed : IsClosed moved
  moved_closed = closed_same own own.mode us orders automaton.closed

  tells_closed : IsClosed tells
  tells_closed = closed_same encodings encodings.mode order tells_orders (IsClosed-content encodings full.canonical.rules)

  places_long : length places ≡ length own.variables
  places_long =
      let one = naming.long in
      let two = length-map own.variables (λ (v : Variable). v.order) in
      let three = length-map us (λ (v : Variable). v.order) in
      let four = length-map plain.variables (paired pairs) in
      let equal = ap length orders in
      omega (arith, one, two, three, four, equal)

  us_long : length own.variables ≡ length us
  us_long =
      let one = naming.long in
      let two = places_long in
      let four = length-map plain.variables (paired pairs) in
      omega (arith, one, two, four)

  -- free bits of the variables by their pairs, in the order of the pairs
  abbrev turned : Bits → Bits
  turned rest = λ at. rest (place_of at us)

  read_us : (rest : Bits) (i : ℕ) (v : Variable) → slice_get us i ≡ Some v → (at : ℕ) × (slice_get order at ≡ Some v) × (rest i ≡ turned rest at)
  read_us rest i v held = (v.name, stands plain pairs file apart places naming i v held, ap rest (sym (place_is us distinct i v held)))

  abbrev whole : Bits → Start → Word
  whole rest start = whole_of order (order_distinct plain pairs file apart places naming) (turned rest) start

  module _ (one other : Start) (is_one : IsStartOver order one) (is_other : IsStartOver order other) (same : LeaveSameOfBoth measured tells order one other) (rest : Bits) where
    abbrev both : HaveDistinctNumbers order
    both = order_distinct plain pairs file apart places naming

    -- the words to which both starts are completed, and those words over the variables of the file
    abbrev first : Word
    first = whole rest one

    abbrev second : Word
    second = whole rest other

    first_over : IsWordOver order first
    first_over = whole_over order both (turned rest) one is_one

    second_over : IsWordOver order second
    second_over = whole_over order both (turned rest) other is_other

    same_file : last_state measured (narrowed order first us) ≡ last_state measured (narrowed order second us)
    same_file =
        sym (led order both (turned rest) measured rest file.content.ordered (measured_closed plain pairs file) (read_us rest) one)
        ∙ same.0 rest
        ∙ led order both (turned rest) measured rest file.content.ordered (measured_closed plain pairs file) (read_us rest) other

    led_tells : (start : Start) → IsStartOver order start → left_by tells order start (turned rest) ≡ last_state tells (whole rest start)
    led_tells start is =
        led order both (turned rest) tells (turned rest) full.canonical.rules.ordered tells_closed (λ i v held. (i, held, refl)) start
        ∙ ap (last_state tells) (own_word order both (whole rest start) (whole_over order both (turned rest) start is))

    same_tells : last_state tells first ≡ last_state tells second
    same_tells = sym (led_tells one is_one) ∙ same.1 (turned rest) ∙ led_tells other is_other

    -- behind them the same letters have one sign
    module _ (letters : List (List Bool)) (are : AreLetters us letters) where
      abbrev wide_letters : List (List Bool)
      wide_letters = map (λ letter. bits_for is_in_letters us letter order) letters

      back : (word : Word) → narrowed order (with_letters word wide_letters) us ≡ with_letters (narrowed order word us) letters
      back word =
          let all = map-append (λ letter. bits_for is_in_letters order letter us) word.letters wide_letters
          ∙ ap (λ (more : List (List Bool)). map (λ letter. bits_for is_in_letters order letter us) word.letters ++ more)
          (letters_back us order (renamed_places places own.variables) distinct (in_pair_order plain pairs file apart places naming own.variables us_long places_long) letters are) in
          λ i. record { truth = bits_for is_truth_value order word.truth us; letters = all i }

      wide_over : (word : Word) → IsWordOver order word → IsWordOver order (with_letters word wide_letters)
      wide_over word is_over =
          over-with_letters order word wide_letters is_over
          (letters_over us order (renamed_places places own.variables) distinct (in_pair_order plain pairs file apart places naming own.variables us_long places_long) letters)

      -- a word of the file encodes an assignment just where the full content of `true` says so
      abbrev Inside : ℕ → Type 0
      Inside state = sign_at tells (state_after tells state wide_letters) ≢ Some Outside

      encodes : (word : Word) → IsWordOver order word → IsEncoding M2lStr (own_variables plain) (with_letters (narrowed order word us) letters) ↔ Inside (last_state tells word)
      encodes word is_over =
          let long = with_letters word wide_letters in
          let is_long = wide_over word is_over in
          let told = full_tells imports mode order truth encodings full (order_rising plain pairs file apart places naming) M2lStr order (order_rising plain pairs file apart places naming) refl long is_long in
          let filed = file_encodes plain pairs file apart places naming M2lStr long is_long in
          let sign : sign_of encodings long ≡ sign_at tells (state_after tells (last_state tells word) wide_letters) =
          sym (sign_same encodings encodings.mode order tells_orders long) ∙ sign_of-with_letters tells word wide_letters in (
            λ encoding. subst (λ s. s ≢ Some Outside) sign (told.0 (filed.1 (subst (IsEncoding M2lStr (own_variables plain)) (sym (back word)) encoding))),
            λ inside. subst (IsEncoding M2lStr (own_variables plain)) (back word) (filed.0 (told.1 (subst (λ s. s ≢ Some Outside) (sym sign) inside))),
          )

      abbrev narrow : Word → Word
      narrow word = with_letters (narrowed order word us) letters

      file_says : (word : Word) → IsEncoding M2lStr (own_variables plain) (narrow word)
          → sign_of own (narrow word) ≡ option_map own_sign (sign_at (content_of_file plain) (state_after measured (last_state measured (narrowed order word us)) letters))
      file_says word encoding =
          agrees.signs (narrow word) encoding
          ∙ ap (λ state. option_map own_sign (sign_at (content_of_file plain) state)) (run_alike plain pairs (narrow word) ∙ with_state word)
        where
          with_state : (word : Word) → last_state measured (narrow word) ≡ state_after measured (last_state measured (narrowed order word us)) letters
          with_state word = state_after-append measured _ (narrowed order word us).letters letters

      over_own : (word : Word) → IsWordOver order word → IsWordOver own.variables (narrow word)
      over_own word is_over =
          over_same us own.variables (narrow word) (sym orders)
          (over-with_letters us (narrowed order word us) letters (narrowed_over word) are)
        where
          narrowed_over : (word : Word) → IsWordOver us (narrowed order word us)
          narrowed_over word = record { truth = length-bits_for is_truth_value order word.truth us; letters = lettered word.letters }
            where
              lettered : (ls : List (List Bool)) → AreLetters us (map (λ letter. bits_for is_in_letters order letter us) ls)
              lettered [] = tt
              lettered (letter ∷ ls) = (length-bits_for is_in_letters order letter us, lettered ls)

      to_file : (word : Word) → IsEncoding own.mode own.variables (narrow word) → IsEncoding M2lStr (own_variables plain) (narrow word)
      to_file word encoding =
          subst (λ vs. IsEncoding M2lStr vs (narrow word)) agrees.variables_are (encoding_same own.mode M2lStr own.variables own.variables refl automaton.rising automaton.rising (narrow word) encoding)

      to_own : (word : Word) → IsEncoding M2lStr (own_variables plain) (narrow word) → IsEncoding own.mode own.variables (narrow word)
      to_own word encoding =
          encoding_same M2lStr own.mode own.variables own.variables refl automaton.rising automaton.rising (narrow word) (subst (λ vs. IsEncoding M2lStr vs (narrow word)) (sym agrees.variables_are) encoding)

      one_sign : sign_of own (narrow first) ≡ sign_of own (narrow second)
      one_sign = ⊎_elim
          (λ encoding.
          let here = to_file first encoding in
          let there = (encodes second second_over).1 (subst Inside same_tells ((encodes first first_over).0 here)) in
          file_says first here
          ∙ ap (λ state. option_map own_sign (sign_at (content_of_file plain) (state_after measured state letters))) same_file
          ∙ sym (file_says second there))
          (λ outside.
          sign_outside own automaton (narrow first) (over_own first first_over) outside
          ∙ sym (sign_outside own automaton (narrow second) (over_own second second_over) (λ encoding.
          outside (to_own first ((encodes first first_over).1 (subst Inside (sym same_tells) ((encodes second second_over).0 (to_file second encoding))))))))
          (encoding_or_not own.mode own.variables (narrow first) automaton.rising (over_own first first_over))

      one_residual : sign_at moved (state_after moved (last_state moved (narrowed order first us)) letters) ≡ sign_at moved (state_after moved (last_state moved (narrowed order second us)) letters)
      one_residual =
          sym (sign_of-with_letters moved (narrowed order first us) letters)
          ∙ sign_same own own.mode us orders (narrow first)
          ∙ one_sign
          ∙ sym (sign_same own own.mode us orders (narrow second))
          ∙ sign_of-with_letters moved (narrowed order second us) letters

    pub leave_one : left_by moved order one rest ≡ left_by moved order other rest
    leave_one =
        led order both (turned rest) moved rest automaton.ordered moved_closed (read_us rest) one
        ∙ differ_same own own.mode us orders least.differ (last_state moved (narrowed order first us)) (last_state moved (narrowed order second us))
        (last_within moved moved_closed (narrowed order first us)) (last_within moved moved_closed (narrowed order second us)) one_residual
        ∙ sym (led order both (turned rest) moved rest automaton.ordered moved_closed (read_us rest) other)

  comparable : AreComparable own moved
  comparable = record {
    ordered = automaton.ordered;
    closed = automaton.closed;
    own = rising_distinct own.variables automaton.rising;
    reached = least.reached;
    differ = least.differ;
    other_ordered = automaton.ordered;
    other_closed = moved_closed;
    distinct = distinct;
    same = record { orders = orders; signs = λ word is_over. sign_same own own.mode us orders word };
  }

  is_over : encodings ≡ tells
  is_over = λ i. record { mode = encodings.mode; variables = full.same_variables i; start = encodings.start; states = encodings.states; nodes = encodings.nodes }

  pub over_pairs : (m : ℕ) → LeadToPairs measured encodings encodings.variables m → LeadToPairs measured tells order m
  over_pairs m counted = subst (λ (c : Content Sign). LeadToPairs measured c c.variables m) is_over counted

  -- starts in the order of the pairs lead both apart, as many as it needs
  module _ (limit : ℕ) (short : NeedsAtLeast limit own (renamed_places places own.variables)) where
    few : (m : ℕ) → LeadToPairs measured tells order m → limit ≤ m
    few m counted =
        let lead : IsAtLeastNumber (LeaveSame moved order) (IsStartOver order) (length short.nodes + length own.states) =
        starts_lead_apart own moved comparable order (renamed_places places own.variables) (in_pair_order plain pairs file apart places naming own.variables us_long places_long) limit short in
        let both : IsAtLeastNumber (LeaveSameOfBoth measured tells order) (IsStartOver order) (length short.nodes + length own.states) = record {
          chosen = lead.chosen;
          items = lead.items;
          different = λ i j d before within same.
              lead.different i j d before within (leave_one (get_or lead.chosen i d) (get_or lead.chosen j d) (lead.items i d (omega (arith, before, within))) (lead.items j d within) same);
          count = lead.count;
        } in
        let less = at_most_count (LeaveSameOfBoth measured tells order) (IsStartOver order) (leave_same_of_both measured tells order) (length short.nodes + length own.states) m both counted in
        let many = short.many in
        omega (arith, less, many)

    pub renaming_is_below : (m r : ℕ) → IsAdoptMeasure measured encodings m r → limit < call_measure m r
    renaming_is_below m r measure =
        let least = few m (over_pairs m measure.made) in
        below_measure limit m r (omega (arith, least))

  -- what is made of it has no more parts than starts in the order of the pairs lead both to
  module _ (made : Content Sign) (made_automaton : IsAutomaton made) (made_mode : made.mode ≡ mode) (made_variables : made.variables ≡ order)
      (renamed_are : made.variables ≡ distinct_tracks (renamed places own.variables)) (m n : ℕ) (counted : LeadToPairs measured tells order m) (mine : HasReachedParts made n) where
    module _ (rises : Rises places) (parts : HasPartsOf own made) where
      names_are : order ≡ renamed places own.variables
      names_are = sym made_variables ∙ renamed_are ∙ distinct-same (renamed places own.variables) (renamed-rising places own.variables rises)

      us_are : us ≡ renamed places own.variables
      us_are = same_list us (renamed places own.variables) (let long = ap length names_are in let same = renamed_long in omega (arith, long, same, us_long)) (λ i v held.
          let is = named_at plain pairs file apart places naming i v held in
          let at = order_at us own.variables orders i v held in
          renamed-at places own.variables i at.0 places_long at.1
          ∙ (λ j. Some (record { name = sym is.place j; order = sym at.2 j })))
        where
          renamed_long : length (renamed places own.variables) ≡ length own.variables
          renamed_long = length-renamed places own.variables places_long

      is_moved : made ≡ moved
      is_moved = λ i. record {
        mode = (made_mode ∙ sym agrees.mode_is) i;
        variables = (made_variables ∙ names_are ∙ sym us_are) i;
        start = parts.start i;
        states = parts.states i;
        nodes = parts.nodes i;
      }

      few_in_order : n ≤ m
      few_in_order =
          let lead : LeadsToReferences moved order n = subst (λ vs. LeadsToReferences moved vs n) (us_are ∙ sym names_are) (subst (λ (c : Content Sign). HasReachedParts c n) is_moved mine) in
          let both : IsAtLeastNumber (LeaveSameOfBoth measured tells order) (IsStartOver order) n = record {
            chosen = lead.chosen;
            items = lead.items;
            different = λ i j d before within same.
                lead.different i j d before within (leave_one (get_or lead.chosen i d) (get_or lead.chosen j d) (lead.items i d (omega (arith, before, within))) (lead.items j d within) same);
            count = (let all = lead.count in omega (arith, all));
          } in
          at_most_count (LeaveSameOfBoth measured tells order) (IsStartOver order) (leave_same_of_both measured tells order) n m both counted

    few_turned : ReachedAreAtLeast (length made.nodes + length made.states) And (beside_itself own (renamed_places places own.variables)) → n ≤ m
    few_turned size =
        let all = few (length made.nodes + length made.states) (needs_by_itself own (renamed_places places own.variables) (length made.nodes + length made.states) size) m counted in
        let parts = reached_parts_are_parts made made_automaton n mine in
        omega (arith, all, parts)

    pub few_parts : (Rises places → HasPartsOf own made)
        → (¬ Rises places → ReachedAreAtLeast (length made.nodes + length made.states) And (beside_itself own (renamed_places places own.variables))) → n ≤ m
    few_parts in_order turned_round = ⊎_elim
        (λ less.
        let falls : Rises places → ⊥ = λ rises. let few_here = few_in_order rises (in_order rises) in omega (arith, few_here, less) in
        let few_there = few_turned (turned_round falls) in
        omega (arith, few_there, less))
        (λ most. omega (arith, most))
        (cases_lt m n)
