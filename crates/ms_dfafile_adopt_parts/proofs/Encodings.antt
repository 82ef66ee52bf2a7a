-- A word over the variables of the pairs encodes an assignment just where it does as a word over the variables of the file.
use Rattle.std.proofs.Common.{◌≡◌, ◌≢◌, ℕ, ◌+◌, ◌↔◌, AllPairs, Bool, false, if◌then◌else◌, List, [], ◌∷◌, map, slice_get, slice_index, Some, unwrap_or, refl, sym, ap, subst, ◌∙◌, arith}
use Rattle.std.specs.Option.{option_map}
use Rattle.std.proofs.lemmas.List.{length-map}
use Rattle.std.proofs.lemmas.Option.{get_or_from_slice_get, same_Some, slice_get-map, slice_get_within, unwrap_or-slice_get}
use Rattle.ms_arena.specs.Diagram.{Bits}
use Rattle.ms_arena.proofs.Lists.{slice_get-held}
use Rattle.ms_build.proofs.PlaceLemmas.{length-by_place}
use Rattle.ms_build.proofs.WholeLemmas.{rising-by_place}
use Rattle.ms_dfa.proofs.OrdersLemmas.{orders_of}
use Rattle.ms_dfa.specs.Narrow.{ReadsThrough, gathered, narrowed_letter}
use Rattle.ms_dfa.specs.Narrow.{narrowed as narrowed_by}
use Rattle.ms_dfa.proofs.CoveredLemmas.{covered_encodes}
use Rattle.ms_dfa.proofs.NarrowLemmas.{narrowed_assigned, narrowed_encodes}
use Rattle.ms_dfa.specs.declared.plain.FileVar.{FileVar}
use Rattle.ms_dfa.specs.declared.plain.Plain.{Plain}
use Rattle.ms_diagram.specs.Bring.{read_through}
use Rattle.ms_dfafile.specs.File.{IsFile}
use Rattle.ms_dfafile_adopt.specs.Naming.{IsNaming}
use Rattle.ms_dfafile_adopt.specs.Readings.{own_variables}
use Rattle.ms_dfafile_adopt.proofs.VariableLemmas.{by_place-at}
use Rattle.ms_list.specs.declared.word.Word.{Word}
use Rattle.ms_logic.specs.Assignment.{Env, Variable, value_at}
use Rattle.ms_logic.specs.Lists.{AreRising}
use Rattle.ms_logic.specs.declared.checked.MapPair.{MapPair}
use Rattle.ms_logic.specs.declared.mode.Mode.{Mode}
use Rattle.ms_logic.specs.declared.mode.Order.{Order}
use Rattle.ms_logic.specs.declared.mode.Order.TheVariants.{Zero, One, Two}
use Rattle.ms_logic_measures.specs.Starts.{bits_for, given_bit, narrowed}
use Rattle.ms_logic_starts.specs.inner.Ranks.{rank}
use Rattle.ms_logic_starts.proofs.RankLemmas.{given_at, padded_at}
use Rattle.ms_logic_words.specs.Content.{IsWordOver, bits_at, is_in_letters, is_truth_value, padded}
use Rattle.ms_logic_words.specs.Word.{IsEncoding}
use Rattle.ms_project.proofs.RestLemmas.{gathered_as}
use Rattle.ms_rename_parts.proofs.Firsts.{bit_for, length-bits_for}
use Rattle.ms_dfafile_adopt_parts.specs.Files.{paired, variables_of_pairs}
use Rattle.ms_dfafile_adopt_parts.proofs.Naming.{is_there, named_at, order_distinct, order_rising, same_orders, stands}

-- what is gathered depends on the orders of the variables alone
gathered_same : (has_value : Order → Bool) (from : ℕ) (vs ws : List Variable) (bits : Bits) → orders_of ws ≡ orders_of vs → gathered has_value from vs bits ≡ gathered has_value from ws bits
gathered_same has_value from [] [] bits same = refl
gathered_same has_value from [] (w ∷ ws) bits same = cc
gathered_same has_value from (v ∷ vs) [] bits same = cc
gathered_same has_value from (v ∷ vs) (w ∷ ws) bits same =
    let first : v.order ≡ w.order = cc in
    let more : orders_of ws ≡ orders_of vs = cc in
    let rest = gathered_same has_value (from + 1) vs ws bits more in
    ap (λ (list : List Bool). if has_value v.order then bits from ∷ list else list) rest
    ∙ ap (λ o. if has_value o then bits from ∷ gathered has_value (from + 1) ws bits else gathered has_value (from + 1) ws bits) first

module _ (plain : Plain) (pairs : List MapPair) (file : IsFile plain) (apart : AllPairs (λ one other. one ≢ other) (map (λ (pair : MapPair). pair.name) pairs))
    (places : List ℕ) (naming : IsNaming plain pairs places) where
  abbrev own : List Variable
  own = own_variables plain

  abbrev us : List Variable
  us = map (paired pairs) plain.variables

  abbrev order : List Variable
  order = variables_of_pairs pairs

  abbrev file_orders : List Order
  file_orders = map (λ (variable : FileVar). variable.order) plain.variables

  own_rising : AreRising own
  own_rising = rising-by_place 0 file_orders

  bits_agree : (has_value : Order → Bool) (bits : List Bool) → gathered has_value 0 own (read_through places (bits_at (padded has_value order bits))) ≡ bits_for has_value order bits us
  bits_agree has_value bits =
      let wide : Bits = bits_at (padded has_value order bits) in
      let list = bits_for has_value order bits us in
      gathered_same has_value 0 own us (read_through places wide) (same_orders plain pairs)
      ∙ gathered_as has_value us (read_through places wide) 0 list (length-bits_for has_value order bits us) (λ i u held holds.
      let place = (named_at plain pairs file apart places naming i u held).place in
      let there = stands plain pairs file apart places naming i u held in
      let here : 0 + i ≡ i = omega arith in
      ap (read_through places wide) here
      ∙ ap wide (sym place)
      ∙ padded_at has_value order bits u.name u there holds
      ∙ sym (unwrap_or-slice_get bits (rank has_value u.name order) false)
      ∙ ap (λ found. unwrap_or found false) (sym (given_at has_value order bits u.name u (order_distinct plain pairs file apart places naming) there holds))
      ∙ sym (get_or_from_slice_get list (rank has_value i us) (unwrap_or (given_bit has_value order bits u.name) false) false (bit_for has_value order bits us i u held holds))
      ∙ sym (padded_at has_value us list i u held holds))

  letters_agree : (letters : List (List Bool)) → map (narrowed_letter places own order) letters ≡ map (λ letter. bits_for is_in_letters order letter us) letters
  letters_agree [] = refl
  letters_agree (letter ∷ letters) =
      let first = bits_agree is_in_letters letter in
      let more = letters_agree letters in
      λ i. first i ∷ more i

  words_agree : (word : Word) → narrowed_by places own order word ≡ narrowed order word us
  words_agree word =
      let truth = bits_agree is_truth_value word.truth in
      let letters = letters_agree word.letters in
      λ i. record { truth = truth i; letters = letters i }

  -- an assignment of the pairs' variables, read by the file's
  abbrev read_env : Env → Env
  read_env e = record {
    universe = e.universe;
    truth = λ x. e.truth (slice_index places x);
    number = λ x. e.number (slice_index places x);
    set = λ x. e.set (slice_index places x);
  }

  value_read : (o : Order) (x : ℕ) (e : Env) → value_at o x (read_env e) ≡ value_at o (slice_index places x) e
  value_read Zero x e = refl
  value_read One x e = refl
  value_read Two x e = refl

  -- the variable that stands at the same place, by its pair
  beside : (i : ℕ) (v : Variable) → slice_get own i ≡ Some v → (u : Variable) × (slice_get us i ≡ Some u) × (u.order ≡ v.order) × (v.name ≡ i)
  beside i v held =
      let at = by_place-at 0 file_orders i v held in
      let name = at.0 in
      let orders : slice_get (orders_of us) i ≡ Some v.order = ap (λ (os : List Order). slice_get os i) (same_orders plain pairs) ∙ ordered own i v held in
      let found = unordered us i v.order orders in
      (found.0, found.1, found.2, omega (arith, name))
    where
      ordered : (vs : List Variable) (i : ℕ) (v : Variable) → slice_get vs i ≡ Some v → slice_get (orders_of vs) i ≡ Some v.order
      ordered vs i v held = slice_get-map (λ (w : Variable). w.order) vs i ∙ ap (option_map (λ (w : Variable). w.order)) held

      unordered : (vs : List Variable) (i : ℕ) (o : Order) → slice_get (orders_of vs) i ≡ Some o → (u : Variable) × (slice_get vs i ≡ Some u) × (u.order ≡ o)
      unordered vs i o held =
          let long = length-map vs (λ (w : Variable). w.order) in
          let within = slice_get_within (orders_of vs) i o held in
          let here = slice_get-held vs i (omega (arith, within, long)) in
          (here.0, here.1, same_Some here.0.order o (sym (ordered vs i here.0 here.1) ∙ held))

  reads : (e : Env) → ReadsThrough places own order (read_env e) e
  reads e = record {
    universe = refl;
    values = λ i v held.
        let u = beside i v held in
        let place = (named_at plain pairs file apart places naming i u.0 u.1).place in (
          u.0,
          ap (slice_get order) (sym place) ∙ stands plain pairs file apart places naming i u.0 u.1,
          u.2,
          value_read v.order v.name e ∙ ap (λ n. value_at v.order (slice_index places n) e) u.3 ∙ ap (λ n. value_at v.order n e) (sym place) ∙ ap (λ o. value_at o u.0.name e) (sym u.2),
        );
  }

  narrow_encodes : (mode : Mode) (word : Word) → IsEncoding mode order word → IsEncoding mode own (narrowed_by places own order word)
  narrow_encodes mode word encoding =
      let e = encoding.0 in (
        read_env e,
        narrowed_assigned places own order (read_env e) e (reads e) mode encoding.1,
        narrowed_encodes places own order (read_env e) e (reads e) word encoding.2,
      )

  wide_encodes : (mode : Mode) (word : Word) → IsWordOver order word → IsEncoding mode own (narrowed_by places own order word) → IsEncoding mode order word
  wide_encodes mode word over encoding =
      covered_encodes mode order word (order_rising plain pairs file apart places naming) over (λ j w held number.
      let found = is_there plain pairs file apart places naming j w held in
      let within = slice_get_within us found.0 w found.1 in
      let long = length-map plain.variables (paired pairs) in
      let own_long = length-by_place 0 file_orders in
      let files = length-map plain.variables (λ (variable : FileVar). variable.order) in
      let v = slice_get-held own found.0 (omega (arith, within, long, own_long, files)) in
      let u = beside found.0 v.0 v.1 in
      record {
        map = places;
        narrow = own;
        rising = own_rising;
        encoding = encoding;
        own = found.0;
        variable = v.0;
        there = v.1;
        number = sym u.2 ∙ ap (λ (x : Variable). x.order) (same_Some u.0 w (sym u.1 ∙ found.1)) ∙ number;
        leads = found.2;
      })

  pub file_encodes : (mode : Mode) (word : Word) → IsWordOver order word → IsEncoding mode order word ↔ IsEncoding mode own (narrowed order word us)
  file_encodes mode word over = (
    λ encoding. subst (IsEncoding mode own) (words_agree word) (narrow_encodes mode word encoding),
    λ encoding. wide_encodes mode word over (subst (IsEncoding mode own) (sym (words_agree word)) encoding),
  )
