-- The file itself, the automaton of its numbers, and the two side by side lack nodes only below the measure of the call.
use Rattle.std.proofs.Common.{◌≡◌, ℕ, ◌+◌, ◌*◌, ◌<◌, ◌≤◌, ⊎_elim, zero, suc, false, List, [], ◌∷◌, length, map, sym, subst, arith}
use Rattle.std.proofs.Math.Nat.{mul-le-mul}
use Rattle.std.proofs.lemmas.List.{length-map}
use Rattle.ms_build.proofs.WholeLemmas.{rising-by_place}
use Rattle.ms_build_parts.specs.Labels.{IsLabelledBelow}
use Rattle.ms_build_parts.proofs.Labels.{closed_contents}
use Rattle.ms_build_parts.proofs.ProductParts.{products_need_few_labels}
use Rattle.ms_dfa.specs.Automaton.{IsAutomaton}
use Rattle.ms_dfa.specs.Files.{content_of_file}
use Rattle.ms_dfa.specs.declared.plain.FileSign.{FileSign}
use Rattle.ms_dfa.specs.declared.plain.FileState.{FileState}
use Rattle.ms_dfa.specs.declared.plain.FileVar.{FileVar}
use Rattle.ms_dfa.specs.declared.plain.Plain.{Plain}
use Rattle.ms_dfa_explore.specs.Tracks.{merged}
use Rattle.ms_dfa_explore.proofs.TracksLemmas.{merged-left, merged-right, merged-rising}
use Rattle.ms_dfafile.specs.File.{IsFile}
use Rattle.ms_dfafile_adopt.specs.Import.{HasVariables}
use Rattle.ms_dfafile_adopt.specs.Readings.{own_variables}
use Rattle.ms_dfafile_adopt.specs.Short.{AreNumbers, NumbersLack, ProductLacks, StringsLack, side_by_side}
use Rattle.ms_dfafile_adopt.proofs.NumberLemmas.{equal_orders}
use Rattle.ms_logic.specs.Assignment.{Variable}
use Rattle.ms_logic.specs.Lists.{AreRising}
use Rattle.ms_logic.specs.Truth.{Import}
use Rattle.ms_logic.specs.declared.checked.MapPair.{MapPair}
use Rattle.ms_logic.specs.declared.mode.Mode.{Mode}
use Rattle.ms_logic_core.specs.CoreForm.{truth}
use Rattle.ms_logic_measures.specs.CallMeasures.{IsAdoptMeasure, LeaveSameOfBoth, call_measure}
use Rattle.ms_logic_measures.specs.FullContent.{IsFullContent, part_count}
use Rattle.ms_logic_measures.specs.Starts.{IsStartOver}
use Rattle.ms_logic_starts.specs.ContentStarts.{HaveDistinctNumbers}
use Rattle.ms_logic_starts.proofs.AtLeastLemmas.{at_most_count}
use Rattle.ms_logic_starts.proofs.ReachedPartsLemmas.{canonical_reached}
use Rattle.ms_logic_starts.proofs.RisingLemmas.{rising_distinct}
use Rattle.ms_logic_words.specs.Content.{Content, StateOf}
use Rattle.ms_logic_words.specs.declared.sign.Sign.{Sign}
use Rattle.ms_product.specs.Combined.{HaveEqualOrders}
use Rattle.ms_product.specs.Pairing.{AreAtLeast, HaveRisingMaps, operands_of}
use Rattle.ms_product.specs.declared.op.Op.{Op}
use Rattle.ms_product.proofs.WidenedLemmas.{IsRisingMap-among}
use Rattle.ms_rename.specs.Whole.{IsSmallWhole}
use Rattle.ms_calls.proofs.ConnectiveLemmas.{below_measure}
use Rattle.ms_calls.proofs.Pairs.{leave_same_of_both}
use Rattle.ms_minim_canonical.proofs.ContentLemmas.{IsClosed-content}
use Rattle.ms_dfafile_adopt_parts.specs.Files.{answering, content_for, variables_of_pairs}
use Rattle.ms_dfafile_adopt_parts.proofs.NumberCounts.{few_numbers}
use Rattle.ms_dfafile_adopt_parts.proofs.NumberLabels.{number_labels}

-- twice a product of two numbers that are read is below the measure
products_are_below : (limit a b m r : ℕ) → limit ≤ 2 * (a * b) → a + b ≤ r → limit < call_measure m r
products_are_below limit a b m r needs read =
    let sum = m + r + 2 in
    let pairs : a * b ≤ sum * sum = mul-le-mul (let less : a ≤ sum = omega (arith, read) in less) (let less : b ≤ sum = omega (arith, read) in less) in
    let two : 2 ≤ sum = omega arith in
    let some : 2 * 2 ≤ sum * sum = mul-le-mul two two in
    omega (arith, needs, pairs, some)

-- so is twice a product of one that is read beside a file, and is no more than the number that is made, with at most 32
small_products_are_below : (limit a b file m r : ℕ) → limit ≤ 2 * (a * b) → b ≤ 32 → 1 ≤ file → a ≤ m → r ≡ file + a → limit < call_measure m r
small_products_are_below limit a b file m r needs few some made read =
    let sum = m + r + 2 in
    let products : a * b ≤ a * 32 = mul-le-mul (let same : a ≤ a = omega arith in same) few in
    let large : 2 * a + 3 ≤ sum = omega (arith, some, made, read) in
    let square : (2 * a + 3) * (2 * a + 3) ≤ sum * sum = mul-le-mul large large in
    let flat : (2 * a + 3) * (2 * a + 3) ≡ 4 * (a * a) + 12 * a + 9 = grind arith in
    let twice : 2 * a ≤ a * a + 1 = twice_below a in
    omega (arith, needs, products, square, flat, twice)
  where
    twice_below : (n : ℕ) → 2 * n ≤ n * n + 1
    twice_below zero = omega arith
    twice_below (suc n) =
        let flat : suc n * suc n ≡ n * n + 2 * n + 1 = grind arith in
        omega (arith, flat)

-- and what is less than 32
small_limits_are_below : (limit m r : ℕ) → limit < 32 → 1 ≤ r → limit < call_measure m r
small_limits_are_below limit m r few some =
    let three : 3 ≤ m + r + 2 = omega (arith, some) in
    let square : 3 * 3 ≤ (m + r + 2) * (m + r + 2) = mul-le-mul three three in
    omega (arith, few, square)

module _ (imports : List Import) (mode : Mode) (plain : Plain) (pairs : List MapPair) (file : IsFile plain) (named : HasVariables plain pairs)
    (encodings : Content Sign) (full : IsFullContent imports mode (variables_of_pairs pairs) truth encodings) where
  abbrev own : List Variable
  own = own_variables plain

  own_rising : AreRising own
  own_rising = rising-by_place 0 (map (λ (variable : FileVar). variable.order) plain.variables)

  numbers_labelled : (numbers : Content Sign) (count : ℕ) → IsAutomaton numbers → AreNumbers own count numbers → IsLabelledBelow numbers (part_count encodings)
  numbers_labelled numbers count automaton are =
      number_labels numbers automaton are.least.reached are.least.differ are.tells.values are.tells.only_numbers
      imports mode (variables_of_pairs pairs) (rising-by_place 0 (map (λ (pair : MapPair). pair.order) pairs)) encodings full
      (few_numbers plain pairs file named numbers.variables automaton.rising are.tells.among are.tells.only_numbers)

  file_parts : part_count (content_for pairs plain) ≡ length plain.states + length plain.nodes
  file_parts = let states = length-map plain.states answering in omega (arith, states)

  -- a file has a state
  file_some : 1 ≤ part_count (content_for pairs plain)
  file_some =
      let within = (IsClosed-content (content_of_file plain) file.content).start.states (λ place. false) in
      let as_state : FileState → StateOf FileSign = λ state. record { sign = state.sign; next = state.next } in
      let states = length-map plain.states as_state in
      let parts = file_parts in
      omega (arith, within, states, parts)

  -- starts lead the full content of `true` to no more references than both
  reached_few : (m r : ℕ) → IsAdoptMeasure (content_for pairs plain) encodings m r → part_count encodings ≤ m
  reached_few m r measure =
      let measured = content_for pairs plain in
      let vs = encodings.variables in
      let own_numbers = subst HaveDistinctNumbers (sym full.same_variables) (rising_distinct (variables_of_pairs pairs) (rising-by_place 0 (map (λ (pair : MapPair). pair.order) pairs))) in
      let counted = canonical_reached encodings full.canonical own_numbers in
      let many = counted.count in
      at_most_count (LeaveSameOfBoth measured encodings vs) (IsStartOver vs) (leave_same_of_both measured encodings vs) (part_count encodings) m
      (record { chosen = counted.chosen; items = counted.items; different = λ i j d before within same. counted.different i j d before within same.1; count = omega (arith, many) }) measure.made

  module _ (limit m r : ℕ) (measure : IsAdoptMeasure (content_for pairs plain) encodings m r) where
    read : r ≡ part_count (content_for pairs plain) + part_count encodings
    read = measure.read

    numbers_are_below : NumbersLack limit own → limit < call_measure m r
    numbers_are_below lacks = ⊎_elim (λ few. small_limits_are_below limit m r few (let some = file_some in let is = read in omega (arith, some, is))) (λ found. by found.0 found.1 found.2) lacks.short
      where
        by : (other : Content Sign) → IsSmallWhole (lacks.number ∷ []) other → AreAtLeast limit Op.And (operands_of lacks.before other) → limit < call_measure m r
        by other small least =
            let before = lacks.before in
            let wide = merged before.variables other.variables in
            let equal = subst (HaveEqualOrders before.variables) (sym small.whole.variables) (equal_orders own own_rising lacks.count lacks.number lacks.here before lacks.are.tells) in
            let rises : AreRising wide = merged-rising before.variables other.variables lacks.automaton.rising small.automaton.rising in
            let maps : HaveRisingMaps (operands_of before other) = record {
              left = IsRisingMap-among before.variables wide lacks.automaton.rising rises (λ v there. merged-left before.variables other.variables v there);
              right = IsRisingMap-among other.variables wide small.automaton.rising rises
                  (λ v there. merged-right before.variables other.variables v (λ u is_left same. equal u v is_left there same) there);
            } in
            let needs = products_need_few_labels Op.And (operands_of before other) (part_count encodings) (part_count other) maps
            (numbers_labelled before lacks.count lacks.automaton lacks.are) (closed_contents other small.automaton.ordered small.automaton.closed) limit least in
            let few = small.few in
            small_products_are_below limit (part_count encodings) (part_count other) (part_count (content_for pairs plain)) m r needs (omega (arith, few)) file_some (reached_few m r measure) read

    product_is_below : ProductLacks limit plain → limit < call_measure m r
    product_is_below lacks =
        let said = lacks.said in
        let is = lacks.is_said in
        let numbers = lacks.numbers in
        let maps : HaveRisingMaps (side_by_side said numbers own) = record {
          left = IsRisingMap-among said.variables said.variables is.automaton.rising is.automaton.rising (λ v there. there);
          right = IsRisingMap-among numbers.variables own lacks.automaton.rising own_rising lacks.are.tells.among;
        } in
        let needs = products_need_few_labels Op.And (side_by_side said numbers own) (part_count said) (part_count encodings) maps
        (closed_contents said is.automaton.ordered is.automaton.closed) (numbers_labelled numbers (length own) lacks.automaton lacks.are) limit lacks.short in
        let states = is.states in
        let nodes = is.nodes in
        let parts = file_parts in
        let is_read = read in
        products_are_below limit (part_count said) (part_count encodings) m r needs (omega (arith, is_read, states, nodes, parts))

    pub strings_are_below : StringsLack limit plain → limit < call_measure m r
    strings_are_below lacks = ⊎_elim
        (λ large. let parts = file_parts in let is_read = read in below_measure limit m r (omega (arith, large, parts, is_read)))
        (λ more. ⊎_elim numbers_are_below product_is_below more)
        lacks
