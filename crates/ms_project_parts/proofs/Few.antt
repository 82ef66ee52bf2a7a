-- What a projection needs beside its product has starts that lead apart.
use Rattle.std.proofs.Common.{◌≡◌, ◌≢◌, ℕ, ◌+◌, ◌<◌, ◌≤◌, ⊎_elim, List, length, slice_get, slice_index, Option, Some, None, refl, sym, ap, subst, ◌∙◌, arith}
use Rattle.std.proofs.lemmas.Bool.{cases_lt}
use Rattle.std.proofs.lemmas.Option.{slice_get_within}
use Rattle.ms_arena.specs.Bits.{below_from}
use Rattle.ms_arena.specs.Diagram.{Bits, IsOrdered, IsReduced, end_at, leaf_of}
use Rattle.ms_arena.specs.Target.{IsNeeded}
use Rattle.ms_arena.specs.declared.node.Node.{Node}
use Rattle.ms_arena.specs.declared.node.Ref.{Ref}
use Rattle.ms_arena.specs.declared.node.Ref.TheVariants.{Inner}
use Rattle.ms_arena.proofs.BitsLemmas.{below_from-first}
use Rattle.ms_arena.proofs.Lists.{slice_get-held}
use Rattle.ms_arena.proofs.Paths.{leaf_of-node}
use Rattle.ms_dfa_explore.specs.Explored.{IsFound, Origin, target_of}
use Rattle.ms_diagram.specs.Bring.{read_through}
use Rattle.ms_diagram.specs.Collect.{IsSetNumbering}
use Rattle.ms_logic.specs.Assignment.{Variable}
use Rattle.ms_logic.specs.Lists.{without}
use Rattle.ms_logic_measures.specs.CallMeasures.{IsNumberOf, LeadToSameSet}
use Rattle.ms_logic_measures.specs.Starts.{IsStartOver}
use Rattle.ms_logic_starts.specs.AtLeast.{IsEquivalence}
use Rattle.ms_logic_starts.specs.NeededApart.{AreLedTo, IsLedTo}
use Rattle.ms_logic_starts.proofs.AtLeastLemmas.{at_most_count}
use Rattle.ms_logic_starts.proofs.NeededApartLemmas.{needed_lead_apart}
use Rattle.ms_logic_words.specs.Content.{Content}
use Rattle.ms_logic_words.specs.declared.sign.Sign.{Sign}
use Rattle.ms_product.specs.Pairing.{IsNeededForSome}
use Rattle.ms_project.specs.Subsets.{sets_behind}
use Rattle.ms_project.specs.Subsetting.{AreReachedNumbers, Subsetting, paired, sets_at, sets_at_start, subset_findings}
use Rattle.ms_project_parts.specs.inner.Matched.{IsProjected}
use Rattle.ms_project_parts.proofs.Needed.{LeadsTo, led_by_letter, led_by_truth, led_number, one_function}

-- to lead to the same set is an equivalence
pub same_set : {Domain : Type 0} (body : Content Sign) (domain : Content Domain) (x : Variable) → IsEquivalence (LeadToSameSet body domain x)
same_set body domain x = record {
  symmetric = λ one other alike. (alike.1, alike.0);
  transitive = λ one two three first second. (
    λ bits long.
        let to = first.0 bits long in
        let further = second.0 to.0 to.1 in
        (further.0, further.1, (λ rest. to.2.0 rest ∙ further.2.0 rest, λ rest. to.2.1 rest ∙ further.2.1 rest)),
    λ bits long.
        let to = second.1 bits long in
        let further = first.1 to.0 to.1 in
        (further.0, further.1, (λ rest. to.2.0 rest ∙ further.2.0 rest, λ rest. to.2.1 rest ∙ further.2.1 rest)),
  );
}

-- over the places of the rest a set stands where it stands over all places
all_places : (content : Content Sign) (back : List ℕ) (bound : ℕ) (sets : List (List ℕ)) (found : Option (List ℕ)) (bits : Bits) (number : ℕ)
    → sets_behind content back bound sets found bits number → sets_at content bound sets found (read_through back bits) number
all_places content back bound sets None bits number right = right
all_places content back bound sets (Some from) bits number right = right

module _ {Domain : Type 0} (v : Subsetting) (body : Content Sign) (domain : Content Domain) (x : Variable) (at : ℕ → ℕ) (setting : IsProjected v body domain x at) (numbering : IsSetNumbering v.sets)
    (reached : AreReachedNumbers v) where
  abbrev others : List Variable
  others = without x.name body.variables

  abbrev IsLed : List Node → (Bits → Bits) → Ref → Type 0
  IsLed nodes read reference = IsLedTo (IsStartOver others) (LeadsTo v body domain x at setting nodes read) reference

  inside : (place : ℕ) (w : Variable) → slice_get body.variables place ≡ Some w → place ≢ v.bound → slice_index v.back place < length others
  inside place w held other = slice_get_within others (slice_index v.back place) w (setting.are.out.stays place w held other).0

  -- a node of the store of the answer, which has its bits over the places of the rest
  module _ (nodes : List Node) (ordered : IsOrdered nodes) (reduced : IsReduced nodes) (i : ℕ) (node : Node) (held : slice_get nodes i ≡ Some node) where
    abbrev rest_read : Bits → Bits
    rest_read bits = read_through v.back bits

    record IsTop : Type 0 where
      level : ℕ
      few : level ≤ length others
      same : (first bits : Bits) (place : ℕ) → place < length others → below_from node.var first bits place ≡ below_from level first bits place

    top : IsTop
    top = ⊎_elim
        (λ less. record { level = node.var; few = omega (arith, less); same = λ first bits place within. refl })
        (λ past. record {
          level = length others;
          few = omega arith;
          same = λ first bits place within. below_from-first node.var first bits place (omega (arith, past, within)) ∙ sym (below_from-first (length others) first bits place within);
        })
        (cases_lt node.var (length others))

    abbrev wide : Bits → Bits → Bits
    wide first bits = read_through v.back (below_from node.var first bits)

    rest_put : (first bits : Bits) (place : ℕ) (w : Variable) → slice_get body.variables place ≡ Some w → place ≢ v.bound
        → wide first bits place ≡ below_from top.level first (λ any. rest_read bits place) (slice_index v.back place)
    rest_put first bits place w is other = top.same first bits (slice_index v.back place) (inside place w is other)

    pub rest_led : (origin : Origin) → IsFound (subset_findings v) origin → IsNeeded nodes (target_of (subset_findings v) origin) node → IsLed nodes rest_read (Inner i)
    rest_led None found needed =
        led_by_truth v body domain x at setting numbering nodes rest_read i (slice_get_within nodes i node held) ordered reduced
        top.level needed.0 (wide needed.0) top.few (λ bits place w is other. rest_put needed.0 bits place w is other)
        (λ bits. subst (sets_at_start (paired v) v.bound v.sets (wide needed.0 bits)) (sym (leaf_of-node nodes ordered bits i node held)) (needed.1 bits))
    rest_led (Some number) found needed =
        led_by_letter v body domain x at setting numbering nodes rest_read i (slice_get_within nodes i node held) ordered reduced
        top.level needed.0 (wide needed.0) top.few (λ bits place w is other. rest_put needed.0 bits place w is other)
        number (reached number found)
        (λ bits. subst (sets_at (paired v) v.bound v.sets (slice_get v.sets number) (wide needed.0 bits)) (sym (leaf_of-node nodes ordered bits i node held))
        (all_places (paired v) v.back v.bound v.sets (slice_get v.sets number) (below_from node.var needed.0 bits) (leaf_of nodes (end_at node bits) bits) (needed.1 bits)))

  module _ (m : ℕ) (counted : IsNumberOf (LeadToSameSet body domain x) (IsStartOver others) m) where
    few_by : (nodes : List Node) (read : Bits → Bits) (old more count : ℕ) → IsOrdered nodes → IsReduced nodes
        → AreLedTo (IsStartOver others) (LeadsTo v body domain x at setting nodes read) nodes old more count → more + count ≤ m
    few_by nodes read old more count ordered reduced led =
        at_most_count (LeadToSameSet body domain x) (IsStartOver others) (same_set body domain x) (more + count) m
        (needed_lead_apart (IsStartOver others) (LeadToSameSet body domain x) (LeadsTo v body domain x at setting nodes read) nodes old more count led ordered reduced
        (one_function v body domain x at setting numbering nodes read))
        counted

    -- the nodes of the store of the answer, and the sets
    pub few_rest : (outer : List Node) → IsOrdered outer → IsReduced outer → ((place : ℕ) (node : Node) → slice_get outer place ≡ Some node → IsNeededForSome outer (subset_findings v) node) → length outer + length v.sets ≤ m
    few_rest outer ordered reduced needed =
        few_by outer (λ bits. read_through v.back bits) 0 (length outer) (length v.sets) ordered reduced (record {
          within = omega arith;
          places = λ i from below.
              let held = slice_get-held outer i (omega (arith, below)) in
              let is = needed i held.0 held.1 in
              rest_led outer ordered reduced i held.0 held.1 is.0 is.1 is.2;
          numbers = λ number within. led_number v body domain x at setting numbering outer (λ bits. read_through v.back bits) number (reached number within);
        })
