-- Letters over all variables and letters over the rest.
use Rattle.std.proofs.Common.{◌≡◌, ℕ, suc, ◌+◌, ⊎_elim, Bool, true, false, IsTrue, if◌then◌else◌, List, [], ◌∷◌, length, slice_get, slice_index, Some, refl, sym, ap, ◌∙◌, arith}
use Rattle.std.proofs.lemmas.Bool.{cases_eq}
use Rattle.ms_arena.specs.declared.node.Ref.{Ref}
use Rattle.ms_arena.specs.declared.node.Node.{Node}
use Rattle.ms_arena.specs.Diagram.{Bits, leaf_of, IsValid, IsOrdered}
use Rattle.ms_arena.specs.Reach.{TestsOnly}
use Rattle.ms_arena.proofs.BitsLemmas.{with_bit-same, with_bit-other}
use Rattle.ms_arena.proofs.ReachLemmas.{leaf_of-tested}
use Rattle.ms_diagram.specs.Bring.{read_through}
use Rattle.ms_logic.specs.declared.mode.Order.{Order}
use Rattle.ms_logic.specs.Assignment.{Variable}
use Rattle.ms_logic_words.specs.Content.{HasValueAt, count_of, bits_at, padded, head_bit, tail_bits}
use Rattle.ms_dfa.specs.Narrow.{gathered}
use Rattle.ms_dfa.proofs.GatheredLemmas.{gathered_at, length-gathered}
use Rattle.ms_dfa.proofs.NarrowLemmas.{leaf_of-gathered}
use Rattle.ms_project.specs.Subsets.{IsLeftOut, opened}

module _ (has_value : Order → Bool) where
  -- bits that are, at the places of the variables, those of a list padded over them are gathered to that list
  pub gathered_as : (vs : List Variable) (bits : Bits) (from : ℕ) (list : List Bool) → length list ≡ count_of has_value vs
      → ((place : ℕ) (v : Variable) → slice_get vs place ≡ Some v → IsTrue (has_value v.order) → bits (from + place) ≡ bits_at (padded has_value vs list) place)
      → gathered has_value from vs bits ≡ list
  gathered_as [] bits from [] long same = refl
  gathered_as [] bits from (bit ∷ list) long same = absurd (omega (arith, long))
  gathered_as (v ∷ vs) bits from list long same = by_test (gathered_as vs bits (from + 1)) (has_value v.order) refl list long same
    where
      by_test : ((values : List Bool) → length values ≡ count_of has_value vs
          → ((place : ℕ) (u : Variable) → slice_get vs place ≡ Some u → IsTrue (has_value u.order) → bits (from + 1 + place) ≡ bits_at (padded has_value vs values) place)
          → gathered has_value (from + 1) vs bits ≡ values)
          → (test : Bool) → has_value v.order ≡ test → (values : List Bool) → length values ≡ (if test then count_of has_value vs + 1 else count_of has_value vs)
          → ((place : ℕ) (u : Variable) → slice_get (v ∷ vs) place ≡ Some u → IsTrue (has_value u.order) → bits (from + place)
          ≡ bits_at (if test then head_bit values ∷ padded has_value vs (tail_bits values) else false ∷ padded has_value vs values) place)
          → (if test then bits from ∷ gathered has_value (from + 1) vs bits else gathered has_value (from + 1) vs bits) ≡ values
      by_test behind true is [] l s = absurd (omega (arith, l))
      by_test behind true is (bit ∷ values) l s =
          let here : from ≡ from + 0 = omega arith in
          let more = behind values (omega (arith, l)) (λ place u there with_value.
          let later : from + 1 + place ≡ from + suc place = omega arith in
          ap bits later ∙ s (suc place) u there with_value) in
          ap (λ (rest : List Bool). bits from ∷ rest) more ∙ ap (λ (b : Bool). b ∷ values) (ap bits here ∙ s 0 v refl is)
      by_test behind false is values l s = behind values l (λ place u there with_value.
          let later : from + 1 + place ≡ from + suc place = omega arith in
          ap bits later ∙ s (suc place) u there with_value)

  module _ (wide rest : List Variable) (bound : ℕ) (into back : List ℕ) (out : IsLeftOut wide rest bound into back) where
    -- values over all variables, from those over the rest and a bit for the bound place
    abbrev pub widened : List Bool → Bool → List Bool
    widened values bit = gathered has_value 0 wide (opened back bound (bits_at (padded has_value rest values)) bit)

    pub length-widened : (values : List Bool) (bit : Bool) → length (widened values bit) ≡ count_of has_value wide
    length-widened values bit = length-gathered has_value wide (opened back bound (bits_at (padded has_value rest values)) bit) 0

    -- over the rest they are the same
    pub widened-narrowed : (values : List Bool) (bit : Bool) → length values ≡ count_of has_value rest
        → gathered has_value 0 rest (read_through into (bits_at (padded has_value wide (widened values bit)))) ≡ values
    widened-narrowed values bit long =
        gathered_as rest (read_through into (bits_at (padded has_value wide (widened values bit)))) 0 values long (λ place v there with_value.
        let bits = bits_at (padded has_value rest values) in
        let here : 0 + place ≡ place = omega arith in
        let at : 0 + slice_index into place ≡ slice_index into place = omega arith in
        ap (read_through into (bits_at (padded has_value wide (widened values bit)))) here
        ∙ gathered_at has_value wide (opened back bound bits bit) 0 (slice_index into place) v (out.leads place v there) with_value
        ∙ ap (opened back bound bits bit) at
        ∙ with_bit-other (read_through back bits) bound bit (slice_index into place) (out.apart place v there)
        ∙ ap bits (out.round place v there))

    module _ (nodes : List Node) (ordered : IsOrdered nodes) (root : Ref) (valid : IsValid nodes root) (tests : TestsOnly nodes (HasValueAt wide has_value) root) where
      -- a diagram leads by them where it leads by the opened bits
      pub leaf_of-widened : (values : List Bool) (bit : Bool)
          → leaf_of nodes root (bits_at (padded has_value wide (widened values bit))) ≡ leaf_of nodes root (opened back bound (bits_at (padded has_value rest values)) bit)
      leaf_of-widened values bit = leaf_of-gathered nodes has_value wide root (opened back bound (bits_at (padded has_value rest values)) bit) ordered valid tests

      -- and by any values over all variables where it leads by those over the rest and their bit at the bound place
      pub leaf_of-opened : (own values : List Bool) → gathered has_value 0 rest (read_through into (bits_at (padded has_value wide own))) ≡ values
          → leaf_of nodes root (opened back bound (bits_at (padded has_value rest values)) (bits_at (padded has_value wide own) bound)) ≡ leaf_of nodes root (bits_at (padded has_value wide own))
      leaf_of-opened own values same =
          let bits = bits_at (padded has_value wide own) in
          let narrow = bits_at (padded has_value rest values) in
          leaf_of-tested nodes ordered root (opened back bound narrow (bits bound)) bits valid (λ var tested.
          let at = tests var tested in
          ⊎_elim
          (λ is_bound. ap (opened back bound narrow (bits bound)) is_bound ∙ with_bit-same (read_through back narrow) bound (bits bound) ∙ ap bits (sym is_bound))
          (λ other.
          let stays = out.stays var at.0 at.1 other in
          let here : 0 + slice_index back var ≡ slice_index back var = omega arith in
          with_bit-other (read_through back narrow) bound (bits bound) var other
          ∙ ap (λ (list : List Bool). bits_at (padded has_value rest list) (slice_index back var)) (sym same)
          ∙ gathered_at has_value rest (read_through into bits) 0 (slice_index back var) at.0 stays.0 at.2
          ∙ ap (read_through into bits) here
          ∙ ap bits stays.1)
          (cases_eq var bound))
