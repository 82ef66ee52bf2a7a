-- The last n bits of a set.
use Rattle.std.proofs.Common.{◌≡◌, ◌≢◌, ℕ, zero, suc, ◌+◌, ◌-◌, ◌*◌, ◌/◌, ◌%◌, ◌^◌, ◌<◌, ◌≤◌, ◌==◌, ⊎_elim, Bool, true, false, if◌then◌else◌, List, refl, sym, ap, subst, ◌∙◌, arith}
use Rattle.std.proofs.Math.Nat.{add-mul-div_left, add-mul-mod_self_left, div-div-eq-div-mul, div-eq_of_lt, div-one, mod-eq_of_lt, mod-one, mul-mod_right, pow-le-pow_right, pow-suc, zero-mod}
use Rattle.std.proofs.lemmas.Bool.{cases_lt, ne_eqb}
use Rattle.std.proofs.lemmas.Nat.{div-add-mod', pow_pos}
use Rattle.ms_logic.specs.FiniteSet.{is_member, moved_up}
use Rattle.ms_logic.proofs.Members.{is_member-moved_up, is_member-moved_up_below}
use Rattle.ms_basic.specs.States.{states_of}
use Rattle.ms_basic.specs.declared.moved.Direction.{Direction}
use Rattle.ms_basic.specs.declared.moved.Direction.TheVariants.{Up, Down}
use Rattle.ms_basic.specs.inner.Moved.{moved_form}
use Rattle.ms_basic.specs.inner.Windows.{shifted}

-- the bits of a set below a position, the last of which counts 1
abbrev pub window_of : List ℕ → ℕ → ℕ
window_of members zero = 0
window_of members (suc position) = shifted (window_of members position) (is_member position members)

abbrev pub bit_value : Bool → ℕ
bit_value bit = if bit then 1 else 0

pub bit_small : (bit : Bool) → bit_value bit < 2
bit_small true = omega arith
bit_small false = omega arith

-- a window by its rest at a size
parts : (window quotient rest size value : ℕ) → quotient * size + rest ≡ window → 2 * window + value ≡ 2 * rest + value + size * (2 * quotient)
parts window quotient rest size value is = omega (arith, is)

shifted_parts : (window size : ℕ) (bit : Bool) → shifted window bit ≡ shifted (window % size) bit + size * (2 * (window / size))
shifted_parts window size bit = parts window (window / size) (window % size) size (bit_value bit) (div-add-mod' window size)

pub shifted-div : (window size : ℕ) (bit : Bool) → 0 < size → shifted window bit / size ≡ shifted (window % size) bit / size + 2 * (window / size)
shifted-div window size bit some = ap (λ k. k / size) (shifted_parts window size bit) ∙ add-mul-div_left (shifted (window % size) bit) (2 * (window / size)) some

pub shifted-mod : (window size : ℕ) (bit : Bool) → shifted window bit % size ≡ shifted (window % size) bit % size
shifted-mod window size bit = ap (λ k. k % size) (shifted_parts window size bit) ∙ add-mul-mod_self_left (shifted (window % size) bit) size (2 * (window / size))

shifted-half : (window : ℕ) (bit : Bool) → shifted window bit / 2 ≡ window
shifted-half window true = omega arith
shifted-half window false = omega arith

pub power_next : (n : ℕ) → 2 ^ suc n ≡ 2 * 2 ^ n
power_next n = let next = pow-suc 2 n in omega (arith, next)

-- without its last n bits
window_before : (members : List ℕ) (n k : ℕ) → window_of members (k + n) / 2 ^ n ≡ window_of members k
window_before members zero k = div-one (window_of members (k + 0)) ∙ (let same : k + 0 ≡ k = omega arith in ap (window_of members) same)
window_before members (suc n) k =
    let same : k + suc n ≡ suc (k + n) = omega arith in
    ap (λ p. window_of members p / 2 ^ suc n) same
    ∙ ap (λ size. window_of members (suc (k + n)) / size) (power_next n)
    ∙ sym (div-div-eq-div-mul (window_of members (suc (k + n))) 2 (2 ^ n))
    ∙ ap (λ w. w / 2 ^ n) (shifted-half (window_of members (k + n)) (is_member (k + n) members))
    ∙ window_before members n k

window_small : (members : List ℕ) (position : ℕ) → window_of members position < 2 ^ position
window_small members zero = omega arith
window_small members (suc position) = omega (arith, window_small members position, bit_small (is_member position members), power_next position)

pub window_within : (members : List ℕ) (n position : ℕ) → position ≤ n → window_of members position < 2 ^ n
window_within members n position few = let larger : 2 ^ position ≤ 2 ^ n = pow-le-pow_right (omega arith) few in omega (arith, larger, window_small members position)

bit_tested : (value : ℕ) (bit : Bool) → value ≡ bit_value bit → (value == 1) ≡ bit
bit_tested value true is = ap (λ k. k == 1) is
bit_tested value false is = ap (λ k. k == 1) is

-- the bit that leaves the last n
pub bit_leaving : (members : List ℕ) (n position : ℕ)
    → (shifted (window_of members position % 2 ^ n) (is_member position members) / 2 ^ n == 1) ≡ is_member position (moved_up n members)
bit_leaving members n position = ⊎_elim early late (cases_lt position n)
  where
    early : position < n → (shifted (window_of members position % 2 ^ n) (is_member position members) / 2 ^ n == 1) ≡ is_member position (moved_up n members)
    early less =
        let whole = mod-eq_of_lt (window_within members n position (omega (arith, less))) in
        let small = window_within members n (suc position) (omega (arith, less)) in
        ap (λ w. shifted w (is_member position members) / 2 ^ n == 1) whole
        ∙ ap (λ k. k == 1) (div-eq_of_lt small)
        ∙ sym (is_member-moved_up_below position n members less)

    late_at : (k : ℕ) → position ≡ k + n → (shifted (window_of members position % 2 ^ n) (is_member position members) / 2 ^ n == 1) ≡ is_member position (moved_up n members)
    late_at k is =
        let next : suc position ≡ suc k + n = omega (arith, is) in
        let whole : shifted (window_of members position) (is_member position members) / 2 ^ n ≡ window_of members (suc k)
        = ap (λ p. window_of members p / 2 ^ n) next ∙ window_before members n (suc k) in
        let before : window_of members position / 2 ^ n ≡ window_of members k = ap (λ p. window_of members p / 2 ^ n) is ∙ window_before members n k in
        let split = shifted-div (window_of members position) (2 ^ n) (is_member position members) (pow_pos n) in
        bit_tested (shifted (window_of members position % 2 ^ n) (is_member position members) / 2 ^ n) (is_member k members) (omega (arith, whole, before, split))
        ∙ sym (ap (λ p. is_member p (moved_up n members)) is ∙ is_member-moved_up k n members)

    late : n ≤ position → (shifted (window_of members position % 2 ^ n) (is_member position members) / 2 ^ n == 1) ≡ is_member position (moved_up n members)
    late at_least = late_at (position - n) (omega (arith, at_least))

-- and those that are left
pub bits_left : (members : List ℕ) (n position : ℕ) → shifted (window_of members position % 2 ^ n) (is_member position members) % 2 ^ n ≡ window_of members (suc position) % 2 ^ n
bits_left members n position = sym (shifted-mod (window_of members position) (2 ^ n) (is_member position members))

-- a window with a last bit is 0 where the bit and the window without it are
none_in_half : (window size : ℕ) (bit : Bool) → shifted window bit % (2 * size) ≡ 0 → (bit ≡ false) × (window % size ≡ 0)
none_in_half window size bit none = by_bit bit none
  where
    even : (quotient value : ℕ) → 2 * window + value ≡ quotient * (2 * size) → value < 2 → (value ≡ 0) × (window ≡ size * quotient)
    even quotient value is small = halves (size * quotient) value (omega (arith, is)) small
      where
        halves : (product value : ℕ) → 2 * window + value ≡ 2 * product → value < 2 → (value ≡ 0) × (window ≡ product)
        halves product value same small = (omega (arith, same, small), omega (arith, same, small))

    by_bit : (bit : Bool) → shifted window bit % (2 * size) ≡ 0 → (bit ≡ false) × (window % size ≡ 0)
    by_bit true none = absurd (let found = even ((2 * window + 1) / (2 * size)) 1 (omega (arith, div-add-mod' (2 * window + 1) (2 * size), none)) (omega arith) in omega (arith, found.0))
    by_bit false none =
        (let found = even ((2 * window + 0) / (2 * size)) 0 (omega (arith, div-add-mod' (2 * window + 0) (2 * size), none)) (omega arith) in
        (refl, ap (λ w. w % size) found.1 ∙ mul-mod_right size ((2 * window + 0) / (2 * size))))

some_in_half : (window size : ℕ) → window % size ≡ 0 → shifted window false % (2 * size) ≡ 0
some_in_half window size none =
    ap (λ w. w % (2 * size)) (doubled window (window / size) (omega (arith, div-add-mod' window size, none))) ∙ mul-mod_right (2 * size) (window / size)
  where
    doubled : (window quotient : ℕ) → quotient * size ≡ window → 2 * window + 0 ≡ 2 * size * quotient
    doubled window quotient is = omega (arith, is)

-- the last n bits are 0 exactly where no member is among their positions
pub none_in_window : (members : List ℕ) (n position : ℕ) → window_of members position % 2 ^ n ≡ 0 → (k : ℕ) → k < position → position ≤ k + n → is_member k members ≡ false
none_in_window members zero position none k below near = absurd (omega (arith, below, near))
none_in_window members (suc n) zero none k below near = absurd (omega (arith, below))
none_in_window members (suc n) (suc position) none k below near =
    let halved = none_in_half (window_of members position) (2 ^ n) (is_member position members)
    (ap (λ size. shifted (window_of members position) (is_member position members) % size) (sym (power_next n)) ∙ none) in
    ⊎_elim (λ less. none_in_window members n position halved.1 k less (omega (arith, near)))
    (λ at_least. (let same : position ≡ k = omega (arith, at_least, below) in subst (λ p. is_member p members ≡ false) same halved.0)) (cases_lt k position)

pub some_in_window : (members : List ℕ) (n position : ℕ) → window_of members position % 2 ^ n ≢ 0 → (k : ℕ) × (k < position) × (position ≤ k + n) × (is_member k members ≡ true)
some_in_window members zero position some = absurd (some (mod-one (window_of members position)))
some_in_window members (suc n) zero some = absurd (some (zero-mod (2 ^ suc n)))
some_in_window members (suc n) (suc position) some = by_bit (some_in_window members n position) (is_member position members) refl
  where
    by_bit : (window_of members position % 2 ^ n ≢ 0 → (k : ℕ) × (k < position) × (position ≤ k + n) × (is_member k members ≡ true))
        → (bit : Bool) → is_member position members ≡ bit → (k : ℕ) × (k < suc position) × (suc position ≤ k + suc n) × (is_member k members ≡ true)
    by_bit others true is = (position, omega arith, omega arith, is)
    by_bit others false is =
        (let found = others (λ none. some (
        ap (λ bit. shifted (window_of members position) bit % 2 ^ suc n) is
        ∙ ap (λ size. shifted (window_of members position) false % size) (power_next n) ∙ some_in_half (window_of members position) (2 ^ n) none)) in
        (found.0, omega (arith, found.1), omega (arith, found.2), found.3))

-- where a window is too long, its machine has more states than any limit
more_than_any : (n : ℕ) → 30 < n → 2147483648 ≤ 2 ^ n
more_than_any n long = let larger : 2 ^ 31 ≤ 2 ^ n = pow-le-pow_right (omega arith) (let next : 31 ≤ n = omega (arith, long) in next) in larger

pub too_many_windows : (direction : Direction) (s t n limit : ℕ) → s ≢ t → 30 < n → limit ≤ 4000000000 → limit < 8 * (states_of (moved_form direction s t n) + 1)
too_many_windows Up s t n limit other long small =
    subst (λ test. limit < 8 * ((if test then (if n == 0 then 1 else 2) else 2 ^ n + 1) + 1)) (sym (ne_eqb s t other)) (omega (arith, small, more_than_any n long))
too_many_windows Down s t n limit other long small =
    subst (λ test. limit < 8 * ((if test then (if n == 0 then 1 else 2) else 2 ^ (n + 1)) + 1)) (sym (ne_eqb s t other))
    (omega (arith, small, more_than_any (n + 1) (omega (arith, long))))

-- and where it is not, there are few windows
pub some_windows : (n size : ℕ) → size ≡ 2 ^ n → 1 ≤ size
some_windows n size is = omega (arith, is, pow_pos n)

pub few_windows : (n size : ℕ) → size ≡ 2 ^ n → n ≤ 30 → size ≤ 1073741824
few_windows n size is short = let larger : 2 ^ n ≤ 2 ^ 30 = pow-le-pow_right (omega arith) short in omega (arith, is, larger)
