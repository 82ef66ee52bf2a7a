-- Windows let out bit by bit tell states apart, where each other bit leads to the state 0.
use Rattle.std.proofs.Common.{◌≡◌, ◌≢◌, ℕ, zero, suc, ◌+◌, ◌*◌, ◌/◌, ◌%◌, ◌^◌, ◌<◌, ◌==◌, Bool, true, false, if◌then◌else◌, refl, sym, ap, subst, ◌∙◌, arith}
use Rattle.std.proofs.lemmas.Bool.Decides.{nat_tests}
use Rattle.std.proofs.lemmas.Nat.{div-add-mod', div_below, mod-mul-add, mod_below, pow-add, pow_pos, shl_below}
use Rattle.ms_dfa_explore.specs.declared.small.TrackBits.{TrackBits}
use Rattle.ms_dfa_explore.specs.Small.{TransitionTable}
use Rattle.ms_basic.specs.Sets.{is_same}
use Rattle.ms_basic.specs.inner.Apart.{AreApart, AreOf}
use Rattle.ms_basic.specs.inner.Windows.{shifted}
use Rattle.ms_basic.proofs.ApartLemmas.{by_letter, is_same_itself, now, turned}
use Rattle.ms_basic.proofs.SetLemmas.{same_bits}
use Rattle.ms_basic.proofs.WindowLemmas.{power_next}

-- two bits that are both 1 or both not
same_bit : (a b : ℕ) → a < 2 → b < 2 → (a == 1) ≡ (b == 1) → a ≡ b
same_bit a b small_a small_b same = grind (arith, nat_tests, small_a, small_b, same)

-- the bit that leaves a window, and the window that is left
abbrev pub leaving : ℕ → ℕ → Bool
leaving n window = shifted window false / 2 ^ n == 1

abbrev pub left : ℕ → ℕ → ℕ
left n window = shifted window false % 2 ^ n

-- they tell the window
same_window : (n one other : ℕ) → one < 2 ^ n → other < 2 ^ n → leaving n one ≡ leaving n other → left n one ≡ left n other → one ≡ other
same_window n one other small_one small_other same_leaving same_left =
    let same : shifted one false / 2 ^ n ≡ shifted other false / 2 ^ n
    = same_bit (shifted one false / 2 ^ n) (shifted other false / 2 ^ n) (div_below (shifted one false) (2 ^ n) 2 (pow_pos n) (omega (arith, small_one)))
    (div_below (shifted other false) (2 ^ n) 2 (pow_pos n) (omega (arith, small_other))) same_leaving in
    let product : shifted one false / 2 ^ n * 2 ^ n ≡ shifted other false / 2 ^ n * 2 ^ n = ap (λ q. q * 2 ^ n) same in
    omega (arith, div-add-mod' (shifted one false) (2 ^ n), div-add-mod' (shifted other false) (2 ^ n), product, same_left)

-- a window with so many zeros at its end has one more
one_more_zero : (high low n window part : ℕ) → suc high + low ≡ n → window ≡ part * 2 ^ low → left n window ≡ part % 2 ^ high * 2 ^ suc low
one_more_zero high low n window part is has =
    ap (λ w. w % 2 ^ n)
    (whole part (part / 2 ^ high) (part % 2 ^ high) (2 ^ high) (2 ^ low) (2 ^ suc low) (2 ^ n) window has (sym (div-add-mod' part (2 ^ high))) (power_next low) size)
    ∙ mod-mul-add (part / 2 ^ high) (2 ^ n) (part % 2 ^ high * 2 ^ suc low)
    (subst (λ k. part % 2 ^ high * 2 ^ suc low < 2 ^ k) all (shl_below (part % 2 ^ high) high (suc low) (mod_below part (2 ^ high) (pow_pos high))))
  where
    all : high + suc low ≡ n
    all = omega (arith, is)

    size : 2 ^ n ≡ 2 ^ high * 2 ^ suc low
    size = ap (λ k. 2 ^ k) (sym all) ∙ pow-add 2 high (suc low)

    whole : (part above below upper lower next size window : ℕ) → window ≡ part * lower → part ≡ above * upper + below → next ≡ 2 * lower → size ≡ upper * next
        → shifted window false ≡ above * size + below * next
    whole part above below upper lower next size window is_window is_part is_next is_size =
        let product : part * lower ≡ (above * upper + below) * lower = ap (λ k. k * lower) is_part in
        let double : below * next ≡ below * (2 * lower) = ap (λ k. below * k) is_next in
        let halves : above * size ≡ above * (upper * (2 * lower)) = ap (λ k. above * k) (is_size ∙ ap (λ k. upper * k) is_next) in
        omega (arith, is_window, product, double, halves)

-- and it is 0 where all are
emptied : (n window part : ℕ) → window ≡ part * 2 ^ n → window < 2 ^ n → window ≡ 0
emptied n window zero has small = omega (arith, has)
emptied n window (suc part) has small = absurd (omega (arith, has, small))

-- some states of the machine are windows, and go on where the bit of a letter is the one that leaves the window
pub record LetsOut (table : TransitionTable) (n : ℕ) (at : ℕ → ℕ) (letter : Bool → TrackBits) : Type 0 where
  pub of : (bit : Bool) → AreOf 2 (letter bit)
  pub lost : (bit : Bool) → table.step 0 (letter bit) ≡ 0
  pub step : (window : ℕ) (bit : Bool) → window < 2 ^ n → table.step (at window) (letter bit) ≡ (if is_same bit (leaving n window) then at (left n window) else 0)
  pub differ : table.sign (at 0) ≢ table.sign 0

module _ (table : TransitionTable) (n : ℕ) (at : ℕ → ℕ) (letter : Bool → TrackBits) (lets_out : LetsOut table n at letter) where
  left_small : (window : ℕ) → left n window < 2 ^ n
  left_small window = mod_below (shifted window false) (2 ^ n) (pow_pos n)

  onward : (window other next : ℕ) → window < 2 ^ n → table.step other (letter (leaving n window)) ≡ next → AreApart 2 table (at (left n window)) next
      → AreApart 2 table (at window) other
  onward window other next small leads rest =
      by_letter 2 table (letter (leaving n window)) (lets_out.of (leaving n window)) (at window) other (at (left n window)) next
      (lets_out.step window (leaving n window) small ∙ ap (λ same. if same then at (left n window) else 0) (is_same_itself (leaving n window))) leads rest

  window_and_lost : (high low window part : ℕ) → high + low ≡ n → window ≡ part * 2 ^ low → window < 2 ^ n → AreApart 2 table (at window) 0
  window_and_lost zero low window part is has small =
      let all : low ≡ n = omega (arith, is) in
      let empty = emptied n window part (has ∙ ap (λ k. part * 2 ^ k) all) small in
      now 2 table (at window) 0 (λ same. lets_out.differ (sym (ap (λ w. table.sign (at w)) empty) ∙ same))
  window_and_lost (suc high) low window part is has small =
      onward window 0 0 small (lets_out.lost (leaving n window))
      (window_and_lost high (suc low) (left n window) (part % 2 ^ high) (omega (arith, is)) (one_more_zero high low n window part is has) (left_small window))

  both_windows : (high low window part other piece : ℕ) → high + low ≡ n → window ≡ part * 2 ^ low → other ≡ piece * 2 ^ low → window < 2 ^ n → other < 2 ^ n → window ≢ other
      → AreApart 2 table (at window) (at other)
  both_windows zero low window part other piece is has other_has small other_small differs =
      let all : low ≡ n = omega (arith, is) in
      let empty = emptied n window part (has ∙ ap (λ k. part * 2 ^ k) all) small in
      let other_empty = emptied n other piece (other_has ∙ ap (λ k. piece * 2 ^ k) all) other_small in
      absurd (differs (empty ∙ sym other_empty))
  both_windows (suc high) low window part other piece is has other_has small other_small differs =
      by_test (is_same (leaving n window) (leaving n other)) refl
      (both_windows high (suc low) (left n window) (part % 2 ^ high) (left n other) (piece % 2 ^ high) (omega (arith, is))
      (one_more_zero high low n window part is has) (one_more_zero high low n other piece is other_has) (left_small window) (left_small other))
    where
      by_test : (test : Bool) → is_same (leaving n window) (leaving n other) ≡ test → (left n window ≢ left n other → AreApart 2 table (at (left n window)) (at (left n other)))
          → AreApart 2 table (at window) (at other)
      by_test true is_test rest =
          onward window (at other) (at (left n other)) small (lets_out.step other (leaving n window) other_small ∙ ap (λ same. if same then at (left n other) else 0) is_test)
          (rest (λ same. differs (same_window n window other small other_small (same_bits (leaving n window) (leaving n other) is_test) same)))
      by_test false is_test rest =
          onward window (at other) 0 small (lets_out.step other (leaving n window) other_small ∙ ap (λ same. if same then at (left n other) else 0) is_test)
          (window_and_lost high (suc low) (left n window) (part % 2 ^ high) (omega (arith, is)) (one_more_zero high low n window part is has) (left_small window))

  pub lost_apart : (window : ℕ) → window < 2 ^ n → AreApart 2 table 0 (at window)
  lost_apart window small = turned 2 table (at window) 0 (window_and_lost n 0 window window (omega arith) (omega arith) small)

  pub windows_apart : (window other : ℕ) → window < 2 ^ n → other < 2 ^ n → window ≢ other → AreApart 2 table (at window) (at other)
  windows_apart window other small other_small differs = both_windows n 0 window window other other (omega arith) (omega arith) (omega arith) small other_small differs
