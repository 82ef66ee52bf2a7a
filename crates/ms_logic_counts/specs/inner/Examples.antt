-- Numbers for the worked examples.
use Rattle.std.specs.Prelude.{◌≡◌, ℕ, ◌%◌, ◌+◌, ◌<◌, ◌≤◌}

abbrev pub IsBelow : ℕ → ℕ → Type 0
IsBelow bound item = item < bound

abbrev pub IsNumber : ℕ → Type 0
IsNumber item = Unit {0}

abbrev pub AreEqual : ℕ → ℕ → Type 0
AreEqual one other = one ≡ other

-- numbers are alike where they leave one remainder by 2
abbrev pub HaveOneRemainder : ℕ → ℕ → Type 0
HaveOneRemainder one other = one % 2 ≡ other % 2

-- one number is at most by 1 more than the other
abbrev pub IsHardlyMore : ℕ → ℕ → Type 0
IsHardlyMore one other = one ≤ other + 1

abbrev pub remainder : ℕ → ℕ
remainder item = item % 2
