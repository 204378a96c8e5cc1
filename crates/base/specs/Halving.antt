-- What a search by halving asks of the test that it goes by.
use Rattle.std.specs.Prelude.{ℕ, ◌≤◌, ◌<◌, ◌≡◌, Bool, true}

-- each answer at 0, 1, .., n - 1 is the test's
abbrev pub Answers : ℕ → (ℕ → Bool → Type 0) → (ℕ → Bool) → Type 0
Answers n gives test = (i : ℕ) (b : Bool) → i < n → gives i b → b ≡ test i

-- of 0, 1, .., n - 1 those that pass the test stand in front
abbrev pub PassInFront : ℕ → (ℕ → Bool) → Type 0
PassInFront n test = (i j : ℕ) → i ≤ j → j < n → test j ≡ true → test i ≡ true
