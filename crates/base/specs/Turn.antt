-- A turn of a recursion by fuel: it goes on with something, or it is over with an answer.
pub data Turn (A B : Type 0) : Type 0 where
  again : A → Turn A B
  over : B → Turn A B

module _ {A B : Type 0} where
  -- the answer after a turn, where `go` answers what goes on
  abbrev pub after : (A → B) → Turn A B → B
  after go (again a) = go a
  after go (over b) = b

  -- P holds of what goes on, Q of the answer
  abbrev pub OnTurn : (A → Type 0) → (B → Type 0) → Turn A B → Type 0
  OnTurn P Q (again a) = P a
  OnTurn P Q (over b) = Q b
