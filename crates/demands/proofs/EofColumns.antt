-- Columns of a lane table that have no token but Eof, and what keeps them so.
use Prim.Native.Nat.{ℕ, zero, suc}
use mathlib.Core.Path.{◌≡◌, refl}
use mathlib.Core.Logic.{⊎_elim}
use mathlib.Core.List.{List, [], ◌∷◌}
use lib.ListN.{length, get_or, set, replicate}
use lib.Dec.{eqb}
use Rattle.base.specs.Among.{Among}
use Rattle.base.specs.Lists.{up_to, keep}
use Rattle.base.proofs.Lists.{after_set, fold_keeps}
use Rattle.base.proofs.Places.{place}
use Rattle.rules.specs.Tokens.{TokenSet, Has, join}
use Rattle.rules.specs.Lanes.{Row, LaneTable, no_row, row_of, column_of, enter, add_successor, join_columns, no_columns, all_columns}
use Rattle.rules.specs.Merge.{Merge, head_of, row_of_origin, group_columns}
use Rattle.sets.proofs.Laws.{has_none, has_join}

-- what holds of an element and of the default holds at every place of its copies
pub at_copies : {A : Type 0} (P : A → Type 0) (k : ℕ) (x d : A) → P x → P d → (s : ℕ) → P (get_or (replicate k x) s d)
at_copies P zero x d p q s = q
at_copies P (suc k) x d p q zero = p
at_copies P (suc k) x d p q (suc s) = at_copies P k x d p q s

module _ (n : ℕ) where
  -- ---- sets with no token but Eof
  abbrev pub OnEof : TokenSet → Type 0
  OnEof s = (t : ℕ) → Has s t → t ≡ n

  pub none_on_eof : OnEof 0
  none_on_eof t h = absurd (has_none t h)

  join_on_eof : (a b : TokenSet) → OnEof a → OnEof b → OnEof (join a b)
  join_on_eof a b p q t h = ⊎_elim (p t) (q t) ((has_join a b t).0 h)

  -- ---- column c, of one row and of every row
  abbrev pub ColumnOnEof : ℕ → List TokenSet → Type 0
  ColumnOnEof c columns = OnEof (column_of columns c)

  abbrev pub RowsOnEof : ℕ → LaneTable → Type 0
  RowsOnEof c table = (s : ℕ) → ColumnOnEof c (row_of table s).columns

  pub empty_on_eof : (c k : ℕ) → ColumnOnEof c (replicate k 0)
  unfolding column_of
  empty_on_eof c k = at_copies OnEof k 0 0 none_on_eof none_on_eof c

  joined_on_eof : (c : ℕ) (cs ds : List TokenSet) → ColumnOnEof c cs → ColumnOnEof c ds → ColumnOnEof c (join_columns cs ds)
  unfolding join_columns column_of
  joined_on_eof c [] ds p q = q
  joined_on_eof c (x ∷ cs) [] p q = p
  joined_on_eof zero (x ∷ cs) (y ∷ ds) p q = join_on_eof x y p q
  joined_on_eof (suc c) (x ∷ cs) (y ∷ ds) p q = joined_on_eof c cs ds p q

  -- tokens are entered in column d
  pub enter_on_eof : (c s d : ℕ) (tokens : TokenSet) (table : LaneTable) → (d ≡ c → OnEof tokens) → RowsOnEof c table
      → RowsOnEof c (enter s d tokens table)
  unfolding enter row_of column_of
  enter_on_eof c s d tokens table p h = after_set (λ t (row : Row). ColumnOnEof c row.columns) table s _ no_row changed h
    where
      row : Row
      row = row_of table s

      entered : TokenSet
      entered = join (column_of row.columns d) tokens

      changed : ColumnOnEof c (set row.columns d entered)
      changed =
          after_set (λ k (v : TokenSet). k ≡ c → OnEof v) row.columns d entered 0
          (λ e. join_on_eof (column_of row.columns d) tokens (rw e (h s)) (p e)) (λ k e. rw e (h s)) c refl

  pub successor_on_eof : (c p s : ℕ) (table : LaneTable) → RowsOnEof c table → RowsOnEof c (add_successor p s table)
  unfolding add_successor row_of
  successor_on_eof c p s table h = after_set (λ t (row : Row). ColumnOnEof c row.columns) table p _ no_row (h p) h

  -- ---- the columns of all states, and of a group
  pub all_on_eof : (c : ℕ) (table : LaneTable) → RowsOnEof c table → ColumnOnEof c (all_columns table)
  unfolding all_columns no_columns row_of
  all_on_eof c table h =
      fold_keeps (λ (row : Row) columns. join_columns columns row.columns) (ColumnOnEof c) table
      (λ row m columns k. joined_on_eof c columns row.columns k (in_row row m))
      (no_columns table) (empty_on_eof c (length (row_of table 0).columns))
    where
      in_row : (row : Row) → Among row table → ColumnOnEof c row.columns
      in_row row m = let (s, b, q) = place no_row m in rw q (h s)

  pub group_on_eof : (c : ℕ) (table : LaneTable) (m : Merge) (head : ℕ) → RowsOnEof c table → ColumnOnEof c (group_columns table m head)
  unfolding group_columns no_columns row_of_origin
  group_on_eof c table m head h =
      fold_keeps (λ s columns. join_columns columns (row_of_origin table m s).columns) (ColumnOnEof c)
      (keep (λ s. eqb (head_of m s) head) (up_to (length m.states)))
      (λ s among columns k. joined_on_eof c columns (row_of_origin table m s).columns k (h _))
      (no_columns table) (empty_on_eof c (length (row_of table 0).columns))
