-- Where the symbols of a kind lead from a state, as a list by symbols: the state that each leads to, if it leads to one.
use Rattle.std.specs.Prelude.{ℕ, ◌<◌, ◌≡◌, List, [], ◌∷◌, length, get_or, Option, Some, None}
use Rattle.base.specs.Lists.{keep}
use Rattle.rules.specs.Limits.{max_nonterminals}
use Rattle.rules.specs.declared.StateIndex.{StateIndex}
use Rattle.rules.specs.Records.{records}
use Rattle.rules.specs.Grammar.{is_before}
use Rattle.rules.specs.States.{Entry, State}
use Rattle.rules.specs.Table.{TableRecord, table_record}
use Rattle.room.specs.Areas.{view}
use Rattle.states.specs.StatesIn.{entry_in, state_in}
use Rattle.lr.specs.Kernels.{symbol_by}
use Rattle.table_counts.specs.Records.{kind_over}

-- a symbol of either kind
abbrev pub IsSymbol : ℕ → Type 0
IsSymbol x = x < max_nonterminals

-- the first of the entries before a symbol tells
unfoldable pub told : List Entry → Option StateIndex
told [] = None
told (e ∷ es) = Some (record { 0 = e.next })

unfoldable pub target_of : List ℕ → ℕ → State → ℕ → Option StateIndex
unfolding told keep is_before records symbol_by
target_of bytes kind state x = told (keep (λ e. is_before (records bytes) (symbol_by kind x) e.item) state)

-- what is told first stays
unfoldable pub or_else : Option StateIndex → Option StateIndex → Option StateIndex
or_else None b = b
or_else (Some a) b = Some a

-- ---- the list, which has a place for each symbol
abbrev pub HasAll : List (Option StateIndex) → Type 0
HasAll targets = length targets ≡ max_nonterminals

pub record NoTargets (targets : List (Option StateIndex)) : Type 0 where
  pub long : HasAll targets
  pub none : (x : ℕ) → get_or targets x None ≡ None

-- what the entry at place k tells is in it
pub record EntryGathered (bytes work : List ℕ) (kind k : ℕ) (targets after : List (Option StateIndex)) : Type 0 where
  pub long : HasAll after
  pub each : (x : ℕ) → IsSymbol x → get_or after x None ≡ or_else (get_or targets x None) (target_of bytes kind (entry_in (view work) k ∷ []) x)

pub record Gathered (bytes work : List ℕ) (s kind : ℕ) (targets : List (Option StateIndex)) : Type 0 where
  pub each : (x : ℕ) → IsSymbol x → get_or targets x None ≡ target_of bytes kind (state_in (view work) s) x

-- the record of state s over a symbol, if it leads somewhere
unfoldable pub over_target : ℕ → ℕ → ℕ → Option StateIndex → List TableRecord
unfolding table_record kind_over
over_target s kind x None = []
over_target s kind x (Some to) = table_record s (kind_over kind) x to.0 ∷ []

abbrev pub to_target : ℕ → ℕ → List (Option StateIndex) → ℕ → List TableRecord
to_target s kind targets x = over_target s kind x (get_or targets x None)
