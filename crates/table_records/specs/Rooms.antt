-- The table room: bytes written one after another, and the part of it that is lent to the writer of a record.
use Prim.Native.Nat.{ℕ, ◌+◌, ◌*◌, ◌-◌, ◌≤◌}
use mathlib.Core.Path.{◌≡◌, refl, sym, ap, ap₂, ◌∙◌}
use mathlib.Core.List.{List, [], ◌∷◌, ◌++◌, append-nil, append_assoc}
use native.Mathlib.Omega.{arith}
use lib.ListN.{length, take, drop, length-append, length-take, length-drop, take-append-drop, drop_of_length-le}
use lib.Seq.{take_all, take_at, drop_at, drop-drop}
use borrow.Rule.Slice.PartMut.{put_mid, mid_of, post_of}
use Rattle.base.specs.Lists.{concat}
use Rattle.rules.specs.Table.{TableRecord, record_bytes, table_bytes, two_bytes}
use Rattle.rules.specs.Rooms.{overwritten}
use Rattle.table_counts.specs.Sinks.{SinkLaws, Took}
use Rattle.table_records.specs.Written.{written_at, wrote, fits}

-- ---- the bytes of records
record_length : (r : TableRecord) → length (record_bytes r) ≡ 8
unfolding record_bytes two_bytes
record_length r = refl

pub bytes_length : (rs : List TableRecord) → length (table_bytes rs) ≡ 8 * length rs
unfolding table_bytes concat
bytes_length [] = refl
bytes_length (r ∷ rs) = length-append (record_bytes r) (table_bytes rs) ∙ omega (arith, record_length r, bytes_length rs)

pub bytes_append : (rs qs : List TableRecord) → table_bytes (rs ++ qs) ≡ table_bytes rs ++ table_bytes qs
unfolding table_bytes concat
bytes_append [] qs = refl
bytes_append (r ∷ rs) qs = ap (λ (l : List ℕ). record_bytes r ++ l) (bytes_append rs qs) ∙ sym (append_assoc (record_bytes r) (table_bytes rs) (table_bytes qs))

pub bytes_one : (r : TableRecord) → table_bytes (r ∷ []) ≡ record_bytes r
unfolding table_bytes concat
bytes_one r = append-nil (record_bytes r)

-- ---- bytes written
module _ (at : ℕ) (room : List ℕ) where
  pub written_none : written_at at [] room ≡ room
  unfolding written_at overwritten
  written_none = take-append-drop at room

  module _ (bs : List ℕ) (h : at + length bs ≤ length room) where
    abbrev front : List ℕ
    front = take at room ++ bs

    front_length : length front ≡ at + length bs
    front_length = simp (length-append, length-take) (omega arith)

    as_front : written_at at bs room ≡ front ++ drop (at + length bs) room
    unfolding written_at overwritten
    as_front = ap (λ (l : List ℕ). take at room ++ (bs ++ l)) (drop-drop (length bs) at room) ∙ sym (append_assoc (take at room) bs (drop (at + length bs) room))

    pub written_length : length (written_at at bs room) ≡ length room
    written_length = ap length as_front ∙ length-append front (drop (at + length bs) room) ∙ omega (arith, front_length, length-drop (at + length bs) room)

    before_rest : take (at + length bs) (written_at at bs room) ≡ front
    before_rest = ap (take (at + length bs)) as_front ∙ take_at front (drop (at + length bs) room) (at + length bs) front_length

    rest : drop (at + length bs) (written_at at bs room) ≡ drop (at + length bs) room
    rest = ap (drop (at + length bs)) as_front ∙ drop_at front (drop (at + length bs) room) (at + length bs) front_length

    behind : (cs : List ℕ) → drop (length cs) (drop (at + length bs) room) ≡ drop (length (bs ++ cs)) (drop at room)
    behind cs =
        let e : at + length bs + length cs ≡ at + length (bs ++ cs) = omega (arith, length-append bs cs) in
        drop-drop (length cs) (at + length bs) room ∙ ap (λ (k : ℕ). drop k room) e ∙ sym (drop-drop (length (bs ++ cs)) at room)

    pub written_then : (cs : List ℕ) → written_at (at + length bs) cs (written_at at bs room) ≡ written_at at (bs ++ cs) room
    unfolding written_at overwritten
    written_then cs =
        ap₂ (λ (x y : List ℕ). x ++ (cs ++ drop (length cs) y)) before_rest rest
        ∙ append_assoc (take at room) bs _
        ∙ ap (λ (l : List ℕ). take at room ++ l) (sym (append_assoc bs cs _) ∙ ap (λ (l : List ℕ). (bs ++ cs) ++ l) (behind cs))

-- ---- what a callee that was lent `&mut room[at..]` has written at the front of its part
pub written_behind : (room bs ys : List ℕ) (at : ℕ) → at ≤ length room → ys ≡ overwritten bs (mid_of at (length room - at) room) → put_mid at (length room - at) room ys ≡ written_at at bs room
unfolding written_at
written_behind room bs ys at h e =
    let whole : mid_of at (length room - at) room ≡ drop at room = take_all (length room - at) (drop at room) (simp length-drop (omega arith)) in
    let none : post_of at (length room - at) room ≡ [] = drop_of_length-le (drop at room) {i = length room - at} (simp length-drop (omega arith)) in
    ap (λ (l : List ℕ). take at room ++ l) (ap (λ (l : List ℕ). ys ++ l) none ∙ append-nil ys ∙ e ∙ ap (overwritten bs) whole)

-- ---- the room is a sink
no_bytes : (at : ℕ) (room : List ℕ) → written_at at (table_bytes []) room ≡ room
unfolding table_bytes concat
no_bytes at room = written_none at room

module _ (rs : List TableRecord) (at : ℕ) (room : List ℕ) (h : fits (at + length rs) room) where
  enough : 8 * at + length (table_bytes rs) ≤ length room
  enough = omega (arith, bytes_length rs)

  wrote_more : (qs : List TableRecord) → wrote (at + length rs) qs (wrote at rs room) ≡ wrote at (rs ++ qs) room
  wrote_more qs =
      let e : 8 * (at + length rs) ≡ 8 * at + length (table_bytes rs) = omega (arith, bytes_length rs) in
      rw (e, bytes_append rs qs) (written_then (8 * at) room (table_bytes rs) enough (table_bytes qs))

  wrote_length : length (wrote at rs room) ≡ length room
  wrote_length = written_length (8 * at) room (table_bytes rs) enough

pub written_laws : SinkLaws wrote fits
written_laws = record {
  none = λ at room. no_bytes (8 * at) room;
  more = λ rs qs at room h. wrote_more rs at room h qs;
  held = λ rs at n room h g. omega (arith, wrote_length rs at room (omega arith));
  fewer = λ n m room h g. omega arith;
}

-- what the writer of a record has made of the part that it was lent
pub record_put : (r : TableRecord) (at : ℕ) (room ys : List ℕ) → fits (at + 1) room → ys ≡ overwritten (record_bytes r) (mid_of (8 * at) (length room - 8 * at) room)
    → Took wrote (r ∷ []) at room (put_mid (8 * at) (length room - 8 * at) room ys) (at + 1)
record_put r at room ys h e = record {
  place = refl;
  left = written_behind room (record_bytes r) ys (8 * at) (omega arith) e ∙ ap (λ (l : List ℕ). written_at (8 * at) l room) (sym (bytes_one r));
}

-- the whole table
pub table_written : (rs : List TableRecord) (room table : List ℕ) (end : ℕ) → Took wrote rs 0 room table end → table ≡ overwritten (table_bytes rs) room
unfolding written_at overwritten
table_written rs room table end took = took.left
